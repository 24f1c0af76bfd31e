-- What is told of one variable: the pair of its name and its value's tree, or the refusal.
use mathlib.Core.Path.{◌≡◌, refl, sym, ap, ◌∙◌, subst}
use mathlib.Core.Bool.{Bool, true, false, cond}
use mathlib.Core.Option.{Option, none, some}
use mathlib.Core.List.{List, ◌++◌}
use Prim.Native.Nat.{ℕ, ◌+◌, ◌≤◌}
use native.Mathlib.Omega.{arith}
use lib.ListN.{length}
use Rattle.paper_table.specs.TableNumbers.{tag_name}
use Rattle.paper_table.specs.References.{Ref, is_non_null}
use Rattle.paper_values.specs.ValueNumbers.{tag_pair, reason_missing}
use Rattle.paper_values.specs.Written.{house_field_bytes}
use Rattle.paper_values.specs.Values.{Name, At, Value, Due, Tree, Pairs, no_pairs, Out, Got, No}
use Rattle.paper_values.specs.Computed.{Given, pair_first, due_field, missing_due, or_default, entry_of, constant}
use Rattle.paper_values.specs.Encoding.{encode}
use Rattle.value_writing.specs.Writing.{place_of, Put, Room, Closed, Behind}
use Rattle.value_writing.proofs.PlaceLaws.{put_then, put_place, behind_order}
use Rattle.value_writing.proofs.EncodedLaws.{no_pairs_put, pair_put, pairs_put}
use Rattle.std.proofs.Common.{Result, Ok, Err}
use Rattle.value_kinds.specs.declared.RefusedRow.{RefusedRow}
use Rattle.value_kinds.specs.Dues.{Told}
use Rattle.value_held.specs.Given.{ToldPairs}
use Rattle.value_held.specs.Given.{kinds_in}
use Rattle.value_held.specs.Holding.{HeldAt}
use Rattle.value_ones.proofs.ToldLaws.{told_up, told_no}
use Rattle.value_variables.specs.Variables.{written, refused, told, Grows, only_of, Told as Variables-as-Told}
use Rattle.value_variables.specs.declared.WrittenPairs.{WrittenPairs}
use Rattle.value_variables.specs.declared.RefusedAt.{RefusedAt}

-- ---- the pair of a name and a value

module _ (text limit from : ℕ) (name : Name) (o : Out Tree) (p p₁ p₂ : List ℕ) (middle : ℕ) (x : Result ℕ RefusedRow) (a : Told text limit o middle p₁ p₂ x) where
  pub pair_stop : (f : RefusedRow) → x ≡ Err f → ToldPairs text limit (pair_first name o (Got no_pairs)) from p p₂ x
  pair_stop f u =
      let z = told_no text limit middle p₁ p₂ x o f a u in
      subst (λ (y : Out Tree). ToldPairs text limit (pair_first name y (Got no_pairs)) from p p₂ x) (sym z.2) (z.3, z.4)

  module _ (at : ℕ) (u : x ≡ Ok at) (q : Put limit (house_field_bytes tag_name name) (place_of limit (from + 3)) p p₁ middle) where
    pub pair_done : (p₃ : List ℕ) (e : ℕ) → from ≤ limit + 1 → Closed limit from tag_pair at p₂ p₃ e → ToldPairs text limit (pair_first name o (Got no_pairs)) from p p₃ (Ok e)
    pair_done p₃ e m w =
        let z = told_up text limit middle p₁ p₂ x o at a u in
        subst (λ (y : Out Tree). ToldPairs text limit (pair_first name y (Got no_pairs)) from p p₃ (Ok e)) (sym z.1)
        (e, refl, pairs_put limit no_pairs name z.0 from from e p p p₃ (no_pairs_put limit from p m) (pair_put limit name z.0 from (place_of limit (from + 3)) middle at e p p₁ p₂ p₃ refl q z.2 w))

    pub pair_behind : Room limit (place_of limit (from + 3)) p → length p₁ ≡ length p → length p₂ ≡ length p₁ → Behind limit from at p₂
    pair_behind w m₁ m₂ =
        let z = told_up text limit middle p₁ p₂ x o at a u in
        let b : Put limit (house_field_bytes tag_name name ++ encode z.0) (place_of limit (from + 3)) p p₂ at = put_then limit (house_field_bytes tag_name name) (encode z.0) (place_of limit (from + 3)) middle at p p₁ p₂ q z.2 in
        record { least = w.least; end = put_place limit (encode z.0) middle p₁ p₂ at z.2; order = λ h. behind_order limit (house_field_bytes tag_name name ++ encode z.0) from (place_of limit (from + 3)) at p p₂ refl b h; size = m₂ ∙ m₁ ∙ w.size }

-- ---- one variable

module _ (t : List ℕ) (gs : List Given) (v : At × Due) where
  pub only_given : (f : Ref → Out Tree) → entry_of v.1.name gs ≡ some f → only_of t gs v ≡ pair_first v.1.name (f v.1.type) (Got no_pairs)
  only_given f q = ap (λ (o : Option (Ref → Out Tree)). due_field (or_default (kinds_in t) v.0 v.1 v.1.default (Got no_pairs)) v.1 o (Got no_pairs)) q

  pub only_default : (w : Value) → entry_of v.1.name gs ≡ none → v.1.default ≡ some w → only_of t gs v ≡ pair_first v.1.name (constant (kinds_in t) w v.1.type) (Got no_pairs)
  only_default w q e =
      ap (λ (o : Option (Ref → Out Tree)). due_field (or_default (kinds_in t) v.0 v.1 v.1.default (Got no_pairs)) v.1 o (Got no_pairs)) q
      ∙ ap (λ (o : Option Value). or_default (kinds_in t) v.0 v.1 o (Got no_pairs)) e

  pub only_nothing : entry_of v.1.name gs ≡ none → v.1.default ≡ none → only_of t gs v ≡ missing_due v.0 v.1 (Got no_pairs)
  only_nothing q e =
      ap (λ (o : Option (Ref → Out Tree)). due_field (or_default (kinds_in t) v.0 v.1 v.1.default (Got no_pairs)) v.1 o (Got no_pairs)) q
      ∙ ap (λ (o : Option Value). or_default (kinds_in t) v.0 v.1 o (Got no_pairs)) e

module _ (t book s rows : List ℕ) (n : ℕ) (s1 rows1 : List ℕ) (n1 limit many from text : ℕ) (p p' held' : List ℕ) (c : Result ℕ RefusedRow) where
  abbrev Goal : ℕ → Out Pairs → Type 0
  Goal m o = Variables-as-Told t book s rows n s1 rows1 n1 limit o many from p p' held' (told text m c) × Grows many (told text m c)

  grown : (r : Result WrittenPairs RefusedAt) (e : ℕ) → r ≡ written e (many + 1) → Grows many r
  grown r e q = subst (Grows many) (sym q) (omega arith)

  kept : (r : Result WrittenPairs RefusedAt) (e : ℕ) → r ≡ written e many → Grows many r
  kept r e q = subst (Grows many) (sym q) (omega arith)

  halted : (r : Result WrittenPairs RefusedAt) (a b w : ℕ) → r ≡ refused a b w → Grows many r
  halted r a b w q = subst (Grows many) (sym q) tt

  -- with a value
  pub told_first : (name : Name) (o : Out Tree) → ((tree : Tree) → o ≡ Got tree → HeldAt t book s rows n s1 rows1 n1 held' many name tree) →
      ToldPairs text limit (pair_first name o (Got no_pairs)) from p p' c → Goal (many + 1) (pair_first name o (Got no_pairs))
  told_first name (Got tree) h a =
      let e : told text (many + 1) c ≡ written a.0 (many + 1) = ap (told text (many + 1)) a.1 in
      ((a.0, many + 1, e, a.2, (h tree refl, refl)), grown (told text (many + 1) c) a.0 e)
  told_first name (No i w) h a =
      let e : told text (many + 1) c ≡ refused i.text i.row w = ap (told text (many + 1)) a.1 ∙ ap (λ (x : ℕ). refused x i.row w) (sym a.0) in
      (e, halted (told text (many + 1) c) i.text i.row w e)

  -- without
  pub told_missing : (i : At) (d : Due) → ToldPairs text limit (missing_due i d (Got no_pairs)) from p p' c → Goal many (missing_due i d (Got no_pairs))
  told_missing i d a = go (is_non_null d.type) a
    where
      go : (b : Bool) → ToldPairs text limit (cond b (No i reason_missing) (Got no_pairs)) from p p' c → Goal many (cond b (No i reason_missing) (Got no_pairs))
      go true a =
          let e : told text many c ≡ refused i.text i.row reason_missing = ap (told text many) a.1 ∙ ap (λ (x : ℕ). refused x i.row reason_missing) (sym a.0) in
          (e, halted (told text many c) i.text i.row reason_missing e)
      go false a =
          let e : told text many c ≡ written a.0 many = ap (told text many) a.1 in
          ((a.0, many, e, a.2, refl), kept (told text many c) a.0 e)
