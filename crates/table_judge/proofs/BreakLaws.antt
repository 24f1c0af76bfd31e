-- The rules in turn, from one number on; the definitions in turn.
use mathlib.Core.Path.{◌≡◌, refl, sym, ap, subst, ◌∙◌}
use mathlib.Core.Bool.{Bool, true, false, cond}
use mathlib.Core.Option.{Option, none, some}
use mathlib.Core.List.{List, [], ◌∷◌, ◌++◌, map, head?}
use Prim.Native.Nat.{ℕ, zero, suc, ◌+◌, ◌-◌, ◌≤◌, ◌<◌}
use native.Mathlib.Omega.{arith}
use lib.ListN.{length}
use borrow.Author.Tests.{eq-eqb, ne_eqb}
use mathlib.Core.Logic.{◌⊎◌, inl, inr}
use denote.Enum.Declared.{tag_of}
use types.Run.{OneOf}
use Rattle.paper_table.specs.contracts.TableAnswer.{the_type}
use Rattle.paper_table.specs.TableNumbers.{no_place, rule_root}
use Rattle.paper_table.specs.Lists.{bytes, any_of, gather}
use Rattle.paper_table.specs.Types.{Definition, Table, is_roots, meant}
use Rattle.paper_table.specs.Places.{Place}
use Rattle.paper_table.specs.Rule16Root.{query_not_object}
use Rattle.paper_table.specs.Judging.{Break, break, rules, breaks_of, breaks, table_answer}
use Rattle.paper_table.specs.declared.TableAnswer.{TableAnswer}
use Rattle.paper_table.specs.declared.TableAnswer.TheVariants.{Accepted, Breaks}
use Rattle.paper_table.proofs.Walk.{breaks_from, definition_at, breaks_start, breaks_on, breaks_here, breaks_end}
use Rattle.table_rules_11_15_quick.specs.Keeping.{AllKept}
use Rattle.table_rules_4_8_quick.specs.Sound.{Sound}
use Rattle.table_places.specs.Placed.{placed, code_place}
use Prim.{Unit, tt}
use Rattle.std.specs.Prelude.{Result, Ok, Err}
use Rattle.table_places.specs.declared.Place.{Place as CodePlace}
use Rattle.table_judge.specs.Schema.{early_rule, promise_rule, late_rule, rule_of, NextRule, shown_at, query_answer}

-- what is said where a first break is all there may be
abbrev pub said : Option Break → TableAnswer
said o = table_answer none none o

-- the breaks of n rules, from number k on
unfoldable pub breaks_by : Table → ℕ → Definition → ℕ → ℕ → List Break
breaks_by t i d k zero = []
breaks_by t i d k (suc n) = map (break i k) (rule_of k t i d) ++ breaks_by t i d (suc k) n

pub all_rules : (t : Table) (i : ℕ) (d : Definition) → breaks_of t i d ≡ breaks_by t i d 1 16
unfolding breaks_of rules gather breaks_by rule_of early_rule late_rule promise_rule
all_rules t i d = refl

no_rule : (t : Table) (i : ℕ) (d : Definition) (k : ℕ) → breaks_by t i d k 0 ≡ []
unfolding breaks_by
no_rule t i d k = refl

one_rule : (t : Table) (i : ℕ) (d : Definition) (k n : ℕ) → breaks_by t i d k (suc n) ≡ map (break i k) (rule_of k t i d) ++ breaks_by t i d (suc k) n
unfolding breaks_by
one_rule t i d k n = refl

told : (i k : ℕ) (qs : List Place) (bs : List Break) (r : Result (Unit {0}) CodePlace) (x : CodePlace) → r ≡ placed (head? qs) → r ≡ Err x → shown_at i k r ≡ said (head? (map (break i k) qs ++ bs))
unfolding table_answer
told i k [] bs r x e f = let z : Err x ≡ Ok tt = sym f ∙ e in cc
told i k (q ∷ qs) bs r x e f = ap (shown_at i k) e

kept : (i k : ℕ) (qs : List Place) (bs : List Break) (r : Result (Unit {0}) CodePlace) → r ≡ placed (head? qs) → r ≡ Ok tt → said (head? (map (break i k) qs ++ bs)) ≡ said (head? bs)
kept i k [] bs r e f = refl
kept i k (q ∷ qs) bs r e f = let z : Ok tt ≡ Err (code_place q) = sym f ∙ e in cc

-- what the walk over the rules knows at rule k
pub record InTurn (t : Table) (i : ℕ) (d : Definition) (k : ℕ) : Type 0 where
  pub begun : 1 ≤ k
  pub within : k ≤ 17
  pub same : said (head? (breaks_of t i d)) ≡ said (head? (breaks_by t i d k (17 - k)))

module _ (t : Table) (i : ℕ) (d : Definition) where
  pub turn_start : InTurn t i d 1
  turn_start = record { begun = omega arith; within = omega arith; same = ap (λ (bs : List Break). said (head? bs)) (all_rules t i d) }

  module _ (k : ℕ) (w : InTurn t i d k) where
    pub turn_end : 16 < k → Accepted ≡ said (head? (breaks_of t i d))
    unfolding table_answer
    turn_end h =
        sym (w.same ∙ ap (λ (n : ℕ). said (head? (breaks_by t i d k n))) (let e : 17 - k ≡ 0 = omega arith in e) ∙ ap (λ (bs : List Break). said (head? bs)) (no_rule t i d k))

    module _ (h : k ≤ 16) (r : Result (Unit {0}) CodePlace) (e : r ≡ placed (head? (rule_of k t i d))) where
      opened : said (head? (breaks_of t i d)) ≡ said (head? (map (break i k) (rule_of k t i d) ++ breaks_by t i d (suc k) (16 - k)))
      opened =
          w.same ∙ ap (λ (n : ℕ). said (head? (breaks_by t i d k n))) (let q : 17 - k ≡ suc (16 - k) = omega arith in q)
          ∙ ap (λ (bs : List Break). said (head? bs)) (one_rule t i d k (16 - k))

      pub turn_here : (x : CodePlace) → r ≡ Err x → shown_at i k (Err x) ≡ said (head? (breaks_of t i d))
      turn_here x f = ap (shown_at i k) (sym f) ∙ told i k (rule_of k t i d) _ r x e f ∙ sym opened

      pub turn_on : r ≡ Ok tt → InTurn t i d (k + 1)
      turn_on f = record {
        begun = omega arith;
        within = omega arith;
        same =
            opened ∙ kept i k (rule_of k t i d) _ r e f
            ∙ ap (λ (n : ℕ). said (head? (breaks_by t i d n (16 - k)))) (let q : suc k ≡ k + 1 = omega arith in q)
            ∙ ap (λ (n : ℕ). said (head? (breaks_by t i d (k + 1) n))) (let q : 16 - k ≡ 17 - (k + 1) = omega arith in q);
      }

  -- a rule that is kept may be passed over; so the five of a walk of their own
  skip : (k : ℕ) → InTurn t i d k → k ≤ 16 → rule_of k t i d ≡ [] → InTurn t i d (k + 1)
  skip k w h e = turn_on k w h (Ok tt) (sym (ap (λ (ps : List Place). placed (head? ps)) e)) refl

  turn_clean : Sound t i d → InTurn t i d 4 → InTurn t i d 9
  unfolding rule_of early_rule
  turn_clean s w =
      let a = skip 4 w (omega arith) s.name_repeated_is in
      let b = skip 5 a (omega arith) s.reserved_member_is in
      let c = skip 6 b (omega arith) s.enum_value_is in
      let e = skip 7 c (omega arith) s.no_type_is in
      skip 8 e (omega arith) s.wrong_base_is

  turn_kept : AllKept t i d → InTurn t i d 11 → InTurn t i d 16
  unfolding rule_of late_rule promise_rule
  turn_kept s w =
      let a = skip 11 w (omega arith) s.field_missing in
      let b = skip 12 a (omega arith) s.field_type_is in
      let c = skip 13 b (omega arith) s.argument_missing in
      let e = skip 14 c (omega arith) s.argument_type_is in
      skip 15 e (omega arith) s.argument_extra_is

  pub turn_next : (clean promising : Bool) (k r : ℕ) → InTurn t i d (k + 1) → (clean ≡ true → Sound t i d) → (promising ≡ false → AllKept t i d) → NextRule clean promising k r → InTurn t i d r
  turn_next clean promising k r w s a (inl e) = subst (InTurn t i d) (sym e) w
  turn_next clean promising k r w s a (inr (inl e)) = subst (InTurn t i d) (sym e.2) (turn_clean (s e.1) (subst (λ (n : ℕ). InTurn t i d (n + 1)) e.0 w))
  turn_next clean promising k r w s a (inr (inr e)) = subst (InTurn t i d) (sym e.2) (turn_kept (a e.1) (subst (λ (n : ℕ). InTurn t i d (n + 1)) e.0 w))

pub turn_less : (clean promising : Bool) (k r : ℕ) → k ≤ 16 → NextRule clean promising k r → 17 - r < 17 - k
turn_less clean promising k r h (inl e) = omega (arith, e)
turn_less clean promising k r h (inr (inl e)) = omega (arith, e.0, e.2)
turn_less clean promising k r h (inr (inr e)) = omega (arith, e.0, e.2)

-- what the walk over the definitions knows at number i
pub record InOrder (t : Table) (i : ℕ) : Type 0 where
  pub within : i ≤ length t
  pub same : said (head? (breaks t)) ≡ said (head? (breaks_from t i))

said_none : (o : Option Break) → Accepted ≡ said o → o ≡ none
unfolding table_answer
said_none none e = refl
said_none (some b) e = let z : Accepted ≡ Breaks b.definition b.rule b.place.member b.place.part b.place.argument = e in cc

module _ (t : Table) where
  pub order_start : InOrder t 0
  order_start = record { within = omega arith; same = ap (λ (bs : List Break). said (head? bs)) (breaks_start t) }

  module _ (i : ℕ) (w : InOrder t i) where
    pub order_end : length t ≤ i → query_answer t ≡ said (head? (breaks t))
    unfolding table_answer
    order_end h =
        sym (w.same ∙ ap (λ (n : ℕ). said (head? (breaks_from t n))) (let e : i ≡ length t = omega (arith, w.within) in e) ∙ ap said (breaks_end t) ∙ go (query_not_object t))
      where
        go : (b : Bool) → said (cond b (some (break (length t) rule_root (record { member = no_place; part = no_place; argument = no_place }))) none) ≡ cond b (Breaks (length t) rule_root no_place no_place no_place) Accepted
        go true = refl
        go false = refl

    module _ (h : i < length t) (r : TableAnswer) (e : r ≡ said (head? (breaks_of t i (definition_at t i)))) where
      pub order_here : (r ≡ Accepted → ⊥) → r ≡ said (head? (breaks t))
      unfolding table_answer
      order_here f = go (head? (breaks_of t i (definition_at t i))) refl
        where
          go : (o : Option Break) → head? (breaks_of t i (definition_at t i)) ≡ o → r ≡ said (head? (breaks t))
          go none q = absurd (f (e ∙ ap said q))
          go (some b) q = e ∙ ap said (q ∙ sym (breaks_here t i b h q)) ∙ sym w.same

      pub order_on : r ≡ Accepted → InOrder t (i + 1)
      order_on f = record {
        within = omega arith;
        same =
            w.same ∙ ap said (breaks_on t i h (said_none (head? (breaks_of t i (definition_at t i))) (sym f ∙ e)))
            ∙ ap (λ (n : ℕ). said (head? (breaks_from t n))) (let q : suc i ≡ i + 1 = omega arith in q);
      }

module _ (t : Table) where
  -- 16, without record 8
  pub query_roots : any_of is_roots t ≡ true → Accepted ≡ query_answer t
  unfolding query_not_object
  query_roots e = sym (rw e refl)

  module _ (e : any_of is_roots t ≡ false) where
    pub query_object : (meant t (bytes "Query")).tag ≡ 2 → Accepted ≡ query_answer t
    unfolding query_not_object
    query_object f = sym (rw (e, eq-eqb (meant t (bytes "Query")).tag 2 f) refl)

    pub query_other : ((meant t (bytes "Query")).tag ≡ 2 → ⊥) → Breaks (length t) rule_root no_place no_place no_place ≡ query_answer t
    unfolding query_not_object
    query_other f = sym (rw (e, ne_eqb (meant t (bytes "Query")).tag 2 f) refl)

pub not_accepted : (r : TableAnswer) → OneOf (1 ∷ 2 ∷ 3 ∷ []) (tag_of the_type r) → r ≡ Accepted → ⊥
not_accepted r k e = go (subst (λ (x : TableAnswer). OneOf (1 ∷ 2 ∷ 3 ∷ []) (tag_of the_type x)) e k)
  where
    go : (◌≡◌ {A = ℕ} 0 1) ⊎ ((◌≡◌ {A = ℕ} 0 2) ⊎ (◌≡◌ {A = ℕ} 0 3)) → ⊥
    go (inl q) = absurd (omega (arith, q))
    go (inr (inl q)) = absurd (omega (arith, q))
    go (inr (inr q)) = absurd (omega (arith, q))
