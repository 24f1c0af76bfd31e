-- Which entry is given for a name: what leaves one out, the one found, and that below a row that is not there stands none.
use mathlib.Core.Path.{◌≡◌, refl, sym, ap, ◌∙◌}
use mathlib.Core.Bool.{Bool, true, false, ◌&&◌, cond}
use mathlib.Core.Option.{Option, none, some}
use mathlib.Core.List.{List, []}
use Prim.Native.Nat.{ℕ, zero, suc, ◌+◌, ◌-◌, ◌≤◌, ◌<◌}
use native.Mathlib.Omega.{arith}
use lib.Dec.{eqb}
use borrow.Author.Tests.{eqb-true, eqb-false, eq-eqb, ne_eqb}
use Rattle.paper.specs.Numbers.{kind_variable}
use Rattle.paper_query.specs.Constructs.{Doc, kind_of, name_of}
use Rattle.paper_values.specs.Values.{Name, Value, Entries, no_entries, Due, Tree}
use Rattle.paper_values.specs.Kinds.{Kind}
use Rattle.paper_values.specs.Coercion.{heads, repeated_entry, unknown_entry, gone, left_out}
use Rattle.paper_values.specs.Computed.{entry_of}
use Rattle.paper_values.specs.RowValues.{entries_from, value_by, value_at}
use Rattle.value_entries.specs.Entered.{entry_at, Marks}
use Rattle.value_entries.proofs.EntryLaws.{entry_least, given_none, given_here, given_at, marks_none}
use Rattle.value_tokens.proofs.TokenLaws.{value_variable}
use Rattle.value_held.specs.Given.{Vars, is_none, leaves_out, kinds_in, coerced, givens_at}
use Rattle.value_held.specs.Holding.{Knows, Gives}
use Rattle.value_held.proofs.LevelLaws.{at_level, plain_out}

-- ---- what leaves an entry out

out_zero : (kinds : Name → Kind) (vars : Vars) (text : ℕ) (d : Doc) (i : ℕ) → left_out kinds vars (value_at text d 0 i) ≡ false
unfolding value_at
out_zero kinds vars text d i = refl

gone_is : (kinds : Name → Kind) (vars : Vars) (o : Option Tree) → gone kinds vars o ≡ is_none o
gone_is kinds vars none = refl
gone_is kinds vars (some t) = refl

pub by_left_out : (kinds : Name → Kind) (vars : Vars) (text : ℕ) (d : Doc) (k i : ℕ) → left_out kinds vars (value_at text d k i) ≡ leaves_out vars d k i
by_left_out kinds vars text d zero i = out_zero kinds vars text d i
by_left_out kinds vars text d (suc k) i = go (eqb (kind_of d i) kind_variable) refl
  where
    level : value_at text d (suc k) i ≡ value_by text d (value_at text d (suc k - 1)) i
    level = at_level text d (suc k) i (λ (e : suc k ≡ 0). omega (arith, e))

    go : (b : Bool) → eqb (kind_of d i) kind_variable ≡ b → left_out kinds vars (value_at text d (suc k) i) ≡ b && is_none (vars (name_of d i))
    go true e = ap (left_out kinds vars) (level ∙ value_variable text d (value_at text d (suc k - 1)) i (eqb-true (kind_of d i) kind_variable e)) ∙ gone_is kinds vars (vars (name_of d i))
    go false e = ap (left_out kinds vars) level ∙ plain_out kinds vars text d (value_at text d (suc k - 1)) i (eqb-false (kind_of d i) kind_variable e)

module _ (vars : Vars) (d : Doc) (k i : ℕ) where
  pub out_none : k ≡ 0 → false ≡ leaves_out vars d k i
  out_none q = go k q
    where
      go : (k : ℕ) → k ≡ 0 → false ≡ leaves_out vars d k i
      go zero q = refl
      go (suc k) q = absurd (omega (arith, q))

  pub out_other : (kind_of d i ≡ kind_variable → ⊥) → false ≡ leaves_out vars d k i
  out_other q = go k
    where
      go : (k : ℕ) → false ≡ leaves_out vars d k i
      go zero = refl
      go (suc k) = rw (ne_eqb (kind_of d i) kind_variable q) refl

  pub out_level : (k ≡ 0 → ⊥) → kind_of d i ≡ kind_variable → (b : Bool) → is_none (vars (name_of d i)) ≡ b → b ≡ leaves_out vars d k i
  out_level q e b g = go k q
    where
      go : (k : ℕ) → (k ≡ 0 → ⊥) → b ≡ leaves_out vars d k i
      go zero q = absurd (q refl)
      go (suc k) q = sym g ∙ rw (eq-eqb (kind_of d i) kind_variable e) refl

-- the entry of a name
module _ (s held : List ℕ) (many : ℕ) (d : Doc) (n k kind h : ℕ) (x : Name) (c : ℕ) (l : h ≤ n) (e : c ≡ entry_at d kind h x (n - (h + 1)) (h + 1)) where
  pub gives_none : n ≤ c → Gives s held many d n k kind h x n
  gives_none m = record {
    some_is = λ z. absurd (omega (arith, z));
    none_is = λ z t vars text g. given_none (kinds_in t) vars text d (value_at text d k) kind h x (n - (h + 1)) (h + 1) (let w = entry_least d kind h x (n - (h + 1)) (h + 1) in omega (arith, w.0, w.1, e, m, l));
  }

  pub gives_past : n ≤ h → Gives s held many d n k kind h x n
  gives_past m = gives_none (let w = entry_least d kind h x (n - (h + 1)) (h + 1) in omega (arith, w.0, e, m))

  found : c < n → (t : List ℕ) (vars : Vars) (text : ℕ) (b : Bool) → leaves_out vars d k (c + 1) ≡ b → entry_of x (givens_at t vars text d n k kind h) ≡ cond b none (some (λ q. coerced t vars text d k (c + 1) q))
  found m t vars text b q =
      given_here (kinds_in t) vars text d (value_at text d k) kind h x (n - (h + 1)) (h + 1) (let w = entry_least d kind h x (n - (h + 1)) (h + 1) in omega (arith, w.0, e, m, l))
      ∙ ap (λ (y : ℕ). given_at (kinds_in t) vars text d (value_at text d k) kind h x y) (sym e)
      ∙ ap (λ (y : Bool). cond y none (some (λ q. coerced t vars text d k (c + 1) q))) (by_left_out (kinds_in t) vars text d k (c + 1) ∙ q)

  pub gives_out : c < n → ((vars : Vars) → Knows s held many vars → true ≡ leaves_out vars d k (c + 1)) → Gives s held many d n k kind h x n
  gives_out m q = record { some_is = λ z. absurd (omega (arith, z)); none_is = λ z t vars text g. found m t vars text true (sym (q vars g)) }

  pub gives_here : c < n → ((vars : Vars) → Knows s held many vars → false ≡ leaves_out vars d k (c + 1)) → Gives s held many d n k kind h x c
  gives_here m q = record { some_is = λ z t vars text g. found m t vars text false (sym (q vars g)); none_is = λ z. absurd (omega (arith, z, m)) }

-- ---- below a row that is not there

none_below : (text : ℕ) (d : Doc) (read : ℕ → Value) (kind h n : ℕ) → n ≤ h → entries_from text d read kind h (n - (h + 1)) (h + 1) ≡ no_entries
unfolding entries_from
none_below text d read kind h n l = let z : n - (h + 1) ≡ 0 = omega arith in rw z refl

module _ (d : Doc) (kind h n : ℕ) (l : n ≤ h) (text : ℕ) (read : ℕ → Value) where
  pub repeated_past : Marks n text (repeated_entry [] (heads (entries_from text d read kind h (n - (h + 1)) (h + 1)))) n
  repeated_past = marks_none n text _ (ap (λ (es : Entries). repeated_entry [] (heads es)) (none_below text d read kind h n l))

  pub unknown_past : (ds : List Due) → Marks n text (unknown_entry ds (heads (entries_from text d read kind h (n - (h + 1)) (h + 1)))) n
  unknown_past ds = marks_none n text _ (ap (λ (es : Entries). unknown_entry ds (heads es)) (none_below text d read kind h n l))
