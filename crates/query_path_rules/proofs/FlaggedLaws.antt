-- Flags where everything is judged say what the rules 8, 10 and 11 say.
use mathlib.Core.Path.{◌≡◌, refl, sym}
use mathlib.Core.Logic.{inl, inr, ⊎_elim}
use mathlib.Core.List.{List}
use Prim.Native.Nat.{ℕ}
use native.Mathlib.Decide.{ℕ_discrete}
use native.Mathlib.Omega.{arith}
use lib.ListN.{get_or}
use lib.Dec.{eqb→eq}
use Rattle.paper.specs.Numbers.{kind_fragment, kind_variable}
use Rattle.paper_table.specs.Types.{Table}
use Rattle.paper_query.specs.Constructs.{Doc, count, is, kind_of}
use Rattle.paper_query.specs.Rule10Undefined.{Undefined}
use Rattle.paper_query.specs.Rule11VariableType.{Differs}
use Rattle.query_spreads.proofs.OwnerLaws.{row_within}
use Rattle.query_reach.proofs.MarkLaws.{circle_not}
use Rattle.query_alike_pair.specs.Alike.{no_rule, Least}
use Rattle.query_alike.specs.Flags.{Circled, FlagsTo, Flag, Flagged}
use Rattle.query_alike.proofs.LeastLaws.{said_undefined, said_differs, unsaid_undefined, unsaid_differs}

module _ (t : Table) (d : Doc) (i f : ℕ) where
  -- rules 10 and 11 are broken at variables only
  undefined_not : (kind_of d i ≡ kind_variable → ⊥) → Undefined d i → ⊥
  undefined_not n x = n (eqb→eq (kind_of d i) kind_variable x.variable)

  differs_not : (kind_of d i ≡ kind_variable → ⊥) → Differs t d i → ⊥
  differs_not n x = n (eqb→eq (kind_of d i) kind_variable x.variable)

  variable_flag : kind_of d i ≡ kind_variable → Least t d (count d) i f → Flag t d i f
  variable_flag k x = record {
    circles = λ e. absurd (⊎_elim (λ z. omega arith) (λ y. ⊎_elim (λ z. omega arith) (λ z. omega arith) y) x.known);
    undefined = λ e. said_undefined t d i k (x.undefined e);
    differs = λ e. said_differs t d i k (x.differs e);
    defined = λ e. unsaid_undefined t d i (count d) (omega arith) (x.no_undefined (λ z. omega arith));
    no_circle = λ e. circle_not d i (λ z. omega arith);
    no_undefined = λ e. unsaid_undefined t d i (count d) (omega arith) (x.no_undefined (λ z. omega arith));
    no_differs = λ e. unsaid_differs t d i (count d) (omega arith) (x.no_differs e);
    known = ⊎_elim inl (λ y. inr (inr y)) x.known;
  }

  fragment_flag : kind_of d i ≡ kind_fragment → Circled d i f → Flag t d i f
  fragment_flag k x = record {
    circles = x.circles;
    undefined = λ e. absurd (⊎_elim (λ z. omega arith) (λ z. omega arith) x.known);
    differs = λ e. absurd (⊎_elim (λ z. omega arith) (λ z. omega arith) x.known);
    defined = λ e. undefined_not (λ z. omega arith);
    no_circle = x.no_circle;
    no_undefined = λ e. undefined_not (λ z. omega arith);
    no_differs = λ e. differs_not (λ z. omega arith);
    known = ⊎_elim inl (λ y. inr (inl y)) x.known;
  }

  other_flag : (kind_of d i ≡ kind_variable → ⊥) → (kind_of d i ≡ kind_fragment → ⊥) → f ≡ no_rule → Flag t d i f
  other_flag v g z = record {
    circles = λ e. absurd (omega arith);
    undefined = λ e. absurd (omega arith);
    differs = λ e. absurd (omega arith);
    defined = λ e. undefined_not v;
    no_circle = λ e. circle_not d i g;
    no_undefined = λ e. undefined_not v;
    no_differs = λ e. differs_not v;
    known = inl z;
  }

pub flagged : (t : Table) (d : Doc) (n : ℕ) (flag : List ℕ) → n ≡ count d → FlagsTo t d n n flag → Flagged t d flag
flagged t d n flag e x = record { size = x.size; flags = λ i. go i (ℕ_discrete (kind_of d i) kind_variable) (ℕ_discrete (kind_of d i) kind_fragment) }
  where
    go : (i : ℕ) → Dec (kind_of d i ≡ kind_variable) → Dec (kind_of d i ≡ kind_fragment) → Flag t d i (get_or flag i 0)
    go i (yes v) g = variable_flag t d i (get_or flag i 0) v (rw (sym e) (x.variables i v))
    go i (no v) (yes g) = fragment_flag t d i (get_or flag i 0) g (x.fragments i (let h = row_within d (is kind_fragment) i refl (rw g tt) in omega arith) g)
    go i (no v) (no g) = other_flag t d i (get_or flag i 0) v g (x.others i v g)
