-- What the functions that call each other answer, each as a part of `coerce`, where variables have the values `vars`.
-- Assumes nothing.
use Rattle.std.specs.Prelude.{◌≡◌, Bool, List, ℕ, ◌+◌, ◌-◌, leb}
use Rattle.std.proofs.Math.Option.{Option}
use Rattle.paper.specs.Numbers.{kind_variable, kind_null, kind_list, most_wrappers}
use Rattle.paper_table.specs.References.{Ref}
use Rattle.paper_table.proofs.ReferenceSizes.{wrappers as wrapperCount}
use Rattle.paper_query.specs.Constructs.{Doc}
use Rattle.paper_values.specs.Values.{Due, Tree, Many, Trees, Pairs, no_pairs, Out, Got, and_then}
use Rattle.paper_values.specs.Coercion.{heads}
use Rattle.paper_values.specs.Computed.{missing_due, due_field, entry_of, in_object, held, coerce_all}
use Rattle.paper_values.specs.RowValues.{items_from, value_at}
use Rattle.value_kinds.specs.Dues.{placed_at, DueIs}
use Rattle.value_held.specs.Given.{Vars, kinds_in, entries_at, givens_at}

-- these numbers are those of some type
pub record Meant (t book : List ℕ) (sort number wrappers : ℕ) : Type 0 where
  pub ref : Ref
  pub is : DueIs t book ref sort number wrappers

-- a row of this kind, with k levels left, is read, and is no null, no variable and no list
pub record Alone (kind k : ℕ) : Type 0 where
  pub level : k ≡ 0 → ⊥
  pub no_null : kind ≡ kind_null → ⊥
  pub no_variable : kind ≡ kind_variable → ⊥
  pub no_list : kind ≡ kind_list → ⊥

-- what is due has at most seven wrappers
abbrev pub slim_due : Due → Bool
slim_due δ = leb (wrapperCount δ.type) most_wrappers

-- the list of row h, with k levels left for each item
abbrev pub items_at : List ℕ → Vars → ℕ → Doc → ℕ → ℕ → ℕ → ℕ → Ref → Out Trees
items_at t vars text d n k h c r = coerce_all (kinds_in t) vars (items_from text d (value_at text d k) h (n - c) c) r

abbrev pub listed : List ℕ → Vars → ℕ → Doc → ℕ → ℕ → ℕ → Ref → Out Tree
listed t vars text d n k h r = and_then (items_at t vars text d n k h (h + 1) r) (λ ts. Got (Many ts))

-- what a variable with this value, or without one, is at row i
abbrev pub stood : List ℕ → Vars → ℕ → ℕ → Ref → Option Tree → Out Tree
stood t vars text i r o = held (kinds_in t) vars (placed_at text i) r o

-- the object of row h, where these are due
abbrev pub objected : List ℕ → Vars → ℕ → Doc → ℕ → ℕ → ℕ → ℕ → List Due → Out Tree
objected t vars text d n k kind h ds = in_object (missing_due (placed_at text h)) (heads (entries_at text d n k kind h)) (givens_at t vars text d n k kind h) ds

-- one that is due in it
abbrev pub stepped : List ℕ → Vars → ℕ → Doc → ℕ → ℕ → ℕ → ℕ → Due → Out Pairs
stepped t vars text d n k kind h δ = due_field (missing_due (placed_at text h) δ (Got no_pairs)) δ (entry_of δ.name (givens_at t vars text d n k kind h)) (Got no_pairs)
