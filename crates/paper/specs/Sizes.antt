-- What is counted while a text is read, and when a count is over its size.
-- States: 01, "Sizes and refusals": nesting, rows, fragments, variables per operation, wrappers per type reference; rows 5, 6 and 8.
-- Assumes nothing.
use Rattle.std.specs.Prelude.{Bool, ◌||◌, cond, List, [], ◌∷◌, ℕ, zero, suc, ◌+◌, ◌-◌, ltb, eqb}
use Rattle.paper.specs.Grammar.{Ev, tok, mark}
use Rattle.paper.specs.Numbers.{most_levels, most_rows, most_fragments, most_variables, most_wrappers, kind_operation, kind_fragment, kind_variable_definition}
use Rattle.paper.specs.Language.{Class, one_of, paren_l, paren_r, bracket_l, bracket_r, brace_l, brace_r, Mark, row, kind, named, wrapper, wrap, end}

-- fragments of the document, variables of the operation, wrappers of the type reference
pub record Counts : Type 0 where
  pub fragments : ℕ
  pub variables : ℕ
  pub wrappers : ℕ

-- open braces, brackets and parentheses; rows; the other counts
pub record Sums : Type 0 where
  pub levels : ℕ
  pub rows : ℕ
  pub counts : Counts

abbrev pub nothing_counted : Sums
nothing_counted = record { levels = 0; rows = 0; counts = record { fragments = 0; variables = 0; wrappers = 0 } }

-- braces, brackets and parentheses
abbrev pub opens_level : Class → Bool
opens_level c = one_of (paren_l ∷ bracket_l ∷ brace_l ∷ []) c

abbrev pub closes_level : Class → Bool
closes_level c = one_of (paren_r ∷ bracket_r ∷ brace_r ∷ []) c

abbrev pub leveled : Class → ℕ → ℕ
leveled c l = cond (opens_level c) (l + 1) (cond (closes_level c) (l - 1) l)

-- an operation begins with no variable, a variable definition with no wrapper: its type reference is the only one in it
abbrev pub kinded : ℕ → Counts → Counts
kinded k q =
    record {
      fragments = cond (eqb k kind_fragment) (q.fragments + 1) q.fragments;
      variables = cond (eqb k kind_operation) 0 (cond (eqb k kind_variable_definition) (q.variables + 1) q.variables);
      wrappers = cond (eqb k kind_variable_definition) 0 q.wrappers;
    }

abbrev pub wrapper_more : Counts → Counts
wrapper_more q = record { fragments = q.fragments; variables = q.variables; wrappers = q.wrappers + 1 }

abbrev pub counted : Ev Class Mark → Sums → Sums
counted (tok c) s = record { levels = leveled c s.levels; rows = s.rows; counts = s.counts }
counted (mark row) s = record { levels = s.levels; rows = s.rows + 1; counts = s.counts }
counted (mark (kind k x)) s = record { levels = s.levels; rows = s.rows; counts = kinded k s.counts }
counted (mark named) s = s
counted (mark wrapper) s = record { levels = s.levels; rows = s.rows; counts = wrapper_more s.counts }
counted (mark (wrap w)) s = s
counted (mark end) s = s

-- the sums after the events es
unfoldable pub sums : List (Ev Class Mark) → Sums → Sums
sums [] s = s
sums (e ∷ es) s = sums es (counted e s)

-- the events up to the n-th token, that token with them
unfoldable pub through : ℕ → List (Ev Class Mark) → List (Ev Class Mark)
through zero es = []
through (suc n) [] = []
through (suc n) (tok c ∷ es) = tok c ∷ through n es
through (suc n) (mark m ∷ es) = mark m ∷ through (suc n) es

abbrev pub over_levels : Sums → Bool
over_levels s = ltb most_levels s.levels

abbrev pub over_rows : Sums → Bool
over_rows s = ltb most_rows s.rows

abbrev pub over_counts : Counts → Bool
over_counts q = ltb most_fragments q.fragments || (ltb most_variables q.variables || ltb most_wrappers q.wrappers)
