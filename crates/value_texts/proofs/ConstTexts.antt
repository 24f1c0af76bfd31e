-- A variables text is constant: no row of it is a variable.
use mathlib.Core.Path.{◌≡◌, sym, subst}
use mathlib.Core.Bool.{Bool, true, ◌&&◌, not}
use mathlib.Core.List.{List, [], ◌∷◌, ◌++◌, Memᴰ}
use Prim.Native.Nat.{ℕ, zero, suc}
use native.Mathlib.Omega.{arith}
use lib.Dec.{T, eqb, eqb_refl, T_not}
use Rattle.paper.specs.Grammar.{nt, tm, act, Ev, Derives, done, take, note as marks, by}
use Rattle.paper.specs.Numbers.{kind_variable}
use Rattle.paper.specs.Language.{Class, hits, Mark, row, kind, named, wrapper, wrap, end, Part, language}
use Rattle.paper.specs.Language.{ConstValue, ConstListValue, ConstValue+, ConstValue*, ConstObjectValue, ConstObjectField+, ConstObjectField*, ConstObjectField, EnumValue, Name, VariablesText}
use Rattle.paper.specs.Tokens.{Tok, Text}
use Rattle.paper.specs.Rows.{Row, Book, empty_book, change, top, start_of, stop_of, begun, of_kind, with_name, wrapped, stopping, at_mark, taken, book, rows_of}
use Rattle.paper.specs.Reading.{rows_are, TextAnswer, accepts, tokens_of}
use Rattle.paper.proofs.Bools.{and_l, and_r, and_i}
use Rattle.paper.proofs.Tables.{all_n, num_n, at_n}
use Rattle.paper_theory.proofs.Test.{all, all_at, all_mem, implies, implies_out}
use Rattle.query_rows.specs.Rowed.{row_in}
use Rattle.query_rows.proofs.ReadRows.{Taken}
use Rattle.value_texts.proofs.Changes.{at}
use Rattle.value_texts.proofs.Phases.{Syms, is_among}

abbrev is_const : Part → Bool
is_const n = is_among (ConstValue ∷ ConstListValue ∷ ConstValue+ ∷ ConstValue* ∷ ConstObjectValue ∷ ConstObjectField+ ∷ ConstObjectField* ∷ ConstObjectField ∷ EnumValue ∷ Name ∷ VariablesText ∷ []) n

-- constant parts, and no kind of a variable
abbrev constant : Syms → Bool
constant [] = true
constant (nt n ∷ ss) = is_const n && constant ss
constant (tm p ∷ ss) = constant ss
constant (act row ∷ ss) = constant ss
constant (act (kind k x) ∷ ss) = not (eqb k kind_variable) && constant ss
constant (act named ∷ ss) = constant ss
constant (act wrapper ∷ ss) = constant ss
constant (act (wrap w) ∷ ss) = constant ss
constant (act end ∷ ss) = constant ss

abbrev part_tested : Part → Bool
part_tested n = implies (is_const n) (all (λ α. constant α) (language n))

tested : T (all part_tested all_n)
unfolding language
tested = tt

constant_part : (n : Part) {α : Syms} → T (is_const n) → Memᴰ α (language n) → T (constant α)
constant_part n h m = all_mem (λ α. constant α) (implies_out (is_const n) (all (λ α. constant α) (language n)) (all_at part_tested all_n (num_n n) tested (at_n n)) h) m

constant_append : (α ss : Syms) → T (constant α) → T (constant ss) → T (constant (α ++ ss))
constant_append [] ss h k = k
constant_append (nt n ∷ α) ss h k = and_i (is_const n) (constant (α ++ ss)) (and_l (is_const n) (constant α) h) (constant_append α ss (and_r (is_const n) (constant α) h) k)
constant_append (tm p ∷ α) ss h k = constant_append α ss h k
constant_append (act row ∷ α) ss h k = constant_append α ss h k
constant_append (act (kind j x) ∷ α) ss h k =
    and_i (not (eqb j kind_variable)) (constant (α ++ ss)) (and_l (not (eqb j kind_variable)) (constant α) h) (constant_append α ss (and_r (not (eqb j kind_variable)) (constant α) h) k)
constant_append (act named ∷ α) ss h k = constant_append α ss h k
constant_append (act wrapper ∷ α) ss h k = constant_append α ss h k
constant_append (act (wrap w) ∷ α) ss h k = constant_append α ss h k
constant_append (act end ∷ α) ss h k = constant_append α ss h k

abbrev NoVariable : List Row → Type 0
NoVariable rs = (i : ℕ) → (at rs i).kind ≡ kind_variable → ⊥

change_none : (f : Row → Row) → ((r : Row) → (r.kind ≡ kind_variable → ⊥) → (f r).kind ≡ kind_variable → ⊥) → (k : ℕ) (rs : List Row) → NoVariable rs → NoVariable (change f k rs)
change_none f g k [] h i = h i
change_none f g zero (r ∷ rs) h zero = g r (h 0)
change_none f g zero (r ∷ rs) h (suc i) = h (suc i)
change_none f g (suc k) (r ∷ rs) h zero = h 0
change_none f g (suc k) (r ∷ rs) h (suc i) = change_none f g k rs (λ j. h (suc j)) i

row_none : (a p : ℕ) (rs : List Row) → NoVariable rs → NoVariable (rs ++ (begun a p ∷ []))
row_none a p [] h zero = λ e. omega arith
row_none a p [] h (suc i) = λ e. omega arith
row_none a p (r ∷ rs) h zero = h 0
row_none a p (r ∷ rs) h (suc i) = row_none a p rs (λ j. h (suc j)) i

no_variable : {ss : Syms} {es : List (Ev Class Mark)} → Derives language hits ss es → T (constant ss) → (ts : List Tok) (b : Book) → NoVariable b.rows → NoVariable (book es ts b).rows
unfolding book
no_variable done t ts b h = h
no_variable (take v d) t [] b h = no_variable d t [] b h
no_variable (take v d) t (k ∷ ts) b h = no_variable d t ts (taken (k ∷ ts) b) h
no_variable (by {n} {α} {ss} m d) t ts b h = no_variable d (constant_append α ss (constant_part n (and_l (is_const n) (constant ss) t) m) (and_r (is_const n) (constant ss) t)) ts b h
no_variable (marks {a = row} d) t ts b h = no_variable d t ts (at_mark row ts b) (row_none (start_of ts) (top b.open') b.rows h)
no_variable (marks {a = kind k x} {ss} d) t ts b h =
    no_variable d (and_r (not (eqb k kind_variable)) (constant ss) t) ts (at_mark (kind k x) ts b)
    (change_none (of_kind k x) (λ r u e. T_not (eqb k kind_variable) (and_l (not (eqb k kind_variable)) (constant ss) t) (subst (λ (j : ℕ). T (eqb k j)) e (eqb_refl k))) (top b.open') b.rows h)
no_variable (marks {a = named} d) t ts b h = no_variable d t ts (at_mark named ts b) (change_none (with_name (start_of ts) (stop_of ts)) (λ r u. u) (top b.open') b.rows h)
no_variable (marks {a = wrapper} d) t ts b h = no_variable d t ts b h
no_variable (marks {a = wrap w} d) t ts b h = no_variable d t ts (at_mark (wrap w) ts b) (change_none (wrapped w) (λ r u. u) (top b.open') b.rows h)
no_variable (marks {a = end} d) t ts b h = no_variable d t ts (at_mark end ts b) (change_none (stopping b.stop) (λ r u. u) (top b.open') b.rows h)

said_constant : (t : Text) (rs : List Row) → TextAnswer VariablesText t (rows_are rs) → NoVariable rs
unfolding rows_of
said_constant t rs (accepts {es = es} w r c) = no_variable r.0 tt (tokens_of t) empty_book (λ i e. omega arith)

pub taken_constant : (s rows : List ℕ) (n : ℕ) → Taken VariablesText s rows n → (i : ℕ) → (row_in rows n i).kind ≡ kind_variable → ⊥
taken_constant s rows n t i = subst (λ (rs : List Row). (at rs i).kind ≡ kind_variable → ⊥) (sym t.are) (said_constant _ t.list t.said i)
