-- What `variables_text` answers is what is said of the text, read as a variables text; and no count but levels and rows can be over in one.
use mathlib.Core.Path.{◌≡◌, refl, sym, ap, ◌∙◌, subst}
use mathlib.Core.Bool.{Bool, true, false, ◌&&◌, ◌||◌, not}
use mathlib.Core.List.{List, [], ◌∷◌, ◌++◌, Memᴰ}
use Prim.Native.Nat.{ℕ, zero, suc, ◌*◌, ◌≤◌}
use lib.Dec.{T, eqb}
use lib.ListN.{length, take}
use Rattle.std.specs.Prelude.{Ok, Err}
use Rattle.paper.specs.Grammar.{Sym, nt, tm, act, Ev, tok, mark, Derives, done, take as take-token, note, by}
use Rattle.paper.specs.Numbers.{report_size, input_document, row_size, rows_size, most_rows, kind_operation, kind_fragment, kind_variable_definition}
use Rattle.paper.specs.Language.{Class, Terminal, Mark, row, kind, named, wrapper, wrap, end, Part, language, hits, VariablesText}
use Rattle.paper.specs.Tokens.{Text, Tokens}
use Rattle.paper.specs.Rows.{Row, flat}
use Rattle.paper.specs.Sizes.{Counts, Sums, nothing_counted, counted, sums, through, over_counts}
use Rattle.paper.specs.Reading.{classes_of, Summed, Fault, too_many, rows_are, refuses, TextAnswer, refused}
use Rattle.paper.specs.declared.Refusal.{Refusal}
use Rattle.paper.specs.declared.Refusal.TheVariants.{Buffer, OverLength, NoToken, NoGoing, TooDeep, TooManyRows, TooMany}
use Rattle.paper.specs.Refusals.{number_of, shown_in_text}
use Rattle.paper.specs.Calls.{filled, tells}
use Rattle.paper.specs.Language.{ConstValue, ConstListValue, ConstValue+, ConstValue*, ConstObjectValue, ConstObjectField+, ConstObjectField*, ConstObjectField, EnumValue, Name}
use Rattle.paper.proofs.Bools.{and_l, and_r, and_i, not_eq as not_true}
use Rattle.paper_theory.proofs.Test.{all, all_at, all_mem, implies, implies_out}
use Rattle.paper.proofs.Tables.{all_n, num_n, at_n}
use Rattle.paper.proofs.Lexing.{from}
use Rattle.paper_theory.proofs.TokensLaws.{tokens_are}
use Rattle.paper_theory.proofs.GoingSaid.{going_whole, going_halt}
use Rattle.paper_theory.proofs.CallsGoing.{from_rising}
use Rattle.text_documents.specs.Documents.{Ended}
use Rattle.text_cursor.specs.declared.Cursor.{Cursor}

-- the rows of the text and their count
pub variables_read : (s rows rows' : List ℕ) (d : Cursor) → length rows ≡ rows_size → Ended VariablesText s rows rows' (Ok d) →
    (t : Text) × (rs : List Row) × Tokens 0 s t × TextAnswer VariablesText t (rows_are rs) × (d.rows ≡ length rs) × (length rs ≤ most_rows) × (take (row_size * length rs) rows' ≡ flat rs)
variables_read s rows rows' d e h =
    let g = going_whole VariablesText (from s 0) rows h.0 e h.1 in (
      from s 0,
      g.0,
      tokens_are s,
      g.1,
      sym h.3 ∙ g.2,
      g.3,
      ap (λ (z : List ℕ). take (row_size * length g.0) z) (sym h.2) ∙ g.4,
    )

-- or why it is refused
pub variables_refused : (s rows rows' : List ℕ) (r : Refusal) → length rows ≡ rows_size → Ended VariablesText s rows rows' (Err r) →
    (t : Text) × Tokens 0 s t × TextAnswer VariablesText t (refuses r)
variables_refused s rows rows' r e h = (from s 0, tokens_are s, going_halt VariablesText (from s 0) (from_rising s) rows r h)

-- NO OTHER COUNT
abbrev Syms : Type 0
Syms = List (Sym Part Terminal Mark)

abbrev Evs : Type 0
Evs = List (Ev Class Mark)

-- the parts of a variables text
abbrev constant : Part → Bool
constant n =
    one_number
    (num_n VariablesText ∷ num_n ConstValue ∷ num_n ConstListValue ∷ num_n ConstValue+ ∷ num_n ConstValue* ∷ num_n ConstObjectValue ∷ num_n ConstObjectField+ ∷ num_n ConstObjectField* ∷ num_n ConstObjectField ∷ num_n EnumValue ∷ num_n Name ∷ [])
    (num_n n)
  where
    one_number : List ℕ → ℕ → Bool
    one_number [] k = false
    one_number (j ∷ js) k = eqb j k || one_number js k

-- a mark that counts a row at most
abbrev counts_none : Mark → Bool
counts_none row = true
counts_none (kind k x) = not (eqb k kind_fragment) && (not (eqb k kind_operation) && not (eqb k kind_variable_definition))
counts_none named = true
counts_none wrapper = false
counts_none (wrap w) = true
counts_none end = true

abbrev plain : Syms → Bool
plain [] = true
plain (nt n ∷ ss) = constant n && plain ss
plain (tm p ∷ ss) = plain ss
plain (act a ∷ ss) = counts_none a && plain ss

plain_tested : T (all (λ n. implies (constant n) (all (λ α. plain α) (language n))) all_n)
unfolding language
plain_tested = tt

plain_part : (n : Part) {α : Syms} → T (constant n) → Memᴰ α (language n) → T (plain α)
plain_part n h m =
    all_mem (λ β. plain β)
    (implies_out (constant n) (all (λ β. plain β) (language n)) (all_at (λ k. implies (constant k) (all (λ β. plain β) (language k))) all_n (num_n n) plain_tested (at_n n)) h)
    m

plain_append : (α ss : Syms) → T (plain α) → T (plain ss) → T (plain (α ++ ss))
plain_append [] ss h k = k
plain_append (nt n ∷ α) ss h k = and_i (constant n) (plain (α ++ ss)) (and_l (constant n) (plain α) h) (plain_append α ss (and_r (constant n) (plain α) h) k)
plain_append (tm p ∷ α) ss h k = plain_append α ss h k
plain_append (act a ∷ α) ss h k = and_i (counts_none a) (plain (α ++ ss)) (and_l (counts_none a) (plain α) h) (plain_append α ss (and_r (counts_none a) (plain α) h) k)

-- events that count rows at most
unfoldable RowsOnly : Evs → Type 0
RowsOnly [] = Unit {0}
RowsOnly (tok c ∷ es) = RowsOnly es
RowsOnly (mark a ∷ es) = T (counts_none a) × RowsOnly es

derives_rows : {ss : Syms} {es : Evs} → Derives language hits ss es → T (plain ss) → RowsOnly es
unfolding RowsOnly
derives_rows done h = tt
derives_rows (take-token k d) h = derives_rows d h
derives_rows (note {a} {ss} d) h = (and_l (counts_none a) (plain ss) h, derives_rows d (and_r (counts_none a) (plain ss) h))
derives_rows (by {n} {α} {ss} m d) h = derives_rows d (plain_append α ss (plain_part n (and_l (constant n) (plain ss) h) m) (and_r (constant n) (plain ss) h))

through_rows : (k : ℕ) (es : Evs) → RowsOnly es → RowsOnly (through k es)
unfolding RowsOnly through
through_rows zero es h = tt
through_rows (suc k) [] h = tt
through_rows (suc k) (tok c ∷ es) h = through_rows k es h
through_rows (suc k) (mark a ∷ es) h = (h.0, through_rows (suc k) es h.1)

mark_counts : (a : Mark) (m : Sums) → T (counts_none a) → (counted (mark a) m).counts ≡ m.counts
mark_counts row m h = refl
mark_counts (kind k x) m h =
    let f = not_true (eqb k kind_fragment) (and_l (not (eqb k kind_fragment)) (not (eqb k kind_operation) && not (eqb k kind_variable_definition)) h) in
    let g = and_r (not (eqb k kind_fragment)) (not (eqb k kind_operation) && not (eqb k kind_variable_definition)) h in
    let o = not_true (eqb k kind_operation) (and_l (not (eqb k kind_operation)) (not (eqb k kind_variable_definition)) g) in
    let v = not_true (eqb k kind_variable_definition) (and_r (not (eqb k kind_operation)) (not (eqb k kind_variable_definition)) g) in
    rw (f, o, v) refl
mark_counts named m h = refl
mark_counts wrapper m h = absurd h
mark_counts (wrap w) m h = refl
mark_counts end m h = refl

sums_counts : (es : Evs) (m : Sums) → RowsOnly es → (sums es m).counts ≡ m.counts
unfolding RowsOnly sums
sums_counts [] m h = refl
sums_counts (tok c ∷ es) m h = sums_counts es (counted (tok c) m) h
sums_counts (mark a ∷ es) m h = sums_counts es (counted (mark a) m) h.1 ∙ mark_counts a m h.0

summed_counts : (ts : List Class) (k : ℕ) (m : Sums) → Summed VariablesText ts k m → over_counts m.counts ≡ false
summed_counts ts k m s =
    ap (λ (z : Sums). over_counts z.counts) (sym s.are)
    ∙ ap (λ (q : Counts). over_counts q) (sums_counts (through (suc k) s.events) nothing_counted (through_rows (suc k) s.events (derives_rows s.reads.0 tt)))

fault_counts : (t : Text) (at : ℕ) → Fault VariablesText t (TooMany at) → ⊥
fault_counts t at (too_many k {s = m} s o) = subst T (summed_counts (classes_of t) k m s) o

pub variables_never_8 : (t : Text) (at : ℕ) → TextAnswer VariablesText t (refuses (TooMany at)) → ⊥
variables_never_8 t at (refused f l) = fault_counts t at f

-- the document's number is 0, as the rest of a report
pub document_shown : (r : Refusal) (old : List ℕ) → filled report_size (number_of r ∷ shown_in_text input_document r) old ≡ tells r old
document_shown Buffer old = refl
document_shown (OverLength input) old = refl
document_shown (NoToken at) old = refl
document_shown (NoGoing at) old = refl
document_shown (TooDeep at) old = refl
document_shown (TooManyRows at) old = refl
document_shown (TooMany at) old = refl
