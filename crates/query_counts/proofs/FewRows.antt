-- A document that was read has at most 64 fragments, and each of its operations at most 64 variables, said of its rows.
-- Event by event: what is counted is never over its size, and the rows are no more than what is counted.
use mathlib.Core.Path.{refl}
use mathlib.Core.Bool.{Bool, true, false, ◌&&◌}
use mathlib.Core.List.{List, [], ◌∷◌}
use Prim.Native.Nat.{ℕ, zero, suc, ◌+◌, ◌≤◌}
use native.Mathlib.Omega.{arith}
use lib.ListN.{length}
use Rattle.paper.specs.Grammar.{tok, mark}
use Rattle.paper.specs.Numbers.{most_fragments, most_variables, kind_fragment, kind_variable_definition}
use Rattle.paper.specs.Language.{Document, row, kind, named, wrapper, wrap, end}
use Rattle.paper.specs.Tokens.{Tok, Text}
use Rattle.paper.specs.Rows.{Row, Book, empty_book, change, top, start_of, stop_of, with_name, wrapped, stopping, at_mark, taken, rest, book, rows_of}
use Rattle.paper.specs.Sizes.{Sums, nothing_counted, counted}
use Rattle.paper.specs.Reading.{rows_are, TextAnswer, accepts, tokens_of}
use Rattle.paper_query.specs.Constructs.{Doc, is, below, numbers_where}
use Rattle.paper_query.specs.DocumentCalls.{read}
use Rattle.query_rows.specs.Rowed.{doc_of}
use Rattle.query_rows.proofs.ReadRows.{Taken}
use Rattle.query_counts.specs.FewDefinitions.{FewDefinitions}
use Rattle.query_counts.proofs.Depths.{Evs, token, Deep, document_deep}
use Rattle.query_counts.proofs.Tallies.{tally, numbers_tally}
use Rattle.query_counts.proofs.FewSums.{Few, AllFew, no_fault_few}
use Rattle.query_counts.proofs.Standing.{defining, fragments_in, variables_of, Stands, stands_plain, stands_same, stands_pop, stands_row, stands_kind}

-- few, by tallies
record FewIn (rs : List Row) : Type 0 where
  fragments : fragments_in rs ≤ most_fragments
  variables : (p : ℕ) → variables_of rs p ≤ most_variables

abbrev BookStands : Bool → ℕ → Sums → Book → Type 0
BookStands f d s b = Stands f d s.counts b.rows b.open'

taken_stands : (f : Bool) (d : ℕ) (s : Sums) (ts : List Tok) (b : Book) → BookStands f d s b → BookStands false d s (taken ts b)
taken_stands f d s [] b h = stands_plain f d s.counts.wrappers s.counts b.rows b.open' h
taken_stands f d s (k ∷ ts) b h = stands_plain f d s.counts.wrappers s.counts b.rows b.open' h

book_few : (es : Evs) (ts : List Tok) (b : Book) (f : Bool) (d : ℕ) (s : Sums) → Deep es f d → AllFew es s → Few s.counts → BookStands f d s b → FewIn (book es ts b).rows
unfolding book Deep AllFew
book_few [] ts b f d s p a w h = record { fragments = omega (arith, h.fragments, w.0); variables = h.few }
book_few (tok c ∷ es) ts b f d s p a w h = book_few es (rest ts) (taken ts b) false d (counted (tok c) s) p a.1 a.0 (taken_stands f d s ts b h)
book_few (mark row ∷ es) ts b f d s p a w h = book_few es ts (at_mark row ts b) true (suc d) (counted (mark row) s) p a.1 a.0 (stands_row f d (start_of ts) s.counts b.rows b.open' h)
book_few (mark (kind k x) ∷ es) ts b f d s p a w h =
    book_few es ts (at_mark (kind k x) ts b) false d (counted (mark (kind k x)) s) p.1 a.1 a.0 (stands_kind k x f (token es) d s.counts b.rows p.0 a.0 b.open' h)
book_few (mark named ∷ es) ts b f d s p a w h =
    book_few es ts (at_mark named ts b) false d s p a.1 w (stands_same f d s.counts b.rows b.open' (with_name (start_of ts) (stop_of ts)) (λ r. refl) (λ r. refl) (top b.open') h)
book_few (mark wrapper ∷ es) ts b f d s p a w h = book_few es ts b false d (counted (mark wrapper) s) p a.1 a.0 (stands_plain f d (s.counts.wrappers + 1) s.counts b.rows b.open' h)
book_few (mark (wrap z) ∷ es) ts b f d s p a w h =
    book_few es ts (at_mark (wrap z) ts b) false d s p a.1 w (stands_same f d s.counts b.rows b.open' (wrapped z) (λ r. refl) (λ r. refl) (top b.open') h)
book_few (mark end ∷ es) ts b f zero s p a w h = absurd p
book_few (mark end ∷ es) ts b f (suc d) s p a w h =
    book_few es ts (at_mark end ts b) false d s p a.1 w
    (stands_pop d s.counts (change (stopping b.stop) (top b.open') b.rows) b.open' (stands_same f (suc d) s.counts b.rows b.open' (stopping b.stop) (λ r. refl) (λ r. refl) (top b.open') h))

blank_stands : Stands false 0 nothing_counted.counts [] []
unfolding tally
blank_stands = record { level = refl; chain = tt; fragments = omega arith; few = λ p. omega arith; now = tt; later = λ p l. refl; fresh = λ t. absurd t }

said_in : {t : Text} {rs : List Row} → TextAnswer Document t (rows_are rs) → FewIn rs
unfolding rows_of
said_in {t} (accepts {es = es} w r c) =
    let p = document_deep r.0 in
    book_few es (tokens_of t) empty_book false 0 nothing_counted p (no_fault_few Document t es r c p) (omega arith, omega arith) blank_stands

few_definitions : (d : Doc) → FewIn d.rows → FewDefinitions d
few_definitions d h = record {
  variables = λ op. let n = numbers_tally (defining op) d in let l = h.variables op in omega arith;
  fragments = let n = numbers_tally (is kind_fragment) d in let l = h.fragments in omega arith;
}

-- the rows that a document is said to have
pub said_few : {t : Text} {rs : List Row} → TextAnswer Document t (rows_are rs) → (document : List ℕ) → FewDefinitions (read document rs)
said_few {rs = rs} s document = few_definitions (read document rs) (said_in s)

-- those that the reader leaves
pub taken_few : (s rows : List ℕ) (n : ℕ) → Taken Document s rows n → FewDefinitions (doc_of s rows n)
taken_few s rows n t = rw t.are (said_few t.said s)

-- in full: each operation has at most 64 variable definitions, and the document at most 64 fragment definitions
pub few_variables : {t : Text} {rs : List Row} → TextAnswer Document t (rows_are rs) → (document : List ℕ) (op : ℕ) → length (numbers_where (λ r. is kind_variable_definition r && below op r) (read document rs)) ≤ most_variables
few_variables s document = (said_few s document).variables

pub few_fragments : {t : Text} {rs : List Row} → TextAnswer Document t (rows_are rs) → (document : List ℕ) → length (numbers_where (is kind_fragment) (read document rs)) ≤ most_fragments
few_fragments s document = (said_few s document).fragments

pub taken_variables : (s rows : List ℕ) (n : ℕ) → Taken Document s rows n → (op : ℕ) → length (numbers_where (λ r. is kind_variable_definition r && below op r) (doc_of s rows n)) ≤ most_variables
taken_variables s rows n t = (taken_few s rows n t).variables

pub taken_fragments : (s rows : List ℕ) (n : ℕ) → Taken Document s rows n → length (numbers_where (is kind_fragment) (doc_of s rows n)) ≤ most_fragments
taken_fragments s rows n t = (taken_few s rows n t).fragments
