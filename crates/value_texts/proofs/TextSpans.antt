-- The rows that the reader leaves lie in the text, each from its first token to its last; a number's or string's is one token of its class.
use mathlib.Core.Path.{◌≡◌, refl, sym, ap, ◌∙◌, subst}
use mathlib.Core.Bool.{Bool, true, false, ◌&&◌, cond}
use mathlib.Core.List.{List, [], ◌∷◌}
use Prim.Native.Nat.{ℕ, ◌+◌, ◌<◌, ◌≤◌}
use native.Mathlib.Omega.{arith}
use lib.Dec.{T, eqb}
use lib.ListN.{length}
use Rattle.paper.specs.Grammar.{nt}
use Rattle.paper.specs.Numbers.{no_parent, kind_string, kind_object}
use Rattle.paper.specs.Language.{is_name_class, int, float, string, hits, Part, language, VariablesText}
use Rattle.paper.specs.Lexical.{is}
use Rattle.paper.specs.Tokens.{Text, Longest, Tokens}
use Rattle.paper.specs.Rows.{Row, empty_book, book, rows_of}
use Rattle.paper.specs.Reading.{rows_are, TextAnswer, accepts, tokens_of}
use Rattle.paper.proofs.Bools.{and_l, and_r}
use Rattle.paper_theory.proofs.TokensLaws.{tokens_are}
use Rattle.paper_theory.proofs.Same.{by_one}
use Rattle.query_rows.specs.Rowed.{cell, row_at, row_in}
use Rattle.query_rows.proofs.RowsIn.{row_at_is, rowed_sized}
use Rattle.query_rows.proofs.ReadRows.{Taken}
use Rattle.value_strings.proofs.TokenSpells.{StringToken}
use Rattle.value_strings.proofs.TokenString.{longest_string}
use Rattle.value_tokens.specs.Spans.{Spanned}
use Rattle.value_texts.proofs.Changes.{at}
use Rattle.value_texts.proofs.Phases.{is_literal, literal_class, settled, run, is_settled, ends}
use Rattle.value_texts.proofs.Spanning.{Whole, Stands, Going, going_left, left_whole, first_row}
use Rattle.value_texts.proofs.TokenSpans.{bytes_of, Lies, text_rises, lies_piece, string_size}

-- a part that stands alone: what begins in it ends in it. Document and VariablesText are such
abbrev pub is_alone : Part → Bool
is_alone p = is_settled (run (nt p ∷ []) settled) && ends 0 (nt p ∷ []) 0

blank_stands : (s : List ℕ) (t : Text) → Tokens 0 s t → Stands (length s) (Lies s) settled 0 (tokens_of t) empty_book
blank_stands s t k = record { rise = text_rises s k; down = tt; whole = λ i h. absurd (omega arith); opens = tt; level = refl; last = λ t. absurd t }

-- where the derivation of a text begins
pub begins_going : (p : Part) → T (is_alone p) → (s : List ℕ) (t : Text) → Tokens 0 s t → Going (length s) (Lies s) (nt p ∷ []) (tokens_of t) empty_book
begins_going p a s t k = record {
  phase = settled;
  depth = 0;
  settles = and_l (is_settled (run (nt p ∷ []) settled)) (ends 0 (nt p ∷ []) 0) a;
  closes = and_r (is_settled (run (nt p ∷ []) settled)) (ends 0 (nt p ∷ []) 0) a;
  stands = blank_stands s t k;
}

-- each row of a text
said_whole : (p : Part) → T (is_alone p) → (s : List ℕ) (t : Text) (rs : List Row) → Tokens 0 s t → TextAnswer p t (rows_are rs) → (i : ℕ) → i < length rs → Whole (length s) (Lies s) (at rs i)
unfolding rows_of
said_whole p a s t rs k (accepts {es = es} w r c) i h =
    left_whole (length s) (Lies s) (book es (tokens_of t) empty_book) (going_left (length s) (Lies s) r.0 (tokens_of t) empty_book r.1 (begins_going p a s t k)).0 i h

-- a row in the lent numbers is the list's
pub row_is : (p : Part) (s rows : List ℕ) (n : ℕ) (t : Taken p s rows n) (i : ℕ) → row_in rows n i ≡ at t.list i
row_is p s rows n t i = ap (λ (rs : List Row). at rs i) t.are

literal_no_name : (k : ℕ) → T (is_name_class (literal_class k)) → ⊥
literal_no_name k = go (eqb k 21) (eqb k 22)
  where
    go : (a b : Bool) → T (is_name_class (cond a int (cond b float string))) → ⊥
    go true b t = t
    go false true t = t
    go false false t = t

module _ (p : Part) (a : T (is_alone p)) (s rows : List ℕ) (n : ℕ) (t : Taken p s rows n) where
  whole_at : (i : ℕ) → i < n → Whole (length s) (Lies s) (row_at rows i)
  whole_at i h =
      subst (Whole (length s) (Lies s)) (sym (row_is p s rows n t i) ∙ row_at_is rows n i h)
      (said_whole p a s _ t.list (tokens_are s) t.said i (omega (arith, t.count)))

  -- the bytes of a number's or string's row are a token of that class
  pub taken_token : (i : ℕ) → i < n → T (is_literal (cell rows i 0)) → (bs : List ℕ) × Longest bs (bytes_of s (cell rows i 1) (cell rows i 2)) (is (literal_class (cell rows i 0)))
  taken_token i h l =
      let w = (whole_at i h).2 l in
      let q = lies_piece s w.0 (literal_class (cell rows i 0)) (literal_no_name (cell rows i 0)) w.1 w.2 in
      (q.0, subst (λ (z : List ℕ). Longest q.0 z (is (literal_class (cell rows i 0)))) (ap (λ (x : ℕ). bytes_of s x w.0.stop) w.3 ∙ ap (bytes_of s (cell rows i 1)) w.4) q.1)

  -- those of a string's row a string token
  pub taken_string : (i : ℕ) → i < n → cell rows i 0 ≡ kind_string → StringToken (bytes_of s (cell rows i 1) (cell rows i 2))
  taken_string i h e =
      let q = taken_token i h (subst (λ (k : ℕ). T (is_literal k)) (sym e) tt) in
      longest_string (subst (λ (k : ℕ). Longest q.0 (bytes_of s (cell rows i 1) (cell rows i 2)) (is (literal_class k))) e q.1)

  string_long : (i : ℕ) → i < n → cell rows i 0 ≡ kind_string → cell rows i 1 + 2 ≤ cell rows i 2
  string_long i h e =
      let w = (whole_at i h).2 (subst (λ (k : ℕ). T (is_literal k)) (sym e) tt) in
      let b = string_size (bytes_of s (cell rows i 1) (cell rows i 2)) (taken_string i h e) in
      let z : length (bytes_of s (cell rows i 1) (cell rows i 2)) + cell rows i 1 ≡ cell rows i 2
      = subst (λ (x : ℕ). length (bytes_of s x (cell rows i 2)) + x ≡ cell rows i 2) w.3 (subst (λ (y : ℕ). length (bytes_of s w.0.start y) + w.0.start ≡ y) w.4 w.1.size) in
      omega arith

  -- what coercion asks of where rows lie
  pub taken_spanned : Spanned s rows n
  taken_spanned = record {
    short = t.rowed.short;
    sized = rowed_sized t.rowed;
    order = λ i h. (whole_at i h).0;
    within = λ i h. (whole_at i h).1;
    quotes = string_long;
  }

-- the first row of a variables text
pub record Object (rs : List Row) : Type 0 where
  pub some : 0 < length rs
  pub kind_is : (at rs 0).kind ≡ kind_object
  pub parent_is : (at rs 0).parent ≡ no_parent

said_object : (s : List ℕ) (t : Text) (rs : List Row) → Tokens 0 s t → TextAnswer VariablesText t (rows_are rs) → Object rs
unfolding rows_of language
said_object s t rs k (accepts {es = es} w r c) =
    let q = first_row (length s) (Lies s) kind_object 0 (by_one language hits {n = VariablesText} refl r.0) (tokens_of t) tt tt r.1 (text_rises s k) (λ e. absurd (omega arith)) in
    record { some = q.0; kind_is = q.1; parent_is = q.2 }

pub taken_object : (s rows : List ℕ) (n : ℕ) → Taken VariablesText s rows n → (0 < n) × ((row_in rows n 0).kind ≡ kind_object) × ((row_in rows n 0).parent ≡ no_parent)
taken_object s rows n t =
    let o = said_object s _ t.list (tokens_are s) t.said in
    (omega (arith, t.count, o.some), ap (λ (r : Row). r.kind) (row_is VariablesText s rows n t 0) ∙ o.kind_is, ap (λ (r : Row). r.parent) (row_is VariablesText s rows n t 0) ∙ o.parent_is)
