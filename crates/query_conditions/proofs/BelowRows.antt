-- What stands right below what in the rows of a document that was read: the grammar alone says so, and no rule.
use mathlib.Core.Path.{◌≡◌, refl, sym, ap, subst, fun_ext}
use mathlib.Core.List.{List, [], ◌∷◌, ◌++◌}
use Prim.Native.Nat.{ℕ, zero, suc, ◌<◌}
use native.Mathlib.Omega.{arith}
use lib.Dec.{T}
use lib.ListN.{length, length-append}
use lib.Seq.{get_or-append_seam}
use Rattle.paper.specs.Grammar.{Ev, Derives, done, take, note as marks, by}
use Rattle.paper.specs.Numbers.{kind_fragment, kind_argument, kind_type_reference}
use Rattle.paper.specs.Language.{Class, Document, hits, Mark, row, kind, named, wrapper, wrap, end, language}
use Rattle.paper.specs.Tokens.{Tok, Text}
use Rattle.paper.specs.Rows.{Row, Book, empty_book, change, top, start_of, stop_of, begun, of_kind as withKind, with_name, wrapped, stopping, at_mark, taken, rest, book, rows_of}
use Rattle.paper.specs.Reading.{rows_are, TextAnswer, accepts, tokens_of}
use Rattle.paper_query.specs.Constructs.{no_row}
use Rattle.paper_theory.proofs.RowCells.{change_length}
use Rattle.query_counts.proofs.Tallies.{at, parent_same}
use Rattle.query_conditions.proofs.Cells.{Syms, base, Stack, holder, of_value, of_row, of_kind, of_end, run, settled}
use Rattle.query_conditions.proofs.Nested.{run_by}
use Rattle.query_conditions.proofs.Bearing.{Bears, Conditioned, base_conditioned, bears_row, bears_end}
use Rattle.query_conditions.proofs.Kinding.{bears_kind}

abbrev pub kind_at : List Row → ℕ → ℕ
kind_at rs i = (at rs i).kind

abbrev pub parent_at : List Row → ℕ → ℕ
parent_at rs i = (at rs i).parent

pub record Below (rs : List Row) : Type 0 where
  -- right behind a fragment definition stands a type reference right below it
  pub fragments : (i : ℕ) → kind_at rs i ≡ kind_fragment → Conditioned (kind_at rs) (parent_at rs) i
  -- a value right below an argument stands right behind it
  pub arguments : (i j : ℕ) → kind_at rs i ≡ kind_argument → T (of_value (kind_at rs j)) → parent_at rs j ≡ i → j ≡ suc i
  -- a type reference stands right below a fragment or a variable definition
  pub references : (j : ℕ) → kind_at rs j ≡ kind_type_reference → T (holder (kind_at rs (parent_at rs j)))

-- Rows changed, and a row more.
kind_same : (f : Row → Row) → ((r : Row) → (f r).kind ≡ r.kind) → (k i : ℕ) (rs : List Row) → kind_at (change f k rs) i ≡ kind_at rs i
kind_same f g k i [] = refl
kind_same f g zero zero (r ∷ rs) = g r
kind_same f g zero (suc i) (r ∷ rs) = refl
kind_same f g (suc k) zero (r ∷ rs) = refl
kind_same f g (suc k) (suc i) (r ∷ rs) = kind_same f g k i rs

kind_else : (k x o i : ℕ) (rs : List Row) → (i ≡ o → ⊥) → kind_at (change (withKind k x) o rs) i ≡ kind_at rs i
kind_else k x o i [] n = refl
kind_else k x zero zero (r ∷ rs) n = absurd (n refl)
kind_else k x zero (suc i) (r ∷ rs) n = refl
kind_else k x (suc o) zero (r ∷ rs) n = refl
kind_else k x (suc o) (suc i) (r ∷ rs) n = kind_else k x o i rs (λ e. n (ap suc e))

kind_here : (k x o : ℕ) (rs : List Row) → o < length rs → kind_at (change (withKind k x) o rs) o ≡ k
kind_here k x o [] l = absurd (omega arith)
kind_here k x zero (r ∷ rs) l = refl
kind_here k x (suc o) (r ∷ rs) l = kind_here k x o rs (omega arith)

kind_more : (a p i : ℕ) (rs : List Row) → kind_at rs i ≡ kind_at (rs ++ (begun a p ∷ [])) i
kind_more a p zero [] = refl
kind_more a p (suc i) [] = refl
kind_more a p zero (r ∷ rs) = refl
kind_more a p (suc i) (r ∷ rs) = kind_more a p i rs

parent_more : (a p i : ℕ) (rs : List Row) → (i ≡ length rs → ⊥) → parent_at (rs ++ (begun a p ∷ [])) i ≡ parent_at rs i
parent_more a p zero [] n = absurd (n refl)
parent_more a p (suc i) [] n = refl
parent_more a p zero (r ∷ rs) n = refl
parent_more a p (suc i) (r ∷ rs) n = parent_more a p i rs (λ e. n (ap suc e))

-- the same kinds, parents and count
abbrev RowsBear : List Row → Stack → List ℕ → Type 0
RowsBear rs σ os = Bears (kind_at rs) (parent_at rs) (length rs) σ os

rows_same : (f : Row → Row) → ((r : Row) → (f r).kind ≡ r.kind) → ((r : Row) → (f r).parent ≡ r.parent) → (k : ℕ) (rs : List Row) (σ : Stack) (os : List ℕ) → RowsBear rs σ os → RowsBear (change f k rs) σ os
rows_same f g p k rs σ os h =
    subst (λ (n : ℕ). Bears (kind_at (change f k rs)) (parent_at (change f k rs)) n σ os) (sym (change_length f k rs))
    (subst (λ (P : ℕ → ℕ). Bears (kind_at (change f k rs)) P (length rs) σ os) (fun_ext (λ i. sym (parent_same f p k i rs)))
    (subst (λ (K : ℕ → ℕ). Bears K (parent_at rs) (length rs) σ os) (fun_ext (λ i. sym (kind_same f g k i rs))) h))

rows_begin : (a : ℕ) (ss : Syms) (rs : List Row) (σ : Stack) (os : List ℕ) → T (settled (run ss (of_row σ))) → RowsBear rs σ os → RowsBear (rs ++ (begun a (top os) ∷ [])) (of_row σ) (length rs ∷ os)
rows_begin a ss rs σ os t h =
    subst (λ (n : ℕ). Bears (kind_at more) (parent_at more) n (of_row σ) (length rs ∷ os)) (let e = length-append rs (begun a (top os) ∷ []) in omega arith)
    (subst (λ (K : ℕ → ℕ). Bears K (parent_at more) (suc (length rs)) (of_row σ) (length rs ∷ os)) (fun_ext (λ i. kind_more a (top os) i rs))
    (bears_row (kind_at rs) (parent_at rs) (parent_at more) (length rs) (λ i n. parent_more a (top os) i rs n) ss σ os (ap (λ (r : Row). r.parent) (get_or-append_seam rs (begun a (top os)) [] no_row)) t h))
  where
    more : List Row
    more = rs ++ (begun a (top os) ∷ [])

rows_kind : (k x : ℕ) (ss : Syms) (rs : List Row) (σ : Stack) (os : List ℕ) → T (settled (run ss (of_kind k σ))) → RowsBear rs σ os → RowsBear (change (withKind k x) (top os) rs) (of_kind k σ) os
rows_kind k x ss rs σ os t h =
    subst (λ (n : ℕ). Bears (kind_at then') (parent_at then') n (of_kind k σ) os) (sym (change_length (withKind k x) (top os) rs))
    (subst (λ (P : ℕ → ℕ). Bears (kind_at then') P (length rs) (of_kind k σ) os) (fun_ext (λ i. sym (parent_same (withKind k x) (λ r. refl) (top os) i rs)))
    (bears_kind (kind_at rs) (kind_at then') (parent_at rs) (length rs) k ss σ os (λ i n. kind_else k x (top os) i rs n) (λ l. kind_here k x (top os) rs l) t h))
  where
    then' : List Row
    then' = change (withKind k x) (top os) rs

-- in the end
bears_below : (rs : List Row) (σ : Stack) (os : List ℕ) → T (settled σ) → RowsBear rs σ os → Below rs
bears_below rs [] os t h = absurd t
bears_below rs (c ∷ (d ∷ σ)) os t h = absurd t
bears_below rs (c ∷ []) os t h = record {
  fragments = λ i e. base_conditioned (kind_at rs) (parent_at rs) c i (top os) t (h.fragments i e);
  arguments = h.arguments;
  references = h.references;
}

abbrev BookBears : Stack → Book → Type 0
BookBears σ b = RowsBear b.rows σ b.open'

taken_bears : (σ : Stack) (ts : List Tok) (b : Book) → BookBears σ b → BookBears σ (taken ts b)
taken_bears σ [] b h = h
taken_bears σ (k ∷ ts) b h = h

follow : {ss : Syms} {es : List (Ev Class Mark)} → Derives language hits ss es → (σ : Stack) (ts : List Tok) (b : Book) → T (settled (run ss σ)) → BookBears σ b → Below (book es ts b).rows
unfolding book
follow done σ ts b t h = bears_below b.rows σ b.open' t h
follow (take x d) σ ts b t h = follow d σ (rest ts) (taken ts b) t (taken_bears σ ts b h)
follow (by {n} {α} {ss} m d) σ ts b t h = follow d σ ts b (run_by n α ss σ m t) h
follow (marks {a = row} {ss} d) σ ts b t h = follow d (of_row σ) ts (at_mark row ts b) t (rows_begin (start_of ts) ss b.rows σ b.open' t h)
follow (marks {a = kind k x} {ss} d) σ ts b t h = follow d (of_kind k σ) ts (at_mark (kind k x) ts b) t (rows_kind k x ss b.rows σ b.open' t h)
follow (marks {a = named} d) σ ts b t h = follow d σ ts (at_mark named ts b) t (rows_same (with_name (start_of ts) (stop_of ts)) (λ r. refl) (λ r. refl) (top b.open') b.rows σ b.open' h)
follow (marks {a = wrapper} d) σ ts b t h = follow d σ ts b t h
follow (marks {a = wrap w} d) σ ts b t h = follow d σ ts (at_mark (wrap w) ts b) t (rows_same (wrapped w) (λ r. refl) (λ r. refl) (top b.open') b.rows σ b.open' h)
follow (marks {a = end} {ss} d) σ ts b t h =
    follow d (of_end σ) ts (at_mark end ts b) t
    (rows_same (stopping b.stop) (λ r. refl) (λ r. refl) (top b.open') b.rows (of_end σ) _ (bears_end (kind_at b.rows) (parent_at b.rows) (length b.rows) ss σ b.open' t h))

blank_bears : BookBears (base ∷ []) empty_book
blank_bears = record { upper = tt; beyond = λ i l. refl; fragments = λ i e. absurd (omega arith); values = λ j v. absurd v; arguments = λ i j e v p. absurd v; references = λ j e. absurd (omega arith) }

-- the rows that a document is said to have
pub said_below : {t : Text} {rs : List Row} → TextAnswer Document t (rows_are rs) → Below rs
unfolding rows_of
said_below {t} (accepts w r c) = follow r.0 (base ∷ []) (tokens_of t) empty_book tt blank_bears
