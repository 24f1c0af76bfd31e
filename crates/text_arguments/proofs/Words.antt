-- Names that the grammar tells apart, on the machine: a test over all classes is asked for those of a word.
use mathlib.Core.Path.{◌≡◌, refl, sym, ap, ◌∙◌, subst}
use mathlib.Core.Bool.{Bool, false, not, ◌&&◌}
use mathlib.Core.List.{List, ◌∷◌, ◌++◌, Memᴰ}
use mathlib.Core.Option.{some}
use Prim.Native.Nat.{ℕ, ◌≤◌}
use lib.Dec.{T}
use lib.ListN.{length}
use borrow.Author.Tests.{le-ltb, ne_eqb}
use Rattle.paper.specs.Grammar.{nt, tm}
use Rattle.paper.specs.Numbers.{most_rows}
use Rattle.paper.specs.Language.{Class, num_c, Terminal, hits, Part, n_other}
use Rattle.paper.specs.Tokens.{Text, token, name_class}
use Rattle.paper.specs.Sizes.{Counts, opens_level, closes_level, over_counts}
use Rattle.paper.proofs.Lexing.{from}
use Rattle.paper.proofs.Machine.{fst, step}
use Rattle.paper.proofs.Bools.{T→eq, and_l, and_r, not_eq}
use Rattle.paper_theory.proofs.Theory.{choose_first, step_by}
use Rattle.paper_theory.proofs.Test.{all, implies, implies_out, all_at}
use Rattle.paper.proofs.Tables.{graphql, factored, all_c, at_c}
use Rattle.paper_theory.proofs.Checked.{fits}
use Rattle.paper.proofs.Going.{Stack, State, st, Out, go, goes}
use Rattle.text_scan.specs.Head.{head_of, kind_of, word_of, word_number, token_read}
use Rattle.text_scan.proofs.TokenLaws.{token_parts}
use Rattle.text_cursor.specs.declared.Cursor.{Cursor}
use Rattle.text_cursor.specs.Reader.{Looks}
use Rattle.text_cursor.proofs.Steps.{token_of, is}
use Rattle.text_arguments.specs.Arguments.{AtOn, bytes_at}
use Rattle.text_tokens.proofs.HeadLaws.{head_name}

-- a class by its kind and its word
by_word : (f : Class → Bool) (g : ℕ → ℕ → Bool) → T (all (λ k. implies (g (kind_of k) (word_number k)) (f k)) all_c) → (k : Class) (x w : ℕ) → kind_of k ≡ x → word_number k ≡ w → T (g x w) → T (f k)
by_word f g h k x w e d t =
    implies_out (g (kind_of k) (word_number k)) (f k) (all_at (λ k. implies (g (kind_of k) (word_number k)) (f k)) all_c (num_c k) h (at_c k))
    (subst (λ (y : ℕ). T (g (kind_of k) y)) (sym d) (subst (λ (y : ℕ). T (g y w)) (sym e) t))

-- the token that a cursor at a name looks at
at_name : (s : List ℕ) (c : Cursor) → c.stop ≤ length s → Looks s c → c.kind ≡ kind_of n_other →
    (kind_of (name_class (bytes_at s c)) ≡ 1) × (from s c.stop ≡ token (token_of (name_class (bytes_at s c)) c.start c.end) (from s c.end))
at_name s c h l e =
    let f : from s c.stop ≡ token (token_of (name_class (bytes_at s c)) c.start c.end) (from s c.end) = head_name s c.stop c.start c.end h (l ∙ ap (λ (k : ℕ). token_read k c.start c.end) e) in
    let q : token_read (kind_of (name_class (bytes_at s c))) c.start c.end ≡ token_read c.kind c.start c.end = ap head_of (sym f) ∙ l in
    ((token_parts _ _ _ _ q).0 ∙ e, f)

class_first : (S : State) (σ : Stack) (p : Part) {α : Stack} (k : Class) (a e : ℕ) (t : Text) → Memᴰ α (factored p) → T (fst graphql α k) →
    go S (nt p ∷ σ) (token (token_of k a e) t) ≡ go S (α ++ σ) (token (token_of k a e) t)
unfolding go
class_first S σ p k a e t m h = ap (goes S (token_of k a e) t (λ s' τ. go s' τ t)) (step_by fits p (some k) σ (choose_first fits p k m h))

class_taken : (cells : List ℕ) (n : ℕ) (o : List ℕ) (stop left : ℕ) (q : Counts) (σ : Stack) (w : Terminal) (k : Class) (a e : ℕ) (t : Text) → T (hits w k) → T (not (opens_level k)) → T (not (closes_level k)) → n ≤ most_rows → over_counts q ≡ false →
    go (st cells n o stop left q) (tm w ∷ σ) (token (token_of k a e) t) ≡ go (st cells n o e left q) σ t
unfolding go step
class_taken cells n o stop left q σ w k a e t h u v r z = rw (T→eq (hits w k) h, not_eq (opens_level k) u, not_eq (closes_level k) v, le-ltb most_rows n r, z) refl

module _ (s : List ℕ) (c : Cursor) (h : c.stop ≤ length s) (l : Looks s c) (e : c.kind ≡ kind_of n_other) (cells : List ℕ) (n : ℕ) (o : List ℕ) (left : ℕ) (q : Counts) where
  abbrev here : Stack → Out
  here τ = go (st cells n o c.stop left q) τ (from s c.stop)

  -- a word that begins the production α of the part
  pub word_first : (σ : Stack) (p : Part) {α : Stack} → Memᴰ α (factored p) → (g : ℕ → ℕ → Bool) → T (g 1 (word_of (bytes_at s c))) → T (all (λ k. implies (g (kind_of k) (word_number k)) (fst graphql α k)) all_c) →
      here (nt p ∷ σ) ≡ here (α ++ σ)
  unfolding word_of
  word_first σ p {α} m g t a =
      let f = at_name s c h l e in
      rw f.1
      (class_first (st cells n o c.stop left q) σ p (name_class (bytes_at s c)) c.start c.end (from s c.end) m
      (by_word (fst graphql α) g a (name_class (bytes_at s c)) 1 (word_of (bytes_at s c)) f.0 refl t))

  -- a word that is there
  pub word_taken : (σ : Stack) (w : Terminal) (g : ℕ → ℕ → Bool) → T (g 1 (word_of (bytes_at s c))) → T (all (λ k. implies (g (kind_of k) (word_number k)) (hits w k && (not (opens_level k) && not (closes_level k)))) all_c) →
      n ≤ most_rows → over_counts q ≡ false → here (tm w ∷ σ) ≡ go (st cells n o c.end left q) σ (from s c.end)
  unfolding word_of
  word_taken σ w g t a r z =
      let f = at_name s c h l e in
      let k : Class = name_class (bytes_at s c) in
      let v : T (hits w k && (not (opens_level k) && not (closes_level k))) = by_word (λ k. hits w k && (not (opens_level k) && not (closes_level k))) g a k 1 (word_of (bytes_at s c)) f.0 refl t in
      let u : T (not (opens_level k) && not (closes_level k)) = and_r (hits w k) (not (opens_level k) && not (closes_level k)) v in
      rw f.1
      (class_taken cells n o c.stop left q σ w k c.start c.end (from s c.end)
      (and_l (hits w k) (not (opens_level k) && not (closes_level k)) v) (and_l (not (opens_level k)) (not (closes_level k)) u) (and_r (not (opens_level k)) (not (closes_level k)) u) r z)

-- the name `on`
abbrev pub is_on : ℕ → ℕ → Bool
is_on k w = is (kind_of n_other) k && is 5 w

pub on_is : (s : List ℕ) (c : Cursor) → AtOn s c → T (is_on 1 (word_of (bytes_at s c)))
on_is s c e = rw e.1 tt

-- and any other
abbrev pub is_no_on : ℕ → ℕ → Bool
is_no_on k w = is (kind_of n_other) k && not (is 5 w)

pub no_on_is : (s : List ℕ) (c : Cursor) → (word_of (bytes_at s c) ≡ 5 → ⊥) → T (is_no_on 1 (word_of (bytes_at s c)))
no_on_is s c e = rw (ne_eqb (word_of (bytes_at s c)) 5 e) tt
