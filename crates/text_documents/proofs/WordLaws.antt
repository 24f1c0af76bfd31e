-- What the machine does at a token by its class, where a name's class is told by the word that it is.
use mathlib.Core.Path.{◌≡◌, refl, sym, ap, ◌∙◌}
use mathlib.Core.Bool.{Bool, true, false, not}
use mathlib.Core.List.{List, ◌∷◌, ◌++◌, Memᴰ}
use mathlib.Core.Option.{Option, none, some}
use Prim.Native.Nat.{ℕ, suc, ◌≤◌}
use native.Mathlib.Omega.{arith}
use lib.Dec.{T, eqb, ltb, eqb→eq}
use lib.ListN.{length, get_elem?}
use borrow.Author.Tests.{eqb-true, eqb-false, ne_eqb, eq-eqb}
use Rattle.paper.specs.Grammar.{nt, tm}
use Rattle.paper.specs.Numbers.{most_rows}
use Rattle.paper.specs.Language.{Class, num_c, same_c, Terminal, hits, Part, n_other}
use Rattle.paper.specs.Tokens.{Tok, Text, token, name_class}
use Rattle.paper.specs.Sizes.{Counts, opens_level, closes_level, over_counts}
use Rattle.paper.specs.declared.Refusal.TheVariants.{NoGoing, TooManyRows, TooMany}
use Rattle.paper.proofs.Lexing.{from}
use Rattle.paper.proofs.Machine.{fst, nul, choose, step}
use Rattle.paper.proofs.Bools.{T→eq, not_eq}
use Rattle.paper_theory.proofs.Theory.{choose_first, choose_null, step_by, step_none}
use Rattle.paper_theory.proofs.Test.{all, implies, implies_out, all_at}
use Rattle.paper.proofs.Tables.{graphql, factored, all_c, at_c}
use Rattle.paper_theory.proofs.Checked.{fits}
use Rattle.paper.proofs.Going.{Stack, State, st, halt, go, goes, many}
use Rattle.text_scan.specs.Head.{kind_of, word_number, word_of}
use Rattle.text_cursor.specs.Reader.{Looks}
use Rattle.text_cursor.specs.declared.Cursor.{Cursor}
use Rattle.text_cursor.proofs.Steps.{is, not_is, token_of, front_token, is_none, refuses}
use Rattle.text_arguments.specs.Arguments.{bytes_at}
use Rattle.text_documents.specs.Words.{word_at}
use Rattle.text_tokens.proofs.HeadLaws.{head_name}

every : (f : Class → Bool) → T (all f all_c) → (k : Class) → T (f k)
every f h k = all_at f all_c (num_c k) h (at_c k)

-- a test by kind and word holds of a class
pub by_word : (f : Class → Bool) (g : ℕ → ℕ → Bool) → T (all (λ k. implies (g (kind_of k) (word_number k)) (f k)) all_c) → (k : Class) (x y : ℕ) → kind_of k ≡ x → word_number k ≡ y → T (g x y) → T (f k)
by_word f g h k x y e i t = implies_out (g (kind_of k) (word_number k)) (f k) (every (λ k. implies (g (kind_of k) (word_number k)) (f k)) h k) (rw (e, i) t)

pub same_class : (a b : Class) → T (same_c a b) → a ≡ b
same_class a b h = let e : num_c a ≡ num_c b = eqb→eq (num_c a) (num_c b) h in let i = at_c a in let j : get_elem? all_c (num_c a) ≡ some b = rw e (at_c b) in cc

-- the token that a cursor looks at, its class by kind and word
pub record Worded (s : List ℕ) (c : Cursor) : Type 0 where
  pub class : Class
  pub kind : kind_of class ≡ c.kind
  pub word : word_number class ≡ word_at s c
  pub text : from s c.stop ≡ token (token_of class c.start c.end) (from s c.end)

pub worded : (s : List ℕ) (c : Cursor) → c.stop ≤ length s → Looks s c → (c.kind ≡ 0 → ⊥) → Worded s c
unfolding word_of
worded s c h l n = by (eqb c.kind (kind_of n_other)) refl
  where
    by : (b : Bool) → eqb c.kind (kind_of n_other) ≡ b → Worded s c
    by true e =
        let f = front_token s c h l n in
        let k : c.kind ≡ kind_of n_other = eqb-true c.kind (kind_of n_other) e in
        let a = head_name s c.stop c.start c.end h (rw k at l) in
        let b : token (token_of f.0 c.start c.end) (from s c.end) ≡ token (record { class = name_class (bytes_at s c); start = c.start; stop = c.end }) (from s c.end) = sym f.2 ∙ a in
        let d : token_of f.0 c.start c.end ≡ record { class = name_class (bytes_at s c); start = c.start; stop = c.end } = cc in
        record { class = f.0; kind = f.1; word = rw e (ap (λ (t : Tok). word_number t.class) d); text = f.2 }
    by false e =
        let f = front_token s c h l n in
        record {
          class = f.0;
          kind = f.1;
          word = rw e (eqb→eq (word_number f.0) 0 (by_word (λ k. eqb (word_number k) 0) (λ x y. not (is (kind_of n_other) x)) tt f.0 c.kind (word_number f.0) f.1 refl (not_is (kind_of n_other) c.kind (eqb-false c.kind (kind_of n_other) e))));
          text = f.2;
        }

none_is : {X : Type 0} (o : Option X) → T (is_none o) → o ≡ none
none_is none h = refl
none_is (some x) h = absurd h

-- AT A CLASS
module _ (k : Class) (a e : ℕ) (t : Text) where
  pub class_first : (S : State) (σ : Stack) (p : Part) {α : Stack} → Memᴰ α (factored p) → T (fst graphql α k) → go S (nt p ∷ σ) (token (token_of k a e) t) ≡ go S (α ++ σ) (token (token_of k a e) t)
  unfolding go
  class_first S σ p m h = ap (goes S (token_of k a e) t (λ s' τ. go s' τ t)) (step_by fits p (some k) σ (choose_first fits p k m h))

  pub class_null : (S : State) (σ : Stack) (p : Part) {α : Stack} → Memᴰ α (factored p) → T (nul graphql α) → (T (graphql.first p k) → ⊥) → go S (nt p ∷ σ) (token (token_of k a e) t) ≡ go S (α ++ σ) (token (token_of k a e) t)
  unfolding go
  class_null S σ p m z h = ap (goes S (token_of k a e) t (λ s' τ. go s' τ t)) (step_by fits p (some k) σ (choose_null fits p k m z h))

  pub class_refuse : (S : State) (σ : Stack) (p : Part) → T (refuses p k) → go S (nt p ∷ σ) (token (token_of k a e) t) ≡ halt (NoGoing a)
  unfolding go refuses
  class_refuse S σ p h = rw (step_none fits p (some k) σ (none_is (choose graphql p (some k)) h)) refl

  pub class_take : (cells : List ℕ) (n : ℕ) (o : List ℕ) (stop left : ℕ) (q : Counts) (σ : Stack) (w : Terminal) → T (hits w k) → T (not (opens_level k)) → T (not (closes_level k)) →
      go (st cells n o stop left q) (tm w ∷ σ) (token (token_of k a e) t) ≡ many (ltb most_rows n) (TooManyRows a) (many (over_counts q) (TooMany a) (go (st cells n o e left q) σ t))
  unfolding go step
  class_take cells n o stop left q σ w h i j = rw (T→eq (hits w k) h, not_eq (opens_level k) i, not_eq (closes_level k) j) refl

-- a word is one of a name
pub word_name : (s : List ℕ) (c : Cursor) (w : ℕ) → word_at s c ≡ suc w → (c.kind ≡ kind_of n_other) × (word_of (bytes_at s c) ≡ suc w)
word_name s c w h = by (eqb c.kind (kind_of n_other)) refl
  where
    by : (b : Bool) → eqb c.kind (kind_of n_other) ≡ b → (c.kind ≡ kind_of n_other) × (word_of (bytes_at s c) ≡ suc w)
    by true e = (eqb-true c.kind (kind_of n_other) e, rw e at h)
    by false e = let z : 0 ≡ suc w = rw e at h in let y : ⊥ = omega arith in absurd y

pub name_word : (s : List ℕ) (c : Cursor) → c.kind ≡ kind_of n_other → word_at s c ≡ word_of (bytes_at s c)
name_word s c h = rw (eq-eqb c.kind (kind_of n_other) h) refl

pub no_word : (s : List ℕ) (c : Cursor) → (c.kind ≡ kind_of n_other → ⊥) → word_at s c ≡ 0
no_word s c h = rw (ne_eqb c.kind (kind_of n_other) h) refl
