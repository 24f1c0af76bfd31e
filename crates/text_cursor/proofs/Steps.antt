-- What the machine does at the token that a cursor looks at. A reader's proof goes by these laws alone: each speaks of a kind of token, by a
-- class of it, and the tables of the grammar are asked by a test that computes over all classes.
use mathlib.Core.Path.{◌≡◌, refl, sym, ap, ◌∙◌, subst}
use mathlib.Core.Bool.{Bool, true, false, not, ◌&&◌}
use mathlib.Core.List.{List, ◌∷◌, ◌++◌, Memᴰ}
use mathlib.Core.Option.{Option, none, some}
use Prim.Native.Nat.{ℕ, suc, ◌≤◌, ◌<◌}
use native.Mathlib.Omega.{arith}
use lib.Dec.{T, eqb, ltb}
use lib.ListN.{length}
use borrow.Author.Tests.{eq-eqb, ne_eqb, le-ltb, lt-ltb}
use Rattle.std.specs.Prelude.{Err}
use Rattle.paper.specs.Grammar.{nt, tm}
use Rattle.paper.specs.Numbers.{most_rows}
use Rattle.paper.specs.Language.{Class, Terminal, hits, Part}
use Rattle.paper.specs.Tokens.{Tok, Text, at_end, bad, token}
use Rattle.paper.specs.Sizes.{Counts, opens_level, closes_level, over_counts}
use Rattle.paper.specs.declared.Refusal.TheVariants.{NoGoing, TooDeep, TooManyRows, TooMany}
use Rattle.paper.proofs.Lexing.{from}
use Rattle.paper_theory.proofs.FromLaws.{from_token, from_over}
use Rattle.paper.proofs.Machine.{fst, nul, choose, step}
use Rattle.paper.proofs.Bools.{T→eq, and_l, and_r, not_eq}
use Rattle.paper_theory.proofs.Theory.{choose_first, choose_null, step_by, step_none}
use Rattle.paper_theory.proofs.Test.{all, implies, implies_out, all_at}
use Rattle.paper.proofs.Tables.{graphql, factored, all_c, at_c}
use Rattle.paper.specs.Language.{num_c}
use Rattle.paper_theory.proofs.Checked.{fits}
use Rattle.paper.proofs.Going.{Stack, State, st, Out, halt, go, goes, heed, deep, many, marked}
use Rattle.text_scan.specs.Head.{head_of, kind_of, token_read}
use Rattle.text_scan.proofs.TokenLaws.{token_parts}
use Rattle.text_tokens.proofs.KindLaws.{kind_some}
use Rattle.text_cursor.specs.declared.Cursor.{Cursor}
use Rattle.text_cursor.specs.Reader.{Looks}

-- a test of every class holds of each
every : (f : Class → Bool) → T (all f all_c) → (k : Class) → T (f k)
every f h k = all_at f all_c (num_c k) h (at_c k)

pub by_kind : (f : Class → Bool) (g : ℕ → Bool) → T (all (λ k. implies (g (kind_of k)) (f k)) all_c) → (k : Class) (x : ℕ) → kind_of k ≡ x → T (g x) → T (f k)
by_kind f g h k x e t = implies_out (g (kind_of k)) (f k) (every (λ k. implies (g (kind_of k)) (f k)) h k) (subst (λ (y : ℕ). T (g y)) (sym e) t)

abbrev pub is : ℕ → ℕ → Bool
is x y = eqb y x

is_t : (x : ℕ) → T (is x x)
is_t x = rw (eq-eqb x x refl) tt

pub not_is : (x y : ℕ) → (y ≡ x → ⊥) → T (not (is x y))
not_is x y h = rw (ne_eqb y x h) tt

pub not_two : (x x' y : ℕ) → (y ≡ x → ⊥) → (y ≡ x' → ⊥) → T (not (is x y) && not (is x' y))
not_two x x' y h h' = rw (ne_eqb y x h, ne_eqb y x' h') tt

abbrev pub token_of : Class → ℕ → ℕ → Tok
token_of k a e = record { class = k; start = a; stop = e }

-- what a cursor looks at: a token of its kind, or the end of the text
pub data Front (s : List ℕ) (c : Cursor) : Type 0 where
  a_token : (k : Class) → kind_of k ≡ c.kind → from s c.stop ≡ token (token_of k c.start c.end) (from s c.end) → c.stop ≤ c.start → c.start < c.end → c.end ≤ length s → Front s c
  the_end : c.kind ≡ 0 → from s c.stop ≡ at_end c.start → c.start ≡ length s → c.end ≡ c.start → Front s c

pub front : (s : List ℕ) (c : Cursor) → c.stop ≤ length s → Looks s c → Front s c
front s c h l = go' (from s c.stop) refl
  where
    go' : (t : Text) → from s c.stop ≡ t → Front s c
    go' (at_end n) e = let q : token_read 0 n n ≡ token_read c.kind c.start c.end = ap head_of (sym e) ∙ l in let u = token_parts _ _ _ _ q in let z = from_over s c.stop n h e in the_end (sym u.0) (e ∙ ap at_end u.1) (cc) (sym u.2 ∙ u.1)
    go' (bad n) e = let q : Err n ≡ token_read c.kind c.start c.end = ap head_of (sym e) ∙ l in let z : ◌≡◌ {A = ℕ} 0 1 = cc in let w : ⊥ = omega arith in absurd w
    go' (token k t) e =
        let q : token_read (kind_of k.class) k.start k.stop ≡ token_read c.kind c.start c.end = ap head_of (sym e) ∙ l in
        let u = token_parts _ _ _ _ q in
        let b : k.start ≡ c.start = u.1 in
        let d : k.stop ≡ c.end = u.2 in
        let z = from_token s c.stop k t h e in
        a_token k.class u.0
        (e ∙ ap (λ (u : Text). token k u) z.3 ∙ ap (λ (v : ℕ). token k (from s v)) d ∙ ap (λ (v : ℕ). token (token_of k.class v k.stop) (from s c.end)) b ∙ ap (λ (v : ℕ). token (token_of k.class c.start v) (from s c.end)) d)
        (omega (arith, z.0)) (omega (arith, z.1)) (omega (arith, z.2))

-- the same where the kind is not 0
pub front_token : (s : List ℕ) (c : Cursor) → c.stop ≤ length s → Looks s c → (c.kind ≡ 0 → ⊥) →
    (k : Class) × (kind_of k ≡ c.kind) × (from s c.stop ≡ token (token_of k c.start c.end) (from s c.end))
front_token s c h l n = go' (front s c h l)
  where
    go' : Front s c → (k : Class) × (kind_of k ≡ c.kind) × (from s c.stop ≡ token (token_of k c.start c.end) (from s c.end))
    go' (a_token k e f a b d) = (k, e, f)
    go' (the_end e f a b) = absurd (n e)

-- WHICH PRODUCTION. At a token, or at the end

look_at : Text → Option Class
look_at (at_end n) = none
look_at (bad n) = none
look_at (token k t) = some k.class

-- the text does not end at bad bytes
abbrev Good : Text → Type 0
Good (at_end n) = Unit {0}
Good (bad n) = ⊥
Good (token k t) = Unit {0}

go_step : (S : State) (σ σ' : Stack) (t : Text) → step graphql σ (look_at t) ≡ step graphql σ' (look_at t) → go S σ t ≡ go S σ' t
unfolding go look_at
go_step S σ σ' (at_end n) e = ap (Rattle.paper.proofs.Going.ended S n) e
go_step S σ σ' (bad n) e = refl
go_step S σ σ' (token k t) e = ap (goes S k t (λ s' τ. go s' τ t)) e

expand : (S : State) (n : Part) {α : Stack} (σ : Stack) (t : Text) → choose graphql n (look_at t) ≡ some α → go S (nt n ∷ σ) t ≡ go S (α ++ σ) t
expand S n {α} σ t e = go_step S (nt n ∷ σ) (α ++ σ) t (step_by fits n (look_at t) σ e)

abbrev pub is_none : {X : Type 0} → Option X → Bool
is_none none = true
is_none (some x) = false

none_is : {X : Type 0} (o : Option X) → T (is_none o) → o ≡ none
none_is none h = refl
none_is (some x) h = absurd h

-- no production of the part goes on with a class, or with the end
unfoldable pub refuses : Part → Class → Bool
refuses n k = is_none (choose graphql n (some k))

unfoldable pub refuses_end : Part → Bool
refuses_end n = is_none (choose graphql n none)

abbrev pub same_bool : Bool → Bool → Bool
same_bool true b = b
same_bool false b = not b

bool_is : (a b : Bool) → T (same_bool a b) → a ≡ b
bool_is true true h = refl
bool_is true false h = absurd h
bool_is false true h = absurd h
bool_is false false h = refl

nope : (b : Bool) → T (not b) → T b → ⊥
nope true x y = x
nope false x y = y

-- What a cursor's token does, where the machine is anywhere: its cells, rows, open rows, levels and counts are free
module _ (s : List ℕ) (c : Cursor) (h : c.stop ≤ length s) (l : Looks s c) (cells : List ℕ) (n : ℕ) (o : List ℕ) (left : ℕ) (q : Counts) where
  abbrev pub here : Stack → Out
  here τ = go (st cells n o c.stop left q) τ (from s c.stop)

  -- a kind of token that begins the production α of the part
  pub first : (σ : Stack) (p : Part) {α : Stack} → Memᴰ α (factored p) → (x : Class) → c.kind ≡ kind_of x → T (all (λ k. implies (is (kind_of x) (kind_of k)) (fst graphql α k)) all_c) → here (nt p ∷ σ) ≡ here (α ++ σ)
  unfolding look_at
  first σ p {α} m x e t =
      let f = front_token s c h l (λ z. let w : ⊥ = omega (arith, kind_some x) in w) in
      rw f.2
      (expand (st cells n o c.stop left q) p σ (token (token_of f.0 c.start c.end) (from s c.end))
      (choose_first fits p f.0 m (by_kind (fst graphql α) (is (kind_of x)) t f.0 (kind_of x) (f.1 ∙ e) (is_t (kind_of x)))))

  -- tokens, or the end, that begin none of the part's productions, while α is one of no token
  pub null : (σ : Stack) (p : Part) {α : Stack} → Memᴰ α (factored p) → T (nul graphql α) → choose graphql p none ≡ some α → (g : ℕ → Bool) → T (g c.kind) →
      T (all (λ k. implies (g (kind_of k)) (not (graphql.first p k))) all_c) → here (nt p ∷ σ) ≡ here (α ++ σ)
  unfolding look_at
  null σ p {α} m z e g t a = go' (front s c h l)
    where
      go' : Front s c → here (nt p ∷ σ) ≡ here (α ++ σ)
      go' (a_token k d f i j m') =
          rw f (expand (st cells n o c.stop left q) p σ (token (token_of k c.start c.end) (from s c.end)) (choose_null fits p k m z (nope (graphql.first p k) (by_kind (λ k. not (graphql.first p k)) g a k c.kind d t))))
      go' (the_end d f i j) = rw f (expand (st cells n o c.stop left q) p σ (at_end c.start) e)

  -- tokens, or the end, with which the part cannot go on
  pub refuse : (σ : Stack) (p : Part) (g : ℕ → Bool) → T (g c.kind) → T (all (λ k. implies (g (kind_of k)) (refuses p k)) all_c) → T (refuses_end p) → here (nt p ∷ σ) ≡ halt (NoGoing c.start)
  unfolding refuses refuses_end go
  refuse σ p g t a e = go' (front s c h l)
    where
      go' : Front s c → here (nt p ∷ σ) ≡ halt (NoGoing c.start)
      go' (a_token k d f i j m') = rw (f, step_none fits p (some k) σ (none_is (choose graphql p (some k)) (by_kind (refuses p) g a k c.kind d t))) refl
      go' (the_end d f i j) = rw (f, step_none fits p none σ (none_is (choose graphql p none) e)) refl

  -- a terminal that is not there
  pub lacks : (σ : Stack) (w : Terminal) (g : ℕ → Bool) → T (g c.kind) → T (all (λ k. implies (g (kind_of k)) (not (hits w k))) all_c) → here (tm w ∷ σ) ≡ halt (NoGoing c.start)
  unfolding go step
  lacks σ w g t a = go' (front s c h l)
    where
      go' : Front s c → here (tm w ∷ σ) ≡ halt (NoGoing c.start)
      go' (a_token k d f i j m') = rw (f, not_eq (hits w k) (by_kind (λ k. not (hits w k)) g a k c.kind d t)) refl
      go' (the_end d f i j) = rw f refl

  -- a terminal that is there, where the sizes are kept: a plain token, one that opens a level, one that closes it
  module _ (σ : Stack) (w : Terminal) (x : Class) (e : c.kind ≡ kind_of x) (t : T (all (λ k. implies (is (kind_of x) (kind_of k)) (hits w k)) all_c)) where
    take_with : (b d : Bool) → T (all (λ k. implies (is (kind_of x) (kind_of k)) (same_bool (opens_level k) b && same_bool (closes_level k) d)) all_c) →
        here (tm w ∷ σ) ≡ deep b d left c.start (λ m. many (ltb most_rows n) (TooManyRows c.start) (many (over_counts q) (TooMany c.start) (go (st cells n o c.end m q) σ (from s c.end))))
    unfolding go step
    take_with b d u =
        let f = front_token s c h l (λ z. let y : ⊥ = omega (arith, kind_some x) in y) in
        let v : T (same_bool (opens_level f.0) b && same_bool (closes_level f.0) d) = by_kind (λ k. same_bool (opens_level k) b && same_bool (closes_level k) d) (is (kind_of x)) u f.0 (kind_of x) (f.1 ∙ e) (is_t (kind_of x)) in
        rw (f.2, T→eq (hits w f.0) (by_kind (hits w) (is (kind_of x)) t f.0 (kind_of x) (f.1 ∙ e) (is_t (kind_of x))), bool_is (opens_level f.0) b (and_l (same_bool (opens_level f.0) b) (same_bool (closes_level f.0) d) v), bool_is (closes_level f.0) d (and_r (same_bool (opens_level f.0) b) (same_bool (closes_level f.0) d) v)) refl

    pub plain : T (all (λ k. implies (is (kind_of x) (kind_of k)) (same_bool (opens_level k) false && same_bool (closes_level k) false)) all_c) → n ≤ most_rows → over_counts q ≡ false → here (tm w ∷ σ) ≡ go (st cells n o c.end left q) σ (from s c.end)
    plain u r k = take_with false false u ∙ rw (le-ltb most_rows n r, k) refl

    pub opening : T (all (λ k. implies (is (kind_of x) (kind_of k)) (same_bool (opens_level k) true && same_bool (closes_level k) false)) all_c) → (m : ℕ) → left ≡ suc m → n ≤ most_rows → over_counts q ≡ false → here (tm w ∷ σ) ≡ go (st cells n o c.end m q) σ (from s c.end)
    opening u m v r k = take_with true false u ∙ rw (v, le-ltb most_rows n r, k) refl

    pub closing : T (all (λ k. implies (is (kind_of x) (kind_of k)) (same_bool (opens_level k) false && same_bool (closes_level k) true)) all_c) → n ≤ most_rows → over_counts q ≡ false → here (tm w ∷ σ) ≡ go (st cells n o c.end (suc left) q) σ (from s c.end)
    closing u r k = take_with false true u ∙ rw (le-ltb most_rows n r, k) refl

    -- where a size is not kept
    pub too_deep : T (all (λ k. implies (is (kind_of x) (kind_of k)) (same_bool (opens_level k) true && same_bool (closes_level k) false)) all_c) → left ≡ 0 → here (tm w ∷ σ) ≡ halt (TooDeep c.start)
    too_deep u v = take_with true false u ∙ rw v refl

    pub too_many_rows : T (all (λ k. implies (is (kind_of x) (kind_of k)) (same_bool (opens_level k) false && same_bool (closes_level k) false)) all_c) → most_rows < n → here (tm w ∷ σ) ≡ halt (TooManyRows c.start)
    too_many_rows u r = take_with false false u ∙ rw (lt-ltb most_rows n r) refl

    pub too_many_rows_open : T (all (λ k. implies (is (kind_of x) (kind_of k)) (same_bool (opens_level k) true && same_bool (closes_level k) false)) all_c) → (m : ℕ) → left ≡ suc m → most_rows < n → here (tm w ∷ σ) ≡ halt (TooManyRows c.start)
    too_many_rows_open u m v r = take_with true false u ∙ rw (v, lt-ltb most_rows n r) refl

    pub too_many : T (all (λ k. implies (is (kind_of x) (kind_of k)) (same_bool (opens_level k) false && same_bool (closes_level k) false)) all_c) → n ≤ most_rows → over_counts q ≡ true → here (tm w ∷ σ) ≡ halt (TooMany c.start)
    too_many u r k = take_with false false u ∙ rw (le-ltb most_rows n r, k) refl

    pub too_many_open : T (all (λ k. implies (is (kind_of x) (kind_of k)) (same_bool (opens_level k) true && same_bool (closes_level k) false)) all_c) → (m : ℕ) → left ≡ suc m → n ≤ most_rows → over_counts q ≡ true → here (tm w ∷ σ) ≡ halt (TooMany c.start)
    too_many_open u m v r k = take_with true false u ∙ rw (v, le-ltb most_rows n r, k) refl
