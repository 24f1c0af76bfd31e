-- Going on past a token: the cursor behind it; rows that begin at a token, and names; and what a reader said, where its answer is known.
use mathlib.Core.Path.{◌≡◌, refl, ap, ◌∙◌, subst}
use mathlib.Core.Bool.{Bool, true, false, not}
use mathlib.Core.List.Memᴰ
use mathlib.Core.List.{List, ◌∷◌, ◌++◌}
use Prim.Native.Nat.{ℕ, ◌+◌, ◌-◌, ◌≤◌, ◌<◌}
use mathlib.Core.Logic.{◌⊎◌, inl, inr}
use native.Mathlib.Omega.{arith}
use lib.Dec.{eqb}
use borrow.Author.Tests.{eqb-true, eqb-false}
use lib.ListN.{length}
use Rattle.std.specs.Prelude.{Result, Ok, Err}
use Rattle.paper.specs.Grammar.{nt, act}
use Rattle.paper.specs.Numbers.{most_text, most_rows, rows_size}
use Rattle.paper.specs.Language.{Class, any_name, Name, language, row, kind, named, n_other}
use Rattle.paper.specs.Rows.{top}
use Rattle.paper.specs.Sizes.{Counts, kinded, over_counts}
use Rattle.paper.specs.declared.Refusal.{Refusal}
use Rattle.paper.specs.declared.Refusal.TheVariants.{NoGoing}
use Rattle.paper.proofs.Lexing.{from}
use Rattle.paper.proofs.Machine.{choose}
use Rattle.paper.proofs.Tables.{factored}
use Rattle.paper.proofs.Going.{Stack, st, halt, go, stop_in}
use Rattle.text_scan.specs.Head.{head_of, kind_of}
use Rattle.text_tokens.proofs.KindLaws.{kind_some}
use Rattle.text_cursor.specs.declared.Cursor.{Cursor}
use Rattle.text_cursor.specs.Reader.{Looks, moved_to, at, Ready, Went, Halts, Said}
use Rattle.text_leaves.proofs.MovedLaws.{start_in_is, stop_in_is, moved_done}
use Rattle.text_arguments.specs.Passed.{Passed, Passes, shut}
use Rattle.text_cursor.proofs.ReaderLaws.{token_lies}
use Rattle.text_cursor.proofs.Cells.{put, row_opens, name_told}
use Rattle.text_cursor.proofs.Steps.{Front, a_token, the_end, front, first, refuse, plain, is, not_is, refuses, refuses_end}

-- the cursor d is past the token of c, with m rows
pub record Next (s : List ℕ) (c d : Cursor) (m : ℕ) : Type 0 where
  pub stop : d.stop ≡ c.end
  pub rows : d.rows ≡ m
  pub looks : Looks s d
  pub within : d.stop ≤ length s

-- where a cursor's token lies
pub lies : (s : List ℕ) (c : Cursor) → c.stop ≤ length s → Looks s c → (c.stop ≤ c.start) × (c.start ≤ c.end) × (c.end ≤ length s)
lies s c h l = token_lies s c.stop c.kind c.start c.end h l

-- a token has a byte
pub has_bytes : (s : List ℕ) (c : Cursor) → c.stop ≤ length s → Looks s c → (x : Class) → c.kind ≡ kind_of x → c.start < c.end
has_bytes s c h l x e = go' (front s c h l)
  where
    go' : Front s c → c.start < c.end
    go' (a_token k d f i j m) = j
    go' (the_end d f i j) = let w : ⊥ = omega (arith, kind_some x) in absurd w

pub next : (s : List ℕ) (c d : Cursor) (m : ℕ) → c.stop ≤ length s → Looks s c → (r : Result Cursor Refusal) → r ≡ moved_to c.end m (head_of (from s c.end)) → r ≡ Ok d → Next s c d m
next s c d m h l r q e =
    let z = moved_done s c.end m r d q e in
    let b = lies s c h l in
    record { stop = z.stop; rows = z.rows; looks = z.looks; within = omega (arith, z.stop) }

-- the machine behind the token of c is the machine at d
pub next_at : (s : List ℕ) (c d : Cursor) (m : ℕ) → Next s c d m → (cells o : List ℕ) (left : ℕ) (q : Counts) (σ : Stack) → go (st cells m o c.end left q) σ (from s c.end) ≡ at s cells d o left q σ
next_at s c d m x cells o left q σ = rw (x.stop, x.rows) refl

-- a name, or none
module _ (s : List ℕ) (c : Cursor) (h : c.stop ≤ length s) (l : Looks s c) (cells : List ℕ) (n : ℕ) (o : List ℕ) (left : ℕ) (q : Counts) (σ : Stack) where
  pub name_taken : c.kind ≡ kind_of n_other → n ≤ most_rows → over_counts q ≡ false → go (st cells n o c.stop left q) (nt Name ∷ σ) (from s c.stop) ≡ go (st cells n o c.end left q) σ (from s c.end)
  unfolding factored language
  name_taken e m f = first s c h l cells n o left q σ Name (Memᴰ.head refl) n_other e tt ∙ plain s c h l cells n o left q σ any_name n_other e tt tt m f

  pub name_lacks : (c.kind ≡ kind_of n_other → ⊥) → go (st cells n o c.stop left q) (nt Name ∷ σ) (from s c.stop) ≡ halt (NoGoing c.start)
  unfolding factored language choose refuses refuses_end
  name_lacks e = refuse s c h l cells n o left q σ Name (λ (y : ℕ). not (is (kind_of n_other) y)) (not_is (kind_of n_other) c.kind e) tt tt

-- a number is another, or not
pub same : (x y : ℕ) → (x ≡ y) ⊎ (x ≡ y → ⊥)
same x y = by_test (eqb x y) refl
  where
    by_test : (b : Bool) → eqb x y ≡ b → (x ≡ y) ⊎ (x ≡ y → ⊥)
    by_test true e = inl (eqb-true x y e)
    by_test false e = inr (eqb-false x y e)

-- what a reader said, where its answer is known
pub said_went : (gain : ℕ) (s rows rows' : List ℕ) (c d : Cursor) (parent left : ℕ) (α : Stack) (r : Result Cursor Refusal) → Said gain s rows rows' c parent left α r → r ≡ Ok d → Went gain s rows rows' c d parent left α
said_went gain s rows rows' c d parent left α r v e = subst (λ (x : Result Cursor Refusal). Said gain s rows rows' c parent left α x) e v

pub said_halts : (gain : ℕ) (s rows rows' : List ℕ) (c : Cursor) (parent left : ℕ) (α : Stack) (r : Result Cursor Refusal) (x : Refusal) → Said gain s rows rows' c parent left α r → r ≡ Err x → Halts s rows c parent left α x
said_halts gain s rows rows' c parent left α r x v e = subst (λ (y : Result Cursor Refusal). Said gain s rows rows' c parent left α y) e v

-- a row begins at the token looked at
pub opened_row : (s : List ℕ) (c : Cursor) → Looks s c → (cells : List ℕ) (n : ℕ) (o : List ℕ) (parent left : ℕ) (q : Counts) (σ : Stack) (k x : ℕ) → top o ≡ parent →
    go (st cells n o c.stop left q) (act row ∷ act (kind k x) ∷ σ) (from s c.stop) ≡ go (st (put cells n k c.start 0 parent 0 0 x) (n + 1) (n ∷ o) c.stop left (kinded k q)) σ (from s c.stop)
opened_row s c l cells n o parent left q σ k x p =
    row_opens cells n o c.stop left q σ (from s c.stop) k x
    ∙ ap (λ (a : ℕ). go (st (put cells n k a 0 (top o) 0 0 x) (n + 1) (n ∷ o) c.stop left (kinded k q)) σ (from s c.stop)) (start_in_is s c l)
    ∙ ap (λ (u : ℕ). go (st (put cells n k c.start 0 u 0 0 x) (n + 1) (n ∷ o) c.stop left (kinded k q)) σ (from s c.stop)) p

-- and takes it as its name
pub named_row : (s : List ℕ) (c : Cursor) → Looks s c → (cells : List ℕ) (n : ℕ) (o : List ℕ) (left : ℕ) (q : Counts) (σ : Stack) (r k a e p m z x : ℕ) →
    go (st (put cells r k a e p m z x) n (r ∷ o) c.stop left q) (act named ∷ σ) (from s c.stop) ≡ go (st (put cells r k a e p c.start (c.end - c.start) x) n (r ∷ o) c.stop left q) σ (from s c.stop)
named_row s c l cells n o left q σ r k a e p m z x =
    name_told cells n o c.stop left q σ (from s c.stop) r k a e p m z x
    ∙ ap (λ (b : ℕ). go (st (put cells r k a e p b (stop_in (from s c.stop) - b) x) n (r ∷ o) c.stop left q) σ (from s c.stop)) (start_in_is s c l)
    ∙ ap (λ (b : ℕ). go (st (put cells r k a e p c.start (b - c.start) x) n (r ∷ o) c.stop left q) σ (from s c.stop)) (stop_in_is s c l)

-- one reading after another, below the same row
pub joined : (gain : ℕ) (s rows rows₁ rows₂ : List ℕ) (c d e : Cursor) (parent left left₁ left₂ : ℕ) (α β γ : Stack) → Passed gain s rows rows₁ c d parent left left₁ shut shut α β →
    Passed 0 s rows₁ rows₂ d e parent left₁ left₂ shut shut β γ → Passed gain s rows rows₂ c e parent left left₂ shut shut α γ
joined gain s rows rows₁ rows₂ c d e parent left left₁ left₂ α β γ i j =
    record { size = j.size; within = j.within; few = j.few; looks = j.looks; on = omega (arith, i.on, j.on); goes = λ σ o q p f. i.goes σ o q p f ∙ j.goes σ o q p f }

-- nothing read yet
pub unmoved : (s rows : List ℕ) (d : Cursor) (parent left : ℕ) (α : Stack) → length rows ≡ rows_size → d.stop ≤ length s → d.rows ≤ most_rows → Looks s d → Passed 0 s rows rows d d parent left left shut shut α α
unmoved s rows d parent left α a b e l = record { size = a; within = b; few = e; looks = l; on = omega arith; goes = λ σ o q p f. refl }

-- what `past` asks, of a cursor known by what was said of it
pub ready_past : (s rows : List ℕ) (c : Cursor) (parent : ℕ) → Ready s rows c parent → (length s ≤ most_text) × (c.end ≤ length s)
ready_past s rows c parent a = (a.short, (lies s c a.within a.looks).2)

pub ready_order : (s rows : List ℕ) (c : Cursor) (parent : ℕ) → Ready s rows c parent → c.start ≤ c.end
ready_order s rows c parent a = (lies s c a.within a.looks).1

pub next_past : (s : List ℕ) (c d : Cursor) (m : ℕ) → Next s c d m → d.end ≤ length s
next_past s c d m x = (lies s d x.within x.looks).2

pub next_order : (s : List ℕ) (c d : Cursor) (m : ℕ) → Next s c d m → d.start ≤ d.end
next_order s c d m x = (lies s d x.within x.looks).1

pub went_past : (gain : ℕ) (s rows rows' : List ℕ) (c d : Cursor) (parent left : ℕ) (α : Stack) → Went gain s rows rows' c d parent left α → d.end ≤ length s
went_past gain s rows rows' c d parent left α w = (lies s d w.within w.looks).2

-- the same of a reader that begins or stops in the middle of a production
module _ (gain : ℕ) (s rows rows' : List ℕ) (c : Cursor) (parent left : ℕ) (f g : List ℕ → List ℕ) (α β : Stack) (r : Result Cursor Refusal) (v : Passes gain s rows rows' c parent left f g α β r) where
  pub passes_went : (d : Cursor) → r ≡ Ok d → Passed gain s rows rows' c d parent left left f g α β
  passes_went d e = subst (λ (x : Result Cursor Refusal). Passes gain s rows rows' c parent left f g α β x) e v

  pub passes_halts : (x : Refusal) → r ≡ Err x → (σ : Stack) (o : List ℕ) (q : Counts) → top (f o) ≡ parent → over_counts q ≡ false → at s rows c (f o) left q (α ++ σ) ≡ halt x
  passes_halts x e = subst (λ (y : Result Cursor Refusal). Passes gain s rows rows' c parent left f g α β y) e v
