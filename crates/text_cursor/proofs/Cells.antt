-- The marks of a row, on the lent numbers: what the machine writes mark by mark is the row's seven numbers.
use mathlib.Core.Path.{◌≡◌, refl, sym, ap, ◌∙◌, subst}
use mathlib.Core.List.{List, [], ◌∷◌, ◌++◌}
use Prim.Native.Nat.{ℕ, suc, ◌+◌, ◌-◌, ◌*◌, ◌≤◌, ◌<◌}
use native.Mathlib.Nat.{add-zero, add-suc, suc-add, lt_irrefl}
use native.Mathlib.Numerals.{towards_suc}
use native.Mathlib.Omega.{arith}
use lib.ListN.{length, set, get_or}
use lib.Seq.{sets, set-set, set_comm, get_or-set_same, length-sets, lt-length-sets}
use Rattle.paper.specs.Grammar.{act}
use Rattle.paper.specs.Language.{row, kind, named, wrapper, wrap, end}
use Rattle.paper.specs.Tokens.{Text}
use Rattle.paper.specs.Rows.{top}
use Rattle.paper.specs.Sizes.{Counts, kinded, wrapper_more}
use Rattle.paper.proofs.Going.{Stack, st, go, go_act, start_in, stop_in}

-- row n of the numbers
abbrev pub put : List ℕ → ℕ → ℕ → ℕ → ℕ → ℕ → ℕ → ℕ → ℕ → List ℕ
put cells n k a e p m z x = sets cells (7 * n) (k ∷ a ∷ e ∷ p ∷ m ∷ z ∷ x ∷ [])

-- a store before a run of stores may come first
set_first : (l : List ℕ) (i k v : ℕ) (xs : List ℕ) → k < i → set (sets l i xs) k v ≡ sets (set l k v) i xs
set_first l i k v [] h = refl
set_first l i k v (x ∷ xs) h =
    set_first (set l i x) (suc i) k v xs (omega arith) ∙ ap (λ (m : List ℕ). sets m (suc i) xs) (set_comm l i k x v (λ e. lt_irrefl k (subst (λ (j : ℕ). k < j) e h)))

-- one of a run of stores made again
sets_change : (l : List ℕ) (i : ℕ) (xs : List ℕ) (v w : ℕ) (ys : List ℕ) → set (sets l i (xs ++ (v ∷ ys))) (i + length xs) w ≡ sets l i (xs ++ (w ∷ ys))
sets_change l i [] v w ys = rw (add-zero i) (set_first (set l i v) (suc i) i w ys (omega arith) ∙ ap (λ (m : List ℕ). sets m (suc i) ys) (set-set l i v w))
sets_change l i (x ∷ xs) v w ys =
    ap (λ (k : ℕ). set (sets (set l i x) (suc i) (xs ++ (v ∷ ys))) k w) (add-suc i (length xs) ∙ sym (suc-add i (length xs))) ∙ sets_change (set l i x) (suc i) xs v w ys

-- a number of a row
module _ (cells : List ℕ) (n k a e p m z x : ℕ) where
  put_kind : (w : ℕ) → set (put cells n k a e p m z x) (7 * n) w ≡ put cells n w a e p m z x
  put_kind w = ap (λ (j : ℕ). set (put cells n k a e p m z x) j w) (sym (add-zero (7 * n))) ∙ sets_change cells (7 * n) [] k w (a ∷ e ∷ p ∷ m ∷ z ∷ x ∷ [])

  pub put_stop : (w : ℕ) → set (put cells n k a e p m z x) (7 * n + 2) w ≡ put cells n k a w p m z x
  put_stop w = sets_change cells (7 * n) (k ∷ a ∷ []) e w (p ∷ m ∷ z ∷ x ∷ [])

  put_name : (w : ℕ) → set (put cells n k a e p m z x) (7 * n + 4) w ≡ put cells n k a e p w z x
  put_name w = sets_change cells (7 * n) (k ∷ a ∷ e ∷ p ∷ []) m w (z ∷ x ∷ [])

  put_size : (w : ℕ) → set (put cells n k a e p m z x) (7 * n + 5) w ≡ put cells n k a e p m w x
  put_size w = sets_change cells (7 * n) (k ∷ a ∷ e ∷ p ∷ m ∷ []) z w (x ∷ [])

  put_extra : (w : ℕ) → set (put cells n k a e p m z x) (7 * n + 6) w ≡ put cells n k a e p m z w
  put_extra w = sets_change cells (7 * n) (k ∷ a ∷ e ∷ p ∷ m ∷ z ∷ []) x w []

  -- the extra of a row that is there
  get_extra : 7 * n + 7 ≤ length cells → get_or (put cells n k a e p m z x) (7 * n + 6) 0 ≡ x
  get_extra h =
      ap (λ (l : List ℕ). get_or l (7 * n + 6) 0) (sets_snoc)
      ∙ get_or-set_same (sets cells (7 * n) (k ∷ a ∷ e ∷ p ∷ m ∷ z ∷ [])) (7 * n + 6) x 0 (lt-length-sets cells (7 * n) (k ∷ a ∷ e ∷ p ∷ m ∷ z ∷ []) (omega arith))
    where
      sets_snoc : put cells n k a e p m z x ≡ set (sets cells (7 * n) (k ∷ a ∷ e ∷ p ∷ m ∷ z ∷ [])) (7 * n + 6) x
      sets_snoc = simp towards_suc

pub put_length : (cells : List ℕ) (n k a e p m z x : ℕ) → length (put cells n k a e p m z x) ≡ length cells
put_length cells n k a e p m z x = length-sets cells (7 * n) (k ∷ a ∷ e ∷ p ∷ m ∷ z ∷ x ∷ [])

-- THE MARKS
module _ (cells : List ℕ) (n : ℕ) (o : List ℕ) (stop left : ℕ) (q : Counts) (σ : Stack) (t : Text) where
  -- a row begins, and its kind is told
  pub row_begins : go (st cells n o stop left q) (act row ∷ σ) t ≡ go (st (put cells n 0 (start_in t) 0 (top o) 0 0 0) (n + 1) (n ∷ o) stop left q) σ t
  row_begins = go_act (st cells n o stop left q) row σ t

  module _ (r k a e p m z x : ℕ) where
    -- the kind of the row that is open
    pub kind_told : (w y : ℕ) → go (st (put cells r k a e p m z x) n (r ∷ o) stop left q) (act (kind w y) ∷ σ) t ≡ go (st (put cells r w a e p m z y) n (r ∷ o) stop left (kinded w q)) σ t
    kind_told w y =
        go_act (st (put cells r k a e p m z x) n (r ∷ o) stop left q) (kind w y) σ t
        ∙ ap (λ (l : List ℕ). go (st l n (r ∷ o) stop left (kinded w q)) σ t) (ap (λ (l : List ℕ). set l (7 * r + 6) y) (put_kind cells r k a e p m z x w) ∙ put_extra cells r w a e p m z x y)

    -- its name is the next token
    pub name_told : go (st (put cells r k a e p m z x) n (r ∷ o) stop left q) (act named ∷ σ) t ≡ go (st (put cells r k a e p (start_in t) (stop_in t - start_in t) x) n (r ∷ o) stop left q) σ t
    name_told =
        go_act (st (put cells r k a e p m z x) n (r ∷ o) stop left q) named σ t
        ∙ ap (λ (l : List ℕ). go (st l n (r ∷ o) stop left q) σ t) (ap (λ (l : List ℕ). set l (7 * r + 5) (stop_in t - start_in t)) (put_name cells r k a e p m z x (start_in t)) ∙ put_size cells r k a e p (start_in t) z x (stop_in t - start_in t))

    -- one more wrapper
    pub wrap_told : (w : ℕ) → 7 * r + 7 ≤ length cells → go (st (put cells r k a e p m z x) n (r ∷ o) stop left q) (act (wrap w) ∷ σ) t ≡ go (st (put cells r k a e p m z (x * 4 + w)) n (r ∷ o) stop left q) σ t
    wrap_told w h =
        go_act (st (put cells r k a e p m z x) n (r ∷ o) stop left q) (wrap w) σ t
        ∙ ap (λ (l : List ℕ). go (st l n (r ∷ o) stop left q) σ t) (ap (λ (y : ℕ). set (put cells r k a e p m z x) (7 * r + 6) (y * 4 + w)) (get_extra cells r k a e p m z x h) ∙ put_extra cells r k a e p m z x (x * 4 + w))

    -- it ends with the last token, and nothing was written behind it
    pub row_ends : go (st (put cells r k a e p m z x) n (r ∷ o) stop left q) (act end ∷ σ) t ≡ go (st (put cells r k a stop p m z x) n o stop left q) σ t
    row_ends = go_act (st (put cells r k a e p m z x) n (r ∷ o) stop left q) end σ t ∙ ap (λ (l : List ℕ). go (st l n o stop left q) σ t) (put_stop cells r k a e p m z x stop)

  -- the open row ends with the last token
  pub ends_row : (r : ℕ) → go (st cells n (r ∷ o) stop left q) (act end ∷ σ) t ≡ go (st (set cells (7 * r + 2) stop) n o stop left q) σ t
  ends_row r = go_act (st cells n (r ∷ o) stop left q) end σ t

  -- a mark of a type reference is counted
  pub wrapper_counted : go (st cells n o stop left q) (act wrapper ∷ σ) t ≡ go (st cells n o stop left (wrapper_more q)) σ t
  wrapper_counted = go_act (st cells n o stop left q) wrapper σ t

-- a row begins, of a kind that is counted or not
pub row_opens : (cells : List ℕ) (n : ℕ) (o : List ℕ) (stop left : ℕ) (q : Counts) (σ : Stack) (t : Text) (k x : ℕ) →
    go (st cells n o stop left q) (act row ∷ act (kind k x) ∷ σ) t ≡ go (st (put cells n k (start_in t) 0 (top o) 0 0 x) (n + 1) (n ∷ o) stop left (kinded k q)) σ t
row_opens cells n o stop left q σ t k x = row_begins cells n o stop left q (act (kind k x) ∷ σ) t ∙ kind_told cells (n + 1) o stop left q σ t n 0 (start_in t) 0 (top o) 0 0 0 k x
