-- The least break: it is one of the breaks, none is before it, and where the breaks do not fall it is the first.
use mathlib.Core.Path.{◌≡◌, refl, sym, ap, subst, ◌∙◌}
use mathlib.Core.Bool.{Bool, true, false, cond, true≢false}
use mathlib.Core.Option.{Option, none, some}
use mathlib.Core.List.Memᴰ
use mathlib.Core.List.{List, [], ◌∷◌, head?, Memᴰ}
use Prim.Native.Nat.{ℕ}
use Rattle.paper_table.specs.Judging.{Break, numbers_of, not_after, lesser, least_break}
use Rattle.paper_table.proofs.Before.{Before, before_complete, before_sound, before_refl, before_trans, before_total, Rise, done, then}

none≢some : {b : Break} → ◌≡◌ {A = Option Break} none (some b) → ⊥
none≢some e = true≢false cc

some_inj : {b c : Break} → ◌≡◌ {A = Option Break} (some b) (some c) → b ≡ c
some_inj e = cc

-- it is one of them
pub least_member : (bs : List Break) (b : Break) → least_break bs ≡ some b → Memᴰ b bs
unfolding least_break
least_member [] b e = absurd (none≢some e)
least_member (c ∷ bs) b e = go (least_break bs) refl e (λ (d : Break) (q : least_break bs ≡ some d). least_member bs d q)
  where
    go : (o : Option Break) → least_break bs ≡ o → lesser c o ≡ some b → ((d : Break) → least_break bs ≡ some d → Memᴰ d bs) → Memᴰ b (c ∷ bs)
    go none q e ih = Memᴰ.head (sym (some_inj e))
    go (some d) q e ih = pick (not_after (numbers_of c) (numbers_of d)) e
      where
        pick : (t : Bool) → some (cond t c d) ≡ some b → Memᴰ b (c ∷ bs)
        pick true e = Memᴰ.head (sym (some_inj e))
        pick false e = Memᴰ.tail (ih b (q ∙ e))

-- none is before it
pub least_least : (bs : List Break) (b : Break) → least_break bs ≡ some b → (c : Break) → Memᴰ c bs → Before (numbers_of b) (numbers_of c)
unfolding least_break
least_least [] b e c m = absurd (none≢some e)
least_least (x ∷ bs) b e c m = go (least_break bs) refl e (λ (d : Break) (q : least_break bs ≡ some d). least_least bs d q) m
  where
    at : (y : Break) → y ≡ b → c ≡ y → Before (numbers_of b) (numbers_of c)
    at y p q = subst (λ (z : Break). Before (numbers_of b) (numbers_of z)) (sym (q ∙ p)) (before_refl (numbers_of b))

    go : (o : Option Break) → least_break bs ≡ o → lesser x o ≡ some b → ((d : Break) → least_break bs ≡ some d → (c : Break) → Memᴰ c bs → Before (numbers_of d) (numbers_of c))
        → Memᴰ c (x ∷ bs) → Before (numbers_of b) (numbers_of c)
    go none q e ih (Memᴰ.head p) = at x (some_inj e) p
    go none q e ih (Memᴰ.tail m) = absurd (empty bs q m)
      where
        empty : (bs : List Break) → least_break bs ≡ none → Memᴰ c bs → ⊥
        empty [] q m = Memᴰ.not-nil m
        empty (y ∷ ys) q m = rest (least_break ys) q
          where
            rest : (o : Option Break) → lesser y o ≡ none → ⊥
            rest none q = none≢some (sym q)
            rest (some z) q = none≢some (sym q)
    go (some d) q e ih m = pick (not_after (numbers_of x) (numbers_of d)) refl e m
      where
        pick : (t : Bool) → not_after (numbers_of x) (numbers_of d) ≡ t → some (cond t x d) ≡ some b → Memᴰ c (x ∷ bs) → Before (numbers_of b) (numbers_of c)
        pick true w e (Memᴰ.head p) = at x (some_inj e) p
        pick true w e (Memᴰ.tail m) =
            subst (λ (z : Break). Before (numbers_of z) (numbers_of c)) (some_inj e) (before_trans (before_sound (numbers_of x) (numbers_of d) w) (ih d q c m))
        pick false w e (Memᴰ.head p) =
            let h : Before (numbers_of d) (numbers_of x) = before_total (numbers_of x) (numbers_of d) w in
            subst (λ (z : Break). Before (numbers_of b) (numbers_of z)) (sym p) (subst (λ (z : Break). Before (numbers_of z) (numbers_of x)) (some_inj e) h)
        pick false w e (Memᴰ.tail m) = ih b (q ∙ e) c m

-- there is a least one exactly where there is one
pub least_none : (bs : List Break) → least_break bs ≡ none → bs ≡ []
unfolding least_break
least_none [] e = refl
least_none (b ∷ bs) e = go (least_break bs) e
  where
    go : (o : Option Break) → lesser b o ≡ none → b ∷ bs ≡ []
    go none e = absurd (none≢some (sym e))
    go (some c) e = absurd (none≢some (sym e))

pub least_nil : least_break [] ≡ none
unfolding least_break
least_nil = refl

-- where they do not fall it is the first
pub rise_least : {lo hi : List ℕ} {bs : List Break} → Rise numbers_of lo bs hi → least_break bs ≡ head? bs
unfolding least_break
rise_least (done h) = refl
rise_least (then h (done k)) = refl
rise_least (then {x = b} h (then {x = c} k r)) =
    ap (lesser b) (rise_least (then k r)) ∙ ap (λ (t : Bool). some (cond t b c)) (before_complete k)
