-- One block more; all blocks; too many steps.
use mathlib.Core.Path.{◌≡◌, refl, sym, ap, ◌∙◌}
use mathlib.Core.List.{List, [], ◌∷◌, ◌++◌, append_assoc, append-nil}
use mathlib.Core.Logic.{inl, inr}
use Prim.Native.Nat.{ℕ, zero, suc, ◌+◌, ◌*◌, ◌-◌, ◌≤◌, ◌<◌}
use native.Mathlib.Omega.{arith}
use lib.ListN.{length, get_or, set, take, drop, replicate, length-append, length-replicate, length-set, drop_of_length-le}
use lib.Seq.{sets, length-sets, drop-cons, get_or-take, length-take-le}
use Rattle.paper.specs.Numbers.{most_rows}
use Rattle.paper_plan.specs.PlanNumbers.{plan_size, most_blocks}
use Rattle.plan_steps.specs.Table.{Raw, flat_raw, expand_of, Space, Fitted, TooMany, Expanded}
use Rattle.plan_steps.proofs.Writes.{sets_then, flat_append, flat_length}
use Rattle.plan_writing.specs.Writing.{raw_program, raw_firsts, Tables, Holders, plan_cells, Fits, Over, Going, Blocks}
use Rattle.plan_writing.proofs.Zeros.{set_sets, counted}

-- the rows of the blocks
pub holders_size : (o m : ℕ) (out : List ℕ) → m ≤ length out → length (o ∷ take m out) ≡ suc m
holders_size o m out h = ap suc (length-take-le m out h)

pub holder_is : (o m : ℕ) (out : List ℕ) (b r : ℕ) → b ≤ m → r ≡ get_or (o ∷ out) b 0 → r ≡ get_or (o ∷ take m out) b 0
holder_is o m out zero r h e = e
holder_is o m out (suc b) r h e = e ∙ sym (get_or-take m out b 0 (omega arith))

pub holder_most : (o m : ℕ) (out : List ℕ) → Holders o out m → (b r : ℕ) → b ≤ m → r ≡ get_or (o ∷ out) b 0 → r ≤ most_rows
holder_most o m out w zero r h e = omega (arith, e, w.operation)
holder_most o m out w (suc b) r h e = omega (arith, e, w.held b (omega arith))

pub block_first : (o : ℕ) (out : List ℕ) (b : ℕ) → b ≡ 0 → o ≡ get_or (o ∷ out) b 0
block_first o out b e = ap (λ (k : ℕ). get_or (o ∷ out) k 0) (sym e)

pub block_later : (o : ℕ) (out : List ℕ) (b : ℕ) → (b ≡ 0 → ⊥) → get_or out (b - 1) 0 ≡ get_or (o ∷ out) b 0
block_later o out zero e = absurd (e refl)
block_later o out (suc b) e = let z : suc b - 1 ≡ b = omega arith in ap (λ (k : ℕ). get_or out k 0) z

module _ (t : List ℕ) (n : ℕ) (hs : List ℕ) where
  pub going_start : (p : List ℕ) → p ≡ replicate plan_size 0 → Going t n hs p 0 0
  going_start p e =
      record { most = omega arith; top = omega arith; firsts = []; raws = []; reached = refl; count = refl; size = ap length e ∙ length-replicate {A = ℕ} plan_size 0; cells = e; steps_rest = refl; firsts_rest = refl }

  module _ (p : List ℕ) (at b : ℕ) (w : Going t n hs p at b) (low : b < length hs) (h : ℕ) (eh : h ≡ get_or hs b 0) where
    abbrev s : List Raw
    s = expand_of t n (n + 1) at h

    steps_next : raw_program t n 0 hs ≡ (w.raws ++ s) ++ raw_program t n (at + length s) (drop (suc b) hs)
    unfolding raw_program
    steps_next =
        w.steps_rest ∙ ap (λ (l : List ℕ). w.raws ++ raw_program t n at l) (drop-cons hs b 0 low) ∙ ap (λ (x : ℕ). w.raws ++ raw_program t n at (x ∷ drop (suc b) hs)) (sym eh)
        ∙ sym (append_assoc w.raws s (raw_program t n (at + length s) (drop (suc b) hs)))

    firsts_next : raw_firsts t n 0 hs ≡ (w.firsts ++ (at ∷ [])) ++ raw_firsts t n (at + length s) (drop (suc b) hs)
    unfolding raw_firsts
    firsts_next =
        w.firsts_rest ∙ ap (λ (l : List ℕ). w.firsts ++ raw_firsts t n at l) (drop-cons hs b 0 low) ∙ ap (λ (x : ℕ). w.firsts ++ raw_firsts t n at (x ∷ drop (suc b) hs)) (sym eh)
        ∙ sym (append_assoc w.firsts (at ∷ []) (raw_firsts t n (at + length s) (drop (suc b) hs)))

    pub going_more : (p₁ p₂ : List ℕ) (e : ℕ) → length hs ≤ most_blocks → p₁ ≡ set p (2 + b) at → Fitted p₁ p₂ at e s → Going t n hs p₂ e (b + 1)
    going_more p₁ p₂ e few q f = record {
      most = omega arith;
      top = f.top;
      firsts = w.firsts ++ (at ∷ []);
      raws = w.raws ++ s;
      reached = omega (arith, f.end, w.reached, length-append w.raws s);
      count = omega (arith, w.count, length-append w.firsts (at ∷ []));
      size = ap length f.written ∙ length-sets p₁ (2050 + 3 * at) (flat_raw s) ∙ ap length q ∙ length-set p (2 + b) at ∙ w.size;
      cells = all;
      steps_rest = steps_next ∙ ap (λ (x : ℕ). (w.raws ++ s) ++ raw_program t n x (drop (suc b) hs)) (sym f.end) ∙ ap (λ (k : ℕ). (w.raws ++ s) ++ raw_program t n e (drop k hs)) one;
      firsts_rest = firsts_next ∙ ap (λ (x : ℕ). (w.firsts ++ (at ∷ [])) ++ raw_firsts t n x (drop (suc b) hs)) (sym f.end) ∙ ap (λ (k : ℕ). (w.firsts ++ (at ∷ [])) ++ raw_firsts t n e (drop k hs)) one;
    }
      where
        one : suc b ≡ b + 1
        one = omega arith

        all : p₂ ≡ sets (sets (replicate plan_size 0) 2 (w.firsts ++ (at ∷ []))) 2050 (flat_raw (w.raws ++ s))
        all =
            f.written ∙ ap (λ (l : List ℕ). sets l (2050 + 3 * at) (flat_raw s))
            (q ∙ ap (λ (l : List ℕ). set l (2 + b) at) w.cells ∙ set_sets (sets (replicate plan_size 0) 2 w.firsts) (2 + b) 2050 at (flat_raw w.raws) (omega arith)
            ∙ ap (λ (l : List ℕ). sets l 2050 (flat_raw w.raws)) (sets_then (replicate plan_size 0) 2 (2 + b) w.firsts (at ∷ []) (omega (arith, w.count))))
            ∙ sets_then (sets (replicate plan_size 0) 2 (w.firsts ++ (at ∷ []))) 2050 (2050 + 3 * at) (flat_raw w.raws) (flat_raw s) (omega (arith, w.reached, flat_length w.raws))
            ∙ ap (sets (sets (replicate plan_size 0) 2 (w.firsts ++ (at ∷ []))) 2050) (sym (flat_append w.raws s))

    pub going_over : (e : ℕ) → TooMany at e s → Over t n hs e
    going_over e f =
        let r = raw_program t n (at + length s) (drop (suc b) hs) in
        record { told = f.told; many = omega (arith, f.many, ap length steps_next, length-append (w.raws ++ s) r, length-append w.raws s, w.reached) }

  -- all blocks are written
  module _ (p : List ℕ) (at : ℕ) (w : Going t n hs p at (length hs)) where
    raws_all : raw_program t n 0 hs ≡ w.raws
    unfolding raw_program
    raws_all = w.steps_rest ∙ ap (λ (l : List ℕ). w.raws ++ raw_program t n at l) (drop_of_length-le hs {i = length hs} (omega arith)) ∙ append-nil w.raws

    firsts_all : raw_firsts t n 0 hs ≡ w.firsts
    unfolding raw_firsts
    firsts_all = w.firsts_rest ∙ ap (λ (l : List ℕ). w.firsts ++ raw_firsts t n at l) (drop_of_length-le hs {i = length hs} (omega arith)) ∙ append-nil w.firsts

    pub going_fits : (x : ℕ) → length hs ≤ most_blocks → x ≡ length hs → Fits t n hs (set (set p 0 x) 1 at) at
    going_fits x few e = record {
      end = w.reached ∙ sym (ap length raws_all);
      top = w.top;
      written =
          counted w.firsts (flat_raw w.raws) (omega (arith, w.count)) (omega (arith, flat_length w.raws, w.reached, w.top)) p x at w.cells
          ∙ ap (λ (k : ℕ). plan_cells k at w.firsts (flat_raw w.raws)) e ∙ ap (λ (l : List ℕ). plan_cells (length hs) at l (flat_raw w.raws)) (sym firsts_all)
          ∙ ap (λ (l : List Raw). plan_cells (length hs) at (raw_firsts t n 0 hs) (flat_raw l)) (sym raws_all);
    }

-- by what was told
pub fitted_by : {p p' : List ℕ} {from r : ℕ} {s : List Raw} → Expanded p p' from r s → (r ≡ 4097 → ⊥) → Fitted p p' from r s
fitted_by (inl f) n = f
fitted_by (inr o) n = absurd (n o.told)

pub over_by : {p p' : List ℕ} {from r : ℕ} {s : List Raw} → Expanded p p' from r s → r ≡ 4097 → TooMany from r s
over_by (inl f) e = absurd (omega (arith, f.top))
over_by (inr o) e = o

pub going_by : {t hs p : List ℕ} {n r : ℕ} → Blocks t n hs p r → (r ≡ 4097 → ⊥) → Going t n hs p r (length hs)
going_by (inl w) n = w
going_by (inr o) n = absurd (n o.told)

pub many_by : {t hs p : List ℕ} {n r : ℕ} → Blocks t n hs p r → r ≡ 4097 → Over t n hs r
many_by (inl w) e = absurd (omega (arith, w.top))
many_by (inr o) e = o

pub space_at : (t p first next : List ℕ) (n at : ℕ) → Tables t n first next → at ≤ 4096 → length p ≡ plan_size → Space t n at p
space_at t p first next n at w h e = record { table = w.table; rows = w.rows; few = w.few; held = w.held; first = h; long = omega arith }
