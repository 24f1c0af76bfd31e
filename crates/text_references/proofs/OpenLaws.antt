-- The opening brackets of a type reference.
use mathlib.Core.Path.{◌≡◌, refl, ap, ◌∙◌}
use mathlib.Core.Bool.{false}
use mathlib.Core.List.Memᴰ
use mathlib.Core.List.{List, [], ◌∷◌, ◌++◌}
use Prim.Native.Nat.{ℕ, ◌+◌, ◌-◌, ◌≤◌, ◌<◌}
use native.Mathlib.Numerals.{add-one}
use native.Mathlib.Omega.{arith}
use lib.ListN.{length}
use Rattle.std.specs.Prelude.{Result, Ok, Err}
use Rattle.paper.specs.Grammar.{nt, tm, act}
use Rattle.paper.specs.Numbers.{most_wrappers, wrap_list}
use Rattle.paper.specs.Language.{language, the, bracket_l, bracket_r, wrapper, wrap, TypeRef, ListType, Bang?}
use Rattle.paper.specs.Sizes.{Counts, over_counts}
use Rattle.paper.specs.declared.Refusal.{Refusal}
use Rattle.paper.specs.declared.Refusal.TheVariants.{TooDeep, TooMany}
use Rattle.paper.proofs.Lexing.{from}
use Rattle.paper.proofs.Tables.{factored}
use Rattle.paper.proofs.Going.{Stack, st, halt, go}
use Rattle.text_scan.specs.Head.{head_of, kind_of}
use Rattle.text_cursor.specs.Reader.{Looks, at, moved_to}
use Rattle.text_cursor.specs.declared.Cursor.{Cursor}
use Rattle.text_cursor.proofs.Steps.{first, opening, too_deep, too_many_open}
use Rattle.text_cursor.proofs.Cells.{wrapper_counted}
use Rattle.text_references.specs.Types.{wrapped_by, closers, Seen, Opened}
use Rattle.text_references.proofs.CountsLaws.{wrapped_fine, wrapped_over}
use Rattle.text_references.proofs.MovedLaws.{next_of, moved_halts, ahead}

-- the machine halts at the type reference
abbrev pub OpenHalts : List ℕ → Cursor → ℕ → Refusal → Type 0
OpenHalts s c left r = (cells o : List ℕ) (q : Counts) (σ : Stack) → over_counts q ≡ false → at s cells c o left (wrapped_by 0 q) (nt TypeRef ∷ σ) ≡ halt r

-- so many brackets are open, and the cursor d looks at what comes next
pub record Opening (s : List ℕ) (c : Cursor) (left n : ℕ) (d : Cursor) (marks : ℕ) : Type 0 where
  pub seen : Seen s d
  pub rows : d.rows ≡ n
  pub same : n ≡ c.rows
  pub on : c.stop ≤ d.stop
  pub few : marks ≤ most_wrappers
  pub levels : marks ≤ left
  pub goes : (cells o : List ℕ) (q : Counts) (σ : Stack) → over_counts q ≡ false →
      at s cells c o left (wrapped_by 0 q) (nt TypeRef ∷ σ) ≡ at s cells d o (left - marks) (wrapped_by marks q) (nt TypeRef ∷ (closers marks ++ σ))

-- the machine at an opening bracket: its mark is counted, and it is looked at
pub open_first : (s : List ℕ) (c : Cursor) → c.stop ≤ length s → Looks s c → c.kind ≡ kind_of bracket_l → (cells o : List ℕ) (left k : ℕ) (q : Counts) (σ : Stack) →
    at s cells c o left (wrapped_by k q) (nt TypeRef ∷ σ)
    ≡ at s cells c o left (wrapped_by (k + 1) q) (tm (the bracket_l) ∷ nt TypeRef ∷ tm (the bracket_r) ∷ act (wrap wrap_list) ∷ nt Bang? ∷ σ)
unfolding factored language
open_first s c i l h cells o left k q σ =
    first s c i l cells c.rows o left (wrapped_by k q) σ TypeRef {α = nt ListType ∷ nt Bang? ∷ []} (Memᴰ.tail (Memᴰ.head refl)) bracket_l h tt
    ∙ first s c i l cells c.rows o left (wrapped_by k q) (nt Bang? ∷ σ) ListType {α = act wrapper ∷ tm (the bracket_l) ∷ nt TypeRef ∷ tm (the bracket_r) ∷ act (wrap wrap_list) ∷ []} (Memᴰ.head refl) bracket_l h tt
    ∙ wrapper_counted cells c.rows o c.stop left (wrapped_by k q) (tm (the bracket_l) ∷ nt TypeRef ∷ tm (the bracket_r) ∷ act (wrap wrap_list) ∷ nt Bang? ∷ σ) (from s c.stop)

-- level 33
pub open_deep : (s : List ℕ) (c : Cursor) → c.stop ≤ length s → Looks s c → c.kind ≡ kind_of bracket_l → (cells o : List ℕ) (left k : ℕ) (q : Counts) (σ : Stack) → left ≡ 0 → at s cells c o left (wrapped_by k q) (nt TypeRef ∷ σ) ≡ halt (TooDeep c.start)
open_deep s c i l h cells o left k q σ e =
    open_first s c i l h cells o left k q σ
    ∙ too_deep s c i l cells c.rows o left (wrapped_by (k + 1) q) (nt TypeRef ∷ tm (the bracket_r) ∷ act (wrap wrap_list) ∷ nt Bang? ∷ σ) (the bracket_l) bracket_l h tt tt e

pub none_open : (s : List ℕ) (c : Cursor) (left : ℕ) → Seen s c → Opening s c left c.rows c 0
none_open s c left g =
    record {
      seen = g;
      rows = refl;
      same = refl;
      on = omega arith;
      few = omega arith;
      levels = omega arith;
      goes = λ cells o q σ f. (let e : left ≡ left - 0 = omega arith in ap (λ (x : ℕ). at s cells c o x (wrapped_by 0 q) (nt TypeRef ∷ σ)) e);
    }

module _ (s : List ℕ) (c : Cursor) (left n : ℕ) (d : Cursor) (marks : ℕ) (g : Opening s c left n d marks) where
  pub opened_all : (d.kind ≡ kind_of bracket_l → ⊥) → Opened s c left (record { at = d; extra = 0; marks = marks })
  opened_all h = record { seen = g.seen; rows = g.rows ∙ g.same; on = g.on; marks = g.few; levels = g.levels; bare = h; goes = g.goes }

  module _ (h : d.kind ≡ kind_of bracket_l) where
    pub opened_deep : left ≤ marks → OpenHalts s c left (TooDeep d.start)
    opened_deep l cells o q σ f = g.goes cells o q σ f ∙ open_deep s d g.seen.within g.seen.looks h cells o (left - marks) marks q (closers marks ++ σ) (omega arith)

    pub opened_many : marks < left → most_wrappers ≤ marks → OpenHalts s c left (TooMany d.start)
    opened_many l k cells o q σ f =
        g.goes cells o q σ f
        ∙ open_first s d g.seen.within g.seen.looks h cells o (left - marks) marks q (closers marks ++ σ)
        ∙ too_many_open s d g.seen.within g.seen.looks cells d.rows o (left - marks) (wrapped_by (marks + 1) q) (nt TypeRef ∷ tm (the bracket_r) ∷ act (wrap wrap_list) ∷ nt Bang? ∷ (closers marks ++ σ)) (the bracket_l) bracket_l h tt tt
        (left - marks - 1) (omega arith) g.seen.few (wrapped_over q (marks + 1) f (omega arith))

    module _ (l : marks < left) (k : marks < most_wrappers) (r : Result Cursor Refusal) (e : r ≡ moved_to d.end n (head_of (from s d.end))) where
      opened_past : (cells o : List ℕ) (q : Counts) (σ : Stack) → over_counts q ≡ false →
          at s cells c o left (wrapped_by 0 q) (nt TypeRef ∷ σ)
          ≡ go (st cells d.rows o d.end (left - (marks + 1)) (wrapped_by (marks + 1) q)) (nt TypeRef ∷ tm (the bracket_r) ∷ act (wrap wrap_list) ∷ nt Bang? ∷ (closers marks ++ σ)) (from s d.end)
      opened_past cells o q σ f =
          g.goes cells o q σ f
          ∙ open_first s d g.seen.within g.seen.looks h cells o (left - marks) marks q (closers marks ++ σ)
          ∙ opening s d g.seen.within g.seen.looks cells d.rows o (left - marks) (wrapped_by (marks + 1) q) (nt TypeRef ∷ tm (the bracket_r) ∷ act (wrap wrap_list) ∷ nt Bang? ∷ (closers marks ++ σ)) (the bracket_l) bracket_l h tt tt
          (left - (marks + 1)) (omega arith) g.seen.few (wrapped_fine q (marks + 1) f (omega arith))

      pub opened_bad : (x : Refusal) → r ≡ Err x → OpenHalts s c left x
      opened_bad x y cells o q σ f =
          opened_past cells o q σ f
          ∙ moved_halts s d.end n r x e y (st cells d.rows o d.end (left - (marks + 1)) (wrapped_by (marks + 1) q)) (nt TypeRef ∷ tm (the bracket_r) ∷ act (wrap wrap_list) ∷ nt Bang? ∷ (closers marks ++ σ))

      pub opened_more : (b : Cursor) → r ≡ Ok b → Opening s c left n b (marks + 1)
      opened_more b y =
          let v = next_of s d.end n r b e y in
          let j = ahead s d g.seen.within g.seen.looks (λ z. let x : ⊥ = omega arith in x) in
          record {
            seen = record { short = g.seen.short; within = omega arith; few = omega (arith, g.seen.few, g.rows); looks = v.looks };
            rows = v.rows;
            same = g.same;
            on = omega (arith, g.on, g.seen.within);
            few = omega arith;
            levels = omega arith;
            goes = λ cells o q σ f. opened_past cells o q σ f ∙ rw (v.stop, v.rows, g.rows, add-one marks) refl;
          }
