-- A whole type reference, with its row.
use mathlib.Core.Path.{◌≡◌, refl, ap, ◌∙◌, subst}
use mathlib.Core.Bool.{not, ◌&&◌}
use mathlib.Core.List.{List, ◌∷◌, ◌++◌}
use mathlib.Core.Logic.{◌⊎◌, inl, inr}
use Prim.Native.Nat.{ℕ, ◌+◌, ◌-◌, ◌≤◌, ◌<◌}
use native.Mathlib.Omega.{arith}
use lib.ListN.{length}
use Rattle.std.specs.Prelude.{Result, Ok, Err}
use Rattle.paper.specs.Grammar.{nt, tm, act}
use Rattle.paper.specs.Numbers.{most_rows, kind_type_reference, wrap_list}
use Rattle.paper.specs.Language.{language, the, any_name, bracket_l, bracket_r, wrap, end, TypeRef, Bang?, n_other}
use Rattle.paper.specs.Rows.{top}
use Rattle.paper.specs.Sizes.{Counts}
use Rattle.paper.specs.declared.Refusal.{Refusal}
use Rattle.paper.specs.declared.Refusal.TheVariants.{NoGoing, TooDeep, TooManyRows}
use Rattle.paper.proofs.Lexing.{from}
use Rattle.paper.proofs.Machine.{choose}
use Rattle.paper.proofs.Tables.{factored}
use Rattle.paper.proofs.Going.{Stack, halt}
use Rattle.text_scan.specs.Head.{kind_of}
use Rattle.text_cursor.specs.Reader.{Ready, Looks, at, no_going_of}
use Rattle.text_cursor.specs.declared.Cursor.{Cursor}
use Rattle.text_cursor.proofs.Steps.{is, not_two, refuse, refuses, refuses_end, too_many_rows, too_many_rows_open}
use Rattle.text_cursor.proofs.Cells.{put, put_length, row_opens, row_ends}
use Rattle.text_references.specs.declared.Wrapped.{Wrapped}
use Rattle.text_references.specs.Types.{wrapped_by, type_stack, closers, Opened, Opens, Based, Named, TypedReady, Rested, RestSaid, TypeSaid}
use Rattle.text_references.proofs.MovedLaws.{start_in_is}
use Rattle.text_references.proofs.OpenLaws.{open_first, open_deep}
use Rattle.text_references.proofs.BaseLaws.{name_first}

-- no type reference begins so
ref_refused : (s : List ℕ) (c : Cursor) → c.stop ≤ length s → Looks s c → (c.kind ≡ kind_of n_other → ⊥) → (c.kind ≡ kind_of bracket_l → ⊥) → (cells o : List ℕ) (left : ℕ) (q : Counts) (σ : Stack) →
    at s cells c o left q (nt TypeRef ∷ σ) ≡ halt (NoGoing c.start)
unfolding factored language choose refuses refuses_end
ref_refused s c i l h k cells o left q σ = refuse s c i l cells c.rows o left q σ TypeRef (λ y. not (is (kind_of n_other) y) && not (is (kind_of bracket_l) y)) (not_two (kind_of n_other) (kind_of bracket_l) c.kind h k) tt tt

-- BEHIND THE OPENING BRACKETS
module _ (s rows : List ℕ) (w : Wrapped) (parent n start : ℕ) (g : TypedReady s rows w n) where
  pub rest_none : (rows' : List ℕ) → (w.at.kind ≡ kind_of n_other → ⊥) → (r : Result Cursor Refusal) → r ≡ no_going_of w.at → RestSaid s rows rows' w parent n start r
  rest_none rows' h r e =
      rw e (λ o left q σ f. ref_refused s w.at g.seen.within g.seen.looks h g.bare (put rows n kind_type_reference start 0 parent 0 0 0) (n ∷ o) left (wrapped_by w.marks q) (closers w.marks ++ (act end ∷ σ)))

  pub rest_stop : (rows' : List ℕ) (t : Result Wrapped Refusal) (x : Refusal) → Named s w.at w.marks t → t ≡ Err x → RestSaid s rows rows' w parent n start (Err x)
  rest_stop rows' t x b e o left q σ f = subst (λ (t : Result Wrapped Refusal). Named s w.at w.marks t) e b rows n start parent o left q (act end ∷ σ) (omega (arith, g.room, g.size)) f

  pub rest_done : (rows' : List ℕ) (t : Result Wrapped Refusal) (v : Wrapped) → Named s w.at w.marks t → t ≡ Ok v →
      rows' ≡ put rows n kind_type_reference start v.at.stop parent w.at.start (w.at.end - w.at.start) v.extra → Rested s rows rows' w parent n start v.at
  rest_done rows' t v b e h =
      let d : Based s w.at w.marks v = subst (λ (t : Result Wrapped Refusal). Named s w.at w.marks t) e b in
      record {
        size = ap length h ∙ put_length rows n kind_type_reference start v.at.stop parent w.at.start (w.at.end - w.at.start) v.extra ∙ g.size;
        seen = d.seen;
        on = d.on;
        wrappers = v.marks;
        wrapped = d.marked;
        goes = λ o left q σ f.
            d.goes rows n start parent o left q (act end ∷ σ) (omega (arith, g.room, g.size)) f
            ∙ row_ends rows v.at.rows o v.at.stop (w.marks + left) (wrapped_by v.marks q) σ (from s v.at.stop) n kind_type_reference start 0 parent w.at.start (w.at.end - w.at.start) v.extra
            ∙ rw h refl;
      }

-- THE WHOLE
module _ (s rows : List ℕ) (c : Cursor) (parent left : ℕ) (g : Ready s rows c parent) where
  -- the cursor, with the reference's row counted
  abbrev pub begun : Cursor
  begun = record { kind = c.kind; start = c.start; end = c.end; stop = c.stop; rows = c.rows + 1 }

  type_begins : (σ : Stack) (o : List ℕ) (q : Counts) → top o ≡ parent →
      at s rows c o left (wrapped_by 0 q) (type_stack ++ σ)
      ≡ at s (put rows c.rows kind_type_reference c.start 0 parent 0 0 0) begun (c.rows ∷ o) left (wrapped_by 0 q) (nt TypeRef ∷ act end ∷ σ)
  type_begins σ o q e =
      row_opens rows c.rows o c.stop left (wrapped_by 0 q) (nt TypeRef ∷ act end ∷ σ) (from s c.stop) kind_type_reference 0 ∙ rw (start_in_is s c g.looks, e) refl

  pub type_none : (rows' : List ℕ) → (c.kind ≡ kind_of n_other → ⊥) → (c.kind ≡ kind_of bracket_l → ⊥) → (r : Result Cursor Refusal) → r ≡ no_going_of c → TypeSaid s rows rows' c parent left r
  type_none rows' h k r e =
      rw e (λ σ o q t f. type_begins σ o q t ∙ ref_refused s begun g.within g.looks h k (put rows c.rows kind_type_reference c.start 0 parent 0 0 0) (c.rows ∷ o) left (wrapped_by 0 q) (act end ∷ σ))

  pub type_deep : (rows' : List ℕ) → c.kind ≡ kind_of bracket_l → left ≡ 0 → TypeSaid s rows rows' c parent left (Err (TooDeep c.start))
  type_deep rows' h k σ o q t f =
      type_begins σ o q t ∙ open_deep s begun g.within g.looks h (put rows c.rows kind_type_reference c.start 0 parent 0 0 0) (c.rows ∷ o) left 0 q (act end ∷ σ) k

  pub type_full : (rows' : List ℕ) → (c.kind ≡ kind_of n_other) ⊎ ((c.kind ≡ kind_of bracket_l) × (0 < left)) → c.rows ≡ most_rows → TypeSaid s rows rows' c parent left (Err (TooManyRows c.start))
  type_full rows' (inl h) k σ o q t f =
      type_begins σ o q t
      ∙ name_first s begun g.within g.looks h rows c.rows c.start parent o left 0 q (act end ∷ σ)
      ∙ too_many_rows s begun g.within g.looks (put rows c.rows kind_type_reference c.start 0 parent c.start (c.end - c.start) 0) (c.rows + 1) (c.rows ∷ o) left (wrapped_by 0 q) (nt Bang? ∷ act end ∷ σ) any_name n_other h tt tt (omega arith)
  type_full rows' (inr h) k σ o q t f =
      type_begins σ o q t
      ∙ open_first s begun g.within g.looks h.0 (put rows c.rows kind_type_reference c.start 0 parent 0 0 0) (c.rows ∷ o) left 0 q (act end ∷ σ)
      ∙ too_many_rows_open s begun g.within g.looks (put rows c.rows kind_type_reference c.start 0 parent 0 0 0) (c.rows + 1) (c.rows ∷ o) left (wrapped_by (0 + 1) q)
      (nt TypeRef ∷ tm (the bracket_r) ∷ act (wrap wrap_list) ∷ nt Bang? ∷ act end ∷ σ) (the bracket_l) bracket_l h.0 tt tt (left - 1) (omega (arith, h.1)) (omega arith)

  module _ (room : c.rows ≡ most_rows → ⊥) where
    pub type_stop : (rows' : List ℕ) (t : Result Wrapped Refusal) (x : Refusal) → Opens s begun left t → t ≡ Err x → TypeSaid s rows rows' c parent left (Err x)
    type_stop rows' t x b e σ o q z f =
        type_begins σ o q z ∙ subst (λ (t : Result Wrapped Refusal). Opens s begun left t) e b (put rows c.rows kind_type_reference c.start 0 parent 0 0 0) (c.rows ∷ o) q (act end ∷ σ) f

    module _ (t : Result Wrapped Refusal) (w : Wrapped) (b : Opens s begun left t) (e : t ≡ Ok w) where
      opened : Opened s begun left w
      opened = subst (λ (t : Result Wrapped Refusal). Opens s begun left t) e b

      pub type_ready : TypedReady s rows w c.rows
      type_ready = record { seen = opened.seen; size = g.size; marks = opened.marks; bare = opened.bare; room = omega (arith, g.few, room) }

      pub type_says : (rows' : List ℕ) (r : Result Cursor Refusal) → RestSaid s rows rows' w parent c.rows c.start r → TypeSaid s rows rows' c parent left r
      type_says rows' (Ok d) u =
          record {
            size = u.size;
            within = u.seen.within;
            few = u.seen.few;
            looks = u.seen.looks;
            on = omega (arith, opened.on, u.on);
            wrappers = u.wrappers;
            wrapped = u.wrapped;
            goes = λ σ o q z f.
                type_begins σ o q z
                ∙ opened.goes (put rows c.rows kind_type_reference c.start 0 parent 0 0 0) (c.rows ∷ o) q (act end ∷ σ) f
                ∙ u.goes o (left - w.marks) q σ f
                ∙ (let y : w.marks + (left - w.marks) ≡ left = omega (arith, opened.levels) in ap (λ (l : ℕ). at s rows' d o l (wrapped_by u.wrappers q) σ) y);
          }
      type_says rows' (Err x) u = λ σ o q z f.
          type_begins σ o q z
          ∙ opened.goes (put rows c.rows kind_type_reference c.start 0 parent 0 0 0) (c.rows ∷ o) q (act end ∷ σ) f
          ∙ u o (left - w.marks) q σ f
