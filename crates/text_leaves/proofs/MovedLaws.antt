-- Laws of a cursor that goes past its token: where it looks then, and what the machine does there.
use mathlib.Core.Path.{◌≡◌, refl, sym, ap, ◌∙◌}
use mathlib.Core.Bool.{false}
use mathlib.Core.List.{List, ◌++◌}
use mathlib.Core.Logic.{◌≢◌}
use Prim.Native.Nat.{ℕ, ◌+◌, ◌≤◌, ◌<◌}
use native.Mathlib.Omega.{arith}
use lib.ListN.{length}
use Rattle.std.specs.Prelude.{Result, Ok, Err}
use Rattle.paper.specs.Numbers.{most_rows, rows_size}
use Rattle.paper.specs.Tokens.{Text, at_end, bad, token}
use Rattle.paper.specs.Rows.{top}
use Rattle.paper.specs.Sizes.{Counts, over_counts}
use Rattle.paper.specs.declared.Refusal.{Refusal}
use Rattle.paper.specs.declared.Refusal.TheVariants.{NoToken}
use Rattle.paper.proofs.Lexing.{from}
use Rattle.paper.proofs.Going.{Stack, State, st, halt, go, start_in, stop_in}
use Rattle.text_scan.specs.Head.{head_of, token_read}
use Rattle.text_scan.specs.declared.Token.{Token}
use Rattle.text_scan.proofs.TokenLaws.{token_parts}
use Rattle.text_cursor.specs.declared.Cursor.{Cursor}
use Rattle.text_cursor.specs.Reader.{Looks, Ready, moved_to, at, Said}
use Rattle.text_cursor.proofs.ReaderLaws.{token_lies}
use Rattle.text_cursor.proofs.Steps.{Front, a_token, the_end, front}

-- the ends of the token that a cursor looks at
pub start_in_is : (s : List ℕ) (c : Cursor) → Looks s c → start_in (from s c.stop) ≡ c.start
start_in_is s c l = cases (from s c.stop) l
  where
    cases : (t : Text) → head_of t ≡ token_read c.kind c.start c.end → start_in t ≡ c.start
    cases (at_end n) e = (token_parts _ _ _ _ e).1
    cases (bad n) e = let z : ◌≡◌ {A = ℕ} 0 1 = cc in let w : ⊥ = omega arith in absurd w
    cases (token k t) e = (token_parts _ _ _ _ e).1

pub stop_in_is : (s : List ℕ) (c : Cursor) → Looks s c → stop_in (from s c.stop) ≡ c.end
stop_in_is s c l = cases (from s c.stop) l
  where
    cases : (t : Text) → head_of t ≡ token_read c.kind c.start c.end → stop_in t ≡ c.end
    cases (at_end n) e = (token_parts _ _ _ _ e).2
    cases (bad n) e = let z : ◌≡◌ {A = ℕ} 0 1 = cc in let w : ⊥ = omega arith in absurd w
    cases (token k t) e = (token_parts _ _ _ _ e).2

-- where that token lies
pub ready_lies : (s rows : List ℕ) (c : Cursor) (parent : ℕ) → Ready s rows c parent → (c.stop ≤ c.start) × (c.start ≤ c.end) × (c.end ≤ length s)
ready_lies s rows c parent r = token_lies s c.stop c.kind c.start c.end r.within r.looks

-- a token, where the text does not end, has a byte
pub ready_moves : (s rows : List ℕ) (c : Cursor) (parent : ℕ) → Ready s rows c parent → c.kind ≢ 0 → c.stop < c.end
ready_moves s rows c parent r n = cases (front s c r.within r.looks)
  where
    cases : Front s c → c.stop < c.end
    cases (a_token k e f a b d) = omega (arith, a, b)
    cases (the_end e f a b) = absurd (n e)

-- a cursor that moved to the first token from e on
pub record Moved (s : List ℕ) (e n : ℕ) (d : Cursor) : Type 0 where
  pub looks : Looks s d
  pub stop : d.stop ≡ e
  pub rows : d.rows ≡ n

pub moved_done : (s : List ℕ) (e n : ℕ) (r : Result Cursor Refusal) (d : Cursor) → r ≡ moved_to e n (head_of (from s e)) → r ≡ Ok d → Moved s e n d
moved_done s e n r d q p = cases (head_of (from s e)) refl
  where
    cases : (h : Result Token ℕ) → head_of (from s e) ≡ h → Moved s e n d
    cases (Ok t) f =
        let z : Ok d ≡ Ok (record { kind = t.kind; start = t.start; end = t.end; stop = e; rows = n }) = sym p ∙ q ∙ ap (moved_to e n) f in
        let y : d ≡ record { kind = t.kind; start = t.start; end = t.end; stop = e; rows = n } = cc in
        record { looks = rw y f; stop = rw y refl; rows = rw y refl }
    cases (Err o) f =
        let z : Ok d ≡ Err (NoToken o) = sym p ∙ q ∙ ap (moved_to e n) f in
        let y : ◌≡◌ {A = ℕ} 0 1 = cc in
        let w : ⊥ = omega arith in
        absurd w

-- bad bytes halt the machine, whatever it expects
pub moved_halts : (s : List ℕ) (e n : ℕ) (r : Result Cursor Refusal) (x : Refusal) → r ≡ moved_to e n (head_of (from s e)) → r ≡ Err x → (S : State) (σ : Stack) → go S σ (from s e) ≡ halt x
unfolding go
moved_halts s e n r x q p S σ = cases (from s e) refl
  where
    apart : (k a b : ℕ) → head_of (from s e) ≡ token_read k a b → ⊥
    apart k a b f =
        let z : Err x ≡ Ok (record { kind = k; start = a; end = b; stop = e; rows = n }) = sym p ∙ q ∙ ap (moved_to e n) f in
        let y : ◌≡◌ {A = ℕ} 0 1 = cc in
        omega arith

    cases : (t : Text) → from s e ≡ t → go S σ (from s e) ≡ halt x
    cases (at_end m) f = absurd (apart 0 m m (ap head_of f))
    cases (bad m) f = let z : Err x ≡ Err (NoToken m) = sym p ∙ q ∙ ap (λ (t : Text). moved_to e n (head_of t)) f in rw f (ap halt (cc))
    cases (token k t) f = absurd (apart (Rattle.text_scan.specs.Head.kind_of k.class) k.start k.stop (ap head_of f))

-- what a reader says that answers with the cursor past its last token, which ends at e
module _ (gain : ℕ) (s rows rows' : List ℕ) (c : Cursor) (parent left : ℕ) (α : Stack) (e n : ℕ) (size : length rows' ≡ rows_size) (within : e ≤ length s) (few : n ≤ most_rows) (on : gain + c.stop ≤ e)
    (goes : (σ : Stack) (o : List ℕ) (q : Counts) → top o ≡ parent → over_counts q ≡ false → at s rows c o left q (α ++ σ) ≡ go (st rows' n o e left q) σ (from s e)) where
  pub moved_said : (r : Result Cursor Refusal) → r ≡ moved_to e n (head_of (from s e)) → Said gain s rows rows' c parent left α r
  moved_said (Ok d) q =
      let m = moved_done s e n (Ok d) d q refl in
      record {
        size = size;
        within = rw m.stop within;
        few = rw m.rows few;
        looks = m.looks;
        on = rw m.stop on;
        goes = λ σ o k t f. rw (m.stop, m.rows) (goes σ o k t f);
      }
  moved_said (Err x) q = λ σ o k t f. goes σ o k t f ∙ moved_halts s e n (Err x) x q refl (st rows' n o e left k) σ
