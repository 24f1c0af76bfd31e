-- Laws of the cursor: where its token lies.
use mathlib.Core.Path.{◌≡◌, refl, sym, ap, ◌∙◌, subst}
use mathlib.Core.List.{List}
use Prim.Native.Nat.{ℕ, ◌≤◌}
use native.Mathlib.Omega.{arith}
use lib.ListN.{length}
use Rattle.std.specs.Prelude.{Result, Ok, Err}
use Rattle.paper.specs.Numbers.{most_text}
use Rattle.paper.specs.Tokens.{Text, at_end, bad, token}
use Rattle.paper.specs.declared.Refusal.{Refusal}
use Rattle.paper.proofs.Lexing.{from}
use Rattle.paper_theory.proofs.FromLaws.{from_token, from_over, from_bad}
use Rattle.text_scan.specs.Head.{head_of, token_read}
use Rattle.text_scan.specs.declared.Token.{Token}
use Rattle.text_cursor.specs.Reader.{Within, located_of, moved_to}
use Rattle.text_cursor.specs.declared.Cursor.{Cursor}

-- where what stands first from p on lies
abbrev pub Lies : List ℕ → ℕ → Result Token ℕ → Type 0
Lies s p (Ok t) = (p ≤ t.start) × (t.start ≤ t.end) × (t.end ≤ length s)
Lies s p (Err o) = (p ≤ o) × (o ≤ length s)

pub head_lies : (s : List ℕ) (p : ℕ) → p ≤ length s → Lies s p (head_of (from s p))
head_lies s p h = go (from s p) refl
  where
    go : (t : Text) → from s p ≡ t → Lies s p (head_of t)
    go (at_end n) e = let q = from_over s p n h e in omega arith
    go (bad n) e = let q = from_bad s p n h e in omega arith
    go (token k t) e = let q = from_token s p k t h e in (q.0, omega arith, q.2)

pub head_within : (s : List ℕ) (p : ℕ) → length s ≤ most_text → p ≤ length s → Within (head_of (from s p))
head_within s p l h = go (head_of (from s p)) (head_lies s p h)
  where
    go : (t : Result Token ℕ) → Lies s p t → Within t
    go (Ok t) q = omega arith
    go (Err o) q = omega arith

pub within_token : (t : Result Token ℕ) (k a e : ℕ) → Within t → t ≡ token_read k a e → a ≤ most_text
within_token t k a e w q = subst Within q w

pub within_bad : (t : Result Token ℕ) (o : ℕ) → Within t → t ≡ Err o → o ≤ most_text
within_bad t o w q = subst Within q w

pub token_lies : (s : List ℕ) (p k a e : ℕ) → p ≤ length s → head_of (from s p) ≡ token_read k a e → (p ≤ a) × (a ≤ e) × (e ≤ length s)
token_lies s p k a e h q = subst (Lies s p) q (head_lies s p h)

pub moved_bad : (t h : Result Token ℕ) (stop rows o : ℕ) (r : Result Cursor Refusal) → r ≡ located_of t → t ≡ Err o → t ≡ h → r ≡ moved_to stop rows h
moved_bad t h stop rows o r p q e = p ∙ ap located_of q ∙ ap (moved_to stop rows) (sym q ∙ e)
