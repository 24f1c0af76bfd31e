-- What is packed is unpacked again, and the first token of a text fits.
use mathlib.Core.Path.{◌≡◌, refl, ap, ◌∙◌, subst}
use mathlib.Core.List.{List}
use Prim.Native.Nat.{ℕ, ◌+◌, ◌*◌, ◌/◌, ◌%◌, ◌≤◌, ◌<◌}
use native.Mathlib.Omega.{arith}
use lib.Dec.{ltb, ltb→lt}
use lib.ListN.{length}
use borrow.Author.Tests.{ne_eqb}
use Rattle.std.specs.Prelude.{Result, Ok, Err}
use Rattle.paper.specs.Language.{Class, num_c}
use Rattle.paper.specs.Numbers.{most_text}
use Rattle.paper.specs.Tokens.{Text, at_end, bad, token}
use Rattle.paper.proofs.Lexing.{from}
use Rattle.paper.proofs.Tables.{all_c, at_c}
use Rattle.paper_theory.proofs.FromLaws.{from_token, from_over, from_bad}
use Rattle.paper_theory.proofs.Test.{all_at}
use Rattle.text_scan.specs.Head.{kind_of, head_of, token_read}
use Rattle.text_scan.specs.declared.Token.{Token}
use Rattle.text_tokens.specs.Packed.{places, two_places, no_kind, Fits, packed_of, unpacked_of}

-- the three parts of a packed number
module _ (k a e : ℕ) (ha : a < places) (he : e < places) where
  part_kind : (k * two_places + a * places + e) / two_places ≡ k
  part_kind = omega arith

  part_start : (k * two_places + a * places + e) / places % places ≡ a
  part_start = omega arith

  part_end : (k * two_places + a * places + e) % places ≡ e
  part_end = omega arith

-- what a number is unpacked to, by its parts
unpacked_token : (n k a e : ℕ) → n / two_places ≡ k → n / places % places ≡ a → n % places ≡ e → k < no_kind → unpacked_of n ≡ token_read k a e
unfolding unpacked_of
unpacked_token n k a e p q r h = rw (p, q, r, ne_eqb k no_kind (λ z. omega arith))

unpacked_bad : (n o : ℕ) → n / two_places ≡ no_kind → n / places % places ≡ o → unpacked_of n ≡ Err o
unfolding unpacked_of
unpacked_bad n o p q = rw (p, q)

unpacked_packed : (t : Result Token ℕ) → Fits t → unpacked_of (packed_of t) ≡ t
unpacked_packed (Ok t) f =
    unpacked_token (t.kind * two_places + t.start * places + t.end) t.kind t.start t.end (part_kind t.kind t.start t.end f.1 f.2) (part_start t.kind t.start t.end f.1 f.2) (part_end t.kind t.start t.end f.1 f.2) f.0
unpacked_packed (Err o) f = unpacked_bad (no_kind * two_places + o * places) o (omega arith) (omega arith)

-- the parts of an answer that fits
pub fits_token : (t : Result Token ℕ) (k a e : ℕ) → Fits t → t ≡ token_read k a e → (k < no_kind) × (a < places) × (e < places)
fits_token t k a e f q = subst Fits q f

pub fits_bad : (t : Result Token ℕ) (o : ℕ) → Fits t → t ≡ Err o → o < places
fits_bad t o f q = subst Fits q f

kind_small : (c : Class) → kind_of c < no_kind
kind_small c = ltb→lt (kind_of c) no_kind (all_at (λ k. ltb (kind_of k) no_kind) all_c (num_c c) tt (at_c c))

pub head_fits : (s : List ℕ) (p : ℕ) → length s ≤ most_text → p ≤ length s → Fits (head_of (from s p))
head_fits s p l h = go (from s p) refl
  where
    go : (t : Text) → from s p ≡ t → Fits (head_of t)
    go (at_end n) e = let q = from_over s p n h e in (omega arith, omega arith, omega arith)
    go (bad n) e = let q = from_bad s p n h e in omega arith
    go (token k t) e = let q = from_token s p k t h e in (kind_small k.class, omega arith, omega arith)

-- so what is handed on in one number is the first token
pub scanned : (s : List ℕ) (p n : ℕ) (t : Result Token ℕ) → length s ≤ most_text → p ≤ length s → n ≡ packed_of (head_of (from s p)) → t ≡ unpacked_of n → t ≡ head_of (from s p)
scanned s p n t l h q r = r ∙ ap unpacked_of q ∙ unpacked_packed (head_of (from s p)) (head_fits s p l h)
