-- What `past` answers, and where the token looked at lies.
use mathlib.Core.Path.{◌≡◌, refl, sym, ap, ◌∙◌, subst}
use mathlib.Core.List.{List}
use Prim.Native.Nat.{ℕ, ◌≤◌, ◌<◌}
use native.Mathlib.Omega.{arith}
use lib.ListN.{length}
use Rattle.std.specs.Prelude.{Result, Ok, Err}
use Rattle.paper.specs.Tokens.{Text, at_end, bad, token}
use Rattle.paper.specs.declared.Refusal.{Refusal}
use Rattle.paper.specs.declared.Refusal.TheVariants.{NoToken}
use Rattle.paper.proofs.Lexing.{from}
use Rattle.paper.proofs.Going.{Stack, State, halt, go, start_in, stop_in}
use Rattle.text_scan.specs.Head.{head_of, token_read}
use Rattle.text_scan.specs.declared.Token.{Token}
use Rattle.text_scan.proofs.TokenLaws.{token_parts}
use Rattle.text_cursor.specs.Reader.{Looks, moved_to}
use Rattle.text_cursor.specs.declared.Cursor.{Cursor}
use Rattle.text_cursor.proofs.Steps.{Front, a_token, the_end, front}

-- the cursor d looks at the first token from e on, and counts n rows
pub record Next (s : List ℕ) (e n : ℕ) (d : Cursor) : Type 0 where
  pub stop : d.stop ≡ e
  pub rows : d.rows ≡ n
  pub looks : Looks s d

pub next_of : (s : List ℕ) (e n : ℕ) (r : Result Cursor Refusal) (d : Cursor) → r ≡ moved_to e n (head_of (from s e)) → r ≡ Ok d → Next s e n d
next_of s e n r d p q = by_head (head_of (from s e)) refl
  where
    by_head : (h : Result Token ℕ) → head_of (from s e) ≡ h → Next s e n d
    by_head (Ok t) z =
        let y : Ok d ≡ Ok (record { kind = t.kind; start = t.start; end = t.end; stop = e; rows = n }) = sym q ∙ p ∙ ap (moved_to e n) z in
        let x : d ≡ record { kind = t.kind; start = t.start; end = t.end; stop = e; rows = n } = cc in
        subst (λ (c : Cursor). Next s e n c) (sym x) (record { stop = refl; rows = refl; looks = z })
    by_head (Err o) z =
        let y : Ok d ≡ Err (NoToken o) = sym q ∙ p ∙ ap (moved_to e n) z in
        let x : ◌≡◌ {A = ℕ} 0 1 = cc in
        let w : ⊥ = omega arith in
        absurd w

-- bytes that start no token: the machine halts there
pub moved_halts : (s : List ℕ) (e n : ℕ) (r : Result Cursor Refusal) (x : Refusal) → r ≡ moved_to e n (head_of (from s e)) → r ≡ Err x → (S : State) (σ : Stack) → go S σ (from s e) ≡ halt x
unfolding go
moved_halts s e n r x p q S σ = by_text (from s e) (sym q ∙ p)
  where
    by_text : (t : Text) → Err x ≡ moved_to e n (head_of t) → go S σ t ≡ halt x
    by_text (at_end m) z = let y : ◌≡◌ {A = ℕ} 0 1 = cc in let w : ⊥ = omega arith in absurd w
    by_text (token k t) z = let y : ◌≡◌ {A = ℕ} 0 1 = cc in let w : ⊥ = omega arith in absurd w
    by_text (bad o) z = let y : NoToken o ≡ x = cc in ap halt y

-- a token takes a byte at least, and lies in the text
pub ahead : (s : List ℕ) (c : Cursor) → c.stop ≤ length s → Looks s c → (c.kind ≡ 0 → ⊥) → (c.stop ≤ c.start) × (c.start < c.end) × (c.end ≤ length s)
ahead s c h l n = by_front (front s c h l)
  where
    by_front : Front s c → (c.stop ≤ c.start) × (c.start < c.end) × (c.end ≤ length s)
    by_front (a_token k e f a b d) = (a, b, d)
    by_front (the_end e f a b) = absurd (n e)

-- the end of what is looked at lies in the text
pub end_within : (s : List ℕ) (c : Cursor) → c.stop ≤ length s → Looks s c → (c.start ≤ c.end) × (c.end ≤ length s)
end_within s c h l = by_front (front s c h l)
  where
    by_front : Front s c → (c.start ≤ c.end) × (c.end ≤ length s)
    by_front (a_token k e f a b d) = (omega (arith, b), d)
    by_front (the_end e f a b) = (omega (arith, b), omega (arith, a, b))

-- the ends of the token looked at
pub start_in_is : (s : List ℕ) (c : Cursor) → Looks s c → start_in (from s c.stop) ≡ c.start
start_in_is s c l = by_text (from s c.stop) l
  where
    by_text : (t : Text) → head_of t ≡ token_read c.kind c.start c.end → start_in t ≡ c.start
    by_text (at_end m) z = (token_parts _ _ _ _ z).1
    by_text (bad o) z = let y : ◌≡◌ {A = ℕ} 0 1 = cc in let w : ⊥ = omega arith in absurd w
    by_text (token k t) z = (token_parts _ _ _ _ z).1

pub stop_in_is : (s : List ℕ) (c : Cursor) → Looks s c → stop_in (from s c.stop) ≡ c.end
stop_in_is s c l = by_text (from s c.stop) l
  where
    by_text : (t : Text) → head_of t ≡ token_read c.kind c.start c.end → stop_in t ≡ c.end
    by_text (at_end m) z = (token_parts _ _ _ _ z).2
    by_text (bad o) z = let y : ◌≡◌ {A = ℕ} 0 1 = cc in let w : ⊥ = omega arith in absurd w
    by_text (token k t) z = (token_parts _ _ _ _ z).2
