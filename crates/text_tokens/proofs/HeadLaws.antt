-- What the answer of the token reader says of the tokens of the text: laws for those who call it.
use mathlib.Core.Path.{◌≡◌, refl, sym, ap, ◌∙◌}
use mathlib.Core.Bool.{Bool, true, false}
use mathlib.Core.List.{List, [], ◌∷◌}
use mathlib.Core.Option.{Option, none, some}
use Prim.Native.Nat.{ℕ, zero, suc, ◌+◌, ◌-◌, ◌≤◌, ◌<◌}
use native.Mathlib.Decide.{dec_lt}
use native.Mathlib.Nat.{add-sub_cancel_left}
use native.Mathlib.Omega.{arith}
use lib.Dec.{T}
use lib.ListN.{length, take, drop}
use Rattle.std.specs.Prelude.{Err}
use Rattle.paper.specs.Grammar.{nt}
use Rattle.paper.specs.Language.{Class}
use Rattle.paper.specs.Lexical.{What, is, ignored, comment, Piece}
use Rattle.paper.specs.Tokens.{Text, at_end, bad, token, name_class, what_of, line_end}
use Rattle.paper.proofs.Longest.{Match, scan}
use Rattle.paper.proofs.LexTables.{lexer}
use Rattle.paper.proofs.Lexing.{from, found, shown, or_bad}
use Rattle.paper_theory.proofs.LexingLaws.{piece_byte}
use Rattle.paper_theory.proofs.FromLaws.{from_token, from_over, from_bad}
use Rattle.text_scan.specs.Head.{kind_of, head_of, word_of, token_read}
use Rattle.text_scan.specs.Piece.{piece_at}
use Rattle.text_scan.proofs.TokenLaws.{token_parts}
use Rattle.text_tokens.proofs.ClassLaws.{class_of_kind, kind_class, class_of_word, word_class}
use Rattle.text_tokens.proofs.KindLaws.{name_kind, classed_kind, kind_some, plain, plain_name, plain_piece}
use Rattle.text_tokens.proofs.Unroll.{piece_is, unroll, from_end}

-- a token: its class is one of that kind, it stands at or after p, and the rest is what stands from its end on
pub head_token : (s : List ℕ) (p k a e : ℕ) → p ≤ length s → head_of (from s p) ≡ token_read k a e → (k ≡ 0 → ⊥) →
    (c : Class) × (kind_of c ≡ k) × (from s p ≡ token (record { class = c; start = a; stop = e }) (from s e)) × (p ≤ a) × (a < e) × (e ≤ length s)
head_token s p k a e h q z = go (from s p) refl q
  where
    go : (t : Text) → from s p ≡ t → head_of t ≡ token_read k a e → (c : Class) × (kind_of c ≡ k) × (from s p ≡ token (record { class = c; start = a; stop = e }) (from s e)) × (p ≤ a) × (a < e) × (e ≤ length s)
    go (at_end n) f g = absurd (z (sym (token_parts (head_of (at_end n)) k a e g).0))
    go (bad n) f g = let x : ◌≡◌ {A = ℕ} 0 1 = cc in let y : ⊥ = omega arith in absurd y
    go (token x t) f g =
        let l = from_token s p x t h f in
        let u = token_parts (head_of (token x t)) k a e g in
        let ka : x.start ≡ a = u.1 in
        let ke : x.stop ≡ e = u.2 in
        (x.class, u.0, rw (← ka, ← ke, ← l.3) f, omega (arith, l.0), omega (arith, l.1), omega (arith, l.2))

-- the end of the text
pub head_end : (s : List ℕ) (p a e : ℕ) → p ≤ length s → head_of (from s p) ≡ token_read 0 a e → (from s p ≡ at_end a) × (a ≡ length s) × (e ≡ a)
head_end s p a e h q = go (from s p) refl q
  where
    go : (t : Text) → from s p ≡ t → head_of t ≡ token_read 0 a e → (from s p ≡ at_end a) × (a ≡ length s) × (e ≡ a)
    go (at_end n) f g = let u = token_parts (head_of (at_end n)) 0 a e g in let ka : n ≡ a = u.1 in (rw ka at f, sym ka ∙ from_over s p n h f, sym u.2 ∙ ka)
    go (bad n) f g = let x : ◌≡◌ {A = ℕ} 0 1 = cc in let y : ⊥ = omega arith in absurd y
    go (token x t) f g = let z : kind_of x.class ≡ 0 = (token_parts (head_of (token x t)) 0 a e g).0 in let y : ⊥ = omega (arith, kind_some x.class) in absurd y

-- bytes that start no token
pub head_bad : (s : List ℕ) (p o : ℕ) → p ≤ length s → head_of (from s p) ≡ Err o → (from s p ≡ bad o) × (p ≤ o) × (o < length s)
head_bad s p o h q = go (from s p) refl q
  where
    go : (t : Text) → from s p ≡ t → head_of t ≡ Err o → (from s p ≡ bad o) × (p ≤ o) × (o < length s)
    go (at_end n) f g = let x : ◌≡◌ {A = ℕ} 0 1 = cc in let y : ⊥ = omega arith in absurd y
    go (bad n) f g = let ko : n ≡ o = cc in let l = from_bad s p n h f in (rw ko at f, omega (arith, l.0), omega (arith, l.1))
    go (token x t) f g = let y : ◌≡◌ {A = ℕ} 0 1 = cc in let z : ⊥ = omega arith in absurd z

-- where it lies, at the end too
pub head_order : (s : List ℕ) (p k a e : ℕ) → p ≤ length s → head_of (from s p) ≡ token_read k a e → (p ≤ a) × (a ≤ e) × (e ≤ length s)
head_order s p k a e h q = go (from s p) refl q
  where
    go : (t : Text) → from s p ≡ t → head_of t ≡ token_read k a e → (p ≤ a) × (a ≤ e) × (e ≤ length s)
    go (at_end n) f g = let l = from_over s p n h f in let u = token_parts (head_of (at_end n)) k a e g in let ka : n ≡ a = u.1 in let ke : n ≡ e = u.2 in omega arith
    go (bad n) f g = let x : ◌≡◌ {A = ℕ} 0 1 = cc in let y : ⊥ = omega arith in absurd y
    go (token x t) f g = let l = from_token s p x t h f in let u = token_parts (head_of (token x t)) k a e g in let ka : x.start ≡ a = u.1 in let ke : x.stop ≡ e = u.2 in (omega (arith, l.0), omega (arith, l.1), omega (arith, l.2))

-- the class of a token of kind 1 is that of its bytes
abbrev Named : List ℕ → Text → Type 0
Named s (at_end n) = Unit {0}
Named s (bad n) = Unit {0}
Named s (token k t) = kind_of k.class ≡ 1 → k.class ≡ name_class (take (k.stop - k.start) (drop k.start s))

named : (f : ℕ) (s : List ℕ) (p : ℕ) → length s ≤ p + f → Named s (from s p)
named zero s p h = rw (from_end s p (omega arith)) tt
named (suc f) s p h = go (dec_lt p (length s)) (λ (q : ℕ) (l : length s ≤ q + f). named f s q l)
  where
    line : (b : Bool) (n : ℕ) → Named s (from s (p + n)) → Named s (or_bad b p (from s (p + n)))
    line true n i = i
    line false n i = tt

    by_what : (w : What) (n : ℕ) → T (plain w) → Named s (from s (p + n)) → Named s (shown w p n (drop p s) (from s (p + n)))
    by_what (is c) n t i = λ z. rw (add-sub_cancel_left p n) (plain_name c (take n (drop p s)) t (sym (classed_kind c (take n (drop p s))) ∙ z))
    by_what ignored n t i = i
    by_what comment n t i = line (line_end (drop n (drop p s))) n i

    pick : (o : Option (Match ℕ What)) → scan lexer (nt Piece ∷ []) (drop p s) ≡ o → ((q : ℕ) → length s ≤ q + f → Named s (from s q)) → Named s (found (λ n. from s (p + n)) p (drop p s) o)
    pick none e below = tt
    pick (some m) e below = by_what (what_of m.events) m.size (plain_piece (drop p s) m e) (below (p + m.size) (omega (arith, piece_byte (drop p s) m e)))

    go : Dec (p < length s) → ((q : ℕ) → length s ≤ q + f → Named s (from s q)) → Named s (from s p)
    go (yes l) below = rw (unroll s p l) (pick (piece_at (drop p s)) (piece_is (drop p s)) below)
    go (no l) below = rw (from_end s p (omega arith)) tt

-- a name: its class is that of its bytes
pub head_name : (s : List ℕ) (p a e : ℕ) → p ≤ length s → head_of (from s p) ≡ token_read 1 a e →
    from s p ≡ token (record { class = name_class (take (e - a) (drop a s)); start = a; stop = e }) (from s e)
head_name s p a e h q =
    let r = head_token s p 1 a e h q (λ z. omega arith) in
    let n : r.0 ≡ name_class (take (e - a) (drop a s)) = (rw r.2 at (named (length s) s p (omega arith))) r.1 in
    r.2 ∙ ap (λ (c : Class). token (record { class = c; start = a; stop = e }) (from s e)) n

-- the same by the word that it is, and of a token that is no name by its kind
pub head_word : (s : List ℕ) (p a e : ℕ) → p ≤ length s → head_of (from s p) ≡ token_read 1 a e →
    from s p ≡ token (record { class = class_of_word (word_of (take (e - a) (drop a s))); start = a; stop = e }) (from s e)
unfolding word_of
head_word s p a e h q =
    head_name s p a e h q ∙ ap (λ (c : Class). token (record { class = c; start = a; stop = e }) (from s e)) (word_class (name_class (take (e - a) (drop a s))) (name_kind (take (e - a) (drop a s))))

pub head_class : (s : List ℕ) (p k a e : ℕ) → p ≤ length s → head_of (from s p) ≡ token_read k a e → 1 < k →
    from s p ≡ token (record { class = class_of_kind k; start = a; stop = e }) (from s e)
head_class s p k a e h q l =
    let r = head_token s p k a e h q (λ z. omega arith) in
    let c : r.0 ≡ class_of_kind k = kind_class r.0 (omega (arith, r.1)) ∙ ap (λ (i : ℕ). class_of_kind i) r.1 in
    r.2 ∙ ap (λ (c : Class). token (record { class = c; start = a; stop = e }) (from s e)) c
