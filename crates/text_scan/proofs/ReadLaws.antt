-- How the machine of the lexical language reads, step by step: the size and the kind of the longest match.
use mathlib.Core.Path.{◌≡◌, refl, sym, ◌∙◌, subst}
use mathlib.Core.Bool.{Bool, true, false, cond}
use mathlib.Core.List.{List, [], ◌∷◌}
use mathlib.Core.Option.{none, some}
use Prim.Native.Nat.{ℕ, suc, ◌+◌}
use native.Mathlib.Nat.{zero-add}
use native.Mathlib.Omega.{arith}
use lib.ListN.{drop}
use Rattle.std.specs.Prelude.{Err}
use Rattle.paper.specs.Grammar.{Sym, nt, act, Ev, tok, mark}
use Rattle.paper.specs.Lexical.{Lex, Set, What, Piece, hits_byte}
use Rattle.paper.specs.Tokens.{what_of}
use Rattle.paper.proofs.Machine.{took, emptied, refused, step}
use Rattle.paper.proofs.Longest.{scan}
use Rattle.paper.proofs.LexTables.{lexer}
use Rattle.text_scan.specs.Piece.{piece_at, token_here, as_token, ignored_here, as_ignored}
use Rattle.text_scan.specs.Run.{run_of}

abbrev pub Stack : Type 0
Stack = List (Sym Lex Set What)

-- the longest beginning of bs that fits the stack has n bytes, and is a w
pub record Read (σ : Stack) (bs : List ℕ) (n : ℕ) (w : What) : Type 0 where
  pub events : List (Ev ℕ What)
  pub scans : scan lexer σ bs ≡ some (record { size = n; events = events })
  pub what : what_of events ≡ w

-- none fits
pub record Nothing (σ : Stack) (bs : List ℕ) : Type 0 where
  pub scans : scan lexer σ bs ≡ none

-- two stacks read alike
pub record Alike (σ σ' : Stack) (bs : List ℕ) : Type 0 where
  pub scans : scan lexer σ bs ≡ scan lexer σ' bs

pub read_size : {σ : Stack} {bs : List ℕ} {n m : ℕ} {w : What} → n ≡ m → Read σ bs n w → Read σ bs m w
read_size {σ} {bs} {n} {m} {w} e r = subst (λ (k : ℕ). Read σ bs k w) e r

-- a step that takes the byte
pub read_take : {σ σ' : Stack} {b n : ℕ} {bs : List ℕ} {w : What} → step lexer σ (some b) ≡ took (tok b ∷ []) σ' → Read σ' bs n w → Read σ (b ∷ bs) (suc n) w
unfolding scan
read_take {b} e r = record { events = tok b ∷ r.events; scans = rw (e, r.scans); what = r.what }

pub nothing_take : {σ σ' : Stack} {b : ℕ} {bs : List ℕ} → step lexer σ (some b) ≡ took (tok b ∷ []) σ' → step lexer σ none ≡ refused → Nothing σ' bs → Nothing σ (b ∷ bs)
unfolding scan
nothing_take e f z = record { scans = rw (e, z.scans, f) }

-- one that refuses it
pub nothing_refused : {σ : Stack} {b : ℕ} {bs : List ℕ} → step lexer σ (some b) ≡ refused → step lexer σ none ≡ refused → Nothing σ (b ∷ bs)
unfolding scan
nothing_refused e f = record { scans = rw (e, f) }

pub nothing_end : {σ : Stack} → step lexer σ none ≡ refused → Nothing σ []
unfolding scan
nothing_end f = record { scans = rw f }

-- the match that ends here: the text does, or the byte is not taken, or what begins with it comes to nothing
pub read_end : {σ : Stack} {w : What} → step lexer σ none ≡ emptied (mark w ∷ []) → Read σ [] 0 w
unfolding scan
read_end {w} e = record { events = mark w ∷ []; scans = rw e; what = refl }

pub read_stop : {σ : Stack} {b : ℕ} {bs : List ℕ} {w : What} → step lexer σ none ≡ emptied (mark w ∷ []) → step lexer σ (some b) ≡ emptied (mark w ∷ []) → Read σ (b ∷ bs) 0 w
unfolding scan
read_stop {w} e f = record { events = mark w ∷ []; scans = rw (f, e); what = refl }

pub read_back : {σ σ' : Stack} {b : ℕ} {bs : List ℕ} {w : What} → step lexer σ none ≡ emptied (mark w ∷ []) → step lexer σ (some b) ≡ took (tok b ∷ []) σ' → Nothing σ' bs → Read σ (b ∷ bs) 0 w
unfolding scan
read_back {w} e f z = record { events = mark w ∷ []; scans = rw (f, z.scans, e); what = refl }

-- a mark alone
pub read_mark : (w : What) (bs : List ℕ) → Read (act w ∷ []) bs 0 w
unfolding step
read_mark w [] = read_end refl
read_mark w (b ∷ bs) = read_stop refl refl

-- stacks that step alike
pub alike_byte : {σ σ' : Stack} {b : ℕ} {bs : List ℕ} → step lexer σ (some b) ≡ step lexer σ' (some b) → step lexer σ none ≡ step lexer σ' none → Alike σ σ' (b ∷ bs)
unfolding scan
alike_byte e f = record { scans = rw (e, f) }

pub alike_end : {σ σ' : Stack} → step lexer σ none ≡ step lexer σ' none → Alike σ σ' []
unfolding scan
alike_end f = record { scans = rw f }

pub read_alike : {σ σ' : Stack} {bs : List ℕ} {n : ℕ} {w : What} → Alike σ σ' bs → Read σ' bs n w → Read σ bs n w
read_alike e r = record { events = r.events; scans = e.scans ∙ r.scans; what = r.what }

pub nothing_alike : {σ σ' : Stack} {bs : List ℕ} → Alike σ σ' bs → Nothing σ' bs → Nothing σ bs
nothing_alike e z = record { scans = e.scans ∙ z.scans }

-- from the longest piece to the answers
module _ (bs : List ℕ) where
  pub read_token : {n : ℕ} {w : What} → Read (nt Piece ∷ []) bs n w → (at : ℕ) → token_here at bs ≡ as_token w at n
  unfolding token_here piece_at
  read_token r at = rw (r.scans, r.what)

  pub nothing_token : Nothing (nt Piece ∷ []) bs → (at : ℕ) → token_here at bs ≡ Err at
  unfolding token_here piece_at
  nothing_token z at = rw z.scans

  pub read_ignored : {n : ℕ} {w : What} → Read (nt Piece ∷ []) bs n w → ignored_here bs ≡ as_ignored w n bs
  unfolding ignored_here piece_at
  read_ignored r = rw (r.scans, r.what)

  pub nothing_ignored : Nothing (nt Piece ∷ []) bs → ignored_here bs ≡ 0
  unfolding ignored_here piece_at
  nothing_ignored z = rw z.scans

-- a part that goes on as long as the bytes are of a set
pub record Repeats (n : Lex) (p : Set) : Type 0 where
  pub more : (b : ℕ) (σ : Stack) → hits_byte p b ≡ true → step lexer (nt n ∷ σ) (some b) ≡ took (tok b ∷ []) (nt n ∷ σ)
  pub over : (b : ℕ) (σ : Stack) → hits_byte p b ≡ false → step lexer (nt n ∷ σ) (some b) ≡ step lexer σ (some b)
  pub end : (σ : Stack) → step lexer (nt n ∷ σ) none ≡ step lexer σ none

pub read_run : {n : Lex} {p : Set} → Repeats n p → (σ : Stack) (bs : List ℕ) (m : ℕ) (w : What) → Read σ (drop (run_of p bs) bs) m w → Read (nt n ∷ σ) bs (run_of p bs + m) w
unfolding run_of
read_run R σ [] m w r = read_size (sym (zero-add m)) (read_alike (alike_end (R.end σ)) r)
read_run {n} {p} R σ (b ∷ bs) m w r = go (hits_byte p b) refl r (read_run R σ bs m w)
  where
    go : (t : Bool) → hits_byte p b ≡ t → Read σ (drop (cond t (1 + run_of p bs) 0) (b ∷ bs)) m w → (Read σ (drop (run_of p bs) bs) m w → Read (nt n ∷ σ) bs (run_of p bs + m) w) →
        Read (nt n ∷ σ) (b ∷ bs) (cond t (1 + run_of p bs) 0 + m) w
    go true q r f = read_size (let z : suc (run_of p bs + m) ≡ 1 + run_of p bs + m = omega arith in z) (read_take (R.more b σ q) (f (rw (let z : 1 + run_of p bs ≡ suc (run_of p bs) = omega arith in z) at r)))
    go false q r f = read_size (sym (zero-add m)) (read_alike (alike_byte (R.over b σ q) (R.end σ)) r)
