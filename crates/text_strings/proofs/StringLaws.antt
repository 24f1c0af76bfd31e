-- The string and the comment that stand at a place, told by where their characters end.
-- Assumes nothing.
use mathlib.Core.Path.{◌≡◌, refl, sym, ap, ◌∙◌}
use mathlib.Core.Bool.{cond}
use mathlib.Core.List.{List, [], ◌∷◌}
use mathlib.Core.Option.{Option, none, some}
use Prim.Native.Nat.{ℕ, zero, suc, ◌+◌, ◌-◌, ◌<◌, ◌≤◌}
use native.Mathlib.Nat.{zero-add, suc-add}
use native.Mathlib.Omega.{arith}
use lib.ListN.{length, drop, get_or, drop_of_length-le}
use lib.Seq.{drop-drop}
use borrow.Author.Tests.{ne_eqb}
use Rattle.std.specs.Prelude.{Result, Err}
use Rattle.paper.specs.Grammar.{nt}
use Rattle.paper.specs.Language.{string}
use Rattle.paper.specs.Lexical.{What, is, comment, lexical, Piece}
use Rattle.paper.specs.Tokens.{line_end}
use Rattle.paper.proofs.Machine.{step, choose, enter}
use Rattle.paper.proofs.Longest.{Match, scan}
use Rattle.paper.proofs.LexTables.{lexer, lex_factored}
use Rattle.text_scan.specs.Piece.{piece_at, as_token, token_of, token_here, as_ignored, ignored_of, ignored_here}
use Rattle.text_characters.specs.Characters.{character_size}
use Rattle.text_scan.specs.Parts.{Runs, none_yet, one_more, Ended, part_size}
use Rattle.text_scan.specs.declared.Token.{Token}
use Rattle.text_scan.specs.Head.{token_read}
use Rattle.text_characters.proofs.ByteLaws.{front}
use Rattle.text_scan.proofs.ReadLaws.{Stack}
use Rattle.text_scan.proofs.ScanLaws.{Seen, seen, more, grow, or_none, scan_took}
use Rattle.text_scan.proofs.RunScan.{in_string, in_comment, string_end, string_quote, string_more, string_stop, comment_more, comment_stop}

grow_add : (n m : ℕ) (o : Seen) → grow n (grow m o) ≡ grow (n + m) o
grow_add zero m o = rw (zero-add m)
grow_add (suc n) m o = rw (suc-add n m) (ap more (grow_add n m o))

grow_some : (n k : ℕ) (w : What) → grow n (some (k, w)) ≡ some (n + k, w)
grow_some zero k w = rw (zero-add k)
grow_some (suc n) k w = rw (grow_some n k w, suc-add n k)

-- what is read over a run of characters
module _ (f : List ℕ → ℕ) (σ : Stack) (law : (bs : List ℕ) (n : ℕ) → f bs ≡ suc n → seen (scan lexer σ bs) ≡ grow (suc n) (seen (scan lexer σ (drop (suc n) bs)))) (s : List ℕ) (from : ℕ) where
  run_scan : {i : ℕ} → Runs f s from i → (from ≤ i) × (seen (scan lexer σ (drop from s)) ≡ grow (i - from) (seen (scan lexer σ (drop i s))))
  run_scan {i} (none_yet e) =
      let n : i - from ≡ 0 = omega arith in
      (omega arith, rw (n, e))
  run_scan {i} (one_more {i = k} r n e q) =
      let h = run_scan r in
      let m : i - from ≡ (k - from) + suc n = omega (arith, h.0) in (
        omega (arith, h.0),
        h.1 ∙ ap (grow (k - from)) (law (drop k s) n e ∙ ap (λ l. grow (suc n) (seen (scan lexer σ l))) (drop-drop (suc n) k s ∙ ap (λ (x : ℕ). drop x s) q)) ∙
            grow_add (k - from) (suc n) (seen (scan lexer σ (drop i s))) ∙ ap (λ (x : ℕ). grow x (seen (scan lexer σ (drop i s)))) (sym m),
      )

abbrev token_seen : ℕ → Seen → Result Token ℕ
token_seen at none = Err at
token_seen at (some m) = as_token m.1 at m.0

token_seen_is : (at : ℕ) (o : Option (Match ℕ What)) → token_of at o ≡ token_seen at (seen o)
token_seen_is at none = refl
token_seen_is at (some m) = refl

abbrev ignored_seen : List ℕ → Seen → ℕ
ignored_seen bs none = 0
ignored_seen bs (some m) = as_ignored m.1 m.0 bs

ignored_seen_is : (bs : List ℕ) (o : Option (Match ℕ What)) → ignored_of bs o ≡ ignored_seen bs (seen o)
ignored_seen_is bs none = refl
ignored_seen_is bs (some m) = refl

-- a piece that begins with a quote is a string, one that begins with # a comment
piece_string : (bs : List ℕ) → seen (piece_at (34 ∷ bs)) ≡ more (seen (scan lexer in_string bs))
unfolding piece_at scan step enter choose lexical lex_factored
piece_string bs = scan_took (nt Piece ∷ []) in_string 34 bs refl ∙ or_none (more (seen (scan lexer in_string bs)))

piece_comment : (bs : List ℕ) → seen (piece_at (35 ∷ bs)) ≡ more (seen (scan lexer in_comment bs))
unfolding piece_at scan step enter choose lexical lex_factored
piece_comment bs = scan_took (nt Piece ∷ []) in_comment 35 bs refl ∙ or_none (more (seen (scan lexer in_comment bs)))

-- the string at `at`, whose characters end at e
module _ (s : List ℕ) (at e : ℕ) (h : at < length s) (q : get_or s at 0 ≡ 34) (d : Ended part_size s (at + 1) e) where
  runs_to : (at + 1 ≤ e) × (seen (scan lexer in_string (drop (at + 1) s)) ≡ grow (e - (at + 1)) (seen (scan lexer in_string (drop e s))))
  runs_to = run_scan part_size in_string string_more s (at + 1) d.runs

  token_string : token_here at (drop at s) ≡ token_seen at (more (grow (e - (at + 1)) (seen (scan lexer in_string (drop e s)))))
  unfolding token_here
  token_string =
      rw (front s at h, q)
      (token_seen_is at (piece_at (34 ∷ drop (at + 1) s)) ∙ ap (token_seen at) (piece_string (drop (at + 1) s)) ∙ ap (λ o. token_seen at (more o)) runs_to.1)

  pub string_found : e < length s → get_or s e 0 ≡ 34 → token_read 4 at (e + 1) ≡ token_here at (drop at s)
  string_found l z =
      sym (token_string ∙
      ap (λ o. token_seen at (more (grow (e - (at + 1)) o))) (ap (λ l. seen (scan lexer in_string l)) (front s e l ∙ ap (λ (b : ℕ). b ∷ drop (e + 1) s) z) ∙ string_quote (drop (e + 1) s)) ∙
      ap (λ o. token_seen at (more o)) (grow_some (e - (at + 1)) 1 (is string)) ∙
      ap (λ (n : ℕ). token_read 4 at n) (let k = runs_to.0 in omega arith))

  none_grows : (n : ℕ) → grow n none ≡ none
  none_grows zero = refl
  none_grows (suc n) = ap more (none_grows n)

  bad_string : seen (scan lexer in_string (drop e s)) ≡ none → Err at ≡ token_here at (drop at s)
  bad_string z = sym (token_string ∙ ap (λ o. token_seen at (more (grow (e - (at + 1)) o))) z ∙ ap (λ o. token_seen at (more o)) (none_grows (e - (at + 1))))

  pub string_other : e < length s → (get_or s e 0 ≡ 34 → ⊥) → Err at ≡ token_here at (drop at s)
  string_other l z = bad_string (ap (λ l. seen (scan lexer in_string l)) (front s e l) ∙ string_stop (get_or s e 0) (drop (e + 1) s) (sym (ap part_size (front s e l)) ∙ d.stops) z)

  pub string_unended : length s ≤ e → Err at ≡ token_here at (drop at s)
  string_unended l = bad_string (ap (λ l. seen (scan lexer in_string l)) (drop_of_length-le s l) ∙ string_end)

-- the comment at i, whose characters end at e
module _ (s : List ℕ) (i e : ℕ) (h : i < length s) (q : get_or s i 0 ≡ 35) (d : Ended character_size s (i + 1) e) where
  comment_to : (i + 1 ≤ e) × (seen (scan lexer in_comment (drop (i + 1) s)) ≡ grow (e - (i + 1)) (seen (scan lexer in_comment (drop e s))))
  comment_to = run_scan character_size in_comment comment_more s (i + 1) d.runs

  comment_size : ignored_here (drop i s) ≡ cond (line_end (drop e s)) (e - i) 0
  unfolding ignored_here
  comment_size =
      let k = comment_to.0 in
      let n : suc (e - (i + 1) + 0) ≡ e - i = omega arith in
      let m : i + (e - i) ≡ e = omega arith in
      ap (λ l. ignored_of (drop i s) (piece_at l)) (front s i h ∙ ap (λ (b : ℕ). b ∷ drop (i + 1) s) q) ∙
      ignored_seen_is (drop i s) (piece_at (35 ∷ drop (i + 1) s)) ∙
      ap (ignored_seen (drop i s)) (piece_comment (drop (i + 1) s) ∙ ap more (comment_to.1 ∙ ap (grow (e - (i + 1))) (comment_stop (drop e s) d.stops) ∙ grow_some (e - (i + 1)) 0 comment)) ∙
      rw (n, drop-drop (e - i) i s, m) refl

  pub comment_whole : length s ≤ e → e - i ≡ ignored_here (drop i s)
  comment_whole l = sym (comment_size ∙ rw (drop_of_length-le s l) refl)

  pub comment_lf : e < length s → get_or s e 0 ≡ 10 → e - i ≡ ignored_here (drop i s)
  comment_lf l z = sym (comment_size ∙ rw (front s e l, z) refl)

  pub comment_cr : e < length s → get_or s e 0 ≡ 13 → e - i ≡ ignored_here (drop i s)
  comment_cr l z = sym (comment_size ∙ rw (front s e l, z) refl)

  pub comment_bad : e < length s → (get_or s e 0 ≡ 10 → ⊥) → (get_or s e 0 ≡ 13 → ⊥) → 0 ≡ ignored_here (drop i s)
  comment_bad l y z = sym (comment_size ∙ rw (front s e l, ne_eqb (get_or s e 0) 10 y, ne_eqb (get_or s e 0) 13 z) refl)
