-- What `gw_parse` leaves in the buffers, case by case of its statement.
use mathlib.Core.Path.{◌≡◌, refl, ap, ◌∙◌, subst}
use mathlib.Core.List.{List, [], ◌∷◌, ◌++◌}
use mathlib.Core.Logic.{◌⊎◌, inl, inr}
use Prim.Native.Nat.{ℕ, ◌-◌, ◌*◌, ◌≤◌, ◌<◌}
use native.Mathlib.Omega.{arith}
use lib.ListN.{length, take, drop, replicate, length-append, length-replicate, length-drop}
use lib.Seq.{take_at, drop_at}
use Rattle.paper.specs.Numbers.{report_size, row_size, rows_size, most_rows, input_document}
use Rattle.paper.specs.Grammar.{nt}
use Rattle.paper.specs.Language.{Part, Document}
use Rattle.paper.specs.Tokens.{Text, Tokens}
use Rattle.paper.specs.Rows.{Row, flat}
use Rattle.paper.specs.Refusals.{number_of, shown_of}
use Rattle.paper.specs.Reading.{Fault, no_token, no_going, no_end, too_deep, too_many_rows, too_many, rows_are, refuses, TextAnswer, refused}
use Rattle.paper.specs.Calls.{filled, Parsed, short_report, short_rows, over_length, refuses_text, reads}
use Rattle.paper.specs.declared.Refusal.{Refusal}
use Rattle.paper.specs.declared.Refusal.TheVariants.{Buffer, OverLength, NoToken, NoGoing, TooDeep, TooManyRows, TooMany}
use Rattle.paper.proofs.Lexing.{from}
use Rattle.paper_theory.proofs.TokensLaws.{tokens_from}
use Rattle.paper_theory.proofs.RowCells.{flat_length}
use Rattle.paper.proofs.Going.{start, Out, whole, halt, go}
use Rattle.paper_theory.proofs.GoingSaid.{going_whole, going_halt}
use Rattle.paper_theory.proofs.CallsGoing.{from_rising}
use Rattle.paper_theory.proofs.SaidOne.{said_one}

-- rows fit their buffer
rows_inj : {rs rs' : List Row} → rows_are rs ≡ rows_are rs' → rs ≡ rs'
rows_inj q = cc

refuses≢rows : {r : Refusal} {rs : List Row} → refuses r ≡ rows_are rs → ⊥
refuses≢rows q = let z : ◌≡◌ {A = ℕ} 0 1 = cc in omega arith

few_rows : (n : Part) (s : List ℕ) (rs : List Row) → TextAnswer n (from s 0) (rows_are rs) → length rs ≤ most_rows
few_rows n s rs d = of_cells (replicate rows_size 0) (length-replicate {A = ℕ} rows_size 0)
  where
    of_cells : (cells : List ℕ) → length cells ≡ rows_size → length rs ≤ most_rows
    of_cells cells e = of_answer (go (start cells) (nt n ∷ []) (from s 0)) refl
      where
        of_answer : (o : Out) → go (start cells) (nt n ∷ []) (from s 0) ≡ o → length rs ≤ most_rows
        of_answer (whole m) q =
            let g = going_whole n (from s 0) cells m e q in
            subst (λ (z : List Row). length z ≤ most_rows) (rows_inj (said_one g.1 d)) g.3
        of_answer (halt r) q = absurd (refuses≢rows (said_one (going_halt n (from s 0) (from_rising s) cells r q) d))

pub rows_few : (n : Part) {s : List ℕ} {t : Text} (rs : List Row) → Tokens 0 s t → TextAnswer n t (rows_are rs) → length rs ≤ most_rows
rows_few n {s} {t} rs k d = few_rows n s rs (subst (λ (z : Text). TextAnswer n z (rows_are rs)) (tokens_from k) d)

-- a buffer filled: its fixed size, then what stood there
head_length : (size : ℕ) (ns : List ℕ) → length ns ≤ size → length (ns ++ replicate (size - length ns) 0) ≡ size
head_length size ns h = let a = length-append ns (replicate (size - length ns) 0) in let b = length-replicate {A = ℕ} (size - length ns) 0 in omega arith

pub filled_head : (size : ℕ) (ns old : List ℕ) → length ns ≤ size → take size (filled size ns old) ≡ ns ++ replicate (size - length ns) 0
filled_head size ns old h = take_at (ns ++ replicate (size - length ns) 0) (drop size old) size (head_length size ns h)

filled_tail : (size : ℕ) (ns old : List ℕ) → length ns ≤ size → drop size (filled size ns old) ≡ drop size old
filled_tail size ns old h = drop_at (ns ++ replicate (size - length ns) 0) (drop size old) size (head_length size ns h)

filled_length : (size : ℕ) (ns old : List ℕ) → length ns ≤ size → size ≤ length old → length (filled size ns old) ≡ length old
filled_length size ns old h l =
    let a = length-append (ns ++ replicate (size - length ns) 0) (drop size old) in
    let b = head_length size ns h in
    let c = length-drop size old in
    omega arith

pub filled_kept : (size : ℕ) (ns old new : List ℕ) → length ns ≤ size → size ≤ length old → new ≡ filled size ns old → (length new ≡ length old) × (drop size new ≡ drop size old)
filled_kept size ns old new h l e = (ap length e ∙ filled_length size ns old h l, ap (drop size) e ∙ filled_tail size ns old h)

-- the numbers that a call may write
pub flat_fits : {s : List ℕ} {t : Text} (rs : List Row) → Tokens 0 s t → TextAnswer Document t (rows_are rs) → length (flat rs) ≤ rows_size
flat_fits rs k d = let h = rows_few Document rs k d in let e = flat_length rs in omega arith

pub tells_fits : (r : Refusal) → length (number_of r ∷ shown_of r) ≤ report_size
tells_fits Buffer = omega arith
tells_fits (OverLength input) = omega arith
tells_fits (NoToken at) = omega arith
tells_fits (NoGoing at) = omega arith
tells_fits (TooDeep at) = omega arith
tells_fits (TooManyRows at) = omega arith
tells_fits (TooMany at) = omega arith

fault_number : {n : Part} {t : Text} {r : Refusal} → Fault n t r → 2 < number_of r
fault_number (no_token b) = omega arith
fault_number (no_going k h s) = omega arith
fault_number (no_end w s) = omega arith
fault_number (too_deep k h o) = omega arith
fault_number (too_many_rows k h o) = omega arith
fault_number (too_many k h o) = omega arith

pub said_number : {n : Part} {t : Text} {r : Refusal} → TextAnswer n t (refuses r) → 2 < number_of r
said_number (refused f l) = fault_number f

-- WHAT IS LEFT
module _ {document rows report rows' report' : List ℕ} where
  -- a shorter report: nothing is touched
  pub short_kept : {a : ℕ} → Parsed document rows report rows' report' a → length report < report_size → (a ≡ 1) × (rows' ≡ rows) × (report' ≡ report)
  short_kept (short_report h e f) l = (refl, e, f)
  short_kept (short_rows h w e f) l = let z : ⊥ = omega arith in absurd z
  short_kept (over_length h w m e f) l = let z : ⊥ = omega arith in absurd z
  short_kept (refuses_text h w m k s e f) l = let z : ⊥ = omega arith in absurd z
  short_kept (reads h w m k s e f) l = let z : ⊥ = omega arith in absurd z

  -- refusals 1 and 2: the rows are untouched
  pub rows_kept : {a : ℕ} → Parsed document rows report rows' report' a → (a ≡ 1) ⊎ (a ≡ 2) → rows' ≡ rows
  rows_kept (short_report h e f) l = e
  rows_kept (short_rows h w e f) l = e
  rows_kept (over_length h w m e f) l = e
  rows_kept (refuses_text h w m k s e f) (inl l) = let z = said_number s in let y : ⊥ = omega arith in absurd y
  rows_kept (refuses_text h w m k s e f) (inr l) = let z = said_number s in let y : ⊥ = omega arith in absurd y
  rows_kept (reads h w m k s e f) (inl l) = let y : ⊥ = omega arith in absurd y
  rows_kept (reads h w m k s e f) (inr l) = let y : ⊥ = omega arith in absurd y

  -- the other refusals: zeros alone
  pub rows_zeroed : {a : ℕ} → Parsed document rows report rows' report' a → 2 < a → take rows_size rows' ≡ replicate rows_size 0
  rows_zeroed (short_report h e f) l = let y : ⊥ = omega arith in absurd y
  rows_zeroed (short_rows h w e f) l = let y : ⊥ = omega arith in absurd y
  rows_zeroed (over_length h w m e f) l = let y : ⊥ = omega arith in absurd y
  rows_zeroed (refuses_text h w m k s e f) l = ap (take rows_size) e ∙ filled_head rows_size [] rows (omega arith)
  rows_zeroed (reads h w m k s e f) l = let y : ⊥ = omega arith in absurd y

  -- beyond the fixed size nothing is written
  pub rows_tail : {a : ℕ} → Parsed document rows report rows' report' a → (length rows' ≡ length rows) × (drop rows_size rows' ≡ drop rows_size rows)
  rows_tail (short_report h e f) = (ap length e, ap (drop rows_size) e)
  rows_tail (short_rows h w e f) = (ap length e, ap (drop rows_size) e)
  rows_tail (over_length h w m e f) = (ap length e, ap (drop rows_size) e)
  rows_tail (refuses_text h w m k s e f) = filled_kept rows_size [] rows rows' (omega arith) w e
  rows_tail (reads {t} {rs} h w m k s e f) = filled_kept rows_size (flat rs) rows rows' (flat_fits rs k s) w e

  pub report_tail : {a : ℕ} → Parsed document rows report rows' report' a → (length report' ≡ length report) × (drop report_size report' ≡ drop report_size report)
  report_tail (short_report h e f) = (ap length f, ap (drop report_size) f)
  report_tail (short_rows h w e f) = filled_kept report_size (number_of Buffer ∷ []) report report' (tells_fits Buffer) h f
  report_tail (over_length h w m e f) = filled_kept report_size (number_of (OverLength input_document) ∷ input_document ∷ []) report report' (tells_fits (OverLength input_document)) h f
  report_tail (refuses_text {t} {r} h w m k s e f) = filled_kept report_size (number_of r ∷ shown_of r) report report' (tells_fits r) h f
  report_tail (reads {t} {rs} h w m k s e f) = filled_kept report_size (0 ∷ length rs ∷ []) report report' (omega arith) h f

  -- the report begins with the answer
  pub report_tells : {a : ℕ} → Parsed document rows report rows' report' a → report_size ≤ length report → (ns : List ℕ) × (report' ≡ a ∷ ns)
  report_tells (short_report h e f) l = let y : ⊥ = omega arith in absurd y
  report_tells (short_rows h w e f) l = (_, f)
  report_tells (over_length h w m e f) l = (_, f)
  report_tells (refuses_text h w m k s e f) l = (_, f)
  report_tells (reads h w m k s e f) l = (_, f)

  -- success: the rows and zeros, and their count
  pub rows_read : {a : ℕ} → Parsed document rows report rows' report' a → a ≡ 0 →
      (t : Text) × (rs : List Row) × Tokens 0 document t × TextAnswer Document t (rows_are rs) × (length rs ≤ most_rows)
      × (take rows_size rows' ≡ flat rs ++ replicate (rows_size - row_size * length rs) 0) × (take 2 report' ≡ 0 ∷ length rs ∷ [])
  rows_read (short_report h e f) l = let y : ⊥ = omega arith in absurd y
  rows_read (short_rows h w e f) l = let y : ⊥ = omega arith in absurd y
  rows_read (over_length h w m e f) l = let y : ⊥ = omega arith in absurd y
  rows_read (refuses_text h w m k s e f) l = let z = said_number s in let y : ⊥ = omega arith in absurd y
  rows_read (reads {t} {rs} h w m k s e f) l = (
    t,
    rs,
    k,
    s,
    rows_few Document rs k s,
    ap (take rows_size) e ∙ filled_head rows_size (flat rs) rows (flat_fits rs k s) ∙ ap (λ (z : ℕ). flat rs ++ replicate (rows_size - z) 0) (flat_length rs),
    ap (take 2) f,
  )
