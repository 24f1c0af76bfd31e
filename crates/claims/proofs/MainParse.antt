-- What `gw_parse` promises, and what it is to read a text: each theorem is stated in full, and its proof is one name.
-- What the words mean, and is to be believed, stands in the `specs` of the paper crates that `Main` names.
-- Assumes nothing.
use mathlib.Core.Path.{◌≡◌}
use mathlib.Core.Bool.{false, not}
use mathlib.Core.List.{List, ◌∷◌, [], ◌++◌}
use mathlib.Core.Logic.{◌⊎◌, ◌↔◌}
use Prim.Native.Nat.{ℕ, suc, ◌-◌, ◌*◌, ◌≤◌, ◌<◌}
use lib.Dec.{T}
use lib.ListN.{length, take, drop, get_or, replicate}
use Rattle.std.specs.Prelude.{Ok, Err}
use Rattle.paper.specs.Numbers.{report_size, row_size, rows_size, most_text, most_levels, most_rows, most_fragments, most_variables, most_wrappers, no_parent, kind_fragment, kind_variable_definition, input_document}
use Rattle.paper.specs.Grammar.{Ev, mark, toks}
use Rattle.paper.specs.Language.{Class, Mark, row, kind, wrapper, Part, Document, VariablesText}
use Rattle.paper.specs.Lexical.{comment}
use Rattle.paper.specs.Tokens.{Text, Tokens, NoPiece, Longest, line_end}
use Rattle.paper.specs.Rows.{Row, rows_of, flat}
use Rattle.paper.specs.Sizes.{Sums, nothing_counted, sums, through, opens_level, over_levels, over_rows, over_counts}
use Rattle.paper.specs.Reading.{tokens_of, classes_of, place_of, EndsWell, Reads, Is, StopsAt, Summed, Fault, NoLater, Answer, rows_are, refuses, TextAnswer}
use Rattle.paper.specs.Refusals.{number_of, shown_in_text}
use Rattle.paper.specs.Calls.{Parsed, filled, tells}
use Rattle.paper.specs.declared.Refusal.{Refusal}
use Rattle.paper.specs.declared.Refusal.TheVariants.{Buffer, OverLength, NoToken, NoGoing, TooDeep, TooManyRows, TooMany}
use Rattle.paper_query.specs.Constructs.{no_row}
use Rattle.paper_theory.proofs.TokensLaws as tokens
use Rattle.paper_theory.proofs.ReadingLaws as reading
use Rattle.paper_theory.proofs.SaidOne as said
use Rattle.paper_theory.proofs.CallsOne as calls
use Rattle.text_rows.proofs.RowsLie as lie
use Rattle.text_documents.specs.Documents.{Ended}
use Rattle.text_cursor.specs.declared.Cursor.{Cursor}
use Rattle.gateway.proofs.parse.gw_parse.Statement as gw-parse
use Rattle.gateway.proofs.parse.gw_parse.Met as gw-parse-met
use Rattle.text_documents.proofs.variables_text.Statement as variables-text
use Rattle.text_documents.proofs.variables_text.Met as variables-text-met
use Rattle.claims.proofs.FitsLaws as fits
use Rattle.claims.proofs.ExactlyLaws as exactly
use Rattle.claims.proofs.StandsLaws as stands
use Rattle.claims.proofs.BeginsLaws as begins
use Rattle.claims.proofs.BuffersLaws as buffers
use Rattle.claims.proofs.SomeLaws as some
use Rattle.claims.proofs.VariablesLaws as variables

-- ---- THE CODE

-- `gw_parse` meets the contract in `crates/gateway/src/parse.rt`, which is `Parsed`: for every document, rows buffer and report of any length
-- and content it says the answer and every number of both buffers.
pub gw_parse_meets : {M : Type 1} → gw-parse.statement M
gw_parse_meets = gw-parse-met.met

-- Two results that satisfy it are equal.
pub gw_parse_one : {document rows report rows' report' rows'' report'' : List ℕ} {a a' : ℕ} →
    Parsed document rows report rows' report' a → Parsed document rows report rows'' report'' a' → (a ≡ a') × (rows' ≡ rows'') × (report' ≡ report'')
gw_parse_one = calls.parsed_one

-- Some result satisfies it, whatever the buffers and the document.
pub gw_parse_some : (document rows report : List ℕ) → (rows' : List ℕ) × (report' : List ℕ) × (a : ℕ) × Parsed document rows report rows' report' a
gw_parse_some = some.parsed_some

-- Success: the rows of the document and zeros, and in the report their count.
pub success_fills : {document rows report rows' report' : List ℕ} {a : ℕ} → Parsed document rows report rows' report' a → a ≡ 0 →
    (t : Text) × (rs : List Row) × Tokens 0 document t × TextAnswer Document t (rows_are rs) × (length rs ≤ most_rows)
    × (take rows_size rows' ≡ flat rs ++ replicate (rows_size - row_size * length rs) 0) × (take 2 report' ≡ 0 ∷ length rs ∷ [])
success_fills = buffers.rows_read

-- Refusals 1 and 2 touch no other buffer, and a shorter report is untouched itself.
pub refusals_1_and_2_keep_rows : {document rows report rows' report' : List ℕ} {a : ℕ} → Parsed document rows report rows' report' a → (a ≡ 1) ⊎ (a ≡ 2) → rows' ≡ rows
refusals_1_and_2_keep_rows = buffers.rows_kept

pub short_report_is_kept : {document rows report rows' report' : List ℕ} {a : ℕ} → Parsed document rows report rows' report' a → length report < report_size →
    (a ≡ 1) × (rows' ≡ rows) × (report' ≡ report)
short_report_is_kept = buffers.short_kept

-- The other refusals zero the fixed size.
pub refusals_zero_rows : {document rows report rows' report' : List ℕ} {a : ℕ} → Parsed document rows report rows' report' a → 2 < a → take rows_size rows' ≡ replicate rows_size 0
refusals_zero_rows = buffers.rows_zeroed

-- The report begins with the answer.
pub report_tells : {document rows report rows' report' : List ℕ} {a : ℕ} → Parsed document rows report rows' report' a → report_size ≤ length report → (ns : List ℕ) × (report' ≡ a ∷ ns)
report_tells = buffers.report_tells

-- Beyond the fixed size nothing is written.
pub rows_tail : {document rows report rows' report' : List ℕ} {a : ℕ} → Parsed document rows report rows' report' a → (length rows' ≡ length rows) × (drop rows_size rows' ≡ drop rows_size rows)
rows_tail = buffers.rows_tail

pub report_tail : {document rows report rows' report' : List ℕ} {a : ℕ} → Parsed document rows report rows' report' a →
    (length report' ≡ length report) × (drop report_size report' ≡ drop report_size report)
report_tail = buffers.report_tail

-- ---- ACCEPTED EXACTLY WHEN

-- Any bytes are one text of tokens.
pub tokens_some : (s : List ℕ) → (t : Text) × Tokens 0 s t
tokens_some = stands.tokens_some

pub tokens_one : {at : ℕ} {bs : List ℕ} {t t' : Text} → Tokens at bs t → Tokens at bs t' → t ≡ t'
tokens_one = tokens.tokens_one

-- Of any text something is said, and one thing only.
pub said_some : (n : Part) {s : List ℕ} {t : Text} → Tokens 0 s t → (a : Answer) × TextAnswer n t a
said_some = stands.said_of

pub said_one : {n : Part} {t : Text} {a a' : Answer} → TextAnswer n t a → TextAnswer n t a' → a ≡ a'
said_one = said.said_one

-- A text is accepted exactly when it fits the grammar and the sizes: it ends well, its classes derive as the part, and after no token a count
-- is over; and then the rows are those that the derivation gives.
pub accepted_exactly : (n : Part) (t : Text) (rs : List Row) →
    TextAnswer n t (rows_are rs)
    ↔ ((es : List (Ev Class Mark)) × EndsWell t × Reads n (classes_of t) es
    × ((k : ℕ) → k < length (tokens_of t) →
    (over_levels (sums (through (suc k) es) nothing_counted) ≡ false) × (over_rows (sums (through (suc k) es) nothing_counted) ≡ false) × (over_counts (sums (through (suc k) es) nothing_counted).counts ≡ false))
    × (rs ≡ rows_of es (tokens_of t)))
accepted_exactly = fits.fits_exactly

-- At the level of the call: 0 exactly when the buffers are lent, the document is short enough and it has rows, by grammar and sizes.
pub parse_accepted_exactly : {document rows report rows' report' : List ℕ} {a : ℕ} → Parsed document rows report rows' report' a →
    (a ≡ 0) ↔ ((report_size ≤ length report) × (rows_size ≤ length rows) × (length document ≤ most_text) × ((rs : List Row) × ((t : Text) × Tokens 0 document t × TextAnswer Document t (rows_are rs))))
parse_accepted_exactly = exactly.parsed_exactly

-- 1 for rows that are too short, in a report that is long enough; 2 for a document that is too long, in buffers that are: told with what they show, the rows as they were.
pub parse_short_rows_told : {document rows report rows' report' : List ℕ} {a : ℕ} → Parsed document rows report rows' report' a → report_size ≤ length report → length rows < rows_size →
    (a ≡ 1) × (rows' ≡ rows) × (report' ≡ tells Buffer report)
parse_short_rows_told = exactly.parse_short_rows

pub parse_over_length_told : {document rows report rows' report' : List ℕ} {a : ℕ} → Parsed document rows report rows' report' a →
    report_size ≤ length report → rows_size ≤ length rows → most_text < length document → (a ≡ 2) × (rows' ≡ rows) × (report' ≡ tells (OverLength input_document) report)
parse_over_length_told = exactly.parse_over_length

-- 3 to 6 and 8, with their offset, exactly when the text is refused so: what is said of the text is told, and every answer above 2 is said of the text.
pub parse_refusal_told : {document rows report rows' report' : List ℕ} {a : ℕ} → Parsed document rows report rows' report' a →
    report_size ≤ length report → rows_size ≤ length rows → length document ≤ most_text →
    (r : Refusal) → ((t : Text) × Tokens 0 document t × TextAnswer Document t (refuses r)) → (a ≡ number_of r) × (report' ≡ tells r report)
parse_refusal_told = exactly.parse_refuses

pub parse_refusal_said : {document rows report rows' report' : List ℕ} {a : ℕ} → Parsed document rows report rows' report' a → 2 < a →
    (report_size ≤ length report) × (rows_size ≤ length rows) × (length document ≤ most_text)
    × ((r : Refusal) × ((t : Text) × Tokens 0 document t × TextAnswer Document t (refuses r)) × (a ≡ number_of r) × (report' ≡ tells r report))
parse_refusal_said = exactly.parse_told

-- There is only one derivation.
pub reading_one : (n : Part) (ts : List Class) (es fs : List (Ev Class Mark)) → Reads n ts es → Reads n ts fs → es ≡ fs
reading_one = reading.one_reading

-- ---- HOW THE ROWS LIE, of a document or of a variables text that is read

-- They stand in order of start.
pub rows_in_order : (n : Part) {s : List ℕ} {t : Text} {rs : List Row} → (n ≡ Document) ⊎ (n ≡ VariablesText) → Tokens 0 s t → TextAnswer n t (rows_are rs) →
    (i j : ℕ) → i < j → j < length rs → (get_or rs i no_row).start ≤ (get_or rs j no_row).start
rows_in_order = lie.rows_ordered

-- Each has a byte at least, and ends within the text.
pub rows_have_bytes : (n : Part) {s : List ℕ} {t : Text} {rs : List Row} → (n ≡ Document) ⊎ (n ≡ VariablesText) → Tokens 0 s t → TextAnswer n t (rows_are rs) →
    (i : ℕ) → i < length rs → ((get_or rs i no_row).start < (get_or rs i no_row).end) × ((get_or rs i no_row).end ≤ length s)
rows_have_bytes = lie.rows_end

-- A parent stands before what it holds, and encloses it.
pub parent_encloses : (n : Part) {s : List ℕ} {t : Text} {rs : List Row} → (n ≡ Document) ⊎ (n ≡ VariablesText) → Tokens 0 s t → TextAnswer n t (rows_are rs) →
    (i p : ℕ) → i < length rs → (get_or rs i no_row).parent ≡ p → (p ≡ no_parent → ⊥) →
    (p < i) × ((get_or rs p no_row).start ≤ (get_or rs i no_row).start) × ((get_or rs i no_row).end ≤ (get_or rs p no_row).end)
parent_encloses = lie.parents_enclose

-- ---- WHERE A REFUSAL STANDS

-- The least of the faults is told: the least offset, then the least number.
pub least_told : (n : Part) (t : Text) (r : Refusal) → TextAnswer n t (refuses r) ↔ (Fault n t r × ((r' : Refusal) → Fault n t r' → NoLater r r'))
least_told = stands.least

-- 3 stands at bytes with which no token begins (a string with bad text is no token), or at a comment with bad text.
pub refusal_3_stands : (n : Part) {s : List ℕ} {t : Text} (at : ℕ) → Tokens 0 s t → TextAnswer n t (refuses (NoToken at)) →
    (at < length s) × (NoPiece (drop at s) ⊎ ((p : List ℕ) × Longest (drop at s) p comment × T (not (line_end (drop (length p) (drop at s))))))
refusal_3_stands = stands.token_stands

-- 4 stands at a token, or at the end, with which no text of the part can go on, while what stands before it can be completed to one.
pub refusal_4_stands : (n : Part) (t : Text) (at : ℕ) → TextAnswer n t (refuses (NoGoing at)) →
    (k : ℕ) × (at ≡ place_of k t) × StopsAt n (classes_of t) k × ((k < length (tokens_of t)) ⊎ ((k ≡ length (tokens_of t)) × EndsWell t))
refusal_4_stands = stands.going_stands

-- That place is the only one, and tokens that make no text of the part have one.
pub stop_one : (n : Part) (ts : List Class) (j k : ℕ) → j ≤ length ts → k ≤ length ts → StopsAt n ts j → StopsAt n ts k → j ≡ k
stop_one = stands.stop_one

pub stop_some : (n : Part) (ts : List Class) → Is n ts ⊎ ((k : ℕ) × (k ≤ length ts) × StopsAt n ts k)
stop_some = stands.stop_some

-- 5 stands at the first opening mark of level 33; 6 and 8 at the first token with which the rows or another count are over. After no token before
-- is any of them over.
pub refusal_5_stands : (n : Part) {s : List ℕ} {t : Text} (at : ℕ) → Tokens 0 s t → TextAnswer n t (refuses (TooDeep at)) →
    (k : ℕ) × (m : Sums) × (at ≡ place_of k t) × Summed n (classes_of t) k m × (m.levels ≡ suc most_levels) × ((c : Class) × (r : List Class) × (drop k (classes_of t) ≡ c ∷ r) × T (opens_level c))
    × ((j : ℕ) (m' : Sums) → j < k → Summed n (classes_of t) j m' → (over_levels m' ≡ false) × (over_rows m' ≡ false) × (over_counts m'.counts ≡ false))
refusal_5_stands = stands.deep_stands

pub refusal_6_stands : (n : Part) {s : List ℕ} {t : Text} (at : ℕ) → Tokens 0 s t → TextAnswer n t (refuses (TooManyRows at)) →
    (k : ℕ) × (m : Sums) × (at ≡ place_of k t) × Summed n (classes_of t) k m × T (over_rows m)
    × ((j : ℕ) (m' : Sums) → j < k → Summed n (classes_of t) j m' → (over_levels m' ≡ false) × (over_rows m' ≡ false) × (over_counts m'.counts ≡ false))
refusal_6_stands = stands.rows_stands

pub refusal_8_stands : (n : Part) {s : List ℕ} {t : Text} (at : ℕ) → Tokens 0 s t → TextAnswer n t (refuses (TooMany at)) →
    (k : ℕ) × (m : Sums) × (at ≡ place_of k t) × Summed n (classes_of t) k m × T (over_counts m.counts)
    × ((j : ℕ) (m' : Sums) → j < k → Summed n (classes_of t) j m' → (over_levels m' ≡ false) × (over_rows m' ≡ false) × (over_counts m'.counts ≡ false))
refusal_8_stands = stands.many_stands

-- There a construct begins that is the first over. In the events of a text that begins with the tokens up to the refused one, a mark stands right before it, that is, behind all tokens
-- that it follows: at 6 the beginning of a row, where 2,048 have begun, so that the offset is the start of row 2,049.
pub refusal_6_begins : (n : Part) {s : List ℕ} {t : Text} (at : ℕ) → Tokens 0 s t → TextAnswer n t (refuses (TooManyRows at)) →
    (k : ℕ) × (later : List Class) × (es : List (Ev Class Mark)) × (xs : List (Ev Class Mark)) × (ys : List (Ev Class Mark)) × (at ≡ place_of k t) × (k < length (tokens_of t))
    × Reads n (take (suc k) (classes_of t) ++ later) es × (through (suc k) es ≡ xs ++ (mark row ∷ ys)) × (length (toks xs) ≡ k) × ((sums xs nothing_counted).rows ≡ most_rows)
refusal_6_begins = begins.row_begins

-- At 8 the kind of a fragment where 64 have theirs, the kind of a variable definition where the operation has 64, or a wrapper where the type reference has 7.
pub refusal_8_begins : (n : Part) {s : List ℕ} {t : Text} (at : ℕ) → Tokens 0 s t → TextAnswer n t (refuses (TooMany at)) →
    (k : ℕ) × (later : List Class) × (es : List (Ev Class Mark)) × (xs : List (Ev Class Mark)) × (a : Mark) × (ys : List (Ev Class Mark)) × (at ≡ place_of k t) × (k < length (tokens_of t))
    × Reads n (take (suc k) (classes_of t) ++ later) es × (through (suc k) es ≡ xs ++ (mark a ∷ ys)) × (length (toks xs) ≡ k)
    × (((x : ℕ) × (a ≡ kind kind_fragment x) × ((sums xs nothing_counted).counts.fragments ≡ most_fragments))
    ⊎ (((x : ℕ) × (a ≡ kind kind_variable_definition x) × ((sums xs nothing_counted).counts.variables ≡ most_variables))
    ⊎ ((a ≡ wrapper) × ((sums xs nothing_counted).counts.wrappers ≡ most_wrappers))))
refusal_8_begins = begins.count_begins

-- The sums after a token do not depend on how the text goes on.
pub summed_one : (n : Part) (ts : List Class) (k : ℕ) (m m' : Sums) → Summed n ts k m → Summed n ts k m' → m ≡ m'
summed_one = fits.summed_one

-- ---- THE VARIABLES TEXT

-- A refusal of a text shows its offset and the text's number, 1 for the variables; the document's is 0, as the rest of its report.
pub document_shows : (r : Refusal) (old : List ℕ) → filled report_size (number_of r ∷ shown_in_text input_document r) old ≡ tells r old
document_shows = variables.document_shown

-- `text_documents::variables_text` meets its contract, `Ended VariablesText`, for every text of at most 16,384 bytes.
pub variables_text_meets : {M : Type 1} → variables-text.statement M
variables_text_meets = variables-text-met.met

-- That contract says what `TextAnswer VariablesText` does: the rows and their count, or the refusal.
pub variables_text_reads : (s rows rows' : List ℕ) (d : Cursor) → length rows ≡ rows_size → Ended VariablesText s rows rows' (Ok d) →
    (t : Text) × (rs : List Row) × Tokens 0 s t × TextAnswer VariablesText t (rows_are rs) × (d.rows ≡ length rs) × (length rs ≤ most_rows) × (take (row_size * length rs) rows' ≡ flat rs)
variables_text_reads = variables.variables_read

pub variables_text_refuses : (s rows rows' : List ℕ) (r : Refusal) → length rows ≡ rows_size → Ended VariablesText s rows rows' (Err r) →
    (t : Text) × Tokens 0 s t × TextAnswer VariablesText t (refuses r)
variables_text_refuses = variables.variables_refused

-- 3 to 6 alone: 8 is never said of a variables text.
pub variables_text_never_8 : (t : Text) (at : ℕ) → TextAnswer VariablesText t (refuses (TooMany at)) → ⊥
variables_text_never_8 = variables.variables_never_8
