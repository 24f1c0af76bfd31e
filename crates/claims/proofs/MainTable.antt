-- What `gw_check_table` promises: each theorem is stated in full, and its proof is one name.
-- What the words mean, and is to be believed, stands in the `specs` of the paper crates that `Main` names.
-- Assumes nothing.
use mathlib.Core.Path.{◌≡◌}
use mathlib.Core.Bool.{Bool, true}
use mathlib.Core.Option.{none, some}
use mathlib.Core.List.{List, ◌∷◌, [], head?, Memᴰ}
use mathlib.Core.Logic.{◌↔◌}
use Prim.Native.Nat.{ℕ, ◌≤◌, ◌<◌}
use lib.ListN.{length, drop}
use Rattle.paper.specs.Numbers.{report_size}
use Rattle.paper.specs.Calls.{tells}
use Rattle.paper.specs.declared.Refusal.TheVariants.{OverLength}
use Rattle.paper_table.specs.TableNumbers.{most_table, input_table}
use Rattle.paper_table.specs.House.{house_fields, most_deep, table_wrongs, framing_offset}
use Rattle.paper_table.specs.TableSizes.{room_in_table, overs_in, overs, counts_offset}
use Rattle.paper_table.specs.References.{Ref, named, non_null, ref_of}
use Rattle.paper_table.specs.Types.{table_of}
use Rattle.paper_table.specs.SubTypes.{SubType, sub_test}
use Rattle.paper_table.specs.Judging.{Break, breaks, numbers_of, not_after, table_answer, judge, table_number}
use Rattle.paper_table.specs.TableCalls.{tells_table, Checked}
use Rattle.paper_table.specs.declared.TableAnswer.TheVariants.{Accepted, Framing, Breaks}
use Rattle.paper_table.specs.declared.TableAnswer.TheVariants as answers
use Rattle.paper_table.proofs.TableCallsOne as table-calls
use Rattle.paper_table.proofs.JudgingLaws as judging
use Rattle.paper_table.proofs.SubTypesLaws as sub-types
use Rattle.paper_table.proofs.ReferenceTexts.{ref_text, Written}
use Rattle.gateway.proofs.check_table.gw_check_table.Statement as gw-check-table
use Rattle.gateway.proofs.check_table.gw_check_table.Met as gw-check-table-met
use Rattle.claims.proofs.CheckedLaws as checked
use Rattle.claims.proofs.JudgedLaws as judged
use Rattle.claims.proofs.ExactlyLaws as exactly

-- ---- A TYPE TABLE: THE CODE

-- `gw_check_table` meets the contract in `crates/gateway/src/check_table.rt`, which is `Checked`: for every table and report of any length and
-- content it says the answer and every number of the report.
pub gw_check_table_meets : {M : Type 1} → gw-check-table.statement M
gw_check_table_meets = gw-check-table-met.met

-- Two results that satisfy it are equal.
pub gw_check_table_one : {table report report' report'' : List ℕ} {a a' : ℕ} → Checked table report report' a → Checked table report report'' a' → (a ≡ a') × (report' ≡ report'')
gw_check_table_one = table-calls.checked_one

-- Some result satisfies it, whatever the report and the table.
pub gw_check_table_some : (table report : List ℕ) → (report' : List ℕ) × (a : ℕ) × Checked table report report' a
gw_check_table_some = checked.checked_some

-- Success: the table is accepted.
pub table_success : {table report report' : List ℕ} {a : ℕ} → Checked table report report' a → a ≡ 0 → (length table ≤ most_table) × (judge table ≡ Accepted)
table_success = checked.accepts

-- A shorter report is untouched; else it begins with the answer, and beyond its fixed size nothing is written.
pub table_short_report_is_kept : {table report report' : List ℕ} {a : ℕ} → Checked table report report' a → length report < report_size → (a ≡ 1) × (report' ≡ report)
table_short_report_is_kept = checked.short_kept

pub table_report_tells : {table report report' : List ℕ} {a : ℕ} → Checked table report report' a → report_size ≤ length report → (ns : List ℕ) × (report' ≡ a ∷ ns)
table_report_tells = checked.report_tells

pub table_report_tail : {table report report' : List ℕ} {a : ℕ} → Checked table report report' a → (length report' ≡ length report) × (drop report_size report' ≡ drop report_size report)
table_report_tail = checked.report_tail

-- ---- A TYPE TABLE: ACCEPTED EXACTLY WHEN, AND WHICH REFUSAL

-- A table is accepted exactly when its framing is right, no count is over and no rule is broken.
pub table_accepted_exactly : (s : List ℕ) → (judge s ≡ Accepted) ↔ ((framing_offset s ≡ none) × (counts_offset s ≡ none) × (breaks (table_of s) ≡ []))
table_accepted_exactly = judged.accepted_exactly

-- At the level of the call: 0 exactly when the report is lent, the table is short enough, its framing is right, no count is over and no rule is broken.
pub table_call_accepts_exactly : {table report report' : List ℕ} {a : ℕ} → Checked table report report' a →
    (a ≡ 0) ↔ ((report_size ≤ length report) × (length table ≤ most_table) × (framing_offset table ≡ none) × (counts_offset table ≡ none) × (breaks (table_of table) ≡ []))
table_call_accepts_exactly = exactly.checked_exactly

-- What is said of the table is told and shown: 7 with its offset, 8 with its, 9 with the break's five numbers; a table over its length is told as such.
pub table_told : {table report report' : List ℕ} {a : ℕ} → Checked table report report' a → report_size ≤ length report → length table ≤ most_table →
    (a ≡ table_number (judge table)) × (report' ≡ tells_table (judge table) report)
table_told = exactly.checked_tells

pub table_over_length_told : {table report report' : List ℕ} {a : ℕ} → Checked table report report' a → report_size ≤ length report → most_table < length table →
    (a ≡ 2) × (report' ≡ tells (OverLength input_table) report)
table_over_length_told = exactly.checked_long

-- 7 stands at the smallest wrong offset, whatever else is wrong.
pub table_framing_stands : (s : List ℕ) (at : ℕ) →
    (judge s ≡ Framing at) ↔ (Memᴰ at (table_wrongs true (house_fields 0 s)) × ((w : ℕ) → Memᴰ w (table_wrongs true (house_fields 0 s)) → at ≤ w))
table_framing_stands = judged.framing_stands

-- 8 stands, where the framing is right, at the smallest offset of what is over a count, whatever rule is broken.
pub table_too_many_stands : (s : List ℕ) (at : ℕ) →
    (judge s ≡ answers.TooMany at)
    ↔ ((framing_offset s ≡ none) × Memᴰ at (overs_in (overs most_deep) room_in_table (house_fields 0 s)) × ((w : ℕ) → Memᴰ w (overs_in (overs most_deep) room_in_table (house_fields 0 s)) → at ≤ w))
table_too_many_stands = judged.too_many_stands

-- 9 shows, where the framing is right and no count is over, the break that no other is before, by definition, rule, member, part, argument.
pub table_break_least : (s : List ℕ) (i k m p a : ℕ) →
    (judge s ≡ Breaks i k m p a)
    ↔ ((framing_offset s ≡ none) × (counts_offset s ≡ none)
    × ((b : Break) × (numbers_of b ≡ i ∷ k ∷ m ∷ p ∷ a ∷ []) × Memᴰ b (breaks (table_of s)) × ((c : Break) → Memᴰ c (breaks (table_of s)) → not_after (numbers_of b) (numbers_of c) ≡ true)))
table_break_least = judged.breaks_shown

-- 7, 8, 9 in this order, and of each the first that is met from the front of the table on.
pub table_first_told : (s : List ℕ) → length s ≤ most_table →
    judge s ≡ table_answer (head? (table_wrongs true (house_fields 0 s))) (head? (overs_in (overs most_deep) room_in_table (house_fields 0 s))) (head? (breaks (table_of s)))
table_first_told = judging.judge_first

-- ---- TYPE REFERENCES

-- A type reference (field 20) is read exactly: from a text the reference r is read exactly when r is one that the draft writes and the text is r's. The draft writes a name, a list
-- of what it writes, and as non-null what is not so already; the texts are the name, `[..]` and `..!` (`Written` and `ref_text`, in `ReferenceTexts` of `paper_table`).
pub reference_read_exactly : (s : List ℕ) (r : Ref) → (ref_of s ≡ some r) ↔ (Written r × (ref_text r ≡ s))
reference_read_exactly = judged.reference_exactly

-- ---- SUB-TYPES

-- The test is the four clauses.
pub sub_type_exactly : (can : List ℕ → List ℕ → Bool) (r q : Ref) → (sub_test can r q ≡ true) ↔ SubType can r q
sub_type_exactly = judged.sub_type_exactly

-- `B!` is no sub-type of `A!` unless equal.
pub sub_type_non_null : (can : List ℕ → List ℕ → Bool) (a b : List ℕ) → SubType can (non_null (named b)) (non_null (named a)) → b ≡ a
sub_type_non_null = sub-types.sub_type_non_null_is
