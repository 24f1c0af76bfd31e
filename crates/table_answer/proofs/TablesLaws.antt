-- What a table's judging comes to, step by step.
use mathlib.Core.Path.{◌≡◌, refl, sym, ◌∙◌}
use mathlib.Core.Option.{Option, none, some}
use mathlib.Core.List.{List, head?}
use Prim.Native.Nat.{ℕ, zero, suc, ◌≤◌}
use lib.ListN.{length, get_or, replicate, length-replicate}
use Prim.{Unit, tt}
use Rattle.std.specs.Prelude.{Result, Ok, Err}
use Rattle.paper_table.specs.TableNumbers.{most_table}
use Rattle.paper_table.specs.House.{framing_offset}
use Rattle.paper_table.specs.TableSizes.{counts_offset}
use Rattle.paper_table.specs.Types.{table_of}
use Rattle.paper_table.specs.Judging.{judge, table_answer, breaks}
use Rattle.paper_table.specs.declared.TableAnswer.TheVariants.{Framing, TooMany}
use Rattle.paper_table.proofs.TableFits.{judged_first}
use Rattle.table_book.specs.Book.{book_size}
use Rattle.table_types.specs.Booked.{Bookable, Booked}
use Rattle.table_types.proofs.Fitting.{records_few, references_slim, members_fit}
use Rattle.table_possible.specs.Possible.{bits_size, Blank}
use Rattle.table_judge.specs.Schema.{Checkable}
use Rattle.table_framing.specs.Framing.{told}
use Rattle.table_rooms.specs.Rooms.{told_over}
use Rattle.table_answer.specs.Judges.{Judges}

wrong_some : (o : Option ℕ) (at : ℕ) → Err at ≡ told o → o ≡ some at
wrong_some none at e = let z : ◌≡◌ {A = ℕ} 0 1 = cc in absurd (omega native.Mathlib.Omega.arith)
wrong_some (some x) at e = cc

right_none : (o : Option ℕ) → Ok tt ≡ told o → o ≡ none
right_none none e = refl
right_none (some x) e = let z : ◌≡◌ {A = ℕ} 0 1 = cc in absurd (omega native.Mathlib.Omega.arith)

over_some : (o : Option ℕ) (at : ℕ) → Err at ≡ told_over o → o ≡ some at
over_some none at e = let z : ◌≡◌ {A = ℕ} 0 1 = cc in absurd (omega native.Mathlib.Omega.arith)
over_some (some x) at e = cc

within_none : (o : Option ℕ) → Ok tt ≡ told_over o → o ≡ none
within_none none e = refl
within_none (some x) e = let z : ◌≡◌ {A = ℕ} 0 1 = cc in absurd (omega native.Mathlib.Omega.arith)

module _ (s : List ℕ) where
  framing_is : (r : Result (Unit {0}) ℕ) (at : ℕ) → r ≡ told (framing_offset s) → r ≡ Err at → Framing at ≡ judge s
  unfolding judge table_answer
  framing_is r at p q = rw (wrong_some (framing_offset s) at (sym q ∙ p)) refl

  pub framing_wrong : (book : List ℕ) (r : Result (Unit {0}) ℕ) (at : ℕ) → r ≡ told (framing_offset s) → r ≡ Err at → Judges s book (Framing at)
  framing_wrong book r at p q = record { is = framing_is r at p q; booked = λ e. let z : ◌≡◌ {A = ℕ} 0 1 = cc in absurd (omega native.Mathlib.Omega.arith) }

  pub framing_right : (r : Result (Unit {0}) ℕ) → r ≡ told (framing_offset s) → r ≡ Ok tt → framing_offset s ≡ none
  framing_right r p q = right_none (framing_offset s) (sym q ∙ p)

  counts_is : (r : Result (Unit {0}) ℕ) (at : ℕ) → framing_offset s ≡ none → r ≡ told_over (counts_offset s) → r ≡ Err at → TooMany at ≡ judge s
  unfolding judge table_answer
  counts_is r at f p q = rw (f, over_some (counts_offset s) at (sym q ∙ p)) refl

  pub counts_over : (book : List ℕ) (r : Result (Unit {0}) ℕ) (at : ℕ) → framing_offset s ≡ none → r ≡ told_over (counts_offset s) → r ≡ Err at → Judges s book (TooMany at)
  counts_over book r at f p q = record { is = counts_is r at f p q; booked = λ e. let z : ◌≡◌ {A = ℕ} 0 1 = cc in absurd (omega native.Mathlib.Omega.arith) }

  pub counts_within : (r : Result (Unit {0}) ℕ) → r ≡ told_over (counts_offset s) → r ≡ Ok tt → counts_offset s ≡ none
  counts_within r p q = within_none (counts_offset s) (sym q ∙ p)

  pub rules_judge : length s ≤ most_table → framing_offset s ≡ none → counts_offset s ≡ none → table_answer none none (head? (breaks (table_of s))) ≡ judge s
  unfolding judge
  rules_judge h f c = rw (f, c, judged_first s h) refl

-- a table within its sizes has room in a book, and its rules can be judged
module _ (t book : List ℕ) where
  pub bookable : length t ≤ most_table → framing_offset t ≡ none → counts_offset t ≡ none → length book ≡ book_size → Bookable t book
  bookable h f c l = record { short = h; cells = l; few = records_few t f c }

  pub checkable : framing_offset t ≡ none → counts_offset t ≡ none → Booked t book → Checkable t book
  checkable f c b = record { booked = b; slim = references_slim t f c; few = members_fit t f c }

-- no bit of zeros is set
zeros : (n k : ℕ) → get_or {A = ℕ} (replicate n 0) k 0 ≡ 0
zeros zero k = refl
zeros (suc n) zero = refl
zeros (suc n) (suc k) = zeros n k

pub blank : Blank (replicate bits_size 0)
blank = record { size = length-replicate {A = ℕ} bits_size 0; none_set = zeros bits_size }
