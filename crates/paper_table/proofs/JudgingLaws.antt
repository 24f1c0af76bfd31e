-- What each answer to a table means: accepted exactly where framing is right, no count is over and no rule is broken; and which break is shown.
use mathlib.Core.Path.{◌≡◌, refl, sym, ap}
use mathlib.Core.Logic.{◌↔◌}
use mathlib.Core.Bool.{true}
use mathlib.Core.Option.{Option, none, some}
use mathlib.Core.List.{List, [], head?, Memᴰ}
use Prim.Native.Nat.{ℕ, ◌<◌, ◌≤◌}
use native.Mathlib.Omega.{arith}
use lib.ListN.{length}
use Rattle.paper_table.specs.TableNumbers.{most_table}
use Rattle.paper_table.specs.House.{framing_offset, house_fields, table_wrongs, most_deep}
use Rattle.paper_table.specs.TableSizes.{counts_offset, room_in_table, overs_in, overs}
use Rattle.paper_table.specs.Types.{Table, table_of}
use Rattle.paper_table.specs.Judging.{Numbered, rules, Break, breaks, numbers_of, least_break, table_answer, judge}
use Rattle.paper_table.specs.declared.TableAnswer.{TableAnswer}
use Rattle.paper_table.specs.declared.TableAnswer.TheVariants.{Accepted, Framing, TooMany, Breaks}
use Rattle.paper_table.proofs.Before.{Before}
use Rattle.paper_table.proofs.LeastLaws.{least_member, least_least, least_none, least_nil}
use Rattle.paper_table.proofs.Rising.{framing_first, counts_first}
use Rattle.paper_table.proofs.TableFits.{judged_first}
use Rattle.paper_table.proofs.Walk.{definition_at}
use Rattle.paper_table.proofs.BreaksLaws.{Broken, breaks_sound, breaks_complete, breaks_none, breaks_nil, rule_kept}

-- For the code: the answer by the first wrong offset, the first over a size, the first break.
pub judge_first : (s : List ℕ) → length s ≤ most_table
    → judge s ≡ table_answer (head? (table_wrongs true (house_fields 0 s))) (head? (overs_in (overs most_deep) room_in_table (house_fields 0 s))) (head? (breaks (table_of s)))
unfolding judge
judge_first s h = rw (framing_first s, counts_first s, judged_first s h)

-- Which answers are which.
abbrev kind_of : TableAnswer → ℕ
kind_of Accepted = 0
kind_of (Framing at) = 1
kind_of (TooMany at) = 2
kind_of (Breaks i k m p a) = 3

clash : {a b : TableAnswer} → a ≡ b → (kind_of a ≡ kind_of b → ⊥) → ⊥
clash e f = f (ap kind_of e)

-- 7 stands exactly at the smallest wrong offset
pub judge_framing : (s : List ℕ) (at : ℕ) → (judge s ≡ Framing at) ↔ (framing_offset s ≡ some at)
unfolding judge table_answer
judge_framing s at = (to (framing_offset s) (counts_offset s) (least_break (breaks (table_of s))), λ e. rw e)
  where
    to : (f c : Option ℕ) (b : Option Break) → table_answer f c b ≡ Framing at → f ≡ some at
    to (some w) c b e = cc
    to none (some w) b e = absurd (clash e (omega arith))
    to none none (some x) e = absurd (clash e (omega arith))
    to none none none e = absurd (clash e (omega arith))

-- 8, where framing is right, exactly at the first over a size
pub judge_too_many : (s : List ℕ) (at : ℕ) → (judge s ≡ TooMany at) ↔ ((framing_offset s ≡ none) × (counts_offset s ≡ some at))
unfolding judge table_answer
judge_too_many s at = (to (framing_offset s) (counts_offset s) (least_break (breaks (table_of s))), λ e. let f = e.0 in let c = e.1 in rw (f, c))
  where
    to : (f c : Option ℕ) (b : Option Break) → table_answer f c b ≡ TooMany at → (f ≡ none) × (c ≡ some at)
    to (some w) c b e = absurd (clash e (omega arith))
    to none (some w) b e = (refl, cc)
    to none none (some x) e = absurd (clash e (omega arith))
    to none none none e = absurd (clash e (omega arith))

-- accepted exactly where framing is right, no count is over, and no rule is broken
pub judge_accepted : (s : List ℕ) → (judge s ≡ Accepted) ↔ ((framing_offset s ≡ none) × (counts_offset s ≡ none) × ((b : Break) → Broken (table_of s) b → ⊥))
unfolding judge table_answer
judge_accepted s = (λ e. let q = to (framing_offset s) (counts_offset s) (least_break (breaks (table_of s))) e in (q.0, q.1, breaks_none (table_of s) (least_none (breaks (table_of s)) q.2)), from)
  where
    to : (f c : Option ℕ) (b : Option Break) → table_answer f c b ≡ Accepted → (f ≡ none) × (c ≡ none) × (b ≡ none)
    to (some w) c b e = absurd (clash e (omega arith))
    to none (some w) b e = absurd (clash e (omega arith))
    to none none (some x) e = absurd (clash e (omega arith))
    to none none none e = (refl, refl, refl)

    from : (framing_offset s ≡ none) × (counts_offset s ≡ none) × ((b : Break) → Broken (table_of s) b → ⊥) → table_answer (framing_offset s) (counts_offset s) (least_break (breaks (table_of s))) ≡ Accepted
    from q = rw (q.0, q.1, breaks_nil (table_of s) q.2, least_nil)

-- of an accepted table each rule's places are none
pub accepted_kept : (s : List ℕ) → judge s ≡ Accepted → (i : ℕ) → i < length (table_of s) → (n : Numbered) → Memᴰ n rules → n.rule (table_of s) i (definition_at (table_of s) i) ≡ []
accepted_kept s e = rule_kept (table_of s) (breaks_nil (table_of s) ((judge_accepted s).0 e).2)

-- the numbers of a break, as the answer shows them
abbrev pub shown_as : Break → TableAnswer
shown_as b = Breaks b.definition b.rule b.place.member b.place.part b.place.argument

-- 9 shows a broken rule with its place, and none that is broken is before it
pub record Shown (t : Table) (a : TableAnswer) : Type 0 where
  pub least : Break
  pub shows : a ≡ shown_as least
  pub broken : Broken t least
  pub first : (c : Break) → Broken t c → Before (numbers_of least) (numbers_of c)

pub judge_breaks : (s : List ℕ) (i k m p a : ℕ) → judge s ≡ Breaks i k m p a → (framing_offset s ≡ none) × (counts_offset s ≡ none) × Shown (table_of s) (Breaks i k m p a)
unfolding judge table_answer
judge_breaks s i k m p a e = go (framing_offset s) (counts_offset s) (least_break (breaks (table_of s))) refl e
  where
    go : (f c : Option ℕ) (o : Option Break) → least_break (breaks (table_of s)) ≡ o → table_answer f c o ≡ Breaks i k m p a → (f ≡ none) × (c ≡ none) × Shown (table_of s) (Breaks i k m p a)
    go (some w) c o q e = absurd (clash e (omega arith))
    go none (some w) o q e = absurd (clash e (omega arith))
    go none none (some b) q e = (
      refl,
      refl,
      record {
        least = b;
        shows = sym e;
        broken = breaks_sound (table_of s) b (least_member (breaks (table_of s)) b q);
        first = λ c k. least_least (breaks (table_of s)) b q c (breaks_complete (table_of s) c k);
      },
    )
    go none none none q e = absurd (clash e (omega arith))
