-- Flags of variables of which some are like others: how they are likened, judged and settled, one by one.
use mathlib.Core.Path.{◌≡◌, subst, ◌∙◌}
use mathlib.Core.Logic.{⊎_elim}
use mathlib.Core.List.{List}
use Prim.Native.Nat.{ℕ, suc, ◌+◌, ◌-◌, ◌≤◌, ◌<◌}
use native.Mathlib.Decide.{dec_lt, ℕ_discrete}
use native.Mathlib.Omega.{arith}
use lib.ListN.{length, get_or, set, length-set}
use lib.Seq.{get_or-set_same, get_or-set_other}
use borrow.Author.Tests.{lt-ltb, le-ltb}
use Rattle.paper.specs.Numbers.{most_rows, kind_variable}
use Rattle.paper_table.specs.Types.{Table}
use Rattle.paper_query.specs.Constructs.{Doc, count, kind_of}
use Rattle.query_rows.specs.Rowed.{room_of}
use Rattle.query_rows.proofs.Rooms.{room_enough}
use Rattle.query_alike_pair.specs.Alike.{Least, Unlinked}
use Rattle.query_alike.specs.Flags.{Like, Judged, like_first, FlagsTo, LikenedTo, Known, Models, ModelOf, Likened, own_flag}
use Rattle.query_alike.specs.Flags.Likened.{copy, model}
use Rattle.query_alike.proofs.FlagsLaws.{FirstKind, VariableLoop, variables_start, variables_skip, variables_set, variables_end}

-- comparing asks for no links
pub unlinked : {t s rows : List ℕ} {n : ℕ} {first next at es wrappers owner : List ℕ} → Known t s rows n first next at es wrappers owner → Unlinked t s rows n at es wrappers owner
unlinked k = record { rowed = k.rowed; placed = k.placed; owned = k.owned }

module _ (t : Table) (d : Doc) where
  -- a rule is none of the flags that say what a row is like
  pub least_small : (m i f : ℕ) → Least t d m i f → f < like_first
  least_small m i f x = ⊎_elim (λ z. omega arith) (λ y. ⊎_elim (λ z. omega arith) (λ z. omega arith) y) x.known

  judged_own : (m : ℕ) (flag : List ℕ) (i : ℕ) → Least t d m i (get_or flag i 0) → Judged t d m flag i
  judged_own m flag i x = record { own = λ _. x; like = λ h. absurd (omega (arith, least_small m i (get_or flag i 0) x)) }

  -- a row that is like another is so whatever is judged
  judged_like : (m k : ℕ) (flag : List ℕ) (i : ℕ) → like_first ≤ get_or flag i 0 → Judged t d m flag i → Judged t d k flag i
  judged_like m k flag i h x = record { own = λ l. absurd (omega arith); like = x.like }

  -- the flag of row j is written: of another row holds what held, if the rows before it with a flag of their own still have one
  module _ (flag : List ℕ) (j x : ℕ) where
    other : (i : ℕ) → (i ≡ j → ⊥) → get_or (set flag j x) i 0 ≡ get_or flag i 0
    other i z = get_or-set_other flag j i x 0 z

    least_set : (m i : ℕ) → (i ≡ j → ⊥) → Least t d m i (get_or flag i 0) → Least t d m i (get_or (set flag j x) i 0)
    least_set m i z y = rw (other i z) y

    judged_set : (m i : ℕ) → (i ≡ j → ⊥) → ((r : ℕ) → r < i → get_or flag r 0 < like_first → get_or (set flag j x) r 0 < like_first) → Judged t d m flag i → Judged t d m (set flag j x) i
    judged_set m i z w y = record { own = λ h. rw (other i z) (y.own (omega (arith, other i z))); like = λ h. rw (other i z) (like (y.like (omega (arith, other i z)))) }
      where
        like : {r : ℕ} → Like t d flag i r → Like t d (set flag j x) i r
        like {r = r} v = record { before = v.before; variable = v.variable; own = w r v.before v.own; alike = v.alike }

    -- by a flag of its own
    own_still : j < length flag → x < like_first → (r : ℕ) → get_or flag r 0 < like_first → get_or (set flag j x) r 0 < like_first
    own_still l h r y = go (ℕ_discrete r j)
      where
        go : Dec (r ≡ j) → get_or (set flag j x) r 0 < like_first
        go (yes z) = rw (z, get_or-set_same flag j x 0 l) h
        go (no z) = rw (other r z) y

    judged_write : (m i : ℕ) → j < length flag → x < like_first → (i ≡ j → ⊥) → Judged t d m flag i → Judged t d m (set flag j x) i
    judged_write m i l h z y = judged_set m i z (λ r b. own_still l h r) y

    -- by one that is not, after them
    judged_after : (m i : ℕ) → i < j → Judged t d m flag i → Judged t d m (set flag j x) i
    judged_after m i h y = judged_set m i (λ z. omega arith) (λ r b o. rw (other r (λ z. omega arith)) o) y

-- Judging by the operation of row o.
abbrev pub JudgeLoop : Table → Doc → ℕ → ℕ → List ℕ → ℕ → Type 0
JudgeLoop t d g o flag j = VariableLoop (Judged t d (o + 1) flag) (Judged t d o flag) d g flag j

module _ (t : Table) (d : Doc) (g o : ℕ) (flag : List ℕ) where
  pub judge_start : (j : ℕ) → FirstKind d kind_variable 0 j → LikenedTo t d g o flag → JudgeLoop t d g o flag j
  judge_start j n x = variables_start (Judged t d (o + 1) flag) (Judged t d o flag) d g flag j n x

  module _ (j : ℕ) (p : JudgeLoop t d g o flag j) where
    pub judge_left : j < count d → Judged t d o flag j
    judge_left h = (p.flags.variables j (p.at h)).left (omega arith)

    pub judge_skip : (k : ℕ) → j < count d → FirstKind d kind_variable (suc j) k → like_first ≤ get_or flag j 0 → JudgeLoop t d g o flag k
    judge_skip k h n l = variables_skip (Judged t d (o + 1) flag) (Judged t d o flag) d g flag j p k n (judged_like t d o (o + 1) flag j l (judge_left h))

    pub judge_more : (x k : ℕ) → j < count d → count d ≤ most_rows → FirstKind d kind_variable (suc j) k → Least t d (o + 1) j x → JudgeLoop t d g o (set flag j x) k
    judge_more x k h l n c =
        let a : x < like_first = least_small t d (o + 1) j x c in
        let b : j < length flag = omega (arith, p.flags.size, room_enough (count d) l) in
        variables_set (Judged t d (o + 1) flag) (Judged t d o flag) d g flag j p (Judged t d (o + 1) (set flag j x)) (Judged t d o (set flag j x)) x k h n
        (judged_own t d (o + 1) (set flag j x) j (rw (get_or-set_same flag j x 0 b) c))
        (λ i m y. judged_write t d flag j x (o + 1) i b a (λ z. omega arith) y)
        (λ i m y. judged_write t d flag j x o i b a (λ z. omega arith) y)

    pub judge_end : count d ≤ j → LikenedTo t d g (o + 1) flag
    judge_end h = variables_end (Judged t d (o + 1) flag) (Judged t d o flag) d g flag j p h

-- Settling.
abbrev pub SettleLoop : Table → Doc → ℕ → ℕ → List ℕ → ℕ → Type 0
SettleLoop t d g m flag j = VariableLoop (λ i. Least t d m i (get_or flag i 0)) (Judged t d m flag) d g flag j

pub own_small : (flag : List ℕ) (i : ℕ) → get_or flag i 0 < like_first → own_flag flag i ≡ get_or flag i 0
unfolding own_flag
own_small flag i h = rw (lt-ltb (get_or flag i 0) like_first h)

pub own_large : (flag : List ℕ) (i : ℕ) → like_first ≤ get_or flag i 0 → own_flag flag i ≡ get_or flag (get_or flag i 0 - like_first) 0
unfolding own_flag
own_large flag i h = rw (le-ltb (get_or flag i 0) like_first h)

module _ (t : Table) (d : Doc) (g m : ℕ) (flag : List ℕ) where
  abbrev D : ℕ → Type 0
  D i = Least t d m i (get_or flag i 0)

  pub settle_start : (j : ℕ) → FirstKind d kind_variable 0 j → LikenedTo t d g m flag → SettleLoop t d g m flag j
  settle_start j n x = variables_start D (Judged t d m flag) d g flag j n x

  module _ (j : ℕ) (p : SettleLoop t d g m flag j) where
    settle_left : j < count d → Judged t d m flag j
    settle_left h = (p.flags.variables j (p.at h)).left (omega arith)

    -- the row that it is like stands before it, and has its flag
    pub settle_before : j < count d → like_first ≤ get_or flag j 0 → get_or flag j 0 - like_first < j
    settle_before h l = ((settle_left h).like l).before

    settle_least : j < count d → Least t d m j (own_flag flag j)
    settle_least h = go (dec_lt (get_or flag j 0) like_first)
      where
        go : Dec (get_or flag j 0 < like_first) → Least t d m j (own_flag flag j)
        go (yes l) = rw (own_small flag j l) ((settle_left h).own l)
        go (no l) =
            let y : Like t d flag j (get_or flag j 0 - like_first) = (settle_left h).like (omega arith) in
            rw (own_large flag j (omega arith)) (y.alike m (get_or flag (get_or flag j 0 - like_first) 0) ((p.flags.variables (get_or flag j 0 - like_first) y.variable).done y.before))

    pub settle_more : (x k : ℕ) → j < count d → count d ≤ most_rows → FirstKind d kind_variable (suc j) k → x ≡ own_flag flag j → SettleLoop t d g m (set flag j x) k
    settle_more x k h l n e =
        let c : Least t d m j x = rw e (settle_least h) in
        let a : x < like_first = least_small t d m j x c in
        let b : j < length flag = omega (arith, p.flags.size, room_enough (count d) l) in
        variables_set D (Judged t d m flag) d g flag j p (λ i. Least t d m i (get_or (set flag j x) i 0)) (Judged t d m (set flag j x)) x k h n
        (rw (get_or-set_same flag j x 0 b) c)
        (λ i w y. least_set t d flag j x m i (λ z. omega arith) y)
        (λ i w y. judged_write t d flag j x m i b a (λ z. omega arith) y)

    pub settle_end : count d ≤ j → FlagsTo t d g m flag
    settle_end h = variables_end D (Judged t d m flag) d g flag j p h

-- Likening: of variables before row j the first m of the stack have a flag of their own
pub record LikenLoop (t : Table) (d : Doc) (g : ℕ) (stack flag : List ℕ) (m j : ℕ) : Type 0 where
  pub loop : VariableLoop (Judged t d 0 flag) (λ i. Least t d 0 i (get_or flag i 0)) d g flag j
  pub models : Models d stack m j
  pub own : (k : ℕ) → k < m → get_or flag (get_or stack k 0) 0 < like_first

module _ (t : Table) (d : Doc) (g : ℕ) where
  pub liken_start : (stack flag : List ℕ) (j : ℕ) → FirstKind d kind_variable 0 j → length stack ≡ room_of (count d) → FlagsTo t d g 0 flag → LikenLoop t d g stack flag 0 j
  liken_start stack flag j n l x = record {
    loop = variables_start (Judged t d 0 flag) (λ i. Least t d 0 i (get_or flag i 0)) d g flag j n x;
    models = record { size = l; few = omega arith; variables = λ k h. absurd (omega arith); before = λ k h. absurd (omega arith) };
    own = λ k h. absurd (omega arith);
  }

  module _ (stack flag : List ℕ) (m j : ℕ) (p : LikenLoop t d g stack flag m j) (h : j < count d) (l : count d ≤ most_rows) where
    mine : Least t d 0 j (get_or flag j 0)
    mine = (p.loop.flags.variables j (p.loop.at h)).left (omega arith)

    models_up : (k : ℕ) → j < k → Models d stack m k
    models_up k a = record { size = p.models.size; few = omega (arith, p.models.few); variables = p.models.variables; before = λ r b. omega (arith, p.models.before r b) }

    copied : (r k : ℕ) → ModelOf t d stack m j r → FirstKind d kind_variable (suc j) k → LikenLoop t d g stack (set flag j (like_first + r)) m k
    copied r k y n = record {
      loop =
          variables_set (Judged t d 0 flag) (λ i. Least t d 0 i (get_or flag i 0)) d g flag j p.loop (Judged t d 0 (set flag j (like_first + r))) (λ i. Least t d 0 i (get_or (set flag j (like_first + r)) i 0)) (like_first + r) k h n
          (record { own = λ a. absurd (omega (arith, here)); like = λ a. rw (here, back) like })
          (λ i a b. judged_after t d flag j (like_first + r) 0 i a b)
          (λ i a b. least_set t d flag j (like_first + r) 0 i (λ z. omega arith) b);
      models = models_up k n.from;
      own = λ q a. still (get_or stack q 0) (p.models.before q a) (p.own q a);
    }
      where
        here : get_or (set flag j (like_first + r)) j 0 ≡ like_first + r
        here = get_or-set_same flag j (like_first + r) 0 (omega (arith, p.loop.flags.size, room_enough (count d) l))

        back : (like_first + r) - like_first ≡ r
        back = omega arith

        still : (q : ℕ) → q < j → get_or flag q 0 < like_first → get_or (set flag j (like_first + r)) q 0 < like_first
        still q a b = rw (get_or-set_other flag j q (like_first + r) 0 (λ z. omega arith)) b

        like : Like t d (set flag j (like_first + r)) j r
        like = subst (λ (q : ℕ). Like t d (set flag j (like_first + r)) j q) y.waits.is (record {
          before = p.models.before y.waits.at y.waits.below;
          variable = p.models.variables y.waits.at y.waits.below;
          own = still (get_or stack y.waits.at 0) (p.models.before y.waits.at y.waits.below) (p.own y.waits.at y.waits.below);
          alike = rw y.waits.is y.alike;
        })

    stacked : (k : ℕ) → FirstKind d kind_variable (suc j) k → LikenLoop t d g (set stack m j) flag (m + 1) k
    stacked k n = record {
      loop = variables_skip (Judged t d 0 flag) (λ i. Least t d 0 i (get_or flag i 0)) d g flag j p.loop k n (judged_own t d 0 flag j mine);
      models = record {
        size = length-set stack m j ∙ p.models.size;
        few = omega (arith, p.models.few, n.from);
        variables = λ q a. each (λ r. kind_of d r ≡ kind_variable) (p.loop.at h) p.models.variables q a;
        before = λ q a. each (λ r. r < k) n.from (λ r b. omega (arith, n.from, p.models.before r b)) q a;
      };
      own = λ q a. each (λ r. get_or flag r 0 < like_first) (least_small t d 0 j (get_or flag j 0) mine) p.own q a;
    }
      where
        each : (P : ℕ → Type 0) → P j → ((q : ℕ) → q < m → P (get_or stack q 0)) → (q : ℕ) → q < m + 1 → P (get_or (set stack m j) q 0)
        each P x y q a = go (ℕ_discrete q m)
          where
            go : Dec (q ≡ m) → P (get_or (set stack m j) q 0)
            go (yes z) = rw (z, get_or-set_same stack m j 0 (omega (arith, p.models.few, p.models.size, room_enough (count d) l))) x
            go (no z) = rw (get_or-set_other stack m q j 0 z) (y q (omega arith))

    pub liken_more : {stack' flag' : List ℕ} {m' : ℕ} (k : ℕ) → FirstKind d kind_variable (suc j) k → Likened t d j stack flag m stack' flag' m' → LikenLoop t d g stack' flag' m' k
    liken_more k n (copy r y) = copied r k y n
    liken_more k n model = stacked k n

  pub liken_end : (stack flag : List ℕ) (m j : ℕ) → LikenLoop t d g stack flag m j → count d ≤ j → LikenedTo t d g 0 flag
  liken_end stack flag m j p h = variables_end (Judged t d 0 flag) (λ i. Least t d 0 i (get_or flag i 0)) d g flag j p.loop h
