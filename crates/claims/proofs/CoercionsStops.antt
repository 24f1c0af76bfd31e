-- What opening an operation shows where it stops, beside what the coercing calls show; and a result, by its length.
use mathlib.Core.Path.{◌≡◌, refl}
use mathlib.Core.Bool.{Bool, true, false, cond}
use mathlib.Core.Option.{none}
use mathlib.Core.List.{List, []}
use Prim.Native.Nat.{ℕ, ◌≤◌, ◌<◌}
use native.Mathlib.Omega.{arith}
use lib.Dec.{leb}
use lib.ListN.{length}
use borrow.Author.Tests.{leb-true, leb-false, le-leb, lt-leb}
use Rattle.paper.specs.Rows.{Row}
use Rattle.paper.specs.Refusals.{number_of, shown_of}
use Rattle.paper.specs.declared.Refusal.{Refusal}
use Rattle.paper.specs.declared.Refusal.TheVariants.{Buffer, OverLength, NoToken, NoGoing, TooDeep, TooManyRows, TooMany}
use Rattle.paper_table.specs.Judging.{table_number, table_shown}
use Rattle.paper_table.specs.declared.TableAnswer.{TableAnswer}
use Rattle.paper_table.specs.declared.TableAnswer.TheVariants as answers
use Rattle.paper_query.specs.DocumentCalls.{read}
use Rattle.paper_query.specs.Opening.{AcceptedDocument, operation_meant, Outcome, stops, opens, Opened, table_refused, text_refused, rule_broken, no_operation, opened}
use Rattle.paper_values.specs.ValueNumbers.{most_coerced}
use Rattle.paper_values.specs.Values.{At, Tree, Got}
use Rattle.paper_values.specs.Encoding.{encode}
use Rattle.paper_values.specs.ValueCalls.{ends, yields, ended}
use Rattle.claims.proofs.BuffersLaws.{said_number}
use Rattle.claims.proofs.CoercionsLaws.{Ends, long, fits, Stopped}

-- ---- what opening shows where it stops

table_stops : (a : TableAnswer) → (a ≡ answers.Accepted → ⊥) → Stopped (table_number a) (table_shown a)
table_stops answers.Accepted n = absurd (n refl)
table_stops (answers.Framing at) n = (omega arith, λ q. omega (arith, q), λ q. omega (arith, q), omega arith, λ l. absurd (omega (arith, l)))
table_stops (answers.TooMany at) n = (omega arith, λ q. omega (arith, q), λ q. omega (arith, q), omega arith, λ l. absurd (omega (arith, l)))
table_stops (answers.Breaks i k m p a) n = (omega arith, λ q. omega (arith, q), λ q. omega (arith, q), omega arith, λ l. absurd (omega (arith, l)))

text_stops : (r : Refusal) → 2 < number_of r → Stopped (number_of r) (shown_of r)
text_stops Buffer h = absurd (omega (arith, h))
text_stops (OverLength input) h = absurd (omega (arith, h))
text_stops (NoToken at) h = (h, λ q. omega (arith, q), λ q. omega (arith, q), omega arith, λ l old. refl)
text_stops (NoGoing at) h = (h, λ q. omega (arith, q), λ q. omega (arith, q), omega arith, λ l old. refl)
text_stops (TooDeep at) h = (h, λ q. omega (arith, q), λ q. omega (arith, q), omega arith, λ l old. refl)
text_stops (TooManyRows at) h = (h, λ q. omega (arith, q), λ q. omega (arith, q), omega arith, λ l old. refl)
text_stops (TooMany at) h = (h, λ q. omega (arith, q), λ q. omega (arith, q), omega arith, λ l. absurd (omega (arith, l)))

abbrev StopFacts : Outcome → Type 0
StopFacts (stops k shown) = Stopped k shown
StopFacts (opens rs op) = Unit

pub opening_stops : {table document name : List ℕ} {o : Outcome} → Opened table document name o → StopFacts o
opening_stops (table_refused {a} j n) = table_stops a n
opening_stops (text_refused {r = r} j k s) = text_stops r (said_number s)
opening_stops (rule_broken j k s q) = (omega arith, λ q. omega (arith, q), λ q. omega (arith, q), omega arith, λ l. absurd (omega (arith, l)))
opening_stops (no_operation a e) = (omega arith, λ q. omega (arith, q), λ q. omega (arith, q), omega arith, λ l. absurd (omega (arith, l)))
opening_stops (opened a e) = tt

-- 12 is for no operation of the name alone
abbrev pub Unnamed : (table document name : List ℕ) → Type 0
Unnamed table document name = (rs : List Row) × AcceptedDocument table document rs × (operation_meant (read document rs) name ≡ none)

abbrev UnnamedIf : (table document name : List ℕ) → Outcome → Type 0
UnnamedIf table document name (stops k shown) = k ≡ 12 → Unnamed table document name
UnnamedIf table document name (opens rs op) = Unit

table_not_12 : (a : TableAnswer) → table_number a ≡ 12 → ⊥
table_not_12 answers.Accepted q = omega (arith, q)
table_not_12 (answers.Framing at) q = omega (arith, q)
table_not_12 (answers.TooMany at) q = omega (arith, q)
table_not_12 (answers.Breaks i k m p a) q = omega (arith, q)

text_not_12 : (r : Refusal) → number_of r ≡ 12 → ⊥
text_not_12 Buffer q = omega (arith, q)
text_not_12 (OverLength input) q = omega (arith, q)
text_not_12 (NoToken at) q = omega (arith, q)
text_not_12 (NoGoing at) q = omega (arith, q)
text_not_12 (TooDeep at) q = omega (arith, q)
text_not_12 (TooManyRows at) q = omega (arith, q)
text_not_12 (TooMany at) q = omega (arith, q)

pub unnamed_if : {table document name : List ℕ} {o : Outcome} → Opened table document name o → UnnamedIf table document name o
unnamed_if (table_refused {a} j n) = λ q. absurd (table_not_12 a q)
unnamed_if (text_refused {r = r} j k s) = λ q. absurd (text_not_12 r q)
unnamed_if (rule_broken j k s q) = λ z. absurd (omega (arith, z))
unnamed_if (no_operation {rs} a e) = λ z. (rs, a, e)
unnamed_if (opened a e) = tt

-- ---- a result, by its length

pub ended_long : (t : Tree) → most_coerced < length (encode t) → ended (Got t) ≡ ends 16 []
ended_long t l = rw (lt-leb (length (encode t)) most_coerced l) refl

pub ended_fits : (t : Tree) → length (encode t) ≤ most_coerced → ended (Got t) ≡ yields (encode t)
ended_fits t l = rw (le-leb (length (encode t)) most_coerced l) refl

module _ (Stops : ℕ → List ℕ → Type 0) (Unread : Refusal → Type 0) (Wrong : At → ℕ → Type 0) (Gives : Tree → Type 0) where
  pub by_length : (t : Tree) → Gives t → Ends Stops Unread Wrong Gives (ended (Got t))
  by_length t g = go (leb (length (encode t)) most_coerced) refl
    where
      go : (b : Bool) → leb (length (encode t)) most_coerced ≡ b → Ends Stops Unread Wrong Gives (cond b (yields (encode t)) (ends 16 []))
      go true q = fits t g (leb-true (length (encode t)) most_coerced q)
      go false q = long t g (leb-false (length (encode t)) most_coerced q)
