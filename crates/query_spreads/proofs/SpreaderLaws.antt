-- The definition that a row spreads a fragment in: its owner, if it is a spread.
use mathlib.Core.Path.{◌≡◌, refl}
use mathlib.Core.Bool.{true}
use Prim.Native.Nat.{ℕ, ◌<◌, ◌≤◌}
use native.Mathlib.Omega.{arith}
use lib.Dec.{eqb→eq}
use borrow.Author.Tests.{eq-eqb}
use Rattle.paper.specs.Numbers.{most_rows, no_parent, kind_spread}
use Rattle.paper_query.specs.Constructs.{Doc, count, is, row_of, kind_of}
use Rattle.query_spreads.specs.Owners.{Owner}
use Rattle.query_spreads.specs.Spreads.{IsSpread, Spreader}
use Rattle.query_spreads.proofs.OwnerLaws.{row_within, definition_within}

pub spread_is : (d : Doc) (s : ℕ) → kind_of d s ≡ kind_spread → IsSpread d s
spread_is d s e = rw e tt

pub spread_true : (d : Doc) (s : ℕ) → IsSpread d s → is kind_spread (row_of d s) ≡ true
spread_true d s h = eq-eqb (kind_of d s) kind_spread (eqb→eq (kind_of d s) kind_spread h)

pub spread_within : (d : Doc) (s : ℕ) → IsSpread d s → s < count d
spread_within d s h = row_within d (is kind_spread) s refl h

pub spreader_owner : (d : Doc) (s o : ℕ) → IsSpread d s → Owner d s o → Spreader d s o
spreader_owner d s o i w = record {
  most = w.most;
  stands = λ h. record { spread = i; within = w.stands (definition_within d o h) };
  sole = λ a h x. w.sole a h x.within;
}

pub spreader_none : (d : Doc) (s : ℕ) → count d ≤ most_rows → (kind_of d s ≡ kind_spread → ⊥) → Spreader d s no_parent
spreader_none d s m n = record {
  most = omega arith;
  stands = λ h. absurd (omega (arith, definition_within d no_parent h));
  sole = λ a h x. absurd (n (eqb→eq (kind_of d s) kind_spread x.spread));
}
