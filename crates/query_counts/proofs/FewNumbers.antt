-- A plan's numbers of variables and fragments stay below 64, where the document was read.
use mathlib.Core.Path.{◌≡◌, refl, sym, ap, ◌∙◌}
use mathlib.Core.Bool.{Bool, true, false, ◌&&◌, ◌||◌}
use mathlib.Core.List.{List, [], ◌∷◌, ◌++◌}
use Prim.Native.Nat.{ℕ, ◌+◌, ◌<◌}
use native.Mathlib.Omega.{arith}
use Rattle.paper.specs.Numbers.{most_fragments, most_variables, kind_fragment, kind_variable_definition}
use Rattle.paper.specs.Language.{Document}
use Rattle.paper.specs.Tokens.{Text}
use Rattle.paper.specs.Rows.{Row}
use Rattle.paper.specs.Reading.{rows_are, TextAnswer}
use Rattle.paper_table.specs.Lists.{any_of, first_at, gather, only_if}
use Rattle.paper_query.specs.Constructs.{Doc, is, below, called, has_fragment}
use Rattle.paper_query.specs.Rule10Undefined.{defines}
use Rattle.paper_query.specs.DocumentCalls.{read}
use Rattle.query_rows.specs.Rowed.{doc_of}
use Rattle.query_rows.proofs.ReadRows.{Taken}
use Rattle.paper_plan.specs.Selecting.{Name, rows_where, fragment_number, variable_number}
use Rattle.query_counts.specs.FewDefinitions.{FewDefinitions}
use Rattle.query_counts.proofs.Tallies.{one, tally, numbers_tally}
use Rattle.query_counts.proofs.Standing.{defining}
use Rattle.query_counts.proofs.FewRows.{said_few, taken_few}

-- the place of the first that passes q among those that pass p, where one passes both
module _ (p q w : Row → Bool) (g : (r : Row) → w r ≡ p r && q r) where
  first_below_is : (rs : List Row) → any_of w rs ≡ true → first_at q (gather (λ r. only_if (p r) r) rs) < tally p rs
  unfolding any_of first_at gather tally
  first_below_is [] h = let z : ◌≡◌ {A = ℕ} 0 1 = ap (λ (b : Bool). one b) h in absurd (omega arith)
  first_below_is (r ∷ rs) h = go (p r) (q r) refl (ap (λ (b : Bool). b || any_of w rs) (sym (g r)) ∙ h) (first_below_is rs)
    where
      go : (b c : Bool) → q r ≡ c → (b && c) || any_of w rs ≡ true → (any_of w rs ≡ true → first_at q (gather (λ r. only_if (p r) r) rs) < tally p rs) →
          first_at q (only_if b r ++ gather (λ r. only_if (p r) r) rs) < one b + tally p rs
      go true true e i f = rw e (omega arith)
      go true false e i f = let l = f i in rw e (omega arith)
      go false c e i f = let l = f i in omega arith

and_assoc : (a b c : Bool) → a && (b && c) ≡ (a && b) && c
and_assoc true b c = refl
and_assoc false b c = refl

module _ (d : Doc) (few : FewDefinitions d) where
  pub variable_below : (op : ℕ) (x : Name) → defines d op x ≡ true → variable_number d op x < most_variables
  unfolding defines rows_where
  variable_below op x h =
      let l = few.variables op in
      let n = numbers_tally (defining op) d in
      let m = first_below_is (defining op) (called d x) (λ r. is kind_variable_definition r && (below op r && called d x r)) (λ r. and_assoc (is kind_variable_definition r) (below op r) (called d x r)) d.rows h in
      omega arith

  pub fragment_below : (f : Name) → has_fragment d f ≡ true → fragment_number d f < most_fragments
  unfolding has_fragment rows_where
  fragment_below f h =
      let l = few.fragments in
      let n = numbers_tally (is kind_fragment) d in
      let m = first_below_is (is kind_fragment) (called d f) (λ r. is kind_fragment r && called d f r) (λ r. refl) d.rows h in
      omega arith

-- of the rows that a document is said to have
pub said_variable : {t : Text} {rs : List Row} → TextAnswer Document t (rows_are rs) → (document : List ℕ) (op : ℕ) (x : Name) → defines (read document rs) op x ≡ true → variable_number (read document rs) op x < most_variables
said_variable {rs = rs} s document = variable_below (read document rs) (said_few s document)

pub said_fragment : {t : Text} {rs : List Row} → TextAnswer Document t (rows_are rs) → (document : List ℕ) (f : Name) → has_fragment (read document rs) f ≡ true → fragment_number (read document rs) f < most_fragments
said_fragment {rs = rs} s document = fragment_below (read document rs) (said_few s document)

-- of those that the reader leaves
pub taken_variable : (s rows : List ℕ) (n : ℕ) → Taken Document s rows n → (op : ℕ) (x : Name) → defines (doc_of s rows n) op x ≡ true → variable_number (doc_of s rows n) op x < most_variables
taken_variable s rows n t = variable_below (doc_of s rows n) (taken_few s rows n t)

pub taken_fragment : (s rows : List ℕ) (n : ℕ) → Taken Document s rows n → (f : Name) → has_fragment (doc_of s rows n) f ≡ true → fragment_number (doc_of s rows n) f < most_fragments
taken_fragment s rows n t = fragment_below (doc_of s rows n) (taken_few s rows n t)
