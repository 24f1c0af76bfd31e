-- Sub-types.
-- States: 01, "The type table": "Sub-type is 001's four clauses: equal; an object that an interface or union can be; list of a sub-type; Non-Null of a sub-type."
-- Assumes nothing.
use Rattle.std.specs.Prelude.{◌≡◌, Bool, true, false, ◌||◌, List, ℕ}
use Rattle.paper.specs.Tokens.{same}
use Rattle.paper_table.specs.References.{Ref, named, list_of, non_null, same_ref}

-- `SubType can r s`: r is a sub-type of s, where `can a o` says that the interface or union a can be the object o
pub data SubType (can : List ℕ → List ℕ → Bool) : Ref → Ref → Type 0 where
  equal : {r : Ref} → SubType can r r
  object_of : {o a : List ℕ} → can a o ≡ true → SubType can (named o) (named a)
  by_list_of : {r s : Ref} → SubType can r s → SubType can (list_of r) (list_of s)
  by_non_null : {r s : Ref} → SubType can r s → SubType can (non_null r) s

-- The test, which goes by the first reference's wrappers; that it decides `SubType` is proved (`sub_test_sound`, `sub_test_complete`).
unfoldable pub sub_test : (List ℕ → List ℕ → Bool) → Ref → Ref → Bool
sub_test can (named o) (named a) = same o a || can a o
sub_test can (named o) (list_of s) = false
sub_test can (named o) (non_null s) = false
sub_test can (list_of r) (named a) = false
sub_test can (list_of r) (list_of s) = sub_test can r s
sub_test can (list_of r) (non_null s) = false
sub_test can (non_null r) (named a) = sub_test can r (named a)
sub_test can (non_null r) (list_of s) = sub_test can r (list_of s)
sub_test can (non_null r) (non_null s) = same_ref r s || sub_test can r (non_null s)
