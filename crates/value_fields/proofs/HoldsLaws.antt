-- Where a field's arguments stand, by its content; and that each has at most seven wrappers.
use mathlib.Core.Path.{◌≡◌, refl, sym, ap, ◌∙◌}
use mathlib.Core.Bool.{Bool, true, false, cond, true≢false}
use mathlib.Core.Option.{Option, none, some}
use mathlib.Core.List.{List, [], ◌∷◌, map}
use Prim.Native.Nat.{ℕ, zero, suc, ◌<◌}
use native.Mathlib.Decide.{dec_lt}
use native.Mathlib.Omega.{arith}
use lib.ListN.{length, get_or-eq_default}
use Rattle.paper_table.specs.TableNumbers.{tag_field}
use Rattle.paper_table.specs.Lists.{all_of, find, gather}
use Rattle.paper_table.specs.House.{house_fields_from}
use Rattle.paper_table.specs.Types.{Argument, Member, table_of, is_union, blank_definition, tag_nothing, member_named}
use Rattle.paper_query.specs.Constructs.{Doc, name_of}
use Rattle.paper_query.specs.Enclosing.{FieldIs, typename, member, missing, unknown, definition_at, is_typename, field_of, or_missing, field_named, enclosing, field_at}
use Rattle.table_members.specs.Members.{arguments_in, field_from}
use Rattle.table_members.proofs.MemberLaws.{field_is}
use Rattle.table_types.specs.Sizes.{slim_member, slim_definition, Slim}
use Rattle.table_types.proofs.SlimLaws.{all_at, all_found, slim_arguments}
use Rattle.paper_values.specs.Values.{Due}
use Rattle.paper_values.specs.Kinds.{due_argument}
use Rattle.paper_values.specs.DocumentDues.{argument_dues}
use Rattle.value_fields.specs.Wants.{Known, Contains, Holds}

each_due : (xs : List Argument) → gather (λ a. due_argument a ∷ []) xs ≡ map due_argument xs
unfolding gather
each_due [] = refl
each_due (x ∷ xs) = ap (λ (l : List Due). due_argument x ∷ l) (each_due xs)

-- an empty content has no arguments
no_arguments : (t : List ℕ) → arguments_in t 0 0 ≡ []
unfolding gather house_fields_from
no_arguments t = refl

-- a field that is known is a member, of few wrappers
module _ (t : List ℕ) (s : Slim (table_of t)) where
  slim_at : (k : ℕ) → all_of slim_member (definition_at (table_of t) k).members ≡ true
  unfolding all_of
  slim_at k = go (dec_lt k (length (table_of t)))
    where
      go : Dec (k < length (table_of t)) → slim_definition (definition_at (table_of t) k) ≡ true
      go (yes h) = all_at slim_definition (table_of t) k (blank_definition tag_nothing) h s
      go (no h) = ap slim_definition (get_or-eq_default (table_of t) (blank_definition tag_nothing) (omega arith))

  found_slim : (k : ℕ) (n : List ℕ) (m : Member) → field_of (table_of t) k n ≡ some m → slim_member m ≡ true
  unfolding field_of
  found_slim k n m e = go (is_union (definition_at (table_of t) k)) e
    where
      go : (b : Bool) → cond b none (find (member_named n) (definition_at (table_of t) k).members) ≡ some m → slim_member m ≡ true
      go true q = let z : ◌≡◌ {A = Option Member} none (some m) = q in let y : true ≡ false = cc in absurd (true≢false y)
      go false q = all_found slim_member (member_named n) (definition_at (table_of t) k).members m q (slim_at k)

  missing_slim : (o : Option Member) (m : Member) → ((x : Member) → o ≡ some x → slim_member x ≡ true) → or_missing o ≡ member m → slim_member m ≡ true
  missing_slim none m f e = let z : ◌≡◌ {A = FieldIs} missing (member m) = e in let y : true ≡ false = cc in absurd (true≢false y)
  missing_slim (some x) m f e = let z : x ≡ m = cc in rw (← z) (f x refl)

  member_slim : (above : Option ℕ) (n : List ℕ) (m : Member) → field_named (table_of t) above n ≡ member m → slim_member m ≡ true
  member_slim none n m e = let z : ◌≡◌ {A = FieldIs} unknown (member m) = e in let y : true ≡ false = cc in absurd (true≢false y)
  member_slim (some k) n m e = go (is_typename n) e
    where
      go : (b : Bool) → cond b typename (or_missing (field_of (table_of t) k n)) ≡ member m → slim_member m ≡ true
      go true q = let z : ◌≡◌ {A = FieldIs} typename (member m) = q in let y : true ≡ false = cc in absurd (true≢false y)
      go false q = missing_slim (field_of (table_of t) k n) m (λ x. found_slim k n x) q

-- what is no member has no arguments
no_dues : (f : FieldIs) → ((m : Member) → f ≡ member m → ⊥) → argument_dues f ≡ []
no_dues unknown h = refl
no_dues missing h = refl
no_dues typename h = refl
no_dues (member m) h = absurd (h m refl)

-- the arguments of the field of row i, by its content
pub contains_holds : (t : List ℕ) → Known t → (d : Doc) (i start end : ℕ) → Contains t (field_at (table_of t) d i) start end → Holds t (field_at (table_of t) d i) start end
unfolding gather all_of
contains_holds t k d i zero end c = record {
  bounds = c.bounds;
  dues = rw (c.ends refl, no_arguments t) (sym (no_dues (field_at (table_of t) d i) (c.none refl)));
  slim = rw (c.ends refl, no_arguments t) refl;
}
contains_holds t k d i (suc x) end c = record {
  bounds = c.bounds;
  dues = each_due (arguments_in t (suc x) end) ∙ ap argument_dues (sym is);
  slim = slim_arguments (field_from t (suc x) end) (member_slim t k.slim (enclosing (table_of t) d i) (name_of d i) (field_from t (suc x) end) is);
}
  where
    is : field_at (table_of t) d i ≡ member (field_from t (suc x) end)
    is = c.is (omega arith) ∙ ap member (field_is t tag_field (suc x) end refl)
