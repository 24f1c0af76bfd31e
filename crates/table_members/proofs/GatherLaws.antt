-- What is taken from the fields of a content, field by field.
use mathlib.Core.Path.{◌≡◌, refl, ap, ◌∙◌}
use mathlib.Core.List.{List, [], ◌∷◌, ◌++◌}
use Prim.Native.Nat.{ℕ, ◌≤◌, ◌<◌}
use lib.ListN.{length}
use lib.Seq.{slice}
use Rattle.paper_table.specs.Lists.{gather}
use Rattle.paper_table.specs.House.{HouseField, house_field, cut}
use Rattle.table_fields.specs.Fields.{field_at}
use Rattle.std.specs.Prelude.{Some, None}
use Rattle.table_fields.specs.declared.Field.{Field}
use Rattle.table_fields.proofs.FieldLaws.{pieces_read, pieces_torn, pieces_none}
use Rattle.table_members.specs.Members.{fields_in}

module _ {A B : Type 0} (f : A → List B) where
  pub gather_nil : gather f [] ≡ []
  unfolding gather
  gather_nil = refl

  pub gather_cons : (x : A) (xs : List A) → gather f (x ∷ xs) ≡ f x ++ gather f xs
  unfolding gather
  gather_cons x xs = refl

module _ {B : Type 0} (f : HouseField → List B) (g : (at : ℕ) → f (cut at) ≡ []) (t : List ℕ) (at end : ℕ) (w : end ≤ length t) where
  pub gather_none : end ≤ at → gather f (fields_in t at end) ≡ []
  gather_none l = ap (gather f) (pieces_none t at end l w) ∙ gather_nil f

  pub gather_torn : at < end → field_at t at end ≡ None → gather f (fields_in t at end) ≡ []
  gather_torn l q =
      ap (gather f) (pieces_torn t at end w l q) ∙ gather_cons f (cut at) []
      ∙ ap (λ (m : List B). m ++ gather f []) (g at) ∙ gather_nil f

  pub gather_field : at < end → (it : Field) → field_at t at end ≡ Some it
      → gather f (fields_in t at end) ≡ f (house_field at it.tag (slice it.start it.end t)) ++ gather f (fields_in t it.end end)
  gather_field l it q = ap (gather f) (pieces_read t at end w l it q) ∙ gather_cons f (house_field at it.tag (slice it.start it.end t)) (fields_in t it.end end)
