-- A content that begins with a name and a reference.
use mathlib.Core.Path.{◌≡◌, refl, sym, ap, ◌∙◌}
use mathlib.Core.List.{List, [], ◌++◌}
use Prim.Native.Nat.{ℕ, ◌-◌, ◌≤◌, ◌<◌}
use native.Mathlib.Omega.{arith}
use lib.Seq.{slice}
use Rattle.paper_table.specs.TableNumbers.{tag_name, tag_reference, tag_field, tag_argument}
use Rattle.paper_table.specs.House.{house_field}
use Rattle.paper_table.specs.Types.{Argument, argument_of, name_in}
use Rattle.table_fields.specs.Fields.{Bounds, field_at, Finds}
use Rattle.table_fields.specs.Wrappers.{Refers}
use Rattle.std.specs.Prelude.{Some}
use Rattle.table_fields.specs.declared.Field.{Field}
use Rattle.table_fields.proofs.FieldLaws.{field_lies}
use Rattle.table_fields.proofs.FindLaws.{seeks_start, seeks_here, seeks_on}
use Rattle.table_members.specs.Members.{fields_in, arguments_in, member_from, Named, ArgumentsFrom}
use Rattle.table_members.proofs.GatherLaws.{gather_field}
use Rattle.table_members.proofs.TagLaws.{part_slice}
use Rattle.table_members.proofs.TypeLaws.{type_found}
use Rattle.table_entries.specs.Entries.{HeaderIn, HeaderRead}

module _ (t : List ℕ) (start end : ℕ) (b : Bounds t start end) (one : Field) (q : field_at t start end ≡ Some one) (n : one.tag ≡ tag_name) where
  pub first_lies : (start < end) × (one.start ≤ one.end) × (one.end ≤ end)
  first_lies = let z = field_lies t start end one b.order q in (omega (arith, z.begins, z.order, z.within), z.order, z.within)

  pub first_bounds : Bounds t one.end end
  first_bounds = record { order = first_lies.2; within = b.within; most = b.most }

  header_named : Named t one.start (one.end - one.start) (name_in (fields_in t start end))
  header_named =
      let f = seeks_here t start end tag_name start b.within (seeks_start t start end tag_name b.order) first_lies.0 one q n in
      record { is = part_slice t one.start one.end ∙ f.text; within = omega (arith, first_lies.1, first_lies.2, b.within) }

  module _ (two : Field) (r : field_at t one.end end ≡ Some two) (m : two.tag ≡ tag_reference) where
    second_lies : (one.end < end) × (two.start ≤ two.end) × (two.end ≤ end)
    second_lies = let z = field_lies t one.end end two first_lies.2 r in (omega (arith, z.begins, z.order, z.within), z.order, z.within)

    pub second_bounds : Bounds t two.start two.end
    second_bounds = record { order = second_lies.1; within = omega (arith, second_lies.2, b.within); most = b.most }

    found_reference : Finds t start end tag_reference two.start two.end
    found_reference =
        let s = seeks_on t start end tag_reference start b.within (seeks_start t start end tag_reference b.order) first_lies.0 one q (λ z. omega (arith, n)) in
        seeks_here t start end tag_reference one.end b.within s second_lies.0 two r m

    no_argument : (at tag : ℕ) (s : List ℕ) → (tag ≡ tag_name) → argument_of (house_field at tag s) ≡ []
    no_argument at tag s z = rw z

    no_argument_2 : (at tag : ℕ) (s : List ℕ) → (tag ≡ tag_reference) → argument_of (house_field at tag s) ≡ []
    no_argument_2 at tag s z = rw z

    same_arguments : arguments_in t start end ≡ arguments_in t two.end end
    same_arguments =
        gather_field argument_of (λ at. refl) t start end b.within first_lies.0 one q
        ∙ ap (λ (xs : List Argument). xs ++ arguments_in t one.end end) (no_argument start one.tag (slice one.start one.end t) n)
        ∙ gather_field argument_of (λ at. refl) t one.end end b.within second_lies.0 two r
        ∙ ap (λ (xs : List Argument). xs ++ arguments_in t two.end end) (no_argument_2 one.end two.tag (slice two.start two.end t) m)

    pub header_in : (x y wrappers : ℕ) → Refers t two.start two.end x y wrappers → HeaderIn t start end one.start (one.end - one.start) x (y - x) wrappers two.end
    header_in x y wrappers f = record {
      named = header_named;
      typed = type_found t start end two.start two.end found_reference b.within x y wrappers f;
      arguments = sym same_arguments;
      order = second_lies.2;
    }

module _ (t : List ℕ) (tag start end name size base extent wrappers from : ℕ) (h : HeaderIn t start end name size base extent wrappers from) where
  pub field_header : tag ≡ tag_field → HeaderRead t tag start end name size base extent wrappers from
  unfolding member_from
  field_header e = rw e (record { named = h.named; typed = h.typed; arguments = record { are = h.arguments; order = h.order } })

  pub input_header : tag ≡ tag_argument → ArgumentsFrom t tag start end end → HeaderRead t tag start end name size base extent wrappers end
  unfolding member_from
  input_header e a = record { named = rw e h.named; typed = rw e h.typed; arguments = a }
