-- The breaks of a table stand in their order: by definition, rule, member, part, argument. So the least is the first that a walk in this order meets.
use mathlib.Core.Path.{◌≡◌, refl}
use mathlib.Core.List.{List, [], ◌∷◌, ◌++◌, map, head?}
use Prim.Native.Nat.{ℕ, suc, ◌<◌}
use native.Mathlib.Nat.{le_refl}
use native.Mathlib.Omega.{arith}
use lib.ListN.{length}
use Rattle.paper_table.specs.TableNumbers.{no_place, rule_root}
use Rattle.paper_table.specs.Lists.{gather}
use Rattle.paper_table.specs.Types.{Definition, Table}
use Rattle.paper_table.specs.Places.{Place, whole_of}
use Rattle.paper_table.specs.Rule16Root.{query_not_object}
use Rattle.paper_table.specs.Judging.{rules, Break, break, breaks_of, breaks, numbers_of, least_break}
use Rattle.paper_table.proofs.Every.{Every}
use Rattle.paper_table.proofs.Before.{empty, less, same, before_refl, Rise, done, then, rise_lower, rise_higher, rise_append, rise_one}
use Rattle.paper_table.proofs.LeastLaws.{rise_least}
use Rattle.paper_table.proofs.RuleOrder.{Fits, each_rises, key_of, Ordered, reserved_name_ordered, name_known_ordered, no_members_ordered, name_repeated_ordered, reserved_member_ordered, enum_value_ordered, no_type_ordered, wrong_base_ordered, not_object_or_interface_ordered, implemented_twice_ordered, field_missing_ordered, field_type_ordered, argument_missing_ordered, argument_type_ordered, argument_extra_ordered, root_not_object_ordered}

below : (n : ℕ) → n < suc n
below n = le_refl (suc n)

-- a rule's places as breaks
places_rise : (i k : ℕ) {lo hi : List ℕ} {qs : List Place} → Rise key_of lo qs hi → Rise numbers_of (i ∷ k ∷ lo) (map (break i k) qs) (i ∷ k ∷ hi)
places_rise i k (done b) = done (same refl (same refl b))
places_rise i k (then b q) = then (same refl (same refl b)) (places_rise i k q)

rule_rises : (i k : ℕ) (qs : List Place) → Ordered qs → Rise numbers_of (i ∷ k ∷ []) (map (break i k) qs) (i ∷ suc k ∷ [])
rule_rises i k qs o = rise_higher numbers_of (places_rise i k o.1) (same refl (less (below k)))

-- a definition's members all have arguments that can be numbered
abbrev pub AllFit : Definition → Type 0
AllFit d = Every Fits d.members

definition_rises : (t : Table) (i : ℕ) (d : Definition) → AllFit d → Rise numbers_of (i ∷ []) (breaks_of t i d) (suc i ∷ [])
unfolding breaks_of rules gather
definition_rises t i d fits =
    rise_lower numbers_of (same refl empty)
    (by 1 (reserved_name_ordered t i d fits) (by 2 (name_known_ordered t i d fits) (by 3 (no_members_ordered t i d fits) (by 4 (name_repeated_ordered t i d fits)
    (by 5 (reserved_member_ordered t i d fits) (by 6 (enum_value_ordered t i d fits) (by 7 (no_type_ordered t i d fits) (by 8 (wrong_base_ordered t i d fits)
    (by 9 (not_object_or_interface_ordered t i d fits) (by 10 (implemented_twice_ordered t i d fits) (by 11 (field_missing_ordered t i d fits) (by 12 (field_type_ordered t i d fits)
    (by 13 (argument_missing_ordered t i d fits) (by 14 (argument_type_ordered t i d fits) (by 15 (argument_extra_ordered t i d fits) (by 16 (root_not_object_ordered t i d fits)
    (done (less (below i)))))))))))))))))))
  where
    by : (k : ℕ) {qs : List Place} {bs : List Break} → Ordered qs → Rise numbers_of (i ∷ suc k ∷ []) bs (suc i ∷ []) → Rise numbers_of (i ∷ k ∷ []) (map (break i k) qs ++ bs) (suc i ∷ [])
    by k {qs} o q = rise_append numbers_of (rule_rises i k qs o) q

breaks_rise : (t : Table) → Every AllFit t → Rise numbers_of (0 ∷ []) (breaks t) (length t ∷ rule_root ∷ no_place ∷ no_place ∷ no_place ∷ [])
unfolding breaks
breaks_rise t fits =
    rise_append numbers_of (each_rises numbers_of (λ k. k) AllFit (breaks_of t) (definition_rises t) 0 t fits (length t) (omega arith))
    (rise_one numbers_of (query_not_object t) (break (length t) rule_root whole_of) (same refl empty) (before_refl _))

-- The least break is the first, where no member has more than 65,535 arguments.
pub breaks_first : (t : Table) → Every AllFit t → least_break (breaks t) ≡ head? (breaks t)
breaks_first t fits = rise_least (breaks_rise t fits)
