-- What each tag's content is, as the code's table has it.
use mathlib.Core.Path.{◌≡◌, refl, sym, ap, ◌∙◌}
use mathlib.Core.Bool.{Bool, true, false, not, ◌&&◌, ◌||◌}
use mathlib.Core.List.{[], ◌∷◌}
use Prim.Native.Nat.{ℕ, suc}
use native.Mathlib.Omega.{arith}
use lib.Dec.{leb, eqb}
use borrow.Author.Tests.{le-leb, lt-leb, ne_eqb, eqb-true, eqb-false, leb-true}
use Rattle.paper_table.specs.TableNumbers.{tag_scalar, tag_object, tag_interface, tag_union, tag_enum, tag_input_object, tag_directive, tag_roots, tag_name, tag_implements, tag_field, tag_argument, tag_reference, tag_union_member, tag_enum_value, tag_query_root, tag_mutation_root, tag_subscription_root}
use Rattle.paper_table.specs.Lists.{any_of}
use Rattle.paper_table.specs.House.{one, at_most_one, many, a_name, a_reference, no_tag, contents, look_up, content_of, tag_is}
use Rattle.table_framing.specs.Holders.{ranked, Holder}

-- the tags of slots as a span of numbers
none_between : (k : ℕ) → false ≡ leb 1 k && leb k 0
none_between k = go (leb 1 k) refl
  where
    go : (x : Bool) → leb 1 k ≡ x → false ≡ x && leb k 0
    go true e = let h = leb-true 1 k e in sym (lt-leb k 0 (omega arith))
    go false e = refl

one_of : (a k : ℕ) → eqb k a || false ≡ leb a k && leb k a
one_of a k = go (eqb k a) refl
  where
    go : (x : Bool) → eqb k a ≡ x → x || false ≡ leb a k && leb k a
    go true e = let h = eqb-true k a e in rw (le-leb a k (omega arith), le-leb k a (omega arith))
    go false e = apart (leb a k) refl
      where
        apart : (y : Bool) → leb a k ≡ y → false ≡ y && leb k a
        apart true f = let h = leb-true a k f in sym (lt-leb k a (let n = eqb-false k a e in omega arith))
        apart false f = refl

two_of : (a k : ℕ) (p q : Bool) → eqb k a ≡ p → eqb k (suc a) ≡ q → p || q ≡ leb a k && leb k (suc a)
two_of a k true q e f = let h = eqb-true k a e in rw (le-leb a k (omega arith), le-leb k (suc a) (omega arith))
two_of a k false true e f = let h = eqb-true k (suc a) f in rw (le-leb a k (omega arith), le-leb k (suc a) (omega arith))
two_of a k false false e f = go (leb a k) refl
  where
    go : (y : Bool) → leb a k ≡ y → false ≡ y && leb k (suc a)
    go true g = let h = leb-true a k g in sym (lt-leb k (suc a) (let n = eqb-false k a e in let m = eqb-false k (suc a) f in omega arith))
    go false g = refl

or_false : (p q : Bool) → p || (q || false) ≡ p || q
or_false true q = refl
or_false false true = refl
or_false false false = refl

or_swap : (p q : Bool) → p || q ≡ q || p
or_swap true true = refl
or_swap true false = refl
or_swap false true = refl
or_swap false false = refl

two_up : (a k : ℕ) → eqb k a || (eqb k (suc a) || false) ≡ leb a k && leb k (suc a)
two_up a k = or_false (eqb k a) (eqb k (suc a)) ∙ two_of a k (eqb k a) (eqb k (suc a)) refl refl

two_down : (a k : ℕ) → eqb k (suc a) || (eqb k a || false) ≡ leb a k && leb k (suc a)
two_down a k = or_false (eqb k (suc a)) (eqb k a) ∙ or_swap (eqb k (suc a)) (eqb k a) ∙ two_of a k (eqb k a) (eqb k (suc a)) refl refl

-- what one due field makes of the fields that may lack, and what two make
one_due : (x : Bool) → not x || false ≡ not x || not x
one_due true = refl
one_due false = refl

two_due : (x y : Bool) → not x || (not y || false) ≡ not x || not y
two_due x y = or_false (not x) (not y)

pub holds_scalar : Holder tag_scalar tag_name tag_name 1 0
unfolding contents look_up any_of ranked
holds_scalar = record {
  slots = one tag_name ∷ [];
  is = refl;
  known = λ k. ap (λ (b : Bool). eqb k tag_name || b) (none_between k);
  dues = λ ps. one_due (any_of (tag_is tag_name) ps);
  rises = refl;
}

pub holds_object : Holder tag_object tag_name tag_name tag_implements tag_field
unfolding contents look_up any_of ranked
holds_object = record {
  slots = one tag_name ∷ many tag_implements ∷ many tag_field ∷ [];
  is = refl;
  known = λ k. ap (λ (b : Bool). eqb k tag_name || b) (two_up tag_implements k);
  dues = λ ps. one_due (any_of (tag_is tag_name) ps);
  rises = refl;
}

pub holds_interface : Holder tag_interface tag_name tag_name tag_field tag_field
unfolding contents look_up any_of ranked
holds_interface = record {
  slots = one tag_name ∷ many tag_field ∷ [];
  is = refl;
  known = λ k. ap (λ (b : Bool). eqb k tag_name || b) (one_of tag_field k);
  dues = λ ps. one_due (any_of (tag_is tag_name) ps);
  rises = refl;
}

pub holds_union : Holder tag_union tag_name tag_name tag_union_member tag_union_member
unfolding contents look_up any_of ranked
holds_union = record {
  slots = one tag_name ∷ many tag_union_member ∷ [];
  is = refl;
  known = λ k. ap (λ (b : Bool). eqb k tag_name || b) (one_of tag_union_member k);
  dues = λ ps. one_due (any_of (tag_is tag_name) ps);
  rises = refl;
}

pub holds_enum : Holder tag_enum tag_name tag_name tag_enum_value tag_enum_value
unfolding contents look_up any_of ranked
holds_enum = record {
  slots = one tag_name ∷ many tag_enum_value ∷ [];
  is = refl;
  known = λ k. ap (λ (b : Bool). eqb k tag_name || b) (one_of tag_enum_value k);
  dues = λ ps. one_due (any_of (tag_is tag_name) ps);
  rises = refl;
}

pub holds_input_object : Holder tag_input_object tag_name tag_name tag_argument tag_argument
unfolding contents look_up any_of ranked
holds_input_object = record {
  slots = one tag_name ∷ many tag_argument ∷ [];
  is = refl;
  known = λ k. ap (λ (b : Bool). eqb k tag_name || b) (one_of tag_argument k);
  dues = λ ps. one_due (any_of (tag_is tag_name) ps);
  rises = refl;
}

pub holds_directive : Holder tag_directive tag_name tag_name tag_argument tag_argument
unfolding contents look_up any_of ranked
holds_directive = record {
  slots = one tag_name ∷ many tag_argument ∷ [];
  is = refl;
  known = λ k. ap (λ (b : Bool). eqb k tag_name || b) (one_of tag_argument k);
  dues = λ ps. one_due (any_of (tag_is tag_name) ps);
  rises = refl;
}

pub holds_roots : Holder tag_roots tag_query_root tag_query_root tag_mutation_root tag_subscription_root
unfolding contents look_up any_of ranked
holds_roots = record {
  slots = one tag_query_root ∷ at_most_one tag_mutation_root ∷ at_most_one tag_subscription_root ∷ [];
  is = refl;
  known = λ k. ap (λ (b : Bool). eqb k tag_query_root || b) (two_up tag_mutation_root k);
  dues = λ ps. one_due (any_of (tag_is tag_query_root) ps);
  rises = refl;
}

pub holds_field : Holder tag_field tag_name tag_reference tag_argument tag_reference
unfolding contents look_up any_of ranked
holds_field = record {
  slots = one tag_name ∷ one tag_reference ∷ many tag_argument ∷ [];
  is = refl;
  known = λ k. ap (λ (b : Bool). eqb k tag_name || b) (two_down tag_argument k);
  dues = λ ps. two_due (any_of (tag_is tag_name) ps) (any_of (tag_is tag_reference) ps);
  rises = refl;
}

pub holds_argument : Holder tag_argument tag_name tag_reference tag_reference tag_reference
unfolding contents look_up any_of ranked
holds_argument = record {
  slots = one tag_name ∷ one tag_reference ∷ [];
  is = refl;
  known = λ k. ap (λ (b : Bool). eqb k tag_name || b) (one_of tag_reference k);
  dues = λ ps. two_due (any_of (tag_is tag_name) ps) (any_of (tag_is tag_reference) ps);
  rises = refl;
}

-- the tags of leaves, and no tag
pub leaf_reference : content_of tag_reference ≡ a_reference
unfolding contents look_up
leaf_reference = refl

pub leaf_name : content_of tag_name ≡ a_name
unfolding contents look_up
leaf_name = refl

pub leaf_implements : content_of tag_implements ≡ a_name
unfolding contents look_up
leaf_implements = refl

pub leaf_union_member : content_of tag_union_member ≡ a_name
unfolding contents look_up
leaf_union_member = refl

pub leaf_enum_value : content_of tag_enum_value ≡ a_name
unfolding contents look_up
leaf_enum_value = refl

pub leaf_query_root : content_of tag_query_root ≡ a_name
unfolding contents look_up
leaf_query_root = refl

pub leaf_mutation_root : content_of tag_mutation_root ≡ a_name
unfolding contents look_up
leaf_mutation_root = refl

pub leaf_subscription_root : content_of tag_subscription_root ≡ a_name
unfolding contents look_up
leaf_subscription_root = refl

pub content_none : (k : ℕ)
    → (k ≡ tag_scalar → ⊥)
    → (k ≡ tag_object → ⊥)
    → (k ≡ tag_interface → ⊥)
    → (k ≡ tag_union → ⊥)
    → (k ≡ tag_enum → ⊥)
    → (k ≡ tag_input_object → ⊥)
    → (k ≡ tag_directive → ⊥)
    → (k ≡ tag_roots → ⊥)
    → (k ≡ tag_field → ⊥)
    → (k ≡ tag_argument → ⊥)
    → (k ≡ tag_reference → ⊥)
    → (k ≡ tag_name → ⊥)
    → (k ≡ tag_implements → ⊥)
    → (k ≡ tag_union_member → ⊥)
    → (k ≡ tag_enum_value → ⊥)
    → (k ≡ tag_query_root → ⊥)
    → (k ≡ tag_mutation_root → ⊥)
    → (k ≡ tag_subscription_root → ⊥)
    → content_of k ≡ no_tag
unfolding contents look_up
content_none k n0 n1 n2 n3 n4 n5 n6 n7 n8 n9 n10 n11 n12 n13 n14 n15 n16 n17 =
    rw (ne_eqb k tag_scalar n0, ne_eqb k tag_object n1, ne_eqb k tag_interface n2, ne_eqb k tag_union n3, ne_eqb k tag_enum n4, ne_eqb k tag_input_object n5, ne_eqb k tag_directive n6, ne_eqb k tag_roots n7, ne_eqb k tag_field n8, ne_eqb k tag_argument n9, ne_eqb k tag_reference n10, ne_eqb k tag_name n11, ne_eqb k tag_implements n12, ne_eqb k tag_union_member n13, ne_eqb k tag_enum_value n14, ne_eqb k tag_query_root n15, ne_eqb k tag_mutation_root n16, ne_eqb k tag_subscription_root n17)
