-- Four levels are enough: with more, a record's wrong offsets are the same.
use mathlib.Core.Path.{◌≡◌, refl, sym, ap, ap₂, ◌∙◌}
use mathlib.Core.Bool.{Bool, true, false, not, ◌&&◌, ◌||◌, cond, false≢true}
use mathlib.Core.List.{List, [], ◌∷◌, ◌++◌}
use Prim.Native.Nat.{ℕ, suc}
use lib.Dec.{eqb, leb}
use borrow.Author.Tests.{eqb-true, leb-true}
use Rattle.paper_table.specs.TableNumbers.{tag_scalar, tag_object, tag_interface, tag_union, tag_enum, tag_input_object, tag_directive, tag_roots, tag_name, tag_implements, tag_field, tag_argument, tag_reference, tag_union_member, tag_enum_value, tag_query_root, tag_mutation_root, tag_subscription_root}
use Rattle.paper_table.specs.Lists.{any_of}
use Rattle.paper_table.specs.House.{HouseField, house_field, cut, house_fields_in, Slot, one, at_most_one, many, a_name, a_reference, holds, contents, look_up, content_of, is_for, in_place, open_after, lacks_house_field, Offsets, in_order, or_lacking, by_content, wrongs, most_deep, record_in_place}
use Rattle.paper_table.proofs.Every.{Every, no_more, one_more}
use Rattle.paper_table.proofs.Filled.{slot_tag, and_inv}
use Rattle.paper_table.proofs.FramedTable.{one_of_eight}

-- two ways to find wrong offsets that agree on fields of a tag
abbrev Agree : Offsets → Offsets → ℕ → Type 0
Agree f g k = (at : ℕ) (s : List ℕ) → f at k s ≡ g at k s

abbrev AgreeAt : Offsets → Offsets → Slot → Type 0
AgreeAt f g x = Agree f g (slot_tag x)

-- on a field in place
agree_placed : (f g : Offsets) (t : ℕ) {ss : List Slot} → Every (AgreeAt f g) ss → in_place t ss ≡ true → Agree f g t
unfolding any_of
agree_placed f g t no_more h = absurd (false≢true h)
agree_placed f g t (one_more {x = x} {xs = ss} a as') h = go (is_for t x) refl h (agree_placed f g t as')
  where
    here : (x : Slot) → is_for t x ≡ true → t ≡ slot_tag x
    here (one k) q = eqb-true t k q
    here (at_most_one k) q = eqb-true t k q
    here (many k) q = eqb-true t k q

    go : (b : Bool) → is_for t x ≡ b → b || in_place t ss ≡ true → (in_place t ss ≡ true → Agree f g t) → Agree f g t
    go true q h ih = λ at s. ap (λ (k : ℕ). f at k s) (here x q) ∙ a at s ∙ ap (λ (k : ℕ). g at k s) (sym (here x q))
    go false q h ih = ih h

every_after : (P : Slot → Type 0) (t : ℕ) {ss : List Slot} → Every P ss → Every P (open_after t ss)
unfolding open_after
every_after P t no_more = no_more
every_after P t (one_more {x = one k} {xs = ss} p ps) = go (eqb t k) (every_after P t ps)
  where
    go : (b : Bool) → Every P (open_after t ss) → Every P (cond b ss (open_after t ss))
    go true ih = ps
    go false ih = ih
every_after P t (one_more {x = at_most_one k} {xs = ss} p ps) = go (eqb t k) (every_after P t ps)
  where
    go : (b : Bool) → Every P (open_after t ss) → Every P (cond b ss (open_after t ss))
    go true ih = ps
    go false ih = ih
every_after P t (one_more {x = many k} {xs = ss} p ps) = go (eqb t k) (every_after P t ps)
  where
    go : (b : Bool) → Every P (open_after t ss) → Every P (cond b (many k ∷ ss) (open_after t ss))
    go true ih = one_more p ps
    go false ih = ih

order_same : (f g : Offsets) (ps : List HouseField) (ss : List Slot) → Every (AgreeAt f g) ss → in_order f ss ps ≡ in_order g ss ps
unfolding in_order
order_same f g [] ss a = refl
order_same f g (cut at ∷ ps) ss a = ap (λ (ws : List ℕ). at ∷ ws) (order_same f g ps ss a)
order_same f g (house_field at t s ∷ ps) ss a = go (in_place t ss) refl (order_same f g ps (open_after t ss) (every_after (AgreeAt f g) t a)) (order_same f g ps ss a)
  where
    go : (b : Bool) → in_place t ss ≡ b → in_order f (open_after t ss) ps ≡ in_order g (open_after t ss) ps → in_order f ss ps ≡ in_order g ss ps
        → cond b (f at t s) (at ∷ []) ++ in_order f (cond b (open_after t ss) ss) ps ≡ cond b (g at t s) (at ∷ []) ++ in_order g (cond b (open_after t ss) ss) ps
    go true q e n = ap₂ (λ (x y : List ℕ). x ++ y) (agree_placed f g t a q at s) e
    go false q e n = ap (λ (ws : List ℕ). at ∷ ws) n

-- of a name or a reference nothing inside is asked; of a holder what its slots are for
leaf_same : (d e k : ℕ) → content_of k ≡ a_name → Agree (wrongs (suc d)) (wrongs (suc e)) k
unfolding wrongs by_content
leaf_same d e k c at s = rw c

reference_same : (d e k : ℕ) → content_of k ≡ a_reference → Agree (wrongs (suc d)) (wrongs (suc e)) k
unfolding wrongs by_content
reference_same d e k c at s = rw c

holder_same : (d e k : ℕ) (ss : List Slot) → content_of k ≡ holds ss → Every (AgreeAt (wrongs d) (wrongs e)) ss → Agree (wrongs (suc d)) (wrongs (suc e)) k
unfolding wrongs by_content
holder_same d e k ss c a at s = rw c (ap (or_lacking at (lacks_house_field ss (house_fields_in at s))) (order_same (wrongs d) (wrongs e) (house_fields_in at s) ss a))

argument_same : (d e : ℕ) → Agree (wrongs (suc (suc d))) (wrongs (suc (suc e))) tag_argument
unfolding contents look_up
argument_same d e = holder_same (suc d) (suc e) tag_argument _ refl (one_more (leaf_same d e tag_name refl) (one_more (reference_same d e tag_reference refl) no_more))

field_same : (d e : ℕ) → Agree (wrongs (suc (suc (suc d)))) (wrongs (suc (suc (suc e)))) tag_field
unfolding contents look_up
field_same d e =
    holder_same (suc (suc d)) (suc (suc e)) tag_field _ refl
    (one_more (leaf_same (suc d) (suc e) tag_name refl) (one_more (reference_same (suc d) (suc e) tag_reference refl) (one_more (argument_same d e) no_more)))

-- A record's wrong offsets do not depend on the bound, from four levels on.
pub wrongs_deep : (d : ℕ) (roots : Bool) (at tag : ℕ) (s : List ℕ) → record_in_place roots tag ≡ true → wrongs most_deep at tag s ≡ wrongs (suc (suc (suc (suc d)))) at tag s
unfolding contents look_up
wrongs_deep d roots at tag s b =
    let z = and_inv (leb tag_scalar tag && leb tag tag_roots) (not (eqb tag tag_roots) || roots) b in
    let y = and_inv (leb tag_scalar tag) (leb tag tag_roots) z.0 in
    one_of_eight (λ k. Agree (wrongs 4) (wrongs (suc (suc (suc (suc d))))) k)
    (holder_same 3 _ tag_scalar _ refl (one_more (name tag_name refl) no_more))
    (holder_same 3 _ tag_object _ refl (one_more (name tag_name refl) (one_more (name tag_implements refl) (one_more (field_same 0 d) no_more))))
    (holder_same 3 _ tag_interface _ refl (one_more (name tag_name refl) (one_more (field_same 0 d) no_more)))
    (holder_same 3 _ tag_union _ refl (one_more (name tag_name refl) (one_more (name tag_union_member refl) no_more)))
    (holder_same 3 _ tag_enum _ refl (one_more (name tag_name refl) (one_more (name tag_enum_value refl) no_more)))
    (holder_same 3 _ tag_input_object _ refl (one_more (name tag_name refl) (one_more (argument_same 1 (suc d)) no_more)))
    (holder_same 3 _ tag_directive _ refl (one_more (name tag_name refl) (one_more (argument_same 1 (suc d)) no_more)))
    (holder_same 3 _ tag_roots _ refl (one_more (name tag_query_root refl) (one_more (name tag_mutation_root refl) (one_more (name tag_subscription_root refl) no_more))))
    tag (leb-true tag_scalar tag y.0) (leb-true tag tag_roots y.1) at s
  where
    name : (k : ℕ) → content_of k ≡ a_name → Agree (wrongs 3) (wrongs (suc (suc (suc d)))) k
    name k c = leaf_same 2 (suc (suc d)) k c
