-- What a name means, by the number that a search of the book finds.
use mathlib.Core.Path.{◌≡◌, refl, sym, ap, ◌∙◌}
use mathlib.Core.Bool.{Bool, true, false, ◌&&◌}
use mathlib.Core.List.{List}
use Prim.Native.Nat.{ℕ, ◌≤◌, ◌<◌}
use native.Mathlib.Decide.{dec_lt}
use native.Mathlib.Omega.{arith}
use lib.ListN.{length, get_or, get_or-eq_default}
use lib.Dec.{leb, eqb}
use borrow.Author.Tests.{le-leb, le-ltb, lt-ltb, eqb-true, eqb-false, leb-true, leb-false}
use Rattle.paper.specs.Tokens.{same}
use Rattle.paper_table.specs.Lists.{first_at, any_of, bytes}
use Rattle.paper_table.specs.Types.{Definition, table_of, type_named, directive_named, is_built_in, built_ins, built_in, no_meaning, definition, meaning, blank_definition, tag_nothing, meant}
use Rattle.paper_table.proofs.ListsLaws.{first_at_map}
use Rattle.paper_table.proofs.MeaningLaws.{meaning_first, meant_first}
use Rattle.table_book.specs.Book.{count_in, keys_of, keyed}
use Rattle.table_types.specs.Booked.{key_of, Booked, NumberMeant, kind_in, spoken}
use Rattle.table_types.specs.declared.Meant.TheVariants.{BuiltIn, Definition as Defined, Nothing}

-- `Query` is the table's own
pub query_own : is_built_in (bytes "Query") ≡ false
unfolding any_of built_ins
query_own = refl

type_keyed : (n : List ℕ) (d : Definition) → keyed 0 6 n (key_of d) ≡ type_named n d
type_keyed n d = rw (le-leb 0 d.tag (omega arith))

between : (k : ℕ) (b : Bool) → leb 7 k && (leb k 7 && b) ≡ eqb k 7 && b
between k b = go (leb 7 k) refl (leb k 7) refl (eqb k 7) refl
  where
    go : (x : Bool) → leb 7 k ≡ x → (y : Bool) → leb k 7 ≡ y → (z : Bool) → eqb k 7 ≡ z → x && (y && b) ≡ z && b
    go true p true q true r = refl
    go true p true q false r = absurd (eqb-false k 7 r (let u : 7 ≤ k = leb-true 7 k p in let v : k ≤ 7 = leb-true k 7 q in omega arith))
    go true p false q true r = absurd (let u : 7 < k = leb-false k 7 q in let v : k ≡ 7 = eqb-true k 7 r in omega arith)
    go true p false q false r = refl
    go false p y q true r = absurd (let u : k < 7 = leb-false 7 k p in let v : k ≡ 7 = eqb-true k 7 r in omega arith)
    go false p y q false r = refl

directive_keyed : (n : List ℕ) (d : Definition) → keyed 7 7 n (key_of d) ≡ directive_named n d
directive_keyed n d = between d.tag (same d.name n)

module _ (t book : List ℕ) (b : Booked t book) (n : List ℕ) where
  pub type_first : first_at (keyed 0 6 n) (keys_of t book) ≡ first_at (type_named n) (table_of t)
  type_first = ap (first_at (keyed 0 6 n)) b.keys ∙ first_at_map (keyed 0 6 n) (type_named n) key_of (type_keyed n) (table_of t)

  pub directive_first : first_at (keyed 7 7 n) (keys_of t book) ≡ first_at (directive_named n) (table_of t)
  directive_first = ap (first_at (keyed 7 7 n)) b.keys ∙ first_at_map (keyed 7 7 n) (directive_named n) key_of (directive_keyed n) (table_of t)

  module _ {k : ℕ} (e : k ≡ first_at (type_named n) (table_of t)) where
    definition_meant : is_built_in n ≡ false → k < count_in book → meaning (table_of t) n ≡ definition k
    definition_meant q l = meaning_first (table_of t) n ∙ rw (q, ← e, lt-ltb k (length (table_of t)) (omega (arith, b.count)))

    pub means_definition : is_built_in n ≡ false → k < count_in book → Defined k ≡ spoken (meaning (table_of t) n)
    means_definition q l = sym (ap spoken (definition_meant q l))

    pub means_nothing : is_built_in n ≡ false → count_in book ≤ k → Nothing ≡ spoken (meaning (table_of t) n)
    means_nothing q l =
        let f : meaning (table_of t) n ≡ no_meaning = meaning_first (table_of t) n ∙ rw (q, ← e, le-ltb k (length (table_of t)) (omega (arith, b.count))) in
        sym (ap spoken f)

    pub tag_definition : is_built_in n ≡ false → k < count_in book → get_or book k 0 ≡ (meant (table_of t) n).tag
    tag_definition q l =
        sym (ap (λ (d : Definition). d.tag) (meant_first (table_of t) n) ∙ rw (q, ← e) (ap (λ (d : Definition). d.tag) (b.entered k l).is))

    pub tag_nothing_is : is_built_in n ≡ false → count_in book ≤ k → 0 ≡ (meant (table_of t) n).tag
    tag_nothing_is q l =
        sym (ap (λ (d : Definition). d.tag) (meant_first (table_of t) n)
        ∙ rw (q, ← e) (ap (λ (d : Definition). d.tag) (get_or-eq_default (table_of t) (blank_definition tag_nothing) (omega (arith, b.count)))))

    -- the same tag, asked of any number
    pub tag_first : is_built_in n ≡ false → kind_in book k ≡ (meant (table_of t) n).tag
    tag_first q = go (dec_lt k (count_in book))
      where
        go : Dec (k < count_in book) → kind_in book k ≡ (meant (table_of t) n).tag
        go (yes h) = rw (lt-ltb k (count_in book) h) (tag_definition q h)
        go (no h) = let l : count_in book ≤ k = omega arith in rw (le-ltb k (count_in book) l) (tag_nothing_is q l)

  pub means_built_in : is_built_in n ≡ true → BuiltIn ≡ spoken (meaning (table_of t) n)
  means_built_in q =
      let f : meaning (table_of t) n ≡ built_in = meaning_first (table_of t) n ∙ rw q in
      sym (ap spoken f)

  pub tag_built_in : is_built_in n ≡ true → 1 ≡ (meant (table_of t) n).tag
  tag_built_in q = sym (ap (λ (d : Definition). d.tag) (meant_first (table_of t) n) ∙ rw q)

  -- the number of the definition meant
  pub number_built_in : {i : ℕ} → is_built_in n ≡ true → i ≡ count_in book → NumberMeant t book n i
  number_built_in q e = record {
    number = λ l. absurd (omega arith);
    is = λ l. absurd (omega arith);
    none = λ l. let k = tag_built_in q in omega (arith, k);
  }

  pub number_first : {i : ℕ} → is_built_in n ≡ false → i ≡ first_at (type_named n) (table_of t) → NumberMeant t book n i
  number_first q e = record {
    number = definition_meant e q;
    is = λ l. meant_first (table_of t) n ∙ rw (q, ← e);
    none = λ l. let k = tag_nothing_is e q l in omega (arith, k);
  }
