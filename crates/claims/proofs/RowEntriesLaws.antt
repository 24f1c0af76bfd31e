-- What a row's value is, by its kind, and which entries stand below a row: steps to compute the values of a worked document by.
use mathlib.Core.Path.{◌≡◌, refl, ap, ◌∙◌}
use mathlib.Core.Bool.{Bool, true, false, cond, ◌&&◌}
use mathlib.Core.List.{List, [], ◌∷◌}
use Prim.Native.Nat.{ℕ, zero, suc, ◌+◌, ◌-◌}
use lib.Dec.{eqb}
use Rattle.paper.specs.Numbers.{kind_object_field, kind_variable, kind_integer, kind_string, kind_null, kind_object}
use Rattle.paper_query.specs.Constructs.{Doc, count, kind_of, parent_of, name_of}
use Rattle.paper_values.specs.Characters.{characters_of}
use Rattle.paper_values.specs.Values.{Value, variable, integer, string, null, object, Entries, no_entries, entry}
use Rattle.paper_values.specs.RowValues.{placed, token_at, entries_from, value_by, value_at}

module _ (text : ℕ) (d : Doc) where
  -- of the m rows from c on, those of kind k right below row h
  abbrev pub passing : (k h m c : ℕ) → List ℕ
  passing k h zero c = []
  passing k h (suc m) c = let rest = passing k h m (c + 1) in cond (eqb (parent_of d c) h && eqb (kind_of d c) k) (c ∷ rest) rest

  abbrev pub over : (ℕ → Value) → List ℕ → Entries
  over read [] = no_entries
  over read (c ∷ cs) = entry (placed text d c) (name_of d c) (read (c + 1)) (over read cs)

  entries_over : (read : ℕ → Value) (k h m c : ℕ) → entries_from text d read k h m c ≡ over read (passing k h m c)
  unfolding entries_from
  entries_over read k h zero c = refl
  entries_over read k h (suc m) c = go (eqb (parent_of d c) h && eqb (kind_of d c) k) (passing k h m (c + 1)) (entries_over read k h m (c + 1))
    where
      go : (b : Bool) {es : Entries} (cs : List ℕ) → es ≡ over read cs → cond b (entry (placed text d c) (name_of d c) (read (c + 1)) es) es ≡ over read (cond b (c ∷ cs) cs)
      go true cs e = ap (λ (x : Entries). entry (placed text d c) (name_of d c) (read (c + 1)) x) e
      go false cs e = e

  pub entries_are : (read : ℕ → Value) (k h m c : ℕ) (ns : List ℕ) → passing k h m c ≡ ns → entries_from text d read k h m c ≡ over read ns
  entries_are read k h m c ns e = entries_over read k h m c ∙ ap (over read) e

  module _ (k i : ℕ) where
    pub value_variable : kind_of d i ≡ kind_variable → value_at text d (suc k) i ≡ variable (placed text d i) (name_of d i)
    unfolding value_at value_by
    value_variable e = rw e

    pub value_integer : kind_of d i ≡ kind_integer → value_at text d (suc k) i ≡ integer (placed text d i) (token_at text d i)
    unfolding value_at value_by
    value_integer e = rw e

    pub value_string : kind_of d i ≡ kind_string → value_at text d (suc k) i ≡ string (placed text d i) (token_at text d i) (characters_of (token_at text d i))
    unfolding value_at value_by
    value_string e = rw e

    pub value_null : kind_of d i ≡ kind_null → value_at text d (suc k) i ≡ null (placed text d i)
    unfolding value_at value_by
    value_null e = rw e

    pub value_object : kind_of d i ≡ kind_object → value_at text d (suc k) i ≡ object (placed text d i) (entries_from text d (value_at text d k) kind_object_field i (count d - (i + 1)) (i + 1))
    unfolding value_at value_by
    value_object e = rw e
