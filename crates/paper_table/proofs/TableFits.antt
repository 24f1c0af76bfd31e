-- A table of at most 32,768 bytes has members and arguments whose numbers are below 65,535; so its least break is its first.
use mathlib.Core.Path.{◌≡◌}
use mathlib.Core.Bool.{Bool, true, false, cond}
use mathlib.Core.List.{List, [], ◌∷◌, head?}
use Prim.Native.Nat.{ℕ, ◌+◌, ◌≤◌}
use native.Mathlib.Nat.{le_refl, le_trans}
use native.Mathlib.Omega.{arith}
use lib.ListN.{length}
use lib.Dec.{eqb, leb}
use Rattle.paper_table.specs.TableNumbers.{most_table, no_place, tag_field, tag_argument, tag_union_member}
use Rattle.paper_table.specs.Lists.{gather, only_if}
use Rattle.paper_table.specs.House.{HouseField, house_field, cut, house_fields, house_fields_in}
use Rattle.paper_table.specs.Types.{Argument, argument_in, argument_of, field_in, input_in, name_only, member_of, definition_of, table_of}
use Rattle.paper_table.specs.Judging.{breaks, least_break}
use Rattle.paper_table.proofs.PiecesLaws.{Laid, nil, torn, next, pieces_laid, laid_size}
use Rattle.paper_table.proofs.Every.{Every, no_more, one_more, every_gather, gather_size}
use Rattle.paper_table.proofs.RuleOrder.{Fits}
use Rattle.paper_table.proofs.BreakOrder.{AllFit, breaks_first}

-- a field that ends at n or before
abbrev Ends : ℕ → HouseField → Type 0
Ends n (house_field at tag s) = at + 3 + length s ≤ n
Ends n (cut at) = Unit {0}

laid_order : {lo hi : ℕ} {ps : List HouseField} → Laid lo ps hi → lo ≤ hi
laid_order (nil h) = h
laid_order (torn h) = h
laid_order (next r) = let k = laid_order r in omega arith

laid_ends : {lo hi : ℕ} {ps : List HouseField} (n : ℕ) → hi ≤ n → Laid lo ps hi → Every (Ends n) ps
laid_ends n h (nil b) = no_more
laid_ends n h (torn b) = one_more tt no_more
laid_ends n h (next r) = one_more (le_trans (laid_order r) h) (laid_ends n h r)

-- what stands inside it ends there too, and is no more than that many
inside_ends : (n at : ℕ) (s : List ℕ) → at + 3 + length s ≤ n → Every (Ends n) (house_fields_in at s)
inside_ends n at s h = laid_ends n h (pieces_laid (at + 3) s)

inside_size : (n at : ℕ) (s : List ℕ) → at + 3 + length s ≤ n → length (house_fields_in at s) ≤ n
inside_size n at s h = let k = laid_size (pieces_laid (at + 3) s) in omega arith

one_argument : (p : HouseField) → length (argument_of p) ≤ 1
one_argument (cut at) = omega arith
one_argument (house_field at tag s) = go (eqb tag tag_argument) (argument_in at s)
  where
    go : (b : Bool) (x : Argument) → length (only_if b x) ≤ 1
    go true x = le_refl 1
    go false x = omega arith

member_fits : (n : ℕ) → n ≤ no_place → (p : HouseField) → Ends n p → Every Fits (member_of p)
unfolding member_of
member_fits n h (cut at) e = no_more
member_fits n h (house_field at tag s) e = go (eqb tag tag_field) (eqb tag tag_argument) (leb tag_union_member tag)
  where
    few : length (gather argument_of (house_fields_in at s)) ≤ no_place
    few = le_trans (gather_size argument_of one_argument (house_fields_in at s)) (le_trans (inside_size n at s e) h)

    nothing : 0 ≤ no_place
    nothing = omega arith

    go : (a b c : Bool)
        → Every Fits (cond a (field_in at s ∷ []) (cond b (input_in at s ∷ []) (only_if c (name_only tag s))))
    go true b c = one_more few no_more
    go false true c = one_more nothing no_more
    go false false true = one_more nothing no_more
    go false false false = no_more

definition_fits : (n : ℕ) → n ≤ no_place → (p : HouseField) → Ends n p → Every AllFit (definition_of p)
unfolding definition_of
definition_fits n h (cut at) e = no_more
definition_fits n h (house_field at tag s) e = one_more (every_gather (Ends n) Fits member_of (member_fits n h) (house_fields_in at s) (inside_ends n at s e)) no_more

pub table_of_fits : (s : List ℕ) → length s ≤ most_table → Every AllFit (table_of s)
unfolding table_of
table_of_fits s h = every_gather (Ends no_place) AllFit definition_of (definition_fits no_place (le_refl no_place)) (house_fields 0 s) (laid_ends no_place (let k : 0 + length s ≤ no_place = omega arith in k) (pieces_laid 0 s))

-- The shown break is the first in the order of definitions, rules and places.
pub judged_first : (s : List ℕ) → length s ≤ most_table → least_break (breaks (table_of s)) ≡ head? (breaks (table_of s))
judged_first s h = breaks_first (table_of s) (table_of_fits s h)
