-- The roots of a table that breaks nothing are objects.
use mathlib.Core.Path.{◌≡◌, refl, sym, ap, subst, ◌∙◌}
use mathlib.Core.Bool.{Bool, true, false, not, ◌&&◌}
use mathlib.Core.Option.{Option, none, some}
use mathlib.Core.List.{[], Memᴰ}
use Prim.Native.Nat.{ℕ, ◌<◌}
use lib.ListN.{length}
use Rattle.paper_table.specs.TableNumbers.{rule_root}
use Rattle.paper_table.specs.Lists.{bytes, find, any_of}
use Rattle.paper_table.specs.Types.{Member, Definition, Table, is_object, is_roots, blank_definition, tag_nothing, meant, roots_in, roots_of}
use Rattle.paper_table.specs.Places.{member_at, whole_of}
use Rattle.paper_table.specs.Rule16Root.{root_not_object, query_not_object}
use Rattle.paper_table.specs.Judging.{numbered, rules, breaks, break}
use Rattle.paper_table.proofs.ListsLaws.{find_some, find_none}
use Rattle.paper_table.proofs.Every.{Every, no_more, one_more, every_passes}
use Rattle.paper_table.proofs.Walk.{definition_at}
use Rattle.paper_table.proofs.BreaksLaws.{at_query, breaks_none, rule_kept}

-- the root's type is an object
abbrev pub IsObjectRoot : Table → Member → Type 0
IsObjectRoot t e = not (is_object (meant t e.name)) ≡ false

last_rule : Memᴰ (numbered rule_root root_not_object) rules
unfolding rules
last_rule =
    Memᴰ.tail (Memᴰ.tail (Memᴰ.tail (Memᴰ.tail (Memᴰ.tail (Memᴰ.tail (Memᴰ.tail (Memᴰ.tail (Memᴰ.tail (Memᴰ.tail (Memᴰ.tail (Memᴰ.tail
    (Memᴰ.tail (Memᴰ.tail (Memᴰ.tail (Memᴰ.head refl)))))))))))))))

pub roots_of_objects : (t : Table) → breaks t ≡ [] → Every (IsObjectRoot t) (roots_of t)
unfolding roots_of root_not_object query_not_object
roots_of_objects t e = go (find is_roots t) refl
  where
    asked : (b : Bool) → not (any_of is_roots t) && not (is_object (meant t (bytes "Query"))) ≡ b → b ≡ false
    asked true q = absurd (breaks_none t e (break (length t) rule_root whole_of) (at_query q))
    asked false q = refl

    written : (d : Definition) (i : ℕ) → i < length t → definition_at t i ≡ d → is_roots d ≡ true → Every (IsObjectRoot t) d.members
    written d i h q b =
        let k : root_not_object t i d ≡ [] = subst (λ (c : Definition). root_not_object t i c ≡ []) q (rule_kept t e i h (numbered rule_root root_not_object) last_rule) in
        every_passes (λ (c : Member). not (is_object (meant t c.name))) (λ m c. member_at m) 0 d.members (rw b at k)

    go : (o : Option Definition) → find is_roots t ≡ o → Every (IsObjectRoot t) (roots_in o)
    go none q = one_more (sym (ap (λ (b : Bool). not b && not (is_object (meant t (bytes "Query")))) (find_none is_roots t q)) ∙ asked _ refl) no_more
    go (some d) q = let z = find_some is_roots t d (blank_definition tag_nothing) q in written d z.0 z.1 z.2 z.3
