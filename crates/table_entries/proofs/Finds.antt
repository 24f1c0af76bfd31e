-- A definition's members and a member's arguments, looked for.
use mathlib.Core.Path.{◌≡◌, refl, sym}
use mathlib.Core.Bool.{Bool, true, false}
use mathlib.Core.Option.{Option, none, some}
use mathlib.Core.List.{List, [], ◌∷◌, map}
use Prim.Native.Nat.{ℕ, suc, ◌+◌, ◌≤◌, ◌<◌}
use native.Mathlib.Omega.{arith}
use lib.Dec.{eqb}
use borrow.Author.Tests.{eqb-true}
use Rattle.paper.specs.Tokens.{same}
use Rattle.paper_table.specs.TableNumbers.{tag_argument}
use Rattle.paper_table.specs.Lists.{find}
use Rattle.paper_table.specs.Types.{Argument, Member, member_named, argument_named}
use Rattle.table_entries.proofs.Runs.{roomy_less}
use Rattle.table_book.specs.Book.{part, count_in}
use Rattle.table_types.specs.Booked.{definition_on}
use Rattle.table_entries.specs.Entries.{room_entries, next_of, first_of, has_types, Run, ArgumentEntry, Members, MemberEntry, Entered, Standing, FindAnswer, Hit, MemberStands, ArgumentAnswer, entry_name, entry_size, cell, Here, NewAnswer}

module _ (t book es : List ℕ) (n : Entered t book es) (i : ℕ) (l : i < count_in book) (h : has_types (definition_on t i).tag ≡ true) (from end : ℕ) (p : from ≡ first_of es i) (q : end ≡ first_of es (i + 1)) where
  pub members_stand : Members t book es from end (definition_on t i).members
  members_stand = let z : suc i ≡ i + 1 = omega arith in rw (p, q, ← z) (n.are i l h)

  pub standing_is : Standing t book es from end
  standing_is = record { members = (definition_on t i).members; are = members_stand; most = rw q (n.most (i + 1) (omega arith)) }

-- an answer up to `end` as one up to the room
pub hit_wide : (t book es : List ℕ) (end : ℕ) (n : List ℕ) (ms : List Member) (r : ℕ) → end ≤ room_entries → r < end → Hit t book es end n ms r → Hit t book es room_entries n ms r
hit_wide t book es end n ms r m l h =
    let f = h.found l in
    record {
      found = λ k. (f.0, f.1, f.2, f.3, omega (arith, f.4), f.5);
      none_is = λ k. absurd (omega arith);
      within = omega arith;
    }

pub hit_none : (t book es : List ℕ) (end : ℕ) (n : List ℕ) (ms : List Member) (r : ℕ) → end ≤ r → Hit t book es end n ms r → Hit t book es room_entries n ms room_entries
hit_none t book es end n ms r l h = record { found = λ k. absurd (omega arith); none_is = λ k. h.none_is l; within = omega arith }

-- arguments as members
abbrev pub as_member : Argument → Member
as_member a = record { tag = tag_argument; name = a.name; type = a.type; arguments = [] }

module _ (t book es : List ℕ) where
  pub as_members : (e f : ℕ) (xs : List Argument) → Run (ArgumentEntry t book es) es e f xs → Members t book es e f (map as_member xs)
  as_members e f [] r = r
  as_members e f (x ∷ xs) r = (record { entry = r.0.entry; arguments = sym r.0.next }, r.1, as_members (next_of es e) f xs r.2)

  module _ (n : List ℕ) where
    found_argument : (xs : List Argument) (m : Member) → find (member_named n) (map as_member xs) ≡ some m → (a : Argument) × (find (argument_named n) xs ≡ some a) × (m ≡ as_member a)
    unfolding find
    found_argument [] m q = absurd (never q)
      where
        never : ◌≡◌ {A = Option Member} none (some m) → ⊥
        never p = let z : ◌≡◌ {A = ℕ} 0 1 = cc in omega arith
    found_argument (x ∷ xs) m q = go (λ s. found_argument xs m s) (same x.name n) refl
      where
        go : (find (member_named n) (map as_member xs) ≡ some m → (a : Argument) × (find (argument_named n) xs ≡ some a) × (m ≡ as_member a)) → (b : Bool) → same x.name n ≡ b → (a : Argument) × (find (argument_named n) (x ∷ xs) ≡ some a) × (m ≡ as_member a)
        go rec true p = let s : some (as_member x) ≡ some m = rw p at q in (x, rw p, cc)
        go rec false p =
            let s : find (member_named n) (map as_member xs) ≡ some m = rw p at q in
            let f = rec s in
            (f.0, rw p f.1, f.2)

    no_argument : (xs : List Argument) → find (member_named n) (map as_member xs) ≡ none → find (argument_named n) xs ≡ none
    unfolding find
    no_argument [] q = refl
    no_argument (x ∷ xs) q = go (λ s. no_argument xs s) (same x.name n) refl
      where
        go : (find (member_named n) (map as_member xs) ≡ none → find (argument_named n) xs ≡ none) → (b : Bool) → same x.name n ≡ b → find (argument_named n) (x ∷ xs) ≡ none
        go rec true p =
            let s : some (as_member x) ≡ none = rw p at q in
            let z : ◌≡◌ {A = ℕ} 0 1 = cc in
            absurd (omega arith)
        go rec false p =
            let s : find (member_named n) (map as_member xs) ≡ none = rw p at q in
            rw p (rec s)

  module _ (e : ℕ) (w : MemberStands t book es e) where
    pub arguments_stand : (end : ℕ) → end ≡ next_of es e → Standing t book es (e + 1) end
    arguments_stand end q =
        let z : suc e ≡ e + 1 = omega arith in
        record {
          members = map as_member w.member.arguments;
          are = rw (q, ← z) (as_members (suc e) (next_of es e) w.member.arguments w.is.arguments);
          most = rw q w.most;
        }

    module _ (n : List ℕ) (end r : ℕ) (q : end ≡ next_of es e) (x : FindAnswer t book es (e + 1) end n r) where
      hit_is : (m : Member) → MemberEntry t book es e m → Hit t book es end n (map as_member m.arguments) r
      hit_is m y =
          let z : suc e ≡ e + 1 = omega arith in
          x (map as_member m.arguments) (rw (q, ← z) (as_members (suc e) (next_of es e) m.arguments y.arguments))

      pub argument_hit : r < end → ArgumentAnswer t book es e n r
      argument_hit l m y =
          let f = (hit_is m y).found l in
          let g = found_argument n m.arguments f.0 f.1 in
          record {
            found = λ k. (g.0, g.1, rw g.2 at f.2.entry, roomy_less f.5 (omega (arith, f.3)));
            none_is = λ k. absurd (omega (arith, w.most.most, q));
          }

      pub argument_none : end ≤ r → ArgumentAnswer t book es e n room_entries
      argument_none l m y = record { found = λ k. absurd (omega arith); none_is = λ k. no_argument n m.arguments ((hit_is m y).none_is l) }

-- none before entry e has its name
module _ (t book es : List ℕ) (from e : ℕ) where
  pub here_stands : Here t book es from e → Standing t book es from e
  here_stands h = record { members = h.before; are = h.are; most = roomy_less h.most (omega arith) }

  pub new_is : (at n r : ℕ) → at ≡ cell es e entry_name → n ≡ cell es e entry_size → FindAnswer t book es from e (part t at n) r → NewAnswer t book es from e (eqb r e)
  new_is at n r p q f before name type m x z =
      let w : part t at n ≡ name = rw (p, q) x.named.is in
      let g : r ≡ e = eqb-true r e z in
      rw w at ((f before m).none_is (omega arith))
