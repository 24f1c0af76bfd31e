-- A walk to the first entry of a name.
use mathlib.Core.Path.{◌≡◌, refl, sym, ap, ◌∙◌}
use mathlib.Core.Bool.{Bool, true, false}
use mathlib.Core.Option.{none, some}
use mathlib.Core.List.{List, [], ◌∷◌}
use Prim.Native.Nat.{ℕ, ◌≤◌, ◌<◌}
use native.Mathlib.Omega.{arith}
use Rattle.paper.specs.Tokens.{same}
use Rattle.paper_table.specs.Lists.{find}
use Rattle.paper_table.specs.Types.{Member, member_named}
use Rattle.table_entries.specs.Entries.{Roomy, key_of, next_of, Members, MemberEntry, name_at, NameStands, Standing, FindAnswer}
use Rattle.table_entries.proofs.Runs.{run_order, roomy_less}

module _ {A : Type 0} (p : A → Bool) where
  find_nil : find p [] ≡ none
  unfolding find
  find_nil = refl

  find_here : (x : A) (xs : List A) → p x ≡ true → find p (x ∷ xs) ≡ some x
  unfolding find
  find_here x xs e = rw e

  find_on : (x : A) (xs : List A) → p x ≡ false → find p (x ∷ xs) ≡ find p xs
  unfolding find
  find_on x xs e = rw e

-- what is found from here on is what is found of all
pub record Looking (t book es : List ℕ) (from end : ℕ) (n : List ℕ) (e : ℕ) : Type 0 where
  pub left : List Member
  pub are : Members t book es e end left
  pub found_is : (ms : List Member) → Members t book es from end ms → (rest : List Member) × Members t book es e end rest × (find (member_named n) ms ≡ find (member_named n) rest)

pub looking_start : (t book es : List ℕ) (from end : ℕ) (n : List ℕ) → Standing t book es from end → Looking t book es from end n from
looking_start t book es from end n s = record { left = s.members; are = s.are; found_is = λ ms r. (ms, r, refl) }

module _ (t book es : List ℕ) (from end : ℕ) (n : List ℕ) (e : ℕ) (w : Looking t book es from end n e) where
  pub looking_within : e ≤ end
  looking_within = run_order (MemberEntry t book es) es e end w.left w.are

  none_left : end ≤ e → (rest : List Member) → Members t book es e end rest → find (member_named n) rest ≡ none
  none_left h [] r = find_nil (member_named n)
  none_left h (m ∷ rest) r = absurd (omega (arith, r.1, run_order (MemberEntry t book es) es (next_of es e) end rest r.2))

  pub looking_end : end ≤ e → FindAnswer t book es from end n e
  looking_end h ms r =
      let q = w.found_is ms r in
      record { found = λ l. absurd (omega arith); none_is = λ l. q.2 ∙ none_left h q.0 q.1; within = looking_within }

  module _ (l : e < end) where
    first_is : (rest : List Member) → Members t book es e end rest → (m : Member) × (others : List Member) × MemberEntry t book es e m × (e < next_of es e) × Members t book es (next_of es e) end others × (rest ≡ m ∷ others)
    first_is [] r = absurd (omega arith)
    first_is (m ∷ others) r = (m, others, r.0, r.1, r.2, refl)

    pub looking_less : (e < next_of es e) × (next_of es e ≤ end)
    looking_less =
        let f = first_is w.left w.are in
        (f.3, run_order (MemberEntry t book es) es (next_of es e) end f.1 f.4)

    pub name_stands : Roomy es end → NameStands t es e
    name_stands h =
        let f = first_is w.left w.are in
        record {
          most = roomy_less h (omega arith);
          within = f.2.entry.named.within;
          key_is = f.2.entry.key_is ∙ ap key_of (sym f.2.entry.named.is);
        }

    pub looking_here : Roomy es end → {b : Bool} → b ≡ same (name_at t es e) n → b ≡ true → FindAnswer t book es from end n e
    looking_here o s h ms r =
        let q = w.found_is ms r in
        let f = first_is q.0 q.1 in
        let y : same f.0.name n ≡ true = ap (λ (x : List ℕ). same x n) (sym f.2.entry.named.is) ∙ sym s ∙ h in
        record {
          found = λ k. (f.0, q.2 ∙ ap (find (member_named n)) f.5 ∙ find_here (member_named n) f.0 f.1 y, f.2, f.3, looking_less.1, roomy_less o looking_less.1);
          none_is = λ k. absurd (omega arith);
          within = looking_within;
        }

    pub looking_on : {b : Bool} → b ≡ same (name_at t es e) n → b ≡ false → Looking t book es from end n (next_of es e)
    looking_on s h =
        let g = first_is w.left w.are in
        record {
          left = g.1;
          are = g.4;
          found_is = λ ms r.
              let q = w.found_is ms r in
              let f = first_is q.0 q.1 in
              let y : same f.0.name n ≡ false = ap (λ (x : List ℕ). same x n) (sym f.2.entry.named.is) ∙ sym s ∙ h in
              (f.1, f.4, q.2 ∙ ap (find (member_named n)) f.5 ∙ find_on (member_named n) f.0 f.1 y);
        }
