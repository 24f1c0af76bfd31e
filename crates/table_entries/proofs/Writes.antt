-- Entries written one beside the other.
use mathlib.Core.Path.{◌≡◌, refl, sym, ap, ◌∙◌}
use mathlib.Core.List.{List, [], ◌∷◌, ◌++◌, append_assoc}
use Prim.Native.Nat.{ℕ, suc, ◌+◌, ◌≤◌, ◌<◌}
use native.Mathlib.Omega.{arith}
use lib.ListN.{length, get_or}
use Rattle.paper_table.specs.TableNumbers.{tag_argument}
use Rattle.paper_table.specs.Types.{Argument, Member}
use Rattle.table_members.specs.Members.{member_from, argument_from}
use Rattle.table_entries.specs.Entries.{entry_at, next_of, Run, ArgumentEntry, MemberEntry, Entering, Written, One, MemberWritten}
use Rattle.table_entries.proofs.Runs.{Same, run_order, run_snoc, run_same, argument_same, member_same}

-- what is entered so far, and what is left
pub record Filling {A : Type 0} (P : List ℕ → ℕ → A → Type 0) (weight : List A → ℕ) (old es : List ℕ) (e k : ℕ) (all left : List A) : Type 0 where
  pub cells : length es ≡ length old
  pub before : (c : ℕ) → c < entry_at e → get_or es c 0 ≡ get_or old c 0
  pub done : List A
  pub run : Run (P es) es e k done
  pub all_are : all ≡ done ++ left
  pub size : k + weight left ≡ e + weight all

-- what is said of an entry holds while its cells, up to the next beside it, are as they were
abbrev pub Keeps : {A : Type 0} → (List ℕ → ℕ → A → Type 0) → Type 0
Keeps {A} P = (old es : List ℕ) (e : ℕ) (x : A) → e < next_of old e → Same old es (entry_at e) (entry_at (next_of old e)) → P old e x → P es e x

module _ {A : Type 0} (P : List ℕ → ℕ → A → Type 0) (weight : List A → ℕ) (old : List ℕ) (e : ℕ) (all : List A) where
  pub filling_start : Filling P weight old old e e all all
  filling_start = record { cells = refl; before = λ c h. refl; done = []; run = refl; all_are = refl; size = refl }

  module _ (es : List ℕ) (k : ℕ) (left : List A) (w : Filling P weight old es e k all left) where
    pub filling_order : e ≤ k
    filling_order = run_order (P es) es e k w.done w.run

    append_none : (xs : List A) → xs ++ [] ≡ xs
    append_none [] = refl
    append_none (x ∷ xs) = ap (λ (ys : List A). x ∷ ys) (append_none xs)

    pub filling_end : weight [] ≡ 0 → left ≡ [] → Written P weight old es e k all
    filling_end z n =
        let q : weight left ≡ 0 = ap weight n ∙ z in
        let d : w.done ≡ all = sym (append_none w.done) ∙ ap (λ (xs : List A). w.done ++ xs) (sym n) ∙ sym w.all_are in
        record {
          cells = w.cells;
          before = w.before;
          run = rw d at w.run;
          size = omega (arith, w.size, q);
        }

    pub filling_more : Keeps P → (es' : List ℕ) (next : ℕ) (x : A) (rest : List A) → left ≡ x ∷ rest → One P es es' k next x → k < next → k + weight left ≡ next + weight rest
        → Filling P weight old es' e next all rest
    filling_more keeps es' next x rest n o l s =
        let h : e ≤ k = filling_order in
        record {
          cells = o.cells ∙ w.cells;
          before = λ c m. o.before c (omega arith) ∙ w.before c m;
          done = w.done ++ x ∷ [];
          run = longer;
          all_are = w.all_are ∙ ap (λ (xs : List A). w.done ++ xs) n ∙ sym (append_assoc w.done (x ∷ []) rest);
          size = omega (arith, w.size, s);
        }
      where
        kept : Run (P es') es' e k w.done
        kept =
            run_same (P es) (P es') es es' e k (λ c m r. o.before c r) (λ j y a b d p. keeps es es' j y b (λ c m r. o.before c (omega arith)) p) e w.done (omega arith) w.run

        longer : Run (P es') es' e next (w.done ++ x ∷ [])
        longer =
            let q : next_of es' k ≡ next = o.next_is in
            rw q at (run_snoc (P es') es' e k w.done kept x o.is (omega arith))

module _ (t book : List ℕ) where
  pub arguments_keep : Keeps (ArgumentEntry t book)
  arguments_keep old es e a l s x = argument_same t book old es e a l s x

  pub members_keep : Keeps (MemberEntry t book)
  members_keep old es e m l s x = member_same t book old es e m l s x

  pub argument_one : (old es : List ℕ) (e : ℕ) (a : Argument) → Entering t book old es e (e + 1) a.name a.type → One (ArgumentEntry t book) old es e (e + 1) a
  argument_one old es e a x = record { cells = x.cells; before = x.before; is = record { entry = x.entry; next = omega (arith, x.next_is) }; next_is = x.next_is }

  -- the arguments, then the member before them
  pub member_written : (old mid es : List ℕ) (e f : ℕ) (m : Member) (xs : List Argument) → xs ≡ m.arguments → Written (ArgumentEntry t book) length old mid (e + 1) f xs
      → Entering t book mid es e f m.name m.type → MemberWritten t book old es e f m
  member_written old mid es e f m xs q a x =
      let r : Run (ArgumentEntry t book es) es (e + 1) f xs =
      run_same (ArgumentEntry t book mid) (ArgumentEntry t book es) mid es (e + 1) f (λ k h i. x.behind k (omega arith))
      (λ j y g h i p. argument_same t book mid es j y h (λ k u v. x.behind k (omega arith)) p) (e + 1) xs (omega arith) a.run in
      let z : e + 1 ≡ suc e = omega arith in
      record {
        one = record {
          cells = x.cells ∙ a.cells;
          before = λ k h. x.before k h ∙ a.before k (omega arith);
          is = record { entry = x.entry; arguments = rw (x.next_is, ← q, ← z) r };
          next_is = x.next_is;
        };
        size = omega (arith, a.size, ap (λ (ys : List Argument). length ys) q);
      }

  pub argument_entered : (old es : List ℕ) (e start stop : ℕ) → Entering t book old es e (e + 1) (member_from t tag_argument start stop).name (member_from t tag_argument start stop).type
      → One (ArgumentEntry t book) old es e (e + 1) (argument_from t start stop)
  unfolding member_from
  argument_entered old es e start stop x = argument_one old es e (argument_from t start stop) x
