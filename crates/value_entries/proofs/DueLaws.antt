-- What a content makes due: its names are those of the arguments or members, and the next of them is the next that is due.
use mathlib.Core.Path.{◌≡◌, refl, sym, ap, ◌∙◌}
use mathlib.Core.Bool.{Bool}
use mathlib.Core.List.{List, [], ◌∷◌}
use Prim.Native.Nat.{ℕ}
use borrow.Author.Tests.{eq-eqb, ne_eqb}
use Rattle.paper.specs.Numbers.{kind_argument}
use Rattle.paper_table.specs.TableNumbers.{tag_argument}
use Rattle.paper_table.specs.Lists.{any_of, gather}
use Rattle.paper_table.specs.Types.{Argument, Member, member_named, argument_named}
use Rattle.table_members.specs.Members.{First, members_in, arguments_in, member_from, argument_from, NextMember}
use Rattle.std.specs.Prelude.{Option, Some, None}
use Rattle.table_fields.specs.declared.Field.{Field}
use Rattle.table_book.specs.Book.{part}
use Rattle.paper_values.specs.Values.{Name, Due}
use Rattle.paper_values.specs.Kinds.{due_of, due_argument}
use Rattle.value_kinds.proofs.KindLaws.{same_sym}
use Rattle.value_entries.specs.Entered.{dues_of, dues_in, dues_by, due_named, NextDue}

member_names : (x : Name) (ms : List Member) → any_of (due_named x) (dues_of ms) ≡ any_of (member_named x) ms
unfolding any_of gather
member_names x [] = refl
member_names x (m ∷ ms) = rw (same_sym x m.name, member_names x ms) refl

abbrev pub dues_of_arguments : List Argument → List Due
dues_of_arguments as' = gather (λ a. due_argument a ∷ []) as'

argument_names : (x : Name) (as' : List Argument) → any_of (due_named x) (dues_of_arguments as') ≡ any_of (argument_named x) as'
unfolding any_of gather
argument_names x [] = refl
argument_names x (a ∷ as') = rw (same_sym x a.name, argument_names x as') refl

module _ (kind : ℕ) (t : List ℕ) where
  pub by_arguments : (start end : ℕ) → kind ≡ kind_argument → dues_by kind t start end ≡ dues_of_arguments (arguments_in t start end)
  by_arguments start end e = rw (eq-eqb kind kind_argument e) refl

  pub by_members : (start end : ℕ) → (kind ≡ kind_argument → ⊥) → dues_by kind t start end ≡ dues_in t start end
  by_members start end e = rw (ne_eqb kind kind_argument e) refl

  -- by a name
  pub due_argument_is : (start end : ℕ) (x : Name) → kind ≡ kind_argument → any_of (argument_named x) (arguments_in t start end) ≡ any_of (due_named x) (dues_by kind t start end)
  due_argument_is start end x e = sym (ap (any_of (due_named x)) (by_arguments start end e) ∙ argument_names x (arguments_in t start end))

  pub due_member : (start end : ℕ) (x : Name) → (kind ≡ kind_argument → ⊥) → any_of (member_named x) (members_in t start end) ≡ any_of (due_named x) (dues_by kind t start end)
  due_member start end x e = sym (ap (any_of (due_named x)) (by_members start end e) ∙ member_names x (members_in t start end))

  -- one by one
  pub next_argument : (at end start stop : ℕ) → kind ≡ kind_argument → First at end start stop (arguments_in t at end) (argument_from t start stop) (arguments_in t stop end) → NextDue kind t at end (Some (record { tag = tag_argument; start = start; end = stop }))
  unfolding gather member_from
  next_argument at end start stop e f = record {
    lies = f.lies;
    all_are = by_arguments at end e ∙ ap dues_of_arguments f.all_are ∙ ap (λ (ds : List Due). due_argument (argument_from t start stop) ∷ ds) (sym (by_arguments stop end e));
  }

  pub no_argument : (at end : ℕ) → kind ≡ kind_argument → arguments_in t at end ≡ [] → NextDue kind t at end None
  unfolding gather
  no_argument at end e f = by_arguments at end e ∙ ap dues_of_arguments f

  pub next_member : (at end : ℕ) → (kind ≡ kind_argument → ⊥) → (x : Option Field) → NextMember t at end x → NextDue kind t at end x
  unfolding gather
  next_member at end e (Some it) f = record {
    lies = f.lies;
    all_are = by_members at end e ∙ ap dues_of f.all_are ∙ ap (λ (ds : List Due). due_of (member_from t it.tag it.start it.end) ∷ ds) (sym (by_members it.end end e));
  }
  next_member at end e None f = by_members at end e ∙ ap dues_of f

-- a name whose place was read
pub due_here : (ds : List Due) (s : List ℕ) (at at' l l' : ℕ) (b : Bool) → at ≡ at' → l ≡ l' → b ≡ any_of (due_named (part s at l)) ds → b ≡ any_of (due_named (part s at' l')) ds
due_here ds s at at' l l' b p q e = rw (← p, ← q) e
