-- Entries and items by their rows.
-- Assumes nothing.
use Rattle.std.specs.Prelude.{◌≡◌, Bool, ◌&&◌, cond, Option, Some, None, List, [], ◌∷◌, ℕ, zero, suc, ◌+◌, ◌<◌, eqb}
use Rattle.std.proofs.Math.Option.{Option as Optional, none, some}
use Rattle.paper.specs.Numbers.{kind_argument}
use Rattle.paper.specs.Tokens.{same}
use Rattle.paper_table.specs.Lists.{gather}
use Rattle.paper_table.specs.Types.{Member}
use Rattle.paper_query.specs.Constructs.{Doc, kind_of, parent_of, name_of}
use Rattle.table_fields.specs.declared.Field.{Field}
use Rattle.table_members.specs.Members.{First, members_in, arguments_in, member_from}
use Rattle.query_rows.specs.Rowed.{rows_in, Rowed}
use Rattle.query_subtrees.specs.Past.{Pasts, Nested}
use Rattle.paper_values.specs.Values.{Name, At, Due}
use Rattle.paper_values.specs.Kinds.{due_of, due_argument}

-- the rows of a text in preorder, each with the row past its subtree
pub record Treed (s rows : List ℕ) (n : ℕ) (past : List ℕ) : Type 0 where
  pub rowed : Rowed s rows n
  pub pasts : Pasts (rows_in rows n) past
  pub nested : Nested (rows_in rows n)

-- row c is an entry of the kind k right below row h
abbrev pub is_entry : Doc → ℕ → ℕ → ℕ → Bool
is_entry d k h c = eqb (parent_of d c) h && eqb (kind_of d c) k

-- the names of the entries among the m rows behind h, the last first
unfoldable pub names_before : Doc → ℕ → ℕ → ℕ → List Name
names_before d k h zero = []
names_before d k h (suc m) = cond (is_entry d k h (h + 1 + m)) (name_of d (h + 1 + m) ∷ names_before d k h m) (names_before d k h m)

-- the first entry of the name x among the m rows from c on; one past them if there is none
unfoldable pub entry_at : Doc → ℕ → ℕ → Name → ℕ → ℕ → ℕ
entry_at d k h x zero c = c
entry_at d k h x (suc m) c = cond (is_entry d k h c && same (name_of d c) x) c (entry_at d k h x m (c + 1))

-- the first row right below h among the m rows from c on; one past them if there is none
unfoldable pub child_at : Doc → ℕ → ℕ → ℕ → ℕ
child_at d h zero c = c
child_at d h (suc m) c = cond (eqb (parent_of d c) h) c (child_at d h m (c + 1))

-- what the members in a content make due
abbrev pub dues_of : List Member → List Due
dues_of ms = gather (λ m. due_of m ∷ []) ms

abbrev pub dues_in : List ℕ → ℕ → ℕ → List Due
dues_in t start end = dues_of (members_in t start end)

-- what a content makes due: a field's arguments for entries of kind 6, a definition's members for others
abbrev pub dues_by : ℕ → List ℕ → ℕ → ℕ → List Due
dues_by kind t start end = cond (eqb kind kind_argument) (gather (λ a. due_argument a ∷ []) (arguments_in t start end)) (dues_in t start end)

abbrev pub due_named : Name → Due → Bool
due_named x d = same x d.name

-- the first that is due from `at` on was found there, by the tag and content of an argument or a member
abbrev pub NextDue : ℕ → List ℕ → ℕ → ℕ → Option Field → Type 0
NextDue kind t at end (Some f) = First at end f.start f.end (dues_by kind t at end) (due_of (member_from t f.tag f.start f.end)) (dues_by kind t f.end end)
NextDue kind t at end None = dues_by kind t at end ≡ []

-- the row r of this text, if there is one, or n
abbrev pub Marks : ℕ → ℕ → Optional At → ℕ → Type 0
Marks n text none r = r ≡ n
Marks n text (some e) r = (r < n) × (e ≡ record { text = text; row = r })
