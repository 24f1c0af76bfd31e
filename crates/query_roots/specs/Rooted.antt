-- The root that was found.
-- Assumes nothing.
use Rattle.std.specs.Prelude.{◌≡◌, Bool, Option, Some, None, List, ℕ, eqb}
use Rattle.std.proofs.Math.Option.{none, some}
use Rattle.paper_table.specs.TableNumbers.{tag_query_root}
use Rattle.paper_table.specs.Lists.{bytes, find}
use Rattle.paper_table.specs.Types.{Member, table_of, name_only}
use Rattle.paper_query.specs.Enclosing.{root_of}
use Rattle.table_fields.specs.Fields.{Bounds}
use Rattle.table_members.specs.Members.{members_in, member_from, Finds}
use Rattle.table_fields.specs.declared.Field.{Field}
use Rattle.query_roots.specs.declared.Root.{Root}
use Rattle.query_roots.specs.declared.Root.TheVariants.{Written, Query}

-- the first member of a tag was found there
abbrev pub tagged : ℕ → Member → Bool
tagged k m = eqb m.tag k

abbrev pub FindTagged : List ℕ → ℕ → ℕ → ℕ → Option Field → Type 0
FindTagged t at end k (Some f) = Finds at end f.start f.end (find (tagged k) (members_in t at end)) (member_from t f.tag f.start f.end)
FindTagged t at end k None = find (tagged k) (members_in t at end) ≡ none

-- the root that record 8 writes
pub record RootWritten (t : List ℕ) (x tag start end : ℕ) : Type 0 where
  pub is : root_of (table_of t) x ≡ some (member_from t tag start end)
  pub bounds : Bounds t start end

abbrev pub RootFinds : List ℕ → ℕ → Option Root → Type 0
RootFinds t x (Some (Written tag start end)) = RootWritten t x tag start end
RootFinds t x (Some Query) = root_of (table_of t) x ≡ some (name_only tag_query_root (bytes "Query"))
RootFinds t x None = root_of (table_of t) x ≡ none
