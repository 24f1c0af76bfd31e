-- A type reference's wrappers as one number, and the reading of its text.
-- Assumes nothing.
use Rattle.std.specs.Prelude.{◌≡◌, Bool, not, cond, Option, Some, None, List, ℕ, ◌+◌, ◌*◌, ◌%◌, ◌≤◌, eqb}
use Rattle.std.proofs.Math.Option.{none, some}
use Rattle.std.proofs.Math.Seq.{slice}
use Rattle.paper_table.specs.Lists.{first_at}
use Rattle.paper_table.specs.References.{Ref, named, list_of, non_null, base_of, byte_bang, byte_bracket_l, byte_bracket_r, ref_of}
use Rattle.table_fields.specs.declared.Reference.{Reference}

-- as a row's extra has them: from outside in, lowest two bits first, 1 list, 2 Non-Null
unfoldable pub pack_of : Ref → ℕ
pack_of (named n) = 0
pack_of (list_of r) = 4 * pack_of r + 1
pack_of (non_null r) = 4 * pack_of r + 2

-- seven fit
abbrev pub pack_limit : ℕ
pack_limit = 16384

-- the outermost is Non-Null
abbrev pub is_marked : ℕ → Bool
is_marked wrappers = eqb (wrappers % 4) 2

-- the `[` that a text begins with
abbrev pub bracket_size : List ℕ → ℕ
bracket_size s = first_at (λ b. not (eqb b byte_bracket_l)) s

-- the wrapper that a byte behind a reference adds, by whether that is Non-Null and how many lists are open; 0 is none
abbrev pub wrapper_of : Bool → ℕ → ℕ → ℕ
wrapper_of marked lists b = cond (eqb b byte_bang) (cond marked 0 2) (cond (eqb b byte_bracket_r) (cond (eqb lists 0) 0 1) 0)

-- the part from `start` up to `end` is a reference's text, whose name lies from `from` up to `to`
pub record Refers (t : List ℕ) (start end from to wrappers : ℕ) : Type 0 where
  pub ref : Ref
  pub is : ref_of (slice start end t) ≡ some ref
  pub base : base_of ref ≡ slice from to t
  pub packs : wrappers ≡ pack_of ref % pack_limit
  pub begins : start ≤ from
  pub order : from ≤ to
  pub within : to ≤ end

abbrev pub RefersRead : List ℕ → ℕ → ℕ → Option Reference → Type 0
RefersRead t start end (Some r) = Refers t start end r.start r.end r.wrappers
RefersRead t start end None = ref_of (slice start end t) ≡ none
