-- What the sub-type test on packed wrappers answers.
-- Assumes nothing.
use Rattle.std.specs.Prelude.{◌≡◌, Bool, ℕ}
use Rattle.paper.specs.Tokens.{same}
use Rattle.paper_table.specs.References.{Ref, base_of}
use Rattle.paper_table.specs.SubTypes.{sub_test}
use Rattle.table_fields.specs.Wrappers.{pack_of}

-- q answers whether every reference of the wrappers o is a sub-type of every reference of the wrappers i,
-- where their base names are the same or not, and the second's can be the first's or not
abbrev pub SubAnswer : Bool → Bool → ℕ → ℕ → Bool → Type 0
SubAnswer alike can o i q = (r s : Ref) → pack_of r ≡ o → pack_of s ≡ i → same (base_of r) (base_of s) ≡ alike → q ≡ sub_test (λ a b. can) r s
