-- The numbers that document 01 fixes for walks, by name; `src/lib.rt` has each again in capitals.
-- States: 01, "Sizes and refusals" and "Plan and walk".
-- Assumes nothing.
use Rattle.std.specs.Prelude.{ℕ}

-- how many pairs a walk may list, and how many blocks it may take
abbrev pub most_pairs : ℕ
most_pairs = 512

abbrev pub most_walked : ℕ
most_walked = 64

-- the fixed size of its output, in numbers; and how many variable bytes are lent
abbrev pub pairs_size : ℕ
pairs_size = 1024

abbrev pub variables_size : ℕ
variables_size = 64

-- the column "No."
abbrev pub refuse_walk : ℕ
refuse_walk = 14

abbrev pub refuse_too_many_pairs : ℕ
refuse_too_many_pairs = 15
