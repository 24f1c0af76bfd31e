-- Which objects an interface or union can be, in bits: what the numbers say.
-- Assumes nothing.
use Rattle.std.specs.Prelude.{◌≡◌, true, ◌⊎◌, List, ℕ, ◌+◌, ◌*◌, ◌/◌, ◌%◌, ◌^◌, ◌<◌, length, get_or}
use Rattle.paper_table.specs.Types.{table_of, can_be}
use Rattle.table_book.specs.Book.{room, count_in}
use Rattle.table_types.specs.Booked.{NumberMeant}

-- a bit for each pair of definitions
abbrev pub bits_size : ℕ
bits_size = 2048

-- the bit of the interface or union i and the object j
abbrev pub cell_of : ℕ → ℕ → ℕ
cell_of i j = 8 * j + i / 32

abbrev pub bit_at : List ℕ → ℕ → ℕ → ℕ
bit_at bits i j = get_or bits (cell_of i j) 0 / 2 ^ (i % 32) % 2

-- whatever names mean them, definition i can be the object j
abbrev pub CanBe : List ℕ → List ℕ → ℕ → ℕ → Type 0
CanBe t book i j = (a o : List ℕ) → NumberMeant t book a i → NumberMeant t book o j → can_be (table_of t) a o ≡ true

-- each bit that is set is right
pub record Possible (t book bits : List ℕ) : Type 0 where
  pub size : length bits ≡ bits_size
  pub right : (i j : ℕ) → i < count_in book → j < count_in book → bit_at bits i j ≡ 1 → CanBe t book i j

-- no bit is set
pub record Blank (bits : List ℕ) : Type 0 where
  pub size : length bits ≡ bits_size
  pub none_set : (k : ℕ) → get_or bits k 0 ≡ 0

-- no other bit is set than before, but that of i and j
pub record Marked (old bits : List ℕ) (i j : ℕ) : Type 0 where
  pub size : length bits ≡ length old
  pub set_are : (x y : ℕ) → x < room → y < room → bit_at bits x y ≡ 1 → (bit_at old x y ≡ 1) ⊎ ((x ≡ i) × (y ≡ j))
