-- A book: the tags, names and contents of a holder's fields, in one array of numbers, with an index of the names.
-- What its numbers say. No caller needs to know the hash.
-- Assumes nothing.
use Rattle.std.specs.Prelude.{◌≡◌, Bool, ◌&&◌, List, [], ◌∷◌, ℕ, zero, suc, ◌+◌, ◌*◌, ◌/◌, ◌%◌, ◌<◌, ◌≤◌, length, take, drop, get_or, eqb, leb}
use Rattle.paper.specs.Tokens.{same}
use Rattle.paper_table.specs.Lists.{first_at}

-- the n bytes of a text from `at` on
abbrev pub part : List ℕ → ℕ → ℕ → List ℕ
part s at n = take n (drop at s)

-- how many entries a book has room for, and how many buckets
abbrev pub room : ℕ
room = 256

-- where the columns begin: kinds at 0, then names, their sizes, contents' starts and ends, the count; next of each entry, first of each bucket, the seed
abbrev pub cell_name : ℕ
cell_name = 256

abbrev pub cell_size : ℕ
cell_size = 512

abbrev pub cell_start : ℕ
cell_start = 768

abbrev pub cell_end : ℕ
cell_end = 1024

abbrev pub cell_count : ℕ
cell_count = 1280

abbrev pub cell_next : ℕ
cell_next = 1281

abbrev pub cell_head : ℕ
cell_head = 1537

abbrev pub cell_seed : ℕ
cell_seed = 1793

abbrev pub book_size : ℕ
book_size = 1794

-- what an entry is looked for by
pub record Key : Type 0 where
  pub kind : ℕ
  pub name : List ℕ

abbrev pub key : ℕ → List ℕ → Key
key k n = record { kind = k; name = n }

abbrev pub count_in : List ℕ → ℕ
count_in book = get_or book cell_count 0

abbrev pub key_at : List ℕ → List ℕ → ℕ → Key
key_at t book j = key (get_or book j 0) (part t (get_or book (cell_name + j) 0) (get_or book (cell_size + j) 0))

-- the n entries from number j on
unfoldable pub keys_from : List ℕ → List ℕ → ℕ → ℕ → List Key
keys_from t book j zero = []
keys_from t book j (suc n) = key_at t book j ∷ keys_from t book (suc j) n

-- the entries of a book, whose names stand in the bytes t
abbrev pub keys_of : List ℕ → List ℕ → List Key
keys_of t book = keys_from t book 0 (count_in book)

-- an entry of a kind from low to high, and of this name
abbrev pub keyed : ℕ → ℕ → List ℕ → Key → Bool
keyed low high n k = leb low k.kind && (leb k.kind high && same k.name n)

-- the entries lie in the book, their names in the bytes
pub record Held (t book : List ℕ) : Type 0 where
  pub cells : length book ≡ book_size
  pub most : count_in book ≤ room
  pub within : (j : ℕ) → j < count_in book → get_or book (cell_name + j) 0 + get_or book (cell_size + j) 0 ≤ length t

-- a name's bucket, by the multiplier of a seed
abbrev pub seed_in : List ℕ → ℕ
seed_in book = get_or book cell_seed 0

abbrev pub hash_limit : ℕ
hash_limit = 2147483648

abbrev pub multiplier_of : ℕ → ℕ
multiplier_of seed = (1640531527 + 1013904226 * seed) % hash_limit

unfoldable pub hash_from : ℕ → ℕ → List ℕ → ℕ
hash_from m h [] = h
hash_from m h (b ∷ bs) = hash_from m ((h + b) * m % hash_limit) bs

abbrev pub hash_of : ℕ → List ℕ → ℕ
hash_of seed n = hash_from (multiplier_of seed) 0 n / 8388608

abbrev pub in_bucket : (List ℕ → ℕ) → ℕ → Key → Bool
in_bucket hash h k = eqb (hash k.name) h

-- the first entry, from number i on, that passes; their count if none does
unfoldable pub first_from : (Key → Bool) → List Key → ℕ → ℕ
first_from p keys i = i + first_at p (drop i keys)

abbrev pub no_key : Key
no_key = key 0 []

-- by the buckets that a hash gives: each bucket's first entry, and after each entry the next of its bucket, from number i on
pub record Chains (hash : List ℕ → ℕ) (book : List ℕ) (keys : List Key) (i : ℕ) : Type 0 where
  pub cells : length book ≡ book_size
  pub first : (h : ℕ) → h < room → get_or book (cell_head + h) 0 ≡ first_from (in_bucket hash h) keys i
  pub next : (j : ℕ) → i ≤ j → j < length keys → get_or book (cell_next + j) 0 ≡ first_from (in_bucket hash (hash (get_or keys j no_key).name)) keys (suc j)

-- what a book must be to be searched
pub record Indexed (t book : List ℕ) : Type 0 where
  pub held : Held t book
  pub chains : Chains (hash_of (seed_in book)) book (keys_of t book) 0

-- the entries are as they were; the links may not be
pub record Kept (old book : List ℕ) : Type 0 where
  pub cells : length book ≡ length old
  pub entries : (k : ℕ) → k < cell_next → get_or book k 0 ≡ get_or old k 0

-- the same, every bucket is at its end, and the seed is the same
pub record Cleared (old book : List ℕ) : Type 0 where
  pub kept : Kept old book
  pub seed_is : seed_in book ≡ seed_in old
  pub empty : (h : ℕ) → h < room → get_or book (cell_head + h) 0 ≡ count_in old

-- the same, and linked
pub record Linked (t old book : List ℕ) : Type 0 where
  pub kept : Kept old book
  pub indexed : Indexed t book
