-- How the links of a book are made, from the last entry to the first.
use mathlib.Core.Path.{◌≡◌, refl, sym, ap, subst, ◌∙◌}
use mathlib.Core.List.{List}
use Prim.Native.Nat.{ℕ, suc, ◌+◌, ◌-◌, ◌<◌, ◌≤◌}
use native.Mathlib.Omega.{arith}
use lib.ListN.{length, get_or, set, length-set}
use lib.Seq.{get_or-set_same, get_or-set_other}
use Rattle.table_book.specs.Book.{Key, no_key, part, room, cell_name, cell_size, cell_seed, book_size, count_in, keys_of, Held, seed_in, hash_of, Chains, Kept, Cleared, Linked}
use Rattle.table_book.proofs.Keys.{keys_count, keys_at, keys_kept, held_kept, count_kept}
use Rattle.table_book.proofs.Chained.{chains_none, chains_more, put_first, put_kept, put_seed}

-- the entries from j on are linked
pub record Linking (t old book : List ℕ) (j : ℕ) : Type 0 where
  pub held : Held t old
  pub kept : Kept old book
  pub seed_is : seed_in book ≡ seed_in old
  pub chains : Chains (hash_of (seed_in old)) book (keys_of t old) j
  pub most : j ≤ count_in old

pub linking_start : (t first old : List ℕ) {j : ℕ} → Held t first → Cleared first old → j ≡ count_in old → Linking t old old j
linking_start t first old {j = j} h c e = record {
  held = held_kept t first old c.kept h;
  kept = record { cells = refl; entries = λ k l. refl };
  seed_is = refl;
  chains =
      chains_none (hash_of (seed_in old)) old (keys_of t old) j (e ∙ sym (keys_count t old)) (c.kept.cells ∙ h.cells)
      (λ g l. c.empty g l ∙ sym (e ∙ count_kept t first old c.kept));
  most = omega arith;
}

module _ (t old book : List ℕ) {j : ℕ} (l : Linking t old book j) (p : 0 < j) where
  pub linking_room : j - 1 < room
  linking_room = omega (arith, l.most, l.held.most)

  pub linking_cells : length book ≡ length old
  linking_cells = l.kept.cells

  pub linking_within : {a n : ℕ} → a ≡ get_or book (cell_name + (j - 1)) 0 → n ≡ get_or book (cell_size + (j - 1)) 0 → a + n ≤ length t
  linking_within u v =
      omega (arith, u, v, (held_kept t old book l.kept l.held).within (j - 1) (omega (arith, l.most, count_kept t old book l.kept)))

  pub linking_more : {a n h : ℕ} {book' : List ℕ} → a ≡ get_or book (cell_name + (j - 1)) 0 → n ≡ get_or book (cell_size + (j - 1)) 0
      → h ≡ hash_of (seed_in old) (part t a n) → h < room → book' ≡ put_first book h (j - 1) → Linking t old book' (j - 1)
  linking_more {a = a} {n = n} {h = h} u v e w q =
      let i : j ≡ suc (j - 1) = omega arith in
      let k : j - 1 < count_in old = omega (arith, l.most) in
      let r : j - 1 < room = omega (arith, l.held.most) in
      let y : a ≡ get_or old (cell_name + (j - 1)) 0 = u ∙ l.kept.entries (cell_name + (j - 1)) (omega arith) in
      let z : n ≡ get_or old (cell_size + (j - 1)) 0 = v ∙ l.kept.entries (cell_size + (j - 1)) (omega arith) in
      let g : h ≡ hash_of (seed_in old) (get_or (keys_of t old) (j - 1) no_key).name = e ∙ rw (y, z) (sym (ap (λ (x : Key). hash_of (seed_in old) x.name) (keys_at t old (j - 1) k))) in
      rw q (record {
        held = l.held;
        kept = put_kept old book h (j - 1) l.kept;
        seed_is = put_seed book h (j - 1) w r ∙ l.seed_is;
        chains =
            chains_more (hash_of (seed_in old)) book (keys_of t old) (j - 1) h (subst (λ (x : ℕ). Chains (hash_of (seed_in old)) book (keys_of t old) x) i l.chains) (omega (arith, keys_count t old))
            (omega (arith, keys_count t old, l.held.most)) w g;
        most = omega (arith, l.most);
      })

pub linking_end : (t first old book : List ℕ) {j : ℕ} → Cleared first old → Linking t old book j → j ≡ 0 → Linked t first book
linking_end t first old book {j = j} c l e = record {
  kept = record { cells = l.kept.cells ∙ c.kept.cells; entries = λ k w. l.kept.entries k w ∙ c.kept.entries k w };
  indexed = record {
    held = held_kept t old book l.kept l.held;
    chains = rw (l.seed_is, keys_kept t old book l.kept l.held.most) (subst (λ (x : ℕ). Chains (hash_of (seed_in old)) book (keys_of t old) x) e l.chains);
  };
}

-- the seed is set; a book linked again
pub seed_kept : (book : List ℕ) (seed : ℕ) → Kept book (set book cell_seed seed)
seed_kept book seed = record { cells = length-set book cell_seed seed; entries = λ k l. get_or-set_other book cell_seed k seed 0 (λ e. omega arith) }

pub seed_set : (book : List ℕ) (seed : ℕ) → length book ≡ book_size → seed_in (set book cell_seed seed) ≡ seed
seed_set book seed e = get_or-set_same book cell_seed seed 0 (omega arith)

pub kept_on : {old book new : List ℕ} → Kept old book → Kept book new → Kept old new
kept_on k l = record { cells = l.cells ∙ k.cells; entries = λ i w. l.entries i w ∙ k.entries i w }

pub linked_on : {t old book new : List ℕ} → Kept old book → Linked t book new → Linked t old new
linked_on k l = record { kept = kept_on k l.kept; indexed = l.indexed }
