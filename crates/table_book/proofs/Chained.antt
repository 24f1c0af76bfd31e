-- The chains of a book: how one more entry is put in front, and how a search goes along one.
use mathlib.Core.Path.{◌≡◌, refl, sym, ap, ◌∙◌}
use mathlib.Core.Bool.{Bool, true, false, ◌&&◌}
use mathlib.Core.List.{List}
use Prim.Native.Nat.{ℕ, suc, ◌+◌, ◌<◌, ◌≤◌}
use native.Mathlib.Omega.{arith}
use lib.ListN.{length, get_or, set, length-set}
use lib.Seq.{get_or-set_same, get_or-set_other}
use lib.Dec.{eqb, leb}
use borrow.Author.Tests.{eq-eqb, ne_eqb, eqb-true, eqb-false}
use Rattle.paper.specs.Tokens.{same}
use Rattle.paper_table.specs.Lists.{first_at}
use Rattle.paper_table.proofs.TextLaws.{same_sound}
use Rattle.table_book.specs.Book.{Key, no_key, room, cell_next, cell_head, cell_seed, book_size, keyed, first_from, in_bucket, seed_in, Chains, Kept}
use Rattle.table_book.proofs.Firsts.{first_here, first_step, first_end, first_all, first_jump, first_passes}

pub chains_none : (hash : List ℕ → ℕ) (book : List ℕ) (keys : List Key) (count : ℕ) → count ≡ length keys → length book ≡ book_size
    → ((h : ℕ) → h < room → get_or book (cell_head + h) 0 ≡ count) → Chains hash book keys count
chains_none hash book keys count e b f = record {
  cells = b;
  first = λ h w. f h w ∙ first_end (in_bucket hash h) keys count (omega arith);
  next = λ j u v. absurd (omega arith);
}

-- entry j in front of the bucket h; the seed is as it was
abbrev pub put_first : List ℕ → ℕ → ℕ → List ℕ
put_first book h j = set (set book (cell_next + j) (get_or book (cell_head + h) 0)) (cell_head + h) j

pub put_kept : (old book : List ℕ) (h j : ℕ) → Kept old book → Kept old (put_first book h j)
put_kept old book h j k = record {
  cells = length-set (set book (cell_next + j) v) (cell_head + h) j ∙ length-set book (cell_next + j) v ∙ k.cells;
  entries = λ i l.
      get_or-set_other (set book (cell_next + j) v) (cell_head + h) i j 0 (λ e. omega arith)
      ∙ get_or-set_other book (cell_next + j) i v 0 (λ e. omega arith) ∙ k.entries i l;
}
  where
    v : ℕ
    v = get_or book (cell_head + h) 0

pub put_seed : (book : List ℕ) (h j : ℕ) → h < room → j < room → seed_in (put_first book h j) ≡ seed_in book
put_seed book h j v w =
    get_or-set_other (set book (cell_next + j) (get_or book (cell_head + h) 0)) (cell_head + h) cell_seed j 0 (λ e. omega arith)
    ∙ get_or-set_other book (cell_next + j) cell_seed (get_or book (cell_head + h) 0) 0 (λ e. omega arith)

module _ (hash : List ℕ → ℕ) (book : List ℕ) (keys : List Key) (j h : ℕ) (c : Chains hash book keys (suc j)) (v : j < length keys) (most : length keys ≤ room) (hw : h < room) (e : h ≡ hash (get_or keys j no_key).name) where
  abbrev was : ℕ
  was = get_or book (cell_head + h) 0

  new_first : (g : ℕ) → g < room → get_or (put_first book h j) (cell_head + g) 0 ≡ first_from (in_bucket hash g) keys j
  new_first g l = go (eqb g h) refl
    where
      go : (b : Bool) → eqb g h ≡ b → get_or (put_first book h j) (cell_head + g) 0 ≡ first_from (in_bucket hash g) keys j
      go true q =
          let k : g ≡ h = eqb-true g h q in
          rw k (get_or-set_same (set book (cell_next + j) was) (cell_head + h) j 0 (omega (arith, c.cells, length-set book (cell_next + j) was))
          ∙ first_here (in_bucket hash h) keys j v (eq-eqb (hash (get_or keys j no_key).name) h (sym e)))
      go false q =
          let k : g ≡ h → ⊥ = eqb-false g h q in
          get_or-set_other (set book (cell_next + j) was) (cell_head + h) (cell_head + g) j 0 (λ z. k (omega arith))
          ∙ get_or-set_other book (cell_next + j) (cell_head + g) was 0 (λ z. omega arith)
          ∙ c.first g l ∙ first_step (in_bucket hash g) keys j v (ne_eqb (hash (get_or keys j no_key).name) g (λ z. k (sym (e ∙ z))))

  new_next : (i : ℕ) → j ≤ i → i < length keys → get_or (put_first book h j) (cell_next + i) 0 ≡ first_from (in_bucket hash (hash (get_or keys i no_key).name)) keys (suc i)
  new_next i l m = go (eqb i j) refl
    where
      go : (b : Bool) → eqb i j ≡ b → get_or (put_first book h j) (cell_next + i) 0 ≡ first_from (in_bucket hash (hash (get_or keys i no_key).name)) keys (suc i)
      go true q =
          let k : i ≡ j = eqb-true i j q in
          rw (k, ← e)
          (get_or-set_other (set book (cell_next + j) was) (cell_head + h) (cell_next + j) j 0 (λ z. omega arith)
          ∙ get_or-set_same book (cell_next + j) was 0 (omega (arith, c.cells)) ∙ c.first h hw)
      go false q =
          let k : i ≡ j → ⊥ = eqb-false i j q in
          get_or-set_other (set book (cell_next + j) was) (cell_head + h) (cell_next + i) j 0 (λ z. omega arith)
          ∙ get_or-set_other book (cell_next + j) (cell_next + i) was 0 (λ z. k (omega arith)) ∙ c.next i (omega arith) m

  -- entry j is put in front of its bucket
  pub chains_more : Chains hash (put_first book h j) keys j
  chains_more = record {
    cells = length-set (set book (cell_next + j) was) (cell_head + h) j ∙ length-set book (cell_next + j) was ∙ c.cells;
    first = new_first;
    next = new_next;
  }

-- an entry of another bucket is not the one looked for
apart : (hash : List ℕ → ℕ) (low high : ℕ) (n : List ℕ) (h : ℕ) → h ≡ hash n → (x : Key) → in_bucket hash h x ≡ false → keyed low high n x ≡ false
apart hash low high n h e x f = go (leb low x.kind) (leb x.kind high) (same x.name n) refl
  where
    go : (a b c : Bool) → same x.name n ≡ c → a && (b && c) ≡ false
    go a b true q = absurd (eqb-false (hash x.name) h f (ap hash (same_sound x.name n q) ∙ sym e))
    go true true false q = refl
    go true false false q = refl
    go false b false q = refl

-- What a search at k knows, of the name n in the bucket h: the first from k on is the first of all, and k is in the bucket.
pub record Sought (hash : List ℕ → ℕ) (keys : List Key) (low high : ℕ) (n : List ℕ) (h k : ℕ) : Type 0 where
  pub first : first_from (keyed low high n) keys k ≡ first_from (keyed low high n) keys 0
  pub bucket : k < length keys → hash (get_or keys k no_key).name ≡ h

-- it starts at the bucket's first, and goes on at the next
module _ (hash : List ℕ → ℕ) (keys : List Key) (low high : ℕ) (n : List ℕ) (h : ℕ) (e : h ≡ hash n) where
  pub sought_from : (i k : ℕ) → k ≡ first_from (in_bucket hash h) keys i → first_from (keyed low high n) keys i ≡ first_from (keyed low high n) keys 0 → Sought hash keys low high n h k
  sought_from i k q z = record {
    first = rw q (first_jump (keyed low high n) (in_bucket hash h) keys i (apart hash low high n h e) ∙ z);
    bucket = λ l. eqb-true _ _ (rw (← q) at (first_passes (in_bucket hash h) keys i (omega arith)));
  }

  pub sought_next : (k m : ℕ) → k < length keys → Sought hash keys low high n h k → keyed low high n (get_or keys k no_key) ≡ false
      → m ≡ first_from (in_bucket hash (hash (get_or keys k no_key).name)) keys (suc k) → Sought hash keys low high n h m
  sought_next k m l s f q =
      sought_from (suc k) m (q ∙ ap (λ (x : ℕ). first_from (in_bucket hash x) keys (suc k)) (s.bucket l)) (first_step (keyed low high n) keys k l f ∙ s.first)

  pub sought_here : (k : ℕ) → k < length keys → Sought hash keys low high n h k → keyed low high n (get_or keys k no_key) ≡ true → k ≡ first_at (keyed low high n) keys
  sought_here k l s f = first_here (keyed low high n) keys k l f ∙ s.first ∙ first_all (keyed low high n) keys

  pub sought_end : (k : ℕ) → length keys ≤ k → Sought hash keys low high n h k → k ≡ first_at (keyed low high n) keys
  sought_end k l s = first_end (keyed low high n) keys k l ∙ s.first ∙ first_all (keyed low high n) keys
