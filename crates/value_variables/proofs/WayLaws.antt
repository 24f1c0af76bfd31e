-- The three ways of one variable: an entry of the variables text, a default, nothing.
use mathlib.Core.Path.{◌≡◌, refl, sym, ap, subst}
use mathlib.Core.Bool.{Bool, true, false, cond}
use mathlib.Core.Option.{Option, none, some}
use mathlib.Core.List.{List, [], ◌∷◌}
use Prim.Native.Nat.{ℕ, ◌+◌, ◌-◌, ◌*◌, ◌≤◌, ◌<◌}
use native.Mathlib.Omega.{arith}
use lib.ListN.{length}
use lib.Seq.{sets}
use lib.Dec.{ltb}
use borrow.Author.Tests.{ltb-true}
use Rattle.paper.specs.Numbers.{row_size, kind_object_field, input_document, input_variables}
use Rattle.paper_table.specs.References.{Ref}
use Rattle.paper_query.specs.Constructs.{Doc, count, name_of}
use Rattle.paper_query.specs.Opening.{if_below}
use Rattle.table_book.specs.Book.{part}
use Rattle.query_rows.specs.Rowed.{row_in, doc_of}
use Rattle.query_rows.proofs.RowsIn.{rows_count, name_within}
use Rattle.paper_values.specs.Values.{Name, At, Due, Tree, Pairs, no_pairs, Out, Got}
use Rattle.paper_values.specs.Computed.{Given, pair_first, missing_due, entry_of, constant, givens}
use Rattle.paper_values.specs.RowValues.{placed, value_of_row, entries_from}
use Rattle.paper_values.specs.DocumentDues.{declared_ref, default_row, value_if, due_variable}
use Rattle.paper_values.specs.CallRules.{no_variables}
use Rattle.value_kinds.specs.Dues.{DueIs, Fits}
use Rattle.std.proofs.Common.{Option as Maybe, Some, None, Result}
use Rattle.value_kinds.specs.declared.RefusedRow.{RefusedRow}
use Rattle.value_definitions.specs.Definitions.{told as defaultTold}
use Rattle.value_held.specs.Given.{kinds_in, coerced, givens_at, ToldPairs}
use Rattle.value_held.specs.Holding.{Kept, HeldAt, Gives, Names, Knows, held_from}
use Rattle.value_variables.specs.Variables.{small, told, Asked, Same, Grows, givens_in, only_at, Told}
use Rattle.value_variables.specs.declared.WrittenPairs.{WrittenPairs}
use Rattle.value_variables.specs.declared.RefusedAt.{RefusedAt}
use Rattle.value_variables.proofs.KeptLaws.{keep_same, keep_held, small_due, small_fits}
use Rattle.value_variables.proofs.VariableLaws.{only_given, only_default, only_nothing, told_first, told_missing}

-- no variable's name is looked up
pub no_names : (s held : List ℕ) → Names s held 0
no_names s held = record { size = omega arith; within = λ j h. absurd (omega (arith, h)) }

nobody : (s held : List ℕ) → Knows s held 0 no_variables
unfolding held_from
nobody s held x = refl

-- the row of a default
pub default_some : (d : Doc) (v i : ℕ) (r : Maybe ℕ) → r ≡ defaultTold (default_row d v) → r ≡ Some i → default_row d v ≡ some i
default_some d v i r q e = go (default_row d v) q
  where
    go : (o : Option ℕ) → r ≡ defaultTold o → o ≡ some i
    go none q = absurd (never q)
      where
        never : r ≡ None → ⊥
        never q = let z : ◌≡◌ {A = ℕ} 0 1 = cc in omega arith
    go (some j) q = let z : j ≡ i = cc in ap some z

pub default_none : (d : Doc) (v : ℕ) (r : Maybe ℕ) → r ≡ defaultTold (default_row d v) → r ≡ None → default_row d v ≡ none
default_none d v r q e = go (default_row d v) q
  where
    go : (o : Option ℕ) → r ≡ defaultTold o → o ≡ none
    go none q = refl
    go (some j) q = absurd (never q)
      where
        never : r ≡ Some j → ⊥
        never q = let z : ◌≡◌ {A = ℕ} 0 1 = cc in omega arith

below : (n i j : ℕ) → if_below n i ≡ some j → j < n
below n i j q = go (ltb i n) refl q
  where
    go : (b : Bool) → ltb i n ≡ b → cond b (some i) none ≡ some j → j < n
    go true e q = let z : i ≡ j = cc in let l = ltb-true i n e in omega (arith, z, l)
    go false e q = absurd (never q)
      where
        never : none ≡ some j → ⊥
        never q = let z : ◌≡◌ {A = ℕ} 0 1 = cc in omega arith

pub default_there : (s rows : List ℕ) (n v i : ℕ) → default_row (doc_of s rows n) v ≡ some i → i < n
default_there s rows n v i q = subst (λ (k : ℕ). i < k) (rows_count rows n) (below (count (doc_of s rows n)) _ i q)

module _ (t book s rows : List ℕ) (n : ℕ) (past s1 rows1 : List ℕ) (n1 : ℕ) (past1 : List ℕ) (a : Asked t book s rows n past s1 rows1 n1 past1) (v many : ℕ) (held : List ℕ)
    (room : row_size * (many + 1) ≤ length held) (limit from : ℕ) (p p' : List ℕ) (name size sort number wrappers : ℕ) (en : name ≡ (row_in rows n v).name_start) (es : size ≡ (row_in rows n v).name_length)
    (due : DueIs t book (declared_ref (doc_of s rows n) v) sort number wrappers) (fits : Fits book sort number wrappers) where
  abbrev d : Doc
  d = doc_of s rows n

  abbrev d1 : Doc
  d1 = doc_of s1 rows1 n1

  abbrev ref : Ref
  ref = declared_ref d v

  abbrev var : At × Due
  var = (placed input_document d v, due_variable d v)

  spelt : part s name size ≡ name_of d v
  spelt = rw (en, es) refl

  pub named_within : name + size ≤ length s
  named_within = rw (en, es) (name_within s rows n a.ready.treed.rowed v)

  -- the entries of the variables text
  given_is : givens_at t no_variables input_variables d1 n1 33 kind_object_field 0 ≡ givens_in t d1
  given_is = ap (λ (k : ℕ). givens (kinds_in t) no_variables (entries_from input_variables d1 (value_of_row input_variables d1) kind_object_field 0 (k - 1) 1)) (sym (rows_count rows1 n1))

  module _ (r : ℕ) (g : Gives s1 held 0 d1 n1 33 kind_object_field 0 (part s name size) r) where
    entry_some : r < n1 → entry_of (name_of d v) (givens_in t d1) ≡ some (λ q. coerced t no_variables input_variables d1 33 (r + 1) q)
    entry_some h =
        subst (λ (gs : List Given). entry_of (name_of d v) gs ≡ some (λ q. coerced t no_variables input_variables d1 33 (r + 1) q)) given_is
        (subst (λ (x : Name). entry_of x (givens_at t no_variables input_variables d1 n1 33 kind_object_field 0) ≡ some (λ q. coerced t no_variables input_variables d1 33 (r + 1) q)) spelt
        (g.some_is h t no_variables input_variables (nobody s1 held)))

    entry_none : n1 ≤ r → entry_of (name_of d v) (givens_in t d1) ≡ none
    entry_none h =
        subst (λ (gs : List Given). entry_of (name_of d v) gs ≡ none) given_is
        (subst (λ (x : Name). entry_of x (givens_at t no_variables input_variables d1 n1 33 kind_object_field 0) ≡ none) spelt
        (g.none_is h t no_variables input_variables (nobody s1 held)))

    abbrev Goal : List ℕ → Result WrittenPairs RefusedAt → Type 0
    Goal held' x = Told t book s rows n s1 rows1 n1 limit (only_at t d d1 v) many from p p' held' x × Same many held held' × Grows many x

    whole : (held' : List ℕ) (x : Result WrittenPairs RefusedAt) (o : Out Pairs) → only_at t d d1 v ≡ o → Same many held held' → Told t book s rows n s1 rows1 n1 limit o many from p p' held' x × Grows many x → Goal held' x
    whole held' x o q z w = (subst (λ (y : Out Pairs). Told t book s rows n s1 rows1 n1 limit y many from p p' held' x) (sym q) w.0, z, w.1)

    -- a value that is kept, of the row i of a text
    module _ (held' : List ℕ) (text i : ℕ) (k : held' ≡ sets held (row_size * many) (name ∷ size ∷ text ∷ i ∷ sort ∷ small number ∷ wrappers ∷ [])) where
      held_here : (tree : Tree) → (text ≡ 0 → Kept t 0 d n i ref tree) → ((text ≡ 0 → ⊥) → Kept t 1 d1 n1 i ref tree) → HeldAt t book s rows n s1 rows1 n1 held' many (name_of d v) tree
      held_here tree k0 k1 =
          keep_held held held' many name size text i sort (small number) wrappers k room t book s rows n s1 rows1 n1 (name_of d v) tree ref spelt named_within
          (small_due t book a.ready.booked ref sort number wrappers due fits) (small_fits t book a.ready.booked ref sort number wrappers due fits) k0 k1

      same_here : Same many held held'
      same_here = keep_same held held' many name size text i sort (small number) wrappers k room

    pub way_given : (held' : List ℕ) (c : Result ℕ RefusedRow) → r < n1 → held' ≡ sets held (row_size * many) (name ∷ size ∷ input_variables ∷ (r + 1) ∷ sort ∷ small number ∷ wrappers ∷ []) →
        ToldPairs input_variables limit (pair_first (part s name size) (constant (kinds_in t) (value_of_row input_variables d1 (r + 1)) ref) (Got no_pairs)) from p p' c → Goal held' (told input_variables (many + 1) c)
    way_given held' c h k w =
        whole held' (told input_variables (many + 1) c) (pair_first (name_of d v) (constant (kinds_in t) (value_of_row input_variables d1 (r + 1)) ref) (Got no_pairs))
        (only_given t (givens_in t d1) var (λ q. coerced t no_variables input_variables d1 33 (r + 1) q) (entry_some h)) (same_here held' input_variables (r + 1) k)
        (told_first t book s rows n s1 rows1 n1 limit many from input_variables p p' held' c (name_of d v) (constant (kinds_in t) (value_of_row input_variables d1 (r + 1)) ref)
        (λ tree e. held_here held' input_variables (r + 1) k tree (λ z. absurd (omega (arith, z))) (λ z. record { there = omega (arith, h); is = e }))
        (subst (λ (x : Name). ToldPairs input_variables limit (pair_first x (constant (kinds_in t) (value_of_row input_variables d1 (r + 1)) ref) (Got no_pairs)) from p p' c) spelt w))

    pub way_default : (held' : List ℕ) (c : Result ℕ RefusedRow) (i : ℕ) → n1 ≤ r → default_row d v ≡ some i → held' ≡ sets held (row_size * many) (name ∷ size ∷ input_document ∷ i ∷ sort ∷ small number ∷ wrappers ∷ []) →
        ToldPairs input_document limit (pair_first (part s name size) (constant (kinds_in t) (value_of_row input_document d i) ref) (Got no_pairs)) from p p' c → Goal held' (told input_document (many + 1) c)
    way_default held' c i h e k w =
        whole held' (told input_document (many + 1) c) (pair_first (name_of d v) (constant (kinds_in t) (value_of_row input_document d i) ref) (Got no_pairs))
        (only_default t (givens_in t d1) var (value_of_row input_document d i) (entry_none h) (ap (value_if d) e)) (same_here held' input_document i k)
        (told_first t book s rows n s1 rows1 n1 limit many from input_document p p' held' c (name_of d v) (constant (kinds_in t) (value_of_row input_document d i) ref)
        (λ tree q. held_here held' input_document i k tree (λ z. record { there = (let l = default_there s rows n v i e in omega (arith, l)); is = q }) (λ z. absurd (z refl)))
        (subst (λ (x : Name). ToldPairs input_document limit (pair_first x (constant (kinds_in t) (value_of_row input_document d i) ref) (Got no_pairs)) from p p' c) spelt w))

    pub way_nothing : (c : Result ℕ RefusedRow) → n1 ≤ r → default_row d v ≡ none → ToldPairs input_document limit (missing_due (placed input_document d v) (due_variable d v) (Got no_pairs)) from p p' c → Goal held (told input_document many c)
    way_nothing c h e w =
        whole held (told input_document many c) (missing_due (placed input_document d v) (due_variable d v) (Got no_pairs))
        (only_nothing t (givens_in t d1) var (entry_none h) (ap (value_if d) e)) (record { size = refl; cells = λ j k x y. refl })
        (told_missing t book s rows n s1 rows1 n1 limit many from input_document p p' held c (placed input_document d v) (due_variable d v) w)
