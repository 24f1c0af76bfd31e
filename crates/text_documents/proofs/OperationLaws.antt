-- An operation: its type, its name or none, and its rest; or a selection set alone.
use mathlib.Core.Path.{◌≡◌, refl, sym, ap, ◌∙◌}
use mathlib.Core.Bool.{false, not}
use mathlib.Core.List.Memᴰ
use mathlib.Core.List.{List, [], ◌∷◌, ◌++◌}
use Prim.Native.Nat.{ℕ, zero, suc, ◌+◌, ◌-◌, ◌*◌, ◌≤◌, ◌<◌}
use native.Mathlib.Omega.{arith}
use lib.Dec.{T}
use lib.ListN.{length, set, length-set}
use borrow.Author.Tests.{lt-ltb, le-ltb}
use Rattle.std.specs.Prelude.{Result, Ok, Err}
use Rattle.paper.specs.Grammar.{nt, tm, act}
use Rattle.paper.specs.Numbers.{most_levels, most_rows, no_parent, kind_operation, extra_query}
use Rattle.paper.specs.Language.{Class, same_c, language, the, hits, any_name, n_query, n_mutation, n_subscription, brace_l, brace_r, row, kind, named, end, Name, Definition, OperationDefinition, OperationType, OperationName?, SelectionSet, Selection+, n_other}
use Rattle.paper.specs.Tokens.{Text, token}
use Rattle.paper.specs.Rows.{top, pop}
use Rattle.paper.specs.Sizes.{Counts, kinded, opens_level, closes_level, over_counts}
use Rattle.paper.specs.declared.Refusal.{Refusal}
use Rattle.paper.specs.declared.Refusal.TheVariants.{TooManyRows}
use Rattle.paper.proofs.Lexing.{from}
use Rattle.paper.proofs.Machine.{choose}
use Rattle.paper.proofs.Tables.{factored}
use Rattle.paper.proofs.Going.{Stack, State, st, go}
use Rattle.text_scan.specs.Head.{head_of, kind_of, word_number}
use Rattle.text_cursor.specs.Reader.{Looks, Ready, at, moved_to, Went, Said}
use Rattle.text_cursor.specs.declared.Cursor.{Cursor}
use Rattle.text_cursor.proofs.Steps.{is, not_is, token_of, null, first, plain, too_many_rows_open}
use Rattle.text_cursor.proofs.Cells.{put, put_length, row_opens, name_told, ends_row}
use Rattle.text_selections.specs.Selections.{selection_set_stack}
use Rattle.text_references.proofs.MovedLaws.{Next, next_of, moved_halts, ahead, end_within, start_in_is, stop_in_is}
use Rattle.text_variables.specs.Counted.{Counted, CountedHalts, CountedSaid, stays, any_counts, variables_are, same_fragments}
use Rattle.text_documents.specs.Words.{AtType}
use Rattle.text_variables.proofs.CountedLaws.{said_halts, operation_fine, next_ready}
use Rattle.text_documents.proofs.WordLaws.{by_word, same_class, worded, class_first, class_take, name_word}
use Rattle.text_documents.proofs.BodyLaws.{rest_stack}

abbrev pub one_definition : Stack
one_definition = nt Definition ∷ []

-- WHICH OPERATION TYPE
abbrev type_class : ℕ → Class
type_class zero = n_query
type_class (suc zero) = n_mutation
type_class (suc (suc x)) = n_subscription

type_class_is : (x : ℕ) → x ≤ 2 → (k : Class) → word_number k ≡ suc x → k ≡ type_class x
type_class_is zero h k e = sym (same_class n_query k (by_word (same_c n_query) (λ x y. is 1 y) tt k (kind_of k) 1 refl e tt))
type_class_is (suc zero) h k e = sym (same_class n_mutation k (by_word (same_c n_mutation) (λ x y. is 2 y) tt k (kind_of k) 2 refl e tt))
type_class_is (suc (suc zero)) h k e = sym (same_class n_subscription k (by_word (same_c n_subscription) (λ x y. is 3 y) tt k (kind_of k) 3 refl e tt))
type_class_is (suc (suc (suc x))) h k e = let z : ⊥ = omega arith in absurd z

type_text : (s : List ℕ) (c : Cursor) (extra : ℕ) → c.stop ≤ length s → Looks s c → AtType s c extra → from s c.stop ≡ token (token_of (type_class extra) c.start c.end) (from s c.end)
type_text s c extra h l g =
    let w = worded s c h l (λ z. let x : ⊥ = omega (arith, g.0) in x) in
    let i : extra + 1 ≡ suc extra = omega arith in
    let e : word_number w.class ≡ suc extra = w.word ∙ name_word s c g.0 ∙ g.1 ∙ i in
    w.text ∙ ap (λ (k : Class). token (token_of k c.start c.end) (from s c.end)) (type_class_is extra g.2 w.class e)

operation_first : (x : ℕ) → x ≤ 2 → (S : State) (σ : Stack) (a e : ℕ) (t : Text) →
    go S (nt Definition ∷ σ) (token (token_of (type_class x) a e) t) ≡ go S (act row ∷ act (kind kind_operation x) ∷ tm (the (type_class x)) ∷ nt OperationName? ∷ (rest_stack ++ σ)) (token (token_of (type_class x) a e) t)
unfolding factored language
operation_first zero h S σ a e t =
    class_first n_query a e t S σ Definition {α = nt OperationDefinition ∷ []} (Memᴰ.head refl) tt
    ∙ class_first n_query a e t S σ OperationDefinition {α = nt OperationType ∷ nt OperationName? ∷ rest_stack} (Memᴰ.head refl) tt
    ∙ class_first n_query a e t S (nt OperationName? ∷ (rest_stack ++ σ)) OperationType {α = act row ∷ act (kind kind_operation 0) ∷ tm (the n_query) ∷ []} (Memᴰ.head refl) tt
operation_first (suc zero) h S σ a e t =
    class_first n_mutation a e t S σ Definition {α = nt OperationDefinition ∷ []} (Memᴰ.head refl) tt
    ∙ class_first n_mutation a e t S σ OperationDefinition {α = nt OperationType ∷ nt OperationName? ∷ rest_stack} (Memᴰ.head refl) tt
    ∙ class_first n_mutation a e t S (nt OperationName? ∷ (rest_stack ++ σ)) OperationType {α = act row ∷ act (kind kind_operation 1) ∷ tm (the n_mutation) ∷ []} (Memᴰ.tail (Memᴰ.head refl)) tt
operation_first (suc (suc zero)) h S σ a e t =
    class_first n_subscription a e t S σ Definition {α = nt OperationDefinition ∷ []} (Memᴰ.head refl) tt
    ∙ class_first n_subscription a e t S σ OperationDefinition {α = nt OperationType ∷ nt OperationName? ∷ rest_stack} (Memᴰ.head refl) tt
    ∙ class_first n_subscription a e t S (nt OperationName? ∷ (rest_stack ++ σ)) OperationType {α = act row ∷ act (kind kind_operation 2) ∷ tm (the n_subscription) ∷ []} (Memᴰ.tail (Memᴰ.tail (Memᴰ.head refl))) tt
operation_first (suc (suc (suc x))) h S σ a e t = let z : ⊥ = omega arith in absurd z

type_hits : (x : ℕ) → T (hits (the (type_class x)) (type_class x)) × T (not (opens_level (type_class x))) × T (not (closes_level (type_class x)))
type_hits zero = (tt, tt, tt)
type_hits (suc zero) = (tt, tt, tt)
type_hits (suc (suc x)) = (tt, tt, tt)

-- THE OPERATION
module _ (s rows : List ℕ) (c : Cursor) (extra : ℕ) (g : Ready s rows c no_parent) (h : AtType s c extra) where
  abbrev first_cells : List ℕ
  first_cells = put rows c.rows kind_operation c.start 0 no_parent 0 0 extra

  operation_row : (σ : Stack) (o : List ℕ) (q : Counts) → top o ≡ no_parent →
      at s rows c o most_levels q (one_definition ++ σ)
      ≡ go (st first_cells (c.rows + 1) (c.rows ∷ o) c.stop most_levels (kinded kind_operation q)) (tm (the (type_class extra)) ∷ nt OperationName? ∷ (rest_stack ++ σ)) (from s c.stop)
  operation_row σ o q t =
      rw (type_text s c extra g.within g.looks h) (operation_first extra h.2 (st rows c.rows o c.stop most_levels q) σ c.start c.end (from s c.end)
      ∙ row_opens rows c.rows o c.stop most_levels q (tm (the (type_class extra)) ∷ nt OperationName? ∷ (rest_stack ++ σ)) (token (token_of (type_class extra) c.start c.end) (from s c.end)) kind_operation extra
      ∙ rw t refl)

  pub operation_full : c.rows ≡ most_rows → CountedHalts s rows c no_parent most_levels one_definition any_counts (TooManyRows c.start)
  operation_full k σ o q t f m =
      let y = type_hits extra in
      let i : most_rows < c.rows + 1 = omega arith in
      operation_row σ o q t
      ∙ rw (type_text s c extra g.within g.looks h)
      (class_take (type_class extra) c.start c.end (from s c.end) first_cells (c.rows + 1) (c.rows ∷ o) c.stop most_levels (kinded kind_operation q) (nt OperationName? ∷ (rest_stack ++ σ)) (the (type_class extra)) y.0 y.1 y.2
      ∙ rw (lt-ltb most_rows (c.rows + 1) i) refl)

  module _ (room : c.rows ≡ most_rows → ⊥) where
    operation_past : (σ : Stack) (o : List ℕ) (q : Counts) → top o ≡ no_parent → over_counts q ≡ false →
        at s rows c o most_levels q (one_definition ++ σ) ≡ go (st first_cells (c.rows + 1) (c.rows ∷ o) c.end most_levels (kinded kind_operation q)) (nt OperationName? ∷ (rest_stack ++ σ)) (from s c.end)
    operation_past σ o q t f =
        let y = type_hits extra in
        let i : c.rows + 1 ≤ most_rows = omega (arith, g.few, room) in
        operation_row σ o q t
        ∙ rw (type_text s c extra g.within g.looks h)
        (class_take (type_class extra) c.start c.end (from s c.end) first_cells (c.rows + 1) (c.rows ∷ o) c.stop most_levels (kinded kind_operation q) (nt OperationName? ∷ (rest_stack ++ σ)) (the (type_class extra)) y.0 y.1 y.2
        ∙ rw (le-ltb most_rows (c.rows + 1) i, operation_fine q f) refl)

    -- the rest is read, where the machine is at it
    operation_says : (rows₁ : List ℕ) (d : Cursor) → c.stop ≤ d.stop →
        ((σ : Stack) (o : List ℕ) (q : Counts) → top o ≡ no_parent → over_counts q ≡ false → at s rows c o most_levels q (one_definition ++ σ) ≡ at s rows₁ d (c.rows ∷ o) most_levels (kinded kind_operation q) (rest_stack ++ σ)) →
        (rows' : List ℕ) (r : Result Cursor Refusal) → CountedSaid 1 s rows₁ rows' d c.rows most_levels rest_stack pop (variables_are 0) same_fragments r → CountedSaid 1 s rows rows' c no_parent most_levels one_definition stays any_counts same_fragments r
    operation_says rows₁ d l y rows' (Ok b) w =
        record {
          size = w.size;
          within = w.within;
          few = w.few;
          looks = w.looks;
          on = omega (arith, w.on);
          goes = λ σ o q t f m. (let z = w.goes σ (c.rows ∷ o) (kinded kind_operation q) refl (operation_fine q f) refl in (z.0, z.1, z.2, y σ o q t f ∙ z.3));
        }
    operation_says rows₁ d l y rows' (Err x) w = λ σ o q t f m. y σ o q t f ∙ w σ (c.rows ∷ o) (kinded kind_operation q) refl (operation_fine q f) refl

    module _ (r : Result Cursor Refusal) (e : r ≡ moved_to c.end (c.rows + 1) (head_of (from s c.end))) where
      pub operation_bad : (rows' : List ℕ) (x : Refusal) → r ≡ Err x → CountedSaid 1 s rows rows' c no_parent most_levels one_definition stays any_counts same_fragments r
      operation_bad rows' x y =
          rw y (λ σ o q t f m. operation_past σ o q t f ∙ moved_halts s c.end (c.rows + 1) r x e y (st first_cells (c.rows + 1) (c.rows ∷ o) c.end most_levels (kinded kind_operation q)) (nt OperationName? ∷ (rest_stack ++ σ)))

      module _ (d : Cursor) (y : r ≡ Ok d) where
        next : Next s c.end (c.rows + 1) d
        next = next_of s c.end (c.rows + 1) r d e y

        begins : (c.stop ≤ c.start) × (c.start < c.end) × (c.end ≤ length s)
        begins = ahead s c g.within g.looks (λ z. let x : ⊥ = omega (arith, h.0) in x)

        name_within : d.stop ≤ length s
        name_within = omega (arith, next.stop, begins.2)

        pub name_ends : (d.start ≤ d.end) × (d.end ≤ length s)
        name_ends = end_within s d name_within next.looks

        -- what the rest asks, where there is no name
        pub unnamed_ready : (rows₁ : List ℕ) → rows₁ ≡ first_cells → Ready s rows₁ d c.rows × (c.rows < most_rows)
        unnamed_ready rows₁ z = (
          next_ready s rows₁ c.end (c.rows + 1) d g.short (ap length z ∙ put_length rows c.rows kind_operation c.start 0 no_parent 0 0 extra ∙ g.size) begins.2 (omega (arith, g.few, room)) next c.rows g.few,
          omega (arith, g.few, room),
        )

        pub unnamed_says : (d.kind ≡ kind_of n_other → ⊥) → (rows₁ : List ℕ) → rows₁ ≡ first_cells → (rows' : List ℕ) (u : Result Cursor Refusal) → CountedSaid 1 s rows₁ rows' d c.rows most_levels rest_stack pop (variables_are 0) same_fragments u →
            CountedSaid 1 s rows rows' c no_parent most_levels one_definition stays any_counts same_fragments u
        unfolding factored language choose
        unnamed_says k rows₁ z rows' u w =
            operation_says rows₁ d (omega (arith, next.stop, begins))
            (λ σ o q t f. operation_past σ o q t f
            ∙ rw (sym next.stop, sym next.rows) (null s d name_within next.looks first_cells d.rows (c.rows ∷ o) most_levels (kinded kind_operation q) (rest_stack ++ σ) OperationName? {α = []} (Memᴰ.head refl) tt refl (λ y. not (is (kind_of n_other) y)) (not_is (kind_of n_other) d.kind k) tt ∙ rw z refl))
            rows' u w

        module _ (k : d.kind ≡ kind_of n_other) where
          abbrev named_cells : List ℕ
          named_cells = put rows c.rows kind_operation c.start 0 no_parent d.start (d.end - d.start) extra

          named_past : (σ : Stack) (o : List ℕ) (q : Counts) → top o ≡ no_parent → over_counts q ≡ false →
              at s rows c o most_levels q (one_definition ++ σ) ≡ go (st named_cells (c.rows + 1) (c.rows ∷ o) d.end most_levels (kinded kind_operation q)) (rest_stack ++ σ) (from s d.end)
          unfolding factored language
          named_past σ o q t f =
              operation_past σ o q t f
              ∙ rw (sym next.stop, sym next.rows)
              (first s d name_within next.looks first_cells d.rows (c.rows ∷ o) most_levels (kinded kind_operation q) (rest_stack ++ σ) OperationName? {α = act named ∷ nt Name ∷ []} (Memᴰ.tail (Memᴰ.head refl)) n_other k tt
              ∙ name_told rows d.rows o d.stop most_levels (kinded kind_operation q) (nt Name ∷ (rest_stack ++ σ)) (from s d.stop) c.rows kind_operation c.start 0 no_parent 0 0 extra
              ∙ rw (start_in_is s d next.looks, stop_in_is s d next.looks)
              (first s d name_within next.looks named_cells d.rows (c.rows ∷ o) most_levels (kinded kind_operation q) (rest_stack ++ σ) Name {α = tm any_name ∷ []} (Memᴰ.head refl) n_other k tt
              ∙ plain s d name_within next.looks named_cells d.rows (c.rows ∷ o) most_levels (kinded kind_operation q) (rest_stack ++ σ) any_name n_other k tt tt (omega (arith, next.rows, g.few, room)) (operation_fine q f)))

          module _ (v : Result Cursor Refusal) (i : v ≡ moved_to d.end (c.rows + 1) (head_of (from s d.end))) where
            pub operation_bad_2 : (rows' : List ℕ) (x : Refusal) → v ≡ Err x → CountedSaid 1 s rows rows' c no_parent most_levels one_definition stays any_counts same_fragments v
            operation_bad_2 rows' x z =
                rw z (λ σ o q t f m. named_past σ o q t f ∙ moved_halts s d.end (c.rows + 1) v x i z (st named_cells (c.rows + 1) (c.rows ∷ o) d.end most_levels (kinded kind_operation q)) (rest_stack ++ σ))

            module _ (b : Cursor) (j : v ≡ Ok b) where
              next_2 : Next s d.end (c.rows + 1) b
              next_2 = next_of s d.end (c.rows + 1) v b i j

              pub named_ready : (rows₁ : List ℕ) → rows₁ ≡ named_cells → Ready s rows₁ b c.rows × (c.rows < most_rows)
              named_ready rows₁ z = (
                next_ready s rows₁ d.end (c.rows + 1) b g.short (ap length z ∙ put_length rows c.rows kind_operation c.start 0 no_parent d.start (d.end - d.start) extra ∙ g.size) name_ends.1 (omega (arith, g.few, room)) next_2 c.rows g.few,
                omega (arith, g.few, room),
              )

              pub named_says : (rows₁ : List ℕ) → rows₁ ≡ named_cells → (rows' : List ℕ) (u : Result Cursor Refusal) → CountedSaid 1 s rows₁ rows' b c.rows most_levels rest_stack pop (variables_are 0) same_fragments u →
                  CountedSaid 1 s rows rows' c no_parent most_levels one_definition stays any_counts same_fragments u
              named_says rows₁ z rows' u w =
                  operation_says rows₁ b (let p = ahead s d name_within next.looks (λ z. let x : ⊥ = omega (arith, k) in x) in omega (arith, next.stop, next_2.stop, begins, p))
                  (λ σ o q t f. named_past σ o q t f ∙ rw (next_2.stop, next_2.rows, z) refl) rows' u w

-- A SELECTION SET ALONE
module _ (s rows : List ℕ) (c : Cursor) (g : Ready s rows c no_parent) (h : c.kind ≡ kind_of brace_l) where
  abbrev short_cells : List ℕ
  short_cells = put rows c.rows kind_operation c.start 0 no_parent 0 0 extra_query

  -- the cursor, with the operation's row counted
  abbrev counted : Cursor
  counted = record { kind = c.kind; start = c.start; end = c.end; stop = c.stop; rows = c.rows + 1 }

  short_row : (σ : Stack) (o : List ℕ) (q : Counts) → top o ≡ no_parent →
      at s rows c o most_levels q (one_definition ++ σ) ≡ at s short_cells counted (c.rows ∷ o) most_levels (kinded kind_operation q) (nt SelectionSet ∷ act end ∷ σ)
  unfolding factored language
  short_row σ o q t =
      first s c g.within g.looks rows c.rows o most_levels q σ Definition {α = nt OperationDefinition ∷ []} (Memᴰ.head refl) brace_l h tt
      ∙ first s c g.within g.looks rows c.rows o most_levels q σ OperationDefinition {α = act row ∷ act (kind kind_operation extra_query) ∷ nt SelectionSet ∷ act end ∷ []} (Memᴰ.tail (Memᴰ.head refl)) brace_l h tt
      ∙ row_opens rows c.rows o c.stop most_levels q (nt SelectionSet ∷ act end ∷ σ) (from s c.stop) kind_operation extra_query
      ∙ rw (start_in_is s c g.looks, t) refl

  pub short_full : c.rows ≡ most_rows → CountedHalts s rows c no_parent most_levels one_definition any_counts (TooManyRows c.start)
  unfolding factored language
  short_full k σ o q t f m =
      short_row σ o q t
      ∙ first s counted g.within g.looks short_cells (c.rows + 1) (c.rows ∷ o) most_levels (kinded kind_operation q) (act end ∷ σ) SelectionSet {α = tm (the brace_l) ∷ nt Selection+ ∷ tm (the brace_r) ∷ []} (Memᴰ.head refl) brace_l h tt
      ∙ too_many_rows_open s counted g.within g.looks short_cells (c.rows + 1) (c.rows ∷ o) most_levels (kinded kind_operation q) (nt Selection+ ∷ tm (the brace_r) ∷ act end ∷ σ) (the brace_l) brace_l h tt tt 31 refl (omega arith)

  module _ (rows₁ : List ℕ) (z : rows₁ ≡ short_cells) where
    short_at : (σ : Stack) (o : List ℕ) (q : Counts) → top o ≡ no_parent → at s rows c o most_levels q (one_definition ++ σ) ≡ at s rows₁ counted (c.rows ∷ o) most_levels (kinded kind_operation q) (nt SelectionSet ∷ act end ∷ σ)
    short_at σ o q t = short_row σ o q t ∙ rw z refl

    pub short_stop : (rows₂ rows' : List ℕ) (r : Result Cursor Refusal) → Said 1 s rows₁ rows₂ counted c.rows most_levels selection_set_stack r → (x : Refusal) → r ≡ Err x →
        CountedSaid 1 s rows rows' c no_parent most_levels one_definition stays any_counts same_fragments r
    short_stop rows₂ rows' r w x e =
        rw e (λ σ o q t f m. short_at σ o q t ∙ said_halts 1 s rows₁ rows₂ counted c.rows most_levels selection_set_stack r w x e (act end ∷ σ) (c.rows ∷ o) (kinded kind_operation q) refl (operation_fine q f))

    pub short_done : (rows₂ rows' : List ℕ) (d : Cursor) → Went 1 s rows₁ rows₂ counted d c.rows most_levels selection_set_stack → rows' ≡ set rows₂ (7 * c.rows + 2) d.stop →
        Counted 1 s rows rows' c d no_parent most_levels one_definition stays any_counts same_fragments
    short_done rows₂ rows' d w e =
        record {
          size = ap length e ∙ simp length-set w.size;
          within = w.within;
          few = w.few;
          looks = w.looks;
          on = w.on;
          goes = λ σ o q t f m. (
            kinded kind_operation q,
            operation_fine q f,
            refl,
            short_at σ o q t ∙ w.goes (act end ∷ σ) (c.rows ∷ o) (kinded kind_operation q) refl (operation_fine q f)
                ∙ ends_row rows₂ d.rows o d.stop most_levels (kinded kind_operation q) σ (from s d.stop) c.rows
                ∙ rw e refl,
          );
        }
