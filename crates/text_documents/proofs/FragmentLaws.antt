-- A fragment definition: its name, which is not `on`, its type condition and its body.
use mathlib.Core.Path.{◌≡◌, refl, sym, ap, ◌∙◌}
use mathlib.Core.Bool.{Bool, true, false, not, ◌&&◌}
use mathlib.Core.List.Memᴰ
use mathlib.Core.List.{List, [], ◌∷◌, ◌++◌}
use Prim.Native.Nat.{ℕ, ◌+◌, ◌-◌, ◌≤◌, ◌<◌}
use native.Mathlib.Omega.{arith}
use lib.Dec.{T, eqb}
use lib.ListN.{length}
use borrow.Author.Tests.{lt-ltb, le-ltb, eqb-true, eqb-false, eq-eqb, not-false}
use Rattle.std.specs.Prelude.{Result, Ok, Err}
use Rattle.paper.proofs.Bools.{eq→t_not as false-T, eq→t as true-T}
use Rattle.paper.specs.Grammar.{nt, tm, act}
use Rattle.paper.specs.Numbers.{most_levels, most_rows, most_fragments, no_parent, kind_fragment}
use Rattle.paper.specs.Language.{Class, same_c, language, the, hits, name_but_on, n_fragment, row, kind, named, Definition, FragmentDefinition, FragmentName, TypeCondition, n_other}
use Rattle.paper.specs.Tokens.{Text, token}
use Rattle.paper.specs.Rows.{top, pop}
use Rattle.paper.specs.Sizes.{Counts, kinded, opens_level, closes_level, over_counts}
use Rattle.paper.specs.declared.Refusal.{Refusal}
use Rattle.paper.specs.declared.Refusal.TheVariants.{NoGoing, TooManyRows, TooMany}
use Rattle.paper.proofs.Lexing.{from}
use Rattle.paper.proofs.Machine.{fst, choose}
use Rattle.paper.proofs.Tables.{graphql, factored}
use Rattle.paper.proofs.Going.{Stack, State, st, halt, go}
use Rattle.text_scan.specs.Head.{head_of, kind_of, word_number, word_of}
use Rattle.text_cursor.specs.Reader.{Looks, Ready, at, moved_to, no_going_of, Went, Said}
use Rattle.text_cursor.specs.declared.Cursor.{Cursor}
use Rattle.text_cursor.proofs.Steps.{is, not_is, token_of, refuse, refuses, refuses_end}
use Rattle.text_cursor.proofs.Cells.{put, put_length, row_opens, name_told}
use Rattle.text_arguments.specs.Arguments.{bytes_at, AtOn, condition_stack}
use Rattle.text_selections.specs.Selections.{names_fragment}
use Rattle.text_references.proofs.CountsLaws.{fine_parts}
use Rattle.text_references.proofs.MovedLaws.{Next, next_of, moved_halts, ahead, end_within, start_in_is, stop_in_is}
use Rattle.text_variables.specs.Counted.{CountedHalts, CountedSaid, stays, any_counts, fragments_are, same_counts, fragments_become}
use Rattle.text_documents.specs.Words.{body_stack, word_at, AtFragment}
use Rattle.text_variables.proofs.CountedLaws.{said_halts, fragment_fine, fragment_over, next_ready}
use Rattle.text_documents.proofs.WordLaws.{by_word, same_class, worded, class_first, class_refuse, class_take, name_word}
use Rattle.text_documents.proofs.OperationLaws.{one_definition}

-- WHICH NAMES
abbrev but_on : ℕ → ℕ → Bool
but_on x y = is (kind_of n_other) x && not (is 5 y)

names_test : (s : List ℕ) (c : Cursor) → names_fragment s c ≡ but_on c.kind (word_at s c)
names_test s c = by (eqb c.kind (kind_of n_other)) refl
  where
    by : (b : Bool) → eqb c.kind (kind_of n_other) ≡ b → names_fragment s c ≡ but_on c.kind (word_at s c)
    by true e = rw e refl
    by false e = rw e refl

names_kind : (s : List ℕ) (c : Cursor) → names_fragment s c ≡ true → c.kind ≡ kind_of n_other
names_kind s c h = by (eqb c.kind (kind_of n_other)) refl
  where
    by : (b : Bool) → eqb c.kind (kind_of n_other) ≡ b → c.kind ≡ kind_of n_other
    by true e = eqb-true c.kind (kind_of n_other) e
    by false e = let i : false ≡ true = rw e at h in let z : ◌≡◌ {A = ℕ} 0 1 = cc in let w : ⊥ = omega arith in absurd w

-- a name that names no fragment is `on`
pub at_on : (s : List ℕ) (c : Cursor) → c.kind ≡ kind_of n_other → names_fragment s c ≡ false → AtOn s c
at_on s c h e = (h, eqb-true (word_of (bytes_at s c)) 5 (not-false (eqb (word_of (bytes_at s c)) 5) (rw (eq-eqb c.kind (kind_of n_other) h) at e)))

module _ (s : List ℕ) (c : Cursor) (h : c.stop ≤ length s) (l : Looks s c) (rows : List ℕ) (o : List ℕ) (left : ℕ) (q : Counts) where
  -- a fragment's name is taken
  name_taken : names_fragment s c ≡ true → c.rows ≤ most_rows → over_counts q ≡ false → (σ : Stack) → at s rows c o left q (nt FragmentName ∷ σ) ≡ go (st rows c.rows o c.end left q) σ (from s c.end)
  unfolding factored language
  name_taken e k f σ =
      let w = worded s c h l (λ z. let i = names_kind s c e in let x : ⊥ = omega arith in x) in
      let t : T (but_on c.kind (word_at s c)) = true-T (but_on c.kind (word_at s c)) (sym (names_test s c) ∙ e) in
      rw w.text
      (class_first w.class c.start c.end (from s c.end) (st rows c.rows o c.stop left q) σ FragmentName {α = tm name_but_on ∷ []} (Memᴰ.head refl) (by_word (fst graphql (tm name_but_on ∷ [])) but_on tt w.class c.kind (word_at s c) w.kind w.word t)
      ∙ class_take w.class c.start c.end (from s c.end) rows c.rows o c.stop left q σ name_but_on
      (by_word (hits name_but_on) but_on tt w.class c.kind (word_at s c) w.kind w.word t)
      (by_word (λ k. not (opens_level k)) but_on tt w.class c.kind (word_at s c) w.kind w.word t)
      (by_word (λ k. not (closes_level k)) but_on tt w.class c.kind (word_at s c) w.kind w.word t)
      ∙ rw (le-ltb most_rows c.rows k, f) refl)

  -- what is no fragment's name is refused
  name_refused : names_fragment s c ≡ false → (σ : Stack) → at s rows c o left q (nt FragmentName ∷ σ) ≡ halt (NoGoing c.start)
  unfolding factored language choose refuses refuses_end
  name_refused e σ = by (eqb c.kind 0) refl
    where
      by : (b : Bool) → eqb c.kind 0 ≡ b → at s rows c o left q (nt FragmentName ∷ σ) ≡ halt (NoGoing c.start)
      by true i = refuse s c h l rows c.rows o left q σ FragmentName (is 0) (true-T (is 0 c.kind) i) tt tt
      by false i =
          let w = worded s c h l (eqb-false c.kind 0 i) in
          rw w.text
          (class_refuse w.class c.start c.end (from s c.end) (st rows c.rows o c.stop left q) σ FragmentName
          (by_word (refuses FragmentName) (λ x y. not (but_on x y)) tt w.class c.kind (word_at s c) w.kind w.word (false-T (but_on c.kind (word_at s c)) (sym (names_test s c) ∙ e))))

  -- a type condition begins with `on`
  condition_none : (c.kind ≡ kind_of n_other → ⊥) → (σ : Stack) → at s rows c o left q (nt TypeCondition ∷ σ) ≡ halt (NoGoing c.start)
  unfolding factored language choose refuses refuses_end
  condition_none e σ = refuse s c h l rows c.rows o left q σ TypeCondition (λ y. not (is (kind_of n_other) y)) (not_is (kind_of n_other) c.kind e) tt tt

  condition_other : names_fragment s c ≡ true → (σ : Stack) → at s rows c o left q (nt TypeCondition ∷ σ) ≡ halt (NoGoing c.start)
  unfolding factored language choose refuses
  condition_other e σ =
      let w = worded s c h l (λ z. let i = names_kind s c e in let x : ⊥ = omega arith in x) in
      rw w.text
      (class_refuse w.class c.start c.end (from s c.end) (st rows c.rows o c.stop left q) σ TypeCondition
      (by_word (refuses TypeCondition) but_on tt w.class c.kind (word_at s c) w.kind w.word (true-T (but_on c.kind (word_at s c)) (sym (names_test s c) ∙ e))))

-- FROM ITS NAME ON
abbrev name_stack : Stack
name_stack = nt FragmentName ∷ nt TypeCondition ∷ body_stack

module _ (s rows : List ℕ) (c : Cursor) (n : ℕ) (g : Ready s rows c n) (h : names_fragment s c ≡ true) (r : Result Cursor Refusal) (e : r ≡ moved_to c.end c.rows (head_of (from s c.end))) where
  pub from_name_bad : (rows' : List ℕ) (x : Refusal) → r ≡ Err x → CountedSaid 1 s rows rows' c n most_levels name_stack pop any_counts same_counts r
  from_name_bad rows' x y =
      rw y (λ σ o q t f m. name_taken s c g.within g.looks rows o most_levels q h g.few f (nt TypeCondition ∷ (body_stack ++ σ))
      ∙ moved_halts s c.end c.rows r x e y (st rows c.rows o c.end most_levels q) (nt TypeCondition ∷ (body_stack ++ σ)))

  module _ (d : Cursor) (y : r ≡ Ok d) where
    next : Next s c.end c.rows d
    next = next_of s c.end c.rows r d e y

    begins : (c.stop ≤ c.start) × (c.start < c.end) × (c.end ≤ length s)
    begins = ahead s c g.within g.looks (λ z. let i = names_kind s c h in let x : ⊥ = omega arith in x)

    pub condition_ready : Ready s rows d n
    condition_ready = next_ready s rows c.end c.rows d g.short g.size begins.2 g.few next n g.below

    condition_at : (σ : Stack) (o : List ℕ) (q : Counts) → over_counts q ≡ false → at s rows c o most_levels q (name_stack ++ σ) ≡ at s rows d o most_levels q (nt TypeCondition ∷ (body_stack ++ σ))
    condition_at σ o q f = name_taken s c g.within g.looks rows o most_levels q h g.few f (nt TypeCondition ∷ (body_stack ++ σ)) ∙ rw (next.stop, next.rows) refl

    pub from_name_none : (rows' : List ℕ) → (d.kind ≡ kind_of n_other → ⊥) → (u : Result Cursor Refusal) → u ≡ no_going_of d → CountedSaid 1 s rows rows' c n most_levels name_stack pop any_counts same_counts u
    from_name_none rows' k u z = rw z (λ σ o q t f m. condition_at σ o q f ∙ condition_none s d condition_ready.within condition_ready.looks rows o most_levels q k (body_stack ++ σ))

    pub from_name_other : (rows' : List ℕ) → names_fragment s d ≡ true → (u : Result Cursor Refusal) → u ≡ no_going_of d → CountedSaid 1 s rows rows' c n most_levels name_stack pop any_counts same_counts u
    from_name_other rows' k u z = rw z (λ σ o q t f m. condition_at σ o q f ∙ condition_other s d condition_ready.within condition_ready.looks rows o most_levels q k (body_stack ++ σ))

    pub from_name_stop : (rows₁ rows' : List ℕ) (u : Result Cursor Refusal) → Said 1 s rows rows₁ d n most_levels condition_stack u → (x : Refusal) → u ≡ Err x → CountedSaid 1 s rows rows' c n most_levels name_stack pop any_counts same_counts u
    from_name_stop rows₁ rows' u w x z = rw z (λ σ o q t f m. condition_at σ o q f ∙ said_halts 1 s rows rows₁ d n most_levels condition_stack u w x z (body_stack ++ σ) o q t f)

    pub from_name_says : (rows₁ : List ℕ) (b : Cursor) → Went 1 s rows rows₁ d b n most_levels condition_stack → (rows' : List ℕ) (u : Result Cursor Refusal) → CountedSaid 1 s rows₁ rows' b n most_levels body_stack pop any_counts same_counts u →
        CountedSaid 1 s rows rows' c n most_levels name_stack pop any_counts same_counts u
    from_name_says rows₁ b w rows' (Ok a) u =
        record {
          size = u.size;
          within = u.within;
          few = u.few;
          looks = u.looks;
          on = omega (arith, next.stop, begins, w.on, u.on);
          goes = λ σ o q t f m. (let z = u.goes σ o q t f tt in (z.0, z.1, z.2, condition_at σ o q f ∙ w.goes (body_stack ++ σ) o q t f ∙ z.3));
        }
    from_name_says rows₁ b w rows' (Err x) u = λ σ o q t f m. condition_at σ o q f ∙ w.goes (body_stack ++ σ) o q t f ∙ u σ o q t f tt

-- FROM ITS WORD ON
fragment_text : (s : List ℕ) (c : Cursor) → c.stop ≤ length s → Looks s c → AtFragment s c → from s c.stop ≡ token (token_of n_fragment c.start c.end) (from s c.end)
fragment_text s c h l g =
    let w = worded s c h l (λ z. let x : ⊥ = omega (arith, g.0) in x) in
    let e : word_number w.class ≡ 4 = w.word ∙ name_word s c g.0 ∙ g.1 in
    w.text ∙ ap (λ (k : Class). token (token_of k c.start c.end) (from s c.end)) (sym (same_class n_fragment w.class (by_word (same_c n_fragment) (λ x y. is 4 y) tt w.class (kind_of w.class) 4 refl e tt)))

fragment_first : (S : State) (σ : Stack) (a e : ℕ) (t : Text) →
    go S (nt Definition ∷ σ) (token (token_of n_fragment a e) t) ≡ go S (act row ∷ act (kind kind_fragment 0) ∷ tm (the n_fragment) ∷ act named ∷ (name_stack ++ σ)) (token (token_of n_fragment a e) t)
unfolding factored language
fragment_first S σ a e t =
    class_first n_fragment a e t S σ Definition {α = nt FragmentDefinition ∷ []} (Memᴰ.tail (Memᴰ.head refl)) tt
    ∙ class_first n_fragment a e t S σ FragmentDefinition {α = act row ∷ act (kind kind_fragment 0) ∷ tm (the n_fragment) ∷ act named ∷ name_stack} (Memᴰ.head refl) tt

module _ (s rows : List ℕ) (c : Cursor) (before : ℕ) (g : Ready s rows c no_parent) (h : AtFragment s c) where
  abbrev first_cells : List ℕ
  first_cells = put rows c.rows kind_fragment c.start 0 no_parent 0 0 0

  fragment_row : (σ : Stack) (o : List ℕ) (q : Counts) → top o ≡ no_parent →
      at s rows c o most_levels q (one_definition ++ σ) ≡ go (st first_cells (c.rows + 1) (c.rows ∷ o) c.stop most_levels (kinded kind_fragment q)) (tm (the n_fragment) ∷ act named ∷ (name_stack ++ σ)) (from s c.stop)
  fragment_row σ o q t =
      rw (fragment_text s c g.within g.looks h) (fragment_first (st rows c.rows o c.stop most_levels q) σ c.start c.end (from s c.end)
      ∙ row_opens rows c.rows o c.stop most_levels q (tm (the n_fragment) ∷ act named ∷ (name_stack ++ σ)) (token (token_of n_fragment c.start c.end) (from s c.end)) kind_fragment 0
      ∙ rw t refl)

  pub fragment_full : c.rows ≡ most_rows → CountedHalts s rows c no_parent most_levels one_definition (fragments_are before) (TooManyRows c.start)
  fragment_full k σ o q t f m =
      let i : most_rows < c.rows + 1 = omega arith in
      fragment_row σ o q t
      ∙ rw (fragment_text s c g.within g.looks h)
      (class_take n_fragment c.start c.end (from s c.end) first_cells (c.rows + 1) (c.rows ∷ o) c.stop most_levels (kinded kind_fragment q) (act named ∷ (name_stack ++ σ)) (the n_fragment) tt tt tt
      ∙ rw (lt-ltb most_rows (c.rows + 1) i) refl)

  module _ (room : c.rows ≡ most_rows → ⊥) where
    pub fragment_many : before ≡ most_fragments → CountedHalts s rows c no_parent most_levels one_definition (fragments_are before) (TooMany c.start)
    fragment_many k σ o q t f m =
        let i : c.rows + 1 ≤ most_rows = omega (arith, g.few, room) in
        let j : most_fragments ≤ q.fragments = omega arith in
        fragment_row σ o q t
        ∙ rw (fragment_text s c g.within g.looks h)
        (class_take n_fragment c.start c.end (from s c.end) first_cells (c.rows + 1) (c.rows ∷ o) c.stop most_levels (kinded kind_fragment q) (act named ∷ (name_stack ++ σ)) (the n_fragment) tt tt tt
        ∙ rw (le-ltb most_rows (c.rows + 1) i, fragment_over q j) refl)

    module _ (less : before ≡ most_fragments → ⊥) where
      one_more : (q : Counts) → over_counts q ≡ false → fragments_are before q → over_counts (kinded kind_fragment q) ≡ false
      one_more q f m = let p = fine_parts q f in fragment_fine q f (omega (arith, p.0, less))

      fragment_past : (σ : Stack) (o : List ℕ) (q : Counts) → top o ≡ no_parent → over_counts q ≡ false → fragments_are before q →
          at s rows c o most_levels q (one_definition ++ σ) ≡ go (st first_cells (c.rows + 1) (c.rows ∷ o) c.end most_levels (kinded kind_fragment q)) (act named ∷ (name_stack ++ σ)) (from s c.end)
      fragment_past σ o q t f m =
          let i : c.rows + 1 ≤ most_rows = omega (arith, g.few, room) in
          fragment_row σ o q t
          ∙ rw (fragment_text s c g.within g.looks h)
          (class_take n_fragment c.start c.end (from s c.end) first_cells (c.rows + 1) (c.rows ∷ o) c.stop most_levels (kinded kind_fragment q) (act named ∷ (name_stack ++ σ)) (the n_fragment) tt tt tt
          ∙ rw (le-ltb most_rows (c.rows + 1) i, one_more q f m) refl)

      module _ (r : Result Cursor Refusal) (e : r ≡ moved_to c.end (c.rows + 1) (head_of (from s c.end))) where
        pub fragment_bad : (rows' : List ℕ) (x : Refusal) → r ≡ Err x → CountedSaid 1 s rows rows' c no_parent most_levels one_definition stays (fragments_are before) (fragments_become (before + 1)) r
        fragment_bad rows' x y =
            rw y (λ σ o q t f m. fragment_past σ o q t f m ∙ moved_halts s c.end (c.rows + 1) r x e y (st first_cells (c.rows + 1) (c.rows ∷ o) c.end most_levels (kinded kind_fragment q)) (act named ∷ (name_stack ++ σ)))

        module _ (d : Cursor) (y : r ≡ Ok d) where
          abbrev named_cells : List ℕ
          named_cells = put rows c.rows kind_fragment c.start 0 no_parent d.start (d.end - d.start) 0

          word_next : Next s c.end (c.rows + 1) d
          word_next = next_of s c.end (c.rows + 1) r d e y

          word_begins : (c.stop ≤ c.start) × (c.start < c.end) × (c.end ≤ length s)
          word_begins = ahead s c g.within g.looks (λ z. let x : ⊥ = omega (arith, h.0) in x)

          name_within : d.stop ≤ length s
          name_within = omega (arith, word_next.stop, word_begins.2)

          pub fragment_ends : (d.start ≤ d.end) × (d.end ≤ length s)
          fragment_ends = end_within s d name_within word_next.looks

          name_at : (σ : Stack) (o : List ℕ) (q : Counts) → top o ≡ no_parent → over_counts q ≡ false → fragments_are before q →
              at s rows c o most_levels q (one_definition ++ σ) ≡ at s named_cells d (c.rows ∷ o) most_levels (kinded kind_fragment q) (name_stack ++ σ)
          name_at σ o q t f m =
              fragment_past σ o q t f m
              ∙ rw (sym word_next.stop, sym word_next.rows)
              (name_told rows d.rows o d.stop most_levels (kinded kind_fragment q) (name_stack ++ σ) (from s d.stop) c.rows kind_fragment c.start 0 no_parent 0 0 0
              ∙ rw (start_in_is s d word_next.looks, stop_in_is s d word_next.looks) refl)

          pub fragment_nameless : (rows' : List ℕ) → names_fragment s d ≡ false → (u : Result Cursor Refusal) → u ≡ no_going_of d → CountedSaid 1 s rows rows' c no_parent most_levels one_definition stays (fragments_are before) (fragments_become (before + 1)) u
          fragment_nameless rows' k u z =
              rw z (λ σ o q t f m. name_at σ o q t f m ∙ name_refused s d name_within word_next.looks named_cells (c.rows ∷ o) most_levels (kinded kind_fragment q) k (nt TypeCondition ∷ (body_stack ++ σ)))

          module _ (rows₁ : List ℕ) (z : rows₁ ≡ named_cells) where
            pub fragment_ready : names_fragment s d ≡ true → Ready s rows₁ d c.rows × (c.rows < most_rows) × (names_fragment s d ≡ true)
            fragment_ready k = (
              next_ready s rows₁ c.end (c.rows + 1) d g.short (ap length z ∙ put_length rows c.rows kind_fragment c.start 0 no_parent d.start (d.end - d.start) 0 ∙ g.size) word_begins.2 (omega (arith, g.few, room)) word_next c.rows g.few,
              omega (arith, g.few, room),
              k,
            )

            pub fragment_says : (rows' : List ℕ) (u : Result Cursor Refusal) → CountedSaid 1 s rows₁ rows' d c.rows most_levels name_stack pop any_counts same_counts u → CountedSaid 1 s rows rows' c no_parent most_levels one_definition stays (fragments_are before) (fragments_become (before + 1)) u
            fragment_says rows' (Ok b) w =
                record {
                  size = w.size;
                  within = w.within;
                  few = w.few;
                  looks = w.looks;
                  on = omega (arith, w.on, word_next.stop, word_begins);
                  goes = λ σ o q t f m.
                      let v = w.goes σ (c.rows ∷ o) (kinded kind_fragment q) refl (one_more q f m) tt in
                      (v.0, v.1, ap (λ (p : Counts). p.fragments) v.2 ∙ ap (λ (i : ℕ). i + 1) m, name_at σ o q t f m ∙ rw (sym z) v.3);
                }
            fragment_says rows' (Err x) w = λ σ o q t f m. name_at σ o q t f m ∙ rw (sym z) (w σ (c.rows ∷ o) (kinded kind_fragment q) refl (one_more q f m) tt)
