-- Fragment spreads and inline fragments on the machine: each way in which their readers go on or end.
use mathlib.Core.Path.{◌≡◌, refl, sym, ap, ◌∙◌, subst}
use mathlib.Core.Bool.{Bool, true, false, not, ◌&&◌}
use mathlib.Core.List.Memᴰ
use mathlib.Core.List.{List, [], ◌∷◌, ◌++◌}
use mathlib.Core.Logic.{◌⊎◌, inl, inr}
use Prim.Native.Nat.{ℕ, ◌+◌, ◌-◌, ◌*◌, ◌≤◌, ◌<◌}
use native.Mathlib.Omega.{arith}
use lib.Dec.{T, eqb, eqb→eq}
use borrow.Author.Tests.{eqb-true, eq-eqb, ne_eqb}
use lib.ListN.{length, set, length-set}
use Rattle.std.specs.Prelude.{Result, Ok, Err}
use Rattle.paper.specs.Grammar.{nt, tm, act}
use Rattle.paper.specs.Numbers.{most_rows}
use Rattle.paper.specs.Rows.{top}
use Rattle.paper.specs.Sizes.{Counts, over_counts}
use Rattle.paper.specs.declared.Refusal.{Refusal}
use Rattle.paper.specs.declared.Refusal.TheVariants.{TooManyRows}
use Rattle.paper.proofs.Lexing.{from}
use Rattle.paper.proofs.Machine.{choose}
use Rattle.paper.proofs.Bools.{and_l, and_r, and_i}
use Rattle.paper.proofs.Tables.{factored}
use Rattle.paper.proofs.Going.{Stack, st, go}
use Rattle.text_scan.specs.Head.{head_of, kind_of}
use Rattle.text_cursor.specs.declared.Cursor.{Cursor}
use Rattle.text_cursor.specs.Reader.{moved_to, at, Ready, Went, Halts, Said}
use Rattle.paper.specs.Language.{language, the, spread, name_but_on, kind, named, end, Selection, SpreadRest, FragmentName, TypeCondition?, TypeCondition, Directives?, at_sign, brace_l, n_other}
use Rattle.text_scan.specs.Head.{word_of}
use Rattle.text_cursor.proofs.Steps.{first, null, refuse, plain, too_many_rows, is, not_is, not_two, refuses, refuses_end}
use Rattle.text_cursor.proofs.Cells.{put, put_length, row_begins, kind_told, ends_row}
use Rattle.text_arguments.specs.Arguments.{AtOn, bytes_at, condition_stack, directives_stack}
use Rattle.text_leaves.proofs.MovedLaws.{start_in_is, moved_halts}
use Rattle.text_arguments.specs.Passed.{Passed, Passes, opened, shut}
use Rattle.text_arguments.proofs.DirectivesLaws.{no_directives}
use Rattle.text_arguments.proofs.Onward.{Next, lies, has_bytes, next, next_at, same, said_went, said_halts, passes_went, passes_halts, named_row}
use Rattle.text_arguments.proofs.Words.{is_on, on_is, is_no_on, no_on_is, word_first, word_taken}
use Rattle.text_selections.specs.Selections.{names_fragment, selection_stack, body_stack, spread_stack, spread_begun}
use Rattle.text_selections.proofs.SetLaws.{no_set}

-- which tokens name a fragment
pub names : (s : List ℕ) (c : Cursor) → names_fragment s c ≡ true → (c.kind ≡ kind_of n_other) × (word_of (bytes_at s c) ≡ 5 → ⊥)
names s c e =
    let a : Bool = eqb c.kind (kind_of n_other) in
    let b : Bool = not (eqb (word_of (bytes_at s c)) 5) in
    let t : T (a && b) = subst T (sym e) tt in
    (eqb→eq c.kind (kind_of n_other) (and_l a b t), λ w. subst (λ (x : Bool). T (not x)) (eq-eqb (word_of (bytes_at s c)) 5 w) (and_r a b t))

pub names_not : (s : List ℕ) (c : Cursor) → names_fragment s c ≡ false → c.kind ≡ kind_of n_other → AtOn s c
names_not s c e k = by_test (eqb (word_of (bytes_at s c)) 5) refl
  where
    by_test : (b : Bool) → eqb (word_of (bytes_at s c)) 5 ≡ b → AtOn s c
    by_test true g = (k, eqb-true (word_of (bytes_at s c)) 5 g)
    by_test false g = let z : true ≡ false = rw (eq-eqb c.kind (kind_of n_other) k, g) at e in absurd (subst T z tt)

pub names_when : (s : List ℕ) (c : Cursor) → c.kind ≡ kind_of n_other → (w : ℕ) → w ≡ word_of (bytes_at s c) → not (eqb w 5) ≡ names_fragment s c
names_when s c e w f = rw (eq-eqb c.kind (kind_of n_other) e, f) refl

pub names_no_name : (s : List ℕ) (c : Cursor) → (c.kind ≡ kind_of n_other → ⊥) → false ≡ names_fragment s c
names_no_name s c e = rw (ne_eqb c.kind (kind_of n_other) e) refl

-- A SPREAD'S NAME, at which the cursor stands; row n begins at `start`
module _ (s rows : List ℕ) (c : Cursor) (parent left n start : ℕ) (a : Ready s rows c n) (e : names_fragment s c ≡ true) (k : c.rows ≡ n + 1) where
  abbrev told : List ℕ
  told = put rows n 4 start 0 parent c.start (c.end - c.start) 0

  past_name : (σ : Stack) (o : List ℕ) (q : Counts) → over_counts q ≡ false →
      at s (spread_begun rows n start parent) c (n ∷ o) left q (spread_stack ++ σ) ≡ go (st told c.rows (n ∷ o) c.end left q) (nt Directives? ∷ act end ∷ σ) (from s c.end)
  unfolding factored language
  past_name σ o q f =
      let i = names s c e in
      word_first s c a.within a.looks i.0 (spread_begun rows n start parent) c.rows (n ∷ o) left q σ SpreadRest (Memᴰ.head refl) is_no_on (no_on_is s c i.1) tt
      ∙ kind_told rows c.rows o c.stop left q (act named ∷ nt FragmentName ∷ nt Directives? ∷ act end ∷ σ) (from s c.stop) n 0 start 0 parent 0 0 0 4 0
      ∙ named_row s c a.looks rows c.rows o left q (nt FragmentName ∷ nt Directives? ∷ act end ∷ σ) n 4 start 0 parent 0 0 0
      ∙ word_first s c a.within a.looks i.0 told c.rows (n ∷ o) left q (nt Directives? ∷ act end ∷ σ) FragmentName (Memᴰ.head refl) is_no_on (no_on_is s c i.1) tt
      ∙ word_taken s c a.within a.looks i.0 told c.rows (n ∷ o) left q (nt Directives? ∷ act end ∷ σ) name_but_on is_no_on (no_on_is s c i.1) tt a.few f

  -- with its row written
  module _ (rows₁ : List ℕ) (j : rows₁ ≡ told) (r : Result Cursor Refusal) (w : r ≡ moved_to c.end c.rows (head_of (from s c.end))) where
    row_past : (σ : Stack) (o : List ℕ) (q : Counts) → over_counts q ≡ false →
        at s (spread_begun rows n start parent) c (n ∷ o) left q (spread_stack ++ σ) ≡ go (st rows₁ c.rows (n ∷ o) c.end left q) (nt Directives? ∷ act end ∷ σ) (from s c.end)
    row_past σ o q f = past_name σ o q f ∙ ap (λ (u : List ℕ). go (st u c.rows (n ∷ o) c.end left q) (nt Directives? ∷ act end ∷ σ) (from s c.end)) (sym j)

    pub named_bad : (x : Refusal) → r ≡ Err x → (rows' : List ℕ) → Passes 1 s (spread_begun rows n start parent) rows' c n left (opened n) shut spread_stack [] (Err x)
    named_bad x y rows' σ o q p f = row_past σ o q f ∙ moved_halts s c.end c.rows r x w y (st rows₁ c.rows (n ∷ o) c.end left q) (nt Directives? ∷ act end ∷ σ)

    module _ (b : Cursor) (y : r ≡ Ok b) where
      behind : Next s c b c.rows
      behind = next s c b c.rows a.within a.looks r w y

      pub named_ready : Ready s rows₁ b n
      named_ready =
          record {
            short = a.short;
            size = ap length j ∙ put_length rows n 4 start 0 parent c.start (c.end - c.start) 0 ∙ a.size;
            within = behind.within;
            few = omega (arith, behind.rows, a.few);
            looks = behind.looks;
            below = a.below;
          }

      to_directives : (σ : Stack) (o : List ℕ) (q : Counts) → over_counts q ≡ false → at s (spread_begun rows n start parent) c (n ∷ o) left q (spread_stack ++ σ) ≡ at s rows₁ b (n ∷ o) left q (nt Directives? ∷ act end ∷ σ)
      to_directives σ o q f = row_past σ o q f ∙ next_at s c b c.rows behind rows₁ (n ∷ o) left q (nt Directives? ∷ act end ∷ σ)

      module _ (rows₂ : List ℕ) (t : Result Cursor Refusal) (v : Said 0 s rows₁ rows₂ b n left directives_stack t) where
        pub named_stops : (x : Refusal) → t ≡ Err x → (rows' : List ℕ) → Passes 1 s (spread_begun rows n start parent) rows' c n left (opened n) shut spread_stack [] (Err x)
        named_stops x i rows' σ o q p f = to_directives σ o q f ∙ said_halts 0 s rows₁ rows₂ b n left directives_stack t x v i (act end ∷ σ) (n ∷ o) q refl f

        module _ (d : Cursor) (i : t ≡ Ok d) where
          pub named_read : Went 0 s rows₁ rows₂ b d n left directives_stack
          named_read = said_went 0 s rows₁ rows₂ b d n left directives_stack t v i

          pub named_ends : (rows₃ : List ℕ) → rows₃ ≡ set rows₂ (7 * n + 2) d.stop → Passed 1 s (spread_begun rows n start parent) rows₃ c d n left left (opened n) shut spread_stack []
          named_ends rows₃ h =
              let l = lies s c a.within a.looks in
              record {
                size = ap length h ∙ length-set rows₂ (7 * n + 2) d.stop ∙ named_read.size;
                within = named_read.within;
                few = named_read.few;
                looks = named_read.looks;
                on = omega (arith, has_bytes s c a.within a.looks n_other (names s c e).0, behind.stop, named_read.on);
                goes =
                    λ σ o q p f.
                    to_directives σ o q f
                    ∙ named_read.goes (act end ∷ σ) (n ∷ o) q refl f
                    ∙ ends_row rows₂ d.rows o d.stop left q σ (from s d.stop) n
                    ∙ ap (λ (u : List ℕ). at s u d o left q σ) (sym h);
              }

      -- without directives
      pub named_bare : (b.kind ≡ kind_of at_sign → ⊥) → (rows₃ : List ℕ) → rows₃ ≡ set rows₁ (7 * n + 2) b.stop → Passed 1 s (spread_begun rows n start parent) rows₃ c b n left left (opened n) shut spread_stack []
      named_bare i = named_ends rows₁ (Ok b) (no_directives s rows₁ b n left named_ready i) b refl

-- AN INLINE FRAGMENT'S HEAD, behind its dots; row n begins at `start`
module _ (s rows : List ℕ) (c : Cursor) (parent left n start : ℕ) (a : Ready s rows c n) (e : names_fragment s c ≡ false) (rows₁ : List ℕ) (j : rows₁ ≡ put rows n 5 start 0 parent 0 0 0) where
  pub inline_ready : Ready s rows₁ c n
  inline_ready =
      record {
        short = a.short;
        size = ap length j ∙ put_length rows n 5 start 0 parent 0 0 0 ∙ a.size;
        within = a.within;
        few = a.few;
        looks = a.looks;
        below = a.below;
      }

  abbrev kinded_at : Stack → Stack
  kinded_at σ = nt TypeCondition? ∷ nt Directives? ∷ body_stack ++ σ

  -- its kind is told
  told_as : (σ : Stack) (o : List ℕ) (q : Counts) →
      go (st (spread_begun rows n start parent) c.rows (n ∷ o) c.stop left q) (act (kind 5 0) ∷ kinded_at σ) (from s c.stop) ≡ at s rows₁ c (n ∷ o) left q (kinded_at σ)
  told_as σ o q =
      kind_told rows c.rows o c.stop left q (kinded_at σ) (from s c.stop) n 0 start 0 parent 0 0 0 5 0
      ∙ ap (λ (u : List ℕ). at s u c (n ∷ o) left q (kinded_at σ)) (sym j)

  -- with a type condition
  module _ (k : c.kind ≡ kind_of n_other) where
    pub inline_on : AtOn s c
    inline_on = names_not s c e k

    to_condition : (σ : Stack) (o : List ℕ) (q : Counts) →
        at s (spread_begun rows n start parent) c (n ∷ o) left q (spread_stack ++ σ) ≡ at s rows₁ c (n ∷ o) left q (nt TypeCondition ∷ nt Directives? ∷ body_stack ++ σ)
    unfolding factored language
    to_condition σ o q =
        word_first s c a.within a.looks k (spread_begun rows n start parent) c.rows (n ∷ o) left q σ SpreadRest (Memᴰ.tail (Memᴰ.head refl)) is_on (on_is s c inline_on) tt
        ∙ told_as σ o q
        ∙ word_first s c a.within a.looks k rows₁ c.rows (n ∷ o) left q (nt Directives? ∷ body_stack ++ σ) TypeCondition? (Memᴰ.tail (Memᴰ.head refl)) is_on (on_is s c inline_on) tt

    module _ (rows₂ : List ℕ) (r : Result Cursor Refusal) (v : Said 1 s rows₁ rows₂ c n left condition_stack r) where
      pub inline_stops : (x : Refusal) → r ≡ Err x → (rows' : List ℕ) → Passes 0 s (spread_begun rows n start parent) rows' c n left (opened n) (opened n) spread_stack body_stack (Err x)
      inline_stops x i rows' σ o q p f = to_condition σ o q ∙ said_halts 1 s rows₁ rows₂ c n left condition_stack r x v i (nt Directives? ∷ body_stack ++ σ) (n ∷ o) q refl f

      module _ (d : Cursor) (i : r ≡ Ok d) where
        inline_read : Went 1 s rows₁ rows₂ c d n left condition_stack
        inline_read = said_went 1 s rows₁ rows₂ c d n left condition_stack r v i

        pub inline_ready_behind : Ready s rows₂ d n
        inline_ready_behind = let g = inline_read in record { short = a.short; size = g.size; within = g.within; few = g.few; looks = g.looks; below = a.below }

        pub inline_said : (rows₃ : List ℕ) (t : Result Cursor Refusal) → Said 0 s rows₂ rows₃ d n left directives_stack t → Passes 0 s (spread_begun rows n start parent) rows₃ c n left (opened n) (opened n) spread_stack body_stack t
        inline_said rows₃ (Err x) u = λ σ o q p f. to_condition σ o q ∙ inline_read.goes (nt Directives? ∷ body_stack ++ σ) (n ∷ o) q refl f ∙ u (body_stack ++ σ) (n ∷ o) q refl f
        inline_said rows₃ (Ok b) u =
            record {
              size = u.size;
              within = u.within;
              few = u.few;
              looks = u.looks;
              on = omega (arith, inline_read.on, u.on);
              goes = λ σ o q p f. to_condition σ o q ∙ inline_read.goes (nt Directives? ∷ body_stack ++ σ) (n ∷ o) q refl f ∙ u.goes (body_stack ++ σ) (n ∷ o) q refl f;
            }

        pub inline_undirected : (d.kind ≡ kind_of at_sign → ⊥) → Passed 0 s (spread_begun rows n start parent) rows₂ c d n left left (opened n) (opened n) spread_stack body_stack
        inline_undirected k' = inline_said rows₂ (Ok d) (no_directives s rows₂ d n left inline_ready_behind k')

  -- without
  module _ (k : c.kind ≡ kind_of n_other → ⊥) where
    no_condition : (σ : Stack) (o : List ℕ) (q : Counts) → at s rows₁ c (n ∷ o) left q (kinded_at σ) ≡ at s rows₁ c (n ∷ o) left q (nt Directives? ∷ body_stack ++ σ)
    unfolding factored language choose
    no_condition σ o q =
        null s c a.within a.looks rows₁ c.rows (n ∷ o) left q (nt Directives? ∷ body_stack ++ σ) TypeCondition? (Memᴰ.head refl) tt refl (λ (u : ℕ). not (is (kind_of n_other) u)) (not_is (kind_of n_other) c.kind k) tt

    to_directives' : (σ : Stack) (o : List ℕ) (q : Counts) → at s (spread_begun rows n start parent) c (n ∷ o) left q (spread_stack ++ σ) ≡ at s rows₁ c (n ∷ o) left q (nt Directives? ∷ body_stack ++ σ)
    unfolding factored language choose refuses refuses_end
    to_directives' σ o q = by_sign (same c.kind (kind_of at_sign))
      where
        -- neither may begin anything: both refuse
        by_brace : (c.kind ≡ kind_of at_sign → ⊥) → (c.kind ≡ kind_of brace_l) ⊎ (c.kind ≡ kind_of brace_l → ⊥) → at s (spread_begun rows n start parent) c (n ∷ o) left q (spread_stack ++ σ) ≡ at s rows₁ c (n ∷ o) left q (nt Directives? ∷ body_stack ++ σ)
        by_brace f (inl g) =
            first s c a.within a.looks (spread_begun rows n start parent) c.rows (n ∷ o) left q σ SpreadRest (Memᴰ.tail (Memᴰ.head refl)) brace_l g tt ∙ told_as σ o q ∙ no_condition σ o q
        by_brace f (inr g) =
            refuse s c a.within a.looks (spread_begun rows n start parent) c.rows (n ∷ o) left q σ SpreadRest (λ (u : ℕ). not (is (kind_of n_other) u) && (not (is (kind_of at_sign) u) && not (is (kind_of brace_l) u)))
            (and_i (not (is (kind_of n_other) c.kind)) (not (is (kind_of at_sign) c.kind) && not (is (kind_of brace_l) c.kind)) (not_is (kind_of n_other) c.kind k) (not_two (kind_of at_sign) (kind_of brace_l) c.kind f g)) tt tt
            ∙ sym (no_set s c a.within a.looks rows₁ c.rows (n ∷ o) left q (act end ∷ σ) g)
            ∙ sym (null s c a.within a.looks rows₁ c.rows (n ∷ o) left q (body_stack ++ σ) Directives? (Memᴰ.head refl) tt refl (λ (u : ℕ). not (is (kind_of at_sign) u)) (not_is (kind_of at_sign) c.kind f) tt)

        by_sign : (c.kind ≡ kind_of at_sign) ⊎ (c.kind ≡ kind_of at_sign → ⊥) → at s (spread_begun rows n start parent) c (n ∷ o) left q (spread_stack ++ σ) ≡ at s rows₁ c (n ∷ o) left q (nt Directives? ∷ body_stack ++ σ)
        by_sign (inl f) =
            first s c a.within a.looks (spread_begun rows n start parent) c.rows (n ∷ o) left q σ SpreadRest (Memᴰ.tail (Memᴰ.head refl)) at_sign f tt ∙ told_as σ o q ∙ no_condition σ o q
        by_sign (inr f) = by_brace f (same c.kind (kind_of brace_l))

    pub inline_plain : (rows₂ : List ℕ) (t : Result Cursor Refusal) → Said 0 s rows₁ rows₂ c n left directives_stack t → Passes 0 s (spread_begun rows n start parent) rows₂ c n left (opened n) (opened n) spread_stack body_stack t
    inline_plain rows₂ (Err x) u = λ σ o q p f. to_directives' σ o q ∙ u (body_stack ++ σ) (n ∷ o) q refl f
    inline_plain rows₂ (Ok b) u =
        record {
          size = u.size;
          within = u.within;
          few = u.few;
          looks = u.looks;
          on = u.on;
          goes = λ σ o q p f. to_directives' σ o q ∙ u.goes (body_stack ++ σ) (n ∷ o) q refl f;
        }

    pub inline_bare : (c.kind ≡ kind_of at_sign → ⊥) → Passed 0 s (spread_begun rows n start parent) rows₁ c c n left left (opened n) (opened n) spread_stack body_stack
    inline_bare i = inline_plain rows₁ (Ok c) (no_directives s rows₁ c n left inline_ready i)

-- EITHER, at its dots
module _ (s rows : List ℕ) (c : Cursor) (parent left : ℕ) (a : Ready s rows c parent) (e : c.kind ≡ kind_of spread) where
  abbrev begun : List ℕ
  begun = spread_begun rows c.rows c.start parent

  begins : (σ : Stack) (o : List ℕ) (q : Counts) → top o ≡ parent →
      at s rows c o left q (nt Selection ∷ σ) ≡ go (st begun (c.rows + 1) (c.rows ∷ o) c.stop left q) (tm (the spread) ∷ nt SpreadRest ∷ σ) (from s c.stop)
  unfolding factored language
  begins σ o q p =
      first s c a.within a.looks rows c.rows o left q σ Selection (Memᴰ.tail (Memᴰ.head refl)) spread e tt
      ∙ row_begins rows c.rows o c.stop left q (tm (the spread) ∷ nt SpreadRest ∷ σ) (from s c.stop)
      ∙ ap (λ (u : ℕ). go (st (put rows c.rows 0 u 0 (top o) 0 0 0) (c.rows + 1) (c.rows ∷ o) c.stop left q) (tm (the spread) ∷ nt SpreadRest ∷ σ) (from s c.stop)) (start_in_is s c a.looks)
      ∙ ap (λ (u : ℕ). go (st (put rows c.rows 0 c.start 0 u 0 0 0) (c.rows + 1) (c.rows ∷ o) c.stop left q) (tm (the spread) ∷ nt SpreadRest ∷ σ) (from s c.stop)) p

  pub spread_full : c.rows ≡ most_rows → Halts s rows c parent left selection_stack (TooManyRows c.start)
  spread_full z σ o q p f = begins σ o q p ∙ too_many_rows s c a.within a.looks begun (c.rows + 1) (c.rows ∷ o) left q (nt SpreadRest ∷ σ) (the spread) spread e tt tt (omega arith)

  module _ (z : c.rows ≡ most_rows → ⊥) where
    pub spread_room : c.rows < most_rows
    spread_room = omega (arith, a.few, z)

    past_dots : (σ : Stack) (o : List ℕ) (q : Counts) → top o ≡ parent → over_counts q ≡ false →
        at s rows c o left q (nt Selection ∷ σ) ≡ go (st begun (c.rows + 1) (c.rows ∷ o) c.end left q) (nt SpreadRest ∷ σ) (from s c.end)
    past_dots σ o q p f = begins σ o q p ∙ plain s c a.within a.looks begun (c.rows + 1) (c.rows ∷ o) left q (nt SpreadRest ∷ σ) (the spread) spread e tt tt (omega (arith, spread_room)) f

    module _ (r : Result Cursor Refusal) (w : r ≡ moved_to c.end (c.rows + 1) (head_of (from s c.end))) where
      pub spread_bad : (x : Refusal) → r ≡ Err x → Halts s rows c parent left selection_stack x
      spread_bad x y σ o q p f = past_dots σ o q p f ∙ moved_halts s c.end (c.rows + 1) r x w y (st begun (c.rows + 1) (c.rows ∷ o) c.end left q) (nt SpreadRest ∷ σ)

      module _ (b : Cursor) (y : r ≡ Ok b) where
        spread_next : Next s c b (c.rows + 1)
        spread_next = next s c b (c.rows + 1) a.within a.looks r w y

        pub spread_lies : (b.start ≤ b.end) × (b.end ≤ length s)
        spread_lies = let l = lies s b spread_next.within spread_next.looks in (l.1, l.2)

        pub spread_rows : b.rows ≡ c.rows + 1
        spread_rows = spread_next.rows

        pub spread_ready : Ready s rows b c.rows
        spread_ready = record { short = a.short; size = a.size; within = spread_next.within; few = omega (arith, spread_next.rows, spread_room); looks = spread_next.looks; below = a.few }

        to_rest : (σ : Stack) (o : List ℕ) (q : Counts) → top o ≡ parent → over_counts q ≡ false → at s rows c o left q (nt Selection ∷ σ) ≡ at s begun b (c.rows ∷ o) left q (nt SpreadRest ∷ σ)
        to_rest σ o q p f = past_dots σ o q p f ∙ next_at s c b (c.rows + 1) spread_next begun (c.rows ∷ o) left q (nt SpreadRest ∷ σ)

        pub spread_named : (rows₁ : List ℕ) (t : Result Cursor Refusal) → Passes 1 s begun rows₁ b c.rows left (opened c.rows) shut spread_stack [] t → Said 1 s rows rows₁ c parent left selection_stack t
        spread_named rows₁ (Err x) v = λ σ o q p f. to_rest σ o q p f ∙ v σ o q refl f
        spread_named rows₁ (Ok d) v =
            let l = lies s c a.within a.looks in
            record {
              size = v.size;
              within = v.within;
              few = v.few;
              looks = v.looks;
              on = omega (arith, spread_next.stop, v.on);
              goes = λ σ o q p f. to_rest σ o q p f ∙ v.goes σ o q refl f;
            }

        module _ (rows₁ : List ℕ) (t : Result Cursor Refusal) (v : Passes 0 s begun rows₁ b c.rows left (opened c.rows) (opened c.rows) spread_stack body_stack t) where
          pub spread_stops : (x : Refusal) → t ≡ Err x → Halts s rows c parent left selection_stack x
          spread_stops x i σ o q p f = to_rest σ o q p f ∙ passes_halts 0 s begun rows₁ b c.rows left (opened c.rows) (opened c.rows) spread_stack body_stack t v x i σ o q refl f

          module _ (d : Cursor) (i : t ≡ Ok d) where
            spread_head : Passed 0 s begun rows₁ b d c.rows left left (opened c.rows) (opened c.rows) spread_stack body_stack
            spread_head = passes_went 0 s begun rows₁ b c.rows left (opened c.rows) (opened c.rows) spread_stack body_stack t v d i

            pub spread_set_ready : Ready s rows₁ d c.rows
            spread_set_ready = let g = spread_head in record { short = a.short; size = g.size; within = g.within; few = g.few; looks = g.looks; below = a.few }

            pub spread_set : (rows₂ : List ℕ) (u : Result Cursor Refusal) → Passes 1 s rows₁ rows₂ d c.rows left (opened c.rows) shut body_stack [] u → Said 1 s rows rows₂ c parent left selection_stack u
            spread_set rows₂ (Err x) g = λ σ o q p f. to_rest σ o q p f ∙ spread_head.goes σ o q refl f ∙ g σ o q refl f
            spread_set rows₂ (Ok h) g =
                let l = lies s c a.within a.looks in
                record {
                  size = g.size;
                  within = g.within;
                  few = g.few;
                  looks = g.looks;
                  on = omega (arith, spread_next.stop, spread_head.on, g.on);
                  goes = λ σ o q p f. to_rest σ o q p f ∙ spread_head.goes σ o q refl f ∙ g.goes σ o q refl f;
                }
