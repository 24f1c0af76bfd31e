-- Fields on the machine: each way in which their readers go on or end.
use mathlib.Core.Path.{◌≡◌, refl, sym, ap, ◌∙◌, subst}
use mathlib.Core.Bool.{false, not}
use mathlib.Core.List.Memᴰ
use mathlib.Core.List.{List, [], ◌∷◌, ◌++◌}
use Prim.Native.Nat.{ℕ, ◌+◌, ◌-◌, ◌*◌, ◌≤◌, ◌<◌}
use native.Mathlib.Omega.{arith}
use lib.ListN.{length, set, length-set}
use Rattle.std.specs.Prelude.{Result, Ok, Err}
use Rattle.paper.specs.Grammar.{nt, act}
use Rattle.paper.specs.Numbers.{most_text, most_rows, rows_size}
use Rattle.paper.specs.Rows.{top}
use Rattle.paper.specs.Sizes.{Counts, over_counts}
use Rattle.paper.specs.declared.Refusal.{Refusal}
use Rattle.paper.specs.declared.Refusal.TheVariants.{NoGoing, TooManyRows}
use Rattle.paper.proofs.Lexing.{from}
use Rattle.paper.proofs.Machine.{choose}
use Rattle.paper.proofs.Tables.{factored}
use Rattle.paper.proofs.Going.{Stack, st, go}
use Rattle.text_scan.specs.Head.{head_of, kind_of}
use Rattle.text_cursor.specs.declared.Cursor.{Cursor}
use Rattle.text_cursor.specs.Reader.{moved_to, at, Ready, Went, Halts, Said}
use Rattle.paper.specs.Language.{language, the, any_name, colon, named, end, Name, Field, AliasRest, Arguments?, Directives?, SelectionSet?, Selection, at_sign, brace_l, n_other, paren_l}
use Rattle.text_cursor.proofs.Steps.{first, null, plain, too_many_rows, is, not_is}
use Rattle.text_cursor.proofs.Cells.{put_length, ends_row}
use Rattle.text_arguments.specs.Arguments.{arguments_stack, directives_stack}
use Rattle.text_leaves.proofs.MovedLaws.{moved_halts}
use Rattle.text_arguments.specs.Passed.{Passed, Passes, opened, shut}
use Rattle.text_arguments.proofs.ArgumentsLaws.{none_said}
use Rattle.text_arguments.proofs.DirectivesLaws.{no_directives}
use Rattle.text_arguments.proofs.Onward.{Next, lies, has_bytes, next, next_at, name_taken, name_lacks, said_went, said_halts, opened_row, named_row}
use Rattle.text_selections.specs.Selections.{selection_stack, body_stack, field_stack, alias_stack, field_rest_stack, field_end_stack, field_begun, AliasSaid, HeadSaid}

-- ARGUMENTS, THEN DIRECTIVES, of the row n
module _ (s rows rows₁ : List ℕ) (c : Cursor) (n left : ℕ) (r : Result Cursor Refusal) (v : Said 0 s rows rows₁ c n left arguments_stack r) where
  pub rest_stops : (x : Refusal) → r ≡ Err x → Halts s rows c n left field_rest_stack x
  rest_stops x e σ o q p f = said_halts 0 s rows rows₁ c n left arguments_stack r x v e (nt Directives? ∷ σ) o q p f

  module _ (d : Cursor) (e : r ≡ Ok d) where
    rest_read : Went 0 s rows rows₁ c d n left arguments_stack
    rest_read = said_went 0 s rows rows₁ c d n left arguments_stack r v e

    pub rest_ready : length s ≤ most_text → n ≤ most_rows → Ready s rows₁ d n
    rest_ready h p = record { short = h; size = rest_read.size; within = rest_read.within; few = rest_read.few; looks = rest_read.looks; below = p }

    pub rest_said : (rows₂ : List ℕ) (t : Result Cursor Refusal) → Said 0 s rows₁ rows₂ d n left directives_stack t → Said 0 s rows rows₂ c n left field_rest_stack t
    rest_said rows₂ (Ok u) w =
        record {
          size = w.size;
          within = w.within;
          few = w.few;
          looks = w.looks;
          on = omega (arith, rest_read.on, w.on);
          goes = λ σ o q p f. rest_read.goes (nt Directives? ∷ σ) o q p f ∙ w.goes σ o q p f;
        }
    rest_said rows₂ (Err x) w = λ σ o q p f. rest_read.goes (nt Directives? ∷ σ) o q p f ∙ w σ o q p f

    pub rest_undirected : length s ≤ most_text → n ≤ most_rows → (d.kind ≡ kind_of at_sign → ⊥) → Went 0 s rows rows₁ c d n left field_rest_stack
    rest_undirected h p k = rest_said rows₁ (Ok d) (no_directives s rows₁ d n left (rest_ready h p) k)

-- without arguments
pub rest_bare : (s rows : List ℕ) (c : Cursor) (n left : ℕ) → Ready s rows c n → (c.kind ≡ kind_of paren_l → ⊥) → (rows₂ : List ℕ) (t : Result Cursor Refusal) → Said 0 s rows rows₂ c n left directives_stack t → Said 0 s rows rows₂ c n left field_rest_stack t
rest_bare s rows c n left a k = rest_said s rows rows c n left (Ok c) (none_said s rows c n left a k) c refl

pub rest_none : (s rows : List ℕ) (c : Cursor) (n left : ℕ) → Ready s rows c n → (c.kind ≡ kind_of paren_l → ⊥) → (c.kind ≡ kind_of at_sign → ⊥) → Went 0 s rows rows c c n left field_rest_stack
rest_none s rows c n left a k i = rest_bare s rows c n left a k rows (Ok c) (no_directives s rows c n left a i)

-- FROM THE COLON OF AN ALIAS ON: row n begins at `start`, and its name is told again
module _ (s rows : List ℕ) (c : Cursor) (parent left n start : ℕ) (a : Ready s rows c n) (e : c.kind ≡ kind_of colon) (k : c.rows ≡ n + 1) where
  abbrev named_again : Stack → Stack
  named_again σ = act named ∷ nt Name ∷ nt Arguments? ∷ nt Directives? ∷ σ

  past_colon : (m z : ℕ) (σ : Stack) (o : List ℕ) (q : Counts) → over_counts q ≡ false →
      at s (field_begun rows n start parent m z) c (n ∷ o) left q (alias_stack ++ σ) ≡ go (st (field_begun rows n start parent m z) (n + 1) (n ∷ o) c.end left q) (named_again σ) (from s c.end)
  unfolding factored language
  past_colon m z σ o q f =
      first s c a.within a.looks (field_begun rows n start parent m z) c.rows (n ∷ o) left q (nt Arguments? ∷ nt Directives? ∷ σ) AliasRest (Memᴰ.tail (Memᴰ.head refl)) colon e tt
      ∙ plain s c a.within a.looks (field_begun rows n start parent m z) c.rows (n ∷ o) left q (named_again σ) (the colon) colon e tt tt a.few f
      ∙ ap (λ (u : ℕ). go (st (field_begun rows n start parent m z) u (n ∷ o) c.end left q) (named_again σ) (from s c.end)) k

  module _ (r : Result Cursor Refusal) (w : r ≡ moved_to c.end (n + 1) (head_of (from s c.end))) where
    pub alias_bad : (rows' : List ℕ) (x : Refusal) → r ≡ Err x → AliasSaid s rows rows' c parent left n start (Err x)
    alias_bad rows' x y m z σ o q p f =
        past_colon m z σ o q f ∙ moved_halts s c.end (n + 1) r x w y (st (field_begun rows n start parent m z) (n + 1) (n ∷ o) c.end left q) (named_again σ)

    module _ (name : Cursor) (y : r ≡ Ok name) where
      pub alias_name : Next s c name (n + 1)
      alias_name = next s c name (n + 1) a.within a.looks r w y

      to_name : (m z : ℕ) (σ : Stack) (o : List ℕ) (q : Counts) → over_counts q ≡ false →
          at s (field_begun rows n start parent m z) c (n ∷ o) left q (alias_stack ++ σ)
          ≡ at s (field_begun rows n start parent name.start (name.end - name.start)) name (n ∷ o) left q (nt Name ∷ nt Arguments? ∷ nt Directives? ∷ σ)
      to_name m z σ o q f =
          past_colon m z σ o q f
          ∙ next_at s c name (n + 1) alias_name (field_begun rows n start parent m z) (n ∷ o) left q (named_again σ)
          ∙ named_row s name alias_name.looks rows name.rows o left q (nt Name ∷ nt Arguments? ∷ nt Directives? ∷ σ) n 3 start 0 parent m z 0

      pub alias_nameless : (name.kind ≡ kind_of n_other → ⊥) → (rows' : List ℕ) → AliasSaid s rows rows' c parent left n start (Err (NoGoing name.start))
      alias_nameless i rows' m z σ o q p f =
          to_name m z σ o q f ∙ name_lacks s name alias_name.within alias_name.looks _ name.rows (n ∷ o) left q (nt Arguments? ∷ nt Directives? ∷ σ) i

      -- with its row written
      module _ (i : name.kind ≡ kind_of n_other) (rows₁ : List ℕ) (j : rows₁ ≡ field_begun rows n start parent name.start (name.end - name.start)) where
        past_name : (m z : ℕ) (σ : Stack) (o : List ℕ) (q : Counts) → over_counts q ≡ false →
            at s (field_begun rows n start parent m z) c (n ∷ o) left q (alias_stack ++ σ) ≡ go (st rows₁ (n + 1) (n ∷ o) name.end left q) (field_rest_stack ++ σ) (from s name.end)
        past_name m z σ o q f =
            to_name m z σ o q f
            ∙ name_taken s name alias_name.within alias_name.looks (field_begun rows n start parent name.start (name.end - name.start)) name.rows (n ∷ o) left q (field_rest_stack ++ σ) i
            (omega (arith, alias_name.rows, a.few, k)) f
            ∙ ap (λ (u : ℕ). go (st (field_begun rows n start parent name.start (name.end - name.start)) u (n ∷ o) name.end left q) (field_rest_stack ++ σ) (from s name.end)) alias_name.rows
            ∙ ap (λ (u : List ℕ). go (st u (n + 1) (n ∷ o) name.end left q) (field_rest_stack ++ σ) (from s name.end)) (sym j)

        module _ (t : Result Cursor Refusal) (w' : t ≡ moved_to name.end (n + 1) (head_of (from s name.end))) where
          pub alias_bad_behind : (rows' : List ℕ) (x : Refusal) → t ≡ Err x → AliasSaid s rows rows' c parent left n start (Err x)
          alias_bad_behind rows' x y' m z σ o q p f =
              past_name m z σ o q f ∙ moved_halts s name.end (n + 1) t x w' y' (st rows₁ (n + 1) (n ∷ o) name.end left q) (field_rest_stack ++ σ)

          module _ (b : Cursor) (y' : t ≡ Ok b) where
            behind : Next s name b (n + 1)
            behind = next s name b (n + 1) alias_name.within alias_name.looks t w' y'

            pub alias_ready : Ready s rows₁ b n
            alias_ready =
                record {
                  short = a.short;
                  size = ap length j ∙ put_length rows n 3 start 0 parent name.start (name.end - name.start) 0 ∙ a.size;
                  within = behind.within;
                  few = omega (arith, behind.rows, a.few, k);
                  looks = behind.looks;
                  below = a.below;
                }

            to_rest : (m z : ℕ) (σ : Stack) (o : List ℕ) (q : Counts) → over_counts q ≡ false →
                at s (field_begun rows n start parent m z) c (n ∷ o) left q (alias_stack ++ σ) ≡ at s rows₁ b (n ∷ o) left q (field_rest_stack ++ σ)
            to_rest m z σ o q f = past_name m z σ o q f ∙ next_at s name b (n + 1) behind rows₁ (n ∷ o) left q (field_rest_stack ++ σ)

            pub alias_said : (rows₂ : List ℕ) (u : Result Cursor Refusal) → Said 0 s rows₁ rows₂ b n left field_rest_stack u → AliasSaid s rows rows₂ c parent left n start u
            alias_said rows₂ (Err x) v m z = λ σ o q p f. to_rest m z σ o q f ∙ v σ (n ∷ o) q refl f
            alias_said rows₂ (Ok d) v m z =
                let l = lies s c a.within a.looks in
                let l' = lies s name alias_name.within alias_name.looks in
                record {
                  size = v.size;
                  within = v.within;
                  few = v.few;
                  looks = v.looks;
                  on = omega (arith, has_bytes s c a.within a.looks colon e, alias_name.stop, behind.stop, v.on);
                  goes = λ σ o q p f. to_rest m z σ o q f ∙ v.goes σ (n ∷ o) q refl f;
                }

-- THE HEAD OF A FIELD, at its first name
module _ (s rows : List ℕ) (c : Cursor) (parent left : ℕ) (a : Ready s rows c parent) (e : c.kind ≡ kind_of n_other) where
  abbrev begun : List ℕ
  begun = field_begun rows c.rows c.start parent c.start (c.end - c.start)

  begins : (σ : Stack) (o : List ℕ) (q : Counts) → top o ≡ parent →
      at s rows c o left q (nt Field ∷ σ) ≡ go (st begun (c.rows + 1) (c.rows ∷ o) c.stop left q) (nt Name ∷ alias_stack ++ (field_end_stack ++ σ)) (from s c.stop)
  unfolding factored language
  begins σ o q p =
      first s c a.within a.looks rows c.rows o left q σ Field (Memᴰ.head refl) n_other e tt
      ∙ opened_row s c a.looks rows c.rows o parent left q (act named ∷ nt Name ∷ alias_stack ++ (field_end_stack ++ σ)) 3 0 p
      ∙ named_row s c a.looks rows (c.rows + 1) o left q (nt Name ∷ alias_stack ++ (field_end_stack ++ σ)) c.rows 3 c.start 0 parent 0 0 0

  pub head_full : c.rows ≡ most_rows → Halts s rows c parent left field_stack (TooManyRows c.start)
  unfolding factored language
  head_full z σ o q p f =
      begins σ o q p
      ∙ first s c a.within a.looks begun (c.rows + 1) (c.rows ∷ o) left q (alias_stack ++ (field_end_stack ++ σ)) Name (Memᴰ.head refl) n_other e tt
      ∙ too_many_rows s c a.within a.looks begun (c.rows + 1) (c.rows ∷ o) left q (alias_stack ++ (field_end_stack ++ σ)) any_name n_other e tt tt (omega arith)

  module _ (z : c.rows ≡ most_rows → ⊥) where
    pub head_room : c.rows < most_rows
    head_room = omega (arith, a.few, z)

    past_first : (σ : Stack) (o : List ℕ) (q : Counts) → top o ≡ parent → over_counts q ≡ false →
        at s rows c o left q (nt Field ∷ σ) ≡ go (st begun (c.rows + 1) (c.rows ∷ o) c.end left q) (alias_stack ++ (field_end_stack ++ σ)) (from s c.end)
    past_first σ o q p f =
        begins σ o q p ∙ name_taken s c a.within a.looks begun (c.rows + 1) (c.rows ∷ o) left q (alias_stack ++ (field_end_stack ++ σ)) e (omega (arith, head_room)) f

    module _ (r : Result Cursor Refusal) (w : r ≡ moved_to c.end (c.rows + 1) (head_of (from s c.end))) where
      pub head_bad : (x : Refusal) → r ≡ Err x → Halts s rows c parent left field_stack x
      head_bad x y σ o q p f =
          past_first σ o q p f ∙ moved_halts s c.end (c.rows + 1) r x w y (st begun (c.rows + 1) (c.rows ∷ o) c.end left q) (alias_stack ++ (field_end_stack ++ σ))

      module _ (b : Cursor) (y : r ≡ Ok b) where
        head_next : Next s c b (c.rows + 1)
        head_next = next s c b (c.rows + 1) a.within a.looks r w y

        pub head_rows : b.rows ≡ c.rows + 1
        head_rows = head_next.rows

        pub head_ready : (rows₁ : List ℕ) → length rows₁ ≡ rows_size → Ready s rows₁ b c.rows
        head_ready rows₁ i =
            record { short = a.short; size = i; within = head_next.within; few = omega (arith, head_next.rows, head_room); looks = head_next.looks; below = a.few }

        pub head_size : (rows₁ : List ℕ) → rows₁ ≡ begun → length rows₁ ≡ rows_size
        head_size rows₁ j = ap length j ∙ put_length rows c.rows 3 c.start 0 parent c.start (c.end - c.start) 0 ∙ a.size

        to_second : (σ : Stack) (o : List ℕ) (q : Counts) → top o ≡ parent → over_counts q ≡ false →
            at s rows c o left q (nt Field ∷ σ) ≡ at s begun b (c.rows ∷ o) left q (alias_stack ++ (field_end_stack ++ σ))
        to_second σ o q p f = past_first σ o q p f ∙ next_at s c b (c.rows + 1) head_next begun (c.rows ∷ o) left q (alias_stack ++ (field_end_stack ++ σ))

        -- with an alias
        pub head_aliased : (rows₂ : List ℕ) (u : Result Cursor Refusal) → AliasSaid s rows rows₂ b parent left c.rows c.start u → HeadSaid s rows rows₂ c parent left u
        head_aliased rows₂ (Err x) v = λ σ o q p f. to_second σ o q p f ∙ v c.start (c.end - c.start) (field_end_stack ++ σ) o q refl f
        head_aliased rows₂ (Ok d) v =
            let g = v c.start (c.end - c.start) in
            let l = lies s c a.within a.looks in (
              head_room,
              record {
                size = g.size;
                within = g.within;
                few = g.few;
                looks = g.looks;
                on = omega (arith, head_next.stop, g.on);
                goes = λ σ o q p f. to_second σ o q p f ∙ g.goes (field_end_stack ++ σ) o q refl f;
              },
            )

        -- without
        no_alias : (b.kind ≡ kind_of colon → ⊥) → (σ : Stack) (o : List ℕ) (q : Counts) → top o ≡ parent → over_counts q ≡ false →
            at s rows c o left q (nt Field ∷ σ) ≡ at s begun b (c.rows ∷ o) left q (field_rest_stack ++ (field_end_stack ++ σ))
        unfolding factored language choose
        no_alias i σ o q p f =
            to_second σ o q p f
            ∙ null s b head_next.within head_next.looks begun b.rows (c.rows ∷ o) left q (field_rest_stack ++ (field_end_stack ++ σ)) AliasRest (Memᴰ.head refl) tt refl (λ (u : ℕ). not (is (kind_of colon) u))
            (not_is (kind_of colon) b.kind i) tt

        pub head_plain : (b.kind ≡ kind_of colon → ⊥) → (rows₁ : List ℕ) → rows₁ ≡ begun → (rows₂ : List ℕ) (u : Result Cursor Refusal) → Said 0 s rows₁ rows₂ b c.rows left field_rest_stack u → HeadSaid s rows rows₂ c parent left u
        head_plain i rows₁ j rows₂ (Err x) v =
            λ σ o q p f. no_alias i σ o q p f ∙ ap (λ (t : List ℕ). at s t b (c.rows ∷ o) left q (field_rest_stack ++ (field_end_stack ++ σ))) (sym j) ∙ v (field_end_stack ++ σ) (c.rows ∷ o) q refl f
        head_plain i rows₁ j rows₂ (Ok d) v =
            let l = lies s c a.within a.looks in (
              head_room,
              record {
                size = v.size;
                within = v.within;
                few = v.few;
                looks = v.looks;
                on = omega (arith, has_bytes s c a.within a.looks n_other e, head_next.stop, v.on);
                goes =
                    λ σ o q p f.
                    no_alias i σ o q p f
                    ∙ ap (λ (t : List ℕ). at s t b (c.rows ∷ o) left q (field_rest_stack ++ (field_end_stack ++ σ))) (sym j)
                    ∙ v.goes (field_end_stack ++ σ) (c.rows ∷ o) q refl f;
              },
            )

-- A FIELD, by its head
module _ (s rows rows₁ : List ℕ) (c : Cursor) (parent left : ℕ) (r : Result Cursor Refusal) (v : HeadSaid s rows rows₁ c parent left r) where
  pub field_stops : (x : Refusal) → r ≡ Err x → Halts s rows c parent left field_stack x
  field_stops x e = subst (λ (y : Result Cursor Refusal). HeadSaid s rows rows₁ c parent left y) e v

  module _ (d : Cursor) (e : r ≡ Ok d) where
    pub field_read : (c.rows < most_rows) × Passed 1 s rows rows₁ c d parent left left shut (opened c.rows) field_stack field_end_stack
    field_read = subst (λ (y : Result Cursor Refusal). HeadSaid s rows rows₁ c parent left y) e v

    pub field_ready : length s ≤ most_text → Ready s rows₁ d c.rows
    field_ready h = let g = field_read.1 in record { short = h; size = g.size; within = g.within; few = g.few; looks = g.looks; below = omega (arith, field_read.0) }

    -- with a selection set
    module _ (k : d.kind ≡ kind_of brace_l) where
      to_set : (σ : Stack) (o : List ℕ) (q : Counts) → top o ≡ parent → over_counts q ≡ false → at s rows c o left q (nt Field ∷ σ) ≡ at s rows₁ d (c.rows ∷ o) left q (body_stack ++ σ)
      unfolding factored language
      to_set σ o q p f =
          field_read.1.goes σ o q p f
          ∙ first s d field_read.1.within field_read.1.looks rows₁ d.rows (c.rows ∷ o) left q (act end ∷ σ) SelectionSet? (Memᴰ.tail (Memᴰ.head refl)) brace_l k tt

      pub field_set : (rows₂ : List ℕ) (t : Result Cursor Refusal) → Passes 1 s rows₁ rows₂ d c.rows left (opened c.rows) shut body_stack [] t → Said 1 s rows rows₂ c parent left field_stack t
      field_set rows₂ (Err x) u = λ σ o q p f. to_set σ o q p f ∙ u σ o q refl f
      field_set rows₂ (Ok b) u =
          record {
            size = u.size;
            within = u.within;
            few = u.few;
            looks = u.looks;
            on = omega (arith, u.on, field_read.1.on);
            goes = λ σ o q p f. to_set σ o q p f ∙ u.goes σ o q refl f;
          }

    -- without
    pub field_ends : (d.kind ≡ kind_of brace_l → ⊥) → (rows₂ : List ℕ) → rows₂ ≡ set rows₁ (7 * c.rows + 2) d.stop → Went 1 s rows rows₂ c d parent left field_stack
    unfolding factored language choose
    field_ends k rows₂ j =
        let g = field_read.1 in
        record {
          size = ap length j ∙ length-set rows₁ (7 * c.rows + 2) d.stop ∙ g.size;
          within = g.within;
          few = g.few;
          looks = g.looks;
          on = g.on;
          goes =
              λ σ o q p f.
              g.goes σ o q p f
              ∙ null s d g.within g.looks rows₁ d.rows (c.rows ∷ o) left q (act end ∷ σ) SelectionSet? (Memᴰ.head refl) tt refl (λ (u : ℕ). not (is (kind_of brace_l) u)) (not_is (kind_of brace_l) d.kind k) tt
              ∙ ends_row rows₁ d.rows o d.stop left q σ (from s d.stop) c.rows
              ∙ ap (λ (u : List ℕ). at s u d o left q σ) (sym j);
        }

-- a selection that begins with a name is a field
pub field_selected : (s rows rows₁ : List ℕ) (c : Cursor) (parent left : ℕ) → Ready s rows c parent → c.kind ≡ kind_of n_other → (r : Result Cursor Refusal) → Said 1 s rows rows₁ c parent left field_stack r → Said 1 s rows rows₁ c parent left selection_stack r
unfolding factored language
field_selected s rows rows₁ c parent left a e (Err x) v = λ σ o q p f. first s c a.within a.looks rows c.rows o left q σ Selection (Memᴰ.head refl) n_other e tt ∙ v σ o q p f
field_selected s rows rows₁ c parent left a e (Ok d) v =
    record {
      size = v.size;
      within = v.within;
      few = v.few;
      looks = v.looks;
      on = v.on;
      goes = λ σ o q p f. first s c a.within a.looks rows c.rows o left q σ Selection (Memᴰ.head refl) n_other e tt ∙ v.goes σ o q p f;
    }
