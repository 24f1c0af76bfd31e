-- A whole document, and a variables text.
use mathlib.Core.Path.{◌≡◌, refl, sym, ◌∙◌}
use mathlib.Core.Bool.{Bool, true, false, not}
use mathlib.Core.List.Memᴰ
use mathlib.Core.List.{List, [], ◌∷◌}
use Prim.Native.Nat.{ℕ, ◌≤◌}
use native.Mathlib.Omega.{arith}
use lib.Dec.{T}
use lib.ListN.{length}
use Rattle.std.specs.Prelude.{Result, Ok, Err}
use Rattle.paper.specs.Grammar.{nt, act}
use Rattle.paper.specs.Numbers.{most_text, most_levels, most_rows, rows_size, no_parent, kind_object}
use Rattle.paper.specs.Language.{Class, num_c, Part, language, row, kind, end, Document, Definition+, Definition*, Definition, VariablesText, ConstValue, ConstObjectValue, brace_l}
use Rattle.paper.specs.Tokens.{Tok, Text, at_end, bad, token}
use Rattle.paper.specs.Sizes.{Counts, over_counts}
use Rattle.paper.specs.declared.Refusal.{Refusal}
use Rattle.paper.specs.declared.Refusal.TheVariants.{NoGoing}
use Rattle.paper.proofs.Lexing.{from}
use Rattle.paper.proofs.Machine.{fst, choose, step, enter}
use Rattle.paper.proofs.Bools.{T→eq, eq→t_not as T_not, eq→t as T_of}
use Rattle.paper_theory.proofs.Test.{all, implies, implies_out, all_at}
use Rattle.paper.proofs.Tables.{graphql, factored, all_c, at_c}
use Rattle.paper.proofs.Going.{Stack, State, st, start, whole, halt, go}
use Rattle.text_scan.specs.Head.{head_of, word_number, kind_of}
use Rattle.text_cursor.specs.Reader.{Looks, Ready, at, moved_to, no_going_of, Went, Said}
use Rattle.text_cursor.specs.declared.Cursor.{Cursor}
use Rattle.text_cursor.proofs.Steps.{is, not_is, token_of, Front, a_token, the_end, front, front_token, first, refuse, refuses, refuses_end}
use Rattle.text_leaves.specs.Stacks.{value_stack}
use Rattle.text_references.proofs.MovedLaws.{Next, next_of, moved_halts}
use Rattle.text_variables.specs.Counted.{Counted, CountedSaid, stays, fragments_are, fragments_become}
use Rattle.text_documents.specs.Words.{fragments_after}
use Rattle.text_documents.specs.Documents.{Ended}
use Rattle.text_variables.proofs.CountedLaws.{said_halts, counted_halts, next_ready}
use Rattle.text_documents.proofs.WordLaws.{by_word, class_first, class_null, class_refuse}
use Rattle.text_documents.proofs.OperationLaws.{one_definition}
use Rattle.text_documents.proofs.DefinitionLaws.{after_most}

-- one more definition, and those behind it
abbrev more_stack : Stack
more_stack = nt Definition ∷ nt Definition* ∷ []

abbrev begins : Class → Bool
begins k = graphql.first Definition k

-- a test of classes, where a definition begins with them, or does not
by_begin : (f : Class → Bool) → T (all (λ k. implies (begins k) (f k)) all_c) → (k : Class) → T (begins k) → T (f k)
by_begin f h k t = implies_out (begins k) (f k) (all_at (λ k. implies (begins k) (f k)) all_c (num_c k) h (at_c k)) t

by_other : (f : Class → Bool) → T (all (λ k. implies (not (begins k)) (f k)) all_c) → (k : Class) → T (not (begins k)) → T (f k)
by_other f h k t = implies_out (not (begins k)) (f k) (all_at (λ k. implies (not (begins k)) (f k)) all_c (num_c k) h (at_c k)) t

-- a document is one more definition: if none begins, the machine halts either way
document_more : (S : State) (t : Text) → go S (nt Document ∷ []) t ≡ go S more_stack t
unfolding go step enter choose factored language refuses
document_more S (at_end n) = refl
document_more S (bad n) = refl
document_more S (token x t) = by (begins x.class) refl
  where
    by : (b : Bool) → begins x.class ≡ b → go S (nt Document ∷ []) (token x t) ≡ go S more_stack (token x t)
    by true e =
        class_first x.class x.start x.stop t S [] Document {α = nt Definition+ ∷ []} (Memᴰ.head refl) (by_begin (fst graphql (nt Definition+ ∷ [])) tt x.class (T_of (begins x.class) e))
        ∙ class_first x.class x.start x.stop t S [] Definition+ {α = more_stack} (Memᴰ.head refl) (by_begin (fst graphql more_stack) tt x.class (T_of (begins x.class) e))
    by false e =
        class_refuse x.class x.start x.stop t S [] Document (by_other (refuses Document) tt x.class (T_not (begins x.class) e))
        ∙ sym (class_refuse x.class x.start x.stop t S (nt Definition* ∷ []) Definition (by_other (refuses Definition) tt x.class (T_not (begins x.class) e)))

-- so are the definitions behind one, where the text does not end
empty_halts : (S : State) (x : Tok) (t : Text) → go S [] (token x t) ≡ halt (NoGoing x.start)
unfolding go step
empty_halts S x t = refl

star_more : (S : State) (x : Tok) (t : Text) → go S (nt Definition* ∷ []) (token x t) ≡ go S more_stack (token x t)
unfolding factored language choose refuses
star_more S x t = by (begins x.class) refl
  where
    by : (b : Bool) → begins x.class ≡ b → go S (nt Definition* ∷ []) (token x t) ≡ go S more_stack (token x t)
    by true e = class_first x.class x.start x.stop t S [] Definition* {α = more_stack} (Memᴰ.tail (Memᴰ.head refl)) (by_begin (fst graphql more_stack) tt x.class (T_of (begins x.class) e))
    by false e =
        class_null x.class x.start x.stop t S [] Definition* {α = []} (Memᴰ.head refl) tt
        (λ i. let z : T (not (graphql.first Definition* x.class)) = by_other (λ k. not (graphql.first Definition* k)) tt x.class (T_not (begins x.class) e) in let y = T→eq (graphql.first Definition* x.class) i in (rw y at z))
        ∙ empty_halts S x t
        ∙ sym (class_refuse x.class x.start x.stop t S (nt Definition* ∷ []) Definition (by_other (refuses Definition) tt x.class (T_not (begins x.class) e)))

star_ends : (S : State) (n : ℕ) → go S (nt Definition* ∷ []) (at_end n) ≡ whole S
unfolding go step enter choose factored language
star_ends S n = refl

-- nothing is counted yet
abbrev no_counts : Counts
no_counts = record { fragments = 0; variables = 0; wrappers = 0 }

-- definitions are read, from c₀ to c
pub record Defined (s rows₀ rows : List ℕ) (c₀ c : Cursor) (fragments : ℕ) : Type 0 where
  pub size : length rows ≡ rows_size
  pub within : c.stop ≤ length s
  pub few : c.rows ≤ most_rows
  pub looks : Looks s c
  pub on : fragments ≤ c.stop
  pub counts : Counts
  pub fine : over_counts counts ≡ false
  pub told : counts.fragments ≡ fragments
  pub goes : at s rows₀ c₀ [] most_levels no_counts more_stack ≡ at s rows c [] most_levels counts more_stack

pub begin_halts : (s rows rows' : List ℕ) (p : Part) (r : Result Cursor Refusal) → r ≡ moved_to 0 0 (head_of (from s 0)) → (x : Refusal) → r ≡ Err x → Ended p s rows rows' r
begin_halts s rows rows' p r e x y = rw y (moved_halts s 0 0 r x e y (start rows) (nt p ∷ []))

module _ (s rows : List ℕ) (short : length s ≤ most_text) (size : length rows ≡ rows_size) (r : Result Cursor Refusal) (e : r ≡ moved_to 0 0 (head_of (from s 0))) (c₀ : Cursor) (y : r ≡ Ok c₀) where
  next : Next s 0 0 c₀
  next = next_of s 0 0 r c₀ e y

  pub begin_ready : Ready s rows c₀ no_parent
  begin_ready = next_ready s rows 0 0 c₀ short size (omega arith) (omega arith) next no_parent (omega arith)

  start_at : (p : Part) → go (start rows) (nt p ∷ []) (from s 0) ≡ at s rows c₀ [] most_levels no_counts (nt p ∷ [])
  start_at p = rw (next.stop, next.rows) refl

  pub defined_none : Defined s rows rows c₀ c₀ 0
  defined_none =
      record { size = size; within = begin_ready.within; few = begin_ready.few; looks = begin_ready.looks; on = omega arith; counts = no_counts; fine = refl; told = refl; goes = refl }

  document_at : go (start rows) (nt Document ∷ []) (from s 0) ≡ at s rows c₀ [] most_levels no_counts more_stack
  document_at = start_at Document ∙ document_more (st rows c₀.rows [] c₀.stop most_levels no_counts) (from s c₀.stop)

  module _ (rows₁ : List ℕ) (c : Cursor) (fragments : ℕ) (w : Defined s rows rows₁ c₀ c fragments) where
    pub defined_ready : Ready s rows₁ c no_parent
    defined_ready = record { short = short; size = w.size; within = w.within; few = w.few; looks = w.looks; below = omega arith }

    abbrev Told : List ℕ → Result Cursor Refusal → Type 0
    Told rows₂ u = CountedSaid 1 s rows₁ rows₂ c no_parent most_levels one_definition stays (fragments_are fragments) (fragments_become (fragments_after s c fragments)) u

    pub defined_stop : (rows₂ rows' : List ℕ) (u : Result Cursor Refusal) → Told rows₂ u → (x : Refusal) → u ≡ Err x → Ended Document s rows rows' u
    defined_stop rows₂ rows' u z x i =
        rw i (document_at ∙ w.goes
        ∙ counted_halts 1 s rows₁ rows₂ c no_parent most_levels one_definition u stays (fragments_are fragments) (fragments_become (fragments_after s c fragments)) z x i (nt Definition* ∷ []) [] w.counts refl w.fine w.told)

    module _ (rows₂ : List ℕ) (d : Cursor) (z : Counted 1 s rows₁ rows₂ c d no_parent most_levels one_definition stays (fragments_are fragments) (fragments_become (fragments_after s c fragments))) where
      pub defined_all : d.kind ≡ 0 → Ended Document s rows rows₂ (Ok d)
      defined_all k =
          let v = z.goes (nt Definition* ∷ []) [] w.counts refl w.fine w.told in
          (st rows₂ d.rows [] d.stop most_levels v.0, document_at ∙ w.goes ∙ v.3 ∙ ends v.0 (front s d z.within z.looks), refl, refl)
        where
          ends : (q : Counts) → Front s d → at s rows₂ d [] most_levels q (nt Definition* ∷ []) ≡ whole (st rows₂ d.rows [] d.stop most_levels q)
          ends q (the_end a b i j) = rw b (star_ends (st rows₂ d.rows [] d.stop most_levels q) d.start)
          ends q (a_token x a b i j m) = absurd (by_word (λ k. false) (λ x y. is 0 x) tt x 0 (word_number x) (a ∙ k) refl tt)

      pub defined_more : (d.kind ≡ 0 → ⊥) → (n : ℕ) → n ≡ fragments_after s c fragments → Defined s rows rows₂ c₀ d n
      defined_more k n i =
          let v = z.goes (nt Definition* ∷ []) [] w.counts refl w.fine w.told in
          let f = front_token s d z.within z.looks k in
          record {
            size = z.size;
            within = z.within;
            few = z.few;
            looks = z.looks;
            on = omega (arith, i, after_most s c fragments, w.on, z.on);
            counts = v.0;
            fine = v.1;
            told = v.2 ∙ sym i;
            goes = w.goes ∙ v.3 ∙ rw f.2 (star_more (st rows₂ d.rows [] d.stop most_levels v.0) (token_of f.0 d.start d.end) (from s d.end));
          }

  -- A VARIABLES TEXT
  pub text_none : (rows' : List ℕ) → (c₀.kind ≡ kind_of brace_l → ⊥) → (u : Result Cursor Refusal) → u ≡ no_going_of c₀ → Ended VariablesText s rows rows' u
  unfolding factored language choose refuses refuses_end
  text_none rows' h u i =
      rw i (start_at VariablesText ∙ refuse s c₀ begin_ready.within begin_ready.looks rows c₀.rows [] most_levels no_counts [] VariablesText (λ y. not (is (kind_of brace_l) y)) (not_is (kind_of brace_l) c₀.kind h) tt tt)

  module _ (h : c₀.kind ≡ kind_of brace_l) where
    text_at : go (start rows) (nt VariablesText ∷ []) (from s 0) ≡ at s rows c₀ [] most_levels no_counts (value_stack true)
    unfolding factored language
    text_at =
        start_at VariablesText
        ∙ first s c₀ begin_ready.within begin_ready.looks rows c₀.rows [] most_levels no_counts [] VariablesText {α = act row ∷ act (kind kind_object 0) ∷ nt ConstObjectValue ∷ act end ∷ []} (Memᴰ.head refl) brace_l h tt
        ∙ sym (first s c₀ begin_ready.within begin_ready.looks rows c₀.rows [] most_levels no_counts [] ConstValue {α = act row ∷ act (kind kind_object 0) ∷ nt ConstObjectValue ∷ act end ∷ []}
        (Memᴰ.tail (Memᴰ.tail (Memᴰ.tail (Memᴰ.tail (Memᴰ.tail (Memᴰ.tail (Memᴰ.tail (Memᴰ.tail (Memᴰ.head refl))))))))) brace_l h tt)

    pub text_stop : (rows₁ rows' : List ℕ) (u : Result Cursor Refusal) → Said 1 s rows rows₁ c₀ no_parent most_levels (value_stack true) u → (x : Refusal) → u ≡ Err x → Ended VariablesText s rows rows' u
    text_stop rows₁ rows' u w x i = rw i (text_at ∙ said_halts 1 s rows rows₁ c₀ no_parent most_levels (value_stack true) u w x i [] [] no_counts refl refl)

    module _ (rows₁ : List ℕ) (d : Cursor) (w : Went 1 s rows rows₁ c₀ d no_parent most_levels (value_stack true)) where
      text_ends : go (start rows) (nt VariablesText ∷ []) (from s 0) ≡ at s rows₁ d [] most_levels no_counts []
      text_ends = text_at ∙ w.goes [] [] no_counts refl refl

      pub text_more : (rows' : List ℕ) → (d.kind ≡ 0 → ⊥) → (u : Result Cursor Refusal) → u ≡ no_going_of d → Ended VariablesText s rows rows' u
      text_more rows' k u i =
          let f = front_token s d w.within w.looks k in
          rw i (text_ends ∙ rw f.2 (empty_halts (st rows₁ d.rows [] d.stop most_levels no_counts) (token_of f.0 d.start d.end) (from s d.end)))

      pub text_all : d.kind ≡ 0 → Ended VariablesText s rows rows₁ (Ok d)
      unfolding go step
      text_all k = (st rows₁ d.rows [] d.stop most_levels no_counts, text_ends ∙ ends (front s d w.within w.looks), refl, refl)
        where
          ends : Front s d → at s rows₁ d [] most_levels no_counts [] ≡ whole (st rows₁ d.rows [] d.stop most_levels no_counts)
          ends (the_end a b i j) = rw b refl
          ends (a_token x a b i j m) = absurd (by_word (λ k. false) (λ x y. is 0 x) tt x 0 (word_number x) (a ∙ k) refl tt)
