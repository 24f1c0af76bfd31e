-- Laws of entries: the machine reads Name : Value below a row of its own as the code does.
use mathlib.Core.Path.{◌≡◌, refl, sym, ◌∙◌, subst}
use mathlib.Core.Bool.{Bool, true, false, not}
use mathlib.Core.List.{List, [], ◌∷◌, ◌++◌, Memᴰ}
use mathlib.Core.Logic.{◌≢◌, inl, inr}
use Prim.Native.Nat.{ℕ, ◌+◌, ◌-◌, ◌*◌, ◌≤◌, ◌<◌}
use native.Mathlib.Omega.{arith}
use lib.Dec.{T, eqb}
use lib.ListN.{length, set, length-set}
use borrow.Author.Tests.{eqb-true, eqb-false}
use Rattle.std.specs.Prelude.{Result, Ok, Err}
use Rattle.paper.specs.Grammar.{nt, tm, act}
use Rattle.paper.specs.Numbers.{most_text, most_rows, rows_size, kind_argument, kind_object_field}
use Rattle.paper.specs.Language.{the, any_name, named, end, Part, Name, Argument, language, colon, n_other}
use Rattle.paper.specs.Rows.{top}
use Rattle.paper.specs.Sizes.{Counts, kinded, over_counts}
use Rattle.paper.specs.declared.Refusal.{Refusal}
use Rattle.paper.specs.declared.Refusal.TheVariants.{NoGoing, TooManyRows}
use Rattle.paper.proofs.Lexing.{from}
use Rattle.paper.proofs.Machine.{fst, choose}
use Rattle.paper_theory.proofs.Test.{all, implies}
use Rattle.paper.proofs.Tables.{graphql, factored, all_c}
use Rattle.paper.proofs.Going.{Stack, st, go}
use Rattle.text_scan.specs.Head.{kind_of}
use Rattle.text_cursor.specs.declared.Cursor.{Cursor}
use Rattle.text_cursor.specs.Reader.{Ready, at, Went, Halts, Said}
use Rattle.text_cursor.proofs.ReaderLaws.{token_lies}
use Rattle.text_cursor.proofs.Steps.{is, not_is, first, refuse, lacks, plain, too_many_rows, refuses, refuses_end}
use Rattle.text_cursor.proofs.Cells.{put, put_length, row_opens, name_told, ends_row}
use Rattle.text_leaves.specs.Stacks.{value_part, entry_stack, EntryKind}
use Rattle.text_leaves.specs.Marks.{past, Named, SaidNamed}
use Rattle.text_leaves.proofs.MovedLaws.{start_in_is, stop_in_is, ready_lies, Moved, moved_done, moved_halts}
use Rattle.text_values.proofs.NestParts.{field_part}
use Rattle.text_values.proofs.VariableLaws.{name_in_is}

uncounted : (K : ℕ) → EntryKind K → (q : Counts) → kinded K q ≡ q
uncounted K (inl e) q = rw e refl
uncounted K (inr e) q = rw e refl

module _ (s rows : List ℕ) (c : Cursor) (parent : ℕ) (ready : Ready s rows c parent) (K : ℕ) (counted : EntryKind K) where
  -- the row while it is open
  abbrev opened : List ℕ
  opened = put rows c.rows K c.start 0 parent c.start (c.end - c.start) 0

  begins : (left : ℕ) (b : Bool) (σ : Stack) (o : List ℕ) (q : Counts) → top o ≡ parent →
      at s rows c o left q (entry_stack K b ++ σ) ≡ go (st opened (c.rows + 1) (c.rows ∷ o) c.stop left q) (nt Name ∷ tm (the colon) ∷ nt (value_part b) ∷ act end ∷ σ) (from s c.stop)
  begins left b σ o q h =
      row_opens rows c.rows o c.stop left q (act named ∷ nt Name ∷ tm (the colon) ∷ nt (value_part b) ∷ act end ∷ σ) (from s c.stop) K 0
      ∙ rw (start_in_is s c ready.looks, h, uncounted K counted q) refl
      ∙ name_told rows (c.rows + 1) o c.stop left q (nt Name ∷ tm (the colon) ∷ nt (value_part b) ∷ act end ∷ σ) (from s c.stop) c.rows K c.start 0 parent 0 0 0
      ∙ rw (start_in_is s c ready.looks, stop_in_is s c ready.looks) refl

  pub entry_no_name : c.kind ≢ kind_of n_other → (left : ℕ) (b : Bool) → Halts s rows c parent left (entry_stack K b) (NoGoing c.start)
  unfolding refuses refuses_end choose factored language
  entry_no_name n left b σ o q h f =
      begins left b σ o q h
      ∙ refuse s c ready.within ready.looks opened (c.rows + 1) (c.rows ∷ o) left q (tm (the colon) ∷ nt (value_part b) ∷ act end ∷ σ) Name (λ x. not (is (kind_of n_other) x)) (not_is (kind_of n_other) c.kind n) tt tt

  module _ (e : c.kind ≡ kind_of n_other) where
    named_goes : (left : ℕ) (b : Bool) (σ : Stack) (o : List ℕ) (q : Counts) → top o ≡ parent →
        at s rows c o left q (entry_stack K b ++ σ) ≡ go (st opened (c.rows + 1) (c.rows ∷ o) c.stop left q) (tm any_name ∷ tm (the colon) ∷ nt (value_part b) ∷ act end ∷ σ) (from s c.stop)
    named_goes left b σ o q h =
        begins left b σ o q h
        ∙ first s c ready.within ready.looks opened (c.rows + 1) (c.rows ∷ o) left q (tm (the colon) ∷ nt (value_part b) ∷ act end ∷ σ) Name name_in_is n_other e tt

    pub entry_full : c.rows ≡ most_rows → (left : ℕ) (b : Bool) → Halts s rows c parent left (entry_stack K b) (TooManyRows c.start)
    entry_full n left b σ o q h f =
        named_goes left b σ o q h
        ∙ too_many_rows s c ready.within ready.looks opened (c.rows + 1) (c.rows ∷ o) left q (tm (the colon) ∷ nt (value_part b) ∷ act end ∷ σ) any_name n_other e tt tt (omega arith)

    module _ (room : c.rows ≢ most_rows) where
      few : c.rows < most_rows
      few = omega (arith, ready.few)

      -- past the name
      name_goes : (left : ℕ) (b : Bool) (σ : Stack) (o : List ℕ) (q : Counts) → top o ≡ parent → over_counts q ≡ false →
          at s rows c o left q (entry_stack K b ++ σ) ≡ go (st opened (c.rows + 1) (c.rows ∷ o) c.end left q) (tm (the colon) ∷ nt (value_part b) ∷ act end ∷ σ) (from s c.end)
      name_goes left b σ o q h f =
          named_goes left b σ o q h
          ∙ plain s c ready.within ready.looks opened (c.rows + 1) (c.rows ∷ o) left q (tm (the colon) ∷ nt (value_part b) ∷ act end ∷ σ) any_name n_other e tt tt (omega (arith, few)) f

      pub entry_bad : (rows' : List ℕ) (r : Result Cursor Refusal) (x : Refusal) → r ≡ past s c (c.rows + 1) → r ≡ Err x → SaidNamed s rows rows' c parent K r
      entry_bad rows' r x q w = rw w (λ left b σ o y h f. name_goes left b σ o y h f ∙ moved_halts s c.end (c.rows + 1) r x q w (st opened (c.rows + 1) (c.rows ∷ o) c.end left y) (tm (the colon) ∷ nt (value_part b) ∷ act end ∷ σ))

      -- at the token that must be the colon
      module _ (r : Result Cursor Refusal) (d : Cursor) (q : r ≡ past s c (c.rows + 1)) (w : r ≡ Ok d) where
        m : Moved s c.end (c.rows + 1) d
        m = moved_done s c.end (c.rows + 1) r d q w

        within : d.stop ≤ length s
        within = rw m.stop (ready_lies s rows c parent ready).2

        pub colon_lies : (d.stop ≤ d.start) × (d.start ≤ d.end) × (d.end ≤ length s)
        colon_lies = token_lies s d.stop d.kind d.start d.end within m.looks

        at_colon : (left : ℕ) (b : Bool) (σ : Stack) (o : List ℕ) (y : Counts) → top o ≡ parent → over_counts y ≡ false →
            at s rows c o left y (entry_stack K b ++ σ) ≡ go (st opened (c.rows + 1) (c.rows ∷ o) d.stop left y) (tm (the colon) ∷ nt (value_part b) ∷ act end ∷ σ) (from s d.stop)
        at_colon left b σ o y h f = name_goes left b σ o y h f ∙ rw m.stop refl

        pub entry_no_colon : d.kind ≢ kind_of colon → (left : ℕ) (b : Bool) → Halts s rows c parent left (entry_stack K b) (NoGoing d.start)
        entry_no_colon n left b σ o y h f =
            at_colon left b σ o y h f
            ∙ lacks s d within m.looks opened (c.rows + 1) (c.rows ∷ o) left y (nt (value_part b) ∷ act end ∷ σ) (the colon) (λ x. not (is (kind_of colon) x)) (not_is (kind_of colon) d.kind n) tt

        module _ (k : d.kind ≡ kind_of colon) where
          colon_goes : (left : ℕ) (b : Bool) (σ : Stack) (o : List ℕ) (y : Counts) → top o ≡ parent → over_counts y ≡ false →
              at s rows c o left y (entry_stack K b ++ σ) ≡ go (st opened (c.rows + 1) (c.rows ∷ o) d.end left y) (nt (value_part b) ∷ act end ∷ σ) (from s d.end)
          colon_goes left b σ o y h f =
              at_colon left b σ o y h f
              ∙ plain s d within m.looks opened (c.rows + 1) (c.rows ∷ o) left y (nt (value_part b) ∷ act end ∷ σ) (the colon) colon k tt tt (omega (arith, few)) f

          -- at the value
          pub entry_named : (rows' : List ℕ) → rows' ≡ opened → (t : Result Cursor Refusal) → t ≡ past s d (c.rows + 1) → SaidNamed s rows rows' c parent K t
          entry_named rows' p (Ok g) u =
              let v = moved_done s d.end (c.rows + 1) (Ok g) g u refl in
              record {
                room = few;
                size = rw p (put_length rows c.rows K c.start 0 parent c.start (c.end - c.start) 0 ∙ ready.size);
                within = rw v.stop colon_lies.2;
                few = rw v.rows (omega (arith, few));
                looks = v.looks;
                on = omega (arith, v.stop, colon_lies, m.stop, ready_lies s rows c parent ready);
                goes = λ left b σ o y h f. colon_goes left b σ o y h f ∙ rw (v.stop, v.rows, p) refl;
              }
          entry_named rows' p (Err x) u = λ left b σ o y h f. colon_goes left b σ o y h f ∙ moved_halts s d.end (c.rows + 1) (Err x) x u refl (st opened (c.rows + 1) (c.rows ∷ o) d.end left y) (nt (value_part b) ∷ act end ∷ σ)

-- AN ENTRY, where its name and colon were read
module _ (s rows : List ℕ) (c : Cursor) (parent left K : ℕ) (b : Bool) (rows₁ : List ℕ) (r : Result Cursor Refusal) (said : SaidNamed s rows rows₁ c parent K r) where
  pub entry_refused : (rows' : List ℕ) (x : Refusal) → r ≡ Err x → Said 1 s rows rows' c parent left (entry_stack K b) r
  entry_refused rows' x w = rw w ((subst (SaidNamed s rows rows₁ c parent K) w said) left b)

  module _ (g : Cursor) (w : r ≡ Ok g) where
    pub entry_begun : Named s rows rows₁ c g parent K
    entry_begun = subst (SaidNamed s rows rows₁ c parent K) w said

    pub entry_ready : length s ≤ most_text → Ready s rows₁ g c.rows
    entry_ready l = let a = entry_begun in record { short = l; size = a.size; within = a.within; few = a.few; looks = a.looks; below = omega (arith, a.room) }

    module _ (rows₂ : List ℕ) (z : Result Cursor Refusal) (of-value : Said 1 s rows₁ rows₂ g c.rows left (nt (value_part b) ∷ []) z) where
      pub entry_stops : (rows' : List ℕ) (x : Refusal) → z ≡ Err x → Said 1 s rows rows' c parent left (entry_stack K b) z
      entry_stops rows' x j = rw j (step (subst (Said 1 s rows₁ rows₂ g c.rows left (nt (value_part b) ∷ [])) j of-value))
        where
          step : Halts s rows₁ g c.rows left (nt (value_part b) ∷ []) x → Halts s rows c parent left (entry_stack K b) x
          step a σ o y h f = entry_begun.goes left b σ o y h f ∙ a (act end ∷ σ) (c.rows ∷ o) y refl f

      module _ (d : Cursor) (j : z ≡ Ok d) where
        value_went : Went 1 s rows₁ rows₂ g d c.rows left (nt (value_part b) ∷ [])
        value_went = subst (Said 1 s rows₁ rows₂ g c.rows left (nt (value_part b) ∷ [])) j of-value

        pub entry_size : length rows₂ ≡ rows_size
        entry_size = value_went.size

        pub entry_went : (rows' : List ℕ) → rows' ≡ set rows₂ (7 * c.rows + 2) d.stop → Went 1 s rows rows' c d parent left (entry_stack K b)
        entry_went rows' n =
            let a = value_went in
            record {
              size = rw n (length-set rows₂ (7 * c.rows + 2) d.stop ∙ a.size);
              within = a.within;
              few = a.few;
              looks = a.looks;
              on = omega (arith, a.on, entry_begun.on);
              goes = λ σ o y h f. entry_begun.goes left b σ o y h f ∙ a.goes (act end ∷ σ) (c.rows ∷ o) y refl f ∙ ends_row rows₂ d.rows o d.stop left y σ (from s d.stop) c.rows ∙ rw n refl;
            }

-- a part whose one production is an entry: it may as well be read as that, at any token
module _ (field : Part) (K : ℕ) (counted : EntryKind K) (b : Bool) (mem : Memᴰ (entry_stack K b) (factored field))
    (begins-it : T (all (λ k. implies (is (kind_of n_other) (kind_of k)) (fst graphql (entry_stack K b) k)) all_c))
    (refuses-it : T (all (λ k. implies (not (is (kind_of n_other) (kind_of k))) (refuses field k)) all_c))
    (refuses-end : T (refuses_end field))
    (s rows : List ℕ) (c : Cursor) (parent : ℕ) (ready : Ready s rows c parent) (left : ℕ) where
  entry_is : (σ : Stack) (o : List ℕ) (q : Counts) → top o ≡ parent → over_counts q ≡ false → at s rows c o left q (nt field ∷ σ) ≡ at s rows c o left q (entry_stack K b ++ σ)
  entry_is σ o q h f = cases (eqb c.kind (kind_of n_other)) refl
    where
      cases : (x : Bool) → eqb c.kind (kind_of n_other) ≡ x → at s rows c o left q (nt field ∷ σ) ≡ at s rows c o left q (entry_stack K b ++ σ)
      cases true e = first s c ready.within ready.looks rows c.rows o left q σ field mem n_other (eqb-true c.kind (kind_of n_other) e) begins-it
      cases false e =
          refuse s c ready.within ready.looks rows c.rows o left q σ field (λ x. not (is (kind_of n_other) x)) (not_is (kind_of n_other) c.kind (eqb-false c.kind (kind_of n_other) e)) refuses-it refuses-end
          ∙ sym (entry_no_name s rows c parent ready K counted (eqb-false c.kind (kind_of n_other) e) left b σ o q h f)

module _ (s rows : List ℕ) (c : Cursor) (parent : ℕ) (ready : Ready s rows c parent) (left : ℕ) where
  pub argument_is : (σ : Stack) (o : List ℕ) (q : Counts) → top o ≡ parent → over_counts q ≡ false → at s rows c o left q (nt Argument ∷ σ) ≡ at s rows c o left q (entry_stack kind_argument false ++ σ)
  unfolding refuses refuses_end choose factored language
  argument_is = entry_is Argument kind_argument (inl refl) false (Memᴰ.head refl) tt tt tt s rows c parent ready left

  pub field_is : (b : Bool) (σ : Stack) (o : List ℕ) (q : Counts) → top o ≡ parent → over_counts q ≡ false → at s rows c o left q (nt (field_part b) ∷ σ) ≡ at s rows c o left q (entry_stack kind_object_field b ++ σ)
  unfolding refuses refuses_end choose factored language
  field_is true = entry_is (field_part true) kind_object_field (inr refl) true (Memᴰ.head refl) tt tt tt s rows c parent ready left
  field_is false = entry_is (field_part false) kind_object_field (inr refl) false (Memᴰ.head refl) tt tt tt s rows c parent ready left
