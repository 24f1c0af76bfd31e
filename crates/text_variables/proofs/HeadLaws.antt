-- A variable definition up to its type: the dollar, the name and the colon.
use mathlib.Core.Path.{◌≡◌, refl, sym, ap, ◌∙◌}
use mathlib.Core.Bool.{false, not}
use mathlib.Core.List.Memᴰ
use mathlib.Core.List.{List, [], ◌∷◌, ◌++◌}
use Prim.Native.Nat.{ℕ, ◌+◌, ◌-◌, ◌≤◌, ◌<◌}
use native.Mathlib.Omega.{arith}
use lib.ListN.{length}
use Rattle.std.specs.Prelude.{Result, Ok, Err}
use Rattle.paper.specs.Grammar.{nt, tm, act}
use Rattle.paper.specs.Numbers.{most_rows, kind_variable_definition}
use Rattle.paper.specs.Language.{language, the, any_name, dollar, colon, named, Name, n_other}
use Rattle.paper.specs.Rows.{top}
use Rattle.paper.specs.Sizes.{Counts, kinded, over_counts}
use Rattle.paper.specs.declared.Refusal.{Refusal}
use Rattle.paper.proofs.Lexing.{from}
use Rattle.paper.proofs.Machine.{choose}
use Rattle.paper.proofs.Tables.{factored}
use Rattle.paper.proofs.Going.{Stack, st, go}
use Rattle.text_scan.specs.Head.{head_of, kind_of}
use Rattle.text_cursor.specs.Reader.{Ready, at, moved_to, no_going_of}
use Rattle.text_cursor.specs.declared.Cursor.{Cursor}
use Rattle.text_cursor.proofs.Steps.{is, not_is, first, refuse, refuses, refuses_end, lacks, plain}
use Rattle.text_cursor.proofs.Cells.{put, put_length, row_opens, name_told}
use Rattle.text_references.proofs.MovedLaws.{Next, next_of, moved_halts, ahead, end_within, start_in_is, stop_in_is}
use Rattle.text_variables.specs.Counted.{CountedSaid, opens}
use Rattle.text_variables.specs.Variables.{one_variable_more, variable_begun, head_stack}
use Rattle.text_variables.proofs.CountedLaws.{variable_fine}

module _ (s rows : List ℕ) (c : Cursor) (parent : ℕ) (g : Ready s rows c parent) (h : c.kind ≡ kind_of dollar) (room : c.rows < most_rows) where
  -- at the dollar
  dollar_past : (left : ℕ) (σ : Stack) (o : List ℕ) (q : Counts) → top o ≡ parent → over_counts q ≡ false → one_variable_more q →
      at s rows c o left q (head_stack ++ σ) ≡ go (st (put rows c.rows kind_variable_definition c.start 0 parent 0 0 0) (c.rows + 1) (c.rows ∷ o) c.end left (kinded kind_variable_definition q)) (act named ∷ nt Name ∷ tm (the colon) ∷ σ) (from s c.end)
  dollar_past left σ o q t f k =
      row_opens rows c.rows o c.stop left q (tm (the dollar) ∷ act named ∷ nt Name ∷ tm (the colon) ∷ σ) (from s c.stop) kind_variable_definition 0
      ∙ rw (start_in_is s c g.looks, t)
      (plain s c g.within g.looks (put rows c.rows kind_variable_definition c.start 0 parent 0 0 0) (c.rows + 1) (c.rows ∷ o) left (kinded kind_variable_definition q) (act named ∷ nt Name ∷ tm (the colon) ∷ σ) (the dollar) dollar h tt tt (omega arith) (variable_fine q f k))

  module _ (r : Result Cursor Refusal) (e : r ≡ moved_to c.end (c.rows + 1) (head_of (from s c.end))) where
    pub head_bad : (rows' : List ℕ) (x : Refusal) → r ≡ Err x → (left : ℕ) → CountedSaid 1 s rows rows' c parent left head_stack (opens c.rows) one_variable_more variable_begun r
    head_bad rows' x y left =
        rw y (λ σ o q t f k. dollar_past left σ o q t f k
        ∙ moved_halts s c.end (c.rows + 1) r x e y (st (put rows c.rows kind_variable_definition c.start 0 parent 0 0 0) (c.rows + 1) (c.rows ∷ o) c.end left (kinded kind_variable_definition q)) (act named ∷ nt Name ∷ tm (the colon) ∷ σ))

    module _ (d : Cursor) (y : r ≡ Ok d) where
      -- the row with its name
      abbrev cells : List ℕ
      cells = put rows c.rows kind_variable_definition c.start 0 parent d.start (d.end - d.start) 0

      next : Next s c.end (c.rows + 1) d
      next = next_of s c.end (c.rows + 1) r d e y

      pub head_end : c.end ≤ length s
      head_end = (ahead s c g.within g.looks (λ z. let x : ⊥ = omega arith in x)).2

      pub name_within : d.stop ≤ length s
      name_within = omega (arith, next.stop, head_end)

      pub name_ends : (d.start ≤ d.end) × (d.end ≤ length s)
      name_ends = end_within s d name_within next.looks

      -- at the name
      name_at : (left : ℕ) (σ : Stack) (o : List ℕ) (q : Counts) → top o ≡ parent → over_counts q ≡ false → one_variable_more q →
          at s rows c o left q (head_stack ++ σ) ≡ at s cells d (c.rows ∷ o) left (kinded kind_variable_definition q) (nt Name ∷ tm (the colon) ∷ σ)
      name_at left σ o q t f k =
          dollar_past left σ o q t f k
          ∙ (let n = next in
          rw (sym n.stop)
          (name_told rows (c.rows + 1) o d.stop left (kinded kind_variable_definition q) (nt Name ∷ tm (the colon) ∷ σ) (from s d.stop) c.rows kind_variable_definition c.start 0 parent 0 0 0
          ∙ rw (start_in_is s d n.looks, stop_in_is s d n.looks, n.rows) refl))

      pub head_nameless : (rows' : List ℕ) → (d.kind ≡ kind_of n_other → ⊥) → (t : Result Cursor Refusal) → t ≡ no_going_of d → (left : ℕ) → CountedSaid 1 s rows rows' c parent left head_stack (opens c.rows) one_variable_more variable_begun t
      unfolding factored language choose refuses refuses_end
      head_nameless rows' k t z left =
          rw z (λ σ o q t f m. name_at left σ o q t f m
          ∙ refuse s d name_within next.looks cells d.rows (c.rows ∷ o) left (kinded kind_variable_definition q) (tm (the colon) ∷ σ) Name (λ y. not (is (kind_of n_other) y)) (not_is (kind_of n_other) d.kind k) tt tt)

      module _ (k : d.kind ≡ kind_of n_other) where
        name_past : (left : ℕ) (σ : Stack) (o : List ℕ) (q : Counts) → top o ≡ parent → over_counts q ≡ false → one_variable_more q →
            at s rows c o left q (head_stack ++ σ) ≡ go (st cells (c.rows + 1) (c.rows ∷ o) d.end left (kinded kind_variable_definition q)) (tm (the colon) ∷ σ) (from s d.end)
        unfolding factored language
        name_past left σ o q t f m =
            name_at left σ o q t f m
            ∙ first s d name_within next.looks cells d.rows (c.rows ∷ o) left (kinded kind_variable_definition q) (tm (the colon) ∷ σ) Name {α = tm any_name ∷ []} (Memᴰ.head refl) n_other k tt
            ∙ plain s d name_within next.looks cells d.rows (c.rows ∷ o) left (kinded kind_variable_definition q) (tm (the colon) ∷ σ) any_name n_other k tt tt (omega (arith, next.rows)) (variable_fine q f m)
            ∙ rw next.rows refl

        module _ (u : Result Cursor Refusal) (i : u ≡ moved_to d.end (c.rows + 1) (head_of (from s d.end))) where
          pub head_bad_2 : (rows' : List ℕ) (x : Refusal) → u ≡ Err x → (left : ℕ) → CountedSaid 1 s rows rows' c parent left head_stack (opens c.rows) one_variable_more variable_begun u
          head_bad_2 rows' x z left =
              rw z (λ σ o q t f m. name_past left σ o q t f m ∙ moved_halts s d.end (c.rows + 1) u x i z (st cells (c.rows + 1) (c.rows ∷ o) d.end left (kinded kind_variable_definition q)) (tm (the colon) ∷ σ))

          module _ (b : Cursor) (z : u ≡ Ok b) where
            next_2 : Next s d.end (c.rows + 1) b
            next_2 = next_of s d.end (c.rows + 1) u b i z

            pub colon_within : b.stop ≤ length s
            colon_within = omega (arith, next_2.stop, name_ends)

            pub colon_end : b.end ≤ length s
            colon_end = (end_within s b colon_within next_2.looks).1

            colon_at : (left : ℕ) (σ : Stack) (o : List ℕ) (q : Counts) → top o ≡ parent → over_counts q ≡ false → one_variable_more q →
                at s rows c o left q (head_stack ++ σ) ≡ at s cells b (c.rows ∷ o) left (kinded kind_variable_definition q) (tm (the colon) ∷ σ)
            colon_at left σ o q t f m = let n = next_2 in name_past left σ o q t f m ∙ rw (n.stop, n.rows) refl

            pub head_colonless : (rows' : List ℕ) → (b.kind ≡ kind_of colon → ⊥) → (t : Result Cursor Refusal) → t ≡ no_going_of b → (left : ℕ) → CountedSaid 1 s rows rows' c parent left head_stack (opens c.rows) one_variable_more variable_begun t
            head_colonless rows' j t a left =
                rw a (λ σ o q t f m. colon_at left σ o q t f m
                ∙ lacks s b colon_within next_2.looks cells b.rows (c.rows ∷ o) left (kinded kind_variable_definition q) σ (the colon) (λ y. not (is (kind_of colon) y)) (not_is (kind_of colon) b.kind j) tt)

            module _ (j : b.kind ≡ kind_of colon) where
              colon_past : (left : ℕ) (σ : Stack) (o : List ℕ) (q : Counts) → top o ≡ parent → over_counts q ≡ false → one_variable_more q →
                  at s rows c o left q (head_stack ++ σ) ≡ go (st cells (c.rows + 1) (c.rows ∷ o) b.end left (kinded kind_variable_definition q)) σ (from s b.end)
              colon_past left σ o q t f m =
                  colon_at left σ o q t f m
                  ∙ plain s b colon_within next_2.looks cells b.rows (c.rows ∷ o) left (kinded kind_variable_definition q) σ (the colon) colon j tt tt (omega (arith, next_2.rows)) (variable_fine q f m)
                  ∙ rw next_2.rows refl

              pub head_says : (rows' : List ℕ) → rows' ≡ cells → (a : Result Cursor Refusal) → a ≡ moved_to b.end (c.rows + 1) (head_of (from s b.end)) → (left : ℕ) →
                  CountedSaid 1 s rows rows' c parent left head_stack (opens c.rows) one_variable_more variable_begun a
              head_says rows' w (Err x) v left = λ σ o q t f m. colon_past left σ o q t f m ∙ moved_halts s b.end (c.rows + 1) (Err x) x v refl (st cells (c.rows + 1) (c.rows ∷ o) b.end left (kinded kind_variable_definition q)) σ
              head_says rows' w (Ok a) v left =
                  let n = next_of s b.end (c.rows + 1) (Ok a) a v refl in
                  let l = ahead s c g.within g.looks (λ z. let x : ⊥ = omega arith in x) in
                  let l' = name_ends in
                  let l'' = colon_end in
                  let k' = ahead s d name_within next.looks (λ z. let x : ⊥ = omega (arith, k) in x) in
                  let k'' = ahead s b colon_within next_2.looks (λ z. let x : ⊥ = omega (arith, j) in x) in
                  record {
                    size = ap length w ∙ put_length rows c.rows kind_variable_definition c.start 0 parent d.start (d.end - d.start) 0 ∙ g.size;
                    within = omega (arith, n.stop);
                    few = omega (arith, n.rows);
                    looks = n.looks;
                    on = omega (arith, n.stop, next.stop, next_2.stop);
                    goes = λ σ o q t f m. (kinded kind_variable_definition q, variable_fine q f m, refl, colon_past left σ o q t f m ∙ rw (w, n.stop, n.rows) refl);
                  }
