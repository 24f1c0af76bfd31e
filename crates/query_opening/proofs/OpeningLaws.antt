-- The operation that a name means, by the first operations; and from what came of judging, reading and naming to what opening answers.
use mathlib.Core.Path.{◌≡◌, refl, sym, ap, ◌∙◌, subst}
use mathlib.Core.Bool.{Bool, true, false, cond, true≢false}
use mathlib.Core.Option.{Option, none, some}
use mathlib.Core.List.{List, [], ◌∷◌, ◌++◌}
use Prim.Native.Nat.{ℕ, zero, suc, ◌+◌, ◌-◌, ◌≤◌, ◌<◌}
use native.Mathlib.Omega.{arith}
use lib.ListN.{length, drop, get_or}
use borrow.Author.Tests.{lt-ltb, le-ltb}
use Rattle.std.specs.Prelude.{Some, None, Result, Ok, Err}
use Rattle.paper.specs.Numbers.{kind_operation}
use Rattle.paper.specs.Language.{Document}
use Rattle.paper.specs.Rows.{Row}
use Rattle.paper.specs.declared.Refusal.{Refusal}
use Rattle.paper.proofs.Lexing.{from}
use Rattle.paper_theory.proofs.TokensLaws.{tokens_are}
use Rattle.paper_theory.proofs.GoingSaid.{going_halt}
use Rattle.paper_theory.proofs.CallsGoing.{from_rising}
use Rattle.paper_table.specs.Lists.{each_from, only_if}
use Rattle.paper_table.specs.Types.{table_of}
use Rattle.paper_table.specs.Judging.{judge}
use Rattle.paper_table.specs.declared.TableAnswer.{TableAnswer}
use Rattle.paper_table.specs.declared.TableAnswer.TheVariants.{Accepted}
use Rattle.paper_table.proofs.ListsLaws.{each_from_at, each_from_end}
use Rattle.paper_query.specs.Constructs.{Doc, no_row, is}
use Rattle.paper_query.specs.QueryRules.{Judged}
use Rattle.paper_query.specs.DocumentCalls.{read}
use Rattle.paper_query.specs.declared.QueryAnswer.{QueryAnswer}
use Rattle.paper_query.specs.declared.QueryAnswer.TheVariants.{Fits, Breaks}
use Rattle.table_types.specs.Booked.{Booked}
use Rattle.text_cursor.specs.declared.Cursor.{Cursor}
use Rattle.text_documents.specs.Documents.{Ended}
use Rattle.query_rows.specs.Rowed.{row_in, rows_in, doc_of}
use Rattle.query_rows.proofs.RowsIn.{rows_count}
use Rattle.query_rows.proofs.ReadRows.{Taken, ended_taken}
use Rattle.query_links.specs.Links.{next_with}
use Rattle.query_links.proofs.Nexts.{next_here, next_step, next_end, next_least, next_skips}
use Rattle.query_rule_3.specs.Called.{first_called}
use Rattle.paper.specs.Numbers.{most_text, rows_size}
use Rattle.paper_query.specs.Constructs.{numbers_where}
use Rattle.paper_query.specs.Opening.{only_one, operation_meant, AcceptedDocument, table_refused, text_refused, rule_broken, no_operation, opened}
use Rattle.query_opening.specs.declared.NotOpened.TheVariants.{BadTable, BadText, Broken, NoOperation}
use Rattle.query_opening.specs.Opens.{told, Opens}

module _ {A : Type 0} (p : A → Bool) (xs : List A) (d : A) where
  abbrev pick : ℕ → A → List ℕ
  pick j x = only_if (p x) j

  -- the numbers that pass, from number i on
  abbrev picked : ℕ → List ℕ
  picked i = each_from i pick (drop i xs)

  picked_none : (m i : ℕ) → m + i ≡ length xs → length xs ≤ next_with p xs i → picked i ≡ []
  picked_none zero i e h = each_from_end pick xs i (omega arith)
  picked_none (suc m) i e h =
      let q = next_skips p xs d i i (omega arith) (omega arith) in
      each_from_at pick xs i d (omega arith)
      ∙ ap (λ (b : Bool). cond b (i ∷ []) [] ++ picked (suc i)) q
      ∙ picked_none m (suc i) (omega arith) (omega (arith, next_step p xs d i (omega arith) q))

  picked_some : (m i : ℕ) → m + i ≡ length xs → next_with p xs i < length xs → picked i ≡ next_with p xs i ∷ picked (suc (next_with p xs i))
  picked_some zero i e h = absurd (omega (arith, next_least p xs i))
  picked_some (suc m) i e h = go (p (get_or xs i d)) refl (λ f. picked_some m (suc i) (omega arith) f)
    where
      go : (b : Bool) → p (get_or xs i d) ≡ b → (next_with p xs (suc i) < length xs → picked (suc i) ≡ next_with p xs (suc i) ∷ picked (suc (next_with p xs (suc i))))
          → picked i ≡ next_with p xs i ∷ picked (suc (next_with p xs i))
      go true q ih =
          each_from_at pick xs i d (omega arith) ∙ ap (λ (b : Bool). cond b (i ∷ []) [] ++ picked (suc i)) q
          ∙ ap (λ (k : ℕ). k ∷ picked (suc k)) (next_here p xs d i (omega arith) q)
      go false q ih =
          let s = next_step p xs d i (omega arith) q in
          each_from_at pick xs i d (omega arith) ∙ ap (λ (b : Bool). cond b (i ∷ []) [] ++ picked (suc i)) q
          ∙ subst (λ (k : ℕ). picked (suc i) ≡ k ∷ picked (suc k)) s (ih (omega (arith, s)))

  pub only_none : length xs ≤ next_with p xs 0 → only_one (picked 0) ≡ none
  only_none h = ap only_one (picked_none (length xs) 0 (omega arith) h)

  pub only_one_is : (i : ℕ) → i ≡ next_with p xs 0 → i < length xs → length xs ≤ next_with p xs (i + 1) → only_one (picked 0) ≡ some i
  only_one_is i e h l =
      let z : suc i ≡ i + 1 = omega arith in
      ap only_one (picked_some (length xs) 0 (omega arith) (omega (arith, e)) ∙ ap (λ (k : ℕ). k ∷ picked (suc k)) (sym e)
      ∙ ap (λ (l : List ℕ). i ∷ l) (picked_none (length xs - suc i) (suc i) (omega arith) (subst (λ (k : ℕ). length xs ≤ next_with p xs k) (sym z) l)))

  pub only_two : (i : ℕ) → i ≡ next_with p xs 0 → i < length xs → next_with p xs (i + 1) < length xs → only_one (picked 0) ≡ none
  only_two i e h l =
      let z : suc i ≡ i + 1 = omega arith in
      let two = picked_some (length xs - suc i) (suc i) (omega arith) (subst (λ (k : ℕ). next_with p xs k < length xs) (sym z) l) in
      ap only_one (picked_some (length xs) 0 (omega arith) (omega (arith, e)) ∙ ap (λ (k : ℕ). k ∷ picked (suc k)) (sym e) ∙ ap (λ (l : List ℕ). i ∷ l) two)

-- A search row by row.
module _ (rows : List ℕ) (n : ℕ) (p : Row → Bool) (start : ℕ) where
  pub record Seeks (i : ℕ) : Type 0 where
    pub below : i ≤ n
    pub same : next_with p (rows_in rows n) i ≡ next_with p (rows_in rows n) start

  pub seeks_start : start ≤ n → Seeks start
  seeks_start h = record { below = h; same = refl }

  module _ (i : ℕ) (w : Seeks i) where
    pub seeks_here : i < n → p (row_in rows n i) ≡ true → i ≡ next_with p (rows_in rows n) start
    seeks_here h e = next_here p (rows_in rows n) no_row i (omega (arith, rows_count rows n)) e ∙ w.same

    pub seeks_on : i < n → p (row_in rows n i) ≡ false → Seeks (i + 1)
    seeks_on h e =
        let z : suc i ≡ i + 1 = omega arith in
        record { below = omega arith; same = subst (λ (k : ℕ). next_with p (rows_in rows n) k ≡ next_with p (rows_in rows n) start) z (next_step p (rows_in rows n) no_row i (omega (arith, rows_count rows n)) e ∙ w.same) }

    pub seeks_end : n ≤ i → n ≡ next_with p (rows_in rows n) start
    seeks_end h =
        let e : n ≡ i = omega (arith, w.below) in
        e ∙ next_end p (rows_in rows n) i (omega (arith, rows_count rows n)) ∙ w.same

-- The only operation.
module _ (s rows : List ℕ) (n : ℕ) where
  abbrev d : Doc
  d = doc_of s rows n

  abbrev ops : Row → Bool
  ops = is kind_operation

  pub meant_no : n ≤ next_with ops (rows_in rows n) 0 → None ≡ told (only_one (numbers_where ops d))
  unfolding numbers_where
  meant_no h = sym (ap told (only_none ops (rows_in rows n) no_row (omega (arith, rows_count rows n))))

  pub meant_one : (i : ℕ) → i ≡ next_with ops (rows_in rows n) 0 → i < n → n ≤ next_with ops (rows_in rows n) (i + 1) → Some i ≡ told (only_one (numbers_where ops d))
  unfolding numbers_where
  meant_one i e h l = sym (ap told (only_one_is ops (rows_in rows n) no_row i e (omega (arith, rows_count rows n)) (omega (arith, rows_count rows n))))

  pub meant_two : (i : ℕ) → i ≡ next_with ops (rows_in rows n) 0 → i < n → next_with ops (rows_in rows n) (i + 1) < n → None ≡ told (only_one (numbers_where ops d))
  unfolding numbers_where
  meant_two i e h l = sym (ap told (only_two ops (rows_in rows n) no_row i e (omega (arith, rows_count rows n)) (omega (arith, rows_count rows n))))

  -- by the name
  pub by_none : (name : List ℕ) → length name ≡ 0 → only_one (numbers_where ops d) ≡ operation_meant d name
  by_none [] e = refl
  by_none (b ∷ bs) e = absurd (omega arith)

  pub by_name : (name : List ℕ) → (length name ≡ 0 → ⊥) → (i : ℕ) → i ≡ first_called d kind_operation name → i < n → Some i ≡ told (operation_meant d name)
  by_name [] f i e h = absurd (f refl)
  by_name (b ∷ bs) f i e h = rw (← e, rows_count rows n, lt-ltb i n h)

  pub by_no_name : (name : List ℕ) → (length name ≡ 0 → ⊥) → (i : ℕ) → i ≡ first_called d kind_operation name → n ≤ i → None ≡ told (operation_meant d name)
  by_no_name [] f i e h = absurd (f refl)
  by_no_name (b ∷ bs) f i e h = rw (← e, rows_count rows n, le-ltb i n h)

told_some : (o : Option ℕ) (i : ℕ) → Some i ≡ told o → o ≡ some i
told_some none i e = absurd (true≢false cc)
told_some (some j) i e = cc

told_none : (o : Option ℕ) → None ≡ told o → o ≡ none
told_none none e = refl
told_none (some j) e = absurd (true≢false cc)

-- What opening answers.
module _ (table document name rows book : List ℕ) (n : ℕ) (j : judge table ≡ Accepted) (k : Booked table book) (w : Taken Document document rows n) where
  judged_read : (a : QueryAnswer) → Judged (table_of table) (doc_of document rows n) a → Judged (table_of table) (read document w.list) a
  judged_read a = subst (λ (rs : List Row). Judged (table_of table) (read document rs) a) w.are

  pub is_broken : (q : QueryAnswer) (i r : ℕ) → Judged (table_of table) (doc_of document rows n) q → q ≡ Breaks i r → Opens table document name rows book (Err (Broken i r))
  is_broken q i r g e = rule_broken j (tokens_are document) w.said (judged_read (Breaks i r) (subst (Judged (table_of table) (doc_of document rows n)) e g))

  module _ (q : QueryAnswer) (g : Judged (table_of table) (doc_of document rows n) q) (e : q ≡ Fits) where
    accepted_document : AcceptedDocument table document (rows_in rows n)
    accepted_document = record {
      table_right = j;
      text = from document 0;
      tokens = tokens_are document;
      said = rw w.are w.said;
      judged = subst (Judged (table_of table) (doc_of document rows n)) e g;
    }

    pub is_nothing : None ≡ told (operation_meant (doc_of document rows n) name) → Opens table document name rows book (Err NoOperation)
    is_nothing u = no_operation accepted_document (told_none (operation_meant (doc_of document rows n) name) u)

    pub is_open : (op : ℕ) → Some op ≡ told (operation_meant (doc_of document rows n) name) → Opens table document name rows book (Ok record { n = n; row = op })
    is_open op u = record {
      opened = opened accepted_document (told_some (operation_meant (doc_of document rows n) name) op u);
      accepted = accepted_document;
      taken = w;
      booked = k;
    }

pub ended_rows : (s rows rows' : List ℕ) (r : Result Cursor Refusal) (c : Cursor) → length s ≤ most_text → length rows ≡ rows_size → Ended Document s rows rows' r → r ≡ Ok c → Taken Document s rows' c.rows
ended_rows s rows rows' r c l e f q = ended_taken Document s rows rows' c.rows l e (subst (λ (x : Result Cursor Refusal). Ended Document s rows rows' x) q f)

pub is_bad_text : (table document name rows rows' book : List ℕ) (r : Result Cursor Refusal) (z : Refusal) → judge table ≡ Accepted → Ended Document document rows rows' r → r ≡ Err z
    → Opens table document name rows' book (Err (BadText z))
is_bad_text table document name rows rows' book r z j f q =
    text_refused j (tokens_are document) (going_halt Document (from document 0) (from_rising document) rows z (subst (λ (x : Result Cursor Refusal). Ended Document document rows rows' x) q f))

pub is_bad_table : (table document name rows book : List ℕ) (a : TableAnswer) → a ≡ judge table → (a ≡ Accepted → ⊥) → Opens table document name rows book (Err (BadTable a))
is_bad_table table document name rows book a e n = table_refused (sym e) n
