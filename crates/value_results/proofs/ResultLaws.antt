-- From what the writers answer to what is given of a result, one law for each way that a function ends.
use mathlib.Core.Path.{◌≡◌, refl, sym, ap, ◌∙◌, subst}
use mathlib.Core.Bool.{Bool, true, false, cond}
use mathlib.Core.List.{List, [], ◌∷◌, ◌++◌, map}
use Prim.Native.Nat.{ℕ, ◌+◌, ◌≤◌, ◌<◌}
use native.Mathlib.Omega.{arith}
use lib.ListN.{length, take, drop}
use lib.Seq.{sets-eq, take_at}
use lib.Dec.{leb}
use borrow.Author.Tests.{le-leb, lt-leb, leb-true, leb-false}
use Rattle.paper.specs.Numbers.{most_rows, most_variables, kind_argument, input_document}
use Rattle.paper_table.specs.Lists.{all_of}
use Rattle.paper_table.specs.Types.{table_of}
use Rattle.paper_query.specs.Constructs.{Doc, count}
use Rattle.paper_query.specs.Enclosing.{field_at}
use Rattle.table_members.specs.Members.{arguments_in}
use Rattle.query_rows.specs.Rowed.{doc_of}
use Rattle.query_rows.proofs.RowsIn.{rows_count}
use Rattle.paper_values.specs.ValueNumbers.{refuse_value, refuse_too_long, most_coerced, tag_input}
use Rattle.paper_values.specs.Values.{At, Tree, Fields, Pairs, Out, Got, No, and_then}
use Rattle.paper_values.specs.Kinds.{due_argument}
use Rattle.paper_values.specs.Coercion.{heads, value_in}
use Rattle.paper_values.specs.Computed.{in_object, givens, or_default, missing_due}
use Rattle.paper_values.specs.Encoding.{encode, encode_pairs}
use Rattle.paper_values.specs.RowValues.{placed, arguments_at}
use Rattle.paper_values.specs.DocumentDues.{definitions_of, argument_dues}
use Rattle.paper_values.specs.ValueCalls.{Ending, ends, yields, ended, as_object}
use Rattle.paper_values.proofs.PlacesLaws.{Kept, UpTo as RowUpTo}
use Rattle.value_writing.specs.Writing.{place_of, Put, Behind, Closed}
use Rattle.value_writing.proofs.PlaceLaws.{place_in, place_over, put_place, behind_order}
use Rattle.value_writing.proofs.EncodedLaws.{object_put}
use Rattle.value_kinds.specs.Dues.{Told as ToldValue}
use Rattle.std.proofs.Common.{Result, Ok, Err}
use Rattle.value_kinds.specs.declared.RefusedRow.{RefusedRow}
use Rattle.value_entries.specs.Entered.{dues_by}
use Rattle.value_held.specs.Given.{Ready, kinds_in}
use Rattle.value_coerce.specs.Coercing.{objected, slim_due}
use Rattle.value_held.specs.Holding.{Holds, Holding}
use Rattle.value_coerce.proofs.ArgumentLaws.{arguments_same, dues_arguments, slim_arguments}
use Rattle.value_variables.specs.Variables.{Told}
use Rattle.value_variables.specs.declared.WrittenPairs.{WrittenPairs}
use Rattle.value_variables.specs.declared.RefusedAt.{RefusedAt}
use Rattle.value_results.specs.Results.{held_room, coerced_variables, argued, result_of, outcome_of, Gives, FieldServes}
use Rattle.value_results.specs.declared.RefusedValue.{RefusedValue}
use Rattle.value_results.specs.declared.Task.{Task}
use Rattle.value_results.proofs.RefusedLaws.{arguments_rows, held_few}

-- the answer that the row of a text is refused
abbrev pub refused : ℕ → ℕ → ℕ → Result ℕ RefusedValue
refused text row why = Err (record { text = text; row = row; why = why })

-- ---- a value that is written, or refused

module _ (tree : Tree) (p p' : List ℕ) (e : ℕ) (l : length p ≡ most_coerced) (w : Put most_coerced (encode tree) 0 p p' e) where
  abbrev ends_as : Bool → List ℕ → Ending
  ends_as b bs = cond b (yields bs) (ends refuse_too_long [])

  fits : length (encode tree) ≤ most_coerced → ended (Got tree) ≡ outcome_of (Ok e) p'
  fits h =
      let put : e ≡ 0 + length (encode tree) = w.0 ∙ sym (place_in most_coerced (0 + length (encode tree)) (omega arith)) in
      let at : e ≡ length (encode tree) = omega arith in
      let there : p' ≡ encode tree ++ drop (0 + length (encode tree)) p = w.1 (omega arith) ∙ sets-eq (encode tree) p 0 (omega arith) in
      let first : take e p' ≡ encode tree = ap (take e) there ∙ take_at (encode tree) (drop (0 + length (encode tree)) p) e (sym at) in
      ap (λ (b : Bool). ends_as b (encode tree)) (le-leb (length (encode tree)) most_coerced h)
      ∙ sym (ap (λ (b : Bool). ends_as b (take e p')) (le-leb e most_coerced (omega (arith, at, h))) ∙ ap yields first)

  too_long : most_coerced < length (encode tree) → ended (Got tree) ≡ outcome_of (Ok e) p'
  too_long h =
      let at : e ≡ most_coerced + 1 = w.0 ∙ sym (place_over most_coerced (0 + length (encode tree)) (omega arith)) in
      ap (λ (b : Bool). ends_as b (encode tree)) (lt-leb (length (encode tree)) most_coerced h)
      ∙ sym (ap (λ (b : Bool). ends_as b (take e p')) (lt-leb e most_coerced (omega (arith, at))))

  pub put_gives : Gives (Got tree) p' (Ok e)
  put_gives = record { same = go (leb (length (encode tree)) most_coerced) refl }
    where
      go : (b : Bool) → leb (length (encode tree)) most_coerced ≡ b → ended (Got tree) ≡ outcome_of (Ok e) p'
      go true q = fits (leb-true (length (encode tree)) most_coerced q)
      go false q = too_long (leb-false (length (encode tree)) most_coerced q)

refused_as : (i : At) (w : ℕ) (v : List ℕ) {text row why : ℕ} → i.text ≡ text → i.row ≡ row → w ≡ why → Gives (No i w) v (refused text row why)
refused_as i w v {text} {row} {why} a b c = record {
  same = ap (λ (x : ℕ). ends refuse_value (x ∷ i.row ∷ w ∷ [])) a ∙ ap (λ (x : ℕ). ends refuse_value (text ∷ x ∷ w ∷ [])) b ∙ ap (λ (x : ℕ). ends refuse_value (text ∷ row ∷ x ∷ [])) c;
}

-- ---- the variables

module _ (t book s rows : List ℕ) (n : ℕ) (s1 rows1 : List ℕ) (n1 limit from : ℕ) (p p' held' : List ℕ) (r : Result WrittenPairs RefusedAt) where
  -- where they have values
  pub record Valued (o : Out Pairs) (at many : ℕ) : Type 0 where
    pub pairs : Pairs
    pub got : o ≡ Got pairs
    pub put : Put limit (encode_pairs pairs) from p p' at
    pub holds : Holds t book s rows n s1 rows1 n1 held' 0 many pairs

  pub told_valued : (o : Out Pairs) (x : WrittenPairs) → Told t book s rows n s1 rows1 n1 limit o 0 from p p' held' r → r ≡ Ok x → Valued o x.at x.many
  told_valued (Got ps) x (e, m, q, w, h) d =
      let y : ◌≡◌ {A = Result WrittenPairs RefusedAt} (Ok (record { at = e; many = m })) (Ok x) = sym q ∙ d in
      let z : record { at = e; many = m } ≡ x = cc in
      let a : e ≡ x.at = ap (λ (k : WrittenPairs). k.at) z in
      let b : m ≡ x.many = ap (λ (k : WrittenPairs). k.many) z in
      record { pairs = ps; got = refl; put = rw a at w; holds = rw b at h }
  told_valued (No i w) x q d = let z : ◌≡◌ {A = ℕ} 0 1 = cc in absurd (omega arith)

  -- where one is refused
  told_same : (i : At) (w : ℕ) (x : RefusedAt) → r ≡ Err (record { text = i.text; row = i.row; why = w }) → r ≡ Err x → record { text = i.text; row = i.row; why = w } ≡ x
  told_same i w x q d = cc

  pub told_refused : (o : Out Pairs) (f : Pairs → Out Tree) (v : List ℕ) (x : RefusedAt) → Told t book s rows n s1 rows1 n1 limit o 0 from p p' held' r → r ≡ Err x →
      Gives (and_then o f) v (refused x.text x.row x.why)
  told_refused (Got ps) f v x (e, m, q, w, h) d = let z : ◌≡◌ {A = ℕ} 0 1 = cc in absurd (omega arith)
  told_refused (No i w) f v x q d =
      let z = told_same i w x q d in
      refused_as i w v (ap (λ (k : RefusedAt). k.text) z) (ap (λ (k : RefusedAt). k.row) z) (ap (λ (k : RefusedAt). k.why) z)

  pub told_row : (o : Out Pairs) (x : RefusedAt) → Kept (RowUpTo most_rows) o → Told t book s rows n s1 rows1 n1 limit o 0 from p p' held' r → r ≡ Err x → x.row ≤ most_rows
  told_row (Got ps) x k (e, m, q, w, h) d = let z : ◌≡◌ {A = ℕ} 0 1 = cc in absurd (omega arith)
  told_row (No i w) x k q d = let b : i.row ≡ x.row = ap (λ (z : RefusedAt). z.row) (told_same i w x q d) in omega (arith, k, b)

module _ {t book s rows : List ℕ} {n : ℕ} {s1 rows1 : List ℕ} {n1 from : ℕ} {p p' held' : List ℕ} {r : Result WrittenPairs RefusedAt} {o : Out Pairs} {at many : ℕ}
    (v : Valued t book s rows n s1 rows1 n1 most_coerced from p p' held' r o at many) where
  -- their pairs as one object
  pub valued_behind : from ≡ place_of most_coerced (0 + 3) → length p' ≡ most_coerced → Behind most_coerced 0 at p'
  valued_behind f l = record {
    least = omega arith;
    end = put_place most_coerced (encode_pairs v.pairs) from p p' at v.put;
    order = λ h. behind_order most_coerced (encode_pairs v.pairs) 0 from at p p' f v.put h;
    size = l;
  }

  pub valued_object : (p'' : List ℕ) (e : ℕ) → from ≡ place_of most_coerced (0 + 3) → length p ≡ most_coerced → Closed most_coerced 0 tag_input at p' p'' e → Gives (as_object o) p'' (Ok e)
  valued_object p'' e f l c =
      subst (λ (x : Out Pairs). Gives (as_object x) p'' (Ok e)) (sym v.got)
      (put_gives (Fields v.pairs) p p'' e l (object_put most_coerced v.pairs 0 from at e p p' p'' f v.put c))

  -- and what is done with them
  pub valued_then : (f : Pairs → Out Tree) (w : List ℕ) (x : Result ℕ RefusedValue) → Gives (f v.pairs) w x → Gives (and_then o f) w x
  valued_then f w x g = subst (λ (y : Out Pairs). Gives (and_then y f) w x) (sym v.got) g

-- the few that are held
pub valued_holding : {t book s rows : List ℕ} {n : ℕ} {s1 rows1 : List ℕ} {n1 limit from : ℕ} {p p' held' : List ℕ} {r : Result WrittenPairs RefusedAt} (op : ℕ) {at many : ℕ} {past1 : List ℕ}
    (v : Valued t book s rows n s1 rows1 n1 limit from p p' held' r (coerced_variables t (doc_of s rows n) op (doc_of s1 rows1 n1)) at many) → Ready t book s1 rows1 n1 past1 →
    length (definitions_of (doc_of s rows n) op) ≤ most_variables → length held' ≡ held_room → Holding t book s rows n s1 rows1 n1 past1 held' many
valued_holding {t} {book} {s} {rows} {n} {s1} {rows1} {n1} {held' = held'} op {many = many} v ready few l =
    let m = held_few t book s rows n s1 rows1 n1 held' many v.pairs (doc_of s rows n) op (doc_of s1 rows1 n1) v.holds v.got in
    record { ready = ready; size = omega (arith, m, few, l); pairs = v.pairs; holds = v.holds }

-- ---- the arguments

-- where they have a value, or one is refused
pub value_up_to : (o : Out Tree) (text : ℕ) (p p' : List ℕ) (c : Result ℕ RefusedRow) (e : ℕ) → length p ≡ most_coerced → ToldValue text most_coerced o 0 p p' c → c ≡ Ok e → Gives o p' (Ok e)
value_up_to (Got tree) text p p' c e l (a, q, w) d = let z : a ≡ e = cc in put_gives tree p p' e l (rw z at w)
value_up_to (No i w) text p p' c e l (a, q) d = let z : ◌≡◌ {A = ℕ} 0 1 = cc in absurd (omega arith)

row_same : (i : At) (w : ℕ) (c : Result ℕ RefusedRow) (x : RefusedRow) → c ≡ Err (record { row = i.row; why = w }) → c ≡ Err x → record { row = i.row; why = w } ≡ x
row_same i w c x q d = cc

pub value_refused : (o : Out Tree) (text limit : ℕ) (p p' v : List ℕ) (c : Result ℕ RefusedRow) (x : RefusedRow) → ToldValue text limit o 0 p p' c → c ≡ Err x → Gives o v (refused text x.row x.why)
value_refused (Got tree) text limit p p' v c x (a, q, w) d = let z : ◌≡◌ {A = ℕ} 0 1 = cc in absurd (omega arith)
value_refused (No i w) text limit p p' v c x (a, q) d = let z = row_same i w c x q d in refused_as i w v a (ap (λ (k : RefusedRow). k.row) z) (ap (λ (k : RefusedRow). k.why) z)

pub value_row : (o : Out Tree) (text limit : ℕ) (p p' : List ℕ) (c : Result ℕ RefusedRow) (x : RefusedRow) → Kept (RowUpTo most_rows) o → ToldValue text limit o 0 p p' c → c ≡ Err x → x.row ≤ most_rows
value_row (Got tree) text limit p p' c x k (a, q, w) d = let z : ◌≡◌ {A = ℕ} 0 1 = cc in absurd (omega arith)
value_row (No i w) text limit p p' c x k (a, q) d = let b : i.row ≡ x.row = ap (λ (z : RefusedRow). z.row) (row_same i w c x q d) in omega (arith, k, b)

module _ (t s rows : List ℕ) (n row start end : ℕ) (f : FieldServes t (doc_of s rows n) row start end) where
  abbrev d : Doc
  d = doc_of s rows n

  -- the arguments as the code writes them
  abbrev object : Pairs → Out Tree
  object ps = objected t (value_in ps) input_document d n 33 kind_argument row (dues_by kind_argument t start end)

  -- what the arguments' definitions make due
  dues_are : argument_dues (field_at (table_of t) d row) ≡ map due_argument (arguments_in t start end)
  dues_are = sym f.holds.dues ∙ dues_arguments t start end

  pub dues_slim : all_of slim_due (dues_by kind_argument t start end) ≡ true
  dues_slim = rw (dues_arguments t start end) (slim_arguments (arguments_in t start end) f.holds.slim)

  -- as an input object of their definitions
  pub argued_is : (ps : Pairs) → argued t d row ps ≡ object ps
  argued_is ps =
      ap (in_object (λ δ rest. or_default (kinds_in t) (placed input_document d row) δ δ.default rest) (heads (arguments_at input_document d row)) (givens (kinds_in t) (value_in ps) (arguments_at input_document d row))) dues_are
      ∙ arguments_same (kinds_in t) (placed input_document d row) (givens (kinds_in t) (value_in ps) (arguments_at input_document d row)) (heads (arguments_at input_document d row)) (arguments_in t start end)
      ∙ ap (in_object (missing_due (placed input_document d row)) (heads (arguments_at input_document d row)) (givens (kinds_in t) (value_in ps) (arguments_at input_document d row))) (sym (dues_arguments t start end))
      ∙ ap (λ (k : ℕ). objected t (value_in ps) input_document d k 33 kind_argument row (dues_by kind_argument t start end)) (rows_count rows n)

  pub argued_row : (ps : Pairs) → count d ≤ most_rows → Kept (RowUpTo most_rows) (object ps)
  argued_row ps l =
      subst (λ (k : ℕ). Kept (RowUpTo most_rows) (objected t (value_in ps) input_document d k 33 kind_argument row (dues_by kind_argument t start end))) (rows_count rows n)
      (arguments_rows t d row ps (dues_by kind_argument t start end) l f.there)

  pub serves_there : row ≤ n
  serves_there = omega (arith, f.there, rows_count rows n)

  module _ (ps : Pairs) (p p' : List ℕ) (c : Result ℕ RefusedRow) (w : ToldValue input_document most_coerced (object ps) 0 p p' c) where
    pub argued_gives : (e : ℕ) → length p ≡ most_coerced → c ≡ Ok e → Gives (argued t d row ps) p' (Ok e)
    argued_gives e l q = subst (λ (o : Out Tree). Gives o p' (Ok e)) (sym (argued_is ps)) (value_up_to (object ps) input_document p p' c e l w q)

    pub argued_refuses : (v : List ℕ) (x : RefusedRow) → c ≡ Err x → Gives (argued t d row ps) v (refused input_document x.row x.why)
    argued_refuses v x q = subst (λ (o : Out Tree). Gives o v (refused input_document x.row x.why)) (sym (argued_is ps)) (value_refused (object ps) input_document most_coerced p p' v c x w q)

    pub argued_within : (x : RefusedRow) → n ≤ most_rows → c ≡ Err x → x.row ≤ most_rows
    argued_within x l q = value_row (object ps) input_document most_coerced p p' c x (argued_row ps (omega (arith, l, rows_count rows n))) w q

-- ---- by the answer, and by the task

pub by_answer : {o : Out Tree} {v : List ℕ} {r z : Result ℕ RefusedValue} → r ≡ z → Gives o v z → Gives o v r
by_answer {o} {v} q = subst (λ (x : Result ℕ RefusedValue). Gives o v x) (sym q)

pub by_task : (t : List ℕ) (d : Doc) (op : ℕ) (d1 : Doc) (v : List ℕ) (r : Result ℕ RefusedValue) {task z : Task} → task ≡ z → Gives (result_of t d op d1 z) v r → Gives (result_of t d op d1 task) v r
by_task t d op d1 v r q = subst (λ (x : Task). Gives (result_of t d op d1 x) v r) (sym q)
