-- What a name and a type make fine, and each argument behind them.
use mathlib.Core.Path.{◌≡◌, refl, sym, ap, subst, ◌∙◌}
use mathlib.Core.Bool.{Bool, true, false, ◌&&◌, ◌||◌, cond, false≢true}
use mathlib.Core.Option.{Option, none, some}
use mathlib.Core.List.{List, [], ◌∷◌, ◌++◌, head?}
use Prim.Native.Nat.{ℕ, zero, suc, ◌+◌, ◌-◌, ◌≤◌, pred}
use native.Mathlib.Omega.{arith}
use lib.ListN.{length, length-append}
use lib.Seq.{slice, length-slice}
use lib.Dec.{eqb}
use borrow.Author.Tests.{ne_eqb, eqb-true}
use Rattle.std.specs.Result.{is_ok}
use Rattle.paper.specs.Lexical.{letter_or_digit, in_set}
use Rattle.paper.specs.Numbers.{most_wrappers}
use Rattle.paper_table.specs.TableNumbers.{most_arguments, tag_name, tag_reference, tag_argument, tag_field}
use Rattle.paper_table.specs.Lists.{any_of, all_of, only_if}
use Rattle.paper_table.specs.References.{is_name, Ref, base_of, byte_bang, byte_bracket_l, byte_bracket_r, found}
use Rattle.paper_table.specs.House.{house_field, house_fields, many, look_up, contents, open_after, in_order, by_content, wrongs}
use Rattle.paper_table.specs.TableSizes.{room, room_in, overs_in, is_wrapper, wrappers_over, overs_by, overs}
use Rattle.paper_table.proofs.ListsLaws.{head_nil}
use Rattle.paper_table.proofs.ReferenceTexts.{ref_text, Written, by_a_name, a_list, a_non_null, name_all, ref_of_sound}
use Rattle.std.specs.Prelude.{Option as Answer, Some, Result}
use Prim.{Unit}
use Rattle.table_fields.specs.declared.Field.{Field}
use Rattle.table_fields.specs.declared.Reference.{Reference}
use Rattle.table_fields.specs.Fields.{field_at}
use Rattle.table_fields.specs.Wrappers.{Refers, RefersRead}
use Rattle.table_fields.proofs.FieldLaws.{field_lies, pieces_read, pieces_none}
use Rattle.table_rooms.specs.Rooms.{told_over}
use Rattle.table_framing_quick_types.specs.Fine.{Fine, FewWrappers, Begins, TypedTo}

-- The wrappers in a text; if there are no more than may be, none is over.
unfoldable wrapped : List ℕ → ℕ
wrapped [] = 0
wrapped (b ∷ s) = cond (is_wrapper b) 1 0 + wrapped s

none_over : (n at : ℕ) (s : List ℕ) → wrapped s ≤ n → wrappers_over n at s ≡ []
unfolding wrapped wrappers_over
none_over n at [] h = refl
none_over n at (b ∷ s) h = go (is_wrapper b) n h (λ m k. none_over m (at + 1) s k)
  where
    go : (x : Bool) (n : ℕ) → cond x 1 0 + wrapped s ≤ n → ((m : ℕ) → wrapped s ≤ m → wrappers_over m (at + 1) s ≡ [])
        → only_if (x && eqb n 0) at ++ wrappers_over (cond x (pred n) n) (at + 1) s ≡ []
    go true zero k ih = absurd (omega arith)
    go true (suc n) k ih = rw (ne_eqb (suc n) 0 (λ e. omega (arith, e))) (ih n (omega arith))
    go false n k ih = ih n (omega arith)

wrapped_both : (a b : List ℕ) → wrapped (a ++ b) ≡ wrapped a + wrapped b
unfolding wrapped
wrapped_both [] b = omega arith
wrapped_both (x ∷ a) b = let e = wrapped_both a b in omega (arith, e)

-- no byte of a name is a wrapper
plain : (b : ℕ) → in_set letter_or_digit b ≡ true → is_wrapper b ≡ false
plain b h = go (eqb b byte_bracket_l) refl (eqb b byte_bang) refl
  where
    go : (x : Bool) → eqb b byte_bracket_l ≡ x → (y : Bool) → eqb b byte_bang ≡ y → x || y ≡ false
    go true p y q = absurd (false≢true (rw (eqb-true b byte_bracket_l p) at h))
    go false p true q = absurd (false≢true (rw (eqb-true b byte_bang q) at h))
    go false p false q = refl

wrapped_none : (n : List ℕ) → all_of (in_set letter_or_digit) n ≡ true → wrapped n ≡ 0
unfolding wrapped all_of
wrapped_none [] h = refl
wrapped_none (b ∷ n) h = go (in_set letter_or_digit b) refl h (wrapped_none n)
  where
    go : (c : Bool) → in_set letter_or_digit b ≡ c → c && all_of (in_set letter_or_digit) n ≡ true → (all_of (in_set letter_or_digit) n ≡ true → wrapped n ≡ 0) → cond (is_wrapper b) 1 0 + wrapped n ≡ 0
    go true q h ih = rw (plain b q, ih h)
    go false q h ih = absurd (false≢true h)

-- a reference has no more wrappers than bytes beside its name
beside : {r : Ref} → Written r → wrapped (ref_text r) + length (base_of r) ≤ length (ref_text r)
unfolding wrapped
beside (by_a_name {n} h) = omega (arith, wrapped_none n (name_all n h))
beside (a_list {r} w) = let e = beside w in omega (arith, e, wrapped_both (ref_text r) (byte_bracket_r ∷ []), length-append (ref_text r) (byte_bracket_r ∷ []))
beside (a_non_null {r} q w) = let e = beside w in omega (arith, e, wrapped_both (ref_text r) (byte_bang ∷ []), length-append (ref_text r) (byte_bang ∷ []))

-- a reference that is read
pub refers : (t : List ℕ) (start end : ℕ) (k : Reference) (x : Answer Reference) → x ≡ Some k → RefersRead t start end x → Refers t start end k.start k.end k.wrappers
refers t start end k x p r = subst (RefersRead t start end) p r

module _ (t : List ℕ) (start end from to wrappers : ℕ) (w : end ≤ length t) (q : Refers t start end from to wrappers) where
  -- few bytes stand beside its name
  pub few_beside : from - start + (end - to) ≤ most_wrappers → FewWrappers start (slice start end t)
  few_beside h =
      let z = ref_of_sound (slice start end t) q.ref q.is in
      let l : wrapped (slice start end t) + length (slice from to t) ≤ length (slice start end t) = rw (z.1, q.base) at (beside z.0) in
      (ap found q.is, none_over most_wrappers start (slice start end t) (omega (arith, h, l, q.begins, q.order, q.within, length-slice start end t w, length-slice from to t (omega (arith, q.within)))))

  -- its wrappers were counted
  pub few_counted : (y : Result (Unit {0}) ℕ) → y ≡ told_over (head? (wrappers_over most_wrappers start (slice start end t))) → is_ok y ≡ true → FewWrappers start (slice start end t)
  few_counted y g e = (ap found q.is, head_nil (wrappers_over most_wrappers start (slice start end t)) (told (head? (wrappers_over most_wrappers start (slice start end t))) (ap is_ok (sym g) ∙ e)))
    where
      told : (o : Option ℕ) → is_ok (told_over o) ≡ true → o ≡ none
      told none e = refl
      told (some v) e = absurd (false≢true e)

-- A field that is read in a part is its first.
first : (t : List ℕ) (at end : ℕ) (f : Field) → at ≤ end → end ≤ length t → field_at t at end ≡ Some f
    → house_fields at (slice at end t) ≡ house_field at f.tag (slice f.start f.end t) ∷ house_fields f.end (slice f.end end t)
first t at end f o w q = let l = field_lies t at end f o q in pieces_read t at end w (omega (arith, l.begins, l.order, l.within)) f q

-- a name and a type are read
pub begins_with : (t : List ℕ) (start end : ℕ) (a b : Field) → start ≤ end → end ≤ length t
    → field_at t start end ≡ Some a → a.tag ≡ tag_name → is_name (slice a.start a.end t) ≡ true
    → field_at t a.end end ≡ Some b → b.tag ≡ tag_reference → FewWrappers b.start (slice b.start b.end t)
    → Begins t start end b.end
begins_with t start end a b o w q e n r f g =
    let l = field_lies t start end a o q in
    let j = field_lies t a.end end b l.within r in
    record {
      name = slice a.start a.end t;
      second = a.end;
      reference = slice b.start b.end t;
      parts = rw (first t start end a o w q, first t a.end end b l.within w r, e, f);
      named = n;
      refers = (g.0, rw (← j.begins) g.1);
      order = omega (arith, l.begins, l.order, j.begins, j.order);
      within = j.within;
    }

-- it is answered where they end
pub begun : (t : List ℕ) (start end stop : ℕ) (x : Answer ℕ) → x ≡ Some stop → TypedTo t start end x → Begins t start end stop
begun t start end stop x p r = subst (TypedTo t start end) p r

-- An argument is a name and a type.
module _ (t : List ℕ) (at end stop : ℕ) (w : end ≤ length t) (b : Begins t (at + 3) end stop) where
  pub argument_fine : stop ≡ end → (d : ℕ) → Fine (suc (suc d)) at tag_argument (slice (at + 3) end t)
  unfolding wrongs by_content look_up contents open_after in_order any_of overs overs_by overs_in room_in
  argument_fine e d =
      let q : house_fields (at + 3) (slice (at + 3) end t) ≡ house_field (at + 3) tag_name b.name ∷ house_field b.second tag_reference b.reference ∷ [] = b.parts ∙ rw (pieces_none t stop end (omega arith) w) in
      (rw (q, b.named, b.refers.0), rw (q, b.refers.1))

-- A field up to the place i, behind its name and its type: so many arguments may still come, and if they are fine it is.
pub record Usual (t : List ℕ) (at end left i : ℕ) : Type 0 where
  pub rest : (d : ℕ) → in_order (wrongs (suc (suc d))) (many tag_argument ∷ []) (house_fields i (slice i end t)) ≡ []
      → overs_in (overs (suc (suc d))) (room tag_argument tag_argument left ∷ []) (house_fields i (slice i end t)) ≡ []
      → Fine (suc (suc (suc d))) at tag_field (slice (at + 3) end t)
  pub order : i ≤ end

pub usual_start : (t : List ℕ) (at end stop : ℕ) → Begins t (at + 3) end stop → Usual t at end most_arguments stop
unfolding wrongs by_content look_up contents open_after in_order any_of overs overs_by overs_in room_in
usual_start t at end stop b = record {
  rest = λ d f g. (rw (b.parts, b.named, b.refers.0, f), rw (b.parts, b.refers.1) g);
  order = b.within;
}

module _ (t : List ℕ) (at end left i : ℕ) (w : end ≤ length t) (o : Usual t at end left i) where
  pub usual_end : end ≤ i → (d : ℕ) → Fine (suc (suc (suc d))) at tag_field (slice (at + 3) end t)
  unfolding in_order overs_in
  usual_end h d = o.rest d (rw (pieces_none t i end h w)) (rw (pieces_none t i end h w))

  pub usual_on : (it : Field) → field_at t i end ≡ Some it → it.tag ≡ tag_argument → (left ≡ 0 → ⊥) → ((d : ℕ) → Fine (suc (suc d)) i tag_argument (slice (i + 3) it.end t)) → Usual t at end (left - 1) it.end
  unfolding in_order overs_in any_of open_after
  usual_on it q e n v =
      let l = field_lies t i end it o.order q in
      let p : house_fields i (slice i end t) ≡ house_field i tag_argument (slice (i + 3) it.end t) ∷ house_fields it.end (slice it.end end t) = first t i end it o.order w q ∙ rw (e, l.begins) in
      record {
        rest = λ d f g. o.rest d (rw (p, (v d).0) f) (rw (p, (v d).1, ne_eqb left 0 n, pred_is left) g);
        order = l.within;
      }
    where
      pred_is : (n : ℕ) → pred n ≡ n - 1
      pred_is zero = refl
      pred_is (suc n) = let e : suc n - 1 ≡ n = omega arith in sym e
