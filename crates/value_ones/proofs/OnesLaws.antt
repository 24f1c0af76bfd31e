-- Lists of one, each in the other, whose heads are put from the inside out.
use mathlib.Core.Path.{◌≡◌, refl, sym, ap, subst, ◌∙◌}
use mathlib.Core.List.{List, []}
use Prim.Native.Nat.{ℕ, zero, suc, ◌+◌, ◌-◌, ◌*◌, ◌≤◌, ◌<◌}
use native.Mathlib.Omega.{arith}
use lib.ListN.{length}
use Rattle.std.proofs.Common.{Result, Ok, Err}
use Rattle.table_fields.specs.Wrappers.{pack_limit}
use Rattle.paper_values.specs.ValueNumbers.{tag_list}
use Rattle.paper_values.specs.Values.{At, Tree, Many, no_more, also, Out, Got, No, and_then}
use Rattle.paper_values.specs.Encoding.{encode}
use Rattle.value_writing.specs.Writing.{most_limit, place_of, Room, Closed, Behind}
use Rattle.value_writing.proofs.PlaceLaws.{place_in, place_add, place_back, place_least, put_none, put_place}
use Rattle.value_writing.proofs.EncodedLaws.{no_items_put, item_put, list_put}
use Rattle.value_kinds.specs.declared.RefusedRow.{RefusedRow}
use Rattle.value_kinds.specs.Dues.{Told}
use Rattle.value_ones.specs.Ones.{ones, Inside}
use Rattle.value_ones.proofs.ToldLaws.{told_up, told_no}

-- ---- the loop over the heads: those from number j on are put

module _ (limit from : ℕ) where
  -- the place of a head, and of what is in the list
  abbrev head_at : ℕ → ℕ
  head_at j = place_of limit (from + 3 * j)

  pub head_first : from ≤ limit + 1 → head_at 0 ≡ from
  head_first h = sym (put_none limit from [] h).0

  head_next : (j : ℕ) → head_at (j + 1) ≡ place_of limit (head_at j + 3)
  head_next j = let z : from + 3 * (j + 1) ≡ from + 3 * j + 3 = omega arith in ap (place_of limit) z ∙ sym (place_add limit (from + 3 * j) 3)

  module _ (text : ℕ) (p : List ℕ) where
    -- a list of one around what was told
    pub one_more : (o : Out Tree) (first at here e : ℕ) (d d' : List ℕ) → first ≡ place_of limit (here + 3) → Told text limit o first p d (Ok at) → Closed limit here tag_list at d d' e →
        Told text limit (and_then o (λ x. Got (Many (also x no_more)))) here p d' (Ok e)
    one_more o first at here e d d' f g m =
        let z = told_up text limit first p d (Ok at) o at g refl in
        subst (λ (y : Out Tree). Told text limit y here p d' (Ok e)) (sym (ap (λ (y : Out Tree). and_then y (λ x. Got (Many (also x no_more)))) z.1))
        (e, refl, list_put limit (also z.0 no_more) here first at e p d d' f (item_put limit no_more z.0 first first at p p d (no_items_put limit first p (place_least limit (here + 3) first f)) z.2) m)

    pub ones_more : (o : Out Tree) (m j at e : ℕ) (d d' : List ℕ) → 0 < j → j ≤ m → Told text limit (ones (m - j) o) (head_at j) p d (Ok at) → Closed limit (head_at (j - 1)) tag_list at d d' e →
        Told text limit (ones (m - (j - 1)) o) (head_at (j - 1)) p d' (Ok e)
    ones_more o m j at e d d' h l g c =
        let z : m - (j - 1) ≡ suc (m - j) = omega arith in let y : j ≡ j - 1 + 1 = omega arith in
        subst (λ (x : ℕ). Told text limit (ones x o) (head_at (j - 1)) p d' (Ok e)) (sym z)
        (one_more (ones (m - j) o) (head_at j) at (head_at (j - 1)) e d d' (ap head_at y ∙ head_next (j - 1)) g c)

  pub head_behind : (j at : ℕ) (d : List ℕ) → 0 < j → limit ≤ most_limit → at ≤ limit + 1 → (at ≤ limit → from + 3 * j ≤ at) → length d ≡ limit → Behind limit (head_at (j - 1)) at d
  head_behind j at d h a b f s = record {
    least = a;
    end = b;
    order = λ (l : at ≤ limit). let z = f l in let y : from + 3 * (j - 1) ≡ head_at (j - 1) = place_in limit (from + 3 * (j - 1)) (omega (arith, z, l, h)) in omega (arith, y, z, h);
    size = s;
  }

-- ---- around the loop

module _ (text limit from m : ℕ) (o : Out Tree) (p d : List ℕ) (x : Result ℕ RefusedRow) (first : ℕ) (f : first ≡ place_of limit (from + 3 * m)) (g : Told text limit o first p d x) where
  -- a refusal inside is one of the whole
  ones_no : (m : ℕ) (i : At) (w : ℕ) → ones m (No i w) ≡ No i w
  ones_no zero i w = refl
  ones_no (suc m) i w = ap (λ (o : Out Tree). and_then o (λ x. Got (Many (also x no_more)))) (ones_no m i w)

  pub ones_stop : (e : RefusedRow) → x ≡ Err e → Told text limit (ones m o) from p d x
  ones_stop e u =
      let z = told_no text limit first p d x o e g u in
      subst (λ (y : Out Tree). Told text limit y from p d x) (sym (ap (ones m) z.2 ∙ ones_no m z.0 z.1)) (z.3, z.4)

  pub ones_told : (at : ℕ) → x ≡ Ok at → Told text limit o (place_of limit (from + 3 * m)) p d (Ok at)
  ones_told at u = subst (λ (y : ℕ). Told text limit o y p d (Ok at)) f (subst (λ (y : Result ℕ RefusedRow). Told text limit o first p d y) u g)

  pub ones_inside : (at : ℕ) → x ≡ Ok at → m < pack_limit → Room limit from p → length d ≡ length p → Inside limit from m at d
  ones_inside at u few r s =
      let z = told_up text limit first p d x o at g u in record {
        least = r.least;
        place = r.place;
        few = few;
        end = put_place limit (encode z.0) first p d at z.2;
        order = λ (l : at ≤ limit).
            let y : at ≡ first + length (encode z.0) = place_back limit (first + length (encode z.0)) at z.2.0 l in
            let v : first ≡ from + 3 * m = place_back limit (from + 3 * m) first f (omega (arith, y, l)) in omega (arith, y, v);
        size = s ∙ r.size;
      }
