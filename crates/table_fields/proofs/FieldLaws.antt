-- What `read_field` answers is the first of the fields that the definition splits off; where a field lies.
use mathlib.Core.Path.{◌≡◌, refl, sym, ap, subst, ◌∙◌}
use mathlib.Core.Bool.{Bool, true, false, cond}
use mathlib.Core.List.{List, [], ◌∷◌}
use Prim.Native.Nat.{ℕ, zero, suc, ◌+◌, ◌-◌, ◌≤◌, ◌<◌}
use native.Mathlib.Omega.{arith}
use lib.ListN.{length, take, drop, get_or, drop_of_length-le}
use lib.Seq.{slice, slice-cons, length-slice, take-nil, length-take-le, take-take, drop-drop}
use lib.Dec.{leb, ltb}
use borrow.Author.Tests.{ltb-true, ltb-false, leb-true, leb-false}
use Rattle.std.specs.Prelude.{Option, Some, None}
use Rattle.paper_table.specs.House.{house_field, cut, house_fields}
use Rattle.paper_table.proofs.PiecesLaws.{pieces_nil, pieces_one, pieces_two, pieces_cut, pieces_field as pieces_whole}
use Rattle.table_fields.specs.declared.Field.{Field}
use Rattle.table_fields.specs.Fields.{field_at, size_at, pieces_by}

-- a part of a part
pub slice_drop : (t : List ℕ) (a e n : ℕ) → drop n (slice a e t) ≡ slice (a + n) e t
slice_drop t a e n = drop-drop n a (take e t)

take_drop : (n a : ℕ) (l : List ℕ) → take n (drop a l) ≡ drop a (take (a + n) l)
take_drop n zero l = let e : 0 + n ≡ n = omega arith in rw e
take_drop n (suc a) [] = let e : suc a + n ≡ suc (a + n) = omega arith in rw e (take-nil n)
take_drop n (suc a) (x ∷ l) = let e : suc a + n ≡ suc (a + n) = omega arith in rw e (take_drop n a l)

pub slice_take : (t : List ℕ) (a e n : ℕ) → a + n ≤ e → take n (slice a e t) ≡ slice a (a + n) t
slice_take t a e n h = take_drop n a (take e t) ∙ ap (drop a) (take-take (a + n) e t h)

-- by the number of its bytes
pub slice_part : (t : List ℕ) (a e : ℕ) → a ≤ e → slice a e t ≡ take (e - a) (drop a t)
slice_part t a e h = let q : e ≡ a + (e - a) = omega arith in ap (λ (m : ℕ). slice a m t) q ∙ sym (take_drop (e - a) a t)

-- no byte is left; the next byte
pub slice_none : (t : List ℕ) (a e : ℕ) → e ≤ a → e ≤ length t → slice a e t ≡ []
slice_none t a e h w = drop_of_length-le (take e t) (let q : length (take e t) ≤ a = omega (arith, length-take-le e t w) in q)

pub slice_next : (t : List ℕ) (a e : ℕ) → a < e → e ≤ length t → slice a e t ≡ get_or t a 0 ∷ slice (a + 1) e t
slice_next t a e h w = let f : a + 1 ≡ suc a = omega arith in rw f (slice-cons a e t 0 h w)

module _ (t : List ℕ) (at end : ℕ) (w : end ≤ length t) where
  three : at + 3 ≤ end → slice at end t ≡ get_or t at 0 ∷ get_or t (at + 1) 0 ∷ get_or t (at + 2) 0 ∷ slice (at + 3) end t
  three h =
      let e : at + 1 + 1 ≡ at + 2 = omega arith in
      let f : at + 2 + 1 ≡ at + 3 = omega arith in
      rw (slice_next t at end (omega arith) w, slice_next t (at + 1) end (omega arith) w, e, slice_next t (at + 2) end (omega arith) w, f)

  cut_one : at + 1 ≡ end → house_fields at (slice at end t) ≡ cut at ∷ []
  cut_one e = ap (house_fields at) (slice_next t at end (omega arith) w ∙ ap (λ (l : List ℕ). get_or t at 0 ∷ l) (slice_none t (at + 1) end (omega arith) w)) ∙ pieces_one at (get_or t at 0)

  cut_two : at + 2 ≡ end → house_fields at (slice at end t) ≡ cut at ∷ []
  cut_two e =
      let f : at + 1 + 1 ≡ at + 2 = omega arith in
      let q : slice at end t ≡ get_or t at 0 ∷ get_or t (at + 1) 0 ∷ [] = rw (slice_next t at end (omega arith) w, slice_next t (at + 1) end (omega arith) w, f, slice_none t (at + 2) end (omega arith) w) in
      ap (house_fields at) q ∙ pieces_two at (get_or t at 0) (get_or t (at + 1) 0)

  -- of bytes there are, the first field
  pub pieces_field : at < end → house_fields at (slice at end t) ≡ pieces_by t at end (field_at t at end)
  pieces_field h = go (ltb (end - at) 3) refl
    where
      long : at + 3 ≤ end → (b : Bool) → leb (size_at t at) (end - at - 3) ≡ b
          → house_fields at (slice at end t) ≡ pieces_by t at end (cond b (Some (record { tag = get_or t at 0; start = at + 3; end = at + 3 + size_at t at })) None)
      long k true q =
          let m : size_at t at ≤ end - at - 3 = leb-true (size_at t at) (end - at - 3) q in
          ap (house_fields at) (three k)
          ∙ pieces_whole at (get_or t at 0) (get_or t (at + 1) 0) (get_or t (at + 2) 0) (size_at t at) (slice (at + 3) end t) refl (omega (arith, length-slice (at + 3) end t w))
          ∙ rw (slice_take t (at + 3) end (size_at t at) (omega arith), slice_drop t (at + 3) end (size_at t at))
      long k false q =
          let m : end - at - 3 < size_at t at = leb-false (size_at t at) (end - at - 3) q in
          ap (house_fields at) (three k)
          ∙ pieces_cut at (get_or t at 0) (get_or t (at + 1) 0) (get_or t (at + 2) 0) (slice (at + 3) end t) (omega (arith, length-slice (at + 3) end t w))

      short : (n : ℕ) → end - at ≡ n → n < 3 → house_fields at (slice at end t) ≡ cut at ∷ []
      short zero e k = absurd (omega arith)
      short (suc zero) e k = cut_one (omega arith)
      short (suc (suc zero)) e k = cut_two (omega arith)
      short (suc (suc (suc n))) e k = absurd (omega arith)

      go : (b : Bool) → ltb (end - at) 3 ≡ b
          → house_fields at (slice at end t) ≡ pieces_by t at end (cond b None (cond (leb (size_at t at) (end - at - 3)) (Some (record { tag = get_or t at 0; start = at + 3; end = at + 3 + size_at t at })) None))
      go true q = short (end - at) refl (ltb-true (end - at) 3 q)
      go false q = long (let m : 3 ≤ end - at = ltb-false (end - at) 3 q in omega arith) (leb (size_at t at) (end - at - 3)) refl

  -- so a field read is the first, and bytes that are no whole field are all there is
  pub pieces_read : at < end → (f : Field) → field_at t at end ≡ Some f
      → house_fields at (slice at end t) ≡ house_field at f.tag (slice f.start f.end t) ∷ house_fields f.end (slice f.end end t)
  pieces_read h f q = pieces_field h ∙ ap (pieces_by t at end) q

  pub pieces_torn : at < end → field_at t at end ≡ None → house_fields at (slice at end t) ≡ cut at ∷ []
  pieces_torn h q = pieces_field h ∙ ap (pieces_by t at end) q

-- no byte, no field
pub pieces_none : (t : List ℕ) (at end : ℕ) → end ≤ at → end ≤ length t → house_fields at (slice at end t) ≡ []
pieces_none t at end h w = ap (house_fields at) (slice_none t at end h w) ∙ pieces_nil at

-- where a field lies: right behind its tag and length, and not past the end
pub record Lies (at end start stop : ℕ) : Type 0 where
  pub begins : start ≡ at + 3
  pub order : start ≤ stop
  pub within : stop ≤ end

abbrev LiesRead : ℕ → ℕ → Option Field → Type 0
LiesRead at end (Some f) = Lies at end f.start f.end
LiesRead at end None = Unit {0}

pub field_lies : (t : List ℕ) (at end : ℕ) (f : Field) → at ≤ end → field_at t at end ≡ Some f → Lies at end f.start f.end
field_lies t at end f h q = subst (LiesRead at end) q (go (ltb (end - at) 3) refl)
  where
    last : 3 ≤ end - at → (b : Bool) → leb (size_at t at) (end - at - 3) ≡ b → LiesRead at end (cond b (Some (record { tag = get_or t at 0; start = at + 3; end = at + 3 + size_at t at })) None)
    last k true e = let m : size_at t at ≤ end - at - 3 = leb-true (size_at t at) (end - at - 3) e in record { begins = refl; order = omega arith; within = omega arith }
    last k false e = tt

    go : (b : Bool) → ltb (end - at) 3 ≡ b → LiesRead at end (cond b None (cond (leb (size_at t at) (end - at - 3)) (Some (record { tag = get_or t at 0; start = at + 3; end = at + 3 + size_at t at })) None))
    go true e = tt
    go false e = last (ltb-false (end - at) 3 e) (leb (size_at t at) (end - at - 3)) refl
