-- `ref_of` takes exactly the texts of type references: names, `[..]`, and `..!` of one that does not end in `!`.
use mathlib.Core.Path.{◌≡◌, refl, sym, ap, subst, ◌∙◌}
use mathlib.Core.Bool.{Bool, true, false, not, ◌&&◌, cond, true≢false, false≢true}
use mathlib.Core.Option.{Option, none, some}
use mathlib.Core.List.{List, [], ◌∷◌, ◌++◌, append-nil, append_assoc}
use Prim.Native.Nat.{ℕ, zero, suc}
use lib.ListN.{length, take, drop, take-append-drop}
use lib.Dec.{eqb}
use borrow.Author.Tests.{eqb-true}
use Rattle.paper.proofs.Bools.{or_true_right as or_right}
use Rattle.paper.specs.Lexical.{letter, letter_or_digit, in_set}
use Rattle.paper_table.specs.Lists.{all_of, first_at}
use Rattle.paper_table.specs.References.{is_name, Ref, named, list_of, non_null, is_non_null, byte_bang, byte_bracket_l, byte_bracket_r, name_size, ref_of}
use Rattle.paper_table.proofs.ListsLaws.{first_at_later}
use Rattle.paper_table.proofs.ReferenceLaws.{behind, name_then, opened, ref_of_walk}

-- a reference's text
abbrev pub ref_text : Ref → List ℕ
ref_text (named n) = n
ref_text (list_of r) = byte_bracket_l ∷ (ref_text r ++ (byte_bracket_r ∷ []))
ref_text (non_null r) = ref_text r ++ (byte_bang ∷ [])

-- a reference that the draft writes
pub data Written : Ref → Type 0 where
  by_a_name : {n : List ℕ} → is_name n ≡ true → Written (named n)
  a_list : {r : Ref} → Written r → Written (list_of r)
  a_non_null : {r : Ref} → is_non_null r ≡ false → Written r → Written (non_null r)

-- no name goes on with this text
abbrev Stops : List ℕ → Type 0
Stops [] = Unit {0}
Stops (b ∷ s) = in_set letter_or_digit b ≡ false

size_all : (n s : List ℕ) → all_of (in_set letter_or_digit) n ≡ true → Stops s → name_size (n ++ s) ≡ length n
unfolding all_of first_at
size_all [] [] h k = refl
size_all [] (b ∷ s) h k = rw k
size_all (b ∷ n) s h k = go (in_set letter_or_digit b) refl h (λ e. size_all n s e k)
  where
    go : (c : Bool) → in_set letter_or_digit b ≡ c → c && all_of (in_set letter_or_digit) n ≡ true → (all_of (in_set letter_or_digit) n ≡ true → name_size (n ++ s) ≡ length n) → name_size (b ∷ (n ++ s)) ≡ suc (length n)
    go true q h ih = first_at_later (λ b. not (in_set letter_or_digit b)) b (n ++ s) (ap not q) ∙ ap suc (ih h)
    go false q h ih = absurd (false≢true h)

take_all : (n s : List ℕ) → take (length n) (n ++ s) ≡ n
take_all [] s = refl
take_all (b ∷ n) s = ap (λ (m : List ℕ). b ∷ m) (take_all n s)

drop_all : (n s : List ℕ) → drop (length n) (n ++ s) ≡ s
drop_all [] s = refl
drop_all (b ∷ n) s = drop_all n s

-- a letter is no bracket, and goes on a name
letter_open : (b : ℕ) → in_set letter b ≡ true → eqb b byte_bracket_l ≡ false
letter_open b h = go (eqb b byte_bracket_l) refl
  where
    go : (c : Bool) → eqb b byte_bracket_l ≡ c → c ≡ false
    go true q = absurd (false≢true (rw (eqb-true b byte_bracket_l q) at h))
    go false q = refl

pub name_all : (n : List ℕ) → is_name n ≡ true → all_of (in_set letter_or_digit) n ≡ true
unfolding is_name all_of
name_all [] h = refl
name_all (b ∷ n) h = go (in_set letter b) refl h
  where
    go : (c : Bool) → in_set letter b ≡ c → c && all_of (in_set letter_or_digit) n ≡ true → in_set letter_or_digit b && all_of (in_set letter_or_digit) n ≡ true
    go true q h = rw (or_right _ (in_set letter b) q) h
    go false q h = absurd (false≢true h)

name_opened : (k : ℕ) (n s : List ℕ) → is_name n ≡ true → Stops s → opened k (n ++ s) ≡ behind k false (named n) s
unfolding opened name_then
name_opened k [] s h st = absurd (no_name h)
  where
    no_name : is_name [] ≡ true → ⊥
    no_name e = unfold is_name in false≢true e
name_opened k (b ∷ n) s h st =
    let z : name_size (b ∷ (n ++ s)) ≡ suc (length n) = size_all (b ∷ n) s (name_all (b ∷ n) h) st in
    let e : name_then k (b ∷ (n ++ s)) ≡ behind k false (named (b ∷ n)) s =
    ap (λ (m : ℕ). cond (is_name (take m (b ∷ (n ++ s)))) (behind k false (named (take m (b ∷ (n ++ s)))) (drop m (b ∷ (n ++ s)))) none) z
    ∙ ap (λ (w : List ℕ). cond (is_name w) (behind k false (named w) (drop (length n) (n ++ s))) none) (take_all (b ∷ n) s)
    ∙ ap (λ (c : Bool). cond c (behind k false (named (b ∷ n)) (drop (length n) (n ++ s))) none) h
    ∙ ap (behind k false (named (b ∷ n))) (drop_all n s) in
    rw (letter_open b (first b n h)) e
  where
    first : (b : ℕ) (n : List ℕ) → is_name (b ∷ n) ≡ true → in_set letter b ≡ true
    first b n h = go (in_set letter b) (unfold is_name in h)
      where
        go : (c : Bool) → c && all_of (in_set letter_or_digit) n ≡ true → c ≡ true
        go true e = refl
        go false e = absurd (false≢true e)

bang : (k : ℕ) (r : Ref) (s : List ℕ) → behind k false r (byte_bang ∷ s) ≡ behind k true (non_null r) s
unfolding behind
bang zero r s = refl
bang (suc k) r s = refl

text_opened : {r : Ref} → Written r → (k : ℕ) (s : List ℕ) → Stops s → opened k (ref_text r ++ s) ≡ behind k (is_non_null r) r s
unfolding opened behind
text_opened (by_a_name {n} h) k s st = name_opened k n s h st
text_opened (a_list {r} w) k s st =
    ap (opened (suc k)) (append_assoc (ref_text r) (byte_bracket_r ∷ []) s) ∙ text_opened w (suc k) (byte_bracket_r ∷ s) refl ∙ close (is_non_null r)
  where
    close : (b : Bool) → behind (suc k) b r (byte_bracket_r ∷ s) ≡ behind k false (list_of r) s
    close b = refl
text_opened (a_non_null {r} q w) k s st =
    ap (opened k) (append_assoc (ref_text r) (byte_bang ∷ []) s) ∙ text_opened w k (byte_bang ∷ s) refl ∙ ap (λ (b : Bool). behind k b r (byte_bang ∷ s)) q ∙ bang k r s

pub ref_of_complete : (r : Ref) → Written r → ref_of (ref_text r) ≡ some r
unfolding behind
ref_of_complete r w = ref_of_walk (ref_text r) ∙ ap (opened 0) (sym (append-nil (ref_text r))) ∙ text_opened w 0 [] tt

-- behind k open brackets
abbrev brackets : ℕ → List ℕ → List ℕ
brackets zero s = s
brackets (suc k) s = brackets k (byte_bracket_l ∷ s)

none≢some : {r : Ref} → ◌≡◌ {A = Option Ref} none (some r) → ⊥
none≢some e = true≢false cc

some_inj : {r q : Ref} → ◌≡◌ {A = Option Ref} (some r) (some q) → r ≡ q
some_inj e = cc

abbrev Reads' : Ref → List ℕ → Type 0
Reads' q s = Written q × (ref_text q ≡ s)

module _ (b : ℕ) (s : List ℕ) (ih : (k : ℕ) (r q : Ref) → Written r → behind k (is_non_null r) r s ≡ some q → Reads' q (brackets k (ref_text r ++ s))) where
  -- a `!` behind r
  with_bang : (k : ℕ) (r q : Ref) → Written r → eqb b byte_bang ≡ true → is_non_null r ≡ false → behind k true (non_null r) s ≡ some q → Reads' q (brackets k (ref_text r ++ (b ∷ s)))
  with_bang k r q w e n h =
      let z = ih k (non_null r) q (a_non_null n w) h in
      (z.0, z.1 ∙ ap (brackets k) (append_assoc (ref_text r) (byte_bang ∷ []) s ∙ ap (λ (c : ℕ). ref_text r ++ (c ∷ s)) (sym (eqb-true b byte_bang e))))

  -- a `]` behind r
  with_close : (k : ℕ) (r q : Ref) → Written r → eqb b byte_bracket_r ≡ true → behind k false (list_of r) s ≡ some q → Reads' q (brackets (suc k) (ref_text r ++ (b ∷ s)))
  with_close k r q w e h =
      let z = ih k (list_of r) q (a_list w) h in
      (z.0, z.1 ∙ ap (λ (t : List ℕ). brackets k (byte_bracket_l ∷ t)) (append_assoc (ref_text r) (byte_bracket_r ∷ []) s ∙ ap (λ (c : ℕ). ref_text r ++ (c ∷ s)) (sym (eqb-true b byte_bracket_r e))))

  behind_more : (k : ℕ) (r q : Ref) → Written r → behind k (is_non_null r) r (b ∷ s) ≡ some q → Reads' q (brackets k (ref_text r ++ (b ∷ s)))
  unfolding behind
  behind_more zero r q w h = go (eqb b byte_bang) (is_non_null r) refl refl h
    where
      go : (c n : Bool) → eqb b byte_bang ≡ c → is_non_null r ≡ n → cond (c && not n) (behind zero true (non_null r) s) none ≡ some q → Reads' q (ref_text r ++ (b ∷ s))
      go true false e f g = with_bang zero r q w e f g
      go true true e f g = absurd (none≢some g)
      go false n e f g = absurd (none≢some g)
  behind_more (suc k) r q w h = go (eqb b byte_bang) (is_non_null r) refl refl h
    where
      close : (c : Bool) → eqb b byte_bracket_r ≡ c → cond c (behind k false (list_of r) s) none ≡ some q → Reads' q (brackets (suc k) (ref_text r ++ (b ∷ s)))
      close true e g = with_close k r q w e g
      close false e g = absurd (none≢some g)

      go : (c n : Bool) → eqb b byte_bang ≡ c → is_non_null r ≡ n → cond (c && not n) (behind (suc k) true (non_null r) s) (cond (eqb b byte_bracket_r) (behind k false (list_of r) s) none) ≡ some q
          → Reads' q (brackets (suc k) (ref_text r ++ (b ∷ s)))
      go true false e f g = with_bang (suc k) r q w e f g
      go true true e f g = close (eqb b byte_bracket_r) refl g
      go false n e f g = close (eqb b byte_bracket_r) refl g

behind_sound : (s : List ℕ) (k : ℕ) (r q : Ref) → Written r → behind k (is_non_null r) r s ≡ some q → Reads' q (brackets k (ref_text r ++ s))
unfolding behind
behind_sound [] zero r q w h = let e : r ≡ q = some_inj h in (subst Written e w, ap ref_text (sym e) ∙ sym (append-nil (ref_text r)))
behind_sound [] (suc k) r q w h = absurd (none≢some h)
behind_sound (b ∷ s) k r q w h = behind_more b s (behind_sound s) k r q w h

opened_sound : (s : List ℕ) (k : ℕ) (q : Ref) → opened k s ≡ some q → Reads' q (brackets k s)
unfolding opened name_then
opened_sound [] k q h = absurd (none≢some h)
opened_sound (b ∷ s) k q h = go (eqb b byte_bracket_l) refl h (opened_sound s (suc k) q)
  where
    m : ℕ
    m = name_size (b ∷ s)

    name : (c : Bool) → is_name (take m (b ∷ s)) ≡ c → cond c (behind k false (named (take m (b ∷ s))) (drop m (b ∷ s))) none ≡ some q → Reads' q (brackets k (b ∷ s))
    name true e g =
        let z = behind_sound (drop m (b ∷ s)) k (named (take m (b ∷ s))) q (by_a_name e) g in
        (z.0, z.1 ∙ ap (brackets k) (take-append-drop m (b ∷ s)))
    name false e g = absurd (none≢some g)

    go : (c : Bool) → eqb b byte_bracket_l ≡ c → cond c (opened (suc k) s) (name_then k (b ∷ s)) ≡ some q → (opened (suc k) s ≡ some q → Reads' q (brackets (suc k) s)) → Reads' q (brackets k (b ∷ s))
    go true e g ih = let z = ih g in (z.0, z.1 ∙ ap (λ (c : ℕ). brackets k (c ∷ s)) (sym (eqb-true b byte_bracket_l e)))
    go false e g ih = name (is_name (take m (b ∷ s))) refl g

pub ref_of_sound : (s : List ℕ) (r : Ref) → ref_of s ≡ some r → Written r × (ref_text r ≡ s)
ref_of_sound s r e = opened_sound s 0 r (sym (ref_of_walk s) ∙ e)
