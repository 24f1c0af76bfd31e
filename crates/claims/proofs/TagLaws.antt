-- The fields of a coerced value's bytes, read as House fields: each of tag 33, however deep it stands, is that of an Int of the value, and so holds its token's number.
-- Assumes nothing.
use mathlib.Core.Path.{◌≡◌, refl, sym, ap, ◌∙◌, subst}
use mathlib.Core.Bool.{Bool, true, false, cond, ◌||◌}
use mathlib.Core.Logic.{◌⊎◌, inl, inr}
use mathlib.Core.List.{List, [], ◌∷◌, ◌++◌, append-nil}
use Prim.Native.Nat.{ℕ, ◌-◌, ◌/◌, ◌%◌}
use native.Mathlib.Omega.{arith}
use lib.Dec.{eqb}
use lib.ListN.{length, take, drop, replicate}
use lib.Seq.{take_at, drop_at}
use Rattle.paper.specs.Numbers.{input_document}
use Rattle.paper.specs.Rows.{Row}
use Rattle.paper_table.specs.TableNumbers.{tag_name}
use Rattle.paper_table.specs.Types.{table_of}
use Rattle.paper_query.specs.Enclosing.{field_at}
use Rattle.paper_query.specs.DocumentCalls.{read}
use Rattle.paper_values.specs.ValueNumbers.{most_coerced, tag_list, tag_input, tag_pair}
use Rattle.paper_values.specs.Signed.{number_written}
use Rattle.paper_values.specs.Kinds.{kind_of_type}
use Rattle.paper_values.specs.RowValues.{placed, arguments_at}
use Rattle.paper_values.specs.DocumentDues.{given_in, variable_dues, argument_dues, ReachedField}
use Rattle.paper_values.specs.ValueCalls.{CoercedVariables, CoercedArguments}
use Rattle.paper_values.specs.Written.{house_field_bytes, four_bytes}
use Rattle.paper_values.specs.Values.{Tree, Null, Bits, Decimal, Text, Truth, Member, Many, Fields, Token, Trees, no_more, also, Pairs, no_pairs, pair}
use Rattle.paper_values.specs.Encoding.{encode, encode_all, encode_pairs}
use Rattle.paper_values.proofs.CallsExact.{duly}
use Rattle.paper_values.proofs.TagInts.{HasInt, the_int, in_list, in_object, HasIntAll, in_this, in_later, HasIntPair, in_this_pair, in_later_pair, HasTokenEntry, DefaultToken, number_read, tag_33_of_variables, tag_33_of_arguments}
use Rattle.claims.proofs.CoercionsWords.{VariablesRead}
use Rattle.claims.proofs.CoercedVariables.{variables_success}
use Rattle.claims.proofs.CoercedArguments.{arguments_success}

-- a list, an object and a pair hold fields again
abbrev pub holds_fields : ℕ → Bool
holds_fields k = eqb k tag_list || (eqb k tag_input || eqb k tag_pair)

-- a field of tag k with the content c stands among the fields that the bytes are, or inside one of them
pub data FieldIn (k : ℕ) (c : List ℕ) : List ℕ → Type 0 where
  this_field : {bs : List ℕ} (rest : List ℕ) → bs ≡ house_field_bytes k c ++ rest → FieldIn k c bs
  later_field : {bs : List ℕ} (j : ℕ) (d rest : List ℕ) → bs ≡ house_field_bytes j d ++ rest → FieldIn k c rest → FieldIn k c bs
  inside_field : {bs : List ℕ} (j : ℕ) (d rest : List ℕ) → bs ≡ house_field_bytes j d ++ rest → holds_fields j ≡ true → FieldIn k c d → FieldIn k c bs

false≢true : false ≡ true → ⊥
false≢true e = let z : ◌≡◌ {A = ℕ} 1 0 = ap (λ (b : Bool). cond b 0 1) e in omega arith

-- bytes begin with one field at most
same_length : (l m : ℕ) → l / 256 ≡ m / 256 → l % 256 ≡ m % 256 → l ≡ m
same_length l m p q = omega arith

framed : (j k : ℕ) (d c r q : List ℕ) → house_field_bytes j d ++ r ≡ house_field_bytes k c ++ q → (j ≡ k) × (d ≡ c) × (r ≡ q)
framed j k d c r q e =
    let a : j ≡ k = cc in
    let h : length d / 256 ≡ length c / 256 = cc in
    let l : length d % 256 ≡ length c % 256 = cc in
    let n = same_length (length d) (length c) h l in
    let t : d ++ r ≡ c ++ q = cc in
    (a, sym (take_at d r (length d) refl) ∙ ap (take (length d)) t ∙ take_at c q (length d) (sym n), sym (drop_at d r (length d) refl) ∙ ap (drop (length d)) t ∙ drop_at c q (length d) (sym n))

-- a field behind the first, the first itself, or one inside it
abbrev Begins : ℕ → List ℕ → ℕ → List ℕ → List ℕ → Type 0
Begins k c j d r = ((j ≡ k) × (d ≡ c)) ⊎ (((holds_fields j ≡ true) × FieldIn k c d) ⊎ FieldIn k c r)

begins : {k : ℕ} {c bs : List ℕ} (j : ℕ) (d r : List ℕ) → FieldIn k c bs → bs ≡ house_field_bytes j d ++ r → Begins k c j d r
begins {k} {c} j d r (this_field q e) z = let f = framed j k d c r q (sym z ∙ e) in inl (f.0, f.1)
begins {k} {c} j d r (later_field i b q e h) z = let f = framed j i d b r q (sym z ∙ e) in inr (inr (subst (FieldIn k c) (sym f.2) h))
begins {k} {c} j d r (inside_field i b q e o h) z =
    let f = framed j i d b r q (sym z ∙ e) in inr (inl (subst (λ (x : ℕ). holds_fields x ≡ true) (sym f.0) o, subst (FieldIn k c) (sym f.1) h))

none_in : {k : ℕ} {c bs : List ℕ} → FieldIn k c bs → bs ≡ [] → ⊥
none_in (this_field q e) z = let y : ◌≡◌ {A = ℕ} 0 1 = cc in omega (arith, y)
none_in (later_field j d q e h) z = let y : ◌≡◌ {A = ℕ} 0 1 = cc in omega (arith, y)
none_in (inside_field j d q e o h) z = let y : ◌≡◌ {A = ℕ} 0 1 = cc in omega (arith, y)

-- a field of another tag that holds none
behind : {c : List ℕ} {A : Type 0} (j : ℕ) (d r : List ℕ) → (j ≡ 33 → ⊥) → holds_fields j ≡ false → Begins 33 c j d r → A ⊎ FieldIn 33 c r
behind j d r n o (inl h) = absurd (n h.0)
behind j d r n o (inr (inl h)) = absurd (false≢true (sym o ∙ h.0))
behind j d r n o (inr (inr h)) = inr h

abbrev IntOf : List ℕ → Tree → Type 0
IntOf c t = (x : ℕ) × HasInt x t × (c ≡ four_bytes x)

abbrev IntOfAll : List ℕ → Trees → Type 0
IntOfAll c ts = (x : ℕ) × HasIntAll x ts × (c ≡ four_bytes x)

abbrev IntOfPair : List ℕ → Pairs → Type 0
IntOfPair c ps = (x : ℕ) × HasIntPair x ps × (c ≡ four_bytes x)

of_bits : {c : List ℕ} (x : ℕ) (r : List ℕ) → Begins 33 c 33 (four_bytes x) r → IntOf c (Bits x) ⊎ FieldIn 33 c r
of_bits x r (inl h) = inl (x, the_int, sym h.1)
of_bits x r (inr (inl h)) = absurd (false≢true h.0)
of_bits x r (inr (inr h)) = inr h

of_many : {c : List ℕ} (ts : Trees) (r : List ℕ) → (FieldIn 33 c (encode_all ts) → IntOfAll c ts) → Begins 33 c tag_list (encode_all ts) r → IntOf c (Many ts) ⊎ FieldIn 33 c r
of_many ts r f (inl h) = absurd (omega (arith, h.0))
of_many ts r f (inr (inl h)) = let i = f h.1 in inl (i.0, in_list i.1, i.2)
of_many ts r f (inr (inr h)) = inr h

of_fields : {c : List ℕ} (ps : Pairs) (r : List ℕ) → (FieldIn 33 c (encode_pairs ps) → IntOfPair c ps) → Begins 33 c tag_input (encode_pairs ps) r → IntOf c (Fields ps) ⊎ FieldIn 33 c r
of_fields ps r f (inl h) = absurd (omega (arith, h.0))
of_fields ps r f (inr (inl h)) = let i = f h.1 in inl (i.0, in_object i.1, i.2)
of_fields ps r f (inr (inr h)) = inr h

of_also : {c : List ℕ} (t : Tree) (ts : Trees) → (FieldIn 33 c (encode_all ts) → IntOfAll c ts) → IntOf c t ⊎ FieldIn 33 c (encode_all ts) → IntOfAll c (also t ts)
of_also t ts f (inl i) = (i.0, in_this i.1, i.2)
of_also t ts f (inr h) = let i = f h in (i.0, in_later i.1, i.2)

only : {c : List ℕ} (t : Tree) → IntOf c t ⊎ FieldIn 33 c [] → IntOf c t
only t (inl i) = i
only t (inr h) = absurd (none_in h refl)

-- inside a pair: its name's field, then its value's
of_named : {c : List ℕ} (n : List ℕ) (t : Tree) → (FieldIn 33 c (encode t ++ []) → IntOf c t ⊎ FieldIn 33 c []) → Begins 33 c tag_name n (encode t) → IntOf c t
of_named n t f (inl h) = absurd (omega (arith, h.0))
of_named n t f (inr (inl h)) = absurd (false≢true h.0)
of_named {c} n t f (inr (inr h)) = only t (f (subst (FieldIn 33 c) (sym (append-nil (encode t))) h))

of_pair : {c : List ℕ} (n : List ℕ) (t : Tree) (ps : Pairs) → (FieldIn 33 c (encode t ++ []) → IntOf c t ⊎ FieldIn 33 c []) → (FieldIn 33 c (encode_pairs ps) → IntOfPair c ps) →
    Begins 33 c tag_pair (house_field_bytes tag_name n ++ encode t) (encode_pairs ps) → IntOfPair c (pair n t ps)
of_pair n t ps f g (inl h) = absurd (omega (arith, h.0))
of_pair n t ps f g (inr (inl h)) = let i = of_named n t f (begins tag_name n (encode t) h.1 refl) in (i.0, in_this_pair i.1, i.2)
of_pair n t ps f g (inr (inr h)) = let i = g h in (i.0, in_later_pair i.1, i.2)

mutual
  unfolding encode

  int_or_behind : {c : List ℕ} (t : Tree) (r : List ℕ) → FieldIn 33 c (encode t ++ r) → IntOf c t ⊎ FieldIn 33 c r
  int_or_behind Null r h = behind 32 [] r (λ z. omega (arith, z)) refl (begins 32 [] r h refl)
  int_or_behind (Bits x) r h = of_bits x r (begins 33 (four_bytes x) r h refl)
  int_or_behind (Decimal s) r h = behind 34 s r (λ z. omega (arith, z)) refl (begins 34 s r h refl)
  int_or_behind (Text s) r h = behind 35 s r (λ z. omega (arith, z)) refl (begins 35 s r h refl)
  int_or_behind (Truth b) r h = behind 36 (cond b 1 0 ∷ []) r (λ z. omega (arith, z)) refl (begins 36 (cond b 1 0 ∷ []) r h refl)
  int_or_behind (Member n) r h = behind 37 n r (λ z. omega (arith, z)) refl (begins 37 n r h refl)
  int_or_behind (Many ts) r h = of_many ts r (λ k. int_of_all ts k) (begins tag_list (encode_all ts) r h refl)
  int_or_behind (Fields ps) r h = of_fields ps r (λ k. int_of_pair ps k) (begins tag_input (encode_pairs ps) r h refl)
  int_or_behind (Token s) r h = behind 41 s r (λ z. omega (arith, z)) refl (begins 41 s r h refl)

  int_of_all : {c : List ℕ} (ts : Trees) → FieldIn 33 c (encode_all ts) → IntOfAll c ts
  int_of_all no_more h = absurd (none_in h refl)
  int_of_all (also t ts) h = of_also t ts (λ k. int_of_all ts k) (int_or_behind t (encode_all ts) h)

  int_of_pair : {c : List ℕ} (ps : Pairs) → FieldIn 33 c (encode_pairs ps) → IntOfPair c ps
  int_of_pair no_pairs h = absurd (none_in h refl)
  int_of_pair (pair n t ps) h = of_pair n t ps (λ k. int_or_behind t [] k) (λ k. int_of_pair ps k) (begins tag_pair (house_field_bytes tag_name n ++ encode t) (encode_pairs ps) h refl)

-- a field of tag 33 in a value's bytes is an Int's of the value
pub tag_33_in : (t : Tree) (c : List ℕ) → FieldIn 33 c (encode t) → (x : ℕ) × HasInt x t × (c ≡ four_bytes x)
tag_33_in t c h = only t (int_or_behind t [] (subst (FieldIn 33 c) (sym (append-nil (encode t))) h))

-- ---- what the calls leave

-- where a token stands that a call coerces: among the entries of the variables text, or in a variable's default; in a field's arguments
abbrev pub TokenGiven : (document variables : List ℕ) → List Row → ℕ → List Row → List ℕ → Type 0
TokenGiven document variables rs op vs s = HasTokenEntry s (given_in (read variables vs)) ⊎ DefaultToken s (variable_dues (read document rs) op)

abbrev pub TokenOfField : (table document : List ℕ) → ℕ → List Row → List ℕ → Type 0
TokenOfField table document row rs s =
    HasTokenEntry s (arguments_at input_document (read document rs) row)
    ⊎ DefaultToken s (duly (kind_of_type (table_of table)) (argument_dues (field_at (table_of table) (read document rs) row)) (placed input_document (read document rs) row))

pub variables_tag_33 : (table document name variables : List ℕ) {value report value' report' : List ℕ} {a : ℕ} → CoercedVariables table document name variables value report value' report' a → a ≡ 0 →
    (rs : List Row) × (op : ℕ) × (vs : List Row) × (bs : List ℕ) × VariablesRead table document name variables rs op vs
    × (take most_coerced value' ≡ bs ++ replicate (most_coerced - length bs) 0) × (take 2 report' ≡ 0 ∷ length bs ∷ [])
    × ((c : List ℕ) → FieldIn 33 c bs → (s : List ℕ) × TokenGiven document variables rs op vs s × (number_read c ≡ number_written s))
variables_tag_33 table document name variables k z =
    let w = variables_success table document name variables k z in (
      w.0,
      w.1,
      w.2,
      encode (Fields w.3),
      w.4,
      w.6,
      w.7,
      λ c h.
          let i = tag_33_in (Fields w.3) c h in let y = tag_33_of_variables (kind_of_type (table_of table)) _ _ w.3 i.0 w.5 i.1 in
          (y.0, y.1, ap number_read i.2 ∙ y.2.1),
    )

pub arguments_tag_33 : (table document name variables : List ℕ) (row : ℕ) {value report value' report' : List ℕ} {a : ℕ} → CoercedArguments table document name variables row value report value' report' a → a ≡ 0 →
    (rs : List Row) × (op : ℕ) × (vs : List Row) × (bs : List ℕ) × ReachedField (read document rs) op row × VariablesRead table document name variables rs op vs
    × (take most_coerced value' ≡ bs ++ replicate (most_coerced - length bs) 0) × (take 2 report' ≡ 0 ∷ length bs ∷ [])
    × ((c : List ℕ) → FieldIn 33 c bs → (s : List ℕ) × (TokenOfField table document row rs s ⊎ TokenGiven document variables rs op vs s) × (number_read c ≡ number_written s))
arguments_tag_33 table document name variables row k z =
    let w = arguments_success table document name variables row k z in (
      w.0,
      w.1,
      w.2,
      encode w.3,
      w.4,
      w.5,
      w.7,
      w.8,
      λ c h.
          let i = tag_33_in w.3 c h in let y = tag_33_of_arguments (kind_of_type (table_of table)) _ _ _ _ _ w.3 i.0 w.6 i.1 in
          (y.0, y.1, ap number_read i.2 ∙ y.2.1),
    )
