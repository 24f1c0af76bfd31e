-- A constant that is no null is never null at its type, so a variable of it is its tree at every place.
use mathlib.Core.Path.{◌≡◌, refl, sym, ap, subst, ◌∙◌}
use mathlib.Core.Logic.{◌⊎◌, inl, inr}
use mathlib.Core.Bool.{Bool, true, false, cond}
use mathlib.Core.Option.{Option, none, some}
use mathlib.Core.List.{List, []}
use Prim.Native.Nat.{ℕ, ◌+◌, ◌≤◌, ◌<◌}
use native.Mathlib.Omega.{arith}
use lib.ListN.{length}
use borrow.Author.Tests.{lt-leb}
use Rattle.paper.specs.Numbers.{kind_variable, kind_null}
use Rattle.paper.specs.Tokens.{same}
use Rattle.paper_table.specs.Lists.{any_of}
use Rattle.paper_table.specs.References.{Ref, named, list_of, non_null}
use Rattle.paper_query.specs.Constructs.{Doc, kind_of}
use Rattle.paper_values.specs.ValueNumbers.{reason_enum, reason_repeated, reason_unknown}
use Rattle.paper_values.specs.NumberTokens.{int_of, float_content}
use Rattle.paper_values.specs.Values.{Name, At, Value, variable, integer, float, string, boolean, null, enum, list, object, Due, Tree, Null, Bits, Decimal, Text, Truth, Member, Many, Fields, Token, Trees, no_more, also, Pairs, Out, Got, No, and_then}
use Rattle.paper_values.specs.Kinds.{Kind, Int, Float, String, Boolean, ID, Own, Other, Enum, Input}
use Rattle.paper_values.specs.Computed.{null_at, object_at, Given, missing_due, due_fields, unless, in_object, single, several, coerce, coerce_all, givens, constant}
use Rattle.paper_values.specs.Coercion.{in_range, text_at, enum_value_at, by_type, integer_at, float_at, string_at, boolean_at, enum_at, Head, heads, repeated_entry, unknown_entry}
use Rattle.paper_values.specs.CoercionRules.{plain_value}
use Rattle.paper_values.specs.Encoding.{encode}
use Rattle.paper_values.specs.RowValues.{placed, value_at, value_by, value_of_row}
use Rattle.value_writing.specs.Writing.{place_of}
use Rattle.std.proofs.Common.{Result, Ok}
use Rattle.value_kinds.specs.declared.RefusedRow.{RefusedRow}
use Rattle.value_kinds.specs.Dues.{Told, placed_at}
use Rattle.value_tokens.proofs.TokenLaws.{value_variable, value_null}
use Rattle.value_held.specs.Given.{Vars, kinds_in}
use Rattle.value_coerce.specs.Coercing.{stood}
use Rattle.value_held.specs.Holding.{Kept}
use Rattle.value_held.proofs.LevelLaws.{at_level}
use Rattle.value_coerce.proofs.ValueLaws.{row_plain}

-- ---- what is not null

abbrev filled : Out Tree → Bool
filled (Got Null) = false
filled (Got (Bits x)) = true
filled (Got (Decimal s)) = true
filled (Got (Text s)) = true
filled (Got (Truth b)) = true
filled (Got (Member n)) = true
filled (Got (Many ts)) = true
filled (Got (Fields ps)) = true
filled (Got (Token s)) = true
filled (No i w) = true

range_filled : {A : Type 0} (i : At) (f : A → Tree) (o : Option A) → ((x : A) → filled (Got (f x)) ≡ true) → filled (in_range i f o) ≡ true
range_filled i f none g = refl
range_filled i f (some x) g = g x

text_filled : (i : At) (o : Option (List ℕ)) → filled (text_at i o) ≡ true
text_filled i none = refl
text_filled i (some s) = refl

member_filled : (i : At) (n : Name) (ms : List Name) → filled (enum_value_at i n ms) ≡ true
member_filled i n ms = go (any_of (same n) ms)
  where
    go : (b : Bool) → filled (cond b (Got (Member n)) (No i reason_enum)) ≡ true
    go true = refl
    go false = refl

unless_filled : (o : Option At) (why : ℕ) (r : Out Tree) → filled r ≡ true → filled (unless o why r) ≡ true
unless_filled none why r e = e
unless_filled (some i) why r e = refl

object_filled : (lack : Due → Out Pairs → Out Pairs) (es : List Head) (gs : List Given) (ds : List Due) → filled (in_object lack es gs ds) ≡ true
object_filled lack es gs ds = unless_filled (repeated_entry [] es) reason_repeated _ (unless_filled (unknown_entry ds es) reason_unknown _ (go (due_fields lack gs ds)))
  where
    go : (o : Out Pairs) → filled (and_then o (λ ps. Got (Fields ps))) ≡ true
    go (Got ps) = refl
    go (No i w) = refl

-- an answer for each kind of type is filled if all are
module _ (x i f s b d o : Out Tree) (e : List Name → Out Tree) (n : List Due → Out Tree) where
  table_filled : filled x ≡ true → filled i ≡ true → filled f ≡ true → filled s ≡ true → filled b ≡ true → filled d ≡ true → filled o ≡ true → ((ms : List Name) → filled (e ms) ≡ true) → ((ds : List Due) → filled (n ds) ≡ true) →
      (k : Kind) → filled (by_type x i f s b d o e n k) ≡ true
  table_filled x' i' f' s' b' d' o' e' n' Int = i'
  table_filled x' i' f' s' b' d' o' e' n' Float = f'
  table_filled x' i' f' s' b' d' o' e' n' String = s'
  table_filled x' i' f' s' b' d' o' e' n' Boolean = b'
  table_filled x' i' f' s' b' d' o' e' n' ID = d'
  table_filled x' i' f' s' b' d' o' e' n' Own = o'
  table_filled x' i' f' s' b' d' o' e' n' Other = x'
  table_filled x' i' f' s' b' d' o' e' n' (Enum ms) = e' ms
  table_filled x' i' f' s' b' d' o' e' n' (Input ds) = n' ds

module _ (kinds : Name → Kind) (vars : Vars) where
  list_filled : (o : Out Trees) → filled (and_then o (λ ts. Got (Many ts))) ≡ true
  list_filled (Got ts) = refl
  list_filled (No i w) = refl

  one_filled : (o : Out Tree) → filled (and_then o (λ t. Got (Many (also t no_more)))) ≡ true
  one_filled (Got t) = refl
  one_filled (No i w) = refl

  single_filled : (f : Kind → Out Tree) → ((k : Kind) → filled (f k) ≡ true) → (r : Ref) → filled (single kinds vars f r) ≡ true
  single_filled f g (named n) = g (kinds n)
  single_filled f g (list_of r) = one_filled (single kinds vars f r)
  single_filled f g (non_null r) = single_filled f g r

  several_filled : (i : At) (items : Ref → Out Trees) (r : Ref) → filled (several kinds vars i items r) ≡ true
  several_filled i items (named n) = refl
  several_filled i items (list_of r) = list_filled (items r)
  several_filled i items (non_null r) = several_filled i items r

  plain_filled : (v : Value) (r : Ref) → plain_value v ≡ true → filled (coerce kinds vars v r) ≡ true
  unfolding coerce
  plain_filled (variable i n) r e = absurd (let z : ◌≡◌ {A = ℕ} 0 1 = cc in omega arith)
  plain_filled (integer i s) r e = single_filled (integer_at i s) (table_filled _ _ _ _ _ _ _ _ _ refl (range_filled i Bits (int_of s) (λ x. refl)) (range_filled i Decimal (float_content true s) (λ x. refl)) refl refl refl refl (λ ms. refl) (λ ds. refl)) r
  plain_filled (float i s) r e = single_filled (float_at i s) (table_filled _ _ _ _ _ _ _ _ _ refl refl (range_filled i Decimal (float_content false s) (λ x. refl)) refl refl refl refl (λ ms. refl) (λ ds. refl)) r
  plain_filled (string i s cs) r e = single_filled (string_at i s cs) (table_filled _ _ _ _ _ _ _ _ _ refl refl refl (text_filled i cs) refl (text_filled i cs) refl (λ ms. refl) (λ ds. refl)) r
  plain_filled (boolean i b) r e = single_filled (boolean_at i b) (table_filled _ _ _ _ _ _ _ _ _ refl refl refl refl refl refl refl (λ ms. refl) (λ ds. refl)) r
  plain_filled (null i) r e = absurd (let z : ◌≡◌ {A = ℕ} 0 1 = cc in omega arith)
  plain_filled (enum i n) r e = single_filled (enum_at i n) (table_filled _ _ _ _ _ _ _ _ _ refl refl refl refl refl refl refl (λ ms. member_filled i n ms) (λ ds. refl)) r
  plain_filled (list i vs) r e = several_filled i (λ q. coerce_all kinds vars vs q) r
  plain_filled (object i es) r e = single_filled (object_at i (in_object (missing_due i) (heads es) (givens kinds vars es))) (table_filled _ _ _ _ _ _ _ _ _ refl refl refl refl refl refl refl (λ ms. refl) (λ ds. object_filled (missing_due i) (heads es) (givens kinds vars es) ds)) r

-- ---- a variable's place

stood_is : (t : List ℕ) (vars : Vars) (text i : ℕ) (r : Ref) (tree : Tree) → filled (Got tree) ≡ true → stood t vars text i r (some tree) ≡ Got tree
stood_is t vars text i r Null e = absurd (let z : ◌≡◌ {A = ℕ} 0 1 = cc in omega arith)
stood_is t vars text i r (Bits x) e = refl
stood_is t vars text i r (Decimal s) e = refl
stood_is t vars text i r (Text s) e = refl
stood_is t vars text i r (Truth b) e = refl
stood_is t vars text i r (Member n) e = refl
stood_is t vars text i r (Many ts) e = refl
stood_is t vars text i r (Fields ps) e = refl
stood_is t vars text i r (Token s) e = refl

-- what it stands for, by what it was found to be
pub stood_as : (t : List ℕ) (vars : Vars) (text i limit from : ℕ) (r : Ref) (o o' : Option Tree) (p p' : List ℕ) (c : Result ℕ RefusedRow) → o ≡ o' → Told text limit (stood t vars text i r o') from p p' c → Told text limit (stood t vars text i r o) from p p' c
stood_as t vars text i limit from r o o' p p' c e g = subst (λ (x : Option Tree). Told text limit (stood t vars text i r x) from p p' c) (sym e) g

null_is : (i : At) (r : Ref) (tree : Tree) → null_at i r ≡ Got tree → tree ≡ Null
null_is i (named n) tree e = cc
null_is i (list_of r) tree e = cc
null_is i (non_null r) tree e = absurd (let z : ◌≡◌ {A = ℕ} 0 1 = cc in omega arith)

module _ (t : List ℕ) (vars : Vars) (text there : ℕ) (d : Doc) (n row i limit from : ℕ) (r ref : Ref) (tree : Tree) (p p' : List ℕ) (c : Result ℕ RefusedRow) (k : Kept t there d n row ref tree) where
  abbrev Goal : Type 0
  Goal = Told text limit (stood t vars text i r (some tree)) from p p' c

  level : value_of_row there d row ≡ value_by there d (value_at there d 32) row
  level = at_level there d 33 row (λ (e : 33 ≡ 0). omega (arith, e))

  is_null : (kind_of d row ≡ kind_null) ⊎ (kind_of d row ≡ kind_variable) → tree ≡ Null
  unfolding coerce
  is_null (inl e) = null_is (placed there d row) ref tree (sym (ap (λ (v : Value). constant (kinds_in t) v ref) (level ∙ value_null there d (value_at there d 32) row e)) ∙ k.is)
  is_null (inr e) = null_is (placed there d row) ref tree (sym (ap (λ (v : Value). constant (kinds_in t) v ref) (level ∙ value_variable there d (value_at there d 32) row e)) ∙ k.is)

  pub kept_null : (kind_of d row ≡ kind_null) ⊎ (kind_of d row ≡ kind_variable) → Told text limit (null_at (placed_at text i) r) from p p' c → Goal
  kept_null e f = subst (λ (x : Tree). Told text limit (stood t vars text i r (some x)) from p p' c) (sym (is_null e)) f

  module _ (q : (kind_of d row ≡ kind_null) ⊎ (kind_of d row ≡ kind_variable) → ⊥) where
    is_filled : filled (Got tree) ≡ true
    is_filled = ap filled (sym k.is) ∙ plain_filled (kinds_in t) (λ m. none) (value_of_row there d row) ref (ap plain_value level ∙ row_plain there d (value_at there d 32) row (λ (e : kind_of d row ≡ kind_variable). q (inr e)) (λ (e : kind_of d row ≡ kind_null). q (inl e)))

    by_tree : Told text limit (Got tree) from p p' c → Goal
    by_tree g = subst (λ (o : Out Tree). Told text limit o from p p' c) (sym (stood_is t vars text i r tree is_filled)) g

    pub kept_value : Told there limit (coerce (kinds_in t) (λ m. none) (value_of_row there d row) ref) from p p' c → Goal
    kept_value g = by_tree (subst (λ (o : Out Tree). Told there limit o from p p' c) k.is g)

    pub kept_full : limit < from → from ≤ limit + 1 → c ≡ Ok from → Goal
    kept_full l m e = by_tree (from, e, (full (length (encode tree)), λ h. absurd (omega (arith, h, l))))
      where
        full : (x : ℕ) → from ≡ place_of limit (from + x)
        full x = let z : limit < from + x = omega arith in let y : from ≡ limit + 1 = omega arith in y ∙ rw (lt-leb (from + x) limit z) refl
