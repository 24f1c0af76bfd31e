-- For each kind of value and each kind of type: whether it is taken, and what of a token that is taken may still be refused; and that `coerce` goes by these tables.
-- Assumes nothing.
use mathlib.Core.Path.{◌≡◌, refl, sym, ap, subst}
use mathlib.Core.Bool.{Bool, true, false, cond, not}
use mathlib.Core.Option.{Option, none, some}
use mathlib.Core.List.{List, [], ◌∷◌, ◌++◌}
use mathlib.Core.Logic.{◌↔◌}
use Prim.Native.Nat.{ℕ, ◌<◌}
use native.Mathlib.Omega.{arith}
use lib.Dec.{leb}
use Rattle.paper.specs.Tokens.{same}
use Rattle.paper_table.specs.Lists.{any_of}
use Rattle.paper_values.specs.ValueNumbers.{reason_kind, reason_range, reason_enum, reason_surrogate}
use Rattle.paper_values.specs.NumberTokens.{value_of, digits_of, int_of, float_content}
use Rattle.paper_values.specs.Signed.{number_written, is_int}
use Rattle.paper_values.specs.Values.{Name, At, Value, variable, integer, float, string, boolean, null, enum, list, object, Tree, Bits, Decimal, Member, Out, Got, No}
use Rattle.paper_values.specs.Kinds.{Kind, Int, Float, String, Boolean, ID, Own, Other, Enum, Input}
use Rattle.paper_values.specs.Coercion.{in_range, text_at, enum_value_at, integer_at, float_at, string_at, boolean_at, enum_at}
use Rattle.paper_values.proofs.IntExact.{int_holds, Holds}

-- ---- the tables

-- a yes or no for each kind of type; no at what is no input type
abbrev pub yes_at : (onInt onFloat onString onBoolean onID onOwn : Bool) → (List Name → Bool) → (onInput : Bool) → Kind → Bool
yes_at i f s b d o e n Int = i
yes_at i f s b d o e n Float = f
yes_at i f s b d o e n String = s
yes_at i f s b d o e n Boolean = b
yes_at i f s b d o e n ID = d
yes_at i f s b d o e n Own = o
yes_at i f s b d o e n Other = false
yes_at i f s b d o e n (Enum ms) = e ms
yes_at i f s b d o e n (Input ds) = n

abbrev pub never : List Name → Bool
never ms = false

abbrev pub no : Kind → Bool
no k = false

-- Whether a kind of type takes a kind of value at all; in order: Int, Float, String, Boolean, ID, own scalar, enum, input object. A variable and null are not judged by kind.
abbrev pub takes : Value → Kind → Bool
takes (variable i n) = yes_at true true true true true true (λ ms. true) true
takes (integer i s) = yes_at true true false false true true never false
takes (float i s) = yes_at false true false false false true never false
takes (string i s cs) = yes_at false false true false true true never false
takes (boolean i b) = yes_at false false false true false true never false
takes (null i) = yes_at true true true true true true (λ ms. true) true
takes (enum i n) = yes_at false false false false false false (λ ms. true) false
takes (list i vs) = no
takes (object i es) = yes_at false false false false false false never true

-- an integer token whose number no Int holds; whose number is past 2^53 on either side
abbrev pub outside_int : List ℕ → Bool
outside_int [] = true
outside_int (b ∷ bs) = not (is_int (number_written (b ∷ bs)))

abbrev pub outside_float : List ℕ → Bool
outside_float s = not (leb (value_of (digits_of s)) 9007199254740992)

-- an integer token out of range
abbrev pub outside : Value → Kind → Bool
outside (variable i n) = no
outside (integer i s) = yes_at (outside_int s) (outside_float s) false false false false never false
outside (float i s) = no
outside (string i s cs) = no
outside (boolean i b) = no
outside (null i) = no
outside (enum i n) = no
outside (list i vs) = no
outside (object i es) = no

-- a name that is none of an enum's
abbrev pub no_member : Value → Kind → Bool
no_member (variable i n) = no
no_member (integer i s) = no
no_member (float i s) = no
no_member (string i s cs) = no
no_member (boolean i b) = no
no_member (null i) = no
no_member (enum i n) = yes_at false false false false false false (λ ms. not (any_of (same n) ms)) false
no_member (list i vs) = no
no_member (object i es) = no

abbrev pub without : {A : Type 0} → Option A → Bool
without none = true
without (some x) = false

-- a string in which a surrogate is escaped, where its characters are asked for
abbrev pub no_text : Value → Kind → Bool
no_text (variable i n) = no
no_text (integer i s) = no
no_text (float i s) = no
no_text (string i s cs) = yes_at false false (without cs) false (without cs) false never false
no_text (boolean i b) = no
no_text (null i) = no
no_text (enum i n) = no
no_text (list i vs) = no
no_text (object i es) = no

-- where a value stands
abbrev pub place_of : Value → At
place_of (variable i n) = i
place_of (integer i s) = i
place_of (float i s) = i
place_of (string i s cs) = i
place_of (boolean i b) = i
place_of (null i) = i
place_of (enum i n) = i
place_of (list i vs) = i
place_of (object i es) = i

-- ---- a refusal and its reason

abbrev pub why : Out Tree → ℕ
why (Got t) = 0
why (No i w) = w

pub true≢false : true ≡ false → ⊥
true≢false e = let z : ◌≡◌ {A = ℕ} 0 1 = ap (λ (b : Bool). cond b 0 1) e in omega arith

-- what an object that is taken is told for at its own place: 3, 5 or 6
abbrev pub AtOwn : At → Out Tree → Type 0
AtOwn i (Got t) = Unit
AtOwn i (No j w) = j ≡ i → (2 < w) × (w < 7) × (w ≡ 4 → ⊥)

pub data Cell (i : At) : (taken outside no_member no_text : Bool) → Out Tree → Type 0 where
  taken : {t : Tree} → Cell i true false false false (Got t)
  wrong_kind : Cell i false false false false (No i reason_kind)
  out_of_range : Cell i true true false false (No i reason_range)
  not_a_member : Cell i true false true false (No i reason_enum)
  not_a_text : Cell i true false false true (No i reason_surrogate)
  inside : {o : Out Tree} → AtOwn i o → Cell i true false false false o

abbrev pub Judged : Value → Kind → Out Tree → Type 0
Judged v k o = Cell (place_of v) (takes v k) (outside v k) (no_member v k) (no_text v k) o

-- each of the four, from the cell
pub kind_told : {i : At} {a b c d : Bool} {o : Out Tree} → Cell i a b c d o → (o ≡ No i reason_kind) ↔ (a ≡ false)
kind_told taken = (λ q. let z : ⊥ = omega (arith, ap why q) in absurd z, λ q. absurd (true≢false q))
kind_told wrong_kind = (λ q. refl, λ q. refl)
kind_told out_of_range = (λ q. let z : ⊥ = omega (arith, ap why q) in absurd z, λ q. absurd (true≢false q))
kind_told not_a_member = (λ q. let z : ⊥ = omega (arith, ap why q) in absurd z, λ q. absurd (true≢false q))
kind_told not_a_text = (λ q. let z : ⊥ = omega (arith, ap why q) in absurd z, λ q. absurd (true≢false q))
kind_told {i} (inside h) = (λ q. let z : ⊥ = omega (arith, (subst (AtOwn i) q h refl).0) in absurd z, λ q. absurd (true≢false q))

pub range_told : {i : At} {a b c d : Bool} {o : Out Tree} → Cell i a b c d o → (o ≡ No i reason_range) ↔ (b ≡ true)
range_told taken = (λ q. let z : ⊥ = omega (arith, ap why q) in absurd z, λ q. absurd (true≢false (sym q)))
range_told wrong_kind = (λ q. let z : ⊥ = omega (arith, ap why q) in absurd z, λ q. absurd (true≢false (sym q)))
range_told out_of_range = (λ q. refl, λ q. refl)
range_told not_a_member = (λ q. let z : ⊥ = omega (arith, ap why q) in absurd z, λ q. absurd (true≢false (sym q)))
range_told not_a_text = (λ q. let z : ⊥ = omega (arith, ap why q) in absurd z, λ q. absurd (true≢false (sym q)))
range_told {i} (inside h) = (λ q. let z : ⊥ = omega (arith, (subst (AtOwn i) q h refl).0) in absurd z, λ q. absurd (true≢false (sym q)))

pub enum_told : {i : At} {a b c d : Bool} {o : Out Tree} → Cell i a b c d o → (o ≡ No i reason_enum) ↔ (c ≡ true)
enum_told taken = (λ q. let z : ⊥ = omega (arith, ap why q) in absurd z, λ q. absurd (true≢false (sym q)))
enum_told wrong_kind = (λ q. let z : ⊥ = omega (arith, ap why q) in absurd z, λ q. absurd (true≢false (sym q)))
enum_told out_of_range = (λ q. let z : ⊥ = omega (arith, ap why q) in absurd z, λ q. absurd (true≢false (sym q)))
enum_told not_a_member = (λ q. refl, λ q. refl)
enum_told not_a_text = (λ q. let z : ⊥ = omega (arith, ap why q) in absurd z, λ q. absurd (true≢false (sym q)))
enum_told {i} (inside h) = (λ q. let z : ⊥ = omega (arith, (subst (AtOwn i) q h refl).1) in absurd z, λ q. absurd (true≢false (sym q)))

pub surrogate_told : {i : At} {a b c d : Bool} {o : Out Tree} → Cell i a b c d o → (o ≡ No i reason_surrogate) ↔ (d ≡ true)
surrogate_told taken = (λ q. let z : ⊥ = omega (arith, ap why q) in absurd z, λ q. absurd (true≢false (sym q)))
surrogate_told wrong_kind = (λ q. let z : ⊥ = omega (arith, ap why q) in absurd z, λ q. absurd (true≢false (sym q)))
surrogate_told out_of_range = (λ q. let z : ⊥ = omega (arith, ap why q) in absurd z, λ q. absurd (true≢false (sym q)))
surrogate_told not_a_member = (λ q. let z : ⊥ = omega (arith, ap why q) in absurd z, λ q. absurd (true≢false (sym q)))
surrogate_told not_a_text = (λ q. refl, λ q. refl)
surrogate_told {i} (inside h) = (λ q. let z : ⊥ = omega (arith, (subst (AtOwn i) q h refl).1) in absurd z, λ q. absurd (true≢false (sym q)))

-- ---- tokens

ranged : {A : Type 0} (i : At) (f : A → Tree) (o : Option A) (b : Bool) → without o ≡ b → Cell i true b false false (in_range i f o)
ranged i f none true q = out_of_range
ranged i f none false q = absurd (true≢false q)
ranged i f (some x) true q = absurd (true≢false (sym q))
ranged i f (some x) false q = taken

held_out : (o : Option ℕ) (s : List ℕ) → Holds o (number_written s) → without o ≡ not (is_int (number_written s))
held_out none s h = rw h refl
held_out (some x) s h = rw h.0 refl

int_out : (s : List ℕ) → without (int_of s) ≡ outside_int s
unfolding int_of
int_out [] = refl
int_out (b ∷ bs) = held_out (int_of (b ∷ bs)) (b ∷ bs) (int_holds b bs)

float_out : (s : List ℕ) → without (float_content true s) ≡ outside_float s
unfolding float_content
float_out s = go (leb (value_of (digits_of s)) 9007199254740992)
  where
    go : (b : Bool) → without (cond b (some (s ++ (0x2e ∷ 0x30 ∷ []))) none) ≡ not b
    go true = refl
    go false = refl

int_cell : (i : At) (s : List ℕ) → Cell i true (outside_int s) false false (in_range i Bits (int_of s))
int_cell i s = ranged i Bits (int_of s) (outside_int s) (int_out s)

float_cell' : (i : At) (s : List ℕ) → Cell i true (outside_float s) false false (in_range i Decimal (float_content true s))
float_cell' i s = ranged i Decimal (float_content true s) (outside_float s) (float_out s)

text_cell : (i : At) (cs : Option (List ℕ)) → Cell i true false false (without cs) (text_at i cs)
text_cell i none = not_a_text
text_cell i (some s) = taken

member_cell : (i : At) (n : Name) (ms : List Name) → Cell i true false (not (any_of (same n) ms)) false (enum_value_at i n ms)
member_cell i n ms = go (any_of (same n) ms)
  where
    go : (b : Bool) → Cell i true false (not b) false (cond b (Got (Member n)) (No i reason_enum))
    go true = taken
    go false = not_a_member

pub integer_cell : (i : At) (s : List ℕ) (k : Kind) → Judged (integer i s) k (integer_at i s k)
integer_cell i s Int = int_cell i s
integer_cell i s Float = float_cell' i s
integer_cell i s String = wrong_kind
integer_cell i s Boolean = wrong_kind
integer_cell i s ID = taken
integer_cell i s Own = taken
integer_cell i s Other = wrong_kind
integer_cell i s (Enum ms) = wrong_kind
integer_cell i s (Input ds) = wrong_kind

pub float_cell : (i : At) (s : List ℕ) (k : Kind) → Judged (float i s) k (float_at i s k)
unfolding float_content
float_cell i s Int = wrong_kind
float_cell i s Float = taken
float_cell i s String = wrong_kind
float_cell i s Boolean = wrong_kind
float_cell i s ID = wrong_kind
float_cell i s Own = taken
float_cell i s Other = wrong_kind
float_cell i s (Enum ms) = wrong_kind
float_cell i s (Input ds) = wrong_kind

pub string_cell : (i : At) (s : List ℕ) (cs : Option (List ℕ)) (k : Kind) → Judged (string i s cs) k (string_at i s cs k)
string_cell i s cs Int = wrong_kind
string_cell i s cs Float = wrong_kind
string_cell i s cs String = text_cell i cs
string_cell i s cs Boolean = wrong_kind
string_cell i s cs ID = text_cell i cs
string_cell i s cs Own = taken
string_cell i s cs Other = wrong_kind
string_cell i s cs (Enum ms) = wrong_kind
string_cell i s cs (Input ds) = wrong_kind

pub boolean_cell : (i : At) (b : Bool) (k : Kind) → Judged (boolean i b) k (boolean_at i b k)
boolean_cell i b Int = wrong_kind
boolean_cell i b Float = wrong_kind
boolean_cell i b String = wrong_kind
boolean_cell i b Boolean = taken
boolean_cell i b ID = wrong_kind
boolean_cell i b Own = taken
boolean_cell i b Other = wrong_kind
boolean_cell i b (Enum ms) = wrong_kind
boolean_cell i b (Input ds) = wrong_kind

pub enum_cell : (i : At) (n : Name) (k : Kind) → Judged (enum i n) k (enum_at i n k)
enum_cell i n Int = wrong_kind
enum_cell i n Float = wrong_kind
enum_cell i n String = wrong_kind
enum_cell i n Boolean = wrong_kind
enum_cell i n ID = wrong_kind
enum_cell i n Own = wrong_kind
enum_cell i n Other = wrong_kind
enum_cell i n (Enum ms) = member_cell i n ms
enum_cell i n (Input ds) = wrong_kind
