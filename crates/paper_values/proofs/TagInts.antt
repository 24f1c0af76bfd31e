-- Each tag 33 of a result holds the number of an integer token: of the value, or of what a variable held. Nothing but an integer token at Int gives one.
-- Assumes nothing.
use mathlib.Core.Path.{◌≡◌, refl, sym, ap, ◌∙◌, subst}
use mathlib.Core.Bool.{Bool, true, false, cond}
use mathlib.Core.Option.{Option, none, some}
use mathlib.Core.List.{List, [], ◌∷◌}
use mathlib.Core.Logic.{◌⊎◌, inl, inr}
use Prim.Native.Nat.{ℕ, ◌+◌, ◌*◌}
use native.Mathlib.Omega.{arith}
use Rattle.paper.specs.Tokens.{same}
use Rattle.paper_table.specs.Lists.{any_of}
use Rattle.paper_table.specs.References.{Ref, named}
use Rattle.paper_values.specs.Written.{four_bytes}
use Rattle.paper_values.specs.NumberTokens.{int_of, float_content}
use Rattle.paper_values.specs.Signed.{Signed, number_written, number_held}
use Rattle.paper_values.specs.Values.{Name, At, Value, variable, integer, float, string, boolean, null, enum, list, object, Values, no_values, item, Entries, no_entries, entry, Due, Tree, Null, Bits, Decimal, Text, Truth, Member, Many, Fields, Token, Trees, no_more, also, Pairs, no_pairs, pair, Out, Got, No, and_then}
use Rattle.paper_values.specs.Kinds.{Kind, Int, Float, String, Boolean, ID, Own, Other, Enum, Input}
use Rattle.paper_values.specs.Coercion.{in_range, text_at, by_type, integer_at, float_at, string_at, boolean_at, enum_at, left_out, value_in}
use Rattle.paper_values.specs.CoercionRules.{plain_value, value_for, Coerces, null_kept, null_refused, absent_variable, null_variable, held_variable, at_non_null, a_list, list_of_one, no_list, an_integer, a_float, a_string, a_boolean, an_enum, no_object, entry_repeated, entry_unknown, an_object, Items, no_items, item_refused, item_got, InFields, no_fields, required_missing, by_left_out, field_refused, field_got}
use Rattle.paper_values.specs.CallRules.{no_variables, InDues, no_dues, given_refused, given_got, default_refused, default_got, due_missing, due_left_out, CoercesVariables, name_repeated_is, in_order, CoercesArguments, variables_refused, argument_repeated, argument_unknown, arguments}
use Rattle.paper_values.specs.Computed.{coerce}
use Rattle.paper_values.specs.Encoding.{encode}
use Rattle.paper_values.proofs.CoercionExact.{coerces_has}
use Rattle.paper_values.proofs.CallsExact.{duly}
use Rattle.paper_values.proofs.IntExact.{int_number}
use Rattle.paper_values.proofs.TagInt.{bits_in}
use Rattle.paper_values.proofs.ReasonTables.{true≢false}

-- ---- where an Int stands in a result, and an integer token in a value

mutual
  pub data HasInt (x : ℕ) : Tree → Type 0 where
    the_int : HasInt x (Bits x)
    in_list : {ts : Trees} → HasIntAll x ts → HasInt x (Many ts)
    in_object : {ps : Pairs} → HasIntPair x ps → HasInt x (Fields ps)

  pub data HasIntAll (x : ℕ) : Trees → Type 0 where
    in_this : {t : Tree} {ts : Trees} → HasInt x t → HasIntAll x (also t ts)
    in_later : {t : Tree} {ts : Trees} → HasIntAll x ts → HasIntAll x (also t ts)

  pub data HasIntPair (x : ℕ) : Pairs → Type 0 where
    in_this_pair : {n : Name} {t : Tree} {ps : Pairs} → HasInt x t → HasIntPair x (pair n t ps)
    in_later_pair : {n : Name} {t : Tree} {ps : Pairs} → HasIntPair x ps → HasIntPair x (pair n t ps)

mutual
  pub data HasToken (s : List ℕ) : Value → Type 0 where
    the_token : {i : At} → HasToken s (integer i s)
    of_list : {i : At} {vs : Values} → HasTokenAll s vs → HasToken s (list i vs)
    of_object : {i : At} {es : Entries} → HasTokenEntry s es → HasToken s (object i es)

  pub data HasTokenAll (s : List ℕ) : Values → Type 0 where
    of_this : {v : Value} {vs : Values} → HasToken s v → HasTokenAll s (item v vs)
    of_later : {v : Value} {vs : Values} → HasTokenAll s vs → HasTokenAll s (item v vs)

  pub data HasTokenEntry (s : List ℕ) : Entries → Type 0 where
    of_this_entry : {i : At} {n : Name} {v : Value} {es : Entries} → HasToken s v → HasTokenEntry s (entry i n v es)
    of_later_entry : {i : At} {n : Name} {v : Value} {es : Entries} → HasTokenEntry s es → HasTokenEntry s (entry i n v es)

-- ---- a promise on all Ints of a result

module _ (P : ℕ → Type 0) where
  unfoldable mutual
    Ints : Tree → Type 0
    Ints Null = Unit
    Ints (Bits x) = P x
    Ints (Decimal s) = Unit
    Ints (Text s) = Unit
    Ints (Truth b) = Unit
    Ints (Member n) = Unit
    Ints (Many ts) = IntsAll ts
    Ints (Fields ps) = IntsPair ps
    Ints (Token s) = Unit

    IntsAll : Trees → Type 0
    IntsAll no_more = Unit
    IntsAll (also t ts) = Ints t × IntsAll ts

    IntsPair : Pairs → Type 0
    IntsPair no_pairs = Unit
    IntsPair (pair n t ps) = Ints t × IntsPair ps

  mutual
    unfolding Ints

    of_int : {x : ℕ} {t : Tree} → HasInt x t → Ints t → P x
    of_int the_int p = p
    of_int (in_list h) p = of_int_all h p
    of_int (in_object h) p = of_int_pair h p

    of_int_all : {x : ℕ} {ts : Trees} → HasIntAll x ts → IntsAll ts → P x
    of_int_all (in_this h) p = of_int h p.0
    of_int_all (in_later h) p = of_int_all h p.1

    of_int_pair : {x : ℕ} {ps : Pairs} → HasIntPair x ps → IntsPair ps → P x
    of_int_pair (in_this_pair h) p = of_int h p.0
    of_int_pair (in_later_pair h) p = of_int_pair h p.1

-- ---- a promise on all integer tokens of a value

module _ (Q : List ℕ → Type 0) where
  unfoldable mutual
    Tokens : Value → Type 0
    Tokens (variable i n) = Unit
    Tokens (integer i s) = Q s
    Tokens (float i s) = Unit
    Tokens (string i s cs) = Unit
    Tokens (boolean i b) = Unit
    Tokens (null i) = Unit
    Tokens (enum i n) = Unit
    Tokens (list i vs) = TokensAll vs
    Tokens (object i es) = TokensEntry es

    TokensAll : Values → Type 0
    TokensAll no_values = Unit
    TokensAll (item v vs) = Tokens v × TokensAll vs

    TokensEntry : Entries → Type 0
    TokensEntry no_entries = Unit
    TokensEntry (entry i n v es) = Tokens v × TokensEntry es

  mutual
    unfolding Tokens

    tokens : (v : Value) → ((s : List ℕ) → HasToken s v → Q s) → Tokens v
    tokens (variable i n) f = tt
    tokens (integer i s) f = f s the_token
    tokens (float i s) f = tt
    tokens (string i s cs) f = tt
    tokens (boolean i b) f = tt
    tokens (null i) f = tt
    tokens (enum i n) f = tt
    tokens (list i vs) f = tokens_all vs (λ s h. f s (of_list h))
    tokens (object i es) f = tokens_entry es (λ s h. f s (of_object h))

    tokens_all : (vs : Values) → ((s : List ℕ) → HasTokenAll s vs → Q s) → TokensAll vs
    tokens_all no_values f = tt
    tokens_all (item v vs) f = (tokens v (λ s h. f s (of_this h)), tokens_all vs (λ s h. f s (of_later h)))

    tokens_entry : (es : Entries) → ((s : List ℕ) → HasTokenEntry s es → Q s) → TokensEntry es
    tokens_entry no_entries f = tt
    tokens_entry (entry i n v es) f = (tokens v (λ s h. f s (of_this_entry h)), tokens_entry es (λ s h. f s (of_later_entry h)))

  -- an entry that is found is one of them
  module _ (kinds : Name → Kind) (vars : Name → Option Tree) where
    found_if : (b c : Bool) (v w : Value) (m : Option Value) → Tokens w → (m ≡ some v → Tokens v) → cond b (cond c none (some w)) m ≡ some v → Tokens v
    found_if true true v w m p h q = let z : ◌≡◌ {A = ℕ} 0 1 = cc in absurd (omega (arith, z))
    found_if true false v w m p h q = let e : w ≡ v = cc in subst Tokens e p
    found_if false c v w m p h q = h q

    entry_tokens : (es : Entries) → TokensEntry es → (n : Name) (v : Value) → value_for kinds vars n es ≡ some v → Tokens v
    unfolding Tokens
    entry_tokens no_entries p n v q = let z : ◌≡◌ {A = ℕ} 0 1 = cc in absurd (omega (arith, z))
    entry_tokens (entry i m w es) p n v q = found_if (same n m) (left_out kinds vars w) v w (value_for kinds vars n es) p.0 (λ z. entry_tokens es p.1 n v z) q

-- ---- the Ints of a result by the rules

module _ (P : ℕ → Type 0) (kinds : Name → Kind) where
  -- what Int reads from a token keeps the promise
  abbrev Read : List ℕ → Type 0
  Read s = (x : ℕ) → int_of s ≡ some x → P x

  abbrev GotInts : Out Tree → Type 0
  GotInts (Got t) = Ints P t
  GotInts (No i w) = Unit

  abbrev GotAll : Out Trees → Type 0
  GotAll (Got ts) = IntsAll P ts
  GotAll (No i w) = Unit

  abbrev GotPairs : Out Pairs → Type 0
  GotPairs (Got ps) = IntsPair P ps
  GotPairs (No i w) = Unit

  abbrev HeldInts : Option Tree → Type 0
  HeldInts none = Unit
  HeldInts (some t) = Ints P t

  by_type_is : (x i f s b d o : Out Tree) (e : List Name → Out Tree) (n : List Due → Out Tree) → GotInts x → GotInts i → GotInts f → GotInts s → GotInts b → GotInts d → GotInts o →
      ((ms : List Name) → GotInts (e ms)) → ((ds : List Due) → GotInts (n ds)) → (k : Kind) → GotInts (by_type x i f s b d o e n k)
  by_type_is x i f s b d o e n gx gi gf gs gb gd go ge gn Int = gi
  by_type_is x i f s b d o e n gx gi gf gs gb gd go ge gn Float = gf
  by_type_is x i f s b d o e n gx gi gf gs gb gd go ge gn String = gs
  by_type_is x i f s b d o e n gx gi gf gs gb gd go ge gn Boolean = gb
  by_type_is x i f s b d o e n gx gi gf gs gb gd go ge gn ID = gd
  by_type_is x i f s b d o e n gx gi gf gs gb gd go ge gn Own = go
  by_type_is x i f s b d o e n gx gi gf gs gb gd go ge gn Other = gx
  by_type_is x i f s b d o e n gx gi gf gs gb gd go ge gn (Enum ms) = ge ms
  by_type_is x i f s b d o e n gx gi gf gs gb gd go ge gn (Input ds) = gn ds

  bits_read : (i : At) (o : Option ℕ) → ((x : ℕ) → o ≡ some x → P x) → GotInts (in_range i Bits o)
  unfolding Ints
  bits_read i none h = tt
  bits_read i (some x) h = h x refl

  decimal_read : (i : At) (o : Option (List ℕ)) → GotInts (in_range i Decimal o)
  unfolding Ints
  decimal_read i none = tt
  decimal_read i (some s) = tt

  text_read : (i : At) (o : Option (List ℕ)) → GotInts (text_at i o)
  unfolding Ints
  text_read i none = tt
  text_read i (some s) = tt

  member_read : (i : At) (n : Name) (b : Bool) → GotInts (cond b (Got (Member n)) (No i 7))
  unfolding Ints
  member_read i n true = tt
  member_read i n false = tt

  integer_read : (i : At) (s : List ℕ) → Read s → (k : Kind) → GotInts (integer_at i s k)
  unfolding Ints
  integer_read i s h = by_type_is _ _ _ _ _ _ _ _ _ tt (bits_read i (int_of s) h) (decimal_read i (float_content true s)) tt tt tt tt (λ ms. tt) (λ ds. tt)

  float_read : (i : At) (s : List ℕ) (k : Kind) → GotInts (float_at i s k)
  unfolding Ints
  float_read i s = by_type_is _ _ _ _ _ _ _ _ _ tt tt (decimal_read i (float_content false s)) tt tt tt tt (λ ms. tt) (λ ds. tt)

  string_read : (i : At) (s : List ℕ) (cs : Option (List ℕ)) (k : Kind) → GotInts (string_at i s cs k)
  unfolding Ints
  string_read i s cs = by_type_is _ _ _ _ _ _ _ _ _ tt tt tt (text_read i cs) tt (text_read i cs) tt (λ ms. tt) (λ ds. tt)

  boolean_read : (i : At) (b : Bool) (k : Kind) → GotInts (boolean_at i b k)
  unfolding Ints
  boolean_read i b = by_type_is _ _ _ _ _ _ _ _ _ tt tt tt tt tt tt tt (λ ms. tt) (λ ds. tt)

  enum_read : (i : At) (n : Name) (k : Kind) → GotInts (enum_at i n k)
  unfolding Ints
  enum_read i n = by_type_is _ _ _ _ _ _ _ _ _ tt tt tt tt tt tt tt (λ ms. member_read i n (any_of (same n) ms)) (λ ds. tt)

  many_ints : (o : Out Trees) → GotAll o → GotInts (and_then o (λ ts. Got (Many ts)))
  unfolding Ints
  many_ints (Got ts) h = h
  many_ints (No i w) h = tt

  one_ints : (o : Out Tree) → GotInts o → GotInts (and_then o (λ t. Got (Many (also t no_more))))
  unfolding Ints
  one_ints (Got t) h = (h, tt)
  one_ints (No i w) h = tt

  fields_ints : (o : Out Pairs) → GotPairs o → GotInts (and_then o (λ ps. Got (Fields ps)))
  unfolding Ints
  fields_ints (Got ps) h = h
  fields_ints (No i w) h = tt

  also_ints : (t : Tree) (o : Out Trees) → Ints P t → GotAll o → GotAll (and_then o (λ ts. Got (also t ts)))
  unfolding Ints
  also_ints t (Got ts) p h = (p, h)
  also_ints t (No i w) p h = tt

  pair_ints : (n : Name) (t : Tree) (o : Out Pairs) → Ints P t → GotPairs o → GotPairs (and_then o (λ ps. Got (pair n t ps)))
  unfolding Ints
  pair_ints n t (Got ps) p h = (p, h)
  pair_ints n t (No i w) p h = tt

  module _ (vars : Name → Option Tree) (held : (n : Name) → HeldInts (vars n)) where
    mutual
      unfolding Ints Tokens

      ints : {v : Value} {r : Ref} {o : Out Tree} → Coerces kinds vars v r o → Tokens Read v → GotInts o
      ints (null_kept q) h = tt
      ints (null_refused q) h = tt
      ints (absent_variable q c) h = ints c tt
      ints (null_variable q c) h = ints c tt
      ints (held_variable {n = n} t q z) h = subst HeldInts q (held n)
      ints (at_non_null p c) h = ints c h
      ints (a_list {o = o} c e) h = subst GotInts e (many_ints o (items_ints c h))
      ints (list_of_one {o = o} p c e) h = subst GotInts e (one_ints o (ints c h))
      ints no_list h = tt
      ints (an_integer {i} {s} {n} e) h = subst GotInts e (integer_read i s h (kinds n))
      ints (a_float {i} {s} {n} e) h = subst GotInts e (float_read i s (kinds n))
      ints (a_string {i} {s} {cs} {n} e) h = subst GotInts e (string_read i s cs (kinds n))
      ints (a_boolean {i} {b} {n} e) h = subst GotInts e (boolean_read i b (kinds n))
      ints (an_enum {i} {e = m} {n} q) h = subst GotInts q (enum_read i m (kinds n))
      ints (no_object q) h = tt
      ints (entry_repeated ds q a) h = tt
      ints (entry_unknown ds q a b) h = tt
      ints (an_object {o = o} ds q a b c e) h = subst GotInts e (fields_ints o (field_ints c h))

      items_ints : {vs : Values} {r : Ref} {o : Out Trees} → Items kinds vars vs r o → TokensAll Read vs → GotAll o
      items_ints no_items h = tt
      items_ints (item_refused c) h = tt
      items_ints (item_got {t = t} {o} c d e) h = subst GotAll e (also_ints t o (ints c h.0) (items_ints d h.1))

      field_ints : {i : At} {es : Entries} {ds : List Due} {o : Out Pairs} → InFields kinds vars i es ds o → TokensEntry Read es → GotPairs o
      field_ints no_fields h = tt
      field_ints (required_missing q l) h = tt
      field_ints (by_left_out q l c) h = field_ints c h
      field_ints (field_refused v q c) h = tt
      field_ints (field_got {es = es} {d} {t = t} {o} v q c f e) h = subst GotPairs e (pair_ints d.name t o (ints c (entry_tokens Read kinds vars es h d.name v q)) (field_ints f h))

  -- ---- what is due in a call

  abbrev TokensIf : Option Value → Type 0
  TokensIf none = Unit
  TokensIf (some v) = Tokens Read v

  abbrev TokensDefaults : List (At × Due) → Type 0
  TokensDefaults [] = Unit
  TokensDefaults (v ∷ vs) = TokensIf v.1.default × TokensDefaults vs

  due_ints : (vars : Name → Option Tree) → ((n : Name) → HeldInts (vars n)) → {es : Entries} {vs : List (At × Due)} {o : Out Pairs} → InDues kinds vars es vs o → TokensEntry Read es → TokensDefaults vs → GotPairs o
  unfolding Ints
  due_ints vars held no_dues h a = tt
  due_ints vars held (given_refused v q c) h a = tt
  due_ints vars held {es} (given_got {i} {d} {ds} {t} {o} v q c f e) h a =
      subst GotPairs e (pair_ints d.name t o (ints vars held c (entry_tokens Read kinds vars es h d.name v q)) (due_ints vars held f h a.1))
  due_ints vars held (default_refused v q x c) h a = tt
  due_ints vars held (default_got {i} {d} {ds} {t} {o} v q x c f e) h a =
      subst GotPairs e (pair_ints d.name t o (ints no_variables (λ n. tt) c (subst TokensIf x a.0)) (due_ints vars held f h a.1))
  due_ints vars held (due_missing q x l) h a = tt
  due_ints vars held (due_left_out q x l f) h a = due_ints vars held f h a.1

  variable_ints : {es : Entries} {vs : List (At × Due)} {o : Out Pairs} → CoercesVariables kinds es vs o → TokensEntry Read es → TokensDefaults vs → GotPairs o
  variable_ints (name_repeated_is q) h a = tt
  variable_ints (in_order q c) h a = due_ints no_variables (λ n. tt) c h a

  value_if : (b : Bool) (t : Tree) (m : Option Tree) → Ints P t → HeldInts m → HeldInts (cond b (some t) m)
  value_if true t m p h = p
  value_if false t m p h = h

  held_in : (ps : Pairs) → IntsPair P ps → (n : Name) → HeldInts (value_in ps n)
  unfolding Ints
  held_in no_pairs h n = tt
  held_in (pair m t ps) h n = value_if (same n m) t (value_in ps n) h.0 (held_in ps h.1 n)

  argument_ints : {given : Entries} {vs : List (At × Due)} {i : At} {es : Entries} {ds : List Due} {o : Out Tree} → CoercesArguments kinds given vs i es ds o →
      TokensEntry Read given → TokensDefaults vs → TokensEntry Read es → TokensDefaults (duly kinds ds i) → GotInts o
  argument_ints (variables_refused c) g a h b = tt
  argument_ints (argument_repeated ps c q) g a h b = tt
  argument_ints (argument_unknown ps c q x) g a h b = tt
  argument_ints (arguments {o = o} ps c q x f e) g a h b = subst GotInts e (fields_ints o (due_ints (value_in ps) (held_in ps (variable_ints c g a)) f h b))

-- ---- as they are cited

-- a token among the defaults of what is due
pub data DefaultToken (s : List ℕ) : List (At × Due) → Type 0 where
  of_this_default : {i : At} {d : Due} {vs : List (At × Due)} (v : Value) → d.default ≡ some v → HasToken s v → DefaultToken s ((i, d) ∷ vs)
  of_later_default : {u : At × Due} {vs : List (At × Due)} → DefaultToken s vs → DefaultToken s (u ∷ vs)

-- the number of 32 bits that bytes write, high byte first, as two's complement
abbrev bytes_from : ℕ → List ℕ → ℕ
bytes_from v [] = v
bytes_from v (b ∷ bs) = bytes_from (256 * v + b) bs

abbrev pub number_read : List ℕ → Signed
number_read bs = number_held (bytes_from 0 bs)

bytes_read : (x : ℕ) → bytes_from 0 (four_bytes x) ≡ x
bytes_read x = omega arith

-- the field of an Int: its tag, its length, and four bytes that hold the number that the token s writes
abbrev pub Holds33 : List ℕ → ℕ → Type 0
Holds33 s x = (encode (Bits x) ≡ 33 ∷ 0 ∷ 4 ∷ four_bytes x) × (number_read (four_bytes x) ≡ number_written s)

holds_33 : (s : List ℕ) (x : ℕ) → int_of s ≡ some x → Holds33 s x
unfolding encode int_of
holds_33 [] x q = let z : ◌≡◌ {A = ℕ} 0 1 = cc in absurd (omega (arith, z))
holds_33 (b ∷ bs) x q = (refl, ap number_held (bytes_read x) ∙ (int_number b bs x q).1)

-- all Ints of a tree, from each of them
mutual
  unfolding Ints

  all_ints : (P : ℕ → Type 0) (t : Tree) → ((x : ℕ) → HasInt x t → P x) → Ints P t
  all_ints P Null f = tt
  all_ints P (Bits x) f = f x the_int
  all_ints P (Decimal s) f = tt
  all_ints P (Text s) f = tt
  all_ints P (Truth b) f = tt
  all_ints P (Member n) f = tt
  all_ints P (Many ts) f = all_ints_all P ts (λ x h. f x (in_list h))
  all_ints P (Fields ps) f = all_ints_pair P ps (λ x h. f x (in_object h))
  all_ints P (Token s) f = tt

  all_ints_all : (P : ℕ → Type 0) (ts : Trees) → ((x : ℕ) → HasIntAll x ts → P x) → IntsAll P ts
  all_ints_all P no_more f = tt
  all_ints_all P (also t ts) f = (all_ints P t (λ x h. f x (in_this h)), all_ints_all P ts (λ x h. f x (in_later h)))

  all_ints_pair : (P : ℕ → Type 0) (ps : Pairs) → ((x : ℕ) → HasIntPair x ps → P x) → IntsPair P ps
  all_ints_pair P no_pairs f = tt
  all_ints_pair P (pair n t ps) f = (all_ints P t (λ x h. f x (in_this_pair h)), all_ints_pair P ps (λ x h. f x (in_later_pair h)))

-- an Int in what a variable holds
abbrev pub HeldInt : (Name → Option Tree) → ℕ → Type 0
HeldInt vars x = (n : Name) × (t : Tree) × (vars n ≡ some t) × HasInt x t

-- an Int that holds the number of a token that stands where `From` says
abbrev pub Written33 : (List ℕ → Type 0) → ℕ → Type 0
Written33 From x = (s : List ℕ) × From s × Holds33 s x

module _ (kinds : Name → Kind) where
  module _ (From : List ℕ → Type 0) where
    in_entries : (es : Entries) → ((s : List ℕ) → HasTokenEntry s es → From s) → TokensEntry (Read (Written33 From) kinds) es
    in_entries es f = tokens_entry (Read (Written33 From) kinds) es (λ s k y e. (s, f s k, holds_33 s y e))

    in_default : (i : At) (d : Due) (us : List (At × Due)) (m : Option Value) → d.default ≡ m → ((s : List ℕ) → DefaultToken s ((i, d) ∷ us) → From s) → TokensIf (Written33 From) kinds m
    in_default i d us none e f = tt
    in_default i d us (some v) e f = tokens (Read (Written33 From) kinds) v (λ s k y q. (s, f s (of_this_default v e k), holds_33 s y q))

    in_defaults : (us : List (At × Due)) → ((s : List ℕ) → DefaultToken s us → From s) → TokensDefaults (Written33 From) kinds us
    in_defaults [] f = tt
    in_defaults (u ∷ us) f = (in_default u.0 u.1 us u.1.default refl f, in_defaults us (λ s k. f s (of_later_default k)))

  -- a value at a type: an Int of its result is a token's of the value, or one that a variable held
  pub tag_33_of_a_value : (vars : Name → Option Tree) (v : Value) (r : Ref) (t : Tree) (x : ℕ) → Coerces kinds vars v r (Got t) → HasInt x t → HeldInt vars x ⊎ Written33 (λ s. HasToken s v) x
  tag_33_of_a_value vars v r t x c h = of_int P h (ints P kinds vars (λ n. held n (vars n) refl) c (tokens (Read P kinds) v (λ s k y e. inr (s, k, holds_33 s y e))))
    where
      P : ℕ → Type 0
      P y = HeldInt vars y ⊎ Written33 (λ s. HasToken s v) y

      held : (n : Name) (m : Option Tree) → vars n ≡ m → HeldInts P kinds m
      held n none e = tt
      held n (some u) e = all_ints P u (λ y k. inl (n, u, e, k))

  -- an operation's variables: a token's of the variables text, or of a default
  pub tag_33_of_variables : (es : Entries) (vs : List (At × Due)) (ps : Pairs) (x : ℕ) → CoercesVariables kinds es vs (Got ps) → HasInt x (Fields ps) →
      Written33 (λ s. HasTokenEntry s es ⊎ DefaultToken s vs) x
  unfolding Ints
  tag_33_of_variables es vs ps x c h =
      of_int (Written33 (λ s. HasTokenEntry s es ⊎ DefaultToken s vs)) h
      (variable_ints (Written33 (λ s. HasTokenEntry s es ⊎ DefaultToken s vs)) kinds c (in_entries (λ s. HasTokenEntry s es ⊎ DefaultToken s vs) es (λ s k. inl k))
      (in_defaults (λ s. HasTokenEntry s es ⊎ DefaultToken s vs) vs (λ s k. inr k)))

  -- a field's arguments: a token's of these or of their defaults, or of the variables
  pub tag_33_of_arguments : (given : Entries) (vs : List (At × Due)) (i : At) (es : Entries) (ds : List Due) (t : Tree) (x : ℕ) → CoercesArguments kinds given vs i es ds (Got t) → HasInt x t →
      Written33 (λ s. (HasTokenEntry s es ⊎ DefaultToken s (duly kinds ds i)) ⊎ (HasTokenEntry s given ⊎ DefaultToken s vs)) x
  tag_33_of_arguments given vs i es ds t x c h =
      of_int (Written33 F) h (argument_ints (Written33 F) kinds c (in_entries F given (λ s k. inr (inl k))) (in_defaults F vs (λ s k. inr (inr k))) (in_entries F es (λ s k. inl (inl k))) (in_defaults F (duly kinds ds i) (λ s k. inl (inr k))))
    where
      F : List ℕ → Type 0
      F s = (HasTokenEntry s es ⊎ DefaultToken s (duly kinds ds i)) ⊎ (HasTokenEntry s given ⊎ DefaultToken s vs)

  -- ---- nothing but an integer token at Int

  abbrev NoBits : Out Tree → Type 0
  NoBits (Got Null) = Unit
  NoBits (Got (Bits x)) = ⊥
  NoBits (Got (Decimal s)) = Unit
  NoBits (Got (Text s)) = Unit
  NoBits (Got (Truth b)) = Unit
  NoBits (Got (Member n)) = Unit
  NoBits (Got (Many ts)) = Unit
  NoBits (Got (Fields ps)) = Unit
  NoBits (Got (Token s)) = Unit
  NoBits (No i w) = Unit

  no_int : (t : Tree) → Ints (λ x. ⊥) t → NoBits (Got t)
  unfolding Ints
  no_int Null h = tt
  no_int (Bits x) h = h
  no_int (Decimal s) h = tt
  no_int (Text s) h = tt
  no_int (Truth b) h = tt
  no_int (Member n) h = tt
  no_int (Many ts) h = tt
  no_int (Fields ps) h = tt
  no_int (Token s) h = tt

  no_bits : (o : Out Tree) → GotInts (λ x. ⊥) kinds o → NoBits o
  no_bits (Got t) h = no_int t h
  no_bits (No i w) h = tt

  no_bits_fields : (o : Out Pairs) → NoBits (and_then o (λ ps. Got (Fields ps)))
  no_bits_fields (Got ps) = tt
  no_bits_fields (No i w) = tt

  object_no_bits : {vars : Name → Option Tree} {i : At} {es : Entries} {n : Name} {o : Out Tree} → Coerces kinds vars (object i es) (named n) o → NoBits o
  object_no_bits (no_object q) = tt
  object_no_bits (entry_repeated ds q a) = tt
  object_no_bits (entry_unknown ds q a b) = tt
  object_no_bits (an_object {o = o} ds q a b c e) = subst NoBits e (no_bits_fields o)

  -- the integer token of a value that is one
  abbrev IntegerAt : Value → Kind → ℕ → Type 0
  IntegerAt v k x = (i : At) × (s : List ℕ) × (v ≡ integer i s) × (k ≡ Int) × Holds33 s x

  at_kind : (i : At) (s : List ℕ) (x : ℕ) (k : Kind) → integer_at i s k ≡ Got (Bits x) → IntegerAt (integer i s) k x
  at_kind i s x Int q = (i, s, refl, refl, holds_33 s x (bits_in kinds no_variables i x (int_of s) q))
  at_kind i s x Float q = absurd (subst NoBits q (no_bits (in_range i Decimal (float_content true s)) (decimal_read (λ y. ⊥) kinds i (float_content true s))))
  at_kind i s x String q = absurd (subst NoBits q tt)
  at_kind i s x Boolean q = absurd (subst NoBits q tt)
  at_kind i s x ID q = absurd (subst NoBits q tt)
  at_kind i s x Own q = absurd (subst NoBits q tt)
  at_kind i s x Other q = absurd (subst NoBits q tt)
  at_kind i s x (Enum ms) q = absurd (subst NoBits q tt)
  at_kind i s x (Input ds) q = absurd (subst NoBits q tt)

  pub only_integers : (vars : Name → Option Tree) (v : Value) (n : Name) (x : ℕ) → plain_value v ≡ true → coerce kinds vars v (named n) ≡ Got (Bits x) → IntegerAt v (kinds n) x
  unfolding coerce
  only_integers vars (variable i m) n x p q = absurd (true≢false (sym p))
  only_integers vars (integer i s) n x p q = at_kind i s x (kinds n) q
  only_integers vars (float i s) n x p q = absurd (subst NoBits q (no_bits (float_at i s (kinds n)) (float_read (λ y. ⊥) kinds i s (kinds n))))
  only_integers vars (string i s cs) n x p q = absurd (subst NoBits q (no_bits (string_at i s cs (kinds n)) (string_read (λ y. ⊥) kinds i s cs (kinds n))))
  only_integers vars (boolean i b) n x p q = absurd (subst NoBits q (no_bits (boolean_at i b (kinds n)) (boolean_read (λ y. ⊥) kinds i b (kinds n))))
  only_integers vars (null i) n x p q = absurd (true≢false (sym p))
  only_integers vars (enum i m) n x p q = absurd (subst NoBits q (no_bits (enum_at i m (kinds n)) (enum_read (λ y. ⊥) kinds i m (kinds n))))
  only_integers vars (list i vs) n x p q = absurd (subst NoBits q tt)
  only_integers vars (object i es) n x p q = absurd (subst NoBits q (object_no_bits (coerces_has kinds vars (object i es) (named n))))
