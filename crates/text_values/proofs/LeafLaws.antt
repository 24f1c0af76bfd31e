-- Laws of values of one token: the machine reads them as the code does.
use mathlib.Core.Path.{◌≡◌, refl, sym, ap, ◌∙◌}
use mathlib.Core.Bool.{Bool, true, false, not, ◌&&◌}
use mathlib.Core.List.{List, [], ◌∷◌, Memᴰ}
use mathlib.Core.Logic.{◌≢◌}
use Prim.Native.Nat.{ℕ, suc, ◌+◌, ◌-◌, ◌≤◌, ◌<◌}
use native.Mathlib.Omega.{arith}
use lib.Dec.{T}
use lib.ListN.{length, take, drop}
use borrow.Author.Tests.{eq-eqb, ne_eqb}
use Rattle.std.specs.Prelude.{Result}
use Rattle.paper.specs.Grammar.{nt, tm, act}
use Rattle.paper.specs.Numbers.{most_rows, kind_integer, kind_float, kind_string, kind_boolean, kind_null, kind_enum, extra_true, extra_false}
use Rattle.paper.specs.Language.{Class, num_c, Terminal, the, name_but_literal, hits, row, kind, named, end, Part, Value, ConstValue, EnumValue, language, dollar, int, float, string, n_true, n_false, n_null, n_other, bracket_l, brace_l}
use Rattle.paper.specs.Tokens.{token, name_class}
use Rattle.paper.specs.Rows.{top}
use Rattle.paper.specs.Sizes.{Counts, kinded, over_counts, opens_level, closes_level}
use Rattle.paper.specs.declared.Refusal.TheVariants.{TooManyRows}
use Rattle.paper.specs.declared.Refusal.{Refusal}
use Rattle.paper.proofs.Lexing.{from}
use Rattle.paper_theory.proofs.FromLaws.{from_token}
use Rattle.paper.proofs.Machine.{fst, choose}
use Rattle.paper.proofs.Bools.{and_l}
use Rattle.paper_theory.proofs.Test.{all, implies, implies_out, all_at}
use Rattle.paper.proofs.Tables.{graphql, factored, all_c, at_c}
use Rattle.paper.proofs.Going.{Stack, st, go, halt}
use Rattle.text_scan.specs.Head.{head_of, kind_of, word_of, word_number, token_read}
use Rattle.text_scan.proofs.TokenLaws.{token_parts}
use Rattle.text_cursor.specs.declared.Cursor.{Cursor}
use Rattle.text_cursor.specs.Reader.{Ready, at, Said, no_going_of}
use Rattle.text_cursor.proofs.Steps.{token_of, front_token, by_kind, is, refuse, refuses, refuses_end}
use Rattle.text_cursor.proofs.Cells.{put, put_length, row_opens, name_told, row_ends}
use Rattle.text_leaves.specs.Stacks.{value_part}
use Rattle.text_leaves.specs.Marks.{Leaf, full, wrote, SaidScalar}
use Rattle.text_tokens.proofs.HeadLaws.{head_name}
use Rattle.text_leaves.proofs.MovedLaws.{moved_said}
use Rattle.text_values.proofs.StackSteps.{plain_hit, class_first, class_plain, class_rows}

-- the token that c looks at, of class k
abbrev pub LooksAt : List ℕ → Cursor → Class → Type 0
LooksAt s c k = from s c.stop ≡ token (token_of k c.start c.end) (from s c.end)

-- a value that is one token, without a name: its production, and what the machine does
abbrev pub literal : ℕ → ℕ → Terminal → Stack
literal K x w = act row ∷ act (kind K x) ∷ tm w ∷ act end ∷ []

-- with a name
abbrev pub enumeral : Stack
enumeral = act row ∷ act (kind kind_enum 0) ∷ act named ∷ nt EnumValue ∷ act end ∷ []

enum_in : Memᴰ (tm name_but_literal ∷ []) (factored EnumValue)
unfolding factored language
enum_in = Memᴰ.head refl

named_first : (k : Class) → T (plain_hit name_but_literal k) → T (fst graphql enumeral k)
named_first k h = implies_out (plain_hit name_but_literal k) (fst graphql enumeral k) (all_at (λ k. implies (plain_hit name_but_literal k) (fst graphql enumeral k)) all_c (num_c k) tt (at_c k)) h

-- a name that is no literal
abbrev enumeral_test : Class → Bool
enumeral_test k = is (kind_of n_other) (kind_of k) && (not (is (word_number n_true) (word_number k)) && (not (is (word_number n_false) (word_number k)) && not (is (word_number n_null) (word_number k))))

-- a kind of token that begins no value
abbrev no_value_test : ℕ → Bool
no_value_test x = not (is (kind_of n_other) x) && (not (is (kind_of int) x) && (not (is (kind_of float) x) && (not (is (kind_of string) x) && (not (is (kind_of dollar) x) && (not (is (kind_of bracket_l) x) && not (is (kind_of brace_l) x))))))

no_test : {x : ℕ} → x ≢ kind_of n_other → x ≢ kind_of int → x ≢ kind_of float → x ≢ kind_of string → x ≢ kind_of dollar → x ≢ kind_of bracket_l → x ≢ kind_of brace_l → T (no_value_test x)
no_test {x} n i f s d l o = rw (ne_eqb x _ n, ne_eqb x _ i, ne_eqb x _ f, ne_eqb x _ s, ne_eqb x _ d, ne_eqb x _ l, ne_eqb x _ o) tt

is_t : (x : ℕ) → T (is x x)
is_t x = rw (eq-eqb x x refl) tt

module _ (s rows : List ℕ) (c : Cursor) (parent : ℕ) (ready : Ready s rows c parent) (k : Class) (l : LooksAt s c k) (p : Part) where
  lies : (c.stop < c.end) × (c.end ≤ length s)
  lies = let z = from_token s c.stop (token_of k c.start c.end) (from s c.end) ready.within l in (omega (arith, z.0, z.1), z.2)

  -- a row of one token that the machine writes, and that the code writes too
  module _ (K m z x : ℕ)
      (goes : c.rows < most_rows → (σ : Stack) (o : List ℕ) (left : ℕ) (q : Counts) → top o ≡ parent → over_counts q ≡ false →
      at s rows c o left q (nt p ∷ σ) ≡ go (st (put rows c.rows K c.start c.end parent m z x) (c.rows + 1) o c.end left q) σ (from s c.end))
      (halts : c.rows ≡ most_rows → (σ : Stack) (o : List ℕ) (left : ℕ) (q : Counts) → top o ≡ parent → over_counts q ≡ false → at s rows c o left q (nt p ∷ σ) ≡ halt (TooManyRows c.start)) where
    leaf_said : (left : ℕ) (rows' : List ℕ) (r : Result Cursor Refusal) → Leaf s rows rows' c parent K m z x r → Said 1 s rows rows' c parent left (nt p ∷ []) r
    leaf_said left rows' r (full e q) = rw q (λ σ o y h f. halts e σ o left y h f)
    leaf_said left rows' r (wrote e u q) =
        moved_said 1 s rows rows' c parent left (nt p ∷ []) c.end (c.rows + 1)
        (rw u (put_length rows c.rows K c.start c.end parent m z x ∙ ready.size)) lies.1 (omega arith) (omega (arith, lies.0))
        (λ σ o y h f. rw u (goes e σ o left y h f)) r q

  module _ (K x : ℕ) (w : Terminal) (mem : Memᴰ (literal K x w) (factored p)) (same : (q : Counts) → kinded K q ≡ q) (hit : T (plain_hit w k)) where
    begins : (σ : Stack) (o : List ℕ) (left : ℕ) (q : Counts) → top o ≡ parent →
        at s rows c o left q (nt p ∷ σ) ≡ go (st (put rows c.rows K c.start 0 parent 0 0 x) (c.rows + 1) (c.rows ∷ o) c.stop left q) (tm w ∷ act end ∷ σ) (token (token_of k c.start c.end) (from s c.end))
    begins σ o left q e =
        rw l (class_first rows c.rows o c.stop left q σ k c.start c.end (from s c.end) p mem (and_l (hits w k) (not (opens_level k) && not (closes_level k)) hit))
        ∙ row_opens rows c.rows o c.stop left q (tm w ∷ act end ∷ σ) (token (token_of k c.start c.end) (from s c.end)) K x
        ∙ rw (same q, e) refl

    pub literal_said : (left : ℕ) (rows' : List ℕ) (r : Result Cursor Refusal) → Leaf s rows rows' c parent K 0 0 x r → Said 1 s rows rows' c parent left (nt p ∷ []) r
    literal_said left rows' r =
        leaf_said K 0 0 x
        (λ u σ o left q e f.
        begins σ o left q e
        ∙ class_plain (put rows c.rows K c.start 0 parent 0 0 x) (c.rows + 1) (c.rows ∷ o) c.stop left q (act end ∷ σ) k c.start c.end (from s c.end) w hit (omega arith) f
        ∙ row_ends rows (c.rows + 1) o c.end left q σ (from s c.end) c.rows K c.start 0 parent 0 0 x)
        (λ u σ o left q e f.
        begins σ o left q e
        ∙ class_rows (put rows c.rows K c.start 0 parent 0 0 x) (c.rows + 1) (c.rows ∷ o) c.stop left q (act end ∷ σ) k c.start c.end (from s c.end) w hit (omega arith))
        left rows' r

  module _ (mem : Memᴰ enumeral (factored p)) (hit : T (plain_hit name_but_literal k)) where
    enum_begins : (σ : Stack) (o : List ℕ) (left : ℕ) (q : Counts) → top o ≡ parent →
        at s rows c o left q (nt p ∷ σ) ≡ go (st (put rows c.rows kind_enum c.start 0 parent c.start (c.end - c.start) 0) (c.rows + 1) (c.rows ∷ o) c.stop left q) (tm name_but_literal ∷ act end ∷ σ) (token (token_of k c.start c.end) (from s c.end))
    enum_begins σ o left q e =
        rw l (class_first rows c.rows o c.stop left q σ k c.start c.end (from s c.end) p mem (named_first k hit))
        ∙ row_opens rows c.rows o c.stop left q (act named ∷ nt EnumValue ∷ act end ∷ σ) (token (token_of k c.start c.end) (from s c.end)) kind_enum 0
        ∙ rw e (name_told rows (c.rows + 1) o c.stop left q (nt EnumValue ∷ act end ∷ σ) (token (token_of k c.start c.end) (from s c.end)) c.rows kind_enum c.start 0 parent 0 0 0)
        ∙ class_first (put rows c.rows kind_enum c.start 0 parent c.start (c.end - c.start) 0) (c.rows + 1) (c.rows ∷ o) c.stop left q (act end ∷ σ) k c.start c.end (from s c.end) EnumValue enum_in
        (and_l (hits name_but_literal k) (not (opens_level k) && not (closes_level k)) hit)

    pub enum_said : (left : ℕ) (rows' : List ℕ) (r : Result Cursor Refusal) → Leaf s rows rows' c parent kind_enum c.start (c.end - c.start) 0 r → Said 1 s rows rows' c parent left (nt p ∷ []) r
    enum_said left rows' r =
        leaf_said kind_enum c.start (c.end - c.start) 0
        (λ u σ o left q e f.
        enum_begins σ o left q e
        ∙ class_plain (put rows c.rows kind_enum c.start 0 parent c.start (c.end - c.start) 0) (c.rows + 1) (c.rows ∷ o) c.stop left q (act end ∷ σ) k c.start c.end (from s c.end) name_but_literal hit (omega arith) f
        ∙ row_ends rows (c.rows + 1) o c.end left q σ (from s c.end) c.rows kind_enum c.start 0 parent c.start (c.end - c.start) 0)
        (λ u σ o left q e f.
        enum_begins σ o left q e
        ∙ class_rows (put rows c.rows kind_enum c.start 0 parent c.start (c.end - c.start) 0) (c.rows + 1) (c.rows ∷ o) c.stop left q (act end ∷ σ) k c.start c.end (from s c.end) name_but_literal hit (omega arith))
        left rows' r

-- WHICH PRODUCTIONS of Value, constant or not
int_in : (b : Bool) → Memᴰ (literal kind_integer 0 (the int)) (factored (value_part b))
unfolding factored language
int_in true = Memᴰ.head refl
int_in false = Memᴰ.tail (Memᴰ.head refl)

float_in : (b : Bool) → Memᴰ (literal kind_float 0 (the float)) (factored (value_part b))
unfolding factored language
float_in true = Memᴰ.tail (Memᴰ.head refl)
float_in false = Memᴰ.tail (Memᴰ.tail (Memᴰ.head refl))

string_in : (b : Bool) → Memᴰ (literal kind_string 0 (the string)) (factored (value_part b))
unfolding factored language
string_in true = Memᴰ.tail (Memᴰ.tail (Memᴰ.head refl))
string_in false = Memᴰ.tail (Memᴰ.tail (Memᴰ.tail (Memᴰ.head refl)))

true_in : (b : Bool) → Memᴰ (literal kind_boolean extra_true (the n_true)) (factored (value_part b))
unfolding factored language
true_in true = Memᴰ.tail (Memᴰ.tail (Memᴰ.tail (Memᴰ.head refl)))
true_in false = Memᴰ.tail (Memᴰ.tail (Memᴰ.tail (Memᴰ.tail (Memᴰ.head refl))))

false_in : (b : Bool) → Memᴰ (literal kind_boolean extra_false (the n_false)) (factored (value_part b))
unfolding factored language
false_in true = Memᴰ.tail (Memᴰ.tail (Memᴰ.tail (Memᴰ.tail (Memᴰ.head refl))))
false_in false = Memᴰ.tail (Memᴰ.tail (Memᴰ.tail (Memᴰ.tail (Memᴰ.tail (Memᴰ.head refl)))))

null_in : (b : Bool) → Memᴰ (literal kind_null 0 (the n_null)) (factored (value_part b))
unfolding factored language
null_in true = Memᴰ.tail (Memᴰ.tail (Memᴰ.tail (Memᴰ.tail (Memᴰ.tail (Memᴰ.head refl)))))
null_in false = Memᴰ.tail (Memᴰ.tail (Memᴰ.tail (Memᴰ.tail (Memᴰ.tail (Memᴰ.tail (Memᴰ.head refl))))))

name_in_is : (b : Bool) → Memᴰ enumeral (factored (value_part b))
unfolding factored language
name_in_is true = Memᴰ.tail (Memᴰ.tail (Memᴰ.tail (Memᴰ.tail (Memᴰ.tail (Memᴰ.tail (Memᴰ.head refl))))))
name_in_is false = Memᴰ.tail (Memᴰ.tail (Memᴰ.tail (Memᴰ.tail (Memᴰ.tail (Memᴰ.tail (Memᴰ.tail (Memᴰ.head refl)))))))

-- the readers' laws, for a cursor, and rows that the code left
module _ (s rows rows' : List ℕ) (c : Cursor) (parent : ℕ) (ready : Ready s rows c parent) (r : Result Cursor Refusal) where
  -- a kind of token that is a literal
  module _ (x K : ℕ) (w : Terminal) (mem : (b : Bool) → Memᴰ (literal K 0 w) (factored (value_part b))) (same : (q : Counts) → kinded K q ≡ q) (e : c.kind ≡ suc x)
      (t : T (all (λ k. implies (is (suc x) (kind_of k)) (plain_hit w k)) all_c)) where
    token_said : Leaf s rows rows' c parent K 0 0 0 r → SaidScalar s rows rows' c parent r
    token_said h left b =
        let f = front_token s c ready.within ready.looks (λ z. let y : ⊥ = omega arith in y) in
        literal_said s rows c parent ready f.0 f.2 (value_part b) K 0 w (mem b) same (by_kind (plain_hit w) (is (suc x)) t f.0 (suc x) (f.1 ∙ e) (is_t (suc x))) left rows' r h

  pub int_said : c.kind ≡ kind_of int → Leaf s rows rows' c parent kind_integer 0 0 0 r → SaidScalar s rows rows' c parent r
  int_said e = token_said 1 kind_integer (the int) int_in (λ q. refl) e tt

  pub float_said : c.kind ≡ kind_of float → Leaf s rows rows' c parent kind_float 0 0 0 r → SaidScalar s rows rows' c parent r
  float_said e = token_said 2 kind_float (the float) float_in (λ q. refl) e tt

  pub string_said : c.kind ≡ kind_of string → Leaf s rows rows' c parent kind_string 0 0 0 r → SaidScalar s rows rows' c parent r
  string_said e = token_said 3 kind_string (the string) string_in (λ q. refl) e tt

  -- a name
  module _ (e : c.kind ≡ kind_of n_other) where
    abbrev class : Class
    class = name_class (take (c.end - c.start) (drop c.start s))

    looks : LooksAt s c class
    looks = head_name s c.stop c.start c.end ready.within (ready.looks ∙ ap (λ (x : ℕ). token_read x c.start c.end) e)

    class_kind : kind_of class ≡ 1
    class_kind = let z : token_read (kind_of class) c.start c.end ≡ token_read c.kind c.start c.end = ap head_of (sym looks) ∙ ready.looks in (token_parts _ _ _ _ z).0 ∙ e

    -- one of the words that are values
    module _ (x K X : ℕ) (w : Terminal) (mem : (b : Bool) → Memᴰ (literal K X w) (factored (value_part b))) (same : (q : Counts) → kinded K q ≡ q)
        (t : T (all (λ k. implies (is x (word_number k)) (plain_hit w k)) all_c)) where
      word_said : word_of (take (c.end - c.start) (drop c.start s)) ≡ x → Leaf s rows rows' c parent K 0 0 X r → SaidScalar s rows rows' c parent r
      unfolding word_of
      word_said v h left b =
          literal_said s rows c parent ready class looks (value_part b) K X w (mem b) same
          (implies_out (is x (word_number class)) (plain_hit w class) (all_at (λ k. implies (is x (word_number k)) (plain_hit w k)) all_c (num_c class) t (at_c class)) (rw v (is_t x))) left rows' r h

    pub true_said : word_of (take (c.end - c.start) (drop c.start s)) ≡ word_number n_true → Leaf s rows rows' c parent kind_boolean 0 0 extra_true r → SaidScalar s rows rows' c parent r
    true_said = word_said (word_number n_true) kind_boolean extra_true (the n_true) true_in (λ q. refl) tt

    pub false_said : word_of (take (c.end - c.start) (drop c.start s)) ≡ word_number n_false → Leaf s rows rows' c parent kind_boolean 0 0 extra_false r → SaidScalar s rows rows' c parent r
    false_said = word_said (word_number n_false) kind_boolean extra_false (the n_false) false_in (λ q. refl) tt

    pub null_said : word_of (take (c.end - c.start) (drop c.start s)) ≡ word_number n_null → Leaf s rows rows' c parent kind_null 0 0 0 r → SaidScalar s rows rows' c parent r
    null_said = word_said (word_number n_null) kind_null 0 (the n_null) null_in (λ q. refl) tt

    -- any other name
    pub name_said : word_of (take (c.end - c.start) (drop c.start s)) ≢ word_number n_true → word_of (take (c.end - c.start) (drop c.start s)) ≢ word_number n_false → word_of (take (c.end - c.start) (drop c.start s)) ≢ word_number n_null →
        Leaf s rows rows' c parent kind_enum c.start (c.end - c.start) 0 r → SaidScalar s rows rows' c parent r
    unfolding word_of
    name_said n6 n7 n8 h left b =
        enum_said s rows c parent ready class looks (value_part b) (name_in_is b)
        (implies_out (enumeral_test class) (plain_hit name_but_literal class) (all_at (λ k. implies (enumeral_test k) (plain_hit name_but_literal k)) all_c (num_c class) tt (at_c class))
        (rw (class_kind, ne_eqb (word_number class) 6 n6, ne_eqb (word_number class) 7 n7, ne_eqb (word_number class) 8 n8) tt)) left rows' r h

  -- a token with which no value begins
  pub no_value : c.kind ≢ kind_of n_other → c.kind ≢ kind_of int → c.kind ≢ kind_of float → c.kind ≢ kind_of string → c.kind ≢ kind_of dollar → c.kind ≢ kind_of bracket_l → c.kind ≢ kind_of brace_l →
      SaidScalar s rows rows c parent (no_going_of c)
  unfolding refuses refuses_end choose factored language
  no_value n1 n2 n3 n4 n7 n13 n15 left true = λ σ o q e f. refuse s c ready.within ready.looks rows c.rows o left q σ ConstValue no_value_test (no_test n1 n2 n3 n4 n7 n13 n15) tt tt
  no_value n1 n2 n3 n4 n7 n13 n15 left false = λ σ o q e f. refuse s c ready.within ready.looks rows c.rows o left q σ Value no_value_test (no_test n1 n2 n3 n4 n7 n13 n15) tt tt
