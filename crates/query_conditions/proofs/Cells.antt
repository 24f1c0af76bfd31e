-- What the innermost open row is while a document is derived, and the rows around it, symbol by symbol.
-- Type references stand right below fragments and variable definitions only, right behind a fragment definition's row stands one, and right below an
-- argument's row stands one row only, right behind it.
use mathlib.Core.Path.{◌≡◌, refl}
use mathlib.Core.Bool.{Bool, true, false, ◌&&◌, ◌||◌, not, cond}
use mathlib.Core.List.{List, [], ◌∷◌, ◌++◌}
use mathlib.Core.Option.{some}
use Prim.Native.Nat.{ℕ}
use lib.Dec.{eqb, leb}
use lib.ListN.{get_elem?}
use Rattle.paper.specs.Grammar.{Sym, nt, tm, act}
use Rattle.paper.specs.Numbers.{kind_operation, kind_fragment, kind_inline, kind_argument, kind_variable_definition, kind_type_reference, kind_variable, kind_object}
use Rattle.paper.specs.Language.{Terminal, Mark, row, kind, named, wrapper, wrap, end, Part}
use Rattle.paper.specs.Language.{Document, Definition+, Definition*, Definition, OperationDefinition, OperationType, OperationName?, Alias?, Alias, FragmentDefinition, FragmentName, TypeCondition?, TypeCondition, Value, EnumValue, TypeRef, NamedType, ListType, NonNullType, Name, SpreadRest, AliasRest, Bang?}
use Rattle.paper.proofs.Tables.{num_n}

abbrev pub Syms : Type 0
Syms = List (Sym Part Terminal Mark)

-- What an open row is.
pub data Cell : Type 0 where
  -- none at all, outside the outermost
  base : Cell
  -- without a kind yet: any; one that must become a type reference; one that must become a value, an argument's
  new asked given : Cell
  -- a fragment definition without its type reference; a row that may hold type references
  bare firm : Cell
  -- an argument without its value; with it
  lone full : Cell
  -- any other
  plain : Cell

-- the open rows, the innermost first; no cells: something is wrong
abbrev pub Stack : Type 0
Stack = List Cell

abbrev pub all_k : List Cell
all_k = base ∷ new ∷ asked ∷ given ∷ bare ∷ firm ∷ lone ∷ full ∷ plain ∷ []

abbrev pub num_k : Cell → ℕ
num_k base = 0
num_k new = 1
num_k asked = 2
num_k given = 3
num_k bare = 4
num_k firm = 5
num_k lone = 6
num_k full = 7
num_k plain = 8

pub at_k : (c : Cell) → get_elem? all_k (num_k c) ≡ some c
at_k base = refl
at_k new = refl
at_k asked = refl
at_k given = refl
at_k bare = refl
at_k firm = refl
at_k lone = refl
at_k full = refl
at_k plain = refl

abbrev among_cells : List Cell → Cell → Bool
among_cells [] c = false
among_cells (d ∷ ds) c = eqb (num_k d) (num_k c) || among_cells ds c

abbrev pub is_base : Cell → Bool
is_base c = among_cells (base ∷ []) c

abbrev pub is_bare : Cell → Bool
is_bare c = among_cells (bare ∷ []) c

abbrev pub is_firm : Cell → Bool
is_firm c = among_cells (firm ∷ []) c

abbrev pub is_lone : Cell → Bool
is_lone c = among_cells (lone ∷ []) c

abbrev pub is_plain : Cell → Bool
is_plain c = among_cells (plain ∷ []) c

abbrev pub is_asked : Cell → Bool
is_asked c = among_cells (asked ∷ []) c

-- nothing more need stand right behind it; its number is next to its parent's
abbrev pub grown : Cell → Bool
grown c = among_cells (base ∷ firm ∷ full ∷ plain ∷ []) c

abbrev pub near : Cell → Bool
near c = among_cells (asked ∷ given ∷ []) c

-- a row may begin right below it; it may end
abbrev pub bears : Cell → Bool
bears c = among_cells (base ∷ bare ∷ firm ∷ lone ∷ plain ∷ []) c

abbrev pub ends : Cell → Bool
ends c = among_cells (firm ∷ full ∷ plain ∷ []) c

-- the row that begins right below it, and what it is then itself
abbrev pub born : Cell → Cell
born base = new
born new = new
born asked = new
born given = new
born bare = asked
born firm = new
born lone = given
born full = new
born plain = new

abbrev pub under : Cell → Cell
under base = base
under new = new
under asked = asked
under given = given
under bare = firm
under firm = firm
under lone = full
under full = full
under plain = plain

-- the kinds of rows that may hold a type reference; of values
abbrev pub holder : ℕ → Bool
holder k = eqb k kind_fragment || (eqb k kind_inline || eqb k kind_variable_definition)

abbrev pub of_value : ℕ → Bool
of_value k = leb kind_variable k && leb k kind_object

-- what it says of the row's kind
abbrev pub test : Cell → ℕ → Bool
test base k = false
test new k = eqb k 0
test asked k = eqb k 0
test given k = eqb k 0
test bare k = eqb k kind_fragment
test firm k = holder k
test lone k = eqb k kind_argument
test full k = eqb k kind_argument
test plain k = not (eqb k 0) && not (eqb k kind_argument)

-- a kind for a row right below it
abbrev pub suits : Cell → ℕ → Bool
suits base k = eqb k kind_operation || eqb k kind_fragment
suits new k = false
suits asked k = false
suits given k = false
suits bare k = false
suits firm k = true
suits lone k = false
suits full k = false
suits plain k = not (eqb k kind_type_reference)

-- a kind for the row c right below d
abbrev pub allows : Cell → Cell → ℕ → Bool
allows base d k = false
allows new d k = suits d k
allows asked d k = is_firm d && eqb k kind_type_reference
allows given d k = of_value k
allows bare d k = false
allows firm d k = false
allows lone d k = false
allows full d k = false
allows plain d k = false

abbrev pub init : ℕ → Cell
init k = cond (eqb k kind_fragment) bare (cond (eqb k kind_inline || eqb k kind_variable_definition) firm (cond (eqb k kind_argument) lone plain))

abbrev pub takes : Cell → Cell → ℕ → Bool
takes c d k = allows c d k && test (init k) k

abbrev pub of_row : Stack → Stack
of_row [] = []
of_row (c ∷ σ) = cond (bears c) (born c ∷ (under c ∷ σ)) []

abbrev pub of_kind : ℕ → Stack → Stack
of_kind k [] = []
of_kind k (c ∷ []) = []
of_kind k (c ∷ (d ∷ σ)) = cond (takes c d k) (init k ∷ (d ∷ σ)) []

abbrev pub of_end : Stack → Stack
of_end [] = []
of_end (c ∷ σ) = cond (ends c) σ []

-- Parts: those without rows stand anywhere; where they stand in others, and what they leave.
abbrev pub is_among : List Part → Part → Bool
is_among [] n = false
is_among (m ∷ ms) n = eqb (num_n m) (num_n n) || is_among ms n

abbrev is_quiet : Part → Bool
is_quiet n = is_among (OperationName? ∷ Alias? ∷ Alias ∷ FragmentName ∷ EnumValue ∷ TypeRef ∷ NamedType ∷ ListType ∷ NonNullType ∷ Name ∷ AliasRest ∷ Bang? ∷ []) n

abbrev is_outer : Part → Bool
is_outer n = is_among (Document ∷ Definition+ ∷ Definition* ∷ Definition ∷ OperationDefinition ∷ OperationType ∷ FragmentDefinition ∷ []) n

abbrev pub fits : Part → Cell → Bool
fits n c =
    cond (is_quiet n) true
    (cond (is_outer n) (is_base c)
    (cond (is_among (SpreadRest ∷ []) n) false
    (is_firm c ||
    cond (is_among (TypeCondition ∷ []) n) (is_bare c)
    (cond (is_among (TypeCondition? ∷ []) n) false
    (is_plain c || (is_among (Value ∷ []) n && is_lone c))))))

abbrev pub after : Part → Cell → Stack
after n c = cond (is_among (OperationType ∷ []) n) (plain ∷ (c ∷ [])) (cond (is_among (TypeCondition ∷ Value ∷ []) n) (under c ∷ []) (c ∷ []))

abbrev of_part : Part → Stack → Stack
of_part n [] = []
of_part n (c ∷ σ) = cond (fits n c) (after n c ++ σ) []

abbrev pub step : Sym Part Terminal Mark → Stack → Stack
step (nt n) σ = of_part n σ
step (tm p) σ = σ
step (act row) σ = of_row σ
step (act (kind k x)) σ = of_kind k σ
step (act named) σ = σ
step (act wrapper) σ = σ
step (act (wrap w)) σ = σ
step (act end) σ = of_end σ

abbrev pub run : Syms → Stack → Stack
run [] σ = σ
run (x ∷ ss) σ = run ss (step x σ)

-- in the end no row is open
abbrev pub settled : Stack → Bool
settled [] = false
settled (c ∷ []) = is_base c
settled (c ∷ (d ∷ σ)) = false
