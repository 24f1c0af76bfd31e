-- The same language, left-factored for the machine (seven parts differ from the draft's), and the machine's tables.
-- They are tested in `Checked` of crate `paper_theory` and trusted for nothing.
use mathlib.Core.Bool.{Bool, true, false}
use mathlib.Core.List.{List, [], ◌∷◌}
use mathlib.Core.Path.{◌≡◌, refl}
use mathlib.Core.Option.{some}
use Prim.Native.Nat.{ℕ}
use lib.Dec.{eqb}
use lib.ListN.{get_elem?}
use Rattle.paper.specs.Grammar.{Sym, nt, act}
use Rattle.paper.proofs.Machine.{Tables}
use Rattle.paper.specs.Numbers.{kind_field}
use Rattle.paper.specs.Language.{Class, num_c, one_of, Terminal, hits, Mark, row, kind, named, end, Part, t, language}
use Rattle.paper.specs.Language.{bang, dollar, paren_l, paren_r, spread, colon, equals, at_sign, bracket_l, bracket_r, brace_l, bar, brace_r, n_query, n_mutation, n_subscription, n_fragment, n_on, n_true, n_false, n_null, n_other, int, float, string}
use Rattle.paper.specs.Language.{Document, Definition+, Definition*, Definition, OperationDefinition, OperationType, OperationName?, SelectionSet, Selection+, Selection*, Selection, Field, Alias?, Alias, SelectionSet?, Arguments?, Arguments, Argument+, Argument*, Argument, FragmentSpread, FragmentDefinition, FragmentName, TypeCondition?, TypeCondition, InlineFragment, Value, ListValue, Value+, Value*, ObjectValue, ObjectField+, ObjectField*, ObjectField, ConstValue, ConstListValue, ConstValue+, ConstValue*, ConstObjectValue, ConstObjectField+, ConstObjectField*, ConstObjectField, EnumValue, VariableDefinitions?, VariableDefinitions, VariableDefinition+, VariableDefinition*, VariableDefinition, DefaultValue?, DefaultValue, TypeRef, NamedType, ListType, NonNullType, Directives?, Directives, Directive+, Directive*, Directive, Name, VariablesText, SpreadRest, AliasRest, Bang?}

abbrev pub all_c : List Class
all_c = bang ∷ dollar ∷ paren_l ∷ paren_r ∷ spread ∷ colon ∷ equals ∷ at_sign ∷ bracket_l ∷ bracket_r ∷ brace_l ∷ bar ∷ brace_r ∷ n_query ∷ n_mutation ∷ n_subscription ∷ n_fragment ∷ n_on ∷ n_true ∷ n_false ∷ n_null ∷ n_other ∷ int ∷ float ∷ string ∷ []

pub at_c : (c : Class) → get_elem? all_c (num_c c) ≡ some c
at_c bang = refl
at_c dollar = refl
at_c paren_l = refl
at_c paren_r = refl
at_c spread = refl
at_c colon = refl
at_c equals = refl
at_c at_sign = refl
at_c bracket_l = refl
at_c bracket_r = refl
at_c brace_l = refl
at_c bar = refl
at_c brace_r = refl
at_c n_query = refl
at_c n_mutation = refl
at_c n_subscription = refl
at_c n_fragment = refl
at_c n_on = refl
at_c n_true = refl
at_c n_false = refl
at_c n_null = refl
at_c n_other = refl
at_c int = refl
at_c float = refl
at_c string = refl

abbrev pub num_n : Part → ℕ
num_n Document = 0
num_n Definition+ = 1
num_n Definition* = 2
num_n Definition = 3
num_n OperationDefinition = 4
num_n OperationType = 5
num_n OperationName? = 6
num_n SelectionSet = 7
num_n Selection+ = 8
num_n Selection* = 9
num_n Selection = 10
num_n Field = 11
num_n Alias? = 12
num_n Alias = 13
num_n SelectionSet? = 14
num_n Arguments? = 15
num_n Arguments = 16
num_n Argument+ = 17
num_n Argument* = 18
num_n Argument = 19
num_n FragmentSpread = 20
num_n FragmentDefinition = 21
num_n FragmentName = 22
num_n TypeCondition? = 23
num_n TypeCondition = 24
num_n InlineFragment = 25
num_n Value = 26
num_n ListValue = 27
num_n Value+ = 28
num_n Value* = 29
num_n ObjectValue = 30
num_n ObjectField+ = 31
num_n ObjectField* = 32
num_n ObjectField = 33
num_n ConstValue = 34
num_n ConstListValue = 35
num_n ConstValue+ = 36
num_n ConstValue* = 37
num_n ConstObjectValue = 38
num_n ConstObjectField+ = 39
num_n ConstObjectField* = 40
num_n ConstObjectField = 41
num_n EnumValue = 42
num_n VariableDefinitions? = 43
num_n VariableDefinitions = 44
num_n VariableDefinition+ = 45
num_n VariableDefinition* = 46
num_n VariableDefinition = 47
num_n DefaultValue? = 48
num_n DefaultValue = 49
num_n TypeRef = 50
num_n NamedType = 51
num_n ListType = 52
num_n NonNullType = 53
num_n Directives? = 54
num_n Directives = 55
num_n Directive+ = 56
num_n Directive* = 57
num_n Directive = 58
num_n Name = 59
num_n VariablesText = 60
num_n SpreadRest = 61
num_n AliasRest = 62
num_n Bang? = 63

abbrev pub all_n : List Part
all_n = Document ∷ Definition+ ∷ Definition* ∷ Definition ∷ OperationDefinition ∷ OperationType ∷ OperationName? ∷ SelectionSet ∷ Selection+ ∷ Selection* ∷ Selection ∷ Field ∷ Alias? ∷ Alias ∷ SelectionSet? ∷ Arguments? ∷ Arguments ∷ Argument+ ∷ Argument* ∷ Argument ∷ FragmentSpread ∷ FragmentDefinition ∷ FragmentName ∷ TypeCondition? ∷ TypeCondition ∷ InlineFragment ∷ Value ∷ ListValue ∷ Value+ ∷ Value* ∷ ObjectValue ∷ ObjectField+ ∷ ObjectField* ∷ ObjectField ∷ ConstValue ∷ ConstListValue ∷ ConstValue+ ∷ ConstValue* ∷ ConstObjectValue ∷ ConstObjectField+ ∷ ConstObjectField* ∷ ConstObjectField ∷ EnumValue ∷ VariableDefinitions? ∷ VariableDefinitions ∷ VariableDefinition+ ∷ VariableDefinition* ∷ VariableDefinition ∷ DefaultValue? ∷ DefaultValue ∷ TypeRef ∷ NamedType ∷ ListType ∷ NonNullType ∷ Directives? ∷ Directives ∷ Directive+ ∷ Directive* ∷ Directive ∷ Name ∷ VariablesText ∷ SpreadRest ∷ AliasRest ∷ Bang? ∷ []

pub at_n : (n : Part) → get_elem? all_n (num_n n) ≡ some n
at_n Document = refl
at_n Definition+ = refl
at_n Definition* = refl
at_n Definition = refl
at_n OperationDefinition = refl
at_n OperationType = refl
at_n OperationName? = refl
at_n SelectionSet = refl
at_n Selection+ = refl
at_n Selection* = refl
at_n Selection = refl
at_n Field = refl
at_n Alias? = refl
at_n Alias = refl
at_n SelectionSet? = refl
at_n Arguments? = refl
at_n Arguments = refl
at_n Argument+ = refl
at_n Argument* = refl
at_n Argument = refl
at_n FragmentSpread = refl
at_n FragmentDefinition = refl
at_n FragmentName = refl
at_n TypeCondition? = refl
at_n TypeCondition = refl
at_n InlineFragment = refl
at_n Value = refl
at_n ListValue = refl
at_n Value+ = refl
at_n Value* = refl
at_n ObjectValue = refl
at_n ObjectField+ = refl
at_n ObjectField* = refl
at_n ObjectField = refl
at_n ConstValue = refl
at_n ConstListValue = refl
at_n ConstValue+ = refl
at_n ConstValue* = refl
at_n ConstObjectValue = refl
at_n ConstObjectField+ = refl
at_n ConstObjectField* = refl
at_n ConstObjectField = refl
at_n EnumValue = refl
at_n VariableDefinitions? = refl
at_n VariableDefinitions = refl
at_n VariableDefinition+ = refl
at_n VariableDefinition* = refl
at_n VariableDefinition = refl
at_n DefaultValue? = refl
at_n DefaultValue = refl
at_n TypeRef = refl
at_n NamedType = refl
at_n ListType = refl
at_n NonNullType = refl
at_n Directives? = refl
at_n Directives = refl
at_n Directive+ = refl
at_n Directive* = refl
at_n Directive = refl
at_n Name = refl
at_n VariablesText = refl
at_n SpreadRest = refl
at_n AliasRest = refl
at_n Bang? = refl

-- the parts whose productions are left-factored
abbrev pub Rules : Type 0
Rules = List (List (Sym Part Terminal Mark))

abbrev pub changed : List (Part × Rules)
changed =
    (Selection, (nt Field ∷ []) ∷ (act row ∷ t spread ∷ nt SpreadRest ∷ []) ∷ []) ∷
    (Field, (act row ∷ act (kind kind_field 0) ∷ act named ∷ nt Name ∷ nt AliasRest ∷ nt Arguments? ∷ nt Directives? ∷ nt SelectionSet? ∷ act end ∷ []) ∷ []) ∷
    (ListValue, (t bracket_l ∷ nt Value* ∷ t bracket_r ∷ []) ∷ []) ∷
    (ObjectValue, (t brace_l ∷ nt ObjectField* ∷ t brace_r ∷ []) ∷ []) ∷
    (ConstListValue, (t bracket_l ∷ nt ConstValue* ∷ t bracket_r ∷ []) ∷ []) ∷
    (ConstObjectValue, (t brace_l ∷ nt ConstObjectField* ∷ t brace_r ∷ []) ∷ []) ∷
    (TypeRef, (nt NamedType ∷ nt Bang? ∷ []) ∷ (nt ListType ∷ nt Bang? ∷ []) ∷ []) ∷
    []

abbrev pub same_n : Part → Part → Bool
same_n m n = eqb (num_n m) (num_n n)

abbrev pub or_that : Bool → Rules → Rules → Rules
or_that true r s = r
or_that false r s = s

abbrev pub look : List (Part × Rules) → Part → Rules → Rules
look [] n s = s
look (e ∷ es) n s = or_that (same_n e.0 n) e.1 (look es n s)

unfoldable pub factored : Part → Rules
factored n = look changed n (language n)

-- what may follow a part
abbrev pub followers : Part → List Class
followers Document = []
followers Definition+ = []
followers Definition* = []
followers Definition = brace_l ∷ n_query ∷ n_mutation ∷ n_subscription ∷ n_fragment ∷ []
followers OperationDefinition = brace_l ∷ n_query ∷ n_mutation ∷ n_subscription ∷ n_fragment ∷ []
followers OperationType = paren_l ∷ at_sign ∷ brace_l ∷ n_query ∷ n_mutation ∷ n_subscription ∷ n_fragment ∷ n_on ∷ n_true ∷ n_false ∷ n_null ∷ n_other ∷ []
followers OperationName? = paren_l ∷ at_sign ∷ brace_l ∷ []
followers SelectionSet = spread ∷ brace_l ∷ brace_r ∷ n_query ∷ n_mutation ∷ n_subscription ∷ n_fragment ∷ n_on ∷ n_true ∷ n_false ∷ n_null ∷ n_other ∷ []
followers Selection+ = brace_r ∷ []
followers Selection* = brace_r ∷ []
followers Selection = spread ∷ brace_r ∷ n_query ∷ n_mutation ∷ n_subscription ∷ n_fragment ∷ n_on ∷ n_true ∷ n_false ∷ n_null ∷ n_other ∷ []
followers Field = spread ∷ brace_r ∷ n_query ∷ n_mutation ∷ n_subscription ∷ n_fragment ∷ n_on ∷ n_true ∷ n_false ∷ n_null ∷ n_other ∷ []
followers Alias? = []
followers Alias = []
followers SelectionSet? = spread ∷ brace_r ∷ n_query ∷ n_mutation ∷ n_subscription ∷ n_fragment ∷ n_on ∷ n_true ∷ n_false ∷ n_null ∷ n_other ∷ []
followers Arguments? = spread ∷ at_sign ∷ brace_l ∷ brace_r ∷ n_query ∷ n_mutation ∷ n_subscription ∷ n_fragment ∷ n_on ∷ n_true ∷ n_false ∷ n_null ∷ n_other ∷ []
followers Arguments = spread ∷ at_sign ∷ brace_l ∷ brace_r ∷ n_query ∷ n_mutation ∷ n_subscription ∷ n_fragment ∷ n_on ∷ n_true ∷ n_false ∷ n_null ∷ n_other ∷ []
followers Argument+ = paren_r ∷ []
followers Argument* = paren_r ∷ []
followers Argument = paren_r ∷ n_query ∷ n_mutation ∷ n_subscription ∷ n_fragment ∷ n_on ∷ n_true ∷ n_false ∷ n_null ∷ n_other ∷ []
followers FragmentSpread = []
followers FragmentDefinition = brace_l ∷ n_query ∷ n_mutation ∷ n_subscription ∷ n_fragment ∷ []
followers FragmentName = spread ∷ at_sign ∷ brace_r ∷ n_query ∷ n_mutation ∷ n_subscription ∷ n_fragment ∷ n_on ∷ n_true ∷ n_false ∷ n_null ∷ n_other ∷ []
followers TypeCondition? = at_sign ∷ brace_l ∷ []
followers TypeCondition = at_sign ∷ brace_l ∷ []
followers InlineFragment = []
followers Value = dollar ∷ paren_r ∷ bracket_l ∷ bracket_r ∷ brace_l ∷ brace_r ∷ n_query ∷ n_mutation ∷ n_subscription ∷ n_fragment ∷ n_on ∷ n_true ∷ n_false ∷ n_null ∷ n_other ∷ int ∷ float ∷ string ∷ []
followers ListValue = dollar ∷ paren_r ∷ bracket_l ∷ bracket_r ∷ brace_l ∷ brace_r ∷ n_query ∷ n_mutation ∷ n_subscription ∷ n_fragment ∷ n_on ∷ n_true ∷ n_false ∷ n_null ∷ n_other ∷ int ∷ float ∷ string ∷ []
followers Value+ = []
followers Value* = bracket_r ∷ []
followers ObjectValue = dollar ∷ paren_r ∷ bracket_l ∷ bracket_r ∷ brace_l ∷ brace_r ∷ n_query ∷ n_mutation ∷ n_subscription ∷ n_fragment ∷ n_on ∷ n_true ∷ n_false ∷ n_null ∷ n_other ∷ int ∷ float ∷ string ∷ []
followers ObjectField+ = []
followers ObjectField* = brace_r ∷ []
followers ObjectField = brace_r ∷ n_query ∷ n_mutation ∷ n_subscription ∷ n_fragment ∷ n_on ∷ n_true ∷ n_false ∷ n_null ∷ n_other ∷ []
followers ConstValue = dollar ∷ paren_r ∷ bracket_l ∷ bracket_r ∷ brace_l ∷ brace_r ∷ n_query ∷ n_mutation ∷ n_subscription ∷ n_fragment ∷ n_on ∷ n_true ∷ n_false ∷ n_null ∷ n_other ∷ int ∷ float ∷ string ∷ []
followers ConstListValue = dollar ∷ paren_r ∷ bracket_l ∷ bracket_r ∷ brace_l ∷ brace_r ∷ n_query ∷ n_mutation ∷ n_subscription ∷ n_fragment ∷ n_on ∷ n_true ∷ n_false ∷ n_null ∷ n_other ∷ int ∷ float ∷ string ∷ []
followers ConstValue+ = []
followers ConstValue* = bracket_r ∷ []
followers ConstObjectValue = dollar ∷ paren_r ∷ bracket_l ∷ bracket_r ∷ brace_l ∷ brace_r ∷ n_query ∷ n_mutation ∷ n_subscription ∷ n_fragment ∷ n_on ∷ n_true ∷ n_false ∷ n_null ∷ n_other ∷ int ∷ float ∷ string ∷ []
followers ConstObjectField+ = []
followers ConstObjectField* = brace_r ∷ []
followers ConstObjectField = brace_r ∷ n_query ∷ n_mutation ∷ n_subscription ∷ n_fragment ∷ n_on ∷ n_true ∷ n_false ∷ n_null ∷ n_other ∷ []
followers EnumValue = dollar ∷ paren_r ∷ bracket_l ∷ bracket_r ∷ brace_l ∷ brace_r ∷ n_query ∷ n_mutation ∷ n_subscription ∷ n_fragment ∷ n_on ∷ n_true ∷ n_false ∷ n_null ∷ n_other ∷ int ∷ float ∷ string ∷ []
followers VariableDefinitions? = at_sign ∷ brace_l ∷ []
followers VariableDefinitions = at_sign ∷ brace_l ∷ []
followers VariableDefinition+ = paren_r ∷ []
followers VariableDefinition* = paren_r ∷ []
followers VariableDefinition = dollar ∷ paren_r ∷ []
followers DefaultValue? = dollar ∷ paren_r ∷ []
followers DefaultValue = dollar ∷ paren_r ∷ []
followers TypeRef = dollar ∷ paren_r ∷ equals ∷ bracket_r ∷ []
followers NamedType = bang ∷ dollar ∷ paren_r ∷ equals ∷ at_sign ∷ bracket_r ∷ brace_l ∷ []
followers ListType = bang ∷ dollar ∷ paren_r ∷ equals ∷ bracket_r ∷ []
followers NonNullType = []
followers Directives? = spread ∷ brace_l ∷ brace_r ∷ n_query ∷ n_mutation ∷ n_subscription ∷ n_fragment ∷ n_on ∷ n_true ∷ n_false ∷ n_null ∷ n_other ∷ []
followers Directives = spread ∷ brace_l ∷ brace_r ∷ n_query ∷ n_mutation ∷ n_subscription ∷ n_fragment ∷ n_on ∷ n_true ∷ n_false ∷ n_null ∷ n_other ∷ []
followers Directive+ = spread ∷ brace_l ∷ brace_r ∷ n_query ∷ n_mutation ∷ n_subscription ∷ n_fragment ∷ n_on ∷ n_true ∷ n_false ∷ n_null ∷ n_other ∷ []
followers Directive* = spread ∷ brace_l ∷ brace_r ∷ n_query ∷ n_mutation ∷ n_subscription ∷ n_fragment ∷ n_on ∷ n_true ∷ n_false ∷ n_null ∷ n_other ∷ []
followers Directive = spread ∷ at_sign ∷ brace_l ∷ brace_r ∷ n_query ∷ n_mutation ∷ n_subscription ∷ n_fragment ∷ n_on ∷ n_true ∷ n_false ∷ n_null ∷ n_other ∷ []
followers Name = bang ∷ dollar ∷ paren_l ∷ paren_r ∷ spread ∷ colon ∷ equals ∷ at_sign ∷ bracket_l ∷ bracket_r ∷ brace_l ∷ brace_r ∷ n_query ∷ n_mutation ∷ n_subscription ∷ n_fragment ∷ n_on ∷ n_true ∷ n_false ∷ n_null ∷ n_other ∷ int ∷ float ∷ string ∷ []
followers VariablesText = []
followers SpreadRest = spread ∷ brace_r ∷ n_query ∷ n_mutation ∷ n_subscription ∷ n_fragment ∷ n_on ∷ n_true ∷ n_false ∷ n_null ∷ n_other ∷ []
followers AliasRest = paren_l ∷ spread ∷ at_sign ∷ brace_l ∷ brace_r ∷ n_query ∷ n_mutation ∷ n_subscription ∷ n_fragment ∷ n_on ∷ n_true ∷ n_false ∷ n_null ∷ n_other ∷ []
followers Bang? = dollar ∷ paren_r ∷ equals ∷ bracket_r ∷ []

abbrev pub firsts : Part → List Class
firsts Document = brace_l ∷ n_query ∷ n_mutation ∷ n_subscription ∷ n_fragment ∷ []
firsts Definition+ = brace_l ∷ n_query ∷ n_mutation ∷ n_subscription ∷ n_fragment ∷ []
firsts Definition* = brace_l ∷ n_query ∷ n_mutation ∷ n_subscription ∷ n_fragment ∷ []
firsts Definition = brace_l ∷ n_query ∷ n_mutation ∷ n_subscription ∷ n_fragment ∷ []
firsts OperationDefinition = brace_l ∷ n_query ∷ n_mutation ∷ n_subscription ∷ []
firsts OperationType = n_query ∷ n_mutation ∷ n_subscription ∷ []
firsts OperationName? = n_query ∷ n_mutation ∷ n_subscription ∷ n_fragment ∷ n_on ∷ n_true ∷ n_false ∷ n_null ∷ n_other ∷ []
firsts SelectionSet = brace_l ∷ []
firsts Selection+ = spread ∷ n_query ∷ n_mutation ∷ n_subscription ∷ n_fragment ∷ n_on ∷ n_true ∷ n_false ∷ n_null ∷ n_other ∷ []
firsts Selection* = spread ∷ n_query ∷ n_mutation ∷ n_subscription ∷ n_fragment ∷ n_on ∷ n_true ∷ n_false ∷ n_null ∷ n_other ∷ []
firsts Selection = spread ∷ n_query ∷ n_mutation ∷ n_subscription ∷ n_fragment ∷ n_on ∷ n_true ∷ n_false ∷ n_null ∷ n_other ∷ []
firsts Field = n_query ∷ n_mutation ∷ n_subscription ∷ n_fragment ∷ n_on ∷ n_true ∷ n_false ∷ n_null ∷ n_other ∷ []
firsts Alias? = n_query ∷ n_mutation ∷ n_subscription ∷ n_fragment ∷ n_on ∷ n_true ∷ n_false ∷ n_null ∷ n_other ∷ []
firsts Alias = n_query ∷ n_mutation ∷ n_subscription ∷ n_fragment ∷ n_on ∷ n_true ∷ n_false ∷ n_null ∷ n_other ∷ []
firsts SelectionSet? = brace_l ∷ []
firsts Arguments? = paren_l ∷ []
firsts Arguments = paren_l ∷ []
firsts Argument+ = n_query ∷ n_mutation ∷ n_subscription ∷ n_fragment ∷ n_on ∷ n_true ∷ n_false ∷ n_null ∷ n_other ∷ []
firsts Argument* = n_query ∷ n_mutation ∷ n_subscription ∷ n_fragment ∷ n_on ∷ n_true ∷ n_false ∷ n_null ∷ n_other ∷ []
firsts Argument = n_query ∷ n_mutation ∷ n_subscription ∷ n_fragment ∷ n_on ∷ n_true ∷ n_false ∷ n_null ∷ n_other ∷ []
firsts FragmentSpread = spread ∷ []
firsts FragmentDefinition = n_fragment ∷ []
firsts FragmentName = n_query ∷ n_mutation ∷ n_subscription ∷ n_fragment ∷ n_true ∷ n_false ∷ n_null ∷ n_other ∷ []
firsts TypeCondition? = n_on ∷ []
firsts TypeCondition = n_on ∷ []
firsts InlineFragment = spread ∷ []
firsts Value = dollar ∷ bracket_l ∷ brace_l ∷ n_query ∷ n_mutation ∷ n_subscription ∷ n_fragment ∷ n_on ∷ n_true ∷ n_false ∷ n_null ∷ n_other ∷ int ∷ float ∷ string ∷ []
firsts ListValue = bracket_l ∷ []
firsts Value+ = dollar ∷ bracket_l ∷ brace_l ∷ n_query ∷ n_mutation ∷ n_subscription ∷ n_fragment ∷ n_on ∷ n_true ∷ n_false ∷ n_null ∷ n_other ∷ int ∷ float ∷ string ∷ []
firsts Value* = dollar ∷ bracket_l ∷ brace_l ∷ n_query ∷ n_mutation ∷ n_subscription ∷ n_fragment ∷ n_on ∷ n_true ∷ n_false ∷ n_null ∷ n_other ∷ int ∷ float ∷ string ∷ []
firsts ObjectValue = brace_l ∷ []
firsts ObjectField+ = n_query ∷ n_mutation ∷ n_subscription ∷ n_fragment ∷ n_on ∷ n_true ∷ n_false ∷ n_null ∷ n_other ∷ []
firsts ObjectField* = n_query ∷ n_mutation ∷ n_subscription ∷ n_fragment ∷ n_on ∷ n_true ∷ n_false ∷ n_null ∷ n_other ∷ []
firsts ObjectField = n_query ∷ n_mutation ∷ n_subscription ∷ n_fragment ∷ n_on ∷ n_true ∷ n_false ∷ n_null ∷ n_other ∷ []
firsts ConstValue = bracket_l ∷ brace_l ∷ n_query ∷ n_mutation ∷ n_subscription ∷ n_fragment ∷ n_on ∷ n_true ∷ n_false ∷ n_null ∷ n_other ∷ int ∷ float ∷ string ∷ []
firsts ConstListValue = bracket_l ∷ []
firsts ConstValue+ = bracket_l ∷ brace_l ∷ n_query ∷ n_mutation ∷ n_subscription ∷ n_fragment ∷ n_on ∷ n_true ∷ n_false ∷ n_null ∷ n_other ∷ int ∷ float ∷ string ∷ []
firsts ConstValue* = bracket_l ∷ brace_l ∷ n_query ∷ n_mutation ∷ n_subscription ∷ n_fragment ∷ n_on ∷ n_true ∷ n_false ∷ n_null ∷ n_other ∷ int ∷ float ∷ string ∷ []
firsts ConstObjectValue = brace_l ∷ []
firsts ConstObjectField+ = n_query ∷ n_mutation ∷ n_subscription ∷ n_fragment ∷ n_on ∷ n_true ∷ n_false ∷ n_null ∷ n_other ∷ []
firsts ConstObjectField* = n_query ∷ n_mutation ∷ n_subscription ∷ n_fragment ∷ n_on ∷ n_true ∷ n_false ∷ n_null ∷ n_other ∷ []
firsts ConstObjectField = n_query ∷ n_mutation ∷ n_subscription ∷ n_fragment ∷ n_on ∷ n_true ∷ n_false ∷ n_null ∷ n_other ∷ []
firsts EnumValue = n_query ∷ n_mutation ∷ n_subscription ∷ n_fragment ∷ n_on ∷ n_other ∷ []
firsts VariableDefinitions? = paren_l ∷ []
firsts VariableDefinitions = paren_l ∷ []
firsts VariableDefinition+ = dollar ∷ []
firsts VariableDefinition* = dollar ∷ []
firsts VariableDefinition = dollar ∷ []
firsts DefaultValue? = equals ∷ []
firsts DefaultValue = equals ∷ []
firsts TypeRef = bracket_l ∷ n_query ∷ n_mutation ∷ n_subscription ∷ n_fragment ∷ n_on ∷ n_true ∷ n_false ∷ n_null ∷ n_other ∷ []
firsts NamedType = n_query ∷ n_mutation ∷ n_subscription ∷ n_fragment ∷ n_on ∷ n_true ∷ n_false ∷ n_null ∷ n_other ∷ []
firsts ListType = bracket_l ∷ []
firsts NonNullType = bracket_l ∷ n_query ∷ n_mutation ∷ n_subscription ∷ n_fragment ∷ n_on ∷ n_true ∷ n_false ∷ n_null ∷ n_other ∷ []
firsts Directives? = at_sign ∷ []
firsts Directives = at_sign ∷ []
firsts Directive+ = at_sign ∷ []
firsts Directive* = at_sign ∷ []
firsts Directive = at_sign ∷ []
firsts Name = n_query ∷ n_mutation ∷ n_subscription ∷ n_fragment ∷ n_on ∷ n_true ∷ n_false ∷ n_null ∷ n_other ∷ []
firsts VariablesText = brace_l ∷ []
firsts SpreadRest = at_sign ∷ brace_l ∷ n_query ∷ n_mutation ∷ n_subscription ∷ n_fragment ∷ n_on ∷ n_true ∷ n_false ∷ n_null ∷ n_other ∷ []
firsts AliasRest = colon ∷ []
firsts Bang? = bang ∷ []

abbrev pub can_be_none : Part → Bool
can_be_none Document = false
can_be_none Definition+ = false
can_be_none Definition* = true
can_be_none Definition = false
can_be_none OperationDefinition = false
can_be_none OperationType = false
can_be_none OperationName? = true
can_be_none SelectionSet = false
can_be_none Selection+ = false
can_be_none Selection* = true
can_be_none Selection = false
can_be_none Field = false
can_be_none Alias? = true
can_be_none Alias = false
can_be_none SelectionSet? = true
can_be_none Arguments? = true
can_be_none Arguments = false
can_be_none Argument+ = false
can_be_none Argument* = true
can_be_none Argument = false
can_be_none FragmentSpread = false
can_be_none FragmentDefinition = false
can_be_none FragmentName = false
can_be_none TypeCondition? = true
can_be_none TypeCondition = false
can_be_none InlineFragment = false
can_be_none Value = false
can_be_none ListValue = false
can_be_none Value+ = false
can_be_none Value* = true
can_be_none ObjectValue = false
can_be_none ObjectField+ = false
can_be_none ObjectField* = true
can_be_none ObjectField = false
can_be_none ConstValue = false
can_be_none ConstListValue = false
can_be_none ConstValue+ = false
can_be_none ConstValue* = true
can_be_none ConstObjectValue = false
can_be_none ConstObjectField+ = false
can_be_none ConstObjectField* = true
can_be_none ConstObjectField = false
can_be_none EnumValue = false
can_be_none VariableDefinitions? = true
can_be_none VariableDefinitions = false
can_be_none VariableDefinition+ = false
can_be_none VariableDefinition* = true
can_be_none VariableDefinition = false
can_be_none DefaultValue? = true
can_be_none DefaultValue = false
can_be_none TypeRef = false
can_be_none NamedType = false
can_be_none ListType = false
can_be_none NonNullType = false
can_be_none Directives? = true
can_be_none Directives = false
can_be_none Directive+ = false
can_be_none Directive* = true
can_be_none Directive = false
can_be_none Name = false
can_be_none VariablesText = false
can_be_none SpreadRest = false
can_be_none AliasRest = true
can_be_none Bang? = true

-- a short text of each part
abbrev pub sample : Part → List Class
sample Document = brace_l ∷ n_other ∷ brace_r ∷ []
sample Definition+ = brace_l ∷ n_other ∷ brace_r ∷ []
sample Definition* = []
sample Definition = brace_l ∷ n_other ∷ brace_r ∷ []
sample OperationDefinition = brace_l ∷ n_other ∷ brace_r ∷ []
sample OperationType = n_query ∷ []
sample OperationName? = []
sample SelectionSet = brace_l ∷ n_other ∷ brace_r ∷ []
sample Selection+ = n_other ∷ []
sample Selection* = []
sample Selection = n_other ∷ []
sample Field = n_other ∷ []
sample Alias? = []
sample Alias = n_other ∷ colon ∷ []
sample SelectionSet? = []
sample Arguments? = []
sample Arguments = paren_l ∷ n_other ∷ colon ∷ int ∷ paren_r ∷ []
sample Argument+ = n_other ∷ colon ∷ int ∷ []
sample Argument* = []
sample Argument = n_other ∷ colon ∷ int ∷ []
sample FragmentSpread = spread ∷ n_other ∷ []
sample FragmentDefinition = n_fragment ∷ n_other ∷ n_on ∷ n_other ∷ brace_l ∷ n_other ∷ brace_r ∷ []
sample FragmentName = n_other ∷ []
sample TypeCondition? = []
sample TypeCondition = n_on ∷ n_other ∷ []
sample InlineFragment = spread ∷ brace_l ∷ n_other ∷ brace_r ∷ []
sample Value = int ∷ []
sample ListValue = bracket_l ∷ bracket_r ∷ []
sample Value+ = int ∷ []
sample Value* = []
sample ObjectValue = brace_l ∷ brace_r ∷ []
sample ObjectField+ = n_other ∷ colon ∷ int ∷ []
sample ObjectField* = []
sample ObjectField = n_other ∷ colon ∷ int ∷ []
sample ConstValue = int ∷ []
sample ConstListValue = bracket_l ∷ bracket_r ∷ []
sample ConstValue+ = int ∷ []
sample ConstValue* = []
sample ConstObjectValue = brace_l ∷ brace_r ∷ []
sample ConstObjectField+ = n_other ∷ colon ∷ int ∷ []
sample ConstObjectField* = []
sample ConstObjectField = n_other ∷ colon ∷ int ∷ []
sample EnumValue = n_other ∷ []
sample VariableDefinitions? = []
sample VariableDefinitions = paren_l ∷ dollar ∷ n_other ∷ colon ∷ n_other ∷ paren_r ∷ []
sample VariableDefinition+ = dollar ∷ n_other ∷ colon ∷ n_other ∷ []
sample VariableDefinition* = []
sample VariableDefinition = dollar ∷ n_other ∷ colon ∷ n_other ∷ []
sample DefaultValue? = []
sample DefaultValue = equals ∷ int ∷ []
sample TypeRef = n_other ∷ []
sample NamedType = n_other ∷ []
sample ListType = bracket_l ∷ n_other ∷ bracket_r ∷ []
sample NonNullType = n_other ∷ bang ∷ []
sample Directives? = []
sample Directives = at_sign ∷ n_other ∷ []
sample Directive+ = at_sign ∷ n_other ∷ []
sample Directive* = []
sample Directive = at_sign ∷ n_other ∷ []
sample Name = n_other ∷ []
sample VariablesText = brace_l ∷ brace_r ∷ []
sample SpreadRest = n_other ∷ []
sample AliasRest = []
sample Bang? = []

abbrev pub graphql : Tables Part Terminal Class Mark
graphql = record { prods = factored; hits = hits; first = λ n c. one_of (firsts n) c; null = can_be_none; depth = 12 }
