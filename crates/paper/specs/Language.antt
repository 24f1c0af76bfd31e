-- The language of documents: the productions of the draft, sections 2.2 to 2.12, part by part.
-- States: source document 002. `X?` is X or nothing, `X+` one X or more, `X*` none or more; `t c` is the terminal that is a token of class c.
-- The marks stand for 01, "Rows": they take no token, and say where a row begins and ends, and what is its kind, extra and name.
-- The productions are the draft's as they stand; none is left-factored here. The machine that the proofs run reads them left-factored, in seven parts: Selection,
-- Field, ListValue, ObjectValue, ConstListValue, ConstObjectValue, TypeRef (`changed` in proofs/Tables). Both are proved to be one language (`SameLanguage` in crate `paper_theory`).
-- Assumes nothing.
use Rattle.std.specs.Prelude.{Bool, false, ◌&&◌, ◌||◌, not, List, [], ◌∷◌, ℕ, eqb}
use Rattle.paper.specs.Grammar.{Sym, nt, tm, act}
use Rattle.paper.specs.Numbers.{kind_operation, kind_fragment, kind_field, kind_spread, kind_inline, kind_argument, kind_directive, kind_variable_definition, kind_type_reference, kind_object_field, kind_variable, kind_integer, kind_float, kind_string, kind_boolean, kind_null, kind_enum, kind_list, kind_object, extra_query, extra_mutation, extra_subscription, extra_true, extra_false, wrap_list, wrap_non_null}

-- the classes of tokens: the punctuators; the names, apart where the grammar tells them apart; and the literals
pub data Class : Type 0 where
  bang dollar paren_l paren_r spread colon equals at_sign bracket_l bracket_r brace_l bar brace_r : Class
  n_query n_mutation n_subscription n_fragment n_on n_true n_false n_null n_other : Class
  int float string : Class

abbrev pub num_c : Class → ℕ
num_c bang = 0
num_c dollar = 1
num_c paren_l = 2
num_c paren_r = 3
num_c spread = 4
num_c colon = 5
num_c equals = 6
num_c at_sign = 7
num_c bracket_l = 8
num_c bracket_r = 9
num_c brace_l = 10
num_c bar = 11
num_c brace_r = 12
num_c n_query = 13
num_c n_mutation = 14
num_c n_subscription = 15
num_c n_fragment = 16
num_c n_on = 17
num_c n_true = 18
num_c n_false = 19
num_c n_null = 20
num_c n_other = 21
num_c int = 22
num_c float = 23
num_c string = 24

abbrev pub same_c : Class → Class → Bool
same_c c d = eqb (num_c c) (num_c d)

abbrev pub one_of : List Class → Class → Bool
one_of [] c = false
one_of (d ∷ ds) c = same_c d c || one_of ds c

abbrev pub is_name_class : Class → Bool
is_name_class c = one_of (n_query ∷ n_mutation ∷ n_subscription ∷ n_fragment ∷ n_on ∷ n_true ∷ n_false ∷ n_null ∷ n_other ∷ []) c

-- a terminal: a token of one class; a Name; "Name but not on"; "Name but not true, false or null"
pub data Terminal : Type 0 where
  the : Class → Terminal
  any_name name_but_on name_but_literal : Terminal

-- which tokens a terminal is
abbrev pub hits : Terminal → Class → Bool
hits (the c) d = same_c c d
hits any_name d = is_name_class d
hits name_but_on d = is_name_class d && not (same_c n_on d)
hits name_but_literal d = is_name_class d && not (one_of (n_true ∷ n_false ∷ n_null ∷ []) d)

-- `row`: a row begins at the next token. `kind k x`: its kind and extra. `named`: the next token is its name (a later one takes the
-- place of an earlier, so a field's alias gives way to its name). `wrapper`: the next token is a mark of a type reference.
-- `wrap w`: one more wrapper, outside those before. `end`: the row ends with the last token.
pub data Mark : Type 0 where
  row : Mark
  kind : ℕ → ℕ → Mark
  named : Mark
  wrapper : Mark
  wrap : ℕ → Mark
  end : Mark

pub data Part : Type 0 where
  Document Definition+ Definition* Definition OperationDefinition OperationType OperationName? SelectionSet Selection+ Selection* : Part
  Selection Field Alias? Alias SelectionSet? Arguments? Arguments Argument+ Argument* Argument FragmentSpread FragmentDefinition : Part
  FragmentName TypeCondition? TypeCondition InlineFragment Value ListValue Value+ Value* ObjectValue ObjectField+ ObjectField* : Part
  ObjectField ConstValue ConstListValue ConstValue+ ConstValue* ConstObjectValue ConstObjectField+ ConstObjectField* : Part
  ConstObjectField EnumValue VariableDefinitions? VariableDefinitions VariableDefinition+ VariableDefinition* VariableDefinition : Part
  DefaultValue? DefaultValue TypeRef NamedType ListType NonNullType Directives? Directives Directive+ Directive* Directive Name : Part
  VariablesText SpreadRest AliasRest Bang? : Part

abbrev pub t : Class → Sym Part Terminal Mark
t c = tm (the c)

-- the productions
unfoldable pub language : Part → List (List (Sym Part Terminal Mark))
-- 2.2 Document
language Document = (nt Definition+ ∷ []) ∷ []
language Definition+ = (nt Definition ∷ nt Definition* ∷ []) ∷ []
language Definition* = [] ∷ (nt Definition ∷ nt Definition* ∷ []) ∷ []
language Definition = (nt OperationDefinition ∷ []) ∷ (nt FragmentDefinition ∷ []) ∷ []
-- 2.3 Operations
language OperationDefinition =
    (nt OperationType ∷ nt OperationName? ∷ nt VariableDefinitions? ∷ nt Directives? ∷ nt SelectionSet ∷ act end ∷ []) ∷
    (act row ∷ act (kind kind_operation extra_query) ∷ nt SelectionSet ∷ act end ∷ []) ∷
    []
language OperationType =
    (act row ∷ act (kind kind_operation extra_query) ∷ t n_query ∷ []) ∷
    (act row ∷ act (kind kind_operation extra_mutation) ∷ t n_mutation ∷ []) ∷
    (act row ∷ act (kind kind_operation extra_subscription) ∷ t n_subscription ∷ []) ∷
    []
language OperationName? = [] ∷ (act named ∷ nt Name ∷ []) ∷ []
-- 2.4 Selection sets
language SelectionSet = (t brace_l ∷ nt Selection+ ∷ t brace_r ∷ []) ∷ []
language Selection+ = (nt Selection ∷ nt Selection* ∷ []) ∷ []
language Selection* = [] ∷ (nt Selection ∷ nt Selection* ∷ []) ∷ []
language Selection = (nt Field ∷ []) ∷ (nt FragmentSpread ∷ []) ∷ (nt InlineFragment ∷ []) ∷ []
-- 2.5 Fields, 2.6 Arguments, 2.7 Field alias
language Field =
    (act row ∷ act (kind kind_field 0) ∷ nt Alias? ∷ act named ∷ nt Name ∷ nt Arguments? ∷ nt Directives? ∷ nt SelectionSet? ∷ act end ∷ []) ∷
    []
language Alias? = [] ∷ (nt Alias ∷ []) ∷ []
language Alias = (act named ∷ nt Name ∷ t colon ∷ []) ∷ []
language SelectionSet? = [] ∷ (nt SelectionSet ∷ []) ∷ []
language Arguments? = [] ∷ (nt Arguments ∷ []) ∷ []
language Arguments = (t paren_l ∷ nt Argument+ ∷ t paren_r ∷ []) ∷ []
language Argument+ = (nt Argument ∷ nt Argument* ∷ []) ∷ []
language Argument* = [] ∷ (nt Argument ∷ nt Argument* ∷ []) ∷ []
language Argument = (act row ∷ act (kind kind_argument 0) ∷ act named ∷ nt Name ∷ t colon ∷ nt Value ∷ act end ∷ []) ∷ []
-- 2.8 Fragments
language FragmentSpread = (act row ∷ t spread ∷ act (kind kind_spread 0) ∷ act named ∷ nt FragmentName ∷ nt Directives? ∷ act end ∷ []) ∷ []
language FragmentDefinition =
    (act row ∷ act (kind kind_fragment 0) ∷ t n_fragment ∷ act named ∷ nt FragmentName ∷ nt TypeCondition ∷ nt Directives? ∷ nt SelectionSet ∷ act end ∷ []) ∷
    []
language FragmentName = (tm name_but_on ∷ []) ∷ []
language TypeCondition? = [] ∷ (nt TypeCondition ∷ []) ∷ []
language TypeCondition = (t n_on ∷ act row ∷ act (kind kind_type_reference 0) ∷ nt NamedType ∷ act end ∷ []) ∷ []
language InlineFragment = (act row ∷ t spread ∷ act (kind kind_inline 0) ∷ nt TypeCondition? ∷ nt Directives? ∷ nt SelectionSet ∷ act end ∷ []) ∷ []
-- 2.9 Input values: Value
language Value =
    (act row ∷ act (kind kind_variable 0) ∷ t dollar ∷ act named ∷ nt Name ∷ act end ∷ []) ∷
    (act row ∷ act (kind kind_integer 0) ∷ t int ∷ act end ∷ []) ∷
    (act row ∷ act (kind kind_float 0) ∷ t float ∷ act end ∷ []) ∷
    (act row ∷ act (kind kind_string 0) ∷ t string ∷ act end ∷ []) ∷
    (act row ∷ act (kind kind_boolean extra_true) ∷ t n_true ∷ act end ∷ []) ∷
    (act row ∷ act (kind kind_boolean extra_false) ∷ t n_false ∷ act end ∷ []) ∷
    (act row ∷ act (kind kind_null 0) ∷ t n_null ∷ act end ∷ []) ∷
    (act row ∷ act (kind kind_enum 0) ∷ act named ∷ nt EnumValue ∷ act end ∷ []) ∷
    (act row ∷ act (kind kind_list 0) ∷ nt ListValue ∷ act end ∷ []) ∷
    (act row ∷ act (kind kind_object 0) ∷ nt ObjectValue ∷ act end ∷ []) ∷
    []
language ListValue = (t bracket_l ∷ t bracket_r ∷ []) ∷ (t bracket_l ∷ nt Value+ ∷ t bracket_r ∷ []) ∷ []
language Value+ = (nt Value ∷ nt Value* ∷ []) ∷ []
language Value* = [] ∷ (nt Value ∷ nt Value* ∷ []) ∷ []
language ObjectValue = (t brace_l ∷ t brace_r ∷ []) ∷ (t brace_l ∷ nt ObjectField+ ∷ t brace_r ∷ []) ∷ []
language ObjectField+ = (nt ObjectField ∷ nt ObjectField* ∷ []) ∷ []
language ObjectField* = [] ∷ (nt ObjectField ∷ nt ObjectField* ∷ []) ∷ []
language ObjectField = (act row ∷ act (kind kind_object_field 0) ∷ act named ∷ nt Name ∷ t colon ∷ nt Value ∷ act end ∷ []) ∷ []
-- 2.9 Input values: Value[Const], without variables
language ConstValue =
    (act row ∷ act (kind kind_integer 0) ∷ t int ∷ act end ∷ []) ∷
    (act row ∷ act (kind kind_float 0) ∷ t float ∷ act end ∷ []) ∷
    (act row ∷ act (kind kind_string 0) ∷ t string ∷ act end ∷ []) ∷
    (act row ∷ act (kind kind_boolean extra_true) ∷ t n_true ∷ act end ∷ []) ∷
    (act row ∷ act (kind kind_boolean extra_false) ∷ t n_false ∷ act end ∷ []) ∷
    (act row ∷ act (kind kind_null 0) ∷ t n_null ∷ act end ∷ []) ∷
    (act row ∷ act (kind kind_enum 0) ∷ act named ∷ nt EnumValue ∷ act end ∷ []) ∷
    (act row ∷ act (kind kind_list 0) ∷ nt ConstListValue ∷ act end ∷ []) ∷
    (act row ∷ act (kind kind_object 0) ∷ nt ConstObjectValue ∷ act end ∷ []) ∷
    []
language ConstListValue = (t bracket_l ∷ t bracket_r ∷ []) ∷ (t bracket_l ∷ nt ConstValue+ ∷ t bracket_r ∷ []) ∷ []
language ConstValue+ = (nt ConstValue ∷ nt ConstValue* ∷ []) ∷ []
language ConstValue* = [] ∷ (nt ConstValue ∷ nt ConstValue* ∷ []) ∷ []
language ConstObjectValue = (t brace_l ∷ t brace_r ∷ []) ∷ (t brace_l ∷ nt ConstObjectField+ ∷ t brace_r ∷ []) ∷ []
language ConstObjectField+ = (nt ConstObjectField ∷ nt ConstObjectField* ∷ []) ∷ []
language ConstObjectField* = [] ∷ (nt ConstObjectField ∷ nt ConstObjectField* ∷ []) ∷ []
language ConstObjectField = (act row ∷ act (kind kind_object_field 0) ∷ act named ∷ nt Name ∷ t colon ∷ nt ConstValue ∷ act end ∷ []) ∷ []
-- 2.9.6 Enum value
language EnumValue = (tm name_but_literal ∷ []) ∷ []
-- 2.10 Variables
language VariableDefinitions? = [] ∷ (nt VariableDefinitions ∷ []) ∷ []
language VariableDefinitions = (t paren_l ∷ nt VariableDefinition+ ∷ t paren_r ∷ []) ∷ []
language VariableDefinition+ = (nt VariableDefinition ∷ nt VariableDefinition* ∷ []) ∷ []
language VariableDefinition* = [] ∷ (nt VariableDefinition ∷ nt VariableDefinition* ∷ []) ∷ []
language VariableDefinition =
    (act row ∷ act (kind kind_variable_definition 0) ∷ t dollar ∷ act named ∷ nt Name ∷ t colon ∷ act row ∷ act (kind kind_type_reference 0) ∷ nt TypeRef ∷ act end ∷ nt DefaultValue? ∷ act end ∷ []) ∷
    []
language DefaultValue? = [] ∷ (nt DefaultValue ∷ []) ∷ []
language DefaultValue = (t equals ∷ nt ConstValue ∷ []) ∷ []
-- 2.11 Input types (the draft's Type)
language TypeRef = (nt NamedType ∷ []) ∷ (nt ListType ∷ []) ∷ (nt NonNullType ∷ []) ∷ []
language NamedType = (act named ∷ nt Name ∷ []) ∷ []
language ListType = (act wrapper ∷ t bracket_l ∷ nt TypeRef ∷ t bracket_r ∷ act (wrap wrap_list) ∷ []) ∷ []
language NonNullType =
    (nt NamedType ∷ act wrapper ∷ t bang ∷ act (wrap wrap_non_null) ∷ []) ∷
    (nt ListType ∷ act wrapper ∷ t bang ∷ act (wrap wrap_non_null) ∷ []) ∷
    []
-- 2.12 Directives
language Directives? = [] ∷ (nt Directives ∷ []) ∷ []
language Directives = (nt Directive+ ∷ []) ∷ []
language Directive+ = (nt Directive ∷ nt Directive* ∷ []) ∷ []
language Directive* = [] ∷ (nt Directive ∷ nt Directive* ∷ []) ∷ []
language Directive = (act row ∷ act (kind kind_directive 0) ∷ t at_sign ∷ act named ∷ nt Name ∷ nt Arguments? ∷ act end ∷ []) ∷ []
-- 2.1.9 Names
language Name = (tm any_name ∷ []) ∷ []
-- 01: the variables text is one constant object value
language VariablesText = (act row ∷ act (kind kind_object 0) ∷ nt ConstObjectValue ∷ act end ∷ []) ∷ []
-- not in the draft, and in none of the productions above: what is left of a production once its first part is read, for the proofs
language SpreadRest =
    (act (kind kind_spread 0) ∷ act named ∷ nt FragmentName ∷ nt Directives? ∷ act end ∷ []) ∷
    (act (kind kind_inline 0) ∷ nt TypeCondition? ∷ nt Directives? ∷ nt SelectionSet ∷ act end ∷ []) ∷
    []
language AliasRest = [] ∷ (t colon ∷ act named ∷ nt Name ∷ []) ∷ []
language Bang? = [] ∷ (act wrapper ∷ t bang ∷ act (wrap wrap_non_null) ∷ []) ∷ []
