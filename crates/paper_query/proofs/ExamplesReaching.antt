-- Worked examples of the rules that speak of paths, 8, 10 and the second half of 11: derived; and what is declared, and due at a place, computed.
-- The answers are those of document 01 and of its readings; none was taken from what is computed here.
use mathlib.Core.Path.{◌≡◌, refl}
use mathlib.Core.Bool.{Bool, true, false, not, ◌&&◌}
use mathlib.Core.List.{List, [], ◌∷◌}
use Prim.Native.Nat.{ℕ}
use lib.Dec.{T, lit<}
use Rattle.paper.specs.Language.{Document, language}
use Rattle.paper.specs.Lexical.{lexical}
use Rattle.paper.specs.Rows.{rows_of, book}
use Rattle.paper.specs.Reading.{tokens_of}
use Rattle.paper.proofs.Machine.{run, step, enter, choose}
use Rattle.paper.proofs.Longest.{scan}
use Rattle.paper.proofs.Tables.{factored}
use Rattle.paper.proofs.LexTables.{lex_factored}
use Rattle.paper.proofs.Lexing.{text, from}
use Rattle.paper.proofs.Worked.{rows_by, r}
use Rattle.paper_table.specs.Lists.{bytes, any_of, all_of, first_at, find, gather, each_from}
use Rattle.paper_table.specs.References.{is_name, marked, closed, read_name, ref_from, whole_ref, ref_of}
use Rattle.paper_table.specs.House.{house_fields_from}
use Rattle.paper_table.specs.Types.{Table, text_of, member_of, definition_of, table_of, built_ins, built_in_directives, meaning, roots_of}
use Rattle.paper_query.specs.QueryNumbers.{rule_circle, rule_undefined, rule_variable_type}
use Rattle.paper_query.specs.Constructs.{Doc, name_of, fragment_named, has_fragment}
use Rattle.paper_query.specs.Enclosing.{composite_of, root_of, field_of, is_typename, condition_of, type_inside_from, type_inside_by, type_inside}
use Rattle.paper_query.specs.PlaceTypes.{wrappers_of, same_but_non_null, item_of, input_field_of, place_from, place_by, place}
use Rattle.paper_query.specs.Reaching.{itself, deeper, here, through}
use Rattle.paper_query.specs.Rule10Undefined.{defines}
use Rattle.paper_query.specs.Rule11VariableType.{declared, declared_by, differ}
use Rattle.paper_query.specs.QueryRules.{Broken, circle, undefined, other_type}
use Rattle.paper_query.specs.DocumentCalls.{read}
use Rattle.paper_query.proofs.WorkedRules.{table_s}

-- reading 61: the fragments of rows 5 and 8 spread each other; that of row 2 only leads there
abbrev circled : Doc
circled =
    read (bytes "{a} fragment E on O{...F} fragment F on O{...G} fragment G on O{...F}") (
    r 1 0 3 2048 0 0 0 ∷ r 3 1 2 0 1 1 0 ∷ r 2 4 25 2048 13 1 0 ∷ r 9 18 19 2 18 1 0 ∷ r 4 20 24 2 23 1 0 ∷ r 2 26 47 2048 35 1 0 ∷
    r 9 40 41 5 40 1 0 ∷ r 4 42 46 5 45 1 0 ∷ r 2 48 69 2048 57 1 0 ∷ r 9 62 63 8 62 1 0 ∷ r 4 64 68 8 67 1 0 ∷ [])

-- reading 63: both operations reach the variable of row 4, and that of row 9 does not define it
abbrev shared : Doc
shared =
    read (bytes "fragment F on Query{f(x:$v)} query A($v:Int){...F} query B{...F}") (
    r 2 0 28 2048 9 1 0 ∷ r 9 14 19 0 14 5 0 ∷ r 3 20 27 0 20 1 0 ∷ r 6 22 26 2 22 1 0 ∷ r 20 24 26 3 25 1 0 ∷ r 1 29 50 2048 35 1 0 ∷
    r 8 37 43 5 38 1 0 ∷ r 9 40 43 6 40 3 0 ∷ r 4 45 49 5 48 1 0 ∷ r 1 51 64 2048 57 1 0 ∷ r 4 59 63 9 62 1 0 ∷ [])

-- reading 66: a declared type that names no type differs
abbrev unlike : Doc
unlike =
    read (bytes "fragment F on Query{f(x:$v)} query($v:Nope){...F}") (
    r 2 0 28 2048 9 1 0 ∷ r 9 14 19 0 14 5 0 ∷ r 3 20 27 0 20 1 0 ∷ r 6 22 26 2 22 1 0 ∷ r 20 24 26 3 25 1 0 ∷ r 1 29 49 2048 0 0 0 ∷
    r 8 35 42 5 36 1 0 ∷ r 9 38 42 6 38 4 0 ∷ r 4 44 48 5 47 1 0 ∷ [])

-- reading 67: `Int` differs from `[Int]`
abbrev listed : Doc
listed =
    read (bytes "query($v:Int){f(y:$v)}") (
    r 1 0 22 2048 0 0 0 ∷ r 8 6 12 0 7 1 0 ∷ r 9 9 12 1 9 3 0 ∷ r 3 14 21 0 14 1 0 ∷ r 6 16 20 3 16 1 0 ∷ r 20 18 20 4 19 1 0 ∷ [])

-- reading 67: `Int` fits `Int!`
abbrev required : Doc
required =
    read (bytes "query($v:Int){g(n:$v)}") (
    r 1 0 22 2048 0 0 0 ∷ r 8 6 12 0 7 1 0 ∷ r 9 9 12 1 9 3 0 ∷ r 3 14 21 0 14 1 0 ∷ r 6 16 20 3 16 1 0 ∷ r 20 18 20 4 19 1 0 ∷ [])

-- reading 68: inside a list where none is due no type is due
abbrev nowhere : Doc
nowhere =
    read (bytes "query($v:String){f(x:[$v])}") (
    r 1 0 27 2048 0 0 0 ∷ r 8 6 15 0 7 1 0 ∷ r 9 9 15 1 9 6 0 ∷ r 3 17 26 0 17 1 0 ∷ r 6 19 25 3 19 1 0 ∷ r 27 21 25 4 0 0 0 ∷
    r 20 22 24 5 23 1 0 ∷ [])

-- reading 69: an object in a list's place is read as its item
abbrev as_item : Doc
as_item =
    read (bytes "query($v:Float){f(l:{x:$v})}") (
    r 1 0 28 2048 0 0 0 ∷ r 8 6 14 0 7 1 0 ∷ r 9 9 14 1 9 5 0 ∷ r 3 16 27 0 16 1 0 ∷ r 6 18 26 3 18 1 0 ∷ r 28 20 26 4 0 0 0 ∷
    r 10 21 25 5 21 1 0 ∷ r 20 23 25 6 24 1 0 ∷ [])

-- a list of an input object's field
abbrev nested : Doc
nested =
    read (bytes "query($v:Int){f(m:[$v] k:[[$v]] l:[{x:$v}])}") (
    r 1 0 44 2048 0 0 0 ∷ r 8 6 12 0 7 1 0 ∷ r 9 9 12 1 9 3 0 ∷ r 3 14 43 0 14 1 0 ∷ r 6 16 22 3 16 1 0 ∷ r 27 18 22 4 0 0 0 ∷
    r 20 19 21 5 20 1 0 ∷ r 6 23 31 3 23 1 0 ∷ r 27 25 31 7 0 0 0 ∷ r 27 26 30 8 0 0 0 ∷ r 20 27 29 9 28 1 0 ∷ r 6 32 42 3 32 1 0 ∷
    r 27 34 42 11 0 0 0 ∷ r 28 35 41 12 0 0 0 ∷ r 10 36 40 13 36 1 0 ∷ r 20 38 40 14 39 1 0 ∷ [])

-- these are the rows of their texts
abbrev each_read : List Doc → Type 0
each_read [] = Unit {0}
each_read (d ∷ ds) = (rows_by Document d.bytes ≡ d.rows) × each_read ds

all_read : each_read (circled ∷ shared ∷ unlike ∷ listed ∷ required ∷ nowhere ∷ as_item ∷ nested ∷ [])
unfolding from text scan step enter choose lexical lex_factored language factored run rows_of book tokens_of
all_read = (refl, (refl, (refl, (refl, (refl, (refl, (refl, (refl, tt))))))))

-- the fragment of row 5 reaches the spread of row 10 through that of row 7, and so itself
circled_told : (t : Table) → Broken t circled 5 rule_circle
unfolding fragment_named first_at
circled_told t =
    circle (record {
      fragment = tt;
      circles = record {
        at = 10;
        reaches = through (here (deeper {i = 7} tt itself)) (record { spread = tt; named = refl; known = lit< tt }) (deeper {i = 10} tt itself);
        spreads = record { spread = tt; named = refl; known = lit< tt };
      };
    })

-- the operation of row 9 reaches the variable of row 4 through its spread, row 10
shared_told : (t : Table) → Broken t shared 4 rule_undefined
unfolding fragment_named first_at defines any_of
shared_told t =
    undefined (record {
      variable = tt;
      operation = 9;
      is_operation = tt;
      reaches = through (here (deeper {i = 10} tt itself)) (record { spread = tt; named = refl; known = lit< tt }) (deeper {i = 4} tt (deeper {i = 3} tt (deeper {i = 2} tt itself)));
      undefined = tt;
    })

listed_told : Broken (table_of table_s) listed 5 rule_variable_type
unfolding any_of all_of first_at find gather each_from is_name marked closed read_name ref_from whole_ref ref_of house_fields_from text_of member_of definition_of table_of built_ins built_in_directives meaning roots_of fragment_named has_fragment composite_of root_of field_of is_typename condition_of type_inside_from type_inside_by type_inside defines declared declared_by same_but_non_null item_of input_field_of wrappers_of place_from place_by place
listed_told =
    other_type (record { variable = tt; operation = 0; is_operation = tt; reaches = here (deeper {i = 5} tt (deeper {i = 4} tt (deeper {i = 3} tt itself))); differs = tt })

-- a document, an operation's row, a variable's row; whether the operation defines it, and whether its type differs from its place's
abbrev Use : Type 0
Use = Doc × ℕ × ℕ × Bool × Bool

abbrev alike : Bool → Bool → Bool
alike true b = b
alike false b = not b

abbrev agreed : Table → List Use → Bool
agreed t [] = true
agreed t (u ∷ us) =
    alike (defines u.0 u.1 (name_of u.0 u.2)) u.3 && (alike (differ (declared_by u.0 u.1 (name_of u.0 u.2)) (place t u.0 u.2)) u.4 && agreed t us)

uses_told : T (agreed (table_of table_s) (
    (shared, 5, 4, true, false) ∷ (shared, 9, 4, false, false) ∷ (unlike, 5, 4, true, true) ∷ (listed, 0, 5, true, true) ∷
    (required, 0, 5, true, false) ∷ (nowhere, 0, 6, true, false) ∷ (as_item, 0, 7, true, true) ∷
    (nested, 0, 6, true, false) ∷ (nested, 0, 10, true, false) ∷ (nested, 0, 15, true, false) ∷ []))
unfolding any_of all_of first_at find gather each_from is_name marked closed read_name ref_from whole_ref ref_of house_fields_from text_of member_of definition_of table_of built_ins built_in_directives meaning roots_of fragment_named has_fragment composite_of root_of field_of is_typename condition_of type_inside_from type_inside_by type_inside defines declared declared_by same_but_non_null item_of input_field_of wrappers_of place_from place_by place
uses_told = tt
