-- Worked examples: which operation a name means (READINGS 19).
use mathlib.Core.Path.{◌≡◌, refl}
use mathlib.Core.Option.{none, some}
use mathlib.Core.List.{[]}
use Rattle.paper.specs.Language.{language}
use Rattle.paper.specs.Lexical.{lexical}
use Rattle.paper.specs.Rows.{rows_of, book}
use Rattle.paper.specs.Reading.{tokens_of}
use Rattle.paper.proofs.Machine.{run, step, enter, choose}
use Rattle.paper.proofs.Longest.{scan}
use Rattle.paper.proofs.Tables.{factored}
use Rattle.paper.proofs.LexTables.{lex_factored}
use Rattle.paper.proofs.Lexing.{text, from}
use Rattle.paper_table.specs.Lists.{bytes, first_at, each_from}
use Rattle.paper_query.specs.Constructs.{numbers_where}
use Rattle.paper_query.specs.Opening.{operation_meant}
use Rattle.paper_query.proofs.WorkedRules.{document}

pub record Operations : Type 0 where
  only_one_is : operation_meant (document (bytes "query A {a}")) [] ≡ some 0
  not_one : operation_meant (document (bytes "query A {a} query B {a}")) [] ≡ none
  none_there : operation_meant (document (bytes "fragment F on Query {a}")) [] ≡ none
  by_name : operation_meant (document (bytes "query A {a} query B {a}")) (bytes "B") ≡ some 2
  no_such : operation_meant (document (bytes "query A {a}")) (bytes "AA") ≡ none

pub operations : Operations
unfolding from text scan step enter choose lexical lex_factored language factored run rows_of book tokens_of first_at each_from numbers_where
operations = record { only_one_is = refl; not_one = refl; none_there = refl; by_name = refl; no_such = refl }
