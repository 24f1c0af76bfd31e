-- A built-in scalar, the number found, or nothing.
use mathlib.Core.Path.{sym, ◌∙◌}
use Rattle.table_book.specs.Book.{part}
use Rattle.table_entries.proofs.Meanings.{means_built_in, means_definition, means_nothing}
use native.Mathlib.Omega.{arith}
use Rattle.table_entries.proofs.number_of.Goals as goal

pub returns-then-is_built_in : goal.returns-then-is_built_in
returns-then-is_built_in c = let a = c.args in
    (means_built_in a.t.now a.book.now c.requires.0 (part a.t.now a.at a.n) (sym c.is_built_in.ensures ∙ c.if-is_built_in.true), omega arith)

pub returns-then-k-count_of : goal.returns-then-k-count_of
returns-then-k-count_of c = let a = c.args in
    (means_definition a.t.now a.book.now c.requires.0 (part a.t.now a.at a.n) (sym c.is_built_in.ensures ∙ c.if-is_built_in.false) _ c.first_type-k.ensures (omega (arith, c.if-k-count_of.true, c.count_of.ensures)), omega (arith, c.if-k-count_of.true, c.count_of.ensures, c.requires.0.indexed.held.most))

pub returns : goal.returns
returns c = let a = c.args in
    (means_nothing a.t.now a.book.now c.requires.0 (part a.t.now a.at a.n) (sym c.is_built_in.ensures ∙ c.if-is_built_in.false) _ c.first_type-k.ensures (omega (arith, c.if-k-count_of.false, c.count_of.ensures)), omega arith)
