-- The first of the name, if its type is the same.
use mathlib.Core.Path.{subst}
use native.Mathlib.Omega.{arith}
use Rattle.table_book.specs.Book.{part}
use Rattle.table_members.specs.Members.{arguments_in, argument_from}
use Rattle.table_rules_11_15_quick.specs.Numbered.{ArgumentAt, ArgumentSought}
use Rattle.table_rules_11_15_quick.proofs.KeepingLaws.{matched}
use Rattle.table_rules_11_15_quick.proofs.matching.Goals as goal

pub name_in-n-requires : goal.name_in-n-requires
name_in-n-requires c = c.requires.0

pub argument_in-requires : goal.argument_in-requires
argument_in-requires c = (c.requires.1, c.name_in-n.ensures.within)

pub is_alike-requires : goal.is_alike-requires
is_alike-requires c =
    let found : ArgumentAt c.args.t.now (arguments_in c.args.t.now c.args.from c.args.stop) (part c.args.t.now c.name_in-n.result.at c.name_in-n.result.size) c.in_ok-a.a.number c.in_ok-a.a.start c.in_ok-a.a.end = subst (ArgumentSought c.args.t.now (arguments_in c.args.t.now c.args.from c.args.stop) (part c.args.t.now c.name_in-n.result.at c.name_in-n.result.size)) c.in_ok-a.was c.argument_in.ensures in
    (c.requires.0, found.bounds)

pub returns-then-is_alike : goal.returns-then-is_alike
returns-then-is_alike c =
    let found : ArgumentAt c.args.t.now (arguments_in c.args.t.now c.args.from c.args.stop) (part c.args.t.now c.name_in-n.result.at c.name_in-n.result.size) c.in_ok-a.a.number c.in_ok-a.a.start c.in_ok-a.a.end = subst (ArgumentSought c.args.t.now (arguments_in c.args.t.now c.args.from c.args.stop) (part c.args.t.now c.name_in-n.result.at c.name_in-n.result.size)) c.in_ok-a.was c.argument_in.ensures in
    let a = c.args in
    matched (arguments_in a.t.now a.from a.stop) (argument_from a.t.now a.start a.end) (part a.t.now c.name_in-n.result.at c.name_in-n.result.size) c.in_ok-a.a.number _ c.name_in-n.ensures.is found.first (c.is_alike.ensures c.if-is_alike.true) (omega (arith, c.if-a-ge-BITS.false))
