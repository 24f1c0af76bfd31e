-- What is due is there, and the fields are right.
use mathlib.Core.Path.{◌≡◌, sym, subst}
use mathlib.Core.Bool.{false≢true}
use Rattle.table_framing.specs.Holders.{Holder, HoldsAs}
use Rattle.table_framing_quick.proofs.UsualLaws.{fine_record}
use Rattle.table_framing_quick.proofs.is_usual_record.Goals as goal

pub returns-in_default : goal.returns-in_default
returns-in_default c = λ e. absurd (false≢true e)

pub returns-then-first-second : goal.returns-then-first-second
returns-then-first-second c = λ e. absurd (false≢true e)

pub returns-then-not-has_tag : goal.returns-then-not-has_tag
returns-then-not-has_tag c = λ e. absurd (false≢true e)

pub are_usual_members-requires : goal.are_usual_members-requires
are_usual_members-requires c =
    let holder : Holder c.args.tag c.in-Fields.first c.in-Fields.first c.in-Fields.from c.in-Fields.to = let a : Holder c.args.tag c.in-Fields.first c.in-Fields.second c.in-Fields.from c.in-Fields.to = subst (HoldsAs c.args.tag) c.in-Fields.is c.content_of.ensures in
    let e : c.in-Fields.second ≡ c.in-Fields.first = sym c.if-first-second.false in
    rw e at a in
    (c.requires, holder)

pub returns : goal.returns
returns c =
    let holder : Holder c.args.tag c.in-Fields.first c.in-Fields.first c.in-Fields.from c.in-Fields.to = let a : Holder c.args.tag c.in-Fields.first c.in-Fields.second c.in-Fields.from c.in-Fields.to = subst (HoldsAs c.args.tag) c.in-Fields.is c.content_of.ensures in
    let e : c.in-Fields.second ≡ c.in-Fields.first = sym c.if-first-second.false in
    rw e at a in
    λ e. fine_record c.args.at c.args.tag _ _ _ _ _ holder c.has_tag.ensures c.if-not-has_tag.false (c.are_usual_members.ensures e)
