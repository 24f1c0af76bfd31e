-- `text_tokens::other` meets its contract, by the first byte.
use Rattle.text_tokens.proofs.other.Goals as goal

pub bounds-s-at : goal.bounds-s-at
bounds-s-at c = c.requires.within

pub string-requires : goal.string-requires
string-requires c = (c.requires.within, c.if-b-eq34.true)

pub returns-then-b-eq34 : goal.returns-then-b-eq34
returns-then-b-eq34 c = c.string.ensures

pub spread-requires : goal.spread-requires
spread-requires c = (c.requires.within, c.if-b-eq46.true)

pub returns-then-b-eq46 : goal.returns-then-b-eq46
returns-then-b-eq46 c = c.spread.ensures

pub number-requires : goal.number-requires
number-requires c = record { within = c.requires.within; no_letter = c.requires.no_letter; no_mark = c.requires.no_mark; no_quote = c.if-b-eq34.false; no_dot = c.if-b-eq46.false }

pub returns : goal.returns
returns c = c.number.ensures
