-- `value_strings::in_utf8` meets its contract, by the size of the number.
use mathlib.Core.Path.{refl}
use mathlib.Core.Option.{some}
use Rattle.paper_values.specs.Characters.{three_bytes, utf8}
use Rattle.value_strings.proofs.ReadLaws.{utf8_one, utf8_two, utf8_low, utf8_surrogate, utf8_high, utf8_beyond, reads_as}
use Rattle.value_strings.proofs.in_utf8.Goals as goal

pub returns-then-x-lt128 : goal.returns-then-x-lt128
returns-then-x-lt128 c = (utf8_one c.args.x c.if-x-lt128.true, refl)

pub returns-then-x-lt2048 : goal.returns-then-x-lt2048
returns-then-x-lt2048 c = (utf8_two c.args.x c.if-x-lt128.false c.if-x-lt2048.true, refl)

pub returns-then-x-lt55296 : goal.returns-then-x-lt55296
returns-then-x-lt55296 c = reads_as (some (three_bytes c.args.x)) (utf8 c.args.x) c.args.more c.three.result (utf8_low c.args.x c.if-x-lt2048.false c.if-x-lt55296.true) c.three.ensures

pub returns-then-x-lt57344 : goal.returns-then-x-lt57344
returns-then-x-lt57344 c = utf8_surrogate c.args.x c.if-x-lt55296.false c.if-x-lt57344.true

pub returns-then-x-lt65536 : goal.returns-then-x-lt65536
returns-then-x-lt65536 c = reads_as (some (three_bytes c.args.x)) (utf8 c.args.x) c.args.more c.three-then-x-lt65536.result (utf8_high c.args.x c.if-x-lt57344.false c.if-x-lt65536.true) c.three-then-x-lt65536.ensures

pub returns : goal.returns
returns c = utf8_beyond c.args.x c.if-x-lt65536.false
