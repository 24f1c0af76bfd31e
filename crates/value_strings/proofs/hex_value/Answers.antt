-- `value_strings::hex_value` meets its contract.
use native.Mathlib.Omega.{arith}
use Rattle.value_strings.proofs.ReadLaws.{hex_least, hex_digit, hex_upper, hex_lower}
use Rattle.value_strings.proofs.hex_value.Goals as goal

pub returns-then-b-lt48 : goal.returns-then-b-lt48
returns-then-b-lt48 c = (hex_least c.args.b c.if-b-lt48.true, omega arith)

pub returns-then-b-lt65 : goal.returns-then-b-lt65
returns-then-b-lt65 c = (hex_digit c.args.b c.if-b-lt65.true, omega arith)

pub returns-then-b-lt97 : goal.returns-then-b-lt97
returns-then-b-lt97 c = (hex_upper c.args.b c.if-b-lt65.false c.if-b-lt97.true, omega arith)

pub returns : goal.returns
returns c = (hex_lower c.args.b c.if-b-lt97.false, omega arith)
