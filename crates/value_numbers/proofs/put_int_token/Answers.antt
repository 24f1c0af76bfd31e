-- `value_numbers::put_int_token` meets its contract.
use Rattle.value_numbers.proofs.FieldLaws.{int_beyond, int_put}
use Rattle.value_numbers.proofs.put_int_token.Goals as goal

pub returns-in_err-x : goal.returns-in_err-x
returns-in_err-x c = let a = c.args in rw c.from_residual.ensures (int_beyond a.limit a.from a.out.now a.out.now a.s.now c.read_int.result c.read_int.ensures c.in_err-x.was)

pub returns : goal.returns
returns c = let a = c.args in int_put a.limit a.from a.out.now _ a.s.now c.read_int.result _ _ c.read_int.ensures c.in_ok-x.was c.put_int.ensures
