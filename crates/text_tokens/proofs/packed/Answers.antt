-- `text_tokens::packed` meets its contract: the parts are small, so that no product and no sum wraps.
use native.Mathlib.Omega.{arith}
use Rattle.text_tokens.proofs.PackedLaws.{fits_token, fits_bad}
use Rattle.text_tokens.proofs.packed.Goals as goal

pub overflow_mul-result-in-Ok : goal.overflow_mul-result-in-Ok
overflow_mul-result-in-Ok c = let l = fits_token _ _ _ _ c.requires c.in-Ok.is in omega arith

pub overflow_add-result : goal.overflow_add-result
overflow_add-result c = let l = fits_token _ _ _ _ c.requires c.in-Ok.is in omega arith

pub overflow_add-result-in-Ok : goal.overflow_add-result-in-Ok
overflow_add-result-in-Ok c = let l = fits_token _ _ _ _ c.requires c.in-Ok.is in omega arith

pub overflow_mul-result-in-Err-2 : goal.overflow_mul-result-in-Err-2
overflow_mul-result-in-Err-2 c = let l = fits_bad _ _ c.requires c.in-Err.is in omega arith

pub overflow_add-result-in-Err : goal.overflow_add-result-in-Err
overflow_add-result-in-Err c = let l = fits_bad _ _ c.requires c.in-Err.is in omega arith

pub returns-in-Ok : goal.returns-in-Ok
returns-in-Ok c = rw c.in-Ok.is

pub returns-in-Err : goal.returns-in-Err
returns-in-Err c = rw c.in-Err.is
