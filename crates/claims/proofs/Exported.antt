-- The seven calls: each name is the statement that the call's code meets its contract in `crates/gateway/src`, none of which has a `requires`. `crates/gateway_c`
-- exports them under the names that C links; each function there has the same contract, which its own check proves.
-- Assumes nothing.
pub use Rattle.gateway.proofs.parse.gw_parse.Statement.{statement as gw-parse}
pub use Rattle.gateway.proofs.check_table.gw_check_table.Statement.{statement as gw-check-table}
pub use Rattle.gateway.proofs.check.gw_check.Statement.{statement as gw-check}
pub use Rattle.gateway.proofs.coerce_variables.gw_coerce_variables.Statement.{statement as gw-coerce-variables}
pub use Rattle.gateway.proofs.coerce_arguments.gw_coerce_arguments.Statement.{statement as gw-coerce-arguments}
pub use Rattle.gateway.proofs.plan.gw_plan.Statement.{statement as gw-plan}
pub use Rattle.gateway.proofs.walk.gw_walk.Statement.{statement as gw-walk}
