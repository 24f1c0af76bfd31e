-- That each call meets its statement, gathered.
use Rattle.gateway.proofs.parse.gw_parse.Met as gw-parse
use Rattle.gateway.proofs.check_table.gw_check_table.Met as gw-check-table
use Rattle.gateway.proofs.check.gw_check.Met as gw-check
use Rattle.gateway.proofs.coerce_variables.gw_coerce_variables.Met as gw-coerce-variables
use Rattle.gateway.proofs.coerce_arguments.gw_coerce_arguments.Met as gw-coerce-arguments
use Rattle.gateway.proofs.plan.gw_plan.Met as gw-plan
use Rattle.gateway.proofs.walk.gw_walk.Met as gw-walk
use Rattle.claims.proofs.Exported as call

-- the seven calls meet their statements
pub all : {M : Type 1} → call.gw-parse M × call.gw-check-table M × call.gw-check M × call.gw-coerce-variables M × call.gw-coerce-arguments M × call.gw-plan M × call.gw-walk M
all = (gw-parse.met, gw-check-table.met, gw-check.met, gw-coerce-variables.met, gw-coerce-arguments.met, gw-plan.met, gw-walk.met)
