-- `call_endings::tell_judged` meets its contract, case by case.
use Rattle.call_endings.proofs.EndLaws.{ended_fits, ended_breaks}
use Rattle.call_endings.proofs.tell_judged.Goals as goal

pub returns-in-Fits : goal.returns-in-Fits
returns-in-Fits c = ended_fits _ _ _ _ _ c.in-Fits.is c.tell.ensures

pub returns-in-Breaks : goal.returns-in-Breaks
returns-in-Breaks c = ended_breaks _ _ _ _ _ _ _ _ c.in-Breaks.is c.clear.ensures c.tell_five.ensures
