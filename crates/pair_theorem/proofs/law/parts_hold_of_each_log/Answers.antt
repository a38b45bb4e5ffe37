use Rattle.pair_theorem.proofs.EachLog.{guests_hold, log_holds, marks_hold}
use Rattle.pair_theorem.proofs.law.parts_hold_of_each_log.Goals as goal

pub returns-clause-log : goal.returns-clause-log
returns-clause-log c = log_holds

pub returns-clause-marks : goal.returns-clause-marks
returns-clause-marks c = marks_hold

pub returns-clause-guests : goal.returns-clause-guests
returns-clause-guests c = guests_hold
