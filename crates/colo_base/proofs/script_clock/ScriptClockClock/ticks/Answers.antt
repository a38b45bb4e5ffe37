use Rattle.colo_base.proofs.ClockLemmas.{clock_gives}
use Rattle.colo_base.proofs.script_clock.ScriptClockClock.ticks.Goals as goal

pub returns-clause-gives : goal.returns-clause-gives
returns-clause-gives c =
    rw c.advance.ensures.next (clock_gives c.args.self.now c.advance.result c.advance.ensures.value)
