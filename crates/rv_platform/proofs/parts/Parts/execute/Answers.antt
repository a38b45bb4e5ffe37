-- What the instruction left is taken over, and its trap is entered.
use Rattle.std.proofs.lemmas.Result.{err_from_is_err_and}
use Rattle.rv_platform.specs.Settled.{platform_of}
use Rattle.rv_platform.proofs.ExecuteLemmas.{kinds_executed, left_execution, sends_execution, same_time, still_settled}
use Rattle.rv_platform.proofs.StepLemmas.{kinds_then}
use Rattle.rv_platform.proofs.parts.Parts.execute.Goals as goal

pub catch_up-requires-clause-time : goal.catch_up-requires-clause-time
catch_up-requires-clause-time c = same_time c.args.self.now c.execute.new.csrs c.execute.new.bus c.requires.settled
    c.in_ok-outcome.ensures.lines c.in_ok-outcome.ensures.one_store

pub catch_up-requires-clause-untouched : goal.catch_up-requires-clause-untouched
catch_up-requires-clause-untouched c =
    still_settled c.args.self.now c.execute.new.self c.execute.new.csrs c.execute.new.bus c.requires.settled
    c.in_ok-outcome.ensures.lines c.in_ok-outcome.ensures.one_store

pub returns-in_err-catch_up-clause-kinds : goal.returns-in_err-catch_up-clause-kinds
returns-in_err-catch_up-clause-kinds c = kinds_then (platform_of c.args.self.now) _ _
    (kinds_executed c.args.self.now c.execute.new.self c.execute.new.csrs c.execute.new.bus
    c.in_ok-outcome.ensures.one_store)
    c.catch_up.ensures.kinds

pub returns-in_err-catch_up-clause-cause : goal.returns-in_err-catch_up-clause-cause
returns-in_err-catch_up-clause-cause c = λ word is.
    let r = err_from_is_err_and c.from_residual-in_err-catch_up.result c.from_residual-in_err-catch_up.ensures.1 in
    rw r.1 (sends_execution c.args.self.now c.requires.settled c.in_ok-outcome.outcome c.execute.new.self
    c.execute.new.csrs c.execute.new.bus word c.args.instr.now (c.in_ok-outcome.ensures.effect word is)
    c.in_err-catch_up.ensures.cause)

pub returns-clause-ok : goal.returns-clause-ok
returns-clause-ok c = λ word is.
    left_execution c.args.self.now c.requires.settled c.in_ok-outcome.outcome c.execute.new.self c.execute.new.csrs
    c.execute.new.bus word c.args.instr.now (c.in_ok-outcome.ensures.effect word is)
    (platform_of c.catch_up.new.self) (platform_of c.enter_by.new.self) c.args.out.now c.catch_up.new.out
    c.in_ok-catch_up.ensures.ok c.enter_by.ensures.after

pub returns-clause-kinds : goal.returns-clause-kinds
returns-clause-kinds c =
    kinds_then (platform_of c.args.self.now) (platform_of c.catch_up.new.self) (platform_of c.enter_by.new.self)
    (kinds_then (platform_of c.args.self.now) _ _
    (kinds_executed c.args.self.now c.execute.new.self c.execute.new.csrs c.execute.new.bus
    c.in_ok-outcome.ensures.one_store)
    c.catch_up.ensures.kinds)
    c.enter_by.ensures.kinds
