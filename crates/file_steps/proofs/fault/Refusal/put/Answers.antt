-- The head was put, and a part of the numbers.
use Rattle.std.proofs.Common.{◌++◌, codes}
use Rattle.file_steps.specs.Status.{spaced}
use Rattle.file_steps.proofs.SinkLemmas.{on_err, puts_then_part}
use Rattle.file_steps.proofs.fault.Refusal.put.Goals as goal

pub returns-clause-err : goal.returns-clause-err
returns-clause-err g c =
    on_err _ _ c.put_tail.result c.put_tail.ensures.err (puts_then_part (g.O.Sink.state c.args.out.now)
    (g.O.Sink.state c.put_text.new.out) (g.O.Sink.state c.put_tail.new.out) c.args.self.head.now
    (spaced c.args.self.first ++ (spaced c.args.self.second ++ codes "\n")) c.put_text.ensures.goes_on
    c.in_ok-put_text.ensures.ok)
