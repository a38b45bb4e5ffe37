-- The first was put, and a part of the second.
use Rattle.file_steps.proofs.SinkLemmas.{on_err, puts_then_part}
use Rattle.file_steps.proofs.fault.put_both.Goals as goal

pub returns-clause-err : goal.returns-clause-err
returns-clause-err g c =
    on_err _ _ c.put_text-2.result c.put_text-2.ensures.err (puts_then_part (g.O.Sink.state c.args.out.now)
    (g.O.Sink.state c.put_text.new.out) (g.O.Sink.state c.put_text-2.new.out) c.args.first.now c.args.second.now
    c.put_text.ensures.goes_on c.in_ok-put_text.ensures.ok)
