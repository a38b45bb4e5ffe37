-- The first number was put, and a part of the rest.
use Rattle.std.proofs.Common.{◌++◌, codes}
use Rattle.std.proofs.lemmas.Result.{err_from_is_err_and}
use Rattle.file_steps.specs.Status.{spaced}
use Rattle.file_steps.proofs.SinkLemmas.{on_err, puts_part, puts_then_part}
use Rattle.file_steps.proofs.fault.put_tail.Goals as goal

pub returns-in_err-put_spaced-2-clause-err : goal.returns-in_err-put_spaced-2-clause-err
returns-in_err-put_spaced-2-clause-err g c =
    let p = err_from_is_err_and c.from_residual-in_err-put_spaced-2.result
    c.from_residual-in_err-put_spaced-2.ensures.1 in
    rw p.1 (puts_then_part (g.O.Sink.state c.args.out.now)
    (g.O.Sink.state c.put_spaced.new.out) (g.O.Sink.state c.put_spaced-2.new.out) (spaced c.args.first)
    (spaced c.args.second ++ codes "\n") c.put_spaced.ensures.goes_on c.in_ok-put_spaced.ensures.ok
    (puts_part (g.O.Sink.state c.put_spaced.new.out) (g.O.Sink.state c.put_spaced-2.new.out)
    (g.O.Sink.state c.put_spaced-2.new.out) (spaced c.args.second) (codes "\n") c.in_err-put_spaced-2.ensures.err))

pub returns-clause-err : goal.returns-clause-err
returns-clause-err g c =
    on_err _ _ c.put_text.result c.put_text.ensures.err (λ part. puts_then_part (g.O.Sink.state c.args.out.now)
    (g.O.Sink.state c.put_spaced.new.out) (g.O.Sink.state c.put_text.new.out) (spaced c.args.first)
    (spaced c.args.second ++ codes "\n") c.put_spaced.ensures.goes_on c.in_ok-put_spaced.ensures.ok
    (puts_then_part (g.O.Sink.state c.put_spaced.new.out) (g.O.Sink.state c.put_spaced-2.new.out)
    (g.O.Sink.state c.put_text.new.out) (spaced c.args.second) (codes "\n") c.put_spaced-2.ensures.goes_on
    c.in_ok-put_spaced-2.ensures.ok part))
