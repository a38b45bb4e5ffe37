-- The work was done or failed, and its line was put.
use Rattle.std.proofs.Common.{ℕ, List, Result, String, subst}
use Rattle.std.specs.declared.alloc.Global.{Global}
use Rattle.file_steps.specs.Ending.{Call, HasEnded}
use Rattle.file_steps.specs.declared.fault.Fault.{Fault}
use Rattle.file_steps.proofs.EndLemmas.{WasPut, end_err, end_ok}
use Rattle.file_steps.proofs.ending.end_call.Goals as goal

pub returns-in-Ok : goal.returns-in-Ok
returns-in-Ok g c = λ task before after ended.
    let call : Call = record {
      task = task;
      before = before;
      after = after;
      sink_before = g.O.Sink.state c.args.out.now;
      sink_after = g.O.Sink.state c.put_line.new.out;
      status = c.put_line.result;
    } in
    let P : List ℕ → Type 0 = λ text. WasPut call text in
    let Q : Result (String Global) Fault → Type 0 = λ work. HasEnded task before after work in
    end_ok call c.in-Ok.line (subst Q c.in-Ok.is ended)
    (subst P c.as_bytes.ensures.value c.put_line.ensures.either) c.put_line.ensures.goes_on

pub returns-in-Err : goal.returns-in-Err
returns-in-Err g c = λ task before after ended.
    let call : Call = record {
      task = task;
      before = before;
      after = after;
      sink_before = g.O.Sink.state c.args.out.now;
      sink_after = g.O.Sink.state c.put_fault.new.out;
      status = c.put_fault.result;
    } in
    let Q : Result (String Global) Fault → Type 0 = λ work. HasEnded task before after work in
    end_err call c.in-Err.fault (subst Q c.in-Err.is ended) c.put_fault.ensures.status c.put_fault.ensures.line
    c.put_fault.ensures.goes_on
