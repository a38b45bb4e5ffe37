-- The first newline ends the first line, and where there is none the text is one line.
use Rattle.replay_log.proofs.RowLemmas.{row_ended, row_last, ended_text, ended_shorter}
use Rattle.replay_log.proofs.rows.first_row.Goals as goal

pub returns-in-Some : goal.returns-in-Some
returns-in-Some c =
    let e = rw c.in-Some.is at c.cut.ensures.after in
    let whole = ended_text _ _ _ c.cut.ensures.before e in
    record {
      row = row_ended _ _ _ c.cut.ensures.before e;
      ended = λ t. whole;
      shorter = ended_shorter _ _ _ whole;
    }

pub returns-in-None-clause-row : goal.returns-in-None-clause-row
returns-in-None-clause-row c = row_last _ _ c.requires c.cut.ensures.before (rw c.in-None.is at c.cut.ensures.after)
