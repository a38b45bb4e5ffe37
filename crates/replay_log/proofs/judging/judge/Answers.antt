-- The tests, one after the other, give the first case.
use Rattle.std.proofs.Common.{map, sym, ◌∙◌}
use Rattle.replay_log.proofs.CaseLemmas.{IsCounted, bad_number, bad_stop, bad_report, no_case}
use Rattle.replay_log.proofs.judging.judge.Goals as goal
use Rattle.replay_log.proofs.judging.judge.Goals.{After-first_that_reads}

-- neither `Word` nor `Count` holds
counted : (c : After-first_that_reads) → IsCounted c.args.forms.now c.args.before
    (map (λ word. word.now) c.args.words.now) c.args.is_ended
counted c = record {
  early = sym c.is_early_mark.ensures ∙ c.if-is_early_mark.false;
  fits = sym c.any_fits.ensures ∙ c.if-not-any_fits.false;
  ended = c.if-not-is_ended.false;
  counts = sym c.any_counts.ensures ∙ c.if-not-any_counts.false;
}

pub returns-in_default-clause-bad : goal.returns-in_default-clause-bad
returns-in_default-clause-bad c =
    bad_number _ _ _ _
    (counted (goal.at.returns-in_default-clause-bad c).After-first_that_reads)
    (sym c.first_that_reads.ensures ∙ c.in_default.is)

pub returns-then-is_second_stop-clause-bad : goal.returns-then-is_second_stop-clause-bad
returns-then-is_second_stop-clause-bad c =
    bad_stop _ _ _ _ _
    (counted (goal.at.returns-then-is_second_stop-clause-bad c).After-first_that_reads)
    (sym c.first_that_reads.ensures ∙ c.in-Some.is) (sym c.is_second_stop.ensures ∙ c.if-is_second_stop.true)

pub returns-then-is_false_report-clause-bad : goal.returns-then-is_false_report-clause-bad
returns-then-is_false_report-clause-bad c =
    bad_report _ _ _ _ _
    (counted (goal.at.returns-then-is_false_report-clause-bad c).After-first_that_reads)
    (sym c.first_that_reads.ensures ∙ c.in-Some.is) (sym c.is_second_stop.ensures ∙
    c.if-is_second_stop.false) (sym c.is_false_report.ensures ∙ c.if-is_false_report.true)

pub returns-clause-good : goal.returns-clause-good
returns-clause-good c =
    no_case _ _ _ _ _
    (counted (goal.at.returns-clause-good c).After-first_that_reads)
    (sym c.first_that_reads.ensures ∙ c.in-Some.is) (sym c.is_second_stop.ensures ∙
    c.if-is_second_stop.false) (sym c.is_false_report.ensures ∙ c.if-is_false_report.false)
