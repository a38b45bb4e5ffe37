-- Each item comes after those gathered.
use Rattle.std.proofs.Common.{ap}
use Rattle.replay_log.specs.Gathering.{is_of_log}
use Rattle.replay_log.proofs.GatheringLemmas.{log_none, event_more, mark_more, of_log_at}
use Rattle.replay_log.proofs.gathering.records_in.Goals.{in-Event+in_ok-push-in-Event, in-Mark+in_ok-add_mark-in-Mark, in-Line, in-Turn}
use Rattle.replay_log.proofs.gathering.records_in.Goals as goal

pub loop-item-init : goal.loop-item-init
loop-item-init c = rw c.new-records.ensures.items log_none

pub loop-item-preserved : goal.loop-item-preserved
loop-item-preserved c =
    elim c.match-item.branch [
      | in-Event+in_ok-push-in-Event w ↦
          rw (w.records-is, w.in_ok-push-in-Event.ensures.items)
          (event_more c.loop-item.records.items _ c.args.items.now c.loop-item.item-index _
          c.loop-item.invariant c.loop-item-test.true w.in-Event.is w.new.ensures)
      | in-Mark+in_ok-add_mark-in-Mark w ↦
          rw w.records-is
          (mark_more c.loop-item.records.items _ c.args.items.now c.loop-item.item-index _ w.in-Mark.mark
          c.requires.first c.loop-item.invariant c.loop-item-test.true w.in-Mark.is w.in_ok-add_mark-in-Mark.ensures)
      | in-Line w ↦ absurd
          (of_log_at c.args.items.now c.loop-item.item-index _ c.requires.kinds c.loop-item-test.true
          (ap is_of_log w.in-Line.is))
      | in-Turn w ↦ absurd
          (of_log_at c.args.items.now c.loop-item.item-index _ c.requires.kinds c.loop-item-test.true
          (ap is_of_log w.in-Turn.is))
    ]
