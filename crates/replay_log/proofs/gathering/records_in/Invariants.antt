-- The events gathered so far are the items passed.
use Rattle.std.proofs.Common.{◌≡◌, take}
use Rattle.replay_log.specs.Texts.{log_items}
use Rattle.replay_log.proofs.gathering.records_in.Given as goal

abbrev pub invariant-loop-item : goal.invariant-loop-item
invariant-loop-item l = log_items l.records.items ≡ take l.item-index l.items
