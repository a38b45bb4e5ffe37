-- The mark comes after those of the last event.
use Rattle.std.proofs.Common.{refl, vec_len, arith}
use Rattle.replay_log.proofs.GatheringLemmas.{log_last}
use Rattle.replay_log.proofs.gathering.add_mark.Goals as goal

pub returns-in_ok-push : goal.returns-in_ok-push
returns-in_ok-push c =
    λ some. log_last c.args.records.now.items (vec_len c.args.records.now) c.in-Some.last.now _ c.args.mark
    (omega arith) some c.in-Some.ensures.value refl refl c.in_ok-push.ensures.ok
