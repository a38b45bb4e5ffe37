-- A new key goes last.
use Rattle.indexmap.proofs.CallerLemmas.{insert_entry-new}
use Rattle.tcp_track.specs.Tracking.{same_incarnation}
use Rattle.seq_rewriter.proofs.kept.add_number.Goals as goal

pub returns-clause-ok : goal.returns-clause-ok
returns-clause-ok c = rw c.in_ok-insert.ensures.entries
    (insert_entry-new same_incarnation c.args.table.now c.args.incarnation _ c.requires)
