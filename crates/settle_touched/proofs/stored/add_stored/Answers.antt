-- A new key goes last.
use Rattle.indexmap.proofs.CallerLemmas.{insert_entry-new}
use Rattle.tcp_track.specs.Segments.{same_tuple}
use Rattle.settle_touched.proofs.stored.add_stored.Goals as goal

pub returns : goal.returns
returns c = rw c.in_ok-insert.ensures.entries
    (insert_entry-new same_tuple c.args.table.now c.args.tuple _ c.requires)
