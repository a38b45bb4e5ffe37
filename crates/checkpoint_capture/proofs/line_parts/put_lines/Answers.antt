-- One line more, and in the end all.
use Rattle.std.proofs.Common.{◌+◌, take, drop}
use Rattle.std.specs.List.{flat_map}
use Rattle.checkpoint_form.specs.Captured.{lines_of}
use Rattle.checkpoint_form.specs.Rows.{line_messages}
use Rattle.checkpoint_capture.proofs.HeldLemmas.{flat_more}
use Rattle.checkpoint_capture.proofs.PutLemmas.{put_more}
use Rattle.checkpoint_capture.proofs.line_parts.put_lines.Goals as goal

pub loop-k-preserved : goal.loop-k-preserved
loop-k-preserved c =
    let lines = lines_of c.args.lines.now in
    put_more c.args.waits.now c.loop-k.waits c.put_entry.new.waits
    (flat_map (line_messages c.args.numbers.now) (take c.loop-k.k lines))
    (flat_map (line_messages c.args.numbers.now) (take 1 (drop c.loop-k.k lines)))
    (flat_map (line_messages c.args.numbers.now) (take (c.loop-k.k + 1) lines)) c.loop-k.invariant
    c.in_ok-put_entry.ensures (flat_more (line_messages c.args.numbers.now) lines c.loop-k.k)
