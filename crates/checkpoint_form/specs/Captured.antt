-- The messages of a whole checkpoint but its End, of what a node holds: state, memory, disk, inbox,
-- and the lines in table order.
use Rattle.std.specs.Prelude.{ℕ, List, ◌∷◌, ◌++◌, map}
use Rattle.std.specs.List.{flat_map}
use Rattle.inet_frame.specs.declared.tuple.Tuple.{Tuple}
use Rattle.tcp_track.specs.LineFields.{LineFields}
use Rattle.tcp_track.specs.Tracking.{Tracking}
use Rattle.tcp_track.specs.declared.table.Entry.{Entry}
use Rattle.seq_rewriter.specs.Kept.{KeptNumbers}
use Rattle.frame_mirror.specs.declared.ring.Waiting.{Waiting}
use Rattle.state_wire.specs.Guest.{GuestState}
use Rattle.colo_wire.specs.declared.messages.Message.{Message}
use Rattle.colo_wire.specs.declared.messages.Message.TheVariants.{Begin}
use Rattle.checkpoint_form.specs.Inbox.{inbox_messages}
use Rattle.checkpoint_form.specs.Rows.{line_messages}
use Rattle.checkpoint_form.specs.State.{state_messages}

-- each tuple with its line
abbrev pub lines_of : Tracking → List (Tuple × LineFields)
lines_of tracking = map (λ (x : Tuple × Entry). (x.0, x.1.line)) tracking.entries

unfoldable pub captured_messages : GuestState → List Waiting → Tracking → KeptNumbers → ℕ
    → List Message
captured_messages state inbox tracking numbers e =
    Begin e ∷ state_messages state ++ inbox_messages inbox
    ++ flat_map (line_messages numbers) (lines_of tracking)
