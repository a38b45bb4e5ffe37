-- A checkpoint: what a capture copies, and the messages that it puts on the link.
use Rattle.std.specs.Prelude.{ℕ, ◌+◌, ◌%◌, ◌^◌, true, List, [], ◌∷◌, ◌++◌}
use Rattle.std.specs.List.{flat_map}
use Rattle.inet_frame.specs.declared.tuple.Tuple.{Tuple}
use Rattle.tcp_track.specs.Lines.{Item, line, order}
use Rattle.settle_rules.specs.Matching.{client_or_zero}
use Rattle.settle_rules.specs.Numbers.{KeptNumber, kept_number, number_or_zero, thin}
use Rattle.colo_wire.specs.declared.messages.Message.{Message}
use Rattle.colo_wire.specs.declared.messages.Message.TheVariants as message
use Rattle.checkpoint_form.specs.Inbox.{inbox_messages}
use Rattle.checkpoint_form.specs.Rows.{bytes_messages, row_bytes, row_message}
use Rattle.checkpoint_form.specs.State.{state_messages}
use Rattle.pair_theorem.specs.Past.{Past}

-- a line under the number that its client knows, and its bytes
unfoldable pub row_messages : List Item → List KeptNumber → Tuple → List Message
unfolding line
row_messages items numbers t =
    let l = line t items in
    row_message t l (number_or_zero (kept_number t (client_or_zero l.opening) numbers))
    ∷ bytes_messages (row_bytes l)

-- everything before the End: state, memory, disk, inbox, and the lines in table order
unfoldable pub checkpoint_messages : Past → List KeptNumber → ℕ → List Message
unfolding row_messages order
checkpoint_messages past numbers e =
    message.Begin e ∷ state_messages past.primary.run.state ++ inbox_messages past.primary_inbox
    ++ flat_map (row_messages past.primary.items numbers) (order past.primary.items)

-- the number of the next capture
abbrev pub next_capture : Past → ℕ
next_capture past = (past.captures + 1) % 2 ^ 32

-- the numbers are thinned, the run, inbox and numbers are copied, and the messages go to the
-- secondary
unfoldable pub capture : Past → Past
unfolding checkpoint_messages thin
capture past =
    let numbers = thin past.primary.items past.numbers in
    let e = next_capture past in
    record past {
      captures = e;
      awaits_ack = true;
      numbers = numbers;
      copy = record { run = past.primary; inbox = past.primary_inbox; numbers = numbers };
      to_secondary =
          past.to_secondary ++ (checkpoint_messages past numbers e ++ message.End e ∷ []);
    }
