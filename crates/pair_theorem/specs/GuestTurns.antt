-- A turn of a guest, from the inbox of its node.
use Rattle.std.specs.Prelude.{ℕ, Bool, true, false, ◌&&◌, List, [], ◌∷◌, ◌++◌, map, Option, None, Some}
use Rattle.inet_frame.specs.Frame.{seen_of}
use Rattle.tcp_track.specs.Lines.{sent, sent_of}
use Rattle.tcp_track.specs.Stands.{segments}
use Rattle.frame_mirror.specs.declared.ring.Waiting.{Waiting}
use Rattle.inet_frame.specs.Counted.{tcp_in}
use Rattle.inet_frame.specs.Fields.{TcpFields}
use Rattle.inet_build.specs.Edit.{shift_ack, update_checksum}
use Rattle.shared_definitions.specs.Overwrite.{overwrite}
use Rattle.seq_rewriter.specs.Given.{opening_for, raise_frame}
use Rattle.tcp_track.specs.Segments.{may_open}
use Rattle.tcp_track.specs.Stands.{opening_of}
use Rattle.state_wire.specs.Guest.{GuestTurn, Kind}
use Rattle.state_wire.specs.Run.{run_turn}
use Rattle.pair_theorem.specs.Past.{NodeRun}
use Rattle.splice_run.specs.Tokens.{Taken}

-- the numbers of a turn of a schedule
pub record TurnNumbers : Type 0 where
  pub clock : ℕ
  pub blocks : ℕ
  pub steps : ℕ

abbrev pub guest_turn : TurnNumbers → Option (List ℕ) → GuestTurn
guest_turn n frame =
    record { ticks = n.clock; frame = frame; requests = n.blocks; steps = n.steps }

abbrev pub taken_turn : TurnNumbers → Option ℕ → Taken
taken_turn n index =
    record { clock = n.clock; index = index; blocks = n.blocks; steps = n.steps }

-- a run with one turn more
unfoldable pub add_turn : Kind → NodeRun → GuestTurn → Taken → NodeRun
unfolding seen_of
add_turn kind node turn taken = record {
  turns = node.turns ++ taken ∷ [];
  run = run_turn kind node.run turn;
  items = node.items ++ map sent (segments (kind.sent node.run.state turn));
}

-- the run, the inbox, the index of the frame that was taken, and what the guest sent in the turn
pub record TurnMade : Type 0 where
  pub run : NodeRun
  pub inbox : List Waiting
  pub index : Option ℕ
  pub output : List (List ℕ)

-- a frame of an inbox, which is clean, as a guest gets it that has sent these segments
unfoldable pub raise_waiting : Waiting → List TcpFields → List ℕ
unfolding raise_frame shift_ack update_checksum overwrite seen_of opening_of may_open
raise_waiting w said = raise_frame w.frame w.seen (opening_for (tcp_in w.frame) said)

unfoldable pub turn_without : Kind → NodeRun → List Waiting → TurnNumbers → TurnMade
unfolding add_turn
turn_without kind node inbox n = record {
  run = add_turn kind node (guest_turn n None) (taken_turn n None);
  inbox = inbox;
  index = None;
  output = kind.sent node.run.state (guest_turn n None);
}

unfoldable pub turn_with : Kind → NodeRun → Waiting → List Waiting → TurnNumbers → TurnMade
unfolding add_turn raise_waiting
turn_with kind node w inbox n =
    let turn = guest_turn n (Some (raise_waiting w (sent_of node.items))) in record {
      run = add_turn kind node turn (taken_turn n (Some w.index));
      inbox = inbox;
      index = Some w.index;
      output = kind.sent node.run.state turn;
    }

unfoldable pub turn_if : Bool → Kind → NodeRun → Waiting → List Waiting → TurnNumbers → TurnMade
unfolding turn_without turn_with
turn_if true kind node w inbox n = turn_with kind node w inbox n
turn_if false kind node w inbox n = turn_without kind node (w ∷ inbox) n

-- a turn takes the oldest frame where it is to, there is one, and the guest can receive
unfoldable pub turn_from : Kind → NodeRun → List Waiting → Bool → TurnNumbers → TurnMade
unfolding turn_without turn_if
turn_from kind node [] takes n = turn_without kind node [] n
turn_from kind node (w ∷ inbox) takes n =
    turn_if (takes && kind.can_receive node.run.state) kind node w inbox n
