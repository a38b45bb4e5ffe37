-- Splicing, as the worked examples show it: what is known of the secondary after two cuts, after a commit that is not
-- heard of yet, and once it is; and where released frames stand.
use Rattle.std.proofs.Common.{◌≡◌, ◌==◌, ◌&&◌, Bool, true, List, refl}
use Rattle.std.specs.List.{list_all}
use Rattle.inet_frame.specs.Fields.{TcpFields}
use Rattle.tcp_track.specs.Lines.{sent_of}
use Rattle.replay_log.specs.declared.lines.Line.{Line}
use Rattle.std.proofs.lemmas.Bool.{and_parts}
use Rattle.pair_theorem.specs.FrameParts.{PlaceAcks, PlaceStands}
use Rattle.pair_theorem.specs.History.{pair_log, past_at}
use Rattle.pair_theorem.specs.Past.{Past}
use Rattle.pair_theorem.specs.Places.{Place, places}
use Rattle.pair_theorem.specs.Splicing.{StandIn, known_frames, before_commit}
use Rattle.pair_theorem.proofs.AllLemmas.{All_from}
use Rattle.pair_theorem.proofs.PartTests.{acks_if, place_acks, place_stands, same_bytes, same_list, stands_if}
use Rattle.pair_theorem.proofs.WorkedFrames.{worked_start}
use Rattle.pair_theorem.proofs.WorkedSchedules.{captured_lines, difference_lines, end_after_stop_lines, failover_lines, two_cuts_lines}
use Rattle.pair_theorem.proofs.PrimaryRunsRow.{commit_lines}

unfoldable pub worked_past : List Line → Past
unfolding past_at pair_log worked_start
worked_past lines = past_at worked_start (pair_log worked_start lines)

-- WHAT IS KNOWN
abbrev pub same_frame : TcpFields → TcpFields → Bool
same_frame x y = x.seq == y.seq && (x.ack == y.ack && (x.flags == y.flags && same_bytes x.payload y.payload))

abbrev pub same_frames : List TcpFields → List TcpFields → Bool
same_frames xs ys = same_list same_frame xs ys

pub two_cuts_known : same_frames (sent_of (worked_past two_cuts_lines).known_items)
    (known_frames (worked_past two_cuts_lines)) ≡ true
unfolding worked_past
two_cuts_known = refl

pub captured_known : same_frames (sent_of (worked_past captured_lines).known_items)
    (known_frames (worked_past captured_lines)) ≡ true
unfolding worked_past
captured_known = refl

-- a commit that the primary has not heard of, and once it has
pub commit_copied : same_frames (sent_of (worked_past commit_lines).copy.run.items)
    (sent_of (before_commit (worked_past commit_lines).secondary.items)) ≡ true
unfolding worked_past
commit_copied = refl

pub difference_known : same_frames (sent_of (worked_past difference_lines).known_items)
    (known_frames (worked_past difference_lines)) ≡ true
unfolding worked_past
difference_known = refl

-- WHERE RELEASED FRAMES STAND
unfoldable pub stand_in_test : List TcpFields → List Place → Bool
unfolding place_stands place_acks
stand_in_test frames ps = list_all (place_stands frames) ps && list_all (place_acks frames) ps

pub stand_in_from : (frames : List TcpFields) (ps : List Place) → stand_in_test frames ps ≡ true → StandIn frames ps
unfolding stand_in_test
stand_in_from frames ps e =
    let parts = and_parts (list_all (place_stands frames) ps) (list_all (place_acks frames) ps) e in (
      All_from (PlaceStands frames) (place_stands frames) ps (stands_if frames) parts.0,
      All_from (PlaceAcks frames) (place_acks frames) ps (acks_if frames) parts.1,
    )

unfoldable pub worked_places : List Line → List Place
unfolding places pair_log worked_start
worked_places lines = places worked_start (pair_log worked_start lines)

-- in what is known, and while a checkpoint is under way in what the copy had sent
two_cuts_test : stand_in_test (sent_of (worked_past two_cuts_lines).known_items) (worked_places two_cuts_lines) ≡ true
unfolding worked_past worked_places stand_in_test
two_cuts_test = refl

pub two_cuts_stand : StandIn (sent_of (worked_past two_cuts_lines).known_items) (worked_places two_cuts_lines)
two_cuts_stand =
    stand_in_from (sent_of (worked_past two_cuts_lines).known_items) (worked_places two_cuts_lines) two_cuts_test

captured_test : stand_in_test (sent_of (worked_past captured_lines).copy.run.items) (worked_places captured_lines)
    ≡ true
unfolding worked_past worked_places stand_in_test
captured_test = refl

pub captured_stand : StandIn (sent_of (worked_past captured_lines).copy.run.items) (worked_places captured_lines)
captured_stand =
    stand_in_from (sent_of (worked_past captured_lines).copy.run.items) (worked_places captured_lines) captured_test

-- in the survivor's own run, what both nodes released
failover_test : stand_in_test (sent_of (worked_past failover_lines).secondary.items) (worked_places failover_lines)
    ≡ true
unfolding worked_past worked_places stand_in_test
failover_test = refl

pub failover_stand : StandIn (sent_of (worked_past failover_lines).secondary.items) (worked_places failover_lines)
failover_stand =
    stand_in_from (sent_of (worked_past failover_lines).secondary.items) (worked_places failover_lines) failover_test

between_test : stand_in_test (sent_of (worked_past end_after_stop_lines).secondary.items)
    (worked_places end_after_stop_lines) ≡ true
unfolding worked_past worked_places stand_in_test
between_test = refl

pub between_stand : StandIn (sent_of (worked_past end_after_stop_lines).secondary.items)
    (worked_places end_after_stop_lines)
between_stand =
    stand_in_from (sent_of (worked_past end_after_stop_lines).secondary.items) (worked_places end_after_stop_lines)
    between_test
