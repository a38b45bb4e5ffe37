-- A comparer that stands for a past, event by event of the theorem: what it answers is what the
-- event says, and it stands for the past after the event.
use Rattle.std.specs.Prelude.{◌≡◌, ℕ, Bool, false, true, if◌then◌else◌, List, ◌++◌, fold, map, Some}
use Rattle.inet_frame.specs.Counted.{tcp_in}
use Rattle.inet_frame.specs.Fields.{TcpFields}
use Rattle.inet_frame.specs.declared.tuple.Tuple.{Tuple}
use Rattle.tcp_track.specs.Tracking.{Tracking}
use Rattle.seq_rewriter.specs.Kept.{KeptNumbers}
use Rattle.state_wire.specs.Guest.{GuestState, Kind}
use Rattle.frame_mirror.specs.declared.ring.Waiting.{Waiting}
use Rattle.out_compare.specs.Comparing.{Comparing, nothing_compared, take_own, take_heard, learn, settlement_of, need_after, settle, leave_alone}
use Rattle.out_compare.specs.Comparing as comparer
use Rattle.out_compare.specs.Look.{look, look_after}
use Rattle.out_compare.specs.Surviving.{survive, survivor}
use Rattle.pair_theorem.specs.Checkpoint.{capture}
use Rattle.pair_theorem.specs.ClientFrames.{trims_by}
use Rattle.pair_theorem.specs.Events.{Ended, accept_by, ack_ended, known_ended, look_at, number_message, primary_ended, primary_survives, secondary_survives, sent_ended, survivor_ended, waiting_of}
use Rattle.pair_theorem.specs.GuestTurns.{TurnMade, TurnNumbers, turn_from}
use Rattle.pair_theorem.specs.Past.{Outcome, Past, boot, first_past, secondary_releases}
use Rattle.settle_history.specs.Laws.{cause_in, numbers_said}
use Rattle.settle_history.specs.Standing.{Books, SameNumbers, StandsFor, Tracks}
use Rattle.compare_history.specs.Books.{primary_books, survivor_books}

-- A new comparer stands for the past of two guests that have sent nothing.
abbrev pub BeginsAtBoot : Type 0
BeginsAtBoot =
    (kind : Kind) (stream : List (List ℕ)) (state : GuestState)
    (primary_turned secondary_turned : ℕ) →
    StandsFor (primary_books (first_past (boot kind stream state primary_turned secondary_turned)))
    nothing_compared

-- The end of an event that settles: what is released, the cause of a checkpoint, and the past.
pub record EndsAs (ended : Ended) (books : Past → Books) (is_turn : Bool) (x : Comparing) : Type 0
  where
    pub out : (settlement_of x is_turn).out ≡ ended.out
    pub cause_is : cause_in (need_after x is_turn) ≡ ended.cause
    pub after : StandsFor (books ended.after) (settle x is_turn)

-- A turn: all that the guest sent is taken, and then the event ends; the numbers that the answers
-- say to be new are those that are told to the secondary.
pub record TurnsAs (past : Past) (made : TurnMade) (ended : Ended) (books : Past → Books)
    (x : Comparing) : Type 0 where
  pub ends : EndsAs ended books true (fold take_own x made.output)
  pub tells : ended.after.to_secondary
      ≡ (if past.is_reported then past.to_secondary
      else past.to_secondary ++ map number_message (numbers_said x made.output))

abbrev pub PrimaryTurns : Type 0
PrimaryTurns =
    (kind : Kind) (past : Past) (takes : Bool) (n : TurnNumbers) (x : Comparing) →
    StandsFor (primary_books past) x →
    TurnsAs past (turn_from kind past.primary past.primary_inbox takes n)
    (primary_ended past (turn_from kind past.primary past.primary_inbox takes n)) primary_books x

abbrev pub SurvivorTurns : Type 0
SurvivorTurns =
    (kind : Kind) (past : Past) (takes : Bool) (n : TurnNumbers) (x : Comparing) →
    StandsFor (survivor_books past) x →
    TurnsAs past (turn_from kind past.secondary past.secondary_inbox takes n)
    (survivor_ended past (turn_from kind past.secondary past.secondary_inbox takes n))
    survivor_books x

-- The primary hears that the secondary has a number.
abbrev pub HearsKnown : Type 0
HearsKnown =
    (past : Past) (t : Tuple) (client number : ℕ) (x : Comparing) →
    StandsFor (primary_books past) x →
    EndsAs (known_ended past t client number) primary_books false (learn x t client number)

-- It hears a frame that the secondary's guest sent.
abbrev pub HearsSent : Type 0
HearsSent =
    (past : Past) (frame : List ℕ) (x : Comparing) → past.is_reported ≡ false →
    StandsFor (primary_books past) x →
    EndsAs (sent_ended past frame) primary_books false (take_heard x frame)

-- It hears that the secondary loaded the checkpoint.
abbrev pub HearsAck : Type 0
HearsAck =
    (past : Past) (x : Comparing) → StandsFor (primary_books past) x →
    EndsAs (ack_ended past) primary_books false (comparer.acknowledge x)

-- The secondary's stop is reported.
abbrev pub PrimarySurvives : Type 0
PrimarySurvives =
    (past : Past) (x : Comparing) → StandsFor (primary_books past) x →
    EndsAs (primary_survives past) primary_books false (leave_alone x)

-- The primary's stop is reported: the secondary, which has no comparer so far, releases what its
-- lines hold.
pub record SurvivesWith (outcome : Outcome) (lines : Tracking) (numbers : KeptNumbers) : Type 0
  where
    pub out : (survive lines numbers).out ≡ outcome.step.released
    pub after : StandsFor (survivor_books outcome.after) (survivor lines (survive lines numbers))

abbrev pub SecondarySurvives : Type 0
SecondarySurvives =
    (past : Past) (lines : Tracking) (numbers : KeptNumbers) → Tracks past.secondary.items lines →
    SameNumbers past.secondary_numbers numbers →
    SurvivesWith (secondary_survives past) lines numbers

-- The primary captures a checkpoint.
abbrev pub CapturesThePast : Type 0
CapturesThePast =
    (past : Past) (x : Comparing) → StandsFor (primary_books past) x →
    StandsFor (primary_books (capture past)) (comparer.capture x)

-- the waiting frame that a client's frame makes
abbrev pub looked_frame : Past → List ℕ → Waiting
looked_frame past frame = waiting_of past (look_at past (tcp_in frame)) frame

-- A client's TCP frame: what the client has seen, how far its segment trims, and the past where the
-- frame is accepted with that trim.
pub record LooksWith (past after : Past) (frame : List ℕ) (s : TcpFields) (books : Past → Books)
    (x : Comparing) : Type 0 where
  pub seen : (look x s).seen ≡ (look_at past (tcp_in frame)).seen
  pub trim_is : (look x s).trim ≡ (look_at past (tcp_in frame)).trim
  pub accepted : StandsFor (books after) (look_after x s)

abbrev pub PrimaryLooks : Type 0
PrimaryLooks =
    (past : Past) (frame : List ℕ) (s : TcpFields) (x : Comparing) → tcp_in frame ≡ Some s →
    secondary_releases past ≡ false → StandsFor (primary_books past) x →
    LooksWith past
    (accept_by false past (looked_frame past frame) (trims_by (looked_frame past frame))) frame s
    primary_books x

abbrev pub SurvivorLooks : Type 0
SurvivorLooks =
    (past : Past) (frame : List ℕ) (s : TcpFields) (x : Comparing) → tcp_in frame ≡ Some s →
    secondary_releases past ≡ true → StandsFor (survivor_books past) x →
    LooksWith past
    (accept_by true past (looked_frame past frame) (trims_by (looked_frame past frame))) frame s
    survivor_books x
