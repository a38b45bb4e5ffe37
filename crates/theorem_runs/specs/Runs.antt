-- What both nodes' runs are by the log.
use Rattle.std.specs.Prelude.{◌≡◌, ◌<◌, ◌≤◌, ℕ, suc, Bool, true, false, ◌||◌, if◌then◌else◌, ⊤, List, [], ◌∷◌, ◌++◌, map, IfSome, IsSome, IsTrue, Option, None, Some}
use Rattle.std.specs.List.{AllByRecursion, filter_map, list_any}
use Rattle.tcp_track.specs.Lines.{sent_of}
use Rattle.tcp_track.specs.Stands.{segments}
use Rattle.state_wire.specs.Guest.{GuestState, Kind}
use Rattle.state_wire.specs.Regular.{FitsKind, GuestBytes}
use Rattle.frame_mirror.specs.declared.ring.Waiting.{Waiting}
use Rattle.colo_wire.specs.declared.messages.Message.{Message}
use Rattle.colo_wire.specs.declared.messages.Message.TheVariants.{Frame, End}
use Rattle.replay_log.specs.declared.records.Record.{Record}
use Rattle.splice_run.specs.Frames.{seen_in, turn_with}
use Rattle.splice_run.specs.Runs.{accepted_frame, is_accepted, run_turns}
use Rattle.splice_run.specs.Single.{Cut, cut_of, turns_at}
use Rattle.splice_run.specs.Tokens.{Taken, tokens}
use Rattle.pair_theorem.specs.History.{entries}
use Rattle.pair_theorem.specs.LogParts.{accepted_indices, contains_index, frames_on, inbox_indices, is_full_for, loses, told_secondary}
use Rattle.pair_theorem.specs.Messages.{waiting_in}
use Rattle.pair_theorem.specs.Past.{NodeRun, Past, Start, Step, is_secondary_stop, secondary_releases}
use Rattle.pair_theorem.specs.Places.{events}
use Rattle.theorem_runs.specs.Links.{copied_parts}

-- THE CUT: the marks of a log cut its turns into those of the primary, of the secondary, and of the
-- primary at the last capture
pub record IsCutBy (past : Past) (c : Cut) : Type 0 where
  pub primary : c.primary ≡ past.primary.turns
  pub secondary : c.secondary ≡ past.secondary.turns
  pub copy : past.awaits_ack ≡ true → turns_at past.captures c.copies ≡ past.copy.run.turns

abbrev pub AreCut : List Step → Past → Type 0
AreCut steps past = IsCutBy past (cut_of (tokens (entries steps)))

-- THE ITEMS of a node are the segments of what its guest sent, and beside them trims and commits
abbrev pub SaysItems : NodeRun → Type 0
SaysItems n = sent_of n.items ≡ segments n.run.sent

pub record AreSaid (past : Past) : Type 0 where
  pub primary : SaysItems past.primary
  pub secondary : SaysItems past.secondary
  pub copy : SaysItems past.copy.run

abbrev pub SayItems : List Step → Past → Type 0
SayItems steps past = AreSaid past

-- A FRAME THAT WAITS came before the next one; it is the accepted frame of its index, and what its
-- client had seen is what the log says
pub record IsTold (a : Start) (log : List Record) (next : ℕ) (w : Waiting) : Type 0 where
  pub below : w.index < next
  pub frame : accepted_frame a.stream w.index ≡ Some w.frame
  pub seen : seen_in log w.index ≡ Some w.seen

-- the frame that a message brings
abbrev pub waiting_on : Message → Option Waiting
waiting_on (Frame index seen trim frame) = Some (waiting_in index seen trim frame)
waiting_on _ = None

-- so is each of both inboxes, of the captured one, and on the link; of later frames nothing is said
pub record WaitRightly (a : Start) (log : List Record) (past : Past) : Type 0 where
  pub primary : AllByRecursion (IsTold a log past.next) past.primary_inbox
  pub secondary : AllByRecursion (IsTold a log past.next) past.secondary_inbox
  pub copy : AllByRecursion (IsTold a log past.next) past.copy.inbox
  pub link : AllByRecursion (IsTold a log past.next) (filter_map waiting_on past.to_secondary)
  pub fresh : (i : ℕ) → past.next ≤ i → seen_in log i ≡ None

abbrev pub AreTold : Start → List Step → Past → Type 0
AreTold a steps past = WaitRightly a (entries steps) past

-- THE RUN of a node is the run of its turns, each given the frame that the log says
abbrev pub AreTurnsTold : List Record → List Taken → Type 0
AreTurnsTold log turns =
    AllByRecursion (λ (t : Taken). IfSome t.index (λ i. IsSome (seen_in log i))) turns

-- each turn takes an accepted frame of the stream, or none
abbrev pub AreTurnsAccepted : Start → List Taken → Type 0
AreTurnsAccepted a turns =
    AllByRecursion (λ (t : Taken). IfSome t.index (λ i. IsTrue (is_accepted a.stream i))) turns

pub record IsRunBy (a : Start) (log : List Record) (n : NodeRun) : Type 0 where
  pub told : AreTurnsTold log n.turns
  pub accepted : AreTurnsAccepted a n.turns
  pub run : n.run ≡ run_turns a.kind a.stream a.run (map (turn_with (seen_in log)) n.turns)

pub record RunRightly (a : Start) (log : List Record) (past : Past) : Type 0 where
  pub primary : IsRunBy a log past.primary
  pub secondary : IsRunBy a log past.secondary
  pub copy : IsRunBy a log past.copy.run

abbrev pub AreRuns : Start → List Step → Past → Type 0
AreRuns a steps past = RunRightly a (entries steps) past

-- THE FRAMES TAKEN, by their indices
abbrev pub took_indices : NodeRun → List ℕ
took_indices n = filter_map (λ (t : Taken). t.index) n.turns

-- what stands on the link before the first End, and behind it
abbrev pub is_end : Message → Bool
is_end (End e) = true
is_end _ = false

abbrev pub until_end : List Message → List Message
until_end [] = []
until_end (m ∷ ms) = if is_end m then [] else m ∷ until_end ms

abbrev pub after_end : List Message → List Message
after_end [] = []
after_end (m ∷ ms) = if is_end m then ms else after_end ms

-- numbers that rise from one on, and stay below another
abbrev pub RisesFrom : ℕ → List ℕ → Type 0
RisesFrom low [] = ⊤
RisesFrom low (x ∷ xs) = (low ≤ x) × RisesFrom (suc x) xs

pub record RisesBelow (next : ℕ) (xs : List ℕ) : Type 0 where
  pub rises : RisesFrom 0 xs
  pub below : AllByRecursion (λ x. x < next) xs

-- THEY RISE: the frames that a node took, those that wait in its inbox, and those that come to it
abbrev pub primary_order : Past → List ℕ
primary_order past = took_indices past.primary ++ inbox_indices past.primary_inbox

abbrev pub secondary_order : Past → List ℕ
secondary_order past =
    took_indices past.secondary
    ++ (inbox_indices past.secondary_inbox ++ frames_on (until_end past.to_secondary))

-- of the copy, as a commit would put it into the secondary's place
abbrev pub copy_order : Past → List ℕ
copy_order past =
    took_indices past.copy.run
    ++ (inbox_indices past.copy.inbox ++ frames_on (after_end past.to_secondary))

pub record OrdersRise (past : Past) : Type 0 where
  pub primary : RisesBelow past.next (primary_order past)
  pub secondary : RisesBelow past.next (secondary_order past)
  pub copy : RisesBelow past.next (copy_order past)

abbrev pub Rise : List Step → Past → Type 0
Rise steps past = OrdersRise past

-- WHERE AN ACCEPTED FRAME IS
-- what the secondary took, holds and is to hear of, before an End and behind it
abbrev pub secondary_all : Past → List ℕ
secondary_all past =
    took_indices past.secondary
    ++ (inbox_indices past.secondary_inbox ++ frames_on past.to_secondary)

abbrev pub has_end : List Message → Bool
has_end ms = list_any is_end ms

-- it is among these, or its turn came where the inbox was full, or it was lost at the report of the
-- primary's stop
abbrev pub is_or_was : Start → List Step → List ℕ → ℕ → Bool
is_or_was a steps xs i =
    contains_index i xs || (is_full_for i steps || list_any (loses i) (events a steps))

-- each accepted frame is with the primary, until the survivor releases; with the secondary, until
-- it stops; and while an End is on the link with the copy, or behind it
pub record AccountsFor (a : Start) (steps : List Step) (past : Past) : Type 0 where
  pub primary : secondary_releases past ≡ false
      → AllByRecursion (λ i. IsTrue (contains_index i (primary_order past)))
      (accepted_indices steps)
  pub secondary : is_secondary_stop past.stop ≡ false
      → AllByRecursion (λ i. IsTrue (is_or_was a steps (secondary_all past) i))
      (accepted_indices steps)
  pub copy : has_end past.to_secondary ≡ true
      → AllByRecursion (λ i. IsTrue (contains_index i (copy_order past))) (accepted_indices steps)

-- THE STATES of both guests, and the captured one, are states of bytes with the kind's sizes
pub record IsState (kind : Kind) (state : GuestState) : Type 0 where
  pub fits : FitsKind kind state
  pub bytes : GuestBytes state

pub record AreStates (kind : Kind) (past : Past) : Type 0 where
  pub primary : IsState kind past.primary.run.state
  pub secondary : IsState kind past.secondary.run.state
  pub copy : IsState kind past.copy.run.run.state

abbrev pub StatesFit : Start → List Step → Past → Type 0
StatesFit a steps past = AreStates a.kind past

-- WHAT THE SECONDARY WAS TOLD, and what it is to hear before the next End, ends with a whole
-- checkpoint
pub record EndsWithCopy (steps : List Step) (past : Past) : Type 0 where
  pub earlier : List Message
  pub whole : told_secondary steps ++ until_end past.to_secondary
      ≡ earlier ++ copied_parts past.copy past.captures

abbrev pub Tells : List Step → Past → Type 0
Tells steps past = has_end past.to_secondary ≡ true → EndsWithCopy steps past
