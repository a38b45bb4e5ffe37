-- The parts that speak of the log, the run that it names, its marks, the files and the guests.
use Rattle.std.specs.Prelude.{◌≡◌, ℕ, ◌+◌, ◌%◌, ◌^◌, Bool, true, false, ◌&&◌, ◌||◌, ◌==◌, IsTrue, if◌then◌else◌, List, [], ◌∷◌, ◌++◌, length, map, filter, fold, All, Option, None, Some}
use Rattle.std.specs.Int.{w32, to_be_bytes}
use Rattle.std.specs.List.{concat, filter_map, flat_map, list_any}
use Rattle.std.specs.List.Sorted.{IsStrictlyIncreasing}
use Rattle.std.specs.Option.{option_map_or}
use Rattle.colo_base.specs.declared.fault.Cause.{Cause}
use Rattle.settle_rules.specs.Release.{Released, released_frame}
use Rattle.frame_mirror.specs.declared.ring.Waiting.{Waiting}
use Rattle.state_wire.specs.Guest.{GuestState}
use Rattle.kept_checkpoint.specs.Spelled.{spell}
use Rattle.pair_theorem.specs.History.{entries, lines_of, past_at}
use Rattle.replay_log.specs.Texts.{record_text}
use Rattle.replay_log.specs.declared.lines.Line.{Line}
use Rattle.replay_log.specs.declared.lines.Line.TheVariants.{ToSecondary, ToPrimary}
use Rattle.replay_log.specs.declared.records.Answer.{Answer}
use Rattle.replay_log.specs.declared.records.Answer.TheVariants.{Accepted, Heard}
use Rattle.replay_log.specs.declared.records.Mark.{Mark}
use Rattle.replay_log.specs.declared.records.Mark.TheVariants.{Captured, Committed, Acknowledged}
use Rattle.replay_log.specs.declared.records.Record.{Record}
use Rattle.pair_theorem.specs.Log.{is_report}
use Rattle.splice_run.specs.Log.{has_primary_stop, released_count}
use Rattle.colo_wire.specs.Spelling.{line_front, line_numbers, line_rest, message_bytes, number_body, waiting_body}
use Rattle.colo_wire.specs.declared.messages.Message.{Message}
use Rattle.colo_wire.specs.declared.messages.Message.TheVariants.{Frame, End, Ack}
use Rattle.pair_theorem.specs.Past.{Past, Start, Step, is_primary_stop}
use Rattle.pair_theorem.specs.Places.{Event, delivered_due, delivered_in, events}
use Rattle.pair_theorem.specs.TheRun.{run_of, the_run}
use Rattle.splice_run.specs.Runs.{is_accepted}
use Rattle.splice_run.specs.Single.{secondary_turns, taken_turns}
use Rattle.splice_run.specs.Tokens.{Taken, made_by_primary, made_by_secondary}

-- LOG
-- The log goes through the schedule, line by line to its end, and its answers state how many
-- frames each event released.
abbrev pub counts_stated : List Step → List ℕ
counts_stated steps = map (λ (s : Step). released_count s.entry.answer) steps

abbrev pub counts_released : List Step → List ℕ
counts_released steps = map (λ (s : Step). length s.released) steps

pub record LogPart (lines : List Line) (steps : List Step) : Type 0 where
  pub schedule : lines_of steps ≡ lines
  pub counts : counts_stated steps ≡ counts_released steps

-- NAMES ONE RUN
abbrev pub contains_index : ℕ → List ℕ → Bool
contains_index i xs = list_any (λ x. x == i) xs

-- the client frames that the run takes
unfoldable pub run_indices : List Record → List ℕ
unfolding taken_turns
run_indices log = filter_map (λ (t : Taken). t.index) (taken_turns log)

-- those that the pair accepted
abbrev pub accepted_in : Answer → Option ℕ
accepted_in (Accepted index seen trim released) = Some index
accepted_in _ = None

abbrev pub accepted_indices : List Step → List ℕ
accepted_indices steps = filter_map (λ (s : Step). accepted_in s.entry.answer) steps

abbrev pub frame_in : Message → Option ℕ
frame_in (Frame index seen trim frame) = Some index
frame_in _ = None

abbrev pub frames_on : List Message → List ℕ
frames_on messages = filter_map frame_in messages

-- the secondary's inbox held as many as it can
abbrev pub full_with : Option Message → Answer → Option ℕ
full_with (Some (Frame index seen trim frame)) (Heard kind true) = Some index
full_with _ _ = None

abbrev pub is_full_for : ℕ → List Step → Bool
is_full_for i steps =
    contains_index i (filter_map (λ (s : Step). full_with s.delivered s.entry.answer) steps)

-- it was on the link to the secondary at the report of the primary's stop
abbrev pub loses : ℕ → Event → Bool
loses i e =
    is_report e.step.entry.line
    && (is_primary_stop e.past.stop && contains_index i (frames_on e.past.to_secondary))

abbrev pub inbox_indices : List Waiting → List ℕ
inbox_indices inbox = map (λ (w : Waiting). w.index) inbox

-- it waits in the inbox of the node whose run it is, or on the link to it
abbrev pub waits_for : ℕ → Past → Bool
waits_for i past =
    if is_primary_stop past.stop
    then contains_index i (inbox_indices past.secondary_inbox ++ frames_on past.to_secondary)
    else contains_index i (inbox_indices past.primary_inbox)

unfoldable pub is_accounted_for : Start → List Step → ℕ → Bool
unfolding run_indices events past_at
is_accounted_for a steps i =
    contains_index i (run_indices (entries steps))
    || (is_full_for i steps
    || (list_any (loses i) (events a steps) || waits_for i (past_at a steps)))

-- The frames that the run takes rise and are accepted frames of the stream; and of those that the
-- pair accepted, before the start (they wait in its inbox) or since, none is missing but by a full
-- inbox, a stop, or because it still waits.
pub record NamesPart (a : Start) (steps : List Step) : Type 0 where
  pub rising : IsStrictlyIncreasing (run_indices (entries steps))
  pub accepted : All (λ i. IsTrue (is_accepted a.stream i)) (run_indices (entries steps))
  pub missing : All (λ i. IsTrue (is_accounted_for a steps i))
      (inbox_indices a.inbox ++ accepted_indices steps)

-- MARKS
abbrev pub is_captured : Mark → Bool
is_captured (Captured e why) = true
is_captured (Committed e) = false
is_captured (Acknowledged e) = false

abbrev pub is_committed : Mark → Bool
is_committed (Captured e why) = false
is_committed (Committed e) = true
is_committed (Acknowledged e) = false

abbrev pub is_acknowledged : Mark → Bool
is_acknowledged (Captured e why) = false
is_acknowledged (Committed e) = false
is_acknowledged (Acknowledged e) = true

-- the mark of each event that a cause makes, numbered from 1 on modulo 2^32
abbrev pub capture_marks : ℕ → List (Option Cause) → List (List Mark)
capture_marks n [] = []
capture_marks n (None ∷ causes) = [] ∷ capture_marks n causes
capture_marks n (Some why ∷ causes) =
    (Captured ((n + 1) % 2 ^ 32) why ∷ []) ∷ capture_marks (n + 1) causes

-- the mark of an End that the secondary hears, and of an Ack that the primary hears
abbrev pub commit_marks : Line → Option Message → List Mark
commit_marks ToSecondary (Some (End e)) = Committed e ∷ []
commit_marks _ _ = []

abbrev pub ack_marks : Line → Option Message → List Mark
ack_marks ToPrimary (Some (Ack e)) = Acknowledged e ∷ []
ack_marks _ _ = []

abbrev pub commits_due : List Step → List (List Mark)
commits_due steps = map (λ (s : Step). commit_marks s.entry.line s.delivered) steps

abbrev pub acks_due : List Step → List (List Mark)
acks_due steps = map (λ (s : Step). ack_marks s.entry.line s.delivered) steps

-- the marks of one sort, event by event
abbrev pub marks_that : (Mark → Bool) → List Step → List (List Mark)
marks_that sort steps = map (λ (s : Step). filter sort s.entry.marks) steps

abbrev pub causes_in : List Event → List (Option Cause)
causes_in es = map (λ (e : Event). e.outcome.cause) es

-- A capture stands exactly where a cause names why, a commit exactly where an End is delivered, an
-- acknowledgement exactly where the primary hears one.
pub record MarksPart (a : Start) (steps : List Step) : Type 0 where
  pub captures : marks_that is_captured steps ≡ capture_marks 0 (causes_in (events a steps))
  pub commits : marks_that is_committed steps ≡ commits_due steps
  pub acks : marks_that is_acknowledged steps ≡ acks_due steps

-- FILES
-- the text of the log, event by event
abbrev pub log_bytes : List Step → List ℕ
log_bytes steps = flat_map record_text (entries steps)

-- a record of a stream of frames: its length in four bytes, and its bytes
abbrev pub frame_record : Released → List ℕ
frame_record r = to_be_bytes w32 (length (released_frame r)) ++ released_frame r

unfoldable pub released_bytes : List Step → List ℕ
unfolding released_frame
released_bytes steps = flat_map (λ (s : Step). flat_map frame_record s.released) steps

-- `>` before a message to the secondary, `<` before one to the primary
abbrev pub arrow : Line → ℕ
arrow ToPrimary = 0x3C
arrow _ = 0x3E

unfoldable pub delivered_bytes : Step → List ℕ
unfolding message_bytes waiting_body number_body line_front line_numbers line_rest
delivered_bytes s =
    option_map_or (λ (m : Message). arrow s.entry.line ∷ message_bytes m) s.delivered []

unfoldable pub wire_bytes : List Step → List ℕ
unfolding delivered_bytes
wire_bytes steps = flat_map delivered_bytes steps

-- what both nodes' guests are when the log ends
pub record Nodes : Type 0 where
  pub primary : GuestState
  pub secondary : GuestState
  pub primary_turned : ℕ
  pub secondary_turned : ℕ

-- both as the definitions have them after some steps
unfoldable pub nodes_at : Start → List Step → Nodes
unfolding past_at
nodes_at a steps =
    let past = past_at a steps in
    record {
      primary = past.primary.run.state;
      secondary = past.secondary.run.state;
      primary_turned = past.primary_turned;
      secondary_turned = past.secondary_turned;
    }

-- the secondary's guest exactly where the primary was stopped
abbrev pub survivor_state : List Record → Nodes → GuestState
survivor_state log nodes = if has_primary_stop log then nodes.secondary else nodes.primary

-- what is written: the log, the released frames, the delivered messages, memory and disk
pub record OutFiles : Type 0 where
  pub log : List ℕ
  pub released : List ℕ
  pub wire : List ℕ
  pub ram : List ℕ
  pub disk : List ℕ

-- the files of some steps and of the guests after them
unfoldable pub files_of : List Step → Nodes → OutFiles
files_of steps nodes =
    let state = survivor_state (entries steps) nodes in
    record {
      log = log_bytes steps;
      released = released_bytes steps;
      wire = wire_bytes steps;
      ram = concat state.pages;
      disk = concat state.sectors;
    }

-- The survivor is in the run's last state, and memory and disk written are its own. The log, the
-- released frames and the delivered messages are written in order; and in each event that message
-- is delivered which the definitions give.
pub record FilesPart (a : Start) (steps : List Step) (nodes : Nodes)
    (files : OutFiles) : Type 0 where
  pub state : survivor_state (entries steps) nodes ≡ (the_run a (entries steps)).state
  pub ram : files.ram ≡ concat (survivor_state (entries steps) nodes).pages
  pub disk : files.disk ≡ concat (survivor_state (entries steps) nodes).sectors
  pub log : files.log ≡ log_bytes steps
  pub released : files.released ≡ released_bytes steps
  pub wire : files.wire ≡ wire_bytes steps
  pub messages : delivered_in steps ≡ delivered_due (events a steps)

-- GUESTS
-- the turns that the records say each node made
abbrev pub turns_of_primary : List Record → List Taken
turns_of_primary log = flat_map (λ (r : Record). made_by_primary r.line r.answer) log

abbrev pub turns_of_secondary : List Record → List Taken
turns_of_secondary log = flat_map (λ (r : Record). made_by_secondary r.line r.answer) log

-- a count of turns goes on, modulo 2^64
abbrev pub count_turn : ℕ → Taken → ℕ
count_turn turned t = (turned + 1) % 2 ^ 64

abbrev pub count_on : ℕ → List Taken → ℕ
count_on turned turns = fold count_turn turned turns

-- Each made turn is one turn of its own node's guest, and no other event makes any.
pub record GuestsPart (a : Start) (steps : List Step) (nodes : Nodes) : Type 0 where
  pub primary : nodes.primary_turned ≡ count_on a.primary_turned (turns_of_primary (entries steps))
  pub secondary : nodes.secondary_turned
      ≡ count_on a.secondary_turned (turns_of_secondary (entries steps))

-- WHAT THE SECONDARY WAS TOLD
abbrev pub told_with : Line → Option Message → List Message
told_with ToSecondary (Some m) = m ∷ []
told_with _ _ = []

-- the messages that the secondary heard, in order
abbrev pub told_secondary : List Step → List Message
told_secondary steps = flat_map (λ (s : Step). told_with s.entry.line s.delivered) steps

-- Right after an End is delivered the secondary's guest is in the state that all it was told spells
-- over the start's: state bytes, pages and sectors, the last for each place.
abbrev pub ToldPart : Start → List Step → Nodes → Type 0
ToldPart a steps nodes =
    (before : List Step) (s : Step) (e : ℕ) → steps ≡ before ++ s ∷ [] → s.delivered ≡ Some (End e)
    → nodes.secondary ≡ fold spell a.run.state (told_secondary steps)

-- The secondary's guest is in the state of its own run: the primary's turns before the last
-- committed capture, and then its own turns.
abbrev pub SecondaryPart : Start → List Step → Nodes → Type 0
SecondaryPart a steps nodes =
    nodes.secondary ≡ (run_of a (entries steps) (secondary_turns (entries steps))).state
