-- SPLICING: what a stop of the primary joins. Six sentences on each front of a log and on each
-- event; what the proof of the theorem carries from event to event is these.
use Rattle.std.specs.Prelude.{◌≡◌, ℕ, Bool, true, false, not, ◌&&◌, ◌||◌, ◌==◌, nat_le, IsTrue, if◌then◌else◌, List, [], ◌∷◌, ◌++◌, fold, take, All, Option, None, Some}
use Rattle.std.specs.List.{filter_map, list_any}
use Rattle.inet_frame.specs.Fields.{TcpFields}
use Rattle.inet_frame.specs.Flags.{has_syn}
use Rattle.inet_frame.specs.declared.tuple.Tuple.{Tuple}
use Rattle.tcp_track.specs.Lines.{Item, commit, line, sent, sent_of, trim}
use Rattle.tcp_track.specs.Segments.{same_tuple}
use Rattle.tcp_track.specs.declared.openings.Opening.{Opening}
use Rattle.settle_rules.specs.Numbers.{KeptNumber, kept_number}
use Rattle.settle_rules.specs.Release.{Released, tcp, reply}
use Rattle.colo_wire.specs.declared.messages.Message.{Message}
use Rattle.replay_log.specs.declared.lines.Line.{Line}
use Rattle.pair_theorem.specs.Events.{is_ack_message}
use Rattle.pair_theorem.specs.FrameParts.{PlaceAcks, PlaceStands, Syn, syn_of}
use Rattle.pair_theorem.specs.History.{pair_log, past_at}
use Rattle.pair_theorem.specs.Log.{HasOneStop, is_report}
use Rattle.pair_theorem.specs.LogParts.{is_captured, is_committed}
use Rattle.pair_theorem.specs.Messages.{number_of}
use Rattle.pair_theorem.specs.Past.{Past, Start, Step, secondary_releases}
use Rattle.pair_theorem.specs.Places.{Event, Place, event_places, events, places}
use Rattle.pair_theorem.specs.Starts.{IsStart}

-- WHAT THE SECONDARY IS KNOWN TO HAVE SENT
-- the items of a run up to its last commit, and those after it
abbrev pub since_commit_from : List Item → List Item → List Item
since_commit_from own [] = own
since_commit_from own (commit ∷ items) = since_commit_from [] items
since_commit_from own (sent s ∷ items) = since_commit_from (own ++ sent s ∷ []) items
since_commit_from own (trim t c to ∷ items) = since_commit_from (own ++ trim t c to ∷ []) items

abbrev pub since_commit : List Item → List Item
since_commit items = since_commit_from [] items

abbrev pub before_commit_from : List Item → List Item → List Item → List Item
before_commit_from before own [] = before
before_commit_from before own (commit ∷ items) =
    before_commit_from (before ++ own ++ commit ∷ []) [] items
before_commit_from before own (sent s ∷ items) =
    before_commit_from before (own ++ sent s ∷ []) items
before_commit_from before own (trim t c to ∷ items) =
    before_commit_from before (own ++ trim t c to ∷ []) items

abbrev pub before_commit : List Item → List Item
before_commit items = before_commit_from [] [] items

-- a commit that the secondary made and the primary has not heard of
abbrev pub is_unheard_commit : Past → Bool
is_unheard_commit past = list_any is_ack_message past.to_primary

-- what the primary sent before the last committed capture, and then the first frames of the
-- secondary's own that were heard
abbrev pub known_frames : Past → List TcpFields
known_frames past =
    sent_of (before_commit past.secondary.items)
    ++ take past.sent_heard (sent_of (since_commit past.secondary.items))

-- Until a report: while no commit is unheard of, what is known is a front of what the secondary
-- sent, this one; while one is, what the copy had sent is its front up to the commit.
pub record KnownSplices (past : Past) : Type 0 where
  pub known : is_unheard_commit past ≡ false → sent_of past.known_items ≡ known_frames past
  pub copied : is_unheard_commit past ≡ true
      → sent_of past.copy.run.items ≡ sent_of (before_commit past.secondary.items)

-- WHAT THE PRIMARY RELEASED stands in what the secondary is known to have sent, and while a
-- checkpoint is under way in what the primary had sent at its capture: in each run that a stop
-- could leave. So what was released before the last committed capture stands in the primary's
-- frames before it.
abbrev pub StandIn : List TcpFields → List Place → Type 0
StandIn frames ps = All (PlaceStands frames) ps × All (PlaceAcks frames) ps

pub record PrimarySplices (a : Start) (steps : List Step) (past : Past) : Type 0 where
  pub known : StandIn (sent_of past.known_items) (places a steps)
  pub copied : past.awaits_ack ≡ true → StandIn (sent_of past.copy.run.items) (places a steps)

-- both, of the past after a front of a log, until a report comes
pub record FrontSplices (a : Start) (front : List Step) : Type 0 where
  pub known : (past_at a front).is_reported ≡ false → KnownSplices (past_at a front)
  pub primary : (past_at a front).is_reported ≡ false → PrimarySplices a front (past_at a front)

-- THE PAUSE: while a checkpoint is under way an event releases replies alone, but the one that
-- hears the acknowledgement, and the report
abbrev pub is_reply : Released → Bool
is_reply (reply b) = true
is_reply (tcp s payload) = false

abbrev pub hears_ack : Option Message → Bool
hears_ack None = false
hears_ack (Some m) = is_ack_message m

abbrev pub is_paused : Event → Bool
is_paused e =
    e.past.awaits_ack && not (hears_ack e.step.delivered || is_report e.step.entry.line)

abbrev pub Pauses : Event → Type 0
Pauses e = is_paused e ≡ true → All (λ (r : Released). IsTrue (is_reply r)) e.step.released

-- WHAT THE SURVIVOR RELEASES, from the report on, stands in its own run.
abbrev pub SurvivorStands : Start → Event → Type 0
SurvivorStands a e =
    secondary_releases e.outcome.after ≡ true
    → StandIn (sent_of e.outcome.after.secondary.items) (event_places a e)

-- THE NUMBER of a SYN that the survivor releases at the report was told to it or came with the last
-- committed checkpoint, which is what it keeps. Where it keeps none the number is that of its
-- guest's own SYN, and it is new to the client: the primary released no SYN of this tuple and client
-- since the last committed capture, or since the start where there was none.

-- the SYNs that were released since the last capture, and since the last capture that was committed
pub record SynsSince : Type 0 where
  pub captured : List Syn
  pub committed : List Syn

-- an event that captures has released before; one that commits releases nothing
abbrev pub syns_after : Start → SynsSince → Event → SynsSince
syns_after a x e =
    let out = filter_map syn_of (event_places a e) in
    record {
      captured =
          if list_any is_captured e.step.entry.marks then [] else x.captured ++ out;
      committed =
          if list_any is_committed e.step.entry.marks then x.captured else x.committed ++ out;
    }

unfoldable pub syns_since_commit : Start → List Event → List Syn
unfolding event_places
syns_since_commit a before =
    (fold (syns_after a) (record { captured = []; committed = [] }) before).committed

abbrev pub is_syn_to : Tuple → ℕ → Syn → Bool
is_syn_to t client x = same_tuple x.tuple t && x.client == client

abbrev pub IsOwnNumber : Option Opening → ℕ → Type 0
IsOwnNumber opening number = (o : Opening) → opening ≡ Some o → o.own ≡ number

pub record IsNewToClient (a : Start) (before : List Event) (past : Past) (p : Place)
    (client : ℕ) : Type 0 where
  pub own : IsOwnNumber (line p.segment.tuple past.secondary.items).opening p.segment.seq
  pub none_released :
      list_any (is_syn_to p.segment.tuple client) (syns_since_commit a before) ≡ false

abbrev pub IsSurvivorNumber : Start → List Event → Past → Place → ℕ → Option KeptNumber → Type 0
IsSurvivorNumber a before past p client (Some k) = k.number ≡ p.segment.seq
IsSurvivorNumber a before past p client None = IsNewToClient a before past p client

abbrev pub HasSurvivorNumber : Start → List Event → Past → Place → Type 0
HasSurvivorNumber a before past p =
    (client : ℕ) → p.client ≡ Some client → has_syn p.segment.flags ≡ true
    → IsSurvivorNumber a before past p client
    (kept_number p.segment.tuple client past.secondary_numbers)

abbrev pub is_survival : Event → Bool
is_survival e = is_report e.step.entry.line && secondary_releases e.outcome.after

-- of an event and those before it
abbrev pub SurvivorNumbers : Start → List Event → Event → Type 0
SurvivorNumbers a before e =
    is_survival e ≡ true → All (HasSurvivorNumber a before e.past) (event_places a e)

-- AN UNFINISHED CHECKPOINT CHANGES NOTHING: neither a message of one before its End, nor the report
-- that drops what was heard, changes the secondary's guest, lines, inbox or numbers.
abbrev pub is_part : Option Message → Bool
is_part None = false
is_part (Some m) = nat_le 3 (number_of m) && nat_le (number_of m) 10

pub record IsUnchanged (old new : Past) : Type 0 where
  pub run : new.secondary ≡ old.secondary
  pub inbox : new.secondary_inbox ≡ old.secondary_inbox
  pub numbers : new.secondary_numbers ≡ old.secondary_numbers

abbrev pub ChangesNothing : Event → Type 0
ChangesNothing e =
    (is_part e.outcome.step.delivered || is_report e.step.entry.line) ≡ true
    → IsUnchanged e.past e.outcome.after

-- the six sentences; that the secondary's guest was given its frames in its own numbering is the
-- theorem's sentence on its state
pub record SplicingPart (a : Start) (steps : List Step) : Type 0 where
  pub fronts : (front later : List Step) → steps ≡ front ++ later → FrontSplices a front
  pub pause : All Pauses (events a steps)
  pub survivor_stands : All (SurvivorStands a) (events a steps)
  pub survivor_numbers : (before later : List Event) (e : Event)
      → events a steps ≡ before ++ e ∷ later → SurvivorNumbers a before e
  pub unfinished : All ChangesNothing (events a steps)

-- WHAT IS TO BE PROVED of the definitions alone, beside `HoldsOfEachLog`
abbrev pub SplicesEachLog : Type 0
SplicesEachLog =
    (a : Start) (lines : List Line) → IsStart a → HasOneStop lines
    → SplicingPart a (pair_log a lines)
