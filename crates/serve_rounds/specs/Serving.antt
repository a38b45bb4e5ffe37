-- What the code of `serve` holds between its events, and how far a part of a round came.
use Rattle.std.specs.Prelude.{◌≡◌, ℕ, ◌+◌, Bool, true, false, IsTrue, List, [], ◌++◌, length, None}
use Rattle.colo_base.specs.Clock.{ClockState}
use Rattle.colo_base.specs.Link.{LinkState}
use Rattle.colo_base.specs.Shelf.{ShelfState}
use Rattle.sock_link.specs.Stream.{is_too_long}
use Rattle.sock_link.specs.Unframed.{Stands}
use Rattle.replay_log.specs.declared.lines.Line.{Line}
use Rattle.state_wire.specs.Guest.{Meaning}
use Rattle.file_steps.specs.Steps.{Done, Fails, Outside, nothing, outside}
use Rattle.file_steps.specs.Plans.{is_own}
use Rattle.file_steps.specs.Status.{refusal_of}
use Rattle.file_steps.specs.declared.fault.Fault.{Fault}
use Rattle.file_steps.specs.declared.fault.Fault.TheVariants.{Refused}
use Rattle.command_inputs.specs.Reading.{client_refusal}
use Rattle.command_inputs.specs.Client.{frames_of}
use Rattle.command_plans.specs.Replay.{Event, after_lines, events}
use Rattle.command_plans.specs.Steps.{IsCounted}
use Rattle.command_plans.specs.declared.replay.Counts.{Counts}
use Rattle.pair_core.specs.Pair.{Held, Pair, pair_of}
use Rattle.serve_rounds.specs.Work.{IsStopped, Reaches, Work}
use Rattle.serve_rounds.specs.Rounds.{Serving, finishes, serves}
use Rattle.serve_rounds.specs.declared.server.Server.{Server}

-- ---- lines in a row

-- a shelf and a link, before a call and after it
pub record Ends : Type 0 where
  pub shelf_old : ShelfState
  pub shelf_new : ShelfState
  pub link_old : LinkState
  pub link_new : LinkState

abbrev pub ends : ShelfState → ShelfState → LinkState → LinkState → Ends
ends a b l m = record { shelf_old = a; shelf_new = b; link_old = l; link_new = m }

-- the clock isn't read
abbrev pub before : Ends → ClockState → Outside
before e k = outside e.shelf_old e.link_old k

abbrev pub behind : Ends → ClockState → Outside
behind e k = outside e.shelf_new e.link_new k

-- the events of the lines happened and were counted, and what they leave is written and sent
pub record IsServed {G : Type 0} (meaning : G → Meaning) (out : List ℕ) (lines : List Line)
    (old new : Held G) (was now : Counts) (e : Ends) : Type 0 where
  pub after : pair_of meaning new ≡ after_lines (pair_of meaning old) lines
  pub steps : new.steps ≡ old.steps + length lines
  pub counted : (made : List Event) → IsCounted made was
      → IsCounted (made ++ events (pair_of meaning old) lines) now
  pub done : (k : ClockState) → Done out (serves (pair_of meaning old) lines) nothing (before e k)
      (behind e k)

abbrev pub CannotServe : {G : Type 0} → (G → Meaning) → List ℕ → List Line → Held G → Ends
    → Fault → Type 0
CannotServe meaning out lines old e fault = (k : ClockState)
    → Fails out (serves (pair_of meaning old) lines) nothing (before e k) (behind e k) fault

-- ---- between events

-- what the code holds of a run
pub record Holds {G : Type 0} (meaning : G → Meaning) (server : Server) (held : Held G)
    (s : Serving) : Type 0 where
  pub pair : pair_of meaning held ≡ s.pair
  pub counts : IsCounted s.made server.counts
  pub steps : server.counts.lines ≡ held.steps
  pub round : server.round ≡ s.round
  pub stands : Stands server.unframer s.heard (frames_of s.heard)
  pub taken : server.unframer.frames ≡ []
  pub short : is_too_long server.unframer.part ≡ false
  pub first_tick : server.first_tick ≡ s.first_tick
  pub second_tick : server.second_tick ≡ s.second_tick

-- of these frames all but the rest were offered
abbrev pub IsOffered : Pair → Pair → List (List ℕ) → List (List ℕ) → Type 0
IsOffered old new frames rest = (given : List (List ℕ)) × (frames ≡ given ++ rest)
    × (new ≡ record old { frames = old.frames ++ given })

-- a refusal by the place where a record begins
abbrev pub IsRefusedAt : ℕ → Fault → Type 0
IsRefusedAt place (Refused refusal) =
    (refusal_of refusal ≡ client_refusal place) × IsTrue (is_own refusal.status)
IsRefusedAt place _ = ⊥

-- it stands for a run
pub record IsHeld {G : Type 0} (meaning : G → Meaning) (server : Server) (held : Held G)
    : Type 0 where
  pub now : Serving
  pub holds : Holds meaning server held now

-- all but the counts is as it was
pub record KeepsServer (old new : Server) : Type 0 where
  pub unframer : new.unframer ≡ old.unframer
  pub round : new.round ≡ old.round
  pub first_tick : new.first_tick ≡ old.first_tick
  pub second_tick : new.second_tick ≡ old.second_tick

-- no node stopped, and no stop was reported
pub record CanStop {G : Type 0} (held : Held G) : Type 0 where
  pub stopped : held.stopped ≡ None
  pub is_reported : held.is_reported ≡ false

-- a run at one moment: what the code holds, and the outside
pub record Moment (G : Type 0) : Type 0 where
  pub server : Server
  pub held : Held G
  pub around : Outside

abbrev pub moment : {G : Type 0} → Server → Held G → Outside → Moment G
moment server held around = record { server = server; held = held; around = around }

-- a part of a round was made, whatever follows it
pub record Goes (out : List ℕ) (part : (Serving → Work) → Serving → Work) (s : Serving)
    (P : Serving → Type 0) (old new : Outside) : Type 0 where
  pub now : Serving
  pub holds : P now
  pub reaches : (next : Serving → Work) → Reaches out (part next s) (next now) old new

-- the run is over with it
pub record IsOver (out : List ℕ) (part : (Serving → Work) → Serving → Work) (s : Serving)
    (P : Serving → Type 0) (old new : Outside) : Type 0 where
  pub now : Serving
  pub holds : P now
  pub reaches : (next : Serving → Work) → Reaches out (part next s) (finishes now) old new

module _ {G : Type 0} (meaning : G → Meaning) (out : List ℕ) where
  -- a call made this part of a round
  abbrev pub Went : ((Serving → Work) → Serving → Work) → Moment G → Moment G → Type 0
  Went part old new = (s : Serving) → Holds meaning old.server old.held s
      → Goes out part s (Holds meaning new.server new.held) old.around new.around

  -- the run is over with it
  abbrev pub Closed : ((Serving → Work) → Serving → Work) → Moment G → Moment G → Type 0
  Closed part old new = (s : Serving) → Holds meaning old.server old.held s
      → IsOver out part s (Holds meaning new.server new.held) old.around new.around

  -- one or the other
  abbrev pub WentOrClosed : ((Serving → Work) → Serving → Work) → Moment G → Moment G → Bool
      → Type 0
  WentOrClosed part old new false = Went part old new
  WentOrClosed part old new true = Closed part old new

  -- it was stopped in this part, whatever follows
  abbrev pub Halts : ((Serving → Work) → Serving → Work) → Moment G → Outside → Fault → Type 0
  Halts part old new fault = (s : Serving) (next : Serving → Work)
      → Holds meaning old.server old.held s → IsStopped out (part next s) old.around new fault

  -- all rounds of this work were made
  pub record IsDone (work : Work) (old : Outside) (new : Moment G) : Type 0 where
    pub now : Serving
    pub holds : Holds meaning new.server new.held now
    pub reaches : Reaches out work (finishes now) old new.around
