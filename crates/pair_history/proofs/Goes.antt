-- What is to be shown of an event, and the events that do nothing.
use Rattle.std.proofs.Common.{ℕ, List, ◌++◌, append-nil, None, refl, ap, ◌∙◌}
use Rattle.colo_wire.specs.declared.messages.Message.{Message}
use Rattle.replay_log.specs.declared.lines.Line.{Line}
use Rattle.replay_log.specs.declared.records.Answer.TheVariants.{Nothing}
use Rattle.state_wire.specs.Guest.{Kind}
use Rattle.pair_core.specs.Events as core
use Rattle.pair_core.specs.Pair.{Pair, sent_down}
use Rattle.pair_theorem.specs.LogParts.{delivered_bytes}
use Rattle.pair_theorem.specs.Past.{Outcome, Past, silently}
use Rattle.theorem_runs.specs.Runs.{AreStates}
use Rattle.pair_history.specs.Laws.{GoesOnTo, RestsCaptured}
use Rattle.pair_history.specs.Standing.{PrimaryStands, Stands}

-- with the states of the past after it
abbrev pub Goes : Kind → List (List ℕ) → Outcome → core.Outcome → Type 0
Goes kind stream theirs o = AreStates kind theirs.after → RestsCaptured o.after → GoesOnTo kind stream theirs o

pub idle : (kind : Kind) (stream : List (List ℕ)) (past : Past) (x : Line) (w : Pair) → Stands kind stream past w
    → Goes kind stream (silently past x Nothing None) (core.nothing w)
unfolding delivered_bytes
idle kind stream past x w h states rests =
    record { happens = record { answer = refl; marks = refl; released = refl; wire = refl }; after = h }

-- a primary with nothing to send sends nothing
pub nothing_sent : (kind : Kind) (stream : List (List ℕ)) (past : Past) (w : Pair) → Stands kind stream past w
    → PrimaryStands past w.first → Stands kind stream past (sent_down w)
nothing_sent kind stream past w h p = record {
  frames = h.frames;
  next = h.next;
  down = ap (λ (ms : List Message). w.down ++ ms) p.waits ∙ (append-nil w.down ∙ h.down);
  up = h.up;
  sent_heard = h.sent_heard;
  stop = h.stop;
  reported = h.reported;
  first_guest = h.first_guest;
  second_guest = h.second_guest;
  first = λ f. record {
    inbox = (h.first f).inbox;
    room = (h.first f).room;
    accepted = (h.first f).accepted;
    compares = (h.first f).compares;
    captures = (h.first f).captures;
    awaits = (h.first f).awaits;
    waits = refl;
  };
  second = h.second;
}
