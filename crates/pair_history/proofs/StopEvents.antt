-- Either node stops.
use Rattle.std.proofs.Common.{◌≡◌, ℕ, false, List, None, refl, sym, ap, ◌∙◌, true≢false}
use Rattle.replay_log.specs.declared.lines.Line.TheVariants.{StopPrimary, StopSecondary}
use Rattle.replay_log.specs.declared.records.Answer.TheVariants.{Zero}
use Rattle.state_wire.specs.Guest.{Kind}
use Rattle.node_secondary.specs.Survivor.{Second, alone, hears}
use Rattle.pair_core.specs.Events as core
use Rattle.pair_core.specs.Pair.{Pair, is_primary, is_secondary}
use Rattle.pair_theorem.specs.LogParts.{delivered_bytes}
use Rattle.pair_theorem.specs.Past.{Past, is_primary_stop, primary_stop, secondary_stop, silently}
use Rattle.pair_history.specs.Standing.{SecondStands, Stands}
use Rattle.pair_history.proofs.Flags.{primary_flag, releases_stopped}
use Rattle.pair_history.proofs.Goes.{Goes}

pub primary_stops : (kind : Kind) (stream : List (List ℕ)) (past : Past) (w : Pair) → Stands kind stream past w
    → w.stopped ≡ None
    → Goes kind stream (silently (record past { stop = primary_stop }) StopPrimary Zero None)
    (core.event_of w StopPrimary)
unfolding delivered_bytes
primary_stops kind stream past w h none states rests = record {
  happens = record { answer = refl; marks = refl; released = refl; wire = refl };
  after = record {
    frames = h.frames;
    next = h.next;
    down = h.down;
    up = h.up;
    sent_heard = h.sent_heard;
    stop = refl;
    reported = h.reported;
    first_guest = h.first_guest;
    second_guest = h.second_guest;
    first = λ f. absurd (true≢false f);
    second = λ f. by w.second (h.second (ap is_secondary none));
  };
}
  where
    running : is_primary_stop past.stop ≡ false
    running = primary_flag kind stream past w h ∙ ap is_primary none

    by : (s : Second) → SecondStands kind past s → SecondStands kind (record past { stop = primary_stop }) s
    by (hears n) s = s
    by (alone n) s = absurd (true≢false (sym (releases_stopped past s.0) ∙ running))

pub secondary_stops : (kind : Kind) (stream : List (List ℕ)) (past : Past) (w : Pair) → Stands kind stream past w
    → w.stopped ≡ None
    → Goes kind stream (silently (record past { stop = secondary_stop }) StopSecondary Zero None)
    (core.event_of w StopSecondary)
unfolding delivered_bytes
secondary_stops kind stream past w h none states rests = record {
  happens = record { answer = refl; marks = refl; released = refl; wire = refl };
  after = record {
    frames = h.frames;
    next = h.next;
    down = h.down;
    up = h.up;
    sent_heard = h.sent_heard;
    stop = refl;
    reported = h.reported;
    first_guest = h.first_guest;
    second_guest = h.second_guest;
    first = λ f. h.first (ap is_primary none);
    second = λ f. absurd (true≢false f);
  };
}
