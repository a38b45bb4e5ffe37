-- Which lines stop no node and report no stop.
use Rattle.std.proofs.Common.{◌≡◌, ℕ, zero, suc, Bool, true, false, List, [], ◌∷◌, refl, ◌∙◌, if◌then◌else◌, None, Some, Option, Ok, Err, ap}
use Rattle.std.specs.Prelude.{is_some, ◌||◌, replicate, slice_get}
use Rattle.colo_wire.specs.declared.messages.Message.{Message}
use Rattle.replay_log.specs.declared.lines.Line.{Line}
use Rattle.replay_log.specs.declared.lines.Line.TheVariants.{Primary, Secondary, Client, ToSecondary, ToPrimary, Ask}
use Rattle.node_parts.specs.Turns.{Turn}
use Rattle.node_primary.specs.Answers as primary
use Rattle.node_secondary.specs.Answers as secondary
use Rattle.pair_core.specs.Events.{Outcome, ask_event, client_with, deliver_with, down_event, event_of, hears_back_with, hears_with, nothing, passed, primary_asks, primary_event, primary_hears, primary_makes, primary_takes, secondary_event, secondary_hears, secondary_makes, secondary_takes, turn_of, up_event}
use Rattle.pair_core.specs.Pair.{Held, Pair, is_primary, is_secondary, pair_of}
use Rattle.pair_core.specs.Steps.{refusal}
use Rattle.state_wire.specs.Guest.{Meaning}
use Rattle.command_plans.specs.Replay.{AreEvents, after_lines}
use Rattle.serve_rounds.specs.Serving.{CanStop}

-- neither node stopped between the two, and no stop was reported
pub record Keeps (w v : Pair) : Type 0 where
  pub stopped : v.stopped ≡ w.stopped
  pub is_reported : v.is_reported ≡ w.is_reported

pub keeps_then : (w v u : Pair) → Keeps w v → Keeps v u → Keeps w u
keeps_then w v u first second =
    record { stopped = second.stopped ∙ first.stopped; is_reported = second.is_reported ∙ first.is_reported }

keeps_if : (w : Pair) (b : Bool) (x y : Outcome) → Keeps w x.after → Keeps w y.after
    → Keeps w (if b then x else y).after
keeps_if w true x y p q = p
keeps_if w false x y p q = q

same : (w : Pair) → Keeps w w
same w = record { stopped = refl; is_reported = refl }

first_keeps : (w : Pair) (t : Turn) → Keeps w (primary_event w t).after
unfolding primary_makes
first_keeps w t =
    keeps_if w (is_primary w.stopped) (nothing w) (primary_makes w t) (same w)
    (record { stopped = refl; is_reported = refl })

second_keeps : (w : Pair) (t : Turn) → Keeps w (secondary_event w t).after
unfolding secondary_makes
second_keeps w t =
    keeps_if w (is_secondary w.stopped) (nothing w) (secondary_makes w t) (same w)
    (record { stopped = refl; is_reported = refl })

client_keeps : (w : Pair) (frame : Option (List ℕ)) → Keeps w (client_with w frame).after
unfolding primary_takes secondary_takes
client_keeps w None = same w
client_keeps w (Some frame) =
    keeps_if w (is_primary w.stopped) (secondary_takes (passed w) w.next frame) (primary_takes (passed w) w.next frame)
    (record { stopped = refl; is_reported = refl }) (record { stopped = refl; is_reported = refl })

down_keeps : (w : Pair) → Keeps w (down_event w).after
unfolding hears_with secondary_hears
down_keeps w =
    keeps_if w (is_secondary w.stopped || w.is_reported) (nothing w)
    (deliver_with secondary_hears w w.down (λ ms. record w { down = ms })) (same w) (by w.down)
  where
    heard : (v : Pair) (m : Message) (a : secondary.Answer) → Keeps v (hears_with v m a).after
    heard v m (Ok told) = record { stopped = refl; is_reported = refl }
    heard v m (Err fault) = same v

    by : (messages : List Message)
        → Keeps w (deliver_with secondary_hears w messages (λ ms. record w { down = ms })).after
    by [] = same w
    by (m ∷ ms) =
        let v : Pair = record w { down = ms } in
        keeps_then w v (secondary_hears v m).after (record { stopped = refl; is_reported = refl })
        (heard v m (secondary.answer_to v.second (Ok m)))

up_keeps : (w : Pair) → Keeps w (up_event w).after
unfolding hears_back_with primary_hears
up_keeps w =
    keeps_if w (is_primary w.stopped || w.is_reported) (nothing w)
    (deliver_with primary_hears w w.up (λ ms. record w { up = ms })) (same w) (by w.up)
  where
    heard : (v : Pair) (m : Message) (a : primary.Answer) → Keeps v (hears_back_with v m a).after
    heard v m (Ok told) = record { stopped = refl; is_reported = refl }
    heard v m (Err fault) = same v

    by : (messages : List Message)
        → Keeps w (deliver_with primary_hears w messages (λ ms. record w { up = ms })).after
    by [] = same w
    by (m ∷ ms) =
        let v : Pair = record w { up = ms } in
        keeps_then w v (primary_hears v m).after (record { stopped = refl; is_reported = refl })
        (heard v m (primary.answer_to v.first (Ok m)))

ask_keeps : (w : Pair) → Keeps w (ask_event w).after
unfolding primary_asks
ask_keeps w =
    keeps_if w (is_some w.stopped) (nothing w) (primary_asks w) (same w)
    (record { stopped = refl; is_reported = refl })

-- the lines that are never refused, and keep this
pub data IsPlain : Line → Type 0 where
  a_turn : (d : ℕ) (i : Bool) (b n : ℕ) → IsPlain (Primary d i b n)
  another_turn : (d : ℕ) (i : Bool) (b n : ℕ) → IsPlain (Secondary d i b n)
  a_frame : IsPlain Client
  one_down : IsPlain ToSecondary
  one_up : IsPlain ToPrimary
  a_checkpoint : IsPlain Ask

plain_keeps : (w : Pair) (x : Line) → IsPlain x → Keeps w (event_of w x).after
plain_keeps w x (a_turn d i b n) = first_keeps w (turn_of d i b n)
plain_keeps w x (another_turn d i b n) = second_keeps w (turn_of d i b n)
plain_keeps w x a_frame = client_keeps w (slice_get w.frames w.next)
plain_keeps w x one_down = down_keeps w
plain_keeps w x one_up = up_keeps w
plain_keeps w x a_checkpoint = ask_keeps w

not_refused : (w : Pair) (x : Line) → IsPlain x → refusal w x ≡ None
not_refused w x (a_turn d i b n) = refl
not_refused w x (another_turn d i b n) = refl
not_refused w x a_frame = refl
not_refused w x one_down = refl
not_refused w x one_up = refl
not_refused w x a_checkpoint = refl

pub plain_events : (w : Pair) (n : ℕ) (x : Line) → IsPlain x → AreEvents w (replicate n x)
plain_events w zero x plain = tt
plain_events w (suc n) x plain = (not_refused w x plain, plain_events (event_of w x).after n x plain)

times_keep : (w : Pair) (n : ℕ) (x : Line) → IsPlain x → Keeps w (after_lines w (replicate n x))
times_keep w zero x plain = same w
times_keep w (suc n) x plain =
    keeps_then w (event_of w x).after (after_lines (event_of w x).after (replicate n x)) (plain_keeps w x plain)
    (times_keep (event_of w x).after n x plain)

pub still_can : {G : Type 0} (meaning : G → Meaning) (old new : Held G) (n : ℕ) (x : Line) → IsPlain x
    → pair_of meaning new ≡ after_lines (pair_of meaning old) (replicate n x) → CanStop old → CanStop new
still_can meaning old new n x plain is can =
    let k = times_keep (pair_of meaning old) n x plain in
    record {
      stopped = ap (λ (w : Pair). w.stopped) is ∙ (k.stopped ∙ can.stopped);
      is_reported = ap (λ (w : Pair). w.is_reported) is ∙ (k.is_reported ∙ can.is_reported);
    }

-- frames that are offered stop nothing
pub can_after : {G : Type 0} (meaning : G → Meaning) (old new : Held G) (fs : List (List ℕ))
    → pair_of meaning new ≡ record (pair_of meaning old) { frames = fs } → CanStop old → CanStop new
can_after meaning old new fs is can =
    record {
      stopped = ap (λ (w : Pair). w.stopped) is ∙ can.stopped;
      is_reported = ap (λ (w : Pair). w.is_reported) is ∙ can.is_reported;
    }
