-- A checkpoint that is asked for.
use Rattle.std.proofs.Common.{◌≡◌, ℕ, ◌||◌, Bool, true, false, List, Option, None, Some, is_some, refl, sym, ap, subst, ◌∙◌, true≢false}
use Rattle.std.specs.Prelude.{if◌then◌else◌}
use Rattle.std.proofs.Math.Bool.{or-false}
use Rattle.replay_log.specs.declared.lines.Line.TheVariants.{Ask}
use Rattle.replay_log.specs.declared.records.Answer.TheVariants.{Nothing}
use Rattle.state_wire.specs.Guest.{Kind}
use Rattle.node_primary.specs.Steps.{capture as capture_primary}
use Rattle.pair_core.specs.Events as core
use Rattle.pair_core.specs.Events.{primary_asks}
use Rattle.pair_core.specs.Pair.{Pair, is_primary, is_secondary}
use Rattle.pair_core.specs.declared.node.Node as stopped
use Rattle.pair_core.specs.declared.node.Node.TheVariants.{Primary, Secondary}
use Rattle.pair_theorem.specs.Checkpoint.{capture}
use Rattle.pair_theorem.specs.Events.{ask_event, outcome_of}
use Rattle.pair_theorem.specs.LogParts.{delivered_bytes}
use Rattle.pair_theorem.specs.Past.{Past, is_primary_stop, is_secondary_stop, silently}
use Rattle.pair_theorem.proofs.EventCases.{asked_outcome}
use Rattle.theorem_runs.specs.Links.{OneCheckpoint}
use Rattle.theorem_runs.specs.Runs.{has_end}
use Rattle.theorem_runs.proofs.Checkpoints.{calm_of}
use Rattle.theorem_runs.proofs.Orders.{beside_no_end}
use Rattle.pair_history.specs.Standing.{Stands}
use Rattle.pair_history.proofs.CaptureLemmas.{captures_alike}
use Rattle.pair_history.proofs.Flags.{primary_flag, secondary_flag, unreported}
use Rattle.pair_history.proofs.Goes.{Goes, idle, nothing_sent}
use Rattle.pair_history.proofs.Written.{primary_pair, primary_pair_is}

-- it is captured
asks_alike : (kind : Kind) (stream : List (List ℕ)) (past : Past) (w : Pair)
    → Stands kind stream past (primary_pair kind stream past false false w) → is_primary w.stopped ≡ false
    → past.is_reported ≡ false → has_end past.to_secondary ≡ false
    → Goes kind stream (asked_outcome past) (primary_asks (primary_pair kind stream past false false w))
unfolding primary_asks delivered_bytes capture capture_primary
asks_alike kind stream past w h runs together none states rests = record {
  happens = record { answer = refl; marks = refl; released = refl; wire = refl };
  after = captures_alike kind stream past (primary_pair kind stream past false false w) h runs together none
      states.primary (rests refl);
}

-- and where one is awaited, nothing is
awaits_alike : (kind : Kind) (stream : List (List ℕ)) (past : Past) (w : Pair)
    → Stands kind stream past (primary_pair kind stream past true past.is_reported w) → is_primary w.stopped ≡ false
    → Goes kind stream (silently past Ask Nothing None)
    (primary_asks (primary_pair kind stream past true past.is_reported w))
unfolding primary_asks delivered_bytes
awaits_alike kind stream past w h runs states rests = record {
  happens = record { answer = refl; marks = refl; released = refl; wire = refl };
  after = nothing_sent kind stream past (primary_pair kind stream past true past.is_reported w) h (h.first runs);
}

running_ask : (kind : Kind) (stream : List (List ℕ)) (past : Past) (w : Pair) (awaits : Bool)
    → Stands kind stream past w → OneCheckpoint past → w.stopped ≡ None → past.awaits_ack ≡ awaits
    → Goes kind stream (if awaits then silently past Ask Nothing None else asked_outcome past) (primary_asks w)
running_ask kind stream past w true h one none a =
    let runs = ap is_primary none in
    subst (λ (v : Pair). Stands kind stream past v → Goes kind stream (silently past Ask Nothing None) (primary_asks v))
    (sym (primary_pair_is kind stream past true past.is_reported w h (h.first runs) a refl))
    (λ h. awaits_alike kind stream past w h runs) h
running_ask kind stream past w false h one none a =
    let runs = ap is_primary none in
    let together = unreported kind past w.second (primary_flag kind stream past w h ∙ runs)
    (h.second (ap is_secondary none)) in
    subst (λ (v : Pair). Stands kind stream past v → Goes kind stream (asked_outcome past) (primary_asks v))
    (sym (primary_pair_is kind stream past false false w h (h.first runs) a together))
    (λ h. asks_alike kind stream past w h runs together (beside_no_end past.to_secondary (calm_of past one a).down)) h

stopped_ask : (b p s : Bool) (kind : Kind) (stream : List (List ℕ)) (past : Past) (w : Pair) → Stands kind stream past w
    → (p || s) ≡ true
    → Goes kind stream (if b || (p || s) then silently past Ask Nothing None else asked_outcome past) (core.nothing w)
stopped_ask true p s kind stream past w h e = idle kind stream past Ask w h
stopped_ask false true s kind stream past w h e = idle kind stream past Ask w h
stopped_ask false false true kind stream past w h e = idle kind stream past Ask w h
stopped_ask false false false kind stream past w h e = absurd (true≢false (sym e))

pub ask_alike : (kind : Kind) (stream : List (List ℕ)) (past : Past) (w : Pair) → Stands kind stream past w
    → OneCheckpoint past → Goes kind stream (outcome_of kind stream past Ask) (core.event_of w Ask)
unfolding outcome_of ask_event
ask_alike kind stream past w h one = by w.stopped refl
  where
    flags : (s : Option stopped.Node) → w.stopped ≡ s → is_primary_stop past.stop ≡ is_primary s
    flags s is = primary_flag kind stream past w h ∙ ap is_primary is

    others : (s : Option stopped.Node) → w.stopped ≡ s → is_secondary_stop past.stop ≡ is_secondary s
    others s is = secondary_flag kind stream past w h ∙ ap is_secondary is

    by : (s : Option stopped.Node) → w.stopped ≡ s → Goes kind stream
        (if past.awaits_ack || (is_primary_stop past.stop || is_secondary_stop past.stop)
        then silently past Ask Nothing None else asked_outcome past)
        (if is_some s then core.nothing w else primary_asks w)
    by None is =
        subst (λ (p : Bool). Goes kind stream (if p then silently past Ask Nothing None else asked_outcome past)
        (primary_asks w)) (sym (or-false past.awaits_ack)
        ∙ (λ i. past.awaits_ack || (sym (flags None is) i || sym (others None is) i)))
        (running_ask kind stream past w past.awaits_ack h one is refl)
    by (Some Primary) is =
        stopped_ask past.awaits_ack (is_primary_stop past.stop) (is_secondary_stop past.stop) kind stream past w h
        (ap (λ (p : Bool). p || is_secondary_stop past.stop) (flags (Some Primary) is))
    by (Some Secondary) is =
        stopped_ask past.awaits_ack (is_primary_stop past.stop) (is_secondary_stop past.stop) kind stream past w h
        (λ i. flags (Some Secondary) is i || others (Some Secondary) is i)
