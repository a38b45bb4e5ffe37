-- The report of a stop: the other node survives.
use Rattle.std.proofs.Common.{◌≡◌, ℕ, Bool, true, false, List, [], Option, None, Some, length, map, refl, sym, ap, subst, ◌∙◌, true≢false}
use Rattle.std.specs.Prelude.{if◌then◌else◌}
use Rattle.std.proofs.lemmas.Bool.{and_from}
use Rattle.colo_base.specs.declared.fault.Cause.{Cause}
use Rattle.settle_rules.specs.Release.{Released, released_frame}
use Rattle.state_wire.specs.Guest.{Kind}
use Rattle.replay_log.specs.declared.lines.Line.TheVariants.{Report}
use Rattle.replay_log.specs.declared.records.Answer.TheVariants.{Reported}
use Rattle.node_primary.specs.Steps.{capture_for, compares, left_alone, settle_node}
use Rattle.node_secondary.specs.Node.{Node}
use Rattle.node_secondary.specs.Steps.{survive_as}
use Rattle.out_compare.specs.Comparing.{need_after, settle, settlement_of}
use Rattle.pair_core.specs.Events as core
use Rattle.pair_core.specs.Events.{primary_survives as core_primary_survives, secondary_survives as core_secondary_survives}
use Rattle.pair_core.specs.Pair.{Pair, is_primary, is_secondary}
use Rattle.pair_core.specs.Steps.{refusal, report_refusal}
use Rattle.pair_core.specs.declared.node.Node as stopped
use Rattle.pair_core.specs.declared.node.Node.TheVariants.{Primary, Secondary}
use Rattle.pair_theorem.specs.Events.{ended_by, mark_cause, outcome_of, outcome_with, primary_survives, report_event, secondary_survives, settle_event}
use Rattle.pair_theorem.specs.LogParts.{delivered_bytes}
use Rattle.pair_theorem.specs.Past.{Past, is_primary_stop}
use Rattle.compare_history.proofs.EventLemmas.{primary_survives_alone, secondary_survives_alone}
use Rattle.pair_history.specs.Standing.{SecondaryStands, Stands}
use Rattle.pair_history.proofs.EndLemmas.{cause_alike, counted}
use Rattle.pair_history.proofs.Flags.{it_hears, primary_flag}
use Rattle.pair_history.proofs.Goes.{Goes}
use Rattle.pair_history.proofs.Written.{hears_pair, hears_pair_is, primary_pair, primary_pair_is}

-- THE SECONDARY SURVIVES
secondary_alike : (kind : Kind) (stream : List (List ℕ)) (past : Past) (w : Pair) (n : Node)
    → Stands kind stream past (hears_pair kind stream past n w) → is_primary_stop past.stop ≡ true
    → SecondaryStands kind past n
    → Goes kind stream (secondary_survives past) (core_secondary_survives (hears_pair kind stream past n w))
unfolding secondary_survives core_secondary_survives survive_as delivered_bytes
secondary_alike kind stream past w n h stops s states rests =
    let x = secondary_survives_alone past n.lines n.numbers s.lines s.numbers in
    let out = ap (λ (rs : List Released). map released_frame rs) x.out in
    let v = hears_pair kind stream past n w in
    record {
      happens = record {
        answer = counted Reported _ _ out;
        marks = refl;
        released = out;
        wire = refl;
      };
      after = record {
        frames = refl;
        next = refl;
        down = refl;
        up = refl;
        sent_heard = refl;
        stop = h.stop;
        reported = refl;
        first_guest = h.first_guest;
        second_guest = refl;
        first = λ f. absurd (true≢false (sym stops ∙ (primary_flag kind stream past v h ∙ f)));
        second = λ f. (
          and_from (is_primary_stop past.stop) true stops refl,
          record {
            inbox = refl;
            compares = x.after;
          },
        );
      };
    }

-- THE PRIMARY SURVIVES
primary_alike : (kind : Kind) (stream : List (List ℕ)) (past : Past) (w : Pair)
    → Stands kind stream past (primary_pair kind stream past past.awaits_ack false w) → is_primary w.stopped ≡ false
    → is_secondary w.stopped ≡ true
    → Goes kind stream (outcome_with Report [] None Reported (primary_survives past))
    (core_primary_survives (primary_pair kind stream past past.awaits_ack false w))
unfolding outcome_with mark_cause primary_survives settle_event ended_by core_primary_survives settle_node
    delivered_bytes
primary_alike kind stream past w h runs other =
    let v = primary_pair kind stream past past.awaits_ack false w in
    let n = left_alone v.first in
    let p = h.first runs in
    let x = primary_survives_alone past v.first.comparing p.compares in
    let out = ap (λ (rs : List Released). map released_frame rs) x.out in
    subst (λ (why : Option Cause). Goes kind stream (outcome_with Report [] None Reported (primary_survives past))
    (let e = capture_for why (compares n (settle n.comparing false))
    (map released_frame (settlement_of n.comparing false).out) in
    core.quiet (core.lost_links (record v { first = e.after })) (Reported (length e.out)) e.out))
    (sym (cause_alike (need_after n.comparing false) ∙ x.cause_is))
    (λ states rests. record {
      happens = record {
        answer = counted Reported _ _ out;
        marks = refl;
        released = out;
        wire = refl;
      };
      after = record {
        frames = refl;
        next = refl;
        down = refl;
        up = refl;
        sent_heard = refl;
        stop = h.stop;
        reported = refl;
        first_guest = refl;
        second_guest = h.second_guest;
        first = λ f. record {
          inbox = refl;
          room = p.room;
          accepted = p.accepted;
          compares = x.after;
          captures = refl;
          awaits = refl;
          waits = refl;
        };
        second = λ f. absurd (true≢false (sym other ∙ f));
      };
    })

pub report_alike : (kind : Kind) (stream : List (List ℕ)) (past : Past) (w : Pair) → Stands kind stream past w
    → refusal w Report ≡ None → Goes kind stream (outcome_of kind stream past Report) (core.event_of w Report)
unfolding outcome_of report_event
report_alike kind stream past w h fits = by w.stopped w.is_reported refl refl fits
  where
    survives : past.is_reported ≡ false → is_primary w.stopped ≡ true → is_secondary w.stopped ≡ false
        → Goes kind stream (secondary_survives past) (core_secondary_survives w)
    survives together stops runs =
        let g = it_hears kind past w.second together (h.second runs) in
        subst (λ (v : Pair). Stands kind stream past v
        → Goes kind stream (secondary_survives past) (core_secondary_survives v))
        (sym (hears_pair_is kind stream past g.node w h g.is g.stands))
        (λ k. secondary_alike kind stream past w g.node k (primary_flag kind stream past w h ∙ stops) g.stands) h

    goes_on : past.is_reported ≡ false → is_primary w.stopped ≡ false → is_secondary w.stopped ≡ true
        → Goes kind stream (outcome_with Report [] None Reported (primary_survives past)) (core_primary_survives w)
    goes_on together runs other =
        subst (λ (v : Pair). Stands kind stream past v
        → Goes kind stream (outcome_with Report [] None Reported (primary_survives past)) (core_primary_survives v))
        (sym (primary_pair_is kind stream past past.awaits_ack false w h (h.first runs) refl together))
        (λ k. primary_alike kind stream past w k runs other) h

    by : (s : Option stopped.Node) (r : Bool) → w.stopped ≡ s → w.is_reported ≡ r → report_refusal s r ≡ None
        → Goes kind stream (if is_primary_stop past.stop then secondary_survives past
        else outcome_with Report [] None Reported (primary_survives past))
        (if is_primary s then core_secondary_survives w else core_primary_survives w)
    by None r is reported e = absurd (cc e)
    by (Some x) true is reported e = absurd (cc e)
    by (Some Primary) false is reported e =
        subst (λ (p : Bool). Goes kind stream (if p then secondary_survives past
        else outcome_with Report [] None Reported (primary_survives past)) (core_secondary_survives w))
        (sym (primary_flag kind stream past w h ∙ ap is_primary is))
        (survives (sym h.reported ∙ reported) (ap is_primary is) (ap is_secondary is))
    by (Some Secondary) false is reported e =
        subst (λ (p : Bool). Goes kind stream (if p then secondary_survives past
        else outcome_with Report [] None Reported (primary_survives past)) (core_primary_survives w))
        (sym (primary_flag kind stream past w h ∙ ap is_primary is))
        (goes_on (sym h.reported ∙ reported) (ap is_primary is) (ap is_secondary is))
