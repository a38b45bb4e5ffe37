-- The end of an event at a running primary: what goes out, and a capture where there is a cause.
use Rattle.std.proofs.Common.{◌≡◌, ℕ, ◌+◌, ◌%◌, ◌^◌, Bool, false, List, [], ◌∷◌, ◌++◌, append-nil, append_assoc, length, map, Option, None, Some, refl, sym, ap, subst, ◌∙◌}
use Rattle.std.proofs.lemmas.List.{length-map}
use Rattle.colo_base.specs.declared.fault.Cause.{Cause}
use Rattle.colo_wire.specs.declared.messages.Message.{Message}
use Rattle.replay_log.specs.declared.lines.Line.{Line}
use Rattle.replay_log.specs.declared.records.Answer.{Answer}
use Rattle.replay_log.specs.declared.records.Mark.{Mark}
use Rattle.replay_log.specs.declared.records.Mark.TheVariants.{Captured}
use Rattle.settle_rules.specs.Release.{Released, released_frame}
use Rattle.settle_table.specs.declared.causes.Need.{Need}
use Rattle.settle_table.specs.declared.causes.Need.TheVariants as need
use Rattle.state_wire.specs.Guest.{Kind}
use Rattle.node_release.specs.Causes.{cause_of}
use Rattle.node_primary.specs.Steps.{capture as capture_primary, capture_for, compares}
use Rattle.out_compare.specs.Comparing.{need_after, settle, settlement_of}
use Rattle.pair_core.specs.Events as core
use Rattle.pair_core.specs.Pair.{Pair, is_primary, sent_down}
use Rattle.pair_theorem.specs.Checkpoint.{capture}
use Rattle.pair_theorem.specs.Events.{Ended, outcome_with}
use Rattle.pair_theorem.specs.LogParts.{delivered_bytes}
use Rattle.pair_theorem.specs.Past.{Past, step_with}
use Rattle.pair_theorem.proofs.EventCases.{caused, settled_case, uncaused}
use Rattle.settle_history.specs.Laws.{cause_in}
use Rattle.compare_history.specs.Books.{primary_books}
use Rattle.compare_history.specs.Laws.{EndsAs}
use Rattle.theorem_runs.specs.Runs.{has_end}
use Rattle.pair_history.specs.Standing.{Stands}
use Rattle.pair_history.proofs.CaptureLemmas.{captures_alike}
use Rattle.pair_history.proofs.Goes.{Goes}

-- the event of a pair whose primary settles, with what it answers, the marks before a capture and the bytes delivered
abbrev pub ended : Pair → Option Cause → Bool → (ℕ → Answer) → List Mark → List ℕ → core.Outcome
ended w why is_turn answer marks wire =
    let e = capture_for why (compares w.first (settle w.first.comparing is_turn))
    (map released_frame (settlement_of w.first.comparing is_turn).out) in
    record {
      after = sent_down (record w { first = e.after });
      answer = answer (length e.out);
      marks = marks ++ core.capture_marks e.capture;
      released = e.out;
      wire = wire;
    }

-- the pair then, where nothing is a cause
abbrev pub calm_pair : Pair → Bool → Pair
calm_pair w is_turn = sent_down (record w { first = compares w.first (settle w.first.comparing is_turn) })

pub cause_alike : (n : Need) → cause_of n ≡ cause_in n
cause_alike need.Nothing = refl
cause_alike (need.Differ t o) = refl
cause_alike (need.Restart t) = refl
cause_alike (need.Wait t) = refl

-- what a capture needs of the past before it
pub record MayCapture (past : Past) : Type 0 where
  pub together : past.is_reported ≡ false
  pub no_end : has_end past.to_secondary ≡ false

pub record Ends (kind : Kind) (stream : List (List ℕ)) (x : Ended) (w : Pair) (is_turn : Bool) : Type 0 where
  pub ends : EndsAs x primary_books is_turn w.first.comparing
  pub calm : Stands kind stream x.after (calm_pair w is_turn)
  pub runs : is_primary w.stopped ≡ false
  pub may : (why : Cause) → x.cause ≡ Some why → MayCapture x.after

pub counted : (answer : ℕ → Answer) (out : List (List ℕ)) (theirs : List Released) → out ≡ map released_frame theirs
    → answer (length out) ≡ answer (length theirs)
counted answer out theirs e =
    ap (λ (xs : List (List ℕ)). answer (length xs)) e ∙ ap (λ (n : ℕ). answer n) (length-map theirs released_frame)

uncaused_alike : (kind : Kind) (stream : List (List ℕ)) (line : Line) (marks : List Mark) (delivered : Option Message)
    (answer : ℕ → Answer) (x : Ended) (w : Pair) (is_turn : Bool) → Ends kind stream x w is_turn
    → Goes kind stream (uncaused line marks delivered answer x)
    (ended w None is_turn answer marks (delivered_bytes (step_with line (answer 0) marks delivered [])))
unfolding delivered_bytes
uncaused_alike kind stream line marks delivered answer x w is_turn h states rests =
    let out = ap (λ (rs : List Released). map released_frame rs) h.ends.out in
    record {
      happens = record {
        answer = counted answer (map released_frame (settlement_of w.first.comparing is_turn).out) x.out out;
        marks = append-nil marks;
        released = out;
        wire = refl;
      };
      after = h.calm;
    }

caused_alike : (kind : Kind) (stream : List (List ℕ)) (why : Cause) (line : Line) (marks : List Mark)
    (delivered : Option Message) (answer : ℕ → Answer) (x : Ended) (w : Pair) (is_turn : Bool)
    → Ends kind stream x w is_turn → MayCapture x.after
    → Goes kind stream (caused why line marks delivered answer x)
    (ended w (Some why) is_turn answer marks (delivered_bytes (step_with line (answer 0) marks delivered [])))
unfolding delivered_bytes capture_primary capture
caused_alike kind stream why line marks delivered answer x w is_turn h may states rests =
    let out = ap (λ (rs : List Released). map released_frame rs) h.ends.out in
    let p = h.calm.first h.runs in
    let n = capture_primary (compares (record w.first { waits = [] }) (settle w.first.comparing is_turn)) in
    let all = captures_alike kind stream x.after (calm_pair w is_turn) h.calm h.runs may.together may.no_end
    states.primary (rests refl) in
    record {
      happens = record {
        answer = counted answer (map released_frame (settlement_of w.first.comparing is_turn).out) x.out out;
        marks = ap (λ (k : ℕ). marks ++ Captured ((k + 1) % 2 ^ 32) why ∷ []) p.captures;
        released = out;
        wire = refl;
      };
      after = subst (λ (ms : List Message). Stands kind stream (capture x.after)
          (record (sent_down (record (calm_pair w is_turn) { first = n })) { down = ms }))
          (append_assoc w.down w.first.waits n.waits) all;
    }

pub ends_alike : (kind : Kind) (stream : List (List ℕ)) (line : Line) (marks : List Mark) (delivered : Option Message)
    (answer : ℕ → Answer) (x : Ended) (w : Pair) (is_turn : Bool) → Ends kind stream x w is_turn
    → Goes kind stream (outcome_with line marks delivered answer x)
    (ended w (cause_of (need_after w.first.comparing is_turn)) is_turn answer marks
    (delivered_bytes (step_with line (answer 0) marks delivered [])))
ends_alike kind stream line marks delivered answer x w is_turn h =
    let wire = delivered_bytes (step_with line (answer 0) marks delivered []) in
    let why = cause_alike (need_after w.first.comparing is_turn) ∙ h.ends.cause_is in
    subst (λ (c : Option Cause). Goes kind stream (outcome_with line marks delivered answer x)
    (ended w c is_turn answer marks wire)) (sym why)
    (settled_case (λ o. Goes kind stream o (ended w x.cause is_turn answer marks wire)) line marks delivered answer x
    (λ e. subst (λ (c : Option Cause). Goes kind stream (uncaused line marks delivered answer x)
    (ended w c is_turn answer marks wire)) (sym e)
    (uncaused_alike kind stream line marks delivered answer x w is_turn h))
    (λ cause e. subst (λ (c : Option Cause). Goes kind stream (caused cause line marks delivered answer x)
    (ended w c is_turn answer marks wire)) (sym e)
    (caused_alike kind stream cause line marks delivered answer x w is_turn h (h.may cause e))))
