-- The events of a schedule, place by place.
use Rattle.std.proofs.Common.{◌≡◌, ℕ, ◌+◌, ◌<◌, zero, suc, List, [], ◌∷◌, ◌++◌, take, get_or, length, refl, sym, ap, ◌∙◌, None, Some, arith}
use Rattle.std.specs.Prelude.{sum_by, if◌then◌else◌, Bool, true, false, Option}
use Rattle.std.specs.Prelude.{slice_get}
use Rattle.std.proofs.lemmas.List.{length-append, take_more}
use Rattle.std.proofs.lemmas.List.Sums.{sum_by-append, sum_by-cons}
use Rattle.std.proofs.lemmas.Option.{get_or_from_slice_get}
use Rattle.sock_link.specs.Stream.{record_of, stream_of}
use Rattle.sock_link.proofs.HistoryLemmas.{adds_record}
use Rattle.replay_log.specs.declared.lines.Line.{Line}
use Rattle.pair_core.specs.Events.{event_of}
use Rattle.pair_core.specs.Pair.{Held, Pair, is_primary, pair_of}
use Rattle.pair_core.specs.Steps.{IsStep, refusal}
use Rattle.command_plans.specs.Replay.{AreEvents, Event, after_lines, captured_by, captures_by, count, event_at, events, record_of as entry_of, released_by, summary_line, survivor, writes_of}
use Rattle.command_plans.specs.Steps.{IsCounted, counts_line, writes_by}
use Rattle.command_plans.specs.declared.replay.Counts.{Counts}
use Rattle.replay_log.specs.Texts.{record_text}
use Rattle.replay_log.specs.declared.records.Answer.{Answer}
use Rattle.replay_log.specs.declared.records.Mark.{Mark}
use Rattle.replay_log.specs.declared.records.Record.{Record}
use Rattle.file_steps.specs.Events.{event_steps}
use Rattle.out_compare.specs.Comparing.{Comparing}
use Rattle.node_secondary.specs.Node.{Node, node_of}
use Rattle.node_secondary.specs.Survivor.{guest_of, second_of, second_with}
use Rattle.pair_core.specs.Pair as pair
use Rattle.pair_core.specs.declared.pair.Step.{Step as HeldStep}
use Rattle.state_wire.specs.Guest.{Meaning}

pub length_events : (w : Pair) (lines : List Line) → length (events w lines) ≡ length lines
length_events w [] = refl
length_events w (line ∷ lines) = ap suc (length_events (event_of w line).after lines)

-- the pair after one line more
after_suc : (w : Pair) (lines : List Line) (k : ℕ) (d : Line) → k < length lines →
    after_lines w (take (suc k) lines) ≡ (event_of (after_lines w (take k lines)) (get_or lines k d)).after
after_suc w [] k d inside = absurd (omega arith)
after_suc w (line ∷ lines) zero d inside = refl
after_suc w (line ∷ lines) (suc k) d inside = after_suc (event_of w line).after lines k d (omega arith)

pub after_more : (w : Pair) (lines : List Line) (k : ℕ) (d : Line) → k < length lines →
    after_lines w (take (k + 1) lines) ≡ (event_of (after_lines w (take k lines)) (get_or lines k d)).after
after_more w lines k d inside =
    let more : k + 1 ≡ suc k = omega arith in
    ap (λ n. after_lines w (take n lines)) more ∙ after_suc w lines k d inside

-- the event at a place
pub event_there : (w : Pair) (lines : List Line) (k : ℕ) (d : Line) (e : Event) → k < length lines →
    event_at (after_lines w (take k lines)) (get_or lines k d) ≡ get_or (events w lines) k e
event_there w [] k d e inside = absurd (omega arith)
event_there w (line ∷ lines) zero d e inside = refl
event_there w (line ∷ lines) (suc k) d e inside = event_there (event_of w line).after lines k d e (omega arith)

-- no line is refused, at each place
pub good_there : (w : Pair) (lines : List Line) (k : ℕ) (d : Line) → AreEvents w lines → k < length lines →
    refusal (after_lines w (take k lines)) (get_or lines k d) ≡ None
good_there w [] k d good inside = absurd (omega arith)
good_there w (line ∷ lines) zero d good inside = good.0
good_there w (line ∷ lines) (suc k) d good inside =
    good_there (event_of w line).after lines k d good.1 (omega arith)

-- ---- records of frames

pub records_more : (frames : List (List ℕ)) (k : ℕ) (frame text new : List ℕ) → k < length frames
    → slice_get frames k ≡ Some frame → text ≡ stream_of (take k frames) → new ≡ text ++ record_of frame
    → new ≡ stream_of (take (k + 1) frames)
records_more frames k frame text new inside at so_far e =
    e ∙ (ap (λ bytes. bytes ++ record_of frame) so_far
    ∙ (sym (adds_record (take k frames) frame)
    ∙ ap (λ fs. stream_of fs) (ap (λ f. take k frames ++ f ∷ []) (sym (get_or_from_slice_get frames k frame frame at))
    ∙ sym (take_more frames k frame inside))))

-- ---- what a step leaves is what its event leaves

entry_same : (r : Record) (l : Line) (a : Answer) (marks : List Mark) → r.line ≡ l → r.answer ≡ a → r.marks ≡ marks
    → r ≡ record { line = l; answer = a; marks = marks }
entry_same r l a marks p q s = rw (sym p, sym q, sym s) refl

pub writes_same : (w : Pair) (line : Line) (step : HeldStep) → IsStep w line step
    → writes_by step ≡ writes_of (event_at w line)
writes_same w line step h =
    let entry = entry_same step.entry line (event_of w line).answer (event_of w line).marks h.line h.answer h.marks in
    ap (λ (r : Record). event_steps (record_text r) (stream_of step.released) step.wire.items) entry
    ∙ (ap (λ (fs : List (List ℕ)). event_steps (record_text (entry_of (event_at w line))) (stream_of fs)
    step.wire.items) h.released
    ∙ ap (λ (bytes : List ℕ). event_steps (record_text (entry_of (event_at w line)))
    (stream_of (event_of w line).released) bytes) h.wire)

-- ---- counts

-- how many checkpoints are begun after some marks more
abbrev pub marks_counted : ℕ → List Mark → ℕ
marks_counted captured marks = count (captured + count (sum_by captures_by marks))

count_more : (a b : ℕ) → count (count a + b) ≡ count (a + b)
count_more a b = omega arith

count_both : (a b : ℕ) → count (count a + count b) ≡ count (a + b)
count_both a b = omega arith

sum_more : (f : Event → ℕ) (es : List Event) (k : ℕ) (e : Event) → e ≡ get_or es k e → k < length es
    → sum_by f (take (k + 1) es) ≡ sum_by f (take k es) + f e
sum_more f es k e is inside =
    ap (λ (xs : List Event). sum_by f xs) (take_more es k e inside)
    ∙ (sum_by-append f (take k es) (get_or es k e ∷ []) ∙ ap (λ n. sum_by f (take k es) + n) one)
  where
    one : sum_by f (get_or es k e ∷ []) ≡ f e
    one = sum_by-cons f (get_or es k e) [] ∙ omega (arith, ap f is)

pub counts_more : (es : List Event) (k : ℕ) (e : Event) → e ≡ get_or es k e → k < length es → (old new : Counts)
    → IsCounted (take k es) old → new.lines ≡ old.lines + 1 → new.released ≡ count (old.released + released_by e)
    → new.captured ≡ marks_counted old.captured e.outcome.marks → IsCounted (take (k + 1) es) new
counts_more es k e is inside old new h lines released captured = record {
  lines = lines
      ∙ omega (arith, h.lines, ap length (take_more es k e inside), length-append (take k es) (get_or es k e ∷ []));
  released = released
      ∙ (ap (λ n. count (n + released_by e)) h.released
      ∙ (count_more (sum_by released_by (take k es)) (released_by e)
      ∙ ap count (sym (sum_more released_by es k e is inside))));
  captured = captured
      ∙ (ap (λ n. count (n + count (captured_by e))) h.captured
      ∙ (count_both (sum_by captured_by (take k es)) (captured_by e)
      ∙ ap count (sym (sum_more captured_by es k e is inside))));
}

pub summary_same : (es : List Event) (counts : Counts) → IsCounted es counts → counts_line counts ≡ summary_line es
unfolding summary_line
summary_same es counts h = rw (h.lines, h.released, h.captured) refl

-- ---- the node that survives

guest_same : (n : Node) (x : Option Comparing) → guest_of (second_with n x) ≡ n.guest
guest_same n None = refl
guest_same n (Some x) = refl

pub survivor_same : {G : Type 0} (meaning : G → Meaning) (held : Held G)
    → meaning (pair.survivor held) ≡ survivor (pair_of meaning held)
survivor_same meaning held = by (is_primary held.stopped)
  where
    by : (b : Bool) → meaning (if b then held.second.guest else held.first.guest)
        ≡ (if b then guest_of (second_of meaning held.second) else meaning held.first.guest)
    by true = sym (guest_same (node_of meaning held.second) held.second.alone)
    by false = refl
