-- A run on a live link is a replay, part by part.
use Rattle.std.proofs.Common.{◌≡◌, ℕ, ◌+◌, ◌≤◌, zero, suc, Bool, true, false, List, [], ◌∷◌, ◌++◌, ◌⊎◌, inl, inr, Option, None, Some, flat_map, if◌then◌else◌, length, refl, sym, ap, subst, ◌∙◌, arith, append_assoc, codes, length-append}
use Rattle.std.specs.Prelude.{min, replicate, ◌==◌}
use Rattle.std.proofs.lemmas.Bool.{eqb-true}
use Rattle.std.proofs.lemmas.List.{append-nil}
use Rattle.std.proofs.lemmas.List.Concat.{flat_map-append}
use Rattle.colo_base.specs.Link.{Arrival, bytes, ended, quiet}
use Rattle.colo_words.specs.declared.options.Options.{Options}
use Rattle.replay_log.specs.declared.lines.Line.{Line}
use Rattle.replay_log.specs.declared.lines.Line.TheVariants.{Primary, Secondary, Client, ToSecondary, ToPrimary, StopPrimary, Report, Ask}
use Rattle.sock_link.specs.Stream.{is_too_long, stream_of}
use Rattle.state_wire.specs.Guest.{GuestState}
use Rattle.file_steps.specs.Events.{event_steps}
use Rattle.file_steps.specs.Plans.{End, Plan, done, refused, waits}
use Rattle.file_steps.specs.Steps.{Said, Step, append_step, creates, room_of}
use Rattle.command_inputs.specs.Client.{frames_of}
use Rattle.command_inputs.specs.Reading.{client_refusal}
use Rattle.command_plans.specs.Replay.{AreEvents, Event, after_lines, events, page_steps, record_of, replay_files, sector_steps, state_steps, summary_line, survivor, writes_of}
use Rattle.pair_core.specs.Pair.{Pair}
use Rattle.pair_core.specs.declared.node.Node.{Node}
use Rattle.pair_core.specs.declared.node.Node.TheVariants as node
use Rattle.replay_log.specs.Texts.{record_text}
use Rattle.serve_rounds.specs.Rounds.{Serving, after_events, ask_lines, by_arrival, deliveries, delivery_lines, elapsed, finishes, first_turn, goes_on, hear_more, is_due, makes, most_delivered, new_frames, next_round, place_of, refuses, rest_of, round, rounds, second_turn, send_step, serve, serves, serves_of, start, tells, turns}
use Rattle.serve_rounds.specs.Work.{Work, by_arrivals, by_ticks, hears, reads}
use Rattle.serve_rounds.proofs.LineLemmas.{after-append, events-append}
use Rattle.serve_laws.specs.Replaying.{EndsLast, EndsSo, IsAsked, IsFresh, ServeIsReplay, bytes_of, heard_of, last_steps, on_file, on_files, with_frames}
use Rattle.serve_laws.proofs.GrowLemmas.{GrowsOn, StaysOn, alike_line, alike_none, alike_then, clients_grow, good_then, grows_none, stays_then, still_grows, stop_grows, times_grow}
use Rattle.serve_laws.proofs.StreamLemmas.{frames_then}

-- ---- a part of a run is a part of a replay

-- the pair, with the frames of all bytes that came and will come
abbrev grown : List ℕ → Pair → Said → Pair
grown heard w said = with_frames (frames_of (heard ++ heard_of said)) w

-- how a run ends after these bytes and these events, where P holds of the answers that it had
abbrev EndsAfter : (List Arrival → Type 0) → List ℕ → List Event → Pair → Said → List Line → End → Type 0
EndsAfter P heard made w said lines (done line) =
    (line ≡ summary_line (made ++ events (grown heard w said) lines)) × P said.arrivals
EndsAfter P heard made w said lines (refused refusal) = refusal ≡ client_refusal (place_of (heard ++ heard_of said))
EndsAfter P heard made w said lines waits = Unit {0}

record Runs (P : List Arrival → Type 0) (heard : List ℕ) (made : List Event) (w : Pair) (said : Said) (plan : Plan)
    : Type 0 where
  lines : List Line
  good : AreEvents (grown heard w said) lines
  files : on_files plan.steps
      ≡ flat_map writes_of (events (grown heard w said) lines)
      ++ last_steps plan.end (after_lines (grown heard w said) lines)
  ends : EndsAfter P heard made w said lines plan.end

abbrev Claim : (List Arrival → Type 0) → Serving → Work → Type 0
Claim P s work = (said : Said) → IsAsked (work said) said → Runs P s.heard s.made s.pair said (work said)

-- ---- steps on files, and none that hears

none_of_state : (s : GuestState) → flat_map room_of (state_steps s) ≡ []
none_of_state s =
    flat_map-append room_of (page_steps s.pages) (sector_steps s.sectors)
    ∙ rw (each (codes ".ram") s.pages, each (codes ".disk") s.sectors) refl
  where
    one : (end piece : List ℕ) → flat_map room_of (append_step end piece) ≡ []
    one end [] = refl
    one end (x ∷ piece) = refl

    each : (end : List ℕ) (xs : List (List ℕ)) → flat_map room_of (flat_map (append_step end) xs) ≡ []
    each end [] = refl
    each end (x ∷ xs) =
        flat_map-append room_of (append_step end x) (flat_map (append_step end) xs) ∙ rw (one end x) (each end xs)

on_append : (end piece : List ℕ) → on_files (append_step end piece) ≡ append_step end piece
on_append end [] = refl
on_append end (x ∷ piece) = refl

on_state : (s : GuestState) → on_files (state_steps s) ≡ state_steps s
on_state s =
    flat_map-append on_file (page_steps s.pages) (sector_steps s.sectors)
    ∙ rw (each (codes ".ram") s.pages, each (codes ".disk") s.sectors) refl
  where
    each : (end : List ℕ) (xs : List (List ℕ))
        → on_files (flat_map (append_step end) xs) ≡ flat_map (append_step end) xs
    each end [] = refl
    each end (x ∷ xs) =
        flat_map-append on_file (append_step end x) (flat_map (append_step end) xs)
        ∙ rw (on_append end x, each end xs) refl

none_append : (end piece : List ℕ) → flat_map room_of (append_step end piece) ≡ []
none_append end [] = refl
none_append end (x ∷ piece) = refl

none_of_send : (piece : List ℕ) → flat_map room_of (send_step piece) ≡ []
none_of_send [] = refl
none_of_send (x ∷ piece) = refl

on_send : (piece : List ℕ) → on_files (send_step piece) ≡ []
on_send [] = refl
on_send (x ∷ piece) = refl

none_of_event : (log out wire : List ℕ) → flat_map room_of (event_steps log out wire) ≡ []
none_of_event log out wire =
    let a = append_step (codes ".log") log in
    let b = append_step (codes ".released") out in
    let c = append_step (codes ".wire") wire in
    flat_map-append room_of a (b ++ c)
    ∙ rw (none_append (codes ".log") log) (flat_map-append room_of b c
    ∙ rw (none_append (codes ".released") out, none_append (codes ".wire") wire) refl)

on_event : (log out wire : List ℕ) → on_files (event_steps log out wire) ≡ event_steps log out wire
on_event log out wire =
    let a = append_step (codes ".log") log in
    let b = append_step (codes ".released") out in
    let c = append_step (codes ".wire") wire in
    flat_map-append on_file a (b ++ c)
    ∙ rw (
      on_append (codes ".log") log,
      flat_map-append on_file b c,
      on_append (codes ".released") out,
      on_append (codes ".wire") wire,
    ) refl

none_of_events : (es : List Event) → flat_map room_of (flat_map serves_of es) ≡ []
none_of_events [] = refl
none_of_events (e ∷ es) =
    flat_map-append room_of (serves_of e) (flat_map serves_of es)
    ∙ rw (
      flat_map-append room_of (writes_of e) (send_step (stream_of e.outcome.released)),
      none_of_event (record_text (record_of e)) (stream_of e.outcome.released) e.outcome.wire,
      none_of_send (stream_of e.outcome.released),
    ) (none_of_events es)

on_events : (es : List Event) → on_files (flat_map serves_of es) ≡ flat_map writes_of es
on_events [] = refl
on_events (e ∷ es) =
    flat_map-append on_file (serves_of e) (flat_map serves_of es)
    ∙ rw (
      flat_map-append on_file (writes_of e) (send_step (stream_of e.outcome.released)),
      on_event (record_text (record_of e)) (stream_of e.outcome.released) e.outcome.wire,
      on_send (stream_of e.outcome.released),
      append-nil (writes_of e),
    ) (ap (λ l. writes_of e ++ l) (on_events es))

-- ---- the ends

none_left : (arrivals : List Arrival) → length arrivals ≡ 0 → arrivals ≡ []
none_left [] e = refl
none_left (a ∷ arrivals) e = absurd (omega (arith, e))

finishes_runs : (P : List Arrival → Type 0) (s : Serving) → P [] → Claim P s (finishes s)
finishes_runs P s p said asked =
    let st = (survivor s.pair).state in
    let none = none_left said.arrivals (asked ∙ ap length (none_of_state st)) in
    record {
      lines = [];
      good = tt;
      files = on_state st;
      ends = (ap summary_line (sym (append-nil s.made)), subst P (sym none) p);
    }

refuses_runs : (P : List Arrival → Type 0) (s : Serving) → Claim P s (refuses s)
refuses_runs P s said asked =
    let none = none_left said.arrivals asked in
    let same : s.heard ++ heard_of said ≡ s.heard =
    ap (λ (l : List Arrival). s.heard ++ flat_map bytes_of l) none ∙ append-nil s.heard in
    record {
      lines = [];
      good = tt;
      files = refl;
      ends = ap (λ (l : List ℕ). client_refusal (place_of l)) (sym same);
    }

-- ---- events, and then the rest

module _ (P : List Arrival → Type 0) (s : Serving) (lines : List Line) (next : Serving → Work) (said : Said)
    (n : ℕ) (t : Option Node) (r : Bool)
    (g : GrowsOn (frames_of (s.heard ++ heard_of said)) s.pair n t r lines) where
  abbrev all_frames : List (List ℕ)
  all_frames = frames_of (s.heard ++ heard_of said)

  abbrev after_them : Pair
  after_them = after_lines s.pair lines

  -- the pair with these frames, before these events and after them
  abbrev first_pair : Pair
  first_pair = with_frames all_frames s.pair

  abbrev last_pair : Pair
  last_pair = with_frames all_frames after_them

  abbrev rest_plan : Plan
  rest_plan = next (after_events s lines) said

  same_rooms : flat_map room_of (serves s.pair lines ++ rest_plan.steps) ≡ flat_map room_of rest_plan.steps
  same_rooms =
      flat_map-append room_of (serves s.pair lines) rest_plan.steps ∙ rw (none_of_events (events s.pair lines)) refl

  asked_then : IsAsked (makes lines next s said) said → IsAsked rest_plan said
  asked_then asked = asked ∙ ap length same_rooms

  many : (more : List Line) → events first_pair (lines ++ more)
      ≡ events first_pair lines ++ events last_pair more
  many more =
      events-append first_pair lines more
      ∙ ap (λ (x : Pair). events first_pair lines ++ events x more) g.after

  last : (more : List Line)
      → after_lines first_pair (lines ++ more) ≡ after_lines last_pair more
  last more =
      after-append first_pair lines more ∙ ap (λ (x : Pair). after_lines x more) g.after

  files_then : (more : List Line) (end : End) → on_files rest_plan.steps
      ≡ flat_map writes_of (events last_pair more) ++ last_steps end (after_lines last_pair more)
      → on_files (serves s.pair lines ++ rest_plan.steps)
      ≡ flat_map writes_of (events first_pair (lines ++ more))
      ++ last_steps end (after_lines first_pair (lines ++ more))
  files_then more end is =
      let first = flat_map writes_of (events s.pair lines) in
      let second = flat_map writes_of (events last_pair more) in
      let third = last_steps end (after_lines last_pair more) in
      let left : on_files (serves s.pair lines ++ rest_plan.steps) ≡ (first ++ second) ++ third =
      flat_map-append on_file (serves s.pair lines) rest_plan.steps
      ∙ (rw (on_events (events s.pair lines), is) (sym (append_assoc first second third))) in
      let right : flat_map writes_of (events first_pair (lines ++ more)) ≡ first ++ second =
      ap (flat_map writes_of) (many more)
      ∙ (flat_map-append writes_of (events first_pair lines) (events last_pair more)
      ∙ ap (λ (l : List Step). l ++ second) g.same.writes) in
      left ∙ rw (right, last more) refl

  line_then : (more : List Line) → summary_line ((s.made ++ events s.pair lines) ++ events last_pair more)
      ≡ summary_line (s.made ++ events first_pair (lines ++ more))
  line_then more =
      let es = events first_pair lines in
      let rest = events last_pair more in
      ap summary_line (append_assoc s.made (events s.pair lines) rest)
      ∙ (sym (alike_line (s.made ++ (es ++ rest)) (s.made ++ (events s.pair lines ++ rest))
      (alike_then s.made s.made (es ++ rest) (events s.pair lines ++ rest) (alike_none s.made)
      (alike_then es (events s.pair lines) rest rest g.same (alike_none rest))))
      ∙ ap (λ (l : List Event). summary_line (s.made ++ l)) (sym (many more)))

  ends_then : (more : List Line) (end : End)
      → EndsAfter P s.heard (s.made ++ events s.pair lines) after_them said more end
      → EndsAfter P s.heard s.made s.pair said (lines ++ more) end
  ends_then more (done line) e = (e.0 ∙ line_then more, e.1)
  ends_then more (refused refusal) e = e
  ends_then more waits e = tt

  makes_runs : (IsAsked rest_plan said → Runs P s.heard (s.made ++ events s.pair lines) after_them said rest_plan)
      → IsAsked (makes lines next s said) said → Runs P s.heard s.made s.pair said (makes lines next s said)
  makes_runs claim asked =
      let rest = claim (asked_then asked) in
      record {
        lines = lines ++ rest.lines;
        good = good_then first_pair lines rest.lines g.good
            (subst (λ (x : Pair). AreEvents x rest.lines) (sym g.after) rest.good);
        files = files_then rest.lines rest_plan.end rest.files;
        ends = ends_then rest.lines rest_plan.end rest.ends;
      }

-- ---- what the clock and the link say

reads_runs : (P : List Arrival → Type 0) (s : Serving) (next : ℕ → Work) → ((t : ℕ) → Claim P s (next t))
    → Claim P s (reads next)
reads_runs P s next claim said asked = by said.arrivals said.ticks asked
  where
    by : (arrivals : List Arrival) (ticks : List ℕ)
        → length arrivals ≡ length (flat_map room_of (by_ticks next arrivals ticks).steps)
        → Runs P s.heard s.made s.pair (record { arrivals = arrivals; ticks = ticks }) (by_ticks next arrivals ticks)
    by arrivals [] asked = record { lines = []; good = tt; files = refl; ends = tt }
    by arrivals (t ∷ ticks) asked =
        let more : Said = record { arrivals = arrivals; ticks = ticks } in
        let rest = claim t more asked in
        record {
          lines = rest.lines;
          good = rest.good;
          files = rest.files;
          ends = ends_same rest.lines (next t more).end rest.ends;
        }
      where
        ends_same : (lines : List Line) (end : End)
            → EndsAfter P s.heard s.made s.pair (record { arrivals = arrivals; ticks = ticks }) lines end
            → EndsAfter P s.heard s.made s.pair (record { arrivals = arrivals; ticks = t ∷ ticks }) lines end
        ends_same lines (done line) e = e
        ends_same lines (refused refusal) e = e
        ends_same lines waits e = e

-- an answer that came, and what was said after it
abbrev told : Arrival → Said → Said
told a said = record { arrivals = a ∷ said.arrivals; ticks = said.ticks }

hears_runs : (P : List Arrival → Type 0) (s : Serving) (next : Arrival → Work)
    → ((a : Arrival) (said : Said) → IsAsked (next a said) said
    → Runs P s.heard s.made s.pair (told a said) (next a said)) → Claim P s (hears 65536 next)
hears_runs P s next claim said asked = by said.arrivals said.ticks asked
  where
    by : (arrivals : List Arrival) (ticks : List ℕ)
        → length arrivals ≡ length (flat_map room_of (by_arrivals 65536 next arrivals ticks).steps)
        → Runs P s.heard s.made s.pair (record { arrivals = arrivals; ticks = ticks })
        (by_arrivals 65536 next arrivals ticks)
    by [] ticks asked = absurd (omega (arith, asked))
    by (a ∷ arrivals) ticks asked =
        let more : Said = record { arrivals = arrivals; ticks = ticks } in
        let rest = claim a more (omega (arith, asked)) in
        record { lines = rest.lines; good = rest.good; files = rest.files; ends = rest.ends }

-- where P follows of the answers
weaker : (P Q : List Arrival → Type 0) (heard : List ℕ) (made : List Event) (w : Pair) (said : Said) (plan : Plan)
    → (P said.arrivals → Q said.arrivals) → Runs P heard made w said plan → Runs Q heard made w said plan
weaker P Q heard made w said plan f r =
    record { lines = r.lines; good = r.good; files = r.files; ends = by plan.end r.ends }
  where
    by : (end : End) → EndsAfter P heard made w said r.lines end → EndsAfter Q heard made w said r.lines end
    by (done line) e = (e.0, f e.1)
    by (refused refusal) e = e
    by waits e = tt

-- bytes that came are heard
same_heard : (P : List Arrival → Type 0) (heard other : List ℕ) (made : List Event) (w : Pair) (a : Arrival)
    (said : Said) (plan : Plan) → other ++ heard_of said ≡ heard ++ (bytes_of a ++ heard_of said)
    → Runs (λ l. P (a ∷ l)) other made w said plan → Runs P heard made w (told a said) plan
same_heard P heard other made w a said plan is r =
    let pair_is : grown other w said ≡ grown heard w (told a said) =
    ap (λ (l : List ℕ). with_frames (frames_of l) w) is in
    record {
      lines = r.lines;
      good = subst (λ (x : Pair). AreEvents x r.lines) pair_is r.good;
      files = subst (λ (x : Pair). on_files plan.steps
          ≡ flat_map writes_of (events x r.lines) ++ last_steps plan.end (after_lines x r.lines)) pair_is r.files;
      ends = by plan.end r.ends;
    }
  where
    by : (end : End) → EndsAfter (λ l. P (a ∷ l)) other made w said r.lines end
        → EndsAfter P heard made w (told a said) r.lines end
    by (done line) e =
        (e.0 ∙ ap (λ (l : List ℕ). summary_line (made ++ events (with_frames (frames_of l) w) r.lines)) is, e.1)
    by (refused refusal) e = e ∙ ap (λ (l : List ℕ). client_refusal (place_of l)) is
    by waits e = tt

-- ---- what holds between the events of a run

record IsGoing (w : Pair) : Type 0 where
  stopped : w.stopped ≡ None
  is_reported : w.is_reported ≡ false

-- all frames that came were given; before the round of the stop no node stopped
record Good (stop at : ℕ) (heard : List ℕ) (w : Pair) : Type 0 where
  frames : w.frames ≡ frames_of heard
  next : w.next ≡ length w.frames
  can : at ≤ stop → IsGoing w

stays_good : (stop at : ℕ) (heard : List ℕ) (w : Pair) (fs : List (List ℕ)) (lines : List Line) → Good stop at heard w
    → StaysOn fs w lines → Good stop at heard (after_lines w lines)
stays_good stop at heard w fs lines good g = record {
  frames = g.frames_stay ∙ good.frames;
  next = g.next_is ∙ (good.next ∙ ap length (sym g.frames_stay));
  can = λ before. record {
    stopped = g.stopped_is ∙ (good.can before).stopped;
    is_reported = g.reported_is ∙ (good.can before).is_reported;
  };
}

module _ (o : Options) where
  -- before the stop of its round, and after it
  abbrev Ahead : Serving → Type 0
  Ahead s = Good o.stop s.round s.heard s.pair

  abbrev Past : Serving → Type 0
  Past s = Good o.stop (s.round + 1) s.heard s.pair

  abbrev AllAhead : (List Arrival → Type 0) → (Serving → Work) → Type 0
  AllAhead P next = (s : Serving) → Ahead s → Claim P s (next s)

  abbrev AllPast : (List Arrival → Type 0) → (Serving → Work) → Type 0
  AllPast P next = (s : Serving) → Past s → Claim P s (next s)

  -- lines that read no frame and stop nothing
  still_runs : (P : List Arrival → Type 0) (lines : List Line) (next : Serving → Work) (s : Serving) → Past s
      → ((fs : List (List ℕ)) → StaysOn fs s.pair lines) → AllPast P next → Claim P s (makes lines next s)
  still_runs P lines next s past stay claim said =
      let fs = frames_of (s.heard ++ heard_of said) in
      makes_runs P s lines next said s.pair.next s.pair.stopped s.pair.is_reported (stay fs)
      (claim (after_events s lines)
      (stays_good o.stop (s.round + 1) s.heard s.pair fs lines past (stay fs)) said)

  module _ (P : List Arrival → Type 0) (next : Serving → Work) (claim : AllAhead P next) where
    abbrev then_round : Serving → Work
    then_round s = next (next_round s)

    round_runs_on : AllPast P then_round
    round_runs_on s past = claim (next_round s) past

    delivered : AllPast P (deliveries then_round)
    delivered s past =
        let downs = replicate (min (length s.pair.down) most_delivered) ToSecondary in
        let ups = replicate (min (length s.pair.up) most_delivered) ToPrimary in
        still_runs P (delivery_lines s.pair) then_round s past
        (λ fs. stays_then fs s.pair downs ups
        (times_grow fs s.pair ToSecondary (min (length s.pair.down) most_delivered) tt)
        (times_grow fs (after_lines s.pair downs) ToPrimary (min (length s.pair.up) most_delivered) tt)) round_runs_on

    second_made : AllPast P (second_turn o (deliveries then_round))
    second_made s past =
        reads_runs P s (λ t. makes (Secondary (elapsed s.second_tick t) true 8 o.steps ∷ []) (deliveries then_round)
        (record s { second_tick = t }))
        (λ t. still_runs P (Secondary (elapsed s.second_tick t) true 8 o.steps ∷ []) (deliveries then_round)
        (record s { second_tick = t }) past
        (λ fs. still_grows fs s.pair (Secondary (elapsed s.second_tick t) true 8 o.steps) tt) delivered)

    first_made : AllPast P (first_turn o (second_turn o (deliveries then_round)))
    first_made s past =
        reads_runs P s (λ t. makes (Primary (elapsed s.first_tick t) true 8 o.steps ∷ [])
        (second_turn o (deliveries then_round)) (record s { first_tick = t }))
        (λ t. still_runs P (Primary (elapsed s.first_tick t) true 8 o.steps ∷ [])
        (second_turn o (deliveries then_round)) (record s { first_tick = t }) past
        (λ fs. still_grows fs s.pair (Primary (elapsed s.first_tick t) true 8 o.steps) tt) second_made)

    ask_stays : (fs : List (List ℕ)) (w : Pair) (due : Bool) → StaysOn fs w (if due then Ask ∷ [] else [])
    ask_stays fs w true = still_grows fs w Ask tt
    ask_stays fs w false = grows_none fs w

    turns_made : AllPast P (turns o next)
    turns_made s past =
        still_runs P (ask_lines o s.round) (first_turn o (second_turn o (deliveries then_round))) s past
        (λ fs. ask_stays fs s.pair (is_due o.every s.round)) first_made

  -- what is heard
  if_runs : (P : List Arrival → Type 0) (s : Serving) (b : Bool) (x y : Work) → Claim P s x → Claim P s y
      → Claim P s (if b then x else y)
  if_runs P s true x y p q = p
  if_runs P s false x y p q = q

  tells_run : (P : List Arrival → Type 0) (more : List ℕ) (next : Serving → Work) (s : Serving) → Past s
      → AllPast P next → Claim P (hear_more s more) (tells more next s)
  tells_run P more next s past claim said =
      let t = hear_more s more in
      let fresh = new_frames s.heard more in
      let count = length fresh in
      let fs = frames_of (t.heard ++ heard_of said) in
      let here : t.pair.frames ≡ frames_of t.heard =
      ap (λ (l : List (List ℕ)). l ++ fresh) past.frames ∙ sym (frames_then s.heard more) in
      let later = new_frames t.heard (heard_of said) in
      let all : fs ≡ t.pair.frames ++ later =
      frames_then t.heard (heard_of said) ∙ ap (λ (l : List (List ℕ)). l ++ later) (sym here) in
      let size : s.pair.next + count ≡ length t.pair.frames =
      ap (λ (n : ℕ). n + count) past.next ∙ sym (length-append s.pair.frames fresh) in
      let g = clients_grow fs t.pair count later all (omega (arith, size)) in
      let good_after : Past (after_events t (replicate count Client)) = record {
        frames = g.frames_stay ∙ here;
        next = g.next_is ∙ (size ∙ ap length (sym g.frames_stay));
        can = λ before. record {
          stopped = g.stopped_is ∙ (past.can before).stopped;
          is_reported = g.reported_is ∙ (past.can before).is_reported;
        };
      } in
      let u = after_events t (replicate count Client) in
      makes_runs P t (replicate count Client) (goes_on next) said (s.pair.next + count) s.pair.stopped
      s.pair.is_reported g
      (if_runs P u (is_too_long (rest_of u.heard)) (refuses u) (next u) (refuses_runs P u) (claim u good_after) said)

  -- ---- the rounds

  -- so many answers came, one in each round, or the last one is the end of the stream
  abbrev Rounds : ℕ → List Arrival → Type 0
  Rounds n arrivals = (length arrivals ≡ n) ⊎ EndsLast arrivals

  one_more : (n : ℕ) (a : Arrival) (arrivals : List Arrival) → Rounds n arrivals → Rounds (suc n) (a ∷ arrivals)
  one_more n a arrivals (inl e) = inl (omega (arith, e))
  one_more n a arrivals (inr e) = inr (a ∷ e.0, ap (λ (l : List Arrival). a ∷ l) e.1)

  module _ (n : ℕ) (next : Serving → Work) (claim : AllAhead (Rounds n) next) where
    arrival_runs : (s : Serving) → Past s → (a : Arrival) (said : Said) → IsAsked (by_arrival o a next s said) said
        → Runs (Rounds (suc n)) s.heard s.made s.pair (told a said) (by_arrival o a next s said)
    arrival_runs s past (bytes more) said asked =
        same_heard (Rounds (suc n)) s.heard (s.heard ++ more) s.made s.pair (bytes more) said
        (by_arrival o (bytes more) next s said)
        (append_assoc s.heard more (heard_of said))
        (weaker (Rounds n) (λ l. Rounds (suc n) (bytes more ∷ l)) (s.heard ++ more) s.made s.pair said
        (by_arrival o (bytes more) next s said) (one_more n (bytes more) said.arrivals)
        (let r = tells_run (Rounds n) more (turns o next) s past (turns_made (Rounds n) next claim) said asked in
        record { lines = r.lines; good = r.good; files = r.files; ends = r.ends }))
    arrival_runs s past quiet said asked =
        same_heard (Rounds (suc n)) s.heard s.heard s.made s.pair quiet said (by_arrival o quiet next s said) refl
        (weaker (Rounds n) (λ l. Rounds (suc n) (quiet ∷ l)) s.heard s.made s.pair said
        (by_arrival o quiet next s said) (one_more n quiet said.arrivals)
        (turns_made (Rounds n) next claim s past said asked))
    arrival_runs s past ended said asked =
        same_heard (Rounds (suc n)) s.heard s.heard s.made s.pair ended said (by_arrival o ended next s said) refl
        (if_runs (λ l. Rounds (suc n) (ended ∷ l)) s (length (rest_of s.heard) == 0) (finishes s) (refuses s)
        (finishes_runs (λ l. Rounds (suc n) (ended ∷ l)) s (inr ([], refl)))
        (refuses_runs (λ l. Rounds (suc n) (ended ∷ l)) s) said asked)

    hearing_runs : AllPast (Rounds (suc n)) (λ s. hears 65536 (λ a. by_arrival o a next s))
    hearing_runs s past = hears_runs (Rounds (suc n)) s (λ a. by_arrival o a next s) (arrival_runs s past)

    round_runs : AllAhead (Rounds (suc n)) (round o next)
    unfolding round
    round_runs s ahead = by (s.round == o.stop) refl
      where
        hearing : Serving → Work
        hearing t = hears 65536 (λ a. by_arrival o a next t)

        by : (b : Bool) → (s.round == o.stop) ≡ b
            → Claim (Rounds (suc n)) s (makes (if b then StopPrimary ∷ (Report ∷ []) else []) hearing s)
        by false is said =
            let fs = frames_of (s.heard ++ heard_of said) in
            makes_runs (Rounds (suc n)) s [] hearing said s.pair.next s.pair.stopped s.pair.is_reported
            (grows_none fs s.pair)
            (hearing_runs (after_events s []) (record {
              frames = ahead.frames;
              next = ahead.next;
              can = λ before. ahead.can (omega (arith, before));
            }) said)
        by true is said =
            let at : s.round ≡ o.stop = eqb-true s.round o.stop is in
            let going = ahead.can (omega (arith, at)) in
            let lines = StopPrimary ∷ (Report ∷ []) in
            let fs = frames_of (s.heard ++ heard_of said) in
            let g = stop_grows fs s.pair going.stopped going.is_reported in
            makes_runs (Rounds (suc n)) s lines hearing said s.pair.next (Some node.Primary) true g
            (hearing_runs (after_events s lines) (record {
              frames = g.frames_stay ∙ ahead.frames;
              next = g.next_is ∙ (ahead.next ∙ ap length (sym g.frames_stay));
              can = λ before. absurd (omega (arith, before, at));
            }) said)

  rounds_run : (n : ℕ) → AllAhead (Rounds n) (rounds o n)
  unfolding rounds
  rounds_run zero s ahead = finishes_runs (Rounds zero) s (inl refl)
  rounds_run (suc n) s ahead = round_runs n (rounds o n) (rounds_run n) s ahead

  starts : (w : Pair) (t : ℕ) → IsFresh w → Ahead (start o w t)
  unfolding frames_of
  starts w t fresh = record {
    frames = fresh.frames;
    next = fresh.next ∙ ap length (sym fresh.frames);
    can = λ before. record { stopped = fresh.stopped; is_reported = fresh.is_reported };
  }

-- ---- a run

pub serve_is_replay : ServeIsReplay
unfolding serve
serve_is_replay o w address said fresh asked =
    let work = reads (λ t. rounds o o.rounds (start o w t)) in
    let r = reads_runs (Rounds o o.rounds) (start o w 0) (λ t. rounds o o.rounds (start o w t))
    (λ t. rounds_run o o.rounds (start o w t) (starts o w t fresh)) said asked in
    record {
      lines = r.lines;
      good = r.good;
      files = ap (λ (l : List Step). creates replay_files ++ l) r.files;
      ends = by r.lines (work said).end r.ends;
    }
  where
    by : (lines : List Line) (end : End)
        → EndsAfter (Rounds o o.rounds) [] [] w said lines end
        → EndsSo (with_frames (frames_of (heard_of said)) w) lines o.rounds said end
    by lines (done line) e = e
    by lines (refused refusal) e = e
    by lines waits e = tt
