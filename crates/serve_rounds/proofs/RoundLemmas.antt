-- The parts of a round, one after the other.
use Rattle.std.proofs.Common.{◌≡◌, ℕ, ◌+◌, Bool, true, false, not, if◌then◌else◌, List, [], ◌∷◌, ◌++◌, ◌==◌, min, length, None, Some, refl, sym, ap, ◌∙◌, subst}
use Rattle.std.specs.Prelude.{replicate}
use Rattle.std.proofs.lemmas.Bool.{eqb-true}
use Rattle.colo_base.specs.Clock.{ClockState}
use Rattle.colo_base.specs.Link.{LinkState}
use Rattle.colo_base.specs.Shelf.{ShelfState}
use Rattle.colo_words.specs.declared.options.Options.{Options}
use Rattle.replay_log.specs.declared.lines.Line.{Line}
use Rattle.replay_log.specs.declared.lines.Line.TheVariants.{Primary, Secondary, ToPrimary, ToSecondary, Report, StopPrimary}
use Rattle.sock_link.specs.Stream.{is_too_long}
use Rattle.sock_link.specs.Unframed.{Stands, Unframed}
use Rattle.state_wire.specs.Guest.{Meaning}
use Rattle.file_steps.specs.Steps.{Done, Fails, Outside, nothing, outside, read_clock, ticked}
use Rattle.file_steps.specs.declared.fault.Fault.{Fault}
use Rattle.file_steps.specs.declared.fault.Fault.TheVariants.{NoMemory}
use Rattle.command_inputs.specs.Client.{frames_of}
use Rattle.pair_core.specs.Pair.{Held, Pair, pair_of}
use Rattle.pair_core.specs.Steps.{report_refusal, stop_refusal}
use Rattle.pair_core.specs.declared.node.Node.TheVariants as node
use Rattle.command_plans.specs.Replay.{AreEvents, after_lines, events}
use Rattle.command_plans.specs.Steps.{IsCounted}
use Rattle.command_plans.specs.declared.replay.Counts.{Counts}
use Rattle.serve_rounds.specs.Work.{IsStopped, Reaches, Work, does, reads}
use Rattle.serve_rounds.specs.Rounds.{Serving, after_events, delivery_lines, elapsed, first_turn, makes, most_delivered, next_round, second_turn, serves}
use Rattle.serve_rounds.specs.Serving.{CannotServe, Ends, Goes, Halts, Holds, IsServed, KeepsServer, Moment, Went, moment, before, behind, ends}
use Rattle.serve_rounds.specs.declared.server.Server.{Server}
use Rattle.serve_rounds.proofs.LineLemmas.{served_none}
use Rattle.serve_rounds.proofs.WorkLemmas.{does_fails, does_reaches, reaches_none, reaches_then, reads_reaches, stops_at_once, stops_then}

abbrev pub Part : Type 0
Part = (Serving → Work) → Serving → Work

-- ---- one part after the other

module _ {G : Type 0} (meaning : G → Meaning) (out : List ℕ) where
  pub went_then : (p q : Part) (a b c : Moment G) → Went meaning out p a b → Went meaning out q b c
      → Went meaning out (λ next. p (q next)) a c
  went_then p q a b c first second s h =
      let f = first s h in
      let g = second f.now f.holds in
      record {
        now = g.now;
        holds = g.holds;
        reaches = λ next. reaches_then out (p (q next) s) (q next f.now) (next g.now) a.around b.around c.around
            (f.reaches (q next)) (g.reaches next);
      }

  pub halts_then : (p q : Part) (a b : Moment G) (c : Outside) (fault : Fault) → Went meaning out p a b
      → Halts meaning out q b c fault → Halts meaning out (λ next. p (q next)) a c fault
  halts_then p q a b c fault first halts s next h =
      let f = first s h in
      stops_then out (p (q next) s) (q next f.now) a.around b.around c fault (f.reaches (q next))
      (halts f.now next f.holds)

  pub halts_front : (p q : Part) (a : Moment G) (c : Outside) (fault : Fault) → Halts meaning out p a c fault
      → Halts meaning out (λ next. p (q next)) a c fault
  halts_front p q a c fault halts s next h = halts s (q next) h

  -- memory was refused before it
  pub halts_at_once : (p : Part) (server : Server) (h : Held G) (o : Outside)
      → Halts meaning out p (moment server h o) o NoMemory
  halts_at_once p server h o s next holds = stops_at_once out (p next s) o

  -- ---- lines

  -- what the code holds after lines
  pub holds_after : (lines : List Line) (server now : Server) (h i : Held G) (e : Ends)
      → IsServed meaning out lines h i server.counts now.counts e → now.counts.lines ≡ i.steps → KeepsServer server now
      → (s : Serving) → Holds meaning server h s → Holds meaning now i (after_events s lines)
  holds_after lines server now h i e served steps keeps s held = record {
    pair = served.after ∙ ap (λ w. after_lines w lines) held.pair;
    counts = subst (λ (w : Pair). IsCounted (s.made ++ events w lines) now.counts) held.pair
        (served.counted s.made held.counts);
    steps = steps;
    round = keeps.round ∙ held.round;
    stands = subst (λ (u : Unframed). Stands u s.heard (frames_of s.heard)) (sym keeps.unframer) held.stands;
    taken = ap (λ (u : Unframed). u.frames) keeps.unframer ∙ held.taken;
    short = ap (λ (u : Unframed). is_too_long u.part) keeps.unframer ∙ held.short;
    first_tick = keeps.first_tick ∙ held.first_tick;
    second_tick = keeps.second_tick ∙ held.second_tick;
  }

  pub served_goes : (lines : List Line) (server now : Server) (h i : Held G) (e : Ends) (k : ClockState)
      → IsServed meaning out lines h i server.counts now.counts e → now.counts.lines ≡ i.steps → KeepsServer server now
      → (s : Serving) → Holds meaning server h s
      → Goes out (makes lines) s (Holds meaning now i) (before e k) (behind e k)
  served_goes lines server now h i e k served steps keeps s held = record {
    now = after_events s lines;
    holds = holds_after lines server now h i e served steps keeps s held;
    reaches = λ next. does_reaches out (serves s.pair lines) (next (after_events s lines)) (before e k) (behind e k)
        (subst (λ (w : Pair). Done out (serves w lines) nothing (before e k) (behind e k)) held.pair (served.done k));
  }

  pub cannot_stops : (lines : List Line) (server : Server) (h : Held G) (e : Ends) (k : ClockState) (fault : Fault)
      → CannotServe meaning out lines h e fault → (s : Serving) (next : Serving → Work) → Holds meaning server h s
      → IsStopped out (makes lines next s) (before e k) (behind e k) fault
  cannot_stops lines server h e k fault cannot s next held =
      does_fails out (serves s.pair lines) (next (after_events s lines)) (before e k) (behind e k) fault
      (subst (λ (w : Pair). Fails out (serves w lines) nothing (before e k) (behind e k) fault) held.pair (cannot k))

  -- ---- a part that makes lines

  abbrev pub MakesThem : Part → List Line → Server → Held G → Type 0
  MakesThem part lines server h =
      (s : Serving) (next : Serving → Work) → Holds meaning server h s → part next s ≡ makes lines next s

  pub lines_went : (part : Part) (lines : List Line) (server now : Server) (h i : Held G) (e : Ends) (k : ClockState)
      → MakesThem part lines server h → IsServed meaning out lines h i server.counts now.counts e
      → now.counts.lines ≡ i.steps → KeepsServer server now
      → Went meaning out part (moment server h (before e k)) (moment now i (behind e k))
  lines_went part lines server now h i e k same served steps keeps s held =
      let g = served_goes lines server now h i e k served steps keeps s held in
      record {
        now = g.now;
        holds = g.holds;
        reaches = λ next. subst (λ (w : Work). Reaches out w (next g.now) (before e k) (behind e k))
            (sym (same s next held)) (g.reaches next);
      }

  pub lines_halt : (part : Part) (lines : List Line) (server : Server) (h : Held G) (e : Ends) (k : ClockState)
      (fault : Fault) → MakesThem part lines server h → CannotServe meaning out lines h e fault
      → Halts meaning out part (moment server h (before e k)) (behind e k) fault
  lines_halt part lines server h e k fault same cannot s next held =
      subst (λ (w : Work). IsStopped out w (before e k) (behind e k) fault) (sym (same s next held))
      (cannot_stops lines server h e k fault cannot s next held)

  -- no line is made
  pub idle_went : (part : Part) (server : Server) (h : Held G) (a : ShelfState) (l : LinkState) (k : ClockState)
      → MakesThem part [] server h → server.counts.lines ≡ h.steps
      → Went meaning out part (moment server h (outside a l k)) (moment server h (outside a l k))
  idle_went part server h a l k same steps =
      lines_went part [] server server h h (ends a a l l) k same
      (served_none meaning out h server.counts (ends a a l l) refl refl) steps
      (record { unframer = refl; round = refl; first_tick = refl; second_tick = refl })

  -- ---- a turn after a reading of the clock

  module _ (o : Options) (t : ℕ) (server : Server) (h : Held G) (a z : ShelfState) (l n : LinkState)
      (k j : ClockState) (read : Done out (read_clock ∷ []) (ticked t) (outside a l k) (outside a l j)) where
    abbrev pub first_line : ℕ → List Line
    first_line before_it = Primary (elapsed before_it t) true 8 o.steps ∷ []

    abbrev pub second_line : ℕ → List Line
    second_line before_it = Secondary (elapsed before_it t) true 8 o.steps ∷ []

    -- what the code holds after the turn
    turned : (lines : List Line) (now : Server) (i : Held G) (s : Serving)
        → IsServed meaning out lines h i server.counts now.counts (ends a z l n) → now.counts.lines ≡ i.steps
        → now.unframer ≡ server.unframer → now.round ≡ server.round → pair_of meaning h ≡ s.pair
        → IsCounted s.made server.counts → server.round ≡ s.round → Stands server.unframer s.heard (frames_of s.heard)
        → server.unframer.frames ≡ [] → is_too_long server.unframer.part ≡ false → now.first_tick ≡ s.first_tick
        → now.second_tick ≡ s.second_tick → Holds meaning now i (after_events s lines)
    turned lines now i s served steps unframer round pair counts rounds stands taken short first second = record {
      pair = served.after ∙ ap (λ w. after_lines w lines) pair;
      counts = subst (λ (w : Pair). IsCounted (s.made ++ events w lines) now.counts) pair
          (served.counted s.made counts);
      steps = steps;
      round = round ∙ rounds;
      stands = subst (λ (u : Unframed). Stands u s.heard (frames_of s.heard)) (sym unframer) stands;
      taken = ap (λ (u : Unframed). u.frames) unframer ∙ taken;
      short = ap (λ (u : Unframed). is_too_long u.part) unframer ∙ short;
      first_tick = first;
      second_tick = second;
    }

    -- the clock is read, and then the lines are made
    read_lines : (lines : List Line) (i : Held G) (c d : Counts) (s : Serving) (after_it : Work) (next : ℕ → Work)
        → IsServed meaning out lines h i c d (ends a z l n) → pair_of meaning h ≡ s.pair
        → next t ≡ does (serves s.pair lines) after_it → Reaches out (reads next) after_it (outside a l k) (outside
        z n j)
    read_lines lines i c d s after_it next served pair is =
        reaches_then out (reads next) (next t) after_it (outside a l k) (outside a l j) (outside z n j)
        (reads_reaches out next t (outside a l k) (outside a l j) read)
        (subst (λ (w : Work). Reaches out w after_it (outside a l j) (outside z n j)) (sym is)
        (does_reaches out (serves s.pair lines) after_it (outside a l j) (outside z n j)
        (subst (λ (w : Pair). Done out (serves w lines) nothing (outside a l j) (outside z n j)) pair (served.done j))))

    pub first_went : (now : Server) (i : Held G)
        → IsServed meaning out (first_line server.first_tick) h i server.counts now.counts (ends a z l n)
        → now.counts.lines ≡ i.steps → now.unframer ≡ server.unframer → now.round ≡ server.round
        → now.first_tick ≡ t → now.second_tick ≡ server.second_tick
        → Went meaning out (first_turn o) (moment server h (outside a l k)) (moment now i (outside z n j))
    first_went now i served steps unframer round first second s held =
        let P : ℕ → Type 0 = λ b. IsServed meaning out (first_line b) h i server.counts now.counts (ends a z l n) in
        let served_s = subst P held.first_tick served in
        let lines = first_line s.first_tick in
        let s1 : Serving = record s { first_tick = t } in
        record {
          now = after_events s1 lines;
          holds = turned lines now i s1 served_s steps unframer round held.pair held.counts held.round held.stands
              held.taken held.short first (second ∙ held.second_tick);
          reaches = λ next. read_lines lines i server.counts now.counts s1 (next (after_events s1 lines))
              (λ x. makes (Primary (elapsed s.first_tick x) true 8 o.steps ∷ []) next (record s { first_tick = x }))
              served_s held.pair refl;
        }

    pub second_went : (now : Server) (i : Held G)
        → IsServed meaning out (second_line server.second_tick) h i server.counts now.counts (ends a z l n)
        → now.counts.lines ≡ i.steps → now.unframer ≡ server.unframer → now.round ≡ server.round
        → now.first_tick ≡ server.first_tick → now.second_tick ≡ t
        → Went meaning out (second_turn o) (moment server h (outside a l k)) (moment now i (outside z n j))
    second_went now i served steps unframer round first second s held =
        let P : ℕ → Type 0 = λ b. IsServed meaning out (second_line b) h i server.counts now.counts (ends a z l n) in
        let served_s = subst P held.second_tick served in
        let lines = second_line s.second_tick in
        let s1 : Serving = record s { second_tick = t } in
        record {
          now = after_events s1 lines;
          holds = turned lines now i s1 served_s steps unframer round held.pair held.counts held.round held.stands
              held.taken held.short (first ∙ held.first_tick) second;
          reaches = λ next. read_lines lines i server.counts now.counts s1 (next (after_events s1 lines))
              (λ x. makes (Secondary (elapsed s.second_tick x) true 8 o.steps ∷ []) next (record s { second_tick = x }))
              served_s held.pair refl;
        }

    -- the turn can't be made
    read_stops : (lines : List Line) (fault : Fault) (s : Serving) (after_it : Work) (next : ℕ → Work)
        → CannotServe meaning out lines h (ends a z l n) fault → pair_of meaning h ≡ s.pair
        → next t ≡ does (serves s.pair lines) after_it → IsStopped out (reads next) (outside a l k) (outside z n j)
        fault
    read_stops lines fault s after_it next cannot pair is =
        stops_then out (reads next) (next t) (outside a l k) (outside a l j) (outside z n j) fault
        (reads_reaches out next t (outside a l k) (outside a l j) read)
        (subst (λ (w : Work). IsStopped out w (outside a l j) (outside z n j) fault) (sym is)
        (does_fails out (serves s.pair lines) after_it (outside a l j) (outside z n j) fault
        (subst (λ (w : Pair). Fails out (serves w lines) nothing (outside a l j) (outside z n j) fault) pair
        (cannot j))))

    pub first_halts : (fault : Fault)
        → CannotServe meaning out (first_line server.first_tick) h (ends a z l n) fault
        → Halts meaning out (first_turn o) (moment server h (outside a l k)) (outside z n j) fault
    first_halts fault cannot s next held =
        let P : ℕ → Type 0 = λ b. CannotServe meaning out (first_line b) h (ends a z l n) fault in
        let s1 : Serving = record s { first_tick = t } in
        read_stops (first_line s.first_tick) fault s1 (next (after_events s1 (first_line s.first_tick)))
        (λ x. makes (Primary (elapsed s.first_tick x) true 8 o.steps ∷ []) next (record s { first_tick = x }))
        (subst P held.first_tick cannot) held.pair refl

    pub second_halts : (fault : Fault)
        → CannotServe meaning out (second_line server.second_tick) h (ends a z l n) fault
        → Halts meaning out (second_turn o) (moment server h (outside a l k)) (outside z n j) fault
    second_halts fault cannot s next held =
        let P : ℕ → Type 0 = λ b. CannotServe meaning out (second_line b) h (ends a z l n) fault in
        let s1 : Serving = record s { second_tick = t } in
        read_stops (second_line s.second_tick) fault s1 (next (after_events s1 (second_line s.second_tick)))
        (λ x. makes (Secondary (elapsed s.second_tick x) true 8 o.steps ∷ []) next (record s { second_tick = x }))
        (subst P held.second_tick cannot) held.pair refl

  -- ---- the next round

  pub next_went : (server now : Server) (h : Held G) (o : Outside) → now.round ≡ server.round + 1
      → now.counts ≡ server.counts → now.unframer ≡ server.unframer → now.first_tick ≡ server.first_tick
      → now.second_tick ≡ server.second_tick
      → Went meaning out (λ next s. next (next_round s)) (moment server h o) (moment now h o)
  next_went server now h o round counts unframer first second s held = record {
    now = next_round s;
    holds = record {
      pair = held.pair;
      counts = subst (λ (x : Counts). IsCounted s.made x) (sym counts) held.counts;
      steps = ap (λ (x : Counts). x.lines) counts ∙ held.steps;
      round = round ∙ ap (λ x. x + 1) held.round;
      stands = subst (λ (u : Unframed). Stands u s.heard (frames_of s.heard)) (sym unframer) held.stands;
      taken = ap (λ (u : Unframed). u.frames) unframer ∙ held.taken;
      short = ap (λ (u : Unframed). is_too_long u.part) unframer ∙ held.short;
      first_tick = first ∙ held.first_tick;
      second_tick = second ∙ held.second_tick;
    };
    reaches = λ next. reaches_none out (next (next_round s)) o;
  }

-- ---- choices

pub if_not : {A : Type 0} (b : Bool) (x y : A) → not b ≡ true → (if b then x else y) ≡ y
if_not true x y e = let f : false ≡ true = e in cc
if_not false x y e = refl

pub if_so : {A : Type 0} (b : Bool) (x y : A) → not b ≡ false → (if b then x else y) ≡ x
if_so true x y e = refl
if_so false x y e = let f : true ≡ false = e in cc

pub is_that : (a b : ℕ) → not (a == b) ≡ false → a ≡ b
is_that a b e = by (a == b) refl e
  where
    by : (t : Bool) → (a == b) ≡ t → not t ≡ false → a ≡ b
    by true is e = eqb-true a b is
    by false is e = let f : true ≡ false = e in cc

-- ---- a stop and its report

pub stop_good : (w : Pair) → w.stopped ≡ None → AreEvents w (StopPrimary ∷ [])
stop_good w stopped = (ap stop_refusal stopped, tt)

pub report_good : (w v : Pair) → v ≡ after_lines w (StopPrimary ∷ []) → w.is_reported ≡ false
    → AreEvents v (Report ∷ [])
report_good w v is reported = (
  ap (λ (u : Pair). report_refusal u.stopped u.is_reported) is ∙ ap (report_refusal (Some node.Primary))
      reported,
  tt,
)

-- ---- deliveries

pub deliveries_are : (w v : Pair) (x y : ℕ) → w ≡ v → x ≡ min (length w.down) most_delivered
    → y ≡ min (length w.up) most_delivered → delivery_lines v ≡ replicate x ToSecondary ++ replicate y ToPrimary
deliveries_are w v x y is down up =
    ap delivery_lines (sym is)
    ∙ (ap (λ n. replicate n ToSecondary ++ replicate (min (length w.up) most_delivered) ToPrimary) (sym down)
    ∙ ap (λ n. replicate x ToSecondary ++ replicate n ToPrimary) (sym up))
