-- More frames of the client change no event that had its frame.
use Rattle.std.proofs.Common.{◌≡◌, ℕ, ◌+◌, ◌<◌, ◌≤◌, zero, suc, Bool, true, false, List, [], ◌∷◌, ◌++◌, Option, Some, None, Ok, Err, flat_map, if◌then◌else◌, length, refl, sym, ap, subst, ◌∙◌, arith, get_or, length-append}
use Rattle.std.specs.Prelude.{is_some, ◌||◌, replicate, slice_get, sum_by}
use Rattle.std.proofs.Math.ListN.{get_or-append}
use Rattle.std.proofs.lemmas.Option.{slice_get-get_or}
use Rattle.std.proofs.lemmas.List.Concat.{flat_map-append}
use Rattle.std.proofs.lemmas.List.Sums.{sum_by-append}
use Rattle.colo_wire.specs.declared.messages.Message.{Message}
use Rattle.replay_log.specs.declared.lines.Line.{Line}
use Rattle.replay_log.specs.declared.lines.Line.TheVariants.{Primary, Secondary, Client, ToSecondary, ToPrimary, StopPrimary, Report, Ask}
use Rattle.node_parts.specs.Turns.{Turn}
use Rattle.node_primary.specs.Answers as primary
use Rattle.node_secondary.specs.Answers as secondary
use Rattle.pair_core.specs.Events.{Outcome, ask_event, client_event, client_with, deliver_with, down_event, event_of, hears_back_with, hears_with, nothing, passed, primary_asks, primary_event, primary_hears, primary_makes, primary_survives, primary_takes, report_event, secondary_event, secondary_hears, secondary_makes, secondary_survives, secondary_takes, turn_of, up_event}
use Rattle.pair_core.specs.Pair.{Pair, is_primary, is_secondary}
use Rattle.pair_core.specs.declared.node.Node.{Node}
use Rattle.pair_core.specs.declared.node.Node.TheVariants as node
use Rattle.command_plans.specs.Replay.{AreEvents, Event, after_lines, captured_by, event_at, events, released_by, summary_line, writes_of}
use Rattle.serve_rounds.proofs.LineLemmas.{after-append, events-append}
use Rattle.serve_laws.specs.Replaying.{with_frames}

-- ---- one event

-- an event with these frames is the one without them; the pair after it has the frames that it had,
-- so many of them were given, this node stopped, and that was reported or not
pub record Grows (frames : List (List ℕ)) (w : Pair) (next : ℕ) (stopped : Option Node) (reported : Bool)
    (x y : Outcome) : Type 0 where
  pub after : x.after ≡ with_frames frames y.after
  pub answer : x.answer ≡ y.answer
  pub marks : x.marks ≡ y.marks
  pub released : x.released ≡ y.released
  pub wire : x.wire ≡ y.wire
  pub frames_stay : y.after.frames ≡ w.frames
  pub next_is : y.after.next ≡ next
  pub stopped_is : y.after.stopped ≡ stopped
  pub reported_is : y.after.is_reported ≡ reported

-- the outcome y, with these frames
exact : (fs : List (List ℕ)) (w : Pair) (y : Outcome) → y.after.frames ≡ w.frames
    → Grows fs w y.after.next y.after.stopped y.after.is_reported (record y { after = with_frames fs y.after }) y
exact fs w y stay = record {
  after = refl;
  answer = refl;
  marks = refl;
  released = refl;
  wire = refl;
  frames_stay = stay;
  next_is = refl;
  stopped_is = refl;
  reported_is = refl;
}

module _ (fs : List (List ℕ)) (w : Pair) where
  grows_if : (n : ℕ) (s : Option Node) (r b : Bool) (x y u v : Outcome) → Grows fs w n s r x u → Grows fs w n s r y v
      → Grows fs w n s r (if b then x else y) (if b then u else v)
  grows_if n s r true x y u v p q = p
  grows_if n s r false x y u v p q = q

  abbrev Stays : Outcome → Outcome → Type 0
  Stays x y = Grows fs w w.next w.stopped w.is_reported x y

  nothing_grows : Stays (nothing (with_frames fs w)) (nothing w)
  nothing_grows = exact fs w (nothing w) refl

  first_grows : (t : Turn) → Stays (primary_event (with_frames fs w) t) (primary_event w t)
  unfolding primary_makes
  first_grows t =
      grows_if w.next w.stopped w.is_reported (is_primary w.stopped) (nothing (with_frames fs w))
      (primary_makes (with_frames fs w) t) (nothing w) (primary_makes w t) nothing_grows
      (exact fs w (primary_makes w t) refl)

  second_grows : (t : Turn) → Stays (secondary_event (with_frames fs w) t) (secondary_event w t)
  unfolding secondary_makes
  second_grows t =
      grows_if w.next w.stopped w.is_reported (is_secondary w.stopped) (nothing (with_frames fs w))
      (secondary_makes (with_frames fs w) t) (nothing w) (secondary_makes w t) nothing_grows
      (exact fs w (secondary_makes w t) refl)

  ask_grows : Stays (ask_event (with_frames fs w)) (ask_event w)
  unfolding primary_asks
  ask_grows =
      grows_if w.next w.stopped w.is_reported (is_some w.stopped) (nothing (with_frames fs w))
      (primary_asks (with_frames fs w)) (nothing w) (primary_asks w) nothing_grows
      (exact fs w (primary_asks w) refl)

  report_grows : Grows fs w w.next w.stopped true (report_event (with_frames fs w)) (report_event w)
  unfolding primary_survives secondary_survives
  report_grows =
      grows_if w.next w.stopped true (is_primary w.stopped) (secondary_survives (with_frames fs w))
      (primary_survives (with_frames fs w)) (secondary_survives w) (primary_survives w)
      (exact fs w (secondary_survives w) refl)
      (exact fs w (primary_survives w) refl)

  -- a client's frame, which is there
  frame_grows : (frame : List ℕ) → Grows fs w (w.next + 1) w.stopped w.is_reported
      (client_with (with_frames fs w) (Some frame)) (client_with w (Some frame))
  unfolding primary_takes secondary_takes
  frame_grows frame =
      grows_if (w.next + 1) w.stopped w.is_reported (is_primary w.stopped)
      (secondary_takes (passed (with_frames fs w)) w.next frame)
      (primary_takes (passed (with_frames fs w)) w.next frame) (secondary_takes (passed w) w.next frame)
      (primary_takes (passed w) w.next frame)
      (exact fs w (secondary_takes (passed w) w.next frame) refl)
      (exact fs w (primary_takes (passed w) w.next frame) refl)

  client_grows : (more : List (List ℕ)) → fs ≡ w.frames ++ more → w.next < length w.frames
      → Grows fs w (w.next + 1) w.stopped w.is_reported (client_event (with_frames fs w)) (client_event w)
  client_grows more is within =
      let frame = get_or w.frames w.next [] in
      let here : slice_get w.frames w.next ≡ Some frame = slice_get-get_or w.frames w.next [] within in
      let room : w.next < length fs =
      omega (arith, within, ap length is ∙ length-append w.frames more) in
      let there : slice_get fs w.next ≡ Some frame =
      slice_get-get_or fs w.next [] room
      ∙ ap (λ (f : List ℕ). Some f)
      (ap (λ (l : List (List ℕ)). get_or l w.next []) is ∙ get_or-append w.frames more [] w.next within) in
      rw (here, there) (frame_grows frame)

-- ---- a delivery

down_grows : (fs : List (List ℕ)) (w : Pair) → Stays fs w (down_event (with_frames fs w)) (down_event w)
unfolding hears_with secondary_hears
down_grows fs w =
    grows_if fs w w.next w.stopped w.is_reported (is_secondary w.stopped || w.is_reported)
    (nothing (with_frames fs w))
    (deliver_with secondary_hears (with_frames fs w) w.down (λ ms. record (with_frames fs w) { down = ms }))
    (nothing w) (deliver_with secondary_hears w w.down (λ ms. record w { down = ms })) (nothing_grows fs w) (by w.down)
  where
    heard : (ms : List Message) (m : Message) (a : secondary.Answer)
        → Stays fs w (hears_with (record (with_frames fs w) { down = ms }) m a)
        (hears_with (record w { down = ms }) m a)
    heard ms m (Ok told) = exact fs w (hears_with (record w { down = ms }) m (Ok told)) refl
    heard ms m (Err fault) = exact fs w (hears_with (record w { down = ms }) m (Err fault)) refl

    by : (messages : List Message)
        → Stays fs w
        (deliver_with secondary_hears (with_frames fs w) messages (λ ms. record (with_frames fs w) { down = ms }))
        (deliver_with secondary_hears w messages (λ ms. record w { down = ms }))
    by [] = nothing_grows fs w
    by (m ∷ ms) = heard ms m (secondary.answer_to w.second (Ok m))

up_grows : (fs : List (List ℕ)) (w : Pair) → Stays fs w (up_event (with_frames fs w)) (up_event w)
unfolding hears_back_with primary_hears
up_grows fs w =
    grows_if fs w w.next w.stopped w.is_reported (is_primary w.stopped || w.is_reported)
    (nothing (with_frames fs w))
    (deliver_with primary_hears (with_frames fs w) w.up (λ ms. record (with_frames fs w) { up = ms }))
    (nothing w) (deliver_with primary_hears w w.up (λ ms. record w { up = ms })) (nothing_grows fs w) (by w.up)
  where
    heard : (ms : List Message) (m : Message) (a : primary.Answer)
        → Stays fs w (hears_back_with (record (with_frames fs w) { up = ms }) m a)
        (hears_back_with (record w { up = ms }) m a)
    heard ms m (Ok told) = exact fs w (hears_back_with (record w { up = ms }) m (Ok told)) refl
    heard ms m (Err fault) = exact fs w (hears_back_with (record w { up = ms }) m (Err fault)) refl

    by : (messages : List Message)
        → Stays fs w
        (deliver_with primary_hears (with_frames fs w) messages (λ ms. record (with_frames fs w) { up = ms }))
        (deliver_with primary_hears w messages (λ ms. record w { up = ms }))
    by [] = nothing_grows fs w
    by (m ∷ ms) = heard ms m (primary.answer_to w.first (Ok m))

-- ---- what events leave

-- both leave and count the same
pub record Alike (es fs : List Event) : Type 0 where
  pub writes : flat_map writes_of es ≡ flat_map writes_of fs
  pub many : length es ≡ length fs
  pub released : sum_by released_by es ≡ sum_by released_by fs
  pub captured : sum_by captured_by es ≡ sum_by captured_by fs

pub alike_none : (es : List Event) → Alike es es
alike_none es = record { writes = refl; many = refl; released = refl; captured = refl }

pub alike_then : (es fs gs hs : List Event) → Alike es fs → Alike gs hs → Alike (es ++ gs) (fs ++ hs)
alike_then es fs gs hs p q = record {
  writes = flat_map-append writes_of es gs
      ∙ (rw (p.writes, q.writes) (sym (flat_map-append writes_of fs hs)));
  many = length-append es gs ∙ (rw (p.many, q.many) (sym (length-append fs hs)));
  released = sum_by-append released_by es gs
      ∙ (rw (p.released, q.released) (sym (sum_by-append released_by fs hs)));
  captured = sum_by-append captured_by es gs
      ∙ (rw (p.captured, q.captured) (sym (sum_by-append captured_by fs hs)));
}

pub alike_line : (es fs : List Event) → Alike es fs → summary_line es ≡ summary_line fs
unfolding summary_line
alike_line es fs a = rw (a.many, a.released, a.captured) refl

-- ---- lines in a row

-- events of these lines, none of which is refused
pub record GrowsOn (frames : List (List ℕ)) (w : Pair) (next : ℕ) (stopped : Option Node) (reported : Bool)
    (lines : List Line) : Type 0 where
  pub good : AreEvents (with_frames frames w) lines
  pub same : Alike (events (with_frames frames w) lines) (events w lines)
  pub after : after_lines (with_frames frames w) lines ≡ with_frames frames (after_lines w lines)
  pub frames_stay : (after_lines w lines).frames ≡ w.frames
  pub next_is : (after_lines w lines).next ≡ next
  pub stopped_is : (after_lines w lines).stopped ≡ stopped
  pub reported_is : (after_lines w lines).is_reported ≡ reported

abbrev pub StaysOn : List (List ℕ) → Pair → List Line → Type 0
StaysOn frames w lines = GrowsOn frames w w.next w.stopped w.is_reported lines

pub grows_none : (fs : List (List ℕ)) (w : Pair) → StaysOn fs w []
grows_none fs w = record {
  good = tt;
  same = alike_none [];
  after = refl;
  frames_stay = refl;
  next_is = refl;
  stopped_is = refl;
  reported_is = refl;
}

-- one of them
one_alike : (fs : List (List ℕ)) (w : Pair) (n : ℕ) (s : Option Node) (r : Bool) (x : Line)
    → Grows fs w n s r (event_of (with_frames fs w) x) (event_of w x)
    → Alike (event_at (with_frames fs w) x ∷ []) (event_at w x ∷ [])
one_alike fs w n s r x g = record {
  writes = rw (g.answer, g.marks, g.released, g.wire) refl;
  many = refl;
  released = rw g.released refl;
  captured = rw g.marks refl;
}

pub grows_one : (fs : List (List ℕ)) (w : Pair) (n : ℕ) (s : Option Node) (r : Bool) (x : Line)
    → AreEvents (with_frames fs w) (x ∷ []) → Grows fs w n s r (event_of (with_frames fs w) x) (event_of w x)
    → GrowsOn fs w n s r (x ∷ [])
grows_one fs w n s r x good g = record {
  good = good;
  same = one_alike fs w n s r x g;
  after = g.after;
  frames_stay = g.frames_stay;
  next_is = g.next_is;
  stopped_is = g.stopped_is;
  reported_is = g.reported_is;
}

pub good_then : (w : Pair) (xs ys : List Line) → AreEvents w xs → AreEvents (after_lines w xs) ys
    → AreEvents w (xs ++ ys)
good_then w [] ys p q = q
good_then w (x ∷ xs) ys p q = (p.0, good_then (event_of w x).after xs ys p.1 q)

pub grows_then : (fs : List (List ℕ)) (w : Pair) (n m : ℕ) (s t : Option Node) (r q : Bool) (xs ys : List Line)
    → GrowsOn fs w n s r xs → GrowsOn fs (after_lines w xs) m t q ys → GrowsOn fs w m t q (xs ++ ys)
grows_then fs w n m s t r q xs ys a b =
    let v = after_lines w xs in
    let many : events (with_frames fs w) (xs ++ ys)
    ≡ events (with_frames fs w) xs ++ events (with_frames fs v) ys =
    events-append (with_frames fs w) xs ys
    ∙ ap (λ (x : Pair). events (with_frames fs w) xs ++ events x ys) a.after in
    let last : after_lines (with_frames fs w) (xs ++ ys) ≡ after_lines (with_frames fs v) ys =
    after-append (with_frames fs w) xs ys ∙ ap (λ (x : Pair). after_lines x ys) a.after in
    let place : after_lines w (xs ++ ys) ≡ after_lines v ys = after-append w xs ys in
    record {
      good = good_then (with_frames fs w) xs ys a.good (subst (λ (x : Pair). AreEvents x ys) (sym a.after) b.good);
      same = rw (many, events-append w xs ys)
          (alike_then (events (with_frames fs w) xs) (events w xs) (events (with_frames fs v) ys) (events v ys)
          a.same b.same);
      after = last ∙ (b.after ∙ ap (λ (x : Pair). with_frames fs x) (sym place));
      frames_stay = ap (λ (x : Pair). x.frames) place ∙ (b.frames_stay ∙ a.frames_stay);
      next_is = ap (λ (x : Pair). x.next) place ∙ b.next_is;
      stopped_is = ap (λ (x : Pair). x.stopped) place ∙ b.stopped_is;
      reported_is = ap (λ (x : Pair). x.is_reported) place ∙ b.reported_is;
    }

-- where both keep what they had
pub stays_then : (fs : List (List ℕ)) (w : Pair) (xs ys : List Line) → StaysOn fs w xs
    → StaysOn fs (after_lines w xs) ys → StaysOn fs w (xs ++ ys)
stays_then fs w xs ys a b =
    let v = after_lines w xs in
    let c : GrowsOn fs v w.next v.stopped v.is_reported ys =
    subst (λ (n : ℕ). GrowsOn fs v n v.stopped v.is_reported ys) a.next_is b in
    let d : GrowsOn fs v w.next w.stopped v.is_reported ys =
    subst (λ (s : Option Node). GrowsOn fs v w.next s v.is_reported ys) a.stopped_is c in
    let e : GrowsOn fs v w.next w.stopped w.is_reported ys =
    subst (λ (r : Bool). GrowsOn fs v w.next w.stopped r ys) a.reported_is d in
    grows_then fs w w.next w.next w.stopped w.stopped w.is_reported w.is_reported xs ys a e

-- ---- the lines of a round

-- a line that reads no frame, and stops nothing
abbrev pub IsStill : Line → Type 0
IsStill (Primary d i b n) = Unit {0}
IsStill (Secondary d i b n) = Unit {0}
IsStill ToSecondary = Unit {0}
IsStill ToPrimary = Unit {0}
IsStill Ask = Unit {0}
IsStill x = ⊥

pub still_grows : (fs : List (List ℕ)) (w : Pair) (x : Line) → IsStill x → StaysOn fs w (x ∷ [])
still_grows fs w (Primary d i b n) still =
    grows_one fs w w.next w.stopped w.is_reported (Primary d i b n) (refl, tt) (first_grows fs w (turn_of d i b n))
still_grows fs w (Secondary d i b n) still =
    grows_one fs w w.next w.stopped w.is_reported (Secondary d i b n) (refl, tt) (second_grows fs w (turn_of d i b n))
still_grows fs w ToSecondary still =
    grows_one fs w w.next w.stopped w.is_reported ToSecondary (refl, tt) (down_grows fs w)
still_grows fs w ToPrimary still =
    grows_one fs w w.next w.stopped w.is_reported ToPrimary (refl, tt) (up_grows fs w)
still_grows fs w Ask still = grows_one fs w w.next w.stopped w.is_reported Ask (refl, tt) (ask_grows fs w)
still_grows fs w x still = absurd still

pub times_grow : (fs : List (List ℕ)) (w : Pair) (x : Line) (n : ℕ) → IsStill x → StaysOn fs w (replicate n x)
times_grow fs w x zero still = grows_none fs w
times_grow fs w x (suc n) still =
    stays_then fs w (x ∷ []) (replicate n x) (still_grows fs w x still)
    (times_grow fs (after_lines w (x ∷ [])) x n still)

-- so many frames of clients, which are there
pub clients_grow : (fs : List (List ℕ)) (w : Pair) (n : ℕ) (more : List (List ℕ)) → fs ≡ w.frames ++ more
    → w.next + n ≤ length w.frames
    → GrowsOn fs w (w.next + n) w.stopped w.is_reported (replicate n Client)
clients_grow fs w zero more is room =
    let e : w.next ≡ w.next + 0 = omega arith in
    subst (λ (k : ℕ). GrowsOn fs w k w.stopped w.is_reported []) e (grows_none fs w)
clients_grow fs w (suc n) more is room =
    let one = grows_one fs w (w.next + 1) w.stopped w.is_reported Client (refl, tt)
    (client_grows fs w more is (omega (arith, room))) in
    let v = after_lines w (Client ∷ []) in
    let there : fs ≡ v.frames ++ more = is ∙ ap (λ (l : List (List ℕ)). l ++ more) (sym one.frames_stay) in
    let left : v.next + n ≤ length v.frames = omega (arith, room, one.next_is, ap length one.frames_stay) in
    let rest = clients_grow fs v n more there left in
    let at : v.next + n ≡ w.next + suc n = omega (arith, one.next_is) in
    let c : GrowsOn fs v (w.next + suc n) v.stopped v.is_reported (replicate n Client) =
    subst (λ (k : ℕ). GrowsOn fs v k v.stopped v.is_reported (replicate n Client)) at rest in
    let d : GrowsOn fs v (w.next + suc n) w.stopped v.is_reported (replicate n Client) =
    subst (λ (s : Option Node). GrowsOn fs v (w.next + suc n) s v.is_reported (replicate n Client)) one.stopped_is c in
    let e : GrowsOn fs v (w.next + suc n) w.stopped w.is_reported (replicate n Client) =
    subst (λ (r : Bool). GrowsOn fs v (w.next + suc n) w.stopped r (replicate n Client)) one.reported_is d in
    grows_then fs w (w.next + 1) (w.next + suc n) w.stopped w.stopped w.is_reported w.is_reported (Client ∷ [])
    (replicate n Client) one e

-- the stop of the primary, and its report
pub stop_grows : (fs : List (List ℕ)) (w : Pair) → w.stopped ≡ None → w.is_reported ≡ false
    → GrowsOn fs w w.next (Some node.Primary) true (StopPrimary ∷ (Report ∷ []))
stop_grows fs w going unreported =
    let v = after_lines w (StopPrimary ∷ []) in
    grows_then fs w w.next w.next (Some node.Primary) (Some node.Primary) w.is_reported true (StopPrimary ∷ [])
    (Report ∷ [])
    (grows_one fs w w.next (Some node.Primary) w.is_reported StopPrimary (rw going refl, tt)
    (exact fs w (event_of w StopPrimary) refl))
    (grows_one fs v w.next (Some node.Primary) true Report (rw unreported refl, tt) (report_grows fs v))
