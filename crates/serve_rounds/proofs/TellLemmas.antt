-- What is heard: the frames that came have their lines, and then the round goes on or is refused.
use Rattle.std.proofs.Common.{◌≡◌, ℕ, Bool, true, false, if◌then◌else◌, List, [], ◌++◌, length, sym, ap, ◌∙◌, subst}
use Rattle.std.specs.Prelude.{replicate}
use Rattle.colo_base.specs.Clock.{ClockState}
use Rattle.colo_base.specs.Link.{LinkState}
use Rattle.colo_base.specs.Shelf.{ShelfState}
use Rattle.replay_log.specs.declared.lines.Line.{Line}
use Rattle.replay_log.specs.declared.lines.Line.TheVariants.{Client}
use Rattle.sock_link.specs.Stream.{is_too_long}
use Rattle.sock_link.specs.Unframed.{Feeds, Unframed}
use Rattle.state_wire.specs.Guest.{Meaning}
use Rattle.file_steps.specs.Plans.{refused}
use Rattle.file_steps.specs.Status.{refusal_of}
use Rattle.file_steps.specs.Steps.{Done, Fails, nothing, outside}
use Rattle.file_steps.specs.declared.fault.Fault.{Fault}
use Rattle.file_steps.specs.declared.fault.Fault.TheVariants.{Refused}
use Rattle.file_steps.specs.declared.fault.Refusal.{Refusal as HeldRefusal}
use Rattle.file_steps.proofs.PartLemmas.{done_none}
use Rattle.command_inputs.specs.Reading.{client_refusal}
use Rattle.pair_core.specs.Pair.{Held, Pair, pair_of}
use Rattle.command_plans.specs.Replay.{after_lines, events}
use Rattle.command_plans.specs.Steps.{IsCounted}
use Rattle.serve_rounds.specs.Work.{EndsWith, Reaches, Work}
use Rattle.serve_rounds.specs.Rounds.{Serving, after_events, goes_on, hear_more, new_frames, place_of, refuses, rest_of, serves, tells}
use Rattle.serve_rounds.specs.Serving.{CannotServe, Halts, Holds, IsRefusedAt, IsServed, Went, ends, moment}
use Rattle.serve_rounds.specs.declared.server.Server.{Server}
use Rattle.serve_rounds.proofs.HearLemmas.{long_now, new_are, place_now, stands_now}
use Rattle.serve_rounds.proofs.WorkLemmas.{does_fails, does_reaches, ends_then}

module _ {G : Type 0} (meaning : G → Meaning) (out : List ℕ) (server : Server) (h first : Held G)
    (piece : List ℕ) (v : Unframed) (n : ℕ) (a z : ShelfState) (l m : LinkState) (k : ClockState)
    (feeds : Feeds server.unframer v piece) (count : n ≡ length v.frames)
    (offered : pair_of meaning first ≡ record (pair_of meaning h) { frames = h.frames ++ v.frames }) where
  lines_of : Serving → List Line
  lines_of s = replicate (length (new_frames s.heard piece)) Client

  told : Serving → Serving
  told s = after_events (hear_more s piece) (lines_of s)

  many : (s : Serving) → Holds meaning server h s → length (new_frames s.heard piece) ≡ n
  many s held = ap length (new_are server.unframer v s.heard piece held.stands feeds) ∙ sym count

  pair_is : (s : Serving) → Holds meaning server h s → pair_of meaning first ≡ (hear_more s piece).pair
  pair_is s held =
      offered
      ∙ (ap (λ (w : Pair). record w { frames = w.frames ++ v.frames }) held.pair
      ∙ ap (λ (fs : List (List ℕ)). record s.pair { frames = s.pair.frames ++ fs })
      (sym (new_are server.unframer v s.heard piece held.stands feeds)))

  module _ (now : Server) (i : Held G)
      (served : IsServed meaning out (replicate n Client) first i server.counts now.counts (ends a z l m)) where
    same_lines : (s : Serving) → Holds meaning server h s
        → IsServed meaning out (lines_of s) first i server.counts now.counts (ends a z l m)
    unfolding lines_of
    same_lines s held =
        subst (λ (x : ℕ). IsServed meaning out (replicate x Client) first i server.counts now.counts (ends a z l m))
        (sym (many s held)) served

    told_reaches : (s : Serving) (next : Serving → Work) → Holds meaning server h s
        → Reaches out (tells piece next s) (goes_on next (told s)) (outside a l k) (outside z m k)
    unfolding lines_of told
    told_reaches s next held =
        let lines = lines_of s in
        does_reaches out (serves (hear_more s piece).pair lines) (goes_on next (told s)) (outside a l k)
        (outside z m k) (subst (λ (w : Pair). Done out (serves w lines) nothing (outside a l k) (outside z m k))
        (pair_is s held) ((same_lines s held).done k))

    told_holds : (s : Serving) (w : Unframed) → Holds meaning server h s → now.counts.lines ≡ i.steps
        → w ≡ record v { frames = [] } → now.unframer ≡ w → now.round ≡ server.round
        → now.first_tick ≡ server.first_tick → now.second_tick ≡ server.second_tick → is_too_long v.part ≡ false
        → Holds meaning now i (told s)
    unfolding told
    told_holds s w held steps is unframer round first_tick second_tick short =
        let lines = lines_of s in
        let mine = same_lines s held in
        let u = server.unframer in
        let left : now.unframer ≡ record v { frames = [] } = unframer ∙ is in
        record {
          pair = mine.after ∙ ap (λ x. after_lines x lines) (pair_is s held);
          counts = subst (λ (x : Pair). IsCounted (s.made ++ events x lines) now.counts) (pair_is s held)
              (mine.counted s.made held.counts);
          steps = steps;
          round = round ∙ held.round;
          stands = stands_now u v s.heard piece held.stands feeds now.unframer left;
          taken = ap (λ (x : Unframed). x.frames) left;
          short = ap (λ (x : Unframed). is_too_long x.part) left ∙ short;
          first_tick = first_tick ∙ held.first_tick;
          second_tick = second_tick ∙ held.second_tick;
        }

    pub tell_went : (w : Unframed) → now.counts.lines ≡ i.steps → w ≡ record v { frames = [] } → now.unframer ≡ w
        → now.round ≡ server.round → now.first_tick ≡ server.first_tick → now.second_tick ≡ server.second_tick
        → is_too_long v.part ≡ false
        → Went meaning out (tells piece) (moment server h (outside a l k)) (moment now i (outside z m k))
    unfolding told
    tell_went w steps is unframer round first_tick second_tick short s held =
        let fits : is_too_long (rest_of (s.heard ++ piece)) ≡ false =
        long_now server.unframer v s.heard piece held.stands feeds ∙ short in
        record {
          now = told s;
          holds = told_holds s w held steps is unframer round first_tick second_tick short;
          reaches = λ next. subst (λ (x : Work). Reaches out (tells piece next s) x (outside a l k) (outside z m k))
              (ap (λ (b : Bool). if b then refuses (told s) else next (told s)) fits) (told_reaches s next held);
        }

    -- a length above the limit has come
    pub tell_refused : (place : ℕ) (r : HeldRefusal) → is_too_long v.part ≡ true → place ≡ v.place
        → IsRefusedAt place (Refused r)
        → Halts meaning out (tells piece) (moment server h (outside a l k)) (outside z m k) (Refused r)
    unfolding told
    tell_refused place r long is refusal s next held =
        let o = outside z m k in
        let breaks : is_too_long (rest_of (s.heard ++ piece)) ≡ true =
        long_now server.unframer v s.heard piece held.stands feeds ∙ long in
        let there : place_of (s.heard ++ piece) ≡ place =
        place_now server.unframer v s.heard piece held.stands feeds ∙ sym is in
        let bare : EndsWith out (refuses (told s)) (refused (refusal_of r)) o o = record {
          said = nothing;
          ends = ap (λ x. refused (client_refusal x)) there ∙ ap refused (sym refusal.0);
          done = done_none out o;
        } in
        let last = subst (λ (x : Work). EndsWith out x (refused (refusal_of r)) o o)
        (sym (ap (λ (b : Bool). if b then refuses (told s) else next (told s)) breaks)) bare in (
          refusal.1,
          ends_then out (tells piece next s) (goes_on next (told s)) (refused (refusal_of r))
              (outside a l k) o o (told_reaches s next held) last,
        )

  pub tell_halts : (fault : Fault) → CannotServe meaning out (replicate n Client) first (ends a z l m) fault
      → Halts meaning out (tells piece) (moment server h (outside a l k)) (outside z m k) fault
  unfolding lines_of told
  tell_halts fault cannot s next held =
      let lines = lines_of s in
      let P : ℕ → Type 0 = λ x. CannotServe meaning out (replicate x Client) first (ends a z l m) fault in
      let mine = subst P (sym (many s held)) cannot in
      does_fails out (serves (hear_more s piece).pair lines) (goes_on next (told s)) (outside a l k) (outside z m k)
      fault (subst (λ (w : Pair). Fails out (serves w lines) nothing (outside a l k) (outside z m k) fault)
      (pair_is s held) (mine k))
