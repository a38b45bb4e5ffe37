-- Each turn is the next of the run, and what it sends is noted.
use Rattle.std.proofs.Common.{◌≡◌, ◌+◌, List, None, true, false, take, get_or, refl, sym, subst, ◌∙◌, arith, rules}
use Rattle.std.proofs.lemmas.Grind.{common_steps}
use Rattle.std.proofs.lemmas.List.{take_more}
use Rattle.indexmap.specs.IndexMap.{get}
use Rattle.tcp_track.specs.Segments.{same_tuple}
use Rattle.replay_log.specs.declared.turns.Turn.{Turn}
use Rattle.splice_run.specs.Solo.{HasMade, sender}
use Rattle.splice_run.proofs.ListLemmas.{begins_itself, begins_through}
use Rattle.splice_run.proofs.OpeningLemmas.{knows_none}
use Rattle.splice_run.proofs.SoloLemmas.{made_more, made_none, no_turn, stops_at}
use Rattle.splice_run.proofs.solo_run.solo.Goals as goal

pub note_frames-requires-clause-before : goal.note_frames-requires-clause-before
note_frames-requires-clause-before g c =
    knows_none (get same_tuple c.new-openings.result)
    (λ t. let none : get same_tuple c.new-openings.result t ≡ None = grind (arith, common_steps) in none)

pub loop-k-init : goal.loop-k-init
loop-k-init g c = record {
  made = made_none c.args.client.now (sender (g.G.Guest.meaning c.args.machine.now) c.args.out.now);
  known = c.in_ok-note_frames.ensures;
  front = begins_itself c.args.out.now;
}

pub returns-then-not-branch-clause-stops : goal.returns-then-not-branch-clause-stops
returns-then-not-branch-clause-stops g c =
    let off : c.in_ok-make_turn.field-0 ≡ false = first_of (search rules, grind (arith, common_steps)) in
    stops_at c.args.client.now (sender (g.G.Guest.meaning c.args.machine.now) c.args.out.now)
    (sender (g.G.Guest.meaning c.loop-k.machine) c.loop-k.out)
    (sender (g.G.Guest.meaning c.make_turn.new.machine) c.make_turn.new.out) c.args.turns.now c.loop-k.k
    (c.loop-k.k + 1) (get_or c.args.turns.now c.loop-k.k no_turn) (omega arith)
    (take_more c.args.turns.now c.loop-k.k no_turn (omega arith)) refl c.loop-k.invariant.made
    (sym c.in_ok-make_turn.ensures.can ∙ off) (rw off at c.in_ok-make_turn.ensures.after)

pub loop-k-preserved : goal.loop-k-preserved
loop-k-preserved g c =
    let on : c.in_ok-make_turn.field-0 ≡ true = first_of (search rules, grind (arith, common_steps)) in
    let old = sender (g.G.Guest.meaning c.args.machine.now) c.args.out.now in
    let new = sender (g.G.Guest.meaning c.make_turn.new.machine) c.make_turn.new.out in
    record {
      made = subst (λ (ts : List Turn). HasMade c.args.client.now old new ts)
          (sym (take_more c.args.turns.now c.loop-k.k no_turn (omega arith)))
          (made_more c.args.client.now old (sender (g.G.Guest.meaning c.loop-k.machine) c.loop-k.out) new
          (take c.loop-k.k c.args.turns.now) (get_or c.args.turns.now c.loop-k.k no_turn) c.loop-k.invariant.made
          (sym c.in_ok-make_turn.ensures.can ∙ on) (rw on at c.in_ok-make_turn.ensures.after));
      known = c.in_ok-note_frames-2.ensures;
      front = begins_through c.args.out.now c.loop-k.out c.make_turn.new.out c.loop-k.invariant.front
          c.in_ok-make_turn.ensures.front;
    }
