-- The turn that the guest makes is that of the run.
use Rattle.std.proofs.Common.{◌≡◌, Option, None, Some, sym, ap, ◌∙◌, arith, rules}
use Rattle.std.proofs.lemmas.Grind.{common_steps}
use Rattle.indexmap.specs.IndexMap.{get}
use Rattle.inet_frame.specs.Counted.{tcp_in}
use Rattle.seq_rewriter.specs.Given.{raise_frame}
use Rattle.tcp_track.specs.Segments.{same_tuple}
use Rattle.tcp_track.specs.Stands.{segments}
use Rattle.tcp_track.specs.declared.openings.Opening.{Opening}
use Rattle.splice_run.specs.Openings.{opening_at}
use Rattle.splice_run.specs.Runs.{frame_index}
use Rattle.splice_run.specs.Solo.{sender}
use Rattle.splice_run.proofs.GivenLemmas.{given_none, given_raised}
use Rattle.splice_run.proofs.SoloLemmas.{sender_is}
use Rattle.splice_run.proofs.solo_run.make_turn.Goals as goal

pub returns-in_default-clause-after : goal.returns-in_default-clause-after
returns-in_default-clause-after g c =
    let t = c.args.turn.now in
    let absent : frame_index t.frame ≡ None = first_of (search rules, grind (arith, common_steps)) in
    sender_is c.args.client.now (sender (g.G.Guest.meaning c.args.machine.now) c.args.out.now)
    (sender (g.G.Guest.meaning c.turn.new.self) c.turn.new.out) t None
    (given_none c.args.client.now (segments c.args.out.now) t.frame absent)
    c.in_ok-turn.ensures.after c.in_ok-turn.ensures.sent

pub returns-clause-after : goal.returns-clause-after
returns-clause-after g c =
    let t = c.args.turn.now in
    let current = get same_tuple c.args.openings.now in
    let kept = c.in-Some-2.kept in
    let clean = rw c.in-Some-2.is at c.in_ok-kept.ensures.clean in
    let raised =
    c.as_slice.ensures.value ∙ (c.raise-frame.ensures.value
    ∙ ap (λ (o : Option Opening). raise_frame kept o (opening_at current (tcp_in kept))) c.frame_seen.ensures) in
    sender_is c.args.client.now (sender (g.G.Guest.meaning c.args.machine.now) c.args.out.now)
    (sender (g.G.Guest.meaning c.turn-2.new.self) c.turn-2.new.out) t (Some c.as_slice.result.now)
    (given_raised c.args.client.now c.args.out.now current t.frame c.in-Some.index kept c.as_slice.result.now
    (sym c.frame_index.ensures ∙ c.in-Some.is) clean c.requires.known raised)
    c.in_ok-turn-2.ensures.after c.in_ok-turn-2.ensures.sent
