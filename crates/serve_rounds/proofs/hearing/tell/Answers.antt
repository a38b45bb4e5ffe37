-- The bytes are taken in, the frames offered, and their lines made.
use Rattle.std.proofs.Common.{ℕ, ◌≤◌, List, length, refl, arith}
use Rattle.std.specs.Prelude.{replicate}
use Rattle.std.proofs.lemmas.List.{length-replicate}
use Rattle.std.proofs.lemmas.Result.{err_from_is_err_and}
use Rattle.sock_link.specs.Unframed.{Feeds, Unframed}
use Rattle.replay_log.specs.declared.lines.Line.TheVariants.{Client}
use Rattle.file_steps.specs.Steps.{outside}
use Rattle.command_inputs.specs.Client.{frames_of}
use Rattle.pair_core.specs.Pair.{Held, pair_of}
use Rattle.state_wire.specs.Guest.{Meaning}
use Rattle.serve_rounds.specs.Rounds.{tells, serves}
use Rattle.serve_rounds.specs.Serving.{IsHeld}
use Rattle.serve_rounds.specs.declared.server.Server.{Server}
use Rattle.serve_rounds.proofs.HearLemmas.{few_frames, part_small}
use Rattle.serve_rounds.proofs.KeepLemmas.{a_frame, can_after, plain_events, still_can}
use Rattle.serve_rounds.proofs.RoundLemmas.{halts_at_once}
use Rattle.serve_rounds.proofs.TellLemmas.{tell_halts, tell_refused, tell_went}
use Rattle.serve_rounds.proofs.WorkLemmas.{open_after}
use Rattle.serve_rounds.proofs.hearing.tell.Goals as goal

-- few frames came
few : {G : Type 0} (meaning : G → Meaning) (server : Server) (h : Held G) (v : Unframed) (piece : List ℕ)
    → IsHeld meaning server h → Feeds server.unframer v piece → length piece ≤ 65536 → length v.frames ≤ 65536
few meaning server h v piece held feeds short =
    few_frames server.unframer v piece feeds (part_small server.unframer held.now.heard (frames_of held.now.heard)
    held.holds.stands held.holds.short) held.holds.taken short

pub offer_all-requires : goal.offer_all-requires
offer_all-requires g c =
    omega (
      arith,
      few g.G.Guest.meaning c.args.server.now c.args.pair.now c.feed.new.unframer c.args.piece.now
          c.requires.held c.in_ok-long.ensures.feeds c.requires.room,
    )

pub serve_times-requires-clause-counted : goal.serve_times-requires-clause-counted
serve_times-requires-clause-counted g c =
    omega (
      arith,
      few g.G.Guest.meaning c.args.server.now c.args.pair.now c.feed.new.unframer c.args.piece.now c.requires.held
          c.in_ok-long.ensures.feeds c.requires.room,
      c.in_ok-frames.ensures.count,
      c.in_ok-frames.ensures.steps,
    )

pub serve_times-requires-clause-good : goal.serve_times-requires-clause-good
serve_times-requires-clause-good g c =
    plain_events (pair_of g.G.Guest.meaning c.offer_all.new.pair) c.in_ok-frames.frames Client a_frame

pub returns-in_err-long-clause-halts : goal.returns-in_err-long-clause-halts
returns-in_err-long-clause-halts g c = λ k.
    let p = err_from_is_err_and c.from_residual.result c.from_residual.ensures.1 in
    rw (p.1, p.2) (halts_at_once g.G.Guest.meaning c.args.output.out.now (tells c.args.piece.now) c.args.server.now
    c.args.pair.now (outside (g.S.Shelf.state c.args.shelf.now) (g.L.Link.state c.args.link.now) k))

pub returns-in_err-frames-clause-halts : goal.returns-in_err-frames-clause-halts
returns-in_err-frames-clause-halts g c = λ k.
    let p = err_from_is_err_and c.from_residual-in_err-frames.result c.from_residual-in_err-frames.ensures.1 in
    rw (p.1, p.2) (halts_at_once g.G.Guest.meaning c.args.output.out.now (tells c.args.piece.now) c.args.server.now
    c.args.pair.now (outside (g.S.Shelf.state c.args.shelf.now) (g.L.Link.state c.args.link.now) k))

pub returns-in_err-counts-clause-halts : goal.returns-in_err-counts-clause-halts
returns-in_err-counts-clause-halts g c = λ k.
    let r = c.from_residual-in_err-counts in
    let p = err_from_is_err_and r.result r.ensures.1 in
    rw (p.1, p.2) (tell_halts g.G.Guest.meaning c.args.output.out.now c.args.server.now c.args.pair.now
    c.offer_all.new.pair c.args.piece.now c.feed.new.unframer c.in_ok-frames.frames
    (g.S.Shelf.state c.args.shelf.now) (g.S.Shelf.state c.serve_times.new.shelf) (g.L.Link.state c.args.link.now)
    (g.L.Link.state c.serve_times.new.link) k c.in_ok-long.ensures.feeds c.in_ok-frames.ensures.count
    c.in_ok-frames.ensures.pair c.in_err-counts.field-0.0 c.in_err-counts.ensures.fails)

pub returns-in-None-clause-goes : goal.returns-in-None-clause-goes
returns-in-None-clause-goes g c = λ k.
    tell_went g.G.Guest.meaning c.args.output.out.now c.args.server.now c.args.pair.now c.offer_all.new.pair
    c.args.piece.now c.feed.new.unframer c.in_ok-frames.frames (g.S.Shelf.state c.args.shelf.now)
    (g.S.Shelf.state c.serve_times.new.shelf) (g.L.Link.state c.args.link.now) (g.L.Link.state c.serve_times.new.link)
    k c.in_ok-long.ensures.feeds c.in_ok-frames.ensures.count c.in_ok-frames.ensures.pair _ c.serve_times.new.pair
    c.in_ok-counts.ensures.served c.offer_all.new.unframer c.in_ok-counts.ensures.lines c.in_ok-frames.ensures.taken
    refl refl refl refl (c.in_ok-long.ensures.short c.in-None.is)

pub returns-in-None-clause-opened : goal.returns-in-None-clause-opened
returns-in-None-clause-opened g c =
    open_after c.args.output.out.now (serves (pair_of g.G.Guest.meaning c.offer_all.new.pair)
    (replicate c.in_ok-frames.frames Client)) (g.S.Shelf.state c.args.shelf.now)
    (g.S.Shelf.state c.serve_times.new.shelf) (g.L.Link.state c.args.link.now) (g.L.Link.state c.serve_times.new.link)
    c.in_ok-counts.ensures.served.done c.requires.opened

pub returns-in-None-clause-can_stop : goal.returns-in-None-clause-can_stop
returns-in-None-clause-can_stop g c = λ can.
    still_can g.G.Guest.meaning c.offer_all.new.pair c.serve_times.new.pair c.in_ok-frames.frames Client a_frame
    c.in_ok-counts.ensures.served.after
    (can_after g.G.Guest.meaning c.args.pair.now c.offer_all.new.pair _ c.in_ok-frames.ensures.pair can)

pub returns-in-None-clause-few : goal.returns-in-None-clause-few
returns-in-None-clause-few g c =
    omega (
      arith,
      few g.G.Guest.meaning c.args.server.now c.args.pair.now c.feed.new.unframer c.args.piece.now c.requires.held
          c.in_ok-long.ensures.feeds c.requires.room,
      c.in_ok-frames.ensures.count,
      c.in_ok-frames.ensures.steps,
      c.in_ok-counts.ensures.served.steps,
      length-replicate c.in_ok-frames.frames Client,
    )

pub returns-in-Some-clause-halts : goal.returns-in-Some-clause-halts
returns-in-Some-clause-halts g c = λ k.
    let l = rw c.in-Some.is at c.in_ok-long.ensures.long in
    let place = c.in-Some.place in
    tell_refused g.G.Guest.meaning c.args.output.out.now c.args.server.now c.args.pair.now c.offer_all.new.pair
    c.args.piece.now c.feed.new.unframer c.in_ok-frames.frames (g.S.Shelf.state c.args.shelf.now)
    (g.S.Shelf.state c.serve_times.new.shelf) (g.L.Link.state c.args.link.now) (g.L.Link.state c.serve_times.new.link)
    k c.in_ok-long.ensures.feeds c.in_ok-frames.ensures.count c.in_ok-frames.ensures.pair
    (record c.args.server.now { counts = c.in_ok-counts.counts }) c.serve_times.new.pair
    c.in_ok-counts.ensures.served place c.client_refusal.result l.0 l.1
    (c.client_refusal.ensures.line, c.client_refusal.ensures.own)
