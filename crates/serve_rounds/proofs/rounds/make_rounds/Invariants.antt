-- So many rounds were made.
use Rattle.std.proofs.Common.{◌≡◌, ◌+◌, ◌*◌, ◌-◌, ◌≤◌, IsTrue}
use Rattle.file_steps.specs.Steps.{outside}
use Rattle.pair_core.specs.Pair.{pair_of}
use Rattle.serve_rounds.specs.Rounds.{rounds, start}
use Rattle.serve_rounds.specs.Serving.{CanStop, moment}
use Rattle.serve_rounds.proofs.WholeLemmas.{SoFar}
use Rattle.serve_rounds.proofs.rounds.make_rounds.Given as goal

abbrev pub invariant-loop : goal.invariant-loop
invariant-loop g l =
    let o = l.options in
    let meaning = g.G.Guest.meaning in record {
      opened : IsTrue (g.L.Link.state l.link).opened;
      so_far : SoFar meaning l.output.out.now o (o.rounds - l.counter)
          (rounds o o.rounds (start o (pair_of meaning l.initial.pair) l.initial.server.first_tick))
          (outside (g.S.Shelf.state l.initial.shelf) (g.L.Link.state l.initial.link)
          (g.K.Clock.state l.initial.clock))
          (moment l.server l.pair (outside (g.S.Shelf.state l.shelf) (g.L.Link.state l.link)
          (g.K.Clock.state l.clock)));
      few : l.pair.steps ≤ 2100000 * l.counter;
      fed : l.server.unframer.fed ≤ 65536 * l.counter;
      round : l.server.round ≡ l.counter + 1;
      lines : l.server.counts.lines ≡ l.pair.steps;
      can_stop : l.server.round ≤ o.stop → CanStop l.pair;
    }
