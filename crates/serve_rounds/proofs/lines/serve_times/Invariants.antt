-- So many of the lines were served.
use Rattle.std.proofs.Common.{◌≡◌, IsTrue}
use Rattle.std.specs.Prelude.{replicate}
use Rattle.serve_rounds.specs.Serving.{IsServed, ends}
use Rattle.serve_rounds.proofs.lines.serve_times.Given as goal

abbrev pub invariant-loop : goal.invariant-loop
invariant-loop g l = record {
  opened : IsTrue (g.L.Link.state l.link).opened;
  lines : l.counts.lines ≡ l.pair.steps;
  served : IsServed g.G.Guest.meaning l.output.out.now (replicate l.counter l.line) l.initial.pair l.pair
      l.initial.counts
      l.counts (ends (g.S.Shelf.state l.initial.shelf) (g.S.Shelf.state l.shelf) (g.L.Link.state l.initial.link)
      (g.L.Link.state l.link));
}
