-- Where the ring gave a chain, its request is served.
use Rattle.std.proofs.Common.{◌≡◌, Ok, ap, sym, ◌∙◌, arith}
use Rattle.virtio_blk.specs.Serve.{Serving, serve_chain, serve}
use Rattle.virtio_blk.proofs.ServeLemmas.{serves_so}
use Rattle.virtio_blk.proofs.blk.Blk.serve.Given as given
use Rattle.virtio_blk.proofs.blk.Blk.serve.Goals as goal
use Rattle.virtio_blk.proofs.blk.Blk.serve.Goals.{In-Ok-true}

serves : (g : given.Over) (c : In-Ok-true g) →
    serve_chain c.next_chain.new.self c.args.ram.now (g.D.Disk.state c.args.disk.now) c.next_chain.new.chain
    ≡ serve c.args.self.now c.args.ram.now (g.D.Disk.state c.args.disk.now)
serves g c =
    serves_so c.args.self.now c.next_chain.new.self c.args.ram.now (g.D.Disk.state c.args.disk.now)
    c.next_chain.new.chain
    (grind (arith)) (ap Ok (sym c.in-Ok-true.field-0-test) ∙ sym c.in-Ok-true.is ∙ c.next_chain.ensures.answer)
    c.next_chain.ensures.device c.next_chain.ensures.chain

pub returns-in-Ok-true-clause-answer : goal.returns-in-Ok-true-clause-answer
returns-in-Ok-true-clause-answer g c =
    c.serve_chain.ensures.answer
    ∙ ap (λ (s : Serving). s.answer) (serves g (goal.at.returns-in-Ok-true-clause-answer g c).In-Ok-true)

pub returns-in-Ok-true-clause-device : goal.returns-in-Ok-true-clause-device
returns-in-Ok-true-clause-device g c =
    c.serve_chain.ensures.device
    ∙ ap (λ (s : Serving). s.device) (serves g (goal.at.returns-in-Ok-true-clause-device g c).In-Ok-true)

pub returns-in-Ok-true-clause-memory : goal.returns-in-Ok-true-clause-memory
returns-in-Ok-true-clause-memory g c =
    c.serve_chain.ensures.memory
    ∙ ap (λ (s : Serving). s.memory) (serves g (goal.at.returns-in-Ok-true-clause-memory g c).In-Ok-true)
