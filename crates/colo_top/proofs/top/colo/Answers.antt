-- The words' task was carried out, and its line put; so a replay is one pair's.
use Rattle.std.proofs.Common.{refl}
use Rattle.colo_words.specs.Words.{texts}
use Rattle.command_tasks.specs.Tasks.{read_task}
use Rattle.file_steps.specs.Steps.{outside}
use Rattle.colo_top.proofs.top.colo.Goals as goal

pub returns-clause-ends : goal.returns-clause-ends
returns-clause-ends g c =
    let l = g.L.Link.state c.args.link.now in
    let k = g.K.Clock.state c.args.clock.now in
    c.end_call.ensures (read_task (texts c.args.words.now)) (outside (g.S.Shelf.state c.args.shelf.now) l k)
    (outside (g.S.Shelf.state c.carry_words-work.new.shelf) l k) (c.carry_words-work.ensures l k)

pub returns-clause-theorem : goal.returns-clause-theorem
returns-clause-theorem g c =
    let l = g.L.Link.state c.args.link.now in
    let k = g.K.Clock.state c.args.clock.now in
    c.each_replay_is_one_pair.ensures (texts c.args.words.now) _ refl
    (c.end_call.ensures (read_task (texts c.args.words.now)) (outside (g.S.Shelf.state c.args.shelf.now) l k)
    (outside (g.S.Shelf.state c.carry_words-work.new.shelf) l k) (c.carry_words-work.ensures l k))
