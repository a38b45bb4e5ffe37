-- The words name no task, or the one that was carried out.
use Rattle.colo_words.specs.Words.{texts}
use Rattle.command_tasks.specs.Held.{command_of}
use Rattle.colo_top.proofs.TopLemmas.{no_task_ends, task_ends}
use Rattle.colo_top.proofs.top.carry_words.Goals as goal

pub returns-in-None : goal.returns-in-None
returns-in-None g c = λ l k.
    no_task_ends (texts c.args.words.now) (rw c.in-None.is at c.read_words.ensures.command)
    (g.S.Shelf.state c.args.shelf.now) l k

pub returns-in-Some : goal.returns-in-Some
returns-in-Some g c = λ l k.
    task_ends (texts c.args.words.now) (command_of c.in-Some.command)
    (rw c.in-Some.is at c.read_words.ensures.command) (g.S.Shelf.state c.args.shelf.now)
    (g.S.Shelf.state c.carry_out.new.shelf) c.carry_out.result c.carry_out.ensures.done c.carry_out.ensures.fails l k
