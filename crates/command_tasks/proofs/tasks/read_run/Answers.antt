-- Four names were read.
use Rattle.command_tasks.specs.Held.{run_of}
use Rattle.command_tasks.proofs.ReadLemmas.{four_files}
use Rattle.command_tasks.proofs.tasks.read_run.Goals as goal

pub returns-clause-all : goal.returns-clause-all
returns-clause-all g c =
    let words = run_of c.args.words.now in
    four_files (g.S.Shelf.state c.args.shelf.now) words.image words.disk words.client words.lines
    c.in_ok-files.files.items c.in_ok-files.ensures.read
