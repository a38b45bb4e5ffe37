use Rattle.pair_theorem.proofs.RunLemmas.{run_from_boot}
use Rattle.pair_theorem.proofs.law.boot_runs_the_single_run.Goals as goal

pub returns : goal.returns
returns c = run_from_boot
