use Rattle.theorem_symbols.proofs.ReleasedLogs.{releases_stand}
use Rattle.theorem_symbols.proofs.releases.each_release_stands.Goals as goal

pub returns : goal.returns
returns c = releases_stand
