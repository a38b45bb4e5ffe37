-- Each call keeps what is held of each line.
use Rattle.tcp_track.proofs.StandingLemmas.{keeps_each_line}
use Rattle.tcp_track.proofs.law.keeps_lines.Goals as goal

pub returns : goal.returns
returns c = keeps_each_line
