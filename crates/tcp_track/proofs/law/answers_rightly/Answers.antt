-- Each call keeps what is known of openings.
use Rattle.std.proofs.Common.{ap, ◌∙◌}
use Rattle.inet_frame.specs.Counted.{tuple_of}
use Rattle.tcp_track.specs.Tracking.{took_in}
use Rattle.tcp_track.specs.Laws.{tracking_of}
use Rattle.tcp_track.proofs.StandingLemmas.{opening_of_line}
use Rattle.tcp_track.proofs.RestartLemmas.{answers_what}
use Rattle.tcp_track.proofs.law.answers_rightly.Goals as goal

pub returns : goal.returns
returns c = λ calls frame s e. ap (λ o. took_in (tracking_of calls) o) e
    ∙ answers_what calls s (opening_of_line calls (tuple_of s))
