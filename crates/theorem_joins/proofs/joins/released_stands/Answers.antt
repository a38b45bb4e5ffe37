use Rattle.theorem_joins.proofs.JoinedLogs.{acks_hold, could_go_on, secondary_goes_on, stands_hold}
use Rattle.theorem_joins.proofs.joins.released_stands.Goals as goal

pub returns-clause-could : goal.returns-clause-could
returns-clause-could c = could_go_on

pub returns-clause-goes_on : goal.returns-clause-goes_on
returns-clause-goes_on c = secondary_goes_on

pub returns-clause-stands : goal.returns-clause-stands
returns-clause-stands c = stands_hold

pub returns-clause-acks : goal.returns-clause-acks
returns-clause-acks c = acks_hold
