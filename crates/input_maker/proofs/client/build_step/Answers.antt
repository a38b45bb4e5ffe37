-- What is built is a segment.
use Rattle.input_maker.proofs.ClientLemmas.{built_has_ports}
use Rattle.input_maker.proofs.client.build_step.Goals as goal

pub returns-then-step-eq0-clause-least : goal.returns-then-step-eq0-clause-least
returns-then-step-eq0-clause-least c = built_has_ports c.segment.result _ c.segment.ensures.parsed

pub returns-clause-least : goal.returns-clause-least
returns-clause-least c = built_has_ports c.segment-2.result _ c.segment-2.ensures.parsed
