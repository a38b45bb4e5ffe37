-- The lines are those of a schedule, and the frames are short.
use Rattle.input_maker.specs.Made.{made_lines}
use Rattle.input_maker.proofs.FieldLemmas.{bytes_stream}
use Rattle.input_maker.proofs.FrameLemmas.{are_stream}
use Rattle.input_maker.proofs.ScheduleLemmas.{are_schedule, plain_lines}
use Rattle.input_maker.proofs.TextLemmas.{bytes_text}
use Rattle.input_maker.proofs.law.inputs_read_back.Goals as goal

pub returns-clause-schedule : goal.returns-clause-schedule
returns-clause-schedule c = λ number turns. are_schedule (made_lines number turns) (plain_lines number turns)

pub returns-clause-stream : goal.returns-clause-stream
returns-clause-stream c = are_stream

pub returns-clause-bytes : goal.returns-clause-bytes
returns-clause-bytes c = λ number turns. (bytes_text number turns, bytes_stream number turns)
