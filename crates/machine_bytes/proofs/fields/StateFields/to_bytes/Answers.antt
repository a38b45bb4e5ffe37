use Rattle.std.proofs.Common.{◌≡◌, ap, ◌∙◌}
use Rattle.machine_bytes.specs.Reading.{fields_in, accepts}
use Rattle.machine_bytes.specs.Spelling.{bytes_of}
use Rattle.machine_bytes.proofs.LawLemmas.{reads_back, are_accepted}
use Rattle.machine_bytes.proofs.fields.StateFields.to_bytes.Goals as goal

value : (c : goal.In-Ok) → c.in-Ok.bytes ≡ bytes_of c.args.self.now
value c = let ok = c.in-Ok.ensures.ok in cc

pub returns-clause-back : goal.returns-clause-back
returns-clause-back c = ap fields_in (value c) ∙ reads_back c.args.self.now c.put_state.ensures.in_range c.requires

pub returns-clause-accepted : goal.returns-clause-accepted
returns-clause-accepted c = ap accepts (value c) ∙ are_accepted c.args.self.now c.put_state.ensures.in_range c.requires
