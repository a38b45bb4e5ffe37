use Rattle.capture_laws.proofs.DueLemmas.{captured_is_due, goes_its_way, hears_a_whole}
use Rattle.capture_laws.proofs.law.captured_is_due.Goals as goal

pub returns-clause-way : goal.returns-clause-way
returns-clause-way c = goes_its_way

pub returns-clause-due : goal.returns-clause-due
returns-clause-due c = captured_is_due

pub returns-clause-whole : goal.returns-clause-whole
returns-clause-whole c = hears_a_whole
