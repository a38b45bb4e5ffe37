use Rattle.std.proofs.Common.{ap, ◌∙◌, arith}
use Rattle.machine_bytes.specs.Spelling.{bytes_of}
use Rattle.machine_bytes.proofs.LawLemmas.{are_legal_fields, writes_back, length_of_accepted}
use Rattle.machine_bytes.proofs.reading.fields_in.Goals as goal

pub all_fields-requires : goal.all_fields-requires
all_fields-requires c = length_of_accepted c.args.bytes.now c.requires

pub returns-clause-legal : goal.returns-clause-legal
returns-clause-legal c =
    rw c.all_fields.ensures (are_legal_fields c.args.bytes.now (λ k. omega (arith, c.type_inv.bytes k)) c.requires).1

pub returns-clause-back : goal.returns-clause-back
returns-clause-back c = ap bytes_of c.all_fields.ensures ∙ writes_back c.args.bytes.now (λ k. omega
    (arith, c.type_inv.bytes k)) c.requires
