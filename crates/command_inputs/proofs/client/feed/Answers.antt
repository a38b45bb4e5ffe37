-- A length above the limit was found.
use Rattle.command_inputs.specs.Client.{read_client}
use Rattle.command_inputs.specs.Reading.{client_refusal}
use Rattle.command_inputs.proofs.ClientLemmas.{too_long_fed}
use Rattle.command_inputs.proofs.TextLemmas.{refused}
use Rattle.command_inputs.proofs.client.feed.Goals as goal

pub returns-in-Err-TooLong-clause-refused : goal.returns-in-Err-TooLong-clause-refused
returns-in-Err-TooLong-clause-refused c =
    refused (read_client c.args.client.now) c.client_refusal.result (client_refusal c.in-Err-TooLong.at)
    (too_long_fed c.new-unframer.result c.feed.new.self c.args.client.now c.in-Err-TooLong.field-0 c.in-Err-TooLong.at
    c.new-unframer.ensures c.in-Err-TooLong.field-0-is c.in-Err-TooLong.ensures.err)
    (rw c.in-Err-TooLong.field-0-is at c.client_refusal.ensures.line) c.client_refusal.ensures.own
