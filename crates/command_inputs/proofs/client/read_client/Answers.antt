-- All frames were taken out, and nothing is left, or the rest of a record.
use Rattle.std.proofs.Common.{refl, ap, ◌∙◌}
use Rattle.std.proofs.lemmas.Bool.{false≢true}
use Rattle.command_inputs.specs.Client.{read_client}
use Rattle.command_inputs.specs.Reading.{client_refusal}
use Rattle.command_inputs.proofs.ClientLemmas.{broken_taken, whole_taken}
use Rattle.command_inputs.proofs.TextLemmas.{refused}
use Rattle.command_inputs.proofs.client.read_client.Goals as goal

pub returns-then-at_boundary-clause-read : goal.returns-then-at_boundary-clause-read
returns-then-at_boundary-clause-read c =
    whole_taken c.in_ok-unframer.unframer c.take_frames.new.unframer c.args.client.now c.in_ok-frames.frames
    c.in_ok-unframer.ensures.stands c.in_ok-frames.ensures.given c.in_ok-frames.ensures.left
    (c.if-at_boundary.ensures.0 refl)

pub returns-clause-refused : goal.returns-clause-refused
returns-clause-refused c =
    refused (read_client c.args.client.now) c.client_refusal.result (client_refusal c.take_frames.new.unframer.place)
    (broken_taken c.in_ok-unframer.unframer c.take_frames.new.unframer c.args.client.now
    c.in_ok-unframer.ensures.stands c.in_ok-frames.ensures.left (λ none. false≢true (c.if-at_boundary.ensures.1 none)))
    (c.client_refusal.ensures.line ∙ ap client_refusal c.place.ensures) c.client_refusal.ensures.own
