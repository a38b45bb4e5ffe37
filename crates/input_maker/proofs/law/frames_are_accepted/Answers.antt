-- Each is parsed as a segment to the guest.
use Rattle.input_maker.proofs.FieldLemmas.{bytes_client, client_accepted, client_parses}
use Rattle.input_maker.proofs.law.frames_are_accepted.Goals as goal

pub returns : goal.returns
returns c = λ index.
    record { bytes = bytes_client index; parsed = client_parses index; accepted = client_accepted index }
