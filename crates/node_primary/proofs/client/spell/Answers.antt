-- An accepted frame is spelled, and read again.
use Rattle.std.proofs.Common.{List, ℕ, length, ap, ◌∙◌, arith}
use Rattle.frame_mirror.proofs.AcceptLemmas.{accepted_is_segment}
use Rattle.colo_wire.specs.Reader.{IsWhole}
use Rattle.colo_wire.specs.declared.messages.Message.{Message}
use Rattle.colo_wire.specs.declared.messages.Message.TheVariants.{Frame}
use Rattle.colo_wire.proofs.ReaderLemmas.{reads_messages, whole_again}
use Rattle.node_parts.proofs.FrameLemmas.{frame_fits}
use Rattle.node_primary.proofs.client.spell.Goals as goal

pub encode_frame-requires-clause-at_least : goal.encode_frame-requires-clause-at_least
encode_frame-requires-clause-at_least c =
    let frame = c.args.waiting.now.frame in
    let fits = frame_fits frame (accepted_is_segment frame c.requires.accepted) in
    omega (arith, ap length c.as_slice.ensures, fits.from)

pub encode_frame-requires-clause-at_most : goal.encode_frame-requires-clause-at_most
encode_frame-requires-clause-at_most c =
    let frame = c.args.waiting.now.frame in
    let fits = frame_fits frame (accepted_is_segment frame c.requires.accepted) in
    omega (arith, ap length c.as_slice.ensures, fits.to)

pub returns-clause-read : goal.returns-clause-read
returns-clause-read c =
    let w = c.args.waiting.now in
    let m : Message = Frame w.index w.seen w.trim c.as_slice.result.now in
    let bytes = c.encode_frame.new.into.items in
    let whole : IsWhole m bytes = record {
      message = c.in_ok-encode_frame.ensures.message;
      spelled = cc (c.in_ok-encode_frame.ensures.ok, c.new-bytes.ensures.items);
    } in
    whole_again m bytes whole

pub returns-clause-message : goal.returns-clause-message
returns-clause-message c =
    let w = c.args.waiting.now in
    let m : Message = Frame w.index w.seen w.trim c.as_slice.result.now in
    let bytes = c.encode_frame.new.into.items in
    let whole : IsWhole m bytes = record {
      message = c.in_ok-encode_frame.ensures.message;
      spelled = cc (c.in_ok-encode_frame.ensures.ok, c.new-bytes.ensures.items);
    } in
    reads_messages m bytes whole
    ∙ ap (λ (f : List ℕ). let x : Message = Frame w.index w.seen w.trim f in x) c.as_slice.ensures
