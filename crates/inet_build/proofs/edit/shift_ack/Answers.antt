-- The laws of a shifted acknowledgement, at the frame that was given.
use Rattle.std.proofs.Common.{ℕ, List, ap, sym, ◌∙◌, Option, is_some}
use Rattle.std.specs.Option.{option_map}
use Rattle.inet_frame.specs.Counted.{tcp_in}
use Rattle.inet_frame.specs.Fields.{TcpFields}
use Rattle.inet_frame.proofs.FrameLemmas.{some_segment, tcp_in_segment}
use Rattle.inet_build.proofs.EditLemmas.{shift_ack_parses, shift_ack_twice}
use Rattle.inet_build.specs.Edit.{shift_ack, shift_ack_fields}
use Rattle.inet_build.proofs.edit.shift_ack.Goals as goal

pub find_ends-ends-requires : goal.find_ends-ends-requires
find_ends-ends-requires c = some_segment c.args.frame.now c.requires

pub shift-requires-clause-segment : goal.shift-requires-clause-segment
shift-requires-clause-segment c = some_segment c.args.frame.now c.requires

pub returns-clause-parsed : goal.returns-clause-parsed
returns-clause-parsed c =
    let b = c.args.frame.now in
    let by = c.args.by in
    let s = some_segment c.args.frame.now c.requires in
    let bytes = c.find_ends-ends.ensures.bytes in
    ap tcp_in c.shift.ensures
    ∙ (shift_ack_parses b by s bytes ∙ sym (ap (λ (t : Option TcpFields). option_map (shift_ack_fields by) t)
    (tcp_in_segment b s)))

pub returns-clause-sums : goal.returns-clause-sums
returns-clause-sums c = λ more.
    let s = some_segment c.args.frame.now c.requires in
    ap (λ (b : List ℕ). shift_ack b more) c.shift.ensures ∙ shift_ack_twice c.args.frame.now c.args.by more s

pub returns-clause-still_tcp : goal.returns-clause-still_tcp
returns-clause-still_tcp c =
    let b = c.args.frame.now in
    let by = c.args.by in
    let s = some_segment c.args.frame.now c.requires in
    let bytes = c.find_ends-ends.ensures.bytes in
    ap (λ (xs : List ℕ). is_some (tcp_in xs)) c.shift.ensures
    ∙ ap (λ (t : Option TcpFields). is_some t) (shift_ack_parses b by s bytes)
