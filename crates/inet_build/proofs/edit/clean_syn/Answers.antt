-- The laws of cleaned options, at the frame that was given.
use Rattle.std.proofs.Common.{ℕ, List, ap, sym, ◌∙◌, Option, is_some}
use Rattle.std.specs.Option.{option_map}
use Rattle.inet_frame.specs.Counted.{tcp_in}
use Rattle.inet_frame.specs.Fields.{TcpFields}
use Rattle.inet_frame.proofs.FrameLemmas.{some_segment, tcp_in_segment}
use Rattle.inet_build.proofs.CleanLemmas.{clean_syn_parses, clean_syn_twice}
use Rattle.inet_build.specs.Edit.{clean_syn, clean_syn_fields}
use Rattle.inet_build.proofs.edit.clean_syn.Goals as goal

pub find_ends-ends-requires : goal.find_ends-ends-requires
find_ends-ends-requires c = some_segment c.args.frame.now c.requires

pub clean-requires-clause-segment : goal.clean-requires-clause-segment
clean-requires-clause-segment c = some_segment c.args.frame.now c.requires

pub returns-clause-parsed : goal.returns-clause-parsed
returns-clause-parsed c =
    let b = c.args.frame.now in
    let s = some_segment c.args.frame.now c.requires in
    let bytes = c.find_ends-ends.ensures.bytes in
    ap tcp_in c.clean.ensures
    ∙ (clean_syn_parses b s bytes ∙ sym (ap (λ (t : Option TcpFields). option_map clean_syn_fields t)
    (tcp_in_segment b s)))

pub returns-clause-once : goal.returns-clause-once
returns-clause-once c =
    let s = some_segment c.args.frame.now c.requires in
    ap clean_syn c.clean.ensures ∙ (clean_syn_twice c.args.frame.now s ∙ sym c.clean.ensures)

pub returns-clause-still_tcp : goal.returns-clause-still_tcp
returns-clause-still_tcp c =
    let b = c.args.frame.now in
    let s = some_segment c.args.frame.now c.requires in
    let bytes = c.find_ends-ends.ensures.bytes in
    ap (λ (xs : List ℕ). is_some (tcp_in xs)) c.clean.ensures
    ∙ ap (λ (t : Option TcpFields). is_some t) (clean_syn_parses b s bytes)
