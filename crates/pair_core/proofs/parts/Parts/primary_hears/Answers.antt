-- What it heard is told; where the message isn't due, nothing happens.
use Rattle.std.proofs.Common.{◌∷◌, ◌++◌, ◌∙◌, List, ℕ, ap, Ok, length, refl}
use Rattle.colo_wire.specs.Reader.{message_of}
use Rattle.colo_wire.specs.declared.answers.HearFault.TheVariants as hear_fault
use Rattle.node_primary.specs.Answers.{out_of}
use Rattle.node_primary.specs.Node.{primary_of}
use Rattle.pair_core.specs.Events.{counts_on}
use Rattle.pair_core.specs.Inside.{plain}
use Rattle.pair_core.proofs.EventLemmas.{err_is_no_memory, first_heard, first_lost, first_told, ok_is_no_err}
use Rattle.pair_core.proofs.parts.Parts.primary_hears.Goals as goal

pub returns-in_ok-wire_of-in-Ok-clause-after : goal.returns-in_ok-wire_of-in-Ok-clause-after
returns-in_ok-wire_of-in-Ok-clause-after g c =
    let meaning = g.G.Guest.meaning in
    let m = message_of c.args.message.now in
    let told = c.in-Ok.told in
    let heard = c.in-Ok.ensures.each (Ok m) c.requires.read (ok_is_no_err told hear_fault.NoMemory) in
    first_heard (plain meaning c.args.self.now) m told (primary_of meaning c.hear.new.self) c.counts_on-sent.result
    (plain meaning c.send_down.new.self) heard.answer heard.left
    (c.counts_on-sent.ensures.value
    ∙ ap (λ b. counts_on b told c.args.self.now.sent_heard) c.awaits-awaits.ensures.value)
    c.in_ok-send_down-in-Ok.ensures

pub returns-in_ok-wire_of-in-Ok-clause-made : goal.returns-in_ok-wire_of-in-Ok-clause-made
returns-in_ok-wire_of-in-Ok-clause-made g c =
    let meaning = g.G.Guest.meaning in
    let m = message_of c.args.message.now in
    let told = c.in-Ok.told in
    let n = primary_of meaning c.args.self.now.first in
    let heard = c.in-Ok.ensures.each (Ok m) c.requires.read (ok_is_no_err told hear_fault.NoMemory) in
    let out = heard.released ∙ ap (λ (xs : List (List ℕ)). xs ++ out_of n (Ok m)) c.new-out.ensures in
    first_told (plain meaning c.args.self.now) m told c.counts_on-sent.result _ heard.answer
    (c.counts_on-sent.ensures.value
    ∙ ap (λ b. counts_on b told c.args.self.now.sent_heard) c.awaits-awaits.ensures.value)
    c.len.result (c.len.ensures ∙ ap length out) refl c.in_ok-told_marks-in-Ok.ensures
    (c.out.view_is ∙ out)
    (c.in_ok-wire_of-in-Ok.ensures ∙ ap (λ (bytes : List ℕ). 60 ∷ bytes) c.requires.read.spelled)

pub returns-in_ok-event-in-Err-clause-after : goal.returns-in_ok-event-in-Err-clause-after
returns-in_ok-event-in-Err-clause-after g c =
    let meaning = g.G.Guest.meaning in
    let m = message_of c.args.message.now in
    let other = err_is_no_memory c.in-Err.fault hear_fault.NoMemory c.in_ok-event-in-Err.ensures.refused in
    let heard = c.in-Err.ensures.each (Ok m) c.requires.read other in
    (first_lost (plain meaning c.args.self.now) m c.in-Err.fault
    (primary_of meaning c.hear.new.self) c.in_ok-event-in-Err.event heard.answer
    (ap (primary_of meaning) (c.in-Err.ensures.refused c.in_ok-event-in-Err.ensures.refused))
    (c.in_ok-event-in-Err.ensures.made (plain meaning c.args.self.now))).0

pub returns-in_ok-event-in-Err-clause-made : goal.returns-in_ok-event-in-Err-clause-made
returns-in_ok-event-in-Err-clause-made g c =
    let meaning = g.G.Guest.meaning in
    let m = message_of c.args.message.now in
    let other = err_is_no_memory c.in-Err.fault hear_fault.NoMemory c.in_ok-event-in-Err.ensures.refused in
    let heard = c.in-Err.ensures.each (Ok m) c.requires.read other in
    (first_lost (plain meaning c.args.self.now) m c.in-Err.fault (primary_of meaning c.args.self.now.first)
    c.in_ok-event-in-Err.event heard.answer refl
    (c.in_ok-event-in-Err.ensures.made (plain meaning c.args.self.now))).1
