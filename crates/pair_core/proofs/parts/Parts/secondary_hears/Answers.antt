-- What it heard is told; where the message isn't due, nothing happens.
use Rattle.std.proofs.Common.{◌∷◌, ◌∙◌, List, ℕ, ap, Ok, refl}
use Rattle.colo_wire.specs.Reader.{message_of}
use Rattle.colo_wire.specs.declared.answers.HearFault.TheVariants as hear_fault
use Rattle.node_secondary.specs.Survivor.{second_of}
use Rattle.pair_core.specs.Inside.{plain}
use Rattle.pair_core.proofs.EventLemmas.{err_is_no_memory, ok_is_no_err, second_heard, second_lost, second_told}
use Rattle.pair_core.proofs.parts.Parts.secondary_hears.Goals as goal

pub returns-in_ok-wire_of-in-Ok-clause-after : goal.returns-in_ok-wire_of-in-Ok-clause-after
returns-in_ok-wire_of-in-Ok-clause-after g c =
    let meaning = g.G.Guest.meaning in
    let m = message_of c.args.message.now in
    let told = c.in-Ok.told in
    let heard = c.in-Ok.ensures.each (Ok m) c.requires (ok_is_no_err told hear_fault.NoMemory) in
    second_heard (plain meaning c.args.self.now) m told (second_of meaning c.hear.new.self)
    (plain meaning c.send_up.new.self) heard.answer heard.left c.in_ok-send_up-in-Ok.ensures

pub returns-in_ok-wire_of-in-Ok-clause-made : goal.returns-in_ok-wire_of-in-Ok-clause-made
returns-in_ok-wire_of-in-Ok-clause-made g c =
    let meaning = g.G.Guest.meaning in
    let m = message_of c.args.message.now in
    let told = c.in-Ok.told in
    let heard = c.in-Ok.ensures.each (Ok m) c.requires (ok_is_no_err told hear_fault.NoMemory) in
    second_told (plain meaning c.args.self.now) m told _ heard.answer refl c.in_ok-told_marks-in-Ok.ensures
    (c.out.view_is ∙ (c.hear.ensures.released ∙ c.new-out.ensures))
    (c.in_ok-wire_of-in-Ok.ensures ∙ ap (λ (bytes : List ℕ). 62 ∷ bytes) c.requires.spelled)

pub returns-in_ok-event-in-Err-clause-after : goal.returns-in_ok-event-in-Err-clause-after
returns-in_ok-event-in-Err-clause-after g c =
    let meaning = g.G.Guest.meaning in
    let m = message_of c.args.message.now in
    let other = err_is_no_memory c.in-Err.fault hear_fault.NoMemory c.in_ok-event-in-Err.ensures.refused in
    let heard = c.in-Err.ensures.each (Ok m) c.requires other in
    (second_lost (plain meaning c.args.self.now) m c.in-Err.fault
    (second_of meaning c.hear.new.self) c.in_ok-event-in-Err.event heard.answer
    (ap (second_of meaning) (c.in-Err.ensures.refused c.in_ok-event-in-Err.ensures.refused))
    (c.in_ok-event-in-Err.ensures.made (plain meaning c.args.self.now))).0

pub returns-in_ok-event-in-Err-clause-made : goal.returns-in_ok-event-in-Err-clause-made
returns-in_ok-event-in-Err-clause-made g c =
    let meaning = g.G.Guest.meaning in
    let m = message_of c.args.message.now in
    let other = err_is_no_memory c.in-Err.fault hear_fault.NoMemory c.in_ok-event-in-Err.ensures.refused in
    let heard = c.in-Err.ensures.each (Ok m) c.requires other in
    (second_lost (plain meaning c.args.self.now) m c.in-Err.fault (second_of meaning c.args.self.now.second)
    c.in_ok-event-in-Err.event heard.answer refl
    (c.in_ok-event-in-Err.ensures.made (plain meaning c.args.self.now))).1
