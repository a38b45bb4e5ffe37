-- What comes before the steps, and then the steps.
use Rattle.std.proofs.Common.{◌+◌, ◌%◌, ◌^◌, ◌++◌, ℕ, ap, ◌∙◌}
use Rattle.std.specs.Option.{option_copied}
use Rattle.state_wire.specs.Guest.{turn_of}
use Rattle.guest_machine.specs.Turn.{State, finish_turn, make_turn}
use Rattle.guest_machine.proofs.StateLemmas.{after_is, sent_is}
use Rattle.guest_machine.proofs.TurnLemmas.{on_both, on_err, on_ok, sizes_then}
use Rattle.guest_machine.proofs.machine.MachineGuest.turn.Goals as goal

pub returns-clause-state : goal.returns-clause-state
unfolding make_turn
returns-clause-state g c =
    on_ok _ _ c.finish_turn.result
    (λ e. e ∙ ap (λ (s : State). (finish_turn s c.args.steps).state) c.start_turn.ensures.state)
    c.finish_turn.ensures.state

pub returns-clause-frames : goal.returns-clause-frames
unfolding make_turn
returns-clause-frames g c =
    on_ok _ _ c.finish_turn.result
    (λ e. e ∙ ap (λ (s : State). c.args.out.now ++ (finish_turn s c.args.steps).frames) c.start_turn.ensures.state)
    c.finish_turn.ensures.frames

pub returns-clause-after : goal.returns-clause-after
unfolding make_turn
returns-clause-after g c =
    let turn = turn_of c.args.ticks (option_copied c.args.frame) c.args.requests c.args.steps in
    on_both _ _ _ c.finish_turn.result
    (λ e t. after_is c.args.self.now c.finish_turn.new.self turn c.check_parts.ensures
    (e ∙ ap (λ (s : State). (finish_turn s c.args.steps).state) c.start_turn.ensures.state)
    (sizes_then c.args.self.now.state c.start_turn.new.self.state c.finish_turn.new.self.state
    c.start_turn.ensures.size c.finish_turn.ensures.size)
    (t ∙ ap (λ (n : ℕ). (n + 1) % 2 ^ 64) c.start_turn.ensures.turned))
    c.finish_turn.ensures.state c.finish_turn.ensures.turned

pub returns-clause-sent : goal.returns-clause-sent
unfolding make_turn
returns-clause-sent g c =
    let turn = turn_of c.args.ticks (option_copied c.args.frame) c.args.requests c.args.steps in
    on_ok _ _ c.finish_turn.result
    (λ e. sent_is c.args.self.now turn c.args.out.now c.finish_turn.new.out c.check_parts.ensures
    (e ∙ ap (λ (s : State). c.args.out.now ++ (finish_turn s c.args.steps).frames) c.start_turn.ensures.state))
    c.finish_turn.ensures.frames

pub returns-clause-cause : goal.returns-clause-cause
unfolding make_turn
returns-clause-cause g c =
    on_err _ _ c.finish_turn.result
    (λ some fresh none. some (ap (λ (s : State). (finish_turn s c.args.steps).frames) c.start_turn.ensures.state
    ∙ none))
    c.finish_turn.ensures.cause
