-- What holds of the steps of each part of a run holds of all of them.
use Rattle.std.proofs.Common.{ℕ, zero, suc, Bool, true, false, List, [], ◌∷◌, ◌++◌, flat_map, if◌then◌else◌, length}
use Rattle.std.specs.Prelude.{replicate, ◌==◌}
use Rattle.colo_base.specs.Link.{Arrival, bytes, ended, quiet}
use Rattle.colo_words.specs.declared.options.Options.{Options}
use Rattle.replay_log.specs.declared.lines.Line.{Line}
use Rattle.replay_log.specs.declared.lines.Line.TheVariants.{Client, Primary, Secondary}
use Rattle.sock_link.specs.Stream.{is_too_long}
use Rattle.state_wire.specs.Guest.{GuestState}
use Rattle.file_steps.specs.Steps.{Said, Step, hear, read_clock}
use Rattle.command_plans.specs.Replay.{Event, events, state_steps, survivor}
use Rattle.serve_rounds.specs.Work.{Work, by_arrivals, by_ticks, does, hears, reads}
use Rattle.serve_rounds.specs.Rounds.{Serving, after_events, ask_lines, by_arrival, deliveries, delivery_lines, elapsed, finishes, first_turn, goes_on, hear_more, makes, new_frames, next_round, refuses, rest_of, round, rounds, second_turn, serves, serves_of, stop_lines, tells, turns}

module _ (P : List Step → Type 0) (none : P []) (both : (xs ys : List Step) → P xs → P ys → P (xs ++ ys))
    (hearing : P (hear 65536 ∷ [])) (reading : P (read_clock ∷ [])) (event : (e : Event) → P (serves_of e))
    (state : (s : GuestState) → P (state_steps s)) where
  abbrev Has : Work → Type 0
  Has work = (said : Said) → P (work said).steps

  abbrev HaveAll : (Serving → Work) → Type 0
  HaveAll next = (s : Serving) → Has (next s)

  by_each : (es : List Event) → P (flat_map serves_of es)
  by_each [] = none
  by_each (e ∷ es) = both (serves_of e) (flat_map serves_of es) (event e) (by_each es)

  does_have : (xs : List Step) (next : Work) → P xs → Has next → Has (does xs next)
  does_have xs next p q = λ said. both xs (next said).steps p (q said)

  reads_have : (next : ℕ → Work) → ((t : ℕ) → Has (next t)) → Has (reads next)
  reads_have next q = λ said. by said.arrivals said.ticks
    where
      by : (arrivals : List Arrival) (ticks : List ℕ) → P (by_ticks next arrivals ticks).steps
      by arrivals [] = reading
      by arrivals (t ∷ ticks) =
          let more : Said = record { arrivals = arrivals; ticks = ticks } in
          both (read_clock ∷ []) (next t more).steps reading (q t more)

  hears_have : (next : Arrival → Work) → ((a : Arrival) → Has (next a)) → Has (hears 65536 next)
  hears_have next q = λ said. by said.arrivals said.ticks
    where
      by : (arrivals : List Arrival) (ticks : List ℕ) → P (by_arrivals 65536 next arrivals ticks).steps
      by [] ticks = hearing
      by (a ∷ arrivals) ticks =
          let more : Said = record { arrivals = arrivals; ticks = ticks } in
          both (hear 65536 ∷ []) (next a more).steps hearing (q a more)

  makes_have : (lines : List Line) (next : Serving → Work) (s : Serving) → HaveAll next → Has (makes lines next s)
  makes_have lines next s q =
      does_have (serves s.pair lines) (next (after_events s lines)) (by_each (events s.pair lines))
      (q (after_events s lines))

  if_have : (b : Bool) (x y : Work) → Has x → Has y → Has (if b then x else y)
  if_have true x y p q = p
  if_have false x y p q = q

  finishes_have : HaveAll finishes
  finishes_have s = λ said. state (survivor s.pair).state

  refuses_have : HaveAll refuses
  refuses_have s = λ said. none

  tells_have : (more : List ℕ) (next : Serving → Work) → HaveAll next → HaveAll (tells more next)
  tells_have more next q s =
      makes_have (replicate (length (new_frames s.heard more)) Client) (goes_on next) (hear_more s more)
      (λ t. if_have (is_too_long (rest_of t.heard)) (refuses t) (next t) (refuses_have t) (q t))

  module _ (o : Options) where
    module _ (next : Serving → Work) (q : HaveAll next) where
      abbrev then_round : Serving → Work
      then_round s = next (next_round s)

      delivered : HaveAll (deliveries then_round)
      delivered s = makes_have (delivery_lines s.pair) then_round s (λ t. q (next_round t))

      second : HaveAll (second_turn o (deliveries then_round))
      second s =
          reads_have (λ t. makes (Secondary (elapsed s.second_tick t) true 8 o.steps ∷ []) (deliveries then_round)
          (record s { second_tick = t }))
          (λ t. makes_have (Secondary (elapsed s.second_tick t) true 8 o.steps ∷ []) (deliveries then_round)
          (record s { second_tick = t }) delivered)

      first : HaveAll (first_turn o (second_turn o (deliveries then_round)))
      first s =
          reads_have (λ t. makes (Primary (elapsed s.first_tick t) true 8 o.steps ∷ [])
          (second_turn o (deliveries then_round)) (record s { first_tick = t }))
          (λ t. makes_have (Primary (elapsed s.first_tick t) true 8 o.steps ∷ [])
          (second_turn o (deliveries then_round)) (record s { first_tick = t }) second)

      turns_have : HaveAll (turns o next)
      turns_have s = makes_have (ask_lines o s.round) (first_turn o (second_turn o (deliveries then_round))) s first

    arrival_has : (a : Arrival) (next : Serving → Work) → HaveAll next → HaveAll (by_arrival o a next)
    arrival_has (bytes more) next q = tells_have more (turns o next) (turns_have next q)
    arrival_has quiet next q = turns_have next q
    arrival_has ended next q = λ s.
        if_have (length (rest_of s.heard) == 0) (finishes s) (refuses s) (finishes_have s) (refuses_have s)

    round_has : (next : Serving → Work) → HaveAll next → HaveAll (round o next)
    unfolding round
    round_has next q = λ s.
        makes_have (stop_lines o s.round) (λ t. hears 65536 (λ a. by_arrival o a next t)) s
        (λ t. hears_have (λ a. by_arrival o a next t) (λ a. arrival_has a next q t))

    pub rounds_have : (n : ℕ) (s : Serving) → Has (rounds o n s)
    unfolding rounds
    rounds_have zero s = finishes_have s
    rounds_have (suc n) s = round_has (rounds o n) (rounds_have n) s
