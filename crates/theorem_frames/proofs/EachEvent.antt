-- What holds of the event of each line, after any history, holds of all events of a log.
use Rattle.std.proofs.Common.{◌≡◌, List, [], ◌∷◌, ◌++◌, sym, subst, ◌∙◌, All}
use Rattle.std.proofs.lemmas.List.Elements.{All-append, All-cons, All-nil}
use Rattle.replay_log.specs.declared.lines.Line.{Line}
use Rattle.pair_theorem.specs.Events.{outcome_of}
use Rattle.pair_theorem.specs.History.{past_at}
use Rattle.pair_theorem.specs.Past.{Past, Start, Step, first_past}
use Rattle.pair_theorem.specs.Places.{Event, events, events_from}
use Rattle.pair_theorem.proofs.EachHistory.{Reached, begins, events_from-append, goes, past_reached, released_by}
use Rattle.pair_theorem.proofs.EventFacts.{event_facts}

-- the event of a line after some steps, whose own step is what the definitions make of it
abbrev pub event_after : Start → List Step → Past → Line → Event
event_after a steps past x = record {
  past = past;
  released = released_by steps;
  step = (outcome_of a.kind a.stream past x).step;
  outcome = outcome_of a.kind a.stream past x;
}

pub one_event_more : (F : Past → Line → Type 0) (a : Start) (steps : List Step) (past : Past) (x : Line)
    → Reached F a steps past → events a (steps ++ (outcome_of a.kind a.stream past x).step ∷ [])
    ≡ events a steps ++ event_after a steps past x ∷ []
unfolding events past_at events_from
one_event_more F a steps past x h =
    let step = (outcome_of a.kind a.stream past x).step in
    let last : Past → Line → Event =
    λ p l. (record {
      past = p;
      released = released_by steps;
      step = step;
      outcome = outcome_of a.kind a.stream p l;
    }) in
    events_from-append a.kind a.stream (first_past a) [] steps (step ∷ [])
    ∙ (λ i. events a steps ++ last (past_reached F a steps past h i) ((event_facts a.kind a.stream past x).line i) ∷ [])

pub each_event : (F : Past → Line → Type 0) (a : Start) (Q : Event → Type 0)
    → ((steps : List Step) (past : Past) (x : Line) → Reached F a steps past → F past x
    → Q (event_after a steps past x))
    → (steps : List Step) (past : Past) → Reached F a steps past → All Q (events a steps)
unfolding events events_from
each_event F a Q each steps past begins = All-nil Q
each_event F a Q each steps past (goes before old x h fits) =
    subst (All Q) (sym (one_event_more F a before old x h))
    (All-append Q (events a before) (event_after a before old x ∷ []) (each_event F a Q each before old h)
    (All-cons Q (event_after a before old x) [] (each before old x h fits) (All-nil Q)))
