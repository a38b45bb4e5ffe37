-- A pair stands for its start, and each step is the theorem's.
use Rattle.std.proofs.Common.{◌≡◌, ℕ, List, [], ◌∷◌, ◌++◌, None, sym, ap, subst, ◌∙◌}
use Rattle.state_wire.specs.Guest.{Meaning}
use Rattle.replay_log.specs.declared.lines.Line.{Line}
use Rattle.pair_core.specs.Events.{event_of}
use Rattle.pair_core.specs.Pair.{Pair, new_pair}
use Rattle.pair_core.specs.Steps.{IsStep, refusal}
use Rattle.pair_core.specs.declared.pair.Step.{Step}
use Rattle.pair_theorem.specs.Events.{outcome_of}
use Rattle.pair_theorem.specs.History.{pair_log, past_from, steps_from}
use Rattle.pair_theorem.specs.Past as theirs
use Rattle.pair_theorem.specs.Past.{Past}
use Rattle.pair_theorem.proofs.EventFacts.{event_facts}
use Rattle.pair_theorem.proofs.HistoryLemmas.{pair_log-append}
use Rattle.pair_history.specs.Laws.{RestsCaptured, past_after}
use Rattle.pair_history.specs.Standing.{Stands}
use Rattle.pair_history.proofs.LogLemmas.{any_goes_on, begins_at_boot, past_then}
use Rattle.pair_world.specs.Running.{AreAlike, GoesOnBy, RunsBy, StandsForStart, TakesFrame, TellAs, TellsAs, start_of}

pub starts : (first second : Meaning) (frames : List (List ℕ)) → AreAlike first second
    → StandsForStart (start_of first second frames) (record (new_pair first second) { frames = frames })
starts first second frames h =
    subst (λ (g : Meaning). StandsForStart (start_of first second frames)
    (record (new_pair first g) { frames = frames }))
    (λ i. record { kind = sym h.kind i; state = sym h.state i; turned = second.turned })
    (begins_at_boot first.kind frames first.state first.turned second.turned)

pub offers : (old : Pair) (frame : List ℕ) → TakesFrame old (record old { frames = old.frames ++ frame ∷ [] }) frame
unfolding past_after past_from
offers old frame a h = record {
  frames = ap (λ (fs : List (List ℕ)). fs ++ frame ∷ []) h.frames;
  next = h.next;
  down = h.down;
  up = h.up;
  sent_heard = h.sent_heard;
  stop = h.stop;
  reported = h.reported;
  first_guest = h.first_guest;
  second_guest = h.second_guest;
  first = h.first;
  second = h.second;
}

pub steps_on : (old new : Pair) (line : Line) (made : Step) → refusal old line ≡ None → new ≡ (event_of old line).after
    → IsStep old line made → RestsCaptured new → GoesOnBy old new line made
steps_on old new line made good is s rests a lines start h =
    let past = past_after a lines in
    let goes = any_goes_on line a lines old start h good (subst RestsCaptured is rests) in
    let named = (event_facts a.kind a.stream past line).line in
    record {
      tells = record {
        entry = λ i. record {
          line = (s.line ∙ sym named) i;
          answer = (s.answer ∙ goes.happens.answer) i;
          marks = (s.marks ∙ goes.happens.marks) i;
        };
        released = s.released ∙ goes.happens.released;
        wire = s.wire ∙ goes.happens.wire;
      };
      stands = subst (λ (q : Past). Stands a.kind a.stream q new) (sym (past_then a lines line))
          (subst (λ (w : Pair). Stands a.kind a.stream (outcome_of a.kind a.stream past line).after w) (sym is)
          goes.after);
    }

-- A SCHEDULE, line by line
tell_more : (steps : List theirs.Step) (made : List Step) (s : theirs.Step) (m : Step) → TellAs steps made
    → TellsAs s m → TellAs (steps ++ s ∷ []) (made ++ m ∷ [])
tell_more [] [] s m h g = (g, tt)
tell_more (t ∷ steps) (n ∷ made) s m h g = (h.0, tell_more steps made s m h.1 g)
tell_more [] (n ∷ made) s m h g = absurd h
tell_more (t ∷ steps) [] s m h g = absurd h

pub runs_none : (w : Pair) → RunsBy w [] w []
unfolding pair_log steps_from
runs_none w a start h = record { log = tt; stands = h }

pub runs_more : (old new next : Pair) (lines : List Line) (line : Line) (made : List Step) (m : Step)
    → RunsBy old lines new made → GoesOnBy new next line m → RunsBy old (lines ++ line ∷ []) next (made ++ m ∷ [])
unfolding past_after steps_from
runs_more old new next lines line made m before goes a start h =
    let b = before a start h in
    let n = goes a lines start b.stands in
    let step = (outcome_of a.kind a.stream (past_after a lines) line).step in
    record {
      log = subst (λ (steps : List theirs.Step). TellAs steps (made ++ m ∷ []))
          (sym (pair_log-append a lines (line ∷ [])))
          (tell_more (pair_log a lines) made step m b.log n.tells);
      stands = n.stands;
    }
