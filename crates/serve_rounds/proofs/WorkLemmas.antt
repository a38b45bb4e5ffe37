-- Work in parts, one after the other.
use Rattle.std.proofs.Common.{◌≡◌, ℕ, IsTrue, Bool, true, false, List, [], ◌∷◌, ◌++◌, refl, sym, ap, ◌∙◌, subst, append_assoc, if◌then◌else◌}
use Rattle.std.specs.List.{list_any}
use Rattle.colo_base.specs.Clock.{ClockState}
use Rattle.colo_base.specs.Link.{Arrival, LinkState}
use Rattle.colo_base.specs.Shelf.{ShelfState}
use Rattle.file_steps.specs.Plans.{End, Plan}
use Rattle.file_steps.specs.Steps.{Done, Fails, Outside, Said, Step, came, connects, hear, nothing, outside, read_clock, said_then, ticked}
use Rattle.file_steps.specs.declared.fault.Fault.{Fault}
use Rattle.file_steps.specs.declared.fault.Fault.TheVariants.{Usage, Refused, Read, Write, NoMemory}
use Rattle.file_steps.proofs.PartLemmas.{done_none, done_then, fails_front, fails_then, no_memory}
use Rattle.serve_rounds.specs.Work.{EndsWith, IsCut, IsStopped, Reaches, Work, after, does, hears, reads}

said_assoc : (p q r : Said) → said_then (said_then p q) r ≡ said_then p (said_then q r)
said_assoc p q r =
    rw (append_assoc p.arrivals q.arrivals r.arrivals, append_assoc p.ticks q.ticks r.ticks) refl

after_after : (xs ys : List Step) (p : Plan) → after xs (after ys p) ≡ after (xs ++ ys) p
after_after xs ys p = rw (append_assoc xs ys p.steps) refl

-- ---- one part

pub reaches_none : (out : List ℕ) (w : Work) (a : Outside) → Reaches out w w a a
reaches_none out w a = record { steps = []; said = nothing; goes = λ more. refl; done = done_none out a }

pub does_reaches : (out : List ℕ) (xs : List Step) (w : Work) (a b : Outside) → Done out xs nothing a b
    → Reaches out (does xs w) w a b
does_reaches out xs w a b d = record { steps = xs; said = nothing; goes = λ more. refl; done = d }

pub hears_reaches : (out : List ℕ) (room : ℕ) (next : Arrival → Work) (x : Arrival) (a b : Outside)
    → Done out (hear room ∷ []) (came x) a b → Reaches out (hears room next) (next x) a b
hears_reaches out room next x a b d =
    record { steps = hear room ∷ []; said = came x; goes = λ more. refl; done = d }

pub reads_reaches : (out : List ℕ) (next : ℕ → Work) (t : ℕ) (a b : Outside) → Done out (read_clock ∷ []) (ticked t) a b
    → Reaches out (reads next) (next t) a b
reads_reaches out next t a b d =
    record { steps = read_clock ∷ []; said = ticked t; goes = λ more. refl; done = d }

pub stopped_of : (out : List ℕ) (w : Work) (a b : Outside) (fault : Fault) → IsCut out w a b fault
    → IsStopped out w a b fault
stopped_of out w a b Usage cut = cut.fails
stopped_of out w a b (Refused refusal) cut = absurd cut.fails
stopped_of out w a b Read cut = cut
stopped_of out w a b Write cut = cut
stopped_of out w a b NoMemory cut = cut

pub does_fails : (out : List ℕ) (xs : List Step) (w : Work) (a b : Outside) (fault : Fault)
    → Fails out xs nothing a b fault → IsStopped out (does xs w) a b fault
does_fails out xs w a b fault f =
    stopped_of out (does xs w) a b fault
    (record { said = nothing; fails = fails_front out xs (w nothing).steps nothing a b fault f })

pub hears_fails : (out : List ℕ) (room : ℕ) (next : Arrival → Work) (a b : Outside) (fault : Fault)
    → Fails out (hear room ∷ []) nothing a b fault → IsStopped out (hears room next) a b fault
hears_fails out room next a b fault f =
    stopped_of out (hears room next) a b fault (record { said = nothing; fails = f })

-- memory was refused before it went on
pub stops_at_once : (out : List ℕ) (w : Work) (a : Outside) → IsStopped out w a a NoMemory
stops_at_once out w a = record { said = nothing; fails = no_memory out (w nothing).steps a }

-- ---- parts in a row

pub reaches_then : (out : List ℕ) (w v u : Work) (a b c : Outside) → Reaches out w v a b → Reaches out v u b c
    → Reaches out w u a c
reaches_then out w v u a b c first second = record {
  steps = first.steps ++ second.steps;
  said = said_then first.said second.said;
  goes = λ more. ap w (said_assoc first.said second.said more) ∙ (first.goes (said_then second.said more)
      ∙ (ap (λ p. after first.steps p) (second.goes more) ∙ after_after first.steps second.steps (u more)));
  done = done_then out first.steps second.steps first.said second.said a b c first.done second.done;
}

pub ends_then : (out : List ℕ) (w v : Work) (e : End) (a b c : Outside) → Reaches out w v a b
    → EndsWith out v e b c → EndsWith out w e a c
ends_then out w v e a b c first ends =
    let said = said_then first.said ends.said in
    let is = first.goes ends.said in
    record {
      said = said;
      ends = ap (λ (p : Plan). p.end) is ∙ ends.ends;
      done = subst (λ (p : Plan). Done out p.steps said a c) (sym is)
          (done_then out first.steps (v ends.said).steps first.said ends.said a b c first.done ends.done);
    }

cut_then : (out : List ℕ) (w v : Work) (a b c : Outside) (fault : Fault) → Reaches out w v a b
    → IsCut out v b c fault → IsCut out w a c fault
cut_then out w v a b c fault first cut =
    let said = said_then first.said cut.said in
    let is = first.goes cut.said in
    record {
      said = said;
      fails = subst (λ (p : Plan). Fails out p.steps said a c fault) (sym is)
          (fails_then out first.steps (v cut.said).steps first.said cut.said a b c fault first.done cut.fails);
    }

pub stops_then : (out : List ℕ) (w v : Work) (a b c : Outside) (fault : Fault) → Reaches out w v a b
    → IsStopped out v b c fault → IsStopped out w a c fault
stops_then out w v a b c Usage first none = none
stops_then out w v a b c (Refused refusal) first p = (p.0, ends_then out w v _ a b c first p.1)
stops_then out w v a b c Read first cut = cut_then out w v a b c Read first cut
stops_then out w v a b c Write first cut = cut_then out w v a b c Write first cut
stops_then out w v a b c NoMemory first cut = cut_then out w v a b c NoMemory first cut

-- ---- a link that was opened stays so

pub still_open : (out : List ℕ) (xs : List Step) (p : Said) (a b : Outside) → Done out xs p a b
    → IsTrue a.link.opened → IsTrue b.link.opened
still_open out xs p a b d opened = d.carried.opened ∙ by (list_any connects xs)
  where
    by : (t : Bool) → (if t then true else a.link.opened) ≡ true
    by true = refl
    by false = opened

-- a clock of which nothing can be observed
pub any_clock : ClockState
any_clock = record { observable = false; given = [] }

pub open_after : (out : List ℕ) (xs : List Step) (s t : ShelfState) (l m : LinkState)
    → ((k : ClockState) → Done out xs nothing (outside s l k) (outside t m k)) → IsTrue l.opened → IsTrue m.opened
open_after out xs s t l m d opened =
    still_open out xs nothing (outside s l any_clock) (outside t m any_clock) (d any_clock) opened
