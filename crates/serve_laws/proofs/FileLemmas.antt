-- Wherever a run ends, what it sent is a front of what OUT.released holds.
use Rattle.std.proofs.Common.{◌≡◌, ℕ, IsTrue, List, [], ◌∷◌, ◌++◌, ◌⊎◌, inl, inr, Some, codes, flat_map, unwrap_or, if◌then◌else◌, refl, sym, ap, subst, ◌∙◌}
use Rattle.std.specs.Prelude.{Option}
use Rattle.std.specs.Io.{StartsWith}
use Rattle.std.specs.Str.{bytes_eq}
use Rattle.std.proofs.lemmas.List.Concat.{flat_map-append}
use Rattle.colo_base.proofs.StateLemmas.{front_append}
use Rattle.colo_words.specs.declared.options.Options.{Options}
use Rattle.replay_log.specs.Texts.{record_text}
use Rattle.sock_link.specs.Stream.{stream_of}
use Rattle.state_wire.specs.Guest.{GuestState}
use Rattle.file_steps.specs.Steps.{Carried, IsFront, IsPartOf, Outside, Said, Step, append, append_step, after_steps, connect, create, creates, files_of, hear, read_clock, send, sent_by}
use Rattle.pair_core.specs.Pair.{Pair}
use Rattle.command_plans.specs.Replay.{Event, page_steps, record_of, replay_files, sector_steps, state_steps, writes_of}
use Rattle.plan_laws.specs.Fronts.{GoesPast, StaysBefore}
use Rattle.plan_laws.proofs.FrontLemmas.{fronts_of_two}
use Rattle.plan_laws.proofs.LeaveLemmas.{CreatesNone, after_creates, appended, none_append, none_each, none_then}
use Rattle.serve_rounds.specs.Rounds.{rounds, send_step, serve, serves_of, start}
use Rattle.serve_rounds.specs.Work.{by_ticks}
use Rattle.serve_laws.specs.Sending.{IsInFile, SentIsInFile, released_by}
use Rattle.serve_laws.proofs.SendLemmas.{Owes, rounds_owe, sends_released}
use Rattle.serve_laws.proofs.WalkLemmas.{rounds_have}

-- ---- before the first round nothing is sent

abbrev SendsNone : List Step → Type 0
SendsNone [] = Unit {0}
SendsNone (send bytes ∷ steps) = ⊥
SendsNone (s ∷ steps) = SendsNone steps

part_sends_none : (steps part : List Step) → SendsNone steps → IsPartOf steps part → flat_map sent_by part ≡ []
part_sends_none [] part none is = ap (flat_map sent_by) is
part_sends_none (connect address ∷ steps) part none is = ap (flat_map sent_by) is
part_sends_none (hear room ∷ steps) part none is = ap (flat_map sent_by) is
part_sends_none (read_clock ∷ steps) part none is = ap (flat_map sent_by) is
part_sends_none (create end ∷ steps) part none (inl is) = ap (flat_map sent_by) is
part_sends_none (create end ∷ steps) part none (inr is) = ap (flat_map sent_by) is
part_sends_none (append end bytes ∷ steps) part none (inl is) = ap (flat_map sent_by) is
part_sends_none (append end bytes ∷ steps) part none (inr some) = ap (flat_map sent_by) some.2
part_sends_none (send bytes ∷ steps) part none is = absurd none

front_sends_none : (done rest part : List Step) → SendsNone (done ++ rest) → IsPartOf rest part
    → flat_map sent_by (done ++ part) ≡ []
front_sends_none [] rest part none is = part_sends_none rest part none is
front_sends_none (create end ∷ done) rest part none is = front_sends_none done rest part none is
front_sends_none (append end bytes ∷ done) rest part none is = front_sends_none done rest part none is
front_sends_none (connect address ∷ done) rest part none is = front_sends_none done rest part none is
front_sends_none (hear room ∷ done) rest part none is = front_sends_none done rest part none is
front_sends_none (read_clock ∷ done) rest part none is = front_sends_none done rest part none is
front_sends_none (send bytes ∷ done) rest part none is = absurd none

-- ---- from then on no file is created

part_creates_none : (steps part : List Step) → CreatesNone steps → IsPartOf steps part → CreatesNone part
part_creates_none [] part none is = subst CreatesNone (sym is) tt
part_creates_none (connect address ∷ steps) part none is = subst CreatesNone (sym is) tt
part_creates_none (hear room ∷ steps) part none is = subst CreatesNone (sym is) tt
part_creates_none (read_clock ∷ steps) part none is = subst CreatesNone (sym is) tt
part_creates_none (create end ∷ steps) part none is = absurd none
part_creates_none (append end bytes ∷ steps) part none (inl is) = subst CreatesNone (sym is) tt
part_creates_none (append end bytes ∷ steps) part none (inr some) = subst CreatesNone (sym some.2) tt
part_creates_none (send bytes ∷ steps) part none (inl is) = subst CreatesNone (sym is) tt
part_creates_none (send bytes ∷ steps) part none (inr some) = subst CreatesNone (sym some.2) tt

front_creates_none : (done rest part : List Step) → CreatesNone (done ++ rest) → IsPartOf rest part
    → CreatesNone (done ++ part)
front_creates_none [] rest part none is = part_creates_none rest part none is
front_creates_none (create end ∷ done) rest part none is = absurd none
front_creates_none (append end bytes ∷ done) rest part none is = front_creates_none done rest part none is
front_creates_none (connect address ∷ done) rest part none is = front_creates_none done rest part none is
front_creates_none (hear room ∷ done) rest part none is = front_creates_none done rest part none is
front_creates_none (read_clock ∷ done) rest part none is = front_creates_none done rest part none is
front_creates_none (send bytes ∷ done) rest part none is = front_creates_none done rest part none is

none_sent : (bytes : List ℕ) → CreatesNone (send_step bytes)
none_sent [] = tt
none_sent (byte ∷ bytes) = tt

none_event : (e : Event) → CreatesNone (serves_of e)
none_event e =
    let log = record_text (record_of e) in
    let out = stream_of e.outcome.released in
    let wire = e.outcome.wire in
    none_then (writes_of e) (send_step out)
    (none_then (append_step (codes ".log") log)
    (append_step (codes ".released") out ++ append_step (codes ".wire") wire) (none_append (codes ".log") log)
    (none_then (append_step (codes ".released") out) (append_step (codes ".wire") wire)
    (none_append (codes ".released") out) (none_append (codes ".wire") wire))) (none_sent out)

none_state : (s : GuestState) → CreatesNone (state_steps s)
none_state s =
    none_then (page_steps s.pages) (sector_steps s.sectors)
    (none_each (append_step (codes ".ram")) s.pages (none_append (codes ".ram")))
    (none_each (append_step (codes ".disk")) s.sectors (none_append (codes ".disk")))

-- ---- what is added to the file

added_same : (steps : List Step) → flat_map released_by steps ≡ appended (codes ".released") steps
added_same [] = refl
added_same (create end ∷ steps) = added_same steps
added_same (append end bytes ∷ steps) =
    ap (λ (l : List ℕ). (if bytes_eq (codes ".released") end then bytes else []) ++ l) (added_same steps)
added_same (connect address ∷ steps) = added_same steps
added_same (hear room ∷ steps) = added_same steps
added_same (read_clock ∷ steps) = added_same steps
added_same (send bytes ∷ steps) = added_same steps

-- ---- a run

module _ (o : Options) (w : Pair) (address : List ℕ) (said : Said) where
  abbrev first_steps : List Step
  first_steps = creates replay_files ++ connect address ∷ []

  abbrev later_steps : List Step
  later_steps = (by_ticks (λ t. rounds o o.rounds (start o w t)) said.arrivals said.ticks).steps

  steps_are : (serve o w address said).steps ≡ first_steps ++ later_steps
  unfolding serve
  steps_are = refl

  later_owe : Owes later_steps []
  later_owe = by said.ticks
    where
      by : (ticks : List ℕ) → Owes (by_ticks (λ t. rounds o o.rounds (start o w t)) said.arrivals ticks).steps []
      by [] = refl
      by (t ∷ ticks) = rounds_owe o o.rounds w t (record { arrivals = said.arrivals; ticks = ticks })

  later_create_none : CreatesNone later_steps
  later_create_none = by said.ticks
    where
      by : (ticks : List ℕ) → CreatesNone (by_ticks (λ t. rounds o o.rounds (start o w t)) said.arrivals ticks).steps
      by [] = tt
      by (t ∷ ticks) =
          rounds_have CreatesNone tt none_then tt tt none_event none_state o o.rounds (start o w t)
          (record { arrivals = said.arrivals; ticks = ticks })

  module _ (out : List ℕ) (heard : Said) (made rest : List Step) (old new : Outside)
      (carried : Carried out made heard old new) (files : IsTrue old.shelf.observable)
      (link : IsTrue old.link.observable) where
    abbrev there : Option (List ℕ)
    there = new.shelf.contents (out ++ codes ".released")

    stays_in : StaysBefore first_steps later_steps made rest → IsInFile out old new
    stays_in s =
        let f = s.front in
        let none : flat_map sent_by made ≡ [] =
        ap (flat_map sent_by) f.made_is
        ∙ front_sends_none f.done s.left f.part (subst SendsNone f.place tt) f.next in
        record {
          sent = [];
          sent_is = carried.sent link ∙ ap (λ (l : List ℕ). old.link.sent ++ l) none;
          front = front_append [] (unwrap_or there []);
        }

    goes_in : GoesPast first_steps later_steps made rest → IsInFile out old new
    goes_in p =
        let f = p.front in
        let creates_none : CreatesNone p.later =
        subst CreatesNone (sym f.made_is)
        (front_creates_none f.done rest f.part (subst CreatesNone f.place later_create_none) f.next) in
        let holds : there ≡ Some (appended (codes ".released") p.later) =
        carried.files files (codes ".released")
        ∙ (ap (λ (l : List Step). after_steps (files_of old.shelf out) l (codes ".released")) p.made_is
        ∙ after_creates (files_of old.shelf out) first_steps p.later (codes ".released") creates_none refl) in
        let sent : flat_map sent_by made ≡ flat_map sent_by p.later =
        ap (flat_map sent_by) p.made_is ∙ flat_map-append sent_by first_steps p.later in
        record {
          sent = flat_map sent_by p.later;
          sent_is = carried.sent link ∙ ap (λ (l : List ℕ). old.link.sent ++ l) sent;
          front = rw holds (subst (λ (l : List ℕ). StartsWith l (flat_map sent_by p.later)) (added_same p.later)
              ((sends_released later_steps later_owe).fronts p.later rest f));
        }

pub sent_is_in_file : SentIsInFile
sent_is_in_file o w address out said heard made rest old new front carried files link =
    let first = first_steps o w address said in
    let later = later_steps o w address said in
    let f : IsFront (first ++ later) made rest =
    subst (λ (l : List Step). IsFront l made rest) (steps_are o w address said) front in
    by (fronts_of_two first later made rest f)
  where
    by : StaysBefore (first_steps o w address said) (later_steps o w address said) made rest
        ⊎ GoesPast (first_steps o w address said) (later_steps o w address said) made rest → IsInFile out old new
    by (inl s) = stays_in o w address said out heard made rest old new carried files link s
    by (inr p) = goes_in o w address said out heard made rest old new carried files link p
