-- What a run sends is what it adds to OUT.released before.
use Rattle.std.proofs.Common.{◌≡◌, ℕ, false, List, [], ◌∷◌, ◌++◌, inl, inr, codes, flat_map, refl, sym, ap, subst, ◌∙◌, append_assoc}
use Rattle.std.specs.Io.{StartsWith}
use Rattle.std.specs.Str.{bytes_eq}
use Rattle.std.proofs.lemmas.List.{append-nil}
use Rattle.colo_base.proofs.StateLemmas.{front_append, front_less, front_more}
use Rattle.colo_words.specs.declared.options.Options.{Options}
use Rattle.replay_log.specs.Texts.{record_text}
use Rattle.sock_link.specs.Stream.{stream_of}
use Rattle.state_wire.specs.Guest.{GuestState}
use Rattle.file_steps.specs.Steps.{IsPartOf, Said, Step, append, append_step, connect, create, hear, read_clock, send, sent_by}
use Rattle.pair_core.specs.Pair.{Pair}
use Rattle.command_plans.specs.Replay.{Event, page_steps, record_of, sector_steps, state_steps}
use Rattle.serve_rounds.specs.Rounds.{rounds, send_step, serve, serves_of, start}
use Rattle.serve_rounds.specs.Work.{by_ticks}
use Rattle.serve_laws.specs.Sending.{SendsReleased, ServeSendsReleased, released_by}
use Rattle.serve_laws.proofs.WalkLemmas.{rounds_have}

-- ---- what is in the file and isn't sent yet

-- the bytes begin with those that are sent, and P holds of the rest
pub record Pays (owed sent : List ℕ) (P : List ℕ → Type 0) : Type 0 where
  pub rest : List ℕ
  pub first : owed ≡ sent ++ rest
  pub later : P rest

-- these steps send, in order, what is owed and what they add, and owe nothing at their end
abbrev pub Owes : List Step → List ℕ → Type 0
Owes [] owed = owed ≡ []
Owes (append end bytes ∷ steps) owed = Owes steps (owed ++ released_by (append end bytes))
Owes (send bytes ∷ steps) owed = Pays owed bytes (Owes steps)
Owes (create end ∷ steps) owed = Owes steps owed
Owes (connect address ∷ steps) owed = Owes steps owed
Owes (hear room ∷ steps) owed = Owes steps owed
Owes (read_clock ∷ steps) owed = Owes steps owed

owes_all : (steps : List Step) (owed : List ℕ) → Owes steps owed
    → flat_map sent_by steps ≡ owed ++ flat_map released_by steps
owes_all [] owed h = sym (append-nil owed ∙ h)
owes_all (append end bytes ∷ steps) owed h =
    owes_all steps (owed ++ released_by (append end bytes)) h
    ∙ append_assoc owed (released_by (append end bytes)) (flat_map released_by steps)
owes_all (send bytes ∷ steps) owed h =
    ap (λ (l : List ℕ). bytes ++ l) (owes_all steps h.rest h.later)
    ∙ (sym (append_assoc bytes h.rest (flat_map released_by steps))
    ∙ ap (λ (l : List ℕ). l ++ flat_map released_by steps) (sym h.first))
owes_all (create end ∷ steps) owed h = owes_all steps owed h
owes_all (connect address ∷ steps) owed h = owes_all steps owed h
owes_all (hear room ∷ steps) owed h = owes_all steps owed h
owes_all (read_clock ∷ steps) owed h = owes_all steps owed h

owes_then : (xs ys : List Step) (owed : List ℕ) → Owes xs owed → Owes ys [] → Owes (xs ++ ys) owed
owes_then [] ys owed h k = subst (Owes ys) (sym h) k
owes_then (append end bytes ∷ xs) ys owed h k = owes_then xs ys (owed ++ released_by (append end bytes)) h k
owes_then (send bytes ∷ xs) ys owed h k =
    record { rest = h.rest; first = h.first; later = owes_then xs ys h.rest h.later k }
owes_then (create end ∷ xs) ys owed h k = owes_then xs ys owed h k
owes_then (connect address ∷ xs) ys owed h k = owes_then xs ys owed h k
owes_then (hear room ∷ xs) ys owed h k = owes_then xs ys owed h k
owes_then (read_clock ∷ xs) ys owed h k = owes_then xs ys owed h k

-- ---- wherever they are cut

-- nothing was sent
sends_none : (owed : List ℕ) (part : List Step) → flat_map sent_by part ≡ []
    → StartsWith (owed ++ flat_map released_by part) (flat_map sent_by part)
sends_none owed part none =
    subst (λ (l : List ℕ). StartsWith (owed ++ flat_map released_by part) l) (sym none)
    (front_append [] (owed ++ flat_map released_by part))

part_owes : (steps part : List Step) (owed : List ℕ) → Owes steps owed → IsPartOf steps part
    → StartsWith (owed ++ flat_map released_by part) (flat_map sent_by part)
part_owes [] part owed h is = sends_none owed part (ap (flat_map sent_by) is)
part_owes (connect address ∷ steps) part owed h is = sends_none owed part (ap (flat_map sent_by) is)
part_owes (hear room ∷ steps) part owed h is = sends_none owed part (ap (flat_map sent_by) is)
part_owes (read_clock ∷ steps) part owed h is = sends_none owed part (ap (flat_map sent_by) is)
part_owes (create end ∷ steps) part owed h (inl is) = sends_none owed part (ap (flat_map sent_by) is)
part_owes (create end ∷ steps) part owed h (inr is) = sends_none owed part (ap (flat_map sent_by) is)
part_owes (append end bytes ∷ steps) part owed h (inl is) = sends_none owed part (ap (flat_map sent_by) is)
part_owes (append end bytes ∷ steps) part owed h (inr some) = sends_none owed part (ap (flat_map sent_by) some.2)
part_owes (send bytes ∷ steps) part owed h (inl is) = sends_none owed part (ap (flat_map sent_by) is)
part_owes (send bytes ∷ steps) part owed h (inr some) =
    let front = some.0 in
    let whole : owed ++ flat_map released_by part ≡ bytes ++ h.rest =
    ap (λ (l : List Step). owed ++ flat_map released_by l) some.2 ∙ (append-nil owed ∙ h.first) in
    let sent : flat_map sent_by part ≡ front = ap (flat_map sent_by) some.2 ∙ append-nil front in
    rw (whole, sent) (front_less bytes h.rest front some.1)

front_owes : (done rest part : List Step) (owed : List ℕ) → Owes (done ++ rest) owed → IsPartOf rest part
    → StartsWith (owed ++ flat_map released_by (done ++ part)) (flat_map sent_by (done ++ part))
front_owes [] rest part owed h is = part_owes rest part owed h is
front_owes (append end bytes ∷ done) rest part owed h is =
    let more = released_by (append end bytes) in
    let all = flat_map released_by (done ++ part) in
    subst (λ (l : List ℕ). StartsWith l (flat_map sent_by (done ++ part))) (append_assoc owed more all)
    (front_owes done rest part (owed ++ more) h is)
front_owes (send bytes ∷ done) rest part owed h is =
    let all = flat_map released_by (done ++ part) in
    let sent = flat_map sent_by (done ++ part) in
    let same : bytes ++ (h.rest ++ all) ≡ owed ++ all =
    sym (append_assoc bytes h.rest all) ∙ ap (λ (l : List ℕ). l ++ all) (sym h.first) in
    subst (λ (l : List ℕ). StartsWith l (bytes ++ sent)) same
    (front_more bytes (h.rest ++ all) sent (front_owes done rest part h.rest h.later is))
front_owes (create end ∷ done) rest part owed h is = front_owes done rest part owed h is
front_owes (connect address ∷ done) rest part owed h is = front_owes done rest part owed h is
front_owes (hear room ∷ done) rest part owed h is = front_owes done rest part owed h is
front_owes (read_clock ∷ done) rest part owed h is = front_owes done rest part owed h is

pub sends_released : (steps : List Step) → Owes steps [] → SendsReleased steps
sends_released steps h = record {
  all = owes_all steps [] h;
  fronts = λ made rest f.
      rw f.made_is (front_owes f.done rest f.part [] (subst (λ (l : List Step). Owes l []) f.place h) f.next);
}

-- ---- the parts of a run

-- what goes into another file is owed to nobody
adds_other : (end bytes owed : List ℕ) → bytes_eq (codes ".released") end ≡ false
    → owed ++ released_by (append end bytes) ≡ owed
adds_other end bytes owed other = rw other (append-nil owed)

other_step : (end bytes : List ℕ) (steps : List Step) (owed : List ℕ) → bytes_eq (codes ".released") end ≡ false
    → Owes steps owed → Owes (append_step end bytes ++ steps) owed
other_step end [] steps owed other h = h
other_step end (byte ∷ bytes) steps owed other h =
    subst (Owes steps) (sym (adds_other end (byte ∷ bytes) owed other)) h

released_step : (bytes : List ℕ) (steps : List Step) → Owes steps bytes
    → Owes (append_step (codes ".released") bytes ++ steps) []
released_step [] steps h = h
released_step (byte ∷ bytes) steps h = h

send_pays : (bytes : List ℕ) → Owes (send_step bytes) bytes
send_pays [] = refl
send_pays (byte ∷ bytes) = record { rest = []; first = sym (append-nil (byte ∷ bytes)); later = refl }

event_owes : (e : Event) → Owes (serves_of e) []
event_owes e =
    let log = record_text (record_of e) in
    let out = stream_of e.outcome.released in
    let wire = e.outcome.wire in
    let first = append_step (codes ".log") log in
    let second = append_step (codes ".released") out in
    let third = append_step (codes ".wire") wire in
    let place : (first ++ (second ++ third)) ++ send_step out ≡ first ++ (second ++ (third ++ send_step out)) =
    append_assoc first (second ++ third) (send_step out)
    ∙ ap (λ (l : List Step). first ++ l) (append_assoc second third (send_step out)) in
    subst (λ (l : List Step). Owes l []) (sym place)
    (other_step (codes ".log") log (second ++ (third ++ send_step out)) [] refl
    (released_step out (third ++ send_step out)
    (other_step (codes ".wire") wire (send_step out) out refl (send_pays out))))

each_owes : (end : List ℕ) → bytes_eq (codes ".released") end ≡ false → (xs : List (List ℕ))
    → Owes (flat_map (append_step end) xs) []
each_owes end other [] = refl
each_owes end other (x ∷ xs) = other_step end x (flat_map (append_step end) xs) [] other (each_owes end other xs)

state_owes : (s : GuestState) → Owes (state_steps s) []
state_owes s =
    owes_then (page_steps s.pages) (sector_steps s.sectors) [] (each_owes (codes ".ram") refl s.pages)
    (each_owes (codes ".disk") refl s.sectors)

pub rounds_owe : (o : Options) (n : ℕ) (w : Pair) (t : ℕ) (said : Said) → Owes (rounds o n (start o w t) said).steps []
rounds_owe o n w t said =
    rounds_have (λ (steps : List Step). Owes steps []) refl
    (λ xs ys p q. owes_then xs ys [] p q) refl refl event_owes state_owes o n (start o w t) said

-- ---- a run

pub serve_sends_released : ServeSendsReleased
unfolding serve
serve_sends_released o w address said = sends_released (serve o w address said).steps (by said.ticks)
  where
    by : (ticks : List ℕ) → Owes (by_ticks (λ t. rounds o o.rounds (start o w t)) said.arrivals ticks).steps []
    by [] = refl
    by (t ∷ ticks) = rounds_owe o o.rounds w t (record { arrivals = said.arrivals; ticks = ticks })
