-- Logs that break a sentence on what a stop of the primary joins: the pause, and the survivor's numbers.
use Rattle.std.proofs.Common.{◌≡◌, ℕ, zero, suc, ◌==◌, ◌&&◌, ◌||◌, not, Bool, true, false, List, [], ◌∷◌, ◌++◌, take, drop, Option, None, Some, refl, sym, ap, subst, slice_get, unwrap_or, true≢false}
use Rattle.std.specs.Prelude.{All, IsTrue}
use Rattle.std.specs.List.{list_all, list_any}
use Rattle.std.proofs.lemmas.Bool.{and_from, both_ways, eq-eqb}
use Rattle.inet_frame.specs.Flags.{has_syn}
use Rattle.tcp_track.specs.Lines.{line}
use Rattle.tcp_track.specs.declared.openings.Opening.{Opening}
use Rattle.settle_rules.specs.Numbers.{KeptNumber, kept_number}
use Rattle.settle_rules.specs.Release.{Released, tcp}
use Rattle.replay_log.specs.declared.lines.Line.{Line}
use Rattle.replay_log.specs.declared.lines.Line.TheVariants.{Secondary, Client, StopPrimary, Report, ToSecondary}
use Rattle.replay_log.specs.declared.records.Answer.TheVariants.{Made}
use Rattle.pair_theorem.specs.History.{pair_log}
use Rattle.pair_theorem.specs.Past.{Past, Start, Step}
use Rattle.pair_theorem.specs.Places.{Event, Place, event_places, events}
use Rattle.pair_theorem.specs.Splicing.{HasSurvivorNumber, IsOwnNumber, IsSurvivorNumber, Pauses, SurvivorNumbers, is_paused, is_reply, is_survival, is_syn_to, syns_since_commit}
use Rattle.pair_theorem.proofs.AllLemmas.{All_at, list_all_from}
use Rattle.pair_theorem.proofs.Alternatives.{early_syn_steps}
use Rattle.pair_theorem.proofs.BrokenLogs.{edit_at, with_answer, with_released}
use Rattle.pair_theorem.proofs.Told.{data_out}
use Rattle.pair_theorem.proofs.WorkedFrames.{abc, worked_segment, worked_start}
use Rattle.pair_theorem.proofs.WorkedSchedules.{captured_lines, failover_lines, primary}

-- THE PAUSE: a primary that goes on, and releases, before its checkpoint is acknowledged
abbrev pub paused_lines : List Line
paused_lines = captured_lines ++ primary 6 ∷ []

unfoldable pub resumed_steps : List Step
unfolding pair_log worked_start
resumed_steps =
    edit_at 15 (λ s. with_answer (Made None 1) (with_released (data_out 5001 abc ∷ []) s))
    (pair_log worked_start paused_lines)

abbrev is_paused_at : Option Event → Bool
is_paused_at None = false
is_paused_at (Some e) = is_paused e

abbrev frames_at : Option Event → List Released
frames_at None = []
frames_at (Some e) = e.step.released

resumed_paused : is_paused_at (slice_get (events worked_start resumed_steps) 15) ≡ true
unfolding resumed_steps events
resumed_paused = refl

resumed_frames : frames_at (slice_get (events worked_start resumed_steps) 15) ≡ data_out 5001 abc ∷ []
unfolding resumed_steps events
resumed_frames = refl

resumed_at : (o : Option Event) → slice_get (events worked_start resumed_steps) 15 ≡ o → is_paused_at o ≡ true
    → frames_at o ≡ data_out 5001 abc ∷ [] → All Pauses (events worked_start resumed_steps) → ⊥
resumed_at None at paused out h = absurd (true≢false (sym paused))
resumed_at (Some e) at paused out h =
    true≢false (sym (All_at (λ (r : Released). IsTrue (is_reply r)) (data_out 5001 abc ∷ []) 0 (data_out 5001 abc)
    (subst (λ (rs : List Released). All (λ (r : Released). IsTrue (is_reply r)) rs) out
    (All_at Pauses (events worked_start resumed_steps) 15 e h at paused)) refl))

pub a_primary_that_goes_on : All Pauses (events worked_start resumed_steps) → ⊥
a_primary_that_goes_on =
    resumed_at (slice_get (events worked_start resumed_steps) 15) refl resumed_paused resumed_frames

-- THE SURVIVOR'S NUMBERS: a test of the event of a place in a log
abbrev pub own_test : Option Opening → ℕ → Bool
own_test None n = true
own_test (Some o) n = o.own == n

abbrev pub kept_test : Start → List Event → Past → Place → ℕ → Option KeptNumber → Bool
kept_test a before past p client (Some k) = k.number == p.segment.seq
kept_test a before past p client None =
    own_test (line p.segment.tuple past.secondary.items).opening p.segment.seq
    && not (list_any (is_syn_to p.segment.tuple client) (syns_since_commit a before))

abbrev pub client_test : Start → List Event → Past → Place → Option ℕ → Bool
client_test a before past p None = true
client_test a before past p (Some client) =
    not (has_syn p.segment.flags)
    || kept_test a before past p client (kept_number p.segment.tuple client past.secondary_numbers)

abbrev pub survival_test : Start → List Event → Event → Bool
survival_test a before e =
    is_survival e && list_all (λ (p : Place). client_test a before e.past p p.client) (event_places a e)

abbrev pub survival_at : Start → List Event → ℕ → Option Event → Bool
survival_at a es k None = false
survival_at a es k (Some e) = survival_test a (take k es) e

abbrev pub is_survival_at : Option Event → Bool
is_survival_at None = false
is_survival_at (Some e) = is_survival e

own_shown : (opening : Option Opening) (n : ℕ) → IsOwnNumber opening n → own_test opening n ≡ true
own_shown None n h = refl
own_shown (Some o) n h = eq-eqb o.own n (h o refl)

kept_shown : (a : Start) (before : List Event) (past : Past) (p : Place) (client : ℕ) (k : Option KeptNumber)
    → IsSurvivorNumber a before past p client k → kept_test a before past p client k ≡ true
kept_shown a before past p client (Some k) h = eq-eqb k.number p.segment.seq h
kept_shown a before past p client None h =
    and_from (own_test (line p.segment.tuple past.secondary.items).opening p.segment.seq)
    (not (list_any (is_syn_to p.segment.tuple client) (syns_since_commit a before)))
    (own_shown (line p.segment.tuple past.secondary.items).opening p.segment.seq h.own)
    (ap (λ (b : Bool). not b) h.none_released)

client_shown : (a : Start) (before : List Event) (past : Past) (p : Place) (o : Option ℕ) → p.client ≡ o
    → HasSurvivorNumber a before past p → client_test a before past p o ≡ true
client_shown a before past p None e h = refl
client_shown a before past p (Some client) e h =
    by (has_syn p.segment.flags) refl
  where
    kept : Bool
    kept = kept_test a before past p client (kept_number p.segment.tuple client past.secondary_numbers)

    by : (b : Bool) → has_syn p.segment.flags ≡ b → (not b || kept) ≡ true
    by true f =
        kept_shown a before past p client (kept_number p.segment.tuple client past.secondary_numbers) (h client e f)
    by false f = refl

split_at : (es : List Event) (k : ℕ) (e : Event) → slice_get es k ≡ Some e → es ≡ take k es ++ e ∷ drop (suc k) es
split_at [] k e at = absurd (cc at)
split_at (x ∷ es) zero e at = ap (λ (o : Option Event). unwrap_or o x ∷ es) at
split_at (x ∷ es) (suc k) e at = ap (λ (ys : List Event). x ∷ ys) (split_at es k e at)

-- each survival of a log passes the test
abbrev pub SurvivesRightly : Start → List Step → Type 0
SurvivesRightly a steps =
    (before later : List Event) (e : Event) → events a steps ≡ before ++ e ∷ later → SurvivorNumbers a before e

survival_breaks : (a : Start) (steps : List Step) (k : ℕ) (o : Option Event) → slice_get (events a steps) k ≡ o
    → is_survival_at o ≡ true → survival_at a (events a steps) k o ≡ false → SurvivesRightly a steps → ⊥
survival_breaks a steps k None at is test h = true≢false (sym is)
survival_breaks a steps k (Some e) at is test h =
    let before = take k (events a steps) in
    both_ways (survival_test a before e) test
    (and_from (is_survival e) (list_all (λ (p : Place). client_test a before e.past p p.client) (event_places a e)) is
    (list_all_from (HasSurvivorNumber a before e.past) (λ (p : Place). client_test a before e.past p p.client)
    (event_places a e) (λ p g. client_shown a before e.past p p.client refl g)
    (h before (drop (suc k) (events a steps)) e (split_at (events a steps) k e at) is)))

-- THE TOLD NUMBER, AND ONE OF ITS OWN where the primary released no SYN
told_number : survival_at worked_start (events worked_start (pair_log worked_start failover_lines)) 8
    (slice_get (events worked_start (pair_log worked_start failover_lines)) 8) ≡ true
unfolding pair_log worked_start events syns_since_commit
told_number = refl

abbrev pub own_number_lines : List Line
own_number_lines = Client ∷ ToSecondary ∷ Secondary 2 true 0 0 ∷ StopPrimary ∷ Report ∷ []

own_number : survival_at worked_start (events worked_start (pair_log worked_start own_number_lines)) 4
    (slice_get (events worked_start (pair_log worked_start own_number_lines)) 4) ≡ true
unfolding pair_log worked_start events syns_since_commit
own_number = refl

-- A SURVIVOR THAT ANSWERS UNDER ITS OWN NUMBER a client of which the other one was told
unfoldable pub own_syn_steps : List Step
unfolding pair_log worked_start
own_syn_steps =
    edit_at 8 (with_released (tcp (worked_segment 9000 0x12 (Some 1460)) [] ∷ []))
    (pair_log worked_start failover_lines)

own_syn_survives : is_survival_at (slice_get (events worked_start own_syn_steps) 8) ≡ true
unfolding own_syn_steps events
own_syn_survives = refl

own_syn_fails : survival_at worked_start (events worked_start own_syn_steps) 8
    (slice_get (events worked_start own_syn_steps) 8) ≡ false
unfolding own_syn_steps events syns_since_commit
own_syn_fails = refl

pub a_number_of_its_own : SurvivesRightly worked_start own_syn_steps → ⊥
a_number_of_its_own =
    survival_breaks worked_start own_syn_steps 8 (slice_get (events worked_start own_syn_steps) 8) refl
    own_syn_survives own_syn_fails

-- A NEW NUMBER AFTER A RELEASED SYN: the primary's went out before its number was known, and is lost with it
early_survives : is_survival_at (slice_get (events worked_start early_syn_steps) 5) ≡ true
unfolding early_syn_steps events
early_survives = refl

early_fails : survival_at worked_start (events worked_start early_syn_steps) 5
    (slice_get (events worked_start early_syn_steps) 5) ≡ false
unfolding early_syn_steps events syns_since_commit
early_fails = refl

pub a_new_number_after_a_released_syn : SurvivesRightly worked_start early_syn_steps → ⊥
a_new_number_after_a_released_syn =
    survival_breaks worked_start early_syn_steps 5 (slice_get (events worked_start early_syn_steps) 5) refl
    early_survives early_fails
