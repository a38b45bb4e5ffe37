-- After a report nothing is on the links: every event keeps it.
use Rattle.std.proofs.Common.{◌≡◌, ℕ, ◌+◌, ◌&&◌, Bool, true, false, List, [], ◌∷◌, ◌++◌, map, refl, sym, ◌∙◌, true≢false}
use Rattle.std.specs.Prelude.{if◌then◌else◌}
use Rattle.std.proofs.lemmas.Bool.{or_from}
use Rattle.settle_rules.specs.Numbers.{KeptNumber}
use Rattle.settle_rules.specs.Progress.{ProgressTable}
use Rattle.frame_mirror.specs.declared.ring.Waiting.{Waiting}
use Rattle.colo_wire.specs.declared.messages.Message.{Message}
use Rattle.replay_log.specs.declared.lines.Line.TheVariants.{Secondary}
use Rattle.pair_theorem.specs.Checkpoint.{capture}
use Rattle.pair_theorem.specs.ClientFrames.{trims_by}
use Rattle.pair_theorem.specs.Events.{accept_by, acknowledge, hear_end, hear_frame, hear_number, number_message, numbers_of, primary_hears, secondary_hears, secondary_survives, turn_secondary}
use Rattle.pair_theorem.specs.GuestTurns.{TurnMade, turn_from}
use Rattle.pair_theorem.specs.Messages.{frame_message, waiting_in}
use Rattle.pair_theorem.specs.Past.{Past, Start, Step, Stop, no_stop, primary_stop, secondary_stop, first_past, is_primary_stop, is_secondary_stop, secondary_releases}
use Rattle.pair_theorem.proofs.EachHistory.{Fits, Keeps, Reached, each_history, is_stopped, reported_stopped}
use Rattle.pair_theorem.proofs.EventCases.{Cases}
use Rattle.pair_theorem.proofs.MessageCases.{heard_back_case, heard_case}
use Rattle.theorem_runs.proofs.Settled.{ack_settled, known_base, known_settled, left_settled, primary_base, primary_settled, secondary_base, sent_base, sent_settled, survivor_settled, told_past}

-- AFTER A REPORT nothing is on the links
pub record IsLone (past : Past) : Type 0 where
  pub down : past.is_reported ≡ true → past.to_secondary ≡ []
  pub up : past.is_reported ≡ true → past.to_primary ≡ []
  pub awaits : past.is_reported ≡ true → past.awaits_ack ≡ false

abbrev pub LoneLinks : List Step → Past → Type 0
LoneLinks steps past = IsLone past

none_reported : (past : Past) → past.is_reported ≡ false → IsLone past
none_reported past e = record {
  down = λ f. absurd (true≢false (sym f ∙ e));
  up = λ f. absurd (true≢false (sym f ∙ e));
  awaits = λ f. absurd (true≢false (sym f ∙ e));
}

same_lone : (past after : Past) → after.is_reported ≡ past.is_reported → after.to_secondary ≡ past.to_secondary
    → after.to_primary ≡ past.to_primary → after.awaits_ack ≡ past.awaits_ack → IsLone past → IsLone after
same_lone past after r d u w h = record {
  down = λ f. d ∙ h.down (sym r ∙ f);
  up = λ f. u ∙ h.up (sym r ∙ f);
  awaits = λ f. w ∙ h.awaits (sym r ∙ f);
}

-- what is put where no report came
if_reported : {X : Type 0} (b : Bool) (xs ys : List X) → (b ≡ true → xs ≡ []) → b ≡ true
    → (if b then xs else ys) ≡ []
if_reported true xs ys h e = h refl
if_reported false xs ys h e = absurd (true≢false (sym e))

told_lone : (past : Past) (ns : List KeptNumber) (ps : ProgressTable) (new : List KeptNumber) → IsLone past
    → IsLone (told_past past ns ps new)
told_lone past ns ps new h = record {
  down = λ f. if_reported past.is_reported past.to_secondary (past.to_secondary ++ map number_message new) h.down f;
  up = h.up;
  awaits = h.awaits;
}

not_reported : (past : Past) → (past.is_reported ≡ true → is_stopped past.stop ≡ true)
    → is_primary_stop past.stop ≡ false → is_secondary_stop past.stop ≡ false → past.is_reported ≡ false
not_reported past h p s = by past.is_reported h
  where
    by : (b : Bool) → (b ≡ true → is_stopped past.stop ≡ true) → b ≡ false
    by true g =
        absurd (true≢false (sym (g refl) ∙ or_from (is_primary_stop past.stop) (is_secondary_stop past.stop) p s))
    by false g = refl

-- a secondary that may make a turn of its own has heard of no report
turn_unreported : (past : Past) → (past.is_reported ≡ true → is_stopped past.stop ≡ true)
    → is_secondary_stop past.stop ≡ false → secondary_releases past ≡ false → past.is_reported ≡ false
turn_unreported past h s r = by past.stop past.is_reported s r h
  where
    by : (stop : Stop) (b : Bool) → is_secondary_stop stop ≡ false → (is_primary_stop stop && b) ≡ false
        → (b ≡ true → is_stopped stop ≡ true) → b ≡ false
    by stop false s r h = refl
    by no_stop true s r h = absurd (true≢false (sym (h refl)))
    by primary_stop true s r h = absurd (true≢false r)
    by secondary_stop true s r h = absurd (true≢false s)

accept_lone : (b : Bool) (past : Past) (w : Waiting) → IsLone past → IsLone (accept_by b past w (trims_by w))
unfolding accept_by
accept_lone true past w h = record { down = h.down; up = h.up; awaits = h.awaits }
accept_lone false past w h = record {
  down = λ f. if_reported past.is_reported past.to_secondary (past.to_secondary ++ frame_message w ∷ []) h.down f;
  up = h.up;
  awaits = h.awaits;
}

-- where no report came
captured_lone : (past : Past) → past.is_reported ≡ false → IsLone (capture past)
unfolding capture
captured_lone past e = none_reported (capture past) e

told_none : (past : Past) (ns : List KeptNumber) (ps : ProgressTable) (new : List KeptNumber)
    → past.is_reported ≡ false → IsLone (told_past past ns ps new)
told_none past ns ps new e = none_reported (told_past past ns ps new) e

heard_lone : (past : Past) (m : Message) → past.is_reported ≡ false → IsLone (secondary_hears past m).after
unfolding hear_frame
heard_lone past m e =
    heard_case (λ o. IsLone o.after) past m
    (λ index seen trim frame is. none_reported (hear_frame past (waiting_in index seen trim frame)) e)
    (λ t client number is. none_reported (hear_number past t client number) e)
    (λ n is. none_reported (hear_end past n) e) (λ apart. none_reported past e)

back_lone : (past : Past) (m : Message) → past.is_reported ≡ false → IsLone (primary_hears past m).after
back_lone past m e =
    heard_back_case (λ o. IsLone o.after) past m
    (λ t client number is. known_settled (λ step after. IsLone after) past t client number past.sent_heard
    (λ out ns ps new. told_none (known_base past t client number) ns ps new e)
    (λ out ns ps new why k. captured_lone (told_past (known_base past t client number) ns ps new) e))
    (λ frame is. sent_settled (λ step after. IsLone after) past frame (past.sent_heard + 1)
    (λ out ns ps new. told_none (sent_base past frame) ns ps new e)
    (λ out ns ps new why k. captured_lone (told_past (sent_base past frame) ns ps new) e))
    (λ n is. ack_settled (λ step after. IsLone after) past n
    (λ out ns ps new. told_none (acknowledge past) ns ps new e)
    (λ out ns ps new why k. captured_lone (told_past (acknowledge past) ns ps new) e))
    (λ foreign. none_reported past e)

turned_lone : (past : Past) (d : ℕ) (i : Bool) (b n : ℕ) (made : TurnMade) → past.is_reported ≡ false
    → IsLone (turn_secondary past (Secondary d i b n) made).after
unfolding turn_secondary
turned_lone past d i b n made e = none_reported (turn_secondary past (Secondary d i b n) made).after e

lone_cases : (a : Start) → Cases a.kind a.stream (Keeps Fits a LoneLinks)
unfolding secondary_survives
lone_cases a = record {
  idle = λ past x e f steps r fits h. h;
  primary_turn =
      λ past d i b n e f steps r fits h.
      let made = turn_from a.kind past.primary past.primary_inbox i (numbers_of d b n) in
      primary_settled (λ step after. IsLone after) past d i b n made
      (λ out ns ps new. told_lone (primary_base past made) ns ps new
      (record { down = h.down; up = h.up; awaits = h.awaits }))
      (λ out ns ps new why g. captured_lone (told_past (primary_base past made) ns ps new) g);
  secondary_turn =
      λ past d i b n e f steps r fits h. turned_lone past d i b n
      (turn_from a.kind past.secondary past.secondary_inbox i (numbers_of d b n))
      (turn_unreported past (reported_stopped a steps past r) e f);
  survivor_turn =
      λ past d i b n e steps r fits h.
      let made = turn_from a.kind past.secondary past.secondary_inbox i (numbers_of d b n) in
      survivor_settled (λ step after. IsLone after) past d i b n made
      (λ out ns ps new. told_lone (secondary_base past made) ns ps new
      (record { down = h.down; up = h.up; awaits = h.awaits }))
      (λ out ns ps new why g. captured_lone (told_past (secondary_base past made) ns ps new) g);
  accepts = λ past frame kept t e f steps r fits h. accept_lone (is_primary_stop past.stop) past _ h;
  is_full = λ past frame kept t e f steps r fits h. (record { down = h.down; up = h.up; awaits = h.awaits });
  answers = λ past frame b t e steps r fits h. (record { down = h.down; up = h.up; awaits = h.awaits });
  drops = λ past frame why t e steps r fits h. (record { down = h.down; up = h.up; awaits = h.awaits });
  loses = λ past frame t e f steps r fits h. (record { down = h.down; up = h.up; awaits = h.awaits });
  secondary_hears = λ past m ms e f g steps r fits h. heard_lone (record past { to_secondary = ms }) m g;
  ignores = λ past m ms e f g running alone steps r fits h. none_reported (record past { to_primary = ms }) alone;
  primary_hears = λ past m ms e f running alone steps r fits h. back_lone (record past { to_primary = ms }) m alone;
  primary_stops = λ past steps r fits h. (record { down = h.down; up = h.up; awaits = h.awaits });
  secondary_stops = λ past steps r fits h. (record { down = h.down; up = h.up; awaits = h.awaits });
  secondary_left = λ past e steps r fits h. (record { down = λ f. refl; up = λ f. refl; awaits = λ f. refl });
  primary_left =
      λ past e steps r fits h. left_settled (λ step after. IsLone after) past
      (λ out ns ps new. (record { down = λ f. refl; up = λ f. refl; awaits = λ f. refl }));
  asks =
      λ past e f g steps r fits h. captured_lone past (not_reported past (reported_stopped a steps past r) f g);
}

pub lone_links : (a : Start) (steps : List Step) (past : Past) → Reached Fits a steps past → IsLone past
lone_links a = each_history Fits a LoneLinks (none_reported (first_past a) refl) (lone_cases a)
