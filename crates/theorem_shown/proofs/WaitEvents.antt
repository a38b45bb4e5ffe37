-- While a checkpoint is awaited, and its acknowledgement is not on the link, no event captures, and it is awaited
-- still.
use Rattle.std.proofs.Common.{◌≡◌, ℕ, ◌+◌, Bool, true, false, ◌&&◌, ◌||◌, not, List, [], ◌∷◌, Option, None, Some, refl, sym, ap, ◌∙◌, true≢false}
use Rattle.std.proofs.lemmas.Bool.{and_parts}
use Rattle.std.specs.List.{list_any}
use Rattle.inet_frame.specs.Counted.{tcp_in}
use Rattle.frame_mirror.specs.declared.ring.Waiting.{Waiting}
use Rattle.state_wire.specs.Guest.{Kind}
use Rattle.colo_wire.specs.declared.messages.Message.{Message}
use Rattle.pair_theorem.specs.ClientFrames.{trims_by}
use Rattle.pair_theorem.specs.Events.{accept_by, is_ack_message, look_at, secondary_hears, secondary_survives, turn_secondary, numbers_of, waiting_of, hear_frame}
use Rattle.pair_theorem.specs.GuestTurns.{turn_from}
use Rattle.pair_theorem.specs.LogParts.{is_captured}
use Rattle.pair_theorem.specs.Past.{Outcome, Past, is_primary_stop}
use Rattle.pair_theorem.proofs.EventCases.{Cases, Claim}
use Rattle.pair_theorem.proofs.MessageCases.{heard_case}
use Rattle.theorem_runs.proofs.Settled.{left_settled, survivor_settled}
use Rattle.theorem_splices.specs.Known.{has_ack}

-- no checkpoint is captured, and one is awaited
abbrev pub IsWaiting : Outcome → Type 0
IsWaiting o = (list_any is_captured o.step.entry.marks ≡ false) × (o.after.awaits_ack ≡ true)

-- until a report
abbrev pub WaitsOn : Claim
WaitsOn past x o =
    o.after.is_reported ≡ false → past.awaits_ack ≡ true → has_ack past.to_primary ≡ false → IsWaiting o

heard_waits : (past : Past) (m : Message) → past.awaits_ack ≡ true → IsWaiting (secondary_hears past m)
unfolding hear_frame
heard_waits past m awaits =
    heard_case IsWaiting past m (λ index seen trim frame is. (refl, awaits)) (λ t client number is. (refl, awaits))
    (λ n is. (refl, awaits)) (λ apart. (refl, awaits))

accept_waits : (b : Bool) (past : Past) (w : Waiting) → past.awaits_ack ≡ true
    → (accept_by b past w (trims_by w)).awaits_ack ≡ true
unfolding accept_by
accept_waits true past w awaits = awaits
accept_waits false past w awaits = awaits

-- what is heard while one is awaited is its acknowledgement
hears_ack : (past : Past) (m : Message) (ms : List Message) → past.to_primary ≡ m ∷ ms
    → (past.awaits_ack && not (is_ack_message m)) ≡ false → past.awaits_ack ≡ true
    → has_ack past.to_primary ≡ true
hears_ack past m ms e idle awaits =
    (λ i. has_ack (e i)) ∙ by (is_ack_message m) (sym (λ i. awaits i && not (is_ack_message m)) ∙ idle)
  where
    by : (b : Bool) → (true && not b) ≡ false → (b || has_ack ms) ≡ true
    by true f = refl
    by false f = absurd (true≢false f)

pub wait_cases : (kind : Kind) (stream : List (List ℕ)) → Cases kind stream WaitsOn
unfolding secondary_survives turn_secondary
wait_cases kind stream = record {
  idle = λ past x e f alone awaits none. (refl, awaits);
  primary_turn = λ past d i b n e f alone awaits none. absurd (true≢false (sym awaits ∙ f));
  secondary_turn = λ past d i b n e f alone awaits none. (refl, awaits);
  survivor_turn =
      λ past d i b n e.
      let reported = (and_parts (is_primary_stop past.stop) past.is_reported e).1 in
      survivor_settled (λ step after. after.is_reported ≡ false → past.awaits_ack ≡ true
      → has_ack past.to_primary ≡ false → (list_any is_captured step.entry.marks ≡ false) × (after.awaits_ack ≡ true))
      past d i b n (turn_from kind past.secondary past.secondary_inbox i (numbers_of d b n))
      (λ out ns ps new alone. absurd (true≢false (sym reported ∙ alone)))
      (λ out ns ps new why alone. absurd (true≢false (sym reported ∙ alone)));
  accepts = λ past frame kept t e f alone awaits none. (
    refl,
    accept_waits (is_primary_stop past.stop) past
        (waiting_of past (look_at past (tcp_in kept)) kept) awaits,
  );
  is_full = λ past frame kept t e f alone awaits none. (refl, awaits);
  answers = λ past frame b t e alone awaits none. (refl, awaits);
  drops = λ past frame why t e alone awaits none. (refl, awaits);
  loses = λ past frame t e f alone awaits none. (refl, awaits);
  secondary_hears = λ past m ms e f g alone awaits none. heard_waits (record past { to_secondary = ms }) m awaits;
  ignores = λ past m ms e f g running here alone awaits none. (refl, awaits);
  primary_hears = λ past m ms e f running here alone awaits none.
      absurd (true≢false (sym (hears_ack past m ms e f awaits) ∙ none));
  primary_stops = λ past alone awaits none. (refl, awaits);
  secondary_stops = λ past alone awaits none. (refl, awaits);
  secondary_left = λ past e alone. absurd (true≢false alone);
  primary_left =
      λ past e. left_settled (λ step after. after.is_reported ≡ false → past.awaits_ack ≡ true
      → has_ack past.to_primary ≡ false → (list_any is_captured step.entry.marks ≡ false) × (after.awaits_ack ≡ true))
      past (λ out ns ps new alone. absurd (true≢false alone));
  asks = λ past e f g alone awaits none. absurd (true≢false (sym awaits ∙ e));
}
