-- What the primary sent goes on from event to event, until a survivor releases.
use Rattle.std.proofs.Common.{◌≡◌, ℕ, ◌+◌, ◌&&◌, Bool, true, false, List, [], ◌∷◌, ◌++◌, append-nil, map, None, refl, sym, ap, ◌∙◌, true≢false}
use Rattle.std.proofs.lemmas.Bool.{or_parts}
use Rattle.std.proofs.lemmas.List.Elements.{filter_map-append}
use Rattle.inet_frame.specs.Counted.{tcp_in}
use Rattle.inet_frame.specs.Fields.{TcpFields}
use Rattle.tcp_track.specs.Lines.{commit, segment_of, sent, sent_of}
use Rattle.tcp_track.specs.Stands.{segments}
use Rattle.frame_mirror.specs.declared.ring.Waiting.{Waiting}
use Rattle.state_wire.specs.Guest.{Kind}
use Rattle.colo_wire.specs.declared.messages.Message.{Message}
use Rattle.pair_theorem.specs.Checkpoint.{capture}
use Rattle.pair_theorem.specs.ClientFrames.{trims_by}
use Rattle.pair_theorem.specs.Events.{accept_by, hear_frame, look_at, numbers_of, outcome_with, primary_hears, primary_survives, secondary_hears, secondary_survives, turn_primary, turn_secondary, turn_survivor, waiting_of}
use Rattle.pair_theorem.specs.GuestTurns.{TurnMade, turn_from}
use Rattle.replay_log.specs.declared.lines.Line.TheVariants.{Primary, Secondary, Report}
use Rattle.replay_log.specs.declared.records.Answer.TheVariants.{Reported}
use Rattle.pair_theorem.specs.Past.{Past, is_primary_stop, is_secondary_stop, secondary_releases}
use Rattle.pair_theorem.proofs.EachHistory.{Fits}
use Rattle.pair_theorem.proofs.EventCases.{Cases}
use Rattle.pair_theorem.proofs.MessageCases.{heard_back_case, heard_case}
use Rattle.theorem_runs.proofs.Checkpoints.{sent_of-trims}
use Rattle.theorem_runs.proofs.Settled.{ack_settled, known_settled, left_settled, primary_settled, sent_settled, survivor_settled}
use Rattle.theorem_stands.proofs.NumberedEvents.{no_survivor, not_yet, turn_items}

-- the primary releases before the event, and what it sent is a front of what it sent then
pub record GoesOn (old new : Past) : Type 0 where
  pub before : secondary_releases old ≡ false
  pub more : List TcpFields
  pub sent_is : sent_of new.primary.items ≡ sent_of old.primary.items ++ more

abbrev Front : Past → Past → Type 0
Front old new = secondary_releases new ≡ false → GoesOn old new

same_front : (old new : Past) → sent_of new.primary.items ≡ sent_of old.primary.items →
    (secondary_releases new ≡ false → secondary_releases old ≡ false) → Front old new
same_front old new same before e = record {
  before = before e;
  more = [];
  sent_is = same ∙ sym (append-nil (sent_of old.primary.items));
}

-- A TURN
primary_front : (past : Past) (d : ℕ) (i : Bool) (b n : ℕ) (made : TurnMade) →
    made.run.items ≡ past.primary.items ++ map sent (segments made.output) →
    Front past (turn_primary past (Primary d i b n) made).after
unfolding capture
primary_front past d i b n made items =
    let more = sent_of (map sent (segments made.output)) in
    let is : sent_of made.run.items ≡ sent_of past.primary.items ++ more =
    ap sent_of items ∙ filter_map-append segment_of past.primary.items (map sent (segments made.output)) in
    primary_settled (λ step after. Front past after) past d i b n made
    (λ out ns ps new e. record { before = e; more = more; sent_is = is })
    (λ out ns ps new why alone e. record { before = e; more = more; sent_is = is })

survivor_front : (past : Past) (d : ℕ) (i : Bool) (b n : ℕ) (made : TurnMade) →
    Front past (turn_survivor past (Secondary d i b n) made).after
unfolding capture
survivor_front past d i b n made =
    survivor_settled (λ step after. Front past after) past d i b n made
    (λ out ns ps new. same_front past _ refl (λ e. e)) (λ out ns ps new why alone. same_front past _ refl (λ e. e))

-- A FRAME, A MESSAGE
accept_front : (b : Bool) (past : Past) (w : Waiting) → Front past (accept_by b past w (trims_by w))
unfolding accept_by
accept_front true past w = same_front past (accept_by true past w (trims_by w)) refl (λ e. e)
accept_front false past w =
    same_front past (accept_by false past w (trims_by w)) (sent_of-trims past.primary.items w) (λ e. e)

down_front : (past : Past) (m : Message) (ms : List Message) →
    Front past (secondary_hears (record past { to_secondary = ms }) m).after
unfolding hear_frame
down_front past m ms =
    let p : Past = record past { to_secondary = ms } in
    heard_case (λ o. Front past o.after) p m
    (λ index seen trim frame is. same_front past _ refl (λ e. e))
    (λ t client number is. same_front past _ refl (λ e. e)) (λ n is. same_front past _ refl (λ e. e))
    (λ apart. same_front past _ refl (λ e. e))

commit_front : (past : Past) → sent_of (past.primary.items ++ commit ∷ []) ≡ sent_of past.primary.items
commit_front past =
    filter_map-append segment_of past.primary.items (commit ∷ []) ∙ append-nil (sent_of past.primary.items)

up_front : (past : Past) (m : Message) (ms : List Message) →
    Front past (primary_hears (record past { to_primary = ms }) m).after
unfolding capture
up_front past m ms =
    let p : Past = record past { to_primary = ms } in
    heard_back_case (λ o. Front past o.after) p m
    (λ t client number is. known_settled (λ step after. Front past after) p t client number past.sent_heard
    (λ out ns ps new. same_front past _ refl (λ e. e)) (λ out ns ps new why alone. same_front past _ refl (λ e. e)))
    (λ frame is. sent_settled (λ step after. Front past after) p frame (past.sent_heard + 1)
    (λ out ns ps new. same_front past _ refl (λ e. e)) (λ out ns ps new why alone. same_front past _ refl (λ e. e)))
    (λ n is. ack_settled (λ step after. Front past after) p n
    (λ out ns ps new. same_front past _ (commit_front past) (λ e. e))
    (λ out ns ps new why alone. same_front past _ (commit_front past) (λ e. e)))
    (λ foreign. same_front past _ refl (λ e. e))

-- A REPORT
left_front : (past : Past) → is_primary_stop past.stop ≡ false →
    Front past (outcome_with Report [] None Reported (primary_survives past)).after
left_front past e =
    left_settled (λ step after. Front past after) past
    (λ out ns ps new. same_front past _ refl (λ f. no_survivor past e))

survived_front : (past : Past) → is_primary_stop past.stop ≡ true → Front past (secondary_survives past).after
unfolding secondary_survives
survived_front past e f = absurd (true≢false (sym (ap (λ (b : Bool). b && true) e) ∙ f))

-- EVERY EVENT
pub each_front : (kind : Kind) (stream : List (List ℕ)) →
    Cases kind stream (λ past x o. Fits past x → Front past o.after)
unfolding turn_secondary capture
each_front kind stream = record {
  idle = λ past x e f fits. same_front past _ refl (λ g. g);
  primary_turn = λ past d i b n e f fits.
      primary_front past d i b n (turn_from kind past.primary past.primary_inbox i (numbers_of d b n))
      (turn_items kind past.primary past.primary_inbox i (numbers_of d b n));
  secondary_turn = λ past d i b n e f fits. same_front past _ refl (λ g. g);
  survivor_turn = λ past d i b n e fits.
      survivor_front past d i b n (turn_from kind past.secondary past.secondary_inbox i (numbers_of d b n));
  accepts = λ past frame kept t e f fits. accept_front (is_primary_stop past.stop) past
      (waiting_of past (look_at past (tcp_in kept)) kept);
  is_full = λ past frame kept t e f fits. same_front past _ refl (λ g. g);
  answers = λ past frame b t e fits. same_front past _ refl (λ g. g);
  drops = λ past frame why t e fits. same_front past _ refl (λ g. g);
  loses = λ past frame t e f fits. same_front past _ refl (λ g. g);
  secondary_hears = λ past m ms e f g fits. down_front past m ms;
  ignores = λ past m ms e f g running alone fits. same_front past _ refl (λ h. h);
  primary_hears = λ past m ms e f running alone fits. up_front past m ms;
  primary_stops = λ past fits. same_front past _ refl (λ e. not_yet past e);
  secondary_stops = λ past fits. same_front past _ refl
      (λ e. no_survivor past (or_parts (is_primary_stop past.stop) (is_secondary_stop past.stop) (fits.stop refl)).0);
  secondary_left = λ past e fits. survived_front past e;
  primary_left = λ past e fits. left_front past e;
  asks = λ past e f g fits. same_front past _ refl (λ h. h);
}
