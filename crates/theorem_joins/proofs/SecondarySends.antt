-- What the secondary sent goes on from event to event, from the report of the primary's stop on.
use Rattle.std.proofs.Common.{◌≡◌, ℕ, ◌||◌, Bool, true, false, List, [], ◌++◌, append-nil, map, None, refl, sym, ap, ◌∙◌, true≢false}
use Rattle.std.proofs.lemmas.Bool.{and_parts}
use Rattle.std.proofs.lemmas.List.Elements.{filter_map-append}
use Rattle.inet_frame.specs.Counted.{tcp_in}
use Rattle.inet_frame.specs.Fields.{TcpFields}
use Rattle.tcp_track.specs.Lines.{segment_of, sent, sent_of}
use Rattle.tcp_track.specs.Stands.{segments}
use Rattle.frame_mirror.specs.declared.ring.Waiting.{Waiting}
use Rattle.state_wire.specs.Guest.{Kind}
use Rattle.replay_log.specs.declared.lines.Line.{Line}
use Rattle.replay_log.specs.declared.lines.Line.TheVariants.{Primary, Secondary, ToPrimary, ToSecondary, Report}
use Rattle.replay_log.specs.declared.records.Answer.TheVariants.{Reported}
use Rattle.pair_theorem.specs.Checkpoint.{capture}
use Rattle.pair_theorem.specs.ClientFrames.{trims_by}
use Rattle.pair_theorem.specs.Events.{accept_by, look_at, numbers_of, outcome_with, primary_survives, secondary_survives, turn_primary, turn_secondary, turn_survivor, waiting_of}
use Rattle.pair_theorem.specs.GuestTurns.{TurnMade, turn_from}
use Rattle.pair_theorem.specs.Log.{is_report}
use Rattle.pair_theorem.specs.Past.{Past, is_primary_stop, secondary_releases}
use Rattle.pair_theorem.proofs.EachHistory.{Fits, StopFacts, is_stopped}
use Rattle.pair_theorem.proofs.EventCases.{Cases, Claim}
use Rattle.theorem_runs.proofs.Checkpoints.{sent_of-trims}
use Rattle.theorem_runs.proofs.Settled.{left_settled, primary_settled, survivor_settled}
use Rattle.theorem_stands.proofs.NumberedEvents.{turn_items}

-- the primary was stopped before the event, and what the secondary sent is a front of what it sent then
pub record SendsOn (old new : Past) : Type 0 where
  pub before : is_primary_stop old.stop ≡ true
  pub more : List TcpFields
  pub sent_is : sent_of new.secondary.items ≡ sent_of old.secondary.items ++ more

-- where the survivor releases after the event
abbrev pub IsSent : Past → Past → Type 0
IsSent old new = secondary_releases new ≡ true → SendsOn old new

releases_stopped : (past : Past) → secondary_releases past ≡ true → is_primary_stop past.stop ≡ true
releases_stopped past e = (and_parts (is_primary_stop past.stop) past.is_reported e).0

releases_reported : (past : Past) → secondary_releases past ≡ true → past.is_reported ≡ true
releases_reported past e = (and_parts (is_primary_stop past.stop) past.is_reported e).1

same_sent : (old new : Past) → sent_of new.secondary.items ≡ sent_of old.secondary.items
    → (secondary_releases new ≡ true → is_primary_stop old.stop ≡ true) → IsSent old new
same_sent old new same before e = record {
  before = before e;
  more = [];
  sent_is = same ∙ sym (append-nil (sent_of old.secondary.items));
}

-- where the primary runs
running : (old new : Past) → new.stop ≡ old.stop → is_primary_stop old.stop ≡ false → IsSent old new
running old new same f e =
    absurd (true≢false (sym (releases_stopped new e) ∙ ((λ i. is_primary_stop (same i)) ∙ f)))

-- where no stop is reported after the event
unreported : (old new : Past) (x : Line) → StopFacts old x new → is_report x ≡ false → old.is_reported ≡ false
    → IsSent old new
unreported old new x facts f alone e =
    absurd (true≢false (sym (releases_reported new e) ∙ (facts.report ∙ (λ i. alone i || f i))))

-- A TURN
primary_sends : (past : Past) (d : ℕ) (i : Bool) (b n : ℕ) (made : TurnMade) → is_primary_stop past.stop ≡ false
    → IsSent past (turn_primary past (Primary d i b n) made).after
unfolding capture
primary_sends past d i b n made f =
    primary_settled (λ step after. IsSent past after) past d i b n made
    (λ out ns ps new. running past _ refl f) (λ out ns ps new why alone. running past _ refl f)

survivor_sends : (past : Past) (d : ℕ) (i : Bool) (b n : ℕ) (made : TurnMade) → secondary_releases past ≡ true
    → made.run.items ≡ past.secondary.items ++ map sent (segments made.output)
    → IsSent past (turn_survivor past (Secondary d i b n) made).after
survivor_sends past d i b n made f items =
    let xs = map sent (segments made.output) in
    let is : sent_of made.run.items ≡ sent_of past.secondary.items ++ sent_of xs =
    ap sent_of items ∙ filter_map-append segment_of past.secondary.items xs in
    survivor_settled (λ step after. IsSent past after) past d i b n made
    (λ out ns ps new e. record { before = releases_stopped past f; more = sent_of xs; sent_is = is })
    (λ out ns ps new why alone. absurd (true≢false (sym (releases_reported past f) ∙ alone)))

-- A FRAME, A REPORT
accept_sends : (b : Bool) (past : Past) (w : Waiting) → IsSent past (accept_by b past w (trims_by w))
unfolding accept_by
accept_sends true past w =
    same_sent past (accept_by true past w (trims_by w)) (sent_of-trims past.secondary.items w) (releases_stopped past)
accept_sends false past w =
    same_sent past (accept_by false past w (trims_by w)) refl (releases_stopped past)

left_sends : (past : Past) → is_primary_stop past.stop ≡ false
    → IsSent past (outcome_with Report [] None Reported (primary_survives past)).after
left_sends past f =
    left_settled (λ step after. IsSent past after) past (λ out ns ps new. running past _ refl f)

-- EVERY EVENT
abbrev pub SendsOnOf : Claim
SendsOnOf past x o =
    StopFacts past x o.after → Fits past x → (past.is_reported ≡ true → is_stopped past.stop ≡ true)
    → IsSent past o.after

pub each_sends : (kind : Kind) (stream : List (List ℕ)) → Cases kind stream SendsOnOf
unfolding turn_secondary secondary_survives capture
each_sends kind stream = record {
  idle = λ past x e f facts fits earlier. same_sent past past refl (releases_stopped past);
  primary_turn = λ past d i b n e f facts fits earlier.
      primary_sends past d i b n (turn_from kind past.primary past.primary_inbox i (numbers_of d b n)) e;
  secondary_turn = λ past d i b n e f facts fits earlier g. absurd (true≢false (sym g ∙ f));
  survivor_turn = λ past d i b n e facts fits earlier.
      survivor_sends past d i b n (turn_from kind past.secondary past.secondary_inbox i (numbers_of d b n)) e
      (turn_items kind past.secondary past.secondary_inbox i (numbers_of d b n));
  accepts = λ past frame kept t e f facts fits earlier. accept_sends (is_primary_stop past.stop) past
      (waiting_of past (look_at past (tcp_in kept)) kept);
  is_full = λ past frame kept t e f facts fits earlier. same_sent past _ refl (releases_stopped past);
  answers = λ past frame b t e facts fits earlier. same_sent past _ refl (releases_stopped past);
  drops = λ past frame why t e facts fits earlier. same_sent past _ refl (releases_stopped past);
  loses = λ past frame t e f facts fits earlier. same_sent past _ refl (releases_stopped past);
  secondary_hears = λ past m ms e f g facts fits earlier. unreported past _ ToSecondary facts refl g;
  ignores = λ past m ms e f g running alone facts fits earlier. unreported past _ ToPrimary facts refl alone;
  primary_hears = λ past m ms e f running alone facts fits earlier. unreported past _ ToPrimary facts refl alone;
  primary_stops = λ past facts fits earlier e.
      absurd (true≢false (sym (earlier e) ∙ fits.stop refl));
  secondary_stops = λ past facts fits earlier e. absurd (true≢false (sym e));
  secondary_left = λ past e facts fits earlier. same_sent past _ refl (λ g. e);
  primary_left = λ past e facts fits earlier. left_sends past e;
  asks = λ past e f g facts fits earlier. running past _ refl f;
}
