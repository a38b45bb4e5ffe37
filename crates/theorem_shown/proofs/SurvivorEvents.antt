-- What a survivor keeps, and shows, in an event after which it releases: what it kept before, and at the report what
-- the secondary kept; and each SYN that goes out has the number that is kept then for the client that is current.
use Rattle.std.proofs.Common.{◌≡◌, ℕ, Bool, true, false, ◌&&◌, ◌||◌, if◌then◌else◌, List, [], ◌∷◌, ◌++◌, map, Option, None, Some, refl, sym, ap, subst, ◌∙◌, All, get_or, true≢false}
use Rattle.std.specs.List.{filter_map}
use Rattle.std.specs.Option.{option_map}
use Rattle.std.proofs.lemmas.Bool.{and_parts}
use Rattle.std.proofs.lemmas.List.Elements.{All-nil}
use Rattle.inet_frame.specs.Counted.{tcp_in}
use Rattle.inet_frame.specs.Laws.{AreInRange}
use Rattle.inet_frame.specs.declared.tuple.Tuple.{Tuple}
use Rattle.tcp_track.specs.Lines.{Item, order, sent}
use Rattle.tcp_track.specs.Stands.{segments}
use Rattle.settle_rules.specs.Causes.{cause_of}
use Rattle.settle_rules.specs.Numbers.{KeptNumber}
use Rattle.settle_rules.specs.OwnFrames.{OwnFrames, no_own_frames, own_frames}
use Rattle.settle_rules.specs.Release.{Released}
use Rattle.settle_rules.specs.Settle.{Scene, settle}
use Rattle.frame_mirror.specs.declared.ring.Waiting.{Waiting}
use Rattle.state_wire.specs.Regular.{IsRegular}
use Rattle.colo_wire.specs.declared.messages.Message.{Message}
use Rattle.replay_log.specs.declared.lines.Line.{Line}
use Rattle.replay_log.specs.declared.lines.Line.TheVariants.{Primary, Secondary, Client, ToPrimary, ToSecondary, StopPrimary, Report}
use Rattle.replay_log.specs.declared.records.Answer.TheVariants.{Made, Reported}
use Rattle.pair_theorem.specs.Checkpoint.{capture}
use Rattle.pair_theorem.specs.ClientFrames.{trims_by}
use Rattle.pair_theorem.specs.Events.{Settling, accept_by, ended_by, look_at, numbers_of, outcome_with, primary_survives, raise_count, scene_of, secondary_survives, settle_event, survivor_ended, turn_primary, turn_secondary, turn_survivor, waiting_of}
use Rattle.pair_theorem.specs.FrameParts.{Syn, syn_of}
use Rattle.pair_theorem.specs.GuestTurns.{TurnMade, turn_from}
use Rattle.pair_theorem.specs.Log.{is_report}
use Rattle.pair_theorem.specs.Past.{Outcome, Past, Start, Step, is_primary_stop, releasing_items, secondary_releases}
use Rattle.pair_theorem.specs.Places.{Place, places_after}
use Rattle.pair_theorem.proofs.EachHistory.{Fits, StopFacts, is_stopped}
use Rattle.pair_theorem.proofs.EventCases.{Cases, Claim, settled_case}
use Rattle.theorem_frames.proofs.BytesLemmas.{NumberFits, turn_of_bytes}
use Rattle.theorem_frames.proofs.ShapeLemmas.{IsOfBytes}
use Rattle.theorem_runs.proofs.Settled.{left_settled, primary_settled}
use Rattle.theorem_stands.specs.Numbered.{NumbersAreKept}
use Rattle.theorem_stands.proofs.NumberedEvents.{turn_items, when_survivor}
use Rattle.theorem_symbols.proofs.ReleaseEvents.{clients_are}
use Rattle.theorem_numbers.proofs.SynEvents.{same_kept, settles}
use Rattle.theorem_numbers.proofs.SynLemmas.{HasNumber, SynIsKept}
use Rattle.theorem_survivor.proofs.EventNews.{own_keeps}
use Rattle.theorem_survivor.proofs.HadLemmas.{KeepsAll}
use Rattle.theorem_survivor.proofs.NewsLemmas.{all_found, news, syn_facts}
use Rattle.theorem_survivor.proofs.SurviveNews.{IsKeptFor, survive_shows}

-- from what the survivor kept, or the secondary where none was reported
pub record IsSurvivor (a : Start) (released : List Released) (past : Past) (o : Outcome) : Type 0 where
  pub mine : secondary_releases past ≡ true → KeepsAll past.numbers o.after.numbers
  pub theirs : secondary_releases past ≡ false → KeepsAll past.secondary_numbers o.after.numbers
  pub syns : All (IsKeptFor o.after.numbers) (news a o.after released o.step.released)

pub record SurvivorGrounds (a : Start) (past : Past) (x : Line) (after : Past) : Type 0 where
  pub bytes : IsOfBytes a.kind past
  pub kept : NumbersAreKept past
  pub facts : StopFacts past x after
  pub fits : Fits past x
  pub stopped : past.is_reported ≡ true → is_stopped past.stop ≡ true

-- where the survivor releases after the event
abbrev pub SurvivorOf : Start → Claim
SurvivorOf a past x o =
    (released : List Released) → SurvivorGrounds a past x o.after → secondary_releases o.after ≡ true
    → IsSurvivor a released past o

-- A SYN OF THE NUMBER that is kept
kept_syns : (numbers : List KeptNumber) (ps : List Place) → All (SynIsKept numbers) ps
    → All (IsKeptFor numbers) (filter_map syn_of ps)
kept_syns numbers ps h = all_found (IsKeptFor numbers) syn_of ps (λ k d l x e. by (get_or ps k d) x e (h k d l))
  where
    by : (p : Place) (x : Syn) → syn_of p ≡ Some x → SynIsKept numbers p → IsKeptFor numbers x
    by p x e kept =
        let f = syn_facts p x e in
        subst (λ (y : Tuple × ℕ). HasNumber numbers y.0 x.client y.1) (λ i. (f.tuple i, f.number i))
        (kept f.flag x.client f.client)

-- NOTHING IS SHOWN
still : (a : Start) (released : List Released) (past : Past) (o : Outcome) → secondary_releases past ≡ true
    → o.after.numbers ≡ past.numbers → news a o.after released o.step.released ≡ []
    → IsSurvivor a released past o
still a released past o e same none = record {
  mine = λ f. subst (KeepsAll past.numbers) (sym same) (λ t client number h. h);
  theirs = λ f. absurd (true≢false (sym e ∙ f));
  syns = subst (All (IsKeptFor o.after.numbers)) (sym none) (All-nil (IsKeptFor o.after.numbers));
}

-- NO SURVIVOR RELEASES where the primary runs, or no stop is reported
running : (X : Type 0) (new : Past) → is_primary_stop new.stop ≡ false → secondary_releases new ≡ true → X
running X new f e = absurd (true≢false (sym (and_parts (is_primary_stop new.stop) new.is_reported e).0 ∙ f))

unreported : (X : Type 0) (old new : Past) (x : Line) → StopFacts old x new → is_report x ≡ false
    → old.is_reported ≡ false → secondary_releases new ≡ true → X
unreported X old new x facts f alone e =
    absurd (true≢false (sym (and_parts (is_primary_stop new.stop) new.is_reported e).1
    ∙ (facts.report ∙ (λ i. alone i || f i))))

-- A TURN
turned : (a : Start) (released : List Released) (past : Past) (l : Line) (made : TurnMade)
    → secondary_releases past ≡ true → All NumberFits past.numbers → All AreInRange (segments made.output)
    → made.run.items ≡ past.secondary.items ++ map sent (segments made.output) → NumbersAreKept past
    → IsSurvivor a released past (turn_survivor past l made)
unfolding turn_survivor survivor_ended settle_event ended_by own_frames
turned a released past l made e fit own items kept =
    settled_case (IsSurvivor a released past) l [] None (Made made.index) (settle_event p x)
    (λ none. (record {
      mine = λ f. own_keeps begin x.own;
      theirs = λ f. absurd (true≢false (sym e ∙ f));
      syns = kept_syns after.numbers (places_after a after released (settle_event p x).out)
          (settles a p released after.numbers x after fit own
          (when_survivor (secondary_releases past) past.secondary.items past.primary.items past.numbers past.progress e
          kept) is (λ t o f. same_kept after.numbers t o.client));
    }))
    (λ why some. absurd (cc (sym (ap (λ (b : Bool). if b then None
    else cause_of scene (order frames.items) (settle scene (order frames.items) frames.progress).progress) reported)
    ∙ some)))
  where
    p : Past
    p = record past {
      secondary = made.run;
      secondary_inbox = made.inbox;
      secondary_turned = raise_count past.secondary_turned;
    }

    x : Settling
    x = record { before = past.secondary.items; own = segments made.output; restarts = []; is_turn = true }

    begin : OwnFrames
    begin = no_own_frames x.before p.numbers p.progress

    frames : OwnFrames
    frames = own_frames x.before p.numbers p.progress x.own

    scene : Scene
    scene = scene_of p frames x

    after : Past
    after = (settle_event p x).after

    reported : past.is_reported ≡ true
    reported = (and_parts (is_primary_stop past.stop) past.is_reported e).1

    is : releasing_items p ≡ past.secondary.items ++ map sent (segments made.output)
    is = ap (λ (b : Bool). if b then made.run.items else past.primary.items) e ∙ items

-- A FRAME
accepted : (b : Bool) (a : Start) (released : List Released) (past : Past) (w : Waiting) (o : Outcome)
    → secondary_releases past ≡ true → o.after ≡ accept_by b past w (trims_by w) → o.step.released ≡ []
    → IsSurvivor a released past o
unfolding accept_by places_after
accepted b a released past w o e is none = still a released past o e (ap (λ (p : Past). p.numbers) is ∙ by b)
    (ap (λ (rs : List Released). news a o.after released rs) none)
  where
    by : (c : Bool) → (accept_by c past w (trims_by w)).numbers ≡ past.numbers
    by true = refl
    by false = refl

accepted_by : (b : Bool) (past : Past) (w : Waiting)
    → secondary_releases (accept_by b past w (trims_by w)) ≡ true → secondary_releases past ≡ true
unfolding accept_by
accepted_by true past w e = e
accepted_by false past w e = e

-- THE REPORT
survived : (a : Start) (released : List Released) (past : Past) → is_primary_stop past.stop ≡ true
    → past.is_reported ≡ false → IsOfBytes a.kind past → IsSurvivor a released past (secondary_survives past)
unfolding secondary_survives
survived a released past e alone bytes =
    let items = past.secondary.items in
    let after = (secondary_survives past).after in
    let is : releasing_items after ≡ items =
    ap (λ (b : Bool). if b && true then past.secondary.items else past.primary.items) e in
    let all = survive_shows a after released items past.secondary_numbers bytes.told bytes.secondary.items
    (clients_are after items is) in
    record {
      mine = λ f. absurd (true≢false (sym f ∙ (λ i. e i && alone i)));
      theirs = λ f. all.keeps;
      syns = all.syns;
    }

-- EVERY EVENT
pub survivor_cases : (a : Start) → IsRegular a.kind → Cases a.kind a.stream (SurvivorOf a)
unfolding turn_secondary capture places_after
survivor_cases a regular = record {
  idle = λ past x e f released g now. still a released past _ now refl refl;
  primary_turn =
      λ past d i b n e f released g.
      let made = turn_from a.kind past.primary past.primary_inbox i (numbers_of d b n) in
      let X = IsSurvivor a released past (turn_primary past (Primary d i b n) made) in
      primary_settled (λ step after. secondary_releases after ≡ true → X) past d i b n made
      (λ out ns ps new. running X past e) (λ out ns ps new why alone. running X past e);
  secondary_turn = λ past d i b n e f released g now. absurd (true≢false (sym now ∙ f));
  survivor_turn =
      λ past d i b n e released g now. turned a released past (Secondary d i b n)
      (turn_from a.kind past.secondary past.secondary_inbox i (numbers_of d b n)) e g.bytes.numbers
      (turn_of_bytes a.kind past.secondary past.secondary_inbox i (numbers_of d b n) regular g.bytes.secondary).own
      (turn_items a.kind past.secondary past.secondary_inbox i (numbers_of d b n)) g.kept;
  accepts =
      λ past frame kept t e f released g now.
      let w = waiting_of past (look_at past (tcp_in kept)) kept in
      accepted (is_primary_stop past.stop) a released past w _ (accepted_by (is_primary_stop past.stop) past w now) refl
      refl;
  is_full = λ past frame kept t e f released g now. still a released past _ now refl refl;
  answers = λ past frame b t e released g now. still a released past _ now refl refl;
  drops = λ past frame why t e released g now. still a released past _ now refl refl;
  loses = λ past frame t e f released g now. still a released past _ now refl refl;
  secondary_hears = λ past m ms e f alone released g. unreported _ past _ ToSecondary g.facts refl alone;
  ignores = λ past m ms e f here alone run released g. unreported _ past _ ToPrimary g.facts refl run;
  primary_hears = λ past m ms e f here alone released g. unreported _ past _ ToPrimary g.facts refl alone;
  primary_stops =
      λ past released g now.
      let reported = (and_parts true past.is_reported now).1 in
      absurd (true≢false (sym (g.stopped reported) ∙ g.fits.stop refl));
  secondary_stops = λ past released g now. absurd (true≢false (sym now));
  secondary_left = λ past e released g now. survived a released past e (g.fits.report refl) g.bytes;
  primary_left =
      λ past e released g.
      let X = IsSurvivor a released past (outcome_with Report [] None Reported (primary_survives past)) in
      left_settled (λ step after. secondary_releases after ≡ true → X) past
      (λ out ns ps new f. absurd (true≢false (sym (and_parts (is_primary_stop past.stop) true f).0 ∙ e)));
  asks = λ past e f h released g. running _ past f;
}
