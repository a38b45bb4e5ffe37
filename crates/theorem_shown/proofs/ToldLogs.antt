-- Until a report the secondary could go on with each SYN that was shown: its number is one that the secondary has, or
-- its client was left by what is known of the secondary.
use Rattle.std.proofs.Common.{◌≡◌, ◌⊎◌, inl, inr, Bool, true, false, List, [], ◌∷◌, ◌++◌, append-nil, refl, sym, ap, subst, ◌∙◌, All, true≢false}
use Rattle.std.proofs.Math.Bool.{or-true}
use Rattle.std.proofs.lemmas.List.Elements.{All-weaker}
use Rattle.std.proofs.lemmas.List.Folds.{list_any-append}
use Rattle.std.specs.List.{AllByRecursion, list_any}
use Rattle.inet_frame.specs.Fields.{TcpFields}
use Rattle.tcp_track.specs.Lines.{sent_of}
use Rattle.settle_rules.specs.Numbers.{KeptNumber}
use Rattle.colo_wire.specs.declared.messages.Message.{Message}
use Rattle.colo_wire.specs.declared.messages.Message.TheVariants.{Ack}
use Rattle.replay_log.specs.declared.lines.Line.{Line}
use Rattle.pair_theorem.specs.Events.{is_ack_message, outcome_of}
use Rattle.pair_theorem.specs.FrameParts.{Syn, syns}
use Rattle.pair_theorem.specs.LogParts.{is_captured}
use Rattle.pair_theorem.specs.Past.{Outcome, Past, Start, Step, first_past}
use Rattle.pair_theorem.specs.Starts.{IsStart}
use Rattle.pair_theorem.proofs.EachHistory.{Fits, Reached, begins, goes}
use Rattle.pair_theorem.proofs.EventCases.{each_case}
use Rattle.theorem_runs.specs.Links.{IsComing, IsPaused, IsReply, OneCheckpoint, calm, coming, going, put}
use Rattle.theorem_runs.proofs.Checkpoints.{beside_frames, one_checkpoint}
use Rattle.theorem_runs.proofs.Orders.{beside_no_end}
use Rattle.theorem_runs.proofs.Pausing.{is_paused}
use Rattle.theorem_splices.specs.Known.{IsFrontOf, KnowsSecondary, after_ack, has_ack, segments_on}
use Rattle.theorem_splices.specs.Numbers.{AgreeOnNumbers, numbers_on, plain_numbers}
use Rattle.theorem_splices.proofs.KnownLemmas.{known_holds}
use Rattle.theorem_splices.proofs.KnownSteps.{replies_hold_no_ack}
use Rattle.theorem_splices.proofs.NumberLinks.{frames_hold_no_number}
use Rattle.theorem_stands.proofs.NumberedEvents.{not_yet}
use Rattle.theorem_numbers.proofs.ClientLemmas.{has_client, last_client}
use Rattle.theorem_numbers.proofs.NumberLogs.{AllShown, IsNew, all_shown, first_shown}
use Rattle.theorem_survivor.proofs.EventNews.{Goes, IsFirst, KnownFrom, WasShown, commits, knows_more, knows_own, quiet, settles}
use Rattle.theorem_survivor.proofs.HadEvents.{agree_reached}
use Rattle.theorem_survivor.proofs.HadLemmas.{KeepsAll, plain_keeps}
use Rattle.theorem_survivor.proofs.SinceLogs.{event_news, goes_reached, syns_push, unreported}
use Rattle.theorem_joins.proofs.Histories.{of_history}
use Rattle.theorem_shown.proofs.ShownLemmas.{IsOldOrNew, front_on, more_shown, same_front, shown_goes_on}
use Rattle.theorem_shown.proofs.WaitEvents.{IsWaiting, WaitsOn, wait_cases}

-- What was shown, of a front of what the secondary sent, which is one of what is known of it where no checkpoint is
-- awaited.
pub record IsTold (past : Past) (shown : List Syn) : Type 0 where
  pub said : List TcpFields
  pub front : IsFrontOf said (sent_of past.secondary.items)
  pub known : past.awaits_ack ≡ false → IsFrontOf said (sent_of past.known_items)
  pub all : AllShown past.secondary_numbers said shown

all_kept : (numbers : List KeptNumber) → KeepsAll numbers numbers
all_kept numbers t client number h = h

-- WHERE A COMMIT IS UNHEARD OF the secondary goes on from where the primary is
coming_ack : (past : Past) (before later : List Message) → IsComing past before later
    → has_ack past.to_primary ≡ true
coming_ack past before later g =
    (λ i. has_ack (g.up i)) ∙ (list_any-append is_ack_message before (Ack past.captures ∷ later)
    ∙ or-true (has_ack before))

coming_keeps : (past : Past) (before later : List Message) → IsComing past before later → IsPaused past
    → AgreeOnNumbers past → past.is_reported ≡ false → KeepsAll past.numbers past.secondary_numbers
coming_keeps past before later g at agree alone =
    let theirs = past.secondary_numbers in
    let endless = beside_no_end past.to_secondary (beside_frames past.to_secondary g.down) in
    let all : theirs ++ numbers_on past.to_secondary ≡ theirs =
    ap (λ (ks : List KeptNumber). theirs ++ ks) (frames_hold_no_number past.to_secondary g.down)
    ∙ append-nil theirs in
    plain_keeps past.numbers theirs
    (ap plain_numbers at.numbers ∙ (sym ((agree alone).coming g.awaits endless) ∙ ap plain_numbers all))

coming_told : (past : Past) (shown : List Syn) (before later : List Message) → IsComing past before later
    → IsPaused past → AgreeOnNumbers past → KnowsSecondary past → past.is_reported ≡ false
    → AllShown past.numbers (sent_of past.primary.items) shown → IsTold past shown
coming_told past shown before later g at agree knows alone h =
    let mine = sent_of past.primary.items in
    let own = segments_on (after_ack past.to_primary) in
    record {
      said = mine;
      front = (
        own,
        sym ((knows alone).copied (coming_ack past before later g))
            ∙ ap (λ (xs : List TcpFields). xs ++ own) (sym at.said),
      );
      known = λ e. absurd (true≢false (sym g.awaits ∙ e));
      all = shown_goes_on past.numbers past.secondary_numbers mine mine shown (same_front mine mine refl)
          (coming_keeps past before later g at agree alone) h;
    }

-- THE SYNS OF AN EVENT are of numbers that the secondary has
fresh_syns : (theirs : List KeptNumber) (known : List TcpFields) (shown new : List Syn)
    → All (λ (x : Syn). WasShown theirs shown x ⊎ IsFirst theirs known x) new
    → All (IsOldOrNew theirs known shown) new
fresh_syns theirs known shown new h =
    All-weaker (λ (x : Syn). WasShown theirs shown x ⊎ IsFirst theirs known x) (IsOldOrNew theirs known shown) by new h
  where
    by : (x : Syn) → WasShown theirs shown x ⊎ IsFirst theirs known x → IsOldOrNew theirs known shown x
    by x (inl was) = inl was.1
    by x (inr first) =
        inr (record {
          holds = record {
            opened = ap (has_client x.client) first.1.all ∙ last_client x.client first.1.front;
            status = inl first.0;
          };
          current = first.1;
        })

-- of a past that is reached, until a report
record Basis (past : Past) (shown : List Syn) : Type 0 where
  one : OneCheckpoint past
  paused : past.awaits_ack ≡ true → IsPaused past
  agree : AgreeOnNumbers past
  knows : KnowsSecondary past
  alone : past.is_reported ≡ false
  mine : AllShown past.numbers (sent_of past.primary.items) shown

basis : (a : Start) → IsStart a → (steps : List Step) (past : Past) → Reached Fits a steps past
    → past.is_reported ≡ false → Basis past (syns a steps)
basis a start steps past r alone = record {
  one = one_checkpoint Fits a steps past r;
  paused = is_paused a steps past r;
  agree = agree_reached a start steps past r;
  knows = of_history a (λ xs p. KnowsSecondary p) (known_holds a) steps past r;
  alone = alone;
  mine = all_shown a start steps past r (not_yet past alone);
}

-- an event that settles while a checkpoint is awaited hears its acknowledgement
own_held : (old : Past) (o : Outcome) (shown : List Syn) → Basis old shown → old.awaits_ack ≡ true
    → (has_ack old.to_primary ≡ false → IsWaiting o) → list_any is_captured o.step.entry.marks ≡ o.after.awaits_ack
    → AllShown old.secondary_numbers (sent_of old.primary.items) shown
own_held old o shown b awaits waits captured = by b.one
  where
    mine : List TcpFields
    mine = sent_of old.primary.items

    Goal : Type 0
    Goal = AllShown old.secondary_numbers mine shown

    no_reply : AllByRecursion IsReply old.to_primary → Goal
    no_reply up =
        let w = waits (replies_hold_no_ack old.to_primary up) in
        absurd (true≢false (sym w.1 ∙ (sym captured ∙ w.0)))

    by : OneCheckpoint old → Goal
    by (calm k) = absurd (true≢false (sym awaits ∙ k.awaits))
    by (put before later k) = no_reply k.up
    by (going told rest later k) = no_reply k.up
    by (coming before later k) =
        shown_goes_on old.numbers old.secondary_numbers mine mine shown (same_front mine mine refl)
        (coming_keeps old before later k (b.paused awaits) b.agree b.alone) b.mine

unheard_told : (old : Past) (o : Outcome) (shown new : List Syn) → Basis old shown
    → IsFrontOf (sent_of o.after.known_items) (sent_of o.after.secondary.items)
    → (old.awaits_ack ≡ true → has_ack old.to_primary ≡ false → IsWaiting o) → IsTold old shown
    → Goes shown old o.step o.after new → IsTold o.after (shown ++ new)
unheard_told old o shown new b front waits h (quiet none q) =
    let said = h.said in
    subst (IsTold o.after) (sym (ap (λ (xs : List Syn). shown ++ xs) none ∙ append-nil shown)) (record {
      said = said;
      front = front_on said (sent_of old.secondary.items) (sent_of o.after.secondary.items) h.front q.said;
      known = λ e. subst (IsFrontOf said) (sym q.known) (h.known (sym q.awaits ∙ e));
      all = shown_goes_on old.secondary_numbers o.after.secondary_numbers said said shown (same_front said said refl)
          q.theirs h.all;
    })
unheard_told old o shown new b front waits h (commits none c) =
    subst (IsTold o.after) (sym (ap (λ (xs : List Syn). shown ++ xs) none ∙ append-nil shown)) (record {
      said = sent_of old.primary.items;
      front = same_front (sent_of old.primary.items) (sent_of o.after.secondary.items) c.said;
      known = λ e. absurd (true≢false (sym c.awaits ∙ e));
      all = subst (λ (ks : List KeptNumber). AllShown ks (sent_of old.primary.items) shown) (sym c.theirs) b.mine;
    })
unheard_told old o shown new b front waits h (settles s) = record {
  said = known;
  front = front;
  known = λ e. same_front known known refl;
  all = more_shown theirs known shown new (by s.known) (fresh_syns theirs known shown new s.syns);
}
  where
    known : List TcpFields
    known = sent_of o.after.known_items

    theirs : List KeptNumber
    theirs = o.after.secondary_numbers

    keeps : KeepsAll old.secondary_numbers theirs
    keeps = subst (KeepsAll old.secondary_numbers) (sym s.theirs) (all_kept old.secondary_numbers)

    by : KnownFrom old o.after → AllShown theirs known shown
    by (knows_more free grows) =
        shown_goes_on old.secondary_numbers theirs h.said known shown
        (front_on h.said (sent_of old.known_items) known (h.known free) grows) keeps h.all
    by (knows_own awaits is) =
        let mine = sent_of old.primary.items in
        shown_goes_on old.secondary_numbers theirs mine known shown (same_front mine known is) keeps
        (own_held old o shown b awaits (waits awaits) s.captured)

told_after : (old : Past) (o : Outcome) (shown new : List Syn) → Basis old shown → Basis o.after (shown ++ new)
    → (old.awaits_ack ≡ true → has_ack old.to_primary ≡ false → IsWaiting o) → IsTold old shown
    → Goes shown old o.step o.after new → IsTold o.after (shown ++ new)
told_after old o shown new b c waits h g = by c.one
  where
    unheard : AllByRecursion IsReply o.after.to_primary → IsTold o.after (shown ++ new)
    unheard up =
        unheard_told old o shown new b ((c.knows c.alone).front (replies_hold_no_ack o.after.to_primary up)) waits h g

    by : OneCheckpoint o.after → IsTold o.after (shown ++ new)
    by (calm k) = unheard k.up
    by (put before later k) = unheard k.up
    by (going told rest later k) = unheard k.up
    by (coming before later k) =
        coming_told o.after (shown ++ new) before later k (c.paused k.awaits) c.agree c.knows c.alone c.mine

-- EVERY HISTORY
first_told : (a : Start) → IsStart a → IsTold (first_past a) (syns a [])
first_told a start =
    let said = sent_of a.items in
    record {
      said = said;
      front = same_front said said refl;
      known = λ e. same_front said said refl;
      all = first_shown a start;
    }

one_more_told : (a : Start) → IsStart a → (steps : List Step) (past : Past) (x : Line) → Reached Fits a steps past
    → Fits past x → past.is_reported ≡ false → (outcome_of a.kind a.stream past x).after.is_reported ≡ false
    → IsTold past (syns a steps)
    → IsTold (outcome_of a.kind a.stream past x).after (syns a (steps ++ (outcome_of a.kind a.stream past x).step ∷ []))
one_more_told a start steps past x r fits before alone h =
    let o = outcome_of a.kind a.stream past x in
    let more = syns_push a steps past x r in
    let waits = each_case a.kind a.stream WaitsOn (wait_cases a.kind a.stream) past x alone in
    let later = basis a start (steps ++ o.step ∷ []) o.after (goes steps past x r fits) alone in
    subst (IsTold o.after) (sym more)
    (told_after past o (syns a steps) (event_news a steps past x) (basis a start steps past r before)
    (subst (Basis o.after) more later) waits h (goes_reached a start steps past x r alone))

pub told_reached : (a : Start) → IsStart a → (steps : List Step) (past : Past) → Reached Fits a steps past
    → past.is_reported ≡ false → IsTold past (syns a steps)
told_reached a start steps past begins alone = first_told a start
told_reached a start steps past (goes before old x r fits) alone =
    let earlier = unreported a old x alone in
    one_more_told a start before old x r fits earlier alone (told_reached a start before old r earlier)
