-- The primary hears a message.
use Rattle.std.proofs.Common.{◌≡◌, ℕ, ◌+◌, ◌&&◌, ◌||◌, not, Bool, true, false, List, [], ◌∷◌, ◌++◌, append-nil, length, map, None, Some, is_some, refl, sym, ap, subst, ◌∙◌, true≢false, Ok, Err}
use Rattle.std.specs.Prelude.{if◌then◌else◌}
use Rattle.std.proofs.lemmas.Bool.{and_parts, cond_both, cond-true, eq-eqb, not-true, or_parts}
use Rattle.inet_frame.specs.Counted.{counted}
use Rattle.inet_frame.specs.declared.tuple.Tuple.{Tuple}
use Rattle.tcp_track.specs.Lines.{Item, sent}
use Rattle.tcp_track.specs.Stands.{segments}
use Rattle.settle_rules.specs.Numbers.{KeptNumber, learn_all, learn_number}
use Rattle.settle_rules.specs.OwnFrames.{own_frames}
use Rattle.settle_rules.specs.Progress.{ProgressTable, clear_ages}
use Rattle.state_wire.specs.Guest.{Kind}
use Rattle.colo_wire.specs.Kinds.{number_of_kind}
use Rattle.colo_wire.specs.Spelling.{kind_of, message_bytes}
use Rattle.colo_wire.specs.declared.answers.HearFault.TheVariants.{NotDue}
use Rattle.colo_wire.specs.declared.messages.Message.{Message}
use Rattle.colo_wire.specs.declared.messages.Message.TheVariants.{Frame, Number, Begin, State, Page, Disk, Write, Held, Bytes, End, Known, Sent, Ack}
use Rattle.colo_wire.specs.declared.messages.Message.TheVariants as message
use Rattle.replay_log.specs.declared.lines.Line.TheVariants.{ToPrimary}
use Rattle.replay_log.specs.declared.records.Answer.TheVariants.{HeardBack, Nothing}
use Rattle.replay_log.specs.declared.records.Mark.TheVariants.{Acknowledged}
use Rattle.node_primary.specs.Answers as primary
use Rattle.node_primary.specs.Steps.{is_due, primary_hear, settle_node}
use Rattle.node_secondary.specs.Survivor.{Second, alone, hears}
use Rattle.out_compare.specs.Comparing.{Comparing, acknowledge as acknowledge_tables, learn, take_heard}
use Rattle.pair_core.specs.Events as core
use Rattle.pair_core.specs.Events.{hears_back_with, primary_hears}
use Rattle.pair_core.specs.Pair.{Pair, is_primary, sent_down}
use Rattle.pair_theorem.specs.Events as theirs
use Rattle.pair_theorem.specs.Events.{ack_ended, acknowledge, committed_items, deliver_up, ended_by, is_ack_message, known_ended, outcome_of, outcome_with, restarts_in, sent_ended, settle_event}
use Rattle.pair_theorem.specs.LogParts.{delivered_bytes}
use Rattle.pair_theorem.specs.Messages.{number_of}
use Rattle.pair_theorem.specs.Past.{Outcome, Past, is_primary_stop, silently}
use Rattle.pair_theorem.proofs.MessageCases.{heard_back_case, is_foreign}
use Rattle.compare_history.specs.Books.{primary_books}
use Rattle.compare_history.specs.Laws.{EndsAs}
use Rattle.compare_history.proofs.EventLemmas as comparer
use Rattle.theorem_runs.specs.Links.{IsReply, OneCheckpoint}
use Rattle.theorem_runs.specs.Runs.{has_end}
use Rattle.theorem_runs.proofs.Checkpoints.{HeardBackFirst, ack_calm, acks, pop_up, replies, reply_calm}
use Rattle.theorem_runs.proofs.Orders.{beside_no_end, told_no_end}
use Rattle.pair_history.specs.Due.{Due}
use Rattle.pair_history.specs.Standing.{SecondStands, Stands}
use Rattle.pair_history.proofs.EndLemmas.{Ends, ends_alike}
use Rattle.pair_history.proofs.Flags.{both_branches, primary_flag, releases_reported}
use Rattle.pair_history.proofs.Goes.{Goes, idle, nothing_sent}
use Rattle.pair_history.proofs.Written.{primary_pair, primary_pair_is}

-- A MESSAGE THAT IS DUE
abbrev heard_due : Pair → Message → core.Outcome
heard_due w m =
    let told = primary.told_of w.first m in
    let e = primary_hear w.first m in
    let heard = core.counts_on w.first.awaits told w.sent_heard in
    record {
      after = sent_down (record w { first = e.after; sent_heard = heard });
      answer = HeardBack told.kind heard (length e.out);
      marks = core.told_marks told;
      released = e.out;
      wire = core.arrow_up ∷ message_bytes m;
    }

due_heard : (w : Pair) (m : Message) → is_due w.first m ≡ true → primary_hears w m ≡ heard_due w m
unfolding primary_hears hears_back_with
due_heard w m e =
    let told = primary.told_of w.first m in
    let heard = core.counts_on w.first.awaits told w.sent_heard in
    ap (λ (a : primary.Answer). hears_back_with w m a)
    (cond-true (is_due w.first m) (Ok told) (Err (NotDue (number_of_kind (kind_of m)))) e)
    ∙ (λ i. record {
      after = sent_down (record w {
        first = if e i then (primary_hear w.first m).after else w.first;
        sent_heard = heard;
      });
      answer = HeardBack told.kind heard (length (if e i then (primary_hear w.first m).out else []));
      marks = core.told_marks told;
      released = if e i then (primary_hear w.first m).out else [];
      wire = core.arrow_up ∷ message_bytes m;
    })

-- AN EVENT WITHOUT FRAMES of the primary's own
abbrev base_with : Past → List Item → List Item → List KeptNumber → ProgressTable → Bool → ℕ → Past
base_with p items known numbers progress rests heard = record p {
  primary = record p.primary { items = items };
  known_items = known;
  numbers = numbers;
  progress = progress;
  awaits_ack = rests;
  sent_heard = heard;
}

abbrev settled : Past → List Item → List Tuple → theirs.Ended
settled base items restarts =
    settle_event base (record { before = items; own = []; restarts = restarts; is_turn = false })

abbrev heard_pair : Kind → List (List ℕ) → Past → Bool → Pair → Comparing → ℕ → Pair
heard_pair kind stream p awaits w x heard =
    let v = primary_pair kind stream p awaits false w in
    record v { first = record v.first { comparing = x; awaits = false }; sent_heard = heard }

second_still : (kind : Kind) (p : Past) (items known : List Item) (numbers : List KeptNumber) (progress : ProgressTable)
    (rests : Bool) (heard : ℕ) (restarts : List Tuple) (s : Second) → p.is_reported ≡ false → SecondStands kind p s
    → SecondStands kind (settled (base_with p items known numbers progress rests heard) items restarts).after s
unfolding settle_event ended_by own_frames
second_still kind p items known numbers progress rests heard restarts (hears n) together s = (
  s.0,
  record {
    inbox = s.1.inbox;
    lines = s.1.lines;
    numbers = s.1.numbers;
    waits = s.1.waits;
    due = subst (λ (c : Bool). Due kind p.copy p.captures n.committed n.under_way
        (if c then p.to_secondary else p.to_secondary ++ [])) (sym together)
        (subst (λ (ms : List Message). Due kind p.copy p.captures n.committed n.under_way ms)
        (sym (append-nil p.to_secondary)) s.1.due);
  },
)
second_still kind p items known numbers progress rests heard restarts (alone n) together s =
    absurd (true≢false (sym (releases_reported p s.0) ∙ together))

still_ends : (kind : Kind) (stream : List (List ℕ)) (p : Past) (awaits : Bool) (w : Pair) (items known : List Item)
    (numbers : List KeptNumber) (progress : ProgressTable) (rests : Bool) (heard : ℕ) (restarts : List Tuple)
    (x : Comparing) → Stands kind stream p (primary_pair kind stream p awaits false w) → is_primary w.stopped ≡ false
    → p.is_reported ≡ false → has_end p.to_secondary ≡ false → rests ≡ false
    → EndsAs (settled (base_with p items known numbers progress rests heard) items restarts) primary_books false x
    → Ends kind stream (settled (base_with p items known numbers progress rests heard) items restarts)
    (heard_pair kind stream p awaits w x heard) false
unfolding settle_event ended_by own_frames
still_ends kind stream p awaits w items known numbers progress rests heard restarts x h runs together none rest ends =
    let f = h.first runs in record {
      ends = ends;
      calm = record {
        frames = refl;
        next = refl;
        down = ap (λ (c : Bool). if c then p.to_secondary else p.to_secondary ++ []) (sym together);
        up = refl;
        sent_heard = refl;
        stop = h.stop;
        reported = refl;
        first_guest = refl;
        second_guest = h.second_guest;
        first = λ g. record {
          inbox = refl;
          room = f.room;
          accepted = f.accepted;
          compares = ends.after;
          captures = refl;
          awaits = sym rest;
          waits = refl;
        };
        second = λ g. second_still kind p items known numbers progress rests heard restarts w.second together
            (h.second g);
      };
      runs = runs;
      may = λ why e. record { together = together; no_end = told_no_end p [] [] [] none };
    }

-- A NUMBER that the secondary has
known_alike : (kind : Kind) (stream : List (List ℕ)) (p : Past) (w : Pair) (t : Tuple) (client number : ℕ)
    → Stands kind stream p (primary_pair kind stream p false false w) → is_primary w.stopped ≡ false
    → p.is_reported ≡ false → has_end p.to_secondary ≡ false → p.awaits_ack ≡ false
    → Goes kind stream
    (outcome_with ToPrimary [] (Some (Known t client number)) (HeardBack 12 p.sent_heard)
    (known_ended p t client number))
    (heard_due (primary_pair kind stream p false false w) (Known t client number))
unfolding known_ended settle_node delivered_bytes
known_alike kind stream p w t client number h runs together none rest =
    let x = learn (primary_pair kind stream p false false w).first.comparing t client number in
    ends_alike kind stream ToPrimary [] (Some (Known t client number)) (HeardBack 12 p.sent_heard)
    (known_ended p t client number) (heard_pair kind stream p false w x p.sent_heard) false
    (still_ends kind stream p false w p.primary.items p.known_items (learn_number p.numbers t client number) p.progress
    p.awaits_ack p.sent_heard [] x h runs together none rest
    (comparer.hears_known p t client number (primary_pair kind stream p false false w).first.comparing
    (h.first runs).compares))

-- A FRAME that its guest sent
sent_alike : (kind : Kind) (stream : List (List ℕ)) (p : Past) (w : Pair) (frame : List ℕ)
    → Stands kind stream p (primary_pair kind stream p false false w) → is_primary w.stopped ≡ false
    → p.is_reported ≡ false → has_end p.to_secondary ≡ false → p.awaits_ack ≡ false
    → Goes kind stream
    (outcome_with ToPrimary [] (Some (Sent frame)) (HeardBack 13 (p.sent_heard + 1)) (sent_ended p frame))
    (heard_due (primary_pair kind stream p false false w) (Sent frame))
unfolding sent_ended settle_node delivered_bytes
sent_alike kind stream p w frame h runs together none rest =
    let x = take_heard (primary_pair kind stream p false false w).first.comparing frame in
    let heard = segments (frame ∷ []) in
    ends_alike kind stream ToPrimary [] (Some (Sent frame)) (HeardBack 13 (p.sent_heard + 1))
    (sent_ended p frame) (heard_pair kind stream p false w x (p.sent_heard + 1)) false
    (still_ends kind stream p false w p.primary.items (p.known_items ++ map sent heard) p.numbers p.progress
    p.awaits_ack (p.sent_heard + 1) (restarts_in p.known_items heard) x h runs together none rest
    (comparer.hears_sent p frame (primary_pair kind stream p false false w).first.comparing together
    (h.first runs).compares))

-- THE ACKNOWLEDGEMENT that is awaited
ack_alike : (kind : Kind) (stream : List (List ℕ)) (p : Past) (w : Pair) (e : ℕ)
    → Stands kind stream p (primary_pair kind stream p true false w) → is_primary w.stopped ≡ false
    → p.is_reported ≡ false → has_end p.to_secondary ≡ false
    → Goes kind stream (outcome_with ToPrimary (Acknowledged e ∷ []) (Some (Ack e)) (HeardBack 14 0) (ack_ended p))
    (heard_due (primary_pair kind stream p true false w) (Ack e))
unfolding ack_ended settle_node delivered_bytes
ack_alike kind stream p w e h runs together none =
    let x = acknowledge_tables (primary_pair kind stream p true false w).first.comparing in
    ends_alike kind stream ToPrimary (Acknowledged e ∷ []) (Some (Ack e)) (HeardBack 14 0) (ack_ended p)
    (heard_pair kind stream p true w x 0) false
    (still_ends kind stream p true w (committed_items p) (committed_items p) (learn_all p.numbers)
    (clear_ages p.progress) false 0 [] x h runs together none refl
    (comparer.hears_ack p (primary_pair kind stream p true false w).first.comparing (h.first runs).compares))

-- WHAT COMES UP
not_foreign : (m : Message) → is_foreign m ≡ true → IsReply m → ⊥
not_foreign (Known t client number) f g = true≢false (sym f)
not_foreign (Sent frame) f g = true≢false (sym f)
not_foreign (Frame index seen trim frame) f g = g
not_foreign (Number t client number) f g = g
not_foreign (Begin n) f g = g
not_foreign (State bytes) f g = g
not_foreign (Page k bytes) f g = g
not_foreign (Disk first bytes) f g = g
not_foreign (Write k bytes) f g = g
not_foreign (Held index seen trim frame) f g = g
not_foreign (message.Line t mac flags client own number refused acked window mss base) f g = g
not_foreign (Bytes bytes) f g = g
not_foreign (End n) f g = g
not_foreign (Ack n) f g = g

no_foreign : (past : Past) (m : Message) (ms : List Message) → HeardBackFirst past m ms → is_foreign m ≡ true → ⊥
no_foreign past m ms (replies g one) f = not_foreign m f g
no_foreign past m ms (acks same g) f = true≢false (sym f ∙ ap is_foreign same)

counts_in : (past : Past) (m : Message) (ms : List Message) (frame : List ℕ) → HeardBackFirst past m ms
    → m ≡ Sent frame → is_some (counted frame) ≡ true
counts_in past m ms frame (replies g one) is = subst IsReply is g
counts_in past m ms frame (acks same g) is =
    absurd (true≢false (sym (ap is_ack_message same) ∙ ap is_ack_message is))

record Awaited (past : Past) (e : ℕ) : Type 0 where
  awaits : past.awaits_ack ≡ true
  number : e ≡ past.captures

ack_number : (a b : ℕ) → Ack a ≡ Ack b → a ≡ b
ack_number a b e = ap number_in e
  where
    number_in : Message → ℕ
    number_in (Ack n) = n
    number_in _ = 0

awaited : (past : Past) (m : Message) (ms : List Message) (e : ℕ) → HeardBackFirst past m ms → m ≡ Ack e
    → Awaited past e
awaited past m ms e (replies g one) is = absurd (subst IsReply is g)
awaited past m ms e (acks same g) is =
    record { awaits = g.awaits; number = ack_number e past.captures (sym is ∙ same) }

-- what is heard
pub heard_alike : (kind : Kind) (stream : List (List ℕ)) (past : Past) (w : Pair) (m : Message) (ms : List Message)
    → Stands kind stream (record past { to_primary = ms }) w → is_primary w.stopped ≡ false
    → past.is_reported ≡ false → (past.awaits_ack && not (is_ack_message m)) ≡ false → HeardBackFirst past m ms
    → Goes kind stream (theirs.primary_hears (record past { to_primary = ms }) m) (primary_hears w m)
heard_alike kind stream past w m ms h runs together idle first =
    heard_back_case (λ o. Goes kind stream o (primary_hears w m)) p m
    (λ t client number is.
    let c = reply_calm past m (Known t client number) ms is refl idle first in
    written false c.awaits m (Known t client number) is _ (λ g.
    subst (λ (o : core.Outcome). Goes kind stream (outcome_with ToPrimary [] (Some (Known t client number))
    (HeardBack 12 p.sent_heard) (known_ended p t client number)) o)
    (sym (due_heard (primary_pair kind stream p false false w) (Known t client number) refl))
    (known_alike kind stream p w t client number g runs together (beside_no_end p.to_secondary c.down) c.awaits)))
    (λ frame is.
    let c = reply_calm past m (Sent frame) ms is refl idle first in
    written false c.awaits m (Sent frame) is _ (λ g.
    subst (λ (o : core.Outcome). Goes kind stream (outcome_with ToPrimary [] (Some (Sent frame))
    (HeardBack 13 (p.sent_heard + 1)) (sent_ended p frame)) o)
    (sym (due_heard (primary_pair kind stream p false false w) (Sent frame) (counts_in past m ms frame first is)))
    (sent_alike kind stream p w frame g runs together (beside_no_end p.to_secondary c.down) c.awaits)))
    (λ e is.
    let c = ack_calm past m e ms is first in
    let a = awaited past m ms e first is in
    written true a.awaits m (Ack e) is _ (λ g.
    subst (λ (o : core.Outcome). Goes kind stream (outcome_with ToPrimary (Acknowledged e ∷ []) (Some (Ack e))
    (HeardBack 14 0) (ack_ended p)) o)
    (sym (due_heard (primary_pair kind stream p true false w) (Ack e) (eq-eqb e past.captures a.number)))
    (ack_alike kind stream p w e g runs together (beside_no_end p.to_secondary c.down))))
    (λ foreign. absurd (no_foreign past m ms first foreign))
  where
    p : Past
    p = record past { to_primary = ms }

    written : (awaits : Bool) → past.awaits_ack ≡ awaits → (m n : Message) → m ≡ n → (o : Outcome)
        → (Stands kind stream p (primary_pair kind stream p awaits false w)
        → Goes kind stream o (primary_hears (primary_pair kind stream p awaits false w) n))
        → Goes kind stream o (primary_hears w m)
    written awaits a m n is o by =
        subst (λ (k : Message). Goes kind stream o (primary_hears w k)) (sym is)
        (subst (λ (v : Pair). Stands kind stream p v → Goes kind stream o (primary_hears v n))
        (sym (primary_pair_is kind stream p awaits false w h (h.first runs) a together)) by h)

-- WHAT IS IGNORED while a checkpoint is awaited
ignored_due : (kind : Kind) (stream : List (List ℕ)) (p : Past) (w : Pair) (m : Message)
    → Stands kind stream p (primary_pair kind stream p true false w) → is_primary w.stopped ≡ false → IsReply m
    → Goes kind stream (silently p ToPrimary (HeardBack (number_of m) p.sent_heard 0) (Some m))
    (primary_hears (primary_pair kind stream p true false w) m)
unfolding delivered_bytes
ignored_due kind stream p w (Known t client number) h runs g =
    let v = primary_pair kind stream p true false w in
    subst (λ (o : core.Outcome). Goes kind stream
    (silently p ToPrimary (HeardBack 12 p.sent_heard 0) (Some (Known t client number))) o)
    (sym (due_heard v (Known t client number) refl)) (λ states rests. record {
      happens = record { answer = refl; marks = refl; released = refl; wire = refl };
      after = nothing_sent kind stream p v h (h.first runs);
    })
ignored_due kind stream p w (Sent frame) h runs g =
    let v = primary_pair kind stream p true false w in
    subst (λ (o : core.Outcome). Goes kind stream
    (silently p ToPrimary (HeardBack 13 p.sent_heard 0) (Some (Sent frame))) o)
    (sym (due_heard v (Sent frame) g)) (λ states rests. record {
      happens = record { answer = refl; marks = refl; released = refl; wire = refl };
      after = nothing_sent kind stream p v h (h.first runs);
    })
ignored_due kind stream p w (Frame index seen trim frame) h runs g = absurd g
ignored_due kind stream p w (Number t client number) h runs g = absurd g
ignored_due kind stream p w (Begin n) h runs g = absurd g
ignored_due kind stream p w (State bytes) h runs g = absurd g
ignored_due kind stream p w (Page k bytes) h runs g = absurd g
ignored_due kind stream p w (Disk first bytes) h runs g = absurd g
ignored_due kind stream p w (Write k bytes) h runs g = absurd g
ignored_due kind stream p w (Held index seen trim frame) h runs g = absurd g
ignored_due kind stream p w (message.Line t mac flags client own number refused acked window mss base) h runs g =
    absurd g
ignored_due kind stream p w (Bytes bytes) h runs g = absurd g
ignored_due kind stream p w (End n) h runs g = absurd g
ignored_due kind stream p w (Ack n) h runs g = absurd g

is_reply : (past : Past) (m : Message) (ms : List Message) → HeardBackFirst past m ms → is_ack_message m ≡ false
    → IsReply m
is_reply past m ms (replies g one) e = g
is_reply past m ms (acks same g) e = absurd (true≢false (sym (ap is_ack_message same) ∙ e))

ignored_alike : (kind : Kind) (stream : List (List ℕ)) (past : Past) (w : Pair) (m : Message) (ms : List Message)
    → Stands kind stream (record past { to_primary = ms }) w → is_primary w.stopped ≡ false
    → past.is_reported ≡ false → past.awaits_ack ≡ true → is_ack_message m ≡ false → HeardBackFirst past m ms
    → Goes kind stream (silently (record past { to_primary = ms }) ToPrimary (HeardBack (number_of m) past.sent_heard 0)
    (Some m)) (primary_hears w m)
ignored_alike kind stream past w m ms h runs together awaits none first =
    let p : Past = record past { to_primary = ms } in
    subst (λ (v : Pair). Stands kind stream p v → Goes kind stream
    (silently p ToPrimary (HeardBack (number_of m) p.sent_heard 0) (Some m)) (primary_hears v m))
    (sym (primary_pair_is kind stream p true false w h (h.first runs) awaits together))
    (λ g. ignored_due kind stream p w m g runs (is_reply past m ms first none)) h

-- THE LINK
popped : (kind : Kind) (stream : List (List ℕ)) (past : Past) (w : Pair) (ms : List Message)
    → Stands kind stream past w → Stands kind stream (record past { to_primary = ms }) (record w { up = ms })
popped kind stream past w ms h = record {
  frames = h.frames;
  next = h.next;
  down = h.down;
  up = refl;
  sent_heard = h.sent_heard;
  stop = h.stop;
  reported = h.reported;
  first_guest = h.first_guest;
  second_guest = h.second_guest;
  first = h.first;
  second = λ f. by w.second (h.second f);
}
  where
    by : (s : Second) → SecondStands kind past s → SecondStands kind (record past { to_primary = ms }) s
    by (hears n) s = s
    by (alone n) s = s

first_up : (kind : Kind) (stream : List (List ℕ)) (past : Past) (w : Pair) (ms : List Message)
    → Stands kind stream past w → OneCheckpoint past → is_primary w.stopped ≡ false → past.is_reported ≡ false
    → past.to_primary ≡ ms
    → Goes kind stream (deliver_up past ms)
    (core.deliver_with primary_hears w ms (λ xs. record w { up = xs }))
unfolding deliver_up
first_up kind stream past w [] h one runs together is = idle kind stream past ToPrimary w h
first_up kind stream past w (m ∷ ms) h one runs together is =
    let first = pop_up past m ms is one in
    let v : Pair = record w { up = ms } in
    let g = popped kind stream past w ms h in
    cond_both (past.awaits_ack && not (is_ack_message m))
    (silently (record past { to_primary = ms }) ToPrimary (HeardBack (number_of m) past.sent_heard 0) (Some m))
    (theirs.primary_hears (record past { to_primary = ms }) m) (λ o. Goes kind stream o (primary_hears v m))
    (λ f. let parts = and_parts past.awaits_ack (not (is_ack_message m)) f in
    ignored_alike kind stream past v m ms g runs together parts.0 (not-true (is_ack_message m) parts.1) first)
    (λ f. heard_alike kind stream past v m ms g runs together f first)

pub up_alike : (kind : Kind) (stream : List (List ℕ)) (past : Past) (w : Pair) → Stands kind stream past w
    → OneCheckpoint past → Goes kind stream (outcome_of kind stream past ToPrimary) (core.event_of w ToPrimary)
unfolding outcome_of
up_alike kind stream past w h one =
    both_branches (λ o c. Goes kind stream o c) (is_primary_stop past.stop || past.is_reported)
    (is_primary w.stopped || w.is_reported) (silently past ToPrimary Nothing None) (deliver_up past past.to_primary)
    (core.nothing w) (core.deliver_with primary_hears w w.up (λ ms. record w { up = ms }))
    (λ i. primary_flag kind stream past w h i || sym h.reported i)
    (λ f. idle kind stream past ToPrimary w h)
    (λ f. let parts = or_parts (is_primary w.stopped) w.is_reported f in
    subst (λ (ms : List Message). Goes kind stream (deliver_up past past.to_primary)
    (core.deliver_with primary_hears w ms (λ xs. record w { up = xs }))) (sym h.up)
    (first_up kind stream past w past.to_primary h one parts.0 (sym h.reported ∙ parts.1) refl))
