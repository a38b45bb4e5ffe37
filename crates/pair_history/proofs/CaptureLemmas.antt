-- A capture: the primary puts the theorem's checkpoint on the link, each message of it is due, and its End commits it.
use Rattle.std.proofs.Common.{◌≡◌, ℕ, ◌+◌, ◌%◌, ◌^◌, Bool, true, false, cond, List, [], ◌∷◌, ◌++◌, fold, length, Option, None, Some, is_some, refl, sym, ap, subst, ◌∙◌, true≢false}
use Rattle.std.specs.Map.{lookup}
use Rattle.std.specs.Option.{option_map}
use Rattle.std.proofs.lemmas.Map.Entries.{lookup-filter-keys}
use Rattle.inet_frame.specs.declared.tuple.Tuple.{Tuple}
use Rattle.tcp_track.specs.Laws.{Call, takes, trims, commits, call_after}
use Rattle.tcp_track.specs.Lines.{Item, commit}
use Rattle.tcp_track.specs.Stands.{is_of_client}
use Rattle.tcp_track.specs.Tracking.{Tracking, commit_tracking, current_at, nothing_tracked, same_incarnation, taken, trim_tracking}
use Rattle.tcp_track.specs.declared.openings.Incarnation.{Incarnation}
use Rattle.seq_rewriter.specs.Kept.{is_current, number_of}
use Rattle.settle_rules.specs.Numbers.{KeptNumber, kept_number, thin}
use Rattle.state_wire.specs.Guest.{Kind, Meaning}
use Rattle.colo_wire.specs.declared.messages.Message.{Message}
use Rattle.colo_wire.specs.declared.messages.Message.TheVariants.{End}
use Rattle.out_compare.specs.Comparing.{Comparing}
use Rattle.out_compare.specs.Comparing.{capture as capture_tables}
use Rattle.compare_laws.proofs.FindLemmas.{same_incarnation-eq}
use Rattle.node_primary.specs.Node.{IsCaptured, Primary}
use Rattle.node_primary.specs.Steps.{capture as capture_primary}
use Rattle.node_secondary.specs.Survivor.{Second, alone, hears}
use Rattle.node_secondary.specs.declared.under_way.UnderWay.{UnderWay}
use Rattle.node_secondary.specs.declared.under_way.UnderWay.TheVariants.{Nothing, Heard}
use Rattle.pair_core.specs.Pair.{Pair, is_primary, sent_down}
use Rattle.pair_theorem.specs.Checkpoint.{capture, checkpoint_messages, next_capture}
use Rattle.pair_theorem.specs.Past.{Copy, Past}
use Rattle.settle_history.specs.Standing.{StandsFor, Tracks}
use Rattle.settle_history.proofs.TrackLemmas.{opening_is, tracks_commit}
use Rattle.compare_history.specs.Books.{primary_books}
use Rattle.compare_history.proofs.EventLemmas.{captures_the_past}
use Rattle.capture_laws.specs.Captures.{AreCapturable, AreOfOpenings, CanBeHeard, Capture, IsOfKind, kept_of, messages_of}
use Rattle.capture_laws.specs.Standing.{StandsForPast}
use Rattle.capture_laws.specs.Ways.{AreDue, way}
use Rattle.capture_laws.proofs.DueLemmas.{captured_is_due, hears_a_whole}
use Rattle.capture_laws.proofs.NumberLemmas.{keeps_the_numbers}
use Rattle.capture_laws.proofs.PartLemmas.{keeps_the_inbox, spells_a_whole}
use Rattle.capture_laws.proofs.RegularLemmas.{begins_regular, commits_regularly, takes_regularly, trims_regularly}
use Rattle.capture_laws.proofs.TheoremLemmas.{is_the_theorems}
use Rattle.capture_laws.proofs.TrackerLemmas.{keeps_the_lines}
use Rattle.theorem_runs.specs.Links.{copied_parts}
use Rattle.theorem_runs.specs.Runs.{IsState, has_end}
use Rattle.theorem_runs.proofs.Checkpoints.{parts_are}
use Rattle.theorem_runs.proofs.Orders.{parts_no_end}
use Rattle.pair_history.specs.Due.{Commits, CommitsHeard, Due}
use Rattle.pair_history.specs.Standing.{PrimaryStands, SecondStands, Stands}
use Rattle.pair_history.proofs.DueLemmas.{due_anew, due_whole}
use Rattle.pair_history.proofs.Flags.{releases_reported}

-- A TRACKER that stands for items can be captured
capturable_from : (lines : Tracking) (calls : List Call) → AreCapturable lines
    → AreCapturable (fold call_after lines calls)
capturable_from lines [] h = h
capturable_from lines (takes frame ∷ calls) h =
    capturable_from (taken lines frame) calls (takes_regularly lines frame h)
capturable_from lines (trims t client to ∷ calls) h =
    capturable_from (trim_tracking lines t client to) calls (trims_regularly lines t client to h)
capturable_from lines (commits ∷ calls) h = capturable_from (commit_tracking lines) calls (commits_regularly lines h)

capturable : (items : List Item) (lines : Tracking) → Tracks items lines → AreCapturable lines
capturable items lines h =
    subst AreCapturable (sym h.leaves) (capturable_from nothing_tracked h.calls begins_regular)

-- WHAT A PRIMARY CAPTURES
abbrev captured : Primary → Capture
captured n = record {
  state = n.guest.state;
  inbox = n.inbox;
  lines = (capture_tables n.comparing).mine;
  numbers = (capture_tables n.comparing).numbers;
}

-- the numbers are those of current openings, each of which has one
none_left : (b : Bool) (o : Option ℕ) → is_some (cond b o None) ≡ true → b ≡ true
none_left true o e = refl
none_left false o e = e

current_left : (x : Comparing) (t : Tuple) (client : ℕ)
    → is_some (number_of (capture_tables x).numbers t client) ≡ true
    → is_of_client (current_at (capture_tables x).mine t) client ≡ true
unfolding capture_tables
current_left x t client e =
    let i : Incarnation = record { tuple = t; client = client } in
    none_left (is_current x.mine i) (lookup (same_incarnation i) x.numbers)
    (ap (λ (o : Option ℕ). is_some o)
    (sym (lookup-filter-keys (same_incarnation i) (is_current x.mine) (is_current x.mine i)
    (λ k same. ap (is_current x.mine) (sym (same_incarnation-eq i k same))) x.numbers))
    ∙ e)

some_number : (o : Option KeptNumber) → is_some (option_map (λ (k : KeptNumber). k.number) o) ≡ is_some o
some_number None = refl
some_number (Some k) = refl

of_openings : (past : Past) (x : Comparing) → StandsFor (primary_books past) (capture_tables x)
    → AreOfOpenings (capture_tables x).numbers (capture_tables x).mine
of_openings past x h = record {
  current = current_left x;
  numbered = λ t o is. ap (λ (n : Option ℕ). is_some n) (h.numbers_are t o.client)
      ∙ (some_number (kept_number t o.client past.numbers)
      ∙ h.numbered t o (sym (opening_is past.primary.items (capture_tables x).mine t h.mine_is) ∙ is));
}

-- what is needed of the pair at a capture
record Captures (kind : Kind) (past : Past) (x : Capture) : Type 0 where
  theirs : StandsForPast past (thin past.primary.items past.numbers) x
  lines : AreCapturable x.lines
  can : CanBeHeard x
  of_kind : IsOfKind kind x

captures_of : (kind : Kind) (stream : List (List ℕ)) (past : Past) (v : Pair) → Stands kind stream past v
    → PrimaryStands past v.first → IsState kind past.primary.run.state → IsCaptured v.first.guest
    → Captures kind past (captured v.first)
unfolding capture
captures_of kind stream past v h p fits sound =
    let n = v.first in
    let books = captures_the_past past n.comparing p.compares in
    let lines = capturable past.primary.items (capture_tables n.comparing).mine books.mine_is in
    record {
      theirs = record {
        tracks = books.mine_is;
        distinct = lines.regular.distinct;
        numbers = books.numbers_are;
        openings = of_openings (capture past) n.comparing books;
        state = ap (λ (g : Meaning). g.state) h.first_guest;
        inbox = p.inbox;
      };
      lines = lines;
      can = record { sizes = sound.sectors; accepted = p.accepted; room = p.room; lines = lines };
      of_kind = record {
        accepts = subst (λ (k : Kind). k.accepts n.guest.state.bytes ≡ true)
            (ap (λ (g : Meaning). g.kind) h.first_guest) sound.accepted;
        pages = ap (λ (g : Meaning). length g.state.pages) h.first_guest ∙ fits.fits.page_count;
        sectors = ap (λ (g : Meaning). length g.state.sectors) h.first_guest ∙ fits.fits.sector_count;
      };
    }

-- the copy that the theorem makes
abbrev copy_after : Past → Copy
copy_after past = record {
  run = past.primary;
  inbox = past.primary_inbox;
  numbers = thin past.primary.items past.numbers;
}

captured_commits : (kind : Kind) (past : Past) (x : Capture) (e : ℕ) → Captures kind past x
    → Commits kind (copy_after past) (kept_of x e)
captured_commits kind past x e h = record {
  state = λ g is counts. spells_a_whole g x e
      (counts.pages ∙ (ap (λ (k : Kind). k.page_count) is ∙ sym h.of_kind.pages))
      (counts.sectors ∙ (ap (λ (k : Kind). k.sector_count) is ∙ sym h.of_kind.sectors)) h.can.sizes
      ∙ (λ i. record g { state = h.theirs.state i });
  inbox = keeps_the_inbox x e ∙ h.theirs.inbox;
  lines = subst (λ (l : Tracking). Tracks (past.primary.items ++ commit ∷ []) l)
      (sym (keeps_the_lines x e h.lines.regular)) (tracks_commit past.primary.items x.lines h.theirs.tracks);
  numbers = λ t client. keeps_the_numbers x e h.lines.regular h.theirs.openings t client ∙ h.theirs.numbers t client;
}

-- none of it is an End
no_end : (past : Past)
    → has_end (checkpoint_messages past (thin past.primary.items past.numbers) (next_capture past)) ≡ false
unfolding checkpoint_messages copied_parts
no_end past =
    parts_no_end (copied_parts (copy_after past) (next_capture past)) (parts_are (copy_after past) (next_capture past))

-- the whole of it is due behind what is on the link
captured_due : (kind : Kind) (past : Past) (x : Capture) → Captures kind past x
    → Due kind (copy_after past) (next_capture past) past.captures Nothing
    (checkpoint_messages past (thin past.primary.items past.numbers) (next_capture past)
    ++ End (next_capture past) ∷ [])
captured_due kind past x h =
    let e = next_capture past in
    let kept = thin past.primary.items past.numbers in
    let same = is_the_theorems past kept x e h.theirs in
    let whole : Heard (kept_of x e) ≡ fold (way kind) Nothing (checkpoint_messages past kept e) =
    sym (hears_a_whole kind x e h.can h.of_kind) ∙ ap (λ (ms : List Message). fold (way kind) Nothing ms) same in
    due_whole kind (copy_after past) e past.captures Nothing (checkpoint_messages past kept e) refl (no_end past)
    (subst (λ (ms : List Message). AreDue kind e Nothing (ms ++ End e ∷ [])) same
    (captured_is_due kind x e h.can h.of_kind))
    (subst (λ (u : UnderWay). CommitsHeard kind (copy_after past) u) whole (captured_commits kind past x e h))

second_captured : (kind : Kind) (past : Past) (s : Second) (x : Capture) → past.is_reported ≡ false
    → has_end past.to_secondary ≡ false → Captures kind past x → SecondStands kind past s
    → SecondStands kind (capture past) s
unfolding capture
second_captured kind past (hears n) x together none c h = (
  h.0,
  record {
    inbox = h.1.inbox;
    lines = h.1.lines;
    numbers = h.1.numbers;
    waits = h.1.waits;
    due = due_anew kind past.copy (copy_after past) past.captures (next_capture past) n.committed n.under_way
        past.to_secondary
        (checkpoint_messages past (thin past.primary.items past.numbers) (next_capture past)
        ++ End (next_capture past) ∷ []) none (captured_due kind past x c) h.1.due;
  },
)
second_captured kind past (alone n) x together none c h =
    absurd (true≢false (sym (releases_reported past h.0) ∙ together))

-- THE PAIR after a capture
pub captures_alike : (kind : Kind) (stream : List (List ℕ)) (past : Past) (v : Pair) → Stands kind stream past v
    → is_primary v.stopped ≡ false → past.is_reported ≡ false → has_end past.to_secondary ≡ false
    → IsState kind past.primary.run.state → IsCaptured v.first.guest
    → Stands kind stream (capture past) (sent_down (record v { first = capture_primary v.first }))
unfolding capture capture_primary
captures_alike kind stream past v h runs together none fits sound =
    let p = h.first runs in
    let c = captures_of kind stream past v h p fits sound in
    let x = captured v.first in
    let kept = thin past.primary.items past.numbers in
    let e = next_capture past in
    let number : (v.first.captures + 1) % 2 ^ 32 ≡ e = ap (λ (k : ℕ). (k + 1) % 2 ^ 32) p.captures in
    let messages : messages_of x ((v.first.captures + 1) % 2 ^ 32) ++ End ((v.first.captures + 1) % 2 ^ 32) ∷ []
    ≡ checkpoint_messages past kept e ++ End e ∷ [] =
    (λ i. messages_of x (number i) ++ End (number i) ∷ [])
    ∙ ap (λ (ms : List Message). ms ++ End e ∷ []) (is_the_theorems past kept x e c.theirs) in
    record {
      frames = h.frames;
      next = h.next;
      down = λ i. h.down i ++ (p.waits i ++ messages i);
      up = h.up;
      sent_heard = h.sent_heard;
      stop = h.stop;
      reported = h.reported;
      first_guest = h.first_guest;
      second_guest = h.second_guest;
      first = λ f. record {
        inbox = p.inbox;
        room = p.room;
        accepted = p.accepted;
        compares = captures_the_past past v.first.comparing p.compares;
        captures = number;
        awaits = refl;
        waits = refl;
      };
      second = λ f. second_captured kind past v.second x together none c (h.second f);
    }
