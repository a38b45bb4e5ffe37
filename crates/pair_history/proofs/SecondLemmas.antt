-- A secondary that hears: what its own turn or a message leaves, and the pair then.
use Rattle.std.proofs.Common.{◌≡◌, ℕ, not, Bool, true, false, nat_le, nat_lt, List, [], ◌∷◌, ◌++◌, append-nil, length, Option, None, Some, unwrap_or, is_some, refl, sym, ap, subst, ◌∙◌, arith}
use Rattle.std.specs.Prelude.{if◌then◌else◌}
use Rattle.std.specs.Option.{option_map}
use Rattle.inet_frame.specs.Counted.{client_tuple_of, tcp_in}
use Rattle.inet_frame.specs.Fields.{TcpFields}
use Rattle.inet_frame.specs.declared.tuple.Tuple.{Tuple}
use Rattle.tcp_track.specs.Lines.{Item}
use Rattle.tcp_track.specs.Tracking.{Tracking}
use Rattle.tcp_track.specs.declared.openings.Opening.{Opening}
use Rattle.seq_rewriter.specs.Kept.{KeptNumbers, number_of}
use Rattle.seq_rewriter.proofs.KeptLemmas.{push_found}
use Rattle.settle_rules.specs.Numbers.{KeptNumber, kept_number}
use Rattle.frame_mirror.specs.Inboxes.{has_room}
use Rattle.frame_mirror.specs.declared.ring.TheConstants.{INBOX_ROOM}
use Rattle.frame_mirror.specs.declared.ring.Waiting.{Waiting}
use Rattle.state_wire.specs.Guest.{Kind}
use Rattle.colo_wire.specs.declared.messages.Message.{Message}
use Rattle.node_secondary.specs.Hearing.{known_number, trim_for, trim_lines, with_frame}
use Rattle.node_secondary.specs.Node.{Node}
use Rattle.node_secondary.specs.Survivor.{hears}
use Rattle.pair_core.specs.Pair.{Pair}
use Rattle.pair_theorem.specs.ClientFrames.{trim_items, trims_by}
use Rattle.pair_theorem.specs.Events as theirs
use Rattle.pair_theorem.specs.Events.{is_full}
use Rattle.pair_theorem.specs.Past.{NodeRun, Past}
use Rattle.settle_history.specs.Standing.{SameNumbers, Tracks}
use Rattle.settle_history.proofs.TrackLemmas.{tracks_trim}
use Rattle.pair_history.specs.Standing.{SecondaryHolds, Stands, guest_in}

-- ROOM in an inbox
full_or_room : (a b : ℕ) → not (nat_lt a b) ≡ nat_le b a
full_or_room a b = by (nat_lt a b) refl
  where
    by : (c : Bool) → nat_lt a b ≡ c → not c ≡ nat_le b a
    by true e = grind (arith, e)
    by false e = grind (arith, e)

pub full_is : (inbox : List Waiting) → not (has_room inbox) ≡ is_full inbox
full_is inbox = full_or_room (length inbox) INBOX_ROOM

pub inbox_heard : (inbox : List Waiting) (w : Waiting)
    → with_frame inbox w ≡ (if is_full inbox then inbox else inbox ++ w ∷ [])
inbox_heard inbox w =
    subst (λ (c : Bool). with_frame inbox w ≡ (if c then inbox else inbox ++ w ∷ [])) (full_is inbox)
    (by (has_room inbox))
  where
    by : (c : Bool) → (if c then inbox ++ w ∷ [] else inbox) ≡ (if not c then inbox else inbox ++ w ∷ [])
    by true = refl
    by false = refl

-- A FRAME that is heard trims
no_trim : (o : Option TcpFields) (to : ℕ) → trim_items o None to ≡ []
no_trim None to = refl
no_trim (Some s) to = refl

pub tracks_heard : (items : List Item) (lines : Tracking) (w : Waiting) → Tracks items lines
    → Tracks (items ++ trims_by w) (trim_lines lines w)
unfolding trims_by
tracks_heard items lines w h = by w.seen (tcp_in w.frame)
  where
    same : (xs : List Item) → xs ≡ [] → Tracks (items ++ xs) lines
    same xs e = subst (λ (ys : List Item). Tracks (items ++ ys) lines) (sym e)
        (subst (λ (ys : List Item). Tracks ys lines) (sym (append-nil items)) h)

    by : (seen : Option Opening) (o : Option TcpFields)
        → Tracks (items ++ trim_items o seen w.trim) (trim_for lines seen w.trim o)
    by None o = same (trim_items o None w.trim) (no_trim o w.trim)
    by (Some seen) None = same [] refl
    by (Some seen) (Some s) = tracks_trim items lines (client_tuple_of s) seen.client w.trim h

-- A NUMBER that is heard: the kept one is said back
kept_first : (numbers : KeptNumbers) (t : Tuple) (client number : ℕ)
    → known_number numbers t client number ≡ unwrap_or (number_of numbers t client) number
kept_first numbers t client number = by (number_of numbers t client) refl
  where
    by : (o : Option ℕ) → number_of numbers t client ≡ o
        → unwrap_or (number_of (if is_some o then numbers
        else numbers ++ (record { tuple = t; client = client }, number) ∷ []) t client) number ≡ unwrap_or o number
    by (Some k) e = ap (λ (o : Option ℕ). unwrap_or o number) e
    by None e = ap (λ (o : Option ℕ). unwrap_or o number)
        (push_found numbers (record { tuple = t; client = client }) number e)

said_kept : (o : Option KeptNumber) (number : ℕ)
    → unwrap_or (option_map (λ (k : KeptNumber). k.number) o) number ≡ theirs.number_said o number
said_kept None number = refl
said_kept (Some k) number = refl

pub known_alike : (kept : List KeptNumber) (numbers : KeptNumbers) (t : Tuple) (client number : ℕ)
    → SameNumbers kept numbers
    → known_number numbers t client number ≡ theirs.number_said (kept_number t client kept) number
known_alike kept numbers t client number h =
    kept_first numbers t client number
    ∙ (ap (λ (o : Option ℕ). unwrap_or o number) (h t client) ∙ said_kept (kept_number t client kept) number)

-- THE PAIR, after its secondary alone went on
abbrev pub with_second : Past → NodeRun → List Waiting → ℕ → List KeptNumber → List Message → List Message → Past
with_second past node inbox turned numbers down up = record past {
  secondary = node;
  secondary_inbox = inbox;
  secondary_turned = turned;
  secondary_numbers = numbers;
  to_secondary = down;
  to_primary = up;
}

pub second_stands : (kind : Kind) (stream : List (List ℕ)) (past : Past) (w : Pair) (n : Node) (node : NodeRun)
    (inbox : List Waiting) (turned : ℕ) (numbers : List KeptNumber) (down up more : List Message)
    → Stands kind stream past w → past.is_reported ≡ false → n.guest ≡ guest_in kind node turned
    → SecondaryHolds kind node.items inbox numbers past.copy past.captures down n
    → past.to_primary ++ more ≡ up
    → Stands kind stream (with_second past node inbox turned numbers down up)
    (record w { second = hears n; down = down; up = w.up ++ more })
second_stands kind stream past w n node inbox turned numbers down up more h together guest s link = record {
  frames = h.frames;
  next = h.next;
  down = refl;
  up = ap (λ (ms : List Message). ms ++ more) h.up ∙ link;
  sent_heard = h.sent_heard;
  stop = h.stop;
  reported = h.reported;
  first_guest = h.first_guest;
  second_guest = guest;
  first = h.first;
  second = λ f. (together, s);
}
