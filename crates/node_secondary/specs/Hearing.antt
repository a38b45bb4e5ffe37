-- Hearing: which message is due when, and what each leaves and answers. What is heard of a
-- checkpoint is kept apart until it is whole.
use Rattle.std.specs.Prelude.{◌≡◌, ℕ, ◌+◌, ◌%◌, ◌^◌, Bool, true, false, not, ◌==◌, if◌then◌else◌, List, [], ◌∷◌, ◌++◌, Option, None, Some, unwrap_or, ⊤}
use Rattle.inet_frame.specs.Counted.{client_tuple_of, tcp_in}
use Rattle.inet_frame.specs.Fields.{TcpFields}
use Rattle.inet_frame.specs.declared.tuple.Tuple.{Tuple}
use Rattle.tcp_track.specs.Tracking.{Tracking, trim_tracking}
use Rattle.tcp_track.specs.declared.openings.Opening.{Opening}
use Rattle.seq_rewriter.specs.Kept.{KeptNumbers, keep_number, number_of}
use Rattle.frame_mirror.specs.Accepted.{is_accepted}
use Rattle.frame_mirror.specs.Inboxes.{has_room}
use Rattle.frame_mirror.specs.declared.ring.Waiting.{Waiting}
use Rattle.state_wire.specs.Guest.{Kind}
use Rattle.colo_wire.specs.Kinds.{number_of_kind}
use Rattle.colo_wire.specs.Spelling.{kind_of}
use Rattle.colo_wire.specs.declared.answers.Told.{Told}
use Rattle.colo_wire.specs.declared.messages.Message.{Message}
use Rattle.colo_wire.specs.declared.messages.Message.TheVariants.{Frame, Number, Begin, State, End, Known, Ack}
use Rattle.kept_checkpoint.specs.Kept.{Kept, begin_kept, fits, keep, kept_lines, load_kept}
use Rattle.node_secondary.specs.Node.{Node}
use Rattle.node_secondary.specs.declared.under_way.UnderWay.{UnderWay}
use Rattle.node_secondary.specs.declared.under_way.UnderWay.TheVariants.{Nothing, Begun, Heard}

-- ---- which message is due

-- the number of the next checkpoint
abbrev pub next_checkpoint : ℕ → ℕ
next_checkpoint committed = (committed + 1) % 2 ^ 32

-- outside a checkpoint: an accepted frame, a number, and the begin of the next checkpoint
abbrev pub is_due_outside : ℕ → Message → Bool
is_due_outside next (Frame index seen trim frame) = is_accepted frame
is_due_outside next (Number tuple client number) = true
is_due_outside next (Begin e) = e == next
is_due_outside next _ = false

-- directly after a begin: a state that the guest accepts
abbrev pub is_due_begun : Kind → Message → Bool
is_due_begun kind (State bytes) = kind.accepts bytes
is_due_begun kind _ = false

-- within a checkpoint: what can be kept with what was heard of it, and its end
abbrev pub is_due_within : ℕ → Kept → Message → Bool
is_due_within next kept (End e) = e == next
is_due_within next kept m = fits kept m

abbrev pub is_due_at : Kind → ℕ → UnderWay → Message → Bool
is_due_at kind next Nothing m = is_due_outside next m
is_due_at kind next Begun m = is_due_begun kind m
is_due_at kind next (Heard kept) m = is_due_within next kept m

abbrev pub is_due : Node → Message → Bool
is_due n m = is_due_at n.guest.kind (next_checkpoint n.committed) n.under_way m

-- a message that has no rule of its own: a part of a checkpoint, or one that is never due
abbrev pub IsOther : Message → Type 0
IsOther (Frame index seen trim frame) = ⊥
IsOther (Number tuple client number) = ⊥
IsOther (Begin e) = ⊥
IsOther (State bytes) = ⊥
IsOther (End e) = ⊥
IsOther _ = ⊤

-- it goes on with what was heard
abbrev pub IsPart : UnderWay → Message → Type 0
IsPart Nothing m = ⊤
IsPart Begun m = ⊤
IsPart (Heard kept) m = fits kept m ≡ true

-- ---- what a due one leaves

-- a client's frame, as it waits
abbrev pub waiting : ℕ → Option Opening → ℕ → List ℕ → Waiting
waiting index seen trim frame =
    record { index = index; seen = seen; trim = trim; frame = frame }

-- its connection's line is trimmed, where the guest's current opening has the client that it names
abbrev pub trim_for : Tracking → Option Opening → ℕ → Option TcpFields → Tracking
trim_for lines None trim t = lines
trim_for lines (Some seen) trim None = lines
trim_for lines (Some seen) trim (Some t) = trim_tracking lines (client_tuple_of t) seen.client trim

abbrev pub trim_lines : Tracking → Waiting → Tracking
trim_lines lines w = trim_for lines w.seen w.trim (tcp_in w.frame)

-- an inbox with no room drops it
abbrev pub with_frame : List Waiting → Waiting → List Waiting
with_frame inbox w = if has_room inbox then inbox ++ w ∷ [] else inbox

abbrev pub hear_frame : Node → Waiting → Node
hear_frame n w = record n { lines = trim_lines n.lines w; inbox = with_frame n.inbox w }

-- the number that is kept for an incarnation once one was heard
abbrev pub known_number : KeptNumbers → Tuple → ℕ → ℕ → ℕ
known_number numbers tuple client number =
    unwrap_or (number_of (keep_number numbers tuple client number) tuple client) number

abbrev pub hear_number : Node → Tuple → ℕ → ℕ → Node
hear_number n tuple client number = record n {
  numbers = keep_number n.numbers tuple client number;
  waits = n.waits ++ Known tuple client (known_number n.numbers tuple client number) ∷ [];
}

-- the state of the checkpoint that has begun
abbrev pub hear_state : Node → List ℕ → Node
hear_state n bytes = record n {
  under_way = Heard (begin_kept bytes n.guest.kind.page_count n.guest.kind.sector_count);
}

-- a part of it
abbrev pub keep_part : UnderWay → Message → UnderWay
keep_part Nothing m = Nothing
keep_part Begun m = Begun
keep_part (Heard kept) m = Heard (keep kept m)

abbrev pub hear_part : Node → Message → Node
hear_part n m = record n { under_way = keep_part n.under_way m }

-- its end: all of it is loaded, and acknowledged
abbrev pub commit : Node → ℕ → UnderWay → Node
commit n e Nothing = n
commit n e Begun = n
commit n e (Heard kept) = record {
  guest = load_kept n.guest kept;
  inbox = kept.inbox;
  lines = kept_lines kept;
  numbers = kept.numbers;
  waits = n.waits ++ Ack e ∷ [];
  committed = e;
  under_way = Nothing;
}

abbrev pub hear_due : Node → Message → Node
hear_due n (Frame index seen trim frame) = hear_frame n (waiting index seen trim frame)
hear_due n (Number tuple client number) = hear_number n tuple client number
hear_due n (Begin e) = record n { under_way = Begun }
hear_due n (State bytes) = hear_state n bytes
hear_due n (End e) = commit n e n.under_way
hear_due n m = hear_part n m

-- what any message leaves: one that isn't due changes nothing
abbrev pub hear : Node → Message → Node
hear n m = if is_due n m then hear_due n m else n

-- ---- what is answered to a due one

-- whether the inbox has no room for it, and which checkpoint it commits
abbrev pub is_full_for : Node → Message → Bool
is_full_for n (Frame index seen trim frame) = not (has_room n.inbox)
is_full_for n _ = false

abbrev pub commit_by : Message → Option ℕ
commit_by (End e) = Some e
commit_by _ = None

abbrev pub told : ℕ → Bool → Option ℕ → Told
told kind full commit =
    record { kind = kind; full = full; commit = commit; ack = None; capture = None }

abbrev pub told_of : Node → Message → Told
told_of n m = told (number_of_kind (kind_of m)) (is_full_for n m) (commit_by m)
