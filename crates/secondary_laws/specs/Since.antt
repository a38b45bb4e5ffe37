-- What a secondary holds, by what came since the end of the last checkpoint, or since the start
-- where there was none: from what that checkpoint's messages spell, its guest's state is a run of
-- its turns, its lines are those of what its guest sent and clients trimmed, its numbers are those
-- that it heard and its own, and what waits is what came and wasn't taken. A report goes on with
-- all of it.
use Rattle.std.specs.Prelude.{◌≡◌, ℕ, if◌then◌else◌, List, [], ◌∷◌, ◌++◌, fold, map, option_to_list, Option, None, Some, ⊤}
use Rattle.std.specs.List.{flat_map}
use Rattle.std.specs.Map.{keys_of}
use Rattle.inet_frame.specs.Counted.{client_tuple_of, tcp_in}
use Rattle.inet_frame.specs.Fields.{TcpFields}
use Rattle.inet_frame.specs.declared.tuple.Tuple.{Tuple}
use Rattle.tcp_track.specs.Laws.{call_after, takes, trims}
use Rattle.tcp_track.specs.Laws as track
use Rattle.tcp_track.specs.LineFields.{LineFields}
use Rattle.tcp_track.specs.Tracking.{Tracking, line_at, taken, took_of}
use Rattle.tcp_track.specs.declared.openings.Opening.{Opening}
use Rattle.seq_rewriter.specs.Kept.{KeptNumbers, numbers_after, opened}
use Rattle.seq_rewriter.specs.Kept as kept
use Rattle.frame_mirror.specs.Inboxes.{has_room}
use Rattle.frame_mirror.specs.declared.ring.Waiting.{Waiting}
use Rattle.state_wire.specs.Guest.{GuestState, GuestTurn, Kind, sent_in}
use Rattle.state_wire.specs.Run.{run}
use Rattle.colo_wire.specs.declared.messages.Message.{Message}
use Rattle.colo_wire.specs.declared.messages.Message.TheVariants.{Frame, Number, Begin, State, End}
use Rattle.kept_checkpoint.specs.Kept.{Kept, begin_kept, keep, kept_lines}
use Rattle.kept_checkpoint.specs.Spelled.{spell}
use Rattle.out_compare.specs.Noting.{opening_made}
use Rattle.secondary_laws.specs.Calls.{Call, after_call, after_calls, came, heard, made, reported}
use Rattle.node_secondary.specs.Hearing.{is_due, waiting}
use Rattle.node_secondary.specs.Node.{Node}
use Rattle.node_secondary.specs.Steps.{gated_for, lone_turn, taken_by}
use Rattle.node_secondary.specs.Survivor.{Second, Survivor, alone, guest_of, hears, inbox_of}
use Rattle.node_secondary.specs.Turns.{guest_turn}
use Rattle.node_secondary.specs.declared.under_way.UnderWay.TheVariants.{Nothing}

abbrev pub lines_of : Second → Tracking
lines_of (hears n) = n.lines
lines_of (alone n) = n.comparing.mine

abbrev pub numbers_of : Second → KeptNumbers
numbers_of (hears n) = n.numbers
numbers_of (alone n) = n.comparing.numbers

-- what is remembered: what the last checkpoint gave, what came since, and what was heard of the
-- checkpoint that is under way, which is its state's bytes and the messages after them
pub record Since : Type 0 where
  pub state : GuestState
  pub turns : List GuestTurn
  pub lines : Tracking
  pub changes : List track.Call
  pub numbers : KeptNumbers
  pub openings : List kept.Event
  pub inbox : List Waiting
  pub come : List Waiting
  pub taken : List Waiting
  pub bytes : List ℕ
  pub parts : List Message

abbrev pub since_start : Second → Since
since_start s = record {
  state = (guest_of s).state;
  turns = [];
  lines = lines_of s;
  changes = [];
  numbers = numbers_of s;
  openings = [];
  inbox = inbox_of s;
  come = [];
  taken = [];
  bytes = [];
  parts = [];
}

-- ---- what the messages of the checkpoint under way give

-- each part as it was heard last, over what stood there
abbrev pub spelled : GuestState → Since → GuestState
spelled state p = fold spell state (State p.bytes ∷ p.parts)

-- the inbox, lines and numbers of the whole
abbrev pub kept_of : Kind → Since → Kept
kept_of kind p = fold keep (begin_kept p.bytes kind.page_count kind.sector_count) p.parts

abbrev pub loaded : GuestState → Since → Kept → Since
loaded state p k = record p {
  state = spelled state p;
  turns = [];
  lines = kept_lines k;
  changes = [];
  numbers = k.numbers;
  openings = [];
  inbox = k.inbox;
  come = [];
  taken = [];
}

-- ---- what changes a node's lines and numbers

-- what a client's frame trims
abbrev pub trims_with : Option Opening → ℕ → Option TcpFields → List track.Call
trims_with None trim t = []
trims_with (Some seen) trim None = []
trims_with (Some seen) trim (Some t) = trims (client_tuple_of t) seen.client trim ∷ []

abbrev pub trims_of : Waiting → List track.Call
trims_of w = trims_with w.seen w.trim (tcp_in w.frame)

-- what an opening keeps
abbrev pub opens : Tuple → Option Opening → List kept.Event
opens t None = []
opens t (Some o) = opened t o.client o.own ∷ []

-- of each frame that its guest sends
abbrev pub openings_in : Tracking → List (List ℕ) → List kept.Event
openings_in lines [] = []
openings_in lines (frame ∷ frames) =
    opens (took_of lines frame).tuple (opening_made (took_of lines frame).what)
    ++ openings_in (taken lines frame) frames

-- of each line at the report, in table order
abbrev pub opens_found : Tuple → Option LineFields → List kept.Event
opens_found t None = []
opens_found t (Some l) = opens t l.opening

abbrev pub openings_of : Tracking → List kept.Event
openings_of lines = flat_map (λ t. opens_found t (line_at lines t)) (keys_of lines.entries)

-- ---- call by call

abbrev pub since_frame : Since → List Waiting → List Waiting → Since
since_frame p frames come = record p {
  changes = p.changes ++ flat_map trims_of frames;
  come = p.come ++ come;
}

-- a message that was due: the end of a checkpoint begins anew
abbrev pub since_heard : Node → Since → Message → Since
since_heard n p (Frame index seen trim frame) =
    let w = waiting index seen trim frame in
    since_frame p (w ∷ []) (if has_room n.inbox then w ∷ [] else [])
since_heard n p (Number tuple client number) =
    record p { openings = p.openings ++ opened tuple client number ∷ [] }
since_heard n p (Begin e) = p
since_heard n p (State bytes) = record p { bytes = bytes; parts = [] }
since_heard n p (End e) = loaded n.guest.state p (kept_of n.guest.kind p)
since_heard n p part = record p { parts = p.parts ++ part ∷ [] }

abbrev pub since_turn : Since → GuestTurn → List (List ℕ) → Option Waiting → Since
since_turn p t sent frame = record p {
  turns = p.turns ++ t ∷ [];
  changes = p.changes ++ map takes sent;
  taken = p.taken ++ option_to_list frame;
}

abbrev pub since_opened : Since → List kept.Event → Since
since_opened p openings = record p { openings = p.openings ++ openings }

abbrev pub since_hearing : Node → Since → Call → Since
since_hearing n p (heard m) = if is_due n m then since_heard n p m else p
since_hearing n p (made t) =
    since_turn p (guest_turn n t) (sent_in n.guest (guest_turn n t)) (taken_by (hears n) t)
since_hearing n p reported = since_opened p (openings_of n.lines)
since_hearing n p _ = p

abbrev pub since_alone : Survivor → Since → Call → Since
since_alone n p (made t) =
    let sent = sent_in n.guest (lone_turn n t) in
    since_opened (since_turn p (lone_turn n t) sent (taken_by (alone n) t))
    (openings_in n.comparing.mine sent)
since_alone n p (came index frame) =
    let frames = option_to_list (gated_for n index frame).waiting in since_frame p frames frames
since_alone n p _ = p

abbrev pub since_call : Second → Since → Call → Since
since_call (hears n) p call = since_hearing n p call
since_call (alone n) p call = since_alone n p call

abbrev pub since_calls : Second → Since → List Call → Since
since_calls s p [] = p
since_calls s p (call ∷ calls) = since_calls (after_call s call) (since_call s p call) calls

-- ---- what holds after every list of calls

-- no checkpoint is under way
abbrev pub IsOutside : Second → Type 0
IsOutside (hears n) = n.under_way ≡ Nothing
IsOutside (alone n) = ⊤

pub record StandsSince (s : Second) (p : Since) : Type 0 where
  pub state : (guest_of s).state
      ≡ (run (guest_of s).kind (record { state = p.state; sent = [] }) p.turns).state
  pub lines : lines_of s ≡ fold call_after p.lines p.changes
  pub numbers : numbers_of s ≡ fold numbers_after p.numbers p.openings
  pub inbox : p.taken ++ inbox_of s ≡ p.inbox ++ p.come

abbrev pub StandsSinceTheLastEnd : Type 0
StandsSinceTheLastEnd = (s : Second) (calls : List Call) → IsOutside s →
    StandsSince (after_calls s calls) (since_calls s (since_start s) calls)
