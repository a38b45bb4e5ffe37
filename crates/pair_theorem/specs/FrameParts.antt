-- The parts that speak of released frames: Shape, Stands, Numbers, Acks and Prompt.
use Rattle.std.specs.Prelude.{◌≡◌, ◌⊎◌, ℕ, ◌≤◌, Bool, true, false, not, ◌&&◌, ◌||◌, ◌==◌, nat_lt, IsTrue, if◌then◌else◌, List, [], ◌∷◌, ◌++◌, fold, length, All, Option, None, Some}
use Rattle.std.specs.List.{list_all, list_any, enumerate_from, filter_map}
use Rattle.std.specs.Option.{option_map}
use Rattle.inet_frame.specs.Fields.{TcpFields}
use Rattle.inet_frame.specs.Flags.{has_fin, has_syn, has_rst}
use Rattle.inet_frame.specs.Counted.{tuple_of}
use Rattle.inet_frame.specs.declared.tuple.Tuple.{Tuple}
use Rattle.inet_build.specs.Segment.{fields_of, IsBuildable}
use Rattle.inet_build.specs.declared.fields.Segment.{Segment}
use Rattle.tcp_track.specs.Lines.{order}
use Rattle.tcp_track.specs.Offsets.{distance}
use Rattle.tcp_track.specs.Segments.{Symbol, same_tuple, symbol_in, symbols_in, is_near, may_open, opening_in}
use Rattle.tcp_track.specs.Stands.{Stands, ResetStands, RefusalStands, acked_in, is_symbol}
use Rattle.tcp_track.specs.declared.openings.Opening.{Opening}
use Rattle.settle_rules.specs.Matching.{BothLines, agreed_ack, has_one_client}
use Rattle.settle_rules.specs.Progress.{Progress, ProgressTable, progress_of}
use Rattle.settle_rules.specs.Release.{Released, tcp, reply}
use Rattle.settle_rules.specs.Settle.{both_lines}
use Rattle.frame_mirror.specs.declared.ingress.Entry.{Entry}
use Rattle.frame_mirror.specs.declared.ingress.Entry.TheVariants as entry
use Rattle.pair_theorem.specs.History.{entries}
use Rattle.replay_log.specs.declared.lines.Line.{Line}
use Rattle.replay_log.specs.declared.lines.Line.TheVariants.{Client}
use Rattle.replay_log.specs.declared.records.Answer.{Answer}
use Rattle.replay_log.specs.declared.records.Answer.TheVariants.{Arp}
use Rattle.pair_theorem.specs.Past.{Agreed, Past, Start, Step, releasing_items}
use Rattle.pair_theorem.specs.Places.{Event, Place, events, places, released_due, released_in}
use Rattle.pair_theorem.specs.TheRun.{stream_entry, run_segments}

-- SHAPE
abbrev pub reply_in : Entry → Option (List ℕ)
reply_in (entry.Frame b) = None
reply_in (entry.Answer b) = Some b
reply_in (entry.Drop w) = None

abbrev pub reply_with : Start → Line → Answer → Option (List ℕ)
reply_with a Client (Arp i) = reply_in (stream_entry a i)
reply_with a _ _ = None

-- the ARP reply that a client event owes to its frame
abbrev pub reply_due : Start → Step → Option (List ℕ)
reply_due a s = reply_with a s.entry.line s.entry.answer

abbrev pub IsShaped : Option (List ℕ) → Released → Type 0
IsShaped due (tcp s payload) = IsBuildable s payload
IsShaped due (reply b) = due ≡ Some b

-- Each released frame is the ARP reply of its client event, or the segment that is built of fields
-- and a payload in their ranges.
abbrev pub ShapePart : Start → List Step → Type 0
ShapePart a steps = All (λ (s : Step). All (IsShaped (reply_due a s)) s.released) steps

-- STANDS
-- a released refusal: RST with sequence number 0, for which the run refused the client of
-- its acknowledgement less 1
pub record IsStandingRefusal (sent : List TcpFields) (s : Segment) : Type 0 where
  pub is_reset : has_rst s.flags ≡ true
  pub at_zero : s.seq ≡ 0
  pub refused : RefusalStands sent s.tuple (distance 1 s.ack)

-- The tuple has a current opening, of this client; a SYN was released on it, with this number; each
-- symbol stands at its offset from there; and a reset stands.
pub record SymbolsStand (sent : List TcpFields) (p : Place) : Type 0 where
  pub client : ℕ
  pub number : ℕ
  pub client_is : p.client ≡ Some client
  pub number_is : p.number ≡ Some number
  pub symbols : (o : ℕ) (x : Symbol) → symbol_in number (fields_of p.segment p.payload) o ≡ Some x
      → Stands sent p.segment.tuple client o x
  pub reset : has_rst p.segment.flags ≡ true → ResetStands sent p.segment.tuple client

-- symbols below the bound of offsets, counted from the number of the last SYN released
abbrev pub is_near_to : Option ℕ → TcpFields → Bool
is_near_to None s = false
is_near_to (Some number) s = is_near number s

-- A segment with a payload or FIN has neither SYN nor RST, and its symbols are near: beside SYN or
-- RST, or far off, a symbol would have no offset, and be judged by nothing.
unfoldable pub is_judged : Place → Bool
unfolding is_near
is_judged p =
    let s = fields_of p.segment p.payload in
    length p.payload == 0 && not (has_fin s.flags)
    || (not (has_syn s.flags) && (not (has_rst s.flags) && is_near_to p.number s))

pub record PlaceStands (sent : List TcpFields) (p : Place) : Type 0 where
  pub judged : IsTrue (is_judged p)
  pub stands : IsStandingRefusal sent p.segment ⊎ SymbolsStand sent p

-- Everything released stands in what the run sent.
abbrev pub StandsPart : Start → List Step → Type 0
StandsPart a steps = All (PlaceStands (run_segments a (entries steps))) (places a steps)

-- ACKS
pub record IsAcked (sent : List TcpFields) (p : Place) : Type 0 where
  pub client : ℕ
  pub client_is : p.client ≡ Some client
  pub within : distance client p.segment.ack ≤ acked_in sent p.segment.tuple client

-- No released acknowledgement exceeds one that the run sent; a refusal is excepted, since it
-- stands.
abbrev pub PlaceAcks : List TcpFields → Place → Type 0
PlaceAcks sent p = IsStandingRefusal sent p.segment ⊎ IsAcked sent p

abbrev pub AcksPart : Start → List Step → Type 0
AcksPart a steps = All (PlaceAcks (run_segments a (entries steps))) (places a steps)

-- NUMBERS
-- a released SYN: its tuple, the client of the releasing node's opening at the event's end,
-- its sequence number
pub record Syn : Type 0 where
  pub tuple : Tuple
  pub client : ℕ
  pub number : ℕ

abbrev pub syn_with : Place → Option ℕ → Option Syn
syn_with p None = None
syn_with p (Some client) =
    if has_syn p.segment.flags
    then Some (record { tuple = p.segment.tuple; client = client; number = p.segment.seq })
    else None

abbrev pub syn_of : Place → Option Syn
syn_of p = syn_with p p.client

abbrev pub syn_shown_on : Tuple → Opening → Syn
syn_shown_on t o = record { tuple = t; client = o.client; number = o.own }

abbrev pub syn_shown : Tuple × Progress → Option Syn
syn_shown x = option_map (syn_shown_on x.0) x.1.shown

-- the SYNs that were released: the last of each tuple before the start, and all since
unfoldable pub syns : Start → List Step → List Syn
unfolding places
syns a steps = filter_map syn_shown a.progress ++ filter_map syn_of (places a steps)

-- the clients of the openings of a tuple, in the order in which they were sent
abbrev pub client_opened : Tuple → TcpFields → Option ℕ
client_opened t s =
    if same_tuple (tuple_of s) t && may_open s then Some (opening_in s).client else None

unfoldable pub clients_opened : Tuple → List TcpFields → List ℕ
unfolding may_open
clients_opened t sent = filter_map (client_opened t) sent

abbrev pub comes_again : ℕ → List ℕ → Bool
comes_again c [] = false
comes_again c (d ∷ ds) = if d == c then comes_again c ds else list_any (λ x. x == c) ds

-- one client, later another one, later the first one again
abbrev pub comes_back : ℕ → List ℕ → Bool
comes_back c [] = false
comes_back c (d ∷ ds) = if d == c then comes_again c ds else comes_back c ds

-- the same client's SYNs have one number, unless the run went over to another client and came back
unfoldable pub same_number_shown : List TcpFields → Syn → Syn → Bool
unfolding clients_opened
same_number_shown sent x y =
    not (same_tuple x.tuple y.tuple && x.client == y.client)
    || (x.number == y.number || comes_back x.client (clients_opened x.tuple sent))

-- No two numbers are shown for one opening.
abbrev pub ShowOneNumber : List TcpFields → List Syn → Type 0
ShowOneNumber sent shown =
    All (λ (x : Syn). All (λ (y : Syn). IsTrue (same_number_shown sent x y)) shown) shown

abbrev pub NumbersPart : Start → List Step → Type 0
NumbersPart a steps = ShowOneNumber (run_segments a (entries steps)) (syns a steps)

-- PROMPT
-- a released frame carries a symbol of a tuple at an offset from a number
abbrev pub carries_symbol : Tuple → ℕ → ℕ × Symbol → Released → Bool
carries_symbol t number x (reply b) = false
carries_symbol t number x (tcp s payload) =
    same_tuple s.tuple t && is_symbol (symbol_in number (fields_of s payload) x.0) x.1

-- each agreed symbol is in one of these frames
unfoldable pub is_released : List Released → Agreed → Bool
unfolding symbols_in is_near
is_released out g =
    list_all (λ x. list_any (carries_symbol g.tuple g.number x) out)
    (enumerate_from g.from g.symbols)

-- the acknowledgement of the last released segment of a tuple that is no refusal
abbrev pub is_refusal_out : Segment → Bool
is_refusal_out s = has_rst s.flags && s.seq == 0

abbrev pub ack_after : Tuple → Option ℕ → Released → Option ℕ
ack_after t ack (reply b) = ack
ack_after t ack (tcp s payload) =
    if same_tuple s.tuple t && not (is_refusal_out s) then Some s.ack else ack

abbrev pub ack_at_start : ProgressTable → Tuple → Option ℕ
ack_at_start progress t = option_map (λ l. l.ack) (progress_of t progress).last

abbrev pub last_ack : Start → Tuple → List Released → Option ℕ
last_ack a t released = fold (ack_after t) (ack_at_start a.progress t) released

-- both lines of a tuple, as they stand in a past
unfoldable pub lines_in : Past → Tuple → BothLines
unfolding both_lines
lines_in past t = both_lines (record {
  mine = releasing_items past;
  theirs = past.known_items;
  numbers = past.numbers;
  is_alone = past.is_reported;
  is_turn = false;
  tooks = [];
  restarts = [];
}) t

abbrev pub is_said : Option ℕ → ℕ → Bool
is_said None n = false
is_said (Some m) n = m == n

-- where the edge is above 0 and the lines have one client, the last acknowledgement is the agreed
-- one
unfoldable pub tuple_acks : Start → Past → List Released → Tuple → Bool
unfolding lines_in
tuple_acks a past released t =
    let b = lines_in past t in
    not (nat_lt 0 (progress_of t past.progress).edge && has_one_client b)
    || is_said (last_ack a t released) (agreed_ack b)

-- at the end of an event after which no checkpoint is under way
unfoldable pub event_acks : Start → Event → Bool
unfolding tuple_acks order
event_acks a e =
    let past = e.outcome.after in
    past.awaits_ack
    || list_all (tuple_acks a past (e.released ++ e.step.released)) (order (releasing_items past))

abbrev pub ReleasesAgreed : Event → Type 0
ReleasesAgreed e = All (λ (g : Agreed). IsTrue (is_released e.step.released g)) e.outcome.agreed

-- Every agreed symbol is released in the event that shows it, and every agreed acknowledgement is
-- said.
pub record ShowsAgreed (a : Start) (steps : List Step) : Type 0 where
  pub symbols : All ReleasesAgreed (events a steps)
  pub acks : All (λ (e : Event). IsTrue (event_acks a e)) (events a steps)

-- In each event exactly the frames go out that the settling of it releases, in their order; and so
-- every agreed symbol and acknowledgement does.
pub record PromptPart (a : Start) (steps : List Step) : Type 0 where
  pub settled : released_in steps ≡ released_due (events a steps)
  pub shows : ShowsAgreed a steps
