-- A comparer's calls, and what a list of them says: what both guests sent, the trims between them,
-- and the kept numbers.
use Rattle.std.specs.Prelude.{ℕ, Bool, true, false, List, [], ◌∷◌, ◌++◌, fold, filter_map, map, Option, None, Some}
use Rattle.std.specs.List.{list_any}
use Rattle.inet_frame.specs.Counted.{counted, client_tuple_of}
use Rattle.inet_frame.specs.Fields.{TcpFields}
use Rattle.inet_frame.specs.declared.tuple.Tuple.{Tuple}
use Rattle.tcp_track.specs.Laws.{Call, takes, trims, commits, items_of}
use Rattle.tcp_track.specs.Lines.{Item}
use Rattle.tcp_track.specs.declared.openings.Incarnation.{Incarnation}
use Rattle.tcp_track.specs.declared.openings.Opening.{Opening}
use Rattle.seq_rewriter.specs.Kept.{KeptNumbers}
use Rattle.settle_rules.specs.Numbers.{KeptNumber, new_number, learn_number, learn_all, thin}
use Rattle.out_compare.specs.Comparing.{Comparing, nothing_compared, take_own, take_heard, learn, settle, capture, acknowledge, leave_alone}
use Rattle.out_compare.specs.Look.{look, look_after}

-- the calls `primary`, `secondary`, `known`, `settle`, `client`, `captured`, `acknowledged` and
-- `alone`, with what each is given
pub data CompareCall : Type 0 where
  sends : List ℕ → CompareCall
  hears : List ℕ → CompareCall
  learns : Tuple → ℕ → ℕ → CompareCall
  settles : Bool → CompareCall
  looks : TcpFields → CompareCall
  captures : CompareCall
  acknowledges : CompareCall
  remains : CompareCall

-- what a call leaves that answers well
abbrev pub compare_after : Comparing → CompareCall → Comparing
compare_after x (sends frame) = take_own x frame
compare_after x (hears frame) = take_heard x frame
compare_after x (learns t client number) = learn x t client number
compare_after x (settles is_turn) = settle x is_turn
compare_after x (looks s) = look_after x s
compare_after x captures = capture x
compare_after x acknowledges = acknowledge x
compare_after x remains = leave_alone x

abbrev pub compare_calls : Comparing → List CompareCall → Comparing
compare_calls x calls = fold compare_after x calls

-- what a new comparer holds after a list of calls
abbrev pub comparing_of : List CompareCall → Comparing
comparing_of calls = compare_calls nothing_compared calls

-- THE LINES

-- the frames of the node's own guest, and those heard of the other's
abbrev pub frame_sent : CompareCall → Option (List ℕ)
frame_sent (sends frame) = Some frame
frame_sent _ = None

abbrev pub frames_sent : List CompareCall → List (List ℕ)
frames_sent calls = filter_map frame_sent calls

abbrev pub frame_heard : CompareCall → Option (List ℕ)
frame_heard (hears frame) = Some frame
frame_heard _ = None

abbrev pub frames_heard : List CompareCall → List (List ℕ)
frames_heard calls = filter_map frame_heard calls

-- a client's frame trims what the comparer answers
abbrev pub trim_in : Tuple → Option Opening → ℕ → List Call
trim_in t None to = []
trim_in t (Some shown) to = trims t shown.client to ∷ []

-- what a call says to the own lines: a frame, a trim, or that an acknowledgement commits them
abbrev pub own_call : Comparing → CompareCall → List Call
own_call x (sends frame) = takes frame ∷ []
own_call x (looks s) = trim_in (client_tuple_of s) (look x s).seen (look x s).trim
own_call x acknowledges = commits ∷ []
own_call x _ = []

-- the same of a list of calls, each of which finds what those before it left
abbrev pub own_calls : Comparing → List CompareCall → List Call
own_calls x [] = []
own_calls x (call ∷ calls) = own_call x call ++ own_calls (compare_after x call) calls

-- the segments that the node's own guest sent, and the trims and commits between them
abbrev pub own_items : List CompareCall → List Item
own_items calls = items_of (own_calls nothing_compared calls)

-- what a call says to the known lines of the other guest: a frame that was heard, or a client's
-- trim, which is that of the own lines
abbrev pub heard_call : Comparing → CompareCall → List Call
heard_call x (hears frame) = takes frame ∷ []
heard_call x (looks s) = trim_in (client_tuple_of s) (look x s).seen (look x s).trim
heard_call x _ = []

abbrev pub heard_calls : Comparing → List CompareCall → List Call
heard_calls x [] = []
heard_calls x (call ∷ calls) = heard_call x call ++ heard_calls (compare_after x call) calls

-- the segments that were heard from a comparer on, and the trims between them
abbrev pub heard_items : Comparing → List CompareCall → List Item
heard_items x calls = items_of (heard_calls x calls)

abbrev pub is_acknowledgement : CompareCall → Bool
is_acknowledgement acknowledges = true
is_acknowledgement _ = false

abbrev pub has_acknowledgement : List CompareCall → Bool
has_acknowledgement calls = list_any is_acknowledgement calls

-- THE NUMBERS

abbrev pub numbers_with : List KeptNumber → Option TcpFields → List KeptNumber
numbers_with numbers None = numbers
numbers_with numbers (Some s) = numbers ++ new_number numbers s

-- The kept numbers after a call, which follows others: an opening's number is kept where none is, a
-- capture keeps those of the current openings alone, and an acknowledgement makes all known.
abbrev pub numbers_after : List CompareCall → List KeptNumber → CompareCall → List KeptNumber
numbers_after before numbers (sends frame) = numbers_with numbers (counted frame)
numbers_after before numbers (learns t client number) = learn_number numbers t client number
numbers_after before numbers captures = thin (own_items before) numbers
numbers_after before numbers acknowledges = learn_all numbers
numbers_after before numbers _ = numbers

abbrev pub numbers_from : List CompareCall → List KeptNumber → List CompareCall → List KeptNumber
numbers_from before numbers [] = numbers
numbers_from before numbers (call ∷ calls) =
    numbers_from (before ++ call ∷ []) (numbers_after before numbers call) calls

-- the numbers that are kept after a list of calls
abbrev pub numbers_of : List CompareCall → List KeptNumber
numbers_of calls = numbers_from [] [] calls

abbrev pub incarnation_of : KeptNumber → Incarnation
incarnation_of k = record { tuple = k.tuple; client = k.client }

-- the same as a table of numbers
abbrev pub table_of : List KeptNumber → KeptNumbers
table_of numbers = map (λ k. (incarnation_of k, k.number)) numbers
