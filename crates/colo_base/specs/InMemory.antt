-- What the objects in memory mean.
use Rattle.std.specs.Prelude.{◌≡◌, ℕ, ◌-◌, Bool, true, List, [], ◌∷◌, ◌++◌, Option, Some, option_map, Result, Ok, Err, length, take, min, if◌then◌else◌, ◌==◌, slice_index, map}
use Rattle.std.specs.List.{range_with_len}
use Rattle.std.specs.BTreeMap.{get_by_text}
use Rattle.colo_base.specs.Clock.{ClockState}
use Rattle.colo_base.specs.Count.{incremented}
use Rattle.colo_base.specs.FailurePlan.{PlanState}
use Rattle.colo_base.specs.Incoming.{pass}
use Rattle.colo_base.specs.Link.{LinkState, Answer, answer, Arrival, bytes, quiet, ended}
use Rattle.colo_base.specs.Shelf.{ShelfState}
use Rattle.colo_base.specs.Sink.{SinkState}
use Rattle.colo_base.specs.declared.memory_link.Reply.{Reply}
use Rattle.colo_base.specs.declared.memory_link.Given.{Given}
use Rattle.colo_base.specs.declared.memory_link.Given.TheVariants as given
use Rattle.colo_base.specs.declared.memory_shelf.MemoryShelf.{MemoryShelf}
use Rattle.colo_base.specs.declared.traits.Heard.{Heard}
use Rattle.colo_base.specs.declared.traits.Heard.TheVariants as heard
use Rattle.colo_base.specs.declared.traits.ShelfFault.{ShelfFault}
use Rattle.colo_base.specs.declared.traits.ShelfFault.TheVariants as fault

-- a sink in memory: the bytes put, the plan of its failing calls, and how many puts failed
pub record SinkParts : Type 0 where
  pub bytes : List ℕ
  pub plan : PlanState
  pub faults : ℕ

-- its bytes can be observed
abbrev pub sink_state : SinkParts → SinkState
sink_state sink = record { observable = true; bytes = sink.bytes; faults = sink.faults }

-- the contents of each name; None where there is no such file
abbrev pub contents_of : MemoryShelf → List ℕ → Option (List ℕ)
contents_of shelf name = option_map (λ file. file.items) (get_by_text shelf.files name)

-- a shelf's counts: of failed fetches, and of failed creates and appends
pub record ShelfCounts : Type 0 where
  pub fetch_faults : ℕ
  pub write_faults : ℕ

-- the counts of a shelf in memory, one of a kind for all names
abbrev pub counts_of : MemoryShelf → ShelfCounts
counts_of shelf = record { fetch_faults = shelf.fetch_faults; write_faults = shelf.write_faults }

-- the counts after one more failed fetch
abbrev pub count_failed_fetch : ShelfCounts → ShelfCounts
count_failed_fetch counts = record counts { fetch_faults = incremented counts.fetch_faults }

-- the counts after one more failed create or append
abbrev pub count_failed_write : ShelfCounts → ShelfCounts
count_failed_write counts = record counts { write_faults = incremented counts.write_faults }

-- the counts after a fetch that answers this
abbrev pub fetch_counts : Result Unit ShelfFault → ShelfCounts → ShelfCounts
fetch_counts (Err fault.Failed) counts = count_failed_fetch counts
fetch_counts (Err fault.NoMemory) counts = counts
fetch_counts (Ok _) counts = counts

-- the counts after a create or an append that answers this
abbrev pub write_counts : Result Unit ShelfFault → ShelfCounts → ShelfCounts
write_counts (Err fault.Failed) counts = count_failed_write counts
write_counts (Err fault.NoMemory) counts = counts
write_counts (Ok _) counts = counts

-- its contents can be observed
abbrev pub shelf_state : MemoryShelf → ShelfState
shelf_state shelf =
    record {
      observable = true;
      contents = contents_of shelf;
      fetch_faults = λ name. shelf.fetch_faults;
      write_faults = λ name. shelf.write_faults;
    }

-- the plan of its failing calls
abbrev pub plan_of : MemoryShelf → PlanState
plan_of shelf = shelf.plan

-- only this name's contents changed, to these
pub record SetsContents (old new : MemoryShelf) (name bytes : List ℕ) : Type 0 where
  pub contents : contents_of new name ≡ Some bytes
  pub others : (other : List ℕ) → (other ≡ name → ⊥) → contents_of new other ≡ contents_of old other
  pub plan : plan_of new ≡ plan_of old
  pub counts : counts_of new ≡ counts_of old

-- nothing changed that a caller sees
pub record IsSame (old new : MemoryShelf) : Type 0 where
  pub contents : (name : List ℕ) → contents_of new name ≡ contents_of old name
  pub plan : plan_of new ≡ plan_of old
  pub counts : counts_of new ≡ counts_of old

-- what came, as a link in memory keeps it
abbrev pub arrival_of : Given → Arrival
arrival_of (given.Bytes taken) = bytes taken.items
arrival_of given.Quiet = quiet
arrival_of given.Ended = ended

-- an answer that a link in memory keeps
abbrev pub answer_of : Reply → Answer
answer_of reply = record { room = reply.room; arrival = arrival_of reply.given }

-- a link in memory: what is to come, what it answered and sent, the plan of its failing calls, and
-- its counts
pub record LinkParts : Type 0 where
  pub coming : List (List ℕ)
  pub answers : List Answer
  pub sent : List ℕ
  pub opened : Bool
  pub plan : PlanState
  pub open_faults : ℕ
  pub receive_faults : ℕ
  pub send_faults : ℕ
  pub quiets : ℕ

-- its answers and what it sent can be observed; it keeps one count of failed opens for all
-- addresses
abbrev pub link_state : LinkParts → LinkState
link_state link =
    record {
      observable = true;
      opened = link.opened;
      answers = link.answers;
      sent = link.sent;
      open_faults = λ address. link.open_faults;
      receive_faults = link.receive_faults;
      send_faults = link.send_faults;
      quiets = link.quiets;
    }

-- What comes at a receive with so much room: the front of the oldest piece, as many bytes as there
-- is room for; none yet where that piece has no bytes; and the end where no piece is left.
abbrev pub arrival_at : List (List ℕ) → ℕ → Arrival
arrival_at [] room = ended
arrival_at (piece ∷ pieces) room = if length piece == 0 then quiet else bytes (take room piece)

-- what the receive answers
abbrev pub heard_of : List (List ℕ) → ℕ → Heard
heard_of [] room = heard.Ended
heard_of (piece ∷ pieces) room =
    if length piece == 0 then heard.Quiet else heard.Took (min (length piece) room)

-- what is to come after it
abbrev pub coming_after : List (List ℕ) → ℕ → List (List ℕ)
coming_after [] room = []
coming_after (piece ∷ pieces) room = pass (min (length piece) room) (piece ∷ pieces)

-- the count of quiet answers after it
abbrev pub quiets_after : List (List ℕ) → ℕ → ℕ
quiets_after [] quiets = quiets
quiets_after (piece ∷ pieces) quiets = if length piece == 0 then incremented quiets else quiets

-- the link after a receive with so much room
abbrev pub receive : LinkParts → ℕ → LinkParts
receive link room =
    record link {
      coming = coming_after link.coming room;
      answers = link.answers ++ answer room (arrival_at link.coming room) ∷ [];
      quiets = quiets_after link.coming link.quiets;
    }

-- a clock over a list of numbers, and how many it gave
pub record ClockParts : Type 0 where
  pub script : List ℕ
  pub count : ℕ

-- The number that it gives at the k-th reading, counted from 0: from the end of its list on the
-- last one, and 0 where the list is empty.
abbrev pub tick_at : List ℕ → ℕ → ℕ
tick_at script k = slice_index script (min k (length script - 1))

-- the numbers that it gave can be observed
abbrev pub clock_state : ClockParts → ClockState
clock_state clock =
    record { observable = true; given = map (tick_at clock.script) (range_with_len 0 clock.count) }
