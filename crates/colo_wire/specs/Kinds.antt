-- The kinds of message by their numbers, from 1 on: one to eleven go to the secondary, twelve to
-- fourteen to the primary.
use Rattle.std.specs.Prelude.{ℕ, ◌-◌, ◌==◌, if◌then◌else◌, List, [], ◌∷◌, Option, None, slice_get}
use Rattle.colo_wire.specs.declared.kinds.Kind.{Kind}
use Rattle.colo_wire.specs.declared.kinds.Kind.TheVariants.{Frame, Number, Begin, State, Page, Disk, Write, Held, Line, Bytes, End, Known, Sent, Ack}

abbrev pub kinds : List Kind
kinds =
    Frame ∷ Number ∷ Begin ∷ State ∷ Page ∷ Disk ∷ Write ∷ Held ∷ Line ∷ Bytes ∷ End ∷ Known
    ∷ Sent ∷ Ack ∷ []

-- the kind with a number
abbrev pub kind_at : ℕ → Option Kind
kind_at number = if number == 0 then None else slice_get kinds (number - 1)

-- its number
abbrev pub number_of_kind : Kind → ℕ
number_of_kind Frame = 1
number_of_kind Number = 2
number_of_kind Begin = 3
number_of_kind State = 4
number_of_kind Page = 5
number_of_kind Disk = 6
number_of_kind Write = 7
number_of_kind Held = 8
number_of_kind Line = 9
number_of_kind Bytes = 10
number_of_kind End = 11
number_of_kind Known = 12
number_of_kind Sent = 13
number_of_kind Ack = 14
