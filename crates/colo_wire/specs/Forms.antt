-- The table of kinds: which places the body of each has, from its front on, and how long the body
-- is. Bytes of any values may follow the places, as far as the length allows.
use Rattle.std.specs.Prelude.{ℕ, List, [], ◌∷◌}
use Rattle.colo_wire.specs.declared.forms.Lengths.{Lengths}
use Rattle.colo_wire.specs.declared.forms.Place.{Place}
use Rattle.colo_wire.specs.declared.forms.Place.TheVariants.{Any, Seen, Flags, Marked, Offset}
use Rattle.colo_wire.specs.declared.kinds.Kind.{Kind}
use Rattle.colo_wire.specs.declared.kinds.Kind.TheVariants.{Frame, Number, Begin, State, Page, Disk, Write, Held, Line, Bytes, End, Known, Sent, Ack}

-- the flags of a line: it is opened (also the mark of a seen opening), was reset, has a refusal,
-- ends
abbrev pub opened : ℕ
opened = 1

abbrev pub reset : ℕ
reset = 2

abbrev pub refused : ℕ
refused = 4

abbrev pub fin : ℕ
fin = 8

-- index, whether an opening was seen, client, number, trim
abbrev pub waiting_places : List Place
waiting_places = Any 8 ∷ Seen ∷ Marked opened 4 ∷ Marked opened 4 ∷ Marked opened 4 ∷ []

-- the number of a checkpoint, a page or a sector
abbrev pub count_places : List Place
count_places = Any 4 ∷ []

-- address, port, guest's port, client, number
abbrev pub number_places : List Place
number_places = Any 4 ∷ Any 2 ∷ Any 2 ∷ Any 4 ∷ Any 4 ∷ []

-- address, port, guest's port, MAC, flags, client, own, number, refused, acked, window, MSS, base
abbrev pub line_places : List Place
line_places =
    Any 4 ∷ Any 2 ∷ Any 2 ∷ Any 6 ∷ Flags ∷ Marked opened 4 ∷ Marked opened 4 ∷ Marked opened 4
    ∷ Marked refused 4 ∷ Offset opened ∷ Marked opened 2 ∷ Marked opened 2 ∷ Offset opened ∷ []

-- lengths from the shortest to the longest, in steps
abbrev pub stepped : ℕ → ℕ → ℕ → Lengths
stepped shortest longest step =
    record { shortest = shortest; longest = longest; step = step }

abbrev pub places_of : Kind → List Place
places_of Frame = waiting_places
places_of Number = number_places
places_of Begin = count_places
places_of State = []
places_of Page = count_places
places_of Disk = count_places
places_of Write = count_places
places_of Held = waiting_places
places_of Line = line_places
places_of Bytes = []
places_of End = count_places
places_of Known = number_places
places_of Sent = []
places_of Ack = count_places

-- a frame has 14 to 1,514 bytes, a state at most 2^24, a page 4,096, a sector 512; at most 128
-- sectors or 65,536 bytes of a line come in one message
abbrev pub lengths_of : Kind → Lengths
lengths_of Frame = stepped 35 1535 1
lengths_of Number = stepped 16 16 1
lengths_of Begin = stepped 4 4 1
lengths_of State = stepped 0 16777216 1
lengths_of Page = stepped 4100 4100 1
lengths_of Disk = stepped 516 65540 512
lengths_of Write = stepped 516 516 1
lengths_of Held = stepped 35 1535 1
lengths_of Line = stepped 43 43 1
lengths_of Bytes = stepped 1 65536 1
lengths_of End = stepped 4 4 1
lengths_of Known = stepped 16 16 1
lengths_of Sent = stepped 14 1514 1
lengths_of Ack = stepped 4 4 1
