-- The shape of what is released: where every field of all that was sent is in its range, so is that
-- of a released segment (RFC 9293, 3.1).
use Rattle.std.specs.Prelude.{All, List}
use Rattle.inet_build.specs.Segment.{IsBuildable}
use Rattle.inet_frame.specs.Laws.{AreInRange}
use Rattle.tcp_track.specs.Lines.{Item, order, sent_of}
use Rattle.settle_rules.specs.Numbers.{KeptNumber}
use Rattle.settle_rules.specs.Progress.{ProgressTable}
use Rattle.settle_rules.specs.Release.{Released, reply, tcp}
use Rattle.settle_rules.specs.Settle.{Scene, settle}
use Rattle.settle_rules.specs.Survive.{survive}
use Rattle.replay_log.specs.declared.lines.Line as log
use Rattle.pair_theorem.specs.FrameParts.{ShapePart}
use Rattle.pair_theorem.specs.History.{pair_log}
use Rattle.pair_theorem.specs.Past.{Start}
use Rattle.pair_theorem.specs.Starts.{IsStart}

-- a released segment, whose fields and payload are in their ranges; no ARP reply
abbrev pub IsBuilt : Released → Type 0
IsBuilt (tcp s payload) = IsBuildable s payload
IsBuilt (reply b) = ⊥

-- each segment among the items has its fields in their ranges
abbrev pub AreSentInRange : List Item → Type 0
AreSentInRange items = All AreInRange (sent_of items)

abbrev pub SettlingBuilds : Type 0
SettlingBuilds = (scene : Scene) (progress : ProgressTable) → AreSentInRange scene.mine
    → All IsBuilt (settle scene (order scene.mine) progress).out

abbrev pub SurvivingBuilds : Type 0
SurvivingBuilds = (items : List Item) (numbers : List KeptNumber) → AreSentInRange items
    → All IsBuilt (survive items numbers (order items)).out

-- the third part of the theorem, for every schedule
abbrev pub ShapeOfEachLog : Type 0
ShapeOfEachLog = (a : Start) (lines : List log.Line) → IsStart a → ShapePart a (pair_log a lines)
