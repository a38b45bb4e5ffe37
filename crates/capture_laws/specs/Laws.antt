-- What a capture sends is kept as it was captured.
use Rattle.std.specs.Prelude.{◌≡◌, ℕ, List, [], ◌∷◌, ◌++◌, fold, length}
use Rattle.inet_frame.specs.declared.tuple.Tuple.{Tuple}
use Rattle.tcp_track.specs.Tracking.{Tracking, commit_tracking, nothing_tracked, taken, trim_tracking}
use Rattle.seq_rewriter.specs.Kept.{number_of}
use Rattle.state_wire.specs.Guest.{Kind, Meaning}
use Rattle.checkpoint_capture.specs.Sizes.{HaveSize}
use Rattle.colo_wire.specs.declared.messages.Message.{Message}
use Rattle.colo_wire.specs.declared.messages.Message.TheVariants.{End}
use Rattle.kept_checkpoint.specs.Kept.{kept_lines, load_kept}
use Rattle.node_secondary.specs.Hearing.{hear_due}
use Rattle.node_secondary.specs.Node.{Node}
use Rattle.node_secondary.specs.declared.under_way.UnderWay.TheVariants.{Nothing, Heard}
use Rattle.settle_rules.specs.Numbers.{KeptNumber}
use Rattle.pair_theorem.specs.Checkpoint.{checkpoint_messages}
use Rattle.pair_theorem.specs.Past.{Past}
use Rattle.capture_laws.specs.Standing.{StandsForPast}
use Rattle.capture_laws.specs.Captures.{AreCapturable, AreOfOpenings, AreRegular, CanBeHeard, Capture, IsOfKind, kept_of, messages_of}
use Rattle.capture_laws.specs.Ways.{AreDue, way}

-- What is under way at a node after a message that is due follows from what was, and from nothing
-- else of the node.
abbrev pub GoesItsWay : Type 0
GoesItsWay =
    (n : Node) (m : Message) → (hear_due n m).under_way ≡ way n.guest.kind n.under_way m

-- With nothing under way each message of a capture with this number, and the End after them, is
-- due when it comes.
abbrev pub CapturedIsDue : Type 0
CapturedIsDue =
    (kind : Kind) (x : Capture) (e : ℕ) → CanBeHeard x → IsOfKind kind x →
    AreDue kind e Nothing (messages_of x e ++ End e ∷ [])

-- And before the End all that was captured was heard.
abbrev pub HearsAWhole : Type 0
HearsAWhole =
    (kind : Kind) (x : Capture) (e : ℕ) → CanBeHeard x → IsOfKind kind x →
    fold (way kind) Nothing (messages_of x e) ≡ Heard (kept_of x e)

-- What is kept spells the captured state, all pages and all sectors, whatever stood there before.
abbrev pub SpellsAWhole : Type 0
SpellsAWhole =
    (g : Meaning) (x : Capture) (e : ℕ) → length g.state.pages ≡ length x.state.pages →
    length g.state.sectors ≡ length x.state.sectors → HaveSize 512 x.state.sectors →
    load_kept g (kept_of x e) ≡ record g { state = x.state }

-- The kept inbox is the captured one.
abbrev pub KeepsTheInbox : Type 0
KeepsTheInbox = (x : Capture) (e : ℕ) → (kept_of x e).inbox ≡ x.inbox

-- The kept lines are the captured ones with the commit in them, entry for entry in table order. So
-- all that holds of a tracker holds of one that a checkpoint put back, restarts included.
abbrev pub KeepsTheLines : Type 0
KeepsTheLines =
    (x : Capture) (e : ℕ) → AreRegular x.lines → kept_lines (kept_of x e) ≡ commit_tracking x.lines

-- For each client of each tuple the kept number is the captured one.
abbrev pub KeepsTheNumbers : Type 0
KeepsTheNumbers =
    (x : Capture) (e : ℕ) → AreRegular x.lines → AreOfOpenings x.numbers x.lines →
    (t : Tuple) (client : ℕ) →
    number_of (kept_of x e).numbers t client ≡ number_of x.numbers t client

-- What is asked of lines holds of none.
abbrev pub BeginsCapturable : Type 0
BeginsCapturable = AreCapturable nothing_tracked

-- It goes on with each frame, each trim and each commit, and with a checkpoint that is put back.
abbrev pub TakesCapturably : Type 0
TakesCapturably =
    (lines : Tracking) (frame : List ℕ) → AreCapturable lines → AreCapturable (taken lines frame)

abbrev pub TrimsCapturably : Type 0
TrimsCapturably =
    (lines : Tracking) (t : Tuple) (client to : ℕ) → AreCapturable lines →
    AreCapturable (trim_tracking lines t client to)

abbrev pub CommitsCapturably : Type 0
CommitsCapturably = (lines : Tracking) → AreCapturable lines → AreCapturable (commit_tracking lines)

abbrev pub KeepsCapturably : Type 0
KeepsCapturably =
    (x : Capture) (e : ℕ) → AreCapturable x.lines → AreCapturable (kept_lines (kept_of x e))

-- The messages of a capture that stands for a past are those of the theorem.
abbrev pub IsTheTheorems : Type 0
IsTheTheorems =
    (past : Past) (kept : List KeptNumber) (x : Capture) (e : ℕ) → StandsForPast past kept x →
    messages_of x e ≡ checkpoint_messages past kept e
