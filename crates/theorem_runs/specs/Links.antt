-- What is on the links between the nodes: one checkpoint at a time, and what stands beside it.
use Rattle.std.specs.Prelude.{◌≡◌, ℕ, true, false, List, [], ◌∷◌, ◌++◌, IsSome, ⊤}
use Rattle.std.specs.List.{AllByRecursion, flat_map}
use Rattle.inet_frame.specs.Counted.{counted}
use Rattle.tcp_track.specs.Lines.{order, sent_of}
use Rattle.colo_wire.specs.declared.messages.Message.{Message}
use Rattle.colo_wire.specs.declared.messages.Message.TheVariants.{Frame, Number, Begin, State, Page, Disk, Held, Line, Bytes, End, Known, Sent, Ack}
use Rattle.checkpoint_form.specs.Inbox.{inbox_messages}
use Rattle.checkpoint_form.specs.State.{state_messages}
use Rattle.pair_theorem.specs.Checkpoint.{row_messages}
use Rattle.pair_theorem.specs.Past.{Copy, Past}

-- what stands beside a checkpoint on the link to the secondary
abbrev pub IsBeside : Message → Type 0
IsBeside (Frame index seen trim frame) = ⊤
IsBeside (Number t client number) = ⊤
IsBeside _ = ⊥

-- and behind its End
abbrev pub IsFrameMessage : Message → Type 0
IsFrameMessage (Frame index seen trim frame) = ⊤
IsFrameMessage _ = ⊥

-- what belongs to a checkpoint before its End
abbrev pub IsPart : Message → Type 0
IsPart (Begin e) = ⊤
IsPart (State bytes) = ⊤
IsPart (Page k bytes) = ⊤
IsPart (Disk first bytes) = ⊤
IsPart (Held index seen trim frame) = ⊤
IsPart (Line t mac flags client own number refused acked window mss base) = ⊤
IsPart (Bytes bytes) = ⊤
IsPart _ = ⊥

-- what the secondary says back, but for acknowledgements
abbrev pub IsReply : Message → Type 0
IsReply (Known t client number) = ⊤
IsReply (Sent frame) = IsSome (counted frame)
IsReply _ = ⊥

-- the messages of a captured copy before the End
unfoldable pub copied_parts : Copy → ℕ → List Message
unfolding row_messages order
copied_parts copy e =
    Begin e ∷ state_messages copy.run.run.state ++ inbox_messages copy.inbox
    ++ flat_map (row_messages copy.run.items copy.numbers) (order copy.run.items)

-- The primary is at its last capture, but for trims that it took since: so it is while a checkpoint
-- is awaited, where at most one node stops.
pub record IsPaused (past : Past) : Type 0 where
  pub turns : past.primary.turns ≡ past.copy.run.turns
  pub run : past.primary.run ≡ past.copy.run.run
  pub said : sent_of past.primary.items ≡ sent_of past.copy.run.items
  pub numbers : past.numbers ≡ past.copy.numbers

-- no checkpoint is on its way
pub record IsCalm (past : Past) : Type 0 where
  pub awaits : past.awaits_ack ≡ false
  pub down : AllByRecursion IsBeside past.to_secondary
  pub up : AllByRecursion IsReply past.to_primary

-- Its rest is on the link, with its End, behind what was there before, if none of it was heard yet.
pub record IsGoing (past : Past) (before told rest later : List Message) : Type 0 where
  pub awaits : past.awaits_ack ≡ true
  pub down : past.to_secondary ≡ before ++ (rest ++ End past.captures ∷ later)
  pub whole : copied_parts past.copy past.captures ≡ told ++ rest
  pub parts : AllByRecursion IsPart rest
  pub earlier : AllByRecursion IsBeside before
  pub frames : AllByRecursion IsFrameMessage later
  pub up : AllByRecursion IsReply past.to_primary

-- it was committed, and its acknowledgement is on the link
pub record IsComing (past : Past) (before later : List Message) : Type 0 where
  pub awaits : past.awaits_ack ≡ true
  pub up : past.to_primary ≡ before ++ Ack past.captures ∷ later
  pub replies : AllByRecursion IsReply before
  pub behind : AllByRecursion IsReply later
  pub down : AllByRecursion IsFrameMessage past.to_secondary

-- ONE CHECKPOINT AT A TIME
pub data OneCheckpoint (past : Past) : Type 0 where
  calm : IsCalm past → OneCheckpoint past
  -- none of it was heard
  put : (before later : List Message)
      → IsGoing past before [] (copied_parts past.copy past.captures) later → OneCheckpoint past
  -- some of it was
  going : (told rest later : List Message) → IsGoing past [] told rest later → OneCheckpoint past
  coming : (before later : List Message) → IsComing past before later → OneCheckpoint past
