-- The message that bytes are, where they are one.
use Rattle.std.specs.Prelude.{◌≡◌, ℕ, List, Option, None, Some, drop, slice_index}
use Rattle.colo_wire.specs.Kinds.{kind_at}
use Rattle.colo_wire.specs.Making.{message_in}
use Rattle.colo_wire.specs.Spelling.{IsMessage, message_bytes}
use Rattle.colo_wire.specs.declared.kinds.Kind.{Kind}
use Rattle.colo_wire.specs.declared.kinds.Kind.TheVariants.{Begin}
use Rattle.colo_wire.specs.declared.messages.Message.{Message}

-- where there is no kind, any will do
abbrev pub kind_or_begin : Option Kind → Kind
kind_or_begin None = Begin
kind_or_begin (Some kind) = kind

-- the message that some bytes spell, where they are the bytes of one; some message else
unfoldable pub message_of : List ℕ → Message
message_of bytes = message_in (kind_or_begin (kind_at (slice_index bytes 0))) (drop 5 bytes)

-- the bytes are this message, whole and alone
pub record IsWhole (m : Message) (bytes : List ℕ) : Type 0 where
  pub message : IsMessage m
  pub spelled : bytes ≡ message_bytes m

-- the bytes of a message are read as it
abbrev pub ReadsMessages : Type 0
ReadsMessages = (m : Message) (bytes : List ℕ) → IsWhole m bytes → message_of bytes ≡ m
