-- What was spelled is read again.
use Rattle.std.proofs.Common.{◌≡◌, ℕ, List, Option, ap, ◌∙◌, sym, subst}
use Rattle.colo_wire.specs.Making.{message_in}
use Rattle.colo_wire.specs.Reader.{IsWhole, ReadsMessages, kind_or_begin, message_of}
use Rattle.colo_wire.specs.Spelling.{IsInRange, body_of, kind_of, message_bytes}
use Rattle.colo_wire.specs.declared.kinds.Kind.{Kind}
use Rattle.colo_wire.specs.declared.messages.Message.{Message}
use Rattle.colo_wire.proofs.BodyLemmas.{remakes}
use Rattle.colo_wire.proofs.KindLemmas.{kind_again}

pub read_again : (m : Message) → IsInRange m → message_of (message_bytes m) ≡ m
unfolding message_of message_bytes
read_again m h =
    ap (λ (k : Option Kind). message_in (kind_or_begin k) (body_of m)) (kind_again (kind_of m)) ∙ remakes m h

pub reads_messages : ReadsMessages
reads_messages m bytes whole = ap message_of whole.spelled ∙ read_again m whole.message.ranges

-- bytes that spell a message are whole by what they are read as
pub whole_again : (m : Message) (bytes : List ℕ) → IsWhole m bytes → IsWhole (message_of bytes) bytes
whole_again m bytes whole = subst (λ (x : Message). IsWhole x bytes) (sym (reads_messages m bytes whole)) whole
