-- What was spelled is read again, and stands last.
use Rattle.std.proofs.Common.{◌≡◌, ℕ, List, [], ◌++◌, ap, ◌∙◌, arith}
use Rattle.std.proofs.lemmas.List.{append_assoc}
use Rattle.colo_wire.specs.Reader.{IsWhole, message_of}
use Rattle.colo_wire.specs.Spelling.{IsMessage, message_bytes}
use Rattle.colo_wire.specs.declared.messages.Message.{Message}
use Rattle.colo_wire.proofs.ReaderLemmas.{reads_messages, whole_again}

-- bytes that a message was spelled into, which were none before
spelled_alone : (m : Message) (before bytes : List ℕ) → IsMessage m → before ≡ [] →
    bytes ≡ before ++ message_bytes m → IsWhole m bytes
spelled_alone m before bytes h none e = record {
  message = h;
  spelled = e ∙ ap (λ (x : List ℕ). x ++ message_bytes m) none;
}

pub put_whole : (m : Message) (before bytes : List ℕ) → IsMessage m → before ≡ [] →
    bytes ≡ before ++ message_bytes m → IsWhole (message_of bytes) bytes
put_whole m before bytes h none e = whole_again m bytes (spelled_alone m before bytes h none e)

pub put_same : (m : Message) (before bytes : List ℕ) → IsMessage m → before ≡ [] →
    bytes ≡ before ++ message_bytes m → message_of bytes ≡ m
put_same m before bytes h none e = reads_messages m bytes (spelled_alone m before bytes h none e)

-- what was put before, and more
pub put_more : {X : Type 0} (start waits new before more after : List X) → waits ≡ start ++ before →
    new ≡ waits ++ more → after ≡ before ++ more → new ≡ start ++ after
put_more start waits new before more after e1 e2 e3 = grind (arith, append_assoc)
