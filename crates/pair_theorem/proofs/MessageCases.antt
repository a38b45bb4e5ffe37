-- What each node makes of a message, by the sorts of message that it tells apart.
use Rattle.std.proofs.Common.{◌≡◌, ℕ, ◌+◌, Bool, true, false, List, [], ◌∷◌, Option, Some, None, refl}
use Rattle.inet_frame.specs.declared.tuple.Tuple.{Tuple}
use Rattle.tcp_track.specs.declared.openings.Opening.{Opening}
use Rattle.colo_wire.specs.declared.messages.Message.{Message}
use Rattle.colo_wire.specs.declared.messages.Message.TheVariants.{Frame, Number, Begin, State, Page, Disk, Write, Held, Bytes, End, Known, Sent, Ack}
use Rattle.colo_wire.specs.declared.messages.Message.TheVariants as message
use Rattle.replay_log.specs.declared.lines.Line.TheVariants.{ToSecondary, ToPrimary}
use Rattle.replay_log.specs.declared.records.Answer.TheVariants.{Nothing, Heard, HeardBack}
use Rattle.replay_log.specs.declared.records.Mark.TheVariants.{Acknowledged, Committed}
use Rattle.pair_theorem.specs.Events.{ack_ended, hear_end, hear_frame, hear_number, is_full, known_ended, outcome_with, primary_hears, secondary_hears, sent_ended}
use Rattle.pair_theorem.specs.Messages.{number_of, waiting_in}
use Rattle.pair_theorem.specs.Past.{Outcome, Past, quietly, silently, step_with}

-- a message that the secondary keeps apart, if at all: no frame, no number, no end
abbrev pub stays_apart : Message → Bool
stays_apart (Frame index seen trim frame) = false
stays_apart (Number t client number) = false
stays_apart (Begin n) = true
stays_apart (State bytes) = true
stays_apart (Page k bytes) = true
stays_apart (Disk first bytes) = true
stays_apart (Write k bytes) = true
stays_apart (Held index seen trim frame) = true
stays_apart (message.Line t mac flags client own number refused acked window mss base) = true
stays_apart (Bytes bytes) = true
stays_apart (End n) = false
stays_apart (Known t client number) = true
stays_apart (Sent frame) = true
stays_apart (Ack n) = true

-- what the secondary makes of a message
pub heard_case : (P : Outcome → Type 0) (past : Past) (m : Message)
    → ((index : ℕ) (seen : Option Opening) (trim : ℕ) (frame : List ℕ) → m ≡ Frame index seen trim frame
    → P (silently (hear_frame past (waiting_in index seen trim frame)) ToSecondary
    (Heard 1 (is_full past.secondary_inbox)) (Some (Frame index seen trim frame))))
    → ((t : Tuple) (client number : ℕ) → m ≡ Number t client number
    → P (silently (hear_number past t client number) ToSecondary (Heard 2 false) (Some (Number t client number))))
    → ((n : ℕ) → m ≡ End n
    → P (quietly (hear_end past n) (step_with ToSecondary (Heard 11 false) (Committed n ∷ []) (Some (End n)) [])))
    → (stays_apart m ≡ true → P (silently past ToSecondary (Heard (number_of m) false) (Some m)))
    → P (secondary_hears past m)
unfolding secondary_hears
heard_case P past (Frame index seen trim frame) f n e a = f index seen trim frame refl
heard_case P past (Number t client number) f n e a = n t client number refl
heard_case P past (Begin k) f n e a = a refl
heard_case P past (State bytes) f n e a = a refl
heard_case P past (Page k bytes) f n e a = a refl
heard_case P past (Disk first bytes) f n e a = a refl
heard_case P past (Write k bytes) f n e a = a refl
heard_case P past (Held index seen trim frame) f n e a = a refl
heard_case P past (message.Line t mac flags client own number refused acked window mss base) f n e a = a refl
heard_case P past (Bytes bytes) f n e a = a refl
heard_case P past (End k) f n e a = e k refl
heard_case P past (Known t client number) f n e a = a refl
heard_case P past (Sent frame) f n e a = a refl
heard_case P past (Ack k) f n e a = a refl

-- a message that the primary makes nothing of: no number known, no frame sent, no acknowledgement
abbrev pub is_foreign : Message → Bool
is_foreign (Frame index seen trim frame) = true
is_foreign (Number t client number) = true
is_foreign (Begin n) = true
is_foreign (State bytes) = true
is_foreign (Page k bytes) = true
is_foreign (Disk first bytes) = true
is_foreign (Write k bytes) = true
is_foreign (Held index seen trim frame) = true
is_foreign (message.Line t mac flags client own number refused acked window mss base) = true
is_foreign (Bytes bytes) = true
is_foreign (End n) = true
is_foreign (Known t client number) = false
is_foreign (Sent frame) = false
is_foreign (Ack n) = false

-- what the primary makes of a message
pub heard_back_case : (P : Outcome → Type 0) (past : Past) (m : Message)
    → ((t : Tuple) (client number : ℕ) → m ≡ Known t client number
    → P (outcome_with ToPrimary [] (Some (Known t client number)) (HeardBack 12 past.sent_heard)
    (known_ended past t client number)))
    → ((frame : List ℕ) → m ≡ Sent frame
    → P (outcome_with ToPrimary [] (Some (Sent frame)) (HeardBack 13 (past.sent_heard + 1)) (sent_ended past frame)))
    → ((n : ℕ) → m ≡ Ack n
    → P (outcome_with ToPrimary (Acknowledged n ∷ []) (Some (Ack n)) (HeardBack 14 0) (ack_ended past)))
    → (is_foreign m ≡ true → P (silently past ToPrimary Nothing None)) → P (primary_hears past m)
unfolding primary_hears
heard_back_case P past (Frame index seen trim frame) k s a f = f refl
heard_back_case P past (Number t client number) k s a f = f refl
heard_back_case P past (Begin n) k s a f = f refl
heard_back_case P past (State bytes) k s a f = f refl
heard_back_case P past (Page n bytes) k s a f = f refl
heard_back_case P past (Disk first bytes) k s a f = f refl
heard_back_case P past (Write n bytes) k s a f = f refl
heard_back_case P past (Held index seen trim frame) k s a f = f refl
heard_back_case P past (message.Line t mac flags client own number refused acked window mss base) k s a f = f refl
heard_back_case P past (Bytes bytes) k s a f = f refl
heard_back_case P past (End n) k s a f = f refl
heard_back_case P past (Known t client number) k s a f = k t client number refl
heard_back_case P past (Sent frame) k s a f = s frame refl
heard_back_case P past (Ack n) k s a f = a n refl
