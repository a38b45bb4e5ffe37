-- What a checkpoint carries: pages, sectors, and lines in pieces; and the bytes of messages.
use Rattle.std.proofs.Common.{◌≡◌, ℕ, false, List, [], ◌∷◌, ◌++◌, length, map, drop, take, replicate, refl, sym, subst}
use Rattle.std.specs.List.{range_with_len}
use Rattle.settle_rules.specs.Pieces.{piece_at, piece_count}
use Rattle.state_wire.specs.Guest.{GuestState}
use Rattle.state_wire.specs.Script.{script_bytes}
use Rattle.checkpoint_form.specs.Rows.{bytes_messages}
use Rattle.checkpoint_form.specs.State.{disk_messages}
use Rattle.pair_theorem.specs.History.{entries, pair_log}
use Rattle.replay_log.specs.declared.lines.Line.{Line}
use Rattle.replay_log.specs.declared.lines.Line.TheVariants.{ToSecondary, Ask}
use Rattle.replay_log.specs.declared.records.Answer.{Answer}
use Rattle.replay_log.specs.declared.records.Answer.TheVariants.{Zero, Heard}
use Rattle.replay_log.specs.declared.records.Record.{Record}
use Rattle.colo_wire.specs.Spelling.{message_bytes, number_body}
use Rattle.colo_wire.specs.declared.messages.Message.TheVariants.{Number, Ack, Bytes}
use Rattle.pair_theorem.specs.Messages.{number_of}
use Rattle.pair_theorem.specs.Past.{Start, boot}
use Rattle.pair_theorem.proofs.WorkedFrames.{client_syn, worked_kind, worked_tuple}
use Rattle.pair_theorem.proofs.WorkedSchedules.{opening_lines}

-- a guest with 1 MiB of memory and one sector
abbrev pub large_state : GuestState
large_state = record {
  bytes = script_bytes 0 [];
  pages = replicate 256 (replicate 4096 0);
  sectors = replicate 1 (replicate 512 0);
}

unfoldable pub large_start : Start
unfolding worked_kind client_syn
large_start = boot worked_kind (client_syn ∷ []) large_state 0 0

abbrev pub large_lines : List Line
large_lines = opening_lines ++ Ask ∷ replicate 262 ToSecondary

abbrev pub answers : List Record → List Answer
answers log = map (λ (r : Record). r.answer) log

-- 256 pages and one piece of the disk stand between the state and the line, which has no bytes
abbrev pub checkpoint_told : List Answer
checkpoint_told =
    Zero ∷ Heard 3 false ∷ Heard 4 false ∷ replicate 256 (Heard 5 false)
    ++ Heard 6 false ∷ Heard 9 false ∷ Heard 11 false ∷ []

pub checkpoint_kinds : take 262 (drop 7 (answers (entries (pair_log large_start large_lines)))) ≡ checkpoint_told
unfolding pair_log large_start
checkpoint_kinds = refl

-- 129 sectors go in two pieces
pub disk_pieces : map number_of (disk_messages (replicate 129 (replicate 512 0))) ≡ 6 ∷ 6 ∷ []
disk_pieces = refl

-- 65,537 bytes of a line go in two pieces
kinds_of_pieces : (bytes : List ℕ) (n : ℕ)
    → map number_of (map Bytes (map (piece_at 65536 bytes) (range_with_len 0 n))) ≡ map (λ (k : ℕ). 10)
    (range_with_len 0 n)
kinds_of_pieces bytes n = by (range_with_len 0 n)
  where
    by : (ks : List ℕ) → map number_of (map Bytes (map (piece_at 65536 bytes) ks)) ≡ map (λ (k : ℕ). 10) ks
    by [] = refl
    by (k ∷ ks) = λ i. 10 ∷ by ks i

pub two_pieces : (bytes : List ℕ) → length bytes ≡ 65537 → map number_of (bytes_messages bytes) ≡ 10 ∷ 10 ∷ []
two_pieces bytes e =
    subst (λ (n : ℕ). map number_of (map Bytes (map (piece_at 65536 bytes) (range_with_len 0 (piece_count 65536 n))))
    ≡ 10 ∷ 10 ∷ []) (sym e) (kinds_of_pieces bytes 2)

pub one_piece : (bytes : List ℕ) → length bytes ≡ 65536 → map number_of (bytes_messages bytes) ≡ 10 ∷ []
one_piece bytes e =
    subst (λ (n : ℕ). map number_of (map Bytes (map (piece_at 65536 bytes) (range_with_len 0 (piece_count 65536 n))))
    ≡ 10 ∷ []) (sym e) (kinds_of_pieces bytes 1)

-- SPELLINGS
pub ack_bytes : message_bytes (Ack 1) ≡ 0x0E ∷ 0 ∷ 0 ∷ 0 ∷ 4 ∷ 0 ∷ 0 ∷ 0 ∷ 1 ∷ []
unfolding message_bytes
ack_bytes = refl

pub number_bytes : message_bytes (Number worked_tuple 1000 5000) ≡ 2 ∷ 0 ∷ 0 ∷ 0 ∷ 0x10 ∷ 0x0A ∷ 0 ∷ 2 ∷ 2 ∷ 0x9C ∷ 0x40
    ∷ 0 ∷ 7 ∷ 0 ∷ 0 ∷ 3 ∷ 0xE8 ∷ 0 ∷ 0 ∷ 0x13 ∷ 0x88 ∷ []
unfolding message_bytes number_body
number_bytes = refl
