-- What is read is written again.
use Rattle.std.proofs.Common.{◌≡◌, ℕ, zero, suc, ◌+◌, ◌*◌, ◌≤◌, true, List, ◌++◌, length, take, drop, refl, ap, sym, ◌∙◌, arith, length-drop}
use Rattle.std.proofs.Math.Seq.{take-add}
use Rattle.virt_queue.specs.declared.fields.QueueFields.{QueueFields}
use Rattle.shared_definitions.specs.Bytes.{AreBytes}
use Rattle.shared_definitions.proofs.ByteLemmas.{AreBytes-drop}
use Rattle.machine_bytes.proofs.NumberLemmas.{written_2, written_4, written_8, written_flag}
use Rattle.machine_bytes.specs.Reading.{number_at, is_flag, words_of, csrs_of, queue_of, device_of}
use Rattle.machine_bytes.specs.Spelling.{words_bytes, csr_bytes, queue_bytes, register_bytes}

-- behind the first i bytes stand the next n
pub more : (b front part : List ℕ) (i n : ℕ) → front ≡ take i b → part ≡ take n (drop i b) → front ++ part ≡ take
    (i + n) b
more b front part i n e f = rw (e, f) (sym (take-add i n b))

pub queue_written : (b : List ℕ) → AreBytes b → 36 ≤ length b → is_flag (number_at 4 b 4) ≡ true →
    queue_bytes (queue_of b) ≡ take 36 b
unfolding queue_bytes queue_of
queue_written b h l flag =
    more b _ _ 34 2 (more b _ _ 32 2 (more b _ _ 24 8 (more b _ _ 16 8 (more b _ _ 8 8 (more b _ _ 4 4
    (written_4 b 0 h (omega arith))
    (written_flag b 4 h (omega arith) flag))
    (written_8 b 8 h (omega arith)))
    (written_8 b 16 h (omega arith)))
    (written_8 b 24 h (omega arith)))
    (written_2 b 32 h (omega arith)))
    (written_2 b 34 h (omega arith))

pub words_written : (n : ℕ) (b : List ℕ) → AreBytes b → 4 * n ≤ length b → words_bytes (words_of n b) ≡ take (4 * n) b
unfolding words_bytes words_of
words_written zero b h l = refl
words_written (suc n) b h l =
    let rest : words_bytes (words_of n (drop 4 b)) ≡ take (4 * n) (drop 4 b) =
    words_written n (drop 4 b) (AreBytes-drop 4 b h) (omega (arith, length-drop 4 b)) in
    let count : 4 + 4 * n ≡ 4 * suc n = omega arith in
    more b _ _ 4 (4 * n) (written_4 b 0 h (omega arith)) rest ∙ ap (λ (k : ℕ). take k b) count

pub csrs_written : (b : List ℕ) → AreBytes b → 56 ≤ length b → is_flag (number_at 4 b 28) ≡ true →
    csr_bytes (csrs_of b) ≡ take 56 b
unfolding csr_bytes csrs_of
csrs_written b h l flag =
    more b _ _ 48 8 (more b _ _ 40 8 (more b _ _ 32 8 (more b _ _ 28 4 (more b _ _ 24 4 (more b _ _ 20 4
    (more b _ _ 16 4 (more b _ _ 12 4 (more b _ _ 8 4 (more b _ _ 4 4
    (written_4 b 0 h (omega arith))
    (written_4 b 4 h (omega arith)))
    (written_4 b 8 h (omega arith)))
    (written_4 b 12 h (omega arith)))
    (written_4 b 16 h (omega arith)))
    (written_4 b 20 h (omega arith)))
    (written_4 b 24 h (omega arith)))
    (written_flag b 28 h (omega arith) flag))
    (written_8 b 32 h (omega arith)))
    (written_8 b 40 h (omega arith)))
    (written_8 b 48 h (omega arith))

pub registers_written : (b : List ℕ) (p q : QueueFields) → AreBytes b → 28 ≤ length b →
    register_bytes (device_of b p q) ≡ take 28 b
unfolding register_bytes device_of
registers_written b p q h l =
    more b _ _ 24 4 (more b _ _ 20 4 (more b _ _ 16 4 (more b _ _ 8 8 (more b _ _ 4 4
    (written_4 b 0 h (omega arith))
    (written_4 b 4 h (omega arith)))
    (written_8 b 8 h (omega arith)))
    (written_4 b 16 h (omega arith)))
    (written_4 b 20 h (omega arith)))
    (written_4 b 24 h (omega arith))
