use Rattle.std.proofs.Common.{◌≡◌, ◌+◌, ◌*◌, ◌++◌, take}
use Rattle.arrayvec.specs.ArrayVec.{array_vec_len}
use Rattle.machine_bytes.specs.Spelling.{words_bytes}
use Rattle.machine_bytes.proofs.writing.put_words.Given as goal

-- the words so far
abbrev pub invariant-loop-word : goal.invariant-loop-word
invariant-loop-word l =
    (l.out.items ≡ l.fn.out.items ++ words_bytes (take l.word-index l.words))
    × (array_vec_len l.out ≡ array_vec_len l.fn.out + 4 * l.word-index)
