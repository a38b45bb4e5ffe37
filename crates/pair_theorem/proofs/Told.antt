-- What the steps of a log tell: the record of each, and the segments that it releases with all their fields.
use Rattle.std.specs.Prelude.{ℕ, List, [], map, None, Some}
use Rattle.settle_rules.specs.Release.{Released, tcp}
use Rattle.replay_log.specs.declared.lines.Line.{Line}
use Rattle.replay_log.specs.declared.records.Answer.{Answer}
use Rattle.replay_log.specs.declared.records.Mark.{Mark}
use Rattle.pair_theorem.specs.Past.{Step}
use Rattle.pair_theorem.proofs.WorkedFrames.{worked_segment}

pub record Told : Type 0 where
  pub line : Line
  pub answer : Answer
  pub marks : List Mark
  pub released : List Released

abbrev pub told_by : Step → Told
told_by s = record {
  line = s.entry.line;
  answer = s.entry.answer;
  marks = s.entry.marks;
  released = s.released;
}

abbrev pub told : List Step → List Told
told steps = map told_by steps

abbrev pub plain : Line → Answer → Told
plain line answer = record { line = line; answer = answer; marks = []; released = [] }

abbrev pub marked : Line → Answer → List Mark → Told
marked line answer marks = record { line = line; answer = answer; marks = marks; released = [] }

abbrev pub releases : Line → Answer → List Mark → List Released → Told
releases line answer marks released =
    record { line = line; answer = answer; marks = marks; released = released }

-- the SYN under the number that the client knows
abbrev pub syn_out : Released
syn_out = tcp (worked_segment 5000 0x12 (Some 1460)) []

-- bytes at a sequence number
abbrev pub data_out : ℕ → List ℕ → Released
data_out seq payload = tcp (worked_segment seq 0x18 None) payload
