use Rattle.std.proofs.Common.{rules, ◌≤◌, replicate, refl, ap, ◌∙◌, arith}
use Rattle.std.proofs.lemmas.Grind.{common_steps}
use Rattle.std.proofs.lemmas.List.{places}
use Rattle.elf_load.proofs.PlaceLemmas.{place_nothing, place_segment_is}
use Rattle.elf_load.proofs.placing.place.Goals as goal

pub returns : goal.returns
returns c =
    place_segment_is c.args.bytes.now c.args.memory.now c.args.segment.now c.copy_from_slice.new.self
    c.fill.new.self _ _ _ _ refl c.content-content.ensures.len (omega arith) (omega arith)
    (c.copy_from_slice.ensures.after ∙ c.content-content.ensures.bytes) (omega arith)
    (c.fill.ensures.after (λ y h. h) ∙ ap (λ n. replicate n 0) (search (rules, places))) (grind (arith, common_steps))

pub returns-then-segment-eq0 : goal.returns-then-segment-eq0
returns-then-segment-eq0 c =
    place_nothing c.args.bytes.now c.args.memory.now c.args.segment.now c.if-segment-eq0.true c.requires.no_overrun
