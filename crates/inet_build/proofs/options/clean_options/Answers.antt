-- Each turn cleans one option.
use Rattle.std.proofs.Common.{arith}
use Rattle.inet_build.proofs.OptionLemmas.{walked_put, walked_cleaned, walked_found, found_then, found_else}
use Rattle.inet_build.proofs.options.clean_options.Goals as goal
use Rattle.inet_build.proofs.options.clean_options.Goals.{then-clean_option, else-clean_option}

pub loop-len-smaller : goal.loop-len-smaller
loop-len-smaller c =
    let within = c.loop-len.invariant.within in
    let same = c.loop-len.invariant.same_len in
    omega arith

pub loop-len-preserved : goal.loop-len-preserved
loop-len-preserved c =
    walked_put _ _ _ _ _ _ _ _ _ c.loop-len.invariant c.loop-len-test.true
    (omega arith) c.clean_option.ensures.cleaned c.option_len-len-in-loop-len.ensures.value
    (elim c.if-clean_option.branch [
      | then-clean_option w ↦ found_then _ _ _ _ c.clean_option.ensures.unwanted w.if-clean_option.true w.found-is
      | else-clean_option w ↦ found_else _ _ _ _ c.clean_option.ensures.unwanted w.if-clean_option.false w.found-is
    ])

pub shape_of-options : goal.shape_of-options
shape_of-options c = c.loop-len.invariant.same_len

pub returns-clause-cleaned : goal.returns-clause-cleaned
returns-clause-cleaned c = walked_cleaned _ _ _ _ _ c.loop-len.invariant (omega arith)

pub returns-clause-found : goal.returns-clause-found
returns-clause-found c = walked_found _ _ _ _ _ c.loop-len.invariant (omega arith)
