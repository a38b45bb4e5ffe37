use Rattle.std.proofs.Common.{◌≡◌, ℕ, ◌<◌, drop, arith, ap, sym, ◌∙◌}
use Rattle.std.proofs.lemmas.List.{take_rest}
use Rattle.inet_frame.specs.Options.{option_len, mss_of}
use Rattle.inet_frame.proofs.OptionLemmas.{mss_none, mss_here, mss_later_len, mss_later_kind}
use Rattle.inet_frame.proofs.options.mss.Goals as goal
use Rattle.inet_frame.proofs.options.mss.Goals.{
  else-len-eq4-via-then-len-eq4+else-rest-eq-MAXIMUM_SEGMENT_SIZE,
  else-len-eq4-via-else-len-eq4,
}

pub returns-then-len-eq0 : goal.returns-then-len-eq0
returns-then-len-eq0 c =
    sym (mss_none c.loop-rest.rest.now (sym c.option_len-len.ensures.value ∙ c.if-len-eq0.true)) ∙ c.loop-rest.invariant

pub returns-then-rest-eq-MAXIMUM_SEGMENT_SIZE : goal.returns-then-rest-eq-MAXIMUM_SEGMENT_SIZE
returns-then-rest-eq-MAXIMUM_SEGMENT_SIZE c =
    let len : option_len c.loop-rest.rest.now ≡ 4 = sym c.option_len-len.ensures.value ∙ c.if-len-eq4.true in
    c.be16.ensures
    ∙ (sym (mss_here c.loop-rest.rest.now len c.if-rest-eq-MAXIMUM_SEGMENT_SIZE.true) ∙ c.loop-rest.invariant)

pub loop-rest-preserved : goal.loop-rest-preserved
loop-rest-preserved c =
    let rest = c.loop-rest.rest.now in
    let value = c.option_len-len.ensures.value in
    let some : 0 < option_len c.loop-rest.rest.now = omega (arith, c.option_len-len.ensures.value) in
    let later : mss_of c.loop-rest.rest.now ≡ mss_of (drop (option_len c.loop-rest.rest.now) c.loop-rest.rest.now) =
    elim c.else-len-eq4.branch [
      | else-len-eq4-via-then-len-eq4+else-rest-eq-MAXIMUM_SEGMENT_SIZE w ↦ mss_later_kind rest some
          w.if-rest-eq-MAXIMUM_SEGMENT_SIZE.false
      | else-len-eq4-via-else-len-eq4 w ↦ mss_later_len rest some (λ four. w.if-len-eq4.false (value ∙ four))
    ] in
    ap mss_of (take_rest rest c.option_len-len.result)
    ∙ (ap (λ (n : ℕ). mss_of (drop n c.loop-rest.rest.now)) value ∙ (sym later ∙ c.loop-rest.invariant))
