-- The sum is made part by part.
use Rattle.std.proofs.Common.{ℕ, ◌-◌, List, ap, ◌∙◌}
use Rattle.inet_frame.specs.Sum.{ones_sum, pseudo_sum}
use Rattle.inet_build.proofs.SegmentLemmas.{sum_parts}
use Rattle.inet_build.specs.Segment.{addresses, mss_option, tcp_bytes}
use Rattle.inet_build.proofs.build.tcp_checksum.Goals as goal

pub returns : goal.returns
returns c =
    let s = c.args.fields.now in
    let payload = c.args.payload.now in
    let start = c.pseudo_sum-pseudo.ensures ∙ (ap (λ
    (xs : List ℕ). pseudo_sum xs 6 c.tcp_len.result) c.addresses.ensures
    ∙ ap (λ (n : ℕ). pseudo_sum (addresses s.tuple.addr) 6 n) c.tcp_len.ensures.value) in
    let header = c.ones_sum-header.ensures ∙ ap (λ
    (xs : List ℕ). ones_sum c.pseudo_sum-pseudo.result xs) c.tcp_header.ensures.bytes in
    let option = c.option_sum-option.ensures ∙ ap (λ (n : ℕ). ones_sum n (mss_option s.mss)) header in
    let sum = c.ones_sum.ensures ∙ (ap (λ (n : ℕ). ones_sum n payload) option
    ∙ sum_parts s payload c.pseudo_sum-pseudo.result) in
    ap (λ (n : ℕ). 65535 - n) (sum ∙ ap (λ (n : ℕ). ones_sum n (tcp_bytes s payload 0)) start)
