-- The slice is that of the bytes kept.
use Rattle.std.proofs.Common.{◌≡◌, ℕ, ◌-◌, max, min, length, List, take, drop, sym, ap, subst, ◌∙◌}
use Rattle.tcp_track.specs.LineFields.{LineFields, IsWithin}
use Rattle.line_release.proofs.PartLemmas.{bytes_between-is}
use Rattle.line_release.proofs.parts.bytes_between.Goals as goal

pub returns-clause-value : goal.returns-clause-value
returns-clause-value c =
    let l : LineFields = c.args.line.now in
    let within : IsWithin l = subst IsWithin c.line.view_is c.line.invariant in
    let first : c.max-first.result ≡ max l.base 1 = c.max-first.ensures
    ∙ ap (λ (k : LineFields). max k.base 1) c.line.view_is in
    let bytes : c.as_slice-bytes.result.now ≡ l.bytes = c.as_slice-bytes.ensures
    ∙ ap (λ (k : LineFields). k.bytes) c.line.view_is in
    let to : c.saturating_sub.result ≡ c.args.to - max l.base 1 = c.saturating_sub.ensures
    ∙ ap (λ (n : ℕ). c.args.to - n) first in
    let from : c.saturating_sub-2.result ≡ c.args.from - max l.base 1 = c.saturating_sub-2.ensures
    ∙ ap (λ (n : ℕ). c.args.from - n) first in
    let end : c.min-end.result ≡ min (c.args.to - max l.base 1) (length l.bytes) = c.min-end.ensures
    ∙ (λ i. min (to i) (length (bytes i))) in
    let start : c.min-start.result ≡ min (c.args.from - max l.base 1) c.min-end.result = c.min-start.ensures
    ∙ ap (λ (n : ℕ). min n c.min-end.result) from in
    ap (λ xs. take (c.min-end.result - c.min-start.result) (drop c.min-start.result xs)) bytes
    ∙ bytes_between-is l c.args.from c.args.to c.min-start.result c.min-end.result within c.requires end start
