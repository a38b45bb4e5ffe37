-- The SYN is shown where it is among the symbols.
use Rattle.std.proofs.Common.{◌≡◌, ℕ, Bool, Some, if◌then◌else◌, sym, ap, subst, ◌∙◌, ◌^◌, ◌<◌}
use Rattle.tcp_track.specs.Segments.{syn}
use Rattle.line_release.specs.Both.{both_of}
use Rattle.settle_rules.specs.Matching.{client_or_zero}
use Rattle.settle_rules.specs.Release.{has_symbol}
use Rattle.line_settle.proofs.ShownLemmas.{shown_symbols, symbols_of}
use Rattle.line_settle.proofs.parts.release_shown.Goals as goal

pub returns-clause-shown : goal.returns-clause-shown
returns-clause-shown c =
    let b = both_of c.args.both.now in
    let old = c.args.shown.now in
    let has = has_symbol syn (symbols_of b c.args.from c.args.to) in
    let fits : b.number < 2 ^ 32 = subst (λ (n : ℕ). n < 2 ^ 32) c.number_of.ensures c.number_of.type_inv in
    c.shown_with.ensures
    ∙ (ap (λ (t : Bool). if t then Some (record { client = c.client_or_zero.result; own = c.number_of.result }) else
    old)
    c.has_syn_between-has_syn.ensures
    ∙ (ap (λ (n : ℕ). if has then Some (record { client = n; own = c.number_of.result }) else old)
    c.client_or_zero.ensures
    ∙ (ap (λ (n : ℕ). if has then Some (record { client = client_or_zero b.mine.opening; own = n }) else old)
    c.number_of.ensures
    ∙ sym (shown_symbols b c.args.from c.args.to (client_or_zero b.mine.opening) old fits))))
