-- SYN, symbols, reset and refusal go out one after the other.
use Rattle.std.proofs.Common.{◌≡◌, ℕ, Bool, true, List, ◌++◌, length, map, max, is_some, sym, ap, ◌∙◌}
use Rattle.tcp_track.specs.LineFields.{LineFields}
use Rattle.line_release.specs.Both.{both_of}
use Rattle.settle_rules.specs.Release.{released_frame, syn_segments, release_symbols, release_reset, release_refusal}
use Rattle.settle_rules.specs.Survive.{survivor_out}
use Rattle.line_settle.proofs.OutLemmas.{added_twice}
use Rattle.out_compare.proofs.surviving.release_line.Goals as goal

pub returns-clause-ok : goal.returns-clause-ok
unfolding survivor_out
returns-clause-ok c =
    let b = both_of c.args.both.now in
    let old = c.args.out.now in
    let end = c.end_of-end.result in
    let from = c.max-from.result in
    let syns = syn_segments b true in
    let symbols = release_symbols b from end in
    let resets = release_reset b end c.mine.inside.reset in
    let refusals = release_refusal b b.mine.refused (is_some b.mine.refused) in
    let one = added_twice old c.release_syn.new.out c.release_symbols.new.out syns symbols
    c.in_ok-release_syn.ensures.ok
    c.in_ok-release_symbols.ensures.ok in
    let two = added_twice old c.release_symbols.new.out c.release_reset.new.out (syns ++ symbols) resets one
    c.in_ok-release_reset.ensures.ok in
    added_twice old c.release_reset.new.out c.release_refusal.new.out (syns ++ symbols ++ resets) refusals two
    c.in_ok-release_refusal.ensures.ok
    ∙ (ap (λ (n : ℕ). old ++ map released_frame (syns ++ release_symbols b n end
    ++ release_reset b end c.mine.inside.reset ++ refusals)) c.max-from.ensures
    ∙ (ap (λ (l : LineFields). old ++ map released_frame (syns ++ release_symbols b (max 1 l.base) end
    ++ release_reset b end l.reset ++ refusals)) c.mine.view_is
    ∙ ap (λ (n : ℕ). old ++ map released_frame (syns ++ release_symbols b (max 1 b.mine.base) n
    ++ release_reset b n b.mine.reset ++ refusals)) c.end_of-end.ensures))
