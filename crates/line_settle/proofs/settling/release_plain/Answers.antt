-- The SYN last released is among the symbols.
use Rattle.std.proofs.Common.{◌≡◌, sym, ◌∙◌}
use Rattle.line_release.specs.Both.{both_of}
use Rattle.settle_rules.specs.Matching.{client_or_zero}
use Rattle.line_settle.proofs.PartLemmas.{plain_shown}
use Rattle.line_settle.proofs.settling.release_plain.Goals as goal

pub returns-clause-shown : goal.returns-clause-shown
returns-clause-shown c =
    let b = both_of c.args.both.now in
    c.in_ok-release_bytes.ensures.shown ∙ sym (plain_shown b c.args.progress.now c.args.tooks.now (client_or_zero
    b.mine.opening) c.args.shown.now)
