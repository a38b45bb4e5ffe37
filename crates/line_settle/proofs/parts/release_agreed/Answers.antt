-- The SYN last released is among what goes out again, or then.
use Rattle.std.proofs.Common.{◌≡◌, Option, sym, ap, ◌∙◌}
use Rattle.std.specs.List.{flat_map}
use Rattle.tcp_track.specs.declared.openings.Opening.{Opening}
use Rattle.line_release.specs.Both.{both_of}
use Rattle.settle_rules.specs.Matching.{client_or_zero}
use Rattle.settle_rules.specs.Release.{release_symbols}
use Rattle.settle_rules.specs.Settle.{release_again, shown_after}
use Rattle.line_settle.proofs.ShownLemmas.{shown_after-append}
use Rattle.line_settle.proofs.parts.release_agreed.Goals as goal

pub returns-clause-shown : goal.returns-clause-shown
returns-clause-shown c =
    let b = both_of c.args.both.now in
    let client = client_or_zero b.mine.opening in
    let again = flat_map (release_again b c.args.edge) c.args.tooks.now in
    let new = release_symbols b c.args.edge c.args.to in
    c.in_ok-release_new.ensures.shown
    ∙ (ap (λ (s : Option Opening). shown_after client s new) c.in_ok-release_all_again.ensures.shown
    ∙ sym (shown_after-append client c.args.shown.now again new))
