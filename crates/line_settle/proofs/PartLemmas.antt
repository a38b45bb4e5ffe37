-- The four rules, part by part, are settling.
use Rattle.std.proofs.Common.{◌≡◌, ℕ, Bool, List, ◌++◌, Option, refl, ap, ◌∙◌}
use Rattle.tcp_track.specs.declared.answers.Took.{Took}
use Rattle.tcp_track.specs.declared.openings.Opening.{Opening}
use Rattle.settle_rules.specs.Matching.{BothLines}
use Rattle.settle_rules.specs.Progress.{Progress}
use Rattle.settle_rules.specs.Release.{Released, release_bare, release_reset}
use Rattle.settle_rules.specs.Settle.{Settled, settle_one, new_edge, shown_after}
use Rattle.line_settle.specs.Parts.{symbols_out, bare_goes, reset_goes, plain_out, all_out, settled_progress, grow_if_turn}
use Rattle.line_settle.proofs.ShownLemmas.{shown_after-append, shown_bare, shown_reset}

pub settle_one_is : (b : BothLines) (p : Progress) (is_turn : Bool) (tooks : List Took) →
    settle_one b p is_turn tooks ≡ record {
      progress = grow_if_turn b is_turn (settled_progress b p (plain_out b p tooks));
      out = all_out b p tooks;
    }
unfolding settle_one symbols_out bare_goes plain_out all_out
settle_one_is b p is_turn tooks = refl

-- the SYN last released is among the symbols
pub plain_shown : (b : BothLines) (p : Progress) (tooks : List Took) (client : ℕ) (shown : Option Opening) →
    shown_after client shown (plain_out b p tooks) ≡ shown_after client shown (symbols_out b p tooks)
unfolding plain_out
plain_shown b p tooks client shown =
    let edge = new_edge b p.edge in
    let symbols = symbols_out b p tooks in
    let bare = release_bare b edge (bare_goes b p tooks) in
    shown_after-append client shown (symbols ++ bare) (release_reset b edge (reset_goes b p))
    ∙ (shown_reset b edge client (shown_after client shown (symbols ++ bare)) (reset_goes b p)
    ∙ (shown_after-append client shown symbols bare
    ∙ shown_bare b edge client (shown_after client shown symbols) (bare_goes b p tooks)))
