-- Each step releases what one segment more carries.
use Rattle.std.proofs.Common.{◌≡◌, ℕ, ◌+◌, ◌<◌, List, [], ◌∷◌, ◌++◌, length, map, take, get_or, Option, sym, ap, ◌∙◌, arith, append_assoc}
use Rattle.std.specs.List.{flat_map}
use Rattle.std.proofs.lemmas.List.{take_more}
use Rattle.std.proofs.lemmas.Grind.{flat_map-append}
use Rattle.tcp_track.specs.declared.answers.Took.{Took}
use Rattle.tcp_track.specs.declared.answers.What.TheVariants.{Ignored}
use Rattle.tcp_track.specs.declared.openings.Opening.{Opening}
use Rattle.line_release.specs.Both.{both_of}
use Rattle.settle_rules.specs.Matching.{client_or_zero}
use Rattle.settle_rules.specs.Release.{Released, released_frame}
use Rattle.settle_rules.specs.Settle.{release_again, shown_after}
use Rattle.line_settle.proofs.OutLemmas.{added_twice}
use Rattle.line_settle.proofs.ShownLemmas.{shown_after-append, one_more_again}
use Rattle.line_settle.proofs.parts.release_all_again.Goals as goal

abbrev no_took : Took
no_took = record { tuple = record { addr = 0; port = 0; guest = 0 }; what = Ignored }

pub loop-took-preserved : goal.loop-took-preserved
loop-took-preserved c =
    let b = both_of c.args.both.now in
    let tooks = c.args.tooks.now in
    let k = c.loop-took.took-index in
    let done = flat_map (release_again b c.args.edge) (take k tooks) in
    let took = get_or tooks k no_took in
    let next = release_again b c.args.edge took in
    let more : flat_map (release_again b c.args.edge) (take (k + 1) tooks) ≡ done ++ next =
    one_more_again b c.args.edge tooks k no_took c.loop-took-test.true in
    record {
      out = added_twice c.args.out.now c.loop-took.out c.release_again.new.out done next c.loop-took.invariant.out
          c.in_ok-release_again.ensures.ok
          ∙ sym (ap (λ (xs : List Released). c.args.out.now ++ map released_frame xs) more);
      shown = c.in_ok-release_again.ensures.shown
          ∙ (ap (λ (s : Option Opening). shown_after (client_or_zero b.mine.opening) s next) c.loop-took.invariant.shown
          ∙ sym (ap (λ (xs : List Released). shown_after (client_or_zero b.mine.opening) c.args.shown.now xs) more
          ∙ shown_after-append (client_or_zero b.mine.opening) c.args.shown.now done next));
    }
