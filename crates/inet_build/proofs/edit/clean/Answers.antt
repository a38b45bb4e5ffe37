-- Where no option was overwritten, the frame is as it was.
use Rattle.std.proofs.Common.{◌∙◌, sym, refl}
use Rattle.inet_build.proofs.CleanLemmas.{unclean}
use Rattle.inet_build.proofs.edit.clean.Goals as goal

pub returns-else-clean_options : goal.returns-else-clean_options
returns-else-clean_options c =
    unclean _ _ c.args.ends.now.header_end c.data_offset.result _ _ c.requires.segment
    c.requires.header_end c.data_offset.ensures.value refl refl c.clean_options.ensures.cleaned
    (sym c.clean_options.ensures.found ∙ c.if-clean_options.false)
