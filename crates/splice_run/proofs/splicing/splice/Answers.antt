-- At the log's end all its turns are still to be read.
use Rattle.std.proofs.Common.{◌≡◌, length, reverse, append-nil, arith, sym, ap, ◌∙◌}
use Rattle.std.specs.BTreeMap.{get}
use Rattle.std.specs.Ordering.{nat_cmp}
use Rattle.std.proofs.lemmas.List.{take_all}
use Rattle.splice_run.specs.Backwards.{counted_back}
use Rattle.splice_run.specs.Log.{has_primary_stop}
use Rattle.splice_run.specs.declared.parts.Part.{Part}
use Rattle.splice_run.proofs.BackLemmas.{last_part, all_counted_back}
use Rattle.splice_run.proofs.splicing.splice.Goals.{then-has_primary_stop, else-has_primary_stop}
use Rattle.splice_run.proofs.splicing.splice.Goals as goal

pub loop-end-init : goal.loop-end-init
loop-end-init c =
    let log = c.args.log.now in
    let part : c.if-has_primary_stop.part ≡ last_part (has_primary_stop log) =
    elim c.if-has_primary_stop.branch [
      | then-has_primary_stop w ↦ w.part-is
          ∙ sym (ap last_part (sym c.has_primary_stop.ensures ∙ w.if-has_primary_stop.true))
      | else-has_primary_stop w ↦ w.part-is
          ∙ sym (ap last_part (sym c.has_primary_stop.ensures ∙ w.if-has_primary_stop.false))
    ] in
    record {
      within = omega arith;
      counted =
          rw (take_all (length log) log (omega arith), c.new-turns.ensures.items)
          (append-nil _
          ∙ (ap (λ (p : Part). counted_back (get nat_cmp c.in_ok-seen.seen) p (reverse log)) part
          ∙ all_counted_back (get nat_cmp c.in_ok-seen.seen) log c.in_ok-seen.ensures));
    }
