-- Each item keeps what stands.
use Rattle.std.proofs.Common.{subst, Option}
use Rattle.tcp_track.specs.Lines.{sent_of}
use Rattle.tcp_track.specs.Stands.{Stands}
use Rattle.tcp_track.specs.declared.openings.Opening.{Opening}
use Rattle.tcp_track.proofs.SymbolLemmas.{line_fits, client_or_none}
use Rattle.tcp_track.proofs.AckedLemmas.{acked_was_sent}
use Rattle.tcp_track.proofs.ResetLemmas.{reset_stands, refusal_stands}
use Rattle.tcp_track.proofs.law.lines_stand.Goals as goal

pub returns : goal.returns
returns c = record {
  opening = λ items t. (line_fits t items).opened;
  symbols = λ items t o offset x e f. subst (λ (p : Option Opening). Stands (sent_of items) t
      (client_or_none p) offset x) e ((line_fits t items).stands offset x f);
  acked = acked_was_sent;
  reset = reset_stands;
  refused = refusal_stands;
}
