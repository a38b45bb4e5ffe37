-- The clauses beside the value are facts of the table.
use Rattle.std.proofs.Common.{sym, ◌∙◌, subst, rules}
use Rattle.std.specs.Prelude.{IfSome}
use Rattle.rv_isa.specs.Ranges.{IsWithin}
use Rattle.rv_isa.specs.Table.{IsEncodable}
use Rattle.rv_isa.proofs.RowLemmas.{one_row, row_at, all_unfit}
use Rattle.rv_isa.proofs.RangeLemmas.{within, encodable}
use Rattle.rv_isa.proofs.decoder.decode.Goals as goal

pub returns-clause-one_row : goal.returns-clause-one_row
returns-clause-one_row c = one_row c.args.word

pub returns-clause-row : goal.returns-clause-row
returns-clause-row c row there f = c.instruction.ensures ∙ row_at c.args.word row there f

pub returns-clause-none : goal.returns-clause-none
returns-clause-none c none = all_unfit c.args.word (sym c.instruction.ensures ∙ none)

pub returns-clause-within : goal.returns-clause-within
returns-clause-within c = subst (λ o. IfSome o IsWithin) (sym c.instruction.ensures) (within c.args.word (search rules))

pub returns-clause-encodable : goal.returns-clause-encodable
returns-clause-encodable c =
    subst (λ o. IfSome o IsEncodable) (sym c.instruction.ensures) (encodable c.args.word (search rules))
