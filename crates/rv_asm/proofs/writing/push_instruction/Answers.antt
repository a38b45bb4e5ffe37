use Rattle.std.proofs.Common.{◌≡◌, ℕ, Bool, List, ◌++◌, ap, ◌∙◌}
use Rattle.std.specs.String.{string_bytes}
use Rattle.std.proofs.lemmas.Result.{on_ok_weaker}
use Rattle.rv_isa.specs.Fields.{aq, rl}
use Rattle.rv_forms.specs.declared.kinds.Kind.{Kind}
use Rattle.rv_forms.specs.declared.kinds.Operands.{Operands}
use Rattle.rv_forms.specs.Forms.{kinds_of, operands_of}
use Rattle.rv_forms.specs.Names.{mnemonic, name_text}
use Rattle.rv_asm.specs.Texts.{statement_text}
use Rattle.rv_asm.proofs.TextLemmas.{after_text}
use Rattle.rv_asm.proofs.writing.push_instruction.Goals as goal

pub returns-clause-ok : goal.returns-clause-ok
unfolding operands_of
returns-clause-ok c =
    let old = string_bytes c.args.into.now in
    let m = mnemonic c.args.row in
    let values : Operands = c.operands_of-values.result in
    let same : values ≡ operands_of c.args.row.syntax c.args.word = c.operands_of-values.ensures in
    let name = name_text m (aq c.args.word) (rl c.args.word) in
    let is_aq : values.aq ≡ aq c.args.word = ap (λ (v : Operands). v.aq) same in
    let is_rl : values.rl ≡ rl c.args.word = ap (λ (v : Operands). v.rl) same in
    let bytes : string_bytes c.push_name.new.into ≡ old ++ name = c.in_ok-push_name.ensures.ok
    ∙ (ap (λ (b : Bool). old ++ name_text m b values.rl) is_aq
    ∙ ap (λ (b : Bool). old ++ name_text m (aq c.args.word) b) is_rl) in
    on_ok_weaker c.push_after_name.result
    (λ e. e ∙ (ap (λ (b : List ℕ). statement_text b c.kinds_of.result.now values) bytes
    ∙ (ap (λ (ks : List Kind). statement_text (old ++ name) ks values) c.kinds_of.ensures
    ∙ (ap (λ (v : Operands). statement_text (old ++ name) (kinds_of c.args.row.syntax) v) same
    ∙ after_text old name (kinds_of c.args.row.syntax) (operands_of c.args.row.syntax c.args.word)))))
    c.push_after_name.ensures.ok
