-- An instruction that some word decodes to is within its fields' ranges, and its effect is that of its row.
use Rattle.std.proofs.Common.{◌≡◌, sym, ap, subst, Result, Ok, Err, refl}
use Rattle.std.specs.Prelude.{IfOk, OnOk}
use Rattle.rv_isa.proofs.EncodeLemmas.{range_of_encodable}
use Rattle.rv_traps.specs.CsrState.{KeepsLines}
use Rattle.rv_core.specs.Stores.{IsOneStore}
use Rattle.rv_core.proofs.EffectLemmas.{effect_one_store, effect_keeps_lines}
use Rattle.rv_core.proofs.registers.Hart.execute.Goals as goal

-- what holds at each value holds where there is one
weaken : {A E : Type 0} {P : A → Type 0} {Q : Type 0} (r : Result A E) → ((x : A) → P x → Q) → IfOk r P → OnOk r Q
weaken (Ok x) f p = f x p
weaken (Err e) f p = tt

pub execute_in_range-requires : goal.execute_in_range-requires
execute_in_range-requires g c = range_of_encodable c.args.instr.now c.requires

pub returns-clause-one_store : goal.returns-clause-one_store
returns-clause-one_store g c =
    weaken c.execute_in_range.result
    (λ o e. subst (IsOneStore _ _) (sym (ap (λ z. z.bus) e)) (effect_one_store _ _ _ _ _ _))
    (c.execute_in_range.ensures.effect c.requires.word (c.requires.in_range, c.requires.decodes))

pub returns-clause-lines : goal.returns-clause-lines
returns-clause-lines g c =
    weaken c.execute_in_range.result
    (λ o e. subst (KeepsLines _) (sym (ap (λ z. z.csrs) e)) (effect_keeps_lines _ _ _ _ _ _))
    (c.execute_in_range.ensures.effect c.requires.word (c.requires.in_range, c.requires.decodes))
