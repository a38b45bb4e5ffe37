use Rattle.std.proofs.Common.{◌≡◌, ℕ, List, [], ◌∷◌, length, take, drop, get_or, ap, sym, ◌∙◌, arith, length-drop}
use Rattle.std.proofs.lemmas.List.{take_all}
use Rattle.rv_core.proofs.registers.Hart.fields.Goals as goal

-- x1 to x31
rest : (x y : List ℕ) → length x ≡ 32 → y ≡ take 31 (drop 1 x) → y ≡ drop 1 x
rest x y l e = e ∙ take_all 31 (drop 1 x) (omega (arith, length-drop 1 x))

-- and x0 before them, which is 0
whole : (x : List ℕ) → length x ≡ 32 → get_or x 0 0 ≡ 0 → 0 ∷ drop 1 x ≡ x
whole [] l z = absurd (omega arith)
whole (a ∷ s) l z = ap (λ b. b ∷ s) (sym z)

pub returns-clause-value : goal.returns-clause-value
returns-clause-value c =
    let e = rest c.self.inside.x c.copy_from_slice.new.self c.self.told c.copy_from_slice.ensures.after in
    rw (← c.self.view_is, e)

pub returns-clause-back : goal.returns-clause-back
returns-clause-back c =
    let e = rest c.self.inside.x c.copy_from_slice.new.self c.self.told c.copy_from_slice.ensures.after in
    let w = whole c.self.inside.x c.self.told c.self.invariant.x0 in
    rw (← c.self.view_is, e, w)
