-- The facts of a list, written as a list: `a & b & tt`.

-- a fact of one item, and those of the items after it
infixr 5 ◌&◌
pub ◌&◌ : {A B : Type 0} → A → B → A × B
a & b = (a, b)
