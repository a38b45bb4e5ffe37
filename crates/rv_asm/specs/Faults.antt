-- What a line gives, or its first fault.
use Rattle.std.specs.Prelude.{Result, Ok, Err}
use Rattle.rv_asm.specs.declared.fault.Why.{Why}

infixl 10 ◌>>=◌
abbrev pub ◌>>=◌ : {A B : Type 0} → Result A Why → (A → Result B Why) → Result B Why
(Ok x) >>= f = f x
(Err why) >>= f = Err why
