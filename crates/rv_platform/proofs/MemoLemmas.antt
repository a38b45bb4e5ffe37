-- The first entries of a memo.
use Rattle.std.proofs.Common.{◌≡◌, ℕ, pos, Some, refl, All, replicate}
use Rattle.std.proofs.lemmas.List.Elements.{All-replicate}
use Rattle.rv_isa.specs.Table.{decode, read_by, table}
use Rattle.rv_isa.specs.declared.instr.Instr.TheVariants.{Addi}
use Rattle.rv_platform.specs.Memo.{IsDecoded}
use Rattle.rv_platform.specs.declared.memo.Decoded.{Decoded}

pub nop_decoded : decode 0x13 ≡ Some (Addi 0 0 (pos 0))
unfolding decode read_by table
nop_decoded = refl

pub all_decoded : (n : ℕ) (d : Decoded) → IsDecoded d → All IsDecoded (replicate n d)
all_decoded n d h = All-replicate IsDecoded n d h
