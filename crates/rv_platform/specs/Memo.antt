-- A word that was decoded, with its instruction.
use Rattle.std.specs.Prelude.{◌≡◌, Some}
use Rattle.rv_isa.specs.Table.{decode}
use Rattle.rv_platform.specs.declared.memo.Decoded.{Decoded}

abbrev pub IsDecoded : Decoded → Type 0
IsDecoded d = decode d.word ≡ Some d.instr
