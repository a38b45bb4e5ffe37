-- The parts of a platform as the code holds them: the CSRs have the devices' line, and the bus has
-- a copy of the lines and the timer. Between two steps each copy is what it is a copy of.
use Rattle.std.specs.Prelude.{◌≡◌, ℕ, false, List, ◌++◌, length}
use Rattle.rv_traps.specs.Fields.{fields_of}
use Rattle.rv_platform.specs.Step.{PlatformState, Step, clint_of, is_raised}
use Rattle.rv_platform.specs.declared.parts.Parts.{Parts}

-- the platform that the parts make
abbrev pub platform_of : Parts → PlatformState
platform_of parts = record {
  hart = parts.hart;
  csrs = fields_of parts.csrs;
  net = parts.board.net;
  blk = parts.board.blk;
  memory = parts.board.ram;
}

-- the copies are up to date, and no store to a register waits to be taken over
pub record IsSettled (parts : Parts) : Type 0 where
  pub external : parts.csrs.external ≡ is_raised parts.board.net parts.board.blk
  pub clint : parts.board.clint ≡ clint_of (fields_of parts.csrs)
  pub touched : parts.board.touched ≡ false
  pub notified : parts.board.notified ≡ false

-- the devices are of the same kinds, and memory has the same size
pub record KeepsKinds (old new : PlatformState) : Type 0 where
  pub net : new.net.device.kind ≡ old.net.device.kind
  pub blk : new.blk.kind ≡ old.blk.kind
  pub memory : length new.memory.bytes ≡ length old.memory.bytes

-- the platform is as a step left it, and its frames were added to those before
pub record Leaves (step : Step) (platform : PlatformState) (before after : List (List ℕ)) : Type 0
  where
    pub platform_is : platform ≡ step.platform
    pub frames_are : after ≡ before ++ step.frames
