-- A command as the code holds it.
use Rattle.std.specs.Prelude.{◌≤◌, IsSome}
use Rattle.colo_guests.specs.Images.{image}
use Rattle.command_tasks.specs.declared.words.Command.{Command as HeldCommand}
use Rattle.command_tasks.specs.declared.words.Command.TheVariants as held
use Rattle.command_tasks.specs.declared.words.Run.{Run}
use Rattle.command_tasks.specs.declared.words.Splice.{Splice}
use Rattle.command_tasks.specs.declared.words.WriteImage.{WriteImage}
use Rattle.command_tasks.specs.Words.{Command, ImageWords, RunWords, SpliceWords, image_command, replay_command, solo_command, splice_command}

abbrev pub run_of : Run → RunWords
run_of c =
    record {
      image = c.image.now;
      disk = c.disk.now;
      client = c.client.now;
      lines = c.lines.now;
      out = c.out.now;
      mib = c.mib;
    }

abbrev pub splice_of : Splice → SpliceWords
splice_of c = record { log = c.log.now; out = c.out.now }

abbrev pub image_of : WriteImage → ImageWords
image_of c = record { name = c.name.now; out = c.out.now }

abbrev pub command_of : HeldCommand → Command
command_of (held.Replay c) = replay_command (run_of c)
command_of (held.Solo c) = solo_command (run_of c)
command_of (held.Splice c) = splice_command (splice_of c)
command_of (held.WriteImage c) = image_command (image_of c)

-- memory has 1 to 64 MiB
abbrev pub HasRam : Run → Type 0
HasRam c = (1 ≤ c.mib) × (c.mib ≤ 64)

-- a run has memory of that size, and there is a demo image of the name that `image` is given
abbrev pub IsWell : HeldCommand → Type 0
IsWell (held.Replay c) = HasRam c
IsWell (held.Solo c) = HasRam c
IsWell (held.Splice c) = Unit {0}
IsWell (held.WriteImage c) = IsSome (image c.name.now)
