-- The frames so far and those that wait are the frames that waited.
use Rattle.std.proofs.Common.{◌≡◌, ◌++◌, length}
use Rattle.command_inputs.proofs.client.take_frames.Given as goal

abbrev pub invariant-loop-frames : goal.invariant-loop-frames
invariant-loop-frames l = record {
  taken : l.initial.unframer.frames ≡ l.frames ++ l.unframer.frames;
  rest : l.unframer ≡ record l.initial.unframer { frames = l.unframer.frames };
}

abbrev pub decreases-loop-frames : goal.decreases-loop-frames
decreases-loop-frames l = length l.unframer.frames
