-- The run that a log names: one guest, from the start, through the turns of the single run, given
-- the client's frames.
use Rattle.std.specs.Prelude.{Option, ℕ, List, map, ◌==◌, find, None, Some}
use Rattle.inet_frame.specs.Fields.{TcpFields}
use Rattle.inet_frame.specs.Frame.{seen_of}
use Rattle.inet_frame.specs.Options.{options_of}
use Rattle.inet_build.specs.Edit.{clean_syn, update_checksum}
use Rattle.inet_build.specs.Options.{clean_options}
use Rattle.shared_definitions.specs.Overwrite.{overwrite}
use Rattle.tcp_track.specs.Stands.{segments}
use Rattle.frame_mirror.specs.declared.ingress.Entry.{Entry}
use Rattle.frame_mirror.specs.Accepted.{entry_of}
use Rattle.frame_mirror.specs.declared.ring.Waiting.{Waiting}
use Rattle.tcp_track.specs.declared.openings.Opening.{Opening}
use Rattle.replay_log.specs.declared.records.Record.{Record}
use Rattle.splice_run.specs.Frames.{seen_in, turn_with}
use Rattle.splice_run.specs.Runs.{given_to, run_turns, stream_frame}
use Rattle.splice_run.specs.Single.{taken_turns}
use Rattle.splice_run.specs.Tokens.{Taken}
use Rattle.state_wire.specs.Run.{Run}
use Rattle.pair_theorem.specs.Past.{Start}

-- what a frame of the client stream is to the pair
unfoldable pub stream_entry : Start → ℕ → Entry
unfolding entry_of clean_syn clean_options options_of update_checksum overwrite seen_of
stream_entry a i = entry_of (stream_frame a.stream i)

-- What the client had seen when a frame came: as the start's inbox has it, where the frame waits
-- there from before, else as the log's client event says.
abbrev pub seen_with : Option Waiting → Option (Option Opening) → Option (Option Opening)
seen_with None told = told
seen_with (Some w) told = Some w.seen

unfoldable pub seen_of_index : Start → List Record → ℕ → Option (Option Opening)
unfolding seen_in
seen_of_index a log i =
    seen_with (find (λ (w : Waiting). w.index == i) a.inbox) (seen_in log i)

-- the start's run after these turns of the log
unfoldable pub run_of : Start → List Record → List Taken → Run
unfolding run_turns given_to seen_of_index
run_of a log turns =
    run_turns a.kind a.stream a.run (map (turn_with (seen_of_index a log)) turns)

-- the run, and what it sent
unfoldable pub the_run : Start → List Record → Run
unfolding run_of taken_turns
the_run a log = run_of a log (taken_turns log)

unfoldable pub run_segments : Start → List Record → List TcpFields
unfolding the_run seen_of
run_segments a log = segments (the_run a log).sent
