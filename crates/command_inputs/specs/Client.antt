-- The frames of a client stream, as a function of its bytes.
use Rattle.std.specs.Prelude.{ℕ, zero, suc, ◌+◌, ◌==◌, Bool, ◌&&◌, nat_le, List, [], ◌∷◌, length, take, drop, Result, Ok, Err, if◌then◌else◌}
use Rattle.file_steps.specs.Plans.{Refusal}
use Rattle.sock_link.specs.Stream.{length_of, limit, stream_of}
use Rattle.command_inputs.specs.Reading.{client_refusal}

-- whether a whole record with an allowed length begins these bytes
abbrev pub begins_record : List ℕ → Bool
begins_record bytes = nat_le 4 (length bytes)
    && (nat_le (length_of bytes) limit && nat_le (4 + length_of bytes) (length bytes))

-- the frames of the whole records that begin these bytes, at most so many
abbrev pub frames_within : ℕ → List ℕ → List (List ℕ)
frames_within zero bytes = []
frames_within (suc n) bytes =
    if begins_record bytes then take (length_of bytes) (drop 4 bytes)
    ∷ frames_within n (drop (4 + length_of bytes) bytes) else []

-- the frames of all of them: a record has four bytes at least
unfoldable pub frames_of : List ℕ → List (List ℕ)
frames_of bytes = frames_within (length bytes) bytes

-- a stream that is whole records; else it is refused where the first other one begins
unfoldable pub read_client : List ℕ → Result (List (List ℕ)) Refusal
read_client client =
    let frames = frames_of client in
    if length (stream_of frames) == length client then Ok frames
    else Err (client_refusal (length (stream_of frames)))
