-- Two machines that an image of bytes boots, with the frames of a stream of bytes, are a start.
use Rattle.std.proofs.Common.{◌≡◌, ℕ, List, [], ◌∷◌, ◌++◌, All, Result, Ok, Err, false, flat_map, length, sym, ap, subst, ◌∙◌}
use Rattle.std.proofs.lemmas.List.{append-nil}
use Rattle.std.proofs.lemmas.List.Elements.{All-nil, All-cons}
use Rattle.std.proofs.Math.Seq.{drop-append_seam, take-append_seam}
use Rattle.std.specs.Int.{to_be_bytes, w32}
use Rattle.shared_definitions.specs.Bytes.{AreBytes}
use Rattle.shared_definitions.proofs.ByteLemmas.{AreBytes-drop, AreBytes-take}
use Rattle.sock_link.specs.Stream.{record_of, stream_of}
use Rattle.file_steps.specs.Plans.{Refusal}
use Rattle.guest_machine.specs.Guest.{MachineParts}
use Rattle.guest_starts.specs.Laws.{MachinesStart}
use Rattle.state_wire.specs.Guest.{Meaning}
use Rattle.command_inputs.specs.Client.{read_client}
use Rattle.command_inputs.specs.Laws.{ReadsClients, ReadsMachines}
use Rattle.command_inputs.specs.Machine.{IsBooted, read_machine}
use Rattle.command_inputs.specs.Reading.{and_then}
use Rattle.command_inputs.specs.Start.{Start, read_start}
use Rattle.command_inputs.proofs.TextLemmas.{ok_err, ok_same}
use Rattle.pair_theorem.specs.Starts.{IsStart}
use Rattle.replay_plan.specs.ReplayPlan.{start_with}

-- ---- bytes

front_bytes : (xs ys : List ℕ) → AreBytes (xs ++ ys) → AreBytes xs
front_bytes xs ys h = subst AreBytes (take-append_seam xs ys) (AreBytes-take (length xs) (xs ++ ys) h)

rest_bytes : (xs ys : List ℕ) → AreBytes (xs ++ ys) → AreBytes ys
rest_bytes xs ys h = subst AreBytes (drop-append_seam xs ys) (AreBytes-drop (length xs) (xs ++ ys) h)

sectors_bytes : (sectors : List (List ℕ)) → AreBytes (flat_map (λ (sector : List ℕ). sector) sectors)
    → All AreBytes sectors
sectors_bytes [] h = All-nil AreBytes
sectors_bytes (s ∷ sectors) h =
    let rest = flat_map (λ (sector : List ℕ). sector) sectors in
    All-cons AreBytes s sectors (front_bytes s rest h) (sectors_bytes sectors (rest_bytes s rest h))

frames_bytes : (frames : List (List ℕ)) → AreBytes (stream_of frames) → All AreBytes frames
unfolding record_of
frames_bytes [] h = All-nil AreBytes
frames_bytes (f ∷ frames) h =
    let rest = stream_of frames in
    All-cons AreBytes f frames
    (rest_bytes (to_be_bytes w32 (length f)) f (front_bytes (record_of f) rest h))
    (frames_bytes frames (rest_bytes (record_of f) rest h))

-- ---- both were read

start_back : (m : Result Meaning Refusal) (c : Result (List (List ℕ)) Refusal) (s : Start)
    → and_then m (λ machine. and_then c (λ frames. Ok (record { machine = machine; frames = frames }))) ≡ Ok s
    → (m ≡ Ok s.machine) × (c ≡ Ok s.frames)
start_back (Ok m) (Ok fs) s e =
    let p = ok_same (record { machine = m; frames = fs }) s e in (
      ap (λ (t : Start). Ok t.machine) p,
      ap (λ (t : Start). Ok t.frames) p,
    )
start_back (Ok m) (Err r) s e = absurd (ok_err s r e)
start_back (Err r) c s e = absurd (ok_err s r e)

pub read_back : (mib : ℕ) (image disk client : List ℕ) (s : Start) → read_start mib image disk client ≡ Ok s
    → (read_machine mib image disk ≡ Ok s.machine) × (read_client client ≡ Ok s.frames)
unfolding read_start
read_back mib image disk client s e = start_back (read_machine mib image disk) (read_client client) s e

-- ---- the start

module _ (machines : MachinesStart) (mib : ℕ) (image disk client : List ℕ) (image_bytes : AreBytes image)
    (disk_bytes : AreBytes disk) (client_bytes : AreBytes client) where
  booted_starts : (machine : Meaning) (frames : List (List ℕ)) → IsBooted mib image disk machine
      → All AreBytes frames → IsStart (start_with (record { machine = machine; frames = frames }))
  booted_starts machine frames h bytes =
      let parts : MachineParts = record { state = h.state; turned = 0; spent = false } in
      subst (λ (m : Meaning). IsStart (start_with (record { machine = m; frames = frames }))) (sym h.machine_is)
      (machines mib image (record { mine = h.sectors }) parts frames 0 0
      (record {
        state = h.booted;
        image_bytes = image_bytes;
        disk_bytes = sectors_bytes h.sectors (subst AreBytes (sym h.sectors_are.join) disk_bytes);
        sectors = h.sectors_are.sizes;
      }) bytes)

  pub starts_there : ReadsMachines → ReadsClients → (s : Start) → read_start mib image disk client ≡ Ok s
      → IsStart (start_with s)
  starts_there reads_machines reads_clients s e =
      let p = read_back mib image disk client s e in
      let booted = (reads_machines mib image disk s.machine).0 p.0 in
      let split = (reads_clients client s.frames client_bytes).0 p.1 in
      booted_starts s.machine s.frames booted
      (frames_bytes s.frames (subst AreBytes (split.join ∙ append-nil (stream_of s.frames)) client_bytes))
