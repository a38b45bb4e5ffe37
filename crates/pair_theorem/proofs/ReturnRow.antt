-- Two numbers for one client, which the run went over from and came back to; and the ways in which an accepted frame is
-- missing.
use Rattle.std.specs.Prelude.{◌≡◌, ℕ, true, List, [], ◌∷◌, ◌++◌, map, replicate, None, Some, refl}
use Rattle.inet_build.specs.Segment.{segment_bytes, ipv4_header, tcp_header}
use Rattle.inet_build.specs.declared.fields.Segment.{Segment}
use Rattle.state_wire.specs.Guest.{Kind}
use Rattle.state_wire.specs.Script.{script_kind}
use Rattle.frame_mirror.specs.declared.ring.Waiting.{Waiting}
use Rattle.pair_theorem.specs.FrameParts.{Syn, syns}
use Rattle.pair_theorem.specs.History.{entries, pair_log}
use Rattle.replay_log.specs.declared.lines.Line.{Line}
use Rattle.replay_log.specs.declared.lines.Line.TheVariants.{Primary, Client, ToSecondary, ToPrimary, StopPrimary, Report, Ask}
use Rattle.pair_theorem.specs.LogParts.{NamesPart, accepted_indices, run_indices}
use Rattle.pair_theorem.specs.Past.{Start, Step, boot}
use Rattle.pair_theorem.proofs.Breaking.{OneRun, one_run_from, passes_all}
use Rattle.pair_theorem.proofs.PartTests.{names_from, names_test}
use Rattle.pair_theorem.proofs.WorkedFrames.{client_syn, script_start, worked_kind, worked_segment, worked_start}
use Rattle.pair_theorem.proofs.WorkedSchedules.{primary, secondary}

-- a SYN with a number of its own to a client
abbrev pub syn_to : ℕ → ℕ → Segment
syn_to seq ack = record (worked_segment seq 0x12 (Some 1460)) { ack = ack }

unfoldable pub syn_frame : ℕ → ℕ → List ℕ
unfolding segment_bytes ipv4_header tcp_header
syn_frame seq ack = segment_bytes (syn_to seq ack) []

-- the client with number 1000, another one with number 2000, and the first again
unfoldable return_kind : Kind
unfolding syn_frame
return_kind = script_kind (
    []
    ∷ (syn_frame 5000 1001 ∷ [])
    ∷ (syn_frame 6000 2001 ∷ [])
    ∷ (syn_frame 7000 1001 ∷ [])
    ∷ [])

unfoldable pub return_start : Start
unfolding return_kind
return_start = boot return_kind [] script_start 0 0

-- both guests open, and the SYN goes out
abbrev pub both_open : ℕ → List Line
both_open d = primary d ∷ ToSecondary ∷ secondary d ∷ ToPrimary ∷ ToPrimary ∷ []

-- between the second and the third a checkpoint forgets the first client's number
abbrev pub return_lines : List Line
return_lines =
    both_open 1 ++ both_open 2
    ++ Ask ∷ ToSecondary ∷ ToSecondary ∷ ToSecondary ∷ ToSecondary ∷ ToPrimary ∷ both_open 3

unfoldable pub return_steps : List Step
unfolding pair_log return_start
return_steps = pair_log return_start return_lines

-- the SYNs that went out: two of one client, with two numbers
abbrev pub shown : Syn → ℕ × ℕ
shown x = (x.client, x.number)

pub two_numbers : map shown (syns return_start return_steps) ≡ (1000, 5000) ∷ (2000, 6000) ∷ (1000, 7000) ∷ []
unfolding return_start return_steps syns
two_numbers = refl

return_log : return_steps ≡ pair_log return_start return_lines
unfolding return_steps
return_log = refl

return_passes : passes_all return_start return_steps ≡ true
unfolding return_start return_steps passes_all
return_passes = refl

pub return_is_one_run : OneRun return_start return_lines return_steps
return_is_one_run = one_run_from return_start return_lines return_steps return_log return_passes

-- MISSING: on the link at the report of the primary's stop
abbrev pub lost_lines : List Line
lost_lines = Client ∷ StopPrimary ∷ Report ∷ []

lost_not_taken : run_indices (entries (pair_log worked_start lost_lines)) ≡ []
unfolding pair_log worked_start run_indices
lost_not_taken = refl

lost_passes : names_test worked_start (pair_log worked_start lost_lines) ≡ true
unfolding pair_log worked_start names_test
lost_passes = refl

pub lost_at_the_report : NamesPart worked_start (pair_log worked_start lost_lines)
lost_at_the_report = names_from worked_start (pair_log worked_start lost_lines) lost_passes

-- it still waits: in the inbox, or on the link to the node whose run it is
waiting_passes : names_test worked_start (pair_log worked_start (Client ∷ [])) ≡ true
unfolding pair_log worked_start names_test
waiting_passes = refl

pub waits_in_the_inbox : NamesPart worked_start (pair_log worked_start (Client ∷ []))
waits_in_the_inbox = names_from worked_start (pair_log worked_start (Client ∷ [])) waiting_passes

link_passes : names_test worked_start (pair_log worked_start (Client ∷ StopPrimary ∷ [])) ≡ true
unfolding pair_log worked_start names_test
link_passes = refl

pub waits_on_the_link : NamesPart worked_start (pair_log worked_start (Client ∷ StopPrimary ∷ []))
waits_on_the_link = names_from worked_start (pair_log worked_start (Client ∷ StopPrimary ∷ [])) link_passes

-- it met a full inbox: both hold 4,096 frames, the primary takes one and accepts the next, which the secondary drops
abbrev waiting : Waiting
waiting = record { index = 0; seen = None; trim = 0; frame = [] }

unfoldable pub full_start : Start
unfolding client_syn worked_kind
full_start =
    record (boot worked_kind (replicate 4097 client_syn) script_start 0 0)
    { next = 4096; inbox = replicate 4096 waiting }

abbrev pub full_lines : List Line
full_lines = Primary 0 true 0 0 ∷ Client ∷ ToSecondary ∷ StopPrimary ∷ Report ∷ []

full_accepted : accepted_indices (pair_log full_start full_lines) ≡ 4096 ∷ []
unfolding pair_log full_start
full_accepted = refl

full_passes : names_test full_start (pair_log full_start full_lines) ≡ true
unfolding pair_log full_start names_test
full_passes = refl

pub met_a_full_inbox : NamesPart full_start (pair_log full_start full_lines)
met_a_full_inbox = names_from full_start (pair_log full_start full_lines) full_passes
