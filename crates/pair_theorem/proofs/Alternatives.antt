-- Other ways to build a pair, and other outputs of one: which part refuses each, on which log.
use Rattle.std.proofs.Common.{◌≡◌, ◌⊎◌, inl, inr, ℕ, ◌+◌, Bool, is_some, true, false, List, [], ◌∷◌, ◌++◌, map, sum, Option, None, Some, refl, sym, ap, subst, ◌∙◌, arith, slice_get, unwrap_or, length, true≢false}
use Rattle.std.specs.List.{concat, list_any}
use Rattle.std.proofs.lemmas.Bool.{and_parts, both_ways, or_left, or_right}
use Rattle.colo_base.specs.declared.fault.Cause.TheVariants.{Wait}
use Rattle.inet_frame.specs.Fields.{TcpFields}
use Rattle.inet_frame.specs.Flags.{has_rst}
use Rattle.inet_build.specs.declared.fields.Segment.{Segment}
use Rattle.tcp_track.specs.Segments.{byte, is_refusal}
use Rattle.tcp_track.specs.Stands.{ResetStands}
use Rattle.settle_rules.specs.Release.{Released, tcp, reply}
use Rattle.pair_theorem.specs.FrameParts.{IsStandingRefusal, NumbersPart, PlaceStands, PromptPart, StandsPart, SymbolsStand, is_judged}
use Rattle.pair_theorem.specs.History.{entries, pair_log}
use Rattle.replay_log.specs.declared.lines.Line.{Line}
use Rattle.replay_log.specs.declared.lines.Line.TheVariants.{Primary, Secondary, Client, ToSecondary, StopPrimary, Report, Ask}
use Rattle.colo_wire.specs.declared.messages.Message.{Message}
use Rattle.replay_log.specs.declared.records.Answer.{Answer}
use Rattle.replay_log.specs.declared.records.Answer.TheVariants.{Made, HeardBack}
use Rattle.replay_log.specs.declared.records.Mark.{Mark}
use Rattle.replay_log.specs.declared.records.Mark.TheVariants.{Captured}
use Rattle.pair_theorem.specs.LogParts.{causes_in, marks_that, FilesPart, MarksPart, Nodes, OutFiles, capture_marks, is_captured, nodes_at, survivor_state, wire_bytes}
use Rattle.pair_theorem.specs.Past.{Step}
use Rattle.pair_theorem.specs.Places.{Place, delivered_due, delivered_in, events, places, released_due, released_in}
use Rattle.pair_theorem.specs.TheRun.{run_segments, the_run}
use Rattle.pair_theorem.specs.Theorem.{IsDetermined}
use Rattle.pair_theorem.proofs.AllLemmas.{All_at}
use Rattle.pair_theorem.proofs.Breaking.{numbers_break, passes_all, payload_breaks, prompt_breaks, stands_breaks}
use Rattle.pair_theorem.proofs.BrokenLogs.{clock_start, edit_at, with_answer, with_marks, with_released}
use Rattle.pair_theorem.proofs.PartTests.{numbers_test, symbols_test}
use Rattle.pair_theorem.proofs.ResetRows.{reset_lines, reset_start}
use Rattle.pair_theorem.proofs.Told.{data_out, syn_out}
use Rattle.pair_theorem.proofs.WorkedFrames.{worked_start, worked_segment, digits, last_digits}
use Rattle.pair_theorem.proofs.WorkedSchedules.{primary, secondary, failover_lines, opening_lines, two_cuts_lines}

-- RELEASES AT ONCE: the primary's bytes go out in its turn; after its stop they stand in no run
abbrev pub at_once_lines : List Line
at_once_lines = opening_lines ++ primary 3 ∷ StopPrimary ∷ Report ∷ []

unfoldable pub at_once_steps : List Step
unfolding pair_log worked_start
at_once_steps =
    edit_at 7 (λ s. with_answer (Made None 1) (with_released (data_out 5001 digits ∷ []) s))
    (pair_log worked_start at_once_lines)

abbrev at_once_place : Place
at_once_place =
    record { client = Some 1000; number = Some 5000; segment = worked_segment 5001 0x18 None; payload = digits }

pub releases_at_once : StandsPart worked_start at_once_steps → ⊥
unfolding at_once_steps places run_segments
releases_at_once =
    stands_breaks worked_start at_once_steps 1 at_once_place 1000 5000 1 (byte 48) refl refl refl refl refl refl

-- RELEASES ONLY AT A CHECKPOINT: agreed bytes stay behind in the event that shows them
abbrev silent : Step → Step
silent s = with_answer (HeardBack 13 2 0) (with_released [] s)

unfoldable pub at_checkpoint_steps : List Step
unfolding pair_log worked_start
at_checkpoint_steps = edit_at 9 silent (pair_log worked_start two_cuts_lines)

at_checkpoint_symbols : symbols_test worked_start at_checkpoint_steps ≡ false
unfolding at_checkpoint_steps symbols_test
at_checkpoint_symbols = refl

pub releases_only_at_a_checkpoint : PromptPart worked_start at_checkpoint_steps → ⊥
releases_only_at_a_checkpoint h = prompt_breaks worked_start at_checkpoint_steps at_checkpoint_symbols h.shows

-- A CHECKPOINT AT EVERY TURN: the first turn has no cause
abbrev pub first_lines : List Line
first_lines = Client ∷ Primary 1 true 0 0 ∷ []

unfoldable pub every_turn_steps : List Step
unfolding pair_log worked_start
every_turn_steps = edit_at 1 (with_marks (Captured 1 Wait ∷ [])) (pair_log worked_start first_lines)

abbrev count_marks : List (List Mark) → ℕ
count_marks marks = sum (map (λ (ms : List Mark). length ms) marks)

every_turn_marks : count_marks (marks_that is_captured every_turn_steps) ≡ 1
unfolding every_turn_steps
every_turn_marks = refl

every_turn_causes : count_marks (capture_marks 0 (causes_in (events worked_start every_turn_steps))) ≡ 0
unfolding every_turn_steps events
every_turn_causes = refl

pub a_checkpoint_at_every_turn : MarksPart worked_start every_turn_steps → ⊥
a_checkpoint_at_every_turn h =
    let same = sym every_turn_marks ∙ (ap (λ (ms : List (List Mark)). count_marks ms) h.captures ∙ every_turn_causes) in
    absurd (omega (arith, same))

-- A SYN BEFORE ITS NUMBER IS KNOWN: the number is lost at the stop, and the survivor shows its own
abbrev pub early_syn_lines : List Line
early_syn_lines = Client ∷ Primary 1 true 0 0 ∷ ToSecondary ∷ Secondary 2 true 0 0 ∷ StopPrimary ∷ Report ∷ []

unfoldable pub early_syn_steps : List Step
unfolding pair_log worked_start
early_syn_steps =
    edit_at 1 (λ s. with_answer (Made (Some 0) 1) (with_released (syn_out ∷ []) s))
    (pair_log worked_start early_syn_lines)

early_syn_numbers : numbers_test worked_start early_syn_steps ≡ false
unfolding early_syn_steps numbers_test
early_syn_numbers = refl

pub a_syn_before_its_number_is_known : NumbersPart worked_start early_syn_steps → ⊥
a_syn_before_its_number_is_known = numbers_break worked_start early_syn_steps early_syn_numbers

-- THE PRIMARY'S MACHINE SHOWN AS THE SECONDARY'S: after the stop the state is not the run's
abbrev pub shown_lines : List Line
shown_lines = primary 1 ∷ secondary 2 ∷ StopPrimary ∷ Report ∷ []

unfoldable pub shown_steps : List Step
unfolding pair_log clock_start
shown_steps = pair_log clock_start shown_lines

abbrev one_machine : Nodes → Nodes
one_machine nodes = record nodes { secondary = nodes.primary }

shown_memory : sum (concat (survivor_state (entries shown_steps)
    (one_machine (nodes_at clock_start shown_steps))).pages) ≡ 1
unfolding clock_start shown_steps nodes_at
shown_memory = refl

run_memory : sum (concat (the_run clock_start (entries shown_steps)).state.pages) ≡ 2
unfolding clock_start shown_steps the_run
run_memory = refl

pub one_machine_shown : (out : OutFiles)
    → FilesPart clock_start shown_steps (one_machine (nodes_at clock_start shown_steps)) out → ⊥
one_machine_shown out h =
    let same = sym shown_memory ∙ (ap (λ s. sum (concat s.pages)) h.state ∙ run_memory) in absurd (omega (arith, same))

-- A SURVIVOR THAT KEEPS A BYTE BACK
unfoldable pub kept_back_steps : List Step
unfolding pair_log worked_start
kept_back_steps = edit_at 9 (with_released (data_out 5001 (48 ∷ 49 ∷ []) ∷ [])) (pair_log worked_start failover_lines)

kept_back_symbols : symbols_test worked_start kept_back_steps ≡ false
unfolding kept_back_steps symbols_test
kept_back_symbols = refl

pub a_survivor_that_keeps_a_byte_back : PromptPart worked_start kept_back_steps → ⊥
a_survivor_that_keeps_a_byte_back h = prompt_breaks worked_start kept_back_steps kept_back_symbols h.shows

-- A RESET THAT NO GUEST SENT, with any sequence number, 0 too
abbrev pub is_reset_of : TcpFields → Bool
is_reset_of s = has_rst s.flags

reset_among : (before : List TcpFields) (s : TcpFields) (later : List TcpFields) → has_rst s.flags ≡ true
    → list_any is_reset_of (before ++ s ∷ later) ≡ true
reset_among [] s later e = or_left (has_rst s.flags) (list_any is_reset_of later) e
reset_among (b ∷ before) s later e =
    or_right (is_reset_of b) (list_any is_reset_of (before ++ s ∷ later)) (reset_among before s later e)

no_reset_stands : (sent : List TcpFields) (p : Place) (client : ℕ) → list_any is_reset_of sent ≡ false
    → ResetStands sent p.segment.tuple client → ⊥
no_reset_stands sent p client e h =
    both_ways (list_any is_reset_of sent) e
    (subst (λ (xs : List TcpFields). list_any is_reset_of xs ≡ true) (sym h.place)
    (reset_among h.before h.carrier h.later h.resets))

refusal_is_sent : (sent : List TcpFields) (s : Segment) → list_any is_reset_of sent ≡ false → IsStandingRefusal sent s
    → ⊥
unfolding is_refusal
refusal_is_sent sent s e h =
    let r = h.refused in
    both_ways (list_any is_reset_of sent) e
    (subst (λ (xs : List TcpFields). list_any is_reset_of xs ≡ true) (sym r.place)
    (reset_among r.before r.carrier r.later (and_parts (has_rst r.carrier.flags) _ r.refuses).0))

reset_breaks : (sent : List TcpFields) (p : Place) → list_any is_reset_of sent ≡ false → has_rst p.segment.flags ≡ true
    → IsStandingRefusal sent p.segment ⊎ SymbolsStand sent p → ⊥
reset_breaks sent p e f (inl r) = refusal_is_sent sent p.segment e r
reset_breaks sent p e f (inr s) = no_reset_stands sent p s.client e (s.reset f)

unfoldable pub reset_steps : ℕ → List Step
unfolding pair_log worked_start
reset_steps seq =
    edit_at 11 (with_released (tcp (worked_segment seq 0x14 None) [] ∷ [])) (pair_log worked_start two_cuts_lines)

abbrev reset_place : ℕ → Place
reset_place seq =
    record { client = Some 1000; number = Some 5000; segment = worked_segment seq 0x14 None; payload = [] }

no_resets_sent : (seq : ℕ) → list_any is_reset_of (run_segments worked_start (entries (reset_steps seq))) ≡ false
unfolding reset_steps run_segments
no_resets_sent seq = refl

reset_at : (seq : ℕ) → slice_get (places worked_start (reset_steps seq)) 2 ≡ Some (reset_place seq)
unfolding reset_steps places
reset_at seq = refl

pub a_reset_that_no_guest_sent : (seq : ℕ) → StandsPart worked_start (reset_steps seq) → ⊥
a_reset_that_no_guest_sent seq h =
    reset_breaks (run_segments worked_start (entries (reset_steps seq))) (reset_place seq) (no_resets_sent seq) refl
    (All_at (PlaceStands (run_segments worked_start (entries (reset_steps seq))))
    (places worked_start (reset_steps seq)) 2 (reset_place seq) h (reset_at seq)).stands

-- DATA ON A CONNECTION THAT NEVER HAD A SYN
unfoldable pub no_syn_steps : List Step
unfolding pair_log worked_start
no_syn_steps =
    edit_at 1 (λ s. with_answer (Made (Some 0) 1) (with_released (data_out 5001 digits ∷ []) s))
    (pair_log worked_start first_lines)

abbrev no_syn_place : Place
no_syn_place = record { client = Some 1000; number = None; segment = worked_segment 5001 0x18 None; payload = digits }

no_syn_at : slice_get (places worked_start no_syn_steps) 0 ≡ Some no_syn_place
unfolding no_syn_steps places
no_syn_at = refl

no_syn_breaks : (sent : List TcpFields) → IsStandingRefusal sent no_syn_place.segment ⊎ SymbolsStand sent no_syn_place
    → ⊥
no_syn_breaks sent (inl r) = true≢false (sym r.is_reset)
no_syn_breaks sent (inr s) = true≢false (sym (ap (λ (n : Option ℕ). is_some n) s.number_is))

pub data_without_a_syn : StandsPart worked_start no_syn_steps → ⊥
data_without_a_syn h =
    no_syn_breaks (run_segments worked_start (entries no_syn_steps))
    (All_at (PlaceStands (run_segments worked_start (entries no_syn_steps))) (places worked_start no_syn_steps) 0
    no_syn_place h no_syn_at).stands

-- A WINDOW OF ITS OWN: of the nine parts only Prompt's first sentence refuses it
unfoldable pub window_steps : List Step
unfolding pair_log worked_start
window_steps =
    edit_at 11 (with_released (tcp (record (worked_segment 5004 0x18 None) { window = 4095 }) last_digits ∷ []))
    (pair_log worked_start two_cuts_lines)

window_passes : passes_all worked_start window_steps ≡ true
unfolding window_steps passes_all
window_passes = refl

abbrev windows : List Released → ℕ
windows [] = 0
windows (reply b ∷ out) = windows out
windows (tcp s payload ∷ out) = s.window + windows out

abbrev windows_in : List (List Released) → ℕ
windows_in outs = sum (map windows outs)

its_windows : windows_in (released_in window_steps) ≡ 12287
unfolding window_steps
its_windows = refl

due_windows : windows_in (released_due (events worked_start window_steps)) ≡ 12288
unfolding window_steps events
due_windows = refl

pub a_window_of_its_own : PromptPart worked_start window_steps → ⊥
a_window_of_its_own h =
    let same = sym its_windows ∙ (ap windows_in h.settled ∙ due_windows) in absurd (omega (arith, same))

-- A RESET KEPT BACK: the same sentence
unfoldable pub no_reset_steps : List Step
unfolding pair_log reset_start
no_reset_steps =
    edit_at 9 (λ s. with_answer (HeardBack 13 2 0) (with_released [] s)) (pair_log reset_start reset_lines)

no_reset_passes : passes_all reset_start no_reset_steps ≡ true
unfolding reset_start no_reset_steps passes_all
no_reset_passes = refl

abbrev frames_in : List (List Released) → ℕ
frames_in outs = sum (map (λ (out : List Released). length out) outs)

frames_without : frames_in (released_in no_reset_steps) ≡ 2
unfolding no_reset_steps
frames_without = refl

frames_with : frames_in (released_due (events reset_start no_reset_steps)) ≡ 3
unfolding reset_start no_reset_steps events
frames_with = refl

pub a_reset_kept_back : PromptPart reset_start no_reset_steps → ⊥
a_reset_kept_back h =
    let same = sym frames_without ∙ (ap frames_in h.settled ∙ frames_with) in absurd (omega (arith, same))

-- A PAYLOAD IN A SYN: it has no offset there, so that no symbol of it could stand
unfoldable pub filled_syn_steps : List Step
unfolding pair_log worked_start
filled_syn_steps =
    edit_at 6 (with_released (tcp (worked_segment 5000 0x12 (Some 1460)) digits ∷ []))
    (pair_log worked_start opening_lines)

abbrev filled_syn_place : Place
filled_syn_place =
    record {
      client = Some 1000;
      number = Some 5000;
      segment = worked_segment 5000 0x12 (Some 1460);
      payload = digits;
    }

filled_syn_at : slice_get (places worked_start filled_syn_steps) 0 ≡ Some filled_syn_place
unfolding filled_syn_steps places
filled_syn_at = refl

not_judged : is_judged filled_syn_place ≡ false
unfolding is_judged
not_judged = refl

pub a_payload_in_a_syn : StandsPart worked_start filled_syn_steps → ⊥
a_payload_in_a_syn = payload_breaks worked_start filled_syn_steps 0 filled_syn_place filled_syn_at not_judged

-- A MESSAGE TOLD AT A LATER LINE: the joined bytes of all messages are the same
abbrev pub told_late : List Step → List Step
told_late (s ∷ t ∷ u ∷ steps) =
    s ∷ record t { delivered = u.delivered } ∷ record u { delivered = t.delivered } ∷ steps
told_late steps = steps

abbrev pub later_lines : List Line
later_lines = Client ∷ ToSecondary ∷ ToSecondary ∷ []

unfoldable pub later_steps : List Step
unfolding pair_log worked_start
later_steps = told_late (pair_log worked_start later_lines)

pub the_same_bytes : wire_bytes later_steps ≡ wire_bytes (pair_log worked_start later_lines)
unfolding later_steps pair_log worked_start wire_bytes
the_same_bytes = refl

abbrev is_told_at : ℕ → List (Option Message) → Bool
is_told_at k messages = is_some (unwrap_or (slice_get messages k) None)

told_nothing : is_told_at 1 (delivered_in later_steps) ≡ false
unfolding later_steps
told_nothing = refl

due_there : is_told_at 1 (delivered_due (events worked_start later_steps)) ≡ true
unfolding later_steps events
due_there = refl

pub a_message_told_later : (nodes : Nodes) (out : OutFiles) → FilesPart worked_start later_steps nodes out → ⊥
a_message_told_later nodes out h =
    true≢false (sym due_there ∙ (sym (ap (λ (ms : List (Option Message)). is_told_at 1 ms) h.messages) ∙ told_nothing))

-- AN INBOX LOST AT A COMMIT: the secondary's next turn takes nothing. No part refuses it, for the log tells that turn
-- so: it is not the log of this schedule.
abbrev pub inbox_lines : List Line
inbox_lines =
    Client ∷ ToSecondary ∷ Ask ∷ ToSecondary ∷ ToSecondary ∷ ToSecondary ∷ ToSecondary ∷ Secondary 2 true 0 0 ∷ []

unfoldable pub inbox_steps : List Step
unfolding pair_log worked_start
inbox_steps = edit_at 7 (with_answer (Made None 0)) (pair_log worked_start inbox_lines)

abbrev took_in : Answer → Bool
took_in (Made index released) = is_some index
took_in _ = false

abbrev took_any : List Step → Bool
took_any steps = list_any (λ (s : Step). took_in s.entry.answer) steps

none_taken : took_any inbox_steps ≡ false
unfolding inbox_steps
none_taken = refl

one_taken : took_any (pair_log worked_start inbox_lines) ≡ true
unfolding pair_log worked_start
one_taken = refl

pub an_inbox_lost_at_a_commit : IsDetermined worked_start inbox_lines inbox_steps → ⊥
an_inbox_lost_at_a_commit h =
    true≢false (sym one_taken ∙ (sym (ap (λ (steps : List Step). took_any steps) h) ∙ none_taken))
