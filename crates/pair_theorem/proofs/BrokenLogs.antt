-- For each part a log that breaks it and no other part.
use Rattle.std.proofs.Common.{◌≡◌, ℕ, zero, suc, true, false, List, [], ◌∷◌, ◌++◌, map, sum, Option, None, Some, refl, sym, ap, subst, ◌∙◌, arith, slice_get, length}
use Rattle.std.specs.Prelude.{All}
use Rattle.std.specs.List.{concat}
use Rattle.colo_base.specs.declared.fault.Cause.TheVariants.{Wait}
use Rattle.inet_build.specs.Segment.{IsBuildable}
use Rattle.inet_build.specs.declared.fields.Segment.{Segment}
use Rattle.tcp_track.specs.Segments.{byte}
use Rattle.tcp_track.specs.Stands.{acked_in}
use Rattle.settle_rules.specs.Release.{Released, tcp}
use Rattle.pair_theorem.specs.FrameParts.{AcksPart, IsShaped, ShapePart, StandsPart, reply_due}
use Rattle.state_wire.specs.Guest.{GuestState, GuestTurn, Kind}
use Rattle.state_wire.specs.Script.{script_next}
use Rattle.pair_theorem.specs.History.{entries, lines_of, pair_log}
use Rattle.replay_log.specs.declared.lines.Line.{Line}
use Rattle.replay_log.specs.declared.lines.Line.TheVariants.{Primary}
use Rattle.replay_log.specs.declared.records.Answer.{Answer}
use Rattle.replay_log.specs.declared.records.Answer.TheVariants.{Made, HeardBack}
use Rattle.replay_log.specs.declared.records.Mark.{Mark}
use Rattle.replay_log.specs.declared.records.Mark.TheVariants.{Captured}
use Rattle.pair_theorem.specs.LogParts.{accepted_indices, causes_in, counts_released, counts_stated, marks_that, LogPart, MarksPart, capture_marks, is_captured, nodes_at, survivor_state}
use Rattle.pair_theorem.specs.Past.{Start, Step, boot}
use Rattle.pair_theorem.specs.Places.{Place, delivered_due, delivered_in, events, places}
use Rattle.pair_theorem.specs.TheRun.{run_segments}
use Rattle.pair_theorem.proofs.Breaking.{PartName, log_part, names_part, shape_part, stands_part, numbers_part, acks_part, files_part, prompt_part, marks_part, BreaksOnly, Part, Told, place_of, told_log, passes_others, others_from, stands_breaks, acks_break, names_break, numbers_break, prompt_breaks}
use Rattle.pair_theorem.proofs.AllLemmas.{All_at}
use Rattle.pair_theorem.proofs.PartTests.{missing_test, numbers_test, symbols_test}
use Rattle.pair_theorem.proofs.Told.{data_out}
use Rattle.pair_theorem.proofs.WorkedFrames.{script_start, worked_start, worked_kind, worked_segment, client_syn, abd, last_digits}
use Rattle.pair_theorem.proofs.WorkedSchedules.{primary, secondary, opening_lines, two_cuts_lines, stop_before_end_lines}

-- EDITS of a log at one place
abbrev pub edit_at : ℕ → (Step → Step) → List Step → List Step
edit_at k f [] = []
edit_at zero f (s ∷ steps) = f s ∷ steps
edit_at (suc k) f (s ∷ steps) = s ∷ edit_at k f steps

abbrev pub with_released : List Released → Step → Step
with_released out s = record s { released = out }

abbrev pub with_answer : Answer → Step → Step
with_answer answer s = record s { entry = record s.entry { answer = answer } }

abbrev pub with_marks : List Mark → Step → Step
with_marks ms s = record s { entry = record s.entry { marks = ms } }

-- STANDS: a byte that no guest sent
unfoldable pub byte_steps : List Step
unfolding pair_log worked_start
byte_steps =
    edit_at 11 (with_released (tcp (worked_segment 5004 0x18 None) (last_digits ++ 88 ∷ []) ∷ []))
    (pair_log worked_start two_cuts_lines)

abbrev byte_place : Place
byte_place =
    record {
      client = Some 1000;
      number = Some 5000;
      segment = worked_segment 5004 0x18 None;
      payload = last_digits ++
          88 ∷ [];
    }

byte_lines : lines_of byte_steps ≡ two_cuts_lines
unfolding byte_steps
byte_lines = refl

byte_delivered : delivered_in byte_steps ≡ delivered_due (events worked_start byte_steps)
unfolding byte_steps events
byte_delivered = refl

byte_others : passes_others stands_part worked_start byte_steps ≡ true
unfolding byte_steps passes_others
byte_others = refl

byte_broken : StandsPart worked_start byte_steps → ⊥
unfolding byte_steps places run_segments
byte_broken = stands_breaks worked_start byte_steps 2 byte_place 1000 5000 11 (byte 88) refl refl refl refl refl refl

pub a_byte_that_no_guest_sent : BreaksOnly stands_part (told_log worked_start two_cuts_lines byte_steps)
unfolding told_log
a_byte_that_no_guest_sent = record {
  broken = byte_broken;
  others = others_from stands_part worked_start two_cuts_lines byte_steps byte_lines byte_delivered byte_others;
}

-- LOG: an answer that states one frame more than was released
unfoldable pub count_steps : List Step
unfolding pair_log worked_start
count_steps = edit_at 11 (with_answer (HeardBack 13 3 2)) (pair_log worked_start two_cuts_lines)

count_lines : lines_of count_steps ≡ two_cuts_lines
unfolding count_steps
count_lines = refl

count_delivered : delivered_in count_steps ≡ delivered_due (events worked_start count_steps)
unfolding count_steps events
count_delivered = refl

count_others : passes_others log_part worked_start count_steps ≡ true
unfolding count_steps passes_others
count_others = refl

-- the counts that the answers state, and those of the frames
count_stated : sum (counts_stated count_steps) ≡ 4
unfolding count_steps
count_stated = refl

count_released : sum (counts_released count_steps) ≡ 3
unfolding count_steps
count_released = refl

count_broken : LogPart two_cuts_lines count_steps → ⊥
count_broken h =
    let same = sym count_stated ∙ (ap (λ (xs : List ℕ). sum xs) h.counts ∙ count_released) in absurd
    (omega (arith, same))

pub a_frame_that_was_not_released : BreaksOnly log_part (told_log worked_start two_cuts_lines count_steps)
unfolding told_log
a_frame_that_was_not_released = record {
  broken = count_broken;
  others = others_from log_part worked_start two_cuts_lines count_steps count_lines count_delivered count_others;
}

-- NAMES: a frame that the pair accepted and the run never took, over guests whose state holds no frame
abbrev pub deaf_next : GuestState → GuestTurn → GuestState
deaf_next s t = script_next s (record t { frame = None })

unfoldable pub deaf_kind : Kind
unfolding worked_kind
deaf_kind = record worked_kind { next = deaf_next }

unfoldable pub deaf_start : Start
unfolding deaf_kind client_syn
deaf_start = boot deaf_kind (client_syn ∷ []) script_start 0 0

unfoldable pub deaf_steps : List Step
unfolding pair_log deaf_start
deaf_steps = edit_at 1 (with_answer (Made None 0)) (pair_log deaf_start opening_lines)

deaf_lines : lines_of deaf_steps ≡ opening_lines
unfolding deaf_steps
deaf_lines = refl

deaf_delivered : delivered_in deaf_steps ≡ delivered_due (events deaf_start deaf_steps)
unfolding deaf_steps events deaf_start
deaf_delivered = refl

deaf_others : passes_others names_part deaf_start deaf_steps ≡ true
unfolding deaf_start deaf_steps passes_others
deaf_others = refl

deaf_missing : missing_test deaf_start deaf_steps ≡ false
unfolding deaf_start deaf_steps missing_test
deaf_missing = refl

pub a_frame_that_the_run_never_took : BreaksOnly names_part (told_log deaf_start opening_lines deaf_steps)
unfolding told_log
a_frame_that_the_run_never_took = record {
  broken = names_break deaf_start deaf_steps deaf_missing;
  others = others_from names_part deaf_start opening_lines deaf_steps deaf_lines deaf_delivered deaf_others;
}

-- NAMES: a frame that was accepted before the start and waits in its inbox, which the run never takes
unfoldable pub inbox_start : Start
unfolding deaf_start client_syn
inbox_start =
    record deaf_start {
      next = 1;
      inbox = record { index = 0; seen = None; trim = 0; frame = client_syn } ∷ [];
    }

abbrev pub one_turn_lines : List Line
one_turn_lines = Primary 1 true 0 0 ∷ []

unfoldable pub lost_inbox_steps : List Step
unfolding pair_log inbox_start
lost_inbox_steps = edit_at 0 (with_answer (Made None 0)) (pair_log inbox_start one_turn_lines)

lost_inbox_lines : lines_of lost_inbox_steps ≡ one_turn_lines
unfolding lost_inbox_steps
lost_inbox_lines = refl

lost_inbox_delivered : delivered_in lost_inbox_steps ≡ delivered_due (events inbox_start lost_inbox_steps)
unfolding lost_inbox_steps events inbox_start
lost_inbox_delivered = refl

lost_inbox_others : passes_others names_part inbox_start lost_inbox_steps ≡ true
unfolding inbox_start lost_inbox_steps passes_others
lost_inbox_others = refl

lost_inbox_missing : missing_test inbox_start lost_inbox_steps ≡ false
unfolding inbox_start lost_inbox_steps missing_test
lost_inbox_missing = refl

-- none was accepted in the log itself
none_accepted_since : accepted_indices lost_inbox_steps ≡ []
unfolding lost_inbox_steps
none_accepted_since = refl

pub a_frame_of_the_start_that_is_lost : BreaksOnly names_part (told_log inbox_start one_turn_lines lost_inbox_steps)
unfolding told_log
a_frame_of_the_start_that_is_lost = record {
  broken = names_break inbox_start lost_inbox_steps lost_inbox_missing;
  others = others_from names_part inbox_start one_turn_lines lost_inbox_steps lost_inbox_lines lost_inbox_delivered
      lost_inbox_others;
}

-- SHAPE: a segment to a MAC address of no byte
abbrev pub no_mac_segment : Segment
no_mac_segment = record (worked_segment 5004 0x18 None) { dst_mac = [] }

abbrev pub no_mac_out : Released
no_mac_out = tcp no_mac_segment last_digits

unfoldable pub shape_steps : List Step
unfolding pair_log worked_start
shape_steps = edit_at 11 (with_released (no_mac_out ∷ [])) (pair_log worked_start two_cuts_lines)

shape_lines : lines_of shape_steps ≡ two_cuts_lines
unfolding shape_steps
shape_lines = refl

shape_delivered : delivered_in shape_steps ≡ delivered_due (events worked_start shape_steps)
unfolding shape_steps events
shape_delivered = refl

shape_others : passes_others shape_part worked_start shape_steps ≡ true
unfolding shape_steps passes_others
shape_others = refl

abbrev frames_of : Option Step → List Released
frames_of None = []
frames_of (Some s) = s.released

shape_frames : frames_of (slice_get shape_steps 11) ≡ no_mac_out ∷ []
unfolding shape_steps
shape_frames = refl

no_mac : IsBuildable no_mac_segment last_digits → ⊥
no_mac h = let bytes = h.mac_len in absurd (omega (arith, bytes))

all_shaped : (due : Option (List ℕ))
    → All (IsShaped due) (no_mac_out ∷ []) → ⊥
all_shaped due h = no_mac (All_at (IsShaped due) (no_mac_out ∷ []) 0 no_mac_out h refl)

shape_at : (o : Option Step) → slice_get shape_steps 11 ≡ o
    → frames_of o ≡ no_mac_out ∷ []
    → ShapePart worked_start shape_steps → ⊥
shape_at None e f h = absurd (cc f)
shape_at (Some s) e f h =
    all_shaped (reply_due worked_start s)
    (subst (λ (out : List Released). All (IsShaped (reply_due worked_start s)) out) f
    (All_at (λ (t : Step). All (IsShaped (reply_due worked_start t)) t.released) shape_steps 11 s h e))

pub a_segment_without_a_mac : BreaksOnly shape_part (told_log worked_start two_cuts_lines shape_steps)
unfolding told_log
a_segment_without_a_mac = record {
  broken = shape_at (slice_get shape_steps 11) refl shape_frames;
  others = others_from shape_part worked_start two_cuts_lines shape_steps shape_lines shape_delivered shape_others;
}

-- NUMBERS: the SYN again, under another number
abbrev pub again_lines : List Line
again_lines = opening_lines ++ primary 1 ∷ []

unfoldable pub numbers_steps : List Step
unfolding pair_log worked_start
numbers_steps =
    edit_at 7 (with_released (tcp (worked_segment 6000 0x12 (Some 1460)) [] ∷ [])) (pair_log worked_start again_lines)

numbers_lines : lines_of numbers_steps ≡ again_lines
unfolding numbers_steps
numbers_lines = refl

numbers_delivered : delivered_in numbers_steps ≡ delivered_due (events worked_start numbers_steps)
unfolding numbers_steps events
numbers_delivered = refl

numbers_others : passes_others numbers_part worked_start numbers_steps ≡ true
unfolding numbers_steps passes_others
numbers_others = refl

numbers_differ : numbers_test worked_start numbers_steps ≡ false
unfolding numbers_steps numbers_test
numbers_differ = refl

pub two_numbers_for_one_opening : BreaksOnly numbers_part (told_log worked_start again_lines numbers_steps)
unfolding told_log
two_numbers_for_one_opening = record {
  broken = numbers_break worked_start numbers_steps numbers_differ;
  others = others_from numbers_part worked_start again_lines numbers_steps numbers_lines numbers_delivered
      numbers_others;
}

-- ACKS: an acknowledgement that is too great, in a segment that is not the last of its event
abbrev great_ack : Segment
great_ack = record (worked_segment 5000 0x12 (Some 1460)) { ack = 1002 }

unfoldable pub acks_steps : List Step
unfolding pair_log worked_start
acks_steps =
    edit_at 16 (with_released (tcp great_ack [] ∷ data_out 5001 abd ∷ [])) (pair_log worked_start stop_before_end_lines)

acks_lines : lines_of acks_steps ≡ stop_before_end_lines
unfolding acks_steps
acks_lines = refl

acks_delivered : delivered_in acks_steps ≡ delivered_due (events worked_start acks_steps)
unfolding acks_steps events
acks_delivered = refl

acks_others : passes_others acks_part worked_start acks_steps ≡ true
unfolding acks_steps passes_others
acks_others = refl

abbrev ack_place : Place
ack_place = record { client = Some 1000; number = Some 5000; segment = great_ack; payload = [] }

acks_broken : AcksPart worked_start acks_steps → ⊥
unfolding acks_steps places run_segments acked_in
acks_broken = acks_break worked_start acks_steps 2 ack_place 1000 refl refl refl refl

pub an_acknowledgement_too_great : BreaksOnly acks_part (told_log worked_start stop_before_end_lines acks_steps)
unfolding told_log
an_acknowledgement_too_great = record {
  broken = acks_broken;
  others = others_from acks_part worked_start stop_before_end_lines acks_steps acks_lines acks_delivered acks_others;
}

-- PROMPT: a byte that goes out one event late
unfoldable pub late_steps : List Step
unfolding pair_log worked_start
late_steps =
    edit_at 11 (with_released (data_out 5003 (50 ∷ last_digits) ∷ []))
    (edit_at 9 (with_released (data_out 5001 (48 ∷ 49 ∷ []) ∷ [])) (pair_log worked_start two_cuts_lines))

late_lines : lines_of late_steps ≡ two_cuts_lines
unfolding late_steps
late_lines = refl

late_delivered : delivered_in late_steps ≡ delivered_due (events worked_start late_steps)
unfolding late_steps events
late_delivered = refl

late_others : passes_others prompt_part worked_start late_steps ≡ true
unfolding late_steps passes_others
late_others = refl

late_symbols : symbols_test worked_start late_steps ≡ false
unfolding late_steps symbols_test
late_symbols = refl

pub a_byte_released_late : BreaksOnly prompt_part (told_log worked_start two_cuts_lines late_steps)
unfolding told_log
a_byte_released_late = record {
  broken = prompt_breaks worked_start late_steps late_symbols;
  others = others_from prompt_part worked_start two_cuts_lines late_steps late_lines late_delivered late_others;
}

-- MARKS: a checkpoint without a cause
unfoldable pub mark_steps : List Step
unfolding pair_log worked_start
mark_steps = edit_at 11 (with_marks (Captured 1 Wait ∷ [])) (pair_log worked_start two_cuts_lines)

mark_lines : lines_of mark_steps ≡ two_cuts_lines
unfolding mark_steps
mark_lines = refl

mark_delivered : delivered_in mark_steps ≡ delivered_due (events worked_start mark_steps)
unfolding mark_steps events
mark_delivered = refl

mark_others : passes_others marks_part worked_start mark_steps ≡ true
unfolding mark_steps passes_others
mark_others = refl

-- how many captures stand there, and how many causes make
abbrev count_marks : List (List Mark) → ℕ
count_marks marks = sum (map (λ (ms : List Mark). length ms) marks)

marks_stand : count_marks (marks_that is_captured mark_steps) ≡ 1
unfolding mark_steps
marks_stand = refl

causes_make : count_marks (capture_marks 0 (causes_in (events worked_start mark_steps))) ≡ 0
unfolding mark_steps events
causes_make = refl

mark_broken : MarksPart worked_start mark_steps → ⊥
mark_broken h =
    let same = sym marks_stand ∙ (ap (λ (ms : List (List Mark)). count_marks ms) h.captures ∙ causes_make) in
    absurd (omega (arith, same))

pub a_checkpoint_without_a_cause : BreaksOnly marks_part (told_log worked_start two_cuts_lines mark_steps)
unfolding told_log
a_checkpoint_without_a_cause = record {
  broken = mark_broken;
  others = others_from marks_part worked_start two_cuts_lines mark_steps mark_lines mark_delivered mark_others;
}

-- FILES: the memory of the other guest, over guests that write their clock to memory and send nothing
abbrev pub clock_next : GuestState → GuestTurn → GuestState
clock_next s t = record s { pages = (t.ticks ∷ []) ∷ [] }

abbrev pub clock_kind : Kind
clock_kind = record {
  page_count = 1;
  sector_count = 0;
  can_receive = λ s. true;
  accepts = λ bytes. true;
  next = clock_next;
  sent = λ s t. [];
}

unfoldable pub clock_start : Start
clock_start = boot clock_kind [] script_start 0 0

abbrev pub clock_lines : List Line
clock_lines = primary 1 ∷ secondary 2 ∷ []

unfoldable pub clock_steps : List Step
unfolding pair_log clock_start
clock_steps = pair_log clock_start clock_lines

clock_lines_are : lines_of clock_steps ≡ clock_lines
unfolding clock_steps
clock_lines_are = refl

clock_delivered : delivered_in clock_steps ≡ delivered_due (events clock_start clock_steps)
unfolding clock_steps events clock_start
clock_delivered = refl

clock_passes : passes_others files_part clock_start clock_steps ≡ true
unfolding clock_start clock_steps passes_others
clock_passes = refl

-- the files with the secondary's memory in the place of the survivor's
unfoldable pub swapped_log : Told
unfolding told_log
swapped_log =
    let x = told_log clock_start clock_lines clock_steps in record x
    { out = record x.out { ram = concat x.nodes.secondary.pages } }

clock_part : (q : PartName) → (place_of q ≡ place_of files_part → ⊥)
    → Part q (told_log clock_start clock_lines clock_steps)
clock_part q n =
    others_from files_part clock_start clock_lines clock_steps clock_lines_are clock_delivered clock_passes q n

swapped_others : (q : PartName) → (place_of q ≡ place_of files_part → ⊥) → Part q swapped_log
unfolding swapped_log told_log
swapped_others log_part n = clock_part log_part n
swapped_others names_part n = clock_part names_part n
swapped_others shape_part n = clock_part shape_part n
swapped_others stands_part n = clock_part stands_part n
swapped_others numbers_part n = clock_part numbers_part n
swapped_others acks_part n = clock_part acks_part n
swapped_others files_part n = absurd (n refl)
swapped_others prompt_part n = clock_part prompt_part n
swapped_others marks_part n = clock_part marks_part n

own_memory : sum (concat (survivor_state (entries clock_steps) (nodes_at clock_start clock_steps)).pages) ≡ 1
unfolding clock_steps clock_start nodes_at
own_memory = refl

other_memory : sum (concat (nodes_at clock_start clock_steps).secondary.pages) ≡ 2
unfolding clock_steps clock_start nodes_at
other_memory = refl

swapped_broken : Part files_part swapped_log → ⊥
unfolding swapped_log told_log
swapped_broken h =
    let same = sym other_memory ∙ (ap (λ (xs : List ℕ). sum xs) h.ram ∙ own_memory) in absurd (omega (arith, same))

pub the_memory_of_the_other_guest : BreaksOnly files_part swapped_log
the_memory_of_the_other_guest = record { broken = swapped_broken; others = swapped_others }
