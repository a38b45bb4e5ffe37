-- What is kept of pages, sectors and frames that wait, and what of a capture spells its state.
use Rattle.std.proofs.Common.{◌≡◌, ℕ, List, [], ◌∷◌, ◌++◌, append_assoc, length, fold, refl, sym, ap, ◌∙◌, None}
use Rattle.std.specs.List.{AllByRecursion, enumerate_from, flat_map}
use Rattle.std.proofs.lemmas.List.{append-nil}
use Rattle.std.proofs.lemmas.Grind.{fold-append}
use Rattle.inet_frame.specs.declared.tuple.Tuple.{Tuple}
use Rattle.tcp_track.specs.LineFields.{LineFields}
use Rattle.seq_rewriter.specs.Kept.{KeptNumbers}
use Rattle.frame_mirror.specs.declared.ring.Waiting.{Waiting}
use Rattle.settle_rules.specs.Pieces.{pieces_of}
use Rattle.state_wire.specs.Guest.{GuestState, Meaning}
use Rattle.colo_wire.specs.declared.messages.Message.{Message}
use Rattle.colo_wire.specs.declared.messages.Message.TheVariants.{Page, Bytes}
use Rattle.checkpoint_form.specs.Captured.{captured_messages, lines_of}
use Rattle.checkpoint_form.specs.Inbox.{held_message, inbox_messages}
use Rattle.checkpoint_form.specs.Rows.{bytes_together, line_messages, line_with, number_for}
use Rattle.checkpoint_form.specs.State.{disk_message, disk_messages, page_messages, sectors_together}
use Rattle.kept_checkpoint.specs.Kept.{Kept, begin_kept, keep, keep_all, load_kept}
use Rattle.kept_checkpoint.specs.Spelled.{spell, spell_part}
use Rattle.kept_checkpoint.proofs.SpelledLemmas.{loads_spelled}
use Rattle.pair_theorem.specs.Past.{Copy}
use Rattle.theorem_runs.specs.Links.{copied_parts}
use Rattle.theorem_runs.proofs.ListFacts.{all_append, all_flat_map, all_map}
use Rattle.theorem_runs.proofs.Spelling.{HaveSize, copied_spells}
use Rattle.capture_laws.specs.Captures.{Capture, kept_of, parts_of}
use Rattle.tcp_track.specs.Lines.{order}
use Rattle.pair_theorem.specs.Checkpoint.{row_messages}
use Rattle.tcp_track.specs.declared.openings.Opening.{Opening}
use Rattle.std.specs.Prelude.{Option, Some}

-- MESSAGES that leave a field of what is kept

abbrev pub LeavesInbox : Message → Type 0
LeavesInbox m = (k : Kept) → (keep k m).inbox ≡ k.inbox

pub inbox_left : (ms : List Message) → AllByRecursion LeavesInbox ms → (k : Kept) → (fold keep k ms).inbox ≡ k.inbox
inbox_left [] h k = refl
inbox_left (m ∷ ms) h k = inbox_left ms h.1 (keep k m) ∙ h.0 k

-- a property of the messages of each line
line_has : (P : Message → Type 0) → ((t : Tuple) (l : LineFields) (o : Option Opening) (n : ℕ) → P (line_with t l o n))
    → ((bytes : List ℕ) → P (Bytes bytes)) → (numbers : KeptNumbers) (xs : List (Tuple × LineFields))
    → AllByRecursion P (flat_map (line_messages numbers) xs)
line_has P of_line of_bytes numbers xs =
    all_flat_map P (line_messages numbers) xs
    (λ x. (
      of_line x.0 x.1 x.1.opening (number_for numbers x.0 x.1.opening),
      all_map P Bytes (pieces_of bytes_together x.1.bytes) of_bytes,
    ))

line_leaves_inbox : (t : Tuple) (l : LineFields) (o : Option Opening) (n : ℕ) → LeavesInbox (line_with t l o n)
line_leaves_inbox t l None n k = refl
line_leaves_inbox t l (Some o) n k = refl

pub held_kept : (k : Kept) (ws : List Waiting) → (fold keep k (inbox_messages ws)).inbox ≡ k.inbox ++ ws
held_kept k [] = sym (append-nil k.inbox)
held_kept k (w ∷ ws) = held_kept (keep k (held_message w)) ws ∙ append_assoc k.inbox (w ∷ []) ws

-- the four kinds of parts, one after the other
pub parts_split : (x : Capture) (e : ℕ) (k : Kept) → fold keep k (parts_of x e)
    ≡ fold keep (fold keep (fold keep (fold keep k (page_messages x.state.pages)) (disk_messages x.state.sectors))
    (inbox_messages x.inbox)) (flat_map (line_messages x.numbers) (lines_of x.lines))
unfolding captured_messages
parts_split x e k =
    let pages = page_messages x.state.pages in
    let disk = disk_messages x.state.sectors in
    let held = inbox_messages x.inbox in
    let rows = flat_map (line_messages x.numbers) (lines_of x.lines) in
    fold-append keep k (pages ++ disk ++ held) rows
    ∙ ap (λ (y : Kept). fold keep y rows)
    (fold-append keep k (pages ++ disk) held
    ∙ ap (λ (y : Kept). fold keep y held) (fold-append keep k pages disk))

-- THE INBOX

pub keeps_the_inbox : (x : Capture) (e : ℕ) → (kept_of x e).inbox ≡ x.inbox
unfolding keep_all
keeps_the_inbox x e =
    let k = begin_kept x.state.bytes (length x.state.pages) (length x.state.sectors) in
    let paged = fold keep k (page_messages x.state.pages) in
    let whole = fold keep paged (disk_messages x.state.sectors) in
    ap (λ (y : Kept). y.inbox) (parts_split x e k)
    ∙ inbox_left (flat_map (line_messages x.numbers) (lines_of x.lines))
    (line_has LeavesInbox line_leaves_inbox (λ bytes y. refl) x.numbers (lines_of x.lines))
    (fold keep whole (inbox_messages x.inbox))
    ∙ held_kept whole x.inbox
    ∙ ap (λ (ws : List Waiting). ws ++ x.inbox)
    (inbox_left (disk_messages x.state.sectors)
    (all_map LeavesInbox disk_message (enumerate_from 0 (pieces_of sectors_together x.state.sectors)) (λ y k. refl))
    paged
    ∙ inbox_left (page_messages x.state.pages)
    (all_map LeavesInbox (λ (p : ℕ × List ℕ). Page p.0 p.1) (enumerate_from 0 x.state.pages) (λ y k. refl)) k)

-- THE STATE

-- it says the same of a state with and without the state's bytes
abbrev IsPart : Message → Type 0
IsPart m = (z : GuestState) → spell_part z m ≡ spell z m

parts_alike : (ms : List Message) → AllByRecursion IsPart ms → (z : GuestState)
    → fold spell_part z ms ≡ fold spell z ms
parts_alike [] h z = refl
parts_alike (m ∷ ms) h z = ap (λ (s : GuestState). fold spell_part s ms) (h.0 z) ∙ parts_alike ms h.1 (spell z m)

abbrev IsQuiet : Message → Type 0
IsQuiet m = (z : GuestState) → spell_part z m ≡ z

spells_none : (ms : List Message) → AllByRecursion IsQuiet ms → (z : GuestState) → fold spell_part z ms ≡ z
spells_none [] h z = refl
spells_none (m ∷ ms) h z = ap (λ (s : GuestState). fold spell_part s ms) (h.0 z) ∙ spells_none ms h.1 z

line_quiet : (t : Tuple) (l : LineFields) (o : Option Opening) (n : ℕ) → IsQuiet (line_with t l o n)
line_quiet t l None n z = refl
line_quiet t l (Some o) n z = refl

-- the same state, captured with nothing beside it
abbrev bare_copy : GuestState → Copy
bare_copy s = record {
  run = record { turns = []; run = record { state = s; sent = [] }; items = [] };
  inbox = [];
  numbers = [];
}

state_spelled : (s : GuestState) (z : GuestState) → HaveSize 512 s.sectors → length z.pages ≡ length s.pages
    → length z.sectors ≡ length s.sectors
    → fold spell (record z { bytes = s.bytes }) (page_messages s.pages ++ disk_messages s.sectors) ≡ s
unfolding copied_parts row_messages order
state_spelled s z sizes pages sectors =
    let memory = page_messages s.pages ++ disk_messages s.sectors in
    let bare : (memory ++ []) ++ [] ≡ memory = append-nil (memory ++ []) ∙ append-nil memory in
    ap (fold spell (record z { bytes = s.bytes })) (sym bare)
    ∙ copied_spells (bare_copy s) 0 z sizes pages sectors

pub spells_a_whole : (g : Meaning) (x : Capture) (e : ℕ) → length g.state.pages ≡ length x.state.pages
    → length g.state.sectors ≡ length x.state.sectors → HaveSize 512 x.state.sectors
    → load_kept g (kept_of x e) ≡ record g { state = x.state }
unfolding captured_messages
spells_a_whole g x e pages sectors sizes =
    let s = x.state in
    let z : GuestState = record g.state { bytes = s.bytes } in
    let memory = page_messages s.pages ++ disk_messages s.sectors in
    let held = inbox_messages x.inbox in
    let rows = flat_map (line_messages x.numbers) (lines_of x.lines) in
    let parts = parts_of x e in
    let alike = all_append IsPart (page_messages s.pages) (disk_messages s.sectors)
    (all_map IsPart (λ (p : ℕ × List ℕ). Page p.0 p.1) (enumerate_from 0 s.pages) (λ y q. refl))
    (all_map IsPart disk_message (enumerate_from 0 (pieces_of sectors_together s.sectors)) (λ y q. refl)) in
    let spelled : fold spell_part z parts ≡ s =
    fold-append spell_part z (memory ++ held) rows
    ∙ spells_none rows (line_has IsQuiet line_quiet (λ bytes y. refl) x.numbers (lines_of x.lines))
    (fold spell_part z (memory ++ held))
    ∙ fold-append spell_part z memory held
    ∙ spells_none held (all_map IsQuiet held_message x.inbox (λ w y. refl)) (fold spell_part z memory)
    ∙ parts_alike memory alike z
    ∙ state_spelled s g.state sizes pages sectors in
    ap (λ (k : Kept). load_kept g k)
    (λ i. keep_all (begin_kept s.bytes (sym pages i) (sym sectors i)) parts)
    ∙ loads_spelled g s.bytes parts
    ∙ ap (λ (y : GuestState). record g { state = y }) spelled
