-- The messages of an inbox and of a table, one place more at a time.
use Rattle.std.proofs.Common.{◌≡◌, ℕ, ◌+◌, suc, zero, true, List, [], ◌∷◌, ◌++◌, take, drop, Option, None, Some, refl, ap, sym, ◌∙◌}
use Rattle.std.proofs.lemmas.Bool.{false≢true}
use Rattle.std.specs.Prelude.{IsSome}
use Rattle.std.specs.List.{flat_map, slice_get}
use Rattle.std.proofs.Math.Seq.{take-add}
use Rattle.std.proofs.lemmas.Grind.{flat_map-append}
use Rattle.std.proofs.lemmas.List.{append-nil, drop_more, map-append}
use Rattle.std.proofs.lemmas.Option.{get_or_from_slice_get, slice_get-map, slice_get_within}
use Rattle.inet_frame.specs.Fields.{TcpFields}
use Rattle.inet_frame.specs.declared.tuple.Tuple.{Tuple}
use Rattle.tcp_track.specs.LineFields.{LineFields}
use Rattle.tcp_track.specs.Tracking.{Tracking, entry_at}
use Rattle.tcp_track.specs.declared.table.Entry.{Entry}
use Rattle.checkpoint_form.specs.Captured.{lines_of}
use Rattle.checkpoint_form.specs.Rows.{line_messages}
use Rattle.colo_wire.specs.declared.messages.Message.{Message}
use Rattle.seq_rewriter.specs.Kept.{KeptNumbers}
use Rattle.inet_frame.specs.Counted.{tcp_in}
use Rattle.frame_mirror.specs.Accepted.{is_accepted, is_for_guest}
use Rattle.frame_mirror.specs.declared.ring.Waiting.{Waiting}
use Rattle.node_parts.proofs.FrameLemmas.{frame_fits}
use Rattle.state_wire.specs.Guest.{IsFrame}
use Rattle.checkpoint_form.specs.Inbox.{held_message, inbox_messages}

-- an accepted frame is a frame
segment_by : (o : Option TcpFields) → is_for_guest o ≡ true → IsSome o
segment_by None e = absurd (false≢true e)
segment_by (Some t) e = refl

pub accepted_fits : (frame : List ℕ) → is_accepted frame ≡ true → IsFrame frame
accepted_fits frame e = frame_fits frame (segment_by (tcp_in frame) e)

-- the one element at a place, and none past the end
pub one_at : {X : Type 0} (xs : List X) (k : ℕ) (x : X) → slice_get xs k ≡ Some x → take 1 (drop k xs) ≡ x ∷ []
one_at xs k x e =
    ap (take 1) (drop_more xs k x (slice_get_within xs k x e)) ∙
    ap (λ y. y ∷ []) (get_or_from_slice_get xs k x x e)

pub none_at : {X : Type 0} (xs : List X) (k : ℕ) → slice_get xs k ≡ None → take 1 (drop k xs) ≡ []
none_at [] zero e = refl
none_at [] (suc k) e = refl
none_at (x ∷ xs) zero e = absurd (cc e)
none_at (x ∷ xs) (suc k) e = none_at xs k e

pub inbox_more : (inbox : List Waiting) (k : ℕ) →
    inbox_messages (take (k + 1) inbox) ≡ inbox_messages (take k inbox) ++ inbox_messages (take 1 (drop k inbox))
inbox_more inbox k =
    ap inbox_messages (take-add k 1 inbox) ∙ map-append held_message (take k inbox) (take 1 (drop k inbox))

pub flat_more : {X Y : Type 0} (f : X → List Y) (xs : List X) (k : ℕ) →
    flat_map f (take (k + 1) xs) ≡ flat_map f (take k xs) ++ flat_map f (take 1 (drop k xs))
flat_more f xs k = ap (flat_map f) (take-add k 1 xs) ∙ flat_map-append f (take k xs) (take 1 (drop k xs))

-- ---- the lines of a table

pub one_line : (lines : Tracking) (k : ℕ) (x : Tuple × LineFields) → entry_at lines k ≡ Some x →
    take 1 (drop k (lines_of lines)) ≡ x ∷ []
one_line lines k x e =
    one_at (lines_of lines) k x
    (slice_get-map (λ (x : Tuple × Entry). (x.0, x.1.line)) lines.entries k ∙ e)

pub no_line : (lines : Tracking) (k : ℕ) → entry_at lines k ≡ None → take 1 (drop k (lines_of lines)) ≡ []
no_line lines k e =
    none_at (lines_of lines) k
    (slice_get-map (λ (x : Tuple × Entry). (x.0, x.1.line)) lines.entries k ∙ e)

-- ---- what a place gives

pub frame_messages : (inbox : List Waiting) (k : ℕ) (w : Waiting) → slice_get inbox k ≡ Some w →
    held_message w ∷ [] ≡ inbox_messages (take 1 (drop k inbox))
frame_messages inbox k w e = sym (ap inbox_messages (one_at inbox k w e))

pub no_frame : (waits : List Message) (inbox : List Waiting) (k : ℕ) → slice_get inbox k ≡ None →
    waits ≡ waits ++ inbox_messages (take 1 (drop k inbox))
no_frame waits inbox k e =
    sym (ap (λ (ws : List Waiting). waits ++ inbox_messages ws) (none_at inbox k e) ∙ append-nil waits)

pub entry_messages : (numbers : KeptNumbers) (lines : Tracking) (k : ℕ) (x : Tuple × LineFields) →
    entry_at lines k ≡ Some x →
    line_messages numbers x ≡ flat_map (line_messages numbers) (take 1 (drop k (lines_of lines)))
entry_messages numbers lines k x e =
    sym (ap (flat_map (line_messages numbers)) (one_line lines k x e) ∙ append-nil (line_messages numbers x))

pub no_entry : (waits : List Message) (numbers : KeptNumbers) (lines : Tracking) (k : ℕ) → entry_at lines k ≡ None →
    waits ≡ waits ++ flat_map (line_messages numbers) (take 1 (drop k (lines_of lines)))
no_entry waits numbers lines k e =
    sym (ap (λ (xs : List (Tuple × LineFields)). waits ++ flat_map (line_messages numbers) xs) (no_line lines k e) ∙
    append-nil waits)
