-- The pause, in the words of the sentence on it.
use Rattle.std.proofs.Common.{◌≡◌, ◌||◌, not, false, List, [], ◌∷◌, Option, None, Some, refl, All, true≢false}
use Rattle.std.specs.Prelude.{IsTrue}
use Rattle.std.specs.List.{AllByRecursion}
use Rattle.std.proofs.lemmas.Bool.{and_parts, not-true, or_parts}
use Rattle.std.proofs.lemmas.List.Elements.{All-cons, All-nil}
use Rattle.settle_rules.specs.Release.{Released, reply, tcp}
use Rattle.colo_wire.specs.declared.messages.Message.{Message}
use Rattle.colo_wire.specs.declared.messages.Message.TheVariants.{Frame, Number, Begin, State, Page, Disk, Write, Held, Bytes, End, Known, Sent, Ack}
use Rattle.colo_wire.specs.declared.messages.Message.TheVariants as message
use Rattle.replay_log.specs.declared.lines.Line.{Line}
use Rattle.replay_log.specs.declared.lines.Line.TheVariants.{Primary, Secondary, Client, ToSecondary, ToPrimary, StopPrimary, StopSecondary, Report, Ask}
use Rattle.pair_theorem.specs.Events.{is_ack_message}
use Rattle.pair_theorem.specs.Log.{is_report}
use Rattle.pair_theorem.specs.LogParts.{ack_marks}
use Rattle.pair_theorem.specs.Places.{Event}
use Rattle.pair_theorem.specs.Splicing.{Pauses, hears_ack, is_reply}
use Rattle.theorem_splices.specs.Pause.{IsOfNoGuest, IsSilentEvent}
use Rattle.theorem_splices.proofs.PauseLemmas.{pause_holds}
use Rattle.theorem_known.specs.Pauses.{PausesOfEachLog}

-- a message that is no acknowledgement has no mark of one
unmarked : (m : Message) → is_ack_message m ≡ false → ack_marks ToPrimary (Some m) ≡ []
unmarked (Frame index seen trim frame) e = refl
unmarked (Number t client number) e = refl
unmarked (Begin n) e = refl
unmarked (State bytes) e = refl
unmarked (Page k bytes) e = refl
unmarked (Disk first bytes) e = refl
unmarked (Write k bytes) e = refl
unmarked (Held index seen trim frame) e = refl
unmarked (message.Line t mac flags client own number refused acked window mss base) e = refl
unmarked (Bytes bytes) e = refl
unmarked (End n) e = refl
unmarked (Known t client number) e = refl
unmarked (Sent frame) e = refl
unmarked (Ack n) e = absurd (true≢false e)

no_mark : (line : Line) (delivered : Option Message) → hears_ack delivered ≡ false → ack_marks line delivered ≡ []
no_mark (Primary d i b n) delivered e = refl
no_mark (Secondary d i b n) delivered e = refl
no_mark Client delivered e = refl
no_mark ToSecondary delivered e = refl
no_mark ToPrimary None e = refl
no_mark ToPrimary (Some m) e = unmarked m e
no_mark StopPrimary delivered e = refl
no_mark StopSecondary delivered e = refl
no_mark Report delivered e = refl
no_mark Ask delivered e = refl

silent_replies : (out : List Released) → AllByRecursion IsOfNoGuest out
    → All (λ (r : Released). IsTrue (is_reply r)) out
silent_replies [] h = All-nil (λ (r : Released). IsTrue (is_reply r))
silent_replies (reply b ∷ out) h =
    All-cons (λ (r : Released). IsTrue (is_reply r)) (reply b) out refl (silent_replies out h.1)
silent_replies (tcp s payload ∷ out) h = absurd h.0

pauses : (e : Event) → IsSilentEvent e → Pauses e
pauses e silent paused =
    let parts = and_parts e.past.awaits_ack
    (not (hears_ack e.step.delivered || is_report e.step.entry.line)) paused in
    let none = or_parts (hears_ack e.step.delivered) (is_report e.step.entry.line)
    (not-true (hears_ack e.step.delivered || is_report e.step.entry.line) parts.1) in
    silent_replies e.step.released
    (silent parts.0 none.1 (no_mark e.step.entry.line e.step.delivered none.0))

weaker : {X : Type 0} (P Q : X → Type 0) (xs : List X) → ((x : X) → P x → Q x) → All P xs → All Q xs
weaker P Q xs f h k d l = f _ (h k d l)

pub pauses_hold : PausesOfEachLog
pauses_hold a lines one = weaker IsSilentEvent Pauses _ pauses (pause_holds a lines one)
