-- The first message on each link is due when it comes.
use Rattle.std.proofs.Common.{◌≡◌, ◌==◌, not, true, List, refl, sym, ap, subst, ◌∙◌}
use Rattle.std.proofs.lemmas.Bool.{and_from, eq-eqb}
use Rattle.state_wire.specs.Guest.{Kind, Meaning}
use Rattle.colo_wire.specs.declared.messages.Message.{Message}
use Rattle.colo_wire.specs.declared.messages.Message.TheVariants.{Frame, Number, Begin, State, Page, Disk, Write, Held, Bytes, End, Known, Sent, Ack}
use Rattle.colo_wire.specs.declared.messages.Message.TheVariants as message
use Rattle.node_primary.specs.Node.{Primary}
use Rattle.node_primary.specs.Steps.{is_due_together}
use Rattle.node_secondary.specs.Hearing.{is_due_at, next_checkpoint}
use Rattle.node_secondary.specs.Steps.{is_due_to}
use Rattle.node_secondary.specs.Survivor.{Second, guest_of}
use Rattle.pair_theorem.specs.Past.{Past}
use Rattle.theorem_runs.specs.Links.{IsReply}
use Rattle.theorem_runs.proofs.Checkpoints.{HeardBackFirst, acks, pop_up, replies}
use Rattle.pair_history.specs.Due.{Due}
use Rattle.pair_history.specs.Laws.{DownIsDue, UpIsDue, past_after}
use Rattle.pair_history.specs.Standing.{PrimaryStands}
use Rattle.pair_history.proofs.Flags.{it_hears}
use Rattle.pair_history.proofs.LogLemmas.{one}

pub down_is_due : DownIsDue
down_is_due a lines w m ms h runs reported is =
    let past = past_after a lines in
    let g = it_hears a.kind past w.second (sym h.reported ∙ reported) (h.second runs) in
    let n = g.node in
    let due = subst (λ (xs : List Message). Due a.kind past.copy past.captures n.committed n.under_way xs)
    (sym h.down ∙ is) g.stands.due in
    let kind : n.guest.kind ≡ a.kind =
    (λ i. (guest_of (sym g.is i)).kind) ∙ ap (λ (x : Meaning). x.kind) h.second_guest in
    ap (λ (s : Second). is_due_to s m) g.is
    ∙ (ap (λ (k : Kind). is_due_at k (next_checkpoint n.committed) n.under_way m) kind ∙ due.0)

reply_due : (n : Primary) (m : Message) → IsReply m → is_due_together n m ≡ true
reply_due n (Known t client number) g = refl
reply_due n (Sent frame) g = g
reply_due n (Frame index seen trim frame) g = absurd g
reply_due n (Number t client number) g = absurd g
reply_due n (Begin k) g = absurd g
reply_due n (State bytes) g = absurd g
reply_due n (Page k bytes) g = absurd g
reply_due n (Disk first bytes) g = absurd g
reply_due n (Write k bytes) g = absurd g
reply_due n (Held index seen trim frame) g = absurd g
reply_due n (message.Line t mac flags client own number refused acked window mss base) g = absurd g
reply_due n (Bytes bytes) g = absurd g
reply_due n (End k) g = absurd g
reply_due n (Ack k) g = absurd g

first_due : (past : Past) (n : Primary) (m : Message) (ms : List Message) → PrimaryStands past n
    → HeardBackFirst past m ms → is_due_together n m ≡ true
first_due past n m ms p (replies g one) = reply_due n m g
first_due past n m ms p (acks same g) =
    ap (λ (k : Message). is_due_together n k) same
    ∙ and_from n.awaits (past.captures == n.captures) (p.awaits ∙ g.awaits)
    (eq-eqb past.captures n.captures (sym p.captures))

pub up_is_due : UpIsDue
up_is_due a lines w m ms h runs reported is =
    let past = past_after a lines in
    let p = h.first runs in
    and_from (not w.first.comparing.is_alone) (is_due_together w.first m)
    (ap not (p.compares.alone ∙ (sym h.reported ∙ reported)))
    (first_due past w.first m ms p (pop_up past m ms (sym h.up ∙ is) (one a lines)))
