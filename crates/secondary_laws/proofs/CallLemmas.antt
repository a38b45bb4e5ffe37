-- A secondary over a list of calls: messages go in order, and nothing is released before the report.
use Rattle.std.proofs.Common.{◌≡◌, ℕ, Bool, true, false, List, [], ◌∷◌, ◌++◌, drop, refl, sym, ap, ◌∙◌}
use Rattle.std.specs.Prelude.{if◌then◌else◌}
use Rattle.std.proofs.lemmas.Bool.{false≢true}
use Rattle.std.proofs.lemmas.List.{append-nil, append_assoc}
use Rattle.colo_wire.specs.declared.messages.Message.{Message}
use Rattle.colo_wire.specs.declared.messages.Message.TheVariants.{Frame, Number, Begin, State, Page, Disk, Write, Held, Line, Bytes, End, Known, Sent, Ack}
use Rattle.secondary_laws.specs.Calls.{Call, GoInOrder, ReleasesNothingBeforeTheReport, after_call, after_calls, all_of, answers_to, came, first_of, gave, gone_by, heard, made, put_by, reported}
use Rattle.node_secondary.specs.Hearing.{commit, hear, hear_due, is_due, is_due_at, next_checkpoint}
use Rattle.node_secondary.specs.Node.{Node}
use Rattle.node_secondary.specs.Steps.{settle_alone, survive_as}
use Rattle.node_secondary.specs.Survivor.{Second, Survivor, alone, hears, waits_of}
use Rattle.node_secondary.specs.Turns.{make_turn}
use Rattle.node_secondary.specs.declared.under_way.UnderWay.{UnderWay}
use Rattle.node_secondary.specs.declared.under_way.UnderWay.TheVariants.{Nothing, Begun, Heard}

-- ---- messages go in order

commit_puts : (n : Node) (e next : ℕ) (u : UnderWay) → is_due_at n.guest.kind next u (End e) ≡ true →
    (commit n e u).waits ≡ n.waits ++ Ack e ∷ []
commit_puts n e next Nothing h = absurd (false≢true h)
commit_puts n e next Begun h = absurd (false≢true h)
commit_puts n e next (Heard kept) h = refl

due_puts : (n : Node) (m : Message) → is_due n m ≡ true → (hear_due n m).waits ≡ n.waits ++ answers_to n m
due_puts n (Number tuple client number) h = refl
due_puts n (End e) h = commit_puts n e (next_checkpoint n.committed) n.under_way h
due_puts n (Frame index seen trim frame) h = sym (append-nil n.waits)
due_puts n (Begin e) h = sym (append-nil n.waits)
due_puts n (State bytes) h = sym (append-nil n.waits)
due_puts n (Page k bytes) h = sym (append-nil n.waits)
due_puts n (Disk first bytes) h = sym (append-nil n.waits)
due_puts n (Write k bytes) h = sym (append-nil n.waits)
due_puts n (Held index seen trim frame) h = sym (append-nil n.waits)
due_puts n (Line tuple mac flags client own number refused acked window mss base) h = sym (append-nil n.waits)
due_puts n (Bytes bytes) h = sym (append-nil n.waits)
due_puts n (Known tuple client number) h = sym (append-nil n.waits)
due_puts n (Sent frame) h = sym (append-nil n.waits)
due_puts n (Ack e) h = sym (append-nil n.waits)

heard_puts : (n : Node) (m : Message) →
    (if is_due n m then hear_due n m else n).waits ≡ n.waits ++ put_by (hears n) (heard m)
heard_puts n m = by (is_due n m) refl
  where
    by : (b : Bool) → is_due n m ≡ b →
        (if b then hear_due n m else n).waits ≡ n.waits ++ (if b then answers_to n m else [])
    by true h = due_puts n m h
    by false h = sym (append-nil n.waits)

first_goes : (ms : List Message) → first_of ms ++ drop 1 ms ≡ ms ++ []
first_goes [] = refl
first_goes (m ∷ ms) = sym (append-nil (m ∷ ms))

hearing_flow : (n : Node) (call : Call) →
    gone_by (hears n) call ++ waits_of (after_call (hears n) call) ≡ n.waits ++ put_by (hears n) call
unfolding make_turn survive_as
hearing_flow n (heard m) = heard_puts n m
hearing_flow n (made t) = refl
hearing_flow n reported = refl
hearing_flow n (came index frame) = sym (append-nil n.waits)
hearing_flow n gave = first_goes n.waits

alone_flow : (n : Survivor) (call : Call) → waits_of (after_call (alone n) call) ≡ []
unfolding settle_alone
alone_flow n (heard m) = refl
alone_flow n (made t) = refl
alone_flow n reported = refl
alone_flow n (came index frame) = refl
alone_flow n gave = refl

call_flow : (s : Second) (call : Call) →
    gone_by s call ++ waits_of (after_call s call) ≡ waits_of s ++ put_by s call
call_flow (hears n) call = hearing_flow n call
call_flow (alone n) call = alone_flow n call

pub go_in_order : GoInOrder
go_in_order s [] = sym (append-nil (waits_of s))
go_in_order s (call ∷ calls) =
    let next = after_call s call in
    append_assoc (gone_by s call) (all_of gone_by next calls) (waits_of (after_calls next calls))
    ∙ (ap (λ (ms : List Message). gone_by s call ++ ms) (go_in_order next calls)
    ∙ (sym (append_assoc (gone_by s call) (waits_of next) (all_of put_by next calls))
    ∙ (ap (λ (ms : List Message). ms ++ all_of put_by next calls) (call_flow s call)
    ∙ append_assoc (waits_of s) (put_by s call) (all_of put_by next calls))))

-- ---- nothing is released before the report

pub releases_nothing : ReleasesNothingBeforeTheReport
releases_nothing n [] h = refl
releases_nothing n (heard m ∷ calls) h = releases_nothing (hear n m) calls h
releases_nothing n (made t ∷ calls) h = releases_nothing (make_turn n t) calls h
releases_nothing n (reported ∷ calls) h = absurd (false≢true (sym h))
releases_nothing n (came index frame ∷ calls) h = releases_nothing n calls h
releases_nothing n (gave ∷ calls) h = releases_nothing (record n { waits = drop 1 n.waits }) calls h
