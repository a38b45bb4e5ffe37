-- A primary over a list of calls: its guest runs its turns, and frames and messages wait in order.
use Rattle.std.proofs.Common.{◌≡◌, ℕ, ◌+◌, ◌%◌, ◌^◌, Bool, true, false, List, [], ◌∷◌, ◌++◌, length, length-append, drop, Option, None, Some, refl, sym, ap, ◌∙◌, arith}
use Rattle.std.specs.Prelude.{if◌then◌else◌, option_to_list}
use Rattle.std.proofs.Math.Nat.{mod-add-mod}
use Rattle.std.proofs.lemmas.List.{append-nil, append_assoc}
use Rattle.std.proofs.lemmas.List.Sums.{fold-append}
use Rattle.colo_base.specs.declared.fault.Cause.{Cause}
use Rattle.colo_base.specs.declared.fault.Cause.TheVariants as cause
use Rattle.frame_mirror.specs.declared.ring.Waiting.{Waiting}
use Rattle.state_wire.specs.Guest.{GuestState, GuestTurn, Kind, Meaning, sent_in}
use Rattle.state_wire.specs.Run.{Run, run, run_turn}
use Rattle.colo_wire.specs.declared.messages.Message.{Message}
use Rattle.colo_wire.specs.declared.messages.Message.TheVariants.{Frame, Number, Begin, State, Page, Disk, Write, Held, Line, Bytes, End, Known, Sent, Ack}
use Rattle.out_compare.specs.Comparing.{Comparing, learn, need_after, settle, take_heard}
use Rattle.node_parts.specs.Turns.{Turn, left_frames, taken_frame, takes}
use Rattle.node_release.specs.Causes.{cause_of}
use Rattle.node_release.specs.Following.{new_numbers}
use Rattle.node_primary.specs.Calls.{Call, GoInOrder, RunsAllTurns, WaitInOrder, after_call, after_calls, all_of, asked, came, first_of, gave, gone_by, heard, hearing_messages, let_in_by, made, messages_for, put_by, reported, settling_messages, taken_by_call, turns_by}
use Rattle.node_primary.specs.Node.{Primary}
use Rattle.node_primary.specs.Steps.{acknowledged, capture, capture_for, compares, followed, guest_turn, is_due, left_alone, may_ask, primary_hear, settle_node, still, told, unless_awaiting}

-- ---- settling and capturing change neither the guest nor the frames that wait

record Rests (old new : Primary) : Type 0 where
  guest : new.guest ≡ old.guest
  inbox : new.inbox ≡ old.inbox

capture_rests : (n : Primary) → Rests n (capture n)
unfolding capture
capture_rests n = record { guest = refl; inbox = refl }

for_rests : (cause : Option Cause) (n : Primary) (out : List (List ℕ)) → Rests n (capture_for cause n out).after
for_rests None n out = record { guest = refl; inbox = refl }
for_rests (Some cause) n out =
    let r = capture_rests n in record { guest = r.guest; inbox = r.inbox }

settle_rests : (n : Primary) (is_turn : Bool) → Rests n (settle_node n is_turn).after
unfolding settle_node
settle_rests n is_turn =
    let r = for_rests (cause_of (need_after n.comparing is_turn)) (compares n (settle n.comparing is_turn)) _ in
    record { guest = r.guest; inbox = r.inbox }

unless_rests : (n : Primary) (x : Comparing) → Rests n (unless_awaiting n x).after
unless_rests n x = by n.awaits
  where
    by : (b : Bool) → Rests n (if b then still n else settle_node (compares n x) false).after
    by true = record { guest = refl; inbox = refl }
    by false = let r = settle_rests (compares n x) false in record { guest = r.guest; inbox = r.inbox }

hear_rests : (n : Primary) (m : Message) → Rests n (primary_hear n m).after
hear_rests n (Known tuple client number) = unless_rests n (learn n.comparing tuple client number)
hear_rests n (Sent frame) = unless_rests n (take_heard n.comparing frame)
hear_rests n (Ack e) = let r = settle_rests (acknowledged n) false in record { guest = r.guest; inbox = r.inbox }
hear_rests n (Frame index seen trim frame) = record { guest = refl; inbox = refl }
hear_rests n (Number tuple client number) = record { guest = refl; inbox = refl }
hear_rests n (Begin e) = record { guest = refl; inbox = refl }
hear_rests n (State bytes) = record { guest = refl; inbox = refl }
hear_rests n (Page k bytes) = record { guest = refl; inbox = refl }
hear_rests n (Disk first bytes) = record { guest = refl; inbox = refl }
hear_rests n (Write k bytes) = record { guest = refl; inbox = refl }
hear_rests n (Held index seen trim frame) = record { guest = refl; inbox = refl }
hear_rests n (Line tuple mac flags client own number refused acked window mss base) =
    record { guest = refl; inbox = refl }
hear_rests n (Bytes bytes) = record { guest = refl; inbox = refl }
hear_rests n (End e) = record { guest = refl; inbox = refl }

heard_rests : (n : Primary) (m : Message) → Rests n (after_call n (heard m))
heard_rests n m = by (is_due n m)
  where
    by : (b : Bool) → Rests n (if b then (primary_hear n m).after else n)
    by true = hear_rests n m
    by false = record { guest = refl; inbox = refl }

asked_rests : (n : Primary) → Rests n (after_call n asked)
asked_rests n = by (may_ask n)
  where
    by : (b : Bool) → Rests n (if b then capture n else n)
    by true = capture_rests n
    by false = record { guest = refl; inbox = refl }

reported_rests : (n : Primary) → Rests n (after_call n reported)
reported_rests n = by n.comparing.is_alone
  where
    by : (b : Bool) → Rests n (if b then still n else settle_node (left_alone n) false).after
    by true = record { guest = refl; inbox = refl }
    by false = let r = settle_rests (left_alone n) false in record { guest = r.guest; inbox = r.inbox }

-- ---- the guest runs its turns

-- the guest after some turns
record Ran (old : Meaning) (turns : List GuestTurn) (new : Meaning) : Type 0 where
  kind : new.kind ≡ old.kind
  state : new.state ≡ (run old.kind (record { state = old.state; sent = [] }) turns).state
  turned : new.turned % 2 ^ 64 ≡ (old.turned + length turns) % 2 ^ 64

ran_none : (g : Meaning) → Ran g [] g
unfolding run
ran_none g = record { kind = refl; state = refl; turned = ap (λ (x : ℕ). x % 2 ^ 64) (omega arith) }

ran_same : (n new : Primary) → Rests n new → Ran n.guest [] new.guest
unfolding run
ran_same n new r = record {
  kind = ap (λ (g : Meaning). g.kind) r.guest;
  state = ap (λ (g : Meaning). g.state) r.guest;
  turned = ap (λ (g : Meaning). g.turned % 2 ^ 64) r.guest ∙ ap (λ (x : ℕ). x % 2 ^ 64) (omega arith);
}

followed_ran : (n : Primary) (t : Turn) → Ran n.guest (guest_turn n t ∷ []) (followed n t).guest
unfolding run followed
followed_ran n t = record {
  kind = refl;
  state = refl;
  turned = mod_twice (n.guest.turned + 1);
}
  where
    mod_twice : (x : ℕ) → (x % 2 ^ 64) % 2 ^ 64 ≡ x % 2 ^ 64
    mod_twice x =
        ap (λ (y : ℕ). y % 2 ^ 64) (omega arith) ∙ (mod-add-mod x (2 ^ 64) 0 ∙ ap (λ (y : ℕ). y % 2 ^ 64) (omega arith))

made_ran : (n : Primary) (t : Turn) → Ran n.guest (turns_by n (made t)) (after_call n (made t)).guest
made_ran n t = by n.awaits
  where
    by : (b : Bool) → Ran n.guest (if b then [] else guest_turn n t ∷ [])
        (if b then still n else settle_node (followed n t) true).after.guest
    by true = ran_none n.guest
    by false =
        let f = followed_ran n t in
        let r = settle_rests (followed n t) true in record {
          kind = ap (λ (g : Meaning). g.kind) r.guest ∙ f.kind;
          state = ap (λ (g : Meaning). g.state) r.guest ∙ f.state;
          turned = ap (λ (g : Meaning). g.turned % 2 ^ 64) r.guest ∙ f.turned;
        }

call_ran : (n : Primary) (call : Call) → Ran n.guest (turns_by n call) (after_call n call).guest
call_ran n (heard m) = ran_same n (after_call n (heard m)) (heard_rests n m)
call_ran n (made t) = made_ran n t
call_ran n asked = ran_same n (after_call n asked) (asked_rests n)
call_ran n reported = ran_same n (after_call n reported) (reported_rests n)
call_ran n (came index frame) = ran_none n.guest
call_ran n gave = ran_none n.guest

-- a run's state doesn't hang on what was sent before it
same_run : (k : Kind) (r s : Run) (turns : List GuestTurn) → s.state ≡ r.state →
    (run k s turns).state ≡ (run k r turns).state
unfolding run
same_run k r s [] e = e
same_run k r s (t ∷ turns) e =
    same_run k (run_turn k r t) (run_turn k s t) turns (ap (λ (x : GuestState). k.next x t) e)

joined_run : (k : Kind) (r : Run) (xs ys : List GuestTurn) → run k (run k r xs) ys ≡ run k r (xs ++ ys)
unfolding run
joined_run k r xs ys = sym (fold-append (run_turn k) r xs ys)

-- one run after another
runs_on : (k : Kind) (a b c : GuestState) (xs ys : List GuestTurn) →
    b ≡ (run k (record { state = a; sent = [] }) xs).state → c ≡ (run k (record { state = b; sent = [] }) ys).state →
    c ≡ (run k (record { state = a; sent = [] }) (xs ++ ys)).state
runs_on k a b c xs ys p q =
    let start : Run = record { state = a; sent = [] } in
    q ∙ (same_run k (run k start xs) (record { state = b; sent = [] }) ys p
    ∙ ap (λ (r : Run). r.state) (joined_run k start xs ys))

ran_on : (a b c : Meaning) (xs ys : List GuestTurn) → Ran a xs b → Ran b ys c → Ran a (xs ++ ys) c
ran_on a b c xs ys p q = record {
  kind = q.kind ∙ p.kind;
  state = runs_on a.kind a.state b.state c.state xs ys p.state
      (q.state ∙ ap (λ (k : Kind). (run k (record { state = b.state; sent = [] }) ys).state) p.kind);
  turned = q.turned
      ∙ (sym (mod-add-mod b.turned (2 ^ 64) (length ys))
      ∙ (ap (λ (x : ℕ). (x + length ys) % 2 ^ 64) p.turned
      ∙ (mod-add-mod (a.turned + length xs) (2 ^ 64) (length ys) ∙ ap (λ (x : ℕ). x % 2 ^ 64) (sum_of xs))));
}
  where
    sum_of : (xs : List GuestTurn) → a.turned + length xs + length ys ≡ a.turned + length (xs ++ ys)
    sum_of xs = omega (arith, length-append xs ys)

calls_ran : (n : Primary) (calls : List Call) → Ran n.guest (all_of turns_by n calls) (after_calls n calls).guest
calls_ran n [] = ran_none n.guest
calls_ran n (call ∷ calls) =
    ran_on n.guest (after_call n call).guest (after_calls (after_call n call) calls).guest (turns_by n call)
    (all_of turns_by (after_call n call) calls) (call_ran n call) (calls_ran (after_call n call) calls)

pub runs_all_turns : RunsAllTurns
runs_all_turns n calls = let r = calls_ran n calls in record { state = r.state; turned = r.turned }

-- ---- lists that grow at one end and are taken from the other

-- call by call: what goes and then what is left is what was there and then what comes
abbrev Flows : {X : Type 0} → (Primary → List X) → (Primary → Call → List X) → (Primary → Call → List X) → Type 0
Flows held out come = (n : Primary) (call : Call) → out n call ++ held (after_call n call) ≡ held n ++ come n call

flows : {X : Type 0} (held : Primary → List X) (out come : Primary → Call → List X) → Flows held out come →
    (n : Primary) (calls : List Call) →
    all_of out n calls ++ held (after_calls n calls) ≡ held n ++ all_of come n calls
flows held out come flow n [] = sym (append-nil (held n))
flows held out come flow n (call ∷ calls) =
    let next = after_call n call in
    append_assoc (out n call) (all_of out next calls) (held (after_calls next calls))
    ∙ (ap (λ xs. out n call ++ xs) (flows held out come flow next calls)
    ∙ (sym (append_assoc (out n call) (held next) (all_of come next calls))
    ∙ (ap (λ xs. xs ++ all_of come next calls) (flow n call)
    ∙ append_assoc (held n) (come n call) (all_of come next calls))))

-- ---- frames wait in order

rests_flow : (n new : Primary) → Rests n new → new.inbox ≡ n.inbox ++ []
rests_flow n new r = r.inbox ∙ sym (append-nil n.inbox)

taken_left : (b : Bool) (inbox : List Waiting) →
    option_to_list (taken_frame b inbox) ++ left_frames b inbox ≡ inbox
taken_left false inbox = refl
taken_left true [] = refl
taken_left true (w ∷ inbox) = refl

made_flow : (n : Primary) (t : Turn) →
    taken_by_call n (made t) ++ (after_call n (made t)).inbox ≡ n.inbox ++ []
unfolding followed
made_flow n t = by n.awaits
  where
    by : (b : Bool) →
        (if b then [] else option_to_list (taken_frame (takes n.guest t.wants) n.inbox))
        ++ (if b then still n else settle_node (followed n t) true).after.inbox ≡ n.inbox ++ []
    by true = sym (append-nil n.inbox)
    by false =
        let xs = option_to_list (taken_frame (takes n.guest t.wants) n.inbox) in
        ap (λ (ys : List Waiting). xs ++ ys) (settle_rests (followed n t) true).inbox
        ∙ (taken_left (takes n.guest t.wants) n.inbox ∙ sym (append-nil n.inbox))

frame_flows : Flows (λ (n : Primary). n.inbox) taken_by_call let_in_by
frame_flows n (heard m) = rests_flow n (after_call n (heard m)) (heard_rests n m)
frame_flows n (made t) = made_flow n t
frame_flows n asked = rests_flow n (after_call n asked) (asked_rests n)
frame_flows n reported = rests_flow n (after_call n reported) (reported_rests n)
frame_flows n (came index frame) = refl
frame_flows n gave = sym (append-nil n.inbox)

pub wait_in_order : WaitInOrder
wait_in_order n calls = flows (λ (m : Primary). m.inbox) taken_by_call let_in_by frame_flows n calls

-- ---- messages go in order

for_puts : (cause : Option Cause) (n : Primary) (out : List (List ℕ)) →
    (capture_for cause n out).after.waits ≡ n.waits ++ messages_for cause n
unfolding capture
for_puts None n out = sym (append-nil n.waits)
for_puts (Some cause) n out = refl

settle_puts : (n : Primary) (is_turn : Bool) →
    (settle_node n is_turn).after.waits ≡ n.waits ++ settling_messages n is_turn
unfolding settle_node
settle_puts n is_turn =
    for_puts (cause_of (need_after n.comparing is_turn)) (compares n (settle n.comparing is_turn)) _

unless_puts : (n : Primary) (x : Comparing) → (unless_awaiting n x).after.waits
    ≡ n.waits ++ (if n.awaits then [] else settling_messages (compares n x) false)
unless_puts n x = by n.awaits
  where
    by : (b : Bool) → (if b then still n else settle_node (compares n x) false).after.waits
        ≡ n.waits ++ (if b then [] else settling_messages (compares n x) false)
    by true = sym (append-nil n.waits)
    by false = settle_puts (compares n x) false

hear_puts : (n : Primary) (m : Message) → (primary_hear n m).after.waits ≡ n.waits ++ hearing_messages n m
hear_puts n (Known tuple client number) = unless_puts n (learn n.comparing tuple client number)
hear_puts n (Sent frame) = unless_puts n (take_heard n.comparing frame)
hear_puts n (Ack e) = settle_puts (acknowledged n) false
hear_puts n (Frame index seen trim frame) = sym (append-nil n.waits)
hear_puts n (Number tuple client number) = sym (append-nil n.waits)
hear_puts n (Begin e) = sym (append-nil n.waits)
hear_puts n (State bytes) = sym (append-nil n.waits)
hear_puts n (Page k bytes) = sym (append-nil n.waits)
hear_puts n (Disk first bytes) = sym (append-nil n.waits)
hear_puts n (Write k bytes) = sym (append-nil n.waits)
hear_puts n (Held index seen trim frame) = sym (append-nil n.waits)
hear_puts n (Line tuple mac flags client own number refused acked window mss base) = sym (append-nil n.waits)
hear_puts n (Bytes bytes) = sym (append-nil n.waits)
hear_puts n (End e) = sym (append-nil n.waits)

heard_puts : (n : Primary) (m : Message) → (after_call n (heard m)).waits ≡ n.waits ++ put_by n (heard m)
heard_puts n m = by (is_due n m)
  where
    by : (b : Bool) → (if b then (primary_hear n m).after else n).waits
        ≡ n.waits ++ (if b then hearing_messages n m else [])
    by true = hear_puts n m
    by false = sym (append-nil n.waits)

made_puts : (n : Primary) (t : Turn) → (after_call n (made t)).waits ≡ n.waits ++ put_by n (made t)
unfolding followed
made_puts n t = by n.awaits
  where
    numbers : List Message
    numbers = told n.comparing.is_alone (new_numbers n.comparing (sent_in n.guest (guest_turn n t)))

    by : (b : Bool) → (if b then still n else settle_node (followed n t) true).after.waits
        ≡ n.waits ++ (if b then [] else numbers ++ settling_messages (followed n t) true)
    by true = sym (append-nil n.waits)
    by false =
        settle_puts (followed n t) true ∙ append_assoc n.waits numbers (settling_messages (followed n t) true)

asked_puts : (n : Primary) → (after_call n asked).waits ≡ n.waits ++ put_by n asked
unfolding capture
asked_puts n = by (may_ask n)
  where
    by : (b : Bool) → (if b then capture n else n).waits
        ≡ n.waits ++ (if b then messages_for (Some cause.Asked) n else [])
    by true = refl
    by false = sym (append-nil n.waits)

reported_flow : (n : Primary) →
    gone_by n reported ++ (after_call n reported).waits ≡ n.waits ++ put_by n reported
reported_flow n = by n.comparing.is_alone
  where
    by : (b : Bool) → (if b then [] else n.waits)
        ++ (if b then still n else settle_node (left_alone n) false).after.waits
        ≡ n.waits ++ (if b then [] else settling_messages (left_alone n) false)
    by true = sym (append-nil n.waits)
    by false = ap (λ (ms : List Message). n.waits ++ ms) (settle_puts (left_alone n) false)

first_goes : (ms : List Message) → first_of ms ++ drop 1 ms ≡ ms ++ []
first_goes [] = refl
first_goes (m ∷ ms) = sym (append-nil (m ∷ ms))

message_flows : Flows (λ (n : Primary). n.waits) gone_by put_by
message_flows n (heard m) = heard_puts n m
message_flows n (made t) = made_puts n t
message_flows n asked = asked_puts n
message_flows n reported = reported_flow n
message_flows n (came index frame) = refl
message_flows n gave = first_goes n.waits

pub go_in_order : GoInOrder
go_in_order n calls = flows (λ (m : Primary). m.waits) gone_by put_by message_flows n calls
