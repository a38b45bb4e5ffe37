-- What is heard: spellings of what is answered, and what stays of a checkpoint under way.
use Rattle.std.proofs.Common.{◌≡◌, ℕ, suc, ◌≤◌, Bool, true, false, List, length, refl, sym, ap, ◌∙◌, arith, lit≤, subst, Option, None, Result, Ok, Err, if◌then◌else◌}
use Rattle.std.proofs.lemmas.Bool.{false≢true}
use Rattle.std.specs.Prelude.{IsTrue}
use Rattle.inet_frame.specs.declared.tuple.Tuple.{Tuple}
use Rattle.tcp_track.specs.declared.openings.Opening.{Opening}
use Rattle.state_wire.specs.Guest.{Kind}
use Rattle.colo_wire.specs.Kinds.{number_of_kind}
use Rattle.colo_wire.specs.Spelling.{HasSpelling, IsMessage, kind_of}
use Rattle.colo_wire.specs.declared.answers.HearFault.{HearFault}
use Rattle.colo_wire.specs.declared.answers.HearFault.TheVariants.{NoMessage, NotDue}
use Rattle.colo_wire.specs.declared.answers.Told.{Told}
use Rattle.colo_wire.specs.declared.faults.WireFault.{WireFault}
use Rattle.colo_wire.specs.declared.messages.Message.{Message}
use Rattle.colo_wire.specs.declared.messages.Message.TheVariants.{Frame, Number, Begin, State, Page, Disk, Write, Held, Line, Bytes, End, Known, Sent, Ack}
use Rattle.frame_mirror.specs.Accepted.{is_accepted}
use Rattle.kept_checkpoint.specs.Kept.{HasPageSize, Kept, begin_kept, fits, keep}
use Rattle.node_parts.specs.Reading.{Reading}
use Rattle.node_secondary.specs.Answers.{IsAnswered}
use Rattle.node_secondary.specs.Hearing.{IsOther, IsPart, hear_due, hear_part, is_due, is_due_at, is_due_within, keep_part, told, told_of}
use Rattle.node_secondary.specs.Node.{IsLoadable, Node}
use Rattle.node_secondary.specs.Steps.{is_due_to}
use Rattle.node_secondary.specs.Survivor.{Second, alone, hears, second_with}
use Rattle.out_compare.specs.Comparing.{Comparing}
use Rattle.node_secondary.specs.declared.under_way.UnderWay.{UnderWay}
use Rattle.node_secondary.specs.declared.under_way.UnderWay.TheVariants.{Nothing, Begun, Heard}

pub ack_spells : (e : ℕ) → HasSpelling (Ack e)
ack_spells e = record { length = record { from = lit≤ tt; to = lit≤ tt; stepped = refl }; places = refl }

-- a page has its size
pub page_sized : (m : Message) → IsMessage m → HasPageSize m
page_sized (Page k bytes) h =
    let from : 4100 ≤ suc (suc (suc (suc (length bytes)))) = h.spelled.length.from in
    let to : suc (suc (suc (suc (length bytes)))) ≤ 4100 = h.spelled.length.to in
    omega (arith, from, to)
page_sized (Frame index seen trim frame) h = tt
page_sized (Number tuple client number) h = tt
page_sized (Begin e) h = tt
page_sized (State bytes) h = tt
page_sized (Disk first bytes) h = tt
page_sized (Write k bytes) h = tt
page_sized (Held index seen trim frame) h = tt
page_sized (Line tuple mac flags client own number refused acked window mss base) h = tt
page_sized (Bytes bytes) h = tt
page_sized (End e) h = tt
page_sized (Known tuple client number) h = tt
page_sized (Sent frame) h = tt
page_sized (Ack e) h = tt

-- what is kept doesn't change the state's bytes
same_state : (kept : Kept) (m : Message) → (keep kept m).state ≡ kept.state
same_state kept (Page k bytes) = refl
same_state kept (Disk first bytes) = refl
same_state kept (Held index seen trim frame) = refl
same_state kept (Line tuple mac flags client own number refused acked window mss base) = refl
same_state kept (Bytes bytes) = refl
same_state kept (Frame index seen trim frame) = refl
same_state kept (Number tuple client number) = refl
same_state kept (Begin e) = refl
same_state kept (State bytes) = refl
same_state kept (Write k bytes) = refl
same_state kept (End e) = refl
same_state kept (Known tuple client number) = refl
same_state kept (Sent frame) = refl
same_state kept (Ack e) = refl

still_loadable : (kind : Kind) (u : UnderWay) (m : Message) → IsLoadable kind u → IsLoadable kind (keep_part u m)
still_loadable kind Nothing m h = tt
still_loadable kind Begun m h = tt
still_loadable kind (Heard kept) m h =
    subst (λ (x : List ℕ). IsTrue (kind.accepts x)) (sym (same_state kept m)) h

pub kept_loadable : (kind : Kind) (u new : UnderWay) (m : Message) → new ≡ keep_part u m → IsLoadable kind u →
    IsLoadable kind new
kept_loadable kind u new m e h = subst (λ (x : UnderWay). IsLoadable kind x) (sym e) (still_loadable kind u m h)

-- a guest of the same kind
pub same_loadable : (old new : Kind) (u : UnderWay) → new ≡ old → IsLoadable old u → IsLoadable new u
same_loadable old new u e h = subst (λ (k : Kind). IsLoadable k u) (sym e) h

is_true : (b : Bool) → b ≡ true → IsTrue b
is_true true e = refl
is_true false e = absurd (false≢true e)

-- an accepted state
pub state_loadable : (kind : Kind) (bytes : List ℕ) (pages sectors : ℕ) (kept : Kept) →
    kept ≡ begin_kept bytes pages sectors → kind.accepts bytes ≡ true → IsLoadable kind (Heard kept)
state_loadable kind bytes pages sectors kept e h =
    subst (λ (k : Kept). IsLoadable kind (Heard k)) (sym e) (is_true (kind.accepts bytes) h)

pub loadable_heard : (kind : Kind) (u : UnderWay) (kept : Kept) → u ≡ Heard kept → IsLoadable kind u →
    IsTrue (kind.accepts kept.state)
loadable_heard kind u kept e h = subst (λ (x : UnderWay). IsLoadable kind x) e h

-- ---- what is answered

when_true : {A : Type 0} (b : Bool) (x y : A) → b ≡ true → x ≡ (if b then x else y)
when_true true x y e = refl
when_true false x y e = absurd (false≢true e)

when_false : {A : Type 0} (b : Bool) (x y : A) → b ≡ false → y ≡ (if b then x else y)
when_false true x y e = absurd (false≢true (sym e))
when_false false x y e = refl

-- a message that isn't due
pub refused_by : (s : Second) (m : Message) (k : ℕ) → is_due_to s m ≡ false → k ≡ number_of_kind (kind_of m) →
    IsAnswered s (Ok m) (Err (NotDue k)) s
refused_by (hears n) m k not e = record {
  answer = ap (λ (x : ℕ). let r : Result Told HearFault = Err (NotDue x) in r) e
      ∙ when_false (is_due n m) (let r : Result Told HearFault = Ok (told_of n m) in r)
      (Err (NotDue (number_of_kind (kind_of m)))) not;
  left = ap hears (when_false (is_due n m) (hear_due n m) n not);
}
refused_by (alone n) m k not e = record {
  answer = ap (λ (x : ℕ). let r : Result Told HearFault = Err (NotDue x) in r) e;
  left = refl;
}

-- one that is
pub heard_by : (n new : Node) (x y : Option Comparing) (m : Message) (t : Told) → x ≡ None → y ≡ None →
    is_due n m ≡ true → new ≡ hear_due n m → t ≡ told_of n m →
    IsAnswered (second_with n x) (Ok m) (Ok t) (second_with new y)
heard_by n new x y m t none still due left told =
    subst (λ (a : Option Comparing). IsAnswered (second_with n a) (Ok m) (Ok t) (second_with new y)) (sym none)
    (subst (λ (b : Option Comparing). IsAnswered (hears n) (Ok m) (Ok t) (second_with new b)) (sym still) answered)
  where
    answered : IsAnswered (hears n) (Ok m) (Ok t) (hears new)
    answered = record {
      answer = ap (λ (x : Told). let r : Result Told HearFault = Ok x in r) told
          ∙ when_true (is_due n m) (let r : Result Told HearFault = Ok (told_of n m) in r)
          (Err (NotDue (number_of_kind (kind_of m)))) due;
      left = ap hears (left ∙ when_true (is_due n m) (hear_due n m) n due);
    }

-- bytes that are none
pub none_by : (s : Second) (f : WireFault) → IsAnswered s (Err f) (Err (NoMessage f)) s
none_by s f = record { answer = refl; left = refl }

-- of any reading of the bytes
pub answered_by : (old new : Second) (r reading : Reading) (result : Result Told HearFault) →
    IsAnswered old r result new → r ≡ reading → IsAnswered old reading result new
answered_by old new r reading result a e = subst (λ (x : Reading). IsAnswered old x result new) e a

-- ---- what is due

-- a frame that is due is accepted
pub frame_is_accepted : (kind : Kind) (next : ℕ) (u : UnderWay) (index : ℕ) (seen : Option Opening) (trim : ℕ)
    (frame : List ℕ) → is_due_at kind next u (Frame index seen trim frame) ≡ true → is_accepted frame ≡ true
frame_is_accepted kind next Nothing index seen trim frame e = e
frame_is_accepted kind next Begun index seen trim frame e = absurd (false≢true e)
frame_is_accepted kind next (Heard kept) index seen trim frame e = absurd (false≢true e)

-- a state that is due is accepted
pub state_is_accepted : (kind : Kind) (next : ℕ) (u : UnderWay) (bytes : List ℕ) →
    is_due_at kind next u (State bytes) ≡ true → kind.accepts bytes ≡ true
state_is_accepted kind next Nothing bytes e = absurd (false≢true e)
state_is_accepted kind next Begun bytes e = e
state_is_accepted kind next (Heard kept) bytes e = absurd (false≢true e)

-- a part that is due goes on with what was heard
part_by : (kind : Kind) (next : ℕ) (u : UnderWay) (m : Message) →
    ((kept : Kept) → is_due_within next kept m ≡ fits kept m) → is_due_at kind next u m ≡ true → IsPart u m
part_by kind next Nothing m within e = tt
part_by kind next Begun m within e = tt
part_by kind next (Heard kept) m within e = sym (within kept) ∙ e

pub part_is_due : (kind : Kind) (next : ℕ) (u : UnderWay) (m : Message) → IsOther m → is_due_at kind next u m ≡ true →
    IsPart u m
part_is_due kind next u (Frame index seen trim frame) other e = absurd other
part_is_due kind next u (Number tuple client number) other e = absurd other
part_is_due kind next u (Begin n) other e = absurd other
part_is_due kind next u (State bytes) other e = absurd other
part_is_due kind next u (End n) other e = absurd other
part_is_due kind next u (Page k bytes) other e =
    part_by kind next u (Page k bytes) (λ kept. refl) e
part_is_due kind next u (Disk first bytes) other e =
    part_by kind next u (Disk first bytes) (λ kept. refl) e
part_is_due kind next u (Write k bytes) other e =
    part_by kind next u (Write k bytes) (λ kept. refl) e
part_is_due kind next u (Held index seen trim frame) other e =
    part_by kind next u (Held index seen trim frame) (λ kept. refl) e
part_is_due kind next u (Line tuple mac flags client own number refused acked window mss base) other e =
    part_by kind next u (Line tuple mac flags client own number refused acked window mss base) (λ kept. refl) e
part_is_due kind next u (Bytes bytes) other e =
    part_by kind next u (Bytes bytes) (λ kept. refl) e
part_is_due kind next u (Known tuple client number) other e =
    part_by kind next u (Known tuple client number) (λ kept. refl) e
part_is_due kind next u (Sent frame) other e =
    part_by kind next u (Sent frame) (λ kept. refl) e
part_is_due kind next u (Ack n) other e =
    part_by kind next u (Ack n) (λ kept. refl) e

-- what such a message leaves, and what is told of it
pub other_heard : (n : Node) (m : Message) → IsOther m → hear_part n m ≡ hear_due n m
other_heard n (Frame index seen trim frame) other = absurd other
other_heard n (Number tuple client number) other = absurd other
other_heard n (Begin e) other = absurd other
other_heard n (State bytes) other = absurd other
other_heard n (End e) other = absurd other
other_heard n (Page k bytes) other = refl
other_heard n (Disk first bytes) other = refl
other_heard n (Write k bytes) other = refl
other_heard n (Held index seen trim frame) other = refl
other_heard n (Line tuple mac flags client own number refused acked window mss base) other = refl
other_heard n (Bytes bytes) other = refl
other_heard n (Known tuple client number) other = refl
other_heard n (Sent frame) other = refl
other_heard n (Ack e) other = refl

pub other_told : (n : Node) (m : Message) → IsOther m → told (number_of_kind (kind_of m)) false None ≡ told_of n m
other_told n (Frame index seen trim frame) other = absurd other
other_told n (Number tuple client number) other = absurd other
other_told n (Begin e) other = absurd other
other_told n (State bytes) other = absurd other
other_told n (End e) other = absurd other
other_told n (Page k bytes) other = refl
other_told n (Disk first bytes) other = refl
other_told n (Write k bytes) other = refl
other_told n (Held index seen trim frame) other = refl
other_told n (Line tuple mac flags client own number refused acked window mss base) other = refl
other_told n (Bytes bytes) other = refl
other_told n (Known tuple client number) other = refl
other_told n (Sent frame) other = refl
other_told n (Ack e) other = refl

pub other_by : (m : Message) →
    ((index : ℕ) (seen : Option Opening) (trim : ℕ) (frame : List ℕ) → m ≡ Frame index seen trim frame → ⊥) →
    ((tuple : Tuple) (client number : ℕ) → m ≡ Number tuple client number → ⊥) → ((e : ℕ) → m ≡ Begin e → ⊥) →
    ((bytes : List ℕ) → m ≡ State bytes → ⊥) → ((e : ℕ) → m ≡ End e → ⊥) → IsOther m
other_by (Frame index seen trim frame) f t b s d = f index seen trim frame refl
other_by (Number tuple client number) f t b s d = t tuple client number refl
other_by (Begin e) f t b s d = b e refl
other_by (State bytes) f t b s d = s bytes refl
other_by (End e) f t b s d = d e refl
other_by (Page k bytes) f t b s d = tt
other_by (Disk first bytes) f t b s d = tt
other_by (Write k bytes) f t b s d = tt
other_by (Held index seen trim frame) f t b s d = tt
other_by (Line tuple mac flags client own number refused acked window mss base) f t b s d = tt
other_by (Bytes bytes) f t b s d = tt
other_by (Known tuple client number) f t b s d = tt
other_by (Sent frame) f t b s d = tt
other_by (Ack e) f t b s d = tt
