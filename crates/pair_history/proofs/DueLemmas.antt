-- What is put on the link to the secondary is due when it comes.
use Rattle.std.proofs.Common.{◌≡◌, ℕ, true, false, List, [], ◌∷◌, ◌++◌, map, fold, Option, None, unwrap_or, refl, sym, ap, subst, ◌∙◌, true≢false}
use Rattle.std.proofs.lemmas.Bool.{or_parts}
use Rattle.settle_rules.specs.Numbers.{KeptNumber}
use Rattle.frame_mirror.specs.Accepted.{is_accepted}
use Rattle.frame_mirror.specs.declared.ring.Waiting.{Waiting}
use Rattle.state_wire.specs.Guest.{Kind}
use Rattle.colo_wire.specs.declared.messages.Message.{Message}
use Rattle.colo_wire.specs.declared.messages.Message.TheVariants.{Frame, Number, Begin, State, Page, Disk, Write, Held, Bytes, End, Known, Sent, Ack}
use Rattle.colo_wire.specs.declared.messages.Message.TheVariants as message
use Rattle.node_secondary.specs.Hearing.{commit_by, is_due_at, next_checkpoint}
use Rattle.node_secondary.specs.declared.under_way.UnderWay.{UnderWay}
use Rattle.node_secondary.specs.declared.under_way.UnderWay.TheVariants.{Nothing, Begun, Heard}
use Rattle.pair_theorem.specs.Events.{number_message}
use Rattle.pair_theorem.specs.Past.{Copy}
use Rattle.capture_laws.specs.Ways.{AreDue, way}
use Rattle.theorem_runs.specs.Runs.{has_end, is_end}
use Rattle.pair_history.specs.Due.{CommitsHeard, CommitsWhole, Due}

-- WHAT COMMITS NOTHING
no_commit : (m : Message) → is_end m ≡ false → commit_by m ≡ None
no_commit (Frame index seen trim frame) e = refl
no_commit (Number t client number) e = refl
no_commit (Begin n) e = refl
no_commit (State bytes) e = refl
no_commit (Page k bytes) e = refl
no_commit (Disk first bytes) e = refl
no_commit (Write k bytes) e = refl
no_commit (Held index seen trim frame) e = refl
no_commit (message.Line t mac flags client own number refused acked window mss base) e = refl
no_commit (Bytes bytes) e = refl
no_commit (End n) e = absurd (true≢false e)
no_commit (Known t client number) e = refl
no_commit (Sent frame) e = refl
no_commit (Ack n) e = refl

-- BEHIND what is on the link
pub due_behind : (kind : Kind) (copy : Copy) (last committed : ℕ) (u : UnderWay) (ms more : List Message)
    → Due kind copy last last Nothing more → Due kind copy last committed u ms
    → Due kind copy last committed u (ms ++ more)
due_behind kind copy last committed u [] more new d =
    subst (λ (v : UnderWay). Due kind copy last committed v more) (sym d.0)
    (subst (λ (c : ℕ). Due kind copy last c Nothing more) (sym d.1) new)
due_behind kind copy last committed u (m ∷ ms) more new d =
    (d.0, (d.1.0, due_behind kind copy last (unwrap_or (commit_by m) committed) (way kind u m) ms more new d.1.1))

-- a frame and a number
pub due_frame : (kind : Kind) (copy : Copy) (last : ℕ) (w : Waiting) → is_accepted w.frame ≡ true
    → Due kind copy last last Nothing (Frame w.index w.seen w.trim w.frame ∷ [])
due_frame kind copy last w e = (e, (tt, (refl, refl)))

pub due_numbers : (kind : Kind) (copy : Copy) (last : ℕ) (numbers : List KeptNumber)
    → Due kind copy last last Nothing (map number_message numbers)
due_numbers kind copy last [] = (refl, refl)
due_numbers kind copy last (k ∷ numbers) = (refl, (tt, due_numbers kind copy last numbers))

-- ANOTHER CHECKPOINT, behind what commits none
pub due_anew : (kind : Kind) (old copy : Copy) (before last committed : ℕ) (u : UnderWay) (ms more : List Message)
    → has_end ms ≡ false → Due kind copy last before Nothing more
    → Due kind old before committed u ms → Due kind copy last committed u (ms ++ more)
due_anew kind old copy before last committed u [] more none new d =
    subst (λ (v : UnderWay). Due kind copy last committed v more) (sym d.0)
    (subst (λ (c : ℕ). Due kind copy last c Nothing more) (sym d.1) new)
due_anew kind old copy before last committed u (m ∷ ms) more none new d =
    let parts = or_parts (is_end m) (has_end ms) none in (
      d.0,
      (
        subst (λ (o : Option ℕ). CommitsWhole kind copy u o) (sym (no_commit m parts.0)) tt,
        due_anew kind old copy before last (unwrap_or (commit_by m) committed) (way kind u m) ms more parts.1 new
            d.1.1,
      ),
    )

-- A WHOLE CHECKPOINT, each message of which is due, and which is heard whole
ends_due : (kind : Kind) (copy : Copy) (e committed : ℕ) (u : UnderWay) → next_checkpoint committed ≡ e
    → is_due_at kind e u (End e) ≡ true → CommitsHeard kind copy u → Due kind copy e committed u (End e ∷ [])
ends_due kind copy e committed Nothing next due whole = absurd (true≢false (sym due))
ends_due kind copy e committed Begun next due whole = absurd (true≢false (sym due))
ends_due kind copy e committed (Heard kept) next due whole = (
  ap (λ (n : ℕ). is_due_at kind n (Heard kept) (End e)) next ∙ due,
  (whole, (refl, refl)),
)

pub due_whole : (kind : Kind) (copy : Copy) (e committed : ℕ) (u : UnderWay) (ms : List Message)
    → next_checkpoint committed ≡ e → has_end ms ≡ false → AreDue kind e u (ms ++ End e ∷ [])
    → CommitsHeard kind copy (fold (way kind) u ms) → Due kind copy e committed u (ms ++ End e ∷ [])
due_whole kind copy e committed u [] next none due whole = ends_due kind copy e committed u next due.0 whole
due_whole kind copy e committed u (m ∷ ms) next none due whole =
    let parts = or_parts (is_end m) (has_end ms) none in
    let same = no_commit m parts.0 in (
      ap (λ (n : ℕ). is_due_at kind n u m) next ∙ due.0,
      (
        subst (λ (o : Option ℕ). CommitsWhole kind copy u o) (sym same) tt,
        subst (λ (c : ℕ). Due kind copy e c (way kind u m) (ms ++ End e ∷ []))
            (ap (λ (o : Option ℕ). unwrap_or o committed) (sym same))
            (due_whole kind copy e committed (way kind u m) ms next parts.1 due.1 whole),
      ),
    )
