-- The turns that a machine makes alone, one after the other.
use Rattle.std.proofs.Common.{◌≡◌, ℕ, ◌+◌, ◌<◌, true, false, List, [], ◌∷◌, ◌++◌, Option, length, take, drop, refl, sym, ap, ap₂, subst, ◌∙◌, arith}
use Rattle.std.proofs.lemmas.Bool.{and_from, and_parts}
use Rattle.std.proofs.lemmas.Grind.{fold-append}
use Rattle.std.proofs.lemmas.List.{append_assoc, length-take-le, take-append-drop}
use Rattle.replay_log.specs.declared.turns.Turn.{Turn}
use Rattle.replay_log.specs.declared.turns.TurnFrame.TheVariants as frame
use Rattle.state_wire.specs.Guest.{GuestTurn, Kind, Meaning, after_turn, sent_in, turn_of}
use Rattle.state_wire.specs.Run.{Run}
use Rattle.tcp_track.specs.Stands.{segments}
use Rattle.splice_run.specs.Runs.{given_to, given_turn, run_given, run_turns}
use Rattle.splice_run.specs.Solo.{HasMade, Sender, StopsAt, can_make, can_make_all, count_turn, run_of, sender, sender_after}

-- a turn of no steps, which stands for one that isn't there
abbrev pub no_turn : Turn
no_turn = record { d = 0; frame = frame.Absent; b = 0; n = 0 }

-- no turns
pub made_none : (stream : List (List ℕ)) (m : Sender) → HasMade stream m m []
unfolding run_turns
made_none stream m = record { each = refl; run = refl; kind = refl; turned = refl }

can_make_more : (kind : Kind) (stream : List (List ℕ)) (run : Run) (turns : List Turn) (t : Turn)
    → can_make_all kind stream run turns ≡ true → can_make kind stream (run_turns kind stream run turns) t ≡ true
    → can_make_all kind stream run (turns ++ t ∷ []) ≡ true
unfolding run_turns
can_make_more kind stream run [] t all one = and_from (can_make kind stream run t) true one refl
can_make_more kind stream run (x ∷ turns) t all one =
    let both = and_parts (can_make kind stream run x) (can_make_all kind stream (run_given kind stream run x) turns)
    all in
    and_from (can_make kind stream run x) _ both.0
    (can_make_more kind stream (run_given kind stream run x) turns t both.1 one)

run_more : (kind : Kind) (stream : List (List ℕ)) (run : Run) (turns : List Turn) (t : Turn)
    → run_turns kind stream run (turns ++ t ∷ []) ≡ run_given kind stream (run_turns kind stream run turns) t
unfolding run_turns
run_more kind stream run turns t = fold-append (run_given kind stream) run turns (t ∷ [])

-- one turn more
pub made_more : (stream : List (List ℕ)) (old mid new : Sender) (turns : List Turn) (t : Turn)
    → HasMade stream old mid turns → can_make mid.guest.kind stream (run_of mid) t ≡ true
    → new ≡ sender_after stream mid t → HasMade stream old new (turns ++ t ∷ [])
made_more stream old mid new turns t m can e =
    let kind = m.kind in
    let there : can_make old.guest.kind stream (run_turns old.guest.kind stream (run_of old) turns) t ≡ true =
    subst (λ (k : Kind). can_make k stream (run_turns old.guest.kind stream (run_of old) turns) t ≡ true) kind
    (subst (λ (r : Run). can_make mid.guest.kind stream r t ≡ true) m.run can) in
    record {
      each = can_make_more old.guest.kind stream (run_of old) turns t m.each there;
      run =
          ap (λ (s : Sender). run_of s) e
          ∙ (ap (λ (k : Kind). run_given k stream (run_of mid) t) kind
          ∙ (ap (λ (r : Run). run_given old.guest.kind stream r t) m.run
          ∙ sym (run_more old.guest.kind stream (run_of old) turns t)));
      kind = ap (λ (s : Sender). s.guest.kind) e ∙ kind;
      turned =
          ap (λ (s : Sender). s.guest.turned) e
          ∙ (ap (λ (n : ℕ). count_turn n t) m.turned
          ∙ sym (fold-append count_turn old.guest.turned turns (t ∷ [])));
    }

-- the turn after those that were made can't be
pub stops_at : (stream : List (List ℕ)) (old mid new : Sender) (turns : List Turn) (k number : ℕ) (t : Turn)
    → k < length turns → take (k + 1) turns ≡ take k turns ++ t ∷ [] → number ≡ k + 1
    → HasMade stream old mid (take k turns) → can_make mid.guest.kind stream (run_of mid) t ≡ false → new ≡ mid
    → StopsAt stream old new turns number
stops_at stream old mid new turns k number t within one numbered m can e = record {
  before = take k turns;
  turn = t;
  later = drop (k + 1) turns;
  place =
      sym (take-append-drop (k + 1) turns)
      ∙ (ap (λ (ts : List Turn). ts ++ drop (k + 1) turns) one
      ∙ append_assoc (take k turns) (t ∷ []) (drop (k + 1) turns));
  numbered = numbered ∙ ap (λ (n : ℕ). n + 1) (sym (length-take-le k turns (omega arith)));
  made = subst (λ (s : Sender). HasMade stream old s (take k turns)) (sym e) m;
  stops = subst (λ (s : Sender). can_make s.guest.kind stream (run_of s) t ≡ false) (sym e) can;
}

-- the guest's turn is that of the run
pub sender_is : (stream : List (List ℕ)) (old new : Sender) (t : Turn) (given : Option (List ℕ))
    → given_to stream (segments old.sent) t.frame ≡ given
    → new.guest ≡ after_turn old.guest (turn_of t.d given t.b t.n)
    → new.sent ≡ old.sent ++ sent_in old.guest (turn_of t.d given t.b t.n)
    → new ≡ sender_after stream old t
sender_is stream old new t given e after sent =
    let same : turn_of t.d given t.b t.n ≡ given_turn stream (segments old.sent) t =
    ap (λ (o : Option (List ℕ)). turn_of t.d o t.b t.n) (sym e) in
    ap₂ (λ (m : Meaning) (s : List (List ℕ)). sender m s)
    (after ∙ ap (λ (g : GuestTurn). after_turn old.guest g) same)
    (sent ∙ ap (λ (g : GuestTurn). old.sent ++ sent_in old.guest g) same)
