-- The frames of a stream that grows: those that it had come first.
use Rattle.std.proofs.Common.{◌≡◌, ℕ, ◌+◌, ◌≤◌, zero, suc, Bool, true, false, List, ◌∷◌, ◌++◌, length, take, drop, refl, sym, ap, ◌∙◌, arith, length-append}
use Rattle.std.proofs.Math.Seq.{drop-append_seam}
use Rattle.std.proofs.lemmas.Bool.Decides.{nat_tests}
use Rattle.std.proofs.lemmas.List.{drop-append-le, length-drop, take-append-le}
use Rattle.sock_link.specs.Stream.{length_of, limit}
use Rattle.sock_link.proofs.HoldingLemmas.{length_of-append}
use Rattle.command_inputs.specs.Client.{begins_record, frames_of, frames_within}
use Rattle.serve_rounds.specs.Rounds.{new_frames}

record Begins (a : List ℕ) : Type 0 where
  four : 4 ≤ length a
  allowed : length_of a ≤ limit
  whole : 4 + length_of a ≤ length a

begins : (a : List ℕ) → begins_record a ≡ true → Begins a
begins a h =
    let four : 4 ≤ length a = grind (arith, nat_tests) in
    let allowed : length_of a ≤ limit = grind (arith, nat_tests) in
    let whole : 4 + length_of a ≤ length a = grind (arith, nat_tests) in
    record { four = four; allowed = allowed; whole = whole }

-- a record that begins the bytes begins them whatever comes after
still_begins : (a b : List ℕ) → Begins a → begins_record (a ++ b) ≡ true
still_begins a b h =
    let states = length_of-append a b h.four in
    let four = h.four in
    let allowed = h.allowed in
    let whole = h.whole in
    rw (length-append a b, states) (grind (arith, nat_tests))

same_frame : (a b : List ℕ) → Begins a
    → take (length_of (a ++ b)) (drop 4 (a ++ b)) ≡ take (length_of a) (drop 4 a)
same_frame a b h =
    let room : length_of a ≤ length (drop 4 a) = omega (arith, length-drop 4 a, h.four, h.whole) in
    rw (length_of-append a b h.four, drop-append-le 4 a b h.four)
    (take-append-le (length_of a) (drop 4 a) b room)

same_rest : (a b : List ℕ) → Begins a
    → drop (4 + length_of (a ++ b)) (a ++ b) ≡ drop (4 + length_of a) a ++ b
same_rest a b h = rw (length_of-append a b h.four) (drop-append-le (4 + length_of a) a b h.whole)

-- these frames come first
record Comes (frames all : List (List ℕ)) : Type 0 where
  more : List (List ℕ)
  is : all ≡ frames ++ more

within_front : (n m : ℕ) (a b : List ℕ) → n ≤ m → Comes (frames_within n a) (frames_within m (a ++ b))
within_front zero m a b less = record { more = frames_within m (a ++ b); is = refl }
within_front (suc n) zero a b less = absurd (omega arith)
within_front (suc n) (suc m) a b less =
    by (begins_record a) refl (within_front n m (drop (4 + length_of a) a) b (omega arith))
  where
    by : (t : Bool) → begins_record a ≡ t
        → Comes (frames_within n (drop (4 + length_of a) a)) (frames_within m (drop (4 + length_of a) a ++ b))
        → Comes (frames_within (suc n) a) (frames_within (suc m) (a ++ b))
    by false h c = record { more = frames_within (suc m) (a ++ b); is = rw h refl }
    by true h c =
        let g = begins a h in
        let f = take (length_of a) (drop 4 a) in
        record {
          more = c.more;
          is = rw (h, still_begins a b g, same_frame a b g, same_rest a b g)
              (ap (λ (l : List (List ℕ)). f ∷ l) c.is);
        }

front_comes : (a b : List ℕ) → Comes (frames_of a) (frames_of (a ++ b))
unfolding frames_of
front_comes a b = within_front (length a) (length (a ++ b)) a b (omega (arith, length-append a b))

pub frames_then : (a b : List ℕ) → frames_of (a ++ b) ≡ frames_of a ++ new_frames a b
frames_then a b =
    let c = front_comes a b in
    let rest : new_frames a b ≡ c.more =
    ap (λ (l : List (List ℕ)). drop (length (frames_of a)) l) c.is ∙ drop-append_seam (frames_of a) c.more in
    c.is ∙ ap (λ (l : List (List ℕ)). frames_of a ++ l) (sym rest)
