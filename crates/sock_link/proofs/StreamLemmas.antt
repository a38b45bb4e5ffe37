-- Streams of frames, and what can be read of them.
use Rattle.std.proofs.Common.{◌≡◌, ℕ, ◌+◌, ◌^◌, ◌<◌, ◌≤◌, List, [], ◌∷◌, ◌++◌, length, take, drop, refl, sym, ◌∙◌, ap, arith, zero, suc, zero-add, length-append, append_assoc}
use Rattle.std.proofs.lemmas.List.Elements.{All-head, All-tail}
use Rattle.std.specs.Prelude.{All}
use Rattle.std.specs.Int.{to_be_bytes, w32}
use Rattle.std.proofs.lemmas.Nat.{from_be_bytes-to_be_bytes_4}
use Rattle.std.proofs.lemmas.Grind.{common_steps}
use Rattle.sock_link.specs.Stream.{limit, record_of, stream_of, length_of, IsUnfinished, IsSplit, frames_in}

-- a record is four bytes longer than its frame
pub length-record_of : (frame : List ℕ) → length (record_of frame) ≡ 4 + length frame
unfolding record_of
length-record_of frame = length-append (to_be_bytes w32 (length frame)) frame

-- a record says its frame's length, whatever follows
pub length_of-record_of : (frame rest : List ℕ) → length frame ≤ limit →
    length_of (record_of frame ++ rest) ≡ length frame
unfolding record_of length_of
length_of-record_of frame rest small =
    let fits : length frame < 2 ^ 32 = omega arith in
    from_be_bytes-to_be_bytes_4 (length frame) fits

-- after a record's bytes comes what follows it
pub drop-record_of : (frame rest : List ℕ) → drop (4 + length frame) (record_of frame ++ rest) ≡ rest
unfolding record_of
drop-record_of frame rest = grind (arith, common_steps)

-- after a record's length stands its frame
take-record_of : (frame rest : List ℕ) → take (length frame) (drop 4 (record_of frame ++ rest)) ≡ frame
unfolding record_of
take-record_of frame rest = grind (arith, common_steps)

-- streams of frames one after another
pub stream_of-append : (fs gs : List (List ℕ)) → stream_of (fs ++ gs) ≡ stream_of fs ++ stream_of gs
stream_of-append [] gs = refl
stream_of-append (f ∷ fs) gs =
    ap (λ xs. record_of f ++ xs) (stream_of-append fs gs) ∙ sym (append_assoc (record_of f) (stream_of fs)
    (stream_of gs))

-- a record at the front of bytes is their first frame
frames_in-record_of : (f rest : List ℕ) (n : ℕ) → length f ≤ limit →
    frames_in (suc n) (record_of f ++ rest) ≡ f ∷ frames_in n rest
frames_in-record_of f rest n small =
    rw (length_of-record_of f rest small, take-record_of f rest, drop-record_of f rest) refl

-- the frames of a stream are read off its front
pub frames_in-stream_of : (fs : List (List ℕ)) (n : ℕ) (rest : List ℕ) → All (λ f. length f ≤ limit) fs →
    frames_in (length fs + n) (stream_of fs ++ rest) ≡ fs ++ frames_in n rest
frames_in-stream_of [] n rest small = ap (λ k. frames_in k rest) (zero-add n)
frames_in-stream_of (f ∷ fs) n rest small =
    let more : suc (length fs) + n ≡ suc (length fs + n) = omega arith in
    let again = frames_in-stream_of fs n rest (All-tail (λ g. length g ≤ limit) f fs small) in
    rw (more, append_assoc (record_of f) (stream_of fs) rest) (frames_in-record_of f (stream_of fs
    ++ rest) (length fs + n) (All-head (λ g. length g ≤ limit) f fs small) ∙ ap (λ gs. f ∷ gs) again)

-- so many frames as were asked for
pub length-frames_in : (n : ℕ) (bytes : List ℕ) → length (frames_in n bytes) ≡ n
length-frames_in zero bytes = refl
length-frames_in (suc n) bytes = ap suc (length-frames_in n (drop (4 + length_of bytes) bytes))

-- no whole record begins what is unfinished
pub no_record : (f rest tail : List ℕ) → length f ≤ limit → IsUnfinished rest → rest ≡ record_of f ++ tail → ⊥
no_record f rest tail small unfinished e =
    let long : length rest ≡ (4 + length f) + length tail = ap length e ∙ length-append (record_of f) tail
    ∙ ap (λ n. n + length tail) (length-record_of f) in
    let says : length_of rest ≡ length f = ap length_of e ∙ length_of-record_of f tail small in
    let below = unfinished (omega arith) (omega arith) in
    omega arith

-- bytes are split in one way
pub split_once : (fs gs : List (List ℕ)) (bytes xs ys : List ℕ) → IsSplit bytes fs xs → IsSplit bytes gs ys →
    (fs ≡ gs) × (xs ≡ ys)
split_once [] [] bytes xs ys a b = (refl, sym a.join ∙ b.join)
split_once [] (g ∷ gs) bytes xs ys a b =
    absurd (no_record g xs (stream_of gs ++ ys) (All-head (λ f. length f ≤ limit) g gs b.allowed) a.unfinished
    (sym a.join ∙ b.join ∙ append_assoc (record_of g) (stream_of gs) ys))
split_once (f ∷ fs) [] bytes xs ys a b =
    absurd (no_record f ys (stream_of fs ++ xs) (All-head (λ g. length g ≤ limit) f fs a.allowed) b.unfinished
    (sym b.join ∙ a.join ∙ append_assoc (record_of f) (stream_of fs) xs))
split_once (f ∷ fs) (g ∷ gs) bytes xs ys a b =
    let f_small = All-head (λ h. length h ≤ limit) f fs a.allowed in
    let g_small = All-head (λ h. length h ≤ limit) g gs b.allowed in
    let left : bytes ≡ record_of f ++ (stream_of fs ++ xs) = a.join ∙ append_assoc (record_of f) (stream_of fs) xs in
    let right : bytes ≡ record_of g ++ (stream_of gs ++ ys) = b.join ∙ append_assoc (record_of g) (stream_of gs) ys in
    let f_says : length_of bytes ≡ length f = ap length_of left ∙ length_of-record_of f (stream_of fs ++ xs) f_small in
    let g_says : length_of bytes ≡ length g = ap length_of right ∙ length_of-record_of g (stream_of gs ++ ys) g_small in
    let same_length : length f ≡ length g = sym f_says ∙ g_says in
    let f_is : take (length f) (drop 4 bytes) ≡ f = ap (λ b. take (length f) (drop 4 b)) left
    ∙ take-record_of f (stream_of fs ++ xs) in
    let g_is : take (length g) (drop 4 bytes) ≡ g = ap (λ b. take (length g) (drop 4 b)) right
    ∙ take-record_of g (stream_of gs ++ ys) in
    let first : f ≡ g = sym f_is ∙ ap (λ n. take n (drop 4 bytes)) same_length ∙ g_is in
    let f_after : drop (4 + length f) bytes ≡ stream_of fs ++ xs = ap (drop (4 + length f)) left
    ∙ drop-record_of f (stream_of fs ++ xs) in
    let g_after : drop (4 + length g) bytes ≡ stream_of gs ++ ys = ap (drop (4 + length g)) right
    ∙ drop-record_of g (stream_of gs ++ ys) in
    let same_after : drop (4 + length g) bytes ≡ stream_of fs
    ++ xs = ap (λ n. drop (4 + n) bytes) (sym same_length) ∙ f_after in
    let others = split_once fs gs (drop (4 + length g) bytes) xs ys (record {
      join = same_after;
      allowed = All-tail
          (λ h. length h ≤ limit) f fs a.allowed;
      unfinished = a.unfinished;
    })
    (record {
      join = g_after;
      allowed = All-tail
          (λ h. length h ≤ limit) g gs b.allowed;
      unfinished = b.unfinished;
    }) in
    (ap (λ h. h ∷ fs) first ∙ ap (λ hs. g ∷ hs) others.0, others.1)
