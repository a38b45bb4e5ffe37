-- Reading whole records off the front of bytes.
use Rattle.std.proofs.Common.{◌≡◌, ℕ, ◌+◌, ◌≤◌, List, [], ◌∷◌, ◌++◌, length, take, drop, sym, ◌∙◌, ap, subst, arith, length-append, append_assoc}
use Rattle.std.specs.Prelude.{All}
use Rattle.std.specs.Int.{to_be_bytes, w32}
use Rattle.std.proofs.lemmas.Nat.{be_bytes_4}
use Rattle.std.proofs.lemmas.List.{take-append-drop, append-nil, drop-drop, length-take-le}
use Rattle.std.proofs.lemmas.List.Elements.{All-push, All-same}
use Rattle.std.proofs.lemmas.Grind.{common_steps}
use Rattle.shared_definitions.specs.Bytes.{AreBytes}
use Rattle.shared_definitions.proofs.ByteLemmas.{AreBytes-drop, AreBytes-take}
use Rattle.sock_link.specs.Stream.{limit, record_of, stream_of, length_of, frames_in, BeginsRecord}
use Rattle.sock_link.proofs.StreamLemmas.{length-record_of, stream_of-append, frames_in-stream_of, length-frames_in}

-- the frame of the record that begins these bytes
abbrev pub frame_at : List ℕ → List ℕ
frame_at bytes = take (length_of bytes) (drop 4 bytes)

-- a whole record begins these bytes
pub record IsWhole (bytes : List ℕ) : Type 0 where
  pub four : 4 ≤ length bytes
  pub allowed : length_of bytes ≤ limit
  pub whole : 4 + length_of bytes ≤ length bytes

-- what a look at the same bytes shows
pub whole_at : (seen bytes : List ℕ) (size : ℕ) → seen ≡ bytes →
    BeginsRecord seen size →
    IsWhole bytes × (size ≡ 4 + length_of bytes)
whole_at seen bytes size e begins =
    let P : List ℕ → Type 0 = λ xs. IsWhole xs × (size ≡ 4 + length_of xs) in
    let enough : 4 + length_of seen ≤ length seen = omega (arith, begins.size_is, begins.within) in
    let w : IsWhole seen = record { four = begins.four; allowed = begins.allowed; whole = enough } in
    subst P e (w, begins.size_is)

-- its frame has the length that it states
pub length-frame_at : (bytes : List ℕ) → IsWhole bytes → length (frame_at bytes) ≡ length_of bytes
length-frame_at bytes w = let few = w.whole in grind (arith, common_steps)

-- the first four bytes spell the length of the frame
four_spell : (bytes : List ℕ) → AreBytes bytes → (n : ℕ) → 4 ≤ length bytes → n ≡ length_of bytes →
    to_be_bytes w32 n ≡ take 4 bytes
unfolding length_of
four_spell bytes small n four e =
    be_bytes_4 (take 4 bytes) n (length-take-le 4 bytes four) (AreBytes-take 4 bytes small) e

-- the bytes are the record and what follows it
pub record_at : (bytes : List ℕ) → AreBytes bytes → IsWhole bytes →
    bytes ≡ record_of (frame_at bytes) ++ drop (4 + length_of bytes) bytes
unfolding record_of
record_at bytes small w =
    let n : ℕ = length_of bytes in
    let f : List ℕ = frame_at bytes in
    let after : List ℕ = drop (4 + n) bytes in
    let head : to_be_bytes w32 (length f) ≡ take 4 bytes = four_spell bytes small (length f) w.four
    (length-frame_at bytes w) in
    let tail : f ++ after ≡ drop 4 bytes = ap (λ xs. f ++ xs) (sym (drop-drop n 4 bytes))
    ∙ take-append-drop n (drop 4 bytes) in
    sym (take-append-drop 4 bytes) ∙ ap (λ xs. take 4 bytes ++ xs) (sym tail)
    ∙ ap (λ xs. xs ++ (f ++ after)) (sym head) ∙ sym (append_assoc (to_be_bytes w32 (length f)) f after)

-- these frames and that many bytes were read off the front
pub record IsRead (bytes : List ℕ) (frames : List (List ℕ)) (size : ℕ) : Type 0 where
  pub join : bytes ≡ stream_of frames ++ drop size bytes
  pub allowed : All (λ frame. length frame ≤ limit) frames
  pub size_is : size ≡ length (stream_of frames)

-- one record more is read
pub read_more : (bytes : List ℕ) (count size : ℕ) → AreBytes bytes →
    IsRead bytes (frames_in count bytes) size → IsWhole (drop size bytes) →
    IsRead bytes (frames_in (count + 1) bytes) (size + (4 + length_of (drop size bytes)))
read_more bytes count size small r w =
    let rest : List ℕ = drop size bytes in
    let f : List ℕ = frame_at rest in
    let fs : List (List ℕ) = frames_in count bytes in
    let n : ℕ = 4 + length_of rest in
    let small_rest : AreBytes rest = AreBytes-drop size bytes small in
    let at : rest ≡ record_of f ++ drop n rest = record_at rest small_rest w in
    let more : frames_in (count + 1) bytes ≡ fs ++ f ∷ [] =
    ap (λ k. frames_in (k + 1) bytes) (sym (length-frames_in count bytes)) ∙ ap (frames_in (length fs + 1)) r.join
    ∙ frames_in-stream_of fs 1 rest r.allowed in
    let grown : stream_of (frames_in (count + 1) bytes) ≡ stream_of fs ++ record_of f =
    ap stream_of more ∙ stream_of-append fs (f ∷ []) ∙ ap (λ xs. stream_of fs ++ xs) (append-nil (record_of f)) in
    let after : drop n rest ≡ drop (size + n) bytes = drop-drop n size bytes in
    let long : length (stream_of fs ++ record_of f) ≡ length (stream_of fs) + (4 + length f) =
    length-append (stream_of fs) (record_of f) ∙ ap (λ k. length (stream_of fs) + k) (length-record_of f) in
    let f_long : length f ≡ length_of rest = length-frame_at rest w in
    let f_small : length f ≤ limit = omega (arith, w.allowed, f_long) in
    record {
      join = r.join ∙ ap (λ xs. stream_of fs ++ xs) at ∙ sym (append_assoc (stream_of fs) (record_of f)
          (drop n rest)) ∙ ap (λ xs. xs ++ drop n rest) (sym grown)
          ∙ ap (λ xs. stream_of (frames_in (count + 1) bytes) ++ xs) after;
      allowed = All-same (λ g. length g ≤ limit) (frames_in (count + 1) bytes) (fs
          ++ f ∷ []) more (All-push (λ g. length g ≤ limit) fs f r.allowed f_small);
      size_is = omega (arith, r.size_is, ap length grown, long, f_long);
    }
