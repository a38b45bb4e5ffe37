-- What an unframer shows of the whole stream that was heard.
use Rattle.std.proofs.Common.{◌≡◌, ℕ, ◌+◌, ◌*◌, ◌≤◌, ◌==◌, false, List, [], ◌∷◌, ◌++◌, length, drop, refl, sym, ap, subst, ◌∙◌, length-append, arith}
use Rattle.std.proofs.Math.Seq.{drop-append_seam}
use Rattle.std.proofs.lemmas.Bool.{ne_eqb}
use Rattle.std.proofs.lemmas.Bool.Decides.{nat_tests}
use Rattle.std.proofs.lemmas.List.{append-nil}
use Rattle.sock_link.specs.Stream.{IsSplit, is_too_long, kept_part, length_of, limit, record_of, stream_of}
use Rattle.sock_link.specs.Unframed.{Feeds, Stands, Unframed}
use Rattle.sock_link.proofs.HistoryLemmas.{feeds_stand, tells_boundary, tells_too_long}
use Rattle.sock_link.proofs.StreamLemmas.{length-record_of}
use Rattle.command_inputs.specs.Client.{frames_of}
use Rattle.command_inputs.proofs.ClientLemmas.{frames_are}
use Rattle.serve_rounds.specs.Rounds.{new_frames, place_of, rest_of}

-- ---- a stream and where its unfinished record begins

module _ (heard : List ℕ) (frames : List (List ℕ)) (rest : List ℕ) (split : IsSplit heard frames rest) where
  pub place_is : place_of heard ≡ length (stream_of frames)
  place_is = ap (λ fs. length (stream_of fs)) (frames_are heard frames rest split)

  pub rest_is : rest_of heard ≡ rest
  rest_is =
      ap (λ n. drop n heard) place_is
      ∙ (ap (λ bytes. drop (length (stream_of frames)) bytes) split.join ∙ drop-append_seam (stream_of frames) rest)

-- ---- a piece comes

module _ (u v : Unframed) (heard piece : List ℕ) (stands : Stands u heard (frames_of heard))
    (feeds : Feeds u v piece) where
  after_feed : Stands v (heard ++ piece) (frames_of heard)
  after_feed = feeds_stand u v heard piece (frames_of heard) stands feeds

  pub frames_now : frames_of (heard ++ piece) ≡ frames_of heard ++ v.frames
  frames_now = frames_are (heard ++ piece) (frames_of heard ++ v.frames) after_feed.rest after_feed.split

  pub new_are : new_frames heard piece ≡ v.frames
  new_are =
      ap (λ fs. drop (length (frames_of heard)) fs) frames_now ∙ drop-append_seam (frames_of heard) v.frames

  pub place_now : place_of (heard ++ piece) ≡ v.place
  place_now =
      place_is (heard ++ piece) (frames_of heard ++ v.frames) after_feed.rest after_feed.split ∙ sym after_feed.place

  pub long_now : is_too_long (rest_of (heard ++ piece)) ≡ is_too_long v.part
  long_now =
      ap is_too_long (rest_is (heard ++ piece) (frames_of heard ++ v.frames) after_feed.rest after_feed.split)
      ∙ sym (tells_too_long v (heard ++ piece) after_feed.rest (frames_of heard) (frames_of heard ++ v.frames)
      after_feed after_feed.split)

  -- once its frames were taken out it stands after all of them
  pub stands_now : (w : Unframed) → w ≡ record v { frames = [] }
      → Stands w (heard ++ piece) (frames_of (heard ++ piece))
  stands_now w is =
      let all : frames_of (heard ++ piece) ++ [] ≡ frames_of heard ++ v.frames =
      append-nil (frames_of (heard ++ piece)) ∙ frames_now in
      let bare : Stands (record v { frames = [] }) (heard ++ piece) (frames_of (heard ++ piece)) = record {
        rest = after_feed.rest;
        split = subst (λ (fs : List (List ℕ)). IsSplit (heard ++ piece) fs after_feed.rest) (sym all) after_feed.split;
        part = after_feed.part;
        place = after_feed.place ∙ ap (λ fs. length (stream_of fs)) (sym all);
        fed = after_feed.fed;
      } in
      subst (λ (x : Unframed). Stands x (heard ++ piece) (frames_of (heard ++ piece))) (sym is) bare

-- ---- there are few frames in a piece

four_each : (frames : List (List ℕ)) → 4 * length frames ≤ length (stream_of frames)
four_each [] = omega arith
four_each (f ∷ fs) = omega (arith, four_each fs, length-append (record_of f) (stream_of fs), length-record_of f)

small_rest : (rest : List ℕ) → is_too_long rest ≡ false → (4 ≤ length rest → length_of rest ≤ limit
    → length rest + 1 ≤ 4 + length_of rest) → length rest ≤ 4 + limit
small_rest rest short unfinished = grind (arith, nat_tests)

pub part_small : (u : Unframed) (heard : List ℕ) (given : List (List ℕ)) (s : Stands u heard given)
    → is_too_long u.part ≡ false → length u.part ≤ 4 + limit
part_small u heard given s short =
    let same = tells_too_long u heard s.rest given (given ++ u.frames) s s.split in
    let rest_short : is_too_long s.rest ≡ false = sym same ∙ short in
    let kept : kept_part s.rest ≡ s.rest = rw rest_short refl in
    let small = small_rest s.rest rest_short (λ four allowed. omega (arith, s.split.unfinished four allowed)) in
    omega (arith, ap length (s.part ∙ kept), small)

pub few_frames : (u v : Unframed) (piece : List ℕ) → Feeds u v piece → length u.part ≤ 4 + limit → u.frames ≡ []
    → length piece ≤ 65536 → length v.frames ≤ 65536
few_frames u v piece f small taken short =
    let waiting : length v.frames ≡ length f.frames = ap length (f.waiting ∙ ap (λ fs. fs ++ f.frames) taken) in
    let size : length u.part + length piece ≡ length (stream_of f.frames) + length f.rest =
    sym (length-append u.part piece) ∙ (ap length f.split.join ∙ length-append (stream_of f.frames) f.rest) in
    omega (arith, waiting, size, four_each f.frames)

-- ---- the end of the stream

same_length : (xs ys : List ℕ) → ((xs ≡ []) → ys ≡ []) → ((ys ≡ []) → xs ≡ []) → (length xs == 0) ≡ (length ys == 0)
same_length [] [] f g = refl
same_length [] (y ∷ ys) f g = let e : y ∷ ys ≡ [] = f refl in cc
same_length (x ∷ xs) [] f g = let e : x ∷ xs ≡ [] = g refl in cc
same_length (x ∷ xs) (y ∷ ys) f g =
    ne_eqb (length (x ∷ xs)) 0 (λ e. omega (arith, e)) ∙ sym (ne_eqb (length (y ∷ ys)) 0 (λ e. omega (arith, e)))

-- the stream ends with a whole record exactly where nothing came of another one
pub whole_now : (u : Unframed) (heard : List ℕ) → Stands u heard (frames_of heard)
    → (length (rest_of heard) == 0) ≡ (length u.part == 0)
whole_now u heard s =
    let told = tells_boundary u heard s.rest (frames_of heard) (frames_of heard ++ u.frames) s s.split in
    ap (λ r. length r == 0) (rest_is heard (frames_of heard ++ u.frames) s.rest s.split)
    ∙ same_length s.rest u.part told.0.1 told.0.0

pub place_then : (u : Unframed) (heard : List ℕ) → Stands u heard (frames_of heard) → place_of heard ≡ u.place
place_then u heard s = place_is heard (frames_of heard ++ u.frames) s.rest s.split ∙ sym s.place
