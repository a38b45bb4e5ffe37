-- What an unframer holds.
use Rattle.std.proofs.Common.{◌≡◌, ℕ, zero, suc, ◌+◌, ◌-◌, ◌<◌, ◌≤◌, Bool, true, false, List, [], ◌∷◌, ◌++◌, length, take, drop, refl, sym, ◌∙◌, ap, subst, arith, length-append, append_assoc}
use Rattle.std.specs.Prelude.{All}
use Rattle.std.proofs.Math.Nat.{add-zero}
use Rattle.std.proofs.Math.Seq.{drop-append_seam, take-append-add}
use Rattle.std.proofs.lemmas.List.{append-nil, drop-drop, drop-append-le, length-take-le, take-append-le}
use Rattle.std.proofs.lemmas.List.Elements.{All-same, All-append, All-nil, All-tail, All-head}
use Rattle.std.proofs.lemmas.Bool.Decides.{nat_tests}
use Rattle.std.proofs.lemmas.Grind.{common_steps}
use Rattle.std.specs.Int.{from_be_bytes, w32}
use Rattle.sock_link.specs.Stream.{limit, record_of, stream_of, length_of, is_too_long, kept_part, frames_in, IsUnfinished, IsSplit}
use Rattle.sock_link.specs.Holding.{unframed_of, IsHeld}
use Rattle.sock_link.specs.declared.unframer.Unframer.TheInside.{Inside}
use Rattle.sock_link.specs.Unframed.{Unframed, Feeds}
use Rattle.sock_link.proofs.StreamLemmas.{frames_in-stream_of, stream_of-append, length-frames_in, length-record_of, drop-record_of, no_record}
use Rattle.sock_link.proofs.RecordLemmas.{IsWhole, frame_at, length-frame_at}

-- what is held: these whole frames, and of the unfinished record this part
pub record HoldsFrames (u : Inside) (frames : List (List ℕ)) (rest : List ℕ) : Type 0 where
  pub join : u.backlog ≡ stream_of frames ++ rest
  pub allowed : All (λ f. length f ≤ limit) frames
  pub unfinished : IsUnfinished rest
  pub part_is : kept_part rest ≡ rest
  pub whole_is : u.whole ≡ length (stream_of frames)
  pub count_is : u.count ≡ length frames
  pub place_is : u.place + length rest ≤ u.fed

pub held_from : (u : Inside) (frames : List (List ℕ)) (rest : List ℕ) → HoldsFrames u frames rest →
    (frames_in u.count u.backlog ≡ frames) × (drop u.whole u.backlog ≡ rest) × IsHeld u
held_from u frames rest h =
    let front : frames_in u.count u.backlog ≡ frames =
    ap (λ n. frames_in n u.backlog) (h.count_is ∙ sym (add-zero (length frames)))
    ∙ ap (frames_in (length frames + 0)) h.join
    ∙ frames_in-stream_of frames 0 rest h.allowed
    ∙ append-nil frames in
    let part : drop u.whole u.backlog ≡ rest =
    ap (λ n. drop n u.backlog) h.whole_is
    ∙ ap (drop (length (stream_of frames))) h.join
    ∙ drop-append_seam (stream_of frames) rest in (
      front,
      part,
      record {
        split = record {
          join = rw (front, part) h.join;
          allowed = All-same (λ f. length f ≤ limit) (frames_in u.count u.backlog) frames front h.allowed;
          unfinished = rw part h.unfinished;
        };
        whole_is = rw front h.whole_is;
        part_is = rw part h.part_is;
        place_is = rw part h.place_is;
      },
    )

-- taking as many again takes no less
take-take_same : (n : ℕ) (xs : List ℕ) → take n (take n xs) ≡ take n xs
take-take_same n xs = grind (arith, common_steps)

-- what a too long record states
pub too_long : (r : List ℕ) → is_too_long r ≡ true → (4 ≤ length r) × (limit < length_of r)
too_long r h = grind (arith, nat_tests)

-- the length stands in the first four bytes
pub length_of-append : (r xs : List ℕ) → 4 ≤ length r → length_of (r ++ xs) ≡ length_of r
unfolding length_of
length_of-append r xs four = ap (from_be_bytes w32) (take-append-le 4 r xs four)

-- and in those alone
pub length_of-take : (r : List ℕ) → length_of (take 4 r) ≡ length_of r
unfolding length_of
length_of-take r = ap (from_be_bytes w32) (take-take_same 4 r)

-- bytes that begin with a whole length above the limit
pub is_long : (r : List ℕ) → 4 ≤ length r → limit < length_of r → is_too_long r ≡ true
is_long r four above = grind (arith, nat_tests)

-- of a too long record its length is kept
pub kept_long : (r : List ℕ) → is_too_long r ≡ true → kept_part r ≡ take 4 r
kept_long r h = rw h refl

-- of another all that has come
pub kept_short : (r : List ℕ) → is_too_long r ≡ false → kept_part r ≡ r
kept_short r h = rw h refl

-- what holds of the four bytes that are kept
pub four_kept : (r : List ℕ) → is_too_long r ≡ true → (length (take 4 r) ≡ 4) × (is_too_long (take 4 r)
    ≡ true) × IsUnfinished (take 4 r) × (kept_part (take 4 r) ≡ take 4 r)
four_kept r h =
    let said = too_long r h in
    let four : length (take 4 r) ≡ 4 = length-take-le 4 r said.0 in
    let same : length_of (take 4 r) ≡ length_of r = length_of-take r in
    let still : is_too_long (take 4 r) ≡ true = is_long (take 4 r) (omega arith) (omega (arith, said.1, same)) in
    (four, still, λ _ small. absurd (omega (arith, said.1, same)), kept_long (take 4 r) still ∙ take-take_same 4 r)

-- the bytes in which the records of a piece are read
abbrev added_part : Inside → List ℕ → List ℕ
added_part u piece = drop u.whole (u.backlog ++ piece)

-- so many records of so many bytes are read there
pub record Reads (bytes : List ℕ) (count size : ℕ) : Type 0 where
  pub split : IsSplit bytes (frames_in count bytes) (drop size bytes)
  pub size_is : size ≡ length (stream_of (frames_in count bytes))

-- what is held after a piece, of which these bytes are kept
abbrev pub after_piece : Inside → List ℕ → List ℕ → ℕ → ℕ → Inside
after_piece u piece bytes count size = record {
  backlog = bytes;
  whole = u.whole + size;
  count = u.count + count;
  place = u.place + size;
  fed = u.fed + length piece;
}

-- the frames that wait after the piece
abbrev waiting_frames : Inside → List ℕ → ℕ → List (List ℕ)
waiting_frames u piece count = frames_in u.count u.backlog ++ frames_in count (added_part u piece)

-- the frames after a piece, and the new rest
record Parts (u : Inside) (piece : List ℕ) (count size : ℕ) : Type 0 where
  pub all : u.backlog ++ piece ≡ stream_of (waiting_frames u piece count) ++ drop size (added_part u piece)
  pub split : IsSplit (drop u.whole u.backlog ++ piece) (frames_in count (added_part u piece)) (drop size
      (added_part u piece))
  pub allowed : All (λ f. length f ≤ limit) (waiting_frames u piece count)
  pub whole_is : u.whole + size ≡ length (stream_of (waiting_frames u piece count))
  pub count_is : u.count + count ≡ length (waiting_frames u piece count)
  pub place_is : (u.place + size) + length (drop size (added_part u piece)) ≤ u.fed + length piece

-- they are those that waited and those of the piece
parts : (u : Inside) (piece : List ℕ) (count size : ℕ) → IsHeld u → Reads (added_part u piece) count size →
    Parts u piece count size
parts u piece count size h s =
    let fs : List (List ℕ) = frames_in u.count u.backlog in
    let part : List ℕ = drop u.whole u.backlog in
    let q : List ℕ = added_part u piece in
    let gs : List (List ℕ) = frames_in count q in
    let rest : List ℕ = drop size q in
    let b_long : length u.backlog ≡ length (stream_of fs) + length part = ap length h.split.join
    ∙ length-append (stream_of fs) part in
    let q_is : q ≡ part ++ piece = drop-append-le u.whole u.backlog piece (omega (arith, b_long, h.whole_is)) in
    let q_long : length q ≡ length part + length piece = ap length q_is ∙ length-append part piece in
    let q_parts : length q ≡ length (stream_of gs) + length rest = ap length s.split.join
    ∙ length-append (stream_of gs) rest in
    let joined : stream_of (fs ++ gs) ≡ stream_of fs ++ stream_of gs = stream_of-append fs gs in
    let joined_long : length (stream_of (fs ++ gs)) ≡ length (stream_of fs) + length
    (stream_of gs) = ap length joined ∙ length-append (stream_of fs) (stream_of gs) in
    record {
      all =
          ap (λ xs. xs ++ piece) h.split.join
          ∙ append_assoc (stream_of fs) part piece
          ∙ ap (λ xs. stream_of fs ++ xs) (sym q_is ∙ s.split.join)
          ∙ sym (append_assoc (stream_of fs) (stream_of gs) rest)
          ∙ ap (λ xs. xs ++ rest) (sym joined);
      split = record { join = sym q_is ∙ s.split.join; allowed = s.split.allowed; unfinished = s.split.unfinished };
      allowed = All-append (λ f. length f ≤ limit) fs gs h.split.allowed s.split.allowed;
      whole_is = omega (arith, joined_long, h.whole_is, s.size_is);
      count_is = omega (arith, length-append fs gs, length-frames_in u.count u.backlog, length-frames_in count q);
      place_is = omega (arith, h.place_is, q_long, q_parts, s.size_is);
    }

-- the piece is held, and contracts see it come
pub record Takes (u new : Inside) (piece : List ℕ) (long : Bool) : Type 0 where
  pub held : IsHeld new
  pub feeds : Feeds (unframed_of u) (unframed_of new) piece
  pub stuck : is_too_long (drop new.whole new.backlog) ≡ long

-- a piece is taken, where this part of its rest is held
takes_by : (u : Inside) (piece bytes part : List ℕ) (count size : ℕ) (long : Bool) →
    Reads (added_part u piece) count size → Parts u piece count size →
    HoldsFrames (after_piece u piece bytes count size) (waiting_frames u piece count) part →
    part ≡ kept_part (drop size (added_part u piece)) → is_too_long part ≡ long →
    Takes u (after_piece u piece bytes count size) piece long
takes_by u piece bytes part count size long s p h kept states =
    let now = held_from (after_piece u piece bytes count size) (waiting_frames u piece count) part h in
    record {
      held = now.2;
      feeds = record {
        frames = frames_in count (added_part u piece);
        rest = drop size (added_part u piece);
        split = p.split;
        waiting = now.0;
        part = now.1 ∙ kept;
        place = ap (λ k. u.place + k) s.size_is;
        fed = refl;
      };
      stuck = ap is_too_long now.1 ∙ states;
    }

-- a piece after which no length above the limit has come
takes_all : (u : Inside) (piece : List ℕ) (count size : ℕ) → IsHeld u → Reads (added_part u piece) count size →
    is_too_long (drop size (added_part u piece)) ≡ false →
    Takes u (after_piece u piece (u.backlog ++ piece) count size) piece false
takes_all u piece count size h s short =
    let rest : List ℕ = drop size (added_part u piece) in
    let p = parts u piece count size h s in
    let keeps : kept_part rest ≡ rest = kept_short rest short in
    takes_by u piece (u.backlog ++ piece) rest count size false s p (record {
      join = p.all;
      allowed = p.allowed;
      unfinished = s.split.unfinished;
      part_is = keeps;
      whole_is = p.whole_is;
      count_is = p.count_is;
      place_is = p.place_is;
    }) (sym keeps) short

-- a piece with a length above the limit
takes_long : (u : Inside) (piece : List ℕ) (count size : ℕ) → IsHeld u → Reads (added_part u piece) count size →
    is_too_long (drop size (added_part u piece)) ≡ true →
    Takes u (after_piece u piece (take (u.whole + size + 4) (u.backlog ++ piece)) count size) piece true
takes_long u piece count size h s long =
    let rest : List ℕ = drop size (added_part u piece) in
    let hs : List (List ℕ) = waiting_frames u piece count in
    let p = parts u piece count size h s in
    let four = four_kept rest long in
    let states = too_long rest long in
    let cut : take (u.whole + size + 4) (u.backlog ++ piece) ≡ stream_of hs ++ take 4 rest =
    ap (λ k. take (k + 4) (u.backlog ++ piece)) p.whole_is
    ∙ ap (take (length (stream_of hs) + 4)) p.all
    ∙ take-append-add (stream_of hs) rest 4 in
    takes_by u piece (take (u.whole + size + 4) (u.backlog ++ piece)) (take 4 rest) count size true s p (record {
      join = cut;
      allowed = p.allowed;
      unfinished = four.2;
      part_is = four.3;
      whole_is = p.whole_is;
      count_is = p.count_is;
      place_is = omega (arith, p.place_is, four.0, states.0);
    }) (sym (kept_long rest long)) four.1

-- the same of bytes that are known to be those
pub added_all : (u : Inside) (added q r piece : List ℕ) (count size : ℕ) → IsHeld u → added ≡ u.backlog ++ piece →
    q ≡ drop u.whole added → r ≡ drop (u.whole + size) added → Reads q count size → is_too_long r ≡ false →
    Takes u (after_piece u piece added count size) piece false
added_all u added q r piece count size h e q_is r_is s short =
    let S : List ℕ → Type 0 = λ xs. Reads xs count size in
    let P : List ℕ → Type 0 = λ xs. Reads (drop u.whole xs) count size →
    is_too_long (drop size (drop u.whole xs)) ≡ false → Takes u (after_piece u piece xs count size) piece false in
    let at_once : P (u.backlog ++ piece) = λ t f. takes_all u piece count size h t f in
    subst P (sym e) at_once (subst S q_is s) (ap is_too_long (drop-drop size u.whole added ∙ sym r_is) ∙ short)

-- the same where a length above the limit came
pub added_long : (u : Inside) (added cut q r piece : List ℕ) (count size : ℕ) → IsHeld u → added ≡ u.backlog ++ piece →
    q ≡ drop u.whole added → r ≡ drop (u.whole + size) added → cut ≡ take (u.whole + size + 4) added →
    Reads q count size → is_too_long r ≡ true → Takes u (after_piece u piece cut count size) piece true
added_long u added cut q r piece count size h e q_is r_is e_cut s long =
    let Q : List ℕ → Type 0 = λ ys. Takes u (after_piece u piece ys count size) piece true in
    let S : List ℕ → Type 0 = λ xs. Reads xs count size in
    let P : List ℕ → Type 0 = λ xs. Reads (drop u.whole xs) count size →
    is_too_long (drop size (drop u.whole xs)) ≡ true → Q (take (u.whole + size + 4) xs) in
    let at_once : P (u.backlog ++ piece) = λ t f. takes_long u piece count size h t f in
    subst Q (sym e_cut) (subst P (sym e) at_once (subst S q_is s) (ap is_too_long (drop-drop size u.whole added
    ∙ sym r_is) ∙ long))

-- so many frames take at least so many bytes
few_frames : (fs : List (List ℕ)) → length fs ≤ length (stream_of fs)
few_frames [] = omega arith
few_frames (f ∷ fs) =
    omega (arith, few_frames fs, length-append (record_of f) (stream_of fs), length-record_of f)

-- what a number of whole frames is bounded by
pub few_held : (u : Inside) → IsHeld u → u.count ≤ u.whole
few_held u h =
    omega (arith, few_frames (frames_in u.count u.backlog), length-frames_in u.count u.backlog, h.whole_is)

-- a piece after a length above the limit
pub passes_by : (old : Unframed) (piece : List ℕ) → kept_part old.part ≡ old.part → is_too_long old.part ≡ true →
    Feeds old (record old { fed = old.fed + length piece }) piece
passes_by old piece kept_is long =
    let states = too_long old.part long in
    let same : length_of (old.part ++ piece) ≡ length_of old.part = length_of-append old.part piece states.0 in
    let more : length (old.part ++ piece) ≡ length old.part + length piece = length-append old.part piece in
    let still : is_too_long (old.part ++ piece) ≡ true = is_long (old.part ++ piece) (omega (
      arith,
      more,
      states.0,
    )) (omega (arith, same, states.1)) in
    record {
      frames = [];
      rest = old.part ++ piece;
      split = record {
        join = refl;
        allowed = All-nil (λ f. length f ≤ limit);
        unfinished = λ _ small. absurd (omega
            (arith, same, states.1));
      };
      waiting = sym (append-nil old.frames);
      part = sym kept_is ∙ kept_long old.part long ∙ sym (take-append-le 4 old.part piece states.0)
          ∙ sym (kept_long (old.part ++ piece) still);
      place = sym (add-zero old.place);
      fed = refl;
    }

-- where no whole record begins, no frame waits
pub none_waits : (u : Inside) → IsHeld u → IsUnfinished u.backlog → frames_in u.count u.backlog ≡ []
none_waits u h unfinished = none_of u.count u.backlog (drop u.whole u.backlog) h.split unfinished
  where
    none_of : (count : ℕ) (b rest : List ℕ) → IsSplit b (frames_in count b) rest → IsUnfinished b →
        frames_in count b ≡ []
    none_of zero b rest s begun = refl
    none_of (suc n) b rest s begun =
        let f : List ℕ = frame_at b in
        let hs : List (List ℕ) = frames_in n (drop (4 + length_of b) b) in
        absurd (no_record f b (stream_of hs ++ rest) (All-head (λ g. length g ≤ limit) f hs s.allowed) begun
        (s.join ∙ append_assoc (record_of f) (stream_of hs) rest))

-- what is held once the oldest frame, of a record of this size, is given
abbrev pub after_frame : Inside → List ℕ → ℕ → Inside
after_frame u bytes size = record {
  backlog = bytes;
  whole = u.whole - size;
  count = u.count - 1;
  place = u.place;
  fed = u.fed;
}

-- a frame is given, and the rest stays
pub record GivesFrame (u : Inside) (size : ℕ) : Type 0 where
  pub some : 0 < u.count
  pub within : size ≤ u.whole
  pub frames : frames_in u.count u.backlog ≡ frame_at u.backlog ∷ frames_in (u.count - 1) (drop size u.backlog)
  pub part : drop (u.whole - size) (drop size u.backlog) ≡ drop u.whole u.backlog
  pub held : IsHeld (after_frame u (drop size u.backlog) size)

-- where a whole record begins, its frame is the oldest that waits
one_waits_by : (u : Inside) (count size : ℕ) → u.count ≡ count → IsHeld u → IsWhole u.backlog →
    size ≡ 4 + length_of u.backlog → GivesFrame u size
one_waits_by u zero size count_is h w size_is =
    let P : ℕ → Type 0 = λ k. u.whole ≡ length (stream_of (frames_in k u.backlog)) in
    let none : u.whole ≡ 0 = subst P count_is h.whole_is in
    let unfinished : IsUnfinished u.backlog = let P : List ℕ →
    Type 0 = IsUnfinished in subst P (ap (λ k. drop k u.backlog) none) h.split.unfinished in
    let below = unfinished w.four w.allowed in
    let enough = w.whole in
    absurd (omega arith)
one_waits_by u (suc n) size count_is h w size_is =
    let b : List ℕ = u.backlog in
    let f : List ℕ = frame_at u.backlog in
    let after : List ℕ = drop (4 + length_of u.backlog) u.backlog in
    let hs : List (List ℕ) = frames_in n after in
    let part : List ℕ = drop u.whole u.backlog in
    let S : ℕ → Type 0 = λ k. IsSplit u.backlog (frames_in k u.backlog) (drop u.whole u.backlog) in
    let split : S (suc n) = subst S count_is h.split in
    let W : ℕ → Type 0 = λ k. u.whole ≡ length (stream_of (frames_in k u.backlog)) in
    let whole_is : W (suc n) = subst W count_is h.whole_is in
    let f_long : length f ≡ length_of u.backlog = length-frame_at u.backlog w in
    let front : u.backlog ≡ record_of f ++ (stream_of hs ++ part) = split.join
    ∙ append_assoc (record_of f) (stream_of hs) part in
    let long : length (record_of f ++ stream_of hs) ≡ (4 + length f) + length (stream_of hs) =
    length-append (record_of f) (stream_of hs) ∙ ap (λ k. k + length (stream_of hs)) (length-record_of f) in
    let size_f : size ≡ 4 + length f = omega (arith, size_is, f_long) in
    let left : drop size u.backlog ≡ stream_of hs ++ part =
    ap (λ k. drop k u.backlog) size_f ∙ ap (drop (4 + length f)) front ∙ drop-record_of f (stream_of hs ++ part) in
    let one_less : u.count - 1 ≡ n = omega arith in
    let now = held_from (after_frame u (drop size u.backlog) size) hs part (record {
      join = left;
      allowed = All-tail (λ g. length g ≤ limit) f hs split.allowed;
      unfinished = h.split.unfinished;
      part_is = h.part_is;
      whole_is = omega (arith, whole_is, long, size_f);
      count_is = one_less ∙ sym (length-frames_in n after);
      place_is = h.place_is;
    }) in
    record {
      some = omega arith;
      within = omega (arith, whole_is, long, size_f);
      frames = ap (λ k. frames_in k u.backlog) count_is ∙ ap (λ gs. f ∷ gs) (sym now.0);
      part = now.1;
      held = now.2;
    }

pub one_waits : (u : Inside) (size : ℕ) → IsHeld u → IsWhole u.backlog → size ≡ 4 + length_of u.backlog →
    GivesFrame u size
one_waits u size h w size_is = one_waits_by u u.count size refl h w size_is

-- the frame that was copied is the oldest
pub copied : (b bytes items : List ℕ) (size : ℕ) → bytes ≡ b → size ≡ 4 + length_of b →
    items ≡ take (size - 4) (drop 4 bytes) → items ≡ frame_at b
copied b bytes items size bytes_is size_is items_is =
    let less : size - 4 ≡ length_of b = omega arith in
    items_is ∙ ap (λ xs. take (size - 4) (drop 4 xs)) bytes_is ∙ ap (λ n. take n (drop 4 b)) less

-- what a contract sees once it is given
pub gives_frame : (u : Inside) (after items : List ℕ) (size : ℕ) → GivesFrame u size → after ≡ drop size u.backlog →
    items ≡ frame_at u.backlog →
    (frames_in u.count u.backlog ≡ items ∷ frames_in (u.count - 1) after)
    × (unframed_of (after_frame u after size) ≡ record (unframed_of u) { frames = frames_in (u.count - 1) after })
gives_frame u after items size g e items_is =
    let F : List ℕ → Unframed = λ p. record {
      frames = frames_in
          (u.count - 1) after;
      part = p;
      place = u.place;
      fed = u.fed;
    } in (
      g.frames
          ∙ ap (λ xs. xs ∷ frames_in (u.count - 1) (drop size u.backlog)) (sym items_is)
          ∙ ap (λ ys. items ∷ frames_in (u.count - 1) ys) (sym e),
      ap F (ap (drop (u.whole - size)) e ∙ g.part),
    )
