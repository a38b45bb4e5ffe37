-- Whole streams through an unframer.
use Rattle.std.proofs.Common.{◌≡◌, ℕ, ◌+◌, ◌≤◌, true, false, Bool, List, [], ◌∷◌, ◌++◌, length, take, refl, sym, ◌∙◌, ap, subst, arith, length-append, append_assoc}
use Rattle.std.specs.Prelude.{All}
use Rattle.std.specs.List.{concat}
use Rattle.std.proofs.lemmas.List.{append-nil, take-append-le}
use Rattle.std.proofs.lemmas.List.Elements.{All-append, All-nil}
use Rattle.sock_link.specs.Stream.{limit, record_of, stream_of, length_of, is_too_long, kept_part, IsSplit}
use Rattle.sock_link.specs.Unframed.{Unframed, Feeds, Stands}
use Rattle.sock_link.specs.Laws.{none, one_more, KeepsStream, BeginsStream, GivesNext, TellsTooLong, TellsBoundary, StaysStuck, StreamStaysStuck, IsReadOnce, ReadsBack, AddsRecord}
use Rattle.sock_link.proofs.StreamLemmas.{stream_of-append, split_once}
use Rattle.sock_link.proofs.HoldingLemmas.{too_long, is_long, length_of-append, kept_long, kept_short, four_kept}

-- a split of bytes that begin with whole records
split_after : (fs gs : List (List ℕ)) (bytes part rest : List ℕ) → bytes ≡ stream_of fs ++ part →
    All (λ f. length f ≤ limit) fs → IsSplit part gs rest → IsSplit bytes (fs ++ gs) rest
split_after fs gs bytes part rest join allowed s =
    record {
      join = join ∙ ap (λ xs. stream_of fs ++ xs) s.join ∙ sym (append_assoc (stream_of fs) (stream_of gs) rest)
          ∙ ap (λ xs. xs ++ rest) (sym (stream_of-append fs gs));
      allowed = All-append (λ f. length f ≤ limit) fs gs allowed s.allowed;
      unfinished = s.unfinished;
    }

-- the bytes of the frames on
stream_long : (fs gs : List (List ℕ)) → length (stream_of (fs ++ gs)) ≡ length (stream_of fs) + length (stream_of gs)
stream_long fs gs = ap length (stream_of-append fs gs) ∙ length-append (stream_of fs) (stream_of gs)

-- the piece came after a rest of which all was kept_part
feeds_short : (old new : Unframed) (stream piece : List ℕ) (given : List (List ℕ)) (s : Stands old stream given) →
    Feeds old new piece → is_too_long s.rest ≡ false → Stands new (stream ++ piece) given
feeds_short old new stream piece given s f short =
    let part_is : old.part ≡ s.rest = s.part ∙ kept_short s.rest short in
    let after : stream ++ piece ≡ stream_of (given ++ old.frames) ++ (s.rest ++ piece) = ap (λ xs. xs
    ++ piece) s.split.join ∙ append_assoc (stream_of (given ++ old.frames)) s.rest piece in
    let piece_split : IsSplit (s.rest ++ piece) f.frames f.rest = let P : List ℕ →
    Type 0 = λ xs. IsSplit (xs ++ piece) f.frames f.rest in subst P part_is f.split in
    let all : IsSplit (stream ++ piece) ((given ++ old.frames) ++ f.frames) f.rest = split_after (given
    ++ old.frames) f.frames (stream ++ piece) (s.rest ++ piece) f.rest after s.split.allowed piece_split in
    let frames_is : (given ++ old.frames) ++ f.frames ≡ given
    ++ new.frames = append_assoc given old.frames f.frames ∙ ap (λ gs. given ++ gs) (sym f.waiting) in
    let P : List (List ℕ) → Type 0 = λ gs. IsSplit (stream ++ piece) gs f.rest in
    record {
      rest = f.rest;
      split = subst P frames_is all;
      part = f.part;
      place = f.place ∙ ap (λ k. k + length (stream_of f.frames)) s.place
          ∙ sym (stream_long (given ++ old.frames) f.frames) ∙ ap (λ gs. length (stream_of gs)) frames_is;
      fed = f.fed ∙ ap (λ k. k + length piece) s.fed ∙ sym (length-append stream piece);
    }

-- after a length above the limit no record begins, whatever follows
long_split : (rest more : List ℕ) → is_too_long rest ≡ true →
    IsSplit (rest ++ more) [] (rest ++ more) × (is_too_long (rest ++ more) ≡ true)
long_split rest more long =
    let states = too_long rest long in
    let same : length_of (rest ++ more) ≡ length_of rest = length_of-append rest more states.0 in
    let added : length (rest ++ more) ≡ length rest + length more = length-append rest more in (
      record {
        join = refl;
        allowed = All-nil (λ g. length g ≤ limit);
        unfinished = λ _ small. absurd (omega (arith, same, states.1));
      },
      is_long (rest ++ more) (omega (arith, added, states.0)) (omega (arith, same, states.1)),
    )

-- of a rest that is too long the same four bytes are kept, whatever follows
kept_more : (rest more : List ℕ) → is_too_long rest ≡ true → kept_part (rest ++ more) ≡ take 4 rest
kept_more rest more long =
    kept_long (rest ++ more) (long_split rest more long).1 ∙ take-append-le 4 rest more (too_long rest long).0

-- the piece came after a length above the limit
feeds_long : (old new : Unframed) (stream piece : List ℕ) (given : List (List ℕ)) (s : Stands old stream given) →
    Feeds old new piece → is_too_long s.rest ≡ true → Stands new (stream ++ piece) given
feeds_long old new stream piece given s f long =
    let four = four_kept s.rest long in
    let part_is : old.part ≡ take 4 s.rest = s.part ∙ kept_long s.rest long in
    let part_split : IsSplit (take 4 s.rest ++ piece) f.frames f.rest = let P : List ℕ →
    Type 0 = λ xs. IsSplit (xs ++ piece) f.frames f.rest in subst P part_is f.split in
    let once = split_once f.frames [] (take 4 s.rest ++ piece) f.rest (take 4 s.rest
    ++ piece) part_split (long_split (take 4 s.rest) piece four.1).0 in
    let waiting : new.frames ≡ old.frames = f.waiting ∙ ap (λ gs. old.frames ++ gs) once.0 ∙ append-nil old.frames in
    let frames_is : given ++ old.frames ≡ given ++ new.frames = ap (λ gs. given ++ gs) (sym waiting) in
    let all : IsSplit (stream ++ piece) (given ++ old.frames ++ []) (s.rest ++ piece) =
    split_after (given ++ old.frames) [] (stream ++ piece) (s.rest ++ piece) (s.rest ++ piece)
    (ap (λ xs. xs ++ piece) s.split.join ∙ append_assoc (stream_of (given ++ old.frames)) s.rest piece) s.split.allowed
    (long_split s.rest piece long).0 in
    let P : List (List ℕ) → Type 0 = λ gs. IsSplit (stream ++ piece) gs (s.rest ++ piece) in
    let added : length (stream_of f.frames) ≡ 0 = ap (λ gs. length (stream_of gs)) once.0 in
    record {
      rest = s.rest ++ piece;
      split = subst P (append-nil (given ++ old.frames) ∙ frames_is) all;
      part = f.part ∙ ap kept_part once.1 ∙ kept_more (take 4 s.rest) piece four.1
          ∙ sym (kept_long (take 4 s.rest) four.1) ∙ four.3 ∙ sym (kept_more s.rest piece long);
      place = omega (arith, f.place, s.place, added, ap (λ gs. length (stream_of gs)) frames_is);
      fed = f.fed ∙ ap (λ k. k + length piece) s.fed ∙ sym (length-append stream piece);
    }

-- a fact of both truth values
by_truth : (b : Bool) (C : Type 0) → (b ≡ false → C) → (b ≡ true → C) → C
by_truth b C at_false at_true =
    elim b as (λ v. (v ≡ false → C) → (v ≡ true → C) →
    C) [ true ↦ λ f t. t refl | false ↦ λ f t. f refl ] at_false at_true

-- a feed keeps the stream
pub feeds_stand : (old new : Unframed) (stream piece : List ℕ) (given : List (List ℕ)) → Stands old stream given →
    Feeds old new piece → Stands new (stream ++ piece) given
feeds_stand old new stream piece given s f =
    by_truth (is_too_long s.rest) (Stands new (stream ++ piece) given) (feeds_short old new stream piece given s f)
    (feeds_long old new stream piece given s f)

-- so do many
pub keeps_stream : KeepsStream
keeps_stream pieces old new stream given s (none now) =
    let P : List ℕ → Type 0 = λ xs. Stands now xs given in subst P (sym (append-nil stream)) s
keeps_stream pieces old new stream given s (one_more first mid last piece others feeds rest) =
    let P : List ℕ → Type 0 = λ xs. Stands last xs given in
    subst P (append_assoc stream piece (concat others)) (keeps_stream others mid last (stream
    ++ piece) given (feeds_stand first mid stream piece given s feeds) rest)

-- before any byte
pub begins_stream : BeginsStream
begins_stream =
    record {
      rest = [];
      split = record {
        join = refl;
        allowed = All-nil
            (λ g. length g ≤ limit);
        unfinished = λ four small. absurd
            (omega arith);
      };
      part = refl;
      place = refl;
      fed = refl;
    }

-- a frame that is given is the next
pub gives_next : GivesNext
gives_next old stream given frames frame s waits =
    let moved : given ++ old.frames ≡ (given ++ frame ∷ []) ++ frames = ap (λ gs. given ++ gs) waits
    ∙ sym (append_assoc given (frame ∷ []) frames) in
    let P : List (List ℕ) → Type 0 = λ gs. IsSplit stream gs s.rest in
    record {
      rest = s.rest;
      split = subst P moved s.split;
      part = s.part;
      place = s.place
          ∙ ap (λ gs. length (stream_of gs)) moved;
      fed = s.fed;
    }

-- what is kept is too long exactly where the whole is
kept_same : (rest : List ℕ) → is_too_long (kept_part rest) ≡ is_too_long rest
kept_same rest =
    by_truth (is_too_long rest) (is_too_long (kept_part rest) ≡ is_too_long rest)
    (λ short. ap is_too_long (kept_short rest short))
    (λ long. ap is_too_long (kept_long rest long) ∙ (four_kept rest long).1 ∙ sym long)

-- nothing is kept exactly of nothing
kept_nothing : (rest : List ℕ) → kept_part rest ≡ [] → rest ≡ []
kept_nothing rest kept =
    by_truth (is_too_long rest) (rest ≡ [])
    (λ short. sym (kept_short rest short) ∙ kept)
    (λ long.
    let four : length (take 4 rest) ≡ 4 = (four_kept rest long).0 in
    let empty : length (take 4 rest) ≡ 0 = ap length (sym (kept_long rest long) ∙ kept) in
    absurd (omega arith))

-- the rest of a stream is the one that an unframer stands for
rest_is : (now : Unframed) (stream rest : List ℕ) (given frames : List (List ℕ)) (s : Stands now stream given) →
    IsSplit stream frames rest → rest ≡ s.rest
rest_is now stream rest given frames s split =
    (split_once frames (given ++ now.frames) stream rest s.rest split s.split).1

pub tells_too_long : TellsTooLong
tells_too_long now stream rest given frames s split =
    ap is_too_long s.part ∙ kept_same s.rest ∙ ap is_too_long (sym (rest_is now stream rest given frames s split))

pub tells_boundary : TellsBoundary
tells_boundary now stream rest given frames s split =
    let same = rest_is now stream rest given frames s split in
    let long : length stream ≡ length (stream_of (given ++ now.frames)) + length s.rest =
    ap length s.split.join ∙ length-append (stream_of (given ++ now.frames)) s.rest in (
      (λ e. same ∙ kept_nothing s.rest (sym s.part ∙ e), λ e. s.part ∙ ap kept_part (sym same ∙ e)),
      omega (arith, s.place, long, ap length same),
    )

pub stays_stuck : StaysStuck
stays_stuck old new piece long f =
    let l = long_split old.part piece long in
    let once = split_once f.frames [] (old.part ++ piece) f.rest (old.part ++ piece) f.split l.0 in
    let added : length (stream_of f.frames) ≡ 0 = ap (λ gs. length (stream_of gs)) once.0 in (
      ap is_too_long f.part ∙ kept_same f.rest ∙ ap is_too_long once.1 ∙ l.1,
      omega (arith, f.place, added),
      f.waiting ∙ ap (λ gs. old.frames ++ gs) once.0 ∙ append-nil old.frames,
    )

pub stream_stays_stuck : StreamStaysStuck
stream_stays_stuck stream more rest frames split long =
    let l = long_split rest more long in (
      record {
        join = ap (λ xs. xs ++ more) split.join ∙ append_assoc (stream_of frames) rest more;
        allowed = split.allowed;
        unfinished = l.0.unfinished;
      },
      l.1,
    )

-- there is one reading
pub is_read_once : IsReadOnce
is_read_once bytes rest others_rest frames others a b = split_once frames others bytes rest others_rest a b

-- records are read back
pub reads_back : ReadsBack
reads_back frames allowed =
    record {
      join = sym (append-nil (stream_of frames));
      allowed = allowed;
      unfinished = λ four small. absurd
          (omega arith);
    }

-- one record more
pub adds_record : AddsRecord
adds_record frames frame =
    stream_of-append frames (frame ∷ []) ∙ ap (λ xs. stream_of frames ++ xs) (append-nil (record_of frame))
