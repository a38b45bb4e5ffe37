-- A client stream is read as the frames that it is whole records of.
use Rattle.std.proofs.Common.{◌≡◌, ◌≢◌, ℕ, ◌+◌, ◌<◌, ◌≤◌, ◌==◌, zero, suc, Bool, true, false, List, [], ◌∷◌, ◌++◌, All, Ok, Err, length, take, drop, refl, sym, ap, subst, ◌∙◌, arith, append_assoc, length-append}
use Rattle.std.proofs.lemmas.Bool.{eq-eqb, eqb-true, ne_eqb}
use Rattle.std.proofs.lemmas.Bool.Decides.{nat_tests}
use Rattle.std.proofs.lemmas.List.{append-nil, length-drop}
use Rattle.std.proofs.lemmas.List.Elements.{All-nil, All-cons, All-head, All-tail}
use Rattle.std.proofs.lemmas.Grind.{common_steps}
use Rattle.shared_definitions.specs.Bytes.{AreBytes}
use Rattle.shared_definitions.proofs.ByteLemmas.{AreBytes-drop}
use Rattle.sock_link.specs.Stream.{IsSplit, IsUnfinished, is_too_long, length_of, limit, record_of, stream_of}
use Rattle.sock_link.specs.Unframed.{Unframed, nothing_fed, FeedEnds, Feeds, Stands}
use Rattle.sock_link.specs.declared.fault.LinkFault.{LinkFault}
use Rattle.sock_link.specs.declared.fault.LinkFault.TheVariants.{TooLong}
use Rattle.sock_link.proofs.HistoryLemmas.{feeds_stand, begins_stream, tells_boundary}
use Rattle.sock_link.proofs.RecordLemmas.{IsWhole, frame_at, length-frame_at, record_at}
use Rattle.sock_link.proofs.StreamLemmas.{drop-record_of, length-record_of, length_of-record_of}
use Rattle.command_inputs.specs.Client.{begins_record, frames_of, frames_within, read_client}
use Rattle.command_inputs.specs.Laws.{ReadsClients}
use Rattle.command_inputs.specs.Reading.{client_refusal}
use Rattle.command_inputs.proofs.TextLemmas.{ok_err, ok_same}

-- ---- whole records

abbrev Small : List ℕ → Type 0
Small f = length f ≤ limit

begins_whole : (bytes : List ℕ) → begins_record bytes ≡ true → IsWhole bytes
begins_whole bytes h =
    let four : 4 ≤ length bytes = grind (arith, nat_tests) in
    let allowed : length_of bytes ≤ limit = grind (arith, nat_tests) in
    let whole : 4 + length_of bytes ≤ length bytes = grind (arith, nat_tests) in
    record { four = four; allowed = allowed; whole = whole }

begins_not : (bytes : List ℕ) → begins_record bytes ≡ false → IsUnfinished bytes
begins_not bytes h four allowed = grind (arith, nat_tests)

unfinished_not : (bytes : List ℕ) → IsUnfinished bytes → begins_record bytes ≡ false
unfinished_not bytes u = go (begins_record bytes) refl
  where
    go : (b : Bool) → begins_record bytes ≡ b → begins_record bytes ≡ false
    go false h = h
    go true h =
        let w = begins_whole bytes h in
        let less = u w.four w.allowed in
        absurd (omega (arith, less, w.whole))

record_begins : (f rest : List ℕ) → length f ≤ limit → begins_record (record_of f ++ rest) ≡ true
record_begins f rest small =
    let size : length (record_of f ++ rest) ≡ 4 + length f + length rest =
    length-append (record_of f) rest ∙ ap (λ n. n + length rest) (length-record_of f) in
    let states = length_of-record_of f rest small in
    rw (size, states) (grind (arith, nat_tests))

frame_back : (f rest : List ℕ) → take (length f) (drop 4 (record_of f ++ rest)) ≡ f
unfolding record_of
frame_back f rest = grind (arith, common_steps)

-- ---- the frames of a stream

within_not : (n : ℕ) (bytes : List ℕ) → begins_record bytes ≡ false → frames_within n bytes ≡ []
within_not zero bytes h = refl
within_not (suc n) bytes h = rw h refl

within_record : (n : ℕ) (f rest : List ℕ) → length f ≤ limit
    → frames_within (suc n) (record_of f ++ rest) ≡ f ∷ frames_within n rest
within_record n f rest small =
    rw (record_begins f rest small, length_of-record_of f rest small, frame_back f rest, drop-record_of f rest) refl

within_stream : (fs : List (List ℕ)) (n : ℕ) (rest : List ℕ) → All Small fs → IsUnfinished rest → length fs ≤ n
    → frames_within n (stream_of fs ++ rest) ≡ fs
within_stream [] n rest small u few = within_not n rest (unfinished_not rest u)
within_stream (f ∷ fs) zero rest small u few = absurd (omega arith)
within_stream (f ∷ fs) (suc n) rest small u few =
    ap (λ bytes. frames_within (suc n) bytes) (append_assoc (record_of f) (stream_of fs) rest)
    ∙ (within_record n f (stream_of fs ++ rest) (All-head Small f fs small)
    ∙ ap (λ gs. f ∷ gs) (within_stream fs n rest (All-tail Small f fs small) u (omega arith)))

fewer : (fs : List (List ℕ)) → length fs ≤ length (stream_of fs)
fewer [] = omega arith
fewer (f ∷ fs) =
    omega (arith, fewer fs, length-append (record_of f) (stream_of fs), length-record_of f)

pub frames_are : (client : List ℕ) (frames : List (List ℕ)) (rest : List ℕ) → IsSplit client frames rest
    → frames_of client ≡ frames
unfolding frames_of
frames_are client frames rest s =
    let size : length client ≡ length (stream_of frames) + length rest =
    ap length s.join ∙ length-append (stream_of frames) rest in
    ap (λ bytes. frames_within (length client) bytes) s.join
    ∙ within_stream frames (length client) rest s.allowed s.unfinished (omega (arith, size, fewer frames))

-- ---- readings

pub client_read : (client : List ℕ) (frames : List (List ℕ)) → IsSplit client frames []
    → read_client client ≡ Ok frames
unfolding read_client
client_read client frames s =
    let whole : stream_of frames ≡ client = sym (append-nil (stream_of frames)) ∙ sym s.join in
    rw (frames_are client frames [] s, whole, eq-eqb (length client) (length client) refl) refl

some_length : (rest : List ℕ) → rest ≢ [] → 0 < length rest
some_length [] some = absurd (some refl)
some_length (x ∷ xs) some = omega arith

client_bad : (client : List ℕ) (frames : List (List ℕ)) (rest : List ℕ) → IsSplit client frames rest → rest ≢ []
    → read_client client ≡ Err (client_refusal (length (stream_of frames)))
unfolding read_client
client_bad client frames rest s some =
    let size : length client ≡ length (stream_of frames) + length rest =
    ap length s.join ∙ length-append (stream_of frames) rest in
    let other : (length (stream_of frames) == length client) ≡ false =
    ne_eqb (length (stream_of frames)) (length client) (λ e. omega (arith, e, size, some_length rest some)) in
    rw (frames_are client frames rest s, other) refl

-- ---- and back

record Splits (bytes : List ℕ) (frames : List (List ℕ)) : Type 0 where
  rest : List ℕ
  split : IsSplit bytes frames rest

splits : (n : ℕ) (bytes : List ℕ) → AreBytes bytes → length bytes ≤ n → Splits bytes (frames_within n bytes)
splits zero bytes small few =
    record {
      rest = bytes;
      split = record { join = refl; allowed = All-nil Small; unfinished = λ four allowed. omega (arith, four, few) };
    }
splits (suc n) bytes small few = go (splits n (drop (4 + length_of bytes) bytes)) (begins_record bytes) refl
  where
    go : (AreBytes (drop (4 + length_of bytes) bytes) → length (drop (4 + length_of bytes) bytes) ≤ n
        → Splits (drop (4 + length_of bytes) bytes) (frames_within n (drop (4 + length_of bytes) bytes)))
        → (b : Bool) → begins_record bytes ≡ b → Splits bytes (frames_within (suc n) bytes)
    go later false h =
        rw h (record {
          rest = bytes;
          split = record { join = refl; allowed = All-nil Small; unfinished = begins_not bytes h };
        })
    go later true h =
        let w = begins_whole bytes h in
        let f = frame_at bytes in
        let after = drop (4 + length_of bytes) bytes in
        let less : length after ≤ n = omega (arith, length-drop (4 + length_of bytes) bytes, few, w.whole) in
        let s = later (AreBytes-drop (4 + length_of bytes) bytes small) less in
        let short : length f ≤ limit = omega (arith, length-frame_at bytes w, w.allowed) in
        rw h (record {
          rest = s.rest;
          split = record {
            join = record_at bytes small w ∙ (ap (λ xs. record_of f ++ xs) s.split.join
                ∙ sym (append_assoc (record_of f) (stream_of (frames_within n after)) s.rest));
            allowed = All-cons Small f (frames_within n after) short s.split.allowed;
            unfinished = s.split.unfinished;
          };
        })

no_rest : (a : List ℕ) → length a ≡ 0 → a ≡ []
no_rest [] e = refl
no_rest (x ∷ xs) e = absurd (omega (arith, e))

client_back : (client : List ℕ) (frames : List (List ℕ)) → AreBytes client → read_client client ≡ Ok frames
    → IsSplit client frames []
unfolding read_client frames_of
client_back client frames small e = go (length (stream_of (frames_of client)) == length client) refl
  where
    go : (b : Bool) → (length (stream_of (frames_of client)) == length client) ≡ b → IsSplit client frames []
    go true h =
        let same : frames_of client ≡ frames = ok_same _ frames (rw h at e) in
        let s = splits (length client) client small (omega arith) in
        let size : length client ≡ length (stream_of (frames_of client)) + length s.rest =
        ap length s.split.join ∙ length-append (stream_of (frames_of client)) s.rest in
        let none : s.rest ≡ [] = no_rest s.rest (omega (
          arith,
          size,
          eqb-true (length (stream_of (frames_of client))) (length client) h,
        )) in
        let P : List ℕ → Type 0 = λ rest. IsSplit client (frames_of client) rest in
        let Q : List (List ℕ) → Type 0 = λ fs. IsSplit client fs [] in
        subst Q same (subst P none s.split)
    go false h = absurd (ok_err frames _ (rw h at e))

pub clients_lem : ReadsClients
clients_lem client frames small = (client_back client frames small, client_read client frames)

-- ---- what an unframer shows of the whole stream

pub fed_whole : (now : Unframed) (client : List ℕ) → Feeds nothing_fed now client → Stands now client []
fed_whole now client fed = feeds_stand nothing_fed now [] client [] begins_stream fed

-- the stream has a rest, and the place is where it begins
breaks_off : (now : Unframed) (client : List ℕ) → Stands now client [] → now.part ≢ []
    → read_client client ≡ Err (client_refusal now.place)
breaks_off now client stands some =
    let told = tells_boundary now client stands.rest [] now.frames stands stands.split in
    client_bad client now.frames stands.rest stands.split (λ none. some (told.0.1 none))
    ∙ ap (λ place. Err (client_refusal place)) (sym stands.place)

too_long_some : (part : List ℕ) → is_too_long part ≡ true → part ≢ []
too_long_some part long none = let f : is_too_long [] ≡ true = ap (λ p. is_too_long p) (sym none) ∙ long in cc

-- a length above the limit is such a rest
breaks_off_long : (now : Unframed) (client : List ℕ) → Feeds nothing_fed now client → is_too_long now.part ≡ true
    → read_client client ≡ Err (client_refusal now.place)
breaks_off_long now client fed long = breaks_off now client (fed_whole now client fed) (too_long_some now.part long)

pub too_long_fed : (old now : Unframed) (client : List ℕ) (fault : LinkFault) (place : ℕ) → old ≡ nothing_fed
    → fault ≡ TooLong place → FeedEnds old now client fault → read_client client ≡ Err (client_refusal place)
too_long_fed old now client fault place first is ends =
    let E : LinkFault → Type 0 = λ f. FeedEnds old now client f in
    let p = subst E is ends in
    let F : Unframed → Type 0 = λ u. Feeds u now client in
    breaks_off_long now client (subst F first p.0) p.1 ∙ ap (λ k. Err (client_refusal k)) (sym p.2)

-- without a rest the stream is its frames
whole_stream : (now : Unframed) (client : List ℕ) → Stands now client [] → now.part ≡ []
    → read_client client ≡ Ok now.frames
whole_stream now client stands none =
    let told = tells_boundary now client stands.rest [] now.frames stands stands.split in
    let P : List ℕ → Type 0 = λ rest. IsSplit client now.frames rest in
    client_read client now.frames (subst P (told.0.0 none) stands.split)

-- the same once the frames were taken out
pub whole_taken : (now later : Unframed) (client : List ℕ) (frames : List (List ℕ)) → Stands now client []
    → now.frames ≡ frames → later ≡ record now { frames = [] } → later.part ≡ [] → read_client client ≡ Ok frames
whole_taken now later client frames stands given left none =
    whole_stream now client stands (sym (ap (λ (u : Unframed). u.part) left) ∙ none)
    ∙ ap (λ (fs : List (List ℕ)). Ok fs) given

pub broken_taken : (now later : Unframed) (client : List ℕ) → Stands now client []
    → later ≡ record now { frames = [] } → later.part ≢ [] → read_client client ≡ Err (client_refusal later.place)
broken_taken now later client stands left some =
    breaks_off now client stands (λ e. some (ap (λ (u : Unframed). u.part) left ∙ e))
    ∙ ap (λ place. Err (client_refusal place)) (sym (ap (λ (u : Unframed). u.place) left))
