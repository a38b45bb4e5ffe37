-- How what is known of the secondary goes on, as the link to the primary does.
use Rattle.std.proofs.Common.{◌≡◌, ℕ, ◌||◌, Bool, true, false, List, [], ◌∷◌, ◌++◌, append-nil, append_assoc, map, Option, None, Some, is_some, if◌then◌else◌, refl, sym, ap, subst, ◌∙◌, true≢false}
use Rattle.std.specs.List.{AllByRecursion, cons_option}
use Rattle.std.proofs.lemmas.List.Elements.{filter_map-append}
use Rattle.inet_frame.specs.Counted.{counted}
use Rattle.inet_frame.specs.Fields.{TcpFields}
use Rattle.tcp_track.specs.Stands.{segments}
use Rattle.colo_wire.specs.declared.messages.Message.{Message}
use Rattle.colo_wire.specs.declared.messages.Message.TheVariants.{Frame, Number, Begin, State, Page, Disk, Write, Held, Bytes, End, Known, Sent, Ack}
use Rattle.colo_wire.specs.declared.messages.Message.TheVariants as message
use Rattle.pair_theorem.specs.Events.{counted_frames, is_ack_message}
use Rattle.theorem_runs.specs.Links.{IsReply}
use Rattle.theorem_splices.specs.Known.{IsKnown, after_ack, has_ack, segment_told, segments_on}

-- ACKNOWLEDGEMENTS ON THE LINK
reply_is_no_ack : (m : Message) → IsReply m → is_ack_message m ≡ false
reply_is_no_ack (Frame index seen trim frame) h = refl
reply_is_no_ack (Number t client number) h = refl
reply_is_no_ack (Begin e) h = refl
reply_is_no_ack (State bytes) h = refl
reply_is_no_ack (Page k bytes) h = refl
reply_is_no_ack (Disk first bytes) h = refl
reply_is_no_ack (Write k bytes) h = refl
reply_is_no_ack (Held index seen trim frame) h = refl
reply_is_no_ack (message.Line t mac flags client own number refused acked window mss base) h = refl
reply_is_no_ack (Bytes bytes) h = refl
reply_is_no_ack (End e) h = refl
reply_is_no_ack (Known t client number) h = refl
reply_is_no_ack (Sent frame) h = refl
reply_is_no_ack (Ack e) h = absurd h

pub replies_hold_no_ack : (ms : List Message) → AllByRecursion IsReply ms → has_ack ms ≡ false
replies_hold_no_ack [] h = refl
replies_hold_no_ack (m ∷ ms) h = (λ i. reply_is_no_ack m h.0 i || has_ack ms) ∙ replies_hold_no_ack ms h.1

has_ack-append : (ms more : List Message) → has_ack more ≡ false → has_ack (ms ++ more) ≡ has_ack ms
has_ack-append [] more h = h
has_ack-append (m ∷ ms) more h = ap (λ (b : Bool). is_ack_message m || b) (has_ack-append ms more h)

after_ack-append : (ms more : List Message) → has_ack ms ≡ true → after_ack (ms ++ more) ≡ after_ack ms ++ more
after_ack-append [] more h = absurd (true≢false (sym h))
after_ack-append (m ∷ ms) more h = by (is_ack_message m) h (after_ack-append ms more)
  where
    by : (b : Bool) → (b || has_ack ms) ≡ true
        → (has_ack ms ≡ true → after_ack (ms ++ more) ≡ after_ack ms ++ more)
        → (if b then (ms ++ more) else after_ack (ms ++ more)) ≡ (if b then ms else after_ack ms) ++ more
    by true g rest = refl
    by false g rest = rest g

has_ack-behind : (ms : List Message) (e : ℕ) → has_ack (ms ++ Ack e ∷ []) ≡ true
has_ack-behind [] e = refl
has_ack-behind (m ∷ ms) e = by (is_ack_message m) (has_ack-behind ms e)
  where
    by : (b : Bool) → has_ack (ms ++ Ack e ∷ []) ≡ true → (b || has_ack (ms ++ Ack e ∷ [])) ≡ true
    by true g = refl
    by false g = g

after_ack-behind : (ms : List Message) (e : ℕ) → has_ack ms ≡ false → after_ack (ms ++ Ack e ∷ []) ≡ []
after_ack-behind [] e h = refl
after_ack-behind (m ∷ ms) e h = by (is_ack_message m) h (after_ack-behind ms e)
  where
    by : (b : Bool) → (b || has_ack ms) ≡ false → (has_ack ms ≡ false → after_ack (ms ++ Ack e ∷ []) ≡ [])
        → (if b then (ms ++ Ack e ∷ []) else after_ack (ms ++ Ack e ∷ [])) ≡ []
    by true g rest = absurd (true≢false g)
    by false g rest = rest g

-- what the secondary tells of is what of its frames counts
pub told_frames : (frames : List (List ℕ)) → segments_on (map Sent (counted_frames frames)) ≡ segments frames
told_frames [] = refl
told_frames (f ∷ frames) = by (counted f) refl (told_frames frames)
  where
    by : (o : Option TcpFields) → counted f ≡ o → segments_on (map Sent (counted_frames frames)) ≡ segments frames
        → segments_on (map Sent (if is_some o then f ∷ counted_frames frames else counted_frames frames))
        ≡ cons_option o (segments frames)
    by None e rest = rest
    by (Some s) e rest = λ i. cons_option (e i) (rest i)

pub told_hold_no_ack : (frames : List (List ℕ)) → has_ack (map Sent frames) ≡ false
told_hold_no_ack [] = refl
told_hold_no_ack (f ∷ frames) = told_hold_no_ack frames

-- THE SECONDARY SENDS
pub more_told : (awaits : Bool) (known sent copy : List TcpFields) (link more : List Message) → has_ack more ≡ false
    → IsKnown awaits known sent copy link
    → IsKnown awaits known (sent ++ segments_on more) copy (link ++ more)
more_told awaits known sent copy link more none h = record {
  whole = λ e. ap (λ (xs : List TcpFields). known ++ xs) (filter_map-append segment_told link more)
      ∙ (sym (append_assoc known (segments_on link) (segments_on more))
      ∙ ap (λ (xs : List TcpFields). xs ++ segments_on more) (h.whole e));
  front = λ e. let f = h.front (sym (has_ack-append link more none) ∙ e) in (
    f.0 ++ segments_on more,
    ap (λ (xs : List TcpFields). xs ++ segments_on more) f.1
        ∙ append_assoc known f.0 (segments_on more),
  );
  copied = λ e. let g = sym (has_ack-append link more none) ∙ e in
      ap (λ (xs : List TcpFields). copy ++ xs)
      (ap (λ (ms : List Message). segments_on ms) (after_ack-append link more g)
      ∙ filter_map-append segment_told (after_ack link) more)
      ∙ (sym (append_assoc copy (segments_on (after_ack link)) (segments_on more))
      ∙ ap (λ (xs : List TcpFields). xs ++ segments_on more) (h.copied g));
}

-- a reply that tells of no segment
pub more_said : (awaits : Bool) (known sent copy : List TcpFields) (link more : List Message) → has_ack more ≡ false
    → segments_on more ≡ [] → IsKnown awaits known sent copy link → IsKnown awaits known sent copy (link ++ more)
more_said awaits known sent copy link more none nothing h =
    subst (λ (xs : List TcpFields). IsKnown awaits known xs copy (link ++ more))
    (ap (λ (xs : List TcpFields). sent ++ xs) nothing ∙ append-nil sent)
    (more_told awaits known sent copy link more none h)

-- THE COMMIT
pub commit_known : (known copy : List TcpFields) (link : List Message) (e : ℕ) → has_ack link ≡ false
    → IsKnown true known copy copy (link ++ Ack e ∷ [])
commit_known known copy link e none = record {
  whole = λ f. absurd (true≢false f);
  front = λ f. absurd (true≢false (sym (has_ack-behind link e) ∙ f));
  copied = λ f. ap (λ (ms : List Message). copy ++ segments_on ms) (after_ack-behind link e none) ∙ append-nil copy;
}

-- THE PRIMARY IGNORES what it doesn't wait for
pub ignore_known : (known sent copy : List TcpFields) (m : Message) (link : List Message) → is_ack_message m ≡ false
    → IsKnown true known sent copy (m ∷ link) → IsKnown true known sent copy link
ignore_known known sent copy m link other h = record {
  whole = λ e. absurd (true≢false e);
  front = λ e. h.front (ap (λ (b : Bool). b || has_ack link) other ∙ e);
  copied = λ e. ap (λ (b : Bool). copy ++ segments_on (if b then link else after_ack link)) (sym other)
      ∙ h.copied (ap (λ (b : Bool). b || has_ack link) other ∙ e);
}

-- THE PRIMARY HEARS a reply, where no checkpoint is awaited
pub hear_known : (known sent copy : List TcpFields) (m : Message) (link : List Message) → has_ack link ≡ false
    → IsKnown false known sent copy (m ∷ link)
    → IsKnown false (known ++ segments_on (m ∷ [])) sent copy link
hear_known known sent copy m link none h =
    let whole = append_assoc known (segments_on (m ∷ [])) (segments_on link)
    ∙ (ap (λ (xs : List TcpFields). known ++ xs) (sym (filter_map-append segment_told (m ∷ []) link)) ∙ h.whole refl) in
    record {
      whole = λ e. whole;
      front = λ e. (segments_on link, sym whole);
      copied = λ e. absurd (true≢false (sym e ∙ none));
    }

-- THE ACKNOWLEDGEMENT
pub ack_known : (known sent copy mine : List TcpFields) (e : ℕ) (link : List Message) → has_ack link ≡ false
    → mine ≡ copy → IsKnown true known sent copy (Ack e ∷ link) → IsKnown false mine sent copy link
ack_known known sent copy mine e link none same h =
    let whole = ap (λ (xs : List TcpFields). xs ++ segments_on link) same ∙ h.copied refl in
    record {
      whole = λ f. whole;
      front = λ f. (segments_on link, sym whole);
      copied = λ f. absurd (true≢false (sym f ∙ none));
    }

-- A CAPTURE
pub capture_known : (known sent copy mine : List TcpFields) (link : List Message) → has_ack link ≡ false
    → IsKnown false known sent copy link → IsKnown true known sent mine link
capture_known known sent copy mine link none h = record {
  whole = λ e. absurd (true≢false e);
  front = h.front;
  copied = λ e. absurd (true≢false (sym e ∙ none));
}
