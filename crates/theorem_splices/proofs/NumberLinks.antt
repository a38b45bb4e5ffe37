-- What stands on the link to the secondary, and what of it is a number; how both nodes' numbers go on with it.
use Rattle.std.proofs.Common.{◌≡◌, ℕ, ◌||◌, Bool, true, false, List, [], ◌∷◌, ◌++◌, append-nil, append_assoc, map, Option, None, refl, sym, ap, subst, ◌∙◌, true≢false}
use Rattle.std.proofs.Math.Bool.{or-false, or-true}
use Rattle.std.specs.List.{AllByRecursion, cons_option}
use Rattle.std.proofs.lemmas.List.Elements.{filter_map-append}
use Rattle.std.proofs.lemmas.List.Folds.{list_any-append}
use Rattle.inet_frame.specs.declared.tuple.Tuple.{Tuple}
use Rattle.tcp_track.specs.Lines.{Item}
use Rattle.settle_rules.specs.Numbers.{KeptNumber, keep_number, thin}
use Rattle.colo_wire.specs.declared.messages.Message.{Message}
use Rattle.colo_wire.specs.declared.messages.Message.TheVariants.{Frame, Number, Begin, State, Page, Disk, Write, Held, Bytes, End, Known, Sent, Ack}
use Rattle.colo_wire.specs.declared.messages.Message.TheVariants as message
use Rattle.pair_theorem.specs.Events.{number_message}
use Rattle.pair_theorem.proofs.MessageCases.{stays_apart}
use Rattle.theorem_runs.specs.Links.{IsFrameMessage, IsPart}
use Rattle.theorem_runs.specs.Runs.{has_end, is_end}
use Rattle.theorem_splices.specs.Numbers.{AreAcross, AreNewAfter, number_told, numbers_on, plain_numbers}
use Rattle.theorem_splices.proofs.NumberSteps.{has_number, keeps_new, new_alike, new_later, new_thin, new_together, plain-append, plain_again, thin_alike, told_numbers}

-- WHAT IS NO NUMBER
part_is_no_number : (m : Message) → IsPart m → number_told m ≡ None
part_is_no_number (Frame index seen trim frame) h = refl
part_is_no_number (Number t client number) h = absurd h
part_is_no_number (Begin e) h = refl
part_is_no_number (State bytes) h = refl
part_is_no_number (Page k bytes) h = refl
part_is_no_number (Disk first bytes) h = refl
part_is_no_number (Write k bytes) h = refl
part_is_no_number (Held index seen trim frame) h = refl
part_is_no_number (message.Line t mac flags client own number refused acked window mss base) h = refl
part_is_no_number (Bytes bytes) h = refl
part_is_no_number (End e) h = refl
part_is_no_number (Known t client number) h = refl
part_is_no_number (Sent frame) h = refl
part_is_no_number (Ack e) h = refl

pub parts_hold_no_number : (ms : List Message) → AllByRecursion IsPart ms → numbers_on ms ≡ []
parts_hold_no_number [] h = refl
parts_hold_no_number (m ∷ ms) h =
    (λ i. cons_option (part_is_no_number m h.0 i) (numbers_on ms)) ∙ parts_hold_no_number ms h.1

frame_is_no_number : (m : Message) → IsFrameMessage m → number_told m ≡ None
frame_is_no_number (Frame index seen trim frame) h = refl
frame_is_no_number (Number t client number) h = absurd h
frame_is_no_number (Begin e) h = refl
frame_is_no_number (State bytes) h = refl
frame_is_no_number (Page k bytes) h = refl
frame_is_no_number (Disk first bytes) h = refl
frame_is_no_number (Write k bytes) h = refl
frame_is_no_number (Held index seen trim frame) h = refl
frame_is_no_number (message.Line t mac flags client own number refused acked window mss base) h = refl
frame_is_no_number (Bytes bytes) h = refl
frame_is_no_number (End e) h = refl
frame_is_no_number (Known t client number) h = refl
frame_is_no_number (Sent frame) h = refl
frame_is_no_number (Ack e) h = refl

pub frames_hold_no_number : (ms : List Message) → AllByRecursion IsFrameMessage ms → numbers_on ms ≡ []
frames_hold_no_number [] h = refl
frames_hold_no_number (m ∷ ms) h =
    (λ i. cons_option (frame_is_no_number m h.0 i) (numbers_on ms)) ∙ frames_hold_no_number ms h.1

told_hold_no_end : (new : List KeptNumber) → has_end (map number_message new) ≡ false
told_hold_no_end [] = refl
told_hold_no_end (k ∷ new) = told_hold_no_end new

-- the primary's numbers alone change, but for whether they are known
pub mine_alike : (theirs : List KeptNumber) (link : List Message) (mine now : List KeptNumber) (items : List Item)
    (copied : List KeptNumber) → plain_numbers now ≡ plain_numbers mine
    → AreAcross false theirs link mine items copied → AreAcross false theirs link now items copied
mine_alike theirs link mine now items copied same h = record {
  each_new = h.each_new;
  calm = λ e. h.calm e ∙ sym same;
  going = h.going;
  coming = h.coming;
}

-- THE LINK GROWS by what is neither a number nor an End
pub more_beside : (awaits : Bool) (theirs : List KeptNumber) (link more : List Message) (mine : List KeptNumber)
    (items : List Item) (copied : List KeptNumber) → numbers_on more ≡ [] → has_end more ≡ false
    → AreAcross awaits theirs link mine items copied → AreAcross awaits theirs (link ++ more) mine items copied
more_beside awaits theirs link more mine items copied none endless h =
    let same : numbers_on (link ++ more) ≡ numbers_on link = filter_map-append number_told link more
    ∙ (ap (λ (xs : List KeptNumber). numbers_on link ++ xs) none ∙ append-nil (numbers_on link)) in
    let ends : has_end (link ++ more) ≡ has_end link = list_any-append is_end link more
    ∙ (ap (λ (b : Bool). has_end link || b) endless ∙ or-false (has_end link)) in
    record {
      each_new = subst (λ (xs : List KeptNumber). AreNewAfter [] (theirs ++ xs)) (sym same) h.each_new;
      calm = λ e. ap (λ (xs : List KeptNumber). plain_numbers (theirs ++ xs)) same ∙ h.calm e;
      going = λ e. ap (λ (xs : List KeptNumber). plain_numbers (thin items (theirs ++ xs))) same
          ∙ h.going (sym ends ∙ e);
      coming = λ w e. ap (λ (xs : List KeptNumber). plain_numbers (theirs ++ xs)) same ∙ h.coming w (sym ends ∙ e);
    }

-- NEW NUMBERS ARE TOLD, where no checkpoint is awaited
pub more_numbers : (theirs : List KeptNumber) (link : List Message) (mine more : List KeptNumber) (items : List Item)
    (copied : List KeptNumber) → has_end link ≡ false → AreNewAfter mine more
    → AreAcross false theirs link mine items copied
    → AreAcross false theirs (link ++ map number_message more) (mine ++ more) items copied
more_numbers theirs link mine more items copied endless new h =
    let told = map number_message more in
    let now = theirs ++ numbers_on (link ++ told) in
    let longer : now ≡ (theirs ++ numbers_on link) ++ plain_numbers more =
    ap (λ (xs : List KeptNumber). theirs ++ xs) (filter_map-append number_told link told
    ∙ ap (λ (xs : List KeptNumber). numbers_on link ++ xs) (told_numbers more))
    ∙ sym (append_assoc theirs (numbers_on link) (plain_numbers more)) in
    let same : plain_numbers now ≡ plain_numbers (mine ++ more) =
    ap (λ (xs : List KeptNumber). plain_numbers xs) longer
    ∙ (plain-append (theirs ++ numbers_on link) (plain_numbers more)
    ∙ ((λ i. h.calm refl i ++ plain_again more i) ∙ sym (plain-append mine more))) in
    let ends : has_end (link ++ told) ≡ false = list_any-append is_end link told
    ∙ (λ i. endless i || told_hold_no_end more i) in
    record {
      each_new = new_alike now (mine ++ more) same (new_together [] mine more
          (new_alike mine (theirs ++ numbers_on link) (sym (h.calm refl)) h.each_new) new);
      calm = λ e. same;
      going = λ e. absurd (true≢false (sym e ∙ ends));
      coming = λ w e. absurd (true≢false (sym w));
    }

-- A CAPTURE
pub capture_across : (theirs : List KeptNumber) (link parts : List Message) (mine : List KeptNumber)
    (items now : List Item) (copied : List KeptNumber) (e : ℕ) → AllByRecursion IsPart parts
    → AreAcross false theirs link mine items copied
    → AreAcross true theirs (link ++ (parts ++ End e ∷ [])) (thin now mine) now (thin now mine)
capture_across theirs link parts mine items now copied e are h =
    let same : numbers_on (link ++ (parts ++ End e ∷ [])) ≡ numbers_on link =
    filter_map-append number_told link (parts ++ End e ∷ [])
    ∙ (ap (λ (xs : List KeptNumber). numbers_on link ++ xs) (filter_map-append number_told parts (End e ∷ [])
    ∙ (append-nil (numbers_on parts) ∙ parts_hold_no_number parts are)) ∙ append-nil (numbers_on link)) in
    let ends : has_end (link ++ (parts ++ End e ∷ [])) ≡ true =
    list_any-append is_end link (parts ++ End e ∷ [])
    ∙ (ap (λ (b : Bool). has_end link || b) (list_any-append is_end parts (End e ∷ []) ∙ or-true (has_end parts))
    ∙ or-true (has_end link)) in
    record {
      each_new = subst (λ (xs : List KeptNumber). AreNewAfter [] (theirs ++ xs)) (sym same) h.each_new;
      calm = λ w. absurd (true≢false w);
      going = λ f. ap (λ (xs : List KeptNumber). plain_numbers (thin now (theirs ++ xs))) same
          ∙ thin_alike now (theirs ++ numbers_on link) mine (h.calm refl);
      coming = λ w f. absurd (true≢false (sym ends ∙ f));
    }

-- THE SECONDARY HEARS what belongs to a checkpoint
pub apart_across : (awaits : Bool) (theirs : List KeptNumber) (m : Message) (link : List Message)
    (mine : List KeptNumber) (items : List Item) (copied : List KeptNumber) → stays_apart m ≡ true
    → AreAcross awaits theirs (m ∷ link) mine items copied → AreAcross awaits theirs link mine items copied
apart_across awaits theirs m link mine items copied apart h =
    let parts = apart_tells m apart in
    let same = ap (λ (o : Option KeptNumber). cons_option o (numbers_on link)) parts.0 in
    let ends = ap (λ (b : Bool). b || has_end link) parts.1 in
    record {
      each_new = subst (λ (xs : List KeptNumber). AreNewAfter [] (theirs ++ xs)) same h.each_new;
      calm = λ e. ap (λ (xs : List KeptNumber). plain_numbers (theirs ++ xs)) (sym same) ∙ h.calm e;
      going = λ e. ap (λ (xs : List KeptNumber). plain_numbers (thin items (theirs ++ xs))) (sym same)
          ∙ h.going (ends ∙ e);
      coming = λ w e. ap (λ (xs : List KeptNumber). plain_numbers (theirs ++ xs)) (sym same) ∙ h.coming w (ends ∙ e);
    }
  where
    apart_tells : (m : Message) → stays_apart m ≡ true → (number_told m ≡ None) × (is_end m ≡ false)
    apart_tells (Frame index seen trim frame) h = (refl, refl)
    apart_tells (Number t client number) h = absurd (true≢false (sym h))
    apart_tells (Begin e) h = (refl, refl)
    apart_tells (State bytes) h = (refl, refl)
    apart_tells (Page k bytes) h = (refl, refl)
    apart_tells (Disk first bytes) h = (refl, refl)
    apart_tells (Write k bytes) h = (refl, refl)
    apart_tells (Held index seen trim frame) h = (refl, refl)
    apart_tells (message.Line t mac flags client own number refused acked window mss base) h = (refl, refl)
    apart_tells (Bytes bytes) h = (refl, refl)
    apart_tells (End e) h = absurd (true≢false (sym h))
    apart_tells (Known t client number) h = (refl, refl)
    apart_tells (Sent frame) h = (refl, refl)
    apart_tells (Ack e) h = (refl, refl)

-- a number, which is new to it
pub number_across : (awaits : Bool) (theirs : List KeptNumber) (t : Tuple) (client number : ℕ) (link : List Message)
    (mine : List KeptNumber) (items : List Item) (copied : List KeptNumber)
    → AreAcross awaits theirs (Number t client number ∷ link) mine items copied
    → AreAcross awaits (keep_number t client number true theirs) link mine items copied
number_across awaits theirs t client number link mine items copied h =
    let on = numbers_on link in
    let old : KeptNumber = record { tuple = t; client = client; number = number; known = false } in
    let kept : KeptNumber = record { tuple = t; client = client; number = number; known = true } in
    let new : has_number t client theirs ≡ false = (new_later [] theirs (old ∷ on) h.each_new).0 in
    let same : plain_numbers ((theirs ++ kept ∷ []) ++ on) ≡ plain_numbers (theirs ++ old ∷ on) =
    ap (λ (xs : List KeptNumber). plain_numbers xs) (append_assoc theirs (kept ∷ []) on)
    ∙ (plain-append theirs (kept ∷ on) ∙ sym (plain-append theirs (old ∷ on))) in
    subst (λ (xs : List KeptNumber). AreAcross awaits xs link mine items copied)
    (sym (keeps_new theirs t client number new))
    (record {
      each_new = new_alike ((theirs ++ kept ∷ []) ++ on) (theirs ++ old ∷ on) same h.each_new;
      calm = λ e. same ∙ h.calm e;
      going = λ e. thin_alike items ((theirs ++ kept ∷ []) ++ on) (theirs ++ old ∷ on) same ∙ h.going e;
      coming = λ w e. same ∙ h.coming w e;
    })

-- the commit
pub commit_across : (theirs : List KeptNumber) (e : ℕ) (link : List Message) (mine : List KeptNumber)
    (items : List Item) (copied : List KeptNumber) → numbers_on link ≡ [] → has_end link ≡ false
    → AreAcross true theirs (End e ∷ link) mine items copied → AreAcross true copied link mine items copied
commit_across theirs e link mine items copied none endless h =
    let same : copied ++ numbers_on link ≡ copied =
    ap (λ (xs : List KeptNumber). copied ++ xs) none ∙ append-nil copied in
    record {
      each_new = subst (λ (xs : List KeptNumber). AreNewAfter [] xs) (sym same)
          (new_alike copied (thin items (theirs ++ numbers_on link)) (sym (h.going refl))
          (new_thin items (theirs ++ numbers_on link) h.each_new));
      calm = λ w. absurd (true≢false w);
      going = λ f. absurd (true≢false (sym f ∙ endless));
      coming = λ w f. ap (λ (xs : List KeptNumber). plain_numbers xs) same;
    }

-- THE ACKNOWLEDGEMENT, once the primary's numbers are the captured ones
pub ack_across : (theirs : List KeptNumber) (link : List Message) (mine now : List KeptNumber) (items : List Item)
    (copied : List KeptNumber) → has_end link ≡ false → plain_numbers now ≡ plain_numbers copied
    → AreAcross true theirs link mine items copied → AreAcross false theirs link now items copied
ack_across theirs link mine now items copied endless same h = record {
  each_new = h.each_new;
  calm = λ e. h.coming refl endless ∙ sym same;
  going = λ f. absurd (true≢false (sym f ∙ endless));
  coming = λ w f. absurd (true≢false (sym w));
}
