-- What an event makes, by what its calls answered.
use Rattle.std.proofs.Common.{◌≡◌, ◌≢◌, ℕ, Bool, true, false, List, [], ◌∷◌, Option, Some, None, Ok, Err, refl, ap, ◌∙◌, subst, if◌then◌else◌, length}
use Rattle.colo_wire.specs.Spelling.{message_bytes}
use Rattle.colo_wire.specs.declared.answers.HearFault.{HearFault}
use Rattle.colo_wire.specs.declared.answers.Told.{Told}
use Rattle.colo_wire.specs.declared.messages.Message.{Message}
use Rattle.replay_log.specs.declared.records.Answer.TheVariants as answer
use Rattle.node_primary.specs.Answers as primary
use Rattle.node_primary.specs.Node.{Primary}
use Rattle.node_secondary.specs.Answers as secondary
use Rattle.node_secondary.specs.Survivor.{Second}
use Rattle.pair_core.specs.Events.{Outcome, arrow_down, arrow_up, client_with, counts_on, deliver_with, hears_back_with, hears_with, nothing, primary_hears, secondary_hears, told_marks}
use Rattle.pair_core.specs.Inside.{Makes}
use Rattle.pair_core.specs.Pair.{Pair, sent_down, sent_up}
use Rattle.pair_core.specs.declared.event.Event.{Event}

-- ---- one of two outcomes

pub made_first : (b : Bool) (x y : Outcome) (e : Event) → b ≡ true → Makes e x → Makes e (if b then x else y)
made_first true x y e is made = made
made_first false x y e is made = let f : false ≡ true = is in cc

-- ---- no frame, and no message

pub made_no_frame : (w : Pair) (frame : Option (List ℕ)) (e : Event) → None ≡ frame → Makes e (nothing w)
    → Makes e (client_with w frame)
made_no_frame w None e is made = made
made_no_frame w (Some frame) e is made = let f : None ≡ Some frame = is in cc

pub made_no_message : (b : Bool) (hear : Pair → Message → Outcome) (w : Pair) (ms : List Message)
    (left : List Message → Pair) (e : Event) → ms ≡ [] → Makes e (nothing w) →
    Makes e (if b then nothing w else deliver_with hear w ms left)
made_no_message true hear w ms left e is made = made
made_no_message false hear w [] left e is made = made
made_no_message false hear w (m ∷ ms) left e is made = let f : m ∷ ms ≡ [] = is in cc

-- ---- the secondary hears

pub ok_is_no_err : (told : Told) (fault : HearFault) → (let a : secondary.Answer = Ok told in a ≢ Err fault)
ok_is_no_err told fault = λ e. cc

pub err_is_no_memory : (a b : HearFault) → a ≢ b → (let r : secondary.Answer = Err a in r ≢ Err b)
err_is_no_memory a b other = λ e. other (by_err e)
  where
    by_err : (let r : secondary.Answer = Err a in r ≡ Err b) → a ≡ b
    by_err e = cc

module _ (w : Pair) (m : Message) where
  pub second_heard : (told : Told) (second : Second) (x : Pair)
      → (let r : secondary.Answer = Ok told in r ≡ secondary.answer_to w.second (Ok m))
      → second ≡ secondary.after_reading w.second (Ok m) → x ≡ sent_up (record w { second = second })
      → x ≡ (secondary_hears w m).after
  unfolding secondary_hears hears_with
  second_heard told second x e left is =
      is ∙ (ap (λ (s : Second). sent_up (record w { second = s })) left
      ∙ ap (λ (a : secondary.Answer). (hears_with w m a).after) e)

  pub second_told : (told : Told) (e : Event)
      → (let r : secondary.Answer = Ok told in r ≡ secondary.answer_to w.second (Ok m))
      → e.answer ≡ answer.Heard told.kind told.full → e.marks ≡ told_marks told → e.released ≡ []
      → e.wire.items ≡ arrow_down ∷ message_bytes m → Makes e (secondary_hears w m)
  unfolding secondary_hears hears_with
  second_told told e is answer marked out wire =
      subst (λ (a : secondary.Answer). Makes e (hears_with w m a)) is
      (record { answer = answer; marks = marked; released = out; wire = wire })

  pub second_lost : (fault : HearFault) (second : Second) (e : Event)
      → (let r : secondary.Answer = Err fault in r ≡ secondary.answer_to w.second (Ok m)) → second ≡ w.second
      → Makes e (nothing w)
      → (record w { second = second } ≡ (secondary_hears w m).after) × Makes e (secondary_hears w m)
  unfolding secondary_hears hears_with
  second_lost fault second e is same made = (
    ap (λ (s : Second). record w { second = s }) same ∙ ap (λ (a : secondary.Answer). (hears_with w m a).after) is,
    subst (λ (a : secondary.Answer). Makes e (hears_with w m a)) is made,
  )

  -- ---- the primary hears

  pub first_heard : (told : Told) (first : Primary) (sent : ℕ) (x : Pair)
      → (let r : primary.Answer = Ok told in r ≡ primary.answer_to w.first (Ok m))
      → first ≡ primary.after_reading w.first (Ok m) → sent ≡ counts_on w.first.awaits told w.sent_heard
      → x ≡ sent_down (record w { first = first; sent_heard = sent })
      → x ≡ (primary_hears w m).after
  unfolding primary_hears hears_back_with
  first_heard told first sent x e left counted is =
      is ∙ (ap (λ (s : Primary). sent_down (record w { first = s; sent_heard = sent })) left
      ∙ (ap (λ (n : ℕ). sent_down (record w {
        first = primary.after_reading w.first (Ok m);
        sent_heard = n;
      })) counted
      ∙ ap (λ (a : primary.Answer). (hears_back_with w m a).after) e))

  pub first_told : (told : Told) (sent : ℕ) (e : Event)
      → (let r : primary.Answer = Ok told in r ≡ primary.answer_to w.first (Ok m))
      → sent ≡ counts_on w.first.awaits told w.sent_heard
      → (count : ℕ) → count ≡ length (primary.out_of w.first (Ok m))
      → e.answer ≡ answer.HeardBack told.kind sent count → e.marks ≡ told_marks told
      → e.released ≡ primary.out_of w.first (Ok m)
      → e.wire.items ≡ arrow_up ∷ message_bytes m → Makes e (primary_hears w m)
  unfolding primary_hears hears_back_with
  first_told told sent e is counted count counts answer marked out wire =
      subst (λ (a : primary.Answer). Makes e (hears_back_with w m a)) is
      (record {
        answer = answer ∙ rw (counted, counts) refl;
        marks = marked;
        released = out;
        wire = wire;
      })

  pub first_lost : (fault : HearFault) (first : Primary) (e : Event)
      → (let r : primary.Answer = Err fault in r ≡ primary.answer_to w.first (Ok m)) → first ≡ w.first
      → Makes e (nothing w)
      → (record w { first = first } ≡ (primary_hears w m).after) × Makes e (primary_hears w m)
  unfolding primary_hears hears_back_with
  first_lost fault first e is same made = (
    ap (λ (s : Primary). record w { first = s }) same ∙ ap (λ (a : primary.Answer). (hears_back_with w m a).after) is,
    subst (λ (a : primary.Answer). Makes e (hears_back_with w m a)) is made,
  )
