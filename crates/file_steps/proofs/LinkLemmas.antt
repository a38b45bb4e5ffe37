-- From one call on the link or the clock to one step.
use Rattle.std.proofs.Common.{◌≡◌, ℕ, Bool, true, false, IsTrue, List, [], ◌∷◌, ◌++◌, refl, sym, ap, ◌∙◌, ◌⊎◌, inl, inr, length, arith}
use Rattle.std.specs.Io.{StartsWith}
use Rattle.std.proofs.lemmas.Bool.{false≢true}
use Rattle.std.proofs.lemmas.List.{append-nil}
use Rattle.colo_base.specs.Clock.{ClockState, Gives}
use Rattle.colo_base.specs.Count.{Increased}
use Rattle.colo_base.specs.Link.{LinkState, LinkGoesOn, Answers, NoOpenFailed, NoReceiveFailed, NoSendFailed, SameAnswers, SameSent, Sends, SendsPart, Hears, CountsOpen, CountsReceive, CountsSend}
use Rattle.colo_base.specs.Shelf.{ShelfState}
use Rattle.colo_base.specs.declared.traits.Heard.{Heard}
use Rattle.colo_base.specs.declared.traits.Heard.TheVariants as heard
use Rattle.colo_base.proofs.StateLemmas.{changes_none, link_none}
use Rattle.file_steps.proofs.StepLemmas.{gives_none}
use Rattle.file_steps.specs.Steps.{Step, connect, hear, read_clock, send, Outside, outside, IsNamed, Carried, WriteFailed, HearFailed, Done, FailsAt, arrival_of, nothing, came, ticked}

module _ (out : List ℕ) (s : ShelfState) (k : ClockState) (a b : LinkState) (goes : LinkGoesOn a b) where
  abbrev old : Outside
  old = outside s a k

  abbrev new : Outside
  new = outside s b k

  -- nothing was heard, and these bytes were sent, by no step or one
  sends_by : (steps : List Step) (bytes : List ℕ) → b.opened ≡ a.opened → SameAnswers a b → Sends a b bytes
      → (steps ≡ []) × (bytes ≡ []) ⊎ (steps ≡ send bytes ∷ []) → Carried out steps nothing old new
  sends_by steps bytes opened heard sent (inl (none, no_bytes)) = rw none (record {
    change = changes_none (IsNamed out) s;
    fetches = λ name. refl;
    files = λ seen end. refl;
    link = goes;
    opened = opened;
    sent = λ seen. sent seen ∙ ap (λ l. a.sent ++ l) no_bytes;
    heard = λ seen. heard seen ∙ sym (append-nil a.answers);
    asked = refl;
    given = gives_none k;
    readings = refl;
  })
  sends_by steps bytes opened heard sent (inr one) = rw one (record {
    change = changes_none (IsNamed out) s;
    fetches = λ name. refl;
    files = λ seen end. refl;
    link = goes;
    opened = opened;
    sent = λ seen. sent seen ∙ ap (λ l. a.sent ++ l) (sym (append-nil bytes));
    heard = λ seen. heard seen ∙ sym (append-nil a.answers);
    asked = refl;
    given = gives_none k;
    readings = refl;
  })

  kept_by : b.opened ≡ a.opened → SameAnswers a b → SameSent a b → Carried out [] nothing old new
  kept_by opened heard sent =
      sends_by [] [] opened heard (λ seen. sent seen ∙ sym (append-nil a.sent)) (inl (refl, refl))

  pub sent_done : (bytes : List ℕ) → b.opened ≡ a.opened → SameAnswers a b → Sends a b bytes → NoSendFailed a b
      → CountsSend a b → Done out (send bytes ∷ []) nothing old new
  sent_done bytes opened heard sent none counts = record {
    carried = sends_by (send bytes ∷ []) bytes opened heard sent (inr refl);
    none = record { writes = λ name. refl; opens = counts.opens; receives = counts.receives; sends = none };
  }

  pub sent_fails : (bytes : List ℕ) → b.opened ≡ a.opened → SameAnswers a b → SendsPart a b bytes
      → Increased a.send_faults b.send_faults
      → FailsAt out (send bytes ∷ []) nothing old new (WriteFailed out old new)
  sent_fails bytes opened heard part rose = by a.observable refl
    where
      whole : (made : List Step) → (made ≡ []) ⊎ ((front : List ℕ) × StartsWith bytes front × (made ≡ send front ∷ []))
          → Carried out made nothing old new
          → FailsAt out (send bytes ∷ []) nothing old new (WriteFailed out old new)
      whole made next carried = record {
        rest = send bytes ∷ [];
        cut = record {
          made = made;
          front = record { done = []; part = made; place = refl; next = next; made_is = refl };
          carried = carried;
        };
        failed = rose;
      }

      by : (t : Bool) → a.observable ≡ t
          → FailsAt out (send bytes ∷ []) nothing old new (WriteFailed out old new)
      by false e = whole [] (inl refl) (kept_by opened heard (λ seen. absurd (false≢true (sym e ∙ seen))))
      by true e =
          let p = part e in
          whole (send p.0 ∷ []) (inr (p.0, p.1, refl))
          (sends_by (send p.0 ∷ []) p.0 opened heard (λ seen. p.2) (inr refl))

  pub heard_done : (into : List ℕ) (h : Heard) → b.opened ≡ a.opened → SameSent a b → Hears a b into h
      → NoReceiveFailed a b → CountsReceive a b
      → Done out (hear (length into) ∷ []) (came (arrival_of into h)) old new
  heard_done into h opened sent hears none counts = record {
    carried = record {
      change = changes_none (IsNamed out) s;
      fetches = λ name. refl;
      files = λ seen end. refl;
      link = goes;
      opened = opened;
      sent = λ seen. sent seen ∙ sym (append-nil a.sent);
      heard = answers h hears;
      asked = refl;
      given = gives_none k;
      readings = refl;
    };
    none = record { writes = λ name. refl; opens = counts.opens; receives = none; sends = counts.sends };
  }
    where
      answers : (h : Heard) → Hears a b into h → Answers a b (length into) (arrival_of into h)
      answers (heard.Took n) p = p.2
      answers heard.Quiet p = p.1
      answers heard.Ended p = p.0

  pub heard_fails : (room : ℕ) → b.opened ≡ a.opened → SameAnswers a b → SameSent a b
      → Increased a.receive_faults b.receive_faults
      → FailsAt out (hear room ∷ []) nothing old new (HearFailed old new)
  heard_fails room opened heard sent rose = record {
    rest = hear room ∷ [];
    cut = record {
      made = [];
      front = record { done = []; part = []; place = refl; next = refl; made_is = refl };
      carried = kept_by opened heard sent;
    };
    failed = rose;
  }

  pub connected_done : (address : List ℕ) → IsTrue b.opened → SameAnswers a b → SameSent a b → NoOpenFailed a b
      → CountsOpen a b → Done out (connect address ∷ []) nothing old new
  connected_done address opened heard sent none counts = record {
    carried = record {
      change = changes_none (IsNamed out) s;
      fetches = λ name. refl;
      files = λ seen end. refl;
      link = goes;
      opened = opened;
      sent = λ seen. sent seen ∙ sym (append-nil a.sent);
      heard = λ seen. heard seen ∙ sym (append-nil a.answers);
      asked = refl;
      given = gives_none k;
      readings = refl;
    };
    none = record { writes = λ name. refl; opens = none; receives = counts.receives; sends = counts.sends };
  }

  pub connected_fails : (address : List ℕ) → b.opened ≡ a.opened → SameAnswers a b → SameSent a b
      → Increased (a.open_faults address) (b.open_faults address)
      → FailsAt out (connect address ∷ []) nothing old new (HearFailed old new)
  connected_fails address opened heard sent rose = record {
    rest = connect address ∷ [];
    cut = record {
      made = [];
      front = record { done = []; part = []; place = refl; next = refl; made_is = refl };
      carried = kept_by opened heard sent;
    };
    failed = rose;
  }

pub read_done : (out : List ℕ) (s : ShelfState) (l : LinkState) (a b : ClockState) (t : ℕ) → Gives a b t
    → Done out (read_clock ∷ []) (ticked t) (outside s l a) (outside s l b)
read_done out s l a b t gives = record {
  carried = record {
    change = changes_none (IsNamed out) s;
    fetches = λ name. refl;
    files = λ seen end. refl;
    link = link_none l;
    opened = refl;
    sent = λ seen. sym (append-nil l.sent);
    heard = λ seen. sym (append-nil l.answers);
    asked = refl;
    given = record { observable = gives.observable; given = λ seen room. gives.given seen (omega arith) };
    readings = refl;
  };
  none = record { writes = λ name. refl; opens = λ address. refl; receives = refl; sends = refl };
}
