-- The SYNs that were shown, of a node's numbers and of what it sent: how it goes on with both, and with more SYNs.
use Rattle.std.proofs.Common.{◌≡◌, ◌⊎◌, inl, inr, ℕ, Bool, true, false, List, [], ◌++◌, append-nil, refl, sym, ap, subst, ◌∙◌, append_assoc, All, Contains}
use Rattle.std.specs.Prelude.{IsTrue}
use Rattle.std.proofs.lemmas.List.Elements.{All-append, All-contains, All-contains_itself, All-weaker}
use Rattle.inet_frame.specs.Fields.{TcpFields}
use Rattle.settle_rules.specs.Numbers.{KeptNumber}
use Rattle.pair_theorem.specs.FrameParts.{Syn, clients_opened, same_number_shown}
use Rattle.theorem_frames.proofs.GrowthLemmas.{what_stands_goes_on}
use Rattle.theorem_splices.specs.Known.{IsFrontOf}
use Rattle.theorem_numbers.specs.Kept.{has_left}
use Rattle.theorem_numbers.proofs.ClientLemmas.{client_more, has_client, left_more}
use Rattle.theorem_numbers.proofs.NumberLogs.{AllShown, IsNew, SynHolds, as_test, pair_shows, shows_on}
use Rattle.theorem_numbers.proofs.SynLemmas.{HasNumber}
use Rattle.theorem_survivor.proofs.HadLemmas.{KeepsAll}
use Rattle.theorem_shown.specs.Shown.{GoesOnShowing}

-- FRONTS
pub same_front : (xs ys : List TcpFields) → ys ≡ xs → IsFrontOf xs ys
same_front xs ys e = ([], e ∙ sym (append-nil xs))

pub front_on : (xs ys zs : List TcpFields) → IsFrontOf xs ys → IsFrontOf ys zs → IsFrontOf xs zs
front_on xs ys zs f g =
    (f.0 ++ g.0, g.1 ∙ (ap (λ (s : List TcpFields). s ++ g.0) f.1 ∙ append_assoc xs f.0 g.0))

-- IT GOES ON with what is sent, and with numbers that are kept
syn_goes_on : (old new : List KeptNumber) (said more : List TcpFields) (x : Syn) → KeepsAll old new
    → SynHolds old said x → SynHolds new (said ++ more) x
syn_goes_on old new said more x keeps h = record {
  opened = ap (has_client x.client) grown
      ∙ client_more x.client (clients_opened x.tuple said) (clients_opened x.tuple more) h.opened;
  status = by h.status;
}
  where
    grown : clients_opened x.tuple (said ++ more) ≡ clients_opened x.tuple said ++ clients_opened x.tuple more
    grown = (what_stands_goes_on said more x.tuple x.client).clients

    by : HasNumber old x.tuple x.client x.number ⊎ (has_left x.client (clients_opened x.tuple said) ≡ true)
        → HasNumber new x.tuple x.client x.number
        ⊎ (has_left x.client (clients_opened x.tuple (said ++ more)) ≡ true)
    by (inl k) = inl (keeps x.tuple x.client x.number k)
    by (inr l) =
        inr (ap (has_left x.client) grown
        ∙ left_more x.client (clients_opened x.tuple said) (clients_opened x.tuple more) l)

pub shown_goes_on : (old new : List KeptNumber) (said now : List TcpFields) (shown : List Syn) → IsFrontOf said now
    → KeepsAll old new → AllShown old said shown → AllShown new now shown
shown_goes_on old new said now shown front keeps h =
    subst (λ (frames : List TcpFields). AllShown new frames shown) (sym front.1) (record {
      holds = All-weaker (SynHolds old said) (SynHolds new (said ++ front.0))
          (λ (x : Syn) (g : SynHolds old said x). syn_goes_on old new said front.0 x keeps g) shown h.holds;
      one = shows_on said (said ++ front.0) front.0 shown refl h.one;
    })

-- MORE SYNS, each of which was shown before or is of the client that is current
abbrev pub IsOldOrNew : List KeptNumber → List TcpFields → List Syn → Syn → Type 0
IsOldOrNew numbers said shown x = Contains shown x ⊎ IsNew numbers said x

pub more_shown : (numbers : List KeptNumber) (said : List TcpFields) (shown new : List Syn)
    → AllShown numbers said shown → All (IsOldOrNew numbers said shown) new → AllShown numbers said (shown ++ new)
more_shown numbers said shown new h fresh = record {
  holds = All-append (SynHolds numbers said) shown new h.holds
      (All-weaker Either (SynHolds numbers said) holds_of new fresh);
  one = All-weaker Either (λ (x : Syn). All (λ (y : Syn). IsTrue (same_number_shown said x y)) (shown ++ new))
      (λ (x : Syn) (e : Either x).
      All-weaker Either (λ (y : Syn). IsTrue (same_number_shown said x y)) (λ (y : Syn) (f : Either y). pair x y e f)
      (shown ++ new) each)
      (shown ++ new) each;
}
  where
    Either : Syn → Type 0
    Either x = Contains shown x ⊎ IsNew numbers said x

    each : All Either (shown ++ new)
    each =
        All-append Either shown new
        (All-weaker (Contains shown) Either (λ (x : Syn) (c : Contains shown x). inl c) shown
        (All-contains_itself shown))
        fresh

    holds_of : (x : Syn) → Either x → SynHolds numbers said x
    holds_of x (inl c) = All-contains (SynHolds numbers said) shown x h.holds c
    holds_of x (inr f) = f.holds

    pair : (x y : Syn) → Either x → Either y → IsTrue (same_number_shown said x y)
    pair x y (inr f) e = pair_shows numbers said x y f.holds (holds_of y e) (inl f.current)
    pair x y (inl c) (inr f) = pair_shows numbers said x y (holds_of x (inl c)) f.holds (inr f.current)
    pair x y (inl c) (inl d) =
        All-contains (λ (w : Syn). IsTrue (same_number_shown said x w)) shown y
        (All-contains (λ (v : Syn). All (λ (w : Syn). IsTrue (same_number_shown said v w)) shown) shown x h.one c) d

-- WHAT THE LAWS SAY of it
pub as_shown : (numbers : List KeptNumber) (said : List TcpFields) (shown : List Syn) → AllShown numbers said shown
    → GoesOnShowing numbers said shown
as_shown numbers said shown h = record {
  kept = λ k d l. as_test numbers said _ (h.holds k d l);
  one = h.one;
}
