-- A SYN that goes out of a connection has the number that is kept for its client.
use Rattle.std.proofs.Common.{◌≡◌, ℕ, ◌<◌, ◌^◌, Bool, true, false, List, [], ◌∷◌, ◌++◌, Option, None, Some, is_some, refl, sym, subst, ◌∙◌, All, true≢false}
use Rattle.std.proofs.lemmas.List.Elements.{All-append, All-cons, All-head, All-nil, All-tail}
use Rattle.inet_frame.specs.Flags.{has_syn}
use Rattle.inet_frame.specs.declared.tuple.Tuple.{Tuple}
use Rattle.settle_rules.specs.Matching.{BothLines}
use Rattle.settle_rules.specs.Numbers.{KeptNumber, kept_number, number_or_zero}
use Rattle.settle_rules.specs.Release.{Released, release_refusal}
use Rattle.pair_theorem.specs.Past.{Past, Start}
use Rattle.pair_theorem.specs.Places.{Place, current_client, places_after}
use Rattle.theorem_stands.proofs.KindLemmas.{IsOutOf, answers, opens, refuses, resets, tells}
use Rattle.theorem_stands.proofs.KeptLemmas.{number_for}
use Rattle.theorem_stands.proofs.PlainLemmas.{syn_number}
use Rattle.theorem_symbols.proofs.NumberShown.{never_syn}
use Rattle.theorem_symbols.proofs.PlaceLemmas.{places_append}

-- this number is kept for a client of a tuple
pub record HasNumber (numbers : List KeptNumber) (t : Tuple) (client number : ℕ) : Type 0 where
  pub kept : KeptNumber
  pub found : kept_number t client numbers ≡ Some kept
  pub number_is : kept.number ≡ number

abbrev pub SynIsKept : List KeptNumber → Place → Type 0
SynIsKept numbers p =
    has_syn p.segment.flags ≡ true → (client : ℕ) → p.client ≡ Some client
    → HasNumber numbers p.segment.tuple client p.segment.seq

pub has_number : (numbers : List KeptNumber) (t : Tuple) (client number : ℕ) →
    is_some (kept_number t client numbers) ≡ true → number_for t client numbers ≡ number →
    HasNumber numbers t client number
has_number numbers t client number some is = by (kept_number t client numbers) refl some is
  where
    by : (o : Option KeptNumber) → kept_number t client numbers ≡ o → is_some o ≡ true → number_or_zero o ≡ number →
        HasNumber numbers t client number
    by None e f g = absurd (true≢false (sym f))
    by (Some k) e f g = record { kept = k; found = e; number_is = g }

-- what is kept of a connection's current client
abbrev pub KeepsCurrent : Past → List KeptNumber → BothLines → Type 0
KeepsCurrent past numbers b =
    (client : ℕ) → current_client past b.tuple ≡ Some client → HasNumber numbers b.tuple client b.number

one_kept : (a : Start) (past : Past) (released : List Released) (numbers : List KeptNumber) (b : BothLines)
    (r : Released) → b.number < 2 ^ 32 → KeepsCurrent past numbers b → IsOutOf b r →
    All (SynIsKept numbers) (places_after a past released (r ∷ []))
unfolding places_after
one_kept a past released numbers b r small keeps (opens mss part) =
    All-cons (SynIsKept numbers) _ []
    (λ has client e. subst (HasNumber numbers b.tuple client) (sym (syn_number b small)) (keeps client e))
    (All-nil (SynIsKept numbers))
one_kept a past released numbers b r small keeps (tells offset payload ends fin_is some part) =
    All-cons (SynIsKept numbers) _ [] (λ has client e. absurd (true≢false (sym has ∙ never_syn payload ends)))
    (All-nil (SynIsKept numbers))
one_kept a past released numbers b r small keeps (answers offset) =
    All-cons (SynIsKept numbers) _ [] (λ has client e. absurd (true≢false (sym has))) (All-nil (SynIsKept numbers))
one_kept a past released numbers b r small keeps (resets offset reset) =
    All-cons (SynIsKept numbers) _ [] (λ has client e. absurd (true≢false (sym has))) (All-nil (SynIsKept numbers))
one_kept a past released numbers b r small keeps (refuses c e) =
    All-cons (SynIsKept numbers) _ [] (λ has client f. absurd (true≢false (sym has))) (All-nil (SynIsKept numbers))

pub kept_append : (a : Start) (past : Past) (numbers : List KeptNumber) (released xs ys : List Released) →
    All (SynIsKept numbers) (places_after a past released xs) →
    All (SynIsKept numbers) (places_after a past (released ++ xs) ys) →
    All (SynIsKept numbers) (places_after a past released (xs ++ ys))
kept_append a past numbers released xs ys h g =
    subst (All (SynIsKept numbers)) (sym (places_append a past released xs ys))
    (All-append (SynIsKept numbers) (places_after a past released xs) (places_after a past (released ++ xs) ys) h g)

pub all_kept : (a : Start) (past : Past) (released : List Released) (numbers : List KeptNumber) (b : BothLines)
    (out : List Released) → b.number < 2 ^ 32 → KeepsCurrent past numbers b → All (IsOutOf b) out →
    All (SynIsKept numbers) (places_after a past released out)
unfolding places_after
all_kept a past released numbers b [] small keeps kinds = All-nil (SynIsKept numbers)
all_kept a past released numbers b (r ∷ out) small keeps kinds =
    kept_append a past numbers released (r ∷ []) out
    (one_kept a past released numbers b r small keeps (All-head (IsOutOf b) r out kinds))
    (all_kept a past (released ++ r ∷ []) numbers b out small keeps (All-tail (IsOutOf b) r out kinds))

-- a refusal has no SYN
pub refusal_kept : (a : Start) (past : Past) (released : List Released) (numbers : List KeptNumber) (b : BothLines)
    (o : Option ℕ) (due : Bool) → All (SynIsKept numbers) (places_after a past released (release_refusal b o due))
unfolding places_after
refusal_kept a past released numbers b None due = All-nil (SynIsKept numbers)
refusal_kept a past released numbers b (Some c) false = All-nil (SynIsKept numbers)
refusal_kept a past released numbers b (Some c) true =
    All-cons (SynIsKept numbers) _ [] (λ has client e. absurd (true≢false (sym has))) (All-nil (SynIsKept numbers))
