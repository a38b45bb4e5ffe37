-- The SYNs that released frames show, in order.
use Rattle.std.proofs.Common.{◌≡◌, ℕ, ◌+◌, ◌<◌, ◌%◌, ◌^◌, Bool, true, false, if◌then◌else◌, List, [], ◌∷◌, ◌++◌, Option, None, Some, refl, sym, ap, subst, ◌∙◌, All, true≢false}
use Rattle.std.specs.List.{cons_option, filter_map}
use Rattle.std.specs.Option.{option_map}
use Rattle.std.proofs.lemmas.List.Elements.{All-append, All-cons, All-head, All-nil, All-tail, filter_map-append}
use Rattle.inet_frame.specs.Flags.{has_syn}
use Rattle.settle_rules.specs.Matching.{BothLines, agreed_ack, agreed_window}
use Rattle.settle_rules.specs.Release.{Released, ack_alone, data_flags, refusal_of, release_refusal, rst_ack, segment_at, syn_ack}
use Rattle.pair_theorem.specs.FrameParts.{Syn, syn_of, syn_shown_on, syn_with}
use Rattle.pair_theorem.specs.Past.{Past, Start}
use Rattle.pair_theorem.specs.Places.{Place, current_client, places_after, shown_number}
use Rattle.theorem_stands.proofs.KindLemmas.{IsOutOf, answers, opens, refuses, resets, tells}
use Rattle.theorem_stands.proofs.PlainLemmas.{known_as, syn_number}
use Rattle.theorem_symbols.proofs.NumberShown.{never_syn}
use Rattle.theorem_symbols.proofs.PlaceLemmas.{places_append}

-- the SYNs of frames that are released after others
abbrev pub news : Start → Past → List Released → List Released → List Syn
news a past released out = filter_map syn_of (places_after a past released out)

pub news_append : (a : Start) (past : Past) (released xs ys : List Released)
    → news a past released (xs ++ ys) ≡ news a past released xs ++ news a past (released ++ xs) ys
news_append a past released xs ys =
    ap (filter_map syn_of) (places_append a past released xs ys)
    ∙ filter_map-append syn_of (places_after a past released xs) (places_after a past (released ++ xs) ys)

-- A PLACE WITH A SYN
pub record SynFacts (p : Place) (x : Syn) : Type 0 where
  pub flag : has_syn p.segment.flags ≡ true
  pub client : p.client ≡ Some x.client
  pub tuple : p.segment.tuple ≡ x.tuple
  pub number : p.segment.seq ≡ x.number

pub syn_facts : (p : Place) (x : Syn) → syn_of p ≡ Some x → SynFacts p x
syn_facts p x e = by p.client refl e
  where
    made : ℕ → Syn
    made client = record { tuple = p.segment.tuple; client = client; number = p.segment.seq }

    same : (y z : Syn) → Some y ≡ Some z → y ≡ z
    same y z g = cc

    with_flag : (client : ℕ) → p.client ≡ Some client → (has : Bool) → has_syn p.segment.flags ≡ has
        → (if has then Some (made client) else None) ≡ Some x → SynFacts p x
    with_flag client f false has g = absurd (cc g)
    with_flag client f true has g =
        let is = same (made client) x g in
        record {
          flag = has;
          client = f ∙ ap (λ (y : Syn). Some y.client) is;
          tuple = ap (λ (y : Syn). y.tuple) is;
          number = ap (λ (y : Syn). y.number) is;
        }

    by : (c : Option ℕ) → p.client ≡ c → syn_with p c ≡ Some x → SynFacts p x
    by None f g = absurd (cc g)
    by (Some client) f g = with_flag client f (has_syn p.segment.flags) refl g

pub all_found : {X Y : Type 0} (P : Y → Type 0) (f : X → Option Y) (xs : List X)
    → All (λ (x : X). (y : Y) → f x ≡ Some y → P y) xs → All P (filter_map f xs)
all_found P f [] h = All-nil P
all_found {X} {Y} P f (x ∷ xs) h =
    by (f x) refl (all_found P f xs (All-tail (λ (z : X). (y : Y) → f z ≡ Some y → P y) x xs h))
  where
    by : (o : Option Y) → f x ≡ o → All P (filter_map f xs) → All P (cons_option o (filter_map f xs))
    by None e rest = rest
    by (Some y) e rest =
        All-cons P y (filter_map f xs) (All-head (λ (z : X). (w : Y) → f z ≡ Some w → P w) x xs h y e) rest

-- ONE CONNECTION shows the SYN of its current opening alone
abbrev pub shown_by : BothLines → ℕ → Syn
shown_by b client = syn_shown_on b.tuple (known_as b client)

shows_this : (b : BothLines) (client : ℕ) (p : Place) (x : Syn) → b.number < 2 ^ 32 → p.client ≡ Some client
    → p.segment.tuple ≡ b.tuple → p.segment.seq ≡ (b.number + 0) % 2 ^ 32 → syn_of p ≡ Some x
    → x ≡ shown_by b client
shows_this b client p x small now tuple number e =
    let f = syn_facts p x e in
    let client_is : x.client ≡ client = same x.client client (sym f.client ∙ now) in
    let tuple_is = sym f.tuple ∙ tuple in
    let number_is = sym f.number ∙ (number ∙ syn_number b small) in
    λ i. record { tuple = tuple_is i; client = client_is i; number = number_is i }
  where
    same : (m n : ℕ) → Some m ≡ Some n → m ≡ n
    same m n g = cc

no_syn_shown : (P : Syn → Type 0) (p : Place) (x : Syn) → has_syn p.segment.flags ≡ false → syn_of p ≡ Some x → P x
no_syn_shown P p x none e = absurd (true≢false (sym (syn_facts p x e).flag ∙ none))

-- the place of a segment of the connection
abbrev out_place : Start → Past → List Released → BothLines → ℕ → ℕ → Option ℕ → List ℕ → Place
out_place a past released b offset flags mss payload = record {
  client = current_client past b.tuple;
  number = shown_number a b.tuple (released ++ segment_at b offset flags mss payload ∷ []);
  segment = record {
    dst_mac = b.mine.mac;
    tuple = b.tuple;
    seq = (b.number + offset) % 2 ^ 32;
    ack = agreed_ack b;
    flags = flags;
    window = agreed_window b;
    mss = mss;
  };
  payload = payload;
}

abbrev refusal_place : Start → Past → List Released → BothLines → ℕ → Place
refusal_place a past released b c = record {
  client = current_client past b.tuple;
  number = shown_number a b.tuple (released ++ refusal_of b c ∷ []);
  segment = record {
    dst_mac = b.mine.mac;
    tuple = b.tuple;
    seq = 0;
    ack = (c + 1) % 2 ^ 32;
    flags = rst_ack;
    window = 0;
    mss = None;
  };
  payload = [];
}

one_news : (a : Start) (past : Past) (released : List Released) (b : BothLines) (client : ℕ) (r : Released)
    → b.number < 2 ^ 32 → current_client past b.tuple ≡ Some client → IsOutOf b r
    → All (λ (x : Syn). x ≡ shown_by b client) (news a past released (r ∷ []))
unfolding places_after
one_news a past released b client r small now out = all_found P syn_of _ (by r out)
  where
    P : Syn → Type 0
    P x = x ≡ shown_by b client

    Q : Place → Type 0
    Q p = (x : Syn) → syn_of p ≡ Some x → P x

    by : (s : Released) → IsOutOf b s → All Q (places_after a past released (s ∷ []))
    by s (opens mss part) =
        let p = out_place a past released b 0 syn_ack mss [] in
        All-cons Q p [] (λ x e. shows_this b client p x small now refl refl e) (All-nil Q)
    by s (tells offset payload ends fin_is some part) =
        let p = out_place a past released b offset (data_flags payload ends) None payload in
        All-cons Q p [] (λ x e. no_syn_shown P p x (never_syn payload ends) e) (All-nil Q)
    by s (answers offset) =
        let p = out_place a past released b offset ack_alone None [] in
        All-cons Q p [] (λ x e. no_syn_shown P p x refl e) (All-nil Q)
    by s (resets offset reset) =
        let p = out_place a past released b offset rst_ack None [] in
        All-cons Q p [] (λ x e. no_syn_shown P p x refl e) (All-nil Q)
    by s (refuses c e) =
        let p = refusal_place a past released b c in All-cons Q p [] (λ x f. no_syn_shown P p x refl f) (All-nil Q)

pub all_news : (a : Start) (past : Past) (released : List Released) (b : BothLines) (client : ℕ)
    (out : List Released) → b.number < 2 ^ 32 → current_client past b.tuple ≡ Some client → All (IsOutOf b) out
    → All (λ (x : Syn). x ≡ shown_by b client) (news a past released out)
unfolding places_after
all_news a past released b client [] small now kinds = All-nil (λ (x : Syn). x ≡ shown_by b client)
all_news a past released b client (r ∷ out) small now kinds =
    let P : Syn → Type 0 = λ x. x ≡ shown_by b client in
    subst (All P) (sym (news_append a past released (r ∷ []) out))
    (All-append P (news a past released (r ∷ [])) (news a past (released ++ r ∷ []) out)
    (one_news a past released b client r small now (All-head (IsOutOf b) r out kinds))
    (all_news a past (released ++ r ∷ []) b client out small now (All-tail (IsOutOf b) r out kinds)))

-- a SYN that goes out first
pub first_news : (a : Start) (past : Past) (released : List Released) (b : BothLines) (client : ℕ) (mss : Option ℕ)
    (rest : List Released) → b.number < 2 ^ 32 → current_client past b.tuple ≡ Some client
    → news a past released (segment_at b 0 syn_ack mss [] ∷ rest)
    ≡ shown_by b client ∷ news a past (released ++ segment_at b 0 syn_ack mss [] ∷ []) rest
unfolding places_after
first_news a past released b client mss rest small now =
    let later = news a past (released ++ segment_at b 0 syn_ack mss [] ∷ []) rest in
    let made : ℕ → ℕ → Syn = λ c n. (record { tuple = b.tuple; client = c; number = n }) in
    let with_client : Option ℕ → Option Syn = λ o. option_map (λ c. made c ((b.number + 0) % 2 ^ 32)) o in
    ap (λ (o : Option Syn). cons_option o later)
    (as_client (current_client past b.tuple)
    ∙ (ap with_client now ∙ ap (λ n. Some (made client n)) (syn_number b small)))
  where
    p : Place
    p = out_place a past released b 0 syn_ack mss []

    as_client : (o : Option ℕ) → syn_with p o
        ≡ option_map (λ (c : ℕ). (record { tuple = b.tuple; client = c; number = (b.number + 0) % 2 ^ 32 })) o
    as_client None = refl
    as_client (Some c) = refl

-- a refusal shows none
pub refusal_news : (a : Start) (past : Past) (released : List Released) (b : BothLines) (o : Option ℕ) (due : Bool)
    → news a past released (release_refusal b o due) ≡ []
unfolding places_after
refusal_news a past released b None due = refl
refusal_news a past released b (Some c) false = refl
refusal_news a past released b (Some c) true = by (current_client past b.tuple)
  where
    p : Place
    p = refusal_place a past released b c

    by : (now : Option ℕ) → cons_option (syn_with p now) [] ≡ []
    by None = refl
    by (Some client) = refl
