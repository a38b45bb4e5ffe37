-- A place where a connection releases stands in what was sent, where its line does.
use Rattle.std.proofs.Common.{◌≡◌, inl, inr, ℕ, ◌+◌, ◌-◌, ◌<◌, ◌≤◌, ◌%◌, ◌^◌, ◌==◌, Bool, true, false, not, ◌&&◌, ◌||◌, nat_lt, min, if◌then◌else◌, List, [], ◌∷◌, ◌++◌, append-nil, append_assoc, length, map, fold, slice_get, Option, None, Some, refl, sym, ap, subst, ◌∙◌, All, arith}
use Rattle.std.specs.Prelude.{IsTrue}
use Rattle.std.proofs.Math.Bool.{or-true}
use Rattle.std.proofs.lemmas.Bool.{le-ltb, lt-ltb}
use Rattle.std.proofs.lemmas.Grind.{fold-append}
use Rattle.std.proofs.lemmas.List.Elements.{All-append, All-cons, All-head, All-nil, All-tail}
use Rattle.inet_frame.specs.Fields.{TcpFields}
use Rattle.inet_frame.specs.Flags.{has_fin, has_rst}
use Rattle.inet_frame.specs.declared.tuple.Tuple.{Tuple}
use Rattle.inet_build.specs.Segment.{fields_of}
use Rattle.inet_build.specs.declared.fields.Segment.{Segment}
use Rattle.tcp_track.specs.Offsets.{distance}
use Rattle.tcp_track.specs.Segments.{Symbol, byte, fin_if, is_near, start_of, symbol_in, symbols_in, syn, syn_if}
use Rattle.tcp_track.specs.Stands.{RefusalStands, ResetStands, Stands, acked_in}
use Rattle.tcp_track.specs.declared.offsets.TheConstants.{OFFSET_BOUND}
use Rattle.settle_rules.specs.Matching.{BothLines, agreed_ack, agreed_window, client_or_zero, smaller_acked, their_acked}
use Rattle.settle_rules.specs.Release.{Released, ack_alone, data_flags, refusal_of, release_refusal, rst_ack, segment_at, syn_ack, reply, tcp}
use Rattle.pair_theorem.specs.FrameParts.{IsStandingRefusal, PlaceAcks, PlaceStands, is_judged}
use Rattle.pair_theorem.specs.Past.{Past, Start}
use Rattle.pair_theorem.specs.Places as places
use Rattle.pair_theorem.specs.Places.{Place, current_client, places_after, shown_number}
use Rattle.theorem_frames.specs.Lines.{IsSound}
use Rattle.theorem_frames.proofs.CarryLemmas.{data_of, start_is}
use Rattle.theorem_stands.proofs.KindLemmas.{IsOutOf, IsPartOf, answers, opens, refuses, resets, tells}
use Rattle.theorem_symbols.proofs.NumberShown.{first_number_shown, never_syn, same_number_shown}
use Rattle.theorem_symbols.proofs.RightLemmas.{begins_near, told_symbol}

-- what is to be shown of a place
pub record PlaceRight (sent : List TcpFields) (p : Place) : Type 0 where
  pub stands : PlaceStands sent p
  pub acks : PlaceAcks sent p

-- the line of a connection that is opened by this client stands in what was sent
pub record LineStands (sent : List TcpFields) (b : BothLines) (client : ℕ) : Type 0 where
  pub client_is : client_or_zero b.mine.opening ≡ client
  pub small : client < 2 ^ 32
  pub symbol : (k : ℕ) (x : Symbol) → slice_get b.mine.symbols k ≡ Some x → Stands sent b.tuple client k x
  pub reset : b.mine.reset ≡ true → ResetStands sent b.tuple client
  pub acked : b.mine.acked ≤ acked_in sent b.tuple client

-- and so does what it refused
abbrev pub RefusedStands : List TcpFields → BothLines → Type 0
RefusedStands sent b = (client : ℕ) → b.mine.refused ≡ Some client → RefusalStands sent b.tuple client

abbrev segment_of : BothLines → ℕ → ℕ → Option ℕ → Segment
segment_of b offset flags mss = record {
  dst_mac = b.mine.mac;
  tuple = b.tuple;
  seq = (b.number + offset) % 2 ^ 32;
  ack = agreed_ack b;
  flags = flags;
  window = agreed_window b;
  mss = mss;
}

abbrev place_with : Option ℕ → Option ℕ → Segment → List ℕ → Place
place_with client number s payload =
    record { client = client; number = number; segment = s; payload = payload }

-- ACKNOWLEDGEMENTS
smaller_is : (b : BothLines) → smaller_acked b ≤ b.mine.acked
smaller_is b = by b.mine.acked (their_acked b)
  where
    by : (x y : ℕ) → min x y ≤ x
    by x y = omega arith

back_from : (client n : ℕ) → client < 2 ^ 32 → n < OFFSET_BOUND → distance client ((client + n) % 2 ^ 32) ≡ n
back_from client n small near = omega (arith, small, near)

ack_within : (sent : List TcpFields) (b : BothLines) (client : ℕ) → IsSound b.mine → LineStands sent b client →
    distance client (agreed_ack b) ≤ acked_in sent b.tuple client
ack_within sent b client sound h =
    let low = smaller_is b in
    let near : smaller_acked b < OFFSET_BOUND = omega (arith, low, sound.acked) in
    let is : distance client (agreed_ack b) ≡ smaller_acked b =
    ap (λ (c : ℕ). distance client ((c + smaller_acked b) % 2 ^ 32)) h.client_is
    ∙ back_from client (smaller_acked b) h.small near in
    omega (arith, is, low, h.acked)

-- A SEGMENT whose symbols stand, and whose reset does
segment_right : (sent : List TcpFields) (b : BothLines) (client offset flags : ℕ) (mss : Option ℕ)
    (payload : List ℕ) → IsSound b.mine → LineStands sent b client →
    IsTrue (is_judged (place_with (Some client) (Some b.number) (segment_of b offset flags mss) payload)) →
    ((o : ℕ) (x : Symbol) → symbol_in b.number (fields_of (segment_of b offset flags mss) payload) o ≡ Some x →
    Stands sent b.tuple client o x) → (has_rst flags ≡ true → ResetStands sent b.tuple client) →
    PlaceRight sent (place_with (Some client) (Some b.number) (segment_of b offset flags mss) payload)
segment_right sent b client offset flags mss payload sound h judged symbols reset = record {
  stands = record {
    judged = judged;
    stands = inr (record {
      client = client;
      number = b.number;
      client_is = refl;
      number_is = refl;
      symbols = symbols;
      reset = reset;
    });
  };
  acks = inr (record { client = client; client_is = refl; within = ack_within sent b client sound h });
}

-- a segment that carries nothing
carries_nothing : (P : Type 0) (own : ℕ) (s : TcpFields) (o : ℕ) (x : Symbol) → symbols_in own s ≡ [] →
    symbol_in own s o ≡ Some x → P
carries_nothing P own s o x none e =
    by (nat_lt o (start_of own s))
    (sym (ap (λ (xs : List Symbol). if nat_lt o (start_of own s) then None
    else slice_get xs (o - start_of own s)) none) ∙ e)
  where
    by : (early : Bool) → (if early then None else slice_get [] (o - start_of own s)) ≡ Some x → P
    by true g = absurd (cc g)
    by false g = absurd (cc g)

syn_stands : (sent : List TcpFields) (b : BothLines) (client : ℕ) (mss : Option ℕ) (o : ℕ) (x : Symbol) →
    b.number < 2 ^ 32 → LineStands sent b client → IsPartOf b.mine.symbols 0 (syn ∷ []) →
    symbol_in b.number (fields_of (segment_of b 0 syn_ack mss) []) o ≡ Some x → Stands sent b.tuple client o x
unfolding symbols_in
syn_stands sent b client mss o x small h part e =
    let start : distance b.number ((b.number + 0) % 2 ^ 32) ≡ 0 = omega (arith, small) in
    let late : nat_lt o 0 ≡ false = le-ltb o 0 (omega arith) in
    let back : o - 0 ≡ o = omega arith in
    let here : 0 + o ≡ o = omega arith in
    let has = (b.number + 0) % 2 ^ 32 == b.number in
    let found : slice_get (syn_if has) o ≡ Some x =
    sym ((λ i. if nat_lt o (start i) then None else slice_get (syn_if has) (o - start i))
    ∙ (λ i. if late i then None else slice_get (syn_if has) (back i))) ∙ e in
    h.symbol o x (subst (λ (n : ℕ). slice_get b.mine.symbols n ≡ Some x) here (part.each o x (by has found)))
  where
    by : (has : Bool) → slice_get (syn_if has) o ≡ Some x → slice_get (syn ∷ []) o ≡ Some x
    by true g = g
    by false g = absurd (cc g)

syn_right : (sent : List TcpFields) (b : BothLines) (client : ℕ) (mss : Option ℕ) → b.number < 2 ^ 32 →
    IsSound b.mine → LineStands sent b client → IsPartOf b.mine.symbols 0 (syn ∷ []) →
    PlaceRight sent (place_with (Some client) (Some b.number) (segment_of b 0 syn_ack mss) [])
unfolding is_judged
syn_right sent b client mss small sound h part =
    segment_right sent b client 0 syn_ack mss [] sound h refl
    (λ o x e. syn_stands sent b client mss o x small h part e) (λ e. absurd (cc e))

-- DATA
never_rst : (payload : List ℕ) (ends : Bool) → has_rst (data_flags payload ends) ≡ false
never_rst [] ends = refl
never_rst (x ∷ xs) true = refl
never_rst (x ∷ xs) false = refl

data_judged : (b : BothLines) (client : Option ℕ) (offset : ℕ) (payload : List ℕ) (ends : Bool) →
    b.number < 2 ^ 32 → has_fin (data_flags payload ends) ≡ ends →
    offset + length (data_of payload ends) < OFFSET_BOUND →
    is_judged (place_with client (Some b.number) (segment_of b offset (data_flags payload ends) None) payload) ≡ true
unfolding is_judged is_near
data_judged b client offset payload ends small fin_is near =
    let flags = data_flags payload ends in
    let s = fields_of (segment_of b offset flags None) payload in
    let at = start_is b.number offset s small (omega (arith, near)) refl in
    let is : is_near b.number s ≡ true =
    (λ i. nat_lt (at i + length (map byte payload ++ fin_if (fin_is i))) OFFSET_BOUND)
    ∙ lt-ltb (offset + length (data_of payload ends)) OFFSET_BOUND near in
    (λ i. length payload == 0 && not (has_fin flags)
    || (not (never_syn payload ends i) && (not (never_rst payload ends i) && is i)))
    ∙ or-true (length payload == 0 && not (has_fin flags))

data_stands : (sent : List TcpFields) (b : BothLines) (client offset : ℕ) (payload : List ℕ) (ends : Bool)
    (o : ℕ) (x : Symbol) → b.number < 2 ^ 32 → LineStands sent b client →
    has_fin (data_flags payload ends) ≡ ends → offset < OFFSET_BOUND →
    IsPartOf b.mine.symbols offset (data_of payload ends) →
    symbol_in b.number (fields_of (segment_of b offset (data_flags payload ends) None) payload) o ≡ Some x →
    Stands sent b.tuple client o x
data_stands sent b client offset payload ends o x small h fin_is near part e =
    let s = fields_of (segment_of b offset (data_flags payload ends) None) payload in
    let told =
    told_symbol b.number offset s o x small near refl (never_rst payload ends) (never_syn payload ends) e in
    let inside : slice_get (data_of payload ends) (o - offset) ≡ Some x =
    sym (ap (λ (has : Bool). slice_get (map byte payload ++ fin_if has) (o - offset)) fin_is) ∙ told.1 in
    h.symbol o x (subst (λ (n : ℕ). slice_get b.mine.symbols n ≡ Some x) told.0 (part.each (o - offset) x inside))

data_right : (sent : List TcpFields) (b : BothLines) (client offset : ℕ) (payload : List ℕ) (ends : Bool) →
    b.number < 2 ^ 32 → IsSound b.mine → LineStands sent b client → has_fin (data_flags payload ends) ≡ ends →
    0 < length (data_of payload ends) → IsPartOf b.mine.symbols offset (data_of payload ends) →
    PlaceRight sent (place_with (Some client) (Some b.number)
    (segment_of b offset (data_flags payload ends) None) payload)
data_right sent b client offset payload ends small sound h fin_is some part =
    let near = begins_near b.mine.symbols (data_of payload ends) offset sound.near some part in
    segment_right sent b client offset (data_flags payload ends) None payload sound h
    (data_judged b (Some client) offset payload ends small fin_is near)
    (λ o x e. data_stands sent b client offset payload ends o x small h fin_is (omega (arith, near)) part e)
    (λ e. absurd (cc (sym e ∙ never_rst payload ends)))

-- AN ACKNOWLEDGEMENT ALONE, A RESET
bare_right : (sent : List TcpFields) (b : BothLines) (client offset : ℕ) → IsSound b.mine →
    LineStands sent b client →
    PlaceRight sent (place_with (Some client) (Some b.number) (segment_of b offset ack_alone None) [])
unfolding is_judged symbols_in
bare_right sent b client offset sound h =
    let s = fields_of (segment_of b offset ack_alone None) [] in
    segment_right sent b client offset ack_alone None [] sound h refl
    (λ o x e. carries_nothing (Stands sent b.tuple client o x) b.number s o x (none (is_near b.number s)) e)
    (λ e. absurd (cc e))
  where
    none : (near : Bool) → (if near then (let xs : List Symbol = [] in xs) else []) ≡ []
    none true = refl
    none false = refl

reset_right : (sent : List TcpFields) (b : BothLines) (client offset : ℕ) → IsSound b.mine →
    LineStands sent b client → b.mine.reset ≡ true →
    PlaceRight sent (place_with (Some client) (Some b.number) (segment_of b offset rst_ack None) [])
unfolding is_judged symbols_in
reset_right sent b client offset sound h reset =
    let s = fields_of (segment_of b offset rst_ack None) [] in
    segment_right sent b client offset rst_ack None [] sound h refl
    (λ o x e. carries_nothing (Stands sent b.tuple client o x) b.number s o x refl e) (λ e. h.reset reset)

-- A REFUSAL
refused_small : (sent : List TcpFields) (t : Tuple) (client : ℕ) → RefusalStands sent t client → client < 2 ^ 32
refused_small sent t client h =
    let names : distance 1 h.carrier.ack ≡ client = h.names in omega (arith, names)

back_one : (client : ℕ) → client < 2 ^ 32 → distance 1 ((client + 1) % 2 ^ 32) ≡ client
back_one client small = omega (arith, small)

abbrev refusing : BothLines → ℕ → Segment
refusing b client = record {
  dst_mac = b.mine.mac;
  tuple = b.tuple;
  seq = 0;
  ack = (client + 1) % 2 ^ 32;
  flags = rst_ack;
  window = 0;
  mss = None;
}

refusal_right : (sent : List TcpFields) (b : BothLines) (client : ℕ) (now number : Option ℕ) →
    RefusalStands sent b.tuple client → PlaceRight sent (place_with now number (refusing b client) [])
unfolding is_judged
refusal_right sent b client now number h =
    let standing : IsStandingRefusal sent (refusing b client) = record {
      is_reset = refl;
      at_zero = refl;
      refused = subst (λ (c : ℕ). RefusalStands sent b.tuple c)
          (sym (back_one client (refused_small sent b.tuple client h))) h;
    } in
    record { stands = record { judged = refl; stands = inl standing }; acks = inl standing }

-- PLACES
placed : (sent : List TcpFields) (client number now shown : Option ℕ) (s : Segment) (payload : List ℕ) →
    now ≡ client → shown ≡ number → PlaceRight sent (place_with client number s payload) →
    All (PlaceRight sent) (place_with now shown s payload ∷ [])
placed sent client number now shown s payload e f h =
    All-cons (PlaceRight sent) (place_with now shown s payload) []
    (subst (λ (c : Option ℕ). PlaceRight sent (place_with c shown s payload)) (sym e)
    (subst (λ (n : Option ℕ). PlaceRight sent (place_with client n s payload)) (sym f) h))
    (All-nil (PlaceRight sent))

-- one segment out of a connection, under the number that is shown with it
one_right : (a : Start) (past : Past) (released : List Released) (sent : List TcpFields) (b : BothLines)
    (client : ℕ) (r : Released) → b.number < 2 ^ 32 → IsSound b.mine → LineStands sent b client →
    RefusedStands sent b → current_client past b.tuple ≡ Some client →
    shown_number a b.tuple (released ++ r ∷ []) ≡ Some b.number → IsOutOf b r →
    All (PlaceRight sent) (places_after a past released (r ∷ []))
unfolding places_after
one_right a past released sent b client r small sound h refused now shown (opens mss part) =
    placed sent (Some client) (Some b.number) (current_client past b.tuple)
    (shown_number a b.tuple (released ++ r ∷ []))
    (segment_of b 0 syn_ack mss) [] now shown (syn_right sent b client mss small sound h part)
one_right a past released sent b client r small sound h refused now shown (tells offset payload ends fin_is some part) =
    placed sent (Some client) (Some b.number) (current_client past b.tuple)
    (shown_number a b.tuple (released ++ r ∷ []))
    (segment_of b offset (data_flags payload ends) None) payload now shown
    (data_right sent b client offset payload ends small sound h fin_is some part)
one_right a past released sent b client r small sound h refused now shown (answers offset) =
    placed sent (Some client) (Some b.number) (current_client past b.tuple)
    (shown_number a b.tuple (released ++ r ∷ []))
    (segment_of b offset ack_alone None) [] now shown (bare_right sent b client offset sound h)
one_right a past released sent b client r small sound h refused now shown (resets offset reset) =
    placed sent (Some client) (Some b.number) (current_client past b.tuple)
    (shown_number a b.tuple (released ++ r ∷ []))
    (segment_of b offset rst_ack None) [] now shown (reset_right sent b client offset sound h reset)
one_right a past released sent b client r small sound h refused now shown (refuses c e) =
    placed sent (current_client past b.tuple) (shown_number a b.tuple (released ++ r ∷ []))
    (current_client past b.tuple) (shown_number a b.tuple (released ++ r ∷ [])) (refusing b c) [] refl refl
    (refusal_right sent b c (current_client past b.tuple) (shown_number a b.tuple (released ++ r ∷ [])) (refused c e))

pub places_append : (a : Start) (past : Past) (released xs ys : List Released) →
    places_after a past released (xs ++ ys) ≡ places_after a past released xs ++ places_after a past (released ++ xs) ys
unfolding places_after
places_append a past released [] ys =
    ap (λ (rs : List Released). places_after a past rs ys) (sym (append-nil released))
places_append a past released (reply bytes ∷ xs) ys =
    places_append a past (released ++ reply bytes ∷ []) xs ys
    ∙ ap (λ (rs : List Released). places_after a past (released ++ reply bytes ∷ []) xs ++ places_after a past rs ys)
    (append_assoc released (reply bytes ∷ []) xs)
places_append a past released (tcp s payload ∷ xs) ys =
    let p =
    place_with (current_client past s.tuple) (shown_number a s.tuple (released ++ tcp s payload ∷ [])) s payload in
    ap (λ (ps : List Place). p ∷ ps)
    (places_append a past (released ++ tcp s payload ∷ []) xs ys
    ∙ ap (λ (rs : List Released). places_after a past (released ++ tcp s payload ∷ []) xs ++ places_after a past rs ys)
    (append_assoc released (tcp s payload ∷ []) xs))

-- two lists of releases, one after the other
pub right_append : (a : Start) (past : Past) (sent : List TcpFields) (released xs ys : List Released) →
    All (PlaceRight sent) (places_after a past released xs) →
    All (PlaceRight sent) (places_after a past (released ++ xs) ys) →
    All (PlaceRight sent) (places_after a past released (xs ++ ys))
right_append a past sent released xs ys h g =
    subst (All (PlaceRight sent)) (sym (places_append a past released xs ys))
    (All-append (PlaceRight sent) (places_after a past released xs) (places_after a past (released ++ xs) ys) h g)

number_next : (a : Start) (t : Tuple) (released : List Released) (r : Released) →
    shown_number a t (released ++ r ∷ []) ≡ places.shown_after t (shown_number a t released) r
number_next a t released r =
    fold-append (places.shown_after t) (places.number_at_start a.progress t) released (r ∷ [])

pub number_after : (a : Start) (t : Tuple) (released out : List Released) →
    shown_number a t (released ++ out) ≡ fold (places.shown_after t) (shown_number a t released) out
number_after a t released out =
    fold-append (places.shown_after t) (places.number_at_start a.progress t) released out

-- ALL THAT GOES OUT of a connection after its SYN
pub all_right : (a : Start) (past : Past) (released : List Released) (sent : List TcpFields) (b : BothLines)
    (client : ℕ) (out : List Released) → b.number < 2 ^ 32 → IsSound b.mine → LineStands sent b client →
    RefusedStands sent b → current_client past b.tuple ≡ Some client →
    shown_number a b.tuple released ≡ Some b.number → All (IsOutOf b) out →
    All (PlaceRight sent) (places_after a past released out)
unfolding places_after
all_right a past released sent b client [] small sound h refused now shown kinds = All-nil (PlaceRight sent)
all_right a past released sent b client (r ∷ out) small sound h refused now shown kinds =
    let here = All-head (IsOutOf b) r out kinds in
    let next =
    number_next a b.tuple released r
    ∙ (ap (λ (n : Option ℕ). places.shown_after b.tuple n r) shown ∙ same_number_shown b r small here) in
    right_append a past sent released (r ∷ []) out
    (one_right a past released sent b client r small sound h refused now next here)
    (all_right a past (released ++ r ∷ []) sent b client out small sound h refused now next
    (All-tail (IsOutOf b) r out kinds))

-- and with its SYN first
pub first_right : (a : Start) (past : Past) (released : List Released) (sent : List TcpFields) (b : BothLines)
    (client : ℕ) (mss : Option ℕ) (rest : List Released) → b.number < 2 ^ 32 → IsSound b.mine →
    LineStands sent b client → RefusedStands sent b → current_client past b.tuple ≡ Some client →
    All (IsOutOf b) (segment_at b 0 syn_ack mss [] ∷ rest) →
    All (PlaceRight sent) (places_after a past released (segment_at b 0 syn_ack mss [] ∷ rest))
first_right a past released sent b client mss rest small sound h refused now kinds =
    let r = segment_at b 0 syn_ack mss [] in
    let next =
    number_next a b.tuple released r ∙ first_number_shown b mss (shown_number a b.tuple released) small in
    right_append a past sent released (r ∷ []) rest
    (one_right a past released sent b client r small sound h refused now next (All-head (IsOutOf b) r rest kinds))
    (all_right a past (released ++ r ∷ []) sent b client rest small sound h refused now next
    (All-tail (IsOutOf b) r rest kinds))

-- a refusal needs no opening
pub refused_right : (a : Start) (past : Past) (released : List Released) (sent : List TcpFields) (b : BothLines)
    (due : Bool) → RefusedStands sent b →
    All (PlaceRight sent) (places_after a past released (release_refusal b b.mine.refused due))
unfolding places_after
refused_right a past released sent b due refused = by b.mine.refused refl due
  where
    by : (o : Option ℕ) → b.mine.refused ≡ o → (d : Bool) →
        All (PlaceRight sent) (places_after a past released (release_refusal b o d))
    by None e d = All-nil (PlaceRight sent)
    by (Some c) e false = All-nil (PlaceRight sent)
    by (Some c) e true =
        let number = shown_number a b.tuple (released ++ refusal_of b c ∷ []) in
        placed sent (current_client past b.tuple) number (current_client past b.tuple) number (refusing b c) [] refl
        refl (refusal_right sent b c (current_client past b.tuple) number (refused c e))
