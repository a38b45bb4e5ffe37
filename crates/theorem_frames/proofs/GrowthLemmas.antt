-- A segment that shows something stays where it is when more is sent.
use Rattle.std.proofs.Common.{◌≡◌, ◌⊎◌, inl, inr, ℕ, ◌≤◌, Bool, true, false, ◌&&◌, nat_lt, max, if◌then◌else◌, List, [], ◌∷◌, ◌++◌, append_assoc, fold, None, sym, ap, subst, ◌∙◌, arith}
use Rattle.std.proofs.lemmas.Grind.{fold-append}
use Rattle.std.proofs.lemmas.List.Elements.{filter_map-append}
use Rattle.inet_frame.specs.Fields.{TcpFields}
use Rattle.inet_frame.specs.Flags.{has_ack}
use Rattle.inet_frame.specs.declared.tuple.Tuple.{Tuple}
use Rattle.inet_build.specs.declared.fields.Segment.{Segment}
use Rattle.tcp_track.specs.Offsets.{distance}
use Rattle.tcp_track.specs.Segments.{Symbol}
use Rattle.tcp_track.specs.Stands.{Acking, RefusalStands, ResetStands, Stands, acked_after, acked_in, acking_after, acks_here, opening_after}
use Rattle.tcp_track.specs.declared.offsets.TheConstants.{OFFSET_BOUND}
use Rattle.pair_theorem.specs.FrameParts.{IsAcked, IsStandingRefusal, PlaceAcks, SymbolsStand, client_opened, clients_opened}
use Rattle.pair_theorem.specs.Places.{Place}
use Rattle.theorem_frames.specs.Standing.{PlacesGoOn, WhatStandsGoesOn}

-- a segment among those sent is among more
place_more : (sent more before : List TcpFields) (s : TcpFields) (later : List TcpFields) →
    sent ≡ before ++ s ∷ later → sent ++ more ≡ before ++ s ∷ (later ++ more)
place_more sent more before s later h =
    ap (λ (xs : List TcpFields). xs ++ more) h ∙ append_assoc before (s ∷ later) more

stands_more : (sent more : List TcpFields) (t : Tuple) (client offset : ℕ) (x : Symbol) →
    Stands sent t client offset x → Stands (sent ++ more) t client offset x
stands_more sent more t client offset x h = record {
  before = h.before;
  carrier = h.carrier;
  later = h.later ++ more;
  own = h.own;
  place = place_more sent more h.before h.carrier h.later h.place;
  on = h.on;
  opened = h.opened;
  carries = h.carries;
}

reset_more : (sent more : List TcpFields) (t : Tuple) (client : ℕ) → ResetStands sent t client →
    ResetStands (sent ++ more) t client
reset_more sent more t client h = record {
  before = h.before;
  carrier = h.carrier;
  later = h.later ++ more;
  own = h.own;
  place = place_more sent more h.before h.carrier h.later h.place;
  on = h.on;
  opened = h.opened;
  resets = h.resets;
  no_refusal = h.no_refusal;
}

refusal_more : (sent more : List TcpFields) (t : Tuple) (client : ℕ) → RefusalStands sent t client →
    RefusalStands (sent ++ more) t client
refusal_more sent more t client h = record {
  before = h.before;
  carrier = h.carrier;
  later = h.later ++ more;
  place = place_more sent more h.before h.carrier h.later h.place;
  on = h.on;
  refuses = h.refuses;
  names = h.names;
}

-- an acknowledgement only grows
acked_no_less : (m client : ℕ) (s : TcpFields) → m ≤ acked_after m client s
acked_no_less m client s = by (has_ack s.flags && nat_lt (distance client s.ack) OFFSET_BOUND)
  where
    by : (b : Bool) → m ≤ (if b then max m (distance client s.ack) else m)
    by true = omega arith
    by false = omega arith

acking_no_less : (t : Tuple) (client : ℕ) (a : Acking) (s : TcpFields) → a.acked ≤ (acking_after t client a s).acked
acking_no_less t client a s = by (acks_here t client (opening_after t a.opening s) s)
  where
    by : (b : Bool) → a.acked ≤ (if b then acked_after a.acked client s else a.acked)
    by true = acked_no_less a.acked client s
    by false = omega arith

acking_all : (t : Tuple) (client : ℕ) (a : Acking) (more : List TcpFields) →
    a.acked ≤ (fold (acking_after t client) a more).acked
acking_all t client a [] = omega arith
acking_all t client a (s ∷ more) =
    let here = acking_no_less t client a s in
    let later = acking_all t client (acking_after t client a s) more in
    omega (arith, here, later)

acked_more : (sent more : List TcpFields) (t : Tuple) (client : ℕ) →
    acked_in sent t client ≤ acked_in (sent ++ more) t client
unfolding acked_in
acked_more sent more t client =
    let none : Acking = record { opening = None; acked = 0 } in
    subst (λ (a : Acking). (fold (acking_after t client) none sent).acked ≤ a.acked)
    (sym (fold-append (acking_after t client) none sent more))
    (acking_all t client (fold (acking_after t client) none sent) more)

clients_more : (sent more : List TcpFields) (t : Tuple) →
    clients_opened t (sent ++ more) ≡ clients_opened t sent ++ clients_opened t more
unfolding clients_opened
clients_more sent more t = filter_map-append (client_opened t) sent more

pub what_stands_goes_on : WhatStandsGoesOn
what_stands_goes_on sent more t client = record {
  symbol = λ offset x. stands_more sent more t client offset x;
  reset = reset_more sent more t client;
  refusal = refusal_more sent more t client;
  acked = acked_more sent more t client;
  clients = clients_more sent more t;
}

-- PLACES
refusal_goes_on : (sent more : List TcpFields) (s : Segment) → IsStandingRefusal sent s →
    IsStandingRefusal (sent ++ more) s
refusal_goes_on sent more s h = record {
  is_reset = h.is_reset;
  at_zero = h.at_zero;
  refused = refusal_more sent more s.tuple (distance 1 s.ack) h.refused;
}

symbols_go_on : (sent more : List TcpFields) (p : Place) → SymbolsStand sent p → SymbolsStand (sent ++ more) p
symbols_go_on sent more p h = record {
  client = h.client;
  number = h.number;
  client_is = h.client_is;
  number_is = h.number_is;
  symbols = λ o x e. stands_more sent more p.segment.tuple h.client o x (h.symbols o x e);
  reset = λ e. reset_more sent more p.segment.tuple h.client (h.reset e);
}

acked_goes_on : (sent more : List TcpFields) (p : Place) → IsAcked sent p → IsAcked (sent ++ more) p
acked_goes_on sent more p h = record {
  client = h.client;
  client_is = h.client_is;
  within = omega (arith, h.within, acked_more sent more p.segment.tuple h.client);
}

stands_goes_on : (sent more : List TcpFields) (p : Place) → IsStandingRefusal sent p.segment ⊎ SymbolsStand sent p →
    IsStandingRefusal (sent ++ more) p.segment ⊎ SymbolsStand (sent ++ more) p
stands_goes_on sent more p (inl h) = inl (refusal_goes_on sent more p.segment h)
stands_goes_on sent more p (inr h) = inr (symbols_go_on sent more p h)

acks_go_on : (sent more : List TcpFields) (p : Place) → PlaceAcks sent p → PlaceAcks (sent ++ more) p
acks_go_on sent more p (inl h) = inl (refusal_goes_on sent more p.segment h)
acks_go_on sent more p (inr h) = inr (acked_goes_on sent more p h)

pub places_go_on : PlacesGoOn
places_go_on sent more p = record {
  stands = λ h. record { judged = h.judged; stands = stands_goes_on sent more p h.stands };
  acks = acks_go_on sent more p;
}
