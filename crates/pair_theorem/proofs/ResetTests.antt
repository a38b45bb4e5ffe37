-- Tests of resets and refusals that stand: what passes stands.
use Rattle.std.proofs.Common.{◌≡◌, ◌⊎◌, inl, inr, ℕ, ◌&&◌, ◌||◌, ◌==◌, not, Bool, true, false, List, [], ◌∷◌, ◌++◌, append_assoc, Option, None, Some, refl, sym, subst, eqb-true, true≢false}
use Rattle.std.specs.List.{list_any}
use Rattle.std.proofs.lemmas.Bool.{and_parts, not-true, or_cases}
use Rattle.inet_frame.specs.Counted.{tuple_of}
use Rattle.inet_frame.specs.Fields.{TcpFields}
use Rattle.inet_frame.specs.Flags.{has_rst}
use Rattle.inet_frame.specs.declared.tuple.Tuple.{Tuple}
use Rattle.inet_build.specs.declared.fields.Segment.{Segment}
use Rattle.tcp_track.specs.Offsets.{distance}
use Rattle.tcp_track.specs.Segments.{is_refusal, refused_in, same_tuple}
use Rattle.tcp_track.specs.Stands.{opening_after, opening_of, ResetStands, RefusalStands, is_of_client}
use Rattle.tcp_track.specs.declared.openings.Opening.{Opening}
use Rattle.pair_theorem.specs.FrameParts.{IsStandingRefusal}
use Rattle.tcp_track.proofs.SymbolLemmas.{opening_more}
use Rattle.tcp_track.proofs.TupleLemmas.{same_tuple-eq}

-- an element that passes a test, with what stands before it and after it
pub record Found {X : Type 0} (p : X → Bool) (xs : List X) : Type 0 where
  pub before : List X
  pub element : X
  pub later : List X
  pub place : xs ≡ before ++ element ∷ later
  pub passes : p element ≡ true

pub find_passing : {X : Type 0} (p : X → Bool) (xs : List X) → list_any p xs ≡ true → Found p xs
find_passing p [] e = absurd (true≢false (sym e))
find_passing {X} p (x ∷ xs) e = by (or_cases (p x) (list_any p xs) e) (find_passing p xs)
  where
    by : (p x ≡ true) ⊎ (list_any p xs ≡ true) → (list_any p xs ≡ true → Found p xs) → Found p (x ∷ xs)
    by (inl now) go = record { before = []; element = x; later = xs; place = refl; passes = now }
    by (inr later) go =
        let f = go later in
        let there = f.place in
        record {
          before = x ∷ f.before;
          element = f.element;
          later = f.later;
          place = λ i. x ∷ there i;
          passes = f.passes;
        }

-- REFUSALS
abbrev pub refuses_client : Tuple → ℕ → TcpFields → Bool
refuses_client t client s = same_tuple (tuple_of s) t && (is_refusal s && refused_in s == client)

pub refusal_stands : (sent : List TcpFields) (t : Tuple) (client : ℕ) → list_any (refuses_client t client) sent ≡ true
    → RefusalStands sent t client
refusal_stands sent t client e =
    let f = find_passing (refuses_client t client) sent e in
    let outer = and_parts (same_tuple (tuple_of f.element) t) (is_refusal f.element && refused_in f.element == client)
    f.passes in
    let inner = and_parts (is_refusal f.element) (refused_in f.element == client) outer.1 in
    record {
      before = f.before;
      carrier = f.element;
      later = f.later;
      place = f.place;
      on = same_tuple-eq (tuple_of f.element) t outer.0;
      refuses = inner.0;
      names = eqb-true (refused_in f.element) client inner.1;
    }

abbrev pub is_refusal_shown : List TcpFields → Segment → Bool
is_refusal_shown sent s = has_rst s.flags && (s.seq == 0 && list_any (refuses_client s.tuple (distance 1 s.ack)) sent)

pub refusal_shown : (sent : List TcpFields) (s : Segment) → is_refusal_shown sent s ≡ true → IsStandingRefusal sent s
refusal_shown sent s e =
    let outer = and_parts (has_rst s.flags) (s.seq == 0 && list_any (refuses_client s.tuple (distance 1 s.ack)) sent) e
    in
    let inner = and_parts (s.seq == 0) (list_any (refuses_client s.tuple (distance 1 s.ack)) sent) outer.1 in
    record {
      is_reset = outer.0;
      at_zero = eqb-true s.seq 0 inner.0;
      refused = refusal_stands sent s.tuple (distance 1 s.ack) inner.1;
    }

-- RESETS
abbrev pub resets_here : Tuple → ℕ → Option Opening → TcpFields → Bool
resets_here t client o s =
    same_tuple (tuple_of s) t && (has_rst s.flags && (not (is_refusal s) && is_of_client o client))

abbrev pub resets_from : Tuple → ℕ → Option Opening → List TcpFields → Bool
resets_from t client o [] = false
resets_from t client o (s ∷ sent) = resets_here t client o s || resets_from t client (opening_after t o s) sent

client_of_opening : (o : Option Opening) (client : ℕ) → is_of_client o client ≡ true
    → (own : ℕ) × (o ≡ Some (record { client = client; own = own }))
client_of_opening None client e = absurd (true≢false (sym e))
client_of_opening (Some p) client e =
    let same = eqb-true p.client client e in (p.own, λ i. Some (record { client = same i; own = p.own }))

reset_here : (t : Tuple) (client : ℕ) (before : List TcpFields) (s : TcpFields) (later : List TcpFields)
    → resets_here t client (opening_of t before) s ≡ true → ResetStands (before ++ s ∷ later) t client
reset_here t client before s later e =
    let o = opening_of t before in
    let a = and_parts (same_tuple (tuple_of s) t) (has_rst s.flags && (not (is_refusal s) && is_of_client o client)) e
    in
    let b = and_parts (has_rst s.flags) (not (is_refusal s) && is_of_client o client) a.1 in
    let c = and_parts (not (is_refusal s)) (is_of_client o client) b.1 in
    let own = client_of_opening o client c.1 in
    record {
      before = before;
      carrier = s;
      later = later;
      own = own.0;
      place = refl;
      on = same_tuple-eq (tuple_of s) t a.0;
      opened = own.1;
      resets = b.0;
      no_refusal = not-true (is_refusal s) c.0;
    }

reset_after : (t : Tuple) (client : ℕ) (before sent : List TcpFields)
    → resets_from t client (opening_of t before) sent ≡ true → ResetStands (before ++ sent) t client
reset_after t client before [] e = absurd (true≢false (sym e))
reset_after t client before (s ∷ sent) e =
    by (or_cases (resets_here t client (opening_of t before) s)
    (resets_from t client (opening_after t (opening_of t before) s) sent) e)
    (λ later. reset_after t client (before ++ s ∷ []) sent
    (subst (λ (p : Option Opening). resets_from t client p sent ≡ true) (sym (opening_more t before s)) later))
  where
    by : (resets_here t client (opening_of t before) s ≡ true) ⊎
        (resets_from t client (opening_after t (opening_of t before) s) sent ≡ true) →
        (resets_from t client (opening_after t (opening_of t before) s) sent ≡ true → ResetStands
        ((before ++ s ∷ []) ++ sent) t client) → ResetStands (before ++ s ∷ sent) t client
    by (inl now) go = reset_here t client before s sent now
    by (inr later) go =
        subst (λ (xs : List TcpFields). ResetStands xs t client) (append_assoc before (s ∷ []) sent) (go later)

pub reset_stands : (sent : List TcpFields) (t : Tuple) (client : ℕ) → resets_from t client None sent ≡ true
    → ResetStands sent t client
unfolding opening_of
reset_stands sent t client e = reset_after t client [] sent e
