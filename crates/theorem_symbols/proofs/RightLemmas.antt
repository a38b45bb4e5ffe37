-- What a released segment shows is in the line of its connection, at the offset from the number that the client knows.
use Rattle.std.proofs.Common.{◌≡◌, ℕ, ◌+◌, ◌-◌, ◌<◌, ◌%◌, ◌^◌, Bool, true, false, nat_lt, if◌then◌else◌, List, [], ◌∷◌, length, slice_get, None, Some, refl, sym, ap, ◌∙◌, arith}
use Rattle.std.proofs.lemmas.Bool.{cond_both, ltb-false}
use Rattle.std.proofs.lemmas.Option.{slice_get_within}
use Rattle.inet_frame.specs.Fields.{TcpFields}
use Rattle.inet_frame.specs.Flags.{has_rst, has_syn}
use Rattle.tcp_track.specs.Segments.{Symbol, is_near, payload_symbols, start_of, symbol_in, symbols_in}
use Rattle.tcp_track.specs.declared.offsets.TheConstants.{OFFSET_BOUND}
use Rattle.theorem_frames.proofs.CarryLemmas.{start_is}
use Rattle.theorem_frames.proofs.LineLemmas.{carried}
use Rattle.theorem_stands.proofs.KindLemmas.{IsPartOf}

-- a symbol of a segment with data is one of its data
pub told_symbol : (own start : ℕ) (s : TcpFields) (o : ℕ) (x : Symbol) → own < 2 ^ 32 → start < OFFSET_BOUND →
    s.seq ≡ (own + start) % 2 ^ 32 → has_rst s.flags ≡ false → has_syn s.flags ≡ false →
    symbol_in own s o ≡ Some x →
    (start + (o - start) ≡ o) × (slice_get (payload_symbols s) (o - start) ≡ Some x)
unfolding is_near
told_symbol own start s o x small near seq no_rst no_syn e =
    let at = start_is own start s small near seq in
    by (nat_lt o (start_of own s)) refl (is_near own s) e
  where
    at_start : start_of own s ≡ start
    at_start = start_is own start s small near seq

    here : symbols_in own s ≡ (if is_near own s then payload_symbols s else [])
    here = carried own s no_rst no_syn

    by : (early : Bool) → nat_lt o (start_of own s) ≡ early → (is : Bool) →
        symbol_in own s o ≡ Some x →
        (start + (o - start) ≡ o) × (slice_get (payload_symbols s) (o - start) ≡ Some x)
    by true f is g =
        absurd (cc
        (sym (ap (λ (b : Bool). if b then None else slice_get (symbols_in own s) (o - start_of own s)) f) ∙ g))
    by false f is g =
        let late = ltb-false o (start_of own s) f in
        let there : slice_get (symbols_in own s) (o - start) ≡ Some x =
        ap (λ (n : ℕ). slice_get (symbols_in own s) (o - n)) (sym at_start)
        ∙ (sym (ap (λ (b : Bool). if b then None else slice_get (symbols_in own s) (o - start_of own s)) f) ∙ g) in (
          omega (arith, late, at_start),
          cond_both (is_near own s) (payload_symbols s) [] (λ (xs : List Symbol).
              slice_get xs (o - start) ≡ Some x → slice_get (payload_symbols s) (o - start) ≡ Some x)
              (λ n k. k) (λ n k. absurd (cc k))
              (ap (λ (xs : List Symbol). slice_get xs (o - start)) (sym here) ∙ there),
        )

-- a part with a symbol in it begins below the bound
pub begins_near : (symbols xs : List Symbol) (offset : ℕ) → length symbols < OFFSET_BOUND → 0 < length xs →
    IsPartOf symbols offset xs → offset + length xs < OFFSET_BOUND
begins_near symbols [] offset near some h = absurd (omega (arith, some))
begins_near symbols (y ∷ ys) offset near some h =
    let last = last_of y ys in
    let within = slice_get_within symbols (offset + length ys) last.0 (h.each (length ys) last.0 last.1) in
    omega (arith, within, near)
  where
    last_of : (z : Symbol) (zs : List Symbol) → (x : Symbol) × (slice_get (z ∷ zs) (length zs) ≡ Some x)
    last_of z [] = (z, refl)
    last_of z (w ∷ ws) = last_of w ws
