-- The new end is that of the segment, which is below the bound.
use Rattle.std.proofs.Common.{◌≡◌, ℕ, ◌-◌, ◌≤◌, true, length, sym, ap, subst, ◌∙◌, arith, length-append, length-drop, ◌+◌, true≢false}
use Rattle.std.specs.Prelude.{is_some}
use Rattle.std.proofs.lemmas.List.{length-take}
use Rattle.tcp_track.specs.Offsets.{distance}
use Rattle.tcp_track.specs.Segments.{start_of}
use Rattle.tcp_track.specs.LineFields.{LineFields, bytes_end, grows}
use Rattle.tcp_track.specs.LineInside.{fields_of_line}
use Rattle.tcp_track.proofs.GrowthLemmas.{growth_fits}
use Rattle.tcp_track.proofs.lines.Line.grow.Goals as goal

pub invariant_of-self-then-known-payload : goal.invariant_of-self-then-known-payload
invariant_of-self-then-known-payload c =
    let own = c.args.opening.own in
    let s = c.args.segment.now in
    let l = fields_of_line c.self.inside in
    let grows' : grows l own s ≡ true = subst (λ (k : LineFields). grows k own s
    ≡ true) (sym c.self.view_is) c.requires.grows in
    let opened : is_some l.opening ≡ true = subst (λ (k : LineFields). is_some k.opening
    ≡ true) (sym c.self.view_is) (ap is_some c.requires.opened) in
    let start : c.distance.result ≡ start_of own s = c.distance.ensures ∙ ap (distance own) c.seq.ensures in
    let end : c.bytes_end.result ≡ bytes_end l = c.bytes_end.ensures.value ∙ sym (ap bytes_end c.self.view_is) in
    let count : length c.payload-payload.result.now ≡ length s.payload = ap length c.payload-payload.ensures.value in
    let known : bytes_end l - start_of own s ≤ length s.payload = omega (
      arith,
      start,
      end,
      count,
      c.if-known-payload.true,
    ) in
    let len : length c.extend.new.self ≡ length l.bytes + (length s.payload -
    (bytes_end l - start_of own s)) = rw c.in_ok-extend.ensures.ok (omega (
      arith,
      length-append {A = ℕ},
      length-take {A = ℕ},
      length-drop {A = ℕ},
      start,
      end,
      count,
    )) in
    record {
      end = growth_fits l own s c.extend.new.self c.has_fin-self-inside.result grows' known len
          c.has_fin-self-inside.ensures;
      acked = c.self.invariant.acked;
      no_bytes = λ e. absurd (true≢false (sym opened ∙ e));
      no_fin = λ e. absurd (true≢false (sym opened ∙ e));
    }
