use Rattle.std.proofs.Common.{◌≡◌, ℕ, ◌+◌, ◌-◌, true, List, length, take, drop, ◌++◌, refl, ap, sym, ◌∙◌, subst, arith}
use Rattle.page_track.specs.Memory.{Memory, part_at}
use Rattle.page_track.specs.Lending.{with_lent}
use Rattle.shared_definitions.specs.Memory.{place_of, is_inside}
use Rattle.page_track.proofs.LendingLemmas.{refill, refilled, part_from}
use Rattle.page_track.proofs.ram.Ram.lent.Goals as goal

pub returns : goal.returns
returns c =
    let items = c.self.inside.bytes.items in
    let address = c.args.addr in
    let n = c.args.len in
    let at = c.place_within-from.result in
    let place = c.place_within-from.ensures in
    let Inside : Memory → Type 0 = λ memory. is_inside (length memory.bytes) address n ≡ true in (
      (
        refl,
        λ w.
            ap (λ (bytes : List ℕ). let memory : Memory = record { bytes = bytes } in memory)
            (ap (λ (k : ℕ). take k (refill items at w ++ drop (length (refill items at w)) items))
            c.self.inside.bytes.ok.0
            ∙ refilled items (drop (length (refill items at w)) items) (place_of address) at w place)
            ∙ ap (λ (m : Memory). with_lent m address w) c.self.view_is,
      ),
      record {
        writes_back = tt;
        part = c.slice_mut.ensures.value
            ∙ part_from items address n at (subst Inside (sym c.self.view_is) c.requires) place
            ∙ ap (λ (m : Memory). part_at m.bytes address n) c.self.view_is;
        len = let whole : at + n - at ≡ n = omega arith in c.slice_mut.ensures.len ∙ whole;
      },
    )
