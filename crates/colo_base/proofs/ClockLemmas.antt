-- What a clock over a list gives, reading by reading.
use Rattle.std.proofs.Common.{◌≡◌, ℕ, ◌+◌, ◌-◌, ◌^◌, ◌<◌, refl, arith}
use Rattle.std.proofs.lemmas.List.FromFn.{length-map-range_with_len, map-range_with_len_more}
use Rattle.colo_base.specs.Count.{incremented}
use Rattle.colo_base.specs.Clock.{Gives}
use Rattle.colo_base.specs.InMemory.{ClockParts, clock_state, tick_at}

-- one reading more is one number more
pub clock_gives : (clock : ClockParts) (tick : ℕ) → tick ≡ tick_at clock.script clock.count →
    Gives (clock_state clock) (clock_state (record clock { count = incremented clock.count })) tick
clock_gives clock tick is_next =
    record {
      observable = refl;
      given = λ observable room.
          let few : clock.count < 2 ^ 64 - 1 = omega (
            arith,
            length-map-range_with_len (tick_at clock.script) 0 clock.count,
            room,
          ) in
          let next : incremented clock.count ≡ clock.count + 1 = omega arith in
          rw (next, is_next) (map-range_with_len_more (tick_at clock.script) 0 clock.count clock.count (omega arith));
    }
