-- What a store leaves of the bus.
use Rattle.std.proofs.Common.{◌≡◌, ℕ, zero, suc, ◌==◌, inl, inr, Bool, true, false, Option, Some, None, List, [], ◌∷◌, if◌then◌else◌, length, refl, sym, ap, subst, ◌∙◌}
use Rattle.std.specs.Int.{bytes_low_first}
use Rattle.std.specs.List.{find}
use Rattle.std.specs.Option.{option_map_or}
use Rattle.shared_definitions.specs.Memory.{is_inside, little_endian_bytes}
use Rattle.page_track.specs.Memory.{Memory, with_number, with_part}
use Rattle.page_track.proofs.MemoryLemmas.{length-with_part}
use Rattle.rv_core.specs.Stores.{IsOneStore, StoreRequest, MayRunOut}
use Rattle.rv_platform.specs.Bus.{board_acts, board_stored, store_register, write_network, write_block, write_clint}
use Rattle.rv_platform.specs.Clint.{Register, registers, register_at, store_clint}
use Rattle.rv_platform.specs.declared.board.Board.{Board}
use Rattle.rv_platform.specs.declared.clint.Clint.{Clint}
use Rattle.rv_platform.proofs.KindLemmas.{write_keeps_kind}

-- no store runs out of memory
pub never_runs_out : (b : Board) (request : Option StoreRequest) → MayRunOut board_acts b request → ⊥
never_runs_out b None h = h
never_runs_out b (Some store) h = cc

-- what holds of both choices
either : (P : Board → Type 0) (b : Bool) (x y : Board) → P x → P y → P (if b then x else y)
either P true x y p q = p
either P false x y p q = q

-- ---- where no register was touched, all but memory is as before

pub record KeepsRegisters (old new : Board) : Type 0 where
  pub clint : new.clint ≡ old.clint
  pub net : new.net ≡ old.net
  pub blk : new.blk ≡ old.blk
  pub notified : new.notified ≡ old.notified

abbrev Untouched : Board → Board → Type 0
Untouched old new = new.touched ≡ false → KeepsRegisters old new

same_registers : (b : Board) → Untouched b b
same_registers b h = record { clint = refl; net = refl; blk = refl; notified = refl }

is_touched : (old new : Board) → new.touched ≡ true → Untouched old new
is_touched old new e h = let f : true ≡ false = sym e ∙ h in cc

stored_untouched : (b : Board) (addr width value : ℕ) → Untouched b (board_stored b addr width value)
unfolding board_stored store_register
stored_untouched b addr width value =
    let P : Board → Type 0 = Untouched b in
    either P _ (record b { ram = with_number b.ram addr width value }) _
    (λ h. record { clint = refl; net = refl; blk = refl; notified = refl })
    (either P _ b _ (same_registers b)
    (either P _ (write_network b _ value) _ (is_touched b (write_network b _ value) refl)
    (either P _ (write_block b _ value) (write_clint b addr width value) (is_touched b (write_block b _ value) refl)
    (is_touched b (write_clint b addr width value) refl))))

pub untouched : (old new : Board) → IsOneStore board_acts old new → old.touched ≡ false → new.touched ≡ false
    → KeepsRegisters old new
untouched old new (inl e) was h = subst (Untouched old) (sym e) (same_registers old) h
untouched old new (inr s) was h =
    subst (Untouched old) (sym s.after) (stored_untouched old s.address s.width s.value) h

-- ---- kinds and the size of memory

pub record KeepsBoard (old new : Board) : Type 0 where
  pub net : new.net.device.kind ≡ old.net.device.kind
  pub blk : new.blk.kind ≡ old.blk.kind
  pub memory : length new.ram.bytes ≡ length old.ram.bytes
  pub time : new.clint.mtime ≡ old.clint.mtime

same_board : (b : Board) → KeepsBoard b b
same_board b = record { net = refl; blk = refl; memory = refl; time = refl }

-- each of these registers keeps the time
KeepTime : List Register → Type 0
KeepTime [] = Unit {0}
KeepTime (r ∷ rows) = ((c : Clint) (v : ℕ) → (r.write c v).mtime ≡ c.mtime) × KeepTime rows

found_step : (r : Register) (rows : List Register) (p : Register → Bool) (c : Clint) (v : ℕ) (b : Bool) → p r ≡ b
    → (r.write c v).mtime ≡ c.mtime
    → (option_map_or (λ (x : Register). x.write c v) (find p rows) c).mtime ≡ c.mtime
    → (option_map_or (λ (x : Register). x.write c v) (find p (r ∷ rows)) c).mtime ≡ c.mtime
found_step r rows p c v true e h rest = rw e h
found_step r rows p c v false e h rest = rw e rest

found_keeps_time : (rows : List Register) (p : Register → Bool) (c : Clint) (v : ℕ) → KeepTime rows
    → (option_map_or (λ (r : Register). r.write c v) (find p rows) c).mtime ≡ c.mtime
unfolding KeepTime
found_keeps_time [] p c v h = refl
found_keeps_time (r ∷ rows) p c v h =
    found_step r rows p c v (p r) refl (h.0 c v) (found_keeps_time rows p c v h.1)

registers_keep_time : KeepTime registers
unfolding KeepTime registers
registers_keep_time = (λ c v. refl, (λ c v. refl, (λ c v. refl, (λ c v. refl, (λ c v. refl, tt)))))

by_width : (b : Bool) (c : Clint) (value : ℕ) (p : Register → Bool)
    → (option_map_or (λ (r : Register). r.write c value) (if b then find p registers else None) c).mtime ≡ c.mtime
by_width true c value p = found_keeps_time registers p c value registers_keep_time
by_width false c value p = refl

store_keeps_time : (c : Clint) (addr width value : ℕ) → (store_clint c addr width value).mtime ≡ c.mtime
unfolding store_clint register_at
store_keeps_time c addr width value = by_width (width == 4) c value (λ register. register.addr == addr)

-- memory has the same size after a store
length-bytes : (i n v : ℕ) → length (bytes_low_first i n v) ≡ n
length-bytes i zero v = refl
length-bytes i (suc n) v = ap suc (length-bytes (suc i) n v)

number_size : (m : Memory) (addr width value : ℕ) → length (with_number m addr width value).bytes ≡ length m.bytes
unfolding with_number
number_size m addr width value = by_inside (is_inside (length m.bytes) addr width) refl
  where
    by_inside : (b : Bool) → is_inside (length m.bytes) addr width ≡ b
        → length (if is_inside (length m.bytes) addr width then with_part m addr (little_endian_bytes width value)
        else m).bytes ≡ length m.bytes
    by_inside true e = rw e (length-with_part m addr (little_endian_bytes width value)
        (ap (is_inside (length m.bytes) addr) (length-bytes 0 width value) ∙ e))
    by_inside false e = rw e refl

stored_board : (b : Board) (addr width value : ℕ) → KeepsBoard b (board_stored b addr width value)
unfolding board_stored store_register
stored_board b addr width value =
    let P : Board → Type 0 = KeepsBoard b in
    either P _ (record b { ram = with_number b.ram addr width value }) _
    (record { net = refl; blk = refl; memory = number_size b.ram addr width value; time = refl })
    (either P _ b _ (same_board b)
    (either P _ (write_network b _ value) _
    (record { net = write_keeps_kind b.net.device _ value; blk = refl; memory = refl; time = refl })
    (either P _ (write_block b _ value) (write_clint b addr width value)
    (record { net = refl; blk = write_keeps_kind b.blk _ value; memory = refl; time = refl })
    (record { net = refl; blk = refl; memory = refl; time = store_keeps_time b.clint addr width value }))))

pub board_kept : (old new : Board) → IsOneStore board_acts old new → KeepsBoard old new
board_kept old new (inl e) = subst (KeepsBoard old) (sym e) (same_board old)
board_kept old new (inr s) =
    subst (KeepsBoard old) (sym s.after) (stored_board old s.address s.width s.value)
