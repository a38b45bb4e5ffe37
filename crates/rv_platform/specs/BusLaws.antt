-- What the bus keeps.
use Rattle.std.proofs.Common.{◌≡◌, ℕ, Bool, true, false, ◌||◌, Some, None, IsSome, if◌then◌else◌, length, refl, rules}
use Rattle.shared_definitions.specs.Memory.{is_inside}
use Rattle.page_track.specs.Memory.{number_at}
use Rattle.rv_platform.specs.Bus.{board_fetched, board_loaded, board_stores, board_stored, store_register, stores_register}
use Rattle.rv_platform.specs.declared.board.Board.{Board}

neither : (a b : Bool) → (a || b) ≡ false → (a ≡ false) × (b ≡ false)
neither true b h = cc
neither false b h = (refl, h)

-- a store that is refused changes nothing
pub refused_store : (b : Board) (addr width value : ℕ)
    → board_stores b addr width value ≡ false → board_stored b addr width value ≡ b
unfolding board_stores board_stored store_register
refused_store b addr width value h =
    let p = neither (is_inside (length b.ram.bytes) addr width) (stores_register addr width) h in
    rw (p.0, p.1) refl

some_then : (b : Bool) (v : ℕ) → IsSome (if b then Some v else None) → b ≡ true
some_then true v h = refl
some_then false v h = search rules

-- where a word can be fetched, one can be stored
pub taken_store : (b : Board) (addr value : ℕ) → IsSome (board_fetched b addr)
    → board_stores b addr 4 value ≡ true
unfolding board_fetched number_at board_stores
taken_store b addr value h = rw (some_then (is_inside (length b.ram.bytes) addr 4) _ h) refl

-- and a load gives the word that a fetch gives
pub same_word : (b : Board) (addr word : ℕ) → board_fetched b addr ≡ Some word
    → board_loaded b addr 4 ≡ Some word
unfolding board_fetched board_loaded
same_word b addr word h = rw h refl
