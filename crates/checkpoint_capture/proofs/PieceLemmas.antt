-- The messages of a line's bytes, one piece more at a time.
use Rattle.std.proofs.Common.{◌≡◌, ℕ, ◌+◌, List, [], ◌∷◌, ◌++◌, length, map, ap, ◌∙◌, arith}
use Rattle.std.specs.Int.{div_ceil}
use Rattle.std.specs.List.{range_with_len}
use Rattle.std.proofs.lemmas.List.{map-append}
use Rattle.std.proofs.lemmas.List.FromFn.{map-range_with_len_more}
use Rattle.settle_rules.specs.Pieces.{piece_at, piece_count}
use Rattle.colo_wire.specs.declared.messages.Message.{Message}
use Rattle.colo_wire.specs.declared.messages.Message.TheVariants.{Bytes}
use Rattle.checkpoint_form.specs.Rows.{bytes_messages}

-- the messages of the first pieces
abbrev pub bytes_front : List ℕ → ℕ → List Message
bytes_front bytes k = map Bytes (map (piece_at 65536 bytes) (range_with_len 0 k))

pub bytes_more : (bytes : List ℕ) (k : ℕ) →
    bytes_front bytes (k + 1) ≡ bytes_front bytes k ++ Bytes (piece_at 65536 bytes k) ∷ []
bytes_more bytes k =
    let at : 0 + k ≡ k = omega arith in
    ap (map Bytes) (map-range_with_len_more (piece_at 65536 bytes) 0 k k at) ∙
    map-append Bytes (map (piece_at 65536 bytes) (range_with_len 0 k)) (piece_at 65536 bytes k ∷ [])

-- all pieces
pub bytes_whole : (bytes : List ℕ) (n : ℕ) → n ≡ div_ceil (length bytes) 65536 →
    bytes_front bytes n ≡ bytes_messages bytes
bytes_whole bytes n e =
    let same : n ≡ piece_count 65536 (length bytes) = omega (arith, e) in
    ap (bytes_front bytes) same
