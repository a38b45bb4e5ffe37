-- The bytes that are left, as far as they fit.
use Rattle.std.proofs.Common.{◌≡◌, ℕ, ◌-◌, ◌*◌, List, length, take, drop, min, ap, ◌∙◌}
use Rattle.std.proofs.lemmas.List.{take_min, take_rest}
use Rattle.checkpoint_capture.proofs.line_parts.piece_of.Goals as goal

pub returns-clause-piece : goal.returns-clause-piece
returns-clause-piece c =
    let rest = drop (65536 * c.args.k) c.args.bytes.now in
    let all : take (length c.args.bytes.now - 65536 * c.args.k) rest ≡ rest =
    take_rest c.args.bytes.now (65536 * c.args.k) in
    ap (take c.min.result) all ∙
    (ap (λ (n : ℕ). take n rest) (c.min.ensures ∙ ap (λ (xs : List ℕ). min 65536 (length xs)) all) ∙
    take_min 65536 rest)
