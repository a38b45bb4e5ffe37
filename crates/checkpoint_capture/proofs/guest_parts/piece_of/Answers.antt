-- The sectors that were gathered are the piece.
use Rattle.std.proofs.Common.{◌≡◌, ℕ, ◌-◌, ◌*◌, min, List, length, sym, subst, arith}
use Rattle.checkpoint_capture.specs.Sizes.{HaveSize, IsDiskLength}
use Rattle.checkpoint_capture.proofs.StateLemmas.{piece_gathered, piece_is, piece_length}
use Rattle.checkpoint_capture.proofs.guest_parts.piece_of.Goals as goal

pub returns-clause-bytes : goal.returns-clause-bytes
returns-clause-bytes g c =
    let sectors = (g.G.Guest.meaning c.args.guest.now).state.sectors in
    let e : c.min-count.result ≡ min 128 (length sectors - 128 * c.args.k) =
    omega (arith, c.min-count.ensures, c.sectors-all.ensures.state) in
    piece_gathered sectors c.args.k c.min-count.result c.in_ok-bytes.bytes.items c.gather.new.bytes.items e
    c.in_ok-bytes.ensures.items c.in_ok-gather.ensures.bytes

pub returns-clause-sizes : goal.returns-clause-sizes
returns-clause-sizes g c =
    let sectors = (g.G.Guest.meaning c.args.guest.now).state.sectors in
    let e : c.min-count.result ≡ min 128 (length sectors - 128 * c.args.k) =
    omega (arith, c.min-count.ensures, c.sectors-all.ensures.state) in
    subst (HaveSize 512) (piece_is sectors c.args.k c.min-count.result e) c.in_ok-gather.ensures.sizes

pub returns-clause-length : goal.returns-clause-length
returns-clause-length g c =
    subst (λ (bytes : List ℕ). IsDiskLength (length bytes)) (sym (returns-clause-bytes g c))
    (piece_length (g.G.Guest.meaning c.args.guest.now).state.sectors c.args.k c.requires (returns-clause-sizes g c))
