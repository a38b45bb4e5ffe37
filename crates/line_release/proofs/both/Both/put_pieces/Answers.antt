-- Each step adds the frame of one piece more, and the last that of the last piece.
use Rattle.std.proofs.Common.{◌≡◌, ℕ, ◌+◌, ◌/◌, ◌++◌, ◌∷◌, [], List, length, append_assoc, sym, ap, ◌∙◌, add-one, arith}
use Rattle.settle_rules.specs.Release.{released_frame}
use Rattle.line_release.specs.Both.{both_of}
use Rattle.line_release.specs.PieceSegment.{piece_segment}
use Rattle.line_release.proofs.PieceLemmas.{first_frames, first_frames-suc, all_frames}
use Rattle.line_release.proofs.both.Both.put_pieces.Goals as goal

pub loop-k-preserved : goal.loop-k-preserved
loop-k-preserved c =
    let b = both_of c.args.self.now in
    let k = c.loop-k.k in
    let frame = released_frame (piece_segment b c.args.offset c.args.bytes.now c.args.ends k) in
    let done = first_frames b c.args.offset c.args.bytes.now c.args.ends k in
    rw add-one (c.in_ok-put_piece.ensures.ok
    ∙ (ap (λ (xs : List (List ℕ)). xs ++ frame ∷ []) c.loop-k.invariant
    ∙ (append_assoc c.args.out.now done (frame ∷ [])
    ∙ ap (λ (xs : List (List ℕ)). c.args.out.now ++ xs) (sym
    (first_frames-suc b c.args.offset c.args.bytes.now c.args.ends k)))))

pub returns-clause-ok : goal.returns-clause-ok
returns-clause-ok c =
    let last : c.loop-k.k ≡ (length c.args.bytes.now + 535) / 536 = omega (
      arith,
      c.loop-k.auto.k-end,
      c.loop-k-test.false,
    ) in
    c.loop-k.invariant
    ∙ ap (λ (xs : List (List ℕ)). c.args.out.now ++ xs) (all_frames
    (both_of c.args.self.now) c.args.offset c.args.bytes.now c.args.ends c.loop-k.k c.requires.some last)
