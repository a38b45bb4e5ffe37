-- The frame that a turn is given.
use Rattle.std.proofs.Common.{◌≡◌, ℕ, List, Option, None, Some, [], slice_get, unwrap_or, sym, ap, ◌∙◌}
use Rattle.std.specs.Option.{option_map}
use Rattle.inet_frame.specs.Counted.{tcp_in}
use Rattle.inet_frame.specs.Fields.{TcpFields}
use Rattle.frame_mirror.specs.Laws.{IsKept}
use Rattle.seq_rewriter.specs.Given.{given_frame, opening_for, raise_frame}
use Rattle.inet_frame.specs.declared.tuple.Tuple.{Tuple}
use Rattle.inet_build.specs.Edit.{clean_syn}
use Rattle.replay_log.specs.declared.turns.TurnFrame.{TurnFrame}
use Rattle.tcp_track.specs.Stands.{segments}
use Rattle.tcp_track.specs.declared.openings.Opening.{Opening}
use Rattle.splice_run.specs.Openings.{KnowsOpenings, opening_at}
use Rattle.splice_run.specs.Runs.{frame_index, frame_seen, given_to, stream_frame}
use Rattle.splice_run.proofs.OpeningLemmas.{opening_known, same_opening_for}

-- a turn that names no frame is given none
pub given_none : (stream : List (List ℕ)) (said : List TcpFields) (f : TurnFrame) → frame_index f ≡ None
    → given_to stream said f ≡ None
unfolding given_to
given_none stream said f e =
    ap (λ (o : Option ℕ). option_map (λ index. given_frame (stream_frame stream index) (frame_seen f) said) o) e

-- a frame that is there
pub stream_is : (stream : List (List ℕ)) (index : ℕ) (b : List ℕ) → slice_get stream index ≡ Some b
    → b ≡ stream_frame stream index
stream_is stream index b there = sym (ap (λ (o : Option (List ℕ)). unwrap_or o []) there)

given_some : (stream : List (List ℕ)) (said : List TcpFields) (f : TurnFrame) (index : ℕ) → frame_index f ≡ Some index
    → given_to stream said f ≡ Some (given_frame (stream_frame stream index) (frame_seen f) said)
unfolding given_to
given_some stream said f index e =
    ap (λ (o : Option ℕ). option_map (λ i. given_frame (stream_frame stream i) (frame_seen f) said) o) e

given_is : (b kept : List ℕ) (seen : Option Opening) (said : List TcpFields) → IsKept b kept
    → given_frame b seen said ≡ raise_frame kept seen (opening_for (tcp_in kept) said)
unfolding given_frame
given_is b kept seen said k =
    ap (λ (o : Option Opening). raise_frame (clean_syn b) seen o) (sym (same_opening_for b kept said k))
    ∙ ap (λ (x : List ℕ). raise_frame x seen (opening_for (tcp_in kept) said)) (sym k.clean)

-- an accepted frame is given as it is raised by the openings that are known
pub given_raised : (stream sent : List (List ℕ)) (current : Tuple → Option Opening) (f : TurnFrame) (index : ℕ)
    (kept raised : List ℕ) → frame_index f ≡ Some index → IsKept (stream_frame stream index) kept
    → KnowsOpenings current sent → raised ≡ raise_frame kept (frame_seen f) (opening_at current (tcp_in kept))
    → given_to stream (segments sent) f ≡ Some raised
given_raised stream sent current f index kept raised e k known r =
    given_some stream (segments sent) f index e
    ∙ ap (λ (x : List ℕ). Some x)
    (given_is (stream_frame stream index) kept (frame_seen f) (segments sent) k
    ∙ (ap (λ (o : Option Opening). raise_frame kept (frame_seen f) o)
    (sym (opening_known current sent (tcp_in kept) known)) ∙ sym r))
