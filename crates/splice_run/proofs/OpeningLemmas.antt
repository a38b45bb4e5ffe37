-- The current openings, frame by frame.
use Rattle.std.proofs.Common.{◌≡◌, ℕ, ◌+◌, List, [], ◌∷◌, ◌++◌, Option, None, Some, fold, take, slice_get, refl, sym, ap, ◌∙◌}
use Rattle.std.specs.List.{cons_option}
use Rattle.std.proofs.lemmas.Grind.{fold-append}
use Rattle.std.proofs.lemmas.List.Elements.{filter_map-append}
use Rattle.inet_frame.specs.Counted.{counted, tcp_in, client_tuple_of}
use Rattle.inet_frame.specs.Fields.{TcpFields}
use Rattle.inet_frame.specs.declared.tuple.Tuple.{Tuple}
use Rattle.frame_mirror.specs.Laws.{IsKept}
use Rattle.seq_rewriter.specs.Given.{opening_for}
use Rattle.state_wire.proofs.BeginLemmas.{take_one}
use Rattle.tcp_track.specs.Stands.{opening_after, opening_of, segments}
use Rattle.tcp_track.specs.declared.openings.Opening.{Opening}
use Rattle.splice_run.specs.Openings.{KnowsOpenings, opening_at, opening_with}

one_segment : (t : Tuple) (current : Option Opening) (s : Option TcpFields)
    → fold (opening_after t) current (cons_option s []) ≡ opening_with t current s
one_segment t current None = refl
one_segment t current (Some s) = refl

-- one frame more
pub opening_push : (t : Tuple) (frames : List (List ℕ)) (frame : List ℕ)
    → opening_of t (segments (frames ++ frame ∷ [])) ≡ opening_with t (opening_of t (segments frames)) (counted frame)
unfolding opening_of
opening_push t frames frame =
    ap (λ (xs : List TcpFields). fold (opening_after t) None xs) (filter_map-append counted frames (frame ∷ []))
    ∙ (fold-append (opening_after t) None (segments frames) (segments (frame ∷ []))
    ∙ one_segment t (fold (opening_after t) None (segments frames)) (counted frame))

pub knows_more : (old new : Tuple → Option Opening) (frames : List (List ℕ)) (k : ℕ) (frame : List ℕ)
    → slice_get frames k ≡ Some frame → KnowsOpenings old (take k frames)
    → ((t : Tuple) → new t ≡ opening_with t (old t) (counted frame)) → KnowsOpenings new (take (k + 1) frames)
knows_more old new frames k frame at known noted t =
    noted t
    ∙ (ap (λ (o : Option Opening). opening_with t o (counted frame)) (known t)
    ∙ (sym (opening_push t (take k frames) frame)
    ∙ ap (λ (fs : List (List ℕ)). opening_of t (segments fs)) (sym (take_one frames k frame at))))

-- nothing is known of no frames
pub knows_none : (current : Tuple → Option Opening) → ((t : Tuple) → current t ≡ None) → KnowsOpenings current []
unfolding opening_of
knows_none current none t = none t

-- a client's segment has the opening that is current among the frames sent
pub opening_known : (current : Tuple → Option Opening) (sent : List (List ℕ)) (s : Option TcpFields)
    → KnowsOpenings current sent → opening_at current s ≡ opening_for s (segments sent)
opening_known current sent None known = refl
opening_known current sent (Some s) known = known (client_tuple_of s)

-- cleaning a client's segment leaves its connection
pub same_opening_for : (b kept : List ℕ) (said : List TcpFields) → IsKept b kept
    → opening_for (tcp_in kept) said ≡ opening_for (tcp_in b) said
same_opening_for b kept said k =
    ap (λ (s : Option TcpFields). opening_for s said) k.still_tcp
    ∙ (ap (λ (t : Tuple). opening_of t said) k.same_tuple
    ∙ sym (ap (λ (s : Option TcpFields). opening_for s said) k.parsed))
