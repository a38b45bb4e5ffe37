-- What settling reads of the event's own segments, and what a frame that doesn't count leaves.
use Rattle.std.proofs.Common.{◌≡◌, ℕ, Bool, true, false, ◌&&◌, ◌||◌, cond, List, [], ◌∷◌, ◌++◌, append-nil, filter, if◌then◌else◌, Option, None, refl, sym, ap, ◌∙◌}
use Rattle.std.specs.List.{flat_map, list_any}
use Rattle.inet_frame.specs.Counted.{counted}
use Rattle.inet_frame.specs.Fields.{TcpFields}
use Rattle.tcp_track.specs.Segments.{same_tuple}
use Rattle.tcp_track.specs.Tracking.{took_in, tracking_with}
use Rattle.tcp_track.specs.declared.answers.Took.{Took}
use Rattle.settle_rules.specs.Matching.{BothLines}
use Rattle.settle_rules.specs.OwnFrames.{note_took, restarts_of}
use Rattle.settle_rules.specs.Release.{Released}
use Rattle.settle_rules.specs.Settle.{is_bare, is_below, release_again, release_span, settle_one}
use Rattle.out_compare.specs.Comparing.{Comparing, take_own, take_heard}
use Rattle.out_compare.specs.Noting.{note_number, note_progress, note_unknown}
use Rattle.compare_laws.specs.Laws.{IgnoresOthers, ReadsItsOwnSegments}

-- A FRAME THAT DOESN'T COUNT

own_with_found : Comparing → Option TcpFields → Comparing
own_with_found x o = let took = took_in x.mine o in record x {
  mine = tracking_with x.mine o;
  numbers = note_number x.numbers took;
  unknown = note_unknown x.numbers x.unknown took;
  progress = note_progress x.progress took;
  tooks = note_took x.tooks took;
  restarts = x.restarts ++ restarts_of took.tuple took.what;
}

heard_with_found : Comparing → Option TcpFields → Comparing
heard_with_found x o = let took = took_in x.theirs o in record x {
  theirs = tracking_with x.theirs o;
  restarts = x.restarts ++ restarts_of took.tuple took.what;
}

own_ignored : (x : Comparing) (frame : List ℕ) → counted frame ≡ None → take_own x frame ≡ x
unfolding take_own own_with_found
own_ignored x frame none = ap (λ (o : Option TcpFields). own_with_found x o) none
    ∙ (λ i. record x { restarts = append-nil x.restarts i })

heard_ignored : (x : Comparing) (frame : List ℕ) → counted frame ≡ None → take_heard x frame ≡ x
unfolding take_heard heard_with_found
heard_ignored x frame none = ap (λ (o : Option TcpFields). heard_with_found x o) none
    ∙ (λ i. record x { restarts = append-nil x.restarts i })

pub ignores_others : IgnoresOthers
ignores_others x frame none = (own_ignored x frame none, heard_ignored x frame none)

-- A CONNECTION'S OWN SEGMENTS

abbrev own_of : BothLines → List Took → List Took
own_of b tooks = filter (λ k. same_tuple k.tuple b.tuple) tooks

again_of_own : (b : BothLines) (edge : ℕ) (tooks : List Took) →
    flat_map (release_again b edge) (own_of b tooks) ≡ flat_map (release_again b edge) tooks
unfolding release_again
again_of_own b edge [] = refl
again_of_own b edge (k ∷ tooks) = by (same_tuple k.tuple b.tuple) refl (again_of_own b edge tooks)
  where
    by : (is : Bool) → same_tuple k.tuple b.tuple ≡ is →
        flat_map (release_again b edge) (own_of b tooks) ≡ flat_map (release_again b edge) tooks →
        flat_map (release_again b edge) (cond is (k ∷ own_of b tooks) (own_of b tooks))
        ≡ (if is then release_span b edge k.what else []) ++ flat_map (release_again b edge) tooks
    by true e more = ap (λ (t : Bool). (if t then release_span b edge k.what else [])
        ++ flat_map (release_again b edge) (own_of b tooks)) e
        ∙ ap (λ (out : List Released). release_span b edge k.what ++ out) more
    by false e more = more

bare_of_own : (b : BothLines) (edge : ℕ) (tooks : List Took) →
    list_any (is_bare b edge) (own_of b tooks) ≡ list_any (is_bare b edge) tooks
bare_of_own b edge [] = refl
bare_of_own b edge (k ∷ tooks) = by (same_tuple k.tuple b.tuple) refl (bare_of_own b edge tooks)
  where
    by : (is : Bool) → same_tuple k.tuple b.tuple ≡ is →
        list_any (is_bare b edge) (own_of b tooks) ≡ list_any (is_bare b edge) tooks →
        list_any (is_bare b edge) (cond is (k ∷ own_of b tooks) (own_of b tooks))
        ≡ ((is && is_below edge k.what) || list_any (is_bare b edge) tooks)
    by true e more = ap (λ (t : Bool). (t && is_below edge k.what)
        || list_any (is_bare b edge) (own_of b tooks)) e
        ∙ ap (λ (t : Bool). is_below edge k.what || t) more
    by false e more = more

pub reads_its_own_segments : ReadsItsOwnSegments
unfolding settle_one
reads_its_own_segments b p is_turn tooks =
    rw (sym (again_of_own b p.edge tooks), sym (bare_of_own b p.edge tooks)) refl
