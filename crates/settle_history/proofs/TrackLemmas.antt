-- Trackers that stand for items, call by call.
use Rattle.std.proofs.Common.{◌≡◌, ℕ, List, [], ◌∷◌, ◌++◌, map, Option, None, Some, refl, sym, ap, subst, ◌∙◌}
use Rattle.std.specs.List.{cons_option}
use Rattle.std.specs.Map.{keys_of}
use Rattle.std.specs.Option.{option_map}
use Rattle.std.proofs.lemmas.Grind.{fold-append}
use Rattle.std.proofs.lemmas.List.Elements.{filter_map-append}
use Rattle.inet_frame.specs.Counted.{counted}
use Rattle.inet_frame.specs.Fields.{TcpFields}
use Rattle.inet_frame.specs.declared.tuple.Tuple.{Tuple}
use Rattle.tcp_track.specs.Laws.{Call, takes, trims, commits, call_after, item_of, items_of}
use Rattle.tcp_track.specs.Lines.{Item, sent, trim, commit, line, order, sent_of}
use Rattle.tcp_track.specs.Stands.{opening_of, segments}
use Rattle.tcp_track.specs.Tracking.{Tracking, current_at, nothing_tracked, taken, trim_tracking, commit_tracking}
use Rattle.tcp_track.proofs.OrderLemmas.{keeps_the_order}
use Rattle.tcp_track.proofs.StandingLemmas.{opening_of_line}
use Rattle.tcp_track.proofs.SymbolLemmas.{line_fits}
use Rattle.settle_history.specs.Standing.{Tracks}

pub tracks_none : Tracks [] nothing_tracked
tracks_none = record { calls = []; leaves = refl; gives = refl }

-- one call more, whatever it is
pub tracks_call : (items : List Item) (tracking : Tracking) (call : Call) → Tracks items tracking →
    Tracks (items ++ items_of (call ∷ [])) (call_after tracking call)
tracks_call items tracking call h = record {
  calls = h.calls ++ call ∷ [];
  leaves = ap (λ (x : Tracking). call_after x call) h.leaves
      ∙ sym (fold-append call_after nothing_tracked h.calls (call ∷ []));
  gives = filter_map-append item_of h.calls (call ∷ []) ∙ ap (λ (xs : List Item). xs ++ items_of (call ∷ [])) h.gives;
}

frame_item : (o : Option TcpFields) → cons_option (option_map sent o) [] ≡ map sent (cons_option o [])
frame_item None = refl
frame_item (Some s) = refl

pub tracks_frame : (items : List Item) (tracking : Tracking) (frame : List ℕ) → Tracks items tracking →
    Tracks (items ++ map sent (segments (frame ∷ []))) (taken tracking frame)
tracks_frame items tracking frame h =
    let more = tracks_call items tracking (takes frame) h in record {
      calls = more.calls;
      leaves = more.leaves;
      gives = more.gives ∙ ap (λ (xs : List Item). items ++ xs) (frame_item (counted frame));
    }

-- a frame that counts
pub tracks_counted : (items : List Item) (tracking : Tracking) (frame : List ℕ) (s : TcpFields) →
    counted frame ≡ Some s → Tracks items tracking → Tracks (items ++ sent s ∷ []) (taken tracking frame)
tracks_counted items tracking frame s e h =
    subst (λ (o : Option TcpFields). Tracks (items ++ map sent (cons_option o [])) (taken tracking frame)) e
    (tracks_frame items tracking frame h)

pub tracks_trim : (items : List Item) (tracking : Tracking) (t : Tuple) (client to : ℕ) → Tracks items tracking →
    Tracks (items ++ trim t client to ∷ []) (trim_tracking tracking t client to)
tracks_trim items tracking t client to h = tracks_call items tracking (trims t client to) h

pub tracks_commit : (items : List Item) (tracking : Tracking) → Tracks items tracking →
    Tracks (items ++ commit ∷ []) (commit_tracking tracking)
tracks_commit items tracking h = tracks_call items tracking commits h

-- the current opening is that of the line, and of what was sent
pub line_opening : (items : List Item) (tracking : Tracking) (t : Tuple) → Tracks items tracking →
    current_at tracking t ≡ (line t items).opening
line_opening items tracking t h =
    ap (λ (x : Tracking). current_at x t) h.leaves
    ∙ (sym (opening_of_line h.calls t) ∙ ap (λ (xs : List Item). (line t xs).opening) h.gives)

pub opening_is : (items : List Item) (tracking : Tracking) (t : Tuple) → Tracks items tracking →
    current_at tracking t ≡ opening_of t (sent_of items)
opening_is items tracking t h = line_opening items tracking t h ∙ sym (line_fits t items).opened

-- the table is in the order of first opening or refusal
pub order_is : (items : List Item) (tracking : Tracking) → Tracks items tracking →
    order items ≡ keys_of tracking.entries
order_is items tracking h =
    sym (ap (λ (x : Tracking). keys_of x.entries) h.leaves
    ∙ (keeps_the_order h.calls ∙ ap (λ (xs : List Item). order xs) h.gives))
