-- The items of a run before its last commit, and since.
use Rattle.std.proofs.Common.{◌≡◌, Bool, true, false, ◌&&◌, List, [], ◌∷◌, ◌++◌, append-nil, append_assoc, map, Option, None, Some, refl, sym, ap, ◌∙◌}
use Rattle.std.specs.Prelude.{⊤}
use Rattle.std.specs.List.{AllByRecursion}
use Rattle.std.proofs.lemmas.List.Elements.{filter_map-append}
use Rattle.inet_frame.specs.Counted.{tcp_in}
use Rattle.inet_frame.specs.Fields.{TcpFields}
use Rattle.tcp_track.specs.Lines.{Item, commit, segment_of, sent, sent_of, trim}
use Rattle.tcp_track.specs.Stands.{segments}
use Rattle.tcp_track.specs.declared.openings.Opening.{Opening}
use Rattle.frame_mirror.specs.declared.ring.Waiting.{Waiting}
use Rattle.state_wire.specs.Guest.{Kind}
use Rattle.pair_theorem.specs.ClientFrames.{trim_items, trims_by}
use Rattle.pair_theorem.specs.GuestTurns.{TurnNumbers, add_turn, turn_from, turn_if, turn_with, turn_without}
use Rattle.pair_theorem.specs.Past.{NodeRun}
use Rattle.pair_theorem.specs.Splicing.{before_commit, before_commit_from, since_commit, since_commit_from}

-- what is no commit
abbrev pub IsOwn : Item → Type 0
IsOwn (sent s) = ⊤
IsOwn (trim t client to) = ⊤
IsOwn commit = ⊥

pub sent_own : (xs : List TcpFields) → AllByRecursion IsOwn (map sent xs)
sent_own [] = tt
sent_own (x ∷ xs) = (tt, sent_own xs)

pub trims_own : (w : Waiting) → AllByRecursion IsOwn (trims_by w)
unfolding trims_by
trims_own w = by (tcp_in w.frame) w.seen
  where
    by : (s : Option TcpFields) (seen : Option Opening) → AllByRecursion IsOwn (trim_items s seen w.trim)
    by None seen = tt
    by (Some s) None = tt
    by (Some s) (Some o) = (tt, tt)

-- own items leave those before the last commit
own_leaves : (before own more : List Item) → AllByRecursion IsOwn more → before_commit_from before own more ≡ before
own_leaves before own [] h = refl
own_leaves before own (sent s ∷ more) h = own_leaves before (own ++ sent s ∷ []) more h.1
own_leaves before own (trim t client to ∷ more) h = own_leaves before (own ++ trim t client to ∷ []) more h.1
own_leaves before own (commit ∷ more) h = absurd h.0

same_from : (before own items more : List Item) → AllByRecursion IsOwn more
    → before_commit_from before own (items ++ more) ≡ before_commit_from before own items
same_from before own [] more h = own_leaves before own more h
same_from before own (sent s ∷ items) more h = same_from before (own ++ sent s ∷ []) items more h
same_from before own (trim t client to ∷ items) more h = same_from before (own ++ trim t client to ∷ []) items more h
same_from before own (commit ∷ items) more h = same_from (before ++ own ++ commit ∷ []) [] items more h

pub same_before : (items more : List Item) → AllByRecursion IsOwn more
    → before_commit (items ++ more) ≡ before_commit items
same_before items more h = same_from [] [] items more h

-- a commit takes all
all_from : (before own items : List Item)
    → before_commit_from before own (items ++ commit ∷ []) ≡ before ++ (own ++ (items ++ commit ∷ []))
all_from before own [] = append_assoc before own (commit ∷ [])
all_from before own (sent s ∷ items) =
    all_from before (own ++ sent s ∷ []) items
    ∙ ap (λ (xs : List Item). before ++ xs) (append_assoc own (sent s ∷ []) (items ++ commit ∷ []))
all_from before own (trim t client to ∷ items) =
    all_from before (own ++ trim t client to ∷ []) items
    ∙ ap (λ (xs : List Item). before ++ xs) (append_assoc own (trim t client to ∷ []) (items ++ commit ∷ []))
all_from before own (commit ∷ items) =
    all_from (before ++ own ++ commit ∷ []) [] items
    ∙ (append_assoc (before ++ own) (commit ∷ []) (items ++ commit ∷ [])
    ∙ append_assoc before own (commit ∷ (items ++ commit ∷ [])))

-- a commit is no segment
pub committed_sends : (items : List Item) → sent_of (items ++ commit ∷ []) ≡ sent_of items
committed_sends items = filter_map-append segment_of items (commit ∷ []) ∙ append-nil (sent_of items)

pub committed_before : (items : List Item) → sent_of (before_commit (items ++ commit ∷ [])) ≡ sent_of items
committed_before items = ap (λ (xs : List Item). sent_of xs) (all_from [] [] items) ∙ committed_sends items

-- before it and since are all
together_from : (before own items : List Item)
    → before_commit_from before own items ++ since_commit_from own items ≡ before ++ (own ++ items)
together_from before own [] = ap (λ (xs : List Item). before ++ xs) (sym (append-nil own))
together_from before own (sent s ∷ items) =
    together_from before (own ++ sent s ∷ []) items
    ∙ ap (λ (xs : List Item). before ++ xs) (append_assoc own (sent s ∷ []) items)
together_from before own (trim t client to ∷ items) =
    together_from before (own ++ trim t client to ∷ []) items
    ∙ ap (λ (xs : List Item). before ++ xs) (append_assoc own (trim t client to ∷ []) items)
together_from before own (commit ∷ items) =
    together_from (before ++ own ++ commit ∷ []) [] items
    ∙ (append_assoc (before ++ own) (commit ∷ []) items ∙ append_assoc before own (commit ∷ items))

pub sent_together : (items : List Item)
    → sent_of (before_commit items) ++ sent_of (since_commit items) ≡ sent_of items
sent_together items =
    sym (filter_map-append segment_of (before_commit items) (since_commit items))
    ∙ ap (λ (xs : List Item). sent_of xs) (together_from [] [] items)

-- a turn adds what it sends
pub turn_items : (kind : Kind) (node : NodeRun) (inbox : List Waiting) (takes : Bool) (n : TurnNumbers)
    → (turn_from kind node inbox takes n).run.items
    ≡ node.items ++ map sent (segments (turn_from kind node inbox takes n).output)
unfolding turn_from turn_if turn_with turn_without add_turn
turn_items kind node [] takes n = refl
turn_items kind node (w ∷ inbox) takes n = by (takes && kind.can_receive node.run.state)
  where
    by : (b : Bool) → (turn_if b kind node w inbox n).run.items
        ≡ node.items ++ map sent (segments (turn_if b kind node w inbox n).output)
    by true = refl
    by false = refl
