-- Settling over what a node keeps is settling of the whole history.
use Rattle.std.proofs.Common.{◌≡◌, ◌≤◌, Bool, true, false, ◌||◌, List, [], ◌∷◌, ◌++◌, fold, is_some, Option, None, Some, refl, sym, ap, subst, ◌∙◌, true≢false, arith}
use Rattle.std.specs.List.{AllByRecursion, list_any}
use Rattle.std.specs.Map.{keys_of}
use Rattle.std.specs.Option.{option_map}
use Rattle.inet_frame.specs.declared.tuple.Tuple.{Tuple}
use Rattle.tcp_track.specs.LineFields.{LineFields}
use Rattle.tcp_track.specs.Lines.{Item, order}
use Rattle.tcp_track.specs.Segments.{same_tuple}
use Rattle.tcp_track.specs.Tracking.{Tracking, entry_of, line_at}
use Rattle.tcp_track.specs.declared.answers.Took.{Took}
use Rattle.tcp_track.specs.declared.table.Entry.{Entry}
use Rattle.tcp_track.proofs.TupleLemmas.{is_some-lookup, same_tuple-refl}
use Rattle.settle_rules.specs.Matching.{BothLines}
use Rattle.settle_rules.specs.OwnFrames.{OwnFrames}
use Rattle.settle_rules.specs.Progress.{Progress, ProgressTable, progress_of, put_progress}
use Rattle.settle_rules.specs.Settle.{Scene, Settled, Settlement, both_lines, settle_or_rest, settle_tuple, settle as settle_all}
use Rattle.settle_rules.specs.Settle as rules
use Rattle.settle_table.specs.Kept.{KeptScene, add_tuple, both_kept, line_settled, no_release, settle_found, settle_kept, settle_kept_tuple, settle_line, tuples_of}
use Rattle.settle_table.specs.Kept as table
use Rattle.settle_table.specs.Table.{AreUntrimmed, progress_at, set_progress}
use Rattle.settle_table.proofs.TableLemmas.{untrimmed_set}
use Rattle.line_match.specs.Untrimmed.{IsUntrimmed}
use Rattle.out_compare.specs.Comparing.{Comparing, scene_of, settle, settlement_of}
use Rattle.compare_laws.proofs.AgeLemmas.{one_edge, rest_edge}
use Rattle.settle_history.specs.Laws.{scene_within}
use Rattle.settle_history.specs.Standing.{SameProgress, StandsFor, StandsWithin}
use Rattle.settle_history.proofs.AlikeLemmas.{edge_low, settles_or_rests_alike}
use Rattle.settle_history.proofs.ProgressLemmas.{put_alike}
use Rattle.settle_history.proofs.TrackLemmas.{order_is}
use Rattle.settle_history.proofs.WholeLemmas.{both_alike, low_edge}

-- ONE CONNECTION

-- it is settled alike
one_alike : (own : OwnFrames) (theirs : List Item) (heard : List Tuple) (is_alone is_turn : Bool) (x : Comparing)
    (t : Tuple) (l : LineFields) (p : Progress) → line_at x.mine t ≡ Some l → IsUntrimmed l p.edge →
    StandsWithin own theirs heard is_alone x →
    line_settled (scene_of x is_turn) p t l
    ≡ settle_or_rest (rules.is_restarted (scene_within own theirs heard is_alone is_turn) t)
    (both_lines (scene_within own theirs heard is_alone is_turn) t) p is_turn own.tooks
unfolding line_settled both_lines
one_alike own theirs heard is_alone is_turn x t l p at u h =
    let scene = scene_within own theirs heard is_alone is_turn in
    let a = both_alike own theirs heard is_alone is_turn x t l at h in
    (λ i. settle_or_rest (list_any (same_tuple t) (h.restarts_are i)) (a.is i) p is_turn (h.tooks_are i))
    ∙ settles_or_rests_alike (rules.is_restarted scene t) (both_lines scene t) a.mine_symbols a.their_symbols p is_turn
    own.tooks (low_edge own.items x.mine t l p.edge at h.mine_is u) a.mine_from a.theirs_from

-- edges only grow
settled_low : (restarted : Bool) (b : BothLines) (p : Progress) (is_turn : Bool) (tooks : List Took) →
    p.edge ≤ (settle_or_rest restarted b p is_turn tooks).progress.edge
settled_low true b p is_turn tooks = omega (arith, rest_edge b p is_turn)
settled_low false b p is_turn tooks = omega (arith, one_edge b p is_turn tooks, edge_low b p.edge)

-- the same goes out, and the same progress is found then
pub record SameSettlement (a b : Settlement) : Type 0 where
  pub progress_is : SameProgress a.progress b.progress
  pub out_is : b.out ≡ a.out

some_same : (m l : LineFields) → Some m ≡ Some l → m ≡ l
some_same m l e = cc

settle_tuple_alike : (scene : Scene) (kept : KeptScene) (t : Tuple) (l : LineFields) (a b : Settlement) →
    line_at kept.mine t ≡ Some l → line_settled kept (progress_at b.progress t) t l
    ≡ settle_or_rest (rules.is_restarted scene t) (both_lines scene t) (progress_of t a.progress) scene.is_turn
    scene.tooks → SameSettlement a b → SameSettlement (settle_tuple scene a t) (add_tuple kept b t)
unfolding settle_tuple settle_kept_tuple settle_line
settle_tuple_alike scene kept t l a b at one h = by (line_at kept.mine t) at
  where
    its : Settled
    its = settle_or_rest (rules.is_restarted scene t) (both_lines scene t) (progress_of t a.progress) scene.is_turn
        scene.tooks

    by : (o : Option LineFields) → o ≡ Some l → SameSettlement (record {
      progress = put_progress t its.progress a.progress;
      out = a.out ++ its.out;
    }) (record {
      progress = (settle_found kept b.progress t o).progress;
      out = b.out ++ (settle_found kept b.progress t o).out;
    })
    by None e = absurd (cc e)
    by (Some m) e =
        let mine : line_settled kept (progress_at b.progress t) t m ≡ its =
        ap (λ (k : LineFields). line_settled kept (progress_at b.progress t) t k) (some_same m l e) ∙ one in
        record {
          progress_is = subst (λ (s : Settled). SameProgress (put_progress t its.progress a.progress)
              (set_progress b.progress t s.progress)) (sym mine)
              (put_alike a.progress b.progress t its.progress h.progress_is);
          out_is = λ i. h.out_is i ++ (mine i).out;
        }

tuple_untrimmed : (kept : KeptScene) (b : Settlement) (t : Tuple) → AreUntrimmed kept.mine b.progress →
    AreUntrimmed kept.mine (add_tuple kept b t).progress
unfolding settle_kept_tuple settle_line line_settled
tuple_untrimmed kept b t u = by (line_at kept.mine t)
  where
    by : (o : Option LineFields) → AreUntrimmed kept.mine (settle_found kept b.progress t o).progress
    by None = u
    by (Some l) = untrimmed_set kept.mine b.progress t
        (line_settled kept (progress_at b.progress t) t l).progress u
        (settled_low (table.is_restarted kept t) (both_kept kept t l) (progress_at b.progress t) kept.is_turn
        kept.tooks)

-- ALL CONNECTIONS

-- a tuple with a line
abbrev pub HasLine : Tracking → Tuple → Type 0
HasLine mine t = (l : LineFields) × (line_at mine t ≡ Some l)

line_of_entry : (o : Option Entry) → is_some o ≡ true →
    (l : LineFields) × (option_map (λ (e : Entry). e.line) o ≡ Some l)
line_of_entry None e = absurd (true≢false (sym e))
line_of_entry (Some x) e = (x.line, refl)

have_lines : (mine : Tracking) (ts : List Tuple) → ((u : Tuple) → list_any (same_tuple u) ts ≡ true →
    list_any (same_tuple u) (keys_of mine.entries) ≡ true) → AllByRecursion (HasLine mine) ts
have_lines mine [] within = tt
have_lines mine (t ∷ ts) within = (
  line_of_entry (entry_of mine.entries t) (is_some-lookup t mine.entries
      ∙ within t (ap (λ (b : Bool). b || list_any (same_tuple t) ts) (same_tuple-refl t))),
  have_lines mine ts (λ u e. within u (more (same_tuple u t) (list_any (same_tuple u) ts) e)),
)
  where
    more : (a b : Bool) → b ≡ true → (a || b) ≡ true
    more true b e = refl
    more false b e = e

pub each_has_line : (mine : Tracking) → AllByRecursion (HasLine mine) (keys_of mine.entries)
each_has_line mine = have_lines mine (keys_of mine.entries) (λ u e. e)

pub record Settles (mine : Tracking) (a b : Settlement) : Type 0 where
  pub alike : SameSettlement a b
  pub untrimmed : AreUntrimmed mine b.progress

all_alike : (own : OwnFrames) (theirs : List Item) (heard : List Tuple) (is_alone is_turn : Bool) (x : Comparing)
    (ts : List Tuple) (a b : Settlement) → StandsWithin own theirs heard is_alone x →
    AllByRecursion (HasLine x.mine) ts → Settles x.mine a b →
    Settles x.mine (fold (settle_tuple (scene_within own theirs heard is_alone is_turn)) a ts)
    (fold (add_tuple (scene_of x is_turn)) b ts)
all_alike own theirs heard is_alone is_turn x [] a b h lines s = s
all_alike own theirs heard is_alone is_turn x (t ∷ ts) a b h lines s =
    let scene = scene_within own theirs heard is_alone is_turn in
    let l = lines.0.0 in
    let at = lines.0.1 in
    let one = one_alike own theirs heard is_alone is_turn x t l (progress_at b.progress t) at (s.untrimmed t l at) h
    ∙ ap (λ (p : Progress). settle_or_rest (rules.is_restarted scene t) (both_lines scene t) p is_turn own.tooks)
    (s.alike.progress_is t) in
    all_alike own theirs heard is_alone is_turn x ts (settle_tuple scene a t) (add_tuple (scene_of x is_turn) b t) h
    lines.1 (record {
      alike = settle_tuple_alike scene (scene_of x is_turn) t l a b at one s.alike;
      untrimmed = tuple_untrimmed (scene_of x is_turn) b t s.untrimmed;
    })

-- what an event releases, and the progress then
pub settlement_alike : (own : OwnFrames) (theirs : List Item) (heard : List Tuple) (is_alone is_turn : Bool)
    (x : Comparing) → StandsWithin own theirs heard is_alone x →
    Settles x.mine (settle_all (scene_within own theirs heard is_alone is_turn) (order own.items) own.progress)
    (settlement_of x is_turn)
unfolding settlement_of settle_kept settle_all
settlement_alike own theirs heard is_alone is_turn x h =
    let scene = scene_within own theirs heard is_alone is_turn in
    let a : Settlement = record { progress = own.progress; out = [] } in
    let b : Settlement = record { progress = x.progress; out = [] } in
    subst (λ (ts : List Tuple). Settles x.mine (fold (settle_tuple scene) a ts)
    (fold (add_tuple (scene_of x is_turn)) b (keys_of x.mine.entries))) (sym (order_is own.items x.mine h.mine_is))
    (all_alike own theirs heard is_alone is_turn x (keys_of x.mine.entries) a b h (each_has_line x.mine) (record {
      alike = record { progress_is = h.progress_is; out_is = refl };
      untrimmed = h.untrimmed;
    }))

-- and the comparer stands for the history then
pub settles_to : (own : OwnFrames) (theirs : List Item) (heard : List Tuple) (is_alone is_turn : Bool)
    (x : Comparing) (p : ProgressTable) → StandsWithin own theirs heard is_alone x →
    SameProgress p (settlement_of x is_turn).progress → AreUntrimmed x.mine (settlement_of x is_turn).progress →
    StandsFor (record {
      mine = own.items;
      theirs = theirs;
      numbers = own.numbers;
      progress = p;
      is_alone = is_alone;
    }) (settle x is_turn)
unfolding settle
settles_to own theirs heard is_alone is_turn x p h progress untrimmed = record {
  mine_is = h.mine_is;
  theirs_is = h.theirs_is;
  numbers_are = h.numbers_are;
  known = h.known;
  numbered = h.numbered;
  progress_is = progress;
  untrimmed = untrimmed;
  tooks_are = refl;
  restarts_are = refl;
  alone = h.alone;
}
