-- The touched places are settled, and the others rest.
use Rattle.std.proofs.Common.{◌≡◌, ℕ, ◌++◌, not, nat_lt, map, List, sym, ap, subst, ◌∙◌}
use Rattle.settle_rules.specs.Release.{released_frame}
use Rattle.settle_rules.specs.Settle.{Settlement}
use Rattle.settle_table.specs.Scenes.{kept_scene}
use Rattle.settle_touched.specs.Ages.{StoredTable, table_now, turns_after}
use Rattle.settle_touched.specs.Places.{AreAscending, IsAtRest, IsStored, is_among, settle_places}
use Rattle.settle_touched.specs.TouchedPlaces.{is_stale, is_touched}
use Rattle.settle_touched.proofs.KeepLemmas.{IsNoted, IsReady, rests_on, settles_all}
use Rattle.settle_touched.proofs.RestLemmas.{stores_on}
use Rattle.settle_touched.proofs.keeping.settle_touched.Goals as goal

pub returns-clause-progress : goal.returns-clause-progress
returns-clause-progress c =
    let scene = kept_scene c.args.scene.now in
    let kept = c.args.kept.now in
    let table = kept.table.entries in
    let places = c.in_ok-places.places.items in
    let ready : IsReady scene kept.turns table (is_touched kept.touched) (is_stale kept.stale) places = record {
      distinct = c.requires.kept.distinct;
      stored = c.requires.kept.stored;
      rests = c.requires.kept.rests;
      event = c.requires.event;
      ascending = subst (λ (n : ℕ). AreAscending 0 n places) c.len-bound.ensures c.in_ok-places.ensures.ascending;
      each = λ k low none. c.in_ok-places.ensures.each k (ap (nat_lt k) c.len-bound.ensures ∙ low) none;
      aged = λ turn k low none. c.in_ok-places.ensures.stale turn k (ap (nat_lt k) c.len-bound.ensures ∙ low) none;
    } in
    let settled = c.in_ok-settle_places.ensures.table
    ∙ ap (λ (ks : List ℕ). (settle_places scene kept.turns table ks).table) c.as_slice.ensures.value in
    (λ i. table_now (c.turns_after-kept.ensures i) (settled i))
    ∙ sym (ap (λ (s : Settlement). s.progress)
    (settles_all scene kept.turns table (is_touched kept.touched) (is_stale kept.stale) places ready))

pub returns-clause-out : goal.returns-clause-out
returns-clause-out c =
    let scene = kept_scene c.args.scene.now in
    let kept = c.args.kept.now in
    let old = c.args.out.now in
    let table = kept.table.entries in
    let places = c.in_ok-places.places.items in
    let ready : IsReady scene kept.turns table (is_touched kept.touched) (is_stale kept.stale) places = record {
      distinct = c.requires.kept.distinct;
      stored = c.requires.kept.stored;
      rests = c.requires.kept.rests;
      event = c.requires.event;
      ascending = subst (λ (n : ℕ). AreAscending 0 n places) c.len-bound.ensures c.in_ok-places.ensures.ascending;
      each = λ k low none. c.in_ok-places.ensures.each k (ap (nat_lt k) c.len-bound.ensures ∙ low) none;
      aged = λ turn k low none. c.in_ok-places.ensures.stale turn k (ap (nat_lt k) c.len-bound.ensures ∙ low) none;
    } in
    c.in_ok-settle_places.ensures.out
    ∙ (ap (λ (ks : List ℕ). old ++ map released_frame (settle_places scene kept.turns table ks).out)
    c.as_slice.ensures.value
    ∙ sym (ap (λ (s : Settlement). old ++ map released_frame s.out)
    (settles_all scene kept.turns table (is_touched kept.touched) (is_stale kept.stale) places ready)))

pub returns-clause-kept : goal.returns-clause-kept
returns-clause-kept c =
    let scene = kept_scene c.args.scene.now in
    let kept = c.args.kept.now in
    let table = kept.table.entries in
    let places = c.in_ok-places.places.items in
    let touched = c.touch_restarted.new.touched in
    let stale = c.note.new.self in
    let ascending = subst (λ (n : ℕ). AreAscending 0 n places) c.len-bound.ensures
    c.in_ok-places.ensures.ascending in
    let ready : IsReady scene kept.turns table (is_touched kept.touched) (is_stale kept.stale) places = record {
      distinct = c.requires.kept.distinct;
      stored = c.requires.kept.stored;
      rests = c.requires.kept.rests;
      event = c.requires.event;
      ascending = ascending;
      each = λ k low none. c.in_ok-places.ensures.each k (ap (nat_lt k) c.len-bound.ensures ∙ low) none;
      aged = λ turn k low none. c.in_ok-places.ensures.stale turn k (ap (nat_lt k) c.len-bound.ensures ∙ low) none;
    } in
    let noted : IsNoted scene (is_stale kept.stale) (is_touched touched) (is_stale stale) places = record {
      restarted = λ k x at there r.
          c.touch_restarted.ensures k x at (ap (is_among k) c.as_slice-2.ensures.value ∙ there) r;
      settled = λ still k there.
          c.in_ok-note.ensures.settled still k (ap (is_among k) c.as_slice-3.ensures.value ∙ there);
      others = λ still k s. c.in_ok-note.ensures.others still k s;
    } in
    let settled = c.in_ok-settle_places.ensures.table
    ∙ ap (λ (ks : List ℕ). (settle_places scene kept.turns table ks).table) c.as_slice.ensures.value in
    record {
      distinct = c.requires.kept.distinct;
      stored = subst (λ (n : ℕ). IsStored scene n c.settle_places.new.table.entries) (sym c.turns_after-kept.ensures)
          (subst (λ (es : StoredTable). IsStored scene (turns_after scene.is_turn kept.turns) es) (sym settled)
          (stores_on scene kept.turns table places c.requires.kept.distinct ascending c.requires.kept.stored));
      untrimmed = c.in_ok-settle_places.ensures.untrimmed;
      rests = λ k x at free.
          subst (λ (es : StoredTable). IsAtRest scene es x.0 x.1.line (not (is_stale stale k))) (sym settled)
          (rests_on scene kept.turns table (is_touched kept.touched) (is_stale kept.stale) (is_touched touched)
          (is_stale stale) places ready noted k x at free);
    }
