-- What a settled place leaves, by the line at it.
use Rattle.std.proofs.Common.{◌≡◌, ℕ, List, Result, Ok, Err, Option, Some, refl, sym, ap, ◌∙◌}
use Rattle.std.specs.Result.{IfOk, OnOk}
use Rattle.inet_frame.specs.declared.tuple.Tuple.{Tuple}
use Rattle.tcp_track.specs.LineFields.{LineFields}
use Rattle.tcp_track.specs.Tracking.{entry_at}
use Rattle.settle_rules.specs.Matching.{BothLines}
use Rattle.settle_rules.specs.Release.{Released}
use Rattle.settle_rules.specs.Settle.{settle_or_rest}
use Rattle.settle_table.specs.Kept.{KeptScene, both_kept, is_restarted, line_settled}
use Rattle.settle_touched.specs.Ages.{StoredTable, stored_after}
use Rattle.settle_touched.specs.Places.{set_stored, settle_entry, settle_entry_at, settle_place, stored_of}

pub if_ok_map : {X E : Type 0} (r : Result X E) (P Q : X → Type 0) → IfOk r P → ((x : X) → P x → Q x) → IfOk r Q
if_ok_map (Ok x) P Q h f = f x h
if_ok_map (Err e) P Q h f = h

pub if_ok_both : {X E : Type 0} (r : Result X E) (P Q R : X → Type 0) → IfOk r P → IfOk r Q →
    ((x : X) → P x → Q x → R x) → IfOk r R
if_ok_both (Ok x) P Q R h k f = f x h k
if_ok_both (Err e) P Q R h k f = h

pub on_ok_map : {X E : Type 0} (r : Result X E) (P Q : Type 0) → OnOk r P → (P → Q) → OnOk r Q
on_ok_map (Ok x) P Q h f = f h
on_ok_map (Err e) P Q h f = h

pub on_ok_both : {X E : Type 0} (r : Result X E) (P Q R : Type 0) → OnOk r P → OnOk r Q → (P → Q → R) → OnOk r R
on_ok_both (Ok x) P Q R h k f = f h k
on_ok_both (Err e) P Q R h k f = h

pub place_table : (scene : KeptScene) (turns : ℕ) (table : StoredTable) (k : ℕ) (t u : Tuple) (l : LineFields)
    (b : BothLines) → u ≡ t → b ≡ both_kept scene t l → entry_at scene.mine k ≡ Some (t, l) →
    set_stored table u (stored_after scene.is_turn turns (stored_of table u k)
    (settle_or_rest (is_restarted scene u) b (stored_of table u k).progress scene.is_turn scene.tooks).progress)
    ≡ (settle_place scene turns table k).table
unfolding settle_entry line_settled
place_table scene turns table k t u l b p q at =
    (λ i. set_stored table (p i) (stored_after scene.is_turn turns (stored_of table (p i) k)
    (settle_or_rest (is_restarted scene (p i)) (q i) (stored_of table (p i) k).progress scene.is_turn
    scene.tooks).progress))
    ∙ sym (ap (λ (o : Option (Tuple × LineFields)). (settle_entry_at scene turns table k o).table) at)

pub place_out : (scene : KeptScene) (turns : ℕ) (table : StoredTable) (k : ℕ) (t u : Tuple) (l : LineFields)
    (b : BothLines) → u ≡ t → b ≡ both_kept scene t l → entry_at scene.mine k ≡ Some (t, l) →
    (settle_or_rest (is_restarted scene u) b (stored_of table u k).progress scene.is_turn scene.tooks).out
    ≡ (settle_place scene turns table k).out
unfolding settle_entry line_settled
place_out scene turns table k t u l b p q at =
    (λ i. (settle_or_rest (is_restarted scene (p i)) (q i) (stored_of table (p i) k).progress scene.is_turn
    scene.tooks).out)
    ∙ sym (ap (λ (o : Option (Tuple × LineFields)). (settle_entry_at scene turns table k o).out) at)
