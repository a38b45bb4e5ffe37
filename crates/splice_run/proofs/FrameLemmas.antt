-- What client events say of a frame, read from the log's end.
use Rattle.std.proofs.Common.{◌≡◌, ℕ, ◌+◌, ◌-◌, ◌<◌, ◌≤◌, List, [], ◌∷◌, ◌++◌, Option, None, length, take, get_or, refl, sym, ap, ◌∙◌, arith}
use Rattle.std.proofs.lemmas.List.{take_more}
use Rattle.tcp_track.specs.declared.openings.Opening.{Opening}
use Rattle.replay_log.specs.declared.records.Record.{Record}
use Rattle.splice_run.specs.declared.seen.ClientFrame.{ClientFrame}
use Rattle.splice_run.specs.Frames.{client_frame, seen_first, seen_before, seen_in}

pub seen_push : (log : List Record) (r : Record) (index : ℕ) (later : Option (Option Opening)) →
    seen_before (log ++ r ∷ []) index later ≡ seen_before log index (seen_first (client_frame r) index later)
seen_push [] r index later = refl
seen_push (q ∷ log) r index later = ap (λ (o : Option (Option Opening)). seen_first (client_frame q) index o)
    (seen_push log r index later)

pub seen_all : (log : List Record) (index : ℕ) → seen_before log index None ≡ seen_in log index
unfolding seen_in
seen_all log index = refl

-- one event more, nearer to the log's start
pub seen_step : (log : List Record) (end : ℕ) (r : Record) (frame : Option ClientFrame) (index : ℕ)
    (old new total : Option (Option Opening)) →
    0 < end → end ≤ length log → r ≡ get_or log (end - 1) r → frame ≡ client_frame r →
    new ≡ seen_first frame index old →
    seen_before (take end log) index old ≡ total → seen_before (take (end - 1) log) index new ≡ total
seen_step log end r frame index old new total some within at is said so_far =
    let k = end - 1 in
    let one : end ≡ k + 1 = omega arith in
    let whole : take end log ≡ take k log ++ r ∷ [] =
    ap (λ (n : ℕ). take n log) one ∙ (take_more log k r (omega arith) ∙ ap (λ (x : Record). take k log
    ++ x ∷ []) (sym at)) in
    ap (λ (o : Option (Option Opening)). seen_before (take k log) index o) (said ∙
    ap (λ (f : Option ClientFrame). seen_first f index old) is)
    ∙ (sym (seen_push (take k log) r index old) ∙ (ap (λ (l : List Record). seen_before l index old) (sym whole) ∙
    so_far))
