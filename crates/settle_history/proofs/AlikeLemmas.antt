-- No symbol below a line's base is read: lines that have other symbols there are settled alike,
-- differ alike, and are released alike by a survivor.
use Rattle.std.proofs.Common.{◌≡◌, ℕ, ◌+◌, ◌-◌, ◌≤◌, ◌&&◌, ◌||◌, if◌then◌else◌, Bool, true, false, not, nat_le, nat_lt, is_some, List, [], ◌∷◌, ◌++◌, drop, drop-drop, take, max, min, slice_get, flat_map, None, refl, sym, ap, ◌∙◌, arith}
use Rattle.std.proofs.lemmas.Bool.{cond_both, leb-true, ltb-false}
use Rattle.tcp_track.proofs.ElementLemmas.{get_drop}
use Rattle.line_settle.proofs.PartLemmas.{settle_one_is}
use Rattle.std.specs.List.{common_prefix_len}
use Rattle.tcp_track.specs.Lines.{Line}
use Rattle.tcp_track.specs.Segments.{Symbol, same_symbol, same_tuple}
use Rattle.tcp_track.specs.declared.answers.Took.{Took}
use Rattle.tcp_track.specs.declared.answers.What.{What}
use Rattle.tcp_track.specs.declared.answers.What.TheVariants.{Ignored, Opened, Restarted, Symbols, Reset, Refused}
use Rattle.settle_rules.specs.Matching.{BothLines, are_different, client_or_zero, differs_at, has_one_client, known_symbol, lacks_at, matched_end, their_acked}
use Rattle.settle_rules.specs.Progress.{Progress}
use Rattle.settle_rules.specs.Release.{release_bare, release_refusal, release_reset, release_symbols, symbol_segments}
use Rattle.settle_rules.specs.Settle.{age_after, age_key_of, grow_older, settle_one, shown_after, agrees_on_reset, goes_out, is_empty, new_edge, release_again, release_span, wants_bare}
use Rattle.settle_history.specs.Laws.{AgreeFromBase, ReadsFromTheBase, with_symbols}
use Rattle.line_settle.specs.Parts.{grow_if_turn, all_out, bare_goes, last_after, plain_out, refusal_goes, settled_progress, symbols_out}

-- from any offset on that is not below the base
pub from_base : (base from : ℕ) (xs zs : List Symbol) → base ≤ from → drop base xs ≡ drop base zs →
    drop from xs ≡ drop from zs
from_base base from xs zs low e =
    let split : base + (from - base) ≡ from = omega (arith, low) in
    sym (ap (λ (n : ℕ). drop n xs) split)
    ∙ (sym (drop-drop (from - base) base xs)
    ∙ (ap (λ (ws : List Symbol). drop (from - base) ws) e
    ∙ (drop-drop (from - base) base zs ∙ ap (λ (n : ℕ). drop n zs) split)))

pub release_alike : (b : BothLines) (xs ys : List Symbol) (from to : ℕ) → drop from xs ≡ drop from b.mine.symbols
    → release_symbols (with_symbols b xs ys) from to ≡ release_symbols b from to
unfolding release_symbols
release_alike b xs ys from to e = ap (λ (zs : List Symbol). symbol_segments b from (take (to - from) zs)) e

low_max : (from base : ℕ) → base ≤ max from base
low_max from base = omega arith

span_alike : (b : BothLines) (xs ys : List Symbol) (edge : ℕ) (w : What)
    → AgreeFromBase b.mine xs
    → release_span (with_symbols b xs ys) edge w ≡ release_span b edge w
span_alike b xs ys edge Ignored e = refl
span_alike b xs ys edge (Opened o) e = refl
span_alike b xs ys edge (Restarted o) e = refl
span_alike b xs ys edge (Symbols from to) e =
    release_alike b xs ys (max from b.mine.base) (min to edge)
    (from_base b.mine.base (max from b.mine.base) xs b.mine.symbols (low_max from b.mine.base) e)
span_alike b xs ys edge Reset e = refl
span_alike b xs ys edge (Refused c) e = refl

again_alike : (b : BothLines) (xs ys : List Symbol) (edge : ℕ) (tooks : List Took)
    → AgreeFromBase b.mine xs
    → flat_map (release_again (with_symbols b xs ys) edge) tooks ≡ flat_map (release_again b edge) tooks
unfolding release_again
again_alike b xs ys edge [] e = refl
again_alike b xs ys edge (k ∷ ks) e =
    λ i. (if same_tuple k.tuple b.tuple then span_alike b xs ys edge k.what e i else [])
    ++ again_alike b xs ys edge ks e i

pub end_alike : (b : BothLines) (xs ys : List Symbol) (edge : ℕ) → b.mine.base ≤ edge
    → AgreeFromBase b.mine xs → AgreeFromBase b.theirs ys
    → matched_end (with_symbols b xs ys) edge ≡ matched_end b edge
end_alike b xs ys edge low e f = by (has_one_client b) (nat_le b.theirs.base edge) refl
  where
    by : (one known : Bool) → nat_le b.theirs.base edge ≡ known →
        (if one && known then edge + common_prefix_len same_symbol (drop edge xs) (drop edge ys) else edge)
        ≡ (if one && known then edge
        + common_prefix_len same_symbol (drop edge b.mine.symbols) (drop edge b.theirs.symbols) else edge)
    by true true g =
        let mine = from_base b.mine.base edge xs b.mine.symbols low e in
        let theirs = from_base b.theirs.base edge ys b.theirs.symbols (leb-true b.theirs.base edge g) f in
        λ i. edge + common_prefix_len same_symbol (mine i) (theirs i)
    by true false g = refl
    by false known g = refl

edge_alike : (b : BothLines) (xs ys : List Symbol) (edge : ℕ) → b.mine.base ≤ edge
    → AgreeFromBase b.mine xs → AgreeFromBase b.theirs ys
    → new_edge (with_symbols b xs ys) edge ≡ new_edge b edge
edge_alike b xs ys edge low e f =
    ap (λ (n : ℕ). if goes_out b edge then n else edge) (end_alike b xs ys edge low e f)

pub symbols_alike : (b : BothLines) (xs ys : List Symbol) (p : Progress) (tooks : List Took) → b.mine.base ≤ p.edge
    → AgreeFromBase b.mine xs → AgreeFromBase b.theirs ys
    → symbols_out (with_symbols b xs ys) p tooks ≡ symbols_out b p tooks
unfolding symbols_out
symbols_alike b xs ys p tooks low e f =
    (λ i. again_alike b xs ys p.edge tooks e i
    ++ release_alike b xs ys p.edge (new_edge (with_symbols b xs ys) p.edge)
    (from_base b.mine.base p.edge xs b.mine.symbols low e) i)
    ∙ ap (λ (n : ℕ). flat_map (release_again b p.edge) tooks ++ release_symbols b p.edge n)
    (edge_alike b xs ys p.edge low e f)

pub plain_alike : (b : BothLines) (xs ys : List Symbol) (p : Progress) (tooks : List Took) → b.mine.base ≤ p.edge
    → AgreeFromBase b.mine xs → AgreeFromBase b.theirs ys
    → plain_out (with_symbols b xs ys) p tooks ≡ plain_out b p tooks
unfolding plain_out bare_goes
plain_alike b xs ys p tooks low e f =
    let s = symbols_alike b xs ys p tooks low e f in
    let n = edge_alike b xs ys p.edge low e f in
    λ i. s i ++ release_bare b (n i) (is_empty (s i) && (nat_lt 0 (n i) && wants_bare b p.edge p.last tooks))
    ++ release_reset b (n i) (p.reset_due && agrees_on_reset b (n i))

get_alike : (base m : ℕ) (xs zs : List Symbol) → base ≤ m → drop base xs ≡ drop base zs →
    slice_get xs m ≡ slice_get zs m
get_alike base m xs zs low e =
    let split : m ≡ base + (m - base) = omega (arith, low) in
    sym (get_drop base xs (m - base) m split)
    ∙ (ap (λ (ws : List Symbol). slice_get ws (m - base)) e ∙ get_drop base zs (m - base) m split)

known_alike : (l : Line) (ys : List Symbol) (m : ℕ) → drop l.base ys ≡ drop l.base l.symbols
    → known_symbol (record l { symbols = ys }) m ≡ known_symbol l m
known_alike l ys m e = by (nat_lt m l.base) refl
  where
    by : (b : Bool) → nat_lt m l.base ≡ b → (if b then None else slice_get ys m)
        ≡ (if b then None else slice_get l.symbols m)
    by true g = refl
    by false g = get_alike l.base m ys l.symbols (ltb-false m l.base g) e

lacks_alike : (b : BothLines) (xs ys : List Symbol) (m : ℕ) → b.mine.base ≤ m
    → AgreeFromBase b.mine xs → AgreeFromBase b.theirs ys
    → lacks_at (with_symbols b xs ys) m ≡ lacks_at b m
lacks_alike b xs ys m low e f =
    λ i. is_some (get_alike b.mine.base m xs b.mine.symbols low e i)
    && not (has_one_client b && is_some (known_alike b.theirs ys m f i))

pub end_low : (b : BothLines) (edge : ℕ) → edge ≤ matched_end b edge
end_low b edge =
    cond_both (has_one_client b && nat_le b.theirs.base edge)
    (edge + common_prefix_len same_symbol (drop edge b.mine.symbols) (drop edge b.theirs.symbols)) edge
    (λ (n : ℕ). edge ≤ n) (λ e. omega arith) (λ e. omega arith)

pub edge_low : (b : BothLines) (edge : ℕ) → edge ≤ new_edge b edge
edge_low b edge =
    cond_both (goes_out b edge) (matched_end b edge) edge (λ (n : ℕ). edge ≤ n) (λ e. end_low b edge) (λ e. omega arith)

older_alike : (b : BothLines) (xs ys : List Symbol) (q : Progress) → b.mine.base ≤ q.edge
    → AgreeFromBase b.mine xs → AgreeFromBase b.theirs ys
    → grow_older (with_symbols b xs ys) (matched_end (with_symbols b xs ys) q.edge) q
    ≡ grow_older b (matched_end b q.edge) q
older_alike b xs ys q low e f =
    let m = matched_end b q.edge in
    let up = end_low b q.edge in
    let lack = lacks_alike b xs ys m (omega (arith, low, up)) e f in
    ap (λ (n : ℕ). grow_older (with_symbols b xs ys) n q) (end_alike b xs ys q.edge low e f)
    ∙ (λ i. record q {
      age = age_after q (age_key_of b m)
          (lack i || (nat_lt (their_acked b) b.mine.acked || (q.reset_due || q.refusal_due)));
      age_key = age_key_of b m;
    })

aged_alike : (b : BothLines) (xs ys : List Symbol) (is_turn : Bool) (q : Progress) → b.mine.base ≤ q.edge
    → AgreeFromBase b.mine xs → AgreeFromBase b.theirs ys
    → grow_if_turn (with_symbols b xs ys) is_turn q ≡ grow_if_turn b is_turn q
aged_alike b xs ys true q low e f = older_alike b xs ys q low e f
aged_alike b xs ys false q low e f = refl

-- a connection is settled alike
pub settles_alike : (b : BothLines) (xs ys : List Symbol) (p : Progress) (is_turn : Bool) (tooks : List Took)
    → b.mine.base ≤ p.edge → AgreeFromBase b.mine xs
    → AgreeFromBase b.theirs ys
    → settle_one (with_symbols b xs ys) p is_turn tooks ≡ settle_one b p is_turn tooks
unfolding all_out
settles_alike b xs ys p is_turn tooks low e f =
    let plain = plain_alike b xs ys p tooks low e f in
    let n = edge_alike b xs ys p.edge low e f in
    let up = edge_low b p.edge in
    let q : settled_progress (with_symbols b xs ys) p (plain_out (with_symbols b xs ys) p tooks)
    ≡ settled_progress b p (plain_out b p tooks) =
    λ i. record p {
      edge = n i;
      last = last_after b p.last (is_empty (plain i));
      reset_due = p.reset_due && not (p.reset_due && agrees_on_reset b (n i));
      refusal_due = p.refusal_due && not (refusal_goes b p);
      shown = shown_after (client_or_zero b.mine.opening) p.shown (plain i);
    } in
    settle_one_is (with_symbols b xs ys) p is_turn tooks
    ∙ ((λ i. record {
      progress = grow_if_turn (with_symbols b xs ys) is_turn (q i);
      out = plain i ++ release_refusal b b.mine.refused (refusal_goes b p);
    })
    ∙ ((λ i. record {
      progress = aged_alike b xs ys is_turn (settled_progress b p (plain_out b p tooks)) (omega (arith, low, up)) e f i;
      out = all_out b p tooks;
    })
    ∙ sym (settle_one_is b p is_turn tooks)))

-- and so is one that was restarted
pub settles_or_rests_alike : ReadsFromTheBase
settles_or_rests_alike false b xs ys p is_turn tooks low e f = settles_alike b xs ys p is_turn tooks low e f
settles_or_rests_alike true b xs ys p true tooks low e f =
    ap (λ (q : Progress). record { progress = q; out = [] }) (older_alike b xs ys p low e f)
settles_or_rests_alike true b xs ys p false tooks low e f = refl

-- the two lines differ at an offset or don't
pub differs_alike : (b : BothLines) (xs ys : List Symbol) (m : ℕ) → b.mine.base ≤ m →
    AgreeFromBase b.mine xs → AgreeFromBase b.theirs ys →
    differs_at (with_symbols b xs ys) m ≡ differs_at b m
differs_alike b xs ys m low e f =
    λ i. has_one_client b && are_different (get_alike b.mine.base m xs b.mine.symbols low e i)
    (known_alike b.theirs ys m f i)
