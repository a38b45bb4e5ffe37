-- What a survivor releases is what the rules say of its items.
use Rattle.std.proofs.Common.{◌≡◌, ℕ, Bool, true, false, ◌||◌, max, List, [], ◌∷◌, ◌++◌, drop, fold, length, is_some, unwrap_or, Option, None, Some, refl, sym, ap, subst, ◌∙◌, true≢false, arith}
use Rattle.std.specs.List.{AllByRecursion, list_any}
use Rattle.std.specs.Map.{keys_of}
use Rattle.inet_frame.specs.declared.tuple.Tuple.{Tuple}
use Rattle.tcp_track.specs.LineFields.{LineFields}
use Rattle.tcp_track.specs.Lines.{Item, Line, line}
use Rattle.tcp_track.specs.Segments.{Symbol, same_tuple}
use Rattle.tcp_track.specs.Tracking.{Tracking, current_at, entry_of, line_at, no_entry}
use Rattle.tcp_track.specs.declared.openings.Opening.{Opening}
use Rattle.tcp_track.specs.declared.table.Entry.{Entry}
use Rattle.tcp_track.proofs.SymbolLemmas.{line_fits}
use Rattle.tcp_track.proofs.TupleLemmas.{is_some-lookup, same_tuple-eq}
use Rattle.seq_rewriter.specs.Kept.{keep_number, number_of}
use Rattle.line_release.specs.Whole.{whole_of}
use Rattle.settle_rules.specs.Matching.{agreed_ack_window}
use Rattle.settle_rules.specs.Numbers.{KeptNumber, kept_number, number_or_zero}
use Rattle.settle_rules.specs.Numbers as numbers_of
use Rattle.settle_rules.specs.Progress.{Progress, no_progress, put_progress}
use Rattle.settle_rules.specs.Release.{release_refusal, release_reset, release_symbols, syn_segments}
use Rattle.settle_rules.specs.Survive.{Survival, lone_lines, survive_line, survivor_out, survivor_progress, survive as survive_items, survive_tuple as survive_next}
use Rattle.settle_table.specs.Table.{set_progress}
use Rattle.out_compare.specs.Surviving.{Surviving, add_tuple, survive, survive_found, survive_tuple, survive_with}
use Rattle.out_compare.proofs.SurviveLemmas.{survivor_untrimmed}
use Rattle.settle_history.specs.Laws.{SurvivesAs, SurvivesByTheRules}
use Rattle.settle_history.specs.Standing.{AreNumbered, SameNumbers, SameProgress, Tracks}
use Rattle.settle_history.proofs.AlikeLemmas.{from_base, release_alike}
use Rattle.settle_history.proofs.NumberLemmas.{keep_has, keep_stays, numbers_keep}
use Rattle.settle_history.proofs.ProgressLemmas.{put_alike}
use Rattle.settle_history.proofs.SettleLemmas.{HasLine, each_has_line}
use Rattle.settle_history.proofs.TrackLemmas.{opening_is, order_is}
use Rattle.settle_history.proofs.WholeLemmas.{LikeLine, found_like, kept_in, number_in}

-- ONE LINE

-- no symbol below the base goes out
out_with : (t : Tuple) (l : Line) (xs : List Symbol) (n : ℕ) → drop l.base xs ≡ drop l.base l.symbols →
    length xs ≡ length l.symbols →
    survivor_out (lone_lines t (record l { symbols = xs }) n) ≡ survivor_out (lone_lines t l n)
unfolding survivor_out
out_with t l xs n e count =
    let b = lone_lines t l n in
    let from = max 1 l.base in
    let symbols = release_alike b xs xs from (length xs)
    (from_base l.base from xs l.symbols (omega arith) e)
    ∙ ap (λ (k : ℕ). release_symbols b from k) count in
    λ i. syn_segments b true
    ++ symbols i
    ++ release_reset b (count i) l.reset
    ++ release_refusal b l.refused (is_some l.refused)

out_like : (t : Tuple) (l m : Line) (n : ℕ) → LikeLine l m →
    survivor_out (lone_lines t m n) ≡ survivor_out (lone_lines t l n)
out_like t l m n h =
    ap (λ (k : Line). survivor_out (lone_lines t k n)) h.is ∙ out_with t l h.symbols n h.from h.count

progress_like : (t : Tuple) (l m : Line) (n : ℕ) (o : Opening) → LikeLine l m →
    survivor_progress (lone_lines t m n) o ≡ survivor_progress (lone_lines t l n) o
progress_like t l m n o h =
    ap (λ (k : Line). survivor_progress (lone_lines t k n) o) h.is
    ∙ (λ i. record no_progress {
      edge = h.count i;
      last = Some (agreed_ack_window (lone_lines t l n));
      shown = Some (record { client = o.client; own = n });
    })

refusal_like : (t : Tuple) (l m : Line) → LikeLine l m → (r : Option ℕ) →
    release_refusal (lone_lines t m 0) r (is_some r) ≡ release_refusal (lone_lines t l 0) r (is_some r)
refusal_like t l m h None = refl
refusal_like t l m h (Some client) =
    ap (λ (k : Line). release_refusal (lone_lines t k 0) (Some client) true) h.is

-- the same numbers and progress are found, and the same went out
record SameSurvival (a : Survival) (b : Surviving) : Type 0 where
  numbers_are : SameNumbers a.numbers b.numbers
  progress_is : SameProgress a.progress b.progress
  out_is : b.out ≡ a.out

added : Surviving → Surviving → Surviving
added x one = record one { out = x.out ++ one.out }

line_alike : (t : Tuple) (l : Line) (kept : LineFields) (o : Option Opening) (a : Survival) (b : Surviving) →
    LikeLine l (whole_of kept) → kept.refused ≡ l.refused → SameSurvival a b →
    SameSurvival (survive_line a t l o) (added b (survive_with b t kept o))
unfolding survive_line added
line_alike t l kept None a b like refused h = record {
  numbers_are = h.numbers_are;
  progress_is = h.progress_is;
  out_is = λ i. h.out_is i ++ (ap (λ (r : Option ℕ). release_refusal (lone_lines t (whole_of kept) 0) r (is_some r))
      refused ∙ refusal_like t l (whole_of kept) like l.refused) i;
}
line_alike t l kept (Some o) a b like refused h =
    let mine = numbers_of.keep_number t o.client o.own true a.numbers in
    let its = keep_number b.numbers t o.client o.own in
    let same = numbers_keep a.numbers b.numbers t o.client o.own true h.numbers_are in
    let n = unwrap_or (number_of its t o.client) 0 in
    let m = number_or_zero (kept_number t o.client mine) in
    let number = number_in mine its t o.client same in
    let progress : survivor_progress (lone_lines t (whole_of kept) n) o ≡ survivor_progress (lone_lines t l m) o =
    progress_like t l (whole_of kept) n o like
    ∙ ap (λ (k : ℕ). survivor_progress (lone_lines t l k) o) number in
    record {
      numbers_are = same;
      progress_is = subst (λ (p : Progress). SameProgress
          (put_progress t (survivor_progress (lone_lines t l m) o) a.progress) (set_progress b.progress t p))
          (sym progress) (put_alike a.progress b.progress t (survivor_progress (lone_lines t l m) o) h.progress_is);
      out_is = λ i. h.out_is i ++ (out_like t l (whole_of kept) n like
          ∙ ap (λ (k : ℕ). survivor_out (lone_lines t l k)) number) i;
    }

tuple_alike : (items : List Item) (lines : Tracking) (t : Tuple) (l : LineFields) (a : Survival) (b : Surviving) →
    line_at lines t ≡ Some l → Tracks items lines → SameSurvival a b →
    SameSurvival (survive_next items a t) (add_tuple lines b t)
unfolding survive_next survive_tuple added
tuple_alike items lines t l a b at h s =
    let k = kept_in items lines t l at h in
    subst (λ (o : Option LineFields). SameSurvival (survive_line a t (line t items) (line t items).opening)
    (added b (survive_found b t o))) (sym at)
    (subst (λ (o : Option Opening). SameSurvival (survive_line a t (line t items) (line t items).opening)
    (added b (survive_with b t l o))) (sym k.opening)
    (line_alike t (line t items) l (line t items).opening a b (found_like items lines t l at h) k.refused s))

all_alike : (items : List Item) (lines : Tracking) (ts : List Tuple) (a : Survival) (b : Surviving) →
    AllByRecursion (HasLine lines) ts → Tracks items lines → SameSurvival a b →
    SameSurvival (fold (survive_next items) a ts) (fold (add_tuple lines) b ts)
all_alike items lines [] a b have h s = s
all_alike items lines (t ∷ ts) a b have h s =
    all_alike items lines ts (survive_next items a t) (add_tuple lines b t) have.1 h
    (tuple_alike items lines t have.0.0 a b have.0.1 h s)

-- EACH CURRENT OPENING'S CLIENT HAS A NUMBER

some_same : (o p : Opening) → Some o ≡ Some p → o ≡ p
some_same o p e = cc

Has : Tuple → ℕ → Survival → Type 0
Has t client x = is_some (kept_number t client x.numbers) ≡ true

line_keeps : (x : Survival) (u t : Tuple) (client : ℕ) (l : Line) (o : Option Opening) → Has t client x →
    Has t client (survive_line x u l o)
unfolding survive_line Has
line_keeps x u t client l None h = h
line_keeps x u t client l (Some p) h = keep_stays x.numbers t client u p.client p.own true h

step_keeps : (items : List Item) (x : Survival) (u t : Tuple) (client : ℕ) → Has t client x →
    Has t client (survive_next items x u)
unfolding survive_next
step_keeps items x u t client h = line_keeps x u t client (line u items) (line u items).opening h

fold_keeps : (items : List Item) (us : List Tuple) (x : Survival) (t : Tuple) (client : ℕ) → Has t client x →
    Has t client (fold (survive_next items) x us)
fold_keeps items [] x t client h = h
fold_keeps items (u ∷ us) x t client h =
    fold_keeps items us (survive_next items x u) t client (step_keeps items x u t client h)

line_makes : (x : Survival) (t : Tuple) (l : Line) (p : Option Opening) (o : Opening) → p ≡ Some o →
    Has t o.client (survive_line x t l p)
unfolding survive_line Has
line_makes x t l None o e = absurd (cc e)
line_makes x t l (Some q) o e =
    let same : q ≡ o = some_same q o e in
    subst (λ (r : Opening). is_some (kept_number t r.client
    (numbers_of.keep_number t q.client q.own true x.numbers)) ≡ true) same
    (keep_has x.numbers t q.client q.own true)

step_makes : (items : List Item) (x : Survival) (t : Tuple) (o : Opening) → (line t items).opening ≡ Some o →
    Has t o.client (survive_next items x t)
unfolding survive_next
step_makes items x t o e = line_makes x t (line t items) (line t items).opening o e

fold_makes : (items : List Item) (us : List Tuple) (x : Survival) (t : Tuple) (o : Opening) →
    (line t items).opening ≡ Some o → list_any (same_tuple t) us ≡ true →
    Has t o.client (fold (survive_next items) x us)
fold_makes items [] x t o e h = absurd (true≢false (sym h))
fold_makes items (u ∷ us) x t o e h =
    by (same_tuple t u) refl h (fold_makes items us (survive_next items x u) t o e)
  where
    by : (b : Bool) → same_tuple t u ≡ b → (b || list_any (same_tuple t) us) ≡ true →
        (list_any (same_tuple t) us ≡ true →
        Has t o.client (fold (survive_next items) (survive_next items x u) us)) →
        Has t o.client (fold (survive_next items) (survive_next items x u) us)
    by true same h more = fold_keeps items us (survive_next items x u) t o.client
        (subst (λ (v : Tuple). Has t o.client (survive_next items x v)) (same_tuple-eq t u same)
        (step_makes items x t o e))
    by false other h more = more h

-- a tuple with an opening is in the table
opened_there : (lines : Tracking) (t : Tuple) (o : Opening) → current_at lines t ≡ Some o →
    list_any (same_tuple t) (keys_of lines.entries) ≡ true
opened_there lines t o e = sym (is_some-lookup t lines.entries) ∙ by (entry_of lines.entries t) e
  where
    by : (x : Option Entry) → (unwrap_or x no_entry).line.opening ≡ Some o → is_some x ≡ true
    by None e = absurd (cc e)
    by (Some x) e = refl

numbered_all : (items : List Item) (lines : Tracking) (x : Survival) → Tracks items lines →
    AreNumbered items (fold (survive_next items) x (keys_of lines.entries)).numbers
unfolding Has
numbered_all items lines x h = λ t o e.
    fold_makes items (keys_of lines.entries) x t o (sym (line_fits t items).opened ∙ e)
    (opened_there lines t o (opening_is items lines t h ∙ e))

-- THE WHOLE

pub survives_by_the_rules : SurvivesByTheRules
unfolding survive survive_items
survives_by_the_rules items theirs lines kept numbers h same =
    let first : Survival = record { numbers = kept; progress = []; out = [] } in
    let begun : Surviving = record { numbers = numbers; progress = []; out = [] } in
    let ts = keys_of lines.entries in
    let end = all_alike items lines ts first begun (each_has_line lines) h
    (record { numbers_are = same; progress_is = λ t. refl; out_is = refl }) in
    subst (λ (us : List Tuple). SurvivesAs items theirs lines numbers (fold (survive_next items) first us))
    (sym (order_is items lines h)) (record {
      out = end.out_is;
      after = record {
        mine_is = h;
        theirs_is = λ together. absurd (true≢false together);
        numbers_are = end.numbers_are;
        known = λ together. absurd (true≢false together);
        numbered = numbered_all items lines first h;
        progress_is = end.progress_is;
        untrimmed = survivor_untrimmed lines numbers;
        tooks_are = refl;
        restarts_are = refl;
        alone = refl;
      };
    })
