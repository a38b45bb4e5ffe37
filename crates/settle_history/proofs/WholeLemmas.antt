-- What is kept of a line, made whole, is the line but for the symbols below its base.
use Rattle.std.proofs.Common.{◌≡◌, ℕ, ◌≤◌, Bool, true, false, ◌&&◌, ◌||◌, not, is_some, if◌then◌else◌, List, [], ◌++◌, drop, length, map, unwrap_or, Option, None, Some, refl, sym, ap, subst, ◌∙◌, arith, length-append, length-drop}
use Rattle.std.specs.List.{list_any, range_with_len}
use Rattle.std.specs.Option.{option_map}
use Rattle.std.proofs.lemmas.List.FromFn.{length-map-range_with_len}
use Rattle.std.proofs.Math.Seq.{drop-append_seam}
use Rattle.inet_frame.specs.declared.tuple.Tuple.{Tuple}
use Rattle.tcp_track.specs.Laws.{IsHeld, tracking_of}
use Rattle.tcp_track.specs.LineFields.{IsKept, LineFields, symbols_kept}
use Rattle.tcp_track.specs.Lines.{Item, Line, line, no_line}
use Rattle.tcp_track.specs.Segments.{Symbol, byte}
use Rattle.tcp_track.specs.Tracking.{Tracking, line_at, same_incarnation}
use Rattle.tcp_track.specs.declared.openings.Opening.{Opening}
use Rattle.tcp_track.proofs.StandingLemmas.{keeps_each_line}
use Rattle.seq_rewriter.specs.Kept.{KeptNumbers, number_of}
use Rattle.line_release.specs.Whole.{forgotten, whole_of}
use Rattle.line_match.specs.Untrimmed.{IsUntrimmed}
use Rattle.settle_rules.specs.Matching.{BothLines, client_or_zero}
use Rattle.settle_rules.specs.Numbers.{KeptNumber, is_known, kept_number, number_or_zero}
use Rattle.settle_rules.specs.OwnFrames.{OwnFrames}
use Rattle.settle_rules.specs.Settle.{both_lines}
use Rattle.settle_table.specs.Kept.{both_kept, is_number_known, whole_or_none}
use Rattle.out_compare.specs.Comparing.{Comparing, scene_of}
use Rattle.compare_laws.proofs.NumberLemmas.{some_number}
use Rattle.settle_history.specs.Laws.{scene_within, with_symbols}
use Rattle.settle_history.specs.Standing.{SameNumbers, StandsWithin, Tracks}
use Rattle.settle_history.proofs.LowLemmas.{IsLow, line_low}

-- the second line has other symbols than the first, but none from the base on
pub record LikeLine (l m : Line) : Type 0 where
  pub symbols : List Symbol
  pub is : m ≡ record l { symbols = symbols }
  pub from : drop l.base symbols ≡ drop l.base l.symbols
  pub count : length symbols ≡ length l.symbols

like_itself : (l : Line) → LikeLine l l
like_itself l = record { symbols = l.symbols; is = refl; from = refl; count = refl }

forgotten_count : (l : Line) (kept : LineFields) → IsKept l kept → IsLow l → length (forgotten kept) ≡ l.base
forgotten_count l kept k h = by (is_some kept.opening) refl
  where
    by : (b : Bool) → is_some kept.opening ≡ b →
        length (if b then map (λ (n : ℕ). byte 0) (range_with_len 0 kept.base) else []) ≡ l.base
    by true e = length-map-range_with_len (λ (n : ℕ). byte 0) 0 kept.base ∙ k.base
    by false e = sym (h.closed (sym (ap is_some k.opening) ∙ e))

pub whole_like : (l : Line) (kept : LineFields) → IsKept l kept → IsLow l → LikeLine l (whole_of kept)
whole_like l kept k h =
    let n = forgotten_count l kept k h in
    record {
      symbols = forgotten kept ++ symbols_kept kept;
      is = λ i. record {
        opening = k.opening i;
        symbols = forgotten kept ++ symbols_kept kept;
        base = k.base i;
        acked = k.acked i;
        window = k.window i;
        mss = k.mss i;
        mac = k.mac i;
        reset = k.reset i;
        refused = k.refused i;
      };
      from = ap (λ (c : ℕ). drop c (forgotten kept ++ symbols_kept kept)) (sym n)
          ∙ (drop-append_seam (forgotten kept) (symbols_kept kept) ∙ k.symbols);
      count = omega (
        arith,
        n,
        h.low,
        length-append (forgotten kept) (symbols_kept kept),
        ap (λ (xs : List Symbol). length xs) k.symbols,
        length-drop l.base l.symbols,
      );
    }

-- a tracked line
held_in : (items : List Item) (tracking : Tracking) (t : Tuple) → Tracks items tracking →
    IsHeld (line t items) (line_at tracking t)
held_in items tracking t h =
    subst (λ (x : Tracking). IsHeld (line t items) (line_at x t)) (sym h.leaves)
    (subst (λ (xs : List Item). IsHeld (line t xs) (line_at (tracking_of h.calls) t)) h.gives
    (keeps_each_line h.calls t))

pub kept_in : (items : List Item) (tracking : Tracking) (t : Tuple) (l : LineFields) → line_at tracking t ≡ Some l →
    Tracks items tracking → IsKept (line t items) l
kept_in items tracking t l at h =
    subst (λ (o : Option LineFields). IsHeld (line t items) o) at (held_in items tracking t h)

pub found_like : (items : List Item) (tracking : Tracking) (t : Tuple) (l : LineFields) → line_at tracking t ≡ Some l →
    Tracks items tracking → LikeLine (line t items) (whole_of l)
found_like items tracking t l at h = whole_like (line t items) l (kept_in items tracking t l at h) (line_low t items)

known_like : (items : List Item) (tracking : Tracking) (t : Tuple) → Tracks items tracking →
    LikeLine (line t items) (whole_or_none (line_at tracking t))
known_like items tracking t h = by (line_at tracking t) refl
  where
    by : (o : Option LineFields) → line_at tracking t ≡ o → LikeLine (line t items) (whole_or_none o)
    by (Some l) at = found_like items tracking t l at h
    by None at =
        let none : line t items ≡ no_line =
        subst (λ (o : Option LineFields). IsHeld (line t items) o) at (held_in items tracking t h) in
        subst (λ (l : Line). LikeLine l no_line) (sym none) (like_itself no_line)

-- a line that is untrimmed past its edge
pub low_edge : (items : List Item) (tracking : Tracking) (t : Tuple) (l : LineFields) (edge : ℕ) →
    line_at tracking t ≡ Some l → Tracks items tracking → IsUntrimmed l edge → (line t items).base ≤ edge
low_edge items tracking t l edge at h u = by (is_some l.opening) refl
  where
    k : IsKept (line t items) l
    k = kept_in items tracking t l at h

    by : (b : Bool) → is_some l.opening ≡ b → (line t items).base ≤ edge
    by true e = let low = u e in omega (arith, low, k.base)
    by false e =
        let zero = (line_low t items).closed (sym (ap is_some k.opening) ∙ e) in
        omega (arith, zero)

-- BOTH LINES

-- lines alike in the place of both
pub record Alike (b c : BothLines) : Type 0 where
  pub mine_symbols : List Symbol
  pub their_symbols : List Symbol
  pub is : c ≡ with_symbols b mine_symbols their_symbols
  pub mine_from : drop b.mine.base mine_symbols ≡ drop b.mine.base b.mine.symbols
  pub theirs_from : drop b.theirs.base their_symbols ≡ drop b.theirs.base b.theirs.symbols

pub number_in : (kept : List KeptNumber) (numbers : KeptNumbers) (t : Tuple) (client : ℕ) → SameNumbers kept numbers →
    unwrap_or (number_of numbers t client) 0 ≡ number_or_zero (kept_number t client kept)
number_in kept numbers t client h =
    ap (λ (o : Option ℕ). unwrap_or o 0) (h t client) ∙ by (kept_number t client kept)
  where
    by : (o : Option KeptNumber) → unwrap_or (option_map (λ (k : KeptNumber). k.number) o) 0 ≡ number_or_zero o
    by None = refl
    by (Some k) = refl

pub number_alike : (kept : List KeptNumber) (numbers : KeptNumbers) (t : Tuple) (o p : Option Opening) → o ≡ p →
    SameNumbers kept numbers →
    unwrap_or (number_of numbers t (client_or_zero o)) 0 ≡ number_or_zero (kept_number t (client_or_zero p) kept)
number_alike kept numbers t o p e h =
    number_in kept numbers t (client_or_zero o) h
    ∙ ap (λ (q : Option Opening). number_or_zero (kept_number t (client_or_zero q) kept)) e

known_number : (own : OwnFrames) (theirs : List Item) (heard : List Tuple) (is_alone is_turn : Bool) (x : Comparing)
    (t : Tuple) (client : ℕ) → StandsWithin own theirs heard is_alone x →
    (x.is_alone || is_number_known (scene_of x is_turn) t client)
    ≡ (is_alone || is_known (kept_number t client own.numbers))
known_number own theirs heard is_alone is_turn x t client h =
    ap (λ (b : Bool). b || is_number_known (scene_of x is_turn) t client) h.alone ∙ by is_alone refl
  where
    by : (b : Bool) → is_alone ≡ b → (b || is_number_known (scene_of x is_turn) t client)
        ≡ (b || is_known (kept_number t client own.numbers))
    by true e = refl
    by false e =
        ap (λ (o : Option ℕ). is_some o
        && not (list_any (same_incarnation (record { tuple = t; client = client })) x.unknown))
        (h.numbers_are t client)
        ∙ (ap (λ (b : Bool). b && not (list_any (same_incarnation (record { tuple = t; client = client })) x.unknown))
        (some_number (kept_number t client own.numbers))
        ∙ sym (h.known e t client))

theirs_like : (own : OwnFrames) (theirs : List Item) (heard : List Tuple) (is_alone : Bool) (x : Comparing)
    (t : Tuple) (l : LineFields) → line_at x.mine t ≡ Some l → StandsWithin own theirs heard is_alone x →
    LikeLine (if is_alone then line t own.items else line t theirs)
    (if x.is_alone then whole_of l else whole_or_none (line_at x.theirs t))
theirs_like own theirs heard is_alone x t l at h =
    subst (λ (b : Bool). LikeLine (if is_alone then line t own.items else line t theirs)
    (if b then whole_of l else whole_or_none (line_at x.theirs t))) (sym h.alone) (by is_alone refl)
  where
    by : (b : Bool) → is_alone ≡ b → LikeLine (if b then line t own.items else line t theirs)
        (if b then whole_of l else whole_or_none (line_at x.theirs t))
    by true e = found_like own.items x.mine t l at h.mine_is
    by false e = known_like theirs x.theirs t (h.theirs_is e)

-- both lines of a tuple, as a comparer has them and as the rules do
pub both_alike : (own : OwnFrames) (theirs : List Item) (heard : List Tuple) (is_alone is_turn : Bool) (x : Comparing)
    (t : Tuple) (l : LineFields) → line_at x.mine t ≡ Some l → StandsWithin own theirs heard is_alone x →
    Alike (both_lines (scene_within own theirs heard is_alone is_turn) t) (both_kept (scene_of x is_turn) t l)
unfolding both_lines both_kept
both_alike own theirs heard is_alone is_turn x t l at h =
    let mine = found_like own.items x.mine t l at h.mine_is in
    let other = theirs_like own theirs heard is_alone x t l at h in
    let opening = (kept_in own.items x.mine t l at h.mine_is).opening in
    let number = number_alike own.numbers x.numbers t l.opening (line t own.items).opening opening h.numbers_are in
    let known = known_number own theirs heard is_alone is_turn x t (client_or_zero l.opening) h
    ∙ ap (λ (o : Option Opening). is_alone || is_known (kept_number t (client_or_zero o) own.numbers)) opening in
    record {
      mine_symbols = mine.symbols;
      their_symbols = other.symbols;
      is = λ i. record {
        tuple = t;
        mine = mine.is i;
        theirs = other.is i;
        number = number i;
        number_known = known i;
      };
      mine_from = mine.from;
      theirs_from = other.from;
    }
