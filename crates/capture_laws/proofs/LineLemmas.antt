-- What is kept of a line and its bytes.
use Rattle.std.proofs.Common.{◌≡◌, ℕ, zero, suc, ◌+◌, ◌*◌, ◌/◌, Bool, true, false, List, [], ◌∷◌, ◌++◌, append_assoc, length, map, fold, take, refl, sym, ap, ◌∙◌, arith, Option, None, Some}
use Rattle.std.specs.List.{AllByRecursion, concat, flat_map, range_with_len}
use Rattle.std.proofs.lemmas.List.{append-nil, take_all}
use Rattle.std.proofs.lemmas.List.Folds.{concat-append}
use Rattle.std.proofs.lemmas.List.FromFn.{map-range_with_len_more}
use Rattle.std.proofs.lemmas.Grind.{fold-append}
use Rattle.std.proofs.Math.Seq.{take-add}
use Rattle.inet_frame.specs.declared.tuple.Tuple.{Tuple}
use Rattle.tcp_track.specs.LineFields.{LineFields, no_fields}
use Rattle.tcp_track.specs.Tracking.{Tracking, with_line}
use Rattle.tcp_track.specs.declared.openings.Opening.{Opening}
use Rattle.seq_rewriter.specs.Kept.{KeptNumbers, keep_number}
use Rattle.settle_rules.specs.Pieces.{piece_at, pieces_of}
use Rattle.colo_wire.specs.declared.messages.Message.TheVariants.{Bytes}
use Rattle.checkpoint_form.specs.Rows.{bytes_messages, bytes_together, line_message, line_messages, line_with, number_for}
use Rattle.kept_checkpoint.specs.Kept.{Kept, close_lines, keep}
use Rattle.capture_laws.specs.Captures.{IsPlain}

-- PIECES joined are the whole

pieces_front : (size : ℕ) (xs : List ℕ) (k : ℕ)
    → concat (map (piece_at size xs) (range_with_len 0 k)) ≡ take (size * k) xs
pieces_front size xs zero = ap (λ (n : ℕ). take n xs) (let e : 0 ≡ size * 0 = omega arith in e)
pieces_front size xs (suc k) =
    let at : 0 + k ≡ k = omega arith in
    let one : k + 1 ≡ suc k = omega arith in
    let pieces = map (piece_at size xs) (range_with_len 0 k) in
    ap (λ (n : ℕ). concat (map (piece_at size xs) (range_with_len 0 n))) (sym one)
    ∙ ap (λ (ps : List (List ℕ)). concat ps) (map-range_with_len_more (piece_at size xs) 0 k k at)
    ∙ concat-append pieces (piece_at size xs k ∷ [])
    ∙ ap (λ (ys : List ℕ). concat pieces ++ ys) (append-nil (piece_at size xs k))
    ∙ ap (λ (ys : List ℕ). ys ++ piece_at size xs k) (pieces_front size xs k)
    ∙ sym (take-add (size * k) size xs)
    ∙ ap (λ (n : ℕ). take n xs) (grind arith)

pub joined : (xs : List ℕ) → concat (pieces_of bytes_together xs) ≡ xs
joined xs =
    let count = (length xs + 65535) / 65536 in
    pieces_front 65536 xs count ∙ take_all (65536 * count) xs (omega arith)

-- A LINE without its bytes

abbrev pub with_last : Kept → Tracking → KeptNumbers → Tuple → LineFields → Kept
with_last k lines numbers t l =
    record k { lines = lines; numbers = numbers; last = Some (record { tuple = t; line = l }) }

-- an opened line's number is kept
abbrev pub number_of_row : KeptNumbers → Tuple → Option Opening → ℕ → KeptNumbers
number_of_row kept t None n = kept
number_of_row kept t (Some o) n = keep_number kept t o.client n

row_opened : (k : Kept) (t : Tuple) (o : Opening) (base : ℕ) (fin reset : Bool) (refused : Option ℕ)
    (acked window mss : ℕ) (mac bytes : List ℕ) (n : ℕ)
    → keep k (line_with t (record {
      opening = Some o;
      base = base;
      bytes = bytes;
      fin = fin;
      reset = reset;
      refused = refused;
      acked = acked;
      window = window;
      mss = mss;
      mac = mac;
    }) (Some o) n)
    ≡ with_last k (close_lines k.lines k.last) (keep_number k.numbers t o.client n) t
    (record {
      opening = Some o;
      base = base;
      bytes = [];
      fin = fin;
      reset = reset;
      refused = refused;
      acked = acked;
      window = window;
      mss = mss;
      mac = mac;
    })
row_opened k t o base true true None acked window mss mac bytes n = refl
row_opened k t o base true true (Some r) acked window mss mac bytes n = refl
row_opened k t o base true false None acked window mss mac bytes n = refl
row_opened k t o base true false (Some r) acked window mss mac bytes n = refl
row_opened k t o base false true None acked window mss mac bytes n = refl
row_opened k t o base false true (Some r) acked window mss mac bytes n = refl
row_opened k t o base false false None acked window mss mac bytes n = refl
row_opened k t o base false false (Some r) acked window mss mac bytes n = refl

row_plain : (k : Kept) (t : Tuple) (refused : Option ℕ) (mac : List ℕ) (n : ℕ)
    → keep k (line_with t (record no_fields { refused = refused; mac = mac }) None n)
    ≡ with_last k (close_lines k.lines k.last) k.numbers t (record no_fields { refused = refused; mac = mac })
row_plain k t None mac n = refl
row_plain k t (Some r) mac n = refl

pub row_kept : (k : Kept) (t : Tuple) (l : LineFields) (n : ℕ) → IsPlain l → keep k (line_message t l n)
    ≡ with_last k (close_lines k.lines k.last) (number_of_row k.numbers t l.opening n) t (record l { bytes = [] })
row_kept k t l n plain = by l.opening refl
  where
    by : (o : Option Opening) → l.opening ≡ o → keep k (line_message t l n)
        ≡ with_last k (close_lines k.lines k.last) (number_of_row k.numbers t l.opening n) t
        (record l { bytes = [] })
    by (Some o) is =
        let m : LineFields = record l { opening = Some o } in
        let same : l ≡ m = ap (λ (p : Option Opening). record l { opening = p }) is in
        ap (λ (y : LineFields). keep k (line_message t y n)) same
        ∙ row_opened k t o l.base l.fin l.reset l.refused l.acked l.window l.mss l.mac l.bytes n
        ∙ ap (λ (y : LineFields). with_last k (close_lines k.lines k.last)
        (number_of_row k.numbers t y.opening n) t (record y { bytes = [] })) (sym same)
    by None is =
        let m : LineFields = record no_fields { refused = l.refused; mac = l.mac } in
        let same : l ≡ m = plain is in
        ap (λ (y : LineFields). keep k (line_message t y n)) same
        ∙ row_plain k t l.refused l.mac n
        ∙ ap (λ (y : LineFields). with_last k (close_lines k.lines k.last)
        (number_of_row k.numbers t y.opening n) t (record y { bytes = [] })) (sym same)

-- ITS BYTES

pub bytes_kept : (k : Kept) (lines : Tracking) (numbers : KeptNumbers) (t : Tuple) (l : LineFields)
    (ps : List (List ℕ)) → fold keep (with_last k lines numbers t l) (map Bytes ps)
    ≡ with_last k lines numbers t (record l { bytes = l.bytes ++ concat ps })
bytes_kept k lines numbers t l [] =
    ap (λ (bs : List ℕ). with_last k lines numbers t (record l { bytes = bs })) (sym (append-nil l.bytes))
bytes_kept k lines numbers t l (p ∷ ps) =
    bytes_kept k lines numbers t (record l { bytes = l.bytes ++ p }) ps
    ∙ ap (λ (bs : List ℕ). with_last k lines numbers t (record l { bytes = bs }))
    (append_assoc l.bytes p (concat ps))

-- all messages of one line
pub entry_kept : (k : Kept) (numbers : KeptNumbers) (x : Tuple × LineFields) → IsPlain x.1
    → fold keep k (line_messages numbers x)
    ≡ with_last k (close_lines k.lines k.last)
    (number_of_row k.numbers x.0 x.1.opening (number_for numbers x.0 x.1.opening)) x.0 x.1
entry_kept k numbers x plain =
    let n = number_for numbers x.0 x.1.opening in
    let lines = close_lines k.lines k.last in
    let kept = number_of_row k.numbers x.0 x.1.opening n in
    ap (λ (y : Kept). fold keep y (bytes_messages x.1.bytes)) (row_kept k x.0 x.1 n plain)
    ∙ bytes_kept k lines kept x.0 (record x.1 { bytes = [] }) (pieces_of bytes_together x.1.bytes)
    ∙ ap (λ (bs : List ℕ). with_last k lines kept x.0 (record x.1 { bytes = bs })) (joined x.1.bytes)

-- ALL LINES: the tracker, and the numbers

abbrev pub lines_kept : Kept → Tracking
lines_kept k = close_lines k.lines k.last

abbrev pub ArePlainLines : List (Tuple × LineFields) → Type 0
ArePlainLines xs = AllByRecursion (λ (x : Tuple × LineFields). IsPlain x.1) xs

abbrev pub put_line : Tracking → Tuple × LineFields → Tracking
put_line tracking x = with_line tracking x.0 x.1

pub entries_kept : (numbers : KeptNumbers) (xs : List (Tuple × LineFields)) (k : Kept) → ArePlainLines xs
    → lines_kept (fold keep k (flat_map (line_messages numbers) xs)) ≡ fold put_line (lines_kept k) xs
entries_kept numbers [] k plain = refl
entries_kept numbers (x ∷ xs) k plain =
    let rest = flat_map (line_messages numbers) xs in
    ap lines_kept (fold-append keep k (line_messages numbers x) rest
    ∙ ap (λ (y : Kept). fold keep y rest) (entry_kept k numbers x plain.0))
    ∙ entries_kept numbers xs
    (with_last k (close_lines k.lines k.last)
    (number_of_row k.numbers x.0 x.1.opening (number_for numbers x.0 x.1.opening)) x.0 x.1) plain.1

abbrev pub put_number : KeptNumbers → KeptNumbers → Tuple × LineFields → KeptNumbers
put_number numbers kept x = number_of_row kept x.0 x.1.opening (number_for numbers x.0 x.1.opening)

pub numbers_kept : (numbers : KeptNumbers) (xs : List (Tuple × LineFields)) (k : Kept) → ArePlainLines xs
    → (fold keep k (flat_map (line_messages numbers) xs)).numbers ≡ fold (put_number numbers) k.numbers xs
numbers_kept numbers [] k plain = refl
numbers_kept numbers (x ∷ xs) k plain =
    let rest = flat_map (line_messages numbers) xs in
    ap (λ (y : Kept). y.numbers) (fold-append keep k (line_messages numbers x) rest
    ∙ ap (λ (y : Kept). fold keep y rest) (entry_kept k numbers x plain.0))
    ∙ numbers_kept numbers xs
    (with_last k (close_lines k.lines k.last)
    (number_of_row k.numbers x.0 x.1.opening (number_for numbers x.0 x.1.opening)) x.0 x.1) plain.1
