-- A tracker into which lines are put one after the other, each of its own tuple.
use Rattle.std.proofs.Common.{◌≡◌, ℕ, subst, length, false, List, [], ◌∷◌, ◌++◌, append_assoc, map, fold, refl, sym, ap, ◌∙◌, is_some, if◌then◌else◌}
use Rattle.std.specs.Prelude.{Option, None, unwrap_or}
use Rattle.std.specs.List.{AllByRecursion}
use Rattle.std.specs.Map.{keys_of, set_value}
use Rattle.std.proofs.lemmas.List.{append-nil}
use Rattle.inet_frame.specs.declared.tuple.Tuple.{Tuple}
use Rattle.tcp_track.specs.LineFields.{LineFields}
use Rattle.tcp_track.specs.Segments.{same_tuple}
use Rattle.tcp_track.specs.Tracking.{Tracking, commit_entry, commit_tracking, entry_of, no_entry, nothing_tracked}
use Rattle.tcp_track.specs.declared.table.Entry.{Entry}
use Rattle.tcp_track.proofs.TupleLemmas.{lookup-push_other}
use Rattle.checkpoint_form.specs.Captured.{lines_of}
use Rattle.checkpoint_form.specs.Inbox.{held_message, inbox_messages}
use Rattle.checkpoint_form.specs.State.{disk_message, disk_messages, page_messages, sectors_together}
use Rattle.settle_rules.specs.Pieces.{pieces_of}
use Rattle.colo_wire.specs.declared.messages.Message.{Message}
use Rattle.colo_wire.specs.declared.messages.Message.TheVariants.{Page}
use Rattle.kept_checkpoint.specs.Kept.{Kept, begin_kept, keep, keep_all, kept_lines}
use Rattle.theorem_runs.proofs.ListFacts.{all_map}
use Rattle.capture_laws.specs.Captures.{AreDistinct, ArePlain, AreRegular, Capture, kept_of}
use Rattle.capture_laws.proofs.LineLemmas.{ArePlainLines, entries_kept, lines_kept, put_line}
use Rattle.capture_laws.proofs.PartLemmas.{parts_split}
use Rattle.std.specs.List.{enumerate_from}

-- an entry as a line that was put makes it
abbrev fresh : Tuple × LineFields → Tuple × Entry
fresh x = (x.0, record { line = x.1; at_commit = None })

abbrev IsNew : List (Tuple × Entry) → Tuple × LineFields → Type 0
IsNew entries x = entry_of entries x.0 ≡ None

abbrev KeysDiffer : List (Tuple × LineFields) → Type 0
KeysDiffer xs = AreDistinct (keys_of xs)

put_new : (entries : List (Tuple × Entry)) (x : Tuple × LineFields) → IsNew entries x
    → put_line (record { entries = entries; since = [] }) x
    ≡ record { entries = entries ++ fresh x ∷ []; since = [] }
put_new entries x new =
    ap (λ (o : Option Entry). record nothing_tracked {
      entries =
          if is_some o then set_value (same_tuple x.0) entries (record (unwrap_or o no_entry) { line = x.1 })
          else entries ++ (x.0, record (unwrap_or o no_entry) { line = x.1 }) ∷ [];
    }) new

still_new : (entries : List (Tuple × Entry)) (x : Tuple × LineFields) (xs : List (Tuple × LineFields))
    → AllByRecursion (IsNew entries) xs → AllByRecursion (λ (u : Tuple). same_tuple u x.0 ≡ false) (keys_of xs)
    → AllByRecursion (IsNew (entries ++ fresh x ∷ [])) xs
still_new entries x [] new other = tt
still_new entries x (y ∷ ys) new other =
    (lookup-push_other y.0 x.0 (fresh x).1 entries other.0 ∙ new.0, still_new entries x ys new.1 other.1)

put_all : (entries : List (Tuple × Entry)) (xs : List (Tuple × LineFields)) → AllByRecursion (IsNew entries) xs
    → KeysDiffer xs → fold put_line (record { entries = entries; since = [] }) xs
    ≡ record { entries = entries ++ map fresh xs; since = [] }
put_all entries [] new differ =
    ap (λ (es : List (Tuple × Entry)). record nothing_tracked { entries = es }) (sym (append-nil entries))
put_all entries (x ∷ xs) new differ =
    ap (λ (y : Tracking). fold put_line y xs) (put_new entries x new.0)
    ∙ put_all (entries ++ fresh x ∷ []) xs (still_new entries x xs new.1 differ.0) differ.1
    ∙ ap (λ (es : List (Tuple × Entry)). record nothing_tracked { entries = es })
    (append_assoc entries (fresh x ∷ []) (map fresh xs))

all_new : (xs : List (Tuple × LineFields)) → AllByRecursion (IsNew []) xs
all_new [] = tt
all_new (x ∷ xs) = (refl, all_new xs)

-- the tuple and the line of an entry
abbrev pub line_of_entry : Tuple × Entry → Tuple × LineFields
line_of_entry x = (x.0, x.1.line)

keys_same : (entries : List (Tuple × Entry)) → keys_of (map line_of_entry entries) ≡ keys_of entries
keys_same [] = refl
keys_same (x ∷ xs) = ap (λ (ks : List Tuple). x.0 ∷ ks) (keys_same xs)

commits_same : (entries : List (Tuple × Entry))
    → map commit_entry (map fresh (map line_of_entry entries)) ≡ map commit_entry entries
commits_same [] = refl
commits_same (x ∷ xs) = ap (λ (es : List (Tuple × Entry)). commit_entry x ∷ es) (commits_same xs)

pub plain_lines : (entries : List (Tuple × Entry)) → ArePlain entries → ArePlainLines (map line_of_entry entries)
plain_lines [] h = tt
plain_lines (x ∷ xs) h = (h.0, plain_lines xs h.1)

-- what stood before the lines: no line
abbrev HasNoLine : Kept → Type 0
HasNoLine k = lines_kept k ≡ nothing_tracked

abbrev LeavesLines : Message → Type 0
LeavesLines m = (k : Kept) → lines_kept (keep k m) ≡ lines_kept k

lines_left : (ms : List Message) → AllByRecursion LeavesLines ms → (k : Kept)
    → lines_kept (fold keep k ms) ≡ lines_kept k
lines_left [] h k = refl
lines_left (m ∷ ms) h k = lines_left ms h.1 (keep k m) ∙ h.0 k

pub keeps_the_lines : (x : Capture) (e : ℕ) → AreRegular x.lines → kept_lines (kept_of x e) ≡ commit_tracking x.lines
unfolding keep_all
keeps_the_lines x e regular =
    let k = begin_kept x.state.bytes (length x.state.pages) (length x.state.sectors) in
    let paged = fold keep k (page_messages x.state.pages) in
    let whole = fold keep paged (disk_messages x.state.sectors) in
    let held = fold keep whole (inbox_messages x.inbox) in
    let xs = lines_of x.lines in
    let none : lines_kept held ≡ nothing_tracked =
    lines_left (inbox_messages x.inbox) (all_map LeavesLines held_message x.inbox (λ w y. refl)) whole
    ∙ lines_left (disk_messages x.state.sectors)
    (all_map LeavesLines disk_message (enumerate_from 0 (pieces_of sectors_together x.state.sectors))
    (λ y q. refl)) paged
    ∙ lines_left (page_messages x.state.pages)
    (all_map LeavesLines (λ (p : ℕ × List ℕ). Page p.0 p.1) (enumerate_from 0 x.state.pages) (λ y q. refl)) k in
    let differ : KeysDiffer xs = subst AreDistinct (sym (keys_same x.lines.entries)) regular.distinct in
    ap kept_lines (parts_split x e k)
    ∙ ap commit_tracking (entries_kept x.numbers xs held (plain_lines x.lines.entries regular.plain)
    ∙ ap (λ (y : Tracking). fold put_line y xs) none
    ∙ put_all [] xs (all_new xs) differ)
    ∙ ap (λ (es : List (Tuple × Entry)). record nothing_tracked { entries = es }) (commits_same x.lines.entries)
