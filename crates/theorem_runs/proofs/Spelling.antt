-- The messages of a checkpoint spell the captured state, whatever stood there.
use Rattle.std.proofs.Common.{◌≡◌, ℕ, zero, suc, ◌+◌, ◌*◌, ◌/◌, ◌<◌, ◌≤◌, List, [], ◌∷◌, ◌++◌, append_assoc, length, map, fold, take, drop, get_or, refl, sym, ap, ap₂, ◌∙◌, arith, length-append, length-set}
use Rattle.std.specs.Prelude.{All, slice_set}
use Rattle.std.specs.List.{AllByRecursion, concat, enumerate_from, flat_map, range_with_len}
use Rattle.std.proofs.lemmas.Grind.{fold-append}
use Rattle.std.proofs.lemmas.List.{length-take-le, map-append, set_at, take_all, take_more}
use Rattle.std.proofs.lemmas.List.FromFn.{length-map-range_with_len, map-range_with_len_more}
use Rattle.std.proofs.Math.Seq.{drop-append-add, take-add, take-append_seam}
use Rattle.tcp_track.specs.Lines.{line, order}
use Rattle.settle_rules.specs.Pieces.{piece_at, pieces_of}
use Rattle.state_wire.specs.Guest.{GuestState}
use Rattle.colo_wire.specs.declared.messages.Message.{Message}
use Rattle.colo_wire.specs.declared.messages.Message.TheVariants.{Frame, Number, Begin, State, Page, Disk, Write, Held, Bytes, End, Known, Sent, Ack}
use Rattle.colo_wire.specs.declared.messages.Message.TheVariants as message
use Rattle.checkpoint_form.specs.Inbox.{held_message, inbox_messages}
use Rattle.checkpoint_form.specs.Rows.{bytes_together, row_bytes}
use Rattle.checkpoint_form.specs.State.{disk_message, disk_messages, page_messages}
use Rattle.kept_checkpoint.specs.Slots.{sector_at}
use Rattle.kept_checkpoint.specs.Spelled.{set_sectors, spell}
use Rattle.pair_theorem.specs.Checkpoint.{row_messages}
use Rattle.pair_theorem.specs.Past.{Copy}
use Rattle.theorem_runs.specs.Links.{copied_parts}
use Rattle.theorem_runs.proofs.ListFacts.{all_flat_map, all_map}

-- each part has this size
abbrev pub HaveSize : ℕ → List (List ℕ) → Type 0
HaveSize size parts = AllByRecursion (λ (part : List ℕ). length part ≡ size) parts

pub sizes_from : (size : ℕ) (parts : List (List ℕ)) → All (λ (part : List ℕ). length part ≡ size) parts
    → HaveSize size parts
sizes_from size [] h = tt
sizes_from size (x ∷ xs) h = (h 0 x (omega arith), sizes_from size xs (λ k d lt. h (suc k) d (omega (arith, lt))))

sizes_take : (size n : ℕ) (xs : List (List ℕ)) → HaveSize size xs → HaveSize size (take n xs)
sizes_take size zero xs h = tt
sizes_take size (suc n) [] h = tt
sizes_take size (suc n) (x ∷ xs) h = (h.0, sizes_take size n xs h.1)

sizes_drop : (size n : ℕ) (xs : List (List ℕ)) → HaveSize size xs → HaveSize size (drop n xs)
sizes_drop size zero xs h = h
sizes_drop size (suc n) [] h = tt
sizes_drop size (suc n) (x ∷ xs) h = sizes_drop size n xs h.1

-- PARTS AT THEIR PLACES
abbrev set_items : List (List ℕ) → List (ℕ × List ℕ) → List (List ℕ)
set_items xs items = fold (λ (list : List (List ℕ)) (item : ℕ × List ℕ). slice_set list item.0 item.1) xs items

-- with a front that is right already, putting the rest in order makes all of it right
set_rest : (front old new : List (List ℕ)) (n : ℕ) → length front ≡ n → length old ≡ length new
    → set_items (front ++ old) (enumerate_from n new) ≡ front ++ new
set_rest front [] [] n at same = refl
set_rest front [] (y ∷ ys) n at same = absurd (omega (arith, same))
set_rest front (x ∷ xs) [] n at same = absurd (omega (arith, same))
set_rest front (x ∷ xs) (y ∷ ys) n at same =
    let next : length (front ++ y ∷ []) ≡ n + 1 = omega (arith, length-append front (y ∷ []), at) in
    let rest : length xs ≡ length ys = omega (arith, same) in
    ap (λ (list : List (List ℕ)). set_items list (enumerate_from (n + 1) ys))
    (set_at front x xs y n at ∙ sym (append_assoc front (y ∷ []) xs))
    ∙ (set_rest (front ++ y ∷ []) xs ys (n + 1) next rest ∙ append_assoc front (y ∷ []) ys)

-- PAGES
spells_items : (z : GuestState) (items : List (ℕ × List ℕ))
    → fold spell z (map (λ (x : ℕ × List ℕ). Page x.0 x.1) items) ≡ record z { pages = set_items z.pages items }
spells_items z [] = refl
spells_items z (x ∷ items) = spells_items (record z { pages = slice_set z.pages x.0 x.1 }) items

spells_pages : (z : GuestState) (pages : List (List ℕ)) → length z.pages ≡ length pages
    → fold spell z (page_messages pages) ≡ record z { pages = pages }
spells_pages z pages same =
    spells_items z (enumerate_from 0 pages)
    ∙ ap (λ (xs : List (List ℕ)). record z { pages = xs }) (set_rest [] z.pages pages 0 refl same)

-- SECTORS
sector_joined : (sectors : List (List ℕ)) (i : ℕ) → HaveSize 512 sectors → i < length sectors
    → sector_at (concat sectors) i ≡ get_or sectors i []
sector_joined [] i sizes within = absurd (omega (arith, within))
sector_joined (s ∷ sectors) zero sizes within =
    ap (λ (n : ℕ). take n (s ++ concat sectors)) (sym sizes.0) ∙ take-append_seam s (concat sectors)
sector_joined (s ∷ sectors) (suc i) sizes within =
    let at : 512 * suc i ≡ length s + 512 * i = omega (arith, sizes.0) in
    ap (λ (n : ℕ). take 512 (drop n (s ++ concat sectors))) at
    ∙ ap (take 512) (drop-append-add s (concat sectors) (512 * i))
    ∙ sector_joined sectors i sizes.1 (omega (arith, within))

enumerate_one : {X : Type 0} (n : ℕ) (xs : List X) (x : X)
    → enumerate_from n (xs ++ x ∷ []) ≡ enumerate_from n xs ++ (n + length xs, x) ∷ []
enumerate_one n [] x = let e : n ≡ n + 0 = omega arith in ap (λ m. (m, x) ∷ []) e
enumerate_one n (y ∷ xs) x =
    let e : (n + 1) + length xs ≡ n + length (y ∷ xs) = omega arith in
    ap (λ r. (n, y) ∷ r) (enumerate_one (n + 1) xs x ∙ ap (λ m. enumerate_from (n + 1) xs ++ (m, x) ∷ []) e)

enumerate_append : {X : Type 0} (n : ℕ) (xs ys : List X)
    → enumerate_from n (xs ++ ys) ≡ enumerate_from n xs ++ enumerate_from (n + length xs) ys
enumerate_append n [] ys = ap (λ (m : ℕ). enumerate_from m ys) (let e : n ≡ n + 0 = omega arith in e)
enumerate_append n (x ∷ xs) ys =
    let e : (n + 1) + length xs ≡ n + length (x ∷ xs) = omega arith in
    ap (λ r. (n, x) ∷ r) (enumerate_append (n + 1) xs ys
    ∙ ap (λ (m : ℕ). enumerate_from (n + 1) xs ++ enumerate_from m ys) e)

-- the first sectors that were joined are put one by one
sets_front : (first : ℕ) (piece olds : List (List ℕ)) (n : ℕ) → HaveSize 512 piece → n ≤ length piece
    → set_sectors first (concat piece) n olds ≡ set_items olds (enumerate_from first (take n piece))
unfolding set_sectors
sets_front first piece olds zero sizes within = refl
sets_front first piece olds (suc n) sizes within =
    let low : n < length piece = omega (arith, within) in
    let one : n + 1 ≡ suc n = omega arith in
    let len : length (take n piece) ≡ n = length-take-le n piece (omega (arith, within)) in
    let items = enumerate_from first (take n piece) in
    ap₂ (λ (xs : List (List ℕ)) (s : List ℕ). slice_set xs (first + n) s)
    (sets_front first piece olds n sizes (omega (arith, within))) (sector_joined piece n sizes low)
    ∙ sym (ap (λ (m : ℕ). set_items olds (enumerate_from first (take m piece))) (sym one)
    ∙ ap (λ (xs : List (List ℕ)). set_items olds (enumerate_from first xs)) (take_more piece n [] low)
    ∙ ap (set_items olds) (enumerate_one first (take n piece) (get_or piece n []))
    ∙ fold-append (λ (list : List (List ℕ)) (item : ℕ × List ℕ). slice_set list item.0 item.1) olds items
    ((first + length (take n piece), get_or piece n []) ∷ [])
    ∙ ap (λ (m : ℕ). slice_set (set_items olds items) (first + m) (get_or piece n [])) len)

length_sectors : (sectors : List (List ℕ)) → HaveSize 512 sectors → length (concat sectors) ≡ 512 * length sectors
length_sectors [] sizes = refl
length_sectors (x ∷ xs) sizes = omega (arith, length-append x (concat xs), sizes.0, length_sectors xs sizes.1)

-- one message puts its sectors one by one
spells_piece : (z : GuestState) (first : ℕ) (piece : List (List ℕ)) → HaveSize 512 piece
    → spell z (Disk first (concat piece)) ≡ record z { sectors = set_items z.sectors (enumerate_from first piece) }
spells_piece z first piece sizes =
    let bytes = length_sectors piece sizes in
    let count : length (concat piece) / 512 ≡ length piece = omega (arith, bytes) in
    let low : length piece ≤ length piece = omega arith in
    ap (λ (xs : List (List ℕ)). record z { sectors = xs })
    (ap (λ (n : ℕ). set_sectors first (concat piece) n z.sectors) count
    ∙ sets_front first piece z.sectors (length piece) sizes low
    ∙ ap (λ (xs : List (List ℕ)). set_items z.sectors (enumerate_from first xs)) (take_all (length piece) piece low))

-- the messages of the first k pieces
abbrev disk_front : List (List ℕ) → ℕ → List Message
disk_front sectors k = map disk_message (enumerate_from 0 (map (piece_at 128 sectors) (range_with_len 0 k)))

disk_more : (sectors : List (List ℕ)) (k : ℕ)
    → disk_front sectors (k + 1) ≡ disk_front sectors k ++ disk_message (k, piece_at 128 sectors k) ∷ []
disk_more sectors k =
    let at : 0 + k ≡ k = omega arith in
    let pieces = map (piece_at 128 sectors) (range_with_len 0 k) in
    let len : 0 + length pieces ≡ k = omega (arith, length-map-range_with_len (piece_at 128 sectors) 0 k) in
    ap (λ (ps : List (List (List ℕ))). map disk_message (enumerate_from 0 ps))
    (map-range_with_len_more (piece_at 128 sectors) 0 k k at)
    ∙ (ap (λ (es : List (ℕ × List (List ℕ))). map disk_message es) (enumerate_one 0 pieces (piece_at 128 sectors k))
    ∙ (map-append disk_message (enumerate_from 0 pieces) ((0 + length pieces, piece_at 128 sectors k) ∷ [])
    ∙ ap (λ (m : ℕ). map disk_message (enumerate_from 0 pieces) ++ disk_message (m, piece_at 128 sectors k) ∷ []) len))

spells_front : (z : GuestState) (sectors : List (List ℕ)) (k : ℕ) → HaveSize 512 sectors
    → 128 * k ≤ length sectors + 127 → fold spell z (disk_front sectors k)
    ≡ record z { sectors = set_items z.sectors (enumerate_from 0 (take (128 * k) sectors)) }
spells_front z sectors zero sizes low = refl
spells_front z sectors (suc k) sizes low =
    let one : k + 1 ≡ suc k = omega arith in
    let size : 128 * k + 128 ≡ 128 * suc k = omega arith in
    let front = take (128 * k) sectors in
    let piece = piece_at 128 sectors k in
    let len : length front ≡ 128 * k = length-take-le (128 * k) sectors (omega (arith, low)) in
    let at : 128 * k ≡ 0 + length front = omega (arith, len) in
    let sized = sizes_take 512 128 (drop (128 * k) sectors) (sizes_drop 512 (128 * k) sectors sizes) in
    let put = λ (list : List (List ℕ)) (item : ℕ × List ℕ). slice_set list item.0 item.1 in
    ap (λ (n : ℕ). fold spell z (disk_front sectors n)) (sym one)
    ∙ ap (fold spell z) (disk_more sectors k)
    ∙ fold-append spell z (disk_front sectors k) (Disk (128 * k) (concat piece) ∷ [])
    ∙ ap (λ (s : GuestState). spell s (Disk (128 * k) (concat piece)))
    (spells_front z sectors k sizes (omega (arith, low)))
    ∙ spells_piece (record z { sectors = set_items z.sectors (enumerate_from 0 front) }) (128 * k) piece sized
    ∙ ap (λ (xs : List (List ℕ)). record z { sectors = xs })
    (ap (λ (n : ℕ). fold put (fold put z.sectors (enumerate_from 0 front)) (enumerate_from n piece)) at
    ∙ sym (fold-append put z.sectors (enumerate_from 0 front) (enumerate_from (0 + length front) piece))
    ∙ ap (fold put z.sectors) (sym (enumerate_append 0 front piece)
    ∙ ap (enumerate_from 0) (sym (take-add (128 * k) 128 sectors)
    ∙ ap (λ (n : ℕ). take n sectors) size)))

spells_disk : (z : GuestState) (sectors : List (List ℕ)) → HaveSize 512 sectors → length z.sectors ≡ length sectors
    → fold spell z (disk_messages sectors) ≡ record z { sectors = sectors }
spells_disk z sectors sizes same =
    let count = (length sectors + 127) / 128 in
    spells_front z sectors count sizes (omega arith)
    ∙ ap (λ (xs : List (List ℕ)). record z { sectors = xs })
    (ap (λ (xs : List (List ℕ)). set_items z.sectors (enumerate_from 0 xs))
    (take_all (128 * count) sectors (omega arith))
    ∙ set_rest [] z.sectors sectors 0 refl same)

-- WHAT SPELLS NOTHING of a state
abbrev IsQuiet : Message → Type 0
IsQuiet m = (z : GuestState) → spell z m ≡ z

spells_none : (ms : List Message) → AllByRecursion IsQuiet ms → (z : GuestState) → fold spell z ms ≡ z
spells_none [] h z = refl
spells_none (m ∷ ms) h z = ap (λ (s : GuestState). fold spell s ms) (h.0 z) ∙ spells_none ms h.1 z

-- A WHOLE CHECKPOINT spells the captured state
pub copied_spells : (copy : Copy) (e : ℕ) (z : GuestState) → HaveSize 512 copy.run.run.state.sectors
    → length z.pages ≡ length copy.run.run.state.pages → length z.sectors ≡ length copy.run.run.state.sectors
    → fold spell z (copied_parts copy e) ≡ copy.run.run.state
unfolding copied_parts row_messages
copied_spells copy e z sizes pages sectors =
    let s = copy.run.run.state in
    let rows = flat_map (row_messages copy.run.items copy.numbers) (order copy.run.items) in
    let held = inbox_messages copy.inbox in
    let memory = page_messages s.pages ++ disk_messages s.sectors in
    let start : GuestState = record z { bytes = s.bytes } in
    let paged : GuestState = record start { pages = s.pages } in
    fold-append spell start (memory ++ held) rows
    ∙ (spells_none rows (all_flat_map IsQuiet (row_messages copy.run.items copy.numbers) (order copy.run.items)
    (λ t. (
      λ y. refl,
      all_map IsQuiet Bytes (pieces_of bytes_together (row_bytes (line t copy.run.items))) (λ b y. refl),
    )))
    (fold spell start (memory ++ held))
    ∙ (fold-append spell start memory held
    ∙ (spells_none held (all_map IsQuiet held_message copy.inbox (λ w y. refl)) (fold spell start memory)
    ∙ (fold-append spell start (page_messages s.pages) (disk_messages s.sectors)
    ∙ (ap (λ (y : GuestState). fold spell y (disk_messages s.sectors)) (spells_pages start s.pages pages)
    ∙ spells_disk paged s.sectors sizes sectors)))))

-- AS MANY PAGES AND SECTORS as before
sectors_kept : (first n : ℕ) (bytes : List ℕ) (sectors : List (List ℕ))
    → length (set_sectors first bytes n sectors) ≡ length sectors
unfolding set_sectors
sectors_kept first zero bytes sectors = refl
sectors_kept first (suc n) bytes sectors =
    length-set (set_sectors first bytes n sectors) (first + n) (sector_at bytes n)
    ∙ sectors_kept first n bytes sectors

pub record SameCounts (old new : GuestState) : Type 0 where
  pub pages : length new.pages ≡ length old.pages
  pub sectors : length new.sectors ≡ length old.sectors

spell_counts : (z : GuestState) (m : Message) → SameCounts z (spell z m)
spell_counts z (Page k bytes) = record { pages = length-set z.pages k bytes; sectors = refl }
spell_counts z (Disk first bytes) =
    record { pages = refl; sectors = sectors_kept first (length bytes / 512) bytes z.sectors }
spell_counts z (Frame index seen trim frame) = record { pages = refl; sectors = refl }
spell_counts z (Number t client number) = record { pages = refl; sectors = refl }
spell_counts z (Begin e) = record { pages = refl; sectors = refl }
spell_counts z (State bytes) = record { pages = refl; sectors = refl }
spell_counts z (Write k bytes) = record { pages = refl; sectors = refl }
spell_counts z (Held index seen trim frame) = record { pages = refl; sectors = refl }
spell_counts z (message.Line t mac flags client own number refused acked window mss base) =
    record { pages = refl; sectors = refl }
spell_counts z (Bytes bytes) = record { pages = refl; sectors = refl }
spell_counts z (End e) = record { pages = refl; sectors = refl }
spell_counts z (Known t client number) = record { pages = refl; sectors = refl }
spell_counts z (Sent frame) = record { pages = refl; sectors = refl }
spell_counts z (Ack e) = record { pages = refl; sectors = refl }

pub spelled_counts : (z : GuestState) (ms : List Message) → SameCounts z (fold spell z ms)
spelled_counts z [] = record { pages = refl; sectors = refl }
spelled_counts z (m ∷ ms) =
    let here = spell_counts z m in
    let later = spelled_counts (spell z m) ms in
    record { pages = later.pages ∙ here.pages; sectors = later.sectors ∙ here.sectors }
