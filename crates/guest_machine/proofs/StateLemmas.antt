-- The state and its parts: bytes, pages and sectors.
use Rattle.std.proofs.Common.{◌≡◌, ℕ, ◌+◌, ◌*◌, ◌/◌, ◌%◌, ◌^◌, ◌≤◌, ◌&&◌, Bool, true, false, List, ◌++◌, length, refl, sym, ap, ◌∙◌, arith}
use Rattle.std.proofs.lemmas.Bool.{eqb-true}
use Rattle.std.proofs.lemmas.List.{length-set}
use Rattle.std.specs.Prelude.{slice_set}
use Rattle.machine_bytes.specs.Reading as reading
use Rattle.machine_bytes.specs.Reading.{accepts, fields_in}
use Rattle.machine_bytes.specs.Spelling.{bytes_of, state_len}
use Rattle.machine_bytes.specs.declared.fields.StateFields.{StateFields}
use Rattle.page_track.specs.Memory.{Memory, page_size, with_part}
use Rattle.rv_platform.specs.Step.{PlatformState}
use Rattle.shared_definitions.proofs.OverwriteLemmas.{length-overwrite}
use Rattle.shared_definitions.specs.Memory.{place_of, ram_base}
use Rattle.shared_definitions.specs.Overwrite.{overwrite}
use Rattle.state_wire.specs.Guest.{GuestState, GuestTurn, Kind, Meaning, after_turn, sent_in, with_bytes, with_page, with_sector}
use Rattle.virtio_blk.specs.Disk.{DiskState}
use Rattle.guest_machine.proofs.PageLemmas.{pages_are_memory, pages_same, pages_set, set_past}
use Rattle.guest_machine.specs.Guest.{MachineParts, fields_of, guest_state, machine_kind, machine_meaning, memory_of, pages_of, platform_of, state_in}
use Rattle.guest_machine.specs.Kinds.{KeepsSizes}
use Rattle.guest_machine.specs.Turn.{State, make_turn}

-- the parts of a state stand for it
pub parts_stand : (s : State) → fields_in (bytes_of (fields_of s.platform)) ≡ fields_of s.platform
    → platform_of (fields_of s.platform) s.platform.memory (length s.disk.mine) ≡ s.platform
    → length s.platform.memory.bytes % page_size ≡ 0 → state_in (guest_state s) ≡ s
unfolding state_in guest_state
parts_stand s back whole h =
    let n = length s.disk.mine in
    let with : PlatformState → State = λ p. record { platform = p; disk = s.disk } in
    ap (λ (f : StateFields). with (platform_of f (memory_of (pages_of s.platform.memory.bytes)) n)) back
    ∙ (ap (λ (m : Memory). with (platform_of (fields_of s.platform) m n)) (pages_are_memory s.platform.memory h)
    ∙ ap with whole)

-- the kind is the sizes'
pub same_kind : (s t : State) → KeepsSizes s t
    → machine_kind (length t.platform.memory.bytes / page_size) (length t.disk.mine)
    ≡ machine_kind (length s.platform.memory.bytes / page_size) (length s.disk.mine)
same_kind s t k =
    ap (λ (n : ℕ). machine_kind (n / page_size) (length t.disk.mine)) k.memory
    ∙ ap (machine_kind (length s.platform.memory.bytes / page_size)) k.disk

abbrev meaning_of : Kind → GuestState → ℕ → Meaning
meaning_of kind state turned = record { kind = kind; state = state; turned = turned }

-- the machine after a turn
pub after_is : (m n : MachineParts) (turn : GuestTurn) → state_in (guest_state m.state) ≡ m.state
    → n.state ≡ (make_turn m.state turn).state → KeepsSizes m.state n.state
    → n.turned ≡ (m.turned + 1) % 2 ^ 64 → machine_meaning n ≡ after_turn (machine_meaning m) turn
after_is m n turn back is sizes counted =
    let kind = (machine_meaning m).kind in
    ap (λ (k : Kind). meaning_of k (guest_state n.state) n.turned) (same_kind m.state n.state sizes)
    ∙ (ap (λ (s : State). meaning_of kind (guest_state s) n.turned) is
    ∙ (ap (λ (s : State). meaning_of kind (guest_state (make_turn s turn).state) n.turned) (sym back)
    ∙ ap (meaning_of kind (guest_state (make_turn (state_in (guest_state m.state)) turn).state)) counted))

pub sent_is : (m : MachineParts) (turn : GuestTurn) (before after : List (List ℕ))
    → state_in (guest_state m.state) ≡ m.state → after ≡ before ++ (make_turn m.state turn).frames
    → after ≡ before ++ sent_in (machine_meaning m) turn
sent_is m turn before after back is =
    is ∙ ap (λ (s : State). before ++ (make_turn s turn).frames) (sym back)

-- ---- loading

-- the values that bytes stand for are those of the platform that they make
fields_back : (b : List ℕ) (memory : Memory) (sectors : ℕ)
    → fields_of (platform_of (fields_in b) memory sectors) ≡ fields_in b
unfolding fields_in reading.device_of
fields_back b memory sectors = refl

pub bytes_loaded : (m n : MachineParts) (b : List ℕ)
    → n.state.platform ≡ platform_of (fields_in b) m.state.platform.memory (length m.state.disk.mine)
    → n.state.disk ≡ m.state.disk → n.turned ≡ m.turned → bytes_of (fields_in b) ≡ b
    → machine_meaning n ≡ with_bytes (machine_meaning m) b
unfolding guest_state
bytes_loaded m n b is disk turned back =
    let memory = m.state.platform.memory in
    let sectors = m.state.disk.mine in
    let p = platform_of (fields_in b) memory (length sectors) in
    let of : PlatformState → DiskState → ℕ → Meaning =
    λ q d t. machine_meaning (record { state = record { platform = q; disk = d }; turned = t; spent = n.spent }) in
    let with : List ℕ → Meaning = λ bytes. meaning_of
    (machine_kind (length memory.bytes / page_size) (length sectors))
    (record { bytes = bytes; pages = pages_of memory.bytes; sectors = sectors }) m.turned in
    ap (λ (q : PlatformState). of q n.state.disk n.turned) is
    ∙ (ap (λ (d : DiskState). of p d n.turned) disk
    ∙ (ap (of p m.state.disk) turned
    ∙ (ap (λ (f : StateFields). with (bytes_of f)) (fields_back b memory (length sectors)) ∙ ap with back)))

-- the address of a page's place
page_place : (k : ℕ) → place_of (ram_base + k * page_size) ≡ k * page_size
page_place k = omega arith

pub page_loaded : (m n : MachineParts) (k : ℕ) (page : List ℕ) → length page ≡ page_size
    → (k + 1) * page_size ≤ length m.state.platform.memory.bytes
    → n.state.platform ≡ record m.state.platform {
      memory = with_part m.state.platform.memory (ram_base + k * page_size) page;
    }
    → n.state.disk ≡ m.state.disk → n.turned ≡ m.turned
    → machine_meaning n ≡ with_page (machine_meaning m) k page
unfolding guest_state
page_loaded m n k page e h is disk turned =
    let p = m.state.platform in
    let b = p.memory.bytes in
    let sectors = m.state.disk.mine in
    let of : PlatformState → DiskState → ℕ → Meaning =
    λ q d t. machine_meaning (record { state = record { platform = q; disk = d }; turned = t; spent = n.spent }) in
    let over : List ℕ → Meaning = λ bytes. of (record p { memory = record { bytes = bytes } }) m.state.disk m.turned in
    let with : ℕ → List (List ℕ) → Meaning = λ size pages. meaning_of
    (machine_kind (size / page_size) (length sectors))
    (record { bytes = bytes_of (fields_of p); pages = pages; sectors = sectors }) m.turned in
    let now = overwrite b (k * page_size) page in
    let written : PlatformState = record p { memory = with_part p.memory (ram_base + k * page_size) page } in
    let fits : k * page_size + length page ≤ length b = omega arith in
    ap (λ (q : PlatformState). of q n.state.disk n.turned) is
    ∙ (ap (λ (d : DiskState). of written d n.turned) disk
    ∙ (ap (of written m.state.disk) turned
    ∙ (ap (λ (at : ℕ). over (overwrite b at page)) (page_place k)
    ∙ (ap (λ (size : ℕ). with size (pages_of now)) (length-overwrite b (k * page_size) page fits)
    ∙ ap (with (length b)) (pages_set b page k h e)))))

pub page_absent : (m n : MachineParts) (k : ℕ) (page : List ℕ)
    → length m.state.platform.memory.bytes / page_size ≤ k → n ≡ m
    → machine_meaning n ≡ with_page (machine_meaning m) k page
unfolding guest_state
page_absent m n k page h is =
    let p = m.state.platform in
    let sectors = m.state.disk.mine in
    let with : List (List ℕ) → Meaning = λ pages. meaning_of
    (machine_kind (length p.memory.bytes / page_size) (length sectors))
    (record { bytes = bytes_of (fields_of p); pages = pages; sectors = sectors }) m.turned in
    ap machine_meaning is ∙ ap with (sym (pages_same p.memory.bytes page k h))

pub sector_loaded : (m n : MachineParts) (k : ℕ) (sector : List ℕ) → n.state.platform ≡ m.state.platform
    → n.state.disk.mine ≡ slice_set m.state.disk.mine k sector → n.turned ≡ m.turned
    → machine_meaning n ≡ with_sector (machine_meaning m) k sector
unfolding guest_state
sector_loaded m n k sector is disk turned =
    let p = m.state.platform in
    let old = m.state.disk.mine in
    let of : PlatformState → List (List ℕ) → ℕ → Meaning = λ q d t. machine_meaning (record {
      state = record { platform = q; disk = record { mine = d } };
      turned = t;
      spent = n.spent;
    }) in
    let with : ℕ → Meaning = λ count. meaning_of
    (machine_kind (length p.memory.bytes / page_size) count)
    (record { bytes = bytes_of (fields_of p); pages = pages_of p.memory.bytes; sectors = slice_set old k sector })
    m.turned in
    ap (λ (q : PlatformState). of q n.state.disk.mine n.turned) is
    ∙ (ap (λ (d : List (List ℕ)). of p d n.turned) disk
    ∙ (ap (of p (slice_set old k sector)) turned ∙ ap with (length-set old k sector)))

left : (a b : Bool) → (a && b) ≡ true → a ≡ true
left true b h = refl
left false b h = cc

-- bytes that are accepted are few
pub accepted_len : (b : List ℕ) → accepts b ≡ true → length b ≤ 16777216
unfolding accepts
accepted_len b h =
    let len = eqb-true (length b) state_len (left _ _ (left _ _ h)) in
    omega (arith, len)

pub sector_absent : (m : MachineParts) (k : ℕ) (sector : List ℕ) → length m.state.disk.mine ≤ k
    → machine_meaning m ≡ with_sector (machine_meaning m) k sector
unfolding guest_state
sector_absent m k sector h =
    let p = m.state.platform in
    let old = m.state.disk.mine in
    let with : List (List ℕ) → Meaning = λ sectors. meaning_of
    (machine_kind (length p.memory.bytes / page_size) (length old))
    (record { bytes = bytes_of (fields_of p); pages = pages_of p.memory.bytes; sectors = sectors }) m.turned in
    ap with (sym (set_past old k sector h))
