-- Each released segment is built of fields in their ranges, rule by rule and connection by connection.
use Rattle.std.proofs.Common.{ℕ, ◌+◌, ◌*◌, ◌-◌, ◌<◌, ◌≤◌, ◌^◌, Bool, true, false, ◌&&◌, nat_lt, max, min, is_some, List, [], ◌∷◌, ◌++◌, length, take, drop, fold, Option, None, Some, arith, All, length-take}
use Rattle.std.specs.List.{enumerate_from, flat_map, range_with_len}
use Rattle.std.proofs.lemmas.Bool.{cond_both}
use Rattle.std.proofs.lemmas.List.Elements.{All-append, All-cons, All-drop, All-head, All-map, All-nil, All-tail, All-take}
use Rattle.inet_frame.specs.declared.tuple.Tuple.{Tuple}
use Rattle.inet_build.specs.Segment.{MssFits}
use Rattle.shared_definitions.specs.Bytes.{AreBytes}
use Rattle.shared_definitions.proofs.ByteLemmas.{AreBytes-cons, AreBytes-nil, AreBytes-part}
use Rattle.tcp_track.specs.Lines.{Item, Line, line, order}
use Rattle.tcp_track.specs.Segments.{Symbol, syn, byte, fin, same_tuple}
use Rattle.tcp_track.specs.declared.answers.Took.{Took}
use Rattle.tcp_track.specs.declared.answers.What.{What}
use Rattle.tcp_track.specs.declared.answers.What.TheVariants.{Ignored, Opened, Restarted, Symbols, Reset, Refused}
use Rattle.tcp_track.specs.declared.openings.Opening.{Opening}
use Rattle.settle_rules.specs.Matching.{BothLines}
use Rattle.settle_rules.specs.Numbers.{keep_number, kept_number, number_or_zero}
use Rattle.settle_rules.specs.Pieces.{piece_at, piece_count, pieces_of}
use Rattle.settle_rules.specs.Progress.{Progress, progress_of}
use Rattle.settle_rules.specs.Release.{ack_alone, bytes_in, data_flags, data_segment, data_segments, has_symbol, largest_payload, payloads_of, refusal_of, release_bare, release_refusal, release_reset, release_symbols, rst_ack, segment_at, symbol_segments, syn_ack, syn_segments}
use Rattle.settle_rules.specs.Settle.{Scene, Settlement, agrees_on_reset, both_lines, is_empty, is_restarted, new_edge, release_again, release_span, same_number, settle, settle_one, settle_or_rest, settle_tuple, wants_bare}
use Rattle.settle_rules.specs.Survive.{Survival, lone_lines, survive, survive_line, survive_tuple, survivor_out}
use Rattle.theorem_frames.specs.Shapes.{AreSentInRange, IsBuilt, SettlingBuilds, SurvivingBuilds}
use Rattle.theorem_frames.proofs.RangeLemmas.{IsInRange, SymbolFits, TupleFits, line_in_range, order_fits}

-- both lines of a tuple, of which the own one is in its ranges
record CanBuild (b : BothLines) : Type 0 where
  tuple : TupleFits b.tuple
  mine : IsInRange b.mine

-- a payload of a segment
abbrev IsPayload : List ℕ → Type 0
IsPayload payload = (length payload ≤ 536) × AreBytes payload

segment_built : (b : BothLines) (offset flags : ℕ) (mss : Option ℕ) (payload : List ℕ) → CanBuild b → flags < 2 ^ 8 →
    MssFits mss → IsPayload payload → IsBuilt (segment_at b offset flags mss payload)
segment_built b offset flags mss payload h f m p = record {
  mac_len = h.mine.mac_len;
  mac = h.mine.mac;
  client = h.tuple.addr;
  header = record {
    port = h.tuple.port;
    guest = h.tuple.guest;
    seq = omega arith;
    ack = omega arith;
    flags = f;
    window = omega (arith, h.mine.window);
  };
  mss = m;
  payload_len = p.0;
  payload = p.1;
}

no_payload : IsPayload []
no_payload = (omega arith, AreBytes-nil)

-- SYMBOLS
bytes_fit : (xs : List Symbol) → All SymbolFits xs → AreBytes (bytes_in xs)
bytes_fit [] h = AreBytes-nil
bytes_fit (syn ∷ xs) h = bytes_fit xs (All-tail SymbolFits syn xs h)
bytes_fit (byte b ∷ xs) h =
    AreBytes-cons b (bytes_in xs) (All-head SymbolFits (byte b) xs h)
    (bytes_fit xs (All-tail SymbolFits (byte b) xs h))
bytes_fit (fin ∷ xs) h = bytes_fit xs (All-tail SymbolFits fin xs h)

piece_fits : (bytes : List ℕ) (k : ℕ) → AreBytes bytes → IsPayload (piece_at largest_payload bytes k)
piece_fits bytes k h = (
  omega (arith, length-take largest_payload (drop (largest_payload * k) bytes)),
  AreBytes-part bytes largest_payload (largest_payload * k) h,
)

pieces_fit : (bytes : List ℕ) → AreBytes bytes → All IsPayload (pieces_of largest_payload bytes)
pieces_fit bytes h =
    All-map IsPayload (piece_at largest_payload bytes)
    (range_with_len 0 (piece_count largest_payload (length bytes))) (λ i d l. piece_fits bytes _ h)

payloads_fit : (bytes : List ℕ) (ends : Bool) → AreBytes bytes → All IsPayload (payloads_of bytes ends)
payloads_fit [] true h = All-cons IsPayload [] [] no_payload (All-nil IsPayload)
payloads_fit [] false h = All-nil IsPayload
payloads_fit (x ∷ xs) ends h = pieces_fit (x ∷ xs) h

numbered_fit : (n : ℕ) (payloads : List (List ℕ)) → All IsPayload payloads →
    All (λ (x : ℕ × List ℕ). IsPayload x.1) (enumerate_from n payloads)
numbered_fit n [] h = All-nil (λ (x : ℕ × List ℕ). IsPayload x.1)
numbered_fit n (p ∷ payloads) h =
    All-cons (λ (x : ℕ × List ℕ). IsPayload x.1) (n, p) (enumerate_from (n + 1) payloads)
    (All-head IsPayload p payloads h) (numbered_fit (n + 1) payloads (All-tail IsPayload p payloads h))

flags_fit : (payload : List ℕ) (ends : Bool) → data_flags payload ends < 2 ^ 8
flags_fit [] ends = omega arith
flags_fit (x ∷ xs) true = omega arith
flags_fit (x ∷ xs) false = omega arith

data_built : (b : BothLines) (offset : ℕ) (bytes : List ℕ) (ends : Bool) → CanBuild b → AreBytes bytes →
    All IsBuilt (data_segments b offset bytes ends)
data_built b offset bytes ends h g =
    All-map IsBuilt (data_segment b offset bytes ends) (enumerate_from 0 (payloads_of bytes ends))
    (λ i d l. let fits = numbered_fit 0 (payloads_of bytes ends) (payloads_fit bytes ends g) i d l in
    segment_built b _ _ None _ h (flags_fit _ _) tt fits)

syn_built : (b : BothLines) (has : Bool) → CanBuild b → All IsBuilt (syn_segments b has)
syn_built b false h = All-nil IsBuilt
syn_built b true h =
    All-cons IsBuilt (segment_at b 0 syn_ack (Some (min b.mine.mss b.theirs.mss)) []) []
    (segment_built b 0 syn_ack (Some (min b.mine.mss b.theirs.mss)) [] h (omega arith) (omega (arith, h.mine.mss))
    no_payload) (All-nil IsBuilt)

symbols_built : (b : BothLines) (from : ℕ) (symbols : List Symbol) → CanBuild b → All SymbolFits symbols →
    All IsBuilt (symbol_segments b from symbols)
symbols_built b from symbols h g =
    All-append IsBuilt (syn_segments b (has_symbol syn symbols))
    (data_segments b (max from 1) (bytes_in symbols) (has_symbol fin symbols))
    (syn_built b (has_symbol syn symbols) h)
    (data_built b (max from 1) (bytes_in symbols) (has_symbol fin symbols) h (bytes_fit symbols g))

released_built : (b : BothLines) (from to : ℕ) → CanBuild b → All IsBuilt (release_symbols b from to)
unfolding release_symbols
released_built b from to h =
    symbols_built b from (take (to - from) (drop from b.mine.symbols)) h
    (All-take SymbolFits (to - from) (drop from b.mine.symbols) (All-drop SymbolFits from b.mine.symbols
    h.mine.symbols))

-- SEGMENTS WITHOUT SYMBOLS
bare_built : (b : BothLines) (edge : ℕ) (bare : Bool) → CanBuild b → All IsBuilt (release_bare b edge bare)
bare_built b edge false h = All-nil IsBuilt
bare_built b edge true h =
    All-cons IsBuilt (segment_at b edge ack_alone None []) []
    (segment_built b edge ack_alone None [] h (omega arith) tt no_payload) (All-nil IsBuilt)

reset_built : (b : BothLines) (edge : ℕ) (resets : Bool) → CanBuild b → All IsBuilt (release_reset b edge resets)
reset_built b edge false h = All-nil IsBuilt
reset_built b edge true h =
    All-cons IsBuilt (segment_at b edge rst_ack None []) []
    (segment_built b edge rst_ack None [] h (omega arith) tt no_payload) (All-nil IsBuilt)

one_refusal_built : (b : BothLines) (client : ℕ) → CanBuild b → IsBuilt (refusal_of b client)
one_refusal_built b client h = record {
  mac_len = h.mine.mac_len;
  mac = h.mine.mac;
  client = h.tuple.addr;
  header = record {
    port = h.tuple.port;
    guest = h.tuple.guest;
    seq = omega arith;
    ack = omega arith;
    flags = omega arith;
    window = omega arith;
  };
  mss = tt;
  payload_len = omega arith;
  payload = AreBytes-nil;
}

refusal_built : (b : BothLines) (refused : Option ℕ) (due : Bool) → CanBuild b →
    All IsBuilt (release_refusal b refused due)
refusal_built b None due h = All-nil IsBuilt
refusal_built b (Some client) true h =
    All-cons IsBuilt (refusal_of b client) [] (one_refusal_built b client h) (All-nil IsBuilt)
refusal_built b (Some client) false h = All-nil IsBuilt

-- THE FOUR RULES
span_built : (b : BothLines) (edge : ℕ) (what : What) → CanBuild b → All IsBuilt (release_span b edge what)
span_built b edge Ignored h = All-nil IsBuilt
span_built b edge (Opened o) h = All-nil IsBuilt
span_built b edge (Restarted o) h = All-nil IsBuilt
span_built b edge (Symbols from to) h = released_built b (max from b.mine.base) (min to edge) h
span_built b edge Reset h = All-nil IsBuilt
span_built b edge (Refused c) h = All-nil IsBuilt

again_built : (b : BothLines) (edge : ℕ) (tooks : List Took) → CanBuild b →
    All IsBuilt (flat_map (release_again b edge) tooks)
unfolding release_again
again_built b edge [] h = All-nil IsBuilt
again_built b edge (took ∷ tooks) h =
    All-append IsBuilt (release_again b edge took) (flat_map (release_again b edge) tooks)
    (cond_both (same_tuple took.tuple b.tuple) (release_span b edge took.what) [] (All IsBuilt)
    (λ e. span_built b edge took.what h) (λ e. All-nil IsBuilt)) (again_built b edge tooks h)

settled_built : (b : BothLines) (p : Progress) (is_turn : Bool) (tooks : List Took) → CanBuild b →
    All IsBuilt (settle_one b p is_turn tooks).out
unfolding settle_one
settled_built b p is_turn tooks h =
    let edge = new_edge b p.edge in
    let again = flat_map (release_again b p.edge) tooks in
    let fresh = release_symbols b p.edge edge in
    let symbols = again ++ fresh in
    let bare = release_bare b edge (is_empty symbols && (nat_lt 0 edge && wants_bare b p.edge p.last tooks)) in
    let resets = release_reset b edge (p.reset_due && agrees_on_reset b edge) in
    let refuses = p.refusal_due && same_number b.mine.refused b.theirs.refused in
    All-append IsBuilt (symbols ++ bare ++ resets) (release_refusal b b.mine.refused refuses)
    (All-append IsBuilt (symbols ++ bare) resets
    (All-append IsBuilt symbols bare
    (All-append IsBuilt again fresh (again_built b p.edge tooks h) (released_built b p.edge edge h))
    (bare_built b edge _ h)) (reset_built b edge _ h))
    (refusal_built b b.mine.refused refuses h)

rested_or_built : (restarted : Bool) (b : BothLines) (p : Progress) (is_turn : Bool) (tooks : List Took) →
    CanBuild b → All IsBuilt (settle_or_rest restarted b p is_turn tooks).out
rested_or_built true b p is_turn tooks h = All-nil IsBuilt
rested_or_built false b p is_turn tooks h = settled_built b p is_turn tooks h

-- ALL CONNECTIONS
lines_can_build : (scene : Scene) (t : Tuple) → AreSentInRange scene.mine → TupleFits t → CanBuild (both_lines scene t)
unfolding both_lines
lines_can_build scene t h g = record { tuple = g; mine = line_in_range scene.mine t h }

all_settled_built : (scene : Scene) (so_far : Settlement) (tuples : List Tuple) → AreSentInRange scene.mine →
    All TupleFits tuples → All IsBuilt so_far.out → All IsBuilt (fold (settle_tuple scene) so_far tuples).out
unfolding settle_tuple
all_settled_built scene so_far [] h g k = k
all_settled_built scene so_far (t ∷ tuples) h g k =
    all_settled_built scene (settle_tuple scene so_far t) tuples h (All-tail TupleFits t tuples g)
    (All-append IsBuilt so_far.out
    (settle_or_rest (is_restarted scene t) (both_lines scene t) (progress_of t so_far.progress) scene.is_turn
    scene.tooks).out k
    (rested_or_built (is_restarted scene t) (both_lines scene t) (progress_of t so_far.progress) scene.is_turn
    scene.tooks (lines_can_build scene t h (All-head TupleFits t tuples g))))

pub settling_builds_lem : SettlingBuilds
unfolding settle
settling_builds_lem scene progress h =
    all_settled_built scene (record { progress = progress; out = [] }) (order scene.mine) h
    (order_fits scene.mine h) (All-nil IsBuilt)

-- THE SURVIVOR
survivor_built : (b : BothLines) → CanBuild b → All IsBuilt (survivor_out b)
unfolding survivor_out
survivor_built b h =
    let end = length b.mine.symbols in
    let symbols = release_symbols b (max 1 b.mine.base) end in
    let resets = release_reset b end b.mine.reset in
    let refuses = release_refusal b b.mine.refused (is_some b.mine.refused) in
    All-append IsBuilt (syn_segments b true ++ symbols ++ resets) refuses
    (All-append IsBuilt (syn_segments b true ++ symbols) resets
    (All-append IsBuilt (syn_segments b true) symbols (syn_built b true h)
    (released_built b (max 1 b.mine.base) end h)) (reset_built b end b.mine.reset h))
    (refusal_built b b.mine.refused (is_some b.mine.refused) h)

one_survives : (x : Survival) (t : Tuple) (l : Line) (o : Option Opening) → TupleFits t → IsInRange l →
    All IsBuilt x.out → All IsBuilt (survive_line x t l o).out
unfolding survive_line
one_survives x t l None g h k =
    All-append IsBuilt x.out (release_refusal (lone_lines t l 0) l.refused (is_some l.refused)) k
    (refusal_built (lone_lines t l 0) l.refused (is_some l.refused) (record { tuple = g; mine = h }))
one_survives x t l (Some o) g h k =
    let numbers = keep_number t o.client o.own true x.numbers in
    let b = lone_lines t l (number_or_zero (kept_number t o.client numbers)) in
    All-append IsBuilt x.out (survivor_out b) k (survivor_built b (record { tuple = g; mine = h }))

all_survive : (items : List Item) (x : Survival) (tuples : List Tuple) → AreSentInRange items →
    All TupleFits tuples → All IsBuilt x.out → All IsBuilt (fold (survive_tuple items) x tuples).out
unfolding survive_tuple
all_survive items x [] h g k = k
all_survive items x (t ∷ tuples) h g k =
    all_survive items (survive_tuple items x t) tuples h (All-tail TupleFits t tuples g)
    (one_survives x t (line t items) (line t items).opening (All-head TupleFits t tuples g) (line_in_range items t h) k)

pub surviving_builds_lem : SurvivingBuilds
unfolding survive
surviving_builds_lem items numbers h =
    all_survive items (record { numbers = numbers; progress = []; out = [] }) (order items) h (order_fits items h)
    (All-nil IsBuilt)
