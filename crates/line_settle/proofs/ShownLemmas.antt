-- The SYN that was last released, among what goes out.
use Rattle.std.proofs.Common.{◌≡◌, ℕ, ◌+◌, ◌-◌, ◌*◌, ◌%◌, ◌^◌, ◌<◌, Bool, true, false, ◌==◌, max, if◌then◌else◌, List, [], ◌∷◌, ◌++◌, length, map, take, drop, get_or, Option, None, Some, refl, sym, ap, ◌∙◌, arith, append-nil}
use Rattle.std.proofs.lemmas.List.{take_more}
use Rattle.std.proofs.lemmas.Grind.{flat_map-append}
use Rattle.std.specs.List.{enumerate_from, flat_map}
use Rattle.tcp_track.specs.Segments.{Symbol, syn, fin}
use Rattle.tcp_track.specs.declared.answers.Took.{Took}
use Rattle.tcp_track.specs.declared.openings.Opening.{Opening}
use Rattle.settle_rules.specs.Matching.{BothLines}
use Rattle.settle_rules.specs.Release.{Released, tcp, reply, syn_ack, data_flags, data_segment, data_segments, ends_here, largest_payload, payloads_of, syn_segments, bytes_in, has_symbol, release_symbols, release_bare, release_reset}
use Rattle.settle_rules.specs.Settle.{release_again, shown_after}

pub shown_after-append : (c : ℕ) (s : Option Opening) (xs ys : List Released) →
    shown_after c s (xs ++ ys) ≡ shown_after c (shown_after c s xs) ys
shown_after-append c s [] ys = refl
shown_after-append c s (reply _ ∷ xs) ys = shown_after-append c s xs ys
shown_after-append c s (tcp f _ ∷ xs) ys = shown_after-append c (if f.flags == syn_ack
    then Some (record { client = c; own = f.seq }) else s) xs ys

no_syn : (payload : List ℕ) (ends : Bool) → (data_flags payload ends == syn_ack) ≡ false
no_syn [] ends = refl
no_syn (x ∷ xs) true = refl
no_syn (x ∷ xs) false = refl

shown_data : (b : BothLines) (offset : ℕ) (bytes : List ℕ) (ends : Bool) (c : ℕ) (s : Option Opening)
    (ps : List (ℕ × List ℕ)) → shown_after c s (map (data_segment b offset bytes ends) ps) ≡ s
shown_data b offset bytes ends c s [] = refl
shown_data b offset bytes ends c s (p ∷ ps) =
    ap (λ (t : Bool). shown_after c (if t then Some (record {
      client = c;
      own = (b.number + (offset + largest_payload * p.0)) % 2 ^ 32;
    }) else s) (map (data_segment b offset bytes ends) ps)) (no_syn p.1 (ends_here bytes ends p.0))
    ∙ shown_data b offset bytes ends c s ps

shown_syn : (b : BothLines) (c : ℕ) (s : Option Opening) (has : Bool) → shown_after c s (syn_segments b has)
    ≡ (if has then Some (record { client = c; own = (b.number + 0) % 2 ^ 32 }) else s)
shown_syn b c s true = refl
shown_syn b c s false = refl

own_number : (n : ℕ) → n < 2 ^ 32 → (n + 0) % 2 ^ 32 ≡ n
own_number n h = omega (arith, h)

-- the symbols of a line from one offset up to another
abbrev pub symbols_of : BothLines → ℕ → ℕ → List Symbol
symbols_of b from to = take (to - from) (drop from b.mine.symbols)

pub shown_symbols : (b : BothLines) (from to c : ℕ) (s : Option Opening) → b.number < 2 ^ 32 →
    shown_after c s (release_symbols b from to)
    ≡ (if has_symbol syn (symbols_of b from to) then Some (record { client = c; own = b.number }) else s)
unfolding release_symbols
shown_symbols b from to c s h =
    let symbols = symbols_of b from to in
    let bytes = bytes_in symbols in
    let ends = has_symbol fin symbols in
    shown_after-append c s (syn_segments b (has_symbol syn symbols)) (data_segments b (max from 1) bytes ends)
    ∙ (shown_data b (max from 1) bytes ends c (shown_after c s (syn_segments b (has_symbol syn symbols)))
    (enumerate_from
    0 (payloads_of bytes ends)) ∙ (shown_syn b c s (has_symbol syn symbols)
    ∙ ap (λ (n : ℕ). if has_symbol syn symbols then Some (record { client = c; own = n }) else s)
    (own_number b.number h)))

-- neither a segment without symbols nor a reset is one
pub shown_bare : (b : BothLines) (edge c : ℕ) (s : Option Opening) (goes : Bool) →
    shown_after c s (release_bare b edge goes) ≡ s
shown_bare b edge c s true = refl
shown_bare b edge c s false = refl

pub shown_reset : (b : BothLines) (edge c : ℕ) (s : Option Opening) (goes : Bool) →
    shown_after c s (release_reset b edge goes) ≡ s
shown_reset b edge c s true = refl
shown_reset b edge c s false = refl

-- from an offset up to itself nothing goes out
pub release_nothing : (b : BothLines) (from to : ℕ) → to ≡ from → release_symbols b from to ≡ []
unfolding release_symbols
release_nothing b from to same =
    let none : to - from ≡ 0 = omega (arith, same) in
    ap (λ (n : ℕ). syn_segments b (has_symbol syn (take n (drop from b.mine.symbols)))
    ++ data_segments b (max from 1) (bytes_in (take n (drop from b.mine.symbols)))
    (has_symbol fin (take n (drop from b.mine.symbols)))) none

-- what one segment more carries
pub one_more_again : (b : BothLines) (edge : ℕ) (tooks : List Took) (k : ℕ) (took : Took) → k < length tooks →
    flat_map (release_again b edge) (take (k + 1) tooks)
    ≡ flat_map (release_again b edge) (take k tooks) ++ release_again b edge (get_or tooks k took)
one_more_again b edge tooks k took h =
    ap (flat_map (release_again b edge)) (take_more tooks k took h)
    ∙ (flat_map-append (release_again b edge) (take k tooks) (get_or tooks k took ∷ [])
    ∙ ap (λ (xs : List Released). flat_map (release_again b edge) (take k tooks) ++ xs)
    (append-nil (release_again b edge (get_or tooks k took))))
