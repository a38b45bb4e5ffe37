-- What a segment of the node's own guest leaves of its line, and of its connection's edge.
use Rattle.std.proofs.Common.{◌≡◌, ℕ, ◌≤◌, Bool, true, false, ◌||◌, is_some, if◌then◌else◌, List, [], ◌∷◌, Option, None, Some, refl, sym, ap, subst, ◌∙◌, true≢false, arith}
use Rattle.inet_frame.specs.Counted.{tuple_of}
use Rattle.inet_frame.specs.Fields.{TcpFields}
use Rattle.inet_frame.specs.Flags.{has_rst}
use Rattle.inet_frame.specs.declared.tuple.Tuple.{Tuple}
use Rattle.tcp_track.specs.LineFields.{LineFields, fields_after, fields_with, fields_opened, fields_refused, fields_reset, grows, grow_fields}
use Rattle.tcp_track.specs.Segments.{is_refusal, refused_in, opens_anew, opening_in, start_of, symbols_in, Symbol}
use Rattle.tcp_track.specs.Tracking.{what_of, span_in, span_of}
use Rattle.tcp_track.specs.declared.answers.What.{What}
use Rattle.tcp_track.specs.declared.answers.What.TheVariants.{Ignored, Opened, Restarted, Symbols, Reset, Refused}
use Rattle.tcp_track.specs.declared.openings.Opening.{Opening}
use Rattle.settle_rules.specs.OwnFrames.{progress_with}
use Rattle.settle_rules.specs.Progress.{Progress}
use Rattle.line_match.specs.Untrimmed.{IsUntrimmed}

-- a line that is as open and as trimmed as before
abbrev Stays : LineFields → LineFields → Type 0
Stays l m = (m.opening ≡ l.opening) × (m.base ≡ l.base)

still_untrimmed : (l m : LineFields) (edge : ℕ) → Stays l m → IsUntrimmed l edge → IsUntrimmed m edge
still_untrimmed l m edge same h o =
    let low = h (ap is_some (sym same.0) ∙ o) in
    omega (arith, low, same.1)

grown_stays : (b : Bool) (l : LineFields) (from : ℕ) (s : TcpFields) → Stays l (if b then grow_fields l from s else l)
grown_stays true l from s = (refl, refl)
grown_stays false l from s = (refl, refl)

with_stays : (l : LineFields) (o : Option Opening) (s : TcpFields) → Stays l (fields_with l o s)
with_stays l None s = (refl, refl)
with_stays l (Some o) s = grown_stays (grows l o.own s) l (start_of o.own s) s

span_edge : (from : ℕ) (xs : List Symbol) (p : Progress) → (progress_with (span_of from xs) p).edge ≡ p.edge
span_edge from [] p = refl
span_edge from (x ∷ xs) p = refl

span_in_edge : (o : Option Opening) (s : TcpFields) (p : Progress) → (progress_with (span_in o s) p).edge ≡ p.edge
span_in_edge None s p = refl
span_in_edge (Some o) s p = span_edge (start_of o.own s) (symbols_in o.own s) p

reset_edge : (b : Bool) (p : Progress) → (progress_with (if b then Reset else Ignored) p).edge ≡ p.edge
reset_edge true p = refl
reset_edge false p = refl

-- a segment leaves the line untrimmed past its edge
pub segment_untrimmed : (l : LineFields) (known : Bool) (s : TcpFields) (p : Progress) → IsUntrimmed l p.edge →
    IsUntrimmed (fields_after l s) (progress_with (what_of l.opening known s) p).edge
unfolding fields_after what_of
segment_untrimmed l known s p h = by_refusal (is_refusal s)
  where
    opened : (k : Bool) → IsUntrimmed (fields_opened l s) (progress_with (if k then Restarted (opening_in s)
        else Opened (opening_in s)) p).edge
    opened true o = omega arith
    opened false o = omega arith

    by_opens : (b : Bool) → IsUntrimmed (if b then fields_opened l s else fields_with l l.opening s)
        (progress_with (if b then (if known then Restarted (opening_in s) else Opened (opening_in s))
        else span_in l.opening s) p).edge
    by_opens true = opened known
    by_opens false = subst (λ (n : ℕ). IsUntrimmed (fields_with l l.opening s) n) (sym (span_in_edge l.opening s p))
        (still_untrimmed l (fields_with l l.opening s) p.edge (with_stays l l.opening s) h)

    by_rst : (b : Bool) → IsUntrimmed (if b then fields_reset l
        else (if opens_anew l.opening s then fields_opened l s else fields_with l l.opening s))
        (progress_with (if b then (if is_some l.opening then Reset else Ignored)
        else (if opens_anew l.opening s then (if known then Restarted (opening_in s) else Opened (opening_in s))
        else span_in l.opening s)) p).edge
    by_rst true = subst (λ (n : ℕ). IsUntrimmed (fields_reset l) n) (sym (reset_edge (is_some l.opening) p))
        (still_untrimmed l (fields_reset l) p.edge (refl, refl) h)
    by_rst false = by_opens (opens_anew l.opening s)

    by_refusal : (b : Bool) → IsUntrimmed (if b then fields_refused l s else (if has_rst s.flags then fields_reset l
        else (if opens_anew l.opening s then fields_opened l s else fields_with l l.opening s)))
        (progress_with (if b then Refused (refused_in s)
        else (if has_rst s.flags then (if is_some l.opening then Reset else Ignored)
        else (if opens_anew l.opening s then (if known then Restarted (opening_in s) else Opened (opening_in s))
        else span_in l.opening s))) p).edge
    by_refusal true = still_untrimmed l (fields_refused l s) p.edge (refl, refl) h
    by_refusal false = by_rst (has_rst s.flags)
