-- The tuple that a segment restarts, by the rule and by what the segment is.
use Rattle.std.proofs.Common.{◌≡◌, ℕ, Bool, true, false, not, ◌&&◌, max, min, if◌then◌else◌, List, [], ◌∷◌, fold, is_some, Option, None, Some, refl, sym, ap, ◌∙◌}
use Rattle.std.proofs.lemmas.Bool.{and_parts}
use Rattle.inet_frame.specs.Counted.{tuple_of}
use Rattle.inet_frame.specs.Fields.{TcpFields}
use Rattle.inet_frame.specs.Flags.{has_rst}
use Rattle.inet_frame.specs.declared.tuple.Tuple.{Tuple}
use Rattle.tcp_track.specs.Laws.{took_after}
use Rattle.tcp_track.specs.Lines.{Item, sent, trim, commit, Line, no_line, after_segment, after_trim, line, line_after, line_with, opened_line, refused_line, trim_end}
use Rattle.tcp_track.specs.Restarts.{Openings, is_known_client, is_restart, no_openings, openings, openings_after}
use Rattle.tcp_track.specs.Segments.{is_refusal, opening_in, opens_anew, same_opening, same_tuple, Symbol, symbols_in, start_of, refused_in}
use Rattle.tcp_track.specs.Stands.{is_of_client}
use Rattle.tcp_track.specs.Tracking.{span_in, span_of, what_of}
use Rattle.tcp_track.specs.declared.answers.What.TheVariants.{Ignored, Opened, Restarted, Reset, Refused}
use Rattle.tcp_track.specs.declared.openings.Opening.{Opening}
use Rattle.tcp_track.proofs.SymbolLemmas.{rst_opens_not}
use Rattle.settle_rules.specs.OwnFrames.{restarts_of}
use Rattle.settle_history.specs.Laws.{restarts_heard}

-- THE OPENING OF A LINE

resets_not : (current : Option Opening) (s : TcpFields) → has_rst s.flags ≡ true → opens_anew current s ≡ false
resets_not current s r = ap (λ (b : Bool). b && not (same_opening current (opening_in s))) (rst_opens_not s r)

refusal_resets : (s : TcpFields) → is_refusal s ≡ true → has_rst s.flags ≡ true
unfolding is_refusal
refusal_resets s h = (and_parts (has_rst s.flags) _ h).0

opened_by : Option Opening → TcpFields → Option Opening
opened_by current s = if opens_anew current s then Some (opening_in s) else current

with_opening : (l : Line) (o : Option Opening) (s : TcpFields) → (line_with l o s).opening ≡ l.opening
with_opening l None s = refl
with_opening l (Some o) s = refl

segment_opening : (l : Line) (s : TcpFields) →
    (after_segment l s).opening ≡ (if opens_anew l.opening s then Some (opening_in s) else l.opening)
unfolding after_segment
segment_opening l s = by_refusal (is_refusal s) refl
  where
    target : Bool → Option Opening
    target b = if b then Some (opening_in s) else l.opening

    by_opens : (b : Bool) → (if b then opened_line l s else line_with l l.opening s).opening ≡ target b
    by_opens true = refl
    by_opens false = with_opening l l.opening s

    by_rst : (b : Bool) → has_rst s.flags ≡ b → (if b then record l { reset = is_some l.opening } else
        (if opens_anew l.opening s then opened_line l s else line_with l l.opening s)).opening
        ≡ target (opens_anew l.opening s)
    by_rst true r = ap target (sym (resets_not l.opening s r))
    by_rst false r = by_opens (opens_anew l.opening s)

    by_refusal : (b : Bool) → is_refusal s ≡ b → (if b then refused_line l s else
        (if has_rst s.flags then record l { reset = is_some l.opening } else
        (if opens_anew l.opening s then opened_line l s else line_with l l.opening s))).opening
        ≡ target (opens_anew l.opening s)
    by_refusal true e = ap target (sym (resets_not l.opening s (refusal_resets s e)))
    by_refusal false e = by_rst (has_rst s.flags) refl

trim_opening : (l : Line) (client to : ℕ) → (after_trim l client to).opening ≡ l.opening
unfolding after_trim
trim_opening l client to = by (is_of_client l.opening client)
  where
    by : (b : Bool) →
        (if b then record l { base = max l.base (min to (trim_end l.symbols)) } else l).opening ≡ l.opening
    by true = refl
    by false = refl

one_more : (t : Tuple) (l : Line) (o : Openings) (i : Item) → o.current ≡ l.opening →
    (openings_after t o i).current ≡ (line_after t l i).opening
unfolding openings_after line_after
one_more t l o (sent s) h = by (same_tuple (tuple_of s) t)
  where
    opens : (b : Bool) → opens_anew o.current s ≡ b → (if b then record o {
      current = Some (opening_in s);
      since = (opening_in s).client ∷ o.since;
    } else o).current ≡ (if b then Some (opening_in s) else o.current)
    opens true e = refl
    opens false e = refl

    by : (b : Bool) → (if b && opens_anew o.current s then record o {
      current = Some (opening_in s);
      since = (opening_in s).client ∷ o.since;
    } else o).current ≡ (if b then after_segment l s else l).opening
    by true = opens (opens_anew o.current s) refl
        ∙ (ap (λ (p : Option Opening). if opens_anew p s then Some (opening_in s) else p) h
        ∙ sym (segment_opening l s))
    by false = h
one_more t l o (trim u client to) h = by (same_tuple u t)
  where
    by : (b : Bool) → o.current ≡ (if b then after_trim l client to else l).opening
    by true = h ∙ sym (trim_opening l client to)
    by false = h
one_more t l o commit h = h

all_items : (t : Tuple) (items : List Item) (l : Line) (o : Openings) → o.current ≡ l.opening →
    (fold (openings_after t) o items).current ≡ (fold (line_after t) l items).opening
all_items t [] l o h = h
all_items t (i ∷ items) l o h = all_items t items (line_after t l i) (openings_after t o i) (one_more t l o i h)

current_is : (t : Tuple) (items : List Item) → (openings t items).current ≡ (line t items).opening
unfolding openings line
current_is t items = all_items t items no_line no_openings refl

-- A RESTART

span_restarts : (t : Tuple) (current : Option Opening) (s : TcpFields) → restarts_of t (span_in current s) ≡ []
span_restarts t None s = refl
span_restarts t (Some o) s = by (start_of o.own s) (symbols_in o.own s)
  where
    by : (from : ℕ) (xs : List Symbol) → restarts_of t (span_of from xs) ≡ []
    by from [] = refl
    by from (x ∷ xs) = refl

what_restarts : (t : Tuple) (current : Option Opening) (known : Bool) (s : TcpFields) →
    restarts_of t (what_of current known s) ≡ (if opens_anew current s && known then t ∷ [] else [])
unfolding what_of
what_restarts t current known s = by_refusal (is_refusal s) refl
  where
    target : Bool → List Tuple
    target b = if b && known then t ∷ [] else []

    by_known : (k : Bool) → restarts_of t (if k then Restarted (opening_in s) else Opened (opening_in s))
        ≡ (if k then t ∷ [] else [])
    by_known true = refl
    by_known false = refl

    by_opens : (b : Bool) → restarts_of t (if b then (if known then Restarted (opening_in s) else Opened
        (opening_in s)) else span_in current s) ≡ target b
    by_opens true = by_known known
    by_opens false = span_restarts t current s

    reset_restarts : (b : Bool) → restarts_of t (if b then Reset else Ignored) ≡ []
    reset_restarts true = refl
    reset_restarts false = refl

    by_rst : (b : Bool) → has_rst s.flags ≡ b → restarts_of t (if b then (if is_some current then Reset else Ignored)
        else (if opens_anew current s then (if known then Restarted (opening_in s) else Opened (opening_in s))
        else span_in current s)) ≡ target (opens_anew current s)
    by_rst true r = reset_restarts (is_some current) ∙ ap target (sym (resets_not current s r))
    by_rst false r = by_opens (opens_anew current s)

    by_refusal : (b : Bool) → is_refusal s ≡ b → restarts_of t (if b then Refused (refused_in s)
        else (if has_rst s.flags then (if is_some current then Reset else Ignored)
        else (if opens_anew current s then (if known then Restarted (opening_in s) else Opened (opening_in s))
        else span_in current s))) ≡ target (opens_anew current s)
    by_refusal true e = ap target (sym (resets_not current s (refusal_resets s e)))
    by_refusal false e = by_rst (has_rst s.flags) refl

-- what a segment restarts
pub restarts_are : (items : List Item) (s : TcpFields) →
    restarts_of (took_after items s).tuple (took_after items s).what ≡ restarts_heard items (s ∷ [])
unfolding took_after is_restart
restarts_are items s =
    let t = tuple_of s in
    let o = openings t items in
    let current = (line t items).opening in
    let known = is_known_client o (opening_in s).client in
    what_restarts t current (opens_anew o.current s && known) s
    ∙ (ap (λ (p : Option Opening). if opens_anew p s && (opens_anew o.current s && known) then t ∷ [] else [])
    (sym (current_is t items))
    ∙ by (opens_anew o.current s) known)
  where
    by : (b known : Bool) → (if b && (b && known) then tuple_of s ∷ [] else []) ≡ (if b && known then tuple_of s ∷ []
        else [])
    by true known = refl
    by false known = refl
