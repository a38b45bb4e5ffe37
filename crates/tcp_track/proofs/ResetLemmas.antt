-- The reset and the refusal that a line holds stand in what was sent.
use Rattle.std.proofs.Common.{◌≡◌, ℕ, ◌&&◌, if◌then◌else◌, Bool, true, false, List, [], ◌∷◌, ◌++◌, append_assoc, append-nil, filter_map, Option, None, Some, refl, sym, ap, subst, ◌∙◌, true≢false, is_some, max, min}
use Rattle.std.proofs.lemmas.Bool.{and_left, cond-false}
use Rattle.inet_frame.specs.Counted.{tuple_of}
use Rattle.inet_frame.specs.Fields.{TcpFields}
use Rattle.inet_frame.specs.Flags.{has_rst}
use Rattle.inet_frame.specs.declared.tuple.Tuple.{Tuple}
use Rattle.tcp_track.specs.Segments.{same_tuple, opening_in, opens_anew, may_open, is_refusal, refused_in}
use Rattle.tcp_track.specs.Stands.{opening_after, opening_of, is_of_client, ResetStands, RefusalStands}
use Rattle.tcp_track.specs.Lines.{Item, Line, no_line, after_segment, opened_line, refused_line, line_with, line_after, line, segment_of, sent_of, sent, trim, commit, after_trim, trim_end}
use Rattle.tcp_track.specs.declared.openings.Opening.{Opening}
use Rattle.tcp_track.proofs.TupleLemmas.{same_tuple-eq}
use Rattle.tcp_track.proofs.SymbolLemmas.{after_all, opening_more, not_opening, rst_opens_not}
use Rattle.tcp_track.proofs.AckedLemmas.{with_opening, opens_nothing, opens_this, refusal_has_rst}

-- the opening of a line is current in what was said, and its reset and refusal stand there
record Says (t : Tuple) (said : List TcpFields) (l : Line) : Type 0 where
  opening : opening_of t said ≡ l.opening
  reset : (o : Opening) → l.opening ≡ Some o → l.reset ≡ true → ResetStands said t o.client
  refused : (client : ℕ) → l.refused ≡ Some client → RefusalStands said t client

reset_stays : (said : List TcpFields) (s : TcpFields) (t : Tuple) (client : ℕ) → ResetStands said t client →
    ResetStands (said ++ s ∷ []) t client
reset_stays said s t client h = record {
  before = h.before;
  carrier = h.carrier;
  later = h.later ++ s ∷ [];
  own = h.own;
  place = ap (λ (xs : List TcpFields). xs ++ s ∷ []) h.place ∙ append_assoc h.before (h.carrier ∷ h.later) (s ∷ []);
  on = h.on;
  opened = h.opened;
  resets = h.resets;
  no_refusal = h.no_refusal;
}

refusal_stays : (said : List TcpFields) (s : TcpFields) (t : Tuple) (client : ℕ) → RefusalStands said t client →
    RefusalStands (said ++ s ∷ []) t client
refusal_stays said s t client h = record {
  before = h.before;
  carrier = h.carrier;
  later = h.later ++ s ∷ [];
  place = ap (λ (xs : List TcpFields). xs ++ s ∷ []) h.place ∙ append_assoc h.before (h.carrier ∷ h.later) (s ∷ []);
  on = h.on;
  refuses = h.refuses;
  names = h.names;
}

-- a line with the same opening, reset and refusal
says_same : (t : Tuple) (said : List TcpFields) (s : TcpFields) (l m : Line) → Says t said l →
    opening_after t l.opening s ≡ l.opening → m.opening ≡ l.opening → m.reset ≡ l.reset → m.refused ≡ l.refused →
    Says t (said ++ s ∷ []) m
says_same t said s l m h after e f g = record {
  opening = opening_more t said s ∙ (ap (λ (o : Option Opening). opening_after t o s) h.opening ∙ (after ∙ sym e));
  reset = λ o p q. reset_stays said s t o.client (h.reset o (sym e ∙ p) (sym f ∙ q));
  refused = λ client p. refusal_stays said s t client (h.refused client (sym g ∙ p));
}

refused_says : (t : Tuple) (said : List TcpFields) (s : TcpFields) (l : Line) → tuple_of s ≡ t → is_refusal s ≡ true →
    Says t said l → Says t (said ++ s ∷ []) (refused_line l s)
refused_says t said s l on e h =
    let same = says_same t said s l l h (not_opening t l.opening s (rst_opens_not s
    (refusal_has_rst s e))) refl refl refl in
    record {
      opening = same.opening;
      reset = same.reset;
      refused = λ client p. subst (λ (n : ℕ). RefusalStands (said ++ s ∷ []) t n) (let q : refused_in s
          ≡ client = cc in q)
          (record { before = said; carrier = s; later = []; place = refl; on = on; refuses = e; names = refl });
    }

reset_says : (t : Tuple) (said : List TcpFields) (s : TcpFields) (l : Line) → tuple_of s ≡ t → has_rst s.flags ≡ true →
    is_refusal s ≡ false → Says t said l → Says t (said ++ s ∷ []) (record l { reset = is_some l.opening })
reset_says t said s l on r e h =
    let same = says_same t said s l l h (not_opening t l.opening s (rst_opens_not s r)) refl refl refl in
    record {
      opening = same.opening;
      reset = λ o p q. record {
        before = said;
        carrier = s;
        later = [];
        own = o.own;
        place = refl;
        on = on;
        opened = h.opening ∙ p;
        resets = r;
        no_refusal = e;
      };
      refused = same.refused;
    }

opened_says : (t : Tuple) (said : List TcpFields) (s : TcpFields) (l : Line) → same_tuple (tuple_of s) t ≡ true →
    opens_anew l.opening s ≡ true → Says t said l → Says t (said ++ s ∷ []) (opened_line l s)
opened_says t said s l same g h = record {
  opening = opening_more t said s ∙ (ap (λ (o : Option Opening). opening_after t o s) h.opening
      ∙ opens_this t l.opening s same g);
  reset = λ o p q. absurd (true≢false (sym q));
  refused = λ client p. refusal_stays said s t client (h.refused client p);
}

with_says : (t : Tuple) (said : List TcpFields) (s : TcpFields) (l : Line) → opens_anew l.opening s ≡ false →
    Says t said l → Says t (said ++ s ∷ []) (line_with l l.opening s)
with_says t said s l g h = says_same t said s l (line_with l l.opening s) h (opens_nothing t l.opening s g)
    (with_opening l l.opening s) (with_reset l.opening) (with_refused l.opening)
  where
    with_reset : (o : Option Opening) → (line_with l o s).reset ≡ l.reset
    with_reset None = refl
    with_reset (Some o) = refl

    with_refused : (o : Option Opening) → (line_with l o s).refused ≡ l.refused
    with_refused None = refl
    with_refused (Some o) = refl

segment_says : (t : Tuple) (said : List TcpFields) (l : Line) (s : TcpFields) → same_tuple (tuple_of s) t ≡ true →
    Says t said l → Says t (said ++ s ∷ []) (after_segment l s)
unfolding after_segment
segment_says t said l s same h = by_refusal (is_refusal s) refl
  where
    on : tuple_of s ≡ t
    on = same_tuple-eq (tuple_of s) t same

    rest : Line
    rest = if opens_anew l.opening s then opened_line l s else line_with l l.opening s

    by_opens : (b : Bool) → opens_anew l.opening s ≡ b → Says t (said
        ++ s ∷ []) (if b then opened_line l s else line_with l l.opening s)
    by_opens true g = opened_says t said s l same g h
    by_opens false g = with_says t said s l g h

    by_rst : (b : Bool) → has_rst s.flags ≡ b → is_refusal s ≡ false →
        Says t (said ++ s ∷ []) (if b then record l { reset = is_some l.opening } else rest)
    by_rst true r e = reset_says t said s l on r e h
    by_rst false r e = by_opens (opens_anew l.opening s) refl

    by_refusal : (b : Bool) → is_refusal s ≡ b → Says t (said
        ++ s ∷ []) (if b then refused_line l s else
        (if has_rst s.flags then record l { reset = is_some l.opening } else rest))
    by_refusal true e = refused_says t said s l on e h
    by_refusal false e = by_rst (has_rst s.flags) refl e

item_says : (t : Tuple) (said : List TcpFields) (l : Line) (i : Item) → Says t said l →
    Says t (said ++ filter_map segment_of (i ∷ [])) (line_after t l i)
unfolding line_after after_trim
item_says t said l (sent s) h = by (same_tuple (tuple_of s) t) refl
  where
    by : (b : Bool) → same_tuple (tuple_of s) t ≡ b → Says t (said ++ s ∷ []) (if b then after_segment l s else l)
    by true p = segment_says t said l s p h
    by false p = says_same t said s l l h (cond-false (same_tuple (tuple_of s) t && may_open s) (Some
        (opening_in s)) l.opening (and_left (same_tuple (tuple_of s) t) (may_open s) p)) refl refl refl
item_says t said l (trim u client to) h = subst (λ (xs : List TcpFields). Says t xs (line_after t l
    (trim u client to))) (sym (append-nil said)) (by (same_tuple u t) (is_of_client l.opening client))
  where
    by : (b d : Bool) → Says t said (if b then (if d then record l {
      base = max l.base (min to
          (trim_end l.symbols));
    } else l) else l)
    by true true = record { opening = h.opening; reset = h.reset; refused = h.refused }
    by true false = h
    by false d = h
item_says t said l commit h = subst (λ (xs : List TcpFields). Says t xs l) (sym (append-nil said)) h

none_says : (t : Tuple) → Says t [] no_line
unfolding opening_of
none_says t = record {
  opening = refl;
  reset = λ o p q. absurd (true≢false (sym q));
  refused = λ client p. absurd (true≢false (sym (ap (λ (o : Option ℕ). is_some o) p)));
}

pub reset_stands : (items : List Item) (t : Tuple) (o : Opening) → (line t items).opening ≡ Some o →
    (line t items).reset ≡ true → ResetStands (sent_of items) t o.client
unfolding line
reset_stands items t o e r = (after_all t (Says t) (item_says t) [] no_line items (none_says t)).reset o e r

pub refusal_stands : (items : List Item) (t : Tuple) (client : ℕ) → (line t items).refused ≡ Some client →
    RefusalStands (sent_of items) t client
unfolding line
refusal_stands items t client e = (after_all t (Says t) (item_says t) [] no_line items (none_says t)).refused client e
