-- The lines of both guests, call by call.
use Rattle.std.proofs.Common.{◌≡◌, ℕ, false, List, [], ◌∷◌, ◌++◌, fold, Option, None, Some, refl, sym, ap, subst, ◌∙◌, true≢false}
use Rattle.std.specs.List.{cons_option}
use Rattle.std.specs.Map.{keys_of}
use Rattle.std.specs.Option.{option_map}
use Rattle.std.proofs.lemmas.Grind.{fold-append}
use Rattle.std.proofs.lemmas.List.Elements.{filter_map-append}
use Rattle.inet_frame.specs.Counted.{counted, client_tuple_of}
use Rattle.inet_frame.specs.Fields.{TcpFields}
use Rattle.inet_frame.specs.declared.tuple.Tuple.{Tuple}
use Rattle.tcp_track.specs.Laws.{Call, commits, call_after, item_of, items_of, tracking_of, IsHeld}
use Rattle.tcp_track.specs.Lines.{Item, sent, commit, sent_of, line}
use Rattle.tcp_track.specs.Stands.{opening_of, segments}
use Rattle.tcp_track.specs.Tracking.{Tracking, nothing_tracked, line_at, current_at, commit_tracking}
use Rattle.tcp_track.specs.declared.openings.Opening.{Opening}
use Rattle.tcp_track.proofs.OrderLemmas.{keeps_the_order}
use Rattle.tcp_track.proofs.StandingLemmas.{keeps_each_line, opening_of_line}
use Rattle.tcp_track.proofs.SymbolLemmas.{line_fits}
use Rattle.out_compare.specs.Comparing.{Comparing, nothing_compared, take_own, take_heard, learn, settle, capture, acknowledge, leave_alone}
use Rattle.out_compare.specs.Look.{look, trimmed_look, look_after}
use Rattle.compare_laws.specs.Calls.{CompareCall, sends, hears, learns, settles, looks, captures, acknowledges, remains, compare_after, compare_calls, comparing_of, frames_sent, trim_in, own_call, own_calls, own_items, heard_call, heard_calls, heard_items, has_acknowledgement}
use Rattle.compare_laws.specs.Laws.{KeepsOwnLines, TakesEachFrame, KeepsOwnOrder, GoesOn, KnowsWhatWasHeard, HearsEachFrame, KnowsACopy}

-- THE OWN LINES

look_step : (mine theirs : Tracking) (s : TcpFields) (edge : ℕ) (shown : Option Opening) →
    (trimmed_look mine theirs s edge shown).mine ≡ fold call_after mine (trim_in (client_tuple_of s)
    (trimmed_look mine theirs s edge shown).seen (trimmed_look mine theirs s edge shown).trim)
look_step mine theirs s edge None = refl
look_step mine theirs s edge (Some shown) = refl

look_hears : (mine theirs : Tracking) (s : TcpFields) (edge : ℕ) (shown : Option Opening) →
    (trimmed_look mine theirs s edge shown).theirs ≡ fold call_after theirs (trim_in (client_tuple_of s)
    (trimmed_look mine theirs s edge shown).seen (trimmed_look mine theirs s edge shown).trim)
look_hears mine theirs s edge None = refl
look_hears mine theirs s edge (Some shown) = refl

own_step : (x : Comparing) (call : CompareCall) → (compare_after x call).mine ≡ fold call_after x.mine (own_call x call)
unfolding take_own take_heard learn settle look capture acknowledge
own_step x (sends frame) = refl
own_step x (hears frame) = refl
own_step x (learns t client number) = refl
own_step x (settles is_turn) = refl
own_step x (looks s) = look_step x.mine x.theirs s _ _
own_step x captures = refl
own_step x acknowledges = refl
own_step x remains = refl

pub goes_on : GoesOn
goes_on x [] = refl
goes_on x (call ∷ calls) =
    goes_on (compare_after x call) calls
    ∙ ap (λ (m : Tracking). fold call_after m (own_calls (compare_after x call) calls)) (own_step x call)
    ∙ sym (fold-append call_after x.mine (own_call x call) (own_calls (compare_after x call) calls))

pub keeps_own_lines : KeepsOwnLines
keeps_own_lines calls t = subst (λ (m : Tracking). IsHeld (line t (own_items calls)) (line_at m t))
    (sym (goes_on nothing_compared calls)) (keeps_each_line (own_calls nothing_compared calls) t)

pub keeps_own_order : KeepsOwnOrder
keeps_own_order calls = ap (λ (m : Tracking). keys_of m.entries) (goes_on nothing_compared calls)
    ∙ keeps_the_order (own_calls nothing_compared calls)

trim_sends : (t : Tuple) (seen : Option Opening) (to : ℕ) (calls : List Call) →
    sent_of (items_of (trim_in t seen to ++ calls)) ≡ sent_of (items_of calls)
trim_sends t None to calls = refl
trim_sends t (Some shown) to calls = refl

sent_next : (o : Option TcpFields) (items : List Item) (segs : List TcpFields) → sent_of items ≡ segs →
    sent_of (cons_option (option_map sent o) items) ≡ cons_option o segs
sent_next None items segs e = e
sent_next (Some s) items segs e = ap (λ (xs : List TcpFields). s ∷ xs) e

own_sends : (x : Comparing) (calls : List CompareCall) →
    sent_of (items_of (own_calls x calls)) ≡ segments (frames_sent calls)
own_sends x [] = refl
own_sends x (sends frame ∷ calls) = sent_next (counted frame) _ _ (own_sends (take_own x frame) calls)
own_sends x (hears frame ∷ calls) = own_sends (take_heard x frame) calls
own_sends x (learns t client number ∷ calls) = own_sends (learn x t client number) calls
own_sends x (settles is_turn ∷ calls) = own_sends (settle x is_turn) calls
own_sends x (looks s ∷ calls) =
    trim_sends (client_tuple_of s) (look x s).seen (look x s).trim (own_calls (look_after x s) calls)
    ∙ own_sends (look_after x s) calls
own_sends x (captures ∷ calls) = own_sends (capture x) calls
own_sends x (acknowledges ∷ calls) = own_sends (acknowledge x) calls
own_sends x (remains ∷ calls) = own_sends (leave_alone x) calls

pub takes_each_frame : TakesEachFrame
takes_each_frame calls = own_sends nothing_compared calls

-- THE KNOWN LINES

heard_look : (x : Comparing) (s : TcpFields) →
    (look_after x s).theirs ≡ fold call_after x.theirs (heard_call x (looks s))
unfolding look
heard_look x s = look_hears x.mine x.theirs s _ _

heard_fold : (x : Comparing) (calls : List CompareCall) → has_acknowledgement calls ≡ false →
    (compare_calls x calls).theirs ≡ fold call_after x.theirs (heard_calls x calls)
unfolding take_own take_heard learn settle capture acknowledge
heard_fold x [] h = refl
heard_fold x (sends frame ∷ calls) h = heard_fold (take_own x frame) calls h
heard_fold x (hears frame ∷ calls) h = heard_fold (take_heard x frame) calls h
heard_fold x (learns t client number ∷ calls) h = heard_fold (learn x t client number) calls h
heard_fold x (settles is_turn ∷ calls) h = heard_fold (settle x is_turn) calls h
heard_fold x (looks s ∷ calls) h =
    heard_fold (look_after x s) calls h
    ∙ ap (λ (m : Tracking). fold call_after m (heard_calls (look_after x s) calls)) (heard_look x s)
    ∙ sym (fold-append call_after x.theirs (heard_call x (looks s)) (heard_calls (look_after x s) calls))
heard_fold x (captures ∷ calls) h = heard_fold (capture x) calls h
heard_fold x (acknowledges ∷ calls) h = absurd (true≢false h)
heard_fold x (remains ∷ calls) h = heard_fold (leave_alone x) calls h

pub hears_each_frame : HearsEachFrame
hears_each_frame x [] = refl
hears_each_frame x (sends frame ∷ calls) = hears_each_frame (take_own x frame) calls
hears_each_frame x (hears frame ∷ calls) =
    sent_next (counted frame) _ _ (hears_each_frame (take_heard x frame) calls)
hears_each_frame x (learns t client number ∷ calls) = hears_each_frame (learn x t client number) calls
hears_each_frame x (settles is_turn ∷ calls) = hears_each_frame (settle x is_turn) calls
hears_each_frame x (looks s ∷ calls) =
    trim_sends (client_tuple_of s) (look x s).seen (look x s).trim (heard_calls (look_after x s) calls)
    ∙ hears_each_frame (look_after x s) calls
hears_each_frame x (captures ∷ calls) = hears_each_frame (capture x) calls
hears_each_frame x (acknowledges ∷ calls) = hears_each_frame (acknowledge x) calls
hears_each_frame x (remains ∷ calls) = hears_each_frame (leave_alone x) calls

pub knows_what_was_heard : KnowsWhatWasHeard
knows_what_was_heard calls t h =
    subst (λ (m : Tracking). IsHeld (line t (heard_items nothing_compared calls)) (line_at m t))
    (sym (heard_fold nothing_compared calls h)) (keeps_each_line (heard_calls nothing_compared calls) t)

-- what a tracker is told that ends as the known lines do
abbrev copy_calls : List CompareCall → List CompareCall → List Call
copy_calls before later =
    own_calls nothing_compared before ++ commits ∷ heard_calls (acknowledge (comparing_of before)) later

copied : (before later : List CompareCall) → has_acknowledgement later ≡ false →
    (comparing_of (before ++ acknowledges ∷ later)).theirs ≡ tracking_of (copy_calls before later)
unfolding acknowledge
copied before later h =
    let told = heard_calls (acknowledge (comparing_of before)) later in
    ap (λ (x : Comparing). x.theirs) (fold-append compare_after nothing_compared before (acknowledges ∷ later))
    ∙ heard_fold (acknowledge (comparing_of before)) later h
    ∙ ap (λ (m : Tracking). fold call_after (commit_tracking m) told) (goes_on nothing_compared before)
    ∙ sym (fold-append call_after nothing_tracked (own_calls nothing_compared before) (commits ∷ told))

copied_items : (before later : List CompareCall) →
    items_of (copy_calls before later)
    ≡ own_items before ++ commit ∷ heard_items (acknowledge (comparing_of before)) later
copied_items before later =
    filter_map-append item_of (own_calls nothing_compared before)
    (commits ∷ heard_calls (acknowledge (comparing_of before)) later)

pub knows_a_copy : KnowsACopy
knows_a_copy before later t h =
    let kept = keeps_each_line (copy_calls before later) t in
    subst (λ (m : Tracking). IsHeld (line t (own_items before
    ++ commit ∷ heard_items (acknowledge (comparing_of before)) later)) (line_at m t))
    (sym (copied before later h))
    (subst (λ (items : List Item). IsHeld (line t items) (line_at (tracking_of (copy_calls before later)) t))
    (copied_items before later) kept)

-- THE CURRENT OPENINGS

-- the opening of an own line is the current one in what was sent
pub current_of : (calls : List CompareCall) (t : Tuple) →
    current_at (comparing_of calls).mine t ≡ opening_of t (segments (frames_sent calls))
current_of calls t =
    ap (λ (m : Tracking). current_at m t) (goes_on nothing_compared calls)
    ∙ sym (opening_of_line (own_calls nothing_compared calls) t)
    ∙ sym (line_fits t (own_items calls)).opened
    ∙ ap (λ (said : List TcpFields). opening_of t said) (takes_each_frame calls)
