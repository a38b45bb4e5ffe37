-- The keys of a tracker's entries are the tuples in the order of first opening or refusal.
use Rattle.std.proofs.Common.{◌≡◌, ℕ, Bool, true, false, not, ◌&&◌, ◌||◌, if◌then◌else◌, List, [], ◌∷◌, ◌++◌, map, fold, Option, None, Some, refl, sym, ap, ◌∙◌}
use Rattle.std.specs.Prelude.{is_some}
use Rattle.std.specs.List.{list_any, cons_option}
use Rattle.std.specs.Map.{keys_of}
use Rattle.std.specs.Option.{option_map}
use Rattle.inet_frame.specs.Counted.{counted, tuple_of}
use Rattle.inet_frame.specs.Fields.{TcpFields}
use Rattle.inet_frame.specs.declared.tuple.Tuple.{Tuple}
use Rattle.tcp_track.specs.Segments.{same_tuple, may_open, is_refusal}
use Rattle.tcp_track.specs.Lines.{sent, sent_of, order_after, order}
use Rattle.tcp_track.specs.LineFields.{fields_after, fields_trimmed}
use Rattle.tcp_track.specs.Tracking.{Tracking, nothing_tracked, entry_of, entry_or_none, put_entry, entries_after, trim_entry, tracking_after, tracking_with, trim_tracking, commit_entry, commit_tracking}
use Rattle.tcp_track.specs.Laws.{Call, takes, trims, commits, call_after, items_of}
use Rattle.tcp_track.specs.declared.table.Entry.{Entry}
use Rattle.tcp_track.proofs.TupleLemmas.{is_some-lookup, keys_of-put_entry}

keys-segment : (entries : List (Tuple × Entry)) (s : TcpFields) →
    keys_of (entries_after entries (tuple_of s) s) ≡ order_after (keys_of entries) s
unfolding order_after
keys-segment entries s = by (is_some (entry_of entries u)) (may_open s || is_refusal s) (is_some-lookup u entries)
  where
    u : Tuple
    u = tuple_of s

    ks : List Tuple
    ks = keys_of entries

    e : Entry
    e = record (entry_or_none entries u) { line = fields_after (entry_or_none entries u).line s }

    by : (a m : Bool) → a ≡ list_any (same_tuple u) ks → keys_of
        (if a || m then put_entry entries u e else entries) ≡ (if m && not (list_any (same_tuple u) ks) then ks
        ++ u ∷ [] else ks)
    by true true p = keys_of-put_entry u e entries ∙ ap (λ (b : Bool). if b then ks else ks ++ u ∷ []) (sym p)
        ∙ (λ i. if not (p i) then ks ++ u ∷ [] else ks)
    by true false p = keys_of-put_entry u e entries ∙ ap (λ (b : Bool). if b then ks else ks ++ u ∷ []) (sym p)
    by false true p = keys_of-put_entry u e entries ∙ ap (λ (b : Bool). if b then ks else ks ++ u ∷ []) (sym p)
        ∙ (λ i. if not (p i) then ks ++ u ∷ [] else ks)
    by false false p = refl

keys-trim : (entries : List (Tuple × Entry)) (u : Tuple) (client to : ℕ) →
    keys_of (trim_entry (entry_of entries u) entries u client to) ≡ keys_of entries
keys-trim entries u client to = by (entry_of entries u) refl
  where
    by : (o : Option Entry) → entry_of entries u ≡ o → keys_of (trim_entry o entries u client to) ≡ keys_of entries
    by None p = refl
    by (Some e) p = keys_of-put_entry u (record e { line = fields_trimmed e.line client to }) entries
        ∙ ap (λ (b : Bool). if b then keys_of entries else keys_of entries
        ++ u ∷ []) (sym (is_some-lookup u entries) ∙ ap is_some p)

keys-commit : (entries : List (Tuple × Entry)) → keys_of (map commit_entry entries) ≡ keys_of entries
keys-commit [] = refl
keys-commit (x ∷ xs) = ap (λ ks. x.0 ∷ ks) (keys-commit xs)

keys-calls : (calls : List Call) (tracking : Tracking) → keys_of (fold call_after tracking calls).entries
    ≡ fold order_after (keys_of tracking.entries) (sent_of (items_of calls))
unfolding tracking_after trim_tracking
keys-calls [] tracking = refl
keys-calls (takes frame ∷ calls) tracking = by (counted frame) (keys-calls calls)
  where
    by : (o : Option TcpFields) → ((now : Tracking) → keys_of (fold call_after now calls).entries
        ≡ fold order_after (keys_of now.entries) (sent_of (items_of calls))) →
        keys_of (fold call_after (tracking_with tracking o) calls).entries
        ≡ fold order_after (keys_of tracking.entries) (sent_of (cons_option (option_map sent o) (items_of calls)))
    by None more = more tracking
    by (Some s) more = more (tracking_after tracking s) ∙ ap (λ ks. fold order_after ks (sent_of (items_of calls)))
        (keys-segment tracking.entries s)
keys-calls (trims u client to ∷ calls) tracking = keys-calls calls (trim_tracking tracking u client to)
    ∙ ap (λ ks. fold order_after ks (sent_of (items_of calls))) (keys-trim tracking.entries u client to)
keys-calls (commits ∷ calls) tracking = keys-calls calls (commit_tracking tracking)
    ∙ ap (λ ks. fold order_after ks (sent_of (items_of calls))) (keys-commit tracking.entries)

pub keeps_the_order : (calls : List Call) → keys_of (fold call_after nothing_tracked calls).entries
    ≡ order (items_of calls)
unfolding order
keeps_the_order calls = keys-calls calls nothing_tracked
