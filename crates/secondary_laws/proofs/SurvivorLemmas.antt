-- What the report and the calls of a node alone change of its lines and numbers.
use Rattle.std.proofs.Common.{◌≡◌, ℕ, Bool, true, false, List, [], ◌∷◌, map, Option, None, Some, refl, sym, ap, ◌∙◌}
use Rattle.std.specs.Prelude.{if◌then◌else◌, fold, option_to_list}
use Rattle.std.specs.List.{flat_map}
use Rattle.std.specs.Map.{keys_of}
use Rattle.std.proofs.lemmas.List.{append-nil}
use Rattle.std.proofs.lemmas.List.Sums.{fold-append}
use Rattle.inet_frame.specs.Counted.{client_tuple_of, tcp_in}
use Rattle.inet_frame.specs.Fields.{TcpFields}
use Rattle.inet_frame.specs.declared.tuple.Tuple.{Tuple}
use Rattle.tcp_track.specs.LineFields.{LineFields}
use Rattle.tcp_track.specs.Laws.{call_after, takes}
use Rattle.tcp_track.specs.Laws as track
use Rattle.tcp_track.specs.Tracking.{Tracking, line_at, taken, took_of}
use Rattle.tcp_track.specs.declared.openings.Opening.{Opening}
use Rattle.seq_rewriter.specs.Kept.{KeptNumbers, numbers_after}
use Rattle.frame_mirror.specs.Inboxes.{has_room}
use Rattle.frame_mirror.specs.declared.ingress.Entry.{Entry}
use Rattle.frame_mirror.specs.declared.ingress.Entry.TheVariants.{Frame, Answer, Drop}
use Rattle.frame_mirror.specs.declared.ring.Waiting.{Waiting}
use Rattle.colo_wire.specs.declared.answers.Gate.TheVariants as gate
use Rattle.settle_table.specs.Table.{progress_at}
use Rattle.out_compare.specs.Comparing.{Comparing, take_own}
use Rattle.out_compare.specs.Look.{look, trimmed_look}
use Rattle.out_compare.specs.Noting.{number_with, opening_made}
use Rattle.out_compare.specs.Surviving.{Surviving, add_tuple, survive, survive_found, survive_tuple, survive_with}
use Rattle.node_release.specs.Gated.{Gated, gated, looked_by, refused, seen_by, taken_by, trim_by}
use Rattle.secondary_laws.specs.Since.{openings_in, openings_of, opens, opens_found, trims_of, trims_with}

-- ---- numbers

opens_fold : (numbers : KeptNumbers) (t : Tuple) (o : Option Opening) →
    number_with numbers t o ≡ fold numbers_after numbers (opens t o)
opens_fold numbers t None = refl
opens_fold numbers t (Some o) = refl

pub own_numbers : (x : Comparing) (frames : List (List ℕ)) →
    (fold take_own x frames).numbers ≡ fold numbers_after x.numbers (openings_in x.mine frames)
unfolding take_own
own_numbers x [] = refl
own_numbers x (frame ∷ frames) =
    let took = took_of x.mine frame in
    let here = opens took.tuple (opening_made took.what) in
    let rest = openings_in (taken x.mine frame) frames in
    own_numbers (take_own x frame) frames
    ∙ (ap (λ (n : KeptNumbers). fold numbers_after n rest) (opens_fold x.numbers took.tuple (opening_made took.what))
    ∙ sym (fold-append numbers_after x.numbers here rest))

survived_one : (lines : Tracking) (x : Surviving) (t : Tuple) →
    (add_tuple lines x t).numbers ≡ fold numbers_after x.numbers (opens_found t (line_at lines t))
unfolding survive_tuple
survived_one lines x t = by (line_at lines t)
  where
    by_opening : (l : LineFields) (o : Option Opening) →
        (survive_with x t l o).numbers ≡ fold numbers_after x.numbers (opens t o)
    by_opening l None = refl
    by_opening l (Some o) = refl

    by : (l : Option LineFields) →
        (survive_found x t l).numbers ≡ fold numbers_after x.numbers (opens_found t l)
    by None = refl
    by (Some l) = by_opening l l.opening

survived_all : (lines : Tracking) (x : Surviving) (tuples : List Tuple) →
    (fold (add_tuple lines) x tuples).numbers
    ≡ fold numbers_after x.numbers (flat_map (λ t. opens_found t (line_at lines t)) tuples)
survived_all lines x [] = refl
survived_all lines x (t ∷ tuples) =
    let rest = flat_map (λ (t : Tuple). opens_found t (line_at lines t)) tuples in
    survived_all lines (add_tuple lines x t) tuples
    ∙ (ap (λ (n : KeptNumbers). fold numbers_after n rest) (survived_one lines x t)
    ∙ sym (fold-append numbers_after x.numbers (opens_found t (line_at lines t)) rest))

pub survived_numbers : (lines : Tracking) (numbers : KeptNumbers) →
    (survive lines numbers).numbers ≡ fold numbers_after numbers (openings_of lines)
unfolding survive
survived_numbers lines numbers =
    survived_all lines (record { numbers = numbers; progress = []; out = [] }) (keys_of lines.entries)

-- ---- lines

pub own_lines : (x : Comparing) (frames : List (List ℕ)) →
    (fold take_own x frames).mine ≡ fold call_after x.mine (map takes frames)
unfolding take_own
own_lines x [] = refl
own_lines x (frame ∷ frames) = own_lines (take_own x frame) frames

looked_lines : (x : Comparing) (s : TcpFields) →
    (look x s).mine ≡ fold call_after x.mine (trims_with (look x s).seen (look x s).trim (Some s))
unfolding look
looked_lines x s =
    let p = progress_at x.progress (client_tuple_of s) in by p.edge p.shown
  where
    by : (edge : ℕ) (shown : Option Opening) →
        (trimmed_look x.mine x.theirs s edge shown).mine ≡ fold call_after x.mine
        (trims_with (trimmed_look x.mine x.theirs s edge shown).seen (trimmed_look x.mine x.theirs s edge shown).trim
        (Some s))
    by edge None = refl
    by edge (Some o) = refl

looked_by_lines : (x : Comparing) (t : Option TcpFields) →
    (looked_by x t).mine ≡ fold call_after x.mine (trims_with (seen_by x t) (trim_by x t) t)
looked_by_lines x None = refl
looked_by_lines x (Some s) = looked_lines x s

-- letting a client's frame in trims what it trims, and changes no number
record LetsIn (x : Comparing) (g : Gated) : Type 0 where
  lines : g.comparing.mine ≡ fold call_after x.mine (flat_map trims_of (option_to_list g.waiting))
  numbers : g.comparing.numbers ≡ x.numbers

lets_in : (x : Comparing) (inbox : List Waiting) (index : ℕ) (entry : Entry) → LetsIn x (gated x inbox index entry)
unfolding gated
lets_in x inbox index (Drop why) = record { lines = refl; numbers = refl }
lets_in x inbox index (Answer reply) = record { lines = refl; numbers = refl }
lets_in x inbox index (Frame frame) = by (has_room inbox)
  where
    looked_numbers : (t : Option TcpFields) → (looked_by x t).numbers ≡ x.numbers
    looked_numbers None = refl
    looked_numbers (Some s) = refl

    by : (room : Bool) →
        LetsIn x (if room then taken_by x index frame (tcp_in frame) else refused gate.Full x [])
    by true = record {
      lines = looked_by_lines x (tcp_in frame)
          ∙ ap (λ (cs : List track.Call). fold call_after x.mine cs)
          (sym (append-nil (trims_with (seen_by x (tcp_in frame)) (trim_by x (tcp_in frame)) (tcp_in frame))));
      numbers = looked_numbers (tcp_in frame);
    }
    by false = record { lines = refl; numbers = refl }

pub gated_lines : (x : Comparing) (inbox : List Waiting) (index : ℕ) (entry : Entry) →
    (gated x inbox index entry).comparing.mine
    ≡ fold call_after x.mine (flat_map trims_of (option_to_list (gated x inbox index entry).waiting))
gated_lines x inbox index entry = (lets_in x inbox index entry).lines

pub gated_numbers : (x : Comparing) (inbox : List Waiting) (index : ℕ) (entry : Entry) →
    (gated x inbox index entry).comparing.numbers ≡ x.numbers
gated_numbers x inbox index entry = (lets_in x inbox index entry).numbers
