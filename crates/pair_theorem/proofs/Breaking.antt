-- The nine parts by name, and what it is that a log breaks one of them and no other. Of Prompt these are the two
-- sentences on symbols and acknowledgements: each other frame breaks the first, that exactly the settled frames go out.
use Rattle.std.proofs.Common.{◌≡◌, ◌⊎◌, inl, inr, ℕ, ◌≤◌, ◌==◌, ◌||◌, nat_le, eqb-true, Bool, true, false, List, [], ◌∷◌, ◌++◌, Option, Some, slice_get, unwrap_or, refl, sym, ap, subst, ◌∙◌, true≢false, le-leb}
use Rattle.std.proofs.lemmas.Bool.{both_ways, or_cases}
use Rattle.std.specs.Prelude.{All, IsTrue}
use Rattle.std.specs.List.{list_all}
use Rattle.inet_frame.specs.Fields.{TcpFields}
use Rattle.inet_frame.specs.Flags.{has_rst}
use Rattle.inet_build.specs.Segment.{fields_of}
use Rattle.tcp_track.specs.Offsets.{distance}
use Rattle.tcp_track.specs.Segments.{Symbol, symbol_in}
use Rattle.tcp_track.specs.Stands.{Stands, stands, acked_in}
use Rattle.pair_theorem.specs.FrameParts.{AcksPart, IsAcked, IsStandingRefusal, NumbersPart, PlaceAcks, PlaceStands, ShapePart, ShowsAgreed, StandsPart, SymbolsStand, Syn, event_acks, is_judged, is_released, same_number_shown, syns}
use Rattle.pair_theorem.specs.History.{entries, lines_of, pair_log}
use Rattle.replay_log.specs.declared.lines.Line.{Line}
use Rattle.pair_theorem.specs.LogParts.{FilesPart, LogPart, MarksPart, NamesPart, Nodes, OutFiles, accepted_indices, files_of, inbox_indices, is_accounted_for, nodes_at}
use Rattle.pair_theorem.specs.Past.{Agreed, Start, Step}
use Rattle.pair_theorem.specs.Places.{Event, Place, delivered_due, delivered_in, events, places, released_due, released_in}
use Rattle.pair_theorem.specs.TheRun.{run_segments}
use Rattle.pair_theorem.specs.Theorem.{IsOneRun}
use Rattle.pair_theorem.proofs.AllLemmas.{All_at, All_from, list_all_from}
use Rattle.pair_theorem.proofs.EachLog.{frames_are, lines_of-pair_log, messages_are}
use Rattle.pair_theorem.proofs.PartTests.{all_shown, event_releases, missing_test, symbols_test, last_acks_test, log_test, names_test, shape_test, stands_test, numbers_test, acks_test, files_test, prompt_test, marks_test, log_from, names_from, shape_from, stands_from, numbers_from, acks_from, files_from, prompt_from, marks_from}
use Rattle.pair_theorem.proofs.StandsTests.{stands_true}

pub data PartName : Type 0 where
  log_part : PartName
  names_part : PartName
  shape_part : PartName
  stands_part : PartName
  numbers_part : PartName
  acks_part : PartName
  files_part : PartName
  prompt_part : PartName
  marks_part : PartName

-- what a log tells: its start, the schedule, its steps, both guests and the files
pub record Told : Type 0 where
  pub start : Start
  pub lines : List Line
  pub steps : List Step
  pub nodes : Nodes
  pub out : OutFiles

abbrev pub Part : PartName → Told → Type 0
Part log_part x = LogPart x.lines x.steps
Part names_part x = NamesPart x.start x.steps
Part shape_part x = ShapePart x.start x.steps
Part stands_part x = StandsPart x.start x.steps
Part numbers_part x = NumbersPart x.start x.steps
Part acks_part x = AcksPart x.start x.steps
Part files_part x = FilesPart x.start x.steps x.nodes x.out
Part prompt_part x = ShowsAgreed x.start x.steps
Part marks_part x = MarksPart x.start x.steps

abbrev pub place_of : PartName → ℕ
place_of log_part = 0
place_of names_part = 1
place_of shape_part = 2
place_of stands_part = 3
place_of numbers_part = 4
place_of acks_part = 5
place_of files_part = 6
place_of prompt_part = 7
place_of marks_part = 8

-- the log breaks this part, and has each other one
pub record BreaksOnly (p : PartName) (x : Told) : Type 0 where
  pub broken : Part p x → ⊥
  pub others : (q : PartName) → (place_of q ≡ place_of p → ⊥) → Part q x

-- STANDS is broken by one symbol that does not stand
some_same : (x y : ℕ) → Some x ≡ Some y → x ≡ y
some_same x y e = ap (λ (z : Option ℕ). unwrap_or z 0) e

refusal_is_reset : (sent : List TcpFields) (p : Place) → has_rst p.segment.flags ≡ false
    → IsStandingRefusal sent p.segment → ⊥
refusal_is_reset sent p e h = true≢false (sym h.is_reset ∙ e)

symbols_break : (sent : List TcpFields) (p : Place) (client number o : ℕ) (x : Symbol) → p.client ≡ Some client
    → p.number ≡ Some number → symbol_in number (fields_of p.segment p.payload) o ≡ Some x
    → stands sent p.segment.tuple client o x ≡ false → SymbolsStand sent p → ⊥
symbols_break sent p client number o x c n carries test h =
    let same_client = some_same client h.client (sym c ∙ h.client_is) in
    let same_number = some_same number h.number (sym n ∙ h.number_is) in
    let there : Stands sent p.segment.tuple h.client o x =
    h.symbols o x (subst (λ (m : ℕ). symbol_in m (fields_of p.segment p.payload) o ≡ Some x) same_number carries) in
    let here : Stands sent p.segment.tuple client o x =
    subst (λ (m : ℕ). Stands sent p.segment.tuple m o x) (sym same_client) there in
    both_ways (stands sent p.segment.tuple client o x) test (stands_true sent p.segment.tuple client o x here)

pub stands_breaks : (a : Start) (steps : List Step) (k : ℕ) (p : Place) (client number o : ℕ) (x : Symbol)
    → slice_get (places a steps) k ≡ Some p → has_rst p.segment.flags ≡ false → p.client ≡ Some client
    → p.number ≡ Some number → symbol_in number (fields_of p.segment p.payload) o ≡ Some x
    → stands (run_segments a (entries steps)) p.segment.tuple client o x ≡ false → StandsPart a steps → ⊥
stands_breaks a steps k p client number o x at plain c n carries test h =
    by (All_at (PlaceStands (run_segments a (entries steps))) (places a steps) k p h at).stands
  where
    by : IsStandingRefusal (run_segments a (entries steps)) p.segment ⊎ SymbolsStand (run_segments a (entries steps)) p
        → ⊥
    by (inl r) = refusal_is_reset (run_segments a (entries steps)) p plain r
    by (inr s) = symbols_break (run_segments a (entries steps)) p client number o x c n carries test s

-- and by a payload that is judged by nothing
pub payload_breaks : (a : Start) (steps : List Step) (k : ℕ) (p : Place) → slice_get (places a steps) k ≡ Some p
    → is_judged p ≡ false → StandsPart a steps → ⊥
payload_breaks a steps k p at test h =
    both_ways (is_judged p) test
    (All_at (PlaceStands (run_segments a (entries steps))) (places a steps) k p h at).judged

-- ACKS is broken by one acknowledgement that is too great
ack_breaks : (sent : List TcpFields) (p : Place) (client : ℕ) → p.client ≡ Some client
    → nat_le (distance client p.segment.ack) (acked_in sent p.segment.tuple client) ≡ false → IsAcked sent p → ⊥
ack_breaks sent p client c test h =
    let same_client = some_same client h.client (sym c ∙ h.client_is) in
    let within = subst (λ (m : ℕ). distance m p.segment.ack ≤ acked_in sent p.segment.tuple m) (sym same_client)
    h.within in
    both_ways (nat_le (distance client p.segment.ack) (acked_in sent p.segment.tuple client)) test
    (le-leb (distance client p.segment.ack) (acked_in sent p.segment.tuple client) within)

pub acks_break : (a : Start) (steps : List Step) (k : ℕ) (p : Place) (client : ℕ)
    → slice_get (places a steps) k ≡ Some p → has_rst p.segment.flags ≡ false → p.client ≡ Some client
    → nat_le (distance client p.segment.ack) (acked_in (run_segments a (entries steps)) p.segment.tuple client) ≡ false
    → AcksPart a steps → ⊥
acks_break a steps k p client at plain c test h =
    by (All_at (PlaceAcks (run_segments a (entries steps))) (places a steps) k p h at)
  where
    by : PlaceAcks (run_segments a (entries steps)) p → ⊥
    by (inl r) = refusal_is_reset (run_segments a (entries steps)) p plain r
    by (inr s) = ack_breaks (run_segments a (entries steps)) p client c test s

-- a log that fails a test of frames does not have the part
pub names_break : (a : Start) (steps : List Step) → missing_test a steps ≡ false → NamesPart a steps → ⊥
unfolding missing_test
names_break a steps e h =
    both_ways (missing_test a steps) e
    (list_all_from (λ i. IsTrue (is_accounted_for a steps i)) (is_accounted_for a steps)
    (inbox_indices a.inbox ++ accepted_indices steps) (λ i g. g) h.missing)

pub numbers_break : (a : Start) (steps : List Step) → numbers_test a steps ≡ false → NumbersPart a steps → ⊥
unfolding numbers_test
numbers_break a steps e h =
    let sent = run_segments a (entries steps) in
    both_ways (all_shown sent (syns a steps)) e
    (list_all_from (λ (x : Syn). All (λ (y : Syn). IsTrue (same_number_shown sent x y)) (syns a steps))
    (λ (x : Syn). list_all (same_number_shown sent x) (syns a steps)) (syns a steps)
    (λ x g. list_all_from (λ (y : Syn). IsTrue (same_number_shown sent x y)) (same_number_shown sent x) (syns a steps)
    (λ y f. f) g) h)

pub prompt_breaks : (a : Start) (steps : List Step) → symbols_test a steps ≡ false → ShowsAgreed a steps → ⊥
unfolding symbols_test event_releases
prompt_breaks a steps e h =
    both_ways (symbols_test a steps) e
    (list_all_from (λ (x : Event). All (λ (g : Agreed). IsTrue (is_released x.step.released g)) x.outcome.agreed)
    event_releases (events a steps)
    (λ x g. list_all_from (λ (z : Agreed). IsTrue (is_released x.step.released z)) (is_released x.step.released)
    x.outcome.agreed (λ z f. f) g) h.symbols)

pub last_ack_breaks : (a : Start) (steps : List Step) → last_acks_test a steps ≡ false → ShowsAgreed a steps → ⊥
unfolding last_acks_test
last_ack_breaks a steps e h =
    both_ways (last_acks_test a steps) e
    (list_all_from (λ (x : Event). IsTrue (event_acks a x)) (event_acks a) (events a steps) (λ x g. g) h.acks)

-- A LOG as the nodes and the files of its history tell it
unfoldable pub told_log : Start → List Line → List Step → Told
told_log a lines steps = record {
  start = a;
  lines = lines;
  steps = steps;
  nodes = nodes_at a steps;
  out = files_of steps (nodes_at a steps);
}

-- the test of a part
unfoldable pub test_of : PartName → Start → List Step → Bool
unfolding log_test names_test shape_test stands_test numbers_test acks_test files_test prompt_test marks_test
test_of log_part a steps = log_test steps
test_of names_part a steps = names_test a steps
test_of shape_part a steps = shape_test a steps
test_of stands_part a steps = stands_test a steps
test_of numbers_part a steps = numbers_test a steps
test_of acks_part a steps = acks_test a steps
test_of files_part a steps = files_test a steps
test_of prompt_part a steps = prompt_test a steps
test_of marks_part a steps = marks_test a steps

pub part_from : (q : PartName) (a : Start) (lines : List Line) (steps : List Step) → lines_of steps ≡ lines
    → delivered_in steps ≡ delivered_due (events a steps) → test_of q a steps ≡ true → Part q (told_log a lines steps)
unfolding test_of told_log
part_from log_part a lines steps s d e = log_from lines steps s e
part_from names_part a lines steps s d e = names_from a steps e
part_from shape_part a lines steps s d e = shape_from a steps e
part_from stands_part a lines steps s d e = stands_from a steps e
part_from numbers_part a lines steps s d e = numbers_from a steps e
part_from acks_part a lines steps s d e = acks_from a steps e
part_from files_part a lines steps s d e = files_from a steps d e
part_from prompt_part a lines steps s d e = prompt_from a steps e
part_from marks_part a lines steps s d e = marks_from a steps e

abbrev pub all_parts : List PartName
all_parts =
    log_part ∷ names_part ∷ shape_part ∷ stands_part ∷ numbers_part ∷ acks_part ∷ files_part ∷ prompt_part ∷ marks_part
    ∷ []

-- all tests but that of one part
unfoldable pub passes_others : PartName → Start → List Step → Bool
unfolding test_of
passes_others p a steps = list_all (λ (q : PartName). place_of q == place_of p || test_of q a steps) all_parts

unfoldable pub passes_all : Start → List Step → Bool
unfolding test_of
passes_all a steps = list_all (λ (q : PartName). test_of q a steps) all_parts

part_at : (q : PartName) → slice_get all_parts (place_of q) ≡ Some q
part_at log_part = refl
part_at names_part = refl
part_at shape_part = refl
part_at stands_part = refl
part_at numbers_part = refl
part_at acks_part = refl
part_at files_part = refl
part_at prompt_part = refl
part_at marks_part = refl

test_at : (f : PartName → Bool) → list_all f all_parts ≡ true → (q : PartName) → f q ≡ true
test_at f e q =
    All_at (λ (p : PartName). f p ≡ true) all_parts (place_of q) q
    (All_from (λ (p : PartName). f p ≡ true) f all_parts (λ p h. h) e) (part_at q)

other_test : (p q : PartName) (b : Bool) → (place_of q ≡ place_of p → ⊥) → (place_of q == place_of p || b) ≡ true
    → b ≡ true
other_test p q b n e = by (or_cases (place_of q == place_of p) b e)
  where
    by : ((place_of q == place_of p) ≡ true) ⊎ (b ≡ true) → b ≡ true
    by (inl same) = absurd (n (eqb-true (place_of q) (place_of p) same))
    by (inr h) = h

-- a log that passes the tests of the other parts has these parts
pub others_from : (p : PartName) (a : Start) (lines : List Line) (steps : List Step) → lines_of steps ≡ lines
    → delivered_in steps ≡ delivered_due (events a steps) → passes_others p a steps ≡ true
    → (q : PartName) → (place_of q ≡ place_of p → ⊥) → Part q (told_log a lines steps)
unfolding passes_others
others_from p a lines steps s d e q n =
    part_from q a lines steps s d (other_test p q (test_of q a steps) n
    (test_at (λ (r : PartName). place_of r == place_of p || test_of r a steps) e q))

-- the nine parts, of a log with the nodes and the files of its history
abbrev pub OneRun : Start → List Line → List Step → Type 0
OneRun a lines steps = IsOneRun a lines steps (nodes_at a steps) (files_of steps (nodes_at a steps))

-- the log of a schedule that passes all tests names one run
pub one_run_from : (a : Start) (lines : List Line) (steps : List Step) → steps ≡ pair_log a lines
    → passes_all a steps ≡ true → OneRun a lines steps
unfolding passes_all test_of
one_run_from a lines steps own e =
    let test = test_at (λ (q : PartName). test_of q a steps) e in
    let through : lines_of steps ≡ lines = ap (λ (xs : List Step). lines_of xs) own ∙ lines_of-pair_log a lines in
    record {
      log = log_from lines steps through (test log_part);
      names = names_from a steps (test names_part);
      shape = shape_from a steps (test shape_part);
      stands = stands_from a steps (test stands_part);
      numbers = numbers_from a steps (test numbers_part);
      acks = acks_from a steps (test acks_part);
      files = files_from a steps (subst (λ (xs : List Step). delivered_in xs ≡ delivered_due (events a xs)) (sym own)
          (messages_are a lines)) (test files_part);
      prompt = record {
        settled = subst (λ (xs : List Step). released_in xs ≡ released_due (events a xs)) (sym own)
            (frames_are a lines);
        shows = prompt_from a steps (test prompt_part);
      };
      marks = marks_from a steps (test marks_part);
    }
