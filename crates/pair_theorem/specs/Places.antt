-- The events of some steps, each with what the definitions make of its line, and the places where
-- segments are released.
use Rattle.std.specs.Prelude.{ℕ, ◌&&◌, if◌then◌else◌, List, [], ◌∷◌, ◌++◌, fold, map, Option, Some}
use Rattle.std.specs.List.{flat_map}
use Rattle.std.specs.Option.{option_map}
use Rattle.inet_frame.specs.Flags.{has_syn}
use Rattle.inet_frame.specs.declared.tuple.Tuple.{Tuple}
use Rattle.inet_build.specs.declared.fields.Segment.{Segment}
use Rattle.tcp_track.specs.Lines.{line}
use Rattle.tcp_track.specs.Segments.{same_tuple}
use Rattle.tcp_track.specs.declared.openings.Opening.{Opening}
use Rattle.settle_rules.specs.Progress.{ProgressTable, progress_of}
use Rattle.settle_rules.specs.Release.{Released, tcp, reply}
use Rattle.pair_theorem.specs.Events.{outcome_of}
use Rattle.colo_wire.specs.declared.messages.Message.{Message}
use Rattle.state_wire.specs.Guest.{Kind}
use Rattle.pair_theorem.specs.Past.{Outcome, Past, Start, Step, first_past, releasing_items}

-- The past before the event and all that was released by then; the step as it stands in the log;
-- and what the definitions make of its line.
pub record Event : Type 0 where
  pub past : Past
  pub released : List Released
  pub step : Step
  pub outcome : Outcome

unfoldable pub events_from : Kind → List (List ℕ) → Past → List Released → List Step → List Event
unfolding outcome_of
events_from kind stream past released [] = []
events_from kind stream past released (s ∷ steps) =
    let o = outcome_of kind stream past s.entry.line in
    record { past = past; released = released; step = s; outcome = o }
    ∷ events_from kind stream o.after (released ++ s.released) steps

unfoldable pub events : Start → List Step → List Event
unfolding events_from
events a steps = events_from a.kind a.stream (first_past a) [] steps

-- what each step releases and delivers, and what it is to by the definitions
abbrev pub released_in : List Step → List (List Released)
released_in steps = map (λ (s : Step). s.released) steps

abbrev pub released_due : List Event → List (List Released)
released_due es = map (λ (e : Event). e.outcome.step.released) es

abbrev pub delivered_in : List Step → List (Option Message)
delivered_in steps = map (λ (s : Step). s.delivered) steps

abbrev pub delivered_due : List Event → List (Option Message)
delivered_due es = map (λ (e : Event). e.outcome.step.delivered) es

-- the client of the releasing node's current opening of a tuple
unfoldable pub current_client : Past → Tuple → Option ℕ
unfolding line
current_client past t =
    option_map (λ (o : Opening). o.client) (line t (releasing_items past)).opening

-- the sequence number of the last SYN released on a tuple, before the start or since
abbrev pub number_at_start : ProgressTable → Tuple → Option ℕ
number_at_start progress t = option_map (λ (o : Opening). o.own) (progress_of t progress).shown

abbrev pub shown_after : Tuple → Option ℕ → Released → Option ℕ
shown_after t number (reply _) = number
shown_after t number (tcp s _) =
    if same_tuple s.tuple t && has_syn s.flags then Some s.seq else number

abbrev pub shown_number : Start → Tuple → List Released → Option ℕ
shown_number a t released = fold (shown_after t) (number_at_start a.progress t) released

-- A place where a segment is released. Its client is that of the releasing node's current opening
-- of the tuple at the end of the event; its number is that of the last SYN released on the tuple up
-- to and with this segment.
pub record Place : Type 0 where
  pub client : Option ℕ
  pub number : Option ℕ
  pub segment : Segment
  pub payload : List ℕ

unfoldable pub places_after : Start → Past → List Released → List Released → List Place
unfolding current_client
places_after a past released [] = []
places_after a past released (reply b ∷ out) = places_after a past (released ++ reply b ∷ []) out
places_after a past released (tcp s payload ∷ out) =
    record {
      client = current_client past s.tuple;
      number = shown_number a s.tuple (released ++ tcp s payload ∷ []);
      segment = s;
      payload = payload;
    } ∷ places_after a past (released ++ tcp s payload ∷ []) out

unfoldable pub event_places : Start → Event → List Place
unfolding places_after
event_places a e = places_after a e.outcome.after e.released e.step.released

unfoldable pub places : Start → List Step → List Place
unfolding events event_places
places a steps = flat_map (event_places a) (events a steps)
