-- A comparer that stands for a history, call by call: what each call answers is what the rules say
-- of that history, and the comparer stands for the history after it.
use Rattle.std.specs.Prelude.{◌≡◌, ℕ, ◌≤◌, Bool, false, true, if◌then◌else◌, List, [], ◌∷◌, ◌++◌, drop, fold, map, Option, None, Some}
use Rattle.colo_base.specs.declared.fault.Cause.{Cause}
use Rattle.colo_base.specs.declared.fault.Cause.TheVariants as cause
use Rattle.inet_frame.specs.Counted.{client_tuple_of, counted, tuple_of}
use Rattle.inet_frame.specs.Fields.{TcpFields}
use Rattle.inet_frame.specs.declared.tuple.Tuple.{Tuple}
use Rattle.tcp_track.specs.Laws.{took_after}
use Rattle.tcp_track.specs.Lines.{Item, Line, commit, line, order, sent, trim}
use Rattle.tcp_track.specs.Restarts.{is_restart}
use Rattle.tcp_track.specs.Segments.{Symbol}
use Rattle.tcp_track.specs.Stands.{segments}
use Rattle.tcp_track.specs.Tracking.{Tracking, took_of}
use Rattle.tcp_track.specs.declared.answers.Took.{Took}
use Rattle.tcp_track.specs.declared.openings.Opening.{Opening}
use Rattle.seq_rewriter.specs.Kept.{KeptNumbers}
use Rattle.settle_rules.specs.Look.{trim_of}
use Rattle.settle_rules.specs.Causes.{cause_of, first_difference, first_restart, first_wait, matched_end_of}
use Rattle.settle_rules.specs.Matching.{BothLines}
use Rattle.settle_rules.specs.Numbers.{KeptNumber, learn_all, learn_number, new_number, thin}
use Rattle.settle_rules.specs.OwnFrames.{OwnFrames, own_after, own_frames}
use Rattle.settle_rules.specs.Progress.{Progress, ProgressTable, clear_ages, progress_of}
use Rattle.settle_rules.specs.Settle.{Scene, Settlement, settle, settle_or_rest}
use Rattle.settle_rules.specs.Survive.{Survival}
use Rattle.settle_rules.specs.Survive as rules
use Rattle.settle_table.specs.declared.causes.Need.{Need}
use Rattle.settle_table.specs.declared.causes.Need.TheVariants.{Nothing, Differ, Restart, Wait}
use Rattle.out_compare.specs.Comparing.{Comparing, nothing_compared, take_own, take_heard, learn, settlement_of, need_after, capture, acknowledge, leave_alone}
use Rattle.out_compare.specs.Comparing as comparer
use Rattle.out_compare.specs.Look.{look, look_after}
use Rattle.out_compare.specs.Noting.{opening_made}
use Rattle.out_compare.specs.Noting as noting
use Rattle.out_compare.specs.Surviving.{survive, survivor}
use Rattle.settle_history.specs.Standing.{Books, SameNumbers, StandsFor, StandsWithin, Tracks, no_own_of, number_said}

-- A new comparer stands for an empty history.
abbrev pub BeginsWithNothing : Type 0
BeginsWithNothing =
    StandsFor (record { mine = []; theirs = []; numbers = []; progress = []; is_alone = false })
    nothing_compared

-- A frame of the node's own guest: its segment, where it counts, is one more of the event's own.
abbrev pub TakesOwnFrame : Type 0
TakesOwnFrame =
    (own : OwnFrames) (theirs : List Item) (is_alone : Bool) (x : Comparing) (frame : List ℕ) →
    StandsWithin own theirs [] is_alone x →
    StandsWithin (fold own_after own (segments (frame ∷ []))) theirs [] is_alone (take_own x frame)

-- And so are all frames of an event, one after the other.
abbrev pub TakesOwnFrames : Type 0
TakesOwnFrames =
    (b : Books) (x : Comparing) (frames : List (List ℕ)) → StandsFor b x →
    StandsWithin (own_frames b.mine b.numbers b.progress (segments frames)) b.theirs [] b.is_alone
    (fold take_own x frames)

-- the kept number that the answer to a frame of the node's own guest says to be new
abbrev pub number_of_frame : Comparing → Took → List KeptNumber
number_of_frame x took =
    number_said took.tuple (opening_made took.what) (noting.new_number x.numbers took)

-- and those of all frames, one after the other
abbrev pub numbers_said : Comparing → List (List ℕ) → List KeptNumber
numbers_said x [] = []
numbers_said x (frame ∷ frames) =
    number_of_frame x (took_of x.mine frame) ++ numbers_said (take_own x frame) frames

-- What is answered of a frame that counts, with the number that is newly kept, is what the rules
-- say of its segment.
pub record AnswersAs (own : OwnFrames) (s : TcpFields) (x : Comparing) (took : Took) : Type 0 where
  pub what : took ≡ took_after own.items s
  pub number : number_of_frame x took ≡ new_number own.numbers s

abbrev pub AnswersOwnFrame : Type 0
AnswersOwnFrame =
    (own : OwnFrames) (theirs : List Item) (is_alone : Bool) (x : Comparing) (frame : List ℕ)
    (s : TcpFields) → counted frame ≡ Some s → StandsWithin own theirs [] is_alone x →
    AnswersAs own s x (took_of x.mine frame)

-- The numbers that the answers to an event's own frames say to be new are those of the rules.
abbrev pub SaysNewNumbers : Type 0
SaysNewNumbers =
    (b : Books) (x : Comparing) (frames : List (List ℕ)) → StandsFor b x →
    numbers_said x frames
    ≡ (own_frames b.mine b.numbers b.progress (segments frames)).new_numbers

-- the tuple of a segment that the other guest sent after these items, where it is a restart
abbrev pub restarts_heard : List Item → List TcpFields → List Tuple
restarts_heard items [] = []
restarts_heard items (s ∷ _) = if is_restart items s then tuple_of s ∷ [] else []

-- A frame that the other node's guest sent: its segment, where it counts, is one more of those.
abbrev pub TakesHeardFrame : Type 0
TakesHeardFrame =
    (b : Books) (x : Comparing) (frame : List ℕ) → b.is_alone ≡ false → StandsFor b x →
    StandsWithin (no_own_of b) (b.theirs ++ map sent (segments (frame ∷ [])))
    (restarts_heard b.theirs (segments (frame ∷ []))) b.is_alone (take_heard x frame)

-- What is answered of it is what it is after those.
abbrev pub AnswersHeardFrame : Type 0
AnswersHeardFrame =
    (b : Books) (x : Comparing) (frame : List ℕ) (s : TcpFields) → counted frame ≡ Some s →
    b.is_alone ≡ false → StandsFor b x → took_of x.theirs frame ≡ took_after b.theirs s

-- The other node is known to have a number.
abbrev pub LearnsNumber : Type 0
LearnsNumber =
    (b : Books) (x : Comparing) (t : Tuple) (client number : ℕ) → StandsFor b x →
    StandsFor (record b { numbers = learn_number b.numbers t client number })
    (learn x t client number)

-- what a client's segment trims, by what the client was shown
abbrev pub trims_shown : TcpFields → Option Opening → ℕ → List Item
trims_shown s None to = []
trims_shown s (Some shown) to = trim (client_tuple_of s) shown.client to ∷ []

-- how far a client's segment trims, by its connection's progress and current opening
abbrev pub trim_said : TcpFields → ℕ → Option Opening → Option Opening → ℕ
trim_said s edge None current = 0
trim_said s edge (Some shown) current = trim_of s edge shown current

-- A client's segment: what the client has seen, how far that trims, and that both guests' lines are
-- trimmed so.
pub record LooksAs (b : Books) (s : TcpFields) (x : Comparing) : Type 0 where
  pub seen : (look x s).seen ≡ (progress_of (client_tuple_of s) b.progress).shown
  pub trim_is : (look x s).trim
      ≡ trim_said s (progress_of (client_tuple_of s) b.progress).edge
      (progress_of (client_tuple_of s) b.progress).shown (line (client_tuple_of s) b.mine).opening
  pub after : StandsFor (record b {
    mine = b.mine ++ trims_shown s (look x s).seen (look x s).trim;
    theirs = b.theirs ++ trims_shown s (look x s).seen (look x s).trim;
  }) (look_after x s)

abbrev pub LooksAtClient : Type 0
LooksAtClient = (b : Books) (x : Comparing) (s : TcpFields) → StandsFor b x → LooksAs b s x

-- A capture: the numbers of the current openings alone are kept.
abbrev pub Captures : Type 0
Captures =
    (b : Books) (x : Comparing) → StandsFor b x →
    StandsFor (record b { numbers = thin b.mine b.numbers }) (capture x)

-- An acknowledgement: the node's own items with a commit are from then on what it knows of the
-- other's too, all numbers are known, and ages are counted anew.
abbrev pub Acknowledges : Type 0
Acknowledges =
    (b : Books) (x : Comparing) → StandsFor b x →
    StandsFor (record b {
      mine = b.mine ++ commit ∷ [];
      theirs = b.mine ++ commit ∷ [];
      numbers = learn_all b.numbers;
      progress = clear_ages b.progress;
    }) (acknowledge x)

-- The other node stopped.
abbrev pub RemainsAlone : Type 0
RemainsAlone =
    (b : Books) (x : Comparing) → StandsFor b x →
    StandsFor (record b { is_alone = true }) (leave_alone x)

-- what the rules settle within an event
abbrev pub scene_within : OwnFrames → List Item → List Tuple → Bool → Bool → Scene
scene_within own theirs heard is_alone is_turn = record {
  mine = own.items;
  theirs = theirs;
  numbers = own.numbers;
  is_alone = is_alone;
  is_turn = is_turn;
  tooks = own.tooks;
  restarts = own.restarts ++ heard;
}

-- the first difference, and where it is matched up to
abbrev pub difference_said : Scene → ProgressTable → Option Tuple → Option Need
difference_said scene progress None = None
difference_said scene progress (Some t) = Some (Differ t (matched_end_of scene progress t))

-- a restart, by the first restarted tuple in table order; where none of them is in the table, by
-- the first of the event
abbrev pub restart_said : Option Tuple → List Tuple → Option Need
restart_said found [] = None
restart_said (Some t) (_ ∷ _) = Some (Restart t)
restart_said None (u ∷ _) = Some (Restart u)

-- a difference goes before a restart, and that before a long wait
abbrev pub need_among : Option Need → Option Need → Option Tuple → Need
need_among (Some difference) restart wait = difference
need_among None (Some restart) wait = restart
need_among None None (Some t) = Wait t
need_among None None None = Nothing

-- the need that the rules name, with its tuple; a node alone has none
abbrev pub need_said : Bool → Scene → List Tuple → ProgressTable → Need
need_said true scene tuples progress = Nothing
need_said false scene tuples progress =
    need_among (difference_said scene progress (first_difference scene tuples progress))
    (restart_said (first_restart scene tuples) scene.restarts) (first_wait tuples progress)

-- the cause that a need is
abbrev pub cause_in : Need → Option Cause
cause_in Nothing = None
cause_in (Differ _ _) = Some cause.Differ
cause_in (Restart _) = Some cause.Restart
cause_in (Wait _) = Some cause.Wait

-- The end of an event: what goes out, the need of a checkpoint and its cause are those of the rules
-- for the whole history, and so is the progress then.
pub record SettlesAs (own : OwnFrames) (theirs : List Item) (heard : List Tuple)
    (is_alone is_turn : Bool) (x : Comparing) (settled : Settlement) : Type 0 where
  pub out : (settlement_of x is_turn).out ≡ settled.out
  pub need : need_after x is_turn
      ≡ need_said is_alone (scene_within own theirs heard is_alone is_turn) (order own.items)
      settled.progress
  pub cause_is : cause_in (need_after x is_turn)
      ≡ (if is_alone then None else cause_of (scene_within own theirs heard is_alone is_turn)
      (order own.items) settled.progress)
  pub after : StandsFor (record {
    mine = own.items;
    theirs = theirs;
    numbers = own.numbers;
    progress = settled.progress;
    is_alone = is_alone;
  }) (comparer.settle x is_turn)

abbrev pub SettlesByTheRules : Type 0
SettlesByTheRules =
    (own : OwnFrames) (theirs : List Item) (heard : List Tuple) (is_alone is_turn : Bool)
    (x : Comparing) → StandsWithin own theirs heard is_alone x →
    SettlesAs own theirs heard is_alone is_turn x
    (settle (scene_within own theirs heard is_alone is_turn) (order own.items) own.progress)

-- both lines with other symbols
abbrev pub with_symbols : BothLines → List Symbol → List Symbol → BothLines
with_symbols b xs ys = record b {
  mine = record b.mine { symbols = xs };
  theirs = record b.theirs { symbols = ys };
}

-- symbols that are the line's from its base on
abbrev pub AgreeFromBase : Line → List Symbol → Type 0
AgreeFromBase l xs = drop l.base xs ≡ drop l.base l.symbols

-- No symbol below a line's base is read: a connection whose own line is trimmed at most to the edge
-- is settled alike, whatever stands below the bases of its two lines.
abbrev pub ReadsFromTheBase : Type 0
ReadsFromTheBase =
    (restarted : Bool) (b : BothLines) (xs ys : List Symbol) (p : Progress) (is_turn : Bool)
    (tooks : List Took) → b.mine.base ≤ p.edge →
    AgreeFromBase b.mine xs →
    AgreeFromBase b.theirs ys →
    settle_or_rest restarted (with_symbols b xs ys) p is_turn tooks
    ≡ settle_or_rest restarted b p is_turn tooks

-- At the report of the primary's stop a secondary that survives releases what the rules say of its
-- items and numbers, and its comparer, alone, stands for them.
pub record SurvivesAs (items theirs : List Item) (lines : Tracking) (numbers : KeptNumbers)
    (survival : Survival) : Type 0 where
  pub out : (survive lines numbers).out ≡ survival.out
  pub after : StandsFor (record {
    mine = items;
    theirs = theirs;
    numbers = survival.numbers;
    progress = survival.progress;
    is_alone = true;
  }) (survivor lines (survive lines numbers))

abbrev pub SurvivesByTheRules : Type 0
SurvivesByTheRules =
    (items theirs : List Item) (lines : Tracking) (kept : List KeptNumber) (numbers : KeptNumbers) →
    Tracks items lines → SameNumbers kept numbers →
    SurvivesAs items theirs lines numbers (rules.survive items kept (order items))
