-- A comparer through each event.
use Rattle.std.proofs.Common.{◌≡◌, ℕ, ◌+◌, Bool, true, false, ◌&&◌, if◌then◌else◌, List, [], ◌∷◌, ◌++◌, append-nil, append_assoc, fold, map, Option, None, Some, refl, sym, ap, ap₂, subst, ◌∙◌, true≢false}
use Rattle.std.proofs.lemmas.Bool.{and_parts}
use Rattle.inet_frame.specs.Counted.{client_tuple_of, tcp_in}
use Rattle.inet_frame.specs.Fields.{TcpFields}
use Rattle.inet_frame.specs.declared.tuple.Tuple.{Tuple}
use Rattle.tcp_track.specs.Lines.{Item, line, order, sent}
use Rattle.tcp_track.specs.Stands.{segments}
use Rattle.tcp_track.specs.declared.openings.Opening.{Opening}
use Rattle.settle_rules.specs.Numbers.{KeptNumber, learn_number}
use Rattle.settle_rules.specs.OwnFrames.{OwnFrames, no_own_frames, own_after, own_frames}
use Rattle.settle_rules.specs.Progress.{Progress, progress_of}
use Rattle.settle_rules.specs.Settle.{settle as settle_all}
use Rattle.state_wire.specs.Guest.{Kind}
use Rattle.colo_wire.specs.declared.messages.Message.{Message}
use Rattle.frame_mirror.specs.declared.ring.Waiting.{Waiting}
use Rattle.out_compare.specs.Comparing.{Comparing, take_own, take_heard, learn, leave_alone}
use Rattle.out_compare.specs.Comparing as comparer
use Rattle.out_compare.specs.Look.{look, look_after}
use Rattle.pair_theorem.specs.Checkpoint.{capture}
use Rattle.pair_theorem.specs.ClientFrames.{trim_items, trims_by}
use Rattle.settle_rules.specs.Look.{Look, look_with}
use Rattle.pair_theorem.specs.Events.{accept_by, ack_ended, ended_by, known_ended, look_at, number_message, primary_ended, raise_count, primary_survives, restarts_in, secondary_survives, sent_ended, settle_event, survivor_ended, acknowledge, lose_links}
use Rattle.pair_theorem.specs.GuestTurns.{TurnMade, TurnNumbers, add_turn, turn_from, turn_if, turn_with, turn_without}
use Rattle.pair_theorem.specs.Past.{NodeRun, Past, is_primary_stop, releasing_items}
use Rattle.settle_history.specs.Laws.{LooksAs, restarts_heard, scene_within, trim_said, trims_shown}
use Rattle.settle_history.specs.Standing.{Books, StandsFor, StandsWithin, no_own_of}
use Rattle.settle_history.proofs.CallLemmas.{acknowledges, begins_with_nothing, captures, learns_number, looks_at_client, remains_alone, says_new_numbers, takes_heard_frame, takes_own_frames}
use Rattle.settle_history.proofs.CauseLemmas.{settles_by_the_rules}
use Rattle.settle_history.proofs.SurviveLemmas.{survives_by_the_rules}
use Rattle.compare_history.specs.Books.{primary_books, survivor_books}
use Rattle.compare_history.specs.Laws.{BeginsAtBoot, CapturesThePast, EndsAs, HearsAck, HearsKnown, HearsSent, PrimaryLooks, PrimarySurvives, PrimaryTurns, SecondarySurvives, SurvivorLooks, SurvivorTurns, TurnsAs, looked_frame}

pub begins_at_boot : BeginsAtBoot
begins_at_boot kind stream state primary_turned secondary_turned = begins_with_nothing

-- THE END OF AN EVENT

-- where the items then are the event's
ends : (past : Past) (own : OwnFrames) (heard : List Tuple) (is_turn : Bool) (books : Past → Books) (x : Comparing) →
    ((numbers : List KeptNumber) (p : List (Tuple × Progress)) (messages : List Message) →
    books (record past { numbers = numbers; progress = p; to_secondary = messages }) ≡ record {
      mine = own.items;
      theirs = past.known_items;
      numbers = numbers;
      progress = p;
      is_alone = past.is_reported;
    }) → StandsWithin own past.known_items heard past.is_reported x →
    EndsAs (ended_by past own (scene_within own past.known_items heard past.is_reported is_turn) (order own.items))
    books is_turn x
unfolding ended_by
ends past own heard is_turn books x same h =
    let scene = scene_within own past.known_items heard past.is_reported is_turn in
    let s = settles_by_the_rules own past.known_items heard past.is_reported is_turn x h in
    let p = (settle_all scene (order own.items) own.progress).progress in
    record {
      out = s.out;
      cause_is = s.cause_is;
      after = subst (λ (b : Books). StandsFor b (comparer.settle x is_turn))
          (sym (same own.numbers p (if past.is_reported then past.to_secondary
          else past.to_secondary ++ map number_message own.new_numbers))) s.after;
    }

-- all segments of an event are its items
own_items : (own : OwnFrames) (said : List TcpFields) →
    (fold own_after own said).items ≡ own.items ++ map sent said
own_items own [] = sym (append-nil own.items)
own_items own (s ∷ said) = own_items (own_after own s) said ∙ append_assoc own.items (sent s ∷ []) (map sent said)

-- A TURN

made_items : (kind : Kind) (node : NodeRun) (inbox : List Waiting) (takes : Bool) (n : TurnNumbers) →
    (turn_from kind node inbox takes n).run.items
    ≡ node.items ++ map sent (segments (turn_from kind node inbox takes n).output)
unfolding turn_from turn_if turn_with turn_without add_turn
made_items kind node [] takes n = refl
made_items kind node (w ∷ inbox) takes n = by (takes && kind.can_receive node.run.state)
  where
    by : (b : Bool) → (turn_if b kind node w inbox n).run.items
        ≡ node.items ++ map sent (segments (turn_if b kind node w inbox n).output)
    by true = refl
    by false = refl

turn_items : (before : List Item) (numbers : List KeptNumber) (p : List (Tuple × Progress)) (said : List TcpFields) →
    (own_frames before numbers p said).items ≡ before ++ map sent said
unfolding own_frames
turn_items before numbers p said = own_items (no_own_frames before numbers p) said

primary_turn : (past : Past) (made : TurnMade) (x : Comparing) →
    made.run.items ≡ past.primary.items ++ map sent (segments made.output) → StandsFor (primary_books past) x →
    TurnsAs past made (primary_ended past made) primary_books x
unfolding primary_ended settle_event ended_by
primary_turn past made x items h =
    let own = own_frames past.primary.items past.numbers past.progress (segments made.output) in
    let same = items ∙ sym (turn_items past.primary.items past.numbers past.progress (segments made.output)) in
    record {
      ends = ends (record past {
        primary = made.run;
        primary_inbox = made.inbox;
        primary_turned = raise_count past.primary_turned;
      }) own [] true primary_books (fold take_own x made.output) (λ numbers p messages i. record {
        mine = same i;
        theirs = past.known_items;
        numbers = numbers;
        progress = p;
        is_alone = past.is_reported;
      }) (takes_own_frames (primary_books past) x made.output h);
      tells = ap (λ (ks : List KeptNumber). if past.is_reported then past.to_secondary
          else past.to_secondary ++ map number_message ks)
          (sym (says_new_numbers (primary_books past) x made.output h));
    }

pub primary_turns : PrimaryTurns
primary_turns kind past takes n x h =
    primary_turn past (turn_from kind past.primary past.primary_inbox takes n) x
    (made_items kind past.primary past.primary_inbox takes n) h

survivor_turn : (past : Past) (made : TurnMade) (x : Comparing) →
    made.run.items ≡ past.secondary.items ++ map sent (segments made.output) → StandsFor (survivor_books past) x →
    TurnsAs past made (survivor_ended past made) survivor_books x
unfolding survivor_ended settle_event ended_by
survivor_turn past made x items h =
    let own = own_frames past.secondary.items past.numbers past.progress (segments made.output) in
    let same = items ∙ sym (turn_items past.secondary.items past.numbers past.progress (segments made.output)) in
    record {
      ends = ends (record past {
        secondary = made.run;
        secondary_inbox = made.inbox;
        secondary_turned = raise_count past.secondary_turned;
      }) own [] true survivor_books (fold take_own x made.output) (λ numbers p messages i. record {
        mine = same i;
        theirs = past.known_items;
        numbers = numbers;
        progress = p;
        is_alone = past.is_reported;
      }) (takes_own_frames (survivor_books past) x made.output h);
      tells = ap (λ (ks : List KeptNumber). if past.is_reported then past.to_secondary
          else past.to_secondary ++ map number_message ks)
          (sym (says_new_numbers (survivor_books past) x made.output h));
    }

pub survivor_turns : SurvivorTurns
survivor_turns kind past takes n x h =
    survivor_turn past (turn_from kind past.secondary past.secondary_inbox takes n) x
    (made_items kind past.secondary past.secondary_inbox takes n) h

-- AN EVENT WITHOUT SEGMENTS OF THE NODE'S OWN

quiet : (past : Past) (heard : List Tuple) (x : Comparing) →
    StandsWithin (no_own_of (primary_books past)) past.known_items heard past.is_reported x →
    EndsAs (settle_event past (record {
      before = past.primary.items;
      own = [];
      restarts = heard;
      is_turn = false;
    })) primary_books false x
unfolding settle_event own_frames ended_by
quiet past heard x h = ends past (no_own_of (primary_books past)) heard false primary_books x
    (λ numbers p messages. refl) h

pub hears_known : HearsKnown
unfolding known_ended
hears_known past t client number x h =
    quiet (record past { numbers = learn_number past.numbers t client number }) [] (learn x t client number)
    (learns_number (primary_books past) x t client number h)

restarts_alike : (items : List Item) (said : List TcpFields) → restarts_in items said ≡ restarts_heard items said
unfolding restarts_in
restarts_alike items [] = refl
restarts_alike items (s ∷ said) = refl

pub hears_sent : HearsSent
unfolding sent_ended
hears_sent past frame x together h =
    let heard = segments (frame ∷ []) in
    quiet (record past {
      sent_heard = past.sent_heard + 1;
      known_items = past.known_items ++ map sent heard;
    }) (restarts_in past.known_items heard) (take_heard x frame)
    (subst (λ (ts : List Tuple). StandsWithin (no_own_of (primary_books past)) (past.known_items ++ map sent heard) ts
    past.is_reported (take_heard x frame)) (sym (restarts_alike past.known_items heard))
    (takes_heard_frame (primary_books past) x frame together h))

pub hears_ack : HearsAck
unfolding ack_ended
hears_ack past x h = quiet (acknowledge past) [] (comparer.acknowledge x) (acknowledges (primary_books past) x h)

pub primary_survives_alone : PrimarySurvives
unfolding primary_survives
primary_survives_alone past x h = quiet (lose_links past) [] (leave_alone x) (remains_alone (primary_books past) x h)

pub captures_the_past : CapturesThePast
unfolding capture
captures_the_past past x h = captures (primary_books past) x h

pub secondary_survives_alone : SecondarySurvives
unfolding secondary_survives
secondary_survives_alone past lines numbers h same =
    let s = survives_by_the_rules past.secondary.items past.known_items lines past.secondary_numbers numbers h same in
    record { out = s.out; after = s.after }

-- A CLIENT'S FRAME

seen_alike : (s : TcpFields) (p : Progress) (shown current : Option Opening) →
    (look_with s p.edge shown current).seen ≡ shown
seen_alike s p None current = refl
seen_alike s p (Some o) current = refl

trim_alike : (s : TcpFields) (p : Progress) (shown current : Option Opening) →
    (look_with s p.edge shown current).trim ≡ trim_said s p.edge shown current
trim_alike s p None current = refl
trim_alike s p (Some o) current = refl

trims_alike : (s : TcpFields) (seen : Option Opening) (to : ℕ) → trim_items (Some s) seen to ≡ trims_shown s seen to
trims_alike s None to = refl
trims_alike s (Some o) to = refl

-- a node alone has no known lines of the other guest
alone_any : (b : Books) (theirs : List Item) (x : Comparing) → b.is_alone ≡ true → StandsFor b x →
    StandsFor (record b { theirs = theirs }) x
alone_any b theirs x alone h = record {
  mine_is = h.mine_is;
  theirs_is = λ together. absurd (true≢false (sym alone ∙ together));
  numbers_are = h.numbers_are;
  known = h.known;
  numbered = h.numbered;
  progress_is = h.progress_is;
  untrimmed = h.untrimmed;
  tooks_are = h.tooks_are;
  restarts_are = h.restarts_are;
  alone = h.alone;
}

-- what the event says that the client has seen, how far that trims, and what it trims
record LooksAlike (past : Past) (frame : List ℕ) (s : TcpFields) (mine : List Item) (x : Comparing) : Type 0 where
  seen : (look x s).seen ≡ (look_at past (tcp_in frame)).seen
  trim_is : (look x s).trim ≡ (look_at past (tcp_in frame)).trim
  trims : trims_shown s (look x s).seen (look x s).trim ≡ trims_by (looked_frame past frame)

look_alike : (past : Past) (frame : List ℕ) (s : TcpFields) (b : Books) (x : Comparing) → tcp_in frame ≡ Some s →
    releasing_items past ≡ b.mine → b.progress ≡ past.progress → LooksAs b s x → LooksAlike past frame s b.mine x
unfolding look_at trims_by
look_alike past frame s b x e mine progress h =
    let t = client_tuple_of s in
    let p = progress_of t past.progress in
    let q = progress_of t b.progress in
    let same : q ≡ p = ap (λ (ps : List (Tuple × Progress)). progress_of t ps) progress in
    let current = (line t (releasing_items past)).opening in
    let its : look_at past (Some s) ≡ look_at past (tcp_in frame) =
    ap (λ (o : Option TcpFields). look_at past o) (sym e) in
    let seen = h.seen ∙ (ap (λ (r : Progress). r.shown) same ∙ (sym (seen_alike s p p.shown current)
    ∙ ap (λ (k : Look). k.seen) its)) in
    let trim = h.trim_is
    ∙ (ap₂ (λ (r : Progress) (items : List Item). trim_said s r.edge r.shown (line t items).opening)
    same (sym mine) ∙ (sym (trim_alike s p p.shown current) ∙ ap (λ (k : Look). k.trim) its)) in
    record {
      seen = seen;
      trim_is = trim;
      trims = ap₂ (λ (o : Option Opening) (to : ℕ). trims_shown s o to) seen trim
          ∙ (sym (trims_alike s (look_at past (tcp_in frame)).seen (look_at past (tcp_in frame)).trim)
          ∙ ap (λ (o : Option TcpFields). trim_items o (look_at past (tcp_in frame)).seen
          (look_at past (tcp_in frame)).trim) (sym e));
    }

primary_accepts : (past : Past) (trims : List Item) (x : Comparing) → StandsFor (record (primary_books past) {
  mine = past.primary.items ++ trims;
  theirs = past.known_items ++ trims;
}) x → StandsFor (record (primary_books past) {
  mine = past.primary.items ++ trims;
  theirs = if past.is_reported then past.known_items else past.known_items ++ trims;
}) x
primary_accepts past trims x h = by past.is_reported refl
  where
    by : (b : Bool) → past.is_reported ≡ b → StandsFor (record (primary_books past) {
      mine = past.primary.items ++ trims;
      theirs = if b then past.known_items else past.known_items ++ trims;
    }) x
    by true e = alone_any (record (primary_books past) {
      mine = past.primary.items ++ trims;
      theirs = past.known_items ++ trims;
    }) past.known_items x e h
    by false e = h

pub primary_looks : PrimaryLooks
unfolding accept_by
primary_looks past frame s x e not_second h =
    let looks = looks_at_client (primary_books past) x s h in
    let mine : releasing_items past ≡ past.primary.items =
    ap (λ (b : Bool). if b then past.secondary.items else past.primary.items) not_second in
    let a = look_alike past frame s (primary_books past) x e mine refl looks in
    record {
      seen = a.seen;
      trim_is = a.trim_is;
      accepted = primary_accepts past (trims_by (looked_frame past frame)) (look_after x s)
          (subst (λ (trims : List Item). StandsFor (record (primary_books past) {
            mine = past.primary.items ++ trims;
            theirs = past.known_items ++ trims;
          }) (look_after x s)) a.trims looks.after);
    }

pub survivor_looks : SurvivorLooks
unfolding accept_by
survivor_looks past frame s x e second h =
    let looks = looks_at_client (survivor_books past) x s h in
    let mine : releasing_items past ≡ past.secondary.items =
    ap (λ (b : Bool). if b then past.secondary.items else past.primary.items) second in
    let a = look_alike past frame s (survivor_books past) x e mine refl looks in
    let trims = trims_by (looked_frame past frame) in
    let alone = (and_parts (is_primary_stop past.stop) past.is_reported second).1 in
    record {
      seen = a.seen;
      trim_is = a.trim_is;
      accepted = alone_any (record (survivor_books past) {
        mine = past.secondary.items ++ trims;
        theirs = past.known_items ++ trims;
      }) past.known_items (look_after x s) alone
          (subst (λ (items : List Item). StandsFor (record (survivor_books past) {
            mine = past.secondary.items ++ items;
            theirs = past.known_items ++ items;
          }) (look_after x s)) a.trims looks.after);
    }
