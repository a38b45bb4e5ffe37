-- A comparer that stands for a history, call by call.
use Rattle.std.proofs.Common.{◌≡◌, ◌≤◌, ℕ, Bool, true, false, ◌&&◌, nat_le, if◌then◌else◌, List, [], ◌∷◌, ◌++◌, append-nil, append_assoc, fold, map, is_some, Option, None, Some, refl, sym, ap, ap₂, subst, ◌∙◌, true≢false, arith}
use Rattle.std.specs.List.{cons_option}
use Rattle.std.proofs.lemmas.Bool.{and_parts, eq-eqb, leb-true}
use Rattle.std.proofs.lemmas.List.Elements.{filter_map-append}
use Rattle.inet_frame.specs.Counted.{client_tuple_of, counted, tuple_of}
use Rattle.inet_frame.specs.Fields.{TcpFields}
use Rattle.inet_frame.specs.Flags.{has_ack}
use Rattle.inet_frame.specs.declared.tuple.Tuple.{Tuple}
use Rattle.tcp_track.specs.Laws.{took_after}
use Rattle.tcp_track.specs.Lines.{Item, commit, line, segment_of, sent, sent_of, trim}
use Rattle.tcp_track.specs.Offsets.{distance}
use Rattle.tcp_track.specs.Stands.{is_of_client, opening_of, segments}
use Rattle.tcp_track.specs.Tracking.{Tracking, current_at, took_in, took_of}
use Rattle.tcp_track.specs.declared.answers.Took.{Took}
use Rattle.tcp_track.specs.declared.openings.Incarnation.{Incarnation}
use Rattle.tcp_track.specs.declared.openings.Opening.{Opening}
use Rattle.tcp_track.proofs.RestartLemmas.{answers_what}
use Rattle.tcp_track.proofs.StandingLemmas.{opening_of_line}
use Rattle.settle_rules.specs.Look.{trim_of}
use Rattle.settle_rules.specs.Numbers.{KeptNumber, learn_all, new_number, thin}
use Rattle.settle_rules.specs.OwnFrames.{OwnFrames, note_took, own_after, own_frames, progress_with, restarts_of}
use Rattle.settle_rules.specs.Progress.{Progress, progress_of, put_progress}
use Rattle.settle_table.specs.Table.{progress_at}
use Rattle.out_compare.specs.Comparing.{Comparing, take_own, take_heard, learn, capture, acknowledge}
use Rattle.out_compare.specs.Look.{look, trimmed_look}
use Rattle.out_compare.specs.Noting.{note_number, note_progress, note_unknown}
use Rattle.out_compare.proofs.OrderLemmas.{acknowledged_untrimmed, own_untrimmed, trim_untrimmed}
use Rattle.compare_laws.proofs.NumberLemmas.{all_keys, all_known, learns_keys}
use Rattle.compare_laws.proofs.SegmentLemmas.{ignores_others}
use Rattle.settle_history.specs.Laws.{BeginsWithNothing, TakesOwnFrame, TakesOwnFrames, AnswersAs, AnswersOwnFrame, SaysNewNumbers, TakesHeardFrame, AnswersHeardFrame, LearnsNumber, LooksAtClient, Captures, Acknowledges, RemainsAlone, number_of_frame, numbers_said, restarts_heard, trim_said, trims_shown}
use Rattle.settle_history.specs.Standing.{AreNumbered, Books, SameKnown, SameNumbers, SameProgress, StandsFor, StandsWithin, Tracks, no_own_of}
use Rattle.settle_history.proofs.NumberLemmas.{known_all, known_learn, known_own, known_thin, numbered_map, numbered_own, numbered_thin, numbers_map, numbers_own, numbers_thin, said_own}
use Rattle.settle_history.proofs.ProgressLemmas.{clear_alike, noted_alike}
use Rattle.settle_history.proofs.RestartLemmas.{restarts_are}
use Rattle.settle_history.proofs.TrackLemmas.{line_opening, opening_is, tracks_commit, tracks_counted, tracks_none, tracks_trim}

pub begins_with_nothing : BeginsWithNothing
unfolding opening_of
begins_with_nothing = record {
  mine_is = tracks_none;
  theirs_is = λ together. tracks_none;
  numbers_are = λ t client. refl;
  known = λ together t client. refl;
  numbered = λ t o e. absurd (true≢false (sym (ap is_some e)));
  progress_is = λ t. refl;
  untrimmed = λ t l at. absurd (true≢false (sym (ap is_some at)));
  tooks_are = refl;
  restarts_are = refl;
  alone = refl;
}

-- A FRAME OF THE NODE'S OWN GUEST

-- what a segment is to a tracker that stands for items
took_is : (items : List Item) (tracking : Tracking) (s : TcpFields) → Tracks items tracking →
    took_in tracking (Some s) ≡ took_after items s
unfolding took_after
took_is items tracking s h =
    ap (λ (x : Tracking). took_in x (Some s)) h.leaves
    ∙ (answers_what h.calls s (opening_of_line h.calls (tuple_of s))
    ∙ ap (λ (xs : List Item). took_after xs s) h.gives)

took_counted : (items : List Item) (tracking : Tracking) (frame : List ℕ) (s : TcpFields) → counted frame ≡ Some s →
    Tracks items tracking → took_of tracking frame ≡ took_after items s
took_counted items tracking frame s e h =
    ap (λ (o : Option TcpFields). took_in tracking o) e ∙ took_is items tracking s h

own_counted : (own : OwnFrames) (theirs : List Item) (is_alone : Bool) (x : Comparing) (frame : List ℕ)
    (s : TcpFields) → counted frame ≡ Some s → StandsWithin own theirs [] is_alone x →
    StandsWithin (own_after own s) theirs [] is_alone (take_own x frame)
unfolding take_own
own_counted own theirs is_alone x frame s e h =
    let took = took_counted own.items x.mine frame s e h.mine_is in
    let current = opening_is own.items x.mine (tuple_of s) h.mine_is in
    record {
      mine_is = tracks_counted own.items x.mine frame s e h.mine_is;
      theirs_is = h.theirs_is;
      numbers_are = subst (λ (o : Option TcpFields). SameNumbers (own.numbers ++ new_number own.numbers s)
          (note_number x.numbers (took_in x.mine o))) (sym e)
          (numbers_own x.mine own.items x.numbers own.numbers s current h.numbered h.numbers_are);
      known = λ together. subst (λ (o : Option TcpFields). SameKnown (own.numbers ++ new_number own.numbers s)
          (note_unknown x.numbers x.unknown (took_in x.mine o))) (sym e)
          (known_own x.mine own.items x.numbers x.unknown own.numbers s current h.numbered h.numbers_are
          (h.known together));
      numbered = numbered_own own.items own.numbers s h.numbered;
      progress_is = subst (λ (k : Took). SameProgress (put_progress k.tuple
          (progress_with k.what (progress_of k.tuple own.progress)) own.progress)
          (note_progress x.progress (took_of x.mine frame))) took
          (noted_alike own.progress x.progress (took_of x.mine frame) h.progress_is);
      untrimmed = own_untrimmed x.mine x.progress frame h.untrimmed;
      tooks_are = ap₂ (λ (ks : List Took) (k : Took). note_took ks k) h.tooks_are took;
      restarts_are = ap₂ (λ (ts : List Tuple) (k : Took). ts ++ restarts_of k.tuple k.what) h.restarts_are took
          ∙ (ap (λ (ts : List Tuple). ts ++ restarts_of (took_after own.items s).tuple (took_after own.items s).what)
          (append-nil own.restarts)
          ∙ sym (append-nil (own.restarts
          ++ restarts_of (took_after own.items s).tuple (took_after own.items s).what)));
      alone = h.alone;
    }

own_more : (own : OwnFrames) (theirs : List Item) (is_alone : Bool) (x : Comparing) (frame : List ℕ)
    (o : Option TcpFields) → counted frame ≡ o → StandsWithin own theirs [] is_alone x →
    StandsWithin (fold own_after own (cons_option o [])) theirs [] is_alone (take_own x frame)
own_more own theirs is_alone x frame None e h =
    subst (λ (y : Comparing). StandsWithin own theirs [] is_alone y) (sym (ignores_others x frame e).0) h
own_more own theirs is_alone x frame (Some s) e h = own_counted own theirs is_alone x frame s e h

pub takes_own_frame : TakesOwnFrame
takes_own_frame own theirs is_alone x frame h = own_more own theirs is_alone x frame (counted frame) refl h

own_list : (own : OwnFrames) (o : Option TcpFields) (later : List TcpFields) →
    fold own_after (fold own_after own (cons_option o [])) later ≡ fold own_after own (cons_option o later)
own_list own None later = refl
own_list own (Some s) later = refl

own_all : (own : OwnFrames) (theirs : List Item) (is_alone : Bool) (x : Comparing) (frames : List (List ℕ)) →
    StandsWithin own theirs [] is_alone x →
    StandsWithin (fold own_after own (segments frames)) theirs [] is_alone (fold take_own x frames)
own_all own theirs is_alone x [] h = h
own_all own theirs is_alone x (frame ∷ frames) h =
    subst (λ (now : OwnFrames). StandsWithin now theirs [] is_alone (fold take_own (take_own x frame) frames))
    (own_list own (counted frame) (segments frames))
    (own_all (fold own_after own (cons_option (counted frame) [])) theirs is_alone (take_own x frame) frames
    (takes_own_frame own theirs is_alone x frame h))

pub takes_own_frames : TakesOwnFrames
unfolding own_frames
takes_own_frames b x frames h = own_all (no_own_of b) b.theirs b.is_alone x frames h

answers_in : (own : OwnFrames) (theirs : List Item) (is_alone : Bool) (x : Comparing) (s : TcpFields) →
    StandsWithin own theirs [] is_alone x → AnswersAs own s x (took_in x.mine (Some s))
answers_in own theirs is_alone x s h = record {
  what = took_is own.items x.mine s h.mine_is;
  number = said_own x.mine own.items x.numbers own.numbers s (opening_is own.items x.mine (tuple_of s) h.mine_is)
      h.numbered h.numbers_are;
}

pub answers_own_frame : AnswersOwnFrame
answers_own_frame own theirs is_alone x frame s e h =
    subst (λ (o : Option TcpFields). AnswersAs own s x (took_in x.mine o)) (sym e)
    (answers_in own theirs is_alone x s h)

-- the number of one frame, whether it counts or not
said_more : (own : OwnFrames) (theirs : List Item) (is_alone : Bool) (x : Comparing) (o : Option TcpFields) →
    StandsWithin own theirs [] is_alone x →
    (fold own_after own (cons_option o [])).new_numbers ≡ own.new_numbers ++ number_of_frame x (took_in x.mine o)
said_more own theirs is_alone x None h = sym (append-nil own.new_numbers)
said_more own theirs is_alone x (Some s) h =
    ap (λ (ks : List KeptNumber). own.new_numbers ++ ks) (sym (answers_in own theirs is_alone x s h).number)

said_all : (own : OwnFrames) (theirs : List Item) (is_alone : Bool) (x : Comparing) (frames : List (List ℕ)) →
    StandsWithin own theirs [] is_alone x →
    (fold own_after own (segments frames)).new_numbers ≡ own.new_numbers ++ numbers_said x frames
said_all own theirs is_alone x [] h = sym (append-nil own.new_numbers)
said_all own theirs is_alone x (frame ∷ frames) h =
    let now = fold own_after own (cons_option (counted frame) []) in
    let one = number_of_frame x (took_of x.mine frame) in
    let rest = numbers_said (take_own x frame) frames in
    ap (λ (o : OwnFrames). o.new_numbers) (sym (own_list own (counted frame) (segments frames)))
    ∙ (said_all now theirs is_alone (take_own x frame) frames (takes_own_frame own theirs is_alone x frame h)
    ∙ (ap (λ (ks : List KeptNumber). ks ++ rest) (said_more own theirs is_alone x (counted frame) h)
    ∙ append_assoc own.new_numbers one rest))

pub says_new_numbers : SaysNewNumbers
unfolding own_frames
says_new_numbers b x frames h = sym (said_all (no_own_of b) b.theirs b.is_alone x frames h)

-- A FRAME OF THE OTHER NODE'S GUEST

heard_counted : (b : Books) (x : Comparing) (frame : List ℕ) (s : TcpFields) → counted frame ≡ Some s →
    b.is_alone ≡ false → StandsFor b x →
    StandsWithin (no_own_of b) (b.theirs ++ sent s ∷ []) (restarts_heard b.theirs (s ∷ [])) b.is_alone
    (take_heard x frame)
unfolding take_heard
heard_counted b x frame s e together h =
    let theirs = h.theirs_is together in record {
      mine_is = h.mine_is;
      theirs_is = λ _. tracks_counted b.theirs x.theirs frame s e theirs;
      numbers_are = h.numbers_are;
      known = h.known;
      numbered = h.numbered;
      progress_is = h.progress_is;
      untrimmed = h.untrimmed;
      tooks_are = h.tooks_are;
      restarts_are = ap₂ (λ (ts : List Tuple) (k : Took). ts ++ restarts_of k.tuple k.what) h.restarts_are
          (took_counted b.theirs x.theirs frame s e theirs) ∙ restarts_are b.theirs s;
      alone = h.alone;
    }

heard_more : (b : Books) (x : Comparing) (frame : List ℕ) (o : Option TcpFields) → counted frame ≡ o →
    b.is_alone ≡ false → StandsFor b x →
    StandsWithin (no_own_of b) (b.theirs ++ map sent (cons_option o [])) (restarts_heard b.theirs (cons_option o []))
    b.is_alone (take_heard x frame)
heard_more b x frame None e together h =
    subst (λ (items : List Item). StandsWithin (no_own_of b) items [] b.is_alone (take_heard x frame))
    (sym (append-nil b.theirs))
    (subst (λ (y : Comparing). StandsFor b y) (sym (ignores_others x frame e).1) h)
heard_more b x frame (Some s) e together h = heard_counted b x frame s e together h

pub takes_heard_frame : TakesHeardFrame
takes_heard_frame b x frame together h = heard_more b x frame (counted frame) refl together h

pub answers_heard_frame : AnswersHeardFrame
answers_heard_frame b x frame s e together h = took_counted b.theirs x.theirs frame s e (h.theirs_is together)

-- A NUMBER LEARNT

pub learns_number : LearnsNumber
unfolding learn
learns_number b x t client number h = record {
  mine_is = h.mine_is;
  theirs_is = h.theirs_is;
  numbers_are = numbers_map b.numbers x.numbers _ (learns_keys t client number) h.numbers_are;
  known = λ together. known_learn b.numbers x.numbers x.unknown t client number h.numbers_are (h.known together);
  numbered = numbered_map b.mine b.numbers _ (learns_keys t client number) h.numbered;
  progress_is = h.progress_is;
  untrimmed = h.untrimmed;
  tooks_are = h.tooks_are;
  restarts_are = h.restarts_are;
  alone = h.alone;
}

-- A CLIENT'S SEGMENT

silent : (items : List Item) (kept : List KeptNumber) (more : List Item) → sent_of more ≡ [] →
    AreNumbered items kept → AreNumbered (items ++ more) kept
silent items kept more e h = λ t o at. h t o (sym (ap (λ (said : List TcpFields). opening_of t said)
    (filter_map-append segment_of items more ∙ (ap (λ (said : List TcpFields). sent_of items ++ said) e
    ∙ append-nil (sent_of items)))) ∙ at)

-- a trim goes at most to the edge
trim_low : (s : TcpFields) (edge : ℕ) (shown : Opening) (current : Option Opening) → trim_of s edge shown current ≤ edge
trim_low s edge shown current = by (has_ack s.flags && (nat_le 1 (distance shown.own s.ack)
    && (nat_le (distance shown.own s.ack) edge && is_of_client current shown.client))) refl
  where
    by : (b : Bool) → (has_ack s.flags && (nat_le 1 (distance shown.own s.ack)
        && (nat_le (distance shown.own s.ack) edge && is_of_client current shown.client))) ≡ b →
        (if b then distance shown.own s.ack else 0) ≤ edge
    by true e =
        let ack = and_parts (has_ack s.flags) (nat_le 1 (distance shown.own s.ack)
        && (nat_le (distance shown.own s.ack) edge && is_of_client current shown.client)) e in
        let low = and_parts (nat_le 1 (distance shown.own s.ack)) (nat_le (distance shown.own s.ack) edge
        && is_of_client current shown.client) ack.1 in
        let high = and_parts (nat_le (distance shown.own s.ack) edge) (is_of_client current shown.client) low.1 in
        leb-true (distance shown.own s.ack) edge high.0
    by false e = omega arith

looks_with : (b : Books) (x : Comparing) (s : TcpFields) (shown : Option Opening) → StandsFor b x →
    let now = trimmed_look x.mine x.theirs s (progress_at x.progress (client_tuple_of s)).edge shown in
    StandsFor (record b {
      mine = b.mine ++ trims_shown s now.seen now.trim;
      theirs = b.theirs ++ trims_shown s now.seen now.trim;
    }) (record x { mine = now.mine; theirs = now.theirs })
looks_with b x s None h = record {
  mine_is = subst (λ (items : List Item). Tracks items x.mine) (sym (append-nil b.mine)) h.mine_is;
  theirs_is = λ together. subst (λ (items : List Item). Tracks items x.theirs) (sym (append-nil b.theirs))
      (h.theirs_is together);
  numbers_are = h.numbers_are;
  known = h.known;
  numbered = silent b.mine b.numbers [] refl h.numbered;
  progress_is = h.progress_is;
  untrimmed = h.untrimmed;
  tooks_are = h.tooks_are;
  restarts_are = h.restarts_are;
  alone = h.alone;
}
looks_with b x s (Some shown) h =
    let t = client_tuple_of s in
    let edge = (progress_at x.progress t).edge in
    let to = trim_of s edge shown (current_at x.mine t) in
    record {
      mine_is = tracks_trim b.mine x.mine t shown.client to h.mine_is;
      theirs_is = λ together. tracks_trim b.theirs x.theirs t shown.client to (h.theirs_is together);
      numbers_are = h.numbers_are;
      known = h.known;
      numbered = silent b.mine b.numbers (trim t shown.client to ∷ []) refl h.numbered;
      progress_is = h.progress_is;
      untrimmed = trim_untrimmed x.mine x.progress t shown.client to (trim_low s edge shown (current_at x.mine t))
          h.untrimmed;
      tooks_are = h.tooks_are;
      restarts_are = h.restarts_are;
      alone = h.alone;
    }

seen_with : (x : Comparing) (s : TcpFields) (edge : ℕ) (shown : Option Opening) →
    (trimmed_look x.mine x.theirs s edge shown).seen ≡ shown
seen_with x s edge None = refl
seen_with x s edge (Some shown) = refl

trim_with : (x : Comparing) (s : TcpFields) (edge : ℕ) (shown : Option Opening) →
    (trimmed_look x.mine x.theirs s edge shown).trim ≡ trim_said s edge shown (current_at x.mine (client_tuple_of s))
trim_with x s edge None = refl
trim_with x s edge (Some shown) = refl

pub looks_at_client : LooksAtClient
unfolding look
looks_at_client b x s h =
    let t = client_tuple_of s in
    let p = progress_at x.progress t in
    record {
      seen = seen_with x s p.edge p.shown ∙ ap (λ (q : Progress). q.shown) (h.progress_is t);
      trim_is = trim_with x s p.edge p.shown
          ∙ ap₂ (λ (q : Progress) (o : Option Opening). trim_said s q.edge q.shown o) (h.progress_is t)
          (line_opening b.mine x.mine t h.mine_is);
      after = looks_with b x s p.shown h;
    }

-- A CAPTURE

of_itself : (o : Option Opening) (p : Opening) → o ≡ Some p → is_of_client o p.client ≡ true
of_itself o p e = ap (λ (q : Option Opening). is_of_client q p.client) e ∙ eq-eqb p.client p.client refl

pub captures : Captures
unfolding capture thin
captures b x h =
    let q = λ (k : KeptNumber). is_of_client (line k.tuple b.mine).opening k.client in
    let r = λ (i : Incarnation). is_of_client (current_at x.mine i.tuple) i.client in
    let alike : (k : KeptNumber) → q k ≡ r (record { tuple = k.tuple; client = k.client }) =
    λ k. ap (λ (o : Option Opening). is_of_client o k.client) (sym (line_opening b.mine x.mine k.tuple h.mine_is)) in
    record {
      mine_is = h.mine_is;
      theirs_is = h.theirs_is;
      numbers_are = numbers_thin b.numbers x.numbers q r alike h.numbers_are;
      known = λ together. known_thin b.numbers x.unknown q r alike (h.known together);
      numbered = numbered_thin b.mine b.numbers q r alike
          (λ t o e. of_itself (current_at x.mine t) o (opening_is b.mine x.mine t h.mine_is ∙ e)) h.numbered;
      progress_is = h.progress_is;
      untrimmed = h.untrimmed;
      tooks_are = h.tooks_are;
      restarts_are = h.restarts_are;
      alone = h.alone;
    }

-- AN ACKNOWLEDGEMENT

pub acknowledges : Acknowledges
unfolding acknowledge
acknowledges b x h = record {
  mine_is = tracks_commit b.mine x.mine h.mine_is;
  theirs_is = λ _. tracks_commit b.mine x.mine h.mine_is;
  numbers_are = numbers_map b.numbers x.numbers all_known all_keys h.numbers_are;
  known = λ _. known_all b.numbers;
  numbered = silent b.mine (learn_all b.numbers) (commit ∷ []) refl
      (numbered_map b.mine b.numbers all_known all_keys h.numbered);
  progress_is = clear_alike b.progress x.progress h.progress_is;
  untrimmed = acknowledged_untrimmed x.mine x.progress h.untrimmed;
  tooks_are = h.tooks_are;
  restarts_are = h.restarts_are;
  alone = h.alone;
}

-- THE OTHER NODE STOPPED

pub remains_alone : RemainsAlone
remains_alone b x h = record {
  mine_is = h.mine_is;
  theirs_is = λ together. absurd (true≢false together);
  numbers_are = h.numbers_are;
  known = λ together. absurd (true≢false together);
  numbered = h.numbered;
  progress_is = h.progress_is;
  untrimmed = h.untrimmed;
  tooks_are = h.tooks_are;
  restarts_are = h.restarts_are;
  alone = refl;
}
