-- A whole round, and all rounds.
use Rattle.std.proofs.Common.{◌≡◌, ℕ, ◌==◌, suc, Bool, true, false, if◌then◌else◌, List, [], ◌∷◌, ◌++◌, length, refl, sym, ap, ◌∙◌, subst, IfErr, IfOk, Result, Ok, Err, String, string_bytes, arith}
use Rattle.std.proofs.lemmas.Bool.{ne_eqb}
use Rattle.colo_base.specs.Link.{Arrival, ended}
use Rattle.colo_words.specs.declared.options.Options.{Options}
use Rattle.state_wire.specs.Guest.{Meaning}
use Rattle.file_steps.specs.Plans.{done, refused}
use Rattle.file_steps.specs.Status.{refusal_of}
use Rattle.colo_base.specs.declared.traits.Heard.{Heard}
use Rattle.file_steps.specs.Steps.{Done, Fails, Outside, arrival_of, came, connect, creates, hear, nothing, read_clock, ticked}
use Rattle.file_steps.specs.declared.fault.Fault.{Fault}
use Rattle.file_steps.specs.declared.fault.Fault.TheVariants.{Usage, Refused, Read, Write, NoMemory}
use Rattle.file_steps.proofs.PartLemmas.{done_none, done_then, fails_front, fails_then}
use Rattle.command_inputs.specs.Reading.{client_refusal}
use Rattle.sock_link.specs.Stream.{is_too_long}
use Rattle.sock_link.specs.Unframed.{Stands, Unframed, nothing_fed}
use Rattle.sock_link.proofs.HistoryLemmas.{begins_stream}
use Rattle.command_plans.specs.Replay.{replay_files}
use Rattle.std.specs.declared.alloc.Global.{Global}
use Rattle.command_inputs.specs.Client.{frames_of}
use Rattle.command_plans.specs.Steps.{IsCounted}
use Rattle.command_plans.specs.declared.replay.Counts.{Counts}
use Rattle.pair_core.specs.Pair.{Held, Pair, pair_of}
use Rattle.serve_rounds.specs.Work.{EndsWith, IsStopped, Reaches, Work, does, hears, reads}
use Rattle.serve_rounds.specs.Rounds.{Serving, by_arrival, finishes, refuses, rest_of, round, rounds, serve, start, stops}
use Rattle.serve_rounds.specs.Serving.{Closed, Halts, Holds, IsDone, IsRefusedAt, KeepsServer, Moment, Went, moment}
use Rattle.serve_rounds.specs.declared.server.Server.{Server}
use Rattle.serve_rounds.proofs.HearLemmas.{place_then, whole_now}
use Rattle.serve_rounds.proofs.RoundLemmas.{Part}
use Rattle.serve_rounds.proofs.WorkLemmas.{does_fails, does_reaches, ends_then, hears_fails, hears_reaches, reaches_then, reads_reaches, stops_then}

-- one receive, and what follows it
abbrev pub hearing : Options → Part
hearing o next s = hears 65536 (λ a. by_arrival o a next s)

pub round_is : (o : Options) (next : Serving → Work) (s : Serving) → round o next s ≡ stops o (hearing o next) s
unfolding round
round_is o next s = refl

-- a receive into a room of so many bytes
pub heard_done : (out into : List ℕ) (h : Heard) (x : Arrival) (a b : Outside) → arrival_of into h ≡ x
    → length into ≡ 65536 → Done out (hear (length into) ∷ []) (came (arrival_of into h)) a b
    → Done out (hear 65536 ∷ []) (came x) a b
heard_done out into h x a b is size d =
    subst (λ (y : Arrival). Done out (hear 65536 ∷ []) (came y) a b) is
    (subst (λ (n : ℕ). Done out (hear n ∷ []) (came (arrival_of into h)) a b) size d)

pub heard_fails : (out into : List ℕ) (a b : Outside) (fault : Fault) → length into ≡ 65536
    → Fails out (hear (length into) ∷ []) nothing a b fault → Fails out (hear 65536 ∷ []) nothing a b fault
heard_fails out into a b fault size f = subst (λ (n : ℕ). Fails out (hear n ∷ []) nothing a b fault) size f

module _ {G : Type 0} (meaning : G → Meaning) (out : List ℕ) where
  -- a server of which what isn't held changed
  pub held_same : (server now : Server) (h : Held G) (s : Serving) → now.counts ≡ server.counts
      → KeepsServer server now → Holds meaning server h s → Holds meaning now h s
  held_same server now h s counts keeps held = record {
    pair = held.pair;
    counts = subst (λ c. IsCounted s.made c) (sym counts) held.counts;
    steps = ap (λ (c : Counts). c.lines) counts ∙ held.steps;
    round = keeps.round ∙ held.round;
    stands = subst (λ (u : Unframed). Stands u s.heard (frames_of s.heard)) (sym keeps.unframer) held.stands;
    taken = ap (λ (u : Unframed). u.frames) keeps.unframer ∙ held.taken;
    short = ap (λ (u : Unframed). is_too_long u.part) keeps.unframer ∙ held.short;
    first_tick = keeps.first_tick ∙ held.first_tick;
    second_tick = keeps.second_tick ∙ held.second_tick;
  }

  -- ---- the receive

  module _ (o : Options) (server now : Server) (h : Held G) (counts : now.counts ≡ server.counts)
      (keeps : KeepsServer server now) (a b : Outside) where
    pub hear_went : (x : Arrival) (later : Moment G) → Done out (hear 65536 ∷ []) (came x) a b
        → Went meaning out (by_arrival o x) (moment now h b) later
        → Went meaning out (hearing o) (moment server h a) later
    hear_went x later heard went s held =
        let g = went s (held_same server now h s counts keeps held) in
        record {
          now = g.now;
          holds = g.holds;
          reaches = λ next. reaches_then out (hearing o next s) (by_arrival o x next s) (next g.now) a b later.around
              (hears_reaches out 65536 (λ y. by_arrival o y next s) x a b heard) (g.reaches next);
        }

    pub hear_halts : (x : Arrival) (c : Outside) (fault : Fault) → Done out (hear 65536 ∷ []) (came x) a b
        → Halts meaning out (by_arrival o x) (moment now h b) c fault
        → Halts meaning out (hearing o) (moment server h a) c fault
    hear_halts x c fault heard halts s next held =
        stops_then out (hearing o next s) (by_arrival o x next s) a b c fault
        (hears_reaches out 65536 (λ y. by_arrival o y next s) x a b heard)
        (halts s next (held_same server now h s counts keeps held))

    -- the stream ended with a whole record
    pub hear_closed : Done out (hear 65536 ∷ []) (came ended) a b → now.unframer.part ≡ []
        → Closed meaning out (hearing o) (moment server h a) (moment now h b)
    hear_closed heard whole s held =
        let mine = held_same server now h s counts keeps held in
        let none : (length (rest_of s.heard) == 0) ≡ true =
        whole_now now.unframer s.heard mine.stands ∙ ap (λ p. length p == 0) whole in
        record {
          now = s;
          holds = mine;
          reaches = λ next. subst (λ (w : Work). Reaches out (hearing o next s) w a b)
              (ap (λ (t : Bool). if t then finishes s else refuses s) none)
              (hears_reaches out 65536 (λ y. by_arrival o y next s) ended a b heard);
        }

    -- or within one
    pub hear_broken : (fault : Fault) → Done out (hear 65536 ∷ []) (came ended) a b → (now.unframer.part ≡ [] → ⊥)
        → IsRefusedAt now.unframer.place fault → Halts meaning out (hearing o) (moment server h a) b fault
    hear_broken (Refused r) heard some refusal s next held =
        let mine = held_same server now h s counts keeps held in
        let other : (length (rest_of s.heard) == 0) ≡ false =
        whole_now now.unframer s.heard mine.stands ∙ not_empty now.unframer.part some in
        let there = place_then now.unframer s.heard mine.stands in
        let bare : EndsWith out (refuses s) (refused (refusal_of r)) b b = record {
          said = nothing;
          ends = ap (λ x. refused (client_refusal x)) there ∙ ap refused (sym refusal.0);
          done = done_none out b;
        } in
        stops_then out (hearing o next s) (by_arrival o ended next s) a b b (Refused r)
        (hears_reaches out 65536 (λ y. by_arrival o y next s) ended a b heard) (
          refusal.1,
          subst (λ (w : Work). EndsWith out w (refused (refusal_of r)) b b)
              (sym (ap (λ (t : Bool). if t then finishes s else refuses s) other)) bare,
        )
      where
        not_empty : (xs : List ℕ) → (xs ≡ [] → ⊥) → (length xs == 0) ≡ false
        not_empty [] f = absurd (f refl)
        not_empty (x ∷ xs) f = ne_eqb (length (x ∷ xs)) 0 (λ e. omega (arith, e))
    hear_broken Usage heard some none s next held = absurd none
    hear_broken Read heard some none s next held = absurd none
    hear_broken Write heard some none s next held = absurd none
    hear_broken NoMemory heard some none s next held = absurd none

  pub hear_fails : (o : Options) (server : Server) (h : Held G) (a b : Outside) (fault : Fault)
      → Fails out (hear 65536 ∷ []) nothing a b fault → Halts meaning out (hearing o) (moment server h a) b fault
  hear_fails o server h a b fault f s next held =
      hears_fails out 65536 (λ y. by_arrival o y next s) a b fault f

  -- ---- the stop, and then the receive

  pub round_went : (o : Options) (a b c : Moment G) → Went meaning out (stops o) a b → Went meaning out (hearing o) b c
      → Went meaning out (round o) a c
  round_went o a b c first second s held =
      let f = first s held in
      let g = second f.now f.holds in
      record {
        now = g.now;
        holds = g.holds;
        reaches = λ next. subst (λ (w : Work). Reaches out w (next g.now) a.around c.around) (sym (round_is o next s))
            (reaches_then out (stops o (hearing o next) s) (hearing o next f.now) (next g.now) a.around b.around
            c.around (f.reaches (hearing o next)) (g.reaches next));
      }

  pub round_closed : (o : Options) (a b c : Moment G) → Went meaning out (stops o) a b
      → Closed meaning out (hearing o) b c → Closed meaning out (round o) a c
  round_closed o a b c first second s held =
      let f = first s held in
      let g = second f.now f.holds in
      record {
        now = g.now;
        holds = g.holds;
        reaches = λ next. subst (λ (w : Work). Reaches out w (finishes g.now) a.around c.around)
            (sym (round_is o next s)) (reaches_then out (stops o (hearing o next) s) (hearing o next f.now)
            (finishes g.now) a.around b.around c.around (f.reaches (hearing o next)) (g.reaches next));
      }

  pub round_front : (o : Options) (a : Moment G) (c : Outside) (fault : Fault) → Halts meaning out (stops o) a c fault
      → Halts meaning out (round o) a c fault
  round_front o a c fault halts s next held =
      subst (λ (w : Work). IsStopped out w a.around c fault) (sym (round_is o next s)) (halts s (hearing o next) held)

  pub round_halts : (o : Options) (a b : Moment G) (c : Outside) (fault : Fault) → Went meaning out (stops o) a b
      → Halts meaning out (hearing o) b c fault → Halts meaning out (round o) a c fault
  round_halts o a b c fault first halts s next held =
      let f = first s held in
      subst (λ (w : Work). IsStopped out w a.around c fault) (sym (round_is o next s))
      (stops_then out (stops o (hearing o next) s) (hearing o next f.now) a.around b.around c fault
      (f.reaches (hearing o next)) (halts f.now next f.holds))

  -- ---- all rounds

  -- what is left of them after some
  pub record SoFar (o : Options) (left : ℕ) (work : Work) (start : Outside) (m : Moment G) : Type 0 where
    pub now : Serving
    pub holds : Holds meaning m.server m.held now
    pub reaches : Reaches out work (rounds o left now) start m.around

rounds_more : (o : Options) (left n : ℕ) (s : Serving) → n ≡ suc left → rounds o n s ≡ round o (rounds o left) s
unfolding rounds
rounds_more o left n s is = ap (λ k. rounds o k s) is

pub rounds_none : (o : Options) (n : ℕ) (s : Serving) → n ≡ 0 → rounds o n s ≡ finishes s
unfolding rounds
rounds_none o n s is = ap (λ k. rounds o k s) is

-- one round more
module _ {G : Type 0} (meaning : G → Meaning) (out : List ℕ) (o : Options) (n left : ℕ) (is : n ≡ suc left)
    (work : Work) (start : Outside) (m : Moment G) (so_far : SoFar meaning out o n work start m) where
  pub goes_more : (later : Moment G) → Went meaning out (round o) m later → SoFar meaning out o left work start later
  goes_more later went =
      let g = went so_far.now so_far.holds in
      record {
        now = g.now;
        holds = g.holds;
        reaches = reaches_then out work (rounds o n so_far.now) (rounds o left g.now) start m.around later.around
            so_far.reaches
            (subst (λ (w : Work). Reaches out w (rounds o left g.now) m.around later.around)
            (sym (rounds_more o left n so_far.now is)) (g.reaches (rounds o left)));
      }

  pub ends_more : (later : Moment G) → Closed meaning out (round o) m later → IsDone meaning out work start later
  ends_more later closed =
      let g = closed so_far.now so_far.holds in
      record {
        now = g.now;
        holds = g.holds;
        reaches = reaches_then out work (rounds o n so_far.now) (finishes g.now) start m.around later.around
            so_far.reaches
            (subst (λ (w : Work). Reaches out w (finishes g.now) m.around later.around)
            (sym (rounds_more o left n so_far.now is)) (g.reaches (rounds o left)));
      }

  pub stops_more : (c : Outside) (fault : Fault) → Halts meaning out (round o) m c fault
      → IsStopped out work start c fault
  stops_more c fault halts =
      stops_then out work (rounds o n so_far.now) start m.around c fault so_far.reaches
      (subst (λ (w : Work). IsStopped out w m.around c fault) (sym (rounds_more o left n so_far.now is))
      (halts so_far.now (rounds o left) so_far.holds))

-- the last round was made
pub all_done : {G : Type 0} (meaning : G → Meaning) (out : List ℕ) (o : Options) (n : ℕ) (work : Work)
    (start : Outside) (m : Moment G) → n ≡ 0 → SoFar meaning out o n work start m → IsDone meaning out work start m
all_done meaning out o n work start m is so_far = record {
  now = so_far.now;
  holds = so_far.holds;
  reaches = subst (λ (w : Work). Reaches out work w start m.around) (rounds_none o n so_far.now is) so_far.reaches;
}

-- ---- a whole run

module _ (o : Options) (w : Pair) (address out : List ℕ) (a b : Outside) where
  pub create_stops : (fault : Fault) → Fails out (creates replay_files) nothing a b fault
      → IsStopped out (serve o w address) a b fault
  unfolding serve
  create_stops fault f =
      does_fails out (creates replay_files ++ connect address ∷ []) (reads (λ t. rounds o o.rounds (start o w t))) a b
      fault (fails_front out (creates replay_files) (connect address ∷ []) nothing a b fault f)

  pub connect_stops : (c : Outside) (fault : Fault) → Done out (creates replay_files) nothing a b
      → Fails out (connect address ∷ []) nothing b c fault → IsStopped out (serve o w address) a c fault
  unfolding serve
  connect_stops c fault first f =
      does_fails out (creates replay_files ++ connect address ∷ []) (reads (λ t. rounds o o.rounds (start o w t))) a c
      fault (fails_then out (creates replay_files) (connect address ∷ []) nothing nothing a b c fault first f)

  pub serve_reaches : (c d : Outside) (t : ℕ) → Done out (creates replay_files) nothing a b
      → Done out (connect address ∷ []) nothing b c → Done out (read_clock ∷ []) (ticked t) c d
      → Reaches out (serve o w address) (rounds o o.rounds (start o w t)) a d
  unfolding serve
  serve_reaches c d t first second read =
      let work : ℕ → Work = λ x. rounds o o.rounds (start o w x) in
      reaches_then out (does (creates replay_files ++ connect address ∷ []) (reads work)) (reads work) (work t) a c d
      (does_reaches out (creates replay_files ++ connect address ∷ []) (reads work) a c
      (done_then out (creates replay_files) (connect address ∷ []) nothing nothing a b c first second))
      (reads_reaches out work t c d read)

-- nothing is no frame
no_frames : frames_of [] ≡ []
unfolding frames_of
no_frames = refl

-- what a run holds at its start
pub starts : {G : Type 0} (meaning : G → Meaning) (o : Options) (server : Server) (h : Held G) (t : ℕ)
    → IsCounted [] server.counts → server.counts.lines ≡ 0 → h.steps ≡ 0 → server.unframer ≡ nothing_fed
    → server.round ≡ 1 → server.first_tick ≡ t → server.second_tick ≡ t
    → Holds meaning server h (start o (pair_of meaning h) t)
starts meaning o server h t counts lines steps unframer round first second =
    record {
      pair = refl;
      counts = counts;
      steps = lines ∙ sym steps;
      round = round;
      stands = subst (λ (fs : List (List ℕ)). Stands server.unframer [] fs) (sym no_frames)
          (subst (λ (u : Unframed). Stands u [] []) (sym unframer) begins_stream);
      taken = ap (λ (u : Unframed). u.frames) unframer;
      short = ap (λ (u : Unframed). is_too_long u.part) unframer;
      first_tick = first;
      second_tick = second;
    }

-- the last call, whose answer is the whole's
pub ok_last : (r : Result (String Global) Fault) (out : List ℕ) (w v : Work) (a b c : Outside) → Reaches out w v a b
    → IfOk r (λ line. EndsWith out v (done (string_bytes line)) b c)
    → IfOk r (λ line. EndsWith out w (done (string_bytes line)) a c)
ok_last (Ok line) out w v a b c first ends = ends_then out w v (done (string_bytes line)) a b c first ends
ok_last (Err fault) out w v a b c first ends = tt

pub err_last : (r : Result (String Global) Fault) (out : List ℕ) (w v : Work) (a b c : Outside) → Reaches out w v a b
    → IfErr r (IsStopped out v b c) → IfErr r (IsStopped out w a c)
err_last (Ok line) out w v a b c first stops = tt
err_last (Err fault) out w v a b c first stops = stops_then out w v a b c fault first stops
