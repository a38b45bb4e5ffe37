-- The turns that are counted from a log's end are those of its single run.
use Rattle.std.proofs.Common.{◌≡◌, ℕ, ◌==◌, if◌then◌else◌, Bool, true, false, List, [], ◌∷◌, ◌++◌, Option, Some, None, append-nil, append_assoc, map, reverse, refl, sym, ap, ap₂, ◌∙◌}
use Rattle.std.proofs.lemmas.List.{map-append, reverse-append, reverse-reverse}
use Rattle.tcp_track.specs.declared.openings.Opening.{Opening}
use Rattle.replay_log.specs.declared.lines.Line.{Line}
use Rattle.replay_log.specs.declared.lines.Line.TheVariants as line
use Rattle.replay_log.specs.declared.records.Mark.{Mark}
use Rattle.replay_log.specs.declared.records.Mark.TheVariants.{Captured, Committed, Acknowledged}
use Rattle.replay_log.specs.declared.records.Record.{Record}
use Rattle.replay_log.specs.declared.turns.Turn.{Turn}
use Rattle.replay_log.specs.declared.turns.TurnFrame.{TurnFrame}
use Rattle.splice_run.specs.Backwards.{part_before, part_before_all, all_counted, counted_back}
use Rattle.splice_run.specs.Frames.{seen_in, frame_with, taken_frame, turn_with}
use Rattle.splice_run.specs.Single.{turns_by_primary, before_capture, spliced_turns, turns_by_marks, single_run}
use Rattle.splice_run.specs.Log.{has_primary_stop}
use Rattle.splice_run.specs.Tokens.{Taken, Token, by_primary, by_secondary, captures, commits, made_frame, turn_tokens, mark_tokens, record_tokens, tokens}
use Rattle.splice_run.specs.declared.parts.Part.{Part}
use Rattle.splice_run.specs.declared.parts.Part.TheVariants.{AfterCommit, Between, BeforeCapture}
use Rattle.splice_run.proofs.MarkLemmas.{one_more, none_more}

-- the turns that count of tokens read from the end
abbrev turns_back : Part → List Token → List Taken
turns_back AfterCommit back = spliced_turns back
turns_back (Between e) back = turns_by_primary (reverse (before_capture e back))
turns_back BeforeCapture back = turns_by_primary (reverse back)

at_capture : (b : Bool) (n : ℕ) (back : List Token) →
    turns_by_primary (reverse (if b then back else before_capture n back))
    ≡ turns_back (if b then BeforeCapture else Between n) back
at_capture true n back = refl
at_capture false n back = refl

mark_back : (part : Part) (mark : Mark) (back : List Token) →
    turns_back part (mark_tokens (mark ∷ []) ++ back) ≡ turns_back (part_before part mark) back
mark_back AfterCommit (Captured e why) back = refl
mark_back (Between n) (Captured e why) back = at_capture (e == n) n back
mark_back BeforeCapture (Captured e why) back = sym (none_more (captures e) back refl)
mark_back AfterCommit (Committed e) back = refl
mark_back (Between n) (Committed e) back = refl
mark_back BeforeCapture (Committed e) back = sym (none_more (commits e) back refl)
mark_back part (Acknowledged e) back = refl

marks_cons : (mark : Mark) (marks : List Mark) → mark_tokens (mark ∷ marks)
    ≡ mark_tokens (mark ∷ []) ++ mark_tokens marks
marks_cons (Captured e why) marks = refl
marks_cons (Committed e) marks = refl
marks_cons (Acknowledged e) marks = refl

mark_reverse : (mark : Mark) → reverse (mark_tokens (mark ∷ [])) ≡ mark_tokens (mark ∷ [])
mark_reverse (Captured e why) = refl
mark_reverse (Committed e) = refl
mark_reverse (Acknowledged e) = refl

reverse_marks : (mark : Mark) (marks : List Mark) → reverse (mark_tokens (mark ∷ marks))
    ≡ reverse (mark_tokens marks) ++ mark_tokens (mark ∷ [])
reverse_marks mark marks =
    ap (λ (ts : List Token). reverse ts) (marks_cons mark marks)
    ∙ (reverse-append (mark_tokens (mark ∷ [])) (mark_tokens marks)
    ∙ ap (λ (ts : List Token). reverse (mark_tokens marks) ++ ts) (mark_reverse mark))

marks_back : (part : Part) (marks : List Mark) (back : List Token) →
    turns_back part (reverse (mark_tokens marks) ++ back) ≡ turns_back (part_before_all part marks) back
marks_back part [] back = refl
marks_back part (mark ∷ marks) back =
    ap (λ (ts : List Token). turns_back part ts)
    (ap (λ (ts : List Token). ts ++ back) (reverse_marks mark marks)
    ∙ append_assoc (reverse (mark_tokens marks)) (mark_tokens (mark ∷ [])) back)
    ∙ (marks_back part marks (mark_tokens (mark ∷ []) ++ back) ∙ mark_back (part_before_all part marks) mark back)

primary_back : (part : Part) (t : Taken) (back : List Token) →
    turns_back part (by_primary t ∷ back) ≡ turns_back part back ++ all_counted part (by_primary t ∷ [])
primary_back AfterCommit t back = sym (append-nil (spliced_turns back))
primary_back (Between e) t back = sym (append-nil (turns_by_primary (reverse (before_capture e back))))
primary_back BeforeCapture t back = sym (one_more (by_primary t) back)

secondary_back : (part : Part) (t : Taken) (back : List Token) →
    turns_back part (by_secondary t ∷ back) ≡ turns_back part back ++ all_counted part (by_secondary t ∷ [])
secondary_back AfterCommit t back = refl
secondary_back (Between e) t back = sym (append-nil (turns_by_primary (reverse (before_capture e back))))
secondary_back BeforeCapture t back =
    sym (append-nil (turns_by_primary (reverse back)) ∙ none_more (by_secondary t) back refl)

nothing_back : (part : Part) (back : List Token) → turns_back part back ≡ turns_back part back ++ []
nothing_back part back = sym (append-nil (turns_back part back))

turn_back : (l : Line) (made : Option (Option ℕ)) (part : Part)
    (back : List Token) →
    turns_back part (turn_tokens l made ++ back) ≡ turns_back part back
    ++ all_counted part (turn_tokens l made)
turn_back (line.Primary d i b n) None part back = nothing_back part back
turn_back (line.Primary d i b n) (Some taken) part back = primary_back part _ back
turn_back (line.Secondary d i b n) None part back = nothing_back part back
turn_back (line.Secondary d i b n) (Some taken) part back = secondary_back part _ back
turn_back line.Client made part back = nothing_back part back
turn_back line.ToSecondary made part back = nothing_back part back
turn_back line.ToPrimary made part back = nothing_back part back
turn_back line.StopPrimary made part back = nothing_back part back
turn_back line.StopSecondary made part back = nothing_back part back
turn_back line.Report made part back = nothing_back part back
turn_back line.Ask made part back = nothing_back part back

turn_reverse : (l : Line) (made : Option (Option ℕ)) →
    reverse (turn_tokens l made) ≡ turn_tokens l made
turn_reverse (line.Primary d i b n) None = refl
turn_reverse (line.Primary d i b n) (Some taken) = refl
turn_reverse (line.Secondary d i b n) None = refl
turn_reverse (line.Secondary d i b n) (Some taken) = refl
turn_reverse line.Client made = refl
turn_reverse line.ToSecondary made = refl
turn_reverse line.ToPrimary made = refl
turn_reverse line.StopPrimary made = refl
turn_reverse line.StopSecondary made = refl
turn_reverse line.Report made = refl
turn_reverse line.Ask made = refl

-- the tokens of a log that is read from its end
abbrev turn_of : Record → List Token
turn_of r = turn_tokens r.line (made_frame r.answer)

abbrev tokens_back : List Record → List Token
tokens_back [] = []
tokens_back (r ∷ back) = reverse (mark_tokens r.marks) ++ (turn_of r ++ tokens_back back)

none_back : (part : Part) → [] ≡ turns_back part []
none_back AfterCommit = refl
none_back (Between e) = refl
none_back BeforeCapture = refl

counted_is : (seen : ℕ → Option (Option Opening)) (part : Part) (back : List Record) →
    counted_back seen part back ≡ map (turn_with seen) (turns_back part (tokens_back back))
counted_is seen part [] = ap (λ (ts : List Taken). map (turn_with seen) ts) (none_back part)
counted_is seen part (r ∷ back) =
    let here = part_before_all part r.marks in
    let turns : List Taken → List Turn = λ ts. map (turn_with seen) ts in
    ap (λ (ts : List Turn). ts ++ turns (all_counted here (turn_of r))) (counted_is seen here back)
    ∙ (sym (map-append (turn_with seen) (turns_back here (tokens_back back)) (all_counted here (turn_of r)))
    ∙ ap turns (sym (turn_back r.line (made_frame r.answer) here (tokens_back back))
    ∙ sym (marks_back part r.marks (turn_of r ++ tokens_back back))))

tokens_append : (xs : List Record) (r : Record) →
    tokens_back (xs ++ r ∷ []) ≡ tokens_back xs ++ (reverse (mark_tokens r.marks) ++ (turn_of r ++ []))
tokens_append [] r = refl
tokens_append (x ∷ xs) r =
    let last = reverse (mark_tokens r.marks) ++ (turn_of r ++ []) in
    ap (λ (ts : List Token). reverse (mark_tokens x.marks) ++ (turn_of x ++ ts)) (tokens_append xs r)
    ∙ (ap (λ (ts : List Token). reverse (mark_tokens x.marks)
    ++ ts) (sym (append_assoc (turn_of x) (tokens_back xs) last))
    ∙ sym (append_assoc (reverse (mark_tokens x.marks)) (turn_of x ++ tokens_back xs) last))

reverse_in : (r : Record) →
    reverse (record_tokens r) ≡ reverse (mark_tokens r.marks) ++ (turn_of r ++ [])
reverse_in r =
    reverse-append (turn_of r) (mark_tokens r.marks)
    ∙ ap (λ (ts : List Token). reverse (mark_tokens r.marks)
    ++ ts) (turn_reverse r.line (made_frame r.answer) ∙ sym (append-nil (turn_of r)))

tokens_reverse : (log : List Record) →
    tokens_back (reverse log) ≡ reverse (tokens log)
tokens_reverse [] = refl
tokens_reverse (r ∷ log) =
    ap (λ (rs : List Record). tokens_back rs) (reverse-append (r ∷ []) log)
    ∙ (tokens_append (reverse log) r
    ∙ (ap₂ (λ (x y : List Token). x ++ y) (tokens_reverse log) (sym (reverse_in r))
    ∙ sym (reverse-append (record_tokens r) (tokens log))))

-- ---- the map of openings stands for the log's

same_frame : (f g : ℕ → Option (Option Opening)) → ((index : ℕ) → f index ≡ g index) → (taken : Option ℕ) →
    taken_frame f taken ≡ taken_frame g taken
same_frame f g same None = refl
same_frame f g same (Some index) = ap (λ (o : Option (Option Opening)). frame_with index o) (same index)

-- a turn with another frame
abbrev framed : Taken → TurnFrame → Turn
framed t x = record { d = t.clock; frame = x; b = t.blocks; n = t.steps }

same_turns : (f g : ℕ → Option (Option Opening)) → ((index : ℕ) → f index ≡ g index) → (turns : List Taken) →
    map (turn_with f) turns ≡ map (turn_with g) turns
same_turns f g same [] = refl
same_turns f g same (t ∷ turns) =
    ap₂ (λ (x : TurnFrame) (ts : List Turn). framed t x ∷ ts)
    (same_frame f g same t.index) (same_turns f g same turns)

-- which turns count at a log's end
abbrev pub last_part : Bool → Part
last_part stops = if stops then AfterCommit else BeforeCapture

by_stop : (stops : Bool) (ts : List Token) →
    turns_back (last_part stops) (reverse ts) ≡ (if stops then spliced_turns (reverse ts) else turns_by_primary ts)
by_stop true ts = refl
by_stop false ts = ap (λ (ts : List Token). turns_by_primary ts) (reverse-reverse ts)

back_is : (log : List Record) →
    turns_back (last_part (has_primary_stop log)) (tokens_back (reverse log)) ≡ turns_by_marks log
unfolding turns_by_marks
back_is log =
    ap (λ (ts : List Token). turns_back (last_part (has_primary_stop log)) ts) (tokens_reverse log)
    ∙ by_stop (has_primary_stop log) (tokens log)

pub all_counted_back : (seen : ℕ → Option (Option Opening)) (log : List Record) → ((index : ℕ) →
    seen index ≡ seen_in log index) →
    counted_back seen (last_part (has_primary_stop log)) (reverse log) ≡ single_run log
unfolding single_run
all_counted_back seen log same =
    counted_is seen (last_part (has_primary_stop log)) (reverse log)
    ∙ (ap (λ (ts : List Taken). map (turn_with seen) ts) (back_is log)
    ∙ same_turns seen (seen_in log) same (turns_by_marks log))
