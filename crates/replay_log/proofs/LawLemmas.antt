-- What is read of a good text is the one list that it is spelled of.
use Rattle.std.proofs.Common.{◌≡◌, ℕ, true, List, [], ◌∷◌, ◌++◌, Option, Some, None, map, refl, sym, ap, subst, ◌∙◌}
use Rattle.std.specs.List.{filter_map}
use Rattle.replay_log.specs.Cases.{BadLine, first_bad, IsFault}
use Rattle.replay_log.specs.Forms.{schedule_forms, log_forms, single_forms}
use Rattle.replay_log.specs.Gathering.{line_in, turn_in}
use Rattle.replay_log.specs.Texts.{IsText, IsSchedule, IsLog, IsSingle, log_items}
use Rattle.replay_log.specs.declared.causes.LineFault.{LineFault}
use Rattle.replay_log.specs.declared.causes.LineFault.TheVariants as fault
use Rattle.replay_log.specs.declared.forms.Form.{Form}
use Rattle.replay_log.specs.declared.items.Item.{Item}
use Rattle.replay_log.specs.declared.items.Item.TheVariants as item
use Rattle.replay_log.specs.declared.lines.Line.{Line}
use Rattle.replay_log.specs.declared.records.Mark.{Mark}
use Rattle.replay_log.specs.declared.records.Record.{Record}
use Rattle.replay_log.specs.declared.turns.Turn.{Turn}
use Rattle.replay_log.proofs.ApartLemmas.{all_apart, schedule_apart, log_apart, single_apart}
use Rattle.replay_log.proofs.GatheringLemmas.{log_none, log_cons}
use Rattle.replay_log.proofs.TextLemmas.{none_bad, unique}

-- a good text has no fault but out of memory
no_fault : (forms : List Form) (items : List Item) (text : List ℕ) (e : LineFault) → IsText forms items text →
    IsFault e (first_bad forms text) → e ≡ fault.NoMemory
no_fault forms items text fault.NoMemory t h = refl
no_fault forms items text (fault.Bad line why) t h = absurd (none_some (record { line = line; why = why }) (sym
    (none_bad forms items text t) ∙ h))
  where
    none_some : (b : BadLine) → None ≡ Some b → ⊥
    none_some b e = cc

-- nor by the forms that were given
pub no_fault_given : (forms given : List Form) (items : List Item) (text : List ℕ) (e : LineFault) → given ≡ forms →
    IsText forms items text → IsFault e (first_bad given text) → e ≡ fault.NoMemory
no_fault_given forms given items text e is t h =
    no_fault forms items text e t (subst (λ (fs : List Form). IsFault e (first_bad fs text)) is h)

-- a text of one kind is that of one list
one_kind : {X : Type 0} (forms : List Form) (inject : X → Item) (pick : Item → Option X) (text : List ℕ)
    (xs ys : List X) → ((zs : List X) → filter_map pick (map inject zs) ≡ zs) → all_apart forms ≡ true →
    IsText forms (map inject xs) text → IsText forms (map inject ys) text → xs ≡ ys
one_kind forms inject pick text xs ys back apart x y =
    sym (back xs) ∙ (ap (filter_map pick) (unique forms (map inject xs) (map inject ys) text apart x y) ∙ back ys)

lines_back : (lines : List Line) → filter_map line_in (map item.Line lines) ≡ lines
lines_back [] = refl
lines_back (l ∷ lines) = ap (λ ls. l ∷ ls) (lines_back lines)

pub one_schedule : (text : List ℕ) (xs ys : List Line) → IsSchedule xs text → IsSchedule ys text → xs ≡ ys
one_schedule text xs ys x y = one_kind schedule_forms item.Line line_in text xs ys lines_back schedule_apart x y

turns_back : (turns : List Turn) → filter_map turn_in (map item.Turn turns) ≡ turns
turns_back [] = refl
turns_back (t ∷ turns) = ap (λ ts. t ∷ ts) (turns_back turns)

pub one_single : (text : List ℕ) (xs ys : List Turn) → IsSingle xs text → IsSingle ys text → xs ≡ ys
one_single text xs ys x y = one_kind single_forms item.Turn turn_in text xs ys turns_back single_apart x y

-- the marks before the first event, and the events
record Gathered : Type 0 where
  marks : List Mark
  records : List Record

abbrev gathered : List Item → Gathered
gathered [] = record { marks = []; records = [] }
gathered (item.Line l ∷ items) = gathered items
gathered (item.Event l a ∷ items) = record {
  marks = [];
  records = record {
    line = l;
    answer = a;
    marks =
        (gathered items).marks;
  } ∷ (gathered items).records;
}
gathered (item.Mark m ∷ items) = record { marks = m ∷ (gathered items).marks; records = (gathered items).records }
gathered (item.Turn t ∷ items) = gathered items

marks_back : (marks : List Mark) (items : List Item) → (gathered items).marks ≡ [] →
    gathered (map item.Mark marks ++ items) ≡ record { marks = marks; records = (gathered items).records }
marks_back [] items none = ap (λ ms. record { marks = ms; records = (gathered items).records }) none
marks_back (m ∷ marks) items none = ap (λ (g : Gathered). record {
  marks = m
      ∷ g.marks;
  records = g.records;
}) (marks_back marks items none)

records_back : (records : List Record) → gathered (log_items records) ≡ record { marks = []; records = records }
records_back [] = ap gathered log_none
records_back (r ∷ records) =
    let later = records_back records in
    let marks = marks_back r.marks (log_items records) (ap (λ (g : Gathered). g.marks) later) in
    ap gathered (log_cons r records)
    ∙ (ap (λ (g : Gathered). record {
      marks = [];
      records = record {
        line = r.line;
        answer = r.answer;
        marks = g.marks;
      } ∷ g.records;
    }) marks
    ∙ ap (λ (rs : List Record). record { marks = []; records = r ∷ rs }) (ap (λ (g : Gathered). g.records) later))

pub one_log : (text : List ℕ) (xs ys : List Record) → IsLog xs text → IsLog ys text → xs ≡ ys
one_log text xs ys x y =
    ap (λ (g : Gathered). g.records)
    (sym (records_back xs) ∙ (ap gathered (unique log_forms (log_items xs) (log_items ys) text log_apart x y) ∙
    records_back ys))
