-- What the files of a replay hold.
use Rattle.std.proofs.Common.{◌≡◌, ℕ, List, [], ◌∷◌, ◌++◌, Some, codes, flat_map, map, refl, ap, ◌∙◌}
use Rattle.std.specs.List.{concat}
use Rattle.std.proofs.lemmas.List.{append-nil}
use Rattle.settle_rules.specs.Release.{Released, released_frame}
use Rattle.command_plans.specs.Replay.{replay_files, state_steps}
use Rattle.file_steps.specs.Steps as file
use Rattle.file_steps.specs.Steps.{Files, after_steps, creates}
use Rattle.replay_log.specs.Texts.{record_text}
use Rattle.sock_link.specs.Stream.{record_of, stream_of}
use Rattle.state_wire.specs.Guest.{GuestState}
use Rattle.pair_theorem.specs.LogParts.{delivered_bytes, files_of, frame_record, log_bytes, released_bytes, wire_bytes}
use Rattle.pair_theorem.specs.Past.{Start, Step}
use Rattle.plan_laws.proofs.FilesLemmas.{added_disk, added_event, added_other, added_ram, adds, none_event, none_of_each, none_state}
use Rattle.plan_laws.proofs.LeaveLemmas.{CreatesNone, after_creates, appended, appended_each, appended_then, none_each, none_then}
use Rattle.replay_plan.specs.LogPlan.{log_steps, survivor_of, writes_of}
use Rattle.replay_laws.specs.Files.{LogLeaves}

abbrev frames_of : Step → List ℕ
frames_of s = stream_of (map released_frame s.released)

of_step : (end : List ℕ) (s : Step) → appended end (writes_of s)
    ≡ adds end (codes ".log") (record_text s.entry)
    ++ (adds end (codes ".released") (frames_of s) ++ adds end (codes ".wire") (delivered_bytes s))
of_step end s = added_event end (record_text s.entry) (frames_of s) (delivered_bytes s)

-- ---- the texts of all steps

text_of : (steps : List Step) → flat_map (λ (s : Step). record_text s.entry) steps ≡ log_bytes steps
text_of [] = refl
text_of (s ∷ steps) = ap (λ (l : List ℕ). record_text s.entry ++ l) (text_of steps)

records_of : (rs : List Released) → stream_of (map released_frame rs) ≡ flat_map frame_record rs
unfolding record_of
records_of [] = refl
records_of (r ∷ rs) = ap (λ (l : List ℕ). frame_record r ++ l) (records_of rs)

all_records : (steps : List Step) → flat_map frames_of steps ≡ released_bytes steps
unfolding released_bytes
all_records [] = refl
all_records (s ∷ steps) = λ i. records_of s.released i ++ all_records steps i

-- ---- the files

module _ (files : Files) (a : Start) (steps : List Step) where
  abbrev happened : List file.Step
  happened = flat_map writes_of steps

  abbrev last : GuestState
  last = survivor_of a steps

  none_run : CreatesNone (happened ++ state_steps last)
  none_run =
      none_then happened (state_steps last)
      (none_each writes_of steps
      (λ (s : Step). none_event (record_text s.entry) (frames_of s) (delivered_bytes s)))
      (none_state last)

  -- a file of the log
  of_log : (end : List ℕ) (g : Step → List ℕ) → ((s : Step) → appended end (writes_of s) ≡ g s)
      → ((x : List ℕ) → adds end (codes ".ram") x ≡ []) → ((x : List ℕ) → adds end (codes ".disk") x ≡ [])
      → after_steps files (creates replay_files) end ≡ Some []
      → after_steps files (log_steps a steps) end ≡ Some (flat_map g steps)
  unfolding log_steps
  of_log end g each ram disk is =
      after_creates files (creates replay_files) (happened ++ state_steps last) end none_run is
      ∙ ap (λ (l : List ℕ). Some l)
      (appended_then end happened (state_steps last)
      ∙ (ap (λ (l : List ℕ). appended end happened ++ l) (added_other last end ram disk)
      ∙ (append-nil (appended end happened) ∙ appended_each end writes_of g steps each)))

  -- a file of the state
  of_state : (end bytes : List ℕ) → ((s : Step) → appended end (writes_of s) ≡ [])
      → appended end (state_steps last) ≡ bytes → after_steps files (creates replay_files) end ≡ Some []
      → after_steps files (log_steps a steps) end ≡ Some bytes
  unfolding log_steps
  of_state end bytes each state is =
      after_creates files (creates replay_files) (happened ++ state_steps last) end none_run is
      ∙ ap (λ (l : List ℕ). Some l)
      (appended_then end happened (state_steps last)
      ∙ (ap (λ (l : List ℕ). l ++ appended end (state_steps last))
      (appended_each end writes_of (λ s. []) steps each ∙ none_of_each steps)
      ∙ state))

pub log_leaves : LogLeaves
unfolding files_of wire_bytes
log_leaves files a steps = record {
  log = of_log files a steps (codes ".log") (λ s. record_text s.entry)
      (λ s. of_step (codes ".log") s ∙ append-nil (record_text s.entry)) (λ x. refl) (λ x. refl) refl
      ∙ ap (λ (l : List ℕ). Some l) (text_of steps);
  released = of_log files a steps (codes ".released") frames_of
      (λ s. of_step (codes ".released") s ∙ append-nil (frames_of s)) (λ x. refl) (λ x. refl) refl
      ∙ ap (λ (l : List ℕ). Some l) (all_records steps);
  wire = of_log files a steps (codes ".wire") delivered_bytes (λ s. of_step (codes ".wire") s)
      (λ x. refl) (λ x. refl) refl;
  ram = of_state files a steps (codes ".ram") (concat (last files a steps).pages) (λ s. of_step (codes ".ram") s)
      (added_ram (last files a steps)) refl;
  disk = of_state files a steps (codes ".disk") (concat (last files a steps).sectors)
      (λ s. of_step (codes ".disk") s) (added_disk (last files a steps)) refl;
}
