-- What the files of a run hold.
use Rattle.std.proofs.Common.{◌≡◌, ℕ, List, [], ◌∷◌, ◌++◌, Some, codes, flat_map, refl, sym, ap, ◌∙◌, if◌then◌else◌}
use Rattle.std.specs.List.{concat}
use Rattle.std.specs.Str.{bytes_eq}
use Rattle.std.proofs.lemmas.List.{append-nil}
use Rattle.std.proofs.lemmas.List.Concat.{concat_is}
use Rattle.command_plans.specs.Replay.{page_steps, sector_steps, state_steps}
use Rattle.command_plans.specs.Solo.{left_steps, solo_files}
use Rattle.file_steps.specs.Events.{event_steps}
use Rattle.file_steps.specs.Steps.{Files, Step, after_steps, append_step, creates}
use Rattle.sock_link.specs.Stream.{stream_of}
use Rattle.state_wire.specs.Guest.{GuestState}
use Rattle.state_wire.specs.Run.{Run}
use Rattle.plan_laws.specs.Files.{OneFileLeaves, SoloLeaves}
use Rattle.plan_laws.proofs.LeaveLemmas.{CreatesNone, after_creates, appended, appended_each, appended_one, appended_then, none_append, none_each, none_then}

-- ---- none of them creates a file

pub none_event : (log released wire : List ℕ) → CreatesNone (event_steps log released wire)
none_event log released wire =
    none_then (append_step (codes ".log") log)
    (append_step (codes ".released") released ++ append_step (codes ".wire") wire)
    (none_append (codes ".log") log)
    (none_then (append_step (codes ".released") released) (append_step (codes ".wire") wire)
    (none_append (codes ".released") released) (none_append (codes ".wire") wire))

pub none_state : (s : GuestState) → CreatesNone (state_steps s)
none_state s =
    none_then (page_steps s.pages) (sector_steps s.sectors)
    (none_each (append_step (codes ".ram")) s.pages (none_append (codes ".ram")))
    (none_each (append_step (codes ".disk")) s.sectors (none_append (codes ".disk")))

-- ---- what is appended to a file

abbrev pub adds : List ℕ → List ℕ → List ℕ → List ℕ
adds end e bytes = if bytes_eq end e then bytes else []

pub added_event : (end log released wire : List ℕ) → appended end (event_steps log released wire)
    ≡ adds end (codes ".log") log ++ (adds end (codes ".released") released ++ adds end (codes ".wire") wire)
added_event end log released wire =
    appended_then end (append_step (codes ".log") log)
    (append_step (codes ".released") released ++ append_step (codes ".wire") wire)
    ∙ (ap (λ (l : List ℕ). l
    ++ appended end (append_step (codes ".released") released ++ append_step (codes ".wire") wire))
    (appended_one end (codes ".log") log)
    ∙ ap (λ (l : List ℕ). adds end (codes ".log") log ++ l)
    (appended_then end (append_step (codes ".released") released) (append_step (codes ".wire") wire)
    ∙ (ap (λ (l : List ℕ). l ++ appended end (append_step (codes ".wire") wire))
    (appended_one end (codes ".released") released)
    ∙ ap (λ (l : List ℕ). adds end (codes ".released") released ++ l) (appended_one end (codes ".wire") wire))))

pub none_of_each : {T : Type 0} (xs : List T) → flat_map (λ (x : T). []) xs ≡ (let none : List ℕ = [] in none)
none_of_each [] = refl
none_of_each (x ∷ xs) = none_of_each xs

each_is : (xs : List (List ℕ)) → flat_map (λ (x : List ℕ). x) xs ≡ concat xs
each_is xs = sym (concat_is xs)

-- of memory and disk
module _ (s : GuestState) where
  pub added_ram : appended (codes ".ram") (state_steps s) ≡ concat s.pages
  added_ram =
      appended_then (codes ".ram") (page_steps s.pages) (sector_steps s.sectors)
      ∙ (ap (λ (l : List ℕ). l ++ appended (codes ".ram") (sector_steps s.sectors))
      (appended_each (codes ".ram") (append_step (codes ".ram")) (λ x. x) s.pages
      (λ x. appended_one (codes ".ram") (codes ".ram") x) ∙ each_is s.pages)
      ∙ (ap (λ (l : List ℕ). concat s.pages ++ l)
      (appended_each (codes ".ram") (append_step (codes ".disk")) (λ x. []) s.sectors
      (λ x. appended_one (codes ".ram") (codes ".disk") x) ∙ none_of_each s.sectors)
      ∙ append-nil (concat s.pages)))

  pub added_disk : appended (codes ".disk") (state_steps s) ≡ concat s.sectors
  added_disk =
      appended_then (codes ".disk") (page_steps s.pages) (sector_steps s.sectors)
      ∙ (ap (λ (l : List ℕ). l ++ appended (codes ".disk") (sector_steps s.sectors))
      (appended_each (codes ".disk") (append_step (codes ".ram")) (λ x. []) s.pages
      (λ x. appended_one (codes ".disk") (codes ".ram") x) ∙ none_of_each s.pages)
      ∙ (appended_each (codes ".disk") (append_step (codes ".disk")) (λ x. x) s.sectors
      (λ x. appended_one (codes ".disk") (codes ".disk") x) ∙ each_is s.sectors))

  -- nothing of them is in a file with another ending
  pub added_other : (end : List ℕ) → ((x : List ℕ) → adds end (codes ".ram") x ≡ [])
      → ((x : List ℕ) → adds end (codes ".disk") x ≡ []) → appended end (state_steps s) ≡ []
  added_other end ram disk =
      appended_then end (page_steps s.pages) (sector_steps s.sectors)
      ∙ (ap (λ (l : List ℕ). l ++ appended end (sector_steps s.sectors))
      (appended_each end (append_step (codes ".ram")) (λ x. []) s.pages
      (λ x. appended_one end (codes ".ram") x ∙ ram x) ∙ none_of_each s.pages)
      ∙ (appended_each end (append_step (codes ".disk")) (λ x. []) s.sectors
      (λ x. appended_one end (codes ".disk") x ∙ disk x) ∙ none_of_each s.sectors))

-- ---- solo

module _ (files : Files) (run : Run) where
  abbrev sent_step : List Step
  sent_step = append_step (codes ".sent") (stream_of run.sent)

  of_run : (end bytes : List ℕ) → adds end (codes ".sent") (stream_of run.sent) ++ appended end (state_steps run.state)
      ≡ bytes → after_steps files (creates solo_files) end ≡ Some []
      → after_steps files (creates solo_files ++ left_steps run) end ≡ Some bytes
  of_run end bytes all is =
      after_creates files (creates solo_files) (left_steps run) end
      (none_then sent_step (state_steps run.state) (none_append (codes ".sent") (stream_of run.sent))
      (none_state run.state)) is
      ∙ ap (λ (l : List ℕ). Some l)
      (appended_then end sent_step (state_steps run.state)
      ∙ (ap (λ (l : List ℕ). l ++ appended end (state_steps run.state))
      (appended_one end (codes ".sent") (stream_of run.sent))
      ∙ all))

pub solo_leaves : SoloLeaves
solo_leaves files run = record {
  sent = of_run files run (codes ".sent") (stream_of run.sent)
      (ap (λ (l : List ℕ). stream_of run.sent ++ l)
      (added_other run.state (codes ".sent") (λ x. refl) (λ x. refl)) ∙ append-nil (stream_of run.sent)) refl;
  state = record {
    ram = of_run files run (codes ".ram") (concat run.state.pages) (added_ram run.state) refl;
    disk = of_run files run (codes ".disk") (concat run.state.sectors) (added_disk run.state) refl;
  };
}

pub one_file_leaves : OneFileLeaves
one_file_leaves files [] = refl
one_file_leaves files (byte ∷ bytes) = refl
