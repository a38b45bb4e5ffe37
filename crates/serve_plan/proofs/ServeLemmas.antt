-- From the two texts of `serve` to its work.
use Rattle.std.proofs.Common.{◌≡◌, ℕ, List, [], ◌∷◌, Result, Ok, Err, IfOk, IfErr, String, Vec, ap, arith, get_or, length, refl, sym, string_bytes, ◌∙◌}
use Rattle.std.specs.declared.alloc.Global.{Global}
use Rattle.colo_words.specs.declared.options.Options.{Options}
use Rattle.command_inputs.specs.Machine.{read_machine}
use Rattle.command_inputs.specs.Reading.{IsRefused}
use Rattle.command_plans.specs.Planning.{refusal_plan}
use Rattle.file_steps.specs.declared.fault.Fault.{Fault}
use Rattle.file_steps.specs.declared.fault.Fault.TheVariants.{Usage, Refused, Read, Write, NoMemory}
use Rattle.file_steps.specs.Plans.{Refusal, done}
use Rattle.file_steps.specs.ReadBytes.{texts_of}
use Rattle.file_steps.specs.Status.{refusal_of}
use Rattle.file_steps.specs.Steps.{Outside, nothing}
use Rattle.file_steps.proofs.PartLemmas.{done_none}
use Rattle.pair_core.specs.Pair.{Held, Pair, new_pair, pair_of}
use Rattle.serve_rounds.specs.Rounds.{serve}
use Rattle.serve_rounds.specs.Serving.{CanStop}
use Rattle.serve_rounds.specs.Work.{EndsWith, IsStopped, Work}
use Rattle.serve_rounds.proofs.WorkLemmas.{stops_at_once}
use Rattle.state_wire.specs.Guest.{Meaning}
use Rattle.serve_plan.specs.ServePlan.{serve_or, serve_plan, serve_texts}

-- ---- the pair

-- no node of a new pair stopped
pub can_stop : {G : Type 0} (meaning : G → Meaning) (held : Held G) (first second : Meaning)
    → pair_of meaning held ≡ new_pair first second → CanStop held
can_stop meaning held first second is = record {
  stopped = ap (λ (w : Pair). w.stopped) is;
  is_reported = ap (λ (w : Pair). w.is_reported) is;
}

pub pair_same : (w : Pair) (first second : Meaning) → second ≡ first → w ≡ new_pair first second
    → w ≡ new_pair first first
pair_same w first second same is = is ∙ ap (λ (m : Meaning). new_pair first m) same

-- ---- how work ends that is the same

module _ (out : List ℕ) (work other : Work) (is : work ≡ other) (a b : Outside)
    (r : Result (String Global) Fault) where
  pub same_line : IfOk r (λ line. EndsWith out other (done (string_bytes line)) a b)
      → IfOk r (λ line. EndsWith out work (done (string_bytes line)) a b)
  same_line ends = rw is ends

  pub same_stops : IfErr r (IsStopped out other a b) → IfErr r (IsStopped out work a b)
  same_stops stops = rw is stops

-- that of the same pair
module _ (out address : List ℕ) (o : Options) (w v : Pair) (is : v ≡ w) (a b : Outside)
    (r : Result (String Global) Fault) where
  pub pair_line : IfOk r (λ line. EndsWith out (serve o v address) (done (string_bytes line)) a b)
      → IfOk r (λ line. EndsWith out (serve o w address) (done (string_bytes line)) a b)
  pair_line ends =
      same_line out (serve o w address) (serve o v address) (ap (λ (x : Pair). serve o x address) (sym is)) a b r ends

  pub pair_stops : IfErr r (IsStopped out (serve o v address) a b) → IfErr r (IsStopped out (serve o w address) a b)
  pair_stops stops =
      same_stops out (serve o w address) (serve o v address) (ap (λ (x : Pair). serve o x address) (sym is)) a b r stops

-- ---- the texts

pub of_two_is : (o : Options) (address : List ℕ) (files : List (Vec ℕ Global)) (a b : Vec ℕ Global)
    → length files ≡ 2 → a ≡ get_or files 0 a → b ≡ get_or files 1 b → (image disk : List ℕ) → image ≡ a.items
    → disk ≡ b.items → serve_texts o address (texts_of files) ≡ serve_plan o address image disk
of_two_is o address (v ∷ (w ∷ [])) a b all at0 at1 image disk e0 e1 = rw (e0, e1, at0, at1) refl
of_two_is o address [] a b all at0 at1 image disk e0 e1 = absurd (omega (arith, all))
of_two_is o address (v ∷ []) a b all at0 at1 image disk e0 e1 = absurd (omega (arith, all))
of_two_is o address (v ∷ (w ∷ (x ∷ rest))) a b all at0 at1 image disk e0 e1 = absurd (omega (arith, all))

-- both were read, and both machines are in one state
pub whole_plan : (o : Options) (address image disk : List ℕ) (machine : Meaning)
    → read_machine o.ram image disk ≡ Ok machine
    → serve_plan o address image disk ≡ serve o (new_pair machine machine) address
unfolding serve_plan
whole_plan o address image disk machine e = ap (serve_or o address) e

same_ok : {A : Type 0} (x y : A) → (let r : Result A Refusal = Ok x in r ≡ Ok y) → x ≡ y
same_ok x y e = cc

pub same_machine : (mib : ℕ) (image disk i d a b : List ℕ) (first second : Meaning) → image ≡ a → i ≡ a → disk ≡ b
    → d ≡ b → read_machine mib image disk ≡ Ok first → read_machine mib i d ≡ Ok second → second ≡ first
same_machine mib image disk i d a b first second p q r s e f =
    let one : read_machine mib a b ≡ Ok first = rw (p, r) at e in
    let two : read_machine mib a b ≡ Ok second = rw (q, s) at f in
    same_ok second first (sym two ∙ one)

-- one of them is refused
refused_plan : (o : Options) (address image disk : List ℕ) (refusal : Refusal)
    → read_machine o.ram image disk ≡ Err refusal → serve_plan o address image disk ≡ (λ said. refusal_plan refusal)
unfolding serve_plan
refused_plan o address image disk refusal e = ap (serve_or o address) e

pub refused_stops : (o : Options) (out address image disk : List ℕ) (a : Outside) (fault : Fault)
    → IsRefused (read_machine o.ram image disk) fault → IsStopped out (serve_plan o address image disk) a a fault
refused_stops o out address image disk a Usage none = none
refused_stops o out address image disk a (Refused held) (is, own) = (
  own,
  rw (refused_plan o address image disk (refusal_of held) is)
      (record { said = nothing; ends = refl; done = done_none out a }),
)
refused_stops o out address image disk a Read none = absurd none
refused_stops o out address image disk a Write none = absurd none
refused_stops o out address image disk a NoMemory none = stops_at_once out (serve_plan o address image disk) a
