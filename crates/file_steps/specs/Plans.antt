-- Tasks: what a command makes of the texts that it reads and of what the outside says.
use Rattle.std.specs.Prelude.{◌≡◌, ℕ, Bool, not, ◌==◌, ◌||◌, List}
use Rattle.file_steps.specs.Steps.{Step, Said}

-- why what is read is refused: the status and the line
pub record Refusal : Type 0 where
  pub status : ℕ
  pub line : List ℕ

-- a refusal's status is none of those that all commands have in common
abbrev pub is_own : ℕ → Bool
is_own status = not (status == 0 || (status == 1 || (status == 6 || (status == 7 || status == 8))))

-- how a plan ends: with a line of success, with a refusal, or with a step whose answer isn't there
-- yet
pub data End : Type 0 where
  done : List ℕ → End
  refused : Refusal → End
  waits : End

-- what is to be done: steps on the outside, and then the end
pub record Plan : Type 0 where
  pub steps : List Step
  pub end : End

-- a plan is made of the texts alone, or also of what the outside says in the call
pub data Making : Type 0 where
  offline : (List (List ℕ) → Plan) → Making
  online : (List (List ℕ) → Said → Plan) → Making

abbrev pub plan_of : Making → List (List ℕ) → Said → Plan
plan_of (offline plan) texts said = plan texts
plan_of (online plan) texts said = plan texts said

-- what the words of a command ask for: the names that it reads, in order, what its files are named
-- after, and the plan that it makes of the bytes of the files read
pub record Task : Type 0 where
  pub reads : List (List ℕ)
  pub out : List ℕ
  pub making : Making

-- the task uses the link and the clock
abbrev pub IsOnline : Task → Type 0
IsOnline task = (plan : List (List ℕ) → Said → Plan) × (task.making ≡ online plan)
