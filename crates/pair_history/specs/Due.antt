-- What is on its way to the secondary is due when it comes, message by message, and the End among
-- it commits what the primary captured.
use Rattle.std.specs.Prelude.{◌≡◌, ℕ, true, List, [], ◌∷◌, ◌++◌, Option, None, Some, unwrap_or, ⊤}
use Rattle.tcp_track.specs.Lines.{commit}
use Rattle.state_wire.specs.Guest.{Kind, Meaning}
use Rattle.node_parts.specs.Counts.{HasCounts}
use Rattle.colo_wire.specs.declared.messages.Message.{Message}
use Rattle.kept_checkpoint.specs.Kept.{Kept, kept_lines, load_kept}
use Rattle.node_secondary.specs.Hearing.{commit_by, is_due_at, next_checkpoint}
use Rattle.node_secondary.specs.declared.under_way.UnderWay.{UnderWay}
use Rattle.node_secondary.specs.declared.under_way.UnderWay.TheVariants.{Nothing, Begun, Heard}
use Rattle.pair_theorem.specs.Past.{Copy}
use Rattle.settle_history.specs.Standing.{SameNumbers, Tracks}
use Rattle.capture_laws.specs.Ways.{way}

-- What is kept of a whole checkpoint is the copy: its state in the place of any state of the kind,
-- its inbox, its lines with the commit behind them, and its numbers.
pub record Commits (kind : Kind) (copy : Copy) (kept : Kept) : Type 0 where
  pub state : (g : Meaning) → g.kind ≡ kind → HasCounts g
      → load_kept g kept ≡ record g { state = copy.run.run.state }
  pub inbox : kept.inbox ≡ copy.inbox
  pub lines : Tracks (copy.run.items ++ commit ∷ []) (kept_lines kept)
  pub numbers : SameNumbers copy.numbers kept.numbers

abbrev pub CommitsHeard : Kind → Copy → UnderWay → Type 0
CommitsHeard kind copy Nothing = ⊤
CommitsHeard kind copy Begun = ⊤
CommitsHeard kind copy (Heard kept) = Commits kind copy kept

-- a message that commits a checkpoint finds the whole of it heard
abbrev pub CommitsWhole : Kind → Copy → UnderWay → Option ℕ → Type 0
CommitsWhole kind copy u None = ⊤
CommitsWhole kind copy u (Some e) = CommitsHeard kind copy u

-- From a node that committed a checkpoint, with some of the next heard: each message is due when it
-- comes, and after the last one nothing is under way and the last capture is committed.
abbrev pub Due : Kind → Copy → ℕ → ℕ → UnderWay → List Message → Type 0
Due kind copy captures committed u [] = (u ≡ Nothing) × (committed ≡ captures)
Due kind copy captures committed u (m ∷ ms) =
    (is_due_at kind (next_checkpoint committed) u m ≡ true)
    × (CommitsWhole kind copy u (commit_by m)
    × Due kind copy captures (unwrap_or (commit_by m) committed) (way kind u m) ms)
