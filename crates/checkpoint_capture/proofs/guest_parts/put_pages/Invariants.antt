use Rattle.std.proofs.Common.{◌≡◌, ◌++◌, length, take}
use Rattle.checkpoint_form.specs.State.{page_messages}
use Rattle.checkpoint_capture.specs.Sizes.{HaveSize}
use Rattle.checkpoint_capture.proofs.guest_parts.put_pages.Given as goal

abbrev pub invariant-loop-k : goal.invariant-loop-k
invariant-loop-k g l =
    (l.waits ≡ l.initial.waits ++ page_messages (take l.k (g.G.Guest.meaning l.guest).state.pages))
    × HaveSize 4096 (take l.k (g.G.Guest.meaning l.guest).state.pages)
    × (l.k-end ≡ length (g.G.Guest.meaning l.guest).state.pages)
