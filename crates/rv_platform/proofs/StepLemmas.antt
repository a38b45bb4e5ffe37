-- Steps, one after the other, with the frames that they send.
use Rattle.std.proofs.Common.{◌≡◌, ◌≢◌, ℕ, zero, suc, ◌+◌, ◌<◌, ◌≤◌, List, [], ◌++◌, refl, sym, ap, ◌∙◌, arith, add-one, append_assoc, append-nil, ⊎_elim}
use Rattle.std.proofs.lemmas.Bool.{cases_lt}
use Rattle.shared_definitions.specs.Begins.{Begins}
use Rattle.virtio_net.proofs.SendLemmas.{after_empty, before_empty}
use Rattle.rv_platform.specs.Step.{PlatformState, Step, quiet, run_steps, step, then_step}
use Rattle.rv_platform.specs.Settled.{KeepsKinds, Leaves}

-- nothing was sent
pub left_quiet : (p q : PlatformState) (out : List (List ℕ)) → q ≡ p → Leaves (quiet p) q out out
left_quiet p q out e = record { platform_is = e; frames_are = sym (append-nil out) }

pub no_steps : (p : PlatformState) (out : List (List ℕ)) → Leaves (run_steps 0 p) p out out
unfolding run_steps
no_steps p out = left_quiet p p out refl

run_more : (k : ℕ) (p : PlatformState) → run_steps (k + 1) p ≡ then_step (run_steps k p)
unfolding run_steps
run_more k p = rw add-one refl

left_then : (before : Step) (q r : PlatformState) (a b c : List (List ℕ)) → Leaves before q a b →
    Leaves (step q) r b c → Leaves (then_step before) r a c
left_then before q r a b c h g =
    let same : step q ≡ step before.platform = ap step h.platform_is in
    record {
      platform_is = g.platform_is ∙ ap (λ (s : Step). s.platform) same;
      frames_are = g.frames_are ∙ (ap (λ x. x ++ (step q).frames) h.frames_are
          ∙ (append_assoc a before.frames (step q).frames
          ∙ ap (λ (s : Step). a ++ (before.frames ++ s.frames)) same));
    }

pub one_more : (k : ℕ) (p q r : PlatformState) (a b c : List (List ℕ)) → Leaves (run_steps k p) q a b →
    Leaves (step q) r b c → Leaves (run_steps (k + 1) p) r a c
one_more k p q r a b c h g =
    let e = run_more k p in rw e (left_then (run_steps k p) q r a b c h g)

-- what one of the steps sends, all of them send
pub one_sends : (n k : ℕ) (p q : PlatformState) → k < n → q ≡ (run_steps k p).platform → (step q).frames ≢ [] →
    (run_steps n p).frames ≢ []
unfolding run_steps
one_sends zero k p q lt is some none = absurd (omega (arith, lt))
one_sends (suc n) k p q lt is some none =
    let before = (run_steps n p).frames in
    let last = (step (run_steps n p).platform).frames in
    ⊎_elim
    (λ (earlier : k < n). one_sends n k p q earlier is some (before_empty before last none))
    (λ (later : n ≤ k).
    let same : k ≡ n = omega arith in
    let there : q ≡ (run_steps n p).platform = is ∙ ap (λ (j : ℕ). (run_steps j p).platform) same in
    some (ap (λ (x : PlatformState). (step x).frames) there ∙ after_empty before last none))
    (cases_lt k n)

-- frames that begin with others begin with what these began with
pub begins_then : (s : Step) (p : PlatformState) (a b c : List (List ℕ)) → Leaves s p a b → Begins b c → Begins a c
begins_then s p a b c h g =
    (s.frames ++ g.0, g.1 ∙ (ap (λ x. x ++ g.0) h.frames_are ∙ append_assoc a s.frames g.0))

-- kinds that are kept
pub kinds_same : (p : PlatformState) → KeepsKinds p p
kinds_same p = record { net = refl; blk = refl; memory = refl }

pub kinds_then : (p q r : PlatformState) → KeepsKinds p q → KeepsKinds q r → KeepsKinds p r
kinds_then p q r h g = record {
  net = g.net ∙ h.net;
  blk = g.blk ∙ h.blk;
  memory = g.memory ∙ h.memory;
}
