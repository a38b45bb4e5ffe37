-- Block requests one after the other, and the parts of a turn.
use Rattle.std.proofs.Common.{◌≡◌, ℕ, zero, suc, ◌+◌, ◌-◌, ◌<◌, Result, Ok, Err, refl, sym, ap, ◌∙◌, add-one, add-zero, arith}
use Rattle.std.specs.Prelude.{OnErr, OnOk}
use Rattle.guest_machine.specs.Kinds.{KeepsSizes}
use Rattle.guest_machine.specs.Turn.{State, serve_request, serve_requests}

pub no_requests : (s : State) → s ≡ serve_requests 0 s
unfolding serve_requests
no_requests s = refl

more_requests : (k : ℕ) (s : State) → serve_requests (k + 1) s ≡ serve_request (serve_requests k s)
unfolding serve_requests
more_requests k s = rw add-one refl

pub one_request : (k : ℕ) (s t u : State) → t ≡ serve_requests k s → u ≡ serve_request t
    → u ≡ serve_requests (k + 1) s
one_request k s t u h e = e ∙ (ap serve_request h ∙ sym (more_requests k s))

-- once a request finds nothing, no later one does
none_after : (j k : ℕ) (s : State) → serve_request (serve_requests k s) ≡ serve_requests k s
    → serve_requests (k + j) s ≡ serve_requests k s
none_after zero k s h = ap (λ (n : ℕ). serve_requests n s) (add-zero k)
none_after (suc j) k s h =
    let next : k + suc j ≡ (k + j) + 1 = omega arith in
    ap (λ (n : ℕ). serve_requests n s) next
    ∙ (more_requests (k + j) s ∙ (ap serve_request (none_after j k s h) ∙ h))

pub none_left : (n k : ℕ) (s t u : State) → t ≡ serve_requests k s → u ≡ serve_request t → u ≡ t → k < n
    → u ≡ serve_requests n s
none_left n k s t u h e same lt =
    let split : n ≡ k + (n - k) = omega arith in
    let still : serve_request (serve_requests k s) ≡ serve_requests k s =
    ap serve_request (sym h) ∙ (sym e ∙ (same ∙ h)) in
    same ∙ (h ∙ (sym (none_after (n - k) k s still) ∙ ap (λ (m : ℕ). serve_requests m s) (sym split)))

-- what follows where a call answered Ok
pub on_ok : {A E : Type 0} (P Q : Type 0) (r : Result A E) → (P → Q) → OnOk r P → OnOk r Q
on_ok P Q (Ok v) f h = f h
on_ok P Q (Err e) f h = h

pub on_both : {A E : Type 0} (P Q R : Type 0) (r : Result A E) → (P → Q → R) → OnOk r P → OnOk r Q → OnOk r R
on_both P Q R (Ok v) f h g = f h g
on_both P Q R (Err e) f h g = h

-- and where it answered Err
pub on_err : {A E : Type 0} (P Q : Type 0) (r : Result A E) → (P → Q) → OnErr r P → OnErr r Q
on_err P Q (Ok v) f h = h
on_err P Q (Err e) f h = f h

-- sizes that are kept
pub sizes_same : (s : State) → KeepsSizes s s
sizes_same s = record { memory = refl; disk = refl }

pub sizes_then : (s t u : State) → KeepsSizes s t → KeepsSizes t u → KeepsSizes s u
sizes_then s t u h g = record { memory = g.memory ∙ h.memory; disk = g.disk ∙ h.disk }
