-- What is stored of a connection stands for its progress, before a settling and after it.
use Rattle.std.proofs.Common.{◌≡◌, ℕ, ◌+◌, ◌-◌, ◌<◌, Bool, true, false, ◌==◌, nat_lt, min, if◌then◌else◌, List, [], refl, sym, ap, subst, ◌∙◌, true≢false, arith}
use Rattle.std.proofs.lemmas.Bool.Decides.{nat_tests}
use Rattle.tcp_track.specs.declared.answers.Took.{Took}
use Rattle.settle_rules.specs.Matching.{BothLines, is_unmatched, matched_end}
use Rattle.settle_rules.specs.Progress.{Progress, grow_age}
use Rattle.settle_rules.specs.Settle.{Settled, age_key_of, grow_older, same_age_key, settle_one}
use Rattle.line_settle.specs.Parts.{grow_if_turn, all_out, bare_goes, plain_out, settled_progress, symbols_out}
use Rattle.line_settle.proofs.PartLemmas.{settle_one_is}
use Rattle.settle_touched.specs.Ages.{IsSince, age_now, progress_now, stored_after}
use Rattle.settle_touched.specs.Laws.{SettlesWhatIsStored, StoresSince}
use Rattle.settle_touched.specs.declared.stored.Stored.{Stored}

-- AGES

-- an age at the end of a turn
abbrev next_age : Bool → Bool → ℕ → ℕ
next_age unmatched same age = if unmatched then (if same then grow_age age else 1) else 0

begins : (turns : ℕ) → min ((turns + 1) - turns) 257 ≡ 1
begins turns = omega arith

goes_on : (age since turns : ℕ) → nat_lt 0 age ≡ true → since < turns →
    grow_age (min (turns - since) 257)
    ≡ (if nat_lt 0 (grow_age age) then min ((turns + 1) - (if grow_age age == 1 then turns else since)) 257 else 0)
goes_on age since turns w low = grind (arith, nat_tests)

no_age : (age : ℕ) → nat_lt 0 age ≡ false → age ≡ 0
no_age age e = grind (arith, nat_tests)

ages_meet : (unmatched same : Bool) (age since turns : ℕ) → (nat_lt 0 age ≡ true → since < turns) →
    next_age unmatched same (if nat_lt 0 age then min (turns - since) 257 else 0)
    ≡ (if nat_lt 0 (next_age unmatched same age)
    then min ((turns + 1) - (if next_age unmatched same age == 1 then turns else since)) 257 else 0)
ages_meet false same age since turns h = refl
ages_meet true false age since turns h = sym (begins turns)
ages_meet true true age since turns h = by (nat_lt 0 age) refl
  where
    by : (b : Bool) → nat_lt 0 age ≡ b → grow_age (if b then min (turns - since) 257 else 0)
        ≡ (if nat_lt 0 (grow_age age) then min ((turns + 1) - (if grow_age age == 1 then turns else since)) 257 else 0)
    by true e = goes_on age since turns e (h e)
    by false e = subst (λ (n : ℕ). 1
        ≡ (if nat_lt 0 (grow_age n) then min ((turns + 1) - (if grow_age n == 1 then turns else since)) 257 else 0))
        (sym (no_age age e)) (sym (begins turns))

either : (c : Bool) (m n bound : ℕ) → m < bound → n < bound → (if c then m else n) < bound
either true m n bound p q = p
either false m n bound p q = q

waits_since : (unmatched same : Bool) (age since turns : ℕ) → (nat_lt 0 age ≡ true → since < turns) →
    nat_lt 0 (next_age unmatched same age) ≡ true →
    (if next_age unmatched same age == 1 then turns else since) < turns + 1
waits_since false same age since turns h w = absurd (true≢false (sym w))
waits_since true false age since turns h w = omega arith
waits_since true true age since turns h w = by (nat_lt 0 age) refl
  where
    by : (b : Bool) → nat_lt 0 age ≡ b → (if grow_age age == 1 then turns else since) < turns + 1
    by true e =
        let low = h e in either (grow_age age == 1) turns since (turns + 1) (omega arith) (omega (arith, low))
    by false e = subst (λ (n : ℕ). (if grow_age n == 1 then turns else since) < turns + 1) (sym (no_age age e))
        (omega arith)

-- ONE CONNECTION

abbrev with_age : Progress → ℕ → Progress
with_age p age = record p { age = age }

-- settling reads no age before it counts it
settles_with_age : (b : BothLines) (p : Progress) (age : ℕ) (is_turn : Bool) (tooks : List Took) →
    settle_one b (with_age p age) is_turn tooks ≡ record {
      progress = grow_if_turn b is_turn (with_age (settled_progress b p (plain_out b p tooks)) age);
      out = all_out b p tooks;
    }
unfolding settle_one symbols_out bare_goes plain_out all_out
settles_with_age b p age is_turn tooks = refl

-- what is stored after a turn that grew this progress older
grown_now : (b : BothLines) (x : Progress) (s : Stored) (turns : ℕ) → x.age ≡ s.progress.age → IsSince turns s →
    grow_older b (matched_end b x.edge) (with_age x (age_now turns s))
    ≡ progress_now (turns + 1) (stored_after true turns s (grow_older b (matched_end b x.edge) x))
grown_now b x s turns same h =
    let m = matched_end b x.edge in
    let key = age_key_of b m in
    let ages = ages_meet (is_unmatched b x m) (same_age_key x.age_key key) s.progress.age s.since turns h in
    (λ i. record x { age = ages i; age_key = key })
    ∙ (λ i. record x {
      age = if nat_lt 0 (next_age (is_unmatched b x m) (same_age_key x.age_key key) (sym same i))
          then min ((turns + 1) - (if next_age (is_unmatched b x m) (same_age_key x.age_key key) (sym same i) == 1
          then turns else s.since)) 257 else 0;
      age_key = key;
    })

grown_since : (b : BothLines) (x : Progress) (s : Stored) (turns : ℕ) → x.age ≡ s.progress.age → IsSince turns s →
    IsSince (turns + 1) (stored_after true turns s (grow_older b (matched_end b x.edge) x))
grown_since b x s turns same h w =
    let m = matched_end b x.edge in
    let key = age_key_of b m in
    subst (λ (n : ℕ). nat_lt 0 (next_age (is_unmatched b x m) (same_age_key x.age_key key) n) ≡ true →
    (if next_age (is_unmatched b x m) (same_age_key x.age_key key) n == 1 then turns else s.since) < turns + 1)
    (sym same)
    (waits_since (is_unmatched b x m) (same_age_key x.age_key key) s.progress.age s.since turns h) w

pub settles_what_is_stored : SettlesWhatIsStored
settles_what_is_stored true b s true turns tooks h =
    ap (λ (p : Progress). record { progress = p; out = [] }) (grown_now b s.progress s turns refl h)
settles_what_is_stored true b s false turns tooks h = refl
settles_what_is_stored false b s true turns tooks h =
    let x = settled_progress b s.progress (plain_out b s.progress tooks) in
    settles_with_age b s.progress (age_now turns s) true tooks
    ∙ ((λ i. record { progress = grown_now b x s turns refl h i; out = all_out b s.progress tooks })
    ∙ sym (ap (λ (one : Settled). record one {
      progress = progress_now (turns + 1) (stored_after true turns s one.progress);
    }) (settle_one_is b s.progress true tooks)))
settles_what_is_stored false b s false turns tooks h =
    settles_with_age b s.progress (age_now turns s) false tooks
    ∙ sym (ap (λ (one : Settled). record one {
      progress = progress_now turns (stored_after false turns s one.progress);
    }) (settle_one_is b s.progress false tooks))

pub stores_since : StoresSince
stores_since true b s true turns tooks h = grown_since b s.progress s turns refl h
stores_since true b s false turns tooks h = h
stores_since false b s true turns tooks h =
    subst (λ (one : Settled). IsSince (turns + 1) (stored_after true turns s one.progress))
    (sym (settle_one_is b s.progress true tooks))
    (grown_since b (settled_progress b s.progress (plain_out b s.progress tooks)) s turns refl h)
stores_since false b s false turns tooks h =
    subst (λ (one : Settled). IsSince turns (stored_after false turns s one.progress))
    (sym (settle_one_is b s.progress false tooks)) h
