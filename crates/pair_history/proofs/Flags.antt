-- Two tests that are equal lead to the same of two branches, and what the stop of a pair says of the stop of its past.
use Rattle.std.proofs.Common.{◌≡◌, ℕ, Bool, true, false, List, Option, None, Some, refl, sym, ap, ◌∙◌, true≢false}
use Rattle.std.specs.Prelude.{if◌then◌else◌}
use Rattle.std.proofs.lemmas.Bool.{and_parts}
use Rattle.state_wire.specs.Guest.{Kind}
use Rattle.node_secondary.specs.Node.{Node}
use Rattle.node_secondary.specs.Survivor.{Second, alone, hears}
use Rattle.pair_core.specs.Pair.{Pair, is_primary, is_secondary}
use Rattle.pair_core.specs.declared.node.Node as stopped
use Rattle.pair_core.specs.declared.node.Node.TheVariants.{Primary, Secondary}
use Rattle.pair_theorem.specs.Past.{Past, is_primary_stop, is_secondary_stop, secondary_releases}
use Rattle.pair_history.specs.Standing.{SecondStands, SecondaryStands, Stands, stop_of}

pub both_branches : {X Y : Type 0} (P : X → Y → Type 0) (a b : Bool) (x y : X) (u v : Y) → a ≡ b
    → (b ≡ true → P x u) → (b ≡ false → P y v) → P (if a then x else y) (if b then u else v)
both_branches P true true x y u v e f g = f refl
both_branches P false false x y u v e f g = g refl
both_branches P true false x y u v e f g = absurd (true≢false e)
both_branches P false true x y u v e f g = absurd (true≢false (sym e))

-- THE STOP
primary_of_stop : (s : Option stopped.Node) → is_primary_stop (stop_of s) ≡ is_primary s
primary_of_stop None = refl
primary_of_stop (Some Primary) = refl
primary_of_stop (Some Secondary) = refl

secondary_of_stop : (s : Option stopped.Node) → is_secondary_stop (stop_of s) ≡ is_secondary s
secondary_of_stop None = refl
secondary_of_stop (Some Primary) = refl
secondary_of_stop (Some Secondary) = refl

pub primary_flag : (kind : Kind) (stream : List (List ℕ)) (past : Past) (w : Pair) → Stands kind stream past w
    → is_primary_stop past.stop ≡ is_primary w.stopped
primary_flag kind stream past w h = ap is_primary_stop h.stop ∙ primary_of_stop w.stopped

pub secondary_flag : (kind : Kind) (stream : List (List ℕ)) (past : Past) (w : Pair) → Stands kind stream past w
    → is_secondary_stop past.stop ≡ is_secondary w.stopped
secondary_flag kind stream past w h = ap is_secondary_stop h.stop ∙ secondary_of_stop w.stopped

not_both : (s : Option stopped.Node) → is_primary s ≡ true → is_secondary s ≡ false
not_both None e = refl
not_both (Some Primary) e = refl
not_both (Some Secondary) e = absurd (true≢false (sym e))

pub primary_alone : (s : Option stopped.Node) → is_primary s ≡ true → is_secondary s ≡ false
primary_alone s e = not_both s e

-- a survivor's primary stopped, and it was reported
pub releases_stopped : (past : Past) → secondary_releases past ≡ true → is_primary_stop past.stop ≡ true
releases_stopped past e = (and_parts (is_primary_stop past.stop) past.is_reported e).0

pub releases_reported : (past : Past) → secondary_releases past ≡ true → past.is_reported ≡ true
releases_reported past e = (and_parts (is_primary_stop past.stop) past.is_reported e).1

-- WHILE NO STOP was reported the secondary hears
pub record Hears (kind : Kind) (past : Past) (s : Second) : Type 0 where
  pub node : Node
  pub is : s ≡ hears node
  pub stands : SecondaryStands kind past node

pub it_hears : (kind : Kind) (past : Past) (s : Second) → past.is_reported ≡ false → SecondStands kind past s
    → Hears kind past s
it_hears kind past (hears n) e h = record { node = n; is = refl; stands = h.1 }
it_hears kind past (alone n) e h = absurd (true≢false (sym (releases_reported past h.0) ∙ e))

-- and so it does while the primary runs
pub unreported : (kind : Kind) (past : Past) (s : Second) → is_primary_stop past.stop ≡ false
    → SecondStands kind past s → past.is_reported ≡ false
unreported kind past (hears n) e h = h.0
unreported kind past (alone n) e h = absurd (true≢false (sym (releases_stopped past h.0) ∙ e))
