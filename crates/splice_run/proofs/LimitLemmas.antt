-- The turns of a single run that has a text are in a guest's limits.
use Rattle.std.proofs.Common.{◌≡◌, ℕ, true, ◌&&◌, List, [], ◌∷◌, All, map, nat_le}
use Rattle.std.proofs.lemmas.Bool.{and_parts, leb-true}
use Rattle.std.proofs.lemmas.List.Elements.{All-nil, All-cons, All-head, All-tail}
use Rattle.replay_log.specs.Forms.{single_forms}
use Rattle.replay_log.specs.Items.{is_item_in_range}
use Rattle.replay_log.specs.Places.{most32, most64}
use Rattle.replay_log.specs.Texts.{HasSpelling, IsSingle}
use Rattle.replay_log.specs.declared.items.Item.TheVariants as item
use Rattle.replay_log.specs.declared.turns.Turn.{Turn}
use Rattle.replay_log.specs.declared.turns.TurnFrame.{TurnFrame}
use Rattle.replay_log.specs.declared.turns.TurnFrame.TheVariants as frame
use Rattle.splice_run.specs.Solo.{IsInLimits}

last_two : (d b n : ℕ) (f : TurnFrame) → ((nat_le 0 b && nat_le b 256) && ((nat_le 0 n && nat_le n 100000)
    && true)) ≡ true → IsInLimits (record { d = d; frame = f; b = b; n = n })
last_two d b n f h =
    let both = and_parts (nat_le 0 b && nat_le b 256) _ h in
    record {
      requests = leb-true b 256 (and_parts (nat_le 0 b) (nat_le b 256) both.0).1;
      steps = leb-true n 100000 (and_parts (nat_le 0 n) (nat_le n 100000)
          (and_parts (nat_le 0 n && nat_le n 100000) true both.1).0).1;
    }

in_limits : (d : ℕ) (f : TurnFrame) (b n : ℕ)
    → is_item_in_range (item.Turn (record { d = d; frame = f; b = b; n = n })) ≡ true
    → IsInLimits (record { d = d; frame = f; b = b; n = n })
in_limits d frame.Absent b n h = last_two d b n frame.Absent (and_parts (nat_le 0 d && nat_le d most32) _ h).1
in_limits d (frame.Plain index) b n h =
    last_two d b n (frame.Plain index) (and_parts (nat_le 0 index && nat_le index most64) _
    (and_parts (nat_le 0 d && nat_le d most32) _ h).1).1
in_limits d (frame.Seen index o) b n h =
    last_two d b n (frame.Seen index o) (and_parts (nat_le index most64 && (nat_le o.client most32
    && nat_le o.own most32)) _ (and_parts (nat_le 0 d && nat_le d most32) _ h).1).1

all_in_limits : (turns : List Turn) → All (HasSpelling single_forms) (map item.Turn turns) → All IsInLimits turns
all_in_limits [] all = All-nil IsInLimits
all_in_limits (t ∷ turns) all =
    let first = All-head (HasSpelling single_forms) (item.Turn t) (map item.Turn turns) all in
    All-cons IsInLimits t turns (in_limits t.d t.frame t.b t.n first.numbers)
    (all_in_limits turns (All-tail (HasSpelling single_forms) (item.Turn t) (map item.Turn turns) all))

pub single_is_in_limits : (turns : List Turn) (text : List ℕ) → IsSingle turns text → All IsInLimits turns
single_is_in_limits turns text s = all_in_limits turns s.good
