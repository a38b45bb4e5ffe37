-- Messages of numbers alone always have a spelling.
use Rattle.std.proofs.Common.{ℕ, refl, lit≤}
use Rattle.inet_frame.specs.declared.tuple.Tuple.{Tuple}
use Rattle.colo_wire.specs.Spelling.{HasSpelling, number_body}
use Rattle.colo_wire.specs.declared.messages.Message.TheVariants.{Number, Known}

pub number_spells : (tuple : Tuple) (client number : ℕ) → HasSpelling (Number tuple client number)
unfolding number_body
number_spells tuple client number =
    record { length = record { from = lit≤ tt; to = lit≤ tt; stepped = refl }; places = refl }

pub known_spells : (tuple : Tuple) (client number : ℕ) → HasSpelling (Known tuple client number)
unfolding number_body
known_spells tuple client number =
    record { length = record { from = lit≤ tt; to = lit≤ tt; stepped = refl }; places = refl }
