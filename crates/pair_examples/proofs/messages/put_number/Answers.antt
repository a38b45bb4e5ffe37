use Rattle.colo_wire.proofs.SpellingLemmas.{number_spells}
use Rattle.pair_examples.proofs.messages.put_number.Goals as goal

pub encode-requires : goal.encode-requires
encode-requires c = number_spells _ _ _
