-- The first word stands alone, and a space stands before each of the others.
use Rattle.std.proofs.lemmas.List.{take_rest}
use Rattle.replay_log.proofs.WritingLemmas.{first_words}
use Rattle.replay_log.specs.declared.keywords.Keyword.TheVariants.{Primary}
use Rattle.replay_log.specs.declared.places.Place.TheVariants.{Word}
use Rattle.replay_log.proofs.writing.push_words.Goals as goal

pub returns-clause-ok : goal.returns-clause-ok
returns-clause-ok c =
    rw (
      ← first_words c.args.places.now c.args.numbers.now
          (Word Primary) c.in-len1-up.len_at_least,
      ← take_rest c.args.places.now 1,
    )
    c.push_first.ensures.ok
