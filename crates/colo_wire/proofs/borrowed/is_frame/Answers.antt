-- A waiting frame makes a message.
use Rattle.colo_wire.proofs.BorrowedLemmas.{frame_is_message, waiting_length}
use Rattle.colo_wire.proofs.borrowed.is_frame.Goals as goal

pub returns-clause-message : goal.returns-clause-message
returns-clause-message c =
    frame_is_message c.args.index c.args.seen c.args.trim c.args.frame.now c.is_waiting.ensures c.requires.at_least
    c.requires.at_most c.requires.untrimmed

pub returns-clause-size : goal.returns-clause-size
returns-clause-size c = waiting_length c.args.index c.args.seen c.args.trim c.args.frame.now
