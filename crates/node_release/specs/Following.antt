-- What the node's own guest sends, followed: each opening's number that is newly kept is told to
-- the other node.
use Rattle.std.specs.Prelude.{ℕ, List, [], ◌∷◌, ◌++◌, Option, None, Some}
use Rattle.inet_frame.specs.declared.tuple.Tuple.{Tuple}
use Rattle.tcp_track.specs.Tracking.{took_of}
use Rattle.tcp_track.specs.declared.answers.Took.{Took}
use Rattle.tcp_track.specs.declared.openings.Opening.{Opening}
use Rattle.seq_rewriter.specs.Kept.{KeptNumbers}
use Rattle.colo_wire.specs.declared.messages.Message.{Message}
use Rattle.colo_wire.specs.declared.messages.Message.TheVariants.{Number}
use Rattle.out_compare.specs.Comparing.{Comparing, take_own}
use Rattle.out_compare.specs.Noting.{new_number, opening_made}

abbrev pub number_message : Tuple → Option Opening → Option ℕ → List Message
number_message t None number = []
number_message t (Some o) None = []
number_message t (Some o) (Some number) = Number t o.client number ∷ []

abbrev pub number_told : KeptNumbers → Took → List Message
number_told numbers took =
    number_message took.tuple (opening_made took.what) (new_number numbers took)

-- of one frame
abbrev pub told_of_frame : Comparing → List ℕ → List Message
told_of_frame x frame = number_told x.numbers (took_of x.mine frame)

-- of all
abbrev pub new_numbers : Comparing → List (List ℕ) → List Message
new_numbers x [] = []
new_numbers x (frame ∷ frames) = told_of_frame x frame ++ new_numbers (take_own x frame) frames
