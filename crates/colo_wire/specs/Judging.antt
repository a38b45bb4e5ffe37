-- The kind and the length of the body in front of a string of bytes, or what is wrong with it,
-- from left to right.
use Rattle.std.specs.Prelude.{ℕ, if◌then◌else◌, nat_lt, List, [], ◌∷◌, Option, Some, None, Result, Ok, Err, drop, length, take}
use Rattle.std.specs.Int.{w32, from_be_bytes}
use Rattle.colo_wire.specs.Forms.{lengths_of, places_of}
use Rattle.colo_wire.specs.Kinds.{kind_at}
use Rattle.colo_wire.specs.Lengths.{may_begin_length}
use Rattle.colo_wire.specs.Places.{follows}
use Rattle.colo_wire.specs.declared.faults.WireFault.{WireFault}
use Rattle.colo_wire.specs.declared.faults.WireFault.TheVariants as fault
use Rattle.colo_wire.specs.declared.kinds.Kind.{Kind}

-- what is judged: a kind and a length of body
abbrev pub Judged : Type 0
Judged = Result (Kind × ℕ) WireFault

-- the body, as far as it is there, where its length is this
unfoldable pub judge_body : Kind → ℕ → List ℕ → Judged
judge_body kind n rest =
    if follows (places_of kind) 0 (take n rest) then
    (if nat_lt (length (take n rest)) n then Err fault.More else Ok (kind, n))
    else Err fault.Field

-- what follows the kind
unfoldable pub judge_rest : Kind → List ℕ → Judged
judge_rest kind rest =
    if may_begin_length (lengths_of kind) (take 4 rest) then
    (if nat_lt (length (take 4 rest)) 4 then Err fault.More
    else judge_body kind (from_be_bytes w32 (take 4 rest)) (drop 4 rest))
    else Err fault.Length

abbrev pub judge_kind : Option Kind → List ℕ → Judged
judge_kind None rest = Err fault.Kind
judge_kind (Some kind) rest = judge_rest kind rest

abbrev pub judge : List ℕ → Judged
judge [] = Err fault.More
judge (number ∷ rest) = judge_kind (kind_at number) rest
