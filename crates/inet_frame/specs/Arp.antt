-- The answer to an ARP request (RFC 826).
use Rattle.std.specs.Prelude.{ℕ, List, [], ◌∷◌, ◌++◌}
use Rattle.std.specs.Int.{w32, to_be_bytes}
use Rattle.inet_frame.specs.Fields.{ArpFields}

-- Ethernet, IPv4, the lengths of their addresses, and operation 2, a reply; before them the frame's
-- type
abbrev pub reply_head : List ℕ
reply_head = 8 ∷ 6 ∷ 0 ∷ 1 ∷ 8 ∷ 0 ∷ 6 ∷ 4 ∷ 0 ∷ 2 ∷ []

-- the reply says that the asked address is at this MAC, and goes to the one that asked
abbrev pub reply_bytes : ArpFields → List ℕ → List ℕ
reply_bytes ask mac =
    ask.sender_mac ++ mac ++ reply_head ++ mac ++ to_be_bytes w32 ask.target
    ++ ask.sender_mac ++ to_be_bytes w32 ask.sender
