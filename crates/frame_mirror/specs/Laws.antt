-- What holds of accepted frames, also where no call has one in hand.
use Rattle.std.specs.Prelude.{◌≡◌, ℕ, ◌≤◌, List, length, true, Some}
use Rattle.shared_definitions.specs.Bytes.{AreBytes}
use Rattle.inet_frame.specs.Counted.{tcp_in, client_tuple_of}
use Rattle.inet_frame.specs.Fields.{TcpFields}
use Rattle.inet_build.specs.Edit.{clean_syn, clean_syn_fields}
use Rattle.frame_mirror.specs.Accepted.{entry_of, is_to_guest}
use Rattle.frame_mirror.specs.declared.ingress.Entry.TheVariants.{Frame}

-- the frame that is kept of an accepted one: clean, a TCP segment of the same connection to the
-- guest, of 54 to 1,514 bytes
pub record IsKept (b kept : List ℕ) : Type 0 where
  pub fields : TcpFields
  pub parsed : tcp_in b ≡ Some fields
  pub clean : kept ≡ clean_syn b
  pub still_tcp : tcp_in kept ≡ Some (clean_syn_fields fields)
  pub same_tuple : client_tuple_of (clean_syn_fields fields) ≡ client_tuple_of fields
  pub to_guest : is_to_guest fields.dst_mac fields.dst ≡ true
  pub bytes : AreBytes kept
  pub at_least : 54 ≤ length kept
  pub at_most : length kept ≤ 1514

-- what is kept of an accepted frame
abbrev pub AcceptedIsKept : Type 0
AcceptedIsKept = (b kept : List ℕ) → AreBytes b → entry_of b ≡ Frame kept → IsKept b kept

-- the frame that is kept is accepted as it is
abbrev pub KeptIsAccepted : Type 0
KeptIsAccepted =
    (b kept : List ℕ) → AreBytes b → entry_of b ≡ Frame kept → entry_of kept ≡ Frame kept
