-- Edits of a frame that is a TCP segment: a new checksum, a raised acknowledgement, clean options
-- (RFC 9293, 3.1).
use Rattle.std.specs.Prelude.{ℕ, ◌+◌, ◌-◌, ◌%◌, ◌^◌, Bool, ◌&&◌, if◌then◌else◌, List, [], ◌∷◌, slice_index, slice_range}
use Rattle.std.specs.Int.{w16, w32, to_be_bytes}
use Rattle.shared_definitions.specs.Overwrite.{overwrite}
use Rattle.inet_frame.specs.Fields.{TcpFields}
use Rattle.inet_frame.specs.Flags.{has_syn}
use Rattle.inet_frame.specs.Place.{be32_at, header_end, datagram_end, data_offset}
use Rattle.inet_frame.specs.Sum.{ones_sum, pseudo_sum}
use Rattle.inet_build.specs.Options.{has_unwanted, clean_options}

-- the sum over the pseudo header and the segment from h to e
abbrev pub sum_between : List ℕ → ℕ → ℕ → ℕ
sum_between b h e = ones_sum (pseudo_sum (slice_range b 26 34) 6 (e - h)) (slice_range b h e)

-- a segment from h on with its checksum as 0
abbrev pub with_zero_checksum : List ℕ → ℕ → List ℕ
with_zero_checksum b h = overwrite b (h + 16) (0 ∷ 0 ∷ [])

-- a segment from h to e with a new checksum: the complement of the sum with a checksum of 0
unfoldable pub update_checksum : List ℕ → ℕ → ℕ → List ℕ
update_checksum b h e =
    overwrite (with_zero_checksum b h) (h + 16)
    (to_be_bytes w16 (0xFFFF - sum_between (with_zero_checksum b h) h e))

-- the acknowledgement raised by a number modulo 2^32, and a new checksum
unfoldable pub shift_ack : List ℕ → ℕ → List ℕ
shift_ack b by =
    update_checksum
    (overwrite b (header_end b + 8)
    (to_be_bytes w32 ((be32_at b (header_end b + 8) + by) % 2 ^ 32)))
    (header_end b) (datagram_end b)

-- the options' bytes
abbrev pub options_in : List ℕ → List ℕ
options_in b = slice_range b (header_end b + 20) (header_end b + data_offset b (header_end b))

abbrev pub needs_cleaning : List ℕ → Bool
needs_cleaning b = has_syn (slice_index b (header_end b + 13)) && has_unwanted (options_in b)

-- in a segment with SYN that has an unwanted option, clean options and a new checksum; any other
-- frame as it is
unfoldable pub clean_syn : List ℕ → List ℕ
clean_syn b =
    if needs_cleaning b
    then update_checksum (overwrite b (header_end b + 20) (clean_options (options_in b)))
    (header_end b) (datagram_end b)
    else b

-- the fields of a segment whose acknowledgement was raised
abbrev pub shift_ack_fields : ℕ → TcpFields → TcpFields
shift_ack_fields by t = record t { ack = (t.ack + by) % 2 ^ 32 }

-- the fields of a segment that was cleaned
abbrev pub clean_syn_fields : TcpFields → TcpFields
clean_syn_fields t =
    if has_syn t.flags then record t { options = clean_options t.options } else t
