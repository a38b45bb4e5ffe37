-- What an unframer holds inside: bytes that begin with whole records, and then an unfinished one.
use Rattle.std.specs.Prelude.{◌≡◌, ◌+◌, ◌≤◌, length, drop}
use Rattle.sock_link.specs.Stream.{stream_of, frames_in, kept_part, IsSplit}
use Rattle.sock_link.specs.Unframed.{Unframed}
use Rattle.sock_link.specs.declared.unframer.Unframer.TheInside.{Inside}

-- what contracts see of it
abbrev pub unframed_of : Inside → Unframed
unframed_of u = record {
  frames = frames_in u.count u.backlog;
  part = drop u.whole u.backlog;
  place = u.place;
  fed = u.fed;
}

-- so many bytes and so many frames are whole, and the unfinished record begins at that place of the
-- bytes fed
pub record IsHeld (u : Inside) : Type 0 where
  pub split : IsSplit u.backlog (frames_in u.count u.backlog) (drop u.whole u.backlog)
  pub whole_is : u.whole ≡ length (stream_of (frames_in u.count u.backlog))
  pub part_is : kept_part (drop u.whole u.backlog) ≡ drop u.whole u.backlog
  pub place_is : u.place + length (drop u.whole u.backlog) ≤ u.fed
