-- A frame that waits trims nothing where no opening was seen.
use Rattle.std.proofs.Common.{◌≡◌, ℕ, List, Option, None, Some, refl}
use Rattle.inet_frame.specs.Fields.{TcpFields}
use Rattle.tcp_track.specs.Tracking.{Tracking}
use Rattle.tcp_track.specs.declared.openings.Opening.{Opening}
use Rattle.out_compare.specs.Comparing.{Comparing}
use Rattle.out_compare.specs.Look.{look, trimmed_look}
use Rattle.settle_table.specs.Table.{progress_at}
use Rattle.inet_frame.specs.Counted.{client_tuple_of}
use Rattle.shared_definitions.specs.Bytes.{AreBytes}
use Rattle.frame_mirror.specs.Accepted.{entry_of}
use Rattle.frame_mirror.specs.declared.ingress.Entry.{Entry}
use Rattle.frame_mirror.specs.declared.ingress.Entry.TheVariants.{Frame, Answer, Drop}
use Rattle.frame_mirror.proofs.AcceptLemmas.{kept_is_accepted_as_it_is}
use Rattle.node_release.specs.Gated.{IsClean, seen_by, trim_by}

by_shown : (mine theirs : Tracking) (s : TcpFields) (edge : ℕ) (shown : Option Opening) →
    (trimmed_look mine theirs s edge shown).seen ≡ None → (trimmed_look mine theirs s edge shown).trim ≡ 0
by_shown mine theirs s edge None e = refl
by_shown mine theirs s edge (Some o) e = absurd cc

pub nothing_trimmed : (x : Comparing) (t : Option TcpFields) → seen_by x t ≡ None → trim_by x t ≡ 0
unfolding look
nothing_trimmed x None e = refl
nothing_trimmed x (Some s) e =
    let p = progress_at x.progress (client_tuple_of s) in by_shown x.mine x.theirs s p.edge p.shown e

pub entry_is_clean : (b : List ℕ) (entry : Entry) → AreBytes b → entry_of b ≡ entry → IsClean entry
entry_is_clean b (Frame kept) bytes e = kept_is_accepted_as_it_is b kept bytes e
entry_is_clean b (Answer reply) bytes e = tt
entry_is_clean b (Drop why) bytes e = tt
