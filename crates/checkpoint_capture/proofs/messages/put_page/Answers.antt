-- The message was spelled into bytes of its own.
use Rattle.std.proofs.Common.{◌≡◌, [], ◌∷◌, ◌++◌, OnOk, subst}
use Rattle.colo_wire.specs.declared.messages.Message.{Message}
use Rattle.colo_wire.specs.declared.messages.Message.TheVariants as message
use Rattle.checkpoint_capture.proofs.PutLemmas.{put_same, put_whole}
use Rattle.checkpoint_capture.proofs.messages.put_page.Goals as goal

pub put-requires : goal.put-requires
put-requires c =
    put_whole (message.Page c.args.k c.args.page.now)
    c.in_ok-bytes.bytes.items c.encode_page.new.into.items c.encode_page.ensures.message
    c.in_ok-bytes.ensures.items c.in_ok-encode_page.ensures.ok

pub returns : goal.returns
returns c =
    subst (λ (m : Message). OnOk c.put.result (c.put.new.self ≡ c.args.waits.now ++ m ∷ []))
    (put_same (message.Page c.args.k c.args.page.now)
    c.in_ok-bytes.bytes.items c.encode_page.new.into.items c.encode_page.ensures.message
    c.in_ok-bytes.ensures.items c.in_ok-encode_page.ensures.ok) c.put.ensures.ok
