-- Part after part.
use Rattle.std.proofs.Common.{[], ◌∷◌, ◌++◌, refl}
use Rattle.std.specs.List.{flat_map}
use Rattle.colo_wire.specs.declared.messages.Message.TheVariants as message
use Rattle.checkpoint_form.specs.Captured.{captured_messages, lines_of}
use Rattle.checkpoint_form.specs.Inbox.{inbox_messages}
use Rattle.checkpoint_form.specs.Rows.{line_messages}
use Rattle.checkpoint_form.specs.State.{disk_messages, page_messages}
use Rattle.checkpoint_capture.proofs.PutLemmas.{put_more}
use Rattle.checkpoint_capture.proofs.capture.put_capture.Goals as goal

pub returns-clause-ok : goal.returns-clause-ok
unfolding captured_messages
returns-clause-ok g c =
    let s = (g.G.Guest.meaning c.args.guest.now).state in
    let start = c.args.waits.now in
    let begun = message.Begin c.args.e ∷ [] in
    let state = message.State s.bytes ∷ [] in
    let pages = page_messages s.pages in
    let sectors = disk_messages s.sectors in
    let held = inbox_messages c.args.inbox.now in
    let lines = flat_map (line_messages c.args.numbers.now) (lines_of c.args.lines.now) in
    put_more start c.put_lines.new.waits c.put_message-2.new.waits
    (begun ++ state ++ pages ++ sectors ++ held ++ lines) (message.End c.args.e ∷ [])
    (begun ++ state ++ pages ++ sectors ++ held ++ lines ++ message.End c.args.e ∷ [])
    (put_more start c.put_inbox.new.waits c.put_lines.new.waits (begun ++ state ++ pages ++ sectors ++ held) lines
    (begun ++ state ++ pages ++ sectors ++ held ++ lines)
    (put_more start c.put_sectors.new.waits c.put_inbox.new.waits (begun ++ state ++ pages ++ sectors) held
    (begun ++ state ++ pages ++ sectors ++ held)
    (put_more start c.put_pages.new.waits c.put_sectors.new.waits (begun ++ state ++ pages) sectors
    (begun ++ state ++ pages ++ sectors)
    (put_more start c.put_guest_state.new.waits c.put_pages.new.waits (begun ++ state) pages (begun ++ state ++ pages)
    (put_more start c.put_message.new.waits c.put_guest_state.new.waits begun state (begun ++ state)
    c.in_ok-put_message.ensures.ok c.in_ok-put_guest_state.ensures.put refl)
    c.in_ok-put_pages.ensures.put refl) c.in_ok-put_sectors.ensures.put refl) c.in_ok-put_inbox.ensures refl)
    c.in_ok-put_lines.ensures refl) c.in_ok-put_message-2.ensures.ok refl
