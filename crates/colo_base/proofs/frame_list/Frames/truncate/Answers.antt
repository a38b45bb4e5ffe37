-- What is cut off the strings is cut off their bytes.
use Rattle.std.proofs.Common.{◌≡◌, ℕ, List, map, take, sym, ap, ◌∙◌}
use Rattle.std.proofs.lemmas.List.{take-map}
use Rattle.std.specs.Global.{Vec}
use Rattle.colo_base.proofs.frame_list.Frames.truncate.Goals as goal

pub returns : goal.returns
returns c =
    let bytes_of : Vec ℕ → List ℕ = λ frame. frame.items in
    ap (map bytes_of) c.truncate.ensures.items
    ∙ sym (take-map bytes_of c.args.count c.self.inside.frames.items)
    ∙ ap (take c.args.count) c.self.view_is
