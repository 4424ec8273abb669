-- Capitals of the first bytes are the first of the capitals.
use Rattle.std.proofs.Common.{◌∙◌, ap, sym, take, map}
use Rattle.std.specs.Char.{to_ascii_uppercase}
use Rattle.std.specs.List.{take-map}
use Rattle.ground.proofs.text.Short.capitals.Goals as goal

pub returns : goal.returns
returns c =
    ap (take c.self.inside.size) c.make_ascii_uppercase.ensures.after
    ∙ take-map to_ascii_uppercase c.self.inside.size c.self.inside.bytes
    ∙ ap (map to_ascii_uppercase) c.self.view_is
