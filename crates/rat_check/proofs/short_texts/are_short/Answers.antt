-- Where both sides have room, the statement is short.
use Rattle.std.proofs.Common.{sym, ◌∙◌}
use Rattle.f66_tree.specs.Views.{formula_of}
use Rattle.rat_check.proofs.ShortTexts.{short}
use Rattle.rat_check.proofs.short_texts.are_short.Goals as goal

pub returns-in-Some : goal.returns-in-Some
returns-in-Some c = λ yes. short c.room_behind-in-Some.result (formula_of c.args.place.now) (formula_of c.args.value.now) c.in-Some.room (sym c.is_some.ensures ∙ yes) c.room_behind-in-Some.ensures c.in-Some.ensures
