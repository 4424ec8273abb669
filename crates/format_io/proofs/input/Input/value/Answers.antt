-- A magnitude with its sign is the integer of the digits, where it is in range.
use Rattle.std.proofs.Common.{arith, rules, w64, ◌∙◌}
use Rattle.std.proofs.lemmas.Int.{to_z-of_z}
use Rattle.f66_tree.specs.Fielded.{sign_of}
use Rattle.format_io.proofs.FieldFacts.{value_is}
use Rattle.format_io.proofs.input.Input.value.Goals as goal

pub returns-in-Some : goal.returns-in-Some
returns-in-Some c = let h = c.with_sign.ensures in let g = c.in-Some.ensures in value_is (sign_of c.args.negative) _ c.in-Some.n _ c.args.self.now _ (to_z-of_z w64 c.with_sign.result (search rules) ∙ h) g (let r = c.requires.from in let n = c.if-from-width.false in omega (arith, r, n))
