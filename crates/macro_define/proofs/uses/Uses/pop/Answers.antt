-- Behind the innermost text there is none of its macro.
use Rattle.std.proofs.Common.{◌≡◌, ◌==◌, ◌++◌, List, Option, Some, None, IfSome, false, subst, ℕ}
use Rattle.std.specs.List.{list_any}
use Rattle.std.specs.Option.{option_to_list}
use Rattle.std.specs.HashMap.{HashMap}
use Rattle.macro_define.specs.declared.uses.Use.{Use}
use Rattle.macro_define.specs.Placed.{IsPlaced}
use Rattle.macro_define.proofs.PlacedLemmas.{popped-alone}
use Rattle.macro_define.proofs.uses.Uses.pop.Goals as goal

ended : {S : Type 0} (us more : List Use) (o : Option Use) (places : HashMap ℕ ℕ S) → IsPlaced us places → us ≡ more ++ option_to_list o
    → IfSome o (λ text. list_any (λ u. u.number == text.number) more ≡ false)
ended us more None places placed e = Prim.tt
ended us more (Some text) places placed e = popped-alone more text places (subst (λ vs. IsPlaced vs places) e placed)

pub returns-clause-ended : goal.returns-clause-ended
returns-clause-ended c = ended c.self.inside.stack.items c.pop.new.self.items c.pop.result c.self.inside.places c.self.invariant c.pop.ensures.items
