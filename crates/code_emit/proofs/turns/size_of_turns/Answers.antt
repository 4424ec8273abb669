-- Each turn has two instructions.
use Rattle.std.proofs.Common.{◌≡◌, ◌+◌, List, [], ◌∷◌, length, map, refl, arith, rules}
use Rattle.f66_tree.specs.Syntax.{Line}
use Rattle.code_gen.specs.Statements.{turns_size}
use Rattle.code_emit.specs.declared.coded_unit.Turn.{Turn}
use Rattle.code_emit.specs.Turns.{closer_in}
use Rattle.code_emit.proofs.turns.size_of_turns.Goals as goal

turns_long : (lines : List Line) (turns : List Turn) → turns_size (map (closer_in lines) turns) ≡ length turns + length turns
turns_long lines [] = refl
turns_long lines (t ∷ turns) = let h = turns_long lines turns in omega arith

pub returns-in-Ok : goal.returns-in-Ok
returns-in-Ok g c =
    let same = turns_long ((g.U.NamedUnit.layout c.args.unit.now).lines (g.U.NamedUnit.number c.args.unit.now)) c.args.turns.now in
    search (rules, same)
