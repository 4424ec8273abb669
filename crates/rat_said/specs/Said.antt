-- The unit of FORTRAN that says what a unit of Ratfor says, statement by statement in reading order: each of its parts at its place, as
-- the statements with the same names. It is not run, since none of its statements jumps; but names mean in it what they mean in the
-- source, it has the same COMMON, EQUIVALENCE and DATA, and calls the same units.
use Rattle.std.specs.Prelude.{List, [], ◌∷◌, map}
use Rattle.std.specs.List.{flat_map}
use Rattle.f66_tree.specs.Syntax.{Header, Act, Continue, Line, Routine}
use Rattle.f66_program.specs.Linking.{Program}
use Rattle.rat_tree.specs.Syntax.{RatRoutine, RatProgram}
use Rattle.rat_check.specs.Parts.{Part, unit_parts}
use Rattle.rat_check.specs.Said.{said_by}

-- a part that says nothing of names stands as a CONTINUE
abbrev pub or_continue : List Act → List Act
or_continue [] = Continue ∷ []
or_continue (a ∷ more) = a ∷ more

-- all that a part says has its label and its place
abbrev pub said_line : Part → Act → Line
said_line v a = record { label = v.label; place = v.place; act = a }

abbrev pub part_lines : Header → Part → List Line
part_lines h v = map (said_line v) (or_continue (said_by h v.form))

abbrev pub said_lines : Header → List Part → List Line
said_lines h vs = flat_map (part_lines h) vs

abbrev pub said_routine : RatRoutine → Routine
said_routine u = record { header = u.header; lines = said_lines u.header (unit_parts u.body); place = u.place }

abbrev pub said_program : RatProgram → Program
said_program p = record { units = map said_routine p.routines; finish = p.finish }
