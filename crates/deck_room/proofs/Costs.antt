-- What the cards of statements take at most, in bytes, by what the statements say; and what commands cost by the statements that
-- they become.
--
-- No text passes twenty cards, which have 1,460 bytes. A statement that may cost less is one that a text makes of fewer than three
-- tokens, each of which pays for 500 bytes: a jump, a call without arguments, a name that is declared, the test of a case.
use Rattle.std.specs.Prelude.{ℕ, ◌+◌, List, [], ◌∷◌, Option, Some, None}
use Rattle.f66_tree.specs.Syntax.{Text, Header, MainUnit, SubUnit, FuncUnit, DataUnit, Formula, Int, Truth, Letter, Ref, Group, Pair, Formulas, NoFormula, AndFormula, Par, Declared, Area, Act, Goto, When, Invoke, Continue, Stop, Return, Typed, Dimension, Common, Line, Routine}
use Rattle.rat_tree.specs.Syntax.{Command, Commands, Clauses, RatRoutine}
use Rattle.rat_room.proofs.Weights.{total}
use Rattle.rat_room.proofs.CodeWeights.{cases_weight, command_weight, commands_weight, clauses_weight}

-- ---- statements of FORTRAN ----

-- what the tokens of an expression pay for: it has one, or two and more
abbrev pub worth : Formula → ℕ
worth (Int z) = 500
worth (Truth b) = 500
worth (Letter c) = 500
worth (Ref x) = 500
worth _ = 1000

-- the test of a case
abbrev pub test_cost : Formula → ℕ
test_cost (Pair op (Ref x) (Group e)) = 460 + worth e
test_cost _ = 1460

abbrev pub when_cost : Formula → Act → ℕ
when_cost e (Goto l) = test_cost e
when_cost e _ = 1460

abbrev pub call_cost : Formulas → ℕ
call_cost NoFormula = 100
call_cost (AndFormula e es) = 1460

abbrev pub sizes_worth : List Par → ℕ
sizes_worth [] = 0
sizes_worth (p ∷ ps) = 500

abbrev pub declared_worth : Declared → ℕ
declared_worth d = 500 + sizes_worth d.sizes

abbrev pub block_worth : Option Text → ℕ
block_worth None = 0
block_worth (Some x) = 500

abbrev pub area_worth : Area → ℕ
area_worth a = block_worth a.name + total declared_worth a.list

abbrev pub act_cost : Act → ℕ
act_cost (Goto l) = 100
act_cost (When e a) = when_cost e a
act_cost (Invoke x es) = call_cost es
act_cost Continue = 30
act_cost (Stop n) = 100
act_cost Return = 30
act_cost (Typed t ds) = 460 + total declared_worth ds
act_cost (Dimension ds) = 460 + total declared_worth ds
act_cost (Common areas) = 460 + total area_worth areas
act_cost _ = 1460

abbrev pub line_cost : Line → ℕ
line_cost line = act_cost line.act

abbrev pub formals_cost : List Text → ℕ
formals_cost [] = 30
formals_cost (d ∷ ds) = 1460

abbrev pub header_cost : Header → ℕ
header_cost MainUnit = 0
header_cost (SubUnit x ds) = formals_cost ds
header_cost (FuncUnit t x ds) = 1460
header_cost DataUnit = 30

-- with its END line
abbrev pub unit_cost : Routine → ℕ
unit_cost unit = header_cost unit.header + (total line_cost unit.lines + 10)

-- ---- commands ----

abbrev pub cases_cost : Formulas → ℕ
cases_cost es = cases_weight act_cost es

abbrev pub command_cost : Command → ℕ
command_cost c = command_weight act_cost c

abbrev pub commands_cost : Commands → ℕ
commands_cost ss = commands_weight act_cost ss

abbrev pub clauses_cost : Clauses → ℕ
clauses_cost cs = clauses_weight act_cost cs

abbrev pub routine_cost : RatRoutine → ℕ
routine_cost u = header_cost u.header + commands_cost u.body
