-- Each unit of an accepted program becomes statements with at most 102 open parentheses.
use Rattle.std.proofs.Common.{◌≤◌, arith, List, [], ◌∷◌, Option, Some, None}
use Rattle.std.specs.List.{AllByRecursion}
use Rattle.f66_tree.specs.Syntax.{Formula, Formulas, NoFormula, AndFormula, Act}
use Rattle.rat_tree.specs.Syntax.{Command, Empty, Block, If, IfElse, While, For, Repeat, RepeatUntil, Do, Switch, Break, Next, Return, Plain, Labelled, Commands, NoCommand, AndCommand, Clauses, NoClause, AndClause, RatRoutine}
use Rattle.rat_room.proofs.Weights.{if_any}
use Rattle.deck_laws.specs.Nesting.{deepest, nesting, nesting_all, act_nesting}
use Rattle.rat_shapes.specs.Shapes.{AllBecome, IsLow, ParsedIsShallow}
use Rattle.rat_shapes.proofs.Depths.{depth_of, depth_in, depth_among, depth_of_unit}
use Rattle.rat_shapes.proofs.Codes.{IfAny, AllFine, Holds, HoldIn, HoldAmong, AreGood, unit_good}
use Rattle.rat_shapes.proofs.Trees.{program_deep}

abbrev IsFine : Formula → Type 0
IsFine e = nesting e ≤ 100

low_statements : AreGood IsFine IsLow
low_statements =
    record {
      jumps = λ l. omega arith;
      continues = omega arith;
      stops = omega arith;
      returns = omega arith;
      loops = λ l x a b c. omega arith;
      declares = λ x. omega arith;
      stores = λ x e h. omega (arith, h);
      leaves = λ e l h. omega (arith, h);
      tests = λ x e l h. omega (arith, h);
    }

-- ---- commands that are no deeper ----

formula_fine : (e : Option Formula) → if_any nesting e ≤ 100 → IfAny IsFine e
formula_fine None h = tt
formula_fine (Some e) h = h

act_fine : (a : Option Act) → if_any act_nesting a ≤ 100 → IfAny IsLow a
act_fine None h = tt
act_fine (Some a) h = omega (arith, h)

all_fine : (es : Formulas) → nesting_all es ≤ 100 → AllFine IsFine IsLow es
all_fine NoFormula h = tt
all_fine (AndFormula e es) h = (omega (arith, h), all_fine es (omega (arith, h)))

mutual
  holds : (c : Command) → depth_of c ≤ 100 → Holds IsFine IsLow c
  holds (Empty p) h = tt
  holds (Block p ss) h = hold_in ss h
  holds (If p e c) h = (omega (arith, h), holds c (omega (arith, h)))
  holds (IfElse p e c d) h = (omega (arith, h), holds c (omega (arith, h)), holds d (omega (arith, h)))
  holds (While p e c) h = (omega (arith, h), holds c (omega (arith, h)))
  holds (For p a e b c) h = (act_fine a (omega (arith, h)), formula_fine e (omega (arith, h)), act_fine b (omega (arith, h)), holds c (omega (arith, h)))
  holds (Repeat p c) h = holds c h
  holds (RepeatUntil p c e q) h = (holds c (omega (arith, h)), omega (arith, h))
  holds (Do p x a b d c) h = holds c h
  holds (Switch p e cs) h = (omega (arith, h), hold_among cs (omega (arith, h)))
  holds (Break p n) h = tt
  holds (Next p n) h = tt
  holds (Return p e) h = formula_fine e h
  holds (Plain l p a) h = omega (arith, h)
  holds (Labelled l p c) h = holds c h

  hold_in : (ss : Commands) → depth_in ss ≤ 100 → HoldIn IsFine IsLow ss
  hold_in NoCommand h = tt
  hold_in (AndCommand c ss) h = (holds c (omega (arith, h)), hold_in ss (omega (arith, h)))

  hold_among : (cs : Clauses) → depth_among cs ≤ 100 → HoldAmong IsFine IsLow cs
  hold_among NoClause h = tt
  hold_among (AndClause es fallback ss p cs) h = (all_fine es (omega (arith, h)), hold_in ss (omega (arith, h)), hold_among cs (omega (arith, h)))

all_shallow : (us : List RatRoutine) → deepest depth_of_unit us ≤ 100 → AllByRecursion (AllBecome IsLow) us
all_shallow [] low = tt
all_shallow (u ∷ us) low =
    ((λ made spare last. unit_good IsFine IsLow low_statements made spare u.header u.place last u.body (hold_in u.body (omega (arith, low)))), all_shallow us (omega (arith, low)))

pub parsed_is_shallow : ParsedIsShallow
parsed_is_shallow ts tree accepted = all_shallow tree.routines (program_deep ts tree accepted)
