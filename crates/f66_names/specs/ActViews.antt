-- What a unit in memory says of names, as statements of FORTRAN.
use Rattle.std.specs.Prelude.{List, map}
use Rattle.f66_tree.specs.Syntax.{Act, Ref, Assign, Sign, When, Loop, Continue}
use Rattle.f66_tree.specs.Views.{formula_of, par_of, act_of}
use Rattle.f66_names.specs.declared.saying.Saying.{Saying}
use Rattle.f66_names.specs.declared.saying.Saying.TheVariants as says

-- the statement with the same names, each standing in the same way
abbrev pub act_said : Saying → Act
act_said (says.Act a) = act_of a.now
act_said (says.Condition e) = When (formula_of e.now) Continue
act_said (says.Value e) = Sign (formula_of e.now) 0 0 0
act_said (says.Counting x a b c) = Loop 0 x.now (par_of a.now) (par_of b.now) (par_of c.now)
act_said (says.Returned x e) = Assign (Ref x.now) (formula_of e.now)

abbrev pub acts_of : List Saying → List Act
acts_of sayings = map act_said sayings
