-- What is known behind parts of a program: the first fault, and the places that count.
use Rattle.std.specs.Prelude.{List}
use Rattle.efl_tree.specs.Syntax.{EflProcedure}
use Rattle.efl_scope.specs.Parts.{Part}
use Rattle.efl_storage.specs.Firsts.{AreFirsts}
use Rattle.efl_storage.specs.Counted.{Counted}
use Rattle.efl_reading.specs.declared.walk.Walk.{Walk}
use Rattle.efl_reading.specs.Reading.{Behind}

pub record Read (us : List EflProcedure) (vs : List Part) (w : Walk) : Type 0 where
  pub tells : Behind us vs w.progress
  pub counts : Counted us vs w.storage
  pub firsts : AreFirsts us w.firsts
