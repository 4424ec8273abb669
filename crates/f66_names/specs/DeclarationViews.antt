-- What a unit's declarations in memory speak of.
use Rattle.std.specs.Prelude.{List}
use Rattle.f66_tree.specs.Syntax.{Act}
use Rattle.f66_tree.specs.Units.{Context}
use Rattle.f66_tree.specs.Views.{header_of}
use Rattle.f66_names.specs.declared.declarations.Declarations.{Declarations}
use Rattle.f66_names.specs.ActViews.{acts_of}
use Rattle.f66_names.specs.Declaring.{context_by}

abbrev pub acts_in : Declarations → List Act
acts_in d = acts_of d.sayings.now

abbrev pub context_in : Declarations → Context
context_in d = context_by (header_of d.header.now) (acts_in d)
