-- What a unit with the types of its names means.
use Rattle.f66_tree.specs.Syntax.{Routine}
use Rattle.f66_tree.specs.Units.{Context}
use Rattle.f66_mentions.specs.UnitViews.{context_in}
use Rattle.linker.specs.declared.types.TypedUnit.{TypedUnit}
use Rattle.linker.specs.SiteViews.{routine_named}

abbrev pub routine_typed : TypedUnit → Routine
routine_typed t = routine_named t.names

-- what names mean in the unit
abbrev pub context_typed : TypedUnit → Context
context_typed t = context_in t.names
