-- Calls in memory.
use Rattle.f66_tree.specs.Views.{formulas_of, routine_of}
use Rattle.f66_tree.specs.Syntax.{Routine}
use Rattle.f66_program.specs.Calls.{Call}
use Rattle.f66_mentions.specs.declared.unit_names.UnitNames.{UnitNames}
use Rattle.linker.specs.declared.site.Site.{Site}
use Rattle.linker.specs.Sites as program

abbrev pub call_of : Site → Call
call_of s = record { by_call = s.by_call; name = s.name.now; actuals = formulas_of s.actuals.now }

abbrev pub site_of : Site → program.Site
site_of s = record { unit = s.unit; line = s.line; place = s.place; call = call_of s }

abbrev pub routine_named : UnitNames → Routine
routine_named n = routine_of n.unit.now
