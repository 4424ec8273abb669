-- What the loop over parts keeps.
use Rattle.std.proofs.Common.{List, map}
use Rattle.f66_tree.specs.Syntax.{PresetPart}
use Rattle.f66_tree.specs.Views.{preset_of}
use Rattle.rat_parse_table.specs.declared.table.Nonterminal.TheVariants as nonterminals
use Rattle.rat_parse_values.specs.Parts.{as_presets}
use Rattle.rat_descent.specs.Reading.{Reader, Lengthens}
use Rattle.rat_descent.proofs.aliases.presets.Given as goal

abbrev pub invariant-more : goal.invariant-more
invariant-more l =
    (all : List PresetPart) (s : Reader) → Lengthens nonterminals.PresetMore as_presets l.reader (map preset_of l.list.items) all s
    → Lengthens nonterminals.PresetMore as_presets l.initial.reader (map preset_of l.initial.list.items) all s
