-- What a run of a linked program goes by, as its tables say.
use Rattle.std.specs.Prelude.{ℕ, nat_eq, List, [], ◌∷◌, length, unwrap_or, Option, None, Some, if◌then◌else◌}
use Rattle.std.specs.List.{slice_get}
use Rattle.ground.specs.Content.{Content, Nothing}
use Rattle.ground.specs.declared.place.Place.{Place}
use Rattle.f66_tree.specs.Syntax.{MainUnit, Routine}
use Rattle.f66_tree.specs.Units.{Context, Linkage}
use Rattle.f66_program.specs.Initial.{Preset, presets_of}
use Rattle.f66_program.specs.Linking.{IsWhole, IsLinkage}
use Rattle.f66_program.specs.Mentions.{context_of}
use Rattle.linker.specs.CallViews.{units_in}
use Rattle.program_storage.specs.Numbers.{number_in_program}
use Rattle.whole_program.specs.declared.linked.Linked.{Linked}
use Rattle.whole_program.specs.Linked.{IsLinked, found_in}

-- what names mean in a unit that may be there
abbrev pub context_or : Option Routine → Context
context_or None = record { header = MainUnit; notes = [] }
context_or (Some r) = context_of r

-- the value of the first place with this number, where places have these numbers
abbrev pub value_at : List ℕ → List Preset → ℕ → Content
value_at (n ∷ ns) (p ∷ ps) m = if nat_eq n m then p.value else value_at ns ps m
value_at _ _ m = Nothing

abbrev pub linkage_of : Linked → Linkage
linkage_of l = record {
  context = λ u. context_or (slice_get (units_in l.calls) u);
  find = found_in l;
  main = l.main;
  deep = length (units_in l.calls);
  number = λ u x o. unwrap_or (number_in_program l.storage u x o) 0;
  first = value_at l.numbers.items (presets_of (units_in l.calls));
}

-- the tables of a whole program are a linkage of its units
abbrev pub LinkedIsLinkage : Type 0
LinkedIsLinkage = (l : Linked) (finish : Place) → IsWhole (record { units = units_in l.calls; finish = finish }) → IsLinked (units_in l.calls) l → IsLinkage (units_in l.calls) (linkage_of l)
