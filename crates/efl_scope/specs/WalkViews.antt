-- What a walk over a procedure has seen, in memory.
use Rattle.efl_scope.specs.declared.walk.Walk as walks
use Rattle.efl_scope.specs.declared.blocks.Kinds.{Kinds}
use Rattle.efl_scope.specs.declared.blocks.Blocks.{Blocks}
use Rattle.efl_scope.specs.declared.declarations.Opened as blocks
use Rattle.efl_scope.specs.Sights.{Walk, Sight, Opened}
use Rattle.efl_scope.specs.NameViews.{names_in, declared_of}
use Rattle.efl_scope.specs.BlockViews.{kinds_of, known_of}

abbrev pub walk_of : walks.Walk → Walk
walk_of w = record { labels = declared_of w.labels; areas = names_in w.areas; fault = w.fault }

abbrev pub sight_of : Kinds → Blocks → walks.Walk → Sight
sight_of kinds outside w = record { known = kinds_of kinds (known_of outside); walk = walk_of w }

abbrev pub opened_of : blocks.Opened → Blocks → walks.Walk → Opened
opened_of b outside w = record { declared = declared_of b.declared; sight = sight_of b.kinds outside w }
