-- The names in memory as a unit is lowered by them.
use Rattle.std.specs.Prelude.{ℕ}
use Rattle.efl_emit.specs.declared.naming.Naming.{Naming}
use Rattle.efl_emit.specs.Names.{home_of, callee_of, label_of, made_of, temp_of}
use Rattle.efl_lowered.specs.Naming as lowered

-- with room for so many temporaries
abbrev pub naming_in : Naming → ℕ → lowered.Naming
naming_in s room = record { home = home_of s; callee = callee_of s; label = λ n. label_of s; made = λ n. made_of s; temp = temp_of; room = λ n. room }
