-- So far the names of the variables before are listed.
use Rattle.std.proofs.Common.{◌≡◌, ◌++◌, drop, map}
use Rattle.std.specs.List.{enumerate_from}
use Rattle.efl_whole.specs.CallViews.{numbers_of}
use Rattle.efl_units.specs.Homes.{home_in}
use Rattle.efl_units.proofs.choice.homes.Given as goal

abbrev pub invariant-loop-number : goal.invariant-loop-number
invariant-loop-number l =
    l.names.items ++ map (λ x. home_in (numbers_of l.numbers) x.0 x.1) (enumerate_from l.number (drop l.number l.variables)) ≡ map (λ x. home_in (numbers_of l.numbers) x.0 x.1) (enumerate_from 0 l.variables)
