-- The limit on the tokens of a text bounds what is gathered of it.
use Rattle.std.specs.Prelude.{◌≡◌, ◌≤◌, ℕ, List, length, Ok}
use Rattle.ground.specs.declared.token.Dialect.{Dialect}
use Rattle.macro_define.specs.Answers.{Known}
use Rattle.macro_define.specs.Expansion.{GatherState, gathered}

abbrev pub GatheredAreFew : Type 0
GatheredAreFew = (d : Dialect) (name : List ℕ) (known : Known) (w : GatherState) → gathered d name known ≡ Ok w → length w.made.tokens ≤ 200000
