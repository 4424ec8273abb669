-- What a value is as a content, and which values are in range.
use Rattle.ground.specs.declared.value.Value.{Value}
use Rattle.ground.specs.declared.value.Value.TheVariants.{Int, Log}
use Rattle.ground.specs.Arithmetic.{IsInRange}
use Rattle.ground.specs.Content.{Content, Whole, Truth}

abbrev pub content : Value → Content
content (Int z) = Whole z
content (Log b) = Truth b

-- an integer is in range
abbrev pub IsSmall : Value → Type 0
IsSmall (Int z) = IsInRange z
IsSmall (Log b) = Unit {0}
