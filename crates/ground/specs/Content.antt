-- What a storage unit holds: nothing, an integer or a truth value.
use Rattle.std.specs.Prelude.{ℤ, Bool}

pub data Content : Type 0 where
  Nothing : Content
  Whole : ℤ → Content
  Truth : Bool → Content
