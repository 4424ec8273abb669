-- What a library holds, and what a fetch gives.
use Rattle.std.specs.Prelude.{ℕ, List, [], ◌∷◌, map, None, Some, if◌then◌else◌, Vec, String, string_bytes}
use Rattle.std.specs.Str.{bytes_eq}
use Rattle.std.specs.declared.option.Option.{Option}
use Rattle.std.specs.declared.alloc.Global.{Global}

-- texts with their names, by their bytes
abbrev pub texts_of : List (String Global × Vec ℕ Global) → List (List ℕ × List ℕ)
texts_of names = map (λ entry. (string_bytes entry.0, entry.1.items)) names

-- the bytes under this name
abbrev pub held_bytes : List (List ℕ × List ℕ) → List ℕ → Option (List ℕ)
held_bytes [] name = None
held_bytes (entry ∷ rest) name = if bytes_eq entry.0 name then Some entry.1 else held_bytes rest name

-- the bytes that a fetch gave
abbrev pub fetched : Option (Vec ℕ Global) → Option (List ℕ)
fetched None = None
fetched (Some v) = Some v.items
