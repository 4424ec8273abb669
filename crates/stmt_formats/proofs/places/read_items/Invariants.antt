-- The tokens before led here.
use Rattle.std.proofs.Common.{◌≡◌, drop, [], None}
use Rattle.stmt_reader.specs.Formats.{At, take_all}
use Rattle.stmt_formats.specs.States.{place_of}
use Rattle.stmt_formats.proofs.places.read_items.Given as goal

abbrev pub invariant-loop-token : goal.invariant-loop-token
invariant-loop-token l = take_all (place_of l.place) (drop l.token-index l.tokens) ≡ take_all (At [] [] None) l.tokens
