-- The names before are texts.
use Rattle.std.proofs.Common.{◌≡◌, map, take}
use Rattle.macro_define.proofs.whole_text.texts_of.Given as goal

abbrev pub invariant-loop-name : goal.invariant-loop-name
invariant-loop-name l = l.texts.items ≡ map (λ k. k.items) (take l.name-index l.names)
