-- Where the text of a define ends.
use Rattle.std.specs.Prelude.{◌≡◌, ⊤, true, List, [], ◌∷◌}
use Rattle.ground.specs.declared.token.Token.{Token}
use Rattle.macro_define.specs.Defines.{Enclosed, Closed, Broken, CutOff, ends_text}
use Rattle.macro_define.specs.declared.defines.Enclosed.{Enclosed as End}
use Rattle.macro_define.specs.declared.defines.Enclosed.TheVariants as ends

-- how the text of a define in parentheses ends, with the tokens after it
abbrev pub IsEnd : Enclosed → End → List Token → Type 0
IsEnd told (ends.Closed text) rest = told ≡ Closed text.items rest
IsEnd told ends.Broken rest = told ≡ Broken
IsEnd told ends.CutOff rest = (told ≡ CutOff) × (rest ≡ [])

-- the line ends here, or there are no more tokens
abbrev pub IsAtEnd : List Token → Type 0
IsAtEnd [] = ⊤
IsAtEnd (t ∷ ts) = ends_text t.kind ≡ true
