-- Small texts and what they become, by the definition.
use Rattle.std.specs.Prelude.{◌≡◌, ℕ, true, List, [], ◌∷◌, ◌++◌, map, pos, Option, Some, None, Result, Ok, Err, refl, codes}
use Rattle.ground.specs.declared.fault.FaultKind.{FaultKind}
use Rattle.ground.specs.declared.fault.FaultKind.TheVariants.{MacroLoop, BadDefine}
use Rattle.ground.specs.declared.token.Dialect.{Dialect}
use Rattle.ground.specs.declared.token.Dialect.TheVariants.{Ratfor, Efl}
use Rattle.ground.specs.declared.token.Token.{Token}
use Rattle.ground.specs.declared.token.TokenKind.{TokenKind}
use Rattle.ground.specs.declared.token.TokenKind.TheVariants.{Word, Number, LineEnd, TextEnd, Sign as SignToken}
use Rattle.ground.specs.declared.token.Sign.TheVariants.{Assign}
use Rattle.macro_define.specs.Answers.{Holds}
use Rattle.macro_define.specs.Expansion.{Stop, GatherState, file_made, include_made, first_gathering}

-- what the file p makes of this text
abbrev of_text : Dialect → List ℕ → Result GatherState Stop
of_text d text = file_made d (include_made d 10 (codes "p")) true (codes "p") text (record (first_gathering (Holds (λ name. None))) { files = codes "p" ∷ [] })

abbrev at : ℕ → ℕ → List TokenKind → List Token
at file n kinds = map (λ kind. record { kind = kind; place = record { file = file; line = n } }) kinds

abbrev tokens_of : Result GatherState Stop → Option (List Token)
tokens_of (Ok w) = Some w.made.tokens
tokens_of (Err stop) = None

abbrev fault_of : Result GatherState Stop → Option (FaultKind × (ℕ × List ℕ))
fault_of (Ok w) = None
fault_of (Err stop) = Some (stop.fault.kind, (stop.fault.place.line, stop.file))

-- a define and its use
define : tokens_of (of_text Ratfor (codes "define n 7" ++ 10 ∷ codes "k=n"))
    ≡ Some (at 0 1 (LineEnd ∷ []) ++ at 0 2 (Word (codes "k") ∷ SignToken Assign ∷ Number (pos 7) ∷ TextEnd ∷ []))
define = refl

-- EFL compares names without case
without_case : tokens_of (of_text Efl (codes "define N k" ++ 10 ∷ codes "n"))
    ≡ Some (at 0 1 (LineEnd ∷ []) ++ at 0 2 (Word (codes "k") ∷ TextEnd ∷ []))
without_case = refl

-- a name that is met inside its own replacement
loop : fault_of (of_text Ratfor (codes "define a b" ++ 10 ∷ codes "define b a" ++ 10 ∷ codes "k a")) ≡ Some (MacroLoop, (3, codes "p"))
loop = refl

-- a define that is not closed
unclosed : fault_of (of_text Ratfor (codes "define(a,1")) ≡ Some (BadDefine, (1, codes "p"))
unclosed = refl
