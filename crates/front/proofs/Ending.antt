-- The last token of a text ends it in the published grammars.
use Rattle.std.proofs.Common.{◌≡◌, List, sym, subst}
use Rattle.std.specs.Prelude.{[], ◌∷◌}
use Rattle.ground.specs.declared.token.Token.{Token}
use Rattle.ground.specs.declared.token.TokenKind.TheVariants as kinds
use Rattle.macro_define.specs.GatherAnswers as gather
use Rattle.rat_grammar.specs.Relation as relation
use Rattle.rat_grammar.specs.Tokens.{TextEnd, one}

-- a token of that kind is the end of a text
text_end : (t : Token) → t.kind ≡ kinds.TextEnd → TextEnd (t ∷ []) []
text_end t e = subst (λ k. TextEnd (record { kind = k; place = t.place } ∷ []) []) (sym e) one

pub ends : (ts : List Token) → gather.EndsText ts → relation.EndsText ts
ends ts h = (h.0, h.1 ∷ [], h.2, text_end h.1 h.3)
