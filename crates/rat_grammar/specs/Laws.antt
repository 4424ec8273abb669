-- That the parse table derives the trees of the published grammar, and no others, and accepts and refuses by it.
use Rattle.std.specs.Prelude.{◌≡◌, ◌↔◌, List, [], ◌∷◌}
use Rattle.ground.specs.declared.fault.Fault.{Fault}
use Rattle.ground.specs.declared.token.Token.{Token}
use Rattle.f66_tree.specs.Syntax.{Formula}
use Rattle.grammar.specs.declared.language.Symbol.{Symbol}
use Rattle.grammar.specs.declared.language.Symbol.TheVariants.{Nonterminal}
use Rattle.grammar.specs.Grammar.{Tree, Derives, value_of, IsProgram}
use Rattle.grammar.specs.Limits as limits
use Rattle.grammar.specs.Answers as answers
use Rattle.rat_tree.specs.Syntax.{RatProgram}
use Rattle.rat_parse_table.specs.declared.table.Terminal.{Terminal as ATerminal}
use Rattle.rat_parse_table.specs.declared.table.Nonterminal.{Nonterminal as ANonterminal}
use Rattle.rat_parse_table.specs.declared.table.Nonterminal.TheVariants as nonterminals
use Rattle.rat_parse_table.specs.declared.table.Production.{Production}
use Rattle.rat_parse_table.specs.Limits.{meter}
use Rattle.rat_parse_values.specs.Values.{Val, formula, program}
use Rattle.rat_parse.specs.Ratfor.{grammar}
use Rattle.rat_grammar.specs.Tokens.{Tokens}
use Rattle.rat_grammar.specs.Expressions.{Expr}
use Rattle.rat_grammar.specs.Programs.{Program}
use Rattle.rat_grammar.specs.Answers.{IsAccepted, IsFirstFault}

-- a derivation by the table of the tokens of the first list that stand before the second, and the value that it gives
pub record Found (x : Symbol ATerminal ANonterminal) (a b : Tokens) (v : Val) : Type 0 where
  pub tree : Tree Token Production
  pub derives : Derives grammar tree x a b
  pub gives : value_of grammar tree ≡ v

-- there is a token
abbrev pub IsSome : Tokens → Type 0
IsSome [] = ⊥
IsSome (t ∷ ts) = Unit {0}

-- Of tokens that others follow, the formula of an expression is the one that the table gives.
pub record ExpressionsArePublished : Type 0 where
  pub read : (a b : Tokens) (f : Formula) → Found (Nonterminal nonterminals.Expr) a b (formula f) → Expr a b f
  pub found : (a b : Tokens) (f : Formula) → IsSome b → Expr a b f → Found (Nonterminal nonterminals.Expr) a b (formula f)

-- The program of a text is the one that the table gives, and there is no other.
pub record ProgramsArePublished : Type 0 where
  pub read : (ts : List Token) (r : RatProgram) → IsProgram grammar ts (program r) → Program ts r
  pub found : (ts : List Token) (r : RatProgram) → Program ts r → IsProgram grammar ts (program r)
  pub one : (ts : List Token) (r s : RatProgram) → Program ts r → Program ts s → r ≡ s

-- A text is accepted with a tree by the table exactly where it is by the published grammar, and it has the same first fault.
pub record AnswersArePublished : Type 0 where
  pub accepted : (ts : List Token) (r : RatProgram) → limits.IsAccepted grammar meter ts (program r) ↔ IsAccepted ts r
  pub faults : (ts : List Token) (fault : Fault) → answers.IsFirstFault grammar meter ts fault ↔ IsFirstFault ts fault
