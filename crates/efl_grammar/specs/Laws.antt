-- That the parse table derives the trees of the published grammar, and no others, and accepts and refuses by it.
use Rattle.std.specs.Prelude.{◌≡◌, ◌↔◌, List}
use Rattle.ground.specs.declared.fault.Fault.{Fault}
use Rattle.ground.specs.declared.place.Place.{Place}
use Rattle.ground.specs.declared.token.Token.{Token}
use Rattle.grammar.specs.declared.language.Symbol.{Symbol}
use Rattle.grammar.specs.declared.language.Symbol.TheVariants.{Nonterminal}
use Rattle.grammar.specs.Grammar.{Tree, Derives, value_of, IsProgram}
use Rattle.grammar.specs.Limits as limits
use Rattle.grammar.specs.Answers as answers
use Rattle.efl_tree.specs.Syntax.{EflExpr, EflType, EflVar, EflPreset, EflProgram}
use Rattle.efl_parse_table.specs.declared.table.Terminal.{Terminal as ATerminal}
use Rattle.efl_parse_table.specs.declared.table.Nonterminal.{Nonterminal as ANonterminal}
use Rattle.efl_parse_table.specs.declared.table.Nonterminal.TheVariants as nonterminals
use Rattle.efl_parse_table.specs.declared.table.Production.{Production}
use Rattle.efl_parse_table.specs.Limits.{meter}
use Rattle.efl_parse_values.specs.Values.{Val, expr, typed, vars, preset, program}
use Rattle.efl_parse.specs.Efl.{grammar}
use Rattle.rat_grammar.specs.Tokens.{Tokens, place_at}
use Rattle.rat_grammar.specs.Laws.{IsSome}
use Rattle.efl_grammar.specs.Expressions.{Expr}
use Rattle.efl_grammar.specs.Declarations.{AType, Vars, Preset}
use Rattle.efl_grammar.specs.Programs.{Program}
use Rattle.efl_grammar.specs.Answers.{IsAccepted, IsFirstFault}

-- a derivation by the table of the tokens of the first list that stand before the second, and the value that it gives
pub record Found (x : Symbol ATerminal ANonterminal) (a b : Tokens) (v : Val) : Type 0 where
  pub tree : Tree Token Production
  pub derives : Derives grammar tree x a b
  pub gives : value_of grammar tree ≡ v

-- Of tokens that others follow, the tree of an expression is the one that the table gives.
pub record ExpressionsArePublished : Type 0 where
  pub read : (a b : Tokens) (e : EflExpr) → Found (Nonterminal nonterminals.Expr) a b (expr e) → Expr a b e
  pub found : (a b : Tokens) (e : EflExpr) → IsSome b → Expr a b e → Found (Nonterminal nonterminals.Expr) a b (expr e)

-- Of tokens that others follow, so are the type, with the place of its first token, the variables and the preset.
pub record DeclaredPartsArePublished : Type 0 where
  pub type_read : (a b : Tokens) (p : Place) (t : EflType) → Found (Nonterminal nonterminals.Type) a b (typed p t) → (p ≡ place_at a) × AType a b t
  pub type_found : (a b : Tokens) (t : EflType) → IsSome b → AType a b t → Found (Nonterminal nonterminals.Type) a b (typed (place_at a) t)
  pub vars_read : (a b : Tokens) (vs : List EflVar) → Found (Nonterminal nonterminals.Variables) a b (vars vs) → Vars a b vs
  pub vars_found : (a b : Tokens) (vs : List EflVar) → IsSome b → Vars a b vs → Found (Nonterminal nonterminals.Variables) a b (vars vs)
  pub preset_read : (a b : Tokens) (x : EflPreset) → Found (Nonterminal nonterminals.Preset) a b (preset x) → Preset a b x
  pub preset_found : (a b : Tokens) (x : EflPreset) → IsSome b → Preset a b x → Found (Nonterminal nonterminals.Preset) a b (preset x)

-- The program of a text is the one that the table gives, and there is no other.
pub record ProgramsArePublished : Type 0 where
  pub read : (ts : List Token) (r : EflProgram) → IsProgram grammar ts (program r) → Program ts r
  pub found : (ts : List Token) (r : EflProgram) → Program ts r → IsProgram grammar ts (program r)
  pub one : (ts : List Token) (r s : EflProgram) → Program ts r → Program ts s → r ≡ s

-- A text is accepted with a tree by the table exactly where it is by the published grammar, and it has the same first fault.
pub record AnswersArePublished : Type 0 where
  pub accepted : (ts : List Token) (r : EflProgram) → limits.IsAccepted grammar meter ts (program r) ↔ IsAccepted ts r
  pub faults : (ts : List Token) (fault : Fault) → answers.IsFirstFault grammar meter ts fault ↔ IsFirstFault ts fault
