-- How deep the parentheses of what a part gives are: those of its expressions, and of its plain statements.
use Rattle.std.specs.Prelude.{ℕ, suc, ◌+◌, max, List}
use Rattle.grammar.specs.declared.language.Symbol.{Symbol}
use Rattle.grammar.specs.declared.language.Symbol.TheVariants.{Terminal, Nonterminal}
use Rattle.f66_tree.specs.Fields.{NoField}
use Rattle.f66_tree.specs.Syntax.{Formula}
use Rattle.f66_tree.specs.Views.{chained}
use Rattle.rat_tree.specs.Syntax.{Command, Empty, Block, If, IfElse, While, For, Repeat, RepeatUntil, Do, Switch, Break, Next, Return, Plain, Labelled, Commands, NoCommand, AndCommand, Clauses, NoClause, AndClause, RatRoutine}
use Rattle.rat_parse_table.specs.declared.table.Terminal.{Terminal as ATerminal}
use Rattle.rat_parse_table.specs.declared.table.Terminal.TheVariants as terminals
use Rattle.rat_parse_table.specs.declared.table.Nonterminal.{Nonterminal as ANonterminal}
use Rattle.rat_parse_table.specs.declared.table.Nonterminal.TheVariants as nonterminals
use Rattle.rat_parse_values.specs.Kinds.{LoopRest, ExpressionVal, ParameterVal, TransferVal, DeclarationVal, StatementVal, UnitVal}
use Rattle.rat_parse_values.specs.Kinds as part
use Rattle.rat_parse_values.specs.Values.{Val}
use Rattle.rat_parse_values.specs.Values as val
use Rattle.rat_parse_values.specs.Parts.{as_exprs}
use Rattle.rat_room.proofs.Weights.{if_any}
use Rattle.deck_laws.specs.Nesting.{deepest, nesting, nesting_all, arguments_nesting, sizes_nesting, declared_nesting, entry_nesting, fields_nesting, area_nesting, group_nesting, preset_nesting, act_nesting}

-- ---- commands ----

abbrev mutual
  pub depth_of : Command → ℕ
  depth_of (Empty p) = 0
  depth_of (Block p ss) = depth_in ss
  depth_of (If p e c) = max (nesting e) (depth_of c)
  depth_of (IfElse p e c d) = max (nesting e) (max (depth_of c) (depth_of d))
  depth_of (While p e c) = max (nesting e) (depth_of c)
  depth_of (For p a e b c) = max (if_any act_nesting a) (max (if_any nesting e) (max (if_any act_nesting b) (depth_of c)))
  depth_of (Repeat p c) = depth_of c
  depth_of (RepeatUntil p c e q) = max (depth_of c) (nesting e)
  depth_of (Do p x a b d c) = depth_of c
  depth_of (Switch p e cs) = max (nesting e) (depth_among cs)
  depth_of (Break p n) = 0
  depth_of (Next p n) = 0
  depth_of (Return p e) = if_any nesting e
  depth_of (Plain l p a) = act_nesting a
  depth_of (Labelled l p c) = depth_of c

  pub depth_in : Commands → ℕ
  depth_in NoCommand = 0
  depth_in (AndCommand c ss) = max (depth_of c) (depth_in ss)

  -- of the case expressions of clauses, and of their statements
  pub depth_among : Clauses → ℕ
  depth_among NoClause = 0
  depth_among (AndClause es fallback ss p cs) = max (nesting_all es) (max (depth_in ss) (depth_among cs))

abbrev pub depth_of_unit : RatRoutine → ℕ
depth_of_unit u = depth_in u.body

-- ---- parts of a text ----

abbrev of_expression : ExpressionVal → ℕ
of_expression (part.formula f) = nesting f
of_expression (part.located p f) = nesting f
of_expression (part.formulas fs) = deepest nesting fs
of_expression (part.joins js) = deepest (λ j. nesting j.1) js

abbrev of_parameter : ParameterVal → ℕ
of_parameter (part.pars ps) = sizes_nesting ps
of_parameter _ = 0

abbrev of_declaration : DeclarationVal → ℕ
of_declaration (part.declared d) = declared_nesting d
of_declaration (part.declareds ds) = deepest declared_nesting ds
of_declaration (part.area a) = area_nesting a
of_declaration (part.areas all) = deepest area_nesting all
of_declaration (part.groups all) = deepest group_nesting all
of_declaration (part.preset p) = preset_nesting p
of_declaration (part.presets all) = deepest preset_nesting all
of_declaration _ = 0

-- subscripts that are to stand behind a name
abbrev pub subscripts_depth : List Formula → ℕ
subscripts_depth fs = suc (deepest nesting fs)

abbrev pub of_list : LoopRest → ℕ
of_list r = deepest entry_nesting r.list

abbrev of_transfer : TransferVal → ℕ
of_transfer (part.entry e) = entry_nesting e
of_transfer (part.entries es) = deepest entry_nesting es
of_transfer (part.rest r) = of_list r
of_transfer (part.pending args r) = max (if_any subscripts_depth args) (of_list r)
of_transfer (part.field d) = fields_nesting (d NoField)
of_transfer (part.fields fs) = fields_nesting fs

abbrev of_statement : StatementVal → ℕ
of_statement (part.deed p a) = act_nesting a
of_statement (part.command p c) = depth_of c
of_statement (part.commands ss) = depth_in ss
of_statement (part.clause d) = depth_among (d NoClause)
of_statement (part.clauses cs) = depth_among cs

abbrev of_unit : UnitVal → ℕ
of_unit (part.heading p h) = 0
of_unit (part.routine u) = depth_of_unit u
of_unit (part.routines us) = deepest depth_of_unit us
of_unit (part.program p) = deepest depth_of_unit p.routines

abbrev pub depth : Val → ℕ
depth (val.expression x) = of_expression x
depth (val.parameter x) = of_parameter x
depth (val.declaration x) = of_declaration x
depth (val.transfer x) = of_transfer x
depth (val.statement x) = of_statement x
depth (val.unit x) = of_unit x
depth _ = 0

-- with the parentheses around them: of subscripts, and of the fields of a group
abbrev pub around_subscripts : Val → ℕ
around_subscripts (val.expression (part.formulas fs)) = subscripts_depth fs
around_subscripts _ = 0

abbrev pub around_fields : Val → ℕ
around_fields (val.transfer (part.fields fs)) = suc (fields_nesting fs)
around_fields _ = 0

abbrev pub any_depth : Val → ℕ
any_depth v = depth v + (around_subscripts v + around_fields v)

-- What a symbol gives, with the parentheses that the symbol has around it. The parenthesis that opens is one itself.
abbrev pub depth_at : Symbol ATerminal ANonterminal → Val → ℕ
depth_at (Terminal terminals.Open) v = suc (any_depth v)
depth_at (Terminal _) v = any_depth v
depth_at (Nonterminal nonterminals.Subscripts) v = subscripts_depth (as_exprs v)
depth_at (Nonterminal nonterminals.Element) v = subscripts_depth (as_exprs v)
depth_at (Nonterminal nonterminals.Arguments) v = around_subscripts v
depth_at (Nonterminal nonterminals.Actuals) v = arguments_nesting (chained (as_exprs v))
depth_at (Nonterminal nonterminals.Alias) v = group_nesting (as_exprs v)
depth_at (Nonterminal nonterminals.Counted) v = around_fields v
depth_at (Nonterminal nonterminals.ParMore) v = 0
depth_at (Nonterminal _) v = depth v
