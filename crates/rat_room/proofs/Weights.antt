-- How many labels and names the parts of a text give at most: the labels that are made for a statement and those that stand
-- before one, and the names that its parts declare, use, call or list, each once more for each place where it stands.
use Rattle.std.specs.Prelude.{ℕ, ◌+◌, List, [], ◌∷◌, length, Option, Some, None}
use Rattle.f66_tree.specs.Syntax.{Header, Formula, Ref, Item, Group, Plus, Minus, Not, Pair, Formulas, NoFormula, AndFormula, Par, Constant, Named, Declared, Area, PresetPart, Entry, One, Many, Entries, NoEntry, AndEntry, Act, Assign, Computed, Sign, When, Loop, Invoke, Read, Write, Typed, Dimension, Common, Equivalence, Preset}
use Rattle.rat_tree.specs.Syntax.{Command, Empty, Block, If, IfElse, While, For, Repeat, RepeatUntil, Do, Switch, Break, Next, Return, Plain, Labelled, Commands, NoCommand, AndCommand, Clauses, NoClause, AndClause}
use Rattle.rat_parse_values.specs.Kinds.{Range, LoopRest, ExpressionVal, ParameterVal, TransferVal, DeclarationVal, StatementVal, UnitVal}
use Rattle.rat_parse_values.specs.Kinds as part
use Rattle.rat_parse_values.specs.Values.{Val}
use Rattle.rat_parse_values.specs.Values as val
use Rattle.rat_lower.specs.Emitted.{header_names}

abbrev pub total : {A : Type 0} → (A → ℕ) → List A → ℕ
total f [] = 0
total f (x ∷ xs) = f x + total f xs

abbrev pub if_any : {A : Type 0} → (A → ℕ) → Option A → ℕ
if_any f None = 0
if_any f (Some x) = f x

-- ---- statements of FORTRAN ----

abbrev mutual
  pub of_formula : Formula → ℕ
  of_formula (Ref x) = 1
  of_formula (Item x es) = 1 + of_formulas es
  of_formula (Group a) = of_formula a
  of_formula (Plus a) = of_formula a
  of_formula (Minus a) = of_formula a
  of_formula (Not a) = of_formula a
  of_formula (Pair op a b) = of_formula a + of_formula b
  of_formula _ = 0

  pub of_formulas : Formulas → ℕ
  of_formulas NoFormula = 0
  of_formulas (AndFormula e es) = of_formula e + of_formulas es

abbrev pub of_par : Par → ℕ
of_par (Constant z) = 0
of_par (Named x) = 1

-- the variable and the parameters of a DO
abbrev pub of_counting : Par → Par → Par → ℕ
of_counting a b c = 1 + (of_par a + (of_par b + of_par c))

abbrev mutual
  pub of_entry : Entry → ℕ
  of_entry (One e) = of_formula e
  of_entry (Many es x a b c) = of_entries es + of_counting a b c

  pub of_entries : Entries → ℕ
  of_entries NoEntry = 0
  of_entries (AndEntry e es) = of_entry e + of_entries es

abbrev pub of_declared : Declared → ℕ
of_declared d = 1 + total of_par d.sizes

-- the names in common blocks, and the places that DATA gives values
abbrev pub of_area : Area → ℕ
of_area a = total of_declared a.list

abbrev pub of_preset : PresetPart → ℕ
of_preset p = total of_formula p.places

abbrev pub of_act : Act → ℕ
of_act (Assign x e) = of_formula x + of_formula e
of_act (Computed ls x) = 1
of_act (Sign e l m k) = of_formula e
of_act (When e a) = of_formula e + of_act a
of_act (Loop l x a b c) = of_counting a b c
of_act (Read u l es) = of_par u + of_entries es
of_act (Write u l es) = of_par u + of_entries es
of_act (Typed t ds) = total of_declared ds
of_act (Dimension ds) = total of_declared ds
of_act (Invoke x es) = 1 + of_formulas es
of_act (Common areas) = total of_area areas
of_act (Equivalence groups) = total (total of_formula) groups
of_act (Preset parts) = total of_preset parts
of_act _ = 0

-- ---- commands ----

-- a label
abbrev pub one : ℕ → ℕ
one l = 1

abbrev mutual
  pub of_command : Command → ℕ
  of_command (Empty p) = 0
  of_command (Block p ss) = of_commands ss
  of_command (If p e c) = 1 + (of_formula e + of_command c)
  of_command (IfElse p e c d) = 2 + (of_formula e + (of_command c + of_command d))
  of_command (While p e c) = 3 + (of_formula e + of_command c)
  of_command (For p a e b c) = 3 + (if_any of_act a + (if_any of_formula e + (if_any of_act b + of_command c)))
  of_command (Repeat p c) = 3 + of_command c
  of_command (RepeatUntil p c e q) = 3 + (of_command c + of_formula e)
  of_command (Do p x a b d c) = 2 + (of_counting a b d + of_command c)
  of_command (Switch p e cs) = 1 + (of_formula e + of_clauses cs)
  of_command (Break p n) = 0
  of_command (Next p n) = 0
  of_command (Return p e) = 1 + if_any of_formula e
  of_command (Plain l p a) = if_any one l + of_act a
  of_command (Labelled l p c) = 1 + of_command c

  pub of_commands : Commands → ℕ
  of_commands NoCommand = 0
  of_commands (AndCommand c ss) = of_command c + of_commands ss

  pub of_clauses : Clauses → ℕ
  of_clauses NoClause = 0
  of_clauses (AndClause es fallback ss p cs) = 1 + (of_formulas es + (of_commands ss + of_clauses cs))

-- ---- parts of a text ----

abbrev pub of_range : Range → ℕ
of_range r = of_par r.first + (of_par r.last + of_par r.step)

abbrev pub of_rest : LoopRest → ℕ
of_rest r = 1 + (total of_entry r.list + of_range r.range)

abbrev pub of_expression : ExpressionVal → ℕ
of_expression (part.formula f) = of_formula f
of_expression (part.located p f) = of_formula f
of_expression (part.formulas fs) = total of_formula fs
of_expression (part.joins js) = total (λ j. of_formula j.1) js

abbrev pub of_parameter : ParameterVal → ℕ
of_parameter (part.par p) = of_par p
of_parameter (part.pars ps) = total of_par ps
of_parameter (part.range r) = of_range r
of_parameter (part.names xs) = length xs
of_parameter _ = 0

abbrev pub of_declaration : DeclarationVal → ℕ
of_declaration (part.declared d) = of_declared d
of_declaration (part.declareds ds) = total of_declared ds
of_declaration (part.area a) = of_area a
of_declaration (part.areas all) = total of_area all
of_declaration (part.groups all) = total (total of_formula) all
of_declaration (part.preset p) = of_preset p
of_declaration (part.presets all) = total of_preset all
of_declaration _ = 0

abbrev pub of_transfer : TransferVal → ℕ
of_transfer (part.entry e) = of_entry e
of_transfer (part.entries es) = total of_entry es
of_transfer (part.rest r) = of_rest r
of_transfer (part.pending args r) = if_any (total of_formula) args + of_rest r
of_transfer _ = 0

abbrev pub of_statement : StatementVal → ℕ
of_statement (part.deed p a) = of_act a
of_statement (part.command p c) = of_command c
of_statement (part.commands ss) = of_commands ss
of_statement (part.clause d) = of_clauses (d NoClause)
of_statement (part.clauses cs) = of_clauses cs

abbrev pub of_header : Header → ℕ
of_header h = length (header_names h)

-- what stands around a unit is not counted
abbrev pub of_unit : UnitVal → ℕ
of_unit (part.heading p h) = of_header h
of_unit (part.routine u) = of_header u.header + of_commands u.body
of_unit _ = 0

abbrev pub weight : Val → ℕ
weight (val.expression x) = of_expression x
weight (val.parameter x) = of_parameter x
weight (val.declaration x) = of_declaration x
weight (val.transfer x) = of_transfer x
weight (val.statement x) = of_statement x
weight (val.unit x) = of_unit x
weight _ = 0
