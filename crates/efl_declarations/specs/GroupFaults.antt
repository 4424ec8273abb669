-- The first fault of the groups of a type, of an area and of a declaration, each of which breaks the bounds and sizes of its own
-- variables or members.
use Rattle.std.specs.Prelude.{List, [], Option, None}
use Rattle.std.specs.Option.{option_or}
use Rattle.ground.specs.declared.fault.Fault.{Fault}
use Rattle.ground.specs.declared.place.Place.{Place}
use Rattle.efl_tree.specs.Syntax.{Text, EflVar, EflType, Shape, EflGroups, NoGroup, AndGroup, EflDeclKind, Implicit, Initial, Variables, Area, Structure}
use Rattle.efl_scope.specs.DataTypes.{DataType}
use Rattle.efl_scope.specs.Scopes.{Blocks, data_type, behind}
use Rattle.efl_types.specs.declared.rule.TypeRule.{TypeRule}
use Rattle.efl_types.specs.Declarations.{variable_sizes}
use Rattle.efl_expressions.specs.FirstRule.{first_rule}
use Rattle.efl_reading.specs.Reading.{fault_at}

-- what breaks these rules at a place
abbrev pub fault_if : Place → List TypeRule → Option Fault
fault_if p rs = fault_at p (first_rule rs)

-- ---- groups ----

-- the variables or members of a group of this type
abbrev pub sizes_fault : Place → List Text → DataType → List EflVar → Option Fault
sizes_fault p formals t vs = fault_if p (variable_sizes formals t vs)

-- the groups of a shape, each before those within its type
abbrev mutual
  pub type_fault : Blocks → EflType → Option Fault
  type_fault bs (Shape o gs) = groups_fault bs gs
  type_fault bs _ = None

  pub groups_fault : Blocks → EflGroups → Option Fault
  groups_fault bs NoGroup = None
  groups_fault bs (AndGroup t vs p gs) = option_or (sizes_fault p [] (data_type bs t) vs) (option_or (type_fault bs t) (groups_fault (behind bs t) gs))

-- ---- declarations ----

-- the groups of a declaration
abbrev pub inner_fault : Blocks → EflDeclKind → Option Fault
inner_fault bs (Implicit rs t) = type_fault bs t
inner_fault bs (Initial ps) = None
inner_fault bs (Variables q t vs) = type_fault bs t
inner_fault bs (Area q gs) = groups_fault bs gs
inner_fault bs (Structure x gs) = groups_fault bs gs

-- what a declaration that gives no values breaks by itself
abbrev pub outer_fault : Place → List Text → Blocks → EflDeclKind → Option Fault
outer_fault p formals bs (Variables q t vs) = sizes_fault p formals (data_type bs t) vs
outer_fault p formals bs _ = None

-- the declaration, before its groups
abbrev pub declaration_fault : Place → List Text → Blocks → EflDeclKind → Option Fault
declaration_fault p formals bs k = option_or (outer_fault p formals bs k) (inner_fault bs k)
