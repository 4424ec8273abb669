-- What the names of variables and structures mean (Feldman: blocks; structures; variables; implicit). Both are one kind of names:
-- a name has one meaning in a block. Procedures, labels, areas and the members of each shape are kinds of their own.
use Rattle.std.specs.Prelude.{ℕ, nat_le, ◌&&◌, List, [], ◌∷◌, ◌++◌, map, reverse, Option, Some, None, unwrap_or, if◌then◌else◌}
use Rattle.std.specs.List.{list_any}
use Rattle.std.specs.Option.{option_or}
use Rattle.std.specs.Str.{bytes_eq}
use Rattle.rule_table.specs.Words.{find_map}
use Rattle.ground.specs.declared.value.Kind.TheVariants as kinds
use Rattle.efl_tree.specs.declared.declaration.EflBound.{EflBound}
use Rattle.efl_tree.specs.Syntax.{Text, EflVar, EflType, Integer, Logical, Real, Complex, Named, Shape, EflGroups, NoGroup, AndGroup, EflDeclKind, Implicit, Initial, Variables, Area, Structure, EflDecl, EflProcedure}
use Rattle.efl_scope.specs.DataTypes.{DataType, Scalar, Structured, Array, NoType, Members, NoMember, AndMember}

-- A variable, the block that declares it, and the common area that it is in. A block is told by where its statement stands in the
-- procedure: the outer one by the empty list.
pub record Variable : Type 0 where
  pub name : Text
  pub home : List ℕ
  pub kind : DataType
  pub area : Option Text

pub record Shaped : Type 0 where
  pub name : Text
  pub members : Members

-- The variables of a block, wherever it declares them, and the structures whose `}` stands before.
pub record Block : Type 0 where
  pub variables : List Variable
  pub structures : List Shaped

-- the blocks around, the innermost first
abbrev pub Blocks : Type 0
Blocks = List Block

pub data Meaning : Type 0 where
  IsVariable : Variable → Meaning
  IsStructure : Members → Meaning

abbrev pub structure_of : Text → Shaped → Option Meaning
structure_of x s = if bytes_eq x s.name then Some (IsStructure s.members) else None

abbrev pub variable_of : Text → Variable → Option Meaning
variable_of x v = if bytes_eq x v.name then Some (IsVariable v) else None

abbrev pub in_block : Text → Block → Option Meaning
in_block x b = option_or (find_map (structure_of x) b.structures) (find_map (variable_of x) b.variables)

-- an inner block hides the outer ones
abbrev pub meaning : Blocks → Text → Option Meaning
meaning bs x = find_map (in_block x) bs

abbrev pub members_if : Option Meaning → Option Members
members_if (Some (IsStructure ms)) = Some ms
members_if _ = None

abbrev pub variable_if : Option Meaning → Option Variable
variable_if (Some (IsVariable v)) = Some v
variable_if _ = None

-- the shape of a structure of this name
abbrev pub shape_named : Blocks → Text → Option Members
shape_named bs x = members_if (meaning bs x)

-- ---- types ----

-- a structure becomes known, in the innermost block; one in a header's type, where no block is, is no name
abbrev pub knowing : Option Text → Members → Blocks → Blocks
knowing None ms bs = bs
knowing (Some x) ms [] = []
knowing (Some x) ms (b ∷ bs) = record b { structures = b.structures ++ record { name = x; members = ms } ∷ [] } ∷ bs

abbrev pub bounded : DataType → List EflBound → DataType
bounded t [] = t
bounded t (b ∷ bs) = Array (b ∷ bs) t

abbrev pub of_bounds : DataType → EflVar → DataType
of_bounds t v = bounded t v.bounds

abbrev pub members_of : DataType → List EflVar → Members → Members
members_of t [] rest = rest
members_of t (v ∷ vs) rest = AndMember v.name (of_bounds t v) (members_of t vs rest)

abbrev pub structured : Option Members → DataType
structured None = NoType
structured (Some ms) = Structured ms

-- the type that a text gives among these blocks, and what is known behind it
abbrev mutual
  pub data_type : Blocks → EflType → DataType
  data_type bs Integer = Scalar kinds.Integer
  data_type bs Logical = Scalar kinds.Logical
  data_type bs (Real long) = NoType
  data_type bs (Complex long) = NoType
  data_type bs (Named x) = structured (shape_named bs x)
  data_type bs (Shape o gs) = Structured (shape bs gs)

  pub shape : Blocks → EflGroups → Members
  shape bs NoGroup = NoMember
  shape bs (AndGroup a vs p gs) = members_of (data_type bs a) vs (shape (behind bs a) gs)

  pub behind : Blocks → EflType → Blocks
  behind bs (Shape o gs) = knowing o (shape bs gs) (behind_groups bs gs)
  behind bs _ = bs

  pub behind_groups : Blocks → EflGroups → Blocks
  behind_groups bs NoGroup = bs
  behind_groups bs (AndGroup a vs p gs) = behind_groups (behind bs a) gs

abbrev pub behind_declaration : Blocks → EflDeclKind → Blocks
behind_declaration bs (Implicit rs a) = behind bs a
behind_declaration bs (Initial ps) = bs
behind_declaration bs (Variables q a vs) = behind bs a
behind_declaration bs (Area q gs) = behind_groups bs gs
behind_declaration bs (Structure x gs) = behind bs (Shape (Some x) gs)

abbrev pub behind_all : Blocks → List EflDecl → Blocks
behind_all bs [] = bs
behind_all bs (d ∷ ds) = behind_all (behind_declaration bs d.kind) ds

-- ---- variables ----

abbrev pub variable : List ℕ → Option Text → DataType → EflVar → Variable
variable home q t v = record { name = v.name; home = home; kind = of_bounds t v; area = q }

-- those of the lists of areas stand in the outer block
abbrev pub group_variables : Text → Blocks → EflGroups → List Variable
group_variables q bs NoGroup = []
group_variables q bs (AndGroup a vs p gs) = map (variable [] (Some q) (data_type bs a)) vs ++ group_variables q (behind bs a) gs

abbrev pub declared_by : List ℕ → Blocks → EflDeclKind → List Variable
declared_by home bs (Variables q a vs) = map (variable home q (data_type bs a)) vs
declared_by home bs (Area q gs) = group_variables q bs gs
declared_by home bs _ = []

abbrev pub declared_in : List ℕ → Blocks → List EflDecl → List Variable
declared_in home bs [] = []
declared_in home bs (d ∷ ds) = declared_by home bs d.kind ++ declared_in home (behind_declaration bs d.kind) ds

-- A block of these declarations, before the first of them. For what types mean, of its variables only the names matter.
abbrev pub block_with : List Variable → Block
block_with vs = record { variables = vs; structures = [] }

abbrev pub untyped : Variable → Variable
untyped v = record { name = v.name; home = []; kind = NoType; area = None }

abbrev pub naming : List EflDecl → Block
naming ds = block_with (map untyped (declared_in [] [] ds))

-- an inner block, before its first declaration
abbrev pub entering : List ℕ → List EflDecl → Blocks → Blocks
entering home ds bs = block_with (declared_in home (naming ds ∷ bs) ds) ∷ bs

-- ---- implicit ----

-- the types that letters give
pub record Implied : Type 0 where
  pub first : ℕ
  pub last : ℕ
  pub kind : DataType

abbrev pub implied_by : Blocks → EflDeclKind → List Implied
implied_by bs (Implicit rs a) = map (λ r. record { first = r.0; last = r.1; kind = data_type bs a }) rs
implied_by bs _ = []

abbrev pub implied_in : Blocks → List EflDecl → List Implied
implied_in bs [] = []
implied_in bs (d ∷ ds) = implied_by bs d.kind ++ implied_in (behind_declaration bs d.kind) ds

abbrev pub gives : ℕ → Implied → Option DataType
gives c i = if nat_le i.first c && nat_le c i.last then Some i.kind else None

-- the later rule counts; without one I to N are integers, and the others would be real
abbrev pub by_letter : List Implied → ℕ → DataType
by_letter rules c = unwrap_or (find_map (gives c) (reverse rules)) (if nat_le 73 c && nat_le c 78 then Scalar kinds.Integer else NoType)

abbrev pub implicit_type : List Implied → Text → DataType
implicit_type rules [] = NoType
implicit_type rules (c ∷ cs) = by_letter rules c

-- ---- procedures ----

abbrev pub implied_of : EflProcedure → List Implied
implied_of u = implied_in (naming u.declarations ∷ []) u.declarations

-- a formal without a declaration is a variable of its letter's type
abbrev pub undeclared : List Implied → List Variable → List Text → List Variable
undeclared rules vs [] = []
undeclared rules vs (x ∷ xs) =
    if list_any (λ v. bytes_eq x v.name) vs then undeclared rules vs xs
    else record { name = x; home = []; kind = implicit_type rules x; area = None } ∷ undeclared rules vs xs

abbrev pub own_variables : EflProcedure → List Variable
own_variables u = declared_in [] (naming u.declarations ∷ []) u.declarations

-- the outer block of a procedure, before its first declaration
abbrev pub outer : EflProcedure → Blocks
outer u = block_with (own_variables u ++ undeclared (implied_of u) (own_variables u) u.formals) ∷ []
