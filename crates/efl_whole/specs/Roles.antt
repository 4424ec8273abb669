-- What names are in blocks, as far as calls ask: structures, variables that parentheses lead into, and other variables; and how a walk
-- over declarations finds it.
use Rattle.std.specs.Prelude.{ℕ, nat_le, ◌&&◌, List, [], ◌∷◌, Option, Some, None, if◌then◌else◌}
use Rattle.std.specs.Option.{option_or}
use Rattle.std.specs.Str.{bytes_eq}
use Rattle.efl_tree.specs.declared.declaration.EflBound.{EflBound}
use Rattle.efl_tree.specs.Syntax.{Text, EflVar, EflType, Named, Shape, EflGroups, NoGroup, AndGroup, EflDeclKind, Implicit, Initial, Variables, Area, Structure, EflDecl}
use Rattle.efl_whole.specs.declared.roles.Role.{Role}
use Rattle.efl_whole.specs.declared.roles.Role.TheVariants.{Indexed, Single}
use Rattle.efl_whole.specs.declared.roles.Role.TheVariants as roles

abbrev pub Roles : Type 0
Roles = Text → Option Role

abbrev pub no_role : Roles
no_role x = None

-- a block among those around
abbrev pub inside : Roles → Roles → Roles
inside own outside x = option_or (own x) (outside x)

-- a variable, where no name like it is there
abbrev pub with_variable : Text → Role → Roles → Roles
with_variable x r f y = option_or (f y) (if bytes_eq y x then Some r else None)

abbrev pub with_structure : Text → Roles → Roles
with_structure x f y = if bytes_eq y x then Some roles.Structure else f y

abbrev pub with_structure_if : Option Text → Roles → Roles
with_structure_if None f = f
with_structure_if (Some x) f = with_structure x f

-- ---- variables ----

-- of the type that a name gives
abbrev pub named_role : Option Role → Role
named_role (Some roles.Structure) = Indexed
named_role _ = Single

abbrev pub type_role : Roles → EflType → Role
type_role f (Named x) = named_role (f x)
type_role f (Shape o gs) = Indexed
type_role f _ = Single

-- an array by its bounds
abbrev pub variable_role : Role → List EflBound → Role
variable_role r [] = r
variable_role r (b ∷ bs) = Indexed

abbrev pub with_variables : Role → List EflVar → Roles → Roles
with_variables r [] f = f
with_variables r (v ∷ vs) f = with_variables r vs (with_variable v.name (variable_role r v.bounds) f)

-- ---- structures that become known ----

abbrev mutual
  pub behind_type : EflType → Roles → Roles
  behind_type (Shape o gs) f = with_structure_if o (behind_groups gs f)
  behind_type _ f = f

  pub behind_groups : EflGroups → Roles → Roles
  behind_groups NoGroup f = f
  behind_groups (AndGroup t vs p gs) f = behind_groups gs (behind_type t f)

abbrev pub behind_kind : EflDeclKind → Roles → Roles
behind_kind (Implicit rs t) f = behind_type t f
behind_kind (Initial ps) f = f
behind_kind (Variables q t vs) f = behind_type t f
behind_kind (Area q gs) f = behind_groups gs f
behind_kind (Structure x gs) f = with_structure x (behind_groups gs f)

abbrev pub behind_all : List EflDecl → Roles → Roles
behind_all [] f = f
behind_all (d ∷ ds) f = behind_all ds (behind_kind d.kind f)

-- ---- the names of a block as its types see them, of whose variables only the names matter ----

abbrev pub hide_variables : List EflVar → Roles → Roles
hide_variables [] f = f
hide_variables (v ∷ vs) f = hide_variables vs (with_variable v.name Single f)

abbrev pub hide_groups : EflGroups → Roles → Roles
hide_groups NoGroup f = f
hide_groups (AndGroup t vs p gs) f = hide_groups gs (hide_variables vs f)

abbrev pub hide_by : EflDeclKind → Roles → Roles
hide_by (Variables q t vs) f = hide_variables vs f
hide_by (Area q gs) f = hide_groups gs f
hide_by _ f = f

abbrev pub hide_all : List EflDecl → Roles → Roles
hide_all [] f = f
hide_all (d ∷ ds) f = hide_all ds (hide_by d.kind f)

-- ---- letters of undeclared formals, of which the later rule counts ----

abbrev pub no_letters : ℕ → Role
no_letters c = Single

abbrev pub with_letter : Role → ℕ × ℕ → (ℕ → Role) → ℕ → Role
with_letter r x f c = if nat_le x.0 c && nat_le c x.1 then r else f c

abbrev pub with_letters : Role → List (ℕ × ℕ) → (ℕ → Role) → ℕ → Role
with_letters r [] f = f
with_letters r (x ∷ xs) f = with_letters r xs (with_letter r x f)

abbrev pub letter_role : (ℕ → Role) → Text → Role
letter_role f [] = Single
letter_role f (c ∷ cs) = f c

abbrev pub with_formals : (ℕ → Role) → List Text → Roles → Roles
with_formals l [] f = f
with_formals l (x ∷ xs) f = with_formals l xs (with_variable x (letter_role l x) f)

-- ---- the variables of a block ----

-- the names as types see them, the variables, and what letters give
pub record Listed : Type 0 where
  pub names : Roles
  pub variables : Roles
  pub letters : ℕ → Role

abbrev pub list_group : Roles → EflType → List EflVar → Listed → Listed
list_group outside t vs l = record {
  names = behind_type t l.names;
  variables = with_variables (type_role (inside l.names outside) t) vs l.variables;
  letters = l.letters;
}

abbrev pub list_groups : Roles → EflGroups → Listed → Listed
list_groups outside NoGroup l = l
list_groups outside (AndGroup t vs p gs) l = list_groups outside gs (list_group outside t vs l)

abbrev pub list_by : Roles → EflDeclKind → Listed → Listed
list_by outside (Implicit rs t) l = record {
  names = behind_type t l.names;
  variables = l.variables;
  letters = with_letters (type_role (inside l.names outside) t) rs l.letters;
}
list_by outside (Initial ps) l = l
list_by outside (Variables q t vs) l = list_group outside t vs l
list_by outside (Area q gs) l = list_groups outside gs l
list_by outside (Structure x gs) l = record { names = with_structure x (behind_groups gs l.names); variables = l.variables; letters = l.letters }

abbrev pub list_all : Roles → List EflDecl → Listed → Listed
list_all outside [] l = l
list_all outside (d ∷ ds) l = list_all outside ds (list_by outside d.kind l)

-- before the first declaration
abbrev pub starting : Roles → Listed
starting names = record { names = names; variables = no_role; letters = no_letters }

abbrev pub listed : Roles → List EflDecl → Listed
listed outside ds = list_all outside ds (starting (hide_all ds no_role))
