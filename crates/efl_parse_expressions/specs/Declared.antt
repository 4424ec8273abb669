-- What types and declarations are made of.
use Rattle.std.specs.Prelude.{ℕ, ℤ, pos, negsuc, neg_ℤ, Bool, Option, None, Some, List, [], ◌∷◌, codes, if◌then◌else◌}
use Rattle.efl_tree.specs.declared.declaration.EflBound.{EflBound}
use Rattle.efl_tree.specs.declared.declaration.EflConst.{EflConst}
use Rattle.efl_tree.specs.declared.declaration.EflConst.TheVariants as constants
use Rattle.efl_tree.specs.Syntax.{Text, EflVar, EflType, Integer, Logical, Real, Complex, Named, Shape, EflGroups, EflDeclKind, Variables, Structure}
use Rattle.efl_parse_values.specs.Values.{Val}
use Rattle.efl_parse_values.specs.Parts.{sign_in, number_in, integer_in, is_minus, is_word}

-- the opposite of a number, which no token has below zero
abbrev pub opposite : ℤ → ℤ
opposite (pos n) = neg_ℤ (pos n)
opposite (negsuc n) = pos 0

abbrev pub signed : Val → ℤ → ℤ
signed v z = if is_minus (sign_in v) then opposite z else z

-- the type that a word is
abbrev pub plain_type : Val → Bool → EflType
plain_type v long =
    if is_word (codes "REAL") v then Real long
    else (if is_word (codes "COMPLEX") v then Complex long else (if is_word (codes "LOGICAL") v then Logical else Integer))

-- the type behind `struct` and a name
abbrev pub type_named : Text → Option EflGroups → EflType
type_named x None = Named x
type_named x (Some gs) = Shape (Some x) gs

-- of a structure's name, its groups and variables, if any
abbrev pub outlined : Text → Option EflGroups → List EflVar → EflDeclKind
outlined x None vs = Variables None (Named x) vs
outlined x (Some gs) [] = Structure x gs
outlined x (Some gs) (v ∷ vs) = Variables None (Shape (Some x) gs) (v ∷ vs)

abbrev pub bounded : ℤ → Option (Option ℤ) → EflBound
bounded z None = record { low = None; high = Some z }
bounded z (Some o) = record { low = Some z; high = o }

-- a single letter stands twice
abbrev pub letters : ℕ → Option ℕ → ℕ × ℕ
letters a None = (a, a)
letters a (Some z) = (a, z)

-- a constant behind a count, or a number alone
abbrev pub counted : Val → Option EflConst → ℕ × EflConst
counted v None = (1, constants.Int (integer_in v))
counted v (Some c) = (number_in v, c)
