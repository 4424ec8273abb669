-- Where in its procedure a part stands, and where the block stands that declares a variable.
use Rattle.std.specs.Prelude.{◌≡◌, ℕ, List, [], ◌∷◌, Option, Some, None, option_map}
use Rattle.efl_tree.specs.Syntax.{Text, EflDeclKind, Area, EflDecl, EflProcedure}
use Rattle.efl_scope.specs.Scopes.{Variable, in_block, meaning, variable_if, outer}
use Rattle.efl_scope.specs.Scopes as scopes
use Rattle.efl_expressions.specs.declared.names.Meaning as meanings
use Rattle.efl_expressions.specs.declared.names.Meaning.TheVariants as m
use Rattle.efl_expressions.specs.NameViews.{entry_in}
use Rattle.efl_blocks.specs.declared.homes.Position.{Position}
use Rattle.efl_blocks.specs.declared.homes.Position.TheBlock.{Top, Inside'}
use Rattle.efl_blocks.specs.declared.homes.Homes.{Homes}
use Rattle.efl_blocks.specs.declared.homes.Homes.TheBlock as around

-- the numbers, from the inside
abbrev pub position_of : Position → List ℕ
position_of Top = []
position_of (Inside' n p rest) = n ∷ position_of rest

-- what the block at this position tells of a name that it gives this meaning
abbrev pub home_by : List ℕ → meanings.Meaning → Option (List ℕ)
home_by h (m.Variable d) = Some h
home_by h (m.Structure d) = None

abbrev pub home_if : List ℕ → Option meanings.Meaning → Option (List ℕ) → Option (List ℕ)
home_if h None beyond = beyond
home_if h (Some o) beyond = home_by h o

-- an inner block hides the outer ones
abbrev pub home_in : Homes → Text → Option (List ℕ)
home_in around.Outside x = None
home_in (around.Inside' p b q outside) x = home_if (position_of p.now) (entry_in b.now x) (home_in outside x)

-- a variable of this name that stands in the outer block is the one that the procedure has there
abbrev pub IsOuterOne : EflProcedure → Text → Variable → Type 0
IsOuterOne u x v = v.home ≡ [] → variable_if (meaning (outer u) x) ≡ Some v

-- of each name in which block of the procedure it is a variable
pub record AreHomes (u : EflProcedure) (bs : scopes.Blocks) (homes : Homes) : Type 0 where
  pub told : (x : Text) → home_in homes x ≡ option_map (λ v. v.home) (variable_if (meaning bs x))
  pub outer : (x : Text) (v : Variable) → variable_if (meaning bs x) ≡ Some v → IsOuterOne u x v

-- all variables of a block stand in it
pub record IsHome (u : EflProcedure) (b : scopes.Block) (h : List ℕ) : Type 0 where
  pub home : (x : Text) (v : Variable) → variable_if (in_block x b) ≡ Some v → v.home ≡ h
  pub outer : (x : Text) (v : Variable) → variable_if (in_block x b) ≡ Some v → IsOuterOne u x v

-- blocks of which the innermost stands at this position, with the homes of those around it
abbrev pub HomesWithin : EflProcedure → scopes.Blocks → List ℕ → Homes → Type 0
HomesWithin u [] h beyond = ⊥
HomesWithin u (b ∷ bs) h beyond = IsHome u b h × AreHomes u bs beyond

-- Lists of common stand in the outer block alone: their variables are the outer block's wherever they are declared.
abbrev pub IsOutside : List ℕ → EflDeclKind → Type 0
IsOutside (n ∷ h) (Area q gs) = ⊥
IsOutside h k = Unit {0}

abbrev pub AreOutside : List ℕ → List EflDecl → Type 0
AreOutside h [] = Unit {0}
AreOutside h (d ∷ ds) = IsOutside h d.kind × AreOutside h ds
