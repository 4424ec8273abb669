-- Which names of a part stand in memory: their blocks, the types that letters give, the procedures, and what its own one gives.
use Rattle.std.specs.Prelude.{◌≡◌, ℕ, nat_eq, List, [], ◌∷◌, Option, Some, None, find, reverse}
use Rattle.std.specs.HashMap.{get_by}
use Rattle.std.specs.Str.{bytes_eq}
use Rattle.rule_table.specs.Words.{find_map}
use Rattle.efl_tree.specs.Syntax.{Text}
use Rattle.efl_scope.specs.DataTypes.{DataType}
use Rattle.efl_scope.specs.Scopes.{Implied, gives}
use Rattle.efl_types.specs.Signatures as signatures
use Rattle.efl_scoped.specs.Numbers.{Table}
use Rattle.efl_expressions.specs.declared.types.DataType as types
use Rattle.efl_expressions.specs.declared.types.Structure.{Structure}
use Rattle.efl_expressions.specs.Forms.{arity_of}
use Rattle.efl_expressions.specs.TypeViews.{IsType, TellsApart}
use Rattle.efl_expressions.specs.NameViews.{Know}
use Rattle.efl_names.specs.declared.letters.Letters.{Letters}
use Rattle.efl_names.specs.declared.units.Outcome.{Outcome}
use Rattle.efl_names.specs.declared.units.Outcome.TheVariants as outcomes
use Rattle.efl_names.specs.declared.units.Signature.{Signature}
use Rattle.efl_names.specs.declared.units.Callee.{Callee}
use Rattle.efl_names.specs.declared.units.Callee.TheVariants as callees
use Rattle.efl_names.specs.declared.units.Units.{Units}
use Rattle.efl_names.specs.declared.names.Names.{Names}

abbrev pub IsTypeIfAny : Table → List Structure → Option DataType → Option types.DataType → Type 0
IsTypeIfAny f ss None None = Unit {0}
IsTypeIfAny f ss (Some t) (Some d) = IsType f ss t d
IsTypeIfAny f ss _ _ = ⊥

abbrev pub AreTypes : Table → List Structure → List DataType → List types.DataType → Type 0
AreTypes f ss [] [] = Unit {0}
AreTypes f ss (t ∷ ts) (d ∷ ds) = IsType f ss t d × AreTypes f ss ts ds
AreTypes f ss ts ds = ⊥

-- ---- letters ----

abbrev pub letter_in : Letters → ℕ → Option types.DataType
letter_in letters c = get_by (nat_eq c) letters.table

-- the later rule counts
abbrev pub given : List Implied → ℕ → Option DataType
given rules c = find_map (gives c) (reverse rules)

abbrev pub AreLetters : Table → List Structure → List Implied → Letters → Type 0
AreLetters f ss rules letters = (c : ℕ) → IsTypeIfAny f ss (given rules c) (letter_in letters c)

-- ---- procedures ----

-- what a procedure gives
abbrev pub result_of : Outcome → signatures.Result
result_of outcomes.Nothing = signatures.Nothing
result_of (outcomes.Gives k) = signatures.Gives k
result_of outcomes.Unknown = signatures.Unknown

abbrev pub IsSignatureIfAny : Table → List Structure → Option signatures.Signature → Option Signature → Type 0
IsSignatureIfAny f ss None None = Unit {0}
IsSignatureIfAny f ss (Some s) (Some t) = AreTypes f ss s.formals t.formals.items × (s.result ≡ result_of t.outcome)
IsSignatureIfAny f ss _ _ = ⊥

abbrev pub unit_in : Units → Text → Option Signature
unit_in units x = get_by (λ k. bytes_eq x k.now) units.table

abbrev pub first_unit : List signatures.Signature → Text → Option signatures.Signature
first_unit us x = find (λ s. bytes_eq x s.name) us

abbrev pub AreUnits : Table → List Structure → List signatures.Signature → Units → Type 0
AreUnits f ss us units = (x : Text) → IsSignatureIfAny f ss (first_unit us x) (unit_in units x)

-- what is called
abbrev pub IsCallee : Table → List Structure → signatures.Callee → Callee → Type 0
IsCallee f ss (signatures.Procedure s) (callees.Procedure ts o) = AreTypes f ss s.formals ts.now × (s.result ≡ result_of o)
IsCallee f ss (signatures.Intrinsic a) (callees.Intrinsic b) = arity_of b ≡ a
IsCallee f ss signatures.Missing callees.Missing = Unit {0}
IsCallee f ss _ _ = ⊥

-- ---- the names of a part ----

pub record Stands (f : Table) (n : signatures.Names) (m : Names) : Type 0 where
  pub apart : TellsApart f
  pub blocks : Know f m.structures.now.list.items n.blocks m.blocks.now
  pub letters : AreLetters f m.structures.now.list.items n.implied m.letters.now
  pub units : AreUnits f m.structures.now.list.items n.units m.units.now
  pub result : n.result ≡ result_of m.outcome
