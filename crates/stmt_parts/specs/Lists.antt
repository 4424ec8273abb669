-- Lists in memory, as plain data, and what comes behind what was read.
use Rattle.std.specs.Prelude.{ℕ, zero, suc, Bool, true, false, drop, List, [], ◌∷◌, ◌++◌, Option, Some, None, Vec, map}
use Rattle.std.specs.Global.{Global}
use Rattle.f66_tree.specs.declared.expression.Expr.{Expr}
use Rattle.f66_tree.specs.Syntax.{Text, Formula, Declared, Area, PresetPart, Act, Computed}
use Rattle.f66_tree.specs.Views.{formula_of}
use Rattle.stmt_reader.specs.declared.token.Token.{Token}
use Rattle.stmt_reader.specs.Declarations.{presets_in}
use Rattle.stmt_reader.specs.Splitting.{Pieces}

-- what tokens give, behind what was read
abbrev pub onto : {A : Type 0} → List A → Option (List A) → Option (List A)
onto before None = None
onto before (Some all) = Some (before ++ all)

-- one more behind what was read
abbrev pub with_last : {A : Type 0} → List A → Option A → Option (List A)
with_last before None = None
with_last before (Some a) = Some (before ++ a ∷ [])

-- a list in memory, where there is one
abbrev pub list_if : {A B : Type 0} → (A → B) → Option (Vec A Global) → Option (List B)
list_if f None = None
list_if f (Some list) = Some (map f list.items)

abbrev pub all_pieces : Pieces → List (List Token)
all_pieces r = r.0 ∷ r.1

abbrev pub area_with : Option Text → List Declared → Option Area
area_with x ds = Some (record { name = x; list = ds })

-- parts of DATA behind the places and the values of the first
abbrev pub presets_by : Pieces → Option (List PresetPart)
presets_by r = presets_in r.0 r.1

-- what a test has kept
abbrev pub kept : {A : Type 0} → Bool → A → Option A
kept true a = Some a
kept false a = None

-- the condition of a logical IF in memory, with the tokens from a place on
abbrev pub condition_in : Option (Expr × ℕ) → List Token → Option (Formula × List Token)
condition_in None tokens = None
condition_in (Some c) tokens = Some (formula_of c.0, drop c.1 tokens)

-- the greatest number before so many octal digits of five
abbrev pub greatest_before : ℕ → ℕ
greatest_before zero = 32767
greatest_before (suc zero) = 4095
greatest_before (suc (suc zero)) = 511
greatest_before (suc (suc (suc zero))) = 63
greatest_before (suc (suc (suc (suc zero)))) = 7
greatest_before _ = 0

abbrev pub labels_if : Option (Vec ℕ Global) → Option (List ℕ)
labels_if None = None
labels_if (Some labels) = Some labels.items

abbrev pub computed_by : Text → List ℕ → Option Act
computed_by x labels = Some (Computed labels x)
