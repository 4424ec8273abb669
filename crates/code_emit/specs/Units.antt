-- Units in memory, with their code one behind the other.
use Rattle.std.specs.Prelude.{◌≡◌, ℕ, ◌+◌, List, [], ◌∷◌, ◌++◌}
use Rattle.f66_tree.specs.Fields.{Fields}
use Rattle.stack_code.specs.Instructions.{Instruction}
use Rattle.code_gen.specs.Layout.{Layout}
use Rattle.code_gen.specs.Statements.{unit_size, unit_code}
use Rattle.code_emit.specs.Plans.{formats_count, formats_in, plan_in}

-- each in some layout, with some number
module _ {A : Type 0} (layout : A → Layout) (number : A → ℕ) where
  abbrev pub all_code : List A → List Instruction
  all_code [] = []
  all_code (v ∷ vs) = unit_code (layout v) (number v) ++ all_code vs

  -- the entry of each is where the code of the one before it ends
  abbrev pub AllEntered : ℕ → List A → Type 0
  AllEntered at [] = Unit {0}
  AllEntered at (v ∷ vs) = ((layout v).entry (number v) ≡ at) × AllEntered (at + unit_size (layout v) (number v)) vs

  -- the formats of each have the numbers behind those of the one before it
  abbrev pub AllPlanned : ℕ → List A → Type 0
  AllPlanned n [] = Unit {0}
  AllPlanned n (v ∷ vs) =
      ((l : ℕ) → (layout v).plan (number v) l ≡ plan_in n ((layout v).lines (number v)) l) × AllPlanned (n + formats_count ((layout v).lines (number v))) vs

  abbrev pub unit_formats : List A → List Fields
  unit_formats [] = []
  unit_formats (v ∷ vs) = formats_in ((layout v).lines (number v)) ++ unit_formats vs
