-- Which statements are built so far.
use Rattle.std.specs.Prelude.{Bool, true, false, not, ◌&&◌}
use Rattle.std.specs.List.{list_any}
use Rattle.f66_tree.specs.Syntax.{Act, Invoke, Return, Common, Equivalence, Preset, When}
use Rattle.f66_tree.specs.Units.{Context}
use Rattle.f66_names.specs.declared.name_form.NameForm.{NameForm}
use Rattle.f66_names.specs.declared.name_form.NameForm.TheVariants as forms
use Rattle.f66_names.specs.declared.name_form.Manner.{Manner}
use Rattle.f66_names.specs.declared.name_form.Manner.TheVariants.{With}
use Rattle.f66_names.specs.Sorts.{name_form}
use Rattle.f66_names.specs.Uses.{Usage, uses_in}

-- a reference to a function that is no intrinsic one
abbrev pub is_function_by : NameForm → Manner → Bool
is_function_by forms.Plain (With n) = true
is_function_by _ _ = false

abbrev pub is_function : Context → Usage → Bool
is_function c u = is_function_by (name_form c u.name) u.manner

abbrev pub is_built_form : Act → Bool
is_built_form (Invoke x es) = false
is_built_form Return = false
is_built_form (Common areas) = false
is_built_form (Equivalence es) = false
is_built_form (Preset ps) = false
is_built_form (When e a) = is_built_form a
is_built_form _ = true

abbrev pub is_built : Context → Act → Bool
is_built c a = is_built_form a && not (list_any (is_function c) (uses_in a))
