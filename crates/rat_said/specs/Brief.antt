-- What a statement says of variables, told by the names that it uses.
use Rattle.std.specs.Prelude.{◌≡◌, Bool, true, false, List, [], Option, Some, None}
use Rattle.std.specs.List.{Contains, filter}
use Rattle.std.specs.Str.{bytes_eq}
use Rattle.f66_tree.specs.Syntax.{Text, Act, When, Invoke, Continue, Typed, Dimension, Common, Equivalence, Preset, Line, Routine}
use Rattle.f66_tree.specs.Units.{Context, is_note, notes_of}
use Rattle.f66_tree.specs.Evaluation.{Sort, AnArray, sort_of}
use Rattle.f66_program.specs.Mentions.{Mention, AVariable, mentions_in}
use Rattle.f66_names.specs.Uses.{Usage}
use Rattle.f66_names.specs.declared.name_form.Manner.{Manner}
use Rattle.f66_names.specs.declared.name_form.Manner.TheVariants.{Alone, With, Stored}
use Rattle.spared_units.specs.Spared.{mentions_of_lines}

-- ---- uses ----

-- the variable that a name is
abbrev pub if_array : Text → Sort → Option Text
if_array x (AnArray ns) = Some x
if_array x s = None

abbrev pub variable_by : Context → Text → Manner → Option Text
variable_by c x Alone = Some x
variable_by c x (With n) = if_array x (sort_of c x)
variable_by c x (Stored n) = if_array x (sort_of c x)

-- a name alone is a variable, and one with a list where it is an array
abbrev pub variable_used : Context → Usage → Option Text
variable_used c u = variable_by c u.name u.manner

abbrev pub is_name : Option Text → Text → Bool
is_name None q = false
is_name (Some x) q = bytes_eq q x

abbrev pub holds_if_any : (Text → Bool) → Option Text → Bool
holds_if_any test None = false
holds_if_any test (Some x) = test x

-- ---- statements ----

abbrev pub is_idle : Act → Bool
is_idle Continue = true
is_idle a = false

-- The uses of a statement name all that it mentions: it is no CALL, and it declares no name.
abbrev pub is_told_by_uses : Act → Bool
is_told_by_uses (When e a) = is_idle a
is_told_by_uses (Invoke x es) = false
is_told_by_uses (Typed t ds) = false
is_told_by_uses (Dimension ds) = false
is_told_by_uses (Common areas) = false
is_told_by_uses (Equivalence groups) = false
is_told_by_uses (Preset parts) = false
is_told_by_uses a = true

-- ---- units ----

-- those statements that are not executed
abbrev pub declared_lines : List Line → List Line
declared_lines lines = filter (λ s. is_note s.act) lines

-- and a unit of them alone
abbrev pub declared_routine : Routine → Routine
declared_routine r = record { header = r.header; lines = declared_lines r.lines; place = r.place }

-- Statements that are executed, and that tell in brief what others say: they mention what those mention of these that are executed, and
-- no more.
pub record IsTold (c : Context) (said told : List Line) : Type 0 where
  pub executed : notes_of told ≡ []
  pub heard : (m : Mention) → Contains (mentions_of_lines c told) m → Contains (mentions_of_lines c said) m
  pub mentioned : (s : Line) (m : Mention) → Contains said s → is_note s.act ≡ false → Contains (mentions_in c s.act) m → Contains (mentions_of_lines c told) m

-- and they mention the variables that were seen
pub record IsTelling (c : Context) (said told : List Line) (seen : Text → Bool) : Type 0 where
  pub brief : IsTold c said told
  pub seen_there : (x : Text) → seen x ≡ true → Contains (mentions_of_lines c told) (AVariable x)
