-- Statements of a sound unit can be read back: they are those of the grammar of statements.
use Rattle.std.proofs.Common.{◌≡◌, ℕ, ◌≤◌, ◌<◌, Bool, true, false, List, [], ◌∷◌, length, Option, Some, None, refl, arith}
use Rattle.std.specs.Prelude.{not, ◌&&◌}
use Rattle.std.specs.List.{AllByRecursion}
use Rattle.std.proofs.lemmas.Bool.{leb-true, and_parts}
use Rattle.f66_tree.specs.Syntax.{Text, Declared, Act, Assign, Goto, Computed, Sign, When, Loop, Invoke, Continue, Stop, Return, Read, Write, Format, Typed, Dimension, Common, Equivalence, Preset}
use Rattle.f66_names.specs.Shapes as shapes
use Rattle.f66_names.specs.StoreRules.{is_sound_format, has_bad_format}
use Rattle.f66_flow.specs.Acts.{branches, formats_named}
use Rattle.unit_rules.specs.Forms.{are_passed_forms, has_form}
use Rattle.stmt_reader.specs.Levels.{is_name}
use Rattle.deck.specs.ReadableStatements.{IsLabelInRange, IsReadableDeclared, IsReadableBranch, assignment, jump, computed, sign, read, write, continuation, stop, stop_number, return, IsReadableAct, branch, conditional, loop, format, typed, dimension, common, equivalence, preset}
use Rattle.deck_laws.specs.Whole.{IsWhole}
use Rattle.deck_laws.proofs.SoundExpressions.{name_same, readable}
use Rattle.deck_laws.proofs.SoundParts.{place_is, place_readable, par_readable, names_readable, call_readable, entries_readable, fields_readable}
use Rattle.deck_laws.proofs.SoundSpecifications.{areas_readable, groups_readable, parts_readable}

-- ---- statements ----

computed_readable : (ls : List ℕ) (x : Text) → 0 < length ls → is_name x ≡ true → AllByRecursion IsLabelInRange ls → IsReadableBranch (Computed ls x)
computed_readable [] x some name all = absurd (omega (arith, some))
computed_readable (l ∷ ls) x some name all = computed l ls x all.0 all.1 name

stop_readable : (n : Option ℕ) → shapes.is_stop n ≡ true → IsReadableBranch (Stop n)
stop_readable None is = stop
stop_readable (Some n) is = stop_number n (let low : n ≤ 32767 = leb-true n 32767 is in omega (arith, low))

-- the labels of a statement
pub record HasLabels (a : Act) : Type 0 where
  pub jumps : AllByRecursion IsLabelInRange (branches a)
  pub formats : AllByRecursion IsLabelInRange (formats_named a)

branch_readable : (a : Act) → shapes.is_branch a ≡ true → has_form a ≡ true → IsWhole a → HasLabels a → IsReadableBranch a
branch_readable (Assign x e) held is whole labels =
    let both = and_parts (shapes.is_place x) (shapes.stands 0 e) is in
    assignment x e (place_is x both.0) (place_readable x both.0) (readable e both.1)
branch_readable (Goto l) held is whole labels = jump l labels.jumps.0
branch_readable (Computed ls x) held is whole labels = computed_readable ls x whole (name_same x is) labels.jumps
branch_readable (Sign e l m n) held is whole labels = sign e l m n (readable e is) labels.jumps.0 labels.jumps.1.0 labels.jumps.1.1.0
branch_readable (When e a) held is whole labels = absurd cc
branch_readable (Loop l x a b c) held is whole labels = absurd cc
branch_readable (Invoke x es) held is whole labels = let both = and_parts (shapes.is_name x) (are_passed_forms es) is in call_readable x es (name_same x both.0) both.1
branch_readable Continue held is whole labels = continuation
branch_readable (Stop n) held is whole labels = stop_readable n is
branch_readable Return held is whole labels = return
branch_readable (Read u l es) held is whole labels = let both = and_parts (shapes.is_parameter u) (shapes.are_items es) is in read u l es (par_readable u both.0) labels.formats.0 (entries_readable es both.1)
branch_readable (Write u l es) held is whole labels = let both = and_parts (shapes.is_parameter u) (shapes.are_items es) is in write u l es (par_readable u both.0) labels.formats.0 (entries_readable es both.1)
branch_readable (Format fs) held is whole labels = absurd cc
branch_readable (Typed w ds) held is whole labels = absurd cc
branch_readable (Dimension ds) held is whole labels = absurd cc
branch_readable (Common areas) held is whole labels = absurd cc
branch_readable (Equivalence groups) held is whole labels = absurd cc
branch_readable (Preset parts) held is whole labels = absurd cc

sound_format : (b : Bool) → not b ≡ false → b ≡ true
sound_format true is = refl
sound_format false is = absurd cc

-- a DO's own label
abbrev pub EndsInRange : Act → Type 0
EndsInRange (Loop l x a b c) = IsLabelInRange l
EndsInRange _ = Unit {0}

names_act : (ds : List Declared) (made : List Declared → Act) → ((d : Declared) (more : List Declared) → IsReadableDeclared d → AllByRecursion IsReadableDeclared more → IsReadableAct (made (d ∷ more))) → shapes.are_declared ds ≡ true → IsReadableAct (made ds)
names_act [] made by is = absurd cc
names_act (d ∷ ds) made by is = let all = names_readable (d ∷ ds) is in by d ds all.0 all.1

pub act_readable : (a : Act) → has_form a ≡ true → has_bad_format a ≡ false → IsWhole a → HasLabels a → EndsInRange a → IsReadableAct a
act_readable (When e a) is fit whole labels ends =
    let one = and_parts (shapes.has_shape (When e a)) (has_form a) is in
    let two = and_parts (shapes.stands 0 e) (shapes.is_branch a && shapes.has_shape a) one.0 in
    conditional e a (readable e two.0) (branch_readable a (and_parts (shapes.is_branch a) (shapes.has_shape a) two.1).0 one.1 whole (record { jumps = labels.jumps; formats = labels.formats }))
act_readable (Loop l x a b c) is fit whole labels ends =
    let one = and_parts (shapes.is_name x) (shapes.is_parameter a && (shapes.is_parameter b && shapes.is_parameter c)) is in
    let two = and_parts (shapes.is_parameter a) (shapes.is_parameter b && shapes.is_parameter c) one.1 in
    let three = and_parts (shapes.is_parameter b) (shapes.is_parameter c) two.1 in
    loop l x a b c ends (name_same x one.0) (par_readable a two.0) (par_readable b three.0) (par_readable c three.1)
act_readable (Format fs) is fit whole labels ends = format fs (fields_readable fs 2 (sound_format (is_sound_format fs) fit) whole)
act_readable (Typed w ds) is fit whole labels ends = names_act ds (Typed w) (λ d more first others. typed w d more first others) is
act_readable (Dimension ds) is fit whole labels ends = names_act ds Dimension (λ d more first others. dimension d more first others) is
act_readable (Common areas) is fit whole labels ends = common areas (areas_readable areas is)
act_readable (Equivalence groups) is fit whole labels ends = equivalence groups (groups_readable groups is)
act_readable (Preset parts) is fit whole labels ends = preset parts (parts_readable parts is)
act_readable (Assign x e) is fit whole labels ends = branch (Assign x e) (branch_readable (Assign x e) refl is whole labels)
act_readable (Goto l) is fit whole labels ends = branch (Goto l) (branch_readable (Goto l) refl is whole labels)
act_readable (Computed ls x) is fit whole labels ends = branch (Computed ls x) (branch_readable (Computed ls x) refl is whole labels)
act_readable (Sign e l m n) is fit whole labels ends = branch (Sign e l m n) (branch_readable (Sign e l m n) refl is whole labels)
act_readable (Invoke x es) is fit whole labels ends = branch (Invoke x es) (branch_readable (Invoke x es) refl is whole labels)
act_readable Continue is fit whole labels ends = branch Continue continuation
act_readable (Stop n) is fit whole labels ends = branch (Stop n) (branch_readable (Stop n) refl is whole labels)
act_readable Return is fit whole labels ends = branch Return return
act_readable (Read u l es) is fit whole labels ends = branch (Read u l es) (branch_readable (Read u l es) refl is whole labels)
act_readable (Write u l es) is fit whole labels ends = branch (Write u l es) (branch_readable (Write u l es) refl is whole labels)
