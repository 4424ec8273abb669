-- Which main units the rules of names let pass, and the law of them: no run of one ends Wrong.
use Rattle.std.specs.Prelude.{◌≡◌, ◌≢◌, ℕ, Bool, true, false, List, map, Some, is_some, slice_get}
use Rattle.rule_table.specs.declared.rule.Rule.{Rule}
use Rattle.f66_tree.specs.Syntax.{MainUnit, Act, When, Read, Write, Line}
use Rattle.f66_tree.specs.World.{Record, Wrong, Ended}
use Rattle.f66_tree.specs.Units.{Note, Context, notes_of, format_of}
use Rattle.f66_tree.specs.OneUnit.{executed}
use Rattle.f66_names.specs.BuiltActs.{is_built}
use Rattle.f66_names.specs.Declaring.{context_by}
use Rattle.f66_names.specs.Rules.{breaks_name}

-- what the statements of a unit say
abbrev pub acts_in_unit : List Line → List Act
acts_in_unit code = map (λ s. s.act) code

-- what names mean in a main unit with these statements that are not executed
abbrev pub in_main : List Note → Context
in_main notes = record { header = MainUnit; notes = notes }

abbrev pub main_context : List Line → Context
main_context code = in_main (notes_of code)

-- the FORMAT of a READ or WRITE is there
abbrev pub finds_format : List Note → Act → Bool
finds_format notes (Read u l es) = is_some (format_of l notes)
finds_format notes (Write u l es) = is_some (format_of l notes)
finds_format notes (When e a) = finds_format notes a
finds_format notes _ = true

-- Where names mean what the context says, each statement is built, and breaks no rule of names, types, counts, constants and
-- stores; and each READ and WRITE finds its FORMAT. Nothing else is asked of labels, nor of the order of statements or of DO loops.
pub record IsSoundMain (c : Context) (code : List Line) : Type 0 where
  pub built : (i : ℕ) (a : Act) → slice_get (acts_in_unit code) i ≡ Some a → is_built c a ≡ true
  pub clean : (i : ℕ) (a : Act) → slice_get (acts_in_unit code) i ≡ Some a → (k : Rule) → breaks_name c (acts_in_unit code) i a k ≡ false
  pub formats : (i : ℕ) (a : Act) → slice_get (acts_in_unit code) i ≡ Some a → finds_format (notes_of code) a ≡ true

-- no run of the unit goes wrong, on any input and at any bound
abbrev pub RunsRightly : List Line → Type 0
RunsRightly code = (input : List Record) (n : ℕ) → (executed code input n).end ≢ Ended Wrong

-- a sound main unit never goes wrong
abbrev pub SoundNeverWrong : Type 0
SoundNeverWrong = (code : List Line) → IsSoundMain (main_context code) code → RunsRightly code

-- the same where the statements are judged without their labels
abbrev pub SoundByActs : Type 0
SoundByActs = (code : List Line) → IsSoundMain (context_by MainUnit (acts_in_unit code)) code → RunsRightly code
