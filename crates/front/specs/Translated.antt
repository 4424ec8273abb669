-- What the front answers.
use Rattle.std.specs.Prelude.{◌≡◌, ⊤, ℕ, List, map, Option, Result, Ok, Err}
use Rattle.ground.specs.declared.token.Dialect.{Dialect}
use Rattle.ground.specs.declared.fault.Refusal.{Refusal}
use Rattle.ground.specs.declared.fault.Refusal.TheVariants as whole
use Rattle.f66_tree.specs.Views.{routine_of}
use Rattle.f66_program.specs.Linking.{Program}
use Rattle.macro_define.specs.declared.refusal.TextRefusal.{TextRefusal}
use Rattle.macro_define.specs.declared.refusal.TextRefusal.TheVariants as refusals
use Rattle.macro_define.specs.Answers.{Known, IsOf}
use Rattle.front.specs.declared.made.Made.{Made}
use Rattle.front.specs.declared.translate.Translated.{Translated}
use Rattle.front.specs.Checked.{Meaning, Checked, Faulty, Means}
use Rattle.front.specs.Verdict.{Verdict, Refuses, Accepts, Becomes, file_name}
use Rattle.front.specs.Programs.{IsProgramOf}

abbrev pub made_program : Made → Program
made_program made = record { units = map routine_of made.units.items; finish = made.finish }

-- a fault, where there are no units
abbrev pub Refused : (Checked → Type 0) → Refusal → Type 0
Refused P (whole.Fault fault) = P (Faulty fault)
Refused P whole.Memory = ⊤

-- units that are the program of a meaning; or the fault. Want of memory says nothing
abbrev pub Finds : (Checked → Type 0) → Result Made Refusal → Type 0
Finds P (Ok made) = (meaning : Meaning) × P (Means meaning) × IsProgramOf meaning (made_program made)
Finds P (Err refusal) = Refused P refusal

-- a refusal with the name of the file of its place; memory may be wanting for that
abbrev pub IsNamed : List (List ℕ) → Refusal → TextRefusal → Type 0
IsNamed files (whole.Fault f) (refusals.Fault g file) = (g ≡ f) × (file ≡ file_name files f.place.file)
IsNamed files refusal refusals.Memory = ⊤
IsNamed files refusal answered = ⊥

-- ---- whole texts ----

-- the units of an accepted text, or its first fault; want of memory says nothing, and a failed fetch neither
abbrev pub IsAnswered : (Verdict → Type 0) → Result Translated TextRefusal → Type 0
IsAnswered P (Ok translated) = (meaning : Meaning) × P (Accepts translated.files.items meaning) × IsProgramOf meaning (made_program translated.made)
IsAnswered P (Err (refusals.Fault fault name)) = P (Refuses fault name)
IsAnswered P (Err refusals.Library) = ⊤
IsAnswered P (Err refusals.Memory) = ⊤

-- The answer is by what the library tells, or, where it tells nothing, by some texts that fetches may have given.
pub record IsTranslated (files : Option (List ℕ → Option (List ℕ))) (d : Dialect) (name : List ℕ) (result : Result Translated TextRefusal) : Type 0 where
  pub known : Known
  pub of : IsOf files known
  pub gives : IsAnswered (Becomes d name known) result
