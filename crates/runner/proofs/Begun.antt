-- The place of a statement, and where callers go on, by the numbers of the instructions that begin statements.
use Rattle.std.proofs.Common.{◌≡◌, ℕ, ◌<◌, List, length, map, Some, sym, arith, ap, ◌∙◌, subst, slice_get, slice_set}
use Rattle.std.specs.Prelude.{option_map}
use Rattle.std.proofs.lemmas.List.{length-map, map-set}
use Rattle.std.proofs.lemmas.Option.{slice_get-map, slice_get_past}
use Rattle.stack_code.specs.declared.op.Op.{Op}
use Rattle.stack_code.specs.Instructions.{Instruction}
use Rattle.stack_code.specs.StackMachine.{start}
use Rattle.stack_code.specs.Views.{code_of}
use Rattle.runner.specs.declared.frames.Resume.{Resume}
use Rattle.runner.specs.Frames.{place_by, place_at, back_of}
use Rattle.runner.proofs.Turn.{length-code_of}

-- before the first statement the number is that of no instruction
pub none_begun : (ops xs : List Op) → xs ≡ ops → place_at (code_of ops) (length xs) ≡ start.frame.place
none_begun ops xs same = ap place_by (slice_get_past (code_of ops) (length xs) (let long = length-code_of ops in let e = ap length same in omega (arith, long, e)))

pub kept_as : (code : List Instruction) (level : ℕ) (resumes1 resumes : List Resume) (resume : Resume) → resumes1 ≡ slice_set resumes level resume → map (back_of code) resumes1 ≡ slice_set (map (back_of code) resumes) level (back_of code resume)
kept_as code level resumes1 resumes resume is = ap (map (back_of code)) is ∙ map-set (back_of code) resumes level resume

pub as_long : (code : List Instruction) (level : ℕ) (resumes : List Resume) → level < length resumes → level < length (map (back_of code) resumes)
as_long code level resumes lt = subst (λ n. level < n) (sym (length-map resumes (back_of code))) lt

pub back_as : (code : List Instruction) (level : ℕ) (resumes : List Resume) (resume : Resume) → slice_get resumes level ≡ Some resume → slice_get (map (back_of code) resumes) level ≡ Some (back_of code resume)
back_as code level resumes resume there = slice_get-map (back_of code) resumes level ∙ ap (option_map (back_of code)) there
