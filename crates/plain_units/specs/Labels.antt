-- What is asked of the labels of a unit: each is a number from 1 to 99999 and stands once, jumps lead to statements that are executed, and
-- a READ or WRITE has a FORMAT.
use Rattle.std.specs.Prelude.{◌≡◌, ℕ, ◌≤◌, Bool, true, List, Some}
use Rattle.std.specs.List.{Contains, slice_get}
use Rattle.f66_tree.specs.Syntax.{Act, Line}
use Rattle.f66_flow.specs.Acts.{is_executable, is_format, branches, formats_named}

-- a label stands at a statement that passes a test
pub record LeadsTo (test : Act → Bool) (lines : List Line) (l : ℕ) : Type 0 where
  pub place : ℕ
  pub line : Line
  pub at : slice_get lines place ≡ Some line
  pub label : line.label ≡ Some l
  pub passes : test line.act ≡ true

pub record HasLabels (lines : List Line) : Type 0 where
  pub range : (i l : ℕ) (s : Line) → slice_get lines i ≡ Some s → s.label ≡ Some l → (1 ≤ l) × (l ≤ 99999)
  pub once : (i j l : ℕ) (s t : Line) → slice_get lines i ≡ Some s → slice_get lines j ≡ Some t → s.label ≡ Some l → t.label ≡ Some l → i ≡ j
  pub leads : (i l : ℕ) (s : Line) → slice_get lines i ≡ Some s → Contains (branches s.act) l → LeadsTo is_executable lines l
  pub formats : (i l : ℕ) (s : Line) → slice_get lines i ≡ Some s → Contains (formats_named s.act) l → LeadsTo is_format lines l
