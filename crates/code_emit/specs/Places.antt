-- How far behind its entry the code of each statement of a unit begins.
use Rattle.std.specs.Prelude.{ℕ, ◌+◌, List, [], ◌∷◌, if◌then◌else◌}
use Rattle.f66_tree.specs.Syntax.{Line}
use Rattle.f66_tree.specs.Units.{is_note}
use Rattle.f66_tree.specs.Execution.{runnable}
use Rattle.code_gen.specs.Layout.{Layout}
use Rattle.code_gen.specs.Statements.{first_code, line_size, prologue_size}

abbrev pub size_at : Layout → ℕ → Line → ℕ
size_at y u s = if is_note s.act then 0 else line_size y u s

-- where each of these begins, and where they end, if the first begins here
abbrev pub starts_from : Layout → ℕ → ℕ → List Line → List ℕ
starts_from y u at [] = at ∷ []
starts_from y u at (s ∷ rest) = at ∷ starts_from y u (at + size_at y u s) rest

abbrev pub starts : Layout → ℕ → List ℕ
starts y u = starts_from y u (prologue_size (first_code y u) (runnable (y.lines u))) (y.lines u)
