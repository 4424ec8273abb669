-- The forms of parts in memory, and the loops around them.
use Rattle.std.specs.Prelude.{ℕ, zero, suc, Bool, List, [], ◌∷◌, Option, Some, None, Box}
use Rattle.std.specs.declared.alloc.Global.{Global}
use Rattle.ground.specs.declared.place.Place.{Place}
use Rattle.f66_tree.specs.declared.expression.Expr.{Expr}
use Rattle.rat_tree.specs.declared.program.RatStmt.{RatStmt}
use Rattle.rat_tree.specs.declared.program.RatCase.{RatCase, out-RatCase}
use Rattle.f66_tree.specs.Views.{formula_of, formulas_of, par_of, act_of}
use Rattle.rat_tree.specs.Views.{act_if_any, formula_if_any, command, commands}
use Rattle.rat_check.specs.declared.forms.Form.{Form}
use Rattle.rat_check.specs.declared.forms.Form.TheVariants as f
use Rattle.rat_check.specs.declared.forms.Around.{Around}
use Rattle.rat_check.specs.declared.forms.Around.TheVariants.{Outside, Inside'}
use Rattle.rat_check.specs.Parts as parts
use Rattle.rat_check.specs.Parts.{Labels, Part, part, parts_of, parts_in, with_labels, Bare, RepeatHead, Statement, Condition, Selector, CaseList, ForHead, DoHead, LoopExit, ReturnHead}

abbrev pub form_of : Form → parts.Form
form_of f.Bare = Bare
form_of f.RepeatHead = RepeatHead
form_of (f.Statement a) = Statement (act_of a.now)
form_of (f.Condition e) = Condition (formula_of e.now)
form_of (f.Selector e) = Selector (formula_of e.now)
form_of (f.CaseList es second) = CaseList (formulas_of es.now) second
form_of (f.ForHead a e b) = ForHead (act_if_any a.now) (formula_if_any e.now) (act_if_any b.now)
form_of (f.DoHead x a b c) = DoHead x.now (par_of a.now) (par_of b.now) (par_of c.now)
form_of (f.LoopExit n) = LoopExit n
form_of (f.ReturnHead e) = ReturnHead (formula_if_any e.now)

abbrev pub depth_of : Around → ℕ
depth_of Outside = zero
depth_of (Inside' p outside) = suc (depth_of outside)

-- the parts behind `else`, and behind `until`
abbrev pub other_parts : ℕ → Labels → Option (Box RatStmt Global) → List Part
other_parts k r None = []
other_parts k r (Some other) = parts_of k r None (command other.value)

abbrev pub until_parts : ℕ → Labels → Option (Expr × Place) → List Part
until_parts k r None = []
until_parts k r (Some u) = part k r None u.1 (Condition (formula_of u.0)) ∷ []

-- the parts of a clause, and whether it is a second default
abbrev pub case_parts : ℕ → Labels → Bool → RatCase → List Part
case_parts k r second c =
    part k r None (out-RatCase c).place (CaseList (formulas_of (out-RatCase c).tests.items) second)
    ∷ parts_in k (with_labels (commands (out-RatCase c).body.items) r) (commands (out-RatCase c).body.items)
