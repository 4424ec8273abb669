-- The parts of a unit without a fault are proper.
use Rattle.std.proofs.Common.{◌≡◌, Bool, true, false, true≢false, List, [], ◌∷◌, Option, None, Some, refl, sym}
use Rattle.std.specs.Prelude.{◌||◌}
use Rattle.std.specs.List.{AllByRecursion}
use Rattle.f66_tree.specs.Syntax.{Act, Assign, Invoke}
use Rattle.rat_check.specs.Parts.{Form, ForHead, Part, unit_parts}
use Rattle.rat_check.specs.Rules.{is_simple, is_ratfor, Before, nothing_before, behind, UnitRules}
use Rattle.rat_check.specs.FirstFault.{unit_whole}
use Rattle.rat_check.proofs.CleanLemmas.{and_true, AllKeep, passed}
use Rattle.rat_linked.specs.Made.{is_note_if_any, has_note, IsProper}
use Rattle.rat_linked.specs.Laws.{CleanIsProper}

simple : (o : Option Act) → is_simple o ≡ true → is_note_if_any o ≡ false
simple None e = refl
simple (Some (Assign x f)) e = refl
simple (Some (Invoke x es)) e = refl
simple (Some _) e = absurd (true≢false (sym e))

neither : (a b : Bool) → a ≡ false → b ≡ false → (a || b) ≡ false
neither true b e f = absurd (true≢false e)
neither false b e f = f

no_notes : (form : Form) → is_ratfor form ≡ true → has_note form ≡ false
no_notes (ForHead a e b) r = let k = and_true (is_simple a) (is_simple b) r in neither (is_note_if_any a) (is_note_if_any b) (simple a k.0) (simple b k.1)
no_notes _ r = refl

proper : (u : UnitRules) (b : Before) (vs : List Part) → AllKeep u b vs → AllByRecursion (IsProper u.context.header) vs
proper u b [] k = tt
proper u b (v ∷ vs) k = (record { executed = no_notes v.form k.0.ratfor; returned = k.0.returned }, proper u (behind u.context.header b v) vs k.1)

pub clean_is_proper : CleanIsProper
clean_is_proper u e =
    let vs = unit_parts u.body in
    proper (unit_whole u.header vs) nothing_before vs (passed u.header u.place vs e).keep
