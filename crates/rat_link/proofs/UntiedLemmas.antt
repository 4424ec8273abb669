-- A unit that says neither COMMON nor EQUIVALENCE associates no places.
use Rattle.std.proofs.Common.{◌≡◌, ℕ, false, List, [], ◌∷◌, ◌++◌, refl, ap, ◌∙◌}
use Rattle.std.specs.List.{list_any}
use Rattle.std.proofs.lemmas.Bool.{or_parts}
use Rattle.f66_tree.specs.declared.statement.Stmt.{Stmt}
use Rattle.f66_tree.specs.declared.unit.Unit.{Unit as AUnit}
use Rattle.f66_tree.specs.Syntax.{Act, Common, Equivalence}
use Rattle.f66_tree.specs.Units.{Context}
use Rattle.f66_tree.specs.Views.{act_of, lines_of, routine_of}
use Rattle.f66_program.specs.Mentions.{context_of}
use Rattle.f66_program.specs.Association.{Filled, not_filled, act_ties, act_filled, line_ties, IsBadUnit}
use Rattle.f66_program.proofs.Untied.{untied_good}
use Rattle.rat_link.specs.Ties.{is_tying}

act_untied : (u : ℕ) (c : Context) (f : Filled) (a : Act) → is_tying a ≡ false → act_ties u c f a ≡ []
act_untied u c f (Common areas) e = absurd (cc)
act_untied u c f (Equivalence groups) e = absurd (cc)
act_untied u c f a e = refl

lines_untied : (u : ℕ) (c : Context) (f : Filled) (all : List Stmt) → list_any (λ s. is_tying (act_of s.kind)) all ≡ false → line_ties u c f (lines_of all) ≡ []
lines_untied u c f [] e = refl
lines_untied u c f (s ∷ all) e =
    let w = or_parts (is_tying (act_of s.kind)) (list_any (λ s. is_tying (act_of s.kind)) all) e in
    let g = act_filled c f (act_of s.kind) in
    ap (λ ts. ts ++ line_ties u c g (lines_of all)) (act_untied u c f (act_of s.kind) w.0) ∙ lines_untied u c g all w.1

pub untied : (a : AUnit) → list_any (λ s. is_tying (act_of s.kind)) a.statements.items ≡ false → ¬ IsBadUnit (routine_of a)
untied a e = untied_good (routine_of a) (lines_untied 0 (context_of (routine_of a)) not_filled a.statements.items e)
