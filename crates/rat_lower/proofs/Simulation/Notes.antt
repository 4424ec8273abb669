-- The statements of a unit that are not executed are those of its source, in their order.
use Rattle.std.proofs.Common.{◌≡◌, ℕ, [], Bool, true, false, ◌+◌, List, ◌∷◌, Option, Some, None, refl, ap, ◌∙◌}
use Rattle.ground.specs.declared.place.Place.{Place}
use Rattle.f66_tree.specs.Syntax.{Text, Formula, Formulas, NoFormula, AndFormula, Act, Line}
use Rattle.f66_tree.specs.Units.{notes_of}
use Rattle.rat_tree.specs.Syntax.{Command, Empty, Block, If, IfElse, While, For, Repeat, RepeatUntil, Do, Switch, Break, Next, Return, Plain, Labelled, Commands, NoCommand, AndCommand, Clauses, NoClause, AndClause}
use Rattle.rat_lower.specs.Code.{each_test, tests, default_label, bodies, Rings, jump, unless, here, with_test, with_act, labels, all_labels, code_of, all_code, end_unless}
use Rattle.rat_lower.specs.Notes.{note_if_any, notes_in, all_notes, clause_notes, notes_of_unit}

notes_test : (p : Place) (o : Option Formula) (m : ℕ) (next : List Line) → notes_of (with_test p o m next) ≡ notes_of next
notes_test p None m next = refl
notes_test p (Some e) m next = refl

notes_act : (p : Place) (o : Option Act) (next : List Line) → notes_of (with_act p o next) ≡ note_if_any o (notes_of next)
notes_act p None next = refl
notes_act p (Some a) next = refl

notes_each : (x : Text) (p : Place) (es : Formulas) (q : ℕ) (next : List Line) → notes_of (each_test x p es q next) ≡ notes_of next
notes_each x p NoFormula q next = refl
notes_each x p (AndFormula e es) q next = notes_each x p es q next

module _ (made : ℕ → ℕ) (spare own : Text) where
  notes_tests : (cs : Clauses) (m : ℕ) (next : List Line) → notes_of (tests made spare own cs m next) ≡ notes_of next
  notes_tests NoClause m next = refl
  notes_tests (AndClause es d ss p cs) m next = notes_each spare p es (made m) (tests made spare own cs (m + 1 + all_labels ss) next) ∙ notes_tests cs (m + 1 + all_labels ss) next

  mutual
    pub notes_code : (s : Command) (n : ℕ) (ls : Rings) (next : List Line) → notes_of (code_of made spare own s n ls next) ≡ notes_in s (notes_of next)
    notes_code (Empty p) n ls next = refl
    notes_code (Block p ss) n ls next = notes_all ss n ls next
    notes_code (If p e s) n ls next = notes_code s (n + 1) ls (here (made n) p ∷ next)
    notes_code (IfElse p e s t) n ls next =
        notes_code s (n + 2) ls (jump p (made (n + 1)) ∷ here (made n) p ∷ code_of made spare own t (n + 2 + labels s) ls (here (made (n + 1)) p ∷ next))
        ∙ ap (notes_in s) (notes_code t (n + 2 + labels s) ls (here (made (n + 1)) p ∷ next))
    notes_code (While p e s) n ls next = notes_code s (n + 3) ((made (n + 2), made (n + 1)) ∷ ls) (here (made (n + 1)) p ∷ jump p (made n) ∷ here (made (n + 2)) p ∷ next)
    notes_code (For p first e step s) n ls next =
        let out = jump p (made n) ∷ here (made (n + 2)) p ∷ next in
        let mid = here (made (n + 1)) p ∷ with_act p step out in
        let inner = code_of made spare own s (n + 3) ((made (n + 2), made (n + 1)) ∷ ls) mid in
        notes_act p first (here (made n) p ∷ with_test p e (made (n + 2)) inner)
        ∙ ap (note_if_any first) (notes_test p e (made (n + 2)) inner ∙ notes_code s (n + 3) ((made (n + 2), made (n + 1)) ∷ ls) mid ∙ ap (notes_in s) (notes_act p step out))
    notes_code (Repeat p s) n ls next = notes_code s (n + 3) ((made (n + 2), made (n + 1)) ∷ ls) (here (made (n + 1)) p ∷ jump p (made n) ∷ here (made (n + 2)) p ∷ next)
    notes_code (RepeatUntil p s e q) n ls next = notes_code s (n + 3) ((made (n + 2), made (n + 1)) ∷ ls) (here (made (n + 1)) p ∷ unless q e (made n) ∷ here (made (n + 2)) p ∷ next)
    notes_code (Do p x a b c s) n ls next = notes_code s (n + 2) ((made (n + 1), made n) ∷ ls) (here (made n) p ∷ here (made (n + 1)) p ∷ next)
    notes_code (Switch p e cs) n ls next =
        let last = here (made n) p ∷ next in
        let all = bodies made spare own cs (n + 1) (made n) ls last in
        notes_tests cs (n + 1) (jump p (default_label made spare own cs (n + 1) (made n)) ∷ all) ∙ notes_bodies cs (n + 1) (made n) ls last
    notes_code (Break p k) n ls next = refl
    notes_code (Next p k) n ls next = refl
    notes_code (Return p None) n ls next = refl
    notes_code (Return p (Some e)) n ls next = refl
    notes_code (Plain m p a) n ls next = refl
    notes_code (Labelled m p s) n ls next = notes_code s n ls next

    pub notes_all : (ss : Commands) (n : ℕ) (ls : Rings) (next : List Line) → notes_of (all_code made spare own ss n ls next) ≡ all_notes ss (notes_of next)
    notes_all NoCommand n ls next = refl
    notes_all (AndCommand s ss) n ls next = notes_code s n ls (all_code made spare own ss (n + labels s) ls next) ∙ ap (notes_in s) (notes_all ss (n + labels s) ls next)

    notes_bodies : (cs : Clauses) (m out : ℕ) (ls : Rings) (next : List Line) → notes_of (bodies made spare own cs m out ls next) ≡ clause_notes cs (notes_of next)
    notes_bodies NoClause m out ls next = refl
    notes_bodies (AndClause es d ss p cs) m out ls next =
        notes_all ss (m + 1) ls (jump p out ∷ bodies made spare own cs (m + 1 + all_labels ss) out ls next) ∙ ap (all_notes ss) (notes_bodies cs (m + 1 + all_labels ss) out ls next)

  -- those of a whole unit, with the statement at its end
  pub notes_ended : (ss : Commands) (main v : Bool) (last : Place) → notes_of (all_code made spare own ss 0 [] (end_unless main v last)) ≡ notes_of_unit ss
  notes_ended ss main v last = notes_all ss 0 [] (end_unless main v last) ∙ by_end main v
    where
      by_end : (m u : Bool) → all_notes ss (notes_of (end_unless m u last)) ≡ notes_of_unit ss
      by_end true true = refl
      by_end true false = refl
      by_end false true = refl
      by_end false false = refl
