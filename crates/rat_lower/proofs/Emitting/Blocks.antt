-- The lists in a tree, one member after another: what is added so far, and what the members left would add.
use Rattle.std.proofs.Common.{◌≡◌, ℕ, zero, suc, ◌+◌, ◌<◌, ◌≤◌, List, [], ◌∷◌, ◌++◌, length, get_or, refl, sym, ap, ◌∙◌, arith, Option, Some, None}
use Rattle.ground.specs.declared.place.Place.{Place}
use Rattle.f66_tree.specs.Syntax.{Text, Formula, Formulas, AndFormula, When, Goto, Line, unlabelled_line}
use Rattle.rat_tree.specs.declared.program.RatStmt.{RatStmt}
use Rattle.rat_tree.specs.Syntax.{Command, Commands, NoCommand, AndCommand}
use Rattle.rat_tree.specs.Views.{command, commands}
use Rattle.rat_lower.specs.Code.{Rings, case_test, all_labels, code_of, all_code, each_test}
use Rattle.rat_lower.specs.Emitted.{Making, labels_past, Adds, Emitted, AllEmitted}
use Rattle.rat_lower.proofs.Emitting.Sizes.{size_of, size_of_all}

-- where the length that an iterator tells is zero, nothing is left
pub none_left : {A : Type 0} (xs : List A) (k : ℕ) → k ≡ length xs → k ≡ 0 → xs ≡ []
none_left [] k long none = refl
none_left (x ∷ xs) k long none = absurd (omega (arith, long, none))

-- ---- statements ----

pub record SoFar (all left : Commands) (ls : Rings) (before now : Making) (old new : List Line) : Type 0 where
  pub taken : now.taken ≡ before.taken
  pub spare : now.spare ≡ before.spare
  pub own : now.own ≡ before.own
  pub made : now.made + all_labels left ≡ before.made + all_labels all
  pub added : (rest : List Line) → new ++ all_code (labels_past before.taken) before.spare before.own left now.made ls rest ≡ old ++ all_code (labels_past before.taken) before.spare before.own all before.made ls rest

pub so_far_more : (all left : Commands) (s : Command) (ls : Rings) (before now after : Making) (old new newer : List Line) → SoFar all (AndCommand s left) ls before now old new → Emitted s ls now after new newer → SoFar all left ls before after old newer
so_far_more all left s ls before now after old new newer h e = record {
  taken = e.taken ∙ h.taken;
  spare = e.spare ∙ h.spare;
  own = e.own ∙ h.own;
  made = omega (arith, h.made, e.made);
  added = λ rest.
      let M = labels_past before.taken in
      e.added.by (all_code M before.spare before.own left after.made ls rest)
      ∙ ap (λ t. new ++ code_of (labels_past t) now.spare now.own s now.made ls (all_code M before.spare before.own left after.made ls rest)) h.taken
      ∙ ap (λ x. new ++ code_of M x now.own s now.made ls (all_code M before.spare before.own left after.made ls rest)) h.spare
      ∙ ap (λ x. new ++ code_of M before.spare x s now.made ls (all_code M before.spare before.own left after.made ls rest)) h.own
      ∙ ap (λ n. new ++ code_of M before.spare before.own s now.made ls (all_code M before.spare before.own left n ls rest)) e.made
      ∙ h.added rest;
}

pub so_far_all : (all : Commands) (ls : Rings) (before now : Making) (old new : List Line) → SoFar all NoCommand ls before now old new → AllEmitted all ls before now old new
so_far_all all ls before now old new h = record { taken = h.taken; spare = h.spare; own = h.own; made = omega (arith, h.made); added = record { by = h.added } }

pub member_size : (list : List RatStmt) (i : ℕ) (s : RatStmt) → i < length list → s ≡ get_or list i s → size_of (command s) ≤ size_of_all (commands list)
member_size list i s lt is = let h = ap (λ x. size_of (command x)) is in omega (arith, h, inner list i s lt)
  where
    inner : (xs : List RatStmt) (j : ℕ) (d : RatStmt) → j < length xs → size_of (command (get_or xs j d)) ≤ size_of_all (commands xs)
    inner [] j d p = absurd (omega arith)
    inner (x ∷ xs) zero d p = omega arith
    inner (x ∷ xs) (suc j) d p = omega (arith, inner xs j d (omega arith))

-- ---- clauses ----

-- a label, if there is one, and else another
abbrev pub label_or : Option ℕ → ℕ → ℕ
label_or None l = l
label_or (Some l) m = l

-- ---- case expressions ----

pub more_tests : (spare name : Text) (p : Place) (l : ℕ) (all here left : Formulas) (e : Formula) (old now new : List Line) →
    here ≡ AndFormula e left → name ≡ spare → Adds now new (λ rest. unlabelled_line p (When (case_test name e) (Goto l)) ∷ rest) →
    ((rest : List Line) → now ++ each_test spare p here l rest ≡ old ++ each_test spare p all l rest) →
    (rest : List Line) → new ++ each_test spare p left l rest ≡ old ++ each_test spare p all l rest
more_tests spare name p l all here left e old now new next same add so_far rest =
    add.by (each_test spare p left l rest)
    ∙ ap (λ x. now ++ (unlabelled_line p (When (case_test x e) (Goto l)) ∷ each_test spare p left l rest)) same
    ∙ sym (ap (λ es. now ++ each_test spare p es l rest) next)
    ∙ so_far rest
