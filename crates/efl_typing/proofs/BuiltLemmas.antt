-- What is built where a list of parts is.
use Rattle.std.proofs.Common.{◌≡◌, Bool, true, false, true≢false, not, ◌&&◌, ◌||◌, List, [], ◌∷◌, ◌++◌, refl, sym, ◌∙◌}
use Rattle.std.proofs.lemmas.List.Folds.{list_all-append}
use Rattle.rule_table.proofs.WordLemmas.{and_left, and_right}
use Rattle.efl_tree.specs.Syntax.{Text, EflDecl}
use Rattle.efl_scope.specs.Scopes.{behind_declaration}
use Rattle.efl_scope.specs.Parts.{Around, Part, among, names_by, groups_by, declarations_in}
use Rattle.efl_built.specs.Unbuilt.{unbuilt_declaration, unbuilt_in, are_built}
use Rattle.efl_bindings.specs.Sites.{are_built as are_declared}

-- ---- truth values ----

pub is_false : (b : Bool) → not b ≡ true → b ≡ false
is_false true h = sym h
is_false false h = refl

pub or_left : (a b : Bool) → (a || b) ≡ false → a ≡ false
or_left true b h = h
or_left false b h = refl

pub or_right : (a b : Bool) → (a || b) ≡ false → b ≡ false
or_right true b h = absurd (true≢false h)
or_right false b h = h

both_true : (a b : Bool) → a ≡ true → b ≡ true → (a && b) ≡ true
both_true true b h k = k
both_true false b h k = h

-- ---- parts ----

pub before_built : (vs ws : List Part) → are_built (vs ++ ws) ≡ true → are_built vs ≡ true
before_built vs ws h = and_left (are_built vs) (are_built ws) (sym (list_all-append (λ v. not (unbuilt_in v.form)) vs ws) ∙ h)

pub behind_built : (vs ws : List Part) → are_built (vs ++ ws) ≡ true → are_built ws ≡ true
behind_built vs ws h = and_right (are_built vs) (are_built ws) (sym (list_all-append (λ v. not (unbuilt_in v.form)) vs ws) ∙ h)

pub first_built : (v : Part) (vs : List Part) → are_built (v ∷ vs) ≡ true → unbuilt_in v.form ≡ false
first_built v vs h = is_false (unbuilt_in v.form) (and_left (not (unbuilt_in v.form)) (are_built vs) h)

pub rest_built : (v : Part) (vs : List Part) → are_built (v ∷ vs) ≡ true → are_built vs ≡ true
rest_built v vs h = and_right (not (unbuilt_in v.form)) (are_built vs) h

-- the declarations themselves
pub declarations_built : (a : Around) (before : List Text) (ds : List EflDecl) → are_built (declarations_in a before ds) ≡ true → are_declared ds ≡ true
declarations_built a before [] h = refl
declarations_built a before (d ∷ ds) h =
    let first = and_left (not (unbuilt_declaration d.kind)) _ h in
    let rest = and_right (not (unbuilt_declaration d.kind)) _ h in
    let later = among (behind_declaration a.blocks d.kind) a in
    both_true (not (unbuilt_declaration d.kind)) (are_declared ds) first
    (declarations_built later (before ++ names_by d.kind) ds (behind_built (groups_by a before d.kind) (declarations_in later (before ++ names_by d.kind) ds) rest))
