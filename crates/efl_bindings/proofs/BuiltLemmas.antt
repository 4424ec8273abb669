-- Declarations without forms that are not built.
use Rattle.std.proofs.Common.{◌≡◌, Bool, true, false, not, ◌&&◌, ◌||◌, List, [], ◌∷◌, Some, None, refl, ◌∙◌}
use Rattle.efl_tree.specs.declared.declaration.EflBound.{EflBound}
use Rattle.efl_tree.specs.Syntax.{Text, EflVar, EflType, Integer, Logical, Real, Complex, Named, Shape, EflDeclKind, Implicit, Initial, Variables, Area, Structure, EflDecl}
use Rattle.efl_scope.specs.DataTypes.{DataType}
use Rattle.efl_scope.specs.Scopes.{Blocks, bounded, of_bounds, behind, behind_declaration, behind_all}
use Rattle.efl_built.specs.Unbuilt.{is_plain, has_bounds, unbuilt_declaration}
use Rattle.efl_bindings.specs.Sites.{are_built}

-- ---- truths ----

pub or_left : (a b : Bool) → (a || b) ≡ false → a ≡ false
or_left false b e = refl
or_left true b e = e

pub or_right : (a b : Bool) → (a || b) ≡ false → b ≡ false
or_right false b e = e
or_right true b e = absurd cc

and_left : (a b : Bool) → (a && b) ≡ true → a ≡ true
and_left true b e = refl
and_left false b e = e

and_right : (a b : Bool) → (a && b) ≡ true → b ≡ true
and_right true b e = e
and_right false b e = absurd cc

pub not_false : (a : Bool) → not a ≡ false → a ≡ true
not_false true e = refl
not_false false e = absurd cc

not_true : (a : Bool) → not a ≡ true → a ≡ false
not_true false e = refl
not_true true e = absurd cc

-- ---- declarations ----

pub first_built : (d : EflDecl) (ds : List EflDecl) → are_built (d ∷ ds) ≡ true → unbuilt_declaration d.kind ≡ false
first_built d ds e = not_true (unbuilt_declaration d.kind) (and_left (not (unbuilt_declaration d.kind)) (are_built ds) e)

pub rest_built : (d : EflDecl) (ds : List EflDecl) → are_built (d ∷ ds) ≡ true → are_built ds ≡ true
rest_built d ds e = and_right (not (unbuilt_declaration d.kind)) (are_built ds) e

-- no structure becomes known
quiet_type : (bs : Blocks) (t : EflType) → not (is_plain t) ≡ false → behind bs t ≡ bs
quiet_type bs Integer e = refl
quiet_type bs Logical e = refl
quiet_type bs (Real long) e = refl
quiet_type bs (Complex long) e = refl
quiet_type bs (Named x) e = refl
quiet_type bs (Shape o gs) e = absurd (let f : true ≡ false = e in cc)

pub quiet : (bs : Blocks) (k : EflDeclKind) → unbuilt_declaration k ≡ false → behind_declaration bs k ≡ bs
quiet bs (Implicit rs t) e = quiet_type bs t e
quiet bs (Initial ps) e = refl
quiet bs (Variables None t vs) e = quiet_type bs t (or_left (not (is_plain t)) _ e)
quiet bs (Variables (Some q) t vs) e = absurd (let f : true ≡ false = e in cc)
quiet bs (Area q gs) e = absurd (let f : true ≡ false = e in cc)
quiet bs (Structure x gs) e = absurd (let f : true ≡ false = e in cc)

pub all_quiet : (bs : Blocks) (ds : List EflDecl) → are_built ds ≡ true → behind_all bs ds ≡ bs
all_quiet bs [] e = refl
all_quiet bs (d ∷ ds) e = all_quiet (behind_declaration bs d.kind) ds (rest_built d ds e) ∙ quiet bs d.kind (first_built d ds e)

-- ---- variables ----

pub unbounded : (t : DataType) (v : EflVar) → has_bounds v ≡ false → of_bounds t v ≡ t
unbounded t v e = each v.name v.bounds e
  where
    each : (x : Text) (bs : List EflBound) → has_bounds (record { name = x; bounds = bs }) ≡ false → bounded t bs ≡ t
    each x [] e = refl
    each x (b ∷ bs) e = absurd (let f : true ≡ false = e in cc)
