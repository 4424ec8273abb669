-- What the tests of agreement compute: the type of an element or a function's value, the shape of a name alone, and a call of a function.
use Rattle.std.proofs.Common.{◌≡◌, Bool, true, false, Option, List, [], ◌∷◌, ◌||◌, ◌&&◌, not, refl, ap}
use mathlib.Core.Bool.{beq}
use Rattle.std.specs.Prelude.{if◌then◌else◌}
use Rattle.std.specs.List.{list_any}
use Rattle.std.specs.Str.{bytes_eq}
use Rattle.f66_tree.specs.declared.declaration.TypeWord.{TypeWord}
use Rattle.f66_tree.specs.Syntax.{Text, Par, SubUnit, FuncUnit}
use Rattle.f66_tree.specs.Units.{Context, kind_of, sizes_of}
use Rattle.f66_tree.specs.Evaluation.{Intrinsic, Sort, AnArray, AnIntrinsic, AFunction, known, intrinsics, array_or, is_array, sort_of}
use Rattle.f66_program.specs.Calls.{Call, kind_applied, same_kind, shape_alone, takes_shape, fits_header}
use Rattle.f66_program.specs.Linking.{is_intrinsic}

past : (b c : Bool) (g : Intrinsic) (s : Sort) → (b || c) ≡ false → (c ≡ false → s ≡ AFunction) → (if b then AnIntrinsic g else s) ≡ AFunction
past true c g s e rest = absurd (cc)
past false c g s e rest = rest e

not_known : (x : Text) (es : List (Text × Intrinsic)) → list_any (λ e. bytes_eq e.0 x) es ≡ false → known es x ≡ AFunction
not_known x [] f = refl
not_known x (e ∷ es) f = past (bytes_eq e.0 x) (list_any (λ (d : Text × Intrinsic). bytes_eq d.0 x) es) e.1 (known es x) f (λ g. not_known x es g)

plain_applied : (c : Context) (x : Text) (ns : List Par) → is_intrinsic x ≡ false → kind_applied c x (array_or ns x) ≡ kind_of c x
plain_applied c x [] f = ap (kind_applied c x) (not_known x intrinsics f)
plain_applied c x (n ∷ ns) f = refl

pub plain_kind : (c : Context) (x : Text) → is_intrinsic x ≡ false → kind_applied c x (sort_of c x) ≡ kind_of c x
plain_kind c x f = plain_applied c x (sizes_of x c.notes) f

pub array_kind : (c : Context) (x : Text) (s : Sort) → is_array s ≡ true → kind_applied c x s ≡ kind_of c x
array_kind c x (AnArray ns) e = refl
array_kind c x (AnIntrinsic g) e = absurd (cc)
array_kind c x AFunction e = refl

-- a name alone
pub alone_taken : (array : Bool) (s : Sort) → beq array (is_array s) ≡ takes_shape array (shape_alone s)
alone_taken true (AnArray ns) = refl
alone_taken true (AnIntrinsic g) = refl
alone_taken true AFunction = refl
alone_taken false (AnArray ns) = refl
alone_taken false (AnIntrinsic g) = refl
alone_taken false AFunction = refl

-- a call that leads to a function
pub function_fits : (c : Context) (k : Call) (b : Context) (t : Option TypeWord) (x : Text) (ds : List Text) → b.header ≡ FuncUnit t x ds →
    fits_header c k b ≡ (not k.by_call && same_kind (kind_of c k.name) (kind_of b x))
function_fits c k b t x ds e = ap (λ h. elim h [
  | SubUnit y ds ↦ k.by_call
  | FuncUnit u y ds ↦ not k.by_call && same_kind (kind_of c k.name) (kind_of b y)
  | _ ↦ false
]) e
