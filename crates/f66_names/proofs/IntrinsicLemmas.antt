-- A name of another length than theirs is no intrinsic function's.
use Rattle.std.proofs.Common.{◌≡◌, ap, ◌∙◌, length}
use Rattle.std.specs.Prelude.{if◌then◌else◌, codes}
use Rattle.std.specs.Str.{bytes_eq}
use Rattle.std.proofs.lemmas.Bool.{false_from_ne_true}
use Rattle.std.proofs.lemmas.Slice.Eq.{bytes_eq-Decides}
use Rattle.f66_tree.specs.Syntax.{Text}
use Rattle.f66_tree.specs.Evaluation.{Sort, AnIntrinsic, AFunction, known, intrinsics, Iabs, Mod, Isign, Idim, Max0, Min0}

past : (s x : Text) (found other : Sort) → (length s ≡ length x → ⊥) → (if bytes_eq s x then found else other) ≡ other
past s x found other apart = ap (λ b. if b then found else other) (false_from_ne_true (bytes_eq s x) (λ e. apart (ap length ((bytes_eq-Decides s x).0 e))))

pub no_intrinsic : (x : Text) → (3 ≡ length x → ⊥) → (4 ≡ length x → ⊥) → (5 ≡ length x → ⊥) → known intrinsics x ≡ AFunction
no_intrinsic x three four five =
    past (codes "IABS") x (AnIntrinsic Iabs) _ four ∙ past (codes "MOD") x (AnIntrinsic Mod) _ three ∙ past (codes "ISIGN") x (AnIntrinsic Isign) _ five
    ∙ past (codes "IDIM") x (AnIntrinsic Idim) _ four ∙ past (codes "MAX0") x (AnIntrinsic Max0) _ four ∙ past (codes "MIN0") x (AnIntrinsic Min0) _ four
