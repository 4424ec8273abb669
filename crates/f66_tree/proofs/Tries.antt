-- Operations that do not fail: each yields what is said of its result, or traps.
use Rattle.std.proofs.Common.{Bool, true, false}
use Rattle.std.specs.Prelude.{if◌then◌else◌, ⊤}
use Rattle.ground.specs.declared.value.Kind.{Kind}
use Rattle.ground.specs.declared.value.Kind.TheVariants.{Integer, Logical}
use Rattle.ground.specs.Content.{Content, Whole, Truth}
use Rattle.f66_tree.specs.World.{Try, Yields, Traps, Fails, then_try}

-- a content of a type
abbrev pub IsOfKind : Kind → Content → Type 0
IsOfKind Integer (Whole z) = ⊤
IsOfKind Logical (Truth b) = ⊤
IsOfKind _ _ = ⊥

-- an operation yields what P says, or traps
abbrev pub TriesRightly : {A : Type 0} → (A → Type 0) → Try A → Type 0
TriesRightly P (Yields a) = P a
TriesRightly P (Traps t) = ⊤
TriesRightly P Fails = ⊥

pub then_rightly : {A B : Type 0} (P : A → Type 0) (Q : B → Type 0) (t : Try A) (g : A → Try B) → TriesRightly P t → ((a : A) → P a → TriesRightly Q (g a)) → TriesRightly Q (then_try t g)
then_rightly P Q (Yields a) g h k = k a h
then_rightly P Q (Traps t) g h k = tt
then_rightly P Q Fails g h k = h

pub if_both : {X : Type 0} (P : X → Type 0) (b : Bool) (x y : X) → P x → P y → P (if b then x else y)
if_both P true x y h k = h
if_both P false x y h k = k
