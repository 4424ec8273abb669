-- The forms of plain statements that the rules of flow tell apart.
use Rattle.std.proofs.Common.{◌≡◌, Bool, true, false, refl}
use Rattle.ground.specs.declared.value.Kind.{Kind}
use Rattle.f66_tree.specs.Syntax.{Text, Act, Assign, Goto, Computed, Sign, When, Loop, Invoke, Continue, Stop, Return, Read, Write, Format, Typed, Dimension, Common, Equivalence, Preset}
use Rattle.f66_flow.specs.Acts.{is_specification, is_data}
use Rattle.plain_units.specs.Plain.{IsPlain}

abbrev pub is_loop : Act → Bool
is_loop (Loop l x a b c) = true
is_loop _ = false

-- a statement that is no DATA and no DO
pub record IsSimple (a : Act) : Type 0 where
  pub no_data : is_data a ≡ false
  pub no_loop : is_loop a ≡ false

-- one that is no specification besides
pub record IsDone (a : Act) : Type 0 where
  pub simple : IsSimple a
  pub no_specification : is_specification a ≡ false

abbrev pub is_done : {a : Act} → is_data a ≡ false → is_loop a ≡ false → is_specification a ≡ false → IsDone a
is_done d l s = record { simple = record { no_data = d; no_loop = l }; no_specification = s }

pub plain_done : (V F : Text → Kind → Type 0) (S : Text → Type 0) (a : Act) → IsPlain V F S a → IsDone a
plain_done V F S (Assign x e) is = is_done refl refl refl
plain_done V F S (Goto l) is = is_done refl refl refl
plain_done V F S (Computed ls x) is = absurd is
plain_done V F S (Sign e l m k) is = absurd is
plain_done V F S (When e a) is = is_done refl refl refl
plain_done V F S (Loop l x a b c) is = absurd is
plain_done V F S (Invoke x es) is = is_done refl refl refl
plain_done V F S Continue is = is_done refl refl refl
plain_done V F S (Stop n) is = is_done refl refl refl
plain_done V F S Return is = is_done refl refl refl
plain_done V F S (Read u l es) is = is_done refl refl refl
plain_done V F S (Write u l es) is = is_done refl refl refl
plain_done V F S (Format fs) is = is_done refl refl refl
plain_done V F S (Typed t ds) is = absurd is
plain_done V F S (Dimension ds) is = absurd is
plain_done V F S (Common areas) is = absurd is
plain_done V F S (Equivalence es) is = absurd is
plain_done V F S (Preset ps) is = absurd is
