-- The names and labels of FORTRAN that stand for those of EFL.
use Rattle.std.specs.Prelude.{ℕ, ◌+◌, ◌*◌, ◌/◌, ◌%◌, List, [], ◌∷◌, slice_get, unwrap_or}
use Rattle.std.specs.HashMap.{get_by}
use Rattle.std.specs.Str.{bytes_eq}
use Rattle.ground.specs.declared.value.Kind.{Kind}
use Rattle.ground.specs.declared.value.Kind.TheVariants.{Integer, Logical}
use Rattle.f66_tree.specs.Syntax.{Text, Formula, Int, Truth, Ref}
use Rattle.f66_tree.specs.Views.{lines_of}
use Rattle.efl_emit.specs.Emitted.{Emission}
use Rattle.efl_emit.specs.declared.emitter.Emitter.{Emitter}
use Rattle.efl_emit.specs.declared.naming.Naming.{Naming}
use Rattle.efl_emit.specs.declared.operand.Operand.{Operand}
use Rattle.efl_emit.specs.declared.operand.Operand.TheVariants as operands

abbrev pub emission_of : Emitter → Emission
emission_of s = record { lines = lines_of s.code.items; made = s.made }

-- the name with this number, and the empty one past the last
abbrev pub name_at : List Text → ℕ → Text
name_at xs n = unwrap_or (slice_get xs n) []

abbrev pub home_of : Naming → ℕ → Text
home_of s v = name_at s.homes.items v

abbrev pub callee_of : Naming → ℕ → Text
callee_of s v = name_at s.callees.items v

abbrev pub own_of : Naming → Text
own_of s = s.own

-- the label that a label of the source has, and 0 where it has none
abbrev pub label_of : Naming → Text → ℕ
label_of s x = unwrap_or (get_by (λ k. bytes_eq x k.now) s.labels) 0

-- the n-th of the labels that are made
abbrev pub made_of : Naming → ℕ → ℕ
made_of s n = s.first + n

-- the number in the name of a temporary: even for integers, and odd for truth values
abbrev pub number_of : Kind → ℕ → ℕ
number_of Integer n = 2 * n
number_of Logical n = 2 * n + 1

abbrev pub digit_at : ℕ → ℕ → ℕ
digit_at n unit = 48 + n / unit % 10

-- the name of a temporary: Z and the last five digits of its number
abbrev pub temp_of : Kind → ℕ → Text
temp_of k n =
    let m = number_of k n in
    90 ∷ digit_at m 10000 ∷ digit_at m 1000 ∷ digit_at m 100 ∷ digit_at m 10 ∷ digit_at m 1 ∷ []

-- a constant or a temporary
abbrev pub operand_of : Operand → Formula
operand_of (operands.Int z) = Int z
operand_of (operands.Truth b) = Truth b
operand_of (operands.Temp k n) = Ref (temp_of k n)
