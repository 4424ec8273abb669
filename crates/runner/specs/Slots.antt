-- What a storage unit in memory stands for, by its kind: an integer, nothing, false or true.
use Rattle.std.specs.Prelude.{◌≡◌, ◌≢◌, ℕ, ◌≤◌, ℤ, pos, Bool, true, false, nat_eq, if◌then◌else◌}
use Rattle.std.proofs.Common.{refl, sym, arith}
use Rattle.std.proofs.lemmas.Bool.{eqb-true, eqb-false}
use Rattle.runner.specs.declared.words.Cell.{Cell}
use Rattle.runner.specs.declared.words.Cell.TheVariants as cells

abbrev pub value_of : Cell → ℤ
value_of (cells.Whole z) = z
value_of cells.Nothing = pos 0
value_of (cells.Truth b) = pos 0

abbrev pub kind_of : Cell → ℕ
kind_of (cells.Whole z) = 0
kind_of cells.Nothing = 1
kind_of (cells.Truth false) = 2
kind_of (cells.Truth true) = 3

abbrev pub cell_of : ℤ → ℕ → Cell
cell_of z k = if nat_eq k 0 then cells.Whole z else (if nat_eq k 1 then cells.Nothing else cells.Truth (nat_eq k 3))

-- of four kinds, the first alone has an integer other than zero
pub record IsSlot (z : ℤ) (k : ℕ) : Type 0 where
  pub kinds : k ≤ 3
  pub rest : k ≢ 0 → z ≡ pos 0

-- ---- the content settles both ----

no_integer : (z : ℤ) (b : Bool) (t : Bool) → z ≡ pos 0 → value_of (if b then cells.Nothing else cells.Truth t) ≡ z
no_integer z true t is = sym is
no_integer z false t is = sym is

value_by : (z : ℤ) (k : ℕ) (b : Bool) → nat_eq k 0 ≡ b → IsSlot z k → value_of (if b then cells.Whole z else (if nat_eq k 1 then cells.Nothing else cells.Truth (nat_eq k 3))) ≡ z
value_by z k true e is = refl
value_by z k false e is = no_integer z (nat_eq k 1) (nat_eq k 3) (is.rest (eqb-false k 0 e))

pub same_value : (z : ℤ) (k : ℕ) → IsSlot z k → value_of (cell_of z k) ≡ z
same_value z k is = value_by z k (nat_eq k 0) refl is

truth_kind : (k : ℕ) (b : Bool) → nat_eq k 3 ≡ b → k ≢ 0 → k ≢ 1 → k ≤ 3 → kind_of (cells.Truth b) ≡ k
truth_kind k true e some more most = sym (eqb-true k 3 e)
truth_kind k false e some more most = let ne = eqb-false k 3 e in omega (arith, ne, some, more, most)

other_kind : (k : ℕ) (b : Bool) → nat_eq k 1 ≡ b → k ≢ 0 → k ≤ 3 → kind_of (if b then cells.Nothing else cells.Truth (nat_eq k 3)) ≡ k
other_kind k true e some most = sym (eqb-true k 1 e)
other_kind k false e some most = truth_kind k (nat_eq k 3) refl some (eqb-false k 1 e) most

kind_by : (z : ℤ) (k : ℕ) (b : Bool) → nat_eq k 0 ≡ b → k ≤ 3 → kind_of (if b then cells.Whole z else (if nat_eq k 1 then cells.Nothing else cells.Truth (nat_eq k 3))) ≡ k
kind_by z k true e most = sym (eqb-true k 0 e)
kind_by z k false e most = other_kind k (nat_eq k 1) refl (eqb-false k 0 e) most

pub same_kind : (z : ℤ) (k : ℕ) → IsSlot z k → kind_of (cell_of z k) ≡ k
same_kind z k is = kind_by z k (nat_eq k 0) refl is.kinds
