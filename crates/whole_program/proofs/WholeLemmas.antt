-- Where each rule of a smaller rank is kept, and the limit, no part of the program breaks any rule.
use Rattle.std.proofs.Common.{arith}
use Rattle.ground.specs.declared.fault.FaultKind.{FaultKind}
use Rattle.ground.specs.declared.fault.FaultKind.TheVariants.{DuplicateUnit, MainCount, MissingUnit, TypeClash, WrongCount, Recursion, CommonMismatch, InitialTwice, Limit}
use Rattle.f66_program.specs.Linking.{Program, Part, Breaks, IsWhole, rank}
use Rattle.linker.specs.Order.{AreCallsKept, AreKeptBelow}
use Rattle.linker.specs.Rules.{IsKept}
use Rattle.linker.proofs.OrderLemmas.{kept_more}

module _ (p : Program) where
  pub sizes_kept : AreCallsKept p → IsKept CommonMismatch p → AreKeptBelow (rank InitialTwice) p
  sizes_kept calls sizes = kept_more p CommonMismatch (omega arith) calls sizes

  pub values_kept : AreCallsKept p → IsKept CommonMismatch p → IsKept InitialTwice p → AreKeptBelow (rank Limit) p
  values_kept calls sizes values = kept_more p InitialTwice (omega arith) (sizes_kept calls sizes) values

  module _ (before : AreKeptBelow (rank Limit) p) (limit : IsKept Limit p) where
    all_kept : (k : FaultKind) (q : Part) → ¬ Breaks k p q
    all_kept DuplicateUnit q = before DuplicateUnit (omega arith) q
    all_kept MainCount q = before MainCount (omega arith) q
    all_kept MissingUnit q = before MissingUnit (omega arith) q
    all_kept TypeClash q = before TypeClash (omega arith) q
    all_kept WrongCount q = before WrongCount (omega arith) q
    all_kept Recursion q = before Recursion (omega arith) q
    all_kept CommonMismatch q = before CommonMismatch (omega arith) q
    all_kept InitialTwice q = before InitialTwice (omega arith) q
    all_kept Limit q = limit q
    all_kept _ q = λ b. b

    pub whole : IsWhole p
    whole = record { clean = all_kept }
