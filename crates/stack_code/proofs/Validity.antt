-- Code of which all is known is valid, within the bounds that were found.
use Rattle.std.proofs.Common.{ℕ, List, length, sym, ◌∙◌}
use Rattle.std.proofs.lemmas.Option.{slice_get_within, same_Some}
use Rattle.stack_code.specs.Instructions.{Instruction}
use Rattle.stack_code.specs.ValidCode.{NeverReturns, IsValid}
use Rattle.stack_code.specs.Facts.{Facts, AreAll}
use Rattle.stack_code.specs.Ahead.{HasMainDepth}
use Rattle.stack_code.specs.Bounds.{AllInRange, AreWithin, IsChecked}
use Rattle.stack_code.proofs.AheadLemmas.{reached_known}

pub not_in_range : (code : List Instruction) (plans units : ℕ) → (AllInRange code plans units → ⊥) → IsValid code plans units → ⊥
not_in_range code plans units h v = h (record { begins = v.begins; all = v.ranges })

valid_with : (code : List Instruction) (plans units : ℕ) (facts : Facts) (deep : ℕ) → AllInRange code plans units → AreAll code facts → HasMainDepth code deep → NeverReturns code → IsValid code plans units
valid_with code plans units facts deep ranges all d returns =
    record {
      begins = ranges.begins;
      ranges = ranges.all;
      finds = λ entry k pc f reached.
          let known = reached_known code facts all entry k pc f reached in
          let s = (all.settled pc (slice_get_within facts pc _ known)).by f known in
          record { instruction = s.instruction; stands = s.stands; behind = s.behind; gives = s.gives };
      one = λ entry other k j pc f g r1 r2. same_Some _ _ (same_Some _ _ (sym (reached_known code facts all entry k pc f r1) ∙ reached_known code facts all other j pc g r2));
      returns = returns;
      depth = d.depth;
      depths = d.depths;
    }

pub is_checked : (code : List Instruction) (plans units : ℕ) (facts : Facts) (top wide deep : ℕ) → AllInRange code plans units → AreAll code facts → HasMainDepth code deep → NeverReturns code → AreWithin facts (length facts) top wide → IsChecked code plans units top wide deep
is_checked code plans units facts top wide deep ranges all d returns within =
    record {
      valid = valid_with code plans units facts deep ranges all d returns;
      bounds = record {
        stack = λ entry k pc f reached. let known = reached_known code facts all entry k pc f reached in (within pc f (slice_get_within facts pc _ known) known).0;
        dummies = λ entry k pc f reached. let known = reached_known code facts all entry k pc f reached in (within pc f (slice_get_within facts pc _ known) known).1;
        depth = d;
      };
    }
