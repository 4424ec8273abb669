-- What came in leaves the statement going, and an integer is in range.
use Rattle.std.proofs.Common.{rules, FitsSigned, w64}
use Rattle.std.proofs.lemmas.Int.{to_z-of_z}
use Rattle.ground.specs.Arithmetic.{IsInRange}
use Rattle.f66_tree.specs.Fields.{NoField}
use Rattle.format_io.specs.Places.{hand_of}
use Rattle.record_flow.proofs.Contents.{whole_goes, whole_in_range, letter_goes, letter_in_range, truth_goes}
use Rattle.record_flow.proofs.flow.Flow.take.Goals as goal

pub returns-in_ok-n-in-Some-Whole-clause-going : goal.returns-in_ok-n-in-Some-Whole-clause-going
returns-in_ok-n-in-Some-Whole-clause-going c = whole_goes (hand_of NoField c.self.inside.edit) (hand_of NoField c.take_int.new.self) c.in_ok-n-in-Some-Whole.n (c.in_ok-n-in-Some-Whole.ensures.hand NoField)

pub returns-in_ok-n-in-Some-Whole-clause-range : goal.returns-in_ok-n-in-Some-Whole-clause-range
returns-in_ok-n-in-Some-Whole-clause-range c =
    let small : IsInRange c.in_ok-n-in-Some-Whole.n = whole_in_range (hand_of NoField c.self.inside.edit) (hand_of NoField c.take_int.new.self) c.in_ok-n-in-Some-Whole.n (c.in_ok-n-in-Some-Whole.ensures.hand NoField) in
    let fits : FitsSigned w64 c.in_ok-n-in-Some-Whole.n = search rules in
    simp to_z-of_z small

pub returns-in_ok-holds-in-Some-Truth-clause-going : goal.returns-in_ok-holds-in-Some-Truth-clause-going
returns-in_ok-holds-in-Some-Truth-clause-going c = truth_goes (hand_of NoField c.self.inside.edit) (hand_of NoField c.take_log.new.self) c.in_ok-holds-in-Some-Truth.holds (c.in_ok-holds-in-Some-Truth.ensures.hand NoField)

pub returns-in_ok-n-in-Some-Letter-clause-going : goal.returns-in_ok-n-in-Some-Letter-clause-going
returns-in_ok-n-in-Some-Letter-clause-going c = letter_goes (hand_of NoField c.self.inside.edit) (hand_of NoField c.take_char.new.self) c.in_ok-n-in-Some-Letter.n (c.in_ok-n-in-Some-Letter.ensures.hand NoField)

pub returns-in_ok-n-in-Some-Letter-clause-range : goal.returns-in_ok-n-in-Some-Letter-clause-range
returns-in_ok-n-in-Some-Letter-clause-range c =
    let small : IsInRange c.in_ok-n-in-Some-Letter.n = letter_in_range (hand_of NoField c.self.inside.edit) (hand_of NoField c.take_char.new.self) c.in_ok-n-in-Some-Letter.n (c.in_ok-n-in-Some-Letter.ensures.hand NoField) in
    let fits : FitsSigned w64 c.in_ok-n-in-Some-Letter.n = search rules in
    simp to_z-of_z small
