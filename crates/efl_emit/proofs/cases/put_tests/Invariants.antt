-- So far the constants before are tested.
use Rattle.std.proofs.Common.{drop}
use Rattle.efl_emit.specs.Names.{emission_of, operand_of}
use Rattle.efl_emit.proofs.Forms.{TestsSoFar}
use Rattle.efl_emit.proofs.cases.put_tests.Given as goal

abbrev pub invariant-loop-test : goal.invariant-loop-test
invariant-loop-test l =
    TestsSoFar l.place (operand_of l.value) l.tests (drop l.test-index l.tests) l.found (emission_of l.initial.out) (emission_of l.out)
