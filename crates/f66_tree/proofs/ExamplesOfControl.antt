-- Small units, by computation: GO TO, IF, DO, CALL, STOP and their traps. The counts were taken by hand.
use Rattle.std.proofs.Common.{◌≡◌, refl}
use Rattle.std.specs.Prelude.{ℕ, pos, List, [], ◌∷◌, Some, None, codes}
use Rattle.std.specs.Fmt.{digits}
use Rattle.ground.specs.declared.trap.Trap.TheVariants.{BadDo, BadBranch, ValueArgument, Undefined}
use Rattle.f66_tree.specs.declared.expression.Operator.TheVariants.{Add, Sub, Lt}
use Rattle.f66_tree.specs.Syntax.{Pair, NoFormula, AndFormula, Constant, Named, MainUnit, SubUnit, Goto, Computed, Sign, When, Loop, Invoke, Continue, Stop, Return, unlabelled_line, labelled_line, Line}
use Rattle.f66_tree.specs.World.{Ended, Done, Stopped, Trapped, GoesOn}
use Rattle.f66_tree.proofs.ExampleParts.{here, i, k, m, n, num, var, set, write, i3, main, runs, Sample}

-- K = 1; GO TO 10; K = 2; 10 WRITE K; STOP 3
abbrev jump : List Line
jump =
    unlabelled_line (here 1) (set k (num (pos 1))) ∷ unlabelled_line (here 2) (Goto 10) ∷ unlabelled_line (here 3) (set k (num (pos 2)))
    ∷ labelled_line 10 (here 4) (write (k ∷ [])) ∷ i3 ∷ unlabelled_line (here 5) (Stop (Some 3)) ∷ []

jumps : runs (main jump) [] 10 ≡ record { records = codes "  1" ∷ []; end = Ended (Stopped 3); work = 4 }
unfolding digits
jumps = refl

-- the end is GoesOn exactly where a further statement would begin
jumps_stopped : runs (main jump) [] 3 ≡ record { records = codes "  1" ∷ []; end = GoesOn; work = 3 }
unfolding digits
jumps_stopped = refl

-- K = 2; GO TO (10,20),K; 10 STOP 1; 20 STOP 2
abbrev computed : ℕ → List Line
computed v =
    unlabelled_line (here 1) (set k (num (pos v))) ∷ unlabelled_line (here 2) (Computed (10 ∷ 20 ∷ []) k)
    ∷ labelled_line 10 (here 3) (Stop (Some 1)) ∷ labelled_line 20 (here 4) (Stop (Some 2)) ∷ []

computed_second : runs (main (computed 2)) [] 10 ≡ record { records = []; end = Ended (Stopped 2); work = 3 }
computed_second = refl

computed_none : runs (main (computed 3)) [] 10 ≡ record { records = []; end = Ended (Trapped BadBranch (here 2)); work = 2 }
computed_none = refl

computed_zero : runs (main (computed 0)) [] 10 ≡ record { records = []; end = Ended (Trapped BadBranch (here 2)); work = 2 }
computed_zero = refl

-- IF (1-2) 10,20,20; 10 STOP 1; 20 STOP 2
abbrev by_sign : List Line
by_sign =
    unlabelled_line (here 1) (Sign (Pair Sub (num (pos 1)) (num (pos 2))) 10 20 20)
    ∷ labelled_line 10 (here 2) (Stop (Some 1)) ∷ labelled_line 20 (here 3) (Stop (Some 2)) ∷ []

signs : runs (main by_sign) [] 10 ≡ record { records = []; end = Ended (Stopped 1); work = 2 }
signs = refl

-- IF (1.LT.2) STOP 7; STOP. The statement of the IF counts one more where it is executed.
abbrev chosen : ℕ → List Line
chosen v = unlabelled_line (here 1) (When (Pair Lt (num (pos 1)) (num (pos v))) (Stop (Some 7))) ∷ unlabelled_line (here 2) (Stop None) ∷ []

chooses : runs (main (chosen 2)) [] 10 ≡ record { records = []; end = Ended (Stopped 7); work = 2 }
chooses = refl

passes_by : runs (main (chosen 1)) [] 10 ≡ record { records = []; end = Ended Done; work = 2 }
passes_by = refl

-- M = 0; DO 10 I=1,3; DO 10 K=I,3; 10 M = M+1; WRITE M; STOP: two DO loops end at one statement
abbrev nested : List Line
nested =
    unlabelled_line (here 1) (set m (num (pos 0))) ∷ unlabelled_line (here 2) (Loop 10 i (Constant (pos 1)) (Constant (pos 3)) (Constant (pos 1)))
    ∷ unlabelled_line (here 3) (Loop 10 k (Named i) (Constant (pos 3)) (Constant (pos 1))) ∷ labelled_line 10 (here 4) (set m (Pair Add (var m) (num (pos 1))))
    ∷ unlabelled_line (here 5) (write (m ∷ [])) ∷ i3 ∷ unlabelled_line (here 6) (Stop None) ∷ []

nests : runs (main nested) [] 20 ≡ record { records = codes "  6" ∷ []; end = Ended Done; work = 13 }
unfolding digits
nests = refl

-- DO 10 I=3,2: the first parameter exceeds the second
backwards : runs (main (unlabelled_line (here 1) (Loop 10 i (Constant (pos 3)) (Constant (pos 2)) (Constant (pos 1))) ∷ labelled_line 10 (here 2) Continue ∷ unlabelled_line (here 3) (Stop None) ∷ [])) [] 10 ≡
    record { records = []; end = Ended (Trapped BadDo (here 1)); work = 1 }
backwards = refl

-- DO 10 I=2147483646,2147483647,2; 10 CONTINUE; K = I: a sum past the greatest integer counts as greater, and the
-- variable is undefined then
past_greatest : runs (main (unlabelled_line (here 1) (Loop 10 i (Constant (pos 2147483646)) (Constant (pos 2147483647)) (Constant (pos 2))) ∷ labelled_line 10 (here 2) Continue ∷ unlabelled_line (here 3) (set k (var i)) ∷ [])) [] 10 ≡
    record { records = []; end = Ended (Trapped Undefined (here 3)); work = 3 }
past_greatest = refl

-- CALL SUM(M,4), which adds 4 to M; the dummies are M and N there
abbrev called : List Line → List Sample
called body =
    (MainUnit, unlabelled_line (here 1) (set m (num (pos 3))) ∷ unlabelled_line (here 2) (Invoke (codes "SUM") (AndFormula (var m) (AndFormula (num (pos 4)) NoFormula))) ∷ unlabelled_line (here 3) (write (m ∷ [])) ∷ i3 ∷ unlabelled_line (here 4) (Stop None) ∷ [])
    ∷ (SubUnit (codes "SUM") (k ∷ n ∷ []), body) ∷ []

calls : runs (called (unlabelled_line (here 11) (set k (Pair Add (var k) (var n))) ∷ unlabelled_line (here 12) Return ∷ [])) [] 10 ≡ record { records = codes "  7" ∷ []; end = Ended Done; work = 6 }
unfolding digits
calls = refl

-- a dummy whose actual is a value takes no store
stores_in_value : runs (called (unlabelled_line (here 11) (set n (num (pos 1))) ∷ unlabelled_line (here 12) Return ∷ [])) [] 10 ≡ record { records = []; end = Ended (Trapped ValueArgument (here 11)); work = 3 }
stores_in_value = refl

-- GO TO 1 for ever
loops : runs (main (labelled_line 1 (here 1) (Goto 1) ∷ [])) [] 5 ≡ record { records = []; end = GoesOn; work = 5 }
loops = refl
