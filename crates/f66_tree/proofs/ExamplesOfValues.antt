-- Values of expressions, by computation: operators, intrinsic functions, elements, functions, and their traps.
use Rattle.std.proofs.Common.{◌≡◌, refl}
use Rattle.std.specs.Prelude.{ℕ, pos, negsuc, true, false, List, [], ◌∷◌, None, codes}
use Rattle.ground.specs.declared.trap.Trap.TheVariants.{Overflow, Division, Power, Subscript, Undefined}
use Rattle.ground.specs.Content.{Content, Whole, Truth}
use Rattle.f66_tree.specs.declared.expression.Operator.TheVariants.{Add, Sub, Mul, Div, Lt, Eq, And, Or}
use Rattle.f66_tree.specs.declared.expression.Operator.TheVariants as operators
use Rattle.f66_tree.specs.Syntax.{Text, Formula, Item, Minus, Not, Pair, NoFormula, AndFormula, Constant, MainUnit, FuncUnit, Assign, Dimension, Return, Line, unlabelled_line}
use Rattle.f66_tree.specs.World.{Out, Gives, Halts, Ended, Trapped, Try, Yields, Traps, Fails}
use Rattle.f66_tree.specs.Evaluation.{value_of}
use Rattle.f66_tree.specs.Execution.{target, exec, first_state}
use Rattle.f66_tree.proofs.ExampleParts.{here, k, m, n, num, var, with_one, set, main, runs, linkage, nth_sample, Sample}
use Rattle.f66_tree.specs.Syntax as f66

abbrev outcome : Out Content → Try Content
outcome (Gives v w) = Yields v
outcome (Halts (Ended (Trapped t p)) w) = Traps t
outcome (Halts e w) = Fails

-- the value of an expression in the first of some units, where nothing is stored
abbrev value_in : List Sample → Formula → Try Content
value_in us a =
    let l = linkage us in
    let units : ℕ → List Line = λ v. (nth_sample us v).1 in
    outcome (value_of (target l units 20 (exec l units 20)) (record { unit = 0; actuals = []; place = here 1 }) a (record { state = first_state l []; left = 20; count = 0 }))

abbrev value : Formula → Try Content
value a = value_in (main []) a

minus_seven_by_two : value (Pair Div (Minus (num (pos 7))) (num (pos 2))) ≡ Yields (Whole (negsuc 2))
minus_seven_by_two = refl

greatest_and_one : value (Pair Add (num (pos 2147483647)) (num (pos 1))) ≡ Traps Overflow
greatest_and_one = refl

least : value (Pair Sub (Minus (num (pos 2147483646))) (num (pos 1))) ≡ Yields (Whole (negsuc 2147483646))
least = refl

by_zero : value (Pair Div (num (pos 1)) (num (pos 0))) ≡ Traps Division
by_zero = refl

to_the_tenth : value (Pair operators.Power (num (pos 2)) (num (pos 10))) ≡ Yields (Whole (pos 1024))
to_the_tenth = refl

zero_to_zero : value (Pair operators.Power (num (pos 0)) (num (pos 0))) ≡ Traps Power
zero_to_zero = refl

one_to_minus_one : value (Pair operators.Power (num (pos 1)) (Minus (num (pos 1)))) ≡ Traps Power
one_to_minus_one = refl

-- operands are evaluated from left to right, all of them
both_operands : value (Pair Or (f66.Truth true) (Pair Eq (Pair Div (num (pos 1)) (num (pos 0))) (num (pos 1)))) ≡ Traps Division
both_operands = refl

left_first : value (Pair Add (Pair Div (num (pos 1)) (num (pos 0))) (Pair Add (num (pos 2147483647)) (num (pos 1)))) ≡ Traps Division
left_first = refl

not_less : value (Not (Pair Lt (num (pos 1)) (num (pos 2)))) ≡ Yields (Truth false)
not_less = refl

no_value : value (var k) ≡ Traps Undefined
no_value = refl

abbrev two : Text → Formula → Formula → Formula
two f a b = Item f (AndFormula a (AndFormula b NoFormula))

magnitude : value (with_one (codes "IABS") (Minus (num (pos 3)))) ≡ Yields (Whole (pos 3))
magnitude = refl

remainder : value (two (codes "MOD") (Minus (num (pos 7))) (num (pos 2))) ≡ Yields (Whole (negsuc 0))
remainder = refl

no_remainder : value (two (codes "MOD") (num (pos 7)) (num (pos 0))) ≡ Traps Division
no_remainder = refl

sign_of_zero : value (two (codes "ISIGN") (Minus (num (pos 7))) (num (pos 0))) ≡ Yields (Whole (pos 7))
sign_of_zero = refl

sign_below : value (two (codes "ISIGN") (num (pos 7)) (Minus (num (pos 2)))) ≡ Yields (Whole (negsuc 6))
sign_below = refl

excess : value (two (codes "IDIM") (num (pos 7)) (num (pos 2))) ≡ Yields (Whole (pos 5))
excess = refl

no_excess : value (two (codes "IDIM") (num (pos 2)) (num (pos 7))) ≡ Yields (Whole (pos 0))
no_excess = refl

excess_too_great : value (two (codes "IDIM") (num (pos 2147483647)) (Minus (num (pos 1)))) ≡ Traps Overflow
excess_too_great = refl

greatest_of : value (Item (codes "MAX0") (AndFormula (num (pos 2)) (AndFormula (num (pos 7)) (AndFormula (num (pos 3)) NoFormula)))) ≡ Yields (Whole (pos 7))
greatest_of = refl

least_of : value (Item (codes "MIN0") (AndFormula (num (pos 2)) (AndFormula (Minus (num (pos 7))) (AndFormula (num (pos 3)) NoFormula)))) ≡ Yields (Whole (negsuc 6))
least_of = refl

-- DIMENSION M(2,3); M(1,3) = 5; K = M(1,3); K = M(3,1)
abbrev grid : List Line
grid =
    unlabelled_line (here 1) (Dimension (record { name = m; sizes = Constant (pos 2) ∷ Constant (pos 3) ∷ [] } ∷ []))
    ∷ unlabelled_line (here 2) (Assign (two m (num (pos 1)) (num (pos 3))) (num (pos 5))) ∷ unlabelled_line (here 3) (set k (two m (num (pos 1)) (num (pos 3))))
    ∷ unlabelled_line (here 4) (set k (two m (num (pos 3)) (num (pos 1)))) ∷ []

outside : (runs (main grid) [] 10).end ≡ Ended (Trapped Subscript (here 4))
outside = refl

-- INTEGER FUNCTION KF(N): KF = N*N; RETURN
abbrev square : List Line → List Sample
square body = (MainUnit, []) ∷ (FuncUnit None (codes "KF") (n ∷ []), body) ∷ []

squared : value_in (square (unlabelled_line (here 11) (set (codes "KF") (Pair Mul (var n) (var n))) ∷ unlabelled_line (here 12) Return ∷ [])) (Pair Add (with_one (codes "KF") (num (pos 3))) (num (pos 1))) ≡ Yields (Whole (pos 10))
squared = refl

-- a function that stores no value
without_value : value_in (square (unlabelled_line (here 12) Return ∷ [])) (with_one (codes "KF") (num (pos 3))) ≡ Traps Undefined
without_value = refl
