-- The code of a program: a main with an initial value that calls a subroutine and writes a list, the subroutine, and a function with a DO.
use Rattle.std.proofs.Common.{◌≡◌, ℕ, zero, suc, ◌-◌, pos, List, [], ◌∷◌, Some, None, codes, bytes_eq, if◌then◌else◌, refl}
use Rattle.ground.specs.declared.place.Place.{Place}
use Rattle.ground.specs.declared.value.Kind.TheVariants.{Integer}
use Rattle.ground.specs.Content.{Whole, Nothing}
use Rattle.f66_tree.specs.declared.expression.Operator.TheVariants.{Add}
use Rattle.f66_tree.specs.declared.editing.Way.TheVariants.{Writing}
use Rattle.f66_tree.specs.Syntax.{Text, Formula, Int, Ref, Item, Pair, NoFormula, AndFormula, Constant, Named, One, Many, NoEntry, AndEntry, Header, MainUnit, SubUnit, FuncUnit, Act, Assign, Loop, Invoke, Stop, Return, Write, Line}
use Rattle.f66_tree.specs.Units.{Linkage}
use Rattle.stack_code.specs.Instructions.{Begin, Step, Push, PushSpot, Dummy, Load, Store, Forget, Lend, Both, Jump, LoopStart, LoopTurn, Call, Return, Start, Item, Finish, Halt}
use Rattle.f66_tree.specs.Syntax as f66
use Rattle.code_gen.specs.Layout.{Layout}
use Rattle.code_gen.specs.Statements.{units_code}
use Rattle.code_gen.specs.LayingOut.{layout}

abbrev at : ℕ → Place
at n = record { file = 0; line = n }

abbrev line : ℕ → Act → Line
line n a = record { label = None; place = at n; act = a }

-- CALL S(K, 1); WRITE (6, 9) (K, I = 1, 2); STOP
abbrev main_lines : List Line
main_lines =
    line 1 (Invoke (codes "S") (AndFormula (Ref (codes "K")) (AndFormula (Int (pos 1)) NoFormula)))
    ∷ line 2 (Write (Constant (pos 6)) 9 (AndEntry (Many (AndEntry (One (Ref (codes "K"))) NoEntry) (codes "I") (Constant (pos 1)) (Constant (pos 2)) (Constant (pos 1))) NoEntry))
    ∷ line 3 (Stop None) ∷ []

-- SUBROUTINE S(M, N); M = F(N + 2); RETURN
abbrev sub_lines : List Line
sub_lines = line 5 (Assign (Ref (codes "M")) (f66.Item (codes "F") (AndFormula (Pair Add (Ref (codes "N")) (Int (pos 2))) NoFormula))) ∷ line 6 f66.Return ∷ []

-- FUNCTION F(L); DO 10 J = 1, L; 10 F = J; RETURN
abbrev function_lines : List Line
function_lines =
    line 8 (Loop 10 (codes "J") (Constant (pos 1)) (Named (codes "L")) (Constant (pos 1)))
    ∷ record { label = Some 10; place = at 9; act = Assign (Ref (codes "F")) (Ref (codes "J")) }
    ∷ line 10 f66.Return ∷ []

abbrev lines : ℕ → List Line
lines zero = main_lines
lines (suc zero) = sub_lines
lines _ = function_lines

abbrev header : ℕ → Header
header zero = MainUnit
header (suc zero) = SubUnit (codes "S") (codes "M" ∷ codes "N" ∷ [])
header _ = FuncUnit None (codes "F") (codes "L" ∷ [])

-- K and I of the main have the units 0 and 1, F and J of the function 2 and 3
abbrev number : ℕ → Text → ℕ → ℕ
number zero x o = if bytes_eq x (codes "K") then 0 else 1
number _ x o = if bytes_eq x (codes "F") then 2 else 3

abbrev linked : Linkage
linked = record {
  context = λ u. record { header = header u; notes = [] };
  find = λ x. if bytes_eq x (codes "S") then Some 1 else if bytes_eq x (codes "F") then Some 2 else None;
  main = 0;
  deep = 3;
  number = number;
  first = λ q. Nothing;
}

-- the function's two units of its DO are 8 and 9: J's two statements behind it name them
abbrev example : Layout
example = layout linked lines (λ u l. 0) ((0, Whole (pos 7)) ∷ []) 4 (λ u. 2 - u) (0 ∷ 1 ∷ 2 ∷ [])

example_code : units_code example (0 ∷ 1 ∷ 2 ∷ []) ≡
    -- the main: K is 7 first, the constant 1 is lent in unit 15, and units 15 and 16 keep the implied DO's limit and step
    Begin (at 1) ∷ PushSpot 0 1 ∷ Push (Whole (pos 7)) ∷ Store ∷ Jump 6
    ∷ Begin (at 1) ∷ PushSpot 0 1 ∷ Push (Whole (pos 1)) ∷ Lend 15 ∷ Call 27 2
    ∷ Begin (at 2) ∷ Push (Whole (pos 6)) ∷ Start Writing 0 ∷ PushSpot 1 1 ∷ Push (Whole (pos 1)) ∷ Push (Whole (pos 2)) ∷ Push (Whole (pos 1)) ∷ LoopStart 15 16
    ∷ Step ∷ PushSpot 0 1 ∷ Item Writing Integer ∷ PushSpot 1 1 ∷ LoopTurn 15 16 18 ∷ Finish
    ∷ Begin (at 3) ∷ Halt None ∷ Halt None
    -- the subroutine, at 27
    ∷ Begin (at 5) ∷ Dummy 0 ∷ Dummy 1 ∷ Load Integer ∷ Push (Whole (pos 2)) ∷ Both Add ∷ Lend 10
    ∷ PushSpot 2 1 ∷ Forget ∷ Call 43 1 ∷ PushSpot 2 1 ∷ Load Integer ∷ Store ∷ Begin (at 6) ∷ Return ∷ Return
    -- the function, at 43
    ∷ Begin (at 8) ∷ PushSpot 8 1 ∷ Forget ∷ PushSpot 9 1 ∷ Forget ∷ Jump 50
    ∷ Begin (at 8) ∷ PushSpot 3 1 ∷ Push (Whole (pos 1)) ∷ Dummy 0 ∷ Load Integer ∷ Push (Whole (pos 1)) ∷ LoopStart 8 9
    ∷ Begin (at 9) ∷ PushSpot 2 1 ∷ PushSpot 3 1 ∷ Load Integer ∷ Store ∷ PushSpot 3 1 ∷ LoopTurn 8 9 56 ∷ Begin (at 10) ∷ Return ∷ Return ∷ []
example_code = refl
