-- Small programs, by computation: each control statement, with the places of traps and with the bound.
use Rattle.std.proofs.Common.{◌≡◌, refl}
use Rattle.std.specs.Prelude.{ℕ, zero, suc, pos, true, false, List, [], ◌∷◌, Some, None, codes}
use Rattle.std.specs.Fmt.{digits}
use Rattle.ground.specs.declared.trap.Trap.TheVariants.{BadDo, Division, Undefined}
use Rattle.f66_tree.specs.declared.expression.Operator.TheVariants.{Add, Mul, Div, Lt, Le, Eq}
use Rattle.f66_tree.specs.Syntax.{Text, Pair, NoFormula, AndFormula, Constant, MainUnit, FuncUnit, Act, Goto, Stop}
use Rattle.f66_tree.specs.World.{Shown, Ended, Done, Trapped, GoesOn}
use Rattle.f66_tree.specs.Units.{Linkage}
use Rattle.f66_tree.proofs.ExampleParts.{here, i, k, m, n, num, var, with_one, set, write, i3, linkage}
use Rattle.rat_tree.specs.Syntax.{Command, Empty, Block, If, IfElse, While, For, Repeat, RepeatUntil, Do, Switch, Break, Next, Return, Plain, Labelled, Commands, NoCommand, AndCommand, NoClause, AndClause}
use Rattle.rat_tree.specs.Meaning.{Body, Ours, ratfor}

abbrev all : List Command → Commands
all [] = NoCommand
all (c ∷ cs) = AndCommand c (all cs)

abbrev plain : ℕ → Act → Command
plain p a = Plain None (here p) a

abbrev block : ℕ → List Command → Command
block p cs = Block (here p) (all cs)

abbrev l : Linkage
l = linkage ((MainUnit, i3 ∷ []) ∷ (FuncUnit None (codes "KF") (n ∷ []), []) ∷ [])

-- a main alone, and one with a function KF of N
abbrev meaning : List Command → ℕ → Shown
meaning cs b = ratfor l (λ v. Ours (all cs)) b []

abbrev bodies : List Command → List Command → ℕ → Body
bodies cs ds zero = Ours (all cs)
bodies cs ds (suc v) = Ours (all ds)

abbrev with_function : List Command → List Command → ℕ → Shown
with_function cs ds b = ratfor l (bodies cs ds) b []

abbrev plus : Text → ℕ → Act
plus x v = set x (Pair Add (var x) (num (pos v)))

-- for (i = 1; i <= 3; i = i + 1) { if (i == 2) next; write(6,9) i }
abbrev for_next : List Command
for_next =
    For (here 1) (Some (set i (num (pos 1)))) (Some (Pair Le (var i) (num (pos 3)))) (Some (plus i 1)) (block 1 (If (here 2) (Pair Eq (var i) (num (pos 2))) (Next (here 2) 1) ∷ plain 3 (write (i ∷ [])) ∷ []))
    ∷ plain 6 (Stop None) ∷ []

for_turns : (meaning for_next 3).records ≡ codes "  1" ∷ codes "  3" ∷ []
unfolding digits
for_turns = refl

for_ends : (meaning for_next 3).end ≡ Ended Done
unfolding digits
for_ends = refl

-- a loop that would begin a third turn goes on at the bound 2
for_goes_on : (meaning for_next 2).end ≡ GoesOn
unfolding digits
for_goes_on = refl

-- `next` and `break` in a switch, which is not counted
abbrev in_switch : List Command
in_switch =
    plain 1 (set n (num (pos 0))) ∷ plain 2 (set m (num (pos 0)))
    ∷ Repeat (here 3) (block 3 (
    While (here 4) (Pair Lt (var n) (num (pos 5))) (block 4 (
    plain 5 (plus n 1)
    ∷ Switch (here 6) (var n) (AndClause (AndFormula (num (pos 1)) NoFormula) false (all (Next (here 7) 1 ∷ [])) (here 7) (AndClause (AndFormula (num (pos 2)) NoFormula) false (all (Break (here 8) 2 ∷ [])) (here 8) NoClause))
    ∷ plain 10 (plus n 10) ∷ []))
    ∷ plain 12 (plus m 1) ∷ If (here 13) (Pair Eq (var m) (num (pos 2))) (Break (here 13) 1) ∷ []))
    ∷ plain 15 (write (n ∷ [])) ∷ plain 16 (write (m ∷ [])) ∷ plain 17 (Stop None) ∷ []

in_switch_writes : (meaning in_switch 5).records ≡ codes "  2" ∷ codes "  0" ∷ []
unfolding digits
in_switch_writes = refl

-- switch (v) { case 1: write 1; case 2, 3: write 2; default: write 3 }
abbrev switched : ℕ → List Command
switched v =
    plain 1 (set k (num (pos v))) ∷ plain 1 (set i (num (pos 1))) ∷ plain 1 (set m (num (pos 2))) ∷ plain 1 (set n (num (pos 3)))
    ∷ Switch (here 2) (var k) (
    AndClause NoFormula true (all (plain 3 (write (n ∷ [])) ∷ [])) (here 3) (
    AndClause (AndFormula (num (pos 1)) NoFormula) false (all (plain 4 (write (i ∷ [])) ∷ [])) (here 4) (
    AndClause (AndFormula (num (pos 2)) (AndFormula (num (pos 3)) NoFormula)) false (all (plain 5 (write (m ∷ [])) ∷ [])) (here 5) NoClause)))
    ∷ []

switch_one : (meaning (switched 1) 1).records ≡ codes "  1" ∷ []
unfolding digits
switch_one = refl

switch_three : (meaning (switched 3) 1).records ≡ codes "  2" ∷ []
unfolding digits
switch_three = refl

switch_default : (meaning (switched 4) 1).records ≡ codes "  3" ∷ []
unfolding digits
switch_default = refl

-- a case expression's trap has the place of its `case`; expressions behind the one that fits are not evaluated
case_traps : (meaning (plain 1 (set k (num (pos 1))) ∷ Switch (here 2) (var k) (AndClause (AndFormula (Pair Div (var k) (num (pos 0))) NoFormula) false NoCommand (here 5) NoClause) ∷ []) 1).end ≡ Ended (Trapped Division (here 5))
case_traps = refl

case_fits_first : (meaning (plain 1 (set k (num (pos 1))) ∷ Switch (here 2) (var k) (AndClause (AndFormula (num (pos 1)) (AndFormula (Pair Div (var k) (num (pos 0))) NoFormula)) false NoCommand (here 5) NoClause) ∷ []) 1).end ≡ Ended Done
case_fits_first = refl

-- repeat { k = k + 1 } until (k == 3), which tests behind the turn, with the place of `until`
abbrev until_three : ℕ → List Command
until_three v = plain 1 (set k (num (pos v))) ∷ RepeatUntil (here 2) (plain 3 (plus k 1)) (Pair Eq (var k) (num (pos 3))) (here 4) ∷ plain 5 (write (k ∷ [])) ∷ []

until_turns : (meaning (until_three 0) 3).records ≡ codes "  3" ∷ []
unfolding digits
until_turns = refl

until_traps : (meaning (RepeatUntil (here 2) (Empty (here 3)) (Pair Eq (var k) (num (pos 3))) (here 4) ∷ []) 3).end ≡ Ended (Trapped Undefined (here 4))
until_traps = refl

-- while (k < 3) k = k + 1
abbrev while_three : List Command
while_three = plain 1 (set k (num (pos 0))) ∷ While (here 2) (Pair Lt (var k) (num (pos 3))) (plain 3 (plus k 1)) ∷ plain 5 (write (k ∷ [])) ∷ []

while_turns : (meaning while_three 3).records ≡ codes "  3" ∷ []
unfolding digits
while_turns = refl

-- do i = 1, 3 { if (i == 2) next; write i }; and a DO whose first parameter exceeds the second
abbrev counted : ℕ → ℕ → List Command
counted a z = Do (here 1) i (Constant (pos a)) (Constant (pos z)) (Constant (pos 1)) (block 1 (If (here 2) (Pair Eq (var i) (num (pos 2))) (Next (here 2) 1) ∷ plain 3 (write (i ∷ [])) ∷ [])) ∷ []

do_turns : (meaning (counted 1 3) 3).records ≡ codes "  1" ∷ codes "  3" ∷ []
unfolding digits
do_turns = refl

do_traps : (meaning (counted 3 1) 3).end ≡ Ended (Trapped BadDo (here 1))
do_traps = refl

-- if (k == 1) m = 1 else m = 2
abbrev either : ℕ → List Command
either v = plain 1 (set k (num (pos v))) ∷ IfElse (here 2) (Pair Eq (var k) (num (pos 1))) (plain 2 (set m (num (pos 1)))) (plain 3 (set m (num (pos 2)))) ∷ plain 4 (write (m ∷ [])) ∷ []

if_yes : (meaning (either 1) 0).records ≡ codes "  1" ∷ []
unfolding digits
if_yes = refl

if_no : (meaning (either 0) 0).records ≡ codes "  2" ∷ []
unfolding digits
if_no = refl

-- goto out of a loop to a label of the list around it: the label of a statement, and of an empty one
abbrev jumps : List Command
jumps = plain 1 (set k (num (pos 1))) ∷ Repeat (here 2) (plain 3 (Goto 20)) ∷ plain 4 (set k (num (pos 2))) ∷ Labelled 20 (here 5) (Empty (here 5)) ∷ Plain (Some 30) (here 6) (write (k ∷ [])) ∷ []

jump_lands : (meaning jumps 1).records ≡ codes "  1" ∷ []
unfolding digits
jump_lands = refl

-- a list that would take a second jump goes on at the bound 1
jump_bound : (meaning (Labelled 10 (here 1) (Empty (here 1)) ∷ plain 2 (Goto 10) ∷ []) 1).end ≡ GoesOn
jump_bound = refl

-- the work, counted by hand. k = 1: the statement, its place and its number, 3. 10 ; : the label, and the statement, 2.
work_of_labels : (meaning (plain 1 (set k (num (pos 1))) ∷ Labelled 10 (here 2) (Empty (here 2)) ∷ []) 0).work ≡ 5
work_of_labels = refl

work_of_plain_label : (meaning (Plain (Some 10) (here 1) (set k (num (pos 1))) ∷ []) 0).work ≡ 4
work_of_plain_label = refl

-- k = kf(3), where kf is: return (n * n)
function_returns : (with_function (plain 1 (set k (with_one (codes "KF") (num (pos 3)))) ∷ plain 2 (write (k ∷ [])) ∷ []) (Return (here 11) (Some (Pair Mul (var n) (var n))) ∷ []) 0).records ≡ codes "  9" ∷ []
unfolding digits
function_returns = refl

-- a function that returns without a value: the trap is at the reference, after the call
function_without : (with_function (plain 1 (set k (with_one (codes "KF") (num (pos 3)))) ∷ []) (Return (here 11) None ∷ []) 0).end ≡ Ended (Trapped Undefined (here 1))
function_without = refl
