-- Small programs, by computation: loops and switches with `break` and `next`, sequential operators, the order of subscripts, structures,
-- overlays, and a call within a place.
use Rattle.std.proofs.Common.{◌≡◌, refl}
use Rattle.std.specs.Prelude.{ℕ, zero, suc, ◌+◌, ◌*◌, pos, true, false, List, [], ◌∷◌, Some, None, codes}
use Rattle.std.specs.Fmt.{digits}
use Rattle.ground.specs.declared.trap.Trap.TheVariants.{Subscript, Undefined}
use Rattle.ground.specs.declared.value.Kind.{Kind}
use Rattle.ground.specs.declared.value.Kind.TheVariants.{Integer, Logical}
use Rattle.ground.specs.Content.{Content, Whole}
use Rattle.f66_tree.specs.declared.expression.Operator.{Operator}
use Rattle.f66_tree.specs.declared.expression.Operator.TheVariants.{Add, Lt, Eq, Ne, Gt, And, Mul}
use Rattle.f66_tree.specs.World.{fresh, Shown, Ended, Done, Trapped, GoesOn}
use Rattle.f66_tree.proofs.ExampleParts.{here}
use Rattle.efl_program.specs.Typed.{TypedBound, Sort, Scalar, Shape, Array, NoSort, AndSort, Op, Plain, AndThen, Expr, Int, Truth, At, Call, Pair, Assign, Exprs, NoExpr, AndExpr, Site, Variable, Member, Overlay, Evaluate, AsInteger, AsLogical, WriteItem, Value, Chars, Stmt, Block, Act, If, IfElse, While, Repeat, Do, Switch, Break, Next, Return, Write, Stmts, NoStmt, AndStmt, NoClause, AndClause}
use Rattle.efl_program.specs.Setting.{Linkage}
use Rattle.efl_program.specs.Meaning.{efl}

abbrev all : List Stmt → Stmts
all [] = NoStmt
all (s ∷ ss) = AndStmt s (all ss)

abbrev block : ℕ → List Stmt → Stmt
block p ss = Block (here p) (all ss)

abbrev exprs : List Expr → Exprs
exprs [] = NoExpr
exprs (e ∷ es) = AndExpr e (exprs es)

abbrev number : ℕ → Expr
number n = Int (pos n)

abbrev up_to : ℕ → List TypedBound
up_to n = record { low = pos 1; high = Some (pos n) } ∷ []

abbrev integers : ℕ → Sort
integers n = Array (up_to n) (Scalar Integer)

-- an integer variable, an element of an array of integers, and what operators make of their values
abbrev scalar : ℕ → Site
scalar v = Variable v (Scalar Integer) NoExpr

abbrev element : ℕ → ℕ → Expr → Site
element v n e = Variable v (integers n) (exprs (e ∷ []))

abbrev by : Operator → Expr → Expr → Expr
by op a b = Pair (Plain op) a b

abbrev set : ℕ → Site → Expr → Stmt
set p x e = Act (here p) (Evaluate (Assign None x e))

abbrev increase : ℕ → Site → Expr → Stmt
increase p x e = Act (here p) (Evaluate (Assign (Some (Plain Add)) x e))

abbrev written : ℕ → List WriteItem → Stmt
written p items = Write (here p) None items

abbrev whole : Site → ℕ → WriteItem
whole x w = Value (At x) (AsInteger w)

-- Each variable has a hundred units. The formal of the second procedure is the variable 5; the contents of variable 0 are given.
abbrev formals : ℕ → List ℕ
formals zero = []
formals (suc u) = 5 ∷ []

abbrev linkage : List (ℕ × Content) → Linkage
linkage first = record { formals = formals; owner = λ v. v; extent = λ v. 100; number = λ v k. v * 100 + k; result = λ u. 9000 + u; main = 0; deep = 2; first = fresh first }

abbrev bodies : List Stmt → List Stmt → ℕ → Stmts
bodies main other zero = all main
bodies main other (suc u) = all other

abbrev meaning : List Stmt → Shown
meaning ss = efl (linkage []) (bodies ss []) 20 []

-- `break 2` counts the switch, and `next` does not
abbrev in_switch : List Stmt
in_switch =
    set 3 (scalar 1) (number 0) ∷ set 4 (scalar 2) (number 0)
    ∷ Repeat (here 5) (block 5 (
    While (here 6) (by Lt (At (scalar 1)) (number 5)) (block 6 (
    increase 7 (scalar 1) (number 1)
    ∷ Switch (here 8) (At (scalar 1)) (AndClause (pos 1 ∷ []) false (all (Next (here 9) 1 None ∷ [])) (here 9) (AndClause (pos 2 ∷ []) false (all (Break (here 10) 2 None ∷ [])) (here 10) NoClause))
    ∷ increase 12 (scalar 1) (number 10) ∷ []))
    ∷ increase 14 (scalar 2) (number 1) ∷ If (here 15) (by Eq (At (scalar 2)) (number 2)) (Break (here 15) 1 None) ∷ []))
    ∷ written 17 (whole (scalar 1) 5 ∷ whole (scalar 2) 5 ∷ []) ∷ []

in_switch_writes : (meaning in_switch).records ≡ codes "   13    2" ∷ []
unfolding digits
in_switch_writes = refl

-- do i = 1, 0 makes no turn
abbrev no_turn : List Stmt
no_turn = Do (here 3) 1 (number 1) (number 0) None (written 4 (whole (scalar 1) 3 ∷ [])) ∷ written 5 (whole (scalar 1) 3 ∷ []) ∷ []

no_turn_writes : (meaning no_turn).records ≡ codes "  1" ∷ []
unfolding digits
no_turn_writes = refl

no_turn_ends : (meaning no_turn).end ≡ Ended Done
unfolding digits
no_turn_ends = refl

-- if (i > 0 && a(i) == 3) write( , 'yes') else write( , 'no'), and the same with `&`
abbrev tested : Op → List Stmt
tested op =
    set 3 (scalar 1) (number 0)
    ∷ IfElse (here 4) (Pair op (by Gt (At (scalar 1)) (number 0)) (by Eq (At (element 2 3 (At (scalar 1)))) (number 3))) (written 5 (Chars (codes "yes") ∷ [])) (written 7 (Chars (codes "no") ∷ [])) ∷ []

sequential_skips : (meaning (tested AndThen)).records ≡ codes "no" ∷ []
sequential_skips = refl

other_evaluates : (meaning (tested (Plain And))).end ≡ Ended (Trapped Subscript (here 4))
other_evaluates = refl

-- n = a(1) + b(j*2147483647): the left operand is read before the right one's subscript overflows
abbrev left_first : List Stmt
left_first =
    set 3 (scalar 1) (number 2) ∷ set 4 (scalar 4) (by Add (At (element 2 2 (number 1))) (At (element 3 9 (by Mul (At (scalar 1)) (number 2147483647))))) ∷ []

left_first_traps : (meaning left_first).end ≡ Ended (Trapped Undefined (here 4))
left_first_traps = refl

-- struct s { integer k; integer c(5); logical f }, s x(3)
abbrev members : Sort
members = Shape (AndSort (Scalar Integer) (AndSort (integers 5) (AndSort (Scalar Logical) NoSort)))

abbrev of_x : ℕ → Site
of_x n = Variable 2 (Array (up_to 3) members) (exprs (number n ∷ []))

abbrev its_c : ℕ → Expr → Site
its_c n e = Member (of_x n) 1 (integers 5) (exprs (e ∷ []))

abbrev its_f : ℕ → Site
its_f n = Member (of_x n) 2 (Scalar Logical) NoExpr

abbrev structures : List Stmt
structures =
    set 5 (scalar 1) (number 5) ∷ set 6 (its_c 1 (At (scalar 1))) (number 7) ∷ set 7 (its_f 2) (Truth true)
    ∷ written 8 (whole (its_c 1 (At (scalar 1))) 4 ∷ Value (At (its_f 2)) (AsLogical 2) ∷ []) ∷ set 9 (scalar 1) (number 6) ∷ set 10 (scalar 1) (At (its_c 1 (At (scalar 1)))) ∷ []

structures_write : (meaning structures).records ≡ codes "   7 T" ∷ []
unfolding digits
structures_write = refl

-- the place that c(6) would name lies inside x, and yet the subscript is tested
structures_trap : (meaning structures).end ≡ Ended (Trapped Subscript (here 10))
unfolding digits
structures_trap = refl

-- a list of nodes laid over an array: list(p) -> node.item and list(p) -> node.nextindex
abbrev node : Sort
node = Shape (AndSort (Scalar Integer) (AndSort (Scalar Integer) NoSort))

abbrev in_node : ℕ → Expr
in_node m = At (Member (Overlay (element 0 20 (At (scalar 1))) node) m (Scalar Integer) NoExpr)

abbrev list_walk : List Stmt
list_walk =
    set 6 (scalar 1) (number 1)
    ∷ While (here 7) (by Ne (At (scalar 1)) (number 0)) (block 7 (set 8 (scalar 2) (in_node 1) ∷ written 9 (whole (scalar 2) 4 ∷ []) ∷ set 10 (scalar 1) (in_node 0) ∷ [])) ∷ []

abbrev nodes : List (ℕ × Content)
nodes = (0, Whole (pos 7)) ∷ (1, Whole (pos 10)) ∷ (2, Whole (pos 0)) ∷ (3, Whole (pos 30)) ∷ (4, Whole (pos 0)) ∷ (5, Whole (pos 0)) ∷ (6, Whole (pos 3)) ∷ (7, Whole (pos 20)) ∷ []

list_walk_writes : (efl (linkage nodes) (bodies list_walk []) 20 []).records ≡ codes "  10" ∷ codes "  20" ∷ codes "  30" ∷ []
unfolding digits
list_walk_writes = refl

-- with as few turns as two it goes on
list_walk_goes_on : (efl (linkage nodes) (bodies list_walk []) 2 []).end ≡ GoesOn
unfolding digits
list_walk_goes_on = refl

-- a(f(1)) += 2, where f writes a record and gives its formal and one more
abbrev with_call : List Stmt
with_call =
    set 3 (element 2 3 (number 2)) (number 5) ∷ increase 4 (element 2 3 (Call 1 Integer (exprs (number 1 ∷ [])))) (number 2) ∷ written 5 (whole (element 2 3 (number 2)) 4 ∷ []) ∷ []

abbrev function : List Stmt
function = written 9 (Chars (codes "f") ∷ []) ∷ Return (here 10) (Some (by Add (At (scalar 5)) (number 1))) ∷ []

with_call_writes : (efl (linkage []) (bodies with_call function) 20 []).records ≡ codes "f" ∷ codes "   7" ∷ []
unfolding digits
with_call_writes = refl

-- a function that ends without a value is undefined where it is called
without_value : (efl (linkage []) (bodies with_call []) 20 []).end ≡ Ended (Trapped Undefined (here 4))
without_value = refl
