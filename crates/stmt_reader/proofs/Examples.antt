-- Statements that are computed.
use Rattle.std.proofs.Common.{◌≡◌, pos, true, false, [], ◌∷◌, Some, None, refl}
use Rattle.std.specs.Prelude.{codes}
use Rattle.f66_tree.specs.declared.expression.Operator.TheVariants.{Add, Mul, Gt}
use Rattle.f66_tree.specs.declared.declaration.TypeWord.TheVariants.{Integer, Other}
use Rattle.f66_tree.specs.Syntax.{Int, Truth, Letter, Ref, Item, Minus, AndFormula, NoFormula, Pair, Constant, Named, One, Many, NoEntry, AndEntry, SubUnit, FuncUnit, DataUnit, Assign, Loop, When, Goto, Sign, Computed, Invoke, Stop, Read, Write, Typed, Common, Equivalence, Preset}
use Rattle.stmt_reader.specs.Declarations.{header_of}
use Rattle.stmt_reader.specs.Lexing.{tokens_of}
use Rattle.ground.specs.declared.fault.FaultKind.TheVariants.{Syntax, NumberTooLarge, NameTooLong}
use Rattle.stmt_reader.specs.Faults.{text_answer, Refused, header_answer, HeaderRefused}
use Rattle.stmt_reader.specs.Statements.{statement_of}

loop : statement_of (tokens_of (codes "DO10I=1,3")) ≡ Some (Loop 10 (codes "I") (Constant (pos 1)) (Constant (pos 3)) (Constant (pos 1)))
loop = refl

assignment : statement_of (tokens_of (codes "DO10I=13")) ≡ Some (Assign (Ref (codes "DO10I")) (Int (pos 13)))
assignment = refl

spread : statement_of (tokens_of (codes "D O 1 0 I = 1 , 3")) ≡ Some (Loop 10 (codes "I") (Constant (pos 1)) (Constant (pos 3)) (Constant (pos 1)))
spread = refl

array : statement_of (tokens_of (codes "IF(I)=3")) ≡ Some (Assign (Item (codes "IF") (AndFormula (Ref (codes "I")) NoFormula)) (Int (pos 3)))
array = refl

logical : statement_of (tokens_of (codes "IF(K.GT.3)GO TO 20")) ≡ Some (When (Pair Gt (Ref (codes "K")) (Int (pos 3))) (Goto 20))
logical = refl

arithmetic : statement_of (tokens_of (codes "IF(K+1*2)10,20,30")) ≡ Some (Sign (Pair Add (Ref (codes "K")) (Pair Mul (Int (pos 1)) (Int (pos 2)))) 10 20 30)
arithmetic = refl

computed : statement_of (tokens_of (codes "GO TO (10,20),K")) ≡ Some (Computed (10 ∷ 20 ∷ []) (codes "K"))
computed = refl

chain : statement_of (tokens_of (codes "L=A.LT.B.LT.C")) ≡ None
chain = refl

inner_loop : statement_of (tokens_of (codes "IF(L)DO10I=1,3")) ≡ None
inner_loop = refl

call : statement_of (tokens_of (codes "CALL S(A,1HX,B(1))")) ≡ Some (Invoke (codes "S") (AndFormula (Ref (codes "A")) (AndFormula (Letter 88) (AndFormula (Item (codes "B") (AndFormula (Int (pos 1)) NoFormula)) NoFormula))))
call = refl

bare_call : statement_of (tokens_of (codes "CALL S")) ≡ Some (Invoke (codes "S") NoFormula)
bare_call = refl

long_letter : statement_of (tokens_of (codes "CALL S(2HXY)")) ≡ None
long_letter = refl

stop : statement_of (tokens_of (codes "STOP 17")) ≡ Some (Stop (Some 15))
stop = refl

stop_six : statement_of (tokens_of (codes "STOP 000017")) ≡ None
stop_six = refl

reads : statement_of (tokens_of (codes "READ(5,9)K,((A(I,J),I=1,3),B(J),J=1,N,2)")) ≡ Some (Read (Constant (pos 5)) 9
    (AndEntry (One (Ref (codes "K"))) (AndEntry (Many (AndEntry (Many (AndEntry (One (Item (codes "A") (AndFormula (Ref (codes "I")) (AndFormula (Ref (codes "J")) NoFormula)))) NoEntry) (codes "I") (Constant (pos 1)) (Constant (pos 3)) (Constant (pos 1)))
    (AndEntry (One (Item (codes "B") (AndFormula (Ref (codes "J")) NoFormula))) NoEntry)) (codes "J") (Constant (pos 1)) (Named (codes "N")) (Constant (pos 2))) NoEntry)))
reads = refl

writes : statement_of (tokens_of (codes "WRITE(6,9)")) ≡ Some (Write (Constant (pos 6)) 9 NoEntry)
writes = refl

no_control : statement_of (tokens_of (codes "WRITE(6,9)(A,B)")) ≡ None
no_control = refl

format : statement_of (tokens_of (codes "FORMAT(3)=4")) ≡ Some (Assign (Item (codes "FORMAT") (AndFormula (Int (pos 3)) NoFormula)) (Int (pos 4)))
format = refl

types : statement_of (tokens_of (codes "INTEGER A(3,N),B")) ≡ Some (Typed Integer (record { name = codes "A"; sizes = Constant (pos 3) ∷ Named (codes "N") ∷ [] } ∷ record { name = codes "B"; sizes = [] } ∷ []))
types = refl

double : statement_of (tokens_of (codes "DOUBLE PRECISION D")) ≡ Some (Typed Other (record { name = codes "D"; sizes = [] } ∷ []))
double = refl

commons : statement_of (tokens_of (codes "COMMON A/X/B,C(2)//D")) ≡ Some (Common (record { name = None; list = record { name = codes "A"; sizes = [] } ∷ [] }
    ∷ record { name = Some (codes "X"); list = record { name = codes "B"; sizes = [] } ∷ record { name = codes "C"; sizes = Constant (pos 2) ∷ [] } ∷ [] } ∷ record { name = None; list = record { name = codes "D"; sizes = [] } ∷ [] } ∷ []))
commons = refl

equivalences : statement_of (tokens_of (codes "EQUIVALENCE (A,B(2)),(X,Y)")) ≡ Some (Equivalence ((Ref (codes "A") ∷ Item (codes "B") (AndFormula (Int (pos 2)) NoFormula) ∷ []) ∷ (Ref (codes "X") ∷ Ref (codes "Y") ∷ []) ∷ []))
equivalences = refl

presets : statement_of (tokens_of (codes "DATA A,B/1,-2/,L(3)/2*.TRUE.,1HX/")) ≡ Some (Preset (record { places = Ref (codes "A") ∷ Ref (codes "B") ∷ []; values = (1, Int (pos 1)) ∷ (1, Minus (Int (pos 2))) ∷ [] }
    ∷ record { places = Item (codes "L") (AndFormula (Int (pos 3)) NoFormula) ∷ []; values = (2, Truth true) ∷ (1, Letter 88) ∷ [] } ∷ []))
presets = refl

-- ---- headers ----

subroutine : header_of (tokens_of (codes "SUBROUTINE S(A,B)")) ≡ Some (SubUnit (codes "S") (codes "A" ∷ codes "B" ∷ []))
subroutine = refl

bare_subroutine : header_of (tokens_of (codes "SUBROUTINE S")) ≡ Some (SubUnit (codes "S") [])
bare_subroutine = refl

function : header_of (tokens_of (codes "INTEGER FUNCTION F(A)")) ≡ Some (FuncUnit (Some Integer) (codes "F") (codes "A" ∷ []))
function = refl

no_function : header_of (tokens_of (codes "INTEGER FUNCTION F")) ≡ None
no_function = refl

block : header_of (tokens_of (codes "BLOCK DATA")) ≡ Some DataUnit
block = refl

-- ---- the order of faults ----

long_name : text_answer (codes "AVERAGE=1") ≡ Refused NameTooLong 0
long_name = refl

large_first : text_answer (codes "AVERAGE=99999999999") ≡ Refused NumberTooLarge 0
large_first = refl

syntax_first : text_answer (codes "AVERAGE=99999999999+") ≡ Refused Syntax 0
syntax_first = refl

short_hollerith : text_answer (codes "CALL S(9HX)") ≡ Refused Syntax 0
short_hollerith = refl

large_width : text_answer (codes "FORMAT(I2147483648)") ≡ Refused NumberTooLarge 0
large_width = refl

labelled : header_answer true (codes "SUBROUTINE LONGNAME") ≡ HeaderRefused Syntax
labelled = refl

long_dummy : header_answer false (codes "SUBROUTINE S(LONGNAME)") ≡ HeaderRefused NameTooLong
long_dummy = refl

type_of_function : text_answer (codes "INTEGER FUNCTION F") ≡ Refused NameTooLong 0
type_of_function = refl
