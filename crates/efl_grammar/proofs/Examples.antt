-- Small texts and their trees.
use Rattle.std.proofs.Common.{refl}
use Rattle.std.specs.Prelude.{ℕ, pos, negsuc, true, [], ◌∷◌, Some, None, codes}
use Rattle.ground.specs.declared.token.TokenKind.TheVariants as kinds
use Rattle.ground.specs.declared.token.Sign.TheVariants as signs
use Rattle.efl_tree.specs.declared.expression.EflOperator.TheVariants as operators
use Rattle.efl_tree.specs.declared.declaration.EflConst.TheVariants as constants
use Rattle.efl_tree.specs.declared.statement.EflEdit.TheVariants as edits
use Rattle.efl_tree.specs.declared.statement.LoopKind.TheVariants as loops
use Rattle.efl_tree.specs.Syntax as efl
use Rattle.efl_tree.specs.Syntax.{Text, EflExpr, EflPlace, Int, At, Call, Minus, Not, Pair, NoExpr, AndExpr, Path, NoStep, Member, Overlay, Named, NoGroup, AndGroup, EflKind, If, IfElse, NoStmt, AndStmt}
use Rattle.rat_grammar.specs.Tokens.{Perhaps, Tokens, one, word, Lines, Stop, Several, Listed, here as first, there as later}
use Rattle.efl_grammar.specs.Tokens.{Name, name, Natural, Whole, StopIfAny, ShapeStop}
use Rattle.efl_grammar.specs.Expressions as e
use Rattle.efl_grammar.specs.Declarations as d
use Rattle.efl_grammar.specs.Statements as s
use Rattle.efl_grammar.specs.Programs as u
use Rattle.rat_grammar.proofs.ExampleTokens.{here, at, w, sign, number, line, if_a, a_is, no_word}
use Rattle.rat_grammar.proofs.LineLemmas.{no_line_at, follows_no}
use Rattle.efl_grammar.proofs.OuterFound.{line_no_name}

-- ---- expressions ----

abbrev a : EflPlace
a = Path (codes "A") NoExpr NoStep

a_place : {n : ℕ} {ts : Tokens} → e.Place (w n (codes "a") ∷ ts) ts a
a_place = e.path (name refl) e.no_subs e.no_step

a_power : {n : ℕ} {ts : Tokens} → e.Power (w n (codes "a") ∷ ts) ts (At a)
a_power = e.operand (e.place a_place)

a_number : {n k : ℕ} {ts : Tokens} → e.Power (number n k ∷ ts) ts (Int (pos k))
a_number = e.operand (e.number one)

term_of : {x y : Tokens} {f : EflExpr} → e.Power x y f → e.Term x y f
term_of q = e.unary (e.power q)

sum_of : {x y : Tokens} {f : EflExpr} → e.Power x y f → e.Sum x y f
sum_of q = e.term (term_of q)

expr_of : {x y : Tokens} {f : EflExpr} → e.Sum x y f → e.Expr x y f
expr_of q = e.disj (e.conj (e.neg (e.rel (e.sum q))))

-- a + -a * 2: a unary sign is higher than `+` and as high as `*`
signs_and_levels : e.Expr (w 1 (codes "a") ∷ sign 1 signs.Plus ∷ sign 1 signs.Minus ∷ w 1 (codes "a") ∷ sign 1 signs.Star ∷ number 1 2 ∷ []) []
    (Pair operators.Add (At a) (Pair operators.Mul (Minus (At a)) (Int (pos 2))))
signs_and_levels = expr_of (e.added (sum_of a_power) (first one) (e.times (e.unary (e.minus one (e.power a_power))) (first one) a_number))

-- a - a - a groups to the left
to_the_left : e.Expr (w 1 (codes "a") ∷ sign 1 signs.Minus ∷ w 1 (codes "a") ∷ sign 1 signs.Minus ∷ w 1 (codes "a") ∷ []) []
    (Pair operators.Sub (Pair operators.Sub (At a) (At a)) (At a))
to_the_left = expr_of (e.added (e.added (sum_of a_power) (later (first one)) (term_of a_power)) (later (first one)) (term_of a_power))

-- -a ** a ** 2 groups to the right, and the sign is that of the power
to_the_right : e.Expr (sign 1 signs.Minus ∷ w 1 (codes "a") ∷ sign 1 signs.Power ∷ w 1 (codes "a") ∷ sign 1 signs.Power ∷ number 1 2 ∷ []) []
    (Minus (Pair operators.Power (At a) (Pair operators.Power (At a) (Int (pos 2)))))
to_the_right = expr_of (e.term (e.unary (e.minus one (e.power (e.raised (e.place a_place) one (e.raised (e.place a_place) one a_number))))))

-- ~-a == a && a: a `~` is lower than a relation and higher than `&&`
negations : e.Expr (sign 1 signs.Not ∷ sign 1 signs.Minus ∷ w 1 (codes "a") ∷ sign 1 signs.Eq ∷ w 1 (codes "a") ∷ sign 1 signs.AndThen ∷ w 1 (codes "a") ∷ []) []
    (Pair operators.AndThen (Not (Pair operators.Eq (Minus (At a)) (At a))) (At a))
negations =
    e.disj (e.conj (e.and (e.neg (e.not one (e.rel (e.compared (e.term (e.unary (e.minus one (e.power a_power)))) (later (later (first one))) (sum_of a_power))))) (later (first one))
    (e.rel (e.sum (sum_of a_power)))))

-- a(2).a -> a
abbrev reached : EflPlace
reached = Path (codes "A") (AndExpr (Int (pos 2)) NoExpr) (Member (codes "A") NoExpr (Overlay (codes "A") NoStep))

a_path : e.Place (w 1 (codes "a") ∷ sign 1 signs.Open ∷ number 1 2 ∷ sign 1 signs.Close ∷ sign 1 signs.Point ∷ w 1 (codes "a") ∷ sign 1 signs.Arrow ∷ w 1 (codes "a") ∷ []) [] reached
a_path = e.path (name refl) (e.some_subs (e.subs one (e.last (expr_of (sum_of a_number))) one)) (e.member one (name refl) e.no_subs (e.overlay one (name refl) e.no_step))

-- a = a += f()
assignments : e.Act (w 1 (codes "a") ∷ sign 1 signs.Assign ∷ w 1 (codes "a") ∷ sign 1 signs.AddAssign ∷ w 1 (codes "f") ∷ sign 1 signs.Open ∷ sign 1 signs.Close ∷ []) []
    (efl.Assign None a (efl.Assign (Some operators.Add) a (Call (codes "F") NoExpr)))
assignments = e.stored a_place (first one) (e.assignment a_place (later (first one)) (expr_of (sum_of (e.operand (e.call (name refl) one one)))))

-- ---- declarations ----

abbrev shape_a : Tokens → Tokens
shape_a ts = w 1 (codes "struct") ∷ w 1 (codes "s") ∷ sign 1 signs.OpenBrace ∷ w 1 (codes "integer") ∷ w 1 (codes "a") ∷ sign 1 signs.CloseBrace ∷ ts

abbrev groups_a : efl.EflGroups
groups_a = AndGroup efl.Integer (record { name = codes "A"; bounds = [] } ∷ []) (here 1) NoGroup

a_shape : {ts : Tokens} → d.Shape (sign 1 signs.OpenBrace ∷ w 1 (codes "integer") ∷ w 1 (codes "a") ∷ sign 1 signs.CloseBrace ∷ ts) ts groups_a
a_shape = d.shape one (d.group Lines.none (d.base (d.integer (word refl))) (Listed.last (d.Var.name (name refl))) (Stop.brace one) d.no_group) Lines.none one

no_name : {ts c : Tokens} {n : ℕ} {x : Text} → Name (line n ∷ ts) c x → ⊥
no_name q = line_no_name refl q

-- struct s { integer a }
structure : d.Declaration (shape_a (line 1 ∷ [])) [] (efl.Structure (codes "S") groups_a)
structure = d.structure (word refl) (name refl) a_shape (ShapeStop.shape_stop (λ c x q. no_name q) (StopIfAny.stop (Stop.line one)))

-- struct s { integer a } x is a declaration of a variable
shaped_variable : d.Declaration (shape_a (w 1 (codes "x") ∷ line 1 ∷ [])) [] (efl.Variables None (efl.Shape (Some (codes "S")) groups_a) (record { name = codes "X"; bounds = [] } ∷ []))
shaped_variable = d.variables (d.shaped (d.structured (word refl) (name refl) a_shape)) (Listed.last (d.Var.name (name refl))) (Stop.line one)

-- common(x) long real a(2, 0:*)
shared : d.OuterDeclaration
    (w 1 (codes "common") ∷ sign 1 signs.Open ∷ w 1 (codes "x") ∷ sign 1 signs.Close ∷ w 1 (codes "long") ∷ w 1 (codes "real") ∷ w 1 (codes "a") ∷ sign 1 signs.Open ∷ number 1 2 ∷ sign 1 signs.Comma
    ∷ number 1 0 ∷ sign 1 signs.Colon ∷ sign 1 signs.Star ∷ sign 1 signs.Close ∷ line 1 ∷ []) []
    (efl.Variables (Some (codes "X")) (efl.Real true)
    (record { name = codes "A"; bounds = record { low = None; high = Some (pos 2) } ∷ record { low = Some (pos 0); high = None } ∷ [] } ∷ []))
shared = d.OuterDeclaration.common (d.CommonName.common (word refl) one (name refl) one) (d.base (d.long_real (word refl) (word refl)))
    (Listed.last (d.bounded (name refl) one (Listed.comma (d.Bound.whole (Whole.number one)) one (Listed.last (d.whole_star (Whole.number one) one one))) one)) (Stop.line one)

-- initial a = (2 $ -1, true)
initial : d.Declaration
    (w 1 (codes "initial") ∷ w 1 (codes "a") ∷ sign 1 signs.Assign ∷ sign 1 signs.Open ∷ number 1 2 ∷ sign 1 signs.Dollar ∷ sign 1 signs.Minus ∷ number 1 1 ∷ sign 1 signs.Comma ∷ w 1 (codes "true")
    ∷ sign 1 signs.Close ∷ line 1 ∷ []) []
    (efl.Initial (record { place = a; values = (2, constants.Int (negsuc 0)) ∷ (1, constants.Truth true) ∷ []; listed = true } ∷ []))
initial = d.initial (word refl)
    (Listed.last (d.Preset.several a_place one one
    (Listed.comma (d.repeated (Natural.natural one) one (d.Const.whole (Whole.minus one one))) one (Listed.last (d.once (d.Const.truth (word refl))))) one)) (Stop.line one)

-- ---- statements ----

-- a = number, with the stop behind it
abbrev sets : ℕ → EflKind
sets k = efl.Act (efl.Assign None a (Int (pos k)))

assigned : {n k : ℕ} {ts x : Tokens} → Stop ts x → s.Body (w n (codes "a") ∷ sign n signs.Assign ∷ number n k ∷ ts) x (sets k)
assigned st = s.act (e.stored a_place (first one) (expr_of (sum_of a_number))) st

condition : {n : ℕ} {ts : Tokens} → e.Condition (sign n signs.Open ∷ w n (codes "a") ∷ sign n signs.Close ∷ ts) ts (At a)
condition = e.condition one (expr_of (sum_of a_power)) one

-- An else belongs to the nearest if, over the ends of lines:
--   if (a)
--   if (a) a = 1
--   else a = 2
--   end
dangling : s.Body (if_a 1 (line 1 ∷ if_a 2 (a_is 2 1 (line 2 ∷ w 3 (codes "else") ∷ a_is 3 2 (line 3 ∷ w 4 (codes "end") ∷ []))))) (w 4 (codes "end") ∷ [])
    (If (At a) (efl.Statement [] (here 2) (IfElse (At a) (efl.Statement [] (here 2) (sets 1)) (efl.Statement [] (here 3) (sets 2)))))
dangling = s.if_ (word refl) condition
    (s.statement (Lines.line one Lines.none) (s.if_else (word refl) condition (s.statement Lines.none (assigned (Stop.line one))) Lines.none (word refl) (s.statement Lines.none (assigned (Stop.line one)))))
    (follows_no _ Lines.none (no_line_at _ _ refl) (λ c q. no_word refl q))

-- repeat a = 1; and an until on the next line, whose place is kept
until : s.Body (w 1 (codes "repeat") ∷ a_is 1 1 (line 1 ∷ line 2 ∷ w 3 (codes "Until") ∷ sign 3 signs.Open ∷ w 3 (codes "a") ∷ sign 3 signs.Close ∷ line 3 ∷ [])) []
    (efl.RepeatUntil (efl.Statement [] (here 1) (sets 1)) (At a) (here 3))
until = s.repeat_until (word refl) (s.statement Lines.none (assigned (Stop.line one))) (Lines.line one Lines.none) (word refl) condition (Stop.line one)

-- write(, a: i(3), : x(2), 'ab')
written : s.Body
    (w 1 (codes "write") ∷ sign 1 signs.Open ∷ sign 1 signs.Comma ∷ w 1 (codes "a") ∷ sign 1 signs.Colon ∷ w 1 (codes "i") ∷ sign 1 signs.Open ∷ number 1 3 ∷ sign 1 signs.Close ∷ sign 1 signs.Comma
    ∷ sign 1 signs.Colon ∷ w 1 (codes "x") ∷ sign 1 signs.Open ∷ number 1 2 ∷ sign 1 signs.Close ∷ sign 1 signs.Comma ∷ at 1 (kinds.Quoted (codes "ab")) ∷ sign 1 signs.Close ∷ line 1 ∷ []) []
    (efl.Write None (efl.Value (At a) (edits.Whole (pos 3)) ∷ efl.WriteItem.Skip (pos 2) ∷ efl.Chars (codes "ab") ∷ []))
written = s.write (word refl) one Perhaps.none
    (Several.more (s.Comma.comma one (s.value (expr_of (sum_of a_power)) one (s.Edit.whole (word refl) one one one)))
    (Several.more (s.Comma.comma one (s.WriteItem.skip (s.Skip.skip one (word refl) one one one))) (Several.more (s.Comma.comma one (s.chars one)) Several.none))) one (Stop.line one)

-- ---- a program ----

--   integer procedure f(a)
--   integer a
--   x: while (a) break while 1
--   end
abbrev small : Tokens
small = w 1 (codes "integer") ∷ w 1 (codes "procedure") ∷ w 1 (codes "f") ∷ sign 1 signs.Open ∷ w 1 (codes "a") ∷ sign 1 signs.Close ∷ line 1 ∷ w 2 (codes "integer") ∷ w 2 (codes "a") ∷ line 2
    ∷ w 3 (codes "x") ∷ sign 3 signs.Colon ∷ w 3 (codes "while") ∷ sign 3 signs.Open ∷ w 3 (codes "a") ∷ sign 3 signs.Close ∷ w 3 (codes "break") ∷ w 3 (codes "while") ∷ number 3 1 ∷ line 3
    ∷ w 4 (codes "end") ∷ line 4 ∷ at 5 kinds.TextEnd ∷ []

abbrev small_tree : efl.EflProgram
small_tree = record {
  procedures = record {
    result = Some efl.Integer;
    name = Some (codes "F");
    formals = codes "A" ∷ [];
    declarations = record { kind = efl.Variables None efl.Integer (record { name = codes "A"; bounds = [] } ∷ []); place = here 2 } ∷ [];
    body = AndStmt (efl.Statement (codes "X" ∷ []) (here 3) (efl.While (At a) (efl.Statement [] (here 3) (efl.Break 1 (Some loops.While))))) NoStmt;
    place = here 1;
    finish = here 4;
  } ∷ [];
  finish = here 5;
}

small_program : u.Program small small_tree
small_program = u.program (Several.more (u.procedure Lines.none
    (u.named (Perhaps.some (d.base (d.integer (word refl)))) (word refl) (name refl) (u.Formals.some one (Listed.last (name refl)) one)) (Stop.line one)
    (Several.more (d.decl Lines.none (d.declaration (d.variables (d.base (d.integer (word refl))) (Listed.last (d.Var.name (name refl))) (Stop.line one)))) Several.none)
    (s.listed Lines.none (s.label (name refl) one s.Labels.none)
    (s.while (word refl) condition (s.statement Lines.none (s.break_ (word refl) (s.kind_number (s.Kind.while (word refl)) (Natural.natural one)) (Stop.line one)))) s.no_statement)
    Lines.none (word refl) (Stop.line one)) Several.none) Lines.none one
