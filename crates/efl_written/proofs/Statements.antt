-- Each part of a declaration, and of a statement, of written tokens is written.
use Rattle.std.proofs.Common.{ℕ, ◌+◌, ℤ, Bool, false, List, [], ◌∷◌, ◌++◌, Option, arith}
use Rattle.std.specs.Prelude.{pos, negsuc, flat_map}
use Rattle.ground.specs.declared.place.Place.{Place}
use Rattle.efl_tree.specs.declared.statement.EflEdit.{EflEdit}
use Rattle.efl_tree.specs.declared.statement.LoopKind.{LoopKind}
use Rattle.efl_tree.specs.declared.statement.LoopKind.TheVariants as loops
use Rattle.efl_tree.specs.Syntax as efl
use Rattle.efl_tree.specs.Syntax.{Text, EflExpr, EflVar, EflType, EflDecl, EflStmt, EflKind, EflStmts, EflCases}
use Rattle.efl_scope.specs.Scopes.{behind_declaration}
use Rattle.efl_scope.specs.Parts.{Groups, States, Until, Chooses, Around, Part, part, among, into, in_loop, names_by, groups_by, declarations_in, parts_of, parts_within, parts_in, clauses_in}
use Rattle.efl_scope.specs.Marks.{variables_by}
use Rattle.efl_scope.specs.Uses.{uses_in, uses_written, uses_read, uses_by}
use Rattle.rat_grammar.specs.Tokens.{Tokens, Several}
use Rattle.rat_grammar.specs.Plain.{GoTo, one_word, two_words}
use Rattle.efl_grammar.specs.Tokens.{Whole}
use Rattle.efl_grammar.specs.Expressions.{Expr}
use Rattle.efl_grammar.specs.Statements.{Kind, Leaving, Sep, Edit, Skip, Comma, WriteItem, ReadItem, Labels, Statement, Statements, Body, Clauses}
use Rattle.efl_grammar.specs.Statements as s
use Rattle.efl_parse_expressions.specs.Declared.{opposite}
use Rattle.efl_typed.proofs.Each.{Each}
use Rattle.efl_lowered.proofs.TypedChecks.{each_on}
use Rattle.efl_shape.proofs.Groups.{declared_each}
use Rattle.efl_plain.specs.Tree.{numbers_written, numbers_read, numbers_by, text_written, texts_in}
use Rattle.efl_plain.proofs.WrittenExpressions.{Constant}
use Rattle.efl_plain.proofs.WrittenActs.{Printed}
use Rattle.efl_plain.proofs.WrittenStatements.{Case, IsWrittenPart}
use Rattle.efl_written.proofs.Tokens.{AreWritten, Capitals, here, past, past_word, past_lines, past_stop, past_natural, name, Nothing, listed, perhaps, several}
use Rattle.efl_written.proofs.Expressions.{Met, Both, joined, OfExpr, expr, place, condition, act, if_any}
use Rattle.efl_written.proofs.Declarations.{OfDeclared, inner}

-- ---- parts ----

-- what a part has, lists and uses
abbrev pub Good : Part → Type 0
Good v = IsWrittenPart v × (Each Capitals (variables_by v.form) × Each Met (uses_in v.form))

pub grouped : (r : Around) (p : Place) (before : List Text) (t : EflType) (vs : List EflVar) → Good (part r p (Groups before t vs))
grouped r p before t vs = (record { numbers = tt; constants = tt; texts = tt }, (tt, tt))

pub declared : (r : Around) (before : List Text) (ds : List EflDecl) → Each (λ d. OfDeclared d.kind) ds → Each Good (declarations_in r before ds)
declared r before [] h = tt
declared r before (d ∷ ds) h =
    let next = among (behind_declaration r.blocks d.kind) r in
    ((record { numbers = tt; constants = tt; texts = tt }, h.0 before), each_on Good (groups_by r before d.kind) (declarations_in next (before ++ names_by d.kind) ds) (declared_each Good grouped r before d.kind) (declared next (before ++ names_by d.kind) ds h.1))

-- ---- items ----

past_edit : {a b : Tokens} {k : EflEdit} → Edit a b k → AreWritten a → AreWritten b
past_edit (Edit.whole w o n c) h = past c (past n (past o (past_word w h)))
past_edit (Edit.truth w o n c) h = past c (past n (past o (past_word w h)))
past_edit (s.letter w) h = past_word w h

past_skip : {a b : Tokens} {z : ℤ} → Skip a b z → AreWritten a → AreWritten b
past_skip (Skip.skip o w p n c) h = past c (past n (past p (past_word w (past o h))))

abbrev OfItem : efl.WriteItem → Type 0
OfItem x = Both (numbers_written x) (uses_written x) × Each Printed (text_written x)

written : {a b : Tokens} {x : efl.WriteItem} → WriteItem a b x → AreWritten a → OfItem x × AreWritten b
written (s.value q o k) h = let l = expr q h in ((l.0, tt), past_edit k (past o l.1))
written (WriteItem.skip q) h = (((tt, tt), tt), past_skip q h)
written (s.chars q) h = (((tt, tt), (here q h, tt)), past q h)

all_written : {a b : Tokens} {xs : List efl.WriteItem} → Several (Comma WriteItem) a b xs → AreWritten a → (Both (flat_map numbers_written xs) (flat_map uses_written xs) × Each Printed (flat_map text_written xs)) × AreWritten b
all_written Several.none h = (((tt, tt), tt), h)
all_written (Several.more (Comma.comma o q) rest) h =
    let l = written q (past o h) in
    let r = all_written rest l.1 in
    ((joined _ _ _ _ l.0.0 r.0.0, each_on Printed _ _ l.0.1 r.0.1), r.1)

read : {a b : Tokens} {x : efl.ReadItem} → ReadItem a b x → AreWritten a → Both (numbers_read x) (uses_read x) × AreWritten b
read (s.take q o k) h = let l = place q h in (l.0, past_edit k (past o l.1))
read (ReadItem.skip q) h = ((tt, tt), past_skip q h)

all_read : {a b : Tokens} {xs : List efl.ReadItem} → Several (Comma ReadItem) a b xs → AreWritten a → Both (flat_map numbers_read xs) (flat_map uses_read xs) × AreWritten b
all_read Several.none h = ((tt, tt), h)
all_read (Several.more (Comma.comma o q) rest) h =
    let l = read q (past o h) in
    let r = all_read rest l.1 in
    (joined _ _ _ _ l.0 r.0, r.1)

-- ---- constants of clauses ----

positive : (z : ℤ) → Constant z → Case z
positive z h = grind (arith, h)

negative : (z : ℤ) → Constant z → Case (opposite z)
negative (pos n) h = grind (arith, h)
negative (negsuc n) h = grind (arith, h)

whole : {a b : Tokens} {z : ℤ} → Whole a b z → AreWritten a → Case z × AreWritten b
whole (Whole.number {z = z} q) h = (positive z (here q h), past q h)
whole (Whole.plus {z = z} o q) h = (positive z (here q (past o h)), past q (past o h))
whole (Whole.minus {z = z} o q) h = (negative z (here q (past o h)), past q (past o h))

-- ---- words and labels ----

past_kind : {a b : Tokens} {k : LoopKind} → Kind a b k → AreWritten a → AreWritten b
past_kind (Kind.while w) h = past_word w h
past_kind (Kind.for w) h = past_word w h
past_kind (Kind.repeat w) h = past_word w h
past_kind (Kind.do_ w) h = past_word w h
past_kind (Kind.switch w) h = past_word w h

past_leaving : {a b : Tokens} {n : ℕ} {k : Option LoopKind} → Leaving a b n k → AreWritten a → AreWritten b
past_leaving s.bare h = h
past_leaving (Leaving.number n k) h = (perhaps Nothing (λ a b x q g. (tt, past_kind q g)) k (past_natural n h)).1
past_leaving (s.kind k) h = past_kind k h
past_leaving (s.kind_number k n) h = past_natural n (past_kind k h)

past_sep : {a b : Tokens} → Sep a b → AreWritten a → AreWritten b
past_sep (Sep.comma q) h = past q h
past_sep (s.semicolon q) h = past q h

past_labels : {a b : Tokens} {xs : List Text} → Labels a b xs → AreWritten a → AreWritten b
past_labels Labels.none h = h
past_labels (s.label y o rest) h = past_labels rest (past o (name y h).1)

past_goto : {a b : Tokens} → GoTo a b → AreWritten a → AreWritten b
past_goto (one_word w) h = past_word w h
past_goto (two_words w v) h = past_word v (past_word w h)

comma : {a b : Tokens} {x : EflExpr} → Comma Expr a b x → AreWritten a → OfExpr x × AreWritten b
comma (Comma.comma o q) h = expr q (past o h)

-- ---- statements ----

-- of a statement without those in it, with whatever labels
abbrev OfKind : EflKind → Type 0
OfKind k = Both (numbers_by k) (uses_by k) × ((ls : List Text) → Each Printed (texts_in (States ls k)))

stated : (r : Around) (p : Place) (ls : List Text) (k : EflKind) → OfKind k → Good (part r p (States ls k))
stated r p ls k h = (record { numbers = h.0.0; constants = tt; texts = h.1 ls }, (tt, h.0.1))

until : (r : Around) (p : Place) (x : EflExpr) → OfExpr x → Good (part r p (Until x))
until r p x h = (record { numbers = h.0; constants = tt; texts = tt }, (tt, h.1))

chosen : (r : Around) (p : Place) (zs : List ℤ) (fallback : Bool) (before : List ℤ) (seen : Bool) → Each Case zs → Good (part r p (Chooses zs fallback before seen))
chosen r p zs fallback before seen h = (record { numbers = tt; constants = h; texts = tt }, (tt, tt))

mutual
  statement : {a b : Tokens} {x : EflStmt} (r : Around) → Statement a b x → AreWritten a → Each Good (parts_of r x) × AreWritten b
  statement r (s.statement l k) h = let g = body r k (past_lines l h) in ((stated _ _ _ _ g.0.0, g.0.1), g.1)

  pub statements : {a b : Tokens} {xs : EflStmts} (n : ℕ) (r : Around) → Statements a b xs → AreWritten a → Each Good (parts_in n r xs) × AreWritten b
  statements n r s.no_statement h = (tt, h)
  statements n r (s.listed l ls k rest) h =
      let g = body (into n r) k (past_labels ls (past_lines l h)) in
      let m = statements (n + 1) r rest g.1 in
      ((stated _ _ _ _ g.0.0, each_on Good _ _ g.0.1 m.0), m.1)

  body : {a b : Tokens} {k : EflKind} (r : Around) → Body a b k → AreWritten a → (OfKind k × Each Good (parts_within r k)) × AreWritten b
  body r (s.empty q) h = ((((tt, tt), λ ls. tt), tt), past q h)
  body r (s.block begin ds ss l close) h =
      let d = several (λ x. OfDeclared x.kind) inner ds (past begin h) in
      let m = statements 0 _ ss d.1 in
      ((((tt, tt), λ ls. tt), each_on Good _ _ (declared _ _ _ d.0) m.0), past close (past_lines l m.1))
  body r (s.act f stop) h = let g = act f h in (((g.0, λ ls. tt), tt), past_stop stop g.1)
  body r (s.if_ w c x none) h =
      let g = condition c (past_word w h) in
      let m = statement r x g.1 in
      (((g.0, λ ls. tt), m.0), m.1)
  body r (s.if_else w c x l v y) h =
      let g = condition c (past_word w h) in
      let m = statement (into 0 r) x g.1 in
      let n = statement (into 1 r) y (past_word v (past_lines l m.1)) in
      (((g.0, λ ls. tt), each_on Good _ _ m.0 n.0), n.1)
  body r (Body.while w c x) h =
      let g = condition c (past_word w h) in
      let m = statement (in_loop loops.While r) x g.1 in
      (((g.0, λ ls. tt), m.0), m.1)
  body r (Body.for w begin x y z u v close inside) h =
      let f = if_any (λ a b x. act) x (past begin (past_word w h)) in
      let g = if_any (λ a b x. expr) z (past_sep y f.1) in
      let k = if_any (λ a b x. act) v (past_sep u g.1) in
      let m = statement (in_loop loops.For r) inside (past close k.1) in
      (((joined _ _ _ _ f.0 (joined _ _ _ _ g.0 k.0), λ ls. tt), m.0), m.1)
  body r (Body.repeat w x none) h =
      let m = statement (in_loop loops.Repeat r) x (past_word w h) in
      ((((tt, tt), λ ls. tt), m.0), m.1)
  body r (s.repeat_until w x l v c stop) h =
      let m = statement (in_loop loops.Repeat r) x (past_word w h) in
      let g = condition c (past_word v (past_lines l m.1)) in
      ((((tt, tt), λ ls. tt), each_on Good _ _ m.0 (until _ _ _ g.0, tt)), past_stop stop g.1)
  body r (Body.do_ w x is f o u by inside) h =
      let n = name x (past_word w h) in
      let g = expr f (past is n.1) in
      let k = expr u (past o g.1) in
      let j = if_any (λ a b x. comma) by k.1 in
      let m = statement (in_loop loops.Do r) inside j.1 in
      let all = joined _ _ _ _ g.0 (joined _ _ _ _ k.0 j.0) in
      ((((all.0, (n.0, all.1)), λ ls. tt), m.0), m.1)
  body r (Body.switch w c l begin cs m close) h =
      let g = condition c (past_word w h) in
      let k = clauses 0 (in_loop loops.Switch r) [] false cs (past begin (past_lines l g.1)) in
      (((g.0, λ ls. tt), k.0), past close (past_lines m k.1))
  body r (s.break_ w n stop) h = ((((tt, tt), λ ls. tt), tt), past_stop stop (past_leaving n (past_word w h)))
  body r (s.next w n stop) h = ((((tt, tt), λ ls. tt), tt), past_stop stop (past_leaving n (past_word w h)))
  body r (s.return_ w f stop) h = let g = if_any (λ a b x. condition) f (past_word w h) in (((g.0, λ ls. tt), tt), past_stop stop g.1)
  body r (s.goto w x stop) h = ((((tt, tt), λ ls. tt), tt), past_stop stop (name x (past_goto w h)).1)
  body r (s.write w begin f is' close stop) h =
      let g = if_any (λ a b x. expr) f (past begin (past_word w h)) in
      let k = all_written is' g.1 in
      (((joined _ _ _ _ g.0 k.0.0, λ ls. k.0.1), tt), past_stop stop (past close k.1))
  body r (s.read w begin f is' close stop) h =
      let g = if_any (λ a b x. expr) f (past begin (past_word w h)) in
      let k = all_read is' g.1 in
      (((joined _ _ _ _ g.0 k.0, λ ls. tt), tt), past_stop stop (past close k.1))

  clauses : {a b : Tokens} {cs : EflCases} (n : ℕ) (r : Around) (zs : List ℤ) (seen : Bool) → Clauses a b cs → AreWritten a → Each Good (clauses_in n r zs seen cs) × AreWritten b
  clauses n r zs seen s.no_clause h = (tt, h)
  clauses n r zs seen (s.case l w ys colon ss rest) h =
      let g = listed Case (λ a b x. whole) ys (past_word w (past_lines l h)) in
      let m = statements 0 _ ss (past colon g.1) in
      let k = clauses (n + 1) r _ _ rest m.1 in
      ((chosen _ _ _ _ _ _ g.0, each_on Good _ _ m.0 k.0), k.1)
  clauses n r zs seen (s.default l w colon ss rest) h =
      let m = statements 0 _ ss (past colon (past_word w (past_lines l h))) in
      let k = clauses (n + 1) r _ _ rest m.1 in
      ((chosen _ _ _ _ _ _ tt, each_on Good _ _ m.0 k.0), k.1)
