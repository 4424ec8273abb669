-- The names that the parts of a procedure list and use are no more than half of its tokens.
use Rattle.std.proofs.Common.{◌≤◌, ◌≡◌, ℕ, ◌+◌, ◌*◌, arith, ℤ, Bool, true, false, List, [], ◌∷◌, ◌++◌, length, length-append, Option, None, Some, refl}
use Rattle.std.specs.Prelude.{◌||◌, flat_map}
use Rattle.ground.specs.declared.token.TokenKind.{TokenKind}
use Rattle.ground.specs.declared.token.TokenKind.TheVariants as kinds
use Rattle.ground.specs.declared.token.Sign.TheVariants as signs
use Rattle.efl_tree.specs.declared.statement.LoopKind.TheVariants as loops
use Rattle.efl_tree.specs.Syntax as efl
use Rattle.efl_tree.specs.Syntax.{Text, EflExpr, EflType, EflGroups, EflDecl, EflDeclKind, EflStmt, EflKind, EflStmts, EflCases, EflProcedure}
use Rattle.efl_scope.specs.Scopes.{behind, behind_declaration, behind_all, outer}
use Rattle.efl_scope.specs.Parts.{Until, Part, part, Around, among, into, in_loop, in_list, opening, opened, names_of, shapes_in, names_by, groups_in, members_in, area_groups, groups_by, declarations_in, parts_of, parts_within, parts_in, clauses_in, header_type_groups, around_unit, parts_by, parts_from}
use Rattle.efl_scope.specs.Marks.{variables_by}
use Rattle.efl_scope.specs.Uses.{uses_of, uses_if, uses_written, uses_read, uses_by, uses_in}
use Rattle.rat_grammar.specs.Tokens.{Tokens, place_at, One, Word, Listed, Lines, Stop, Several}
use Rattle.rat_grammar.specs.Plain.{GoTo, one_word, two_words}
use Rattle.efl_grammar.specs.Tokens.{Name}
use Rattle.efl_grammar.specs.Expressions.{Place, Step, Act}
use Rattle.efl_grammar.specs.Expressions as e
use Rattle.efl_grammar.specs.Declarations.{Decl}
use Rattle.efl_grammar.specs.Statements.{Comma, WriteItem, ReadItem, Labels, Statement, Statements, Body, Clauses}
use Rattle.efl_grammar.specs.Statements as s
use Rattle.efl_grammar.specs.Programs.{Formals, Header, Procedure}
use Rattle.efl_grammar.specs.Programs as p
use Rattle.efl_limits.proofs.Tokens.{one, word, name, lines, stop, goto, listed, perhaps}
use Rattle.efl_limits.proofs.UseTokens.{Even, Odd, expr, place, condition, act, if_any, even_if}
use Rattle.efl_limits.proofs.DeclaredTokens as declared
use Rattle.efl_limits.proofs.DeclaredTokens.{OfDeclared}
use Rattle.efl_limits.proofs.StatementTokens.{edit, skip, leaving, sep, labels, integer}
use Rattle.efl_limits.proofs.ProcedureSizes.{of_type}

-- ---- counts ----

abbrev pub names_at : Part → ℕ
names_at v = length (variables_by v.form) + length (uses_in v.form)

abbrev pub counted : List Part → ℕ
counted [] = 0
counted (v ∷ vs) = names_at v + counted vs

pub counted_on : (vs ws : List Part) → counted (vs ++ ws) ≡ counted vs + counted ws
counted_on [] ws = omega arith
counted_on (v ∷ vs) ws = omega (arith, counted_on vs ws)

-- ---- groups list nothing by themselves ----

mutual
  in_none : (a : Around) (t : EflType) → counted (groups_in a t) ≡ 0
  in_none a (efl.Shape o gs) = members_none a [] gs
  in_none a _ = refl

  members_none : (a : Around) (before : List Text) (gs : EflGroups) → counted (members_in a before gs) ≡ 0
  members_none a before efl.NoGroup = refl
  members_none a before (efl.AndGroup t vs q gs) =
      omega (arith, counted_on (groups_in a t) (members_in (among (behind a.blocks t) a) (before ++ names_of vs) gs), in_none a t, members_none (among (behind a.blocks t) a) (before ++ names_of vs) gs)

area_none : (a : Around) (before : List Text) (gs : EflGroups) → counted (area_groups a before gs) ≡ 0
area_none a before efl.NoGroup = refl
area_none a before (efl.AndGroup t vs q gs) =
    let next = before ++ shapes_in t ++ names_of vs in
    omega (arith, counted_on (groups_in a t) (area_groups (among (behind a.blocks t) a) next gs), in_none a t, area_none (among (behind a.blocks t) a) next gs)

by_none : (a : Around) (before : List Text) (k : EflDeclKind) → counted (groups_by a before k) ≡ 0
by_none a before (efl.Implicit rs t) = in_none a t
by_none a before (efl.Initial ps) = refl
by_none a before (efl.Variables q t vs) = in_none a t
by_none a before (efl.Area q gs) = area_none a (a.formals ++ before) gs
by_none a before (efl.Structure x gs) = members_none a [] gs

header_none : (a : Around) (o : Option EflType) → counted (header_type_groups a o) ≡ 0
header_none a None = refl
header_none a (Some t) = in_none (among [] a) t

-- ---- declarations ----

declarations : {Kind : Tokens → Tokens → EflDeclKind → Type 0} {a b : Tokens} {ds : List EflDecl} (r : Around) (before : List Text) →
    ((c d : Tokens) (x : EflDecl) → Decl Kind c d x → OfDeclared x.kind c d) → Several (Decl Kind) a b ds → 2 * counted (declarations_in r before ds) + length b ≤ length a
declarations r before f Several.none = omega arith
declarations r before f (Several.more {x = x} {xs = ds} q rest) =
    let next = among (behind_declaration r.blocks x.kind) r in
    let here = f _ _ x q before in
    omega (arith, here, counted_on (groups_by r before x.kind) (declarations_in next (before ++ names_by x.kind) ds), by_none r before x.kind, declarations next (before ++ names_by x.kind) f rest)

-- ---- where a statement may end with no token of its own ----

abbrev slack_of : TokenKind → ℕ
slack_of (kinds.Sign signs.CloseBrace) = 1
slack_of kinds.TextEnd = 1
slack_of _ = 0

abbrev slack : Tokens → ℕ
slack [] = 0
slack (t ∷ ts) = slack_of t.kind

kind_one : (k : TokenKind) → slack_of k ≤ 1
kind_one (kinds.Sign signs.CloseBrace) = omega arith
kind_one kinds.TextEnd = omega arith
kind_one _ = omega arith

slack_one : (a : Tokens) → slack a ≤ 1
slack_one [] = omega arith
slack_one (t ∷ ts) = kind_one t.kind

stops : {a b : Tokens} → Stop a b → 1 + length b ≤ length a + slack b
stops (Stop.line q) = omega (arith, one q)
stops (Stop.semicolon q) = omega (arith, one q)
stops (Stop.brace One.one) = omega arith
stops (Stop.end One.one) = omega arith

-- no statement begins there
word_begins : {x : Text} {a b : Tokens} → Word x a b → slack a ≡ 0
word_begins (Word.word h) = refl

name_begins : {a b : Tokens} {x : Text} → Name a b x → slack a ≡ 0
name_begins (Name.name h) = refl

place_begins : {a b : Tokens} {x : efl.EflPlace} → Place a b x → slack a ≡ 0
place_begins (e.path y q r) = name_begins y

step_begins : {a b : Tokens} {x : EflExpr} → Step a b x → slack a ≡ 0
step_begins (e.up One.one q) = refl
step_begins (e.down One.one q) = refl

act_begins : {a b : Tokens} {x : EflExpr} → Act a b x → slack a ≡ 0
act_begins (e.stored q o v) = place_begins q
act_begins (e.stepped q) = step_begins q
act_begins (e.called y o k) = name_begins y
act_begins (e.called_with y q) = name_begins y

goto_begins : {a b : Tokens} → GoTo a b → slack a ≡ 0
goto_begins (one_word w) = word_begins w
goto_begins (two_words w v) = word_begins w

body_begins : {a b : Tokens} {k : EflKind} → Body a b k → slack a ≡ 0
body_begins (s.empty One.one) = refl
body_begins (s.block One.one ds ss l k) = refl
body_begins (s.act f st) = act_begins f
body_begins (s.if_ w d x n) = word_begins w
body_begins (s.if_else w d x l v y) = word_begins w
body_begins (Body.while w d x) = word_begins w
body_begins (Body.for w o x y z u v k i) = word_begins w
body_begins (Body.repeat w x n) = word_begins w
body_begins (s.repeat_until w x l v d st) = word_begins w
body_begins (Body.do_ w x o f i u by b) = word_begins w
body_begins (Body.switch w d l o cs m k) = word_begins w
body_begins (s.break_ w n st) = word_begins w
body_begins (s.next w n st) = word_begins w
body_begins (s.return_ w f st) = word_begins w
body_begins (s.goto w x st) = goto_begins w
body_begins (s.write w o f is' k st) = word_begins w
body_begins (s.read w o f is' k st) = word_begins w

listed_begins : {a b c d : Tokens} {xs : List Text} {k : EflKind} → Lines a b → Labels b c xs → Body c d k → slack a ≡ 0
listed_begins (Lines.line One.one r) ls q = refl
listed_begins Lines.none (s.label y o rest) q = name_begins y
listed_begins Lines.none Labels.none q = body_begins q

-- ---- items ----

written : {a b : Tokens} {x : efl.WriteItem} → WriteItem a b x → Even (uses_written x) a b
written (s.value q o k) = omega (arith, expr q, one o, edit k)
written (WriteItem.skip q) = omega (arith, skip q)
written (s.chars q) = omega (arith, one q)

all_written : {a b : Tokens} {xs : List efl.WriteItem} → Several (Comma WriteItem) a b xs → Even (flat_map uses_written xs) a b
all_written Several.none = omega arith
all_written (Several.more {x = x} {xs = xs} (Comma.comma o q) rest) = omega (arith, one o, written q, all_written rest, length-append (uses_written x) (flat_map uses_written xs))

read : {a b : Tokens} {x : efl.ReadItem} → ReadItem a b x → Even (uses_read x) a b
read (s.take q o k) = omega (arith, place q, one o, edit k)
read (ReadItem.skip q) = omega (arith, skip q)

all_read : {a b : Tokens} {xs : List efl.ReadItem} → Several (Comma ReadItem) a b xs → Even (flat_map uses_read xs) a b
all_read Several.none = omega arith
all_read (Several.more {x = x} {xs = xs} (Comma.comma o q) rest) = omega (arith, one o, read q, all_read rest, length-append (uses_read x) (flat_map uses_read xs))

comma : {a b : Tokens} {x : EflExpr} → Comma e.Expr a b x → Even (uses_of x) a b
comma (Comma.comma o q) = omega (arith, one o, expr q)

conditional : {a b : Tokens} {x : EflExpr} → e.Condition a b x → Even (uses_of x) a b
conditional q = omega (arith, condition q)

-- ---- statements ----

mutual
  statement : {a b : Tokens} {x : EflStmt} (r : Around) → Statement a b x → 2 * counted (parts_of r x) + length b ≤ length a + slack b
  statement r (s.statement l k) = omega (arith, lines l, body r k)

  pub statements : {a b : Tokens} {xs : EflStmts} (n : ℕ) (r : Around) → Statements a b xs → 2 * counted (parts_in n r xs) + length b ≤ length a + slack b
  statements n r s.no_statement = omega arith
  statements n r (s.listed {xs = xs} {k = k} {ss = ss} l ls q rest) =
      omega (arith, lines l, labels ls, body (into n r) q, behind_one (n + 1) r rest, counted_on (parts_within (into n r) k) (parts_in (n + 1) r ss))

  -- behind a statement
  behind_one : {a b : Tokens} {xs : EflStmts} (n : ℕ) (r : Around) → Statements a b xs → slack a + (2 * counted (parts_in n r xs) + length b) ≤ length a + slack b
  behind_one n r s.no_statement = omega arith
  behind_one n r (s.listed {xs = xs} {k = k} {ss = ss} l ls q rest) =
      omega (arith, listed_begins l ls q, lines l, labels ls, body (into n r) q, behind_one (n + 1) r rest, counted_on (parts_within (into n r) k) (parts_in (n + 1) r ss))

  body : {a b : Tokens} {k : EflKind} (r : Around) → Body a b k → 2 * (length (uses_by k) + counted (parts_within r k)) + length b ≤ length a + slack b
  body r (s.empty q) = omega (arith, one q)
  body r (s.block {d = m} {ds = ds} {ss = ss} begin es q l close) =
      omega (
        arith,
        one begin,
        declarations (opening ds r) [] declared.inner es,
        statements 0 (in_list ss (opened ds r)) q,
        slack_one m,
        lines l,
        one close,
        counted_on (declarations_in (opening ds r) [] ds) (parts_in 0 (in_list ss (opened ds r)) ss),
      )
  body r (s.act f st) = omega (arith, act f, stops st)
  body r (s.if_ w d x none) = omega (arith, word w, condition d, statement r x)
  body r (s.if_else {d = m} {s = x'} {t = y'} w d x l v y) =
      omega (arith, word w, condition d, statement (into 0 r) x, slack_one m, lines l, word v, statement (into 1 r) y, counted_on (parts_of (into 0 r) x') (parts_of (into 1 r) y'))
  body r (Body.while w d x) = omega (arith, word w, condition d, statement (in_loop loops.While r) x)
  body r (Body.for {x = x'} {y = y'} {z = z'} w begin x y z u v close inside) =
      omega (
        arith,
        word w,
        one begin,
        if_any (λ a b x. act) x,
        sep y,
        if_any (λ a b x. expr) z,
        sep u,
        if_any (λ a b x. act) v,
        one close,
        statement (in_loop loops.For r) inside,
        length-append (uses_if x') (uses_if y' ++ uses_if z'),
        length-append (uses_if y') (uses_if z'),
      )
  body r (Body.repeat w x none) = omega (arith, word w, statement (in_loop loops.Repeat r) x)
  body r (s.repeat_until {c = k} {d = m} {s = x'} {f = f'} w x l v d st) =
      omega (arith, word w, statement (in_loop loops.Repeat r) x, lines l, word v, condition d, stops st, slack_one k, counted_on (parts_of (in_loop loops.Repeat r) x') (part r (place_at m) (Until f') ∷ []))
  body r (Body.do_ {f = f'} {u = u'} {by = by'} w x is f o u by inside) =
      omega (
        arith,
        word w,
        name x,
        one is,
        expr f,
        one o,
        expr u,
        even_if (λ a b x. comma) by,
        statement (in_loop loops.Do r) inside,
        length-append (uses_of f') (uses_of u' ++ uses_if by'),
        length-append (uses_of u') (uses_if by'),
      )
  body r (Body.switch w d l begin cs m close) =
      omega (arith, word w, condition d, lines l, one begin, clauses 0 (in_loop loops.Switch r) [] false cs, lines m, one close)
  body r (s.break_ w n st) = omega (arith, word w, leaving n, stop st)
  body r (s.next w n st) = omega (arith, word w, leaving n, stop st)
  body r (s.return_ w f st) = omega (arith, word w, even_if (λ a b x. conditional) f, stop st)
  body r (s.goto w x st) = omega (arith, goto w, name x, stop st)
  body r (s.write {f = f'} {xs = xs} w begin f is' close st) =
      omega (arith, word w, one begin, if_any (λ a b x. expr) f, all_written is', one close, stop st, length-append (uses_if f') (flat_map uses_written xs))
  body r (s.read {f = f'} {xs = xs} w begin f is' close st) =
      omega (arith, word w, one begin, if_any (λ a b x. expr) f, all_read is', one close, stop st, length-append (uses_if f') (flat_map uses_read xs))

  clauses : {a b : Tokens} {cs : EflCases} (n : ℕ) (r : Around) (zs : List ℤ) (seen : Bool) → Clauses a b cs → 2 * counted (clauses_in n r zs seen cs) + length b ≤ length a
  clauses n r zs seen s.no_clause = omega arith
  clauses n r zs seen (s.case {h = m} {zs = ys'} {ss = ss'} {cs = cs'} l w ys colon ss rest) =
      omega (
        arith,
        lines l,
        word w,
        listed (λ a b x. integer) ys,
        one colon,
        statements 0 (in_list ss' (into n r)) ss,
        slack_one m,
        clauses (n + 1) r (zs ++ ys') (seen || false) rest,
        counted_on (parts_in 0 (in_list ss' (into n r)) ss') (clauses_in (n + 1) r (zs ++ ys') (seen || false) cs'),
      )
  clauses n r zs seen (s.default {g = m} {ss = ss'} {cs = cs'} l w colon ss rest) =
      omega (
        arith,
        lines l,
        word w,
        one colon,
        statements 0 (in_list ss' (into n r)) ss,
        slack_one m,
        clauses (n + 1) r (zs ++ []) (seen || true) rest,
        counted_on (parts_in 0 (in_list ss' (into n r)) ss') (clauses_in (n + 1) r (zs ++ []) (seen || true) cs'),
      )

-- ---- procedures ----

formals : {a b : Tokens} {xs : List Text} → Listed Name a b xs → Odd xs a b
formals (Listed.last q) = omega (arith, name q)
formals (Listed.comma q o rest) = omega (arith, name q, one o, formals rest)

any_formals : {a b : Tokens} {xs : List Text} → Formals a b xs → Even xs a b
any_formals Formals.none = omega arith
any_formals (Formals.empty o k) = omega (arith, one o, one k)
any_formals (Formals.some o xs k) = omega (arith, one o, formals xs, one k)

header : {a b : Tokens} {t : Option EflType} {x : Option Text} {xs : List Text} → Header a b t x xs → 2 * length xs + 1 + length b ≤ length a
header (p.named t w x fs) = omega (arith, perhaps (λ a b x. of_type) t, word w, name x, any_formals fs)
header (p.main w) = omega (arith, word w)

-- what a procedure has, put together
put_together : (n : ℕ) (u : EflProcedure) (w x y z : ℕ) → 2 * length u.formals + 1 + x ≤ w → 2 * counted (declarations_in (around_unit n u) [] u.declarations) + y ≤ x →
    2 * counted (parts_in 0 (among (behind_all (outer u) u.declarations) (around_unit n u)) u.body) + (z + 1) ≤ y + 1 → 2 * counted (parts_by n u) + 1 + z ≤ w
put_together n u w x y z f g h =
    let r = around_unit n u in
    let own = declarations_in r [] u.declarations in
    let inside = parts_in 0 (among (behind_all (outer u) u.declarations) r) u.body in
    omega (arith, f, g, h, counted_on (header_type_groups r u.result ++ own) inside, counted_on (header_type_groups r u.result) own, header_none r u.result)

-- with a token over
pub procedure : {a b : Tokens} {u : EflProcedure} (n : ℕ) → Procedure a b u → 2 * counted (parts_by n u) + 1 + length b ≤ length a
procedure {a} {b} {u} n (p.procedure {d = d} {e = e'} {g = m} l q st ds ss i w last) =
    put_together n u (length a) (length d) (length e') (length b) (omega (arith, lines l, header q, stop st)) (declarations (around_unit n u) [] declared.outer ds)
    (omega (arith, statements 0 (among (behind_all (outer u) u.declarations) (around_unit n u)) ss, slack_one m, lines i, word w, stop last))

pub procedures : {a b : Tokens} {us : List EflProcedure} (n : ℕ) → Several Procedure a b us → 2 * counted (parts_from n us) + length us + length b ≤ length a
procedures n Several.none = omega arith
procedures {us = u ∷ us} n (Several.more q rest) = omega (arith, procedure n q, procedures (n + 1) rest, counted_on (parts_by n u) (parts_from (n + 1) us))
