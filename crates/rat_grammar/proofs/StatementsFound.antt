-- The table derives each statement of the published grammar, and takes the lines behind an `if` or a `repeat` that has no more parts.
use Rattle.std.proofs.Common.{◌≡◌, ◌∙◌, ℕ, true, false, if◌then◌else◌, Option, None, List, ◌∷◌, refl, ap}
use Rattle.std.specs.Prelude.{codes}
use Rattle.ground.specs.declared.place.Place.{Place}
use Rattle.ground.specs.declared.token.Token.{Token}
use Rattle.ground.specs.declared.token.TokenKind.TheVariants as kinds
use Rattle.f66_tree.specs.declared.declaration.TypeWord.{TypeWord}
use Rattle.f66_tree.specs.Syntax as f66
use Rattle.f66_tree.specs.Syntax.{Text, Formula, Act}
use Rattle.rat_tree.specs.Syntax as tree
use Rattle.rat_tree.specs.Syntax.{Command, Commands}
use Rattle.rat_parse_table.specs.declared.table.Terminal.{Terminal}
use Rattle.rat_parse_table.specs.declared.table.Terminal.TheVariants as t
use Rattle.rat_parse_table.specs.declared.table.Nonterminal.TheVariants as n
use Rattle.rat_parse_table.specs.declared.table.Production.TheVariants as p
use Rattle.rat_parse_table.specs.Table.{allows}
use Rattle.rat_parse_table.specs.Words.{seen}
use Rattle.rat_parse_values.specs.Values.{Val, nothing, tok, formula, command, commands, declareds, clauses}
use Rattle.rat_parse_values.specs.Parts.{type_word, act_part, formula_part, count_or_one, capped}
use Rattle.rat_parse.specs.Ratfor.{grammar}
use Rattle.rat_grammar.specs.Tokens.{Perhaps, Tokens, token, one, capitals, Word, word, name, place_at, Lines, Stop}
use Rattle.rat_grammar.specs.Expressions as e
use Rattle.rat_grammar.specs.Declarations as d
use Rattle.rat_grammar.specs.Plain as pl
use Rattle.rat_grammar.specs.Statements as s
use Rattle.rat_grammar.specs.Laws.{IsSome}
use Rattle.rat_grammar.proofs.LineLemmas.{NoLine, lines_left, no_line_at, Begins, begins_at, Goes, word_goes, stop_is_some}
use Rattle.rat_grammar.proofs.Standing.{known, sole, word_of}
use Rattle.rat_grammar.proofs.ReservedWords.{is_other}
use Rattle.rat_grammar.proofs.TokenLemmas.{Is, seen_is}
use Rattle.rat_grammar.proofs.Derivations.{is_some, given, before_lines, allowed_there}
use Rattle.rat_grammar.proofs.Steps.{FoundPart, make, make_empty, found_token, found_empty}
use Rattle.rat_grammar.proofs.StatementLemmas.{body_begins, own_label}
use Rattle.rat_grammar.proofs.ExpressionsFound.{FoundExprs, found_name, found_number, found_expr, found_exprs, or_done}
use Rattle.rat_grammar.proofs.WordsFound.{the_word}
use Rattle.rat_grammar.proofs.DeclarationsFound.{FoundType, found_range}
use Rattle.rat_grammar.proofs.PlainFound.{FoundPlain, found_simple, found_plain}

pub statement_goes : {a b : Tokens} {x : Command} → s.Statement a b x → Goes a
statement_goes (s.bare l q) = record { next = _; lines = l; begins = body_begins q }
statement_goes (s.marked l (d.natural one) q) = record { next = _; lines = l; begins = begins_at _ _ refl }

pub statements_go : {a b : Tokens} {xs : Commands} → s.Statements a b xs → Goes b → Goes a
statements_go s.Statements.none g = g
statements_go (s.Statements.more x xs) g = statement_goes x

-- ---- parts ----

found_condition : {a b : Tokens} {f : Formula} → e.Condition a b f → FoundPart n.Condition a b (formula f)
found_condition (e.condition one f one) = make p.Condition tt _ _ _ (found_token t.Open _ _ refl) _ _ (found_expr f (or_done tt)) _ _ (found_token t.Close _ _ refl)

-- a part whose value is read by what stands behind it
pub record FoundSo {A : Type 0} (m : _) (read : Val → A) (a b : Tokens) (x : A) : Type 0 where
  pub value : Val
  pub found : FoundPart m a b value
  pub is : read value ≡ x

found_part : {a b : Tokens} {x : Option Act} → Perhaps pl.Simple a b x → IsSome b → FoundSo n.Part act_part a b x
found_part Perhaps.none g = record { value = _; found = found_empty p.NoPart refl (λ k. refl) g; is = refl }
found_part (Perhaps.some q) g = record { value = _; found = make p.SomePart tt _ _ _ (found_simple q g); is = refl }

found_test : {a b : Tokens} {x : Option Formula} → Perhaps e.Expr a b x → IsSome b → FoundSo n.Test formula_part a b x
found_test Perhaps.none g = record { value = _; found = found_empty p.NoTest refl (λ k. refl) g; is = refl }
found_test (Perhaps.some q) g = record { value = _; found = make p.SomeTest tt _ _ _ (found_expr q (or_done g)); is = refl }

found_outcome : {a b : Tokens} {x : Option Formula} → Perhaps e.Condition a b x → IsSome b → FoundSo n.Outcome formula_part a b x
found_outcome Perhaps.none g = record { value = _; found = found_empty p.NoOutcome refl (λ k. refl) g; is = refl }
found_outcome (Perhaps.some q) g = record { value = _; found = make p.SomeOutcome tt _ _ _ (found_condition q); is = refl }

found_count : {a b : Tokens} {x : ℕ} → s.Times a b x → IsSome b → FoundSo n.Count count_or_one a b x
found_count s.Times.once g = record { value = _; found = found_empty p.NoCount refl (λ k. refl) g; is = refl }
found_count (s.Times.number (d.natural one)) g = record { value = _; found = make p.SomeCount tt _ _ _ (found_number _ _ _); is = refl }

pub record FoundStop (a b : Tokens) : Type 0 where
  pub value : Val
  pub found : FoundPart n.Ending a b value

pub found_stop : {a b : Tokens} → Stop a b → FoundStop a b
found_stop (Stop.line one) = record { value = _; found = make p.EndingLine tt _ _ _ (found_token t.LineEnd _ _ refl) }
found_stop (Stop.semicolon one) = record { value = _; found = make p.EndingSign tt _ _ _ (found_token t.Semicolon _ _ refl) }
found_stop (Stop.brace one) = record { value = _; found = make_empty p.NoEnding refl _ refl }
found_stop (Stop.end one) = record { value = _; found = make_empty p.NoEnding refl _ refl }

found_lines : {a b : Tokens} → Lines a b → IsSome b → FoundPart n.Lines a b nothing
found_lines Lines.none g = found_empty p.NoLine refl (λ k. refl) g
found_lines (Lines.line one l) g = make p.OneLine tt _ _ _ (found_token t.LineEnd _ _ refl) _ _ (found_lines l g)

-- ---- lines before parts ----

statement_lines : {a b c : Tokens} {v : Val} → Lines a b → FoundPart n.Statement b c v → FoundPart n.Statement a c v
statement_lines = before_lines (λ a b q v c. make p.StatementLine tt _ _ _ (found_token t.LineEnd _ _ refl) _ _ c)

statements_lines : {a b c : Tokens} {v : Val} → Lines a b → FoundPart n.Statements b c v → FoundPart n.Statements a c v
statements_lines = before_lines (λ a b q v c. make p.StatementsLine tt _ _ _ (found_token t.LineEnd _ _ refl) _ _ c)

else_lines : {a b c : Tokens} {v : Val} → Lines a b → FoundPart n.ElsePart b c v → FoundPart n.ElsePart a c v
else_lines = before_lines (λ a b q v c. make p.ElseLine tt _ _ _ (found_token t.LineEnd _ _ refl) _ _ c)

until_lines : {a b c : Tokens} {v : Val} → Lines a b → FoundPart n.UntilPart b c v → FoundPart n.UntilPart a c v
until_lines = before_lines (λ a b q v c. make p.UntilLine tt _ _ _ (found_token t.LineEnd _ _ refl) _ _ c)

-- ---- where a part is left out ----

no_else_by : (k : Terminal) (y : Token) → Is k y.kind → (ts : Tokens) → NoLine (y ∷ ts) → ((c : Tokens) → Word (codes "ELSE") (y ∷ ts) c → ⊥) → allows p.NoElse k ≡ true
no_else_by t.LineEnd y q ts h g = absurd (h ts (sole (known q)))
no_else_by t.Else y q ts h g = absurd (g ts (word_of (known q)))
no_else_by _ y q ts h g = refl

no_until_by : (k : Terminal) (y : Token) → Is k y.kind → (ts : Tokens) → NoLine (y ∷ ts) → ((c : Tokens) → Word (codes "UNTIL") (y ∷ ts) c → ⊥) → allows p.NoUntil k ≡ true
no_until_by t.LineEnd y q ts h g = absurd (h ts (sole (known q)))
no_until_by t.Until y q ts h g = absurd (g ts (word_of (known q)))
no_until_by _ y q ts h g = refl

-- ---- statements ----

-- a body, and how far behind it the table goes; a specification of types stands elsewhere in the table
pub data FoundBody (a b : Tokens) (x : Command) : Type 0 where
  untyped : {m : Tokens} → Lines b m → FoundPart n.Untyped a m (command (place_at a) x) → FoundBody a b x
  typed : {i j : Tokens} {w : TypeWord} {ds : List f66.Declared} {v : Val} → FoundType a i w → FoundPart n.DeclaredList i j (declareds ds) → FoundPart n.Ending j b v →
      tree.Plain None (place_at a) (f66.Typed w ds) ≡ x → FoundBody a b x

pub record FoundBare (a b : Tokens) (x : Command) : Type 0 where
  pub behind : Tokens
  pub more : Lines b behind
  pub found : FoundPart n.Bare a behind (command (place_at a) x)

pub bare_of : {a b : Tokens} {x : Command} → FoundBody a b x → FoundBare a b x
bare_of (untyped l q) = record { behind = _; more = l; found = make p.UntypedBare tt _ _ _ q }
bare_of {a} (FoundBody.typed {w = k} {ds = ds} w q st h) = record {
  behind = _;
  more = Lines.none;
  found = given (ap (λ z. command z (tree.Plain None z (f66.Typed (type_word (tok w.token)) ds))) w.place ∙ ap (λ z. command (place_at a) (tree.Plain None (place_at a) (f66.Typed z ds))) w.is
      ∙ ap (λ z. command (place_at a) z) h)
      (make p.TypedBare tt _ _ _ w.found _ _ q _ _ st);
}

-- a statement behind its lines
pub record FoundItem (k b : Tokens) (x : Command) : Type 0 where
  pub start : Tokens
  pub lines : Lines k start
  pub behind : Tokens
  pub more : Lines b behind
  pub place : Place
  pub found : FoundPart n.Item start behind (command place x)

a_statement : {k b : Tokens} {x : Command} (q : FoundItem k b x) → FoundPart n.Statement k q.behind (command q.place x)
a_statement q = statement_lines q.lines (make p.StatementItem tt _ _ _ q.found)

unmarked : {a b k : Tokens} {x : Command} → Lines k a → FoundBare a b x → FoundItem k b x
unmarked l q = record { start = _; lines = l; behind = q.behind; more = q.more; place = _; found = make p.Unmarked tt _ _ _ q.found }

-- clauses behind their lines
pub record FoundClauses (a e : Tokens) (cs : tree.Clauses) : Type 0 where
  pub start : Tokens
  pub lines : Lines a start
  pub begins : Begins start
  pub found : FoundPart n.Clauses start e (clauses cs)

if_alone : {b c d : Tokens} {w : Text} {q : Place} {f : Formula} {x : Command} → capitals w ≡ codes "IF" → FoundPart n.Condition b c (formula f) → FoundItem c d x → s.FollowsNo (codes "ELSE") d →
    Goes d → FoundBody (token (kinds.Word w) q ∷ b) d (tree.If q f x)
if_alone h c x g z = untyped z.lines (make p.IfStatement tt _ _ _ (the_word (codes "IF") t.If refl h) _ _ c _ _ (a_statement x) _ _
    (else_lines (lines_left x.more z.lines z.begins.stands) (make_empty p.NoElse refl z.next (allowed_there grammar p.NoElse (codes "ELSE") (λ y. no_else_by (seen y) y (seen_is y)) z.next z.begins (λ k w. g z.next k z.lines w)))))

repeat_alone : {b d : Tokens} {w : Text} {q : Place} {x : Command} → capitals w ≡ codes "REPEAT" → FoundItem b d x → s.FollowsNo (codes "UNTIL") d → Goes d →
    FoundBody (token (kinds.Word w) q ∷ b) d (tree.Repeat q x)
repeat_alone h x g z = untyped z.lines (make p.RepeatStatement tt _ _ _ (the_word (codes "REPEAT") t.Repeat refl h) _ _ (a_statement x) _ _
    (until_lines (lines_left x.more z.lines z.begins.stands) (make_empty p.NoUntil refl z.next (allowed_there grammar p.NoUntil (codes "UNTIL") (λ y. no_until_by (seen y) y (seen_is y)) z.next z.begins (λ k w. g z.next k z.lines w)))))

numbered : {a b k : Tokens} {z : _} {q : Place} {x : Command} → Lines k (token (kinds.Number z) q ∷ a) → s.Body a b x → FoundBare a b x →
    FoundItem k b (s.labelled (capped 4294967295 z) (place_at a) x)
numbered {a} {z = z} l c r = record {
  start = _;
  lines = l;
  behind = r.behind;
  more = r.more;
  place = place_at a;
  found = given (ap (λ y. command (place_at a) y) (own_label (capped 4294967295 z) (place_at a) c)) (make p.Marked tt _ _ _ (found_number _ _ _) _ _ r.found);
}

plain_body : {a m b : Tokens} {x : Act} → FoundPlain a m x → FoundStop m b → FoundBody a b (tree.Plain None (place_at a) x)
plain_body (FoundPlain.plain q) z = untyped Lines.none (make p.PlainStatement tt _ _ _ q _ _ z.found)
plain_body {a} (FoundPlain.typed w q h) z = FoundBody.typed w q z.found (ap (λ y. tree.Plain None (place_at a) y) h)

mutual
  pub found_body : {a b : Tokens} {x : Command} → s.Body a b x → Goes b → FoundBody a b x
  found_body (s.empty one) g = untyped Lines.none (make p.Empty tt _ _ _ (found_token t.Semicolon _ _ refl))
  found_body (s.block one xs l one) g =
      untyped Lines.none (make p.Braces tt _ _ _ (found_token t.OpenBrace _ _ refl) _ _ (found_statements xs l (begins_at _ _ refl) _ Lines.none) _ _
      (found_token t.CloseBrace _ _ refl))
  found_body (s.if_ (word h) c q k) g = if_alone h (found_condition c) (found_item q g _ Lines.none) k g
  found_body (s.if_else (word h) c q l (word k) r) g =
      let x : FoundItem _ _ _ = found_item q (word_goes l (word k)) _ Lines.none in
      let y : FoundItem _ _ _ = found_item r g _ Lines.none in
      untyped y.more (make p.IfStatement tt _ _ _ (the_word (codes "IF") t.If refl h) _ _ (found_condition c) _ _ (a_statement x) _ _
      (else_lines (lines_left x.more l (no_line_at _ _ refl)) (make p.ElseBody tt _ _ _ (the_word (codes "ELSE") t.Else refl k) _ _ (a_statement y))))
  found_body (s.while (word h) c q) g =
      let x : FoundItem _ _ _ = found_item q g _ Lines.none in
      untyped x.more (make p.WhileStatement tt _ _ _ (the_word (codes "WHILE") t.While refl h) _ _ (found_condition c) _ _ (a_statement x))
  found_body (s.for {x = i1} {y = j1} {f = f} {s = k} (word {p = q} h) one i one c one j one r) g =
      let x : FoundItem _ _ _ = found_item r g _ Lines.none in
      let u : FoundSo n.Part act_part _ _ _ = found_part i tt in
      let v : FoundSo n.Test formula_part _ _ _ = found_test c tt in
      let w : FoundSo n.Part act_part _ _ _ = found_part j tt in
      untyped x.more (given (ap (λ z. command q (tree.For q z (formula_part v.value) (act_part w.value) k)) u.is
      ∙ ap (λ z. command q (tree.For q i1 z (act_part w.value) k)) v.is ∙ ap (λ z. command q (tree.For q i1 f z k)) w.is)
      (make p.ForStatement tt _ _ _ (the_word (codes "FOR") t.For refl h) _ _ (found_token t.Open _ _ refl) _ _ u.found _ _ (found_token t.Semicolon _ _ refl) _ _ v.found _ _
      (found_token t.Semicolon _ _ refl) _ _ w.found _ _ (found_token t.Close _ _ refl) _ _ (a_statement x)))
  found_body (s.repeat (word h) q k) g = repeat_alone h (found_item q g _ Lines.none) k g
  found_body (s.repeat_until (word h) q l (word k) c st) g =
      let x : FoundItem _ _ _ = found_item q (word_goes l (word k)) _ Lines.none in
      let z : FoundStop _ _ = found_stop st in
      untyped Lines.none (make p.RepeatStatement tt _ _ _ (the_word (codes "REPEAT") t.Repeat refl h) _ _ (a_statement x) _ _
      (until_lines (lines_left x.more l (no_line_at _ _ refl)) (make p.UntilTest tt _ _ _ (the_word (codes "UNTIL") t.Until refl k) _ _ (found_condition c) _ _ z.found)))
  found_body (s.do_ (word h) (name k) one r q) g =
      let x : FoundItem _ _ _ = found_item q g _ Lines.none in
      untyped x.more (make p.DoStatement tt _ _ _ (the_word (codes "DO") t.Do refl h) _ _ (found_name _ _ _ k) _ _ (found_token t.Assign _ _ refl) _ _
      (found_range r (is_some (a_statement x))) _ _ (a_statement x))
  found_body (s.switch (word h) c l one cs m one) g =
      let r : FoundClauses _ _ _ = found_clauses cs m (begins_at _ _ refl) in
      untyped Lines.none (make p.SwitchStatement tt _ _ _ (the_word (codes "SWITCH") t.Switch refl h) _ _ (found_condition c) _ _ (found_lines l tt) _ _
      (found_token t.OpenBrace _ _ refl) _ _ (found_lines r.lines (is_some r.found)) _ _ r.found _ _ (found_token t.CloseBrace _ _ refl))
  found_body (s.break_ (word {w = w} {p = q} h) c st) g =
      let r : FoundSo n.Count count_or_one _ _ _ = found_count c (stop_is_some st) in
      let z : FoundStop _ _ = found_stop st in
      untyped Lines.none (given (ap (λ y. command q (if y then tree.Next q (count_or_one r.value) else tree.Break q (count_or_one r.value))) (is_other (codes "NEXT") (codes "BREAK") w h)
      ∙ ap (λ y. command q (tree.Break q y)) r.is)
      (make p.LeaveStatement tt _ _ _ (the_word (codes "BREAK") t.Leave refl h) _ _ r.found _ _ z.found))
  found_body (s.next (word {w = w} {p = q} h) c st) g =
      let r : FoundSo n.Count count_or_one _ _ _ = found_count c (stop_is_some st) in
      let z : FoundStop _ _ = found_stop st in
      untyped Lines.none (given (ap (λ y. command q (if y then tree.Next q (count_or_one r.value) else tree.Break q (count_or_one r.value))) (is_other (codes "NEXT") (codes "NEXT") w h)
      ∙ ap (λ y. command q (tree.Next q y)) r.is)
      (make p.LeaveStatement tt _ _ _ (the_word (codes "NEXT") t.Leave refl h) _ _ r.found _ _ z.found))
  found_body (s.return_ (word {p = q} h) c st) g =
      let r : FoundSo n.Outcome formula_part _ _ _ = found_outcome c (stop_is_some st) in
      let z : FoundStop _ _ = found_stop st in
      untyped Lines.none (given (ap (λ y. command q (tree.Return q y)) r.is) (make p.ReturnStatement tt _ _ _ (the_word (codes "RETURN") t.Return refl h) _ _ r.found _ _ z.found))
  found_body (s.plain q st) g = plain_body (found_plain q (stop_is_some st)) (found_stop st)

  pub found_item : {a b : Tokens} {x : Command} → s.Statement a b x → Goes b → (k : Tokens) → Lines a k → FoundItem k b x
  found_item (s.bare l q) g k r = unmarked (lines_left r l (body_begins q).stands) (bare_of (found_body q g))
  found_item (s.marked l (d.natural one) q) g k r = numbered (lines_left r l (no_line_at _ _ refl)) q (bare_of (found_body q g))

  pub found_statements : {a b e : Tokens} {xs : Commands} → s.Statements a b xs → Lines b e → Begins e → (k : Tokens) → Lines a k → FoundPart n.Statements k e (commands xs)
  found_statements s.Statements.none l g k r = statements_lines (lines_left r l g.stands) (found_empty p.StatementsDone refl (λ k. refl) g.some)
  found_statements (s.Statements.more x xs) l g k r =
      let y : FoundItem k _ _ = found_item x (statements_go xs (record { next = _; lines = l; begins = g })) k r in
      statements_lines y.lines (make p.StatementsMore tt _ _ _ y.found _ _ (found_statements xs l g y.behind y.more))

  found_clauses : {a b e : Tokens} {cs : tree.Clauses} → s.Clauses a b cs → Lines b e → Begins e → FoundClauses a e cs
  found_clauses s.no_clause l g = record { start = _; lines = l; begins = g; found = found_empty p.NoClause refl (λ k. refl) g.some }
  found_clauses (s.case {ss = ss} {cs = ds} k (word {p = q} w) fs one xs cs) l g =
      let r : FoundClauses _ _ _ = found_clauses cs l g in
      let all : FoundExprs _ _ _ = found_exprs fs tt in
      let ys : FoundPart n.Statements _ _ _ = found_statements xs r.lines r.begins _ Lines.none in
      record {
        start = _;
        lines = k;
        begins = begins_at _ _ refl;
        found = given (ap (λ z. clauses (tree.AndClause z false ss q ds)) all.is) (make p.MoreClauses tt _ _ _
            (make p.CaseClause tt _ _ _ (the_word (codes "CASE") t.Case refl w) _ _ all.found _ _ all.more _ _ (found_token t.Colon _ _ refl) _ _ ys) _ _ r.found);
      }
  found_clauses (s.default k (word {p = q} w) one xs cs) l g =
      let r : FoundClauses _ _ _ = found_clauses cs l g in
      let ys : FoundPart n.Statements _ _ _ = found_statements xs r.lines r.begins _ Lines.none in
      record {
        start = _;
        lines = k;
        begins = begins_at _ _ refl;
        found = make p.MoreClauses tt _ _ _
            (make p.DefaultClause tt _ _ _ (the_word (codes "DEFAULT") t.Default refl w) _ _ (found_token t.Colon _ _ refl) _ _ ys) _ _ r.found;
      }
