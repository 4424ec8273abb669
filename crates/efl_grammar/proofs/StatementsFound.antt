-- The table derives each statement of the published grammar, and takes the lines behind an `if` or a `repeat` that has no more parts.
use Rattle.std.proofs.Common.{◌≡◌, ◌∙◌, true, false, if◌then◌else◌, None, List, [], ◌∷◌, refl, ap}
use Rattle.std.specs.Prelude.{codes}
use Rattle.ground.specs.declared.place.Place.{Place}
use Rattle.ground.specs.declared.token.Token.{Token}
use Rattle.ground.specs.declared.token.TokenKind.TheVariants as kinds
use Rattle.efl_tree.specs.Syntax as efl
use Rattle.efl_tree.specs.Syntax.{Text, EflExpr, EflDecl, EflDeclKind, EflStmt, EflKind, EflStmts, NoStmt, AndStmt, EflCases}
use Rattle.efl_parse_table.specs.declared.table.Terminal.{Terminal}
use Rattle.efl_parse_table.specs.declared.table.Terminal.TheVariants as t
use Rattle.efl_parse_table.specs.declared.table.Nonterminal.{Nonterminal}
use Rattle.efl_parse_table.specs.declared.table.Nonterminal.TheVariants as n
use Rattle.efl_parse_table.specs.declared.table.Production.TheVariants as p
use Rattle.efl_parse_table.specs.Table.{allows}
use Rattle.efl_parse_table.specs.Words.{reserved, terminal_in, seen}
use Rattle.efl_parse_values.specs.Kinds as part
use Rattle.efl_parse_values.specs.Values.{Val}
use Rattle.efl_parse_values.specs.Values as val
use Rattle.efl_parse_values.specs.Parts.{expr_part}
use Rattle.efl_parse_expressions.specs.Phrases.{completed}
use Rattle.efl_parse_statements.specs.Lists.{with_label, acted, begins, opened_by}
use Rattle.efl_parse.specs.Efl.{grammar}
use Rattle.rat_grammar.specs.Tokens.{Tokens, token, one, capitals, Word, word, place_at, Lines, Several}
use Rattle.rat_grammar.specs.Plain.{one_word, two_words}
use Rattle.rat_grammar.specs.Statements.{FollowsNo}
use Rattle.rat_grammar.specs.Laws.{IsSome}
use Rattle.rat_grammar.proofs.LineLemmas.{NoLine, lines_left, no_line_at, Begins, begins_at, Goes, word_goes, stop_is_some}
use Rattle.rat_grammar.proofs.Parts.{Part}
use Rattle.rat_grammar.proofs.Standing.{known, sole, word_of}
use Rattle.rat_grammar.proofs.ReservedWords.{is_other}
use Rattle.efl_grammar.specs.Tokens.{name}
use Rattle.efl_grammar.specs.Declarations as d
use Rattle.efl_grammar.specs.Statements as s
use Rattle.efl_grammar.proofs.TokenLemmas.{Is, seen_is}
use Rattle.rat_grammar.proofs.Derivations.{is_some, given, before_lines, allowed_there}
use Rattle.efl_grammar.proofs.Steps.{FoundPart, built, make, make_empty, found_token, found_empty}
use Rattle.efl_grammar.proofs.StatementLemmas.{labelled_begins, statements_go}
use Rattle.efl_grammar.proofs.ExpressionsFound.{the_word, found_name, found_expr}
use Rattle.rat_grammar.proofs.ListsFound.{FoundList}
use Rattle.efl_grammar.proofs.DeclarationsFound.{FoundStop, found_stop}
use Rattle.efl_grammar.proofs.OuterFound.{FoundIn, found_inner, found_outer}
use Rattle.efl_grammar.proofs.ActsFound.{FoundAct, begun, step, found_act, found_condition, FoundSo, found_part, found_whole, found_step_part, found_outcome, found_lines}
use Rattle.efl_grammar.proofs.PartsFound.{found_leaving, FoundSep, found_sep, sep_is_some, found_write_items, found_read_items, found_integrals}

-- ---- lines before parts ----

statement_lines : {a b c : Tokens} {v : Val} → Lines a b → FoundPart n.Statement b c v → FoundPart n.Statement a c v
unfolding built
statement_lines = before_lines (λ a b q v c. make p.StatementLine tt _ _ _ (found_token t.LineEnd _ _ refl) _ _ c)

statements_lines : {a b c : Tokens} {v : Val} → Lines a b → FoundPart n.Statements b c v → FoundPart n.Statements a c v
unfolding built
statements_lines = before_lines (λ a b q v c. make p.StatementsLine tt _ _ _ (found_token t.LineEnd _ _ refl) _ _ c)

else_lines : {a b c : Tokens} {v : Val} → Lines a b → FoundPart n.ElsePart b c v → FoundPart n.ElsePart a c v
unfolding built
else_lines = before_lines (λ a b q v c. make p.ElseLine tt _ _ _ (found_token t.LineEnd _ _ refl) _ _ c)

until_lines : {a b c : Tokens} {v : Val} → Lines a b → FoundPart n.UntilPart b c v → FoundPart n.UntilPart a c v
unfolding built
until_lines = before_lines (λ a b q v c. make p.UntilLine tt _ _ _ (found_token t.LineEnd _ _ refl) _ _ c)

-- ---- where a part is left out ----

no_else_by : (k : Terminal) (y : Token) → Is k y.kind → (ts : Tokens) → NoLine (y ∷ ts) → ((c : Tokens) → Word (codes "ELSE") (y ∷ ts) c → ⊥) → allows p.NoElse k ≡ true
no_else_by t.LineEnd y q ts h g = absurd (h ts (sole (known q)))
no_else_by t.Else y q ts h g = absurd (g ts (word_of (known q)))
no_else_by _ y q ts h g = refl

no_until_by : (k : Terminal) (y : Token) → Is k y.kind → (ts : Tokens) → NoLine (y ∷ ts) → ((c : Tokens) → Word (codes "UNTIL") (y ∷ ts) c → ⊥) → allows p.NoUntil k ≡ true
no_until_by t.LineEnd y q ts h g = absurd (h ts (sole (known q)))
no_until_by t.Until y q ts h g = absurd (g ts (word_of (known q)))
no_until_by _ y q ts h g = refl

-- ---- bodies and statements ----

-- a body, and how far behind it the table goes; an act that begins with a name stands elsewhere in the table
data FoundBody : Tokens → Tokens → EflKind → Type 0 where
  unnamed : {a b m : Tokens} {k : EflKind} → Lines b m → FoundPart n.Unnamed a m (val.stmt (efl.Statement [] (place_at a) k)) → FoundBody a b k
  named : {a i b : Tokens} {w : Text} {q : Place} {r : part.Rest} {f : EflExpr} → terminal_in reserved w ≡ None → FoundPart n.DeedRest a i (val.rest r) → completed (capitals w) r ≡ f →
      FoundStop i b → FoundBody (token (kinds.Word w) q ∷ a) b (efl.Act f)

act_body : {a m b : Tokens} {f : EflExpr} → FoundAct a m f → FoundStop m b → FoundBody a b (efl.Act f)
unfolding built
act_body (begun h c e) st = FoundBody.named h c e st
act_body (step c) st = FoundBody.unnamed Lines.none (make p.StepStatement tt _ _ _ c _ _ st.found)

-- a statement, and how far behind it the table goes
record FoundStatement (a b : Tokens) (x : EflStmt) : Type 0 where
  behind : Tokens
  more : Lines b behind
  found : FoundPart n.Statement a behind (val.stmt x)

a_statement : {c a b : Tokens} {k : EflKind} → Lines c a → FoundBody a b k → FoundStatement c b (efl.Statement [] (place_at a) k)
unfolding built
a_statement l (FoundBody.unnamed r q) = record { behind = _; more = r; found = statement_lines l (make p.StatementOther tt _ _ _ q) }
a_statement l (FoundBody.named {q = q} h c e st) = record {
  behind = _;
  more = Lines.none;
  found = statement_lines l (given (ap (λ z. val.stmt (efl.Statement [] q (efl.Act z))) e) (make p.StatementAct tt _ _ _ (found_name _ _ _ h) _ _ c _ _ st.found));
}

-- ---- statements of a list ----

-- a statement of a list behind its lines; what begins with a name stands elsewhere in the table
data FoundListed : Tokens → Tokens → EflStmt → Type 0 where
  unnamed : {a b m : Tokens} {x : EflStmt} → Lines b m → FoundPart n.Unnamed a m (val.stmt x) → FoundListed a b x
  labelled : {a b m : Tokens} {w : Text} {q : Place} {x : EflStmt} → terminal_in reserved w ≡ None → Lines b m → FoundPart n.NamedRest a m (val.stmt x) →
      FoundListed (token (kinds.Word w) q ∷ a) b (with_label (capitals w) x)
  named : {a b : Tokens} {w : Text} {q : Place} {r : part.Rest} {x : EflStmt} → terminal_in reserved w ≡ None → FoundPart n.NamedRest a b (val.rest r) → acted q (capitals w) r ≡ x →
      FoundListed (token (kinds.Word w) q ∷ a) b x

listed_body : {a b : Tokens} {k : EflKind} → FoundBody a b k → FoundListed a b (efl.Statement [] (place_at a) k)
unfolding built
listed_body (FoundBody.unnamed l q) = FoundListed.unnamed l q
listed_body (FoundBody.named {q = q} h c e st) = FoundListed.named h (make p.ActRest tt _ _ _ c _ _ st.found) (ap (λ z. efl.Statement [] q (efl.Act z)) e)

record FoundItem (a b : Tokens) (x : EflStmt) : Type 0 where
  behind : Tokens
  more : Lines b behind
  found : FoundPart n.Listed a behind (val.stmt x)

listed_item : {a b : Tokens} {x : EflStmt} → FoundListed a b x → FoundItem a b x
unfolding built
listed_item (FoundListed.unnamed l q) = record { behind = _; more = l; found = make p.ListedOther tt _ _ _ q }
listed_item (FoundListed.labelled h l q) = record { behind = _; more = l; found = make p.ListedNamed tt _ _ _ (found_name _ _ _ h) _ _ q }
listed_item (FoundListed.named h q e) =
    record { behind = _; more = Lines.none; found = given (ap (λ z. val.stmt z) e) (make p.ListedNamed tt _ _ _ (found_name _ _ _ h) _ _ q) }

with_labels : {a b c : Tokens} {xs : List Text} {q : Place} {k : EflKind} → s.Labels a b xs → FoundListed b c (efl.Statement [] q k) → FoundListed a c (efl.Statement xs q k)
unfolding built
with_labels s.Labels.none r = r
with_labels (s.label (name h) one xs) r =
    let z : FoundItem _ _ _ = listed_item (with_labels xs r) in FoundListed.labelled h z.more (make p.LabelRest tt _ _ _ (found_token t.Colon _ _ refl) _ _ z.found)

-- ---- lists of declarations and statements ----

-- how the table begins such a list
record Lister : Type 0 where
  of : Nonterminal
  line : (a b : Tokens) (q : Place) (v : Val) → FoundPart of a b v → FoundPart of (token kinds.LineEnd q ∷ a) b v
  done : (a : Tokens) → IsSome a → FoundPart of a a (val.lists [] NoStmt)
  unnamed : (a b c : Tokens) (x : EflStmt) (ss : EflStmts) → FoundPart n.Unnamed a b (val.stmt x) → FoundPart n.Statements b c (val.stmts ss) →
      FoundPart of a c (val.lists [] (AndStmt x ss))
  named : (a b c : Tokens) (w : Text) (q : Place) (v : Val) (ss : EflStmts) → terminal_in reserved w ≡ None → FoundPart n.NamedRest a b v → FoundPart n.Statements b c (val.stmts ss) →
      FoundPart of (token (kinds.Word w) q ∷ a) c (opened_by q (capitals w) (begins v ss))

-- of a block
inner_line : (a b : Tokens) (q : Place) (v : Val) → FoundPart n.InnerList a b v → FoundPart n.InnerList (token kinds.LineEnd q ∷ a) b v
unfolding built
inner_line a b q v c = make p.InnerLine tt _ _ _ (found_token t.LineEnd _ _ refl) _ _ c

inner_done : (a : Tokens) → IsSome a → FoundPart n.InnerList a a (val.lists [] NoStmt)
unfolding built
inner_done a h = found_empty p.InnerDone refl (λ k. refl) h

inner_unnamed : (a b c : Tokens) (x : EflStmt) (ss : EflStmts) → FoundPart n.Unnamed a b (val.stmt x) → FoundPart n.Statements b c (val.stmts ss) →
    FoundPart n.InnerList a c (val.lists [] (AndStmt x ss))
unfolding built
inner_unnamed a b c x ss q r = make p.InnerStatement tt _ _ _ q _ _ r

inner_named : (a b c : Tokens) (w : Text) (q : Place) (v : Val) (ss : EflStmts) → terminal_in reserved w ≡ None → FoundPart n.NamedRest a b v → FoundPart n.Statements b c (val.stmts ss) →
    FoundPart n.InnerList (token (kinds.Word w) q ∷ a) c (opened_by q (capitals w) (begins v ss))
unfolding built
inner_named a b c w q v ss h r k = make p.InnerNamed tt _ _ _ (found_name w q a h) _ _ (make p.InnerItem tt _ _ _ r _ _ k)

abbrev inner : Lister
inner = record { of = n.InnerList; line = inner_line; done = inner_done; unnamed = inner_unnamed; named = inner_named }

-- of a procedure
outer_line : (a b : Tokens) (q : Place) (v : Val) → FoundPart n.OuterList a b v → FoundPart n.OuterList (token kinds.LineEnd q ∷ a) b v
unfolding built
outer_line a b q v c = make p.OuterLine tt _ _ _ (found_token t.LineEnd _ _ refl) _ _ c

outer_done : (a : Tokens) → IsSome a → FoundPart n.OuterList a a (val.lists [] NoStmt)
unfolding built
outer_done a h = found_empty p.OuterDone refl (λ k. refl) h

outer_unnamed : (a b c : Tokens) (x : EflStmt) (ss : EflStmts) → FoundPart n.Unnamed a b (val.stmt x) → FoundPart n.Statements b c (val.stmts ss) →
    FoundPart n.OuterList a c (val.lists [] (AndStmt x ss))
unfolding built
outer_unnamed a b c x ss q r = make p.OuterStatement tt _ _ _ q _ _ r

outer_named : (a b c : Tokens) (w : Text) (q : Place) (v : Val) (ss : EflStmts) → terminal_in reserved w ≡ None → FoundPart n.NamedRest a b v → FoundPart n.Statements b c (val.stmts ss) →
    FoundPart n.OuterList (token (kinds.Word w) q ∷ a) c (opened_by q (capitals w) (begins v ss))
unfolding built
outer_named a b c w q v ss h r k = make p.OuterNamed tt _ _ _ (found_name w q a h) _ _ (make p.OuterItem tt _ _ _ r _ _ k)

abbrev outer : Lister
outer = record { of = n.OuterList; line = outer_line; done = outer_done; unnamed = outer_unnamed; named = outer_named }

list_lines : (m : Lister) {a b c : Tokens} {v : Val} → Lines a b → FoundPart m.of b c v → FoundPart m.of a c v
list_lines m = before_lines m.line

first_of_list : (m : Lister) {a b c : Tokens} {x : EflStmt} {ss : EflStmts} → FoundListed a b x → ((k : Tokens) → Lines b k → FoundPart n.Statements k c (val.stmts ss)) →
    FoundPart m.of a c (val.lists [] (AndStmt x ss))
first_of_list m (FoundListed.unnamed l q) r = m.unnamed _ _ _ _ _ q (r _ l)
first_of_list m (FoundListed.labelled h l q) r = m.named _ _ _ _ _ _ _ h q (r _ l)
first_of_list m {ss = ss} (FoundListed.named h q e) r = given (ap (λ z. val.lists [] (AndStmt z ss)) e) (m.named _ _ _ _ _ _ _ h q (r _ Lines.none))

with_declarations : (m : Lister) (Kind : Part EflDeclKind) → ((a b : Tokens) (k : EflDeclKind) → Kind a b k → IsSome b → FoundIn m.of a b k) → {a b c : Tokens} {ds : List EflDecl} {ss : EflStmts} →
    Several (d.Decl Kind) a b ds → FoundPart m.of b c (val.lists [] ss) → FoundPart m.of a c (val.lists ds ss)
with_declarations m Kind found Several.none r = r
with_declarations m Kind found (Several.more (d.decl l q) ds) r =
    let z : FoundPart m.of _ _ _ = with_declarations m Kind found ds r in list_lines m l (found _ _ _ q (is_some z) _ _ _ z)

inner_declarations : {a b c : Tokens} {ds : List EflDecl} {ss : EflStmts} → Several (d.Decl d.Declaration) a b ds → FoundPart n.InnerList b c (val.lists [] ss) → FoundPart n.InnerList a c (val.lists ds ss)
inner_declarations = with_declarations inner d.Declaration (λ a b k q h. found_inner q h)

-- ---- clauses ----

-- clauses behind their lines
record FoundClauses (a e : Tokens) (cs : EflCases) : Type 0 where
  start : Tokens
  lines : Lines a start
  begins : Begins start
  found : FoundPart n.Clauses start e (val.clauses cs)

-- ---- an `if` or a `repeat` that has no more parts ----

if_alone : {b c d : Tokens} {w : Text} {q : Place} {f : EflExpr} {x : EflStmt} → capitals w ≡ codes "IF" → FoundPart n.Condition b c (val.expr f) → FoundStatement c d x →
    FollowsNo (codes "ELSE") d → Goes d → FoundBody (token (kinds.Word w) q ∷ b) d (efl.If f x)
unfolding built
if_alone h c x g z = FoundBody.unnamed z.lines (make p.IfStatement tt _ _ _ (the_word (codes "IF") t.If refl h) _ _ c _ _ x.found _ _
    (else_lines (lines_left x.more z.lines z.begins.stands) (make_empty p.NoElse refl z.next (allowed_there grammar p.NoElse (codes "ELSE") (λ y. no_else_by (seen y) y (seen_is y)) z.next z.begins (λ k w. g z.next k z.lines w)))))

repeat_alone : {b d : Tokens} {w : Text} {q : Place} {x : EflStmt} → capitals w ≡ codes "REPEAT" → FoundStatement b d x → FollowsNo (codes "UNTIL") d → Goes d →
    FoundBody (token (kinds.Word w) q ∷ b) d (efl.Repeat x)
unfolding built
repeat_alone h x g z = FoundBody.unnamed z.lines (make p.RepeatStatement tt _ _ _ (the_word (codes "REPEAT") t.Repeat refl h) _ _ x.found _ _
    (until_lines (lines_left x.more z.lines z.begins.stands) (make_empty p.NoUntil refl z.next (allowed_there grammar p.NoUntil (codes "UNTIL") (λ y. no_until_by (seen y) y (seen_is y)) z.next z.begins (λ k w. g z.next k z.lines w)))))

-- ---- all statements ----

mutual
  unfolding built

  found_body : {a b : Tokens} {k : EflKind} → s.Body a b k → Goes b → FoundBody a b k
  found_body (s.empty one) g = FoundBody.unnamed Lines.none (make p.Empty tt _ _ _ (found_token t.Semicolon _ _ refl))
  found_body (s.block one ds ss l one) g =
      FoundBody.unnamed Lines.none (make p.Braces tt _ _ _ (found_token t.OpenBrace _ _ refl) _ _
      (inner_declarations ds (found_list inner ss l (begins_at _ _ refl))) _ _ (found_token t.CloseBrace _ _ refl))
  found_body (s.act q st) g = act_body (found_act q (stop_is_some st)) (found_stop st)
  found_body (s.if_ (word h) c q k) g = if_alone h (found_condition c) (found_statement q g) k g
  found_body (s.if_else (word h) c q l (word k) r) g =
      let x : FoundStatement _ _ _ = found_statement q (word_goes l (word k)) in
      let y : FoundStatement _ _ _ = found_statement r g in
      FoundBody.unnamed y.more (make p.IfStatement tt _ _ _ (the_word (codes "IF") t.If refl h) _ _ (found_condition c) _ _ x.found _ _
      (else_lines (lines_left x.more l (no_line_at _ _ refl)) (make p.ElseBody tt _ _ _ (the_word (codes "ELSE") t.Else refl k) _ _ y.found)))
  found_body (s.while (word h) c q) g =
      let x : FoundStatement _ _ _ = found_statement q g in
      FoundBody.unnamed x.more (make p.WhileStatement tt _ _ _ (the_word (codes "WHILE") t.While refl h) _ _ (found_condition c) _ _ x.found)
  found_body (s.for {x = i1} {y = f} {s = k} (word {p = q} h) one i sep c gap j one r) g =
      let x : FoundStatement _ _ _ = found_statement r g in
      let w : FoundSo n.Part expr_part _ _ _ = found_part j tt in
      let right : FoundSep _ _ = found_sep gap in
      let v : FoundSo n.AnyWhole expr_part _ _ _ = found_whole c (sep_is_some gap) in
      let left : FoundSep _ _ = found_sep sep in
      let u : FoundSo n.Part expr_part _ _ _ = found_part i (sep_is_some sep) in
      FoundBody.unnamed x.more (given (ap (λ z. val.stmt (efl.Statement [] q (efl.For z (expr_part v.value) (expr_part w.value) k))) u.is
      ∙ ap (λ z. val.stmt (efl.Statement [] q (efl.For i1 z (expr_part w.value) k))) v.is ∙ ap (λ z. val.stmt (efl.Statement [] q (efl.For i1 f z k))) w.is)
      (make p.ForStatement tt _ _ _ (the_word (codes "FOR") t.For refl h) _ _ (found_token t.Open _ _ refl) _ _ u.found _ _ left.found _ _ v.found _ _ right.found _ _ w.found _ _
      (found_token t.Close _ _ refl) _ _ x.found))
  found_body (s.repeat (word h) q k) g = repeat_alone h (found_statement q g) k g
  found_body (s.repeat_until (word h) q l (word k) c st) g =
      let x : FoundStatement _ _ _ = found_statement q (word_goes l (word k)) in
      let z : FoundStop _ _ = found_stop st in
      FoundBody.unnamed Lines.none (make p.RepeatStatement tt _ _ _ (the_word (codes "REPEAT") t.Repeat refl h) _ _ x.found _ _
      (until_lines (lines_left x.more l (no_line_at _ _ refl)) (make p.UntilTest tt _ _ _ (the_word (codes "UNTIL") t.Until refl k) _ _ (found_condition c) _ _ z.found)))
  found_body (s.do_ {f = f} {u = u} {s = k} (word {p = q} h) (name {w = w} i) one c one e by r) g =
      let x : FoundStatement _ _ _ = found_statement r g in
      let v : FoundSo n.StepPart expr_part _ _ _ = found_step_part by (is_some x.found) in
      FoundBody.unnamed x.more (given (ap (λ z. val.stmt (efl.Statement [] q (efl.Do (capitals w) f u z k))) v.is)
      (make p.DoStatement tt _ _ _ (the_word (codes "DO") t.Do refl h) _ _ (found_name _ _ _ i) _ _ (found_token t.Assign _ _ refl) _ _ (make p.WholeExpr tt _ _ _ (found_expr c tt)) _ _
      (found_token t.Comma _ _ refl) _ _ (make p.WholeExpr tt _ _ _ (found_expr e (is_some v.found))) _ _ v.found _ _ x.found))
  found_body (s.switch (word h) c l one cs m one) g =
      let r : FoundClauses _ _ _ = found_clauses cs m (begins_at _ _ refl) in
      FoundBody.unnamed Lines.none (make p.SwitchStatement tt _ _ _ (the_word (codes "SWITCH") t.Switch refl h) _ _ (found_condition c) _ _ (found_lines l tt) _ _
      (found_token t.OpenBrace _ _ refl) _ _ (found_lines r.lines (is_some r.found)) _ _ r.found _ _ (found_token t.CloseBrace _ _ refl))
  found_body (s.break_ {n = m} {k = k} (word {w = w} {p = q} h) c st) g =
      let z : FoundStop _ _ = found_stop st in
      FoundBody.unnamed Lines.none (given (ap (λ y. val.stmt (efl.Statement [] q (if y then efl.Next m k else efl.Break m k))) (is_other (codes "NEXT") (codes "BREAK") w h))
      (make p.LeaveStatement tt _ _ _ (the_word (codes "BREAK") t.Leave refl h) _ _ (found_leaving c (stop_is_some st)) _ _ z.found))
  found_body (s.next {n = m} {k = k} (word {w = w} {p = q} h) c st) g =
      let z : FoundStop _ _ = found_stop st in
      FoundBody.unnamed Lines.none (given (ap (λ y. val.stmt (efl.Statement [] q (if y then efl.Next m k else efl.Break m k))) (is_other (codes "NEXT") (codes "NEXT") w h))
      (make p.LeaveStatement tt _ _ _ (the_word (codes "NEXT") t.Leave refl h) _ _ (found_leaving c (stop_is_some st)) _ _ z.found))
  found_body (s.return_ (word {p = q} h) c st) g =
      let z : FoundStop _ _ = found_stop st in
      let r : FoundSo n.Outcome expr_part _ _ _ = found_outcome c (stop_is_some st) in
      FoundBody.unnamed Lines.none (given (ap (λ y. val.stmt (efl.Statement [] q (efl.Return y))) r.is)
      (make p.ReturnStatement tt _ _ _ (the_word (codes "RETURN") t.Return refl h) _ _ r.found _ _ z.found))
  found_body (s.goto (one_word (word h)) (name k) st) g =
      let z : FoundStop _ _ = found_stop st in
      FoundBody.unnamed Lines.none (make p.GotoStatement tt _ _ _ (the_word (codes "GOTO") t.Goto refl h) _ _ (found_name _ _ _ k) _ _ z.found)
  found_body (s.goto (two_words (word h) (word i)) (name k) st) g =
      let z : FoundStop _ _ = found_stop st in
      FoundBody.unnamed Lines.none (make p.GoToStatement tt _ _ _ (the_word (codes "GO") t.Go refl h) _ _ (the_word (codes "TO") t.To refl i) _ _ (found_name _ _ _ k) _ _ z.found)
  found_body (s.write {xs = ys} (word {p = q} h) one c xs one st) g =
      let z : FoundStop _ _ = found_stop st in
      let items : FoundPart n.WriteItems _ _ _ = found_write_items xs tt in
      let r : FoundSo n.AnyWhole expr_part _ _ _ = found_whole c (is_some items) in
      FoundBody.unnamed Lines.none (given (ap (λ y. val.stmt (efl.Statement [] q (efl.Write y ys))) r.is)
      (make p.WriteStatement tt _ _ _ (the_word (codes "WRITE") t.Write refl h) _ _ (found_token t.Open _ _ refl) _ _ r.found _ _ items _ _ (found_token t.Close _ _ refl) _ _ z.found))
  found_body (s.read {xs = ys} (word {p = q} h) one c xs one st) g =
      let z : FoundStop _ _ = found_stop st in
      let items : FoundPart n.ReadItems _ _ _ = found_read_items xs tt in
      let r : FoundSo n.AnyWhole expr_part _ _ _ = found_whole c (is_some items) in
      FoundBody.unnamed Lines.none (given (ap (λ y. val.stmt (efl.Statement [] q (efl.Read y ys))) r.is)
      (make p.ReadStatement tt _ _ _ (the_word (codes "READ") t.Read refl h) _ _ (found_token t.Open _ _ refl) _ _ r.found _ _ items _ _ (found_token t.Close _ _ refl) _ _ z.found))

  found_statement : {a b : Tokens} {x : EflStmt} → s.Statement a b x → Goes b → FoundStatement a b x
  found_statement (s.statement l q) g = a_statement l (found_body q g)

  found_statements : {a b e : Tokens} {ss : EflStmts} → s.Statements a b ss → Lines b e → Begins e → (k : Tokens) → Lines a k → FoundPart n.Statements k e (val.stmts ss)
  found_statements s.no_statement l g k r = statements_lines (lines_left r l g.stands) (found_empty p.StatementsDone refl (λ k. refl) g.some)
  found_statements (s.listed j xs q ss) l g k r =
      let x : FoundItem _ _ _ = listed_item (with_labels xs (listed_body (found_body q (statements_go ss (record { next = _; lines = l; begins = g }))))) in
      let first : Begins _ = labelled_begins xs q in
      statements_lines (lines_left r j first.stands) (make p.StatementsMore tt _ _ _ x.found _ _ (found_statements ss l g x.behind x.more))

  found_list : (m : Lister) {a b e : Tokens} {ss : EflStmts} → s.Statements a b ss → Lines b e → Begins e → FoundPart m.of a e (val.lists [] ss)
  found_list m s.no_statement l g = list_lines m l (m.done _ g.some)
  found_list m (s.listed j xs q ss) l g =
      list_lines m j (first_of_list m (with_labels xs (listed_body (found_body q (statements_go ss (record { next = _; lines = l; begins = g })))))
      (λ k r. found_statements ss l g k r))

  found_clauses : {a b e : Tokens} {cs : EflCases} → s.Clauses a b cs → Lines b e → Begins e → FoundClauses a e cs
  found_clauses s.no_clause l g = record { start = _; lines = l; begins = g; found = found_empty p.NoClause refl (λ k. refl) g.some }
  found_clauses (s.case {ss = ss} {cs = cs} k (word {p = q} w) zs one xs ds) l g =
      let r : FoundClauses _ _ _ = found_clauses ds l g in
      let all : FoundList _ _ _ _ _ = found_integrals zs tt in
      let ys : FoundPart n.Statements _ _ _ = found_statements xs r.lines r.begins _ Lines.none in
      record {
        start = _;
        lines = k;
        begins = begins_at _ _ refl;
        found = given (ap (λ z. val.clauses (efl.AndCase z false ss q cs)) all.is) (make p.MoreClauses tt _ _ _
            (make p.CaseClause tt _ _ _ (the_word (codes "CASE") t.Case refl w) _ _ all.found _ _ all.more _ _ (found_token t.Colon _ _ refl) _ _ ys) _ _ r.found);
      }
  found_clauses (s.default k (word w) one xs ds) l g =
      let r : FoundClauses _ _ _ = found_clauses ds l g in
      let ys : FoundPart n.Statements _ _ _ = found_statements xs r.lines r.begins _ Lines.none in
      record {
        start = _;
        lines = k;
        begins = begins_at _ _ refl;
        found = make p.MoreClauses tt _ _ _
            (make p.DefaultClause tt _ _ _ (the_word (codes "DEFAULT") t.Default refl w) _ _ (found_token t.Colon _ _ refl) _ _ ys) _ _ r.found;
      }

-- the declarations and statements of a procedure
pub found_content : {a b c e : Tokens} {ds : List EflDecl} {ss : EflStmts} → Several (d.Decl d.OuterDeclaration) a b ds → s.Statements b c ss → Lines c e → Begins e →
    FoundPart n.OuterList a e (val.lists ds ss)
found_content ds ss l g = with_declarations outer d.OuterDeclaration (λ a b k q h. found_outer q h) ds (found_list outer ss l g)
