-- What the table reads as a statement, a procedure or a program is one of the published grammar, with lines behind it that the table takes too.
use Rattle.std.proofs.Common.{◌≡◌, ◌∙◌, Bool, true, false, ℕ, ℤ, List, [], ◌∷◌, Option, None, Some, inl, inr, refl, sym, subst, ap, if◌then◌else◌}
use Rattle.std.specs.Prelude.{codes}
use Rattle.ground.specs.declared.place.Place.{Place}
use Rattle.ground.specs.declared.token.Token.{Token}
use Rattle.ground.specs.declared.token.TokenKind.TheVariants as kinds
use Rattle.ground.specs.declared.token.Sign.TheVariants as signs
use Rattle.efl_tree.specs.declared.statement.LoopKind.{LoopKind}
use Rattle.efl_tree.specs.declared.statement.LoopKind.TheVariants as loops
use Rattle.efl_tree.specs.declared.statement.EflEdit.TheVariants as edits
use Rattle.efl_tree.specs.Syntax as efl
use Rattle.efl_tree.specs.Syntax.{Text, EflExpr, EflType, EflVar, EflDecl, EflDeclKind, Named, Variables, Implicit, EflStmt, EflKind, EflStmts, NoStmt, AndStmt, EflCases, EflProcedure, EflProgram}
use Rattle.efl_parse_table.specs.declared.table.Terminal.TheVariants as t
use Rattle.efl_parse_table.specs.declared.table.Nonterminal.TheVariants as n
use Rattle.efl_parse_table.specs.declared.table.Production.TheVariants as p
use Rattle.efl_parse_table.specs.Table.{allows}
use Rattle.efl_parse_table.specs.Words.{is_spelled}
use Rattle.efl_parse_values.specs.Kinds as part
use Rattle.efl_parse_values.specs.Values.{Val, tok, nothing}
use Rattle.efl_parse_values.specs.Values as val
use Rattle.efl_parse_values.specs.Parts.{name_in, text_in, integer_in, number_in, count_or_one, bare}
use Rattle.efl_parse_expressions.specs.Phrases.{completed, with_steps, with_arguments, stepped}
use Rattle.efl_parse_statements.specs.Lists.{with_label, acted, begun, begins, opened, shared}
use Rattle.efl_parse_statements.specs.Statements.{conditional, repetition, left, loop_of, loop_named, width_edit}
use Rattle.efl_parse.specs.Efl.{grammar}
use Rattle.rat_grammar.specs.Tokens.{Perhaps, Tokens, token, Sign, Number, Word, word, capitals, Listed, Several, Lines, Stop, place_at}
use Rattle.rat_grammar.specs.Plain.{GoTo}
use Rattle.rat_grammar.proofs.LineLemmas.{joined_lines, follows_no}
use Rattle.rat_grammar.proofs.Parts.{Part, Lined, present, missing, lines_before_word}
use Rattle.rat_grammar.proofs.Standing.{place_of, sole, either, word_of, Spelled, spelled, spelling, Choice, this, that, choice}
use Rattle.rat_grammar.proofs.ReservedWords.{same, is_other}
use Rattle.rat_grammar.proofs.Derivations.{Reads, none_there}
use Rattle.efl_grammar.specs.Tokens.{Name, Natural, Whole}
use Rattle.efl_grammar.specs.Expressions as e
use Rattle.efl_grammar.specs.Declarations as d
use Rattle.efl_grammar.specs.Statements as s
use Rattle.efl_grammar.specs.Programs as u
use Rattle.efl_grammar.proofs.TokenLemmas.{word_seen_as}
use Rattle.efl_grammar.proofs.Readings.{Item, item, NamedRest, view_named, SaysNamed, Listing, Opened, perhaps, Else, Until, reading}
use Rattle.efl_grammar.proofs.Taken as taken
use Rattle.efl_grammar.proofs.Steps.{Step, built}
use Rattle.efl_grammar.proofs.ExpressionsRead.{a_step}

-- ---- words of several meanings ----

abbrev pub loop_by : Bool → Bool → Bool → Bool → LoopKind
loop_by w f r z = if w then loops.While else (if f then loops.For else (if r then loops.Repeat else (if z then loops.Do else loops.Switch)))

pub loop_is : (w x : Text) (q : Place) → capitals w ≡ x →
    loop_named (tok (token (kinds.Word w) q)) ≡ loop_by (same (codes "WHILE") x) (same (codes "FOR") x) (same (codes "REPEAT") x) (same (codes "DO") x)
loop_is w x q h =
    ap (λ v. loop_by v (is_spelled (codes "FOR") w) (is_spelled (codes "REPEAT") w) (is_spelled (codes "DO") w)) (is_other (codes "WHILE") x w h)
    ∙ ap (λ v. loop_by (same (codes "WHILE") x) v (is_spelled (codes "REPEAT") w) (is_spelled (codes "DO") w)) (is_other (codes "FOR") x w h)
    ∙ ap (λ v. loop_by (same (codes "WHILE") x) (same (codes "FOR") x) v (is_spelled (codes "DO") w)) (is_other (codes "REPEAT") x w h)
    ∙ ap (λ v. loop_by (same (codes "WHILE") x) (same (codes "FOR") x) (same (codes "REPEAT") x) v) (is_other (codes "DO") x w h)

-- a loop's word
a_kind : {a b : Tokens} {y : Token} (x : Text) (k : LoopKind) → loop_by (same (codes "WHILE") x) (same (codes "FOR") x) (same (codes "REPEAT") x) (same (codes "DO") x) ≡ k →
    Spelled x a b y → s.Kind a b k → s.Kind a b (loop_named (tok y))
a_kind x k h (spelled {w = w} {p = q} {ts = ts} e) c = subst (λ v. s.Kind (token (kinds.Word w) q ∷ ts) ts v) (sym (loop_is w x q e ∙ h)) c

an_edit : {a i j k b : Tokens} {y : Token} {z : ℤ} → Choice (codes "I") (codes "L") a i y → Sign signs.Open i j → Number j k z → Sign signs.Close k b → s.Edit a b (width_edit (tok y) z)
an_edit {b = b} {z = z} (this (spelled {w = w} {p = q} {ts = ts} h)) o c r =
    subst (λ v. s.Edit (token (kinds.Word w) q ∷ ts) b (if v then edits.Whole z else edits.Truth z)) (sym (is_other (codes "I") (codes "I") w h)) (s.Edit.whole (word h) o c r)
an_edit {b = b} {z = z} (that (spelled {w = w} {p = q} {ts = ts} h)) o c r =
    subst (λ v. s.Edit (token (kinds.Word w) q ∷ ts) b (if v then edits.Whole z else edits.Truth z)) (sym (is_other (codes "I") (codes "L") w h)) (s.Edit.truth (word h) o c r)

leaving_body : {a i j b : Tokens} {y : Token} {k : ℕ} {l : Option LoopKind} → Choice (codes "BREAK") (codes "NEXT") a i y → s.Leaving i j k l → Stop j b → s.Body a b (left (tok y) k l)
leaving_body {b = b} {k = k} {l = l} (this (spelled {w = w} {p = q} {ts = ts} h)) c r =
    subst (λ v. s.Body (token (kinds.Word w) q ∷ ts) b (if v then efl.Next k l else efl.Break k l)) (sym (is_other (codes "NEXT") (codes "BREAK") w h)) (s.break_ (word h) c r)
leaving_body {b = b} {k = k} {l = l} (that (spelled {w = w} {p = q} {ts = ts} h)) c r =
    subst (λ v. s.Body (token (kinds.Word w) q ∷ ts) b (if v then efl.Next k l else efl.Break k l)) (sym (is_other (codes "NEXT") (codes "NEXT") w h)) (s.next (word h) c r)

-- ---- lines before parts ----

lines_before_statement : {a b c : Tokens} {x : EflStmt} → Lines a b → s.Statement b c x → s.Statement a c x
lines_before_statement l (s.statement k q) = s.statement (joined_lines l k) q

lines_before_statements : {a m b : Tokens} {xs : EflStmts} → Lines a m → Lined s.Statements m b xs → Lined s.Statements a b xs
lines_before_statements {a} l q = before q.1 l q.2
  where
    before : {a m k b : Tokens} {xs : EflStmts} → s.Statements m k xs → Lines a m → Lines k b → Lined s.Statements a b xs
    before {a} s.no_statement l r = (a, s.no_statement, joined_lines l r)
    before {k = k} (s.listed j c x xs) l r = (k, s.listed (joined_lines l j) c x xs, r)

lines_before_clauses : {a m b : Tokens} {xs : EflCases} → Lines a m → Lined s.Clauses m b xs → Lined s.Clauses a b xs
lines_before_clauses {a} l q = before q.1 l q.2
  where
    before : {a m k b : Tokens} {xs : EflCases} → s.Clauses m k xs → Lines a m → Lines k b → Lined s.Clauses a b xs
    before {a} s.no_clause l r = (a, s.no_clause, joined_lines l r)
    before {k = k} (s.case j w zs c ss cs) l r = (k, s.case (joined_lines l j) w zs c ss cs, r)
    before {k = k} (s.default j w c ss cs) l r = (k, s.default (joined_lines l j) w c ss cs, r)

lines_before_listing : {Kind : Part EflDeclKind} {a m b : Tokens} {ds : List EflDecl} {ss : EflStmts} → Lines a m → Listing Kind m b (ds, ss) → Listing Kind a b (ds, ss)
lines_before_listing {Kind} {a} {b = b} l q = before q.2 q.3 q.4 l
  where
    before : {a m k i b : Tokens} {ds : List EflDecl} {ss : EflStmts} → Several (d.Decl Kind) m k ds → s.Statements k i ss → Lines i b → Lines a m → Listing Kind a b (ds, ss)
    before {a} Several.none xs r l = let z : _ = lines_before_statements l (_, xs, r) in (a, z.0, Several.none, z.1, z.2)
    before {k = k} {i = i} (Several.more (d.decl j c) ds) xs r l = (k, i, Several.more (d.decl (joined_lines l j) c) ds, xs, r)

lines_before_procedures : {a m b : Tokens} {xs : List EflProcedure} → Lines a m → Lined (Several u.Procedure) m b xs → Lined (Several u.Procedure) a b xs
lines_before_procedures {a} l q = before q.1 l q.2
  where
    before : {a m k b : Tokens} {xs : List EflProcedure} → Several u.Procedure m k xs → Lines a m → Lines k b → Lined (Several u.Procedure) a b xs
    before {a} Several.none l r = (a, Several.none, joined_lines l r)
    before {k = k} (Several.more (u.procedure j c st ds ss i w z) xs) l r = (k, Several.more (u.procedure (joined_lines l j) c st ds ss i w z) xs, r)

-- ---- lists ----

labelled : {a m b : Tokens} {x : Text} {y : EflStmt} → Name a m x → {k : Tokens} → Sign signs.Colon m k → Item k b y → Item a b (with_label x y)
labelled q c (item l k) = item (s.label q c l) k

named_item : {a m b : Tokens} {x : Text} (q : Place) → q ≡ place_at a → Name a m x → (o : NamedRest) → SaysNamed m b o → Reads (reading n.Listed) a b (begun q x (view_named o))
named_item q h c (inl y) r = (with_label _ y, refl, (r.2.0, labelled c r.1 r.2.1, r.2.2))
named_item {a} {b = b} {x = x} q h c (inr y) r =
    (acted q x y, refl, (b, subst (λ z. Item a b (efl.Statement [] z (efl.Act (completed x y)))) (sym h) (item s.Labels.none (s.act (r.1 a x c) r.2)), Lines.none))

item_statement : {a m b : Tokens} {x : EflStmt} {xs : EflStmts} → Lined Item a m x → Lined s.Statements m b xs → Lined s.Statements a b (AndStmt x xs)
item_statement {a} q k = with_items q.1 (lines_before_statements q.2 k)
  where
    with_items : {a m b : Tokens} {x : EflStmt} {xs : EflStmts} → Item a m x → Lined s.Statements m b xs → Lined s.Statements a b (AndStmt x xs)
    with_items (item l k) r = (r.0, s.listed Lines.none l k r.1, r.2)

body_item : {a m b : Tokens} {k : EflKind} (q : Place) → q ≡ place_at a → s.Body a m k → Lines m b → Lined Item a b (efl.Statement [] q k)
body_item {a} {m} {k = k} q h c l = (m, subst (λ z. Item a m (efl.Statement [] z k)) (sym h) (item s.Labels.none c), l)

no_decls : {Kind : Part EflDeclKind} {a b : Tokens} {ss : EflStmts} → Lined s.Statements a b ss → Listing Kind a b ([], ss)
no_decls {a = a} q = (a, q.0, Several.none, q.1, q.2)

more_decls : {Kind : Part EflDeclKind} {a m b : Tokens} {k : EflDeclKind} {ds : List EflDecl} {ss : EflStmts} (q : Place) → q ≡ place_at a → Kind a m k → Listing Kind m b (ds, ss) →
    Listing Kind a b (record { kind = k; place = q } ∷ ds, ss)
more_decls {Kind} {a} {k = k} {ds = ds} q h c r =
    (r.0, r.1, subst (λ z. Several (d.Decl Kind) a r.0 (record { kind = k; place = z } ∷ ds)) (sym h) (Several.more (d.decl Lines.none c) r.2), r.3, r.4)

-- what stands behind a name begins lists
opened_lists : {Kind : Part EflDeclKind} → ((g h : Tokens) (k : EflDeclKind) → d.Declaration g h k → Kind g h k) → {a m b : Tokens} {x : Text} (q : Place) → q ≡ place_at a → Name a m x → (o : part.Opening) →
    Opened Kind m b o → (y : List EflDecl × EflStmts) × (opened q x (val.opening o) ≡ val.lists y.0 y.1) × Listing Kind a b y
opened_lists lift {a} {x = x} q h c (part.Declares vs ds ss) r =
    ((record { kind = Variables None (Named x) vs; place = q } ∷ ds, ss), refl, more_decls q h (lift a r.1 (Variables None (Named x) vs) (d.variables (d.AType.named (d.NamedType.name c)) r.2 r.3)) r.4)
opened_lists lift {a} {x = x} q h c (part.Begins y ss) r =
    (([], AndStmt (acted q x y) ss), refl, no_decls (item_statement (body_item q h (s.act (r.2 a x c) r.3) Lines.none) r.4))
opened_lists lift {x = x} q h c (part.Labels y ss) r =
    (([], AndStmt (with_label x y) ss), refl, no_decls (item_statement (r.3.0, labelled c r.2 r.3.1, r.3.2) r.4))

named_begins : {Kind : Part EflDeclKind} {a m b : Tokens} {ss : EflStmts} (o : NamedRest) → SaysNamed a m o → Lined s.Statements m b ss →
    (y : part.Opening) × (val.opening (begins (view_named o) ss) ≡ val.opening y) × Opened Kind a b y
named_begins {m = m} {ss = ss} (inl x) q r = (part.Labels x ss, refl, (q.0, m, q.1, q.2, r))
named_begins {m = m} {ss = ss} (inr x) q r = (part.Begins x ss, refl, (q.0, m, q.1, q.2, r))

-- ---- else and until ----

-- a body, with the place of its first token
placed : {a m b : Tokens} {k : EflKind} (q : Place) → q ≡ place_at a → s.Body a m k → Lines m b → Reads (reading n.Unnamed) a b (val.stmt (efl.Statement [] q k))
placed {m = m} {k = k} q h c l = ((q, k), refl, (h, (m, c, l)))

chosen : {a i j k b : Tokens} {f : EflExpr} {x : EflStmt} (q : Place) (o : Option EflStmt) → q ≡ place_at a → Word (codes "IF") a i → e.Condition i j f → Lined s.Statement j k x → Else k b o →
    Reads (reading n.Unnamed) a b (val.stmt (efl.Statement [] q (conditional f x (perhaps (λ y. val.stmt y) o))))
chosen q o h w c r (missing l n g) = placed q h (s.if_ w c r.1 (follows_no (codes "ELSE") (joined_lines r.2 l) n g)) (joined_lines r.2 l)
chosen q o h w c r (present l v k) = placed q h (s.if_else w c r.1 (joined_lines r.2 l) v k.1) k.2

turned : {a i k b : Tokens} {x : EflStmt} (q : Place) (o : Option (Place × EflExpr)) → q ≡ place_at a → Word (codes "REPEAT") a i → Lined s.Statement i k x → Until k b o →
    Reads (reading n.Unnamed) a b (val.stmt (efl.Statement [] q (repetition x (perhaps (λ y. val.located y.0 y.1) o))))
turned q o h w r (missing l n g) = placed q h (s.repeat w r.1 (follows_no (codes "UNTIL") (joined_lines r.2 l) n g)) (joined_lines r.2 l)
turned {a} {b = b} {x = x} q o h w r (present {y = y} l v k) =
    placed q h (subst (λ z. s.Body a b (efl.RepeatUntil x y.1 z)) (sym k.3) (s.repeat_until w r.1 (joined_lines r.2 l) v k.1 k.2)) Lines.none

body_statement : {a m b : Tokens} {k : EflKind} (q : Place) → q ≡ place_at a → s.Body a m k → Lines m b → Lined s.Statement a b (efl.Statement [] q k)
body_statement {a} {m} {k = k} q h c l = (m, subst (λ z. s.Statement a m (efl.Statement [] z k)) (sym h) (s.statement Lines.none c), l)

a_procedure : {a i k l m b : Tokens} {z : Option EflType} {x : Option Text} {xs : List Text} {ds : List EflDecl} {ss : EflStmts} (q r : Place) → q ≡ place_at a → u.Header a i z x xs → Stop i k →
    Listing d.OuterDeclaration k l (ds, ss) → r ≡ place_at l → Word (codes "END") l m → Stop m b →
    u.Procedure a b (record { result = z; name = x; formals = xs; declarations = ds; body = ss; place = q; finish = r })
a_procedure {a} {b = b} {z = z} {x = x} {xs = xs} {ds = ds} {ss = ss} q r h c st y g w v =
    subst (λ o. u.Procedure a b (record { result = z; name = x; formals = xs; declarations = ds; body = ss; place = o; finish = r })) (sym h)
    (subst (λ o. u.Procedure a b (record { result = z; name = x; formals = xs; declarations = ds; body = ss; place = place_at a; finish = o })) (sym g)
    (u.procedure Lines.none c st y.2 y.3 y.4 w v))

leaving_count : {a b c : Tokens} {k : ℕ} {o : Option LoopKind} → Natural a b k → Perhaps s.Kind b c o → s.Leaving a c k o
leaving_count c q = s.Leaving.number c q

more_clauses_read : {a m b : Tokens} {f : EflCases → EflCases} {xs : EflCases} → Lined (λ g h y. (c : Tokens) (cs : EflCases) → s.Clauses h c cs → s.Clauses g c (y cs)) a m f → Lined s.Clauses m b xs →
    Lined s.Clauses a b (f xs)
more_clauses_read {xs = xs} q r = let z : _ = lines_before_clauses q.2 r in (z.0, q.1 z.0 xs z.1, z.2)

case_read : {a i j k b : Tokens} {zs : List ℤ} {ss : EflStmts} (q : Place) → q ≡ place_at a → Word (codes "CASE") a i → Listed Whole i j zs → Sign signs.Colon j k → s.Statements k b ss →
    (c : Tokens) (cs : EflCases) → s.Clauses b c cs → s.Clauses a c (efl.AndCase zs false ss q cs)
case_read {a} {zs = zs} {ss = ss} q h w l o xs c cs r = subst (λ z. s.Clauses a c (efl.AndCase zs false ss z cs)) (sym h) (s.case Lines.none w l o xs r)

default_read : {a i k b : Tokens} {ss : EflStmts} (q : Place) → q ≡ place_at a → Word (codes "DEFAULT") a i → Sign signs.Colon i k → s.Statements k b ss →
    (c : Tokens) (cs : EflCases) → s.Clauses b c cs → s.Clauses a c (efl.AndCase [] true ss q cs)
default_read {a} {ss = ss} q h w o xs c cs r = subst (λ z. s.Clauses a c (efl.AndCase [] true ss z cs)) (sym h) (s.default Lines.none w o xs r)

pub deed_open : Step p.DeedOpen
unfolding built
deed_open a h = λ y m r q b t. (q, refl, λ g x k. t g a x k (sole r))

pub deed_place : Step p.DeedPlace
unfolding built
deed_place a h = λ ss m c y b q. (with_steps ss (bare (part.Stored y.0 y.1)), refl, λ g x k. e.stored (e.path k e.no_subs c) q.1 q.2)

pub deed_empty : Step p.DeedEmpty
unfolding built
deed_empty a h = λ y b r. (bare (part.Called []), refl, λ g h x q o. e.called q o (sole r))

pub deed_full : Step p.DeedFull
unfolding built
deed_full a h = λ es m c y k r q b t. (with_arguments es q, refl, λ g h x z o. t g h x es z (e.subs o c (sole r)))

pub deed_stored : Step p.DeedStored
unfolding built
deed_stored a h = λ ss m c y b q. (with_steps ss (bare (part.Stored y.0 y.1)), refl, λ g h x es k o. e.stored (e.path k (e.some_subs o) c) q.1 q.2)

pub deed_called : Step p.DeedCalled
unfolding built
deed_called a h = (bare (part.Called []), refl, λ g h x es k o. e.called_with k o)

pub step_deed : Step p.StepDeed
unfolding built
step_deed a h = λ y m r s b c. ((y.place, stepped (tok y) s), refl, (place_of r, a_step (either r) c))

pub named_part : Step p.NamedPart
unfolding built
named_part a h = λ y m q r b t. (val.expr (completed (name_in (tok y)) r), refl, Perhaps.some (t a (name_in (tok y)) q.1))

pub stepped_part : Step p.SteppedPart
unfolding built
stepped_part a h = λ y b q. (val.located y.0 y.1, refl, Perhaps.some (e.stepped q.1))

pub no_part : Step p.NoPart
unfolding built
no_part a h = (nothing, refl, Perhaps.none)

pub comma_separator : Step p.CommaSeparator
unfolding built
comma_separator a h = λ y b r. (tok y, refl, s.Sep.comma (sole r))

pub sign_separator : Step p.SignSeparator
unfolding built
sign_separator a h = λ y b r. (tok y, refl, s.Sep.semicolon (sole r))

pub some_whole : Step p.SomeWhole
unfolding built
some_whole a h = λ f b c. (val.expr f, refl, Perhaps.some c)

pub no_whole : Step p.NoWhole
unfolding built
no_whole a h = (nothing, refl, Perhaps.none)

pub some_step : Step p.SomeStep
unfolding built
some_step a h = λ y m r f b c. (val.expr f, refl, Perhaps.some (s.Comma.comma (sole r) c))

pub no_step : Step p.NoStep
unfolding built
no_step a h = (nothing, refl, Perhaps.none)

pub one_line : Step p.OneLine
unfolding built
one_line a h = λ y m r v b l. (v, refl, Lines.line (sole r) l)

pub no_line : Step p.NoLine
unfolding built
no_line a h = (nothing, refl, Lines.none)

pub condition : Step p.Condition
unfolding built
condition a h = λ y m r f k c z b s. (f, refl, e.condition (sole r) c (sole s))

pub some_outcome : Step p.SomeOutcome
unfolding built
some_outcome a h = λ f b c. (val.expr f, refl, Perhaps.some c)

pub no_outcome : Step p.NoOutcome
unfolding built
no_outcome a h = (nothing, refl, Perhaps.none)

pub count_first : Step p.CountFirst
unfolding built
count_first a h = λ y m r v b q. ((number_in (tok y), loop_of v), refl, leaving_count (Natural.natural (taken.number r)) q)

pub kind_first : Step p.KindFirst
unfolding built
kind_first a h = λ y m q v b t. ((count_or_one v, Some (loop_named (tok y))), refl, t a (loop_named (tok y)) q)

pub bare_leaving : Step p.BareLeaving
unfolding built
bare_leaving a h = ((1, None), refl, s.Leaving.bare)

pub some_kind : Step p.SomeKind
unfolding built
some_kind a h = λ y b q. (tok y, refl, Perhaps.some q)

pub no_kind : Step p.NoKind
unfolding built
no_kind a h = (nothing, refl, Perhaps.none)

pub some_count : Step p.SomeCount
unfolding built
some_count a h = λ y b r. (tok y, refl, λ g k q. s.kind_number q (Natural.natural (taken.number r)))

pub no_count : Step p.NoCount
unfolding built
no_count a h = (nothing, refl, λ g k q. s.Leaving.kind q)

pub while_kind : Step p.WhileKind
unfolding built
while_kind a h = λ y b r. (y, refl, a_kind (codes "WHILE") loops.While refl (spelling r) (s.Kind.while (word_of r)))

pub for_kind : Step p.ForKind
unfolding built
for_kind a h = λ y b r. (y, refl, a_kind (codes "FOR") loops.For refl (spelling r) (s.Kind.for (word_of r)))

pub repeat_kind : Step p.RepeatKind
unfolding built
repeat_kind a h = λ y b r. (y, refl, a_kind (codes "REPEAT") loops.Repeat refl (spelling r) (s.Kind.repeat (word_of r)))

pub do_kind : Step p.DoKind
unfolding built
do_kind a h = λ y b r. (y, refl, a_kind (codes "DO") loops.Do refl (spelling r) (s.Kind.do_ (word_of r)))

pub switch_kind : Step p.SwitchKind
unfolding built
switch_kind a h = λ y b r. (y, refl, a_kind (codes "SWITCH") loops.Switch refl (spelling r) (s.Kind.switch (word_of r)))

pub more_write : Step p.MoreWrite
unfolding built
more_write a h = λ y m r x k c xs b t. (x ∷ xs, refl, Several.more (s.Comma.comma (sole r) c) t)

pub no_more_write : Step p.NoMoreWrite
unfolding built
no_more_write a h = ([], refl, Several.none)

pub value_item : Step p.ValueItem
unfolding built
value_item a h = λ f m c y k r x b q. (efl.Value f x, refl, s.value c (sole r) q)

pub skip_write : Step p.SkipWrite
unfolding built
skip_write a h = λ y m r z k x o i c v j n w b q. (efl.WriteItem.Skip (integer_in (tok v)), refl, s.WriteItem.skip (s.Skip.skip (sole r) (taken.skip_word x) (sole c) (taken.number n) (sole q)))

pub chars_item : Step p.CharsItem
unfolding built
chars_item a h = λ y b r. (efl.Chars (text_in (tok y)), refl, taken.quoted r)

pub more_read : Step p.MoreRead
unfolding built
more_read a h = λ y m r x k c xs b t. (x ∷ xs, refl, Several.more (s.Comma.comma (sole r) c) t)

pub no_more_read : Step p.NoMoreRead
unfolding built
no_more_read a h = ([], refl, Several.none)

pub take_item : Step p.TakeItem
unfolding built
take_item a h = λ f m c y k r x b q. (efl.Take f x, refl, s.take c (sole r) q)

pub skip_read : Step p.SkipRead
unfolding built
skip_read a h = λ y m r z k x o i c v j n w b q. (efl.ReadItem.Skip (integer_in (tok v)), refl, s.ReadItem.skip (s.Skip.skip (sole r) (taken.skip_word x) (sole c) (taken.number n) (sole q)))

pub width_edit_item : Step p.WidthEdit
unfolding built
width_edit_item a h = λ y m r z k o v j n w b q. (width_edit (tok y) (integer_in (tok v)), refl, an_edit (taken.width_word r) (sole o) (taken.number n) (sole q))

pub char_edit : Step p.CharEdit
unfolding built
char_edit a h = λ y b r. (edits.Letter, refl, s.Edit.letter (taken.char_word r))

pub statements_line : Step p.StatementsLine
unfolding built
statements_line a h = λ y m r xs b q. (xs, refl, lines_before_statements (Lines.line (sole r) Lines.none) q)

pub statements_more : Step p.StatementsMore
unfolding built
statements_more a h = λ x m q xs b k. (AndStmt x xs, refl, item_statement q k)

pub statements_done : Step p.StatementsDone
unfolding built
statements_done a h = (NoStmt, refl, (a, s.no_statement, Lines.none))

pub listed_named : Step p.ListedNamed
unfolding built
listed_named a h = λ y m q o b r. named_item y.place q.0 q.1 o r

pub listed_other : Step p.ListedOther
unfolding built
listed_other a h = λ y b q. (efl.Statement [] y.0 y.1, refl, body_item y.0 q.0 q.1.1 q.1.2)

pub label_rest : Step p.LabelRest
unfolding built
label_rest a h = λ y m r x b q. (inl x, refl, (m, sole r, q))

pub act_rest : Step p.ActRest
unfolding built
act_rest a h = λ q m c v b st. (inr q, refl, (m, c, st))

pub statement_line : Step p.StatementLine
unfolding built
statement_line a h = λ y m r x b q. (x, refl, (q.0, lines_before_statement (Lines.line (sole r) Lines.none) q.1, q.2))

pub statement_act : Step p.StatementAct
unfolding built
statement_act a h = λ y m q r k c v b st. (acted y.place (name_in (tok y)) r, refl, body_statement y.place q.0 (s.act (c a (name_in (tok y)) q.1) st) Lines.none)

pub statement_other : Step p.StatementOther
unfolding built
statement_other a h = λ y b q. (efl.Statement [] y.0 y.1, refl, body_statement y.0 q.0 q.1.1 q.1.2)

pub empty : Step p.Empty
unfolding built
empty a h = λ y b r. placed y.place (place_of r) (s.empty (sole r)) Lines.none

pub braces : Step p.Braces
unfolding built
braces a h = λ y m r x k q z b c. placed y.place (place_of r) (s.block (sole r) q.2 q.3 q.4 (sole c)) Lines.none

pub step_statement : Step p.StepStatement
unfolding built
step_statement a h = λ y m q v b st. placed y.0 q.0 (s.act (e.stepped q.1) st) Lines.none

pub if_statement : Step p.IfStatement
unfolding built
if_statement a h = λ y i r f j c x k q o b l. chosen y.place o (place_of r) (word_of r) c q l

pub while_statement : Step p.WhileStatement
unfolding built
while_statement a h = λ y i r f j c x b q. placed y.place (place_of r) (s.while (word_of r) c q.1) q.2

pub for_statement : Step p.ForStatement
unfolding built
for_statement a h = λ y i r z j o v1 k c v2 l d v3 m e1 v4 i1 g v5 i2 c1 x1 i3 d1 s1 b q. placed y.place (place_of r) (s.for (word_of r) (sole o) c d e1 g c1 (sole d1) q.1) q.2

pub repeat_statement : Step p.RepeatStatement
unfolding built
repeat_statement a h = λ y i r x k q o b l. turned y.place o (place_of r) (word_of r) q l

pub do_statement : Step p.DoStatement
unfolding built
do_statement a h = λ y i r x j c z k v f l g w m o f1 i1 g1 v1 i2 h1 x1 b q. placed y.place (place_of r) (s.do_ (word_of r) c.1 (sole v) g (sole o) g1 h1 q.1) q.2

pub switch_statement : Step p.SwitchStatement
unfolding built
switch_statement a h = λ y i r f j c v k l z m o w i1 l1 xs i2 q z1 b g. (let cs : _ = lines_before_clauses l1 q in placed y.place (place_of r) (s.switch (word_of r) c l (sole o) cs.1 cs.2 (sole g)) Lines.none)

pub leave_statement : Step p.LeaveStatement
unfolding built
leave_statement a h = λ y i r v j q w b st. placed y.place (place_of r) (leaving_body (choice r) q st) Lines.none

pub return_statement : Step p.ReturnStatement
unfolding built
return_statement a h = λ y i r v j q w b st. placed y.place (place_of r) (s.return_ (word_of r) q st) Lines.none

pub goto_statement : Step p.GotoStatement
unfolding built
goto_statement a h = λ y i r x j q w b st. placed y.place (place_of r) (s.goto (GoTo.one_word (word_of r)) q.1 st) Lines.none

pub go_to_statement : Step p.GoToStatement
unfolding built
go_to_statement a h = λ y i r z k v x j q w b st. placed y.place (place_of r) (s.goto (GoTo.two_words (word_of r) (word_of v)) q.1 st) Lines.none

pub write_statement : Step p.WriteStatement
unfolding built
write_statement a h = λ y i r z j o v k c xs l q w m x v1 b st. placed y.place (place_of r) (s.write (word_of r) (sole o) c q (sole x) st) Lines.none

pub read_statement : Step p.ReadStatement
unfolding built
read_statement a h = λ y i r z j o v k c xs l q w m x v1 b st. placed y.place (place_of r) (s.read (word_of r) (sole o) c q (sole x) st) Lines.none

pub else_line : Step p.ElseLine
unfolding built
else_line a h = λ y m r o b q. (o, refl, lines_before_word (Lines.line (sole r) Lines.none) q)

pub else_body : Step p.ElseBody
unfolding built
else_body a h = λ y m r x b q. (Some x, refl, present Lines.none (word_of r) q)

pub no_else : Step p.NoElse
unfolding built
no_else a h = (None, refl, none_there grammar p.NoElse (codes "ELSE") (λ q. refl) (λ w q g. ap (allows p.NoElse) (word_seen_as (codes "ELSE") t.Else w g refl)) a h)

pub until_line : Step p.UntilLine
unfolding built
until_line a h = λ y m r o b q. (o, refl, lines_before_word (Lines.line (sole r) Lines.none) q)

pub until_test : Step p.UntilTest
unfolding built
until_test a h = λ y m r f k c v b st. (Some (y.place, f), refl, present Lines.none (word_of r) (k, c, st, place_of r))

pub no_until : Step p.NoUntil
unfolding built
no_until a h = (None, refl, none_there grammar p.NoUntil (codes "UNTIL") (λ q. refl) (λ w q g. ap (allows p.NoUntil) (word_seen_as (codes "UNTIL") t.Until w g refl)) a h)

pub more_clauses : Step p.MoreClauses
unfolding built
more_clauses a h = λ f m q xs b r. (f xs, refl, more_clauses_read q r)

pub no_clause : Step p.NoClause
unfolding built
no_clause a h = (efl.NoCase, refl, (a, s.no_clause, Lines.none))

pub case_clause : Step p.CaseClause
unfolding built
case_clause a h = λ y m r z k c zs j t v l o ss b q. (efl.AndCase (z ∷ zs) false ss y.place, refl, (q.0, case_read y.place (place_of r) (word_of r) (t m z c) (sole o) q.1, q.2))

pub default_clause : Step p.DefaultClause
unfolding built
default_clause a h = λ y m r v l o ss b q. (efl.AndCase [] true ss y.place, refl, (q.0, default_read y.place (place_of r) (word_of r) (sole o) q.1, q.2))

pub more_integral : Step p.MoreIntegral
unfolding built
more_integral a h = λ y m r x k c xs b t. (x ∷ xs, refl, λ g z q. Listed.comma q (sole r) (t m x c))

pub no_more_integral : Step p.NoMoreIntegral
unfolding built
no_more_integral a h = ([], refl, λ g z q. Listed.last q)

pub outer_line : Step p.OuterLine
unfolding built
outer_line a h = λ y m r x b q. (x, refl, lines_before_listing {Kind = d.OuterDeclaration} (Lines.line (sole r) Lines.none) q)

pub outer_declaration : Step p.OuterDeclaration
unfolding built
outer_declaration a h = λ y m q x b r. ((record { kind = y.1; place = y.0 } ∷ x.0, x.1), refl, more_decls {Kind = d.OuterDeclaration} y.0 q.0 (d.declaration q.1) r)

pub outer_named : Step p.OuterNamed
unfolding built
outer_named a h = λ y m q o b r. opened_lists {Kind = d.OuterDeclaration} (λ g h k c. d.declaration c) y.place q.0 q.1 o r

pub outer_statement : Step p.OuterStatement
unfolding built
outer_statement a h = λ y m q xs b r. (([], AndStmt (efl.Statement [] y.0 y.1) xs), refl, no_decls {Kind = d.OuterDeclaration} (item_statement (body_item y.0 q.0 q.1.1 q.1.2) r))

pub outer_done : Step p.OuterDone
unfolding built
outer_done a h = (([], NoStmt), refl, no_decls {Kind = d.OuterDeclaration} (a, s.no_statement, Lines.none))

pub outer_variables : Step p.OuterVariables
unfolding built
outer_variables a h = λ vs m c v k st x b r. (part.Declares vs x.0 x.1, refl, (m, k, c, st, r))

pub outer_item : Step p.OuterItem
unfolding built
outer_item a h = λ o m q xs b r. named_begins {Kind = d.OuterDeclaration} o q r

pub inner_line : Step p.InnerLine
unfolding built
inner_line a h = λ y m r x b q. (x, refl, lines_before_listing {Kind = d.Declaration} (Lines.line (sole r) Lines.none) q)

pub inner_declaration : Step p.InnerDeclaration
unfolding built
inner_declaration a h = λ y m q x b r. ((record { kind = y.1; place = y.0 } ∷ x.0, x.1), refl, more_decls {Kind = d.Declaration} y.0 q.0 (q.1) r)

pub inner_named : Step p.InnerNamed
unfolding built
inner_named a h = λ y m q o b r. opened_lists {Kind = d.Declaration} (λ g h k c. c) y.place q.0 q.1 o r

pub inner_statement : Step p.InnerStatement
unfolding built
inner_statement a h = λ y m q xs b r. (([], AndStmt (efl.Statement [] y.0 y.1) xs), refl, no_decls {Kind = d.Declaration} (item_statement (body_item y.0 q.0 q.1.1 q.1.2) r))

pub inner_done : Step p.InnerDone
unfolding built
inner_done a h = (([], NoStmt), refl, no_decls {Kind = d.Declaration} (a, s.no_statement, Lines.none))

pub inner_variables : Step p.InnerVariables
unfolding built
inner_variables a h = λ vs m c v k st x b r. (part.Declares vs x.0 x.1, refl, (m, k, c, st, r))

pub inner_item : Step p.InnerItem
unfolding built
inner_item a h = λ o m q xs b r. named_begins {Kind = d.Declaration} o q r

pub outer_implicit : Step p.OuterImplicit
unfolding built
outer_implicit a h = λ y m r z k o x i c xs j t w l s v n st y1 b q. ((record { kind = Implicit (x ∷ xs) v.1; place = y.place } ∷ y1.0, y1.1), refl, more_decls {Kind = d.OuterDeclaration} y.place (place_of r) (st a (x ∷ xs) (d.ImplicitRanges.implicit (word_of r) (sole o) (t k x c) (sole s))) q)

pub outer_common : Step p.OuterCommon
unfolding built
outer_common a h = λ y m r z k o x i c w l s v n st y1 b q. ((record { kind = shared (name_in (tok x)) v; place = y.place } ∷ y1.0, y1.1), refl, more_decls {Kind = d.OuterDeclaration} y.place (place_of r) (st a (name_in (tok x)) (d.CommonName.common (word_of r) (sole o) c.1 (sole s))) q)

pub whole : Step p.Whole
unfolding built
whole a h = λ us m q y b r. (record { procedures = us; finish = y.place }, refl, (q.0, m, q.1, q.2, sole r, place_of r))

pub blank_line : Step p.BlankLine
unfolding built
blank_line a h = λ y m r us b q. (us, refl, lines_before_procedures (Lines.line (sole r) Lines.none) q)

pub more_procedures : Step p.MoreProcedures
unfolding built
more_procedures a h = λ x m q xs b r. (x ∷ xs, refl, (r.0, Several.more q r.1, r.2))

pub no_procedure : Step p.NoProcedure
unfolding built
no_procedure a h = ([], refl, (a, Several.none, Lines.none))

pub one_procedure : Step p.OneProcedure
unfolding built
one_procedure a h = λ x m q v k st y l r z i w v1 b s1. (record { result = x.1; name = x.2; formals = x.3; declarations = y.0; body = y.1; place = x.0; finish = z.place }, refl, a_procedure x.0 z.place q.0 q.1 st r (place_of w) (word_of w) s1)

pub typed_header : Step p.TypedHeader
unfolding built
typed_header a h = λ y m q z k w x i c xs b f. ((y.0, Some y.1, Some (name_in (tok x)), xs), refl, (q.0, u.named (Perhaps.some q.1) (word_of w) c.1 f))

pub plain_header : Step p.PlainHeader
unfolding built
plain_header a h = λ y m r x b t. ((y.place, None, x.0, x.1), refl, (place_of r, t a (word_of r)))

pub named_heading : Step p.NamedHeading
unfolding built
named_heading a h = λ x m c xs b f. ((Some (name_in (tok x)), xs), refl, λ g w. u.named Perhaps.none w c.1 f)

pub main_heading : Step p.MainHeading
unfolding built
main_heading a h = ((None, []), refl, λ g w. u.main w)

pub some_formals : Step p.SomeFormals
unfolding built
some_formals a h = λ y m r xs k t z b s. (xs, refl, t a b (sole r) (sole s))

pub no_formals : Step p.NoFormals
unfolding built
no_formals a h = ([], refl, u.Formals.none)

pub some_names : Step p.SomeNames
unfolding built
some_names a h = λ x m c xs b t. (name_in (tok x) ∷ xs, refl, λ g h o s. u.Formals.some o (t a (name_in (tok x)) c.1) s)

pub no_names : Step p.NoNames
unfolding built
no_names a h = ([], refl, λ g h o s. u.Formals.empty o s)

pub more_formal : Step p.MoreFormal
unfolding built
more_formal a h = λ y m r x k c xs b t. (name_in (tok x) ∷ xs, refl, λ g z q. Listed.comma q (sole r) (t m (name_in (tok x)) c.1))

pub no_more_formal : Step p.NoMoreFormal
unfolding built
no_more_formal a h = ([], refl, λ g z q. Listed.last q)
