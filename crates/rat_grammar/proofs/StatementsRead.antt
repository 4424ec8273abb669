-- What the table reads as a statement is one of the published grammar, with lines behind it that the table takes too.
use Rattle.std.proofs.Common.{◌≡◌, ℕ, true, false, [], ◌∷◌, Option, None, Some, refl, sym, subst, ap, ◌∙◌, if◌then◌else◌}
use Rattle.std.specs.Prelude.{codes}
use Rattle.ground.specs.declared.place.Place.{Place}
use Rattle.ground.specs.declared.token.Token.{Token}
use Rattle.f66_tree.specs.Syntax as f66
use Rattle.f66_tree.specs.Syntax.{Text, Formula, Act}
use Rattle.f66_tree.specs.Views.{chained}
use Rattle.rat_tree.specs.Syntax as tree
use Rattle.rat_tree.specs.Syntax.{Command, Commands}
use Rattle.rat_parse_table.specs.declared.table.Terminal.{Terminal}
use Rattle.rat_parse_table.specs.declared.table.Terminal.TheVariants as t
use Rattle.rat_parse_table.specs.declared.table.Nonterminal.TheVariants as n
use Rattle.rat_parse_table.specs.declared.table.Production.TheVariants as p
use Rattle.rat_parse_table.specs.Table.{allows}
use Rattle.rat_parse_table.specs.Words.{seen}
use Rattle.rat_parse_values.specs.Values.{Val, tok, nothing, command, deed, formula}
use Rattle.rat_parse_values.specs.Values as val
use Rattle.rat_parse_values.specs.Parts.{name_in, number_in, act_part, formula_part, count_or_one, type_word}
use Rattle.rat_parse_values.specs.Statements.{conditional, repetition, with_own_label, left}
use Rattle.rat_parse.specs.Ratfor.{grammar}
use Rattle.rat_grammar.specs.Tokens.{Perhaps, Tokens, Word, word, Lines, Stop, place_at}
use Rattle.rat_grammar.specs.Expressions as e
use Rattle.rat_grammar.specs.Declarations as d
use Rattle.rat_grammar.specs.Plain as pl
use Rattle.rat_grammar.specs.Statements as s
use Rattle.rat_grammar.proofs.LineLemmas.{joined_lines, follows_no}
use Rattle.rat_grammar.proofs.Parts.{Lined, present, missing, lines_before_word}
use Rattle.rat_grammar.proofs.Standing.{known, place_of, sole, word_of, spelled, Choice, this, that, choice}
use Rattle.rat_grammar.proofs.ReservedWords.{untrue, is_other}
use Rattle.rat_grammar.proofs.TokenLemmas.{Is, seen_is, word_seen_as}
use Rattle.rat_grammar.proofs.Derivations.{Reads, none_there}
use Rattle.rat_grammar.proofs.Readings.{Else, Until, perhaps, reading}
use Rattle.rat_grammar.proofs.Steps.{Step, Allowed}
use Rattle.rat_grammar.proofs.StatementLemmas.{lines_before_statement, lines_before_statements, lines_before_clauses, own_label}

-- a body, with the place of its first token
placed : {a m b : Tokens} (c : Place → Command) (q : Place) → q ≡ place_at a → s.Body a m (c (place_at a)) → Lines m b → Reads (reading n.Untyped) a b (command q (c q))
placed {a} {m} c q h k l = ((q, c q), refl, (h, (m, subst (λ z. s.Body a m (c z)) (sym h) k, l)))

-- ---- statements and lists of them ----

pub statement_line : Step p.StatementLine
statement_line a h = λ y m r x b q. (x, refl, (q.0, lines_before_statement (Lines.line (sole r) Lines.none) q.1, q.2))

pub statement_item : Step p.StatementItem
statement_item a h = λ x b q. (x, refl, q)

pub statements_line : Step p.StatementsLine
statements_line a h = λ y m r xs b q. (xs, refl, lines_before_statements (Lines.line (sole r) Lines.none) q)

pub joined_statements : {a m b : Tokens} {x : Command} {xs : Commands} → Lined s.Statement a m x → Lined s.Statements m b xs → Lined s.Statements a b (tree.AndCommand x xs)
joined_statements q k = let r : _ = lines_before_statements q.2 k in (r.0, s.Statements.more q.1 r.1, r.2)

pub statements_more : Step p.StatementsMore
statements_more a h = λ x m q xs b k. (tree.AndCommand x.1 xs, refl, joined_statements q k)

pub statements_done : Step p.StatementsDone
statements_done a h = (tree.NoCommand, refl, (a, s.Statements.none, Lines.none))

marked : {a m b : Tokens} {x : Command} (k : ℕ) (q : Place) → d.Natural a m k → q ≡ place_at m → Lined s.Body m b x → Lined s.Statement a b (with_own_label k q x)
marked {a} {m} {b} {x} k q c h r =
    (r.0, subst (λ z. s.Statement a r.0 z) (sym (own_label k q r.1 ∙ ap (λ z. s.labelled k z x) h)) (s.marked Lines.none c r.1), r.2)

pub marked_item : Step p.Marked
marked_item a h = λ y m c x b q. ((x.0, with_own_label (number_in (tok y)) x.0 x.1), refl, marked (number_in (tok y)) x.0 (d.natural c.1) q.0 q.1)

pub unmarked : Step p.Unmarked
unmarked a h = λ x b q. (x, refl, (q.1.0, s.bare Lines.none q.1.1, q.1.2))

pub typed_bare : Step p.TypedBare
typed_bare a h = λ y m c ds k q v b r. placed (λ z. tree.Plain None z (f66.Typed (type_word (tok y)) ds)) y.place c.0 (s.plain (pl.typed c.1 q) r) Lines.none

pub untyped_bare : Step p.UntypedBare
untyped_bare a h = λ x b q. (x, refl, q)

pub empty : Step p.Empty
empty a h = λ y b r. placed (λ z. tree.Empty z) y.place (place_of r) (s.empty (sole r)) Lines.none

pub braces : Step p.Braces
braces a h = λ y m r xs k q z b c. placed (λ w. tree.Block w xs) y.place (place_of r) (s.block (sole r) q.1 q.2 (sole c)) Lines.none

-- ---- if, while, for, repeat ----

chosen : {a i j k b : Tokens} {f : Formula} {x : Command} (q : Place) (o : Option (Place × Command)) → q ≡ place_at a → Word (codes "IF") a i → e.Condition i j f →
    Lined s.Statement j k x → Else k b o → Reads (reading n.Untyped) a b (command q (conditional q f x (perhaps (λ y. command y.0 y.1) o)))
chosen {f = f} {x = x} q o h w c r (missing l n g) = placed (λ z. tree.If z f x) q h (s.if_ w c r.1 (follows_no (codes "ELSE") (joined_lines r.2 l) n g)) (joined_lines r.2 l)
chosen {f = f} {x = x} q o h w c r (present {y = y} l v k) = placed (λ z. tree.IfElse z f x y.1) q h (s.if_else w c r.1 (joined_lines r.2 l) v k.1) k.2

pub if_statement : Step p.IfStatement
if_statement a h = λ y i r f j c x k q o b l. chosen y.place o (place_of r) (word_of r) c q l

pub while_statement : Step p.WhileStatement
while_statement a h = λ y i r f j c x b q. placed (λ z. tree.While z f x.1) y.place (place_of r) (s.while (word_of r) c q.1) q.2

pub for_statement : Step p.ForStatement
for_statement a h = λ y i r z j o u k c v l d w m e x i1 g v1 i2 c1 x1 i3 d1 s1 b q.
    placed (λ z1. tree.For z1 (act_part u) (formula_part w) (act_part v1) s1.1) y.place (place_of r)
    (s.for (word_of r) (sole o) c (sole d) e (sole g) c1 (sole d1) q.1) q.2

turned : {a i k b : Tokens} {x : Command} (q : Place) (o : Option (Place × Formula)) → q ≡ place_at a → Word (codes "REPEAT") a i → Lined s.Statement i k x → Until k b o →
    Reads (reading n.Untyped) a b (command q (repetition q x (perhaps (λ y. val.located y.0 y.1) o)))
turned {x = x} q o h w r (missing l n g) = placed (λ z. tree.Repeat z x) q h (s.repeat w r.1 (follows_no (codes "UNTIL") (joined_lines r.2 l) n g)) (joined_lines r.2 l)
turned {a} {b = b} {x = x} q o h w r (present {y = y} l v k) =
    placed (λ z. tree.RepeatUntil z x y.1 y.0) q h
    (subst (λ z. s.Body a b (tree.RepeatUntil (place_at a) x y.1 z)) (sym k.3) (s.repeat_until w r.1 (joined_lines r.2 l) v k.1 k.2)) Lines.none

pub repeat_statement : Step p.RepeatStatement
repeat_statement a h = λ y i r x k q o b l. turned y.place o (place_of r) (word_of r) q l

pub do_statement : Step p.DoStatement
do_statement a h = λ y i r x j c z k v w l g u b q.
    placed (λ z1. tree.Do z1 (name_in (tok x)) w.first w.last w.step u.1) y.place (place_of r) (s.do_ (word_of r) c.1 (sole v) g q.1) q.2

pub switch_statement : Step p.SwitchStatement
switch_statement a h = λ y i r f j c v k l z m o w i1 l1 xs i2 q u b g.
    let cs : _ = lines_before_clauses l1 q in
    placed (λ z1. tree.Switch z1 f xs) y.place (place_of r)
    (s.switch (word_of r) c l (sole o) cs.1 cs.2 (sole g)) Lines.none

leaving : {a i j b : Tokens} {y : Token} {k : ℕ} → Choice (codes "BREAK") (codes "NEXT") a i y → s.Times i j k → Stop j b → s.Body a b (left (tok y) (place_at a) k)
leaving {a} {b = b} {k = k} (this (spelled {w = w} h)) q r =
    subst (λ v. s.Body a b (if v then tree.Next (place_at a) k else tree.Break (place_at a) k)) (sym (is_other (codes "NEXT") (codes "BREAK") w h)) (s.break_ (word h) q r)
leaving {a} {b = b} {k = k} (that (spelled {w = w} h)) q r =
    subst (λ v. s.Body a b (if v then tree.Next (place_at a) k else tree.Break (place_at a) k)) (sym (is_other (codes "NEXT") (codes "NEXT") w h)) (s.next (word h) q r)

pub leave_statement : Step p.LeaveStatement
leave_statement a h = λ y i r v j q w b st.
    placed (λ z. left (tok y) z (count_or_one v)) y.place (place_of r) (leaving (choice r) q st) Lines.none

pub return_statement : Step p.ReturnStatement
return_statement a h = λ y i r v j q w b st. placed (λ z. tree.Return z (formula_part v)) y.place (place_of r) (s.return_ (word_of r) q st) Lines.none

pub plain_statement : Step p.PlainStatement
plain_statement a h = λ y m q v b st. placed (λ z. tree.Plain None z y.1) y.0 q.0 (s.plain q.1 st) Lines.none

-- ---- else and until ----

pub else_part_line : Step p.ElseLine
else_part_line a h = λ y m r o b q. (o, refl, lines_before_word (Lines.line (sole r) Lines.none) q)

pub else_body : Step p.ElseBody
else_body a h = λ y m r x b q. (Some x, refl, present Lines.none (word_of r) q)

pub until_part_line : Step p.UntilLine
until_part_line a h = λ y m r o b q. (o, refl, lines_before_word (Lines.line (sole r) Lines.none) q)

pub until_test : Step p.UntilTest
until_test a h = λ y m r f k c v b st. (Some (y.place, f), refl, present Lines.none (word_of r) (k, c, st, place_of r))

pub no_else : Step p.NoElse
no_else a h = (None, refl, none_there grammar p.NoElse (codes "ELSE") (λ q. refl) (λ w q e. ap (allows p.NoElse) (word_seen_as (codes "ELSE") t.Else w e refl)) a h)

pub no_until : Step p.NoUntil
no_until a h = (None, refl, none_there grammar p.NoUntil (codes "UNTIL") (λ q. refl) (λ w q e. ap (allows p.NoUntil) (word_seen_as (codes "UNTIL") t.Until w e refl)) a h)

-- ---- parts that may be left out ----

pub some_part : Step p.SomePart
some_part a h = λ y b q. (deed y.0 y.1, refl, Perhaps.some q.1)

pub no_part : Step p.NoPart
no_part a h = (nothing, refl, Perhaps.none)

pub some_test : Step p.SomeTest
some_test a h = λ f b q. (formula f, refl, Perhaps.some q)

pub no_test : Step p.NoTest
no_test a h = (nothing, refl, Perhaps.none)

pub some_count : Step p.SomeCount
some_count a h = λ y b c. (tok y, refl, s.Times.number (d.natural c.1))

pub no_count : Step p.NoCount
no_count a h = (nothing, refl, s.Times.once)

pub some_outcome : Step p.SomeOutcome
some_outcome a h = λ f b q. (formula f, refl, Perhaps.some q)

pub no_outcome : Step p.NoOutcome
no_outcome a h = (nothing, refl, Perhaps.none)

pub one_line : Step p.OneLine
one_line a h = λ y m r v b q. (v, refl, Lines.line (sole r) q)

pub no_line : Step p.NoLine
no_line a h = (nothing, refl, Lines.none)

pub ending_line : Step p.EndingLine
ending_line a h = λ y b r. (tok y, refl, Stop.line (sole r))

pub ending_sign : Step p.EndingSign
ending_sign a h = λ y b r. (tok y, refl, Stop.semicolon (sole r))

-- only a closing brace or the end of the text stands behind a stop that is left out
ending_at : (k : Terminal) {y : Token} {ts : Tokens} → Is k y.kind → allows p.NoEnding k ≡ true → Stop (y ∷ ts) (y ∷ ts)
ending_at t.CloseBrace q h = Stop.brace (sole (known q))
ending_at t.TextEnd q h = Stop.end (sole (known q))
ending_at _ q h = absurd (untrue h)

stop_here : (a : Tokens) → Allowed p.NoEnding a → Stop a a
stop_here [] h = absurd h
stop_here (y ∷ ts) h = ending_at (seen y) (seen_is y) h

pub no_ending : Step p.NoEnding
no_ending a h = (nothing, refl, stop_here a h)

-- ---- clauses ----

joined_clauses : {a m b : Tokens} (x : tree.Clauses → tree.Clauses) {xs : tree.Clauses} →
    Lined (λ a b y. (c : Tokens) (cs : tree.Clauses) → s.Clauses b c cs → s.Clauses a c (y cs)) a m x → Lined s.Clauses m b xs → Lined s.Clauses a b (x xs)
joined_clauses x {xs} q k = let r : _ = lines_before_clauses q.2 k in (r.0, q.1 r.0 xs r.1, r.2)

pub more_clauses : Step p.MoreClauses
more_clauses a h = λ x m q xs b k. (x xs, refl, joined_clauses x q k)

pub no_clause : Step p.NoClause
no_clause a h = (tree.NoClause, refl, (a, s.no_clause, Lines.none))

pub case_clause : Step p.CaseClause
case_clause a h = λ y i r f j c fs k g z l o xs b q. (
  (λ cs. tree.AndClause (chained (f ∷ fs)) false xs y.place cs),
  refl,
  (
    q.0,
    (λ c1 cs w. subst (λ v. s.Clauses a c1 (tree.AndClause (chained (f ∷ fs)) false xs v cs)) (sym (place_of r))
        (s.case Lines.none (word_of r) (g i f c) (sole o) q.1 w)),
    q.2,
  ),
)

pub default_clause : Step p.DefaultClause
default_clause a h = λ y i r z j o xs b q. (
  (λ cs. tree.AndClause f66.NoFormula true xs y.place cs),
  refl,
  (
    q.0,
    (λ c1 cs w. subst (λ v. s.Clauses a c1 (tree.AndClause f66.NoFormula true xs v cs)) (sym (place_of r))
        (s.default Lines.none (word_of r) (sole o) q.1 w)),
    q.2,
  ),
)
