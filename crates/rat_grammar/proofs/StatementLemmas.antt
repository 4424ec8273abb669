-- Lines before statements, clauses and units; what a statement begins with; its label and its place.
use Rattle.std.proofs.Common.{◌≡◌, ℕ, List, refl}
use Rattle.ground.specs.declared.place.Place.{Place}
use Rattle.f66_tree.specs.declared.declaration.TypeWord.{TypeWord}
use Rattle.f66_tree.specs.Syntax.{Formula, Act}
use Rattle.rat_tree.specs.Syntax as tree
use Rattle.rat_tree.specs.Syntax.{Command, Commands, RatRoutine}
use Rattle.rat_parse_values.specs.Statements.{with_own_label}
use Rattle.rat_grammar.specs.Tokens.{Tokens, one, Lines, Name, name, Several}
use Rattle.rat_grammar.specs.Expressions as e
use Rattle.rat_grammar.specs.Declarations as d
use Rattle.rat_grammar.specs.Plain as pl
use Rattle.rat_grammar.specs.Statements as s
use Rattle.rat_grammar.specs.Programs as u
use Rattle.rat_grammar.proofs.LineLemmas.{joined_lines, Begins, begins_at, word_begins}
use Rattle.rat_grammar.proofs.Parts.{Lined}

pub lines_before_statement : {a b c : Tokens} {x : Command} → Lines a b → s.Statement b c x → s.Statement a c x
lines_before_statement l (s.bare k q) = s.bare (joined_lines l k) q
lines_before_statement l (s.marked k n q) = s.marked (joined_lines l k) n q

pub lines_before_statements : {a m b : Tokens} {xs : Commands} → Lines a m → Lined s.Statements m b xs → Lined s.Statements a b xs
lines_before_statements {a} l q = before q.1 l q.2
  where
    before : {a m k b : Tokens} {xs : Commands} → s.Statements m k xs → Lines a m → Lines k b → Lined s.Statements a b xs
    before {a} s.Statements.none l r = (a, s.Statements.none, joined_lines l r)
    before {k = k} (s.Statements.more x xs) l r = (k, s.Statements.more (lines_before_statement l x) xs, r)

pub lines_before_clauses : {a m b : Tokens} {xs : tree.Clauses} → Lines a m → Lined s.Clauses m b xs → Lined s.Clauses a b xs
lines_before_clauses {a} l q = before q.1 l q.2
  where
    before : {a m k b : Tokens} {xs : tree.Clauses} → s.Clauses m k xs → Lines a m → Lines k b → Lined s.Clauses a b xs
    before {a} s.no_clause l r = (a, s.no_clause, joined_lines l r)
    before {k = k} (s.case j w fs c ss cs) l r = (k, s.case (joined_lines l j) w fs c ss cs, r)
    before {k = k} (s.default j w c ss cs) l r = (k, s.default (joined_lines l j) w c ss cs, r)

lines_before_unit : {a b c : Tokens} {x : RatRoutine} → Lines a b → u.Unit b c x → u.Unit a c x
lines_before_unit l (u.headed k h st ss r w z) = u.headed (joined_lines l k) h st ss r w z
lines_before_unit l (u.main k n ss r w z) = u.main (joined_lines l k) n ss r w z

pub lines_before_units : {a m b : Tokens} {xs : List RatRoutine} → Lines a m → Lined (Several u.Unit) m b xs → Lined (Several u.Unit) a b xs
lines_before_units {a} l q = before q.1 l q.2
  where
    before : {a m k b : Tokens} {xs : List RatRoutine} → Several u.Unit m k xs → Lines a m → Lines k b → Lined (Several u.Unit) a b xs
    before {a} Several.none l r = (a, Several.none, joined_lines l r)
    before {k = k} (Several.more x xs) l r = (k, Several.more (lines_before_unit l x) xs, r)

-- ---- what a statement begins with ----

name_begins : {a b : Tokens} {x : _} → Name a b x → Begins a
name_begins (name h) = begins_at _ _ refl

ref_begins : {a b : Tokens} {f : Formula} → e.Ref a b f → Begins a
ref_begins (e.name x) = name_begins x
ref_begins (e.applied x o fs c) = name_begins x

pub type_begins : {a b : Tokens} {w : TypeWord} → d.TypeName a b w → Begins a
type_begins (d.integer w) = word_begins w
type_begins (d.logical w) = word_begins w
type_begins (d.real w) = word_begins w
type_begins (d.double w v) = word_begins w
type_begins (d.complex w) = word_begins w

simple_begins : {a b : Tokens} {x : Act} → pl.Simple a b x → Begins a
simple_begins (pl.assignment r q f) = ref_begins r
simple_begins (pl.call w x) = word_begins w
simple_begins (pl.call_with w x o fs c) = word_begins w

pub go_to_begins : {a b : Tokens} → pl.GoTo a b → Begins a
go_to_begins (pl.one_word w) = word_begins w
go_to_begins (pl.two_words w v) = word_begins w

plain_begins : {a b : Tokens} {x : Act} → pl.Plain a b x → Begins a
plain_begins (pl.simple q) = simple_begins q
plain_begins (pl.goto g n) = go_to_begins g
plain_begins (pl.computed g o ns c q x) = go_to_begins g
plain_begins (pl.continue w) = word_begins w
plain_begins (pl.stop w) = word_begins w
plain_begins (pl.stop_with w n) = word_begins w
plain_begins (pl.read w o q c n z es) = word_begins w
plain_begins (pl.write w o q c n z es) = word_begins w
plain_begins (pl.format w o fs c) = word_begins w
plain_begins (pl.typed w ds) = type_begins w
plain_begins (pl.dimension w ds) = word_begins w
plain_begins (pl.common w xs) = word_begins w
plain_begins (pl.equivalence w gs) = word_begins w
plain_begins (pl.data_ w ps) = word_begins w

pub body_begins : {a b : Tokens} {x : Command} → s.Body a b x → Begins a
body_begins (s.empty one) = begins_at _ _ refl
body_begins (s.block one ss l c) = begins_at _ _ refl
body_begins (s.if_ w f q n) = word_begins w
body_begins (s.if_else w f q l v r) = word_begins w
body_begins (s.while w f q) = word_begins w
body_begins (s.for w o x c f d y z q) = word_begins w
body_begins (s.repeat w q n) = word_begins w
body_begins (s.repeat_until w q l v f st) = word_begins w
body_begins (s.do_ w x q r c) = word_begins w
body_begins (s.switch w f l o cs m c) = word_begins w
body_begins (s.break_ w n st) = word_begins w
body_begins (s.next w n st) = word_begins w
body_begins (s.return_ w f st) = word_begins w
body_begins (s.plain q st) = plain_begins q

-- a body has no label of its own before it is given one
pub own_label : (n : ℕ) (p : Place) {a b : Tokens} {x : Command} → s.Body a b x → with_own_label n p x ≡ s.labelled n p x
own_label n p (s.empty q) = refl
own_label n p (s.block o ss l c) = refl
own_label n p (s.if_ w f q m) = refl
own_label n p (s.if_else w f q l v r) = refl
own_label n p (s.while w f q) = refl
own_label n p (s.for w o x c f d y z q) = refl
own_label n p (s.repeat w q m) = refl
own_label n p (s.repeat_until w q l v f st) = refl
own_label n p (s.do_ w x q r c) = refl
own_label n p (s.switch w f l o cs m c) = refl
own_label n p (s.break_ w m st) = refl
own_label n p (s.next w m st) = refl
own_label n p (s.return_ w f st) = refl
own_label n p (s.plain q st) = refl
