-- What the table reads as a unit or a program is one of the published grammar.
use Rattle.std.proofs.Common.{◌≡◌, ◌∙◌, List, [], ◌∷◌, None, Some, ◌⊎◌, inl, inr, refl, sym, subst, ap}
use Rattle.std.specs.Prelude.{codes}
use Rattle.ground.specs.declared.place.Place.{Place}
use Rattle.ground.specs.declared.token.Token.{Token}
use Rattle.f66_tree.specs.declared.declaration.TypeWord.{TypeWord}
use Rattle.f66_tree.specs.Syntax as f66
use Rattle.f66_tree.specs.Syntax.{Text, Header}
use Rattle.rat_tree.specs.Syntax as tree
use Rattle.rat_tree.specs.Syntax.{Command, Commands, RatRoutine}
use Rattle.rat_parse_table.specs.declared.table.Production.TheVariants as p
use Rattle.rat_parse_table.specs.declared.table.Nonterminal.TheVariants as n
use Rattle.rat_parse_table.specs.Words.{is_spelled}
use Rattle.rat_parse_values.specs.Values.{Val, tok, heading}
use Rattle.rat_parse_values.specs.Values as val
use Rattle.rat_parse_values.specs.Parts.{name_in, number_in, type_word}
use Rattle.rat_parse_values.specs.Statements.{typed_from, with_own_label, main}
use Rattle.rat_grammar.specs.Tokens.{Perhaps, Tokens, one, capitals, word, Name, Number, Word, place_at, Lines, Stop, Listed, Several}
use Rattle.rat_grammar.specs.Declarations as d
use Rattle.rat_grammar.specs.Plain as pl
use Rattle.rat_grammar.specs.Statements as s
use Rattle.rat_grammar.specs.Programs as u
use Rattle.rat_grammar.proofs.LineLemmas.{NoLine, no_line_at, word_begins}
use Rattle.rat_grammar.proofs.Parts.{Lined}
use Rattle.rat_grammar.proofs.Readings.{Formals, Typed, view_typed, SaysTyped, reading}
use Rattle.rat_grammar.proofs.Derivations.{Reads}
use Rattle.rat_grammar.proofs.Steps.{Step}
use Rattle.rat_grammar.proofs.StatementLemmas.{lines_before_statements, lines_before_units, type_begins, body_begins, own_label}
use Rattle.rat_grammar.proofs.StatementsRead.{joined_statements}
use Rattle.rat_grammar.proofs.Taken as taken
use Rattle.rat_grammar.proofs.Taken.{type_by, type_is}
use Rattle.rat_grammar.proofs.Standing.{place_of, sole, word_of, Spelled, spelled, spelling, Choice, this, that}
use Rattle.rat_grammar.proofs.ReservedWords.{same}

-- ---- words of types ----

typed : {a b : Tokens} {x : Text} (w : Text) → capitals w ≡ x → d.TypeName a b (type_by (same (codes "INTEGER") x) (same (codes "LOGICAL") x)) →
    d.TypeName a b (type_by (is_spelled (codes "INTEGER") w) (is_spelled (codes "LOGICAL") w))
typed {a} {b} {x} w h c = subst (λ v. d.TypeName a b v) (sym (type_is w x h)) c

a_type : {a b : Tokens} {y : Token} → Choice (codes "INTEGER") (codes "LOGICAL") a b y ⊎ Choice (codes "REAL") (codes "COMPLEX") a b y → d.TypeName a b (type_word (tok y))
a_type (inl (this (spelled {w = w} h))) = typed w h (d.integer (word h))
a_type (inl (that (spelled {w = w} h))) = typed w h (d.logical (word h))
a_type (inr (this (spelled {w = w} h))) = typed w h (d.real (word h))
a_type (inr (that (spelled {w = w} h))) = typed w h (d.complex (word h))

double : {a m b : Tokens} {y : Token} → Spelled (codes "DOUBLE") a m y → Word (codes "PRECISION") m b → d.TypeName a b (type_word (tok y))
double (spelled {w = w} h) c = typed w h (d.double (word h) c)

pub one_word : Step p.OneWord
one_word a h = λ y b r. (y, refl, (place_of r, a_type (taken.type_choice r)))

pub two_words : Step p.TwoWords
two_words a h = λ y m r z b k. (y, refl, (place_of r, double (spelling r) (word_of k)))

-- ---- headers ----

pub some_formals : Step p.SomeFormals
some_formals a h = λ xs b q. (xs, refl, inr q)

pub no_formals : Step p.NoFormals
no_formals a h = ([], refl, inl (refl, refl))

pub formal_list : Step p.FormalList
formal_list a h = λ y m r x k c xs j t z b k2.
    (name_in (tok x) ∷ xs, refl, u.formals (sole r) (t m (name_in (tok x)) c.1) (sole k2))

pub more_formal : Step p.MoreFormal
more_formal a h = λ y m r x k c xs b t. (name_in (tok x) ∷ xs, refl, λ g z q. Listed.comma q (sole r) (t m (name_in (tok x)) c.1))

pub no_more_formal : Step p.NoMoreFormal
no_more_formal a h = ([], refl, λ g x q. Listed.last q)

subroutine : {a i j b : Tokens} {x : Text} {xs : List Text} → Word (codes "SUBROUTINE") a i → Name i j x → Formals j b xs → u.AHeader a b (f66.SubUnit x xs)
subroutine {a} {b = b} {x = x} w c (inl e) = subst (λ ys. u.AHeader a b (f66.SubUnit x ys)) (sym e.1) (subst (λ k. u.AHeader a k (f66.SubUnit x [])) e.0 (u.subroutine w c))
subroutine w c (inr q) = u.subroutine_of w c q

pub subroutine_header : Step p.SubroutineHeader
subroutine_header a h = λ y i r x j c xs b q.
    ((y.place, f66.SubUnit (name_in (tok x)) xs), refl, (place_of r, subroutine (word_of r) c.1 q))

pub function_header : Step p.FunctionHeader
function_header a h = λ y i r x j c xs b q.
    ((y.place, f66.FuncUnit None (name_in (tok x)) xs), refl, (place_of r, u.function Perhaps.none (word_of r) c.1 q))

pub typed_function : Step p.TypedFunction
typed_function a h = λ y i r x j c xs b q. (inl (y.place, name_in (tok x), xs), refl, (i, j, word_of r, c.1, q))

pub typed_main : Step p.TypedMain
typed_main a h = λ ds b q. (inr ds, refl, q)

pub block_header : Step p.BlockHeader
block_header a h = λ y i r z b k. ((y.place, f66.DataUnit), refl, (place_of r, u.block_data (word_of r) (word_of k)))

-- ---- units ----

abbrev Ended : Tokens → Tokens → Commands → Type 0
Ended a b xs = (m k j : Tokens) × s.Statements a m xs × Lines m k × Word (codes "END") k j × Stop j b

longer : {a m b : Tokens} {x : Command} {xs : Commands} → Lined s.Statement a m x → Ended m b xs → Ended a b (tree.AndCommand x xs)
longer q r = let k : _ = joined_statements q (r.0, r.3, r.4) in (k.0, r.1, r.2, k.1, k.2, r.5, r.6)

pub body_line : Step p.BodyLine
body_line a h = λ y m r xs b q.
    let k : _ = lines_before_statements (Lines.line (sole r) Lines.none) (q.0, q.3, q.4) in
    (xs, refl, (k.0, q.1, q.2, k.1, k.2, q.5, q.6))

pub body_more : Step p.BodyMore
body_more a h = λ x m q xs b r. (tree.AndCommand x.1 xs, refl, longer q r)

pub body_end : Step p.BodyEnd
body_end a h = λ y m r v b st. (tree.NoCommand, refl, (a, a, m, s.Statements.none, Lines.none, word_of r, st))

main_unit : {a b : Tokens} {xs : Commands} → NoLine a → Ended a b xs → u.Unit a b (main (place_at a) xs)
main_unit g r = u.main Lines.none g r.3 r.4 r.5 r.6

pub headed_unit : Step p.HeadedUnit
headed_unit a h = λ x m c v k st xs b r. (
  record { header = x.1; body = xs; place = x.0 },
  refl,
  subst (λ z. u.Unit a b (record { header = x.1; body = xs; place = z })) (sym c.0) (u.headed Lines.none c.1 st r.3 r.4 r.5 r.6),
)

from_type : {a i j k b : Tokens} {q : Place} {w : TypeWord} {xs : Commands} (y : Typed) → q ≡ place_at a → d.TypeName a i w → SaysTyped i j y → Stop j k → Ended k b xs →
    Reads (reading n.UnitText) a b (val.routine (typed_from q w (view_typed y) xs))
from_type {a} {b = b} {q = q} {w = w} {xs = xs} (inl y) e c r st z = (
  record { header = f66.FuncUnit (Some w) y.1 y.2; body = xs; place = q },
  refl,
  subst (λ v. u.Unit a b (record { header = f66.FuncUnit (Some w) y.1 y.2; body = xs; place = v })) (sym e)
      (u.headed Lines.none (u.function (Perhaps.some c) r.2 r.3 r.4) st z.3 z.4 z.5 z.6),
)
from_type {a} {k = k} {b = b} {q = q} {w = w} {xs = xs} (inr ds) e c r st z = (
  main q (tree.AndCommand (tree.Plain None q (f66.Typed w ds)) xs),
  refl,
  subst (λ v. u.Unit a b (main v (tree.AndCommand (tree.Plain None v (f66.Typed w ds)) xs))) (sym e)
      (main_unit (type_begins c).stands (longer (k, s.bare Lines.none (s.plain (pl.typed c r) st), Lines.none) z)),
)

pub typed_unit : Step p.TypedUnit
typed_unit a h = λ y i c z j q v k st xs b r. from_type z c.0 c.1 q st r

number_is_no_line : {a b : Tokens} {z : _} → Number a b z → NoLine a
number_is_no_line one = no_line_at _ _ refl

marked : {a i j b : Tokens} {q r : Place} {x : Command} {xs : Commands} {z : _} (k : _) → q ≡ place_at a → Number a i z → d.Natural a i k → r ≡ place_at i → Lined s.Body i j x → Ended j b xs →
    u.Unit a b (main q (tree.AndCommand (with_own_label k r x) xs))
marked {a} {i} {b = b} {q = q} {r = r} {x = x} {xs = xs} k e c c2 g y z =
    subst (λ v. u.Unit a b (main v (tree.AndCommand (with_own_label k r x) xs))) (sym e)
    (subst (λ v. u.Unit a b (main (place_at a) (tree.AndCommand v xs))) (sym (own_label k r y.1 ∙ ap (λ v. s.labelled k v x) g))
    (main_unit (number_is_no_line c) (longer (y.0, s.marked Lines.none c2 y.1, y.2) z)))

pub marked_main : Step p.MarkedMain
marked_main a h = λ y i c x j q xs b r. (
  main y.place (tree.AndCommand (with_own_label (number_in (tok y)) x.0 x.1) xs),
  refl,
  marked (number_in (tok y)) c.0 c.1 (d.natural c.1) q.0 q.1 r,
)

pub plain_main : Step p.PlainMain
plain_main a h = λ x j q xs b r. (
  main x.0 (tree.AndCommand x.1 xs),
  refl,
  subst (λ v. u.Unit a b (main v (tree.AndCommand x.1 xs))) (sym q.0)
      (main_unit (body_begins q.1.1).stands (longer (q.1.0, s.bare Lines.none q.1.1, q.1.2) r)),
)

pub empty_main : Step p.EmptyMain
empty_main a h = λ y i r v b st. (
  main y.place tree.NoCommand,
  refl,
  subst (λ v. u.Unit a b (main v tree.NoCommand)) (sym (place_of r))
      (u.main Lines.none (word_begins (word_of r)).stands s.Statements.none Lines.none (word_of r) st),
)

-- ---- programs ----

pub one_unit : Step p.OneUnit
one_unit a h = λ x b q. (x, refl, q)

pub blank_line : Step p.BlankLine
blank_line a h = λ y m r xs b q. (xs, refl, lines_before_units (Lines.line (sole r) Lines.none) q)

pub more_units : Step p.MoreUnits
more_units a h = λ x m q xs b r. (x ∷ xs, refl, (r.0, Several.more q r.1, r.2))

pub no_unit : Step p.NoUnit
no_unit a h = ([], refl, (a, Several.none, Lines.none))

pub whole : Step p.Whole
whole a h = λ xs m q y b r. (record { routines = xs; finish = y.place }, refl, (q.0, m, q.1, q.2, sole r, place_of r))
