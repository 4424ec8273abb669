-- The table derives each unit and program of the published grammar.
use Rattle.std.proofs.Common.{◌≡◌, ◌∙◌, Option, None, Some, List, ◌∷◌, refl, ap}
use Rattle.std.specs.Prelude.{codes}
use Rattle.ground.specs.declared.place.Place.{Place}
use Rattle.ground.specs.declared.token.TokenKind.TheVariants as kinds
use Rattle.f66_tree.specs.declared.declaration.TypeWord.{TypeWord}
use Rattle.f66_tree.specs.Syntax as f66
use Rattle.f66_tree.specs.Syntax.{Text, Header}
use Rattle.grammar.specs.Grammar.{IsProgram}
use Rattle.rat_tree.specs.Syntax as tree
use Rattle.rat_tree.specs.Syntax.{Command, Commands, RatRoutine, RatProgram}
use Rattle.rat_parse_table.specs.declared.table.Terminal.TheVariants as t
use Rattle.rat_parse_table.specs.declared.table.Nonterminal.TheVariants as n
use Rattle.rat_parse_table.specs.declared.table.Production.TheVariants as p
use Rattle.rat_parse_values.specs.Values.{Val, tok, names, heading, commands, routine, routines, program}
use Rattle.rat_parse_values.specs.Parts.{capped, type_word}
use Rattle.rat_parse_values.specs.Statements.{main}
use Rattle.rat_parse.specs.Ratfor.{grammar}
use Rattle.rat_grammar.specs.Tokens.{Perhaps, Tokens, token, one, Word, word, Name, name, place_at, Lines, Stop, Several}
use Rattle.rat_grammar.specs.Declarations as d
use Rattle.rat_grammar.specs.Statements as s
use Rattle.rat_grammar.specs.Programs as u
use Rattle.rat_grammar.specs.Laws.{IsSome}
use Rattle.rat_grammar.proofs.LineLemmas.{NoLine, lines_left, Begins, begins_at, Goes, stop_is_some}
use Rattle.rat_grammar.proofs.Derivations.{given, before_lines, make_whole}
use Rattle.rat_grammar.proofs.Steps.{FoundPart, make, found_token, found_empty}
use Rattle.rat_grammar.proofs.StatementLemmas.{own_label}
use Rattle.rat_grammar.proofs.ExpressionsFound.{found_name, found_number}
use Rattle.rat_grammar.proofs.ListsFound.{FoundList}
use Rattle.rat_grammar.proofs.WordsFound.{the_word, found_names}
use Rattle.rat_grammar.proofs.DeclarationsFound.{FoundType, found_type}
use Rattle.rat_grammar.proofs.StatementsFound.{statements_go, FoundStop, found_stop, FoundBody, FoundBare, FoundItem, bare_of, found_body, found_item}

-- ---- the body of a unit ----

body_lines : {a b c : Tokens} {v : Val} → Lines a b → FoundPart n.Body b c v → FoundPart n.Body a c v
body_lines = before_lines (λ a b q v c. make p.BodyLine tt _ _ _ (found_token t.LineEnd _ _ refl) _ _ c)

-- what stands from its `end` on
record Ending (a b : Tokens) : Type 0 where
  begins : Begins a
  found : FoundPart n.Body a b (commands tree.NoCommand)

an_ending : {a m b : Tokens} → Word (codes "END") a m → Stop m b → Ending a b
an_ending (word h) st = let z : FoundStop _ _ = found_stop st in
    record { begins = begins_at _ _ refl; found = make p.BodyEnd tt _ _ _ (the_word (codes "END") t.End refl h) _ _ z.found }

end_goes : {a m b : Tokens} → Lines a m → Ending m b → Goes a
end_goes l z = record { next = _; lines = l; begins = z.begins }

unit_body : {a b m e : Tokens} {xs : Commands} → s.Statements a b xs → Lines b m → Ending m e → (k : Tokens) → Lines a k → FoundPart n.Body k e (commands xs)
unit_body s.Statements.none l z k r = body_lines (lines_left r l z.begins.stands) z.found
unit_body (s.Statements.more x xs) l z k r =
    let y : FoundItem k _ _ = found_item x (statements_go xs (end_goes l z)) k r in
    body_lines y.lines (make p.BodyMore tt _ _ _ y.found _ _ (unit_body xs l z y.behind y.more))

-- ---- headers ----

found_formals : {a b : Tokens} {xs : List Text} → u.Formals a b xs → FoundPart n.FormalList a b (names xs)
found_formals (u.formals one xs one) =
    let r : FoundList _ _ _ _ _ = found_names xs tt in
    given (ap (λ z. names (z ∷ r.others)) r.found.is ∙ ap (λ z. names z) r.is)
    (make p.FormalList tt _ _ _ (found_token t.Open _ _ refl) _ _ r.found.found _ _ r.more _ _ (found_token t.Close _ _ refl))

-- a header, or a type and what stands behind it
data FoundHeader (a b : Tokens) (x : Header) : Type 0 where
  plain : FoundPart n.Header a b (heading (place_at a) x) → FoundHeader a b x
  typed : {i : Tokens} {q : Place} {w : TypeWord} {y : Text} {ys : List Text} → FoundType a i w → FoundPart n.TypedStart i b (heading q (f66.FuncUnit None y ys)) →
      f66.FuncUnit (Some w) y ys ≡ x → FoundHeader a b x

found_function : {a i j b : Tokens} {o : Option TypeWord} {x : Text} {xs : List Text} → Perhaps d.TypeName a i o → Word (codes "FUNCTION") i j → Name j b x → {c : Tokens} → u.Formals b c xs →
    FoundHeader a c (f66.FuncUnit o x xs)
found_function Perhaps.none (word h) (name g) q =
    plain (make p.FunctionHeader tt _ _ _ (the_word (codes "FUNCTION") t.Function refl h) _ _ (found_name _ _ _ g) _ _ (found_formals q))
found_function (Perhaps.some w) (word h) (name g) q =
    FoundHeader.typed (found_type w) (make p.TypedFunction tt _ _ _ (the_word (codes "FUNCTION") t.Function refl h) _ _ (found_name _ _ _ g) _ _ (found_formals q)) refl

found_header : {a b : Tokens} {x : Header} → u.AHeader a b x → IsSome b → FoundHeader a b x
found_header (u.subroutine (word h) (name g)) k =
    plain (make p.SubroutineHeader tt _ _ _ (the_word (codes "SUBROUTINE") t.Subroutine refl h) _ _ (found_name _ _ _ g) _ _ (found_empty p.NoFormals refl (λ k. refl) k))
found_header (u.subroutine_of (word h) (name g) q) k =
    plain (make p.SubroutineHeader tt _ _ _ (the_word (codes "SUBROUTINE") t.Subroutine refl h) _ _ (found_name _ _ _ g) _ _ (make p.SomeFormals tt _ _ _ (found_formals q)))
found_header (u.function o w x q) k = found_function o w x q
found_header (u.block_data (word h) (word g)) k =
    plain (make p.BlockHeader tt _ _ _ (the_word (codes "BLOCK") t.Block refl h) _ _ (the_word (codes "DATA") t.Data refl g))

-- ---- units ----

headed : {a m k b : Tokens} {x : Header} {xs : Commands} → FoundHeader a m x → FoundStop m k → FoundPart n.Body k b (commands xs) →
    FoundPart n.UnitText a b (routine (record { header = x; body = xs; place = place_at a }))
headed (FoundHeader.plain q) st r = make p.HeadedUnit tt _ _ _ q _ _ st.found _ _ r
headed {a} {xs = xs} (FoundHeader.typed {w = w} {y = y} {ys = ys} c q h) st r =
    given (ap (λ z. routine (record { header = f66.FuncUnit (Some (type_word (tok c.token))) y ys; body = xs; place = z })) c.place
    ∙ ap (λ z. routine (record { header = f66.FuncUnit (Some z) y ys; body = xs; place = place_at a })) c.is
    ∙ ap (λ z. routine (record { header = z; body = xs; place = place_at a })) h)
    (make p.TypedUnit tt _ _ _ c.found _ _ q _ _ st.found _ _ r)

-- a main whose first statement has no label
unmarked : {a b c : Tokens} {x : Command} {xs : Commands} (q : FoundBody a b x) → ((k : Tokens) → Lines b k → FoundPart n.Body k c (commands xs)) →
    FoundPart n.UnitText a c (routine (main (place_at a) (tree.AndCommand x xs)))
unmarked (FoundBody.untyped {m = m} l q) r = make p.PlainMain tt _ _ _ q _ _ (r m l)
unmarked {a} {b} {xs = xs} (FoundBody.typed {w = w} {ds = ds} c q st h) r =
    given (ap (λ z. routine (main z (tree.AndCommand (tree.Plain None z (f66.Typed (type_word (tok c.token)) ds)) xs))) c.place
    ∙ ap (λ z. routine (main (place_at a) (tree.AndCommand (tree.Plain None (place_at a) (f66.Typed z ds)) xs))) c.is
    ∙ ap (λ z. routine (main (place_at a) (tree.AndCommand z xs))) h)
    (make p.TypedUnit tt _ _ _ c.found _ _ (make p.TypedMain tt _ _ _ q) _ _ st _ _ (r b Lines.none))

marked : {a b c : Tokens} {z : _} {q : Place} {x : Command} {xs : Commands} → s.Body a b x → FoundBare a b x → ((k : Tokens) → Lines b k → FoundPart n.Body k c (commands xs)) →
    FoundPart n.UnitText (token (kinds.Number z) q ∷ a) c (routine (main q (tree.AndCommand (s.labelled (capped 4294967295 z) (place_at a) x) xs)))
marked {a} {z = z} {q = q} {xs = xs} y k r =
    given (ap (λ v. routine (main q (tree.AndCommand v xs))) (own_label (capped 4294967295 z) (place_at a) y))
    (make p.MarkedMain tt _ _ _ (found_number _ _ _) _ _ k.found _ _ (r k.behind k.more))

first_statement : {a b c : Tokens} {x : Command} {xs : Commands} → s.Statement a b x → NoLine a → Goes b → ((k : Tokens) → Lines b k → FoundPart n.Body k c (commands xs)) →
    FoundPart n.UnitText a c (routine (main (place_at a) (tree.AndCommand x xs)))
first_statement (s.bare Lines.none y) h g r = unmarked (found_body y g) r
first_statement (s.bare (Lines.line l k) y) h g r = absurd (h _ l)
first_statement (s.marked Lines.none (d.natural one) y) h g r = marked y (bare_of (found_body y g)) r
first_statement (s.marked (Lines.line l k) c y) h g r = absurd (h _ l)

empty_main : {a m k b : Tokens} → Lines a m → NoLine a → Word (codes "END") m k → Stop k b → FoundPart n.UnitText a b (routine (main (place_at a) tree.NoCommand))
empty_main Lines.none h (word g) st = let z : FoundStop _ _ = found_stop st in make p.EmptyMain tt _ _ _ (the_word (codes "END") t.End refl g) _ _ z.found
empty_main (Lines.line l r) h w st = absurd (h _ l)

main_unit : {a b m k e : Tokens} {xs : Commands} → s.Statements a b xs → NoLine a → Lines b m → Word (codes "END") m k → Stop k e →
    FoundPart n.UnitText a e (routine (main (place_at a) xs))
main_unit s.Statements.none h l w st = empty_main l h w st
main_unit (s.Statements.more x xs) h l w st =
    first_statement x h (statements_go xs (end_goes l (an_ending w st))) (λ k r. unit_body xs l (an_ending w st) k r)

record FoundUnit (a b : Tokens) (x : RatRoutine) : Type 0 where
  start : Tokens
  lines : Lines a start
  found : FoundPart n.Unit start b (routine x)

found_unit : {a b : Tokens} {x : RatRoutine} → u.Unit a b x → FoundUnit a b x
found_unit (u.headed l h st xs r w z) = record {
  start = _;
  lines = l;
  found = make p.OneUnit tt _ _ _ (headed (found_header h (stop_is_some st)) (found_stop st) (unit_body xs r (an_ending w z) _ Lines.none));
}
found_unit (u.main l h xs r w z) = record { start = _; lines = l; found = make p.OneUnit tt _ _ _ (main_unit xs h r w z) }

-- ---- programs ----

units_lines : {a b c : Tokens} {v : Val} → Lines a b → FoundPart n.Units b c v → FoundPart n.Units a c v
units_lines = before_lines (λ a b q v c. make p.BlankLine tt _ _ _ (found_token t.LineEnd _ _ refl) _ _ c)

found_units : {a b e : Tokens} {xs : List RatRoutine} → Several u.Unit a b xs → Lines b e → IsSome e → FoundPart n.Units a e (routines xs)
found_units Several.none l h = units_lines l (found_empty p.NoUnit refl (λ k. refl) h)
found_units (Several.more x xs) l h =
    let y : FoundUnit _ _ _ = found_unit x in units_lines y.lines (make p.MoreUnits tt _ _ _ y.found _ _ (found_units xs l h))

pub found_program : {ts : Tokens} {r : RatProgram} → u.Program ts r → IsProgram grammar ts (program r)
found_program (u.program xs l one) = make_whole grammar _ _ _ (found_units xs l tt) _ _ (found_token t.TextEnd _ _ refl) refl
