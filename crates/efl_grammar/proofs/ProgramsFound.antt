-- The table derives each procedure and program of the published grammar.
use Rattle.std.proofs.Common.{◌≡◌, ◌∙◌, Option, List, [], ◌∷◌, refl, ap}
use Rattle.std.specs.Prelude.{codes}
use Rattle.ground.specs.declared.place.Place.{Place}
use Rattle.ground.specs.declared.token.Token.{Token}
use Rattle.ground.specs.declared.token.TokenKind.TheVariants as kinds
use Rattle.ground.specs.declared.token.Sign.TheVariants as signs
use Rattle.grammar.specs.Grammar.{IsProgram}
use Rattle.efl_tree.specs.Syntax.{Text, EflType, EflProcedure, EflProgram}
use Rattle.efl_parse_table.specs.declared.table.Terminal.TheVariants as t
use Rattle.efl_parse_table.specs.declared.table.Nonterminal.TheVariants as n
use Rattle.efl_parse_table.specs.declared.table.Production.TheVariants as p
use Rattle.efl_parse_values.specs.Values.{Val, tok}
use Rattle.efl_parse_values.specs.Values as val
use Rattle.efl_parse_values.specs.Parts.{name_in}
use Rattle.efl_parse.specs.Efl.{grammar}
use Rattle.rat_grammar.specs.Tokens.{Perhaps, Tokens, token, one, word, place_at, Listed, Several, Lines}
use Rattle.rat_grammar.specs.Laws.{IsSome}
use Rattle.efl_grammar.specs.Tokens.{Name, name}
use Rattle.efl_grammar.specs.Programs as u
use Rattle.rat_grammar.proofs.LineLemmas.{word_begins, stop_is_some}
use Rattle.rat_grammar.proofs.Derivations.{given, before_lines, make_whole}
use Rattle.efl_grammar.proofs.Steps.{FoundPart, FoundAs, built, make, found_token, found_empty}
use Rattle.efl_grammar.proofs.ExpressionsFound.{found_name, the_word}
use Rattle.rat_grammar.proofs.ListsFound.{FoundList, found_list}
use Rattle.efl_grammar.proofs.DeclarationsFound.{FoundStop, found_stop, found_type}
use Rattle.efl_grammar.proofs.StatementsFound.{found_content}

-- ---- headers ----

record FoundName (a b : Tokens) (x : Text) : Type 0 where
  token : Token
  found : FoundPart n.AnyName a b (tok token)
  is : name_in (tok token) ≡ x

a_name : (a b : Tokens) (x : Text) → Name a b x → IsSome b → FoundName a b x
a_name a b x (name h) g = record { token = _; found = found_name _ _ _ h; is = refl }

more_formal : (a b c : Tokens) (q : Place) (x : Text) (xs : List Text) → FoundName a b x → FoundPart n.FormalMore b c (val.names xs) →
    FoundPart n.FormalMore (token (kinds.Sign signs.Comma) q ∷ a) c (val.names (x ∷ xs))
unfolding built
more_formal a b c q x xs y k = given (ap (λ z. val.names (z ∷ xs)) y.is) (make p.MoreFormal tt _ _ _ (found_token t.Comma _ _ refl) _ _ y.found _ _ k)

no_more_formal : (a : Tokens) → IsSome a → FoundPart n.FormalMore a a (val.names [])
unfolding built
no_more_formal a g = found_empty p.NoMoreFormal refl (λ k. refl) g

some_names : {a b : Tokens} {xs : List Text} → Listed Name a b xs → IsSome b → FoundPart n.FormalNames a b (val.names xs)
unfolding built
some_names xs g =
    let all : FoundList FoundName (FoundAs n.FormalMore (λ y. val.names y)) _ _ _ = found_list a_name more_formal no_more_formal xs g in
    given (ap (λ z. val.names (z ∷ all.others)) all.found.is ∙ ap (λ z. val.names z) all.is) (make p.SomeNames tt _ _ _ all.found.found _ _ all.more)

found_formals : {a b : Tokens} {xs : List Text} → u.Formals a b xs → IsSome b → FoundPart n.Formals a b (val.names xs)
unfolding built
found_formals u.Formals.none g = found_empty p.NoFormals refl (λ k. refl) g
found_formals (u.Formals.empty one one) g =
    make p.SomeFormals tt _ _ _ (found_token t.Open _ _ refl) _ _ (found_empty p.NoNames refl (λ k. refl) tt) _ _ (found_token t.Close _ _ refl)
found_formals (u.Formals.some one xs one) g = make p.SomeFormals tt _ _ _ (found_token t.Open _ _ refl) _ _ (some_names xs tt) _ _ (found_token t.Close _ _ refl)

found_header : {a b : Tokens} {o : Option EflType} {x : Option Text} {xs : List Text} → u.Header a b o x xs → IsSome b → FoundPart n.Header a b (val.header (place_at a) o x xs)
unfolding built
found_header (u.named Perhaps.none (word h) (name k) f) g =
    make p.PlainHeader tt _ _ _ (the_word (codes "PROCEDURE") t.Procedure refl h) _ _ (make p.NamedHeading tt _ _ _ (found_name _ _ _ k) _ _ (found_formals f g))
found_header (u.named (Perhaps.some c) (word h) (name k) f) g =
    make p.TypedHeader tt _ _ _ (found_type c tt) _ _ (the_word (codes "PROCEDURE") t.Procedure refl h) _ _ (found_name _ _ _ k) _ _ (found_formals f g)
found_header (u.main (word h)) g =
    make p.PlainHeader tt _ _ _ (the_word (codes "PROCEDURE") t.Procedure refl h) _ _ (found_empty p.MainHeading refl (λ k. refl) g)

-- ---- procedures ----

record FoundProcedure (a b : Tokens) (x : EflProcedure) : Type 0 where
  start : Tokens
  lines : Lines a start
  found : FoundPart n.ProcedureText start b (val.procedure x)

found_procedure : {a b : Tokens} {x : EflProcedure} → u.Procedure a b x → FoundProcedure a b x
unfolding built
found_procedure (u.procedure l h st ds ss r (word w) z) =
    let first : FoundStop _ _ = found_stop st in
    let last : FoundStop _ _ = found_stop z in
    record {
      start = _;
      lines = l;
      found = make p.OneProcedure tt _ _ _ (found_header h (stop_is_some st)) _ _ first.found _ _ (found_content ds ss r (word_begins (word w))) _ _ (the_word (codes "END") t.End refl w) _ _ last.found;
    }

-- ---- programs ----

procedures_lines : {a b c : Tokens} {v : Val} → Lines a b → FoundPart n.Procedures b c v → FoundPart n.Procedures a c v
unfolding built
procedures_lines = before_lines (λ a b q v c. make p.BlankLine tt _ _ _ (found_token t.LineEnd _ _ refl) _ _ c)

found_procedures : {a b e : Tokens} {xs : List EflProcedure} → Several u.Procedure a b xs → Lines b e → IsSome e → FoundPart n.Procedures a e (val.procedures xs)
unfolding built
found_procedures Several.none l h = procedures_lines l (found_empty p.NoProcedure refl (λ k. refl) h)
found_procedures (Several.more x xs) l h =
    let y : FoundProcedure _ _ _ = found_procedure x in procedures_lines y.lines (make p.MoreProcedures tt _ _ _ y.found _ _ (found_procedures xs l h))

pub found_program : {ts : Tokens} {r : EflProgram} → u.Program ts r → IsProgram grammar ts (val.program r)
unfolding built
found_program (u.program xs l one) = make_whole grammar _ _ _ (found_procedures xs l tt) _ _ (found_token t.TextEnd _ _ refl) refl
