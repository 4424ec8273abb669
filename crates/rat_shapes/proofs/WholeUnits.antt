-- Each unit of an accepted program becomes whole statements.
use Rattle.std.proofs.Common.{List, [], ◌∷◌, refl, subst}
use Rattle.std.specs.List.{AllByRecursion}
use Rattle.grammar.specs.Grammar.{Parse, values_of}
use Rattle.rat_tree.specs.Syntax.{RatRoutine}
use Rattle.rat_parse_table.specs.declared.table.Production.TheVariants as productions
use Rattle.rat_parse_values.specs.Values.{program}
use Rattle.rat_parse_values.specs.Parts.{as_program}
use Rattle.rat_parse.specs.Ratfor.{grammar}
use Rattle.rat_room.proofs.TreeWeights.{Each, trees_hold}
use Rattle.deck_laws.specs.Whole.{IsWhole}
use Rattle.rat_shapes.specs.Shapes.{AllBecome, ParsedIsWhole}
use Rattle.rat_shapes.proofs.Codes.{AreGood, unit_good}
use Rattle.rat_shapes.proofs.Wholes.{IsAny, IsWholePart, IsWholeRoutine, keeps}

whole_statements : AreGood IsAny IsWhole
whole_statements =
    record { jumps = λ l. tt; continues = tt; stops = tt; returns = tt; loops = λ l x a b c. tt; declares = λ x. tt; stores = λ x e h. tt; leaves = λ e l h. tt; tests = λ x e l h. tt }

all_whole : (us : List RatRoutine) → Each IsWholeRoutine us → AllByRecursion (AllBecome IsWhole) us
all_whole [] h = tt
all_whole (u ∷ us) h = ((λ made spare last. unit_good IsAny IsWhole whole_statements made spare u.header u.place last u.body h.0), all_whole us h.1)

pub parsed_is_whole : ParsedIsWhole
parsed_is_whole ts tree accepted =
    let found = (accepted.value (program tree)).1 refl in
    let parse : Parse grammar ts = found.0 in
    let whole = trees_hold grammar IsWholePart (λ t. tt) keeps parse.trees [] tt in
    all_whole tree.routines (subst (λ v. Each IsWholeRoutine (as_program v).routines) found.1 (keeps productions.Whole (values_of grammar parse.trees []) whole))
