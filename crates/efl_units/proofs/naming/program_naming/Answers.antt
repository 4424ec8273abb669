-- The names in memory are those that are chosen.
use Rattle.std.proofs.Common.{◌∙◌, ap, map}
use Rattle.std.specs.List.{enumerate_from}
use Rattle.efl_tree.specs.Syntax.{Text}
use Rattle.efl_tree.specs.Views.{procedure_of, program_of}
use Rattle.efl_types.specs.Whole.{number_of}
use Rattle.efl_scoped.specs.Seen.{table_of}
use Rattle.efl_whole.specs.CallViews.{numbers_of}
use Rattle.efl_naming.specs.Choice.{procedure_name}
use Rattle.efl_units.specs.Homes.{home_in}
use Rattle.efl_units.proofs.HomeNames.{homes_are, callees_are}
use Rattle.efl_units.proofs.naming.program_naming.Goals as goal

pub returns-clause-homes : goal.returns-clause-homes
returns-clause-homes c = λ are v.
    let numbers = numbers_of c.in_ok-numbers.numbers in
    let known = λ (x : Text). c.in_ok-numbers.ensures x ∙ ap (λ us. number_of (map procedure_of us) x) c.deref.ensures.value in
    let names = c.in_ok-homes.ensures ∙ ap (λ ys. map (λ x. home_in numbers x.0 x.1) (enumerate_from 0 ys)) c.deref-2.ensures.value in
    homes_are (program_of c.args.program.now) numbers known (table_of c.args.variables.now.numbers) c.args.variables.now.numbers.above _ _ are.listed names v

pub returns-clause-callees : goal.returns-clause-callees
returns-clause-callees c = λ n.
    callees_are _ _ (c.in_ok-callees.ensures ∙ ap (λ us. map (λ x. procedure_name x.0 (procedure_of x.1)) (enumerate_from 0 us)) c.deref-3.ensures.value) n
