-- What the statements so far are to the body.
use Rattle.rat_tree.specs.Syntax.{Commands}
use Rattle.rat_parse_table.specs.declared.table.Nonterminal.TheVariants as nonterminals
use Rattle.rat_parse_values.specs.Parts.{as_statements}
use Rattle.rat_descent.specs.Reading.{Reader, Gives}
use Rattle.rat_descent.specs.Statements.{before}
use Rattle.rat_descent.proofs.units.body.Given as goal

-- What reads the rest of the body reads it all, with the statements so far before it.
abbrev pub invariant-more : goal.invariant-more
invariant-more l =
    (all : Commands) (s : Reader) → Gives nonterminals.Body (λ v. before l.list.items (as_statements v)) l.reader all s
    → Gives nonterminals.Body (λ v. before l.initial.list.items (as_statements v)) l.initial.reader all s
