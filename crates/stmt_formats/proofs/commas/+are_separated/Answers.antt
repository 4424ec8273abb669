-- Parentheses behind what stands before.
use Rattle.std.proofs.Common.{◌≡◌, ◌&&◌, Bool, true, false, ap, sym, ◌∙◌}
use Rattle.stmt_reader.specs.Formats.{Field, Nothing, Then, is_separated, may_begin}
use Rattle.stmt_formats.specs.States.{before_of, items_of}
use Rattle.stmt_formats.proofs.ItemLemmas.{nest_seen, no_nest, some_nest}
use Rattle.stmt_formats.proofs.commas.+are_separated.Goals as goal

pub behind-returns-in-Nest : goal.behind-returns-in-Nest
behind-returns-in-Nest t c = λ rest.
    sym (nest_seen (λ i. is_separated (before_of c.args.before) (Then i rest)) c.args.item.now c.in-Nest._count c.in-Nest.inside c.deref.result.now c.in-Nest.is c.deref.ensures.value)
    ∙ c.behind_nest.ensures c.in-Nest._count rest

pub behind_nest-returns-then-not-are_separated : goal.behind_nest-returns-then-not-are_separated
behind_nest-returns-then-not-are_separated t c = λ n rest. no_nest (may_begin (before_of c.args.before)) (is_separated Nothing (items_of c.args.inside.now)) (is_separated Field rest) (sym c.are_separated.ensures ∙ c.if-not-are_separated.true)

pub behind_nest-returns : goal.behind_nest-returns
behind_nest-returns t c = λ n rest. some_nest (may_begin (before_of c.args.before)) (is_separated Nothing (items_of c.args.inside.now)) (is_separated Field rest) (sym c.are_separated.ensures ∙ c.if-not-are_separated.false) ∙ c.behind_field.ensures rest
