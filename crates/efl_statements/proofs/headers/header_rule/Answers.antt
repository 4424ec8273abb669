-- The formals, the type, and the count.
use Rattle.std.proofs.Common.{nat_lt, length, flat_map, ap, subst, ◌∙◌}
use Rattle.efl_tree.specs.Views.{decls_of, procedure_of}
use Rattle.efl_scope.specs.Scopes.{implied_of, own_variables, undeclared}
use Rattle.efl_types.specs.declared.rule.TypeRule.TheVariants.{TypeClash, WrongCount}
use Rattle.efl_types.specs.Expressions.{when}
use Rattle.efl_types.specs.Declarations.{formal_faults, is_shape}
use Rattle.efl_scoped.specs.Seen.{table_of}
use Rattle.efl_expressions.specs.FirstRule.{first_rule}
use Rattle.efl_places.proofs.RuleLemmas.{both_are, three_are}
use Rattle.efl_blocks.specs.DeclaredViews.{declared_names, NamesAll}
use Rattle.efl_statements.proofs.HeaderLemmas.{asked, names_had}
use Rattle.efl_statements.proofs.headers.header_rule.Goals as goal

pub returns : goal.returns
returns c = λ y are.
    let u = procedure_of c.args.procedure.now in
    let rules = implied_of u in
    let own = own_variables u in
    let formals = flat_map formal_faults (undeclared rules own u.formals) in
    let shape = when (is_shape u.result) TypeClash in
    let many = when (nat_lt 32 (length u.formals)) WrongCount in
    let empty = c.new-declared.result in
    let known = c.name_declared.new.block in
    let names = names_had y empty known u c.new-declared.ensures (subst (λ ds. NamesAll empty (declared_names (decls_of ds)) known) c.deref.ensures.value c.in_ok-name_declared.ensures) in
    three_are c.lower.result c.formals_rule-formals.result c.lower-inner.result formals shape many c.lower.ensures
    (c.formals_rule-formals.ensures (table_of y.numbers) y.structures.list.items rules own are names ∙ ap (asked rules own) c.deref-2.ensures.value)
    (both_are c.lower-inner.result c.rule_if-shape.result c.rule_if-count.result shape many c.lower-inner.ensures
    (c.rule_if-shape.ensures ∙ ap (λ b. first_rule (when b TypeClash)) c.is_shape.ensures)
    (c.rule_if-count.ensures ∙ ap (λ n. first_rule (when (nat_lt 32 n) WrongCount)) (c.len.ensures ∙ c.args.procedure.now.formals.ok.0)))
