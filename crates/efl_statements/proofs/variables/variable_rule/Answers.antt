-- The type with the bounds, and whether it is a formal.
use Rattle.std.proofs.Common.{sym, ap, subst, ◌∙◌}
use Rattle.efl_tree.specs.Views.{var_of}
use Rattle.efl_scope.specs.Scopes.{bounded}
use Rattle.efl_scope.specs.ScopeRules.{holds}
use Rattle.efl_types.specs.Declarations.{size_faults}
use Rattle.efl_scoped.specs.Told.{Tells}
use Rattle.efl_scoped.specs.Seen.{table_of}
use Rattle.efl_expressions.specs.FirstRule.{first_rule}
use Rattle.efl_statements.proofs.variables.variable_rule.Goals as goal

pub returns : goal.returns
returns c =
    let v = var_of c.args.variable.now in
    let g = table_of c.bounded.new.numbers in
    let own = c.in_ok-told.ensures in
    record {
      kept = own.grows;
      first = λ t told.
          c.size_rule.ensures g t v (sym c.deref-2.ensures.value) (subst (λ bs. Tells g (bounded t bs) c.in_ok-told.told) c.deref.ensures.value (own.tells t told))
          ∙ ap (λ b. first_rule (size_faults b t v)) (c.is_among-is_formal.ensures ∙ ap (holds c.args.formals.now) c.as_bytes.ensures);
    }
