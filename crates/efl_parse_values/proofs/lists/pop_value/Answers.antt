-- Why `pop_value` keeps its clauses.
use Rattle.std.proofs.Common.{◌≡◌, [], ◌∷◌, ◌++◌, ap, sym, ◌∙◌}
use Rattle.grammar.specs.Stack.{piled}
use Rattle.grammar.proofs.ListLemmas.{piled-append}
use Rattle.efl_parse_values.specs.Values.{value, last_of, others}
use Rattle.efl_parse_values.proofs.lists.pop_value.Goals as goal

pub returns-in-Some-clause-first : goal.returns-in-Some-clause-first
returns-in-Some-clause-first c =
    let h : c.args.parts.now.items ≡ c.pop.new.self.items ++ c.in-Some.last ∷ [] = c.in-Some.ensures.items in
    sym (ap (λ xs. last_of (piled value xs [])) h ∙ ap last_of (piled-append value c.pop.new.self.items c.in-Some.last []))

pub returns-in-Some-clause-rest : goal.returns-in-Some-clause-rest
returns-in-Some-clause-rest c =
    let h : c.args.parts.now.items ≡ c.pop.new.self.items ++ c.in-Some.last ∷ [] = c.in-Some.ensures.items in
    sym (ap (λ xs. others (piled value xs [])) h ∙ ap others (piled-append value c.pop.new.self.items c.in-Some.last []))
