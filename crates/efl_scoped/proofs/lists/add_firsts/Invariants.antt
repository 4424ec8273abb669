-- The areas before have their first lists.
use Rattle.std.proofs.Common.{◌≡◌, drop}
use Rattle.std.specs.List.{list_any}
use Rattle.std.specs.Option.{option_or}
use Rattle.efl_tree.specs.Syntax.{Text}
use Rattle.efl_tree.specs.Views.{decls_of}
use Rattle.efl_scope.specs.ScopeRules.{is_of}
use Rattle.efl_scope.specs.AreaViews.{sorts_of}
use Rattle.efl_scoped.specs.Told.{first_if}
use Rattle.efl_scoped.proofs.lists.add_firsts.Given as goal

abbrev pub invariant-loop-declaration : goal.invariant-loop-declaration
invariant-loop-declaration l = (q : Text) →
    option_or (sorts_of l.firsts q) (first_if l.own (list_any (λ d. is_of q d.kind) (decls_of (drop l.declaration-index l.declarations))) q)
    ≡ option_or (sorts_of l.initial.firsts q) (first_if l.own (list_any (λ d. is_of q d.kind) (decls_of l.declarations)) q)
