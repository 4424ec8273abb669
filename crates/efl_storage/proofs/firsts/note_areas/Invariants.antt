-- The areas before have their first procedures.
use Rattle.std.proofs.Common.{◌≡◌, drop}
use Rattle.std.specs.List.{list_any}
use Rattle.std.specs.Option.{option_or}
use Rattle.efl_tree.specs.Syntax.{Text}
use Rattle.efl_tree.specs.Views.{decls_of}
use Rattle.efl_scope.specs.ScopeRules.{is_of}
use Rattle.efl_storage.specs.Firsts.{first_in, first_if}
use Rattle.efl_storage.proofs.firsts.note_areas.Given as goal

abbrev pub invariant-loop-declaration : goal.invariant-loop-declaration
invariant-loop-declaration l = (q : Text) →
    option_or (first_in l.firsts q) (first_if (list_any (λ d. is_of q d.kind) (decls_of (drop l.declaration-index l.declarations))) l.unit)
    ≡ option_or (first_in l.initial.firsts q) (first_if (list_any (λ d. is_of q d.kind) (decls_of l.declarations)) l.unit)
