-- A field is added.
use Rattle.std.proofs.Common.{List, ap, sym, ◌∙◌}
use Rattle.f66_tree.specs.declared.format.Field.{Field}
use Rattle.stmt_formats.specs.States.{meaning_of, onto_fields}
use Rattle.stmt_formats.proofs.ItemLemmas.{pushed}
use Rattle.stmt_formats.proofs.fields.add.Goals as goal

pub returns-in_ok-push-in-One : goal.returns-in_ok-push-in-One
returns-in_ok-push-in-One c = λ rest.
    ap (λ (fs : List Field). onto_fields fs rest) c.in_ok-push-in-One.ensures.items
    ∙ pushed c.args.fields.now.items c.in-One.field (meaning_of c.args.meaning) rest (sym (ap meaning_of c.in-One.is))
