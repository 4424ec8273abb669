-- The table has the names that have types.
use Rattle.std.proofs.Common.{ap, ◌∙◌, is_some}
use Rattle.std.specs.HashMap.{get_by}
use Rattle.std.specs.Str.{bytes_eq}
use Rattle.unit_rules.proofs.rules.has_type.Goals as goal

pub returns : goal.returns
returns c =
    let declarations = c.args.declarations.now in
    c.contains_key.ensures ∙ ap (λ q. is_some (get_by (λ k. bytes_eq q k.now) declarations.words)) c.as_bytes.ensures ∙ ap is_some (declarations.words_are c.args.name.now)
