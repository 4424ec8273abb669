-- What the table says of the name is its first class.
use Rattle.std.proofs.Common.{ap, ◌∙◌}
use Rattle.std.specs.HashMap.{get_by}
use Rattle.std.specs.Str.{bytes_eq}
use Rattle.unit_rules.proofs.used.first_role.Goals as goal

pub returns : goal.returns
returns c =
    let names = c.args.names.now in
    c.copied.ensures ∙ c.value_of.ensures.value ∙ ap (λ q. get_by (λ k. bytes_eq q k.now) names.roles) c.as_bytes.ensures ∙ names.roles_are c.args.name.now
