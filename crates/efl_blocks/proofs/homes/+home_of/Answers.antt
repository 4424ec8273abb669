-- The block tells it.
use Rattle.std.proofs.Common.{◌≡◌, Some, sym, ap, ◌∙◌}
use Rattle.std.specs.Option.{option_copied}
use Rattle.efl_expressions.specs.NameViews.{entry_in}
use Rattle.efl_blocks.specs.HomeViews.{position_of, home_in, home_if}
use Rattle.efl_blocks.proofs.homes.+home_of.Goals as goal

pub returns-in-Some : goal.returns-in-Some
returns-in-Some t c =
    let found : Some c.in-Some.meaning.now ≡ entry_in c.in-Inside.block.now c.args.name.now = sym (ap option_copied c.in-Some.is) ∙ c.get.ensures.value in
    c.home_as.ensures ∙ ap (λ o. home_if (position_of c.in-Inside.position.now) o (home_in c.in-Inside.outside.now c.args.name.now)) found ∙ sym (ap (λ h. home_in h c.args.name.now) c.in-Inside.is)
