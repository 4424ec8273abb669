-- One name more has its place.
use Rattle.std.proofs.Common.{◌≡◌, ◌∙◌, take, ap, arith, rules}
use Rattle.std.proofs.lemmas.List.{take_all}
use Rattle.std.specs.Str.{bytes_eq}
use Rattle.rule_table.specs.Words.{first_place}
use Rattle.rule_table.proofs.WordLemmas.{place_steps}
use Rattle.code_layout.proofs.NameLemmas.{position_first}
use Rattle.code_layout.proofs.dummies.positions_of.Goals as goal

pub loop-name-preserved : goal.loop-name-preserved
loop-name-preserved c = record {
  count = search rules;
  noted = λ q. grind (arith, place_steps, c.loop-name.invariant.noted q, c.loop-name.invariant.count);
}

pub returns : goal.returns
returns c =
    let all : take c.loop-name.name-index c.args.list.now ≡ c.args.list.now = take_all c.loop-name.name-index c.args.list.now c.loop-name-test.false in
    λ q. c.loop-name.invariant.noted q ∙ ap (first_place (bytes_eq q)) all ∙ position_first q c.args.list.now
