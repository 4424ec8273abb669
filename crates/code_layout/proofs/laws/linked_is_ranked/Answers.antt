-- Each part of a layout by ranks holds.
use Rattle.code_layout.proofs.RankedLemmas.{ranked}
use Rattle.code_layout.proofs.laws.linked_is_ranked.Goals as goal

pub returns : goal.returns
returns c = λ l finish rank whole t sound falls. ranked l finish whole t sound rank falls
