-- A unit holds what a word stands for.
use Rattle.runner.proofs.PlaceArms.{keeps_word}
use Rattle.runner.proofs.places.keep_word.Goals as goal

pub returns-then-word-eq0 : goal.returns-then-word-eq0
returns-then-word-eq0 c = keeps_word _ _ _ _ _ c.whole_cell.ensures c.keep.ensures

pub returns-else-word-eq0 : goal.returns-else-word-eq0
returns-else-word-eq0 c = keeps_word _ _ _ _ _ c.truth_cell.ensures c.keep-else-word-eq0.ensures
