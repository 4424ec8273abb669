-- What the limits of texts bound in the program of a text.
use Rattle.std.proofs.Common.{◌≡◌, ◌≤◌, ℕ, true, length}
use Rattle.efl_tree.specs.Syntax.{EflProgram}
use Rattle.efl_grammar.specs.Laws.{AnswersArePublished}
use Rattle.plain_decks.specs.Bytes.{most_bytes}
use Rattle.efl_lowered.specs.Lowering.{units_of}
use Rattle.efl_naming.specs.Choice.{naming_of, is_small}
use Rattle.efl_plain.specs.Few.{HasFewLabels}
use Rattle.efl_plain.specs.Small.{HasLittleStorage}
use Rattle.efl_limits.specs.Laws.{ParsedHasFewLabels, ParsedIsSmall, ParsedHasFewProcedures, GrammarHasLittleStorage, GrammarIsShort}
use Rattle.efl_lower.specs.Laws.{IsOfText}

pub record IsLimited (p : EflProgram) : Type 0 where
  pub small : is_small p ≡ true
  pub labels : HasFewLabels p
  pub storage : HasLittleStorage p
  pub few : length p.procedures ≤ 500
  pub bytes : most_bytes (units_of (naming_of p) p) ≤ 115000000

pub limited : AnswersArePublished → ParsedIsSmall → ParsedHasFewLabels → GrammarHasLittleStorage → ParsedHasFewProcedures → GrammarIsShort → (p : EflProgram) → IsOfText p → IsLimited p
limited published small labels storage procedures short p text =
    let ts = text.tokens in
    let few = text.few in
    let parsed = text.parsed in
    let table = (published.accepted ts p).1 parsed in
    record { small = small ts p few parsed.is table; labels = labels ts p table; storage = storage ts p few parsed.is; few = procedures ts p table; bytes = short ts p few parsed.is }
