-- Units of FORTRAN that are a legal deck.
use Rattle.std.specs.List.{All}
use Rattle.f66_program.specs.Linking.{Program}
use Rattle.stmt_text.specs.Fitting.{IsPrintable}
use Rattle.deck_link.specs.Linking.{IsAccepted}
use Rattle.deck_laws.specs.Whole.{IsSoundDeck}

-- Each unit is sound and well associated, and they link; each header and statement fits twenty cards; and their printed deck passes no
-- limit of decks.
pub record IsLegal (p : Program) : Type 0 where
  pub accepted : IsAccepted p
  pub printable : All IsPrintable p.units
  pub deck : IsSoundDeck p.units
