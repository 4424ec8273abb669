-- What is known of a legal deck.
use Rattle.std.specs.List.{All}
use Rattle.f66_tree.specs.Units.{Linkage}
use Rattle.f66_check.specs.Answers.{IsSoundUnit}
use Rattle.f66_program.specs.Association.{IsBadUnit}
use Rattle.f66_program.specs.Linking.{Program, IsWhole, IsLinkage}
use Rattle.legal_decks.specs.Legal.{IsLegal}

-- its units have a linkage, by which they run
abbrev pub LegalHasLinkage : Type 0
LegalHasLinkage = (p : Program) → IsLegal p → (l : Linkage) × IsLinkage p.units l

-- each of them breaks no rule of its own, none is bad by itself, and they break no rule of linking
abbrev pub LegalIsSound : Type 0
LegalIsSound = (p : Program) → IsLegal p → All IsSoundUnit p.units

abbrev pub LegalIsWell : Type 0
LegalIsWell = (p : Program) → IsLegal p → All (λ r. ¬ IsBadUnit r) p.units

abbrev pub LegalIsWhole : Type 0
LegalIsWhole = (p : Program) → IsLegal p → IsWhole p
