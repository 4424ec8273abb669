-- The lemmas of deck_room.
--
--   commands ── CodeCosts ──▶ their statements ── CardCosts ──▶ the bytes of their cards
--   tokens ── Payments, PaidTrees ──▶ what commands cost ── PrintedDecks ──▶ the bytes of a deck, and its other limits
mod Costs
mod CodeCosts
mod CardCosts
mod Payments
mod PaidTrees
mod PrintedTexts
mod PrintedDecks
mod ServingDecks
