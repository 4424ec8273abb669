-- The lemmas of deck_laws.
--
--   statements ── ActTokens ──▶ tokens ── NoHeaders, ShallowActs, SmallNumbers, AnsweredLines ──▶ no fault, no header ──┐
--   headers ── HeadersRead ──▶ read ─────────────────────────────────────────────────────────────────────────────────────┴─ UnitsAgain ──┐
--   sound units ── SoundForms, SoundNames, PrintedTexts, SoundDecks ──▶ fit ── WritableLines ──▶ writable ────────────────────────────────┤
--   SameChecks: soundness asks no places ─────────────────────────────────────────────────────────────────────────── DecksAgain ──▶ laws ─┘
pub mod ActTokens
pub mod NoHeaders
pub mod ShallowTokens
pub mod ShallowSpecifications
pub mod ShallowActs
pub mod SmallNumbers
pub mod AnsweredLines
pub mod HeadersRead
pub mod UnitsAgain
pub mod WritableLines
pub mod SameChecks
pub mod SoundExpressions
pub mod SoundParts
pub mod SoundSpecifications
pub mod SoundForms
pub mod SoundNames
pub mod PrintedParts
pub mod PrintedSpecifications
pub mod PrintedTexts
pub mod SoundDecks
pub mod DecksAgain
pub mod WholeFormats
pub mod FittingTexts
pub mod CardBytes
mod Examples
mod SpecificationExamples
