-- What is answered for the line that a deck gives for a statement: the statement, and no header.
use Rattle.std.proofs.Common.{◌≡◌, Bool, false, List, Some, refl, sym, ap, ◌∙◌}
use Rattle.std.specs.Prelude.{◌||◌, if◌then◌else◌}
use Rattle.ground.specs.declared.fault.FaultKind.TheVariants.{Limit}
use Rattle.f66_tree.specs.Syntax.{Act}
use Rattle.stmt_text.specs.Texts.{statement_text}
use Rattle.stmt_reader.specs.declared.token.Token.{Token}
use Rattle.stmt_reader.specs.Declarations.{header_of}
use Rattle.stmt_reader.specs.Faults.{Answer, Read, Refused, answer_of, text_answer, too_large, too_long, act_has, format_is_large, is_too_deep, NoHeader, header_answer_of, header_answer}
use Rattle.stmt_reader.specs.Statements.{statement_of}
use Rattle.deck.specs.ReadableStatements.{IsReadableAct}
use Rattle.deck.specs.Written.{filled}
use Rattle.deck.proofs.ActsRead.{act_read}
use Rattle.deck.proofs.LinesRead.{line_lexed}
use Rattle.deck_laws.specs.Fitting.{HasShortNames, IsShallow}
use Rattle.deck_laws.proofs.ActTokens.{act_tokens, act_lexed}
use Rattle.deck_laws.proofs.NoHeaders.{act_header}
use Rattle.deck_laws.proofs.ShallowActs.{act_shallow}
use Rattle.deck_laws.proofs.SmallNumbers.{no_large}

abbrev tokens_answer : List Token → Answer
tokens_answer tokens = if is_too_deep 0 tokens then Refused Limit 3 else answer_of tokens (statement_of tokens)

answered : (tokens : List Token) (a : Act) → is_too_deep 0 tokens ≡ false → statement_of tokens ≡ Some a → (act_has too_large a || format_is_large a tokens) ≡ false → act_has too_long a ≡ false → tokens_answer tokens ≡ Read a
answered tokens a shallow read small short = rw (shallow, read, small, short) refl

pub act_answered : (a : Act) → IsReadableAct a → HasShortNames a → IsShallow a → text_answer (statement_text a) ≡ Read a
act_answered a readable short shallow =
    let same = act_lexed a readable in
    ap tokens_answer same ∙ answered (act_tokens a readable) a (act_shallow a readable shallow) (ap statement_of (sym same) ∙ act_read a readable) (no_large a readable) short

pub line_answered : (a : Act) → IsReadableAct a → HasShortNames a → IsShallow a → text_answer (filled 66 (statement_text a)) ≡ Read a
line_answered a readable short shallow = ap tokens_answer (line_lexed a readable) ∙ act_answered a readable short shallow

pub no_header : (labelled : Bool) (a : Act) → IsReadableAct a → HasShortNames a → header_answer labelled (statement_text a) ≡ NoHeader
no_header labelled a readable short = ap (λ (tokens : List Token). header_answer_of labelled (header_of tokens)) (act_lexed a readable) ∙ ap (header_answer_of labelled) (act_header a readable short)

pub line_no_header : (labelled : Bool) (a : Act) → IsReadableAct a → HasShortNames a → header_answer labelled (filled 66 (statement_text a)) ≡ NoHeader
line_no_header labelled a readable short = ap (λ (tokens : List Token). header_answer_of labelled (header_of tokens)) (line_lexed a readable) ∙ no_header labelled a readable short
