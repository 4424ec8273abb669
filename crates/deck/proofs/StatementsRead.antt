-- The texts of statements are read as these statements.
use Rattle.std.proofs.Common.{◌≡◌, true, false, List, [], ◌∷◌, Some, refl, ap, ◌∙◌}
use Rattle.f66_tree.specs.Syntax.{Formula, Act, Assign}
use Rattle.stmt_text.specs.Texts.{formula_text, statement_text}
use Rattle.stmt_reader.specs.declared.token.Token.{Token}
use Rattle.stmt_reader.specs.declared.token.Token.TheVariants as t
use Rattle.stmt_reader.specs.Levels.{stands}
use Rattle.stmt_reader.specs.Spelling.{spell}
use Rattle.stmt_reader.specs.Lexing.{tokens_of}
use Rattle.stmt_reader.specs.Machine.{expression_of}
use Rattle.stmt_reader.specs.Statements.{place_if, assignment_of, statement_of}
use Rattle.stmt_reader.proofs.Complete.{expression_spelled}
use Rattle.stmt_reader.proofs.Assignments.{assignment_spelled}
use Rattle.deck.specs.Readable.{is_readable}
use Rattle.deck.proofs.TextsRead.{text_lexed}

pub expression_read : (e : Formula) → stands 0 e ≡ true → is_readable e ≡ true → expression_of (tokens_of (formula_text e [])) ≡ Some e
expression_read e stood readable = ap expression_of (text_lexed e false [] readable tt) ∙ expression_spelled e stood

-- what is an assignment is no other statement
assignment_first : (tokens : List Token) (a : Act) → assignment_of tokens ≡ Some a → statement_of tokens ≡ Some a
assignment_first tokens a is = rw is refl

pub assignment_read : (x e : Formula) → place_if x ≡ Some x → stands 0 x ≡ true → is_readable x ≡ true → stands 0 e ≡ true → is_readable e ≡ true → statement_of (tokens_of (statement_text (Assign x e))) ≡ Some (Assign x e)
assignment_read x e place left left_readable right right_readable =
    let tokens : tokens_of (statement_text (Assign x e)) ≡ spell x (t.Equals ∷ spell e []) =
    text_lexed x false (61 ∷ formula_text e []) left_readable (refl, refl, refl, refl) ∙ ap (λ (k : List Token). spell x (t.Equals ∷ k)) (text_lexed e false [] right_readable tt) in
    ap statement_of tokens ∙ assignment_first (spell x (t.Equals ∷ spell e [])) (Assign x e) (assignment_spelled x e place left right)
