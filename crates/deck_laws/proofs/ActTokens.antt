-- The tokens of the text of each statement that is read back.
use Rattle.std.proofs.Common.{◌≡◌, ℕ, true, false, List, [], ◌∷◌, ◌++◌, cond, refl, sym, ap, ◌∙◌, codes}
use Rattle.std.specs.Prelude.{decimal}
use Rattle.std.specs.Fmt.{digits}
use Rattle.std.specs.List.{AllByRecursion}
use Rattle.f66_tree.specs.declared.declaration.TypeWord.{TypeWord}
use Rattle.f66_tree.specs.declared.declaration.TypeWord.TheVariants.{Integer, Logical, Other}
use Rattle.f66_tree.specs.Syntax.{Text, Formula, Declared, Act, Invoke}
use Rattle.f66_tree.specs.Views.{chained}
use Rattle.stmt_text.specs.Texts.{formulas_text, is_one, statement_text}
use Rattle.stmt_reader.specs.declared.token.Token.{Token}
use Rattle.stmt_reader.specs.declared.token.Token.TheVariants as t
use Rattle.stmt_reader.specs.Lexing.{tokens_of}
use Rattle.stmt_reader.specs.Levels.{is_name}
use Rattle.stmt_reader.specs.Spelling.{spell, spell_members, spell_others}
use Rattle.stmt_reader.specs.Spelled.{sized_formula, spell_declared}
use Rattle.stmt_reader.specs.Formats.{spell_items}
use Rattle.deck.specs.ReadableStatements.{IsReadableArgument, IsReadableBranch, assignment, jump, computed, sign, bare_call, call, read, write, continuation, stop, stop_number, return, IsReadableAct, branch, conditional, loop, format, typed, dimension, common, equivalence, preset}
use Rattle.deck.proofs.BranchesRead.{par_token, goto_lexed, loop_lexed}
use Rattle.deck.proofs.CallsRead.{call_behind, arguments_lexed}
use Rattle.deck.proofs.CommonsRead.{spell_areas, common_lexed}
use Rattle.deck.proofs.EquivalencesRead.{spell_group, equivalence_lexed}
use Rattle.deck.proofs.ListsRead.{spell_some}
use Rattle.deck.proofs.PresetsRead.{preset_tokens, preset_lexed}
use Rattle.deck.proofs.ChoicesRead.{choice_tokens, choice_lexed, sign_tokens, sign_lexed, stop_tokens}
use Rattle.deck.proofs.ConditionalsRead.{assignment_lexed, conditional_lexed}
use Rattle.deck.proofs.FormatTexts.{written}
use Rattle.deck.proofs.FormatsRead.{format_lexed}
use Rattle.deck.proofs.RecordsRead.{record_tokens, read_lexed, write_lexed}
use Rattle.deck.proofs.TypesRead.{names_lexed}
use Rattle.deck.proofs.ActsRead.{arguments_readable, branch_reads, names_readable}

-- a CALL with arguments, and without
abbrev pub call_tokens : Text → List Formula → List Token
call_tokens x [] = t.Word (codes "CALL" ++ x) ∷ []
call_tokens x (e ∷ es) = t.Word (codes "CALL" ++ x) ∷ t.Open ∷ spell_members spell t.Comma e es (t.Close ∷ [])

-- names behind the word of a specification
abbrev pub names_tokens : List ℕ → Declared → List Declared → List Token
names_tokens letters d ds = spell (sized_formula (letters ++ d.name) d.sizes) (spell_others spell_declared t.Comma ds [])

call_lexed : (x : Text) (e : Formula) (es : List Formula) → is_name x ≡ true → IsReadableArgument e → AllByRecursion IsReadableArgument es → tokens_of (statement_text (Invoke x (chained (e ∷ es)))) ≡ call_tokens x (e ∷ es)
call_lexed x e es name first others =
    let inside = ap (λ (y : List Token). t.Open ∷ y) (arguments_lexed e es (41 ∷ []) first.readable (arguments_readable es others) (refl, refl, refl, refl)) in
    (call_behind x (40 ∷ formulas_text (chained (e ∷ es)) (41 ∷ [])) (t.Open ∷ spell_members spell t.Comma e es (t.Close ∷ [])) name (refl, refl, refl, refl) inside).0

-- ---- by what holds of the statement ----

abbrev pub branch_tokens : (a : Act) → IsReadableBranch a → List Token
branch_tokens a (assignment x e place left right) = spell x (t.Equals ∷ spell e [])
branch_tokens a (jump l small) = t.Word (71 ∷ 79 ∷ 84 ∷ 79 ∷ decimal l) ∷ []
branch_tokens a (computed l ls x small all name) = t.Word (codes "GOTO") ∷ choice_tokens l ls x
branch_tokens a (sign e l m n fine below zero_label above) = t.Word (codes "IF") ∷ sign_tokens e l m n
branch_tokens a (bare_call x name) = call_tokens x []
branch_tokens a (call x e es name first others) = call_tokens x (e ∷ es)
branch_tokens a (read u l es ru small all) = t.Word (codes "READ") ∷ t.Open ∷ record_tokens u l es
branch_tokens a (write u l es ru small all) = t.Word (codes "WRITE") ∷ t.Open ∷ record_tokens u l es
branch_tokens a continuation = t.Word (codes "CONTINUE") ∷ []
branch_tokens a stop = t.Word (codes "STOP") ∷ []
branch_tokens a (stop_number n small) = t.Word (codes "STOP" ++ digits 8 false n) ∷ []
branch_tokens a return = t.Word (codes "RETURN") ∷ []

abbrev pub type_letters : TypeWord → List ℕ
type_letters Integer = codes "INTEGER"
type_letters Logical = codes "LOGICAL"
type_letters Other = codes "REAL"

abbrev pub act_tokens : (a : Act) → IsReadableAct a → List Token
act_tokens a (branch b readable) = branch_tokens b readable
act_tokens a (conditional e b fine readable) = t.Word (codes "IF") ∷ t.Open ∷ spell e (t.Close ∷ branch_tokens b readable)
act_tokens a (loop l x first last step small name ra rb rc) = t.Word (68 ∷ 79 ∷ (decimal l ++ x)) ∷ t.Equals ∷ par_token first ∷ t.Comma ∷ par_token last ∷ cond (is_one step) [] (t.Comma ∷ par_token step ∷ [])
act_tokens a (format fs all) = t.Word (codes "FORMAT") ∷ t.Open ∷ spell_items (written fs) (t.Close ∷ [])
act_tokens a (typed w d ds first others) = names_tokens (type_letters w) d ds
act_tokens a (dimension d ds first others) = names_tokens (codes "DIMENSION") d ds
act_tokens a (common areas fine) = t.Word (codes "COMMON") ∷ spell_areas areas []
act_tokens a (equivalence groups fine) = t.Word (codes "EQUIVALENCE") ∷ spell_some spell_group groups []
act_tokens a (preset parts fine) = preset_tokens parts

pub branch_lexed : (a : Act) (readable : IsReadableBranch a) → tokens_of (statement_text a) ≡ branch_tokens a readable
branch_lexed a (assignment x e place left right) = assignment_lexed x e left right
branch_lexed a (jump l small) = goto_lexed l small
branch_lexed a (computed l ls x small all name) = choice_lexed l ls x small all name
branch_lexed a (sign e l m n fine below zero_label above) = sign_lexed e l m n fine below zero_label above
branch_lexed a (bare_call x name) = (call_behind x [] [] name tt refl).0
branch_lexed a (call x e es name first others) = call_lexed x e es name first others
branch_lexed a (read u l es ru small all) = read_lexed u l es ru small all
branch_lexed a (write u l es ru small all) = write_lexed u l es ru small all
branch_lexed a continuation = refl
branch_lexed a stop = refl
branch_lexed a (stop_number n small) = stop_tokens n small
branch_lexed a return = refl

pub act_lexed : (a : Act) (readable : IsReadableAct a) → tokens_of (statement_text a) ≡ act_tokens a readable
act_lexed a (branch b readable) = branch_lexed b readable
act_lexed a (conditional e b fine readable) =
    let r = branch_reads b readable in
    conditional_lexed e b fine r ∙ ap (λ (y : List Token). t.Word (codes "IF") ∷ t.Open ∷ spell e (t.Close ∷ y)) (sym r.tokens ∙ branch_lexed b readable)
act_lexed a (loop l x first last step small name ra rb rc) = loop_lexed l x first last step small name ra rb rc
act_lexed a (format fs all) = format_lexed fs all
act_lexed a (typed Integer d ds first others) = names_lexed (codes "INTEGER") d ds first.readable (names_readable ds others)
act_lexed a (typed Logical d ds first others) = names_lexed (codes "LOGICAL") d ds first.readable (names_readable ds others)
act_lexed a (typed Other d ds first others) = names_lexed (codes "REAL") d ds first.readable (names_readable ds others)
act_lexed a (dimension d ds first others) = names_lexed (codes "DIMENSION") d ds first.readable (names_readable ds others)
act_lexed a (common areas fine) = common_lexed areas fine
act_lexed a (equivalence groups fine) = equivalence_lexed groups fine
act_lexed a (preset parts fine) = preset_lexed parts fine
