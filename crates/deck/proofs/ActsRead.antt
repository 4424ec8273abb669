-- The text of each statement that can be read back is read as this statement.
use Rattle.std.proofs.Common.{◌≡◌, true, List, [], ◌∷◌, Some, refl}
use Rattle.std.specs.List.{AllByRecursion}
use Rattle.f66_tree.specs.Syntax.{Formula, Declared, Act}
use Rattle.stmt_text.specs.Texts.{statement_text}
use Rattle.stmt_reader.specs.Exactness.{IsArgument}
use Rattle.stmt_reader.specs.Lexing.{tokens_of}
use Rattle.stmt_reader.specs.Statements.{statement_of}
use Rattle.deck.specs.Readable.{is_readable_argument, is_readable_declared}
use Rattle.deck.specs.ReadableStatements.{IsReadableArgument, IsReadableDeclared, IsReadableBranch, assignment, jump, computed, sign, bare_call, call, read, write, continuation, stop, stop_number, return, IsReadableAct, branch, conditional, loop, format, typed, dimension, common, equivalence, preset}
use Rattle.deck.proofs.AsBranch.{ReadsAsBranch}
use Rattle.deck.proofs.StatementsRead.{assignment_read}
use Rattle.deck.proofs.BranchesRead.{goto_read, loop_read}
use Rattle.deck.proofs.CallsRead.{bare_call_read, call_read}
use Rattle.deck.proofs.TypesRead.{names_stand, types_read, dimensions_read}
use Rattle.deck.proofs.CommonsRead.{common_read}
use Rattle.deck.proofs.EquivalencesRead.{equivalence_read}
use Rattle.deck.proofs.PresetsRead.{preset_read}
use Rattle.deck.proofs.ChoicesRead.{choice_branch, choice_read, sign_branch, sign_read, stop_branch, stop_read}
use Rattle.deck.proofs.FormatsRead.{format_read}
use Rattle.deck.proofs.RecordsRead.{read_branch, read_read, write_branch, write_read}
use Rattle.deck.proofs.ConditionalsRead.{assignment_branch, goto_branch, bare_call_branch, call_branch, continue_branch, stop_alone_branch, return_branch, conditional_read}

arguments_stand : (es : List Formula) → AllByRecursion IsReadableArgument es → AllByRecursion IsArgument es
arguments_stand [] all = tt
arguments_stand (e ∷ es) all = (all.0.is_argument, arguments_stand es all.1)

pub arguments_readable : (es : List Formula) → AllByRecursion IsReadableArgument es → AllByRecursion (λ a. is_readable_argument a ≡ true) es
arguments_readable [] all = tt
arguments_readable (e ∷ es) all = (all.0.readable, arguments_readable es all.1)

pub names_readable : (ds : List Declared) → AllByRecursion IsReadableDeclared ds → AllByRecursion (λ d. is_readable_declared d ≡ true) ds
names_readable [] all = tt
names_readable (d ∷ ds) all = (all.0.readable, names_readable ds all.1)

-- a statement as a logical IF holds it
pub branch_reads : (a : Act) → IsReadableBranch a → ReadsAsBranch a
branch_reads a (assignment x e place left right) = assignment_branch x e place left right
branch_reads a (jump l small) = goto_branch l small
branch_reads a (computed l ls x small all name) = choice_branch l ls x small all name
branch_reads a (sign e l m n fine below zero_label above) = sign_branch e l m n fine below zero_label above
branch_reads a (bare_call x name) = bare_call_branch x name
branch_reads a (call x e es name first others) = call_branch x e es name first.is_argument (arguments_stand es others) first.readable (arguments_readable es others)
branch_reads a (read u l es ru small all) = read_branch u l es ru small all
branch_reads a (write u l es ru small all) = write_branch u l es ru small all
branch_reads a continuation = continue_branch
branch_reads a stop = stop_alone_branch
branch_reads a (stop_number n small) = stop_branch n small
branch_reads a return = return_branch

branch_alone : (a : Act) → IsReadableBranch a → statement_of (tokens_of (statement_text a)) ≡ Some a
branch_alone a (assignment x e place left right) = assignment_read x e place left.stands left.readable right.stands right.readable
branch_alone a (jump l small) = goto_read l small
branch_alone a (computed l ls x small all name) = choice_read l ls x small all name
branch_alone a (sign e l m n fine below zero_label above) = sign_read e l m n fine below zero_label above
branch_alone a (bare_call x name) = bare_call_read x name
branch_alone a (call x e es name first others) = call_read x e es name first.is_argument (arguments_stand es others) first.readable (arguments_readable es others)
branch_alone a (read u l es ru small all) = read_read u l es ru small all
branch_alone a (write u l es ru small all) = write_read u l es ru small all
branch_alone a continuation = refl
branch_alone a stop = refl
branch_alone a (stop_number n small) = stop_read n small
branch_alone a return = refl

pub act_read : (a : Act) → IsReadableAct a → statement_of (tokens_of (statement_text a)) ≡ Some a
act_read a (branch b readable) = branch_alone b readable
act_read a (conditional e b fine readable) = conditional_read e b fine (branch_reads b readable)
act_read a (loop l x first last step small name ra rb rc) = loop_read l x first last step small name ra rb rc
act_read a (format fs all) = format_read fs all
act_read a (typed w d ds first others) = types_read w d ds first.is_declared (names_stand ds others) first.readable (names_readable ds others)
act_read a (dimension d ds first others) = dimensions_read d ds first.is_declared (names_stand ds others) first.readable (names_readable ds others)
act_read a (common areas fine) = common_read areas fine
act_read a (equivalence groups fine) = equivalence_read groups fine
act_read a (preset parts fine) = preset_read parts fine
