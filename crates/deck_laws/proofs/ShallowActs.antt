-- The tokens of a statement have no more open parentheses than the statement.
use Rattle.std.proofs.Common.{ℕ, ◌≤◌, cond, List, [], ◌∷◌, ◌++◌, refl, arith, codes}
use Rattle.std.specs.Prelude.{max, decimal}
use Rattle.f66_tree.specs.Syntax.{Text, Par, Declared, Entries, Act}
use Rattle.stmt_text.specs.Texts.{is_one}
use Rattle.stmt_reader.specs.declared.token.Token.{Token}
use Rattle.stmt_reader.specs.declared.token.Token.TheVariants as t
use Rattle.stmt_reader.specs.Formats.{spell_items}
use Rattle.stmt_reader.specs.Spelling.{spell, spell_others}
use Rattle.stmt_reader.specs.Spelled.{spell_declared, spell_label}
use Rattle.deck.specs.ReadableStatements.{IsReadableBranch, assignment, jump, computed, sign, bare_call, call, read, write, continuation, stop, stop_number, return, IsReadableAct, branch, conditional, loop, format, typed, dimension, common, equivalence, preset}
use Rattle.deck.proofs.BranchesRead.{par_token}
use Rattle.deck.proofs.EntriesRead.{spell_entries}
use Rattle.deck.proofs.FormatTexts.{written}
use Rattle.deck.proofs.RecordsRead.{record_tokens}
use Rattle.deck_laws.specs.Nesting.{deepest, declared_nesting, entries_nesting}
use Rattle.deck_laws.specs.Fitting.{IsShallow}
use Rattle.deck_laws.proofs.ActTokens.{type_letters, names_tokens, branch_tokens, act_tokens}
use Rattle.deck_laws.proofs.ShallowSpecifications.{common_shallow, equivalence_shallow, preset_shallow}
use Rattle.deck_laws.proofs.ShallowTokens.{StayShallow, keeps, opens, closes, spell_shallow, labels_shallow, arguments_shallow, sized_shallow, names_shallow, par_shallow, step_shallow, entries_shallow, fields_shallow}

record_shallow : (w : Text) (u : Par) (l : ℕ) (es : Entries) → max 1 (entries_nesting es) ≤ 110 → StayShallow 0 (t.Word w ∷ t.Open ∷ record_tokens u l es)
record_shallow w u l es room =
    keeps 0 (t.Word w) (t.Open ∷ record_tokens u l es) refl
    (opens 0 (record_tokens u l es)
    (par_shallow u 1 (t.Comma ∷ t.Number l ∷ t.Close ∷ spell_entries es [])
    (keeps 1 t.Comma (t.Number l ∷ t.Close ∷ spell_entries es []) refl
    (keeps 1 (t.Number l) (t.Close ∷ spell_entries es []) refl (closes 0 (spell_entries es []) (omega arith) (entries_shallow es 0 [] (omega (arith, room)) refl))))))

branch_shallow : (a : Act) (readable : IsReadableBranch a) → IsShallow a → StayShallow 0 (branch_tokens a readable)
branch_shallow a (assignment x e place left right) room =
    spell_shallow x 0 (t.Equals ∷ spell e []) (omega (arith, room)) (keeps 0 t.Equals (spell e []) refl (spell_shallow e 0 [] (omega (arith, room)) refl))
branch_shallow a (jump l small) room = refl
branch_shallow a (computed l ls x small all name) room =
    let more : List Token = spell_others spell_label t.Comma ls (t.Close ∷ t.Comma ∷ t.Word x ∷ []) in
    keeps 0 (t.Word (codes "GOTO")) (t.Open ∷ t.Number l ∷ more) refl
    (opens 0 (t.Number l ∷ more) (keeps 1 (t.Number l) more refl (labels_shallow ls 1 (t.Close ∷ t.Comma ∷ t.Word x ∷ []) refl)))
branch_shallow a (sign e l m n fine below zero_label above) room =
    let labels : List Token = t.Number l ∷ spell_others spell_label t.Comma (m ∷ n ∷ []) [] in
    keeps 0 (t.Word (codes "IF")) (t.Open ∷ spell e (t.Close ∷ labels)) refl (opens 0 (spell e (t.Close ∷ labels)) (spell_shallow e 1 (t.Close ∷ labels) (omega (arith, room)) refl))
branch_shallow a (bare_call x name) room = refl
branch_shallow a (call x e es name first others) room =
    let more : List Token = spell_others spell t.Comma es (t.Close ∷ []) in
    keeps 0 (t.Word (codes "CALL" ++ x)) (t.Open ∷ spell e more) refl
    (opens 0 (spell e more) (spell_shallow e 1 more (omega (arith, room)) (arguments_shallow es 1 (t.Close ∷ []) (omega (arith, room)) refl)))
branch_shallow a (read u l es ru small all) room = record_shallow (codes "READ") u l es room
branch_shallow a (write u l es ru small all) room = record_shallow (codes "WRITE") u l es room
branch_shallow a continuation room = refl
branch_shallow a stop room = refl
branch_shallow a (stop_number n small) room = refl
branch_shallow a return room = refl

names_stay : (letters : Text) (d : Declared) (ds : List Declared) → deepest declared_nesting (d ∷ ds) ≤ 110 → StayShallow 0 (names_tokens letters d ds)
names_stay letters d ds room = sized_shallow (letters ++ d.name) d.sizes 0 (spell_others spell_declared t.Comma ds []) (omega (arith, room)) (names_shallow ds 0 [] (omega (arith, room)) refl)

pub act_shallow : (a : Act) (readable : IsReadableAct a) → IsShallow a → StayShallow 0 (act_tokens a readable)
act_shallow a (branch b readable) room = branch_shallow b readable room
act_shallow a (conditional e b fine readable) room =
    let inside : List Token = branch_tokens b readable in
    let behind_it : StayShallow 0 (branch_tokens b readable) = branch_shallow b readable (omega (arith, room)) in
    keeps 0 (t.Word (codes "IF")) (t.Open ∷ spell e (t.Close ∷ inside)) refl (opens 0 (spell e (t.Close ∷ inside)) (spell_shallow e 1 (t.Close ∷ inside) (omega (arith, room)) (closes 0 inside (omega arith) behind_it)))
act_shallow a (loop l x first last step small name ra rb rc) room =
    let more : List Token = cond (is_one step) [] (t.Comma ∷ par_token step ∷ []) in
    keeps 0 (t.Word (68 ∷ 79 ∷ (decimal l ++ x))) (t.Equals ∷ par_token first ∷ t.Comma ∷ par_token last ∷ more) refl
    (keeps 0 t.Equals (par_token first ∷ t.Comma ∷ par_token last ∷ more) refl
    (par_shallow first 0 (t.Comma ∷ par_token last ∷ more) (keeps 0 t.Comma (par_token last ∷ more) refl (par_shallow last 0 more (step_shallow step (is_one step) 0 [] refl)))))
act_shallow a (format fs all) room =
    keeps 0 (t.Word (codes "FORMAT")) (t.Open ∷ spell_items (written fs) (t.Close ∷ [])) refl (opens 0 (spell_items (written fs) (t.Close ∷ [])) (fields_shallow fs 1 (t.Close ∷ []) (omega (arith, room)) refl))
act_shallow a (typed w d ds first others) room = names_stay (type_letters w) d ds room
act_shallow a (dimension d ds first others) room = names_stay (codes "DIMENSION") d ds room
act_shallow a (common areas fine) room = common_shallow areas room
act_shallow a (equivalence groups fine) room = equivalence_shallow groups room
act_shallow a (preset parts fine) room = preset_shallow parts fine room
