-- No statement that is read back, and has names of six characters at most, reads as a header. What begins with another word is none;
-- an assignment and a DO have an `=`, which no expression has; and behind INTEGER, LOGICAL and REAL a name is too short for FUNCTION.
use Rattle.std.proofs.Common.{◌≡◌, ℕ, ◌<◌, ◌≤◌, Bool, true, false, cond, List, [], ◌∷◌, ◌++◌, length, Option, Some, None, refl, ap, codes, arith}
use Rattle.std.specs.Prelude.{unsigned_abs, nat_lt, ◌==◌, ◌||◌, decimal}
use Rattle.std.specs.List.{list_any}
use Rattle.std.proofs.lemmas.Bool.{ltb-false}
use Rattle.f66_tree.specs.declared.declaration.TypeWord.{TypeWord}
use Rattle.f66_tree.specs.declared.declaration.TypeWord.TheVariants.{Integer, Logical, Other}
use Rattle.f66_tree.specs.declared.expression.Operator.TheVariants.{Add, Sub}
use Rattle.f66_tree.specs.Syntax.{Formula, Int, Truth, Letter, Ref, Item, Group, Plus, Minus, Not, Pair, Formulas, NoFormula, AndFormula, Declared, Header, Act}
use Rattle.stmt_text.specs.Texts.{is_one}
use Rattle.stmt_reader.specs.declared.token.Token.{Token}
use Rattle.stmt_reader.specs.declared.token.Token.TheVariants as t
use Rattle.stmt_reader.specs.declared.lexer.Part.TheVariants.{Clear}
use Rattle.stmt_reader.specs.Declarations.{subroutine_in, function_in, subroutine_of, function_of, block_of, header_of}
use Rattle.stmt_reader.specs.Faults.{too_long, par_has, declared_has}
use Rattle.stmt_reader.specs.Lexing.{lexed}
use Rattle.stmt_reader.specs.Machine.{State, Wants, Has, Stuck, step, run, final, expression_of}
use Rattle.stmt_reader.specs.Spelling.{spell, spell_list, spell_more, spell_others}
use Rattle.stmt_reader.specs.Spelled.{spell_declared}
use Rattle.stmt_reader.specs.Taking.{then_if, or_else, without, after_word, place_if}
use Rattle.stmt_reader.proofs.Sound.{stays_stuck}
use Rattle.deck.specs.ReadableStatements.{IsReadableBranch, assignment, jump, computed, sign, bare_call, call, read, write, continuation, stop, stop_number, return, IsReadableAct, branch, conditional, loop, format, typed, dimension, common, equivalence, preset}
use Rattle.deck.proofs.BranchesRead.{par_token}
use Rattle.deck.proofs.PresetsRead.{data_first}
use Rattle.deck.proofs.TypesRead.{word_first}
use Rattle.deck_laws.specs.Fitting.{HasShortNames}
use Rattle.deck_laws.proofs.ActTokens.{type_letters, branch_tokens, act_tokens}

-- ---- tokens that no expression ends with ----

abbrev Spoils : List Token → Type 0
Spoils k = (s : State) → run s k ≡ Stuck

equals_spoils : (k : List Token) (s : State) → run s (t.Equals ∷ k) ≡ Stuck
equals_spoils k (Wants fs) = stays_stuck k
equals_spoils k (Has a fs) = stays_stuck k
equals_spoils k Stuck = stays_stuck k

mutual
  spell_spoils : (e : Formula) (k : List Token) → Spoils k → Spoils (spell e k)
  spell_spoils (Int z) k all = λ s. all (step s (t.Number (unsigned_abs z)))
  spell_spoils (Truth b) k all = λ s. all (step s (t.Truth b))
  spell_spoils (Letter c) k all = λ s. all (step s (t.Chars (c ∷ [])))
  spell_spoils (Ref x) k all = λ s. all (step s (t.Word x))
  spell_spoils (Item x es) k all = λ s. list_spoils es (t.Close ∷ k) (λ r. all (step r t.Close)) (step (step s (t.Word x)) t.Open)
  spell_spoils (Group a) k all = λ s. spell_spoils a (t.Close ∷ k) (λ r. all (step r t.Close)) (step s t.Open)
  spell_spoils (Plus a) k all = λ s. spell_spoils a k all (step s (t.Joint Add))
  spell_spoils (Minus a) k all = λ s. spell_spoils a k all (step s (t.Joint Sub))
  spell_spoils (Not a) k all = λ s. spell_spoils a k all (step s t.Not)
  spell_spoils (Pair op a b) k all = spell_spoils a (t.Joint op ∷ spell b k) (λ s. spell_spoils b k all (step s (t.Joint op)))

  list_spoils : (es : Formulas) (k : List Token) → Spoils k → Spoils (spell_list es k)
  list_spoils NoFormula k all = all
  list_spoils (AndFormula e es) k all = spell_spoils e (spell_more es k) (more_spoils es k all)

  more_spoils : (es : Formulas) (k : List Token) → Spoils k → Spoils (spell_more es k)
  more_spoils NoFormula k all = all
  more_spoils (AndFormula e es) k all = λ s. spell_spoils e (spell_more es k) (more_spoils es k all) (step s t.Comma)

front_spoils : (xs k : List Token) → Spoils k → Spoils (xs ++ k)
front_spoils [] k all = all
front_spoils (x ∷ xs) k all = λ s. front_spoils xs k all (step s x)

no_expression : (k : List Token) → Spoils k → expression_of k ≡ None
no_expression k all = ap final (all (Wants []))

no_subroutine : (k : List Token) → Spoils k → then_if (expression_of k) subroutine_in ≡ None
no_subroutine k all = ap (λ (o : Option Formula). then_if o subroutine_in) (no_expression k all)

no_function : (w : Option TypeWord) (k : List Token) → Spoils k → then_if (expression_of k) (function_in w) ≡ None
no_function w k all = ap (λ (o : Option Formula). then_if o (function_in w)) (no_expression k all)

no_block : (k : List Token) → Spoils k → block_of k ≡ None
no_block [] all = absurd (let no = all (Wants []) in cc)
no_block (token ∷ k) all = refl

-- ---- no header behind a word ----

behind_word : (letters w : List ℕ) (k : List Token) (gives : List Token → Option Header) → ((rest : List Token) → Spoils rest → gives rest ≡ None) → Spoils k → then_if (after_word letters (t.Word w ∷ k)) gives ≡ None
behind_word letters w k gives none all = by (without letters w)
  where
    by : (o : Option (List ℕ)) → then_if (then_if o (λ rest. Some (lexed (Clear false) rest ++ k))) gives ≡ None
    by None = refl
    by (Some rest) = none (lexed (Clear false) rest ++ k) (front_spoils (lexed (Clear false) rest) k all)

neither : (a b : Option Header) → a ≡ None → b ≡ None → or_else a b ≡ None
neither None b first second = second
neither (Some h) b first second = absurd cc

no_header : (w : List ℕ) (k : List Token) → Spoils k → header_of (t.Word w ∷ k) ≡ None
no_header w k all =
    let tokens : List Token = t.Word w ∷ k in
    neither (subroutine_of tokens) _ (behind_word (codes "SUBROUTINE") w k _ no_subroutine all)
    (neither (function_of (codes "FUNCTION") None tokens) _ (behind_word (codes "FUNCTION") w k _ (no_function None) all)
    (neither (function_of (codes "INTEGERFUNCTION") (Some Integer) tokens) _ (behind_word (codes "INTEGERFUNCTION") w k _ (no_function (Some Integer)) all)
    (neither (function_of (codes "LOGICALFUNCTION") (Some Logical) tokens) _ (behind_word (codes "LOGICALFUNCTION") w k _ (no_function (Some Logical)) all)
    (neither (function_of (codes "REALFUNCTION") (Some Other) tokens) _ (behind_word (codes "REALFUNCTION") w k _ (no_function (Some Other)) all)
    (neither (function_of (codes "DOUBLEPRECISIONFUNCTION") (Some Other) tokens) _ (behind_word (codes "DOUBLEPRECISIONFUNCTION") w k _ (no_function (Some Other)) all)
    (neither (function_of (codes "COMPLEXFUNCTION") (Some Other) tokens) _ (behind_word (codes "COMPLEXFUNCTION") w k _ (no_function (Some Other)) all)
    (behind_word (codes "BLOCKDATA") w k block_of no_block all)))))))

loop_header : (w : List ℕ) (k : List Token) → header_of (t.Word w ∷ t.Equals ∷ k) ≡ None
loop_header w k = no_header w (t.Equals ∷ k) (equals_spoils k)

assigned_header : (x e : Formula) → place_if x ≡ Some x → header_of (spell x (t.Equals ∷ spell e [])) ≡ None
assigned_header (Ref x) e place = no_header x (t.Equals ∷ spell e []) (equals_spoils (spell e []))
assigned_header (Item x es) e place =
    no_header x (t.Open ∷ spell_list es (t.Close ∷ t.Equals ∷ spell e []))
    (λ s. list_spoils es (t.Close ∷ t.Equals ∷ spell e []) (λ r. equals_spoils (spell e []) (step r t.Close)) (step s t.Open))
assigned_header _ e place = absurd cc

-- ---- names that are too short ----

too_short : (letters w : List ℕ) → length w < length letters → without letters w ≡ None
too_short [] w less = absurd (omega (arith, less))
too_short (c ∷ letters) [] less = refl
too_short (c ∷ letters) (d ∷ w) less = by (too_short letters w (omega (arith, less))) (c == d)
  where
    by : without letters w ≡ None → (b : Bool) → cond b (without letters w) None ≡ None
    by rest true = rest
    by rest false = refl

left_false : (a b : Bool) → (a || b) ≡ false → a ≡ false
left_false true b is = absurd cc
left_false false b is = refl

short_name : (d : Declared) (ds : List Declared) → list_any (declared_has too_long) (d ∷ ds) ≡ false → without (codes "FUNCTION") d.name ≡ None
short_name d ds is =
    let here = left_false (declared_has too_long d) (list_any (declared_has too_long) ds) is in
    let small : length d.name ≤ 6 = ltb-false 6 (length d.name) (left_false (nat_lt 6 (length d.name)) (list_any (par_has too_long) d.sizes) here) in
    too_short (codes "FUNCTION") d.name (omega (arith, small))

typed_header : (w : TypeWord) (d : Declared) (ds : List Declared) (k : List Token) → list_any (declared_has too_long) (d ∷ ds) ≡ false → header_of (t.Word (type_letters w ++ d.name) ∷ k) ≡ None
typed_header Integer d ds k is = let short = short_name d ds is in rw short refl
typed_header Logical d ds k is = let short = short_name d ds is in rw short refl
typed_header Other d ds k is = let short = short_name d ds is in rw short refl

-- ---- the statements ----

branch_header : (a : Act) (readable : IsReadableBranch a) → header_of (branch_tokens a readable) ≡ None
branch_header a (assignment x e place left right) = assigned_header x e place
branch_header a (jump l small) = refl
branch_header a (computed l ls x small all name) = refl
branch_header a (sign e l m n fine below zero_label above) = refl
branch_header a (bare_call x name) = refl
branch_header a (call x e es name first others) = refl
branch_header a (read u l es ru small all) = refl
branch_header a (write u l es ru small all) = refl
branch_header a continuation = refl
branch_header a stop = refl
branch_header a (stop_number n small) = refl
branch_header a return = refl

pub act_header : (a : Act) (readable : IsReadableAct a) → HasShortNames a → header_of (act_tokens a readable) ≡ None
act_header a (branch b readable) short = branch_header b readable
act_header a (conditional e b fine readable) short = refl
act_header a (loop l x first last step small name ra rb rc) short =
    loop_header (68 ∷ 79 ∷ (decimal l ++ x)) (par_token first ∷ t.Comma ∷ par_token last ∷ cond (is_one step) [] (t.Comma ∷ par_token step ∷ []))
act_header a (format fs all) short = refl
act_header a (typed w d ds first others) short =
    word_first (λ (tokens : List Token). header_of tokens ≡ None) (type_letters w ++ d.name) d.sizes (spell_others spell_declared t.Comma ds []) (λ k. typed_header w d ds k short)
act_header a (dimension d ds first others) short =
    word_first (λ (tokens : List Token). header_of tokens ≡ None) (codes "DIMENSION" ++ d.name) d.sizes (spell_others spell_declared t.Comma ds []) (λ k. refl)
act_header a (common areas fine) short = refl
act_header a (equivalence groups fine) short = refl
act_header a (preset parts fine) short = data_first (λ (tokens : List Token). header_of tokens ≡ None) parts fine (λ x k. refl)
