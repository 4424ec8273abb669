-- The texts of type statements and DIMENSION are read as these statements.
use Rattle.std.proofs.Common.{◌≡◌, ℕ, pos, negsuc, Bool, true, false, List, [], ◌∷◌, ◌++◌, Option, Some, None, refl, sym, ap, ◌∙◌, codes}
use Rattle.std.specs.List.{AllByRecursion, list_all}
use Rattle.std.proofs.lemmas.Bool.{and_parts}
use Rattle.f66_tree.specs.declared.declaration.TypeWord.{TypeWord}
use Rattle.f66_tree.specs.declared.declaration.TypeWord.TheVariants.{Integer, Logical, Other}
use Rattle.f66_tree.specs.Syntax.{Par, Constant, Named, Declared, Act, Typed, Dimension}
use Rattle.stmt_text.specs.Texts.{par_text, more_commas, in_parentheses, declared_text, statement_text}
use Rattle.stmt_reader.specs.declared.token.Token.{Token}
use Rattle.stmt_reader.specs.declared.token.Token.TheVariants as t
use Rattle.stmt_reader.specs.declared.lexer.Part.TheVariants.{Clear, InWord}
use Rattle.stmt_reader.specs.Levels.{is_name}
use Rattle.stmt_reader.specs.Spelling.{spell, spell_list, spell_more, spell_members, spell_others}
use Rattle.stmt_reader.specs.Spelled.{par_formula, par_formulas, sized_formula, declared_formula, spell_declared}
use Rattle.stmt_reader.specs.Exactness.{IsDeclared}
use Rattle.stmt_reader.specs.Lexing.{lexed, tokens_of}
use Rattle.stmt_reader.specs.Cutting.{fronted, cut, is_equals}
use Rattle.stmt_reader.specs.Declarations.{types_of, dimensions_of}
use Rattle.stmt_reader.specs.Statements.{or_else, then_if, after_word, assignment_of, statement_of}
use Rattle.stmt_reader.proofs.CutLemmas.{cut_spelled, equals_outside}
use Rattle.stmt_reader.proofs.CallReads.{cut_others}
use Rattle.stmt_reader.proofs.DeclaredReads.{declarations_spelled}
use Rattle.deck.specs.Readable.{is_readable_par, is_readable_declared}
use Rattle.deck.specs.ReadableStatements.{IsReadableDeclared}
use Rattle.deck.proofs.LexingLemmas.{IsBreak, word_goes_on, name_begins, word_ends}
use Rattle.deck.proofs.KeywordLemmas.{keyword_taken}
use Rattle.deck.proofs.BranchesRead.{name_alnum, par_token, par_lexed}
use Rattle.deck.proofs.CallsRead.{no_equals}
use Rattle.deck.proofs.KnownTokens.{is_known, AreKnown, spell_known, names_known}

-- ---- names with dimensions ----

par_spelled : (p : Par) (k : List Token) → is_readable_par p ≡ true → par_token p ∷ k ≡ spell (par_formula p) k
par_spelled (Constant (pos n)) k is = refl
par_spelled (Constant (negsuc n)) k is = absurd cc
par_spelled (Named x) k is = refl

pub more_break : {A : Type 0} (text : A → List ℕ → List ℕ) (all : List A) (k : List ℕ) → IsBreak k → IsBreak (more_commas text all k)
more_break text [] k b = b
more_break text (a ∷ all) k b = (refl, refl, refl, refl)

pars_lexed : (ps : List Par) (k : List ℕ) → list_all is_readable_par ps ≡ true → IsBreak k → lexed (Clear false) (more_commas par_text ps k) ≡ spell_more (par_formulas ps) (lexed (Clear false) k)
pars_lexed [] k is b = refl
pars_lexed (p ∷ ps) k is b =
    let a = and_parts (is_readable_par p) (list_all is_readable_par ps) is in
    ap (λ (y : List Token). t.Comma ∷ y)
    (par_lexed p true (more_commas par_text ps k) a.0 (more_break par_text ps k b) ∙ par_spelled p (lexed (Clear false) (more_commas par_text ps k)) a.0 ∙ ap (spell (par_formula p)) (pars_lexed ps k a.1 b))

-- a name with dimensions, where letters stand before it
word_sized : (w x : List ℕ) (sizes : List Par) (k : List ℕ) → is_name x ≡ true → list_all is_readable_par sizes ≡ true → IsBreak k
    → lexed (InWord w) (x ++ in_parentheses par_text sizes k) ≡ spell (sized_formula (w ++ x) sizes) (lexed (Clear false) k)
word_sized w x [] k name is b = word_goes_on w x k (name_alnum x name) ∙ word_ends (w ++ x) k b
word_sized w x (p ∷ ps) k name is b =
    let a = and_parts (is_readable_par p) (list_all is_readable_par ps) is in
    word_goes_on w x (40 ∷ par_text p (more_commas par_text ps (41 ∷ k))) (name_alnum x name)
    ∙ word_ends (w ++ x) (40 ∷ par_text p (more_commas par_text ps (41 ∷ k))) (refl, refl, refl, refl)
    ∙ ap (λ (y : List Token). t.Word (w ++ x) ∷ t.Open ∷ y)
    (par_lexed p true (more_commas par_text ps (41 ∷ k)) a.0 (more_break par_text ps (41 ∷ k) (refl, refl, refl, refl)) ∙ par_spelled p (lexed (Clear false) (more_commas par_text ps (41 ∷ k))) a.0
    ∙ ap (spell (par_formula p)) (pars_lexed ps (41 ∷ k) a.1 (refl, refl, refl, refl)))

pub declared_lexed : (h : Bool) (d : Declared) (k : List ℕ) → is_readable_declared d ≡ true → IsBreak k → lexed (Clear h) (declared_text d k) ≡ spell_declared d (lexed (Clear false) k)
declared_lexed h d k is b =
    let a = and_parts (is_name d.name) (list_all is_readable_par d.sizes) is in
    name_begins h d.name (in_parentheses par_text d.sizes k) a.0 ∙ sized_ends d.name d.sizes k a.1 b
  where
    sized_ends : (x : List ℕ) (sizes : List Par) (k : List ℕ) → list_all is_readable_par sizes ≡ true → IsBreak k → lexed (InWord x) (in_parentheses par_text sizes k) ≡ spell (sized_formula x sizes) (lexed (Clear false) k)
    sized_ends x [] k is b = word_ends x k b
    sized_ends x (p ∷ ps) k is b =
        let a = and_parts (is_readable_par p) (list_all is_readable_par ps) is in
        word_ends x (40 ∷ par_text p (more_commas par_text ps (41 ∷ k))) (refl, refl, refl, refl)
        ∙ ap (λ (y : List Token). t.Word x ∷ t.Open ∷ y)
        (par_lexed p true (more_commas par_text ps (41 ∷ k)) a.0 (more_break par_text ps (41 ∷ k) (refl, refl, refl, refl)) ∙ par_spelled p (lexed (Clear false) (more_commas par_text ps (41 ∷ k))) a.0
        ∙ ap (spell (par_formula p)) (pars_lexed ps (41 ∷ k) a.1 (refl, refl, refl, refl)))

pub others_declared : (ds : List Declared) (k : List ℕ) → AllByRecursion (λ d. is_readable_declared d ≡ true) ds → IsBreak k → lexed (Clear false) (more_commas declared_text ds k) ≡ spell_others spell_declared t.Comma ds (lexed (Clear false) k)
others_declared [] k all b = refl
others_declared (d ∷ ds) k all b =
    ap (λ (y : List Token). t.Comma ∷ y) (declared_lexed true d (more_commas declared_text ds k) all.0 (more_break declared_text ds k b) ∙ ap (spell_declared d) (others_declared ds k all.1 b))

pub names_stand : (ds : List Declared) → AllByRecursion IsReadableDeclared ds → AllByRecursion IsDeclared ds
names_stand [] all = tt
names_stand (d ∷ ds) all = (all.0.is_declared, names_stand ds all.1)

-- ---- the statements ----

-- the tokens of the text, and those behind its letters
record Read (letters : List ℕ) (d : Declared) (ds : List Declared) (tokens : List Token) : Type 0 where
  whole : tokens ≡ spell (sized_formula (letters ++ d.name) d.sizes) (spell_others spell_declared t.Comma ds [])
  behind_it : after_word letters tokens ≡ Some (spell_members spell_declared t.Comma d ds [])
  none : assignment_of tokens ≡ None

names_read : (letters : List ℕ) (d : Declared) (ds : List Declared) → is_readable_declared d ≡ true → AllByRecursion (λ a. is_readable_declared a ≡ true) ds
    → Read letters d ds (lexed (InWord letters) (declared_text d (more_commas declared_text ds [])))
names_read letters d ds first readable =
    let a = and_parts (is_name d.name) (list_all is_readable_par d.sizes) first in
    let others : lexed (Clear false) (more_commas declared_text ds []) ≡ spell_others spell_declared t.Comma ds [] = others_declared ds [] readable tt in
    let whole : lexed (InWord letters) (declared_text d (more_commas declared_text ds [])) ≡ spell (sized_formula (letters ++ d.name) d.sizes) (spell_others spell_declared t.Comma ds []) =
    word_sized letters d.name d.sizes (more_commas declared_text ds []) a.0 a.1 (more_break declared_text ds [] tt) ∙ ap (spell (sized_formula (letters ++ d.name) d.sizes)) others in
    let no_cut : cut is_equals 0 (spell (sized_formula (letters ++ d.name) d.sizes) (spell_others spell_declared t.Comma ds [])) ≡ None =
    cut_spelled is_equals equals_outside (sized_formula (letters ++ d.name) d.sizes) 0 (spell_others spell_declared t.Comma ds [])
    ∙ ap (fronted (spell (sized_formula (letters ++ d.name) d.sizes))) (cut_others is_equals refl spell_declared (λ b k. cut_spelled is_equals equals_outside (declared_formula b) 0 k) ds []) in
    record {
      whole = whole;
      behind_it = keyword_taken letters (declared_text d (more_commas declared_text ds [])) ∙ ap (λ (y : List Token). Some y) (declared_lexed false d (more_commas declared_text ds []) first (more_break declared_text ds [] tt) ∙ ap (spell_declared d) others);
      none = ap assignment_of whole ∙ no_equals (spell (sized_formula (letters ++ d.name) d.sizes) (spell_others spell_declared t.Comma ds [])) no_cut;
    }

-- what is spelled so begins with the word
pub word_first : (P : List Token → Type 0) (w : List ℕ) (sizes : List Par) (ks : List Token) → ((tokens : List Token) → P (t.Word w ∷ tokens)) → P (spell (sized_formula w sizes) ks)
word_first P w [] ks all = all ks
word_first P w (p ∷ ps) ks all = all (t.Open ∷ spell_list (par_formulas (p ∷ ps)) (t.Close ∷ ks))

abbrev Reads : List ℕ → Declared → List Declared → Act → List Token → Type 0
Reads letters d ds a tokens = assignment_of tokens ≡ None → after_word letters tokens ≡ Some (spell_members spell_declared t.Comma d ds []) → statement_of tokens ≡ Some a

by_word : (letters : List ℕ) (d : Declared) (ds : List Declared) (a : Act) → is_readable_declared d ≡ true → AllByRecursion (λ b. is_readable_declared b ≡ true) ds → ((tokens : List Token) → Reads letters d ds a (t.Word (letters ++ d.name) ∷ tokens))
    → statement_of (lexed (InWord letters) (declared_text d (more_commas declared_text ds []))) ≡ Some a
by_word letters d ds a first readable all =
    let r = names_read letters d ds first readable in
    ap statement_of r.whole
    ∙ word_first (Reads letters d ds a) (letters ++ d.name) d.sizes (spell_others spell_declared t.Comma ds []) all (ap assignment_of (sym r.whole) ∙ r.none) (ap (after_word letters) (sym r.whole) ∙ r.behind_it)

-- all its tokens
pub names_lexed : (letters : List ℕ) (d : Declared) (ds : List Declared) → is_readable_declared d ≡ true → AllByRecursion (λ b. is_readable_declared b ≡ true) ds
    → lexed (InWord letters) (declared_text d (more_commas declared_text ds [])) ≡ spell (sized_formula (letters ++ d.name) d.sizes) (spell_others spell_declared t.Comma ds [])
names_lexed letters d ds first readable = (names_read letters d ds first readable).whole

-- what stands behind the letters
pub names_behind : (letters : List ℕ) (d : Declared) (ds : List Declared) → is_readable_declared d ≡ true → AllByRecursion (λ b. is_readable_declared b ≡ true) ds
    → after_word letters (lexed (InWord letters) (declared_text d (more_commas declared_text ds []))) ≡ Some (spell_members spell_declared t.Comma d ds [])
names_behind letters d ds first readable = (names_read letters d ds first readable).behind_it

-- all its tokens are known
pub names_all_known : (letters : List ℕ) (d : Declared) (ds : List Declared) → is_readable_declared d ≡ true → AllByRecursion (λ b. is_readable_declared b ≡ true) ds → AreKnown (lexed (InWord letters) (declared_text d (more_commas declared_text ds [])))
names_all_known letters d ds first readable =
    ap (list_all is_known) (names_read letters d ds first readable).whole ∙ spell_known (sized_formula (letters ++ d.name) d.sizes) (spell_others spell_declared t.Comma ds []) (names_known ds [] refl)

pub specified : (o c r : Option Act) (a : Act) → o ≡ None → c ≡ Some a → or_else o (or_else None (or_else (or_else o None) (or_else None (or_else None (or_else c r))))) ≡ Some a
specified (Some b) c r a none is = absurd cc
specified None c r a none is = ap (λ (x : Option Act). or_else x r) is

pub types_read : (w : TypeWord) (d : Declared) (ds : List Declared) → IsDeclared d → AllByRecursion IsDeclared ds → is_readable_declared d ≡ true → AllByRecursion (λ b. is_readable_declared b ≡ true) ds
    → statement_of (tokens_of (statement_text (Typed w (d ∷ ds)))) ≡ Some (Typed w (d ∷ ds))
types_read Integer d ds declared all first readable =
    by_word (codes "INTEGER") d ds (Typed Integer (d ∷ ds)) first readable
    (λ tokens none behind_it. specified (assignment_of (t.Word (codes "INTEGER" ++ d.name) ∷ tokens)) (then_if (after_word (codes "INTEGER") (t.Word (codes "INTEGER" ++ d.name) ∷ tokens)) (types_of Integer)) None _ none
    (ap (λ (o : Option (List Token)). then_if o (types_of Integer)) behind_it ∙ ap (λ (o : Option (List Declared)). then_if o (λ b. Some (Typed Integer b))) (declarations_spelled d ds declared all)))
types_read Logical d ds declared all first readable =
    by_word (codes "LOGICAL") d ds (Typed Logical (d ∷ ds)) first readable
    (λ tokens none behind_it. specified (assignment_of (t.Word (codes "LOGICAL" ++ d.name) ∷ tokens)) (then_if (after_word (codes "LOGICAL") (t.Word (codes "LOGICAL" ++ d.name) ∷ tokens)) (types_of Logical)) None _ none
    (ap (λ (o : Option (List Token)). then_if o (types_of Logical)) behind_it ∙ ap (λ (o : Option (List Declared)). then_if o (λ b. Some (Typed Logical b))) (declarations_spelled d ds declared all)))
types_read Other d ds declared all first readable =
    by_word (codes "REAL") d ds (Typed Other (d ∷ ds)) first readable
    (λ tokens none behind_it. specified (assignment_of (t.Word (codes "REAL" ++ d.name) ∷ tokens)) (then_if (after_word (codes "REAL") (t.Word (codes "REAL" ++ d.name) ∷ tokens)) (types_of Other)) None _ none
    (ap (λ (o : Option (List Token)). then_if o (types_of Other)) behind_it ∙ ap (λ (o : Option (List Declared)). then_if o (λ b. Some (Typed Other b))) (declarations_spelled d ds declared all)))

pub dimensions_read : (d : Declared) (ds : List Declared) → IsDeclared d → AllByRecursion IsDeclared ds → is_readable_declared d ≡ true → AllByRecursion (λ b. is_readable_declared b ≡ true) ds
    → statement_of (tokens_of (statement_text (Dimension (d ∷ ds)))) ≡ Some (Dimension (d ∷ ds))
dimensions_read d ds declared all first readable =
    by_word (codes "DIMENSION") d ds (Dimension (d ∷ ds)) first readable
    (λ tokens none behind_it. specified (assignment_of (t.Word (codes "DIMENSION" ++ d.name) ∷ tokens)) (then_if (after_word (codes "DIMENSION") (t.Word (codes "DIMENSION" ++ d.name) ∷ tokens)) dimensions_of) None _ none
    (ap (λ (o : Option (List Token)). then_if o dimensions_of) behind_it ∙ ap (λ (o : Option (List Declared)). then_if o (λ b. Some (Dimension b))) (declarations_spelled d ds declared all)))
