-- The text of a header is read as this header: but for its words it is that of a name with names for dimensions.
use Rattle.std.proofs.Common.{◌≡◌, ℕ, true, false, List, [], ◌∷◌, ◌++◌, length, Option, Some, None, refl, sym, ap, subst, ◌∙◌, codes, append_assoc}
use Rattle.std.specs.Prelude.{nat_lt, ◌||◌}
use Rattle.std.specs.List.{list_all, list_any, AllByRecursion}
use Rattle.std.proofs.lemmas.Bool.{le-ltb, and_from}
use Rattle.std.proofs.lemmas.List.{append-nil}
use Rattle.f66_tree.specs.declared.declaration.TypeWord.{TypeWord}
use Rattle.f66_tree.specs.declared.declaration.TypeWord.TheVariants.{Integer, Logical, Other}
use Rattle.f66_tree.specs.Syntax.{Text, Formula, Par, Named, Declared, Header, MainUnit, SubUnit, FuncUnit, DataUnit}
use Rattle.stmt_text.specs.Texts.{name_text, par_text, more_commas, in_parentheses, declared_text, header_text}
use Rattle.stmt_reader.specs.declared.token.Token.{Token}
use Rattle.stmt_reader.specs.declared.token.Token.TheVariants as t
use Rattle.stmt_reader.specs.declared.lexer.Part.TheVariants.{InWord}
use Rattle.stmt_reader.specs.Declarations.{names_onto, subroutine_in, function_in, subroutine_of, function_of, header_of}
use Rattle.stmt_reader.specs.Exactness.{IsDeclared}
use Rattle.stmt_reader.specs.Faults.{too_long, HeaderRead, header_has_name, header_answer_of, header_answer}
use Rattle.stmt_reader.specs.Levels.{is_name, stand_all, are_arguments}
use Rattle.stmt_reader.specs.Lexing.{lexed, tokens_of}
use Rattle.stmt_reader.specs.Machine.{expression_of}
use Rattle.stmt_reader.specs.Spelled.{par_formulas, declared_formula}
use Rattle.stmt_reader.specs.Taking.{then_if, or_else, after_word}
use Rattle.stmt_reader.proofs.Complete.{expression_spelled}
use Rattle.deck.specs.Readable.{is_readable_par, is_readable_declared}
use Rattle.deck.specs.Written.{filled}
use Rattle.deck.proofs.KnownTokens.{is_known, AreKnown}
use Rattle.deck.proofs.LinesRead.{known_filled}
use Rattle.deck.proofs.TypesRead.{word_first, names_lexed, names_behind, names_all_known}
use Rattle.deck_laws.specs.Headers.{IsShortName, HasHeader, IsReadableHeader}

-- ---- as a name with dimensions ----

abbrev dummies : List Text → List Par
dummies [] = []
dummies (d ∷ ds) = Named d ∷ dummies ds

abbrev headed : Text → List Text → Declared
headed x ds = record { name = x; sizes = dummies ds }

more_same : (ds : List Text) (k : List ℕ) → more_commas name_text ds k ≡ more_commas par_text (dummies ds) k
more_same [] k = refl
more_same (d ∷ ds) k = ap (λ (y : List ℕ). 44 ∷ (d ++ y)) (more_same ds k)

names_same : (ds : List Text) (k : List ℕ) → in_parentheses name_text ds k ≡ in_parentheses par_text (dummies ds) k
names_same [] k = refl
names_same (d ∷ ds) k = ap (λ (y : List ℕ). 40 ∷ (d ++ y)) (more_same ds (41 ∷ k))

dummies_readable : (ds : List Text) → AllByRecursion IsShortName ds → list_all is_readable_par (dummies ds) ≡ true
dummies_readable [] all = refl
dummies_readable (d ∷ ds) all = and_from (is_name d) (list_all is_readable_par (dummies ds)) all.0.0 (dummies_readable ds all.1)

dummies_stand : (ds : List Text) → AllByRecursion IsShortName ds → stand_all (par_formulas (dummies ds)) ≡ true
dummies_stand [] all = refl
dummies_stand (d ∷ ds) all = and_from (is_name d) (stand_all (par_formulas (dummies ds))) all.0.0 (dummies_stand ds all.1)

headed_readable : (x : Text) (ds : List Text) → IsShortName x → AllByRecursion IsShortName ds → is_readable_declared (headed x ds) ≡ true
headed_readable x ds name all = and_from (is_name x) (list_all is_readable_par (dummies ds)) name.0 (dummies_readable ds all)

headed_stands : (x : Text) (ds : List Text) → IsShortName x → AllByRecursion IsShortName ds → IsDeclared (headed x ds)
headed_stands x [] name all = name.0
headed_stands x (d ∷ ds) name all =
    and_from (is_name x) (are_arguments (par_formulas (dummies (d ∷ ds)))) name.0 (and_from (is_name d) (stand_all (par_formulas (dummies ds))) all.0.0 (dummies_stand ds all.1))

-- its names again
names_again : (ds before : List Text) → names_onto before (par_formulas (dummies ds)) ≡ Some (before ++ ds)
names_again [] before = ap (λ (y : List Text). Some y) (sym (append-nil before))
names_again (d ∷ ds) before = names_again ds (before ++ d ∷ []) ∙ ap (λ (y : List Text). Some y) (append_assoc before (d ∷ []) ds)

subroutine_again : (x : Text) (ds : List Text) → subroutine_in (declared_formula (headed x ds)) ≡ Some (SubUnit x ds)
subroutine_again x [] = refl
subroutine_again x (d ∷ ds) = ap (λ (o : Option (List Text)). then_if o (λ names. Some (SubUnit x names))) (names_again (d ∷ ds) [])

function_again : (w : Option TypeWord) (x : Text) (d : Text) (ds : List Text) → function_in w (declared_formula (headed x (d ∷ ds))) ≡ Some (FuncUnit w x (d ∷ ds))
function_again w x d ds = ap (λ (o : Option (List Text)). then_if o (λ names. Some (FuncUnit w x names))) (names_again (d ∷ ds) [])

-- ---- behind its words ----

abbrev text_behind : List ℕ → Text → List Text → List Token
text_behind letters x ds = lexed (InWord letters) (declared_text (headed x ds) [])

read_behind : (letters : List ℕ) (x : Text) (ds : List Text) (gives : Formula → Option Header) (h : Header) → IsShortName x → AllByRecursion IsShortName ds → gives (declared_formula (headed x ds)) ≡ Some h
    → then_if (after_word letters (text_behind letters x ds)) (λ rest. then_if (expression_of rest) gives) ≡ Some h
read_behind letters x ds gives h name all is =
    ap (λ (o : Option (List Token)). then_if o (λ rest. then_if (expression_of rest) gives)) (names_behind letters (headed x ds) [] (headed_readable x ds name all) tt)
    ∙ ap (λ (o : Option Formula). then_if o gives) (expression_spelled (declared_formula (headed x ds)) (headed_stands x ds name all))
    ∙ is

first : (a b : Option Header) (h : Header) → a ≡ Some h → or_else a b ≡ Some h
first a b h is = ap (λ (o : Option Header). or_else o b) is

-- what holds of tokens that begin with the word holds of these
by_word : (letters : List ℕ) (x : Text) (ds : List Text) (P : List Token → Type 0) → IsShortName x → AllByRecursion IsShortName ds → ((tokens : List Token) → P (t.Word (letters ++ x) ∷ tokens)) → P (text_behind letters x ds)
by_word letters x ds P name all holds = subst P (sym (names_lexed letters (headed x ds) [] (headed_readable x ds name all) tt)) (word_first P (letters ++ x) (dummies ds) [] holds)

abbrev IsFunction : List ℕ → Option TypeWord → Header → List Token → Type 0
IsFunction letters w h tokens = function_of letters w tokens ≡ Some h → header_of tokens ≡ Some h

plain_first : (x : Text) (h : Header) (tokens : List Token) → IsFunction (codes "FUNCTION") None h (t.Word (codes "FUNCTION" ++ x) ∷ tokens)
plain_first x h tokens is = first (function_of (codes "FUNCTION") None (t.Word (codes "FUNCTION" ++ x) ∷ tokens)) _ h is

integer_first : (x : Text) (h : Header) (tokens : List Token) → IsFunction (codes "INTEGERFUNCTION") (Some Integer) h (t.Word (codes "INTEGERFUNCTION" ++ x) ∷ tokens)
integer_first x h tokens is = first (function_of (codes "INTEGERFUNCTION") (Some Integer) (t.Word (codes "INTEGERFUNCTION" ++ x) ∷ tokens)) _ h is

logical_first : (x : Text) (h : Header) (tokens : List Token) → IsFunction (codes "LOGICALFUNCTION") (Some Logical) h (t.Word (codes "LOGICALFUNCTION" ++ x) ∷ tokens)
logical_first x h tokens is = first (function_of (codes "LOGICALFUNCTION") (Some Logical) (t.Word (codes "LOGICALFUNCTION" ++ x) ∷ tokens)) _ h is

real_first : (x : Text) (h : Header) (tokens : List Token) → IsFunction (codes "REALFUNCTION") (Some Other) h (t.Word (codes "REALFUNCTION" ++ x) ∷ tokens)
real_first x h tokens is = first (function_of (codes "REALFUNCTION") (Some Other) (t.Word (codes "REALFUNCTION" ++ x) ∷ tokens)) _ h is

-- ---- the text of each header ----

abbrev header_letters : Header → List ℕ
header_letters MainUnit = []
header_letters (SubUnit x ds) = codes "SUBROUTINE"
header_letters (FuncUnit None x ds) = codes "FUNCTION"
header_letters (FuncUnit (Some Integer) x ds) = codes "INTEGERFUNCTION"
header_letters (FuncUnit (Some Logical) x ds) = codes "LOGICALFUNCTION"
header_letters (FuncUnit (Some Other) x ds) = codes "REALFUNCTION"
header_letters DataUnit = []

subroutine_lexed : (x : Text) (ds : List Text) → tokens_of (header_text (SubUnit x ds)) ≡ text_behind (codes "SUBROUTINE") x ds
subroutine_lexed x ds = ap (λ (y : List ℕ). lexed (InWord (codes "SUBROUTINE")) (x ++ y)) (names_same ds [])

function_lexed : (w : Option TypeWord) (x d : Text) (ds : List Text) → tokens_of (header_text (FuncUnit w x (d ∷ ds))) ≡ text_behind (header_letters (FuncUnit w x (d ∷ ds))) x (d ∷ ds)
function_lexed None x d ds = ap (λ (y : List ℕ). lexed (InWord (codes "FUNCTION")) (x ++ y)) (names_same (d ∷ ds) [])
function_lexed (Some Integer) x d ds = ap (λ (y : List ℕ). lexed (InWord (codes "INTEGERFUNCTION")) (x ++ y)) (names_same (d ∷ ds) [])
function_lexed (Some Logical) x d ds = ap (λ (y : List ℕ). lexed (InWord (codes "LOGICALFUNCTION")) (x ++ y)) (names_same (d ∷ ds) [])
function_lexed (Some Other) x d ds = ap (λ (y : List ℕ). lexed (InWord (codes "REALFUNCTION")) (x ++ y)) (names_same (d ∷ ds) [])

function_read : (w : Option TypeWord) (x d : Text) (ds : List Text) → IsShortName x → AllByRecursion IsShortName (d ∷ ds) → header_of (text_behind (header_letters (FuncUnit w x (d ∷ ds))) x (d ∷ ds)) ≡ Some (FuncUnit w x (d ∷ ds))
function_read None x d ds name all =
    by_word (codes "FUNCTION") x (d ∷ ds) (IsFunction (codes "FUNCTION") None (FuncUnit None x (d ∷ ds))) name all (plain_first x (FuncUnit None x (d ∷ ds)))
    (read_behind (codes "FUNCTION") x (d ∷ ds) (function_in None) (FuncUnit None x (d ∷ ds)) name all (function_again None x d ds))
function_read (Some Integer) x d ds name all =
    by_word (codes "INTEGERFUNCTION") x (d ∷ ds) (IsFunction (codes "INTEGERFUNCTION") (Some Integer) (FuncUnit (Some Integer) x (d ∷ ds))) name all (integer_first x (FuncUnit (Some Integer) x (d ∷ ds)))
    (read_behind (codes "INTEGERFUNCTION") x (d ∷ ds) (function_in (Some Integer)) (FuncUnit (Some Integer) x (d ∷ ds)) name all (function_again (Some Integer) x d ds))
function_read (Some Logical) x d ds name all =
    by_word (codes "LOGICALFUNCTION") x (d ∷ ds) (IsFunction (codes "LOGICALFUNCTION") (Some Logical) (FuncUnit (Some Logical) x (d ∷ ds))) name all (logical_first x (FuncUnit (Some Logical) x (d ∷ ds)))
    (read_behind (codes "LOGICALFUNCTION") x (d ∷ ds) (function_in (Some Logical)) (FuncUnit (Some Logical) x (d ∷ ds)) name all (function_again (Some Logical) x d ds))
function_read (Some Other) x d ds name all =
    by_word (codes "REALFUNCTION") x (d ∷ ds) (IsFunction (codes "REALFUNCTION") (Some Other) (FuncUnit (Some Other) x (d ∷ ds))) name all (real_first x (FuncUnit (Some Other) x (d ∷ ds)))
    (read_behind (codes "REALFUNCTION") x (d ∷ ds) (function_in (Some Other)) (FuncUnit (Some Other) x (d ∷ ds)) name all (function_again (Some Other) x d ds))

subroutine_read : (x : Text) (ds : List Text) → IsShortName x → AllByRecursion IsShortName ds → header_of (text_behind (codes "SUBROUTINE") x ds) ≡ Some (SubUnit x ds)
subroutine_read x ds name all =
    first (subroutine_of (text_behind (codes "SUBROUTINE") x ds)) _ (SubUnit x ds) (read_behind (codes "SUBROUTINE") x ds subroutine_in (SubUnit x ds) name all (subroutine_again x ds))

pub header_read : (h : Header) → HasHeader h → IsReadableHeader h → header_of (tokens_of (header_text h)) ≡ Some h
header_read MainUnit has fine = absurd has
header_read (SubUnit x ds) has fine = ap header_of (subroutine_lexed x ds) ∙ subroutine_read x ds fine.0 fine.1
header_read (FuncUnit w x []) has fine = absurd fine
header_read (FuncUnit w x (d ∷ ds)) has fine = ap header_of (function_lexed w x d ds) ∙ function_read w x d ds fine.0 fine.1
header_read DataUnit has fine = refl

header_known : (h : Header) → IsReadableHeader h → AreKnown (tokens_of (header_text h))
header_known MainUnit fine = refl
header_known (SubUnit x ds) fine = ap (list_all is_known) (subroutine_lexed x ds) ∙ names_all_known (codes "SUBROUTINE") (headed x ds) [] (headed_readable x ds fine.0 fine.1) tt
header_known (FuncUnit w x []) fine = absurd fine
header_known (FuncUnit w x (d ∷ ds)) fine =
    ap (list_all is_known) (function_lexed w x d ds) ∙ names_all_known (header_letters (FuncUnit w x (d ∷ ds))) (headed x (d ∷ ds)) [] (headed_readable x (d ∷ ds) fine.0 fine.1) tt
header_known DataUnit fine = refl

-- ---- its line ----

all_short : (ds : List Text) → AllByRecursion IsShortName ds → list_any too_long.name ds ≡ false
all_short [] all = refl
all_short (d ∷ ds) all = let here : nat_lt 6 (length d) ≡ false = le-ltb 6 (length d) all.0.1 in let others = all_short ds all.1 in rw (here, others) refl

names_short : (x : Text) (ds : List Text) → IsShortName x → AllByRecursion IsShortName ds → (nat_lt 6 (length x) || list_any too_long.name ds) ≡ false
names_short x ds name all = let here : nat_lt 6 (length x) ≡ false = le-ltb 6 (length x) name.1 in let others = all_short ds all in rw (here, others) refl

header_short : (h : Header) → IsReadableHeader h → header_has_name too_long.name h ≡ false
header_short MainUnit fine = refl
header_short (SubUnit x ds) fine = names_short x ds fine.0 fine.1
header_short (FuncUnit w x []) fine = absurd fine
header_short (FuncUnit w x (d ∷ ds)) fine = names_short x (d ∷ ds) fine.0 fine.1
header_short DataUnit fine = refl

short_answer : (h : Header) → header_has_name too_long.name h ≡ false → header_answer_of false (Some h) ≡ HeaderRead h
short_answer h short = rw short refl

pub header_answered : (h : Header) → HasHeader h → IsReadableHeader h → header_answer false (filled 66 (header_text h)) ≡ HeaderRead h
header_answered h has fine =
    ap (λ (tokens : List Token). header_answer_of false (header_of tokens)) (known_filled (header_text h) (header_known h fine)) ∙ ap (header_answer_of false) (header_read h has fine) ∙ short_answer h (header_short h fine)
