-- Specification statements, DATA and headers from tokens (X3.9-1966, sections 7.2 and 8). Names with numbers or names in
-- parentheses are read as expressions, which have these forms.
use Rattle.std.specs.Prelude.{ℕ, pos, ◌++◌, List, [], ◌∷◌, Option, Some, None, codes}
use Rattle.f66_tree.specs.declared.expression.Operator.TheVariants.{Add, Sub, Mul}
use Rattle.f66_tree.specs.declared.declaration.TypeWord.{TypeWord}
use Rattle.f66_tree.specs.declared.declaration.TypeWord.TheVariants.{Integer, Logical, Other}
use Rattle.f66_tree.specs.Syntax.{Text, Formula, Int, Truth, Letter, Ref, Item, Plus, Minus, Formulas, NoFormula, AndFormula, Par, Constant, Named, Declared, Header, SubUnit, FuncUnit, DataUnit, Area, PresetPart, Act, Typed, Dimension, Common, Equivalence, Preset}
use Rattle.stmt_reader.specs.declared.token.Token.{Token}
use Rattle.stmt_reader.specs.declared.token.Token.TheVariants as t
use Rattle.stmt_reader.specs.Cutting.{is_comma}
use Rattle.stmt_reader.specs.Machine.{expression_of}
use Rattle.stmt_reader.specs.Splitting.{Pieces, split, is_slash, with_first, list_of}
use Rattle.stmt_reader.specs.Taking.{then_if, or_else, after_word, place_if}

-- ---- names with dimensions ----

abbrev pub par_in : Formula → Option Par
par_in (Int z) = Some (Constant z)
par_in (Ref x) = Some (Named x)
par_in _ = None

abbrev pub pars_in : Formulas → Option (List Par)
pars_in NoFormula = Some []
pars_in (AndFormula e es) = with_first (par_in e) (pars_in es)

abbrev pub declared_in : Formula → Option Declared
declared_in (Ref x) = Some (record { name = x; sizes = [] })
declared_in (Item x es) = then_if (pars_in es) (λ pars. Some (record { name = x; sizes = pars }))
declared_in _ = None

abbrev pub declared_of : List Token → Option Declared
declared_of tokens = then_if (expression_of tokens) declared_in

abbrev pub declarations_of : List Token → Option (List Declared)
declarations_of = list_of declared_of is_comma

abbrev pub types_of : TypeWord → List Token → Option Act
types_of w tokens = then_if (declarations_of tokens) (λ ds. Some (Typed w ds))

abbrev pub dimensions_of : List Token → Option Act
dimensions_of tokens = then_if (declarations_of tokens) (λ ds. Some (Dimension ds))

-- ---- COMMON ----

abbrev pub area_name_of : List Token → Option (Option Text)
area_name_of [] = Some None
area_name_of (t.Word x ∷ []) = Some (Some x)
area_name_of _ = None

abbrev pub area_of : List Token → List Token → Option Area
area_of name list = then_if (area_name_of name) (λ x. then_if (declarations_of list) (λ ds. Some (record { name = x; list = ds })))

-- a name and a list, and so on
abbrev pub areas_of : List (List Token) → Option (List Area)
areas_of [] = Some []
areas_of (name ∷ []) = None
areas_of (name ∷ list ∷ more) = with_first (area_of name list) (areas_of more)

-- what stands before the first slash is blank common; each statement has an area
abbrev pub commons_in : Pieces → Option (List Area)
commons_in ([], []) = None
commons_in ([], name ∷ more) = areas_of (name ∷ more)
commons_in (token ∷ tokens, more) = with_first (area_of [] (token ∷ tokens)) (areas_of more)

abbrev pub commons_of : List Token → Option Act
commons_of tokens = then_if (commons_in (split is_slash 0 tokens)) (λ areas. Some (Common areas))

-- ---- EQUIVALENCE ----

abbrev pub places_in : Formulas → Option (List Formula)
places_in NoFormula = Some []
places_in (AndFormula e es) = with_first (place_if e) (places_in es)

-- a group has two places or more: it is read as the arguments of a name
abbrev pub group_in : Formula → Option (List Formula)
group_in (Item x (AndFormula a (AndFormula b es))) = places_in (AndFormula a (AndFormula b es))
group_in _ = None

abbrev pub group_of : List Token → Option (List Formula)
group_of (t.Open ∷ tokens) = then_if (expression_of (t.Word (codes "E") ∷ t.Open ∷ tokens)) group_in
group_of _ = None

abbrev pub equivalences_of : List Token → Option Act
equivalences_of tokens = then_if (list_of group_of is_comma tokens) (λ groups. Some (Equivalence groups))

-- ---- DATA ----

abbrev pub place_of : List Token → Option Formula
place_of tokens = then_if (expression_of tokens) place_if

abbrev pub constant_of : List Token → Option Formula
constant_of (t.Number n ∷ []) = Some (Int (pos n))
constant_of (t.Joint Add ∷ t.Number n ∷ []) = Some (Plus (Int (pos n)))
constant_of (t.Joint Sub ∷ t.Number n ∷ []) = Some (Minus (Int (pos n)))
constant_of (t.Truth b ∷ []) = Some (Truth b)
constant_of (t.Chars (c ∷ []) ∷ []) = Some (Letter c)
constant_of _ = None

-- a constant, or with its count before it
abbrev pub value_of : List Token → Option (ℕ × Formula)
value_of (t.Number n ∷ t.Joint Mul ∷ tokens) = then_if (constant_of tokens) (λ c. Some (n, c))
value_of tokens = then_if (constant_of tokens) (λ c. Some (1, c))

abbrev pub preset_of : List Token → List Token → Option PresetPart
preset_of places values = then_if (list_of place_of is_comma places) (λ ps. then_if (list_of value_of is_comma values) (λ vs. Some (record { places = ps; values = vs })))

-- places and values between slashes, with a comma before each part but the first, and nothing behind the last slash
abbrev pub presets_in : List Token → List (List Token) → Option (List PresetPart)
presets_in places (values ∷ [] ∷ []) = with_first (preset_of places values) (Some [])
presets_in places (values ∷ (t.Comma ∷ next) ∷ more) = with_first (preset_of places values) (presets_in next more)
presets_in places _ = None

abbrev pub presets_of : List Token → Option Act
presets_of tokens = let r = split is_slash 0 tokens in then_if (presets_in r.0 r.1) (λ parts. Some (Preset parts))

-- ---- all of them ----

abbrev pub specification_of : List Token → Option Act
specification_of tokens =
    or_else (then_if (after_word (codes "INTEGER") tokens) (types_of Integer))
    (or_else (then_if (after_word (codes "LOGICAL") tokens) (types_of Logical))
    (or_else (then_if (after_word (codes "REAL") tokens) (types_of Other))
    (or_else (then_if (after_word (codes "DOUBLEPRECISION") tokens) (types_of Other))
    (or_else (then_if (after_word (codes "COMPLEX") tokens) (types_of Other))
    (or_else (then_if (after_word (codes "DIMENSION") tokens) dimensions_of)
    (or_else (then_if (after_word (codes "COMMON") tokens) commons_of)
    (or_else (then_if (after_word (codes "EQUIVALENCE") tokens) equivalences_of)
    (then_if (after_word (codes "DATA") tokens) presets_of))))))))

-- ---- headers ----

abbrev pub name_in : Formula → Option Text
name_in (Ref x) = Some x
name_in _ = None

-- names, behind those before
abbrev pub names_onto : List Text → Formulas → Option (List Text)
names_onto before NoFormula = Some before
names_onto before (AndFormula e es) = then_if (name_in e) (λ x. names_onto (before ++ x ∷ []) es)

abbrev pub names_in : Formulas → Option (List Text)
names_in es = names_onto [] es

abbrev pub subroutine_in : Formula → Option Header
subroutine_in (Ref x) = Some (SubUnit x [])
subroutine_in (Item x es) = then_if (names_in es) (λ ds. Some (SubUnit x ds))
subroutine_in _ = None

abbrev pub function_in : Option TypeWord → Formula → Option Header
function_in w (Item x es) = then_if (names_in es) (λ ds. Some (FuncUnit w x ds))
function_in w _ = None

abbrev pub subroutine_of : List Token → Option Header
subroutine_of tokens = then_if (after_word (codes "SUBROUTINE") tokens) (λ rest. then_if (expression_of rest) subroutine_in)

abbrev pub function_of : List ℕ → Option TypeWord → List Token → Option Header
function_of letters w tokens = then_if (after_word letters tokens) (λ rest. then_if (expression_of rest) (function_in w))

abbrev pub block_of : List Token → Option Header
block_of [] = Some DataUnit
block_of _ = None

-- the header that tokens give; a main has none
abbrev pub header_of : List Token → Option Header
header_of tokens =
    or_else (subroutine_of tokens)
    (or_else (function_of (codes "FUNCTION") None tokens)
    (or_else (function_of (codes "INTEGERFUNCTION") (Some Integer) tokens)
    (or_else (function_of (codes "LOGICALFUNCTION") (Some Logical) tokens)
    (or_else (function_of (codes "REALFUNCTION") (Some Other) tokens)
    (or_else (function_of (codes "DOUBLEPRECISIONFUNCTION") (Some Other) tokens)
    (or_else (function_of (codes "COMPLEXFUNCTION") (Some Other) tokens)
    (then_if (after_word (codes "BLOCKDATA") tokens) block_of)))))))
