-- The text of COMMON is read as this statement: a name or nothing between slashes, and names with dimensions behind them.
use Rattle.std.proofs.Common.{◌≡◌, ℕ, Bool, true, false, List, [], ◌∷◌, Option, Some, None, refl, ap, ◌∙◌, codes}
use Rattle.std.specs.List.{list_all, AllByRecursion}
use Rattle.f66_tree.specs.declared.expression.Operator.TheVariants.{Div}
use Rattle.f66_tree.specs.Syntax.{Text, Par, Declared, Area, Common}
use Rattle.stmt_text.specs.Texts.{commas, declared_text, area_text, areas_text, statement_text}
use Rattle.stmt_reader.specs.declared.token.Token.{Token}
use Rattle.stmt_reader.specs.declared.token.Token.TheVariants as t
use Rattle.stmt_reader.specs.declared.lexer.Part.TheVariants.{Clear}
use Rattle.stmt_reader.specs.Cutting.{Halves, fronted, cut, is_equals}
use Rattle.stmt_reader.specs.Declarations.{area_name_of, area_of, areas_of, commons_in, commons_of, declarations_of}
use Rattle.stmt_reader.specs.Lexing.{lexed, tokens_of}
use Rattle.stmt_reader.specs.Spelled.{declared_formula, sized_formula, spell_declared}
use Rattle.stmt_reader.specs.Splitting.{Pieces, is_slash, split, split_here, with_first}
use Rattle.stmt_reader.specs.Statements.{assignment_of, statement_of}
use Rattle.stmt_reader.specs.Taking.{then_if, place_if}
use Rattle.stmt_reader.proofs.CutLemmas.{cut_spelled, equals_outside}
use Rattle.stmt_reader.proofs.DeclaredReads.{declarations_spelled}
use Rattle.stmt_reader.proofs.ListReads.{front}
use Rattle.deck.specs.ReadableStatements.{AreSome, IsReadableDeclared, IsReadableBlock, IsReadableArea}
use Rattle.deck.proofs.CallsRead.{no_equals}
use Rattle.deck.proofs.KnownTokens.{is_known, AreKnown, spell_known}
use Rattle.deck.proofs.LexingLemmas.{IsBreak, name_begins, word_ends}
use Rattle.deck.proofs.ListsRead.{spell_some, some_lexed, cut_some, some_known}
use Rattle.deck.proofs.SlashCuts.{place_passes, some_pass}
use Rattle.deck.proofs.TypesRead.{declared_lexed, names_stand, specified}

-- ---- how blocks are spelled ----

abbrev pub spell_block : Option Text → List Token → List Token
spell_block None k = k
spell_block (Some x) k = t.Word x ∷ k

abbrev pub spell_area : Area → List Token → List Token
spell_area a k = t.Joint Div ∷ spell_block a.name (t.Joint Div ∷ spell_some spell_declared a.list k)

abbrev pub spell_areas : List Area → List Token → List Token
spell_areas [] k = k
spell_areas (a ∷ all) k = spell_area a (spell_areas all k)

-- ---- the tokens ----

names_lexed : (ds : List Declared) (k : List ℕ) → AreSome IsReadableDeclared ds → IsBreak k → lexed (Clear true) (commas declared_text ds k) ≡ spell_some spell_declared ds (lexed (Clear false) k)
names_lexed ds k fine b =
    some_lexed declared_text spell_declared IsReadableDeclared (λ d k good b. declared_lexed true d k good.readable b) true (λ d k good b. declared_lexed true d k good.readable b) ds k fine b

area_lexed : (name : Option Text) (list : List Declared) (opens : Bool) (k : List ℕ) → IsReadableBlock name → AreSome IsReadableDeclared list → IsBreak k
    → lexed (Clear opens) (area_text (record { name = name; list = list }) k) ≡ spell_area (record { name = name; list = list }) (lexed (Clear false) k)
area_lexed None list opens k block fine b = ap (λ (y : List Token). t.Joint Div ∷ t.Joint Div ∷ y) (names_lexed list k fine b)
area_lexed (Some x) list opens k block fine b =
    ap (λ (y : List Token). t.Joint Div ∷ y)
    (name_begins true x (47 ∷ commas declared_text list k) block ∙ word_ends x (47 ∷ commas declared_text list k) (refl, refl, refl, refl) ∙ ap (λ (y : List Token). t.Word x ∷ t.Joint Div ∷ y) (names_lexed list k fine b))

area_breaks : (name : Option Text) (list : List Declared) (k : List ℕ) → IsBreak (area_text (record { name = name; list = list }) k)
area_breaks None list k = (refl, refl, refl, refl)
area_breaks (Some x) list k = (refl, refl, refl, refl)

areas_break : (areas : List Area) → IsBreak (areas_text areas [])
areas_break [] = tt
areas_break (a ∷ all) = area_breaks a.name a.list (areas_text all [])

areas_lexed : (areas : List Area) → AllByRecursion IsReadableArea areas → lexed (Clear false) (areas_text areas []) ≡ spell_areas areas []
areas_lexed [] fine = refl
areas_lexed (a ∷ all) fine = area_lexed a.name a.list false (areas_text all []) fine.0.0 fine.0.1 (areas_break all) ∙ ap (spell_area a) (areas_lexed all fine.1)

all_areas : (areas : List Area) → AreSome IsReadableArea areas → AllByRecursion IsReadableArea areas
all_areas [] fine = absurd fine
all_areas (a ∷ all) fine = fine

pub common_lexed : (areas : List Area) → AreSome IsReadableArea areas → tokens_of (statement_text (Common areas)) ≡ t.Word (codes "COMMON") ∷ spell_areas areas []
common_lexed areas fine = word_ends (codes "COMMON") (areas_text areas []) (areas_break areas) ∙ ap (λ (y : List Token). t.Word (codes "COMMON") ∷ y) (areas_lexed areas (all_areas areas fine))

-- ---- the blocks that they give ----

abbrev pieces : List Area → List (List Token)
pieces [] = []
pieces (a ∷ all) = spell_block a.name [] ∷ spell_some spell_declared a.list [] ∷ pieces all

declared_place : (x : Text) (sizes : List Par) → place_if (sized_formula x sizes) ≡ Some (sized_formula x sizes)
declared_place x [] = refl
declared_place x (p ∷ ps) = refl

names_pass : (ds : List Declared) (k : List Token) → AreSome IsReadableDeclared ds → split is_slash 0 (spell_some spell_declared ds k) ≡ front (spell_some spell_declared ds) (split is_slash 0 k)
names_pass ds k fine = some_pass spell_declared IsReadableDeclared (λ d m good. place_passes (declared_formula d) m (declared_place d.name d.sizes)) ds k fine

block_pass : (name : Option Text) (k : List Token) → split is_slash 0 (spell_block name (t.Joint Div ∷ k)) ≡ (spell_block name [], (split is_slash 0 k).0 ∷ (split is_slash 0 k).1)
block_pass None k = refl
block_pass (Some x) k = refl

areas_split : (areas : List Area) → AllByRecursion IsReadableArea areas → split is_slash 0 (spell_areas areas []) ≡ ([], pieces areas)
areas_split [] fine = refl
areas_split (a ∷ all) fine =
    ap split_here (block_pass a.name (spell_some spell_declared a.list (spell_areas all [])))
    ∙ ap (λ (r : Pieces). split_here (spell_block a.name [], r.0 ∷ r.1)) (names_pass a.list (spell_areas all []) fine.0.1 ∙ ap (front (spell_some spell_declared a.list)) (areas_split all fine.1))

block_is : (name : Option Text) → area_name_of (spell_block name []) ≡ Some name
block_is None = refl
block_is (Some x) = refl

names_are : (ds : List Declared) → AreSome IsReadableDeclared ds → declarations_of (spell_some spell_declared ds []) ≡ Some ds
names_are [] fine = absurd fine
names_are (d ∷ ds) fine = declarations_spelled d ds fine.0.is_declared (names_stand ds fine.1)

area_is : (a : Area) → IsReadableArea a → area_of (spell_block a.name []) (spell_some spell_declared a.list []) ≡ Some a
area_is a fine =
    ap (λ (o : Option (Option Text)). then_if o (λ x. then_if (declarations_of (spell_some spell_declared a.list [])) (λ ds. Some (record { name = x; list = ds })))) (block_is a.name)
    ∙ ap (λ (o : Option (List Declared)). then_if o (λ ds. Some (record { name = a.name; list = ds }))) (names_are a.list fine.1)

areas_are : (areas : List Area) → AllByRecursion IsReadableArea areas → areas_of (pieces areas) ≡ Some areas
areas_are [] fine = refl
areas_are (a ∷ all) fine = ap (λ (o : Option Area). with_first o (areas_of (pieces all))) (area_is a fine.0) ∙ ap (with_first (Some a)) (areas_are all fine.1)

commons_are : (areas : List Area) → AreSome IsReadableArea areas → commons_in ([], pieces areas) ≡ Some areas
commons_are [] fine = absurd fine
commons_are (a ∷ all) fine = areas_are (a ∷ all) fine

-- ---- the statement ----

-- no equals sign stands there
abbrev IsUncut : List Token → Type 0
IsUncut k = cut is_equals 0 k ≡ None

names_uncut : (ds : List Declared) (k : List Token) → IsUncut k → IsUncut (spell_some spell_declared ds k)
names_uncut ds k is = cut_some is_equals refl spell_declared (λ d m. cut_spelled is_equals equals_outside (declared_formula d) 0 m) ds k ∙ ap (fronted (spell_some spell_declared ds)) is

area_uncut : (name : Option Text) (list : List Declared) (k : List Token) → IsUncut k → IsUncut (spell_area (record { name = name; list = list }) k)
area_uncut None list k is = ap (λ (r : Option Halves). fronted (λ y. t.Joint Div ∷ y) (fronted (λ y. t.Joint Div ∷ y) r)) (names_uncut list k is)
area_uncut (Some x) list k is = ap (λ (r : Option Halves). fronted (λ y. t.Joint Div ∷ y) (fronted (λ y. t.Word x ∷ y) (fronted (λ y. t.Joint Div ∷ y) r))) (names_uncut list k is)

areas_uncut : (areas : List Area) → IsUncut (spell_areas areas [])
areas_uncut [] = refl
areas_uncut (a ∷ all) = area_uncut a.name a.list (spell_areas all []) (areas_uncut all)

common_none : (areas : List Area) → assignment_of (t.Word (codes "COMMON") ∷ spell_areas areas []) ≡ None
common_none areas = no_equals (t.Word (codes "COMMON") ∷ spell_areas areas []) (ap (fronted (λ y. t.Word (codes "COMMON") ∷ y)) (areas_uncut areas))

common_is : (areas : List Area) → AreSome IsReadableArea areas → commons_of (spell_areas areas []) ≡ Some (Common areas)
common_is areas fine =
    ap (λ (r : Pieces). then_if (commons_in r) (λ all. Some (Common all))) (areas_split areas (all_areas areas fine)) ∙ ap (λ (o : Option (List Area)). then_if o (λ all. Some (Common all))) (commons_are areas fine)

area_known : (name : Option Text) (list : List Declared) (k : List Token) → AreSome IsReadableDeclared list → AreKnown k → AreKnown (spell_area (record { name = name; list = list }) k)
area_known None list k fine known = some_known spell_declared IsReadableDeclared (λ d m good rest. spell_known (declared_formula d) m rest) list k fine known
area_known (Some x) list k fine known = some_known spell_declared IsReadableDeclared (λ d m good rest. spell_known (declared_formula d) m rest) list k fine known

areas_known : (areas : List Area) → AllByRecursion IsReadableArea areas → AreKnown (spell_areas areas [])
areas_known [] fine = refl
areas_known (a ∷ all) fine = area_known a.name a.list (spell_areas all []) fine.0.1 (areas_known all fine.1)

pub common_known : (areas : List Area) → AreSome IsReadableArea areas → AreKnown (tokens_of (statement_text (Common areas)))
common_known areas fine = ap (list_all is_known) (common_lexed areas fine) ∙ areas_known areas (all_areas areas fine)

pub common_read : (areas : List Area) → AreSome IsReadableArea areas → statement_of (tokens_of (statement_text (Common areas))) ≡ Some (Common areas)
common_read areas fine =
    ap statement_of (common_lexed areas fine)
    ∙ specified (assignment_of (t.Word (codes "COMMON") ∷ spell_areas areas [])) (commons_of (spell_areas areas [])) _ (Common areas) (common_none areas) (common_is areas fine)
