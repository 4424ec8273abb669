-- The text of EQUIVALENCE is read as this statement: each of its groups is read as the arguments of a name.
use Rattle.std.proofs.Common.{◌≡◌, ℕ, Bool, true, false, List, [], ◌∷◌, Option, Some, None, refl, sym, ap, ◌∙◌, codes}
use Rattle.std.specs.List.{list_all, AllByRecursion}
use Rattle.std.proofs.lemmas.Bool.{and_from}
use Rattle.f66_tree.specs.Syntax.{Formula, Item, Equivalence}
use Rattle.f66_tree.specs.Views.{chained}
use Rattle.stmt_text.specs.Texts.{formula_text, commas, group_text, statement_text}
use Rattle.stmt_reader.specs.declared.token.Token.{Token}
use Rattle.stmt_reader.specs.declared.token.Token.TheVariants as t
use Rattle.stmt_reader.specs.declared.lexer.Part.TheVariants.{Clear}
use Rattle.stmt_reader.specs.Levels.{stands, stand_all}
use Rattle.stmt_reader.specs.Cutting.{fronted, cut, is_comma, is_equals}
use Rattle.stmt_reader.specs.Declarations.{places_in, group_in, group_of, equivalences_of}
use Rattle.stmt_reader.specs.Lexing.{lexed, tokens_of}
use Rattle.stmt_reader.specs.Spelling.{spell, spell_list}
use Rattle.stmt_reader.specs.Splitting.{with_first}
use Rattle.stmt_reader.specs.Statements.{assignment_of, statement_of}
use Rattle.stmt_reader.specs.Taking.{then_if}
use Rattle.stmt_reader.proofs.Complete.{expression_spelled}
use Rattle.stmt_reader.proofs.CutLemmas.{IsOutside, comma_outside, equals_outside, fronted_twice, token_then}
use Rattle.stmt_reader.proofs.ListReads.{IsMember, passes_by_cut}
use Rattle.deck.specs.ReadableStatements.{AreSome, IsReadablePlace, IsReadableGroup}
use Rattle.deck.proofs.CallsRead.{no_equals, others_list}
use Rattle.deck.proofs.KnownTokens.{is_known, AreKnown, spell_known}
use Rattle.deck.proofs.LexingLemmas.{IsBreak}
use Rattle.deck.proofs.ListsRead.{spell_some, some_lexed, cut_some, some_read, some_known}
use Rattle.deck.proofs.SlashCuts.{within_list}
use Rattle.deck.proofs.TextsRead.{text_lexed}
use Rattle.deck.proofs.TypesRead.{specified}

-- a group in parentheses
abbrev pub spell_group : List Formula → List Token → List Token
spell_group es k = t.Open ∷ spell_list (chained es) (t.Close ∷ k)

-- ---- the tokens ----

places_spelled : (es : List Formula) (k : List Token) → spell_some spell es k ≡ spell_list (chained es) k
places_spelled [] k = refl
places_spelled (e ∷ es) k = ap (spell e) (sym (others_list es k))

-- places with commas between them
pub places_lexed : (opens : Bool) (es : List Formula) (k : List ℕ) → AreSome IsReadablePlace es → IsBreak k → lexed (Clear opens) (commas formula_text es k) ≡ spell_some spell es (lexed (Clear false) k)
places_lexed opens es k fine b =
    some_lexed formula_text spell IsReadablePlace (λ e m good b. text_lexed e true m good.1.readable b) opens (λ e m good b. text_lexed e opens m good.1.readable b) es k fine b

members_some : (es : List Formula) → IsReadableGroup es → AreSome IsReadablePlace es
members_some [] fine = absurd fine
members_some (e ∷ []) fine = absurd fine.1
members_some (e ∷ d ∷ es) fine = fine

group_lexed : (opens : Bool) (es : List Formula) (k : List ℕ) → IsReadableGroup es → lexed (Clear opens) (group_text es k) ≡ spell_group es (lexed (Clear false) k)
group_lexed opens es k fine =
    ap (λ (y : List Token). t.Open ∷ y) (places_lexed true es (41 ∷ k) (members_some es fine) (refl, refl, refl, refl) ∙ places_spelled es (t.Close ∷ lexed (Clear false) k))

pub equivalence_lexed : (groups : List (List Formula)) → AreSome IsReadableGroup groups → tokens_of (statement_text (Equivalence groups)) ≡ t.Word (codes "EQUIVALENCE") ∷ spell_some spell_group groups []
equivalence_lexed [] fine = absurd fine
equivalence_lexed (g ∷ gs) fine =
    ap (λ (y : List Token). t.Word (codes "EQUIVALENCE") ∷ y)
    (some_lexed group_text spell_group IsReadableGroup (λ es k good b. group_lexed true es k good) false (λ es k good b. group_lexed false es k good) (g ∷ gs) [] fine tt)

-- ---- the groups that they give ----

places_found : (es : List Formula) → AllByRecursion IsReadablePlace es → places_in (chained es) ≡ Some es
places_found [] fine = refl
places_found (e ∷ es) fine = ap (λ (o : Option Formula). with_first o (places_in (chained es))) fine.0.0 ∙ ap (with_first (Some e)) (places_found es fine.1)

places_stand : (es : List Formula) → AllByRecursion IsReadablePlace es → stand_all (chained es) ≡ true
places_stand [] fine = refl
places_stand (e ∷ es) fine = and_from (stands 0 e) (stand_all (chained es)) fine.0.1.stands (places_stand es fine.1)

group_read : (es : List Formula) → IsReadableGroup es → group_of (spell_group es []) ≡ Some es
group_read [] fine = absurd fine
group_read (e ∷ []) fine = absurd fine.1
group_read (e ∷ d ∷ es) fine =
    ap (λ (o : Option Formula). then_if o group_in) (expression_spelled (Item (codes "E") (chained (e ∷ d ∷ es))) (places_stand (e ∷ d ∷ es) fine)) ∙ places_found (e ∷ d ∷ es) fine

group_cut : (p : Token → Bool) → IsOutside p → (es : List Formula) (k : List Token) → cut p 0 (spell_group es k) ≡ fronted (spell_group es) (cut p 0 k)
group_cut p o es k =
    token_then p 0 t.Open (spell_list (chained es) (t.Close ∷ k)) (λ y. spell_list (chained es) (t.Close ∷ y)) (cut p 0 k) o.opening
    (within_list p (chained es) 0 (t.Close ∷ k) ∙ fronted_twice (spell_list (chained es)) (λ y. t.Close ∷ y) (cut p 0 k))

group_member : (es : List Formula) → IsReadableGroup es → IsMember is_comma group_of spell_group es
group_member es fine = record { is_read = group_read es fine; passes = λ k. passes_by_cut is_comma (spell_group es) k (group_cut is_comma comma_outside es k) }

-- ---- the statement ----

equivalence_none : (groups : List (List Formula)) → assignment_of (t.Word (codes "EQUIVALENCE") ∷ spell_some spell_group groups []) ≡ None
equivalence_none groups =
    no_equals (t.Word (codes "EQUIVALENCE") ∷ spell_some spell_group groups []) (ap (fronted (λ y. t.Word (codes "EQUIVALENCE") ∷ y)) (cut_some is_equals refl spell_group (group_cut is_equals equals_outside) groups []))

equivalence_is : (groups : List (List Formula)) → AreSome IsReadableGroup groups → equivalences_of (spell_some spell_group groups []) ≡ Some (Equivalence groups)
equivalence_is groups fine = ap (λ (o : Option (List (List Formula))). then_if o (λ all. Some (Equivalence all))) (some_read group_of spell_group IsReadableGroup group_member groups fine)

group_known : (es : List Formula) (k : List Token) → AreKnown k → AreKnown (spell_group es k)
group_known es k known = spell_known (Item (codes "E") (chained es)) k known

pub equivalence_known : (groups : List (List Formula)) → AreSome IsReadableGroup groups → AreKnown (tokens_of (statement_text (Equivalence groups)))
equivalence_known groups fine = ap (list_all is_known) (equivalence_lexed groups fine) ∙ some_known spell_group IsReadableGroup (λ es k good known. group_known es k known) groups [] fine refl

pub equivalence_read : (groups : List (List Formula)) → AreSome IsReadableGroup groups → statement_of (tokens_of (statement_text (Equivalence groups))) ≡ Some (Equivalence groups)
equivalence_read groups fine =
    ap statement_of (equivalence_lexed groups fine)
    ∙ specified (assignment_of (t.Word (codes "EQUIVALENCE") ∷ spell_some spell_group groups [])) (equivalences_of (spell_some spell_group groups [])) _ (Equivalence groups) (equivalence_none groups) (equivalence_is groups fine)
