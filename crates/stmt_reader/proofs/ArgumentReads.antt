-- The arguments of a CALL are read exactly.
use Rattle.std.proofs.Common.{◌≡◌, true, List, [], ◌∷◌, Option, Some, None, refl, sym, ap, subst, ◌∙◌}
use Rattle.std.specs.List.{AllByRecursion}
use Rattle.f66_tree.specs.Syntax.{Formula, Int, Truth, Letter, Ref, Item, Group, Plus, Minus, Not, Pair}
use Rattle.stmt_reader.specs.declared.token.Token.{Token}
use Rattle.stmt_reader.specs.declared.token.Token.TheVariants as t
use Rattle.stmt_reader.specs.Levels.{stands}
use Rattle.stmt_reader.specs.Spelling.{spell, spell_members}
use Rattle.stmt_reader.specs.Exactness.{IsProper, IsArgument, SpellsList}
use Rattle.stmt_reader.specs.Machine.{expression_of}
use Rattle.stmt_reader.specs.Cutting.{is_comma}
use Rattle.stmt_reader.specs.Splitting.{list_of}
use Rattle.stmt_reader.specs.Statements.{or_else, letter_of, argument_of}
use Rattle.stmt_reader.proofs.Assignments.{spell-append}
use Rattle.stmt_reader.proofs.Complete.{expression_spelled}
use Rattle.stmt_reader.proofs.Sound.{expression_taken}
use Rattle.stmt_reader.proofs.CutLemmas.{cut_spelled, comma_outside}
use Rattle.stmt_reader.proofs.ListReads.{IsMember, list_spelled, list_taken, passes_by_cut}
use Rattle.stmt_reader.proofs.DeclaredReads.{comma_is}

-- a Hollerith text is no expression
no_letter : (tokens : List Token) (e : Formula) → expression_of tokens ≡ Some e → letter_of tokens ≡ None
no_letter [] e is = refl
no_letter (t.Chars [] ∷ tokens) e is = refl
no_letter (t.Chars (c ∷ []) ∷ []) e is = absurd cc
no_letter (t.Chars (c ∷ []) ∷ token ∷ tokens) e is = refl
no_letter (t.Chars (c ∷ d ∷ x) ∷ tokens) e is = refl
no_letter (t.Word x ∷ tokens) e is = refl
no_letter (t.Number n ∷ tokens) e is = refl
no_letter (t.Truth b ∷ tokens) e is = refl
no_letter (t.Not ∷ tokens) e is = refl
no_letter (t.Joint op ∷ tokens) e is = refl
no_letter (t.Open ∷ tokens) e is = refl
no_letter (t.Close ∷ tokens) e is = refl
no_letter (t.Comma ∷ tokens) e is = refl
no_letter (t.Equals ∷ tokens) e is = refl
no_letter (t.Strange ∷ tokens) e is = refl

expression_read : (e : Formula) → stands 0 e ≡ true → argument_of (spell e []) ≡ Some e
expression_read e is =
    let read = expression_spelled e is in
    ap (λ (o : Option Formula). or_else o (expression_of (spell e []))) (no_letter (spell e []) e read) ∙ read

argument_read : (e : Formula) → IsArgument e → argument_of (spell e []) ≡ Some e
argument_read (Letter c) is = refl
argument_read (Int z) is = expression_read (Int z) is
argument_read (Truth b) is = expression_read (Truth b) is
argument_read (Ref x) is = expression_read (Ref x) is
argument_read (Item x es) is = expression_read (Item x es) is
argument_read (Group a) is = expression_read (Group a) is
argument_read (Plus a) is = expression_read (Plus a) is
argument_read (Minus a) is = expression_read (Minus a) is
argument_read (Not a) is = expression_read (Not a) is
argument_read (Pair op a b) is = expression_read (Pair op a b) is

argument_member : (e : Formula) → IsArgument e → IsMember is_comma argument_of spell e
argument_member e is = record { is_read = argument_read e is; passes = λ k. passes_by_cut is_comma (spell e) k (cut_spelled is_comma comma_outside e 0 k) }

members : (es : List Formula) → AllByRecursion IsArgument es → AllByRecursion (IsMember is_comma argument_of spell) es
members [] all = tt
members (e ∷ es) all = (argument_member e all.0, members es all.1)

pub arguments_spelled : (e : Formula) (es : List Formula) → IsArgument e → AllByRecursion IsArgument es → list_of argument_of is_comma (spell_members spell t.Comma e es []) ≡ Some (e ∷ es)
arguments_spelled e es first others = list_spelled is_comma t.Comma refl argument_of spell e es (argument_member e first) (members es others)

stands_argument : (e : Formula) → stands 0 e ≡ true → IsArgument e
stands_argument (Letter c) is = refl
stands_argument (Int z) is = is
stands_argument (Truth b) is = is
stands_argument (Ref x) is = is
stands_argument (Item x es) is = is
stands_argument (Group a) is = is
stands_argument (Plus a) is = is
stands_argument (Minus a) is = is
stands_argument (Not a) is = is
stands_argument (Pair op a b) is = is

expression_back : (piece : List Token) (e : Formula) → AllByRecursion IsProper piece → expression_of piece ≡ Some e → IsArgument e × (spell e [] ≡ piece)
expression_back piece e proper is = let x = expression_taken piece e proper is in (stands_argument e x.0, x.1)

argument_taken : (piece : List Token) (e : Formula) → AllByRecursion IsProper piece → argument_of piece ≡ Some e → IsArgument e × (spell e [] ≡ piece)
argument_taken [] e proper is = expression_back [] e proper is
argument_taken (t.Chars [] ∷ tokens) e proper is = expression_back (t.Chars [] ∷ tokens) e proper is
argument_taken (t.Chars (c ∷ []) ∷ []) e proper is = let same : Letter c ≡ e = cc in subst (λ (x : Formula). IsArgument x × (spell x [] ≡ t.Chars (c ∷ []) ∷ [])) same (refl, refl)
argument_taken (t.Chars (c ∷ []) ∷ token ∷ tokens) e proper is = expression_back (t.Chars (c ∷ []) ∷ token ∷ tokens) e proper is
argument_taken (t.Chars (c ∷ d ∷ x) ∷ tokens) e proper is = expression_back (t.Chars (c ∷ d ∷ x) ∷ tokens) e proper is
argument_taken (t.Word x ∷ tokens) e proper is = expression_back (t.Word x ∷ tokens) e proper is
argument_taken (t.Number n ∷ tokens) e proper is = expression_back (t.Number n ∷ tokens) e proper is
argument_taken (t.Truth b ∷ tokens) e proper is = expression_back (t.Truth b ∷ tokens) e proper is
argument_taken (t.Not ∷ tokens) e proper is = expression_back (t.Not ∷ tokens) e proper is
argument_taken (t.Joint op ∷ tokens) e proper is = expression_back (t.Joint op ∷ tokens) e proper is
argument_taken (t.Open ∷ tokens) e proper is = expression_back (t.Open ∷ tokens) e proper is
argument_taken (t.Close ∷ tokens) e proper is = expression_back (t.Close ∷ tokens) e proper is
argument_taken (t.Comma ∷ tokens) e proper is = expression_back (t.Comma ∷ tokens) e proper is
argument_taken (t.Equals ∷ tokens) e proper is = expression_back (t.Equals ∷ tokens) e proper is
argument_taken (t.Strange ∷ tokens) e proper is = expression_back (t.Strange ∷ tokens) e proper is

pub arguments_taken : (tokens : List Token) (es : List Formula) → AllByRecursion IsProper tokens → list_of argument_of is_comma tokens ≡ Some es → SpellsList IsArgument spell t.Comma tokens es
arguments_taken tokens es proper is = list_taken is_comma t.Comma comma_is argument_of spell IsArgument argument_taken (λ e k. sym (spell-append e [] k)) tokens es proper is
