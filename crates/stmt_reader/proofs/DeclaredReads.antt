-- Names with dimensions are read exactly, and lists of them.
use Rattle.std.proofs.Common.{◌≡◌, true, List, [], ◌∷◌, Option, Some, refl, sym, ap, subst, ◌∙◌}
use Rattle.std.specs.List.{AllByRecursion}
use Rattle.std.proofs.lemmas.Bool.{and_parts}
use Rattle.f66_tree.specs.Syntax.{Text, Formula, Int, Truth, Letter, Ref, Item, Group, Plus, Minus, Not, Pair, Formulas, NoFormula, AndFormula, Par, Constant, Named, Declared}
use Rattle.stmt_reader.specs.declared.token.Token.{Token}
use Rattle.stmt_reader.specs.declared.token.Token.TheVariants as t
use Rattle.stmt_reader.specs.Levels.{is_name, are_arguments, stands}
use Rattle.stmt_reader.specs.Spelling.{spell, spell_members}
use Rattle.stmt_reader.specs.Spelled.{par_formula, par_formulas, sized_formula, declared_formula, spell_declared}
use Rattle.stmt_reader.specs.Exactness.{IsProper, IsDeclared, SpellsList}
use Rattle.stmt_reader.specs.Machine.{expression_of}
use Rattle.stmt_reader.specs.Cutting.{is_comma}
use Rattle.stmt_reader.specs.Splitting.{with_first}
use Rattle.stmt_reader.specs.Taking.{then_if}
use Rattle.stmt_reader.specs.Declarations.{par_in, pars_in, declared_in, declared_of, declarations_of}
use Rattle.stmt_reader.proofs.Assignments.{spell-append, then_some}
use Rattle.stmt_reader.proofs.Complete.{expression_spelled}
use Rattle.stmt_reader.proofs.Sound.{expression_taken}
use Rattle.stmt_reader.proofs.CutLemmas.{cut_spelled, comma_outside}
use Rattle.stmt_reader.proofs.ListReads.{IsMember, list_spelled, list_taken, with_some, passes_by_cut}

-- ---- what is spelled is read ----

par_found : (p : Par) → par_in (par_formula p) ≡ Some p
par_found (Constant z) = refl
par_found (Named x) = refl

pars_found : (ps : List Par) → pars_in (par_formulas ps) ≡ Some ps
pars_found [] = refl
pars_found (p ∷ ps) = ap (λ (o : Option Par). with_first o (pars_in (par_formulas ps))) (par_found p) ∙ ap (with_first (Some p)) (pars_found ps)

sized_found : (x : Text) (ps : List Par) → declared_in (sized_formula x ps) ≡ Some (record { name = x; sizes = ps })
sized_found x [] = refl
sized_found x (p ∷ ps) = ap (λ (o : Option (List Par)). then_if o (λ pars. Some (record { name = x; sizes = pars }))) (pars_found (p ∷ ps))

declared_member : (d : Declared) → IsDeclared d → IsMember is_comma declared_of spell_declared d
declared_member d is = record {
  is_read = ap (λ (o : Option Formula). then_if o declared_in) (expression_spelled (declared_formula d) is) ∙ sized_found d.name d.sizes;
  passes = λ k. passes_by_cut is_comma (spell (declared_formula d)) k (cut_spelled is_comma comma_outside (declared_formula d) 0 k);
}

members : (ds : List Declared) → AllByRecursion IsDeclared ds → AllByRecursion (IsMember is_comma declared_of spell_declared) ds
members [] all = tt
members (d ∷ ds) all = (declared_member d all.0, members ds all.1)

pub declarations_spelled : (d : Declared) (ds : List Declared) → IsDeclared d → AllByRecursion IsDeclared ds → declarations_of (spell_members spell_declared t.Comma d ds []) ≡ Some (d ∷ ds)
declarations_spelled d ds first others = list_spelled is_comma t.Comma refl declared_of spell_declared d ds (declared_member d first) (members ds others)

-- ---- what is read was spelled ----

par_back : (e : Formula) (p : Par) → par_in e ≡ Some p → par_formula p ≡ e
par_back (Int z) p is = let same : Constant z ≡ p = cc in ap par_formula (sym same)
par_back (Ref x) p is = let same : Named x ≡ p = cc in ap par_formula (sym same)
par_back (Truth b) p is = absurd cc
par_back (Letter c) p is = absurd cc
par_back (Item x es) p is = absurd cc
par_back (Group a) p is = absurd cc
par_back (Plus a) p is = absurd cc
par_back (Minus a) p is = absurd cc
par_back (Not a) p is = absurd cc
par_back (Pair op a b) p is = absurd cc

pars_back : (es : Formulas) (ps : List Par) → pars_in es ≡ Some ps → par_formulas ps ≡ es
pars_back NoFormula [] is = refl
pars_back NoFormula (p ∷ ps) is = absurd cc
pars_back (AndFormula e es) ps is =
    let w = with_some (par_in e) (pars_in es) ps is in
    ap par_formulas (sym w.4) ∙ ap (λ (a : Formula). AndFormula a (par_formulas w.1)) (par_back e w.0 w.2) ∙ ap (AndFormula e) (pars_back es w.1 w.3)

applied_back : (x : Text) (es : Formulas) (ps : List Par) → are_arguments es ≡ true → par_formulas ps ≡ es → sized_formula x ps ≡ Item x es
applied_back x NoFormula ps some is = absurd cc
applied_back x (AndFormula e es) [] some is = absurd cc
applied_back x (AndFormula e es) (p ∷ ps) some is = ap (Item x) is

declared_back : (e : Formula) (d : Declared) → stands 0 e ≡ true → declared_in e ≡ Some d → declared_formula d ≡ e
declared_back (Ref x) d st is = let made : Declared = record { name = x; sizes = [] } in let same : made ≡ d = cc in ap declared_formula (sym same)
declared_back (Item x es) d st is =
    let c = then_some (pars_in es) (λ pars. Some (record { name = x; sizes = pars })) d is in
    let made : Declared = record { name = x; sizes = c.0 } in
    let same : made ≡ d = cc (c.2) in
    ap declared_formula (sym same) ∙ applied_back x es c.0 (and_parts (is_name x) (are_arguments es) st).1 (pars_back es c.0 c.1)
declared_back (Int z) d st is = absurd cc
declared_back (Truth b) d st is = absurd cc
declared_back (Letter c) d st is = absurd cc
declared_back (Group a) d st is = absurd cc
declared_back (Plus a) d st is = absurd cc
declared_back (Minus a) d st is = absurd cc
declared_back (Not a) d st is = absurd cc
declared_back (Pair op a b) d st is = absurd cc

declared_taken : (piece : List Token) (d : Declared) → AllByRecursion IsProper piece → declared_of piece ≡ Some d → IsDeclared d × (spell_declared d [] ≡ piece)
declared_taken piece d proper is =
    let c = then_some (expression_of piece) declared_in d is in
    let e = expression_taken piece c.0 proper c.1 in
    let same : declared_formula d ≡ c.0 = declared_back c.0 d e.0 c.2 in
    (subst (λ (f : Formula). stands 0 f ≡ true) (sym same) e.0, ap (λ (f : Formula). spell f []) same ∙ e.1)

pub comma_is : (token : Token) → is_comma token ≡ true → token ≡ t.Comma
comma_is t.Comma is = refl
comma_is t.Equals is = absurd cc
comma_is (t.Word x) is = absurd cc
comma_is (t.Number n) is = absurd cc
comma_is (t.Chars x) is = absurd cc
comma_is (t.Truth b) is = absurd cc
comma_is t.Not is = absurd cc
comma_is (t.Joint op) is = absurd cc
comma_is t.Open is = absurd cc
comma_is t.Close is = absurd cc
comma_is t.Strange is = absurd cc

pub declarations_taken : (tokens : List Token) (ds : List Declared) → AllByRecursion IsProper tokens → declarations_of tokens ≡ Some ds → SpellsList IsDeclared spell_declared t.Comma tokens ds
declarations_taken tokens ds proper is =
    list_taken is_comma t.Comma comma_is declared_of spell_declared IsDeclared declared_taken (λ d k. sym (spell-append (declared_formula d) [] k)) tokens ds proper is
