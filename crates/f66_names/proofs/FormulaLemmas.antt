-- Names with parentheses, and the lists in them.
use Rattle.std.proofs.Common.{◌≡◌, ◌<◌, ℕ, List, [], ◌∷◌, ◌++◌, length, Vec, Box, Global, Result, OnOk, refl, ap, sym, ◌∙◌, arith, append_assoc}
use Rattle.std.proofs.lemmas.Result.{on_ok_weaker}
use Rattle.f66_tree.specs.declared.expression.Expr.{Expr}
use Rattle.f66_tree.specs.declared.expression.Expr.TheVariants.{Item}
use Rattle.f66_tree.specs.Syntax.{Text}
use Rattle.f66_tree.specs.Views.{formula_of, formulas_of}
use Rattle.f66_tree.proofs.Rows.{item_seen}
use Rattle.f66_names.specs.declared.name_form.Manner.TheVariants.{With, Stored}
use Rattle.f66_names.specs.Shapes.{stand_all, are_arguments}
use Rattle.f66_names.specs.Uses.{Usage, usage, many, uses_of, uses_of_all, uses_of_target}

pub some_arguments : (list : List Expr) → 0 < length list → stand_all (formulas_of list) ≡ are_arguments (formulas_of list)
some_arguments [] h = absurd (omega arith)
some_arguments (a ∷ rest) h = refl

many_formulas : (list : List Expr) → many (formulas_of list) ≡ length list
many_formulas [] = refl
many_formulas (a ∷ rest) = grind (arith, many_formulas rest)

pub item_uses : (e : Expr) (item : Box (Text × Vec Expr Global) Global) (pair : Text × Vec Expr Global) (seen : List Expr) (n : ℕ) → e ≡ Item item → pair ≡ item.value → seen ≡ pair.1.items → n ≡ length pair.1.items →
    uses_of (formula_of e) ≡ usage pair.0 (With n) ∷ uses_of_all (formulas_of seen)
item_uses e item pair seen n is same at number =
    sym (item_seen uses_of e item pair seen is same at)
    ∙ ap (λ m. usage pair.0 (With m) ∷ uses_of_all (formulas_of seen)) (many_formulas seen ∙ ap length at ∙ sym number)

pub target_uses : (e : Expr) (item : Box (Text × Vec Expr Global) Global) (pair : Text × Vec Expr Global) (seen : List Expr) (n : ℕ) → e ≡ Item item → pair ≡ item.value → seen ≡ pair.1.items → n ≡ length pair.1.items →
    uses_of_target (formula_of e) ≡ usage pair.0 (Stored n) ∷ uses_of_all (formulas_of seen)
target_uses e item pair seen n is same at number =
    sym (item_seen uses_of_target e item pair seen is same at)
    ∙ ap (λ m. usage pair.0 (Stored m) ∷ uses_of_all (formulas_of seen)) (many_formulas seen ∙ ap length at ∙ sym number)

-- a use, and those behind it
pub used_behind : {A E : Type 0} (result : Result A E) (old mid new vs ws : List Usage) (u : Usage) → mid ≡ old ++ u ∷ [] → ws ≡ u ∷ vs →
    OnOk result (new ≡ mid ++ vs) → OnOk result (new ≡ old ++ ws)
used_behind result old mid new vs ws u first whole second =
    on_ok_weaker result (λ e. e ∙ ap (λ us. us ++ vs) first ∙ append_assoc old (u ∷ []) vs ∙ ap (λ us. old ++ us) (sym whole)) second
