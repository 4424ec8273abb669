-- The tokens that spell parts of statements, before those that come next.
use Rattle.std.specs.Prelude.{ℕ, List, [], ◌∷◌}
use Rattle.f66_tree.specs.Syntax.{Text, Formula, Int, Ref, Item, Formulas, NoFormula, AndFormula, Par, Constant, Named, Declared}
use Rattle.stmt_reader.specs.declared.token.Token.{Token}
use Rattle.stmt_reader.specs.declared.token.Token.TheVariants as t
use Rattle.stmt_reader.specs.Spelling.{spell}

abbrev pub par_formula : Par → Formula
par_formula (Constant z) = Int z
par_formula (Named x) = Ref x

abbrev pub par_formulas : List Par → Formulas
par_formulas [] = NoFormula
par_formulas (p ∷ ps) = AndFormula (par_formula p) (par_formulas ps)

-- a name with dimensions has the form of an element
abbrev pub sized_formula : Text → List Par → Formula
sized_formula x [] = Ref x
sized_formula x (p ∷ ps) = Item x (par_formulas (p ∷ ps))

abbrev pub declared_formula : Declared → Formula
declared_formula d = sized_formula d.name d.sizes

abbrev pub spell_declared : Declared → List Token → List Token
spell_declared d k = spell (declared_formula d) k

abbrev pub spell_label : ℕ → List Token → List Token
spell_label l k = t.Number l ∷ k
