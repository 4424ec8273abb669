-- Names with lists in memory, and implied DO lists.
use Rattle.std.proofs.Common.{◌≡◌, ◌++◌, List, Vec, Box, Global, Result, OnOk, ap, sym, ◌∙◌, append_assoc}
use Rattle.std.proofs.lemmas.Result.{on_ok_weaker}
use Rattle.f66_tree.specs.declared.declaration.Par.{Par}
use Rattle.f66_tree.specs.declared.expression.Expr.{Expr}
use Rattle.f66_tree.specs.declared.expression.Expr.TheVariants.{Item}
use Rattle.f66_tree.specs.declared.statement.Entry.{Entry}
use Rattle.f66_tree.specs.declared.statement.Entry.TheVariants as entries
use Rattle.f66_tree.specs.Syntax as f66
use Rattle.f66_tree.specs.Syntax.{Text, Formula, Many}
use Rattle.f66_tree.specs.Views.{formula_of, formulas_of, par_of, entry_of, entries_of}
use Rattle.f66_tree.proofs.Rows.{item_seen, many_entry}

-- what is said of an implied DO in memory
many_seen : {A : Type 0} (f : f66.Entry → A) (e : Entry) (list : Vec Entry Global) (x : Text) (a b d : Par) (seen : List Entry) → e ≡ entries.Many list x a b d → seen ≡ list.items →
    f (Many (entries_of seen) x (par_of a) (par_of b) (par_of d)) ≡ f (entry_of e)
many_seen f e list x a b d seen is at =
    ap (λ es. f (Many (entries_of es) x (par_of a) (par_of b) (par_of d))) at ∙ sym (ap (λ n. f (entry_of n)) is ∙ ap f (many_entry list x a b d))

-- the names of an element or a function's value in memory, added to others
pub item_added : {A E X : Type 0} (f : Formula → List X) (result : Result A E) (old new : List X) (e : Expr) (item : Box (Text × Vec Expr Global) Global) (pair : Text × Vec Expr Global) (seen : List Expr) →
    e ≡ Item item → pair ≡ item.value → seen ≡ pair.1.items → OnOk result (new ≡ old ++ f (f66.Item pair.0 (formulas_of seen))) → OnOk result (new ≡ old ++ f (formula_of e))
item_added f result old new e item pair seen is same at added = on_ok_weaker result (λ k. k ∙ ap (λ ms. old ++ ms) (item_seen f e item pair seen is same at)) added

-- the names of an implied DO: those of its list, and then its variable and parameters
pub many_added : {A E X : Type 0} (f : f66.Entry → List X) (result : Result A E) (old mid new us vs : List X) (e : Entry) (list : Vec Entry Global) (x : Text) (a b d : Par) (seen : List Entry) →
    e ≡ entries.Many list x a b d → seen ≡ list.items → mid ≡ old ++ us → us ++ vs ≡ f (Many (entries_of seen) x (par_of a) (par_of b) (par_of d)) →
    OnOk result (new ≡ mid ++ vs) → OnOk result (new ≡ old ++ f (entry_of e))
many_added f result old mid new us vs e list x a b d seen is at first whole second =
    on_ok_weaker result (λ k. k ∙ ap (λ xs. xs ++ vs) first ∙ append_assoc old us vs ∙ ap (λ xs. old ++ xs) (whole ∙ many_seen f e list x a b d seen is at)) second
