-- The lists inside trees, as the lists that their code goes over; and copies of the nodes that have such lists.
use Rattle.std.proofs.Common.{◌≡◌, ℕ, Vec, Box, Global, List, map, refl, sym, ap, ◌∙◌}
use mathlib.Core.Former.{Count}
use Rattle.f66_tree.specs.declared.expression.Expr.{Expr}
use Rattle.f66_tree.specs.declared.expression.Expr.TheVariants.{Item, Item'}
use Rattle.f66_tree.specs.declared.expression.Expr.TheBlock.{Row_of-Expr, end_of-Expr, more_of-Expr, items-the_row-Expr, items_hidden-the_row-Expr-0}
use Rattle.f66_tree.specs.declared.format.Field.{Field}
use Rattle.f66_tree.specs.declared.format.Field.TheVariants as f
use Rattle.f66_tree.specs.declared.format.Field.TheBlock.{Row_of-Field, end_of-Field, more_of-Field, items-the_row-Field, items_hidden-the_row-Field-0}
use Rattle.f66_tree.specs.declared.declaration.Par.{Par}
use Rattle.f66_tree.specs.declared.statement.Entry.{Entry}
use Rattle.f66_tree.specs.declared.statement.Entry.TheVariants as n
use Rattle.f66_tree.specs.declared.statement.Entry.TheBlock.{Row_of-Entry, end_of-Entry, more_of-Entry, items-the_row-Entry, items_hidden-the_row-Entry-0}
use Rattle.f66_tree.specs.Fields.{Group}
use Rattle.f66_tree.specs.Syntax.{Text, Formula, AndFormula, Many, AndEntry}
use Rattle.f66_tree.specs.Views.{formula_of, row_formulas, chained, formulas_of, field_then, row_fields, strung, fields_of, par_of, entry_of, row_entries, listed, entries_of}
use Rattle.f66_tree.specs.Syntax as f66

row_formulas_is : (n : _) (row : Row_of-Expr n) → row_formulas row ≡ formulas_of (items-the_row-Expr n row)
row_formulas_is n end_of-Expr = refl
row_formulas_is n (more_of-Expr a rest) = ap (AndFormula (formula_of a)) (row_formulas_is _ rest)

abbrev row_of : Expr → (n : Count) × Row_of-Expr n
row_of (Item' p x shape row) = (_, row)
row_of _ = (_, end_of-Expr)

pub item_formula : (item : Box (Text × Vec Expr Global) Global) → formula_of (Item item) ≡ f66.Item item.value.0 (formulas_of item.value.1.items)
item_formula item =
    let row = row_of (Item item) in
    ap (f66.Item item.value.0) (row_formulas_is row.0 row.1 ∙ ap formulas_of (items_hidden-the_row-Expr-0 item.value.1))

-- what is said of a name and a list that code sees in an expression
pub item_seen : {A : Type 0} (f : Formula → A) (e : Expr) (item : Box (Text × Vec Expr Global) Global) (pair : Text × Vec Expr Global) (seen : List Expr) → e ≡ Item item → pair ≡ item.value → seen ≡ pair.1.items →
    f (f66.Item pair.0 (formulas_of seen)) ≡ f (formula_of e)
item_seen f e item pair seen is same at =
    ap (λ es. f (f66.Item pair.0 (formulas_of es))) at ∙ ap (λ v. f (f66.Item v.0 (formulas_of v.1.items))) same
    ∙ sym (ap (λ a. f (formula_of a)) is ∙ ap f (item_formula item))

pub item_copied : (a : Expr) (item copy : Box (Text × Vec Expr Global) Global) (seen : Text × Vec Expr Global) → a ≡ Item item → seen ≡ item.value → copy.value.0 ≡ seen.0 → map formula_of copy.value.1.items ≡ map formula_of seen.1.items → formula_of (Item copy) ≡ formula_of a
item_copied a item copy seen is same name copied =
    item_formula copy
    ∙ ap (λ n. f66.Item n (formulas_of copy.value.1.items)) (name ∙ ap (λ v. v.0) same)
    ∙ ap (λ fs. f66.Item item.value.0 (chained fs)) (copied ∙ ap (λ v. map formula_of v.1.items) same)
    ∙ sym (ap formula_of is ∙ item_formula item)

row_fields_is : (n : _) (row : Row_of-Field n) → row_fields row ≡ fields_of (items-the_row-Field n row)
row_fields_is n end_of-Field = refl
row_fields_is n (more_of-Field a rest) = ap (field_then a) (row_fields_is _ rest)

abbrev field_row_of : Field → (n : Count) × Row_of-Field n
field_row_of (f.Group' n shape row) = (_, row)
field_row_of _ = (_, end_of-Field)

pub group_fields : (n : ℕ) (list : Vec Field Global) → field_then (f.Group n list) ≡ (λ rest. Group n (fields_of list.items) rest)
group_fields n list =
    let row = field_row_of (f.Group n list) in
    ap (λ fs rest. Group n fs rest) (row_fields_is row.0 row.1 ∙ ap fields_of (items_hidden-the_row-Field-0 list))

pub group_copied : (a : Field) (n : ℕ) (list copies : Vec Field Global) (seen : List Field) → a ≡ f.Group n list → seen ≡ list.items → map field_then copies.items ≡ map field_then seen → field_then (f.Group n copies) ≡ field_then a
group_copied a n list copies seen is same copied =
    group_fields n copies
    ∙ ap (λ fs rest. Group n (strung fs) rest) (copied ∙ ap (λ all. map field_then all) same)
    ∙ sym (ap field_then is ∙ group_fields n list)

row_entries_is : (n : _) (row : Row_of-Entry n) → row_entries row ≡ entries_of (items-the_row-Entry n row)
row_entries_is n end_of-Entry = refl
row_entries_is n (more_of-Entry a rest) = ap (AndEntry (entry_of a)) (row_entries_is _ rest)

abbrev entry_row_of : Entry → (n : Count) × Row_of-Entry n
entry_row_of (n.Many' shape row x a b c) = (_, row)
entry_row_of _ = (_, end_of-Entry)

pub many_entry : (list : Vec Entry Global) (x : Text) (a b c : Par) → entry_of (n.Many list x a b c) ≡ Many (entries_of list.items) x (par_of a) (par_of b) (par_of c)
many_entry list x a b c =
    let row = entry_row_of (n.Many list x a b c) in
    ap (λ all. Many all x (par_of a) (par_of b) (par_of c)) (row_entries_is row.0 row.1 ∙ ap entries_of (items_hidden-the_row-Entry-0 list))

pub many_copied : (e : Entry) (list copies : Vec Entry Global) (x y : Text) (a b c a1 b1 c1 : Par) (seen : List Entry) → e ≡ n.Many list x a b c → seen ≡ list.items → map entry_of copies.items ≡ map entry_of seen → y ≡ x →
    par_of a1 ≡ par_of a → par_of b1 ≡ par_of b → par_of c1 ≡ par_of c → entry_of (n.Many copies y a1 b1 c1) ≡ entry_of e
many_copied e list copies x y a b c a1 b1 c1 seen is same copied name ea eb ec =
    many_entry copies y a1 b1 c1
    ∙ ap (λ es. Many (listed es) y (par_of a1) (par_of b1) (par_of c1)) (copied ∙ ap (λ all. map entry_of all) same)
    ∙ ap (λ v. Many (entries_of list.items) v (par_of a1) (par_of b1) (par_of c1)) name
    ∙ ap (λ v. Many (entries_of list.items) x v (par_of b1) (par_of c1)) ea
    ∙ ap (λ v. Many (entries_of list.items) x (par_of a) v (par_of c1)) eb
    ∙ ap (λ v. Many (entries_of list.items) x (par_of a) (par_of b) v) ec
    ∙ sym (ap entry_of is ∙ many_entry list x a b c)
