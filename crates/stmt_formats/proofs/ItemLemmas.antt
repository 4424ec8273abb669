-- The items in parentheses, as the list that the code goes over.
use Rattle.std.proofs.Common.{◌≡◌, ℕ, ◌+◌, ◌-◌, ◌*◌, ◌<◌, ◌≤◌, Vec, Global, Bool, true, false, not, ◌&&◌, length, List, [], ◌∷◌, ◌++◌, Option, Some, None, map, refl, sym, ap, ◌∙◌, arith}
use mathlib.Core.Former.{Count}
use Rattle.f66_tree.specs.declared.format.Field.{Field}
use Rattle.f66_tree.specs.Fields.{Fields, NoField}
use Rattle.f66_tree.specs.Views as views
use Rattle.stmt_formats.specs.declared.items.Item.{Item}
use Rattle.stmt_formats.specs.declared.items.Item.TheVariants as i
use Rattle.stmt_formats.specs.declared.items.Item.TheBlock.{Row_of-Item, end_of-Item, more_of-Item, items-the_row-Item, items_hidden-the_row-Item-0}
use Rattle.stmt_formats.specs.States.{item_of, row_items, items_of, before_fields, onto_fields, format_of_items, format_of_inside}
use Rattle.std.proofs.lemmas.Bool.{false≢true}
use Rattle.stmt_reader.specs.Formats as f
use Rattle.stmt_reader.specs.Taking.{then_if}

row_items_is : (n : _) (row : Row_of-Item n) → row_items row ≡ items_of (items-the_row-Item n row)
row_items_is n end_of-Item = refl
row_items_is n (more_of-Item a rest) = ap (f.Then (item_of a)) (row_items_is _ rest)

abbrev row_of : Item → (n : Count) × Row_of-Item n
row_of (i.Nest' n shape row) = (_, row)
row_of _ = (_, end_of-Item)

pub nest_item : (n : Option ℕ) (list : Vec Item Global) → item_of (i.Nest n list) ≡ f.Nest n (items_of list.items)
nest_item n list =
    let row = row_of (i.Nest n list) in
    ap (f.Nest n) (row_items_is row.0 row.1 ∙ ap items_of (items_hidden-the_row-Item-0 list))

-- what is said of parentheses in memory
pub nest_seen : {A : Type 0} (g : f.Item → A) (a : Item) (n : Option ℕ) (list : Vec Item Global) (seen : List Item) → a ≡ i.Nest n list → seen ≡ list.items → g (f.Nest n (items_of seen)) ≡ g (item_of a)
nest_seen g a n list seen is same = ap (λ (all : List Item). g (f.Nest n (items_of all))) same ∙ ap g (sym (nest_item n list) ∙ ap item_of (sym is))

pub two_items : (a b : f.Item) (rest : f.Items) → None ≡ f.inside_of (f.Then a (f.Then b rest))
two_items (f.Edit n w) b rest = refl
two_items (f.Words text) b rest = refl
two_items f.Stroke b rest = refl
two_items f.Point b rest = refl
two_items (f.Nest None inside) b rest = refl
two_items (f.Nest (Some n) inside) b rest = refl

pub many_items : (items : List Item) → 2 ≤ length items → None ≡ format_of_items (items_of items)
many_items [] some = absurd (omega (arith, some))
many_items (a ∷ []) some = absurd (omega (arith, some))
many_items (a ∷ b ∷ items) some = ap (λ o. then_if o format_of_inside) (two_items (item_of a) (item_of b) (items_of items))

-- commas in parentheses that stand wrong, and right
pub no_nest : (m s g : Bool) → s ≡ false → (m && (s && g)) ≡ false
no_nest true true g wrong = absurd (false≢true (sym wrong))
no_nest false true g wrong = refl
no_nest true false g wrong = refl
no_nest false false g wrong = refl

pub some_nest : (m s g : Bool) → s ≡ true → (m && (s && g)) ≡ (m && g)
some_nest m true g right = refl
some_nest m false g right = absurd (false≢true right)

-- fields in memory
pub strung_before : (fields : List Field) → views.fields_of fields ≡ before_fields fields NoField
strung_before [] = refl
strung_before (a ∷ fields) = ap (views.field_then a) (strung_before fields)

pub one_more_field : (fields : List Field) (a : Field) (rest : Fields) → before_fields (fields ++ a ∷ []) rest ≡ before_fields fields (views.field_then a rest)
one_more_field [] a rest = refl
one_more_field (b ∷ fields) a rest = ap (views.field_then b) (one_more_field fields a rest)

pub pushed : (old : List Field) (a : Field) (g : Option (Fields → Fields)) (rest : Option Fields) → Some (views.field_then a) ≡ g → onto_fields (old ++ a ∷ []) rest ≡ onto_fields old (f.with_field g rest)
pushed old a g None is = ap (λ (h : Option (Fields → Fields)). onto_fields old (f.with_field h None)) is
pushed old a g (Some r) is = ap Some (one_more_field old a r) ∙ ap (λ (h : Option (Fields → Fields)). onto_fields old (f.with_field h (Some r))) is

-- a value that is large stays so
pub stays_large : (n : ℕ) (cs : List ℕ) → 65535 < n → 65535 ≡ f.small (f.value_after n cs)
stays_large n [] large = omega arith
stays_large n (c ∷ cs) large = stays_large (n * 10 + (c - 48)) cs (omega arith)
