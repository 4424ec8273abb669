-- Fields and groups of formats.
use Rattle.std.proofs.Common.{◌≡◌, ◌&&◌, ◌<◌, ◌+◌, ℕ, zero, suc, Bool, true, false, List, length, drop, get_or, Vec, Global, refl, ap, sym, ◌∙◌}
use Rattle.f66_tree.specs.declared.format.Field.{Field}
use Rattle.f66_tree.specs.declared.format.Field as f
use Rattle.f66_tree.specs.declared.format.Field.TheVariants as fields
use Rattle.f66_tree.specs.Fields.{Fields, NoField, Group}
use Rattle.f66_tree.specs.Views.{field_then, row_fields, fields_of}
use Rattle.f66_tree.proofs.Rows.{group_fields}
use Rattle.f66_names.specs.Shapes.{are_printed}
use Rattle.f66_names.specs.StoreRules.{is_between, are_fit}
use Rattle.f66_names.proofs.SizeLemmas.{read_on}

-- a group in memory
pub group_seen : {A : Type 0} (g : Fields → A) (a : Field) (n : ℕ) (list : Vec Field Global) (seen : List Field) → a ≡ fields.Group n list → seen ≡ list.items →
    g (Group n (fields_of seen) NoField) ≡ g (field_then a NoField)
group_seen g a n list seen is at =
    ap (λ fs. g (Group n (fields_of fs) NoField)) at ∙ sym (ap (λ b. g (field_then b NoField)) is ∙ ap (λ h. g (h NoField)) (group_fields n list))

and_last : (a b : Bool) → (a && b) ≡ ((a && true) && b)
and_last true b = refl
and_last false b = refl

pub and_end : (a : Bool) → (a && true) ≡ a
and_end true = refl
and_end false = refl

and_inner : (a b d : Bool) → (a && (b && d)) ≡ ((a && (b && true)) && d)
and_inner true true d = refl
and_inner true false d = refl
and_inner false b d = refl

-- a field, and what follows it
pub printed_then : (a : Field) (rest : Fields) → are_printed (field_then a rest) ≡ (are_printed (field_then a NoField) && are_printed rest)
printed_then (f.Whole n w) rest = refl
printed_then (f.Truth n w) rest = refl
printed_then (f.Letter n) rest = refl
printed_then (f.Skip n) rest = refl
printed_then (f.Chars text) rest = and_last _ (are_printed rest)
printed_then f.Slash rest = refl
printed_then (f.Group' n shape inside) rest = and_last _ (are_printed rest)

group_then : (deep n : ℕ) (inside rest : Fields) → are_fit deep (Group n inside rest) ≡ (are_fit deep (Group n inside NoField) && are_fit deep rest)
group_then zero n inside rest = refl
group_then (suc deep) n inside rest = and_inner (is_between 1 999 n) (are_fit deep inside) (are_fit (suc deep) rest)

pub fit_then : (deep : ℕ) (a : Field) (rest : Fields) → are_fit deep (field_then a rest) ≡ (are_fit deep (field_then a NoField) && are_fit deep rest)
fit_then deep (f.Whole n w) rest = and_last _ (are_fit deep rest)
fit_then deep (f.Truth n w) rest = and_last _ (are_fit deep rest)
fit_then deep (f.Letter n) rest = and_last _ (are_fit deep rest)
fit_then deep (f.Skip n) rest = and_last _ (are_fit deep rest)
fit_then deep (f.Chars text) rest = and_last _ (are_fit deep rest)
fit_then deep f.Slash rest = refl
fit_then deep (f.Group' n shape inside) rest = group_then deep n (row_fields inside) rest

-- the field that a loop reads, and those behind it
pub printed_on : (xs : List Field) (i : ℕ) (x : Field) → i < length xs → x ≡ get_or xs i x →
    are_printed (fields_of (drop i xs)) ≡ (are_printed (field_then x NoField) && are_printed (fields_of (drop (i + 1) xs)))
printed_on xs i x h is = ap (λ ys. are_printed (fields_of ys)) (sym (read_on xs i x h is)) ∙ printed_then x (fields_of (drop (i + 1) xs))

pub fit_on : (deep : ℕ) (xs : List Field) (i : ℕ) (x : Field) → i < length xs → x ≡ get_or xs i x →
    are_fit deep (fields_of (drop i xs)) ≡ (are_fit deep (field_then x NoField) && are_fit deep (fields_of (drop (i + 1) xs)))
fit_on deep xs i x h is = ap (λ ys. are_fit deep (fields_of ys)) (sym (read_on xs i x h is)) ∙ fit_then deep x (fields_of (drop (i + 1) xs))
