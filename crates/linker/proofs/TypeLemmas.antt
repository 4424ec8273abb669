-- The type of a unit's name is that which the first statement gives that gives it one.
use Rattle.std.proofs.Common.{◌≡◌, ℕ, Bool, true, false, List, [], ◌∷◌, ◌||◌, Option, Some, None, unwrap_or, map, refl, ap, ◌∙◌}
use Rattle.std.specs.Prelude.{if◌then◌else◌}
use Rattle.std.specs.List.{list_any}
use Rattle.std.specs.Option.{option_or}
use Rattle.std.specs.Str.{bytes_eq}
use Rattle.rule_table.specs.Words.{find_map}
use Rattle.f66_tree.specs.declared.declaration.TypeWord.{TypeWord}
use Rattle.f66_tree.specs.declared.statement.Stmt.{Stmt}
use Rattle.f66_tree.specs.Syntax.{Text, Declared, Act, Typed}
use Rattle.f66_tree.specs.Units.{Note, is_note, notes_of, lists, type_in}
use Rattle.f66_tree.specs.Views.{act_of, line_of}
use Rattle.linker.specs.Types.{type_given}

lists-any : (q : Text) (ds : List Declared) → lists q ds ≡ list_any (λ d. bytes_eq q d.name) ds
lists-any q [] = refl
lists-any q (d ∷ ds) = ap (λ b. bytes_eq q d.name || b) (lists-any q ds)

typed_or : (b : Bool) (t unsaid : TypeWord) (later : Option TypeWord) → (if b then t else unwrap_or later unsaid) ≡ unwrap_or (option_or (if b then Some t else None) later) unsaid
typed_or true t unsaid later = refl
typed_or false t unsaid later = refl

one_given : (q : Text) (l : Option ℕ) (a : Act) (ns : List Note) (later : Option TypeWord) (unsaid : TypeWord) → type_in q ns unsaid ≡ unwrap_or later unsaid →
    type_in q (if is_note a then record { label = l; act = a } ∷ ns else ns) unsaid ≡ unwrap_or (option_or (type_given q a) later) unsaid
one_given q l (Typed t ds) ns later unsaid e =
    ap (λ b. if b then t else type_in q ns unsaid) (lists-any q ds)
    ∙ ap (λ w. if list_any (λ (d : Declared). bytes_eq q d.name) ds then t else w) e
    ∙ typed_or (list_any (λ d. bytes_eq q d.name) ds) t unsaid later
one_given q l _ ns later unsaid e = e

pub type_in-given : (q : Text) (ss : List Stmt) (unsaid : TypeWord) → type_in q (notes_of (map line_of ss)) unsaid ≡ unwrap_or (find_map (type_given q) (map (λ s. act_of s.kind) ss)) unsaid
type_in-given q [] unsaid = refl
type_in-given q (s ∷ ss) unsaid = one_given q s.label (act_of s.kind) (notes_of (map line_of ss)) (find_map (type_given q) (map (λ s. act_of s.kind) ss)) unsaid (type_in-given q ss unsaid)
