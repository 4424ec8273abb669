-- The tokens of COMMON, EQUIVALENCE and DATA have no more open parentheses than the statement.
use Rattle.std.proofs.Common.{◌≡◌, ℕ, suc, ◌+◌, ◌≤◌, Bool, true, false, cond, List, [], ◌∷◌, Option, Some, None, refl, ap, arith, codes}
use Rattle.std.specs.Prelude.{max, ◌==◌}
use Rattle.std.specs.List.{AllByRecursion}
use Rattle.f66_tree.specs.declared.expression.Operator.TheVariants.{Mul, Div}
use Rattle.f66_tree.specs.Syntax.{Text, Formula, Int, Truth, Letter, Ref, Item, Plus, Minus, Declared, Area, PresetPart}
use Rattle.f66_tree.specs.Views.{chained}
use Rattle.stmt_reader.specs.declared.token.Token.{Token}
use Rattle.stmt_reader.specs.declared.token.Token.TheVariants as t
use Rattle.stmt_reader.specs.Spelling.{spell, spell_list, spell_others}
use Rattle.stmt_reader.specs.Spelled.{spell_declared}
use Rattle.deck.specs.Readable.{is_readable_datum}
use Rattle.deck.specs.ReadableStatements.{AreSome, IsReadableValue, IsReadablePart}
use Rattle.deck.proofs.CommonsRead.{spell_area, spell_areas}
use Rattle.deck.proofs.EquivalencesRead.{spell_group}
use Rattle.deck.proofs.ListsRead.{spell_some}
use Rattle.deck.proofs.PresetsRead.{spell_value, spell_part, lettered, first_lettered, lettered_part, preset_tokens}
use Rattle.deck_laws.specs.Nesting.{deepest, nesting, nesting_all, declared_nesting, area_nesting, group_nesting, preset_nesting}
use Rattle.deck_laws.proofs.ShallowTokens.{StayShallow, keeps, opens, closes, spell_shallow, list_shallow, sized_shallow, some_shallow}

-- ---- COMMON ----

names_shallow : (ds : List Declared) (k : List Token) → deepest declared_nesting ds ≤ 110 → StayShallow 0 k → StayShallow 0 (spell_some spell_declared ds k)
names_shallow ds k room is = some_shallow declared_nesting spell_declared (λ n d m small rest. sized_shallow n.name n.sizes d m small rest) ds 0 k (omega (arith, room)) is

area_shallow : (name : Option Text) (list : List Declared) (k : List Token) → deepest declared_nesting list ≤ 110 → StayShallow 0 k → StayShallow 0 (spell_area (record { name = name; list = list }) k)
area_shallow None list k room is =
    let names : List Token = spell_some spell_declared list k in
    keeps 0 (t.Joint Div) (t.Joint Div ∷ names) refl (keeps 0 (t.Joint Div) names refl (names_shallow list k room is))
area_shallow (Some x) list k room is =
    let names : List Token = spell_some spell_declared list k in
    keeps 0 (t.Joint Div) (t.Word x ∷ t.Joint Div ∷ names) refl (keeps 0 (t.Word x) (t.Joint Div ∷ names) refl (keeps 0 (t.Joint Div) names refl (names_shallow list k room is)))

areas_shallow : (areas : List Area) → deepest area_nesting areas ≤ 110 → StayShallow 0 (spell_areas areas [])
areas_shallow [] room = refl
areas_shallow (a ∷ all) room = area_shallow a.name a.list (spell_areas all []) (omega (arith, room)) (areas_shallow all (omega (arith, room)))

pub common_shallow : (areas : List Area) → deepest area_nesting areas ≤ 110 → StayShallow 0 (t.Word (codes "COMMON") ∷ spell_areas areas [])
common_shallow areas room = keeps 0 (t.Word (codes "COMMON")) (spell_areas areas []) refl (areas_shallow areas room)

-- ---- EQUIVALENCE ----

chained_nesting : (es : List Formula) → nesting_all (chained es) ≡ deepest nesting es
chained_nesting [] = refl
chained_nesting (e ∷ es) = ap (max (nesting e)) (chained_nesting es)

group_shallow : (es : List Formula) (d : ℕ) (k : List Token) → group_nesting es + d ≤ 110 → StayShallow d k → StayShallow d (spell_group es k)
group_shallow es d k room is =
    let same = chained_nesting es in
    opens d (spell_list (chained es) (t.Close ∷ k)) (list_shallow (chained es) (suc d) (t.Close ∷ k) (omega (arith, room, same)) (closes d k (omega (arith, room)) is))

pub equivalence_shallow : (groups : List (List Formula)) → deepest group_nesting groups ≤ 110 → StayShallow 0 (t.Word (codes "EQUIVALENCE") ∷ spell_some spell_group groups [])
equivalence_shallow groups room = keeps 0 (t.Word (codes "EQUIVALENCE")) (spell_some spell_group groups []) refl (some_shallow group_nesting spell_group group_shallow groups 0 [] (omega (arith, room)) refl)

-- ---- DATA ----

datum_flat : (e : Formula) → is_readable_datum e ≡ true → nesting e ≡ 0
datum_flat (Int z) is = refl
datum_flat (Plus (Int z)) is = refl
datum_flat (Minus (Int z)) is = refl
datum_flat (Truth b) is = refl
datum_flat (Letter c) is = refl
datum_flat _ is = absurd cc

values_flat : (vs : List (ℕ × Formula)) → AllByRecursion IsReadableValue vs → deepest (λ (v : ℕ × Formula). nesting v.1) vs ≡ 0
values_flat [] fine = refl
values_flat (v ∷ vs) fine = let here = datum_flat v.1 fine.0.1 in let others = values_flat vs fine.1 in rw (here, others) refl

all_values : (vs : List (ℕ × Formula)) → AreSome IsReadableValue vs → AllByRecursion IsReadableValue vs
all_values [] fine = absurd fine
all_values (v ∷ vs) fine = fine

value_shallow : (n : ℕ) (e : Formula) (one : Bool) (d : ℕ) (k : List Token) → nesting e + d ≤ 110 → StayShallow d k → StayShallow d (cond one (spell e k) (t.Number n ∷ t.Joint Mul ∷ spell e k))
value_shallow n e true d k room is = spell_shallow e d k room is
value_shallow n e false d k room is = keeps d (t.Number n) (t.Joint Mul ∷ spell e k) refl (keeps d (t.Joint Mul) (spell e k) refl (spell_shallow e d k room is))

values_shallow : (vs : List (ℕ × Formula)) (k : List Token) → AreSome IsReadableValue vs → StayShallow 0 k → StayShallow 0 (spell_some spell_value vs k)
values_shallow vs k fine is =
    let flat = values_flat vs (all_values vs fine) in
    some_shallow (λ (v : ℕ × Formula). nesting v.1) spell_value (λ v d m room rest. value_shallow v.0 v.1 (v.0 == 1) d m room rest) vs 0 k (omega (arith, flat)) is

part_shallow : (p : PresetPart) (k : List Token) → AreSome IsReadableValue p.values → preset_nesting p ≤ 110 → StayShallow 0 k → StayShallow 0 (spell_part p k)
part_shallow p k fine room is =
    some_shallow nesting spell spell_shallow p.places 0 (t.Joint Div ∷ spell_some spell_value p.values (t.Joint Div ∷ k)) (omega (arith, room))
    (keeps 0 (t.Joint Div) (spell_some spell_value p.values (t.Joint Div ∷ k)) refl (values_shallow p.values (t.Joint Div ∷ k) fine (keeps 0 (t.Joint Div) k refl is)))

parts_shallow : (ps : List PresetPart) → AllByRecursion IsReadablePart ps → deepest preset_nesting ps ≤ 110 → StayShallow 0 (spell_others spell_part t.Comma ps [])
parts_shallow [] fine room = refl
parts_shallow (p ∷ ps) fine room =
    let rest : List Token = spell_others spell_part t.Comma ps [] in
    keeps 0 t.Comma (spell_part p rest) refl (part_shallow p rest fine.0.1 (omega (arith, room)) (parts_shallow ps fine.1 (omega (arith, room))))

-- the letters before the first place open no parenthesis
lettered_nesting : (w : List ℕ) (e : Formula) → nesting (lettered w e) ≡ nesting e
lettered_nesting w (Ref x) = refl
lettered_nesting w (Item x es) = refl
lettered_nesting w _ = refl

places_nesting : (w : List ℕ) (es : List Formula) → deepest nesting (first_lettered w es) ≡ deepest nesting es
places_nesting w [] = refl
places_nesting w (e ∷ es) = ap (λ (n : ℕ). max n (deepest nesting es)) (lettered_nesting w e)

pub preset_shallow : (parts : List PresetPart) → AreSome IsReadablePart parts → deepest preset_nesting parts ≤ 110 → StayShallow 0 (preset_tokens parts)
preset_shallow [] fine room = absurd fine
preset_shallow (p ∷ ps) fine room =
    let same = places_nesting (codes "DATA") p.places in
    part_shallow (lettered_part (codes "DATA") p) (spell_others spell_part t.Comma ps []) fine.0.1 (omega (arith, room, same)) (parts_shallow ps fine.1 (omega (arith, room)))
