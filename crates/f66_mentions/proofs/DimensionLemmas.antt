-- The dimensions of a context's names are those that the first statement gives that gives some.
use Rattle.std.proofs.Common.{◌≡◌, ℕ, Bool, true, false, List, [], ◌∷◌, ◌++◌, Option, Some, None, unwrap_or, map, take, length, get_or, ◌<◌, ◌+◌, refl, ap, sym, ◌∙◌, arith, append_assoc}
use Rattle.std.proofs.lemmas.List.{append-nil, take_more, map-append}
use Rattle.std.specs.Prelude.{if◌then◌else◌}
use Rattle.std.specs.List.{flat_map}
use Rattle.std.specs.Option.{option_or}
use Rattle.std.specs.Str.{bytes_eq}
use Rattle.rule_table.specs.Words.{find_map}
use Rattle.f66_tree.specs.declared.statement.Stmt.{Stmt}
use Rattle.f66_tree.specs.Syntax.{Text, Par, Declared, Area, Act, Typed, Dimension, Common}
use Rattle.f66_tree.specs.Units.{Note, is_note, notes_of, if_any, sizes_in, sizes_in_areas, sizes_of}
use Rattle.f66_tree.specs.Views.{act_of, lines_of}
use Rattle.f66_mentions.specs.Dimensions.{given, given_by, dims_in}

or_unwrapped : {V : Type 0} (a b : Option V) (d : V) → unwrap_or (option_or a b) d ≡ unwrap_or a (unwrap_or b d)
or_unwrapped None b d = refl
or_unwrapped (Some v) b d = refl

find_map-append : {X V : Type 0} (f : X → Option V) (xs ys : List X) → find_map f (xs ++ ys) ≡ option_or (find_map f xs) (find_map f ys)
find_map-append f [] ys = grind arith
find_map-append f (x ∷ xs) ys = grind (arith, find_map-append f xs ys)

any_given : (ns others : List Par) → if_any ns others ≡ unwrap_or (given ns) others
any_given [] others = refl
any_given (n ∷ ns) others = refl

given_or : (b : Bool) (ns later : List Par) → (if b then if_any ns later else later) ≡ unwrap_or (if b then given ns else None) later
given_or true ns later = any_given ns later
given_or false ns later = refl

sizes_in-given : (q : Text) (ds : List Declared) (others : List Par) → sizes_in q ds others ≡ unwrap_or (find_map (given_by q) ds) others
sizes_in-given q [] others = refl
sizes_in-given q (d ∷ ds) others =
    given_or (bytes_eq q d.name) d.sizes (sizes_in q ds others)
    ∙ ap (unwrap_or (given_by q d)) (sizes_in-given q ds others)
    ∙ sym (or_unwrapped (given_by q d) (find_map (given_by q) ds) others)

sizes_in_areas-given : (q : Text) (areas : List Area) (others : List Par) → sizes_in_areas q areas others ≡ unwrap_or (find_map (given_by q) (flat_map (λ a. a.list) areas)) others
sizes_in_areas-given q [] others = refl
sizes_in_areas-given q (a ∷ areas) others =
    sizes_in-given q a.list (sizes_in_areas q areas others)
    ∙ ap (unwrap_or (find_map (given_by q) a.list)) (sizes_in_areas-given q areas others)
    ∙ sym (or_unwrapped (find_map (given_by q) a.list) (find_map (given_by q) (flat_map (λ b. b.list) areas)) others)
    ∙ ap (λ o. unwrap_or o others) (sym (find_map-append (given_by q) a.list (flat_map (λ b. b.list) areas)))

sizes_line : (q : Text) (l : Option ℕ) (a : Act) (ns : List Note) → sizes_of q (if is_note a then record { label = l; act = a } ∷ ns else ns) ≡ unwrap_or (dims_in q a) (sizes_of q ns)
sizes_line q l (Typed t ds) ns = sizes_in-given q ds (sizes_of q ns)
sizes_line q l (Dimension ds) ns = sizes_in-given q ds (sizes_of q ns)
sizes_line q l (Common areas) ns = sizes_in_areas-given q areas (sizes_of q ns)
sizes_line q l _ ns = refl

pub sizes_given : (q : Text) (all : List Stmt) → sizes_of q (notes_of (lines_of all)) ≡ unwrap_or (find_map (dims_in q) (map (λ s. act_of s.kind) all)) []
sizes_given q [] = refl
sizes_given q (s ∷ all) =
    sizes_line q s.label (act_of s.kind) (notes_of (lines_of all))
    ∙ ap (unwrap_or (dims_in q (act_of s.kind))) (sizes_given q all)
    ∙ sym (or_unwrapped (dims_in q (act_of s.kind)) (find_map (dims_in q) (map (λ s. act_of s.kind) all)) [])

-- one list more of blocks

flat_map-push : {X Y : Type 0} (g : X → List Y) (xs : List X) (y : X) → flat_map g (xs ++ y ∷ []) ≡ flat_map g xs ++ g y
flat_map-push g [] y = append-nil (g y)
flat_map-push g (x ∷ xs) y = ap (λ zs. g x ++ zs) (flat_map-push g xs y) ∙ sym (append_assoc (g x) (flat_map g xs) (g y))

pub found_more : {A X Y V : Type 0} (f : Y → Option V) (g : X → List Y) (h : A → X) (xs : List A) (i : ℕ) (x : A) → i < length xs → x ≡ get_or xs i x →
    find_map f (flat_map g (map h (take (i + 1) xs))) ≡ option_or (find_map f (flat_map g (map h (take i xs)))) (find_map f (g (h x)))
found_more f g h xs i x below is =
    ap (λ ys. find_map f (flat_map g (map h ys))) (take_more xs i x below ∙ ap (λ y. take i xs ++ y ∷ []) (sym is))
    ∙ ap (λ ys. find_map f (flat_map g ys)) (map-append h (take i xs) (x ∷ []))
    ∙ ap (find_map f) (flat_map-push g (map h (take i xs)) (h x))
    ∙ find_map-append f (flat_map g (map h (take i xs))) (g (h x))

option_or-assoc : {V : Type 0} (a b d : Option V) → option_or (option_or a b) d ≡ option_or a (option_or b d)
option_or-assoc None b d = refl
option_or-assoc (Some v) b d = refl

-- a table with more values, where those that came before count first
pub noted_more : {V : Type 0} (new mid old f g h : Option V) → new ≡ option_or mid g → mid ≡ option_or old f → h ≡ option_or f g → new ≡ option_or old h
noted_more new mid old f g h last before whole = last ∙ ap (λ o. option_or o g) before ∙ option_or-assoc old f g ∙ ap (option_or old) (sym whole)
