-- Sets of names, and the lists of names that the definitions have in their place.
use Rattle.std.proofs.Common.{◌≡◌, Bool, true, false, not, ◌&&◌, ◌||◌, List, [], ◌∷◌, ◌++◌, Option, Some, None, refl, sym, ap, ◌∙◌}
use Rattle.std.specs.Str.{bytes_eq}
use Rattle.std.proofs.lemmas.List.Folds.{list_any-append}
use Rattle.efl_tree.specs.Syntax.{Text, EflType, Integer, Logical, Real, Complex, Named, Shape, EflGroups, NoGroup, AndGroup}
use Rattle.efl_scope.specs.Parts.{names_of, name_if, shapes_in, shapes_of}
use Rattle.efl_scope.specs.ScopeRules.{Names, holds, again, shapes_again}
use Rattle.efl_scope.specs.Sights.{with_name, with_names, without_name, without_names, Declared, declaring, declaring_all, declaring_if, adding_all, type_declared, groups_declared, list_declared}

-- ---- truth values ----

pub or_assoc : (a b c : Bool) → (a || (b || c)) ≡ ((a || b) || c)
or_assoc true b c = refl
or_assoc false b c = refl

pub or_swap : (a b c : Bool) → (a || (b || c)) ≡ (b || (a || c))
or_swap true true c = refl
or_swap true false c = refl
or_swap false b c = refl

pub or_false : (a : Bool) → (a || false) ≡ a
or_false true = refl
or_false false = refl

pub and_false : (a : Bool) → (a && false) ≡ false
and_false true = refl
and_false false = refl

nor : (a b c : Bool) → (not a && (not b && c)) ≡ (not (b || a) && c)
nor true true c = refl
nor true false c = refl
nor false true c = refl
nor false false c = refl

-- ---- sets are the same where each name is in both or none ----

pub same_names : (ms ns : Names) → ((y : Text) → ms y ≡ ns y) → ms ≡ ns
same_names ms ns same i y = same y i

-- ---- names that are added ----

pub with_names-holds : (xs : List Text) (ns : Names) (y : Text) → with_names xs ns y ≡ (holds xs y || ns y)
with_names-holds [] ns y = refl
with_names-holds (x ∷ xs) ns y = with_names-holds xs (with_name x ns) y ∙ or_swap (holds xs y) (bytes_eq y x) (ns y) ∙ or_assoc (bytes_eq y x) (holds xs y) (ns y)

pub without_names-holds : (xs : List Text) (ns : Names) (y : Text) → without_names xs ns y ≡ (not (holds xs y) && ns y)
without_names-holds [] ns y = refl
without_names-holds (x ∷ xs) ns y = without_names-holds xs (without_name x ns) y ∙ nor (holds xs y) (bytes_eq y x) (ns y)

pub without_names-append : (xs ys : List Text) (ns : Names) → without_names (xs ++ ys) ns ≡ without_names ys (without_names xs ns)
without_names-append [] ys ns = refl
without_names-append (x ∷ xs) ys ns = without_names-append xs ys (without_name x ns)

-- ---- names that stand again ----

-- a name of the list stands in one of two sets, or twice
abbrev pub again_in : Names → Names → List Text → Bool
again_in ns out [] = false
again_in ns out (x ∷ xs) = (ns x || out x) || again_in (with_name x ns) out xs

-- the list has the names of both sets
abbrev pub Covers : List Text → Names → Names → Type 0
Covers all ns out = (y : Text) → holds all y ≡ (ns y || out y)

pub covers-more : (all : List Text) (ns out : Names) (x : Text) → Covers all ns out → Covers (x ∷ all) (with_name x ns) out
covers-more all ns out x covers y = ap (λ b. bytes_eq y x || b) (covers y) ∙ or_assoc (bytes_eq y x) (ns y) (out y)

last_swap : (a b c d : Bool) → d ≡ (a || b) → (d || c) ≡ ((c || a) || b)
last_swap true b c d is = ap (λ v. v || c) is ∙ by c
  where
    by : (v : Bool) → true ≡ ((v || true) || b)
    by true = refl
    by false = refl
last_swap false true c d is = ap (λ v. v || c) is ∙ by c
  where
    by : (v : Bool) → true ≡ ((v || false) || true)
    by true = refl
    by false = refl
last_swap false false c d is = ap (λ v. v || c) is ∙ by c
  where
    by : (v : Bool) → v ≡ ((v || false) || false)
    by true = refl
    by false = refl

pub covers-append : (all xs : List Text) (ns out : Names) → Covers all ns out → Covers (all ++ xs) (with_names xs ns) out
covers-append all xs ns out covers y =
    list_any-append (bytes_eq y) all xs ∙ last_swap (ns y) (out y) (holds xs y) (holds all y) (covers y) ∙ ap (λ b. b || out y) (sym (with_names-holds xs ns y))

pub again-in : (xs all : List Text) (ns out : Names) → Covers all ns out → again all xs ≡ again_in ns out xs
again-in [] all ns out covers = refl
again-in (x ∷ xs) all ns out covers =
    ap (λ b. b || again (x ∷ all) xs) (covers x) ∙ ap (λ b. (ns x || out x) || b) (again-in xs (x ∷ all) (with_name x ns) out (covers-more all ns out x covers))

-- ---- what comes of a list of names ----

pub declaring_all-names : (out : Names) (xs : List Text) (d : Declared) → (declaring_all out xs d).names ≡ with_names xs d.names
declaring_all-names out [] d = refl
declaring_all-names out (x ∷ xs) d = declaring_all-names out xs (declaring out x d)

pub declaring_all-again : (out : Names) (xs : List Text) (d : Declared) → (declaring_all out xs d).again ≡ (d.again || again_in d.names out xs)
declaring_all-again out [] d = sym (or_false d.again)
declaring_all-again out (x ∷ xs) d = declaring_all-again out xs (declaring out x d) ∙ sym (or_assoc d.again (d.names x || out x) (again_in (with_name x d.names) out xs))

pub declaring_all-append : (out : Names) (xs ys : List Text) (d : Declared) → declaring_all out (xs ++ ys) d ≡ declaring_all out ys (declaring_all out xs d)
declaring_all-append out [] ys d = refl
declaring_all-append out (x ∷ xs) ys d = declaring_all-append out xs ys (declaring out x d)

declaring_if-is : (out : Names) (o : Option Text) (d : Declared) → declaring_if out o d ≡ declaring_all out (name_if o) d
declaring_if-is out None d = refl
declaring_if-is out (Some x) d = refl

mutual
  pub type_declared-is : (out : Names) (t : EflType) (d : Declared) → type_declared out t d ≡ declaring_all out (shapes_in t) d
  type_declared-is out Integer d = refl
  type_declared-is out Logical d = refl
  type_declared-is out (Real long) d = refl
  type_declared-is out (Complex long) d = refl
  type_declared-is out (Named x) d = refl
  type_declared-is out (Shape o gs) d =
      declaring_if-is out o (groups_declared out gs d) ∙ ap (declaring_all out (name_if o)) (groups_declared-is out gs d) ∙ sym (declaring_all-append out (shapes_of gs) (name_if o) d)

  pub groups_declared-is : (out : Names) (gs : EflGroups) (d : Declared) → groups_declared out gs d ≡ declaring_all out (shapes_of gs) d
  groups_declared-is out NoGroup d = refl
  groups_declared-is out (AndGroup t vs p gs) d =
      groups_declared-is out gs (type_declared out t d) ∙ ap (declaring_all out (shapes_of gs)) (type_declared-is out t d) ∙ sym (declaring_all-append out (shapes_in t) (shapes_of gs) d)

-- the structures of an area's list
pub list_declared-again : (out : Names) (gs : EflGroups) (before : List Text) (d : Declared) → Covers before d.names out →
    (list_declared out gs d).again ≡ (d.again || shapes_again before gs)
list_declared-again out NoGroup before d covers = sym (or_false d.again)
list_declared-again out (AndGroup t vs p gs) before d covers =
    let e = type_declared out t d in
    let names : e.names ≡ with_names (shapes_in t) d.names = ap (λ c. c.names) (type_declared-is out t d) ∙ declaring_all-names out (shapes_in t) d in
    let told : e.again ≡ (d.again || again before (shapes_in t)) =
    ap (λ c. c.again) (type_declared-is out t d) ∙ declaring_all-again out (shapes_in t) d ∙ ap (λ b. d.again || b) (sym (again-in (shapes_in t) before d.names out covers)) in
    let after : Covers (before ++ shapes_in t ++ names_of vs) (with_names (names_of vs) e.names) out =
    λ y. covers-append (before ++ shapes_in t) (names_of vs) (with_names (shapes_in t) d.names) out (covers-append before (shapes_in t) d.names out covers) y
    ∙ ap (λ ns. with_names (names_of vs) ns y || out y) (sym names) in
    list_declared-again out gs (before ++ shapes_in t ++ names_of vs) (adding_all (names_of vs) e) after
    ∙ ap (λ b. b || shapes_again (before ++ shapes_in t ++ names_of vs) gs) told
    ∙ sym (or_assoc d.again (again before (shapes_in t)) (shapes_again (before ++ shapes_in t ++ names_of vs) gs))
