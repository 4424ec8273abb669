-- The names in the units of a program that may have places, each with the number of its unit, and how many they are.
use Rattle.std.proofs.Common.{◌≡◌, ℕ, zero, suc, ◌+◌, ◌≤◌, ◌<◌, true, List, [], ◌∷◌, ◌++◌, map, length, Some, refl, sym, ap, ◌∙◌, subst, arith, length-append}
use Rattle.std.specs.Prelude.{nat_eq, ◌&&◌}
use Rattle.std.specs.List.{Contains, slice_get, flat_map, enumerate_from, range_with_len}
use Rattle.std.specs.Option.{option_map}
use Rattle.std.proofs.lemmas.Bool.{and_parts, eqb-true}
use Rattle.std.proofs.lemmas.List.{get_or-map, length-map}
use Rattle.std.proofs.lemmas.List.Concat.{length-flat_map}
use Rattle.std.proofs.lemmas.List.Elements.{Contains-append_left, Contains-append_right}
use Rattle.std.proofs.lemmas.List.Folds.{Any-from_list_any}
use Rattle.std.proofs.lemmas.List.FromFn.{length-enumerate_from, length-range_with_len, get_or-range_with_len, length-map-range_with_len}
use Rattle.std.proofs.lemmas.List.Sums.{sum_by-le-sum_by}
use Rattle.ground.specs.declared.value.Kind.{Kind}
use Rattle.ground.specs.declared.value.Kind.TheVariants.{Integer, Logical}
use Rattle.f66_tree.specs.Syntax.{Text}
use Rattle.call_cycles.specs.declared.edge.Edge.{Edge}
use Rattle.efl_tree.specs.Syntax.{EflProgram}
use Rattle.efl_scope.specs.Marks.{Located, program_variables}
use Rattle.efl_types.specs.Whole.{edges_of}
use Rattle.efl_typed.specs.Typing.{bodies_of}
use Rattle.efl_lowered.specs.Naming.{Naming}
use Rattle.efl_lowered.specs.Lowering.{calls, temps_of}
use Rattle.efl_lowered.specs.Needs.{all_need}
use Rattle.efl_lowered.proofs.Lists.{numbered_at}
use Rattle.efl_plain.specs.Small.{unit_storage, most_storage}
use Rattle.efl_plain.proofs.Linked.{got_there}

-- ---- what is in a list ----

pub there_mapped : {X Y : Type 0} (f : X → Y) (xs : List X) (x : X) → Contains xs x → Contains (map f xs) (f x)
there_mapped f xs x c = (c.0, rw length-map c.1, get_or-map f xs c.0 x (f x) c.1 ∙ ap f c.2)

there_joined : {X Y : Type 0} (f : X → List Y) (xs : List X) (x : X) (y : Y) → Contains xs x → Contains (f x) y → Contains (flat_map f xs) y
there_joined f [] x y (i, lt, e) c = absurd (omega (lt, arith))
there_joined f (z ∷ xs) x y (zero, lt, e) c = Contains-append_left (f z) (flat_map f xs) y (subst (λ w. Contains (f w) y) (sym e) c)
there_joined f (z ∷ xs) x y (suc i, lt, e) c = Contains-append_right (f z) (flat_map f xs) y (there_joined f xs x y (i, omega (lt, arith), e) c)

there_below : (m i : ℕ) → i < m → Contains (range_with_len 0 m) i
there_below m i lt = (i, (let e = length-range_with_len 0 m in omega (e, lt, arith)), get_or-range_with_len 0 m i i lt ∙ omega arith)

module _ (p : EflProgram) (names : Naming) where
  abbrev Row : Type 0
  Row = ℕ × Text

  abbrev Vs : List Located
  Vs = program_variables p

  abbrev units : List ℕ
  units = range_with_len 0 (length p.procedures)

  -- the variables, the procedures that are called, and of each procedure its own name and its temporaries
  abbrev home_row : ℕ × Located → Row
  home_row x = (x.1.unit, names.home x.0)

  abbrev call_row : Edge → Row
  call_row e = (e.from, names.callee e.to)

  abbrev own_texts : ℕ → List Text
  own_texts n = names.callee n ∷ temps_of names n Integer ++ temps_of names n Logical

  abbrev own_rows : ℕ → List Row
  own_rows n = map (λ x. (n, x)) (own_texts n)

  abbrev homes : List Row
  homes = map home_row (enumerate_from 0 Vs)

  abbrev called : List Row
  called = map call_row (edges_of p)

  abbrev owned : List Row
  owned = flat_map own_rows units

  abbrev pub rows : List Row
  rows = homes ++ (called ++ owned)

  -- ---- what is among them ----

  pub home_there : (n v : ℕ) (x : Located) → slice_get Vs v ≡ Some x → x.unit ≡ n → Contains rows (n, names.home v)
  home_there n v x e is =
      let z : 0 + v ≡ v = omega arith in
      Contains-append_left homes (called ++ owned) (n, names.home v)
      (got_there homes v (n, names.home v) (numbered_at home_row 0 Vs v ∙ ap (option_map (λ y. home_row (0 + v, y))) e ∙ ap (λ m. Some (m, names.home (0 + v))) is ∙ ap (λ i. Some (n, names.home i)) z))

  pub call_there : (n m : ℕ) → calls p n m ≡ true → Contains rows (n, names.callee m)
  call_there n m h =
      let a = Any-from_list_any (λ e. nat_eq e.from n && nat_eq e.to m) (edges_of p) h in
      let ends = and_parts (nat_eq a.1.from n) (nat_eq a.1.to m) a.4 in
      let same : call_row a.1 ≡ (n, names.callee m) = ap (λ i. (i, names.callee a.1.to)) (eqb-true a.1.from n ends.0) ∙ ap (λ i. (n, names.callee i)) (eqb-true a.1.to m ends.1) in
      Contains-append_right homes (called ++ owned) (n, names.callee m)
      (Contains-append_left called owned (n, names.callee m) (subst (Contains called) same (there_mapped call_row (edges_of p) a.1 (a.0, a.2, a.3))))

  module _ (n : ℕ) (lt : n < length p.procedures) where
    own_there : (x : Text) → Contains (own_texts n) x → Contains rows (n, x)
    own_there x c =
        Contains-append_right homes (called ++ owned) (n, x)
        (Contains-append_right called owned (n, x) (there_joined own_rows units n (n, x) (there_below (length p.procedures) n lt) (there_mapped (λ y. (n, y)) (own_texts n) x c)))

    pub name_there : Contains rows (n, names.callee n)
    name_there = own_there (names.callee n) (0, omega arith, refl)

    temp_in : (k : Kind) (i : ℕ) → i ≤ names.room n → Contains (temps_of names n k) (names.temp k i)
    temp_in k i le = there_mapped (names.temp k) (range_with_len 0 (names.room n + 1)) i (there_below (names.room n + 1) i (omega (le, arith)))

    pub temp_there : (k : Kind) (i : ℕ) → i ≤ names.room n → Contains rows (n, names.temp k i)
    temp_there Integer i le = own_there (names.temp Integer i) (Contains-append_left (names.callee n ∷ temps_of names n Integer) (temps_of names n Logical) (names.temp Integer i) (Contains-append_right (names.callee n ∷ []) (temps_of names n Integer) (names.temp Integer i) (temp_in Integer i le)))
    temp_there Logical i le = own_there (names.temp Logical i) (Contains-append_right (names.callee n ∷ temps_of names n Integer) (temps_of names n Logical) (names.temp Logical i) (temp_in Logical i le))

  -- ---- how many there are ----

  module _ (rooms : (n : ℕ) → names.room n ≤ all_need (bodies_of p n) 0) where
    few_temps : (n : ℕ) (k : Kind) → length (temps_of names n k) ≤ all_need (bodies_of p n) 0 + 1
    few_temps n k = let e = length-map-range_with_len (names.temp k) 0 (names.room n + 1) in let le = rooms n in omega (e, le, arith)

    few_own : (n : ℕ) → length (own_rows n) ≤ unit_storage p n
    few_own n =
        let i = few_temps n Integer in
        let l = few_temps n Logical in
        let e = length-map {B = Row} (own_texts n) (λ x. (n, x)) in
        let j = length-append (temps_of names n Integer) (temps_of names n Logical) in
        omega (e, j, i, l, arith)

    pub few_rows : length rows ≤ most_storage p
    few_rows =
        let a = length-append homes (called ++ owned) in
        let b = length-append called owned in
        let h = length-map (enumerate_from 0 Vs) home_row ∙ length-enumerate_from 0 Vs in
        let c = length-map (edges_of p) call_row in
        let o = length-flat_map own_rows units in
        let le = sum_by-le-sum_by (λ n. length (own_rows n)) (unit_storage p) units few_own in
        omega (a, b, h, c, o, le, arith)
