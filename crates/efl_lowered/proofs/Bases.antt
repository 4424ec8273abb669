-- Where a scalar variable begins on both sides: a formal where its actual does, and any other one at its own storage unit.
use Rattle.std.proofs.Common.{◌≡◌, ℕ, zero, suc, ◌+◌, ◌<◌, Bool, true, false, true≢false, List, [], ◌∷◌, map, Option, None, Some, refl, sym, ap, ◌∙◌, subst, arith, if◌then◌else◌, ◌&&◌}
use Rattle.std.specs.Prelude.{⊤, nat_eq, nat_lt, is_none, is_some}
use Rattle.std.specs.List.{slice_get}
use Rattle.std.specs.Str.{bytes_eq}
use Rattle.std.proofs.lemmas.Bool.{and_parts, and_from, eqb-true, eq-eqb}
use Rattle.std.proofs.lemmas.Option.{none-some, same_Some}
use Rattle.ground.specs.declared.value.Kind.{Kind}
use Rattle.ground.specs.declared.value.Kind.TheVariants.{Integer, Logical}
use Rattle.f66_tree.specs.Syntax.{Text, MainUnit}
use Rattle.f66_tree.specs.World.{Try, Yields, Traps, Fails}
use Rattle.f66_tree.specs.Units.{position, one_on, dummies_of, Spot, Held, Linkage}
use Rattle.f66_tree.specs.Evaluation.{given, base_by}
use Rattle.f66_program.specs.Mentions.{context_of}
use Rattle.f66_program.specs.Linking.{IsLinkage}
use Rattle.efl_tree.specs.Syntax.{EflProcedure, EflProgram}
use Rattle.efl_scope.specs.Marks.{Located, program_variables}
use Rattle.efl_types.specs.Signatures.{Result, Nothing, Gives, Unknown, result_of}
use Rattle.efl_program.specs.Setting as efl
use Rattle.efl_typed.specs.Linking.{formals_in, linkage_of}
use Rattle.efl_routes.specs.LoweredProgram.{AllSame, Based, SameSpot, passed, size}
use Rattle.efl_lowered.specs.Naming.{Naming}
use Rattle.efl_lowered.specs.Lowering.{is_scalar, stands_in, or_spare, named_header, header_of, dummies, unit_of}
use Rattle.efl_lowered.specs.Facts.{is_unit, formals, has_scalar, has_variable, IsOverScalars, AreReady}
use Rattle.efl_lowered.specs.Names.{Name, OfVariable, AreNames}
use Rattle.efl_lowered.proofs.Lists.{or_left, or_right, same_text, some_and, no_position}
use Rattle.efl_lowered.proofs.UnitLemmas.{Rs, unit_at}
use Rattle.efl_lowered.proofs.Apart.{unlike, same_variable}
use Rattle.efl_lowered.proofs.Seats.{is_seated, formals_are, seated_free}
use Rattle.efl_lowered.proofs.Cells.{number_is, extent_is, owner_is, seat_of_variable, is_place, cell, cell_of_variable}

-- ---- actuals ----

-- an actual and what it is on the other side
pub record Given (R : efl.Spot → Spot → Type 0) (i : ℕ) (ps : List efl.Spot) (qs : List Spot) : Type 0 where
  pub source : efl.Spot
  pub target : Spot
  pub is : efl.given i ps ≡ Yields source
  pub is1 : given i qs ≡ Yields target
  pub same : R source target

given_same : (R : efl.Spot → Spot → Type 0) (i : ℕ) (ps : List efl.Spot) (qs : List Spot) → AllSame R ps qs → i < size ps → Given R i ps qs
given_same R i [] [] s lt = absurd (omega (lt, arith))
given_same R zero (a ∷ ps) (b ∷ qs) s lt = record { source = a; target = b; is = refl; is1 = refl; same = s.0 }
given_same R (suc i) (a ∷ ps) (b ∷ qs) s lt = let g = given_same R i ps qs s.1 (omega (lt, arith)) in record { source = g.source; target = g.target; is = g.is; is1 = g.is1; same = g.same }
given_same R i [] (b ∷ qs) s lt = absurd s
given_same R i (a ∷ ps) [] s lt = absurd s

no_yield : {A : Type 0} (a : A) → Fails ≡ Yields a → ⊥
no_yield {A} a e = subst IsFailed e tt
  where
    IsFailed : Try A → Type 0
    IsFailed (Yields x) = ⊥
    IsFailed (Traps t) = ⊥
    IsFailed Fails = ⊤

passed_given : (f : Bool) (i : ℕ) (qs : List Spot) (b : Spot) → given i qs ≡ Yields b → given i (passed f qs) ≡ Yields b
passed_given false i qs b e = e
passed_given true i [] b e = absurd (no_yield b e)
passed_given true i (q ∷ qs) b e = e

-- ---- formals ----

same_on : (o : Option ℕ) → one_on o ≡ efl.one_on o
same_on None = refl
same_on (Some i) = refl

position_mapped : (f : ℕ → Text) (x : ℕ) (vs : List ℕ) → ((i v : ℕ) → slice_get vs i ≡ Some v → bytes_eq (f x) (f v) ≡ nat_eq x v) → position (f x) (map f vs) ≡ efl.position x vs
position_mapped f x [] h = refl
position_mapped f x (v ∷ vs) h =
    ap (λ b. if b then Some zero else one_on (position (f x) (map f vs))) (h 0 v refl)
    ∙ ap (λ o. if (nat_eq x v) then Some zero else o) (same_on (position (f x) (map f vs)) ∙ ap efl.one_on (position_mapped f x vs (λ i. h (suc i))))

position_within : (x : ℕ) (vs : List ℕ) (i : ℕ) → efl.position x vs ≡ Some i → i < size vs
position_within x [] i e = absurd (none-some i e)
position_within x (v ∷ vs) i e = by_first (nat_eq x v) refl (position_within x vs)
  where
    inner : (o : Option ℕ) → efl.one_on o ≡ Some i → ((j : ℕ) → o ≡ Some j → j < size vs) → i < 1 + size vs
    inner None g later = absurd (none-some i g)
    inner (Some j) g later = let lt = later j refl in let is = same_Some (suc j) i g in omega (lt, is, arith)

    by_first : (b : Bool) → nat_eq x v ≡ b → ((j : ℕ) → efl.position x vs ≡ Some j → j < size vs) → i < 1 + size vs
    by_first true t later = let is = same_Some zero i (sym (ap (λ b. if b then Some zero else efl.one_on (efl.position x vs)) t) ∙ e) in omega (is, arith)
    by_first false t later = inner (efl.position x vs) (sym (ap (λ b. if b then Some zero else efl.one_on (efl.position x vs)) t) ∙ e) later

spared_position : (q x : Text) (ds : List Text) (i : ℕ) → position q ds ≡ Some i → position q (or_spare x ds) ≡ Some i
spared_position q x [] i e = absurd (none-some i e)
spared_position q x (d ∷ ds) i e = e

dummy_position : (names : Naming) (n : ℕ) (q : Text) (b : Bool) (r : Result) (ds : List Text) (i : ℕ) → b ≡ false → position q ds ≡ Some i → position q (dummies_of (if b then MainUnit else (named_header names n r ds))) ≡ Some i
dummy_position names n q true r ds i is e = absurd (true≢false is)
dummy_position names n q false (Gives k) ds i is e = spared_position q (names.temp Integer (names.room n)) ds i e
dummy_position names n q false Nothing ds i is e = e
dummy_position names n q false Unknown ds i is e = e

none_is : {X : Type 0} (o : Option X) → is_none o ≡ true → o ≡ None
none_is None h = refl
none_is (Some x) h = absurd (true≢false (sym h))

module _ (p : EflProgram) (names : Naming) (over : IsOverScalars p) (are : AreNames p names) (ready : AreReady p names) (l : Linkage) (linked : IsLinkage (Rs p names) l) where
  abbrev Place : ℕ → Type 0
  Place q = is_place p names q ≡ true

  pub context_is : (n : ℕ) (u : EflProcedure) → slice_get p.procedures n ≡ Some u → l.context n ≡ context_of (unit_of names p n u)
  context_is n u e = linked.contexts n (unit_of names p n u) (unit_at p names n u e)

  variable_has : (n v : ℕ) (k : Kind) → has_scalar p n v k ≡ true → has_variable p n v ≡ true
  variable_has n v Integer h = or_left (has_scalar p n v Integer) (has_scalar p n v Logical) h
  variable_has n v Logical h = or_right (has_scalar p n v Integer) (has_scalar p n v Logical) h

  -- ---- a variable that is no formal ----

  module _ (n : ℕ) (u : EflProcedure) (here : slice_get p.procedures n ≡ Some u) (v : ℕ) (k : Kind) (has : has_scalar p n v k ≡ true) where
    abbrev found : (x : Located) × (slice_get (program_variables p) v ≡ Some x) × (stands_in n k x ≡ true)
    found = some_and (stands_in n k) (slice_get (program_variables p) v) has

    in_unit : found.0.unit ≡ n
    in_unit = eqb-true found.0.unit n (and_parts (nat_eq found.0.unit n) (is_scalar k found.0.variable.kind) found.2).0

    cell_is : cell p names l v ≡ l.number n (names.home v) 0
    cell_is = cell_of_variable p names l v found.0 found.1 ∙ ap (λ i. l.number i (names.home v) 0) in_unit

    place_is : is_seated p names n (OfVariable v) ≡ true → is_place p names v ≡ true
    place_is seated =
        ap (λ (s : ℕ × Name). is_unit p s.0 && is_seated p names s.0 s.1) (seat_of_variable p names v found.0 found.1)
        ∙ ap (λ i. is_unit p i && is_seated p names i (OfVariable v)) in_unit
        ∙ and_from (is_unit p n) (is_seated p names n (OfVariable v)) (ap is_some here) seated

    own_base : (ps : List efl.Spot) (qs : List Spot) → efl.position v (formals p n) ≡ None →
        Based (cell p names l) Place (linkage_of p) l (efl.base_by (efl.position v (formals p n)) ((linkage_of p).owner v) ps) (base_by (position (names.home v) (dummies_of (l.context n).header)) n qs (names.home v))
    own_base ps qs none =
        let seated : is_seated p names n (OfVariable v) ≡ true = and_from (has_variable p n v) (is_none (efl.position v (formals p n))) (variable_has n v k has) (ap is_none none) in
        let number = number_is p over v found.0 found.1 in
        record {
          source = efl.Held v 0;
          target = Held n (names.home v) 0;
          is = ap (λ o. efl.base_by o ((linkage_of p).owner v) ps) none ∙ ap (λ w. Yields (efl.Held w 0)) (owner_is p over v found.0 found.1);
          is1 = ap (λ o. base_by o n qs (names.home v)) (ap (λ c. position (names.home v) (dummies_of c.header)) (context_is n u here) ∙ no_position (names.home v) (dummies_of (header_of names (program_variables p) n u)) (seated_free p names are ready n u here (OfVariable v) seated));
          same = (sym (ap (cell p names l) number ∙ cell_is), ap (nat_lt 0) (extent_is p over v found.0 found.1), ap (is_place p names) number ∙ place_is seated);
        }

    -- ---- a formal ----

    like_text : (i w : ℕ) → slice_get (formals p n) i ≡ Some w → bytes_eq (names.home v) (names.home w) ≡ nat_eq v w
    like_text i w e = by_number (nat_eq v w) refl
      where
        by_number : (b : Bool) → nat_eq v w ≡ b → bytes_eq (names.home v) (names.home w) ≡ nat_eq v w
        by_number true t = ap (λ j. bytes_eq (names.home v) (names.home j)) (sym (eqb-true v w t)) ∙ same_text (names.home v) ∙ sym t
        by_number false t = unlike p names are n (ap is_some here) (OfVariable v) (OfVariable w) (variable_has n v k has) (ready.formal n i w e) (λ same. true≢false (sym (eq-eqb v w (same_variable v w same)) ∙ t)) ∙ sym t

    not_main : (i : ℕ) → efl.position v (formals p n) ≡ Some i → is_none u.name ≡ false
    not_main i e = by_name (is_none u.name) refl
      where
        by_name : (b : Bool) → is_none u.name ≡ b → is_none u.name ≡ false
        by_name false t = t
        by_name true t = absurd (none-some i (sym (ap (efl.position v) (ap (formals p) (ready.one_main n u here (none_is u.name t)) ∙ ready.no_formals)) ∙ e))

    formal_base : (ps : List efl.Spot) (qs : List Spot) (f : Bool) → AllSame (SameSpot (cell p names l) Place (linkage_of p) l) ps qs → size ps ≡ size (formals p n) → (i : ℕ) → efl.position v (formals p n) ≡ Some i →
        Based (cell p names l) Place (linkage_of p) l (efl.base_by (efl.position v (formals p n)) ((linkage_of p).owner v) ps) (base_by (position (names.home v) (dummies_of (l.context n).header)) n (passed f qs) (names.home v))
    formal_base ps qs f alike many i e =
        let lt = position_within v (formals p n) i e in
        let g = given_same (SameSpot (cell p names l) Place (linkage_of p) l) i ps qs alike (omega (lt, many, arith)) in
        let listed : position (names.home v) (map names.home (formals_in (program_variables p) n u)) ≡ Some i = ap (λ vs. position (names.home v) (map names.home vs)) (sym (formals_are p names n u here)) ∙ position_mapped names.home v (formals p n) like_text ∙ e in
        let placed : position (names.home v) (dummies_of (l.context n).header) ≡ Some i =
        ap (λ c. position (names.home v) (dummies_of c.header)) (context_is n u here) ∙ dummy_position names n (names.home v) (is_none u.name) (result_of u.result) (dummies names (program_variables p) n u) i (not_main i e) listed in
        record {
          source = g.source;
          target = g.target;
          is = ap (λ o. efl.base_by o ((linkage_of p).owner v) ps) e ∙ g.is;
          is1 = ap (λ o. base_by o n (passed f qs) (names.home v)) placed ∙ passed_given f i qs g.target g.is1;
          same = g.same;
        }

    pub variable_base : (ps : List efl.Spot) (qs : List Spot) (f : Bool) → AllSame (SameSpot (cell p names l) Place (linkage_of p) l) ps qs → size ps ≡ size (formals p n) →
        Based (cell p names l) Place (linkage_of p) l (efl.base_by (efl.position v (formals p n)) ((linkage_of p).owner v) ps) (base_by (position (names.home v) (dummies_of (l.context n).header)) n (passed f qs) (names.home v))
    variable_base ps qs f alike many = by_position (efl.position v (formals p n)) refl
      where
        by_position : (o : Option ℕ) → efl.position v (formals p n) ≡ o →
            Based (cell p names l) Place (linkage_of p) l (efl.base_by (efl.position v (formals p n)) ((linkage_of p).owner v) ps) (base_by (position (names.home v) (dummies_of (l.context n).header)) n (passed f qs) (names.home v))
        by_position None e = own_base ps (passed f qs) e
        by_position (Some i) e = formal_base ps qs f alike many i e
