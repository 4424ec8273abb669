-- Places of types in memory, as members, subscripts and steps lead on.
use Rattle.std.proofs.Common.{◌≡◌, ◌≢◌, ◌≤◌, ◌<◌, ℕ, suc, ◌+◌, ◌*◌, ◌==◌, min, Bool, true, false, List, [], ◌∷◌, length, drop, get_or, Option, Some, None, refl, sym, ap, subst, ◌∙◌, arith, if◌then◌else◌}
use Rattle.std.specs.Option.{option_map}
use Rattle.std.specs.Str.{bytes_eq}
use Rattle.std.proofs.lemmas.List.{drop_all, drop_more}
use Rattle.efl_tree.specs.declared.declaration.EflBound.{EflBound}
use Rattle.efl_tree.specs.declared.expression.EflExpr.{EflExpr}
use Rattle.efl_tree.specs.declared.expression.EflPlace.{EflPlace}
use Rattle.efl_tree.specs.declared.expression.EflStep.{EflStep}
use Rattle.efl_tree.specs.declared.expression.EflStep.TheVariants as steps
use Rattle.efl_tree.specs.Syntax.{Text, EflExprs, AndExpr, EflSteps, NoStep}
use Rattle.efl_tree.specs.Syntax as efl
use Rattle.efl_tree.specs.Views.{exprs_of, step_then, steps_of, place_of}
use Rattle.efl_tree.proofs.Rows.{member_step}
use Rattle.std.proofs.Common.{Vec, Global}
use Rattle.efl_scope.specs.DataTypes.{DataType, Scalar, Structured, Array, NoType, Members, NoMember, AndMember, places}
use Rattle.efl_scope.proofs.TreeLemmas.{drop_next}
use Rattle.efl_types.specs.Signatures.{many}
use Rattle.efl_types.specs.Types.{subscripted, member_type}
use Rattle.efl_types.specs.Expressions.{element_of}
use Rattle.efl_types.specs.Presets.{plus, elements_before, places_before, before_member, member_offset, offset_behind, offset}
use Rattle.efl_scoped.specs.Numbers.{Table}
use Rattle.efl_scoped.specs.Told.{capped}
use Rattle.efl_scoped.proofs.CountLemmas.{capped_times, times_capped}
use Rattle.efl_expressions.specs.declared.types.Structure.{Structure}
use Rattle.efl_expressions.specs.declared.types.Member.{Member}
use Rattle.efl_expressions.specs.declared.types.Element.{Element}
use Rattle.efl_expressions.specs.declared.types.Element.TheVariants as e
use Rattle.efl_expressions.specs.TypeViews.{Is, AreMembers, IsType}
use Rattle.efl_expressions.proofs.TypeLemmas.{IsOther}
use Rattle.efl_initial_values.specs.declared.offsets.Reached.{Reached}
use Rattle.efl_initial_values.specs.Offsets.{on_from, GoesOn, IsElement, ReachesElement}
use Rattle.efl_initial_values.proofs.OffsetLemmas.{on_from_zero, on_from_counted, on_from_all, some_of}

-- ---- members ----

pub record BeforeLeft (f : Table) (ss : List Structure) (x : Text) (ms : Members) (before : ℕ) (list : List Member) : Type 0 where
  pub rest : Members
  pub made : AreMembers f ss rest list
  pub same : on_from before (before_member x rest) ≡ option_map capped (before_member x ms)

pub before_begun : (f : Table) (ss : List Structure) (x : Text) (ms : Members) (list : List Member) → AreMembers f ss ms list → BeforeLeft f ss x ms 0 list
before_begun f ss x ms list made = record { rest = ms; made = made; same = on_from_zero (before_member x ms) }

pub before_none : (f : Table) (ss : List Structure) (x : Text) (ms : Members) (before : ℕ) → BeforeLeft f ss x ms before [] → None ≡ option_map capped (before_member x ms)
before_none f ss x ms before left = each left.rest left.made left.same
  where
    each : (rest : Members) → AreMembers f ss rest [] → on_from before (before_member x rest) ≡ option_map capped (before_member x ms) → None ≡ option_map capped (before_member x ms)
    each NoMember made same = same
    each (AndMember y t ns) made same = absurd made

pub before_found : (f : Table) (ss : List Structure) (x : Text) (ms : Members) (before r : ℕ) (m : Member) (all : List Member) → BeforeLeft f ss x ms before (m ∷ all) → bytes_eq x m.name.now ≡ true →
    r ≡ min before 32768 → Some r ≡ option_map capped (before_member x ms)
before_found f ss x ms before r m all left here is = each left.rest left.made left.same
  where
    each : (rest : Members) → AreMembers f ss rest (m ∷ all) → on_from before (before_member x rest) ≡ option_map capped (before_member x ms) → Some r ≡ option_map capped (before_member x ms)
    each NoMember made same = absurd made
    each (AndMember y t ns) made same =
        on_from_all before r is ∙ sym (ap (λ b. on_from before (if b then Some 0 else plus (Some (places t)) (before_member x ns))) (ap (bytes_eq x) made.0 ∙ here)) ∙ same

pub before_on : (f : Table) (ss : List Structure) (x : Text) (ms : Members) (before after : ℕ) (m : Member) (all : List Member) → BeforeLeft f ss x ms before (m ∷ all) → bytes_eq x m.name.now ≡ false →
    after ≡ capped (before + m.kind.summary.places) → BeforeLeft f ss x ms after all
before_on f ss x ms before after m all left other is = each left.rest left.made left.same
  where
    each : (rest : Members) → AreMembers f ss rest (m ∷ all) → on_from before (before_member x rest) ≡ option_map capped (before_member x ms) → BeforeLeft f ss x ms after all
    each NoMember made same = absurd made
    each (AndMember y t ns) made same = record {
      rest = ns;
      made = made.3;
      same = sym (on_from_counted before (places t) after m.kind.summary.places (before_member x ns) made.2.places is)
          ∙ sym (ap (λ b. on_from before (if b then Some 0 else plus (Some (places t)) (before_member x ns))) (ap (bytes_eq x) made.0 ∙ other)) ∙ same;
    }

drop_at : {A : Type 0} (list : List A) (i : ℕ) (d : A) → i < length list → drop i list ≡ get_or list i d ∷ drop (i + 1) list
drop_at list i d within = drop_more list i d within

pub before_here : (f : Table) (ss : List Structure) (x : Text) (ms : Members) (before r : ℕ) (list : List Member) (i : ℕ) (d : Member) → i < length list → BeforeLeft f ss x ms before (drop i list) →
    bytes_eq x (get_or list i d).name.now ≡ true → r ≡ min before 32768 → Some r ≡ option_map capped (before_member x ms)
before_here f ss x ms before r list i d within left here is =
    before_found f ss x ms before r (get_or list i d) (drop (i + 1) list) (subst (BeforeLeft f ss x ms before) (drop_at list i d within) left) here is

pub before_next : (f : Table) (ss : List Structure) (x : Text) (ms : Members) (before after : ℕ) (list : List Member) (i : ℕ) (d : Member) → i < length list → BeforeLeft f ss x ms before (drop i list) →
    bytes_eq x (get_or list i d).name.now ≡ false → after ≡ capped (before + (get_or list i d).kind.summary.places) → BeforeLeft f ss x ms after (drop (i + 1) list)
before_next f ss x ms before after list i d within left other is =
    before_on f ss x ms before after (get_or list i d) (drop (i + 1) list) (subst (BeforeLeft f ss x ms before) (drop_at list i d within) left) other is

pub no_offset : (f : Table) (ss : List Structure) (t : DataType) (cs : List EflBound) (e : Element) (x : Text) → Is f ss t cs e → IsOther cs e → member_offset x t ≡ None
no_offset f ss (Scalar k) cs e x made other = refl
no_offset f ss NoType cs e x made other = refl
no_offset f ss (Array bs t) cs e x made other = refl
no_offset f ss (Structured ms) cs (e.Structured i) x made other = absurd (other i made.0 refl)
no_offset f ss (Structured ms) cs e.NoType x made other = absurd made
no_offset f ss (Structured ms) cs (e.Scalar k) x made other = absurd made

-- ---- elements ----

elements_counted : (p q : ℕ) (o : Option ℕ) → q ≡ capped p → option_map capped (option_map (λ i. i * p) o) ≡ option_map (λ i. capped (i * q)) (option_map capped o)
elements_counted p q None is = refl
elements_counted p q (Some i) is = ap Some (sym (capped_times i p) ∙ sym (times_capped (capped i) p) ∙ ap (λ x. capped (capped i * x)) (sym is))

pub places_are : (f : Table) (ss : List Structure) (t : DataType) (cs : List EflBound) (e : Element) (q : ℕ) (es : EflExprs) → Is f ss t cs e → q ≡ capped (places (element_of t)) → es ≢ efl.NoExpr →
    option_map (λ i. capped (i * q)) (option_map capped (elements_before 1 cs es)) ≡ option_map capped (places_before t es)
places_are f ss t cs e q efl.NoExpr made is some = absurd (some refl)
places_are f ss (Array bs t) cs e q (AndExpr a es) made is some =
    ap (λ xs. option_map (λ i. capped (i * q)) (option_map capped (elements_before 1 xs (AndExpr a es)))) made.0 ∙ sym (elements_counted (places t) q (elements_before 1 bs (AndExpr a es)) is)
places_are f ss (Scalar k) cs e q (AndExpr a es) made is some = ap (λ xs. option_map (λ i. capped (i * q)) (option_map capped (elements_before 1 xs (AndExpr a es)))) made.0
places_are f ss (Structured ms) cs (e.Structured i) q (AndExpr a es) made is some = ap (λ xs. option_map (λ i. capped (i * q)) (option_map capped (elements_before 1 xs (AndExpr a es)))) made.0
places_are f ss (Structured ms) cs e.NoType q (AndExpr a es) made is some = absurd made
places_are f ss (Structured ms) cs (e.Scalar k) q (AndExpr a es) made is some = absurd made
places_are f ss NoType cs e q (AndExpr a es) made is some = ap (λ xs. option_map (λ i. capped (i * q)) (option_map capped (elements_before 1 xs (AndExpr a es)))) made.0

pub empty_is : {A : Type 0} (r : Bool) (xs : List A) → r ≡ (length xs == 0) → r ≡ true → xs ≡ []
empty_is r [] is empty = refl
empty_is r (x ∷ xs) is empty = absurd (let d : true ≡ (suc (length xs) == 0) = sym empty ∙ is in grind (arith, d))

pub some_exprs : (r : Bool) (es : List EflExpr) → r ≡ (length es == 0) → r ≡ false → exprs_of es ≢ efl.NoExpr
some_exprs r [] is some none = absurd (let d : false ≡ true = sym some ∙ is in cc)
some_exprs r (e ∷ es) is some none = absurd cc

-- to an element that was found
pub element_found : (f : Table) (ss : List Structure) (t : DataType) (before counted b : ℕ) (es : EflExprs) (r : Reached) → Some counted ≡ option_map capped (places_before t es) → b ≡ capped (before + counted) → r.before ≡ b →
    IsType f ss (subscripted t (many es)) r.kind → ReachesElement f ss t before es (Some r)
element_found f ss t before counted b es r found is same made =
    let exact = some_of (places_before t es) counted found in
    record {
      is = made;
      same = λ o. ap (λ p. on_from before (plus p o)) exact.is ∙ on_from_counted before exact.number r.before counted o exact.same (same ∙ is);
    }

-- ---- steps ----

pub no_element : (t : DataType) (x : Text) (es : EflExprs) (rest : EflSteps) → member_offset x t ≡ None → offset_behind t (efl.Member x es rest) ≡ None
no_element t x es rest none = ap (λ o. plus o (plus (places_before (member_type x t) es) (offset_behind (subscripted (member_type x t) (many es)) rest))) none

plus_nothing : (o : Option ℕ) → plus o None ≡ None
plus_nothing None = refl
plus_nothing (Some n) = refl

-- to a member that was found, and its element
pub member_found : (f : Table) (ss : List Structure) (t : DataType) (x : Text) (es : EflExprs) (before counted b : ℕ) (r : Option Reached) → Some counted ≡ option_map capped (member_offset x t) → b ≡ capped (before + counted) →
    ReachesElement f ss (member_type x t) b es r → GoesOn f ss t before (efl.Member x es) r
member_found f ss t x es before counted b None found is none = λ rest.
    ap (λ p. plus (member_offset x t) (plus p (offset_behind (subscripted (member_type x t) (many es)) rest))) none ∙ plus_nothing (member_offset x t)
member_found f ss t x es before counted b (Some r) found is element =
    let exact = some_of (member_offset x t) counted found in
    record {
      kind = subscripted (member_type x t) (many es);
      is = element.is;
      same = λ rest.
          let behind = offset_behind (subscripted (member_type x t) (many es)) rest in
          ap (λ p. on_from before (plus p (plus (places_before (member_type x t) es) behind))) exact.is
          ∙ on_from_counted before exact.number b counted (plus (places_before (member_type x t) es) behind) exact.same is ∙ element.same behind;
    }

-- the same step in memory
pub goes_member : (f : Table) (ss : List Structure) (t : DataType) (before : ℕ) (s : EflStep) (x y : Text) (list : Vec EflExpr Global) (seen : List EflExpr) (r : Option Reached) → s ≡ steps.Member x list → seen ≡ list.items → y ≡ x →
    GoesOn f ss t before (efl.Member y (exprs_of seen)) r → GoesOn f ss t before (step_then s) r
goes_member f ss t before s x y list seen r is at name goes = each r goes
  where
    same : (rest : EflSteps) → step_then s rest ≡ efl.Member y (exprs_of seen) rest
    same rest = ap (λ a. step_then a rest) is ∙ member_step x list rest ∙ ap (λ es. efl.Member x (exprs_of es) rest) (sym at) ∙ ap (λ z. efl.Member z (exprs_of seen) rest) (sym name)

    each : (r : Option Reached) → GoesOn f ss t before (efl.Member y (exprs_of seen)) r → GoesOn f ss t before (step_then s) r
    each None goes = λ rest. ap (offset_behind t) (same rest) ∙ goes rest
    each (Some r) goes = record { kind = goes.kind; is = goes.is; same = λ rest. ap (λ a. on_from before (offset_behind t a)) (same rest) ∙ goes.same rest }

pub record StepsLeft (f : Table) (ss : List Structure) (t : DataType) (before : ℕ) (all : EflSteps) (r : Reached) (rest : EflSteps) : Type 0 where
  pub kind : DataType
  pub is : IsType f ss kind r.kind
  pub same : on_from before (offset_behind t all) ≡ on_from r.before (offset_behind kind rest)

pub steps_begun : (f : Table) (ss : List Structure) (t : DataType) (all : EflSteps) (r : Reached) → IsType f ss t r.kind → StepsLeft f ss t r.before all r all
steps_begun f ss t all r made = record { kind = t; is = made; same = refl }

pub step_next : (f : Table) (ss : List Structure) (t : DataType) (before : ℕ) (all : EflSteps) (r next : Reached) (list : List EflStep) (i : ℕ) (s : EflStep) → i < length list → s ≡ get_or list i s →
    (left : StepsLeft f ss t before all r (steps_of (drop i list))) → GoesOn f ss left.kind r.before (step_then s) (Some next) → StepsLeft f ss t before all next (steps_of (drop (i + 1) list))
step_next f ss t before all r next list i s within is left goes = record {
  kind = goes.kind;
  is = goes.is;
  same = left.same ∙ ap (λ xs. on_from r.before (offset_behind left.kind (steps_of xs))) (drop_next list i s within is) ∙ goes.same (steps_of (drop (i + 1) list));
}

pub step_none : (f : Table) (ss : List Structure) (t : DataType) (before : ℕ) (all : EflSteps) (r : Reached) (list : List EflStep) (i : ℕ) (s : EflStep) → i < length list → s ≡ get_or list i s →
    (left : StepsLeft f ss t before all r (steps_of (drop i list))) → GoesOn f ss left.kind r.before (step_then s) None → None ≡ on_from before (offset_behind t all)
step_none f ss t before all r list i s within is left goes =
    sym (left.same ∙ ap (λ xs. on_from r.before (offset_behind left.kind (steps_of xs))) (drop_next list i s within is) ∙ ap (on_from r.before) (goes (steps_of (drop (i + 1) list))))

pub steps_done : (f : Table) (ss : List Structure) (t : DataType) (before b : ℕ) (all : EflSteps) (r : Reached) (list : List EflStep) (i : ℕ) → length list ≤ i → StepsLeft f ss t before all r (steps_of (drop i list)) → b ≡ min r.before 32768 →
    Some b ≡ on_from before (offset_behind t all)
steps_done f ss t before b all r list i past left is =
    on_from_all r.before b is ∙ sym (left.same ∙ ap (λ xs. on_from r.before (offset_behind left.kind (steps_of xs))) (drop_all i list past))

-- ---- whole places ----

pub offset_none : (t : DataType) (p : EflPlace) (seen : List EflExpr) → seen ≡ p.subscripts.items → places_before t (exprs_of seen) ≡ None → None ≡ option_map capped (offset t (place_of p))
offset_none t p seen at none =
    sym (ap (λ o. option_map capped (plus o (offset_behind (subscripted t (many (exprs_of p.subscripts.items))) (steps_of p.steps.items)))) (sym (ap (λ es. places_before t (exprs_of es)) at) ∙ none))

pub offset_some : (f : Table) (ss : List Structure) (t : DataType) (p : EflPlace) (seen : List EflExpr) (behind : List EflStep) (r : Reached) → seen ≡ p.subscripts.items → behind ≡ p.steps.items →
    IsElement f ss t 0 (exprs_of seen) r → (o : Option ℕ) → o ≡ on_from r.before (offset_behind (subscripted t (many (exprs_of seen))) (steps_of behind)) → o ≡ option_map capped (offset t (place_of p))
offset_some f ss t p seen behind r at are element o is =
    is ∙ sym (element.same (offset_behind (subscripted t (many (exprs_of seen))) (steps_of behind)))
    ∙ on_from_zero (plus (places_before t (exprs_of seen)) (offset_behind (subscripted t (many (exprs_of seen))) (steps_of behind)))
    ∙ ap (λ es. option_map capped (plus (places_before t (exprs_of es)) (offset_behind (subscripted t (many (exprs_of es))) (steps_of behind)))) at
    ∙ ap (λ ys. option_map capped (plus (places_before t (exprs_of p.subscripts.items)) (offset_behind (subscripted t (many (exprs_of p.subscripts.items))) (steps_of ys)))) are
