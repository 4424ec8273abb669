-- What holds of the results of a part of a run, from every world; and that the places which expressions name are those of
-- names that stand in them, or of actuals.
use Rattle.std.proofs.Common.{◌≡◌, ℕ, zero, suc, ◌+◌, Bool, true, false, List, [], ◌∷◌, Option, Some, None}
use Rattle.std.specs.Prelude.{if◌then◌else◌, nat_lt, ⊤}
use Rattle.ground.specs.declared.place.Place.{Place}
use Rattle.ground.specs.declared.trap.Trap.TheVariants.{Subscript}
use Rattle.ground.specs.Content.{Content}
use Rattle.f66_tree.specs.Syntax.{Text, Formula, Int, Truth, Letter, Ref, Item, Group, Plus, Minus, Not, Pair, Formulas, NoFormula, AndFormula, Par}
use Rattle.f66_tree.specs.World.{World, Out, Gives, Halts, bind, Try, Yields, Traps, Fails, IfYields, settle}
use Rattle.f66_tree.specs.Units.{dummies_of, position, sizes_of, places_of, Spot, Held, Lent, Linkage, Setting, Frame, around}
use Rattle.f66_tree.specs.Evaluation.{Sort, AnArray, AnIntrinsic, AFunction, sort_of, base, base_by, given, distance, moved, pars_in, element, place_by, place_of, names_place, actual_of, ticked, value_of, subscripts_of, spots_of}
use Rattle.f66_tree.specs.Uses.{Names, NamesOfAll, NamesOfPars}

abbrev pub IfGives : {A : Type 0} → (A → Type 0) → Out A → Type 0
IfGives P (Gives a w) = P a
IfGives P (Halts e w) = ⊤

abbrev pub Post : {A : Type 0} → (A → Type 0) → (World → Out A) → Type 0
Post P m = (w : World) → IfGives P (m w)

pub post_bind : {A B : Type 0} (P : A → Type 0) (Q : B → Type 0) (o : Out A) (g : A → World → Out B) → IfGives P o → ((a : A) → P a → Post Q (g a)) → IfGives Q (bind o g)
post_bind P Q (Gives a w) g h k = k a h w
post_bind P Q (Halts e w) g h k = tt

pub post_any : {A : Type 0} (o : Out A) → IfGives (λ (a : A). ⊤) o
post_any (Gives a w) = tt
post_any (Halts e w) = tt

pub post_settle : {A : Type 0} (P : A → Type 0) (p : Place) (o : Try A) → IfYields P o → Post P (settle p o)
post_settle P p (Yields a) h w = h
post_settle P p (Traps t) h w = tt
post_settle P p Fails h w = tt

abbrev pub AllFair : (Spot → Type 0) → List Spot → Type 0
AllFair Fair [] = ⊤
AllFair Fair (p ∷ ps) = Fair p × AllFair Fair ps

-- Which names are used in which unit, and which spots can come of them: those of the names, of what an actual leads on to,
-- of lent values, and of the functions that are called. The names of adjustable dimensions are used too.
pub record IsScope (K : ℕ → Text → Type 0) (Fair : Spot → Type 0) (l : Linkage) : Type 0 where
  pub own : (u : ℕ) (x : Text) → K u x → Fair (Held u x 0)
  pub further : (u : ℕ) (x : Text) (o n : ℕ) → Fair (Held u x o) → Fair (Held u x n)
  pub lent : (c : Content) → Fair (Lent c)
  pub callee : (u : ℕ) (x : Text) (v : ℕ) → K u x → l.find x ≡ Some v → Fair (Held v x 0)
  pub dimensions : (u : ℕ) (x : Text) → K u x → NamesOfPars (K u) (sizes_of x (l.context u).notes)

module _ (K : ℕ → Text → Type 0) (Fair : Spot → Type 0) (s : Setting) (scope : IsScope K Fair s.linked) where
  given_fair : (i : ℕ) (ps : List Spot) → AllFair Fair ps → IfYields Fair (given i ps)
  given_fair i [] h = tt
  given_fair zero (p ∷ ps) h = h.0
  given_fair (suc i) (p ∷ ps) h = given_fair i ps h.1

  pub base_fair : (f : Frame) (x : Text) → K f.unit x → AllFair Fair f.actuals → IfYields Fair (base s f x)
  base_fair f x used actuals = by_position (position x (dummies_of (around s f).header))
    where
      by_position : (o : Option ℕ) → IfYields Fair (base_by o f.unit f.actuals x)
      by_position None = scope.own f.unit x used
      by_position (Some i) = given_fair i f.actuals actuals

  pub moved_fair : (p : Spot) (n : ℕ) → Fair p → IfYields Fair (moved s.linked p n)
  moved_fair (Held u x o) n h = within (nat_lt (o + n) (places_of (sizes_of x (s.linked.context u).notes)))
    where
      within : (b : Bool) → IfYields Fair (if b then Yields (Held u x (o + n)) else Traps Subscript)
      within true = scope.further u x o (o + n) h
      within false = tt
  moved_fair (Lent c) zero h = h
  moved_fair (Lent c) (suc n) h = tt

  pub element_fair : (f : Frame) (x : Text) (ns : List Par) (vals : World → Out (List Content)) → K f.unit x → AllFair Fair f.actuals → Post Fair (element s f x ns vals)
  element_fair f x ns vals used actuals w =
      post_bind Fair Fair (settle f.place (base s f x) w) _ (post_settle Fair f.place (base s f x) (base_fair f x used actuals) w) (λ p fair w1.
      post_bind (λ _. ⊤) Fair (vals w1) _ (post_any (vals w1)) (λ is' _ w2.
      post_bind (λ _. ⊤) Fair (pars_in s f ns w2) _ (post_any (pars_in s f ns w2)) (λ ds _ w3.
      post_bind (λ _. ⊤) Fair (settle f.place (distance 1 is' ds) w3) _ (post_any (settle f.place (distance 1 is' ds) w3)) (λ n _.
      post_settle Fair f.place (moved s.linked p n) (moved_fair p n fair)))))

  pub place_fair : (f : Frame) (e : Formula) (vals : World → Out (List Content)) → Names (K f.unit) e → AllFair Fair f.actuals → Post Fair (place_of s f e vals)
  place_fair f (Int z) vals used actuals w = tt
  place_fair f (Truth b) vals used actuals w = tt
  place_fair f (Letter c) vals used actuals w = tt
  place_fair f (Ref x) vals used actuals w = post_settle Fair f.place (base s f x) (base_fair f x used actuals) (ticked s w)
  place_fair f (Item x es) vals used actuals w = by_sort (sort_of (around s f) x)
    where
      by_sort : (k : Sort) → IfGives Fair (place_by s f x k vals (ticked s w))
      by_sort (AnArray ns) = element_fair f x ns vals used.0 actuals (ticked s w)
      by_sort (AnIntrinsic g) = tt
      by_sort AFunction = tt
  place_fair f (Group a) vals used actuals w = tt
  place_fair f (Plus a) vals used actuals w = tt
  place_fair f (Minus a) vals used actuals w = tt
  place_fair f (Not a) vals used actuals w = tt
  place_fair f (Pair op a b) vals used actuals w = tt

  actual_fair : (b : Bool) (place : World → Out Spot) (val : World → Out Content) → Post Fair place → Post Fair (actual_of b place val)
  actual_fair true place val h w = h w
  actual_fair false place val h w = post_bind (λ _. ⊤) Fair (val w) _ (post_any (val w)) (λ v _ w1. scope.lent v)

  pub spots_fair : (f : Frame) (es : Formulas) → NamesOfAll (K f.unit) es → AllFair Fair f.actuals → Post (AllFair Fair) (spots_of s f es)
  spots_fair f NoFormula used actuals w = tt
  spots_fair f (AndFormula e es) used actuals w =
      post_bind Fair (AllFair Fair) (actual_of (names_place (around s f) e) (place_of s f e (subscripts_of s f e)) (value_of s f e) (ticked s w)) _
      (actual_fair (names_place (around s f) e) (place_of s f e (subscripts_of s f e)) (value_of s f e) (place_fair f e (subscripts_of s f e) used.0 actuals) (ticked s w)) (λ p fair w1.
      post_bind (AllFair Fair) (AllFair Fair) (spots_of s f es w1) _ (spots_fair f es used.1 actuals w1) (λ ps all w2. (fair, all)))
