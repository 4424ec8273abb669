-- The same of values, places and actuals, where each name that is used has a place or calls a unit.
use Rattle.std.proofs.Common.{◌≡◌, ℕ, pos, Bool, true, false, List, [], ◌∷◌, Option, Some, None, refl, sym, subst}
use Rattle.std.specs.Prelude.{if◌then◌else◌, ⊤}
use Rattle.std.specs.Str.{bytes_eq}
use Rattle.ground.specs.Content.{Content, Nothing, Whole, Truth}
use Rattle.f66_tree.specs.Syntax.{Text, Formula, Int, Letter, Ref, Item, Group, Plus, Minus, Not, Pair, Formulas, NoFormula, AndFormula, Par, Constant, Named}
use Rattle.f66_tree.specs.World.{World, Ended, Wrong, Out, put_in, holding, settle}
use Rattle.f66_tree.specs.Units.{Context, dummies_of, position, kind_of, sizes_of, Spot, Held, Lent, Setting, Frame, around}
use Rattle.f66_tree.specs.Uses.{NamesBy, NamesOfAllBy, NameOfPar, NamesOfPars}
use Rattle.f66_tree.specs.Evaluation.{Intrinsic, Sort, AnArray, AnIntrinsic, AFunction, known, intrinsics, array_or, sort_of, base, base_by, load, variable_in, par_in, pars_in, distance, element, called, referred, place_by, place_of, names_place, actual_of, operate, opposite, denied, same_whole, intrinsic, truth_in, ticked, value_of, values_of, subscripts_of, spots_of, locate, asks}
use Rattle.f66_tree.specs.Syntax as f66
use Rattle.renumbering.proofs.PairLemmas.{Applied, Twins, IsReal, AllReal, Pairs, Any, binds, thens, gives, halts, settles, settles_any, seen, base_real, moves_on, agree_put, loads}

-- what stands around a statement on both sides: calls that do the same, and the same besides
pub record Around (t : Twins) : Type 0 where
  pub call1 : ℕ → List Spot → World → Out ⊤
  pub call2 : ℕ → List Spot → World → Out ⊤
  pub begin : World → Out ⊤
  pub most : ℕ
  pub tick : ℕ → ℕ
  pub begins : Pairs t ⊤ Any begin begin
  pub calls : (v : ℕ) → t.InRun v → (ps : List Spot) → AllReal t ps → Pairs t ⊤ Any (call1 v ps) (call2 v ps)

abbrev pub side1 : (t : Twins) → Around t → Setting
side1 t a = record { linked = t.one; call = a.call1; begin = a.begin; most = a.most; tick = a.tick }

abbrev pub side2 : (t : Twins) → Around t → Setting
side2 t a = record { linked = t.two; call = a.call2; begin = a.begin; most = a.most; tick = a.tick }

-- a unit in a run, whose actuals are real
pub record IsSite (t : Twins) (f : Frame) : Type 0 where
  pub inside : t.InRun f.unit
  pub actuals : AllReal t f.actuals

-- the names in an array's dimensions
abbrev SortNames : (Text → Type 0) → Sort → Type 0
SortNames K (AnArray ns) = NamesOfPars K ns
SortNames K _ = ⊤

known_names : (K : Text → Type 0) (es : List (Text × Intrinsic)) (x : Text) → SortNames K (known es x)
known_names K [] x = tt
known_names K (e ∷ es) x = by_name (bytes_eq e.0 x) (known es x) (known_names K es x)
  where
    by_name : (b : Bool) (o : Sort) → SortNames K o → SortNames K (if b then AnIntrinsic e.1 else o)
    by_name true o h = tt
    by_name false o h = h

sort_names : (K : Text → Type 0) (ns : List Par) (x : Text) → NamesOfPars K ns → SortNames K (array_or ns x)
sort_names K [] x h = known_names K intrinsics x
sort_names K (n ∷ ns) x h = h

module _ (t : Twins) (a : Around t) where
  abbrev s1 : Setting
  s1 = side1 t a

  abbrev s2 : Setting
  s2 = side2 t a

  pub counts : {A : Type 0} {P : A → Type 0} {m1 m2 : World → Out A} → Pairs t A P m1 m2 → Pairs t A P (λ w. m1 (ticked s1 w)) (λ w. m2 (ticked s2 w))
  counts h = record { run = λ w st agree. h.run (ticked s1 w) st agree }

  module _ (f : Frame) (site : IsSite t f) where
    abbrev K : Text → Type 0
    K x = (t.used f.unit).alone x

    -- the value of the function that a name calls has a place
    abbrev HasValue : Text → Type 0
    HasValue x = (v : ℕ) → t.two.find x ≡ Some v → t.Real v x 0

    abbrev c2 : Context
    c2 = t.two.context f.unit

    as_seen : (Q : Context → Type 0) → Q c2 → Q (t.one.context f.unit)
    as_seen Q h = seen t f.unit site.inside Q h

    pub base_pairs : (x : Text) → K x → Pairs t Spot (IsReal t) (settle f.place (base s1 f x)) (settle f.place (base s2 f x))
    base_pairs x used =
        as_seen (λ c. Pairs t Spot (IsReal t) (settle f.place (base_by (position x (dummies_of c.header)) f.unit f.actuals x)) (settle f.place (base s2 f x)))
        (settles t (IsReal t) f.place (base s2 f x) (base_real t f.unit f.actuals x site.inside used site.actuals))

    pub loads_seen : (x : Text) (p : Spot) → IsReal t p → Pairs t Content Any (load s1 f (kind_of (around s1 f) x) p) (load s2 f (kind_of (around s2 f) x) p)
    loads_seen x p real = as_seen (λ c. Pairs t Content Any (load s1 f (kind_of c x) p) (load s2 f (kind_of c2 x) p)) (loads t f.place (kind_of c2 x) p real)

    pub variable_pairs : (x : Text) → K x → Pairs t Content Any (variable_in s1 f x) (variable_in s2 f x)
    variable_pairs x used = binds t (base_pairs x used) (λ p real. loads_seen x p real)

    pub par_pairs : (n : Par) → NameOfPar K n → Pairs t Content Any (par_in s1 f n) (par_in s2 f n)
    par_pairs (Constant z) used = gives t Any (Whole z) tt
    par_pairs (Named x) used = variable_pairs x used

    pub pars_pairs : (ns : List Par) → NamesOfPars K ns → Pairs t (List Content) Any (pars_in s1 f ns) (pars_in s2 f ns)
    pars_pairs [] used = gives t Any [] tt
    pars_pairs (n ∷ ns) used = thens t (par_pairs n used.0) (λ v. thens t (pars_pairs ns used.1) (λ vs. gives t Any (v ∷ vs) tt))

    element_pairs : (x : Text) → K x → (ns : List Par) → NamesOfPars K ns → {m1 m2 : World → Out (List Content)} → Pairs t (List Content) Any m1 m2 → Pairs t Spot (IsReal t) (element s1 f x ns m1) (element s2 f x ns m2)
    element_pairs x used ns sizes h =
        binds t (base_pairs x used) (λ p real. thens t h (λ vs. thens t (pars_pairs ns sizes) (λ ds. thens t (settles_any t f.place (distance 1 vs ds)) (λ n. moves_on t f.place p n real))))

    -- a function's name is undefined at first, and its value is read at the end
    begins_undefined : (v : ℕ) (x : Text) → t.Real v x 0 → (ps : List Spot) → AllReal t ps →
        Pairs t ⊤ Any (λ w. a.call1 v ps (holding (put_in (t.one.number v x 0) Nothing w.state.store) w)) (λ w. a.call2 v ps (holding (put_in (t.two.number v x 0) Nothing w.state.store) w))
    begins_undefined v x real ps all = record {
      run = λ w st agree. (a.calls v (t.within v x 0 real) ps all).run (holding (put_in (t.one.number v x 0) Nothing w.state.store) w) (put_in (t.two.number v x 0) Nothing st) (agree_put t v x 0 Nothing w.state.store st real agree);
    }

    called_pairs : (x : Text) (o : Option ℕ) → ((v : ℕ) → o ≡ Some v → t.Real v x 0) → {n1 n2 : World → Out (List Spot)} → Pairs t (List Spot) (AllReal t) n1 n2 → Pairs t Content Any (called s1 f x o n1) (called s2 f x o n2)
    called_pairs x None own h = halts t Any (Ended Wrong)
    called_pairs x (Some v) own h = binds t h (λ ps all. thens t (begins_undefined v x (own v refl) ps all) (λ _. loads_seen x (Held v x 0) (own v refl)))

    sized : (x : Text) → SortNames K (sort_of c2 x)
    sized x = sort_names K (sizes_of x c2.notes) x (t.dimensions f.unit x site.inside)

    referred_pairs : (x : Text) (o : Sort) → Applied (K x) (HasValue x) o → SortNames K o → {m1 m2 : World → Out (List Content)} {n1 n2 : World → Out (List Spot)} → Pairs t (List Content) Any m1 m2 → Pairs t (List Spot) (AllReal t) n1 n2 → Pairs t Content Any (referred s1 f x o m1 n1) (referred s2 f x o m2 n2)
    referred_pairs x (AnArray ns) used sizes h k = binds t (element_pairs x used ns sizes h) (λ p real. loads_seen x p real)
    referred_pairs x (AnIntrinsic g) used sizes h k = thens t h (λ vs. settles_any t f.place (intrinsic g vs))
    referred_pairs x AFunction used sizes {n1} {n2} h k = subst (λ o. Pairs t Content Any (called s1 f x o n1) (called s2 f x (t.two.find x) n2)) (sym (t.finds x)) (called_pairs x (t.two.find x) used k)

    place_by_pairs : (x : Text) (o : Sort) → Applied (K x) (HasValue x) o → SortNames K o → {m1 m2 : World → Out (List Content)} → Pairs t (List Content) Any m1 m2 → Pairs t Spot (IsReal t) (place_by s1 f x o m1) (place_by s2 f x o m2)
    place_by_pairs x (AnArray ns) used sizes h = element_pairs x used ns sizes h
    place_by_pairs x (AnIntrinsic g) used sizes h = halts t (IsReal t) (Ended Wrong)
    place_by_pairs x AFunction used sizes h = halts t (IsReal t) (Ended Wrong)

    place_pairs : (e : Formula) → NamesBy (t.used f.unit) e → {m1 m2 : World → Out (List Content)} → Pairs t (List Content) Any m1 m2 → Pairs t Spot (IsReal t) (place_of s1 f e m1) (place_of s2 f e m2)
    place_pairs (Ref x) used h = counts (base_pairs x used)
    place_pairs (Item x es) used {m1} {m2} h =
        counts (as_seen (λ c. Pairs t Spot (IsReal t) (place_by s1 f x (sort_of c x) m1) (place_by s2 f x (sort_of c2 x) m2)) (place_by_pairs x (sort_of c2 x) (t.listed f.unit x site.inside used.0) (sized x) h))
    place_pairs _ used h = halts t (IsReal t) (Ended Wrong)

    actual_pairs : (b : Bool) {m1 m2 : World → Out Spot} {n1 n2 : World → Out Content} → Pairs t Spot (IsReal t) m1 m2 → Pairs t Content Any n1 n2 → Pairs t Spot (IsReal t) (actual_of b m1 n1) (actual_of b m2 n2)
    actual_pairs true h k = h
    actual_pairs false h k = thens t k (λ v. gives t (IsReal t) (Lent v) tt)

    mutual
      pub value_pairs : (e : Formula) → NamesBy (t.used f.unit) e → Pairs t Content Any (value_of s1 f e) (value_of s2 f e)
      value_pairs (Int z) used = counts (gives t Any (Whole z) tt)
      value_pairs (f66.Truth b) used = counts (gives t Any (Truth b) tt)
      value_pairs (Letter c) used = counts (gives t Any (Whole (pos c)) tt)
      value_pairs (Ref x) used = counts (variable_pairs x used)
      value_pairs (Item x es) used =
          counts (as_seen (λ c. Pairs t Content Any (referred s1 f x (sort_of c x) (values_of s1 f es) (spots_of s1 f es)) (referred s2 f x (sort_of c2 x) (values_of s2 f es) (spots_of s2 f es)))
          (referred_pairs x (sort_of c2 x) (t.listed f.unit x site.inside used.0) (sized x) (values_pairs es used.1) (spots_pairs es used.1)))
      value_pairs (Group e) used = counts (value_pairs e used)
      value_pairs (Plus e) used = thens t (counts (value_pairs e used)) (λ v. settles_any t f.place (same_whole v))
      value_pairs (Minus e) used = thens t (counts (value_pairs e used)) (λ v. settles_any t f.place (opposite v))
      value_pairs (Not e) used = thens t (counts (value_pairs e used)) (λ v. settles_any t f.place (denied v))
      value_pairs (Pair op e d) used = thens t (counts (value_pairs e used.0)) (λ x. thens t (value_pairs d used.1) (λ y. settles_any t f.place (operate op x y)))

      values_pairs : (es : Formulas) → NamesOfAllBy (t.used f.unit) es → Pairs t (List Content) Any (values_of s1 f es) (values_of s2 f es)
      values_pairs NoFormula used = gives t Any [] tt
      values_pairs (AndFormula e es) used = thens t (value_pairs e used.0) (λ v. thens t (values_pairs es used.1) (λ vs. gives t Any (v ∷ vs) tt))

      subscripts_pairs : (e : Formula) → NamesBy (t.used f.unit) e → Pairs t (List Content) Any (subscripts_of s1 f e) (subscripts_of s2 f e)
      subscripts_pairs (Item x es) used = values_pairs es used.1
      subscripts_pairs _ used = gives t Any [] tt

      pub spots_pairs : (es : Formulas) → NamesOfAllBy (t.used f.unit) es → Pairs t (List Spot) (AllReal t) (spots_of s1 f es) (spots_of s2 f es)
      spots_pairs NoFormula used = gives t (AllReal t) [] tt
      spots_pairs (AndFormula e es) used =
          binds t (counts (as_seen (λ c. Pairs t Spot (IsReal t) (actual_of (names_place c e) (place_of s1 f e (subscripts_of s1 f e)) (value_of s1 f e)) (actual_of (names_place c2 e) (place_of s2 f e (subscripts_of s2 f e)) (value_of s2 f e)))
          (actual_pairs (names_place c2 e) (place_pairs e used.0 (subscripts_pairs e used.0)) (value_pairs e used.0)))) (λ p real. binds t (spots_pairs es used.1) (λ ps all. gives t (AllReal t) (p ∷ ps) (real, all)))

    pub locate_pairs : (e : Formula) → NamesBy (t.used f.unit) e → Pairs t Spot (IsReal t) (locate s1 f e) (locate s2 f e)
    locate_pairs e used = place_pairs e used (subscripts_pairs e used)

    pub asks_pairs : (e : Formula) → NamesBy (t.used f.unit) e → Pairs t Bool Any (asks s1 f e) (asks s2 f e)
    asks_pairs e used = thens t (value_pairs e used) (λ v. settles_any t f.place (truth_in v))
