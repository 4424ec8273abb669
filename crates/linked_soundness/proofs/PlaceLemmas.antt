-- In a unit that is called with as many actuals as it has dummies each name has a place; what is read there has the type that is
-- asked for, or the read is a trap; and an element has as many subscripts as dimensions, which are integers.
use Rattle.std.proofs.Common.{◌≡◌, ◌<◌, ℕ, zero, suc, Bool, true, false, List, [], ◌∷◌, length, Option, Some, None, refl, sym, subst, arith}
use Rattle.std.specs.Prelude.{if◌then◌else◌, ⊤}
use Rattle.std.specs.List.{list_all}
use Rattle.std.specs.Option.{IfSome}
use Rattle.std.specs.Str.{bytes_eq}
use Rattle.std.proofs.lemmas.Bool.{and_parts}
use Rattle.ground.specs.declared.value.Kind.{Kind}
use Rattle.ground.specs.declared.value.Kind.TheVariants.{Integer}
use Rattle.ground.specs.Content.{Content}
use Rattle.f66_tree.specs.Syntax.{Text, Par, Constant, Named}
use Rattle.f66_tree.specs.World.{Store, World, Out, settle}
use Rattle.f66_tree.specs.Units.{Context, dummies_of, position, one_on, kind_of, sizes_of, Spot, Held, Lent, Linkage, Setting, Frame, around}
use Rattle.f66_tree.specs.Evaluation.{Sort, AnArray, Intrinsic, AnIntrinsic, known, intrinsics, array_or, sort_of, given, base_by, base, held, asked, load, stored, store_at, variable_in, par_in, pars_in, distance, moved, element}
use Rattle.f66_tree.proofs.Tries.{IsOfKind, TriesRightly}
use Rattle.f66_names.specs.Sorts.{is_foreign, is_counter}
use Rattle.f66_names.specs.Kinds.{is_counting}
use Rattle.f66_soundness.specs.Rightly.{Rightly, NeverWrong}
use Rattle.f66_soundness.proofs.RightlyLemmas.{bind_rightly, bind_any, settle_rightly}
use Rattle.f66_soundness.proofs.KindLemmas.{integer_only}
use Rattle.f66_soundness.proofs.ContentLemmas.{AreWhole, asked_rightly, distance_rightly, moved_rightly}
use Rattle.f66_soundness.proofs.ValueLemmas.{one_more}

-- Names mean in the context d of a run what they mean in the context c by which the statements are judged, which has no name of a
-- type outside the profile; and dimensions are constants or integer variables.
pub record IsJudged (c d : Context) : Type 0 where
  pub kinds : (x : Text) → kind_of c x ≡ kind_of d x
  pub sorts : (x : Text) → sort_of c x ≡ sort_of d x
  pub own : (x : Text) → is_foreign c x ≡ false
  pub sizes : (x : Text) → list_all (is_counting c) (sizes_of x d.notes) ≡ true

-- a unit in a run, with as many actuals as it has dummies
pub record IsSite (s : Setting) (f : Frame) (c : Context) : Type 0 where
  pub judged : IsJudged c (around s f)
  pub actuals : length (dummies_of (around s f).header) ≡ length f.actuals

-- ---- dummies ----

given_rightly : (i : ℕ) (ps : List Spot) → i < length ps → TriesRightly (λ _. ⊤) (given i ps)
given_rightly i [] h = absurd (omega (arith, h))
given_rightly zero (p ∷ ps) h = tt
given_rightly (suc i) (p ∷ ps) h = given_rightly i ps (omega (arith, h))

position_within : (x : Text) (ds : List Text) → IfSome (position x ds) (λ i. i < length ds)
position_within x [] = tt
position_within x (y ∷ ys) = by_name (bytes_eq x y) (position x ys) (position_within x ys)
  where
    by_name : (b : Bool) (o : Option ℕ) → IfSome o (λ i. i < length ys) → IfSome (if b then Some zero else one_on o) (λ i. i < length (y ∷ ys))
    by_name true o h = omega arith
    by_name false None h = tt
    by_name false (Some i) h = omega (arith, h)

-- ---- dimensions ----

abbrev pub AreCounting : Context → Sort → Type 0
AreCounting c (AnArray ns) = list_all (is_counting c) ns ≡ true
AreCounting c _ = ⊤

known_counting : (c : Context) (es : List (Text × Intrinsic)) (x : Text) → AreCounting c (known es x)
known_counting c [] x = tt
known_counting c (e ∷ es) x = by_name (bytes_eq e.0 x) (known_counting c es x)
  where
    by_name : (b : Bool) → AreCounting c (known es x) → AreCounting c (if b then AnIntrinsic e.1 else known es x)
    by_name true h = tt
    by_name false h = h

array_counting : (c : Context) (ns : List Par) (x : Text) → list_all (is_counting c) ns ≡ true → AreCounting c (array_or ns x)
array_counting c [] x h = known_counting c intrinsics x
array_counting c (n ∷ ns) x h = h

pub no_integers : AreWhole 0 []
no_integers = record { number = refl; whole = tt }

stored_rightly : (l : Linkage) (p : Spot) (v : Content) (st : Store) → TriesRightly (λ _. ⊤) (stored l p v st)
stored_rightly l (Held u x o) v st = tt
stored_rightly l (Lent c) v st = tt

module _ (s : Setting) (f : Frame) where
  pub load_rightly : (k : Kind) (p : Spot) (w : World) → Rightly (λ v _. IsOfKind k v) (load s f k p w)
  load_rightly k p w = settle_rightly (IsOfKind k) f.place (asked k (held s.linked p w.state.store)) w (asked_rightly k (held s.linked p w.state.store))

  -- into a place any content may go, and into a value none, which is a trap
  pub store_rightly : (p : Spot) (v : Content) (w : World) → NeverWrong (store_at s f p v w)
  store_rightly p v w =
      bind_any (λ _ _. ⊤) (settle f.place (stored s.linked p v w.state.store) w) _ (settle_rightly (λ _. ⊤) f.place (stored s.linked p v w.state.store) w (stored_rightly s.linked p v w.state.store)) (λ st w1. tt)

module _ (s : Setting) (f : Frame) (c : Context) (site : IsSite s f c) where
  base_yields : (x : Text) → TriesRightly (λ _. ⊤) (base s f x)
  base_yields x = by_position (position x (dummies_of (around s f).header)) (position_within x (dummies_of (around s f).header))
    where
      by_position : (o : Option ℕ) → IfSome o (λ i. i < length (dummies_of (around s f).header)) → TriesRightly (λ _. ⊤) (base_by o f.unit f.actuals x)
      by_position None h = tt
      by_position (Some i) h = given_rightly i f.actuals (subst (λ n. i < n) site.actuals h)

  pub base_rightly : (x : Text) (w : World) → NeverWrong (settle f.place (base s f x) w)
  base_rightly x w = settle_rightly (λ _. ⊤) f.place (base s f x) w (base_yields x)

  pub variable_rightly : (x : Text) (w : World) → Rightly (λ v _. IsOfKind (kind_of c x) v) (variable_in s f x w)
  variable_rightly x w =
      bind_any (λ v _. IsOfKind (kind_of c x) v) (settle f.place (base s f x) w) _ (base_rightly x w)
      (λ p w1. subst (λ k. Rightly (λ v _. IsOfKind k v) (load s f (kind_of (around s f) x) p w1)) (sym (site.judged.kinds x)) (load_rightly s f (kind_of (around s f) x) p w1))

  pub counter_rightly : (x : Text) → is_counter c x ≡ true → (w : World) → Rightly (λ v _. IsOfKind Integer v) (variable_in s f x w)
  counter_rightly x e w = subst (λ k. Rightly (λ v _. IsOfKind k v) (variable_in s f x w)) (integer_only (kind_of c x) (and_parts _ _ e).1) (variable_rightly x w)

  pub par_rightly : (n : Par) → is_counting c n ≡ true → (w : World) → Rightly (λ v _. IsOfKind Integer v) (par_in s f n w)
  par_rightly (Constant z) e w = tt
  par_rightly (Named x) e w = counter_rightly x e w

  pub pars_rightly : (ns : List Par) → list_all (is_counting c) ns ≡ true → (w : World) → Rightly (λ vs _. AreWhole (length ns) vs) (pars_in s f ns w)
  pars_rightly [] h w = no_integers
  pars_rightly (n ∷ ns) h w =
      let p = and_parts (is_counting c n) _ h in
      bind_rightly (λ v _. IsOfKind Integer v) (λ vs _. AreWhole (length (n ∷ ns)) vs) (par_in s f n w) _ (par_rightly n p.0 w) (λ v w1 i.
      bind_rightly (λ vs _. AreWhole (length ns) vs) (λ vs _. AreWhole (length (n ∷ ns)) vs) (pars_in s f ns w1) _ (pars_rightly ns p.1 w1)
      (λ vs w2 k. subst (λ m. AreWhole m (v ∷ vs)) (omega arith) (one_more (length ns) v vs i k)))

  pub sort_counting : (x : Text) → AreCounting c (sort_of (around s f) x)
  sort_counting x = array_counting c (sizes_of x (around s f).notes) x (site.judged.sizes x)

  -- an element with as many subscripts as dimensions
  pub element_rightly : (x : Text) (ns : List Par) → list_all (is_counting c) ns ≡ true → (vals : World → Out (List Content)) → ((w : World) → Rightly (λ vs _. AreWhole (length ns) vs) (vals w)) → (w : World) → NeverWrong (element s f x ns vals w)
  element_rightly x ns counting vals h w =
      bind_any (λ _ _. ⊤) (settle f.place (base s f x) w) _ (base_rightly x w) (λ p w1.
      bind_rightly (λ vs _. AreWhole (length ns) vs) (λ _ _. ⊤) (vals w1) _ (h w1) (λ is' w2 i.
      bind_rightly (λ vs _. AreWhole (length ns) vs) (λ _ _. ⊤) (pars_in s f ns w2) _ (pars_rightly ns counting w2) (λ ds w3 d.
      let n = i.number in let m = d.number in
      bind_any (λ _ _. ⊤) (settle f.place (distance 1 is' ds) w3) _ (settle_rightly (λ _. ⊤) f.place (distance 1 is' ds) w3 (distance_rightly 1 is' ds (omega arith) i.whole d.whole)) (λ o w4.
      settle_rightly (λ _. ⊤) f.place (moved s.linked p o) w4 (moved_rightly s.linked p o)))))
