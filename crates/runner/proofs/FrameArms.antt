-- What dummies, calls and returns do.
use Rattle.std.proofs.Common.{◌≡◌, ◌⊎◌, inl, inr, ℕ, zero, suc, ◌+◌, ◌*◌, ◌≤◌, ◌<◌, List, [], ◌∷◌, length, Some, refl, sym, ap, ◌∙◌, subst, arith, slice_get, slice_set}
use Rattle.std.proofs.lemmas.Bool.{cases_eq}
use Rattle.std.proofs.lemmas.Option.{slice_get_within, same_Some}
use Rattle.f66_tree.specs.Fields.{Fields}
use Rattle.f66_tree.specs.World.{World, Yields}
use Rattle.stack_code.specs.Instructions as i
use Rattle.stack_code.specs.StackMachine.{Spot, At, Caller, Core, act, dummy, pushed_spot, back_to}
use Rattle.stack_code.specs.Safety.{IsRight, CallersWithin}
use Rattle.stack_code.proofs.FactsLemmas.{get_set_same}
use Rattle.runner.specs.declared.words.Word.{Word}
use Rattle.runner.specs.Words.{Shows, Stand, Lies}
use Rattle.runner.specs.Work.{IsGiven, GoesTo, IsFine, IsAtMost}
use Rattle.runner.specs.Frames.{Back, IsKeptIn, Wait, MayFind, AreHanded}
use Rattle.runner.proofs.Piles.{set_later}
use Rattle.runner.proofs.Tops.{spot_given, tall}

-- ---- a dummy ----

pub record HasDummy (n : ℕ) (ps : List Spot) (spots : List Word) (base : ℕ) : Type 0 where
  pub p : Spot
  pub is : dummy n ps ≡ Yields p
  pub word : Word
  pub there : slice_get spots (base + n) ≡ Some word
  pub shows : Shows (At p) word

dummy_at : (n : ℕ) (ps : List Spot) (spots : List Word) (base : ℕ) → Lies At ps spots base → IsGiven (dummy n ps) → HasDummy n ps spots base
dummy_at n [] spots base l g = absurd g
dummy_at zero (p ∷ ps) spots base l g = let e : base ≡ base + 0 = omega arith in record { p = p; is = refl; word = l.0; there = subst (λ q. slice_get spots q ≡ Some l.0) e l.1; shows = l.2 }
dummy_at (suc n) (p ∷ ps) spots base l g =
    let d = dummy_at n ps spots (suc base) l.3 g in
    let e : suc base + n ≡ base + suc n = omega arith in
    record { p = d.p; is = d.is; word = d.word; there = subst (λ q. slice_get spots q ≡ Some d.word) e d.there; shows = d.shows }

module _ (n : ℕ) (buffer : List Word) (top : ℕ) (spots : List Word) (base : ℕ) (m : MayFind n buffer top spots base) where
  the_dummy : HasDummy n m.work.core.frame.spots spots base
  the_dummy = dummy_at n m.work.core.frame.spots spots base m.lies (spot_given (IsAtMost (length buffer)) m.work.core m.work.core.stack m.work.world (dummy n m.work.core.frame.spots) m.work.right)

  pub dummy_there : base + n < length spots
  dummy_there = slice_get_within spots (base + n) the_dummy.word the_dummy.there

  pub dummy_room : top < length buffer
  dummy_room =
      let h = subst (λ t. IsRight (IsAtMost (length buffer)) (pushed_spot m.work.core m.work.core.stack m.work.world t)) the_dummy.is m.work.right in
      let l = tall (i.Dummy n) buffer top m.work in
      omega arith

pub dummy_works : (n : ℕ) (pile piled : List Word) (spots : List Word) (base : ℕ) (word : Word) → slice_get spots (base + n) ≡ Some word → piled ≡ word ∷ pile → (plans : List Fields) (s : Core) (w : World) → Stand s.stack pile → Lies At s.frame.spots spots base → IsFine (act plans (Some (i.Dummy n)) s w) → GoesTo (act plans (Some (i.Dummy n)) s w) s w (s.pc + 1) piled
dummy_works n pile piled spots base word there e plans s w st l fine =
    let d = dummy_at n s.frame.spots spots base l (spot_given _ s s.stack w (dummy n s.frame.spots) fine) in
    let same : d.word ≡ word = same_Some _ _ (sym d.there ∙ there) in
    record { stack = At d.p ∷ s.stack; is = ap (pushed_spot s s.stack w) d.is; stand = subst (Stand (At d.p ∷ s.stack)) (sym e) (subst (Shows (At d.p)) same d.shows, st) }

-- ---- words are handed on ----

below_not : (k n : ℕ) → k < n + 1 → (k ≡ n → ⊥) → k < n
below_not zero zero lt ne = absurd (ne refl)
below_not zero (suc n) lt ne = omega arith
below_not (suc k) zero lt ne = absurd (omega arith)
below_not (suc k) (suc n) lt ne = let ih = below_not k n (omega arith) (λ e. ne (ap suc e)) in omega arith

pub handed_none : (stack spots : List Word) (from base : ℕ) → AreHanded stack from 0 spots spots base
handed_none stack spots from base = record { handed = λ k lt. absurd (omega arith); below = λ q lt. refl }

pub handed_more : (stack old new : List Word) (from count base : ℕ) (word : Word) → AreHanded stack from count old new base → base + count < length new → slice_get stack (from + count) ≡ Some word → AreHanded stack from (count + 1) old (slice_set new (base + count) word) base
handed_more stack old new from count base word h room there =
    record { handed = λ k lt. by k (cases_eq k count) lt; below = λ q lt. set_later new (base + count) q word (omega arith) ∙ h.below q lt }
  where
    by : (k : ℕ) → (k ≡ count) ⊎ (k ≡ count → ⊥) → k < count + 1 → slice_get (slice_set new (base + count) word) (base + k) ≡ slice_get stack (from + k)
    by k (inl e) lt = subst (λ n. slice_get (slice_set new (base + count) word) (base + n) ≡ slice_get stack (from + n)) (sym e) (get_set_same new (base + count) word room ∙ sym there)
    by k (inr ne) lt = let less : k < count = below_not k count lt ne in set_later new (base + count) (base + k) word (omega arith) ∙ h.handed k less

-- ---- spots that lie elsewhere ----

pub lies_moved : (ps : List Spot) (a b : List Word) (x y : ℕ) → Lies At ps a x → ((k : ℕ) → k < length ps → slice_get b (y + k) ≡ slice_get a (x + k)) → Lies At ps b y
lies_moved [] a b x y l f = tt
lies_moved (p ∷ ps) a b x y l f =
    let e : y ≡ y + 0 = omega arith in
    let e1 : x + 0 ≡ x = omega arith in
    (l.0, ap (slice_get b) e ∙ f 0 (omega arith) ∙ ap (slice_get a) e1 ∙ l.1, l.2, lies_moved ps a b (suc x) (suc y) l.3 (λ k lt. let e2 : suc y + k ≡ y + suc k = omega arith in let e3 : x + suc k ≡ suc x + k = omega arith in ap (slice_get b) e2 ∙ f (suc k) (omega arith) ∙ ap (slice_get a) e3))

pub lies_kept : (ps : List Spot) (a b : List Word) (x edge : ℕ) → Lies At ps a x → x + length ps ≤ edge → ((q : ℕ) → q < edge → slice_get b q ≡ slice_get a q) → Lies At ps b x
lies_kept ps a b x edge l le f = lies_moved ps a b x x l (λ k lt. f (x + k) (omega arith))

-- ---- callers ----

pub wait_level : (wide : ℕ) (spots : List Word) (resumes : List Back) (callers : List Caller) (level : ℕ) → Wait wide spots resumes callers level → length callers ≡ level
wait_level wide spots resumes [] level h = sym h
wait_level wide spots resumes (c ∷ callers) zero h = absurd h
wait_level wide spots resumes (c ∷ callers) (suc level) h = ap suc (wait_level wide spots resumes callers level h.2)

pub times_more : (a b k : ℕ) → a ≤ b → a * k ≤ b * k
times_more zero b k h = omega arith
times_more (suc a) zero k h = absurd (omega arith)
times_more (suc a) (suc b) k h = let ih = times_more a b k (omega arith) in omega arith

module _ (units wide : ℕ) (spots spots1 : List Word) (resumes resumes1 : List Back) (top : ℕ) (same : (q : ℕ) → q < top * wide → slice_get spots1 q ≡ slice_get spots q) (kept : (q : ℕ) → q < top → slice_get resumes1 q ≡ slice_get resumes q) where
  -- what is written from a level on does not change the callers below it
  pub wait_kept : (callers : List Caller) (level : ℕ) → level ≤ top → CallersWithin units wide callers → Wait wide spots resumes callers level → Wait wide spots1 resumes1 callers level
  wait_kept [] level le c h = h
  wait_kept (c ∷ callers) zero le cw h = absurd h
  wait_kept (c ∷ callers) (suc level) le cw h =
      let few = cw.0.few in
      let more = times_more (suc level) top wide le in
      (subst (IsKeptIn c) (sym (kept level (omega arith))) h.0, lies_kept c.frame.spots spots spots1 (level * wide) (top * wide) h.1 (omega arith) same, wait_kept callers level (omega arith) cw.1 h.2)

-- ---- a return ----

pub record GoneBack (wide : ℕ) (spots : List Word) (resumes : List Back) (callers : List Caller) (level : ℕ) : Type 0 where
  pub caller : Caller
  pub rest : List Caller
  pub is : callers ≡ caller ∷ rest
  pub under : ℕ
  pub level_is : level ≡ suc under
  pub kept : IsKeptIn caller (slice_get resumes under)
  pub lies : Lies At caller.frame.spots spots (under * wide)
  pub wait : Wait wide spots resumes rest under

pub goes_back : (P : Core → Type 0) (wide : ℕ) (spots : List Word) (resumes : List Back) (s : Core) (w : World) (callers : List Caller) (level : ℕ) → IsRight P (back_to s w callers) → Wait wide spots resumes callers level → GoneBack wide spots resumes callers level
goes_back P wide spots resumes s w [] level h wait = absurd h
goes_back P wide spots resumes s w (c ∷ callers) zero h wait = absurd wait
goes_back P wide spots resumes s w (c ∷ callers) (suc under) h wait = record { caller = c; rest = callers; is = refl; under = under; level_is = refl; kept = wait.0; lies = wait.1; wait = wait.2 }
