-- What is found to lie ahead is there, and in the end it is all.
use Rattle.std.proofs.Common.{◌≡◌, cond, ◌⊎◌, inl, inr, ⊎_elim, ℕ, zero, suc, ◌+◌, ◌-◌, ◌<◌, ◌≤◌, nat_le, not, ◌&&◌, ◌||◌, List, [], ◌∷◌, length, Some, None, Bool, true, false, refl, sym, ap, ◌∙◌, subst, arith, slice_get, slice_set, get_or}
use Rattle.std.proofs.lemmas.List.{length-set, get_or-set_same, get_or-set_other}
use Rattle.std.proofs.lemmas.Bool.{true≢false, cases_eq, leb-true, leb-false, and_parts, or_cases, or_left, or_right}
use Rattle.std.proofs.lemmas.Option.{slice_get_within, none-some, same_Some}
use Rattle.stack_code.specs.declared.fact.Fact.{Fact}
use Rattle.stack_code.specs.declared.ahead.Ahead.{Ahead}
use Rattle.stack_code.specs.declared.ahead.Raised.{Raised}
use Rattle.stack_code.specs.declared.ahead.Raised.TheVariants.{Settled, Higher, Wrong}
use Rattle.stack_code.specs.Instructions.{Instruction, Call, Return}
use Rattle.stack_code.specs.ValidCode.{root, after, ways, IsIn, IsEntry, Enters, IsReached, HasDepths, NeverReturns}
use Rattle.stack_code.specs.Facts.{Facts, Known, AreAll, IsInvalid}
use Rattle.stack_code.specs.Ahead.{nothing, ahead_in, joined, covers, own, join_all, AreTargets, HoldsAt, AllHold, Covers, IsSeen, one_unless, weight, slack, IsRaised, Rises, IsLook, SeenFrom, AllSeen, HasMainDepth}

-- ---- what is reached is known ----

known_entry : (code : List Instruction) (facts : Facts) → AreAll code facts → (entry pc : ℕ) (f : Fact) (r : Enters code entry pc f) → IsEntry code entry r.count → Known facts pc f
known_entry code facts all entry pc f r (inl e) = subst (λ n. Known facts n f) (sym (r.here ∙ e.0)) (subst (Known facts 0) (sym (r.is ∙ ap root e.1)) all.main)
known_entry code facts all entry pc f r (inr c) = subst (λ n. Known facts n f) (sym r.here) (subst (Known facts entry) (sym r.is) (all.entries c.at (slice_get_within code c.at _ c.calls) entry r.count c.calls))

pub reached_known : (code : List Instruction) (facts : Facts) → AreAll code facts → (entry k pc : ℕ) (f : Fact) → IsReached code entry k pc f → Known facts pc f
reached_known code facts all entry zero pc f r = known_entry code facts all entry pc f r r.entry_is
reached_known code facts all entry (suc k) pc f r =
    let known = reached_known code facts all entry k r.0 r.1 r.2 in
    let s = (all.settled r.0 (slice_get_within facts r.0 _ known)).by r.1 known in
    let same : s.instruction ≡ r.3.instruction = same_Some _ _ (sym s.stands ∙ r.3.stands) in
    let gives : s.behind ≡ f = same_Some _ _ (sym s.gives ∙ ap (λ i. after i r.1) same ∙ r.3.gives) in
    subst (Known facts pc) gives (s.there pc (subst (λ i. IsIn pc (ways i r.0)) (sym same) r.3.goes))

-- a way goes on from where it leads
step_on : (code : List Instruction) (facts : Facts) → AreAll code facts → (entry k pc : ℕ) (f : Fact) → IsReached code entry k pc f → (i : Instruction) → slice_get code pc ≡ Some i → (to : ℕ) → IsIn to (ways i pc) → (g : Fact) × IsReached code entry (suc k) to g
step_on code facts all entry k pc f r i stands to goes =
    let known = reached_known code facts all entry k pc f r in
    let s = (all.settled pc (slice_get_within facts pc _ known)).by f known in
    let same : i ≡ s.instruction = same_Some _ _ (sym stands ∙ s.stands) in
    (s.behind, (pc, f, r, record { instruction = s.instruction; stands = s.stands; gives = s.gives; goes = subst (λ x. IsIn to (ways x pc)) same goes }))

-- ---- joined and covered ----

if_below : (t : Bool) (x y n : ℕ) → x ≤ n → y ≤ n → cond t x y ≤ n
if_below true x y n h k = h
if_below false x y n h k = k

greater_left : (a b : ℕ) (t : Bool) → nat_le a b ≡ t → a ≤ cond t b a
greater_left a b true e = leb-true a b e
greater_left a b false e = omega arith

greater_right : (a b : ℕ) (t : Bool) → nat_le a b ≡ t → b ≤ cond t b a
greater_right a b true e = omega arith
greater_right a b false e = let lt = leb-false a b e in omega arith

covers_left : (a b : Ahead) → Covers (joined a b) a
covers_left a b = record { depth = greater_left a.depth b.depth (nat_le a.depth b.depth) refl; returns = λ e. or_left a.returns b.returns e }

covers_right : (a b : Ahead) → Covers (joined a b) b
covers_right a b = record { depth = greater_right a.depth b.depth (nat_le a.depth b.depth) refl; returns = λ e. or_right a.returns b.returns e }

covers_self : (a : Ahead) → Covers a a
covers_self a = record { depth = omega arith; returns = λ e. e }

covers_trans : (a b c : Ahead) → Covers a b → Covers b c → Covers a c
covers_trans a b c h k = let x = h.depth in let y = k.depth in record { depth = omega arith; returns = λ e. h.returns (k.returns e) }

join_start : (a : Ahead) (to : List ℕ) (found : List Ahead) → Covers (join_all a to found) a
join_start a [] found = covers_self a
join_start a (t ∷ ts) found = covers_trans (join_all (joined a (ahead_in found t)) ts found) (joined a (ahead_in found t)) a (join_start (joined a (ahead_in found t)) ts found) (covers_left a (ahead_in found t))

join_each : (a : Ahead) (ts : List ℕ) (found : List Ahead) (index to : ℕ) → slice_get ts index ≡ Some to → Covers (join_all a ts found) (ahead_in found to)
join_each a [] found index to e = absurd (none-some to e)
join_each a (t ∷ ts) found zero to e =
    let c = covers_trans (join_all (joined a (ahead_in found t)) ts found) (joined a (ahead_in found t)) (ahead_in found t) (join_start (joined a (ahead_in found t)) ts found) (covers_right a (ahead_in found t)) in
    subst (λ x. Covers (join_all (joined a (ahead_in found t)) ts found) (ahead_in found x)) (same_Some _ _ e) c
join_each a (t ∷ ts) found (suc index) to e = join_each (joined a (ahead_in found t)) ts found index to e

-- ---- what is found is there ----

joined_holds : (code : List Instruction) (pc : ℕ) (a b : Ahead) → HoldsAt code pc a → HoldsAt code pc b → HoldsAt code pc (joined a b)
joined_holds code pc a b h k =
    record {
      depth = λ depth d entry n f r. if_below (nat_le a.depth b.depth) b.depth a.depth (depth entry) (k.depth depth d entry n f r) (h.depth depth d entry n f r);
      returns = λ e entry n f r. ⊎_elim (λ x. h.returns x entry n f r) (λ x. k.returns x entry n f r) (or_cases a.returns b.returns e);
    }

join_all_holds : (code : List Instruction) (pc : ℕ) (a : Ahead) (ts : List ℕ) (found : List Ahead) → HoldsAt code pc a → ((to : ℕ) → IsIn to ts → HoldsAt code pc (ahead_in found to)) → HoldsAt code pc (join_all a ts found)
join_all_holds code pc a [] found h all = h
join_all_holds code pc a (t ∷ ts) found h all =
    join_all_holds code pc (joined a (ahead_in found t)) ts found (joined_holds code pc a (ahead_in found t) h (all t (record { index = 0; is = refl }))) (λ to is. all to (record { index = suc is.index; is = is.is }))

nothing_holds : (code : List Instruction) (pc : ℕ) → HoldsAt code pc nothing
nothing_holds code pc = record { depth = λ depth d entry n f r. omega arith; returns = λ e. absurd (true≢false (sym e)) }

own_holds : (code : List Instruction) (found : List Ahead) (pc : ℕ) (i : Instruction) → AllHold code found → slice_get code pc ≡ Some i → HoldsAt code pc (own i found)
own_holds code found pc (Call to n) h stands =
    record {
      depth = λ depth d entry k f r.
          let below = (h.holds to).depth depth d to 0 (root n) (record { count = n; entry_is = inr (record { at = pc; calls = stands }); here = refl; is = refl }) in
          let falls = d.falls entry k pc f to n r stands in
          omega arith;
      returns = λ e. absurd (true≢false (sym e));
    }
own_holds code found pc Return h stands = record { depth = λ depth d entry n f r. omega arith; returns = λ e entry k f r. record { steps = k; at = pc; fact = f; reached = r; stands = stands } }
own_holds code found pc _ h stands = nothing_holds code pc

way_holds : (code : List Instruction) (facts : Facts) → AreAll code facts → (pc : ℕ) (i : Instruction) → slice_get code pc ≡ Some i → (to : ℕ) → IsIn to (ways i pc) → (a : Ahead) → HoldsAt code to a → HoldsAt code pc a
way_holds code facts all pc i stands to goes a h =
    record {
      depth = λ depth d entry k f r. let x = step_on code facts all entry k pc f r i stands to goes in h.depth depth d entry (suc k) x.0 x.1;
      returns = λ e entry k f r. let x = step_on code facts all entry k pc f r i stands to goes in h.returns e entry (suc k) x.0 x.1;
    }

found_holds : (code : List Instruction) (facts : Facts) → AreAll code facts → (found : List Ahead) → AllHold code found → (pc : ℕ) (i : Instruction) → slice_get code pc ≡ Some i → HoldsAt code pc (join_all (own i found) (ways i pc) found)
found_holds code facts all found h pc i stands =
    join_all_holds code pc (own i found) (ways i pc) found (own_holds code found pc i h stands) (λ to goes. way_holds code facts all pc i stands to goes (ahead_in found to) (h.holds to))

-- ---- all to which a known instruction leads is in the code ----

pub are_targets : (code : List Instruction) (facts : Facts) → AreAll code facts → (pc : ℕ) (f : Fact) (i : Instruction) → Known facts pc f → slice_get code pc ≡ Some i → AreTargets i pc (length code)
are_targets code facts all pc f i known stands =
    record {
      ways = λ to goes.
          let s = (all.settled pc (slice_get_within facts pc _ known)).by f known in
          let same : i ≡ s.instruction = same_Some _ _ (sym stands ∙ s.stands) in
          let there = s.there to (subst (λ x. IsIn to (ways x pc)) same goes) in
          omega (arith, slice_get_within facts to _ there, all.long);
      calls = λ to n is. omega (arith, slice_get_within facts to _ (all.entries pc (slice_get_within code pc _ stands) to n (stands ∙ ap Some is)), all.long);
    }

-- ---- more is known ----

held_at : (code : List Instruction) (old : List Ahead) (at : ℕ) (a : Ahead) → AllHold code old → at < length old → HoldsAt code at a → (p : ℕ) → (p ≡ at) ⊎ (p ≡ at → ⊥) → HoldsAt code p (ahead_in (slice_set old at a) p)
held_at code old at a h lt k p (inl e) = subst (λ n. HoldsAt code n (ahead_in (slice_set old at a) n)) (sym e) (subst (HoldsAt code at) (sym (get_or-set_same old at a nothing lt)) k)
held_at code old at a h lt k p (inr ne) = subst (HoldsAt code p) (sym (get_or-set_other old at p a nothing ne)) (h.holds p)

small_at : (code : List Instruction) (old : List Ahead) (at : ℕ) (a : Ahead) → AllHold code old → at < length old → a.depth ≤ length code → (p : ℕ) → (p ≡ at) ⊎ (p ≡ at → ⊥) → (ahead_in (slice_set old at a) p).depth ≤ length code
small_at code old at a h lt le p (inl e) = subst (λ n. (ahead_in (slice_set old at a) n).depth ≤ length code) (sym e) (let g = ap (λ x. x.depth) (get_or-set_same old at a nothing lt) in omega arith)
small_at code old at a h lt le p (inr ne) = let g = ap (λ x. x.depth) (get_or-set_other old at p a nothing ne) in let s = h.small p in omega arith

weight_returns : (m : ℕ) (ar br : Bool) → (m + one_unless (ar || br)) ≤ m + one_unless ar
weight_returns m true br = omega arith
weight_returns m false true = omega arith
weight_returns m false false = omega arith

weight_same : (most ad bd : ℕ) (t ar br : Bool) → nat_le ad bd ≡ t → (ar || not br) ≡ false → (most - cond t bd ad) + one_unless (ar || br) < (most - ad) + one_unless ar
weight_same most ad bd t true br et e = absurd (true≢false e)
weight_same most ad bd t false false et e = absurd (true≢false e)
weight_same most ad bd t false true et e = let g = greater_left ad bd t et in omega arith

weight_depth : (most : ℕ) (a b : Ahead) (t u : Bool) → nat_le a.depth b.depth ≡ t → nat_le b.depth a.depth ≡ u → (u && (a.returns || not b.returns)) ≡ false → b.depth ≤ most → (most - cond t b.depth a.depth) + one_unless (a.returns || b.returns) < (most - a.depth) + one_unless a.returns
weight_depth most a b true false et eu e le =
    let lt = leb-false b.depth a.depth eu in
    let w = weight_returns (most - b.depth) a.returns b.returns in
    omega arith
weight_depth most a b false false et eu e le = let x = leb-false a.depth b.depth et in let y = leb-false b.depth a.depth eu in absurd (omega arith)
weight_depth most a b t true et eu e le = weight_same most a.depth b.depth t a.returns b.returns et e

pub weight_less : (most : ℕ) (a b : Ahead) → covers a b ≡ false → b.depth ≤ most → weight most (joined a b) < weight most a
weight_less most a b e le = weight_depth most a b (nat_le a.depth b.depth) (nat_le b.depth a.depth) refl refl e le

slack_set : (most : ℕ) (found : List Ahead) (at : ℕ) (a : Ahead) → at < length found → weight most a < weight most (get_or found at nothing) → slack most (slice_set found at a) < slack most found
slack_set most [] at a lt less = absurd (omega arith)
slack_set most (x ∷ rest) zero a lt less = omega arith
slack_set most (x ∷ rest) (suc at) a lt less = let ih = slack_set most rest at a (omega arith) less in omega arith

or_not : (a b : Bool) → (a || not b) ≡ true → b ≡ true → a ≡ true
or_not true b e r = refl
or_not false true e r = e
or_not false false e r = r

pub covered : (a b : Ahead) → covers a b ≡ true → Covers a b
covered a b e = let x = and_parts (nat_le b.depth a.depth) (a.returns || not b.returns) e in record { depth = leb-true b.depth a.depth x.0; returns = λ r. or_not a.returns b.returns x.1 r }

pub raised_rises : (code : List Instruction) (old new : List Ahead) (at : ℕ) (a : Ahead) → AllHold code old → at < length code → HoldsAt code at a → new ≡ slice_set old at (joined (ahead_in old at) a) → covers (ahead_in old at) a ≡ false → a.depth ≤ length old → Rises code old new
raised_rises code old new at a h lt k is e le =
    let here = ahead_in old at in
    let lt1 : at < length old = omega (arith, h.long) in
    let le1 : a.depth ≤ length code = omega (arith, h.long) in
    subst (Rises code old) (sym is) (record {
      holds = record {
        long = length-set old at (joined here a) ∙ h.long;
        holds = λ p. held_at code old at (joined here a) h lt1 (joined_holds code at here a (h.holds at) k) p (cases_eq p at);
        small = λ p. small_at code old at (joined here a) h lt1 (if_below (nat_le here.depth a.depth) a.depth here.depth (length code) le1 (h.small at)) p (cases_eq p at);
      };
      less = slack_set (length code) old at (joined here a) lt1 (weight_less (length code) here a e le1);
    })

-- a depth above the code's length is none
too_deep : (code : List Instruction) (facts : Facts) → AreAll code facts → (at : ℕ) (f : Fact) → Known facts at f → (a : Ahead) → HoldsAt code at a → length code < a.depth → IsInvalid code
too_deep code facts all at f known a h lt plans units v =
    let way = all.reached.by at f known in
    let x = h.depth v.depth v.depths way.0 way.1 f way.2 in
    let y = v.depths.within way.0 in
    omega arith

look_by : (code : List Instruction) (facts : Facts) → AreAll code facts → (old new : List Ahead) → AllHold code old → (at : ℕ) (f : Fact) (i : Instruction) → Known facts at f → slice_get code at ≡ Some i → (r : Raised) → IsRaised old new at (join_all (own i old) (ways i at) old) r → IsLook code facts old new at r
look_by code facts all old new h at f i known stands Settled e =
    (e.0, record { by = λ g j k s. subst (λ x. Covers (ahead_in old at) (join_all (own x old) (ways x at) old)) (same_Some _ _ (sym stands ∙ s)) (covered (ahead_in old at) (join_all (own i old) (ways i at) old) e.1) })
look_by code facts all old new h at f i known stands Higher e =
    raised_rises code old new at (join_all (own i old) (ways i at) old) h (slice_get_within code at i stands) (found_holds code facts all old h at i stands) e.0 e.1 e.2
look_by code facts all old new h at f i known stands Wrong e =
    too_deep code facts all at f known (join_all (own i old) (ways i at) old) (found_holds code facts all old h at i stands) (omega (arith, h.long))

pub look_known : (code : List Instruction) (facts : Facts) → AreAll code facts → (old new : List Ahead) → AllHold code old → (at : ℕ) (f : Fact) (i : Instruction) → Known facts at f → slice_get code at ≡ Some i → (a : Ahead) → a ≡ join_all (own i old) (ways i at) old → (r : Raised) → IsRaised old new at a r → IsLook code facts old new at r
look_known code facts all old new h at f i known stands a is r e = look_by code facts all old new h at f i known stands r (subst (λ x. IsRaised old new at x r) is e)

pub look_none : (code : List Instruction) (facts : Facts) (found : List Ahead) (at : ℕ) → slice_get facts at ≡ Some None → IsSeen code facts found at
look_none code facts found at none = record { by = λ f i known stands. absurd (none-some f (same_Some _ _ (sym none ∙ known))) }

-- ---- sweep by sweep ----

seen_at : (code : List Instruction) (facts : Facts) (old : List Ahead) (at : ℕ) → IsSeen code facts old at → ((p : ℕ) → at + 1 ≤ p → p < length code → IsSeen code facts old p) → (p : ℕ) → at ≤ p → p < length code → (at ≡ p) ⊎ (at ≡ p → ⊥) → IsSeen code facts old p
seen_at code facts old at here later p le lt (inl e) = subst (IsSeen code facts old) e here
seen_at code facts old at here later p le lt (inr ne) = later p (omega arith) lt

pub seen_settled : (code : List Instruction) (facts : Facts) (old b d : List Ahead) (at : ℕ) (higher : Bool) → SeenFrom code facts old b (at + 1) higher → (d ≡ b) × IsSeen code facts b at → SeenFrom code facts old d at higher
seen_settled code facts old b d at true h t = subst (λ x. slack (length code) x < slack (length code) old) (sym t.0) h
seen_settled code facts old b d at false h t = (t.0 ∙ h.0, λ p le lt. seen_at code facts old at (subst (λ x. IsSeen code facts x at) h.0 t.1) h.1 p le lt (cases_eq at p))

pub seen_higher : (code : List Instruction) (facts : Facts) (old b d : List Ahead) (at : ℕ) (higher : Bool) → SeenFrom code facts old b (at + 1) higher → Rises code b d → SeenFrom code facts old d at true
seen_higher code facts old b d at true h t = let less = t.less in omega arith
seen_higher code facts old b d at false h t = subst (λ x. slack (length code) d < slack (length code) x) h.0 t.less

pub none_seen : (code : List Instruction) (facts : Facts) (old : List Ahead) (at : ℕ) → length code ≤ at → SeenFrom code facts old old at false
none_seen code facts old at le = (refl, λ p le1 lt. absurd (omega arith))

pub all_seen : (code : List Instruction) (facts : Facts) (old new : List Ahead) → SeenFrom code facts old new 0 false → AllSeen code facts new
all_seen code facts old new h p lt = subst (λ x. IsSeen code facts x p) (sym h.0) (h.1 p (omega arith) lt)

pub unknown_hold : (code : List Instruction) (found : List Ahead) → length found ≡ length code → ((at : ℕ) → get_or found at nothing ≡ nothing) → AllHold code found
unknown_hold code found long h =
    record { long = long; holds = λ pc. subst (HoldsAt code pc) (sym (h pc)) (nothing_holds code pc); small = λ pc. let e = ap (λ x. x.depth) (h pc) in omega arith }

-- ---- in the end it is all ----

covers_ahead : (code : List Instruction) (facts : Facts) → AreAll code facts → (found : List Ahead) → AllSeen code facts found → (entry k pc : ℕ) (f : Fact) → IsReached code entry k pc f → Covers (ahead_in found entry) (ahead_in found pc)
covers_ahead code facts all found seen entry zero pc f r = subst (λ n. Covers (ahead_in found entry) (ahead_in found n)) (sym r.here) (covers_self (ahead_in found entry))
covers_ahead code facts all found seen entry (suc k) pc f r =
    let i = r.3.instruction in
    let known = reached_known code facts all entry k r.0 r.1 r.2 in
    let here = (seen r.0 (slice_get_within code r.0 i r.3.stands)).by r.1 i known r.3.stands in
    let there = join_each (own i found) (ways i r.0) found r.3.goes.index pc r.3.goes.is in
    covers_trans (ahead_in found entry) (ahead_in found r.0) (ahead_in found pc) (covers_ahead code facts all found seen entry k r.0 r.1 r.2) (covers_trans (ahead_in found r.0) (join_all (own i found) (ways i r.0) found) (ahead_in found pc) here there)

covers_own : (code : List Instruction) (facts : Facts) → AreAll code facts → (found : List Ahead) → AllSeen code facts found → (entry k pc : ℕ) (f : Fact) → IsReached code entry k pc f → (i : Instruction) → slice_get code pc ≡ Some i → Covers (ahead_in found entry) (own i found)
covers_own code facts all found seen entry k pc f r i stands =
    let known = reached_known code facts all entry k pc f r in
    let here = (seen pc (slice_get_within code pc i stands)).by f i known stands in
    covers_trans (ahead_in found entry) (ahead_in found pc) (own i found) (covers_ahead code facts all found seen entry k pc f r) (covers_trans (ahead_in found pc) (join_all (own i found) (ways i pc) found) (own i found) here (join_start (own i found) (ways i pc) found))

pub have_depths : (code : List Instruction) (facts : Facts) → AreAll code facts → (found : List Ahead) → AllHold code found → AllSeen code facts found → HasDepths code (λ entry. (ahead_in found entry).depth)
have_depths code facts all found h seen =
    record { within = h.small; falls = λ entry k pc f to n r stands. let c = covers_own code facts all found seen entry k pc f r (Call to n) stands in let x = c.depth in omega arith }

pub main_depth : (code : List Instruction) (facts : Facts) → AreAll code facts → (found : List Ahead) → AllHold code found → AllSeen code facts found → (deep : ℕ) → deep ≡ (ahead_in found 0).depth → HasMainDepth code deep
main_depth code facts all found h seen deep is = record { depth = λ entry. (ahead_in found entry).depth; depths = have_depths code facts all found h seen; main = sym is }

pub never_returns : (code : List Instruction) (facts : Facts) → AreAll code facts → (found : List Ahead) → AllSeen code facts found → (ahead_in found 0).returns ≡ false → NeverReturns code
never_returns code facts all found seen e k pc f r stands = true≢false (sym ((covers_own code facts all found seen 0 k pc f r Return stands).returns refl) ∙ e)

pub returns_invalid : (code : List Instruction) (found : List Ahead) → AllHold code found → (ahead_in found 0).returns ≡ true → IsInvalid code
returns_invalid code found h e plans units v =
    let back = (h.holds 0).returns e 0 0 (root 0) (record { count = 0; entry_is = inl (refl, refl); here = refl; is = refl }) in
    v.returns back.steps back.at back.fact back.reached back.stands
