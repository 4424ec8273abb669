-- What is known grows, and stays true.
use Rattle.std.proofs.Common.{rules, ◌≡◌, ◌⊎◌, inl, inr, ℕ, zero, suc, ◌+◌, ◌<◌, ◌≤◌, List, [], ◌∷◌, length, Option, Some, None, Bool, true, false, refl, sym, ap, ◌∙◌, subst, arith, slice_get, slice_set, get_or, option_map}
use Rattle.std.proofs.lemmas.List.{length-set, length-map}
use Rattle.std.proofs.lemmas.Bool.{cases_eq}
use Rattle.std.proofs.lemmas.Option.{slice_get_within, slice_get_past, slice_get_read, slice_get-map, none-some, same_Some}
use Rattle.stack_code.specs.declared.fact.Fact.{Fact}
use Rattle.stack_code.specs.declared.facts.Spread.{Spread}
use Rattle.stack_code.specs.declared.facts.Spread.TheVariants.{Settled, Earlier, Wrong}
use Rattle.stack_code.specs.declared.op.Op.{Op}
use Rattle.stack_code.specs.Views.{instruction_of, code_of}
use Rattle.stack_code.specs.Instructions.{Instruction, Call}
use Rattle.stack_code.specs.ValidCode.{call_in, root, after, ways, IsIn}
use Rattle.stack_code.specs.Facts.{Facts, Known, one_if_none, unknown, AllReached, Grows, IsSettled, Tells, SameUpTo, HasWay, Telling, Changed, Spreads, IsToldAll, IsClosed, AreAll, AreEntered, IsSpread, Progress, Passes, CallsKnown, Telling, Changed, IsInvalid, Learns, Clashes}

pub get_set_same : {A : Type 0} (xs : List A) (i : ℕ) (y : A) → i < length xs → slice_get (slice_set xs i y) i ≡ Some y
get_set_same [] i y lt = absurd (omega arith)
get_set_same (x ∷ xs) zero y lt = refl
get_set_same (x ∷ xs) (suc i) y lt = get_set_same xs i y (omega arith)

pub get_set_other : {A : Type 0} (xs : List A) (i j : ℕ) (y : A) → (i ≡ j → ⊥) → slice_get (slice_set xs i y) j ≡ slice_get xs j
get_set_other [] i j y ne = refl
get_set_other (x ∷ xs) zero zero y ne = absurd (ne refl)
get_set_other (x ∷ xs) zero (suc j) y ne = refl
get_set_other (x ∷ xs) (suc i) zero y ne = refl
get_set_other (x ∷ xs) (suc i) (suc j) y ne = get_set_other xs i j y (λ e. ne (ap suc e))

unknown_set : (facts : Facts) (i : ℕ) (f : Fact) → slice_get facts i ≡ Some None → unknown (slice_set facts i (Some f)) + 1 ≡ unknown facts
unknown_set [] i f e = absurd (none-some _ e)
unknown_set (o ∷ os) zero f e = let n : one_if_none o ≡ 1 = ap one_if_none (same_Some _ _ e) in omega arith
unknown_set (o ∷ os) (suc i) f e = let ih = unknown_set os i f e in omega arith

-- ---- one fact is learnt ----

pub learns_known : (old new : Facts) (pc : ℕ) (f : Fact) → Learns old new pc f → Known new pc f
learns_known old new pc f h = ap (λ l. slice_get l pc) h.is ∙ get_set_same old pc (Some f) (slice_get_within old pc None h.unknown)

pub learns_other : (old new : Facts) (pc : ℕ) (f : Fact) → Learns old new pc f → (at : ℕ) → (pc ≡ at → ⊥) → slice_get new at ≡ slice_get old at
learns_other old new pc f h at ne = ap (λ l. slice_get l at) h.is ∙ get_set_other old pc at (Some f) ne

learns_keeps : (old new : Facts) (pc : ℕ) (f : Fact) → Learns old new pc f → (at : ℕ) (g : Fact) → Known old at g → (pc ≡ at) ⊎ (pc ≡ at → ⊥) → Known new at g
learns_keeps old new pc f h at g k (inl e) = absurd (none-some g (same_Some _ _ (sym h.unknown ∙ ap (slice_get old) e ∙ k)))
learns_keeps old new pc f h at g k (inr ne) = learns_other old new pc f h at ne ∙ k

pub learns_less : (old new : Facts) (pc : ℕ) (f : Fact) → Learns old new pc f → unknown new < unknown old
learns_less old new pc f h = let e = unknown_set old pc f h.unknown in let e' = ap unknown h.is in omega arith

pub learns_grows : (old new : Facts) (pc : ℕ) (f : Fact) → Learns old new pc f → Grows old new
learns_grows old new pc f h =
    let less = learns_less old new pc f h in
    record { long = ap length h.is ∙ length-set old pc (Some f); keeps = λ at g k. learns_keeps old new pc f h at g k (cases_eq pc at); fewer = omega arith }

learns_reached_at : (code : List Instruction) (old new : Facts) (pc : ℕ) (f : Fact) → AllReached code old → Learns old new pc f → HasWay code pc f → (at : ℕ) (g : Fact) → Known new at g → (pc ≡ at) ⊎ (pc ≡ at → ⊥) → HasWay code at g
learns_reached_at code old new pc f reached h way at g k (inl e) =
    let there = subst (λ n. Known new n f) e (learns_known old new pc f h) in
    let same : f ≡ g = same_Some _ _ (same_Some _ _ (sym there ∙ k)) in
    subst (λ n. HasWay code n g) e (subst (λ x. HasWay code pc x) same way)
learns_reached_at code old new pc f reached h way at g k (inr ne) = reached.by at g (sym (learns_other old new pc f h at ne) ∙ k)

pub learns_reached : (code : List Instruction) (old new : Facts) (pc : ℕ) (f : Fact) → AllReached code old → Learns old new pc f → HasWay code pc f → AllReached code new
learns_reached code old new pc f reached h way = record { by = λ at g k. learns_reached_at code old new pc f reached h way at g k (cases_eq pc at) }

pub learns_tells : (code : List Instruction) (old new : Facts) (pc : ℕ) (f : Fact) → AllReached code old → Learns old new pc f → HasWay code pc f → Tells code old new pc f
learns_tells code old new pc f reached h way =
    record { grows = learns_grows old new pc f h; reached = learns_reached code old new pc f reached h way; known = learns_known old new pc f h }

pub learns_later : (old new : Facts) (to : ℕ) (f : Fact) → Learns old new to f → (pc : ℕ) → pc < to → SameUpTo pc old new
learns_later old new to f h pc lt at le = learns_other old new to f h at (λ e. omega arith)

-- ---- nothing is learnt ----

pub grows_same : (old new : Facts) → new ≡ old → Grows old new
grows_same old new e = subst (λ l. Grows old l) (sym e) (record { long = refl; keeps = λ pc f k. k; fewer = omega arith })

pub same_tells : (code : List Instruction) (old new : Facts) (to : ℕ) (f : Fact) → AllReached code old → (new ≡ old) × Known old to f → Tells code old new to f
same_tells code old new to f reached h =
    record { grows = grows_same old new h.0; reached = subst (AllReached code) (sym h.0) reached; known = ap (λ l. slice_get l to) h.0 ∙ h.1 }

pub same_up_to : (old new : Facts) (pc : ℕ) → new ≡ old → SameUpTo pc old new
same_up_to old new pc e at le = ap (λ l. slice_get l at) e

pub grows_more : (a b c : Facts) → Grows a b → Grows b c → Grows a c
grows_more a b c g h =
    let l = g.fewer in let m = h.fewer in
    record { long = h.long ∙ g.long; keeps = λ pc f k. h.keeps pc f (g.keeps pc f k); fewer = omega arith }

-- ---- what makes a code invalid ----

pub invalid_past : (code : List Instruction) (to : ℕ) (f : Fact) → HasWay code to f → length code ≤ to → IsInvalid code
invalid_past code to f way le plans units v =
    let found = v.finds way.0 way.1 to f way.2 in
    let lt = slice_get_within code to found.instruction found.stands in
    omega arith

pub invalid_clash : (code : List Instruction) (facts : Facts) (to : ℕ) (f : Fact) → AllReached code facts → HasWay code to f → Clashes facts to f → IsInvalid code
invalid_clash code facts to f reached way clash plans units v =
    let other = reached.by to clash.other clash.known in
    clash.differs (v.one way.0 other.0 way.1 other.1 to f clash.other way.2 other.2)

pub invalid_stuck : (code : List Instruction) (facts : Facts) (pc : ℕ) (i : Instruction) (f : Fact) → AllReached code facts → Known facts pc f → slice_get code pc ≡ Some i → after i f ≡ None → IsInvalid code
invalid_stuck code facts pc i f reached known stands none plans units v =
    let way = reached.by pc f known in
    let found = v.finds way.0 way.1 pc f way.2 in
    let same : found.instruction ≡ i = same_Some _ _ (sym found.stands ∙ stands) in
    none-some found.behind (sym none ∙ ap (λ x. after x f) (sym same) ∙ found.gives)

-- ---- ways ----

pub way_on : (code : List Instruction) (facts : Facts) (pc : ℕ) (i : Instruction) (f behind : Fact) → AllReached code facts → Known facts pc f → slice_get code pc ≡ Some i → after i f ≡ Some behind → (to : ℕ) → IsIn to (ways i pc) → HasWay code to behind
way_on code facts pc i f behind reached known stands gives to goes =
    let way = reached.by pc f known in
    (way.0, suc way.1, (pc, f, way.2, record { instruction = i; stands = stands; gives = gives; goes = goes }))

-- ---- one after the other ----

telling_at : (code : List Instruction) (a b c : Facts) (ways : List ℕ) (n to : ℕ) (f : Fact) → Telling code a b ways n f → Tells code b c to f → slice_get ways n ≡ Some to → (index t : ℕ) → index < n + 1 → slice_get ways index ≡ Some t → (n ≡ index) ⊎ (n ≡ index → ⊥) → Known c t f
telling_at code a b c ways n to f h t here index u lt is (inl e) =
    let same : to ≡ u = same_Some _ _ (sym here ∙ ap (slice_get ways) e ∙ is) in
    subst (λ m. Known c m f) same t.known
telling_at code a b c ways n to f h t here index u lt is (inr ne) = t.grows.keeps u f (h.known index u (omega arith) is)

pub telling_more : (code : List Instruction) (a b c : Facts) (ways : List ℕ) (n to : ℕ) (f : Fact) → Telling code a b ways n f → Tells code b c to f → slice_get ways n ≡ Some to → Telling code a c ways (n + 1) f
telling_more code a b c ways n to f h t here =
    record { grows = grows_more a b c h.grows t.grows; reached = t.reached; known = λ index u lt is. telling_at code a b c ways n to f h t here index u lt is (cases_eq n index) }

pub telling_none : (code : List Instruction) (a : Facts) (ways : List ℕ) (f : Fact) → AllReached code a → Telling code a a ways 0 f
telling_none code a ways f reached = record { grows = grows_same a a refl; reached = reached; known = λ index to lt is. absurd (omega arith) }

pub changed_settled : (pc : ℕ) (a b c : Facts) (earlier : Bool) → Grows b c → Changed pc a b earlier → SameUpTo pc b c → Changed pc a c earlier
changed_settled pc a b c true g h s = let l = g.fewer in omega arith
changed_settled pc a b c false g h s = λ at le. s at le ∙ h at le

pub changed_earlier : (pc : ℕ) (a b c : Facts) → Grows a b → unknown c < unknown b → Changed pc a c true
changed_earlier pc a b c g h = let l = g.fewer in omega arith

pub told_all : (code : List Instruction) (a b : Facts) (pc : ℕ) (i : Instruction) (f behind : Fact) → Known a pc f → slice_get code pc ≡ Some i → after i f ≡ Some behind → Telling code a b (ways i pc) (length (ways i pc)) behind → Spreads code a b pc
told_all code a b pc i f behind known stands gives t =
    record {
      grows = t.grows;
      reached = t.reached;
      settled = record {
        by = λ g k.
            let same : f ≡ g = same_Some _ _ (same_Some _ _ (sym (t.grows.keeps pc f known) ∙ k)) in
            record { instruction = i; stands = stands; behind = behind; gives = ap (after i) (sym same) ∙ gives; there = λ to goes. t.known goes.index to (slice_get_within (ways i pc) goes.index to goes.is) goes.is };
      };
    }

pub spread_none : (code : List Instruction) (a b : Facts) (pc : ℕ) → AllReached code a → b ≡ a → slice_get a pc ≡ Some None → Spreads code a b pc
spread_none code a b pc reached e none =
    record { grows = grows_same a b e; reached = subst (AllReached code) (sym e) reached; settled = record { by = λ g k. absurd (none-some g (same_Some _ _ (sym none ∙ sym (ap (λ l. slice_get l pc) e) ∙ k))) } }

pub spread_of : (code : List Instruction) (a b : Facts) (pc : ℕ) (i : Instruction) (f behind : Fact) → Known a pc f → slice_get code pc ≡ Some i → after i f ≡ Some behind → (r : Spread) → IsToldAll code a b pc (ways i pc) behind r → IsSpread code a b pc r
spread_of code a b pc i f behind known stands gives Settled h = (told_all code a b pc i f behind known stands gives h.0, h.1)
spread_of code a b pc i f behind known stands gives Earlier h = (told_all code a b pc i f behind known stands gives h.0, h.1)
spread_of code a b pc i f behind known stands gives Wrong h = h

-- ---- what a read tells ----

pub code_at : (ops : List Op) (pc : ℕ) (op : Op) → pc < length ops → op ≡ get_or ops pc op → slice_get (code_of ops) pc ≡ Some (instruction_of op)
code_at ops pc op lt is = slice_get-map instruction_of ops pc ∙ ap (option_map instruction_of) (slice_get_read ops (length ops) pc op refl lt is)

pub known_at : (facts : Facts) (pc : ℕ) (o p : Option Fact) → pc < length facts → o ≡ get_or facts pc o → o ≡ p → slice_get facts pc ≡ Some p
known_at facts pc o p lt is e = slice_get_read facts (length facts) pc o refl lt is ∙ ap Some e

-- ---- pass by pass ----

pub settled_later : (code : List Instruction) (a b : Facts) (pc : ℕ) → Grows a b → SameUpTo pc a b → (at : ℕ) → at ≤ pc → IsSettled code a at → IsSettled code b at
settled_later code a b pc g same at le h =
    record {
      by = λ f k.
          let s = h.by f (sym (same at le) ∙ k) in
          record { instruction = s.instruction; stands = s.stands; behind = s.behind; gives = s.gives; there = λ to goes. g.keeps to s.behind (s.there to goes) };
    }

progress_at : (code : List Instruction) (a b : Facts) (pc : ℕ) → Spreads code a b pc → SameUpTo pc a b → ((at : ℕ) → at < pc → IsSettled code a at) → (at : ℕ) → at < pc + 1 → (pc ≡ at) ⊎ (pc ≡ at → ⊥) → IsSettled code b at
progress_at code a b pc h same all at lt (inl e) = subst (IsSettled code b) e h.settled
progress_at code a b pc h same all at lt (inr ne) = settled_later code a b pc h.grows same at (omega arith) (all at (omega arith))

pub progress_settled : (code : List Instruction) (a b d : Facts) (pc : ℕ) (earlier : Bool) → Progress code a b pc earlier → Spreads code b d pc → SameUpTo pc b d → Progress code a d (pc + 1) earlier
progress_settled code a b d pc true p h same = let l = h.grows.fewer in omega arith
progress_settled code a b d pc false p h same = λ at lt. progress_at code b d pc h same p at lt (cases_eq pc at)

pub progress_earlier : (code : List Instruction) (a b d : Facts) (pc : ℕ) → Grows a b → unknown d < unknown b → Progress code a d (pc + 1) true
progress_earlier code a b d pc g lt = let l = g.fewer in omega arith

pub passes_more : (code : List Instruction) (a b d : Facts) → Passes code a b → Grows b d → AllReached code d → Passes code a d
passes_more code a b d p g r = record { grows = grows_more a b d p.grows g; reached = r }

pub passes_none : (code : List Instruction) (a : Facts) → AllReached code a → Passes code a a
passes_none code a r = record { grows = grows_same a a refl; reached = r }

pub code_long : (ops : List Op) → length (code_of ops) ≡ length ops
code_long ops = search (rules, length-map)

pub code_past : (ops : List Op) (pc : ℕ) → length ops ≤ pc → slice_get (code_of ops) pc ≡ None
code_past ops pc le = slice_get_past (code_of ops) pc (omega (arith, code_long ops))

-- ---- entries ----

pub root_way : (code : List Instruction) (at to n : ℕ) → slice_get code at ≡ Some (Call to n) → HasWay code to (root n)
root_way code at to n is = (to, 0, record { count = n; entry_is = inr (record { at = at; calls = is }); here = refl; is = refl })

pub main_way : (code : List Instruction) → HasWay code 0 (root 0)
main_way code = (0, 0, record { count = 0; entry_is = inl (refl, refl); here = refl; is = refl })

pub tells_passes : (code : List Instruction) (a b : Facts) (to : ℕ) (f : Fact) → Tells code a b to f → Passes code a b
tells_passes code a b to f h = record { grows = h.grows; reached = h.reached }

pub call_is : (i : Instruction) (p : ℕ × ℕ) → call_in i ≡ Some p → i ≡ Call p.0 p.1
call_is (Call to n) p e = ap (λ q. Call q.0 q.1) (same_Some _ _ e)
call_is _ p e = absurd (none-some p e)

pub call_way : (code : List Instruction) (at : ℕ) (i : Instruction) (to n : ℕ) → slice_get code at ≡ Some i → ◌≡◌ {A = Option (ℕ × ℕ)} (call_in i) (Some (to, n)) → HasWay code to (root n)
call_way code at i to n stands e = root_way code at to n (stands ∙ ap Some (call_is i (to, n) e))

pub calls_none : (code : List Instruction) (facts : Facts) (at : ℕ) (i : Instruction) → slice_get code at ≡ Some i → call_in i ≡ None → CallsKnown code facts at
calls_none code facts at i stands none to n is = absurd (none-some (to, n) (sym none ∙ ap call_in (same_Some _ _ (sym stands ∙ is))))

pub calls_one : (code : List Instruction) (facts : Facts) (at : ℕ) (i : Instruction) (to n : ℕ) → slice_get code at ≡ Some i → ◌≡◌ {A = Option (ℕ × ℕ)} (call_in i) (Some (to, n)) → Known facts to (root n) → CallsKnown code facts at
calls_one code facts at i to n stands e known t m is =
    let same : ◌≡◌ {A = ℕ × ℕ} (to, n) (t, m) = same_Some _ _ (sym e ∙ ap call_in (same_Some _ _ (sym stands ∙ is))) in
    subst (λ p. Known facts p.0 (root p.1)) same known

-- ---- all entries ----

pub calls_kept : (code : List Instruction) (a b : Facts) (at : ℕ) → Grows a b → CallsKnown code a at → CallsKnown code b at
calls_kept code a b at g h to n is = g.keeps to (root n) (h to n is)

calls_at : (code : List Instruction) (a b : Facts) (n : ℕ) → Passes code a b → ((at : ℕ) → at < n → CallsKnown code a at) → CallsKnown code b n → (at : ℕ) → at < n + 1 → (n ≡ at) ⊎ (n ≡ at → ⊥) → CallsKnown code b at
calls_at code a b n p all one at lt (inl e) = subst (CallsKnown code b) e one
calls_at code a b n p all one at lt (inr ne) = calls_kept code a b at p.grows (all at (omega arith))

pub calls_more : (code : List Instruction) (a b : Facts) (n : ℕ) → Passes code a b → ((at : ℕ) → at < n → CallsKnown code a at) → CallsKnown code b n → (at : ℕ) → at < n + 1 → CallsKnown code b at
calls_more code a b n p all one at lt = calls_at code a b n p all one at lt (cases_eq n at)

pub all_known : (code : List Instruction) (none a b : Facts) → length none ≡ length code → AreEntered code none a true → IsClosed code a b true → AreAll code b
all_known code none a b long p h =
    record { long = h.0.grows.long ∙ p.0.grows.long ∙ long; reached = h.0.reached; main = h.0.grows.keeps 0 (root 0) p.1; entries = λ at lt. calls_kept code a b at h.0.grows (p.2 at lt); settled = h.1 }

pub none_reached : (code : List Instruction) (facts : Facts) → ((at : ℕ) (f : Fact) → Known facts at f → ⊥) → AllReached code facts
none_reached code facts h = record { by = λ pc f k. absurd (h pc f k) }
