-- Ranges that were filled: which one is the last before a place, whether one more meets them, and what is noted with it.
use Rattle.std.proofs.Common.{◌≡◌, ◌<◌, ◌≤◌, ◌+◌, ℕ, nat_eq, nat_lt, Bool, true, false, not, ◌&&◌, ◌||◌, cond, List, [], ◌∷◌, ◌++◌, Option, Some, None, IsSome, min, max, sym, subst, ap, ◌∙◌, refl, arith, if◌then◌else◌}
use Rattle.std.specs.List.{list_any}
use Rattle.std.specs.declared.cmp.Ordering.{Ordering}
use Rattle.std.specs.declared.cmp.Ordering.TheVariants.{Less, Equal, Greater}
use Rattle.std.specs.declared.ops.Bound.TheVariants.{Included, Excluded}
use Rattle.std.specs.Ordering.{nat_cmp, ordering_then, MatchOrdering, is_gt, is_lt, is_eq}
use Rattle.std.specs.Cmp.{nat_cmp_is, tied_then}
use Rattle.std.specs.BTreeMap.{BTreeMap, get}
use Rattle.std.specs.BTreeMap.Range.{IsInRange, IsEntryInRange}
use Rattle.std.proofs.lemmas.Cmp.{ranked, tied_itself, nat_cmp_total}
use Rattle.rule_table.specs.Words.{is_some_and}
use Rattle.efl_types.specs.Presets.{Owner, Filled, same_owner, meet}
use Rattle.efl_initial_values.specs.Fills.{Ends, by_both, ends_of, AreCodes, IsWithin, AreWithin, is_range, Notes, IsLast, LastBefore, IsClear, IsMet, longer, Extends}

-- ---- the order of pairs ----

less : (a b : ℕ) → a < b → nat_cmp a b ≡ Less
less a b h = sym (nat_cmp_is a b Less h)

same_first : (o a b : ℕ) → by_both (o, a) (o, b) ≡ nat_cmp a b
same_first o a b = ap (λ r. ordering_then r (nat_cmp a b)) (tied_itself nat_cmp_total o)

none_less : (b : ℕ) → is_gt (nat_cmp 0 b) ≡ false
none_less b = by (nat_cmp 0 b) (ranked 0 b (nat_cmp 0 b) refl)
  where
    by : (r : Ordering) → MatchOrdering r (0 < b) (0 ≡ b) (b < 0) → is_gt r ≡ false
    by Less h = refl
    by Equal h = refl
    by Greater h = absurd (omega (arith, h))

-- the keys of an owner with a first place before another one
abbrev pub InRange : ℕ → ℕ → ℕ × ℕ → Type 0
InRange o p q = IsInRange by_both (Included (o, 0)) (Excluded (o, p)) q

inside : (o p b : ℕ) → b < p → InRange o p (o, b)
inside o p b h = (ap is_gt (same_first o 0 b) ∙ none_less b, same_first o b p ∙ less b p h)

within : (o p k a : ℕ) → InRange o p (k, a) → (k ≡ o) × (a < p)
within o p k a h = by (nat_cmp k o) refl (ranked k o (nat_cmp k o) refl)
  where
    above : k < o → is_gt (by_both (o, 0) (k, a)) ≡ true
    above l = ap (λ r. is_gt (ordering_then r (nat_cmp 0 a))) (sym (nat_cmp_is o k Greater l))

    before : (r : Ordering) → r ≡ Less → MatchOrdering r (a < p) (a ≡ p) (p < a) → a < p
    before Less e m = m
    before Equal e m = absurd cc
    before Greater e m = absurd cc

    by : (r : Ordering) → nat_cmp k o ≡ r → MatchOrdering r (k < o) (k ≡ o) (o < k) → (k ≡ o) × (a < p)
    by Less e m = absurd (let d : true ≡ false = sym (above m) ∙ h.0 in cc)
    by Equal e m = (m, before (nat_cmp a p) (sym (ap (λ r. ordering_then r (nat_cmp a p)) e) ∙ h.1) (ranked a p (nat_cmp a p) refl))
    by Greater e m = absurd (let d : Greater ≡ Less = sym (ap (λ r. ordering_then r (nat_cmp a p)) e) ∙ h.1 in cc)

at_most : (a b : ℕ) → is_lt (nat_cmp a b) ≡ false → b ≤ a
at_most a b h = by (nat_cmp a b) h (ranked a b (nat_cmp a b) refl)
  where
    by : (r : Ordering) → is_lt r ≡ false → MatchOrdering r (a < b) (a ≡ b) (b < a) → b ≤ a
    by Less e m = absurd cc
    by Equal e m = omega (arith, m)
    by Greater e m = omega (arith, m)

is_same : (a b : ℕ) → is_eq (nat_cmp a b) ≡ nat_eq a b
is_same a b = by (nat_cmp a b) (ranked a b (nat_cmp a b) refl)
  where
    by : (r : Ordering) → MatchOrdering r (a < b) (a ≡ b) (b < a) → is_eq r ≡ nat_eq a b
    by Less m = grind (arith, m)
    by Equal m = grind (arith, m)
    by Greater m = grind (arith, m)

pub both_same : (o a m b : ℕ) → is_eq (by_both (o, a) (m, b)) ≡ (nat_eq o m && nat_eq a b)
both_same o a m b = sym (tied_then (nat_cmp o m) (nat_cmp a b)) ∙ ap (λ r. r && is_eq (nat_cmp a b)) (is_same o m) ∙ ap (λ r. nat_eq o m && r) (is_same a b)

-- ---- the last before a place ----

pub none_before : (m : BTreeMap (ℕ × ℕ) ℕ) (o p : ℕ) → ((q : ℕ × ℕ) → InRange o p q → get by_both m q ≡ None) → LastBefore (ends_of m) o p None
none_before m o p none = λ b d is. by b d is (nat_lt b p) refl
  where
    by : (b d : ℕ) → ends_of m o b ≡ Some d → (r : Bool) → nat_lt b p ≡ r → p ≤ b
    by b d is true e = absurd (let n : None ≡ Some d = sym (none (o, b) (inside o p b (grind (arith, e)))) ∙ is in cc)
    by b d is false e = grind (arith, e)

pub one_before : (m : BTreeMap (ℕ × ℕ) ℕ) (o p k a e : ℕ) → IsEntryInRange by_both (Included (o, 0)) (Excluded (o, p)) m ((k, a), e) →
    ((q : ℕ × ℕ) → InRange o p q → IsSome (get by_both m q) → is_lt (by_both (k, a) q) ≡ false) → IsLast (ends_of m) o p e
one_before m o p k a e entry greatest = let w = within o p k a entry.0 in record {
  first = a;
  is = sym (ap (λ n. ends_of m n a) w.0) ∙ entry.1;
  before = w.1;
  last = λ b d is l. at_most a b (sym (ap is_lt (same_first o a b)) ∙ sym (ap (λ n. is_lt (by_both (n, a) (o, b))) w.0) ∙ greatest (o, b) (inside o p b l) (some _ d is));
}
  where
    some : (x : Option ℕ) (d : ℕ) → x ≡ Some d → IsSome x
    some None d is = absurd cc
    some (Some y) d is = refl

-- ---- whether one more meets them ----

or_true : (b : Bool) → (b || true) ≡ true
or_true true = refl
or_true false = refl

any_more : (p q : Filled → Bool) → ((f : Filled) → p f ≡ true → q f ≡ true) → (fs : List Filled) → list_any p fs ≡ true → list_any q fs ≡ true
any_more p q more [] is = absurd cc
any_more p q more (f ∷ fs) is = by (p f) refl (λ rest. any_more p q more fs rest)
  where
    by : (r : Bool) → p f ≡ r → (list_any p fs ≡ true → list_any q fs ≡ true) → list_any q (f ∷ fs) ≡ true
    by true e rest = ap (λ r. r || list_any q fs) (more f e)
    by false e rest = ap (λ r. q f || r) (rest (sym (ap (λ r. r || list_any p fs) e) ∙ is)) ∙ or_true (q f)

there : (s : Bool) (x y n a e c d first end : ℕ) → s ≡ nat_eq x y → x ≡ n → (nat_eq y n && (nat_eq c a && nat_eq (c + d) e)) ≡ true → a < end → first < e →
    (s && (nat_lt first (c + d) && nat_lt c end)) ≡ true
there s x y n a e c d first end same is range l h = grind (arith, same, is, range, l, h)

-- the number of a range's owner
ranged : (n : ℕ) (o : Option ℕ) (r : Bool) → (is_some_and (λ m. nat_eq m n) o && r) ≡ true → (m : ℕ) × (o ≡ Some m) × ((nat_eq m n && r) ≡ true)
ranged n None r is = absurd cc
ranged n (Some m) r is = (m, refl, is)

pub met_any : (code : Owner → Option ℕ) (ends : Ends) (f : Filled) (fs : List Filled) (n : ℕ) → AreCodes code → code f.owner ≡ Some n → Notes code ends fs →
    IsMet ends n f.first (f.first + f.many) → list_any (meet f) fs ≡ true
met_any code ends f fs n codes is notes met = any_more (is_range code n met.place met.last) (meet f) each fs (notes.known n met.place met.last met.is)
  where
    each : (g : Filled) → is_range code n met.place met.last g ≡ true → meet f g ≡ true
    each g range =
        let at = ranged n (code g.owner) (nat_eq g.first met.place && nat_eq (g.first + g.many) met.last) range in
        there (same_owner f.owner g.owner) n at.0 n met.place met.last g.first g.many f.first (f.first + f.many) (codes f.owner g.owner n at.0 is at.1) refl at.2 met.before met.behind

away : (s : Bool) (x y c d first end : ℕ) → s ≡ nat_eq x y → (y ≡ x → c < end → c + d ≤ first) → (s && (nat_lt first (c + d) && nat_lt c end)) ≡ false
away false x y c d first end same far = refl
away true x y c d first end same far = by (nat_lt c end) refl
  where
    by : (r : Bool) → nat_lt c end ≡ r → (nat_lt first (c + d) && nat_lt c end) ≡ false
    by true e = let l = far (grind (arith, same)) (grind (arith, e)) in grind (arith, l)
    by false e = grind (arith, e)

pub clear_any : (code : Owner → Option ℕ) (ends : Ends) (f : Filled) (fs : List Filled) (n : ℕ) → AreCodes code → code f.owner ≡ Some n → AreWithin code ends fs →
    IsClear ends n f.first (f.first + f.many) → list_any (meet f) fs ≡ false
clear_any code ends f [] n codes is all clear = refl
clear_any code ends f (g ∷ fs) n codes is all clear =
    ap (λ r. r || list_any (meet f) fs) (away (same_owner f.owner g.owner) n all.0.number g.first g.many f.first (f.first + f.many) (codes f.owner g.owner n all.0.number is all.0.is) far)
    ∙ clear_any code ends f fs n codes is all.1 clear
  where
    far : all.0.number ≡ n → g.first < f.first + f.many → g.first + g.many ≤ f.first
    far same l =
        let d = all.0.within.0 in
        let first = clear g.first d (sym (ap (λ m. ends m g.first) same) ∙ all.0.within.1) l in
        let second = all.0.within.2 in
        omega (arith, first, second)

-- ---- what is noted with one more ----

data Comes (old : Ends) (n first end m a e : ℕ) : Type 0 where
  Before : old m a ≡ Some e → Comes old n first end m a e
  Anew : n ≡ m → first ≡ a → e ≡ end → Comes old n first end m a e

both_true : (n m a b : ℕ) → (nat_eq n m && nat_eq a b) ≡ true → (n ≡ m) × (a ≡ b)
both_true n m a b h = (grind (arith, h), grind (arith, h))

comes : (old new : Ends) (n first end : ℕ) → Extends old n first end new → (m a e : ℕ) → new m a ≡ Some e → Comes old n first end m a e
comes old new n first end extends m a e is = by (nat_eq n m && nat_eq first a) refl
  where
    longest : (o : Option ℕ) → old n first ≡ o → longer o end ≡ Some e → n ≡ m → first ≡ a → Comes old n first end m a e
    longest None was more one two = Anew one two (let s : Some end ≡ Some e = more in cc)
    longest (Some d) was more one two = pick (nat_lt d end) refl
      where
        most : max d end ≡ e
        most = let s : Some (max d end) ≡ Some e = more in cc

        pick : (r : Bool) → nat_lt d end ≡ r → Comes old n first end m a e
        pick true l = Anew one two (grind (arith, l, most))
        pick false l = Before (sym (ap (λ k. old k a) one) ∙ sym (ap (old n) two) ∙ was ∙ ap Some (grind (arith, l, most)))

    by : (r : Bool) → (nat_eq n m && nat_eq first a) ≡ r → Comes old n first end m a e
    by true h = let same = both_true n m first a h in
        longest (old n first) refl (sym (extends m a ∙ ap (λ r. if r then longer (old n first) end else old m a) h) ∙ is) same.0 same.1
    by false h = Before (sym (extends m a ∙ ap (λ r. if r then longer (old n first) end else old m a) h) ∙ is)

stays : (old new : Ends) (n first end : ℕ) → Extends old n first end new → (m a e : ℕ) → IsWithin old m a e → IsWithin new m a e
stays old new n first end extends m a e w = by (nat_eq n m && nat_eq first a) refl
  where
    by : (r : Bool) → (nat_eq n m && nat_eq first a) ≡ r → IsWithin new m a e
    by true h = let same = both_true n m first a h in let few = w.2 in
        (max w.0 end, extends m a ∙ ap (λ r. if r then longer (old n first) end else old m a) h ∙ ap (λ o. longer o end) (ap (λ k. old k first) same.0 ∙ ap (old m) same.1 ∙ w.1), omega (arith, few))
    by false h = (w.0, extends m a ∙ ap (λ r. if r then longer (old n first) end else old m a) h ∙ w.1, w.2)

all_stay : (code : Owner → Option ℕ) (old new : Ends) (n first end : ℕ) → Extends old n first end new → (fs : List Filled) → AreWithin code old fs → AreWithin code new fs
all_stay code old new n first end extends [] all = tt
all_stay code old new n first end extends (f ∷ fs) all = (
  record { number = all.0.number; is = all.0.is; within = stays old new n first end extends all.0.number f.first (f.first + f.many) all.0.within },
  all_stay code old new n first end extends fs all.1,
)

new_within : (old new : Ends) (n first end : ℕ) → Extends old n first end new → IsWithin new n first end
new_within old new n first end extends = by (old n first) refl
  where
    same : (nat_eq n n && nat_eq first first) ≡ true
    same = grind arith

    here : new n first ≡ longer (old n first) end
    here = extends n first ∙ ap (λ r. if r then longer (old n first) end else old n first) same

    by : (o : Option ℕ) → old n first ≡ o → IsWithin new n first end
    by None e = (end, here ∙ ap (λ o. longer o end) e, omega arith)
    by (Some d) e = (max d end, here ∙ ap (λ o. longer o end) e, omega arith)

pub noted : (code : Owner → Option ℕ) (old new : Ends) (f : Filled) (fs : List Filled) (n : ℕ) → code f.owner ≡ Some n → Notes code old fs → IsClear old n f.first (f.first + f.many) →
    Extends old n f.first (f.first + f.many) new → Notes code new (f ∷ fs)
noted code old new f fs n is notes clear extends = record {
  within = (record { number = n; is = is; within = new_within old new n first end extends }, all_stay code old new n first end extends fs notes.within);
  known = λ m a e at. known m a e (from m a e at);
  apart = λ m a b d e one two l. apart m a b d e (from m a d one) (from m b e two) l;
  forward = λ m a e at. forward m a e (from m a e at);
}
  where
    first : ℕ
    first = f.first

    end : ℕ
    end = f.first + f.many

    from : (m a e : ℕ) → new m a ≡ Some e → Comes old n first end m a e
    from = comes old new n first end extends

    known : (m a e : ℕ) → Comes old n first end m a e → list_any (is_range code m a e) (f ∷ fs) ≡ true
    known m a e (Before at) = ap (λ r. is_range code m a e f || r) (notes.known m a e at) ∙ or_true (is_range code m a e f)
    known m a e (Anew one two three) =
        ap (λ r. r || list_any (is_range code m a e) fs)
        (ap (λ o. is_some_and (λ k. nat_eq k m) o && (nat_eq f.first a && nat_eq (f.first + f.many) e)) is ∙ itself n m f.first a (f.first + f.many) e one two (sym three))
      where
        itself : (x y z w u v : ℕ) → x ≡ y → z ≡ w → u ≡ v → (nat_eq x y && (nat_eq z w && nat_eq u v)) ≡ true
        itself x y z w u v i j k = grind (arith, i, j, k)

    apart : (m a b d e : ℕ) → Comes old n first end m a d → Comes old n first end m b e → a < b → d ≤ b
    apart m a b d e (Before one) (Before two) l = notes.apart m a b d e one two l
    apart m a b d e (Before one) (Anew i j k) l = let h = clear a d (ap (λ x. old x a) i ∙ one) (omega (arith, j, l)) in omega (arith, h, j)
    apart m a b d e (Anew i j k) (Before two) l = by (nat_lt b end) refl
      where
        by : (r : Bool) → nat_lt b end ≡ r → d ≤ b
        by true h = let p = clear b e (ap (λ x. old x b) i ∙ two) (grind (arith, h)) in let q = notes.forward m b e two in absurd (omega (arith, p, q, j, l))
        by false h = let p : end ≤ b = grind (arith, h) in omega (arith, p, k)
    apart m a b d e (Anew i j k) (Anew x y z) l = absurd (omega (arith, j, y, l))

    forward : (m a e : ℕ) → Comes old n first end m a e → a ≤ e
    forward m a e (Before at) = notes.forward m a e at
    forward m a e (Anew i j k) = omega (arith, j, k)

pub at_range : (P : ℕ → ℕ → Type 0) (f : Filled) (first many : ℕ) → f.first ≡ first → f.many ≡ many → P first (first + many) → P f.first (f.first + f.many)
at_range P f first many one two p = subst (λ a. P a (a + f.many)) (sym one) (subst (λ m. P first (first + m)) (sym two) p)

-- ---- the order of ranges, and numbers that come ----

within_both : (code : Owner → Option ℕ) (ends : Ends) (fs gs : List Filled) → AreWithin code ends fs → AreWithin code ends gs → AreWithin code ends (fs ++ gs)
within_both code ends [] gs all others = others
within_both code ends (f ∷ fs) gs all others = (all.0, within_both code ends fs gs all.1 others)

any_last : (p : Filled → Bool) (f : Filled) (fs : List Filled) → list_any p (fs ++ f ∷ []) ≡ list_any p (f ∷ fs)
any_last p f [] = refl
any_last p f (g ∷ fs) = ap (λ r. p g || r) (any_last p f fs) ∙ turned (p g) (p f) (list_any p fs)
  where
    turned : (a b c : Bool) → (a || (b || c)) ≡ (b || (a || c))
    turned true true c = refl
    turned true false c = refl
    turned false b c = refl

-- what stands in front may stand behind
pub notes_last : (code : Owner → Option ℕ) (ends : Ends) (f : Filled) (fs : List Filled) → Notes code ends (f ∷ fs) → Notes code ends (fs ++ f ∷ [])
notes_last code ends f fs notes = record {
  within = within_both code ends fs (f ∷ []) notes.within.1 (notes.within.0, tt);
  known = λ n a e is. any_last (is_range code n a e) f fs ∙ notes.known n a e is;
  apart = notes.apart;
  forward = notes.forward;
}

pub any_behind : (g f : Filled) (fs : List Filled) → list_any (meet g) (fs ++ f ∷ []) ≡ list_any (meet g) (f ∷ fs)
any_behind g f fs = any_last (meet g) f fs

within_later : (code later : Owner → Option ℕ) (ends : Ends) → ((o : Owner) (n : ℕ) → code o ≡ Some n → later o ≡ Some n) → (fs : List Filled) → AreWithin code ends fs → AreWithin later ends fs
within_later code later ends more [] all = tt
within_later code later ends more (f ∷ fs) all =
    (record { number = all.0.number; is = more f.owner all.0.number all.0.is; within = all.0.within }, within_later code later ends more fs all.1)

pub notes_later : (code later : Owner → Option ℕ) (ends : Ends) (fs : List Filled) → ((o : Owner) (n : ℕ) → code o ≡ Some n → later o ≡ Some n) → Notes code ends fs → Notes later ends fs
notes_later code later ends fs more notes = record {
  within = within_later code later ends more fs notes.within;
  known = λ n a e is. any_more (is_range code n a e) (is_range later n a e) (each n a e) fs (notes.known n a e is);
  apart = notes.apart;
  forward = notes.forward;
}
  where
    each : (n a e : ℕ) (g : Filled) → is_range code n a e g ≡ true → is_range later n a e g ≡ true
    each n a e g range =
        let r : Bool = nat_eq g.first a && nat_eq (g.first + g.many) e in
        let at = ranged n (code g.owner) r range in
        ap (λ o. is_some_and (λ m. nat_eq m n) o && r) (more g.owner at.0 at.1) ∙ at.2

-- ---- an end that comes in memory ----

pub exact_end : (first many end : ℕ) → end ≡ min (first + many) 18446744073709551615 → first + many < 18446744073709551616 → end ≡ first + many
exact_end first many end is low = omega (arith, is, low)

pub comes_new : (m new : BTreeMap (ℕ × ℕ) ℕ) (n first end : ℕ) → is_some_and (λ e. not (nat_lt e end)) (ends_of m n first) ≡ false →
    ((q : ℕ × ℕ) → get by_both new q ≡ cond (is_eq (by_both (n, first) q)) (Some end) (get by_both m q)) → Extends (ends_of m) n first end (ends_of new)
comes_new m new n first end nearer updates = λ k a.
    updates (k, a) ∙ ap (λ r. cond r (Some end) (ends_of m k a)) (both_same n first k a) ∙ ap (λ o. if nat_eq n k && nat_eq first a then o else ends_of m k a) (most (ends_of m n first) nearer)
  where
    most : (o : Option ℕ) → is_some_and (λ e. not (nat_lt e end)) o ≡ false → Some end ≡ longer o end
    most None h = refl
    most (Some d) h = ap Some (grind (arith, h))
