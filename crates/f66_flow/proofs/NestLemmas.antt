-- DO ranges that are nested: the innermost one around a place speaks for all.
use Rattle.std.proofs.Common.{◌≡◌, ◌+◌, ◌<◌, ◌≤◌, ℕ, zero, suc, Bool, true, false, Option, Some, None, List, [], ◌∷◌, length, refl, ap, ◌∙◌, sym, arith, take, get_or, ◌||◌, ◌&&◌, option_map, cond, below_more}
use Rattle.std.specs.Prelude.{nat_le, nat_lt, not}
use Rattle.std.specs.Option.{option_or}
use Rattle.std.proofs.lemmas.List.{get_or-take, length-take}
use Rattle.std.proofs.lemmas.Bool.Decides.{nat_tests}
use Rattle.rule_table.specs.Words.{last_place}
use Rattle.rule_table.proofs.WordLemmas.{and_left, and_right}
use Rattle.f66_flow.specs.Ranges.{end_at, holds, some_below}
use Rattle.f66_flow.specs.Innermost.{innermost, IsNested}

-- Tests

or_true : (a : Bool) → (a || true) ≡ true
or_true true = refl
or_true false = refl

pub or_left : (a b : Bool) → (a || b) ≡ false → a ≡ false
or_left true b e = e
or_left false b e = refl

pub or_right : (a b : Bool) → (a || b) ≡ false → b ≡ false
or_right true b e = absurd (cc)
or_right false b e = e

and_false : (a b : Bool) → (a ≡ true → b ≡ false) → (a && b) ≡ false
and_false true b h = h refl
and_false false b h = refl

pub and_true : (a b : Bool) → a ≡ true → (a && b) ≡ false → b ≡ false
and_true true b e h = h
and_true false b e h = absurd (cc)

lt_true : (a b : ℕ) → a < b → nat_lt a b ≡ true
lt_true a b h = grind (arith, nat_tests)

true_lt : (a b : ℕ) → nat_lt a b ≡ true → a < b
true_lt a b h = grind (arith, nat_tests)

le_true : (a b : ℕ) → a ≤ b → nat_le a b ≡ true
le_true a b h = grind (arith, nat_tests)

true_le : (a b : ℕ) → nat_le a b ≡ true → a ≤ b
true_le a b h = grind (arith, nat_tests)

lt_false : (a b : ℕ) → b ≤ a → nat_lt a b ≡ false
lt_false a b h = grind (arith, nat_tests)

pub false_lt : (a b : ℕ) → nat_lt a b ≡ false → b ≤ a
false_lt a b h = grind (arith, nat_tests)

le_zero : (a b : ℕ) → b < a → nat_le a 0 ≡ false
le_zero a b h = grind (arith, nat_tests)

-- Some number below n passes

pub found_below : (n d : ℕ) (test : ℕ → Bool) → d < n → test d ≡ true → some_below n test ≡ true
found_below zero d test h e = absurd (omega arith)
found_below (suc n) d test h e =
    below_more (λ k. test k ≡ true → (test n || some_below n test) ≡ true) n
    (λ k l t. ap (λ b. test n || b) (found_below n k test l t) ∙ or_true (test n))
    (λ t. ap (λ b. b || some_below n test) t) d (omega arith) e

pub none_below : (n : ℕ) (test : ℕ → Bool) → ((d : ℕ) → d < n → test d ≡ false) → some_below n test ≡ false
none_below zero test none = refl
none_below (suc n) test none = ap (λ b. b || some_below n test) (none n (omega arith)) ∙ none_below n test (λ d l. none d (omega arith))

pub each_below : (n d : ℕ) (test : ℕ → Bool) → some_below n test ≡ false → d < n → test d ≡ false
each_below zero d test e h = absurd (omega arith)
each_below (suc n) d test e h =
    below_more (λ k. test k ≡ false) n
    (λ k l. each_below n k test (or_right (test n) (some_below n test) e) l)
    (or_left (test n) (some_below n test) e) d (omega arith)

-- The last place of a list of numbers that passes, where 0 does not pass

abbrev later_or : Option ℕ → Bool → Option ℕ
later_or o b = option_or (option_map (λ n. n + 1) o) (cond b (Some 0) None)

no_parts : (o : Option ℕ) (b : Bool) → later_or o b ≡ None → (o ≡ None) × (b ≡ false)
no_parts None true e = absurd (cc)
no_parts None false e = (refl, refl)
no_parts (Some n) b e = absurd (cc)

zero_parts : (o : Option ℕ) (b : Bool) → later_or o b ≡ Some 0 → (o ≡ None) × (b ≡ true)
zero_parts None true e = (refl, refl)
zero_parts None false e = absurd (cc)
zero_parts (Some n) b e = absurd (let same : n + 1 ≡ 0 = cc in omega arith)

suc_part : (o : Option ℕ) (b : Bool) (d : ℕ) → later_or o b ≡ Some (suc d) → o ≡ Some d
suc_part None true d e = absurd (let same : 0 ≡ suc d = cc in omega arith)
suc_part None false d e = absurd (cc)
suc_part (Some n) b d e = let same : n + 1 ≡ suc d = cc in let equal : n ≡ d = omega arith in ap (λ k. Some k) equal

last-none : (test : ℕ → Bool) (xs : List ℕ) (j : ℕ) → test 0 ≡ false → last_place test xs ≡ None → test (get_or xs j 0) ≡ false
last-none test [] j z e = z
last-none test (x ∷ xs) zero z e = (no_parts (last_place test xs) (test x) e).1
last-none test (x ∷ xs) (suc j) z e = last-none test xs j z (no_parts (last_place test xs) (test x) e).0

last-here : (test : ℕ → Bool) (xs : List ℕ) (d : ℕ) → last_place test xs ≡ Some d → (d < length xs) × (test (get_or xs d 0) ≡ true)
last-here test [] d e = absurd (cc)
last-here test (x ∷ xs) zero e = (omega arith, (zero_parts (last_place test xs) (test x) e).1)
last-here test (x ∷ xs) (suc d) e =
    let rest = last-here test xs d (suc_part (last_place test xs) (test x) d e) in
    (let within : d < length xs = rest.0 in omega arith, rest.1)

last-later : (test : ℕ → Bool) (xs : List ℕ) (d j : ℕ) → test 0 ≡ false → last_place test xs ≡ Some d → d < j → test (get_or xs j 0) ≡ false
last-later test [] d j z e l = z
last-later test (x ∷ xs) d zero z e l = absurd (omega arith)
last-later test (x ∷ xs) zero (suc j) z e l = last-none test xs j z (zero_parts (last_place test xs) (test x) e).0
last-later test (x ∷ xs) (suc d) (suc j) z e l = last-later test xs d j z (suc_part (last_place test xs) (test x) d e) (omega arith)

-- The innermost range around a place

pub held_parts : (ends : List ℕ) (d p : ℕ) → holds ends d p ≡ true → (d < p) × (p ≤ end_at ends d)
held_parts ends d p h =
    (true_lt d p (and_left (nat_lt d p) (nat_le p (end_at ends d)) h), true_le p (end_at ends d) (and_right (nat_lt d p) (nat_le p (end_at ends d)) h))

pub held_before : (ends : List ℕ) (d p : ℕ) → holds ends d p ≡ true → d < p
held_before ends d p h = (held_parts ends d p h).0

pub held_by : (ends : List ℕ) (d p : ℕ) → d < p → p ≤ end_at ends d → holds ends d p ≡ true
held_by ends d p l h = ap (λ b. b && nat_le p (end_at ends d)) (lt_true d p l) ∙ le_true p (end_at ends d) h

innermost-none : (ends : List ℕ) (t j : ℕ) → innermost ends t ≡ None → holds ends j t ≡ false
innermost-none ends t j e =
    and_false (nat_lt j t) (nat_le t (end_at ends j)) (λ h.
    let before : j < t = true_lt j t h in
    ap (λ n. nat_le t n) (sym (get_or-take t ends j 0 before)) ∙ last-none (λ end. nat_le t end) (take t ends) j (le_zero t j before) e)

innermost-here : (ends : List ℕ) (t d : ℕ) → innermost ends t ≡ Some d → holds ends d t ≡ true
innermost-here ends t d e =
    let last = last-here (λ end. nat_le t end) (take t ends) d e in
    let within : d < length (take t ends) = last.0 in
    let before : d < t = omega (arith, length-take t ends) in
    ap (λ b. b && nat_le t (end_at ends d)) (lt_true d t before) ∙ ap (λ n. nat_le t n) (sym (get_or-take t ends d 0 before)) ∙ last.1

innermost-later : (ends : List ℕ) (t d j : ℕ) → innermost ends t ≡ Some d → d < j → holds ends j t ≡ false
innermost-later ends t d j e l =
    and_false (nat_lt j t) (nat_le t (end_at ends j)) (λ h.
    let before : j < t = true_lt j t h in
    ap (λ n. nat_le t n) (sym (get_or-take t ends j 0 before)) ∙ last-later (λ end. nat_le t end) (take t ends) d j (le_zero t j before) e l)

-- a range around t begins no later than the innermost one, and ends no earlier
no_later : (ends : List ℕ) (t d k : ℕ) → innermost ends t ≡ Some d → holds ends k t ≡ true → k ≤ d
no_later ends t d k e held =
    let past : ¬ (d < k) = λ l. absurd (let no = innermost-later ends t d k e l in cc) in
    omega arith

no_earlier_end : (ends : List ℕ) (i t d k : ℕ) → innermost ends t ≡ Some d → d < i → IsNested ends i → holds ends k t ≡ true → end_at ends d ≤ end_at ends k
no_earlier_end ends i t d k e l nested held =
    let after : d < t = (held_parts ends d t (innermost-here ends t d e)).0 in
    below_more (λ j. holds ends j t ≡ true → end_at ends d ≤ end_at ends j) d
    (λ j b h. let ends_later : t ≤ end_at ends j = (held_parts ends j t h).1 in nested.within d j l (held_by ends j d b (omega arith)))
    (λ h. omega arith) k (let begins : k ≤ d = no_later ends t d k e held in omega arith) held

-- The rules by the innermost range alone

pub overlap_none : (ends : List ℕ) (i n : ℕ) → innermost ends i ≡ None → some_below i (λ d. holds ends d i && nat_lt (end_at ends d) n) ≡ false
overlap_none ends i n e = none_below i (λ d. holds ends d i && nat_lt (end_at ends d) n) (λ d l. ap (λ b. b && nat_lt (end_at ends d) n) (innermost-none ends i d e))

overlap_by : (ends : List ℕ) (i n d : ℕ) (b : Bool) → nat_lt (end_at ends d) n ≡ b → innermost ends i ≡ Some d → IsNested ends i →
    some_below i (λ k. holds ends k i && nat_lt (end_at ends k) n) ≡ b
overlap_by ends i n d true is e nested =
    let here = innermost-here ends i d e in
    found_below i d (λ k. holds ends k i && nat_lt (end_at ends k) n) (held_parts ends d i here).0 (ap (λ b. b && nat_lt (end_at ends d) n) here ∙ is)
overlap_by ends i n d false is e nested =
    none_below i (λ k. holds ends k i && nat_lt (end_at ends k) n) (λ k l.
    and_false (holds ends k i) (nat_lt (end_at ends k) n) (λ held.
    let after : d < i = (held_parts ends d i (innermost-here ends i d e)).0 in
    let less : end_at ends d ≤ end_at ends k = no_earlier_end ends i i d k e after nested held in
    let enough : n ≤ end_at ends d = false_lt (end_at ends d) n is in
    lt_false (end_at ends k) n (omega arith)))

pub overlap_some : (ends : List ℕ) (i n d : ℕ) → innermost ends i ≡ Some d → IsNested ends i →
    some_below i (λ k. holds ends k i && nat_lt (end_at ends k) n) ≡ nat_lt (end_at ends d) n
overlap_some ends i n d e nested = overlap_by ends i n d (nat_lt (end_at ends d) n) refl e nested

pub enter_none : (ends : List ℕ) (i t : ℕ) → innermost ends t ≡ None → some_below t (λ d. holds ends d t && not (holds ends d i)) ≡ false
enter_none ends i t e = none_below t (λ d. holds ends d t && not (holds ends d i)) (λ d l. ap (λ b. b && not (holds ends d i)) (innermost-none ends t d e))

enter_by : (ends : List ℕ) (i t d : ℕ) (b : Bool) → holds ends d i ≡ b → innermost ends t ≡ Some d → IsNested ends i →
    some_below t (λ k. holds ends k t && not (holds ends k i)) ≡ not b
enter_by ends i t d false is e nested =
    let here = innermost-here ends t d e in
    found_below t d (λ k. holds ends k t && not (holds ends k i)) (held_parts ends d t here).0
    (ap (λ b. b && not (holds ends d i)) here ∙ ap not is)
enter_by ends i t d true is e nested =
    none_below t (λ k. holds ends k t && not (holds ends k i)) (λ k l.
    and_false (holds ends k t) (not (holds ends k i)) (λ held.
    let around = held_parts ends d i is in
    let after : d < i = around.0 in
    let inside : i ≤ end_at ends d = around.1 in
    let begins : k ≤ d = no_later ends t d k e held in
    let less : end_at ends d ≤ end_at ends k = no_earlier_end ends i t d k e after nested held in
    ap not (held_by ends k i (omega arith) (omega arith))))

pub enter_some : (ends : List ℕ) (i t d : ℕ) → innermost ends t ≡ Some d → IsNested ends i →
    some_below t (λ k. holds ends k t && not (holds ends k i)) ≡ not (holds ends d i)
enter_some ends i t d e nested = enter_by ends i t d (holds ends d i) refl e nested
