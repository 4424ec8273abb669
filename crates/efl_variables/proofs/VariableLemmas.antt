-- What is known of variables one behind the other, and of one more.
use Rattle.std.proofs.Common.{◌≡◌, ℕ, suc, ◌+◌, ◌==◌, length, not, nat_eq, Bool, true, false, ◌&&◌, cond, List, [], ◌∷◌, ◌++◌, Option, Some, None, is_some, option_map, if◌then◌else◌, refl, sym, ap, subst, ◌∙◌}
use Rattle.std.specs.Prelude.{◌||◌, Result, Ok, Err}
use Rattle.std.specs.HashMap.{get}
use Rattle.std.specs.Option.{option_or}
use Rattle.std.specs.Result.{IfOk, OnOk}
use Rattle.std.specs.List.{list_all, list_any, AllZip}
use Rattle.std.proofs.lemmas.Bool.Decides.{Decides-eqb, same_from_decides}
use Rattle.std.proofs.lemmas.List.Folds.{list_all-append}
use Rattle.rule_table.specs.Words.{first_place, is_number}
use Rattle.rule_table.proofs.WordLemmas.{first_place-push}
use Rattle.efl_scope.specs.Marks.{Located, same_located}
use Rattle.efl_scoped.specs.Numbers.{Table, Grows, AreDistinct, AreAbove}
use Rattle.efl_scoped.specs.Seen.{table_of}
use Rattle.efl_scoped.proofs.DecodeLemmas.{some_of}
use Rattle.efl_scoped.proofs.MemberLemmas.{both_left, both_right}
use Rattle.efl_variables.specs.declared.variables.Variable as memory
use Rattle.efl_variables.specs.declared.variables.Variables.{Variables}
use Rattle.efl_variables.specs.Keys.{pair, list_number, key}
use Rattle.efl_variables.specs.Numbered.{AreVariables, IsListed, with_one}
use Rattle.efl_variables.proofs.KeyLemmas.{list_grows, key_kept, key_same, key_once, both}

-- all of these have numbers
abbrev pub AreNumbered : Table → List Located → Type 0
AreNumbered f xs = list_all (λ x. is_some (key f x)) xs ≡ true

-- the place of the one that has this number
abbrev pub place_of : Table → List Located → ℕ → Option ℕ
place_of f xs n = first_place (λ x. is_number n (key f x)) xs

abbrev or_later : Bool → Option ℕ → Option ℕ
or_later b o = cond b (Some 0) (option_map (λ n. n + 1) o)

here_numbered : (f : Table) (x : Located) (xs : List Located) → AreNumbered f (x ∷ xs) → is_some (key f x) ≡ true
here_numbered f x xs are = both_left (is_some (key f x)) (list_all (λ y. is_some (key f y)) xs) are

rest_numbered : (f : Table) (x : Located) (xs : List Located) → AreNumbered f (x ∷ xs) → AreNumbered f xs
rest_numbered f x xs are = both_right (is_some (key f x)) (list_all (λ y. is_some (key f y)) xs) are

-- ---- more pairs get numbers ----

pub numbers_kept : (f g : Table) → Grows f g → (xs : List Located) → AreNumbered f xs → AreNumbered g xs
numbers_kept f g grows [] are = refl
numbers_kept f g grows (x ∷ xs) are =
    both (is_some (key g x)) (list_all (λ y. is_some (key g y)) xs) (ap is_some (key_kept f g grows x (here_numbered f x xs are)) ∙ here_numbered f x xs are)
    (numbers_kept f g grows xs (rest_numbered f x xs are))

pub places_kept : (f g : Table) → Grows f g → (xs : List Located) → AreNumbered f xs → (n : ℕ) → place_of f xs n ≡ place_of g xs n
places_kept f g grows [] are n = refl
places_kept f g grows (x ∷ xs) are n =
    ap (λ o. or_later (is_number n o) (place_of f xs n)) (sym (key_kept f g grows x (here_numbered f x xs are)))
    ∙ ap (or_later (is_number n (key g x))) (places_kept f g grows xs (rest_numbered f x xs are) n)

pub listed_kept : (f g : Table) → Grows f g → (xs : List Located) (vs : List memory.Variable) → AllZip (IsListed f) xs vs → AllZip (IsListed g) xs vs
listed_kept f g grows [] [] are = tt
listed_kept f g grows [] (v ∷ vs) are = absurd are
listed_kept f g grows (x ∷ xs) [] are = absurd are
listed_kept f g grows (x ∷ xs) (v ∷ vs) are = (
  record { unit = are.0.unit; home = list_grows f g grows x.variable.home v.home are.0.home; name = are.0.name; kind = are.0.kind },
  listed_kept f g grows xs vs are.1,
)

-- ---- by its number a variable is found ----

module _ (f : Table) (pairs_distinct : AreDistinct f) (above : AreAbove f) (x : Located) (k : ℕ) (is : key f x ≡ Some k) where
  number_tells : (y : Located) (o : Option ℕ) → key f y ≡ o → is_some o ≡ true → is_number k o ≡ same_located x y
  number_tells y None at some = absurd cc
  number_tells y (Some m) at some =
      same_from_decides (m == k) (same_located x y) (Decides-eqb m k)
      (λ same. some_of m k (sym at ∙ sym (key_same f x y same) ∙ is), λ e. key_once f pairs_distinct above x y k is (at ∙ ap (λ n. Some n) e))

  pub place_is : (xs : List Located) → AreNumbered f xs → place_of f xs k ≡ first_place (same_located x) xs
  place_is [] are = refl
  place_is (y ∷ ys) are =
      ap (λ b. or_later b (place_of f ys k)) (number_tells y (key f y) refl (here_numbered f y ys are))
      ∙ ap (or_later (same_located x y)) (place_is ys (rest_numbered f y ys are))

-- a variable that has no number is none of those that have
pub place_none : (f : Table) (x : Located) → key f x ≡ None → (xs : List Located) → AreNumbered f xs → None ≡ first_place (same_located x) xs
place_none f x none [] are = refl
place_none f x none (y ∷ ys) are = each (same_located x y) refl (place_none f x none ys (rest_numbered f y ys are))
  where
    each : (b : Bool) → same_located x y ≡ b → None ≡ first_place (same_located x) ys → None ≡ or_later b (first_place (same_located x) ys)
    each true same later = absurd (let e = ap is_some (sym none ∙ key_same f x y same) ∙ here_numbered f y ys are in cc)
    each false other later = ap (option_map (λ n. n + 1)) later

-- there is a place where there is one
pub any_placed : {X : Type 0} (test : X → Bool) (xs : List X) → is_some (first_place test xs) ≡ list_any test xs
any_placed test [] = refl
any_placed test (x ∷ xs) = each (test x) (first_place test xs) (any_placed test xs)
  where
    each : (b : Bool) (o : Option ℕ) → is_some o ≡ list_any test xs → is_some (or_later b o) ≡ (b || list_any test xs)
    each true o is = refl
    each false None is = is
    each false (Some n) is = is

-- ---- one variable more ----

length_listed : {X Y : Type 0} (R : X → Y → Type 0) (xs : List X) (ys : List Y) → AllZip R xs ys → length xs ≡ length ys
length_listed R [] [] are = refl
length_listed R [] (y ∷ ys) are = absurd are
length_listed R (x ∷ xs) [] are = absurd are
length_listed R (x ∷ xs) (y ∷ ys) are = ap (λ n. suc n) (length_listed R xs ys are.1)

module _ (f : Table) (xs : List Located) (x : Located) (k : ℕ) (is : key f x ≡ Some k) (are : AreNumbered f xs) where
  pub also_numbered : AreNumbered f (xs ++ x ∷ [])
  also_numbered =
      list_all-append (λ y. is_some (key f y)) xs (x ∷ []) ∙ both (list_all (λ y. is_some (key f y)) xs) (is_some (key f x) && true) are (ap (λ o. is_some o && true) is)

  pub also_listed : (vs : List memory.Variable) (v : memory.Variable) → AllZip (IsListed f) xs vs → IsListed f x v → AllZip (IsListed f) (xs ++ x ∷ []) (vs ++ v ∷ [])
  also_listed vs v before last = each xs vs before
    where
      each : (ys : List Located) (ws : List memory.Variable) → AllZip (IsListed f) ys ws → AllZip (IsListed f) (ys ++ x ∷ []) (ws ++ v ∷ [])
      each [] [] all = (last, tt)
      each [] (w ∷ ws) all = absurd all
      each (y ∷ ys) [] all = absurd all
      each (y ∷ ys) (w ∷ ws) all = (all.0, each ys ws all.1)

  -- its number is that of the last place, where it was nowhere before
  pub also_found : (seen after : ℕ → Option ℕ) (many : ℕ) → ((n : ℕ) → seen n ≡ place_of f xs n) → many ≡ length xs → place_of f xs k ≡ None →
      ((n : ℕ) → after n ≡ (if nat_eq k n then Some many else seen n)) → (n : ℕ) → after n ≡ place_of f (xs ++ x ∷ []) n
  also_found seen after many found long none comes n =
      comes n ∙ ap (λ m. if nat_eq k n then Some m else seen n) long ∙ ap (λ o. if nat_eq k n then Some (length xs) else o) (found n) ∙ each (nat_eq k n) refl
      ∙ ap (λ o. option_or (place_of f xs n) (cond (is_number n o) (Some (length xs)) None)) (sym is) ∙ sym (first_place-push (λ y. is_number n (key f y)) xs x)
    where
      kept : (o : Option ℕ) → o ≡ option_or o None
      kept None = refl
      kept (Some m) = refl

      each : (b : Bool) → nat_eq k n ≡ b → (if b then Some (length xs) else place_of f xs n) ≡ option_or (place_of f xs n) (cond b (Some (length xs)) None)
      each true same = ap (λ o. option_or o (Some (length xs))) (sym none ∙ ap (place_of f xs) ((Decides-eqb k n).0 same))
      each false other = kept (place_of f xs n)

-- ---- known variables ----

pub variables_grow : (xs : List Located) (old new : Variables) → Grows (table_of old.numbers) (table_of new.numbers) → ((n : ℕ) → get nat_eq new.seen n ≡ get nat_eq old.seen n) → new.list.items ≡ old.list.items →
    AreVariables xs old → AreVariables xs new
variables_grow xs old new grows seen list known =
    let f = table_of old.numbers in
    let g = table_of new.numbers in
    record {
      numbered = numbers_kept f g grows xs known.numbered;
      found = λ n. seen n ∙ known.found n ∙ places_kept f g grows xs known.numbered n;
      listed = subst (AllZip (IsListed g) xs) (sym list) (listed_kept f g grows xs old.list.items known.listed);
    }

pub place_numbered : {E : Type 0} (f g : Table) (step outside : ℕ) (r : Result ℕ E) → IfOk r (λ n. g step outside ≡ Some n) → OnOk r (Grows f g) →
    IfOk r (λ n. (h : List ℕ) → list_number f h ≡ Some outside → list_number g (step ∷ h) ≡ Some n)
place_numbered f g step outside (Err e) numbered grows = tt
place_numbered f g step outside (Ok n) numbered grows = λ h is. ap (pair g (Some step)) (list_grows f g grows h outside is) ∙ numbered

-- one variable more, which is a new one
pub variables_more : (xs : List Located) (x : Located) (k many : ℕ) (v : memory.Variable) (old new : Variables) → new.numbers ≡ old.numbers → key (table_of old.numbers) x ≡ Some k →
    first_place (same_located x) xs ≡ None → IsListed (table_of old.numbers) x v → many ≡ length old.list.items → ((n : ℕ) → get nat_eq new.seen n ≡ (if nat_eq k n then Some many else get nat_eq old.seen n)) →
    new.list.items ≡ old.list.items ++ v ∷ [] → AreVariables xs old → AreVariables (xs ++ x ∷ []) new
variables_more xs x k many v old new same is none its long comes list known =
    let f = table_of old.numbers in
    let all = xs ++ x ∷ [] in
    record {
      numbered = subst (λ p. AreNumbered (table_of p) all) (sym same) (also_numbered f xs x k is known.numbered);
      found =
          subst (λ p. (n : ℕ) → get nat_eq new.seen n ≡ place_of (table_of p) all n) (sym same)
          (also_found f xs x k is known.numbered (get nat_eq old.seen) (get nat_eq new.seen) many known.found
          (long ∙ sym (length_listed (IsListed f) xs old.list.items known.listed)) (place_is f old.numbers.distinct old.numbers.above x k is xs known.numbered ∙ none) comes);
      listed =
          subst (λ p. AllZip (IsListed (table_of p)) all new.list.items) (sym same)
          (subst (AllZip (IsListed f) all) (sym list) (also_listed f xs x k is known.numbered old.list.items v known.listed its));
    }

-- a variable has its number among those that were met where it is one of these
module _ (xs : List Located) (x : Located) (k : ℕ) (s : Variables) (is : key (table_of s.numbers) x ≡ Some k) where
  seen_is : AreVariables xs s → get nat_eq s.seen k ≡ first_place (same_located x) xs
  seen_is known = known.found k ∙ place_is (table_of s.numbers) s.numbers.distinct s.numbers.above x k is xs known.numbered

  there_is : (b : Bool) → is_some (get nat_eq s.seen k) ≡ b → AreVariables xs s → list_any (same_located x) xs ≡ b
  there_is b met known = sym (any_placed (same_located x) xs) ∙ sym (ap is_some (seen_is known)) ∙ met

  pub met_again : is_some (get nat_eq s.seen k) ≡ true → AreVariables xs s → AreVariables (with_one xs x) s × (false ≡ not (list_any (same_located x) xs))
  met_again met known =
      let there = sym (there_is true met known) in
      (subst (λ b. AreVariables (if b then xs else xs ++ x ∷ []) s) there known, ap not there)

  pub nowhere : is_some (get nat_eq s.seen k) ≡ false → AreVariables xs s → first_place (same_located x) xs ≡ None
  nowhere met known = sym (seen_is known) ∙ no_value (get nat_eq s.seen k) met
    where
      no_value : (o : Option ℕ) → is_some o ≡ false → o ≡ None
      no_value None none = refl
      no_value (Some n) none = absurd cc

  pub met_first : is_some (get nat_eq s.seen k) ≡ false → AreVariables xs s → (new : Variables) → AreVariables (xs ++ x ∷ []) new → AreVariables (with_one xs x) new × (true ≡ not (list_any (same_located x) xs))
  met_first met known new more =
      let there = sym (there_is false met known) in
      (subst (λ b. AreVariables (if b then xs else xs ++ x ∷ []) new) there more, ap not there)
