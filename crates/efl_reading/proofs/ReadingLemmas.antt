-- The first fault of parts, as parts come one by one.
use Rattle.std.proofs.Common.{◌≡◌, ◌<◌, ℕ, ◌+◌, nat_eq, nat_le, nat_lt, Bool, true, false, ◌&&◌, ◌||◌, cond, List, [], ◌∷◌, ◌++◌, map, sum, flat_map, Option, Some, None, option_map, find, is_some, unwrap_or, refl, sym, ap, subst, ◌∙◌, append_assoc, arith, if◌then◌else◌, rules as std_rules}
use Rattle.std.specs.List.{slice_get}
use Rattle.std.specs.Option.{option_or}
use Rattle.std.proofs.lemmas.List.{append-nil}
use Rattle.std.proofs.lemmas.List.Sums.{sum-map, sum_by_push}
use Rattle.std.proofs.lemmas.Grind.{flat_map-append}
use Rattle.ground.specs.declared.fault.Fault.{Fault}
use Rattle.ground.specs.declared.place.Place.{Place}
use Rattle.rule_table.specs.Words.{find_map}
use Rattle.rule_table.proofs.FirstLemmas.{IsAbove, IsRising}
use Rattle.rule_table.proofs.WordLemmas.{find_map-push}
use Rattle.efl_tree.specs.Syntax.{EflProcedure}
use Rattle.efl_scope.specs.Parts.{Part}
use Rattle.efl_scope.specs.FirstFault.{with_earlier}
use Rattle.efl_scope.proofs.WalkLemmas.{mapped}
use Rattle.efl_types.specs.declared.rule.TypeRule.{TypeRule}
use Rattle.efl_types.specs.declared.rule.TypeRule.TheVariants.{OutOfProfileType, TypeClash, WrongCount, DuplicateCase, BadConstant, MissingUnit, BadFormat, NotAssignable, InitialTwice, LargeVariable, ManyValues}
use Rattle.efl_types.specs.Presets.{many_values, filled, meets_earlier}
use Rattle.efl_types.specs.Expressions.{when}
use Rattle.efl_types.specs.TypeRules.{rule_number, type_rules, names_of, part_faults, presets_of, part_fills, part_values, passes_limit, tells, broken_rules, breaks_with, fault_of, first_in}
use Rattle.efl_scoped.specs.Seen.{table_of}
use Rattle.efl_scoped.specs.Told.{capped}
use Rattle.efl_expressions.specs.FirstRule.{or_lower, first_rule}
use Rattle.efl_initial_values.specs.Fills.{ends_of, Notes}
use Rattle.efl_initial_values.specs.Owners.{owner_code}
use Rattle.efl_reading.specs.declared.progress.Progress.{Progress}
use Rattle.efl_reading.specs.Reading.{fault_at, Behind}

-- ---- the first rule of the table is the one with the smallest number ----

rise : IsRising rule_number type_rules
rise = search (std_rules, arith)

less_le : (n m : ℕ) → n < m → nat_le n m ≡ true
less_le n m less = grind (arith, less)

less_not : (n m : ℕ) → n < m → nat_le m n ≡ false
less_not n m less = grind (arith, less)

-- what stands behind a rule is larger
before : (x : TypeRule) (b : TypeRule → Bool) (xs : List TypeRule) → IsAbove rule_number (rule_number x) xs → or_lower (Some x) (find b xs) ≡ Some x
before x b [] above = refl
before x b (y ∷ ys) above = each (b y) (before x b ys above.1)
  where
    each : (s : Bool) → or_lower (Some x) (find b ys) ≡ Some x → or_lower (Some x) (cond s (Some y) (find b ys)) ≡ Some x
    each true rest = ap (λ l. if l then Some x else Some y) (less_le (rule_number x) (rule_number y) above.0)
    each false rest = rest

behind : (x : TypeRule) (b : TypeRule → Bool) (xs : List TypeRule) → IsAbove rule_number (rule_number x) xs → or_lower (find b xs) (Some x) ≡ Some x
behind x b [] above = refl
behind x b (y ∷ ys) above = each (b y) (behind x b ys above.1)
  where
    each : (s : Bool) → or_lower (find b ys) (Some x) ≡ Some x → or_lower (cond s (Some y) (find b ys)) (Some x) ≡ Some x
    each true rest = ap (λ l. if l then Some y else Some x) (less_not (rule_number x) (rule_number y) above.0)
    each false rest = rest

itself : (x : TypeRule) → or_lower (Some x) (Some x) ≡ Some x
itself x = each (nat_le (rule_number x) (rule_number x))
  where
    each : (l : Bool) → (if l then Some x else Some x) ≡ Some x
    each true = refl
    each false = refl

find_either : (b c : TypeRule → Bool) (xs : List TypeRule) → IsRising rule_number xs → find (λ k. b k || c k) xs ≡ or_lower (find b xs) (find c xs)
find_either b c [] up = refl
find_either b c (x ∷ xs) up = step (b x) (c x) (find_either b c xs up.1)
  where
    step : (s t : Bool) → find (λ k. b k || c k) xs ≡ or_lower (find b xs) (find c xs) →
        cond (s || t) (Some x) (find (λ k. b k || c k) xs) ≡ or_lower (cond s (Some x) (find b xs)) (cond t (Some x) (find c xs))
    step true true rest = sym (itself x)
    step true false rest = sym (before x c xs up.0)
    step false true rest = sym (behind x b xs up.0)
    step false false rest = rest

alone : (s : TypeRule) → find (λ r. nat_eq (rule_number r) (rule_number s)) type_rules ≡ Some s
alone OutOfProfileType = refl
alone TypeClash = refl
alone WrongCount = refl
alone DuplicateCase = refl
alone BadConstant = refl
alone MissingUnit = refl
alone BadFormat = refl
alone NotAssignable = refl
alone InitialTwice = refl
alone LargeVariable = refl
alone ManyValues = refl

pub first_told : (rs : List TypeRule) → find (λ r. tells r rs) type_rules ≡ first_rule rs
first_told [] = refl
first_told (s ∷ rs) =
    find_either (λ r. nat_eq (rule_number r) (rule_number s)) (λ r. tells r rs) type_rules rise
    ∙ ap (λ o. or_lower o (find (λ r. tells r rs) type_rules)) (alone s)
    ∙ ap (or_lower (Some s)) (first_told rs)

-- ---- a part more ----

earlier_push : (earlier vs : List Part) (v : Part) → with_earlier earlier (vs ++ v ∷ []) ≡ with_earlier earlier vs ++ (earlier ++ vs, v) ∷ []
earlier_push earlier [] v = ap (λ es. (es, v) ∷ []) (sym (append-nil earlier))
earlier_push earlier (w ∷ vs) v =
    ap (λ ts. (earlier, w) ∷ ts) (earlier_push (earlier ++ w ∷ []) vs v ∙ ap (λ es. with_earlier (earlier ++ w ∷ []) vs ++ (es, v) ∷ []) (append_assoc earlier (w ∷ []) vs))

fault_is : (vs : List Part) (v : Part) (o : Option TypeRule) → option_map fault_of (option_map (λ k. ((vs, v), k)) o) ≡ fault_at v.place o
fault_is vs v None = refl
fault_is vs v (Some r) = refl

-- a fault that is there stays, and else the part tells it by the first rule that it breaks
pub first_more : (us : List EflProcedure) (vs : List Part) (v : Part) → first_in us (vs ++ v ∷ []) ≡ option_or (first_in us vs) (fault_at v.place (first_rule (broken_rules us vs v)))
first_more us vs v =
    let look : (List Part × Part) → Option ((List Part × Part) × TypeRule) = λ t. option_map (λ k. (t, k)) (find (breaks_with us t) type_rules) in
    ap (λ ts. option_map fault_of (find_map look ts)) (earlier_push [] vs v)
    ∙ ap (option_map fault_of) (find_map-push look (with_earlier [] vs) (vs, v))
    ∙ mapped fault_of (find_map look (with_earlier [] vs)) (look (vs, v))
    ∙ ap (option_or (first_in us vs)) (fault_is vs v (find (breaks_with us (vs, v)) type_rules) ∙ ap (fault_at v.place) (first_told (broken_rules us vs v)))

pub first_stays : (us : List EflProcedure) (vs ws : List Part) (f : Fault) → first_in us vs ≡ Some f → first_in us (vs ++ ws) ≡ Some f
first_stays us vs [] f is = ap (first_in us) (append-nil vs) ∙ is
first_stays us vs (w ∷ ws) f is =
    ap (first_in us) (sym (append_assoc vs (w ∷ []) ws))
    ∙ first_stays us (vs ++ w ∷ []) ws f (first_more us vs w ∙ ap (λ o. option_or o (fault_at w.place (first_rule (broken_rules us vs w)))) is)

-- where a fault is there, nothing changes any more
pub behind_done : (us : List EflProcedure) (vs ws : List Part) (p : Progress) → is_some p.fault ≡ true → Behind us vs p → Behind us (vs ++ ws) p
behind_done us vs ws p done known = each p.fault refl done
  where
    each : (o : Option Fault) → p.fault ≡ o → is_some o ≡ true → Behind us (vs ++ ws) p
    each None is some = absurd (let e : false ≡ true = some in cc)
    each (Some f) is some = record {
      tells = is ∙ sym (first_stays us vs ws f (sym known.tells ∙ is));
      filled = λ none. absurd (let e : Some f ≡ None = sym is ∙ none in cc);
      counted = λ none. absurd (let e : Some f ≡ None = sym is ∙ none in cc);
    }

-- ---- a part without initial values ----

no_fills : (us : List EflProcedure) (v : Part) → presets_of v.form ≡ [] → part_fills us v ≡ []
no_fills us v none = each (slice_get us v.around.unit)
  where
    each : (o : Option EflProcedure) → unwrap_or (option_map (λ u. flat_map (filled v.around.unit u (names_of us u v)) (presets_of v.form)) o) [] ≡ []
    each None = refl
    each (Some u) = ap (flat_map (filled v.around.unit u (names_of us u v))) none

no_values : (v : Part) → presets_of v.form ≡ [] → part_values v ≡ 0
no_values v none = ap (λ ps. sum (map many_values ps)) none

own_rules : (us : List EflProcedure) (vs : List Part) (v : Part) → presets_of v.form ≡ [] → broken_rules us vs v ≡ part_faults us v
own_rules us vs v none =
    ap (λ fs. part_faults us v ++ when (meets_earlier (flat_map (part_fills us) vs) fs) InitialTwice ++ when (passes_limit vs v) ManyValues) (no_fills us v none)
    ∙ ap (λ n. part_faults us v ++ [] ++ when (nat_lt 0 n && nat_lt 32767 (sum (map part_values vs) + n)) ManyValues) (no_values v none)
    ∙ append-nil (part_faults us v ++ []) ∙ append-nil (part_faults us v)

fills_same : (us : List EflProcedure) (vs : List Part) (v : Part) → presets_of v.form ≡ [] → flat_map (part_fills us) (vs ++ v ∷ []) ≡ flat_map (part_fills us) vs
fills_same us vs v none =
    flat_map-append (part_fills us) vs (v ∷ []) ∙ ap (λ fs. flat_map (part_fills us) vs ++ (fs ++ [])) (no_fills us v none) ∙ append-nil (flat_map (part_fills us) vs)

pub sum_more : (vs : List Part) (v : Part) → sum (map part_values (vs ++ v ∷ [])) ≡ sum (map part_values vs) + part_values v
sum_more vs v = sum-map part_values (vs ++ v ∷ []) ∙ sum_by_push part_values vs v ∙ ap (λ n. n + part_values v) (sym (sum-map part_values vs))

values_same : (vs : List Part) (v : Part) → presets_of v.form ≡ [] → sum (map part_values (vs ++ v ∷ [])) ≡ sum (map part_values vs)
values_same vs v none = sum_more vs v ∙ ap (λ n. sum (map part_values vs) + n) (no_values v none) ∙ nothing (sum (map part_values vs))
  where
    nothing : (n : ℕ) → n + 0 ≡ n
    nothing n = omega arith

pub no_fault : (o : Option Fault) → is_some o ≡ false → o ≡ None
no_fault None e = refl
no_fault (Some f) e = absurd (let d : true ≡ false = e in cc)

pub part_noted : (us : List EflProcedure) (vs : List Part) (v : Part) (place : Place) (rule : Option TypeRule) (p q : Progress) → is_some p.fault ≡ false → q.fault ≡ fault_at place rule → q.fills.ends ≡ p.fills.ends →
    q.owners ≡ p.owners → q.values ≡ p.values → Behind us vs p → v.place ≡ place → presets_of v.form ≡ [] → rule ≡ first_rule (part_faults us v) → Behind us (vs ++ v ∷ []) q
part_noted us vs v place rule p q none fault fills owners values known at plain is = record {
  tells = fault ∙ ap (λ x. fault_at x rule) (sym at) ∙ ap (fault_at v.place) (is ∙ sym (ap first_rule (own_rules us vs v plain)))
      ∙ sym (first_more us vs v ∙ ap (λ o. option_or o (fault_at v.place (first_rule (broken_rules us vs v)))) (sym known.tells ∙ no_fault p.fault none));
  filled = λ still. subst (λ fs. Notes (owner_code (table_of q.owners)) (ends_of q.fills.ends) fs) (sym (fills_same us vs v plain))
      (subst (λ o. Notes (owner_code (table_of o)) (ends_of q.fills.ends) (flat_map (part_fills us) vs)) (sym owners)
      (subst (λ e. Notes (owner_code (table_of p.owners)) (ends_of e) (flat_map (part_fills us) vs)) (sym fills) (known.filled (no_fault p.fault none))));
  counted = λ still. values ∙ known.counted (no_fault p.fault none) ∙ ap capped (sym (values_same vs v plain));
}
