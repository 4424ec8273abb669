-- The places of a unit: what stands there as a variable and is no dummy has places, a function's own name has one, and the dimensions
-- of a name are positive constants, or dummies where it is one. Of a sound unit all that is asked for it holds.
use Rattle.std.proofs.Common.{◌≡◌, ◌<◌, ℕ, zero, suc, ℤ, pos, negsuc, Bool, true, false, true≢false, List, [], ◌∷◌, Option, Some, None, refl, sym, ◌∙◌, subst, arith}
use Rattle.std.specs.Prelude.{unsigned_abs, not, ◌||◌, int_le, if◌then◌else◌}
use Rattle.std.specs.List.{list_any, slice_get, flat_map}
use Rattle.std.specs.Str.{bytes_eq}
use Rattle.std.proofs.Math.Nat.{mul-pos}
use Rattle.std.proofs.lemmas.Bool.{and_parts, and_from, or_parts, or_left, or_right, not-false, not-true, not_from_false, both_ways}
use Rattle.std.proofs.lemmas.Slice.Eq.{bytes_eq-Decides}
use Rattle.rule_table.specs.declared.rule.Rule.TheVariants.{DuplicateName, NotAssignable}
use Rattle.rule_table.specs.Words.{repeats, is_some_and}
use Rattle.f66_tree.specs.Syntax.{Text, Par, Constant, Named, Declared, Area, Header, MainUnit, SubUnit, FuncUnit, DataUnit, Act, Typed, Dimension, Common, Line, Routine}
use Rattle.f66_tree.specs.Units.{Context, Note, is_note, notes_of, dummies_of, one_on, position, if_any, sizes_in, sizes_in_areas, sizes_by, sizes_of, places_of}
use Rattle.f66_tree.specs.Uses.{NamesOfPars}
use Rattle.f66_tree.proofs.Tries.{if_both}
use Rattle.f66_names.specs.Sorts as names
use Rattle.f66_names.specs.StoreRules.{is_bad_size, has_bad_size, has_bad_constant, stores_wrong}
use Rattle.f66_flow.specs.FlowRules.{header_breaks_flow, breaks_flow}
use Rattle.f66_flow.specs.declared.scope.Scope.TheVariants.{Whole}
use Rattle.f66_soundness.specs.SoundUnits.{acts_in_unit}
use Rattle.f66_soundness.proofs.KindLemmas.{none_of_both, no_some}
use Rattle.unit_rules.specs.Heads.{header_names}
use Rattle.unit_rules.specs.Listed.{common_in}
use Rattle.f66_check.specs.CheckRules as check
use Rattle.f66_check.specs.UnitChecks.{breaks_statement}
use Rattle.f66_check.specs.Answers.{IsSoundUnit}
use Rattle.f66_program.specs.Mentions.{context_of, mentioned, is_variable, is_dummy, is_own_value, has_places}
use Rattle.f66_program.specs.Association.{size_in}
use Rattle.f66_program.specs.Calls.{Call, is_called, fits_header}
use Rattle.linked_soundness.proofs.RuleLemmas.{sound_fit}
use Rattle.renumbering.specs.Placed.{IsPlaced}

-- ---- dummies ----

none_further : (o : Option ℕ) → one_on o ≡ None → o ≡ None
none_further None e = refl
none_further (Some i) e = no_some _ (sym e)

no_position : (x : Text) (ds : List Text) → position x ds ≡ None → list_any (bytes_eq x) ds ≡ false
no_position x [] e = refl
no_position x (y ∷ ds) e = by_name (bytes_eq x y) (position x ds) (no_position x ds) e
  where
    by_name : (b : Bool) (o : Option ℕ) → (o ≡ None → list_any (bytes_eq x) ds ≡ false) → (if b then Some zero else one_on o) ≡ None → (b || list_any (bytes_eq x) ds) ≡ false
    by_name true o h i = no_some _ (sym i)
    by_name false o h i = h (none_further o i)

-- a dummy stands for what it is associated with
pub not_dummy : (r : Routine) (x : Text) → position x (dummies_of r.header) ≡ None → is_dummy x r.header ≡ false
not_dummy r x e = no_position x (dummies_of r.header) e

-- ---- dimensions ----

module _ (c : Context) (x : Text) where
  abbrev AllGood : List Par → Type 0
  AllGood ns = list_any (is_bad_size c x) ns ≡ false

  any_good : (ns others : List Par) → AllGood ns → AllGood others → AllGood (if_any ns others)
  any_good [] others h k = k
  any_good (n ∷ ns) others h k = h

  in_good : (ds : List Declared) (others : List Par) → list_any (has_bad_size c) ds ≡ false → AllGood others → AllGood (sizes_in x ds others)
  in_good [] others h k = k
  in_good (d ∷ ds) others h k = by_name (bytes_eq x d.name) refl (or_parts (has_bad_size c d) _ h).0 (in_good ds others (or_parts (has_bad_size c d) _ h).1 k)
    where
      by_name : (b : Bool) → bytes_eq x d.name ≡ b → has_bad_size c d ≡ false → AllGood (sizes_in x ds others) → AllGood (if b then if_any d.sizes (sizes_in x ds others) else sizes_in x ds others)
      by_name true e own behind = any_good d.sizes (sizes_in x ds others) (subst (λ q. list_any (is_bad_size c q) d.sizes ≡ false) (sym ((bytes_eq-Decides x d.name).0 e)) own) behind
      by_name false e own behind = behind

  areas_good : (areas : List Area) (others : List Par) → list_any (has_bad_size c) (flat_map (λ a. a.list) areas) ≡ false → AllGood others → AllGood (sizes_in_areas x areas others)
  areas_good [] others h k = k
  areas_good (a ∷ areas) others h k =
      let p = none_of_both (has_bad_size c) a.list (flat_map (λ b. b.list) areas) h in
      in_good a.list (sizes_in_areas x areas others) p.0 (areas_good areas others p.1 k)

  by_good : (a : Act) (others : List Par) → has_bad_constant c a ≡ false → list_any (has_bad_size c) (common_in a) ≡ false → AllGood others → AllGood (sizes_by x a others)
  by_good (Typed t ds) others h g k = in_good ds others h k
  by_good (Dimension ds) others h g k = in_good ds others h k
  by_good (Common areas) others h g k = areas_good areas others g k
  by_good _ others h g k = k

  sizes_good : (code : List Line) → ((i : ℕ) (s : Line) → slice_get code i ≡ Some s → (has_bad_constant c s.act ≡ false) × (list_any (has_bad_size c) (common_in s.act) ≡ false)) → AllGood (sizes_of x (notes_of code))
  sizes_good [] h = refl
  sizes_good (s ∷ rest) h =
      let behind = sizes_good rest (λ i t e. h (suc i) t e) in
      let here = h zero s refl in
      if_both (λ notes. AllGood (sizes_of x notes)) (is_note s.act) (record { label = s.label; act = s.act } ∷ notes_of rest) (notes_of rest) (by_good s.act (sizes_of x (notes_of rest)) here.0 here.1 behind) behind

  -- of what is no dummy they are positive constants
  positive : (z : ℤ) → int_le z (pos 0) ≡ false → 0 < unsigned_abs z
  positive (pos zero) e = absurd (true≢false e)
  positive (pos (suc n)) e = omega arith
  positive (negsuc n) e = absurd (true≢false e)

  pub some_places : (ns : List Par) → AllGood ns → names.is_dummy c x ≡ false → 0 < places_of ns
  some_places [] h free = omega arith
  some_places (Constant z ∷ ns) h free =
      let p = or_parts (int_le z (pos 0)) _ h in
      mul-pos (positive z p.0) (some_places ns p.1 free)
  some_places (Named n ∷ ns) h free =
      let p = and_parts (names.is_dummy c x) _ (not-false _ (or_parts (is_bad_size c x (Named n)) _ h).0) in
      absurd (both_ways _ free p.0)

  -- and their names are dummies
  dummies_alone : (P : Text → Type 0) → ((n : Text) → names.is_dummy c n ≡ true → P n) → (ns : List Par) → AllGood ns → NamesOfPars P ns
  dummies_alone P f [] h = tt
  dummies_alone P f (Constant z ∷ ns) h = (tt, dummies_alone P f ns (or_parts (int_le z (pos 0)) _ h).1)
  dummies_alone P f (Named n ∷ ns) h =
      let p = or_parts (is_bad_size c x (Named n)) _ h in
      let q = and_parts (names.is_dummy c x) _ (not-false _ p.0) in
      (f n (and_parts (names.is_dummy c n) _ q.1).0, dummies_alone P f ns p.1)

module _ (r : Routine) (placed : IsPlaced r) where
  abbrev own : Context
  own = check.context_of r

  good : (x : Text) → AllGood own x (sizes_of x (context_of r).notes)
  good x = sizes_good own x r.lines (λ i s is. (placed.sizes i s is, placed.shared i s is))

  -- what has places has one
  pub has_one : (x : Text) → has_places r x ≡ true → 0 < size_in (context_of r) x
  has_one x e = some_places own x (sizes_of x (context_of r).notes) (good x) (not-true (is_dummy x r.header) (and_parts (not (is_dummy x r.header)) _ e).0)

  pub sizes_named : (P : Text → Type 0) → ((n : Text) → is_dummy n r.header ≡ true → P n) → (x : Text) → NamesOfPars P (sizes_of x (context_of r).notes)
  sizes_named P f x = dummies_alone own x P f (sizes_of x (context_of r).notes) (good x)

-- ---- a function's own name ----

-- no dummy has it
own_value : (x : Text) (h : Header) → is_own_value x h ≡ true → repeats (header_names h) ≡ false → is_dummy x h ≡ false
own_value x MainUnit e d = absurd (true≢false (sym e))
own_value x (SubUnit y ds) e d = absurd (true≢false (sym e))
own_value x (FuncUnit t y ds) e d = subst (λ q. list_any (bytes_eq q) ds ≡ false) (sym ((bytes_eq-Decides x y).0 e)) (or_parts (list_any (bytes_eq y) ds) _ d).0
own_value x DataUnit e d = absurd (true≢false (sym e))

pub value_has_places : (r : Routine) → IsPlaced r → (x : Text) → is_own_value x r.header ≡ true → has_places r x ≡ true
value_has_places r placed x e =
    and_from (not (is_dummy x r.header)) _ (not_from_false (is_dummy x r.header) (own_value x r.header e placed.header)) (or_left (is_own_value x r.header) _ e)

-- the header that a reference fits is a function's
pub function_header : (c : Context) (k : Call) (h : Header) (notes : List Note) → k.by_call ≡ false → fits_header c k (record { header = h; notes = notes }) ≡ true → is_called k.name h ≡ true → is_own_value k.name h ≡ true
function_header c k MainUnit notes f e i = absurd (true≢false (sym e))
function_header c k (SubUnit y ds) notes f e i = absurd (true≢false (sym e ∙ f))
function_header c k (FuncUnit t y ds) notes f e i = i
function_header c k DataUnit notes f e i = absurd (true≢false (sym e))

-- ---- what a statement mentions ----

pub variable_has_places : (r : Routine) (x : Text) → is_dummy x r.header ≡ false → mentioned (is_variable x) (context_of r) r.lines ≡ true → has_places r x ≡ true
variable_has_places r x free e =
    and_from (not (is_dummy x r.header)) _ (not_from_false (is_dummy x r.header) free) (or_right (is_own_value x r.header) _ (or_left (mentioned (is_variable x) (context_of r) r.lines) _ e))

-- ---- a sound unit ----

pub sound_placed : (r : Routine) → IsSoundUnit r → IsPlaced r
sound_placed r sound = record {
  header = (or_parts (header_breaks_flow Whole r.header r.lines DuplicateName) _ (sound.clean zero DuplicateName)).1;
  sizes = λ i s is. ((sound_fit r sound).rules i s is).sizes;
  shared = λ i s is. ((sound_fit r sound).rules i s is).shared;
  filled = λ i s is.
      (or_parts (stores_wrong (check.context_of r) s.act) _
      (or_parts (breaks_flow Whole r.header r.lines i s NotAssignable) _
      (subst (λ o. is_some_and (λ t. breaks_statement Whole (check.context_of r) (acts_in_unit r.lines) r.lines i t NotAssignable) o ≡ false) is (sound.clean (suc i) NotAssignable))).1).1;
}
