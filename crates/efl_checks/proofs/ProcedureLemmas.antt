-- Procedures, with their headers, declarations and statements.
use Rattle.std.proofs.Common.{◌≡◌, ℕ, suc, ◌+◌, ◌<◌, nat_le, nat_lt, Bool, true, false, List, [], ◌∷◌, ◌++◌, length, flat_map, Option, Some, None, refl, sym, ap, subst, ◌∙◌, append_assoc, arith, if◌then◌else◌}
use Rattle.std.specs.List.{slice_get}
use Rattle.std.specs.Option.{option_map, option_or, is_some}
use Rattle.std.proofs.lemmas.List.{append-nil, length-append}
use Rattle.ground.specs.declared.fault.Fault.{Fault}
use Rattle.efl_tree.specs.Syntax.{Text, EflType, Integer, Logical, Real, Complex, Named, Shape, EflGroups, EflProcedure}
use Rattle.efl_scope.specs.Scopes.{own_variables, undeclared, implied_of, behind_all, outer}
use Rattle.efl_scope.specs.Scopes as scopes
use Rattle.efl_scope.specs.Parts.{Header, Around, Part, part, among, header_type_groups, declarations_in, parts_in, around_unit, parts_by, parts_from}
use Rattle.efl_types.specs.declared.rule.TypeRule.{TypeRule}
use Rattle.efl_types.specs.declared.rule.TypeRule.TheVariants.{TypeClash, WrongCount, InitialTwice, ManyValues}
use Rattle.efl_types.specs.Signatures.{signatures, result_of}
use Rattle.efl_types.specs.Declarations.{formal_faults, is_shape, header_faults}
use Rattle.efl_types.specs.Expressions.{when}
use Rattle.efl_types.specs.Presets.{meets_earlier}
use Rattle.efl_types.specs.TypeRules.{kind_of, limit_of, rule_number, part_faults, presets_of, part_fills, passes_limit, broken_rules, first_in}
use Rattle.efl_expressions.specs.declared.names.Block.{Block}
use Rattle.efl_expressions.specs.declared.names.Blocks.TheBlock.{Outside}
use Rattle.efl_expressions.specs.FirstRule.{or_lower, first_rule}
use Rattle.efl_names.specs.declared.letters.Letters.{Letters}
use Rattle.efl_names.specs.declared.units.Outcome.{Outcome}
use Rattle.efl_names.specs.declared.units.Units.{Units}
use Rattle.efl_names.specs.NameViews as names
use Rattle.efl_storage.specs.Firsts.{AreFirsts}
use Rattle.efl_blocks.specs.declared.types.Types.{Types}
use Rattle.efl_blocks.specs.declared.homes.Position.{Position}
use Rattle.efl_blocks.specs.declared.homes.Homes.{Homes}
use Rattle.efl_blocks.specs.declared.outer.Outer.{Outer}
use Rattle.efl_blocks.specs.Within.{Later, Within}
use Rattle.efl_blocks.specs.OuterViews.{AreRules, IsOuter}
use Rattle.efl_blocks.specs.ProcedureViews.{AreAllUnits, AreOuters}
use Rattle.efl_blocks.specs.HomeViews.{position_of, home_in}
use Rattle.efl_blocks.proofs.LaterLemmas.{later_same, later_on, within_later}
use Rattle.efl_blocks.proofs.OuterLemmas.{rules_later}
use Rattle.efl_blocks.proofs.HomeLemmas.{homes_outside, outer_homes}
use Rattle.efl_initial_values.specs.declared.areas.Areas.{Areas}
use Rattle.efl_reading.specs.declared.sites.Procedure.{Procedure}
use Rattle.efl_reading.specs.declared.sites.Site.{Site}
use Rattle.efl_reading.specs.declared.progress.Progress.{Progress}
use Rattle.efl_reading.specs.declared.walk.Walk.{Walk}
use Rattle.efl_initial_values.specs.Owners.{AreAreas}
use Rattle.efl_reading.specs.Reading.{IsProcedure, Behind}
use Rattle.efl_reading.specs.Walked.{Read}
use Rattle.efl_reading.specs.Counting.{CountsHeader}
use Rattle.efl_reading.proofs.CountingLemmas.{none_counted}
use Rattle.efl_declarations.specs.Checks.{ChecksDeclarations}
use Rattle.efl_declarations.proofs.PartLemmas.{header_meets_none}
use Rattle.efl_checks.specs.Walks.{ProceduresFit, IsKnown, IsMade, ReadsInside, AddsHeader, ReadsOuter, outer_parts, ReadsProcedure, ReadsAll}
use Rattle.efl_reading.proofs.ReadingLemmas.{first_more, behind_done}
use Rattle.efl_reading.proofs.SiteLemmas.{units_later}
use Rattle.efl_checks.proofs.WalkLemmas.{faults_there, rule_there}
use Rattle.efl_checks.proofs.BlockLemmas.{declared_read}

-- ---- declarations and statements ----

pub outer_read : (y z w : Types) (s : Site) (block known : Block) (own : Procedure) (p q r : Walk) (u : EflProcedure) (home : Position) (homes : Homes) → IsMade own home u.formals Outside homes s →
    position_of home ≡ [] → ((x : Text) → home_in homes x ≡ None) → ChecksDeclarations y block s p u.declarations z known q → ReadsInside z known s q u.body w r → ReadsOuter y u block own p w r
outer_read y z w s block known own p q r u home homes made top none checks reads = record {
  later = later_on y z w checks.later reads.later;
  adds = λ fit us vs is within read.
      let a = around_unit own.unit u in
      let unit = sym (ap (λ o. o.unit) made.procedure) in
      let position = sym (ap position_of made.position ∙ top) in
      declared_read y z w us u a (among (behind_all (outer u) u.declarations) a) s s block known p q r u.declarations u.body vs [] (subst (Within y (outer u) block) (sym made.blocks) within)
      (outer_homes u s.homes.now (homes_outside u s.homes.now (λ x. ap (λ hs. home_in hs x) made.homes ∙ none x))) (subst (IsProcedure y us u) (sym made.procedure) is) unit position (sym made.formals)
      refl refl refl unit position (sym made.formals) refl refl checks reads fit read;
}

-- ---- headers ----

some_lower : (r : TypeRule) (o : Option TypeRule) → (s : TypeRule) × (or_lower (Some r) o ≡ Some s)
some_lower r None = (r, refl)
some_lower r (Some s) = by (nat_le (rule_number r) (rule_number s))
  where
    by : (b : Bool) → (t : TypeRule) × ((if b then Some r else Some s) ≡ Some t)
    by true = (r, refl)
    by false = (s, refl)

some_first : (rs ss : List TypeRule) (r : TypeRule) → (s : TypeRule) × (first_rule (rs ++ r ∷ ss) ≡ Some s)
some_first [] ss r = some_lower r (first_rule ss)
some_first (t ∷ rs) ss r = some_lower t (first_rule (rs ++ r ∷ ss))

module _ (us : List EflProcedure) (u : EflProcedure) (a : Around) (vs : List Part) (found : slice_get us a.unit ≡ Some u) where
  abbrev header : Part
  header = part a u.place (Header u.result u.formals)

  shape_broken : (o : Option Text) (gs : EflGroups) → u.result ≡ Some (Shape o gs) → (f : Fault) × (first_in us (vs ++ header ∷ []) ≡ Some f)
  shape_broken o gs is =
      let formals = flat_map formal_faults (undeclared (implied_of u) (own_variables u) u.formals) in
      let count = when (nat_lt 32 (length u.formals)) WrongCount in
      let shaped : header_faults u ≡ (formals ++ TypeClash ∷ []) ++ count = ap (λ r. (formals ++ when (is_shape r) TypeClash) ++ count) is in
      let twice = when (meets_earlier (flat_map (part_fills us) vs) (part_fills us header)) InitialTwice in
      let many = when (passes_limit vs header) ManyValues in
      let broken : broken_rules us vs header ≡ formals ++ TypeClash ∷ ((count ++ twice) ++ many) =
      ap (λ rs. (rs ++ twice) ++ many) (faults_there us u a u.place (Header u.result u.formals) found ∙ shaped)
      ∙ ap (λ rs. rs ++ many) (append_assoc (formals ++ TypeClash ∷ []) count twice) ∙ append_assoc (formals ++ TypeClash ∷ []) (count ++ twice) many
      ∙ append_assoc formals (TypeClash ∷ []) ((count ++ twice) ++ many) in
      let told = some_first formals ((count ++ twice) ++ many) TypeClash in
      by (first_in us vs) (first_rule (broken_rules us vs header)) told.0 (ap first_rule broken ∙ told.1) (first_more us vs header)
    where
      by : (o : Option Fault) (r : Option TypeRule) (s : TypeRule) → r ≡ Some s → {e : Option Fault} → e ≡ option_or o (option_map (λ t. record { kind = kind_of t; place = u.place; number = limit_of t }) r) → (f : Fault) × (e ≡ Some f)
      by (Some f) r s some e = (f, e)
      by None (Some t) s some e = (record { kind = kind_of t; place = u.place; number = limit_of t }, e)
      by None None s some e = absurd cc

  -- the groups of a header's type stand behind a fault
  header_done : (q : Progress) → Behind us (vs ++ header ∷ []) q → Behind us ((vs ++ header ∷ []) ++ header_type_groups a u.result) q
  header_done q behind = each u.result refl
    where
      each : (o : Option EflType) → u.result ≡ o → Behind us ((vs ++ header ∷ []) ++ header_type_groups a o) q
      each None is = subst (λ ws. Behind us ws q) (sym (append-nil (vs ++ header ∷ []))) behind
      each (Some Integer) is = subst (λ ws. Behind us ws q) (sym (append-nil (vs ++ header ∷ []))) behind
      each (Some Logical) is = subst (λ ws. Behind us ws q) (sym (append-nil (vs ++ header ∷ []))) behind
      each (Some (Real b)) is = subst (λ ws. Behind us ws q) (sym (append-nil (vs ++ header ∷ []))) behind
      each (Some (Complex b)) is = subst (λ ws. Behind us ws q) (sym (append-nil (vs ++ header ∷ []))) behind
      each (Some (Named x)) is = subst (λ ws. Behind us ws q) (sym (append-nil (vs ++ header ∷ []))) behind
      each (Some (Shape o gs)) is =
          let told = shape_broken o gs is in behind_done us (vs ++ header ∷ []) (header_type_groups a (Some (Shape o gs))) q (ap is_some (behind.tells ∙ told.1)) behind

  -- and meet no variable
  pub header_read : (q : Walk) → Read us (vs ++ header ∷ []) q → Read us ((vs ++ header ∷ []) ++ header_type_groups a u.result) q
  header_read q read = record {
    tells = header_done q.progress read.tells;
    counts = none_counted us (vs ++ header ∷ []) (header_type_groups a u.result) q.storage (header_meets_none a u.result) read.counts;
    firsts = read.firsts;
  }

-- noted and counted
pub header_added : (n : ℕ) (u : EflProcedure) (letters : Letters) (block : Block) (p q : Walk) (rule : Option TypeRule) → ((y : Types) → AreRules y (implied_of u) letters → rule ≡ first_rule (header_faults u)) →
    ((us : List EflProcedure) (vs : List Part) (v : Part) → Behind us vs p.progress → v.place ≡ u.place → presets_of v.form ≡ [] → rule ≡ first_rule (part_faults us v) →
    Behind us (vs ++ v ∷ []) q.progress) → CountsHeader n u.formals block p.storage q.storage → q.firsts ≡ p.firsts → AddsHeader n u letters block p q
header_added n u letters block p q rule ruled notes counts same y us a vs found unit blocks rules within read =
    let form = Header u.result u.formals in
    let here : slice_get us a.unit ≡ Some u = ap (slice_get us) unit ∙ found in
    record {
      tells = notes us vs (part a u.place form) read.tells refl refl (rule_there first_rule us u a u.place form rule here (ruled y rules));
      counts = counts y us u a u.place vs found refl unit blocks within read.counts;
      firsts = subst (AreFirsts us) (sym same) read.firsts;
    }

-- ---- a procedure ----

pub procedure_read : (y z : Types) (n : ℕ) (u : EflProcedure) (o : Outer) (units : Units) (outcome : Outcome) (areas : Areas) (own : Procedure) (p q r : Walk) →
    IsKnown n u.formals o.letters units outcome areas own → result_of u.result ≡ names.result_of outcome → AreAreas u areas → AddsHeader n u o.letters o.block p q → ReadsOuter y u o.block own q z r →
    ReadsProcedure y n u o units p z r
procedure_read y z n u o units outcome areas own p q r known gives are head reads = record {
  later = reads.later;
  adds = λ fit us vs found outer signed read.
      let a = around_unit n u in
      let h = part a u.place (Header u.result u.formals) in
      let groups = header_type_groups a u.result in
      let declared = declarations_in a [] u.declarations in
      let stated = parts_in 0 (among (behind_all (scopes.outer u) u.declarations) a) u.body in
      let headed = head y us a vs found refl refl outer.letters outer.block read in
      let grouped = header_read us u a vs found q headed in
      let is : IsProcedure y us u own = record {
        found = ap (slice_get us) known.unit ∙ found;
        formals = sym known.formals;
        letters = subst (AreRules y (implied_of u)) (sym known.letters) outer.letters;
        units = subst (AreAllUnits y (signatures us)) (sym known.units) signed;
        gives = gives ∙ sym (ap names.result_of known.outcome);
        areas = subst (AreAreas u) (sym known.areas) are;
      } in
      let all : Read us (((vs ++ h ∷ []) ++ groups) ++ (declared ++ stated)) r =
      subst (λ m. Read us (((vs ++ h ∷ []) ++ groups) ++ outer_parts m u) r) known.unit (reads.adds fit us ((vs ++ h ∷ []) ++ groups) is outer.block grouped) in
      subst (λ ws. Read us ws r)
      (append_assoc (vs ++ h ∷ []) groups (declared ++ stated) ∙ append_assoc vs (h ∷ []) (groups ++ (declared ++ stated))
      ∙ ap (λ ws. vs ++ (h ∷ ws)) (sym (append_assoc groups declared stated)))
      all;
}

-- ---- all procedures ----

outer_later : (y z : Types) (u : EflProcedure) (o : Outer) → Later y z → IsOuter y u o → IsOuter z u o
outer_later y z u o more is = record { block = within_later y z more (outer u) o.block Outside is.block; letters = rules_later y z (implied_of u) o.letters more is.letters }

outers_later : (y z : Types) (us : List EflProcedure) (os : List Outer) → Later y z → AreOuters y us os → AreOuters z us os
outers_later y z [] [] more are = tt
outers_later y z (u ∷ us) (o ∷ os) more are = (outer_later y z u o more are.0, outers_later y z us os more are.1)
outers_later y z [] (o ∷ os) more are = absurd are
outers_later y z (u ∷ us) [] more are = absurd are

-- the procedures from this number on are left, with their outer blocks
pub record ProceduresLeft (y : Types) (us : List EflProcedure) (all : List Outer) (units : Units) (p : Walk) (z : Types) (q : Walk) (n : ℕ) (rest : List EflProcedure) (os : List Outer) : Type 0 where
  pub later : Later y z
  pub at : (i : ℕ) → slice_get us (n + i) ≡ slice_get rest i
  pub fit : ProceduresFit us → ProceduresFit rest
  pub left : ProceduresFit us → AreOuters y us all → AreAllUnits y (signatures us) units → Read us [] p →
      AreOuters z rest os × ((ws : List Part) × Read us ws q × (ws ++ parts_from n rest ≡ parts_from 0 us))

pub procedures_begun : (y : Types) (us : List EflProcedure) (all : List Outer) (units : Units) (p : Walk) → ProceduresLeft y us all units p y p 0 us all
procedures_begun y us all units p = record {
  later = later_same y;
  at = λ i. (let e : 0 + i ≡ i = omega arith in ap (slice_get us) e);
  fit = λ fit. fit;
  left = λ fit outers signed read. (outers, ([], read, refl));
}

pub procedure_passed : (y z w : Types) (us : List EflProcedure) (all : List Outer) (units : Units) (p q r : Walk) (n : ℕ) (u : EflProcedure) (rest : List EflProcedure) (o : Outer) (os : List Outer) →
    ProceduresLeft y us all units p z q n (u ∷ rest) (o ∷ os) → ReadsProcedure z n u o units q w r → ProceduresLeft y us all units p w r (n + 1) rest os
procedure_passed y z w us all units p q r n u rest o os before reads = record {
  later = later_on y z w before.later reads.later;
  at = λ i. (let e : n + 1 + i ≡ n + suc i = omega arith in ap (slice_get us) e ∙ before.at (suc i));
  fit = λ fit. (before.fit fit).1;
  left = λ fit outers signed read.
      let here = before.left fit outers signed read in
      let found : slice_get us n ≡ Some u = (let e : n ≡ n + 0 = omega arith in ap (slice_get us) e ∙ before.at 0) in
      let read = reads.adds (before.fit fit).0 us here.1.0 found here.0.0 (units_later y z (signatures us) units before.later signed) here.1.1 in
      (outers_later z w rest os reads.later here.0.1, (here.1.0 ++ parts_by n u, read, append_assoc here.1.0 (parts_by n u) (parts_from (n + 1) rest) ∙ here.1.2));
}

-- there is an outer block for each
pub procedure_missed : (y z : Types) (us : List EflProcedure) (all : List Outer) (units : Units) (p q : Walk) (n : ℕ) (u : EflProcedure) (rest : List EflProcedure) (os : List Outer) →
    ProceduresLeft y us all units p z q n (u ∷ rest) [] → ProceduresLeft y us all units p z q (n + 1) rest os
procedure_missed y z us all units p q n u rest os before = record {
  later = before.later;
  at = λ i. (let e : n + 1 + i ≡ n + suc i = omega arith in ap (slice_get us) e ∙ before.at (suc i));
  fit = λ fit. (before.fit fit).1;
  left = λ fit outers signed read. absurd (before.left fit outers signed read).0;
}

pub procedures_ended : (y z : Types) (us : List EflProcedure) (all : List Outer) (units : Units) (p q : Walk) (n : ℕ) (os : List Outer) → ProceduresLeft y us all units p z q n [] os →
    ReadsAll y us all units p z q
procedures_ended y z us all units p q n os done = record {
  later = done.later;
  adds = λ fit outers signed read. let at = (done.left fit outers signed read).1 in subst (λ ws. Read us ws q) (sym (append-nil at.0) ∙ at.2) at.1;
}

-- ---- outer blocks one by one ----

pub long_left : (m k : ℕ) (xs ys old : List Outer) → old ≡ xs ++ ys → m + length xs ≡ k → k ≡ length old → m ≡ length ys
long_left m k xs ys old parts here was = (let e : length old ≡ length xs + length ys = ap length parts ∙ length-append xs ys in omega arith)

pub none_left : (os : List Outer) (k : ℕ) → k ≡ length os → (0 < k → ⊥) → os ≡ []
none_left [] k long none = refl
none_left (o ∷ os) k long none = absurd (none (omega (arith, long)))
