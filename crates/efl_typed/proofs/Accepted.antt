-- Accepted texts: from the first fault of their scopes, of which there is none, to each of their statements.
use Rattle.std.proofs.Common.{◌≡◌, ℕ, zero, suc, ◌+◌, ◌<◌, Bool, true, false, cond, List, [], ◌∷◌, ◌++◌, find, Option, Some, None, option_map, refl, sym, subst, inl, arith}
use Rattle.std.specs.Prelude.{◌⊎◌, ◌≢◌, slice_index_or}
use Rattle.std.specs.List.{slice_get}
use Rattle.std.specs.Option.{option_or}
use Rattle.std.proofs.lemmas.Option.{none-some, same_Some}
use Rattle.rule_table.specs.Words.{find_map}
use Rattle.rule_table.specs.First.{first_part}
use Rattle.f66_tree.specs.World.{Record, Lost}
use Rattle.call_cycles.specs.declared.edge.Edge.{Edge}
use Rattle.call_cycles.specs.Cycles.{Fall}
use Rattle.efl_tree.specs.Syntax.{EflProcedure, EflProgram}
use Rattle.efl_scope.specs.declared.rule.ScopeRule.{ScopeRule}
use Rattle.efl_scope.specs.declared.rule.ScopeRule.TheVariants.{OutOfProfileType, DuplicateName, BadLabel, BadBreak, CommonMismatch}
use Rattle.efl_scope.specs.Parts.{Part, around_unit, header_type_groups, declarations_in, parts_in, parts_by, parts_from, program_parts}
use Rattle.efl_scope.specs.ScopeRules.{again, labels_before, labels_of, misses_label, misses_loop, scope_rules}
use Rattle.efl_scope.specs.FirstFault.{with_earlier, breaks_with, fault_of, first_fault}
use Rattle.efl_scope.specs.Marks.{program_variables}
use Rattle.efl_types.specs.Whole.{called_in, calls_in, program_calls, edges_of}
use Rattle.efl_program.specs.Scoped.{AllScoped}
use Rattle.efl_program.specs.Scoping.{Scoping}
use Rattle.efl_program.specs.Meaning.{stands}
use Rattle.efl_program.proofs.Programs as programs
use Rattle.efl_typed.specs.Typing.{body_if, body_around, context_of, bodies_of}
use Rattle.efl_typed.specs.Linking.{linkage_of, efl_meaning}
use Rattle.efl_typed.specs.Laws.{IsAccepted}
use Rattle.efl_typed.proofs.Each.{Each, each_right, each_left, each_map, each_flat}
use Rattle.efl_typed.proofs.FoundLemmas.{neither, label_stands}
use Rattle.efl_typed.proofs.Found.{Finds, stmts_scoped}

-- ---- rules that no part breaks ----

pub none_of_two : {V : Type 0} (a b : Option V) → option_or a b ≡ None → (a ≡ None) × (b ≡ None)
none_of_two None b h = (refl, h)
none_of_two (Some v) b h = absurd (none-some v (sym h))

pub none_found : {X V : Type 0} (f : X → Option V) (xs : List X) → find_map f xs ≡ None → Each (λ x. f x ≡ None) xs
none_found f [] h = tt
none_found f (x ∷ xs) h = let s = none_of_two (f x) (find_map f xs) h in (s.0, none_found f xs s.1)

pub none_mapped : {X V : Type 0} (f : X → V) (o : Option X) → option_map f o ≡ None → o ≡ None
none_mapped f None h = refl
none_mapped f (Some x) h = absurd (none-some (f x) (sym h))

pub none_chosen : {X : Type 0} (b : Bool) (x : X) (o : Option X) → cond b (Some x) o ≡ None → (b ≡ false) × (o ≡ None)
none_chosen false x o h = (refl, h)
none_chosen true x o h = absurd (none-some x (sym h))

none_first : {X : Type 0} (test : X → Bool) (x : X) (xs : List X) → find test (x ∷ xs) ≡ None → (test x ≡ false) × (find test xs ≡ None)
none_first test x xs h = none_chosen (test x) x (find test xs) h

-- labels and loops are found
pub record IsFound (v : Part) : Type 0 where
  pub label : misses_label v.around.labels v.form ≡ false
  pub loop : misses_loop v.around.loops v.form ≡ false

found : (us : List EflProcedure) (earlier : List Part) (v : Part) → find (breaks_with us (earlier, v)) scope_rules ≡ None → IsFound v
found us earlier v h =
    let test = breaks_with us (earlier, v) in
    let one = none_first test OutOfProfileType (DuplicateName ∷ BadLabel ∷ BadBreak ∷ CommonMismatch ∷ []) h in
    let two = none_first test DuplicateName (BadLabel ∷ BadBreak ∷ CommonMismatch ∷ []) one.1 in
    let three = none_first test BadLabel (BadBreak ∷ CommonMismatch ∷ []) two.1 in
    let four = none_first test BadBreak (CommonMismatch ∷ []) three.1 in
    record { label = (neither (again (labels_before v.around.unit earlier) (labels_of v.form)) _ three.0).1; loop = four.0 }

abbrev telling : List Part × Part → ScopeRule → (List Part × Part) × ScopeRule
telling t k = (t, k)

abbrev Clean : List EflProcedure → List Part × Part → Type 0
Clean us t = option_map (telling t) (find (breaks_with us t) scope_rules) ≡ None

all_found : (us : List EflProcedure) (earlier vs : List Part) → Each (Clean us) (with_earlier earlier vs) → Each IsFound vs
all_found us earlier [] h = tt
all_found us earlier (v ∷ vs) h = (found us earlier v (none_mapped (telling (earlier, v)) (find (breaks_with us (earlier, v)) scope_rules) h.0), all_found us (earlier ++ v ∷ []) vs h.1)

-- a program whose scopes have no fault
parts_found : (p : EflProgram) → first_fault p ≡ None → Each IsFound (program_parts p)
parts_found p h = all_found p.procedures [] (program_parts p) (none_found (λ t. option_map (telling t) (find (breaks_with p.procedures t) scope_rules)) (with_earlier [] (program_parts p)) (none_mapped fault_of (first_part (breaks_with p.procedures) scope_rules (with_earlier [] (program_parts p))) h))

-- ---- ranks that fall along calls ----

module _ (ranks : List ℕ) where
  abbrev rank : ℕ → ℕ
  rank u = slice_index_or ranks u 0

  -- from a procedure to one that it calls
  abbrev Falls : ℕ → ℕ → Type 0
  Falls n m = rank m < rank n

  each_falls : (es : List Edge) → Fall ranks es → Each (λ e. Falls e.from e.to) es
  each_falls [] h = tt
  each_falls (e ∷ es) h = (h 0 (omega arith), each_falls es (λ j l. h (suc j) (omega (l, arith))))

  calls_fall : (us : List EflProcedure) (v : Part) → Each (λ c. Falls c.edge.from c.edge.to) (calls_in us v) → Each (Falls v.around.unit) (called_in us v)
  calls_fall us v h = each_map (λ c. Falls c.edge.from c.edge.to) (λ to. record { edge = record { from = v.around.unit; to = to }; place = v.place }) (called_in us v) h

  joined : (us : List EflProcedure) (vs : List Part) → Each IsFound vs → Each (λ v. Each (λ c. Falls c.edge.from c.edge.to) (calls_in us v)) vs → Each (Finds us Falls) vs
  joined us [] f h = tt
  joined us (v ∷ vs) f h = (record { label = f.0.label; loop = f.0.loop; calls = calls_fall us v h.0 }, joined us vs f.1 h.1)

  parts_find : (p : EflProgram) → first_fault p ≡ None → Fall ranks (edges_of p) → Each (Finds p.procedures Falls) (program_parts p)
  parts_find p h f =
      joined p.procedures (program_parts p) (parts_found p h)
      (each_flat (λ c. Falls c.edge.from c.edge.to) (calls_in p.procedures) (program_parts p) (each_map (λ e. Falls e.from e.to) (λ c. c.edge) (program_calls p) (each_falls (edges_of p) f)))

  -- ---- procedures ----

  unit_parts : (F : Part → Type 0) (k i : ℕ) (us : List EflProcedure) (u : EflProcedure) → slice_get us i ≡ Some u → Each F (parts_from k us) → Each F (parts_by (k + i) u)
  unit_parts F k i [] u e h = absurd (none-some u e)
  unit_parts F k zero (w ∷ us) u e h = subst (λ x. Each F (parts_by (k + 0) x)) (same_Some w u e) (subst (λ m. Each F (parts_by m w)) (omega arith) (each_left F (parts_by k w) (parts_from (k + 1) us) h))
  unit_parts F k (suc i) (w ∷ us) u e h = subst (λ m. Each F (parts_by m u)) (omega arith) (unit_parts F (k + 1) i us u e (each_right F (parts_by k w) (parts_from (k + 1) us) h))

  body_scoped : (p : EflProgram) (v : ℕ) (o : Option EflProcedure) → slice_get p.procedures v ≡ o → Each (Finds p.procedures Falls) (program_parts p) →
      AllScoped (Falls v) (body_if p v o) [] (λ q. (stands q (body_if p v o) ≡ true) ⊎ ⊥)
  body_scoped p v None e h = tt
  body_scoped p v (Some u) e h =
      let parts : Each (Finds p.procedures Falls) (parts_by v u) = subst (λ m. Each (Finds p.procedures Falls) (parts_by m u)) (omega arith) (unit_parts (Finds p.procedures Falls) 0 v p.procedures u e h) in
      stmts_scoped p.procedures (program_variables p) v u e Falls 0 (body_around v u) refl u.body (λ q. (stands q (body_if p v (Some u)) ≡ true) ⊎ ⊥)
      (each_right (Finds p.procedures Falls) (header_type_groups (around_unit v u) u.result ++ declarations_in (around_unit v u) [] u.declarations) (parts_in 0 (body_around v u) u.body) parts.1)
      (λ l k. inl (label_stands 0 (context_of p v u) l u.body k))

pub accepted_is_scoped : (p : EflProgram) (ranks : List ℕ) → IsAccepted p ranks → Scoping (linkage_of p) (bodies_of p)
accepted_is_scoped p ranks h = record {
  rank = rank ranks;
  scoped = λ v. body_scoped ranks p v (slice_get p.procedures v) refl (parts_find ranks p h.scopes h.falls);
  deep = h.low;
}

pub accepted_never_lost : (p : EflProgram) (ranks : List ℕ) → IsAccepted p ranks → (b : ℕ) (input : List Record) → (efl_meaning p b input).end ≢ Lost
accepted_never_lost p ranks h b input = programs.never_lost (linkage_of p) (bodies_of p) (accepted_is_scoped p ranks h) b input
