-- The first fault of a whole program by what its parts tell.
use Rattle.std.proofs.Common.{◌≡◌, ◌<◌, ℕ, zero, suc, List, [], ◌∷◌, length, get_or, Option, Some, None, map, refl, sym, ap, subst, ◌∙◌, arith}
use Rattle.std.specs.Prelude.{option_map}
use Rattle.std.specs.List.{slice_get}
use Rattle.std.proofs.lemmas.List.{length-map}
use Rattle.ground.specs.Faults.{fault_at}
use Rattle.ground.specs.declared.place.Place.{Place}
use Rattle.ground.specs.declared.fault.Fault.{Fault}
use Rattle.ground.specs.declared.fault.FaultKind.TheVariants.{Recursion}
use Rattle.call_cycles.specs.Cycles.{IsFirstOnCycle, HasNoCycle, AreWithin}
use Rattle.efl_tree.specs.Syntax.{Text, EflProgram}
use Rattle.efl_types.specs.Whole.{number_of, CallAt, program_calls, edges_of, count_fault, IsRecursion, TellsCalls, TellsWhole}
use Rattle.efl_whole.specs.Calls.{Calls, no_calls, procedures_calls}
use Rattle.efl_whole.proofs.PartCalls.{edges_within, found_edges, found_places}

pub tells_count : (p : EflProgram) (o : Option Fault) (f : Fault) → o ≡ count_fault p → o ≡ Some f → TellsWhole p (Some f)
tells_count p o f is some = (let e : count_fault p ≡ Some f = sym is ∙ some in rw e refl)

pub tells_calls : (p : EflProgram) (o : Option Fault) → o ≡ count_fault p → o ≡ None → (told : Option Fault) → TellsCalls p told → TellsWhole p told
tells_calls p o is none told t = (let e : count_fault p ≡ None = sym is ∙ none in rw e t)

-- a call that is got, with its place
got : (xs : List CallAt) (i : ℕ) (d : Place) → i < length xs → option_map (λ c. fault_at c.place Recursion) (slice_get xs i) ≡ Some (fault_at (get_or (map (λ c. c.place) xs) i d) Recursion)
got [] i d lt = absurd (omega (arith, lt))
got (c ∷ xs) zero d lt = refl
got (c ∷ xs) (suc i) d lt = got xs i d (omega (arith, lt))

module _ (p : EflProgram) (numbers : Text → Option ℕ) (are : (x : Text) → numbers x ≡ number_of p.procedures x) (cs : Calls) (is : cs ≡ procedures_calls numbers 0 p.procedures no_calls) where
  same : numbers ≡ number_of p.procedures
  same i x = are x i

  known : cs ≡ procedures_calls (number_of p.procedures) 0 p.procedures no_calls
  known = is ∙ ap (λ f. procedures_calls f 0 p.procedures no_calls) same

  pub edges_are : cs.edges ≡ edges_of p
  edges_are = found_edges p cs known

  pub edges_in : AreWithin (length p.procedures) cs.edges
  edges_in = subst (AreWithin (length p.procedures)) (sym edges_are) (edges_within p)

  pub as_many : length cs.places ≡ length cs.edges
  as_many =
      ap length (found_places p cs known) ∙ length-map (program_calls p) (λ c. c.place)
      ∙ sym (ap length edges_are ∙ length-map (program_calls p) (λ c. c.edge))

  pub first_recursion : (n : ℕ) (at d : Place) → IsFirstOnCycle cs.edges n → at ≡ get_or cs.places n d → IsRecursion p (fault_at at Recursion)
  first_recursion n at d h place =
      let lt : n < length (program_calls p) = subst (λ m. n < m) (ap length edges_are ∙ length-map (program_calls p) (λ c. c.edge)) h.inside in
      record {
        number = n;
        first = subst (λ es. IsFirstOnCycle es n) edges_are h;
        tells = got (program_calls p) n d lt ∙ ap (λ q. Some (fault_at q Recursion)) (sym (place ∙ ap (λ ps. get_or ps n d) (found_places p cs known)));
      }

  pub no_recursion : HasNoCycle cs.edges → TellsCalls p None
  no_recursion h = subst HasNoCycle edges_are h
