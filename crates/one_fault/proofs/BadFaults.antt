-- The association of a unit is bad at one first statement, and bad as a whole where it is.
use Rattle.std.proofs.Common.{◌≡◌, ◌≤◌, ℕ, suc, ℤ, List, take, Some, sym, ap, ◌∙◌, subst, arith}
use Rattle.std.specs.Prelude.{option_map}
use Rattle.std.specs.List.{Contains, slice_get}
use Rattle.std.proofs.lemmas.List.{take-take}
use Rattle.ground.specs.declared.fault.Fault.{Fault}
use Rattle.f66_tree.specs.Syntax.{Line, Routine}
use Rattle.f66_soundness.proofs.KindLemmas.{some_same}
use Rattle.f66_program.specs.Mentions.{context_of}
use Rattle.f66_program.specs.Association.{Row, Tie, IsSame, by_tie, itself, back, onward, not_filled, line_ties, ties_up_to, unit_ties, AreBad, twice, joined, before, IsBadUnit, IsFirstBad}
use Rattle.storage_assoc.specs.Associating.{IsBadFault}
use Rattle.storage_assoc.proofs.TableLemmas.{earlier_tie}
use Rattle.one_fault.specs.Laws.{BadIsWhole, OneBadFault}
use Rattle.one_fault.proofs.SameFaults.{one_number, same_fault}

-- what is bad is bad with more ties
module _ (ts us : List Tie) (more : (t : Tie) → Contains ts t → Contains us t) where
  more_same : {a b : Row} {d : ℤ} → IsSame ts a b d → IsSame us a b d
  more_same (by_tie t c) = by_tie t (more t c)
  more_same (itself a) = itself a
  more_same (back h) = back (more_same h)
  more_same (onward h k) = onward (more_same h) (more_same k)

  more_bad : AreBad ts → AreBad us
  more_bad (twice ne h) = twice ne (more_same h)
  more_bad (joined ne h) = joined ne (more_same h)
  more_bad (before less h) = before less (more_same h)

module _ (r : Routine) where
  abbrev ties : List Line → List Tie
  ties lines = line_ties 0 (context_of r) not_filled lines

  bad_whole : (n : ℕ) → AreBad (ties_up_to 0 r n) → IsBadUnit r
  bad_whole n = more_bad (ties_up_to 0 r n) (unit_ties 0 r) (λ t c. earlier_tie 0 (context_of r) not_filled r.lines n t c)

  bad_later : (m n : ℕ) → m ≤ n → AreBad (ties_up_to 0 r m) → AreBad (ties_up_to 0 r n)
  bad_later m n le =
      more_bad (ties_up_to 0 r m) (ties_up_to 0 r n)
      (λ t c. earlier_tie 0 (context_of r) not_filled (take n r.lines) m t (subst (λ lines. Contains (ties lines) t) (sym (take-take m n r.lines le)) c))

  one_bad : (i j : ℕ) → IsFirstBad r i → IsFirstBad r j → i ≡ j
  one_bad i j a b = one_number i j (λ lt. b.earlier (bad_later (suc i) j (omega arith) a.bad)) (λ lt. a.earlier (bad_later (suc j) i (omega arith) b.bad))

  one_of_bad : (f g : Fault) → IsBadFault r f → IsBadFault r g → f ≡ g
  one_of_bad f g a b =
      let at : option_map (λ (s : Line). s.place) (slice_get r.lines a.line) ≡ Some g.place = ap (λ i. option_map (λ (s : Line). s.place) (slice_get r.lines i)) (one_bad a.line b.line a.first b.first) ∙ b.place in
      same_fault f g (a.kind ∙ sym b.kind) (some_same (sym a.place ∙ at)) (a.number ∙ sym b.number)

pub one_bad_fault : OneBadFault
one_bad_fault = one_of_bad

pub bad_is_whole : BadIsWhole
bad_is_whole r f a = bad_whole r (suc a.line) a.first.bad
