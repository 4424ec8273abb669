-- The first statement that names a block of another size breaks the rule on sizes, and no part does where there is none.
use Rattle.std.proofs.Common.{◌≡◌, ◌<◌, ◌∙◌, inl, inr, suc, pos, Some, option_map, refl, sym, ap, subst, arith}
use Rattle.std.specs.List.{slice_get}
use Rattle.ground.specs.declared.place.Place.{Place}
use Rattle.ground.specs.declared.fault.Fault.{Fault}
use Rattle.ground.specs.declared.fault.FaultKind.TheVariants.{CommonMismatch}
use Rattle.f66_tree.specs.Syntax.{Line}
use Rattle.f66_program.specs.Linking.{Program, Part, at_part, IsEarlier, Mismatches}
use Rattle.linker.specs.Rules.{IsFirstBroken, IsKept}
use Rattle.linker.proofs.PartLemmas.{place_here, same_unit}
use Rattle.storage_rules.specs.Mismatch.{NamesOther, AreClear, IsFirstOther}

module _ (p : Program) where
  mismatch_other : (q : Part) (m : Mismatches p q) → NamesOther p.units q.unit m.at.unit m.at.line
  mismatch_other q m = (
    m.block,
    m.named,
    record {
      first_size = pos m.first_size;
      size = pos m.size;
      first = record { other = m.other; unit = m.first; here = m.here; before = m.order; names = m.names; none = m.none; size = (m.first_size, refl, m.is_first_size) };
      is_size = (m.size, refl, m.is_size);
      apart = λ e. m.differ (let f : pos m.first_size ≡ pos m.size = e in cc);
    },
  )

  pub sizes_kept : AreClear p.units → IsKept CommonMismatch p
  sizes_kept clear q m = clear q.unit m.at.unit m.at.here m.at.index m.at.line m.at.stands (mismatch_other q m)

  module _ (spot : Place) (h : IsFirstOther p.units spot) where
    other_mismatch : Mismatches p (at_part h.number (suc h.index))
    other_mismatch =
        let w = h.other.2 in
        record {
          at = record { unit = h.unit; index = h.index; line = h.line; here = h.here; number = refl; stands = h.stands };
          block = h.other.0;
          named = h.other.1;
          other = w.first.other;
          first = w.first.unit;
          here = w.first.here;
          order = w.first.before;
          names = w.first.names;
          none = w.first.none;
          size = w.is_size.0;
          first_size = w.first.size.0;
          is_size = w.is_size.2;
          is_first_size = w.first.size.2;
          differ = λ e. w.apart (w.first.size.1 ∙ ap pos (sym e) ∙ sym w.is_size.1);
        }

    none_earlier : (q : Part) → IsEarlier q (at_part h.number (suc h.index)) → ¬ Mismatches p q
    none_earlier q (inl lt) m = h.units q.unit m.at.unit lt m.at.here m.at.index m.at.line m.at.stands (mismatch_other q m)
    none_earlier q (inr e) m =
        let same : m.at.unit ≡ h.unit = same_unit (slice_get p.units q.unit) m.at.here (ap (slice_get p.units) e.0 ∙ h.here) in
        let lt : m.at.index < h.index = (let n = m.at.number in let l = e.1 in omega (arith, n, l)) in
        let o = mismatch_other q m in
        h.lines m.at.index m.at.line lt (subst (λ r. slice_get r.lines m.at.index ≡ Some m.at.line) same m.at.stands)
        (subst (λ u. NamesOther p.units u h.unit m.at.line) e.0 (subst (λ r. NamesOther p.units q.unit r m.at.line) same o))

    pub sizes_broken : (f : Fault) → f.kind ≡ CommonMismatch → f.number ≡ 0 → f.place ≡ spot → IsFirstBroken CommonMismatch p f
    sizes_broken f k n place = record {
      kind = k;
      number = n;
      part = at_part h.number (suc h.index);
      broken = other_mismatch;
      earlier = none_earlier;
      place = place_here p (at_part h.number (suc h.index)) h.unit h.here ∙ ap (option_map (λ (s : Line). s.place)) h.stands ∙ ap Some (h.place ∙ sym place);
    }
