-- The places of each name of a unit of a linked program follow one another.
use Rattle.std.proofs.Common.{◌≡◌, ◌<◌, ◌+◌, ℕ, Bool, true, false, List, Option, Some, None, unwrap_or, refl, sym, ap, subst, ◌∙◌, arith}
use Rattle.std.specs.Prelude.{MatchOption}
use Rattle.std.specs.List.{slice_get}
use Rattle.f66_tree.specs.Syntax.{Text, Routine}
use Rattle.f66_tree.specs.Units.{dummies_of, position, places_of}
use Rattle.f66_check.specs.Answers.{IsSoundUnit}
use Rattle.f66_program.specs.Mentions.{context_of, is_dummy, has_places}
use Rattle.linker.specs.CallViews.{units_in}
use Rattle.program_storage.specs.declared.spot.Spot.{Spot}
use Rattle.program_storage.specs.Parts.{find_in}
use Rattle.program_storage.specs.Numbers.{number_in_program, spot_in_program, IsSpotBy}
use Rattle.renumbering.proofs.SoundLemmas.{not_dummy, has_one, sound_placed}
use Rattle.whole_program.specs.declared.linked.Linked.{Linked}
use Rattle.whole_program.specs.Linked.{IsLinked}
use Rattle.whole_program.specs.Linkage.{context_or, linkage_of}
use Rattle.code_gen.specs.Layout.{size_in}
use Rattle.code_gen.specs.Coded.{IsOwn, IsLaid}
use Rattle.code_layout.specs.Ranked.{bound_of}
use Rattle.code_layout.proofs.UnplacedLemmas.{unplaced}

module _ (l : Linked) (t : IsLinked (units_in l.calls) l) where
  abbrev rs : List Routine
  rs = units_in l.calls

  abbrev number : ℕ → Text → ℕ → Option ℕ
  number = number_in_program l.storage

  -- a number that there may be is below the bound
  pub small : (u : ℕ) (x : Text) (o : ℕ) → unwrap_or (number u x o) 0 < bound_of l
  small u x o = by_number (number u x o) refl
    where
      by_number : (m : Option ℕ) → number u x o ≡ m → unwrap_or m 0 < bound_of l
      by_number None e = omega arith
      by_number (Some n) e =
          let b = t.numbering.below u x o (t.numbering.real u x o n e) in
          let same : n ≡ b.0 = (let f : Some n ≡ Some b.0 = sym e ∙ b.1 in cc) in
          let lt = b.2 in
          omega (arith, same, lt)

  module _ (u : ℕ) (r : Routine) (here : slice_get rs u ≡ Some r) (sound : IsSoundUnit r) where
    abbrev context_is : (linkage_of l).context u ≡ context_of r
    context_is = ap context_or here

    free : (x : Text) → IsOwn (linkage_of l) u x → is_dummy x r.header ≡ false
    free x own = not_dummy r x (subst (λ c. position x (dummies_of c.header) ≡ None) context_is own)

    one : (x : Text) → is_dummy x r.header ≡ false → has_places r x ≡ false → size_in (context_of r) x ≡ 1
    one x f none = ap places_of (unplaced r sound x f none)

    has : (x : Text) → is_dummy x r.header ≡ false → 0 < size_in (context_of r) x
    has x f = by_places (has_places r x) refl
      where
        by_places : (b : Bool) → has_places r x ≡ b → 0 < size_in (context_of r) x
        by_places true e = has_one r (sound_placed r sound) x e
        by_places false e = (let s = one x f e in omega (arith, s))

    follow : (x : Text) → is_dummy x r.header ≡ false → (s : Option Spot) → MatchOption s (has_places r x ≡ false) (IsSpotBy (find_in l.storage.units.items) l.storage.sizes.items l.storage.firsts.items u r x) →
        (o : ℕ) → o < size_in (context_of r) x → unwrap_or (number u x o) 0 ≡ unwrap_or (number u x 0) 0 + o
    follow x f None none o lt =
        let s = one x f none in
        let e : o ≡ 0 = omega (arith, s, lt) in
        ap (λ k. unwrap_or (number u x k) 0) e ∙ (omega (arith, e))
    follow x f (Some s) spot o lt =
        let at = spot.2 in
        let size = spot.1 in
        let there = ap (λ m. unwrap_or m 0) (at o (omega (arith, size, lt))) in
        let first = ap (λ m. unwrap_or m 0) (at 0 (omega (arith, size, lt))) in
        omega (arith, there, first)

    pub laid : IsLaid (linkage_of l) u (bound_of l)
    laid = record {
      runs = λ x o own lt. follow x (free x own) (spot_in_program l.storage u x) (t.spots u r x here) o (subst (λ c. o < size_in c x) context_is lt);
      below = λ x o own lt. small u x o;
      has = λ x own. subst (λ c. 0 < size_in c x) (sym context_is) (has x (free x own));
    }
