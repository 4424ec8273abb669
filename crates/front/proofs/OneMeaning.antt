-- An accepted program has one meaning, whatever numbers its storage units have.
use Rattle.std.proofs.Common.{◌≡◌, ◌∙◌, ℕ, List, [], map, get_or, Option, None, Some, refl, sym, subst}
use Rattle.std.specs.Prelude.{option_map}
use Rattle.std.specs.List.{All, slice_get}
use Rattle.std.proofs.lemmas.List.Elements.{All-map}
use Rattle.std.proofs.lemmas.Option.{slice_get-map, slice_get_within, get_or_from_slice_get}
use Rattle.f66_tree.specs.Syntax.{Routine}
use Rattle.f66_tree.specs.Units.{name_of}
use Rattle.f66_soundness.proofs.KindLemmas.{no_some, some_same}
use Rattle.renumbering.specs.Bodies.{HasPlaces, InUnit, names_in, IsNamed, AreNamed}
use Rattle.renumbering.specs.Placed.{IsPlaced}
use Rattle.renumbering.specs.Laws.{IsMatched}
use Rattle.renumbering.proofs.NumberLemmas.{placed_at, whole_is_matched}
use Rattle.renumbering.proofs.ProgramLemmas.{unit_named_so}
use Rattle.renumbering.proofs.BodyLemmas.{ratfor_numbers_alone}
use Rattle.rat_tree.specs.Syntax.{RatRoutine, RatProgram}
use Rattle.rat_tree.specs.Meaning.{Ours, Theirs}
use Rattle.rat_check.specs.Parts.{no_label, with_labels, unit_parts}
use Rattle.rat_check.specs.FirstFault.{unit_fault}
use Rattle.rat_said.specs.Said.{said_routine, said_program}
use Rattle.rat_link.specs.Linking.{IsAccepted}
use Rattle.rat_linked.specs.Meaning.{bodies_of}
use Rattle.rat_linked.proofs.Proper.{clean_is_proper}
use Rattle.front.specs.Laws.{OneMeaning}
use Rattle.front.proofs.SaidPlaces.{said_is_placed}
use Rattle.front.proofs.SaidNames.{commands_used, parts_used, returned_own}

module _ (p : RatProgram) (accepted : IsAccepted p) where
  abbrev us : List RatRoutine
  us = p.routines

  abbrev rs : List Routine
  rs = map said_routine us

  placed : All IsPlaced rs
  placed = All-map IsPlaced said_routine us (λ i d lt. said_is_placed (get_or us i d) (accepted.units i d lt).rules)

  matched : IsMatched (said_program p)
  matched = whole_is_matched (said_program p) accepted.linked.whole

  clean_at : (u : ℕ) (v : RatRoutine) → slice_get us u ≡ Some v → unit_fault v ≡ None
  clean_at u v here = subst (λ (w : RatRoutine). unit_fault w ≡ None) (get_or_from_slice_get us u v v here) (accepted.units u v (slice_get_within us u v here)).rules

  -- the names of each body stand for something
  body_named : (u : ℕ) (v : RatRoutine) → slice_get us u ≡ Some v → slice_get rs u ≡ Some (said_routine v) → IsNamed rs u (Ours v.body)
  body_named u v here there =
      let U = names_in rs u in
      let Own : Type 0 = InUnit rs u (λ q. HasPlaces q (name_of q.header)) in
      let names = unit_named_so (said_program p) (placed_at rs placed) matched u (said_routine v) there in
      let value = returned_own rs u (said_routine v) there v.header refl in
      commands_used U Own v.body 0 (with_labels v.body no_label) (parts_used U Own v.header value (unit_parts v.body) (clean_is_proper v (clean_at u v here)) names)

  named : AreNamed rs (bodies_of us)
  named u r there = by_unit (slice_get us u) refl (sym (slice_get-map said_routine us u) ∙ there)
    where
      by_unit : (o : Option RatRoutine) → slice_get us u ≡ o → option_map said_routine o ≡ Some r → IsNamed rs u (elim o [ Some v ↦ Ours v.body | None ↦ Theirs [] ])
      by_unit None here e = no_some _ e
      by_unit (Some v) here e = body_named u v here (subst (λ (q : Routine). slice_get rs u ≡ Some q) (sym (some_same e)) there)

pub one_meaning : OneMeaning
one_meaning p a b accepted first second =
    first.is
    ∙ (λ i input most. ratfor_numbers_alone (said_program p) (placed p accepted) (matched p accepted) first.linkage second.linkage first.links second.links (bodies_of p.routines) (named p accepted) most input i)
    ∙ sym second.is
