-- What the tables of a linked program's units keep.
use Rattle.std.proofs.Common.{◌≡◌, ◌<◌, ℕ, List, Some, length, map, slice_index_or, sym, ap, ◌∙◌, arith}
use Rattle.std.specs.List.{slice_get}
use Rattle.std.proofs.lemmas.List.{length-map}
use Rattle.std.proofs.lemmas.Simd.{map-map}
use Rattle.f66_tree.specs.declared.unit.Unit.{Unit as AUnit}
use Rattle.f66_tree.specs.Syntax.{Text}
use Rattle.f66_tree.specs.Units.{Context, dummies_of, kind_of, position, sizes_of}
use Rattle.f66_tree.specs.Views.{routine_of}
use Rattle.f66_program.specs.Mentions.{context_of}
use Rattle.linker.specs.CallViews.{units_in}
use Rattle.linker.proofs.PartLemmas.{got_mapped, got_inside}
use Rattle.program_storage.specs.Numbers.{number_in_program}
use Rattle.whole_program.specs.declared.linked.Linked.{Linked}
use Rattle.whole_program.specs.Linked.{IsLinked, found_in}
use Rattle.whole_program.specs.Linkage.{context_or}
use Rattle.code_layout.specs.declared.unit_tables.UnitTables.{UnitTables}
use Rattle.code_layout.specs.Same.{AreSame}
use Rattle.code_layout.proofs.RankedLemmas.{named_unit}

are_same : (a b : Context) → a ≡ b → AreSame a b
are_same a b e = (λ q. ap (λ c. sizes_of q c.notes) e, λ q. ap (λ c. kind_of c q) e, λ q. ap (λ c. position q (dummies_of c.header)) e)

module _ (items : List UnitTables) (us : List AUnit) (are : map (λ t. t.unit.now) items ≡ us) where
  pub as_many : length items ≡ length us
  as_many = sym (length-map items (λ t. t.unit.now)) ∙ ap length are

  pub tables_same : (u : ℕ) (x : UnitTables) → u < length items → x ≡ slice_index_or items u x → AreSame (context_of (routine_of x.unit.now)) (context_or (slice_get (map routine_of us) u))
  tables_same u x lt is =
      let there : slice_get (map routine_of us) u ≡ Some (routine_of x.unit.now) =
      ap (λ vs. slice_get (map routine_of vs) u) (sym are) ∙ ap (λ vs. slice_get vs u) (map-map routine_of (λ (t : UnitTables). t.unit.now) items) ∙ got_mapped (λ (t : UnitTables). routine_of t.unit.now) items u x lt is in
      are_same (context_of (routine_of x.unit.now)) (context_or (slice_get (map routine_of us) u)) (sym (ap context_or there))

module _ (l : Linked) (t : IsLinked (units_in l.calls) l) where
  -- what a name calls is one of the units
  pub found_below : (x : Text) (v : ℕ) → found_in l x ≡ Some v → v < length l.calls.units.now
  found_below x v e =
      let n = named_unit x (units_in l.calls) v (sym (t.calls.numbers x) ∙ e) in
      let inside = got_inside (units_in l.calls) v n.0 n.1 in
      let many : length (units_in l.calls) ≡ length l.calls.units.now = length-map l.calls.units.now routine_of in
      omega (arith, inside, many)

  -- numbers are below the count of the storage units
  pub number_below : (most : ℕ) → l.storage.total < most → (u : ℕ) (x : Text) (o n : ℕ) → number_in_program l.storage u x o ≡ Some n → n < most
  number_below most few u x o n e =
      let b = t.numbering.below u x o (t.numbering.real u x o n e) in
      let same : n ≡ b.0 = (let f : Some n ≡ Some b.0 = sym e ∙ b.1 in cc) in
      let lt = b.2 in
      omega (arith, few, same, lt)
