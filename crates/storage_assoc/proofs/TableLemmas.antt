-- What the table and the links of a unit say of its association.
use Rattle.std.proofs.Common.{◌≡◌, ◌<◌, ◌≤◌, ◌+◌, ◌-◌, ◌⊎◌, inl, inr, ℕ, zero, suc, ℤ, pos, List, [], ◌∷◌, ◌++◌, length, map, take, drop, slice_index, Option, Some, sym, ◌∙◌, ap, refl, arith, append_assoc, subst}
use Rattle.std.proofs.lemmas.Int.{ints}
use Rattle.std.proofs.lemmas.Bool.{lt-ltb}
use Rattle.std.proofs.lemmas.List.{append-nil, take-append-drop}
use Rattle.std.proofs.lemmas.List.Elements.{All-map, All-weaker, All-contains_itself, Contains-append_left}
use Rattle.std.proofs.Math.Seq.{take-length}
use Rattle.std.specs.List.{All, Contains}
use Rattle.f66_tree.specs.Syntax.{Text, Par, Line, Routine}
use Rattle.f66_tree.specs.Units.{Context}
use Rattle.f66_program.specs.Mentions.{context_of}
use Rattle.f66_program.specs.Association as assoc
use Rattle.f66_program.specs.Association.{Row, Block, Tie, IsSame, by_tie, itself, back, onward, AreBad, twice, joined, before, Filled, not_filled, act_ties, act_filled, line_ties, unit_ties, ties_up_to, ties_of, IsNumbering}
use Rattle.offset_classes.specs.declared.link.Link.{Link}
use Rattle.offset_classes.specs.Links.{IsBad, IsWithin, IsFirstBad}
use Rattle.storage_assoc.specs.Indexing.{link_by, AreIndexed}
use Rattle.ground.specs.declared.fault.Fault.{Fault}
use Rattle.ground.specs.declared.fault.FaultKind.TheVariants.{Limit}
use Rattle.f66_program.specs.Linking.{first_of, place_of_part}
use Rattle.storage_assoc.specs.Answers.{NumberRightly}
use Rattle.storage_assoc.specs.Associating.{IsAssociated, IsLimitFault, most_units, number_in_unit}
use Rattle.storage_assoc.specs.Numbering.{number_in, number_by}
use Rattle.storage_assoc.specs.Tables.{IsTable, rows_in_unit}
use Rattle.storage_assoc.specs.Walks.{IsWalked, lines_filled}
use Rattle.storage_assoc.proofs.BridgeLemmas.{bad_links, bad_ties}

-- with no ties a row is the same as itself alone
alone : {a b : Row} {d : ℤ} → IsSame [] a b d → (a ≡ b) × (d ≡ pos 0)
alone (by_tie t c) = absurd (let l = c.1 in omega (arith, l))
alone (itself a) = (refl, refl)
alone (back h) = (let w = alone h in (sym w.0, omega (arith, ints, w.1)))
alone (onward h k) = (let v = alone h in let w = alone k in (v.0 ∙ w.0, omega (arith, ints, v.1, w.1)))

pub no_ties : ¬ AreBad []
no_ties (twice ne h) = ne (alone h).1
no_ties (joined ne h) = (let e = (alone h).0 in ne (cc))
no_ties (before less h) = (let e = (alone h).1 in omega (arith, ints, less, e))

line_ties-append : (u : ℕ) (c : Context) (f : Filled) (xs ys : List Line) → line_ties u c f (xs ++ ys) ≡ line_ties u c f xs ++ line_ties u c (lines_filled c f xs) ys
line_ties-append u c f [] ys = refl
line_ties-append u c f (s ∷ xs) ys = ap (λ ts. act_ties u c f s.act ++ ts) (line_ties-append u c (act_filled c f s.act) xs ys) ∙ sym (append_assoc (act_ties u c f s.act) _ _)

pub earlier_tie : (u : ℕ) (c : Context) (f : Filled) (lines : List Line) (n : ℕ) (t : Tie) → Contains (line_ties u c f (take n lines)) t → Contains (line_ties u c f lines) t
earlier_tie u c f lines n t k =
    subst (λ ls. Contains (line_ties u c f ls) t) (take-append-drop n lines) (subst (λ ts. Contains ts t) (sym (line_ties-append u c f (take n lines) (drop n lines))) (Contains-append_left _ _ t k))

module _ (r : Routine) (find blocks : Text → Option ℕ) (dims : Text → Option (List Par)) (sizes : List ℕ) (count : ℕ) (rows : List Row) (index : Row → ℕ) (t : IsTable r find blocks dims sizes count rows index)
    (fills : List ℕ) (links : List Link) (counts : List ℕ) (w : IsWalked 0 (context_of r) rows index r.lines fills links counts) where
  pub indexed : AreIndexed (unit_ties 0 r) links rows index count
  indexed = record {
    links_are = w.links_are;
    from_in = t.from_in;
    to_in = t.to_in;
    numbered = t.numbered;
    few = t.few;
    first = t.first;
    blocks_first = t.blocks_first;
  }

  pub indexed_of : AreIndexed (ties_of (r ∷ [])) links rows index count
  indexed_of = subst (λ ts. AreIndexed ts links rows index count) (sym (append-nil (unit_ties 0 r))) indexed

  pub indexed_up_to : (i : ℕ) → i < length r.lines → AreIndexed (ties_up_to 0 r (suc i)) (take (slice_index counts i) links) rows index count
  indexed_up_to i i_in = record {
    links_are = w.up_to i i_in;
    from_in = λ k k_in. t.from_in k (earlier_tie 0 (context_of r) not_filled r.lines (suc i) k k_in);
    to_in = λ k k_in. t.to_in k (earlier_tie 0 (context_of r) not_filled r.lines (suc i) k k_in);
    numbered = t.numbered;
    few = t.few;
    first = t.first;
    blocks_first = t.blocks_first;
  }

  pub within : All (IsWithin (length sizes)) links
  within =
      let m = t.sized.many in
      subst (All (IsWithin (length sizes))) (sym w.links_are)
      (All-map (IsWithin (length sizes)) (link_by index) (unit_ties 0 r) (All-weaker (Contains (unit_ties 0 r)) (λ k. IsWithin (length sizes) (link_by index k))
      (λ k k_in. (rw m (t.from_in k k_in).inside, rw m (t.to_in k k_in).inside)) (unit_ties 0 r) (All-contains_itself (unit_ties 0 r))))

  -- bad links are bad at the last statement
  some_lines : (lines : List Line) → ¬ AreBad (line_ties 0 (context_of r) not_filled lines) ⊎ (0 < length lines)
  some_lines [] = inl no_ties
  some_lines (s ∷ lines) = inr (omega arith)

  pub some_counts : IsBad count links → 0 < length counts
  some_counts b = elim (some_lines r.lines) [
    | inl good ↦ absurd (good (bad_ties (unit_ties 0 r) links rows index count indexed b))
    | inr some ↦ rw w.many some
  ]

  pub bad_at_last : IsBad count links → IsBad count (take (slice_index counts (length counts - 1)) links)
  bad_at_last b =
      let some = some_counts b in
      let m = w.many in
      let last : length counts - 1 < length r.lines = omega (arith, some, m) in
      let whole : suc (length counts - 1) ≡ length r.lines = omega (arith, some, m) in
      let all : take (slice_index counts (length counts - 1)) links ≡ links =
      w.up_to (length counts - 1) last ∙ ap (λ n. map (link_by index) (line_ties 0 (context_of r) not_filled (take n r.lines))) whole
      ∙ ap (λ ls. map (link_by index) (line_ties 0 (context_of r) not_filled ls)) (take-length r.lines) ∙ sym w.links_are in
      rw all b

  pub well : ¬ IsBad count links → ¬ AreBad (unit_ties 0 r)
  well ok b = ok (bad_links (unit_ties 0 r) links rows index count indexed b)

  -- the first step at which the links are bad is the first statement at which the unit is
  earlier_good : (step : ℕ) → IsFirstBad count links counts step → ¬ AreBad (ties_up_to 0 r step)
  earlier_good zero f = no_ties
  earlier_good (suc k) f = λ b.
      let inside : k < length r.lines = (let i = f.inside in let m = w.many in omega (arith, i, m)) in
      f.earlier k (omega arith) (bad_links (ties_up_to 0 r (suc k)) (take (slice_index counts k) links) rows index count (indexed_up_to k inside) b)

  pub first_bad : (step : ℕ) → IsFirstBad count links counts step → assoc.IsFirstBad r step
  first_bad step f =
      let inside : step < length r.lines = rw w.many at f.inside in
      record {
        inside = inside;
        bad = bad_ties (ties_up_to 0 r (suc step)) (take (slice_index counts step) links) rows index count (indexed_up_to step inside) f.bad;
        earlier = earlier_good step f;
      }

-- the numbers of a unit's rows are those of a program with this unit alone

abbrev pub number_of_row : (Text → Option ℕ) → List ℕ → List ℕ → Text → ℕ → Option ℕ
number_of_row find sizes firsts x o = number_in sizes firsts o (find x)

same_number : (find : Text → Option ℕ) (sizes firsts : List ℕ) (u : ℕ) (x : Text) (o : ℕ) →
    number_by (rows_in_unit find) sizes firsts u x o ≡ number_in_unit (number_of_row find sizes firsts) u x o
same_number find sizes firsts zero x o = refl
same_number find sizes firsts (suc u) x o = refl

same_numbers : (find : Text → Option ℕ) (sizes firsts : List ℕ) → number_by (rows_in_unit find) sizes firsts ≡ number_in_unit (number_of_row find sizes firsts)
same_numbers find sizes firsts = λ i u x o. same_number find sizes firsts u x o i

module _ (r : Routine) (find blocks : Text → Option ℕ) (dims : Text → Option (List Par)) (sizes : List ℕ) (count : ℕ) (rows : List Row) (index : Row → ℕ) (t : IsTable r find blocks dims sizes count rows index)
    (fills : List ℕ) (links : List Link) (counts : List ℕ) (w : IsWalked 0 (context_of r) rows index r.lines fills links counts) (firsts : List ℕ) (total : ℕ) (n : NumberRightly count links sizes firsts total) where
  pub numbering : IsNumbering (r ∷ []) (number_in_unit (number_of_row find sizes firsts)) total
  numbering =
      subst (λ f. IsNumbering (r ∷ []) f total) (same_numbers find sizes firsts)
      (n (r ∷ []) rows index (rows_in_unit find) (indexed_of r find blocks dims sizes count rows index t fills links counts w) t.sized).0

  pub good : ¬ AreBad (unit_ties 0 r)
  good = subst (λ ts. ¬ AreBad ts) (append-nil (unit_ties 0 r)) (n (r ∷ []) rows index (rows_in_unit find) (indexed_of r find blocks dims sizes count rows index t fills links counts w) t.sized).1

  pub associated : total ≤ most_units → IsAssociated r (number_of_row find sizes firsts) total
  associated few = record { well = good; numbering = numbering; few = few }

  pub too_many : (f : Fault) → f.kind ≡ Limit → f.number ≡ 8 → place_of_part r (first_of r) ≡ Some f.place → most_units < total → IsLimitFault r f
  too_many f kind number place large = record {
    kind = kind;
    number = number;
    well = good;
    total = total;
    has = (number_in_unit (number_of_row find sizes firsts), numbering);
    large = large;
    place = place;
  }

-- the number of a place is below the total
pub number_below : (r : Routine) (find : Text → Option ℕ) (sizes firsts : List ℕ) (total : ℕ) → IsAssociated r (number_of_row find sizes firsts) total → (x : Text) (i o : ℕ) → find x ≡ Some i →
    o < slice_index sizes i → slice_index firsts i + o ≤ most_units
number_below r find sizes firsts total a x i o e o_in =
    let is : number_of_row find sizes firsts x o ≡ Some (slice_index firsts i + o) = rw e (rw (lt-ltb o (slice_index sizes i) o_in) refl) in
    let b = a.numbering.below 0 x o (a.numbering.real 0 x o (slice_index firsts i + o) is) in
    let same : Some b.0 ≡ Some (slice_index firsts i + o) = sym b.1 ∙ is in
    let n : b.0 ≡ slice_index firsts i + o = cc in
    let l = b.2 in
    let f = a.few in
    omega (arith, n, l, f)
