-- The sizes of the blocks of a unit, by the seats of its rows.
use Rattle.std.proofs.Common.{◌≡◌, ◌≢◌, ◌<◌, ◌≤◌, ◌-◌, ◌∙◌, ◌⊎◌, ◌∷◌, [], inl, inr, ℕ, zero, suc, ℤ, pos, negsuc, ◌+ℤ◌, ◌-ℤ◌, ◌<ℤ◌, ◌≤ℤ◌, Bool, true, false, List, length, get_or, slice_index, Option, None, Some, unwrap_or, refl, sym, ap, subst, arith}
use Rattle.std.specs.Prelude.{MatchOption, ◌||◌}
use Rattle.std.specs.List.{list_any}
use Rattle.std.specs.Str.{bytes_eq}
use Rattle.std.proofs.lemmas.Bool.{cases_lt, false_from_ne_true}
use Rattle.std.proofs.lemmas.Int.{ints}
use Rattle.std.proofs.lemmas.Slice.Eq.{bytes_eq-Decides}
use Rattle.std.proofs.lemmas.List.Folds.{list_any_at}
use Rattle.f66_tree.specs.Syntax.{Text, Par, Area, Act, Common, Line, Routine}
use Rattle.f66_program.specs.Association.{Row, Own, Block, IsSame, IsReal, same_block, unit_ties}
use Rattle.f66_program.specs.Linking.{names_block, unit_names_block}
use Rattle.offset_classes.specs.declared.link.Seat.{Seat}
use Rattle.offset_classes.specs.Links.{IsLinked, class_in, offset_in}
use Rattle.storage_assoc.specs.Indexing.{row_at, AreIndexed}
use Rattle.storage_assoc.specs.Listings.{name_at}
use Rattle.storage_assoc.specs.Lists.{block_by}
use Rattle.storage_assoc.specs.Naming.{IsReady, AreListed, AreLabelled, HasBlocks, index_by}
use Rattle.storage_assoc.proofs.BridgeLemmas.{linked, same}
use Rattle.storage_assoc.proofs.NamingLemmas.{is_table}
use Rattle.storage_rules.specs.Blocks.{HasSize, AreSizes}
use Rattle.storage_rules.specs.Ends.{IsIn, end_of}
use Rattle.storage_rules.specs.Reach.{AreSeatsOf, IsReach, AreLabelSizes}

natural : (z : ℤ) → pos 0 ≤ℤ z → (n : ℕ) × (z ≡ pos n)
natural (pos n) l = (n, refl)
natural (negsuc n) l = absurd (omega (arith, ints, l))

-- what a list passes, one of it does
any_one : {X : Type 0} (test : X → Bool) (xs : List X) → list_any test xs ≡ true → (i : ℕ) × (d : X) × (i < length xs) × (test (get_or xs i d) ≡ true)
any_one test [] e = absurd (cc)
any_one {X} test (x ∷ xs) e = at (test x) refl (any_one test xs) e
  where
    at : (b : Bool) → test x ≡ b → (list_any test xs ≡ true → (i : ℕ) × (d : X) × (i < length xs) × (test (get_or xs i d) ≡ true)) → (b || list_any test xs) ≡ true →
        (i : ℕ) × (d : X) × (i < suc (length xs)) × (test (get_or (x ∷ xs) i d) ≡ true)
    at true t rest f = (0, x, omega arith, t)
    at false t rest f = (let h = rest f in (suc h.0, h.1, (let lt = h.2 in omega (arith, lt)), h.3))

module _ (r : Routine) (find blocks : Text → Option ℕ) (dims : Text → Option (List Par)) (sizes : List ℕ) (count : ℕ) (rows : List Row) (labels : List Text) (ready : IsReady r)
    (l : AreListed r find blocks dims sizes count rows) (b : AreLabelled r labels count rows) where
  -- a block that the unit names has a label

  block_rows : (q : Text) (a : Act) → names_block (Some q) a ≡ true → HasBlocks rows blocks a → row_at rows (block_by blocks (Some q)) ≡ Block (Some q)
  block_rows q (Common areas) e h =
      let w = any_one (λ (a : Area). same_block (Some q) a.name) areas e in
      let k = h w.0 w.1 w.2 in
      at (get_or areas w.0 w.1).name w.3 k
    where
      at : (o : Option Text) → same_block (Some q) o ≡ true → row_at rows (block_by blocks o) ≡ Block o → row_at rows (block_by blocks (Some q)) ≡ Block (Some q)
      at None s k = absurd (cc)
      at (Some x) s k = (let e : q ≡ x = (bytes_eq-Decides q x).0 s in subst (λ y. row_at rows (block_by blocks (Some y)) ≡ Block (Some y)) (sym e) k)
  block_rows q _ e h = absurd (cc)

  label_by : (q : Text) (i : ℕ) → i < count → row_at rows i ≡ Block (Some q) → (k : ℕ) × (k < length labels) × (name_at labels k ≡ q)
  label_by q zero lt e = absurd (let n : Block None ≡ Block (Some q) = sym b.blank ∙ e in cc)
  label_by q (suc k) lt e =
      let m = b.many in
      let k_in : k < length labels = omega (arith, lt, m) in
      let n : Block (Some (name_at labels k)) ≡ Block (Some q) = sym (b.each k k_in) ∙ e in
      (k, k_in, cc)

  pub label_of : (q : Text) → unit_names_block (Some q) r ≡ true → (k : ℕ) × (k < length labels) × (name_at labels k ≡ q)
  label_of q e =
      let w = any_one (λ (s : Line). names_block (Some q) s.act) r.lines e in
      label_by q (block_by blocks (Some q)) (l.blocks_inside (Some q)) (block_rows q (get_or r.lines w.0 w.1).act w.3 (l.all_blocks w.0 w.1 w.2))

  listed_if : (q : Text) (t : Bool) → unit_names_block (Some q) r ≡ t → list_any (bytes_eq q) labels ≡ t
  listed_if q true e =
      let k = label_of q e in
      list_any_at (bytes_eq q) labels k.0 [] k.1 ((bytes_eq-Decides q (name_at labels k.0)).1 (sym k.2))
  listed_if q false e = false_from_ne_true (list_any (bytes_eq q) labels) (λ t.
      let w = any_one (bytes_eq q) labels t in
      let same : q ≡ get_or labels w.0 w.1 = (bytes_eq-Decides q (get_or labels w.0 w.1)).0 w.3 in
      let at : name_at labels w.0 ≡ q = element labels w.0 w.1 w.2 ∙ sym same in
      let named = subst (λ x. unit_names_block (Some x) r ≡ true) at (b.named w.0 w.2) in
      cc)
    where
      element : (xs : List Text) (i : ℕ) (d : Text) → i < length xs → get_or xs i [] ≡ get_or xs i d
      element [] i d lt = absurd (omega (arith, lt))
      element (x ∷ xs) zero d lt = refl
      element (x ∷ xs) (suc i) d lt = element xs i d (omega (arith, lt))

  -- the labels are the blocks that the unit names
  pub labels_are : (q : Text) → list_any (bytes_eq q) labels ≡ unit_names_block (Some q) r
  labels_are q = listed_if q (unit_names_block (Some q) r) refl

  -- how far the class of a block reaches is its size

  module _ (seats : List Seat) (s : AreSeatsOf r find blocks dims sizes count seats) (k : ℕ) (k_in : k < length labels) (z : ℤ) (reach : IsReach seats sizes (suc k) z) where
    abbrev index : Row → ℕ
    index = index_by find blocks

    indexed : AreIndexed (unit_ties 0 r) s.links rows index count
    indexed = s.indexed rows index (is_table r find blocks dims sizes count rows ready l)

    row_in : suc k < length rows
    row_in = (let m = b.many in let f = l.few in omega (arith, k_in, m, f))

    block_index : index (Block (Some (name_at labels k))) ≡ suc k
    block_index = ap index (sym (b.each k k_in)) ∙ indexed.numbered (suc k) row_in

    name_index : (x : Text) (i : ℕ) → find x ≡ Some i → index (Own 0 x) ≡ i
    name_index x i e = ap (λ o. unwrap_or o 0) e

    within : (n : ℕ) → z ≡ pos n → (x : Text) (o : ℕ) (d : ℤ) → IsReal (r ∷ []) 0 x o → IsSame (unit_ties 0 r) (Own 0 x) (Block (Some (name_at labels k))) d → (pos o +ℤ d) <ℤ pos n
    within n e x o d real way =
        let t = is_table r find blocks dims sizes count rows ready l in
        let w = t.sized.real 0 x o real in
        let f = t.sized.finds 0 x w.0 w.1 in
        let m = t.sized.many in
        let link = linked (unit_ties 0 r) s.links rows index count indexed way in
        let link' = subst (λ i. IsLinked s.links i (index (Block (Some (name_at labels k)))) d) (name_index x w.0 w.1) link in
        let link'' = subst (λ j. IsLinked s.links w.0 j d) block_index link' in
        let at = s.seated.whole w.0 (suc k) d link'' in
        let many = s.many in
        let i_in : w.0 < length seats = (let lt = f.0 in omega (arith, lt, m, many)) in
        let o_in = w.2 in
        let some : 0 < slice_index sizes w.0 = omega (arith, o_in) in
        let far = reach.within w.0 (i_in, at.0, some) in
        let by = at.1 in
        omega (arith, ints, far, by, e, o_in)

    reached : (n : ℕ) → z ≡ pos n → (n ≡ 0) ⊎ ((x : Text) × (o : ℕ) × (d : ℤ) × IsReal (r ∷ []) 0 x o × IsSame (unit_ties 0 r) (Own 0 x) (Block (Some (name_at labels k))) d × (pos o +ℤ d +ℤ pos 1 ≡ pos n))
    reached n e = elim reach.reached [
      | inl none ↦ inl (omega (arith, ints, none, e))
      | inr w ↦ inr (last w.0 w.1 w.2)
    ]
      where
        last : (i : ℕ) → IsIn seats sizes (length seats) (class_in seats (suc k)) i → end_of seats sizes i -ℤ offset_in seats (suc k) ≡ z →
            (x : Text) × (o : ℕ) × (d : ℤ) × IsReal (r ∷ []) 0 x o × IsSame (unit_ties 0 r) (Own 0 x) (Block (Some (name_at labels k))) d × (pos o +ℤ d +ℤ pos 1 ≡ pos n)
        last i h far =
            let t = is_table r find blocks dims sizes count rows ready l in
            let many = s.many in
            let m = t.sized.many in
            let i_in = h.0 in
            let some = h.2 in
            let r_in : i < length rows = omega (arith, i_in, many, m) in
            let k_row = row_in in
            let b_in : suc k < length seats = omega (arith, k_row, many, m) in
            let behind : count ≤ i = elim (cases_lt i count) [
              | inl lt ↦ absurd (let z = (l.block i lt).3 in omega (arith, some, z))
              | inr ge ↦ ge
            ] in
            let name = l.name i behind r_in in
            let o = slice_index sizes i - 1 in
            let o_in : o < slice_index sizes i = omega (arith, some) in
            let one = t.sized.only i o r_in o_in in
            let same_row : Own one.0 one.1 ≡ Own 0 name.0 = sym one.2 ∙ name.1 in
            let unit : one.0 ≡ 0 = cc in
            let text : one.1 ≡ name.0 = cc in
            let real : IsReal (r ∷ []) 0 name.0 o = subst (λ y. IsReal (r ∷ []) 0 y o) text (subst (λ u. IsReal (r ∷ []) u one.1 o) unit one.3) in
            let link = s.seated.sound i (suc k) i_in b_in h.1 in
            let d = offset_in seats i -ℤ offset_in seats (suc k) in
            let way = same (unit_ties 0 r) s.links rows index count indexed link in
            let way' = subst (λ y. IsSame (unit_ties 0 r) (row_at rows i) y d) (b.each k k_in) way in
            let way'' = subst (λ y. IsSame (unit_ties 0 r) y (Block (Some (name_at labels k))) d) name.1 way' in
            (name.0, o, d, real, way'', omega (arith, ints, far, e, some))

    pub has_size : HasSize r (name_at labels k) z
    has_size = (let n = natural z reach.low in (n.0, n.1, record { within = within n.0 n.1; reached = reached n.0 n.1 }))

  pub are_sizes : (seats : List Seat) → AreSeatsOf r find blocks dims sizes count seats → (get : Text → Option ℤ) → AreLabelSizes seats sizes labels (length labels) get → AreSizes r get
  are_sizes seats s get h q = at (get q) (h q)
    where
      at : (o : Option ℤ) → MatchOption o ((k : ℕ) → k < length labels → name_at labels k ≢ q) (λ z. (k : ℕ) × (k < length labels) × (name_at labels k ≡ q) × IsReach seats sizes (suc k) z) →
          MatchOption o (unit_names_block (Some q) r ≡ false) (λ z. (unit_names_block (Some q) r ≡ true) × HasSize r q z)
      at None f = false_from_ne_true (unit_names_block (Some q) r) (λ e. (let k = label_of q e in f k.0 k.1 k.2))
      at (Some z) w = (subst (λ x. unit_names_block (Some x) r ≡ true) w.2 (b.named w.0 w.1), subst (λ x. HasSize r x z) w.2 (has_size seats s w.0 w.1 z w.3))
