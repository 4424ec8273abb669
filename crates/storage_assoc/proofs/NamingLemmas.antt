-- A list of the blocks and names of a unit is its table.
use Rattle.std.proofs.Common.{◌≡◌, ◌<◌, ◌+◌, ℕ, zero, suc, true, List, [], ◌∷◌, length, slice_index, Option, None, Some, unwrap_or, sym, ◌∙◌, ap, refl, arith, inl, inr}
use Rattle.std.proofs.lemmas.Bool.{cases_lt}
use Rattle.std.proofs.lemmas.List.Elements.{All-nil, All-cons, All-append, All-map, All-contains}
use Rattle.std.specs.List.{All, Contains, flat_map}
use Rattle.f66_tree.specs.Syntax.{Text, Formula, Ref, Item, Par, Declared, Area, Act, Common, Equivalence, Line, Routine}
use Rattle.f66_program.specs.Mentions.{context_of, has_places}
use Rattle.f66_program.specs.Association.{Row, Own, Block, Tie, Filled, filled, not_filled, size_in, list_ties, list_end, area_ties, Member, member_of, tie_members, group_ties, act_ties, act_filled, line_ties, unit_ties, IsReal}
use Rattle.storage_assoc.specs.Indexing.{row_at, IsListed}
use Rattle.storage_assoc.specs.Numbering.{AreSized}
use Rattle.storage_assoc.specs.Lists.{block_by, row_by}
use Rattle.storage_assoc.specs.Groups.{IsMemberTabled}
use Rattle.storage_assoc.specs.Walks.{IsActTabled}
use Rattle.storage_assoc.specs.Tables.{IsTable, rows_in_unit}
use Rattle.storage_assoc.specs.Naming.{IsReady, IsMemberReady, IsActReady, HasBlocks, AreListed, index_by}

module _ (r : Routine) (find blocks : Text → Option ℕ) (dims : Text → Option (List Par)) (sizes : List ℕ) (count : ℕ) (rows : List Row) (ready : IsReady r) (l : AreListed r find blocks dims sizes count rows) where
  found : (x : Text) (i : ℕ) → find x ≡ Some i → row_by find x ≡ i
  found x i e = ap (λ o. unwrap_or o 0) e

  numbered : (i : ℕ) → i < length rows → index_by find blocks (row_at rows i) ≡ i
  numbered i i_in = elim (cases_lt i count) [
    | inl k ↦ (let b = l.block i k in ap (index_by find blocks) b.1 ∙ b.2)
    | inr k ↦ (let n = l.name i (omega (arith, k)) i_in in ap (index_by find blocks) n.1 ∙ found n.0 i n.2)
  ]

  name_listed : (x : Text) → has_places r x ≡ true → IsListed rows (index_by find blocks) (Own 0 x)
  name_listed x p =
      let f = l.names x p in
      let e = found x f.0 f.1 in
      let g = l.row x f.0 f.1 in
      record { inside = rw e g.0; back = ap (row_at rows) e ∙ g.1 }

  block_listed : (b : Option Text) → row_at rows (block_by blocks b) ≡ Block b → IsListed rows (index_by find blocks) (Block b)
  block_listed b e = record { inside = (let i = l.blocks_inside b in let f = l.few in omega (arith, i, f)); back = e }

  size_is : (x : Text) → has_places r x ≡ true → size_in (context_of r) x ≡ slice_index sizes (row_by find x)
  size_is x p = (let f = l.names x p in rw (found x f.0 f.1) (l.size x f.0 f.1))

  member_tabled : (e : Formula) → IsMemberReady r e → IsMemberTabled 0 (context_of r) (index_by find blocks) find dims e
  member_tabled (Ref x) p = refl
  member_tabled (Item x es) p = (refl, l.shape x p)
  member_tabled _ p = tt

  act_tabled : (a : Act) → IsActReady r a → HasBlocks rows blocks a → IsActTabled 0 (context_of r) rows (index_by find blocks) find blocks dims sizes a
  act_tabled (Common areas) p h = λ k d lt. (block_listed _ (h k d lt), refl, λ k' d' lt'. (refl, size_is _ (p k d lt k' d' lt')))
  act_tabled (Equivalence groups) p h = λ k d lt k' d' lt'. member_tabled _ (p k d lt k' d' lt')
  act_tabled _ p h = tt

  -- the rows of the ties are listed

  abbrev IsListedTie : Tie → Type 0
  IsListedTie t = IsListed rows (index_by find blocks) t.from × IsListed rows (index_by find blocks) t.to

  ties_of_list : (b : Option Text) (at : ℕ) (ds : List Declared) → IsListed rows (index_by find blocks) (Block b) → All (λ d. has_places r d.name ≡ true) ds →
      All IsListedTie (list_ties 0 (context_of r) b at ds)
  ties_of_list b at [] k p = All-nil IsListedTie
  ties_of_list b at (d ∷ ds) k p =
      All-cons IsListedTie _ (list_ties 0 (context_of r) b (at + size_in (context_of r) d.name) ds) (name_listed d.name (p 0 d (omega arith)), k)
      (ties_of_list b (at + size_in (context_of r) d.name) ds k (λ i e lt. p (suc i) e (omega (arith, lt))))

  ties_of_areas : (f : Filled) (areas : List Area) → All (λ a. row_at rows (block_by blocks a.name) ≡ Block a.name) areas → All (λ a. All (λ d. has_places r d.name ≡ true) a.list) areas →
      All IsListedTie (area_ties 0 (context_of r) f areas)
  ties_of_areas f [] h p = All-nil IsListedTie
  ties_of_areas f (a ∷ areas) h p =
      All-append IsListedTie (list_ties 0 (context_of r) a.name (f a.name) a.list) _
      (ties_of_list a.name (f a.name) a.list (block_listed a.name (h 0 a (omega arith))) (p 0 a (omega arith)))
      (ties_of_areas (filled a.name (list_end (context_of r) (f a.name) a.list) f) areas (λ i e lt. h (suc i) e (omega (arith, lt))) (λ i e lt. p (suc i) e (omega (arith, lt))))

  abbrev IsListedMember : Member → Type 0
  IsListedMember m = IsListed rows (index_by find blocks) (Own 0 m.name)

  members_of_one : (e : Formula) → IsMemberReady r e → All IsListedMember (member_of (context_of r) e)
  members_of_one (Ref x) p = All-cons IsListedMember _ [] (name_listed x p) (All-nil IsListedMember)
  members_of_one (Item x es) p = All-cons IsListedMember _ [] (name_listed x p) (All-nil IsListedMember)
  members_of_one _ p = All-nil IsListedMember

  members_of_group : (es : List Formula) → All (IsMemberReady r) es → All IsListedMember (flat_map (member_of (context_of r)) es)
  members_of_group [] p = All-nil IsListedMember
  members_of_group (e ∷ es) p =
      All-append IsListedMember (member_of (context_of r) e) _ (members_of_one e (p 0 e (omega arith))) (members_of_group es (λ i d lt. p (suc i) d (omega (arith, lt))))

  ties_of_group : (ms : List Member) → All IsListedMember ms → All IsListedTie (group_ties 0 ms)
  ties_of_group [] p = All-nil IsListedTie
  ties_of_group (m ∷ ms) p = All-map IsListedTie (tie_members 0 m) ms (λ i d lt. (p 0 m (omega arith), p (suc i) d (omega (arith, lt))))

  ties_of_groups : (groups : List (List Formula)) → All (All (IsMemberReady r)) groups → All IsListedTie (flat_map (λ es. group_ties 0 (flat_map (member_of (context_of r)) es)) groups)
  ties_of_groups [] p = All-nil IsListedTie
  ties_of_groups (es ∷ groups) p =
      All-append IsListedTie (group_ties 0 (flat_map (member_of (context_of r)) es)) _ (ties_of_group (flat_map (member_of (context_of r)) es) (members_of_group es (p 0 es (omega arith))))
      (ties_of_groups groups (λ i d lt. p (suc i) d (omega (arith, lt))))

  ties_of_act : (f : Filled) (a : Act) → IsActReady r a → HasBlocks rows blocks a → All IsListedTie (act_ties 0 (context_of r) f a)
  ties_of_act f (Common areas) p h = ties_of_areas f areas h p
  ties_of_act f (Equivalence groups) p h = ties_of_groups groups p
  ties_of_act f _ p h = All-nil IsListedTie

  ties_of_lines : (f : Filled) (lines : List Line) → All (λ s. IsActReady r s.act) lines → All (λ s. HasBlocks rows blocks s.act) lines → All IsListedTie (line_ties 0 (context_of r) f lines)
  ties_of_lines f [] p h = All-nil IsListedTie
  ties_of_lines f (s ∷ lines) p h =
      All-append IsListedTie (act_ties 0 (context_of r) f s.act) _ (ties_of_act f s.act (p 0 s (omega arith)) (h 0 s (omega arith)))
      (ties_of_lines (act_filled (context_of r) f s.act) lines (λ i d lt. p (suc i) d (omega (arith, lt))) (λ i d lt. h (suc i) d (omega (arith, lt))))

  tie_listed : (t : Tie) → Contains (unit_ties 0 r) t → IsListedTie t
  tie_listed t k = All-contains IsListedTie (unit_ties 0 r) t (ties_of_lines not_filled r.lines ready.tied l.all_blocks) k

  inside_by : (x : Text) (o : Option ℕ) → find x ≡ o → unwrap_or o 0 < length sizes
  inside_by x None e = (let s = l.some in let f = l.few in let m = l.many in omega (arith, s, f, m))
  inside_by x (Some i) e = rw l.many (l.row x i e).0

  finds_by : (u : ℕ) (x : Text) (i : ℕ) → rows_in_unit find u x ≡ Some i → (i < length rows) × (row_at rows i ≡ Own u x)
  finds_by zero x i e = (let g = l.row x i e in (g.0, g.1))
  finds_by (suc u) x i e = absurd (cc)

  real_by : (u : ℕ) (x : Text) (o : ℕ) → IsReal (r ∷ []) u x o → (i : ℕ) × (rows_in_unit find u x ≡ Some i) × (o < slice_index sizes i)
  real_by zero x o k =
      let same : r ≡ k.unit = (let e : Some r ≡ Some k.unit = k.here in cc) in
      let p : has_places r x ≡ true = rw same k.named in
      let f = l.names x p in
      (f.0, f.1, rw (sym (l.size x f.0 f.1), same) k.inside)
  real_by (suc u) x o k = absurd (let e : None ≡ Some k.unit = k.here in cc)

  sized : AreSized (r ∷ []) rows (rows_in_unit find) sizes
  sized = record {
    many = l.many;
    finds = finds_by;
    real = real_by;
    only = λ i o i_in o_in. elim (cases_lt i count) [
      | inl k ↦ absurd (let z = (l.block i k).3 in omega (arith, z, o_in))
      | inr k ↦
          let n = l.name i (omega (arith, k)) i_in in
          let g = l.row n.0 i n.2 in
          let s = l.size n.0 i n.2 in
          (0, n.0, n.1, record { unit = r; here = refl; named = g.2; inside = rw s o_in })
    ];
  }

  pub is_table : IsTable r find blocks dims sizes count rows (index_by find blocks)
  is_table = record {
    numbered = numbered;
    few = l.few;
    first = λ i k. (let b = l.block i k in (b.0, b.1));
    blocks_first = λ b h. l.blocks_inside b;
    from_in = λ t k. (tie_listed t k).0;
    to_in = λ t k. (tie_listed t k).1;
    tabled = λ k d lt. act_tabled _ (ready.tied k d lt) (l.all_blocks k d lt);
    sized = sized;
    inside = λ x. inside_by x (find x) refl;
    blocks_inside = l.blocks_inside;
    small = l.small;
    bounded = l.bounded;
  }
