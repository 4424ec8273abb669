-- The rows and links of the first units, in memory: one unit more, and what they say of all units.
use Rattle.std.proofs.Common.{◌≡◌, ◌<◌, ◌+◌, ◌-◌, ◌||◌, ◌∙◌, ℕ, zero, suc, Bool, true, false, List, [], ◌∷◌, ◌++◌, get_or, length, map, drop, slice_index, Option, None, Some, option_map, ap, refl, sym, subst, arith}
use Rattle.std.proofs.lemmas.Bool.{lt-ltb}
use Rattle.std.proofs.lemmas.List.{length-append}
use Rattle.std.proofs.lemmas.List.Elements.{All-map, All-weaker, All-contains_itself}
use Rattle.std.specs.Prelude.{MatchOption}
use Rattle.std.specs.HashMap.{get_by}
use Rattle.std.specs.Str.{bytes_eq}
use Rattle.std.specs.List.{All, Contains, list_any, slice_get}
use Rattle.f66_tree.specs.Syntax.{Text, Par, Routine}
use Rattle.f66_program.specs.Mentions.{context_of, has_places}
use Rattle.f66_program.specs.Association.{Row, IsBadUnit, IsNumbering, size_in, ties_of}
use Rattle.f66_program.specs.Linking.{unit_names_block}
use Rattle.f66_program.proofs.ProgramLemmas.{well_together}
use Rattle.offset_classes.specs.declared.link.Link.{Link}
use Rattle.offset_classes.specs.Links.{IsWithin}
use Rattle.storage_assoc.specs.Answers.{NumberRightly, RefuseRightly}
use Rattle.storage_assoc.specs.Indexing.{AreIndexed, link_by}
use Rattle.storage_assoc.specs.Listings.{is_found}
use Rattle.storage_assoc.specs.Naming.{IsReady, AreListed, AreLabelled, index_by}
use Rattle.storage_assoc.specs.Numbering.{number_by}
use Rattle.storage_assoc.proofs.NamingLemmas.{is_table}
use Rattle.program_storage.specs.declared.unit_rows.UnitRows.{UnitRows}
use Rattle.program_storage.specs.declared.program_rows.ProgramRows.{ProgramRows}
use Rattle.program_storage.specs.declared.spot.Spot.{Spot}
use Rattle.program_storage.specs.Numbers.{HaveSpotsBy, IsSpotBy}
use Rattle.program_storage.specs.Parts.{ArePart, find_in, found_in}
use Rattle.program_storage.specs.Rows.{AreRowsOf, AreLinked, index_in}
use Rattle.program_storage.specs.Whole.{AreUnitLinks, AreWhole}
use Rattle.program_storage.proofs.StepLemmas.{got_before, got_last, got_behind, new_rows, rows_more, links_more}

module _ (rs : List Routine) (blocks : Text → Option ℕ) (count : ℕ) (p q : ProgramRows) (part : ArePart rs blocks count p)
    (r : Routine) (ublocks : Text → Option ℕ) (dims : Text → Option (List Par)) (usizes : List ℕ) (ucount : ℕ) (urows : List Row) (labels : List Text) (ready : IsReady r) (unit : UnitRows)
    (l : AreListed r (λ x. get_by (λ k. bytes_eq x k.now) unit.rows) ublocks dims usizes ucount urows) (b : AreLabelled r labels ucount urows)
    (w : AreWhole blocks labels (length p.sizes.items) (length usizes - ucount) unit.whole.items) (named : (q : Text) → unit_names_block (Some q) r ≡ true → is_found (blocks q) ≡ true)
    (links : AreUnitLinks (λ x. get_by (λ k. bytes_eq x k.now) unit.rows) ublocks dims usizes r.lines unit.whole.items p.links.items q.links.items)
    (units_are : q.units.items ≡ p.units.items ++ unit ∷ []) (sizes_are : q.sizes.items ≡ p.sizes.items ++ drop ucount usizes) where
  before : (u : ℕ) (x : Text) → u < length rs → find_in q.units.items u x ≡ find_in p.units.items u x
  before u x lt = ap (λ us. find_in us u x) units_are ∙ ap (found_in x) (got_before p.units.items (unit ∷ []) u (rw part.many lt))

  here : (x : Text) → find_in q.units.items (length rs) x ≡ option_map (slice_index unit.whole.items) (get_by (λ k. bytes_eq x k.now) unit.rows)
  here x = ap (λ us. find_in us (length rs) x) units_are ∙ ap (λ n. find_in (p.units.items ++ unit ∷ []) n x) (sym part.many) ∙ ap (found_in x) (got_last p.units.items unit)

  behind : (u : ℕ) (x : Text) → length rs < u → find_in q.units.items u x ≡ None
  behind u x lt = ap (λ us. find_in us u x) units_are ∙ ap (found_in x) (got_behind p.units.items unit u (rw part.many lt))

  all_rows : List Row
  all_rows = new_rows rs (find_in p.units.items) (find_in q.units.items) blocks p.sizes.items count part.rows part.table r (λ x. get_by (λ k. bytes_eq x k.now) unit.rows) ublocks dims usizes ucount urows labels ready l b
      unit.whole.items w named before here behind

  rows_are : AreRowsOf (rs ++ r ∷ []) (find_in q.units.items) blocks (p.sizes.items ++ drop ucount usizes) count all_rows
  unfolding all_rows
  rows_are = rows_more rs (find_in p.units.items) (find_in q.units.items) blocks p.sizes.items count part.rows part.table r (λ x. get_by (λ k. bytes_eq x k.now) unit.rows) ublocks dims usizes ucount urows labels ready l b
      unit.whole.items w named before here behind

  links_are : AreLinked (rs ++ r ∷ []) (find_in q.units.items) blocks q.links.items all_rows
  unfolding all_rows
  links_are =
      let t = is_table r (λ x. get_by (λ k. bytes_eq x k.now) unit.rows) ublocks dims usizes ucount urows ready l in
      let walk = links.linked 0 (context_of r) urows (index_by (λ x. get_by (λ k. bytes_eq x k.now) unit.rows) ublocks) t.tabled in
      subst (λ ls. AreLinked (rs ++ r ∷ []) (find_in q.units.items) blocks ls
      (new_rows rs (find_in p.units.items) (find_in q.units.items) blocks p.sizes.items count part.rows part.table r (λ x. get_by (λ k. bytes_eq x k.now) unit.rows) ublocks dims usizes ucount urows labels ready l b
      unit.whole.items w named before here behind)) (sym links.added)
      (links_more rs (find_in p.units.items) (find_in q.units.items) blocks p.sizes.items count part.rows part.table r (λ x. get_by (λ k. bytes_eq x k.now) unit.rows) ublocks dims usizes ucount urows labels ready l b
      unit.whole.items w named before here behind p.links.items part.linked links.fills links.links links.counts walk)

  pub part_more : ArePart (rs ++ r ∷ []) blocks count q
  part_more = record {
    rows = all_rows;
    many = ap length units_are ∙ length-append p.units.items (unit ∷ []) ∙ ap (λ n. n + 1) part.many ∙ sym (length-append rs (r ∷ []));
    table = subst (λ ss. AreRowsOf (rs ++ r ∷ []) (find_in q.units.items) blocks ss count all_rows) (sym sizes_are) rows_are;
    linked = links_are;
  }

-- a test that an element passes
pub any_mapped : {X Y : Type 0} (test : Y → Bool) (f : X → Y) (xs : List X) (i : ℕ) (d : X) → i < length xs → test (f (get_or xs i d)) ≡ true → list_any test (map f xs) ≡ true
any_mapped test f [] i d lt e = absurd (omega (arith, lt))
any_mapped test f (x ∷ xs) zero d lt e = ap (λ b. b || list_any test (map f xs)) e
any_mapped test f (x ∷ xs) (suc i) d lt e = or_true (test (f x)) (any_mapped test f xs i d (omega (arith, lt)) e)
  where
    or_true : (b : Bool) {c : Bool} → c ≡ true → (b || c) ≡ true
    or_true true e = refl
    or_true false e = e

module _ (rs : List Routine) (blocks : Text → Option ℕ) (count : ℕ) (p : ProgramRows) (part : ArePart rs blocks count p) where
  abbrev pub index : Row → ℕ
  index = index_in (find_in p.units.items) blocks

  pub part_indexed : AreIndexed (ties_of rs) p.links.items part.rows index count
  part_indexed = record {
    links_are = part.linked.links_are;
    from_in = part.linked.from_in;
    to_in = part.linked.to_in;
    numbered = part.table.numbered;
    few = part.table.few;
    first = part.table.first;
    blocks_first = λ b h. part.table.blocks_inside b;
  }

  pub part_within : All (IsWithin (length p.sizes.items)) p.links.items
  part_within =
      let m = part.table.sized.many in
      let P : Link → Type 0 = IsWithin (length p.sizes.items) in
      subst (All P) (sym part.linked.links_are)
      (All-map P (link_by index) (ties_of rs) (All-weaker (Contains (ties_of rs)) (λ t. P (link_by index t))
      (λ t t_in. (rw m (part.linked.from_in t t_in).inside, rw m (part.linked.to_in t t_in).inside)) (ties_of rs) (All-contains_itself (ties_of rs))))

  pub never_bad : All (λ r. ¬ IsBadUnit r) rs → ¬ RefuseRightly count p.links.items
  never_bad well refuse = well_together rs well (refuse (ties_of rs) part.rows index part_indexed)

  module _ (firsts : List ℕ) (total : ℕ) (right : NumberRightly count p.links.items p.sizes.items firsts total) where
    pub are_numbers : IsNumbering rs (number_by (find_in p.units.items) p.sizes.items firsts) total
    are_numbers = (right rs part.rows index (find_in p.units.items) part_indexed part.table.sized).0

    pub row_inside : (u : ℕ) (x : Text) (i : ℕ) → find_in p.units.items u x ≡ Some i → i < length p.sizes.items
    row_inside u x i e = (let m = part.table.sized.many in let f = (part.table.sized.finds u x i e).0 in omega (arith, m, f))

    is_number : (u : ℕ) (x : Text) (i o : ℕ) → find_in p.units.items u x ≡ Some i → o < slice_index p.sizes.items i → number_by (find_in p.units.items) p.sizes.items firsts u x o ≡ Some (slice_index firsts i + o)
    is_number u x i o e lt = rw e (rw (lt-ltb o (slice_index p.sizes.items i) lt) refl)

    pub number_below : (u : ℕ) (x : Text) (i o : ℕ) → find_in p.units.items u x ≡ Some i → o < slice_index p.sizes.items i → slice_index firsts i + o < total
    number_below u x i o e lt =
        let n = are_numbers in
        let is = is_number u x i o e lt in
        let b = n.below u x o (n.real u x o (slice_index firsts i + o) is) in
        let same : Some b.0 ≡ Some (slice_index firsts i + o) = sym b.1 ∙ is in
        let at : b.0 ≡ slice_index firsts i + o = cc in
        let l = b.2 in
        omega (arith, at, l)

    none_by : (u : ℕ) (r : Routine) (x : Text) → slice_get rs u ≡ Some r → find_in p.units.items u x ≡ None → (t : Bool) → has_places r x ≡ t → has_places r x ≡ false
    none_by u r x at e true t = absurd (let f = part.table.all u r x at t in let g : None ≡ Some f.0 = sym e ∙ f.1 in cc)
    none_by u r x at e false t = t

    found_by : (u : ℕ) (r : Routine) (x : Text) → slice_get rs u ≡ Some r → (o : Option ℕ) → find_in p.units.items u x ≡ o →
        MatchOption (option_map (λ i. let s : Spot = record { first = slice_index firsts i; size = slice_index p.sizes.items i } in s) o) (has_places r x ≡ false)
        (IsSpotBy (find_in p.units.items) p.sizes.items firsts u r x)
    found_by u r x at None e = none_by u r x at e (has_places r x) refl
    found_by u r x at (Some i) e =
        let k = part.table.spot u x i e in
        let same : r ≡ k.0 = (let g : Some r ≡ Some k.0 = sym at ∙ k.1 in cc) in
        (rw same k.2, sym k.3 ∙ ap (λ q. size_in (context_of q) x) (sym same), (λ o lt. is_number u x i o e lt))

    pub have_spots : HaveSpotsBy rs (find_in p.units.items) p.sizes.items firsts
    have_spots u r x at = found_by u r x at (find_in p.units.items u x) refl
