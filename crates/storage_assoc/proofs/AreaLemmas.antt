-- One area more of a COMMON statement.
use Rattle.std.proofs.Common.{◌≡◌, ◌≢◌, ◌<◌, ◌⊎◌, ℕ, Bool, true, false, List, [], ◌∷◌, ◌++◌, length, map, set, slice_index, Option, None, Some, sym, ◌∙◌, ap, refl, append_assoc, get_or-set_same, get_or-set_other, inl, inr}
use Rattle.std.proofs.lemmas.List.{append-nil, map-append}
use Rattle.std.proofs.lemmas.List.Elements.{All-contains, All-weaker, Contains-push, Contains-append_left, All-contains_itself}
use Rattle.std.proofs.lemmas.Slice.Eq.{bytes_eq-Decides}
use Rattle.std.specs.List.{All, Contains}
use Rattle.f66_tree.specs.Syntax.{Text, Area}
use Rattle.f66_tree.specs.Units.{Context}
use Rattle.f66_program.specs.Association.{Row, Block, Filled, filled, same_block, list_ties, list_end, area_ties, areas_filled}
use Rattle.offset_classes.specs.declared.link.Link.{Link}
use Rattle.storage_assoc.specs.Indexing.{link_by, IsListed, row_at}
use Rattle.storage_assoc.specs.Lists.{IsAreaTabled, AreFilled, AreasLinked, ListLinked, block_by}

pub area_ties-push : (u : ℕ) (c : Context) (f : Filled) (all : List Area) (a : Area) →
    area_ties u c f (all ++ a ∷ []) ≡ area_ties u c f all ++ list_ties u c a.name (areas_filled c f all a.name) a.list
area_ties-push u c f [] a = append-nil (list_ties u c a.name (f a.name) a.list)
area_ties-push u c f (e ∷ all) a =
    ap (λ ts. list_ties u c e.name (f e.name) e.list ++ ts) (area_ties-push u c (filled e.name (list_end c (f e.name) e.list) f) all a)
    ∙ sym (append_assoc (list_ties u c e.name (f e.name) e.list) _ _)

pub areas_filled-push : (c : Context) (f : Filled) (all : List Area) (a : Area) →
    areas_filled c f (all ++ a ∷ []) ≡ filled a.name (list_end c (areas_filled c f all a.name) a.list) (areas_filled c f all)
areas_filled-push c f [] a = refl
areas_filled-push c f (e ∷ all) a = areas_filled-push c (filled e.name (list_end c (f e.name) e.list) f) all a

pub same_block-itself : (b : Option Text) → same_block b b ≡ true
same_block-itself None = refl
same_block-itself (Some x) = (bytes_eq-Decides x x).1 refl

by_same : (a b : Option Text) (t : Bool) → same_block a b ≡ t → (a ≡ b) ⊎ (same_block a b ≡ false)
by_same a b false e = inr e
by_same None None true e = inl refl
by_same (Some x) (Some y) true e = inl (ap Some ((bytes_eq-Decides x y).0 e))
by_same None (Some y) true e = absurd (cc)
by_same (Some x) None true e = absurd (cc)

pub filled_more : (rows : List Row) (index : Row → ℕ) (fills : List ℕ) (f : Filled) (b : Option Text) (n : ℕ) → IsListed rows index (Block b) →
    index (Block b) < length fills → AreFilled rows index fills f → AreFilled rows index (set fills (index (Block b)) n) (filled b n f)
filled_more rows index fills f b n listed inside all q q_listed = elim (by_same q b (same_block q b) refl) [
  | inl e ↦ rw (e, same_block-itself b) (get_or-set_same fills (index (Block b)) n _ inside)
  | inr s ↦
      let ne : index (Block q) ≢ index (Block b) = λ e.
      let same : Block q ≡ Block b = sym q_listed.back ∙ ap (row_at rows) e ∙ listed.back in
      let names : q ≡ b = cc in
      let t = same_block-itself b in
      let s' = rw names at s in
      (cc) in
      rw s (get_or-set_other fills (index (Block b)) (index (Block q)) n _ ne ∙ all q q_listed)
]

pub no_areas : (find blocks : Text → Option ℕ) (sizes fills : List ℕ) (old : List Link) → AreasLinked find blocks sizes [] fills fills old old
no_areas find blocks sizes fills old u c rows index f all is = (sym (append-nil old), is)

pub areas_more : (find blocks : Text → Option ℕ) (sizes : List ℕ) (all : List Area) (a : Area) (fills now : List ℕ) (old middle new : List Link) (end : ℕ) →
    block_by blocks a.name < length now → AreasLinked find blocks sizes all fills now old middle →
    ListLinked find sizes (block_by blocks a.name) (slice_index now (block_by blocks a.name)) a.list middle new end →
    AreasLinked find blocks sizes (all ++ a ∷ []) fills (set now (block_by blocks a.name) end) old new
areas_more find blocks sizes all a fills now old middle new end inside before list u c rows index f tabled is =
    let P = IsAreaTabled u c rows index find blocks sizes in
    let earlier : All P all = All-weaker (Contains all) P (λ x k. All-contains P (all ++ a ∷ []) x tabled (Contains-append_left all (a ∷ []) x k)) all (All-contains_itself all) in
    let here = All-contains P (all ++ a ∷ []) a tabled (Contains-push all a) in
    let w = before u c rows index f earlier is in
    let g = areas_filled c f all in
    let start : slice_index now (block_by blocks a.name) ≡ g a.name = ap (slice_index now) (sym here.1) ∙ w.1 a.name here.0 in
    let l = list u c a.name index here.2 here.1 in
    let l' = rw start at l in (
      l'.0
          ∙ ap (λ ls. ls ++ map (link_by index) (list_ties u c a.name (g a.name) a.list)) w.0
          ∙ append_assoc old (map (link_by index) (area_ties u c f all)) _
          ∙ ap (λ ls. old ++ ls) (sym (ap (map (link_by index)) (area_ties-push u c f all a) ∙ map-append (link_by index) (area_ties u c f all) _)),
      rw (areas_filled-push c f all a, sym here.1, l'.1) (filled_more rows index now g a.name (list_end c (g a.name) a.list) here.0 (rw here.1 inside) w.1),
    )
