-- What a walk sees of types and declarations is what it notes of their parts.
use Rattle.std.proofs.Common.{◌≡◌, Bool, true, false, ◌||◌, List, [], ◌∷◌, ◌++◌, refl, sym, ap, ◌∙◌}
use Rattle.std.specs.Str.{bytes_eq}
use Rattle.std.proofs.lemmas.List.Folds.{list_any-append}
use Rattle.efl_tree.specs.Syntax.{Text, EflType, Integer, Logical, Real, Complex, Named, Shape, EflGroups, NoGroup, AndGroup}
use Rattle.efl_scope.specs.Scopes.{Blocks, shape, behind, behind_groups}
use Rattle.efl_scope.specs.Parts.{Around, part, Groups, among, names_of, shapes_in, listed, groups_in, members_in, area_groups}
use Rattle.efl_scope.specs.ScopeRules.{Names, no_name, holds, again, is_structure}
use Rattle.efl_scope.specs.Sights.{with_names, Declared, anew, declaring_all, type_declared, Walk, noting, rule_of_type, Sight, knowing_if, knowing_in, type_seen, members_seen, seeing_type, seeing_part, list_seen}
use Rattle.efl_scope.proofs.NameLemmas.{or_false, Covers, covers-append, again-in, with_names-holds, declaring_all-names, declaring_all-again, type_declared-is}
use Rattle.efl_scope.proofs.BlockLemmas.{kept_by, knowing-known, behind-kept, behind_groups-kept}
use Rattle.efl_scope.proofs.PartLemmas.{note_part, noting_all, noting-append, group_noted}

-- what is seen among blocks
abbrev pub sight : Blocks → Walk → Sight
sight bs w = record { known = is_structure bs; walk = w }

-- a list has the names of a set
pub alone : (all : List Text) (ns : Names) → holds all ≡ ns → Covers all ns no_name
alone all ns are y = ap (λ f. f y) are ∙ sym (or_false (ns y))

pub with_more : (before xs : List Text) (ns : Names) → holds before ≡ ns → holds (before ++ xs) ≡ with_names xs ns
with_more before xs ns are i y =
    (list_any-append (bytes_eq y) before xs ∙ turned (holds before y) (holds xs y) ∙ ap (λ f. holds xs y || f y) are ∙ sym (with_names-holds xs ns y)) i
  where
    turned : (a b : Bool) → (a || b) ≡ (b || a)
    turned true true = refl
    turned true false = refl
    turned false true = refl
    turned false false = refl

-- names that come where none came before
pub once : (out : Names) (xs all : List Text) (ns : Names) → Covers all ns out → (declaring_all out xs (record { names = ns; again = false })).again ≡ again all xs
once out xs all ns covers = declaring_all-again out xs (record { names = ns; again = false }) ∙ sym (again-in xs all ns out covers)

pub with_both : (xs ys : List Text) (ns : Names) → with_names ys (with_names xs ns) ≡ with_names (xs ++ ys) ns
with_both [] ys ns = refl
with_both (x ∷ xs) ys ns = with_both xs ys (λ y. bytes_eq y x || ns y)

with_three : (xs ys zs : List Text) (ns : Names) → with_names zs (with_names ys (with_names xs ns)) ≡ with_names (xs ++ ys ++ zs) ns
with_three xs ys zs ns = ap (with_names zs) (with_both xs ys ns) ∙ with_both (xs ++ ys) zs ns

module _ (agreeing : Names) where
  -- ---- types ----

  mutual
    pub type_seen-parts : (t : EflType) (a : Around) (w : Walk) →
        type_seen (kept_by a.blocks) t (sight a.blocks w) ≡ sight (behind a.blocks t) (noting_all agreeing (groups_in a t) w)
    type_seen-parts Integer a w = refl
    type_seen-parts Logical a w = refl
    type_seen-parts (Real long) a w = refl
    type_seen-parts (Complex long) a w = refl
    type_seen-parts (Named x) a w = refl
    type_seen-parts (Shape o gs) a w =
        let bs = behind_groups a.blocks gs in
        let w1 = noting_all agreeing (members_in a [] gs) w in
        ap (knowing_in (kept_by a.blocks) o) (members_seen-parts gs a [] no_name w refl)
        ∙ ap (λ k. record { known = knowing_if k o (is_structure bs); walk = w1 }) (sym (behind_groups-kept a.blocks gs))
        ∙ ap (λ known. record { known = known; walk = w1 }) (sym (knowing-known o (shape a.blocks gs) bs))

    pub members_seen-parts : (gs : EflGroups) (a : Around) (before : List Text) (ns : Names) (w : Walk) → holds before ≡ ns →
        members_seen (kept_by a.blocks) ns gs (sight a.blocks w) ≡ sight (behind_groups a.blocks gs) (noting_all agreeing (members_in a before gs) w)
    members_seen-parts NoGroup a before ns w are = refl
    members_seen-parts (AndGroup t vs p gs) a before ns w are =
        let d = declaring_all no_name (names_of vs) (record { names = ns; again = false }) in
        let kept = kept_by a.blocks in
        let w1 = note_part agreeing (part a p (Groups before t vs)) w in
        let w2 = noting_all agreeing (groups_in a t) w1 in
        let noted : noting p (rule_of_type (is_structure a.blocks) t d.again) w ≡ w1 =
        sym (group_noted agreeing a p w before t vs d.again (sym (once no_name (names_of vs) before ns (alone before ns are)))) in
        ap (λ v. members_seen kept d.names gs (type_seen kept t (sight a.blocks v))) noted
        ∙ ap (members_seen kept d.names gs) (type_seen-parts t a w1)
        ∙ ap (λ k. members_seen k d.names gs (sight (behind a.blocks t) w2)) (sym (behind-kept a.blocks t))
        ∙ members_seen-parts gs (among (behind a.blocks t) a) (before ++ names_of vs) d.names w2
        (with_more before (names_of vs) ns are ∙ sym (declaring_all-names no_name (names_of vs) (record { names = ns; again = false })))
        ∙ ap (sight (behind_groups (behind a.blocks t) gs)) (sym (noting-append agreeing (groups_in a t) (members_in (among (behind a.blocks t) a) (before ++ names_of vs) gs) w1))

  -- ---- an area's list ----

  -- in a block
  pub block_type : (t : EflType) (a : Around) (w : Walk) → kept_by a.blocks ≡ true → type_seen true t (sight a.blocks w) ≡ sight (behind a.blocks t) (noting_all agreeing (groups_in a t) w)
  block_type t a w kept = ap (λ k. type_seen k t (sight a.blocks w)) (sym kept) ∙ type_seen-parts t a w

  pub list_seen-parts : (gs : EflGroups) (a : Around) (all : List Text) (out : Names) (d : Declared) (w : Walk) → kept_by a.blocks ≡ true → Covers all d.names out →
      ((list_seen out gs (record { declared = d; sight = sight a.blocks w })).sight ≡ sight (behind_groups a.blocks gs) (noting_all agreeing (area_groups a all gs) w))
      × ((list_seen out gs (record { declared = d; sight = sight a.blocks w })).declared.names ≡ with_names (listed gs) d.names)
  list_seen-parts NoGroup a all out d w kept covers = (refl, refl)
  list_seen-parts (AndGroup t vs p gs) a all out d w kept covers =
      let e = anew (type_declared out t d) in
      let f = declaring_all out (names_of vs) e in
      let w1 = note_part agreeing (part a p (Groups (all ++ shapes_in t) t vs)) w in
      let w2 = noting_all agreeing (groups_in a t) w1 in
      let shapes : e.names ≡ with_names (shapes_in t) d.names = ap (λ c. c.names) (type_declared-is out t d) ∙ declaring_all-names out (shapes_in t) d in
      let inside : Covers (all ++ shapes_in t) e.names out =
      λ y. covers-append all (shapes_in t) d.names out covers y ∙ ap (λ ns. ns y || out y) (sym shapes) in
      let names : f.names ≡ with_names (names_of vs) e.names = declaring_all-names out (names_of vs) e in
      let after : Covers (all ++ shapes_in t ++ names_of vs) f.names out =
      λ y. covers-append (all ++ shapes_in t) (names_of vs) e.names out inside y ∙ ap (λ ns. ns y || out y) (sym names) in
      let noted : noting p (rule_of_type (is_structure a.blocks) t f.again) w ≡ w1 =
      sym (group_noted agreeing a p w (all ++ shapes_in t) t vs f.again (sym (once out (names_of vs) (all ++ shapes_in t) e.names inside))) in
      let seen : seeing_type t (seeing_part p (λ known told. rule_of_type known t told) (record { declared = f; sight = sight a.blocks w })) ≡ record { declared = f; sight = sight (behind a.blocks t) w2 } =
      ap (λ v. record { declared = f; sight = type_seen true t (sight a.blocks v) }) noted ∙ ap (λ s. record { declared = f; sight = s }) (block_type t a w1 kept) in
      let rest = list_seen-parts gs (among (behind a.blocks t) a) (all ++ shapes_in t ++ names_of vs) out f w2 (behind-kept a.blocks t ∙ kept) after in (
        ap (λ b. (list_seen out gs b).sight) seen ∙ rest.0
            ∙ ap (sight (behind_groups (behind a.blocks t) gs)) (sym (noting-append agreeing (groups_in a t) (area_groups (among (behind a.blocks t) a) (all ++ shapes_in t ++ names_of vs) gs) w1)),
        ap (λ b. (list_seen out gs b).declared.names) seen ∙ rest.1 ∙ ap (with_names (listed gs)) (names ∙ ap (with_names (names_of vs)) shapes)
            ∙ with_three (shapes_in t) (names_of vs) (listed gs) d.names,
      )
