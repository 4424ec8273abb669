-- What a walk sees of declarations is what it notes of their parts.
use Rattle.std.proofs.Common.{◌≡◌, Bool, true, false, ◌||◌, List, [], ◌∷◌, ◌++◌, Some, None, refl, sym, ap, ◌∙◌}
use Rattle.std.specs.Str.{bytes_eq}
use Rattle.std.proofs.lemmas.List.Folds.{list_any-append}
use Rattle.efl_tree.specs.Syntax.{Text, EflType, Shape, EflGroups, EflDeclKind, Implicit, Initial, Variables, Area, Structure, EflDecl}
use Rattle.efl_scope.specs.Scopes.{Blocks, behind, behind_groups, behind_declaration, behind_all}
use Rattle.efl_scope.specs.Parts.{Around, part, Declares, among, names_of, shapes_in, shapes_of, listed, names_by, members_in, area_groups, groups_by, declarations_in}
use Rattle.efl_scope.specs.ScopeRules.{Names, no_name, holds, again, is_structure, declares_again}
use Rattle.efl_scope.specs.Sights.{with_names, either, Declared, nothing_declared, anew, declaring, declaring_all, type_declared, groups_declared, area_declared, Walk, type_seen, Opened, names_declared, declaration_noted, groups_seen, declarations_seen}
use Rattle.efl_scope.proofs.NameLemmas.{again_in, Covers, again-in, declaring_all-names, declaring_all-again, declaring_all-append, type_declared-is, groups_declared-is, list_declared-again}
use Rattle.efl_scope.proofs.BlockLemmas.{kept_by, behind-kept, behind_groups-kept}
use Rattle.efl_scope.proofs.PartLemmas.{note_part, noting_all, noting-append, declaration_noted-is}
use Rattle.efl_scope.proofs.TypeSights.{sight, alone, once, with_more, with_both, block_type, list_seen-parts}

turned : (a b : Bool) → (a || b) ≡ (b || a)
turned true true = refl
turned true false = refl
turned false true = refl
turned false false = refl

-- the names of the block before, where formals have these other names
module _ (formals before : List Text) (out : Names) (d : Declared) (outer : holds formals ≡ out) (own : holds before ≡ d.names) where
  pub covered : Covers (formals ++ before) d.names out
  covered y = list_any-append (bytes_eq y) formals before ∙ turned (holds formals y) (holds before y) ∙ ap (λ f. f y || holds formals y) own ∙ ap (λ f. d.names y || f y) outer

  -- a type, and variables behind it that ask for other names
  typed_again : (others : Names) (t : EflType) (xs : List Text) →
      (declaring_all others xs (type_declared out t (anew d))).again ≡ (again (formals ++ before) (shapes_in t) || again_in (with_names (shapes_in t) d.names) others xs)
  typed_again others t xs =
      ap (λ c. (declaring_all others xs c).again) (type_declared-is out t (anew d))
      ∙ declaring_all-again others xs (declaring_all out (shapes_in t) (anew d))
      ∙ ap (λ b. b || again_in (declaring_all out (shapes_in t) (anew d)).names others xs) (once out (shapes_in t) (formals ++ before) d.names covered)
      ∙ ap (λ ns. again (formals ++ before) (shapes_in t) || again_in ns others xs) (declaring_all-names out (shapes_in t) (anew d))

  typed_names : (others : Names) (t : EflType) (xs : List Text) → (declaring_all others xs (type_declared out t (anew d))).names ≡ holds (before ++ (shapes_in t ++ xs))
  typed_names others t xs =
      declaring_all-names others xs (type_declared out t (anew d))
      ∙ ap (λ c. with_names xs c.names) (type_declared-is out t (anew d)) ∙ ap (with_names xs) (declaring_all-names out (shapes_in t) (anew d))
      ∙ with_both (shapes_in t) xs d.names ∙ sym (with_more before (shapes_in t ++ xs) d.names own)

  structure_is : (x : Text) (gs : EflGroups) → declaring out x (groups_declared out gs (anew d)) ≡ declaring_all out (shapes_of gs ++ x ∷ []) (anew d)
  structure_is x gs = ap (declaring out x) (groups_declared-is out gs (anew d)) ∙ sym (declaring_all-append out (shapes_of gs) (x ∷ []) (anew d))

  -- whether a declaration's names stand again
  pub declared_again : (k : EflDeclKind) → declares_again formals before k ≡ (names_declared out k (anew d)).again
  declared_again (Implicit rs t) =
      sym (ap (λ c. c.again) (type_declared-is out t (anew d)) ∙ once out (shapes_in t) (formals ++ before) d.names covered)
  declared_again (Initial ps) = refl
  declared_again (Variables None t vs) =
      sym (typed_again no_name t (names_of vs)
      ∙ ap (λ b. again (formals ++ before) (shapes_in t) || b)
      (sym (again-in (names_of vs) (before ++ shapes_in t) (with_names (shapes_in t) d.names) no_name
      (alone (before ++ shapes_in t) (with_names (shapes_in t) d.names) (with_more before (shapes_in t) d.names own)))))
  declared_again (Variables (Some q) t vs) =
      sym (ap (λ c. (declaring_all out (names_of vs) c).again) (type_declared-is out t (anew d))
      ∙ ap (λ c. c.again) (sym (declaring_all-append out (shapes_in t) (names_of vs) (anew d)))
      ∙ once out (shapes_in t ++ names_of vs) (formals ++ before) d.names covered)
  declared_again (Area q gs) = sym (list_declared-again (either d.names out) gs (formals ++ before) nothing_declared covered)
  declared_again (Structure x gs) =
      sym (ap (λ c. c.again) (structure_is x gs) ∙ once out (shapes_of gs ++ x ∷ []) (formals ++ before) d.names covered)

  -- ---- the groups of a declaration, and the names behind it ----

  module _ (agreeing : Names) (a : Around) (w : Walk) (its : a.formals ≡ formals) (kept : kept_by a.blocks ≡ true) where
    abbrev behind_names : EflDeclKind → Opened
    behind_names k = groups_seen out k (record { declared = names_declared out k (anew d); sight = sight a.blocks w })

    listed_seen : (q : Text) (gs : EflGroups) →
        ((behind_names (Area q gs)).sight ≡ sight (behind_groups a.blocks gs) (noting_all agreeing (area_groups a (a.formals ++ before) gs) w))
        × ((behind_names (Area q gs)).declared.names ≡ with_names (listed gs) d.names)
    listed_seen q gs = list_seen-parts agreeing gs a (a.formals ++ before) out (area_declared out gs (anew d)) w kept
        (λ y. ap (λ fs. holds (fs ++ before) y) its ∙ covered y)

    members : (x : Text) (gs : EflGroups) → type_seen true (Shape (Some x) gs) (sight a.blocks w) ≡ sight (behind a.blocks (Shape (Some x) gs)) (noting_all agreeing (members_in a [] gs) w)
    members x gs = block_type agreeing (Shape (Some x) gs) a w kept

    pub groups_noted : (k : EflDeclKind) → (behind_names k).sight ≡ sight (behind_declaration a.blocks k) (noting_all agreeing (groups_by a before k) w)
    groups_noted (Implicit rs t) = block_type agreeing t a w kept
    groups_noted (Initial ps) = refl
    groups_noted (Variables None t vs) = block_type agreeing t a w kept
    groups_noted (Variables (Some q) t vs) = block_type agreeing t a w kept
    groups_noted (Area q gs) = (listed_seen q gs).0
    groups_noted (Structure x gs) = members x gs

    pub names_behind : (k : EflDeclKind) → (behind_names k).declared.names ≡ holds (before ++ names_by k)
    names_behind (Implicit rs t) =
        ap (λ c. c.names) (type_declared-is out t (anew d)) ∙ declaring_all-names out (shapes_in t) (anew d) ∙ sym (with_more before (shapes_in t) d.names own)
    names_behind (Initial ps) = sym (with_more before [] d.names own)
    names_behind (Variables None t vs) = typed_names no_name t (names_of vs)
    names_behind (Variables (Some q) t vs) = typed_names out t (names_of vs)
    names_behind (Area q gs) = (listed_seen q gs).1 ∙ sym (with_more before (listed gs) d.names own)
    names_behind (Structure x gs) =
        ap (λ c. c.names) (structure_is x gs) ∙ declaring_all-names out (shapes_of gs ++ x ∷ []) (anew d) ∙ sym (with_more before (shapes_of gs ++ x ∷ []) d.names own)

declaration-kept : (bs : Blocks) (k : EflDeclKind) → kept_by (behind_declaration bs k) ≡ kept_by bs
declaration-kept bs (Implicit rs t) = behind-kept bs t
declaration-kept bs (Initial ps) = refl
declaration-kept bs (Variables q t vs) = behind-kept bs t
declaration-kept bs (Area q gs) = behind_groups-kept bs gs
declaration-kept bs (Structure x gs) = behind-kept bs (Shape (Some x) gs)

module _ (agreeing : Names) (out : Names) where
  pub declarations_seen-parts : (ds : List EflDecl) (a : Around) (before : List Text) (d : Declared) (w : Walk) →
      holds a.formals ≡ out → holds before ≡ d.names → kept_by a.blocks ≡ true →
      (declarations_seen agreeing out ds (record { declared = d; sight = sight a.blocks w })).sight ≡ sight (behind_all a.blocks ds) (noting_all agreeing (declarations_in a before ds) w)
  declarations_seen-parts [] a before d w outer own kept = refl
  declarations_seen-parts (e ∷ ds) a before d w outer own kept =
      let k = e.kind in
      let c = names_declared out k (anew d) in
      let w1 = note_part agreeing (part a e.place (Declares before k)) w in
      let w2 = noting_all agreeing (groups_by a before k) w1 in
      let b = groups_seen out k (record { declared = c; sight = sight a.blocks w1 }) in
      let noted : declaration_noted agreeing e (is_structure a.blocks) c.again w ≡ w1 =
      sym (declaration_noted-is agreeing a e.place w before k c.again (declared_again a.formals before out d outer own k)) in
      let seen : b.sight ≡ sight (behind_declaration a.blocks k) w2 = groups_noted a.formals before out d outer own agreeing a w1 refl kept k in
      let names : b.declared.names ≡ holds (before ++ names_by k) = names_behind a.formals before out d outer own agreeing a w1 refl kept k in
      ap (λ v. (declarations_seen agreeing out ds (groups_seen out k (record { declared = c; sight = sight a.blocks v }))).sight) noted
      ∙ ap (λ s. (declarations_seen agreeing out ds (record { declared = b.declared; sight = s })).sight) seen
      ∙ declarations_seen-parts ds (among (behind_declaration a.blocks k) a) (before ++ names_by k) b.declared w2 outer (sym names) (declaration-kept a.blocks k ∙ kept)
      ∙ ap (sight (behind_all (behind_declaration a.blocks k) ds))
      (sym (noting-append agreeing (groups_by a before k) (declarations_in (among (behind_declaration a.blocks k) a) (before ++ names_by k) ds) w1))
