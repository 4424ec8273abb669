-- A name that a unit has not is in none of its common blocks, has no dimensions there, and so blocks have the same sizes with a spare
-- variable.
use Rattle.std.proofs.Common.{◌≡◌, ◌≢◌, inl, inr, ℕ, ◌+◌, ℤ, Bool, true, false, true≢false, List, [], ◌∷◌, ◌++◌, map, Option, Some, refl, sym, ap, ◌∙◌, subst}
use Rattle.std.specs.Prelude.{◌||◌, if◌then◌else◌, ⊤}
use Rattle.std.specs.List.{Contains, flat_map, list_any}
use Rattle.std.specs.Str.{bytes_eq}
use Rattle.std.proofs.lemmas.Bool.{or_parts}
use Rattle.std.proofs.lemmas.Slice.Eq.{bytes_eq-Decides}
use Rattle.f66_tree.specs.Syntax.{Text, Formula, Ref, Item, Declared, Area, Act, Typed, Dimension, Common, Equivalence, Line, Routine}
use Rattle.f66_tree.specs.Units.{Note, Context, is_note, notes_of, if_any, sizes_in, sizes_in_areas, sizes_by, sizes_of}
use Rattle.f66_tree.specs.Evaluation.{sort_of}
use Rattle.f66_program.specs.Mentions.{Mention, AVariable, applied, context_of, mentions_of, mentions_of_sizes, mentions_in, declares}
use Rattle.f66_program.specs.Association.{Row, Own, Block, Tie, IsSame, by_tie, itself, back, onward, Filled, filled, not_filled, size_in, list_ties, list_end, area_ties, Member, member_of, tie_members, group_ties, act_ties, act_filled, line_ties, unit_ties}
use Rattle.f66_program.specs.Linking.{IsBlockSize}
use Rattle.spared_units.specs.Spared.{mentions_of_lines, mention_name, Lacks, LacksIfAny, Pair}
use Rattle.spared_units.proofs.Among.{Among, among, contained, split, before, behind, of_some, in_all, some_of}
use Rattle.spared_units.proofs.Units.{same_ties}
use Rattle.spared_units.proofs.Places.{real_too, real_back}
use Rattle.spared_units.proofs.CallKinds.{applied_name, not_same}

-- a row that no tie speaks of is tied to itself alone
pub alone : (r : Row) (ts : List Tie) → ((t : Tie) → Contains ts t → (t.from ≢ r) × (t.to ≢ r)) → {a b : Row} {d : ℤ} → IsSame ts a b d → (a ≡ r → b ≡ r) × (b ≡ r → a ≡ r)
alone r ts h (by_tie t k) = let o = h t k in (λ e. absurd (o.0 e), λ e. absurd (o.1 e))
alone r ts h (itself a) = (λ e. e, λ e. e)
alone r ts h (back k) = let q = alone r ts h k in (q.1, q.0)
alone r ts h (onward k j) =
    let q = alone r ts h k in
    let p = alone r ts h j in
    (λ e. p.0 (q.0 e), λ e. q.1 (p.1 e))

module _ (y : Text) where
  -- no name of these is the one
  abbrev pub AllOthers : List Mention → Type 0
  AllOthers ms = (m : Mention) → Among ms m → mention_name m ≢ y

  first : (xs ys : List Mention) → AllOthers (xs ++ ys) → AllOthers xs
  first xs ys h m k = h m (before xs ys m k)

  rest : (xs ys : List Mention) → AllOthers (xs ++ ys) → AllOthers ys
  rest xs ys h m k = h m (behind xs ys m k)

  -- ---- dimensions ----

  listed_none : (ds : List Declared) → ((d : Declared) → Among ds d → d.name ≢ y) → (others : _) → sizes_in y ds others ≡ others
  listed_none [] h others = refl
  listed_none (d ∷ ds) h others =
      ap (λ b. if b then if_any d.sizes (sizes_in y ds others) else sizes_in y ds others) (not_same y d.name (λ e. h d (inl refl) (sym e))) ∙ listed_none ds (λ e k. h e (inr k)) others

  areas_none : (areas : List Area) → ((a : Area) → Among areas a → (d : Declared) → Among a.list d → d.name ≢ y) → (others : _) → sizes_in_areas y areas others ≡ others
  areas_none [] h others = refl
  areas_none (a ∷ areas) h others = listed_none a.list (h a (inl refl)) (sizes_in_areas y areas others) ∙ areas_none areas (λ b k. h b (inr k)) others

  undeclared : (ds : List Declared) → list_any (λ d. bytes_eq y d.name) ds ≡ false → (d : Declared) → Among ds d → d.name ≢ y
  undeclared [] e d k same = absurd k
  undeclared (z ∷ ds) e d (inl is) same = no_true (bytes_eq y z.name) (list_any (λ d. bytes_eq y d.name) ds) (named z.name (ap (λ q. q.name) is ∙ same)) e
    where
      named : (x : Text) → x ≡ y → bytes_eq y x ≡ true
      named x f = (bytes_eq-Decides y x).1 (sym f)

      no_true : (a b : Bool) → a ≡ true → (a || b) ≡ false → ⊥
      no_true true b f g = true≢false g
      no_true false b f g = true≢false (sym f)
  undeclared (z ∷ ds) e d (inr k) same = undeclared ds (behind_it (bytes_eq y z.name) (list_any (λ d. bytes_eq y d.name) ds) e) d k same
    where
      behind_it : (a b : Bool) → (a || b) ≡ false → b ≡ false
      behind_it true b f = absurd (true≢false f)
      behind_it false b f = f

  module _ (c : Context) where
    in_area : (areas : List Area) → AllOthers (flat_map (λ a. map (λ d. AVariable d.name) a.list ++ mentions_of_sizes a.list) areas) → (a : Area) → Among areas a → (d : Declared) → Among a.list d → d.name ≢ y
    in_area areas h a k d j =
        h (AVariable d.name) (in_all (λ a. map (λ d. AVariable d.name) a.list ++ mentions_of_sizes a.list) areas a (AVariable d.name) k
        (before (map (λ d. AVariable d.name) a.list) (mentions_of_sizes a.list) (AVariable d.name) (mapped a.list j)))
      where
        mapped : (ds : List Declared) → Among ds d → Among (map (λ d. AVariable d.name) ds) (AVariable d.name)
        mapped [] i = absurd i
        mapped (e ∷ ds) (inl is) = inl (ap (λ q. AVariable q.name) is)
        mapped (e ∷ ds) (inr i) = inr (mapped ds i)

    act_sizes : (a : Act) → declares y a ≡ false → AllOthers (mentions_in c a) → (others : _) → sizes_by y a others ≡ others
    act_sizes (Typed t ds) e h others = listed_none ds (undeclared ds e) others
    act_sizes (Dimension ds) e h others = listed_none ds (undeclared ds e) others
    act_sizes (Common areas) e h others = areas_none areas (in_area areas h) others
    act_sizes _ e h others = refl

    one_size : (l : Option ℕ) (a : Act) (notes : List Note) → declares y a ≡ false → AllOthers (mentions_in c a) → sizes_of y notes ≡ [] → (v : Bool) → sizes_of y (if v then (record { label = l; act = a } ∷ notes) else notes) ≡ []
    one_size l a notes e h k true = act_sizes a e h (sizes_of y notes) ∙ k
    one_size l a notes e h k false = k

    -- the name has no dimensions
    pub no_sizes : (lines : List Line) → list_any (λ t. declares y t.act) lines ≡ false → AllOthers (mentions_of_lines c lines) → sizes_of y (notes_of lines) ≡ []
    no_sizes [] e h = refl
    no_sizes (s ∷ lines) e h =
        let p = or_parts (declares y s.act) (list_any (λ t. declares y t.act) lines) e in
        one_size s.label s.act (notes_of lines) p.0 (first (mentions_in c s.act) (mentions_of_lines c lines) h) (no_sizes lines p.1 (rest (mentions_in c s.act) (mentions_of_lines c lines) h)) (is_note s.act)

    -- ---- ties ----

    abbrev pub IsOtherRow : Row → Type 0
    IsOtherRow (Own u x) = x ≢ y
    IsOtherRow (Block b) = ⊤

    abbrev pub AreOtherRows : List Tie → Type 0
    AreOtherRows ts = (t : Tie) → Among ts t → IsOtherRow t.from × IsOtherRow t.to

    both : (xs ys : List Tie) → AreOtherRows xs → AreOtherRows ys → AreOtherRows (xs ++ ys)
    both xs ys f g t k = elim (split xs ys t k) [ inl a ↦ f t a | inr b ↦ g t b ]

    list_other : (u : ℕ) (b : Option Text) (at : ℕ) (ds : List Declared) → ((d : Declared) → Among ds d → d.name ≢ y) → AreOtherRows (list_ties u c b at ds)
    list_other u b at [] h t k = absurd k
    list_other u b at (d ∷ ds) h t (inl e) = (subst (λ q. IsOtherRow q.from) e (h d (inl refl)), subst (λ q. IsOtherRow q.to) e tt)
    list_other u b at (d ∷ ds) h t (inr k) = list_other u b (at + size_in c d.name) ds (λ e j. h e (inr j)) t k

    areas_other : (u : ℕ) (f : Filled) (areas : List Area) → ((a : Area) → Among areas a → (d : Declared) → Among a.list d → d.name ≢ y) → AreOtherRows (area_ties u c f areas)
    areas_other u f [] h = λ t k. absurd k
    areas_other u f (a ∷ areas) h =
        both (list_ties u c a.name (f a.name) a.list) _ (list_other u a.name (f a.name) a.list (h a (inl refl)))
        (areas_other u (filled a.name (list_end c (f a.name) a.list) f) areas (λ b k. h b (inr k)))

    abbrev AreOtherMembers : List Member → Type 0
    AreOtherMembers ms = (m : Member) → Among ms m → m.name ≢ y

    member_other : (e : Formula) → AllOthers (mentions_of c e) → AreOtherMembers (member_of c e)
    member_other (Ref x) h m (inl e) same = h (AVariable x) (inl refl) (ap (λ q. q.name) e ∙ same)
    member_other (Ref x) h m (inr k) same = k
    member_other (Item x es) h m (inl e) same = h (applied x es (sort_of c x)) (inl refl) (applied_name x es (sort_of c x) ∙ ap (λ q. q.name) e ∙ same)
    member_other (Item x es) h m (inr k) same = k
    member_other _ h m k same = k

    tied_other : (u : ℕ) (m : Member) (ms : List Member) → m.name ≢ y → AreOtherMembers ms → AreOtherRows (map (tie_members u m) ms)
    tied_other u m [] h g t k = absurd k
    tied_other u m (n ∷ ms) h g t (inl e) = (subst (λ q. IsOtherRow q.from) e h, subst (λ q. IsOtherRow q.to) e (g n (inl refl)))
    tied_other u m (n ∷ ms) h g t (inr k) = tied_other u m ms h (λ j i. g j (inr i)) t k

    group_other : (u : ℕ) (ms : List Member) → AreOtherMembers ms → AreOtherRows (group_ties u ms)
    group_other u [] g = λ t k. absurd k
    group_other u (m ∷ ms) g = tied_other u m ms (g m (inl refl)) (λ n k. g n (inr k))

    act_other : (u : ℕ) (f : Filled) (a : Act) → AllOthers (mentions_in c a) → AreOtherRows (act_ties u c f a)
    act_other u f (Common areas) h = areas_other u f areas (in_area areas h)
    act_other u f (Equivalence groups) h = λ t k.
        let g = of_some (λ es. group_ties u (flat_map (member_of c) es)) groups t k in
        group_other u (flat_map (member_of c) g.0)
        (λ m j.
        let e = of_some (member_of c) g.0 m j in
        member_other e.0 (λ n i. h n (in_all (λ es. flat_map (mentions_of c) es) groups g.0 n g.1 (in_all (mentions_of c) g.0 e.0 n e.1 i))) m e.2)
        t g.2
    act_other u f _ h = λ t k. absurd k

    pub lines_other : (u : ℕ) (f : Filled) (lines : List Line) → AllOthers (mentions_of_lines c lines) → AreOtherRows (line_ties u c f lines)
    lines_other u f [] h = λ t k. absurd k
    lines_other u f (s ∷ lines) h =
        both (act_ties u c f s.act) _ (act_other u f s.act (first (mentions_in c s.act) (mentions_of_lines c lines) h))
        (lines_other u (act_filled c f s.act) lines (rest (mentions_in c s.act) (mentions_of_lines c lines) h))

    -- they are not the name's own
    pub other_row : (u : ℕ) (r : Row) → IsOtherRow r → r ≢ Own u y
    other_row u r other e = subst IsOtherRow e other refl

  abbrev IsBlock : Row → Type 0
  IsBlock (Own u x) = ⊥
  IsBlock (Block b) = ⊤

  pub not_in_block : (s : Routine) → Lacks s y → (b : Option Text) (d : ℤ) → IsSame (unit_ties 0 s) (Own 0 y) (Block b) d → ⊥
  not_in_block s l b d k =
      let others : AllOthers (mentions_of_lines (context_of s) s.lines) = λ m i. l.mentioned (context_of s) m (contained (mentions_of_lines (context_of s) s.lines) m i) in
      let rows = lines_other (context_of s) 0 not_filled s.lines others in
      let apart : (t : Tie) → Contains (unit_ties 0 s) t → (t.from ≢ Own 0 y) × (t.to ≢ Own 0 y) = λ t c. let o = rows t (among (unit_ties 0 s) t c) in (other_row (context_of s) 0 t.from o.0, other_row (context_of s) 0 t.to o.1) in
      let e = (alone (Own 0 y) (unit_ties 0 s) apart k).0 refl in
      subst IsBlock e tt

pub lacks : (s : Routine) (o : Option Text) (y : Text) → o ≡ Some y → LacksIfAny s o → Lacks s y
lacks s o y e h = subst (LacksIfAny s) e h

-- a block of a unit with a spare variable has the size that it has in the other
pub size_back : (p : Pair) (b : Option Text) (n : ℕ) → IsBlockSize p.made b n → IsBlockSize p.said b n
size_back p b n h = record {
  within = λ x o d real same. h.within x o d (real_too (p ∷ []) 0 x o real) (subst (λ ts. IsSame ts (Own 0 x) (Block b) d) (sym ties) same);
  reached = elim h.reached [
    | inl e ↦ inl e
    | inr k ↦
        let same = subst (λ ts. IsSame ts (Own 0 k.0) (Block b) k.2) ties k.4 in
        elim (real_back (p ∷ []) 0 k.0 k.1 k.3) [
          | inl sp ↦ absurd (not_in_block k.0 p.said (lacks p.said p.spare k.0 (ap (λ q. q.spare) (some_of p sp.pair sp.here) ∙ sp.is) p.spared.lacks) b k.2 same)
          | inr real ↦ inr (k.0, k.1, k.2, real, same, k.5)
        ]
  ];
}
  where
    ties : unit_ties 0 p.made ≡ unit_ties 0 p.said
    ties = same_ties p.spare p.said p.made p.spared 0
