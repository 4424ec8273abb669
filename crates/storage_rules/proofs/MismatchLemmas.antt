-- A block's size in a unit is one, and so is its size in the first unit that names it; and what the tests by them say.
use Rattle.std.proofs.Common.{◌≡◌, ◌≢◌, ◌<◌, ◌≤◌, ◌+◌, ◌∙◌, ◌⊎◌, inl, inr, ℕ, zero, suc, ℤ, pos, Bool, true, false, not, int_eq, List, [], ◌∷◌, length, Option, None, Some, refl, sym, ap, subst, arith}
use Rattle.std.specs.Prelude.{MatchOption, ◌||◌, if◌then◌else◌}
use Rattle.std.specs.List.{list_any, slice_get}
use Rattle.std.specs.Option.{option_or}
use Rattle.std.specs.Str.{bytes_eq}
use Rattle.std.proofs.lemmas.Bool.{cases_lt}
use Rattle.std.proofs.lemmas.Bool.Decides.{Decides-int_eq}
use Rattle.std.proofs.lemmas.Int.{ints}
use Rattle.std.proofs.lemmas.Slice.Eq.{bytes_eq-Decides}
use Rattle.rule_table.specs.Words.{is_some_and}
use Rattle.f66_tree.specs.Syntax.{Text, Area, Act, Common, Line, Routine}
use Rattle.f66_program.specs.Association.{same_block}
use Rattle.f66_program.specs.Linking.{names_block, unit_names_block, IsBlockSize}
use Rattle.linker.proofs.PartLemmas.{got_inside, same_unit}
use Rattle.storage_rules.specs.Blocks.{HasSize, AreSizes}
use Rattle.storage_rules.specs.Mismatch.{any_label, differ, is_other, IsFirstSize, AreFirstSizes, IsOther, NamesOther, IsClearUnit, AreClearBefore, AreClear}

-- one size

not_less : (r : Routine) (b : Option Text) (m n : ℕ) → IsBlockSize r b m → IsBlockSize r b n → ¬ (m < n)
not_less r b m n h k lt = elim k.reached [
  | inl none ↦ omega (arith, none, lt)
  | inr w ↦ (let far = h.within w.0 w.1 w.2 w.3 w.4 in let e = w.5 in omega (arith, ints, far, e, lt))
]

one_size : (r : Routine) (b : Option Text) (m n : ℕ) → IsBlockSize r b m → IsBlockSize r b n → m ≡ n
one_size r b m n h k = elim (cases_lt m n) [
  | inl lt ↦ absurd (not_less r b m n h k lt)
  | inr ge ↦ elim (cases_lt n m) [ inl lt ↦ absurd (not_less r b n m k h lt) | inr le ↦ omega (arith, ge, le) ]
]

pub same_size : (r : Routine) (q : Text) (y z : ℤ) → HasSize r q y → HasSize r q z → y ≡ z
same_size r q y z h k = h.1 ∙ ap pos (one_size r (Some q) h.0 k.0 h.2 k.2) ∙ sym k.1

module _ (rs : List Routine) (n : ℕ) (q : Text) where
  not_before : (y z : ℤ) (h : IsFirstSize rs n q y) (k : IsFirstSize rs n q z) → ¬ (h.other < k.other)
  not_before y z h k lt = (let f = k.none h.other h.unit lt h.here in let t = h.names in cc)

  pub one_first : (y z : ℤ) → IsFirstSize rs n q y → IsFirstSize rs n q z → y ≡ z
  one_first y z h k =
      let a = not_before y z h k in
      let b = not_before z y k h in
      let e : h.other ≡ k.other = elim (cases_lt h.other k.other) [
        | inl lt ↦ absurd (a lt)
        | inr ge ↦ elim (cases_lt k.other h.other) [ inl lt ↦ absurd (b lt) | inr le ↦ omega (arith, ge, le) ]
      ] in
      let same : h.unit ≡ k.unit = same_unit (slice_get rs h.other) h.here (ap (slice_get rs) e ∙ k.here) in
      same_size k.unit q y z (subst (λ r. HasSize r q y) same h.size) k.size

-- tests of labels

either : (a b : Bool) → (a || b) ≡ true → (a ≡ true) ⊎ (b ≡ true)
either true b e = inl refl
either false b e = inr e

or_right : (a b : Bool) → b ≡ true → (a || b) ≡ true
or_right true b e = refl
or_right false b e = e

module _ (test : Text → Bool) where
  areas_sound : (areas : List Area) → list_any (λ a. is_some_and test a.name) areas ≡ true → (q : Text) × (list_any (λ a. same_block (Some q) a.name) areas ≡ true) × (test q ≡ true)
  areas_sound [] e = absurd (cc)
  areas_sound (a ∷ areas) e = at a.name (areas_sound areas) e
    where
      at : (o : Option Text) → (list_any (λ a. is_some_and test a.name) areas ≡ true → (q : Text) × (list_any (λ a. same_block (Some q) a.name) areas ≡ true) × (test q ≡ true)) →
          (is_some_and test o || list_any (λ a. is_some_and test a.name) areas) ≡ true → (q : Text) × ((same_block (Some q) o || list_any (λ a. same_block (Some q) a.name) areas) ≡ true) × (test q ≡ true)
      at None rest f = (let w = rest f in (w.0, w.1, w.2))
      at (Some x) rest f = elim (either (test x) (list_any (λ a. is_some_and test a.name) areas) f) [
        | inl t ↦ (x, ap (λ b. b || list_any (λ a. same_block (Some x) a.name) areas) ((bytes_eq-Decides x x).1 refl), t)
        | inr g ↦ (let w = rest g in (w.0, or_right (bytes_eq w.0 x) (list_any (λ a. same_block (Some w.0) a.name) areas) w.1, w.2))
      ]

  areas_whole : (q : Text) → test q ≡ true → (areas : List Area) → list_any (λ a. same_block (Some q) a.name) areas ≡ true → list_any (λ a. is_some_and test a.name) areas ≡ true
  areas_whole q t [] e = absurd (cc)
  areas_whole q t (a ∷ areas) e = at a.name (areas_whole q t areas) e
    where
      at : (o : Option Text) → (list_any (λ a. same_block (Some q) a.name) areas ≡ true → list_any (λ a. is_some_and test a.name) areas ≡ true) →
          (same_block (Some q) o || list_any (λ a. same_block (Some q) a.name) areas) ≡ true → (is_some_and test o || list_any (λ a. is_some_and test a.name) areas) ≡ true
      at None rest f = rest f
      at (Some x) rest f = elim (either (bytes_eq q x) (list_any (λ a. same_block (Some q) a.name) areas) f) [
        | inl s ↦ (let same : q ≡ x = (bytes_eq-Decides q x).0 s in ap (λ b. b || list_any (λ a. is_some_and test a.name) areas) (subst (λ y. test y ≡ true) same t))
        | inr g ↦ or_right (test x) (list_any (λ a. is_some_and test a.name) areas) (rest g)
      ]

  pub label_sound : (a : Act) → any_label test a ≡ true → (q : Text) × (names_block (Some q) a ≡ true) × (test q ≡ true)
  label_sound (Common areas) e = areas_sound areas e
  label_sound _ e = absurd (cc)

  pub label_whole : (a : Act) (q : Text) → names_block (Some q) a ≡ true → test q ≡ true → any_label test a ≡ true
  label_whole (Common areas) q e t = areas_whole q t areas e
  label_whole _ q e t = absurd (cc)

differs : (m n : ℤ) → not (int_eq m n) ≡ true → m ≢ n
differs m n t e = (let f = (Decides-int_eq m n).1 e in let g : not (int_eq m n) ≡ false = rw f refl in cc)

differing : (m n : ℤ) (b : Bool) → int_eq m n ≡ b → m ≢ n → not (int_eq m n) ≡ true
differing m n true e ne = absurd (ne ((Decides-int_eq m n).0 e))
differing m n false e ne = rw e refl

pub names_in : (r : Routine) (i : ℕ) (l : Line) (b : Option Text) → slice_get r.lines i ≡ Some l → names_block b l.act ≡ true → unit_names_block b r ≡ true
names_in r i l b here e = at r.lines i here
  where
    at : (ls : List Line) (i : ℕ) → slice_get ls i ≡ Some l → list_any (λ s. names_block b s.act) ls ≡ true
    at [] i h = absurd (cc)
    at (s ∷ ls) zero h = (let same : s ≡ l = (let f : Some s ≡ Some l = h in cc) in ap (λ t. t || list_any (λ s. names_block b s.act) ls) (ap (λ (x : Line). names_block b x.act) same ∙ e))
    at (s ∷ ls) (suc i) h = or_right (names_block b s.act) (list_any (λ s. names_block b s.act) ls) (at ls i h)

module _ (rs : List Routine) (n : ℕ) (r : Routine) (here : slice_get rs n ≡ Some r) (firsts sizes : Text → Option ℤ) (f : AreFirstSizes rs n firsts) (s : AreSizes r sizes) where
  sound_by : (q : Text) (o p : Option ℤ) →
      MatchOption o ((v : ℕ) (r : Routine) → v < n → slice_get rs v ≡ Some r → unit_names_block (Some q) r ≡ false) (IsFirstSize rs n q) →
      MatchOption p (unit_names_block (Some q) r ≡ false) (λ z. (unit_names_block (Some q) r ≡ true) × HasSize r q z) → differ o p ≡ true → IsOther rs n r q
  sound_by q (Some y) (Some z) h k t = record { first_size = y; size = z; first = h; is_size = k.1; apart = differs y z t }
  sound_by q None p h k t = absurd (cc)
  sound_by q (Some y) None h k t = absurd (cc)

  other_sound : (q : Text) → is_other firsts sizes q ≡ true → IsOther rs n r q
  other_sound q t = sound_by q (firsts q) (sizes q) (f q) (s q) t

  whole_by : (q : Text) → unit_names_block (Some q) r ≡ true → IsOther rs n r q → (o p : Option ℤ) →
      MatchOption o ((v : ℕ) (r : Routine) → v < n → slice_get rs v ≡ Some r → unit_names_block (Some q) r ≡ false) (IsFirstSize rs n q) →
      MatchOption p (unit_names_block (Some q) r ≡ false) (λ z. (unit_names_block (Some q) r ≡ true) × HasSize r q z) → differ o p ≡ true
  whole_by q named w None p h k = absurd (let g = h w.first.other w.first.unit w.first.before w.first.here in let t = w.first.names in cc)
  whole_by q named w (Some y) None h k = absurd (cc)
  whole_by q named w (Some y) (Some z) h k =
      differing y z (int_eq y z) refl (λ e. w.apart (one_first rs n q w.first_size y w.first h ∙ e ∙ same_size r q z w.size k.1 w.is_size))

  other_whole : (q : Text) → unit_names_block (Some q) r ≡ true → IsOther rs n r q → is_other firsts sizes q ≡ true
  other_whole q named w = whole_by q named w (firsts q) (sizes q) (f q) (s q)

  pub line_sound : (l : Line) → any_label (is_other firsts sizes) l.act ≡ true → NamesOther rs n r l
  line_sound l e = (let w = label_sound (is_other firsts sizes) l.act e in (w.0, w.1, other_sound w.0 w.2))

  pub line_whole : (i : ℕ) (l : Line) → slice_get r.lines i ≡ Some l → any_label (is_other firsts sizes) l.act ≡ false → ¬ NamesOther rs n r l
  line_whole i l at e w = (let t = label_whole (is_other firsts sizes) l.act w.0 w.1 (other_whole w.0 (names_in r i l (Some w.0) at w.1) w.2) in cc)

  -- one unit more with its sizes
  more_by : (q : Text) (o p : Option ℤ) →
      MatchOption o ((v : ℕ) (r : Routine) → v < n → slice_get rs v ≡ Some r → unit_names_block (Some q) r ≡ false) (IsFirstSize rs n q) →
      MatchOption p (unit_names_block (Some q) r ≡ false) (λ z. (unit_names_block (Some q) r ≡ true) × HasSize r q z) →
      MatchOption (option_or o p) ((v : ℕ) (r : Routine) → v < n + 1 → slice_get rs v ≡ Some r → unit_names_block (Some q) r ≡ false) (IsFirstSize rs (n + 1) q)
  more_by q (Some y) p h k = record { other = h.other; unit = h.unit; here = h.here; before = (let lt = h.before in omega (arith, lt)); names = h.names; none = h.none; size = h.size }
  more_by q None (Some z) h k = record { other = n; unit = r; here = here; before = omega arith; names = k.0; none = h; size = k.1 }
  more_by q None None h k = λ v u lt at. elim (cases_lt v n) [
    | inl l ↦ h v u l at
    | inr l ↦
        let e : v ≡ n = omega (arith, lt, l) in
        let same : u ≡ r = same_unit (slice_get rs v) at (ap (slice_get rs) e ∙ here) in
        ap (unit_names_block (Some q)) same ∙ k
  ]

  pub firsts_more : (new : Text → Option ℤ) → ((q : Text) → new q ≡ option_or (firsts q) (sizes q)) → AreFirstSizes rs (n + 1) new
  firsts_more new e q =
      subst (λ o. MatchOption o ((v : ℕ) (r : Routine) → v < n + 1 → slice_get rs v ≡ Some r → unit_names_block (Some q) r ≡ false) (IsFirstSize rs (n + 1) q)) (sym (e q)) (more_by q (firsts q) (sizes q) (f q) (s q))

-- what is noted of a unit
noted_by : (r : Routine) (q : Text) (listed : Bool) (p : Option ℤ) → MatchOption p (unit_names_block (Some q) r ≡ false) (λ z. (unit_names_block (Some q) r ≡ true) × HasSize r q z) →
    listed ≡ unit_names_block (Some q) r → (if listed then p else None) ≡ p
noted_by r q true p h e = refl
noted_by r q false None h e = refl
noted_by r q false (Some z) h e = absurd (let t = h.0 in cc)

pub noted_sizes : (r : Routine) (sizes : Text → Option ℤ) → AreSizes r sizes → (q : Text) (listed : Bool) → listed ≡ unit_names_block (Some q) r → (if listed then sizes q else None) ≡ sizes q
noted_sizes r sizes s q listed e = noted_by r q listed (sizes q) (s q) e

pub firsts_none : (rs : List Routine) (find : Text → Option ℤ) → ((q : Text) → find q ≡ None) → AreFirstSizes rs 0 find
firsts_none rs find none q =
    subst (λ o. MatchOption o ((v : ℕ) (r : Routine) → v < 0 → slice_get rs v ≡ Some r → unit_names_block (Some q) r ≡ false) (IsFirstSize rs 0 q)) (sym (none q)) (λ v r lt at. absurd (omega (arith, lt)))

-- the units one by one

pub clear_more : (rs : List Routine) (n : ℕ) (r : Routine) → slice_get rs n ≡ Some r → AreClearBefore rs n → IsClearUnit rs n r → AreClearBefore rs (n + 1)
clear_more rs n r here before clear u s lt at = elim (cases_lt u n) [
  | inl k ↦ before u s k at
  | inr k ↦
      let e : u ≡ n = omega (arith, k, lt) in
      let same : s ≡ r = same_unit (slice_get rs u) at (ap (slice_get rs) e ∙ here) in
      subst (λ v. IsClearUnit rs v s) (sym e) (subst (IsClearUnit rs n) (sym same) clear)
]

pub clear_all : (rs : List Routine) (n : ℕ) → length rs ≤ n → AreClearBefore rs n → AreClear rs
clear_all rs n le before u r at = before u r (let lt = got_inside rs u r at in omega (arith, le, lt)) at
