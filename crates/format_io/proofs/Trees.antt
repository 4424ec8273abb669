-- A tree of fields, part by part.
use Rattle.std.specs.Prelude.{◌≡◌, ℕ, zero, suc, ◌+◌, ◌-◌, ◌≤◌, Bool, true, false, ◌||◌, List, [], ◌∷◌, ◌++◌, length, max, map, drop, refl, Result, Ok, Err, OnOk, if◌then◌else◌}
use Rattle.std.proofs.Common.{sym, ◌∙◌, ap, subst, arith, append_assoc, append-nil, length-append}
use Rattle.f66_tree.specs.declared.format.Field as tree
use Rattle.f66_tree.specs.Views.{field_then, row_fields, fields_of}
use Rattle.f66_tree.proofs.Rows.{group_fields}
use Rattle.f66_tree.specs.declared.editing.EditKind.TheVariants.{Whole, Truth, Letter}
use Rattle.f66_tree.specs.Fields.{Step, Takes, Fields, NoField, Single, Group, copies, steps, has_item, is_item, last_group, again}
use Rattle.format_io.specs.Places.{Code, Enter, Leave, code, size, depth, last_place, parsed, first_of_rest, plan_code, format, IsPlanOf}
use Rattle.format_io.specs.declared.code.Op.{Op}
use Rattle.format_io.specs.declared.code.Laid.{Laid}
use Rattle.format_io.proofs.Walks.{length_code}
use Rattle.std.proofs.lemmas.List.{length-map}
use Rattle.format_io.specs.OneField.{one, is_group}
use Rattle.format_io.proofs.Parts.{list_code, list_depth, list_has, list_place, list_cycles}

pub code_front : (lv : ℕ) (f : tree.Field) (rest : Fields) → code lv (field_then f rest) ≡ code lv (one f) ++ code lv rest
code_front lv (tree.Whole n w) rest = refl
code_front lv (tree.Truth n w) rest = refl
code_front lv (tree.Letter n) rest = refl
code_front lv (tree.Skip n) rest = refl
code_front lv (tree.Chars text) rest = refl
code_front lv tree.Slash rest = refl
code_front lv (tree.Group' n shape inside) rest =
    ap (λ v. Enter lv n (size (row_fields inside)) ∷ v) (sym (append_assoc (code (suc lv) (row_fields inside)) (Leave lv (size (row_fields inside)) ∷ []) (code lv rest)))

pub depth_front : (f : tree.Field) (rest : Fields) → depth (field_then f rest) ≡ max (depth (one f)) (depth rest)
depth_front (tree.Whole n w) rest = omega arith
depth_front (tree.Truth n w) rest = omega arith
depth_front (tree.Letter n) rest = omega arith
depth_front (tree.Skip n) rest = omega arith
depth_front (tree.Chars text) rest = omega arith
depth_front tree.Slash rest = omega arith
depth_front (tree.Group' n shape inside) rest = omega arith

pub list_code_is : (lv : ℕ) (fs : List tree.Field) → code lv (fields_of fs) ≡ list_code lv fs
list_code_is lv [] = refl
list_code_is lv (f ∷ fs) = code_front lv f (fields_of fs) ∙ ap (λ v. code lv (one f) ++ v) (list_code_is lv fs)

pub list_depth_is : (fs : List tree.Field) → depth (fields_of fs) ≡ list_depth fs
list_depth_is [] = refl
list_depth_is (f ∷ fs) = depth_front f (fields_of fs) ∙ ap (λ v. max (depth (one f)) v) (list_depth_is fs)

pub group_is : (n : ℕ) (v : _) → one (tree.Group n v) ≡ Group n (fields_of v.items) NoField
group_is n v = ap (λ f. f NoField) (group_fields n v)

pub group_depth : (f : tree.Field) (n : ℕ) (v : _) (items : List tree.Field) (lv : ℕ) → f ≡ tree.Group n v → items ≡ v.items → lv + depth (one f) ≤ 2 → lv + 1 + list_depth items ≤ 2
group_depth f n v items lv is same le =
    let a : depth (one f) ≡ max (suc (depth (fields_of v.items))) 0 = ap (λ u. depth (one u)) is ∙ ap depth (group_is n v) in
    let b : depth (fields_of v.items) ≡ list_depth v.items = list_depth_is v.items in
    let d : list_depth items ≡ list_depth v.items = ap list_depth same in
    omega (arith, a, b, d, le)

pub group_within : (f : tree.Field) (n : ℕ) (v : _) (items : List tree.Field) (levels : ℕ) → f ≡ tree.Group n v → items ≡ v.items → (levels ≡ 0 → ⊥)
    → list_depth items ≤ levels - 1 → depth (one f) ≤ levels
group_within f n v items zero is same some le = absurd (some refl)
group_within f n v items (suc levels) is same some le =
    let a : depth (one f) ≡ max (suc (depth (fields_of v.items))) 0 = ap (λ u. depth (one u)) is ∙ ap depth (group_is n v) in
    let b : depth (fields_of v.items) ≡ list_depth v.items = list_depth_is v.items in
    let d : list_depth items ≡ list_depth v.items = ap list_depth same in
    omega (arith, a, b, d, le)

-- the code of fields between the beginning and the end of a group is that of the group
group_code : (f : tree.Field) (n : ℕ) (v : _) (items rest : List tree.Field) (lv : ℕ) (old all : List Code) (body : List Op)
    → f ≡ tree.Group n v → items ≡ v.items → rest ≡ [] → map plan_code body ++ list_code (lv + 1) rest ≡ list_code (lv + 1) items
    → all ≡ old ++ Enter lv n (length body) ∷ (map plan_code body ++ Leave lv (length body) ∷ [])
    → all ≡ old ++ code lv (one f)
group_code f n v items rest lv old all body is same none inside e =
    let fs = fields_of v.items in
    let there : map plan_code body ≡ code (suc lv) fs =
    sym (append-nil (map plan_code body)) ∙ ap (λ u. map plan_code body ++ list_code (lv + 1) u) (sym none) ∙ inside ∙ ap (list_code (lv + 1)) same ∙ sym (list_code_is (lv + 1) v.items)
    ∙ ap (λ u. code u fs) (let p : lv + 1 ≡ suc lv = omega arith in p) in
    let many : length body ≡ size fs = sym (length-map body plan_code) ∙ ap length there ∙ length_code (suc lv) fs in
    e
    ∙ ap (λ u. old ++ Enter lv n (length body) ∷ (u ++ Leave lv (length body) ∷ [])) there
    ∙ ap (λ u. old ++ Enter lv n u ∷ (code (suc lv) fs ++ Leave lv u ∷ [])) many
    ∙ ap (λ u. old ++ code lv u) (sym (ap one is ∙ group_is n v))

pub enclosed : {A B : Type 0} (r : Result A B) (f : tree.Field) (n : ℕ) (v : _) (items rest : List tree.Field) (lv : ℕ) (old all : List Code) (body : List Op)
    → f ≡ tree.Group n v → items ≡ v.items → rest ≡ [] → map plan_code body ++ list_code (lv + 1) rest ≡ list_code (lv + 1) items
    → OnOk r (all ≡ old ++ Enter lv n (length body) ∷ (map plan_code body ++ Leave lv (length body) ∷ [])) → OnOk r (all ≡ old ++ code lv (one f))
enclosed (Ok x) f n v items rest lv old all body is same none inside e = group_code f n v items rest lv old all body is same none inside e
enclosed (Err e) f n v items rest lv old all body is same none inside h = h

-- ---- edits that take an item ----

or_assoc : (a b d : Bool) → ((a || b) || d) ≡ (a || (b || d))
or_assoc true b d = refl
or_assoc false b d = refl

or_self : (a : Bool) → (a || a) ≡ a
or_self true = refl
or_self false = refl

has-append : (a b : List Step) → has_item (a ++ b) ≡ (has_item a || has_item b)
has-append [] b = refl
has-append (s ∷ a) b = ap (λ v. is_item s || v) (has-append a b) ∙ sym (or_assoc (is_item s) (has_item a) (has_item b))

has-copies : (n : ℕ) (a : List Step) → has_item (copies (suc n) a) ≡ has_item a
has-copies zero a = ap has_item (append-nil a)
has-copies (suc n) a = has-append a (copies (suc n) a) ∙ ap (λ v. has_item a || v) (has-copies n a) ∙ or_self (has_item a)

steps_front : (f : tree.Field) (rest : Fields) → steps (field_then f rest) ≡ steps (one f) ++ steps rest
steps_front (tree.Whole n w) rest = ap (λ v. v ++ steps rest) (sym (append-nil (copies n (Takes Whole w ∷ []))))
steps_front (tree.Truth n w) rest = ap (λ v. v ++ steps rest) (sym (append-nil (copies n (Takes Truth w ∷ []))))
steps_front (tree.Letter n) rest = ap (λ v. v ++ steps rest) (sym (append-nil (copies n (Takes Letter 1 ∷ []))))
steps_front (tree.Skip n) rest = refl
steps_front (tree.Chars text) rest = refl
steps_front tree.Slash rest = refl
steps_front (tree.Group' n shape inside) rest = ap (λ v. v ++ steps rest) (sym (append-nil (copies n (steps (row_fields inside)))))

pub list_has_is : (fs : List tree.Field) → has_item (steps (fields_of fs)) ≡ list_has fs
list_has_is [] = refl
list_has_is (f ∷ fs) = ap has_item (steps_front f (fields_of fs)) ∙ has-append (steps (one f)) (steps (fields_of fs)) ∙ ap (λ v. has_item (steps (one f)) || v) (list_has_is fs)

-- control goes back to the last group
place_front : (found pc : ℕ) (f : tree.Field) (rest : Fields) → last_place found pc (field_then f rest) ≡ last_place (if is_group f then pc else found) (pc + size (one f)) rest
place_front found pc (tree.Whole n w) rest = ap (λ v. last_place found v rest) (let e : suc pc ≡ pc + 1 = omega arith in e)
place_front found pc (tree.Truth n w) rest = ap (λ v. last_place found v rest) (let e : suc pc ≡ pc + 1 = omega arith in e)
place_front found pc (tree.Letter n) rest = ap (λ v. last_place found v rest) (let e : suc pc ≡ pc + 1 = omega arith in e)
place_front found pc (tree.Skip n) rest = ap (λ v. last_place found v rest) (let e : suc pc ≡ pc + 1 = omega arith in e)
place_front found pc (tree.Chars text) rest = ap (λ v. last_place found v rest) (let e : suc pc ≡ pc + 1 = omega arith in e)
place_front found pc tree.Slash rest = ap (λ v. last_place found v rest) (let e : suc pc ≡ pc + 1 = omega arith in e)
place_front found pc (tree.Group' n shape inside) rest = ap (λ v. last_place pc v rest) (let e : suc (pc + suc (size (row_fields inside))) ≡ pc + suc (size (row_fields inside) + 1) = omega arith in e)

pub list_place_is : (found pc : ℕ) (fs : List tree.Field) → last_place found pc (fields_of fs) ≡ list_place found pc fs
list_place_is found pc [] = refl
list_place_is found pc (f ∷ fs) = place_front found pc f (fields_of fs) ∙ list_place_is (if is_group f then pc else found) (pc + size (one f)) fs

group_has_of : (n : ℕ) (fs : Fields) → (n ≡ 0 → ⊥) → has_item (steps (Group n fs NoField)) ≡ has_item (steps fs)
group_has_of zero fs some = absurd (some refl)
group_has_of (suc n) fs some = ap has_item (append-nil (copies (suc n) (steps fs))) ∙ has-copies n (steps fs)

pub group_has : (f : tree.Field) (n : ℕ) (v : _) (items : List tree.Field) → f ≡ tree.Group n v → items ≡ v.items → (n ≡ 0 → ⊥) → list_has items ≡ has_item (steps (one f))
group_has f n v items is same some =
    ap list_has same ∙ sym (list_has_is v.items) ∙ sym (group_has_of n (fields_of v.items) some) ∙ sym (ap (λ u. has_item (steps (one u))) is ∙ ap (λ u. has_item (steps u)) (group_is n v))

group_front : (found : Fields) (f : tree.Field) (rest : Fields) → last_group found (field_then f rest) ≡ last_group (if is_group f then field_then f rest else found) rest
group_front found (tree.Whole n w) rest = refl
group_front found (tree.Truth n w) rest = refl
group_front found (tree.Letter n) rest = refl
group_front found (tree.Skip n) rest = refl
group_front found (tree.Chars text) rest = refl
group_front found tree.Slash rest = refl
group_front found (tree.Group' n shape inside) rest = refl

cycles_of : (fs : List tree.Field) (found : Fields) (before : List Step) (b : Bool) → steps found ≡ before ++ steps (fields_of fs) → has_item before ≡ b
    → has_item (steps (last_group found (fields_of fs))) ≡ list_cycles b fs
cycles_of [] found before b e h = ap has_item e ∙ ap has_item (append-nil before) ∙ h
cycles_of (f ∷ fs) found before b e h = ap (λ v. has_item (steps v)) (group_front found f (fields_of fs)) ∙ go (is_group f) (cycles_of fs)
  where
    go : (g : Bool) → ((found2 : Fields) (before2 : List Step) (b2 : Bool) → steps found2 ≡ before2 ++ steps (fields_of fs) → has_item before2 ≡ b2 → has_item (steps (last_group found2 (fields_of fs))) ≡ list_cycles b2 fs)
        → has_item (steps (last_group (if g then field_then f (fields_of fs) else found) (fields_of fs))) ≡ list_cycles ((if g then false else b) || has_item (steps (one f))) fs
    go true ih = ih (field_then f (fields_of fs)) (steps (one f)) (has_item (steps (one f))) (steps_front f (fields_of fs)) refl
    go false ih = ih found (before ++ steps (one f)) (b || has_item (steps (one f)))
        (e ∙ ap (λ v. before ++ v) (steps_front f (fields_of fs)) ∙ sym (append_assoc before (steps (one f)) (steps (fields_of fs))))
        (has-append before (steps (one f)) ∙ ap (λ v. v || has_item (steps (one f))) h)

pub list_cycles_is : (fs : List tree.Field) → has_item (steps (again (fields_of fs))) ≡ list_cycles false fs
list_cycles_is fs = cycles_of fs (fields_of fs) [] false refl refl

-- ---- the fields of a code ----

parsed_code : (lv : ℕ) (fs : Fields) (tail : List Code) → (parsed tail).0 ≡ NoField → parsed (code lv fs ++ tail) ≡ (fs, (parsed tail).1)
parsed_code lv NoField tail e = ap (λ u. (u, (parsed tail).1)) e
parsed_code lv (Single n s fs) tail e = ap (λ p. (Single n s p.0, p.1)) (parsed_code lv fs tail e)
parsed_code lv (Group n inside fs) tail e =
    let behind : List Code = code lv fs ++ tail in
    ap (λ u. let p : Fields × List Fields = parsed u in (Group n p.0 (first_of_rest p.1), drop 1 p.1)) (append_assoc (code (suc lv) inside) (Leave lv (size inside) ∷ code lv fs) tail)
    ∙ ap (λ p. (Group n p.0 (first_of_rest p.1), drop 1 p.1)) (parsed_code (suc lv) inside (Leave lv (size inside) ∷ behind) refl)
    ∙ ap (λ p. (Group n inside p.0, p.1)) (parsed_code lv fs tail e)

pub fields_back : (fs : Fields) (is : List Code) → is ≡ code 0 fs → (parsed is).0 ≡ fs
fields_back fs is e = ap (λ u. (parsed u).0) (e ∙ sym (append-nil (code 0 fs))) ∙ ap (λ p. p.0) (parsed_code 0 fs [] refl)

pub grown : (old new : List Op) (fs : Fields) → map plan_code new ≡ map plan_code old ++ code 0 fs → length new ≡ length old + size fs
grown old new fs e =
    sym (length-map new plan_code) ∙ ap length e ∙ length-append (map plan_code old) (code 0 fs) ∙ ap (λ v. v + length (code 0 fs)) (length-map old plan_code) ∙ ap (λ v. length old + v) (length_code 0 fs)

-- a plan, once all fields have come
pub whole_plan : (p : Laid) (fs : List tree.Field) → map plan_code p.ops.items ≡ list_code 0 fs → p.start ≡ list_place 0 0 fs → p.cycles ≡ list_cycles false fs → depth (fields_of fs) ≤ 2
    → IsPlanOf (fields_of fs) p
whole_plan p fs c s y d =
    let back : format p ≡ fields_of fs = fields_back (fields_of fs) (map plan_code p.ops.items) (c ∙ sym (list_code_is 0 fs)) in
    record {
      plan = record {
        same = c ∙ sym (list_code_is 0 fs) ∙ ap (code 0) (sym back);
        back = s ∙ sym (list_place_is 0 0 fs) ∙ ap (last_place 0 0) (sym back);
        goes_on = y ∙ sym (list_cycles_is fs) ∙ ap (λ v. has_item (steps (again v))) (sym back);
        shallow = subst (λ v. depth v ≤ 2) (sym back) d;
      };
      fields = back;
    }

pub grown_ok : {A B : Type 0} (r : Result A B) (old new : List Op) (fs : Fields) → OnOk r (map plan_code new ≡ map plan_code old ++ code 0 fs) → OnOk r (length new ≡ length old + size fs)
grown_ok (Ok x) old new fs h = grown old new fs h
grown_ok (Err e) old new fs h = h

pub plan_starts : (ops : List Op) (fs : List tree.Field) → ops ≡ [] → depth (fields_of fs) ≤ 2
    → (map plan_code ops ++ list_code 0 fs ≡ list_code 0 fs) × (list_depth fs ≤ 2) × (list_place 0 (length ops) fs ≡ list_place 0 0 fs) × (list_cycles false fs ≡ list_cycles false fs)
plan_starts ops fs e d = (ap (λ v. map plan_code v ++ list_code 0 fs) e, subst (λ v. v ≤ 2) (list_depth_is fs) d, ap (λ v. list_place 0 (length v) fs) e, refl)

pub plan_ends : (p : Laid) (fs rest : List tree.Field) → rest ≡ [] → map plan_code p.ops.items ++ list_code 0 rest ≡ list_code 0 fs
    → list_place p.start (length p.ops.items) rest ≡ list_place 0 0 fs → list_cycles p.cycles rest ≡ list_cycles false fs → depth (fields_of fs) ≤ 2 → IsPlanOf (fields_of fs) p
plan_ends p fs rest e c s y d =
    whole_plan p fs (sym (append-nil (map plan_code p.ops.items)) ∙ ap (λ v. map plan_code p.ops.items ++ list_code 0 v) (sym e) ∙ c)
    (ap (λ v. list_place p.start (length p.ops.items) v) (sym e) ∙ s) (ap (list_cycles p.cycles) (sym e) ∙ y) d
