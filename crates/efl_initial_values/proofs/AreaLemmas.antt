-- The areas of variables, as they come one after the other.
use Rattle.std.proofs.Common.{◌≡◌, ℕ, ◌+◌, Bool, true, false, cond, List, [], ◌∷◌, ◌++◌, length, filter, find, Vec, Global, Bor, Option, Some, None, is_some, unwrap_or, refl, sym, ap, subst, ◌∙◌, append_assoc, arith, if◌then◌else◌}
use Rattle.std.specs.HashMap.{get_by}
use Rattle.std.specs.List.{list_any}
use Rattle.std.specs.Option.{option_map, option_or, option_and_then}
use Rattle.std.specs.Str.{bytes_eq}
use Rattle.std.proofs.lemmas.List.{append-nil}
use Rattle.std.proofs.lemmas.List.Folds.{find-append}
use Rattle.std.proofs.lemmas.Slice.Eq.{bytes_eq-Decides}
use Rattle.rule_table.specs.Words.{is_some_and, first_place, find_map}
use Rattle.rule_table.proofs.WordLemmas.{first_place-push, filter-push, find-push, note_once}
use Rattle.ground.specs.declared.place.Place.{Place}
use Rattle.efl_tree.specs.Syntax.{Text, EflVar, EflType, EflGroups, NoGroup, AndGroup, EflDecl, EflDeclKind, Implicit, Initial, Variables, Area, Structure, EflProcedure}
use Rattle.efl_scope.specs.DataTypes.{DataType}
use Rattle.efl_scope.specs.Scopes.{Variable, Blocks, Implied, IsVariable, variable, variable_of, variable_if, implicit_type, naming, own_variables, undeclared, implied_of, data_type, behind, behind_declaration, group_variables, declared_by, declared_in}
use Rattle.efl_scope.proofs.TableLemmas.{bytes_eq-turned}
use Rattle.efl_types.specs.Presets.{number_in_area}
use Rattle.efl_initial_values.specs.declared.areas.Areas.{Areas}
use Rattle.efl_initial_values.specs.declared.areas.Shared.{Shared}
use Rattle.efl_initial_values.specs.declared.areas.Members.{Members}
use Rattle.efl_initial_values.specs.Owners.{AreAreas, shared_in, shared_of}
use Rattle.efl_initial_values.specs.Surveys.{Holds, Notes, Adds, shared_as, noted_in, count_in, is_in, is_named, place_in, shared_among, note_if, one_if, variables_of}

-- ---- one variable more ----

module _ {X : Type 0} (test kept : X → Bool) where
  abbrev Placed : List X → Type 0
  Placed xs = (n : ℕ) × (first_place test (filter kept xs) ≡ Some n)

  placed_next : (y : X) (ys : List X) → test y ≡ false → Placed ys → (b : Bool) → kept y ≡ b → Placed (y ∷ ys)
  placed_next y ys e (n, at) true k = (n + 1, grind (arith, e, k, at))
  placed_next y ys e (n, at) false k = (n, grind (arith, e, k, at))

  placed_first : (y x : X) (ys : List X) → test y ≡ true → find test (y ∷ ys) ≡ Some x → kept x ≡ true → Placed (y ∷ ys)
  placed_first y x ys e is here =
      let found : Some y ≡ Some x = sym (ap (λ b. cond b (Some y) (find test ys)) e) ∙ is in
      let same : y ≡ x = cc in
      let k : kept y ≡ true = ap kept same ∙ here in
      (0, grind (arith, e, k))

  -- the first that passes is among those that are kept
  place_found : (xs : List X) (x : X) → find test xs ≡ Some x → kept x ≡ true → Placed xs
  place_found [] x is here = absurd cc
  place_found (y ∷ ys) x is here = each (test y) refl (λ f. place_found ys x f here)
    where
      each : (b : Bool) → test y ≡ b → (find test ys ≡ Some x → Placed ys) → Placed (y ∷ ys)
      each true e rest = placed_first y x ys e is here
      each false e rest = placed_next y ys e (rest (sym (ap (λ b. cond b (Some y) (find test ys)) e) ∙ is)) (kept y) refl

  place_none : (xs : List X) → find test xs ≡ None → first_place test (filter kept xs) ≡ None
  place_none [] is = refl
  place_none (y ∷ ys) is = each (test y) refl (λ f. place_none ys f)
    where
      each : (b : Bool) → test y ≡ b → (find test ys ≡ None → first_place test (filter kept ys) ≡ None) → first_place test (filter kept (y ∷ ys)) ≡ None
      each true e rest = absurd (let f : Some y ≡ None = sym (ap (λ b. cond b (Some y) (find test ys)) e) ∙ is in cc)
      each false e rest = let r = rest (sym (ap (λ b. cond b (Some y) (find test ys)) e) ∙ is) in grind (arith, e, r)

same_text : (x : Text) → bytes_eq x x ≡ true
same_text x = (bytes_eq-Decides x x).1 refl

length-push_if : {X : Type 0} (b : Bool) (xs : List X) (y : X) → length (xs ++ cond b (y ∷ []) []) ≡ length xs + one_if b
length-push_if b [] y = grind arith
length-push_if b (x ∷ xs) y = let e = length-push_if b xs y in grind (arith, e)

abbrev as_pair : Text → ℕ → Text × ℕ
as_pair q n = (q, n)

-- the place of the first stays
place_kept : (vs : List Variable) (v : Variable) (q x : Text) (n : ℕ) → first_place (is_named x) (filter (is_in q) vs) ≡ Some n → place_in (vs ++ v ∷ []) q x ≡ place_in vs q x
place_kept vs v q x n at = ap (λ o. unwrap_or o 0) (ap (first_place (is_named x)) (filter-push (is_in q) vs v) ∙ each (is_in q v))
  where
    each : (b : Bool) → first_place (is_named x) (filter (is_in q) vs ++ cond b (v ∷ []) []) ≡ first_place (is_named x) (filter (is_in q) vs)
    each true = first_place-push (is_named x) (filter (is_in q) vs) v ∙ ap (λ o. option_or o (cond (is_named x v) (Some (length (filter (is_in q) vs))) None)) at ∙ sym at
    each false = ap (first_place (is_named x)) (append-nil (filter (is_in q) vs))

-- a new name stands behind all others of its area
place_new : (vs : List Variable) (v : Variable) (q x : Text) → find (is_named x) vs ≡ None → is_named x v ≡ true → is_in q v ≡ true → place_in (vs ++ v ∷ []) q x ≡ length (filter (is_in q) vs)
place_new vs v q x none named here =
    let all = filter (is_in q) vs in
    ap (λ o. unwrap_or o 0)
    (ap (first_place (is_named x)) (filter-push (is_in q) vs v ∙ ap (λ b. all ++ cond b (v ∷ []) []) here) ∙ first_place-push (is_named x) all v
    ∙ ap (λ o. option_or o (cond (is_named x v) (Some (length all)) None)) (place_none (is_named x) (is_in q) vs none)
    ∙ ap (λ b. cond b (Some (length all)) None) named)

module _ (v : Variable) (members after : Members) (areas later : Areas) (notes : Notes v.area v.name members areas after later) (vs : List Variable) (holds : Holds vs members areas) where
  shared_kept : (x : Text) (w : Variable) → find (is_named x) vs ≡ Some w → (o : Option Text) → w.area ≡ o →
      option_map {U = Text × ℕ} (λ q. (q, place_in vs q x)) o ≡ option_map {U = Text × ℕ} (λ q. (q, place_in (vs ++ v ∷ []) q x)) o
  shared_kept x w is None area = refl
  shared_kept x w is (Some q) area =
      let at = place_found (is_named x) (is_in q) vs w is (ap (is_some_and (bytes_eq q)) area ∙ same_text q) in
      ap (λ n. Some (as_pair q n)) (sym (place_kept vs v q x at.0 at.1))

  shared_new : (x : Text) → find (is_named x) vs ≡ None → is_named x v ≡ true → (o : Option Text) → v.area ≡ o →
      option_map {U = Text × ℕ} (λ q. (q, count_in members q)) o ≡ option_map {U = Text × ℕ} (λ q. (q, place_in (vs ++ v ∷ []) q x)) o
  shared_new x none named None area = refl
  shared_new x none named (Some q) area =
      ap (λ n. Some (as_pair q n)) (holds.counted q ∙ sym (place_new vs v q x none named (ap (is_some_and (bytes_eq q)) area ∙ same_text q)))

  noted_more : (x : Text) → noted_in later x ≡ option_map (shared_among (vs ++ v ∷ []) x) (find (is_named x) (vs ++ v ∷ []))
  noted_more x =
      notes.noted x ∙ ap (λ o. option_or o (note_if (is_named x v) news)) (holds.noted x)
      ∙ old (find (is_named x) vs) refl
      ∙ sym (ap (option_map (shared_among (vs ++ v ∷ []) x)) (find-push (is_named x) vs v))
    where
      news : Option (Text × ℕ)
      news = option_map {U = Text × ℕ} (λ p. (p, count_in members p)) v.area

      new : find (is_named x) vs ≡ None → (b : Bool) → is_named x v ≡ b → note_if b news ≡ option_map (shared_among (vs ++ v ∷ []) x) (cond b (Some v) None)
      new none true named = ap Some (shared_new x none named v.area refl)
      new none false named = refl

      old : (o : Option Variable) → find (is_named x) vs ≡ o →
          option_or (option_map (shared_among vs x) o) (note_if (is_named x v) news) ≡ option_map (shared_among (vs ++ v ∷ []) x) (option_or o (cond (is_named x v) (Some v) None))
      old None is = new is (is_named x v) refl
      old (Some w) is = ap Some (shared_kept x w is w.area refl)

  pub one_more : Holds (vs ++ v ∷ []) after later
  one_more = record {
    noted = noted_more;
    counted = λ q. notes.counted q ∙ ap (λ n. n + one_if (is_in q v)) (holds.counted q) ∙ sym (ap length (filter-push (is_in q) vs v) ∙ length-push_if (is_in q v) (filter (is_in q) vs) v);
  }

-- ---- many variables ----

-- those before the rest have come
pub record Left (whole rest : List Variable) (members : Members) (areas : Areas) : Type 0 where
  pub before : List Variable
  pub holds : Holds before members areas
  pub joined : before ++ rest ≡ whole

pub begun : (vs ws : List Variable) (members : Members) (areas : Areas) → Holds vs members areas → Left (vs ++ ws) ws members areas
begun vs ws members areas holds = record { before = vs; holds = holds; joined = refl }

pub passed : (whole ws rest : List Variable) (members after : Members) (areas later : Areas) → Left whole (ws ++ rest) members areas → Adds ws members areas after later → Left whole rest after later
passed whole ws rest members after areas later left adds = record {
  before = left.before ++ ws;
  holds = adds left.before left.holds;
  joined = append_assoc left.before ws rest ∙ left.joined;
}

pub ended : (whole : List Variable) (members : Members) (areas : Areas) → Left whole [] members areas → Holds whole members areas
ended whole members areas left = subst (λ vs. Holds vs members areas) (sym (append-nil left.before) ∙ left.joined) left.holds

pub adds_none : (members : Members) (areas : Areas) → Adds [] members areas members areas
adds_none members areas vs holds = subst (λ us. Holds us members areas) (sym (append-nil vs)) holds

-- a variable of a list
pub variable_adds : (q : Option Text) (t : DataType) (v : EflVar) (members after : Members) (areas later : Areas) → Notes q v.name members areas after later →
    Adds (variable [] q t v ∷ []) members areas after later
variable_adds q t v members after areas later notes vs holds = one_more (variable [] q t v) members after areas later notes vs holds

-- the groups of an area, among some blocks
pub record GroupsLeft (whole : List Variable) (q : Text) (gs : EflGroups) (members : Members) (areas : Areas) : Type 0 where
  pub now : Blocks
  pub left : Left whole (group_variables q now gs) members areas

-- the declarations of the outer block, among some blocks
pub record DeclarationsLeft (whole : List Variable) (ds : List EflDecl) (members : Members) (areas : Areas) : Type 0 where
  pub now : Blocks
  pub left : Left whole (declared_in [] now ds) members areas

pub group_passed : (whole : List Variable) (q : Text) (a : EflType) (vs : List EflVar) (p : Place) (gs : EflGroups) (members after : Members) (areas later : Areas) →
    GroupsLeft whole q (AndGroup a vs p gs) members areas → ((t : DataType) → Adds (variables_of (Some q) t vs) members areas after later) → GroupsLeft whole q gs after later
group_passed whole q a vs p gs members after areas later g adds = record {
  now = behind g.now a;
  left = passed whole (variables_of (Some q) (data_type g.now a) vs) (group_variables q (behind g.now a) gs) members after areas later g.left (adds (data_type g.now a));
}

pub declaration_passed : (whole : List Variable) (d : EflDecl) (ds : List EflDecl) (members after : Members) (areas later : Areas) →
    DeclarationsLeft whole (d ∷ ds) members areas → ((bs : Blocks) → Adds (declared_by [] bs d.kind) members areas after later) → DeclarationsLeft whole ds after later
declaration_passed whole d ds members after areas later l adds = record {
  now = behind_declaration l.now d.kind;
  left = passed whole (declared_by [] l.now d.kind) (declared_in [] (behind_declaration l.now d.kind) ds) members after areas later l.left (adds l.now);
}

pub declarations_begun : (bs : Blocks) (ds : List EflDecl) (members : Members) (areas : Areas) → ((q : Text) → count_in members q ≡ 0) → ((x : Text) → noted_in areas x ≡ None) →
    DeclarationsLeft (declared_in [] bs ds) ds members areas
declarations_begun bs ds members areas zeros none = record {
  now = bs;
  left = begun [] (declared_in [] bs ds) members areas (record { noted = none; counted = zeros });
}

pub declarations_ended : (whole : List Variable) (members : Members) (areas : Areas) → DeclarationsLeft whole [] members areas → Holds whole members areas
declarations_ended whole members areas l = ended whole members areas l.left

-- ---- all variables ----

module _ (x : Text) where
  -- the first of this name is of the outer block
  abbrev Outer : List Variable → Type 0
  Outer vs = (v : Variable) → find (is_named x) vs ≡ Some v → (v.home ≡ []) × (x ≡ v.name)

  none_found : Outer []
  none_found = λ v is. absurd (let f : None ≡ Some v = is in cc)

  find_other : (w : Variable) (ws : List Variable) (b : Bool) → is_named x w ≡ b → find (is_named x) (w ∷ ws) ≡ cond b (Some w) (find (is_named x) ws)
  find_other w ws b e = ap (λ c. cond c (Some w) (find (is_named x) ws)) e

  outer_both : (vs ws : List Variable) → Outer vs → Outer ws → Outer (vs ++ ws)
  outer_both vs ws one two v is = each (find (is_named x) vs) refl
    where
      each : (o : Option Variable) → find (is_named x) vs ≡ o → (v.home ≡ []) × (x ≡ v.name)
      each None e = two v (sym (find-append (is_named x) vs ws ∙ ap (λ o. option_or o (find (is_named x) ws)) e) ∙ is)
      each (Some w) e = one v (e ∙ (sym (find-append (is_named x) vs ws ∙ ap (λ o. option_or o (find (is_named x) ws)) e) ∙ is))

  outer_one : (w : Variable) (ws : List Variable) → w.home ≡ [] → Outer ws → Outer (w ∷ ws)
  outer_one w ws home rest v is = each (is_named x w) refl
    where
      each : (b : Bool) → is_named x w ≡ b → (v.home ≡ []) × (x ≡ v.name)
      each true e =
          let found : Some w ≡ Some v = sym (find_other w ws true e) ∙ is in
          let same : w ≡ v = cc in
          (ap (λ u. u.home) (sym same) ∙ home, (bytes_eq-Decides x w.name).0 e ∙ ap (λ u. u.name) same)
      each false e = rest v (sym (find_other w ws false e) ∙ is)

  outer_list : (q : Option Text) (t : DataType) (vs : List EflVar) → Outer (variables_of q t vs)
  outer_list q t [] = none_found
  outer_list q t (w ∷ ws) = outer_one (variable [] q t w) (variables_of q t ws) refl (outer_list q t ws)

  outer_groups : (q : Text) (bs : Blocks) (gs : EflGroups) → Outer (group_variables q bs gs)
  outer_groups q bs NoGroup = none_found
  outer_groups q bs (AndGroup a vs p gs) = outer_both (variables_of (Some q) (data_type bs a) vs) (group_variables q (behind bs a) gs) (outer_list (Some q) (data_type bs a) vs) (outer_groups q (behind bs a) gs)

  outer_kind : (bs : Blocks) (k : EflDeclKind) → Outer (declared_by [] bs k)
  outer_kind bs (Implicit rs a) = none_found
  outer_kind bs (Initial ps) = none_found
  outer_kind bs (Variables q a vs) = outer_list q (data_type bs a) vs
  outer_kind bs (Area q gs) = outer_groups q bs gs
  outer_kind bs (Structure y gs) = none_found

  outer_all : (bs : Blocks) (ds : List EflDecl) → Outer (declared_in [] bs ds)
  outer_all bs [] = none_found
  outer_all bs (d ∷ ds) = outer_both (declared_by [] bs d.kind) (declared_in [] (behind_declaration bs d.kind) ds) (outer_kind bs d.kind) (outer_all (behind_declaration bs d.kind) ds)

  abbrev Alone : List Variable → Type 0
  Alone vs = (v : Variable) → find (is_named x) vs ≡ Some v → v.area ≡ None

  alone_one : (w : Variable) (ws : List Variable) → w.area ≡ None → Alone ws → Alone (w ∷ ws)
  alone_one w ws area rest v is = each (is_named x w) refl
    where
      each : (b : Bool) → is_named x w ≡ b → v.area ≡ None
      each true e =
          let found : Some w ≡ Some v = sym (find_other w ws true e) ∙ is in
          let same : w ≡ v = cc in
          ap (λ u. u.area) (sym same) ∙ area
      each false e = rest v (sym (find_other w ws false e) ∙ is)

  -- formals without a declaration are in no area
  formals_alone : (rules : List Implied) (vs : List Variable) (xs : List Text) → Alone (undeclared rules vs xs)
  formals_alone rules vs [] = λ v is. absurd (let f : None ≡ Some v = is in cc)
  formals_alone rules vs (y ∷ ys) = each (list_any (λ v. bytes_eq y v.name) vs) (formals_alone rules vs ys)
    where
      formal : Variable
      formal = record { name = y; home = []; kind = implicit_type rules y; area = None }

      each : (b : Bool) → Alone (undeclared rules vs ys) → Alone (if b then undeclared rules vs ys else formal ∷ undeclared rules vs ys)
      each true rest = rest
      each false rest = alone_one formal (undeclared rules vs ys) refl rest

  meaning_found : (vs : List Variable) → variable_if (option_or (find_map (variable_of x) vs) None) ≡ find (is_named x) vs
  meaning_found [] = refl
  meaning_found (v ∷ vs) = each (bytes_eq x v.name) (meaning_found vs)
    where
      each : (b : Bool) → variable_if (option_or (find_map (variable_of x) vs) None) ≡ find (is_named x) vs →
          variable_if (option_or (option_or (if b then Some (IsVariable v) else None) (find_map (variable_of x) vs)) None) ≡ cond b (Some v) (find (is_named x) vs)
      each true rest = refl
      each false rest = rest

  shared_noted : (areas : Areas) → shared_in areas x ≡ option_and_then (λ o. o) (noted_in areas x)
  shared_noted areas = each (get_by (λ k. bytes_eq x k.now) areas.table)
    where
      each : (o : Option (Option Shared)) → option_and_then (option_map (λ s. (s.area.now, s.number))) o ≡ option_and_then (λ p. p) (option_map shared_as o)
      each None = refl
      each (Some s) = refl

-- every name's area is known
pub all_known : (u : EflProcedure) (members : Members) (areas : Areas) → Holds (own_variables u) members areas → AreAreas u areas
all_known u members areas holds = λ x. shared_noted x areas ∙ ap (option_and_then (λ o. o)) (holds.noted x) ∙ first x (find (is_named x) (own_variables u)) refl
    ∙ sym (ap (option_and_then (shared_of u)) (meaning_found x (own_variables u ++ formals) ∙ find-append (is_named x) (own_variables u) formals))
  where
    formals : List Variable
    formals = undeclared (implied_of u) (own_variables u) u.formals

    own : (x : Text) (v : Variable) → v.home ≡ [] → x ≡ v.name → shared_among (own_variables u) x v ≡ shared_of u v
    own x v home name =
        ap (λ y. option_map {U = Text × ℕ} (λ q. (q, number_in_area u q y)) v.area) name
        ∙ ap (λ h. option_map {U = Text × ℕ} (λ q. (q, number_in_area u q v.name)) (if bytes_eq h [] then v.area else None)) (sym home)

    alone : (v : Variable) (b : Bool) (o : Option Text) → o ≡ None → option_map {U = Text × ℕ} (λ q. (q, number_in_area u q v.name)) (if b then o else None) ≡ None
    alone v true None is = refl
    alone v true (Some q) is = absurd cc
    alone v false o is = refl

    second : (x : Text) (o : Option Variable) → find (is_named x) formals ≡ o → None ≡ option_and_then (shared_of u) o
    second x None is = refl
    second x (Some v) is = sym (alone v (bytes_eq v.home []) v.area (formals_alone x (implied_of u) (own_variables u) u.formals v is))

    first : (x : Text) (o : Option Variable) → find (is_named x) (own_variables u) ≡ o →
        option_and_then (λ p. p) (option_map (shared_among (own_variables u) x) o) ≡ option_and_then (shared_of u) (option_or o (find (is_named x) formals))
    first x None is = second x (find (is_named x) formals) refl
    first x (Some v) is = let at = outer_all x (naming u.declarations ∷ []) u.declarations v is in own x v at.0 at.1

-- ---- tables ----

absent : (o : Option (Option Shared)) → is_some o ≡ false → option_map shared_as o ≡ None
absent None is = refl
absent (Some s) is = absurd cc

noted_one : (b : Bool) (s : Option Shared) (o : Option (Option Shared)) → option_map shared_as (cond b (Some s) o) ≡ cond b (Some (shared_as s)) (option_map shared_as o)
noted_one true s o = refl
noted_one false s o = refl

-- a name that was not there is noted
pub noted_now : (old new : Areas) (name : Text) (s : Option Shared) → is_some (get_by (λ k. bytes_eq name k.now) old.table) ≡ false →
    ((x : Text) → get_by (λ k. bytes_eq x k.now) new.table ≡ cond (bytes_eq name x) (Some s) (get_by (λ k. bytes_eq x k.now) old.table)) →
    (x : Text) → noted_in new x ≡ option_or (noted_in old x) (note_if (bytes_eq x name) (shared_as s))
noted_now old new name s none put x =
    ap (option_map shared_as) (put x) ∙ noted_one (bytes_eq name x) s (get_by (λ k. bytes_eq x k.now) old.table)
    ∙ note_once (noted_in old) name x (shared_as s) (absent (get_by (λ k. bytes_eq name k.now) old.table) none)

abbrev pub length_of : Option (Vec (Bor Text) Global) → ℕ
length_of o = unwrap_or (option_map (λ v. length v.items) o) 0

pub count_taken : (b : Bool) (o : Option (Vec (Bor Text) Global)) → length_of (cond b None o) ≡ (if b then 0 else length_of o)
count_taken true o = refl
count_taken false o = refl

pub count_put : (b : Bool) (v : Vec (Bor Text) Global) (o : Option (Vec (Bor Text) Global)) → length_of (cond b (Some v) o) ≡ (if b then length v.items else length_of o)
count_put true v o = refl
count_put false v o = refl

-- an area's list comes back with one name more
pub count_more : (old middle new : Members) (a : Text) (n m : ℕ) → n ≡ count_in old a → m ≡ n + 1 → ((q : Text) → count_in middle q ≡ (if bytes_eq a q then 0 else count_in old q)) →
    ((q : Text) → count_in new q ≡ (if bytes_eq a q then m else count_in middle q)) → (q : Text) → count_in new q ≡ count_in old q + one_if (bytes_eq q a)
count_more old middle new a n m was long taken put q = each (bytes_eq q a) refl
  where
    each : (b : Bool) → bytes_eq q a ≡ b → count_in new q ≡ count_in old q + one_if b
    each true e =
        let same : q ≡ a = (bytes_eq-Decides q a).0 e in
        put q ∙ ap (λ b. if b then m else count_in middle q) (bytes_eq-turned a q ∙ e) ∙ long ∙ ap (λ k. k + 1) (was ∙ ap (count_in old) (sym same))
    each false e =
        let off = bytes_eq-turned a q ∙ e in
        put q ∙ ap (λ b. if b then m else count_in middle q) off ∙ taken q ∙ ap (λ b. if b then 0 else count_in old q) off ∙ plus_none (count_in old q)
      where
        plus_none : (n : ℕ) → n ≡ n + 0
        plus_none n = grind arith
