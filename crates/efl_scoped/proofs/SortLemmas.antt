-- Lists of sorts, as variables come.
use Rattle.std.proofs.Common.{◌≡◌, ◌<◌, ◌≤◌, ◌+◌, length, take, get_or, Bool, true, false, cond, ℕ, List, [], ◌∷◌, ◌++◌, map, filter, Some, None, refl, sym, ap, subst, ◌∙◌, append_assoc}
use Rattle.std.specs.Str.{bytes_eq}
use Rattle.std.proofs.lemmas.List.{append-nil, map-append, take_all, take_more}
use Rattle.std.proofs.lemmas.List.Elements.{filter-append}
use Rattle.rule_table.specs.Words.{is_some_and}
use Rattle.ground.specs.declared.place.Place.{Place}
use Rattle.efl_tree.specs.Syntax.{Text, EflVar, EflType, EflGroups, NoGroup, AndGroup}
use Rattle.efl_tree.specs.declared.declaration.EflVar as vars
use Rattle.efl_tree.specs.Views.{var_of, vars_of}
use Rattle.efl_scope.specs.declared.areas.Sort.{Sort}
use Rattle.efl_scope.specs.DataTypes.{DataType}
use Rattle.efl_scope.specs.Scopes.{Blocks, Variable, variable, group_variables, data_type, behind, behind_groups, of_bounds}
use Rattle.efl_scoped.specs.declared.summaries.Summary.{Summary}
use Rattle.efl_scoped.specs.declared.shapes.Shapes.{Shapes}
use Rattle.efl_scoped.specs.Numbers.{Table, Grows}
use Rattle.efl_scoped.specs.Told.{Tells, Knows, TellsSort, TellList, kinds_in}
use Rattle.efl_scoped.specs.Seen.{IsBounded, AddsSorts, SeesType, SeesAlone, ListsVariables, ListsGroups}
use Rattle.efl_scoped.proofs.WordLemmas.{grows_same, grows_on}
use Rattle.efl_scoped.proofs.MemberLemmas.{tells_later}
use Rattle.efl_scoped.proofs.ShapeLemmas.{knows_later}

pub sort_later : (f g : Table) (t : DataType) (s : Sort) → Grows f g → TellsSort f t s → TellsSort g t s
sort_later f g t s grows told = record { faulty = told.faulty; numbered = λ sound h more. told.numbered sound h (grows_on f g h grows more) }

pub list_later : (f g : Table) (ts : List DataType) (ss : List Sort) → Grows f g → TellList f ts ss → TellList g ts ss
list_later f g [] [] grows told = tt
list_later f g (t ∷ ts) (s ∷ ss) grows told = (sort_later f g t s grows told.0, list_later f g ts ss grows told.1)
list_later f g [] (s ∷ ss) grows told = absurd told
list_later f g (t ∷ ts) [] grows told = absurd told

pub list_more : (g : Table) (ts : List DataType) (ss : List Sort) (t : DataType) (s : Sort) → TellList g ts ss → TellsSort g t s → TellList g (ts ++ t ∷ []) (ss ++ s ∷ [])
list_more g [] [] t s told one = (one, tt)
list_more g (u ∷ ts) (r ∷ ss) t s told one = (told.0, list_more g ts ss t s told.1 one)
list_more g [] (r ∷ ss) t s told one = absurd told
list_more g (u ∷ ts) [] t s told one = absurd told

-- ---- variables of one type ----

pub record SortsLeft (f : Table) (s : Summary) (old : List Sort) (g : Table) (before : List EflVar) (new : List Sort) : Type 0 where
  pub grows : Grows f g
  pub told : (t : DataType) (ts : List DataType) → Tells f t s → TellList f ts old → TellList g (ts ++ map (of_bounds t) before) new

pub sorts_begun : (f : Table) (s : Summary) (old : List Sort) → SortsLeft f s old f [] old
sorts_begun f s old = record { grows = grows_same f; told = λ t ts is told. subst (λ us. TellList f us old) (sym (append-nil ts)) told }

pub sort_passed : (f g h : Table) (s m : Summary) (r : Sort) (old new : List Sort) (before : List EflVar) (v : EflVar) → SortsLeft f s old g before new → IsBounded g s v.bounds h m →
    ((i : Table) (t : DataType) → Tells i t m → TellsSort i t r) → SortsLeft f s old h (before ++ v ∷ []) (new ++ r ∷ [])
sort_passed f g h s m r old new before v left typed sort = record { grows = grows_on f g h left.grows typed.grows; told = each }
  where
    joined : (t : DataType) (ts : List DataType) → (ts ++ map (of_bounds t) before) ++ of_bounds t v ∷ [] ≡ ts ++ map (of_bounds t) (before ++ v ∷ [])
    joined t ts = append_assoc ts (map (of_bounds t) before) (of_bounds t v ∷ []) ∙ ap (λ us. ts ++ us) (sym (map-append (of_bounds t) before (v ∷ [])))

    each : (t : DataType) (ts : List DataType) → Tells f t s → TellList f ts old → TellList h (ts ++ map (of_bounds t) (before ++ v ∷ [])) (new ++ r ∷ [])
    each t ts is told =
        subst (λ us. TellList h us (new ++ r ∷ [])) (joined t ts)
        (list_more h (ts ++ map (of_bounds t) before) new (of_bounds t v) r
        (list_later g h (ts ++ map (of_bounds t) before) new typed.grows (left.told t ts is told))
        (sort h (of_bounds t v) (typed.tells t (tells_later f g t s left.grows is))))

pub sorts_ended : (f g : Table) (s : Summary) (old new : List Sort) (before vs : List EflVar) → before ≡ vs → SortsLeft f s old g before new → AddsSorts f s vs old g new
sorts_ended f g s old new before vs all left = record {
  grows = left.grows;
  adds = λ t ts is told. subst (λ us. TellList g (ts ++ map (of_bounds t) us) new) all (left.told t ts is told);
}

pub alone_seen : (f g : Table) (known after : Shapes) (t : EflType) (s : Summary) → SeesType f known t g after s → SeesAlone f known t g after
alone_seen f g known after t s seen = record { grows = seen.grows; knows = seen.knows }

pub variables_listed : (f g h : Table) (known after : Shapes) (t : EflType) (vs : List EflVar) (s : Summary) (old new : List Sort) → SeesType f known t g after s →
    AddsSorts g s vs old h new → ListsVariables f known t vs old h after new
variables_listed f g h known after t vs s old new seen added = record {
  grows = grows_on f g h seen.grows added.grows;
  adds = λ bs ts k told. added.adds (data_type bs t) ts (seen.tells bs k) (list_later f g ts old seen.grows told);
  knows = λ bs k. knows_later g h after (behind bs t) added.grows (seen.knows bs k);
}

-- ---- groups ----

abbrev pub kinds_of : Text → Blocks → EflGroups → List DataType
kinds_of q bs gs = map (λ v. v.kind) (group_variables q bs gs)

kinds_are : (q : Text) (t : DataType) (vs : List EflVar) → map (λ v. v.kind) (map (variable [] (Some q) t) vs) ≡ map (of_bounds t) vs
kinds_are q t [] = refl
kinds_are q t (v ∷ vs) = ap (λ us. of_bounds t v ∷ us) (kinds_are q t vs)

group_kinds : (q : Text) (bs : Blocks) (t : EflType) (vs : List EflVar) (p : Place) (gs : EflGroups) →
    kinds_of q bs (AndGroup t vs p gs) ≡ map (of_bounds (data_type bs t)) vs ++ kinds_of q (behind bs t) gs
group_kinds q bs t vs p gs =
    map-append (λ v. v.kind) (map (variable [] (Some q) (data_type bs t)) vs) (group_variables q (behind bs t) gs)
    ∙ ap (λ us. us ++ kinds_of q (behind bs t) gs) (kinds_are q (data_type bs t) vs)

-- the groups before are listed, among the blocks that are now
pub record ListedAt (f : Table) (gs : EflGroups) (old : List Sort) (bs : Blocks) (g : Table) (after : Shapes) (rest : EflGroups) (new : List Sort) : Type 0 where
  pub now : Blocks
  pub knows : Knows g after now
  pub ahead : behind_groups bs gs ≡ behind_groups now rest
  pub told : (q : Text) (ts : List DataType) → TellList f ts old → (us : List DataType) × TellList g us new × (us ++ kinds_of q now rest ≡ ts ++ kinds_of q bs gs)

pub record GroupsListed (f : Table) (known : Shapes) (gs : EflGroups) (old : List Sort) (g : Table) (after : Shapes) (rest : EflGroups) (new : List Sort) : Type 0 where
  pub grows : Grows f g
  pub left : (bs : Blocks) → Knows f known bs → ListedAt f gs old bs g after rest new

pub listing_begun : (f : Table) (known : Shapes) (gs : EflGroups) (old : List Sort) → GroupsListed f known gs old f known gs old
listing_begun f known gs old = record {
  grows = grows_same f;
  left = λ bs k. record { now = bs; knows = k; ahead = refl; told = λ q ts told. (ts, told, refl) };
}

pub group_listed : (f g h : Table) (known between after : Shapes) (gs : EflGroups) (old middle new : List Sort) (t : EflType) (vs : List EflVar) (p : Place) (rest : EflGroups) →
    GroupsListed f known gs old g between (AndGroup t vs p rest) middle → ListsVariables g between t vs middle h after new → GroupsListed f known gs old h after rest new
group_listed f g h known between after gs old middle new t vs p rest left listed = record { grows = grows_on f g h left.grows listed.grows; left = each }
  where
    each : (bs : Blocks) → Knows f known bs → ListedAt f gs old bs h after rest new
    each bs k =
        let at = left.left bs k in
        record {
          now = behind at.now t;
          knows = listed.knows at.now at.knows;
          ahead = at.ahead;
          told = λ q ts told. let was = at.told q ts told in (
            was.0 ++ map (of_bounds (data_type at.now t)) vs,
            listed.adds at.now was.0 at.knows was.1,
            append_assoc was.0 (map (of_bounds (data_type at.now t)) vs) (kinds_of q (behind at.now t) rest) ∙ ap (λ us. was.0 ++ us) (sym (group_kinds q at.now t vs p rest)) ∙ was.2,
          );
        }

pub listing_ended : (f g : Table) (known after : Shapes) (gs : EflGroups) (old new : List Sort) → GroupsListed f known gs old g after NoGroup new → ListsGroups f known gs old g after new
listing_ended f g known after gs old new left = record { grows = left.grows; adds = each; knows = λ bs k. let at = left.left bs k in subst (Knows g after) (sym at.ahead) at.knows }
  where
    each : (q : Text) (bs : Blocks) (ts : List DataType) → Knows f known bs → TellList f ts old → TellList g (ts ++ kinds_of q bs gs) new
    each q bs ts k told = let was = (left.left bs k).told q ts told in subst (λ us. TellList g us new) (sym (append-nil was.0) ∙ was.2) was.1

-- ---- the variables in an area ----

abbrev AllIn : Text → List Variable → Type 0
AllIn a [] = Unit {0}
AllIn a (v ∷ vs) = (v.area ≡ Some a) × AllIn a vs

all-append : (a : Text) (vs ws : List Variable) → AllIn a vs → AllIn a ws → AllIn a (vs ++ ws)
all-append a [] ws left right = right
all-append a (v ∷ vs) ws left right = (left.0, all-append a vs ws left.1 right)

variables_in : (a : Text) (t : DataType) (vs : List EflVar) → AllIn a (map (variable [] (Some a) t) vs)
variables_in a t [] = tt
variables_in a t (v ∷ vs) = (refl, variables_in a t vs)

groups_in : (a : Text) (bs : Blocks) (gs : EflGroups) → AllIn a (group_variables a bs gs)
groups_in a bs NoGroup = tt
groups_in a bs (AndGroup t vs p gs) = all-append a (map (variable [] (Some a) (data_type bs t)) vs) (group_variables a (behind bs t) gs) (variables_in a (data_type bs t) vs) (groups_in a (behind bs t) gs)

all_kinds : (a q : Text) (vs : List Variable) → AllIn a vs → bytes_eq q a ≡ true → kinds_in q vs ≡ map (λ v. v.kind) vs
all_kinds a q [] all same = refl
all_kinds a q (v ∷ vs) all same =
    ap (λ b. map (λ w. w.kind) (cond b (v ∷ filter (λ w. is_some_and (bytes_eq q) w.area) vs) (filter (λ w. is_some_and (bytes_eq q) w.area) vs)))
    (ap (is_some_and (bytes_eq q)) all.0 ∙ same)
    ∙ ap (λ us. v.kind ∷ us) (all_kinds a q vs all.1 same)

no_kinds : (a q : Text) (vs : List Variable) → AllIn a vs → bytes_eq q a ≡ false → kinds_in q vs ≡ []
no_kinds a q [] all apart = refl
no_kinds a q (v ∷ vs) all apart =
    ap (λ b. map (λ w. w.kind) (cond b (v ∷ filter (λ w. is_some_and (bytes_eq q) w.area) vs) (filter (λ w. is_some_and (bytes_eq q) w.area) vs)))
    (ap (is_some_and (bytes_eq q)) all.0 ∙ apart)
    ∙ no_kinds a q vs all.1 apart

pub unlisted : (q : Text) (t : DataType) (vs : List EflVar) → kinds_in q (map (variable [] None t) vs) ≡ []
unlisted q t [] = refl
unlisted q t (v ∷ vs) = unlisted q t vs

pub kinds_append : (q : Text) (vs ws : List Variable) → kinds_in q (vs ++ ws) ≡ kinds_in q vs ++ kinds_in q ws
kinds_append q vs ws =
    let test : Variable → Bool = λ v. is_some_and (bytes_eq q) v.area in
    ap (map (λ v. v.kind)) (filter-append test vs ws) ∙ map-append (λ v. v.kind) (filter test vs) (filter test ws)

-- the variables of a declaration, in the area and in another
pub own_variables_kinds : (a q : Text) (t : DataType) (vs : List EflVar) → bytes_eq q a ≡ true → kinds_in q (map (variable [] (Some a) t) vs) ≡ map (of_bounds t) vs
own_variables_kinds a q t vs same = all_kinds a q (map (variable [] (Some a) t) vs) (variables_in a t vs) same ∙ kinds_are a t vs

pub other_variables_kinds : (a q : Text) (t : DataType) (vs : List EflVar) → bytes_eq q a ≡ false → kinds_in q (map (variable [] (Some a) t) vs) ≡ []
other_variables_kinds a q t vs apart = no_kinds a q (map (variable [] (Some a) t) vs) (variables_in a t vs) apart

pub own_groups_kinds : (a q : Text) (bs : Blocks) (gs : EflGroups) → bytes_eq q a ≡ true → kinds_in q (group_variables a bs gs) ≡ kinds_of a bs gs
own_groups_kinds a q bs gs same = all_kinds a q (group_variables a bs gs) (groups_in a bs gs) same

pub other_groups_kinds : (a q : Text) (bs : Blocks) (gs : EflGroups) → bytes_eq q a ≡ false → kinds_in q (group_variables a bs gs) ≡ []
other_groups_kinds a q bs gs apart = no_kinds a q (group_variables a bs gs) (groups_in a bs gs) apart

-- the variables before, with one more
pub variables_next : (list : List vars.EflVar) (i : ℕ) (x : vars.EflVar) → i < length list → x ≡ get_or list i x → vars_of (take (i + 1) list) ≡ vars_of (take i list) ++ var_of x ∷ []
variables_next list i x lt is = ap vars_of (take_more list i x lt) ∙ map-append var_of (take i list) (get_or list i x ∷ []) ∙ ap (λ y. vars_of (take i list) ++ var_of y ∷ []) (sym is)

pub variables_all : (list : List vars.EflVar) (i : ℕ) → length list ≤ i → vars_of (take i list) ≡ vars_of list
variables_all list i long = ap vars_of (take_all i list long)
