-- The lists of areas, as declarations come.
use Rattle.std.proofs.Common.{◌≡◌, Vec, Global, Bool, true, false, cond, ◌||◌, ℕ, List, [], ◌∷◌, ◌++◌, map, Option, Some, None, is_some, unwrap_or, refl, sym, ap, subst, ◌∙◌, append_assoc, if◌then◌else◌}
use Rattle.std.specs.List.{list_any}
use Rattle.std.specs.Option.{option_map, option_or}
use Rattle.std.specs.Str.{bytes_eq}
use Rattle.std.proofs.lemmas.List.{append-nil}
use Rattle.std.proofs.lemmas.Slice.Eq.{bytes_eq-Decides}
use Rattle.rule_table.specs.Words.{is_some_and}
use Rattle.efl_tree.specs.Syntax.{Text, EflVar, EflType, EflGroups, EflPreset, EflDeclKind, Implicit, Initial, Variables, Area, Structure, EflDecl}
use Rattle.efl_scope.specs.declared.areas.Sort.{Sort}
use Rattle.efl_scope.specs.declared.areas.AreaLists.{AreaLists}
use Rattle.efl_scope.specs.DataTypes.{DataType}
use Rattle.efl_scope.specs.Scopes.{Blocks, data_type, behind_groups, behind_declaration, declared_by, declared_in, naming, of_bounds, shape}
use Rattle.efl_scope.specs.ScopeRules.{is_of, area_of}
use Rattle.efl_scope.specs.AreaViews.{sorts_of}
use Rattle.efl_scope.proofs.NameLemmas.{or_assoc, or_false}
use Rattle.efl_scope.proofs.TableLemmas.{bytes_eq-turned}
use Rattle.efl_scoped.specs.declared.summaries.Summary.{Summary}
use Rattle.efl_scoped.specs.declared.shapes.Shapes.{Shapes}
use Rattle.efl_scoped.specs.Numbers.{Table, Grows}
use Rattle.efl_scoped.specs.Told.{Knows, TellList, TellAreas, kinds_in, sorts_in, shape_in, first_if}
use Rattle.efl_scoped.specs.Seen.{SeesGroups, SeesAlone, SeesStructure, ListsVariables, ListsGroups, SeesDeclaration}
use Rattle.efl_scoped.proofs.WordLemmas.{grows_same, grows_on}
use Rattle.efl_scoped.proofs.ShapeLemmas.{Comes, knows_named, knows_none}
use Rattle.efl_scoped.proofs.SortLemmas.{list_later, unlisted, kinds_append, kinds_of, own_variables_kinds, other_variables_kinds, own_groups_kinds, other_groups_kinds}

-- ---- declarations of no area ----

quiet : (f g : Table) (known after : Shapes) (k : EflDeclKind) (lists : AreaLists) → Grows f g → ((bs : Blocks) → Knows f known bs → Knows g after (behind_declaration bs k)) →
    ((q : Text) (bs : Blocks) → kinds_in q (declared_by [] bs k) ≡ []) → ((q : Text) → is_of q k ≡ false) → SeesDeclaration f known lists k g after lists
quiet f g known after k lists grows knows none other = record {
  grows = grows;
  knows = knows;
  adds = λ q bs ts kn told. subst (λ us. TellList g us (sorts_in lists q)) (sym (ap (λ us. ts ++ us) (none q bs) ∙ append-nil ts)) (list_later f g ts (sorts_in lists q) grows told);
  named = λ q. sym (ap (λ b. is_some (sorts_of lists q) || b) (other q) ∙ or_false (is_some (sorts_of lists q)));
}

pub implicit_seen : (f g : Table) (known after : Shapes) (rs : List (ℕ × ℕ)) (t : EflType) (lists : AreaLists) → SeesAlone f known t g after →
    SeesDeclaration f known lists (Implicit rs t) g after lists
implicit_seen f g known after rs t lists seen = quiet f g known after (Implicit rs t) lists seen.grows seen.knows (λ q bs. refl) (λ q. refl)

pub variables_seen : (f g : Table) (known after : Shapes) (t : EflType) (vs : List EflVar) (lists : AreaLists) → SeesAlone f known t g after →
    SeesDeclaration f known lists (Variables None t vs) g after lists
variables_seen f g known after t vs lists seen = quiet f g known after (Variables None t vs) lists seen.grows seen.knows (λ q bs. unlisted q (data_type bs t) vs) (λ q. refl)

pub initial_seen : (f : Table) (known : Shapes) (ps : List EflPreset) (lists : AreaLists) → SeesDeclaration f known lists (Initial ps) f known lists
initial_seen f known ps lists = quiet f f known known (Initial ps) lists (grows_same f) (λ bs k. k) (λ q bs. refl) (λ q. refl)

pub structure_seen : (f g : Table) (known after : Shapes) (x : Text) (gs : EflGroups) (lists : AreaLists) → SeesStructure f known x gs g after →
    SeesDeclaration f known lists (Structure x gs) g after lists
structure_seen f g known after x gs lists seen = quiet f g known after (Structure x gs) lists seen.grows seen.knows (λ q bs. refl) (λ q. refl)

pub structure_known : (f g : Table) (known between after : Shapes) (x : Text) (gs : EflGroups) (s : Summary) → SeesGroups f known gs g between s → Comes between (Some x) s after →
    SeesStructure f known x gs g after
structure_known f g known between after x gs s seen comes = record {
  grows = seen.grows;
  knows = λ bs k. knows_named g between after (behind_groups bs gs) (Some x) (shape bs gs) s (seen.knows bs k) (seen.tells bs k) comes;
}

-- ---- declarations of an area ----

abbrev pub Taken : AreaLists → Text → AreaLists → Type 0
Taken old a middle = (q : Text) → sorts_of middle q ≡ (if bytes_eq a q then None else sorts_of old q)

abbrev pub Put : AreaLists → Text → List Sort → AreaLists → Type 0
Put middle a ss new = (q : Text) → sorts_of new q ≡ (if bytes_eq a q then Some ss else sorts_of middle q)

module _ (f g : Table) (known after : Shapes) (old middle new : AreaLists) (a : Text) (sorts ss : List Sort) (k : EflDeclKind) (own : Blocks → List DataType)
    (grows : Grows f g) (knows : (bs : Blocks) → Knows f known bs → Knows g after (behind_declaration bs k))
    (adds : (bs : Blocks) (ts : List DataType) → Knows f known bs → TellList f ts sorts → TellList g (ts ++ own bs) ss)
    (was : sorts ≡ sorts_in old a) (taken : Taken old a middle) (put : Put middle a ss new) (of : area_of k ≡ Some a)
    (owned : (q : Text) (bs : Blocks) → bytes_eq q a ≡ true → kinds_in q (declared_by [] bs k) ≡ own bs)
    (others : (q : Text) (bs : Blocks) → bytes_eq q a ≡ false → kinds_in q (declared_by [] bs k) ≡ []) where
  at : (q : Text) (b : Bool) → bytes_eq q a ≡ b → bytes_eq a q ≡ b
  at q b is = bytes_eq-turned a q ∙ is

  new_at : (q : Text) → bytes_eq q a ≡ true → sorts_of new q ≡ Some ss
  new_at q is = put q ∙ ap (λ b. if b then Some ss else sorts_of middle q) (at q true is)

  new_off : (q : Text) → bytes_eq q a ≡ false → sorts_of new q ≡ sorts_of old q
  new_off q is = put q ∙ ap (λ b. if b then Some ss else sorts_of middle q) (at q false is) ∙ taken q ∙ ap (λ b. if b then None else sorts_of old q) (at q false is)

  each : (q : Text) (bs : Blocks) (ts : List DataType) → Knows f known bs → TellList f ts (sorts_in old q) → (b : Bool) → bytes_eq q a ≡ b →
      TellList g (ts ++ kinds_in q (declared_by [] bs k)) (sorts_in new q)
  each q bs ts kn told true is =
      let same : q ≡ a = (bytes_eq-Decides q a).0 is in
      let before : TellList f ts sorts = subst (TellList f ts) (ap (sorts_in old) same ∙ sym was) told in
      subst (λ us. TellList g (ts ++ us) (sorts_in new q)) (sym (owned q bs is)) (subst (TellList g (ts ++ own bs)) (sym (ap (λ o. unwrap_or o []) (new_at q is))) (adds bs ts kn before))
  each q bs ts kn told false is =
      subst (TellList g (ts ++ kinds_in q (declared_by [] bs k))) (sym (ap (λ o. unwrap_or o []) (new_off q is)))
      (subst (λ us. TellList g us (sorts_in old q)) (sym (ap (λ us. ts ++ us) (others q bs is) ∙ append-nil ts)) (list_later f g ts (sorts_in old q) grows told))

  named : (q : Text) (b : Bool) → bytes_eq q a ≡ b → is_some (sorts_of new q) ≡ (is_some (sorts_of old q) || is_of q k)
  named q true is =
      ap is_some (new_at q is) ∙ sym (ap (λ b. is_some (sorts_of old q) || b) (ap (is_some_and (bytes_eq q)) of ∙ is) ∙ or_true (is_some (sorts_of old q)))
    where
      or_true : (b : Bool) → (b || true) ≡ true
      or_true true = refl
      or_true false = refl
  named q false is = ap is_some (new_off q is) ∙ sym (ap (λ b. is_some (sorts_of old q) || b) (ap (is_some_and (bytes_eq q)) of ∙ is) ∙ or_false (is_some (sorts_of old q)))

  area_seen : SeesDeclaration f known old k g after new
  area_seen = record {
    grows = grows;
    knows = knows;
    adds = λ q bs ts kn told. each q bs ts kn told (bytes_eq q a) refl;
    named = λ q. named q (bytes_eq q a) refl;
  }

pub area_variables_seen : (f g : Table) (known after : Shapes) (old middle new : AreaLists) (a : Text) (t : EflType) (vs : List EflVar) (sorts ss : List Sort) →
    ListsVariables f known t vs sorts g after ss → sorts ≡ sorts_in old a → Taken old a middle → Put middle a ss new → SeesDeclaration f known old (Variables (Some a) t vs) g after new
area_variables_seen f g known after old middle new a t vs sorts ss listed was taken put =
    area_seen f g known after old middle new a sorts ss (Variables (Some a) t vs) (λ bs. map (of_bounds (data_type bs t)) vs) listed.grows listed.knows listed.adds was taken put refl
    (λ q bs. own_variables_kinds a q (data_type bs t) vs) (λ q bs. other_variables_kinds a q (data_type bs t) vs)

pub area_groups_seen : (f g : Table) (known after : Shapes) (old middle new : AreaLists) (a : Text) (gs : EflGroups) (sorts ss : List Sort) →
    ListsGroups f known gs sorts g after ss → sorts ≡ sorts_in old a → Taken old a middle → Put middle a ss new → SeesDeclaration f known old (Area a gs) g after new
area_groups_seen f g known after old middle new a gs sorts ss listed was taken put =
    area_seen f g known after old middle new a sorts ss (Area a gs) (λ bs. kinds_of a bs gs) listed.grows listed.knows (λ bs. listed.adds a bs) was taken put refl
    (λ q bs. own_groups_kinds a q bs gs) (λ q bs. other_groups_kinds a q bs gs)

-- ---- all declarations of a procedure ----

-- those before have come
pub record DeclarationsLeft (f : Table) (ds : List EflDecl) (g : Table) (known : Shapes) (lists : AreaLists) (rest : List EflDecl) : Type 0 where
  pub grows : Grows f g
  pub now : Blocks
  pub knows : Knows g known now
  pub before : Text → List DataType
  pub told : (q : Text) → TellList g (before q) (sorts_in lists q)
  pub joined : (q : Text) → before q ++ kinds_in q (declared_in [] now rest) ≡ kinds_in q (declared_in [] (naming ds ∷ []) ds)
  pub named : (q : Text) → (is_some (sorts_of lists q) || list_any (λ d. is_of q d.kind) rest) ≡ list_any (λ d. is_of q d.kind) ds

pub declarations_begun : (f : Table) (ds : List EflDecl) (known : Shapes) (lists : AreaLists) → ((x : Text) → shape_in known x ≡ None) → ((q : Text) → sorts_of lists q ≡ None) →
    DeclarationsLeft f ds f known lists ds
declarations_begun f ds known lists nothing none = record {
  grows = grows_same f;
  now = naming ds ∷ [];
  knows = knows_none f known ds nothing;
  before = λ q. [];
  told = λ q. subst (TellList f []) (sym (ap (λ o. unwrap_or o []) (none q))) tt;
  joined = λ q. refl;
  named = λ q. ap (λ o. is_some o || list_any (λ d. is_of q d.kind) ds) (none q);
}

pub declaration_passed : (f g h : Table) (ds : List EflDecl) (known after : Shapes) (old new : AreaLists) (d : EflDecl) (rest : List EflDecl) → DeclarationsLeft f ds g known old (d ∷ rest) →
    SeesDeclaration g known old d.kind h after new → DeclarationsLeft f ds h after new rest
declaration_passed f g h ds known after old new d rest left seen = record {
  grows = grows_on f g h left.grows seen.grows;
  now = behind_declaration left.now d.kind;
  knows = seen.knows left.now left.knows;
  before = λ q. left.before q ++ kinds_in q (declared_by [] left.now d.kind);
  told = λ q. seen.adds q left.now (left.before q) left.knows (left.told q);
  joined = λ q.
      append_assoc (left.before q) (kinds_in q (declared_by [] left.now d.kind)) (kinds_in q (declared_in [] (behind_declaration left.now d.kind) rest))
      ∙ ap (λ us. left.before q ++ us) (sym (kinds_append q (declared_by [] left.now d.kind) (declared_in [] (behind_declaration left.now d.kind) rest)))
      ∙ left.joined q;
  named = λ q.
      ap (λ b. b || list_any (λ d. is_of q d.kind) rest) (seen.named q)
      ∙ sym (or_assoc (is_some (sorts_of old q)) (is_of q d.kind) (list_any (λ d. is_of q d.kind) rest)) ∙ left.named q;
}

pub declarations_ended : (f g : Table) (ds : List EflDecl) (known : Shapes) (lists : AreaLists) → DeclarationsLeft f ds g known lists [] → TellAreas g ds lists
declarations_ended f g ds known lists left = record {
  told = λ q. subst (λ us. TellList g us (sorts_in lists q)) (sym (append-nil (left.before q)) ∙ left.joined q) (left.told q);
  named = λ q. sym (or_false (is_some (sorts_of lists q))) ∙ left.named q;
}

-- ---- the lists of the first procedures ----

pub first_passed : (o : Option (List Sort)) (own : AreaLists) (q : Text) (b c : Bool) → option_or (option_or o (first_if own b q)) (first_if own c q) ≡ option_or o (first_if own (b || c) q)
first_passed None own q true c = refl
first_passed None own q false c = refl
first_passed (Some ss) own q b c = refl

-- ---- tables ----

pub list_taken : (b : Bool) (o : Option (Vec Sort Global)) → option_map (λ v. v.items) (cond b None o) ≡ (if b then None else option_map (λ v. v.items) o)
list_taken true o = refl
list_taken false o = refl

pub list_put : (b : Bool) (v : Vec Sort Global) (o : Option (Vec Sort Global)) → option_map (λ v. v.items) (cond b (Some v) o) ≡ (if b then Some v.items else option_map (λ v. v.items) o)
list_put true v o = refl
list_put false v o = refl
