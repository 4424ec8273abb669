-- Parts are counted by the variables that they list and by what they use, and parts that meet none change nothing.
use Rattle.std.proofs.Common.{◌≡◌, ℕ, Bool, true, false, not, ◌&&◌, List, [], ◌∷◌, ◌++◌, Option, Some, None, option_map, if◌then◌else◌, refl, sym, ap, subst, ◌∙◌, append_assoc}
use Rattle.std.specs.List.{filter_map, cons_option, slice_get}
use Rattle.std.specs.Option.{option_or}
use Rattle.std.specs.Str.{bytes_eq}
use Rattle.std.proofs.lemmas.List.{append-nil}
use Rattle.std.proofs.lemmas.List.Elements.{filter_map-append}
use Rattle.ground.specs.declared.value.Kind.{Kind}
use Rattle.efl_tree.specs.Syntax.{Text, EflDeclKind, EflProcedure}
use Rattle.efl_scope.specs.DataTypes.{NoType}
use Rattle.efl_scope.specs.Scopes.{Variable, Meaning, IsVariable, IsStructure, meaning, variable_if, implied_of, outer}
use Rattle.efl_scope.specs.Scopes as scopes
use Rattle.efl_scope.specs.ScopeRules.{holds}
use Rattle.efl_scope.specs.Parts.{Header, Declares, Around, Part, part}
use Rattle.efl_scope.specs.Marks.{implied_at, variables_by}
use Rattle.efl_scope.specs.Uses.{uses_declared}
use Rattle.efl_types.specs.Presets.{area_if_outer, number_in_area}
use Rattle.efl_types.specs.Signatures.{type_by}
use Rattle.efl_types.specs.Storage.{counted, is_first_of}
use Rattle.efl_scoped.specs.Numbers.{Table}
use Rattle.efl_scoped.specs.Seen.{table_of}
use Rattle.efl_scoped.proofs.DecodeLemmas.{some_of}
use Rattle.efl_expressions.specs.declared.types.Structure.{Structure}
use Rattle.efl_expressions.specs.declared.names.Block.{Block}
use Rattle.efl_expressions.specs.declared.names.Blocks.{Blocks}
use Rattle.efl_expressions.specs.declared.names.Blocks.TheBlock.{Outside}
use Rattle.efl_expressions.specs.NameViews.{entry_in, IsMeaningIfAny, Know}
use Rattle.efl_variables.specs.Numbered.{scalar_kind}
use Rattle.efl_storage.specs.declared.firsts.Firsts.{Firsts}
use Rattle.efl_storage.specs.declared.storage.Storage.{Storage}
use Rattle.efl_storage.specs.declared.met.Sight.{Sight}
use Rattle.efl_storage.specs.Firsts.{AreFirsts}
use Rattle.efl_storage.specs.Counted.{Counted, value_of}
use Rattle.efl_storage.specs.Meets.{place_number, MeetsNamed, IsWithin}
use Rattle.efl_storage.specs.Parts.{Takes, met_in, Sees, TakesUses}
use Rattle.efl_storage.proofs.PartLemmas.{takes_none, takes_then, part_counted, nothing_counted, rules_of, listed_counted, inner_value, outer_value}
use Rattle.efl_storage.proofs.ListedLemmas.{its_places, variable_taken, formal_taken}
use Rattle.efl_blocks.specs.declared.types.Types.{Types}
use Rattle.efl_blocks.specs.HomeViews.{home_in}
use Rattle.efl_blocks.proofs.WithinLemmas.{within_known}
use Rattle.efl_initial_values.specs.declared.areas.Areas.{Areas}
use Rattle.efl_initial_values.specs.Owners.{shared_in, IsAt}
use Rattle.efl_initial_values.proofs.VariableLemmas.{home_found}
use Rattle.efl_reading.specs.declared.sites.Site.{Site}
use Rattle.efl_reading.specs.Reading.{IsSite}
use Rattle.efl_reading.specs.Counting.{CountsDeclaration, CountsHeader, MeetNone, TakesListed, ArePlaces, TakesFormals, IsPlace}

-- ---- parts that meet no variable ----

pub none_counted : (us : List EflProcedure) (vs ws : List Part) (s : Storage) → MeetNone ws → Counted us vs s → Counted us (vs ++ ws) s
none_counted us vs [] s quiet known = subst (λ xs. Counted us xs s) (sym (append-nil vs)) known
none_counted us vs (w ∷ ws) s quiet known =
    subst (λ xs. Counted us xs s) (append_assoc vs (w ∷ []) ws)
    (none_counted us (vs ++ w ∷ []) ws s quiet.2 (nothing_counted us vs w s quiet.0 quiet.1 known))

-- ---- headers ----

pub formals_begun : (n : ℕ) (formals : List Text) (blocks : Blocks) (s : Storage) → TakesFormals n formals blocks [] s s
formals_begun n formals blocks s y us u found are know = takes_none us n s

-- the type of a variable among these blocks, where it is a scalar
abbrev pub TellsKind : Blocks → Text → Option Kind → Type 0
TellsKind blocks x kind = (f : Table) (ss : List Structure) (bs : scopes.Blocks) (v : Variable) → Know f ss bs blocks → variable_if (meaning bs x) ≡ Some v → scalar_kind v.kind ≡ kind

pub formals_passed : (n : ℕ) (formals : List Text) (blocks : Blocks) (names : List Text) (x : Text) (kind : Option Kind) (a b c : Storage) → holds formals x ≡ true →
    TakesFormals n formals blocks names a b → TellsKind blocks x kind → MeetsNamed b n 0 x kind 0 c → TakesFormals n formals blocks (names ++ x ∷ []) a c
formals_passed n formals blocks names x kind a b c held first tells meets y us u found are know =
    let seen : Text → Option Variable = λ z. variable_if (meaning (outer u) z) in
    subst (λ vs. Takes us n vs a c) (sym (filter_map-append seen names (x ∷ [])))
    (takes_then us n (filter_map seen names) (filter_map seen (x ∷ [])) a b c (first y us u found are know)
    (formal_taken us n u x kind b c found (ap (λ fs. holds fs x) are ∙ held) (λ v is. tells (table_of y.numbers) y.structures.list.items (outer u) v know is) meets))

-- by the outer block alone
pub header_counted : (n : ℕ) (formals : List Text) (block : Block) (names : List Text) (old new : Storage) → names ≡ formals →
    ((y : Types) (us : List EflProcedure) (u : EflProcedure) → slice_get us n ≡ Some u → u.formals ≡ names →
    ((x : Text) → IsMeaningIfAny (table_of y.numbers) y.structures.list.items (meaning (outer u) x) (option_or (entry_in block x) None)) →
    Takes us n (filter_map (λ x. variable_if (meaning (outer u) x)) names) old new) → CountsHeader n formals block old new
header_counted n formals block names old new same takes y us u a p vs found are unit around within known =
    let all : u.formals ≡ names = are ∙ sym same in
    listed_counted us vs (part a p (Header u.result u.formals)) n old new unit refl
    (subst (λ fs. Takes us n (filter_map (λ x. variable_if (meaning a.blocks x)) fs) old new) (sym all)
    (subst (λ bs. Takes us n (filter_map (λ x. variable_if (meaning bs x)) names) old new) (sym around) (takes y us u found all (within_known y (outer u) block Outside within))))
    known

-- ---- places in a procedure ----

pub place_top : (s : Storage) → IsPlace s [] s 0
place_top s = record { known = λ us xs known. known; numbered = refl }

pub place_inside : (a b c : Storage) (h : List ℕ) (step home n : ℕ) → IsPlace a h b home → IsWithin b step home c n → IsPlace a (step ∷ h) c n
place_inside a b c h step home n outside inside = record {
  known = λ us xs known. inside.known us xs (outside.known us xs known);
  numbered = inside.numbered h outside.numbered;
}

-- ---- names that a declaration lists ----

no_variable : (o : Option Variable) → None ≡ option_map (λ v. v.home) o → o ≡ None
no_variable None is = refl
no_variable (Some v) is = absurd (let e : None ≡ Some v.home = is in cc)

pub listed_begun : (y : Types) (s : Site) (firsts : Firsts) (old : Storage) → TakesListed y s firsts [] old old
listed_begun y s firsts old us u a is are = takes_none us s.procedure.now.unit old

pub listed_passed : (y : Types) (s : Site) (firsts : Firsts) (names : List Text) (x : Text) (a b c : Storage) → TakesListed y s firsts names a b → TakesListed y s firsts (x ∷ []) b c →
    TakesListed y s firsts (names ++ x ∷ []) a c
listed_passed y s firsts names x a b c first second us u at is are =
    let seen : Text → Option Variable = λ z. variable_if (meaning at.blocks z) in
    let n = s.procedure.now.unit in
    subst (λ vs. Takes us n vs a c) (sym (filter_map-append seen names (x ∷ [])))
    (takes_then us n (filter_map seen names) (filter_map seen (x ∷ [])) a b c (first us u at is are) (second us u at is are))

-- a name that no block declares as a variable
pub none_listed : (y : Types) (s : Site) (firsts : Firsts) (x : Text) (old : Storage) → None ≡ home_in s.homes.now x → TakesListed y s firsts (x ∷ []) old old
none_listed y s firsts x old none us u a is are =
    let n = s.procedure.now.unit in
    subst (λ o. Takes us n (cons_option o []) old old) (sym (no_variable (variable_if (meaning a.blocks x)) (none ∙ is.homes.told x))) (takes_none us n old)

pub one_listed : (y : Types) (s : Site) (firsts : Firsts) (x : Text) (h : List ℕ) (kind : Option Kind) (many home : ℕ) (old mid new : Storage) → Some h ≡ home_in s.homes.now x → ArePlaces y s firsts x h many →
    TellsKind s.blocks.now x kind → IsPlace old h mid home → MeetsNamed mid s.procedure.now.unit home x kind many new → TakesListed y s firsts (x ∷ []) old new
one_listed y s firsts x h kind many home old mid new found places tells place meets us u a is are =
    let n = s.procedure.now.unit in
    let areas = s.procedure.now.areas.now in
    let m = home_found u a.blocks s.homes.now areas x h is.homes is.procedure.areas found in
    let v = m.variable in
    subst (λ o. Takes us n (cons_option (variable_if o) []) old new) (sym m.is)
    (λ xs known. variable_taken us n v home x kind many mid new (subst (λ g. place_number mid g ≡ Some home) (sym m.at.home) place.numbered) (sym m.at.name)
    (tells (table_of y.numbers) y.structures.list.items a.blocks v is.blocks (ap variable_if m.is))
    (its_places us n u v many is.procedure.found (places us u a v is are (ap variable_if m.is) m.at)) meets xs (place.known us xs known))

-- ---- how many places count ----

-- of a variable of an inner block
pub inside_places : (y : Types) (s : Site) (firsts : Firsts) (x : Text) (step : ℕ) (h : List ℕ) (many : ℕ) →
    ((us : List EflProcedure) (u : EflProcedure) (a : Around) (v : Variable) → IsSite y us u a s → variable_if (meaning a.blocks x) ≡ Some v → many ≡ counted v.kind) → ArePlaces y s firsts x (step ∷ h) many
inside_places y s firsts x step h many counts us u a v is are means at =
    counts us u a v is means ∙ sym (inner_value us s.procedure.now.unit u v (ap (λ g. bytes_eq g []) at.home))

abbrev outer_by : List EflProcedure → ℕ → Variable → Bool → Bool → ℕ
outer_by us n v formal first = if not formal && first then counted v.kind else 0

-- of a variable of the outer block, by whether it is a formal, and whether its procedure is the first that has the area
outer_is : (us : List EflProcedure) (n : ℕ) (u : EflProcedure) (v : Variable) (a b : Bool) → v.home ≡ [] → holds u.formals v.name ≡ a → is_first_of us n v.area ≡ b →
    value_of us n u (record { unit = n; variable = v }) ≡ outer_by us n v a b
outer_is us n u v a b home formal first =
    outer_value us n u v (ap (λ h. bytes_eq h []) home) ∙ ap (λ c. outer_by us n v c (is_first_of us n v.area)) formal ∙ ap (outer_by us n v a) first

-- the formals of the procedure, in memory
formal_is : (y : Types) (us : List EflProcedure) (u : EflProcedure) (a : Around) (s : Site) (x : Text) (v : Variable) (b : Bool) → IsSite y us u a s → x ≡ v.name → holds s.procedure.now.formals.now x ≡ b →
    holds u.formals v.name ≡ b
formal_is y us u a s x v b is name held = ap (holds u.formals) (sym name) ∙ ap (λ fs. holds fs x) is.procedure.formals ∙ held

pub formal_places : (y : Types) (s : Site) (firsts : Firsts) (x : Text) → holds s.procedure.now.formals.now x ≡ true → ArePlaces y s firsts x [] 0
formal_places y s firsts x held us u a v is are means at =
    let n = s.procedure.now.unit in
    sym (outer_is us n u v true (is_first_of us n v.area) at.home (formal_is y us u a s x v true is at.name held) refl)

-- the area, by what is known of the outer block
shared_area : (u : EflProcedure) (areas : Areas) (x : Text) (v : Variable) → IsAt u areas x [] v → option_map (λ t. t.0) (shared_in areas x) ≡ v.area
shared_area u areas x v at =
    ap (option_map (λ (t : Text × ℕ). t.0)) (at.shared at.home) ∙ first_of (area_if_outer v) ∙ ap (λ h. if bytes_eq h [] then v.area else None) at.home
  where
    first_of : (o : Option Text) → option_map (λ (t : Text × ℕ). t.0) (option_map (λ q. (q, number_in_area u q v.name)) o) ≡ o
    first_of None = refl
    first_of (Some q) = refl

pub area_places : (y : Types) (s : Site) (firsts : Firsts) (x : Text) (q : Option Text) (first : Bool) (many : ℕ) → holds s.procedure.now.formals.now x ≡ false →
    q ≡ option_map (λ t. t.0) (shared_in s.procedure.now.areas.now x) → ((us : List EflProcedure) → AreFirsts us firsts → first ≡ is_first_of us s.procedure.now.unit q) →
    ((us : List EflProcedure) (u : EflProcedure) (a : Around) (v : Variable) → IsSite y us u a s → variable_if (meaning a.blocks x) ≡ Some v → many ≡ (if first then counted v.kind else 0)) →
    ArePlaces y s firsts x [] many
area_places y s firsts x q first many held area is_first counts us u a v is are means at =
    let n = s.procedure.now.unit in
    counts us u a v is means
    ∙ sym (outer_is us n u v false first at.home (formal_is y us u a s x v false is at.name held)
    (ap (is_first_of us n) (sym (area ∙ shared_area u s.procedure.now.areas.now x v at)) ∙ sym (is_first us are)))

-- the type of a declared variable
pub type_is : (o : Option Meaning) (v : Variable) → variable_if o ≡ Some v → type_by NoType o ≡ v.kind
type_is None v is = absurd (let e : None ≡ Some v = is in cc)
type_is (Some (IsStructure ms)) v is = absurd (let e : None ≡ Some v = is in cc)
type_is (Some (IsVariable w)) v is = ap (λ z. z.kind) (some_of w v is)

-- ---- declarations ----

pub declaration_counted : (y : Types) (s : Site) (firsts : Firsts) (k : EflDeclKind) (names : List Text) (t : Sight) (a b c : Storage) →
    ((before : List Text) → names ≡ variables_by (Declares before k)) → TakesListed y s firsts names a b → t.unit ≡ s.procedure.now.unit →
    ((us : List EflProcedure) (u : EflProcedure) (at : Around) → IsSite y us u at s → Sees (table_of y.numbers) y.structures.list.items us u at.blocks t) →
    TakesUses t (uses_declared k) b c → CountsDeclaration y s firsts k a c
declaration_counted y s firsts k names t a b c listed takes unit sees meets us u at before p vs is are known =
    let n = s.procedure.now.unit in
    let bs = at.blocks in
    let uses = uses_declared k in
    let seen : Text → Option Variable = λ x. variable_if (meaning bs x) in
    let met : Takes us n (met_in (implied_of u) bs uses) b c =
    subst (λ m. Takes us m (met_in (implied_of u) bs uses) b c) unit (meets (table_of y.numbers) y.structures.list.items us u bs (sees us u at is)) in
    part_counted us vs (part at p (Declares before k)) n (filter_map seen names ++ met_in (implied_of u) bs uses) a c is.unit
    (ap (λ ns. filter_map seen ns ++ met_in (implied_at us at.unit) bs uses) (sym (listed before))
    ∙ ap (λ m. filter_map seen names ++ met_in (implied_at us m) bs uses) is.unit
    ∙ ap (λ rules. filter_map seen names ++ met_in rules bs uses) (rules_of us n u is.procedure.found))
    (takes_then us n (filter_map seen names) (met_in (implied_of u) bs uses) a b c (takes us u at is are) met) known
