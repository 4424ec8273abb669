-- Variables that names of a part are, one behind the other, and parts one behind the other.
use Rattle.std.proofs.Common.{◌≡◌, ◌<◌, ◌≤◌, ℕ, ◌+◌, nat_eq, Bool, true, false, not, ◌&&◌, List, [], ◌∷◌, ◌++◌, length, take, get_or, Option, Some, None, if◌then◌else◌, refl, sym, ap, subst, ◌∙◌, append_assoc}
use Rattle.std.specs.Borrow.{Bor}
use Rattle.std.specs.Prelude.{unwrap_or, option_map}
use Rattle.std.specs.List.{slice_get, flat_map, filter_map, cons_option}
use Rattle.std.specs.Str.{bytes_eq}
use Rattle.std.proofs.lemmas.Bool.Decides.{Decides-eqb}
use Rattle.std.proofs.lemmas.List.{append-nil, map-append, take_more, take_all}
use Rattle.std.proofs.lemmas.List.Concat.{flat_map-append}
use Rattle.std.proofs.lemmas.List.Elements.{filter_map-append}
use Rattle.ground.specs.declared.value.Kind.{Kind}
use Rattle.efl_tree.specs.Syntax.{Text, EflProcedure}
use Rattle.efl_scope.specs.Scopes.{Variable, Blocks, Implied, Meaning, meaning, variable_if, implicit_type, implied_of}
use Rattle.efl_scope.specs.ScopeRules.{holds}
use Rattle.efl_scope.specs.Parts.{Part}
use Rattle.efl_scope.specs.Marks.{undeclared_by, by_letter_of, met_by, variables_by, variables_at, located_at, implied_at}
use Rattle.efl_scope.specs.Uses.{Use, Named, Applied, Laid, uses_in}
use Rattle.efl_types.specs.Storage.{counted, is_first_of}
use Rattle.efl_scoped.specs.Numbers.{Table}
use Rattle.efl_expressions.specs.declared.types.Structure.{Structure}
use Rattle.efl_expressions.specs.declared.names.Meaning as meanings
use Rattle.efl_expressions.specs.NameViews.{IsMeaningIfAny}
use Rattle.efl_variables.specs.Numbered.{scalar_kind}
use Rattle.efl_storage.specs.declared.storage.Storage.{Storage}
use Rattle.efl_storage.specs.declared.met.Sight.{Sight}
use Rattle.efl_storage.specs.Named.{named_in, texts_of}
use Rattle.efl_storage.specs.Counted.{CountsAll, Counted, value_of, AreItsPlaces}
use Rattle.efl_storage.specs.Meets.{MeetsNamed}
use Rattle.efl_storage.specs.Parts.{located, Takes, undeclared_in, met_in, undeclared_places, Sees, TakesName, TakesNames}

-- ---- variables more ----

pub takes_none : (us : List EflProcedure) (n : ℕ) (s : Storage) → Takes us n [] s s
takes_none us n s xs known = subst (λ ys. CountsAll us ys s) (sym (append-nil xs)) known

pub takes_then : (us : List EflProcedure) (n : ℕ) (vs ws : List Variable) (a b c : Storage) → Takes us n vs a b → Takes us n ws b c → Takes us n (vs ++ ws) a c
takes_then us n vs ws a b c first second xs known =
    subst (λ ys. CountsAll us ys c)
    (append_assoc xs (located n vs) (located n ws) ∙ ap (λ ys. xs ++ ys) (sym (map-append (λ v. record { unit = n; variable = v }) vs ws)))
    (second (xs ++ located n vs) (first xs known))

-- ---- names that stand by themselves ----

pub names_begun : (s : Sight) (old : Storage) → TakesNames s [] old old
names_begun s old f ss us u bs sees = takes_none us s.unit old

pub names_passed : (s : Sight) (names : List Text) (x : Text) (a b c : Storage) → TakesNames s names a b → TakesName s x b c → TakesNames s (names ++ x ∷ []) a c
names_passed s names x a b c first second f ss us u bs sees =
    subst (λ vs. Takes us s.unit vs a c) (sym (filter_map-append (λ y. undeclared_by (implied_of u) y (meaning bs y)) names (x ∷ [])))
    (takes_then us s.unit (undeclared_in (implied_of u) bs names) (undeclared_in (implied_of u) bs (x ∷ [])) a b c (first f ss us u bs sees) (second f ss us u bs sees))

-- the names that uses are by themselves
pub named_met : (rules : List Implied) (bs : Blocks) (uses : List Use) → undeclared_in rules bs (named_in uses) ≡ met_in rules bs uses
named_met rules bs [] = refl
named_met rules bs (Named x ∷ uses) = ap (cons_option (undeclared_by rules x (meaning bs x))) (named_met rules bs uses)
named_met rules bs (Applied x ∷ uses) = named_met rules bs uses
named_met rules bs (Laid x ∷ uses) = named_met rules bs uses

-- ---- one name ----

-- a name that means something is no undeclared variable
pub name_declared : (s : Sight) (x : Text) (old : Storage) (o : Option meanings.Meaning) (m : meanings.Meaning) → o ≡ Some m →
    ((f : Table) (ss : List Structure) (us : List EflProcedure) (u : EflProcedure) (bs : Blocks) → Sees f ss us u bs s → IsMeaningIfAny f ss (meaning bs x) o) → TakesName s x old old
name_declared s x old o m is means f ss us u bs sees = each (meaning bs x) (subst (IsMeaningIfAny f ss (meaning bs x)) is (means f ss us u bs sees))
  where
    each : (n : Option Meaning) → IsMeaningIfAny f ss n (Some m) → Takes us s.unit (cons_option (undeclared_by (implied_of u) x n) []) old old
    each None made = absurd made
    each (Some n) made = takes_none us s.unit old

-- the places of an undeclared variable in its procedure
undeclared_value : (us : List EflProcedure) (n : ℕ) (u : EflProcedure) (x : Text) (v : Variable) → v ≡ by_letter_of (implied_of u) x →
    undeclared_places u x ≡ value_of us n u (record { unit = n; variable = v })
undeclared_value us n u x v is = subst (λ w. undeclared_places u x ≡ value_of us n u (record { unit = n; variable = w })) (sym is) (each (nat_eq n n) ((Decides-eqb n n).1 refl) (holds u.formals x))
  where
    places : ℕ
    places = counted (by_letter_of (implied_of u) x).kind

    each : (a : Bool) → a ≡ true → (b : Bool) → (if b then 0 else places) ≡ (if a && (not b && true) then places else 0)
    each false off b = absurd cc
    each true on true = refl
    each true on false = refl

-- a name that means nothing is one of the outer block
pub name_met : (s : Sight) (x : Text) (kind : Option Kind) (many : ℕ) (old new : Storage) (o : Option meanings.Meaning) → o ≡ None →
    ((f : Table) (ss : List Structure) (us : List EflProcedure) (u : EflProcedure) (bs : Blocks) → Sees f ss us u bs s → IsMeaningIfAny f ss (meaning bs x) o) →
    ((f : Table) (ss : List Structure) (us : List EflProcedure) (u : EflProcedure) (bs : Blocks) → Sees f ss us u bs s → scalar_kind (implicit_type (implied_of u) x) ≡ kind) →
    ((f : Table) (ss : List Structure) (us : List EflProcedure) (u : EflProcedure) (bs : Blocks) → Sees f ss us u bs s → many ≡ undeclared_places u x) →
    MeetsNamed old s.unit 0 x kind many new → TakesName s x old new
name_met s x kind many old new o is means kinds places meets f ss us u bs sees xs known = each (meaning bs x) (subst (IsMeaningIfAny f ss (meaning bs x)) is (means f ss us u bs sees))
  where
    v : Variable
    v = by_letter_of (implied_of u) x

    its : AreItsPlaces us (record { unit = s.unit; variable = v }) many
    its w at = places f ss us u bs sees ∙ undeclared_value us s.unit u x v refl ∙ ap (λ y. value_of us s.unit y (record { unit = s.unit; variable = v })) (one u w (sym sees.found ∙ at))
      where
        one : (a b : EflProcedure) → Some a ≡ Some b → a ≡ b
        one a b e = cc

    each : (n : Option Meaning) → IsMeaningIfAny f ss n None → CountsAll us (xs ++ located s.unit (cons_option (undeclared_by (implied_of u) x n) [])) new
    each None made = meets us xs (record { unit = s.unit; variable = v }) refl refl refl (kinds f ss us u bs sees) its known
    each (Some n) made = absurd made

-- ---- parts ----

parts_more : (us : List EflProcedure) (vs : List Part) (v : Part) → flat_map (located_at us) (vs ++ v ∷ []) ≡ flat_map (located_at us) vs ++ located_at us v
parts_more us vs v = flat_map-append (located_at us) vs (v ∷ []) ∙ ap (λ xs. flat_map (located_at us) vs ++ xs) (append-nil (located_at us v))

-- the variables of a part are counted
pub part_counted : (us : List EflProcedure) (vs : List Part) (v : Part) (n : ℕ) (ws : List Variable) (old new : Storage) → v.around.unit ≡ n → variables_at us v ≡ ws → Takes us n ws old new →
    Counted us vs old → Counted us (vs ++ v ∷ []) new
part_counted us vs v n ws old new unit are takes known =
    subst (λ xs. CountsAll us xs new)
    (ap (λ xs. flat_map (located_at us) vs ++ xs) (ap (λ m. located m ws) (sym unit) ∙ ap (located v.around.unit) (sym are)) ∙ sym (parts_more us vs v))
    (takes (flat_map (located_at us) vs) known)

-- a part that lists no variable and meets none
pub nothing_counted : (us : List EflProcedure) (vs : List Part) (v : Part) (s : Storage) → variables_by v.form ≡ [] → uses_in v.form ≡ [] → Counted us vs s → Counted us (vs ++ v ∷ []) s
nothing_counted us vs v s listed uses known =
    part_counted us vs v v.around.unit [] s s refl
    (ap (λ xs. filter_map (λ x. variable_if (meaning v.around.blocks x)) xs ++ filter_map (met_by (implied_at us v.around.unit) v.around.blocks) (uses_in v.form)) listed
    ∙ ap (filter_map (met_by (implied_at us v.around.unit) v.around.blocks)) uses)
    (takes_none us v.around.unit s) known

-- the rules of letters of a part's procedure
pub rules_of : (us : List EflProcedure) (n : ℕ) (u : EflProcedure) → slice_get us n ≡ Some u → implied_at us n ≡ implied_of u
rules_of us n u found = ap (λ o. unwrap_or (option_map implied_of o) []) found

-- a part that lists no variable, by what its names are
pub uses_counted : (us : List EflProcedure) (u : EflProcedure) (vs : List Part) (v : Part) (n : ℕ) (names : List Text) (old new : Storage) → slice_get us n ≡ Some u → v.around.unit ≡ n →
    variables_by v.form ≡ [] → names ≡ named_in (uses_in v.form) → Takes us n (undeclared_in (implied_of u) v.around.blocks names) old new → Counted us vs old → Counted us (vs ++ v ∷ []) new
uses_counted us u vs v n names old new found unit listed named takes known =
    part_counted us vs v n (undeclared_in (implied_of u) v.around.blocks names) old new unit
    (ap (λ xs. filter_map (λ x. variable_if (meaning v.around.blocks x)) xs ++ filter_map (met_by (implied_at us v.around.unit) v.around.blocks) (uses_in v.form)) listed
    ∙ ap (λ m. met_in (implied_at us m) v.around.blocks (uses_in v.form)) unit ∙ ap (λ rules. met_in rules v.around.blocks (uses_in v.form)) (rules_of us n u found)
    ∙ sym (named_met (implied_of u) v.around.blocks (uses_in v.form)) ∙ ap (undeclared_in (implied_of u) v.around.blocks) (sym named))
    takes known

-- ---- names in memory ----

pub texts_next : (list : List (Bor Text)) (i : ℕ) (d : Bor Text) → i < length list → texts_of (take (i + 1) list) ≡ texts_of (take i list) ++ (get_or list i d).now ∷ []
texts_next list i d lt = ap texts_of (take_more list i d lt) ∙ map-append (λ y. y.now) (take i list) (get_or list i d ∷ [])

pub texts_all : (list : List (Bor Text)) (i : ℕ) → length list ≤ i → texts_of (take i list) ≡ texts_of list
texts_all list i le = ap texts_of (take_all i list le)

-- ---- variables that a part lists ----

-- a part that meets no variable
pub listed_counted : (us : List EflProcedure) (vs : List Part) (v : Part) (n : ℕ) (old new : Storage) → v.around.unit ≡ n → uses_in v.form ≡ [] →
    Takes us n (filter_map (λ x. variable_if (meaning v.around.blocks x)) (variables_by v.form)) old new → Counted us vs old → Counted us (vs ++ v ∷ []) new
listed_counted us vs v n old new unit uses takes known =
    let listed : List Variable = filter_map (λ x. variable_if (meaning v.around.blocks x)) (variables_by v.form) in
    part_counted us vs v n listed old new unit (ap (λ ys. listed ++ filter_map (met_by (implied_at us v.around.unit) v.around.blocks) ys) uses ∙ append-nil listed) takes known

-- of an inner block all places count, and of the outer one those of no formal, in the first procedure that has the area
abbrev value_by : List EflProcedure → ℕ → EflProcedure → Variable → Bool → Bool → ℕ
value_by us n u v a b = if a && (not (b && holds u.formals v.name) && is_first_of us n (if b then v.area else None)) then counted v.kind else 0

pub inner_value : (us : List EflProcedure) (n : ℕ) (u : EflProcedure) (v : Variable) → bytes_eq v.home [] ≡ false → value_of us n u (record { unit = n; variable = v }) ≡ counted v.kind
inner_value us n u v inner = ap (value_by us n u v (nat_eq n n)) inner ∙ ap (λ a. value_by us n u v a false) ((Decides-eqb n n).1 refl)

pub outer_value : (us : List EflProcedure) (n : ℕ) (u : EflProcedure) (v : Variable) → bytes_eq v.home [] ≡ true →
    value_of us n u (record { unit = n; variable = v }) ≡ (if not (holds u.formals v.name) && is_first_of us n v.area then counted v.kind else 0)
outer_value us n u v inside = ap (value_by us n u v (nat_eq n n)) inside ∙ ap (λ a. value_by us n u v a true) ((Decides-eqb n n).1 refl)
