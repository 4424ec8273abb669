-- What the parts of types in memory say.
use Rattle.std.proofs.Common.{◌+◌, drop, ◌≡◌, ◌≢◌, ◌<◌, ◌≤◌, ℕ, zero, suc, ◌==◌, nat_eq, nat_lt, length, get_or, if◌then◌else◌, Bool, true, false, not, ◌||◌, List, [], ◌∷◌, Option, Some, None, refl, sym, ap, subst, ◌∙◌, arith}
use Rattle.std.specs.List.{slice_get}
use Rattle.std.specs.Str.{bytes_eq}
use Rattle.std.proofs.lemmas.Option.{slice_get_past, slice_get_read, slice_get-get_or, get_or_from_slice_get}
use Rattle.efl_scope.proofs.TreeLemmas.{drop_next}
use Rattle.efl_tree.specs.Syntax.{Text}
use Rattle.efl_tree.specs.declared.declaration.EflBound.{EflBound}
use Rattle.ground.specs.declared.value.Kind.{Kind}
use Rattle.efl_scope.specs.DataTypes.{DataType, Scalar, Structured, Array, NoType, Members, NoMember, AndMember, is_faulty, is_sound, is_large, agrees}
use Rattle.efl_types.specs.Types.{subscripted, in_members, member_type}
use Rattle.efl_types.specs.Expressions.{lacks_type, element_of, is_among, may_lie}
use Rattle.efl_scoped.specs.declared.summaries.Summary.{Summary}
use Rattle.efl_scoped.specs.Numbers.{Table}
use Rattle.efl_scoped.specs.Told.{Tells, TellsSort, capped}
use Rattle.efl_scoped.proofs.AreaLemmas.{sort_matches}
use Rattle.efl_expressions.specs.declared.types.Element.{Element}
use Rattle.efl_expressions.specs.declared.types.Element.TheVariants as elements
use Rattle.efl_expressions.specs.declared.types.Structure.{Structure}
use Rattle.efl_expressions.specs.declared.types.Member.{Member}
use Rattle.efl_expressions.specs.TypeViews.{IsThere, Is, AreMembers, IsType, TellsApart}

-- ---- agreement ----

large_is : (p : ℕ) → nat_lt 32767 (capped p) ≡ nat_lt 32767 p
large_is p = grind arith

told_sort : (f : Table) (t : DataType) (s : Summary) → Tells f t s → TellsSort f t (record { number = s.number; faulty = is_faulty t })
told_sort f t s told = record { faulty = refl; numbered = λ none g more. told.numbered (sound (is_sound t) (is_large t) none) g more }
  where
    sound : (a b : Bool) → (not a || b) ≡ false → a ≡ true
    sound true b is = refl
    sound false b is = absurd cc

pub agree_by : (f : Table) (t u : DataType) (a b : Summary) → TellsApart f → Tells f t a → Tells f u b → ((is_faulty t || is_faulty u) || nat_eq a.number b.number) ≡ agrees t u
agree_by f t u a b apart one two = sort_matches f apart.distinct apart.above t u _ _ (told_sort f t a one) (told_sort f u b two)

-- ---- structures ----

pub record IsOne (f : Table) (ss : List Structure) (t : DataType) (s : Structure) : Type 0 where
  pub members : Members
  pub is : t ≡ Structured members
  pub told : Tells f (Structured members) s.summary
  pub made : AreMembers f ss members s.members.items

there : {A : Type 0} (P : A → Type 0) (o : Option A) (a : A) → o ≡ Some a → IsThere P o → P a
there P o a is it = subst (IsThere P) is it

same_number : (i j : ℕ) → elements.Structured i ≡ elements.Structured j → i ≡ j
same_number i j is = cc

pub structure_is : (f : Table) (ss : List Structure) (t : DataType) (e : Element) (i : ℕ) (s : Structure) →
    Is f ss t [] e → e ≡ elements.Structured i → slice_get ss i ≡ Some s → IsOne f ss t s
structure_is f ss (Scalar k) e i s made is got = absurd (let d : elements.Structured i ≡ elements.Scalar k = sym is ∙ made.1 in cc)
structure_is f ss NoType e i s made is got = absurd (let d : elements.Structured i ≡ elements.NoType = sym is ∙ made.1 in cc)
structure_is f ss (Array bs t) e i s made is got = absurd (made.1 (sym made.0))
structure_is f ss (Structured ms) (elements.Structured j) i s made is got =
    let found = there (λ r. Tells f (Structured ms) r.summary × AreMembers f ss ms r.members.items) (slice_get ss j) s (ap (slice_get ss) (same_number j i is) ∙ got) made.1 in
    record { members = ms; is = refl; told = found.0; made = found.1 }
structure_is f ss (Structured ms) elements.NoType i s made is got = absurd made
structure_is f ss (Structured ms) (elements.Scalar k) i s made is got = absurd made

pub scalar_is : (f : Table) (ss : List Structure) (t : DataType) (e : Element) (k : Kind) → Is f ss t [] e → e ≡ elements.Scalar k → t ≡ Scalar k
scalar_is f ss (Scalar j) e k made is = let d : elements.Scalar j ≡ elements.Scalar k = sym made.1 ∙ is in cc
scalar_is f ss NoType e k made is = absurd (let d : elements.NoType ≡ elements.Scalar k = sym made.1 ∙ is in cc)
scalar_is f ss (Array bs t) e k made is = absurd (made.1 (sym made.0))
scalar_is f ss (Structured ms) (elements.Structured j) k made is = absurd cc
scalar_is f ss (Structured ms) elements.NoType k made is = absurd made
scalar_is f ss (Structured ms) (elements.Scalar j) k made is = absurd made

pub nothing_is : (f : Table) (ss : List Structure) (t : DataType) (e : Element) → Is f ss t [] e → e ≡ elements.NoType → t ≡ NoType
nothing_is f ss (Scalar j) e made is = absurd (let d : elements.Scalar j ≡ elements.NoType = sym made.1 ∙ is in cc)
nothing_is f ss NoType e made is = refl
nothing_is f ss (Array bs t) e made is = absurd (made.1 (sym made.0))
nothing_is f ss (Structured ms) (elements.Structured j) made is = absurd cc
nothing_is f ss (Structured ms) elements.NoType made is = absurd made
nothing_is f ss (Structured ms) (elements.Scalar j) made is = absurd made

none_there : {A : Type 0} (P : A → Type 0) (o : Option A) → o ≡ None → IsThere P o → ⊥
none_there P o is it = subst (IsThere P) is it

pub is_there : (f : Table) (ss : List Structure) (t : DataType) (e : Element) (i : ℕ) → Is f ss t [] e → e ≡ elements.Structured i → slice_get ss i ≢ None
is_there f ss (Scalar k) e i made is none = let d : elements.Structured i ≡ elements.Scalar k = sym is ∙ made.1 in absurd cc
is_there f ss NoType e i made is none = let d : elements.Structured i ≡ elements.NoType = sym is ∙ made.1 in absurd cc
is_there f ss (Array bs t) e i made is none = made.1 (sym made.0)
is_there f ss (Structured ms) (elements.Structured j) i made is none =
    none_there (λ r. Tells f (Structured ms) r.summary × AreMembers f ss ms r.members.items) (slice_get ss j) (ap (slice_get ss) (same_number j i is) ∙ none) made.1
is_there f ss (Structured ms) elements.NoType i made is none = made
is_there f ss (Structured ms) (elements.Scalar k) i made is none = made

pub one_got : {A : Type 0} (xs ys : List A) (i : ℕ) (x : A) → ys ≡ xs → i < length ys → x ≡ get_or ys i x → slice_get xs i ≡ Some x
one_got xs ys i x same within is = subst (λ zs. slice_get zs i ≡ Some x) same (slice_get_read ys (length ys) i x refl within is)

pub none_got : {A : Type 0} (xs ys : List A) (i : ℕ) → ys ≡ xs → length ys ≤ i → slice_get xs i ≡ None
none_got xs ys i same past = subst (λ zs. slice_get zs i ≡ None) same (slice_get_past ys i past)

-- ---- arrays and subscripts ----

pub bounds_none : (r : Bool) (cs : List EflBound) → r ≡ (length cs == 0) → r ≡ true → cs ≡ []
bounds_none r [] is empty = refl
bounds_none r (c ∷ cs) is empty = absurd (let d : true ≡ (suc (length cs) == 0) = sym empty ∙ is in grind (arith, d))

pub bounds_some : (r : Bool) (cs : List EflBound) → r ≡ (length cs == 0) → r ≡ false → cs ≢ []
bounds_some r cs is some none = absurd (let d : false ≡ true = sym some ∙ is ∙ ap (λ bs. length bs == 0) none in cc)

pub element_same : (f : Table) (ss : List Structure) (t : DataType) (e : Element) → Is f ss t [] e → element_of t ≡ t
element_same f ss (Scalar k) e made = refl
element_same f ss (Structured ms) e made = refl
element_same f ss NoType e made = refl
element_same f ss (Array bs t) e made = absurd (made.1 (sym made.0))

pub element_made : (f : Table) (ss : List Structure) (t : DataType) (cs : List EflBound) (e : Element) → Is f ss t cs e → cs ≢ [] → Is f ss (element_of t) [] e
element_made f ss (Scalar k) cs e made some = absurd (some made.0)
element_made f ss (Structured ms) cs (elements.Structured i) made some = absurd (some made.0)
element_made f ss (Structured ms) cs elements.NoType made some = absurd made
element_made f ss (Structured ms) cs (elements.Scalar k) made some = absurd made
element_made f ss NoType cs e made some = absurd (some made.0)
element_made f ss (Array bs t) cs e made some = made.2

no_count : (n : ℕ) (cs : List EflBound) → cs ≡ [] → n ≢ 0 → n ≡ length cs → ⊥
no_count n cs none some is = some (is ∙ ap length none)

pub fits_all : (f : Table) (ss : List Structure) (t : DataType) (cs : List EflBound) (e : Element) (n : ℕ) → Is f ss t cs e → n ≢ 0 → n ≡ length cs → subscripted t n ≡ element_of t
fits_all f ss t cs e zero made some is = absurd (some refl)
fits_all f ss (Scalar k) cs e (suc n) made some is = absurd (no_count (suc n) cs made.0 some is)
fits_all f ss (Structured ms) cs (elements.Structured i) (suc n) made some is = absurd (no_count (suc n) cs made.0 some is)
fits_all f ss (Structured ms) cs elements.NoType (suc n) made some is = absurd made
fits_all f ss (Structured ms) cs (elements.Scalar k) (suc n) made some is = absurd made
fits_all f ss NoType cs e (suc n) made some is = refl
fits_all f ss (Array bs t) cs e (suc n) made some is =
    let same : nat_eq (length bs) (suc n) ≡ true = (let a : length bs ≡ suc n = sym (is ∙ ap length made.0) in grind (arith, a)) in ap (λ b. if b then t else NoType) same

pub unfit : (f : Table) (ss : List Structure) (t : DataType) (cs : List EflBound) (e : Element) (n : ℕ) → Is f ss t cs e → n ≢ 0 → n ≢ length cs → subscripted t n ≡ NoType
unfit f ss t cs e zero made some is = absurd (some refl)
unfit f ss (Scalar k) cs e (suc n) made some is = refl
unfit f ss (Structured ms) cs e (suc n) made some is = refl
unfit f ss NoType cs e (suc n) made some is = refl
unfit f ss (Array bs t) cs e (suc n) made some is =
    let other : nat_eq (length bs) (suc n) ≡ false = (let a : suc n ≢ length bs = (λ same. is (same ∙ ap length (sym made.0))) in grind (arith, a)) in ap (λ b. if b then t else NoType) other

-- ---- members ----

-- no structure stands there
abbrev pub IsOther : List EflBound → Element → Type 0
IsOther cs e = (i : ℕ) → cs ≡ [] → e ≢ elements.Structured i

pub no_member : (f : Table) (ss : List Structure) (t : DataType) (cs : List EflBound) (e : Element) (x : Text) → Is f ss t cs e → IsOther cs e → member_type x t ≡ NoType
no_member f ss (Scalar k) cs e x made other = refl
no_member f ss NoType cs e x made other = refl
no_member f ss (Array bs t) cs e x made other = refl
no_member f ss (Structured ms) cs (elements.Structured i) x made other = absurd (other i made.0 refl)
no_member f ss (Structured ms) cs elements.NoType x made other = absurd made
no_member f ss (Structured ms) cs (elements.Scalar k) x made other = absurd made

-- of the members the rest is left, where none before has the name
pub record Left (f : Table) (ss : List Structure) (x : Text) (ms : Members) (all : List Member) : Type 0 where
  pub rest : Members
  pub made : AreMembers f ss rest all
  pub same : in_members x rest ≡ in_members x ms

pub left_all : (f : Table) (ss : List Structure) (x : Text) (ms : Members) (all : List Member) → AreMembers f ss ms all → Left f ss x ms all
left_all f ss x ms all made = record { rest = ms; made = made; same = refl }

pub left_none : (f : Table) (ss : List Structure) (x : Text) (ms : Members) → Left f ss x ms [] → in_members x ms ≡ NoType
left_none f ss x ms left = sym left.same ∙ each left.rest left.made
  where
    each : (rest : Members) → AreMembers f ss rest [] → in_members x rest ≡ NoType
    each NoMember made = refl
    each (AndMember y t ns) made = absurd made

pub left_found : (f : Table) (ss : List Structure) (x : Text) (ms : Members) (m : Member) (all : List Member) → Left f ss x ms (m ∷ all) → bytes_eq x m.name.now ≡ true → IsType f ss (in_members x ms) m.kind
left_found f ss x ms m all left here = subst (λ t. IsType f ss t m.kind) left.same (each left.rest left.made)
  where
    each : (rest : Members) → AreMembers f ss rest (m ∷ all) → IsType f ss (in_members x rest) m.kind
    each NoMember made = absurd made
    each (AndMember y t ns) made =
        subst (λ b. IsType f ss (if b then t else in_members x ns) m.kind) (sym (ap (bytes_eq x) made.0 ∙ here)) (record { made = made.1; told = made.2 })

pub left_on : (f : Table) (ss : List Structure) (x : Text) (ms : Members) (m : Member) (all : List Member) → Left f ss x ms (m ∷ all) → bytes_eq x m.name.now ≡ false → Left f ss x ms all
left_on f ss x ms m all left other = each left.rest left.made left.same
  where
    each : (rest : Members) → AreMembers f ss rest (m ∷ all) → in_members x rest ≡ in_members x ms → Left f ss x ms all
    each NoMember made same = absurd made
    each (AndMember y t ns) made same = record { rest = ns; made = made.3; same = sym (ap (λ b. if b then t else in_members x ns) (ap (bytes_eq x) made.0 ∙ other)) ∙ same }

drop_at : {A : Type 0} (list : List A) (i : ℕ) (d : A) → i < length list → drop i list ≡ get_or list i d ∷ drop (i + 1) list
drop_at list i d within =
    drop_next list i (get_or list i d) within (sym (get_or_from_slice_get list i (get_or list i d) (get_or list i d) (slice_get-get_or list i d within)))

pub left_next : (f : Table) (ss : List Structure) (x : Text) (ms : Members) (list : List Member) (i : ℕ) (d : Member) → i < length list → Left f ss x ms (drop i list) →
    bytes_eq x (get_or list i d).name.now ≡ false → Left f ss x ms (drop (i + 1) list)
left_next f ss x ms list i d within left other = left_on f ss x ms (get_or list i d) (drop (i + 1) list) (subst (Left f ss x ms) (drop_at list i d within) left) other

pub left_here : (f : Table) (ss : List Structure) (x : Text) (ms : Members) (list : List Member) (i : ℕ) (d : Member) → i < length list → Left f ss x ms (drop i list) →
    bytes_eq x (get_or list i d).name.now ≡ true → IsType f ss (in_members x ms) (get_or list i d).kind
left_here f ss x ms list i d within left here = left_found f ss x ms (get_or list i d) (drop (i + 1) list) (subst (Left f ss x ms) (drop_at list i d within) left) here

-- ---- what a structure may be laid over ----

pub lies_nothing : (t u : DataType) → lacks_type t ≡ true → may_lie t u ≡ true
lies_nothing NoType u lacks = refl
lies_nothing (Scalar k) u lacks = absurd cc
lies_nothing (Structured ms) u lacks = absurd cc
lies_nothing (Array bs t) u lacks = absurd cc

no_structure : (t u : DataType) → ((ms : Members) → u ≢ Structured ms) → may_lie t u ≡ true
no_structure NoType u none = refl
no_structure (Scalar k) (Structured ms) none = absurd (none ms refl)
no_structure (Structured ns) (Structured ms) none = absurd (none ms refl)
no_structure (Array bs t) (Structured ms) none = absurd (none ms refl)
no_structure (Scalar k) (Scalar j) none = refl
no_structure (Scalar k) (Array cs u) none = refl
no_structure (Scalar k) NoType none = refl
no_structure (Structured ns) (Scalar j) none = refl
no_structure (Structured ns) (Array cs u) none = refl
no_structure (Structured ns) NoType none = refl
no_structure (Array bs t) (Scalar j) none = refl
no_structure (Array bs t) (Array cs u) none = refl
no_structure (Array bs t) NoType none = refl

pub lies_on_none : (f : Table) (ss : List Structure) (t u : DataType) (cs : List EflBound) (e : Element) → Is f ss u cs e → IsOther cs e → may_lie t u ≡ true
lies_on_none f ss t u cs e made other = no_structure t u (λ ms is. none ms (subst (λ v. Is f ss v cs e) is made) e refl)
  where
    none : (ms : Members) → Is f ss (Structured ms) cs e → (d : Element) → d ≡ e → ⊥
    none ms it (elements.Structured i) is = other i (bounds ms it (elements.Structured i) is) (sym is)
      where
        bounds : (ms : Members) → Is f ss (Structured ms) cs e → (d : Element) → d ≡ e → cs ≡ []
        bounds ms it d is = at ms d (subst (λ a. Is f ss (Structured ms) cs a) (sym is) it)
          where
            at : (ms : Members) (d : Element) → Is f ss (Structured ms) cs d → cs ≡ []
            at ms (elements.Structured i) it = it.0
            at ms elements.NoType it = absurd it
            at ms (elements.Scalar k) it = absurd it
    none ms it elements.NoType is = subst (λ a. Is f ss (Structured ms) cs a) (sym is) it
    none ms it (elements.Scalar k) is = subst (λ a. Is f ss (Structured ms) cs a) (sym is) it

pub lies_among : (t : DataType) (ms : Members) → lacks_type t ≡ false → may_lie t (Structured ms) ≡ is_among (element_of t) ms
lies_among NoType ms lacks = absurd cc
lies_among (Scalar k) ms lacks = refl
lies_among (Structured ns) ms lacks = refl
lies_among (Array bs t) ms lacks = refl

pub record LeftAmong (f : Table) (ss : List Structure) (t : DataType) (ms : Members) (all : List Member) : Type 0 where
  pub rest : Members
  pub made : AreMembers f ss rest all
  pub same : is_among t rest ≡ is_among t ms

pub among_all : (f : Table) (ss : List Structure) (t : DataType) (ms : Members) (all : List Member) → AreMembers f ss ms all → LeftAmong f ss t ms all
among_all f ss t ms all made = record { rest = ms; made = made; same = refl }

pub among_none : (f : Table) (ss : List Structure) (t : DataType) (ms : Members) → LeftAmong f ss t ms [] → is_among t ms ≡ false
among_none f ss t ms left = sym left.same ∙ each left.rest left.made
  where
    each : (rest : Members) → AreMembers f ss rest [] → is_among t rest ≡ false
    each NoMember made = refl
    each (AndMember y u ns) made = absurd made

-- one more member, whether it agrees or not
pub record OneLeft (f : Table) (ss : List Structure) (t : DataType) (ms : Members) (m : Member) (all : List Member) : Type 0 where
  pub kind : DataType
  pub is : IsType f ss kind m.kind
  pub found : agrees t (element_of kind) ≡ true → is_among t ms ≡ true
  pub other : agrees t (element_of kind) ≡ false → LeftAmong f ss t ms all

pub among_one : (f : Table) (ss : List Structure) (t : DataType) (ms : Members) (m : Member) (all : List Member) → LeftAmong f ss t ms (m ∷ all) → OneLeft f ss t ms m all
among_one f ss t ms m all left = each left.rest left.made left.same
  where
    each : (rest : Members) → AreMembers f ss rest (m ∷ all) → is_among t rest ≡ is_among t ms → OneLeft f ss t ms m all
    each NoMember made same = absurd made
    each (AndMember y u ns) made same = record {
      kind = u;
      is = record { made = made.1; told = made.2 };
      found = λ agree. sym same ∙ ap (λ b. b || is_among t ns) agree;
      other = λ agree. record { rest = ns; made = made.3; same = sym (ap (λ b. b || is_among t ns) agree) ∙ same };
    }

pub among_at : (f : Table) (ss : List Structure) (t : DataType) (ms : Members) (list : List Member) (i : ℕ) (d : Member) → i < length list → LeftAmong f ss t ms (drop i list) →
    OneLeft f ss t ms (get_or list i d) (drop (i + 1) list)
among_at f ss t ms list i d within left = among_one f ss t ms (get_or list i d) (drop (i + 1) list) (subst (LeftAmong f ss t ms) (drop_at list i d within) left)

-- ---- truths ----

pub or_left : (r a b : Bool) → r ≡ true → r ≡ a → r ≡ (a || b)
or_left r true b holds is = is
or_left r false b holds is = absurd (let d : true ≡ false = sym holds ∙ is in cc)

pub or_right : (r a b c : Bool) → r ≡ false → r ≡ a → c ≡ b → c ≡ (a || b)
or_right r true b c fails is same = absurd (let d : false ≡ true = sym fails ∙ is in cc)
or_right r false b c fails is same = same
