-- Members and structures that come.
use Rattle.std.proofs.Common.{◌≡◌, ◌≢◌, ◌+◌, ◌<◌, ◌≤◌, ℕ, length, Bool, true, false, ◌&&◌, List, [], ◌∷◌, ◌++◌, Some, refl, sym, ap, subst, ◌∙◌, arith}
use Rattle.std.specs.List.{slice_get}
use Rattle.std.proofs.Math.Seq.{get_or-append_seam}
use Rattle.std.proofs.lemmas.List.{length-append, get_or_append_left}
use Rattle.std.proofs.lemmas.Option.{slice_get_within, slice_get-get_or, get_or_from_slice_get}
use Rattle.efl_tree.specs.Syntax.{EflVar}
use Rattle.efl_tree.specs.declared.declaration.EflBound.{EflBound}
use Rattle.efl_scope.specs.DataTypes.{DataType, Scalar, Structured, Array, NoType, Members, NoMember, AndMember, are_sound, all_places}
use Rattle.efl_scope.specs.Scopes.{members_of, bounded, of_bounds}
use Rattle.efl_scoped.specs.declared.summaries.Summary.{Summary}
use Rattle.efl_scoped.specs.Numbers.{Table, Grows}
use Rattle.efl_scoped.specs.Told.{capped, Tells, Continues}
use Rattle.efl_scoped.specs.Seen.{table_of, IsBounded}
use Rattle.efl_scoped.specs.Seen as seen
use Rattle.efl_scoped.proofs.MemberLemmas.{continues_later, tells_later}
use Rattle.efl_expressions.specs.declared.types.DataType as types
use Rattle.efl_expressions.specs.declared.types.Element.{Element}
use Rattle.efl_expressions.specs.declared.types.Element.TheVariants as elements
use Rattle.efl_expressions.specs.declared.types.Structure.{Structure}
use Rattle.efl_expressions.specs.declared.types.Member.{Member}
use Rattle.efl_expressions.specs.TypeViews.{IsThere, Is}
use Rattle.efl_blocks.specs.declared.types.Types.{Types}
use Rattle.efl_blocks.specs.Within.{IsIn, AreIn, Later, IsPlain}
use Rattle.efl_blocks.specs.Made.{joined, TakesBounds, AddsMembers, TakesMembers, AddsStructure}
use Rattle.efl_blocks.proofs.LaterLemmas.{later_same, later_on, is_later, type_later, members_later}

-- ---- bounds ----

pub unbounded : (y : Types) (k : types.DataType) (bs : List EflBound) → bs ≡ [] → TakesBounds y k bs y k
unbounded y k bs none = record { later = later_same y; makes = λ t plain made. subst (λ x. IsIn y (bounded t x) k) (sym none) made }

some_made : (f g : Table) (ss : List Structure) (k d : types.DataType) (bs : List EflBound) (t : DataType) → bs ≢ [] → d.bounds.now ≡ bs → d.element ≡ k.element → IsPlain t →
    Is f ss t k.bounds.now k.element → ((u : DataType) (cs : List EflBound) (e : Element) → Is f ss u cs e → Is g ss u cs e) → Is g ss (bounded t bs) d.bounds.now d.element
some_made f g ss k d [] t some at is plain made later = absurd (some refl)
some_made f g ss k d (b ∷ bs) t some at is plain made later = (
  at,
  some,
  subst (λ e. Is g ss t [] e) (sym is) (subst (λ cs. Is g ss t cs k.element) (none t k.element plain made) (later t k.bounds.now k.element made)),
)
  where
    none : (u : DataType) (e : Element) → IsPlain u → Is f ss u k.bounds.now e → k.bounds.now ≡ []
    none (Array cs u) e plain made = absurd plain
    none (Scalar j) e plain made = made.0
    none NoType e plain made = made.0
    none (Structured ms) (elements.Structured i) plain made = made.0
    none (Structured ms) elements.NoType plain made = absurd made
    none (Structured ms) (elements.Scalar j) plain made = absurd made

pub with_some : (y z : Types) (k d : types.DataType) (bs : List EflBound) → bs ≢ [] → d.bounds.now ≡ bs → d.element ≡ k.element → Later y z → z.structures.list.items ≡ y.structures.list.items →
    IsBounded (table_of y.numbers) k.summary bs (table_of z.numbers) d.summary → TakesBounds y k bs z d
with_some y z k d bs some at is later same told = record {
  later = later;
  makes = λ t plain made. record {
    made =
        subst (λ ss. Is (table_of z.numbers) ss (bounded t bs) d.bounds.now d.element) (sym same)
        (some_made (table_of y.numbers) (table_of z.numbers) y.structures.list.items k d bs t some at is plain made.made
        (λ u cs e it. subst (λ ss. Is (table_of z.numbers) ss u cs e) same (is_later y z later u cs e it)));
    told = told.tells t made.told;
  };
}

-- only numbers came
pub numbers_later : (y z : Types) → Grows (table_of y.numbers) (table_of z.numbers) → z.structures.list.items ≡ y.structures.list.items → Later y z
numbers_later y z grows same = record { grows = grows; kept = λ i s is. ap (λ ss. slice_get ss i) same ∙ is }

-- ---- members ----

pub members_split : (t : DataType) (vs : List EflVar) (rest : Members) → members_of t vs rest ≡ joined (members_of t vs NoMember) rest
members_split t [] rest = refl
members_split t (v ∷ vs) rest = ap (AndMember v.name (of_bounds t v)) (members_split t vs rest)

pub joined_on : (ls ms ns : Members) → joined (joined ls ms) ns ≡ joined ls (joined ms ns)
joined_on NoMember ms ns = refl
joined_on (AndMember x t ls) ms ns = ap (AndMember x t) (joined_on ls ms ns)

pub joined_none : (ms : Members) → joined ms NoMember ≡ ms
joined_none NoMember = refl
joined_none (AndMember x t ms) = ap (AndMember x t) (joined_none ms)

one_more : (z : Types) (ms : Members) (all : List Member) (t : DataType) (m : Member) → AreIn z ms all → IsIn z t m.kind → AreIn z (joined ms (AndMember m.name.now t NoMember)) (all ++ m ∷ [])
one_more z NoMember [] t m made one = (refl, one.made, one.told, tt)
one_more z NoMember (n ∷ all) t m made one = absurd made
one_more z (AndMember x u ms) [] t m made one = absurd made
one_more z (AndMember x u ms) (n ∷ all) t m made one = (made.0, made.1, made.2, one_more z ms all t m made.3 one)

-- those before have come
pub record MembersLeft (y : Types) (k : types.DataType) (vs : List EflVar) (old : List Member) (z : Types) (rest : List EflVar) (new : List Member) : Type 0 where
  pub later : Later y z
  pub left : (t : DataType) (ms : Members) → IsPlain t → IsIn y t k → AreIn y ms old →
      (ns : Members) × AreIn z ns new × (joined ns (members_of t rest NoMember) ≡ joined ms (members_of t vs NoMember))

pub members_begun : (y : Types) (k : types.DataType) (vs : List EflVar) (old : List Member) → MembersLeft y k vs old y vs old
members_begun y k vs old = record { later = later_same y; left = λ t ms plain made were. (ms, were, refl) }

pub member_passed : (y z w : Types) (k d : types.DataType) (vs : List EflVar) (v : EflVar) (rest : List EflVar) (old new : List Member) (m : Member) →
    MembersLeft y k vs old z (v ∷ rest) new → TakesBounds z k v.bounds w d → m.kind ≡ d → m.name.now ≡ v.name → MembersLeft y k vs old w rest (new ++ m ∷ [])
member_passed y z w k d vs v rest old new m left typed is named = record {
  later = later_on y z w left.later typed.later;
  left = λ t ms plain made were.
      let at = left.left t ms plain made were in
      let one : IsIn w (of_bounds t v) m.kind = subst (IsIn w (of_bounds t v)) (sym is) (typed.makes t plain (type_later y z left.later t k made)) in (
        joined at.0 (AndMember m.name.now (of_bounds t v) NoMember),
        one_more w at.0 new (of_bounds t v) m (members_later z w typed.later at.0 new at.1) one,
        joined_on at.0 (AndMember m.name.now (of_bounds t v) NoMember) (members_of t rest NoMember)
            ∙ ap (λ x. joined at.0 (AndMember x (of_bounds t v) (members_of t rest NoMember))) named
            ∙ at.2,
      );
}

pub members_ended : (y z : Types) (k : types.DataType) (vs : List EflVar) (old new : List Member) → MembersLeft y k vs old z [] new → AddsMembers y k vs old z new
members_ended y z k vs old new left = record {
  later = left.later;
  adds = λ t ms plain made were.
      let at = left.left t ms plain made were in
      subst (λ ns. AreIn z ns new) (sym (joined_none at.0) ∙ at.2) at.1;
}

-- with what is told of them
pub members_taken : (y z w : Types) (k : types.DataType) (a b : Summary) (vs : List EflVar) (old new : List Member) → z.structures.list.items ≡ y.structures.list.items →
    seen.AddsMembers (table_of y.numbers) a k.summary vs (table_of z.numbers) b → AddsMembers z k vs old w new → TakesMembers y a k vs old w b new
members_taken y z w k a b vs old new same told added =
    let later : Later y z = numbers_later y z told.grows same in
    record {
      later = later_on y z w later added.later;
      adds = λ t ms plain made were. added.adds t ms plain (type_later y z later t k made) (members_later y z later ms old were);
      tells = λ t rest made.
          continues_later (table_of z.numbers) (table_of w.numbers) (members_of t vs rest) a rest b added.later.grows (told.adds t rest made.told);
    }

-- ---- structures ----

and_true : (a : Bool) → (a && true) ≡ a
and_true true = refl
and_true false = refl

-- before the first member of a structure
abbrev pub beginning : Summary
beginning = record { number = 2; sound = true; places = 0 }

pub all_told : (g : Table) (ms : Members) (b : Summary) → Continues g ms beginning NoMember b → Tells g (Structured ms) b
all_told g ms b c =
    let same : b.sound ≡ are_sound ms = sym (c.sound ∙ and_true b.sound) in
    record {
      sound = same;
      places = let e : capped (0 + all_places ms) ≡ capped (b.places + 0) = c.places in
          let few : b.places ≤ 32768 = c.small (let z : 0 ≤ 32768 = omega arith in z) in
          omega (arith, e, few);
      numbered = λ is h more. c.numbered (same ∙ is) h more;
    }

got_before : {A : Type 0} (xs : List A) (x : A) (i : ℕ) (s : A) → slice_get xs i ≡ Some s → slice_get (xs ++ x ∷ []) i ≡ Some s
got_before xs x i s is =
    let lt : i < length xs = slice_get_within xs i s is in
    let len : length (xs ++ x ∷ []) ≡ length xs + 1 = length-append xs (x ∷ []) in
    let lt2 : i < length (xs ++ x ∷ []) = omega (arith, lt, len) in
    slice_get-get_or (xs ++ x ∷ []) i s lt2 ∙ ap Some (get_or_append_left xs (x ∷ []) s i lt ∙ get_or_from_slice_get xs i s s is)

got_last : {A : Type 0} (xs : List A) (x : A) → slice_get (xs ++ x ∷ []) (length xs) ≡ Some x
got_last xs x =
    let len : length (xs ++ x ∷ []) ≡ length xs + 1 = length-append xs (x ∷ []) in
    let lt : length xs < length (xs ++ x ∷ []) = omega (arith, len) in
    slice_get-get_or (xs ++ x ∷ []) (length xs) x lt ∙ ap Some (get_or-append_seam xs x [] x)

-- a structure comes at the end
pub structure_added : (y z : Types) (s : Summary) (all : List Member) (new : Structure) (d : types.DataType) → z.numbers ≡ y.numbers → z.structures.list.items ≡ y.structures.list.items ++ new ∷ [] →
    new.summary ≡ s → new.members.items ≡ all → d.summary ≡ s → d.bounds.now ≡ [] → d.element ≡ elements.Structured (length y.structures.list.items) → AddsStructure y s all z d
structure_added y z s all new d same more told members summary bounds element = record { later = later; makes = makes }
  where
    later : Later y z
    later = record {
      grows = λ a b n is. ap (λ r. table_of r a b) same ∙ is;
      kept = λ i r is. ap (λ ss. slice_get ss i) more ∙ got_before y.structures.list.items new i r is;
    }

    makes : (ms : Members) → Tells (table_of y.numbers) (Structured ms) s → AreIn y ms all → IsIn z (Structured ms) d
    makes ms is are =
        let i = length y.structures.list.items in
        let its : Tells (table_of z.numbers) (Structured ms) s = tells_later (table_of y.numbers) (table_of z.numbers) (Structured ms) s later.grows is in
        let got : slice_get z.structures.list.items i ≡ Some new = ap (λ ss. slice_get ss i) more ∙ got_last y.structures.list.items new in
        record {
          made =
              subst (λ e. Is (table_of z.numbers) z.structures.list.items (Structured ms) d.bounds.now e) (sym element) (
                bounds,
                subst (IsThere (λ r. Tells (table_of z.numbers) (Structured ms) r.summary × AreIn z ms r.members.items)) (sym got)
                    (subst (Tells (table_of z.numbers) (Structured ms)) (sym told) its, subst (AreIn z ms) (sym members) (members_later y z later ms all are)),
              );
          told = subst (Tells (table_of z.numbers) (Structured ms)) (sym summary) its;
        }
