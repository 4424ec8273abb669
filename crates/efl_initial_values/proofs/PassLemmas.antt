-- Values that go over the places of types in memory.
use Rattle.std.proofs.Common.{◌≡◌, ◌≢◌, ◌≤◌, ◌<◌, ℕ, zero, suc, ◌+◌, ◌*◌, ◌-◌, ◌/◌, min, nat_lt, nat_le, true, false, List, [], ◌∷◌, ◌++◌, length, drop, get_or, Option, Some, None, refl, sym, ap, subst, ◌∙◌, append_assoc, arith}
use Rattle.std.proofs.lemmas.List.{drop_all, drop_more}
use Rattle.std.proofs.lemmas.Nat.{div-mul-add}
use Rattle.std.proofs.Math.Nat.{div-mul-le_self, mul-le-mul_right}
use Rattle.ground.specs.declared.value.Kind.{Kind}
use Rattle.efl_tree.specs.declared.declaration.EflBound.{EflBound}
use Rattle.efl_scope.specs.DataTypes.{DataType, Scalar, Structured, Array, NoType, Members, NoMember, AndMember, elements, places, all_places, is_large}
use Rattle.efl_types.specs.Presets.{repeated, kinds_of, kinds_in, misfit}
use Rattle.efl_scoped.specs.Numbers.{Table}
use Rattle.efl_scoped.specs.Told.{capped}
use Rattle.efl_expressions.specs.declared.types.Structure.{Structure}
use Rattle.efl_expressions.specs.declared.types.Member.{Member}
use Rattle.efl_expressions.specs.declared.types.DataType as types
use Rattle.efl_expressions.specs.declared.types.Element.{Element}
use Rattle.efl_expressions.specs.declared.types.Element.TheVariants as e
use Rattle.efl_expressions.specs.TypeViews.{Is, AreMembers, IsType}
use Rattle.efl_initial_values.specs.declared.values.Progress.{Progress}
use Rattle.efl_initial_values.specs.Filling.{Values, used_up, left_from, Passes, depth, depth_in}
use Rattle.efl_initial_values.proofs.KindLemmas.{repeated_one, repeated_nothing, many_kinds_in, no_kinds, no_kinds_repeated, drop_elements, passes_none, used_none, passed_none, passed_all}
use Rattle.efl_initial_values.proofs.DepthLemmas.{depth_bounded}

-- of all the kinds these are left
pub record KindsLeft (cs : Values) (from : Progress) (all : List Kind) (now : Progress) (rest : List Kind) : Type 0 where
  pub same : (ls : List Kind) → misfit (drop from.skip (all ++ ls)) (left_from cs from.next) ≡ misfit (drop now.skip (rest ++ ls)) (left_from cs now.next)

pub left_begun : (cs : Values) (from : Progress) (all : List Kind) → KindsLeft cs from all from all
left_begun cs from all = record { same = λ ls. refl }

pub left_on : (cs : Values) (from : Progress) (all : List Kind) (now next : Progress) (ks rest : List Kind) → KindsLeft cs from all now (ks ++ rest) → Passes cs now ks (Some next) → KindsLeft cs from all next rest
left_on cs from all now next ks rest left passes = record {
  same = λ ls. left.same ls ∙ ap (λ xs. misfit (drop now.skip xs) (left_from cs now.next)) (append_assoc ks rest ls) ∙ passes (rest ++ ls);
}

pub left_misfit : (cs : Values) (from : Progress) (all : List Kind) (now : Progress) (ks rest : List Kind) → KindsLeft cs from all now (ks ++ rest) → Passes cs now ks None → Passes cs from all None
left_misfit cs from all now ks rest left passes =
    λ ls. left.same ls ∙ ap (λ xs. misfit (drop now.skip xs) (left_from cs now.next)) (append_assoc ks rest ls) ∙ passes (rest ++ ls)

pub left_none : (cs : Values) (from : Progress) (all : List Kind) (now : Progress) → KindsLeft cs from all now [] → Passes cs from all (Some now)
left_none cs from all now left = λ ls. left.same ls

-- no value is left
pub left_done : (cs : Values) (from : Progress) (all : List Kind) (now : Progress) (rest : List Kind) → KindsLeft cs from all now rest → length cs ≤ now.next.number → Passes cs from all (Some now)
left_done cs from all now rest left past = λ ls. left.same ls ∙ each (drop now.skip (rest ++ ls)) (drop now.skip ls) (left_from cs now.next) (done now.next.used (drop now.next.number cs) (drop_all now.next.number cs past))
  where
    done : (used : ℕ) (xs : Values) → xs ≡ [] → used_up used xs ≡ []
    done used [] none = refl
    done used (x ∷ xs) none = absurd cc

    each : (ks ls : List Kind) (xs : Values) → xs ≡ [] → misfit ks xs ≡ misfit ls xs
    each ks ls xs none = ap (misfit ks) none ∙ sym (ap (misfit ls) none)

-- ---- elements ----

-- a type by its elements, of which what is no array has one
pub record Elements (f : Table) (ss : List Structure) (t : DataType) (e : Element) : Type 0 where
  pub kind : DataType
  pub count : ℕ
  pub made : Is f ss kind [] e
  pub deep : depth kind ≡ depth t
  pub total : places t ≡ count * places kind
  pub kinds : kinds_of t ≡ repeated count (kinds_of kind)

one_time : (p : ℕ) → p ≡ 1 * p
one_time p = omega arith

pub elements_of : (f : Table) (ss : List Structure) (t : DataType) (cs : List EflBound) (e : Element) → Is f ss t cs e → Elements f ss t e
elements_of f ss (Scalar k) cs e made = record { kind = Scalar k; count = 1; made = (refl, made.1); deep = refl; total = one_time 1; kinds = refl }
elements_of f ss (Structured ms) cs (e.Structured i) made =
    record { kind = Structured ms; count = 1; made = (refl, made.1); deep = refl; total = one_time (all_places ms); kinds = sym (repeated_one (kinds_in ms)) }
elements_of f ss (Structured ms) cs e.NoType made = absurd made
elements_of f ss (Structured ms) cs (e.Scalar k) made = absurd made
elements_of f ss (Array bs t) cs e made = record { kind = t; count = elements bs; made = made.2; deep = refl; total = refl; kinds = refl }
elements_of f ss NoType cs e made = record { kind = NoType; count = 1; made = (refl, made.1); deep = refl; total = refl; kinds = refl }

-- ---- members ----

-- of the members these are left
pub record MembersLeft (f : Table) (ss : List Structure) (d : ℕ) (cs : Values) (from : Progress) (all : List Kind) (now : Progress) (list : List Member) : Type 0 where
  pub rest : Members
  pub made : AreMembers f ss rest list
  pub deep : depth_in rest ≤ d
  pub few : all_places rest ≤ 32767
  pub left : KindsLeft cs from all now (kinds_in rest)

pub members_begun : (f : Table) (ss : List Structure) (d : ℕ) (cs : Values) (from : Progress) (ms : Members) (list : List Member) → AreMembers f ss ms list → depth_in ms ≤ d → all_places ms ≤ 32767 →
    MembersLeft f ss d cs from (kinds_in ms) from list
members_begun f ss d cs from ms list made deep few = record { rest = ms; made = made; deep = deep; few = few; left = left_begun cs from (kinds_in ms) }

pub members_done : (f : Table) (ss : List Structure) (d : ℕ) (cs : Values) (from : Progress) (all : List Kind) (now : Progress) → MembersLeft f ss d cs from all now [] → Passes cs from all (Some now)
members_done f ss d cs from all now left = left_none cs from all now (each left.rest left.made left.left)
  where
    each : (rest : Members) → AreMembers f ss rest [] → KindsLeft cs from all now (kinds_in rest) → KindsLeft cs from all now []
    each NoMember made same = same
    each (AndMember x t ns) made same = absurd made

-- what is asked of the next member's elements, and what comes of it
pub record NextMember (f : Table) (ss : List Structure) (d : ℕ) (cs : Values) (from : Progress) (all : List Kind) (now : Progress) (m : Member) (list : List Member) : Type 0 where
  pub kind : DataType
  pub count : ℕ
  pub made : Is f ss kind [] m.kind.element
  pub deep : depth kind ≤ d
  pub total : m.kind.summary.places ≡ count * places kind
  pub few : m.kind.summary.places ≤ 32767
  pub misfits : Passes cs now (repeated count (kinds_of kind)) None → Passes cs from all None
  pub passes : (next : Progress) → Passes cs now (repeated count (kinds_of kind)) (Some next) → MembersLeft f ss d cs from all next list

pub next_member : (f : Table) (ss : List Structure) (d : ℕ) (cs : Values) (from : Progress) (all : List Kind) (now : Progress) (m : Member) (list : List Member) →
    MembersLeft f ss d cs from all now (m ∷ list) → NextMember f ss d cs from all now m list
next_member f ss d cs from all now m list left = each left.rest left.made left.deep left.few left.left
  where
    each : (rest : Members) → AreMembers f ss rest (m ∷ list) → depth_in rest ≤ d → all_places rest ≤ 32767 → KindsLeft cs from all now (kinds_in rest) → NextMember f ss d cs from all now m list
    each NoMember made deep few same = absurd made
    each (AndMember x t ns) made deep few same =
        let parts = elements_of f ss t m.kind.bounds.now m.kind.element made.1 in
        let small : places t ≤ 32767 = omega (arith, few) in
        let exact : m.kind.summary.places ≡ places t = (let told = made.2.places in omega (arith, told, small)) in
        let mine : Passes cs now (repeated parts.count (kinds_of parts.kind)) None → Passes cs now (kinds_of t) None = λ p. subst (λ ks. Passes cs now ks None) (sym parts.kinds) p in
        record {
          kind = parts.kind;
          count = parts.count;
          made = parts.made;
          deep = (let same = parts.deep in omega (arith, deep, same));
          total = exact ∙ parts.total;
          few = omega (arith, exact, small);
          misfits = λ p. left_misfit cs from all now (kinds_of t) (kinds_in ns) same (mine p);
          passes = λ next p. record {
            rest = ns;
            made = made.3;
            deep = omega (arith, deep);
            few = omega (arith, few);
            left = left_on cs from all now next (kinds_of t) (kinds_in ns) same (subst (λ ks. Passes cs now ks (Some next)) (sym parts.kinds) p);
          };
        }

pub member_at : (f : Table) (ss : List Structure) (d : ℕ) (cs : Values) (from : Progress) (all : List Kind) (now : Progress) (list : List Member) (i : ℕ) (m : Member) → i < length list →
    MembersLeft f ss d cs from all now (drop i list) → NextMember f ss d cs from all now (get_or list i m) (drop (i + 1) list)
member_at f ss d cs from all now list i m within left =
    next_member f ss d cs from all now (get_or list i m) (drop (i + 1) list) (subst (MembersLeft f ss d cs from all now) (drop_more list i m within) left)

-- ---- structures one after the other ----

pub count_is : (total places n : ℕ) → total ≡ n * places → 0 < places → total / places ≡ n
count_is total places n is some = ap (λ x. x / places) (is ∙ sym (no_more (n * places))) ∙ div-mul-add n places 0 some
  where
    no_more : (x : ℕ) → x + 0 ≡ x
    no_more x = omega arith

-- of so many structures these are left
pub record StructuresLeft (cs : Values) (from : Progress) (n : ℕ) (ks : List Kind) (now : Progress) (left : ℕ) : Type 0 where
  pub kinds : KindsLeft cs from (repeated n ks) now (repeated left ks)
  pub few : left ≤ n

-- whole structures are passed over
pub structures_begun : (cs : Values) (from now : Progress) (ms : Members) (n places total count skipped left : ℕ) → 0 < places → places ≡ all_places ms → total ≡ n * places → count ≡ total / places →
    skipped ≡ min (from.skip / places) count → now.skip ≡ from.skip - skipped * places → now.next ≡ from.next → left ≡ count - skipped → StructuresLeft cs from n (kinds_in ms) now left
structures_begun cs from now ms n places total count skipped left some is all counted first skip next rest =
    let whole : count ≡ n = counted ∙ count_is total places n all some in
    let few : skipped ≤ n = omega (arith, first, whole) in
    let most : skipped ≤ from.skip / places = omega (arith, first) in
    let low : skipped * places ≤ from.skip = mul_below skipped (from.skip / places) places from.skip most (div-mul-le_self from.skip places) in
    let less : left ≡ n - skipped = rest ∙ ap (λ c. c - skipped) whole in
    record {
      kinds = record {
        same = λ ls.
            ap (λ xs. misfit xs (left_from cs from.next)) (drop_elements from.skip n skipped places (kinds_in ms) ls (many_kinds_in ms ∙ sym is) low few)
            ∙ ap (λ i. misfit (drop i (repeated (n - skipped) (kinds_in ms) ++ ls)) (left_from cs from.next)) (sym skip)
            ∙ ap (λ x. misfit (drop now.skip (repeated (n - skipped) (kinds_in ms) ++ ls)) (left_from cs x)) (sym next)
            ∙ ap (λ i. misfit (drop now.skip (repeated i (kinds_in ms) ++ ls)) (left_from cs now.next)) (sym less);
      };
      few = omega (arith, less);
    }
  where
    mul_below : (m q p s : ℕ) → m ≤ q → q * p ≤ s → m * p ≤ s
    mul_below m q p s few low = omega (arith, low, mul-le-mul_right p few)

one_structure : (left : ℕ) (ks : List Kind) → 0 < left → repeated left ks ≡ ks ++ repeated (left - 1) ks
one_structure zero ks some = absurd (omega (arith, some))
one_structure (suc n) ks some = ap (λ i. ks ++ repeated i ks) (less n)
  where
    less : (n : ℕ) → n ≡ suc n - 1
    less n = omega arith

next_structure : (cs : Values) (from : Progress) (all : List Kind) (now : Progress) (left : ℕ) (ks : List Kind) → 0 < left → KindsLeft cs from all now (repeated left ks) → KindsLeft cs from all now (ks ++ repeated (left - 1) ks)
next_structure cs from all now left ks some kinds = subst (KindsLeft cs from all now) (one_structure left ks some) kinds

pub structure_misfits : (cs : Values) (from : Progress) (n : ℕ) (ks : List Kind) (now : Progress) (left : ℕ) → 0 < left → StructuresLeft cs from n ks now left → Passes cs now ks None → Passes cs from (repeated n ks) None
structure_misfits cs from n ks now left some so_far passes = left_misfit cs from (repeated n ks) now ks (repeated (left - 1) ks) (next_structure cs from (repeated n ks) now left ks some so_far.kinds) passes

pub structure_passed : (cs : Values) (from : Progress) (n : ℕ) (ks : List Kind) (now next : Progress) (left : ℕ) → 0 < left → StructuresLeft cs from n ks now left → Passes cs now ks (Some next) → StructuresLeft cs from n ks next (left - 1)
structure_passed cs from n ks now next left some so_far passes = record {
  kinds = left_on cs from (repeated n ks) now next ks (repeated (left - 1) ks) (next_structure cs from (repeated n ks) now left ks some so_far.kinds) passes;
  few = (let few = so_far.few in omega (arith, few));
}

pub structures_done : (cs : Values) (from : Progress) (n : ℕ) (ks : List Kind) (now : Progress) (left : ℕ) → left ≤ 0 → StructuresLeft cs from n ks now left → Passes cs from (repeated n ks) (Some now)
structures_done cs from n ks now left none so_far = left_none cs from (repeated n ks) now (subst (λ i. KindsLeft cs from (repeated n ks) now (repeated i ks)) (zero_is left none) so_far.kinds)
  where
    zero_is : (left : ℕ) → left ≤ 0 → left ≡ 0
    zero_is left none = omega (arith, none)

-- one of some is no larger than all
pub one_small : (left n p : ℕ) → 0 < left → left ≤ n → n * p ≤ 32767 → p ≤ 32767
one_small left zero p some few small = absurd (omega (arith, some, few))
one_small left (suc n) p some few small = omega (arith, small)

pub past_is : (a b : ℕ) → nat_le a b ≡ true → a ≤ b
past_is a b is = grind (arith, is)

-- ---- elements of one type ----

pub no_elements : (cs : Values) (p : Progress) (n : ℕ) (t : DataType) (total : ℕ) → total ≡ n * places t → total ≡ 0 → Passes cs p (repeated n (kinds_of t)) (Some p)
no_elements cs p n t total is none = passes_none cs p (repeated n (kinds_of t)) (no_kinds_repeated n t (sym is ∙ none))

pub no_structures : (cs : Values) (p : Progress) (n : ℕ) (ms : Members) (q : ℕ) → q ≡ all_places ms → q ≡ 0 → Passes cs p (repeated n (kinds_in ms)) (Some p)
no_structures cs p n ms q is none = passes_none cs p (repeated n (kinds_in ms)) (ap (repeated n) (no_kinds (Structured ms) (sym is ∙ none)) ∙ repeated_nothing n)

pub scalars_passed : (cs : Values) (p : Progress) (n total : ℕ) (t : DataType) (k : Kind) (r : Option Progress) → t ≡ Scalar k → total ≡ n * places t → Passes cs p (repeated total (k ∷ [])) r → Passes cs p (repeated n (kinds_of t)) r
scalars_passed cs p n total t k r is all passes =
    subst (λ u. Passes cs p (repeated n (kinds_of u)) r) (sym is) (subst (λ i. Passes cs p (repeated i (k ∷ [])) r) (once n total (all ∙ ap (λ u. n * places u) is)) passes)
  where
    once : (n total : ℕ) → total ≡ n * 1 → total ≡ n
    once n total is = omega (arith, is)

pub nothing_passed : (cs : Values) (p : Progress) (n : ℕ) (t : DataType) → t ≡ NoType → Passes cs p (repeated n (kinds_of t)) (Some p)
nothing_passed cs p n t is = passes_none cs p (repeated n (kinds_of t)) (ap (λ u. repeated n (kinds_of u)) is ∙ repeated_nothing n)

-- of a structure all is told that a walk over its members needs
pub record IsTold (ms : Members) (n d each all : ℕ) : Type 0 where
  pub deep : depth_in ms ≤ d - 1
  pub size : each ≡ all_places ms
  pub total : all ≡ n * each

pub structure_told : (t : DataType) (ms : Members) (n d q total : ℕ) → t ≡ Structured ms → depth t ≤ d → q ≡ capped (all_places ms) → total ≡ n * places t → total ≤ 32767 → total ≢ 0 → IsTold ms n d q total
structure_told t ms n d q total is deep told all small some =
    let same : total ≡ n * all_places ms = all ∙ ap (λ u. n * places u) is in
    let few : all_places ms ≤ 32767 = factor n total (all_places ms) same small some in
    let exact : q ≡ all_places ms = omega (arith, told, few) in
    record {
      deep = (let one : depth_in ms + 1 ≤ d = subst (λ u. depth u ≤ d) is deep in omega (arith, one));
      size = exact;
      total = same ∙ ap (λ p. n * p) (sym exact);
    }
  where
    factor : (n total p : ℕ) → total ≡ n * p → total ≤ 32767 → total ≢ 0 → p ≤ 32767
    factor zero total p is small some = absurd (some (omega (arith, is)))
    factor (suc n) total p is small some = omega (arith, is, small)

pub no_depth : (t : DataType) (ms : Members) (d : ℕ) → t ≡ Structured ms → depth t ≤ d → d ≡ 0 → ⊥
no_depth t ms d is deep none = let one : depth_in ms + 1 ≤ d = subst (λ u. depth u ≤ d) is deep in omega (arith, one, none)

-- ---- whole variables ----

pub record WholeTold (f : Table) (ss : List Structure) (t : DataType) (d : types.DataType) (depths : ℕ) : Type 0 where
  pub parts : Elements f ss t d.element
  pub deep : depth parts.kind ≤ depths
  pub total : d.summary.places ≡ parts.count * places parts.kind
  pub few : d.summary.places ≤ 32767

whole_told : (f : Table) (ss : List Structure) (t : DataType) (d : types.DataType) (depths : ℕ) → IsType f ss t d → is_large t ≡ false → depths ≡ length ss → WholeTold f ss t d depths
whole_told f ss t d depths made small is =
    let parts = elements_of f ss t d.bounds.now d.element made.made in
    let few : places t ≤ 32767 = not_large (places t) small in
    let exact : d.summary.places ≡ places t = (let told = made.told.places in omega (arith, told, few)) in
    record {
      parts = parts;
      deep = (let bound = depth_bounded f ss t d.bounds.now d.element made.made in let same = parts.deep in omega (arith, bound, same, is));
      total = exact ∙ parts.total;
      few = omega (arith, exact, few);
    }
  where
    not_large : (p : ℕ) → nat_lt 32767 p ≡ false → p ≤ 32767
    not_large p is = grind (arith, is)

-- what a walk over elements of one type tells
abbrev pub ByElements : Table → List Structure → types.DataType → ℕ → Values → Progress → Option Progress → Type 0
ByElements f ss d depths cs from r = (u : DataType) (n : ℕ) → Is f ss u [] d.element → depth u ≤ depths → d.summary.places ≡ n * places u → d.summary.places ≤ 32767 → Passes cs from (repeated n (kinds_of u)) r

abbrev pub from_place : ℕ → Progress
from_place i = record { skip = i; next = record { number = 0; used = 0 } }

pub misfits_all : (f : Table) (ss : List Structure) (t : DataType) (d : types.DataType) (i : ℕ) (cs : Values) (depths : ℕ) → IsType f ss t d → is_large t ≡ false → depths ≡ length ss →
    ByElements f ss d depths cs (from_place i) None → true ≡ misfit (drop i (kinds_of t)) cs
misfits_all f ss t d i cs depths made small is by =
    let told = whole_told f ss t d depths made small is in
    let parts = told.parts in
    sym (ap (λ ks. misfit (drop i ks) cs) parts.kinds ∙ ap (misfit (drop i (repeated parts.count (kinds_of parts.kind)))) (sym (used_none cs))
    ∙ passed_none cs (from_place i) (repeated parts.count (kinds_of parts.kind)) (by parts.kind parts.count parts.made told.deep told.total told.few))

pub fits_all : (f : Table) (ss : List Structure) (t : DataType) (d : types.DataType) (i : ℕ) (cs : Values) (depths : ℕ) (q : Progress) → IsType f ss t d → is_large t ≡ false → depths ≡ length ss →
    ByElements f ss d depths cs (from_place i) (Some q) → false ≡ misfit (drop i (kinds_of t)) cs
fits_all f ss t d i cs depths q made small is by =
    let told = whole_told f ss t d depths made small is in
    let parts = told.parts in
    sym (ap (λ ks. misfit (drop i ks) cs) parts.kinds ∙ ap (misfit (drop i (repeated parts.count (kinds_of parts.kind)))) (sym (used_none cs))
    ∙ passed_all cs (from_place i) q (repeated parts.count (kinds_of parts.kind)) (by parts.kind parts.count parts.made told.deep told.total told.few))
