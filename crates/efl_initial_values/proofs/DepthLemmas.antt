-- Structures stand at most as deep in one another as there are structures: those of a deepest chain have numbers of their own, since a
-- number's type has one depth.
use Rattle.std.proofs.Common.{◌≡◌, ◌≤◌, ◌<◌, ◌⊎◌, inl, inr, ℕ, ◌+◌, max, nat_lt, nat_le, Bool, true, false, List, [], ◌∷◌, length, Option, Some, None, refl, sym, ap, subst, ◌∙◌, arith}
use Rattle.std.specs.List.{slice_get}
use Rattle.std.proofs.lemmas.Option.{slice_get_past}
use Rattle.f66_program.proofs.CountLemmas.{pigeons}
use Rattle.efl_tree.specs.declared.declaration.EflBound.{EflBound}
use Rattle.efl_scope.specs.DataTypes.{DataType, Scalar, Structured, Array, NoType, Members, NoMember, AndMember}
use Rattle.efl_scoped.specs.Numbers.{Table}
use Rattle.efl_scoped.specs.Told.{Tells}
use Rattle.efl_expressions.specs.declared.types.Structure.{Structure}
use Rattle.efl_expressions.specs.declared.types.Member.{Member}
use Rattle.efl_expressions.specs.declared.types.Element.{Element}
use Rattle.efl_expressions.specs.declared.types.Element.TheVariants as e
use Rattle.efl_expressions.specs.TypeViews.{IsThere, Is, AreMembers}
use Rattle.efl_initial_values.specs.Filling.{depth, depth_in}

-- ---- a type in memory has one depth ----

both_there : {A R : Type 0} (P Q : A → Type 0) (o : Option A) → ((a : A) → P a → Q a → R) → IsThere P o → IsThere Q o → R
both_there P Q None each one two = absurd one
both_there P Q (Some a) each one two = each a one two

mutual
  same_depth : (f : Table) (ss : List Structure) (t u : DataType) (cs : List EflBound) (x : Element) → Is f ss t cs x → Is f ss u cs x → depth t ≡ depth u
  same_depth f ss (Scalar j) (Scalar k) cs x a b = refl
  same_depth f ss (Scalar j) NoType cs x a b = refl
  same_depth f ss (Scalar j) (Array bs u) cs x a b = absurd (b.1 (sym b.0 ∙ a.0))
  same_depth f ss (Scalar j) (Structured ns) cs (e.Structured i) a b = absurd (let d : e.Structured i ≡ e.Scalar j = a.1 in cc)
  same_depth f ss (Scalar j) (Structured ns) cs e.NoType a b = absurd b
  same_depth f ss (Scalar j) (Structured ns) cs (e.Scalar k) a b = absurd b
  same_depth f ss NoType (Scalar k) cs x a b = refl
  same_depth f ss NoType NoType cs x a b = refl
  same_depth f ss NoType (Array bs u) cs x a b = absurd (b.1 (sym b.0 ∙ a.0))
  same_depth f ss NoType (Structured ns) cs (e.Structured i) a b = absurd (let d : e.Structured i ≡ e.NoType = a.1 in cc)
  same_depth f ss NoType (Structured ns) cs e.NoType a b = absurd b
  same_depth f ss NoType (Structured ns) cs (e.Scalar k) a b = absurd b
  same_depth f ss (Array bs t) (Scalar k) cs x a b = absurd (a.1 (sym a.0 ∙ b.0))
  same_depth f ss (Array bs t) NoType cs x a b = absurd (a.1 (sym a.0 ∙ b.0))
  same_depth f ss (Array bs t) (Array ds u) cs x a b = same_depth f ss t u [] x a.2 b.2
  same_depth f ss (Array bs t) (Structured ns) cs (e.Structured i) a b = absurd (a.1 (sym a.0 ∙ b.0))
  same_depth f ss (Array bs t) (Structured ns) cs e.NoType a b = absurd b
  same_depth f ss (Array bs t) (Structured ns) cs (e.Scalar k) a b = absurd b
  same_depth f ss (Structured ms) u cs e.NoType a b = absurd a
  same_depth f ss (Structured ms) u cs (e.Scalar k) a b = absurd a
  same_depth f ss (Structured ms) (Scalar k) cs (e.Structured i) a b = absurd (let d : e.Structured i ≡ e.Scalar k = b.1 in cc)
  same_depth f ss (Structured ms) NoType cs (e.Structured i) a b = absurd (let d : e.Structured i ≡ e.NoType = b.1 in cc)
  same_depth f ss (Structured ms) (Array bs u) cs (e.Structured i) a b = absurd (b.1 (sym b.0 ∙ a.0))
  same_depth f ss (Structured ms) (Structured ns) cs (e.Structured i) a b =
      ap (λ n. n + 1) (both_there (λ s. Tells f (Structured ms) s.summary × AreMembers f ss ms s.members.items) (λ s. Tells f (Structured ns) s.summary × AreMembers f ss ns s.members.items)
      (slice_get ss i) (λ s one two. same_depth_in f ss ms ns s.members.items one.1 two.1) a.1 b.1)

  same_depth_in : (f : Table) (ss : List Structure) (ms ns : Members) (list : List Member) → AreMembers f ss ms list → AreMembers f ss ns list → depth_in ms ≡ depth_in ns
  same_depth_in f ss NoMember NoMember list a b = refl
  same_depth_in f ss NoMember (AndMember y u ns) [] a b = absurd b
  same_depth_in f ss NoMember (AndMember y u ns) (m ∷ all) a b = absurd a
  same_depth_in f ss (AndMember x t ms) ns [] a b = absurd a
  same_depth_in f ss (AndMember x t ms) NoMember (m ∷ all) a b = absurd b
  same_depth_in f ss (AndMember x t ms) (AndMember y u ns) (m ∷ all) a b =
      ap (λ n. max n (depth_in ms)) (same_depth f ss t u m.kind.bounds.now m.kind.element a.1 b.1) ∙ ap (max (depth u)) (same_depth_in f ss ms ns all a.3 b.3)

-- ---- a structure of each depth ----

-- the structure with this number has this depth
pub record Deep (f : Table) (ss : List Structure) (i d : ℕ) : Type 0 where
  pub members : Members
  pub structure : Structure
  pub at : slice_get ss i ≡ Some structure
  pub made : AreMembers f ss members structure.members.items
  pub deep : depth_in members + 1 ≡ d

pub record Level (f : Table) (ss : List Structure) (d : ℕ) : Type 0 where
  pub number : ℕ
  pub is : Deep f ss number d

deep_there : (f : Table) (ss : List Structure) (ms : Members) (i d : ℕ) (o : Option Structure) → slice_get ss i ≡ o → depth_in ms + 1 ≡ d →
    IsThere (λ s. Tells f (Structured ms) s.summary × AreMembers f ss ms s.members.items) o → Deep f ss i d
deep_there f ss ms i d None at is there = absurd there
deep_there f ss ms i d (Some s) at is there = record { members = ms; structure = s; at = at; made = there.1; deep = is }

le_max : (j a b : ℕ) → j ≤ max a b → (j ≤ a) ⊎ (j ≤ b)
le_max j a b few = each (nat_le j a) refl
  where
    each : (t : Bool) → nat_le j a ≡ t → (j ≤ a) ⊎ (j ≤ b)
    each true is = let h : j ≤ a = grind (arith, is) in inl h
    each false is = let h : a < j = grind (arith, is) in inr (omega (arith, few, h))

le_next : (j n : ℕ) → j ≤ n + 1 → (j ≤ n) ⊎ (n + 1 ≡ j)
le_next j n few = each (nat_le j n) refl
  where
    each : (t : Bool) → nat_le j n ≡ t → (j ≤ n) ⊎ (n + 1 ≡ j)
    each true is = let h : j ≤ n = grind (arith, is) in inl h
    each false is = let h : n < j = grind (arith, is) in inr (omega (arith, few, h))

no_level : (j : ℕ) → 0 < j → j ≤ 0 → ⊥
no_level j some few = omega (arith, some, few)

mutual
  levels : (f : Table) (ss : List Structure) (t : DataType) (cs : List EflBound) (x : Element) → Is f ss t cs x → (j : ℕ) → 0 < j → j ≤ depth t → Level f ss j
  levels f ss (Scalar k) cs x made j some few = absurd (no_level j some few)
  levels f ss NoType cs x made j some few = absurd (no_level j some few)
  levels f ss (Array bs t) cs x made j some few = levels f ss t [] x made.2 j some few
  levels f ss (Structured ms) cs e.NoType made j some few = absurd made
  levels f ss (Structured ms) cs (e.Scalar k) made j some few = absurd made
  levels f ss (Structured ms) cs (e.Structured i) made j some few = elim (le_next j (depth_in ms) few) [
    | inl h ↦ both_there (λ s. Tells f (Structured ms) s.summary × AreMembers f ss ms s.members.items) (λ s. Tells f (Structured ms) s.summary × AreMembers f ss ms s.members.items)
        (slice_get ss i) (λ s one two. levels_in f ss ms s.members.items one.1 j some h) made.1 made.1
    | inr h ↦ record { number = i; is = deep_there f ss ms i j (slice_get ss i) refl h made.1 }
  ]

  levels_in : (f : Table) (ss : List Structure) (ms : Members) (list : List Member) → AreMembers f ss ms list → (j : ℕ) → 0 < j → j ≤ depth_in ms → Level f ss j
  levels_in f ss NoMember list made j some few = absurd (no_level j some few)
  levels_in f ss (AndMember x t ms) [] made j some few = absurd made
  levels_in f ss (AndMember x t ms) (m ∷ all) made j some few = elim (le_max j (depth t) (depth_in ms) few) [
    | inl h ↦ levels f ss t m.kind.bounds.now m.kind.element made.1 j some h
    | inr h ↦ levels_in f ss ms all made.3 j some h
  ]

-- ---- no more depths than numbers ----

deep_below : (f : Table) (ss : List Structure) (i d : ℕ) → Deep f ss i d → i < length ss
deep_below f ss i d deep = each (nat_lt i (length ss)) refl
  where
    each : (t : Bool) → nat_lt i (length ss) ≡ t → i < length ss
    each true is = grind (arith, is)
    each false is =
        let past : length ss ≤ i = grind (arith, is) in
        let none : None ≡ Some deep.structure = sym (slice_get_past ss i past) ∙ deep.at in absurd cc

deep_same : (f : Table) (ss : List Structure) (i j a b : ℕ) → Deep f ss i a → Deep f ss j b → i ≡ j → a ≡ b
deep_same f ss i j a b one two is =
    let found : Some one.structure ≡ Some two.structure = sym one.at ∙ ap (slice_get ss) is ∙ two.at in
    let same : one.structure ≡ two.structure = cc in
    sym one.deep ∙ ap (λ n. n + 1) (same_depth_in f ss one.members two.members two.structure.members.items (subst (λ s. AreMembers f ss one.members s.members.items) same one.made) two.made) ∙ two.deep

level_at : (f : Table) (ss : List Structure) (n j : ℕ) → ((k : ℕ) → 0 < k → k ≤ n → Level f ss k) → nat_lt j n ≡ true → Level f ss (j + 1)
level_at f ss n j levels is = levels (j + 1) (omega arith) (grind (arith, is))

-- a number for each depth from 1 on, and 0 for those that are none
abbrev pick : (f : Table) (ss : List Structure) (n j : ℕ) → ((k : ℕ) → 0 < k → k ≤ n → Level f ss k) → (t : Bool) → nat_lt j n ≡ t → ℕ
pick f ss n j levels true is = (level_at f ss n j levels is).number
pick f ss n j levels false is = 0

picked : (f : Table) (ss : List Structure) (n j : ℕ) (levels : (k : ℕ) → 0 < k → k ≤ n → Level f ss k) (t : Bool) (is : nat_lt j n ≡ t) → j < n → Deep f ss (pick f ss n j levels t is) (j + 1)
picked f ss n j levels true is within = (level_at f ss n j levels is).is
picked f ss n j levels false is within = absurd (let yes : nat_lt j n ≡ true = grind (arith, within) in let d : true ≡ false = sym yes ∙ is in cc)

pub few_levels : (f : Table) (ss : List Structure) (n : ℕ) → ((k : ℕ) → 0 < k → k ≤ n → Level f ss k) → n ≤ length ss
few_levels f ss n levels = pigeons (length ss) n (λ j. pick f ss n j levels (nat_lt j n) refl)
    (λ j within. deep_below f ss (pick f ss n j levels (nat_lt j n) refl) (j + 1) (picked f ss n j levels (nat_lt j n) refl within))
    (λ i j p q same. next i j (deep_same f ss (pick f ss n i levels (nat_lt i n) refl) (pick f ss n j levels (nat_lt j n) refl) (i + 1) (j + 1) (picked f ss n i levels (nat_lt i n) refl p) (picked f ss n j levels (nat_lt j n) refl q) same))
  where
    next : (i j : ℕ) → i + 1 ≡ j + 1 → i ≡ j
    next i j same = omega (arith, same)

pub depth_bounded : (f : Table) (ss : List Structure) (t : DataType) (cs : List EflBound) (x : Element) → Is f ss t cs x → depth t ≤ length ss
depth_bounded f ss t cs x made = few_levels f ss (depth t) (levels f ss t cs x made)
