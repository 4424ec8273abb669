-- What stands at a place of a plan.
use Rattle.std.specs.Prelude.{◌≡◌, ℕ, zero, suc, ◌+◌, ◌-◌, ◌<◌, ◌≤◌, List, [], ◌∷◌, ◌++◌, Option, Some, None, length, get_or, set, max, slice_get, refl}
use Rattle.std.proofs.Common.{sym, ◌∙◌, ap, subst, inl, inr, arith}
use Rattle.std.proofs.lemmas.List.{length-map}
use Rattle.std.proofs.lemmas.Option.{slice_get-map}
use Rattle.std.specs.Option.{option_map}
use Rattle.format_io.specs.declared.code.Op.{Op}
use Rattle.format_io.specs.declared.code.Op.TheVariants as ops
use Rattle.format_io.specs.declared.code.Laid.{Laid}
use Rattle.format_io.specs.declared.code.Piece.{Piece}
use Rattle.f66_tree.specs.Fields.{Step, Fields, NoField, Single, Group, copies}
use Rattle.format_io.specs.Places.{Code, Once, Enter, Leave, size, Move, Does, Turns, moves_at, visible, depth, format, IsPlan, step_of, NextIs}
use Rattle.std.specs.Borrow.{Bor}
use Rattle.format_io.proofs.Walks.{Goes, goes, code_is, length_code, where_is, code_behind, code_inside, code_end, code_at}
use Rattle.format_io.specs.Places as places

pub plan_code : (p : Laid) (pc : ℕ) → IsPlan p → option_map places.plan_code (slice_get p.ops.items pc) ≡ code_at 0 (format p) pc
plan_code p pc is = sym (slice_get-map places.plan_code p.ops.items pc) ∙ ap (λ v. slice_get v pc) is.same ∙ code_is 0 (format p) pc

pub plan_at : (p : Laid) (pc : ℕ) (op : Op) → IsPlan p → slice_get p.ops.items pc ≡ Some op → code_at 0 (format p) pc ≡ Some (places.plan_code op)
plan_at p pc op is e = sym (plan_code p pc is) ∙ ap (option_map places.plan_code) e

pub plan_goes : (p : Laid) (pc past : ℕ) (counts : List ℕ) (op : Op) → IsPlan p → slice_get p.ops.items pc ≡ Some op
    → Goes (moves_at 0 (format p)) 0 (size (format p)) pc past counts (Some (places.plan_code op))
plan_goes p pc past counts op is e = subst (λ v. Goes (moves_at 0 (format p)) 0 (size (format p)) pc past counts v) (plan_at p pc op is e) (goes 0 (format p) pc past counts)

pub plan_end : (p : Laid) (pc past : ℕ) (counts : List ℕ) → IsPlan p → slice_get p.ops.items pc ≡ None → moves_at 0 (format p) pc past counts ≡ []
plan_end p pc past counts is e = subst (λ v. Goes (moves_at 0 (format p)) 0 (size (format p)) pc past counts v) (sym (plan_code p pc is) ∙ ap (option_map places.plan_code) e) (goes 0 (format p) pc past counts)

pub plan_size : (p : Laid) → IsPlan p → length p.ops.items ≡ size (format p)
plan_size p is = sym (length-map p.ops.items places.plan_code) ∙ ap length is.same ∙ length_code 0 (format p)

-- ---- levels ----

abbrev LevelIs : ℕ → ℕ → Option Code → Type 0
LevelIs lv d None = Unit {0}
LevelIs lv d (Some (Once n s)) = Unit {0}
LevelIs lv d (Some (Enter l n z)) = l < lv + d
LevelIs lv d (Some (Leave l z)) = l < lv + d

wider : (lv d lw e : ℕ) (o : Option Code) → lv + d ≤ lw + e → LevelIs lv d o → LevelIs lw e o
wider lv d lw e None le h = tt
wider lv d lw e (Some (Once n s)) le h = tt
wider lv d lw e (Some (Enter l n z)) le h = let b : l < lv + d = h in omega arith
wider lv d lw e (Some (Leave l z)) le h = let b : l < lv + d = h in omega arith

pub level_is : (lv : ℕ) (fs : Fields) (pc : ℕ) → LevelIs lv (depth fs) (code_at lv fs pc)
level_is lv NoField pc = tt
level_is lv (Single n s fs) zero = tt
level_is lv (Single n s fs) (suc pc) = level_is lv fs pc
level_is lv (Group n inside fs) zero = omega arith
level_is lv (Group n inside fs) (suc pc) = elim (where_is pc (size inside)) [
  | inl below ↦ subst (LevelIs lv (depth (Group n inside fs))) (sym (code_inside lv n inside fs pc below))
      (wider (suc lv) (depth inside) lv (depth (Group n inside fs)) (code_at (suc lv) inside pc) (omega arith) (level_is (suc lv) inside pc))
  | inr r ↦ elim r [
    | inl at ↦ subst (λ v. LevelIs lv (depth (Group n inside fs)) (code_at lv (Group n inside fs) (suc v))) (sym at)
        (subst (LevelIs lv (depth (Group n inside fs))) (sym (code_end lv n inside fs)) (let e : lv < lv + max (suc (depth inside)) (depth fs) = omega arith in e))
    | inr (q, f) ↦ subst (λ v. LevelIs lv (depth (Group n inside fs)) (code_at lv (Group n inside fs) (suc v))) (sym f)
        (subst (LevelIs lv (depth (Group n inside fs))) (sym (code_behind lv n inside fs q))
        (wider lv (depth fs) lv (depth (Group n inside fs)) (code_at lv fs q) (omega arith) (level_is lv fs q)))
  ]
]

plan_level : (p : Laid) (pc : ℕ) (op : Op) → IsPlan p → slice_get p.ops.items pc ≡ Some op → LevelIs 0 2 (Some (places.plan_code op))
plan_level p pc op is e = wider 0 (depth (format p)) 0 2 (Some (places.plan_code op)) (let b : depth (format p) ≤ 2 = is.shallow in omega arith) (subst (LevelIs 0 (depth (format p))) (plan_at p pc op is e) (level_is 0 (format p) pc))

pub enter_level : (p : Laid) (pc l n z : ℕ) → IsPlan p → slice_get p.ops.items pc ≡ Some (ops.Enter l n z) → l < 2
enter_level p pc l n z is e = plan_level p pc (ops.Enter l n z) is e

pub leave_level : (p : Laid) (pc l z : ℕ) → IsPlan p → slice_get p.ops.items pc ≡ Some (ops.Leave l z) → l < 2
leave_level p pc l z is e = plan_level p pc (ops.Leave l z) is e

-- ---- the moves at each instruction ----

pub once_more : (p : Laid) (pc past n : ℕ) (counts : List ℕ) (s : Piece) → IsPlan p → slice_get p.ops.items pc ≡ Some (ops.Once n s) → past < n
    → moves_at 0 (format p) pc past counts ≡ Does (step_of s) ∷ moves_at 0 (format p) pc (past + 1) counts
once_more p pc past n counts s is e lt =
    plan_goes p pc past counts (ops.Once n s) is e
    ∙ ap (λ k. copies k (Does (step_of s) ∷ []) ++ Turns ∷ moves_at 0 (format p) (pc + 1) 0 counts) (let f : n - past ≡ suc (n - (past + 1)) = omega arith in f)
    ∙ ap (λ v. Does (step_of s) ∷ v) (sym (plan_goes p pc (past + 1) counts (ops.Once n s) is e))

pub once_over : (p : Laid) (pc past n : ℕ) (counts : List ℕ) (s : Piece) → IsPlan p → slice_get p.ops.items pc ≡ Some (ops.Once n s) → n ≤ past
    → moves_at 0 (format p) pc past counts ≡ Turns ∷ moves_at 0 (format p) (pc + 1) 0 counts
once_over p pc past n counts s is e le =
    plan_goes p pc past counts (ops.Once n s) is e
    ∙ ap (λ k. copies k (Does (step_of s) ∷ []) ++ Turns ∷ moves_at 0 (format p) (pc + 1) 0 counts) (let f : n - past ≡ 0 = omega arith in f)

pub enters : (p : Laid) (pc past l n z : ℕ) (counts : List ℕ) → IsPlan p → slice_get p.ops.items pc ≡ Some (ops.Enter l n z) → length counts ≡ 2
    → moves_at 0 (format p) pc past counts ≡ Turns ∷ moves_at 0 (format p) (pc + 1 + z) 0 (set counts l n)
enters p pc past l n z counts is e two = (plan_goes p pc past counts (ops.Enter l n z) is e).2 (let b : l < 2 = enter_level p pc l n z is e in omega arith)

pub enters_within : (p : Laid) (pc l n z : ℕ) → IsPlan p → slice_get p.ops.items pc ≡ Some (ops.Enter l n z) → pc + 1 + z < length p.ops.items
enters_within p pc l n z is e = let b : pc + 1 + z < size (format p) = (plan_goes p pc 0 [] (ops.Enter l n z) is e).1 in let f : length p.ops.items ≡ size (format p) = plan_size p is in omega (arith, f)

pub leaves_within : (p : Laid) (pc l z : ℕ) → IsPlan p → slice_get p.ops.items pc ≡ Some (ops.Leave l z) → z < pc
leaves_within p pc l z is e = (plan_goes p pc 0 [] (ops.Leave l z) is e).1

pub leaves_last : (p : Laid) (pc past l z : ℕ) (counts : List ℕ) → IsPlan p → slice_get p.ops.items pc ≡ Some (ops.Leave l z) → length counts ≡ 2 → get_or counts l 0 ≡ 0
    → moves_at 0 (format p) pc past counts ≡ Turns ∷ moves_at 0 (format p) (pc + 1) 0 counts
leaves_last p pc past l z counts is e two none_left = (plan_goes p pc past counts (ops.Leave l z) is e).2 (let b : l < 2 = leave_level p pc l z is e in omega arith) none_left

pub leaves_more : (p : Laid) (pc past l z : ℕ) (counts : List ℕ) → IsPlan p → slice_get p.ops.items pc ≡ Some (ops.Leave l z) → length counts ≡ 2 → 0 < get_or counts l 0
    → moves_at 0 (format p) pc past counts ≡ Turns ∷ moves_at 0 (format p) (pc - z) 0 (set counts l (get_or counts l 0 - 1))
leaves_more p pc past l z counts is e two some_left =
    (plan_goes p pc past counts (ops.Leave l z) is e).3 (get_or counts l 0 - 1) (let b : l < 2 = leave_level p pc l z is e in omega arith) (omega arith)

-- ---- what the walk's loop wants ----

pub reads : (o : Option (Bor Op)) (r : Bor Op) (op : Op) (s : Option Op) → option_map (λ v. v.now) o ≡ s → o ≡ Some r → r.now ≡ op → s ≡ Some op
reads o r op s e is at = sym e ∙ ap (option_map (λ v. v.now)) is ∙ ap Some at

pub reads_none : (o : Option (Bor Op)) (s : Option Op) → option_map (λ v. v.now) o ≡ s → o ≡ None → s ≡ None
reads_none o s e is = sym e ∙ ap (option_map (λ v. v.now)) is

pub next_does : (a b : List Move) (s : Step) (v : List Step) → a ≡ Does s ∷ b → visible a ≡ v → NextIs v (Some s) (visible b)
next_does a b s v e same = subst (λ u. NextIs u (Some s) (visible b)) (sym (ap visible e) ∙ same) (refl, refl)

pub next_ends : (a : List Move) (v : List Step) → a ≡ [] → visible a ≡ v → NextIs v None (visible a)
next_ends a v e same = subst (λ u. NextIs u None (visible a)) (sym (ap visible e) ∙ same) (ap visible e)

pub turned : (a b : List Move) (v : List Step) → a ≡ Turns ∷ b → visible a ≡ v → visible b ≡ v
turned a b v e same = sym (ap visible e) ∙ same

pub shorter : (a b : List Move) → a ≡ Turns ∷ b → length b < length a
shorter a b e = let f : length a ≡ suc (length b) = ap length e in omega (arith, f)
