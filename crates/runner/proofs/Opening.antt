-- Which record statement is open where a run stands, by the ways that lead there.
use Rattle.std.proofs.Common.{◌≡◌, inl, inr, ℕ, suc, ◌+◌, Bool, true, false, List, [], ◌∷◌, Some, None, refl, sym, ap, ◌∙◌, subst, slice_get}
use Rattle.std.proofs.lemmas.Bool.{true≢false}
use Rattle.std.proofs.lemmas.Option.{none-some, same_Some}
use Rattle.ground.specs.declared.value.Kind.{Kind}
use Rattle.f66_tree.specs.declared.editing.Way.{Way}
use Rattle.f66_tree.specs.declared.editing.Way.TheVariants.{Reading, Writing}
use Rattle.stack_code.specs.declared.fact.Fact.{Fact}
use Rattle.stack_code.specs.Instructions as i
use Rattle.stack_code.specs.Instructions.{Instruction}
use Rattle.stack_code.specs.StackMachine.{Caller}
use Rattle.stack_code.specs.ValidCode.{Open, opens, ways, same_way, root, IsIn, IsReached, IsValid}
use Rattle.stack_code.proofs.SafeLemmas.{behind}
use Rattle.runner.specs.declared.run.Role.{Role}
use Rattle.runner.specs.declared.run.Role.TheVariants as roles
use Rattle.runner.specs.Running.{role, is_apart}

-- a way leads here, and this record statement is open then
pub record IsOpen (code : List Instruction) (pc : ℕ) (open1 : Open) : Type 0 where
  pub entry : ℕ
  pub steps : ℕ
  pub fact : Fact
  pub reached : IsReached code entry steps pc fact
  pub format : fact.format ≡ open1

-- callers wait where none is open
abbrev pub NoneOpen : List Instruction → List Caller → Type 0
NoneOpen code [] = Unit {0}
NoneOpen code (c ∷ callers) = IsOpen code c.back None × NoneOpen code callers

pub open_first : (code : List Instruction) → IsOpen code 0 None
open_first code = record { entry = 0; steps = 0; fact = root 0; reached = record { count = 0; entry_is = inl (refl, refl); here = refl; is = refl }; format = refl }

pub open_called : (code : List Instruction) (pc to n : ℕ) → slice_get code pc ≡ Some (i.Call to n) → IsOpen code to None
open_called code pc to n at = record { entry = to; steps = 0; fact = root n; reached = record { count = n; entry_is = inr (record { at = pc; calls = at }); here = refl; is = refl }; format = refl }

-- behind an instruction what it opens is open
pub open_on : (code : List Instruction) (plans units pc : ℕ) → IsValid code plans units → (o : Open) → IsOpen code pc o → (j : Instruction) → slice_get code pc ≡ Some j → (to : ℕ) → IsIn to (ways j pc) → (o1 : Open) × (opens j o ≡ Some o1) × IsOpen code to o1
open_on code plans units pc v o h j at to way =
    let found = v.finds h.entry h.steps pc h.fact h.reached in
    let b = behind found.instruction h.fact found.behind found.gives in
    let same = same_Some _ _ (sym found.stands ∙ at) in (
      b.open1,
      ap (λ x. opens x o) (sym same) ∙ ap (opens found.instruction) (sym h.format) ∙ b.opened,
      record {
        entry = h.entry;
        steps = suc h.steps;
        fact = found.behind;
        reached = (pc, h.fact, h.reached, record { instruction = found.instruction; stands = found.stands; gives = found.gives; goes = subst (λ x. IsIn to (ways x pc)) (sym same) way });
        format = sym (ap (λ x. x.format) b.is);
      },
    )

-- ---- what an instruction opens ----

-- one that has nothing to do with records
pub open_same : (j : Instruction) (o o1 : Open) → is_apart (role j) ≡ true → opens j o ≡ Some o1 → o1 ≡ o
open_same (i.Begin p) None o1 r e = sym (same_Some _ _ e)
open_same (i.Begin p) (Some x) o1 r e = absurd (none-some o1 e)
open_same (i.Call to n) None o1 r e = sym (same_Some _ _ e)
open_same (i.Call to n) (Some x) o1 r e = absurd (none-some o1 e)
open_same i.Return None o1 r e = sym (same_Some _ _ e)
open_same i.Return (Some x) o1 r e = absurd (none-some o1 e)
open_same (i.Start way n) o o1 r e = absurd (true≢false (sym r))
open_same (i.Item way k) o o1 r e = absurd (true≢false (sym r))
open_same (i.Row way k n) o o1 r e = absurd (true≢false (sym r))
open_same i.Finish o o1 r e = absurd (true≢false (sym r))
open_same j o o1 r e = sym (same_Some _ _ e)

-- a call is made where none is open
pub open_at_call : (to n : ℕ) (o o1 : Open) → opens (i.Call to n) o ≡ Some o1 → o1 ≡ None
open_at_call to n None o1 e = sym (same_Some _ _ e)
open_at_call to n (Some x) o1 e = absurd (none-some o1 e)

-- a READ or WRITE begins
pub open_started : (way : Way) (n : ℕ) (o o1 : Open) → opens (i.Start way n) o ≡ Some o1 → o1 ≡ Some (n, way)
open_started way n None o1 e = sym (same_Some _ _ e)
open_started way n (Some x) o1 e = absurd (none-some o1 e)

way_is : (a b : Way) → same_way a b ≡ true → a ≡ b
way_is Reading Reading e = refl
way_is Writing Writing e = refl
way_is Reading Writing e = absurd (true≢false (sym e))
way_is Writing Reading e = absurd (true≢false (sym e))

-- the statement that is open where an item comes or goes
pub record IsAmong (way : Way) (o o1 : Open) : Type 0 where
  pub plan : ℕ
  pub is : o ≡ Some (plan, way)
  pub stays : o1 ≡ o

among_by : (way other : Way) (n : ℕ) (o1 : Open) (b : Bool) → same_way other way ≡ b → (Rattle.std.specs.Prelude.cond b (Some (Some (n, other))) None) ≡ Some o1 → IsAmong way (Some (n, other)) o1
among_by way other n o1 true same e = record { plan = n; is = ap (λ x. Some (n, x)) (way_is other way same); stays = sym (same_Some _ _ e) }
among_by way other n o1 false same e = absurd (none-some o1 e)

pub open_item : (way : Way) (k : Kind) (o o1 : Open) → opens (i.Item way k) o ≡ Some o1 → IsAmong way o o1
open_item way k None o1 e = absurd (none-some o1 e)
open_item way k (Some (n, other)) o1 e = among_by way other n o1 (same_way other way) refl e

pub open_row : (way : Way) (k : Kind) (n : ℕ) (o o1 : Open) → opens (i.Row way k n) o ≡ Some o1 → IsAmong way o o1
open_row way k n None o1 e = absurd (none-some o1 e)
open_row way k n (Some (m, other)) o1 e = among_by way other m o1 (same_way other way) refl e

-- the statement that ends
pub open_ended : (o o1 : Open) → opens i.Finish o ≡ Some o1 → (p : ℕ × Way) × (o ≡ Some p) × (o1 ≡ None)
open_ended None o1 e = absurd (none-some o1 e)
open_ended (Some p) o1 e = (p, refl, sym (same_Some _ _ e))

-- ---- where an instruction leads ----

-- the next instruction is one of those to which it leads
abbrev pub is_straight : Role → Bool
is_straight roles.Begins = true
is_straight roles.Turns = true
is_straight (roles.Spots first size) = true
is_straight roles.Works = true
is_straight roles.Operates = true
is_straight roles.Stores = true
is_straight roles.Holds = true
is_straight (roles.Dummies n) = true
is_straight (roles.Calls to n) = true
is_straight _ = false

pub straight_apart : (r : Role) → is_straight r ≡ true → is_apart r ≡ true
straight_apart roles.Begins e = refl
straight_apart roles.Turns e = refl
straight_apart (roles.Spots first size) e = refl
straight_apart roles.Works e = refl
straight_apart roles.Operates e = refl
straight_apart roles.Stores e = refl
straight_apart roles.Holds e = refl
straight_apart (roles.Dummies n) e = refl
straight_apart (roles.Calls to n) e = refl
straight_apart roles.Halts e = absurd (true≢false (sym e))
straight_apart (roles.Stops n) e = absurd (true≢false (sym e))
straight_apart roles.Leaps e = absurd (true≢false (sym e))
straight_apart (roles.Loops a b c) e = absurd (true≢false (sym e))
straight_apart roles.Returns e = absurd (true≢false (sym e))
straight_apart roles.Records e = absurd (true≢false (sym e))

next_first : (pc : ℕ) (ns : List ℕ) → IsIn (pc + 1) ((pc + 1) ∷ ns)
next_first pc ns = record { index = 0; is = refl }

pub leads_on : (j : Instruction) (pc : ℕ) → is_straight (role j) ≡ true → IsIn (pc + 1) (ways j pc)
leads_on (i.Jump to) pc e = absurd (true≢false (sym e))
leads_on (i.JumpFalse to) pc e = next_first pc (to ∷ [])
leads_on (i.JumpSign a b c) pc e = absurd (true≢false (sym e))
leads_on (i.JumpTable ts) pc e = absurd (true≢false (sym e))
leads_on (i.LoopTurn limit step to) pc e = next_first pc (to ∷ [])
leads_on i.Return pc e = absurd (true≢false (sym e))
leads_on (i.Halt None) pc e = absurd (true≢false (sym e))
leads_on (i.Halt (Some n)) pc e = absurd (true≢false (sym e))
leads_on j pc e = next_first pc []
