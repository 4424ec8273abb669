-- The machine step by step. What a stretch of a run gives goes to a continuation, which says what the whole run shows; so a
-- stretch in the code is a lemma: if from its end the machine shows what the continuation says, it does so from its beginning.
use Rattle.std.proofs.Common.{◌≡◌, ℕ, suc, ◌+◌, ◌<◌, List, [], ◌∷◌, ◌++◌, length, Some, refl, sym, ap, ◌∙◌, subst, arith, append_assoc, length-append, slice_get}
use Rattle.std.proofs.Math.Seq.{get_or-append_seam}
use Rattle.std.proofs.lemmas.Option.{slice_get-get_or}
use Rattle.f66_tree.specs.World.{World, Ended, Wrong, Out, Gives, Halts, bind, Shown, shown}
use Rattle.stack_code.specs.Instructions.{Instruction}
use Rattle.stack_code.specs.StackMachine.{Entry, Frame, Caller, Core, Program, act, step, exec, Ends}

-- the instructions stand in the code at this place
abbrev pub HasAt : List Instruction → ℕ → List Instruction → Type 0
HasAt code pc [] = Prim.Unit {0}
HasAt code pc (i ∷ is) = (slice_get code pc ≡ Some i) × HasAt code (pc + 1) is

pub has_front : (code : List Instruction) (pc : ℕ) (a b : List Instruction) → HasAt code pc (a ++ b) → HasAt code pc a
has_front code pc [] b h = tt
has_front code pc (i ∷ a) b h = (h.0, has_front code (pc + 1) a b h.1)

pub has_back : (code : List Instruction) (pc : ℕ) (a b : List Instruction) → HasAt code pc (a ++ b) → HasAt code (pc + length a) b
has_back code pc [] b h = let e : pc ≡ pc + 0 = omega arith in subst (λ m. HasAt code m b) e h
has_back code pc (i ∷ a) b h =
    let e : pc + 1 + length a ≡ pc + suc (length a) = omega arith in
    subst (λ m. HasAt code m b) e (has_back code (pc + 1) a b h.1)

pub has_at : (code : List Instruction) (pc q : ℕ) (a : List Instruction) → pc ≡ q → HasAt code pc a → HasAt code q a
has_at code pc q a e h = subst (λ m. HasAt code m a) e h

pub has_all : (is pre : List Instruction) → HasAt (pre ++ is) (length pre) is
has_all [] pre = tt
has_all (i ∷ is) pre =
    let within : length pre < length (pre ++ i ∷ is) = omega (arith, length-append pre (i ∷ is)) in
    let here = slice_get-get_or (pre ++ i ∷ is) (length pre) i within ∙ ap Some (get_or-append_seam pre i is i) in
    let n : length (pre ++ i ∷ []) ≡ length pre + 1 = omega (arith, length-append pre (i ∷ [])) in
    let rest = has_all is (pre ++ i ∷ []) in
    let rest' = subst (λ l. HasAt l (length (pre ++ i ∷ [])) is) (append_assoc pre (i ∷ []) is) rest in
    (here, subst (λ m. HasAt (pre ++ i ∷ is) m is) n rest')

-- what a stretch and what comes after it show together
abbrev pub finish : {A : Type 0} → Out A → (A → World → Shown) → Shown
finish (Gives a w) k = k a w
finish (Halts e w) k = shown (Halts e w)

pub bind_finish : {A B : Type 0} (r : Out A) (f : A → World → Out B) (k : B → World → Shown) → finish r (λ x w. finish (f x w) k) ≡ finish (bind r f) k
bind_finish (Gives x w) f k = refl
bind_finish (Halts e w) f k = refl

abbrev pub at : ℕ → List Entry → Frame → List Caller → Core
at pc stack f callers = record { pc = pc; stack = stack; frame = f; callers = callers }

-- from here the machine shows this, unless it is the end of a run that goes wrong
abbrev pub Comes : Program → Core → World → Shown → Type 0
Comes c s w a = (a.end ≡ Ended Wrong → ⊥) → Ends c s w a

-- the same from where one instruction leads
abbrev pub Meets : Program → Out Core → Shown → Type 0
Meets c (Gives t w) a = Comes c t w a
Meets c (Halts e w) a = shown (Halts e w) ≡ a

meet : (c : Program) (s : Core) (w : World) (r : Out Core) (a : Shown) → step c s w ≡ r → Meets c r a → Comes c s w a
meet c s w (Gives t v) a e h = λ right.
    let r = h right in
    record { count = suc r.count; last = r.last; world = r.world; end = r.end; after = r.after; comes = ap (λ o. bind o (exec c r.count)) e ∙ r.comes; ends = r.ends; shows = r.shows }
meet c s w (Halts e v) a is h = λ right. record { count = 0; last = s; world = w; end = e; after = v; comes = refl; ends = is; shows = h }

-- one instruction
pub does_one : (c : Program) (s : Core) (w : World) (i : Instruction) (a : Shown) → slice_get c.code s.pc ≡ Some i → Meets c (act c.plans (Some i) s w) a → Comes c s w a
does_one c s w i a e h = meet c s w (act c.plans (Some i) s w) a (ap (λ o. act c.plans o s w) e) h

pub does_as : (c : Program) (s : Core) (w : World) (i : Instruction) (r : Out Core) (a : Shown) → slice_get c.code s.pc ≡ Some i → act c.plans (Some i) s w ≡ r → Meets c r a → Comes c s w a
does_as c s w i r a e e' h = meet c s w r a (ap (λ o. act c.plans o s w) e ∙ e') h

pub bound : {A B : Type 0} (c : Program) (s : Core) (m : World) (r : Out A) (f : A → World → Out B) (k : B → World → Shown) → Comes c s m (finish r (λ x w. finish (f x w) k)) → Comes c s m (finish (bind r f) k)
bound c s m (Gives x w) f k h = h
bound c s m (Halts e w) f k h = h

pub moved : (c : Program) (p q : ℕ) (stack : List Entry) (f : Frame) (callers : List Caller) (w : World) (a : Shown) → p ≡ q → Comes c (at q stack f callers) w a → Comes c (at p stack f callers) w a
moved c p q stack f callers w a e h = subst (λ n. Comes c (at n stack f callers) w a) (sym e) h

-- a run that goes wrong shows nothing that is asked for
pub goes_wrong : (c : Program) (s : Core) (m w : World) (a : Shown) → shown (Halts (Ended Wrong) w) ≡ a → Comes c s m a
goes_wrong c s m w a e = λ right. absurd (right (ap (λ x. x.end) (sym e)))
