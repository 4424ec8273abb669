-- What the stack machine does with a list of instructions.
use Rattle.std.specs.Prelude.{◌≡◌, ℕ, zero, suc, ◌+◌, nat_lt, ℤ, pos, negsuc, ◌+ℤ◌, int_le, Bool, true, false, List, [], ◌∷◌, Option, Some, None, slice_get, if◌then◌else◌, ⊤}
use Rattle.ground.specs.declared.place.Place.{Place}
use Rattle.ground.specs.declared.trap.Trap.TheVariants.{Subscript, ValueArgument, BadBranch}
use Rattle.ground.specs.declared.value.Kind.{Kind}
use Rattle.ground.specs.declared.value.Kind.TheVariants.{Integer}
use Rattle.ground.specs.Content.{Content, Nothing, Whole}
use Rattle.f66_tree.specs.declared.editing.Way.{Way}
use Rattle.f66_tree.specs.declared.editing.Way.TheVariants.{Reading, Writing}
use Rattle.f66_tree.specs.Fields.{Fields}
use Rattle.f66_tree.specs.World.{Record, Store, put_in, first_tape, World, Done, Stopped, Ended, Wrong, End, Out, Gives, Halts, bind, Try, Yields, Traps, Fails, then_try, settle, choose, take_one, holding, Shown, shown}
use Rattle.f66_tree.specs.Records.{due, put, take, closed}
use Rattle.f66_tree.specs.Evaluation.{operate, opposite, denied, truth_in, Intrinsic, Iabs, Mod, Isign, Idim, Max0, Min0, intrinsic, asked, distance}
use Rattle.f66_tree.specs.Statements.{LoopParameters, fit_loop_in, extent, taped, taken_content, on_unit, opened_by}
use Rattle.f66_tree.specs.Execution.{nowhere}
use Rattle.stack_code.specs.Instructions as i
use Rattle.stack_code.specs.Instructions.{Instruction}

-- a spot: some units of the store, which of them is meant, and whether it may not be stored into
pub record Spot : Type 0 where
  pub first : ℕ
  pub size : ℕ
  pub position : ℕ
  pub fixed : Bool

-- an entry of the stack: an integer or a truth value, or a spot
pub data Entry : Type 0 where
  Val : Content → Entry
  At : Spot → Entry

-- the place of the statement that is executed, and the spots of the dummies
pub record Frame : Type 0 where
  pub place : Place
  pub spots : List Spot

-- a caller: where it goes on, and its frame
pub record Caller : Type 0 where
  pub back : ℕ
  pub frame : Frame

-- all that a run has besides the store and the records
pub record Core : Type 0 where
  pub pc : ℕ
  pub stack : List Entry
  pub frame : Frame
  pub callers : List Caller

abbrev pub wrong : {A : Type 0} → World → Out A
wrong w = Halts (Ended Wrong) w

-- the next instruction, over this stack
abbrev pub next : Core → List Entry → Core
next s stack = record { pc = s.pc + 1; stack = stack; frame = s.frame; callers = s.callers }

abbrev pub jump : Core → ℕ → List Entry → Core
jump s to stack = record { pc = to; stack = stack; frame = s.frame; callers = s.callers }

abbrev pub entered : Core → Place → Core
entered s p = record { pc = s.pc + 1; stack = s.stack; frame = record { place = p; spots = s.frame.spots }; callers = s.callers }

-- ---- the stack ----

abbrev pub on_value : World → List Entry → (Content → List Entry → Out Core) → Out Core
on_value w (Val v ∷ rest) f = f v rest
on_value w _ f = wrong w

abbrev pub on_spot : World → List Entry → (Spot → List Entry → Out Core) → Out Core
on_spot w (At p ∷ rest) f = f p rest
on_spot w _ f = wrong w

-- takes so many values off a stack, and gives them in the order in which they were pushed
abbrev pub take_values : World → ℕ → List Entry → List Content → (List Content → List Entry → Out Core) → Out Core
take_values w zero stack got f = f got stack
take_values w (suc n) (Val v ∷ stack) got f = take_values w n stack (v ∷ got) f
take_values w (suc n) _ got f = wrong w

-- the same for spots
abbrev pub take_spots : World → ℕ → List Entry → List Spot → (List Spot → List Entry → Out Core) → Out Core
take_spots w zero stack got f = f got stack
take_spots w (suc n) (At p ∷ stack) got f = take_spots w n stack (p ∷ got) f
take_spots w (suc n) _ got f = wrong w

-- ---- spots and the store ----

abbrev pub unit_of : Spot → ℕ
unit_of p = p.first + p.position

abbrev pub load : Kind → Spot → Store → Try Content
load k p st = asked k (st (unit_of p))

abbrev pub store : Spot → Content → Store → Try Store
store p v st = if p.fixed then Traps ValueArgument else Yields (put_in (unit_of p) v st)

-- the spot n places on
abbrev pub shift : Spot → ℕ → Try Spot
shift p n = if nat_lt (p.position + n) p.size then Yields (record { first = p.first; size = p.size; position = p.position + n; fixed = p.fixed }) else Traps Subscript

abbrev pub spot : ℕ → ℕ → Bool → Spot
spot first size fixed = record { first = first; size = size; position = 0; fixed = fixed }

abbrev pub dummy : ℕ → List Spot → Try Spot
dummy n [] = Fails
dummy zero (p ∷ ps) = Yields p
dummy (suc n) (p ∷ ps) = dummy n ps

abbrev pub pushed : Core → List Entry → World → Try Content → Out Core
pushed s rest w t = bind (settle s.frame.place t w) (λ v w1. Gives (next s (Val v ∷ rest)) w1)

abbrev pub pushed_spot : Core → List Entry → World → Try Spot → Out Core
pushed_spot s rest w t = bind (settle s.frame.place t w) (λ p w1. Gives (next s (At p ∷ rest)) w1)

abbrev pub changed : Core → List Entry → World → Try Store → Out Core
changed s rest w t = bind (settle s.frame.place t w) (λ st w1. Gives (next s rest) (holding st w1))

-- ---- DO ----

-- a unit that holds no integer counts as a limit of zero
abbrev pub limit_in : Content → ℤ
limit_in (Whole z) = z
limit_in _ = pos 0

-- a unit that holds no integer above zero counts as a step of one, so that no DO variable ever sinks
abbrev pub step_in : Content → ℤ
step_in (Whole (pos (suc n))) = pos (suc n)
step_in _ = pos 1

abbrev pub loop_in : ℕ → ℕ → Store → LoopParameters
loop_in limit step st = record { limit = limit_in (st limit); step = step_in (st step) }

abbrev pub keep_loop : ℕ → ℕ → LoopParameters → Store → Store
keep_loop limit step k st = put_in step (Whole k.step) (put_in limit (Whole k.limit) st)

abbrev pub loop_start : Core → ℕ → ℕ → Spot → List Entry → World → List Content → Out Core
loop_start s limit step p rest w (a ∷ b ∷ c ∷ []) =
    bind (settle s.frame.place (fit_loop_in a b c) w) (λ k w1. bind (settle s.frame.place (store p a w1.state.store) w1) (λ st w2. Gives (next s rest) (holding (keep_loop limit step k st) w2)))
loop_start s limit step p rest w _ = wrong w

abbrev pub loop_turn : Core → ℕ → Spot → List Entry → World → LoopParameters → Content → Out Core
loop_turn s to p rest w k (Whole z) =
    if int_le (z +ℤ k.step) k.limit then bind (settle s.frame.place (store p (Whole (z +ℤ k.step)) w.state.store) w) (λ st w1. Gives (jump s to rest) (holding st w1))
    else changed s rest w (store p Nothing w.state.store)
loop_turn s to p rest w k _ = wrong w

-- ---- branches ----

abbrev pub jump_sign : Core → ℕ → ℕ → ℕ → List Entry → World → Content → Out Core
jump_sign s a b c rest w (Whole (negsuc z)) = Gives (jump s a rest) w
jump_sign s a b c rest w (Whole (pos zero)) = Gives (jump s b rest) w
jump_sign s a b c rest w (Whole (pos (suc z))) = Gives (jump s c rest) w
jump_sign s a b c rest w _ = wrong w

abbrev pub nth : List ℕ → ℕ → Try ℕ
nth [] n = Traps BadBranch
nth (t ∷ ts) zero = Yields t
nth (t ∷ ts) (suc n) = nth ts n

abbrev pub target_at : List ℕ → Content → Try ℕ
target_at ts (Whole (pos (suc n))) = nth ts n
target_at ts (Whole z) = Traps BadBranch
target_at ts _ = Fails

abbrev pub back_to : Core → World → List Caller → Out Core
back_to s w [] = wrong w
back_to s w (c ∷ callers) = Gives (record { pc = c.back; stack = s.stack; frame = c.frame; callers = callers }) w

abbrev pub called : Core → ℕ → World → List Spot → List Entry → Out Core
called s to w spots rest =
    Gives (record { pc = to; stack = rest; frame = record { place = s.frame.place; spots = spots }; callers = record { back = s.pc + 1; frame = s.frame } ∷ s.callers }) w

abbrev pub known : ℕ → Option Intrinsic
known zero = Some Iabs
known (suc zero) = Some Mod
known (suc (suc zero)) = Some Isign
known (suc (suc (suc zero))) = Some Idim
known (suc (suc (suc (suc zero)))) = Some Max0
known (suc (suc (suc (suc (suc zero))))) = Some Min0
known _ = None

abbrev pub intrinsic_by : Option Intrinsic → List Content → Try Content
intrinsic_by (Some g) vs = intrinsic g vs
intrinsic_by None vs = Fails

-- ---- records ----

abbrev pub transfer : Place → Way → Kind → Spot → World → Out ⊤
transfer place Reading k p w = bind (taken_content place take w) (λ c w1. bind (settle place (store p c w1.state.store) w1) (λ st w2. Gives tt (holding st w2)))
transfer place Writing k p w = bind (settle place (load k p w.state.store) w) (λ c w1. taped place (put c) w1)

abbrev pub edited : Place → Way → Kind → Spot → World → Out ⊤
edited place way k p w = bind (taped place (due k) w) (λ _ w1. transfer place way k p w1)

abbrev pub row : Place → Way → Kind → Spot → ℕ → ℕ → World → Out ⊤
row place way k p zero i w = Gives tt w
row place way k p (suc n) i w =
    bind (settle place (shift p i) w) (λ q w1. bind (edited place way k q w1) (λ _ w2. row place way k p n (i + 1) w2))

abbrev pub stopped : Option ℕ → End
stopped None = Ended Done
stopped (Some n) = Ended (Stopped n)

-- one instruction
abbrev pub act : List Fields → Option Instruction → Core → World → Out Core
act plans None s w = wrong w
act plans (Some (i.Begin p)) s w = bind (take_one w) (λ _ w1. Gives (entered s p) w1)
act plans (Some i.Step) s w = bind (take_one w) (λ _ w1. Gives (next s s.stack) w1)
act plans (Some (i.Push v)) s w = Gives (next s (Val v ∷ s.stack)) w
act plans (Some (i.PushSpot first size)) s w = Gives (next s (At (spot first size false) ∷ s.stack)) w
act plans (Some (i.Dummy n)) s w = pushed_spot s s.stack w (dummy n s.frame.spots)
act plans (Some (i.Element n)) s w =
    take_values w n s.stack [] (λ ds rest. take_values w n rest [] (λ is' below. on_spot w below (λ p under. pushed_spot s under w (then_try (distance 1 is' ds) (λ m. shift p m)))))
act plans (Some (i.Load k)) s w = on_spot w s.stack (λ p rest. pushed s rest w (load k p w.state.store))
act plans (Some i.Store) s w = on_value w s.stack (λ v rest. on_spot w rest (λ p below. changed s below w (store p v w.state.store)))
act plans (Some i.Forget) s w = on_spot w s.stack (λ p rest. changed s rest w (store p Nothing w.state.store))
act plans (Some (i.Lend q)) s w = on_value w s.stack (λ v rest. Gives (next s (At (spot q 1 true) ∷ rest)) (holding (put_in q v w.state.store) w))
act plans (Some (i.Both op)) s w = on_value w s.stack (λ b rest. on_value w rest (λ a below. pushed s below w (operate op a b)))
act plans (Some (i.Compare op)) s w = on_value w s.stack (λ b rest. on_value w rest (λ a below. pushed s below w (operate op a b)))
act plans (Some i.Minus) s w = on_value w s.stack (λ a rest. pushed s rest w (opposite a))
act plans (Some i.Not) s w = on_value w s.stack (λ a rest. pushed s rest w (denied a))
act plans (Some (i.Known g n)) s w = take_values w n s.stack [] (λ vs rest. pushed s rest w (intrinsic_by (known g) vs))
act plans (Some (i.Jump to)) s w = Gives (jump s to s.stack) w
act plans (Some (i.JumpFalse to)) s w =
    on_value w s.stack (λ v rest. bind (settle s.frame.place (truth_in v) w) (λ b w1. choose b (Gives (next s rest) w1) (Gives (jump s to rest) w1)))
act plans (Some (i.JumpSign a b c)) s w = on_value w s.stack (λ v rest. jump_sign s a b c rest w v)
act plans (Some (i.JumpTable ts)) s w = on_value w s.stack (λ v rest. bind (settle s.frame.place (target_at ts v) w) (λ to w1. Gives (jump s to rest) w1))
act plans (Some (i.LoopStart limit step)) s w = take_values w 3 s.stack [] (λ vs rest. on_spot w rest (λ p below. loop_start s limit step p below w vs))
act plans (Some (i.LoopTurn limit step to)) s w =
    on_spot w s.stack (λ p rest. bind (settle s.frame.place (load Integer p w.state.store) w) (λ v w1. loop_turn s to p rest w1 (loop_in limit step w1.state.store) v))
act plans (Some (i.Call to n)) s w = take_spots w n s.stack [] (λ spots rest. called s to w spots rest)
act plans (Some i.Return) s w = back_to s w s.callers
act plans (Some (i.Start way n)) s w =
    on_value w s.stack (λ v rest. bind (settle s.frame.place (on_unit way v) w) (λ _ w1. bind (taped s.frame.place (opened_by way (slice_get plans n)) w1) (λ _ w2. Gives (next s rest) w2)))
act plans (Some (i.Item way k)) s w = on_spot w s.stack (λ p rest. bind (edited s.frame.place way k p w) (λ _ w1. Gives (next s rest) w1))
act plans (Some (i.Row way k n)) s w =
    take_values w n s.stack [] (λ ds rest. on_spot w rest (λ p below. bind (settle s.frame.place (extent ds) w) (λ m w1. bind (row s.frame.place way k p m 0 w1) (λ _ w2. Gives (next s below) w2))))
act plans (Some i.Finish) s w = bind (taped s.frame.place closed w) (λ _ w1. Gives (next s s.stack) w1)
act plans (Some (i.Halt n)) s w = Halts (stopped n) w

-- code with the formats of its plans
pub record Program : Type 0 where
  pub code : List Instruction
  pub plans : List Fields

abbrev pub step : Program → Core → World → Out Core
step c s w = act c.plans (slice_get c.code s.pc) s w

-- at most n instructions
abbrev pub exec : Program → ℕ → Core → World → Out Core
exec c zero s w = Gives s w
exec c (suc n) s w = bind (step c s w) (exec c n)

abbrev pub start : Core
start = record { pc = 0; stack = []; frame = record { place = nowhere; spots = [] }; callers = [] }

abbrev pub empty : Store
empty q = Nothing

-- at first, over these input records, where at most n statements may begin
abbrev pub first_world : List Record → ℕ → World
first_world input n = record { state = record { store = empty; tape = first_tape input }; left = n; count = 0 }

-- a run from here executes so many instructions and then one more, which ends it; it shows this
pub record Ends (c : Program) (s : Core) (w : World) (a : Shown) : Type 0 where
  pub count : ℕ
  pub last : Core
  pub world : World
  pub end : End
  pub after : World
  pub comes : exec c count s w ≡ Gives last world
  pub ends : step c last world ≡ Halts end after
  pub shows : shown (Halts end after) ≡ a

-- what a run of the code shows over these input records after at most n statements, and how many instructions it executes
pub record Runs (c : Program) (input : List Record) (n : ℕ) (a : Shown) (executed : ℕ) : Type 0 where
  pub run : Ends c start (first_world input n) a
  pub counted : suc run.count ≡ executed
