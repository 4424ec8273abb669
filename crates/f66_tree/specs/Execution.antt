-- What linked units of FORTRAN do (X3.9-1966, sections 7.1.2, 8 and 9).
use Rattle.std.specs.Prelude.{ℕ, pos, zero, suc, Bool, true, false, nat_eq, List, [], ◌∷◌, ◌++◌, length, Option, Some, None, if◌then◌else◌, ⊤}
use Rattle.ground.specs.declared.place.Place.{Place}
use Rattle.f66_tree.specs.Syntax.{Text, Act, When, Loop, Line}
use Rattle.f66_tree.specs.World.{Record, first_tape, State, World, Done, Ended, GoesOn, Out, Gives, Halts, bind, choose, take_one, Shown, shown}
use Rattle.f66_tree.specs.Units.{is_note, is_main, Linkage, Setting, Frame, moved_to, around}
use Rattle.f66_tree.specs.Evaluation.{asks}
use Rattle.f66_tree.specs.Statements.{Exit, Normal, To, Back, LoopParameters, loop_start, loop_turn, does}

-- from the next statement that is executed
abbrev pub runnable : List Line → List Line
runnable [] = []
runnable (s ∷ rest) = if is_note s.act then runnable rest else (s ∷ rest)

abbrev pub has_label : ℕ → Option ℕ → Bool
has_label l None = false
has_label l (Some m) = nat_eq m l

-- the statements from a label on
abbrev pub from_label : ℕ → List Line → List Line
from_label l [] = []
from_label l (s ∷ rest) = if has_label l s.label then (s ∷ rest) else from_label l rest

-- the DO loops in progress: what each DO took, by how many statements stand behind it in its unit
abbrev pub Progress : Type 0
Progress = ℕ → LoopParameters

abbrev pub begun : ℕ → LoopParameters → Progress → Progress
begun key k pr q = if nat_eq q key then k else pr q

-- where a unit stands: the statements still to go through, and its loops in progress
pub record Stand : Type 0 where
  pub rest : List Line
  pub loops : Progress

abbrev pub stand : List Line → Progress → Stand
stand rest pr = record { rest = rest; loops = pr }

-- a DO that ends at a label: its variable, and the statements behind it
pub record Closer : Type 0 where
  pub variable : Text
  pub inner : List Line

abbrev pub closer_of : ℕ → Act → List Line → List Closer → List Closer
closer_of l (Loop m x a b c) rest found = if nat_eq m l then (found ++ record { variable = x; inner = rest } ∷ []) else found
closer_of l _ rest found = found

-- the DO loops of a unit that end at a label, the innermost first
abbrev pub closers : ℕ → List Line → List Closer
closers l [] = []
closers l (s ∷ rest) = closer_of l s.act rest (closers l rest)

abbrev pub closers_at : Option ℕ → List Line → List Closer
closers_at None code = []
closers_at (Some l) code = closers l code

abbrev pub Onward : Type 0
Onward = Stand → World → Out ⊤

-- after the last statement of some DO loops
abbrev pub close : Setting → Frame → List Closer → List Line → Onward → Progress → World → Out ⊤
close s f [] rest go pr w = go (stand rest pr) w
close s f (k ∷ ks) rest go pr w =
    bind (loop_turn s f k.variable (pr (length k.inner)) w) (λ goes_on w1. choose goes_on (go (stand k.inner pr) w1) (close s f ks rest go pr w1))

-- where a statement leads
abbrev pub leads : Setting → Frame → List Line → Option ℕ → List Line → Onward → Progress → Exit → World → Out ⊤
leads s f code l rest go pr Normal w = close s f (closers_at l code) rest go pr w
leads s f code l rest go pr (To m) w = go (stand (from_label m code) pr) w
leads s f code l rest go pr Back w = Gives tt w

-- one statement that has begun; that of a logical IF begins for itself, in the IF's place and with its label
abbrev pub perform : Setting → Frame → List Line → Option ℕ → Act → List Line → Onward → Progress → World → Out ⊤
perform s f code l (When e a) rest go pr w =
    bind (asks s f e w) (λ holds w1. choose holds (go (stand (record { label = l; place = f.place; act = a } ∷ rest) pr) w1) (leads s f code l rest go pr Normal w1))
perform s f code l (Loop m x a b c) rest go pr w =
    bind (loop_start s f x a b c w) (λ k w1. go (stand rest (begun (length rest) k pr)) w1)
perform s f code l a rest go pr w = bind (does s f a w) (λ y w1. leads s f code l rest go pr y w1)

-- past its last statement a unit does as RETURN does
abbrev pub past_end : Bool → World → Out ⊤
past_end true w = Halts (Ended Done) w
past_end false w = Gives tt w

-- the next statement begins
abbrev pub fetch : Setting → Frame → List Line → List Line → Onward → Progress → World → Out ⊤
fetch s f code [] go pr w = past_end (is_main (around s f).header) w
fetch s f code (line ∷ rest) go pr w = bind (s.begin w) (λ _ w1. perform s (moved_to line.place f) code line.label line.act rest go pr w1)

abbrev pub nowhere : Place
nowhere = record { file = 0; line = 0 }

abbrev pub first_state : Linkage → List Record → State
first_state l input = record { store = l.first; tape = first_tape input }

-- no loop is in progress where a unit begins
abbrev pub no_loops : Progress
no_loops q = record { limit = pos 0; step = pos 1 }

module _ (l : Linkage) (codes : ℕ → List Line) where
  -- the setting of a statement, by what its calls do
  abbrev pub target : ℕ → (Frame → Stand → World → Out ⊤) → Setting
  target n run = record {
    linked = l;
    call = λ v ps w. run (record { unit = v; actuals = ps; place = nowhere }) (stand (codes v) no_loops) w;
    begin = take_one;
    most = n;
    tick = λ c. c;
  }

  -- a unit's run. The fuel is above the statements that may still begin, so it never runs out first
  abbrev pub exec : ℕ → Frame → Stand → World → Out ⊤
  exec zero f at w = Halts GoesOn w
  exec (suc n) f at w = fetch (target n (exec n)) f (codes f.unit) (runnable at.rest) (exec n f) at.loops w

  -- a run of linked units over these input records, after at most n statements
  abbrev pub f66 : List Record → ℕ → Shown
  f66 input n =
      shown (exec (suc n) (record { unit = l.main; actuals = []; place = nowhere }) (stand (codes l.main) no_loops) (record { state = first_state l input; left = n; count = 0 }))
