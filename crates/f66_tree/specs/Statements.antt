-- What one plain statement does (X3.9-1966, section 7.1).
use Rattle.std.specs.Prelude.{ℕ, zero, suc, ◌+◌, ◌*◌, ℤ, pos, negsuc, ◌+ℤ◌, int_le, Bool, true, false, ◌&&◌, List, [], ◌∷◌, Option, Some, None, if◌then◌else◌, ⊤}
use Rattle.ground.specs.declared.place.Place.{Place}
use Rattle.ground.specs.declared.trap.Trap.TheVariants.{BadDo, BadBranch, BadUnit, Subscript}
use Rattle.ground.specs.declared.value.Kind.{Kind}
use Rattle.ground.specs.declared.value.Kind.TheVariants.{Integer}
use Rattle.ground.specs.Content.{Content, Nothing, Whole}
use Rattle.f66_tree.specs.declared.editing.Way.{Way}
use Rattle.f66_tree.specs.declared.editing.Way.TheVariants.{Reading, Writing}
use Rattle.f66_tree.specs.Fields.{Fields}
use Rattle.f66_tree.specs.Syntax.{Text, Formula, Ref, Item, Par, Entry, One, Many, Entries, NoEntry, AndEntry, Act, Assign, Goto, Computed, Sign, Invoke, Continue, Stop, Return, Read, Write}
use Rattle.f66_tree.specs.World.{Tape, World, Done, Stopped, Ended, GoesOn, Wrong, Out, Gives, Halts, bind, Try, Yields, Traps, Fails, then_try, Move, Misses, settle, moving, choose, taping}
use Rattle.f66_tree.specs.Records.{opened, due, put, take, closed}
use Rattle.f66_tree.specs.Units.{is_main, kind_of, format_of, sizes_of, Spot, Setting, Frame, around}
use Rattle.f66_tree.specs.Evaluation.{base, load, store_at, variable_in, par_in, pars_in, ticked, moved, value_of, spots_of, locate}

-- how a plain statement is left: for the next one, for a label, or for the caller
pub data Exit : Type 0 where
  Normal : Exit
  To : ℕ → Exit
  Back : Exit

-- ---- DO ----

-- the limit and the step of a DO, which are taken once
pub record LoopParameters : Type 0 where
  pub limit : ℤ
  pub step : ℤ

-- the parameters are at least one, and the first is at most the second
abbrev pub fit_loop : ℤ → ℤ → ℤ → Try LoopParameters
fit_loop a b c = if int_le (pos 1) a && int_le a b && int_le (pos 1) c then Yields (record { limit = b; step = c }) else Traps BadDo

abbrev pub fit_loop_in : Content → Content → Content → Try LoopParameters
fit_loop_in (Whole a) (Whole b) (Whole c) = fit_loop a b c
fit_loop_in _ _ _ = Fails

-- a DO begins: the variable's place, the three parameters, the test, the store
abbrev pub loop_start : Setting → Frame → Text → Par → Par → Par → World → Out LoopParameters
loop_start s f x a b c w =
    bind (settle f.place (base s f x) w) (λ p w1. bind (par_in s f a w1) (λ va w2. bind (par_in s f b w2) (λ vb w3. bind (par_in s f c w3) (λ vc w4.
    bind (settle f.place (fit_loop_in va vb vc) w4) (λ k w5. bind (store_at s f p va w5) (λ _ w6. Gives k w6))))))

-- the exact sum is compared, so that one past the greatest integer counts as greater than the limit
abbrev pub turn_of : Setting → Frame → Spot → LoopParameters → Content → World → Out Bool
turn_of s f p k (Whole z) w =
    if int_le (z +ℤ k.step) k.limit then bind (store_at s f p (Whole (z +ℤ k.step)) w) (λ _ w1. Gives true w1)
    else bind (store_at s f p Nothing w) (λ _ w1. Gives false w1)
turn_of s f p k _ w = Halts (Ended Wrong) w

-- after a turn of a DO: adds, and says whether it goes on; else the variable is undefined
abbrev pub loop_turn : Setting → Frame → Text → LoopParameters → World → Out Bool
loop_turn s f x k w =
    bind (settle f.place (base s f x) w) (λ p w1. bind (load s f Integer p w1) (λ v w2. turn_of s f p k v w2))

-- ---- READ and WRITE ----

-- one step of formatted editing, and one that gives a content too
abbrev pub taped : Place → (Tape → Move) → World → Out ⊤
taped p h w = moving p (h w.state.tape) w

abbrev pub taken_content : Place → (Tape → Try (Content × Tape)) → World → Out Content
taken_content p h w = bind (settle p (h w.state.tape) w) (λ r w1. Gives r.0 (taping r.1 w1))

-- one content comes from a record, or goes to it
abbrev pub transfer : Setting → Frame → Way → Kind → Spot → World → Out ⊤
transfer s f Reading k p w = bind (taken_content f.place take w) (λ c w1. store_at s f p c w1)
transfer s f Writing k p w = bind (load s f k p w) (λ c w1. taped f.place (put c) w1)

-- an item at a place: the edit is found and compared, then the content goes
abbrev pub edited : Setting → Frame → Way → Kind → Spot → World → Out ⊤
edited s f way k p w = bind (taped f.place (due k) w) (λ _ w1. transfer s f way k p w1)

-- an array without subscripts: as many places as its dimensions say, in order
abbrev pub row : Setting → Frame → Way → Kind → Spot → ℕ → ℕ → World → Out ⊤
row s f way k p zero i w = Gives tt w
row s f way k p (suc n) i w =
    bind (settle f.place (moved s.linked p i) w) (λ q w1. bind (edited s f way k q w1) (λ _ w2. row s f way k p n (i + 1) w2))

abbrev pub times : ℤ → Try ℕ → Try ℕ
times (pos (suc n)) t = then_try t (λ m. Yields (suc n * m))
times _ t = Traps Subscript

-- the number of places, of dimensions that are at least one
abbrev pub extent : List Content → Try ℕ
extent [] = Yields 1
extent (Whole d ∷ ds) = times d (extent ds)
extent _ = Fails

-- one item: where it is, and then its content, or those of a whole array
abbrev pub one_or_row : Setting → Frame → Way → Kind → List Par → Spot → World → Out ⊤
one_or_row s f way k [] p w = edited s f way k p w
one_or_row s f way k (n ∷ ns) p w =
    bind (pars_in s f (n ∷ ns) w) (λ ds w1. bind (settle f.place (extent ds) w1) (λ m w2. row s f way k p m 0 w2))

abbrev pub item : Setting → Frame → Way → Formula → World → Out ⊤
item s f way (Ref x) w =
    bind (locate s f (Ref x) w) (λ p w1. one_or_row s f way (kind_of (around s f) x) (sizes_of x (around s f).notes) p w1)
item s f way (Item x es) w = bind (locate s f (Item x es) w) (λ p w1. edited s f way (kind_of (around s f) x) p w1)
item s f way _ w = Halts (Ended Wrong) w

-- at most n turns of an implied DO, each of which counts as a statement begun
abbrev pub item_turns : ℕ → Setting → Frame → Text → LoopParameters → (World → Out ⊤) → World → Out ⊤
item_turns zero s f x k body w = Halts GoesOn w
item_turns (suc n) s f x k body w =
    bind (s.begin w) (λ _ w1. bind (body w1) (λ _ w2. bind (loop_turn s f x k w2) (λ goes_on w3. choose goes_on (item_turns n s f x k body w3) (Gives tt w3))))

abbrev mutual
  pub items : Setting → Frame → Way → Entries → World → Out ⊤
  items s f way NoEntry w = Gives tt w
  items s f way (AndEntry e es) w = bind (entry s f way e (ticked s w)) (λ _ w1. items s f way es w1)

  pub entry : Setting → Frame → Way → Entry → World → Out ⊤
  entry s f way (One e) w = item s f way e w
  entry s f way (Many es x a b c) w = bind (loop_start s f x a b c w) (λ k w1. item_turns s.most s f x k (items s f way es) w1)

-- READ is on unit 5, WRITE on unit 6
abbrev pub unit_for : Way → ℤ
unit_for Reading = pos 5
unit_for Writing = pos 6

abbrev pub on_unit : Way → Content → Try ⊤
on_unit way (Whole z) = if int_le z (unit_for way) && int_le (unit_for way) z then Yields tt else Traps BadUnit
on_unit way _ = Fails

abbrev pub opened_by : Way → Option Fields → Tape → Move
opened_by way (Some fs) t = opened way fs t
opened_by way None t = Misses

-- the unit is tested, a READ takes a record, the items follow, and the last record ends
abbrev pub record_by : Setting → Frame → Way → Par → ℕ → Entries → World → Out Exit
record_by s f way u l es w =
    bind (par_in s f u w) (λ v w1. bind (settle f.place (on_unit way v) w1) (λ _ w2.
    bind (taped f.place (opened_by way (format_of l (around s f).notes)) w2) (λ _ w3. bind (items s f way es w3) (λ _ w4.
    bind (taped f.place closed w4) (λ _ w5. Gives Normal w5)))))

-- ---- control ----

-- the label of a computed GO TO
abbrev pub nth : List ℕ → ℕ → Try ℕ
nth [] n = Traps BadBranch
nth (l ∷ ls) zero = Yields l
nth (l ∷ ls) (suc n) = nth ls n

abbrev pub label_at : List ℕ → Content → Try ℕ
label_at ls (Whole (pos (suc n))) = nth ls n
label_at ls (Whole z) = Traps BadBranch
label_at ls _ = Fails

-- the label of an arithmetic IF
abbrev pub by_sign_of : ℕ → ℕ → ℕ → Content → Try ℕ
by_sign_of n m k (Whole (negsuc z)) = Yields n
by_sign_of n m k (Whole (pos zero)) = Yields m
by_sign_of n m k (Whole (pos (suc z))) = Yields k
by_sign_of n m k _ = Fails

-- RETURN, which in a main ends as STOP does
abbrev pub returned : Bool → World → Out Exit
returned true w = Halts (Ended Done) w
returned false w = Gives Back w

abbrev pub invoked : Setting → Option ℕ → (World → Out (List Spot)) → World → Out Exit
invoked s None spots w = Halts (Ended Wrong) w
invoked s (Some v) spots w = bind (spots w) (λ ps w1. bind (s.call v ps w1) (λ _ w2. Gives Normal w2))

-- one plain statement; of an assignment the place comes first, then the value, then the store
abbrev pub does : Setting → Frame → Act → World → Out Exit
does s f (Assign x e) w = bind (locate s f x w) (λ p w1. bind (value_of s f e w1) (λ v w2. bind (store_at s f p v w2) (λ _ w3. Gives Normal w3)))
does s f (Goto l) w = Gives (To l) w
does s f (Computed ls x) w = bind (variable_in s f x w) (λ v w1. bind (settle f.place (label_at ls v) w1) (λ l w2. Gives (To l) w2))
does s f (Sign e n m k) w = bind (value_of s f e w) (λ v w1. bind (settle f.place (by_sign_of n m k v) w1) (λ l w2. Gives (To l) w2))
does s f (Invoke x es) w = invoked s (s.linked.find x) (spots_of s f es) w
does s f Continue w = Gives Normal w
does s f (Stop None) w = Halts (Ended Done) w
does s f (Stop (Some n)) w = Halts (Ended (Stopped n)) w
does s f Return w = returned (is_main (around s f).header) w
does s f (Read u l es) w = record_by s f Reading u l es w
does s f (Write u l es) w = record_by s f Writing u l es w
does s f _ w = Gives Normal w
