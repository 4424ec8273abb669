-- How the tokens of an expression are taken one by one.
use Rattle.std.specs.Prelude.{ℕ, pos, nat_le, nat_lt, List, [], ◌∷◌, ◌++◌, Option, Some, None, if◌then◌else◌}
use Rattle.f66_tree.specs.declared.expression.Operator.{Operator}
use Rattle.f66_tree.specs.declared.expression.Operator.TheVariants.{Add, Sub}
use Rattle.f66_tree.specs.Syntax.{Text, Formula, Int, Truth, Ref, Item, Group, Plus, Minus, Not, Pair}
use Rattle.f66_tree.specs.Views.{chained}
use Rattle.stmt_reader.specs.declared.token.Token.{Token}
use Rattle.stmt_reader.specs.declared.token.Token.TheVariants as t
use Rattle.stmt_reader.specs.Levels.{level, left_level, right_level}

-- what waits for an operand that has just begun: the innermost first
pub data Frame : Type 0 where
  Before : Operator → Formula → Frame
  Raised : Frame
  Lowered : Frame
  Denied : Frame
  Opened : Frame
  -- a name with a parenthesis, and the arguments before
  Within : Text → List Formula → Frame

-- an operand is wanted; or one is there, which is a prime; or no expression begins so
pub data State : Type 0 where
  Wants : List Frame → State
  Has : Formula → List Frame → State
  Stuck : State

-- the level at which the operand of a frame stands
abbrev pub floor_of : Frame → ℕ
floor_of (Before op a) = right_level op
floor_of Raised = 5
floor_of Lowered = 5
floor_of Denied = 3
floor_of Opened = 0
floor_of (Within x before) = 0

abbrev pub floor : List Frame → ℕ
floor [] = 0
floor (f ∷ fs) = floor_of f

-- what an operator's frame makes of its operand
abbrev pub closed : Frame → Formula → Formula
closed (Before op a) b = Pair op a b
closed Raised b = Plus b
closed Lowered b = Minus b
closed Denied b = Not b
closed Opened b = Group b
closed (Within x before) b = b

-- the operand, after the frames above this level are closed
abbrev pub reduced : ℕ → List Frame → Formula → State
reduced n [] a = Has a []
reduced n (f ∷ fs) a = if nat_lt n (floor_of f) then reduced n fs (closed f a) else Has a (f ∷ fs)

abbrev pub unless_above : List Frame → ℕ → Frame → State
unless_above fs n f = if nat_le (floor fs) n then Wants (f ∷ fs) else Stuck

-- an operator behind an operand
abbrev pub joint : Operator → State → State
joint op (Has a fs) = unless_above fs (level op) (Before op a)
joint op (Wants fs) = Stuck
joint op Stuck = Stuck

abbrev pub comma : State → State
comma (Has a (Within x before ∷ fs)) = Wants (Within x (before ++ a ∷ []) ∷ fs)
comma _ = Stuck

abbrev pub close : State → State
close (Has a (Opened ∷ fs)) = Has (Group a) fs
close (Has a (Within x before ∷ fs)) = Has (Item x (chained (before ++ a ∷ []))) fs
close _ = Stuck

-- a parenthesis behind a name
abbrev pub within : Formula → List Frame → State
within (Ref x) fs = Wants (Within x [] ∷ fs)
within _ fs = Stuck

-- a sign before an operand
abbrev pub sign : Operator → List Frame → State
sign Add fs = unless_above fs 4 Raised
sign Sub fs = unless_above fs 4 Lowered
sign _ fs = Stuck

abbrev pub step : State → Token → State
step (Wants fs) (t.Word x) = Has (Ref x) fs
step (Wants fs) (t.Number n) = Has (Int (pos n)) fs
step (Wants fs) (t.Truth b) = Has (Truth b) fs
step (Wants fs) t.Not = unless_above fs 2 Denied
step (Wants fs) (t.Joint op) = sign op fs
step (Wants fs) t.Open = Wants (Opened ∷ fs)
step (Wants fs) _ = Stuck
step (Has a fs) (t.Joint op) = joint op (reduced (left_level op) fs a)
step (Has a fs) t.Open = within a fs
step (Has a fs) t.Comma = comma (reduced 0 fs a)
step (Has a fs) t.Close = close (reduced 0 fs a)
step (Has a fs) _ = Stuck
step Stuck token = Stuck

abbrev pub run : State → List Token → State
run s [] = s
run s (token ∷ tokens) = run (step s token) tokens

-- the expression that is there, if no frame waits any more
abbrev pub whole : State → Option Formula
whole (Has a []) = Some a
whole _ = None

abbrev pub final : State → Option Formula
final (Has a fs) = whole (reduced 0 fs a)
final _ = None

-- the expression that tokens spell
abbrev pub expression_of : List Token → Option Formula
expression_of tokens = final (run (Wants []) tokens)
