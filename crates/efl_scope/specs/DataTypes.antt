-- The data types of variables and members, how many places they have, and when two agree (Feldman, The Programming Language EFL:
-- data types and variables; common).
use Rattle.std.specs.Prelude.{ℕ, ◌+◌, ◌*◌, ℤ, pos, ◌-ℤ◌, unsigned_abs, int_lt, int_le, nat_lt, nat_le, Bool, true, false, not, ◌&&◌, ◌||◌, List, [], ◌∷◌, length, Option, Some, None, unwrap_or, if◌then◌else◌}
use Rattle.std.specs.List.{list_all}
use Rattle.ground.specs.declared.value.Kind.{Kind}
use Rattle.ground.specs.declared.value.Kind.TheVariants.{Integer, Logical}
use Rattle.efl_tree.specs.declared.declaration.EflBound.{EflBound}
use Rattle.efl_tree.specs.Syntax.{Text}

mutual
  pub data DataType : Type 0 where
    Scalar : Kind → DataType
    -- a structure, by its members in order
    Structured : Members → DataType
    Array : List EflBound → DataType → DataType
    -- real, complex, and a name that is no structure's
    NoType : DataType

  pub data Members : Type 0 where
    NoMember : Members
    AndMember : Text → DataType → Members → Members

-- ---- bounds and places ----

-- `u` is `1:u`
abbrev pub low_of : EflBound → ℤ
low_of b = unwrap_or b.low (pos 1)

-- an upper bound that isn't below the lower one
abbrev pub is_from : ℤ → Option ℤ → Bool
is_from low None = false
is_from low (Some high) = int_le low high

abbrev pub is_closed : EflBound → Bool
is_closed b = is_from (low_of b) b.high

-- how many subscripts are allowed; `*`, which is asked for apart, is counted as one
abbrev pub many_from : ℤ → Option ℤ → ℕ
many_from low None = 1
many_from low (Some high) = if int_lt high low then 0 else unsigned_abs (high -ℤ low) + 1

abbrev pub elements : List EflBound → ℕ
elements [] = 1
elements (b ∷ bs) = many_from (low_of b) b.high * elements bs

-- how many places something has: those of its members, and of its elements
abbrev mutual
  pub places : DataType → ℕ
  places (Scalar k) = 1
  places (Structured ms) = all_places ms
  places (Array bs t) = elements bs * places t
  places NoType = 0

  pub all_places : Members → ℕ
  all_places NoMember = 0
  all_places (AndMember x t ms) = places t + all_places ms

abbrev pub is_large : DataType → Bool
is_large t = nat_lt 32767 (places t)

-- ---- agreement ----

-- the type itself has no fault, and no member's has one
abbrev mutual
  pub is_sound : DataType → Bool
  is_sound (Scalar k) = true
  is_sound (Structured ms) = are_sound ms
  is_sound (Array bs t) = (nat_le (length bs) 7 && list_all is_closed bs) && is_sound t
  is_sound NoType = false

  pub are_sound : Members → Bool
  are_sound NoMember = true
  are_sound (AndMember x t ms) = (is_sound t && not (is_large t)) && are_sound ms

abbrev pub same_kind : Kind → Kind → Bool
same_kind Integer Integer = true
same_kind Logical Logical = true
same_kind _ _ = false

abbrev pub same_upper : Option ℤ → Option ℤ → Bool
same_upper None None = true
same_upper (Some a) (Some b) = int_le a b && int_le b a
same_upper _ _ = false

abbrev pub same_bounds : List EflBound → List EflBound → Bool
same_bounds [] [] = true
same_bounds (b ∷ bs) (c ∷ cs) = ((int_le (low_of b) (low_of c) && int_le (low_of c) (low_of b)) && same_upper b.high c.high) && same_bounds bs cs
same_bounds _ _ = false

-- structures are the same by the list of their members' types, names aside, arrays by all their bounds
abbrev mutual
  pub same_type : DataType → DataType → Bool
  same_type (Scalar j) (Scalar k) = same_kind j k
  same_type (Structured ms) (Structured ns) = same_members ms ns
  same_type (Array bs t) (Array cs u) = same_bounds bs cs && same_type t u
  same_type _ _ = false

  pub same_members : Members → Members → Bool
  same_members NoMember NoMember = true
  same_members (AndMember x t ms) (AndMember y u ns) = same_type t u && same_members ms ns
  same_members _ _ = false

-- what has a fault agrees with anything
abbrev pub is_faulty : DataType → Bool
is_faulty t = not (is_sound t) || is_large t

abbrev pub agrees : DataType → DataType → Bool
agrees t u = (is_faulty t || is_faulty u) || same_type t u

abbrev pub agree : List DataType → List DataType → Bool
agree [] [] = true
agree (t ∷ ts) (u ∷ us) = agrees t u && agree ts us
agree _ _ = false
