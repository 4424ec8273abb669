-- A layout of a program: the code of its units one behind the other, and what they keep by who calls whom.
use Rattle.std.specs.Prelude.{ℕ, ◌+◌, ◌<◌, ◌≤◌, max, nat_eq, nat_lt, List, [], ◌∷◌, length, if◌then◌else◌}
use Rattle.ground.specs.Content.{Content}
use Rattle.f66_tree.specs.Syntax.{Line}
use Rattle.f66_tree.specs.Units.{Context, Linkage}
use Rattle.code_gen.specs.Layout.{Layout}
use Rattle.code_gen.specs.Statements.{unit_size}
use Rattle.code_gen.specs.Coded.{top, act_room, HasRoom}
use Rattle.code_gen.specs.Behaves.{IsAmong, AreEntered}

-- the most spare units that a statement takes
abbrev pub most_room : Context → List Line → ℕ
most_room c [] = 0
most_room c (s ∷ rest) = max (act_room c s.act) (most_room c rest)

-- how many storage units a unit takes besides those of its names
abbrev pub need : Linkage → (ℕ → List Line) → ℕ → ℕ
need l lines u = most_room (l.context u) (lines u) + (length (lines u) + length (lines u))

-- the sizes of those that stand before one in a list
abbrev pub before : (ℕ → ℕ) → List ℕ → ℕ → ℕ
before size [] u = 0
before size (v ∷ vs) u = if nat_eq u v then 0 else (size v + before size vs u)

-- the sizes of those whose rank is less
abbrev pub beneath : (ℕ → ℕ) → (ℕ → ℕ) → List ℕ → ℕ → ℕ
beneath rank size [] n = 0
beneath rank size (v ∷ vs) n = if nat_lt (rank v) n then (size v + beneath rank size vs n) else beneath rank size vs n

-- What units keep lies above a bound, and above what the units of lesser rank keep. Units of one rank never run at once.
abbrev pub spread : Linkage → (ℕ → List Line) → (ℕ → ℕ → ℕ) → List (ℕ × Content) → ℕ → (ℕ → ℕ) → List ℕ → Layout
spread l lines plan presets bound rank us =
    record {
      linked = l;
      lines = lines;
      entry = λ u. 0;
      plan = plan;
      spare = λ u. bound + beneath rank (need l lines) us (rank u);
      loops = λ u. bound + beneath rank (need l lines) us (rank u) + most_room (l.context u) (lines u);
      presets = presets;
    }

-- the code of these units stands one behind the other
abbrev pub with_entries : Layout → (ℕ → ℕ) → Layout
with_entries y entry =
    record { linked = y.linked; lines = y.lines; entry = entry; plan = y.plan; spare = y.spare; loops = y.loops; presets = y.presets }

abbrev pub layout : Linkage → (ℕ → List Line) → (ℕ → ℕ → ℕ) → List (ℕ × Content) → ℕ → (ℕ → ℕ) → List ℕ → Layout
layout l lines plan presets bound rank us =
    with_entries (spread l lines plan presets bound rank us) (before (unit_size (spread l lines plan presets bound rank us)) us)

abbrev pub AreDistinct : List ℕ → Type 0
AreDistinct [] = Unit {0}
AreDistinct (u ∷ us) = (IsAmong u us → ⊥) × AreDistinct us

-- what is asked of a layout: the entries, the room of each unit, and that a unit lies below those of greater rank
pub record LaysOut (y : Layout) (bound : ℕ) (rank : ℕ → ℕ) (us : List ℕ) : Type 0 where
  pub entered : AreEntered y 0 us
  pub above : (u : ℕ) → bound ≤ y.spare u
  pub below : (u : ℕ) → y.spare u ≤ y.loops u
  pub room : (u : ℕ) → HasRoom y u (y.lines u)
  pub calls : (v u : ℕ) → IsAmong v us → rank v < rank u → top y v ≤ y.spare u

-- the layout of distinct units is one
abbrev pub LayoutFits : Type 0
LayoutFits =
    (l : Linkage) (lines : ℕ → List Line) (plan : ℕ → ℕ → ℕ) (presets : List (ℕ × Content)) (bound : ℕ) (rank : ℕ → ℕ) (us : List ℕ) → AreDistinct us → LaysOut (layout l lines plan presets bound rank us) bound rank us
