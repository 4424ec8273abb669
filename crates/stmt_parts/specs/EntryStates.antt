-- The state of reading a list of READ or WRITE in memory, as plain data.
use Rattle.std.specs.Prelude.{ℕ, Bool, true, false, List, [], ◌∷◌, Vec, map, Option, Some, None}
use Rattle.std.specs.Global.{Global}
use Rattle.f66_tree.specs.declared.statement.Entry.{Entry}
use Rattle.f66_tree.specs.declared.editing.Way.{Way}
use Rattle.f66_tree.specs.declared.editing.Way.TheVariants.{Reading, Writing}
use Rattle.f66_tree.specs.Syntax as f66
use Rattle.f66_tree.specs.Views.{entry_of, par_of, listed}
use Rattle.stmt_parts.specs.declared.entry_stack.Lists as memory
use Rattle.stmt_parts.specs.declared.entry_stack.Few.{Few}
use Rattle.stmt_parts.specs.declared.entry_stack.Few.TheVariants as few
use Rattle.stmt_parts.specs.declared.entry_stack.Control.{Control}
use Rattle.stmt_parts.specs.declared.entry_stack.Control.TheVariants as control
use Rattle.stmt_parts.specs.declared.entry_stack.Stage.{Stage}
use Rattle.stmt_parts.specs.declared.entry_stack.Stage.TheVariants as stage
use Rattle.stmt_reader.specs.Entries.{Lists, State, Wants, Within, Behind, Counts, Counted, Lost}

abbrev pub entries_in : Vec Entry Global → List f66.Entry
entries_in list = map entry_of list.items

abbrev pub entries_if : Option (Vec Entry Global) → Option f66.Entries
entries_if None = None
entries_if (Some list) = Some (listed (entries_in list))

-- the innermost list first, before those below
abbrev pub around_onto : List (Vec Entry Global) → List (List f66.Entry) → List (List f66.Entry)
around_onto [] below = below
around_onto (list ∷ lists) below = around_onto lists (entries_in list ∷ below)

abbrev pub lists_of : memory.Lists → Lists
lists_of l = record { here = entries_in l.here; around = around_onto l.around.items [] }

abbrev pub few_of : Few → List f66.Par
few_of few.None = []
few_of (few.One a) = par_of a ∷ []
few_of (few.Two a b) = par_of a ∷ par_of b ∷ []

abbrev pub control_of : Control → List f66.Par
control_of (control.One a) = par_of a ∷ []
control_of (control.Two a b) = par_of a ∷ par_of b ∷ []
control_of (control.Three a b c) = par_of a ∷ par_of b ∷ par_of c ∷ []

abbrev pub state_of : Stage → Lists → State
state_of stage.Wants l = Wants l
state_of (stage.Within d tokens) l = Within l d tokens.items
state_of stage.Behind l = Behind l
state_of (stage.Counts x before) l = Counts l x (few_of before)
state_of (stage.Counted x pars) l = Counted l x (control_of pars)
state_of stage.Lost l = Lost

-- the parentheses that are open in an item
abbrev pub depth_of : Stage → ℕ
depth_of (stage.Within d tokens) = d
depth_of _ = 0

-- an item that was added, or not
abbrev pub added : Bool → Lists → Option Lists
added true l = Some l
added false l = None

-- a list with something in it
abbrev pub has_some : {A : Type 0} → List A → Bool
has_some [] = false
has_some (a ∷ all) = true

abbrev pub transfer_by : Way → f66.Par → ℕ → f66.Entries → f66.Act
transfer_by Reading u l es = f66.Read u l es
transfer_by Writing u l es = f66.Write u l es
