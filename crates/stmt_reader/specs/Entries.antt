-- The lists of READ and WRITE from tokens (X3.9-1966, section 7.1.3): a machine whose frames are the implied DOs that are open.
use Rattle.std.specs.Prelude.{ℕ, zero, suc, pos, List, [], ◌∷◌, ◌++◌, Option, Some, None}
use Rattle.f66_tree.specs.Syntax.{Text, Par, Constant, Entry, One, Many, Entries, NoEntry, Act}
use Rattle.f66_tree.specs.Views.{listed}
use Rattle.stmt_reader.specs.declared.token.Token.{Token}
use Rattle.stmt_reader.specs.declared.token.Token.TheVariants as t
use Rattle.stmt_reader.specs.Machine.{expression_of}
use Rattle.stmt_reader.specs.Taking.{then_if, par_if, place_if}

-- the entries before, in the innermost list and in those around it
pub record Lists : Type 0 where
  pub here : List Entry
  pub around : List (List Entry)

-- what may come next
pub data State : Type 0 where
  -- an entry
  Wants : Lists → State
  -- more of an item, with so many parentheses open in it
  Within : Lists → ℕ → List Token → State
  -- a comma or the end behind an entry
  Behind : Lists → State
  -- parameters of an implied DO behind its variable: those before, and then a comma or its end
  Counts : Lists → Text → List Par → State
  Counted : Lists → Text → List Par → State
  Lost : State

abbrev pub add : Lists → Entry → Lists
add l e = record { here = l.here ++ e ∷ []; around = l.around }

abbrev pub add_item : Lists → List Token → Option Lists
add_item l tokens = then_if (expression_of tokens) (λ e. then_if (place_if e) (λ x. Some (add l (One x))))

abbrev pub wants_if : Option Lists → State
wants_if None = Lost
wants_if (Some l) = Wants l

-- a lone name behind an entry, within parentheses, is the variable of an implied DO
abbrev pub control_in : Lists → List Entry → List (List Entry) → List Token → State
control_in l (e ∷ es) (a ∷ around) (t.Word x ∷ []) = Counts l x []
control_in l _ _ _ = Lost

abbrev pub begin_control : Lists → List Token → State
begin_control l tokens = control_in l l.here l.around tokens

abbrev pub counts : Lists → Text → List Par → Option Par → State
counts l x before None = Lost
counts l x before (Some p) = Counted l x (before ++ p ∷ [])

-- another parameter comes where fewer than three stand
abbrev pub more_counts : Lists → Text → List Par → State
more_counts l x (a ∷ []) = Counts l x (a ∷ [])
more_counts l x (a ∷ b ∷ []) = Counts l x (a ∷ b ∷ [])
more_counts l x _ = Lost

abbrev pub closed_in : Entry → List (List Entry) → State
closed_in e [] = Lost
closed_in e (a ∷ around) = Behind (record { here = a ++ e ∷ []; around = around })

abbrev pub close_with : Lists → (Entries → Entry) → State
close_with l made = closed_in (made (listed l.here)) l.around

abbrev pub close_control : Lists → Text → List Par → State
close_control l x (a ∷ b ∷ []) = close_with l (λ es. Many es x a b (Constant (pos 1)))
close_control l x (a ∷ b ∷ c ∷ []) = close_with l (λ es. Many es x a b c)
close_control l x _ = Lost

abbrev pub step : State → Token → State
step (Wants l) t.Open = Wants (record { here = []; around = l.here ∷ l.around })
step (Wants l) (t.Word x) = Within l zero (t.Word x ∷ [])
step (Within l zero tokens) t.Comma = wants_if (add_item l tokens)
step (Within l zero tokens) t.Equals = begin_control l tokens
step (Within l zero tokens) t.Open = Within l (suc zero) (tokens ++ t.Open ∷ [])
step (Within l (suc d) tokens) t.Open = Within l (suc (suc d)) (tokens ++ t.Open ∷ [])
step (Within l (suc d) tokens) t.Close = Within l d (tokens ++ t.Close ∷ [])
step (Within l (suc d) tokens) token = Within l (suc d) (tokens ++ token ∷ [])
step (Behind l) t.Comma = Wants l
step (Counts l x before) token = counts l x before (par_if token)
step (Counted l x before) t.Comma = more_counts l x before
step (Counted l x before) t.Close = close_control l x before
step _ token = Lost

abbrev pub run : State → List Token → State
run s [] = s
run s (token ∷ tokens) = run (step s token) tokens

abbrev pub all_in : List Entry → List (List Entry) → Option Entries
all_in es [] = Some (listed es)
all_in es (a ∷ around) = None

abbrev pub all_of : Lists → Option Entries
all_of l = all_in l.here l.around

abbrev pub final : State → Option Entries
final (Within l zero tokens) = then_if (add_item l tokens) all_of
final (Behind l) = all_of l
final _ = None

-- a list, which may be empty
abbrev pub entries_of : List Token → Option Entries
entries_of [] = Some NoEntry
entries_of (token ∷ tokens) = final (run (Wants (record { here = []; around = [] })) (token ∷ tokens))

-- (u,n) and a list, behind READ or WRITE
abbrev pub record_of : (Par → ℕ → Entries → Act) → List Token → Option Act
record_of made (t.Open ∷ u ∷ t.Comma ∷ t.Number l ∷ t.Close ∷ tokens) = then_if (par_if u) (λ p. then_if (entries_of tokens) (λ es. Some (made p l es)))
record_of made _ = None
