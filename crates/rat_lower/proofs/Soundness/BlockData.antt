-- BLOCK DATA has specifications and DATA alone where its source does.
use Rattle.std.proofs.Common.{◌≡◌, ℕ, ◌+◌, Bool, true, false, true≢false, List, [], ◌∷◌, Option, Some, None, refl}
use Rattle.ground.specs.declared.place.Place.{Place}
use Rattle.f66_tree.specs.Syntax.{Text, Header, MainUnit, SubUnit, FuncUnit, DataUnit, Line}
use Rattle.f66_tree.specs.Units.{is_main, name_of}
use Rattle.rat_tree.specs.Syntax.{Command, Empty, Block, If, IfElse, While, For, Repeat, RepeatUntil, Do, Switch, Break, Next, Return, Plain, Labelled, Commands, NoCommand, AndCommand}
use Rattle.rat_check.specs.Parts.{Statement, Labels, Part, part, with_labels, parts_of, parts_in}
use Rattle.rat_check.specs.Rules.{is_misplaced_form}
use Rattle.rat_lower.specs.Code.{Rings, labels, code_of, all_code, ends_itself, end_unless, declared_if}
use Rattle.rat_lower.proofs.Accepted.NoFault.{AllParts, split, unmarked}
use Rattle.rat_lower.proofs.Soundness.Kept.{AllSay}
use Rattle.rat_lower.proofs.Soundness.FlowRules.{IsPlaced}

-- a part that a unit of this kind has
abbrev pub IsPlacedPart : Header → Part → Type 0
IsPlacedPart h v = is_misplaced_form h v.label v.form ≡ false

abbrev P : Part → Type 0
P = IsPlacedPart DataUnit

-- no label stands before a statement that is not plain
none_labelled : (c : Command) (k : ℕ) (r : Labels) (m : ℕ) → AllParts P (parts_of k r (Some m) c) → ⊥
none_labelled (Empty p) k r m h = true≢false h.0
none_labelled (Block p ss) k r m h = true≢false h.0
none_labelled (If p e c) k r m h = true≢false h.0
none_labelled (IfElse p e c d) k r m h = true≢false h.0
none_labelled (While p e c) k r m h = true≢false h.0
none_labelled (For p a e b c) k r m h = true≢false h.0
none_labelled (Repeat p c) k r m h = true≢false h.0
none_labelled (RepeatUntil p c e q) k r m h = true≢false h.0
none_labelled (Do p x a b d c) k r m h = true≢false h.0
none_labelled (Switch p e cs) k r m h = true≢false h.0
none_labelled (Break p n) k r m h = true≢false h.0
none_labelled (Next p n) k r m h = true≢false h.0
none_labelled (Return p e) k r m h = true≢false h.0
none_labelled (Plain n p a) k r m h = true≢false h.0
none_labelled (Labelled n p c) k r m h = true≢false h.0

module _ (made : ℕ → ℕ) (spare own : Text) where
  abbrev All : List Line → Type 0
  All = AllSay (IsPlaced DataUnit)

  mutual
    placed : (c : Command) (k : ℕ) (r : Labels) (o : Option ℕ) (n : ℕ) (ls : Rings) (next : List Line) → AllParts P (parts_of k r o c) → All next → All (code_of made spare own c n ls next)
    placed (Empty p) k r o n ls next h rest = rest
    placed (Block p ss) k r o n ls next h rest = placed_all ss k (with_labels ss r) n ls next h.1 rest
    placed (Plain m p a) k r o n ls next h rest = ((unmarked P k r o p (part k r m p (Statement a) ∷ []) h).0, rest)
    placed (Labelled m p c) k r o n ls next h rest = absurd (none_labelled c k r m (unmarked P k r o p (parts_of k r (Some m) c) h))
    placed (If p e c) k r o n ls next h rest = absurd (true≢false h.0)
    placed (IfElse p e c d) k r o n ls next h rest = absurd (true≢false h.0)
    placed (While p e c) k r o n ls next h rest = absurd (true≢false h.0)
    placed (For p a e b c) k r o n ls next h rest = absurd (true≢false h.0)
    placed (Repeat p c) k r o n ls next h rest = absurd (true≢false h.0)
    placed (RepeatUntil p c e q) k r o n ls next h rest = absurd (true≢false h.0)
    placed (Do p x a b d c) k r o n ls next h rest = absurd (true≢false h.0)
    placed (Switch p e cs) k r o n ls next h rest = absurd (true≢false h.0)
    placed (Break p m) k r o n ls next h rest = absurd (true≢false h.0)
    placed (Next p m) k r o n ls next h rest = absurd (true≢false h.0)
    placed (Return p e) k r o n ls next h rest = absurd (true≢false h.0)

    placed_all : (ss : Commands) (k : ℕ) (r : Labels) (n : ℕ) (ls : Rings) (next : List Line) → AllParts P (parts_in k r ss) → All next → All (all_code made spare own ss n ls next)
    placed_all NoCommand k r n ls next h rest = rest
    placed_all (AndCommand c ss) k r n ls next h rest =
        let both = split P (parts_of k r None c) (parts_in k r ss) h in
        placed c k r None n ls (all_code made spare own ss (n + labels c) ls next) both.0 (placed_all ss k r (n + labels c) ls next both.1 rest)

  declared : (v : Bool) (first : Place) (code : List Line) → All code → All (declared_if v first spare code)
  declared true first code h = (refl, h)
  declared false first code h = h

-- in a unit of another kind each statement may stand
module _ (h : Header) (any : (a : _) → IsPlaced h a) where
  any_placed : (code : List Line) → AllSay (IsPlaced h) code
  any_placed [] = tt
  any_placed (s ∷ rest) = (any s.act, any_placed rest)

-- the statements of a unit of any kind
module _ (made : ℕ → ℕ) (spare : Text) (first last : Place) (ss : Commands) (v : Bool) (r : Labels) where
  abbrev unit_of : Header → List Line
  unit_of h = declared_if v first spare (all_code made spare (name_of h) ss 0 [] (end_unless (is_main h) (ends_itself h (all_code made spare (name_of h) ss 0 [] [])) last))

  pub unit_placed : (h : Header) → AllParts (IsPlacedPart h) (parts_in 0 r ss) → AllSay (IsPlaced h) (unit_of h)
  unit_placed MainUnit k = any_placed MainUnit (λ a. refl) (unit_of MainUnit)
  unit_placed (SubUnit x ds) k = any_placed (SubUnit x ds) (λ a. refl) (unit_of (SubUnit x ds))
  unit_placed (FuncUnit t x ds) k = any_placed (FuncUnit t x ds) (λ a. refl) (unit_of (FuncUnit t x ds))
  unit_placed DataUnit k = declared made spare (name_of DataUnit) v first (all_code made spare (name_of DataUnit) ss 0 [] []) (placed_all made spare (name_of DataUnit) ss 0 r 0 [] [] k tt)
