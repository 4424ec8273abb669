-- The words in which one unit and its code are compared, at one bound.
use Rattle.std.proofs.Common.{◌≡◌, true, ℕ, ◌+◌, ◌*◌, ◌≤◌, List, length, Some, None}
use Rattle.f66_tree.specs.Syntax.{Text, Line}
use Rattle.f66_tree.specs.World.{State, World}
use Rattle.f66_tree.specs.Units.{Setting, Frame}
use Rattle.f66_tree.specs.Execution.{from_label}
use Rattle.f66_tree.proofs.Comes.{Part}
use Rattle.rat_tree.specs.Syntax.{Command, Commands}
use Rattle.rat_tree.specs.Meaning.{Flow, stands, meaning, run_from}
use Rattle.rat_lower.specs.Code.{Rings, code_of, all_code}
use Rattle.rat_lower.proofs.Simulation.Spared.{Lowering, own_name, code, F}
use Rattle.rat_lower.proofs.Simulation.Follows.{Extra, Calls, Run, Follows}
use Rattle.rat_lower.proofs.Simulation.Counts.{ends, heads, all_heads}
use Rattle.rat_lower.proofs.Simulation.Labels.{Within}
use Rattle.rat_lower.proofs.Simulation.Idle.{idle, credit}
use Rattle.rat_lower.proofs.Simulation.Parts.{Src}

pub record Words : Type 1 where
  -- the setting of the source, and the frame of both
  pub So : Setting
  pub f0 : Frame
  -- the code of the target, and that of a command and of a list
  pub co : List Line
  pub cd : Command → ℕ → Rings → List Line → List Line
  pub acd : Commands → ℕ → Rings → List Line → List Line
  -- what the target does from some statements on, and when that follows the source
  pub R : List Line → Extra → Part
  pub Fo : (m top : ℕ) (ls : Rings) (pr : Extra) (t : Part) (s : State) (x : ℕ) (next : List Line) (o : Flow) → Type 0
  -- what is proved of a command, of a list from its start, and of a list from a label that stands directly in it
  pub Right : Command → Type 0
  pub AllRight : Commands → Type 0
  pub FromRight : Commands → Type 0

module _ (g : Lowering) (b : ℕ) (call : Calls g b) (made : ℕ → ℕ) (spare : Text) where
  abbrev pub words : Words
  words = record {
    So = Src g b call;
    f0 = F g;
    co = code g;
    cd = λ s n ls next. code_of made spare (own_name g) s n ls next;
    acd = λ ss n ls next. all_code made spare (own_name g) ss n ls next;
    R = λ rest pr. Run g rest pr;
    Fo = λ m top ls pr t s x next o. Follows g 1 m top ls pr t s x next o;
    Right = λ s.
        (n : ℕ) (ls : Rings) (next : List Line) → Within (code_of made spare (own_name g) s n ls next) (code g) → ((q : ℕ) → ends q (code g) + heads made q s n ≤ 1) → (top : ℕ) → length (code_of made spare (own_name g) s n ls next) ≤ top →
        (pr : Extra) (w : World) (x : ℕ) → x ≤ credit (idle s) + 32 * w.count → Follows g 1 b top ls pr (Run g (code_of made spare (own_name g) s n ls next) pr) w.state x next (meaning (Src g b call) (F g) b s w);
    AllRight = λ ss.
        (n : ℕ) (ls : Rings) (next : List Line) → Within (all_code made spare (own_name g) ss n ls next) (code g) → ((q : ℕ) → ends q (code g) + all_heads made q ss n ≤ 1) → (top : ℕ) → length (all_code made spare (own_name g) ss n ls next) ≤ top →
        (pr : Extra) (w : World) (x : ℕ) → x ≤ 32 * w.count → Follows g 1 b top ls pr (Run g (all_code made spare (own_name g) ss n ls next) pr) w.state x next (run_from (Src g b call) (F g) b ss None w);
    FromRight = λ ss.
        (q0 : ℕ) → stands q0 ss ≡ true → (n : ℕ) (ls : Rings) (next : List Line) → Within (all_code made spare (own_name g) ss n ls next) (code g) → ((q : ℕ) → ends q (code g) + all_heads made q ss n ≤ 1) → (top : ℕ) → length (all_code made spare (own_name g) ss n ls next) ≤ top →
        (pr : Extra) (w : World) (x : ℕ) → x ≤ 32 * w.count → Follows g 1 b top ls pr (Run g (from_label q0 (code g)) pr) w.state x next (run_from (Src g b call) (F g) b ss (Some q0) w);
  }
