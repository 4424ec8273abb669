-- How long the code of lists and statements is, wherever it stands.
use Rattle.std.proofs.Common.{◌≡◌, ℕ, suc, ◌+◌, List, [], ◌∷◌, ◌++◌, length, refl, arith, length-append}
use Rattle.ground.specs.declared.place.Place.{Place}
use Rattle.f66_tree.specs.declared.editing.Way.{Way}
use Rattle.f66_tree.specs.declared.editing.Way.TheVariants.{Reading, Writing}
use Rattle.f66_tree.specs.Syntax.{Text, Par, Entry, One, Many, Entries, NoEntry, AndEntry, Act, Assign, Goto, Computed, Sign, When, Loop, Invoke, Stop, Return, Read, Write}
use Rattle.f66_tree.specs.Execution.{Closer}
use Rattle.stack_code.specs.Instructions as i
use Rattle.stack_code.specs.Instructions.{Instruction}
use Rattle.code_gen.specs.Layout.{Layout}
use Rattle.code_gen.specs.Expressions.{base_code, par_code, value_code, place_code}
use Rattle.code_gen.specs.Statements.{start_code, start_size, item_code, items_code, items_size, entry_code, entry_size, record_code, record_size, limit_unit, step_unit, act_size, act_code, turns_size, turns_code}

pub start_length : (y : Layout) (u : ℕ) (x : Text) (a b d : Par) (limit step : ℕ) → length (start_code y u x a b d limit step) ≡ start_size y u a b d
start_length y u x a b d limit step =
    let last = i.LoopStart limit step ∷ [] in
    omega (arith, length-append (par_code y u a) (par_code y u b ++ (par_code y u d ++ last)), length-append (par_code y u b) (par_code y u d ++ last), length-append (par_code y u d) last)

mutual
  pub items_length : (y : Layout) (u : ℕ) (way : Way) (at : ℕ) (es : Entries) → length (items_code y u way at es) ≡ items_size y u way es
  items_length y u way at NoEntry = refl
  items_length y u way at (AndEntry e es) =
      omega (arith, length-append (entry_code y u way at e) (items_code y u way (at + entry_size y u way e) es), entry_length y u way at e, items_length y u way (at + entry_size y u way e) es)

  pub entry_length : (y : Layout) (u : ℕ) (way : Way) (at : ℕ) (e : Entry) → length (entry_code y u way at e) ≡ entry_size y u way e
  entry_length y u way at (One e) = refl
  entry_length y u way at (Many es x a b d) =
      let q = y.spare u + Rattle.code_gen.specs.Statements.entries_room (y.linked.context u) es in
      let turn = at + start_size y u a b d in
      let items = items_code y u way (suc turn) es in
      let last = base_code y u x ∷ i.LoopTurn q (suc q) turn ∷ [] in
      omega (arith, length-append (start_code y u x a b d q (suc q)) (i.Step ∷ (items ++ last)), start_length y u x a b d q (suc q), length-append items last, items_length y u way (suc turn) es)

pub record_length : (y : Layout) (u : ℕ) (way : Way) (at : ℕ) (a : Par) (plan : ℕ) (es : Entries) → length (record_code y u way at a plan es) ≡ record_size y u way a es
record_length y u way at a plan es =
    let items = items_code y u way (suc (at + length (par_code y u a))) es in
    omega (arith, length-append (par_code y u a) (i.Start way plan ∷ (items ++ i.Finish ∷ [])), length-append items (i.Finish ∷ []), items_length y u way (suc (at + length (par_code y u a))) es)

pub act_length : (y : Layout) (u key next : ℕ) (place : Place) (a : Act) → length (act_code y u key next place a) ≡ act_size y u a
act_length y u key next place (Assign x e) = omega (arith, length-append (place_code y u x) (value_code y u e ++ i.Store ∷ []), length-append (value_code y u e) (i.Store ∷ []))
act_length y u key next place (Goto l) = refl
act_length y u key next place (Computed ls x) = refl
act_length y u key next place (Sign e n m k) = length-append (value_code y u e) _
act_length y u key next place (When e a) =
    let inner = act_code y u key next place a in
    omega (arith, length-append (value_code y u e) (i.JumpFalse next ∷ i.Begin place ∷ inner), act_length y u key next place a)
act_length y u key next place (Loop l x a b d) = start_length y u x a b d (limit_unit y u key) (step_unit y u key)
act_length y u key next place (Invoke x es) = refl
act_length y u key next place (Stop n) = refl
act_length y u key next place Return = refl
act_length y u key next place (Read a l es) = record_length y u Reading _ a (y.plan u l) es
act_length y u key next place (Write a l es) = record_length y u Writing _ a (y.plan u l) es
act_length y u key next place _ = refl

pub turns_length : (y : Layout) (u : ℕ) (ks : List Closer) → length (turns_code y u ks) ≡ turns_size ks
turns_length y u [] = refl
turns_length y u (k ∷ ks) = let ih = turns_length y u ks in omega arith
