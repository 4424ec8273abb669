-- What is done at an entry: the main's initial values are stored, and another unit forgets the loops of an earlier call.
use Rattle.std.proofs.Common.{◌≡◌, cond, nat_eq, Bool, true, false, ℕ, suc, ◌+◌, ◌≤◌, inl, inr, List, [], ◌∷◌, length, refl, sym, ◌∙◌, subst, arith}
use Rattle.ground.specs.Content.{Content, Nothing}
use Rattle.f66_tree.specs.Syntax.{Act, Loop, Line}
use Rattle.f66_tree.specs.World.{Store, put_in, World, holding, Shown}
use Rattle.stack_code.specs.Instructions as i
use Rattle.stack_code.specs.Instructions.{Instruction}
use Rattle.stack_code.specs.StackMachine.{Entry, Val, At, Frame, Caller, Program, spot}
use Rattle.code_gen.specs.Layout.{Layout}
use Rattle.code_gen.specs.Statements.{limit_unit, step_unit, preset_code, reset_by, reset_code}
use Rattle.code_gen.specs.Coded.{top}
use Rattle.code_gen.specs.Behaves.{IsAmong, filled, AreBelow}
use Rattle.code_gen.proofs.Steps.{HasAt, at, Comes, does_one, moved}
use Rattle.code_gen.proofs.Sights.{Seen, put_in_kept, put_here, put_other}
use Rattle.code_gen.proofs.Keys.{key_by, loop_keys}

-- units that no initial value has keep what they held
pub filled_other : (bound : ℕ) (ps : List (ℕ × Content)) → AreBelow bound ps → (st : Store) (q : ℕ) → bound ≤ q → filled ps st q ≡ st q
filled_other bound [] h st q le = refl
filled_other bound (p ∷ ps) h st q le =
    let lt = h.0 in
    filled_other bound ps h.1 (put_in p.0 p.1 st) q le ∙ put_other p.0 q p.1 st (λ e. omega arith)

clear_by : (b : Bool) (v : Content) → v ≡ Nothing → cond b Nothing v ≡ Nothing
clear_by true v h = refl
clear_by false v h = h

clear : (q r : ℕ) (st : Store) → st r ≡ Nothing → put_in q Nothing st r ≡ Nothing
clear q r st h = clear_by (nat_eq r q) (st r) h

among_by : (P : ℕ → Type 0) (key : ℕ) (keys : List ℕ) → P key → ((j : ℕ) → IsAmong j keys → P j) → (j : ℕ) → IsAmong j (key ∷ keys) → P j
among_by P key keys here more j (inl e) = subst P (sym e) here
among_by P key keys here more j (inr m) = more j m

module _ (c : Program) (stack : List Entry) (f : Frame) (callers : List Caller) where
  forget_run : (q pc : ℕ) (more : List Instruction) (m : World) (a : Shown) → HasAt c.code pc (i.PushSpot q 1 ∷ i.Forget ∷ more) → Comes c (at (pc + 1 + 1) stack f callers) (holding (put_in q Nothing m.state.store) m) a → Comes c (at pc stack f callers) m a
  forget_run q pc more m a has go =
      let e : q ≡ q + 0 = omega arith in
      does_one c (at pc stack f callers) m _ _ has.0 (does_one c (at (pc + 1) (At (spot q 1 false) ∷ stack) f callers) m _ _ has.1.0 (subst (λ z. Comes c (at (pc + 1 + 1) stack f callers) (holding (put_in z Nothing m.state.store) m) a) e go))

  -- the initial values are stored
  pub presets_run : (ps : List (ℕ × Content)) (pc : ℕ) (m : World) (a : Shown) → HasAt c.code pc (preset_code ps) → Comes c (at (pc + length (preset_code ps)) stack f callers) (holding (filled ps m.state.store) m) a → Comes c (at pc stack f callers) m a
  presets_run [] pc m a has go = let e : pc ≡ pc + 0 = omega arith in moved c _ _ stack f callers m a e go
  presets_run (p ∷ ps) pc m a has go =
      let e : p.0 ≡ p.0 + 0 = omega arith in
      let end : pc + 1 + 1 + 1 + length (preset_code ps) ≡ pc + suc (suc (suc (length (preset_code ps)))) = omega arith in
      let m1 = holding (put_in p.0 p.1 m.state.store) m in
      let rest = presets_run ps (pc + 1 + 1 + 1) m1 a has.1.1.1 (moved c _ _ stack f callers _ a end go) in
      does_one c (at pc stack f callers) m _ _ has.0 (does_one c (at (pc + 1) (At (spot p.0 1 false) ∷ stack) f callers) m _ _ has.1.0 (does_one c (at (pc + 1 + 1) (Val p.1 ∷ At (spot p.0 1 false) ∷ stack) f callers) m _ _ has.1.1.0 (subst (λ z. Comes c (at (pc + 1 + 1 + 1) stack f callers) (holding (put_in z p.1 m.state.store) m) a) e rest)))

  module _ (y : Layout) (bound u : ℕ) (low : bound ≤ y.loops u) (hold : Store) (w : World) where
    abbrev Kept : World → Type 0
    Kept m = Seen y.linked bound (top y u) hold w m

    -- what was undefined is, and the units of these DO statements are
    pub record Forgets (keys : List ℕ) (old new : Store) : Type 0 where
      pub stays : (q : ℕ) → old q ≡ Nothing → new q ≡ Nothing
      pub limits : (j : ℕ) → IsAmong j keys → new (limit_unit y u j) ≡ Nothing
      pub steps : (j : ℕ) → IsAmong j keys → new (step_unit y u j) ≡ Nothing

    resets_by : (a : Act) (key : ℕ) (keys : List ℕ) (more : List Instruction) → suc key ≤ length (y.lines u) → (pc : ℕ) (m : World) (b : Shown) → HasAt c.code pc (reset_by y u a key more) → Kept m → ((pc1 : ℕ) (m1 : World) → HasAt c.code pc1 more → Kept m1 → ((m2 : World) → Kept m2 → Forgets keys m1.state.store m2.state.store → Comes c (at (pc1 + length more) stack f callers) m2 b) → Comes c (at pc1 stack f callers) m1 b) → ((m2 : World) → Kept m2 → Forgets (key_by a key keys) m.state.store m2.state.store → Comes c (at (pc + length (reset_by y u a key more)) stack f callers) m2 b) → Comes c (at pc stack f callers) m b
    resets_by (Loop l x d1 d2 d3) key keys more long pc m b has kept run_rest go =
        let limit = limit_unit y u key in
        let step = step_unit y u key in
        let m1 = holding (put_in limit Nothing m.state.store) m in
        let m2 = holding (put_in step Nothing m1.state.store) m1 in
        let kept1 : Kept m1 = put_in_kept y.linked bound (top y u) hold w m kept limit (omega arith) (omega arith) Nothing in
        let kept2 : Kept m2 = put_in_kept y.linked bound (top y u) hold w m1 kept1 step (omega arith) (omega arith) Nothing in
        let end : pc + 1 + 1 + 1 + 1 + length more ≡ pc + suc (suc (suc (suc (length more)))) = omega arith in
        forget_run limit pc (i.PushSpot step 1 ∷ i.Forget ∷ more) m b has (forget_run step (pc + 1 + 1) more m1 b has.1.1 (run_rest (pc + 1 + 1 + 1 + 1) m2 has.1.1.1.1 kept2 (λ m3 kept3 fg. moved c _ _ stack f callers m3 b end (go m3 kept3 (record {
          stays = λ q h. fg.stays q (clear step q m1.state.store (clear limit q m.state.store h));
          limits = among_by (λ j. m3.state.store (limit_unit y u j) ≡ Nothing) key keys (fg.stays limit (clear step limit m1.state.store (put_here limit Nothing m.state.store))) fg.limits;
          steps = among_by (λ j. m3.state.store (step_unit y u j) ≡ Nothing) key keys (fg.stays step (put_here step Nothing m1.state.store)) fg.steps;
        })))))
    resets_by a key keys more long pc m b has kept run_rest go = run_rest pc m has kept go

    -- the units of all DO statements are undefined
    pub resets_run : (rest : List Line) → length rest ≤ length (y.lines u) → (pc : ℕ) (m : World) (b : Shown) → HasAt c.code pc (reset_code y u rest) → Kept m → ((m2 : World) → Kept m2 → Forgets (loop_keys rest) m.state.store m2.state.store → Comes c (at (pc + length (reset_code y u rest)) stack f callers) m2 b) → Comes c (at pc stack f callers) m b
    resets_run [] long pc m b has kept go = let e : pc ≡ pc + 0 = omega arith in moved c _ _ stack f callers m b e (go m kept (record { stays = λ q h. h; limits = λ j e1. absurd e1; steps = λ j e1. absurd e1 }))
    resets_run (s ∷ rest) long pc m b has kept go = resets_by s.act (length rest) (loop_keys rest) (reset_code y u rest) long pc m b has kept (λ pc1 m1 has1 kept1 go1. resets_run rest (omega arith) pc1 m1 b has1 kept1 go1) go
