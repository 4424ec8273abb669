-- The code of a unit: what stands at its entry, each statement, the turns behind it, and its end.
use Rattle.std.proofs.Common.{◌≡◌, cond, ℕ, suc, ◌+◌, ◌<◌, ◌≤◌, Bool, true, false, true≢false, List, [], ◌∷◌, ◌++◌, length, None, refl, sym, ap, ◌∙◌, subst, arith, length-append}
use Rattle.std.specs.List.{AllByRecursion}
use Rattle.ground.specs.Content.{Content, Nothing, Whole, Truth}
use Rattle.f66_tree.specs.Fields.{Fields}
use Rattle.f66_tree.specs.Syntax.{Act, Loop, Line}
use Rattle.f66_tree.specs.Units.{Context, is_note, is_main}
use Rattle.f66_tree.specs.Execution.{runnable, Closer}
use Rattle.f66_program.specs.Mentions.{Mention}
use Rattle.linked_soundness.proofs.ActLemmas.{FitLines}
use Rattle.stack_code.specs.declared.shape.EntryKind.{EntryKind}
use Rattle.stack_code.specs.declared.shape.EntryKind.TheVariants as e
use Rattle.stack_code.specs.declared.fact.Fact.{Fact}
use Rattle.stack_code.specs.Instructions as i
use Rattle.stack_code.specs.Instructions.{Instruction}
use Rattle.stack_code.specs.ValidCode.{is_small}
use Rattle.code_gen.specs.Layout.{Layout}
use Rattle.code_gen.specs.Expressions.{base_code}
use Rattle.code_gen.specs.Statements.{limit_unit, step_unit, act_size, act_code, enders, turns_size, turns_code, turns_place, line_size, body_size, body_code, preset_code, reset_by, reset_code, first_by, first_code, prologue_size, prologue_code, unit_size, unit_code, stop, place_of}
use Rattle.code_gen.specs.Coded.{top, HasRoom}
use Rattle.code_gen.specs.Behaves.{HavePlans, AreBelow}
use Rattle.code_gen.proofs.Lengths.{act_length, turns_length}
use Rattle.code_gen.proofs.Standing.{line_code}
use Rattle.code_validity.proofs.Plain as plain
use Rattle.code_validity.proofs.Plain.{fact, IsFit}
use Rattle.code_validity.proofs.Places as places
use Rattle.code_validity.proofs.Places.{Site, MayCall}
use Rattle.code_validity.proofs.Pieces as pieces
use Rattle.code_validity.proofs.Acts as acts
use Rattle.code_validity.proofs.Acts.{Branches}
use Rattle.code_validity.proofs.Tails.{IsTail, itself, tail_of, tail_long, IsInner, AllInner, enders_inner}

-- initial values that an instruction may push
abbrev pub AreSmall : List (ℕ × Content) → Type 0
AreSmall ps = AllByRecursion (λ p. is_small p.1 ≡ true) ps

-- ---- how long the code of a unit is ----

line_length : (b : Bool) (y : Layout) (u : ℕ) (s : Line) (rest : List Line) → length (body_code y u rest) ≡ body_size y u rest → length (cond b (body_code y u rest) (line_code y u s rest)) ≡ cond b (body_size y u rest) (line_size y u s + body_size y u rest)
line_length true y u s rest h = h
line_length false y u s rest h =
    let a = act_code y u (length rest) (turns_place y u s rest) s.place s.act in
    let t = turns_code y u (enders y u s) in
    omega (arith, length-append a (t ++ body_code y u rest), length-append t (body_code y u rest), act_length y u (length rest) (turns_place y u s rest) s.place s.act, turns_length y u (enders y u s))

body_length : (y : Layout) (u : ℕ) (rest : List Line) → length (body_code y u rest) ≡ body_size y u rest
body_length y u [] = refl
body_length y u (s ∷ rest) = line_length (is_note s.act) y u s rest (body_length y u rest)

pub prologue_length : (y : Layout) (u : ℕ) (is : List Instruction) (rest : List Line) → length (prologue_code y u is rest) ≡ prologue_size is rest
prologue_length y u [] rest = refl
prologue_length y u (j ∷ is) [] = refl
prologue_length y u (j ∷ is) (s ∷ rest) = omega (arith, length-append is (i.Jump (suc (place_of y u (s ∷ rest))) ∷ []))

pub unit_length : (y : Layout) (u : ℕ) → length (unit_code y u) ≡ unit_size y u
unit_length y u =
    let pro = prologue_code y u (first_code y u) (runnable (y.lines u)) in
    omega (arith, length-append pro (body_code y u (y.lines u)), prologue_length y u (first_code y u) (runnable (y.lines u)), body_length y u (y.lines u))

module _ (plans : List Fields) (callee : ℕ → ℕ → Type 0) (units n : ℕ) (y : Layout) (u : ℕ) (c : Context) (site : Site callee (length plans) units n y u c)
    (R Q : ℕ → Instruction → Fact → Type 0) (fit : (at : ℕ) (j : Instruction) (b : Fact) → IsFit callee (length plans) units j → Q at j b)
    (back : (at turn limit step : ℕ) (f : Fact) → R turn i.Step f → limit < units → step < units → Q at (i.LoopTurn limit step turn) f)
    (planned : HavePlans y u plans) (wide : top y u ≤ units) where
  abbrev d : Context
  d = y.linked.context u

  abbrev May : Mention → Type 0
  May = MayCall callee (length plans) units y

  abbrev Fine : ℕ → List Instruction → Fact → Fact → Type 0
  Fine = pieces.Fine R Q

  abbrev Runs : List Instruction → Fact → Fact → Type 0
  Runs = plain.Runs callee (length plans) units

  abbrev on : List EntryKind → Fact
  on s = fact n None s

  abbrev Ends : Type 0
  Ends = Branches plans callee units n y u c site R Q fit back

  -- where all branches lead
  pub record Ways : Type 0 where
    pub branches : Ends
    pub skip : (s : Line) (rest : List Line) → IsTail (s ∷ rest) (y.lines u) → is_note s.act ≡ false → (p : ℕ) → p < turns_place y u s rest → Q p (i.JumpFalse (turns_place y u s rest)) (on [])
    pub turn : (at : ℕ) (k : Closer) → IsInner k.inner (y.lines u) → (f : Fact) → R at (i.LoopTurn (limit_unit y u (length k.inner)) (step_unit y u (length k.inner)) (place_of y u k.inner)) f →
        Q at (i.LoopTurn (limit_unit y u (length k.inner)) (step_unit y u (length k.inner)) (place_of y u k.inner)) (on [])

  module _ (ways : Ways) where
    turns_fine : (at : ℕ) (ks : List Closer) → AllInner ks (y.lines u) → Fine at (turns_code y u ks) (on []) (on [])
    turns_fine at [] h = refl
    turns_fine at (k ∷ ks) h = λ r.
        let b = places.base callee (length plans) units n y u c site k.variable in
        (on (e.Spot ∷ []), b.gives None [], fit at (base_code y u k.variable) (on (e.Spot ∷ [])) b.fit, λ r1. (on [], refl, ways.turn (at + 1) k h.0 (on (e.Spot ∷ [])) r1, turns_fine (at + 1 + 1) ks h.1))

    -- the statement, and the turns behind it
    pub act_turns_fine : (s : Line) (rest : List Line) (at : ℕ) → IsTail (s ∷ rest) (y.lines u) → is_note s.act ≡ false → FitLines May c d (s ∷ rest) → HasRoom y u (s ∷ rest) → at + act_size y u s.act ≡ turns_place y u s rest →
        Fine at (act_code y u (length rest) (turns_place y u s rest) s.place s.act) (on []) (on []) × Fine (turns_place y u s rest) (turns_code y u (enders y u s)) (on []) (on [])
    act_turns_fine s rest at tail note h room end =
        let long = tail_long (s ∷ rest) (y.lines u) tail in
        let low : y.loops u ≤ units = omega (arith, wide) in
        let loops : step_unit y u (length rest) < units = omega (arith, wide, long) in (
          acts.act_fine plans callee units n y u c site R Q fit back planned low ways.branches (length rest) s.place loops s.act at (turns_place y u s rest) h.0 room.0 end (ways.skip s rest tail note),
          turns_fine (turns_place y u s rest) (enders y u s) (enders_inner y u s),
        )

    line_fine : (s : Line) (rest : List Line) (at : ℕ) → IsTail (s ∷ rest) (y.lines u) → is_note s.act ≡ false → FitLines May c d (s ∷ rest) → HasRoom y u (s ∷ rest) → at + (line_size y u s + body_size y u rest) ≡ stop y u →
        ((to : ℕ) → to + body_size y u rest ≡ stop y u → Fine to (body_code y u rest) (on []) (on [])) → Fine at (line_code y u s rest) (on []) (on [])
    line_fine s rest at tail note h room end more = λ r.
        let a = act_code y u (length rest) (turns_place y u s rest) s.place s.act in
        let t = turns_code y u (enders y u s) in
        let la : length a ≡ act_size y u s.act = act_length y u (length rest) (turns_place y u s rest) s.place s.act in
        let lt : length t ≡ turns_size (enders y u s) = turns_length y u (enders y u s) in
        let e1 : at + 1 + act_size y u s.act ≡ turns_place y u s rest = omega (arith, end) in
        let e2 : turns_place y u s rest ≡ at + 1 + length a = omega (arith, la, e1) in
        let e3 : turns_place y u s rest + length t + body_size y u rest ≡ stop y u = omega (arith, lt, e1, end) in
        let both = act_turns_fine s rest (at + 1) tail note h room e1 in
        let tb = pieces.fine_append R Q (turns_place y u s rest) t (body_code y u rest) (on []) (on []) (on []) both.1 (more (turns_place y u s rest + length t) e3) in (
          on [],
          refl,
          fit at (i.Begin s.place) (on []) tt,
          pieces.fine_append R Q (at + 1) a (t ++ body_code y u rest) (on []) (on []) (on []) both.0 (pieces.fine_at R Q (turns_place y u s rest) (at + 1 + length a) (t ++ body_code y u rest) (on []) (on []) e2 tb),
        )

    pub body_fine : (rest : List Line) (at : ℕ) → IsTail rest (y.lines u) → FitLines May c d rest → HasRoom y u rest → at + body_size y u rest ≡ stop y u → Fine at (body_code y u rest) (on []) (on [])
    body_fine [] at tail h room end = acts.leave_fine plans callee units n y u c site R Q fit back ways.branches at
    body_fine (s ∷ rest) at tail h room end =
        by_note (is_note s.act) refl (λ to e1. body_fine rest to (tail_of s rest (y.lines u) tail) h.1 room.1 e1)
      where
        by_note : (b : Bool) → is_note s.act ≡ b → ((to : ℕ) → to + body_size y u rest ≡ stop y u → Fine to (body_code y u rest) (on []) (on [])) → Fine at (body_code y u (s ∷ rest)) (on []) (on [])
        by_note true is more =
            subst (λ v. Fine at (cond v (body_code y u rest) (line_code y u s rest)) (on []) (on [])) (sym is)
            (more at (subst (λ v. at + cond v (body_size y u rest) (line_size y u s + body_size y u rest) ≡ stop y u) is end))
        by_note false is more =
            subst (λ v. Fine at (cond v (body_code y u rest) (line_code y u s rest)) (on []) (on [])) (sym is)
            (line_fine s rest at tail is h room (subst (λ v. at + cond v (body_size y u rest) (line_size y u s + body_size y u rest) ≡ stop y u) is end) more)

  -- ---- what stands at an entry ----

  preset_runs : (q : ℕ) (v : Content) (more : List Instruction) → q < units → is_small v ≡ true → Runs more (on []) (on []) → Runs (i.PushSpot q 1 ∷ i.Push v ∷ i.Store ∷ more) (on []) (on [])
  preset_runs q (Whole z) more lt h g = (on (e.Spot ∷ []), refl, (omega arith, omega arith), (on (e.Int ∷ e.Spot ∷ []), refl, h, (on [], refl, tt, g)))
  preset_runs q (Truth b) more lt h g = (on (e.Spot ∷ []), refl, (omega arith, omega arith), (on (e.Log ∷ e.Spot ∷ []), refl, h, (on [], refl, tt, g)))
  preset_runs q Nothing more lt h g = absurd (true≢false (sym h))

  presets_run : (bound : ℕ) → bound ≤ units → (ps : List (ℕ × Content)) → AreBelow bound ps → AreSmall ps → Runs (preset_code ps) (on []) (on [])
  presets_run bound le [] h g = refl
  presets_run bound le (p ∷ ps) h g = let low = h.0 in preset_runs p.0 p.1 (preset_code ps) (omega (arith, low, le)) g.0 (presets_run bound le ps h.1 g.1)

  resets_by : (a : Act) (key : ℕ) (more : List Instruction) → suc key ≤ length (y.lines u) → Runs more (on []) (on []) → Runs (reset_by y u a key more) (on []) (on [])
  resets_by (Loop l x p q r) key more le h =
      (on (e.Spot ∷ []), refl, (omega arith, omega arith), (on [], refl, tt, (on (e.Spot ∷ []), refl, (omega arith, omega arith), (on [], refl, tt, h))))
  resets_by _ key more le h = h

  resets_run : (rest : List Line) → length rest ≤ length (y.lines u) → Runs (reset_code y u rest) (on []) (on [])
  resets_run [] le = refl
  resets_run (s ∷ rest) le = resets_by s.act (length rest) (reset_code y u rest) le (resets_run rest (omega (arith, le)))

  first_runs : (bound : ℕ) → bound ≤ units → AreBelow bound y.presets → AreSmall y.presets → (b : Bool) → Runs (first_by b y u) (on []) (on [])
  first_runs bound le h g true = presets_run bound le y.presets h g
  first_runs bound le h g false = resets_run (y.lines u) (omega arith)

  -- past the first statement's Begin, which the prologue has
  abbrev pub EntersBody : List Line → Type 0
  EntersBody [] = Unit {0}
  EntersBody (s ∷ rest) = (at : ℕ) → at < place_of y u (s ∷ rest) → Q at (i.Jump (suc (place_of y u (s ∷ rest)))) (on [])

  prologue_fine : (is : List Instruction) (rest : List Line) (at : ℕ) → at + prologue_size is rest ≤ place_of y u rest → EntersBody rest → Runs is (on []) (on []) → Fine at (prologue_code y u is rest) (on []) (on [])
  prologue_fine [] rest at le enter h = refl
  prologue_fine (j ∷ is) [] at le enter h = refl
  prologue_fine (j ∷ is) (s ∷ rest) at le enter h = λ r.
      let first = j ∷ is in
      let lt : at + 1 + length first < place_of y u (s ∷ rest) = omega (arith, le) in (
        on [],
        refl,
        fit at (i.Begin s.place) (on []) tt,
        pieces.fine_append R Q (at + 1) first (i.Jump (suc (place_of y u (s ∷ rest))) ∷ []) (on []) (on []) (on []) (pieces.fine_plain R Q callee (length plans) units fit (at + 1) first (on []) (on []) h)
            (pieces.fine_one R Q (at + 1 + length first) (i.Jump (suc (place_of y u (s ∷ rest)))) (on []) (on []) refl (λ r1. enter (at + 1 + length first) lt)),
      )

  runnable_size : (rest : List Line) → body_size y u (runnable rest) ≡ body_size y u rest
  runnable_size [] = refl
  runnable_size (s ∷ rest) = by_note (is_note s.act) refl (runnable_size rest)
    where
      by_note : (b : Bool) → is_note s.act ≡ b → body_size y u (runnable rest) ≡ body_size y u rest → body_size y u (cond b (runnable rest) (s ∷ rest)) ≡ body_size y u (s ∷ rest)
      by_note true is h = h ∙ ap (λ v. cond v (body_size y u rest) (line_size y u s + body_size y u rest)) (sym is)
      by_note false is h = refl

  pub entry_fine : (bound : ℕ) → bound ≤ units → AreBelow bound y.presets → AreSmall y.presets → EntersBody (runnable (y.lines u)) → Fine (y.entry u) (prologue_code y u (first_code y u) (runnable (y.lines u))) (on []) (on [])
  entry_fine bound le below values enter =
      let first = first_code y u in
      let same = runnable_size (y.lines u) in
      let before : y.entry u + prologue_size first (runnable (y.lines u)) ≤ place_of y u (runnable (y.lines u)) = omega (arith, same) in
      prologue_fine first (runnable (y.lines u)) (y.entry u) before enter (first_runs bound le below values (is_main (y.linked.context u).header))

  pub unit_fine : (bound : ℕ) → bound ≤ units → AreBelow bound y.presets → AreSmall y.presets → Ways → EntersBody (runnable (y.lines u)) → FitLines May c d (y.lines u) → HasRoom y u (y.lines u) → Fine (y.entry u) (unit_code y u) (on []) (on [])
  unit_fine bound le below values ways enter h room =
      let pro = prologue_code y u (first_code y u) (runnable (y.lines u)) in
      let long = prologue_length y u (first_code y u) (runnable (y.lines u)) in
      let end : y.entry u + length pro + body_size y u (y.lines u) ≡ stop y u = omega (arith, long) in
      pieces.fine_append R Q (y.entry u) pro (body_code y u (y.lines u)) (on []) (on []) (on []) (entry_fine bound le below values enter) (body_fine ways (y.lines u) (y.entry u + length pro) (itself (y.lines u)) h room end)
