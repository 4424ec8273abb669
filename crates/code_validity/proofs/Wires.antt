-- Each instruction of a unit's code has its operands in their ranges, and leads to marks of its own unit that fit.
use Rattle.std.proofs.Common.{◌≡◌, ◌⊎◌, inl, inr, ⊎_elim, ℕ, zero, suc, ◌+◌, ◌<◌, ◌≤◌, nat_lt, nat_le, Bool, true, false, not, List, [], ◌∷◌, length, Option, Some, None, refl, sym, ap, ◌∙◌, subst, arith, slice_get}
use Rattle.std.proofs.lemmas.Bool.{and_from, or_left, or_right, lt-ltb, le-leb}
use Rattle.std.proofs.lemmas.Option.{same_Some, slice_get_within}
use Rattle.f66_tree.specs.Fields.{Fields}
use Rattle.f66_tree.specs.Syntax.{Line}
use Rattle.f66_tree.specs.Units.{Context, is_note, is_main}
use Rattle.f66_tree.specs.Execution.{from_label}
use Rattle.stack_code.specs.declared.shape.EntryKind.{EntryKind}
use Rattle.stack_code.specs.declared.fact.Fact.{Fact}
use Rattle.stack_code.specs.Instructions as i
use Rattle.stack_code.specs.Instructions.{Instruction}
use Rattle.stack_code.specs.ValidCode.{root, ways, IsIn, is_begin, is_counted, is_target, are_targets, is_in_range}
use Rattle.code_gen.specs.Layout.{Layout}
use Rattle.code_gen.specs.Statements.{limit_unit, step_unit, leave, leave_code, stop, place_of, target, targets, turns_place}
use Rattle.code_gen.specs.Coded.{top}
use Rattle.code_gen.specs.Behaves.{HavePlans}
use Rattle.code_validity.proofs.Marks.{Mark, mark}
use Rattle.code_validity.proofs.Plain.{fact, IsFit}
use Rattle.code_validity.proofs.Places.{Site}
use Rattle.code_validity.proofs.Bodies as bodies
use Rattle.code_validity.proofs.Tails.{IsTail, from_tail}
use Rattle.code_validity.proofs.Sits as sits

-- a branch to places that are told, and what ends a unit's run
abbrev IsBranch : Instruction → Type 0
IsBranch (i.Jump to) = Unit {0}
IsBranch (i.JumpSign a b c) = Unit {0}
IsBranch (i.JumpTable ts) = Unit {0}
IsBranch (i.LoopTurn limit step to) = Unit {0}
IsBranch _ = ⊥

abbrev NoCall : Instruction → Type 0
NoCall (i.Call to n) = ⊥
NoCall _ = Unit {0}

abbrev NoReturn : Instruction → Type 0
NoReturn i.Return = ⊥
NoReturn _ = Unit {0}

no_branch : (b : Bool) (j : Instruction) → IsBranch j → j ≡ leave b → ⊥
no_branch true j h e = subst IsBranch e h
no_branch false j h e = subst IsBranch e h

pub in_none : (to : ℕ) → IsIn to [] → ⊥
in_none to h = let q = h.is in cc

in_one : (a to : ℕ) → IsIn to (a ∷ []) → to ≡ a
in_one a to h = by_index h.index h.is
  where
    by_index : (k : ℕ) → slice_get (a ∷ []) k ≡ Some to → to ≡ a
    by_index zero e = sym (same_Some _ _ e)
    by_index (suc k) e = absurd (let q : ⊥ = cc in q)

in_rest : (a to : ℕ) (ts : List ℕ) → IsIn to (a ∷ ts) → (to ≡ a) ⊎ IsIn to ts
in_rest a to ts h = by_index h.index h.is
  where
    by_index : (k : ℕ) → slice_get (a ∷ ts) k ≡ Some to → (to ≡ a) ⊎ IsIn to ts
    by_index zero e = inl (sym (same_Some _ _ e))
    by_index (suc k) e = inr (record { index = k; is = e })

module _ (code : List Instruction) (marks : List Mark) (depth : ℕ → ℕ) (main : ℕ → Bool) (plans units u : ℕ) where
  -- an entry of a unit beneath, with so many dummies
  pub record IsCallee (to m : ℕ) : Type 0 where
    pub begins : is_begin (slice_get code to) ≡ true
    pub unit : ℕ
    pub marked : slice_get marks to ≡ Some (mark (root m) unit)
    pub beneath : depth unit < depth u

  pub record Good (at : ℕ) (j : Instruction) (b : Fact) : Type 0 where
    pub range : is_in_range code plans units at j ≡ true
    pub leads : (to : ℕ) → IsIn to (ways j at) → (to ≡ at + 1) ⊎ (slice_get marks to ≡ Some (mark b u))
    pub calls : (to m : ℕ) → j ≡ i.Call to m → IsCallee to m
    pub returns : j ≡ i.Return → main u ≡ false

  no_call : (j : Instruction) → NoCall j → (to m : ℕ) → j ≡ i.Call to m → IsCallee to m
  no_call j h to m e = absurd (subst NoCall e h)

  no_return : (j : Instruction) → NoReturn j → j ≡ i.Return → main u ≡ false
  no_return j h e = absurd (subst NoReturn e h)

  -- an instruction that leads to the next one
  plain_good : (at : ℕ) (j : Instruction) (b : Fact) → is_in_range code plans units at j ≡ true → ways j at ≡ (at + 1) ∷ [] → NoCall j → NoReturn j → Good at j b
  plain_good at j b h w c r = record { range = h; leads = λ to t. inl (in_one (at + 1) to (subst (IsIn to) w t)); calls = no_call j c; returns = no_return j r }

  pub fit_good : (at : ℕ) (j : Instruction) (b : Fact) → IsFit IsCallee plans units j → Good at j b
  fit_good at (i.Begin p) b h = plain_good at (i.Begin p) b refl refl tt tt
  fit_good at i.Step b h = plain_good at i.Step b refl refl tt tt
  fit_good at (i.Push v) b h = plain_good at (i.Push v) b h refl tt tt
  fit_good at (i.PushSpot first size) b h =
      let low = h.0 in
      plain_good at (i.PushSpot first size) b (and_from (nat_le 1 size) _ (le-leb 1 size (omega (arith, low))) (le-leb (first + size) units h.1)) refl tt tt
  fit_good at (i.Dummy m) b h = plain_good at (i.Dummy m) b refl refl tt tt
  fit_good at (i.Element m) b h = plain_good at (i.Element m) b refl refl tt tt
  fit_good at (i.Load k) b h = plain_good at (i.Load k) b refl refl tt tt
  fit_good at i.Store b h = plain_good at i.Store b refl refl tt tt
  fit_good at i.Forget b h = plain_good at i.Forget b refl refl tt tt
  fit_good at (i.Lend q) b h = plain_good at (i.Lend q) b (lt-ltb q units h) refl tt tt
  fit_good at (i.Both op) b h = plain_good at (i.Both op) b (ap not h) refl tt tt
  fit_good at (i.Compare op) b h = plain_good at (i.Compare op) b h refl tt tt
  fit_good at i.Minus b h = plain_good at i.Minus b refl refl tt tt
  fit_good at i.Not b h = plain_good at i.Not b refl refl tt tt
  fit_good at (i.Known g m) b h = plain_good at (i.Known g m) b h refl tt tt
  fit_good at (i.Jump to) b h = absurd h
  fit_good at (i.JumpFalse to) b h = absurd h
  fit_good at (i.JumpSign x y z) b h = absurd h
  fit_good at (i.JumpTable ts) b h = absurd h
  fit_good at (i.LoopStart limit step) b h = plain_good at (i.LoopStart limit step) b (and_from (nat_lt limit units) _ (lt-ltb limit units h.0) (lt-ltb step units h.1)) refl tt tt
  fit_good at (i.LoopTurn limit step to) b h = absurd h
  fit_good at (i.Call to m) b h = record {
    range = h.begins;
    leads = λ t w. inl (in_one (at + 1) t w);
    calls = λ t k e. let a : to ≡ t = cc in let c : m ≡ k = cc in subst (λ x. IsCallee x k) a (subst (IsCallee to) c h);
    returns = no_return (i.Call to m) tt;
  }
  fit_good at i.Return b h = absurd h
  fit_good at (i.Start way m) b h = plain_good at (i.Start way m) b (lt-ltb m plans h) refl tt tt
  fit_good at (i.Item way k) b h = plain_good at (i.Item way k) b refl refl tt tt
  fit_good at (i.Row way k m) b h = plain_good at (i.Row way k m) b refl refl tt tt
  fit_good at i.Finish b h = plain_good at i.Finish b refl refl tt tt
  fit_good at (i.Halt m) b h = absurd h

  halt_good : (at : ℕ) (m : Option ℕ) (b : Fact) → Good at (i.Halt m) b
  halt_good at m b = record { range = refl; leads = λ to t. absurd (in_none to t); calls = no_call (i.Halt m) tt; returns = no_return (i.Halt m) tt }

  leave_good : (at : ℕ) (t : Bool) (b : Fact) → main u ≡ t → Good at (leave t) b
  leave_good at true b h = halt_good at None b
  leave_good at false b h = record { range = refl; leads = λ to t. absurd (in_none to t); calls = no_call i.Return tt; returns = λ e. h }

  -- the turn of an implied DO leads back to its Step
  step_good : (at turn limit step : ℕ) (f : Fact) → slice_get code turn ≡ Some i.Step → slice_get marks turn ≡ Some (mark f u) → limit < units → step < units → Good at (i.LoopTurn limit step turn) f
  step_good at turn limit step f stands marked low high = record {
    range = and_from (nat_lt limit units) _ (lt-ltb limit units low) (and_from (nat_lt step units) _ (lt-ltb step units high)
        (and_from (nat_lt turn (length code)) _ (lt-ltb turn (length code) (slice_get_within code turn i.Step stands)) (or_right (nat_lt at turn) _ (ap is_counted stands))));
    leads = λ to t. ⊎_elim inl (λ r. inr (subst (λ x. slice_get marks x ≡ Some (mark f u)) (sym (in_one turn to r)) marked)) (in_rest (at + 1) to (turn ∷ []) t);
    calls = no_call (i.LoopTurn limit step turn) tt;
    returns = no_return (i.LoopTurn limit step turn) tt;
  }

module _ (code : List Instruction) (marks : List Mark) (depth : ℕ → ℕ) (plans : List Fields) (units n : ℕ) (y : Layout) (u : ℕ) (c : Context) where
  abbrev main : ℕ → Bool
  main v = is_main (y.linked.context v).header

  abbrev Callee : ℕ → ℕ → Type 0
  Callee = IsCallee code marks depth main (length plans) units u

  -- what is granted of an instruction of the unit
  abbrev pub Granted : ℕ → Instruction → Fact → Type 0
  Granted at j f = (slice_get code at ≡ Some j) × (slice_get marks at ≡ Some (mark f u)) × (at < stop y u)

  abbrev pub Right : ℕ → Instruction → Fact → Type 0
  Right = Good code marks depth main (length plans) units u

  module _ (site : Site Callee (length plans) units n y u c) (planned : HavePlans y u plans) (wide : top y u ≤ units) (first : ℕ) (all : sits.Sits code marks plans Callee units n y u c site planned wide first (y.lines u)) where
    abbrev on : List EntryKind → Fact
    on s = fact n None s

    abbrev Seam : ℕ → Type 0
    Seam = sits.Seam code marks plans Callee units n y u c site planned wide

    abbrev IsPlace : ℕ → Type 0
    IsPlace = sits.IsPlace code marks plans Callee units n y u c site planned wide

    place_at : (rest : List Line) → IsTail rest (y.lines u) → IsPlace (place_of y u rest)
    place_at = sits.tail_place code marks plans Callee units n y u c site planned wide first all

    labelled : (l : ℕ) → IsPlace (target y u l)
    labelled l = place_at (from_label l (y.lines u)) (from_tail l (y.lines u))

    pub fit : (at : ℕ) (j : Instruction) (b : Fact) → IsFit Callee (length plans) units j → Right at j b
    fit = fit_good code marks depth main (length plans) units u

    pub back : (at turn limit step : ℕ) (f : Fact) → Granted turn i.Step f → limit < units → step < units → Right at (i.LoopTurn limit step turn) f
    back at turn limit step f r low high = step_good code marks depth main (length plans) units u at turn limit step f r.0 r.1 low high

    -- a branch to a place is one to a Begin, or goes on to the unit's last instruction
    aimed : (at to : ℕ) (j : Instruction) (f : Fact) → IsBranch j → Granted at j f → IsPlace to → is_target code at to ≡ true
    aimed at to j f branch r p =
        and_from (nat_lt to (length code)) _ (lt-ltb to (length code) (slice_get_within code to p.here.instruction p.here.stands))
        (⊎_elim (λ counted. or_right (nat_lt at to) _ counted) (λ last. or_left (nat_lt at to) _ (lt-ltb at to (before last.0 last.1))) p.kind)
      where
        before : suc to ≡ stop y u → slice_get code to ≡ Some (leave_code y u) → at < to
        before e l =
            let lt = r.2 in
            let apart : at ≡ to → ⊥ = λ same. no_branch (is_main (y.linked.context u).header) j branch (same_Some _ _ (sym r.0 ∙ ap (slice_get code) same ∙ l)) in
            omega (arith, e, lt, apart)

    all_aimed : (at : ℕ) (j : Instruction) (f : Fact) → IsBranch j → Granted at j f → (ls : List ℕ) → are_targets code at (targets y u ls) ≡ true
    all_aimed at j f branch r [] = refl
    all_aimed at j f branch r (l ∷ ls) = and_from (is_target code at (target y u l)) _ (aimed at (target y u l) j f branch r (labelled l)) (all_aimed at j f branch r ls)

    one_of : (to : ℕ) (ls : List ℕ) → IsIn to (targets y u ls) → slice_get marks to ≡ Some (mark (on []) u)
    one_of to [] h = absurd (in_none to h)
    one_of to (l ∷ ls) h = ⊎_elim (λ e. subst (λ x. slice_get marks x ≡ Some (mark (on []) u)) (sym e) (labelled l).here.marked) (one_of to ls) (in_rest (target y u l) to (targets y u ls) h)

    marked_as : (to a : ℕ) → IsPlace a → to ≡ a → slice_get marks to ≡ Some (mark (on []) u)
    marked_as to a p e = subst (λ x. slice_get marks x ≡ Some (mark (on []) u)) (sym e) p.here.marked

    jump_good : (at to : ℕ) → is_target code at to ≡ true → slice_get marks to ≡ Some (mark (on []) u) → Right at (i.Jump to) (on [])
    jump_good at to range marked = record {
      range = range;
      leads = λ t w. inr (subst (λ x. slice_get marks x ≡ Some (mark (on []) u)) (sym (in_one to t w)) marked);
      calls = no_call code marks depth main (length plans) units u (i.Jump to) tt;
      returns = no_return code marks depth main (length plans) units u (i.Jump to) tt;
    }

    -- on to a place
    ahead : (at to : ℕ) → at < to → Seam to → is_target code at to ≡ true
    ahead at to lt s = and_from (nat_lt to (length code)) _ (lt-ltb to (length code) (slice_get_within code to s.instruction s.stands)) (or_left (nat_lt at to) _ (lt-ltb at to lt))

    abbrev Ways : Type 0
    Ways = bodies.Ways plans Callee units n y u c site Granted Right fit back planned wide

    pub all_ways : Ways
    all_ways = record {
      branches = record {
        jump = λ at l f r. jump_good at (target y u l) (aimed at (target y u l) (i.Jump (target y u l)) f tt r (labelled l)) (labelled l).here.marked;
        table = λ at ls f r. record {
          range = all_aimed at (i.JumpTable (targets y u ls)) f tt r ls;
          leads = λ to w. inr (one_of to ls w);
          calls = no_call code marks depth main (length plans) units u (i.JumpTable (targets y u ls)) tt;
          returns = no_return code marks depth main (length plans) units u (i.JumpTable (targets y u ls)) tt;
        };
        sign = λ at l m k f r.
            let j = i.JumpSign (target y u l) (target y u m) (target y u k) in
            record {
              range = and_from (is_target code at (target y u l)) _ (aimed at (target y u l) j f tt r (labelled l)) (and_from (is_target code at (target y u m)) _ (aimed at (target y u m) j f tt r (labelled m)) (aimed at (target y u k) j f tt r (labelled k)));
              leads = λ to w. inr (one_of to (l ∷ m ∷ k ∷ []) w);
              calls = no_call code marks depth main (length plans) units u j tt;
              returns = no_return code marks depth main (length plans) units u j tt;
            };
        leave = λ at. leave_good code marks depth main (length plans) units u at (is_main (y.linked.context u).header) (on []) refl;
        halt = λ at m. halt_good code marks depth main (length plans) units u at m (on []);
      };
      skip = λ s rest tail note p lt.
          let to = turns_place y u s rest in
          let seam = sits.next_seam code marks plans Callee units n y u c site planned wide first all s rest tail note in
          record {
            range = ahead p to lt seam;
            leads = λ t w. ⊎_elim inl (λ r. inr (subst (λ x. slice_get marks x ≡ Some (mark (on []) u)) (sym (in_one to t r)) seam.marked)) (in_rest (p + 1) t (to ∷ []) w);
            calls = no_call code marks depth main (length plans) units u (i.JumpFalse to) tt;
            returns = no_return code marks depth main (length plans) units u (i.JumpFalse to) tt;
          };
      turn = λ at k tail f r.
          let to = place_of y u k.inner in
          let limit = limit_unit y u (length k.inner) in
          let step = step_unit y u (length k.inner) in
          let p = place_at k.inner tail.0 in
          let long = tail.1 in
          let high : step < units = omega (arith, long, wide) in
          let low : limit < units = omega (arith, high) in
          record {
            range = and_from (nat_lt limit units) _ (lt-ltb limit units low) (and_from (nat_lt step units) _ (lt-ltb step units high) (aimed at to (i.LoopTurn limit step to) f tt r p));
            leads = λ t w. ⊎_elim inl (λ q. inr (marked_as t to p (in_one to t q))) (in_rest (at + 1) t (to ∷ []) w);
            calls = no_call code marks depth main (length plans) units u (i.LoopTurn limit step to) tt;
            returns = no_return code marks depth main (length plans) units u (i.LoopTurn limit step to) tt;
          };
    }

    -- from the entry to past the first statement's Begin
    pub enters_good : (s : Line) (rest : List Line) → IsTail (s ∷ rest) (y.lines u) → is_note s.act ≡ false → (at : ℕ) → at < place_of y u (s ∷ rest) → Right at (i.Jump (suc (place_of y u (s ∷ rest)))) (on [])
    enters_good s rest tail note at lt =
        let to = suc (place_of y u (s ∷ rest)) in
        let seam = sits.begun_seam code marks plans Callee units n y u c site planned wide first all s rest tail note in
        jump_good at to (ahead at to (omega (arith, lt)) seam) seam.marked
