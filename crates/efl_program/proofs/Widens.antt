-- A program's meaning at a greater bound: an end stays, and records stay. Part by part, what is done at the lesser bound is done at
-- the greater one too, unless it stops at the bound; then the records at the greater bound begin with those so far.
use Rattle.std.proofs.Common.{◌≡◌, ℕ, zero, suc, ◌-◌, ◌≤◌, List, [], refl, subst, arith}
use Rattle.std.specs.Prelude.{nat_eq, ⊤}
use Rattle.ground.specs.declared.place.Place.{Place}
use Rattle.f66_tree.specs.World.{World, Trapped, Ended, Lost, Out, Gives, Halts, settle, first_tape}
use Rattle.f66_tree.specs.Evaluation.{asked}
use Rattle.f66_tree.specs.Statements.{taped, taken_content}
use Rattle.f66_tree.specs.Units as f66
use Rattle.f66_tree.specs.OneUnit.{one_unit}
use Rattle.f66_tree.specs.Execution.{nowhere}
use Rattle.f66_tree.proofs.Prefixes.{prefix_self}
use Rattle.f66_tree.proofs.Related as f66_related
use Rattle.f66_tree.proofs.Grows.{alone, G, grows_hold}
use Rattle.f66_tree.proofs.Wide.{Wide, wide_bind, wide_gives, wide_halts, wide_stays, wide_counted, at_both, extends_by}
use Rattle.efl_program.specs.Typed.{Stmts}
use Rattle.efl_program.specs.Setting.{Spot, Linkage, Setting}
use Rattle.efl_program.specs.Meaning.{all_meaning, efl_call}
use Rattle.efl_program.specs.Laws.{EflMeaningsExtend}
use Rattle.efl_program.proofs.Related.{Holds}
use Rattle.efl_program.proofs.RelatedStatements.{all_hold, ended_holds}
use Rattle.efl_program.proofs.SamePlaces.{all_left}

-- records are taken and put as in a run of FORTRAN
abbrev no_call : ℕ → List f66.Spot → World → Out ⊤
no_call v ps w = Gives tt w

abbrev begin : World → Out ⊤
begin w = Gives tt w

in_fortran : f66_related.Holds ⊤ (alone (one_unit []) no_call begin 0 (λ n. n) (λ v ps w. prefix_self w.state.tape.written) (λ w. prefix_self w.state.tape.written)) (G (one_unit []) no_call begin 0 (λ n. n) (λ v ps w. prefix_self w.state.tape.written) (λ w. prefix_self w.state.tape.written)) (G (one_unit []) no_call begin 0 (λ n. n) (λ v ps w. prefix_self w.state.tape.written) (λ w. prefix_self w.state.tape.written))
in_fortran = grows_hold (one_unit []) no_call begin 0 (λ n. n) (λ v ps w. prefix_self w.state.tape.written) (λ w. prefix_self w.state.tape.written)

abbrev both : Place → f66_related.Frames
both p = record { unit = 0; actuals = []; here = p; there = p }

fine : (p : Place) → f66_related.Good (alone (one_unit []) no_call begin 0 (λ n. n) (λ v ps w. prefix_self w.state.tape.written) (λ w. prefix_self w.state.tape.written)) (both p)
fine p = record { places = tt; actuals = tt }

wide : (e : ℕ) (call1 call2 : ℕ → List Spot → World → Out ⊤) → ((v : ℕ) (ps : List Spot) → Wide ⊤ (call1 v ps) (call2 v ps)) → Holds (λ p q. p ≡ q) call1 call2 e Wide
wide e call1 call2 calls = record {
  gives = λ a. wide_gives a;
  halts = λ end. wide_halts end;
  traps = λ t p q same. at_both p q (λ v w. Halts (Ended (Trapped t v)) w) same (λ w. prefix_self w.state.tape.written);
  thens = λ h k. wide_bind h k;
  counts = λ h. wide_counted h;
  fills = λ n c h. record { grows = λ w. h.grows _; widens = λ w. h.widens _ };
  reads = λ p q same k g. at_both p q (λ v w. settle v (asked k (g w.state.store)) w) same (λ w. in_fortran.parts.loads (both q) (fine q) k (f66.Lent (g w.state.store)) tt w);
  tapes = λ p q same h step. at_both p q (λ v w. taped v h w) same (in_fortran.parts.tapes (both q) (fine q) h step);
  takes = λ p q same h step. at_both p q (λ v w. taken_content v h w) same (in_fortran.parts.takes (both q) (fine q) h step);
  stays = λ {A} {m1} {m2} lt h. wide_stays m2 h.grows;
  calls = calls;
}

module _ (l : Linkage) (bodies : ℕ → Stmts) (b1 b2 : ℕ) (more : b1 ≤ b2) where
  call_widens : (k v : ℕ) (ps : List Spot) → Wide ⊤ (efl_call l bodies b1 k v ps) (efl_call l bodies b2 k v ps)
  call_widens zero v ps = wide_halts Lost
  call_widens (suc k) v ps =
      let call1 = efl_call l bodies b1 k in
      let call2 = efl_call l bodies b2 k in
      let h = wide (b2 - b1) call1 call2 (call_widens k) in
      let s1 : Setting = record { linked = l; call = call1 } in
      let s2 : Setting = record { linked = l; call = call2 } in
      let same = subst (λ ss. Wide _ (all_meaning s1 (record { unit = v; actuals = ps; place = nowhere }) b1 (bodies v)) (all_meaning s2 (record { unit = v; actuals = ps; place = nowhere }) b2 ss)) (all_left (bodies v))
      (all_hold l (λ p q. p ≡ q) call1 call2 (b2 - b1) Wide h (record { unit = v; actuals = ps; place = nowhere }) (λ p. p) (λ p. refl) b1 b2 more (omega (arith, more)) (bodies v)) in
      h.thens same (λ c. ended_holds l (λ p q. p ≡ q) call1 call2 (b2 - b1) Wide h (nat_eq v l.main) c)

pub meanings_extend : EflMeaningsExtend
meanings_extend l bodies input a b le =
    let w : World = record { state = record { store = l.first; tape = first_tape input }; left = 0; count = 0 } in
    extends_by (efl_call l bodies a l.deep l.main [] w) (efl_call l bodies b l.deep l.main [] w) ((call_widens l bodies a b le l.deep l.main []).widens w)
