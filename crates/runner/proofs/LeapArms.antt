-- What branches do.
use Rattle.std.proofs.Common.{◌≡◌, ℕ, zero, suc, ◌+◌, ◌≤◌, Bool, true, false, List, [], ◌∷◌, length, refl, sym, ap, ◌∙◌, subst, arith, slice_get}
use Rattle.std.specs.Prelude.{ℤ, pos, negsuc, Some}
use Rattle.std.proofs.lemmas.Option.{same_Some}
use Rattle.ground.specs.declared.trap.Trap.TheVariants.{BadBranch}
use Rattle.ground.specs.Content.{Content, Nothing, Whole, Truth}
use Rattle.f66_tree.specs.Fields.{Fields}
use Rattle.f66_tree.specs.World.{World, Trapped, Ended, Out, Gives, Halts, bind, settle, choose, Yields, Traps}
use Rattle.f66_tree.specs.Evaluation.{truth_in}
use Rattle.stack_code.specs.Instructions as i
use Rattle.stack_code.specs.StackMachine.{Entry, Val, At, Core, on_value, next, jump, act, jump_sign, nth, target_at}
use Rattle.stack_code.specs.Safety.{IsRight}
use Rattle.runner.specs.declared.words.Word.{Word}
use Rattle.runner.specs.Words.{Stand, bit}
use Rattle.runner.specs.Work.{MayWork, GoesTo, IsFine, IsLow}
use Rattle.runner.proofs.Tops.{tall}

-- ---- a truth value is on top ----

pub record OneTruth (es : List Entry) : Type 0 where
  pub b : Bool
  pub below : List Entry
  pub is : es ≡ Val (Truth b) ∷ below

abbrev forking : ℕ → Core → World → Content → List Entry → Out Core
forking to s w v rest = bind (settle s.frame.place (truth_in v) w) (λ b w1. choose b (Gives (next s rest) w1) (Gives (jump s to rest) w1))

truth_by : (P : Core → Type 0) (to : ℕ) (s : Core) (w : World) (es : List Entry) → IsRight P (on_value w es (forking to s w)) → OneTruth es
truth_by P to s w [] h = absurd h
truth_by P to s w (At p ∷ es) h = absurd h
truth_by P to s w (Val Nothing ∷ es) h = absurd h
truth_by P to s w (Val (Whole z) ∷ es) h = absurd h
truth_by P to s w (Val (Truth b) ∷ es) h = record { b = b; below = es; is = refl }

pub fork_tall : (to : ℕ) (buffer : List Word) (top : ℕ) → MayWork (i.JumpFalse to) buffer top → 1 ≤ top
fork_tall to buffer top m =
    let t = truth_by _ to m.core m.world m.core.stack m.right in
    let e = ap length t.is in
    let l = tall (i.JumpFalse to) buffer top m in
    omega arith

module _ (to : ℕ) (pile below : List Word) (x : Word) (e : pile ≡ x ∷ below) (r : Bool) (read : (b : Bool) → x.value ≡ bit b → r ≡ b) (plans : List Fields) (s : Core) (w : World) (st : Stand s.stack pile) (fine : IsFine (act plans (Some (i.JumpFalse to)) s w)) where
  asked : OneTruth s.stack
  asked = truth_by _ to s w s.stack fine

  word : Stand (Val (Truth asked.b) ∷ asked.below) (x ∷ below)
  word = subst (λ l. Stand l (x ∷ below)) asked.is (subst (Stand s.stack) e st)

  told : r ≡ asked.b
  told = read asked.b word.0.value

  fork_is : act plans (Some (i.JumpFalse to)) s w ≡ choose r (Gives (next s asked.below) w) (Gives (jump s to asked.below) w)
  fork_is = ap (λ es. on_value w es (forking to s w)) asked.is ∙ ap (λ b. choose b (Gives (next s asked.below) w) (Gives (jump s to asked.below) w)) (sym told)

  pub fork_on : (pc : ℕ) → s.pc ≡ pc → r ≡ true → GoesTo (act plans (Some (i.JumpFalse to)) s w) s w (pc + 1) below
  fork_on pc here on = record { stack = asked.below; is = fork_is ∙ ap (λ b. choose b (Gives (next s asked.below) w) (Gives (jump s to asked.below) w)) on ∙ ap (λ n. Gives (jump s (n + 1) asked.below) w) here; stand = word.1 }

  pub fork_off : r ≡ false → GoesTo (act plans (Some (i.JumpFalse to)) s w) s w to below
  fork_off off = record { stack = asked.below; is = fork_is ∙ ap (λ b. choose b (Gives (next s asked.below) w) (Gives (jump s to asked.below) w)) off; stand = word.1 }

-- ---- an integer is on top ----

pub record OneWhole (es : List Entry) : Type 0 where
  pub z : ℤ
  pub below : List Entry
  pub is : es ≡ Val (Whole z) ∷ below

whole_stand : (es : List Entry) (t : OneWhole es) (pile below : List Word) (x : Word) → Stand es pile → pile ≡ x ∷ below → Stand (Val (Whole t.z) ∷ t.below) (x ∷ below)
whole_stand es t pile below x h e = subst (λ l. Stand l (x ∷ below)) t.is (subst (Stand es) e h)

sign_by : (P : Core → Type 0) (a b c : ℕ) (s : Core) (w : World) (es : List Entry) → IsRight P (on_value w es (λ v rest. jump_sign s a b c rest w v)) → OneWhole es
sign_by P a b c s w [] h = absurd h
sign_by P a b c s w (At p ∷ es) h = absurd h
sign_by P a b c s w (Val Nothing ∷ es) h = absurd h
sign_by P a b c s w (Val (Truth t) ∷ es) h = absurd h
sign_by P a b c s w (Val (Whole z) ∷ es) h = record { z = z; below = es; is = refl }

pub sign_tall : (a b c : ℕ) (buffer : List Word) (top : ℕ) → MayWork (i.JumpSign a b c) buffer top → 1 ≤ top
sign_tall a b c buffer top m =
    let t = sign_by _ a b c m.core m.world m.core.stack m.right in
    let e = ap length t.is in
    let l = tall (i.JumpSign a b c) buffer top m in
    omega arith

-- ---- a table ----

abbrev tabling : List ℕ → Core → World → Content → List Entry → Out Core
tabling ts s w v rest = bind (settle s.frame.place (target_at ts v) w) (λ to w1. Gives (jump s to rest) w1)

table_by : (P : Core → Type 0) (ts : List ℕ) (s : Core) (w : World) (es : List Entry) → IsRight P (on_value w es (tabling ts s w)) → OneWhole es
table_by P ts s w [] h = absurd h
table_by P ts s w (At p ∷ es) h = absurd h
table_by P ts s w (Val Nothing ∷ es) h = absurd h
table_by P ts s w (Val (Truth t) ∷ es) h = absurd h
table_by P ts s w (Val (Whole z) ∷ es) h = record { z = z; below = es; is = refl }

pub table_tall : (ts : List ℕ) (buffer : List Word) (top : ℕ) → MayWork (i.JumpTable ts) buffer top → 1 ≤ top
table_tall ts buffer top m =
    let t = table_by _ ts m.core m.world m.core.stack m.right in
    let e = ap length t.is in
    let l = tall (i.JumpTable ts) buffer top m in
    omega arith

nth_there : (ts : List ℕ) (n to : ℕ) → slice_get ts n ≡ Some to → nth ts n ≡ Yields to
nth_there [] n to h = cc
nth_there (t ∷ ts) zero to h = ap Yields (same_Some _ _ h)
nth_there (t ∷ ts) (suc n) to h = nth_there ts n to h

nth_past : (ts : List ℕ) (n : ℕ) → length ts ≤ n → nth ts n ≡ Traps BadBranch
nth_past [] n h = refl
nth_past (t ∷ ts) zero h = absurd (omega arith)
nth_past (t ∷ ts) (suc n) h = nth_past ts n (omega arith)

low_traps : (ts : List ℕ) (z : ℤ) → IsLow z → target_at ts (Whole z) ≡ Traps BadBranch
low_traps ts (pos zero) h = refl
low_traps ts (pos (suc n)) h = absurd h
low_traps ts (negsuc n) h = refl

module _ (ts : List ℕ) (pile below : List Word) (x : Word) (e : pile ≡ x ∷ below) (plans : List Fields) (s : Core) (w : World) (st : Stand s.stack pile) (fine : IsFine (act plans (Some (i.JumpTable ts)) s w)) where
  chosen : OneWhole s.stack
  chosen = table_by _ ts s w s.stack fine

  choice : Stand (Val (Whole chosen.z) ∷ chosen.below) (x ∷ below)
  choice = whole_stand s.stack chosen pile below x st e

  table_is : act plans (Some (i.JumpTable ts)) s w ≡ tabling ts s w (Whole x.value) chosen.below
  table_is = ap (λ es. on_value w es (tabling ts s w)) chosen.is ∙ ap (λ z. tabling ts s w (Whole z) chosen.below) (sym choice.0.value)

  table_traps : target_at ts (Whole x.value) ≡ Traps BadBranch → act plans (Some (i.JumpTable ts)) s w ≡ Halts (Ended (Trapped BadBranch s.frame.place)) w
  table_traps h = table_is ∙ ap (λ t. bind (settle s.frame.place t w) (λ to w1. Gives (jump s to chosen.below) w1)) h

  pub table_low : IsLow x.value → act plans (Some (i.JumpTable ts)) s w ≡ Halts (Ended (Trapped BadBranch s.frame.place)) w
  table_low h = table_traps (low_traps ts x.value h)

  pub table_past : (n : ℕ) → x.value ≡ pos (suc n) → length ts ≤ n → act plans (Some (i.JumpTable ts)) s w ≡ Halts (Ended (Trapped BadBranch s.frame.place)) w
  table_past n h past = table_traps (ap (λ z. target_at ts (Whole z)) h ∙ nth_past ts n past)

  pub table_goes : (n to : ℕ) → x.value ≡ pos (suc n) → slice_get ts n ≡ Some to → GoesTo (act plans (Some (i.JumpTable ts)) s w) s w to below
  table_goes n to h there =
      record { stack = chosen.below; is = table_is ∙ ap (λ t. bind (settle s.frame.place t w) (λ to1 w1. Gives (jump s to1 chosen.below) w1)) (ap (λ z. target_at ts (Whole z)) h ∙ nth_there ts n to there); stand = choice.1 }
