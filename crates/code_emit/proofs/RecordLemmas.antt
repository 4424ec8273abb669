-- The code of READ, WRITE and logical IF, put behind other code.
use Rattle.std.proofs.Common.{◌≡◌, ◌++◌, ℕ, suc, ◌+◌, ◌-◌, List, [], ◌∷◌, length, Result, OnOk, refl, ap, ◌∙◌, arith}
use Rattle.std.proofs.lemmas.Result.{on_ok_weaker}
use Rattle.ground.specs.declared.place.Place.{Place}
use Rattle.f66_tree.specs.declared.editing.Way.{Way}
use Rattle.f66_tree.specs.Syntax as f66
use Rattle.f66_tree.specs.Syntax.{Formula, Entries, Act, When}
use Rattle.stack_code.specs.declared.op.Op.{Op}
use Rattle.stack_code.specs.Instructions.{Start, Finish, JumpFalse, Begin}
use Rattle.stack_code.specs.Views.{code_of}
use Rattle.code_gen.specs.Layout.{Layout}
use Rattle.code_gen.specs.Expressions.{par_code, value_code}
use Rattle.code_gen.specs.Statements.{items_code, record_code, act_size}
use Rattle.code_emit.proofs.ListLemmas.{ended}

pieces : {X : Type 0} (c s i : List X) (p t : X) → (((c ++ s) ++ p ∷ []) ++ i) ++ t ∷ [] ≡ c ++ (s ++ p ∷ (i ++ t ∷ []))
pieces [] [] i p t = refl
pieces [] (h ∷ s) i p t = ap (λ z. h ∷ z) (pieces [] s i p t)
pieces (h ∷ c) s i p t = ap (λ z. h ∷ z) (pieces c s i p t)

pub record_put : {A E : Type 0} (y : Layout) (u : ℕ) (way : Way) (a : f66.Par) (plan : ℕ) (es : Entries) (old begun started listed new : List Op) (result : Result A E) →
    code_of begun ≡ code_of old ++ par_code y u a → code_of started ≡ code_of begun ++ Start way plan ∷ [] → code_of listed ≡ code_of started ++ items_code y u way (length started) es →
    OnOk result (code_of new ≡ code_of listed ++ Finish ∷ []) → OnOk result (code_of new ≡ code_of old ++ record_code y u way (length old) a plan es)
record_put y u way a plan es old begun started listed new result s1 s2 s3 s4 =
    let par = par_code y u a in
    let items = items_code y u way (length started) es in
    let here : length begun ≡ length old + length par = ended old begun par (length par) s1 refl in
    let there : length started ≡ suc (length old + length par) = (let h = ended begun started (Start way plan ∷ []) 1 s2 refl in omega arith) in
    let before : code_of listed ≡ ((code_of old ++ par) ++ Start way plan ∷ []) ++ items = s3 ∙ ap (λ z. z ++ items) (s2 ∙ ap (λ z. z ++ Start way plan ∷ []) s1) in
    on_ok_weaker result (λ k. k ∙ ap (λ z. z ++ Finish ∷ []) before ∙ pieces (code_of old) par items (Start way plan) Finish
    ∙ ap (λ n. code_of old ++ (par ++ Start way plan ∷ (items_code y u way n es ++ Finish ∷ []))) there) s4

-- where code begins, told from where it ends
pub told_from_end : {A E X : Type 0} (result : Result A E) (f : ℕ → List X) (old new : List X) (at size next : ℕ) → at + size ≡ next → OnOk result (new ≡ old ++ f at) → OnOk result (new ≡ old ++ f (next - size))
told_from_end result f old new at size next sum put =
    let same : at ≡ next - size = omega arith in
    on_ok_weaker result (λ k. k ∙ ap (λ n. old ++ f n) same) put

-- the statement of a logical IF ends where the whole does
pub inner_ends : (y : Layout) (u : ℕ) (e : Formula) (a : Act) (next : ℕ) (place : Place) (old valued tested begun : List Op) → code_of valued ≡ code_of old ++ value_code y u e →
    code_of tested ≡ code_of valued ++ JumpFalse next ∷ [] → code_of begun ≡ code_of tested ++ Begin place ∷ [] → length old + act_size y u (When e a) ≡ next → length begun + act_size y u a ≡ next
inner_ends y u e a next place old valued tested begun s1 s2 s3 whole =
    let h1 = ended old valued (value_code y u e) (length (value_code y u e)) s1 refl in
    let h2 = ended valued tested (JumpFalse next ∷ []) 1 s2 refl in
    let h3 = ended tested begun (Begin place ∷ []) 1 s3 refl in
    omega arith
