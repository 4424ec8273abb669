-- What stands before the statements of a unit, put behind other code; and the code of units.
use Rattle.std.proofs.Common.{◌≡◌, ◌++◌, ℕ, suc, ◌+◌, ◌<◌, ◌≤◌, List, [], ◌∷◌, length, Result, Ok, Err, IfOk, OnOk, refl, ap, sym, ◌∙◌, append_assoc, arith, length-append, length-drop, drop, get_or}
use Rattle.std.proofs.lemmas.List.{append-nil, drop_all}
use Rattle.std.proofs.lemmas.Result.{on_ok_weaker}
use Rattle.f66_tree.specs.declared.statement.Stmt.{Stmt}
use Rattle.f66_tree.specs.Syntax.{Act, Loop, Line}
use Rattle.f66_tree.specs.Execution.{runnable}
use Rattle.f66_tree.specs.Views.{act_of, line_of, lines_of}
use Rattle.stack_code.specs.declared.op.Op.{Op}
use Rattle.stack_code.specs.Instructions.{Instruction, Begin, Jump}
use Rattle.stack_code.specs.Views.{code_of}
use Rattle.code_gen.specs.Layout.{Layout}
use Rattle.code_gen.specs.Statements.{body_code, body_size, first_code, place_of, prologue_code, prologue_size, reset_by, reset_code, stop, unit_code, unit_size}
use Rattle.code_emit.proofs.ListLemmas.{drop_at, ended}
use Rattle.code_emit.proofs.BodyLemmas.{body_length, lines_from}

reset_split : (y : Layout) (u : ℕ) (a : Act) (key : ℕ) (more : List Instruction) → reset_by y u a key more ≡ reset_by y u a key [] ++ more
reset_split y u (Loop l x a b d) key more = refl
reset_split y u _ key more = refl

-- one statement more
pub resets_step : (y : Layout) (u : ℕ) (old new : List Op) (s : Line) (rest : List Line) → code_of new ≡ code_of old ++ reset_by y u s.act (length rest) [] → code_of new ++ reset_code y u rest ≡ code_of old ++ reset_code y u (s ∷ rest)
resets_step y u old new s rest put =
    ap (λ z. z ++ reset_code y u rest) put
    ∙ append_assoc (code_of old) (reset_by y u s.act (length rest) []) (reset_code y u rest)
    ∙ ap (λ z. code_of old ++ z) (sym (reset_split y u s.act (length rest) (reset_code y u rest)))

pub resets_counted : (y : Layout) (u : ℕ) (all : List Stmt) (i : ℕ) (s : Stmt) (sum size next whole : ℕ) → i < length all → s ≡ get_or all i s → ((key : ℕ) → size ≡ length (reset_by y u (act_of s.kind) key [])) → next ≡ sum + size →
    sum + length (reset_code y u (lines_of (drop i all))) ≡ whole → next + length (reset_code y u (lines_of (drop (i + 1) all))) ≡ whole
resets_counted y u all i s sum size next whole within here is added before =
    let rest = lines_of (drop (i + 1) all) in
    let one = reset_by y u (act_of s.kind) (length rest) [] in
    let e : length (reset_code y u (lines_of (drop i all))) ≡ length (one ++ reset_code y u rest) =
    ap (λ ss. length (reset_code y u (lines_of ss))) (drop_at all i s within here) ∙ ap length (reset_split y u (act_of s.kind) (length rest) (reset_code y u rest)) in
    let f = is (length rest) in
    omega (arith, length-append one (reset_code y u rest))

-- ---- the whole ----

nothing_runs : (y : Layout) (u : ℕ) (first : List Instruction) → prologue_code y u first [] ≡ []
nothing_runs y u [] = refl
nothing_runs y u (i ∷ first) = refl

pub nothing_first : (y : Layout) (u : ℕ) (first : List Instruction) (rest : List Line) → length first ≡ 0 → prologue_code y u first rest ≡ []
nothing_first y u [] rest is = refl
nothing_first y u (i ∷ first) rest is = absurd (omega arith)

pub nothing_put : {X : Type 0} (old more : List X) → more ≡ [] → old ≡ old ++ more
nothing_put old more none = sym (append-nil old) ∙ ap (λ z. old ++ z) (sym none)

pieces : {X : Type 0} (c f : List X) (b j : X) → ((c ++ b ∷ []) ++ f) ++ j ∷ [] ≡ c ++ (b ∷ (f ++ j ∷ []))
pieces [] f b j = refl
pieces (h ∷ c) f b j = ap (λ z. h ∷ z) (pieces c f b j)

prologue_is : (y : Layout) (u : ℕ) (first : List Instruction) (s : Line) (rest : List Line) → 0 < length first → prologue_code y u first (s ∷ rest) ≡ Begin s.place ∷ (first ++ Jump (suc (place_of y u (s ∷ rest))) ∷ [])
prologue_is y u [] s rest is = absurd (omega arith)
prologue_is y u (i ∷ first) s rest is = refl

pub prologue_put : {A E : Type 0} (y : Layout) (u : ℕ) (first : List Instruction) (result : Result A E) (old begun opened new : List Op) (runs : List Line) (s : Line) (rest : List Line) (entry : ℕ) →
    0 < length first → runs ≡ s ∷ rest → entry ≡ place_of y u (s ∷ rest) + 1 → code_of begun ≡ code_of old ++ Begin s.place ∷ [] → code_of opened ≡ code_of begun ++ first →
    OnOk result (code_of new ≡ code_of opened ++ Jump entry ∷ []) → OnOk result (code_of new ≡ code_of old ++ prologue_code y u first runs)
prologue_put y u first result old begun opened new runs s rest entry some runs_from enters s1 s2 s3 =
    let next : entry ≡ suc (place_of y u (s ∷ rest)) = omega arith in
    on_ok_weaker result (λ k. k ∙ ap (λ z. z ++ Jump entry ∷ []) (s2 ∙ ap (λ z. z ++ first) s1) ∙ pieces (code_of old) first (Begin s.place) (Jump entry)
    ∙ ap (λ n. code_of old ++ (Begin s.place ∷ (first ++ Jump n ∷ []))) next
    ∙ ap (λ z. code_of old ++ z) (sym (prologue_is y u first s rest some)) ∙ ap (λ r. code_of old ++ prologue_code y u first r) (sym runs_from)) s3

-- the first statement that is executed
module _ (y : Layout) (u : ℕ) (all : List Stmt) (lines : List Line) (is : lines_of all ≡ lines) (n : ℕ) (runs : runnable (lines_of all) ≡ lines_of (drop n all)) where
  pub none_runs : (first : List Instruction) → length all ≤ n → prologue_code y u first (runnable lines) ≡ []
  none_runs first past =
      ap (λ ls. prologue_code y u first (runnable ls)) (sym is) ∙ ap (prologue_code y u first) (runs ∙ ap lines_of (drop_all n all past)) ∙ nothing_runs y u first

  module _ (s : Stmt) (within : n < length all) (here : s ≡ get_or all n s) where
    pub runs_at : runnable lines ≡ line_of s ∷ lines_of (drop (n + 1) all)
    runs_at = ap runnable (sym is) ∙ runs ∙ ap lines_of (drop_at all n s within here)

    pub enters_at : (place entry : ℕ) → place ≡ place_of y u (drop n lines) → entry ≡ place + 1 → entry ≡ place_of y u (line_of s ∷ lines_of (drop (n + 1) all)) + 1
    enters_at place entry placed enters =
        enters ∙ ap (λ m. m + 1) (placed ∙ ap (place_of y u) (lines_from all lines n n is refl ∙ ap lines_of (drop_at all n s within here)))

prologue_length : (y : Layout) (u : ℕ) (first : List Instruction) (rest : List Line) → length (prologue_code y u first rest) ≡ prologue_size first rest
prologue_length y u [] rest = refl
prologue_length y u (i ∷ first) [] = refl
prologue_length y u (i ∷ first) (s ∷ rest) = let h = length-append first (Jump (suc (place_of y u (s ∷ rest))) ∷ []) in omega arith

pub unit_length : (y : Layout) (u : ℕ) → length (unit_code y u) ≡ unit_size y u
unit_length y u =
    let opening = prologue_code y u (first_code y u) (runnable (y.lines u)) in
    omega (arith, length-append opening (body_code y u (y.lines u)), prologue_length y u (first_code y u) (runnable (y.lines u)), body_length y u (y.lines u))

-- the statements stand behind it
pub body_stands : (y : Layout) (u : ℕ) (old new : List Op) → length old ≡ y.entry u → code_of new ≡ code_of old ++ prologue_code y u (first_code y u) (runnable (y.lines u)) → length new + body_size y u (y.lines u) ≡ stop y u
body_stands y u old new enters put =
    let first = first_code y u in
    let rest = runnable (y.lines u) in
    let h = ended old new (prologue_code y u first rest) (prologue_size first rest) put (prologue_length y u first rest) in
    omega arith

-- how much stands before the statements
pub nothing_long : (first : List Instruction) (rest : List Line) → length first ≡ 0 → prologue_size first rest ≡ 0
nothing_long [] rest is = refl
nothing_long (i ∷ first) rest is = absurd (omega arith)

none_long : (first : List Instruction) → prologue_size first [] ≡ 0
none_long [] = refl
none_long (i ∷ first) = refl

pub none_runs_long : (all : List Stmt) (lines : List Line) (n : ℕ) (first : List Instruction) → lines_of all ≡ lines → runnable (lines_of all) ≡ lines_of (drop n all) → length all ≤ n → prologue_size first (runnable lines) ≡ 0
none_runs_long all lines n first is runs past =
    ap (λ ls. prologue_size first (runnable ls)) (sym is) ∙ ap (prologue_size first) (runs ∙ ap lines_of (drop_all n all past)) ∙ none_long first

long : (first : List Instruction) (s : Line) (rest : List Line) → 0 < length first → prologue_size first (s ∷ rest) ≡ length first + 2
long [] s rest is = absurd (omega arith)
long (i ∷ first) s rest is = omega arith

-- some statement is executed
some_left : (all : List Stmt) → 0 < length all → (s : Stmt) × ((rest : List Stmt) × (all ≡ s ∷ rest))
some_left [] is = absurd (omega arith)
some_left (s ∷ rest) is = (s, (rest, refl))

pub some_long : (all : List Stmt) (lines : List Line) (n : ℕ) (first : List Instruction) → lines_of all ≡ lines → runnable (lines_of all) ≡ lines_of (drop n all) → n < length all → 0 < length first → prologue_size first (runnable lines) ≡ length first + 2
some_long all lines n first is runs within some =
    let left = some_left (drop n all) (omega (arith, length-drop n all)) in
    ap (λ ls. prologue_size first (runnable ls)) (sym is) ∙ ap (prologue_size first) (runs ∙ ap lines_of left.1.1) ∙ long first (line_of left.0) (lines_of left.1.0) some

pub prologue_sized : {E : Type 0} (result : Result ℕ E) (first : List Instruction) (rest : List Line) (size : ℕ) → size ≡ length first → prologue_size first rest ≡ length first + 2 → IfOk result (λ n. n ≡ size + 2) → IfOk result (λ n. n ≡ prologue_size first rest)
prologue_sized (Ok n) first rest size is whole sum = omega arith
prologue_sized (Err e) first rest size is whole sum = sum
