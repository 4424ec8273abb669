-- The code of the statements of a unit, put behind other code: where each stands.
use Rattle.std.proofs.Common.{◌≡◌, cond, ◌++◌, ℕ, ◌+◌, ◌-◌, ◌<◌, ◌≤◌, Bool, true, false, List, [], ◌∷◌, length, Result, OnOk, refl, ap, sym, ◌∙◌, append_assoc, arith, length-append, drop, get_or}
use Rattle.std.proofs.lemmas.List.{drop_all, drop-map}
use Rattle.std.proofs.lemmas.Result.{on_ok_weaker}
use Rattle.f66_tree.specs.declared.statement.Stmt.{Stmt}
use Rattle.f66_tree.specs.Syntax.{Line}
use Rattle.f66_tree.specs.Units.{is_note}
use Rattle.f66_tree.specs.Execution.{Closer}
use Rattle.f66_tree.specs.Views.{line_of, lines_of}
use Rattle.stack_code.specs.declared.op.Op.{Op}
use Rattle.stack_code.specs.Instructions.{Instruction, Begin}
use Rattle.stack_code.specs.Views.{code_of}
use Rattle.code_gen.specs.Layout.{Layout}
use Rattle.code_gen.specs.Statements.{act_code, act_size, body_code, body_size, enders, leave_code, line_size, stop, turns_code, turns_place, turns_size}
use Rattle.code_gen.proofs.Lengths.{act_length, turns_length}
use Rattle.code_emit.proofs.ListLemmas.{drop_at, ended}

-- ---- a statement ----

abbrev pub line_code : Layout → ℕ → Line → List Line → List Instruction
line_code y u s rest = Begin s.place ∷ (act_code y u (length rest) (turns_place y u s rest) s.place s.act ++ turns_code y u (enders y u s))

pub line_length : (y : Layout) (u : ℕ) (s : Line) (rest : List Line) → length (line_code y u s rest) ≡ line_size y u s
line_length y u s rest =
    let act = act_code y u (length rest) (turns_place y u s rest) s.place s.act in
    let turns = turns_code y u (enders y u s) in
    omega (arith, length-append act turns, act_length y u (length rest) (turns_place y u s rest) s.place s.act, turns_length y u (enders y u s))

pieces : {X : Type 0} (c a t : List X) (b : X) → ((c ++ b ∷ []) ++ a) ++ t ≡ c ++ (b ∷ (a ++ t))
pieces [] a t b = refl
pieces (h ∷ c) a t b = ap (λ z. h ∷ z) (pieces c a t b)

-- pieces that are put one after the other
put_pieces : {X : Type 0} (old begun acted new : List X) (b : X) (act1 act2 turns1 turns2 : List X) → begun ≡ old ++ b ∷ [] → acted ≡ begun ++ act1 → act1 ≡ act2 → turns1 ≡ turns2 → new ≡ acted ++ turns1 → new ≡ old ++ (b ∷ (act2 ++ turns2))
put_pieces old begun acted new b act1 act2 turns1 turns2 s1 s2 ea et s3 =
    s3 ∙ ap (λ z. acted ++ z) et ∙ ap (λ z. z ++ turns2) (s2 ∙ ap (λ z. begun ++ z) ea ∙ ap (λ z. z ++ act2) s1) ∙ pieces old act2 turns2 b

put_before : {X : Type 0} (old new line rest body : List X) → line ++ rest ≡ body → new ≡ old ++ line → new ++ rest ≡ old ++ body
put_before old new line rest body e s = ap (λ z. z ++ rest) s ∙ append_assoc old line rest ∙ ap (λ z. old ++ z) e

module _ (y : Layout) (u : ℕ) (s : Line) (rest : List Line) (ks : List Closer) (size place at : ℕ) (ends : ks ≡ enders y u s) (sized : size ≡ turns_size ks) (placed : place ≡ stop y u - body_size y u rest)
    (whole : at + (line_size y u s + body_size y u rest) ≡ stop y u) where
  same_size : size ≡ turns_size (enders y u s)
  same_size = sized ∙ ap turns_size ends

  pub turns_fit : size ≤ place
  turns_fit = let e = same_size in omega arith

  pub turns_begin : place - size ≡ turns_place y u s rest
  turns_begin = let e = same_size in omega arith

  pub act_ends : (old begun : List Op) → length old ≡ at → code_of begun ≡ code_of old ++ Begin s.place ∷ [] → length begun + act_size y u s.act ≡ place - size
  act_ends old begun here put =
      let e = same_size in
      let h = ended old begun (Begin s.place ∷ []) 1 put refl in
      omega arith

  pub line_put : {A E : Type 0} (result : Result A E) (old begun acted new : List Op) (key : ℕ) → key ≡ length rest → code_of begun ≡ code_of old ++ Begin s.place ∷ [] →
      code_of acted ≡ code_of begun ++ act_code y u key (place - size) s.place s.act → OnOk result (code_of new ≡ code_of acted ++ turns_code y u ks) → OnOk result (code_of new ≡ code_of old ++ line_code y u s rest)
  line_put result old begun acted new key counted s1 s2 s3 =
      let act : ℕ → ℕ → List Instruction = λ k n. act_code y u k n s.place s.act in
      let same : act key (place - size) ≡ act (length rest) (turns_place y u s rest) = ap (λ k. act k (place - size)) counted ∙ ap (λ n. act (length rest) n) turns_begin in
      on_ok_weaker {P = code_of new ≡ code_of acted ++ turns_code y u ks} {Q = code_of new ≡ code_of old ++ line_code y u s rest} result
      (put_pieces (code_of old) (code_of begun) (code_of acted) (code_of new) (Begin s.place) (act key (place - size)) (act (length rest) (turns_place y u s rest)) (turns_code y u ks) (turns_code y u (enders y u s)) s1 s2 same (ap (turns_code y u) ends)) s3

-- ---- several ----

module _ (y : Layout) (u : ℕ) (s : Line) (rest : List Line) where
  abbrev all_code : List Instruction
  all_code = Begin s.place ∷ (act_code y u (length rest) (turns_place y u s rest) s.place s.act ++ (turns_code y u (enders y u s) ++ body_code y u rest))

  sized : (b : Bool) → is_note s.act ≡ b → body_size y u (s ∷ rest) ≡ cond b (body_size y u rest) (line_size y u s + body_size y u rest)
  sized b is = ap (λ c. cond c (body_size y u rest) (line_size y u s + body_size y u rest)) is

  coded : (b : Bool) → is_note s.act ≡ b → body_code y u (s ∷ rest) ≡ cond b (body_code y u rest) all_code
  coded b is = ap (λ c. cond c (body_code y u rest) all_code) is

  -- a statement that is executed
  pub executed_ends : is_note s.act ≡ false → (at : ℕ) → at + body_size y u (s ∷ rest) ≡ stop y u → at + (line_size y u s + body_size y u rest) ≡ stop y u
  executed_ends is at ends = ap (λ n. at + n) (sym (sized false is)) ∙ ends

  pub executed_size : {A E : Type 0} (result : Result A E) → is_note s.act ≡ false → (old new : List Op) → length old + body_size y u (s ∷ rest) ≡ stop y u → OnOk result (code_of new ≡ code_of old ++ line_code y u s rest) → OnOk result (length new + body_size y u rest ≡ stop y u)
  executed_size result is old new ends put =
      let whole = executed_ends is (length old) ends in
      on_ok_weaker result (λ k. let h = ended old new (line_code y u s rest) (line_size y u s) k (line_length y u s rest) in omega arith) put

  then_rest : is_note s.act ≡ false → line_code y u s rest ++ body_code y u rest ≡ body_code y u (s ∷ rest)
  then_rest is =
      let act = act_code y u (length rest) (turns_place y u s rest) s.place s.act in
      let turns = turns_code y u (enders y u s) in
      ap (λ z. Begin s.place ∷ z) (append_assoc act turns (body_code y u rest)) ∙ sym (coded false is)

  pub executed_code : {A E : Type 0} (result : Result A E) → is_note s.act ≡ false → (old new : List Op) → OnOk result (code_of new ≡ code_of old ++ line_code y u s rest) → OnOk result (code_of new ++ body_code y u rest ≡ code_of old ++ body_code y u (s ∷ rest))
  executed_code result is old new put =
      on_ok_weaker {P = code_of new ≡ code_of old ++ line_code y u s rest} {Q = code_of new ++ body_code y u rest ≡ code_of old ++ body_code y u (s ∷ rest)} result
      (put_before (code_of old) (code_of new) (line_code y u s rest) (body_code y u rest) (body_code y u (s ∷ rest)) (then_rest is)) put

  -- one that is not
  pub passed_size : is_note s.act ≡ true → (at : ℕ) → at + body_size y u (s ∷ rest) ≡ stop y u → at + body_size y u rest ≡ stop y u
  passed_size is at ends = ap (λ n. at + n) (sym (sized true is)) ∙ ends

  pub passed_code : is_note s.act ≡ true → (old : List Op) → code_of old ++ body_code y u rest ≡ code_of old ++ body_code y u (s ∷ rest)
  passed_code is old = ap (λ z. code_of old ++ z) (sym (coded true is))

-- the statements from one on, as lines
pub lines_from : (all : List Stmt) (lines : List Line) (n i : ℕ) → lines_of all ≡ lines → n ≡ i → drop n lines ≡ lines_of (drop i all)
lines_from all lines n i is same = ap (λ m. drop m lines) same ∙ ap (drop i) (sym is) ∙ drop-map line_of i all

pub lines_at : (all : List Stmt) (lines : List Line) (n i : ℕ) (s : Stmt) → lines_of all ≡ lines → n ≡ i + 1 → i < length all → s ≡ get_or all i s → lines_of (drop i all) ≡ line_of s ∷ drop n lines
lines_at all lines n i s is same within here = ap lines_of (drop_at all i s within here) ∙ ap (λ ls. line_of s ∷ ls) (sym (lines_from all lines n (i + 1) is same))

-- the end of the unit
put_end : {X : Type 0} (first old new leave rest all all2 : List X) → rest ≡ leave → old ++ rest ≡ first ++ all → all ≡ all2 → new ≡ old ++ leave → new ≡ first ++ all2
put_end first old new leave rest all all2 ends before same s = s ∙ ap (λ z. old ++ z) (sym ends) ∙ before ∙ ap (λ z. first ++ z) same

pub body_end : {A E : Type 0} (result : Result A E) (y : Layout) (u : ℕ) (all : List Stmt) (lines : List Line) (i : ℕ) (first old new : List Op) → lines_of all ≡ lines → length all ≤ i → code_of old ++ body_code y u (lines_of (drop i all)) ≡ code_of first ++ body_code y u (lines_of all) →
    OnOk result (code_of new ≡ code_of old ++ leave_code y u ∷ []) → OnOk result (code_of new ≡ code_of first ++ body_code y u lines)
body_end result y u all lines i first old new is past before put =
    on_ok_weaker {P = code_of new ≡ code_of old ++ leave_code y u ∷ []} {Q = code_of new ≡ code_of first ++ body_code y u lines} result
    (put_end (code_of first) (code_of old) (code_of new) (leave_code y u ∷ []) (body_code y u (lines_of (drop i all))) (body_code y u (lines_of all)) (body_code y u lines) (ap (λ ss. body_code y u (lines_of ss)) (drop_all i all past)) before (ap (body_code y u) is)) put

body_by : (y : Layout) (u : ℕ) (s : Line) (rest : List Line) (b : Bool) → length (body_code y u rest) ≡ body_size y u rest → length (cond b (body_code y u rest) (Begin s.place ∷ (act_code y u (length rest) (turns_place y u s rest) s.place s.act ++ (turns_code y u (enders y u s) ++ body_code y u rest)))) ≡ cond b (body_size y u rest) (line_size y u s + body_size y u rest)
body_by y u s rest true more = more
body_by y u s rest false more =
    let act = act_code y u (length rest) (turns_place y u s rest) s.place s.act in
    let turns = turns_code y u (enders y u s) in
    omega (arith, length-append act (turns ++ body_code y u rest), length-append turns (body_code y u rest), act_length y u (length rest) (turns_place y u s rest) s.place s.act, turns_length y u (enders y u s))

pub body_length : (y : Layout) (u : ℕ) (rest : List Line) → length (body_code y u rest) ≡ body_size y u rest
body_length y u [] = refl
body_length y u (s ∷ rest) = body_by y u s rest (is_note s.act) (body_length y u rest)
