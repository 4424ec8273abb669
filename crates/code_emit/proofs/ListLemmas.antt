-- The code of lists, put behind other code: where its parts stand.
use Rattle.std.proofs.Common.{◌≡◌, ◌++◌, ℕ, zero, suc, ◌+◌, List, [], ◌∷◌, length, Vec, Global, Result, Ok, Err, IfOk, OnOk, refl, ap, sym, ◌∙◌, append_assoc, arith, length-append, drop, get_or, add-one, drop-cons, ◌<◌, ◌≤◌}
use Rattle.std.proofs.lemmas.List.{append-nil, drop_all, length-map}
use Rattle.std.proofs.lemmas.Result.{on_ok_weaker}
use Rattle.f66_tree.specs.declared.declaration.Par.{Par}
use Rattle.f66_tree.specs.declared.editing.Way.{Way}
use Rattle.f66_tree.specs.declared.statement.Entry.{Entry}
use Rattle.f66_tree.specs.declared.statement.Entry.TheVariants as entries
use Rattle.f66_tree.specs.Syntax as f66
use Rattle.f66_tree.specs.Syntax.{Text, Entries, Many}
use Rattle.f66_tree.specs.Units.{Context}
use Rattle.f66_tree.specs.Views.{par_of, entry_of, entries_of}
use Rattle.f66_tree.proofs.Rows.{many_entry}
use Rattle.stack_code.specs.declared.op.Op.{Op}
use Rattle.stack_code.specs.Instructions.{Instruction, Step, LoopTurn}
use Rattle.stack_code.specs.Views.{code_of, instruction_of}
use Rattle.code_gen.specs.Layout.{Layout}
use Rattle.code_gen.specs.Expressions.{base_code}
use Rattle.code_gen.specs.Statements.{start_code, start_size, entry_code, entry_size, items_code, entry_room, entries_room}
use Rattle.code_gen.proofs.Lengths.{start_length, entry_length}

-- how large a list is, for the end of a recursion
abbrev mutual
  pub entry_measure : f66.Entry → ℕ
  entry_measure (f66.One e) = 0
  entry_measure (Many es x a b d) = entries_measure es + 4

  pub entries_measure : Entries → ℕ
  entries_measure f66.NoEntry = 0
  entries_measure (f66.AndEntry e es) = entry_measure e + entries_measure es

pub entry_member : (all : List Entry) (i : ℕ) (e : Entry) → i < length all → e ≡ get_or all i e → entry_measure (entry_of e) ≤ entries_measure (entries_of all)
entry_member [] i e within is = absurd (omega (arith, within))
entry_member (a ∷ all) zero e within is = omega (arith, ap (λ (x : Entry). entry_measure (entry_of x)) is)
entry_member (a ∷ all) (suc i) e within is = omega (arith, entry_member all i e (omega (arith, within)) is)

-- what is said of an implied DO in memory
pub many_seen : {A : Type 0} (f : f66.Entry → A) (e : Entry) (list : Vec Entry Global) (x : Text) (a b d : Par) (seen : List Entry) → e ≡ entries.Many list x a b d → seen ≡ list.items →
    f (Many (entries_of seen) x (par_of a) (par_of b) (par_of d)) ≡ f (entry_of e)
many_seen f e list x a b d seen is at =
    ap (λ es. f (Many (entries_of es) x (par_of a) (par_of b) (par_of d))) at ∙ sym (ap (λ n. f (entry_of n)) is ∙ ap f (many_entry list x a b d))

-- the code of an implied DO in memory
pub many_put : {A E X : Type 0} (f : f66.Entry → List X) (result : Result A E) (old new : List X) (e : Entry) (list : Vec Entry Global) (x : Text) (a b d : Par) (seen : List Entry) →
    e ≡ entries.Many list x a b d → seen ≡ list.items → OnOk result (new ≡ old ++ f (Many (entries_of seen) x (par_of a) (par_of b) (par_of d))) → OnOk result (new ≡ old ++ f (entry_of e))
many_put f result old new e list x a b d seen is at put = on_ok_weaker result (λ k. k ∙ ap (λ xs. old ++ xs) (many_seen f e list x a b d seen is at)) put

-- how many spare units an implied DO takes
pub many_room : {E : Type 0} (c : Context) (result : Result ℕ E) (room : ℕ) (e : Entry) (list : Vec Entry Global) (x : Text) (a b d : Par) (seen : List Entry) →
    e ≡ entries.Many list x a b d → seen ≡ list.items → room ≡ entries_room c (entries_of seen) → IfOk result (λ n. n ≡ room + 2) → IfOk result (λ n. n ≡ entry_room c (entry_of e))
many_room c (Ok n) room e list x a b d seen is at same k = k ∙ ap (λ m. m + 2) same ∙ many_seen (entry_room c) e list x a b d seen is at
many_room c (Err n) room e list x a b d seen is at same k = k

-- where code ends that is put behind other code
pub ended : (old new : List Op) (more : List Instruction) (n : ℕ) → code_of new ≡ code_of old ++ more → length more ≡ n → length new ≡ length old + n
ended old new more n put size =
    let whole = ap length put in
    omega (arith, length-map new instruction_of, length-map old instruction_of, length-append (code_of old) more)

pub drop_at : {A : Type 0} (xs : List A) (i : ℕ) (x : A) → i < length xs → x ≡ get_or xs i x → drop i xs ≡ x ∷ drop (i + 1) xs
drop_at xs i x within is =
    let step : drop i xs ≡ get_or xs i x ∷ drop (i + 1) xs = rw add-one (drop-cons xs i x within) in
    step ∙ ap (λ z. z ∷ drop (i + 1) xs) (sym is)

-- one part of a list more
pub items_step : (y : Layout) (u : ℕ) (way : Way) (old new : List Op) (all : List Entry) (i : ℕ) (e : Entry) (whole : List Instruction) → i < length all → e ≡ get_or all i e → code_of new ≡ code_of old ++ entry_code y u way (length old) (entry_of e) →
    code_of old ++ items_code y u way (length old) (entries_of (drop i all)) ≡ whole → code_of new ++ items_code y u way (length new) (entries_of (drop (i + 1) all)) ≡ whole
items_step y u way old new all i e whole within is put before =
    let one = entry_code y u way (length old) (entry_of e) in
    let es = entries_of (drop (i + 1) all) in
    ap (λ z. z ++ items_code y u way (length new) es) put
    ∙ append_assoc (code_of old) one (items_code y u way (length new) es)
    ∙ ap (λ n. code_of old ++ (one ++ items_code y u way n es)) (ended old new one (entry_size y u way (entry_of e)) put (entry_length y u way (length old) (entry_of e)))
    ∙ ap (λ xs. code_of old ++ items_code y u way (length old) (entries_of xs)) (sym (drop_at all i e within is))
    ∙ before

-- none is left
pub items_end : (y : Layout) (u : ℕ) (way : Way) (at : ℕ) (old : List Op) (all : List Entry) (i : ℕ) (whole : List Instruction) → length all ≤ i → code_of old ++ items_code y u way at (entries_of (drop i all)) ≡ whole → code_of old ≡ whole
items_end y u way at old all i whole past before =
    sym (append-nil (code_of old)) ∙ ap (λ es. code_of old ++ items_code y u way at (entries_of es)) (sym (drop_all i all past)) ∙ before

-- pieces that are put one after the other
pieces : {X : Type 0} (c s i : List X) (p b t : X) → (((c ++ s) ++ p ∷ []) ++ i) ++ b ∷ t ∷ [] ≡ c ++ (s ++ p ∷ (i ++ b ∷ t ∷ []))
pieces [] [] i p b t = refl
pieces [] (h ∷ s) i p b t = ap (λ z. h ∷ z) (pieces [] s i p b t)
pieces (h ∷ c) s i p b t = ap (λ z. h ∷ z) (pieces c s i p b t)

module _ (y : Layout) (u : ℕ) (way : Way) (es : Entries) (x : Text) (a b d : f66.Par) (old stepped listed new : List Op) where
  -- an implied DO with these numbers behind other code
  abbrev many_with : ℕ → ℕ → ℕ → ℕ → List Instruction
  many_with limit step turn at =
      code_of old ++ (start_code y u x a b d limit step ++ Step ∷ (items_code y u way at es ++ base_code y u x ∷ LoopTurn limit step turn ∷ []))

  pub many_code : {A E : Type 0} (result : Result A E) (limit turn : ℕ) → limit ≡ y.spare u + entries_room (y.linked.context u) es → turn + 1 ≡ length stepped →
      code_of stepped ≡ code_of old ++ start_code y u x a b d limit (limit + 1) ++ Step ∷ [] → code_of listed ≡ code_of stepped ++ items_code y u way (length stepped) es →
      OnOk result (code_of new ≡ code_of listed ++ (base_code y u x ∷ LoopTurn limit (limit + 1) turn ∷ [])) → OnOk result (code_of new ≡ code_of old ++ entry_code y u way (length old) (Many es x a b d))
  many_code result limit turn first is-turn s1 s2 s3 =
      let q = y.spare u + entries_room (y.linked.context u) es in
      let start = start_code y u x a b d limit (limit + 1) in
      let size = start_size y u a b d in
      let long : length (start ++ Step ∷ []) ≡ size + 1 = (let h = start_length y u x a b d limit (limit + 1) in omega (arith, length-append start (Step ∷ []), h)) in
      let here : length stepped ≡ length old + (size + 1) = ended old stepped (start ++ Step ∷ []) (size + 1) (s1 ∙ append_assoc (code_of old) start (Step ∷ [])) long in
      let there : length stepped ≡ suc (length old + size) = omega arith in
      let turned : turn ≡ length old + size = omega arith in
      let second : limit + 1 ≡ suc q = omega arith in
      let numbers : many_with limit (limit + 1) turn (length stepped) ≡ many_with q (suc q) (length old + size) (suc (length old + size)) =
      ap (λ n. many_with n (limit + 1) turn (length stepped)) first ∙ ap (λ n. many_with q n turn (length stepped)) second
      ∙ ap (λ n. many_with q (suc q) n (length stepped)) turned ∙ ap (λ n. many_with q (suc q) (length old + size) n) there in
      let items = items_code y u way (length stepped) es in
      let base = base_code y u x in
      let before : code_of listed ≡ ((code_of old ++ start) ++ Step ∷ []) ++ items = s2 ∙ ap (λ z. z ++ items) s1 in
      on_ok_weaker result (λ k. k ∙ ap (λ z. z ++ base ∷ LoopTurn limit (limit + 1) turn ∷ []) before ∙ pieces (code_of old) start items Step base (LoopTurn limit (limit + 1) turn) ∙ numbers) s3
