-- Where the code of each statement of a unit begins.
use Rattle.std.proofs.Common.{◌≡◌, ◌≤◌, cond, ℕ, suc, zero, ◌+◌, ◌-◌, ◌<◌, Bool, true, false, List, [], ◌∷◌, ◌++◌, length, drop, get_or, Some, None, slice_get, Result, Ok, Err, IfOk, refl, ap, sym, ◌∙◌, append_assoc, arith}
use Rattle.std.proofs.lemmas.List.{drop_all}
use Rattle.f66_tree.specs.declared.statement.Stmt.{Stmt}
use Rattle.f66_tree.specs.Syntax.{Line}
use Rattle.f66_tree.specs.Units.{is_note}
use Rattle.f66_tree.specs.Execution.{runnable}
use Rattle.f66_tree.specs.Views.{line_of, lines_of}
use Rattle.code_gen.specs.Layout.{Layout}
use Rattle.code_gen.specs.Statements.{body_size, enders, first_code, line_size, place_of, prologue_size, turns_size, unit_size}
use Rattle.code_emit.specs.Places.{size_at, starts, starts_from}
use Rattle.code_emit.specs.Sizes.{act_size}
use Rattle.code_emit.proofs.ListLemmas.{drop_at}
use Rattle.code_emit.proofs.SizeLemmas.{act_sized}

sized_by : (b : Bool) (n m : ℕ) → cond b m (n + m) ≡ cond b 0 n + m
sized_by true n m = omega arith
sized_by false n m = refl

pub sized : (y : Layout) (u : ℕ) (s : Line) (rest : List Line) → body_size y u (s ∷ rest) ≡ size_at y u s + body_size y u rest
sized y u s rest = sized_by (is_note s.act) (line_size y u s) (body_size y u rest)

module _ (y : Layout) (u : ℕ) (all : List Stmt) (i : ℕ) (s : Stmt) (within : i < length all) (here : s ≡ get_or all i s) (at size next : ℕ) where
  pub starts_more : (before whole : List ℕ) → size ≡ size_at y u (line_of s) → next ≡ at + size → before ++ starts_from y u at (lines_of (drop i all)) ≡ whole → (before ++ at ∷ []) ++ starts_from y u next (lines_of (drop (i + 1) all)) ≡ whole
  starts_more before whole is sum so_far =
      append_assoc before (at ∷ []) (starts_from y u next (lines_of (drop (i + 1) all)))
      ∙ ap (λ n. before ++ at ∷ starts_from y u n (lines_of (drop (i + 1) all))) (sum ∙ ap (λ n. at + n) is)
      ∙ ap (λ ss. before ++ starts_from y u at (lines_of ss)) (sym (drop_at all i s within here))
      ∙ so_far

  pub counted_more : (whole : ℕ) → size ≡ size_at y u (line_of s) → next ≡ at + size → at + body_size y u (lines_of (drop i all)) ≡ whole → next + body_size y u (lines_of (drop (i + 1) all)) ≡ whole
  counted_more whole is sum so_far =
      let e = ap (λ ss. body_size y u (lines_of ss)) (drop_at all i s within here) ∙ sized y u (line_of s) (lines_of (drop (i + 1) all)) in
      omega arith

module _ (y : Layout) (u : ℕ) (all : List Stmt) (i : ℕ) (past : length all ≤ i) (at : ℕ) where
  starts_end : (before whole : List ℕ) → before ++ starts_from y u at (lines_of (drop i all)) ≡ whole → before ++ at ∷ [] ≡ whole
  starts_end before whole so_far = ap (λ ss. before ++ starts_from y u at (lines_of ss)) (sym (drop_all i all past)) ∙ so_far

  counted_end : (whole : ℕ) → at + body_size y u (lines_of (drop i all)) ≡ whole → at + 1 ≡ whole
  counted_end whole so_far = ap (λ ss. at + body_size y u (lines_of ss)) (sym (drop_all i all past)) ∙ so_far

  pub starts_whole : (lines : List Line) (first : ℕ) (before : List ℕ) → lines_of all ≡ lines → before ++ starts_from y u at (lines_of (drop i all)) ≡ starts_from y u first (lines_of all) → before ++ at ∷ [] ≡ starts_from y u first lines
  starts_whole lines first before is so_far = starts_end before (starts_from y u first (lines_of all)) so_far ∙ ap (starts_from y u first) is

  pub size_whole : (first size : ℕ) → lines_of all ≡ y.lines u → size ≡ at + 1 → first ≡ prologue_size (first_code y u) (runnable (y.lines u)) → at + body_size y u (lines_of (drop i all)) ≡ first + body_size y u (lines_of all) → size ≡ unit_size y u
  size_whole first size is sum begin so_far =
      let e = counted_end (first + body_size y u (lines_of all)) so_far in
      let f = ap (body_size y u) is in
      omega arith

-- a statement begins so far behind the first, and the others end where all do
pub begins : (y : Layout) (u at : ℕ) (lines : List Line) (n o : ℕ) → slice_get (starts_from y u at lines) n ≡ Some o → o + body_size y u (drop n lines) ≡ at + body_size y u lines
begins y u at [] zero o is = (let e : at ≡ o = (cc) in omega arith)
begins y u at [] (suc n) o is = (cc)
begins y u at (s ∷ lines) zero o is = (let e : at ≡ o = (cc) in omega arith)
begins y u at (s ∷ lines) (suc n) o is = (let e = begins y u (at + size_at y u s) lines n o is in let f = sized y u s lines in omega arith)

-- ---- a unit whose statements have their places ----

-- a statement's place, by how far behind its unit's entry it begins
pub place_by : (y : Layout) (u n o : ℕ) → slice_get (starts y u) n ≡ Some o → y.entry u + o ≡ place_of y u (drop n (y.lines u))
place_by y u n o is = let e = begins y u (prologue_size (first_code y u) (runnable (y.lines u))) (y.lines u) n o is in omega arith

some_by : (b : Bool) (n m : ℕ) → 0 < m → 0 < cond b m (n + m)
some_by true n m h = h
some_by false n m h = omega arith

body_some : (y : Layout) (u : ℕ) (lines : List Line) → 0 < body_size y u lines
body_some y u [] = omega arith
body_some y u (s ∷ lines) = some_by (is_note s.act) (line_size y u s) (body_size y u lines) (body_some y u lines)

pub some_size : (y : Layout) (u : ℕ) → 0 < unit_size y u
some_size y u = let h = body_some y u (y.lines u) in omega arith

pub start_within : (y : Layout) (u n o : ℕ) → slice_get (starts y u) n ≡ Some o → o < unit_size y u
start_within y u n o is =
    let e = begins y u (prologue_size (first_code y u) (runnable (y.lines u))) (y.lines u) n o is in
    let h = body_some y u (drop n (y.lines u)) in
    omega arith

-- behind the last statement
pub place_end : (y : Layout) (u entry size : ℕ) → entry ≡ y.entry u → size ≡ unit_size y u → entry + (size - 1) ≡ place_of y u []
place_end y u entry size enters is = let h = some_size y u in omega arith

pub none_starts : (y : Layout) (u at : ℕ) (lines : List Line) (n : ℕ) → slice_get (starts_from y u at lines) n ≡ None → length lines ≤ n
none_starts y u at [] zero is = (cc)
none_starts y u at [] (suc n) is = omega arith
none_starts y u at (s ∷ lines) zero is = (cc)
none_starts y u at (s ∷ lines) (suc n) is = (let h = none_starts y u (at + size_at y u s) lines n is in omega arith)

pub place_behind : (y : Layout) (u n : ℕ) → slice_get (starts y u) n ≡ None → place_of y u [] ≡ place_of y u (drop n (y.lines u))
place_behind y u n is =
    let past = none_starts y u (prologue_size (first_code y u) (runnable (y.lines u))) (y.lines u) n is in
    ap (place_of y u) (sym (drop_all n (y.lines u) past))

-- how long a statement is, with the turns at it
pub note_sized : (y : Layout) (u : ℕ) (s : Line) → is_note s.act ≡ true → 0 ≡ size_at y u s
note_sized y u s is = sym (ap (λ b. cond b 0 (line_size y u s)) is)

pub statement_sized : {E : Type 0} (result : Result ℕ E) (y : Layout) (u : ℕ) (s : Line) (act turns both : ℕ) → is_note s.act ≡ false → act ≡ act_size y u s.act → turns ≡ turns_size (enders y u s) → both ≡ act + turns → IfOk result (λ n. n ≡ both + 1) → IfOk result (λ n. n ≡ size_at y u s)
statement_sized (Ok n) y u s act turns both executed acts ends sum k =
    let e : size_at y u s ≡ line_size y u s = ap (λ b. cond b 0 (line_size y u s)) executed in
    let f = act_sized y u s.act in
    omega arith
statement_sized (Err n) y u s act turns both executed acts ends sum k = k
