-- DO loops by the labels at which they end, and statements by their labels.
use Rattle.std.proofs.Common.{◌≡◌, ◌≤◌, cond, ℕ, ◌+◌, ◌<◌, Bool, true, false, nat_eq, List, [], ◌∷◌, ◌++◌, drop, length, get_or, Option, Some, None, Vec, refl, sym, ◌∙◌, ap, subst, map, add-one}
use Rattle.std.specs.Borrow.{Bor}
use Rattle.std.specs.HashMap.{HashMap, get}
use Rattle.std.specs.Option.{option_map}
use Rattle.std.specs.declared.alloc.Global.{Global}
use Rattle.std.proofs.lemmas.List.{drop_all, drop-drop, map-append}
use Rattle.rule_table.specs.Words.{first_place}
use Rattle.f66_tree.specs.declared.statement.Stmt.{Stmt}
use Rattle.f66_tree.specs.Syntax.{Text, Act, Loop, Line}
use Rattle.f66_tree.specs.Execution.{Closer, closer_of, closers, has_label, from_label}
use Rattle.f66_tree.specs.Views.{act_of, lines_of}
use Rattle.code_emit.specs.declared.coded_unit.Turn.{Turn}
use Rattle.code_emit.specs.Turns.{AreNoted, closer_in, listed, loop_by, loop_of, loops_from, noted, turn_seen}
use Rattle.code_emit.proofs.ListLemmas.{drop_at}

-- ---- a table of loops ----

module _ (all : List Stmt) (i : ℕ) (s : Stmt) (within : i < length all) (here : s ≡ get_or all i s) where
  abbrev rest : List Line
  rest = lines_of (drop (i + 1) all)

  from_line : (l : ℕ) → loops_from l i (lines_of (drop i all)) ≡ loop_by l (act_of s.kind) (i + 1) (loops_from l (i + 1) rest)
  from_line l = ap (λ ss. loops_from l i (lines_of ss)) (drop_at all i s within here)

  -- the statement is no DO
  pub noted_same : {S : Type 0} (table : HashMap ℕ (Vec Turn Global) S) → ((l behind : ℕ) (found : List (Text × ℕ)) → loop_by l (act_of s.kind) behind found ≡ loop_of l None behind found) →
      AreNoted table (i + 1) rest → AreNoted table i (lines_of (drop i all))
  noted_same table is so_far l = so_far l ∙ sym (is l (i + 1) (loops_from l (i + 1) rest)) ∙ sym (from_line l)

  -- the statement is a DO that ends at the label m
  module _ (m : ℕ) (x : Bor (List ℕ)) (is : (l behind : ℕ) (found : List (Text × ℕ)) → loop_by l (act_of s.kind) behind found ≡ loop_of l (Some (m, x)) behind found) where
    abbrev turn : Turn
    turn = record { variable = x; behind = i + 1 }

    seen_by : (turns : List Turn) (found : List (Text × ℕ)) (b : Bool) → map turn_seen turns ≡ found → map turn_seen (cond b (turns ++ turn ∷ []) turns) ≡ cond b (found ++ (x.now, i + 1) ∷ []) found
    seen_by turns found true so_far = map-append turn_seen turns (turn ∷ []) ∙ ap (λ ts. ts ++ (x.now, i + 1) ∷ []) so_far
    seen_by turns found false so_far = so_far

    pub noted_more : {S : Type 0} (table more : HashMap ℕ (Vec Turn Global) S) → ((l : ℕ) → noted l more ≡ cond (nat_eq m l) (noted l table ++ turn ∷ []) (noted l table)) →
        AreNoted table (i + 1) rest → AreNoted more i (lines_of (drop i all))
    noted_more table more put so_far l =
        ap (map turn_seen) (put l) ∙ seen_by (noted l table) (loops_from l (i + 1) rest) (nat_eq m l) (so_far l) ∙ sym (is l (i + 1) (loops_from l (i + 1) rest)) ∙ sym (from_line l)

pub noted_none : {S : Type 0} (all : List Stmt) (table : HashMap ℕ (Vec Turn Global) S) (n : ℕ) → length all ≤ n → ((l : ℕ) → get nat_eq table l ≡ None) → AreNoted table n (lines_of (drop n all))
noted_none all table n past empty l =
    ap (λ o. map turn_seen (listed o)) (empty l) ∙ ap (λ ss. loops_from l n (lines_of ss)) (sym (drop_all n all past))

-- ---- what a table has ----

module _ (l : ℕ) (whole : List Line) where
  abbrev closer_at : Text × ℕ → Closer
  closer_at p = record { variable = p.0; inner = drop p.1 whole }

  one_by : (inner : List Line) (x : Text) (n : ℕ) (found : List Closer) (seen : List (Text × ℕ)) (b : Bool) → drop n whole ≡ inner → found ≡ map closer_at seen →
      cond b (found ++ (let k : Closer = record { variable = x; inner = inner } in k) ∷ []) found ≡ map closer_at (cond b (seen ++ (x, n) ∷ []) seen)
  one_by inner x n found seen true is same =
      ap (λ ks. ks ++ (let k : Closer = record { variable = x; inner = inner } in k) ∷ []) same
      ∙ ap (λ ls. map closer_at seen ++ (let k : Closer = record { variable = x; inner = ls } in k) ∷ []) (sym is)
      ∙ sym (map-append closer_at seen ((x, n) ∷ []))
  one_by inner x n found seen false is same = same

  one_closer : (a : Act) (inner : List Line) (n : ℕ) (found : List Closer) (seen : List (Text × ℕ)) → drop n whole ≡ inner → found ≡ map closer_at seen → closer_of l a inner found ≡ map closer_at (loop_by l a n seen)
  one_closer (Loop m x a b c) inner n found seen is same = one_by inner x n found seen (nat_eq m l) is same
  one_closer _ inner n found seen is same = same

  all_closers : (n : ℕ) (lines : List Line) → drop n whole ≡ lines → closers l lines ≡ map closer_at (loops_from l n lines)
  all_closers n [] is = refl
  all_closers n (s ∷ rest) is =
      let next : drop (n + 1) whole ≡ rest = sym (drop-drop 1 n whole) ∙ ap (drop 1) is in
      one_closer s.act rest (n + 1) (closers l rest) (loops_from l (n + 1) rest) next (all_closers (n + 1) rest next)

  seen_closers : (turns : List Turn) → map (closer_in whole) turns ≡ map closer_at (map turn_seen turns)
  seen_closers [] = refl
  seen_closers (t ∷ turns) = ap (λ ks. closer_in whole t ∷ ks) (seen_closers turns)

  pub turns_close : (turns : List Turn) → map turn_seen turns ≡ loops_from l 0 whole → map (closer_in whole) turns ≡ closers l whole
  turns_close turns is = seen_closers turns ∙ ap (map closer_at) is ∙ sym (all_closers 0 whole refl)

-- ---- labels ----

pub numbered : (l : ℕ) (all : List Stmt) → first_place (λ s. has_label l s.label) all ≡ first_place (λ s. has_label l s.label) (lines_of all)
numbered l [] = refl
numbered l (s ∷ all) = ap (λ o. cond (has_label l s.label) (Some 0) (option_map (λ n. n + 1) o)) (numbered l all)

-- where the first statement with a label is, if there is one
abbrev Points : ℕ → List Line → Option ℕ → Type 0
Points l lines None = from_label l lines ≡ []
Points l lines (Some n) = from_label l lines ≡ drop n lines

abbrev place_in : ℕ → List Line → Option ℕ
place_in l lines = first_place (λ s. has_label l s.label) lines

module _ (l : ℕ) (s : Line) (lines : List Line) where
  step : (b : Bool) → has_label l s.label ≡ b → from_label l (s ∷ lines) ≡ cond b (s ∷ lines) (from_label l lines)
  step b is = ap (λ c. cond c (s ∷ lines) (from_label l lines)) is

  later : (o : Option ℕ) → has_label l s.label ≡ false → Points l lines o → Points l (s ∷ lines) (option_map (λ n. n + 1) o)
  later None is more = step false is ∙ more
  later (Some n) is more = step false is ∙ more ∙ ap (λ m. drop m (s ∷ lines)) (sym (add-one n))

  points_by : (b : Bool) → has_label l s.label ≡ b → Points l lines (place_in l lines) → Points l (s ∷ lines) (cond b (Some 0) (option_map (λ n. n + 1) (place_in l lines)))
  points_by true is more = step true is
  points_by false is more = later (place_in l lines) is more

points : (l : ℕ) (lines : List Line) → Points l lines (place_in l lines)
points l [] = refl
points l (s ∷ lines) = points_by l s lines (has_label l s.label) refl (points l lines)

pub number_found : (l : ℕ) (lines : List Line) (o : Option ℕ) (n : ℕ) → o ≡ Some n → o ≡ first_place (λ s. has_label l s.label) lines → from_label l lines ≡ drop n lines
number_found l lines o n is at = subst (Points l lines) (sym at ∙ is) (points l lines)

pub number_none : (l : ℕ) (lines : List Line) (o : Option ℕ) → o ≡ None → o ≡ first_place (λ s. has_label l s.label) lines → from_label l lines ≡ []
number_none l lines o is at = subst (Points l lines) (sym at ∙ is) (points l lines)
