-- The statements from one of a unit on: where labels lead, where a unit begins, and what is behind a DO.
use Rattle.std.proofs.Common.{◌≡◌, cond, ◌⊎◌, inl, inr, ℕ, suc, ◌≤◌, nat_eq, Bool, true, false, List, [], ◌∷◌, ◌++◌, length, Option, Some, None, refl, sym, subst, arith}
use Rattle.f66_tree.specs.Syntax.{Act, Loop, Line}
use Rattle.f66_tree.specs.Units.{is_note}
use Rattle.f66_tree.specs.Execution.{runnable, has_label, from_label, Closer, closer_of, closers, closers_at}
use Rattle.code_gen.specs.Layout.{Layout}
use Rattle.code_gen.specs.Statements.{ends_by, enders}

abbrev pub IsTail : List Line → List Line → Type 0
IsTail rest [] = rest ≡ []
IsTail rest (s ∷ lines) = (rest ≡ s ∷ lines) ⊎ IsTail rest lines

pub itself : (lines : List Line) → IsTail lines lines
itself [] = refl
itself (s ∷ lines) = inl refl

pub tail_of : (s : Line) (rest lines : List Line) → IsTail (s ∷ rest) lines → IsTail rest lines
tail_of s rest [] h = absurd (let q : ⊥ = cc in q)
tail_of s rest (t ∷ lines) (inl h) = let q : rest ≡ lines = cc in inr (subst (λ r. IsTail r lines) (sym q) (itself lines))
tail_of s rest (t ∷ lines) (inr h) = inr (tail_of s rest lines h)

pub tail_long : (rest lines : List Line) → IsTail rest lines → length rest ≤ length lines
tail_long rest [] h = subst (λ r. length r ≤ 0) (sym h) (omega arith)
tail_long rest (s ∷ lines) (inl h) = subst (λ r. length r ≤ suc (length lines)) (sym h) (omega arith)
tail_long rest (s ∷ lines) (inr h) = let le = tail_long rest lines h in omega arith

by_if : (b : Bool) (a r : List Line) (s : Line) (lines : List Line) → a ≡ s ∷ lines → IsTail r lines → IsTail (cond b a r) (s ∷ lines)
by_if true a r s lines e h = inl e
by_if false a r s lines e h = inr h

by_note : (b : Bool) (a r : List Line) (s : Line) (lines : List Line) → a ≡ s ∷ lines → IsTail r lines → IsTail (cond b r a) (s ∷ lines)
by_note true a r s lines e h = inr h
by_note false a r s lines e h = inl e

pub from_tail : (l : ℕ) (lines : List Line) → IsTail (from_label l lines) lines
from_tail l [] = refl
from_tail l (s ∷ lines) = by_if (has_label l s.label) (s ∷ lines) (from_label l lines) s lines refl (from_tail l lines)

pub runnable_tail : (lines : List Line) → IsTail (runnable lines) lines
runnable_tail [] = refl
runnable_tail (s ∷ lines) = by_note (is_note s.act) (s ∷ lines) (runnable lines) s lines refl (runnable_tail lines)

-- what is behind a DO
abbrev pub IsInner : List Line → List Line → Type 0
IsInner rest lines = IsTail rest lines × (suc (length rest) ≤ length lines)

-- behind each of some DO statements
abbrev pub AllInner : List Closer → List Line → Type 0
AllInner [] lines = Unit {0}
AllInner (k ∷ ks) lines = IsInner k.inner lines × AllInner ks lines

inner_append : (ks js : List Closer) (lines : List Line) → AllInner ks lines → AllInner js lines → AllInner (ks ++ js) lines
inner_append [] js lines h g = g
inner_append (k ∷ ks) js lines h g = (h.0, inner_append ks js lines h.1 g)

inner_if : (b : Bool) (k : Closer) (found : List Closer) (lines : List Line) → IsInner k.inner lines → AllInner found lines → AllInner (cond b (found ++ k ∷ []) found) lines
inner_if true k found lines h all = inner_append found (k ∷ []) lines all (h, tt)
inner_if false k found lines h all = all

inner_by : (l : ℕ) (a : Act) (rest : List Line) (found : List Closer) (lines : List Line) → IsInner rest lines → AllInner found lines → AllInner (closer_of l a rest found) lines
inner_by l (Loop m x p q r) rest found lines h all = inner_if (nat_eq m l) (record { variable = x; inner = rest }) found lines h all
inner_by l _ rest found lines h all = all

closers_inner : (l : ℕ) (rest lines : List Line) → IsTail rest lines → AllInner (closers l rest) lines
closers_inner l [] lines h = tt
closers_inner l (s ∷ rest) lines h =
    let t = tail_of s rest lines h in
    inner_by l s.act rest (closers l rest) lines (t, tail_long (s ∷ rest) lines h) (closers_inner l rest lines t)

closers_at_inner : (o : Option ℕ) (lines : List Line) → AllInner (closers_at o lines) lines
closers_at_inner None lines = tt
closers_at_inner (Some l) lines = closers_inner l lines lines (itself lines)

ends_inner : (a : Act) (ks : List Closer) (lines : List Line) → AllInner ks lines → AllInner (ends_by a ks) lines
ends_inner (Loop m x p q r) ks lines h = tt
ends_inner _ ks lines h = h

pub enders_inner : (y : Layout) (u : ℕ) (s : Line) → AllInner (enders y u s) (y.lines u)
enders_inner y u s = ends_inner s.act (closers_at s.label (y.lines u)) (y.lines u) (closers_at_inner s.label (y.lines u))

-- the first of some statements is executed, where there is one
abbrev pub StartsRunning : List Line → Type 0
StartsRunning [] = Unit {0}
StartsRunning (s ∷ rest) = is_note s.act ≡ false

starts_by : (b : Bool) (s : Line) (rest : List Line) → is_note s.act ≡ b → StartsRunning (runnable rest) → StartsRunning (cond b (runnable rest) (s ∷ rest))
starts_by true s rest is h = h
starts_by false s rest is h = is

pub starts_running : (lines : List Line) → StartsRunning (runnable lines)
starts_running [] = tt
starts_running (s ∷ rest) = starts_by (is_note s.act) s rest refl (starts_running rest)
