-- What is ahead, at the beginning and where control goes back to.
use Rattle.std.specs.Prelude.{◌≡◌, ℕ, zero, suc, ◌+◌, true, List, [], ◌∷◌, ◌++◌, refl, Ok, Err, Option, Some, None, if◌then◌else◌}
use Rattle.std.proofs.Common.{sym, ◌∙◌, ap, subst, arith}
use Rattle.ground.specs.declared.trap.Trap.TheVariants.{FormatMismatch}
use Rattle.ground.specs.declared.value.Kind.{Kind}
use Rattle.f66_tree.specs.declared.editing.Way.{Way}
use Rattle.f66_tree.specs.declared.editing.Way.TheVariants.{Reading, Writing}
use Rattle.f66_tree.specs.declared.editing.Turn.{Turn}
use Rattle.f66_tree.specs.declared.editing.Turn.TheVariants.{RecordDone}
use Rattle.f66_tree.specs.declared.editing.Mark.TheVariants.{Between, Complete, Over}
use Rattle.f66_tree.specs.Turns.{started, hand_at, find, ended_turn}
use Rattle.format_io.specs.Answers.{line_in}
use Rattle.f66_tree.specs.Fields.{has_item, Step, Fields, NoField, Single, Group, copies, steps, again, last_group}
use Rattle.format_io.specs.Places.{size, Move, Does, Turns, moves, moves_at, visible, last_place, hand_of, NextIs}
use Rattle.format_io.proofs.Walks.{start_moves, group_behind, end_moves}

visible-append : (a b : List Move) → visible (a ++ b) ≡ visible a ++ visible b
visible-append [] b = refl
visible-append (Does s ∷ a) b = ap (λ v. s ∷ v) (visible-append a b)
visible-append (Turns ∷ a) b = visible-append a b

visible-copies : (n : ℕ) (a : List Move) → visible (copies n a) ≡ copies n (visible a)
visible-copies zero a = refl
visible-copies (suc n) a = visible-append a (copies n a) ∙ ap (λ v. visible a ++ v) (visible-copies n a)

pub visible-moves : (fs : Fields) → visible (moves fs) ≡ steps fs
visible-moves NoField = refl
visible-moves (Single n s fs) = visible-append (copies n (Does s ∷ [])) (Turns ∷ moves fs) ∙ ap (λ v. v ++ visible (moves fs)) (visible-copies n (Does s ∷ []))
    ∙ ap (λ v. copies n (s ∷ []) ++ v) (visible-moves fs)
visible-moves (Group n inside fs) = visible-append (copies n (Turns ∷ moves inside)) (Turns ∷ moves fs)
    ∙ ap (λ v. v ++ visible (moves fs)) (visible-copies n (Turns ∷ moves inside))
    ∙ ap (λ v. copies n v ++ visible (moves fs)) (visible-moves inside)
    ∙ ap (λ v. copies n (steps inside) ++ v) (visible-moves fs)

-- the beginning
pub visible_start : (fs : Fields) (counts : List ℕ) → visible (moves_at 0 fs 0 0 counts) ≡ steps fs
visible_start fs counts = ap visible (start_moves 0 fs counts) ∙ visible-moves fs

-- the end
pub visible_end : (fs : Fields) (n past : ℕ) (counts : List ℕ) → n ≡ size fs → visible (moves_at 0 fs n past counts) ≡ []
visible_end fs n past counts e = ap (λ v. visible (moves_at 0 fs v past counts)) e ∙ ap visible (end_moves 0 fs past counts)

-- g stands at pc in the whole
last_at : (whole g found : Fields) (pc at : ℕ)
    → ((q x : ℕ) (c : List ℕ) → moves_at 0 whole (pc + q) x c ≡ moves_at 0 g q x c)
    → ((c : List ℕ) → moves_at 0 whole at 0 c ≡ moves found)
    → (c : List ℕ) → moves_at 0 whole (last_place at pc g) 0 c ≡ moves (last_group found g)
last_at whole NoField found pc at here there c = there c
last_at whole (Single n s fs) found pc at here there c =
    last_at whole fs found (suc pc) at (λ q x d. ap (λ v. moves_at 0 whole v x d) (let e : suc pc + q ≡ pc + suc q = omega arith in e) ∙ here (suc q) x d) there c
last_at whole (Group n inside fs) found pc at here there c =
    last_at whole fs (Group n inside fs) (suc (pc + suc (size inside))) pc
    (λ q x d. ap (λ v. moves_at 0 whole v x d) (let e : suc (pc + suc (size inside)) + q ≡ pc + suc (suc (size inside + q)) = omega arith in e)
    ∙ here (suc (suc (size inside + q))) x d ∙ group_behind 0 n inside fs q x d)
    (λ d. ap (λ v. moves_at 0 whole v 0 d) (let e : pc ≡ pc + 0 = omega arith in e) ∙ here 0 0 d) c

-- where control goes back to
pub visible_again : (fs : Fields) (at : ℕ) (counts : List ℕ) → at ≡ last_place 0 0 fs → visible (moves_at 0 fs at 0 counts) ≡ steps (again fs)
visible_again fs at counts e =
    ap (λ v. visible (moves_at 0 fs v 0 counts)) e
    ∙ ap visible (last_at fs fs fs 0 0 (λ q x d. ap (λ v. moves_at 0 fs v x d) (let f : 0 + q ≡ q = omega arith in f)) (λ d. start_moves 0 fs d) counts)
    ∙ visible-moves (again fs)

-- ---- what an Edit does ----

line_empty : (way : Way) (o i : List ℕ) → o ≡ [] → i ≡ [] → line_in way o i ≡ []
line_empty Writing o i eo ei = eo
line_empty Reading o i eo ei = ei

pub start_is : (fs : Fields) (way : Way) (o i counts : List ℕ) → o ≡ [] → i ≡ []
    → hand_of fs (record { way = way; pc = 0; past = 0; counts = counts; line = line_in way o i; mark = Between }) ≡ started way fs
start_is fs way o i counts eo ei =
    ap (λ r. hand_at way r (steps (again fs)) (line_in way o i) Between) (visible_start fs counts)
    ∙ ap (λ l. hand_at way (steps fs) (steps (again fs)) l Between) (line_empty way o i eo ei)

pub none_next : (v l : List Step) (o : Option Step) → o ≡ None → NextIs v o l → v ≡ []
none_next [] l o e h = refl
none_next (s ∷ ss) l o e h = let h2 : NextIs (s ∷ ss) None l = subst (λ u. NextIs (s ∷ ss) u l) e h in absurd h2

pub back_again : (way : Way) (k : Kind) (rest cycle v : List Step) (line : List ℕ) → rest ≡ [] → has_item cycle ≡ true → v ≡ cycle
    → find way cycle k rest line ≡ Ok (RecordDone, hand_at way v cycle line Complete)
back_again way k rest cycle v line e found same =
    ap (λ r. find way cycle k r line) e
    ∙ ap (λ b. if b then Ok (RecordDone, hand_at way cycle cycle line Complete) else Err FormatMismatch) found
    ∙ ap (λ u. Ok (RecordDone, hand_at way u cycle line Complete)) (sym same)

pub closes_writing : (cycle v : List Step) (w : Way) (line : List ℕ) (t : Option Turn) → w ≡ Writing → t ≡ Some RecordDone → v ≡ []
    → ended_turn w cycle line ≡ (t, hand_at w v cycle line Over)
closes_writing cycle v w line t e et ev =
    ap (λ u. ended_turn u cycle line) e
    ∙ ap (λ u. (Some RecordDone, hand_at Writing u cycle line Over)) (sym ev)
    ∙ ap (λ u. (Some RecordDone, hand_at u v cycle line Over)) (sym e)
    ∙ ap (λ u. (u, hand_at w v cycle line Over)) (sym et)

pub closes_reading : (cycle v : List Step) (w : Way) (line : List ℕ) (t : Option Turn) → w ≡ Reading → t ≡ None → v ≡ []
    → ended_turn w cycle line ≡ (t, hand_at w v cycle line Over)
closes_reading cycle v w line t e et ev =
    ap (λ u. ended_turn u cycle line) e
    ∙ ap (λ u. (None, hand_at Reading u cycle line Over)) (sym ev)
    ∙ ap (λ u. (None, hand_at u v cycle line Over)) (sym e)
    ∙ ap (λ u. (u, hand_at w v cycle line Over)) (sym et)
