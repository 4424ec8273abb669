-- A unit of the declarations of another, and of statements that tell what it says, says the same.
use Rattle.std.proofs.Common.{◌≡◌, inl, inr, Bool, true, false, true≢false, List, [], ◌∷◌, ◌++◌, None, refl, sym, ap, ◌∙◌, subst}
use Rattle.std.specs.Prelude.{cond, if◌then◌else◌}
use Rattle.std.specs.List.{Contains, filter}
use Rattle.f66_tree.specs.Syntax.{Line, Routine}
use Rattle.f66_tree.specs.Units.{Context, is_note, notes_of}
use Rattle.f66_program.specs.Mentions.{Mention, context_of, mentions_in}
use Rattle.spared_units.specs.Spared.{mentions_of_lines, Spared}
use Rattle.spared_units.proofs.Among.{Among, among, contained, split, before, behind, of_some, in_all}
use Rattle.rat_said.specs.Brief.{IsTold, declared_lines, declared_routine}

-- ---- what a test leaves of a list ----

module _ {X : Type 0} (test : X → Bool) where
  of_left : (xs : List X) (x : X) → Among (filter test xs) x → Among xs x
  of_left [] x k = absurd k
  of_left (y ∷ xs) x k = by_answer (test y) k (of_left xs x)
    where
      by_answer : (v : Bool) → Among (cond v (y ∷ filter test xs) (filter test xs)) x → (Among (filter test xs) x → Among xs x) → Among (y ∷ xs) x
      by_answer true (inl e) behind = inl e
      by_answer true (inr h) behind = inr (behind h)
      by_answer false h behind = inr (behind h)

  left : (xs : List X) (x : X) → Among xs x → test x ≡ true → Among (filter test xs) x
  left [] x k e = absurd k
  left (y ∷ xs) x (inl same) e = by_answer (test y) (ap test same ∙ e)
    where
      by_answer : (v : Bool) → v ≡ true → Among (cond v (y ∷ filter test xs) (filter test xs)) x
      by_answer true h = inl same
      by_answer false h = absurd (true≢false (sym h))
  left (y ∷ xs) x (inr k) e = by_answer (test y) (left xs x k e)
    where
      by_answer : (v : Bool) → Among (filter test xs) x → Among (cond v (y ∷ filter test xs) (filter test xs)) x
      by_answer true h = inr h
      by_answer false h = h

-- ---- declarations ----

notes_declared : (lines : List Line) → notes_of (declared_lines lines) ≡ notes_of lines
notes_declared [] = refl
notes_declared (s ∷ lines) = by_answer (is_note s.act) refl (notes_declared lines)
  where
    by_answer : (v : Bool) → is_note s.act ≡ v → notes_of (declared_lines lines) ≡ notes_of lines →
        notes_of (cond v (s ∷ declared_lines lines) (declared_lines lines)) ≡ (if v then (record { label = s.label; act = s.act } ∷ notes_of lines) else notes_of lines)
    by_answer true e behind =
        ap (λ b. if b then (record { label = s.label; act = s.act } ∷ notes_of (declared_lines lines)) else notes_of (declared_lines lines)) e
        ∙ ap (λ ns. record { label = s.label; act = s.act } ∷ ns) behind
    by_answer false e behind = behind

notes_before : (xs told : List Line) → notes_of told ≡ [] → notes_of (xs ++ told) ≡ notes_of xs
notes_before [] told e = e
notes_before (s ∷ xs) told e = ap (λ ns. if is_note s.act then (record { label = s.label; act = s.act } ∷ ns) else ns) (notes_before xs told e)

-- ---- the unit ----

module _ (s : Routine) (told : List Line) (t : IsTold (context_of (declared_routine s)) s.lines told) where
  abbrev brief : Routine
  brief = record { header = s.header; lines = declared_lines s.lines ++ told; place = s.place }

  abbrev c : Context
  c = context_of (declared_routine s)

  same_context : context_of brief ≡ c
  same_context = ap (λ ns. record { header = s.header; notes = ns }) (notes_before (declared_lines s.lines) told t.executed)

  abbrev In : Line → List Mention
  In l = mentions_in c l.act

  -- what it mentions is mentioned there
  of_brief : (m : Mention) → Among (mentions_of_lines c (declared_lines s.lines ++ told)) m → Among (mentions_of_lines c s.lines) m
  of_brief m k =
      let l = of_some In (declared_lines s.lines ++ told) m k in
      elim (split (declared_lines s.lines) told l.0 l.1) [
        | inl a ↦ in_all In s.lines l.0 m (of_left (λ l. is_note l.act) s.lines l.0 a) l.2
        | inr b ↦ among (mentions_of_lines c s.lines) m (t.heard m (contained (mentions_of_lines c told) m (in_all In told l.0 m b l.2)))
      ]

  -- and what is mentioned there it mentions
  to_brief : (m : Mention) → Among (mentions_of_lines c s.lines) m → Among (mentions_of_lines c (declared_lines s.lines ++ told)) m
  to_brief m k = by_answer (is_note l.0.act) refl
    where
      l : (l : Line) × Among s.lines l × Among (In l) m
      l = of_some In s.lines m k

      in_told : (n : Line) × Among told n × Among (In n) m → Among (mentions_of_lines c (declared_lines s.lines ++ told)) m
      in_told n = in_all In (declared_lines s.lines ++ told) n.0 m (behind (declared_lines s.lines) told n.0 n.1) n.2

      by_answer : (v : Bool) → is_note l.0.act ≡ v → Among (mentions_of_lines c (declared_lines s.lines ++ told)) m
      by_answer true e = in_all In (declared_lines s.lines ++ told) l.0 m (before (declared_lines s.lines) told l.0 (left (λ l. is_note l.act) s.lines l.0 l.1 e)) l.2
      by_answer false e = in_told (of_some In told m (among (mentions_of_lines c told) m (t.mentioned l.0 m (contained s.lines l.0 l.1) e (contained (In l.0) m l.2))))

  pub says_the_same : Spared None s brief
  says_the_same = record {
    header = refl;
    notes = notes_before (declared_lines s.lines) told t.executed ∙ notes_declared s.lines;
    heard = λ m i. inr (there s.lines m (contained (mentions_of_lines c s.lines) m (of_brief m (among (mentions_of_lines c (declared_lines s.lines ++ told)) m (here (declared_lines s.lines ++ told) m i)))));
    told = λ m i. there (declared_lines s.lines ++ told) m (contained (mentions_of_lines c (declared_lines s.lines ++ told)) m (to_brief m (among (mentions_of_lines c s.lines) m (here s.lines m i))));
    lacks = tt;
  }
    where
      here : (lines : List Line) (m : Mention) → Contains (mentions_of_lines (context_of brief) lines) m → Contains (mentions_of_lines c lines) m
      here lines m i = subst (λ d. Contains (mentions_of_lines d lines) m) same_context i

      there : (lines : List Line) (m : Mention) → Contains (mentions_of_lines c lines) m → Contains (mentions_of_lines (context_of brief) lines) m
      there lines m i = subst (λ d. Contains (mentions_of_lines d lines) m) (sym same_context) i

-- the unit as it is put together
pub put_together : (s d : Routine) (lines told : List Line) → d ≡ declared_routine s → IsTold (context_of d) s.lines told → lines ≡ d.lines ++ told →
    Spared None s (record { header = d.header; lines = lines; place = d.place })
put_together s d lines told e t split = subst (Spared None s) (sym same) (says_the_same s told (subst (λ r. IsTold (context_of r) s.lines told) e t))
  where
    same : record { header = d.header; lines = lines; place = d.place } ≡ brief s told (subst (λ r. IsTold (context_of r) s.lines told) e t)
    same = ap (λ ls. record { header = d.header; lines = ls; place = d.place }) split ∙ ap (λ r. record { header = r.header; lines = r.lines ++ told; place = r.place }) e
