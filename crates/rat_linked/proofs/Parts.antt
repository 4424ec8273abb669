-- What holds of all that parts say.
use Rattle.std.proofs.Common.{◌≡◌, inl, inr, ℕ, List, [], ◌∷◌, ◌++◌, map, Option, None, Some, refl, sym, ap, subst}
use Rattle.std.specs.List.{AllByRecursion}
use Rattle.ground.specs.declared.place.Place.{Place}
use Rattle.f66_tree.specs.Syntax.{Header, Act, Line}
use Rattle.f66_tree.specs.Units.{Context}
use Rattle.f66_program.specs.Mentions.{Mention, mentions_in}
use Rattle.rat_check.specs.Parts.{Labels, Part, with_mark}
use Rattle.rat_check.specs.Said.{said_by}
use Rattle.rat_said.specs.Said.{or_continue, said_line, part_lines, said_lines}
use Rattle.spared_units.specs.Spared.{mentions_of_lines}
use Rattle.spared_units.proofs.Among.{Among, of_some, in_all}

-- ---- all elements ----

module _ {X : Type 0} (P : X → Type 0) where
  pub halves : (xs ys : List X) → AllByRecursion P (xs ++ ys) → AllByRecursion P xs × AllByRecursion P ys
  halves [] ys h = (tt, h)
  halves (x ∷ xs) ys h = let k = halves xs ys h.1 in ((h.0, k.0), k.1)

  pub whole : (xs ys : List X) → AllByRecursion P xs → AllByRecursion P ys → AllByRecursion P (xs ++ ys)
  whole [] ys h k = k
  whole (x ∷ xs) ys h k = (h.0, whole xs ys h.1 k)

  pub every : (xs : List X) → ((x : X) → Among xs x → P x) → AllByRecursion P xs
  every [] f = tt
  every (x ∷ xs) f = (f x (inl refl), every xs (λ y k. f y (inr k)))

  pub one_of : (xs : List X) (x : X) → AllByRecursion P xs → Among xs x → P x
  one_of [] x h k = absurd k
  one_of (y ∷ xs) x h (inl e) = rw (sym e) h.0
  one_of (y ∷ xs) x h (inr k) = one_of xs x h.1 k

-- ---- parts behind a label ----

pub unmarked : (P : Part → Type 0) (k : ℕ) (r : Labels) (l : Option ℕ) (p : Place) (vs : List Part) → AllByRecursion P (with_mark k r l p vs) → AllByRecursion P vs
unmarked P k r None p vs h = h
unmarked P k r (Some l) p vs h = h.1

-- ---- the lines of parts ----

mapped : (v : Part) (acts : List Act) (a : Act) → Among acts a → Among (map (said_line v) acts) (said_line v a)
mapped v [] a k = absurd k
mapped v (b ∷ acts) a (inl e) = inl (ap (said_line v) e)
mapped v (b ∷ acts) a (inr k) = inr (mapped v acts a k)

unmapped : (v : Part) (acts : List Act) (s : Line) → Among (map (said_line v) acts) s → (a : Act) × Among acts a × (said_line v a ≡ s)
unmapped v [] s k = absurd k
unmapped v (b ∷ acts) s (inl e) = (b, inl refl, e)
unmapped v (b ∷ acts) s (inr k) = let h = unmapped v acts s k in (h.0, inr h.1, h.2)

continued : (acts : List Act) (a : Act) → Among acts a → Among (or_continue acts) a
continued [] a k = absurd k
continued (b ∷ acts) a k = k

module _ (h : Header) (c : Context) where
  -- what a part mentions is mentioned in the lines of all parts
  pub in_lines : (vs : List Part) (v : Part) (a : Act) (m : Mention) → Among vs v → Among (said_by h v.form) a → Among (mentions_in c a) m → Among (mentions_of_lines c (said_lines h vs)) m
  in_lines vs v a m i j k =
      in_all (λ s. mentions_in c s.act) (said_lines h vs) (said_line v a) m (in_all (part_lines h) vs v (said_line v a) i (mapped v (or_continue (said_by h v.form)) a (continued (said_by h v.form) a j))) k

  not_continued : (acts : List Act) (a : Act) (m : Mention) → Among (or_continue acts) a → Among (mentions_in c a) m → Among acts a
  not_continued [] a m (inl e) k = subst (λ b. Among (mentions_in c b) m) (sym e) k
  not_continued [] a m (inr i) k = i
  not_continued (b ∷ acts) a m i k = i

  -- and what these mention, a part does
  pub of_lines : (vs : List Part) (m : Mention) → Among (mentions_of_lines c (said_lines h vs)) m → (v : Part) × Among vs v × ((a : Act) × Among (said_by h v.form) a × Among (mentions_in c a) m)
  of_lines vs m i =
      let s = of_some (λ s. mentions_in c s.act) (said_lines h vs) m i in
      let v = of_some (part_lines h) vs s.0 s.1 in
      let a = unmapped v.0 (or_continue (said_by h v.0.form)) s.0 v.2 in
      let k = subst (λ t. Among (mentions_in c t.act) m) (sym a.2) s.2 in
      (v.0, v.1, (a.0, not_continued (said_by h v.0.form) a.0 m a.1 k, k))
