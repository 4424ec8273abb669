-- What is kept where one statement more is told, or left out.
use Rattle.std.proofs.Common.{◌≡◌, ◌⊎◌, inl, inr, Result, Ok, Err, OnOk, Bool, true, false, true≢false, List, [], ◌∷◌, ◌++◌, refl, sym, ◌∙◌, subst}
use Rattle.std.specs.Prelude.{if◌then◌else◌}
use Rattle.std.specs.List.{Contains}
use Rattle.f66_tree.specs.Syntax.{Text, Line}
use Rattle.f66_tree.specs.Units.{Note, Context, is_note, notes_of}
use Rattle.f66_program.specs.Mentions.{Mention, AVariable, mentions_in}
use Rattle.spared_units.specs.Spared.{mentions_of_lines}
use Rattle.spared_units.proofs.Among.{Among, among, contained, split, before, behind, of_some, in_all}
use Rattle.rat_said.specs.Brief.{IsTelling}

only : {X : Type 0} (x y : X) → Among (x ∷ []) y → x ≡ y
only x y (inl e) = e
only x y (inr h) = absurd h

-- what follows where there is a result
pub where_ok : {A E : Type 0} (r : Result A E) (P Q : Type 0) → (P → Q) → OnOk r P → OnOk r Q
where_ok (Ok x) P Q f h = f h
where_ok (Err e) P Q f h = tt

-- ---- statements that are executed ----

first_executed : (r : Note) (notes : List Note) (v : Bool) → (if v then (r ∷ notes) else notes) ≡ [] → (v ≡ false) × (notes ≡ [])
first_executed r notes true e = absurd (cc)
first_executed r notes false e = (refl, e)

not_first : (r : Note) (notes : List Note) (v : Bool) → v ≡ false → notes ≡ [] → (if v then (r ∷ notes) else notes) ≡ []
not_first r notes true e k = absurd (true≢false e)
not_first r notes false e k = k

executed : (told : List Line) (line : Line) → notes_of told ≡ [] → is_note line.act ≡ false → notes_of (told ++ line ∷ []) ≡ []
executed [] line e plain = not_first (record { label = line.label; act = line.act }) [] (is_note line.act) plain refl
executed (s ∷ told) line e plain =
    let k = first_executed (record { label = s.label; act = s.act }) (notes_of told) (is_note s.act) e in
    not_first (record { label = s.label; act = s.act }) (notes_of (told ++ line ∷ [])) (is_note s.act) k.0 (executed told line k.1 plain)

module _ (c : Context) where
  abbrev In : Line → List Mention
  In s = mentions_in c s.act

  pub told_before : (xs ys : List Line) (m : Mention) → Among (mentions_of_lines c xs) m → Among (mentions_of_lines c (xs ++ ys)) m
  told_before xs ys m k = let s = of_some In xs m k in in_all In (xs ++ ys) s.0 m (before xs ys s.0 s.1) s.2

  told_last : (xs : List Line) (line : Line) (m : Mention) → Among (In line) m → Among (mentions_of_lines c (xs ++ line ∷ [])) m
  told_last xs line m k = in_all In (xs ++ line ∷ []) line m (behind xs (line ∷ []) line (inl refl)) k

  told_or_last : (xs : List Line) (line : Line) (m : Mention) → Among (mentions_of_lines c (xs ++ line ∷ [])) m → Among (mentions_of_lines c xs) m ⊎ Among (In line) m
  told_or_last xs line m k =
      let s = of_some In (xs ++ line ∷ []) m k in
      elim (split xs (line ∷ []) s.0 s.1) [
        | inl a ↦ inl (in_all In xs s.0 m a s.2)
        | inr b ↦ inr (subst (λ t. Among (In t) m) (sym (only line s.0 b)) s.2)
      ]

  -- ---- where nothing is told ----

  pub none_told : (seen : Text → Bool) → ((x : Text) → seen x ≡ false) → IsTelling c [] [] seen
  none_told seen none = record {
    brief = record { executed = refl; heard = λ m i. i; mentioned = λ s m at e i. absurd (among [] s at) };
    seen_there = λ x e. absurd (true≢false (sym e ∙ none x));
  }

  module _ (said told : List Line) (seen : Text → Bool) (t : IsTelling c said told seen) (line : Line) where
    -- a statement is left out that is not executed, or mentions nothing more
    pub left_out : ((m : Mention) → is_note line.act ≡ false → Among (In line) m → Among (mentions_of_lines c told) m) → IsTelling c (said ++ line ∷ []) told seen
    left_out f = record {
      brief = record {
        executed = t.brief.executed;
        heard = λ m i. contained (mentions_of_lines c (said ++ line ∷ [])) m (told_before said (line ∷ []) m (among (mentions_of_lines c said) m (t.brief.heard m i)));
        mentioned = mentioned;
      };
      seen_there = t.seen_there;
    }
      where
        mentioned : (s : Line) (m : Mention) → Contains (said ++ line ∷ []) s → is_note s.act ≡ false → Contains (In s) m → Contains (mentions_of_lines c told) m
        mentioned s m at e i = elim (split said (line ∷ []) s (among (said ++ line ∷ []) s at)) [
          | inl a ↦ t.brief.mentioned s m (contained said s a) e i
          | inr b ↦
              let same = sym (only line s b) in
              contained (mentions_of_lines c told) m (f m (subst (λ l. is_note l.act ≡ false) same e) (subst (λ l. Among (In l) m) same (among (In s) m i)))
        ]

    -- one is told that is executed, and its variables may be seen from then on
    pub told_too : (later : Text → Bool) → is_note line.act ≡ false → ((x : Text) → later x ≡ true → (seen x ≡ true) ⊎ Among (In line) (AVariable x)) → IsTelling c (said ++ line ∷ []) (told ++ line ∷ []) later
    told_too later plain f = record {
      brief = record { executed = executed told line t.brief.executed plain; heard = heard; mentioned = mentioned };
      seen_there = there;
    }
      where
        heard : (m : Mention) → Contains (mentions_of_lines c (told ++ line ∷ [])) m → Contains (mentions_of_lines c (said ++ line ∷ [])) m
        heard m i = elim (told_or_last told line m (among (mentions_of_lines c (told ++ line ∷ [])) m i)) [
          | inl a ↦ contained (mentions_of_lines c (said ++ line ∷ [])) m (told_before said (line ∷ []) m (among (mentions_of_lines c said) m (t.brief.heard m (contained (mentions_of_lines c told) m a))))
          | inr b ↦ contained (mentions_of_lines c (said ++ line ∷ [])) m (told_last said line m b)
        ]

        earlier : (m : Mention) → Contains (mentions_of_lines c told) m → Contains (mentions_of_lines c (told ++ line ∷ [])) m
        earlier m i = contained (mentions_of_lines c (told ++ line ∷ [])) m (told_before told (line ∷ []) m (among (mentions_of_lines c told) m i))

        mentioned : (s : Line) (m : Mention) → Contains (said ++ line ∷ []) s → is_note s.act ≡ false → Contains (In s) m → Contains (mentions_of_lines c (told ++ line ∷ [])) m
        mentioned s m at e i = elim (split said (line ∷ []) s (among (said ++ line ∷ []) s at)) [
          | inl a ↦ earlier m (t.brief.mentioned s m (contained said s a) e i)
          | inr b ↦ contained (mentions_of_lines c (told ++ line ∷ [])) m (told_last told line m (subst (λ l. Among (In l) m) (sym (only line s b)) (among (In s) m i)))
        ]

        there : (x : Text) → later x ≡ true → Contains (mentions_of_lines c (told ++ line ∷ [])) (AVariable x)
        there x e = elim (f x e) [
          | inl old ↦ earlier (AVariable x) (t.seen_there x old)
          | inr here ↦ contained (mentions_of_lines c (told ++ line ∷ [])) (AVariable x) (told_last told line (AVariable x) here)
        ]
